-- The literals, instances and closings that are read off are those by own spares: what they stand for stays as the table grows, and each
-- choice adds the closing that the list of choices asks for.
use Rattle.std.proofs.Common.{◌≡◌, ◌+◌, ◌-◌, ◌≤◌, ℕ, zero, suc, List, [], ◌∷◌, ◌++◌, drop, length, map, remove, take, refl, sym, ◌∙◌, ap, ap₂, subst, OnOk, Result, Ok, Err, Some, slice_get, arith, append-nil}
use Rattle.std.specs.List.{AllByRecursion}
use Rattle.std.proofs.lemmas.List.{drop-map, length-map, map-append, take-map, take_all}
use Rattle.plain_laws.proofs.Every.{each-append}
use Rattle.plain_laws.proofs.Places.{drop-there}
use Rattle.tableau_core.proofs.Numbered.ClosingLaws.{closings-in}
use Rattle.calculus.specs.Choices.{GroundChoice, extension, reduction}
use Rattle.calculus.specs.Ground as tree
use Rattle.calculus.specs.Instances as instances
use Rattle.calculus.specs.Lists.{closings_tree, g_terms_tree}
use Rattle.calculus.specs.Tableaux as tableaux
use Rattle.formula_core.specs.GroundLists.{GroundList, IsGrown, the_values}
use Rattle.formula_core.proofs.GrownLaws.{marks-grown, terms-grown, values-grown}
use Rattle.store_theory.specs.Stores.{Solution}
use Rattle.store_theory.specs.Systems.{CellAtom}
use Rattle.search_theory.specs.Joined.{IsTableauBy, closings_by}
use Rattle.search_theory.specs.Matrix.{MatrixClause}
use Rattle.search_theory.specs.OrderedChoices.{selection_of}
use Rattle.search_theory.specs.States.{choice_at, clause_at, literal_by, values_by}
use Rattle.search_theory.proofs.StageLaws.{inserted-removed}
use Rattle.tableau_core.specs.Numbered.ClosingView.{closing_in, closings_in}
use Rattle.tableau_core.specs.Numbered.Closings as numbered
use Rattle.tableau_core.specs.Numbered.InstanceView.{the_instance}
use Rattle.tableau_core.specs.Numbered.LiteralView.{the_literal}
use Rattle.tableau_core.specs.Numbered.TableauView.{the_tableau}
use Rattle.tableau_core.specs.declared.closing.Closing.{Closing}
use Rattle.tableau_core.specs.declared.instance.ClauseInstance.{ClauseInstance}
use Rattle.tableau_core.specs.declared.literal.GroundLiteral.{GroundLiteral}
use Rattle.tableau_core.specs.declared.tableau.Tableau.{Tableau}
use Rattle.term_store.specs.RefView.{the_places}
use Rattle.tableau_reading.specs.Reading.{AreClosingsOf, AreLiteralsOf, AreNormalClosings, AreValuesOf, IsInstanceOf, IsLiteralOf, IsNormalClosing, IsNormalInstance, IsNormalLiteral, IsStartedBy, stacked}
use Rattle.search_tree.specs.Trees.{clause_with, inserted, the_step}
use Rattle.search_tree.specs.declared.tree.Copied.{Copied}
use Rattle.search_tree.specs.declared.tree.Step.{Step}
use Rattle.search_tree.proofs.Places.{take-next}

-- ---- tables that grow

module _ (a b : List GroundList) (g : IsGrown a b) where
  literal-grown : (x : GroundLiteral) → IsNormalLiteral a x → IsNormalLiteral b x × (the_literal b x ≡ the_literal a x)
  literal-grown x (args, label) =
      let t = terms-grown a b g x.args args in
      let w = marks-grown a b g x.label label in
      ((λ e. args (sym t ∙ e), λ e. label (sym w ∙ e)), λ i. record { sign = x.sign; symbol = x.symbol.0; args = g_terms_tree (t i); label = w i })

  all-literals-grown : (xs : List GroundLiteral) → AllByRecursion (IsNormalLiteral a) xs → AllByRecursion (IsNormalLiteral b) xs × (map (the_literal b) xs ≡ map (the_literal a) xs)
  all-literals-grown [] n = (tt, refl)
  all-literals-grown (x ∷ xs) n =
      let one = literal-grown x n.0 in
      let more = all-literals-grown xs n.1 in
      ((one.0, more.0), ap₂ (λ (y : tree.GroundLiteral) ys. y ∷ ys) one.1 more.1)

  instance-grown : (i : ClauseInstance) → IsNormalInstance a i → IsNormalInstance b i × (the_instance b i ≡ the_instance a i)
  instance-grown i (values, literals) =
      let v = values-grown a b g i.values values in
      let more = all-literals-grown i.literals literals in
      ((λ e. values (sym v ∙ e), more.0), λ k. record { selection = i.selection; values = v k; literals = more.1 k })

  mutual
    closing-grown : (c : numbered.Closing) → IsNormalClosing a c → IsNormalClosing b c × (closing_in b c ≡ closing_in a c)
    closing-grown (numbered.reduce up) n = (tt, refl)
    closing-grown (numbered.extend i place below) n =
        let one = instance-grown i n.0 in
        let more = closings-below-grown below n.1 in
        ((one.0, more.0), ap₂ (λ j cs. tableaux.extend j place cs) one.1 more.1)

    closings-below-grown : (cs : numbered.Closings) → AreNormalClosings a cs → AreNormalClosings b cs × (closings_in b cs ≡ closings_in a cs)
    closings-below-grown numbered.no_closings n = (tt, refl)
    closings-below-grown (numbered.more_closings c cs) n =
        let one = closing-grown c n.0 in
        let more = closings-below-grown cs n.1 in
        ((one.0, more.0), ap₂ (λ d ds. tableaux.more_closings d ds) one.1 more.1)

  all-closings-grown : (cs : List numbered.Closing) → AllByRecursion (IsNormalClosing a) cs → AllByRecursion (IsNormalClosing b) cs × (map (closing_in b) cs ≡ map (closing_in a) cs)
  all-closings-grown [] n = (tt, refl)
  all-closings-grown (c ∷ cs) n =
      let one = closing-grown c n.0 in
      let more = all-closings-grown cs n.1 in
      ((one.0, more.0), ap₂ (λ (d : tableaux.Closing) ds. d ∷ ds) one.1 more.1)

  pub literals-grown : (xs : List GroundLiteral) (ys : List tree.GroundLiteral) → AreLiteralsOf a xs ys → AreLiteralsOf b xs ys
  literals-grown xs ys h = let more = all-literals-grown xs h.normal in record { normal = more.0; value = more.1 ∙ h.value }

  pub closings-grown : (cs : List numbered.Closing) (ds : List tableaux.Closing) → AreClosingsOf a cs ds → AreClosingsOf b cs ds
  closings-grown cs ds h = let more = all-closings-grown cs h.normal in record { normal = more.0; value = more.1 ∙ h.value }

-- ---- literals and instances

pub literals-none : (ls : List GroundList) → AreLiteralsOf ls [] []
literals-none ls = record { normal = tt; value = refl }

-- the literals so far and one more
pub literals-push : (ls : List GroundList) (xs : List GroundLiteral) (ys : List tree.GroundLiteral) (x : GroundLiteral) (y : tree.GroundLiteral) → AreLiteralsOf ls xs ys → IsLiteralOf ls x y → AreLiteralsOf ls (xs ++ x ∷ []) (ys ++ y ∷ [])
literals-push ls xs ys x y h l = record {
  normal = each-append (IsNormalLiteral ls) xs (x ∷ []) h.normal ((l.args, l.label), tt);
  value = map-append (the_literal ls) xs (x ∷ []) ∙ ap₂ (λ zs (z : tree.GroundLiteral). zs ++ z ∷ []) h.value l.value;
}

-- the literals of the atoms before a place, and that of the atom there
pub literals-next : (ls : List GroundList) (σ : Solution) (atoms : List CellAtom) (i : ℕ) (atom : CellAtom) (xs : List GroundLiteral) (ys : List tree.GroundLiteral) (x : GroundLiteral) → slice_get atoms i ≡ Some atom → AreLiteralsOf ls xs (ys ++ map (literal_by σ) (take i atoms)) → IsLiteralOf ls x (literal_by σ atom) → AreLiteralsOf ls (xs ++ x ∷ []) (ys ++ map (literal_by σ) (take (i + 1) atoms))
literals-next ls σ atoms i atom xs ys x e h l = subst (AreLiteralsOf ls (xs ++ x ∷ []))
    (joined ys (map (literal_by σ) (take i atoms)) (literal_by σ atom) ∙ ap (λ zs. ys ++ zs) (sym (map-append (literal_by σ) (take i atoms) (atom ∷ [])) ∙ ap (map (literal_by σ)) (sym (take-next atoms i atom e))))
    (literals-push ls xs (ys ++ map (literal_by σ) (take i atoms)) x (literal_by σ atom) h l)
  where
    joined : (us vs : List tree.GroundLiteral) (z : tree.GroundLiteral) → (us ++ vs) ++ z ∷ [] ≡ us ++ (vs ++ z ∷ [])
    joined [] vs z = refl
    joined (u ∷ us) vs z = ap (λ ws. u ∷ ws) (joined us vs z)

pub instance-read : (m : List MatrixClause) (c : Copied) (a b : List GroundList) (σ : Solution) (atoms : List CellAtom) (i : ClauseInstance) → IsGrown a b → i.selection ≡ selection_of (slice_get m c.clause.0) → AreValuesOf b i.values (values_by σ (the_places c.copy.variables)) → AreLiteralsOf a i.literals (map (literal_by σ) atoms) → IsInstanceOf b i (clause_at σ (clause_with m c atoms))
instance-read m c a b σ atoms i g selection values literals =
    let more = literals-grown a b g i.literals (map (literal_by σ) atoms) literals in
    record { normal = (values.normal, more.normal); value = same (clause_at σ (clause_with m c atoms)) selection values.value more.value }
  where
    same : (j : instances.ClauseInstance) → i.selection ≡ j.selection → the_values b i.values ≡ j.values → map (the_literal b) i.literals ≡ j.literals → the_instance b i ≡ j
    same j p q r k = record { selection = p k; values = q k; literals = r k }

-- a literal between the others
around : (σ : Solution) (place : ℕ) (a : CellAtom) (xs : List CellAtom) → (([] ++ map (literal_by σ) (take place xs)) ++ literal_by σ a ∷ []) ++ map (literal_by σ) (drop place xs) ≡ map (literal_by σ) (inserted place a xs)
around σ place a xs = by (take place xs) (drop place xs)
  where
    by : (us vs : List CellAtom) → (map (literal_by σ) us ++ literal_by σ a ∷ []) ++ map (literal_by σ) vs ≡ map (literal_by σ) (us ++ a ∷ vs)
    by [] vs = refl
    by (u ∷ us) vs = ap (λ ys. literal_by σ u ∷ ys) (by us vs)

-- those of the atoms before it, its own, and those of the others
pub connected-read : (ls : List GroundList) (σ : Solution) (place : ℕ) (a : CellAtom) (xs front back : List CellAtom) (literals : List GroundLiteral) → front ≡ take place xs → back ≡ drop place xs → AreLiteralsOf ls literals ((([] ++ map (literal_by σ) front) ++ literal_by σ a ∷ []) ++ map (literal_by σ) back) → AreLiteralsOf ls literals (map (literal_by σ) (inserted place a xs))
connected-read ls σ place a xs front back literals f b h = subst (AreLiteralsOf ls literals)
    (ap₂ (λ us vs. (([] ++ map (literal_by σ) us) ++ literal_by σ a ∷ []) ++ map (literal_by σ) vs) f b ∙ around σ place a xs) h

-- all atoms
pub literals-all : (ls : List GroundList) (σ : Solution) (atoms : List CellAtom) (i : ℕ) (xs : List GroundLiteral) (ys : List tree.GroundLiteral) → length atoms ≤ i → AreLiteralsOf ls xs (ys ++ map (literal_by σ) (take i atoms)) → AreLiteralsOf ls xs (ys ++ map (literal_by σ) atoms)
literals-all ls σ atoms i xs ys l h = subst (λ zs. AreLiteralsOf ls xs (ys ++ map (literal_by σ) zs)) (take_all i atoms l) h

-- ---- closings

pub closings-none : (ls : List GroundList) → AreClosingsOf ls [] (closings_by [])
closings-none ls = record { normal = tt; value = refl }

pub closings-reduce : (ls : List GroundList) (up : ℕ) (cs : List numbered.Closing) (gs : List GroundChoice) → AreClosingsOf ls cs (closings_by gs) → AreClosingsOf ls (numbered.reduce up ∷ cs) (closings_by (reduction up ∷ gs))
closings-reduce ls up cs gs h = record { normal = (tt, h.normal); value = ap (λ ds. tableaux.reduce up ∷ ds) h.value }

all-below : (ls : List GroundList) (cs : List numbered.Closing) → AllByRecursion (IsNormalClosing ls) cs → AreNormalClosings ls (numbered.closings_tree cs)
all-below ls [] h = tt
all-below ls (c ∷ cs) h = (h.0, all-below ls cs h.1)

-- so many closings go below the extension
pub closings-extend : (ls : List GroundList) (i : ClauseInstance) (j : instances.ClauseInstance) (place n : ℕ) (cs front back : List numbered.Closing) (gs : List GroundChoice) → IsInstanceOf ls i j → n ≡ length (remove j.literals place) → front ≡ take n cs → back ≡ drop n cs → AreClosingsOf ls cs (closings_by gs) → AreClosingsOf ls (numbered.extend i place (numbered.closings_tree front) ∷ back) (closings_by (extension j place ∷ gs))
closings-extend ls i j place n cs front back gs inst count f b h =
    let parts = cut n cs h.normal in
    record {
      normal = ((inst.normal, all-below ls front (subst (AllByRecursion (IsNormalClosing ls)) (sym f) parts.0)), subst (AllByRecursion (IsNormalClosing ls)) (sym b) parts.1);
      value = ap₂ (λ (c : tableaux.Closing) ds. c ∷ ds)
          (ap₂ (λ x ds. tableaux.extend x place ds) inst.value (closings-in ls front ∙ ap closings_tree (ap (map (closing_in ls)) f ∙ sym (take-map (closing_in ls) n cs) ∙ ap (take n) h.value ∙ ap (λ k. take k (closings_by gs)) count)))
          (ap (map (closing_in ls)) b ∙ sym (drop-map (closing_in ls) n cs) ∙ ap (drop n) h.value ∙ ap (λ k. drop k (closings_by gs)) count);
    }
  where
    cut : (k : ℕ) (xs : List numbered.Closing) → AllByRecursion (IsNormalClosing ls) xs → AllByRecursion (IsNormalClosing ls) (take k xs) × AllByRecursion (IsNormalClosing ls) (drop k xs)
    cut zero xs a = (tt, a)
    cut (suc k) [] a = (tt, tt)
    cut (suc k) (x ∷ xs) a = let more = cut k xs a.1 in ((a.0, more.0), more.1)

-- an extension's clause has one literal more than goals
pub others-count : (σ : Solution) (place : ℕ) (a : CellAtom) (xs : List CellAtom) → place ≤ length xs → length xs ≡ length (remove (map (literal_by σ) (inserted place a xs)) place)
others-count σ place a xs l =
    ap length (sym (inserted-removed place a xs l))
    ∙ sym (length-map (remove (inserted place a xs) place) (literal_by σ))
    ∙ ap length (removed (inserted place a xs) place)
  where
    removed : (ys : List CellAtom) (k : ℕ) → map (literal_by σ) (remove ys k) ≡ remove (map (literal_by σ) ys) k
    removed [] zero = refl
    removed [] (suc k) = refl
    removed (y ∷ ys) zero = refl
    removed (y ∷ ys) (suc k) = ap (λ zs. literal_by σ y ∷ zs) (removed ys k)

-- ---- the stack

-- a closing is taken from the stack
pub taken-next : (n : ℕ) (xs cs rest : List numbered.Closing) (c : numbered.Closing) → cs ≡ take n xs → c ∷ rest ≡ drop n xs → (cs ++ c ∷ [] ≡ take (n + 1) xs) × (rest ≡ drop (n + 1) xs)
taken-next n xs cs rest c e f =
    let more : suc n ≡ n + 1 = omega arith in
    let parts = by n xs f in
    (ap (λ ys. ys ++ c ∷ []) e ∙ parts.0 ∙ ap (λ k. take k xs) more, parts.1 ∙ ap (λ k. drop k xs) more)
  where
    by : (k : ℕ) (ys : List numbered.Closing) → c ∷ rest ≡ drop k ys → (take k ys ++ c ∷ [] ≡ take (suc k) ys) × (rest ≡ drop (suc k) ys)
    by zero [] q = cc q
    by zero (y ∷ ys) q =
        let same : c ≡ y = cc q in
        let others : rest ≡ ys = cc q in
        (ap (λ z. z ∷ []) same, others)
    by (suc k) [] q = cc q
    by (suc k) (y ∷ ys) q = let more = by k ys q in (ap (λ zs. y ∷ zs) more.0, more.1)

-- ---- the steps behind a step

-- by a solution the closings on the stack are those of the steps from k on, where so many were read, and of what was there before
abbrev pub AreBuiltBehind : List MatrixClause → List Step → ℕ → List GroundList → List GroundList → List Closing → List Closing → Solution → Type 0
AreBuiltBehind m steps passed before now old new σ = (k : ℕ) → k + passed ≡ length steps → (gs : List GroundChoice) → AreClosingsOf before (stacked old) (closings_by gs) → AreClosingsOf now (stacked new) (closings_by (map (choice_at σ) (map (the_step m) (drop k steps)) ++ gs))

pub built-none : (m : List MatrixClause) (steps : List Step) (ls : List GroundList) (items : List Closing) (σ : Solution) → AreBuiltBehind m steps 0 ls ls items items σ
built-none m steps ls items σ k e gs h = subst (λ xs. AreClosingsOf ls (stacked items) (closings_by (map (choice_at σ) (map (the_step m) xs) ++ gs))) (sym (drop-all steps k (omega (arith, e)))) h
  where
    drop-all : (xs : List Step) (n : ℕ) → n ≡ length xs → drop n xs ≡ []
    drop-all [] zero l = refl
    drop-all [] (suc n) l = absurd (omega (arith, l))
    drop-all (x ∷ xs) zero l = absurd (omega (arith, l))
    drop-all (x ∷ xs) (suc n) l = drop-all xs n (omega (arith, l))

pub built-next : (m : List MatrixClause) (steps : List Step) (passed k : ℕ) (step : Step) (a b c : List GroundList) (first old new : List Closing) (σ : Solution) → slice_get steps k ≡ Some step → k + (passed + 1) ≡ length steps → AreBuiltBehind m steps passed a b first old σ → ((gs : List GroundChoice) → AreClosingsOf b (stacked old) (closings_by gs) → AreClosingsOf c (stacked new) (closings_by (choice_at σ (the_step m step) ∷ gs))) → AreBuiltBehind m steps (passed + 1) a c first new σ
built-next m steps passed k step a b c first old new σ at e h next j f gs start_closings =
    let same : k ≡ j = omega (arith, e, f) in
    let before = h (suc k) (omega (arith, e)) gs start_closings in
    subst (λ n. AreClosingsOf c (stacked new) (closings_by (map (choice_at σ) (map (the_step m) (drop n steps)) ++ gs))) same
    (subst (λ xs. AreClosingsOf c (stacked new) (closings_by (map (choice_at σ) (map (the_step m) xs) ++ gs))) (sym (drop-there steps k step at))
    (next (map (choice_at σ) (map (the_step m) (drop (suc k) steps)) ++ gs) before))

pub built-all : (m : List MatrixClause) (steps : List Step) (passed : ℕ) (a b : List GroundList) (first now : List Closing) (σ : Solution) → length steps ≤ passed → passed ≤ length steps → AreBuiltBehind m steps passed a b first now σ → (gs : List GroundChoice) → AreClosingsOf a (stacked first) (closings_by gs) → AreClosingsOf b (stacked now) (closings_by (map (choice_at σ) (map (the_step m) steps) ++ gs))
built-all m steps passed a b first now σ l k h gs start_closings = h 0 (omega (arith, l, k)) gs start_closings

-- ---- the tableau

-- its start is that of the first step, and its goals are closed by the others
pub whole-built : (m : List MatrixClause) (steps others : List Step) (c : Copied) (t : Tableau) (a : List GroundList) (σ : Solution) (before after : List Closing) (count : ℕ) → IsStartedBy steps c others → IsInstanceOf t.table t.start (clause_at σ (clause_with m c c.copy.literals)) → IsGrown a t.table → AreClosingsOf a (stacked before) (closings_by (map (choice_at σ) (map (the_step m) others) ++ [])) → stacked before ≡ t.goals ++ stacked after → length after ≤ length before - count → count ≡ length before → IsTableauBy (map (choice_at σ) (map (the_step m) steps)) (the_tableau t)
whole-built m steps others c t a σ before after count e inst g closed taken fewer all_taken =
    let are_all : stacked before ≡ t.goals = taken ∙ ap (λ xs. t.goals ++ stacked xs) (nothing after (omega (arith, fewer, all_taken))) ∙ append-nil t.goals in
    let closed_goals = closings-grown a t.table g (stacked before) (closings_by (map (choice_at σ) (map (the_step m) others) ++ [])) closed in
    let goals : map (closing_in t.table) t.goals ≡ closings_by (map (choice_at σ) (map (the_step m) others)) = ap (map (closing_in t.table)) (sym are_all) ∙ closed_goals.value ∙ ap closings_by (append-nil (map (choice_at σ) (map (the_step m) others))) in
    subst (λ ss. IsTableauBy (map (choice_at σ) (map (the_step m) ss)) (the_tableau t)) (sym e) (λ k. record { start = inst.value k; goals = closings_tree (goals k) })
  where
    nothing : (xs : List Closing) → length xs ≤ 0 → xs ≡ []
    nothing [] l = refl
    nothing (x ∷ xs) l = absurd (omega (arith, l))

-- ---- results

pub on-weaker : {A E : Type 0} (r : Result A E) (P Q : Type 0) → (P → Q) → OnOk r P → OnOk r Q
on-weaker (Ok x) P Q f h = f h
on-weaker (Err e) P Q f h = tt
