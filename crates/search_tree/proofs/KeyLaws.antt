-- Keys of goals: a key spells one list of literals for each choice of values, and reading a goal gives a key that spells it.
use Rattle.std.proofs.Common.{◌≡◌, ◌≢◌, ◌⊎◌, ◌+◌, ◌<◌, ◌≤◌, ◌++◌, ℕ, zero, suc, List, [], ◌∷◌, drop, length, map, IsTrue, refl, sym, ◌∙◌, ap, ap₂, subst, Option, None, Some, slice_get, inl, inr, arith, append_assoc, append-nil, ltb-true, nat_lt}
use Rattle.std.specs.List.{AllByRecursion, list_all}
use Rattle.std.proofs.lemmas.Bool.{and_parts, cases_eq}
use Rattle.std.proofs.lemmas.List.{length-append, length-map, map-append}
use Rattle.std.proofs.lemmas.Option.{slice_get_within}
use Rattle.plain_laws.proofs.Every.{all-at}
use Rattle.plain_laws.proofs.Options.{same-some}
use Rattle.plain_laws.proofs.Places.{drop-end, drop-there, get-front}
use Rattle.calculus.specs.Ground.{GroundLiteral, GroundTerm, GroundTerms, Values, g_eigen, g_fun, more_g_terms, values_tree}
use Rattle.calculus.specs.Syntax.{Problem}
use Rattle.calculus.specs.declared.sort.Sort.{Sort}
use Rattle.calculus.specs.declared.sort.Sort.TheVariants.{TermSort}
use Rattle.cop_base.specs.declared.PosId.{PosId}
use Rattle.cop_base.specs.declared.SymbolId.{SymbolId}
use Rattle.search_theory.proofs.AtomLaws.{terms_at-by, values_at-by}
use Rattle.search_theory.specs.CellsIn.{IsAtomIn, IsGoalIn}
use Rattle.search_theory.specs.Exploring.{IsIn}
use Rattle.search_theory.specs.States.{CellGoal, atom_is_below, goal_is_below, label_by, literal_by, terms_by, values_by}
use Rattle.store_theory.specs.Bindings.{IsWellFormed}
use Rattle.store_theory.specs.Stores.{Cell, CellValue, EndsAt, Solution, Solves, Store, a_term, eigen_cell, fun_cell, goes_on, names_below, parts_of, stays, variable}
use Rattle.store_theory.specs.Systems.{CellAtom}
use Rattle.store_theory.specs.Templates.{as_term, as_value}
use Rattle.store_theory.proofs.BindingLaws.{kept, parts-within}
use Rattle.store_theory.proofs.SolutionLaws.{ends-same}
use Rattle.term_store.specs.RefView.{the_place}
use Rattle.term_store.specs.Shown.{Shows}
use Rattle.term_store.specs.declared.cell.Content.{Content}
use Rattle.term_store.specs.declared.cell.Content.TheVariants.{Eigen, Fun, Open}
use Rattle.term_store.specs.declared.cell.Ref.{Ref}
use Rattle.search_tree.specs.GoalKeys.{AreFrom, AreVariables, Follows, IsAdded, IsKeyOf, IsNumbered, IsReading, IsReadingAt, Spells, literal_of, terms_of, values_of, variables_in, waiting_in}
use Rattle.search_tree.specs.Looking.{AreBelow}
use Rattle.search_tree.specs.OwnStores.{AreOwn}
use Rattle.search_tree.specs.Trees.{IsGoalAt, IsPath, atom_at}
use Rattle.search_tree.specs.declared.goal_key.GoalKey.{GoalKey}
use Rattle.search_tree.specs.declared.goal_key.KeyPart.{KeyPart}
use Rattle.search_tree.specs.declared.goal_key.KeyPart.TheVariants.{Eigenvariable, Function, Literal, Variable}
use Rattle.search_tree.specs.declared.tree.Goal.{Goal}
use Rattle.search_tree.specs.declared.tree.Step.{Step}
use Rattle.search_tree.proofs.LookingLaws.{below-nothing, in-back, in-either, in-front, waiting-popped}
use Rattle.search_tree.proofs.SeenLaws.{depth-passed}
use Rattle.search_tree.proofs.TreeLaws.{AncestorAt, ancestor-on, atom-found}

-- ---- lists

-- lists that end in lists of one length
split-end : {A : Type 0} (xs us ys vs : List A) → xs ++ ys ≡ us ++ vs → length ys ≡ length vs → (xs ≡ us) × (ys ≡ vs)
split-end [] [] ys vs e l = (refl, e)
split-end [] (u ∷ us) ys vs e l = let n : length ys ≡ suc (length (us ++ vs)) = ap length e in let m = length-append us vs in absurd (omega (arith, n, m, l))
split-end (x ∷ xs) [] ys vs e l = let n : suc (length (xs ++ ys)) ≡ length vs = ap length e in let m = length-append xs ys in absurd (omega (arith, n, m, l))
split-end (x ∷ xs) (u ∷ us) ys vs e l =
    let q : x ≡ u = cc e in
    let r : xs ++ ys ≡ us ++ vs = cc e in
    let h = split-end xs us ys vs r l in
    (ap₂ (λ a b. a ∷ b) q h.0, h.1)

-- where an item stands in a list with one item more
one-more : (xs : List ℕ) (v j w : ℕ) → slice_get (xs ++ v ∷ []) j ≡ Some w → (slice_get xs j ≡ Some w) ⊎ ((w ≡ v) × (j ≡ length xs))
one-more [] v zero w e = inr ((let z : Some v ≡ Some w = e in sym (cc z)), refl)
one-more [] v (suc j) w e = let z : None ≡ Some w = e in absurd (cc z)
one-more (x ∷ xs) v zero w e = inl e
one-more (x ∷ xs) v (suc j) w e = elim (one-more xs v j w e) [
  | inl h ↦ inl h
  | inr h ↦ inr (h.0, ap suc h.1)
]

-- ---- a key spells one list of values and literals

pub spells-once : (f : ℕ → GroundTerm) (key : List KeyPart) (vs us : List CellValue) (ls ks : List GroundLiteral) → Spells f key vs ls → Spells f key us ks → (vs ≡ us) × (ls ≡ ks)
spells-once f [] vs us ls ks a b = (a.0 ∙ sym b.0, a.1 ∙ sym b.1)
spells-once f (Variable i ∷ key) vs us ls ks (xs, e, h) (ys, q, k) =
    let r = spells-once f key xs ys ls ks h k in
    (e ∙ ap (λ zs. zs ++ a_term (f i) ∷ []) r.0 ∙ sym q, r.1)
spells-once f (Function g n ∷ key) vs us ls ks (xs, ps, l, e, h) (ys, qs, m, q, k) =
    let r = spells-once f key (xs ++ ps) (ys ++ qs) ls ks h k in
    let p = split-end xs ys ps qs r.0 (l ∙ sym m) in
    (e ∙ ap₂ (λ zs cs. zs ++ a_term (g_fun g.0 (terms_of cs)) ∷ []) p.0 p.1 ∙ sym q, r.1)
spells-once f (Eigenvariable g n ∷ key) vs us ls ks (xs, ps, l, e, h) (ys, qs, m, q, k) =
    let r = spells-once f key (xs ++ ps) (ys ++ qs) ls ks h k in
    let p = split-end xs ys ps qs r.0 (l ∙ sym m) in
    (e ∙ ap₂ (λ zs cs. zs ++ a_term (g_eigen g.0 (values_of cs)) ∷ []) p.0 p.1 ∙ sym q, r.1)
spells-once f (Literal sign symbol n ∷ key) vs us ls ks (xs, ps, l, e, q, h) (ys, qs, m, d, p, k) =
    let r = spells-once f key ps qs xs ys h k in
    (e ∙ sym d, q ∙ ap₂ (λ cs zs. literal_of sign symbol.0 cs ∷ zs) r.0 r.1 ∙ sym p)

-- ---- images

terms-image : (σ : Solution) (rs : List ℕ) → terms_of (map σ rs) ≡ terms_by σ rs
terms-image σ [] = refl
terms-image σ (r ∷ rs) = ap (more_g_terms (as_term (σ r))) (terms-image σ rs)

values-image : (σ : Solution) (rs : List ℕ) → map as_value (map σ rs) ≡ values_by σ rs
values-image σ [] = refl
values-image σ (r ∷ rs) = ap (λ vs. as_value (σ r) ∷ vs) (values-image σ rs)

literal-image : (σ : Solution) (a : CellAtom) → a.label ≡ [] → literal_by σ a ≡ literal_of a.sign a.symbol (map σ a.args)
literal-image σ a e = λ i. record { sign = a.sign; symbol = a.symbol; args = sym (terms-image σ a.args) i; label = ap (label_by σ) e i }

-- ---- variables

-- v is none of the first i
abbrev pub AreOthers : List ℕ → ℕ → ℕ → Type 0
AreOthers vs v i = (j : ℕ) → j < i → ¬ (slice_get vs j ≡ Some v)

numbered-before : (before after : List ℕ) (v i j w : ℕ) → IsNumbered before after v i → slice_get before j ≡ Some w → slice_get after j ≡ Some w
numbered-before before after v i j w (at, inl same) e = subst (λ xs. slice_get xs j ≡ Some w) (sym same) e
numbered-before before after v i j w (at, inr (new, none)) e = subst (λ xs. slice_get xs j ≡ Some w) (sym new) (get-front before (v ∷ []) j w e)

numbered-variables : (s : Store) (before after : List ℕ) (v i : ℕ) → AreVariables s before → slice_get s.cells v ≡ Some (variable TermSort None) → IsNumbered before after v i → AreVariables s after
numbered-variables s before after v i h cell (at, inl same) = subst (AreVariables s) (sym same) h
numbered-variables s before after v i h cell (at, inr (new, none)) = subst (AreVariables s) (sym new) (record { unbound = unbound; once = once })
  where
    unbound : (j w : ℕ) → slice_get (before ++ v ∷ []) j ≡ Some w → slice_get s.cells w ≡ Some (variable TermSort None)
    unbound j w e = elim (one-more before v j w e) [
      | inl old ↦ h.unbound j w old
      | inr last ↦ subst (λ x. slice_get s.cells x ≡ Some (variable TermSort None)) (sym last.0) cell
    ]

    once-by : (j k w : ℕ) → (slice_get before j ≡ Some w) ⊎ ((w ≡ v) × (j ≡ length before)) → (slice_get before k ≡ Some w) ⊎ ((w ≡ v) × (k ≡ length before)) → j ≡ k
    once-by j k w (inl a) (inl b) = h.once j k w a b
    once-by j k w (inl a) (inr b) = absurd (none (j, a ∙ ap Some b.0))
    once-by j k w (inr a) (inl b) = absurd (none (k, b ∙ ap Some a.0))
    once-by j k w (inr a) (inr b) = a.1 ∙ sym b.1

    once : (j k w : ℕ) → slice_get (before ++ v ∷ []) j ≡ Some w → slice_get (before ++ v ∷ []) k ≡ Some w → j ≡ k
    once j k w a b = once-by j k w (one-more before v j w a) (one-more before v k w b)

numbered-from : (base : ℕ) (before after : List ℕ) (v i : ℕ) → base ≤ v → IsNumbered before after v i → AreFrom base before → AreFrom base after
numbered-from base before after v i l (at, inl same) h = subst (AreFrom base) (sym same) h
numbered-from base before after v i l (at, inr (new, none)) h = subst (AreFrom base) (sym new) (λ r on. elim (in-either before (v ∷ []) r on) [
  | inl old ↦ h r old
  | inr last ↦ one r last
])
  where
    one : (r : ℕ) → IsIn r (v ∷ []) → base ≤ r
    one r (zero, e) = let q : v ≡ r = let z : Some v ≡ Some r = e in cc z in subst (λ x. base ≤ x) q l
    one r (suc k, e) = let z : None ≡ Some r = e in absurd (cc z)

last-at : (xs : List ℕ) (v : ℕ) → slice_get (xs ++ v ∷ []) (length xs) ≡ Some v
last-at [] v = refl
last-at (x ∷ xs) v = last-at xs v

-- a variable gets the next number
pub numbered-next : (before after : List Ref) (place : Ref) (n : ℕ) → n ≡ length before → after ≡ before ++ place ∷ [] → ¬ IsIn place.0 (map the_place before) → IsNumbered (map the_place before) (map the_place after) place.0 n
numbered-next before after place n e came absent =
    let more = waiting-popped after before place came in
    let number : length (map the_place before) ≡ n = length-map before the_place ∙ sym e in
    (subst (λ k. slice_get (map the_place after) k ≡ Some place.0) number (subst (λ xs. slice_get xs (length (map the_place before)) ≡ Some place.0) (sym more) (last-at (map the_place before) place.0)), inr (more, absent))

-- bindings of own cells lead to own cells
ends-from : (P : Problem) (base : ℕ) (s : Store) → AreOwn P base s → (r v : ℕ) → EndsAt s r v → base ≤ r → base ≤ v
ends-from P base s h r v (stays e b) l = l
ends-from P base s h r v (goes_on {k = k} {sort = sort} e o) l = ends-from P base s h k v o (h.labelled.names r k 0 (variable sort (Some k)) l e refl)

-- ---- reading

pub reading-start : (s : Store) (x : CellGoal) → IsTrue (goal_is_below (length s.cells) x) → IsReading s x [] [] [] (x.literal ∷ x.path)
reading-start s x l = record {
  reads = λ σ f solves follows more h. h;
  below = below-nothing (length s.cells) [] refl;
  literals = l;
  variables = record { unbound = λ i v e. nothing i v _ e; once = λ i j v e q. nothing i v _ e };
  own = λ P base o g. ((λ r on. nothing on.0 r _ on.1), (λ r on. nothing on.0 r _ on.1), (g.literal, g.path));
}
  where
    nothing : (i v : ℕ) (A : Type 0) → slice_get [] i ≡ Some v → A
    nothing i v A e = let z : None ≡ Some v = e in absurd (cc z)

-- a literal without a label comes next: its arguments are to be read
pub reading-literal : (s : Store) (x : CellGoal) (vs : List ℕ) (key : List KeyPart) (a : CellAtom) (symbol : SymbolId) (rest : List CellAtom) → IsReading s x [] vs key (a ∷ rest) → a.symbol ≡ symbol.0 → a.label ≡ [] → IsReading s x a.args vs (key ++ Literal a.sign symbol (length a.args) ∷ []) rest
reading-literal s x vs key a symbol rest h q e = record {
  reads = λ σ f solves follows more k.
      subst (λ parts. Spells f parts [] (map (literal_by σ) (x.literal ∷ x.path))) (sym (append_assoc key (Literal a.sign symbol (length a.args) ∷ []) more))
      (h.reads σ f solves follows (Literal a.sign symbol (length a.args) ∷ more) (
        map (literal_by σ) rest,
        map σ a.args,
        length-map a.args σ,
        refl,
        ap (λ l. l ∷ map (literal_by σ) rest) (literal-image σ a e ∙ ap (λ n. literal_of a.sign n (map σ a.args)) q),
        k,
      ));
  below = λ r on. ltb-true r (length s.cells) (all-at (λ n. nat_lt n (length s.cells)) a.args on.0 r (and_parts (names_below (length s.cells) a.args) (names_below (length s.cells) a.label) parts.0).0 on.1);
  literals = parts.1;
  variables = h.variables;
  own = λ P base o g. (let w = h.own P base o g in ((λ r on. w.2.0.args r on), w.1, w.2.1));
}
  where
    parts : IsTrue (atom_is_below (length s.cells) a) × IsTrue (list_all (atom_is_below (length s.cells)) rest)
    parts = and_parts (atom_is_below (length s.cells) a) (list_all (atom_is_below (length s.cells)) rest) h.literals

-- a variable
pub reading-variable : (s : Store) (x : CellGoal) (waiting before after : List ℕ) (key : List KeyPart) (rest : List CellAtom) (r v i : ℕ) → EndsAt s r v → slice_get s.cells v ≡ Some (variable TermSort None) → IsNumbered before after v i → IsReading s x (waiting ++ r ∷ []) before key rest → IsReading s x waiting after (key ++ Variable i ∷ []) rest
reading-variable s x waiting before after key rest r v i ends cell numbered h = record {
  reads = λ σ f solves follows more k.
      subst (λ parts. Spells f parts [] (map (literal_by σ) (x.literal ∷ x.path))) (sym (append_assoc key (Variable i ∷ []) more))
      (h.reads σ f solves (λ j w e. follows j w (numbered-before before after v i j w numbered e)) (Variable i ∷ more) (
        map σ waiting,
        map-append σ waiting (r ∷ []) ∙ ap (λ z. map σ waiting ++ z ∷ []) (ends-same s σ r v solves ends ∙ sym (follows i v numbered.0)),
        k,
      ));
  below = λ q on. h.below q (in-front waiting (r ∷ []) q on);
  literals = h.literals;
  variables = numbered-variables s before after v i h.variables cell numbered;
  own = λ P base o g.
      let w = h.own P base o g in (
        (λ q on. w.0 q (in-front waiting (r ∷ []) q on)),
        numbered-from base before after v i (ends-from P base s o r v ends (w.0 r (in-back waiting (r ∷ []) r (zero, refl)))) numbered w.1,
        w.2,
      );
}

-- a built cell that the part names: its parts are to be read
reading-built : (s : Store) (x : CellGoal) (waiting vs : List ℕ) (key : List KeyPart) (rest : List CellAtom) (r v : ℕ) (c : Cell) (part : KeyPart) → IsWellFormed s → EndsAt s r v → slice_get s.cells v ≡ Some c → ((σ : Solution) (f : ℕ → GroundTerm) (more : List KeyPart) (xs : List CellValue) (ls : List GroundLiteral) → Solves s σ → Spells f more (xs ++ map σ (parts_of c)) ls → Spells f (part ∷ more) (xs ++ σ v ∷ []) ls) → IsReading s x (waiting ++ r ∷ []) vs key rest → IsReading s x (waiting ++ parts_of c) vs (key ++ part ∷ []) rest
reading-built s x waiting vs key rest r v c part well ends cell spells h = record {
  reads = λ σ f solves follows more k.
      subst (λ parts. Spells f parts [] (map (literal_by σ) (x.literal ∷ x.path))) (sym (append_assoc key (part ∷ []) more))
      (h.reads σ f solves follows (part ∷ more) (
      subst (λ zs. Spells f (part ∷ more) zs (map (literal_by σ) rest)) (sym (map-append σ waiting (r ∷ []) ∙ ap (λ z. map σ waiting ++ z ∷ []) (ends-same s σ r v solves ends)))
      (spells σ f more (map σ waiting) (map (literal_by σ) rest) solves (subst (λ zs. Spells f more zs (map (literal_by σ) rest)) (map-append σ waiting (parts_of c)) k))
      ));
  below = λ q on. elim (in-either waiting (parts_of c) q on) [
    | inl waits ↦ h.below q (in-front waiting (r ∷ []) q waits)
    | inr new ↦ parts-within s c new.0 q ((kept s well.fits).fits v c cell) new.1
  ];
  literals = h.literals;
  variables = h.variables;
  own = λ P base o g.
      let w = h.own P base o g in
      let l = ends-from P base s o r v ends (w.0 r (in-back waiting (r ∷ []) r (zero, refl))) in (
        (λ q on. elim (in-either waiting (parts_of c) q on) [
          | inl waits ↦ w.0 q (in-front waiting (r ∷ []) q waits)
          | inr new ↦ o.labelled.names v q new.0 c l cell new.1
        ]),
        w.1,
        w.2,
      );
}

pub reading-function : (s : Store) (x : CellGoal) (waiting vs : List ℕ) (key : List KeyPart) (rest : List CellAtom) (r v : ℕ) (g : SymbolId) (rs : List ℕ) → IsWellFormed s → EndsAt s r v → slice_get s.cells v ≡ Some (fun_cell g.0 rs) → IsReading s x (waiting ++ r ∷ []) vs key rest → IsReading s x (waiting ++ rs) vs (key ++ Function g (length rs) ∷ []) rest
reading-function s x waiting vs key rest r v g rs well ends cell h = reading-built s x waiting vs key rest r v (fun_cell g.0 rs) (Function g (length rs)) well ends cell (λ σ f more xs ls solves k. (xs, map σ rs, length-map rs σ, ap (λ z. xs ++ z ∷ []) (value σ solves), k)) h
  where
    value : (σ : Solution) → Solves s σ → σ v ≡ a_term (g_fun g.0 (terms_of (map σ rs)))
    value σ solves = let w = solves v (fun_cell g.0 rs) cell in w.2 ∙ ap (λ (ts : GroundTerms). a_term (g_fun g.0 ts)) (sym (terms_at-by σ rs w.0 w.1) ∙ sym (terms-image σ rs))

pub reading-eigenvariable : (s : Store) (x : CellGoal) (waiting vs : List ℕ) (key : List KeyPart) (rest : List CellAtom) (r v : ℕ) (p : PosId) (rs : List ℕ) → IsWellFormed s → EndsAt s r v → slice_get s.cells v ≡ Some (eigen_cell p.0 rs) → IsReading s x (waiting ++ r ∷ []) vs key rest → IsReading s x (waiting ++ rs) vs (key ++ Eigenvariable p (length rs) ∷ []) rest
reading-eigenvariable s x waiting vs key rest r v p rs well ends cell h = reading-built s x waiting vs key rest r v (eigen_cell p.0 rs) (Eigenvariable p (length rs)) well ends cell (λ σ f more xs ls solves k. (xs, map σ rs, length-map rs σ, ap (λ z. xs ++ z ∷ []) (value σ solves), k)) h
  where
    value : (σ : Solution) → Solves s σ → σ v ≡ a_term (g_eigen p.0 (values_of (map σ rs)))
    value σ solves = let w = solves v (eigen_cell p.0 rs) cell in w.2 ∙ ap (λ (vs : Values). a_term (g_eigen p.0 vs)) (sym (values_at-by σ rs w.0 w.1) ∙ ap values_tree (sym (values-image σ rs)))

-- ---- one call

pub shown-variable : (s : Store) (v : ℕ) (k : Content) (sort : Sort) → Shows s v k → k ≡ Open sort → sort ≡ TermSort → slice_get s.cells v ≡ Some (variable TermSort None)
shown-variable s v k sort shows e q = let w = subst (Shows s v) (e ∙ ap Open q) shows in w.1 ∙ ap Some w.2

pub shown-function : (s : Store) (v : ℕ) (k : Content) (g : SymbolId) (n : ℕ) → Shows s v k → k ≡ Fun g n → (rs : List ℕ) × (slice_get s.cells v ≡ Some (fun_cell g.0 rs))
shown-function s v k g n shows e = let w = subst (Shows s v) e shows in (w.2.0, w.1 ∙ ap Some w.2.1)

pub shown-eigenvariable : (s : Store) (v : ℕ) (k : Content) (p : PosId) (n : ℕ) → Shows s v k → k ≡ Eigen p n → (rs : List ℕ) × (slice_get s.cells v ≡ Some (eigen_cell p.0 rs))
shown-eigenvariable s v k p n shows e = let w = subst (Shows s v) e shows in (w.2.0, w.1 ∙ ap Some w.2.1)

-- what was read is this
pub reading-in : (s : Store) (x : CellGoal) (waiting waits vs us : List ℕ) (key parts : List KeyPart) (rest : List CellAtom) → waits ≡ waiting → us ≡ vs → parts ≡ key → IsReading s x waiting vs key rest → IsReading s x waits us parts rest
reading-in s x waiting waits vs us key parts rest ew ev ek h = subst (λ ws. IsReading s x ws us parts rest) (sym ew) (subst (λ ns. IsReading s x waiting ns parts rest) (sym ev) (subst (λ ps. IsReading s x waiting vs ps rest) (sym ek) h))

pub reading-added : (s : Store) (x : CellGoal) (before after : GoalKey) (part : KeyPart) (rs : List ℕ) (rest : List CellAtom) → IsAdded before part rs after → IsReading s x (waiting_in before ++ rs) (variables_in before) (before.parts.items ++ part ∷ []) rest → IsReadingAt s x after rest
reading-added s x before after part rs rest e h = reading-in s x (waiting_in before ++ rs) (waiting_in after) (variables_in before) (variables_in after) (before.parts.items ++ part ∷ []) after.parts.items rest e.waiting e.variables e.parts h

-- nothing is left to be read
reading-end : (s : Store) (x : CellGoal) (vs : List ℕ) (key : List KeyPart) (rest : List CellAtom) → rest ≡ [] → IsReading s x [] vs key rest → IsKeyOf s x vs key
reading-end s x vs key rest e h = record {
  spells = λ σ f solves follows. subst (λ parts. Spells f parts [] (map (literal_by σ) (x.literal ∷ x.path))) (append-nil key) (h.reads σ f solves follows [] (refl, ap (map (literal_by σ)) e));
  variables = h.variables;
  own = λ P base o g. (h.own P base o g).1;
}

-- ---- the goals above

-- the goal of this number and the first i above it are read
pub record ReadsTo (s : Store) (steps : List Step) (goals : List Goal) (goal : ℕ) (vs : List ℕ) (key : List KeyPart) (above : Option ℕ) (i : ℕ) : Type 0 where
  pub path : (x : CellGoal) → IsGoalAt steps goals goal x → IsPath steps goals above (drop i x.path)
  pub reading : (x : CellGoal) → IsGoalAt steps goals goal x → IsTrue (goal_is_below (length s.cells) x) → IsReading s x [] vs key (drop i x.path)

-- what reading the literal makes of what was read
abbrev pub ReadsLiteral : Store → List ℕ → List KeyPart → CellAtom → List ℕ → List KeyPart → Type 0
ReadsLiteral s vs key a us more = (x : CellGoal) (rest : List CellAtom) → IsReading s x [] vs key (a ∷ rest) → IsReading s x [] us more rest

pub start-reading : (s : Store) (steps : List Step) (goals : List Goal) (goal : ℕ) (vs : List ℕ) (key : List KeyPart) (a : CellAtom) (x : CellGoal) → vs ≡ [] → key ≡ [] → ((g : Goal) → slice_get goals goal ≡ Some g → atom_at steps g ≡ Some a) → IsGoalAt steps goals goal x → IsTrue (goal_is_below (length s.cells) x) → IsReading s x [] vs key (a ∷ x.path)
start-reading s steps goals goal vs key a x ev ek fa g l = subst (λ b. IsReading s x [] vs key (b ∷ x.path)) (sym (atom-found steps goals goal x a g fa)) (reading-in s x [] [] [] vs [] key (x.literal ∷ x.path) refl ev ek (reading-start s x l))

pub reads-first : (s : Store) (steps : List Step) (goals : List Goal) (goal : ℕ) (vs us : List ℕ) (key more : List KeyPart) (at : Goal) (a : CellAtom) → vs ≡ [] → key ≡ [] → slice_get goals goal ≡ Some at → ((g : Goal) → slice_get goals goal ≡ Some g → atom_at steps g ≡ Some a) → ReadsLiteral s vs key a us more → ReadsTo s steps goals goal us more at.above 0
reads-first s steps goals goal vs us key more at a ev ek e fa h = record {
  path = λ x g. subst (λ (k : Goal). IsPath steps goals k.above x.path) (same-some (slice_get goals goal) g.goal at g.stands e) g.is_goal.path;
  reading = λ x g l. h x x.path (start-reading s steps goals goal vs key a x ev ek fa g l);
}

pub reads-ancestor : (s : Store) (steps : List Step) (goals : List Goal) (goal : ℕ) (vs : List ℕ) (key : List KeyPart) (above : Option ℕ) (j i : ℕ) (x : CellGoal) → ReadsTo s steps goals goal vs key above i → above ≡ Some j → IsGoalAt steps goals goal x → AncestorAt steps goals x j i
reads-ancestor s steps goals goal vs key above j i x h e g = ancestor-on steps goals x j i (subst (λ k. IsPath steps goals k (drop i x.path)) e (h.path x g))

pub next-reading : (s : Store) (steps : List Step) (goals : List Goal) (goal : ℕ) (vs : List ℕ) (key : List KeyPart) (above : Option ℕ) (j i : ℕ) (b : CellAtom) (x : CellGoal) → ReadsTo s steps goals goal vs key above i → above ≡ Some j → ((g : Goal) → slice_get goals j ≡ Some g → atom_at steps g ≡ Some b) → IsGoalAt steps goals goal x → IsTrue (goal_is_below (length s.cells) x) → IsReading s x [] vs key (b ∷ drop (i + 1) x.path)
next-reading s steps goals goal vs key above j i b x h e fb g l =
    let w = reads-ancestor s steps goals goal vs key above j i x h e g in
    let same : w.atom ≡ b = same-some (atom_at steps w.goal) w.atom b w.is_atom (fb w.goal w.stands) in
    let number : suc i ≡ i + 1 = omega arith in
    subst (λ c. IsReading s x [] vs key (c ∷ drop (i + 1) x.path)) same (subst (λ n. IsReading s x [] vs key (w.atom ∷ drop n x.path)) number (subst (IsReading s x [] vs key) (drop-there x.path i w.atom w.on_path) (h.reading x g l)))

pub reads-next : (s : Store) (steps : List Step) (goals : List Goal) (goal : ℕ) (vs us : List ℕ) (key more : List KeyPart) (above : Option ℕ) (j i : ℕ) (next : Goal) (b : CellAtom) → ReadsTo s steps goals goal vs key above i → above ≡ Some j → slice_get goals j ≡ Some next → ((g : Goal) → slice_get goals j ≡ Some g → atom_at steps g ≡ Some b) → ReadsLiteral s vs key b us more → ReadsTo s steps goals goal us more next.above (i + 1)
reads-next s steps goals goal vs us key more above j i next b h e at fb reads = record {
  path = λ x g. (let w = reads-ancestor s steps goals goal vs key above j i x h e g in subst (λ (k : Goal). IsPath steps goals k.above (drop (i + 1) x.path)) (same-some (slice_get goals j) w.goal next w.stands at) w.rest);
  reading = λ x g l. reads x (drop (i + 1) x.path) (next-reading s steps goals goal vs key above j i b x h e fb g l);
}

pub reads-none : (s : Store) (steps : List Step) (goals : List Goal) (goal : ℕ) (vs : List ℕ) (key : List KeyPart) (above : Option ℕ) (i : ℕ) → ReadsTo s steps goals goal vs key above i → above ≡ None → (x : CellGoal) → IsGoalAt steps goals goal x → IsTrue (goal_is_below (length s.cells) x) → IsKeyOf s x vs key
reads-none s steps goals goal vs key above i h e x g l = reading-end s x vs key (drop i x.path) (none (drop i x.path) (subst (λ k. IsPath steps goals k (drop i x.path)) e (h.path x g))) (h.reading x g l)
  where
    none : (p : List CellAtom) → IsPath steps goals None p → p ≡ []
    none [] q = refl
    none (b ∷ p) (j, y, at, stands, atom, rest) = let z : None ≡ Some j = at in absurd (cc z)

pub reads-all : (s : Store) (steps : List Step) (goals : List Goal) (goal : ℕ) (vs : List ℕ) (key : List KeyPart) (above : Option ℕ) (i : ℕ) (at : Goal) → ReadsTo s steps goals goal vs key above i → slice_get goals goal ≡ Some at → at.depth ≤ i → (x : CellGoal) → IsGoalAt steps goals goal x → IsTrue (goal_is_below (length s.cells) x) → IsKeyOf s x vs key
reads-all s steps goals goal vs key above i at h e l x g below = reading-end s x vs key (drop i x.path) (drop-end x.path i (depth-passed steps goals goal x at i g e l)) (h.reading x g below)
