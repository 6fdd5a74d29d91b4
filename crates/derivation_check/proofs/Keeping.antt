-- The state of a judgement is kept while its tables and sets grow, while the branch grows, and while it is cut back.
use Rattle.std.proofs.Common.{◌≡◌, ℕ, ◌<◌, Bool, true, false, ◌||◌, ◌&&◌, List, [], ◌∷◌, ◌++◌, length, get_or, map, take, None, Some, inl, inr, refl, sym, ◌∙◌, ap, subst, arith}
use Rattle.std.proofs.Math.ListN.{get_or-map}
use Rattle.std.proofs.lemmas.List.{append_assoc, length-map, map-append, map_push, take_all}
use Rattle.calculus.specs.Calculus.{with_argument, with_components, term_fits, is_eigen, is_in_home, eigen_occurs, character_occurs}
use Rattle.calculus.specs.Derivations.{Sequent, Label, Names, new_mark, ModalArg, TermArg, no_term, by_term, by_name}
use Rattle.calculus.specs.Judgement.{open_after}
use Rattle.calculus.specs.Kinds.{shape_of, components}
use Rattle.calculus.specs.Syntax.{Term, Formula}
use Rattle.formula_core.specs.FormulaView.{the_formula}
use Rattle.derivation_branch.specs.AddedView.{AreAddedAt, IsAddedAt, children_added}
use Rattle.derivation_branch.specs.EntryView.{IsWithin, formula_under}
use Rattle.label_table.specs.Longer.{IsLonger}
use Rattle.derivation_branch.specs.Occurring.{holds, in_argument, in_modal, quantifier_binds}
use Rattle.derivation_branch.specs.Putting.{AreClosed, formula_with_all}
use Rattle.derivation_branch.specs.declared.addition.Added.{Added}
use Rattle.derivation_branch.specs.declared.addition.Added.TheVariants.{One, Both, Fork}
use Rattle.derivation_branch.specs.declared.entry.SharedEntry.{SharedEntry}
use Rattle.derivation_branch.proofs.ChildLaws.{OnEach, Grown, Marked, binds-under, children-grown, children-marked, each-all, each-both, each-weaker}
use Rattle.label_table.proofs.TableLaws.{longer-at, longer-size, pushed-at, pushed-longer}
use Rattle.derivation_check.specs.OpenSequents.{IsLastOf, after_added, placed}
use Rattle.derivation_check.specs.StateView.{AreKept, AreWithin, HasArgument, IsLabelAfter, StandsOn, Tells, Wait, eigens_of, last_of, marks_of, the_entry, the_sequent}
use Rattle.derivation_check.specs.ToldView.{HasMarks}
use Rattle.derivation_check.specs.declared.open_sequents.BranchEntry.{BranchEntry}
use Rattle.derivation_check.proofs.ToldLaws.{label-there, take-longer}

-- ---- tables that grow

pub formula-longer : (table more : List (List Term)) (k : ℕ) (f : Formula) → IsLonger table more → k < length table → formula_under more k f ≡ formula_under table k f
formula-longer table more k f h lt = ap (λ ts. formula_with_all ts 0 f) (longer-at table more k [] h lt)

entry-longer : (table more : List (List Term)) (labels others : List Label) (x : BranchEntry) → IsLonger table more → IsLonger labels others → IsWithin table labels x.shared → the_entry more others x ≡ the_entry table labels x
entry-longer table more labels others x h g within =
    let formula = formula-longer table more x.shared.substitution (the_formula x.shared.formula.now) h within.0 in
    let label = longer-at labels others x.shared.label [] g within.1 in
    λ i. record { sign = x.shared.sign; formula = formula i; label = label i }

pub sequent-longer : (table more : List (List Term)) (labels others : List Label) (xs : List BranchEntry) → IsLonger table more → IsLonger labels others → AreWithin table labels xs → the_sequent more others xs ≡ the_sequent table labels xs
sequent-longer table more labels others [] h g within = refl
sequent-longer table more labels others (x ∷ xs) h g within = λ i. entry-longer table more labels others x h g within.0 i ∷ sequent-longer table more labels others xs h g within.1 i

pub within-longer : (table more : List (List Term)) (labels others : List Label) (xs : List BranchEntry) → IsLonger table more → IsLonger labels others → AreWithin table labels xs → AreWithin more others xs
within-longer table more labels others [] h g within = tt
within-longer table more labels others (x ∷ xs) h g within =
    let a = longer-size table more h in
    let b = longer-size labels others g in
    ((omega (arith, a, within.0.0), omega (arith, b, within.0.1)), within-longer table more labels others xs h g within.1)

pub tells-same : (names : Names) (E M : List ℕ) (s t : Sequent) → t ≡ s → Tells names E M s → Tells names E M t
tells-same names E M s t e h = subst (Tells names E M) (sym e) h

pub wait-longer : (names : Names) (table more : List (List Term)) (labels others : List Label) (E M : List ℕ) (ss : List (List BranchEntry)) → IsLonger table more → IsLonger labels others → Wait names table labels E M ss → Wait names more others E M ss
wait-longer names table more labels others E M [] h g w = tt
wait-longer names table more labels others E M (s ∷ ss) h g w = (
  w.0,
  w.1,
  within-longer table more labels others s h g w.2,
  tells-same names (take (eigens_of s) E) (take (marks_of s) M) (the_sequent table labels s) (the_sequent more others s) (sequent-longer table more labels others s h g w.2) w.3,
  wait-longer names table more labels others (take (eigens_of s) E) (take (marks_of s) M) ss h g w.4,
)

pub waiting-longer : (names : Names) (table more : List (List Term)) (labels others : List Label) (E M : List ℕ) (ss : List (List BranchEntry)) → IsLonger table more → IsLonger labels others → Wait names table labels E M ss → map (the_sequent more others) ss ≡ map (the_sequent table labels) ss
waiting-longer names table more labels others E M [] h g w = refl
waiting-longer names table more labels others E M (s ∷ ss) h g w =
    λ i. sequent-longer table more labels others s h g w.2 i ∷ waiting-longer names table more labels others (take (eigens_of s) E) (take (marks_of s) M) ss h g w.4 i

pub kept-longer : (names : Names) (table more : List (List Term)) (labels others : List Label) (E M : List ℕ) (ss : List (List BranchEntry)) → IsLonger table more → IsLonger labels others → AreKept names table labels E M ss → AreKept names more others E M ss
kept-longer names table more labels others E M [] h g k = tt
kept-longer names table more labels others E M (s ∷ ss) h g k =
    (within-longer table more labels others s h g k.0, tells-same names E M (the_sequent table labels s) (the_sequent more others s) (sequent-longer table more labels others s h g k.0) k.1, wait-longer names table more labels others E M ss h g k.2)

-- ---- sets that grow

pub wait-more : (names : Names) (table : List (List Term)) (labels : List Label) (E F M L : List ℕ) (ss : List (List BranchEntry)) → IsLonger E F → IsLonger M L → Wait names table labels E M ss → Wait names table labels F L ss
wait-more names table labels E F M L [] h g w = tt
wait-more names table labels E F M L (s ∷ ss) h g w =
    let eigens = take-longer E F (eigens_of s) h w.0 in
    let marks = take-longer M L (marks_of s) g w.1 in
    let a = longer-size E F h in
    let b = longer-size M L g in (
      omega (arith, a, w.0),
      omega (arith, b, w.1),
      w.2,
      subst (λ N. Tells names (take (eigens_of s) F) N (the_sequent table labels s)) (sym marks) (subst (λ D. Tells names D (take (marks_of s) M) (the_sequent table labels s)) (sym eigens) w.3),
      subst (λ N. Wait names table labels (take (eigens_of s) F) N ss) (sym marks) (subst (λ D. Wait names table labels D (take (marks_of s) M) ss) (sym eigens) w.4),
    )

-- ---- what the last entry keeps

last-push : (count : BranchEntry → ℕ) (xs : List BranchEntry) (x : BranchEntry) → last_of count (xs ++ x ∷ []) ≡ count x
last-push count [] x = refl
last-push count (y ∷ []) x = refl
last-push count (y ∷ z ∷ zs) x = last-push count (z ∷ zs) x

-- the current sequent is closed, and the sets are cut back
pub cut-back : (names : Names) (table : List (List Term)) (labels : List Label) (E M D L : List ℕ) (ss : List (List BranchEntry)) (x : BranchEntry) → IsLastOf ss (Some x) → D ≡ take x.eigens E → L ≡ take x.marks M → Wait names table labels E M ss → AreKept names table labels D L ss
cut-back names table labels E M D L [] x last d l w = absurd last
cut-back names table labels E M D L (s ∷ ss) x last d l w =
    let e = ap eigens_of last.1 ∙ last-push (λ y. y.eigens) last.0 x in
    let m = ap marks_of last.1 ∙ last-push (λ y. y.marks) last.0 x in
    let dd : take (eigens_of s) E ≡ D = ap (λ n. take n E) e ∙ sym d in
    let ll : take (marks_of s) M ≡ L = ap (λ n. take n M) m ∙ sym l in (
      w.2,
      subst (λ N. Tells names D N (the_sequent table labels s)) ll (subst (λ K. Tells names K (take (marks_of s) M) (the_sequent table labels s)) dd w.3),
      subst (λ N. Wait names table labels D N ss) ll (subst (λ K. Wait names table labels K (take (marks_of s) M) ss) dd w.4),
    )

pub none-left : (names : Names) (table : List (List Term)) (labels : List Label) (E M : List ℕ) (ss : List (List BranchEntry)) → IsLastOf ss None → AreKept names table labels E M ss
none-left names table labels E M [] last = tt
none-left names table labels E M (s ∷ ss) last = absurd last

-- ---- the branch grows

within-push : (table : List (List Term)) (labels : List Label) (xs : List BranchEntry) (x : BranchEntry) → AreWithin table labels xs → IsWithin table labels x.shared → AreWithin table labels (xs ++ x ∷ [])
within-push table labels [] x h g = (g, tt)
within-push table labels (y ∷ ys) x h g = (h.0, within-push table labels ys x h.1 g)

pub shown-after : (table : List (List Term)) (labels : List Label) (n m : ℕ) (a : Added) (xs : List BranchEntry) (ss : List (List BranchEntry)) → map (the_sequent table labels) (after_added n m a xs ss) ≡ open_after (children_added table labels (the_sequent table labels xs) a) (map (the_sequent table labels) ss)
shown-after table labels n m (One a) xs ss = ap (λ s. s ∷ map (the_sequent table labels) ss) (map_push (the_entry table labels) xs (placed n m a))
shown-after table labels n m (Both a b) xs ss = ap (λ s. s ∷ map (the_sequent table labels) ss) (map-append (the_entry table labels) xs (placed n m a ∷ placed n m b ∷ []))
shown-after table labels n m (Fork a b) xs ss = λ i. map_push (the_entry table labels) xs (placed n m a) i ∷ map_push (the_entry table labels) xs (placed n m b) i ∷ map (the_sequent table labels) ss

within-added : (table : List (List Term)) (labels : List Label) (outer inner at : ℕ) (e : SharedEntry) → outer < length table → inner < length table → at < length labels → IsAddedAt outer inner at e → IsWithin table labels e
within-added table labels outer inner at e o i l h = (elim h.0 [ inl same ↦ omega (arith, same, o) | inr same ↦ omega (arith, same, i) ], omega (arith, h.1, l))

all_taken : (E : List ℕ) (n : ℕ) → n ≡ length E → take n E ≡ E
all_taken E n e = take_all n E (omega (arith, e))

pub added-kept : (names : Names) (table : List (List Term)) (labels : List Label) (E M : List ℕ) (n m outer inner at : ℕ) (a : Added) (xs : List BranchEntry) (ss : List (List BranchEntry)) → n ≡ length E → m ≡ length M
    → outer < length table → inner < length table → at < length labels → AreAddedAt outer inner at a → AreWithin table labels xs → OnEach (Tells names E M) (children_added table labels (the_sequent table labels xs) a) → Wait names table labels E M ss
    → AreKept names table labels E M (after_added n m a xs ss)
added-kept names table labels E M n m outer inner at (One a) xs ss en em o i l h within tells wait =
    let f = within-added table labels outer inner at a o i l h in
    (within-push table labels xs (placed n m a) within f, tells-same names E M _ _ (map_push (the_entry table labels) xs (placed n m a)) tells, wait)
added-kept names table labels E M n m outer inner at (Both a b) xs ss en em o i l h within tells wait =
    let f = within-added table labels outer inner at a o i l h.0 in
    let g = within-added table labels outer inner at b o i l h.1 in (
      subst (AreWithin table labels) (append_assoc xs (placed n m a ∷ []) (placed n m b ∷ [])) (within-push table labels (xs ++ placed n m a ∷ []) (placed n m b) (within-push table labels xs (placed n m a) within f) g),
      tells-same names E M _ _ (map-append (the_entry table labels) xs (placed n m a ∷ placed n m b ∷ [])) tells,
      wait,
    )
added-kept names table labels E M n m outer inner at (Fork a b) xs ss en em o i l h within tells wait =
    let f = within-added table labels outer inner at a o i l h.0 in
    let g = within-added table labels outer inner at b o i l h.1 in
    let second = xs ++ placed n m b ∷ [] in
    let e = last-push (λ y. y.eigens) xs (placed n m b) ∙ en in
    let k = last-push (λ y. y.marks) xs (placed n m b) ∙ em in
    let ee = all_taken E (eigens_of second) e in
    let mm = all_taken M (marks_of second) k in
    let told = tells-same names E M _ _ (map_push (the_entry table labels) xs (placed n m b)) tells.1 in (
      within-push table labels xs (placed n m a) within f,
      tells-same names E M _ _ (map_push (the_entry table labels) xs (placed n m a)) tells.0,
      (
        omega (arith, e),
        omega (arith, k),
        within-push table labels xs (placed n m b) within g,
        subst (λ N. Tells names (take (eigens_of second) E) N (the_sequent table labels second)) (sym mm) (subst (λ D. Tells names D M (the_sequent table labels second)) (sym ee) told),
        subst (λ N. Wait names table labels (take (eigens_of second) E) N ss) (sym mm) (subst (λ D. Wait names table labels D M ss) (sym ee) wait),
      ),
    )

-- ---- what the sets tell of each branch that the step leads to

and_false : (a b : Bool) → (a && false) ≡ (b && false)
and_false true true = refl
and_false true false = refl
and_false false true = refl
and_false false false = refl

brings-same : (test : Term → Bool) (table : List (List Term)) (outer inner : ℕ) (f : Formula) (t : TermArg) → HasArgument table outer inner t → (quantifier_binds (formula_under table outer f) && in_argument test t) ≡ (quantifier_binds f && in_argument test t)
brings-same test table outer inner f no_term h = and_false (quantifier_binds (formula_under table outer f)) (quantifier_binds f)
brings-same test table outer inner f (by_term u) h = ap (λ b. b && in_argument test (by_term u)) (binds-under (get_or table outer []) 0 f h.1)
brings-same test table outer inner f (by_name n) h = ap (λ b. b && in_argument test (by_name n)) (binds-under (get_or table outer []) 0 f h.1)

pub record Brought (names : Names) (E F M L : List ℕ) (f : Formula) (x : ModalArg) (t : TermArg) : Type 0 where
  pub eigens : (n : ℕ) → holds F n ≡ (holds E n || (quantifier_binds f && in_argument (is_eigen n) t))
  pub marks : (n : ℕ) → holds L n ≡ ((holds M n || in_modal (new_mark n) x) || (quantifier_binds f && in_argument (is_in_home names (new_mark n)) t))

pub children-told : (names : Names) (table : List (List Term)) (labels : List Label) (E F M L : List ℕ) (xs : List BranchEntry) (u : BranchEntry) (inner at : ℕ) (x : ModalArg) (t : TermArg)
    → StandsOn xs u → HasArgument table u.shared.substitution inner t → IsLabelAfter labels u.shared.label x at → term_fits (shape_of u.shared.sign (the_formula u.shared.formula.now)) t ≡ true → shape_of u.shared.sign (formula_under table u.shared.substitution (the_formula u.shared.formula.now)) ≡ shape_of u.shared.sign (the_formula u.shared.formula.now)
    → Tells names E M (the_sequent table labels xs) → Brought names E F M L (the_formula u.shared.formula.now) x t
    → OnEach (Tells names F L) (with_components (shape_of u.shared.sign (formula_under table u.shared.substitution (the_formula u.shared.formula.now))) (the_sequent table labels xs) (get_or labels at []) (map (with_argument t) (components u.shared.sign (formula_under table u.shared.substitution (the_formula u.shared.formula.now)))))
children-told names table labels E F M L xs u inner at x t stands argument label fits shape told brought =
    let s = the_sequent table labels xs in
    let g = u.shared.sign in
    let f = the_formula u.shared.formula.now in
    let ff = formula_under table u.shared.substitution f in
    let w = get_or labels u.shared.label [] in
    let k = stands.0 in
    let lt : k < length s = let e = length-map xs (the_entry table labels) in omega (arith, e, stands.1) in
    let at_k : the_entry table labels u ≡ get_or s k (the_entry table labels u) = ap (the_entry table labels) stands.2 ∙ sym (get_or-map (the_entry table labels) xs k u) in
    let fit : term_fits (shape_of g ff) t ≡ true = ap (λ h. term_fits h t) shape ∙ fits in
    let children = λ (v : Label). with_components (shape_of g ff) s v (map (with_argument t) (components g ff)) in
    let eigen : OnEach (λ c. (n : ℕ) → holds F n ≡ eigen_occurs n c) (children (get_or labels at [])) =
    each-all (λ n c. holds F n ≡ eigen_occurs n c) (children (get_or labels at []))
    (λ n. each-weaker (Grown (is_eigen n) s g ff t) (λ c. holds F n ≡ eigen_occurs n c)
    (λ c e. brought.eigens n ∙ (λ i. told.eigen n i || sym (brings-same (is_eigen n) table u.shared.substitution inner f t argument) i) ∙ sym e)
    (children (get_or labels at []))
    (children-grown (is_eigen n) s k g ff w (get_or labels at []) t (λ _. refl) lt at_k fit)) in
    let mark : OnEach (λ c. (n : ℕ) → holds L n ≡ character_occurs names (new_mark n) c) (children (get_or labels at [])) =
    each-all (λ n c. holds L n ≡ character_occurs names (new_mark n) c) (children (get_or labels at []))
    (λ n. each-weaker (Marked names (new_mark n) s ff x t) (λ c. holds L n ≡ character_occurs names (new_mark n) c)
    (λ c e. brought.marks n ∙ (λ i. (told.mark n i || in_modal (new_mark n) x) || sym (brings-same (is_in_home names (new_mark n)) table u.shared.substitution inner f t argument) i) ∙ sym e)
    (children (get_or labels at []))
    (subst (λ v. OnEach (Marked names (new_mark n) s ff x t) (children v)) (sym label.1.1) (children-marked names (new_mark n) s k g ff w label.0 x t lt at_k fit))) in
    each-both (λ c. (n : ℕ) → holds F n ≡ eigen_occurs n c) (λ c. (n : ℕ) → holds L n ≡ character_occurs names (new_mark n) c) (Tells names F L) (λ c p q. record { eigen = p; mark = q }) (children (get_or labels at [])) eigen mark

-- ---- a value is put before a substitution

pub record Put (table more : List (List Term)) (outer k : ℕ) (v : Term) : Type 0 where
  pub within : k < length more
  pub put : (get_or more k [] ≡ v ∷ get_or more outer []) × AreClosed (get_or more outer [])
  pub grown : IsLonger table more

pub value-put : (table more : List (List Term)) (outer k : ℕ) (v : Term) → outer < length table → k ≡ length table → more ≡ table ++ (v ∷ get_or table outer []) ∷ [] → AreClosed (get_or table outer []) → Put table more outer k v
value-put table more outer k v lt place pushed closed_all =
    let at = pushed-at table more k (v ∷ get_or table outer []) [] place pushed in
    let grown = pushed-longer table more (v ∷ get_or table outer []) pushed in
    let same = longer-at table more outer [] grown lt in
    record { within = at.0; put = (at.1 ∙ ap (λ ts. v ∷ ts) (sym same), subst AreClosed (sym same) closed_all); grown = grown }

-- the marks of the label that a step leads to are there, once those of its argument are
pub branch-there : (names : Names) (table : List (List Term)) (labels : List Label) (E M L : List ℕ) (xs : List BranchEntry) (u : BranchEntry) (at : ℕ) (x : ModalArg) → StandsOn xs u → IsLabelAfter labels u.shared.label x at → Tells names E M (the_sequent table labels xs) → ((n : ℕ) → holds L n ≡ (holds M n || in_modal (new_mark n) x)) → HasMarks labels L at
branch-there names table labels E M L xs u at x stands label told held =
    let s = the_sequent table labels xs in
    let lt : stands.0 < length s = let e = length-map xs (the_entry table labels) in omega (arith, e, stands.1) in
    let here : the_entry table labels u ≡ get_or s stands.0 (the_entry table labels u) = ap (the_entry table labels) stands.2 ∙ sym (get_or-map (the_entry table labels) xs stands.0 u) in
    label-there names labels M L s stands.0 at (the_entry table labels u) label.0 x lt here label.1.1 told.mark held
