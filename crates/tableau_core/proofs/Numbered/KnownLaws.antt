-- What is known of the lists of a table, number by number.
use Rattle.std.specs.Prelude.{◌≡◌, ℕ, zero, suc, ◌<◌, ◌≤◌, List, [], ◌∷◌, Bool, true, false, ◌&&◌, ◌||◌, ◌==◌, length, refl}
use Rattle.std.specs.List.{AllByRecursion}
use Rattle.std.proofs.Common.{ap, sym, subst, ◌∙◌, arith, get_or}
use Rattle.std.proofs.lemmas.Bool.Decides.{nat_tests}
use Rattle.std.proofs.lemmas.List.{get_or_default, get_or_past}
use Rattle.plain_laws.proofs.Booleans.{or-true}
use Rattle.calculus.specs.declared.setting.Domains.TheVariants.{Constant}
use Rattle.calculus.specs.Ground as tree
use Rattle.calculus.specs.Ground.{GroundMark, GroundTerms, g_fun, g_eigen, common, own, no_g_terms, more_g_terms, marks_tree, values_tree}
use Rattle.calculus.specs.Lists.{g_terms_tree}
use Rattle.calculus.specs.Skolem.{are_admitted, are_admitted_marks, are_admitted_values, are_allowed, is_allowed}
use Rattle.calculus.specs.Syntax.{Problem}
use Rattle.formula_core.specs.GroundLists.{GroundList, of_terms, of_marks, of_values, list_at, terms_in, marks_in, values_in, IsLowerTerm, IsLowerMark, IsLowerValue}
use Rattle.formula_core.specs.declared.ground.GroundTerm.{GroundTerm}
use Rattle.formula_core.specs.declared.ground.GroundTerm.TheVariants as term
use Rattle.formula_core.specs.declared.ground.GroundMark.{GroundMark as GroundMarkN}
use Rattle.formula_core.specs.declared.ground.Value.{Value}
use Rattle.tableau_core.specs.Numbered.Known.{admitted_in, KnowsAdmitted}

-- ---- one list

first-alone : (a : Bool) → ((a && true && true) || false) ≡ a
first-alone true = refl
first-alone false = refl

second-alone : (a : Bool) → ((true && a && true) || false) ≡ a
second-alone true = refl
second-alone false = refl

third-alone : (a : Bool) → ((true && true && a) || false) ≡ a
third-alone true = refl
third-alone false = refl

-- a list that is not empty tells what kind it is, and it is known of one that is empty
terms-known : (P : Problem) (l : GroundList) (b : Bool) → b ≡ (length (terms_in l) == 0) → (admitted_in P l || b) ≡ are_admitted P (g_terms_tree (terms_in l))
terms-known P (of_terms []) b e = refl
terms-known P (of_terms (x ∷ xs)) b e = let f : b ≡ false = e ∙ grind (arith, nat_tests) in rw f (first-alone (are_admitted P (g_terms_tree (x ∷ xs))))
terms-known P (of_marks xs) b e = rw e (or-true (admitted_in P (of_marks xs)))
terms-known P (of_values xs) b e = rw e (or-true (admitted_in P (of_values xs)))

marks-known : (P : Problem) (l : GroundList) (b : Bool) → b ≡ (length (marks_in l) == 0) → (admitted_in P l || b) ≡ are_admitted_marks P (marks_tree (marks_in l))
marks-known P (of_terms xs) b e = rw e (or-true (admitted_in P (of_terms xs)))
marks-known P (of_marks []) b e = refl
marks-known P (of_marks (x ∷ xs)) b e = let f : b ≡ false = e ∙ grind (arith, nat_tests) in rw f (second-alone (are_admitted_marks P (marks_tree (x ∷ xs))))
marks-known P (of_values xs) b e = rw e (or-true (admitted_in P (of_values xs)))

values-known : (P : Problem) (l : GroundList) (b : Bool) → b ≡ (length (values_in l) == 0) → (admitted_in P l || b) ≡ are_admitted_values P (values_tree (values_in l))
values-known P (of_terms xs) b e = rw e (or-true (admitted_in P (of_terms xs)))
values-known P (of_marks xs) b e = rw e (or-true (admitted_in P (of_marks xs)))
values-known P (of_values []) b e = refl
values-known P (of_values (x ∷ xs)) b e = let f : b ≡ false = e ∙ grind (arith, nat_tests) in rw f (third-alone (are_admitted_values P (values_tree (x ∷ xs))))

-- ---- look-ups

-- r is what is known at the number k, s whether its list has no items
module _ (P : Problem) (ls : List GroundList) (known : List Bool) (k : ℕ) (r s d : Bool) (look : KnowsAdmitted P ls known) (h : k < length known) (e : r ≡ get_or known k d) where
  at-k : r ≡ admitted_in P (list_at ls k)
  at-k = e ∙ get_or_default known k d true h ∙ look k h

  pub terms-looked : (n : ℕ) → s ≡ (n == 0) → n ≡ length (terms_in (list_at ls k)) → (r || s) ≡ are_admitted P (g_terms_tree (terms_in (list_at ls k)))
  terms-looked n f m = ap (λ b. b || s) at-k ∙ terms-known P (list_at ls k) s (f ∙ ap (λ j. j == 0) m)

  pub marks-looked : (n : ℕ) → s ≡ (n == 0) → n ≡ length (marks_in (list_at ls k)) → (r || s) ≡ are_admitted_marks P (marks_tree (marks_in (list_at ls k)))
  marks-looked n f m = ap (λ b. b || s) at-k ∙ marks-known P (list_at ls k) s (f ∙ ap (λ j. j == 0) m)

  pub values-looked : (n : ℕ) → s ≡ (n == 0) → n ≡ length (values_in (list_at ls k)) → (r || s) ≡ are_admitted_values P (values_tree (values_in (list_at ls k)))
  values-looked n f m = ap (λ b. b || s) at-k ∙ values-known P (list_at ls k) s (f ∙ ap (λ j. j == 0) m)

pub or-then : (a b r : Bool) → (a || b) ≡ r → a ≡ true → true ≡ r
or-then true b r e t = e
or-then false b r e t = cc

pub or-else : (a b r : Bool) → (a || b) ≡ r → a ≡ false → b ≡ r
or-else true b r e t = cc
or-else false b r e t = e

pub no-terms : (P : Problem) (xs : List tree.GroundTerm) → xs ≡ [] → true ≡ are_admitted P (g_terms_tree xs)
no-terms P xs e = rw e refl

pub no-marks : (P : Problem) (xs : List tree.GroundMark) → xs ≡ [] → true ≡ are_admitted_marks P (marks_tree xs)
no-marks P xs e = rw e refl

pub no-values : (P : Problem) (xs : List tree.Value) → xs ≡ [] → true ≡ are_admitted_values P (values_tree xs)
no-values P xs e = rw e refl

-- ---- loops over items

pub all-item : {X : Type 0} (Q : X → Type 0) (xs : List X) (k : ℕ) (x d : X) → AllByRecursion Q xs → k < length xs → x ≡ get_or xs k d → Q x
all-item Q [] k x d h lt e = absurd (omega (arith, lt))
all-item Q (y ∷ xs) zero x d h lt e = subst Q (sym e) h.0
all-item Q (y ∷ xs) (suc k) x d h lt e = all-item Q xs k x d h.1 (omega (arith, lt)) e

-- ---- one list more

-- the values of an instance are those of a list of the table, or none
pub values-past : (ls : List GroundList) (k n : ℕ) → length ls ≡ n → n ≤ k → values_in (list_at ls k) ≡ []
values-past ls k n e h = ap values_in (get_or_past ls k (of_terms []) (omega (arith, e, h)))

-- ---- allowed terms

-- in constant domains each term is allowed at each label
mutual
  pub constant-term : (P : Problem) (w : List GroundMark) (t : tree.GroundTerm) → Constant ≡ P.setting.domains → true ≡ is_allowed P w t
  constant-term P w (g_fun f no_g_terms) e = rw (sym e) refl
  constant-term P w (g_fun f (more_g_terms t ts)) e = constant-terms P w ts e ∙ ap (λ b. b && are_allowed P w ts) (constant-term P w t e)
  constant-term P w (g_eigen p vs) e = rw (sym e) refl
  constant-term P w (common k) e = rw (sym e) refl
  constant-term P w (own k h) e = rw (sym e) refl

  constant-terms : (P : Problem) (w : List GroundMark) (ts : GroundTerms) → Constant ≡ P.setting.domains → true ≡ are_allowed P w ts
  constant-terms P w no_g_terms e = refl
  constant-terms P w (more_g_terms t ts) e = constant-terms P w ts e ∙ ap (λ b. b && are_allowed P w ts) (constant-term P w t e)

pub ruleset known = (no-terms, no-marks, no-values)

-- an item of the next list names lists that are known
pub lower-term-item : (ls : List GroundList) (n m : ℕ) (xs : List GroundTerm) (k : ℕ) (d : GroundTerm) → n ≡ m → AllByRecursion (IsLowerTerm ls n) xs → k < length xs → IsLowerTerm ls m (get_or xs k d)
lower-term-item ls n m xs k d e h lt = subst (λ j. IsLowerTerm ls j (get_or xs k d)) e (all-item (IsLowerTerm ls n) xs k (get_or xs k d) d h lt refl)

pub lower-mark-item : (ls : List GroundList) (n m : ℕ) (xs : List GroundMarkN) (k : ℕ) (d : GroundMarkN) → n ≡ m → AllByRecursion (IsLowerMark ls n) xs → k < length xs → IsLowerMark ls m (get_or xs k d)
lower-mark-item ls n m xs k d e h lt = subst (λ j. IsLowerMark ls j (get_or xs k d)) e (all-item (IsLowerMark ls n) xs k (get_or xs k d) d h lt refl)

pub lower-value-item : (ls : List GroundList) (n m : ℕ) (xs : List Value) (k : ℕ) (d : Value) → n ≡ m → AllByRecursion (IsLowerValue ls n) xs → k < length xs → IsLowerValue ls m (get_or xs k d)
lower-value-item ls n m xs k d e h lt = subst (λ j. IsLowerValue ls j (get_or xs k d)) e (all-item (IsLowerValue ls n) xs k (get_or xs k d) d h lt refl)
