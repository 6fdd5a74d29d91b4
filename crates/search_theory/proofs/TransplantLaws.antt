-- Transplants: where cells are the same in an older state and in a newer one, each ground solution of the older one gives them values that
-- some ground solution of the newer one gives them too. So a goal over these cells has the same images by both.
use Rattle.std.proofs.Common.{◌≡◌, ℕ, zero, suc, ◌+◌, ◌<◌, ◌≤◌, List, [], ◌∷◌, length, map, Bool, true, false, ◌&&◌, ◌||◌, IsTrue, refl, sym, ◌∙◌, ap, ap₂, subst, Option, Some, None, slice_get, nat_le, nat_lt, inl, inr, arith, leb-true, le-leb, ltb-true, lt-ltb, take, if◌then◌else◌}
use Rattle.std.specs.List.{list_all, AllByRecursion}
use Rattle.std.specs.Option.{option_map_or}
use Rattle.std.proofs.lemmas.Bool.{false≢true, and_parts, and_from}
use Rattle.calculus.specs.declared.sort.Sort.{Sort}
use Rattle.calculus.specs.declared.sort.Sort.TheVariants.{TermSort, MarkSort, StringSort}
use Rattle.calculus.specs.declared.setting.Logic.{Logic}
use Rattle.calculus.specs.declared.setting.Logic.TheVariants.{Classical, Intuitionistic, D, T as LogicT, S4, S5}
use Rattle.calculus.specs.Syntax.{Problem}
use Rattle.calculus.specs.Equality.{contains}
use Rattle.calculus.specs.Ground.{GroundMark, Value, g_fun, g_eigen, g_new_mark, g_spare_mark, common, marks_tree}
use Rattle.calculus.specs.Labels.{is_step_length}
use Rattle.calculus.specs.Lists.{marks_list-marks_tree}
use Rattle.calculus.specs.Skolem.{are_admitted_marks, is_admitted_value}
use Rattle.calculus.specs.Choices.{start, reduction, extension}
use Rattle.store_theory.specs.Stores.{Cell, variable, fun_cell, eigen_cell, new_cell, string_cell, Store, TrailMark, parts_of, sort_of, is_store, has_value_sort_at, cells_bound_by, cut_at, CellValue, a_term, a_mark, a_string, has_sort, Solution, cons_term, terms_at, cons_value, values_at, cons_mark, marks_at, CellHolds, Solves}
use Rattle.store_theory.specs.Systems.{CellAtom}
use Rattle.store_theory.specs.Templates.{as_value, is_step_value, is_choice_of_values}
use Rattle.store_theory.proofs.SolutionLaws.{FitsOpen, solution_by, solved-sort}
use Rattle.search_theory.specs.Exploring.{IsIn}
use Rattle.search_theory.specs.Jumps.{AreKept, IsValueOf, KeepsUnbound, NamesVariables}
use Rattle.search_theory.specs.LabelledCells.{AreLabelled}
use Rattle.search_theory.specs.States.{CellChoice, CellGoal, State, values_by, literal_by, goal_at, IsAdmittedAt, IsGround}
use Rattle.search_theory.proofs.AdmittedLaws.{IsGood, SparesGood, good-cells}
use Rattle.search_theory.proofs.BuildingLaws.{solved-valued}
use Rattle.search_theory.proofs.LabelledEnd.{admitted-good}
use Rattle.search_theory.specs.CellsIn.{IsChoiceIn, IsPart}
use Rattle.search_theory.proofs.SpareLaws.{IsRanked, terms-alike}
use Rattle.search_theory.specs.SpareRules.{label-alike}

-- ---- values of cells that are the same

terms-follow : (σ τ : Solution) (rs : List ℕ) → ((k : ℕ) → IsPart k rs → τ k ≡ σ k) → terms_at τ rs ≡ terms_at σ rs
terms-follow σ τ [] h = refl
terms-follow σ τ (r ∷ rs) h = ap₂ cons_term (h r (0, refl)) (terms-follow σ τ rs (λ k p. h k (suc p.0, p.1)))

values-follow : (σ τ : Solution) (rs : List ℕ) → ((k : ℕ) → IsPart k rs → τ k ≡ σ k) → values_at τ rs ≡ values_at σ rs
values-follow σ τ [] h = refl
values-follow σ τ (r ∷ rs) h = ap₂ cons_value (h r (0, refl)) (values-follow σ τ rs (λ k p. h k (suc p.0, p.1)))

marks-follow : (σ τ : Solution) (rs : List ℕ) → ((k : ℕ) → IsPart k rs → τ k ≡ σ k) → marks_at τ rs ≡ marks_at σ rs
marks-follow σ τ [] h = refl
marks-follow σ τ (r ∷ rs) h = ap₂ cons_mark (h r (0, refl)) (marks-follow σ τ rs (λ k p. h k (suc p.0, p.1)))

same-item : {A : Type 0} (o q : Option A) (x y : A) → o ≡ q → o ≡ Some x → q ≡ Some y → x ≡ y
same-item o q x y e f g = let z : Some x ≡ Some y = sym f ∙ e ∙ g in cc z

-- a cell has one value by two solutions where its parts have, and it itself where it is an unbound variable
holds-alike : (σ τ : Solution) (r : ℕ) (c : Cell) → CellHolds σ r c → CellHolds τ r c → ((k : ℕ) → IsPart k (parts_of c) → τ k ≡ σ k) → ((sort : Sort) → c ≡ variable sort None → τ r ≡ σ r) → τ r ≡ σ r
holds-alike σ τ r (variable sort None) h k parts free = free sort refl
holds-alike σ τ r (variable sort (Some v)) h k parts free = k.1 ∙ parts v (0, refl) ∙ sym h.1
holds-alike σ τ r (fun_cell f rs) (ts, x, y) (us, z, w) parts free = w ∙ ap (λ q. a_term (g_fun f q)) (same-item (terms_at τ rs) (terms_at σ rs) us ts (terms-follow σ τ rs parts) z x) ∙ sym y
holds-alike σ τ r (eigen_cell p rs) (ts, x, y) (us, z, w) parts free = w ∙ ap (λ q. a_term (g_eigen p q)) (same-item (values_at τ rs) (values_at σ rs) us ts (values-follow σ τ rs parts) z x) ∙ sym y
holds-alike σ τ r (new_cell p rs) (ts, x, y) (us, z, w) parts free = w ∙ ap (λ q. a_mark (g_new_mark p q)) (same-item (values_at τ rs) (values_at σ rs) us ts (values-follow σ τ rs parts) z x) ∙ sym y
holds-alike σ τ r (string_cell rs) (ts, x, y) (us, z, w) parts free = w ∙ ap a_string (same-item (marks_at τ rs) (marks_at σ rs) us ts (marks-follow σ τ rs parts) z x) ∙ sym y

module _ (R : ℕ → Type 0) (old new : Store) (rank : ℕ → ℕ) (bound : ℕ) (ranked : IsRanked new rank bound) (kept : AreKept R old new) (σ τ : Solution) (before : Solves old σ) (after : Solves new τ) (free : (v : ℕ) (sort : Sort) → R v → slice_get new.cells v ≡ Some (variable sort None) → τ v ≡ σ v) where
  agree-below : (n r : ℕ) → R r → rank r < n → τ r ≡ σ r
  agree-below zero r i l = absurd (omega (arith, l))
  agree-below (suc n) r i l =
      let (c, here, there) = kept.same r i in
      holds-alike σ τ r c (before r c there) (after r c here)
      (λ k p. (let fall = ranked.falls r k c here p in agree-below n k (kept.parts r k p.0 c i here p.1) (omega (arith, l, fall))))
      (λ sort e. free r sort i (here ∙ ap Some e))

  pub agree-kept : (r : ℕ) → R r → τ r ≡ σ r
  agree-kept r i = agree-below (suc (rank r)) r i (omega arith)

-- ---- admitted values

value-good : (P : Problem) (v : CellValue) → IsTrue (has_sort TermSort v || has_sort StringSort v) → IsTrue (is_admitted_value P (as_value v)) → IsTrue (is_step_value P.setting.logic (as_value v)) → IsGood P v
value-good P (a_term t) s a l = a
value-good P (a_mark m) s a l = absurd (false≢true s)
value-good P (a_string w) s a l = (a, subst (λ x. IsTrue (is_step_length P.setting.logic (length x))) (marks_list-marks_tree w) l)

all-in : (p : Value → Bool) (σ : Solution) (rs : List ℕ) (i v : ℕ) → slice_get rs i ≡ Some v → IsTrue (list_all p (values_by σ rs)) → IsTrue (p (as_value (σ v)))
all-in p σ [] i v e h = cc e
all-in p σ (r ∷ rs) zero v e h = let q : r ≡ v = cc e in subst (λ x. IsTrue (p (as_value (σ x)))) q (and_parts (p (as_value (σ r))) (list_all p (values_by σ rs)) h).0
all-in p σ (r ∷ rs) (suc i) v e h = all-in p σ rs i v e (and_parts (p (as_value (σ r))) (list_all p (values_by σ rs)) h).1

all-at : (p : ℕ → Bool) (rs : List ℕ) (i v : ℕ) → slice_get rs i ≡ Some v → IsTrue (list_all p rs) → IsTrue (p v)
all-at p [] i v e h = cc e
all-at p (r ∷ rs) zero v e h = let q : r ≡ v = cc e in subst (λ x. IsTrue (p x)) q (and_parts (p r) (list_all p rs) h).0
all-at p (r ∷ rs) (suc i) v e h = all-at p rs i v e (and_parts (p r) (list_all p rs) h).1

clause-good : (P : Problem) (s : Store) (σ : Solution) (rs : List ℕ) (v : ℕ) → Solves s σ → IsTrue (list_all (has_value_sort_at s) rs) → IsTrue (is_choice_of_values P (values_by σ rs)) → IsIn v rs → IsGood P (σ v)
clause-good P s σ rs v t sorted h (i, at) =
    let p = and_parts (list_all (is_admitted_value P) (values_by σ rs)) (list_all (is_step_value P.setting.logic) (values_by σ rs)) h in
    value-good P (σ v) (solved-valued s σ t v (all-at (has_value_sort_at s) rs i v at sorted)) (all-in (is_admitted_value P) σ rs i v at p.0) (all-in (is_step_value P.setting.logic) σ rs i v at p.1)

-- a ground solution gives the variables of copied clauses admitted values
pub variable-good : (P : Problem) (In : ℕ → Type 0) (s : Store) (σ : Solution) (cs : List CellChoice) (v : ℕ) → Solves s σ → AllByRecursion (IsChoiceIn In s) cs → AllByRecursion (IsAdmittedAt P σ) cs → IsValueOf v cs → IsGood P (σ v)
variable-good P In s σ [] v t h a k = absurd k
variable-good P In s σ (start i ∷ cs) v t h a (inl k) = clause-good P s σ i.values v t h.0.sorted a.0 k
variable-good P In s σ (start i ∷ cs) v t h a (inr k) = variable-good P In s σ cs v t h.1 a.1 k
variable-good P In s σ (reduction up ∷ cs) v t h a k = variable-good P In s σ cs v t h.1 a.1 k
variable-good P In s σ (extension i place ∷ cs) v t h a (inl k) = clause-good P s σ i.values v t h.0.sorted a.0 k
variable-good P In s σ (extension i place ∷ cs) v t h a (inr k) = variable-good P In s σ cs v t h.1 a.1 k

-- ---- values for the variables of the newer store

-- a string that is a step
step_string : Logic → List GroundMark
step_string D = g_spare_mark 0 ∷ []
step_string _ = []

step-length : (l : Logic) → IsTrue (is_step_length l (length (step_string l)))
unfolding step_string
step-length Classical = refl
step-length Intuitionistic = refl
step-length D = refl
step-length LogicT = refl
step-length S4 = refl
step-length S5 = refl

-- some admitted value of the sort
some_good : Logic → Sort → CellValue
some_good l TermSort = a_term (common 0)
some_good l MarkSort = a_mark (g_spare_mark 0)
some_good l StringSort = a_string (step_string l)

some-sort : (l : Logic) (sort : Sort) → IsTrue (has_sort sort (some_good l sort))
unfolding some_good
some-sort l TermSort = refl
some-sort l MarkSort = refl
some-sort l StringSort = refl

string-good : (P : Problem) (l : Logic) → P.setting.logic ≡ l → IsGood P (a_string (step_string l))
unfolding step_string
string-good P l e = (marks l, subst (λ x. IsTrue (is_step_length x (length (step_string l)))) (sym e) (step-length l))
  where
    marks : (x : Logic) → IsTrue (are_admitted_marks P (marks_tree (step_string x)))
    marks Classical = refl
    marks Intuitionistic = refl
    marks D = refl
    marks LogicT = refl
    marks S4 = refl
    marks S5 = refl

some-good : (P : Problem) (sort : Sort) → IsGood P (some_good P.setting.logic sort)
unfolding some_good
some-good P TermSort = refl
some-good P MarkSort = refl
some-good P StringSort = string-good P P.setting.logic refl

-- the value by the older solution, where the variable is one of the older store from the number `base` on
chosen : Problem → ℕ → ℕ → Store → Solution → Solution
chosen P base n s σ r = if nat_le base r && nat_lt r n then σ r else some_good P.setting.logic (option_map_or sort_of (slice_get s.cells r) TermSort)

chosen-old : (P : Problem) (base n : ℕ) (s : Store) (σ : Solution) (r : ℕ) → base ≤ r → r < n → chosen P base n s σ r ≡ σ r
unfolding chosen
chosen-old P base n s σ r f l = rw (and_from (nat_le base r) (nat_lt r n) (le-leb base r f) (lt-ltb r n l)) refl

-- what holds of the older values and of the other ones holds of these
chosen-by : (Q : CellValue → Type 0) (P : Problem) (base n : ℕ) (s : Store) (σ : Solution) (r : ℕ) (sort : Sort) → slice_get s.cells r ≡ Some (variable sort None) → (base ≤ r → r < n → Q (σ r)) → Q (some_good P.setting.logic sort) → Q (chosen P base n s σ r)
unfolding chosen
chosen-by Q P base n s σ r sort e old other = by (nat_le base r && nat_lt r n) refl
  where
    plain : some_good P.setting.logic sort ≡ some_good P.setting.logic (option_map_or sort_of (slice_get s.cells r) TermSort)
    plain = ap (λ o. some_good P.setting.logic (option_map_or sort_of o TermSort)) (sym e)

    by : (b : Bool) → (nat_le base r && nat_lt r n) ≡ b → Q (if b then σ r else some_good P.setting.logic (option_map_or sort_of (slice_get s.cells r) TermSort))
    by true t = let p = and_parts (nat_le base r) (nat_lt r n) t in old (leb-true base r p.0) (ltb-true r n p.1)
    by false t = subst Q plain other

-- ---- the transplant

-- a ground solution of the newer state that gives the cells of R the values that they have by the older one
pub record Transplanted (P : Problem) (S : State) (R : ℕ → Type 0) (σ : Solution) : Type 0 where
  pub solution : Solution
  pub ground : IsGround P S solution
  pub agree : (r : ℕ) → R r → solution r ≡ σ r

-- what the two states keep: each unbound variable of the older one is one of a clause, and so on
pub record MayTransplant (P : Problem) (base : ℕ) (Q S : State) (R : ℕ → Type 0) (rank : ℕ → ℕ) (bound : ℕ) : Type 0 where
  pub store : IsTrue (is_store S.store)
  pub ranked : IsRanked S.store rank bound
  pub labelled : AreLabelled P (λ r. base ≤ r) S.store
  pub choices : AllByRecursion (IsChoiceIn (λ r. base ≤ r) S.store) S.choices
  pub older : AllByRecursion (IsChoiceIn (λ r. base ≤ r) Q.store) Q.choices
  pub variables : NamesVariables base Q.store Q.choices
  pub unbound : KeepsUnbound Q.store S.store
  pub kept : AreKept R Q.store S.store
  pub own : (r : ℕ) → R r → base ≤ r

cell-within : (cs : List Cell) (r : ℕ) (c : Cell) → slice_get cs r ≡ Some c → r < length cs
cell-within [] r c e = cc e
cell-within (d ∷ cs) zero c e = omega arith
cell-within (d ∷ cs) (suc r) c e = let l = cell-within cs r c e in omega (arith, l)

pub transplant : (P : Problem) (base : ℕ) (Q S : State) (R : ℕ → Type 0) (rank : ℕ → ℕ) (bound : ℕ) → MayTransplant P base Q S R rank bound → (σ : Solution) → IsGround P Q σ → Transplanted P S R σ
transplant P base Q S R rank bound h σ g = record {
  solution = τ;
  ground = record { solves = solves; admitted = admitted-good P (λ r. base ≤ r) S.store τ solves (good-cells P (λ r. base ≤ r) S.store rank bound τ h.store h.ranked h.labelled solves good) S.choices h.choices };
  agree = agree-kept R Q.store S.store rank bound h.ranked h.kept σ τ g.solves solves free;
}
  where
    n : ℕ
    n = length Q.store.cells

    older : (v : ℕ) (sort : Sort) → slice_get S.store.cells v ≡ Some (variable sort None) → v < n → slice_get Q.store.cells v ≡ Some (variable sort None)
    older v sort e l = h.unbound v sort l e

    fits : FitsOpen S.store (chosen P base n S.store σ)
    fits v sort e = chosen-by (λ x. IsTrue (has_sort sort x)) P base n S.store σ v sort e (λ f l. solved-sort Q.store σ v (variable sort None) g.solves (older v sort e l)) (some-sort P.setting.logic sort)

    found : (τ : Solution) × Solves S.store τ × ((v : ℕ) (sort : Sort) → slice_get S.store.cells v ≡ Some (variable sort None) → τ v ≡ chosen P base n S.store σ v)
    found = solution_by S.store h.store (rank, λ i r k c e p. h.ranked.falls r k c e (i, p)) (chosen P base n S.store σ) fits

    τ : Solution
    τ = found.0

    solves : Solves S.store τ
    solves = found.1

    good : SparesGood P (λ r. base ≤ r) S.store τ
    good v sort i e smaller = subst (IsGood P) (sym (found.2 v sort e))
        (chosen-by (IsGood P) P base n S.store σ v sort e (λ f l. variable-good P (λ r. base ≤ r) Q.store σ Q.choices v g.solves h.older g.admitted (h.variables v sort f (older v sort e l))) (some-good P sort))

    free : (v : ℕ) (sort : Sort) → R v → slice_get S.store.cells v ≡ Some (variable sort None) → τ v ≡ σ v
    free v sort i e = let (c, here, there) = h.kept.same v i in found.2 v sort e ∙ chosen-old P base n S.store σ v (h.own v i) (cell-within Q.store.cells v c there)

-- ---- goals over these cells

-- the atom's cells are of R
pub record IsAtomOf (R : ℕ → Type 0) (a : CellAtom) : Type 0 where
  pub args : (k : ℕ) → IsPart k a.args → R k
  pub label : (k : ℕ) → IsPart k a.label → R k

pub record IsGoalOf (R : ℕ → Type 0) (g : CellGoal) : Type 0 where
  pub literal : IsAtomOf R g.literal
  pub path : AllByRecursion (IsAtomOf R) g.path

atom-alike : (R : ℕ → Type 0) (σ τ : Solution) (a : CellAtom) → ((r : ℕ) → R r → τ r ≡ σ r) → IsAtomOf R a → literal_by τ a ≡ literal_by σ a
atom-alike R σ τ a h i = λ m. record { sign = a.sign; symbol = a.symbol; args = terms-alike τ σ a.args (λ k p. h k (i.args k p)) m; label = label-alike τ σ a.label (λ k p. h k (i.label k p)) m }

path-alike : (R : ℕ → Type 0) (σ τ : Solution) (path : List CellAtom) → ((r : ℕ) → R r → τ r ≡ σ r) → AllByRecursion (IsAtomOf R) path → map (literal_by τ) path ≡ map (literal_by σ) path
path-alike R σ τ [] h i = refl
path-alike R σ τ (a ∷ path) h i = ap₂ (λ x xs. x ∷ xs) (atom-alike R σ τ a h i.0) (path-alike R σ τ path h i.1)

pub goal-alike : (R : ℕ → Type 0) (σ τ : Solution) (g : CellGoal) → ((r : ℕ) → R r → τ r ≡ σ r) → IsGoalOf R g → goal_at τ g ≡ goal_at σ g
goal-alike R σ τ g h i = λ m. record { literal = atom-alike R σ τ g.literal h i.literal m; path = path-alike R σ τ g.path h i.path m }

-- ---- the cut of a mark

-- the cell, unbound where the trail does not name it
abbrev pub cut_cell : Bool → Cell → Cell
cut_cell b (variable sort o) = variable sort (if b then o else None)
cut_cell b (fun_cell f rs) = fun_cell f rs
cut_cell b (eigen_cell p rs) = eigen_cell p rs
cut_cell b (new_cell p rs) = new_cell p rs
cut_cell b (string_cell rs) = string_cell rs

cut-cells : (t : List ℕ) (n i k : ℕ) (cs : List Cell) (c : Cell) → slice_get (cells_bound_by t n (take k cs)) i ≡ Some c → (d : Cell) × (slice_get cs i ≡ Some d) × (c ≡ cut_cell (contains t (n + i)) d)
cut-cells t n i zero cs c e = cc e
cut-cells t n i (suc k) [] c e = cc e
cut-cells t n zero (suc k) (variable sort o ∷ cs) c e = (variable sort o, refl, (let q : variable sort (if contains t n then o else None) ≡ c = cc e in let z : n ≡ n + 0 = omega arith in sym q ∙ ap (λ j. cut_cell (contains t j) (variable sort o)) z))
cut-cells t n zero (suc k) (fun_cell f rs ∷ cs) c e = (fun_cell f rs, refl, (let q : fun_cell f rs ≡ c = cc e in sym q))
cut-cells t n zero (suc k) (eigen_cell p rs ∷ cs) c e = (eigen_cell p rs, refl, (let q : eigen_cell p rs ≡ c = cc e in sym q))
cut-cells t n zero (suc k) (new_cell p rs ∷ cs) c e = (new_cell p rs, refl, (let q : new_cell p rs ≡ c = cc e in sym q))
cut-cells t n zero (suc k) (string_cell rs ∷ cs) c e = (string_cell rs, refl, (let q : string_cell rs ≡ c = cc e in sym q))
cut-cells t n (suc i) (suc k) (variable sort o ∷ cs) c e = later t n i cs c (cut-cells t (suc n) i k cs c e)
  where
    later : (t : List ℕ) (n i : ℕ) (cs : List Cell) (c : Cell) → (d : Cell) × (slice_get cs i ≡ Some d) × (c ≡ cut_cell (contains t (suc n + i)) d) → (d : Cell) × (slice_get cs i ≡ Some d) × (c ≡ cut_cell (contains t (n + suc i)) d)
    later t n i cs c (d, f, q) = (d, f, (let z : suc n + i ≡ n + suc i = omega arith in q ∙ ap (λ j. cut_cell (contains t j) d) z))
cut-cells t n (suc i) (suc k) (fun_cell f rs ∷ cs) c e = let (d, g, q) = cut-cells t (suc n) i k cs c e in let z : suc n + i ≡ n + suc i = omega arith in (d, g, q ∙ ap (λ j. cut_cell (contains t j) d) z)
cut-cells t n (suc i) (suc k) (eigen_cell f rs ∷ cs) c e = let (d, g, q) = cut-cells t (suc n) i k cs c e in let z : suc n + i ≡ n + suc i = omega arith in (d, g, q ∙ ap (λ j. cut_cell (contains t j) d) z)
cut-cells t n (suc i) (suc k) (new_cell f rs ∷ cs) c e = let (d, g, q) = cut-cells t (suc n) i k cs c e in let z : suc n + i ≡ n + suc i = omega arith in (d, g, q ∙ ap (λ j. cut_cell (contains t j) d) z)
cut-cells t n (suc i) (suc k) (string_cell rs ∷ cs) c e = let (d, g, q) = cut-cells t (suc n) i k cs c e in let z : suc n + i ≡ n + suc i = omega arith in (d, g, q ∙ ap (λ j. cut_cell (contains t j) d) z)

-- each cell of the cut is one of the store, bound or not
pub cut-is : (m : TrailMark) (s : Store) (r : ℕ) (c d : Cell) → slice_get (cut_at m s).cells r ≡ Some c → slice_get s.cells r ≡ Some d → (b : Bool) × (c ≡ cut_cell b d)
cut-is m s r c d e f =
    let (x, g, q) = cut-cells (take m.entries s.trail) 0 r m.cells s.cells c e in
    let same : x ≡ d = let z : Some x ≡ Some d = sym g ∙ f in cc z in
    (contains (take m.entries s.trail) (0 + r), q ∙ ap (cut_cell (contains (take m.entries s.trail) (0 + r))) same)

no-binding : (b : Bool) (sort : Sort) → cut_cell b (variable sort None) ≡ variable sort None
no-binding true sort = refl
no-binding false sort = refl

pub some-cell : (cs : List Cell) (r : ℕ) → r < length cs → (c : Cell) × (slice_get cs r ≡ Some c)
some-cell [] r l = absurd (omega (arith, l))
some-cell (c ∷ cs) zero l = (c, refl)
some-cell (c ∷ cs) (suc r) l = some-cell cs r (omega (arith, l))

-- a variable without a binding has none in the cut
pub cut-unbound : (m : TrailMark) (s : Store) → KeepsUnbound (cut_at m s) s
cut-unbound m s v sort l e =
    let (c, f) = some-cell (cut_at m s).cells v l in
    let (d, g, q) = cut-cells (take m.entries s.trail) 0 v m.cells s.cells c f in
    let same : d ≡ variable sort None = let z : Some d ≡ Some (variable sort None) = sym g ∙ e in cc z in
    f ∙ ap Some (q ∙ ap (cut_cell (contains (take m.entries s.trail) (0 + v))) same ∙ no-binding (contains (take m.entries s.trail) (0 + v)) sort)
