-- Solving a system for one list of lengths: each step keeps the solutions, a step that fails shows that there is none, and at the end own
-- spares are one.
use Rattle.std.proofs.Common.{◌≡◌, ℕ, zero, suc, ◌==◌, List, [], ◌∷◌, ◌++◌, length, Bool, true, false, ◌&&◌, ◌||◌, not, nat_le, IsTrue, refl, sym, ◌∙◌, ap, ap₂, subst, Some, None, slice_get, nat_lt, inl, inr, lt-ltb}
use Rattle.std.specs.List.{list_all, AllByRecursion}
use Rattle.std.proofs.lemmas.Bool.{false≢true, and_parts, and_from}
use Rattle.std.proofs.lemmas.Option.{slice_get_within}
use Rattle.plain_laws.proofs.Every.{all-weaken}
use Rattle.calculus.specs.declared.sort.Sort.{Sort}
use Rattle.calculus.specs.declared.sort.Sort.TheVariants.{TermSort, MarkSort, StringSort}
use Rattle.calculus.specs.declared.setting.Logic.{Logic}
use Rattle.calculus.specs.Ground.{GroundLiteral, marks_tree}
use Rattle.calculus.specs.Equality.{literal_eq}
use Rattle.calculus.specs.Instances.{GammaUse}
use Rattle.calculus.specs.Tableaux.{has_unbounded_strings}
use Rattle.calculus.specs.Space.{is_tried_length}
use Rattle.store_theory.specs.Stores.{Cell, variable, Store, parts_of, has_sort_at, is_store, OccursIn, here, in_part, CellValue, a_term, a_mark, a_string, has_sort, Solution, terms_at, label_at, cons_term, join_label, Solves, names_below, GammaCell, IsOwnSpare, AreOwnSpares}
use Rattle.calculus.specs.Labels.{is_step_length}
use Rattle.store_theory.specs.Systems.{CellAtom, Equation, Pair, System, is_label, is_equation, is_gamma_cell, is_cell_atom, is_pair, is_system, OccursInSystem, HasNoOpenString, AreEqual, IsLiteral, Differ, AreUses, bound_of, IsStep, AreEqualNow, AreTried, HaveLengths, IsBoundedSolution, HasSolution, OwnSparesSolve, OwnSparesMeet}
use Rattle.calculus.proofs.EqualityLaws.{literal_eq-tells}
use Rattle.store_theory.specs.Templates.{as_label}
use Rattle.search_theory.specs.States.{label_by, literal_by, Agree}
use Rattle.search_theory.specs.Regular.{AreSame}
use Rattle.search_theory.specs.Solving.{IsSolving, IsClosedSet, HasCells}
use Rattle.search_theory.proofs.SpareLaws.{IsRanked, cell-sorted, terms-there, or-both}
use Rattle.search_theory.proofs.BuildingLaws.{solved-sorted}
use Rattle.search_theory.proofs.DistinctLaws.{IsSpareValue, AreDistinct}
use Rattle.search_theory.proofs.AtomLaws.{atoms-same, literal-by}
use Rattle.search_theory.specs.CellsIn.{IsAtomIn}

-- ---- what a system names is below the size of its store

pub sorted-below : (s : Store) (sort : Sort) (r : ℕ) → IsTrue (has_sort_at s sort r) → IsTrue (nat_lt r (length s.cells))
sorted-below s sort r h = let t = cell-sorted s sort r h in lt-ltb r (length s.cells) (slice_get_within s.cells r t.0 t.1)

pub all-below : (s : Store) (sort : Sort) (rs : List ℕ) → IsTrue (list_all (has_sort_at s sort) rs) → IsTrue (names_below (length s.cells) rs)
all-below s sort [] h = refl
all-below s sort (r ∷ rs) h = let p = and_parts (has_sort_at s sort r) (list_all (has_sort_at s sort) rs) h in and_from (nat_lt r (length s.cells)) (names_below (length s.cells) rs) (sorted-below s sort r p.0) (all-below s sort rs p.1)

pub label-below : (s : Store) (rs : List ℕ) → IsTrue (is_label s rs) → IsTrue (names_below (length s.cells) rs)
label-below s [] h = refl
label-below s (r ∷ rs) h =
    let p = and_parts (has_sort_at s MarkSort r || has_sort_at s StringSort r) (is_label s rs) h in
    and_from (nat_lt r (length s.cells)) (names_below (length s.cells) rs) (one (has_sort_at s MarkSort r) refl p.0) (label-below s rs p.1)
  where
    one : (t : Bool) → has_sort_at s MarkSort r ≡ t → IsTrue (t || has_sort_at s StringSort r) → IsTrue (nat_lt r (length s.cells))
    one true e k = sorted-below s MarkSort r e
    one false e k = sorted-below s StringSort r k

-- ---- solutions that agree on the old cells

pub label_at-agree : (n : ℕ) (σ τ : Solution) → Agree n σ τ → (rs : List ℕ) → IsTrue (names_below n rs) → label_at σ rs ≡ label_at τ rs
label_at-agree n σ τ a [] h = refl
label_at-agree n σ τ a (r ∷ rs) h = let p = and_parts (nat_lt r n) (names_below n rs) h in ap₂ join_label (a r p.0) (label_at-agree n σ τ a rs p.1)

pub terms_at-agree : (n : ℕ) (σ τ : Solution) → Agree n σ τ → (rs : List ℕ) → IsTrue (names_below n rs) → terms_at σ rs ≡ terms_at τ rs
terms_at-agree n σ τ a [] h = refl
terms_at-agree n σ τ a (r ∷ rs) h = let p = and_parts (nat_lt r n) (names_below n rs) h in ap₂ cons_term (a r p.0) (terms_at-agree n σ τ a rs p.1)

pub equal-agree : (s : Store) (σ τ : Solution) → Agree (length s.cells) σ τ → (e : Equation) → IsTrue (is_equation s e) → AreEqual σ e → AreEqual τ e
equal-agree s σ τ a e h (w, l, r) =
    let p = and_parts (is_label s e.left) (is_label s e.right) h in
    (w, sym (label_at-agree (length s.cells) σ τ a e.left (label-below s e.left p.0)) ∙ l, sym (label_at-agree (length s.cells) σ τ a e.right (label-below s e.right p.1)) ∙ r)

equations-agree : (s : Store) (σ τ : Solution) → Agree (length s.cells) σ τ → (es : List Equation) → IsTrue (list_all (is_equation s) es) → AllByRecursion (AreEqual σ) es → AllByRecursion (AreEqual τ) es
equations-agree s σ τ a [] h k = tt
equations-agree s σ τ a (e ∷ es) h k = let p = and_parts (is_equation s e) (list_all (is_equation s) es) h in (equal-agree s σ τ a e p.0 k.0, equations-agree s σ τ a es p.1 k.1)

steps-agree : (l : Logic) (s : Store) (σ τ : Solution) → Agree (length s.cells) σ τ → (rs : List ℕ) → IsTrue (list_all (has_sort_at s StringSort) rs) → AllByRecursion (IsStep l σ) rs → AllByRecursion (IsStep l τ) rs
steps-agree l s σ τ a [] h k = tt
steps-agree l s σ τ a (r ∷ rs) h k =
    let p = and_parts (has_sort_at s StringSort r) (list_all (has_sort_at s StringSort) rs) h in
    ((k.0.0, sym (a r (sorted-below s StringSort r p.0)) ∙ k.0.1, k.0.2), steps-agree l s σ τ a rs p.1 k.1)

pub lengths-agree : (n : ℕ) (σ τ : Solution) → Agree n σ τ → (rs ns : List ℕ) → IsTrue (names_below n rs) → HaveLengths σ rs ns → HaveLengths τ rs ns
lengths-agree n σ τ a [] [] h k = tt
lengths-agree n σ τ a [] (m ∷ ms) h k = k
lengths-agree n σ τ a (r ∷ rs) [] h k = k
lengths-agree n σ τ a (r ∷ rs) (m ∷ ms) h k =
    let p = and_parts (nat_lt r n) (names_below n rs) h in
    ((k.0.0, sym (a r p.0) ∙ k.0.1, k.0.2), lengths-agree n σ τ a rs ms p.1 k.1)

uses-agree : (s : Store) (σ τ : Solution) → Agree (length s.cells) σ τ → (gs : List GammaCell) (us : List GammaUse) → IsTrue (list_all (is_gamma_cell s) gs) → AreUses σ gs us → AreUses τ gs us
uses-agree s σ τ a [] us h k = k
uses-agree s σ τ a (g ∷ gs) us h (u, vs, e, at_g, more) =
    let p = and_parts (is_gamma_cell s g) (list_all (is_gamma_cell s) gs) h in
    let q = and_parts (has_sort_at s TermSort g.term) (is_label s g.label) p.0 in
    (u, vs, e, record { term = sym (a g.term (sorted-below s TermSort g.term q.0)) ∙ at_g.term; label = sym (label_at-agree (length s.cells) σ τ a g.label (label-below s g.label q.1)) ∙ at_g.label }, uses-agree s σ τ a gs vs p.1 more)

literal-stays : (s : Store) (σ τ : Solution) → Agree (length s.cells) σ τ → (x : CellAtom) (v : GroundLiteral) → IsTrue (is_cell_atom s x) → IsLiteral σ x v → IsLiteral τ x v
literal-stays s σ τ a x v h k =
    let p = and_parts (list_all (has_sort_at s TermSort) x.args) (is_label s x.label) h in
    record { sign = k.sign; symbol = k.symbol; args = sym (terms_at-agree (length s.cells) σ τ a x.args (all-below s TermSort x.args p.0)) ∙ k.args; label = sym (label_at-agree (length s.cells) σ τ a x.label (label-below s x.label p.1)) ∙ k.label }

pairs-agree : (s : Store) (σ τ : Solution) → Agree (length s.cells) σ τ → (ps : List Pair) → IsTrue (list_all (is_pair s) ps) → AllByRecursion (Differ σ) ps → AllByRecursion (Differ τ) ps
pairs-agree s σ τ a [] h k = tt
pairs-agree s σ τ a (p ∷ ps) h ((x, y, hx, hy, d), more) =
    let q = and_parts (is_pair s p) (list_all (is_pair s) ps) h in
    let r = and_parts (is_cell_atom s p.upper) (is_cell_atom s p.lower) q.0 in
    ((x, y, literal-stays s σ τ a p.upper x r.0 hx, literal-stays s σ τ a p.lower y r.1 hy, d), pairs-agree s σ τ a ps q.1 more)

-- the parts of `is_system`
pub record SystemParts (s : Store) (y : System) : Type 0 where
  pub equations : IsTrue (list_all (is_equation s) y.equations)
  pub strings : IsTrue (list_all (has_sort_at s StringSort) y.strings)
  pub gammas : IsTrue (list_all (is_gamma_cell s) y.gammas)
  pub pairs : IsTrue (list_all (is_pair s) y.pairs)

pub system-parts : (s : Store) (y : System) → IsTrue (is_system s y) → SystemParts s y
system-parts s y h =
    let a = and_parts (list_all (is_equation s) y.equations && list_all (has_sort_at s StringSort) y.strings && list_all (is_gamma_cell s) y.gammas) (list_all (is_pair s) y.pairs) h in
    let b = and_parts (list_all (is_equation s) y.equations && list_all (has_sort_at s StringSort) y.strings) (list_all (is_gamma_cell s) y.gammas) a.0 in
    let c = and_parts (list_all (is_equation s) y.equations) (list_all (has_sort_at s StringSort) y.strings) b.0 in
    record { equations = c.0; strings = c.1; gammas = b.1; pairs = a.1 }

-- a solution that agrees with a bounded one and solves the store is one
pub bounded-agree : (l : Logic) (Demanded : List GammaUse → Type 0) (s : Store) (y : System) (ns : List ℕ) (σ τ : Solution) → IsTrue (is_system s y) → Agree (length s.cells) σ τ → Solves s τ → IsBoundedSolution l Demanded s y ns σ → IsBoundedSolution l Demanded s y ns τ
bounded-agree l Demanded s y ns σ τ h a t b =
    let p = system-parts s y h in
    let z = b.solution in
    record {
      solution = record {
        solves = t;
        equal = equations-agree s σ τ a y.equations p.equations z.equal;
        steps = steps-agree l s σ τ a y.strings p.strings z.steps;
        demanded = (z.demanded.0, uses-agree s σ τ a y.gammas z.demanded.0 p.gammas z.demanded.1, z.demanded.2);
        apart = pairs-agree s σ τ a y.pairs p.pairs z.apart;
      };
      tried = b.tried;
      lengths = lengths-agree (length s.cells) σ τ a y.strings ns (all-below s StringSort y.strings p.strings) b.lengths;
    }

-- a bounded solution, carried over to the new store
pub carried : (l : Logic) (Demanded : List GammaUse → Type 0) (old new : Store) (y : System) (ns : List ℕ) → IsTrue (is_system old y) → IsSolving l Demanded old y ns new → (σ : Solution) → IsBoundedSolution l Demanded old y ns σ → (τ : Solution) × Solves new τ × Agree (length old.cells) σ τ × IsBoundedSolution l Demanded old y ns τ
carried l Demanded old new y ns h k σ b = let t = k.forth σ b in (t.0, t.1, t.2, bounded-agree l Demanded old y ns σ t.0 h t.2 (k.back t.0 t.1).0 b)

-- ---- the steps

each-at : {A : Type 0} (Q : A → Type 0) (xs : List A) (j : ℕ) (x : A) → AllByRecursion Q xs → slice_get xs j ≡ Some x → Q x
each-at Q [] j x h e = cc e
each-at Q (y ∷ ys) zero x h e = let q : y ≡ x = cc e in subst Q q h.0
each-at Q (y ∷ ys) (suc j) x h e = each-at Q ys j x h.1 e

-- ---- failures

pub none-by_pair : (l : Logic) (Demanded : List GammaUse → Type 0) (old new : Store) (y : System) (ns : List ℕ) (j : ℕ) (p : Pair) → IsTrue (is_system old y) → slice_get y.pairs j ≡ Some p → IsSolving l Demanded old y ns new → AreSame new p.upper p.lower → ¬ HasSolution l Demanded old y ns
none-by_pair l Demanded old new y ns j p h at k same (σ, b) =
    let c = carried l Demanded old new y ns h k σ b in
    let (x, z, hx, hz, d) = each-at (Differ c.0) y.pairs j p c.3.solution.apart at in
    let e : x ≡ z = literal-by c.0 p.upper x hx ∙ same c.0 c.1 ∙ sym (literal-by c.0 p.lower z hz) in
    false≢true (sym d ∙ (literal_eq-tells x z).1 e)

-- ---- the end

occurs-part : (s : Store) (r k i : ℕ) (c : Cell) (q : ℕ) → slice_get s.cells r ≡ Some c → slice_get (parts_of c) i ≡ Some k → OccursIn s r q → OccursIn s k q
occurs-part s r k i c q e p here = in_part i e p here
occurs-part s r k i c q e p (in_part j f g more) = in_part j f g (occurs-part s r k i c _ e p more)

-- what occurs in the system is closed
pub system-set : (s : Store) (y : System) → HasNoOpenString s y → IsClosedSet (OccursInSystem s y) s
system-set s y h = record {
  no_open_string = λ v o e. h v e o;
  names = λ r k i c o e p. (o.0, o.1, o.2, occurs-part s r k i c o.1 e p o.3);
}

pub system-cells : (s : Store) (y : System) → HasCells (OccursInSystem s y) y
system-cells s y i r e = (i, r, e, here)

-- own spares tell the variables of a closed set apart
pub own-distinct : (b : Bool) (In : ℕ → Type 0) (s : Store) (gammas : List GammaCell) (σ : Solution) (number : ℕ → ℕ) → IsClosedSet In s → AreOwnSpares b s gammas σ number → AreDistinct In s σ number
own-distinct b In s gammas σ number h o = record {
  solves = o.solves;
  spares = λ v sort i e. by sort b v i e (o.spares v sort e);
  apart = λ v w sort i j e f q. o.apart v w sort e f q;
  strings = λ v w i j e f. absurd (h.no_open_string v i e);
  names = λ r k c i e p. h.names r k p.0 c i e p.1;
}
  where
    by : (sort : Sort) (t : Bool) (v : ℕ) → In v → slice_get s.cells v ≡ Some (variable sort None) → IsOwnSpare t s gammas σ sort v (number v) → IsSpareValue sort (number v) (σ v)
    by StringSort t v i e k = absurd (h.no_open_string v i e)
    by MarkSort t v i e k = k
    by TermSort true v i e k = inl k
    by TermSort false v i e k = inr (marks_tree k.0, k.2)

pub tried-step : (l : Logic) (b n : ℕ) → IsTrue (is_tried_length l b n) → IsTrue (is_step_length l n)
tried-step l b n h = (and_parts (is_step_length l n) (not (has_unbounded_strings l) || nat_le n b) h).0

pub steps-by_lengths : (l : Logic) (b : ℕ) (σ : Solution) (rs ns : List ℕ) → IsTrue (list_all (is_tried_length l b) ns) → HaveLengths σ rs ns → AllByRecursion (IsStep l σ) rs
steps-by_lengths l b σ [] ns h k = tt
steps-by_lengths l b σ (r ∷ rs) [] h k = absurd k
steps-by_lengths l b σ (r ∷ rs) (n ∷ ns) h k =
    let p = and_parts (is_tried_length l b n) (list_all (is_tried_length l b) ns) h in
    ((k.0.0, k.0.1, subst (λ m. IsTrue (is_step_length l m)) (sym k.0.2) (tried-step l b n p.0)), steps-by_lengths l b σ rs ns p.1 k.1)

-- no pair of the system is the same under the bindings
abbrev pub IsApartNow : Store → Pair → Type 0
IsApartNow s p = ¬ AreSame s p.upper p.lower

abbrev pub PairIn : (ℕ → Type 0) → Store → Pair → Type 0
PairIn In s p = IsAtomIn In s p.upper × IsAtomIn In s p.lower

-- what is needed of the pairs' cells
pub record HasPairsIn (In : ℕ → Type 0) (s : Store) (y : System) : Type 0 where
  pub pairs : AllByRecursion (PairIn In s) y.pairs

pub label-there : (s : Store) (σ : Solution) → Solves s σ → (rs : List ℕ) → IsTrue (is_label s rs) → label_at σ rs ≡ Some (label_by σ rs)
label-there s σ t [] h = refl
label-there s σ t (r ∷ rs) h =
    let p = and_parts (has_sort_at s MarkSort r || has_sort_at s StringSort r) (is_label s rs) h in
    ap (join_label (σ r)) (label-there s σ t rs p.1) ∙ one (σ r) (or-both (has_sort_at s MarkSort r) (has_sort_at s StringSort r) (has_sort MarkSort (σ r)) (has_sort StringSort (σ r)) (solved-sorted s σ t MarkSort r) (solved-sorted s σ t StringSort r) p.0)
  where
    one : (v : CellValue) → IsTrue (has_sort MarkSort v || has_sort StringSort v) → join_label v (Some (label_by σ rs)) ≡ Some (as_label v ++ label_by σ rs)
    one (a_term x) k = absurd (false≢true k)
    one (a_mark m) k = refl
    one (a_string w) k = refl

pub literal-there : (s : Store) (σ : Solution) → Solves s σ → (a : CellAtom) → IsTrue (is_cell_atom s a) → IsLiteral σ a (literal_by σ a)
literal-there s σ t a h =
    let p = and_parts (list_all (has_sort_at s TermSort) a.args) (is_label s a.label) h in
    record { sign = refl; symbol = refl; args = terms-there σ a.args (all-weaken (has_sort_at s TermSort) (λ r. has_sort TermSort (σ r)) (solved-sorted s σ t TermSort) a.args p.0); label = label-there s σ t a.label p.1 }

differ-own : (In : ℕ → Type 0) (s : Store) (rank : ℕ → ℕ) (bound : ℕ) (σ : Solution) (number : ℕ → ℕ) → IsTrue (is_store s) → IsRanked s rank bound → AreDistinct In s σ number → (ps : List Pair) → AllByRecursion (PairIn In s) ps → AllByRecursion (IsApartNow s) ps → AllByRecursion (Differ σ) ps
differ-own In s rank bound σ number h ranked d [] i a = tt
differ-own In s rank bound σ number h ranked d (p ∷ ps) i a = (
  (literal_by σ p.upper, literal_by σ p.lower, literal-there s σ d.solves p.upper i.0.0.sorted, literal-there s σ d.solves p.lower i.0.1.sorted, by (literal_eq (literal_by σ p.upper) (literal_by σ p.lower)) refl),
  differ-own In s rank bound σ number h ranked d ps i.1 a.1,
)
  where
    by : (t : Bool) → literal_eq (literal_by σ p.upper) (literal_by σ p.lower) ≡ t → literal_eq (literal_by σ p.upper) (literal_by σ p.lower) ≡ false
    by false e = e
    by true e = absurd (a.0 (atoms-same In s rank bound σ number h ranked d p.upper p.lower i.0.0 i.0.1 ((literal_eq-tells (literal_by σ p.upper) (literal_by σ p.lower)).0 e)))

equal-now : (s : Store) (σ : Solution) → Solves s σ → (es : List Equation) → AllByRecursion (AreEqualNow s) es → AllByRecursion (AreEqual σ) es
equal-now s σ t [] h = tt
equal-now s σ t (e ∷ es) h = (h.0 σ t, equal-now s σ t es h.1)

-- own spares are a bounded solution where they meet the demand, each equation is made equal, and no pair is the same
pub found : (b : Bool) (l : Logic) (Demanded : List GammaUse → Type 0) (old new : Store) (y : System) (ns : List ℕ) (rank : ℕ → ℕ) (bound : ℕ) (In : ℕ → Type 0) → IsTrue (is_store new) → IsRanked new rank bound → IsClosedSet In new → HasPairsIn In new y → IsSolving l Demanded old y ns new → AreTried l y ns → AllByRecursion (AreEqualNow new) y.equations → AllByRecursion (IsApartNow new) y.pairs → OwnSparesMeet b Demanded new y → OwnSparesSolve b l Demanded new y
found b l Demanded old new y ns rank bound In h ranked closed cells solving tried equal apart (σ, spares, met) =
    let d = own-distinct b In new y.gammas σ (λ v. v) closed spares in
    let lengths = (solving.back σ spares.solves).1 in
    let both = and_parts (length ns == length y.strings) (list_all (is_tried_length l (bound_of y)) ns) tried in (
      σ,
      spares,
      (
        ns,
        record {
          solution = record {
            solves = spares.solves;
            equal = equal-now new σ spares.solves y.equations equal;
            steps = steps-by_lengths l (bound_of y) σ y.strings ns both.1 lengths;
            demanded = met;
            apart = differ-own In new rank bound σ (λ v. v) h ranked d y.pairs cells.pairs apart;
          };
          tried = tried;
          lengths = lengths;
        },
      ),
    )
