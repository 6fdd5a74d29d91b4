-- The loops that gather the system of the tree.
use Rattle.std.proofs.Common.{◌≡◌, ◌+◌, ◌-◌, ◌<◌, ◌≤◌, append_assoc, append-nil, ℕ, suc, List, [], ◌∷◌, ◌++◌, drop, length, refl, sum_by, sym, ◌∙◌, ap, ap₂, subst, Option, None, Some, slice_get, arith}
use Rattle.std.specs.List.{flat_map}
use Rattle.plain_laws.proofs.Places.{drop-end, drop-there, get-there}
use Rattle.plain_laws.proofs.Options.{same-some}
use Rattle.store_theory.specs.Bindings.{places_from}
use Rattle.calculus.specs.declared.sort.Sort.{Sort}
use Rattle.calculus.specs.declared.sort.Sort.TheVariants.{TermSort, MarkSort, StringSort}
use Rattle.store_theory.specs.Systems.{CellAtom, Pair}
use Rattle.search_theory.specs.StateSystems.{pairs_of, pairs_with, string_cells}
use Rattle.search_theory.specs.States.{CellGoal}
use Rattle.search_tree.specs.Trees.{AreGoals, HasAtom, IsGoalAt, IsPath, atom_at}
use Rattle.search_tree.specs.declared.tree.Goal.{Goal}
use Rattle.search_tree.specs.declared.tree.Step.{Step}
use Rattle.search_tree.proofs.TreeLaws.{AncestorAt, ancestor-on, goal-at, goals-length}

-- ---- what f gives for the first items was gathered

abbrev pub Gathers : {X A : Type 0} → (X → List A) → List X → List A → ℕ → Type 0
Gathers f xs out i = out ++ flat_map f (drop i xs) ≡ flat_map f xs

-- ---- the same with a sum

abbrev pub Sums : {X : Type 0} → (X → ℕ) → List X → ℕ → ℕ → Type 0
Sums f xs total i = total + sum_by f (drop i xs) ≡ sum_by f xs

-- ---- the variables for strings

string-more : (s : Sort) (r : ℕ) (sorts : List Sort) (rs : List ℕ) → string_cells (s ∷ sorts) (r ∷ rs) ≡ string_cells (s ∷ []) (r ∷ []) ++ string_cells sorts rs
string-more TermSort r sorts rs = refl
string-more MarkSort r sorts rs = refl
string-more StringSort r sorts rs = refl

string-none : (sorts : List Sort) → string_cells sorts [] ≡ []
string-none [] = refl
string-none (s ∷ sorts) = refl

-- those of the first k variables were added
abbrev pub StringsTo : List Sort → ℕ → ℕ → List ℕ → List ℕ → ℕ → Type 0
StringsTo sorts first count start out k = out ++ string_cells (drop k sorts) (places_from (first + k) (count - k)) ≡ start ++ string_cells sorts (places_from first count)

strings-next : (sorts : List Sort) (first count : ℕ) (start out new : List ℕ) (k : ℕ) (s : Sort) → StringsTo sorts first count start out k → k < count → slice_get sorts k ≡ Some s → new ≡ out ++ string_cells (s ∷ []) ((first + k) ∷ []) → StringsTo sorts first count start new (k + 1)
strings-next sorts first count start out new k s h l at e =
    let more : k + 1 ≡ suc k = omega arith in
    let a : first + (k + 1) ≡ suc (first + k) = omega arith in
    let b : count - k ≡ suc (count - suc k) = omega (arith, l) in
    let c : count - (k + 1) ≡ count - suc k = omega arith in
    let rest = string_cells (drop (suc k) sorts) (places_from (suc (first + k)) (count - suc k)) in
    ap₂ (λ o ys. o ++ ys) e (ap (λ n. string_cells (drop n sorts) (places_from (first + (k + 1)) (count - (k + 1)))) more ∙ ap₂ (λ p n. string_cells (drop (suc k) sorts) (places_from p n)) a c)
    ∙ append_assoc out (string_cells (s ∷ []) ((first + k) ∷ [])) rest
    ∙ ap (λ ys. out ++ ys) (sym (string-more s (first + k) (drop (suc k) sorts) (places_from (suc (first + k)) (count - suc k))) ∙ ap₂ (λ ss n. string_cells ss (places_from (first + k) n)) (sym (drop-there sorts k s at)) (sym b))
    ∙ h

pub strings-at : (sorts : List Sort) (first count : ℕ) (start out new : List ℕ) (k place : ℕ) (s : Sort) → StringsTo sorts first count start out k → k < count → slice_get sorts k ≡ Some s → place ≡ first + k → new ≡ out ++ string_cells (s ∷ []) (place ∷ []) → StringsTo sorts first count start new (k + 1)
strings-at sorts first count start out new k place s h l at q e = strings-next sorts first count start out new k s h l at (e ∙ ap (λ n. out ++ string_cells (s ∷ []) (n ∷ [])) q)

pub strings-end : (sorts : List Sort) (first count : ℕ) (start out : List ℕ) (k : ℕ) → StringsTo sorts first count start out k → count ≤ k → out ≡ start ++ string_cells sorts (places_from first count)
strings-end sorts first count start out k h l =
    let z : count - k ≡ 0 = omega (arith, l) in
    sym (append-nil out) ∙ ap (λ ys. out ++ ys) (sym (string-none (drop k sorts)) ∙ ap (λ n. string_cells (drop k sorts) (places_from (first + k) n)) (sym z)) ∙ h

-- no sort is left
pub strings-out : (sorts : List Sort) (first count : ℕ) (start out : List ℕ) (k : ℕ) → StringsTo sorts first count start out k → length sorts ≤ k → out ≡ start ++ string_cells sorts (places_from first count)
strings-out sorts first count start out k h l = sym (append-nil out) ∙ ap (λ ss. out ++ string_cells ss (places_from (first + k) (count - k))) (sym (drop-end sorts k l)) ∙ h

-- ---- the pairs of one goal

-- those with the goals above it before `above` were added
pub record PairsTo (steps : List Step) (goals : List Goal) (goal : ℕ) (start out : List Pair) (above : Option ℕ) (i : ℕ) : Type 0 where
  pub path : (x : CellGoal) → IsGoalAt steps goals goal x → IsPath steps goals above (drop i x.path)
  pub pairs : (x : CellGoal) → IsGoalAt steps goals goal x → out ++ pairs_with x.literal (drop i x.path) ≡ start ++ pairs_with x.literal x.path

pub pair-ancestor : (steps : List Step) (goals : List Goal) (goal j i : ℕ) (start out : List Pair) (above : Option ℕ) (x : CellGoal) → PairsTo steps goals goal start out above i → above ≡ Some j → IsGoalAt steps goals goal x → AncestorAt steps goals x j i
pair-ancestor steps goals goal j i start out above x h e g = ancestor-on steps goals x j i (subst (λ k. IsPath steps goals k (drop i x.path)) e (h.path x g))

pub pair-wanted : (steps : List Step) (goals : List Goal) (goal j i : ℕ) (start out : List Pair) (above : Option ℕ) (x : CellGoal) → PairsTo steps goals goal start out above i → above ≡ Some j → IsGoalAt steps goals goal x → HasAtom steps goals j
pair-wanted steps goals goal j i start out above x h e g = let w = pair-ancestor steps goals goal j i start out above x h e g in (w.goal, w.atom, w.stands, w.is_atom)

pub pairs-next : (steps : List Step) (goals : List Goal) (goal j i : ℕ) (start out new : List Pair) (above : Option ℕ) (next : Goal) → PairsTo steps goals goal start out above i → above ≡ Some j → slice_get goals j ≡ Some next → ((g h : Goal) (a b : CellAtom) → slice_get goals goal ≡ Some g → atom_at steps g ≡ Some a → slice_get goals j ≡ Some h → atom_at steps h ≡ Some b → new ≡ out ++ record { upper = b; lower = a } ∷ []) → PairsTo steps goals goal start new next.above (i + 1)
pairs-next steps goals goal j i start out new above next h e at added = record {
  path = λ x g.
      let w = pair-ancestor steps goals goal j i start out above x h e g in
      subst (λ (k : Goal). IsPath steps goals k.above (drop (i + 1) x.path)) (same-some (slice_get goals j) w.goal next w.stands at) w.rest;
  pairs = λ x g.
      let w = pair-ancestor steps goals goal j i start out above x h e g in
      let more : i + 1 ≡ suc i = omega arith in
      ap₂ (λ o n. o ++ pairs_with x.literal (drop n x.path)) (added g.goal w.goal x.literal w.atom g.stands g.is_goal.literal w.stands w.is_atom) more
      ∙ append_assoc out (record { upper = w.atom; lower = x.literal } ∷ []) (pairs_with x.literal (drop (suc i) x.path))
      ∙ ap (λ ys. out ++ pairs_with x.literal ys) (sym (drop-there x.path i w.atom w.on_path))
      ∙ h.pairs x g;
}

-- all goals above it were looked at
pub pairs-out : (steps : List Step) (goals : List Goal) (goal i : ℕ) (start out : List Pair) (above : Option ℕ) → PairsTo steps goals goal start out above i → above ≡ None → (x : CellGoal) → IsGoalAt steps goals goal x → out ≡ start ++ pairs_with x.literal x.path
pairs-out steps goals goal i start out above h e x g = by (drop i x.path) (subst (λ k. IsPath steps goals k (drop i x.path)) e (h.path x g)) (h.pairs x g)
  where
    by : (p : List CellAtom) → IsPath steps goals None p → out ++ pairs_with x.literal p ≡ start ++ pairs_with x.literal x.path → out ≡ start ++ pairs_with x.literal x.path
    by [] q r = sym (append-nil out) ∙ r
    by (a ∷ p) (k, z, at, stands, atom, rest) r = let w : None ≡ Some k = at in absurd (cc w)

pub pairs-end : (steps : List Step) (goals : List Goal) (goal i : ℕ) (start out : List Pair) (above : Option ℕ) (at : Goal) → PairsTo steps goals goal start out above i → slice_get goals goal ≡ Some at → at.depth ≤ i → (x : CellGoal) → IsGoalAt steps goals goal x → out ≡ start ++ pairs_with x.literal x.path
pairs-end steps goals goal i start out above at h e l x g =
    let same = ap (λ (z : Goal). z.depth) (same-some (slice_get goals goal) g.goal at g.stands e) in
    let d = g.is_goal.depth in
    sym (append-nil out) ∙ ap (λ ys. out ++ pairs_with x.literal ys) (sym (drop-end x.path i (omega (arith, same, d, l)))) ∙ h.pairs x g

-- ---- the pairs of all goals

-- those of the first i goals were added
abbrev pub AllPairsTo : List Step → List Goal → List Pair → ℕ → Type 0
AllPairsTo steps goals out i = (xs : List CellGoal) → AreGoals steps goals goals xs → out ++ pairs_of (drop i xs) ≡ pairs_of xs

pub all_pairs-next : (steps : List Step) (goals : List Goal) (out new : List Pair) (i : ℕ) → AllPairsTo steps goals out i → i < length goals → ((x : CellGoal) → IsGoalAt steps goals i x → new ≡ out ++ pairs_with x.literal x.path) → AllPairsTo steps goals new (i + 1)
all_pairs-next steps goals out new i h l added xs g =
    let (k, at) = get-there goals i l in
    let (x, on, is) = goal-at steps goals xs i k g at in
    let more : i + 1 ≡ suc i = omega arith in
    ap₂ (λ o n. o ++ pairs_of (drop n xs)) (added x is) more
    ∙ append_assoc out (pairs_with x.literal x.path) (pairs_of (drop (suc i) xs))
    ∙ ap (λ ys. out ++ pairs_of ys) (sym (drop-there xs i x on))
    ∙ h xs g

pub all_pairs-end : (steps : List Step) (goals : List Goal) (out : List Pair) (i : ℕ) → AllPairsTo steps goals out i → length goals ≤ i → (xs : List CellGoal) → AreGoals steps goals goals xs → out ≡ pairs_of xs
all_pairs-end steps goals out i h l xs g =
    let n = goals-length steps goals goals xs g in
    sym (append-nil out) ∙ ap (λ ys. out ++ pairs_of ys) (sym (drop-end xs i (omega (arith, n, l)))) ∙ h xs g

-- what add_pairs asks for
pub pairs-wanted : (steps : List Step) (goals : List Goal) (i : ℕ) (xs : List CellGoal) → AreGoals steps goals goals xs → i < length goals → (x : CellGoal) × IsGoalAt steps goals i x
pairs-wanted steps goals i xs g l =
    let (k, at) = get-there goals i l in
    let (x, on, is) = goal-at steps goals xs i k g at in
    (x, is)
