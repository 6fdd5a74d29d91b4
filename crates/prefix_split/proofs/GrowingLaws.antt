-- The tree of beginnings grows step by step, label by label and equation by equation.
use Rattle.std.proofs.Common.{◌≡◌, ◌⊎◌, ℕ, zero, suc, ◌+◌, ◌<◌, ◌≤◌, List, [], ◌∷◌, ◌++◌, length, drop, take, Bool, true, false, ◌==◌, eqb-true, eq-eqb, if◌then◌else◌, IsTrue, refl, sym, ◌∙◌, ap, ap₂, subst, None, Some, slice_get, inl, inr, arith, append_assoc, append-nil, length-append, leb-true}
use Rattle.std.specs.List.{AllByRecursion, flat_map}
use Rattle.std.proofs.lemmas.Bool.{and_parts, false≢true}
use Rattle.plain_laws.proofs.Every.{all-at}
use Rattle.plain_laws.proofs.Places.{get-front, get-end, get-within}
use Rattle.calculus.specs.declared.setting.Logic.{Logic}
use Rattle.calculus.specs.declared.setting.Logic.TheVariants.{Classical, Intuitionistic, D, T as LogicT, S4, S5}
use Rattle.calculus.specs.declared.sort.Sort.TheVariants.{TermSort, MarkSort, StringSort}
use Rattle.store_theory.specs.Bindings.{EndsIn, IsEnd}
use Rattle.calculus.specs.Ground.{GroundMark}
use Rattle.calculus.specs.Equality.{mark_eq}
use Rattle.calculus.specs.Labels.{is_prefix, is_step_length}
use Rattle.store_theory.specs.Stores.{Cell, variable, fun_cell, eigen_cell, new_cell, string_cell, Store, is_bound, has_sort_at, has_sort, names_below, EndsAt, CellValue, a_term, a_mark, a_string, Solution, Solves, GammaCell}
use Rattle.store_theory.specs.Systems.{Equation, Pair, System, AreEqual, IsOpenString, IsStep, NamesItsStrings, cells_of_atom, is_equation, is_label, is_system}
use Rattle.store_theory.specs.Templates.{as_label}
use Rattle.store_theory.proofs.BindingLaws.{has_sort-from}
use Rattle.calculus.proofs.EqualityLaws.{mark_eq-tells}
use Rattle.search_theory.specs.States.{label_by}
use Rattle.search_theory.proofs.AtomLaws.{label-append, label_at-by}
use Rattle.search_theory.proofs.BuildingLaws.{solved-sorted}
use Rattle.search_theory.proofs.GivingLaws.{ends-same}
use Rattle.search_theory.proofs.SolvingLaws.{label-below, system-parts}
use Rattle.term_store.specs.Homes.{BeginsLabel, Home, is_home}
use Rattle.term_store.specs.Shown.{head_of}
use Rattle.term_store.specs.declared.cell.Head.{Head}
use Rattle.term_store.specs.declared.cell.Ref.{Ref}
use Rattle.term_unify.proofs.FlatLaws.{ends-occurs}
use Rattle.term_unify.proofs.PairLaws.{told}
use Rattle.prefix_split.specs.declared.node.Node.{Node}
use Rattle.prefix_split.specs.declared.node.Step.{Step}
use Rattle.prefix_split.specs.declared.node.Step.TheVariants.{Root, Mark, Short, Long}
use Rattle.prefix_split.specs.Beginnings.{AllBegin, AreValues, Begins, HasExtent, IsNode, IsRelated, StepFits, item_of, step_marks}
use Rattle.prefix_split.specs.Growing.{AreSteps, EndsString, Extends, HasValues, IsAsked, IsGrown, IsNamed, IsNamedEquation, IsNodeOf, IsReached, IsTree, has_short_steps, is_mark_head, is_open_string_head, step_relation}
use Rattle.prefix_split.proofs.ListItems.{item-flat, item-left, item-right}
use Rattle.prefix_split.proofs.OrderLaws.{equal-begins, last-item, mark-behind, node-behind}

-- ---- lists

take-there : {A : Type 0} (xs : List A) (i : ℕ) (x : A) → slice_get xs i ≡ Some x → take (suc i) xs ≡ take i xs ++ x ∷ []
take-there [] i x e = let q : None ≡ Some x = e in cc q
take-there (y ∷ xs) zero x e = let q : y ≡ x = cc e in ap (λ z. z ∷ []) q
take-there (y ∷ xs) (suc i) x e = ap (λ zs. y ∷ zs) (take-there xs i x e)

take-whole : {A : Type 0} (xs : List A) (i : ℕ) → length xs ≤ i → take i xs ≡ xs
take-whole [] zero l = refl
take-whole [] (suc i) l = refl
take-whole (y ∷ xs) zero l = absurd (omega (arith, l))
take-whole (y ∷ xs) (suc i) l = ap (λ zs. y ∷ zs) (take-whole xs i (omega (arith, l)))

pub all-there : {A : Type 0} (P : A → Type 0) (xs : List A) (i : ℕ) (x : A) → AllByRecursion P xs → slice_get xs i ≡ Some x → P x
all-there P [] i x h e = let q : None ≡ Some x = e in cc q
all-there P (y ∷ xs) zero x h e = let q : y ≡ x = cc e in subst P q h.0
all-there P (y ∷ xs) (suc i) x h e = all-there P xs i x h.1 e

-- the labels with another one at a number
changed : ℕ → List GroundMark → (ℕ → List GroundMark) → ℕ → List GroundMark
changed k w value u = if u == k then w else value u

changed-there : (k : ℕ) (w : List GroundMark) (value : ℕ → List GroundMark) → changed k w value k ≡ w
unfolding changed
changed-there k w value = ap (λ t. if t then w else value k) (eq-eqb k k refl)

changed-other : (k : ℕ) (w : List GroundMark) (value : ℕ → List GroundMark) (u : ℕ) → u < k → changed k w value u ≡ value u
unfolding changed
changed-other k w value u l = by (u == k) refl
  where
    by : (t : Bool) → (u == k) ≡ t → (if t then w else value u) ≡ value u
    by true e = let q = eqb-true u k e in absurd (omega (arith, q, l))
    by false e = refl

-- ---- steps

mark-one : (v : CellValue) → IsTrue (has_sort MarkSort v) → length (as_label v) ≡ 1
mark-one (a_mark m) h = refl
mark-one (a_term t) h = absurd (false≢true h)
mark-one (a_string w) h = absurd (false≢true h)

pub mark-extent : (s : Store) (σ : Solution) (v : ℕ) → Solves s σ → IsTrue (has_sort_at s MarkSort v) → length (as_label (σ v)) ≡ 1
mark-extent s σ v h k = mark-one (σ v) (solved-sorted s σ h MarkSort v k)

length-short : (l : Logic) (n : ℕ) → has_short_steps l ≡ true → IsTrue (is_step_length l n) → n ≤ 1
length-short Classical n e h = let q = eqb-true n 0 h in omega (arith, q)
length-short Intuitionistic n e h = absurd (false≢true e)
length-short D n e h = let q = eqb-true n 1 h in omega (arith, q)
length-short LogicT n e h = leb-true n 1 h
length-short S4 n e h = absurd (false≢true e)
length-short S5 n e h = leb-true n 1 h

pub short-extent : (l : Logic) (s : Store) (strings : List ℕ) (σ : Solution) (v : ℕ) → Solves s σ → has_short_steps l ≡ true → EndsString s strings v → AreSteps l strings σ → length (as_label (σ v)) ≤ 1
short-extent l s strings σ v h e (i, r, at, ends) steps =
    let (w, is, long) = all-there (IsStep l σ) strings i r steps at in
    let q : as_label (σ v) ≡ w = ap as_label (sym (ends-same s r v ends σ h) ∙ is) in
    subst (λ x. length x ≤ 1) (sym q) (length-short l (length w) e long)

pub end-marks : (s : Store) (r v : ℕ) → EndsAt s r v → (σ : Solution) → Solves s σ → as_label (σ v) ≡ as_label (σ r)
end-marks s r v ends σ h = ap as_label (sym (ends-same s r v ends σ h))

pub mark-end : (s : Store) (v : ℕ) (head : Head) → IsEnd s v → EndsIn s v (λ c. head_of c ≡ head) → is_mark_head head ≡ true → IsTrue (has_sort_at s MarkSort v)
mark-end s v head (c, e, b) t m = by c e b (ap is_mark_head (told s v c (λ d. head_of d ≡ head) e b t) ∙ m)
  where
    by : (d : Cell) → slice_get s.cells v ≡ Some d → is_bound d ≡ false → is_mark_head (head_of d) ≡ true → IsTrue (has_sort_at s MarkSort v)
    by (variable MarkSort None) f u h = has_sort-from s MarkSort v (variable MarkSort None) f refl
    by (variable StringSort None) f u h = absurd (false≢true h)
    by (variable TermSort None) f u h = absurd (false≢true h)
    by (variable x (Some k)) f u h = absurd (false≢true (sym u))
    by (fun_cell g rs) f u h = absurd (false≢true h)
    by (eigen_cell g rs) f u h = absurd (false≢true h)
    by (new_cell g rs) f u h = has_sort-from s MarkSort v (new_cell g rs) f refl
    by (string_cell rs) f u h = absurd (false≢true h)

pub string-end : (s : Store) (v : ℕ) (head : Head) → IsEnd s v → EndsIn s v (λ c. head_of c ≡ head) → is_open_string_head head ≡ true → IsOpenString s v
string-end s v head (c, e, b) t m = by c e b (ap is_open_string_head (told s v c (λ d. head_of d ≡ head) e b t) ∙ m)
  where
    by : (d : Cell) → slice_get s.cells v ≡ Some d → is_bound d ≡ false → is_open_string_head (head_of d) ≡ true → IsOpenString s v
    by (variable MarkSort None) f u h = absurd (false≢true h)
    by (variable StringSort None) f u h = f
    by (variable TermSort None) f u h = absurd (false≢true h)
    by (variable x (Some k)) f u h = absurd (false≢true (sym u))
    by (fun_cell g rs) f u h = absurd (false≢true h)
    by (eigen_cell g rs) f u h = absurd (false≢true h)
    by (new_cell g rs) f u h = absurd (false≢true h)
    by (string_cell rs) f u h = absurd (false≢true h)

some-fits : (size : ℕ) (r q : Ref) → r.0 < size → Some r ≡ Some q → q.0 < size
some-fits size r q l e = let z : r ≡ q = cc e in subst (λ x. x.0 < size) z l

pub mark-fits : (size : ℕ) (r : Ref) → r.0 < size → StepFits size (Mark r)
mark-fits size r l q e = some-fits size r q l e

pub short-fits : (size : ℕ) (r : Ref) → r.0 < size → StepFits size (Short r)
short-fits size r l q e = some-fits size r q l e

pub long-fits : (size : ℕ) (r : Ref) → r.0 < size → StepFits size (Long r)
long-fits size r l q e = some-fits size r q l e

-- ---- nodes

pub extends-both : (a b c : List Node) → Extends a b → Extends b c → Extends a c
extends-both a b c (xs, e) (ys, f) = (xs ++ ys, f ∙ ap (λ z. z ++ ys) e ∙ append_assoc a xs ys)

-- the labels of a tree are those of the trees from which it grew
pub values-before : (σ : Solution) (value : ℕ → List GroundMark) (a b : List Node) → Extends a b → AreValues σ value b → AreValues σ value a
values-before σ value a b (xs, e) h = record { root = h.root; each = λ u n at. h.each u n (ap (λ z. slice_get z u) e ∙ get-front a xs u n at) }

pub node-is : (σ : Solution) (value : ℕ → List GroundMark) (nodes : List Node) (u : ℕ) (n : Node) (parent : ℕ) (step : Step) → AreValues σ value nodes → slice_get nodes u ≡ Some n → n.parent ≡ parent → step_marks σ n.step ≡ step_marks σ step → value u ≡ value parent ++ step_marks σ step
node-is σ value nodes u n parent step h e p q = (h.each u n e).joined ∙ ap (λ k. value k ++ step_marks σ n.step) p ∙ ap (λ s. value parent ++ s) q

pub grown-there : (s : Store) (nodes : List Node) (parent : ℕ) (step : Step) (u : ℕ) → IsTree (length s.cells) nodes → u < length nodes → ((σ : Solution) (value : ℕ → List GroundMark) → Solves s σ → AreValues σ value nodes → value u ≡ value parent ++ step_marks σ step) → IsGrown s nodes nodes parent step u
grown-there s nodes parent step u tree within is = record { tree = tree; extends = ([], sym (append-nil nodes)); values = λ σ h k v. v; within = within; is = is }

tree-more : (size : ℕ) (nodes : List Node) (n : Node) → IsTree size nodes → n.parent < length nodes → StepFits size n.step → IsTree size (nodes ++ n ∷ [])
tree-more size nodes n tree l fits = record {
  some = let q = length-append nodes (n ∷ []) in let p = tree.some in omega (arith, p, q);
  parents = λ u m e. parent u m (last-item nodes n m u e);
  fits = λ u m e. fit u m (last-item nodes n m u e);
}
  where
    parent : (u : ℕ) (m : Node) → (slice_get nodes u ≡ Some m) ⊎ ((u ≡ length nodes) × (n ≡ m)) → m.parent ≤ u
    parent u m (inl p) = tree.parents u m p
    parent u m (inr p) = let a = p.0 in let b = ap (λ (x : Node). x.parent) p.1 in omega (arith, a, b, l)

    fit : (u : ℕ) (m : Node) → (slice_get nodes u ≡ Some m) ⊎ ((u ≡ length nodes) × (n ≡ m)) → StepFits size m.step
    fit u m (inl p) = tree.fits u m p
    fit u m (inr p) = subst (λ (x : Node). StepFits size x.step) p.1 fits

values-more : (size : ℕ) (σ : Solution) (nodes : List Node) (n : Node) → IsTree size nodes → n.parent < length nodes → HasExtent σ n.step → HasValues σ nodes → HasValues σ (nodes ++ n ∷ [])
values-more size σ nodes n tree l extent (value, h) = (
  more,
  record {
    root = same 0 tree.some ∙ h.root;
    each = λ u m e. node u m (last-item nodes n m u e);
  },
)
  where
    w : List GroundMark
    w = value n.parent ++ step_marks σ n.step

    more : ℕ → List GroundMark
    more = changed (length nodes) w value

    same : (u : ℕ) → u < length nodes → more u ≡ value u
    same u k = changed-other (length nodes) w value u k

    node : (u : ℕ) (m : Node) → (slice_get nodes u ≡ Some m) ⊎ ((u ≡ length nodes) × (n ≡ m)) → IsNode σ more u m
    node u m (inl p) =
        let k = h.each u m p in
        let below = get-within nodes u m p in
        let before = tree.parents u m p in
        record { joined = same u below ∙ k.joined ∙ ap (λ x. x ++ step_marks σ m.step) (sym (same m.parent (omega (arith, below, before)))); extent = k.extent }
    node u m (inr p) = subst (IsNode σ more u) p.1 (record {
      joined = ap more p.0 ∙ changed-there (length nodes) w value ∙ ap (λ x. x ++ step_marks σ n.step) (sym (same n.parent l));
      extent = extent;
    })

pub grown-more : (s : Store) (nodes : List Node) (n : Node) → IsTree (length s.cells) nodes → n.parent < length nodes → StepFits (length s.cells) n.step → IsGrown s nodes (nodes ++ n ∷ []) n.parent n.step (length nodes)
grown-more s nodes n tree l fits = record {
  tree = tree-more (length s.cells) nodes n tree l fits;
  extends = (n ∷ [], refl);
  values = λ σ h extent v. values-more (length s.cells) σ nodes n tree l extent v;
  within = let q = length-append nodes (n ∷ []) in omega (arith, q);
  is = λ σ value h v. (v.each (length nodes) n (get-end nodes n)).joined;
}

pub root-tree : (size : ℕ) (n : Node) → n.parent ≡ 0 → n.step ≡ Root → IsTree size (n ∷ [])
root-tree size n parent step = record {
  some = omega arith;
  parents = λ u m e. before u m e;
  fits = λ u m e. fit u m e;
}
  where
    before : (u : ℕ) (m : Node) → slice_get (n ∷ []) u ≡ Some m → m.parent ≤ u
    before zero m e = let q : n ≡ m = cc e in subst (λ (x : Node). x.parent ≤ 0) q (omega (arith, parent))
    before (suc u) m e = let q : None ≡ Some m = e in cc q

    none : (r : Ref) → item_of Root ≡ Some r → r.0 < size
    none r e = cc e

    fit : (u : ℕ) (m : Node) → slice_get (n ∷ []) u ≡ Some m → StepFits size m.step
    fit zero m e = let q : n ≡ m = cc e in subst (StepFits size) (sym step ∙ ap (λ (x : Node). x.step) q) none
    fit (suc u) m e = let q : None ≡ Some m = e in cc q

pub root-values : (σ : Solution) (n : Node) → n.parent ≡ 0 → n.step ≡ Root → HasValues σ (n ∷ [])
root-values σ n parent step = ((λ u. []), record { root = refl; each = λ u m e. node u m e })
  where
    here : IsNode σ (λ u. []) 0 n
    here = record { joined = sym (ap (step_marks σ) step); extent = subst (HasExtent σ) (sym step) tt }

    node : (u : ℕ) (m : Node) → slice_get (n ∷ []) u ≡ Some m → IsNode σ (λ u. []) u m
    node zero m e = let q : n ≡ m = cc e in subst (IsNode σ (λ u. []) 0) q here
    node (suc u) m e = let q : None ≡ Some m = e in cc q

-- ---- labels

pub reached-start : (s : Store) (l : Logic) (strings : List ℕ) (nodes : List Node) → IsTree (length s.cells) nodes → IsReached s l strings nodes nodes [] 0
reached-start s l strings nodes tree = record { tree = tree; extends = ([], sym (append-nil nodes)); values = λ σ h k v. v; within = tree.some; is = λ σ value h v. v.root }

reached-more : (s : Store) (l : Logic) (strings : List ℕ) (old mid new : List Node) (rs : List ℕ) (r u v : ℕ) (step : Step) → IsReached s l strings old mid rs u → IsGrown s mid new u step v → ((σ : Solution) → Solves s σ → step_marks σ step ≡ as_label (σ r)) → ((σ : Solution) → Solves s σ → AreSteps l strings σ → HasExtent σ step) → IsReached s l strings old new (rs ++ r ∷ []) v
reached-more s l strings old mid new rs r u v step h g marks extent = record {
  tree = g.tree;
  extends = extends-both old mid new h.extends g.extends;
  values = λ σ t steps x. g.values σ t (extent σ t steps) (h.values σ t steps x);
  within = g.within;
  is = λ σ value t x. (
      g.is σ value t x
      ∙ ap (λ w. w ++ step_marks σ step) (h.is σ value t (values-before σ value mid new g.extends x))
      ∙ ap (λ w. label_by σ rs ++ w) (marks σ t ∙ sym (append-nil (as_label (σ r))))
      ∙ sym (label-append σ rs (r ∷ []))
      );
}

-- the items before the place i are there
pub reached-next : (s : Store) (l : Logic) (strings : List ℕ) (old mid new : List Node) (label : List ℕ) (i r u v : ℕ) (step : Step) → IsReached s l strings old mid (take i label) u → slice_get label i ≡ Some r → IsGrown s mid new u step v → ((σ : Solution) → Solves s σ → step_marks σ step ≡ as_label (σ r)) → ((σ : Solution) → Solves s σ → AreSteps l strings σ → HasExtent σ step) → IsReached s l strings old new (take (i + 1) label) v
reached-next s l strings old mid new label i r u v step h e g marks extent =
    let more : i + 1 ≡ suc i = omega arith in
    subst (λ rs. IsReached s l strings old new rs v) (sym (take-there label i r e) ∙ ap (λ n. take n label) (sym more)) (reached-more s l strings old mid new (take i label) r u v step h g marks extent)

pub reached-all : (s : Store) (l : Logic) (strings : List ℕ) (old new : List Node) (label : List ℕ) (i u : ℕ) → IsReached s l strings old new (take i label) u → length label ≤ i → IsReached s l strings old new label u
reached-all s l strings old new label i u h k = subst (λ rs. IsReached s l strings old new rs u) (take-whole label i k) h

-- the same of a tree that does not grow
pub sought-start : (s : Store) (nodes : List Node) → IsNodeOf s nodes [] 0
sought-start s nodes σ value t v = v.root

pub sought-next : (s : Store) (nodes : List Node) (label : List ℕ) (i r u v : ℕ) (step : Step) → IsNodeOf s nodes (take i label) u → slice_get label i ≡ Some r → ((σ : Solution) (value : ℕ → List GroundMark) → Solves s σ → AreValues σ value nodes → value v ≡ value u ++ step_marks σ step) → ((σ : Solution) → Solves s σ → step_marks σ step ≡ as_label (σ r)) → IsNodeOf s nodes (take (i + 1) label) v
sought-next s nodes label i r u v step h e is marks σ value t x =
    let more : i + 1 ≡ suc i = omega arith in
    let here : value v ≡ label_by σ (take i label ++ r ∷ []) =
    is σ value t x
    ∙ ap (λ w. w ++ step_marks σ step) (h σ value t x)
    ∙ ap (λ w. label_by σ (take i label) ++ w) (marks σ t ∙ sym (append-nil (as_label (σ r))))
    ∙ sym (label-append σ (take i label) (r ∷ []))
    in
    subst (λ rs. value v ≡ label_by σ rs) (sym (take-there label i r e) ∙ ap (λ n. take n label) (sym more)) here

pub sought-all : (s : Store) (nodes : List Node) (label : List ℕ) (i u : ℕ) → IsNodeOf s nodes (take i label) u → length label ≤ i → IsNodeOf s nodes label u
sought-all s nodes label i u h k = subst (λ rs. IsNodeOf s nodes rs u) (take-whole label i k) h

-- ---- equations

pub label-places : (s : Store) (e : Equation) → IsTrue (is_equation s e) → IsTrue (names_below (length s.cells) e.left) × IsTrue (names_below (length s.cells) e.right)
label-places s e h = let p = and_parts (is_label s e.left) (is_label s e.right) h in (label-below s e.left p.0, label-below s e.right p.1)

pairs-both : (value : ℕ → List GroundMark) (ps : List (ℕ × ℕ)) (u v : ℕ) → AllBegin value ps → value u ≡ value v → AllBegin value (ps ++ (u, v) ∷ [])
pairs-both value ps u v h e i p at = by (last-item ps (u, v) p i at)
  where
    by : (slice_get ps i ≡ Some p) ⊎ ((i ≡ length ps) × ((u, v) ≡ p)) → Begins (value p.0) (value p.1)
    by (inl q) = h i p q
    by (inr q) = subst (λ (x : ℕ × ℕ). Begins (value x.0) (value x.1)) q.1 (equal-begins (value u) (value v) e)

pub none-asked : (value : ℕ → List GroundMark) → AllBegin value []
none-asked value i p e = let q : None ≡ Some p = e in cc q

pub asked-equation : (s : Store) (l : Logic) (strings : List ℕ) (e : Equation) (old mid new : List Node) (u v : ℕ) (before after : List (ℕ × ℕ)) → IsReached s l strings old mid e.left u → IsReached s l strings mid new e.right v → after ≡ (before ++ (u, v) ∷ []) ++ (v, u) ∷ [] → IsAsked s l strings (λ σ. AreEqual σ e) old new before after
asked-equation s l strings e old mid new u v before after h k same = record {
  tree = k.tree;
  extends = extends-both old mid new h.extends k.extends;
  values = λ σ t steps x. k.values σ t steps (h.values σ t steps x);
  pairs = λ σ value t x q b. (
      let (w, left, right) = q in
      let p : value u ≡ value v =
      h.is σ value t (values-before σ value mid new k.extends x) ∙ label_at-by σ e.left w left ∙ sym (label_at-by σ e.right w right) ∙ sym (k.is σ value t x)
      in
      subst (AllBegin value) (sym same) (pairs-both value (before ++ (u, v) ∷ []) v u (pairs-both value before u v b p) (sym p))
      );
}

pub asked-none : (s : Store) (l : Logic) (strings : List ℕ) (Q : Solution → Type 0) (nodes : List Node) (ps : List (ℕ × ℕ)) → IsTree (length s.cells) nodes → IsAsked s l strings Q nodes nodes ps ps
asked-none s l strings Q nodes ps tree = record { tree = tree; extends = ([], sym (append-nil nodes)); values = λ σ h k v. v; pairs = λ σ value t x q b. b }

-- the same, of one more item of a list
pub asked-one_more : {A : Type 0} (s : Store) (l : Logic) (strings : List ℕ) (Q : Solution → A → Type 0) (xs : List A) (i : ℕ) (x : A) (old mid new : List Node) (a b c : List (ℕ × ℕ)) → slice_get xs i ≡ Some x → IsAsked s l strings (λ σ. AllByRecursion (Q σ) xs) old mid a b → IsAsked s l strings (λ σ. Q σ x) mid new b c → IsAsked s l strings (λ σ. AllByRecursion (Q σ) xs) old new a c
asked-one_more s l strings Q xs i x old mid new a b c at h k = record {
  tree = k.tree;
  extends = extends-both old mid new h.extends k.extends;
  values = λ σ t steps y. k.values σ t steps (h.values σ t steps y);
  pairs = λ σ value t y q z. k.pairs σ value t y (all-there (Q σ) xs i x q at) (h.pairs σ value t (values-before σ value mid new k.extends y) q z);
}

pub asked-next : (s : Store) (l : Logic) (strings : List ℕ) (es : List Equation) (i : ℕ) (e : Equation) (old mid new : List Node) (a b c : List (ℕ × ℕ)) → slice_get es i ≡ Some e → IsAsked s l strings (λ σ. AllByRecursion (AreEqual σ) es) old mid a b → IsAsked s l strings (λ σ. AreEqual σ e) mid new b c → IsAsked s l strings (λ σ. AllByRecursion (AreEqual σ) es) old new a c
asked-next s l strings es i e old mid new a b c at h k = asked-one_more s l strings (λ σ. AreEqual σ) es i e old mid new a b c at h k

-- ---- homes

pub home-places : (s : Store) (h : Home) → IsTrue (is_home s h) → IsTrue (names_below (length s.cells) h.home) × IsTrue (names_below (length s.cells) h.label)
home-places s h k = let p = and_parts (is_label s h.home) (is_label s h.label) k in (label-below s h.home p.0, label-below s h.label p.1)

prefix-begins : (u v : List GroundMark) → IsTrue (is_prefix mark_eq u v) → Begins u v
prefix-begins [] v k = (v, refl)
prefix-begins (m ∷ u) [] k = absurd (false≢true k)
prefix-begins (m ∷ u) (n ∷ v) k =
    let p = and_parts (mark_eq m n) (is_prefix mark_eq u v) k in
    let (s, e) = prefix-begins u v p.1 in
    (s, ap₂ (λ x xs. x ∷ xs) (sym ((mark_eq-tells m n).0 p.0)) e)

pair-more : (value : ℕ → List GroundMark) (ps : List (ℕ × ℕ)) (u v : ℕ) → AllBegin value ps → Begins (value u) (value v) → AllBegin value (ps ++ (u, v) ∷ [])
pair-more value ps u v h b i p at = by (last-item ps (u, v) p i at)
  where
    by : (slice_get ps i ≡ Some p) ⊎ ((i ≡ length ps) × ((u, v) ≡ p)) → Begins (value p.0) (value p.1)
    by (inl q) = h i p q
    by (inr q) = subst (λ (x : ℕ × ℕ). Begins (value x.0) (value x.1)) q.1 b

pub asked-home : (s : Store) (l : Logic) (strings : List ℕ) (x : Home) (old mid new : List Node) (u v : ℕ) (before after : List (ℕ × ℕ)) → IsReached s l strings old mid x.home u → IsReached s l strings mid new x.label v → after ≡ before ++ (u, v) ∷ [] → IsAsked s l strings (λ σ. BeginsLabel σ x) old new before after
asked-home s l strings x old mid new u v before after h k same = record {
  tree = k.tree;
  extends = extends-both old mid new h.extends k.extends;
  values = λ σ t steps y. k.values σ t steps (h.values σ t steps y);
  pairs = λ σ value t y q b. (
      let (w, z, left, right, begins, whole) = q in
      let first : value u ≡ w = h.is σ value t (values-before σ value mid new k.extends y) ∙ label_at-by σ x.home w left in
      let second : value v ≡ z = k.is σ value t y ∙ label_at-by σ x.label z right in
      subst (AllBegin value) (sym same) (pair-more value before u v b (subst (λ (m : List GroundMark). Begins m (value v)) (sym first) (subst (Begins w) (sym second) (prefix-begins w z begins))))
      );
}

label-taken : (σ : Solution) (n : ℕ) (xs : List ℕ) → label_by σ xs ≡ label_by σ (take n xs) ++ label_by σ (drop n xs)
label-taken σ zero [] = refl
label-taken σ zero (x ∷ xs) = refl
label-taken σ (suc n) [] = refl
label-taken σ (suc n) (x ∷ xs) = ap (λ w. as_label (σ x) ++ w) (label-taken σ n xs) ∙ sym (append_assoc (as_label (σ x)) (label_by σ (take n xs)) (label_by σ (drop n xs)))

-- the first items of a label begin a label that is equal to it
pub asked-begin : (s : Store) (l : Logic) (strings xs ys : List ℕ) (n : ℕ) (old mid new : List Node) (u v : ℕ) (before after : List (ℕ × ℕ)) → IsReached s l strings old mid (take n xs) u → IsReached s l strings mid new ys v → after ≡ before ++ (u, v) ∷ [] → IsAsked s l strings (λ σ. label_by σ xs ≡ label_by σ ys) old new before after
asked-begin s l strings xs ys n old mid new u v before after h k same = record {
  tree = k.tree;
  extends = extends-both old mid new h.extends k.extends;
  values = λ σ t steps y. k.values σ t steps (h.values σ t steps y);
  pairs = λ σ value t y q b. (
      let first : value u ≡ label_by σ (take n xs) = h.is σ value t (values-before σ value mid new k.extends y) in
      let second : value v ≡ label_by σ ys = k.is σ value t y in
      let rest = label_by σ (drop n xs) in
      let begins : Begins (value u) (value v) = (rest, second ∙ sym q ∙ label-taken σ n xs ∙ ap (λ w. w ++ rest) (sym first)) in
      subst (AllBegin value) (sym same) (pair-more value before u v b begins)
      );
}

asked-weaker : (s : Store) (l : Logic) (strings : List ℕ) (P Q : Solution → Type 0) (old new : List Node) (before after : List (ℕ × ℕ)) → ((σ : Solution) → Q σ → P σ) → IsAsked s l strings P old new before after → IsAsked s l strings Q old new before after
asked-weaker s l strings P Q old new before after f h = record { tree = h.tree; extends = h.extends; values = h.values; pairs = λ σ value t y q b. h.pairs σ value t y (f σ q) b }

equal-labels : (σ : Solution) (e : Equation) → AreEqual σ e → label_by σ e.left ≡ label_by σ e.right
equal-labels σ e (w, left, right) = label_at-by σ e.left w left ∙ sym (label_at-by σ e.right w right)

pub asked-equal : (s : Store) (l : Logic) (strings : List ℕ) (e : Equation) (old new : List Node) (before after : List (ℕ × ℕ)) → IsAsked s l strings (λ σ. label_by σ e.left ≡ label_by σ e.right) old new before after → IsAsked s l strings (λ σ. AreEqual σ e) old new before after
asked-equal s l strings e old new before after h = asked-weaker s l strings (λ σ. label_by σ e.left ≡ label_by σ e.right) (λ σ. AreEqual σ e) old new before after (λ σ q. equal-labels σ e q) h

pub asked-equal_back : (s : Store) (l : Logic) (strings : List ℕ) (e : Equation) (old new : List Node) (before after : List (ℕ × ℕ)) → IsAsked s l strings (λ σ. label_by σ e.right ≡ label_by σ e.left) old new before after → IsAsked s l strings (λ σ. AreEqual σ e) old new before after
asked-equal_back s l strings e old new before after h = asked-weaker s l strings (λ σ. label_by σ e.right ≡ label_by σ e.left) (λ σ. AreEqual σ e) old new before after (λ σ q. sym (equal-labels σ e q)) h

-- a tree fits a store with more cells
pub tree-larger : (m n : ℕ) (nodes : List Node) → IsTree m nodes → m ≤ n → IsTree n nodes
tree-larger m n nodes h l = record { some = h.some; parents = h.parents; fits = λ u x at r e. let k = h.fits u x at r e in omega (arith, k, l) }

-- strings of any length are steps of S4
pub any-steps : (l : Logic) (strings : List ℕ) (σ : Solution) → AreSteps l strings σ → AreSteps S4 strings σ
any-steps l [] σ h = tt
any-steps l (r ∷ strings) σ h = ((h.0.0, h.0.1, refl), any-steps l strings σ h.1)

pub equation-named : (s : Store) (y : System) (k : ℕ) (e : Equation) → NamesItsStrings s y → slice_get y.equations k ≡ Some e → IsNamedEquation s y.strings e
equation-named s y k e names at = ((λ i r there. item r (item-left r e.left e.right (i, there))), (λ i r there. item r (item-right r e.left e.right (i, there))))
  where
    item : (r : ℕ) → (j : ℕ) × (slice_get (e.left ++ e.right) j ≡ Some r) → IsNamed s y.strings r
    item r there v o ends =
        let in_equations = item-flat (λ (x : Equation). x.left ++ x.right) y.equations k e r at there in
        let with_strings = item-left r (flat_map (λ (x : Equation). x.left ++ x.right) y.equations) y.strings in_equations in
        let with_gammas = item-left r (flat_map (λ (x : Equation). x.left ++ x.right) y.equations ++ y.strings) (flat_map (λ (g : GammaCell). g.term ∷ g.label) y.gammas) with_strings in
        let inside = item-left r (flat_map (λ (x : Equation). x.left ++ x.right) y.equations ++ y.strings ++ flat_map (λ (g : GammaCell). g.term ∷ g.label) y.gammas) (flat_map (λ (p : Pair). cells_of_atom p.upper ++ cells_of_atom p.lower) y.pairs) with_gammas in
        names v o (inside.0, r, inside.1, ends-occurs s r v ends)

pub equation-fits : (s : Store) (y : System) (k : ℕ) (e : Equation) → IsTrue (is_system s y) → slice_get y.equations k ≡ Some e → IsTrue (is_equation s e)
equation-fits s y k e h at = all-at (is_equation s) y.equations k e (system-parts s y h).equations at

-- ---- relations of parents and children

pub step-related : (σ : Solution) (value : ℕ → List GroundMark) (nodes : List Node) (u : ℕ) (n : Node) → AreValues σ value nodes → slice_get nodes u ≡ Some n → IsRelated (step_relation n.step) (value n.parent) (value u)
step-related σ value nodes u n h e = by n.step refl
  where
    by : (step : Step) → n.step ≡ step → IsRelated (step_relation step) (value n.parent) (value u)
    by Root f = node-behind σ value nodes u n h e
    by (Mark r) f = mark-behind σ value nodes u n r h e f
    by (Short r) f = node-behind σ value nodes u n h e
    by (Long r) f = node-behind σ value nodes u n h e
