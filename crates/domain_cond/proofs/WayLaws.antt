-- The way to a position, followed by cells.
use Rattle.std.proofs.Common.{◌≡◌, ◌⊎◌, ℕ, zero, suc, ◌+◌, ◌<◌, ◌≤◌, List, [], ◌∷◌, ◌++◌, take, drop, length, Bool, true, false, ◌||◌, IsTrue, refl, sym, ◌∙◌, ap, subst, Option, None, Some, slice_get, inl, inr, arith, lt-ltb, if◌then◌else◌}
use Rattle.std.specs.List.{list_all}
use Rattle.std.specs.Option.{option_map_or}
use Rattle.std.proofs.lemmas.Bool.{false≢true, and_parts, and_from, or_left, or_right}
use Rattle.plain_laws.proofs.Every.{all-at}
use Rattle.plain_laws.proofs.Places.{drop-there, get-end, get-there, get-within}
use Rattle.calculus.specs.declared.sign.Sign.{Sign}
use Rattle.calculus.specs.declared.sign.Sign.TheVariants.{F}
use Rattle.calculus.specs.declared.sort.Sort.{Sort}
use Rattle.calculus.specs.declared.sort.Sort.TheVariants.{TermSort, MarkSort, StringSort}
use Rattle.calculus.specs.declared.setting.Logic.{Logic}
use Rattle.calculus.specs.declared.setting.Logic.TheVariants.{Classical, Intuitionistic, D, T as LogicT, S4, S5}
use Rattle.calculus.specs.declared.kind.Shape.{Shape}
use Rattle.calculus.specs.declared.kind.Shape.TheVariants.{Alpha, Beta, Gamma, Delta, Literal}
use Rattle.calculus.specs.declared.kind.ModalPart.{ModalPart}
use Rattle.calculus.specs.declared.kind.ModalPart.TheVariants.{Plain, Nu, Pi}
use Rattle.store_theory.specs.Bindings.{AddsBuilt, nothing_more, EndsIn, with_cell}
use Rattle.calculus.specs.Equality.{sort_eq}
use Rattle.calculus.specs.Kinds.{shape_of, modal_of, components}
use Rattle.calculus.specs.Labels.{pi_label}
use Rattle.calculus.specs.Positions.{size, way_from}
use Rattle.calculus.specs.Skolem.{Reached, take_string, after_modal, take_term, after_shape, label_along, at_root, label_of}
use Rattle.store_theory.specs.Stores.{Cell, variable, fun_cell, eigen_cell, new_cell, string_cell, Store, parts_of, sort_of, has_sort_at, has_value_sort_at, is_store, parts_fit, OccursIn, here, in_part, Solution, Solves}
use Rattle.calculus.specs.Syntax.{Formula, Problem}
use Rattle.store_theory.specs.Systems.{has_label_sort_at, is_label}
use Rattle.store_theory.specs.Templates.{as_value}
use Rattle.store_theory.proofs.BindingLaws.{has_sort-from, sort_eq-same, sorted_cell, within-sort}
use Rattle.store_theory.specs.Patterns.{Grows}
use Rattle.store_theory.proofs.PatternLaws.{AddsBuilt-both, Grows-built, Grows-with_cell, grown-label, grown-sort}
use Rattle.calculus.proofs.PlaceLists.{all-more}
use Rattle.tableau_core.specs.InsideView.{Inside}
use Rattle.tableau_core.specs.Reaching.{rest_of}
use Rattle.tableau_core.proofs.FittingLaws.{way-outside}
use Rattle.tableau_core.proofs.HomeLaws.{along, along-further, along-last, along-stuck}
use Rattle.term_store.specs.Shown.{head_of}
use Rattle.term_store.specs.declared.cell.Head.{Head}
use Rattle.term_unify.specs.Flat.{HasNoString, HasNoStringIn}
use Rattle.term_unify.specs.Steps.{head_sort}
use Rattle.term_unify.proofs.FlatLaws.{ends-sorted, free-grown}
use Rattle.term_unify.proofs.PairLaws.{take-more}
use Rattle.search_theory.specs.HomeCells.{PassesModal, by_plain, by_string, by_mark, PassesShape, by_term, by_other, is_gamma_shape, reached_by}
use Rattle.search_theory.specs.States.{label_by, values_by}
use Rattle.search_theory.proofs.BuildingLaws.{adds-back, solved-sorted}
use Rattle.search_theory.proofs.DemandLaws.{all-taken}
use Rattle.search_theory.proofs.HomeLaws.{modal-by, shape-by, string-value, term-value}
use Rattle.search_theory.proofs.SolvingLaws.{label-there}
use Rattle.domain_cond.specs.Ways.{IsBelow, IsFoundHome, IsPushed, LacksString, LacksTerm, LacksValue, TakesString, TakesTerm, TakesValue, reaching}

-- ---- sorts

-- the sort that a head tells is that of the cell
pub head-sorted : (s : Store) (r : ℕ) (head : Head) → IsTrue (is_store s) → r < length s.cells → EndsIn s r (λ c. head_of c ≡ head) → IsTrue (has_sort_at s (head_sort head) r)
head-sorted s r head h l (v, c, ends, at, e) =
    let (d, f) = get-there s.cells r l in
    let first = has_sort-from s (sort_of d) r d f refl in
    let (c', at', q) = sorted_cell s (sort_of d) v (ends-sorted s (sort_of d) r v h ends first) in
    let same : c' ≡ c = let z : Some c' ≡ Some c = sym at' ∙ at in cc z in
    subst (λ x. IsTrue (has_sort_at s x r)) (sym q ∙ ap sort_of same ∙ told c ∙ ap head_sort e) first
  where
    told : (x : Cell) → sort_of x ≡ head_sort (head_of x)
    told (variable sort b) = refl
    told (fun_cell f rs) = refl
    told (eigen_cell p rs) = refl
    told (new_cell p rs) = refl
    told (string_cell rs) = refl

drop-none : (rs : List ℕ) (k : ℕ) → slice_get rs k ≡ None → drop k rs ≡ []
drop-none [] zero e = refl
drop-none [] (suc k) e = refl
drop-none (r ∷ rs) zero e = cc e
drop-none (r ∷ rs) (suc k) e = drop-none rs k e

value-sort : (s : Store) (r : ℕ) → IsTrue (has_value_sort_at s r) → IsTrue (has_sort_at s TermSort r) ⊎ IsTrue (has_sort_at s StringSort r)
value-sort s r h = by (has_sort_at s TermSort r) (has_sort_at s StringSort r) h
  where
    by : (a b : Bool) → IsTrue (a || b) → IsTrue a ⊎ IsTrue b
    by true b x = inl refl
    by false b x = inr x

-- ---- values that are lacking

no-string : (l : Logic) (s : Store) (σ : Solution) → Solves s σ → (rs : List ℕ) (k : ℕ) → IsTrue (list_all (has_value_sort_at s) rs) → LacksValue s StringSort rs k → (x : Reached) → take_string l x (values_by σ (drop k rs)) ≡ None
no-string l s σ t rs k h (inl e) x = ap (λ xs. take_string l x (values_by σ xs)) (drop-none rs k e)
no-string l s σ t rs k h (inr (r, e, other)) x = elim (value-sort s r (all-at (has_value_sort_at s) rs k r h e)) [
  | inl is_term ↦ (
      let v = term-value (σ r) (solved-sorted s σ t TermSort r is_term) in
      ap (λ xs. take_string l x (values_by σ xs)) (drop-there rs k r e) ∙ ap (λ y. take_string l x (as_value y ∷ values_by σ (drop (suc k) rs))) v.1)
  | inr is_string ↦ absurd (other is_string)
]

no-term : (s : Store) (σ : Solution) → Solves s σ → (rs : List ℕ) (k : ℕ) → IsTrue (list_all (has_value_sort_at s) rs) → LacksValue s TermSort rs k → (x : Reached) → take_term x (values_by σ (drop k rs)) ≡ None
no-term s σ t rs k h (inl e) x = ap (λ xs. take_term x (values_by σ xs)) (drop-none rs k e)
no-term s σ t rs k h (inr (r, e, other)) x = elim (value-sort s r (all-at (has_value_sort_at s) rs k r h e)) [
  | inl is_term ↦ absurd (other is_term)
  | inr is_string ↦ (
      let v = string-value (σ r) (solved-sorted s σ t StringSort r is_string) in
      ap (λ xs. take_term x (values_by σ xs)) (drop-there rs k r e) ∙ ap (λ y. take_term x (as_value y ∷ values_by σ (drop (suc k) rs))) v.1)
]

modal-stuck : (l : Logic) (s : Store) (σ : Solution) → Solves s σ → (q : ℕ) (m : ModalPart) (label rs : List ℕ) (k : ℕ) → IsTrue (list_all (has_value_sort_at s) rs) → LacksString s m rs k → after_modal l q m (reached_by σ (reaching label rs k)) ≡ None
modal-stuck l s σ t q Plain label rs k h lacks = absurd lacks
modal-stuck l s σ t q Pi label rs k h lacks = absurd lacks
modal-stuck l s σ t q Nu label rs k h lacks = no-string l s σ t rs k h lacks (reached_by σ (reaching label rs k))

shape-stuck : (s : Store) (σ : Solution) → Solves s σ → (x : Shape) (rs : List ℕ) (k : ℕ) → IsTrue (list_all (has_value_sort_at s) rs) → LacksTerm s x rs k → (y : Reached) → y.rest ≡ values_by σ (drop k rs) → after_shape x y ≡ None
shape-stuck s σ t Alpha rs k h lacks y e = absurd lacks
shape-stuck s σ t Beta rs k h lacks y e = absurd lacks
shape-stuck s σ t Delta rs k h lacks y e = absurd lacks
shape-stuck s σ t Literal rs k h lacks y e = absurd lacks
shape-stuck s σ t Gamma rs k h lacks y e = ap (take_term y) e ∙ no-term s σ t rs k h lacks y

-- ---- values that are taken

string-passed : (l : Logic) (s : Store) (q : ℕ) (label rs : List ℕ) (k n : ℕ) → (v : TakesValue s StringSort rs k n) → PassesModal l s q Nu (reaching label rs k) (reaching (pi_label l label v.0) rs n)
string-passed l s q label rs k n (r, e, sorted, more) =
    let m : n ≡ k + 1 = omega (arith, more) in
    subst (λ xs. PassesModal l s q Nu (record { label = label; taken = take k rs; rest = xs }) (reaching (pi_label l label r) rs n)) (sym (drop-there rs k r e))
    (subst (λ xs. PassesModal l s q Nu (record { label = label; taken = take k rs; rest = r ∷ drop (suc k) rs }) (record { label = pi_label l label r; taken = xs; rest = drop n rs })) (sym (ap (λ i. take i rs) m ∙ take-more k rs r e))
    (subst (λ i. PassesModal l s q Nu (record { label = label; taken = take k rs; rest = r ∷ drop (suc k) rs }) (record { label = pi_label l label r; taken = take k rs ++ r ∷ []; rest = drop i rs })) (sym more)
    (by_string label (take k rs) (drop (suc k) rs) r sorted)))

term-passed : (s : Store) (label rs : List ℕ) (k n : ℕ) → TakesValue s TermSort rs k n → PassesShape s Gamma (reaching label rs k) (reaching label rs n)
term-passed s label rs k n (r, e, sorted, more) =
    let m : n ≡ k + 1 = omega (arith, more) in
    subst (λ xs. PassesShape s Gamma (record { label = label; taken = take k rs; rest = xs }) (reaching label rs n)) (sym (drop-there rs k r e))
    (subst (λ xs. PassesShape s Gamma (record { label = label; taken = take k rs; rest = r ∷ drop (suc k) rs }) (record { label = label; taken = xs; rest = drop n rs })) (sym (ap (λ i. take i rs) m ∙ take-more k rs r e))
    (subst (λ i. PassesShape s Gamma (record { label = label; taken = take k rs; rest = r ∷ drop (suc k) rs }) (record { label = label; taken = take k rs ++ r ∷ []; rest = drop i rs })) (sym more)
    (by_term label (take k rs) (drop (suc k) rs) r sorted)))

other-passed : (s : Store) (x : Shape) (label rs : List ℕ) (k n : ℕ) → is_gamma_shape x ≡ false → n ≡ k → PassesShape s x (reaching label rs k) (reaching label rs n)
other-passed s x label rs k n o e = subst (λ i. PassesShape s x (reaching label rs k) (reaching label rs i)) (sym e) (by_other o)

shape-passed : (s : Store) (x : Shape) (label rs : List ℕ) (k n : ℕ) → TakesTerm s x rs k n → PassesShape s x (reaching label rs k) (reaching label rs n)
shape-passed s Alpha label rs k n e = other-passed s Alpha label rs k n refl e
shape-passed s Beta label rs k n e = other-passed s Beta label rs k n refl e
shape-passed s Delta label rs k n e = other-passed s Delta label rs k n refl e
shape-passed s Literal label rs k n e = other-passed s Literal label rs k n refl e
shape-passed s Gamma label rs k n e = term-passed s label rs k n e

-- what is left past the modal part, whatever mark a pi position has
modal-leaves : (l : Logic) (s : Store) (σ : Solution) → Solves s σ → (q : ℕ) (m : ModalPart) (label rs : List ℕ) (k n : ℕ) → TakesString s m rs k n → (x : Reached) × (Some x ≡ after_modal l q m (reached_by σ (reaching label rs k))) × (x.rest ≡ values_by σ (drop n rs))
modal-leaves l s σ t q Plain label rs k n e = (reached_by σ (reaching label rs k), refl, ap (λ i. values_by σ (drop i rs)) (sym e))
modal-leaves l s σ t q Pi label rs k n e = (_, refl, ap (λ i. values_by σ (drop i rs)) (sym e))
modal-leaves l s σ t q Nu label rs k n e = (reached_by σ (reaching (pi_label l label e.0) rs n), sym (modal-by l s σ t q Nu (reaching label rs k) (reaching (pi_label l label e.0) rs n) (string-passed l s q label rs k n e)), refl)

-- ---- labels with one item more

all-last : (p : ℕ → Bool) (w : List ℕ) (r : ℕ) → IsTrue (list_all p w) → IsTrue (p r) → IsTrue (list_all p (w ++ r ∷ []))
all-last p [] r a b = and_from (p r) true b refl
all-last p (x ∷ w) r a b = let q = and_parts (p x) (list_all p w) a in and_from (p x) (list_all p (w ++ r ∷ [])) q.0 (all-last p w r q.1 b)

pub with-item : (l : Logic) (p : ℕ → Bool) (w : List ℕ) (r : ℕ) → IsTrue (list_all p w) → IsTrue (p r) → IsTrue (list_all p (pi_label l w r))
with-item Classical p w r a b = all-last p w r a b
with-item Intuitionistic p w r a b = all-last p w r a b
with-item D p w r a b = all-last p w r a b
with-item LogicT p w r a b = all-last p w r a b
with-item S4 p w r a b = all-last p w r a b
with-item S5 p w r a b = and_from (p r) true b refl

free-last : (s : Store) (w : List ℕ) (r : ℕ) → HasNoString s w → HasNoStringIn s r → HasNoString s (w ++ r ∷ [])
free-last s [] r a b v zero k o e c = let z : r ≡ k = cc e in b v o (subst (OccursIn s v) (sym z) c)
free-last s [] r a b v (suc i) k o e c = cc e
free-last s (x ∷ w) r a b v zero k o e c = a v 0 k o e c
free-last s (x ∷ w) r a b v (suc i) k o e c = free-last s w r (λ u j m p f d. a u (suc j) m p f d) b v i k o e c

free-item : (l : Logic) (s : Store) (w : List ℕ) (r : ℕ) → HasNoString s w → HasNoStringIn s r → HasNoString s (pi_label l w r)
free-item Classical s w r a b = free-last s w r a b
free-item Intuitionistic s w r a b = free-last s w r a b
free-item D s w r a b = free-last s w r a b
free-item LogicT s w r a b = free-last s w r a b
free-item S4 s w r a b = free-last s w r a b
free-item S5 s w r a b = free-last s [] r (λ v i k o e c. cc e) b

-- ---- the modal part of a position

pub from-take : (k : ℕ) (rs : List ℕ) (i r : ℕ) → slice_get (take k rs) i ≡ Some r → slice_get rs i ≡ Some r
from-take zero rs i r e = cc e
from-take (suc k) [] i r e = cc e
from-take (suc k) (x ∷ rs) zero r e = e
from-take (suc k) (x ∷ rs) (suc i) r e = from-take k rs i r e

pub label-within : (s : Store) (rs : List ℕ) (i r : ℕ) → IsTrue (is_label s rs) → slice_get rs i ≡ Some r → r < length s.cells
label-within s rs i r h e = by (has_sort_at s MarkSort r) refl (all-at (has_label_sort_at s) rs i r h e)
  where
    by : (t : Bool) → has_sort_at s MarkSort r ≡ t → IsTrue (t || has_sort_at s StringSort r) → r < length s.cells
    by true m x = within-sort s MarkSort r m
    by false m x = within-sort s StringSort r x

pub value-below : (s : Store) (rs : List ℕ) (i r : ℕ) → IsTrue (list_all (has_value_sort_at s) rs) → slice_get rs i ≡ Some r → r < length s.cells
value-below s rs i r h e = elim (value-sort s r (all-at (has_value_sort_at s) rs i r h e)) [
  | inl x ↦ within-sort s TermSort r x
  | inr x ↦ within-sort s StringSort r x
]

pub pushed-nothing : (l : Logic) (s : Store) (q : ℕ) (rs : List ℕ) (k : ℕ) (label : List ℕ) → IsPushed l s s Plain q rs k label label
pushed-nothing l s q rs k label = record {
  passes = λ n e. subst (λ i. PassesModal l s q Plain (reaching label rs k) (reaching label rs i)) (sym e) by_plain;
  sorted = λ h. h;
  free = λ h a b. b;
}

pub pushed-string : (l : Logic) (s : Store) (q : ℕ) (rs : List ℕ) (k r : ℕ) (label after : List ℕ) → slice_get rs k ≡ Some r → ((n : ℕ) × TakesString s Nu rs k n) → after ≡ pi_label l label r → IsPushed l s s Nu q rs k label after
pushed-string l s q rs k r label after at (m, e) joined =
    let same : e.0 ≡ r = let z : Some e.0 ≡ Some r = sym e.1 ∙ at in cc z in
    let sorted : IsTrue (has_sort_at s StringSort r) = subst (λ x. IsTrue (has_sort_at s StringSort x)) same e.2 in
    record {
      passes = λ n f.
          let z : f.0 ≡ r = let y : Some f.0 ≡ Some r = sym f.1 ∙ at in cc y in
          subst (λ ks. PassesModal l s q Nu (reaching label rs k) (reaching ks rs n)) (ap (pi_label l label) z ∙ sym joined) (string-passed l s q label rs k n f);
      sorted = λ h. subst (λ ks. IsTrue (is_label s ks)) (sym joined) (with-item l (has_label_sort_at s) label r h (or_right (has_sort_at s MarkSort r) (has_sort_at s StringSort r) sorted));
      free = λ h a b. subst (HasNoString s) (sym joined) (free-item l s label r b (λ v o c. a v k r o at c));
    }

-- a new mark over values that were taken
pub pushed-mark : (l : Logic) (s : Store) (q : ℕ) (rs : List ℕ) (k : ℕ) (label after : List ℕ) → IsTrue (is_store s) → IsTrue (parts_fit s (new_cell q (take k rs))) → after ≡ pi_label l label (length s.cells) → IsPushed l s (with_cell (new_cell q (take k rs)) s) Pi q rs k label after
pushed-mark l s q rs k label after h fits joined = record {
  passes = λ n e. subst (λ ks. PassesModal l t q Pi (reaching label rs k) (reaching ks rs n)) (sym joined)
      (subst (λ i. PassesModal l t q Pi (reaching label rs k) (reaching (pi_label l label m) rs i)) (sym e) (shifted n e));
  sorted = λ a. subst (λ ks. IsTrue (is_label t ks)) (sym joined) (with-item l (has_label_sort_at t) label m (grown-label s t label g a)
      (or_left (has_sort_at t MarkSort m) (has_sort_at t StringSort m) (has_sort-from t MarkSort m c there refl)));
  free = λ a b d. subst (HasNoString t) (sym joined) (free-item l t label m (label-free a d) (mark-free b));
}
  where
    c : Cell
    c = new_cell q (take k rs)

    t : Store
    t = with_cell c s

    m : ℕ
    m = length s.cells

    g : Grows s t
    g = Grows-with_cell c s

    there : slice_get t.cells m ≡ Some c
    there = get-end s.cells c

    label-free : IsTrue (is_label s label) → HasNoString s label → HasNoString t label
    label-free a d v i r o e w = free-grown s t h g r (label-within s label i r a e) (λ u x y. d u i r x e y) v o w

    mark-free : HasNoString s rs → HasNoStringIn t m
    mark-free b v o here = let z : Some c ≡ Some (variable StringSort None) = sym there ∙ o in cc z
    mark-free b v o (in_part i {k = r} {c = d} e p more) =
        let same : d ≡ c = let z : Some d ≡ Some c = sym e ∙ there in cc z in
        let at : slice_get (take k rs) i ≡ Some r = ap (λ x. slice_get (parts_of x) i) (sym same) ∙ p in
        free-grown s t h g r (value-below s (take k rs) i r fits at) (λ u x y. b u i r x (from-take k rs i r at) y) v o more

    shifted : (n : ℕ) → n ≡ k → PassesModal l t q Pi (reaching label rs k) (reaching (pi_label l label m) rs k)
    shifted n e = by_mark label (take k rs) (drop k rs) m there

-- ---- on the way

-- the home is what is reached from here by the rest of the way
pub record IsOnWay (P : Problem) (p : ℕ) (old cur : Store) (rs label : List ℕ) (k q : ℕ) (sign : Sign) (f : Formula) (place : ℕ) : Type 0 where
  pub leads : (σ : Solution) → Solves cur σ → label_of P p (values_by σ rs) ≡ label_along P.setting.logic (way_from q sign f place) (reached_by σ (reaching label rs k))
  pub adds : AddsBuilt old cur
  pub sorted : IsTrue (is_label cur label)
  pub free : HasNoString old rs → HasNoString cur label
  pub values : IsTrue (list_all (has_value_sort_at cur) rs)
  pub old_values : IsTrue (list_all (has_value_sort_at old) rs)
  pub fits : IsTrue (is_store old)

-- in a later store too no unbound string occurs in the values
values-free : (old cur : Store) (rs : List ℕ) → AddsBuilt old cur → IsTrue (list_all (has_value_sort_at old) rs) → IsTrue (is_store old) → HasNoString old rs → HasNoString cur rs
values-free old cur rs adds h fits a v i r o e c = free-grown old cur fits (Grows-built old cur adds) r (value-below old rs i r h e) (λ u x y. a u i r x e y) v o c

pub on-start : (P : Problem) (p : ℕ) (s : Store) (rs : List ℕ) → p < size P.formula → IsTrue (list_all (has_value_sort_at s) rs) → IsTrue (is_store s) → IsOnWay P p s s rs [] 0 0 F P.formula p
on-start P p s rs l h fits = record {
  leads = λ σ t. ap (λ b. label_along P.setting.logic (if b then way_from 0 F P.formula p else []) (at_root (values_by σ rs))) (lt-ltb p (size P.formula) l);
  adds = nothing_more;
  sorted = refl;
  free = λ a v i r o e c. cc e;
  values = h;
  old_values = h;
  fits = fits;
}

value-grown : (s t : Store) → Grows s t → (r : ℕ) → IsTrue (has_value_sort_at s r) → IsTrue (has_value_sort_at t r)
value-grown s t g r h = elim (value-sort s r h) [
  | inl x ↦ or_left (has_sort_at t TermSort r) (has_sort_at t StringSort r) (grown-sort s t TermSort r g x)
  | inr x ↦ or_right (has_sort_at t TermSort r) (has_sort_at t StringSort r) (grown-sort s t StringSort r g x)
]

taken-grown : (s t : Store) → Grows s t → (x : Shape) (rs : List ℕ) (k n : ℕ) → TakesTerm s x rs k n → TakesTerm t x rs k n
taken-grown s t g Alpha rs k n e = e
taken-grown s t g Beta rs k n e = e
taken-grown s t g Delta rs k n e = e
taken-grown s t g Literal rs k n e = e
taken-grown s t g Gamma rs k n (r, e, sorted, more) = (r, e, grown-sort s t TermSort r g sorted, more)

-- past one position: the label that is reached when n values are taken
passed : (P : Problem) (p : ℕ) (old cur new : Store) (rs label after : List ℕ) (k m n q : ℕ) (sign : Sign) (f : Formula) (place : ℕ) → IsOnWay P p old cur rs label k q sign f place → place < size f → TakesString cur (modal_of P.setting.logic sign f) rs k m → TakesTerm cur (shape_of sign f) rs m n → IsPushed P.setting.logic cur new (modal_of P.setting.logic sign f) q rs k label after → AddsBuilt cur new → (σ : Solution) → Solves new σ → (o : Option Reached) × (Some (reached_by σ (reaching after rs n)) ≡ o) × (label_of P p (values_by σ rs) ≡ option_map_or (label_along P.setting.logic (rest_of (way_from q sign f place))) o (label_by σ label))
passed P p old cur new rs label after k m n q sign f place w l string takes pushed adds σ t =
    let logic = P.setting.logic in
    let d = reaching after rs m in
    let modal = modal-by logic new σ t q (modal_of logic sign f) (reaching label rs k) d (pushed.passes m string) in
    let shape = shape-by new σ t (shape_of sign f) d (reaching after rs n) (shape-passed new (shape_of sign f) after rs m n (taken-grown cur new (Grows-built cur new adds) (shape_of sign f) rs m n takes)) in
    (after_shape (shape_of sign f) (reached_by σ d), sym shape, w.leads σ (adds-back cur new adds σ t) ∙ along logic q sign f place (reached_by σ (reaching label rs k)) (Some (reached_by σ d)) l (sym modal))

pub on-next : (P : Problem) (p : ℕ) (old cur new : Store) (rs label after : List ℕ) (k m n q : ℕ) (sign : Sign) (f : Formula) (place : ℕ) (i : Inside) → IsOnWay P p old cur rs label k q sign f place → place < size f → 0 < place → TakesString cur (modal_of P.setting.logic sign f) rs k m → TakesTerm cur (shape_of sign f) rs m n → IsPushed P.setting.logic cur new (modal_of P.setting.logic sign f) q rs k label after → AddsBuilt cur new → IsBelow q place (components sign f) i → IsOnWay P p old new rs after n i.further i.sign i.formula i.place
on-next P p old cur new rs label after k m n q sign f place i w l further string takes pushed adds (j, leads, is) = subst (λ (x : Inside). IsOnWay P p old new rs after n x.further x.sign x.formula x.place) (sym is) (record {
  leads = λ σ t.
      let (o, e, same) = passed P p old cur new rs label after k m n q sign f place w l string takes pushed adds σ t in
      same ∙ along-further P.setting.logic q sign f place j o (label_by σ label) (reached_by σ (reaching after rs n)) l further leads e;
  adds = AddsBuilt-both old cur new w.adds adds;
  sorted = pushed.sorted w.sorted;
  free = λ a. pushed.free w.sorted (values-free old cur rs w.adds w.old_values w.fits a) (w.free a);
  values = all-more (has_value_sort_at cur) (has_value_sort_at new) rs (λ r x. value-grown cur new (Grows-built cur new adds) r x) w.values;
  old_values = w.old_values;
  fits = w.fits;
})

found : (P : Problem) (old new : Store) (p : ℕ) (rs ks : List ℕ) → IsTrue (is_label new ks) → (HasNoString old rs → HasNoString new ks) → ((σ : Solution) → Solves new σ → label_of P p (values_by σ rs) ≡ label_by σ ks) → IsFoundHome P old new p rs ks
found P old new p rs ks sorted free same = record { home = λ σ t. label-there new σ t ks sorted ∙ ap Some (sym (same σ t)); sorted = sorted; free = free }

pub on-last : (P : Problem) (p : ℕ) (old cur new : Store) (rs label after : List ℕ) (k m n q : ℕ) (sign : Sign) (f : Formula) (place : ℕ) → IsOnWay P p old cur rs label k q sign f place → place < size f → place ≡ 0 → TakesString cur (modal_of P.setting.logic sign f) rs k m → TakesTerm cur (shape_of sign f) rs m n → IsPushed P.setting.logic cur new (modal_of P.setting.logic sign f) q rs k label after → AddsBuilt cur new → IsFoundHome P old new p rs after
on-last P p old cur new rs label after k m n q sign f place w l last string takes pushed adds =
    found P old new p rs after (pushed.sorted w.sorted) (λ a. pushed.free w.sorted (values-free old cur rs w.adds w.old_values w.fits a) (w.free a)) (λ σ t.
    let (o, e, same) = passed P p old cur new rs label after k m n q sign f place w l string takes pushed adds σ t in
    same ∙ along-last P.setting.logic q sign f place o (label_by σ label) (reached_by σ (reaching after rs n)) last e)

-- where a value is lacking, the label reached is the home
pub found-modal : (P : Problem) (p : ℕ) (old cur : Store) (rs label : List ℕ) (k q : ℕ) (sign : Sign) (f : Formula) (place : ℕ) → IsOnWay P p old cur rs label k q sign f place → place < size f → LacksString cur (modal_of P.setting.logic sign f) rs k → IsFoundHome P old cur p rs label
found-modal P p old cur rs label k q sign f place w l lacks = found P old cur p rs label w.sorted w.free (λ σ t.
    w.leads σ t ∙ along P.setting.logic q sign f place (reached_by σ (reaching label rs k)) None l (sym (modal-stuck P.setting.logic cur σ t q (modal_of P.setting.logic sign f) label rs k w.values lacks)))

pub found-shape : (P : Problem) (p : ℕ) (old cur : Store) (rs label : List ℕ) (k m q : ℕ) (sign : Sign) (f : Formula) (place : ℕ) → IsOnWay P p old cur rs label k q sign f place → place < size f → TakesString cur (modal_of P.setting.logic sign f) rs k m → LacksTerm cur (shape_of sign f) rs m → IsFoundHome P old cur p rs label
found-shape P p old cur rs label k m q sign f place w l string lacks = found P old cur p rs label w.sorted w.free (λ σ t.
    let (x, e, rest) = modal-leaves P.setting.logic cur σ t q (modal_of P.setting.logic sign f) label rs k m string in
    w.leads σ t ∙ along P.setting.logic q sign f place (reached_by σ (reaching label rs k)) (Some x) l e
    ∙ along-stuck P.setting.logic (rest_of (way_from q sign f place)) (after_shape (shape_of sign f) x) (label_by σ label) (sym (shape-stuck cur σ t (shape_of sign f) rs m w.values lacks x rest)))

-- where there is no such position, the home is the root
pub found-outside : (P : Problem) (p n : ℕ) (s : Store) (rs : List ℕ) → n ≡ size P.formula → n ≤ p → IsFoundHome P s s p rs []
found-outside P p n s rs e l = found P s s p rs [] refl (λ a v i r o x c. cc x) (λ σ t. ap (λ ns. label_along P.setting.logic ns (at_root (values_by σ rs))) (way-outside P p n e l))

-- ---- values at places

pub get-none : (rs : List ℕ) (k : ℕ) → length rs ≤ k → slice_get rs k ≡ None
get-none [] zero l = refl
get-none [] (suc k) l = refl
get-none (r ∷ rs) zero l = absurd (omega (arith, l))
get-none (r ∷ rs) (suc k) l = get-none rs k (omega (arith, l))

pub sort-other : (s : Store) (sort x : Sort) (r : ℕ) → IsTrue (has_sort_at s x r) → sort_eq sort x ≡ false → ¬ IsTrue (has_sort_at s sort r)
sort-other s sort x r h n k =
    let (c, e, q) = sorted_cell s x r h in
    let (d, f, p) = sorted_cell s sort r k in
    let same : c ≡ d = let z : Some c ≡ Some d = sym e ∙ f in cc z in
    let equal : x ≡ sort = sym q ∙ ap sort_of same ∙ p in
    false≢true (sym n ∙ ap (sort_eq sort) equal ∙ sort_eq-same sort)

pub on-root : (P : Problem) (p : ℕ) (s : Store) (rs label : List ℕ) (sign : Sign) (f : Formula) → p < size f → IsTrue (list_all (has_value_sort_at s) rs) → IsTrue (is_store s) → label ≡ [] → sign ≡ F → f ≡ P.formula → IsOnWay P p s s rs label 0 0 sign f p
on-root P p s rs label sign f l h fits e d g =
    subst (λ ks. IsOnWay P p s s rs ks 0 0 sign f p) (sym e)
    (subst (λ x. IsOnWay P p s s rs [] 0 0 x f p) (sym d)
    (subst (λ x. IsOnWay P p s s rs [] 0 0 F x p) (sym g) (on-start P p s rs (subst (λ x. p < size x) g l) h fits)))

pub takes-within : (s : Store) (m : ModalPart) (rs : List ℕ) (k : ℕ) → m ≡ Nu → ((n : ℕ) × TakesString s m rs k n) → k < length rs
takes-within s m rs k e h = let q : (n : ℕ) × TakesString s Nu rs k n = subst (λ x. (n : ℕ) × TakesString s x rs k n) e h in get-within rs k q.1.0 q.1.1

pub taken-fits : (s : Store) (q : ℕ) (rs : List ℕ) (k : ℕ) → IsTrue (list_all (has_value_sort_at s) rs) → IsTrue (parts_fit s (new_cell q (take k rs)))
taken-fits s q rs k h = all-taken (has_value_sort_at s) k rs h
