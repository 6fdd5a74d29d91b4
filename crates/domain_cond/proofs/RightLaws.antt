-- The marks that are added on the way to a home are built right, where its name is.
use Rattle.std.proofs.Common.{◌≡◌, ◌⊎◌, ℕ, zero, suc, ◌+◌, ◌-◌, ◌<◌, ◌≤◌, List, [], ◌∷◌, ◌++◌, length, map, take, Bool, true, false, ◌&&◌, IsTrue, refl, sym, ◌∙◌, ap, ap₂, subst, Option, Some, None, option_map, slice_get, arith, nat_le, nat_lt, le-leb, leb-true, lt-ltb, inl, inr, if◌then◌else◌}
use Rattle.std.specs.List.{list_all, flat_map}
use Rattle.std.specs.Option.{option_map_or}
use Rattle.std.proofs.lemmas.Bool.{and_from, and_parts, cases_Bool, cases_lt}
use Rattle.std.proofs.lemmas.Bool.Decides.{nat_tests}
use Rattle.std.proofs.lemmas.List.{take-map}
use Rattle.plain_laws.proofs.Every.{all-append, all-at, all-parts}
use Rattle.plain_laws.proofs.Places.{get-there}
use Rattle.calculus.specs.declared.sign.Sign.{Sign}
use Rattle.calculus.specs.declared.sign.Sign.TheVariants.{F}
use Rattle.calculus.specs.declared.sort.Sort.{Sort}
use Rattle.calculus.specs.declared.sort.Sort.TheVariants.{TermSort, StringSort}
use Rattle.calculus.specs.declared.setting.Logic.{Logic}
use Rattle.calculus.specs.declared.kind.Shape.{Shape}
use Rattle.calculus.specs.declared.kind.Shape.TheVariants.{Alpha, Beta, Gamma, Delta, Literal}
use Rattle.calculus.specs.declared.kind.ModalPart.{ModalPart}
use Rattle.calculus.specs.declared.kind.ModalPart.TheVariants.{Plain, Nu, Pi}
use Rattle.calculus.specs.Equality.{sort_eq}
use Rattle.calculus.specs.Ground.{Value, common, g_spare_mark, more_marks, no_marks, steps, term}
use Rattle.calculus.specs.Kinds.{Signed, components, shape_of}
use Rattle.calculus.specs.Labels.{pi_label}
use Rattle.calculus.specs.Positions.{Node, node, size, way_from}
use Rattle.calculus.specs.Skolem.{fits_way, is_delta_position, is_pi_position}
use Rattle.calculus.specs.Syntax.{Formula, Problem, atom, neg, conj, disj, imp, all, ex, box, dia}
use Rattle.store_theory.specs.Bindings.{AddsBuilt, NamesFrom, with_cell}
use Rattle.store_theory.specs.Patterns.{Grows}
use Rattle.store_theory.specs.Stores.{Cell, Store, has_sort_at, has_value_sort_at, is_store, new_cell, parts_fit, sort_of}
use Rattle.store_theory.proofs.PatternLaws.{Grows-built, Grows-with_cell, grown-cell}
use Rattle.search_theory.specs.KeepingCells.{AddsRight}
use Rattle.search_theory.specs.LabelledCells.{AreLabelled, is_labelled_cell, sort_value, sort_values}
use Rattle.search_theory.proofs.BuildingLaws.{adds-longer}
use Rattle.search_theory.proofs.DemandLaws.{all-taken}
use Rattle.search_theory.proofs.FromLaws.{labelled-plus}
use Rattle.search_theory.proofs.RightWays.{IsRightWay, right-mark, right-next, right-start, strings_of, terms_of}
use Rattle.tableau_core.specs.InsideView.{Inside, LeadsOn, way_inside}
use Rattle.tableau_core.proofs.WayLaws.{way-begins, way-by}
use Rattle.domain_cond.specs.Ways.{IsBelow, PushesRight, TakesString, TakesTerm}
use Rattle.domain_cond.proofs.HomeSteps.{IsKind, modal-of}
use Rattle.domain_cond.proofs.WayLaws.{IsOnWay, value-below, with-item}

-- ---- ways below a formula

abbrev sizes : List Signed → ℕ
sizes [] = 0
sizes (a ∷ cs) = size a.formula + sizes cs

size-sizes : (s : Sign) (f : Formula) → 1 < size f → size f ≡ suc (sizes (components s f))
size-sizes s (atom r ts) l = absurd (omega (arith, l))
size-sizes s (neg a) l = omega arith
size-sizes s (conj a b) l = omega arith
size-sizes s (disj a b) l = omega arith
size-sizes s (imp a b) l = omega arith
size-sizes s (all a) l = omega arith
size-sizes s (ex a) l = omega arith
size-sizes s (box a) l = omega arith
size-sizes s (dia a) l = omega arith

first-node : (q : ℕ) (s : Sign) (f : Formula) (p : ℕ) (n : Node) (ns : List Node) → way_from q s f p ≡ n ∷ ns → node q s f ≡ n
first-node q s f zero n ns e = cc e
first-node q s (atom r ts) (suc p) n ns e = cc e
first-node q s (neg a) (suc p) n ns e = cc e
first-node q s (conj a b) (suc p) n ns e = cc e
first-node q s (disj a b) (suc p) n ns e = cc e
first-node q s (imp a b) (suc p) n ns e = cc e
first-node q s (all a) (suc p) n ns e = cc e
first-node q s (ex a) (suc p) n ns e = cc e
first-node q s (box a) (suc p) n ns e = cc e
first-node q s (dia a) (suc p) n ns e = cc e

-- the component that a way leads through is the one at its first position
pub record IsAt (q : ℕ) (a : Signed) (j : Inside) : Type 0 where
  pub further : j.further ≡ q
  pub sign : j.sign ≡ a.sign
  pub formula : j.formula ≡ a.formula

at-first : (q p : ℕ) (a : Signed) (j : Inside) → j.place < size j.formula → way_from q a.sign a.formula p ≡ way_from (0 + j.further) j.sign j.formula j.place → IsAt q a j
at-first q p a j inside e =
    let (ns, begins) = way-begins (0 + j.further) j.sign j.formula j.place inside in
    let same = first-node q a.sign a.formula p (node (0 + j.further) j.sign j.formula) ns (e ∙ begins) in
    let place : q ≡ 0 + j.further = ap (λ (n : Node). n.position) same in
    record { further = omega (arith, place); sign = sym (ap (λ (n : Node). n.sign) same); formula = sym (ap (λ (n : Node). n.formula) same) }

-- ways to all its places
pub record LeadsAll (cs : List Signed) (j : Inside) : Type 0 where
  pub within : (i : ℕ) → i < size j.formula → j.further + i < suc (sizes cs)
  pub past : 0 < j.further
  pub ways : (q i : ℕ) → i < size j.formula → way_inside q (j.further + i - 1) cs ≡ way_from (q + j.further) j.sign j.formula i

way-moved : (q r p i : ℕ) (a : Signed) (j : Inside) → IsAt r a j → p ≡ i → way_from (q + r) a.sign a.formula p ≡ way_from (q + j.further) j.sign j.formula i
way-moved q r p i a j h e =
    ap (λ x. way_from (q + r) a.sign a.formula x) e
    ∙ ap (λ x. way_from (q + x) a.sign a.formula i) (sym h.further)
    ∙ ap (λ x. way_from (q + j.further) x a.formula i) (sym h.sign)
    ∙ ap (λ x. way_from (q + j.further) j.sign x i) (sym h.formula)

leads-all : (place : ℕ) (cs : List Signed) (j : Inside) → LeadsOn place cs j → LeadsAll cs j
leads-all place [] j o = let (ns, begins) = way-begins (0 + j.further) j.sign j.formula j.place o.inside in let z : [] ≡ node (0 + j.further) j.sign j.formula ∷ ns = o.way 0 ∙ begins in cc z
leads-all place (a ∷ []) j o =
    let h = at-first 1 (place - 1) a j o.inside (o.way 0) in
    let e = h.further in
    let n = ap size h.formula in
    record {
      within = λ i l. omega (arith, e, n, l);
      past = omega (arith, e);
      ways = λ q i l. ap (λ x. way_from x a.sign a.formula (j.further + i - 1)) (omega arith) ∙ way-moved q 1 (j.further + i - 1) i a j h (omega (arith, e));
    }
leads-all place (a ∷ b ∷ cs) j o = elim (cases_Bool (nat_lt (place - 1) (size a.formula))) [
  | inl t ↦ (
      let h = at-first 1 (place - 1) a j o.inside (sym (ap (λ x. if x then way_from 1 a.sign a.formula (place - 1) else way_from (suc (0 + size a.formula)) b.sign b.formula (place - 1 - size a.formula)) t) ∙ o.way 0) in
      let e = h.further in
      let n = ap size h.formula in
      record {
        within = λ i l. omega (arith, e, n, l);
        past = omega (arith, e);
        ways = λ q i l.
            ap (λ x. if x then way_from (suc q) a.sign a.formula (j.further + i - 1) else way_from (suc (q + size a.formula)) b.sign b.formula (j.further + i - 1 - size a.formula)) (lt-ltb (j.further + i - 1) (size a.formula) (omega (arith, e, n, l)))
            ∙ ap (λ x. way_from x a.sign a.formula (j.further + i - 1)) (omega arith) ∙ way-moved q 1 (j.further + i - 1) i a j h (omega (arith, e));
      })
  | inr t ↦ (
      let h = at-first (suc (0 + size a.formula)) (place - 1 - size a.formula) b j o.inside (sym (ap (λ x. if x then way_from 1 a.sign a.formula (place - 1) else way_from (suc (0 + size a.formula)) b.sign b.formula (place - 1 - size a.formula)) t) ∙ o.way 0) in
      let e = h.further in
      let n = ap size h.formula in
      record {
        within = λ i l. omega (arith, e, n, l);
        past = omega (arith, e);
        ways = λ q i l.
            let past : nat_lt (j.further + i - 1) (size a.formula) ≡ false = not-less (j.further + i - 1) (size a.formula) (omega (arith, e)) in
            ap (λ x. if x then way_from (suc q) a.sign a.formula (j.further + i - 1) else way_from (suc (q + size a.formula)) b.sign b.formula (j.further + i - 1 - size a.formula)) past
            ∙ ap (λ x. way_from x b.sign b.formula (j.further + i - 1 - size a.formula)) (omega arith) ∙ way-moved q (suc (0 + size a.formula)) (j.further + i - 1 - size a.formula) i b j h (omega (arith, e));
      })
]
  where
    not-less : (m n : ℕ) → n ≤ m → nat_lt m n ≡ false
    not-less m n l = grind (arith, nat_tests)

-- past the first position of a formula
way-past : (q : ℕ) (sign : Sign) (f : Formula) (place : ℕ) (j : Inside) → 1 < size f → LeadsOn place (components sign f) j → (i : ℕ) → i < size j.formula → (j.further + i < size f) × (way_from q sign f (j.further + i) ≡ node q sign f ∷ way_from (q + j.further) j.sign j.formula i)
way-past q sign f place j long o i inside =
    let all = leads-all place (components sign f) j o in
    let past = all.past in
    let within = all.within i inside in
    let whole = size-sizes sign f long in
    let l : suc (j.further + i - 1) < size f = omega (arith, past, within, whole) in
    let e : j.further + i ≡ suc (j.further + i - 1) = omega (arith, past) in (
      omega (arith, within, whole),
      ap (λ x. way_from q sign f x) e ∙ way-by q sign f (j.further + i - 1) l ∙ ap (λ ns. node q sign f ∷ ns) (all.ways q i inside),
    )

-- ---- values

values-same : (s t : Store) → Grows s t → (rs : List ℕ) → ((i r : ℕ) → slice_get rs i ≡ Some r → r < length s.cells) → sort_values t rs ≡ sort_values s rs
values-same s t g [] h = refl
values-same s t g (r ∷ rs) h =
    let (c, e) = get-there s.cells r (h 0 r refl) in
    let same : has_sort_at t TermSort r ≡ has_sort_at s TermSort r = ap (λ (o : Option Cell). option_map_or (sort_eq TermSort) (option_map sort_of o) false) (grown-cell s t r c g e ∙ sym e) in
    ap₂ (λ (b : Bool) vs. (if b then term (common 0) else steps (more_marks (g_spare_mark 0) no_marks)) ∷ vs) same (values-same s t g rs (λ i k q. h (suc i) k q))

-- the values that were taken have the sorts that they had
taken-same : (s t : Store) (rs : List ℕ) (k : ℕ) → Grows s t → IsTrue (list_all (has_value_sort_at s) rs) → take k (sort_values s rs) ≡ sort_values t (take k rs)
taken-same s t rs k g h = take-map (sort_value s) k rs ∙ sym (values-same s t g (take k rs) (λ i r e. value-below s (take k rs) i r (all-taken (has_value_sort_at s) k rs h) e))

-- ---- what is added past a modal part

pub right-nothing : (s : Store) (q : ℕ) (rs : List ℕ) (k : ℕ) (label : List ℕ) → PushesRight s s Plain q rs k label label
right-nothing s q rs k label P mark base l from a = (a, (all-parts (nat_le base) rs label from).1)

pub right-string : (l : Logic) (s : Store) (q : ℕ) (rs : List ℕ) (k r : ℕ) (label after : List ℕ) → slice_get rs k ≡ Some r → after ≡ pi_label l label r → PushesRight s s Nu q rs k label after
right-string l s q rs k r label after at joined P mark base low from a =
    let p = all-parts (nat_le base) rs label from in
    (a, subst (λ ks. IsTrue (list_all (nat_le base) ks)) (sym joined) (with-item l (nat_le base) label r p.1 (all-at (nat_le base) rs k r p.0 at)))

pub right-pushed : (l : Logic) (s : Store) (q : ℕ) (rs : List ℕ) (k : ℕ) (label after : List ℕ) → IsTrue (is_store s) → IsTrue (list_all (has_value_sort_at s) rs) → after ≡ pi_label l label (length s.cells) → PushesRight s (with_cell (new_cell q (take k rs)) s) Pi q rs k label after
right-pushed l s q rs k label after h values joined P mark base low from a =
    let c : Cell = new_cell q (take k rs) in
    let t = with_cell c s in
    let p = all-parts (nat_le base) rs label from in
    let same = values-same s t (Grows-with_cell c s) (take k rs) (λ i r e. value-below s (take k rs) i r (all-taken (has_value_sort_at s) k rs values) e) in
    let built : IsTrue (is_labelled_cell P t c) = subst (λ vs. IsTrue (is_pi_position P q && fits_way P q vs)) (sym same) (mark refl) in (
      labelled-plus P base s c h (all-taken (nat_le base) k rs p.0) built a,
      subst (λ ks. IsTrue (list_all (nat_le base) ks)) (sym joined) (with-item l (nat_le base) label (length s.cells) p.1 (le-leb base (length s.cells) low)),
    )

-- ---- on the way

-- where the values fit the way to the position p, they lead here, and what was added is built right
pub IsRightTo : Problem → ℕ → Store → Store → List ℕ → List ℕ → ℕ → ℕ → Sign → Formula → ℕ → Type 0
IsRightTo P p old cur rs label k q sign f place = IsTrue (fits_way P p (sort_values old rs)) → IsRightWay P (sort_values old rs) k q sign f place × AddsRight P rs old cur label

pub right-root : (P : Problem) (p : ℕ) (s : Store) (rs label : List ℕ) (sign : Sign) (f : Formula) → p < size f → label ≡ [] → sign ≡ F → f ≡ P.formula → IsRightTo P p s s rs label 0 0 sign f p
unfolding IsRightTo
right-root P p s rs label sign f l e d g fits = (
  subst (λ x. IsRightWay P (sort_values s rs) 0 0 x f p) (sym d) (subst (λ x. IsRightWay P (sort_values s rs) 0 0 F x p) (sym g) (right-start P p (sort_values s rs) (subst (λ x. p < size x) g l) fits)),
  λ base low from a. (a, subst (λ ks. IsTrue (list_all (nat_le base) ks)) (sym e) refl),
)

right-both : (P : Problem) (old cur new : Store) (rs label after : List ℕ) → AddsBuilt old cur → AddsRight P rs old cur label → AddsRight P (rs ++ label) cur new after → AddsRight P rs old new after
right-both P old cur new rs label after adds first second base low from a =
    let (b, ls) = first base low from a in
    let longer = adds-longer old cur adds in
    second base (omega (arith, low, longer)) (all-append (nat_le base) rs label from ls) b

-- the label that is reached
pub right-so_far : (P : Problem) (p : ℕ) (old cur : Store) (rs label : List ℕ) (k q : ℕ) (sign : Sign) (f : Formula) (place : ℕ) → IsRightTo P p old cur rs label k q sign f place → IsTrue (fits_way P p (sort_values old rs)) → AddsRight P rs old cur label
unfolding IsRightTo
right-so_far P p old cur rs label k q sign f place w fits = (w fits).1

-- past the last position
pub right-last : (P : Problem) (l : Logic) (modal : ModalPart) (shape : Shape) (p : ℕ) (old cur new : Store) (rs label after : List ℕ) (k q : ℕ) (sign : Sign) (f : Formula) (place : ℕ) → IsKind P l sign f modal shape → IsOnWay P p old cur rs label k q sign f place → IsRightTo P p old cur rs label k q sign f place → PushesRight cur new modal q rs k label after → IsTrue (fits_way P p (sort_values old rs)) → AddsRight P rs old new after
unfolding IsRightTo
right-last P l modal shape p old cur new rs label after k q sign f place kind on w pushes fits =
    let (way, adds) = w fits in
    right-both P old cur new rs label after on.adds adds (pushes P (λ e.
    subst (λ vs. IsTrue (is_pi_position P q && fits_way P q vs)) (taken-same old cur rs k (Grows-built old cur on.adds) on.old_values)
    (right-mark P old rs k q sign f place way (sym (modal-of P l sign f modal shape kind) ∙ e))))

string-count : (s : Store) (m : ModalPart) (rs : List ℕ) (k n : ℕ) → TakesString s m rs k n → n ≡ k + strings_of m
string-count s Plain rs k n e = omega (arith, e)
string-count s Pi rs k n e = omega (arith, e)
string-count s Nu rs k n (r, at, sorted, e) = omega (arith, e)

term-count : (s : Store) (x : Shape) (rs : List ℕ) (k n : ℕ) → TakesTerm s x rs k n → n ≡ k + terms_of x
term-count s Alpha rs k n e = omega (arith, e)
term-count s Beta rs k n e = omega (arith, e)
term-count s Delta rs k n e = omega (arith, e)
term-count s Literal rs k n e = omega (arith, e)
term-count s Gamma rs k n (r, at, sorted, e) = omega (arith, e)

-- past a position that is not the last
pub right-further : (P : Problem) (l : Logic) (modal : ModalPart) (shape : Shape) (p : ℕ) (old cur new : Store) (rs label after : List ℕ) (k m n q : ℕ) (sign : Sign) (f : Formula) (place : ℕ) (i : Inside) → IsKind P l sign f modal shape → IsOnWay P p old cur rs label k q sign f place → IsRightTo P p old cur rs label k q sign f place → 1 < size f → TakesString cur modal rs k m → TakesTerm cur shape rs m n → PushesRight cur new modal q rs k label after → IsBelow q place (components sign f) i → IsRightTo P p old new rs after n i.further i.sign i.formula i.place
unfolding IsRightTo
right-further P l modal shape p old cur new rs label after k m n q sign f place i kind on w long string takes pushes (j, leads, is) fits =
    let (way, adds) = w fits in
    let vs = sort_values old rs in
    let ms = ap strings_of (modal-of P l sign f modal shape kind) in
    let ts = ap terms_of kind.shape_is in
    let a = string-count cur modal rs k m string in
    let b = term-count cur shape rs m n takes in
    let past = way-past q sign f place j long leads in
    let here : way_from q sign f place ≡ node q sign f ∷ way_from (q + j.further) j.sign j.formula j.place = ap (λ x. way_from q sign f x) (sym leads.position) ∙ (past j.place leads.inside).1 in
    let next = right-next P vs k n q j.further sign f place j.sign j.formula j.place way (omega (arith, a, b, ms, ts)) here past in (
      subst (λ (x : Inside). IsRightWay P vs n x.further x.sign x.formula x.place) (sym is) next,
      right-last P l modal shape p old cur new rs label after k q sign f place kind on w pushes fits,
    )
