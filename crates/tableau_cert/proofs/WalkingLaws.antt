-- The walk through an instance, one open part after the other.
use Rattle.std.proofs.Common.{◌≡◌, ℕ, ◌+◌, ◌<◌, ◌≤◌, List, [], ◌∷◌, ◌++◌, length, map, reverse, take, Bool, true, ◌&&◌, Option, Some, None, IfSome, refl, sym, ◌∙◌, ap, subst, arith, append-nil}
use Rattle.std.specs.Option.{option_map}
use Rattle.std.proofs.lemmas.List.{length-append, length-take-le, map-append, reverse-append, reverse-reverse, take-append-le}
use Rattle.std.proofs.Math.Seq.{take-length}
use Rattle.calculus.specs.ComputedInstances.{part_of}
use Rattle.calculus.specs.Ground.{GroundLiteral}
use Rattle.calculus.specs.Skolem.{is_empty}
use Rattle.calculus.specs.Syntax.{Problem}
use Rattle.formula_core.specs.FormulaView.{the_formula}
use Rattle.formula_core.specs.GroundLists.{GroundList, IsGrown, IsNormalMark, IsNormalTerm, IsNormalValue}
use Rattle.formula_core.proofs.GrownLaws.{grown-both}
use Rattle.tableau_core.specs.Walks.{capped, shaped_by}
use Rattle.tableau_core.specs.Numbered.LiteralView.{the_literal}
use Rattle.tableau_core.specs.declared.literal.GroundLiteral as numbered
use Rattle.tableau_cert.proofs.GatheringLaws.{steps-joined, walk-begins, walk-end, walk-next, walk-none}
use Rattle.tableau_cert.proofs.AllLaws.{all-dropped, all-taken}
use Rattle.tableau_cert.proofs.SteppingLaws.{label-of-grown, literals-grown, literals-normal-grown, longer-both, way-grown}
use Rattle.calculus.specs.declared.sign.Sign.TheVariants.{F}
use Rattle.calculus.specs.declared.setting.Logic.{Logic}
use Rattle.calculus.specs.Instances.{root_spot}
use Rattle.calculus.specs.Kinds.{components, shape_of}
use Rattle.tableau_cert.specs.Gathering.{AreFit, AreNormalLiterals, AreWaiting, Gathered, IsEntered, IsFit, IsOpened, IsTaken, IsWaiting, gathered, gathered_all, literals_of, open_parts, open_tasks, opened_size, part_size, parts_in, root_part, Summary, summary, task_at, the_part, the_supply, with_rest, with_steps}
use Rattle.tableau_cert.specs.WayView.{Begins, IsInside, IsLabelOf, IsLonger, IsNormalWay, WayLists, cut_back, empty_way, label_marks, point_of}
use Rattle.tableau_cert.specs.declared.way.WayPoint.{WayPoint}
use Rattle.tableau_cert.specs.declared.task.PlacedPart.{PlacedPart}
use Rattle.tableau_cert.specs.declared.task.Task as task
use Rattle.tableau_cert.specs.declared.task.Supply as supply
use Rattle.tableau_cert.specs.declared.task.Entered as entered
use Rattle.tableau_cert.specs.declared.task.Step as step
use Rattle.tableau_cert.specs.declared.task.Opened.{Opened}
use Rattle.tableau_cert.specs.declared.task.Opened.TheVariants.{Literal, One, Two}

-- ---- ways that are cut back

cut-end : (w : WayLists) → cut_back w (point_of w) ≡ w
cut-end w = λ i. record { label = w.label; start = w.start; marks = take-length w.marks i; taken = take-length w.taken i; bindings = take-length w.bindings i }

take-longer : {X : Type 0} (k : ℕ) (xs ys : List X) → Begins xs ys → k ≤ length xs → take k ys ≡ take k xs
take-longer k xs ys b h = ap (take k) b.joined ∙ take-append-le k xs b.more h

longer-length : {X : Type 0} (k : ℕ) (xs ys : List X) → Begins xs ys → k ≤ length xs → k ≤ length ys
longer-length k xs ys b h = let e = ap length b.joined ∙ length-append xs b.more in omega (arith, e, h)

cut-longer : (v w : WayLists) (p : WayPoint) → IsLonger v w → IsInside p (point_of v) → cut_back w p ≡ cut_back v p
cut-longer v w p l h = λ i. record { label = p.label; start = p.start; marks = take-longer p.marks v.marks w.marks l.marks h.marks i; taken = take-longer p.taken v.taken w.taken l.taken h.taken i; bindings = take-longer p.bindings v.bindings w.bindings l.bindings h.bindings i }

-- the way to a part that waits
pub cut-normal : (ls : List GroundList) (w : WayLists) (t : task.Task) → IsNormalWay ls w → IsWaiting ls w t → IsNormalWay ls (cut_back w t.point)
cut-normal ls w t n h = record {
  label = h.label;
  start = let e = length-take-le t.point.marks w.marks h.inside.marks in let k = h.start in omega (arith, e, k);
  marks = all-taken (IsNormalMark ls) t.point.marks w.marks n.marks;
  taken = all-taken (IsNormalValue ls) t.point.taken w.taken n.taken;
  bindings = all-taken (IsNormalTerm ls) t.point.bindings w.bindings n.bindings;
}

-- ---- parts that wait

-- the way has gone on
open-longer : (ls : List GroundList) (v w : WayLists) (ts : List task.Task) → IsLonger v w → AreWaiting ls v ts → open_tasks ls w ts ≡ open_tasks ls v ts
open-longer ls v w [] l h = refl
open-longer ls v w (t ∷ ts) l h = let e = cut-longer v w t.point l h.0.inside in λ i. the_part ls (e i) t.placed ∷ open_tasks ls (e i) ts

waiting-longer : (ls : List GroundList) (v w : WayLists) (ts : List task.Task) → IsLonger v w → AreWaiting ls v ts → AreWaiting ls w ts
waiting-longer ls v w [] l h = refl
waiting-longer ls v w (t ∷ ts) l h = let e = cut-longer v w t.point l h.0.inside in (
  record {
    fits = h.0.fits;
    inside = record { marks = longer-length t.point.marks v.marks w.marks l.marks h.0.inside.marks; taken = longer-length t.point.taken v.taken w.taken l.taken h.0.inside.taken; bindings = longer-length t.point.bindings v.bindings w.bindings l.bindings h.0.inside.bindings };
    start = h.0.start;
    label = subst (λ x. IfSome t.point.label (IsLabelOf ls (label_marks x))) (sym e) h.0.label;
  },
  subst (λ x. AreWaiting ls x ts) (sym e) h.1,
)

-- the table has grown
module _ (a b : List GroundList) (g : IsGrown a b) where
  open-grown : (w : WayLists) (ts : List task.Task) → IsNormalWay a w → AreWaiting a w ts → open_tasks b w ts ≡ open_tasks a w ts
  open-grown w [] n h = refl
  open-grown w (t ∷ ts) n h =
      let k = cut-normal a w t n h.0 in
      λ i. record { sign = t.placed.part.sign; formula = the_formula t.placed.part.formula.now; spot = way-grown a b g (cut_back w t.point) t.placed.position k i } ∷ open-grown (cut_back w t.point) ts k h.1 i

  waiting-grown : (w : WayLists) (ts : List task.Task) → IsNormalWay a w → AreWaiting a w ts → AreWaiting b w ts
  waiting-grown w [] n h = refl
  waiting-grown w (t ∷ ts) n h =
      let k = cut-normal a w t n h.0 in
      (record { fits = h.0.fits; inside = h.0.inside; start = h.0.start; label = label-of-grown a b g (label_marks (cut_back w t.point)) t.point.label (all-dropped (IsNormalMark a) t.point.start (take t.point.marks w.marks) k.marks) h.0.label }, waiting-grown (cut_back w t.point) ts k h.1)

-- the parts that a step gives wait at the end of the way
open-new : (ls : List GroundList) (w : WayLists) (o : Opened) (ts : List task.Task) → open_tasks ls w (map (task_at (point_of w)) (parts_in o) ++ ts) ≡ open_parts ls w o ++ open_tasks ls w ts
open-new ls w (Literal x) ts = refl
open-new ls w (One t) ts = let e = cut-end w in λ i. the_part ls (e i) t ∷ open_tasks ls (e i) ts
open-new ls w (Two t u) ts = let e = cut-end w in
    (λ i. the_part ls (e i) t ∷ the_part ls (cut_back (e i) (point_of w)) u ∷ open_tasks ls (cut_back (e i) (point_of w)) ts)
    ∙ (λ i. the_part ls w t ∷ the_part ls (e i) u ∷ open_tasks ls (e i) ts)

waits : (ls : List GroundList) (w : WayLists) (t : PlacedPart) → IsNormalWay ls w → IsFit t → IsWaiting ls w (task_at (point_of w) t)
waits ls w t n h = record {
  fits = h;
  inside = record { marks = omega arith; taken = omega arith; bindings = omega arith };
  start = n.start;
  label = subst (λ x. IfSome w.label (IsLabelOf ls (label_marks x))) (sym (cut-end w)) n.label;
}

new-waiting : (ls : List GroundList) (w : WayLists) (o : Opened) (ts : List task.Task) → IsNormalWay ls w → AreFit ls o → AreWaiting ls w ts → AreWaiting ls w (map (task_at (point_of w)) (parts_in o) ++ ts)
new-waiting ls w (Literal x) ts n f h = h
new-waiting ls w (One t) ts n f h = (waits ls w t n f, subst (λ x. AreWaiting ls x ts) (sym (cut-end w)) h)
new-waiting ls w (Two t u) ts n f h = (waits ls w t n f.0, subst (λ x. AreWaiting ls x (task_at (point_of w) u ∷ ts)) (sym (cut-end w)) (waits ls w u n f.1, subst (λ x. AreWaiting ls x ts) (sym (cut-end w)) h))

literals-more : (ls : List GroundList) (xs ys : List numbered.GroundLiteral) → AreNormalLiterals ls xs → AreNormalLiterals ls ys → AreNormalLiterals ls (xs ++ ys)
literals-more ls [] ys h n = n
literals-more ls (x ∷ xs) ys h n = (h.0, literals-more ls xs ys h.1 n)

parts-literals : (ls : List GroundList) (o : Opened) → AreFit ls o → AreNormalLiterals ls (literals_of o)
parts-literals ls (Literal x) h = (h, tt)
parts-literals ls (One t) h = tt
parts-literals ls (Two t u) h = tt

abbrev pub tasks_size : List task.Task → ℕ
tasks_size [] = 0
tasks_size (t ∷ ts) = part_size t.placed + tasks_size ts

parts-size : (p : WayPoint) (o : Opened) (ts : List task.Task) → tasks_size (map (task_at p) (parts_in o) ++ ts) ≡ opened_size o + tasks_size ts
parts-size p (Literal x) ts = omega arith
parts-size p (One t) ts = refl
parts-size p (Two t u) ts = omega arith

abbrev pub state_of : List GroundList → List GroundList → List numbered.GroundLiteral → Bool → ℕ → supply.Supply → Gathered
state_of given ls xs b n u = record { literals = map (the_literal ls) xs; allowed = b; steps = n; rest = the_supply given u }

abbrev new_tasks : WayPoint → Opened → List task.Task
new_tasks p o = map (task_at p) (parts_in o)

turned : (rest news : List task.Task) (p q : WayPoint) (o : Opened) → news ≡ rest ++ reverse (new_tasks p o) → p ≡ q → reverse news ≡ new_tasks q o ++ reverse rest
turned rest news p q o e h = ap reverse e ∙ reverse-append rest (reverse (new_tasks p o)) ∙ ap (λ xs. xs ++ reverse rest) (reverse-reverse (new_tasks p o)) ∙ ap (λ x. new_tasks x o ++ reverse rest) h

module _ (P : Problem) (l : Logic) (given before after : List GroundList) (t : task.Task) (all rest : List task.Task) (xs : List numbered.GroundLiteral) (b : Bool) (n : ℕ) (u : supply.Supply) (e : all ≡ rest ++ t ∷ []) (long v w : WayLists) (c : v ≡ cut_back long t.point) where
  abbrev so_far : Option Gathered
  so_far = gathered_all P l (open_tasks before long (reverse all)) (state_of given before xs b n u)

  top : so_far ≡ gathered_all P l (the_part before v t.placed ∷ open_tasks before v (reverse rest)) (state_of given before xs b n u)
  top =
      ap (λ ts. gathered_all P l (open_tasks before long ts) (state_of given before xs b n u)) (ap reverse e ∙ reverse-append rest (t ∷ []))
      ∙ ap (λ x. gathered_all P l (the_part before x t.placed ∷ open_tasks before x (reverse rest)) (state_of given before xs b n u)) (sym c)

  pub walk-stopped : (o : Option Gathered) → so_far ≡ o → IsTaken P l given before after v w t.placed u None → o ≡ None
  walk-stopped o h k = sym h ∙ top ∙ walk-none P l (the_part before v t.placed) (open_tasks before v (reverse rest)) (state_of given before xs b n u) (k.same (state_of given before xs b n u) refl)

  pub walk-goes_on : (x : step.Step) (m k : ℕ) (p : WayPoint) (news : List task.Task) (more : List numbered.GroundLiteral) (o : Option Gathered) → so_far ≡ o → p ≡ point_of w → news ≡ rest ++ reverse (new_tasks p x.opened) → more ≡ xs ++ literals_of x.opened → k ≡ capped (n + m) → IsNormalWay before v → AreWaiting before v (reverse rest) → AreNormalLiterals before xs → IsTaken P l given before after v w t.placed u (Some (x, m)) → gathered_all P l (open_tasks after w (reverse news)) (state_of given after more (b && x.allowed) k x.supply) ≡ o
  walk-goes_on x m k p news more o h q a d s y ts ls r =
      (λ i. gathered_all P l (open_tasks after w (turned rest news p (point_of w) x.opened a q i)) (record { literals = map (the_literal after) (d i); allowed = b && x.allowed; steps = s i; rest = the_supply given x.supply }))
      ∙ (λ i. gathered_all P l (open-new after w x.opened (reverse rest) i) (record { literals = map-append (the_literal after) xs (literals_of x.opened) i; allowed = b && x.allowed; steps = capped (n + m); rest = the_supply given x.supply }))
      ∙ (λ i. gathered_all P l (open_parts after w x.opened ++ (open-longer after v w (reverse rest) r.step.longer (waiting-grown before after r.grown v (reverse rest) y ts) ∙ open-grown before after r.grown v (reverse rest) y ts) i) (record { literals = literals-grown before after r.grown xs ls i ++ map (the_literal after) (literals_of x.opened); allowed = b && x.allowed; steps = capped (n + m); rest = the_supply given x.supply }))
      ∙ sym (walk-next P l (the_part before v t.placed) (open_tasks before v (reverse rest)) (open_parts after w x.opened) (state_of given before xs b n u) (with_steps after (state_of given before xs b n u) x.opened x.allowed m (the_supply given x.supply)) (r.same (state_of given before xs b n u) refl))
      ∙ sym top ∙ h

pub tasks-kept : (before after : List GroundList) (v w : WayLists) (p : WayPoint) (o : Opened) (rest news : List task.Task) → IsGrown before after → IsLonger v w → IsNormalWay before v → IsNormalWay after w → p ≡ point_of w → news ≡ rest ++ reverse (new_tasks p o) → AreFit after o → AreWaiting before v (reverse rest) → AreWaiting after w (reverse news)
tasks-kept before after v w p o rest news g l y z q e f h = subst (AreWaiting after w) (sym (turned rest news p (point_of w) o e q)) (new-waiting after w o (reverse rest) z f (waiting-longer after v w (reverse rest) l (waiting-grown before after g v (reverse rest) y h)))

pub literals-kept : (before after : List GroundList) (o : Opened) (xs more : List numbered.GroundLiteral) → IsGrown before after → more ≡ xs ++ literals_of o → AreFit after o → AreNormalLiterals before xs → AreNormalLiterals after more
literals-kept before after o xs more g e h n = subst (AreNormalLiterals after) (sym e) (literals-more after xs (literals_of o) (literals-normal-grown before after g xs n) (parts-literals after o h))

-- the part that comes next, and those that wait behind it
module _ (ls : List GroundList) (long v : WayLists) (all rest : List task.Task) (t : task.Task) (e : all ≡ rest ++ t ∷ []) (c : v ≡ cut_back long t.point) (h : AreWaiting ls long (reverse all)) where
  parted : AreWaiting ls long (t ∷ reverse rest)
  parted = subst (AreWaiting ls long) (ap reverse e ∙ reverse-append rest (t ∷ [])) h

  pub popped-fits : IsFit t.placed
  popped-fits = parted.0.fits

  pub popped-way : IsNormalWay ls long → IsNormalWay ls v
  popped-way n = subst (IsNormalWay ls) (sym c) (cut-normal ls long t n parted.0)

  pub popped-waiting : AreWaiting ls v (reverse rest)
  popped-waiting = subst (λ x. AreWaiting ls x (reverse rest)) (sym c) parted.1

pub size-falls : (p : WayPoint) (o : Opened) (all rest news : List task.Task) (t : task.Task) → all ≡ rest ++ t ∷ [] → news ≡ rest ++ reverse (new_tasks p o) → opened_size o < part_size t.placed → tasks_size (reverse news) < tasks_size (reverse all)
size-falls p o all rest news t e h l =
    let a = ap tasks_size (ap reverse e ∙ reverse-append rest (t ∷ [])) in
    let b = ap tasks_size (turned rest news p p o h refl) ∙ parts-size p o (reverse rest) in
    omega (arith, a, b, l)

-- ---- a step

pub taken-none : (P : Problem) (l : Logic) (given before after : List GroundList) (v w : WayLists) (t : PlacedPart) (u : supply.Supply) → IsEntered l given before after v w t.part.sign (the_formula t.part.formula.now) t.position u None → IsTaken P l given before after v w t u None
taken-none P l given before after v w t u e = record { same = λ g h. e.same P g h; step = tt; grown = e.grown }

module _ (P : Problem) (l : Logic) (given before middle after : List GroundList) (v m w : WayLists) (t : PlacedPart) (u : supply.Supply) (e : entered.Entered) where
  abbrev Opens : Option step.Step → Type 0
  Opens o = IsOpened P l given middle after m w (shaped_by l (shape_of t.part.sign (the_formula t.part.formula.now)) (components t.part.sign (the_formula t.part.formula.now))) (part_size t) t.position e.supply o

  abbrev Enters : Type 0
  Enters = IsEntered l given before middle v m t.part.sign (the_formula t.part.formula.now) t.position u (Some e)

  pub taken-not_opened : Enters → Opens None → IsTaken P l given before after v w t u None
  taken-not_opened h k = record { same = λ g q. h.same P g q ∙ k.same (with_rest g e.steps true (the_supply given e.supply)) refl; step = tt; grown = grown-both before middle after h.grown k.grown }

  pub taken : (x : step.Step) → Enters → Opens (Some x) → IsTaken P l given before after v w t u (Some (x, e.steps))
  taken x h k = record {
    same = λ g q. h.same P g q ∙ k.same (with_rest g e.steps true (the_supply given e.supply)) refl ∙ ap (gathered_all P l (open_parts after w x.opened)) (steps-joined after g x.opened x.allowed e.steps (the_supply given e.supply) (the_supply given x.supply));
    step = record { way = k.step.way; longer = longer-both v m w h.past.longer k.step.longer; parts = k.step.parts; values = k.step.values; smaller = k.step.smaller };
    grown = grown-both before middle after h.grown k.grown;
  }

-- ---- the beginning and the end

module _ (ls : List GroundList) (t : task.Task) (ts : List task.Task) (w : WayLists) (e : ts ≡ t ∷ []) (z : w ≡ empty_way) (q : t.point ≡ point_of empty_way) where
  pub begins : (P : Problem) (l : Logic) (g : Gathered) → the_part ls empty_way t.placed ≡ root_part P → l ≡ P.setting.logic → gathered_all P l (open_tasks ls w (reverse ts)) g ≡ gathered P (part_of P.setting.logic P.formula F) root_spot g
  begins P l g h k =
      ap (λ xs. gathered_all P l (open_tasks ls w (reverse xs)) g) e
      ∙ (λ i. gathered_all P l (the_part ls (cut_back (z i) (q i)) t.placed ∷ []) g)
      ∙ ap (λ x. gathered_all P l (x ∷ []) g) h ∙ walk-begins P l (root_part P) g ∙ ap (λ m. gathered P (part_of m P.formula F) root_spot g) k

  pub begins-normal : IsNormalWay ls w
  begins-normal = subst (IsNormalWay ls) (sym z) (record { label = tt; start = omega arith; marks = tt; taken = tt; bindings = tt })

  pub begins-waiting : IsFit t.placed → AreWaiting ls w (reverse ts)
  begins-waiting f = subst (λ (x : WayLists × List task.Task). AreWaiting ls x.0 (reverse x.1)) (λ i. (sym z i, sym e i)) (subst (λ (p : WayPoint). AreWaiting ls empty_way (record { placed = t.placed; point = p } ∷ [])) (sym q) (record { fits = f; inside = record { marks = omega arith; taken = omega arith; bindings = omega arith }; start = omega arith; label = tt }, refl))

pub ends : (P : Problem) (l : Logic) (ls : List GroundList) (w : WayLists) (ts : List task.Task) (g : Gathered) (o : Option Gathered) → gathered_all P l (open_tasks ls w (reverse ts)) g ≡ o → ts ≡ [] → Some (summary g) ≡ option_map summary o
ends P l ls w ts g o h e = ap (option_map summary) (sym (ap (λ xs. gathered_all P l (open_tasks ls w (reverse xs)) g) e ∙ walk-end P l [] g refl) ∙ h)

-- the summary of what is gathered
abbrev summed : List GroundLiteral → Bool → ℕ → Bool → Option Summary
summed xs b n z = Some (record { literals = xs; allowed = b; steps = n; used_up = z })

pub ends-used : (P : Problem) (l : Logic) (given ls : List GroundList) (w : WayLists) (ts : List task.Task) (xs : List numbered.GroundLiteral) (b used : Bool) (n : ℕ) (u : supply.Supply) (v : Option Gathered) → used ≡ (is_empty (the_supply given u).sides && is_empty (the_supply given u).values) → gathered_all P l (open_tasks ls w (reverse ts)) (state_of given ls xs b n u) ≡ v → ts ≡ [] → ◌≡◌ {A = Option Summary} (Some (record { literals = map (the_literal ls) xs; allowed = b; steps = n; used_up = used })) (option_map summary v)
ends-used P l given ls w ts xs b used n u v k h e =
    ap (summed (map (the_literal ls) xs) b n) k
    ∙ ends P l ls w ts (state_of given ls xs b n u) v h e

-- what a part gives is put before the open parts or behind the literals

module _ (old new : List task.Task) (p : WayPoint) (o : Opened) where
  pub put-none : (x : numbered.GroundLiteral) → o ≡ Literal x → new ≡ old → new ≡ old ++ reverse (new_tasks p o)
  put-none x e h = h ∙ sym (append-nil old) ∙ ap (λ y. old ++ reverse (new_tasks p y)) (sym e)

  pub put-one : (t : PlacedPart) → o ≡ One t → new ≡ old ++ task_at p t ∷ [] → new ≡ old ++ reverse (new_tasks p o)
  put-one t e h = h ∙ ap (λ y. old ++ reverse (new_tasks p y)) (sym e)

  pub put-two : (t u : PlacedPart) → o ≡ Two t u → new ≡ old ++ task_at p u ∷ task_at p t ∷ [] → new ≡ old ++ reverse (new_tasks p o)
  put-two t u e h = h ∙ ap (λ y. old ++ reverse (new_tasks p y)) (sym e)

module _ (old new : List numbered.GroundLiteral) (o p : Opened) (e : o ≡ p) where
  pub put-literals : new ≡ old ++ literals_of p → new ≡ old ++ literals_of o
  put-literals h = h ∙ ap (λ y. old ++ literals_of y) (sym e)

  pub put-no_literals : literals_of p ≡ [] → new ≡ old → new ≡ old ++ literals_of o
  put-no_literals z h = h ∙ sym (append-nil old) ∙ ap (λ ys. old ++ ys) (sym (ap literals_of e ∙ z))
