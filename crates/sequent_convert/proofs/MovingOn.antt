-- What the loop does, case by case: each keeps the invariant and leaves less to do.
use Rattle.std.proofs.Common.{◌≡◌, ◌⊎◌, ℕ, zero, suc, ◌+◌, ◌≤◌, ◌<◌, List, [], ◌∷◌, ◌++◌, map, length, length-append, take, drop, append_assoc, append-nil, true, false, Option, Some, Contains, flat_map, refl, sym, ◌∙◌, ap, subst, inl, inr, slice_get, arith}
use Rattle.std.specs.List.{AllByRecursion}
use Rattle.std.proofs.lemmas.List.{length-map, take-append-drop, drop-drop}
use Rattle.std.proofs.lemmas.Option.{slice_get_within}
use Rattle.plain_laws.proofs.Options.{none_some, some_injective}
use Rattle.plain_laws.proofs.Places.{get-there}
use Rattle.calculus.specs.declared.setting.Logic.{Logic}
use Rattle.calculus.specs.declared.kind.Shape.TheVariants.{Beta, Literal}
use Rattle.calculus.specs.declared.kind.ModalPart.{ModalPart}
use Rattle.calculus.specs.declared.kind.ModalPart.TheVariants.{Plain, Nu, Pi}
use Rattle.calculus.specs.Syntax.{Problem}
use Rattle.calculus.specs.Ground.{Value, term, steps}
use Rattle.calculus.specs.Kinds.{Signed, shape_of, modal_of, components}
use Rattle.calculus.specs.Positions.{size}
use Rattle.calculus.specs.Instances.{Spot, Turn, ClauseInstance, down_by}
use Rattle.calculus.specs.Derivations.{ModalArg, apply_to, no_term}
use Rattle.calculus.specs.Text.{is_number}
use Rattle.calculus.specs.Tableaux.{Closings, extend, no_closings, more_closings, instances_below, instances_of_all, instances}
use Rattle.conversion_theory.specs.Turns.{Name, turns_of_instance, IsParent, names_of_value, names_of_home, names_mentioned, names_introduced, has_introduced_names}
use Rattle.conversion_theory.specs.Numbering.{number_of}
use Rattle.conversion_theory.specs.Branches.{Item, item, Past, past_modal, rests, grows, splits, made_beta}
use Rattle.conversion_theory.specs.Leading.{End, by_closing, ends_of, ends_at, ends_cost, ends_weight, turns_before}
use Rattle.calculus.proofs.Members.{Among, among-at, among-left, among-right, among-append, among-joined, joined-among, among-contains}
use Rattle.conversion_theory.proofs.RunLaws.{Branch, branch}
use Rattle.conversion_theory.proofs.TaskLaws.{count-step, cost-split, weight-split}
use Rattle.conversion_theory.proofs.FollowLaws.{has_one_part}
use Rattle.conversion_theory.proofs.LedLaws.{parent-done}
use Rattle.conversion_theory.proofs.MadeLaws.{made-by}
use Rattle.conversion_theory.proofs.SegmentLaws.{Leads, leads-item, leads-parent, leads-part, Parts, leads-parts, leads-literal}
use Rattle.conversion_theory.proofs.LeadingLaws.{leading-one, leading-two, literal-extends, none-awaited, extension-cost, extension-weight}
use Rattle.conversion_theory.proofs.LoopMeasures.{leads-turns}
use Rattle.name_order.specs.Prerequisites.{own_part, count_before}
use Rattle.sequent_convert.specs.AheadView.{Ahead, end_instances, ends_instances, ends_sizes, instance_count}
use Rattle.sequent_convert.specs.State.{Basis, IsBasis, State, turn_at, turns_at, waiting_ways, IsAhead, IsOpenRun, IsRun, room_of, Works, made_of, IsAwaitedBy, ComesNext, ComesFor, first_turns, first_count, first_part, second_part, IsDoneAhead, Begins, BeginsNot, Moves, closes, skips, stays, adds, forks_ahead, forks_other, passes, to_first, to_second, extends}
use Rattle.sequent_convert.proofs.TurnPlaces.{turn-in, turn-is, turns-are, turn-of, turn-done, done-turn, all-take, all-drop}
use Rattle.sequent_convert.proofs.SizesAhead.{row-first, row-second, sizes-split, sizes-extended, ends-counted}
use Rattle.sequent_convert.proofs.PartsAhead.{led-first, led-second, parts-by_position, first-is, second-is}
use Rattle.sequent_convert.proofs.Moving.{Coming, grown, made-led, unchanged, skipped, forked, ahead-changes, closed-kept}

-- ---- ends and their instances

instances-split : (n : ℕ) (es : List End) → ends_instances es ≡ ends_instances (take n es) ++ ends_instances (drop n es)
instances-split zero es = refl
instances-split (suc n) [] = refl
instances-split (suc n) (e ∷ es) = ap (λ is. end_instances e ++ is) (instances-split n es) ∙ sym (append_assoc (end_instances e) (ends_instances (take n es)) (ends_instances (drop n es)))

pub instances-start : (cs : Closings) → ends_instances (ends_of cs) ≡ instances_of_all cs
instances-start no_closings = refl
instances-start (more_closings c cs) = ap (λ is. instances_below c ++ is) (instances-start cs)

-- those of an extension: where the place is past the closings, these are all
pub instances-extension : (place : ℕ) (cs : Closings) → ends_instances (ends_at place cs) ≡ instances_of_all cs
instances-extension zero cs = instances-start cs
instances-extension (suc k) no_closings = refl
instances-extension (suc k) (more_closings c cs) = ap (λ is. instances_below c ++ is) (instances-extension k cs)

-- ---- what a fork makes

past-position : (num : Name → ℕ) (l : Logic) (m : ModalPart) (c : Spot) (vs : List Value) → (past_modal num l m c vs).spot.position ≡ c.position
past-position num l Plain c vs = refl
past-position num l Nu c [] = refl
past-position num l Nu c (steps w ∷ vs) = refl
past-position num l Nu c (term t ∷ vs) = refl
past-position num l Pi c vs = refl

module _ (B : Basis) (i : Item) (own : List Value) (a b : Signed) (shape : shape_of i.sign i.formula ≡ Beta) (two : components i.sign i.formula ≡ a ∷ b ∷ []) where
  abbrev past_of : Past
  past_of = past_modal (number_of B.named.names) B.problem.setting.logic (modal_of B.problem.setting.logic i.sign i.formula) i.spot own

  abbrev left_of : Item
  left_of = item (down_by 1 past_of.spot) a.sign a.formula

  abbrev right_of : Item
  right_of = item (down_by (suc (size a.formula)) past_of.spot) b.sign b.formula

  beta-made : made_of B i own ≡ splits past_of.arg left_of right_of
  beta-made = made-by (number_of B.named.names) B.problem.setting.logic i.spot i.sign i.formula own Beta past_of shape refl ∙ ap (made_beta past_of) two

  right-position : right_of.spot.position ≡ i.spot.position + suc (size a.formula)
  right-position = ap (λ n. n + suc (size a.formula)) (past-position (number_of B.named.names) B.problem.setting.logic (modal_of B.problem.setting.logic i.sign i.formula) i.spot own)

-- ---- names by the values that a turn takes itself

dropped : {A : Type 0} (n : ℕ) (xs : List A) (x : A) → Among (drop n xs) x → Among xs x
dropped zero xs x h = h
dropped (suc n) [] x h = h
dropped (suc n) (y ∷ ys) x h = inr (dropped n ys x h)

own-mentioned : (P : Problem) (agenda : List Turn) (p : Option ℕ) (x : Turn) (n : Name) → Among (names_mentioned P (own_part agenda p x)) n → Among (names_mentioned P x) n
own-mentioned P agenda p x n h = elim (among-append (flat_map names_of_value (drop (count_before agenda p) x.values)) (flat_map (names_of_home P) (flat_map names_of_value (drop (count_before agenda p) x.values))) n h) [
  | inl k ↦ among-left (flat_map names_of_value x.values) (flat_map (names_of_home P) (flat_map names_of_value x.values)) n (value n k)
  | inr k ↦ let r = among-joined (names_of_home P) (flat_map names_of_value (drop (count_before agenda p) x.values)) n k in among-right (flat_map names_of_value x.values) (flat_map (names_of_home P) (flat_map names_of_value x.values)) n (joined-among (names_of_home P) (flat_map names_of_value x.values) r.0 n (value r.0 r.1) r.2)
]
  where
    value : (m : Name) → Among (flat_map names_of_value (drop (count_before agenda p) x.values)) m → Among (flat_map names_of_value x.values) m
    value m k = let r = among-joined names_of_value (drop (count_before agenda p) x.values) m k in joined-among names_of_value x.values r.0 m (dropped (count_before agenda p) x.values r.0 r.1) r.2

module _ (B : Basis) (basis : IsBasis B) (coming : Coming B) where
  -- the turns of an instance by its place
  pub order-is : (n : ℕ) (j : ClauseInstance) (rest : List ClauseInstance) (turns : List ℕ) → drop n (instances B.tableau) ≡ j ∷ rest → slice_get B.named.order n ≡ Some turns → (turns_at B turns ≡ turns_of_instance B.problem j) × AllByRecursion (λ k. k < length B.named.agenda) turns
  order-is n j rest turns row at = turns-are B turns (turns_of_instance B.problem j) (ordered n B.named.order (instances B.tableau) basis.order row at)
    where
      ordered : (m : ℕ) (ws : List (List ℕ)) (is : List ClauseInstance) → map (map (slice_get B.named.agenda)) ws ≡ map (λ i. map Some (turns_of_instance B.problem i)) is → drop m is ≡ j ∷ rest → slice_get ws m ≡ Some turns → map (slice_get B.named.agenda) turns ≡ map Some (turns_of_instance B.problem j)
      ordered m [] is e d q = absurd (none_some q)
      ordered m (w ∷ ws) [] e d q = absurd (cons_nil e)
        where
          cons_nil : {A : Type 0} {a : A} {l : List A} → a ∷ l ≡ [] → ⊥
          cons_nil z = cc
      ordered zero (w ∷ ws) (i ∷ is) e d q =
          let head : map (slice_get B.named.agenda) w ≡ map Some (turns_of_instance B.problem i) = cc in
          let same : w ≡ turns = some_injective w q in
          let first : i ≡ j = cc in
          sym (ap (map (slice_get B.named.agenda)) same) ∙ head ∙ ap (λ k. map Some (turns_of_instance B.problem k)) first
      ordered (suc m) (w ∷ ws) (i ∷ is) e d q = let tail : map (map (slice_get B.named.agenda)) ws ≡ map (λ i. map Some (turns_of_instance B.problem i)) is = cc in ordered m ws is tail d q

  module _ (s : State) (h : IsOpenRun B s) (o : s.is_open ≡ true) where
    abbrev here : Branch
    here = branch s.items (turns_at B s.done)

    abbrev Kept : State → Type 0
    Kept r = IsRun B r × (room_of B r < room_of B s)

    pub leads-ahead : (k : ℕ) (ks : List ℕ) → s.ahead.turns ≡ k ∷ ks → Leads B.problem B.limit B.tableau B.named.names here (turn_at B k ∷ turns_at B ks) s.ahead.ends
    leads-ahead k ks e = subst (λ ts. Leads B.problem B.limit B.tableau B.named.names here ts s.ahead.ends) (ap (turns_at B) e) h.leading.kept.0.leads

    within-first : (k : ℕ) (ks : List ℕ) → s.ahead.turns ≡ k ∷ ks → (k < length B.named.agenda) × AllByRecursion (λ j. j < length B.named.agenda) ks
    within-first k ks e = subst (AllByRecursion (λ j. j < length B.named.agenda)) e h.ahead.within

    -- ---- the parts of what is ahead

    lengths : (n : ℕ) (ks : List ℕ) → length (take n ks) + length (drop n ks) ≡ length ks
    lengths n ks = sym (length-append (take n ks) (drop n ks)) ∙ ap length (take-append-drop n ks)

    parts-row : (m : ℕ) → drop s.ahead.instance (instances B.tableau) ≡ ends_instances (take m s.ahead.ends) ++ (ends_instances (drop m s.ahead.ends) ++ h.ahead.rest)
    parts-row m = row-first (ends_instances s.ahead.ends) (ends_instances (take m s.ahead.ends)) (ends_instances (drop m s.ahead.ends)) h.ahead.rest (drop s.ahead.instance (instances B.tableau)) h.ahead.row (instances-split m s.ahead.ends)

    ahead-first : (k : ℕ) (ks : List ℕ) → s.ahead.turns ≡ k ∷ ks → (p : ℕ) → IsAhead B (first_part B p ks s.ahead)
    ahead-first k ks e p =
        let m = first_count B p ks in
        let n = turns_before p (turns_at B ks) in
        let long = lengths n ks in
        let all = ap length e in
        let weights = weight-split B.problem m s.ahead.ends in
        let light = h.ahead.light in
        record {
          within = all-take (λ j. j < length B.named.agenda) n ks (within-first k ks e).1;
          rest = ends_instances (drop m s.ahead.ends) ++ h.ahead.rest;
          row = parts-row m;
          behind = ends_sizes (drop m s.ahead.ends) ++ h.ahead.behind;
          sized = row-first (ends_sizes s.ahead.ends) (ends_sizes (take m s.ahead.ends)) (ends_sizes (drop m s.ahead.ends)) h.ahead.behind (drop s.ahead.instance B.sizes) h.ahead.sized (sizes-split m s.ahead.ends);
          light = omega (arith, long, all, weights, light);
        }

    ahead-second : (k : ℕ) (ks : List ℕ) → s.ahead.turns ≡ k ∷ ks → (p : ℕ) → IsAhead B (second_part B p ks s.ahead)
    ahead-second k ks e p =
        let m = first_count B p ks in
        let n = turns_before p (turns_at B ks) in
        let long = lengths n ks in
        let all = ap length e in
        let weights = weight-split B.problem m s.ahead.ends in
        let light = h.ahead.light in
        record {
          within = all-drop (λ j. j < length B.named.agenda) n ks (within-first k ks e).1;
          rest = h.ahead.rest;
          row = row-second (instances B.tableau) s.ahead.instance (instance_count (take m s.ahead.ends)) (ends_instances s.ahead.ends) (ends_instances (take m s.ahead.ends)) (ends_instances (drop m s.ahead.ends)) h.ahead.rest h.ahead.row (instances-split m s.ahead.ends) refl;
          behind = h.ahead.behind;
          sized = row-second B.sizes s.ahead.instance (instance_count (take m s.ahead.ends)) (ends_sizes s.ahead.ends) (ends_sizes (take m s.ahead.ends)) (ends_sizes (drop m s.ahead.ends)) h.ahead.behind h.ahead.sized (sizes-split m s.ahead.ends) (ends-counted (take m s.ahead.ends));
          light = omega (arith, long, all, weights, light);
        }

    weigh-first : (k : ℕ) (ks : List ℕ) → s.ahead.turns ≡ k ∷ ks → (p : ℕ) → length (first_part B p ks s.ahead).turns + ends_weight B.problem (first_part B p ks s.ahead).ends < length s.ahead.turns + ends_weight B.problem s.ahead.ends
    weigh-first k ks e p = let long = lengths (turns_before p (turns_at B ks)) ks in let all = ap length e in let weights = weight-split B.problem (first_count B p ks) s.ahead.ends in omega (arith, long, all, weights)

    weigh-second : (k : ℕ) (ks : List ℕ) → s.ahead.turns ≡ k ∷ ks → (p : ℕ) → length (second_part B p ks s.ahead).turns + ends_weight B.problem (second_part B p ks s.ahead).ends < length s.ahead.turns + ends_weight B.problem s.ahead.ends
    weigh-second k ks e p = let long = lengths (turns_before p (turns_at B ks)) ks in let all = ap length e in let weights = weight-split B.problem (first_count B p ks) s.ahead.ends in omega (arith, long, all, weights)

    -- ---- forks

    fork-ahead : (k : ℕ) (ks : List ℕ) (n : ℕ) (i : Item) (own : List Value) (m : ModalArg) (p q : Item) → s.ahead.turns ≡ k ∷ ks → ComesNext B s.done k → slice_get s.items n ≡ Some i → is_number (suc n) ≡ true → Works B k i own → made_of B i own ≡ splits m p q → Kept (record s { steps = s.steps ++ apply_to (suc n) m no_term ∷ []; items = s.items ++ p ∷ []; done = s.done ++ k ∷ []; ahead = first_part B q.spot.position ks s.ahead; waiting = record { nodes = length s.items; done = length s.done + 1; node = q; ahead = second_part B q.spot.position ks s.ahead } ∷ s.waiting })
    fork-ahead k ks n i own m p q e next at number works two =
        let both = made-led B basis coming s h o k n i own (splits m p q) next at number works two in
        let D = turns_at B s.done ++ turn_at B k ∷ [] in
        let ts = ap (turns_at B) e in
        let done : Among D (turn_at B k) = among-right (turns_at B s.done) (turn_at B k ∷ []) (turn_at B k) (inl refl) in
        let left = led-first B (branch (s.items ++ p ∷ []) D) both.run.good.0 (turn_at B k) ks s.ahead.ends (subst (λ us. Leads B.problem B.limit B.tableau B.named.names (branch (s.items ++ p ∷ []) D) us s.ahead.ends) ts both.kept.0.leads) both.kept.0.left done i (among-left s.items (p ∷ []) i (among-at s.items n i at)) own works m p q two (among-right s.items (p ∷ []) p (inl refl)) in
        let right = led-second B (branch (s.items ++ q ∷ []) D) both.run.good.1.0 (turn_at B k) ks s.ahead.ends (subst (λ us. Leads B.problem B.limit B.tableau B.named.names (branch (s.items ++ q ∷ []) D) us s.ahead.ends) ts both.kept.1.0.leads) both.kept.1.0.left done i (among-left s.items (q ∷ []) i (among-at s.items n i at)) own works m p q two (among-right s.items (q ∷ []) q (inl refl)) in
        let after = s.steps ++ apply_to (suc n) m no_term ∷ [] in
        let a = first_part B q.spot.position ks s.ahead in
        let c = second_part B q.spot.position ks s.ahead in
        let count = count-step s.steps (suc n) m no_term in
        let costs = cost-split (first_count B q.spot.position ks) s.ahead.ends in
        let low = weigh-first k ks e q.spot.position in
        let lower = weigh-second k ks e q.spot.position in
        forked B basis coming s h o k after p q a c next
        (leading-two B.problem B.limit B.tableau B.named.names after (branch (s.items ++ p ∷ []) D) (branch (s.items ++ q ∷ []) D) (turns_at B s.ahead.turns) (turns_at B s.ahead.turns) (turns_at B a.turns) (turns_at B c.turns) s.ahead.ends s.ahead.ends a.ends c.ends (waiting_ways B s.items s.done s.waiting) both left right)
        (ahead-first k ks e q.spot.position) (ahead-second k ks e q.spot.position) (omega (arith, low)) (omega (arith, lower))
        (λ none. let u = h.cost none in omega (arith, u, count, costs))

    -- without introduced names the turn ahead can come at once
    awaits-none : has_introduced_names B.tableau ≡ false → (k : ℕ) (ks : List ℕ) → s.ahead.turns ≡ k ∷ ks → (j : ℕ) → IsAwaitedBy B k j → Contains s.done j
    awaits-none none k ks e j (inl up) =
        let r = basis.parents.parent k j (turn_at B k) up (turn-in B k (within-first k ks e).0) in
        let up_is = turn-is B j r.0 r.1 in
        let lt = slice_get_within B.named.agenda j r.0 r.1 in
        let parent : IsParent B.problem (turn_at B j) (turn_at B k) = subst (λ y. IsParent B.problem y (turn_at B k)) (sym up_is) r.2 in
        turn-done B basis s.done j h.done lt (parent-done B.problem B.tableau (turns_at B s.done) (turn_at B k) (turn-of B basis k (within-first k ks e).0) (leads-parent B.problem B.limit B.tableau B.named.names here h.leading.run.good.0 (turn_at B k) (turns_at B ks) s.ahead.ends (leads-ahead k ks e)) (turn_at B j) parent)
    awaits-none none k ks e j (inr w) = absurd (none_waits w.0 w.1 w.2)
      where
        within : k < length B.named.agenda
        within = (within-first k ks e).0

        up : (p : Option ℕ) × (slice_get B.named.parents k ≡ Some p)
        up = get-there B.named.parents k (let n = basis.parents.count in omega (arith, n, within))

        none_waits : (ws : List ℕ) → slice_get B.named.waits k ≡ Some ws → Contains ws j → ⊥
        none_waits ws at m =
            let r = (basis.waits.each k (turn_at B k) up.0 ws (turn-in B k within) up.1 at j).0 m in
            none-awaited B.problem B.limit B.tableau B.named.names basis.shut none (turn_at B k) r.0 (turn-of B basis k within) r.1
            (own-mentioned B.problem B.named.agenda up.0 (turn_at B k) r.1 (among-contains (names_mentioned B.problem (own_part B.named.agenda up.0 (turn_at B k))) r.1 r.3))
            (among-contains (names_introduced B.problem r.0) r.1 r.4)

    fork-other : (first k : ℕ) (ks : List ℕ) (n : ℕ) (i : Item) (own : List Value) (m : ModalArg) (p q : Item) → s.ahead.turns ≡ first ∷ ks → ComesFor B s.done first k → (first ≡ k → ⊥) → slice_get s.items n ≡ Some i → is_number (suc n) ≡ true → Works B k i own → made_of B i own ≡ splits m p q → Kept (record s { steps = s.steps ++ apply_to (suc n) m no_term ∷ []; items = s.items ++ p ∷ []; done = s.done ++ k ∷ []; waiting = record { nodes = length s.items; done = length s.done + 1; node = q; ahead = s.ahead } ∷ s.waiting })
    fork-other first k ks n i own m p q e comes other at number works two =
        let both = made-led B basis coming s h o k n i own (splits m p q) comes.next at number works two in
        forked B basis coming s h o k (s.steps ++ apply_to (suc n) m no_term ∷ []) p q s.ahead s.ahead comes.next both h.ahead h.ahead (omega arith) (omega arith)
        (λ none. elim comes.why [ inl same ↦ absurd (other same) | inr w ↦ absurd (w.2 (awaits-none none first ks e w.0 w.1)) ])

    -- ---- the turn ahead is done

    module _ (k : ℕ) (ks : List ℕ) (i : Item) (own : List Value) (d : IsDoneAhead B s k ks i own) where
      item-there : Among s.items i
      item-there = among-at s.items d.place i d.at

      turn-there : Among (turns_at B s.done) (turn_at B k)
      turn-there = done-turn B basis s.done k d.done

      goes-on : (a : Ahead) → Leads B.problem B.limit B.tableau B.named.names here (turns_at B a.turns) a.ends → IsAhead B a → ends_cost a.ends ≤ ends_cost s.ahead.ends → length a.turns + ends_weight B.problem a.ends < length s.ahead.turns + ends_weight B.problem s.ahead.ends → Kept (record s { ahead = a })
      goes-on a l first cheap light = ahead-changes B basis coming s h o a (leading-one B.problem B.limit B.tableau B.named.names s.steps here (turns_at B s.ahead.turns) (turns_at B a.turns) s.ahead.ends a.ends (waiting_ways B s.items s.done s.waiting) h.leading l) first cheap light

      passed : has_one_part (shape_of i.sign i.formula) ≡ true → Kept (record s { ahead = record { turns = ks; ends = s.ahead.ends; instance = s.ahead.instance } })
      passed one =
          let all = ap length d.first in
          let light = h.ahead.light in
          goes-on (record { turns = ks; ends = s.ahead.ends; instance = s.ahead.instance })
          (leads-part B.problem B.limit B.tableau B.named.names here h.leading.run.good.0 (turn_at B k) (turns_at B ks) s.ahead.ends (leads-ahead k ks d.first) h.leading.kept.0.left turn-there i item-there own d.works one)
          (record { within = (within-first k ks d.first).1; rest = h.ahead.rest; row = h.ahead.row; behind = h.ahead.behind; sized = h.ahead.sized; light = omega (arith, all, light) }) (omega arith) (omega (arith, all))

      module _ (a b : Signed) (shape : shape_of i.sign i.formula ≡ Beta) (parts : components i.sign i.formula ≡ a ∷ b ∷ []) where
        abbrev p : Item
        p = left_of B i own a b shape parts

        abbrev q : Item
        q = right_of B i own a b shape parts

        abbrev at : ℕ
        at = i.spot.position + suc (size a.formula)

        two : made_of B i own ≡ splits (past_of B i own a b shape parts).arg p q
        two = beta-made B i own a b shape parts

        at_is : q.spot.position ≡ at
        at_is = right-position B i own a b shape parts

        part_first : Among s.items p → Leads B.problem B.limit B.tableau B.named.names here (turns_at B (first_turns B at ks)) (take (first_count B at ks) s.ahead.ends)
        part_first stands = subst (λ n. Leads B.problem B.limit B.tableau B.named.names here (turns_at B (first_turns B n ks)) (take (first_count B n ks) s.ahead.ends)) at_is (led-first B here h.leading.run.good.0 (turn_at B k) ks s.ahead.ends (leads-ahead k ks d.first) h.leading.kept.0.left turn-there i item-there own d.works (past_of B i own a b shape parts).arg p q two stands)

        part_second : Among s.items q → Leads B.problem B.limit B.tableau B.named.names here (turns_at B (drop (turns_before at (turns_at B ks)) ks)) (drop (first_count B at ks) s.ahead.ends)
        part_second stands = subst (λ n. Leads B.problem B.limit B.tableau B.named.names here (turns_at B (drop (turns_before n (turns_at B ks)) ks)) (drop (first_count B n ks) s.ahead.ends)) at_is (led-second B here h.leading.run.good.0 (turn_at B k) ks s.ahead.ends (leads-ahead k ks d.first) h.leading.kept.0.left turn-there i item-there own d.works (past_of B i own a b shape parts).arg p q two stands)

        parts_facts : Parts B.problem B.limit B.tableau B.named.names here h.leading.run.good.0 (turn_at B k) (turns_at B ks) s.ahead.ends (leads-ahead k ks d.first) h.leading.kept.0.left turn-there i item-there own d.works p q
        parts_facts = leads-parts B.problem B.limit B.tableau B.named.names here h.leading.run.good.0 (turn_at B k) (turns_at B ks) s.ahead.ends (leads-ahead k ks d.first) h.leading.kept.0.left turn-there i item-there own d.works (past_of B i own a b shape parts).arg p q two

        sides : (parts_facts.first ≡ turns_at B (first_turns B at ks)) × (parts_facts.second ≡ turns_at B (drop (turns_before at (turns_at B ks)) ks))
        sides = subst (λ n. (parts_facts.first ≡ turns_at B (first_turns B n ks)) × (parts_facts.second ≡ turns_at B (drop (turns_before n (turns_at B ks)) ks))) at_is (parts-by_position B q.spot.position ks parts_facts.first parts_facts.second parts_facts.turns parts_facts.placed)

        -- where the first turn of a part works on an item, the part's component stands there
        first_stands : (js : List ℕ) → first_turns B at ks ≡ js → Begins B s.items js → Among s.items p
        first_stands [] e r = elim r [ ]
        first_stands (j ∷ js) e r =
            let starts : parts_facts.first ≡ turn_at B j ∷ turns_at B js = sides.0 ∙ ap (turns_at B) e in
            subst (Among s.items) (first-is B.problem B.limit B.tableau B.named.names here h.leading.run.good.0 (turn_at B k) (turns_at B ks) s.ahead.ends (leads-ahead k ks d.first) i item-there own d.works (past_of B i own a b shape parts).arg p q two parts_facts.first parts_facts.second parts_facts.turns parts_facts.placed (turn_at B j) (turns_at B js) starts r.1 r.2 (among-at s.items r.0 r.1 r.3) r.4) (among-at s.items r.0 r.1 r.3)

        second_stands : (js : List ℕ) → drop (turns_before at (turns_at B ks)) ks ≡ js → Begins B s.items js → Among s.items q
        second_stands [] e r = elim r [ ]
        second_stands (j ∷ js) e r =
            let starts : parts_facts.second ≡ turn_at B j ∷ turns_at B js = sides.1 ∙ ap (turns_at B) e in
            subst (Among s.items) (second-is B.problem B.limit B.tableau B.named.names here h.leading.run.good.0 (turn_at B k) (turns_at B ks) s.ahead.ends (leads-ahead k ks d.first) i item-there own d.works (past_of B i own a b shape parts).arg p q two parts_facts.first parts_facts.second parts_facts.turns parts_facts.placed (turn_at B j) (turns_at B js) starts r.1 r.2 (among-at s.items r.0 r.1 r.3) r.4) (among-at s.items r.0 r.1 r.3)

        -- and where it works on none, the component does not
        first_misses : (js : List ℕ) → first_turns B at ks ≡ js → BeginsNot B s.items js → Among s.items p → ⊥
        first_misses [] e none stands =
            let l = subst (λ ts. Leads B.problem B.limit B.tableau B.named.names here ts (take (first_count B at ks) s.ahead.ends)) (ap (turns_at B) e) (part_first stands) in
            let some = leads-turns B.problem B.limit B.tableau B.named.names here [] (take (first_count B at ks) s.ahead.ends) l in
            absurd (omega (arith, some))
        first_misses (j ∷ js) e none stands =
            let l = subst (λ ts. Leads B.problem B.limit B.tableau B.named.names here ts (take (first_count B at ks) s.ahead.ends)) (ap (turns_at B) e) (part_first stands) in
            let r = leads-item B.problem B.limit B.tableau B.named.names here h.leading.run.good.0 (turn_at B j) (turns_at B js) (take (first_count B at ks) s.ahead.ends) l in
            none r.0 r.1 r.3 r.2 r.4

        first_chosen : Begins B s.items (first_turns B at ks) → Kept (record s { ahead = first_part B at ks s.ahead })
        first_chosen r =
            let costs = cost-split (first_count B at ks) s.ahead.ends in
            goes-on (first_part B at ks s.ahead) (part_first (first_stands (first_turns B at ks) refl r)) (ahead-first k ks d.first at) (omega (arith, costs)) (weigh-first k ks d.first at)

        second_chosen : Begins B s.items (drop (turns_before at (turns_at B ks)) ks) ⊎ BeginsNot B s.items (first_turns B at ks) → Kept (record s { ahead = second_part B at ks s.ahead })
        second_chosen r =
            let costs = cost-split (first_count B at ks) s.ahead.ends in
            let stands : Among s.items q = elim r [
              | inl u ↦ second_stands (drop (turns_before at (turns_at B ks)) ks) refl u
              | inr none ↦ elim parts_facts.one_stands [ inl m ↦ absurd (first_misses (first_turns B at ks) refl none m) | inr m ↦ m ]
            ] in
            goes-on (second_part B at ks s.ahead) (part_second stands) (ahead-second k ks d.first at) (omega (arith, costs)) (weigh-second k ks d.first at)

      -- a literal that an extension closes
      extended : (j : ClauseInstance) (place : ℕ) (below : Closings) (es : List End) (turns : List ℕ) → shape_of i.sign i.formula ≡ Literal → s.ahead.ends ≡ by_closing (extend j place below) ∷ es → slice_get B.named.order s.ahead.instance ≡ Some turns → Kept (record s { ahead = record { turns = turns; ends = ends_at place below; instance = s.ahead.instance + 1 } })
      extended j place below es turns shape ends ordered =
          let l = leads-ahead k ks d.first in
          let at = leads-literal B.problem B.limit B.tableau B.named.names here h.leading.run.good.0 (turn_at B k) (turns_at B ks) s.ahead.ends l h.leading.kept.0.left turn-there i item-there own d.works shape in
          let end_is : at.end ≡ by_closing (extend j place below) = first_end (sym at.ends ∙ ends) in
          let alone : s.ahead.ends ≡ by_closing (extend j place below) ∷ [] = at.ends ∙ ap (λ e. e ∷ []) end_is in
          let next = literal-extends B.problem B.limit B.tableau B.named.names basis.shut basis.numbering basis.few here h.leading.run.good.0 (turn_at B k) (turns_at B ks) s.ahead.ends l h.leading.kept.0.left turn-there i item-there own d.works at j place below end_is in
          let row : drop s.ahead.instance (instances B.tableau) ≡ j ∷ (instances_of_all below ++ h.ahead.rest) = h.ahead.row ∙ ap (λ es. ends_instances es ++ h.ahead.rest) alone ∙ ap (λ is. (j ∷ is) ++ h.ahead.rest) (append-nil (instances_of_all below)) in
          let same = order-is s.ahead.instance j (instances_of_all below ++ h.ahead.rest) turns row ordered in
          let weight = extension-weight B.problem j place below in
          let cost = extension-cost j place below in
          let all = ap length d.first in
          let weights = ap (ends_weight B.problem) alone in
          let costs = ap ends_cost alone in
          let light = h.ahead.light in
          let long : length turns ≡ length (turns_of_instance B.problem j) = sym (length-map turns (turn_at B)) ∙ ap length same.0 in
          goes-on (record { turns = turns; ends = ends_at place below; instance = s.ahead.instance + 1 })
          (subst (λ ts. Leads B.problem B.limit B.tableau B.named.names here ts (ends_at place below)) (sym same.0) next)
          (record {
            within = same.1;
            rest = h.ahead.rest;
            row = sym (drop-drop 1 s.ahead.instance (instances B.tableau)) ∙ ap (drop 1) row ∙ ap (λ is. is ++ h.ahead.rest) (sym (instances-extension place below));
            behind = h.ahead.behind;
            sized = sizes-extended B.sizes s.ahead.instance s.ahead.ends h.ahead.behind j place below h.ahead.sized alone;
            light = omega (arith, weight, all, weights, light, long);
          })
          (omega (arith, cost, costs))
          (omega (arith, weight, all, weights, long))
        where
          first_end : {x y : End} {xs ys : List End} → x ∷ xs ≡ y ∷ ys → x ≡ y
          first_end q = cc

  pub moves-kept : (s r : State) → IsOpenRun B s → s.is_open ≡ true → Moves B s r → IsRun B r × (room_of B r < room_of B s)
  moves-kept s r h o (closes given shown pair) = closed-kept B basis coming s h o given shown pair
  moves-kept s r h o (skips first k ks e comes none) = skipped B basis coming s h o k comes.next none
  moves-kept s r h o (stays first k ks n i own e comes at number works same) = unchanged B basis coming s h o k comes.next (made-led B basis coming s h o k n i own rests comes.next at number works same)
  moves-kept s r h o (adds first k ks n i own m u added e comes at number works same) = grown B basis coming s h o k (s.steps ++ apply_to (suc n) m u ∷ []) added comes.next (made-led B basis coming s h o k n i own (grows m u added) comes.next at number works same) (count-step s.steps (suc n) m u)
  moves-kept s r h o (forks_ahead k ks n i own m p q e next at number works two) = fork-ahead s h o k ks n i own m p q e next at number works two
  moves-kept s r h o (forks_other first k ks n i own m p q e comes other at number works two) = fork-other s h o first k ks n i own m p q e comes other at number works two
  moves-kept s r h o (passes k ks i own d one) = passed s h o k ks i own d one
  moves-kept s r h o (to_first k ks i own a b d shape parts begin) = first_chosen s h o k ks i own d a b shape parts begin
  moves-kept s r h o (to_second k ks i own a b d shape parts begin) = second_chosen s h o k ks i own d a b shape parts begin
  moves-kept s r h o (extends k ks i own j place below es turns d shape ends ordered) = extended s h o k ks i own d j place below es turns shape ends ordered
