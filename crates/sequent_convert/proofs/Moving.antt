-- What the loop does keeps its invariant, and leaves less to do.
use Rattle.conversion_theory.specs.Branches.{entries_of}
use Rattle.calculus.specs.Calculus.{closed, apply}
use Rattle.std.proofs.lemmas.List.{length-map, length-take-le}
use Rattle.std.proofs.Common.{◌≡◌, ℕ, suc, ◌+◌, ◌≤◌, ◌<◌, List, [], ◌∷◌, ◌++◌, length, length-append, take, append-nil, true, false, Some, Ok, Contains, refl, sym, ◌∙◌, ap, subst, slice_get, arith}
use Rattle.std.specs.List.{AllByRecursion}
use Rattle.std.proofs.lemmas.Bool.{false≢true}
use Rattle.plain_laws.proofs.Every.{each-push}
use Rattle.calculus.specs.Ground.{Value}
use Rattle.calculus.specs.Derivations.{Step, close, axiom_count}
use Rattle.calculus.specs.Text.{is_number}
use Rattle.conversion_theory.specs.Turns.{closings_count, has_introduced_names}
use Rattle.conversion_theory.specs.Numbering.{number_of}
use Rattle.conversion_theory.specs.Branches.{Item, Made}
use Rattle.conversion_theory.specs.Leading.{ends_cost, ends_weight, undone}
use Rattle.calculus.proofs.Members.{at-among}
use Rattle.conversion_theory.proofs.BranchLaws.{IsComplete}
use Rattle.conversion_theory.proofs.RunLaws.{branch, WorksOn}
use Rattle.conversion_theory.proofs.TaskLaws.{count-axiom}
use Rattle.conversion_theory.proofs.LedLaws.{CanCome}
use Rattle.conversion_theory.proofs.LeadingLaws.{Way, way, IsLeading, WayGoes, ways_cost, room-large, leading-closed, leading-made, leading-skipped}
use Rattle.conversion_theory.proofs.LoopMeasures.{leads-cost}
use Rattle.conversion_theory.proofs.AheadLaws.{made-lowers}
use Rattle.sequent_convert.specs.AheadView.{Ahead}
use Rattle.sequent_convert.specs.State.{Basis, IsBasis, Waiting, State, turn_at, turns_at, way_of, waiting_ways, open_ways, Nest, IsAhead, IsOpenRun, IsRun, whole_weight, way_room, ways_room, room_of, WorksOnNone, made_of, ComesNext, resumed, with_step, IsAxiom}
use Rattle.sequent_convert.proofs.TurnPlaces.{turns-push, listed, turn-done, all-take}
use Rattle.sequent_convert.proofs.WaitingWays.{nest-more, waiting-grown, waiting-cut, begins}

-- a turn whose awaited turns are done can come
abbrev pub Coming : Basis → Type 0
Coming B = (done : List ℕ) (k : ℕ) → AllByRecursion (λ j. j < length B.named.agenda) done → IsComplete B.problem B.tableau (turns_at B done) → ComesNext B done k → CanCome B.problem B.tableau (turns_at B done) (turn_at B k)

module _ (B : Basis) (basis : IsBasis B) (coming : Coming B) where
  abbrev IsLed : List Step → List Way → Type 0
  IsLed steps ways = IsLeading B.problem B.limit B.tableau B.named.names steps ways

  can-come : (s : State) (h : IsOpenRun B s) (k : ℕ) → ComesNext B s.done k → CanCome B.problem B.tableau (turns_at B s.done) (turn_at B k)
  can-come s h k next = coming s.done k h.done h.leading.kept.0.complete next

  -- ---- room

  room-open : (s : State) → s.is_open ≡ true → room_of B s ≡ way_room B (way_of B s.items s.done s.ahead) + ways_room B (waiting_ways B s.items s.done s.waiting)
  room-open s e = ap (λ o. ways_room B (open_ways o B s.items s.done s.ahead s.waiting)) e

  -- one turn more is done on a branch: even twice what is left is less
  room-made : (done : List ℕ) (k : ℕ) (items more : List Item) (a : Ahead) → IsAhead B a → k < length B.named.agenda → (Contains done k → ⊥) → AllByRecursion (λ j. j < length B.named.agenda) done → way_room B (way_of B more (done ++ k ∷ []) a) + way_room B (way_of B more (done ++ k ∷ []) a) < way_room B (way_of B items done a)
  room-made done k items more a h lt new all =
      let count = length-map a.turns (turn_at B) in
      let low = made-lowers (whole_weight B) B.named.agenda (turns_at B done) (turn_at B k) (length (turns_at B a.turns) + ends_weight B.problem a.ends) (listed B basis k lt) (λ m. new (turn-done B basis done k all lt m)) (let light = h.light in omega arith) in
      let same : undone B.named.agenda (turns_at B (done ++ k ∷ [])) ≡ undone B.named.agenda (turns_at B done ++ turn_at B k ∷ []) = ap (undone B.named.agenda) (turns-push B done k) in
      rw same low

  -- ---- turns that leave one branch

  module _ (s : State) (h : IsOpenRun B s) (o : s.is_open ≡ true) where
    abbrev rest : List Way
    rest = waiting_ways B s.items s.done s.waiting

    -- the branch after a turn
    pub grown : (k : ℕ) (steps : List Step) (added : List Item) → ComesNext B s.done k → IsLed steps (way (branch (s.items ++ added) (turns_at B s.done ++ turn_at B k ∷ [])) (turns_at B s.ahead.turns) s.ahead.ends ∷ rest) → axiom_count steps ≡ axiom_count s.steps → IsRun B (record s { steps = steps; items = s.items ++ added; done = s.done ++ k ∷ [] }) × (room_of B (record s { steps = steps; items = s.items ++ added; done = s.done ++ k ∷ [] }) < room_of B s)
    grown k steps added next led count =
        let turns = turns-push B s.done k in
        let waits = waiting-grown B s.items added s.done (k ∷ []) s.waiting h.nest in
        let whole : IsLed steps (way_of B (s.items ++ added) (s.done ++ k ∷ []) s.ahead ∷ waiting_ways B (s.items ++ added) (s.done ++ k ∷ []) s.waiting) = subst (λ ts. IsLed steps (way (branch (s.items ++ added) ts) (turns_at B s.ahead.turns) s.ahead.ends ∷ waiting_ways B (s.items ++ added) (s.done ++ k ∷ []) s.waiting)) (sym turns) (subst (λ ws. IsLed steps (way (branch (s.items ++ added) (turns_at B s.done ++ turn_at B k ∷ [])) (turns_at B s.ahead.turns) s.ahead.ends ∷ ws)) (sym waits) led) in
        let longer = length-append s.items added in
        let later = length-append s.done (k ∷ []) in
        let more = room-made s.done k s.items (s.items ++ added) s.ahead h.ahead next.within next.new h.done in
        let now = room-open s o in
        let then = room-open (record s { steps = steps; items = s.items ++ added; done = s.done ++ k ∷ [] }) o in
        let same : ways_room B (waiting_ways B (s.items ++ added) (s.done ++ k ∷ []) s.waiting) ≡ ways_room B rest = ap (ways_room B) waits in
        let costs : ways_cost (waiting_ways B (s.items ++ added) (s.done ++ k ∷ []) s.waiting) ≡ ways_cost rest = ap ways_cost waits in (
          record {
            opened = λ _. record {
              leading = whole;
              done = each-push (λ j. j < length B.named.agenda) s.done k h.done next.within;
              nest = nest-more (length s.items) (length s.done) (length (s.items ++ added)) (length (s.done ++ k ∷ [])) s.waiting (omega (arith, longer)) (omega (arith, later)) h.nest;
              ahead = h.ahead;
              waiting = h.waiting;
              cost = λ none. let c = h.cost none in rw (count, costs) c;
            };
            shut = λ e. absurd (false≢true (sym e ∙ o));
          },
          omega (arith, more, now, then, same),
        )

    pub made-led : (k n : ℕ) (i : Item) (own : List Value) (m : Made) → ComesNext B s.done k → slice_get s.items n ≡ Some i → is_number (suc n) ≡ true → WorksOn B.problem B.tableau B.named.names (turn_at B k) i own → made_of B i own ≡ m → WayGoes B.problem B.limit B.tableau B.named.names s.steps (branch s.items (turns_at B s.done)) (turns_at B s.ahead.turns) s.ahead.ends rest (turn_at B k) n m
    made-led k n i own m next at number works e = subst (λ z. WayGoes B.problem B.limit B.tableau B.named.names s.steps (branch s.items (turns_at B s.done)) (turns_at B s.ahead.turns) s.ahead.ends rest (turn_at B k) n z) e (leading-made B.problem B.limit B.tableau B.named.names basis.shut basis.numbering basis.few s.steps (branch s.items (turns_at B s.done)) (turns_at B s.ahead.turns) s.ahead.ends rest h.leading (turn_at B k) (can-come s h k next) n i at number own works)

    -- nothing new stands there
    pub unchanged : (k : ℕ) → ComesNext B s.done k → IsLed s.steps (way (branch s.items (turns_at B s.done ++ turn_at B k ∷ [])) (turns_at B s.ahead.turns) s.ahead.ends ∷ rest) → IsRun B (record s { done = s.done ++ k ∷ [] }) × (room_of B (record s { done = s.done ++ k ∷ [] }) < room_of B s)
    unchanged k next led = subst (λ is. IsRun B (record s { steps = s.steps; items = is; done = s.done ++ k ∷ [] }) × (room_of B (record s { steps = s.steps; items = is; done = s.done ++ k ∷ [] }) < room_of B s)) (append-nil s.items) (grown k s.steps [] next (subst (λ is. IsLed s.steps (way (branch is (turns_at B s.done ++ turn_at B k ∷ [])) (turns_at B s.ahead.turns) s.ahead.ends ∷ rest)) (sym (append-nil s.items)) led) refl)

    pub skipped : (k : ℕ) → ComesNext B s.done k → WorksOnNone B k s.items → IsRun B (record s { done = s.done ++ k ∷ [] }) × (room_of B (record s { done = s.done ++ k ∷ [] }) < room_of B s)
    skipped k next none = unchanged k next (leading-skipped B.problem B.limit B.tableau B.named.names basis.shut basis.numbering basis.few s.steps (branch s.items (turns_at B s.done)) (turns_at B s.ahead.turns) s.ahead.ends rest h.leading (turn_at B k) (can-come s h k next) (λ i m own works. let at = at-among s.items i m in none at.0 i at.1 own works))

    -- ---- turns that fork the branch

    abbrev second_way : Item → Ahead → Waiting
    second_way q a = record { nodes = length s.items; done = length s.done + 1; node = q; ahead = a }

    abbrev forked_state : ℕ → List Step → Item → Item → Ahead → Ahead → State
    forked_state k steps p q a c = record s { steps = steps; items = s.items ++ p ∷ []; done = s.done ++ k ∷ []; ahead = a; waiting = second_way q c ∷ s.waiting }

    pub forked : (k : ℕ) (steps : List Step) (p q : Item) (a c : Ahead) → ComesNext B s.done k → IsLed steps (way (branch (s.items ++ p ∷ []) (turns_at B s.done ++ turn_at B k ∷ [])) (turns_at B a.turns) a.ends ∷ way (branch (s.items ++ q ∷ []) (turns_at B s.done ++ turn_at B k ∷ [])) (turns_at B c.turns) c.ends ∷ rest) → IsAhead B a → IsAhead B c → length a.turns + ends_weight B.problem a.ends ≤ length s.ahead.turns + ends_weight B.problem s.ahead.ends → length c.turns + ends_weight B.problem c.ends ≤ length s.ahead.turns + ends_weight B.problem s.ahead.ends → (has_introduced_names B.tableau ≡ false → axiom_count steps + (ends_cost a.ends + (ends_cost c.ends + ways_cost rest)) ≤ closings_count B.tableau.goals) → IsRun B (forked_state k steps p q a c) × (room_of B (forked_state k steps p q a c) < room_of B s)
    forked k steps p q a c next led first second light slight cheap =
        let turns = turns-push B s.done k in
        let waits = waiting-grown B s.items (p ∷ []) s.done (k ∷ []) s.waiting h.nest in
        let other = begins B s.items p q s.done [] k c in
        let ways : waiting_ways B (s.items ++ p ∷ []) (s.done ++ k ∷ []) (second_way q c ∷ s.waiting) ≡ way_of B (s.items ++ q ∷ []) (s.done ++ k ∷ []) c ∷ rest = λ i. other i ∷ waits i in
        let moved : IsLed steps (way_of B (s.items ++ p ∷ []) (s.done ++ k ∷ []) a ∷ way_of B (s.items ++ q ∷ []) (s.done ++ k ∷ []) c ∷ rest) = subst (λ ts. IsLed steps (way (branch (s.items ++ p ∷ []) ts) (turns_at B a.turns) a.ends ∷ way (branch (s.items ++ q ∷ []) ts) (turns_at B c.turns) c.ends ∷ rest)) (sym turns) led in
        let whole : IsLed steps (way_of B (s.items ++ p ∷ []) (s.done ++ k ∷ []) a ∷ waiting_ways B (s.items ++ p ∷ []) (s.done ++ k ∷ []) (second_way q c ∷ s.waiting)) = subst (λ ws. IsLed steps (way_of B (s.items ++ p ∷ []) (s.done ++ k ∷ []) a ∷ ws)) (sym ways) moved in
        let longer = length-append s.items (p ∷ []) in
        let later = length-append s.done (k ∷ []) in
        let more = room-made s.done k s.items s.items s.ahead h.ahead next.within next.new h.done in
        let now = room-open s o in
        let then = room-open (forked_state k steps p q a c) o in
        let same : ways_room B (waiting_ways B (s.items ++ p ∷ []) (s.done ++ k ∷ []) (second_way q c ∷ s.waiting)) ≡ way_room B (way_of B (s.items ++ q ∷ []) (s.done ++ k ∷ []) c) + ways_room B rest = ap (ways_room B) ways in
        let costs : ways_cost (waiting_ways B (s.items ++ p ∷ []) (s.done ++ k ∷ []) (second_way q c ∷ s.waiting)) ≡ ends_cost c.ends + ways_cost rest = ap ways_cost ways in
        let na = length-map a.turns (turn_at B) in
        let nc = length-map c.turns (turn_at B) in
        let ns = length-map s.ahead.turns (turn_at B) in (
          record {
            opened = λ _. record {
              leading = whole;
              done = each-push (λ j. j < length B.named.agenda) s.done k h.done next.within;
              nest = (omega (arith, longer), omega (arith, later), nest-more (length s.items) (length s.done) (length s.items) (length s.done + 1) s.waiting (omega arith) (omega arith) h.nest);
              ahead = first;
              waiting = (second, h.waiting);
              cost = λ none. let u = cheap none in omega (arith, costs, u);
            };
            shut = λ e. absurd (false≢true (sym e ∙ o));
          },
          omega (arith, more, now, then, same, na, nc, ns, light, slight),
        )

    -- ---- what is ahead changes

    pub ahead-changes : (a : Ahead) → IsLed s.steps (way (branch s.items (turns_at B s.done)) (turns_at B a.turns) a.ends ∷ rest) → IsAhead B a → ends_cost a.ends ≤ ends_cost s.ahead.ends → length a.turns + ends_weight B.problem a.ends < length s.ahead.turns + ends_weight B.problem s.ahead.ends → IsRun B (record s { ahead = a }) × (room_of B (record s { ahead = a }) < room_of B s)
    ahead-changes a led first cheap light =
        let now = room-open s o in
        let then = room-open (record s { ahead = a }) o in
        let na = length-map a.turns (turn_at B) in
        let ns = length-map s.ahead.turns (turn_at B) in (
          record {
            opened = λ _. record { leading = led; done = h.done; nest = h.nest; ahead = first; waiting = h.waiting; cost = λ none. let u = h.cost none in omega (arith, cheap, u) };
            shut = λ e. absurd (false≢true (sym e ∙ o));
          },
          omega (arith, now, then, na, ns, light),
        )

  -- ---- a branch is closed

  closed-next : (s : State) (steps : List Step) (ws : List Waiting) → s.waiting ≡ ws → (h : IsOpenRun B s) → s.is_open ≡ true → IsLed steps (waiting_ways B s.items s.done ws) → (has_introduced_names B.tableau ≡ false → axiom_count steps + ways_cost (waiting_ways B s.items s.done ws) ≤ closings_count B.tableau.goals) → IsRun B (resumed (record s { steps = steps }) ws) × (room_of B (resumed (record s { steps = steps }) ws) < room_of B s)
  closed-next s steps [] e h o led cheap =
      let now = room-open s o in
      let large = room-large (whole_weight B) (undone B.named.agenda (turns_at B s.done)) in (
        record { opened = λ q. absurd (false≢true q); shut = λ q. record { leading = led; cost = λ none. let u = cheap none in omega (arith, u) } },
        omega (arith, now, large),
      )
  closed-next s steps (w ∷ ws) e h o led cheap =
      let nest = subst (Nest (length s.items) (length s.done)) e h.nest in
      let waiting = subst (AllByRecursion (λ (v : Waiting). IsAhead B v.ahead)) e h.waiting in
      let rest = waiting-cut B s.items s.done w ws nest.0 nest.1 nest.2 in
      let now = room-open s o in
      let r = resumed (record s { steps = steps }) (w ∷ ws) in
      let then = room-open r o in
      let large = room-large (whole_weight B) (undone B.named.agenda (turns_at B s.done)) in
      let whole : IsLed steps (way_of B r.items r.done r.ahead ∷ waiting_ways B r.items r.done r.waiting) = subst (λ vs. IsLed steps (way_of B r.items r.done r.ahead ∷ vs)) (sym rest) led in
      let same : ways_room B (waiting_ways B r.items r.done r.waiting) ≡ ways_room B (waiting_ways B s.items s.done ws) = ap (ways_room B) rest in
      let costs : ways_cost (waiting_ways B r.items r.done r.waiting) ≡ ways_cost (waiting_ways B s.items s.done ws) = ap ways_cost rest in
      let here = ap (λ vs. ways_room B (waiting_ways B s.items s.done vs)) e in
      let long = length-take-le w.nodes s.items nest.0 in
      let cut = length-append (take w.nodes s.items) (w.node ∷ []) in
      let turns = length-take-le w.done s.done nest.1 in (
        record {
          opened = λ _. record {
            leading = whole;
            done = all-take (λ j. j < length B.named.agenda) w.done s.done h.done;
            nest = nest-more w.nodes w.done (length r.items) (length r.done) ws (omega (arith, long, cut)) (omega (arith, turns)) nest.2;
            ahead = waiting.0;
            waiting = waiting.1;
            cost = λ none. let u = cheap none in omega (arith, u, costs);
          };
          shut = λ q. absurd (false≢true (sym q ∙ o));
        },
        omega (arith, now, then, large, same, here),
      )

  pub closed-kept : (s : State) (h : IsOpenRun B s) → s.is_open ≡ true → (given shown : ℕ) → IsAxiom B s.items given shown → IsRun B (resumed (with_step s (close given shown)) s.waiting) × (room_of B (resumed (with_step s (close given shown)) s.waiting) < room_of B s)
  closed-kept s h o given shown pair =
      let first = h.leading.kept.0 in
      let some = leads-cost B.problem B.limit B.tableau B.named.names (branch s.items (turns_at B s.done)) (turns_at B s.ahead.turns) s.ahead.ends first.leads in
      let count = count-axiom s.steps given shown in
      let applies = subst (λ lines. apply B.problem lines (entries_of (number_of B.named.names) s.items) (close given shown) ≡ Ok closed) basis.lines pair.applies in
      closed-next s (s.steps ++ close given shown ∷ []) s.waiting refl h o
      (leading-closed B.problem B.limit B.tableau B.named.names s.steps (branch s.items (turns_at B s.done)) (turns_at B s.ahead.turns) s.ahead.ends (waiting_ways B s.items s.done s.waiting) h.leading given shown applies pair.given_fits pair.shown_fits)
      (λ none. let u = h.cost none in omega (arith, u, some, count))
