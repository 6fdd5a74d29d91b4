-- The state of a conversion, and what the loop does to it.
use Rattle.std.specs.Prelude.{◌≡◌, ◌⊎◌, ℕ, suc, ◌+◌, ◌<◌, ◌≤◌, List, [], ◌∷◌, ◌++◌, map, length, take, drop, Bool, true, false, Option, Some, None, IsTrue, Ok, Contains, All, slice_get, slice_index_or}
use Rattle.std.specs.List.{AllByRecursion}
use Rattle.calculus.specs.declared.kind.Shape.TheVariants.{Beta, Literal}
use Rattle.calculus.specs.Syntax.{Problem}
use Rattle.calculus.specs.Ground.{Value}
use Rattle.calculus.specs.Kinds.{Signed, shape_of, components}
use Rattle.calculus.specs.Positions.{size}
use Rattle.calculus.specs.Instances.{Turn, ClauseInstance}
use Rattle.calculus.specs.Problems.{formula_fits}
use Rattle.calculus.specs.Derivations.{Step, apply_to, close, no_term, ModalArg, TermArg, Names, axiom_count}
use Rattle.calculus.specs.Calculus.{closed, apply}
use Rattle.calculus.specs.Text.{is_number}
use Rattle.calculus.specs.Tableaux.{Closings, Tableau, extend, instances, is_closed}
use Rattle.conversion_theory.specs.Turns.{Name, IsAgenda, turns_of_instance, closings_count, has_introduced_names}
use Rattle.conversion_theory.specs.Numbering.{IsNumbering, number_of, name_lines_of}
use Rattle.conversion_theory.specs.Branches.{Item, entries_of, Made, rests, grows, splits, made}
use Rattle.conversion_theory.specs.Leading.{End, meets_path, by_closing, closes_at_once, ends_at, ends_of, ends_cost, ends_weight, undone, literals_among, turns_before, is_literal_position}
use Rattle.conversion_theory.proofs.RunLaws.{Branch, branch, WorksOn}
use Rattle.conversion_theory.proofs.FollowLaws.{has_one_part}
use Rattle.conversion_theory.proofs.LeadingLaws.{Way, way, IsLeading, ways_cost, way_weight, room_for}
use Rattle.name_order.specs.NamedView.{NamedValue}
use Rattle.name_order.specs.Prerequisites.{IsOrder, ParentsTell, WaitsTell}
use Rattle.sequent_convert.specs.AheadView.{Ahead, ends_instances, ends_sizes, instance_count, sizes_of_all}

-- what a conversion goes by
pub record Basis : Type 0 where
  pub problem : Problem
  pub tableau : Tableau
  pub limit : ℕ
  pub named : NamedValue
  pub lines : Names
  pub atoms : List Bool
  pub sizes : List ℕ

pub record IsBasis (B : Basis) : Type 0 where
  pub shut : IsTrue (is_closed B.problem B.limit B.tableau)
  pub fits : IsTrue (formula_fits B.problem.setting.logic B.problem.symbols 0 B.problem.formula)
  pub numbering : IsNumbering B.problem B.tableau B.named.names
  pub few : IsTrue (is_number (length B.named.names))
  pub agenda : IsAgenda B.problem B.tableau B.named.agenda
  pub order : IsOrder B.problem B.tableau B.named.agenda B.named.order
  pub parents : ParentsTell B.problem B.named.agenda B.named.parents
  pub waits : WaitsTell B.problem B.named.agenda B.named.parents B.named.waits
  pub lines : B.lines ≡ name_lines_of (number_of B.named.names) B.problem B.named.names
  pub atoms : (x : Turn) → Contains B.named.agenda x → slice_get B.atoms x.position ≡ Some (is_literal_position B.problem x.position)
  pub sizes : B.sizes ≡ 0 ∷ sizes_of_all B.tableau.goals

-- the second branch of a fork: it has the first nodes and turns of the branch at hand, its own node, and what is ahead
pub record Waiting : Type 0 where
  pub nodes : ℕ
  pub done : ℕ
  pub node : Item
  pub ahead : Ahead

-- the steps so far, the branch at hand if one is open, and those that wait, the next one first
pub record State : Type 0 where
  pub is_open : Bool
  pub steps : List Step
  pub items : List Item
  pub done : List ℕ
  pub ahead : Ahead
  pub waiting : List Waiting

-- ---- the turns by their places

abbrev pub no_turn : Turn
no_turn = record { position = 0; values = [] }

abbrev pub turn_at : Basis → ℕ → Turn
turn_at B k = slice_index_or B.named.agenda k no_turn

abbrev pub turns_at : Basis → List ℕ → List Turn
turns_at B ks = map (turn_at B) ks

-- ---- the ways of the open branches

abbrev pub way_of : Basis → List Item → List ℕ → Ahead → Way
way_of B items done a = way (branch items (turns_at B done)) (turns_at B a.turns) a.ends

abbrev pub waiting_ways : Basis → List Item → List ℕ → List Waiting → List Way
waiting_ways B items done [] = []
waiting_ways B items done (w ∷ ws) = way_of B (take w.nodes items ++ w.node ∷ []) (take w.done done) w.ahead ∷ waiting_ways B items done ws

abbrev pub open_ways : Bool → Basis → List Item → List ℕ → Ahead → List Waiting → List Way
open_ways false B items done a ws = []
open_ways true B items done a ws = way_of B items done a ∷ waiting_ways B items done ws

-- branches that wait begin within the branch at hand, each within the one above
abbrev pub Nest : ℕ → ℕ → List Waiting → Type 0
Nest m n [] = Unit {0}
Nest m n (w ∷ ws) = (w.nodes ≤ m) × (w.done ≤ n) × Nest w.nodes w.done ws

-- ---- the invariant

-- the turns are places of the agenda, and the instances of the ends stand in a row from the noted place on, as their sizes do
pub record IsAhead (B : Basis) (a : Ahead) : Type 0 where
  pub within : AllByRecursion (λ k. k < length B.named.agenda) a.turns
  pub rest : List ClauseInstance
  pub row : drop a.instance (instances B.tableau) ≡ ends_instances a.ends ++ rest
  pub behind : List ℕ
  pub sized : drop a.instance B.sizes ≡ ends_sizes a.ends ++ behind
  pub light : length a.turns + ends_weight B.problem a.ends ≤ length (turns_of_instance B.problem B.tableau.start) + ends_weight B.problem (ends_of B.tableau.goals)

pub record IsOpenRun (B : Basis) (s : State) : Type 0 where
  pub leading : IsLeading B.problem B.limit B.tableau B.named.names s.steps (way_of B s.items s.done s.ahead ∷ waiting_ways B s.items s.done s.waiting)
  pub done : AllByRecursion (λ k. k < length B.named.agenda) s.done
  pub nest : Nest (length s.items) (length s.done) s.waiting
  pub ahead : IsAhead B s.ahead
  pub waiting : AllByRecursion (λ (w : Waiting). IsAhead B w.ahead) s.waiting
  pub cost : has_introduced_names B.tableau ≡ false → axiom_count s.steps + (ends_cost s.ahead.ends + ways_cost (waiting_ways B s.items s.done s.waiting)) ≤ closings_count B.tableau.goals

-- the steps close all branches
pub record AreAllSteps (B : Basis) (steps : List Step) : Type 0 where
  pub leading : IsLeading B.problem B.limit B.tableau B.named.names steps []
  pub cost : has_introduced_names B.tableau ≡ false → axiom_count steps ≤ closings_count B.tableau.goals

pub record IsRun (B : Basis) (s : State) : Type 0 where
  pub opened : s.is_open ≡ true → IsOpenRun B s
  pub shut : s.is_open ≡ false → AreAllSteps B s.steps

-- ---- the measure

abbrev pub whole_weight : Basis → ℕ
whole_weight B = length (turns_of_instance B.problem B.tableau.start) + ends_weight B.problem (ends_of B.tableau.goals)

-- what may still be done on a branch, and on all of them
abbrev pub way_room : Basis → Way → ℕ
way_room B o = room_for (whole_weight B) (undone B.named.agenda o.branch.done) + way_weight B.problem o

abbrev pub ways_room : Basis → List Way → ℕ
ways_room B [] = 0
ways_room B (o ∷ os) = way_room B o + ways_room B os

abbrev pub room_of : Basis → State → ℕ
room_of B s = ways_room B (open_ways s.is_open B s.items s.done s.ahead s.waiting)

-- ---- what the loop does

-- the turn works on the item, with the values behind those that were taken
abbrev pub Works : Basis → ℕ → Item → List Value → Type 0
Works B k i own = WorksOn B.problem B.tableau B.named.names (turn_at B k) i own

abbrev pub WorksOnNone : Basis → ℕ → List Item → Type 0
WorksOnNone B k items = (n : ℕ) (i : Item) → slice_get items n ≡ Some i → (own : List Value) → Works B k i own → ⊥

abbrev pub made_of : Basis → Item → List Value → Made
made_of B i own = made (number_of B.named.names) B.problem.setting.logic i.spot i.sign i.formula own

-- the turn is the first one ahead
abbrev pub IsFirst : State → ℕ → Type 0
IsFirst s first = (ks : List ℕ) × (s.ahead.turns ≡ first ∷ ks)

-- the turn j is awaited by k: its parent, or one that introduces what it mentions
abbrev pub IsAwaitedBy : Basis → ℕ → ℕ → Type 0
IsAwaitedBy B k j = (slice_get B.named.parents k ≡ Some (Some j)) ⊎ ((w : List ℕ) × (slice_get B.named.waits k ≡ Some w) × Contains w j)

pub record ComesNext (B : Basis) (done : List ℕ) (k : ℕ) : Type 0 where
  pub within : k < length B.named.agenda
  pub new : Contains done k → ⊥
  pub awaited : (j : ℕ) → IsAwaitedBy B k j → Contains done j

-- the turn k comes for the first turn ahead: it is that, or that waits for some turn
pub record ComesFor (B : Basis) (done : List ℕ) (first k : ℕ) : Type 0 where
  pub next : ComesNext B done k
  pub why : (first ≡ k) ⊎ ((j : ℕ) × IsAwaitedBy B first j × (Contains done j → ⊥))

-- the parts of what is ahead behind its first turn, where the second part begins at the position
abbrev pub first_turns : Basis → ℕ → List ℕ → List ℕ
first_turns B p ks = take (turns_before p (turns_at B ks)) ks

abbrev pub first_count : Basis → ℕ → List ℕ → ℕ
first_count B p ks = literals_among B.problem (turns_at B (first_turns B p ks))

abbrev pub first_part : Basis → ℕ → List ℕ → Ahead → Ahead
first_part B p ks a = record { turns = first_turns B p ks; ends = take (first_count B p ks) a.ends; instance = a.instance }

abbrev pub second_part : Basis → ℕ → List ℕ → Ahead → Ahead
second_part B p ks a = record { turns = drop (turns_before p (turns_at B ks)) ks; ends = drop (first_count B p ks) a.ends; instance = a.instance + instance_count (take (first_count B p ks) a.ends) }

-- the first turn ahead is done, and works on the item
pub record IsDoneAhead (B : Basis) (s : State) (k : ℕ) (ks : List ℕ) (i : Item) (own : List Value) : Type 0 where
  pub first : s.ahead.turns ≡ k ∷ ks
  pub done : Contains s.done k
  pub place : ℕ
  pub at : slice_get s.items place ≡ Some i
  pub works : Works B k i own

-- the first turn ahead is done, and works on an item that forks; the second part of what it left begins at the position
pub record IsForkAhead (B : Basis) (s : State) (second : ℕ) : Type 0 where
  pub turn : ℕ
  pub turns : List ℕ
  pub item : Item
  pub own : List Value
  pub left : Signed
  pub right : Signed
  pub made : IsDoneAhead B s turn turns item own
  pub shape : shape_of item.sign item.formula ≡ Beta
  pub parts : components item.sign item.formula ≡ left ∷ right ∷ []
  pub begins : second ≡ item.spot.position + suc (size left.formula)

-- the first turn ahead is done, and works on a literal
pub record IsLiteralAhead (B : Basis) (s : State) : Type 0 where
  pub turn : ℕ
  pub turns : List ℕ
  pub item : Item
  pub own : List Value
  pub made : IsDoneAhead B s turn turns item own
  pub shape : shape_of item.sign item.formula ≡ Literal

-- some item of the branch is one that the first turn of these works on, or none is
abbrev pub Begins : Basis → List Item → List ℕ → Type 0
Begins B items [] = ⊥
Begins B items (k ∷ ks) = (n : ℕ) × (i : Item) × (own : List Value) × (slice_get items n ≡ Some i) × Works B k i own

abbrev pub BeginsNot : Basis → List Item → List ℕ → Type 0
BeginsNot B items [] = Unit {0}
BeginsNot B items (k ∷ ks) = WorksOnNone B k items

-- the branch that waited last comes next
abbrev pub resumed : State → List Waiting → State
resumed s [] = record s { is_open = false }
resumed s (w ∷ ws) = record s { items = take w.nodes s.items ++ w.node ∷ []; done = take w.done s.done; ahead = w.ahead; waiting = ws }

abbrev pub with_step : State → Step → State
with_step s x = record s { steps = s.steps ++ x ∷ [] }

-- the pair of numbers is an axiom of the items
pub record IsAxiom (B : Basis) (items : List Item) (given shown : ℕ) : Type 0 where
  pub applies : apply B.problem B.lines (entries_of (number_of B.named.names) items) (close given shown) ≡ Ok closed
  pub given_fits : is_number given ≡ true
  pub shown_fits : is_number shown ≡ true

pub data Moves (B : Basis) (s : State) : State → Type 0 where
  closes : (given shown : ℕ) → IsAxiom B s.items given shown → Moves B s (resumed (with_step s (close given shown)) s.waiting)
  skips : (first k : ℕ) (ks : List ℕ) → s.ahead.turns ≡ first ∷ ks → ComesFor B s.done first k → WorksOnNone B k s.items → Moves B s (record s { done = s.done ++ k ∷ [] })
  stays : (first k : ℕ) (ks : List ℕ) (n : ℕ) (i : Item) (own : List Value) → s.ahead.turns ≡ first ∷ ks → ComesFor B s.done first k → slice_get s.items n ≡ Some i → is_number (suc n) ≡ true → Works B k i own → made_of B i own ≡ rests → Moves B s (record s { done = s.done ++ k ∷ [] })
  adds : (first k : ℕ) (ks : List ℕ) (n : ℕ) (i : Item) (own : List Value) (m : ModalArg) (u : TermArg) (added : List Item) → s.ahead.turns ≡ first ∷ ks → ComesFor B s.done first k → slice_get s.items n ≡ Some i → is_number (suc n) ≡ true → Works B k i own → made_of B i own ≡ grows m u added → Moves B s (record s { steps = s.steps ++ apply_to (suc n) m u ∷ []; items = s.items ++ added; done = s.done ++ k ∷ [] })
  -- the turn ahead forks the branch: each of the two goes to its part
  forks_ahead : (k : ℕ) (ks : List ℕ) (n : ℕ) (i : Item) (own : List Value) (m : ModalArg) (p q : Item) → s.ahead.turns ≡ k ∷ ks → ComesNext B s.done k → slice_get s.items n ≡ Some i → is_number (suc n) ≡ true → Works B k i own → made_of B i own ≡ splits m p q → Moves B s (record s { steps = s.steps ++ apply_to (suc n) m no_term ∷ []; items = s.items ++ p ∷ []; done = s.done ++ k ∷ []; ahead = first_part B q.spot.position ks s.ahead; waiting = record { nodes = length s.items; done = length s.done + 1; node = q; ahead = second_part B q.spot.position ks s.ahead } ∷ s.waiting })
  -- another turn forks it
  forks_other : (first k : ℕ) (ks : List ℕ) (n : ℕ) (i : Item) (own : List Value) (m : ModalArg) (p q : Item) → s.ahead.turns ≡ first ∷ ks → ComesFor B s.done first k → (first ≡ k → ⊥) → slice_get s.items n ≡ Some i → is_number (suc n) ≡ true → Works B k i own → made_of B i own ≡ splits m p q → Moves B s (record s { steps = s.steps ++ apply_to (suc n) m no_term ∷ []; items = s.items ++ p ∷ []; done = s.done ++ k ∷ []; waiting = record { nodes = length s.items; done = length s.done + 1; node = q; ahead = s.ahead } ∷ s.waiting })
  passes : (k : ℕ) (ks : List ℕ) (i : Item) (own : List Value) → IsDoneAhead B s k ks i own → has_one_part (shape_of i.sign i.formula) ≡ true → Moves B s (record s { ahead = record { turns = ks; ends = s.ahead.ends; instance = s.ahead.instance } })
  to_first : (k : ℕ) (ks : List ℕ) (i : Item) (own : List Value) (a b : Signed) → IsDoneAhead B s k ks i own → shape_of i.sign i.formula ≡ Beta → components i.sign i.formula ≡ a ∷ b ∷ [] → Begins B s.items (first_turns B (i.spot.position + suc (size a.formula)) ks) → Moves B s (record s { ahead = first_part B (i.spot.position + suc (size a.formula)) ks s.ahead })
  to_second : (k : ℕ) (ks : List ℕ) (i : Item) (own : List Value) (a b : Signed) → IsDoneAhead B s k ks i own → shape_of i.sign i.formula ≡ Beta → components i.sign i.formula ≡ a ∷ b ∷ [] → Begins B s.items (drop (turns_before (i.spot.position + suc (size a.formula)) (turns_at B ks)) ks) ⊎ BeginsNot B s.items (first_turns B (i.spot.position + suc (size a.formula)) ks) → Moves B s (record s { ahead = second_part B (i.spot.position + suc (size a.formula)) ks s.ahead })
  extends : (k : ℕ) (ks : List ℕ) (i : Item) (own : List Value) (j : ClauseInstance) (place : ℕ) (below : Closings) (es : List End) (turns : List ℕ) → IsDoneAhead B s k ks i own → shape_of i.sign i.formula ≡ Literal → s.ahead.ends ≡ by_closing (extend j place below) ∷ es → slice_get B.named.order s.ahead.instance ≡ Some turns → Moves B s (record s { ahead = record { turns = turns; ends = ends_at place below; instance = s.ahead.instance + 1 } })
