-- Turns and the nodes on which they work, by a table that is that of the names.
use Rattle.std.proofs.Common.{◌≡◌, ◌<◌, ℕ, List, length, map, get_or, drop, Some, sym, ◌∙◌, ap, subst, slice_get, arith}
use Rattle.std.proofs.lemmas.List.{length-map}
use Rattle.calculus.specs.Ground as tree
use Rattle.calculus.specs.Instances.{Turn}
use Rattle.calculus.specs.Kinds.{modal_of, shape_of}
use Rattle.calculus.specs.declared.setting.Logic.{Logic}
use Rattle.conversion_theory.specs.Branches.{Item, made, past_modal}
use Rattle.conversion_theory.specs.Numbering.{number_of}
use Rattle.formula_core.specs.GroundLists.{GroundList, the_value, the_values}
use Rattle.formula_core.specs.declared.ground.Value as value
use Rattle.name_order.specs.ByNumber.TurnView.{the_turn}
use Rattle.name_order.specs.declared.turn.Turn as program
use Rattle.sequent_convert.specs.ByNumber.MadeView.{the_made}
use Rattle.sequent_convert.specs.ByNumber.NodeView.{the_node}
use Rattle.sequent_convert.specs.ByNumber.PastView.{taken_after}
use Rattle.sequent_convert.specs.ByNumber.RunView.{TakesAll, WorksAt, own_values}
use Rattle.sequent_convert.specs.declared.make.Made as answer
use Rattle.sequent_convert.specs.declared.node.Node.{Node}
use Rattle.sequent_convert.specs.State.{Basis, turn_at, made_of, WorksOnNone, Begins}
use Rattle.sequent_convert.specs.Working.{IsOn}
use Rattle.sequent_convert.proofs.ByNumber.NodeLaws.{begins-head, find-none, find-some, made-there, node-at, works-there}
use Rattle.sequent_convert.proofs.ByNumber.StateLaws.{agenda-length, agenda-turn, own-part}

module _ (ls ts : List GroundList) (same : ts ≡ ls) (B : Basis) (xs : List program.Turn) (e : map (the_turn ls) xs ≡ B.named.agenda) (k : ℕ) (lt : k < length B.named.agenda) where
  within : k < length xs
  within = let many = agenda-length ls B xs e in omega (arith, many, lt)

  pub find-some-by : (nodes items : List Node) (n : ℕ) (t d : program.Turn) → items ≡ nodes → t ≡ get_or xs k d → ((i : Item) × (slice_get (map (the_node ts) items) n ≡ Some i) × IsOn (the_turn ts t) i) → WorksAt B (map (the_node ls) nodes) k n
  find-some-by nodes items n t d listed turn r = find-some ls B xs nodes items k n t d listed e within turn (subst (λ (zs : List GroundList). (i : Item) × (slice_get (map (the_node zs) items) n ≡ Some i) × IsOn (the_turn zs t) i) same r)

  pub find-none-by : (nodes items : List Node) (t d : program.Turn) → items ≡ nodes → t ≡ get_or xs k d → ((n : ℕ) (i : Item) → slice_get (map (the_node ts) items) n ≡ Some i → IsOn (the_turn ts t) i → ⊥) → WorksOnNone B k (map (the_node ls) nodes)
  find-none-by nodes items t d listed turn none = find-none ls B xs nodes items k t d listed e within turn (subst (λ (zs : List GroundList). (n : ℕ) (i : Item) → slice_get (map (the_node zs) items) n ≡ Some i → IsOn (the_turn zs t) i → ⊥) same none)

  pub begins-by : (nodes items : List Node) (turns : List ℕ) (n : ℕ) (t d : program.Turn) (x : Node) → items ≡ nodes → Some k ≡ slice_get turns 0 → t ≡ get_or xs k d → n < length items → x ≡ get_or items n x → IsOn (the_turn ts t) (the_node ts x) → Begins B (map (the_node ls) nodes) turns
  begins-by nodes items turns n t d x listed first turn place read on =
      subst (λ (ns : List Node). Begins B (map (the_node ls) ns) turns) listed
      (begins-head B (map (the_node ls) items) turns k first
      (works-there ls B xs items k n t d x e within turn place read (subst (λ (zs : List GroundList). IsOn (the_turn zs t) (the_node zs x)) same on)))

  -- what a turn takes at the node at a place: what was taken before, and its own values
  taken-length : (x : Node) (taken : List value.Value) → map (the_value ts) taken ≡ the_values ts x.spot.taken → length taken ≡ length (the_values ls x.spot.taken)
  taken-length x taken list = sym (length-map taken (the_value ts)) ∙ ap length list ∙ ap (λ (zs : List GroundList). length (the_values zs x.spot.taken)) same

  own-by : (t d : program.Turn) (vs own : List value.Value) (n : ℕ) → t ≡ get_or xs k d → map (the_value ts) vs ≡ the_values ts t.values → own ≡ drop n vs → map (the_value ls) own ≡ drop n (turn_at B k).values
  own-by t d vs own n turn list part = own-part ls B xs k n t d vs own e within turn (subst (λ (zs : List GroundList). map (the_value zs) vs ≡ the_values zs t.values) same list) part

  pub takes-by : (nodes : List Node) (n : ℕ) (x : Node) (taken vs own : List value.Value) (t d : program.Turn) (l : Logic) → x ≡ get_or nodes n x → map (the_value ts) taken ≡ the_values ts x.spot.taken → t ≡ get_or xs k d → map (the_value ts) vs ≡ the_values ts t.values → own ≡ drop (length taken) vs → l ≡ B.problem.setting.logic
      → WorksAt B (map (the_node ls) nodes) k n → ((i : Item) → slice_get (map (the_node ls) nodes) n ≡ Some i → TakesAll B k i)
      → taken_after (shape_of (the_node ls x).sign (the_node ls x).formula) (past_modal (number_of B.named.names) l (modal_of l (the_node ls x).sign (the_node ls x).formula) (the_node ls x).spot (map (the_value ls) own)) ≡ the_values ls t.values
  takes-by nodes n x taken vs own t d l read taken_list turn list part logic works takes =
      let item = the_node ls x in
      let here : TakesAll B k item = subst (TakesAll B k) (sym (node-at ls nodes n x works.0 works.1 read)) (takes works.0 works.1) in
      let values : map (the_value ls) own ≡ own_values B k item = own-by t d vs own (length taken) turn list part ∙ ap (λ (m : ℕ). drop m (turn_at B k).values) (taken-length x taken taken_list) in
      let all : the_values ls t.values ≡ (turn_at B k).values = ap (λ (y : Turn). y.values) (agenda-turn ls B xs k t d e within turn) in
      (λ j. taken_after (shape_of item.sign item.formula) (past_modal (number_of B.named.names) (logic j) (modal_of (logic j) item.sign item.formula) item.spot (values j))) ∙ here ∙ sym all

  pub made-by : (nodes : List Node) (n : ℕ) (x : Node) (taken vs own : List value.Value) (t d : program.Turn) (l : Logic) (m : answer.Made) → x ≡ get_or nodes n x → map (the_value ts) taken ≡ the_values ts x.spot.taken → t ≡ get_or xs k d → map (the_value ts) vs ≡ the_values ts t.values → own ≡ drop (length taken) vs → l ≡ B.problem.setting.logic
      → the_made ls m ≡ made (number_of B.named.names) l (the_node ls x).spot (the_node ls x).sign (the_node ls x).formula (map (the_value ls) own)
      → (i : Item) → slice_get (map (the_node ls) nodes) n ≡ Some i → the_made ls m ≡ made_of B i (own_values B k i)
  made-by nodes n x taken vs own t d l m read taken_list turn list part logic result =
      let item = the_node ls x in
      made-there ls B nodes n k (length taken) x (map (the_value ls) own) (the_made ls m) read (taken-length x taken taken_list) (own-by t d vs own (length taken) turn list part)
      (result ∙ ap (λ (o : Logic). made (number_of B.named.names) o item.spot item.sign item.formula (map (the_value ls) own)) logic)
