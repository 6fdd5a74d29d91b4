-- The items of nodes at their places, and the turns that work on them.
use Rattle.std.proofs.Common.{◌≡◌, ◌↔◌, ℕ, zero, suc, ◌+◌, ◌≤◌, ◌<◌, List, [], ◌∷◌, ◌++◌, map, length, get_or, take, drop, Bool, true, false, IsTrue, Some, None, nat_lt, inl, inr, refl, sym, ◌∙◌, ap, subst, slice_get, arith}
use Rattle.std.specs.List.{AllByRecursion}
use Rattle.std.proofs.lemmas.Bool.{cases_Bool, false≢true, ltb-true, ltb-false}
use Rattle.std.proofs.lemmas.List.{length-map, take-append-drop, take-map, take_all}
use Rattle.std.proofs.lemmas.Option.{slice_get_within}
use Rattle.calculus.specs.Ground as tree
use Rattle.calculus.specs.Instances.{Turn}
use Rattle.conversion_theory.specs.Branches.{Item, Made}
use Rattle.formula_core.specs.GroundLists.{GroundList, the_value}
use Rattle.formula_core.specs.declared.ground.Value as value
use Rattle.name_order.specs.ByNumber.TurnView.{the_turn}
use Rattle.name_order.specs.declared.turn.Turn as program
use Rattle.sequent_convert.specs.ByNumber.NodeView.{the_node}
use Rattle.sequent_convert.specs.ByNumber.RunView.{WorksAt, own_values}
use Rattle.sequent_convert.specs.declared.node.Node.{Node}
use Rattle.sequent_convert.specs.State.{Basis, turn_at, made_of, Works, WorksOnNone, Begins}
use Rattle.sequent_convert.specs.Working.{IsFront, IsOn}
use Rattle.sequent_convert.proofs.ByNumber.StateLaws.{agenda-turn}

-- ---- values that begin with others

pub front_short : (taken values : List tree.Value) → length values < length taken → IsTrue false ↔ IsFront taken values
front_short taken values lt = (λ e. absurd (false≢true e), λ e. let n = ap length e in let m = ap length (take_all (length taken) values (omega (arith, lt))) in absurd (omega (arith, n, m, lt)))

front_item : (ls : List GroundList) (ts vs : List value.Value) (i : ℕ) (t v d e : value.Value) → take (length (map (the_value ls) ts)) (map (the_value ls) vs) ≡ map (the_value ls) ts → i < length ts → i < length vs → t ≡ get_or ts i d → v ≡ get_or vs i e → the_value ls t ≡ the_value ls v
front_item ls [] vs i t v d e same lt in_values tr vr = absurd (omega (arith, lt))
front_item ls (x ∷ ts) [] i t v d e same lt in_values tr vr = absurd (omega (arith, in_values))
front_item ls (x ∷ ts) (y ∷ vs) zero t v d e same lt in_values tr vr = let g : the_value ls y ≡ the_value ls x = cc in ap (the_value ls) tr ∙ sym g ∙ sym (ap (the_value ls) vr)
front_item ls (x ∷ ts) (y ∷ vs) (suc i) t v d e same lt in_values tr vr = let g : take (length (map (the_value ls) ts)) (map (the_value ls) vs) ≡ map (the_value ls) ts = cc in front_item ls ts vs i t v d e g (omega (arith, lt)) (omega (arith, in_values)) tr vr

pub front_differs : (ls : List GroundList) (ts vs : List value.Value) (i : ℕ) (t v d e : value.Value) (r : Bool) → r ≡ false → IsTrue r ↔ (the_value ls t ≡ the_value ls v) → i < length ts → i < length vs → t ≡ get_or ts i d → v ≡ get_or vs i e → IsTrue false ↔ IsFront (map (the_value ls) ts) (map (the_value ls) vs)
front_differs ls ts vs i t v d e r fails same lt in_values tr vr = (λ q. absurd (false≢true q), λ f. subst IsTrue fails (same.1 (front_item ls ts vs i t v d e f lt in_values tr vr)))

pub front_whole : (ls : List GroundList) (ts vs : List value.Value) (i : ℕ) → i ≡ length ts → map (the_value ls) (take i vs) ≡ map (the_value ls) (take i ts) → IsTrue true ↔ IsFront (map (the_value ls) ts) (map (the_value ls) vs)
front_whole ls ts vs i e same = (λ _. ap (λ n. take n (map (the_value ls) vs)) (length-map ts (the_value ls) ∙ sym e) ∙ take-map (the_value ls) i vs ∙ same ∙ ap (map (the_value ls)) (take_all i ts (omega (arith, e))), λ _. refl)

-- with a tableau
pub on-works : (B : Basis) (k : ℕ) (i : Item) → IsOn (turn_at B k) i → Works B k i (own_values B k i)
on-works B k i h = (h.fresh, h.position, sym (take-append-drop (length i.spot.taken) (turn_at B k).values) ∙ ap (λ vs. vs ++ own_values B k i) h.values)

front-append : (xs ys zs : List tree.Value) → zs ≡ xs ++ ys → IsFront xs zs
front-append [] ys zs e = refl
front-append (x ∷ xs) ys [] e = absurd (nil_cons e)
  where
    nil_cons : {A : Type 0} {a : A} {l : List A} → [] ≡ a ∷ l → ⊥
    nil_cons q = cc
front-append (x ∷ xs) ys (z ∷ zs) e =
    let head : z ≡ x = cc in
    let tail : zs ≡ xs ++ ys = cc in
    let rest = front-append xs ys zs tail in
    λ i. head i ∷ rest i

pub works-on : (B : Basis) (k : ℕ) (i : Item) (own : List tree.Value) → Works B k i own → IsOn (turn_at B k) i
works-on B k i own w = record { fresh = w.0; position = w.1; values = front-append i.spot.taken own (turn_at B k).values w.2 }

pub none-works : (B : Basis) (k : ℕ) (items : List Item) → ((n : ℕ) (i : Item) → slice_get items n ≡ Some i → IsOn (turn_at B k) i → ⊥) → WorksOnNone B k items
none-works B k items none n i at own w = none n i at (works-on B k i own w)

-- ---- nodes at their places

pub node-place : (ls : List GroundList) (nodes : List Node) (n : ℕ) (i : Item) → slice_get (map (the_node ls) nodes) n ≡ Some i → n < length nodes
node-place ls nodes n i e = let lt = slice_get_within (map (the_node ls) nodes) n i e in let same = length-map nodes (the_node ls) in omega (arith, lt, same)

pub node-at : (ls : List GroundList) (nodes : List Node) (n : ℕ) (x : Node) (i : Item) → slice_get (map (the_node ls) nodes) n ≡ Some i → x ≡ get_or nodes n x → the_node ls x ≡ i
node-at ls [] n x i e read = absurd (none-some e)
  where
    none-some : {A : Type 0} {a : A} → None ≡ Some a → ⊥
    none-some z = cc
node-at ls (y ∷ ys) zero x i e read = ap (the_node ls) read ∙ one-some (the_node ls y) i e
  where
    one-some : (u v : Item) → Some u ≡ Some v → u ≡ v
    one-some u v q = cc
node-at ls (y ∷ ys) (suc n) x i e read = node-at ls ys n x i e read

pub node-get : (ls : List GroundList) (nodes : List Node) (n : ℕ) (x : Node) → n < length nodes → x ≡ get_or nodes n x → slice_get (map (the_node ls) nodes) n ≡ Some (the_node ls x)
node-get ls [] n x lt read = absurd (omega (arith, lt))
node-get ls (y ∷ ys) zero x lt read = ap (λ z. Some (the_node ls z)) (sym read)
node-get ls (y ∷ ys) (suc n) x lt read = node-get ls ys n x (omega (arith, lt)) read

-- one more node that is none of these
pub none-step : (ls : List GroundList) (nodes : List Node) (k : ℕ) (x : Node) (Q : Item → Type 0) → x ≡ get_or nodes k x → ((n : ℕ) (i : Item) → n < k → slice_get (map (the_node ls) nodes) n ≡ Some i → Q i → ⊥) → (Q (the_node ls x) → ⊥) → (n : ℕ) (i : Item) → n < k + 1 → slice_get (map (the_node ls) nodes) n ≡ Some i → Q i → ⊥
none-step ls nodes k x Q read h here n i lt at q = elim (cases_Bool (nat_lt n k)) [
  | inl y ↦ h n i (ltb-true n k y) at q
  | inr z ↦ let ge = ltb-false n k z in let same : n ≡ k = omega (arith, lt, ge) in here (subst Q (sym (node-at ls nodes k x i (subst (λ m. slice_get (map (the_node ls) nodes) m ≡ Some i) same at) read)) q)
]

pub none-all : (ls : List GroundList) (nodes : List Node) (k : ℕ) (Q : Item → Type 0) → length nodes ≤ k → ((n : ℕ) (i : Item) → n < k → slice_get (map (the_node ls) nodes) n ≡ Some i → Q i → ⊥) → (n : ℕ) (i : Item) → slice_get (map (the_node ls) nodes) n ≡ Some i → Q i → ⊥
none-all ls nodes k Q le h n i at q = let lt = node-place ls nodes n i at in h n i (omega (arith, lt, le)) at q

-- what a turn makes of the node at a place
pub made-there : (ls : List GroundList) (B : Basis) (nodes : List Node) (n k taken : ℕ) (x : Node) (own : List tree.Value) (m : Made) → x ≡ get_or nodes n x → taken ≡ length (the_node ls x).spot.taken → own ≡ drop taken (turn_at B k).values → m ≡ made_of B (the_node ls x) own → (i : Item) → slice_get (map (the_node ls) nodes) n ≡ Some i → m ≡ made_of B i (own_values B k i)
made-there ls B nodes n k taken x own m read count part made i at = made ∙ ap (made_of B (the_node ls x)) (part ∙ ap (λ j. drop j (turn_at B k).values) count) ∙ ap (λ j. made_of B j (own_values B k j)) (node-at ls nodes n x i at read)

-- a turn works on an item
abbrev WorksOnSome : Basis → ℕ → List Item → Type 0
WorksOnSome B k items = (n : ℕ) × (i : Item) × (own : List tree.Value) × (slice_get items n ≡ Some i) × Works B k i own

-- a turn works on the node at a place
pub works-there : (ls : List GroundList) (B : Basis) (xs : List program.Turn) (nodes : List Node) (k n : ℕ) (t d : program.Turn) (x : Node) → map (the_turn ls) xs ≡ B.named.agenda → k < length xs → t ≡ get_or xs k d → n < length nodes → x ≡ get_or nodes n x → IsOn (the_turn ls t) (the_node ls x) → WorksOnSome B k (map (the_node ls) nodes)
works-there ls B xs nodes k n t d x e lt turn within read on =
    (n, the_node ls x, own_values B k (the_node ls x), node-get ls nodes n x within read, on-works B k (the_node ls x) (subst (λ (y : Turn). IsOn y (the_node ls x)) (agenda-turn ls B xs k t d e lt turn) on))

-- where a turn works among nodes, and that it works on none
pub find-some : (ls : List GroundList) (B : Basis) (xs : List program.Turn) (nodes items : List Node) (k n : ℕ) (t d : program.Turn) → items ≡ nodes → map (the_turn ls) xs ≡ B.named.agenda → k < length xs → t ≡ get_or xs k d → ((i : Item) × (slice_get (map (the_node ls) items) n ≡ Some i) × IsOn (the_turn ls t) i) → WorksAt B (map (the_node ls) nodes) k n
find-some ls B xs nodes items k n t d same e lt turn r =
    (r.0, subst (λ ns. slice_get (map (the_node ls) ns) n ≡ Some r.0) same r.1, on-works B k r.0 (subst (λ (y : Turn). IsOn y r.0) (agenda-turn ls B xs k t d e lt turn) r.2))

pub find-none : (ls : List GroundList) (B : Basis) (xs : List program.Turn) (nodes items : List Node) (k : ℕ) (t d : program.Turn) → items ≡ nodes → map (the_turn ls) xs ≡ B.named.agenda → k < length xs → t ≡ get_or xs k d → ((n : ℕ) (i : Item) → slice_get (map (the_node ls) items) n ≡ Some i → IsOn (the_turn ls t) i → ⊥) → WorksOnNone B k (map (the_node ls) nodes)
find-none ls B xs nodes items k t d same e lt turn none =
    none-works B k (map (the_node ls) nodes) (λ n i at on. none n i (subst (λ ns. slice_get (map (the_node ls) ns) n ≡ Some i) (sym same) at) (subst (λ (y : Turn). IsOn y i) (sym (agenda-turn ls B xs k t d e lt turn)) on))

-- the first of some turns
pub begins-head : (B : Basis) (items : List Item) (turns : List ℕ) (k : ℕ) → Some k ≡ slice_get turns 0 → WorksOnSome B k items → Begins B items turns
begins-head B items [] k e w = absurd (some-none e)
  where
    some-none : {A : Type 0} {a : A} → Some a ≡ None → ⊥
    some-none z = cc
begins-head B items (j ∷ js) k e w = subst (λ m. WorksOnSome B m items) (one-some k j e) w
  where
    one-some : (u v : ℕ) → Some u ≡ Some v → u ≡ v
    one-some u v q = cc

pub head-in : (turns : List ℕ) (n k : ℕ) → AllByRecursion (λ j. j < n) turns → Some k ≡ slice_get turns 0 → k < n
head-in [] n k all e = absurd (some-none e)
  where
    some-none : {A : Type 0} {a : A} → Some a ≡ None → ⊥
    some-none z = cc
head-in (j ∷ js) n k all e = subst (λ m. m < n) (one-some j k (sym e)) all.0
  where
    one-some : (u v : ℕ) → Some u ≡ Some v → u ≡ v
    one-some u v q = cc
