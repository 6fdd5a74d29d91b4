-- Beginnings of labels under a solution of the store, and what is known of their order.
use Rattle.std.specs.Prelude.{◌≡◌, ℕ, ◌+◌, ◌*◌, ◌==◌, ◌<◌, ◌≤◌, List, [], ◌++◌, length, Option, None, Some, get_or, slice_get, Bool, true, false, not, ⊤}
use Rattle.std.specs.Int.{bit_at}
use Rattle.calculus.specs.Ground.{GroundMark}
use Rattle.store_theory.specs.Stores.{Store, Solution, Solves}
use Rattle.store_theory.specs.Templates.{as_label}
use Rattle.term_store.specs.declared.cell.Head.{Head}
use Rattle.term_store.specs.declared.cell.Head.TheVariants.{Open, Fun, Eigen, New, Marks}
use Rattle.term_store.specs.declared.cell.Ref.{Ref}
use Rattle.cop_base.specs.declared.PosId.{PosId}
use Rattle.prefix_split.specs.declared.bit_table.BitTable.{BitTable}
use Rattle.prefix_split.specs.declared.node.Node.{Node}
use Rattle.prefix_split.specs.declared.node.Step.{Step}
use Rattle.prefix_split.specs.declared.node.Step.TheVariants.{Root, Mark, Short, Long}
use Rattle.prefix_split.specs.declared.order.LabelOrder.{LabelOrder}
use Rattle.prefix_split.specs.declared.order.Relation.{Relation}
use Rattle.prefix_split.specs.declared.order.Relation.TheVariants.{Unknown, Weak, Strict}

-- ---- nodes

abbrev pub item_of : Step → Option Ref
item_of Root = None
item_of (Mark r) = Some r
item_of (Short r) = Some r
item_of (Long r) = Some r

-- whether the step is by at most one mark
abbrev pub is_short : Step → Bool
is_short Root = false
is_short (Mark r) = true
is_short (Short r) = true
is_short (Long r) = false

-- the marks of a step
abbrev pub step_marks : Solution → Step → List GroundMark
step_marks σ Root = []
step_marks σ (Mark r) = as_label (σ r.0)
step_marks σ (Short r) = as_label (σ r.0)
step_marks σ (Long r) = as_label (σ r.0)

-- how many there are
abbrev pub HasExtent : Solution → Step → Type 0
HasExtent σ Root = ⊤
HasExtent σ (Mark r) = length (as_label (σ r.0)) ≡ 1
HasExtent σ (Short r) = length (as_label (σ r.0)) ≤ 1
HasExtent σ (Long r) = ⊤

pub record IsNode (σ : Solution) (value : ℕ → List GroundMark) (u : ℕ) (n : Node) : Type 0 where
  pub joined : value u ≡ value n.parent ++ step_marks σ n.step
  pub extent : HasExtent σ n.step

-- the labels that the nodes stand for
pub record AreValues (σ : Solution) (value : ℕ → List GroundMark) (nodes : List Node) : Type 0 where
  pub root : value 0 ≡ []
  pub each : (u : ℕ) (n : Node) → slice_get nodes u ≡ Some n → IsNode σ value u n

-- the node goes on from its parent by this mark
abbrev pub IsMarkNode : List Node → ℕ → Ref → Type 0
IsMarkNode nodes y r = (n : Node) × (slice_get nodes y ≡ Some n) × (n.step ≡ Mark r)

-- the node is by a mark that no solution makes equal to this one
abbrev pub IsOtherMark : Store → List Node → ℕ → Ref → Type 0
IsOtherMark s nodes z r = (q : Ref) × IsMarkNode nodes z q × ((σ : Solution) → Solves s σ → ¬ (as_label (σ r.0) ≡ as_label (σ q.0)))

-- marks of two positions
abbrev pub is_other_name : PosId → Head → Bool
is_other_name p (Open sort) = false
is_other_name p (Fun f) = false
is_other_name p (Eigen q) = false
is_other_name p (New q) = not (p.0 == q.0)
is_other_name p Marks = false

abbrev pub are_other_names : Head → Head → Bool
are_other_names (Open sort) b = false
are_other_names (Fun f) b = false
are_other_names (Eigen q) b = false
are_other_names (New p) b = is_other_name p b
are_other_names Marks b = false

-- the item is a cell of a store of so many cells
abbrev pub StepFits : ℕ → Step → Type 0
StepFits size step = (r : Ref) → item_of step ≡ Some r → r.0 < size

abbrev pub NodesFit : ℕ → List Node → Type 0
NodesFit size nodes = (u : ℕ) (n : Node) → slice_get nodes u ≡ Some n → StepFits size n.step

-- ---- their order

-- what two relations in a row give
abbrev pub joined : Relation → Relation → Relation
joined Unknown b = Unknown
joined Weak b = b
joined Strict Unknown = Unknown
joined Strict Weak = Strict
joined Strict Strict = Strict

abbrev pub Begins : List GroundMark → List GroundMark → Type 0
Begins u v = (s : List GroundMark) × (v ≡ u ++ s)

abbrev pub IsShorter : List GroundMark → List GroundMark → Type 0
IsShorter u v = Begins u v × (length u < length v)

-- the second label is the first one and at most one mark
pub record IsShortBehind (x y : List GroundMark) : Type 0 where
  pub begins : Begins x y
  pub short : length y ≤ length x + 1

abbrev pub IsRelated : Relation → List GroundMark → List GroundMark → Type 0
IsRelated Unknown u v = ⊤
IsRelated Weak u v = Begins u v
IsRelated Strict u v = IsShorter u v

-- the bits of word k of u's row tell of the nodes from k * 64 on
abbrev pub WordHolds : (ℕ → List GroundMark) → Relation → ℕ → ℕ → ℕ → Type 0
WordHolds value r u k word = (b : ℕ) → bit_at word b ≡ 1 → IsRelated r (value u) (value (k * 64 + b))

-- two nodes are so related where the bit is set
abbrev pub TableHolds : (ℕ → List GroundMark) → Relation → BitTable → Type 0
TableHolds value r table = (u k : ℕ) → k < table.width → WordHolds value r u k (get_or table.words.items (u * table.width + k) 0)

-- what the order knows holds of these labels; of a contradiction nothing holds
pub record Holds (value : ℕ → List GroundMark) (order : LabelOrder) : Type 0 where
  pub above : TableHolds value Weak order.above
  pub shorter : TableHolds value Strict order.shorter
  pub possible : order.is_refuted ≡ false

-- what held of some labels before holds after
abbrev pub Keeps : List Node → LabelOrder → LabelOrder → Type 0
Keeps nodes before after = (σ : Solution) (value : ℕ → List GroundMark) → AreValues σ value nodes → Holds value before → Holds value after

-- the same of labels by solutions of the store
abbrev pub KeepsIn : Store → List Node → LabelOrder → LabelOrder → Type 0
KeepsIn s nodes before after = (σ : Solution) (value : ℕ → List GroundMark) → Solves s σ → AreValues σ value nodes → Holds value before → Holds value after

-- the order after is refuted only where nothing that the one before knew holds of labels by solutions of the store
abbrev pub Refutes : Store → List Node → LabelOrder → LabelOrder → Type 0
Refutes s nodes before after = after.is_refuted ≡ true → (σ : Solution) (value : ℕ → List GroundMark) → Solves s σ → AreValues σ value nodes → ¬ Holds value before

-- the first label of each pair begins the second one
abbrev pub AllBegin : (ℕ → List GroundMark) → List (ℕ × ℕ) → Type 0
AllBegin value ps = (i : ℕ) (p : ℕ × ℕ) → slice_get ps i ≡ Some p → Begins (value p.0) (value p.1)

-- the labels of each pair differ
abbrev pub AllApart : (ℕ → List GroundMark) → List (ℕ × ℕ) → Type 0
AllApart value ps = (i : ℕ) (p : ℕ × ℕ) → slice_get ps i ≡ Some p → ¬ (value p.0 ≡ value p.1)
