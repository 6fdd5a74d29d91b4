-- What calls do to the list of cells.
use Rattle.std.specs.Prelude.{ℕ, suc, zero, List, [], ◌∷◌, if◌then◌else◌}
use Rattle.calculus.specs.Equality.{contains}
use Rattle.term_store.specs.declared.cell.Ref.{Ref}
use Rattle.term_store.specs.declared.cell.Content.{Content}
use Rattle.term_store.specs.declared.cell.Content.TheVariants.{Open, Bound, Fun, Eigen, New, Marks}
use Rattle.term_store.specs.declared.cell.Slot.{Slot}

-- a variable with this binding
abbrev pub bound_content : Ref → Content → Content
bound_content r (Open sort) = Bound sort r
bound_content r (Bound sort q) = Bound sort r
bound_content r (Fun f n) = Fun f n
bound_content r (Eigen p n) = Eigen p n
bound_content r (New p n) = New p n
bound_content r (Marks n) = Marks n

-- a variable without a binding
abbrev pub open_content : Content → Content
open_content (Open sort) = Open sort
open_content (Bound sort q) = Open sort
open_content (Fun f n) = Fun f n
open_content (Eigen p n) = Eigen p n
open_content (New p n) = New p n
open_content (Marks n) = Marks n

-- the slot at a place with another content
abbrev pub change_at : (Content → Content) → ℕ → List Slot → List Slot
change_at f v [] = []
change_at f zero (s ∷ ss) = record { content = f s.content; start = s.start } ∷ ss
change_at f (suc v) (s ∷ ss) = s ∷ change_at f v ss

-- the slots from the number n on, of which only those on the trail keep their bindings
abbrev pub slots_bound_by : List ℕ → ℕ → List Slot → List Slot
slots_bound_by trail n [] = []
slots_bound_by trail n (s ∷ ss) = record { content = if contains trail n then s.content else open_content s.content; start = s.start } ∷ slots_bound_by trail (suc n) ss
