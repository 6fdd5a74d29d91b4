-- Turns found again by their keys: parents, and the turns that introduce names.
use Rattle.std.specs.Prelude.{ℕ, ◌-◌, List, [], ◌∷◌, length, take, drop, position, Option, Some, None, option_and_then, slice_get, if◌then◌else◌}
use Rattle.std.specs.List.{flat_map}
use Rattle.std.specs.Option.{option_map_or}
use Rattle.calculus.specs.Ground.{g_eigen, g_new_mark, values_list}
use Rattle.calculus.specs.Instances.{Turn}
use Rattle.conversion_theory.specs.Numbering.{name_eq}
use Rattle.calculus.specs.Syntax.{Problem}
use Rattle.conversion_theory.specs.Turns.{Name, term_name, mark_name}
use Rattle.name_order.specs.Keeping.{keep_all}
use Rattle.name_order.specs.Mentioned.{mentioned_in}
use Rattle.name_order.specs.Places.{Place, is_delta_in, is_pi_in}
use Rattle.name_order.specs.Walks.{values_at}
use Rattle.name_order.specs.WalkView.{the_turn_at}
use Rattle.name_order.specs.Words.{words_eq, words_of_turn}

abbrev pub find_in : List (List ℕ) → Turn → Option ℕ
find_in ks x = position (words_eq (words_of_turn x)) ks

abbrev pub above_in : List Place → ℕ → Option ℕ
above_in ps p = option_and_then (λ (x : Place). x.above) (slice_get ps p)

-- how many values are taken before a turn's own
abbrev pub before_in : List Place → Turn → ℕ
before_in ps x = option_map_or (λ (p : Place). length x.values - values_at p.modal p.shape) (slice_get ps x.position) 0

abbrev pub parent_in : List Place → List (List ℕ) → Turn → Option ℕ
parent_in ps ks x = option_and_then (λ q. find_in ks (the_turn_at q (take (before_in ps x) x.values))) (above_in ps x.position)

-- the turn that introduces a name
abbrev pub introducer_in : List Place → List (List ℕ) → Name → Option ℕ
introducer_in ps ks (term_name (g_eigen p vs)) = if is_delta_in ps p then find_in ks (the_turn_at p (values_list vs)) else None
introducer_in ps ks (term_name t) = None
introducer_in ps ks (mark_name (g_new_mark p vs)) = if is_pi_in ps p then find_in ks (the_turn_at p (values_list vs)) else None
introducer_in ps ks (mark_name m) = None

abbrev pub listed : Option ℕ → List ℕ
listed None = []
listed (Some k) = k ∷ []

abbrev pub introducers_in : List Place → List (List ℕ) → List Name → List ℕ
introducers_in ps ks ns = flat_map (λ n. listed (introducer_in ps ks n)) ns

-- the turns that introduce what the turn mentions by its own values
abbrev pub waits_in : Problem → List Place → List (List ℕ) → Turn → List ℕ
waits_in P ps ks x = introducers_in ps ks (keep_all name_eq [] (mentioned_in P (drop (before_in ps x) x.values)))
