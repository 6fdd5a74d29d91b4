-- The number of a name is its place in the list, counted from where the numbers begin.
use Rattle.std.proofs.Common.{◌≡◌, ℕ, zero, suc, ◌+◌, ◌<◌, ◌≤◌, List, [], ◌∷◌, length, get_or, Bool, true, false, Some, None, refl, ◌∙◌, ap, arith, position}
use Rattle.std.specs.List.{position_or_len}
use Rattle.std.proofs.lemmas.Grind.{common_steps}
use Rattle.conversion_theory.specs.Numbering.{name_eq, place_from}
use Rattle.conversion_theory.specs.Turns.{Name}

pub place-none : (k : ℕ) (ns : List Name) (w : Name) → ((i : ℕ) → i < length ns → name_eq w (get_or ns i w) ≡ false) → place_from k ns w ≡ None
place-none k [] w h = refl
place-none k (n ∷ ns) w h = rw (h 0 (omega arith)) (place-none (suc k) ns w (λ i l. h (suc i) (omega arith)))

pub place-some : (k i : ℕ) (ns : List Name) (w : Name) → i < length ns → name_eq w (get_or ns i w) ≡ true → ((j : ℕ) → j < i → name_eq w (get_or ns j w) ≡ false) → place_from k ns w ≡ Some (k + i)
place-some k i [] w l e h = absurd (omega arith)
place-some k zero (n ∷ ns) w l e h = let m : k ≡ k + 0 = omega arith in rw e (ap Some m)
place-some k (suc i) (n ∷ ns) w l e h = let m : suc k + i ≡ k + suc i = omega arith in rw (h 0 (omega arith)) (place-some (suc k) i ns w (omega arith) e (λ j lt. h (suc j) (omega arith)) ∙ ap Some m)

-- where none passes, all stand before the first that does
pub none-behind : {A : Type 0} (p : A → Bool) (keys : List A) (i : ℕ) → position p keys ≡ None → i < length keys → i < position_or_len p keys
none-behind p keys i e lt = let behind : length keys ≤ position_or_len p keys = grind (arith, common_steps) in omega arith
