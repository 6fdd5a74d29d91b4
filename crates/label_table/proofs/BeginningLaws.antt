-- Beginnings of labels, told on the way from a label to a shorter one.
use Rattle.std.proofs.Common.{◌≡◌, ◌≤◌, ◌&&◌, [], ◌∷◌, ◌++◌, length, refl, sym, ◌∙◌, ap, arith}
use Rattle.calculus.specs.Derivations.{Label, character_eq}
use Rattle.calculus.specs.Equality.{list_eq}
use Rattle.calculus.specs.Labels.{is_prefix}
use Rattle.label_table.specs.Longer.{IsLonger}

prefix-part : (h r more : Label) → length h ≤ length r → is_prefix character_eq h (r ++ more) ≡ is_prefix character_eq h r
prefix-part [] r more le = refl
prefix-part (c ∷ h) [] more le = absurd (omega (arith, le))
prefix-part (c ∷ h) (d ∷ r) more le = ap (λ b. character_eq c d && b) (prefix-part h r more (omega (arith, le)))

prefix-whole : (h w : Label) → length w ≤ length h → is_prefix character_eq h w ≡ list_eq character_eq h w
prefix-whole [] [] le = refl
prefix-whole [] (d ∷ w) le = absurd (omega (arith, le))
prefix-whole (c ∷ h) [] le = refl
prefix-whole (c ∷ h) (d ∷ w) le = ap (λ b. character_eq c d && b) (prefix-whole h w (omega (arith, le)))

-- a beginning that is not too short begins in the same way
pub prefix-shorter : (h r w v : Label) → IsLonger r w → length h ≤ length r → is_prefix character_eq h w ≡ is_prefix character_eq h v → is_prefix character_eq h r ≡ is_prefix character_eq h v
prefix-shorter h r w v long le same = sym (prefix-part h r long.0 le) ∙ ap (is_prefix character_eq h) (sym long.1) ∙ same

pub prefix-end : (h w v : Label) → length w ≤ length h → is_prefix character_eq h w ≡ is_prefix character_eq h v → list_eq character_eq h w ≡ is_prefix character_eq h v
prefix-end h w v le same = sym (prefix-whole h w le) ∙ same
