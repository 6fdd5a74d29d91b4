use Rattle.std.proofs.Common.{◌≡◌, ◌<◌, ℕ, false, get_or, length, take}
use Rattle.calculus.specs.Equality.{contains}
use Rattle.finite_model.proofs.tuples.flags_of.Given as goal

abbrev pub invariant-loop-element : goal.invariant-loop-element
invariant-loop-element l = record {
  count : length l.flags.items ≡ 256;
  flags : (x : ℕ) → x < 256 → get_or l.flags.items x false ≡ contains (take l.element-index l.domain) x;
}
