-- What a step leaves of the derivation that is made.
use Rattle.std.specs.Prelude.{◌≡◌}
use Rattle.sequent_calc.specs.declared.derivation.Derivation.{Derivation}

abbrev pub IsSameButLists : Derivation → Derivation → Type 0
IsSameButLists a b = (a.limit ≡ b.limit) × (a.names.spares ≡ b.names.spares)
