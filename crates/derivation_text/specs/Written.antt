-- Which names can be written.
use Rattle.std.specs.Prelude.{Bool, ◌&&◌}
use Rattle.calculus.specs.Derivations.{EigenName, SpareName}
use Rattle.calculus.specs.DerivationText.{home_is_written, label_is_written}
use Rattle.calculus.specs.Text.{is_number}

abbrev pub eigen_is_written : EigenName → Bool
eigen_is_written x = is_number x.number && label_is_written x.home

abbrev pub spare_is_written : SpareName → Bool
spare_is_written x = is_number x.number && home_is_written x.home
