-- The clause that a part of the program stands for.
use Rattle.matrix_build.specs.declared.part.Part.{Part}
use Rattle.matrix_build.specs.Parts.{BuiltPart}

abbrev pub the_part : Part → BuiltPart
the_part b = record { literals = b.literals; gammas = b.gammas; pis = b.pis; sorts = b.sorts; sides = b.sides.now }
