-- Which files are read.
use Rattle.std.specs.Prelude.{◌≡◌, ⊤, List, [], ◌∷◌, ◌++◌}
use Rattle.cop_base.specs.Reads.{Read}
use Rattle.tptp_reader.specs.Sources.{Name}

abbrev pub AllNames : (Name → Type 0) → List Read → Type 0
AllNames P [] = ⊤
AllNames P (r ∷ reads) = P r.name × AllNames P reads

-- what was read is what was read before and some more, of files of such names alone
pub record ReadsOnly (P : Name → Type 0) (old new : List Read) : Type 0 where
  pub more : List Read
  pub reads : new ≡ more ++ old
  pub names : AllNames P more
