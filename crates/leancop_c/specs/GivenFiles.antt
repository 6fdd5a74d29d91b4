-- The caller's words and files, as lists of bytes.
use Rattle.std.specs.Prelude.{ℕ, List, map}
use Rattle.cop_base.specs.Outside.{Files}
use Rattle.leancop_c.specs.declared.LeancopBytes.{LeancopBytes}
use Rattle.leancop_c.specs.declared.LeancopFile.{LeancopFile}

abbrev pub the_bytes : LeancopBytes → List ℕ
the_bytes b = b.bytes.now

abbrev pub words_of : List LeancopBytes → List (List ℕ)
words_of words = map the_bytes words

abbrev pub files_of : List LeancopFile → Files
files_of files = map (λ f. (the_bytes f.name, the_bytes f.bytes)) files
