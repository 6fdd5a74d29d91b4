use Rattle.std.proofs.Common.{◌≡◌, drop}
use Rattle.cop_base.specs.Outside.{file_in}
use Rattle.leancop_c.specs.GivenFiles.{files_of}
use Rattle.leancop_c.proofs.files.find_file.Given as goal

abbrev pub invariant-loop-file : goal.invariant-loop-file
invariant-loop-file l = file_in (files_of (drop l.file-index l.files)) l.name ≡ file_in (files_of l.files) l.name
