use Rattle.std.proofs.Common.{◌≡◌, drop}
use Rattle.cop_base.specs.Outside.{file_in, files_of}
use Rattle.cop_base.proofs.mem_library.find_file.Given as goal

abbrev pub invariant-loop-file : goal.invariant-loop-file
invariant-loop-file l = file_in (files_of (drop l.file-index l.file-items)) l.name ≡ file_in (files_of l.file-items) l.name
