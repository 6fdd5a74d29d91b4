-- What the fetches of a library answered, and the files that agree with it.
use Rattle.std.specs.Prelude.{◌≡◌, ◌≢◌, ◌⊎◌, ◌<◌, ℕ, ⊤, List, [], ◌∷◌, ◌++◌, length, Option, Some, None, IfSome, IsSomeAnd, Result, Ok, Err, Vec}
use Rattle.std.specs.declared.alloc.Global.{Global}
use Rattle.std.specs.declared.io.ErrorKind.{ErrorKind}
use Rattle.std.specs.declared.io.ErrorKind.TheVariants as kind
use Rattle.std.specs.Str.{IsUtf8}
use Rattle.cop_base.specs.declared.library.FetchFault.{FetchFault}
use Rattle.cop_base.specs.declared.library.FetchFault.TheVariants as fault
use Rattle.cop_base.specs.Outside.{Files, file_in}

-- of the file of a name: its bytes; that there is none; that it has more bytes than so many; that it
-- could not be read
pub data Answer : Type 0 where
  whole : (bytes : List ℕ) → Answer
  absent : Answer
  longer : (limit : ℕ) → Answer
  failed : Answer

pub record Read : Type 0 where
  pub name : List ℕ
  pub answer : Answer

abbrev pub read : List ℕ → Answer → Read
read name answer = record { name = name; answer = answer }

-- what was read once a fetch has answered, the last answer first; want of memory is no answer
abbrev pub answered : List ℕ → ℕ → Result (Vec ℕ Global) FetchFault → List Read → List Read
answered name limit (Ok bytes) reads = read name (whole bytes.items) ∷ reads
answered name limit (Err fault.Missing) reads = read name absent ∷ reads
answered name limit (Err fault.Failed) reads = read name failed ∷ reads
answered name limit (Err fault.TooLarge) reads = read name (longer limit) ∷ reads
answered name limit (Err fault.NoMemory) reads = reads

-- a file that could not be read may be any, and may be missing
abbrev pub IsAnswer : Option (List ℕ) → Answer → Type 0
IsAnswer held (whole bytes) = held ≡ Some bytes
IsAnswer held absent = held ≡ None
IsAnswer held (longer limit) = IsSomeAnd held (λ bytes. limit < length bytes)
IsAnswer held failed = ⊤

-- what the answer to a fetch says of the file
abbrev pub Answers : Option (List ℕ) → ℕ → Result (Vec ℕ Global) FetchFault → Type 0
Answers held limit (Ok bytes) = held ≡ Some bytes.items
Answers held limit (Err fault.Missing) = held ≡ None
Answers held limit (Err fault.Failed) = ⊤
Answers held limit (Err fault.TooLarge) = IsSomeAnd held (λ bytes. limit < length bytes)
Answers held limit (Err fault.NoMemory) = ⊤

-- each answer is that of these files
abbrev pub Agrees : Files → List Read → Type 0
Agrees files [] = ⊤
Agrees files (r ∷ reads) = IsAnswer (file_in files r.name) r.answer × Agrees files reads

-- what was read is what was read before and some more, with which these files agree, where they are
-- told
pub record ReadsOn (told : Option Files) (old new : List Read) : Type 0 where
  pub more : List Read
  pub reads : new ≡ more ++ old
  pub agrees : IfSome told (λ files. Agrees files more)

-- the files agree with what was read in between
abbrev pub AgreesSince : Files → (old new : List Read) → Type 0
AgreesSince files old new = ReadsOn (Some files) old new

-- the last answer was this one, to a fetch of this file
abbrev pub EndsWith : List Read → List ℕ → Answer → Type 0
EndsWith [] name answer = ⊥
EndsWith (r ∷ reads) name answer = r ≡ read name answer

-- The bytes, or that they are more than so many, are those of an opened reader, where it tells what it has left. A file is missing
-- whose opening was refused as that of one which is not there, or whose name is no path, which is UTF-8; reading fails where the opening
-- was refused for another reason, or a reader was opened, which tells nothing of a read that fails
abbrev pub IsReadFrom : {File : Type 0} → (File → Option (List ℕ)) → (File → Type 0) → (ErrorKind → Type 0) → List ℕ → ℕ → Result (Vec ℕ Global) FetchFault → Type 0
IsReadFrom {File = File} remaining opened refused name limit (Ok bytes) = (file : File) × opened file × IfSome (remaining file) (λ all. bytes.items ≡ all)
IsReadFrom remaining opened refused name limit (Err fault.Missing) = (¬ IsUtf8 name) ⊎ refused kind.NotFound
IsReadFrom {File = File} remaining opened refused name limit (Err fault.Failed) =
    ((why : ErrorKind) × (why ≢ kind.NotFound) × refused why) ⊎ ((file : File) × opened file)
IsReadFrom {File = File} remaining opened refused name limit (Err fault.TooLarge) = (file : File) × opened file × IfSome (remaining file) (λ all. limit < length all)
IsReadFrom remaining opened refused name limit (Err fault.NoMemory) = ⊤
