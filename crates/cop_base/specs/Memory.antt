-- The library in memory: what each call of it does.
use Rattle.std.specs.Prelude.{◌≡◌, ◌⊎◌, ℕ, ◌+◌, ◌-◌, ◌^◌, List, [], ◌∷◌, ◌++◌, length, take, min, Bool, ◌||◌, ◌==◌, Option, Some, None, is_some, unwrap_or, nat_lt, if◌then◌else◌, Result, Err, Vec, IsOkAnd, MatchBool}
use Rattle.std.specs.List.{list_any}
use Rattle.std.specs.declared.alloc.Global.{Global}
use Rattle.cop_base.specs.declared.library.FetchFault.{FetchFault}
use Rattle.cop_base.specs.declared.library.FetchFault.TheVariants as fault
use Rattle.cop_base.specs.Outside.{Files, file_in}
use Rattle.cop_base.specs.Reads.{Read, answered}

-- one more, up to the greatest value of a u64
abbrev pub counted : ℕ → ℕ
counted n = min (n + 1) (2 ^ 64 - 1)

-- ---- the library

pub record FilesInMemory : Type 0 where
  pub files : Files
  pub failing : List ℕ
  pub calls : ℕ
  pub faults : ℕ
  pub misses : ℕ
  pub reads : List Read

-- whether the next call is one of those that fail
abbrev pub fetch_fails : FilesInMemory → Bool
fetch_fails l = list_any (λ k. k == counted l.calls) l.failing

-- what a call that does not fail answers, by the bytes of the file
abbrev pub answers : Option (List ℕ) → ℕ → Result (Vec ℕ Global) FetchFault → Type 0
answers None limit r = r ≡ Err fault.Missing
answers (Some bytes) limit r = MatchBool (nat_lt limit (length bytes)) (r ≡ Err fault.TooLarge) ((r ≡ Err fault.NoMemory) ⊎ IsOkAnd r (λ v. v.items ≡ bytes))

abbrev pub IsFetched : FilesInMemory → List ℕ → ℕ → Result (Vec ℕ Global) FetchFault → Type 0
IsFetched l name limit r = MatchBool (fetch_fails l) (r ≡ Err fault.Failed) (answers (file_in l.files name) limit r)

-- the counts of fetches that failed and of missing names, after an answer
abbrev pub faults_after : Result (Vec ℕ Global) FetchFault → ℕ → ℕ
faults_after (Err fault.Failed) n = counted n
faults_after _ n = n

abbrev pub misses_after : Result (Vec ℕ Global) FetchFault → ℕ → ℕ
misses_after (Err fault.Missing) n = counted n
misses_after _ n = n

abbrev pub after_fetch : FilesInMemory → List ℕ → ℕ → Result (Vec ℕ Global) FetchFault → FilesInMemory
after_fetch l name limit r = record l {
  calls = counted l.calls;
  faults = faults_after r l.faults;
  misses = misses_after r l.misses;
  reads = answered name limit r l.reads;
}
