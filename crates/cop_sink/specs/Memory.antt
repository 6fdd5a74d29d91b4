-- The sink in memory: what each put does.
use Rattle.std.specs.Prelude.{ℕ, ◌+◌, ◌-◌, List, [], ◌∷◌, ◌++◌, length, take, min, Bool, ◌||◌, ◌==◌, Option, Some, None, is_some, unwrap_or, nat_lt, if◌then◌else◌}
use Rattle.cop_base.specs.Memory.{counted}

-- a pair of `failing` is the number of a call and the number of bytes that it takes
pub record BytesInMemory : Type 0 where
  pub written : List ℕ
  pub capacity : ℕ
  pub failing : List (ℕ × ℕ)
  pub calls : ℕ
  pub faults : ℕ
  pub puts : List (List ℕ)

-- the bytes that the call of this number takes, if it is to fail; the first pair counts
abbrev pub failure_in : List (ℕ × ℕ) → ℕ → Option ℕ
failure_in [] call = None
failure_in (f ∷ fs) call = if f.0 == call then Some f.1 else failure_in fs call

abbrev pub put_failure : BytesInMemory → Option ℕ
put_failure s = failure_in s.failing (counted s.calls)

-- how many of so many bytes the next call takes
abbrev pub taken : BytesInMemory → ℕ → ℕ
taken s n = min (min n (s.capacity - length s.written)) (unwrap_or (put_failure s) n)

abbrev pub put_fails : BytesInMemory → ℕ → Bool
put_fails s n = is_some (put_failure s) || nat_lt (s.capacity - length s.written) n

abbrev pub after_put : BytesInMemory → List ℕ → BytesInMemory
after_put s bytes = record s {
  written = s.written ++ take (taken s (length bytes)) bytes;
  calls = counted s.calls;
  faults = if put_fails s (length bytes) then counted s.faults else s.faults;
  puts = take (taken s (length bytes)) bytes ∷ s.puts;
}
