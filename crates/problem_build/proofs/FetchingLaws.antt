-- The names of the files that are read, from fetch to fetch.
use Rattle.std.proofs.Common.{◌≡◌, ◌∙◌, ℕ, List, [], ◌∷◌, ◌++◌, Result, Ok, Err, Vec, refl, sym, ap, subst}
use Rattle.std.proofs.lemmas.List.{append_assoc}
use Rattle.std.specs.declared.alloc.Global.{Global}
use Rattle.cop_base.specs.declared.library.FetchFault.{FetchFault}
use Rattle.cop_base.specs.declared.library.FetchFault.TheVariants as fault
use Rattle.cop_base.specs.Reads.{Read, Answer, whole, absent, longer, failed, read, answered}
use Rattle.tptp_reader.specs.Sources.{Name}
use Rattle.problem_build.specs.Fetching.{AllNames, ReadsOnly}

names-both : (P : Name → Type 0) (xs ys : List Read) → AllNames P xs → AllNames P ys → AllNames P (xs ++ ys)
names-both P [] ys h k = k
names-both P (x ∷ xs) ys h k = (h.0, names-both P xs ys h.1 k)

names-wider : (P Q : Name → Type 0) → ((n : Name) → P n → Q n) → (xs : List Read) → AllNames P xs → AllNames Q xs
names-wider P Q next [] h = tt
names-wider P Q next (x ∷ xs) h = (next x.name h.0, names-wider P Q next xs h.1)

-- where nothing is read
pub only_same : {P : Name → Type 0} {reads : List Read} → ReadsOnly P reads reads
only_same = record { more = []; reads = refl; names = tt }

-- two parts are one
pub only-both : {P : Name → Type 0} {a b c : List Read} → ReadsOnly P a b → ReadsOnly P b c → ReadsOnly P a c
only-both {P = P} {a = a} h k = record {
  more = k.more ++ h.more;
  reads = k.reads ∙ ap (λ xs. k.more ++ xs) h.reads ∙ sym (append_assoc k.more h.more a);
  names = names-both P k.more h.more k.names h.names;
}

pub only-wider : {P Q : Name → Type 0} {a b : List Read} → ((n : Name) → P n → Q n) → ReadsOnly P a b → ReadsOnly Q a b
only-wider {P = P} {Q = Q} next h = record { more = h.more; reads = h.reads; names = names-wider P Q next h.more h.names }

one-name : (name : Name) (answer : Answer) (old : List Read) → ReadsOnly (λ n. n ≡ name) old (read name answer ∷ old)
one-name name answer old = record { more = read name answer ∷ []; reads = refl; names = (refl, tt) }

-- a fetch
answered-only : (name : Name) (limit : ℕ) (r : Result (Vec ℕ Global) FetchFault) (old : List Read) → ReadsOnly (λ n. n ≡ name) old (answered name limit r old)
answered-only name limit (Ok bytes) old = one-name name (whole bytes.items) old
answered-only name limit (Err fault.Missing) old = one-name name absent old
answered-only name limit (Err fault.Failed) old = one-name name failed old
answered-only name limit (Err fault.TooLarge) old = one-name name (longer limit) old
answered-only name limit (Err fault.NoMemory) old = only_same

pub fetched_only : (name : Name) (limit : ℕ) (r : Result (Vec ℕ Global) FetchFault) (old new : List Read) → new ≡ answered name limit r old → ReadsOnly (λ n. n ≡ name) old new
fetched_only name limit r old new e = subst (ReadsOnly (λ n. n ≡ name) old) (sym e) (answered-only name limit r old)
