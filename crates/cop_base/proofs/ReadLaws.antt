-- How what was read goes on from fetch to fetch.
use Rattle.std.proofs.Common.{◌≡◌, ◌∙◌, ℕ, List, [], ◌∷◌, ◌++◌, Option, Some, None, IfSome, Result, Ok, Err, Vec, refl, sym, ap, subst}
use Rattle.std.proofs.lemmas.List.{append_assoc, append_cancel_right}
use Rattle.std.specs.declared.alloc.Global.{Global}
use Rattle.cop_base.specs.declared.library.FetchFault.{FetchFault}
use Rattle.cop_base.specs.declared.library.FetchFault.TheVariants as fault
use Rattle.cop_base.specs.Outside.{Files, file_in}
use Rattle.cop_base.specs.Reads.{Read, Answer, Answers, whole, absent, longer, failed, read, answered, IsAnswer, Agrees, ReadsOn, AgreesSince}

-- ---- lists of answers

agrees-both : (files : Files) (xs ys : List Read) → Agrees files xs → Agrees files ys → Agrees files (xs ++ ys)
agrees-both files [] ys h k = k
agrees-both files (x ∷ xs) ys h k = (h.0, agrees-both files xs ys h.1 k)

agrees-first : (files : Files) (xs ys : List Read) → Agrees files (xs ++ ys) → Agrees files xs
agrees-first files [] ys h = tt
agrees-first files (x ∷ xs) ys h = (h.0, agrees-first files xs ys h.1)

agrees-rest : (files : Files) (xs ys : List Read) → Agrees files (xs ++ ys) → Agrees files ys
agrees-rest files [] ys h = h
agrees-rest files (x ∷ xs) ys h = agrees-rest files xs ys h.1

told-both : (told : Option Files) (xs ys : List Read) → IfSome told (λ files. Agrees files xs) → IfSome told (λ files. Agrees files ys) → IfSome told (λ files. Agrees files (xs ++ ys))
told-both None xs ys h k = tt
told-both (Some files) xs ys h k = agrees-both files xs ys h k

told-first : (told : Option Files) (xs ys : List Read) → IfSome told (λ files. Agrees files (xs ++ ys)) → IfSome told (λ files. Agrees files xs)
told-first None xs ys h = tt
told-first (Some files) xs ys h = agrees-first files xs ys h

told-rest : (told : Option Files) (xs ys : List Read) → IfSome told (λ files. Agrees files (xs ++ ys)) → IfSome told (λ files. Agrees files ys)
told-rest None xs ys h = tt
told-rest (Some files) xs ys h = agrees-rest files xs ys h

told-none : (told : Option Files) → IfSome told (λ files. Agrees files [])
told-none None = tt
told-none (Some files) = tt

-- ---- going on

pub reads_same : {told : Option Files} {reads : List Read} → ReadsOn told reads reads
reads_same {told = told} = record { more = []; reads = refl; agrees = told-none told }

-- two parts are one
pub reads-both : (told : Option Files) (a b c : List Read) → ReadsOn told a b → ReadsOn told b c → ReadsOn told a c
reads-both told a b c h k = record {
  more = k.more ++ h.more;
  reads = k.reads ∙ ap (λ xs. k.more ++ xs) h.reads ∙ sym (append_assoc k.more h.more a);
  agrees = told-both told k.more h.more k.agrees h.agrees;
}

-- what agrees with the whole agrees with its parts
between : (told : Option Files) (a b c xs ys zs : List Read) → b ≡ xs ++ a → c ≡ ys ++ b → c ≡ zs ++ a → zs ≡ ys ++ xs
between told a b c xs ys zs e f g = append_cancel_right zs (ys ++ xs) a (sym g ∙ f ∙ ap (λ us. ys ++ us) e ∙ sym (append_assoc ys xs a))

pub reads-first : (told : Option Files) (m n : Option Files) (a b c : List Read) → ReadsOn m a b → ReadsOn n b c → ReadsOn told a c → ReadsOn told a b
reads-first told m n a b c h k w = record {
  more = h.more;
  reads = h.reads;
  agrees = told-rest told k.more h.more (subst (λ xs. IfSome told (λ files. Agrees files xs)) (between told a b c h.more k.more w.more h.reads k.reads w.reads) w.agrees);
}

pub reads-rest : (told : Option Files) (m n : Option Files) (a b c : List Read) → ReadsOn m a b → ReadsOn n b c → ReadsOn told a c → ReadsOn told b c
reads-rest told m n a b c h k w = record {
  more = k.more;
  reads = k.reads;
  agrees = told-first told k.more h.more (subst (λ xs. IfSome told (λ files. Agrees files xs)) (between told a b c h.more k.more w.more h.reads k.reads w.reads) w.agrees);
}

pub reads_then : {m n : Option Files} {a b c : List Read} → n ≡ m → ReadsOn m a b → ReadsOn n b c → ReadsOn m a c
reads_then {m = m} {a = a} {b = b} {c = c} e h k = reads-both m a b c h (subst (λ o. ReadsOn o b c) e k)

pub reads_parts : {m n : Option Files} {files : Files} {a b c : List Read} → ReadsOn m a b → ReadsOn n b c → AgreesSince files a c → AgreesSince files a b × AgreesSince files b c
reads_parts {m = m} {n = n} {files = files} {a = a} {b = b} {c = c} h k w = (reads-first (Some files) m n a b c h k w, reads-rest (Some files) m n a b c h k w)

-- ---- a fetch

one-more : (told : Option Files) (name : List ℕ) (answer : Answer) (old : List Read) → IfSome told (λ files. IsAnswer (file_in files name) answer) → ReadsOn told old (read name answer ∷ old)
one-more None name answer old h = record { more = read name answer ∷ []; reads = refl; agrees = tt }
one-more (Some files) name answer old h = record { more = read name answer ∷ []; reads = refl; agrees = (h, tt) }

going-on : (told : Option Files) (name : List ℕ) (limit : ℕ) (r : Result (Vec ℕ Global) FetchFault) (old : List Read) → IfSome told (λ files. Answers (file_in files name) limit r) → ReadsOn told old (answered name limit r old)
going-on told name limit (Ok bytes) old h = one-more told name (whole bytes.items) old h
going-on told name limit (Err fault.Missing) old h = one-more told name absent old h
going-on told name limit (Err fault.Failed) old h = one-more told name failed old h
going-on told name limit (Err fault.TooLarge) old h = one-more told name (longer limit) old h
going-on told name limit (Err fault.NoMemory) old h = reads_same

-- files that answer so agree with what is read then
pub reads-answered : (told : Option Files) (name : List ℕ) (limit : ℕ) (r : Result (Vec ℕ Global) FetchFault) (old new : List Read) → new ≡ answered name limit r old
    → IfSome told (λ files. Answers (file_in files name) limit r) → ReadsOn told old new
reads-answered told name limit r old new e h = subst (ReadsOn told old) (sym e) (going-on told name limit r old h)

last-answer : (files : Files) (name : List ℕ) (answer : Answer) (old : List Read) → AgreesSince files old (read name answer ∷ old) → IsAnswer (file_in files name) answer
last-answer files name answer old w =
    let one : w.more ≡ read name answer ∷ [] = append_cancel_right w.more (read name answer ∷ []) old (sym w.reads) in
    let both : Agrees files (read name answer ∷ []) = subst (Agrees files) one w.agrees in
    both.0

answers : (files : Files) (name : List ℕ) (limit : ℕ) (r : Result (Vec ℕ Global) FetchFault) (old : List Read) → AgreesSince files old (answered name limit r old) → Answers (file_in files name) limit r
answers files name limit (Ok bytes) old w = last-answer files name (whole bytes.items) old w
answers files name limit (Err fault.Missing) old w = last-answer files name absent old w
answers files name limit (Err fault.Failed) old w = tt
answers files name limit (Err fault.TooLarge) old w = last-answer files name (longer limit) old w
answers files name limit (Err fault.NoMemory) old w = tt

-- files that agree with what is read then answer so
pub read-answers : (files : Files) (name : List ℕ) (limit : ℕ) (r : Result (Vec ℕ Global) FetchFault) (old new : List Read) → new ≡ answered name limit r old → AgreesSince files old new → Answers (file_in files name) limit r
read-answers files name limit r old new e w = answers files name limit r old (subst (AgreesSince files old) e w)

-- what is said of all files that agree is said of those that are told, where these agree
pub of-told : (told : Option Files) (old new : List Read) (P : Files → Type 0) → ReadsOn told old new → ((files : Files) → AgreesSince files old new → P files) → IfSome told P
of-told None old new P h k = tt
of-told (Some files) old new P h k = k files h
