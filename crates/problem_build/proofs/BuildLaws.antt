-- What the walk answers and the problem of its formulas, put together.
use Rattle.std.proofs.Common.{◌≡◌, ℕ, List, Bool, true, Option, None, Some, length, refl, sym, ◌∙◌, ap, subst}
use Rattle.std.specs.Prelude.{IfErr, IfOk, IfSome, Result, Ok, Err}
use Rattle.std.specs.Option.{option_map_or}
use Rattle.std.proofs.lemmas.Bool.{false≢true}
use Rattle.calculus.specs.Problems.{is_modal}
use Rattle.calculus.specs.Syntax.{Setting, Problem}
use Rattle.cop_base.specs.Outside.{Files, file_in}
use Rattle.cop_base.specs.Reads.{Read}
use Rattle.tptp_reader.specs.Sources.{Name}
use Rattle.problem_build.specs.declared.fault.Cause.TheVariants.{NoFormula}
use Rattle.problem_build.specs.declared.fault.BuildFault.{BuildFault}
use Rattle.problem_build.specs.declared.fault.BuildFault.TheVariants.{Missing, Failed}
use Rattle.problem_build.specs.Answers.{refused, the_answer, the_refusal}
use Rattle.problem_build.specs.Building.{IsExactReader, IsProblemOf, WalkFetches, no_formula, problem_of, without}
use Rattle.problem_build.specs.Fetching.{ReadsOnly}
use Rattle.problem_build.specs.Occurring.{HasItsSymbols}
use Rattle.problem_build.specs.Outside.{is_inside}
use Rattle.problem_build.specs.Refusals.{Refusal, bad, missing}
use Rattle.problem_build.specs.Walk.{Passed, Reader, Walked, go_on, walk}
use Rattle.problem_build.proofs.ConjectureLaws.{one-conjecture}
use Rattle.problem_build.proofs.FetchingLaws.{only-wider}
use Rattle.problem_build.proofs.StandingLaws.{problem-stands}
use Rattle.problem_build.proofs.OneProblem.{exact_reading, exact_reading-exact, one-problem}

-- what follows of a value that may be there
pub if-some : {A : Type 0} (o : Option A) (P Q : A → Type 0) → ((x : A) → P x → Q x) → IfSome o P → IfSome o Q
if-some None P Q next h = h
if-some (Some x) P Q next h = next x h

pub if-both : {A : Type 0} (o : Option A) (P Q R : A → Type 0) → ((x : A) → P x → Q x → R x) → IfSome o P → IfSome o Q → IfSome o R
if-both None P Q R next h k = h
if-both (Some x) P Q R next h k = next x h k

-- the walk ends well with these formulas
abbrev pub Passes : Files → (name root : Name) → Bool → List Passed → Type 0
Passes files name root modal passed = (read : Reader) → IsExactReader modal read → (w : Walked) × (walk read files name root ≡ Ok w) × (w.progress.passed ≡ passed)

abbrev pub Refuses : Files → (name root : Name) → Bool → Refusal → Type 0
Refuses files name root modal r = (read : Reader) → IsExactReader modal read → walk read files name root ≡ Err r

pub built : (files : Files) (name root : Name) (s : Setting) (n : ℕ) (passed : List Passed) (r : Result Problem Refusal) → Passes files name root (is_modal s.logic) passed
    → option_map_or length (file_in files name) 0 ≡ n → r ≡ problem_of (bad name n NoFormula) s passed → IsProblemOf files name root s r
built files name root s n passed r h k e =
    let p = h (exact_reading (is_modal s.logic)) (exact_reading-exact (is_modal s.logic)) in (
      exact_reading (is_modal s.logic),
      exact_reading-exact (is_modal s.logic),
      ap (λ o. go_on o (λ w. problem_of (no_formula files name) s w.progress.passed)) p.1
          ∙ ap (problem_of (no_formula files name) s) p.2 ∙ ap (λ m. problem_of (bad name m NoFormula) s passed) k ∙ sym e,
    )

pub unbuilt : (files : Files) (name root : Name) (s : Setting) (r : Refusal) → Refuses files name root (is_modal s.logic) r → IsProblemOf files name root s (Err r)
unbuilt files name root s r h = (
  exact_reading (is_modal s.logic),
  exact_reading-exact (is_modal s.logic),
  ap (λ o. go_on o (λ w. problem_of (no_formula files name) s w.progress.passed)) (h (exact_reading (is_modal s.logic)) (exact_reading-exact (is_modal s.logic))),
)

pub fetches : (files : Files) (name root : Name) (s : Setting) (n : Name)
    → ((read : Reader) → IsExactReader (is_modal s.logic) read → walk read (without n files) name root ≡ Err (missing n)) → WalkFetches files name root s n
fetches files name root s n h = (exact_reading (is_modal s.logic), exact_reading-exact (is_modal s.logic), h (exact_reading (is_modal s.logic)) (exact_reading-exact (is_modal s.logic)))

-- and nothing else is
pub only : (files : Files) (name root : Name) (s : Setting) (r : Result Problem Refusal) → IsProblemOf files name root s r
    → (other : Result Problem Refusal) → IsProblemOf files name root s other → other ≡ r
only files name root s r h other k = one-problem files name root s other r k h

-- ---- over a library that tells its files

-- the reader of the setting's language
exact : (modal : Bool) (s : Setting) (read : Reader) → modal ≡ is_modal s.logic → IsExactReader (is_modal s.logic) read → IsExactReader modal read
exact modal s read e h = subst (λ m. IsExactReader m read) (sym e) h

pub answered-refusal : (told : Option Files) (name root : Name) (s : Setting) (fault : BuildFault) (modal : Bool) → modal ≡ is_modal s.logic
    → IfSome told (λ files. (read : Reader) → IsExactReader modal read → IfSome (the_refusal fault) (λ r. walk read files name root ≡ Err r))
    → IfSome told (λ files. IfSome (refused (the_refusal fault)) (λ r. IsProblemOf files name root s r))
answered-refusal told name root s fault modal e h =
    if-some told (λ files. (read : Reader) → IsExactReader modal read → IfSome (the_refusal fault) (λ r. walk read files name root ≡ Err r))
    (λ files. IfSome (refused (the_refusal fault)) (λ r. IsProblemOf files name root s r)) (λ files k. by (the_refusal fault) files k) h
  where
    by : (o : Option Refusal) (files : Files) → ((read : Reader) → IsExactReader modal read → IfSome o (λ r. walk read files name root ≡ Err r))
        → IfSome (refused o) (λ r. IsProblemOf files name root s r)
    by None files k = tt
    by (Some r) files k = unbuilt files name root s r (λ read x. k read (exact modal s read e x))

pub answered-problem : (told : Option Files) (name root : Name) (s : Setting) (n : ℕ) (passed : List Passed) (o : Option (Result Problem Refusal)) (modal : Bool) → modal ≡ is_modal s.logic
    → IfSome told (λ files. (read : Reader) → IsExactReader modal read → (w : Walked) × (walk read files name root ≡ Ok w) × (w.progress.passed ≡ passed))
    → IfSome told (λ files. option_map_or length (file_in files name) 0 ≡ n)
    → IfSome o (λ r. r ≡ problem_of (bad name n NoFormula) s passed)
    → IfSome told (λ files. IfSome o (λ r. IsProblemOf files name root s r))
answered-problem told name root s n passed o modal e h l k =
    if-both told (λ files. (read : Reader) → IsExactReader modal read → (w : Walked) × (walk read files name root ≡ Ok w) × (w.progress.passed ≡ passed))
    (λ files. option_map_or length (file_in files name) 0 ≡ n) (λ files. IfSome o (λ r. IsProblemOf files name root s r))
    (λ files p q. if-some o (λ r. r ≡ problem_of (bad name n NoFormula) s passed) (λ r. IsProblemOf files name root s r)
    (λ r t. built files name root s n passed r (λ read x. p read (exact modal s read e x)) q t) k) h l

pub answered-alone : (told : Option Files) (name root : Name) (s : Setting) (o : Option (Result Problem Refusal))
    → IfSome told (λ files. IfSome o (λ r. IsProblemOf files name root s r))
    → IfSome told (λ files. IfSome o (λ r. (other : Result Problem Refusal) → IsProblemOf files name root s other → other ≡ r))
answered-alone told name root s o h =
    if-some told (λ files. IfSome o (λ r. IsProblemOf files name root s r))
    (λ files. IfSome o (λ r. (other : Result Problem Refusal) → IsProblemOf files name root s other → other ≡ r))
    (λ files k. if-some o (λ r. IsProblemOf files name root s r) (λ r. (other : Result Problem Refusal) → IsProblemOf files name root s other → other ≡ r)
    (λ r p. only files name root s r p) k) h

-- the symbols of a problem stand in its formula
symbols-stand : (files : Files) (name root : Name) (s : Setting) (P : Problem) → IsProblemOf files name root s (Ok P) → HasItsSymbols P
symbols-stand files name root s P h = by (walk h.0 files name root) refl h.2
  where
    by : (o : Result Walked Refusal) → walk h.0 files name root ≡ o → go_on o (λ w. problem_of (no_formula files name) s w.progress.passed) ≡ Ok P → HasItsSymbols P
    by (Err r) e k = absurd (cc)
    by (Ok w) e k = problem-stands (no_formula files name) s w.progress.passed P (one-conjecture h.0 files name root w e) k

pub answered-symbols : (told : Option Files) (name root : Name) (s : Setting) (r : Result Problem BuildFault)
    → IfSome told (λ files. IfSome (the_answer r) (λ x. IsProblemOf files name root s x)) → IfSome told (λ files. IfOk r (λ p. HasItsSymbols p))
answered-symbols told name root s (Err f) h =
    if-some told (λ files. IfSome (the_answer (Err f)) (λ x. IsProblemOf files name root s x)) (λ files. IfOk (Err f) (λ p. HasItsSymbols p)) (λ files k. tt) h
answered-symbols told name root s (Ok P) h =
    if-some told (λ files. IsProblemOf files name root s (Ok P)) (λ files. HasItsSymbols P) (λ files k. symbols-stand files name root s P k) h

pub answered-fetch : (told : Option Files) (name root : Name) (s : Setting) (n : Name) (modal : Bool) → modal ≡ is_modal s.logic
    → IfSome told (λ files. (read : Reader) → IsExactReader modal read → walk read (without n files) name root ≡ Err (missing n))
    → IfSome told (λ files. WalkFetches files name root s n)
answered-fetch told name root s n modal e h =
    if-some told (λ files. (read : Reader) → IsExactReader modal read → walk read (without n files) name root ≡ Err (missing n))
    (λ files. WalkFetches files name root s n) (λ files k. fetches files name root s n (λ read x. k read (exact modal s read e x))) h

-- each file that is read is one that the walk fetches
pub reads-fetched : (files : Files) (name root : Name) (s : Setting) (modal : Bool) (old new : List Read) → modal ≡ is_modal s.logic
    → ((read : Reader) → IsExactReader modal read → ReadsOnly (λ n. walk read (without n files) name root ≡ Err (missing n)) old new) → ReadsOnly (WalkFetches files name root s) old new
reads-fetched files name root s modal old new e h =
    let is_exact = exact_reading-exact (is_modal s.logic) in
    only-wider (λ n k. (exact_reading (is_modal s.logic), is_exact, k)) (h (exact_reading (is_modal s.logic)) (exact modal s (exact_reading (is_modal s.logic)) e is_exact))

-- ---- faults of the outside

pub not-missing : {T : Type 0} (r : Result T BuildFault) (n : Name) → IfErr r (λ f. is_inside f ≡ true) → r ≡ Err (Missing n) → ⊥
not-missing (Ok p) n h e = cc
not-missing (Err f) n h e = let same : f ≡ Missing n = cc in false≢true (sym (ap is_inside same) ∙ h)

pub not-failed : {T : Type 0} (r : Result T BuildFault) (n : Name) → IfErr r (λ f. is_inside f ≡ true) → r ≡ Err (Failed n) → ⊥
not-failed (Ok p) n h e = cc
not-failed (Err f) n h e = let same : f ≡ Failed n = cc in false≢true (sym (ap is_inside same) ∙ h)
