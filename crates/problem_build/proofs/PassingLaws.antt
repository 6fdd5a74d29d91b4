-- Which formulas pass, and which names an include selects.
use Rattle.std.proofs.Common.{◌≡◌, ℕ, List, [], ◌∷◌, ◌++◌, map, Bool, true, Ok, Err, IfSome, if◌then◌else◌, sym, ◌∙◌, ap}
use Rattle.std.proofs.lemmas.List.{map-append}
use Rattle.tptp_reader.specs.SourceView.{the_source}
use Rattle.tptp_reader.specs.Sources.{Name, Source}
use Rattle.problem_build.specs.declared.fault.BuildFault.{BuildFault}
use Rattle.problem_build.specs.declared.passed.Passed as program
use Rattle.problem_build.specs.Answers.{the_refusal}
use Rattle.problem_build.specs.Passing.{the_passed}
use Rattle.problem_build.specs.Walk.{Passed, Progress, passed_on, passes, with_passed}
use Rattle.problem_build.proofs.WalkLaws.{if-some, judged}

-- ---- formulas

pub by-role : (lists : List (List Name)) (file name role : Name) (role_at : ℕ) (body : Source) (start : ℕ) (p : Progress) → passes lists name ≡ true
    → judged lists file name role role_at body start p ≡ passed_on file role role_at body start p
by-role lists file name role role_at body start p e = ap (λ (b : Bool). if b then passed_on file role role_at body start p else Ok p) e

pub by-role-refused : (lists : List (List Name)) (file name role : Name) (role_at : ℕ) (body : Source) (start : ℕ) (p : Progress) → passes lists name ≡ true
    → (fault : BuildFault) → IfSome (the_refusal fault) (λ r. passed_on file role role_at body start p ≡ Err r) → IfSome (the_refusal fault) (λ r. judged lists file name role role_at body start p ≡ Err r)
by-role-refused lists file name role role_at body start p e fault h = if-some (the_refusal fault) (λ r k. by-role lists file name role role_at body start p e ∙ k) h

abbrev progress : ℕ → List Passed → Progress
progress bytes passed = record { bytes = bytes; passed = passed }

added-seen : (old new : List program.Passed) (added : program.Passed) → new ≡ old ++ added ∷ [] → map the_passed old ++ the_passed added ∷ [] ≡ map the_passed new
added-seen old new added e = sym (ap (map the_passed) e ∙ map-append the_passed old (added ∷ []))

pub formula-added : (bytes : ℕ) (old new : List program.Passed) (added : program.Passed) → new ≡ old ++ added ∷ []
    → with_passed (progress bytes (map the_passed old)) added.is_conjecture (the_source added.body) ≡ progress bytes (map the_passed new)
formula-added bytes old new added e = ap (progress bytes) (added-seen old new added e)
