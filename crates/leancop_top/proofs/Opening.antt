-- The files that commands read.
use Rattle.std.proofs.Common.{◌≡◌, ℕ, List, Option, String, inl, inr, Result, Vec, subst}
use Rattle.std.specs.declared.alloc.Global.{Global}
use Rattle.cop_base.specs.declared.library.FetchFault.{FetchFault}
use Rattle.cop_base.specs.Outside.{Files}
use Rattle.cop_base.specs.Reads.{Read, AgreesSince, ReadsOn, answered}
use Rattle.cop_base.proofs.ReadLaws.{reads_parts}
use Rattle.command_line.specs.CommandLine.{ProblemFile, asked}
use Rattle.command_line.specs.Table.{Word}
use Rattle.problem_build.specs.Building.{WalkFetches}
use Rattle.problem_build.specs.Fetching.{ReadsOnly}
use Rattle.problem_build.proofs.FetchingLaws.{fetched_only, only-both, only-wider}
use Rattle.leancop_top.specs.Opening.{IsOfBoth, IsOfProblem, MayRead}

-- the words of a command and the texts made of them
pub problem-read : (p : ProblemFile) (name root : List ℕ) (files : Files) (old new : List Read) → name ≡ p.name → root ≡ p.root
    → ReadsOnly (WalkFetches files name root p.setting) old new → ReadsOnly (IsOfProblem files p) old new
problem-read p name root files old new e f h =
    subst (λ r. ReadsOnly (WalkFetches files p.name r p.setting) old new) f (subst (λ n. ReadsOnly (WalkFetches files n root p.setting) old new) e h)

pub second-read : (second name : List ℕ) (limit : ℕ) (r : Result (Vec ℕ Global) FetchFault) (old new : List Read) → name ≡ second → new ≡ answered name limit r old
    → ReadsOnly (λ n. n ≡ second) old new
second-read second name limit r old new e h = subst (λ m. ReadsOnly (λ n. n ≡ m) old new) e (fetched_only name limit r old new h)

-- the problem's files alone
pub first-alone : (p : ProblemFile) (second : Word) (files : Files) {a b : List Read} → ReadsOnly (IsOfProblem files p) a b → ReadsOnly (IsOfBoth files p second) a b
first-alone p second files h = only-wider (λ n k. inl k) h

-- the problem's files, and then the second one
pub both-read : (p : ProblemFile) (second : Word) (files : Files) {m n : Option Files} {a b c : List Read} → ReadsOn m a b → ReadsOn n b c
    → ((files : Files) → AgreesSince files a b → ReadsOnly (IsOfProblem files p) a b) → ReadsOnly (λ name. name ≡ second) b c
    → AgreesSince files a c → ReadsOnly (IsOfBoth files p second) a c
both-read p second files h k first then w = only-both (first-alone p second files (first files (reads_parts h k w).0)) (only-wider (λ n e. inr e) then)

-- the words of a run, as a list or as what it is seen as
pub asked-read : (files : Files) (words same : List (String Global)) {a b : List Read} → words ≡ same → ReadsOnly (MayRead files (asked words)) a b → ReadsOnly (MayRead files (asked same)) a b
asked-read files words same {a} {b} e h = subst (λ ws. ReadsOnly (MayRead files (asked ws)) a b) e h
