-- What is found is of the problem that the files hold.
use Rattle.std.proofs.Common.{◌≡◌, ℕ, List, Result, Ok, subst}
use Rattle.std.proofs.lemmas.Result.{IfOk-weaker}
use Rattle.std.specs.Prelude.{IfOk, IfSome}
use Rattle.cop_base.specs.Outside.{Files}
use Rattle.cop_base.specs.Reads.{AgreesSince, Read}
use Rattle.calculus.specs.Syntax.{Problem}
use Rattle.command_line.specs.CommandLine.{Bounds, Command, ProblemFile, tableau}
use Rattle.problem_build.specs.Answers.{the_answer}
use Rattle.problem_build.specs.Building.{IsProblemOf}
use Rattle.problem_build.specs.declared.fault.BuildFault.{BuildFault}
use Rattle.leancop_find.specs.Finding.{IsFoundFor}
use Rattle.leancop_find.specs.declared.answer.FindAnswer.{FindAnswer}
use Rattle.tableau_finder.specs.Found.{IsFoundText}

abbrev built : Problem → Result Problem BuildFault
built problem = Ok problem

-- the text of a find for the problem that was read is one for the file
pub found-for : {E : Type 0} (r : Result FindAnswer E) (before after : List Read) (p : ProblemFile) (name root : List ℕ) (problem : Problem)
    → name ≡ p.name → root ≡ p.root
    → ((files : Files) → AgreesSince files before after → IfSome (the_answer (built problem)) (λ x. IsProblemOf files name root p.setting x))
    → IfOk r (λ a. a.code ≡ 0 → IsFoundText problem a.output.items)
    → IfOk r (λ a. a.code ≡ 0 → (files : Files) → AgreesSince files before after → IsFoundFor files p a.output.items)
found-for r before after p name root problem is_name is_root held found =
    IfOk-weaker r (λ a. a.code ≡ 0 → IsFoundText problem a.output.items) (λ a. a.code ≡ 0 → (files : Files) → AgreesSince files before after → IsFoundFor files p a.output.items)
    (λ a text done files agrees. record {
      problem = problem;
      held = subst (λ x. IsProblemOf files p.name x p.setting (Ok problem)) is_root (subst (λ n. IsProblemOf files n root p.setting (Ok problem)) is_name (held files agrees));
      text = text done;
    }) found

-- it is one for the file that the words name
pub found-by : {E : Type 0} (r : Result FindAnswer E) (before after : List Read) (p : ProblemFile) (b : Bounds) (said : Command)
    → said ≡ tableau p b
    → IfOk r (λ a. a.code ≡ 0 → (files : Files) → AgreesSince files before after → IsFoundFor files p a.output.items)
    → IfOk r (λ a. a.code ≡ 0 → (files : Files) → AgreesSince files before after → (x : ProblemFile) × (y : Bounds) × said ≡ tableau x y × IsFoundFor files x a.output.items)
found-by r before after p b said is found =
    IfOk-weaker r (λ a. a.code ≡ 0 → (files : Files) → AgreesSince files before after → IsFoundFor files p a.output.items) (λ a. a.code ≡ 0 → (files : Files) → AgreesSince files before after → (x : ProblemFile) × (y : Bounds) × said ≡ tableau x y × IsFoundFor files x a.output.items)
    (λ a text done files agrees. (p, b, is, text done files agrees)) found
