-- What the finder prints.
use Rattle.std.specs.Prelude.{ℕ, List, Ok}
use Rattle.cop_base.specs.Outside.{Files}
use Rattle.calculus.specs.Syntax.{Problem}
use Rattle.command_line.specs.CommandLine.{ProblemFile}
use Rattle.problem_build.specs.Building.{IsProblemOf}
use Rattle.tableau_finder.specs.Found.{IsFoundText}

-- the files hold a problem, and the bytes are the text of a tableau of it that is closed
pub record IsFoundFor (files : Files) (p : ProblemFile) (bytes : List ℕ) : Type 0 where
  pub problem : Problem
  pub held : IsProblemOf files p.name p.root p.setting (Ok problem)
  pub text : IsFoundText problem bytes
