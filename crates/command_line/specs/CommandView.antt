-- The values of the definitions that those of the program stand for.
use Rattle.std.specs.Option.{option_map}
use Rattle.logic_rules.specs.SettingView.{the_setting}
use Rattle.command_line.specs.CommandLine as words
use Rattle.command_line.specs.declared.bounds.Bounds.{Bounds}
use Rattle.command_line.specs.declared.request.Command.{Command}
use Rattle.command_line.specs.declared.request.Command.TheVariants as command
use Rattle.command_line.specs.declared.request.GeneratedProblem.{GeneratedProblem}
use Rattle.command_line.specs.declared.request.IntuitionisticFile.{IntuitionisticFile}
use Rattle.command_line.specs.declared.request.ProblemFile.{ProblemFile}

abbrev pub the_problem_file : ProblemFile → words.ProblemFile
the_problem_file p =
    record { name = p.name.now; root = p.root.now; setting = the_setting p.setting }

abbrev pub the_intuitionistic_file : IntuitionisticFile → words.IntuitionisticFile
the_intuitionistic_file p = record { name = p.name.now; root = p.root.now }

abbrev pub the_generated_problem : GeneratedProblem → words.GeneratedProblem
the_generated_problem p =
    record { family = p.family; size = p.size; setting = the_setting p.setting }

abbrev pub the_bounds : Bounds → words.Bounds
the_bounds b = record {
  limit = b.limit.number;
  steps = b.steps;
  cut = option_map (λ l. l.number) b.cut;
}

abbrev pub the_command : Command → words.Command
the_command (command.Prove problem bounds version) =
    words.prove (the_problem_file problem) (the_bounds bounds) version
the_command (command.Check problem derivation) =
    words.check (the_problem_file problem) derivation.now
the_command (command.CheckTranslated problem derivation) =
    words.check_translated (the_intuitionistic_file problem) derivation.now
the_command (command.Transfer problem derivation) =
    words.transfer (the_intuitionistic_file problem) derivation.now
the_command (command.Migrate problem derivation) =
    words.migrate (the_problem_file problem) derivation.now
the_command (command.Make problem bounds) =
    words.make (the_generated_problem problem) (the_bounds bounds)
the_command (command.Model problem structure steps) =
    words.model (the_problem_file problem) structure.now steps
the_command (command.Tableau problem bounds) =
    words.tableau (the_problem_file problem) (the_bounds bounds)
the_command (command.Tcheck problem tableau) =
    words.tcheck (the_problem_file problem) tableau.now
the_command (command.Convert problem tableau) =
    words.convert (the_problem_file problem) tableau.now
the_command (command.Bad place) = words.bad place
