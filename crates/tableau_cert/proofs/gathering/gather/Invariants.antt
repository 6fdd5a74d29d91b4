use Rattle.std.proofs.Common.{◌≡◌, reverse}
use Rattle.formula_core.specs.GroundLists.{IsGrown}
use Rattle.tableau_cert.specs.Gathering.{AreNormal, AreNormalLiterals, AreWaiting, gathered_all, gathered_instance, open_tasks, the_supply}
use Rattle.tableau_cert.specs.WayView.{IsNormalWay, the_way}
use Rattle.tableau_cert.proofs.WalkingLaws.{state_of, tasks_size}
use Rattle.tableau_cert.proofs.gathering.gather.Given as goal

-- What is gathered, and what the open parts give after it.

abbrev pub invariant-loop-task : goal.invariant-loop-task
invariant-loop-task l = record {
  same : gathered_all l.problem l.logic (open_tasks l.table (the_way l.way) (reverse l.tasks.items)) (state_of l.given l.table l.literals l.allowed l.steps l.rest) ≡ gathered_instance l.problem (the_supply l.given l.fn.supply);
  way : IsNormalWay l.table (the_way l.way);
  tasks : AreWaiting l.table (the_way l.way) (reverse l.tasks.items);
  literals : AreNormalLiterals l.table l.literals;
  values : AreNormal l.given l.rest;
  grown : IsGrown l.initial.table l.table;
}

abbrev pub decreases-loop-task : goal.decreases-loop-task
decreases-loop-task l = tasks_size (reverse l.tasks.items)
