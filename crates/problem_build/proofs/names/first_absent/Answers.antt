use Rattle.std.proofs.Common.{◌∙◌, ap}
use Rattle.problem_build.specs.Walk.{first_absent}
use Rattle.problem_build.proofs.NameSetLaws.{absent-same}
use Rattle.problem_build.proofs.names.first_absent.Goals as goal

pub returns : goal.returns
returns c =
    c.first_outside-absent.ensures ∙ ap (λ ns. first_absent ns c.in_ok-reached.reached) c.places.ensures
    ∙ absent-same c.args.list.now c.in_ok-reached.reached c.args.reached.now c.in_ok-reached.ensures
