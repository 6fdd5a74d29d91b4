use Rattle.std.proofs.Common.{sym, ◌∙◌}
use Rattle.finite_model.proofs.TupleLaws.{same-kept}
use Rattle.finite_model.proofs.functions.keeps_next.Goals as goal

pub returns-then-is_met : goal.returns-then-is_met
returns-then-is_met c = λ all. let m = c.is_met.ensures c.if-is_met.true in sym (sym (same-kept c.args.s.now c.args.function.0 c.args.arity m.0 c.args.world m.2) ∙ all m.0 m.1)

pub returns : goal.returns
returns c = λ _. c.in_ok-keeps.ensures
