use Rattle.std.proofs.Common.{sym, ◌∙◌, ap, arith}
use Rattle.std.specs.List.{list_all}
use Rattle.finite_model.specs.Conditions.{is_kept}
use Rattle.finite_model.proofs.ArgLaws.{all-on, all-false, all-end}
use Rattle.finite_model.proofs.PersistenceLaws.{successor-below}
use Rattle.finite_model.proofs.persistence.persists_at.Goals as goal

pub loop-other-init : goal.loop-other-init
loop-other-init c = ap (list_all (is_kept c.args.s.now c.args.predicate.0 c.args.arity c.args.world)) c.successors_of-reached.ensures

pub is_kept-requires-clause-other : goal.is_kept-requires-clause-other
is_kept-requires-clause-other c = successor-below c.args.s.now c.args.predicate.0 c.args.arity c.args.world c.loop-other.other-index c.successors_of-reached.result.now c.requires.rows c.successors_of-reached.ensures (omega arith)

pub loop-other-preserved : goal.loop-other-preserved
loop-other-preserved c = sym (all-on (is_kept c.args.s.now c.args.predicate.0 c.args.arity c.args.world) c.successors_of-reached.result.now c.loop-other.other-index (omega arith) (sym c.is_kept.ensures ∙ c.if-not-is_kept.false)) ∙ c.loop-other.invariant

pub returns-then-not-is_kept : goal.returns-then-not-is_kept
returns-then-not-is_kept c = sym (all-false (is_kept c.args.s.now c.args.predicate.0 c.args.arity c.args.world) c.successors_of-reached.result.now c.loop-other.other-index (omega arith) (sym c.is_kept.ensures ∙ c.if-not-is_kept.true)) ∙ c.loop-other.invariant

pub returns : goal.returns
returns c = sym (all-end (is_kept c.args.s.now c.args.predicate.0 c.args.arity c.args.world) c.successors_of-reached.result.now c.loop-other.other-index (omega arith)) ∙ c.loop-other.invariant
