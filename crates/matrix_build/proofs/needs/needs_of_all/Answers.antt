use Rattle.std.proofs.Common.{◌+◌, ℕ, List, map, subst, sym, arith}
use Rattle.std.proofs.lemmas.List.{length-map}
use Rattle.matrix_build.specs.MatrixView.{the_clause}
use Rattle.matrix_build.proofs.NeedsLaws.{AreFirstNeeds, none-first, first-pushed, first-all}
use Rattle.matrix_build.proofs.needs.needs_of_all.Goals as goal

pub loop-i-init : goal.loop-i-init
loop-i-init c = none-first c.in_ok-needs.needs.items _ c.in_ok-needs.ensures.items

pub loop-i-preserved : goal.loop-i-preserved
loop-i-preserved c = subst (λ (all : List ℕ). AreFirstNeeds all (map the_clause c.args.clauses.now) (c.loop-i.i + 1)) (sym c.in_ok-push.ensures.items) (first-pushed c.loop-i.needs.items (map the_clause c.args.clauses.now) c.loop-i.i c.needs_at-own.result c.needs_at-own.ensures.0 c.needs_at-own.ensures.1 c.needs_at-own.ensures.2 c.loop-i.invariant)

pub returns : goal.returns
returns c = first-all _ (map the_clause c.args.clauses.now) c.loop-i.i (omega (arith, c.loop-i.auto.i-end, c.loop-i-test.false, length-map c.args.clauses.now the_clause)) c.loop-i.invariant
