use Rattle.std.proofs.Common.{◌∙◌, ap, sym}
use Rattle.tptp_reader.specs.SourceView.{the_source}
use Rattle.problem_build.specs.Adding.{with_new}
use Rattle.problem_build.specs.Expansion.{free_in, same_name}
use Rattle.problem_build.proofs.AddingLaws.{both-free, sources-step}
use Rattle.problem_build.proofs.variables.+add_free.Goals as goal

pub loop-unit-preserved : goal.loop-unit-preserved
loop-unit-preserved t c = (
  c.in_ok-add_free-in-Chain.ensures.bound ∙ c.loop-unit.invariant.0,
  sources-step c.items-unit-items.result.now c.loop-unit.unit-index c.unit-item.result c.loop-unit.found c.add_free-in-loop-unit.new.found c.args.bound.now.items
      c.loop-unit-test.true c.unit-item.is
      (c.in_ok-add_free-in-Chain.ensures.found ∙ ap (λ b. with_new same_name c.loop-unit.found (free_in b (the_source c.unit-item.result))) c.loop-unit.invariant.0)
      ∙ c.loop-unit.invariant.1,
)

pub returns-in_ok-add_free-in-Binary-2-clause-found : goal.returns-in_ok-add_free-in-Binary-2-clause-found
returns-in_ok-add_free-in-Binary-2-clause-found t c =
    both-free c.args.bound.now.items c.add_free.new.bound.items c.args.found.now c.add_free.new.found c.add_free-in-Binary.new.found
    (the_source c.get.result.now) (the_source c.get-in-Binary.result.now) c.in-Binary.a c.in-Binary.b
    c.in_ok-add_free-in-Binary.ensures.found c.in_ok-add_free-in-Binary.ensures.bound c.in_ok-add_free-in-Binary-2.ensures.found c.get.ensures c.get-in-Binary.ensures
    ∙ ap (λ s. with_new same_name c.args.found.now (free_in c.args.bound.now.items (the_source s))) (sym c.in-Binary.is)
