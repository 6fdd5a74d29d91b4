use Rattle.std.proofs.Common.{subst}
use Rattle.store_theory.proofs.BindingLaws.{ends-once}
use Rattle.tableau_reading.specs.Waiting.{IsMade}
use Rattle.tableau_reading.proofs.MakingLaws.{end-made, end-there}
use Rattle.tableau_reading.proofs.ReadingLaws.{end-of}
use Rattle.tableau_reading.proofs.grounds.Grounds.ground_of.Goals as goal

pub make-requires-clause-end : goal.make-requires-clause-end
make-requires-clause-end c = end-of c.args.store.now.store c.args.r.0 c.walk-end.result.0 c.walk-end.ensures.ends

pub returns-clause-ground : goal.returns-clause-ground
returns-clause-ground c = λ σ sp. end-made c.args.store.now.store c.args.homes.now c.make.new.self c.args.r.0 c.walk-end.result.0 c.in-Some.ground c.at.result σ c.in_ok-make.ensures.reading c.walk-end.ensures.ends c.in-Some.is c.at.ensures sp

pub returns-clause-made : goal.returns-clause-made
returns-clause-made c = λ e w. subst (IsMade c.make.new.self) (ends-once c.args.store.now.store c.args.r.0 c.walk-end.result.0 e c.walk-end.ensures.ends w) c.in_ok-make.ensures.made

pub unreachable-requires : goal.unreachable-requires
unreachable-requires c = end-there c.make.new.self c.walk-end.result.0 c.at.result c.in-None.is c.at.ensures c.in_ok-make.ensures.made
