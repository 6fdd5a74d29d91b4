use Rattle.std.proofs.Common.{arith}
use Rattle.calculus.specs.Derivations.{SpareName}
use Rattle.derivation_branch.specs.Occurring.{holds}
use Rattle.sequent_calc.specs.NamesView.{the_spare}
use Rattle.derivation_trim.proofs.NameLaws.{kept-end, kept-next}
use Rattle.derivation_trim.proofs.mentioned.spares_among.Goals as goal

pub loop-name-preserved : goal.loop-name-preserved
loop-name-preserved c = let l = c.loop-name in let x = c.name-item.result in
    kept-next the_spare (λ (y : SpareName). holds c.args.numbers.now y.number) c.args.names.now l.name-index x x l.kept c.keep_spare.new.kept _ (omega arith) c.name-item.is c.in_ok-keep_spare.ensures l.invariant

pub returns : goal.returns
returns c = let l = c.loop-name in
    kept-end the_spare (λ (y : SpareName). holds c.args.numbers.now y.number) c.args.names.now l.name-index l.kept _ (omega arith) l.invariant
