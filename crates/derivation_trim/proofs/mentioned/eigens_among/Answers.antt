use Rattle.std.proofs.Common.{arith}
use Rattle.calculus.specs.Derivations.{EigenName}
use Rattle.derivation_branch.specs.Occurring.{holds}
use Rattle.sequent_calc.specs.NamesView.{the_eigen}
use Rattle.derivation_trim.proofs.NameLaws.{kept-end, kept-next}
use Rattle.derivation_trim.proofs.mentioned.eigens_among.Goals as goal

pub loop-name-preserved : goal.loop-name-preserved
loop-name-preserved c = let l = c.loop-name in let x = c.name-item.result in
    kept-next the_eigen (λ (y : EigenName). holds c.args.numbers.now y.number) c.args.names.now l.name-index x x l.kept c.keep_eigen.new.kept _ (omega arith) c.name-item.is c.in_ok-keep_eigen.ensures l.invariant

pub returns : goal.returns
returns c = let l = c.loop-name in
    kept-end the_eigen (λ (y : EigenName). holds c.args.numbers.now y.number) c.args.names.now l.name-index l.kept _ (omega arith) l.invariant
