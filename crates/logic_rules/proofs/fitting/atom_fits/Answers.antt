use Rattle.logic_rules.proofs.FittingLaws.{atom-then, atom-else}
use Rattle.logic_rules.proofs.fitting.atom_fits.Goals as goal

pub returns-then-has_predicate : goal.returns-then-has_predicate
returns-then-has_predicate c =
    atom-then c.args.symbols.now c.args.depth c.args.p.0 c.len.result c.args.args.now c.has_predicate.result c.terms_fit.result c.has_predicate.ensures c.len.ensures c.terms_fit.ensures c.if-has_predicate.true

pub returns-else-has_predicate : goal.returns-else-has_predicate
returns-else-has_predicate c =
    atom-else c.args.symbols.now c.args.depth c.args.p.0 c.len.result c.args.args.now c.has_predicate.result c.has_predicate.ensures c.len.ensures c.if-has_predicate.false
