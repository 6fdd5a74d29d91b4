use Rattle.std.proofs.Common.{arith, subst, sym}
use Rattle.formula_core.specs.GroundLists.{IsGrown}
use Rattle.tableau_cert.proofs.SteppingLaws.{grown-none}
use Rattle.tableau_cert.proofs.resolving.table_of.Goals as goal

pub returns : goal.returns
returns c = let ls = c.args.given.now in let n = c.len-count.ensures.len in let m = c.len-count.ensures.most in
    subst (IsGrown ls) (sym c.in_ok-table.ensures) (grown-none ls (omega (arith, n, m)))
