use Rattle.std.proofs.Common.{map, subst, ◌∙◌}
use Rattle.formula_core.proofs.GrownLaws.{grown-both}
use Rattle.tableau_text.specs.MovesView.{the_move}
use Rattle.tableau_cert.specs.Resolving.{AreClosers}
use Rattle.tableau_cert.proofs.FoundLaws.{outcome-grown}
use Rattle.tableau_cert.proofs.resolving.resolve_over.Goals as goal

pub closers_of-requires-clause-grown : goal.closers_of-requires-clause-grown
closers_of-requires-clause-grown c = grown-both _ _ _ c.requires.grown c.in_ok-start.ensures.grown

pub returns : goal.returns
returns c = let P = c.args.problem.now in let mt = c.args.moves.now.table in let s = c.in_ok-start.ensures in
    let k = subst (λ ms. AreClosers P c.find.new.table c.closers_of.new.table (map (the_move mt) ms) c.in_ok-closers.closers.items) c.as_slice-given_moves.ensures.value c.in_ok-closers.ensures in record {
      start = outcome-grown c.find.new.table c.closers_of.new.table k.grown _ s.normal ∙ s.outcome;
      closers = k.closers;
    }
