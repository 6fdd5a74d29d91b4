use Rattle.std.proofs.Common.{◌++◌, append-nil, ap, arith, length, map, subst, sym, take, ◌∙◌, ◌≡◌, ◌≤◌, ◌+◌}
use Rattle.std.proofs.lemmas.List.{length-map}
use Rattle.formula_core.proofs.GrownLaws.{grown-both}
use Rattle.search_theory.specs.States.{literal_by}
use Rattle.term_store.specs.ClauseView.{the_atom}
use Rattle.tableau_reading.specs.Reading.{AreLiteralsOf}
use Rattle.tableau_reading.proofs.BuiltLaws.{literals-all, literals-grown, literals-next}
use Rattle.tableau_reading.proofs.GroundLaws.{grown-self}
use Rattle.tableau_reading.proofs.ReadingLaws.{atom-below, viewed}
use Rattle.tableau_reading.proofs.reading.add_literals.Goals as goal

pub loop-i-init : goal.loop-i-init
loop-i-init c = record { literals = λ σ sp ys h. subst (AreLiteralsOf c.args.grounds.now.table c.args.literals.now) (sym (append-nil ys)) h; reading = c.requires.reading; grown = grown-self c.args.grounds.now.table c.requires.reading.most }

pub literal_of-requires-clause-below : goal.literal_of-requires-clause-below
literal_of-requires-clause-below c = atom-below (length c.args.from.now.store.now.store.cells) (map the_atom c.args.atoms.now) c.loop-i.i (the_atom c.index-atoms-i.result) c.requires.below (viewed the_atom c.args.atoms.now c.loop-i.i c.index-atoms-i.result (omega arith) c.index-atoms-i.is)

pub loop-i-preserved : goal.loop-i-preserved
loop-i-preserved c = record {
  literals = λ σ sp ys h.
      let atoms = map the_atom c.args.atoms.now in
      let table = c.literal_of.new.grounds.table in
      subst (λ xs. AreLiteralsOf table xs (ys ++ map (literal_by σ) (take (c.loop-i.i + 1) atoms))) (sym c.in_ok-push.ensures.ok)
      (literals-next table σ atoms c.loop-i.i (the_atom c.index-atoms-i.result) c.loop-i.literals ys c.in_ok-literal.literal (viewed the_atom c.args.atoms.now c.loop-i.i c.index-atoms-i.result (omega arith) c.index-atoms-i.is) (literals-grown c.loop-i.grounds.table table c.in_ok-literal.ensures.grown c.loop-i.literals (ys ++ map (literal_by σ) (take c.loop-i.i atoms)) (c.loop-i.invariant.literals σ sp ys h)) (c.in_ok-literal.ensures.literal σ sp));
  reading = c.in_ok-literal.ensures.reading;
  grown = grown-both _ _ _ c.loop-i.invariant.grown c.in_ok-literal.ensures.grown;
}

pub returns-clause-literals : goal.returns-clause-literals
returns-clause-literals c = λ σ sp ys h. literals-all c.loop-i.grounds.table σ (map the_atom c.args.atoms.now) c.loop-i.i c.loop-i.literals ys (let n = length-map c.args.atoms.now the_atom in omega (arith, n)) (c.loop-i.invariant.literals σ sp ys h)
