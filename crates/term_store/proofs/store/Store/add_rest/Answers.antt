use Rattle.std.proofs.Common.{◌+◌, subst}
use Rattle.store_theory.specs.Patterns.{IsClauseCopy, atom_fits}
use Rattle.term_store.specs.ClauseView.{the_pattern_atom}
use Rattle.term_store.specs.Copying.{with_literals}
use Rattle.term_store.specs.RefView.{the_places}
use Rattle.term_store.specs.TemplateView.{the_clause, the_template}
use Rattle.term_store.proofs.FitLaws.{literals-fit}
use Rattle.term_store.proofs.ListLaws.{all-back, all-front, other-literals}
use Rattle.term_store.specs.Signatures.{BuildsWithin, allows_template}
use Rattle.term_store.proofs.store.Store.add_rest.Goals as goal

pub add_clause-requires-clause-front : goal.add_clause-requires-clause-front
add_clause-requires-clause-front c = all-front the_pattern_atom (atom_fits c.args.t.now.sorts) c.args.place c.items-literals.result.now c.args.t.now.literals c.items-literals.ensures (literals-fit (the_template c.args.t.now) c.requires.template)

pub add_clause-requires-clause-back : goal.add_clause-requires-clause-back
add_clause-requires-clause-back c = all-back the_pattern_atom (atom_fits c.args.t.now.sorts) (c.args.place + 1) c.items-literals.result.now c.args.t.now.literals c.items-literals.ensures (literals-fit (the_template c.args.t.now) c.requires.template)

pub returns-clause-copy : goal.returns-clause-copy
returns-clause-copy c = subst (λ xs. IsClauseCopy c.add_clause.new.self.store (the_places c.args.variables) (with_literals xs (the_template c.args.t.now)) (the_clause c.in_ok-copied.copied)) (other-literals the_pattern_atom c.args.place c.items-literals.result.now c.args.t.now.literals c.items-literals.ensures) c.in_ok-copied.ensures.copy

pub returns-clause-within : goal.returns-clause-within
returns-clause-within c = subst (λ xs. BuildsWithin (λ g. allows_template g (with_literals xs (the_template c.args.t.now))) c.args.self.now.store c.add_clause.new.self.store) (other-literals the_pattern_atom c.args.place c.items-literals.result.now c.args.t.now.literals c.items-literals.ensures) c.in_ok-copied.ensures.within
