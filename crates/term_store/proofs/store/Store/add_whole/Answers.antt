use Rattle.store_theory.specs.Patterns.{clause_is_from}
use Rattle.store_theory.proofs.BindingLaws.{KeepsMarks-both}
use Rattle.store_theory.proofs.PatternLaws.{KeepsMarks-built}
use Rattle.term_store.specs.ClauseView.{the_pattern_atom}
use Rattle.term_store.specs.RefView.{the_places}
use Rattle.term_store.specs.TemplateView.{the_clause, the_template}
use Rattle.term_store.proofs.FitLaws.{have-new}
use Rattle.term_store.proofs.OwnLaws.{names-new, own-new_variables}
use Rattle.term_store.proofs.SignatureLaws.{within-variables, within-whole}
use Rattle.term_store.specs.Signatures.{allows_template}
use Rattle.term_store.proofs.store.Store.add_whole.Goals as goal

pub add_clause-requires-clause-variables : goal.add_clause-requires-clause-variables
add_clause-requires-clause-variables c = have-new (the_places c.in_ok-variables.variables) c.args.t.now.sorts c.args.self.now.store c.new_variables.new.self.store c.in_ok-variables.ensures.ok c.in_ok-variables.ensures.places

pub returns-in_err-copied-clause-marks : goal.returns-in_err-copied-clause-marks
returns-in_err-copied-clause-marks c = KeepsMarks-both c.args.self.now.store c.new_variables.new.self.store c.add_clause.new.self.store c.in_ok-variables.ensures.marks (KeepsMarks-built c.new_variables.new.self.store c.add_clause.new.self.store c.in_err-copied.ensures.adds.built)

pub returns-clause-own : goal.returns-clause-own
returns-clause-own c = own-new_variables (the_places c.in_ok-variables.variables) c.args.t.now.sorts c.args.self.now.store c.new_variables.new.self.store (λ base. clause_is_from base (the_clause c.in_ok-copied.copied)) c.in_ok-variables.ensures.ok c.in_ok-variables.ensures.places c.in_ok-copied.ensures.own

pub returns-clause-names : goal.returns-clause-names
returns-clause-names c = names-new (the_places c.in_ok-variables.variables) c.args.t.now.sorts c.args.self.now.store c.new_variables.new.self.store c.add_clause.new.self.store c.in_ok-variables.ensures.ok c.in_ok-variables.ensures.places c.in_ok-copied.ensures.adds

pub returns-clause-marks : goal.returns-clause-marks
returns-clause-marks c = KeepsMarks-both c.args.self.now.store c.new_variables.new.self.store c.add_clause.new.self.store c.in_ok-variables.ensures.marks (KeepsMarks-built c.new_variables.new.self.store c.add_clause.new.self.store c.in_ok-copied.ensures.adds.built)

pub returns-clause-within : goal.returns-clause-within
returns-clause-within c = within-variables (λ g. allows_template g (the_template c.args.t.now)) c.args.t.now.sorts c.args.self.now.store c.new_variables.new.self.store c.add_clause.new.self.store c.in_ok-variables.ensures.ok (within-whole the_pattern_atom c.items.result.now (the_template c.args.t.now) c.new_variables.new.self.store c.add_clause.new.self.store c.items.ensures c.in_ok-copied.ensures.within)
