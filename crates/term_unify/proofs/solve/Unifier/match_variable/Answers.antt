use Rattle.std.proofs.Common.{length}
use Rattle.store_theory.specs.Bindings.{nothing_more}
use Rattle.store_theory.specs.Patterns.{p_var}
use Rattle.term_store.specs.RefView.{the_places}
use Rattle.term_unify.proofs.MatchCells.{adds-bound, names-variable, value-below, within-bound}
use Rattle.term_unify.proofs.MatchLaws.{narrows-copy, nowhere-copy}
use Rattle.term_unify.proofs.SameLaws.{place-below}
use Rattle.term_unify.proofs.solve.Unifier.match_variable.Goals as goal

-- a variable is its own copy

pub unify_newer-requires-clause-right : goal.unify_newer-requires-clause-right
unify_newer-requires-clause-right c = place-below (length c.args.store.now.store.cells) (the_places c.args.variables) c.args.k c.variable-variable.result.0 (value-below c.args.store.now.store (the_places c.args.variables) c.requires.values) c.variable-variable.ensures

pub returns-clause-met : goal.returns-clause-met
returns-clause-met c = λ t. narrows-copy c.args.store.now.store c.args.store.now.store c.unify_newer.new.store.store (the_places c.args.variables) c.args.cell.0 c.variable-variable.result.0 (p_var c.args.k) nothing_more c.variable-variable.ensures c.requires.values (value-below c.args.store.now.store (the_places c.args.variables) c.requires.values) c.requires.cell (c.in_ok-equal.ensures.unifies t) c.unify_newer.ensures.binds.same_length

pub returns-clause-apart : goal.returns-clause-apart
returns-clause-apart c = λ t. nowhere-copy c.args.store.now.store c.args.store.now.store (the_places c.args.variables) c.args.cell.0 c.variable-variable.result.0 (p_var c.args.k) nothing_more c.variable-variable.ensures c.requires.values (value-below c.args.store.now.store (the_places c.args.variables) c.requires.values) c.requires.cell (c.in_ok-equal.ensures.apart t)

pub returns-clause-within : goal.returns-clause-within
returns-clause-within c = λ t. within-bound (the_places c.args.variables) _ c.args.store.now.store c.args.store.now.store c.unify_newer.new.store.store (λ sorts have g base k l. l) c.unify_newer.ensures.binds

pub returns-clause-cells : goal.returns-clause-cells
returns-clause-cells c = adds-bound c.args.store.now.store c.args.store.now.store c.unify_newer.new.store.store nothing_more c.unify_newer.ensures.binds

pub returns-in_err-equal-clause-cells : goal.returns-in_err-equal-clause-cells
returns-in_err-equal-clause-cells c = adds-bound c.args.store.now.store c.args.store.now.store c.unify_newer.new.store.store nothing_more c.unify_newer.ensures.binds

pub returns-clause-names : goal.returns-clause-names
returns-clause-names c = names-variable (the_places c.args.variables) c.args.k c.args.cell.0 c.variable-variable.result.0 c.args.store.now.store c.unify_newer.new.store.store c.variable-variable.ensures c.unify_newer.ensures.binds c.unify_newer.ensures.within

pub returns-in_err-equal-clause-names : goal.returns-in_err-equal-clause-names
returns-in_err-equal-clause-names c = names-variable (the_places c.args.variables) c.args.k c.args.cell.0 c.variable-variable.result.0 c.args.store.now.store c.unify_newer.new.store.store c.variable-variable.ensures c.unify_newer.ensures.binds c.unify_newer.ensures.within
