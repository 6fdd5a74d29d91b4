use Rattle.std.proofs.Common.{sym, ◌∙◌, refl, arith}
use Rattle.plain_laws.proofs.Places.{get-there}
use Rattle.formula_text.proofs.Passing.{error-passed}
use Rattle.formula_core.specs.SymbolView.{the_symbol}
use Rattle.finite_model.proofs.CheckLaws.{predicate-broken, predicate-held, predicate-passed}
use Rattle.finite_model.proofs.PersistenceLaws.{has-rows}
use Rattle.finite_model.proofs.persistence.check_symbol.Goals as goal

pub returns-then-is_function-clause-ok : goal.returns-then-is_function-clause-ok
returns-then-is_function-clause-ok c = let x = (get-there c.args.symbols.now c.args.id.0 c.requires.there) in sym (predicate-passed c.args.s.now c.args.symbols.now c.args.line c.args.id.0 x.0 c.is_function.result _ x.1 (c.is_function.ensures x.0 x.1) c.if-is_function.true refl)

pub check_predicate-requires-clause-rows : goal.check_predicate-requires-clause-rows
check_predicate-requires-clause-rows c = has-rows c.args.s.now c.args.symbols.now c.args.id.0 c.get.result.now.arity (the_symbol c.get.result.now) c.is_function.result c.requires.range c.requires.tables c.get.ensures refl (c.is_function.ensures _ c.get.ensures) c.if-is_function.false

pub returns-in_err-check_predicate-clause-bad : goal.returns-in_err-check_predicate-clause-bad
returns-in_err-check_predicate-clause-bad c = λ place why e. predicate-broken c.args.s.now c.args.symbols.now c.args.line c.args.id.0 c.get.result.now.arity place why (the_symbol c.get.result.now) c.is_function.result _ c.get.ensures (c.is_function.ensures _ c.get.ensures) c.if-is_function.false refl (c.in_err-check_predicate.ensures.bad place why (error-passed c.from_residual.result c.in_err-check_predicate.field-0.0 _ c.from_residual.ensures.1 e)) refl

pub returns-clause-ok : goal.returns-clause-ok
returns-clause-ok c = sym (predicate-held c.args.s.now c.args.symbols.now c.args.line c.args.id.0 c.get.result.now.arity c.from.result (the_symbol c.get.result.now) c.is_function.result _ c.get.ensures (c.is_function.ensures _ c.get.ensures) c.if-is_function.false refl (c.from.ensures ∙ c.worlds.ensures.count) c.in_ok-check_predicate.ensures.ok refl)

pub returns-clause-few : goal.returns-clause-few
returns-clause-few c = omega (arith, c.from.ensures, c.worlds.ensures.few)
