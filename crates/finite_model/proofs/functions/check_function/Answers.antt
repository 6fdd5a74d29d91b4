use Rattle.std.proofs.Common.{sym, refl, drop}
use Rattle.plain_laws.proofs.Places.{get-there}
use Rattle.calculus.specs.StructureText.{function_conditions}
use Rattle.formula_core.specs.SymbolView.{the_symbol}
use Rattle.finite_model.proofs.CheckLaws.{broken-told, function-held, function-broken, function-passed}
use Rattle.finite_model.proofs.MakingLaws.{count-function, count-passed}
use Rattle.finite_model.proofs.functions.check_function.Goals as goal

pub returns-then-not-is_function-clause-ok : goal.returns-then-not-is_function-clause-ok
returns-then-not-is_function-clause-ok c = let x = (get-there c.args.symbols.now c.args.id.0 c.requires.there) in sym (function-passed c.args.s.now c.args.symbols.now c.args.line c.args.id.0 x.0 c.is_function.result _ x.1 (c.is_function.ensures x.0 x.1) c.if-not-is_function.true refl)

pub returns-then-not-is_function-clause-count : goal.returns-then-not-is_function-clause-count
returns-then-not-is_function-clause-count c = let x = (get-there c.args.symbols.now c.args.id.0 c.requires.there) in count-passed c.args.symbols.now c.args.id.0 c.args.line _ x.0 c.is_function.result x.1 (c.is_function.ensures x.0 x.1) c.if-not-is_function.true refl

pub returns-then-keeps-clause-ok : goal.returns-then-keeps-clause-ok
returns-then-keeps-clause-ok c = sym (function-held c.args.s.now c.args.symbols.now c.args.line c.args.id.0 c.get.result.now.arity (the_symbol c.get.result.now) c.is_function.result c.in_ok-keeps.keeps _ c.get.ensures (c.is_function.ensures _ c.get.ensures) c.if-not-is_function.false refl c.in_ok-keeps.ensures c.if-keeps.true refl)

pub returns-then-keeps-clause-count : goal.returns-then-keeps-clause-count
returns-then-keeps-clause-count c = count-function c.args.symbols.now c.args.id.0 c.args.line _ (the_symbol c.get.result.now) c.is_function.result c.get.ensures (c.is_function.ensures _ c.get.ensures) c.if-not-is_function.false refl

pub returns-else-keeps-clause-bad : goal.returns-else-keeps-clause-bad
returns-else-keeps-clause-bad c = λ place why e. broken-told (function_conditions c.args.s.now c.args.line c.args.id.0 (drop c.args.id.0 c.args.symbols.now)) _ place _ why e (function-broken c.args.s.now c.args.symbols.now c.args.line c.args.id.0 c.get.result.now.arity (the_symbol c.get.result.now) c.is_function.result c.in_ok-keeps.keeps _ c.get.ensures (c.is_function.ensures _ c.get.ensures) c.if-not-is_function.false refl c.in_ok-keeps.ensures c.if-keeps.false refl)
