use Rattle.std.proofs.Common.{◌+◌, IsTrue, sym, ◌∙◌, ap, subst, arith}
use Rattle.calculus.specs.Structures.{are_tables}
use Rattle.calculus.specs.Syntax.{Setting}
use Rattle.formula_text.proofs.Passing.{error-passed}
use Rattle.finite_model.proofs.CheckLaws.{IsAsked, asked-fifth, asked-first, asked-fourth, asked-none, asked-second, asked-third, range-stated, tables-stated}
use Rattle.finite_model.proofs.conditions.check_conditions.Goals as goal

pub check_atoms-requires-clause-range : goal.check_atoms-requires-clause-range
check_atoms-requires-clause-range c = range-stated c.args.problem.now c.args.s.now c.requires

pub check_atoms-requires-clause-tables : goal.check_atoms-requires-clause-tables
check_atoms-requires-clause-tables c = subst (λ ss. IsTrue (are_tables c.args.s.now ss c.args.s.now.meanings)) (sym c.symbols-symbols.ensures.symbols) (tables-stated c.args.problem.now c.args.s.now c.requires)

pub returns-in_err-check_worlds-clause-bad : goal.returns-in_err-check_worlds-clause-bad
returns-in_err-check_worlds-clause-bad c = λ line why e. asked-first c.args.problem.now c.args.s.now c.first_domain-first.result line why c.requires c.first_domain-first.ensures.line (c.in_err-check_worlds.ensures.bad line why (error-passed c.from_residual.result c.in_err-check_worlds.field-0.0 _ c.from_residual.ensures.1 e))

pub returns-in_err-check_relation-clause-bad : goal.returns-in_err-check_relation-clause-bad
returns-in_err-check_relation-clause-bad c = λ line why e. asked-second c.args.problem.now c.args.s.now c.logic-logic.result c.first_domain-first.result line why c.requires (c.logic-logic.ensures ∙ ap (λ (z : Setting). z.logic) c.setting.ensures.setting) c.first_domain-first.ensures.line c.in_ok-check_worlds.ensures.ok (c.in_err-check_relation.ensures.bad line why (error-passed c.from_residual-in_err-check_relation.result c.in_err-check_relation.field-0.0 _ c.from_residual-in_err-check_relation.ensures.1 e))

pub returns-in_err-check_domains-clause-bad : goal.returns-in_err-check_domains-clause-bad
returns-in_err-check_domains-clause-bad c = λ line why e. asked-third c.args.problem.now c.args.s.now c.logic-logic.result c.domains.result c.first_domain-first.result line why c.requires (c.logic-logic.ensures ∙ ap (λ (z : Setting). z.logic) c.setting.ensures.setting) (c.domains.ensures ∙ ap (λ (z : Setting). z.domains) c.setting-2.ensures.setting) c.first_domain-first.ensures.line c.in_ok-check_worlds.ensures.ok c.in_ok-check_relation.ensures.ok (c.in_err-check_domains.ensures.bad line why (error-passed c.from_residual-in_err-check_domains.result c.in_err-check_domains.field-0.0 _ c.from_residual-in_err-check_domains.ensures.1 e))

pub returns-in_err-behind-clause-bad : goal.returns-in_err-behind-clause-bad
returns-in_err-behind-clause-bad c = λ line why e.
    let asked : IsAsked c.args.problem.now c.args.s.now c.logic-logic.result c.domains.result c.symbols-symbols.result.now c.first_domain-first.result (c.first_domain-first.result + c.from.result) = record {
      stated = c.requires;
      logic = c.logic-logic.ensures ∙ ap (λ (z : Setting). z.logic) c.setting.ensures.setting;
      domains = c.domains.ensures ∙ ap (λ (z : Setting). z.domains) c.setting-2.ensures.setting;
      symbols = c.symbols-symbols.ensures.symbols;
      first_at = c.first_domain-first.ensures.line;
      functions_at = ap (λ k. c.first_domain-first.result + k) (c.from.ensures ∙ c.worlds.ensures.count);
    } in
    asked-fourth c.args.problem.now c.args.s.now c.logic-logic.result c.domains.result c.symbols-symbols.result.now c.first_domain-first.result (c.first_domain-first.result + c.from.result) line why asked c.in_ok-check_worlds.ensures.ok c.in_ok-check_relation.ensures.ok c.in_ok-check_domains.ensures.ok (c.in_err-behind.ensures.bad line why (error-passed c.from_residual-in_err-behind.result c.in_err-behind.field-0.0 _ c.from_residual-in_err-behind.ensures.1 e))

pub check_atoms-requires-clause-few : goal.check_atoms-requires-clause-few
check_atoms-requires-clause-few c = omega (arith, c.in_ok-behind.ensures.few, c.first_domain-first.ensures.few, c.from.ensures, c.worlds.ensures.few)

pub returns-in_err-check_atoms-clause-bad : goal.returns-in_err-check_atoms-clause-bad
returns-in_err-check_atoms-clause-bad c = λ line why e.
    let asked : IsAsked c.args.problem.now c.args.s.now c.logic-logic.result c.domains.result c.symbols-symbols.result.now c.first_domain-first.result (c.first_domain-first.result + c.from.result) = record {
      stated = c.requires;
      logic = c.logic-logic.ensures ∙ ap (λ (z : Setting). z.logic) c.setting.ensures.setting;
      domains = c.domains.ensures ∙ ap (λ (z : Setting). z.domains) c.setting-2.ensures.setting;
      symbols = c.symbols-symbols.ensures.symbols;
      first_at = c.first_domain-first.ensures.line;
      functions_at = ap (λ k. c.first_domain-first.result + k) (c.from.ensures ∙ c.worlds.ensures.count);
    } in
    asked-fifth c.args.problem.now c.args.s.now c.logic-logic.result c.domains.result c.symbols-symbols.result.now c.first_domain-first.result (c.first_domain-first.result + c.from.result) c.in_ok-behind.behind line why asked c.in_ok-behind.ensures.behind c.in_ok-check_worlds.ensures.ok c.in_ok-check_relation.ensures.ok c.in_ok-check_domains.ensures.ok c.in_ok-behind.ensures.ok (c.in_err-check_atoms.ensures.bad line why (error-passed c.from_residual-in_err-check_atoms.result c.in_err-check_atoms.field-0.0 _ c.from_residual-in_err-check_atoms.ensures.1 e))

pub returns-clause-ok : goal.returns-clause-ok
returns-clause-ok c =
    let asked : IsAsked c.args.problem.now c.args.s.now c.logic-logic.result c.domains.result c.symbols-symbols.result.now c.first_domain-first.result (c.first_domain-first.result + c.from.result) = record {
      stated = c.requires;
      logic = c.logic-logic.ensures ∙ ap (λ (z : Setting). z.logic) c.setting.ensures.setting;
      domains = c.domains.ensures ∙ ap (λ (z : Setting). z.domains) c.setting-2.ensures.setting;
      symbols = c.symbols-symbols.ensures.symbols;
      first_at = c.first_domain-first.ensures.line;
      functions_at = ap (λ k. c.first_domain-first.result + k) (c.from.ensures ∙ c.worlds.ensures.count);
    } in
    asked-none c.args.problem.now c.args.s.now c.logic-logic.result c.domains.result c.symbols-symbols.result.now c.first_domain-first.result (c.first_domain-first.result + c.from.result) c.in_ok-behind.behind asked c.in_ok-behind.ensures.behind c.in_ok-check_worlds.ensures.ok c.in_ok-check_relation.ensures.ok c.in_ok-check_domains.ensures.ok c.in_ok-behind.ensures.ok c.in_ok-check_atoms.ensures.ok
