use Rattle.std.proofs.Common.{◌∙◌, Ok, ap, arith, map, option_map}
use Rattle.std.specs.Prelude.{◌&&◌, not}
use Rattle.std.specs.List.{list_any}
use Rattle.calculus.specs.Equality.{symbol_eq}
use Rattle.calculus.specs.Problems.{is_modal}
use Rattle.formula_core.specs.FormulaView.{the_formula}
use Rattle.logic_rules.specs.SettingView.{the_setting}
use Rattle.tptp_reader.specs.SourceView.{the_source}
use Rattle.problem_build.specs.Answers.{the_refusal}
use Rattle.problem_build.specs.Expansion.{equality_symbol}
use Rattle.problem_build.proofs.ProblemLaws.{over-deep, over-empty, over-fits, over-large, over-whole, told-refusal}
use Rattle.problem_build.proofs.building.problem_over.Goals as goal

pub returns-then-len-gt-MAX_LEN-clause-problem : goal.returns-then-len-gt-MAX_LEN-clause-problem
returns-then-len-gt-MAX_LEN-clause-problem c = absurd (omega arith)

pub returns-in_default-clause-problem : goal.returns-in_default-clause-problem
returns-in_default-clause-problem c =
    over-deep _ (the_setting c.args.setting) c.args.symbols (map the_source c.args.parts.premises.items) (map the_source c.args.parts.conjectures.items)
    c.in_ok-with_axioms.with_axioms c.in_ok-measured.measured (omega arith)
    (c.in_ok-with_axioms.ensures ∙ ap (λ l. not (is_modal l) && list_any (symbol_eq equality_symbol) c.args.symbols) c.logic.ensures)
    c.in_ok-measured.ensures c.in_default.is

pub returns-then-nodes-gt-MAX_NODES-clause-problem : goal.returns-then-nodes-gt-MAX_NODES-clause-problem
returns-then-nodes-gt-MAX_NODES-clause-problem c =
    over-large _ (the_setting c.args.setting) c.args.symbols (map the_source c.args.parts.premises.items) (map the_source c.args.parts.conjectures.items)
    c.in_ok-with_axioms.with_axioms c.in_ok-measured.measured c.in-Some.nodes (omega arith)
    (c.in_ok-with_axioms.ensures ∙ ap (λ l. not (is_modal l) && list_any (symbol_eq equality_symbol) c.args.symbols) c.logic.ensures)
    c.in_ok-measured.ensures c.in-Some.is
    (omega arith)

pub returns-in_default-made-clause-problem : goal.returns-in_default-made-clause-problem
returns-in_default-made-clause-problem c =
    told-refusal (the_refusal c.bad.result) _ _ c.bad.ensures.told
    (over-empty _ (the_setting c.args.setting) c.args.symbols (map the_source c.args.parts.premises.items) (map the_source c.args.parts.conjectures.items)
    c.in_ok-with_axioms.with_axioms c.in_ok-measured.measured c.in-Some.nodes _ (omega arith)
    (c.in_ok-with_axioms.ensures ∙ ap (λ l. not (is_modal l) && list_any (symbol_eq equality_symbol) c.args.symbols) c.logic.ensures)
    c.in_ok-measured.ensures c.in-Some.is
    c.in_ok-made.ensures (ap (option_map the_formula) c.in_default-made.is))

pub new-requires : goal.new-requires
new-requires c =
    over-fits (the_setting c.args.setting) c.args.symbols (map the_source c.args.parts.premises.items) (map the_source c.args.parts.conjectures.items)
    c.in_ok-with_axioms.with_axioms c.in_ok-measured.measured c.in-Some.nodes _ (the_formula c.in-Some-made.formula) (omega arith)
    (c.in_ok-with_axioms.ensures ∙ ap (λ l. not (is_modal l) && list_any (symbol_eq equality_symbol) c.args.symbols) c.logic.ensures)
    c.in_ok-measured.ensures c.in-Some.is (omega arith) c.in_ok-made.ensures (ap (option_map the_formula) c.in-Some-made.is)
    c.args.setting.fits c.len.ensures.distinct c.requires.names c.requires.premises c.requires.conjectures

pub returns-clause-problem : goal.returns-clause-problem
returns-clause-problem c =
    ap Ok c.new.ensures
    ∙ over-whole _ (the_setting c.args.setting) c.args.symbols (map the_source c.args.parts.premises.items) (map the_source c.args.parts.conjectures.items)
    c.in_ok-with_axioms.with_axioms c.in_ok-measured.measured c.in-Some.nodes _ (the_formula c.in-Some-made.formula) (omega arith)
    (c.in_ok-with_axioms.ensures ∙ ap (λ l. not (is_modal l) && list_any (symbol_eq equality_symbol) c.args.symbols) c.logic.ensures)
    c.in_ok-measured.ensures c.in-Some.is (omega arith) c.in_ok-made.ensures (ap (option_map the_formula) c.in-Some-made.is)
