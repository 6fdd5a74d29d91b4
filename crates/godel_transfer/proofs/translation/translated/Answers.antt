use Rattle.std.proofs.Common.{◌≡◌, ◌∙◌, IsTrue, sym, subst}
use Rattle.calculus.specs.Problems.{is_problem}
use Rattle.calculus.specs.Syntax.{Problem}
use Rattle.calculus.specs.Translation.{translated_problem, translation_of}
use Rattle.formula_core.specs.FormulaView.{the_formula}
use Rattle.logic_rules.specs.ProblemView.{the_problem}
use Rattle.godel_transfer.proofs.TranslatedLaws.{translated-problem}
use Rattle.godel_transfer.proofs.translation.translated.Goals as goal

pub new-requires : goal.new-requires
new-requires c =
    let P = c.args.problem.now in
    let formula = c.in_ok-translation.ensures ∙ (λ j. translation_of (c.formula.ensures.formula j)) in
    let symbols = c.in_ok-symbols.ensures ∙ c.symbols.ensures.symbols in
    let same : the_problem c.new-setting.result c.in_ok-translation.translation c.in_ok-symbols.symbols ≡ translated_problem P = λ j. record { setting = c.new-setting.ensures j; formula = formula j; symbols = symbols j } in
    subst (λ (Q : Problem). IsTrue (is_problem Q)) (sym same) (translated-problem P c.formula.ensures.well c.requires.intuitionistic c.requires.nodes c.requires.nests)

pub returns : goal.returns
returns c =
    let formula = c.in_ok-translation.ensures ∙ (λ j. translation_of (c.formula.ensures.formula j)) in
    let symbols = c.in_ok-symbols.ensures ∙ c.symbols.ensures.symbols in
    c.new.ensures ∙ (λ j. record { setting = c.new-setting.ensures j; formula = formula j; symbols = symbols j })
