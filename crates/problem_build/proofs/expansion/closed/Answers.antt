use Rattle.std.proofs.Common.{◌≡◌, ◌∙◌, ap, length, arith}
use Rattle.std.specs.Prelude.{reverse}
use Rattle.formula_core.specs.FormulaView.{the_formula}
use Rattle.tptp_reader.specs.SourceView.{the_source}
use Rattle.problem_build.specs.EqualityAxioms.{for_all_times}
use Rattle.problem_build.specs.Expansion.{expanded, free_variables}
use Rattle.problem_build.proofs.ExpandingLaws.{all-times}
use Rattle.problem_build.proofs.NameCountLaws.{free-few}
use Rattle.problem_build.proofs.expansion.closed.Goals as goal

pub expand-requires : goal.expand-requires
expand-requires c =
    let s : c.in_ok-scope.scope.items ≡ free_variables (the_source c.args.source.now) = c.in_ok-scope.ensures ∙ c.in_ok-free.ensures in
    let l : length c.in_ok-scope.scope.items ≡ length (free_variables (the_source c.args.source.now)) = ap length s in
    omega (arith, l, free-few (the_source c.args.source.now), c.requires)

pub returns : goal.returns
returns c =
    let s : c.in_ok-scope.scope.items ≡ free_variables (the_source c.args.source.now) = c.in_ok-scope.ensures ∙ c.in_ok-free.ensures in
    let l : c.len-count.result ≡ length c.in_ok-scope.scope.items = omega (arith, c.len-count.ensures, c.in_ok-scope.scope.ok.0) in
    c.in_ok-formula.ensures
    ∙ ap (λ n. for_all_times n (the_formula c.in_ok-body.body)) (l ∙ ap length s)
    ∙ ap (for_all_times (length (free_variables (the_source c.args.source.now))))
    (c.in_ok-body.ensures.expanded ∙ ap (λ xs. expanded c.args.symbols.now (reverse xs) (the_source c.args.source.now)) s)
    ∙ all-times (free_variables (the_source c.args.source.now)) _
