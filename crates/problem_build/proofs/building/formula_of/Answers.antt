use Rattle.std.proofs.Common.{◌∙◌, ap, map}
use Rattle.tptp_reader.specs.SourceView.{the_source}
use Rattle.problem_build.specs.Building.{problem_formula}
use Rattle.problem_build.specs.Expansion.{closed}
use Rattle.problem_build.specs.Measuring.{first_of}
use Rattle.problem_build.proofs.building.formula_of.Goals as goal

pub returns : goal.returns
returns c =
    c.in_ok-formula.ensures (map (closed c.args.symbols.now) (map the_source c.args.parts.now.conjectures.items)) (c.in_ok-shown.ensures ∙ ap (λ ss. first_of (map (closed c.args.symbols.now) (map the_source ss))) c.deref.ensures.value)
    ∙ ap (λ ps. problem_formula ps (map (closed c.args.symbols.now) (map the_source c.args.parts.now.conjectures.items))) c.in_ok-given.ensures
