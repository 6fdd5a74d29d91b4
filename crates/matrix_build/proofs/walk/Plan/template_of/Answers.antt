use Rattle.std.proofs.Common.{◌∙◌, ◌≤◌, ap, arith, length, subst, sym}
use Rattle.calculus.specs.declared.sign.Sign.TheVariants.{F}
use Rattle.store_theory.specs.Templates.{strings_from}
use Rattle.formula_core.specs.FormulaView.{the_formula}
use Rattle.search_theory.specs.TemplateOf.{pattern_part}
use Rattle.matrix_build.specs.Parts.{Adds, numbered}
use Rattle.matrix_build.specs.PartView.{the_part}
use Rattle.matrix_build.specs.WayView.{spot_at}
use Rattle.matrix_build.proofs.FewLaws.{few-whole}
use Rattle.matrix_build.proofs.PartLaws.{template-added}
use Rattle.matrix_build.proofs.walk.Plan.template_of.Goals as goal

pub strings_of-requires : goal.strings_of-requires
strings_of-requires c =
    let n : numbered (the_part c.shrink_to_fit.new.self) ≤ 8000000 =
    few-whole c.args.self.now.sizes.items (the_formula c.args.f.now) (the_part c.add_part.new.part) (the_part c.shrink_to_fit.new.self) c.args.self.now.few c.requires c.shrink_to_fit.ensures c.in_ok-add_part.ensures.few in
    omega (arith, n, ap length c.items.ensures)

pub returns-clause-few : goal.returns-clause-few
returns-clause-few c =
    let n : numbered (the_part c.shrink_to_fit.new.self) ≤ 8000000 =
    few-whole c.args.self.now.sizes.items (the_formula c.args.f.now) (the_part c.add_part.new.part) (the_part c.shrink_to_fit.new.self) c.args.self.now.few c.requires c.shrink_to_fit.ensures c.in_ok-add_part.ensures.few in
    omega (arith, n)

pub returns-clause-template : goal.returns-clause-template
returns-clause-template c = template-added c.args.self.now.logic (the_formula c.args.f.now) c.args.sides.now (spot_at 0 c.root-way.result) (the_part c.no_part-part.result) (the_part c.shrink_to_fit.new.self) c.in_ok-strings.strings c.no_part-part.ensures c.root-way.ensures (subst (Adds (pattern_part c.args.self.now.logic (the_formula c.args.f.now) F) (spot_at 0 c.root-way.result) (the_part c.no_part-part.result)) (sym c.shrink_to_fit.ensures) c.in_ok-add_part.ensures.adds) (c.in_ok-strings.ensures ∙ ap (strings_from 0) c.items.ensures)
