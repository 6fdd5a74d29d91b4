use Rattle.std.specs.List.{AllByRecursion}
use Rattle.std.proofs.Common.{◌≡◌, ◌∙◌, Some, ap, map, slice_get, subst, sym}
use Rattle.store_theory.specs.Systems.{AreEqual}
use Rattle.term_store.specs.SystemView.{the_equation, the_system}
use Rattle.prefix_split.proofs.GrowingLaws.{asked-next, asked-none, equation-fits, equation-named}
use Rattle.prefix_split.proofs.growing.ask_equations.Goals as goal

pub loop-i-init : goal.loop-i-init
loop-i-init c = asked-none c.args.store.now.store c.args.logic c.args.system.now.strings (λ σ. AllByRecursion (AreEqual σ) c.args.system.now.equations) c.args.nodes.now.items c.args.pairs.now.items c.requires.tree

pub ask_equation-requires-clause-tree : goal.ask_equation-requires-clause-tree
ask_equation-requires-clause-tree c = c.loop-i.invariant.tree

pub ask_equation-requires-clause-fits : goal.ask_equation-requires-clause-fits
ask_equation-requires-clause-fits c =
    let at : slice_get c.args.system.now.equations c.loop-i.i ≡ Some (the_equation c.equation_at-e.result.now) = ap (λ es. slice_get es c.loop-i.i) (sym c.items-equations.ensures) ∙ c.equation_at-e.ensures in
    equation-fits c.args.store.now.store (the_system c.args.system.now) c.loop-i.i (the_equation c.equation_at-e.result.now) c.requires.fits at

pub ask_equation-requires-clause-named : goal.ask_equation-requires-clause-named
ask_equation-requires-clause-named c =
    let at : slice_get c.args.system.now.equations c.loop-i.i ≡ Some (the_equation c.equation_at-e.result.now) = ap (λ es. slice_get es c.loop-i.i) (sym c.items-equations.ensures) ∙ c.equation_at-e.ensures in
    equation-named c.args.store.now.store (the_system c.args.system.now) c.loop-i.i (the_equation c.equation_at-e.result.now) c.requires.named at

pub loop-i-preserved : goal.loop-i-preserved
loop-i-preserved c =
    let at : slice_get c.args.system.now.equations c.loop-i.i ≡ Some (the_equation c.equation_at-e.result.now) = ap (λ es. slice_get es c.loop-i.i) (sym c.items-equations.ensures) ∙ c.equation_at-e.ensures in
    asked-next c.args.store.now.store c.args.logic c.args.system.now.strings c.args.system.now.equations c.loop-i.i (the_equation c.equation_at-e.result.now) c.args.nodes.now.items c.loop-i.nodes.items c.ask_equation.new.nodes.items c.args.pairs.now.items c.loop-i.pairs.items c.ask_equation.new.pairs.items at c.loop-i.invariant c.in_ok-ask_equation.ensures
