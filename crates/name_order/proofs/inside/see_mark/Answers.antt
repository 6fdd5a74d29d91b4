use Rattle.std.proofs.Common.{subst, sym}
use Rattle.conversion_theory.specs.Turns.{names_of_mark}
use Rattle.formula_core.specs.GroundLists.{the_mark, IsLowerMark}
use Rattle.name_order.specs.ByNumber.Seeing.{Sees}
use Rattle.name_order.proofs.ByNumber.InsideLaws.{bound-same, sees-cons}
use Rattle.name_order.proofs.inside.see_mark.Goals as goal

pub returns-in_ok-see_values-in-New-clause-sees : goal.returns-in_ok-see_values-in-New-clause-sees
returns-in_ok-see_values-in-New-clause-sees c =
    let ls = c.args.table.now in
    subst (λ x. Sees ls c.args.search.now c.see_values.new.search (names_of_mark (the_mark ls x))) (sym c.in-New.is) (sees-cons ls _ _ _ _ _ c.in_ok-keep-in-New.ensures.sees c.in_ok-see_values-in-New.ensures.sees)

pub returns-in_ok-see_values-in-New-clause-bound : goal.returns-in_ok-see_values-in-New-clause-bound
returns-in_ok-see_values-in-New-clause-bound c m lower le = c.in_ok-see_values-in-New.ensures.bound m (subst (IsLowerMark c.args.table.now m) c.in-New.is lower) (bound-same m _ _ c.in_ok-keep-in-New.ensures.ahead le)
