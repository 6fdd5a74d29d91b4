use Rattle.std.proofs.Common.{subst, sym}
use Rattle.conversion_theory.specs.Turns.{names_of_term}
use Rattle.formula_core.specs.GroundLists.{the_g_term, IsLowerTerm}
use Rattle.name_order.specs.ByNumber.Seeing.{Sees}
use Rattle.name_order.proofs.ByNumber.InsideLaws.{bound-same, sees-cons}
use Rattle.name_order.proofs.inside.see_term.Goals as goal

pub returns-in_ok-see_terms-in-Fun-clause-bound : goal.returns-in_ok-see_terms-in-Fun-clause-bound
returns-in_ok-see_terms-in-Fun-clause-bound c m lower le = c.in_ok-see_terms-in-Fun.ensures.bound m (subst (IsLowerTerm c.args.table.now m) c.in-Fun.is lower) le

pub returns-in_ok-see_values-in-Eigen-clause-sees : goal.returns-in_ok-see_values-in-Eigen-clause-sees
returns-in_ok-see_values-in-Eigen-clause-sees c =
    let ls = c.args.table.now in
    subst (λ x. Sees ls c.args.search.now c.see_values.new.search (names_of_term (the_g_term ls x))) (sym c.in-Eigen.is) (sees-cons ls _ _ _ _ _ c.in_ok-keep-in-Eigen.ensures.sees c.in_ok-see_values-in-Eigen.ensures.sees)

pub returns-in_ok-see_values-in-Eigen-clause-bound : goal.returns-in_ok-see_values-in-Eigen-clause-bound
returns-in_ok-see_values-in-Eigen-clause-bound c m lower le = c.in_ok-see_values-in-Eigen.ensures.bound m (subst (IsLowerTerm c.args.table.now m) c.in-Eigen.is lower) (bound-same m _ _ c.in_ok-keep-in-Eigen.ensures.ahead le)

pub returns-in_ok-see_label-in-Own-clause-sees : goal.returns-in_ok-see_label-in-Own-clause-sees
returns-in_ok-see_label-in-Own-clause-sees c =
    let ls = c.args.table.now in
    subst (λ x. Sees ls c.args.search.now c.see_label.new.search (names_of_term (the_g_term ls x))) (sym c.in-Own.is) (sees-cons ls _ _ _ _ _ c.in_ok-keep-in-Own.ensures.sees c.in_ok-see_label-in-Own.ensures.sees)

pub returns-in_ok-see_label-in-Own-clause-bound : goal.returns-in_ok-see_label-in-Own-clause-bound
returns-in_ok-see_label-in-Own-clause-bound c m lower le = c.in_ok-see_label-in-Own.ensures.bound m (subst (IsLowerTerm c.args.table.now m) c.in-Own.is lower) (bound-same m _ _ c.in_ok-keep-in-Own.ensures.ahead le)
