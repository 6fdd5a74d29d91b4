use Rattle.std.proofs.Common.{◌≡◌, List, refl, subst}
use Rattle.conversion_theory.specs.Numbering.{name_eq}
use Rattle.formula_core.specs.GroundLists.{GroundList}
use Rattle.name_order.specs.ByNumber.Inside.{the_names, AreNormalNames}
use Rattle.name_order.specs.ByNumber.NameView.{the_name}
use Rattle.name_order.specs.Keeping.{keep}
use Rattle.name_order.proofs.ByNumber.InsideLaws.{sees-kept}
use Rattle.name_order.proofs.inside.keep.Goals as goal

pub returns-clause-sees : goal.returns-clause-sees
returns-clause-sees c =
    let after = c.keep_name.new.names.keys in
    let before = c.args.search.now.names.keys in
    let normal = subst (λ (ls : List GroundList). AreNormalNames ls after) c.table.ensures c.in_ok-keep_name.ensures.normal in
    let kept = subst (λ (ls : List GroundList). the_names ls after ≡ keep name_eq (the_names ls before) (the_name ls c.args.name)) c.table.ensures c.in_ok-keep_name.ensures.kept in
    sees-kept c.args.table.now c.args.search.now _ (the_name c.args.table.now c.args.name) normal kept refl
