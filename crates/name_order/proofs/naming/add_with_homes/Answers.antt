use Rattle.std.proofs.Common.{arith, map, refl, ◌∙◌}
use Rattle.conversion_theory.specs.Numbering.{name_eq}
use Rattle.name_order.specs.ByNumber.Inside.{all_with_marks, with_marks}
use Rattle.name_order.specs.ByNumber.NameView.{the_name}
use Rattle.name_order.specs.ByNumber.Naming.{the_names}
use Rattle.name_order.proofs.ByNumber.SetLaws.{kept-step}
use Rattle.name_order.proofs.naming.add_with_homes.Goals as goal

pub loop-name-preserved : goal.loop-name-preserved
loop-name-preserved c =
    let P = c.args.problem.now in
    let ls = c.args.source.now in
    record {
      good = c.in_ok-add_with_home.ensures.good;
      names = kept-step name_eq (λ ns. all_with_marks P (map (the_name ls) ns)) (λ n. with_marks P (the_name ls n)) (λ n ns. refl) (the_names c.loop-name.naming) (the_names c.add_with_home.new.naming) _ c.args.names.now c.loop-name.name-index _ _ (omega arith) refl c.in_ok-add_with_home.ensures.names c.loop-name.invariant.names;
      turns = c.in_ok-add_with_home.ensures.turns ∙ c.loop-name.invariant.turns;
    }
