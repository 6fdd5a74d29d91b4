use Rattle.std.proofs.Common.{map, subst, sym}
use Rattle.name_order.specs.ByNumber.NameView.{the_name}
use Rattle.name_order.specs.ByNumber.Order.{AreOrdered, IsOnce}
use Rattle.name_order.proofs.named.with_guide.Goals as goal

pub number_names-requires : goal.number_names-requires
number_names-requires c = record { once = subst (λ ns. IsOnce (map (the_name c.args.naming.table) ns)) (sym c.as_slice.ensures.keys) c.requires.once }

pub returns-clause-names : goal.returns-clause-names
returns-clause-names c = subst (λ ns. AreOrdered (map (the_name c.args.naming.table) ns) (map (the_name c.args.naming.table) c.in_ok-names.names.keys)) c.as_slice.ensures.keys c.in_ok-names.ensures.names
