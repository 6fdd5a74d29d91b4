use Rattle.std.proofs.Common.{◌∙◌, ap, take, drop, length, sym, arith}
use Rattle.std.specs.Vec.Iter.{into_iter_items}
use Rattle.finite_model.proofs.MakingLaws.{few-taken, made}
use Rattle.finite_model.proofs.making.structure_of.Goals as goal

pub take_entries-requires : goal.take_entries-requires
take_entries-requires c = c.into_iter-entries.ensures.len ∙ c.args.entries.ok.0 ∙ ap length (sym c.into_iter-entries.ensures.rest)

pub new-requires : goal.new-requires
new-requires c = omega (arith, few-taken (into_iter_items c.into_iter-entries.result) c.in_ok-successors.successors.items c.args.head.now.worlds 64 c.in_ok-successors.ensures.taken c.requires, c.in_ok-successors.successors.ok.0)

pub returns : goal.returns
returns c =
    made c.args.symbols.now c.args.head.now.worlds c.args.head.now.elements c.function_count-count.result c.args.entries.items c.in_ok-successors.successors.items _ c.in_ok-domains.domains.items _ c.in_ok-functions.functions.items _ c.in_ok-meanings.meanings.items _
    c.function_count-count.ensures
    (c.in_ok-successors.ensures.taken ∙ ap (λ l. take c.args.head.now.worlds l) c.into_iter-entries.ensures.rest)
    (c.in_ok-successors.ensures.rest ∙ ap (λ l. drop c.args.head.now.worlds l) c.into_iter-entries.ensures.rest)
    c.in_ok-domains.ensures.taken c.in_ok-domains.ensures.rest c.in_ok-functions.ensures.taken c.in_ok-functions.ensures.rest c.in_ok-meanings.ensures c.new.ensures
