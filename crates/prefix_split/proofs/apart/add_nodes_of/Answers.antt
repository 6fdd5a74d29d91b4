use Rattle.std.proofs.Common.{◌≡◌, ◌∙◌, Some, ap, slice_get, sym}
use Rattle.plain_laws.proofs.Every.{all-at}
use Rattle.store_theory.specs.Systems.{is_pair}
use Rattle.search_theory.proofs.SolvingLaws.{system-parts}
use Rattle.term_store.specs.SystemView.{the_pair, the_system}
use Rattle.prefix_split.proofs.ApartLaws.{come-more}
use Rattle.prefix_split.proofs.apart.add_nodes_of.Goals as goal

pub nodes_of-requires-clause-pair : goal.nodes_of-requires-clause-pair
nodes_of-requires-clause-pair c =
    let at : slice_get c.args.system.now.pairs c.args.number ≡ Some (the_pair c.pair_at-pair.result.now) = ap (λ ps. slice_get ps c.args.number) (sym c.items-pairs.ensures) ∙ c.pair_at-pair.ensures in
    all-at (is_pair c.args.store.now.store) c.args.system.now.pairs c.args.number (the_pair c.pair_at-pair.result.now) (system-parts c.args.store.now.store (the_system c.args.system.now) c.requires.system).pairs at

pub returns : goal.returns
returns c =
    let at : slice_get c.args.system.now.pairs c.args.number ≡ Some (the_pair c.pair_at-pair.result.now) = ap (λ ps. slice_get ps c.args.number) (sym c.items-pairs.ensures) ∙ c.pair_at-pair.ensures in
    come-more c.args.store.now.store c.args.system.now.pairs c.args.nodes.now c.args.number (the_pair c.pair_at-pair.result.now) c.in-Some.both c.args.apart.now.items c.push.new.self.items at (rw c.in-Some.is at c.in_ok-both.ensures) c.in_ok-push.ensures.items
