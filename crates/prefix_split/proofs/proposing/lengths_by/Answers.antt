use Rattle.std.proofs.Common.{map}
use Rattle.plain_laws.proofs.Every.{all-at}
use Rattle.store_theory.proofs.BindingLaws.{within-sort}
use Rattle.calculus.specs.declared.sort.Sort.TheVariants.{StringSort}
use Rattle.store_theory.specs.Stores.{has_sort_at}
use Rattle.term_store.specs.RefView.{the_place}
use Rattle.prefix_split.proofs.proposing.lengths_by.Goals as goal

pub walk-end-requires : goal.walk-end-requires
walk-end-requires c = within-sort c.args.store.now.store StringSort c.reference_at.result.0 (all-at (has_sort_at c.args.store.now.store StringSort) (map the_place c.args.strings.now) c.loop-i.i c.reference_at.result.0 c.requires c.reference_at.ensures)
