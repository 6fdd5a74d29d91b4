use Rattle.std.proofs.Common.{IsTrue, subst, sym}
use Rattle.std.specs.List.{list_all}
use Rattle.calculus.specs.declared.sort.Sort.TheVariants.{StringSort}
use Rattle.store_theory.specs.Stores.{has_sort_at}
use Rattle.search_theory.proofs.SolvingLaws.{system-parts}
use Rattle.term_store.specs.SystemView.{the_system}
use Rattle.prefix_split.proofs.proposing.propose.Goals as goal

pub lengths_by-requires : goal.lengths_by-requires
lengths_by-requires c = subst (λ xs. IsTrue (list_all (has_sort_at c.args.store.now.store StringSort) xs)) (sym c.items-strings.ensures) (system-parts c.args.store.now.store (the_system c.args.system.now) c.requires).strings
