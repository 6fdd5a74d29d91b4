use Rattle.std.proofs.Common.{◌≡◌, ◌≤◌, ◌+◌, ◌*◌, [], length, Bool, IsTrue}
use Rattle.std.specs.List.{list_all}
use Rattle.cop_base.specs.Outside.{Files}
use Rattle.cop_base.specs.Reads.{AgreesSince, ReadsOn}
use Rattle.tptp_reader.specs.Sources.{Source}
use Rattle.problem_build.specs.Building.{IsExactReader}
use Rattle.problem_build.specs.declared.fault.BuildFault.TheVariants.{Failed}
use Rattle.problem_build.specs.Fetching.{ReadsOnly}
use Rattle.problem_build.specs.Passing.{item_passes}
use Rattle.problem_build.specs.Walk.{Reader}
use Rattle.problem_build.specs.Walking.{AllPass, EndsIn, GoesOn, HoldsOfTexts, items_outcomes, lists_of, pending_items, progress_of}
use Rattle.problem_build.proofs.walk.+walk.Given as goal

abbrev pub decreases-walk_include : goal.decreases-walk_include
decreases-walk_include g l = 4 * l.depth

abbrev pub decreases-walk_item : goal.decreases-walk_item
decreases-walk_item g l = 4 * l.depth + 1

abbrev pub decreases-walk_items : goal.decreases-walk_items
decreases-walk_items g l = 4 * l.depth + 2

abbrev pub decreases-walk_file : goal.decreases-walk_file
decreases-walk_file g l = 4 * l.depth + 3

abbrev pub decreases-walk_items-loop-item : goal.decreases-walk_items-loop-item
decreases-walk_items-loop-item g l = length l.items.items

abbrev pub invariant-walk_items-loop-item : goal.invariant-walk_items-loop-item
invariant-walk_items-loop-item g l = record {
  goes : (files : Files) → AgreesSince files (g.L.Library.reads l.fn.lib) (g.L.Library.reads l.lib) → (read : Reader) → IsExactReader l.rules.modal read
      → GoesOn (items_outcomes read files l.rules.root l.file l.depth (lists_of l.fn.walk) (pending_items l.fn.items.items) (progress_of l.fn.walk) [])
      (items_outcomes read files l.rules.root l.file l.depth (lists_of l.fn.walk) (pending_items l.items.items) (progress_of l.walk) l.reached.items);
  kept : l.walk.lists.items ≡ l.fn.walk.lists.items;
  read : (test : Source → Bool) → HoldsOfTexts l.rules.modal test → IsTrue (list_all (item_passes test) (pending_items l.fn.items.items))
      → AllPass test l.fn.walk → IsTrue (list_all (item_passes test) (pending_items l.items.items)) × AllPass test l.walk;
  same_files : g.L.Library.holds l.lib ≡ g.L.Library.holds l.fn.lib;
  more_faults : g.L.Library.faults l.fn.lib ≤ g.L.Library.faults l.lib;
  more_misses : g.L.Library.misses l.fn.lib ≤ g.L.Library.misses l.lib;
  reads_on : ReadsOn (g.L.Library.holds l.fn.lib) (g.L.Library.reads l.fn.lib) (g.L.Library.reads l.lib);
  fetches : (files : Files) → AgreesSince files (g.L.Library.reads l.fn.lib) (g.L.Library.reads l.lib) → (read : Reader) → IsExactReader l.rules.modal read
      → ReadsOnly (λ n. EndsIn (items_outcomes read files l.rules.root l.file l.depth (lists_of l.fn.walk) (pending_items l.fn.items.items) (progress_of l.fn.walk) []) (Failed n))
      (g.L.Library.reads l.fn.lib) (g.L.Library.reads l.lib);
}
