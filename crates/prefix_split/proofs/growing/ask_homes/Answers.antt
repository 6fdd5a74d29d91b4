use Rattle.std.proofs.Common.{map}
use Rattle.std.specs.List.{AllByRecursion}
use Rattle.plain_laws.proofs.Every.{all-at}
use Rattle.calculus.specs.declared.setting.Logic.TheVariants.{S4}
use Rattle.term_store.specs.HomeView.{the_home}
use Rattle.term_store.specs.Homes.{BeginsLabel, is_home}
use Rattle.prefix_split.proofs.GrowingLaws.{asked-none, asked-one_more}
use Rattle.prefix_split.proofs.growing.ask_homes.Goals as goal

pub loop-i-init : goal.loop-i-init
loop-i-init c = asked-none c.args.store.now.store S4 c.args.system.now.strings (λ σ. AllByRecursion (BeginsLabel σ) (map the_home c.args.homes.now)) c.args.nodes.now.items c.args.pairs.now.items c.requires.tree

pub ask_home-requires-clause-tree : goal.ask_home-requires-clause-tree
ask_home-requires-clause-tree c = c.loop-i.invariant.tree

pub ask_home-requires-clause-fits : goal.ask_home-requires-clause-fits
ask_home-requires-clause-fits c = all-at (is_home c.args.store.now.store) (map the_home c.args.homes.now) c.loop-i.i (the_home c.home_at-home.result.now) c.requires.fits c.home_at-home.ensures

pub loop-i-preserved : goal.loop-i-preserved
loop-i-preserved c = asked-one_more c.args.store.now.store S4 c.args.system.now.strings (λ σ. BeginsLabel σ) (map the_home c.args.homes.now) c.loop-i.i (the_home c.home_at-home.result.now) c.args.nodes.now.items c.loop-i.nodes.items c.ask_home.new.nodes.items c.args.pairs.now.items c.loop-i.pairs.items c.ask_home.new.pairs.items c.home_at-home.ensures c.loop-i.invariant c.in_ok-ask_home.ensures
