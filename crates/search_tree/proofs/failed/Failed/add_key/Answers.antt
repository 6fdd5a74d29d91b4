use Rattle.std.proofs.Common.{◌∙◌, ap, sym, subst}
use Rattle.std.specs.List.{AllByRecursion}
use Rattle.search_tree.specs.Failing.{KeyFails}
use Rattle.search_tree.specs.declared.failed.Entry.{Entry}
use Rattle.search_tree.proofs.FailedLaws.{failed-more}
use Rattle.search_tree.proofs.failed.Failed.add_key.Goals as goal

pub returns : goal.returns
returns c = λ P d h k. failed-more P d c.make_chains.new.self.entries.items c.set_first.new.self.entries.items _ c.args.self.now.key.parts.items (c.set_first.ensures ∙ c.in_ok-push.ensures.items) (c.in_ok-key.ensures ∙ c.deref.ensures.value ∙ c.in_ok-make_chains.ensures.key) k (subst (AllByRecursion (λ (e : Entry). KeyFails P d e.key.items)) (sym c.in_ok-make_chains.ensures.entries) h)
