use Rattle.std.proofs.Common.{◌∙◌, length, refl, sym}
use Rattle.std.proofs.lemmas.Option.{slice_get_read}
use Rattle.search_tree.proofs.failed.Failed.is_key_of.Goals as goal

pub returns : goal.returns
returns c = λ t. (c.index-entry.result.now, slice_get_read c.args.self.now.entries.items (length c.args.self.now.entries.items) c.args.number c.index-entry.result.now refl c.requires c.index-entry.ensures, sym c.deref.ensures.value ∙ c.is_same_key.ensures t ∙ c.deref-2.ensures.value)
