use Rattle.std.proofs.Common.{◌∙◌, IsTrue, ap, length, map, slice_get, subst, sym}
use Rattle.store_theory.specs.Stores.{names_below}
use Rattle.term_store.specs.PatternView.{the_pattern}
use Rattle.term_store.specs.RefView.{the_place}
use Rattle.search_tree.proofs.SamenessLaws.{place-below}
use Rattle.search_tree.proofs.heads.has_clash.Goals as goal

pub is_apart-requires : goal.is_apart-requires
is_apart-requires c = place-below (length c.args.store.now.store.cells) (map the_place c.items-terms.result.now) c.loop-i.i c.reference_at-term.result.0 (subst (λ rs. IsTrue (names_below (length c.args.store.now.store.cells) rs)) (sym c.items-terms.ensures) c.requires) c.reference_at-term.ensures

pub returns-then-is_apart : goal.returns-then-is_apart
returns-then-is_apart c = λ e. (
  c.loop-i.i,
  c.reference_at-term.result.0,
  the_pattern c.pattern_at-pattern.result.now,
  ap (λ rs. slice_get rs c.loop-i.i) (sym c.items-terms.ensures) ∙ c.reference_at-term.ensures,
  ap (λ ps. slice_get ps c.loop-i.i) (sym c.items-patterns.ensures) ∙ c.pattern_at-pattern.ensures,
  c.is_apart.ensures c.if-is_apart.true,
)
