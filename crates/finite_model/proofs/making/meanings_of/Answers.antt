use Rattle.std.proofs.Common.{◌++◌, ◌∙◌, ap, length, map, sym, arith}
use Rattle.std.specs.Vec.Iter.{into_iter_items}
use Rattle.finite_model.specs.Slots.{meanings_of}
use Rattle.finite_model.specs.StructureView.{the_lists, the_meaning}
use Rattle.finite_model.proofs.MakingLaws.{meanings-done, meanings-on}
use Rattle.finite_model.proofs.making.meanings_of.Goals as goal

pub loop-place-init : goal.loop-place-init
loop-place-init c = record {
  left = λ j. map the_meaning (c.new-meanings.ensures.items j) ++ meanings_of c.args.worlds c.args.symbols.now (the_lists (c.into_iter-tables.ensures.rest j)) (the_lists (into_iter_items c.args.rows.now));
  tables = c.into_iter-tables.ensures.len ∙ c.args.functions.ok.0 ∙ ap length (sym c.into_iter-tables.ensures.rest);
  rows = c.requires;
}

pub loop-place-preserved : goal.loop-place-preserved
loop-place-preserved c = record {
  left = meanings-on c.loop-place.meanings.items _ c.in_ok-meaning.meaning _ _ _ c.in_ok-push.ensures.items c.in_ok-meaning.ensures.meaning c.loop-place.invariant.left;
  tables = c.in_ok-meaning.ensures.tables;
  rows = c.in_ok-meaning.ensures.rows;
}

pub returns : goal.returns
returns c = meanings-done c.args.worlds c.args.symbols.now c.loop-place.place c.loop-place.meanings.items (the_lists (into_iter_items c.loop-place.tables)) (the_lists (into_iter_items c.loop-place.rows)) _ (omega arith) c.loop-place.invariant.left
