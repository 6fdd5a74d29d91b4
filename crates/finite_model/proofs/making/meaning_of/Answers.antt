use Rattle.std.proofs.Common.{refl, []}
use Rattle.std.specs.Vec.Iter.{into_iter_items}
use Rattle.plain_laws.proofs.Places.{get-there}
use Rattle.finite_model.proofs.MakingLaws.{meaning-truths, meaning-values}
use Rattle.finite_model.proofs.making.meaning_of.Goals as goal

pub returns-then-is_function-clause-meaning : goal.returns-then-is_function-clause-meaning
returns-then-is_function-clause-meaning c = let x = get-there c.args.symbols.now c.args.id.0 c.requires.there in
    meaning-values c.args.worlds c.args.symbols.now c.args.id.0 x.0 c.is_function.result [] _ c.next_table-table.result (into_iter_items c.args.tables.now) (into_iter_items c.next_table-table.new.tables) (into_iter_items c.args.rows.now) _ x.1 (c.is_function.ensures x.0 x.1) c.if-is_function.true refl c.next_table-table.ensures.table c.next_table-table.ensures.rest refl

pub returns-clause-meaning : goal.returns-clause-meaning
returns-clause-meaning c = let x = get-there c.args.symbols.now c.args.id.0 c.requires.there in
    meaning-truths c.args.worlds c.args.symbols.now c.args.id.0 x.0 c.is_function.result [] _ c.in_ok-taken.taken (into_iter_items c.args.tables.now) (into_iter_items c.args.rows.now) (into_iter_items c.take_entries.new.entries) _ x.1 (c.is_function.ensures x.0 x.1) c.if-is_function.false refl c.in_ok-taken.ensures.taken c.in_ok-taken.ensures.rest refl
