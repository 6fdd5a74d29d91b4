use Rattle.std.proofs.lemmas.Bool.{and_parts}
use Rattle.tableau_text.proofs.PieceLaws.{wrote-behind}
use Rattle.tableau_text.proofs.WriteLaws.{is-named}
use Rattle.tableau_text.proofs.values_writer.write_function.Goals as goal

pub write_name-requires : goal.write_name-requires
write_name-requires c = is-named c.args.symbols.now c.args.f.0 _ (and_parts _ _ c.requires).0

pub open_args-requires : goal.open_args-requires
open_args-requires c = (and_parts _ _ c.requires).1

pub returns : goal.returns
returns c = wrote-behind c.args.symbols.now c.args.table.now _ _ _ _ _ _ _ c.in_ok-write_name.ensures.ok c.in_ok-open_args.ensures
