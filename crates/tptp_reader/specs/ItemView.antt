-- The item that an item of the program stands for.
use Rattle.tptp_reader.specs.Sources as tree
use Rattle.tptp_reader.specs.SourceView.{the_source}
use Rattle.tptp_reader.specs.declared.item.Item.{Item}
use Rattle.tptp_reader.specs.declared.item.Item.TheVariants.{Formula, Include}

abbrev pub the_item : Item → tree.Item
the_item (Formula kind name role role_at body start) = tree.formula kind name role role_at (the_source body) start
the_item (Include file names start) = tree.include file names start
