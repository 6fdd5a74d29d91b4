use Rattle.std.proofs.Common.{◌∙◌, map, sym}
use Rattle.term_store.specs.RefView.{the_place}
use Rattle.tableau_reading.proofs.PartLaws.{needs-home, needs-parts}
use Rattle.tableau_reading.proofs.parts.needs.Goals as goal

pub returns-then-is_open_term-clause-needs : goal.returns-then-is_open_term-clause-needs
returns-then-is_open_term-clause-needs c = needs-home c.args.store.now.store c.args.homes.now c.args.end.0 c.head.result (map the_place c.in_ok-items.items.items) c.requires.end c.head.ensures (sym c.is_open_term.ensures ∙ c.if-is_open_term.true) c.in_ok-items.ensures.items

pub returns-clause-needs : goal.returns-clause-needs
returns-clause-needs c = needs-parts c.args.store.now.store c.args.homes.now c.args.end.0 c.head.result (map the_place c.in_ok-parts.parts.items) c.requires.end c.head.ensures (sym c.is_open_term.ensures ∙ c.if-is_open_term.false) c.in_ok-parts.ensures.parts
