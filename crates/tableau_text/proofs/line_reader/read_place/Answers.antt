use Rattle.std.proofs.Common.{refl}
use Rattle.tableau_text.proofs.SideLaws.{no-place_number, no-place_space, place-read}
use Rattle.tableau_text.proofs.line_reader.read_place.Goals as goal

pub returns-in_default-clause-none : goal.returns-in_default-clause-none
returns-in_default-clause-none c = λ _. no-place_number c.args.text.now (c.in_default.ensures.none refl)

pub returns-in-Some-after_byte-clause-ok : goal.returns-in-Some-after_byte-clause-ok
returns-in-Some-after_byte-clause-ok c = place-read c.args.text.now c.in-Some.after.now c.in-Some-after_byte.rest.now c.in-Some.place c.in-Some.ensures.some c.in-Some-after_byte.ensures.some

pub returns-in-None-clause-none : goal.returns-in-None-clause-none
returns-in-None-clause-none c = λ _. no-place_space c.args.text.now c.in-Some.after.now c.in-Some.place c.in-Some.ensures.some (c.in-None.ensures.none refl)
