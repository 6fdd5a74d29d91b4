use Rattle.std.proofs.Common.{◌++◌, [], ◌∙◌, ap, codes, subst}
use Rattle.formula_text.proofs.Passing.{error-passed}
use Rattle.finite_model.specs.EntriesLeft.{IsFaultAmong, Leads}
use Rattle.finite_model.specs.Slots.{world_slots}
use Rattle.finite_model.specs.declared.slot.Form.TheVariants.{Digits}
use Rattle.finite_model.proofs.entries.read_rows.Goals as goal

pub returns-in_err-read_worlds-clause-fault : goal.returns-in_err-read_worlds-clause-fault
returns-in_err-read_worlds-clause-fault c = λ line why e s h.
    let k = error-passed c.from_residual-in_err-read_worlds.result c.in_err-read_worlds.field-0.0 _ c.from_residual-in_err-read_worlds.ensures.1 e in
    subst (λ w. IsFaultAmong c.args.bytes.now (world_slots w (codes " ") (Digits c.args.count) 0 c.args.worlds) c.args.entries.now line why) (c.as_slice.ensures.value ∙ c.in_ok-write_bytes.ensures.ok ∙ ap (λ l. l ++ codes " ") (c.in_ok-front.ensures s h))
    (c.in_err-read_worlds.ensures.fault line why k)

pub returns-clause-ok : goal.returns-clause-ok
returns-clause-ok c = λ s h.
    subst (λ w. Leads c.args.bytes.now (world_slots w (codes " ") (Digits c.args.count) 0 c.args.worlds) c.args.entries.now [] c.read_worlds.new.entries) (c.as_slice.ensures.value ∙ c.in_ok-write_bytes.ensures.ok ∙ ap (λ l. l ++ codes " ") (c.in_ok-front.ensures s h))
    c.in_ok-read_worlds.ensures.ok
