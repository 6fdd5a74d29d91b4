use Rattle.store_theory.proofs.BindingLaws.{ends-there}
use Rattle.prefix_split.proofs.GrowingLaws.{end-marks, long-fits, mark-extent, mark-fits, short-extent, short-fits}
use Rattle.prefix_split.proofs.growing.step_of.Goals as goal

pub is_mark-requires : goal.is_mark-requires
is_mark-requires c = ends-there c.args.store.now.store c.args.item.0 c.walk-end.result.0 c.walk-end.ensures.ends

pub is_short_string-requires : goal.is_short_string-requires
is_short_string-requires c = ends-there c.args.store.now.store c.args.item.0 c.walk-end.result.0 c.walk-end.ensures.ends

pub returns-then-is_mark-clause-marks : goal.returns-then-is_mark-clause-marks
returns-then-is_mark-clause-marks c = λ σ t. end-marks c.args.store.now.store c.args.item.0 c.walk-end.result.0 c.walk-end.ensures.ends σ t

pub returns-then-is_mark-clause-extent : goal.returns-then-is_mark-clause-extent
returns-then-is_mark-clause-extent c = λ σ t k. mark-extent c.args.store.now.store σ c.walk-end.result.0 t (c.is_mark.ensures c.if-is_mark.true)

pub returns-then-is_mark-clause-fits : goal.returns-then-is_mark-clause-fits
returns-then-is_mark-clause-fits c = mark-fits _ c.walk-end.result c.walk-end.ensures.within

pub returns-then-is_short_string-clause-marks : goal.returns-then-is_short_string-clause-marks
returns-then-is_short_string-clause-marks c = λ σ t. end-marks c.args.store.now.store c.args.item.0 c.walk-end.result.0 c.walk-end.ensures.ends σ t

pub returns-then-is_short_string-clause-extent : goal.returns-then-is_short_string-clause-extent
returns-then-is_short_string-clause-extent c = λ σ t k.
    let named = c.requires.named (c.is_short_string.ensures.short c.if-is_short_string.true) c.walk-end.result.0 (c.is_short_string.ensures.open c.if-is_short_string.true) c.walk-end.ensures.ends in
    short-extent c.args.logic c.args.store.now.store c.args.system.now.strings σ c.walk-end.result.0 t (c.is_short_string.ensures.short c.if-is_short_string.true) named k

pub returns-then-is_short_string-clause-fits : goal.returns-then-is_short_string-clause-fits
returns-then-is_short_string-clause-fits c = short-fits _ c.walk-end.result c.walk-end.ensures.within

pub returns-clause-marks : goal.returns-clause-marks
returns-clause-marks c = λ σ t. end-marks c.args.store.now.store c.args.item.0 c.walk-end.result.0 c.walk-end.ensures.ends σ t

pub returns-clause-fits : goal.returns-clause-fits
returns-clause-fits c = long-fits _ c.walk-end.result c.walk-end.ensures.within
