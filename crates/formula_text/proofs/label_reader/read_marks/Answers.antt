use Rattle.std.proofs.Common.{refl, arith}
use Rattle.formula_text.proofs.Marks.{no_mark, no_follower, step-closed, step-more, written-push}
use Rattle.logic_rules.specs.MarkView.{the_character}
use Rattle.formula_text.proofs.label_reader.read_marks.Goals as goal

pub returns-in_default-clause-none : goal.returns-in_default-clause-none
returns-in_default-clause-none c = λ _. no_mark c.args.text.now c.args.from c.loop-mark.place c.loop-mark.label c.loop-mark.invariant.0 c.loop-mark.invariant.1 (c.in_default.ensures.none refl)

pub returns-then-has_byte-clause-ok : goal.returns-then-has_byte-clause-ok
returns-then-has_byte-clause-ok c =
    rw c.in_ok-push.ensures.ok
    (step-closed c.args.text.now c.args.from c.loop-mark.place c.in-Some.end c.loop-mark.label (the_character c.in-Some.mark) c.loop-mark.invariant.0 c.in-Some.ensures.some (c.has_byte.ensures.yes c.if-has_byte.true) c.loop-mark.invariant.1)

pub returns-then-not-has_byte-clause-none : goal.returns-then-not-has_byte-clause-none
returns-then-not-has_byte-clause-none c = λ _.
    no_follower c.args.text.now c.args.from c.loop-mark.place c.in-Some.end c.loop-mark.label (the_character c.in-Some.mark) c.loop-mark.invariant.0 c.loop-mark.invariant.1 c.in-Some.ensures.some
    (c.has_byte.ensures.no c.if-has_byte.false) (c.has_byte-in-loop-mark.ensures.no c.if-not-has_byte.true)

pub loop-mark-preserved : goal.loop-mark-preserved
loop-mark-preserved c =
    let within = c.has_byte-in-loop-mark.ensures.within c.if-not-has_byte.false in (
      rw c.in_ok-push.ensures.ok
          (step-more c.args.text.now c.args.from c.loop-mark.place c.in-Some.end c.loop-mark.label (the_character c.in-Some.mark) c.loop-mark.invariant.0 c.in-Some.ensures.some (c.has_byte-in-loop-mark.ensures.yes c.if-not-has_byte.false)),
      rw c.in_ok-push.ensures.ok (written-push c.loop-mark.label (the_character c.in-Some.mark) c.loop-mark.invariant.1 c.in-Some.ensures.some.written),
      omega arith,
    )
