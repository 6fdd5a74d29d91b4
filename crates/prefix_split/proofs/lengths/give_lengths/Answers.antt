use Rattle.std.proofs.Common.{[], arith, map}
use Rattle.std.proofs.lemmas.Bool.{false≢true}
use Rattle.std.proofs.lemmas.List.{length-map}
use Rattle.plain_laws.proofs.Every.{all-at}
use Rattle.calculus.specs.Labels.{is_step_length}
use Rattle.term_store.specs.RefView.{the_place}
use Rattle.prefix_split.proofs.LaterLaws.{later-both}
use Rattle.prefix_split.proofs.LengthLaws.{built-all, given-all, given-more, given-none, never-more, right-both, string-at}
use Rattle.prefix_split.proofs.lengths.give_lengths.Goals as goal

pub loop-i-init : goal.loop-i-init
loop-i-init c = record { given = given-none c.args.store.now.store (map the_place c.args.strings.now) c.args.lengths.now; right = λ P steps base l from a. a; room = (omega arith, omega arith) }

pub give_length-requires : goal.give_length-requires
give_length-requires c = string-at c.args.store.now.store c.loop-i.store.store (map the_place c.args.strings.now) c.loop-i.i c.reference_at.result.0 c.loop-i.invariant.given.later c.requires.sorts c.reference_at.ensures

pub returns-in_err-give_length-clause-later : goal.returns-in_err-give_length-clause-later
returns-in_err-give_length-clause-later c = later-both c.args.store.now.store c.loop-i.store.store c.give_length.new.store.store c.loop-i.invariant.given.later c.give_length.ensures.later

pub returns-then-not-branch-clause-cannot : goal.returns-then-not-branch-clause-cannot
returns-then-not-branch-clause-cannot c = λ e. never-more c.args.store.now.store c.loop-i.store.store (map the_place c.args.strings.now) c.args.lengths.now c.loop-i.i c.reference_at.result.0 c.length_at.result c.loop-i.invariant.given c.reference_at.ensures c.length_at.ensures (c.in_ok-give_length.ensures.cannot c.if-not-branch.true)

pub returns-then-not-branch-clause-later : goal.returns-then-not-branch-clause-later
returns-then-not-branch-clause-later c = later-both c.args.store.now.store c.loop-i.store.store c.give_length.new.store.store c.loop-i.invariant.given.later c.give_length.ensures.later

pub loop-i-preserved : goal.loop-i-preserved
loop-i-preserved c =
    let a = c.loop-i.invariant.room in
    let b = c.give_length.ensures.room in
    record {
      given = given-more c.args.store.now.store c.loop-i.store.store c.give_length.new.store.store (map the_place c.args.strings.now) c.args.lengths.now c.loop-i.i c.reference_at.result.0 c.length_at.result c.requires.sorts c.loop-i.invariant.given c.reference_at.ensures c.length_at.ensures (c.in_ok-give_length.ensures.given c.if-not-branch.false) c.give_length.ensures.later;
      right = λ P steps. right-both P [] c.args.store.now.store c.loop-i.store.store c.give_length.new.store.store c.loop-i.invariant.given.later.longer (c.loop-i.invariant.right P steps) (c.in_ok-give_length.ensures.right c.if-not-branch.false P (all-at (is_step_length P.setting.logic) c.args.lengths.now c.loop-i.i c.length_at.result steps c.length_at.ensures));
      room = (omega (arith, a, b), omega (arith, a, b));
    }

pub returns-clause-given : goal.returns-clause-given
returns-clause-given c = λ e.
    let n = length-map c.args.strings.now the_place in
    let m = c.requires.count in
    given-all c.args.store.now.store c.loop-i.store.store (map the_place c.args.strings.now) c.args.lengths.now c.loop-i.i c.loop-i.invariant.given (omega (arith, n)) (omega (arith, m))

pub returns-clause-built : goal.returns-clause-built
returns-clause-built c = λ e.
    let n = length-map c.args.strings.now the_place in
    built-all c.args.store.now.store c.loop-i.store.store (map the_place c.args.strings.now) c.args.lengths.now c.loop-i.i c.loop-i.invariant.given (omega (arith, n))

pub returns-then-not-branch-clause-right : goal.returns-then-not-branch-clause-right
returns-then-not-branch-clause-right c = λ e. absurd (false≢true e)

pub returns-clause-right : goal.returns-clause-right
returns-clause-right c = λ e. c.loop-i.invariant.right
