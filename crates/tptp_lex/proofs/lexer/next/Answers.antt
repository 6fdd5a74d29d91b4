use Rattle.std.proofs.Common.{◌∙◌, None, Ok, refl, sym, arith}
use Rattle.tptp_lex.proofs.AnswerLaws.{after-within, answers-alone, fault-is, next-is, only-space, rest-within, some-left}
use Rattle.tptp_lex.proofs.lexer.next.Goals as goal

pub returns-then-is_empty-clause-alone : goal.returns-then-is_empty-clause-alone
returns-then-is_empty-clause-alone c = λ other h.
    answers-alone c.args.text.now c.args.from other (Ok None) h
    (only-space c.args.text.now c.args.from c.after_spacing-rest.result.now c.after_spacing-rest.ensures.skipped (sym c.is_empty.ensures ∙ c.if-is_empty.true))

pub overflow_sub-start : goal.overflow_sub-start
overflow_sub-start c = rest-within c.args.text.now c.args.from c.after_spacing-rest.result.now c.after_spacing-rest.ensures.skipped

pub overflow_sub-end : goal.overflow_sub-end
overflow_sub-end c =
    omega (arith, rest-within c.args.text.now c.args.from c.after_spacing-rest.result.now c.after_spacing-rest.ensures.skipped, after-within c.in-Some.kind c.after_spacing-rest.result.now c.in-Some.after.now c.in-Some.ensures.found)

pub returns-in-Some-clause-answer : goal.returns-in-Some-clause-answer
returns-in-Some-clause-answer c =
    next-is c.args.text.now c.args.from c.in-Some.kind c.after_spacing-rest.result.now c.in-Some.after.now c.requires c.after_spacing-rest.ensures.skipped c.in-Some.ensures.found

pub returns-in-Some-clause-alone : goal.returns-in-Some-clause-alone
returns-in-Some-clause-alone c = λ other h.
    answers-alone c.args.text.now c.args.from other _ h
    (next-is c.args.text.now c.args.from c.in-Some.kind c.after_spacing-rest.result.now c.in-Some.after.now c.requires c.after_spacing-rest.ensures.skipped c.in-Some.ensures.found)

pub returns-in-None-clause-answer : goal.returns-in-None-clause-answer
returns-in-None-clause-answer c =
    fault-is c.args.text.now c.args.from c.after_spacing-rest.result.now c.requires c.after_spacing-rest.ensures.skipped
    (some-left c.after_spacing-rest.result.now (sym c.is_empty.ensures ∙ c.if-is_empty.false)) c.after_spacing-rest.ensures.all (c.in-None.ensures.none refl)

pub returns-in-None-clause-alone : goal.returns-in-None-clause-alone
returns-in-None-clause-alone c = λ other h.
    answers-alone c.args.text.now c.args.from other _ h
    (fault-is c.args.text.now c.args.from c.after_spacing-rest.result.now c.requires c.after_spacing-rest.ensures.skipped
    (some-left c.after_spacing-rest.result.now (sym c.is_empty.ensures ∙ c.if-is_empty.false)) c.after_spacing-rest.ensures.all (c.in-None.ensures.none refl))
