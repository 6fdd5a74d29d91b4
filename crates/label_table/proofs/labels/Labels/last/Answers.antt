use Rattle.std.proofs.Common.{[], get_or, sym, ◌∙◌, ap, arith}
use Rattle.std.proofs.lemmas.Bool.{false≢true}
use Rattle.label_table.proofs.LabelLaws.{label-first, label-length, last-shown}
use Rattle.label_table.proofs.labels.Labels.last.Goals as goal

pub returns-in-Some-clause-before : goal.returns-in-Some-clause-before
returns-in-Some-clause-before c = (last-shown c.self.inside.links.entries c.args.self.now c.args.place (c.in-Some.link.now, c.in-Some.field-0-1.now) _ c.self.view_is c.self.invariant.0 (omega (arith, c.if-place-eq0.false)) c.requires (sym c.in-Some.ensures.entry) c.mark_of.ensures).0

pub returns-in-Some-clause-some : goal.returns-in-Some-clause-some
returns-in-Some-clause-some c = (last-shown c.self.inside.links.entries c.args.self.now c.args.place (c.in-Some.link.now, c.in-Some.field-0-1.now) _ c.self.view_is c.self.invariant.0 (omega (arith, c.if-place-eq0.false)) c.requires (sym c.in-Some.ensures.entry) c.mark_of.ensures).1

pub returns-in-None-clause-none : goal.returns-in-None-clause-none
returns-in-None-clause-none c = λ _. absurd (false≢true (c.in-None.ensures.found.1 (let size = label-length c.self.inside.links.entries c.args.self.now c.self.view_is in omega (arith, size, c.requires, c.if-place-eq0.false))))

pub returns-then-place-eq0-clause-none : goal.returns-then-place-eq0-clause-none
returns-then-place-eq0-clause-none c = λ _. ap (λ k. get_or c.args.self.now k []) c.if-place-eq0.true ∙ label-first c.self.inside.links.entries c.args.self.now c.self.view_is
