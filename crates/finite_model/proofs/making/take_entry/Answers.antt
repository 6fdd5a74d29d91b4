use Rattle.std.proofs.Common.{◌∙◌, ap, length, drop, sym, arith}
use Rattle.std.specs.Vec.Iter.{into_iter_items}
use Rattle.plain_laws.proofs.Lists.{no-items}
use Rattle.finite_model.proofs.MakingLaws.{first-taken, nothing-taken}
use Rattle.finite_model.proofs.making.take_entry.Goals as goal

pub returns-in_ok-push-in-Some-clause-taken : goal.returns-in_ok-push-in-Some-clause-taken
returns-in_ok-push-in-Some-clause-taken c = (first-taken (into_iter_items c.args.entries.now) _ c.args.taken.now.items _ c.in-Some.entry c.in-Some.ensures.items c.in_ok-push-in-Some.ensures.items).0

pub returns-in_ok-push-in-Some-clause-rest : goal.returns-in_ok-push-in-Some-clause-rest
returns-in_ok-push-in-Some-clause-rest c = sym (ap (λ l. drop 1 l) c.in-Some.ensures.items)

pub returns-in_ok-push-in-Some-clause-len : goal.returns-in_ok-push-in-Some-clause-len
returns-in_ok-push-in-Some-clause-len c = omega (arith, c.requires, ap length c.in-Some.ensures.items, c.in-Some.ensures.len)

pub returns-in_err-push-in-Some-clause-rest : goal.returns-in_err-push-in-Some-clause-rest
returns-in_err-push-in-Some-clause-rest c = sym (ap (λ l. drop 1 l) c.in-Some.ensures.items)

pub returns-in_err-push-in-Some-clause-len : goal.returns-in_err-push-in-Some-clause-len
returns-in_err-push-in-Some-clause-len c = omega (arith, c.requires, ap length c.in-Some.ensures.items, c.in-Some.ensures.len)

pub returns-in-None-clause-taken : goal.returns-in-None-clause-taken
returns-in-None-clause-taken c = (nothing-taken (into_iter_items c.args.entries.now) c.args.taken.now.items (no-items _ (sym c.requires ∙ c.in-None.ensures.cases.0))).0

pub returns-in-None-clause-rest : goal.returns-in-None-clause-rest
returns-in-None-clause-rest c =
    let e = no-items (into_iter_items c.args.entries.now) (sym c.requires ∙ c.in-None.ensures.cases.0) in
    sym c.in-None.ensures.items ∙ e ∙ (nothing-taken (into_iter_items c.args.entries.now) c.args.taken.now.items e).1

pub returns-in-None-clause-len : goal.returns-in-None-clause-len
returns-in-None-clause-len c = omega (arith, c.requires, ap length c.in-None.ensures.items, c.in-None.ensures.cases.0, c.in-None.ensures.cases.1)
