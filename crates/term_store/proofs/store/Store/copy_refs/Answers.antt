use Rattle.std.proofs.Common.{[], arith, subst, sym}
use Rattle.term_store.specs.RefView.{the_places}
use Rattle.term_store.proofs.CopyLaws.{Copied, copied-none, refs-copied}
use Rattle.term_store.proofs.OwnLaws.{names-same}
use Rattle.term_store.proofs.store.Store.copy_refs.Goals as goal

pub returns-then-count-eq0-clause-adds : goal.returns-then-count-eq0-clause-adds
returns-then-count-eq0-clause-adds c = names-same (the_places c.args.variables) c.args.self.now.store

pub returns-then-count-eq0-clause-copies : goal.returns-then-count-eq0-clause-copies
returns-then-count-eq0-clause-copies c =
    let s = c.args.self.now.store in
    let vs = the_places c.args.variables in
    let few = c.if-count-eq0.true in
    (refs-copied s s vs c.new.result c.items-count.result.now c.args.patterns.now 0 (omega (arith, few)) c.items-count.ensures (subst (λ rs. Copied s s vs [] rs []) (sym c.new.ensures) (copied-none s vs []))).copies

pub returns-then-count-eq0-clause-sorts : goal.returns-then-count-eq0-clause-sorts
returns-then-count-eq0-clause-sorts c =
    let s = c.args.self.now.store in
    let vs = the_places c.args.variables in
    let few = c.if-count-eq0.true in
    (refs-copied s s vs c.new.result c.items-count.result.now c.args.patterns.now 0 (omega (arith, few)) c.items-count.ensures (subst (λ rs. Copied s s vs [] rs []) (sym c.new.ensures) (copied-none s vs []))).sorts

pub returns-then-count-eq0-clause-own : goal.returns-then-count-eq0-clause-own
returns-then-count-eq0-clause-own c =
    let s = c.args.self.now.store in
    let vs = the_places c.args.variables in
    let few = c.if-count-eq0.true in
    (refs-copied s s vs c.new.result c.items-count.result.now c.args.patterns.now 0 (omega (arith, few)) c.items-count.ensures (subst (λ rs. Copied s s vs [] rs []) (sym c.new.ensures) (copied-none s vs []))).own

pub returns-then-count-eq0-clause-within : goal.returns-then-count-eq0-clause-within
returns-then-count-eq0-clause-within c = λ sorts have g base h k. k
