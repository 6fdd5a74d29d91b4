use Rattle.std.proofs.Common.{[], IsTrue, arith, map, subst, sym, take}
use Rattle.std.proofs.lemmas.List.{take_all}
use Rattle.store_theory.specs.Bindings.{AddsOver}
use Rattle.store_theory.specs.Patterns.{patterns_tree}
use Rattle.store_theory.proofs.PatternLaws.{Grows-built}
use Rattle.cop_base.proofs.Items.{map-take-item}
use Rattle.term_store.specs.Fitting.{parts_fit_in}
use Rattle.term_store.specs.PatternView.{the_pattern}
use Rattle.term_store.specs.RefView.{the_places}
use Rattle.term_store.specs.Room.{KeepsRoom, TermStore}
use Rattle.term_store.specs.Signatures.{BuildsOver, allows_all}
use Rattle.term_store.proofs.CopyLaws.{Copied, copied-more, copied-none, fits-at, refs-copied, some-sort}
use Rattle.term_store.proofs.FitLaws.{grown-fits}
use Rattle.term_store.proofs.OwnLaws.{names-same, over-both}
use Rattle.term_store.proofs.SignatureLaws.{within-pattern}
use Rattle.term_store.proofs.store.Store.copy_all_refs.Goals as goal

pub loop-part-init : goal.loop-part-init
loop-part-init c =
    let s = c.args.self.now.store in
    let vs = the_places c.args.variables in
    let same = sym c.in_ok-refs.ensures.same in
    record {
      copied = subst (λ (z : TermStore). Copied s z.store vs [] c.in_ok-refs.refs []) same (subst (λ rs. Copied s s vs [] rs []) (sym c.in_ok-refs.ensures.none) (copied-none s vs []));
      adds = subst (λ (z : TermStore). AddsOver vs s z.store) same (names-same vs s);
      within = subst (λ (z : TermStore). BuildsOver vs (λ sorts g. allows_all g sorts (patterns_tree [])) s z.store) same (λ sorts have g base h k. k);
      room = subst (λ (z : TermStore). KeepsRoom c.args.self.now z) same (omega arith, omega arith);
    }

pub copy_pattern-requires : goal.copy_pattern-requires
copy_pattern-requires c =
    let s = c.args.self.now.store in
    let vs = the_places c.args.variables in
    let items = c.items-part-items.result.now in
    let f = subst (λ ps. IsTrue (parts_fit_in s vs c.requires.0 c.requires.1 (patterns_tree ps))) (sym c.items-part-items.ensures) c.requires.2 in
    let one = some-sort s vs c.requires.0 c.requires.1 (the_pattern c.part-item.result) (fits-at s vs c.requires.0 c.requires.1 items c.loop-part.part-index c.part-item.result c.part-item.result f (omega arith) c.part-item.is) in
    (one.0, grown-fits s c.loop-part.self.store vs one.0 (the_pattern c.part-item.result) (Grows-built s c.loop-part.self.store c.loop-part.invariant.adds.built) one.1)

pub loop-part-preserved : goal.loop-part-preserved
loop-part-preserved c =
    let s = c.args.self.now.store in
    let vs = the_places c.args.variables in
    let items = c.items-part-items.result.now in
    let more = map-take-item the_pattern items c.loop-part.part-index c.part-item.result c.part-item.result (omega arith) c.part-item.is in
    let before = Grows-built s c.loop-part.self.store c.loop-part.invariant.adds.built in
    let now = Grows-built c.loop-part.self.store c.copy_pattern.new.self.store c.in_ok-copied.ensures.adds.built in
    let a = c.loop-part.invariant.room in
    let b = c.in_ok-copied.ensures.room in
    record {
      copied = subst (Copied s c.copy_pattern.new.self.store vs [] c.push.new.self) (sym more)
          (copied-more s c.loop-part.self.store c.copy_pattern.new.self.store vs [] c.loop-part.refs c.push.new.self (map the_pattern (take c.loop-part.part-index items)) (the_pattern c.part-item.result) c.in_ok-copied.copied.0 c.loop-part.invariant.copied before now c.in_ok-copied.ensures.copy c.in_ok-copied.ensures.sorts c.in_ok-copied.ensures.own c.in_ok-push.ensures.ok);
      adds = over-both vs s c.loop-part.self.store c.copy_pattern.new.self.store c.loop-part.invariant.adds c.in_ok-copied.ensures.adds;
      within = subst (λ ps. BuildsOver vs (λ sorts g. allows_all g sorts (patterns_tree ps)) s c.copy_pattern.new.self.store) (sym more)
          (within-pattern vs (map the_pattern (take c.loop-part.part-index items)) (the_pattern c.part-item.result) s c.loop-part.self.store c.copy_pattern.new.self.store c.loop-part.invariant.adds.built c.loop-part.invariant.within c.in_ok-copied.ensures.within);
      room = (omega arith, omega arith);
    }

pub returns-in_err-refs-clause-adds : goal.returns-in_err-refs-clause-adds
returns-in_err-refs-clause-adds c = subst (λ (z : TermStore). AddsOver (the_places c.args.variables) c.args.self.now.store z.store) (sym c.in_err-refs.ensures.same) (names-same (the_places c.args.variables) c.args.self.now.store)

pub returns-in_err-copied-clause-adds : goal.returns-in_err-copied-clause-adds
returns-in_err-copied-clause-adds c = over-both (the_places c.args.variables) c.args.self.now.store c.loop-part.self.store c.copy_pattern.new.self.store c.loop-part.invariant.adds c.in_err-copied.ensures.adds

pub returns-in_err-push-clause-adds : goal.returns-in_err-push-clause-adds
returns-in_err-push-clause-adds c = over-both (the_places c.args.variables) c.args.self.now.store c.loop-part.self.store c.copy_pattern.new.self.store c.loop-part.invariant.adds c.in_ok-copied.ensures.adds

pub returns-clause-within : goal.returns-clause-within
returns-clause-within c =
    subst (λ ps. BuildsOver (the_places c.args.variables) (λ sorts g. allows_all g sorts (patterns_tree ps)) c.args.self.now.store c.loop-part.self.store) c.items-part-items.ensures
    (subst (λ ps. BuildsOver (the_places c.args.variables) (λ sorts g. allows_all g sorts (patterns_tree (map the_pattern ps))) c.args.self.now.store c.loop-part.self.store) (take_all c.loop-part.part-index c.items-part-items.result.now (omega arith)) c.loop-part.invariant.within)

pub returns-clause-copies : goal.returns-clause-copies
returns-clause-copies c = (refs-copied c.args.self.now.store c.loop-part.self.store (the_places c.args.variables) c.loop-part.refs c.items-part-items.result.now c.args.patterns.now c.loop-part.part-index (omega arith) c.items-part-items.ensures c.loop-part.invariant.copied).copies

pub returns-clause-sorts : goal.returns-clause-sorts
returns-clause-sorts c = (refs-copied c.args.self.now.store c.loop-part.self.store (the_places c.args.variables) c.loop-part.refs c.items-part-items.result.now c.args.patterns.now c.loop-part.part-index (omega arith) c.items-part-items.ensures c.loop-part.invariant.copied).sorts

pub returns-clause-own : goal.returns-clause-own
returns-clause-own c = (refs-copied c.args.self.now.store c.loop-part.self.store (the_places c.args.variables) c.loop-part.refs c.items-part-items.result.now c.args.patterns.now c.loop-part.part-index (omega arith) c.items-part-items.ensures c.loop-part.invariant.copied).own
