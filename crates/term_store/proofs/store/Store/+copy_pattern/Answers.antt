use Rattle.std.proofs.Common.{◌-◌, ◌++◌, ◌∷◌, ◌∙◌, [], IsTrue, Some, ap, arith, drop, length, map, nat_le, subst, sym, take}
use Rattle.plain_laws.proofs.Every.{all-at}
use Rattle.store_theory.specs.Bindings.{AddsOver}
use Rattle.store_theory.specs.Patterns.{patterns_tree}
use Rattle.store_theory.proofs.PatternLaws.{Grows-built, grown-copies}
use Rattle.cop_base.proofs.Items.{map-take-item}
use Rattle.term_store.specs.Built.{named_cell}
use Rattle.term_store.specs.Fitting.{parts_fit_in}
use Rattle.term_store.specs.PatternFalls.{size-item}
use Rattle.term_store.specs.PatternView.{the_pattern}
use Rattle.term_store.specs.RefView.{the_places}
use Rattle.term_store.proofs.CopyLaws.{Copied, copied-more, copied-none, built-at, copy-named, fits-at, rest-range, some-sort, sort-named}
use Rattle.term_store.proofs.FitLaws.{grown-fits}
use Rattle.term_store.proofs.OwnLaws.{names-same, over-both, over-then, own-new}
use Rattle.term_store.proofs.SignatureLaws.{within-built, within-pattern}
use Rattle.term_store.specs.Signatures.{BuildsOver, allows_all}
use Rattle.term_store.proofs.store.Store.+copy_pattern.Goals as goal

pub copy_parts-copy_pattern-requires : goal.copy_parts-copy_pattern-requires
copy_parts-copy_pattern-requires t c =
    let s = c.args.self.now.store in
    let vs = the_places c.args.variables in
    let items = c.items-part-items.result.now in
    let f = subst (λ ps. IsTrue (parts_fit_in s vs c.requires.0 c.requires.1 (patterns_tree ps))) (sym c.items-part-items.ensures) c.requires.2 in
    let one = some-sort s vs c.requires.0 c.requires.1 (the_pattern c.part-item.result) (fits-at s vs c.requires.0 c.requires.1 items c.loop-part.part-index c.part-item.result c.part-item.result f (omega arith) c.part-item.is) in (
      grind (arith, size-item),
      (one.0, grown-fits s c.loop-part.self.store vs one.0 (the_pattern c.part-item.result) (Grows-built s c.loop-part.self.store c.loop-part.invariant.adds.built) one.1),
    )

pub copy_parts-loop-part-preserved : goal.copy_parts-loop-part-preserved
copy_parts-loop-part-preserved t c =
    let s = c.args.self.now.store in
    let vs = the_places c.args.variables in
    let items = c.items-part-items.result.now in
    let more = map-take-item the_pattern items c.loop-part.part-index c.part-item.result c.part-item.result (omega arith) c.part-item.is in
    let before = Grows-built s c.loop-part.self.store c.loop-part.invariant.adds.built in
    let now = Grows-built c.loop-part.self.store c.copy_pattern.new.self.store c.in_ok-copied.ensures.adds.built in
    let a = c.loop-part.invariant.room in
    let b = c.in_ok-copied.ensures.room in
    record {
      copied = subst (Copied s c.copy_pattern.new.self.store vs c.args.places.now.items c.push.new.self.items) (sym more)
          (copied-more s c.loop-part.self.store c.copy_pattern.new.self.store vs c.args.places.now.items c.loop-part.places.items c.push.new.self.items (map the_pattern (take c.loop-part.part-index items)) (the_pattern c.part-item.result) c.in_ok-copied.copied.0 c.loop-part.invariant.copied before now c.in_ok-copied.ensures.copy c.in_ok-copied.ensures.sorts c.in_ok-copied.ensures.own (c.in_ok-push.ensures.items ∙ ap (λ xs. xs ++ c.in_ok-copied.copied.0 ∷ []) c.in_ok-copied.ensures.places));
      adds = over-both vs s c.loop-part.self.store c.copy_pattern.new.self.store c.loop-part.invariant.adds c.in_ok-copied.ensures.adds;
      within = subst (λ ps. BuildsOver vs (λ sorts g. allows_all g sorts (patterns_tree ps)) s c.copy_pattern.new.self.store) (sym more)
          (within-pattern vs (map the_pattern (take c.loop-part.part-index items)) (the_pattern c.part-item.result) s c.loop-part.self.store c.copy_pattern.new.self.store c.loop-part.invariant.adds.built c.loop-part.invariant.within c.in_ok-copied.ensures.within);
      room = (omega arith, omega arith);
    }

pub copy_built-returns-clause-copy : goal.copy_built-returns-clause-copy
copy_built-returns-clause-copy t c =
    let vs = the_places c.args.variables in
    let (more, places, copies, sorts, own) = c.in_ok-copy_parts.ensures.copies in
    let n = c.args.places.now.ok.0 in
    let same = rest-range c.len-from.result c.args.places.now.items more c.deref.result.now (omega arith) (c.deref.ensures.value ∙ places) in
    let at = built-at c.copy_parts.new.self.store c.build.new.self.store c.in_ok-built.built.0 (named_cell c.args.name (take (length c.deref.result.now - c.len-from.result) (drop c.len-from.result c.deref.result.now))) c.in_ok-built.ensures.ok c.in_ok-built.ensures.place in
    copy-named c.build.new.self.store vs c.in_ok-built.built.0 c.args.name (patterns_tree c.args.parts.now) more c.requires.name (at ∙ ap (λ rs. Some (named_cell c.args.name rs)) same)
    (grown-copies c.copy_parts.new.self.store c.build.new.self.store vs (patterns_tree c.args.parts.now) more (Grows-built c.copy_parts.new.self.store c.build.new.self.store c.in_ok-built.ensures.adds.built) copies)

pub copy_built-returns-clause-sorts : goal.copy_built-returns-clause-sorts
copy_built-returns-clause-sorts t c = λ sort f.
    let at = built-at c.copy_parts.new.self.store c.build.new.self.store c.in_ok-built.built.0 (named_cell c.args.name (take (length c.deref.result.now - c.len-from.result) (drop c.len-from.result c.deref.result.now))) c.in_ok-built.ensures.ok c.in_ok-built.ensures.place in
    sort-named c.args.self.now.store c.build.new.self.store (the_places c.args.variables) c.in_ok-built.built.0 sort c.args.name (patterns_tree c.args.parts.now) (take (length c.deref.result.now - c.len-from.result) (drop c.len-from.result c.deref.result.now)) c.requires.name at f

pub copy_built-returns-clause-own : goal.copy_built-returns-clause-own
copy_built-returns-clause-own t c = own-new (the_places c.args.variables) c.args.self.now.store c.copy_parts.new.self.store c.in_ok-built.built.0 (Grows-built c.args.self.now.store c.copy_parts.new.self.store c.in_ok-copy_parts.ensures.adds.built) c.in_ok-built.ensures.place

pub copy_built-returns-clause-adds : goal.copy_built-returns-clause-adds
copy_built-returns-clause-adds t c =
    let vs = the_places c.args.variables in
    let (more, places, copies, sorts, own) = c.in_ok-copy_parts.ensures.copies in
    let n = c.args.places.now.ok.0 in
    let same = rest-range c.len-from.result c.args.places.now.items more c.deref.result.now (omega arith) (c.deref.ensures.value ∙ places) in
    over-then vs more c.args.self.now.store c.copy_parts.new.self.store c.build.new.self.store c.in_ok-copy_parts.ensures.adds own (subst (λ rs. AddsOver rs c.copy_parts.new.self.store c.build.new.self.store) same c.in_ok-built.ensures.adds)

pub copy_built-returns-in_err-built-clause-adds : goal.copy_built-returns-in_err-built-clause-adds
copy_built-returns-in_err-built-clause-adds t c = subst (AddsOver (the_places c.args.variables) c.args.self.now.store) (sym c.in_err-built.ensures.err) c.in_ok-copy_parts.ensures.adds

pub copy_parts-loop-part-init : goal.copy_parts-loop-part-init
copy_parts-loop-part-init t c = record {
  copied = copied-none c.args.self.now.store (the_places c.args.variables) c.args.places.now.items;
  adds = names-same (the_places c.args.variables) c.args.self.now.store;
  within = λ sorts have g base h k. k;
  room = (omega arith, omega arith);
}

pub copy_parts-returns-in_err-copied-clause-adds : goal.copy_parts-returns-in_err-copied-clause-adds
copy_parts-returns-in_err-copied-clause-adds t c = over-both (the_places c.args.variables) c.args.self.now.store c.loop-part.self.store c.copy_pattern.new.self.store c.loop-part.invariant.adds c.in_err-copied.ensures.adds

pub copy_parts-returns-in_err-push-clause-adds : goal.copy_parts-returns-in_err-push-clause-adds
copy_parts-returns-in_err-push-clause-adds t c = over-both (the_places c.args.variables) c.args.self.now.store c.loop-part.self.store c.copy_pattern.new.self.store c.loop-part.invariant.adds c.in_ok-copied.ensures.adds

pub copy_pattern-returns-in-Var-clause-own : goal.copy_pattern-returns-in-Var-clause-own
copy_pattern-returns-in-Var-clause-own t c = λ base l h. all-at (nat_le base) (the_places c.args.variables) _ _ h c.variable.ensures

pub copy_pattern-returns-in-Var-clause-adds : goal.copy_pattern-returns-in-Var-clause-adds
copy_pattern-returns-in-Var-clause-adds t c = names-same (the_places c.args.variables) c.args.self.now.store

pub copy_built-returns-clause-within : goal.copy_built-returns-clause-within
copy_built-returns-clause-within t c =
    let vs = the_places c.args.variables in
    let (more, places, copies, sorts, own) = c.in_ok-copy_parts.ensures.copies in
    let n = c.args.places.now.ok.0 in
    let same = rest-range c.len-from.result c.args.places.now.items more c.deref.result.now (omega arith) (c.deref.ensures.value ∙ places) in
    within-built c.args.self.now.store c.copy_parts.new.self.store c.build.new.self.store vs c.args.name (patterns_tree c.args.parts.now) more (take (length c.deref.result.now - c.len-from.result) (drop c.len-from.result c.deref.result.now)) c.requires.name c.in_ok-copy_parts.ensures.adds.built c.in_ok-copy_parts.ensures.within copies same c.in_ok-built.ensures.ok

pub copy_pattern-returns-in-Var-clause-within : goal.copy_pattern-returns-in-Var-clause-within
copy_pattern-returns-in-Var-clause-within t c = λ sorts have g base h k. k
