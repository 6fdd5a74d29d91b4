use Rattle.std.proofs.Common.{[], IsTrue, arith, length, map, subst, sym, take}
use Rattle.std.specs.List.{list_all}
use Rattle.std.proofs.lemmas.List.{take_all}
use Rattle.store_theory.specs.Bindings.{AddsOver}
use Rattle.store_theory.proofs.PatternLaws.{Grows-built}
use Rattle.cop_base.proofs.Items.{map-take-item}
use Rattle.term_store.specs.ClauseView.{the_gamma, the_pattern_gamma}
use Rattle.term_store.specs.Fitting.{gamma_fits_in}
use Rattle.term_store.specs.RefView.{the_places}
use Rattle.term_store.specs.Room.{KeepsRoom, TermStore}
use Rattle.term_store.proofs.CopyLaws.{all-item}
use Rattle.term_store.proofs.FitLaws.{grown-gamma_fits}
use Rattle.term_store.proofs.ListLaws.{GammasCopied, gamma-more, gammas-none}
use Rattle.term_store.proofs.OwnLaws.{names-same, over-both}
use Rattle.term_store.proofs.SignatureLaws.{within-item}
use Rattle.term_store.specs.Signatures.{BuildsOver, allows_gamma}
use Rattle.term_store.proofs.store.Store.copy_gammas.Goals as goal

pub loop-gamma-init : goal.loop-gamma-init
loop-gamma-init c =
    let s = c.args.self.now.store in
    let vs = the_places c.args.variables in
    let same = sym c.in_ok-copied.ensures.same in
    record {
      copied = subst (λ (z : TermStore). GammasCopied z.store vs (length s.cells) c.in_ok-copied.copied []) same (subst (λ xs. GammasCopied s vs (length s.cells) xs []) (sym c.in_ok-copied.ensures.none) (gammas-none s vs (length s.cells)));
      adds = subst (λ (z : TermStore). AddsOver vs s z.store) same (names-same vs s);
      within = subst (λ (z : TermStore). BuildsOver vs (λ sorts g. list_all (allows_gamma g sorts) []) s z.store) same (λ sorts have g base h k. k);
      room = subst (λ (z : TermStore). KeepsRoom c.args.self.now z) same (omega arith, omega arith);
    }

pub copy_gamma-requires : goal.copy_gamma-requires
copy_gamma-requires c =
    let vs = the_places c.args.variables in
    let f = subst (λ xs. IsTrue (list_all (gamma_fits_in c.args.self.now.store vs) xs)) (sym c.items-gamma-items.ensures) c.requires in
    grown-gamma_fits c.args.self.now.store c.loop-gamma.self.store vs (the_pattern_gamma c.gamma-item.result) (Grows-built c.args.self.now.store c.loop-gamma.self.store c.loop-gamma.invariant.adds.built)
    (all-item the_pattern_gamma (gamma_fits_in c.args.self.now.store vs) c.items-gamma-items.result.now c.loop-gamma.gamma-index c.gamma-item.result c.gamma-item.result f (omega arith) c.gamma-item.is)

pub loop-gamma-preserved : goal.loop-gamma-preserved
loop-gamma-preserved c =
    let vs = the_places c.args.variables in
    let one = map-take-item the_pattern_gamma c.items-gamma-items.result.now c.loop-gamma.gamma-index c.gamma-item.result c.gamma-item.result (omega arith) c.gamma-item.is in
    let a = c.loop-gamma.invariant.room in
    let b = c.in_ok-copy.ensures.room in
    record {
      copied = subst (λ xs. GammasCopied c.copy_gamma.new.self.store vs (length c.args.self.now.store.cells) c.push.new.self xs) (sym one)
          (gamma-more c.args.self.now.store c.loop-gamma.self.store c.copy_gamma.new.self.store vs c.loop-gamma.copied c.push.new.self (map the_pattern_gamma (take c.loop-gamma.gamma-index c.items-gamma-items.result.now)) (the_pattern_gamma c.gamma-item.result) (the_gamma c.in_ok-copy.copy) c.loop-gamma.invariant.copied c.loop-gamma.invariant.adds c.in_ok-copy.ensures.adds c.in_ok-copy.ensures.copy c.in_ok-copy.ensures.sorts c.in_ok-copy.ensures.own c.in_ok-push.ensures.ok);
      adds = over-both vs c.args.self.now.store c.loop-gamma.self.store c.copy_gamma.new.self.store c.loop-gamma.invariant.adds c.in_ok-copy.ensures.adds;
      within = subst (λ xs. BuildsOver vs (λ sorts g. list_all (allows_gamma g sorts) xs) c.args.self.now.store c.copy_gamma.new.self.store) (sym one)
          (within-item vs allows_gamma (map the_pattern_gamma (take c.loop-gamma.gamma-index c.items-gamma-items.result.now)) (the_pattern_gamma c.gamma-item.result) c.args.self.now.store c.loop-gamma.self.store c.copy_gamma.new.self.store c.loop-gamma.invariant.adds.built c.loop-gamma.invariant.within c.in_ok-copy.ensures.within);
      room = (omega arith, omega arith);
    }

pub returns-in_err-copied-clause-adds : goal.returns-in_err-copied-clause-adds
returns-in_err-copied-clause-adds c = subst (λ (z : TermStore). AddsOver (the_places c.args.variables) c.args.self.now.store z.store) (sym c.in_err-copied.ensures.same) (names-same (the_places c.args.variables) c.args.self.now.store)

pub returns-in_err-copy-clause-adds : goal.returns-in_err-copy-clause-adds
returns-in_err-copy-clause-adds c = over-both (the_places c.args.variables) c.args.self.now.store c.loop-gamma.self.store c.copy_gamma.new.self.store c.loop-gamma.invariant.adds c.in_err-copy.ensures.adds

pub returns-in_err-push-clause-adds : goal.returns-in_err-push-clause-adds
returns-in_err-push-clause-adds c = over-both (the_places c.args.variables) c.args.self.now.store c.loop-gamma.self.store c.copy_gamma.new.self.store c.loop-gamma.invariant.adds c.in_ok-copy.ensures.adds

pub returns-clause-within : goal.returns-clause-within
returns-clause-within c = subst (λ xs. BuildsOver (the_places c.args.variables) (λ sorts g. list_all (allows_gamma g sorts) xs) c.args.self.now.store c.loop-gamma.self.store) c.items-gamma-items.ensures (subst (λ xs. BuildsOver (the_places c.args.variables) (λ sorts g. list_all (allows_gamma g sorts) (map the_pattern_gamma xs)) c.args.self.now.store c.loop-gamma.self.store) (take_all c.loop-gamma.gamma-index c.items-gamma-items.result.now (omega arith)) c.loop-gamma.invariant.within)
