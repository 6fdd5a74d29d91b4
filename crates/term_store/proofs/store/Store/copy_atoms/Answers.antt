use Rattle.std.proofs.Common.{arith, length, map, subst, sym, take}
use Rattle.std.specs.List.{list_all}
use Rattle.std.proofs.lemmas.List.{take_all}
use Rattle.store_theory.proofs.PatternLaws.{Grows-built}
use Rattle.cop_base.proofs.Items.{map-take-item}
use Rattle.term_store.specs.ClauseView.{the_atom, the_pattern_atom}
use Rattle.term_store.specs.Copying.{AtomsCopied}
use Rattle.term_store.specs.Fitting.{atom_fits_in}
use Rattle.term_store.specs.RefView.{the_places}
use Rattle.term_store.proofs.CopyLaws.{all-item}
use Rattle.term_store.proofs.FitLaws.{grown-atom_fits}
use Rattle.term_store.proofs.ListLaws.{atom-more, atoms-none}
use Rattle.term_store.proofs.OwnLaws.{names-same, over-both}
use Rattle.term_store.proofs.SignatureLaws.{within-item}
use Rattle.term_store.specs.Signatures.{BuildsOver, allows_atom}
use Rattle.term_store.proofs.store.Store.copy_atoms.Goals as goal

pub loop-atom-init : goal.loop-atom-init
loop-atom-init c = record {
  copied = atoms-none c.args.self.now.store (the_places c.args.variables) (length c.args.self.now.store.cells) c.args.copied.now;
  adds = names-same (the_places c.args.variables) c.args.self.now.store;
  within = λ sorts have g base h k. k;
  room = (omega arith, omega arith);
}

pub copy_atom-requires : goal.copy_atom-requires
copy_atom-requires c =
    let vs = the_places c.args.variables in
    grown-atom_fits c.args.self.now.store c.loop-atom.self.store vs (the_pattern_atom c.atom-item.result) (Grows-built c.args.self.now.store c.loop-atom.self.store c.loop-atom.invariant.adds.built)
    (all-item the_pattern_atom (atom_fits_in c.args.self.now.store vs) c.args.atoms.now c.loop-atom.atom-index c.atom-item.result c.atom-item.result c.requires (omega arith) c.atom-item.is)

pub loop-atom-preserved : goal.loop-atom-preserved
loop-atom-preserved c =
    let vs = the_places c.args.variables in
    let one = map-take-item the_pattern_atom c.args.atoms.now c.loop-atom.atom-index c.atom-item.result c.atom-item.result (omega arith) c.atom-item.is in
    let a = c.loop-atom.invariant.room in
    let b = c.in_ok-copy.ensures.room in
    record {
      copied = subst (λ xs. AtomsCopied c.copy_atom.new.self.store vs (length c.args.self.now.store.cells) c.args.copied.now c.push.new.self xs) (sym one)
          (atom-more c.args.self.now.store c.loop-atom.self.store c.copy_atom.new.self.store vs c.args.copied.now c.loop-atom.copied c.push.new.self (map the_pattern_atom (take c.loop-atom.atom-index c.args.atoms.now)) (the_pattern_atom c.atom-item.result) (the_atom c.in_ok-copy.copy) c.loop-atom.invariant.copied c.loop-atom.invariant.adds c.in_ok-copy.ensures.adds c.in_ok-copy.ensures.copy c.in_ok-copy.ensures.sorts c.in_ok-copy.ensures.own c.in_ok-push.ensures.ok);
      adds = over-both vs c.args.self.now.store c.loop-atom.self.store c.copy_atom.new.self.store c.loop-atom.invariant.adds c.in_ok-copy.ensures.adds;
      within = subst (λ xs. BuildsOver vs (λ sorts g. list_all (allows_atom g sorts) xs) c.args.self.now.store c.copy_atom.new.self.store) (sym one)
          (within-item vs allows_atom (map the_pattern_atom (take c.loop-atom.atom-index c.args.atoms.now)) (the_pattern_atom c.atom-item.result) c.args.self.now.store c.loop-atom.self.store c.copy_atom.new.self.store c.loop-atom.invariant.adds.built c.loop-atom.invariant.within c.in_ok-copy.ensures.within);
      room = (omega arith, omega arith);
    }

pub returns-in_err-copy-clause-adds : goal.returns-in_err-copy-clause-adds
returns-in_err-copy-clause-adds c = over-both (the_places c.args.variables) c.args.self.now.store c.loop-atom.self.store c.copy_atom.new.self.store c.loop-atom.invariant.adds c.in_err-copy.ensures.adds

pub returns-in_err-push-clause-adds : goal.returns-in_err-push-clause-adds
returns-in_err-push-clause-adds c = over-both (the_places c.args.variables) c.args.self.now.store c.loop-atom.self.store c.copy_atom.new.self.store c.loop-atom.invariant.adds c.in_ok-copy.ensures.adds

pub returns-clause-within : goal.returns-clause-within
returns-clause-within c = subst (λ xs. BuildsOver (the_places c.args.variables) (λ sorts g. list_all (allows_atom g sorts) (map the_pattern_atom xs)) c.args.self.now.store c.loop-atom.self.store) (take_all c.loop-atom.atom-index c.args.atoms.now (omega arith)) c.loop-atom.invariant.within
