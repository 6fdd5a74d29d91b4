use Rattle.std.proofs.Common.{◌≡◌, ◌∙◌, Err, ap, reverse}
use Rattle.calculus.specs.declared.fault.StepFault.TheVariants.{NoConnection}
use Rattle.derivation_branch.specs.OutlineView.{IsNodeOf}
use Rattle.derivation_check.specs.StateView.{StandsOn, the_entry}
use Rattle.derivation_check.specs.declared.open_sequents.BranchEntry.{BranchEntry}
use Rattle.derivation_check.proofs.NodeLaws.{node-stands}
use Rattle.derivation_check.proofs.StateLaws.{kept-open, stands-within}
use Rattle.derivation_check.proofs.StepLaws.{close-fails, close-leads}
use Rattle.derivation_check.proofs.UsedLaws.{kept-same}
use Rattle.derivation_check.proofs.steps.close_branch.Goals as goal

pub connects-requires-clause-given : goal.connects-requires-clause-given
connects-requires-clause-given c =
    let s = c.args.state.now in
    let xs = s.sequents.branch.items in
    let parts = kept-open c.requires.kept.0 s.substitutions s.labels s.eigens s.marks s.sequents.is_open xs (reverse s.sequents.forks.items) c.requires.is_open c.requires.kept.1.sequents in
    stands-within s.substitutions s.labels xs c.args.given parts.0 c.requires.given

pub connects-requires-clause-shown : goal.connects-requires-clause-shown
connects-requires-clause-shown c =
    let s = c.args.state.now in
    let xs = s.sequents.branch.items in
    let parts = kept-open c.requires.kept.0 s.substitutions s.labels s.eigens s.marks s.sequents.is_open xs (reverse s.sequents.forks.items) c.requires.is_open c.requires.kept.1.sequents in
    stands-within s.substitutions s.labels xs c.args.shown parts.0 c.requires.shown

pub connects-requires-clause-same : goal.connects-requires-clause-same
connects-requires-clause-same c =
    let s = c.args.state.now in
    let h = c.requires.kept.1 in
    let node : (x : BranchEntry) → StandsOn s.sequents.branch.items x → IsNodeOf h.parts x.shared = λ x stands. node-stands h.parts s.sequents.is_open s.sequents.branch.items (reverse s.sequents.forks.items) x c.requires.is_open h.nodes stands in
    (h.parts, h.same, node c.args.given c.requires.given, node c.args.shown c.requires.shown)

pub close-requires : goal.close-requires
close-requires c = record { is_open = c.requires.is_open; nested = c.requires.kept.1.nested }

pub returns-in_ok-close-clause-kept : goal.returns-in_ok-close-clause-kept
returns-in_ok-close-clause-kept c = λ names h.
    let s = c.args.state.now in
    let node : (x : BranchEntry) → StandsOn s.sequents.branch.items x → IsNodeOf h.parts x.shared = λ x stands. node-stands h.parts s.sequents.is_open s.sequents.branch.items (reverse s.sequents.forks.items) x c.requires.is_open h.nodes stands in
    c.in_ok-close.ensures.kept names (kept-same names s c.connects.new.same h (c.in_ok-closes.ensures.same h.parts h.same (node c.args.given c.requires.given) (node c.args.shown c.requires.shown)))

pub returns-in_ok-close-clause-named : goal.returns-in_ok-close-clause-named
returns-in_ok-close-clause-named c = let later = c.in_ok-close.ensures.named in record { homes = later.homes; named = later.named; substitutions = later.substitutions }

pub returns-in_ok-close-clause-leads : goal.returns-in_ok-close-clause-leads
returns-in_ok-close-clause-leads c =
    let s = c.args.state.now in
    close-leads (the_entry s.substitutions s.labels c.args.given) (the_entry s.substitutions s.labels c.args.shown) c.in_ok-closes.closes _ _ c.in_ok-closes.ensures.told c.if-closes.true c.in_ok-close.ensures.closed

pub returns-else-closes-clause-fault : goal.returns-else-closes-clause-fault
returns-else-closes-clause-fault c = λ f e.
    let s = c.args.state.now in
    let same : NoConnection ≡ f = cc in
    close-fails (the_entry s.substitutions s.labels c.args.given) (the_entry s.substitutions s.labels c.args.shown) c.in_ok-closes.closes c.in_ok-closes.ensures.told c.if-closes.false ∙ ap Err same
