use Rattle.std.proofs.Common.{ap, sym, subst, ◌∙◌}
use Rattle.store_theory.specs.Bindings.{MayBind, KeepsMarks, IsWellFormed, with_binding}
use Rattle.store_theory.proofs.BindingLaws.{KeepsMarks-with_binding, IsWellFormed-with_binding}
use Rattle.term_store.proofs.StoreFacts.{bound-store, sound, well-bound}
use Rattle.term_store.proofs.store.Store.bind.Goals as goal

pub invariant_of-self : goal.invariant_of-self
invariant_of-self c =
    rw (c.bind_slot.ensures.slots, c.push.ensures.list)
    (well-bound c.self.inside.cells.list c.self.inside.parts.items c.self.inside.trail.list c.args.v.0 c.args.to c.self.invariant
    (subst (λ s. MayBind s c.args.v.0 c.args.to.0) (sym (ap (λ v. v.store) c.self.view_is)) c.requires.may))

pub returns-clause-store : goal.returns-clause-store
returns-clause-store c =
    rw (c.bind_slot.ensures.slots, c.push.ensures.list)
    (bound-store c.self.inside.cells.list c.self.inside.parts.items c.self.inside.trail.list c.args.v.0 c.args.to ∙ ap (λ v. with_binding c.args.v.0 c.args.to.0 v.store) c.self.view_is)

pub returns-clause-marks : goal.returns-clause-marks
returns-clause-marks c =
    let w = sound c.self.inside.cells.list c.self.inside.parts.items c.self.inside.trail.list c.self.invariant in
    let w' = subst IsWellFormed (ap (λ v. v.store) c.self.view_is) w in
    subst (KeepsMarks c.args.self.now.store) (sym (returns-clause-store c)) (KeepsMarks-with_binding c.args.v.0 c.args.to.0 c.args.self.now.store w'.fits c.requires.may)

pub returns-clause-well : goal.returns-clause-well
returns-clause-well c =
    let w = sound c.self.inside.cells.list c.self.inside.parts.items c.self.inside.trail.list c.self.invariant in
    let w' = subst IsWellFormed (ap (λ v. v.store) c.self.view_is) w in
    subst IsWellFormed (sym (returns-clause-store c)) (IsWellFormed-with_binding c.args.v.0 c.args.to.0 c.args.self.now.store w' c.requires.may)
