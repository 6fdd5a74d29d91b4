use Rattle.std.proofs.Common.{[], ◌+◌, ◌≡◌, ◌∙◌, ap, ap₂, length, subst, sym}
use Rattle.store_theory.specs.Bindings.{KeepsMarks, MayBind, with_binding}
use Rattle.prefix_split.specs.Giving.{IsGiven}
use Rattle.prefix_split.specs.Later.{IsLater, KeepsRight}
use Rattle.prefix_split.proofs.LengthLaws.{given-bound, later-given, later-string, may-bind, right-given, with_string}
use Rattle.prefix_split.proofs.lengths.bind_length.Goals as goal

pub returns-in_err-reserve-clause-later : goal.returns-in_err-reserve-clause-later
returns-in_err-reserve-clause-later c =
    let s = c.args.store.now.store in
    let e : c.reserve.new.self.store ≡ with_string c.args.n s = c.in_err-reserve.ensures.store ∙ c.in_ok-built.ensures.ok in
    subst (IsLater s) (sym e) (later-string c.args.n s c.mark-old.ensures.well.fits (subst (KeepsMarks s) c.in_ok-built.ensures.ok c.in_ok-built.ensures.marks))

pub bind-requires-clause-may : goal.bind-requires-clause-may
bind-requires-clause-may c =
    let s = c.args.store.now.store in
    let e : c.reserve.new.self.store ≡ with_string c.args.n s = c.in_ok-reserve.ensures.store ∙ c.in_ok-built.ensures.ok in
    subst (λ x. MayBind x c.args.end.0 c.in_ok-built.built.0) (sym e) (subst (MayBind (with_string c.args.n s) c.args.end.0) (sym c.in_ok-built.ensures.place) (may-bind c.args.n s c.args.end.0 c.requires.unbound))

pub returns-clause-given : goal.returns-clause-given
returns-clause-given c =
    let s = c.args.store.now.store in
    let e : c.reserve.new.self.store ≡ with_string c.args.n s = c.in_ok-reserve.ensures.store ∙ c.in_ok-built.ensures.ok in
    let after : c.bind.new.self.store ≡ with_binding c.args.end.0 (length s.cells + c.args.n) (with_string c.args.n s) = c.bind.ensures.store ∙ ap₂ (λ p x. with_binding c.args.end.0 p x) c.in_ok-built.ensures.place e in
    subst (λ x. IsGiven s x c.args.string.0 c.args.n) (sym after) (given-bound c.args.n s c.args.string.0 c.args.end.0 c.mark-old.ensures.well.fits c.requires.ends c.requires.unbound c.requires.within)

pub returns-clause-later : goal.returns-clause-later
returns-clause-later c =
    let s = c.args.store.now.store in
    let e : c.reserve.new.self.store ≡ with_string c.args.n s = c.in_ok-reserve.ensures.store ∙ c.in_ok-built.ensures.ok in
    let after : c.bind.new.self.store ≡ with_binding c.args.end.0 (length s.cells + c.args.n) (with_string c.args.n s) = c.bind.ensures.store ∙ ap₂ (λ p x. with_binding c.args.end.0 p x) c.in_ok-built.ensures.place e in
    subst (IsLater s) (sym after) (later-given c.args.n s c.args.end.0 c.mark-old.ensures.well.fits c.requires.unbound (subst (KeepsMarks s) c.in_ok-built.ensures.ok c.in_ok-built.ensures.marks) (subst (λ x. KeepsMarks x (with_binding c.args.end.0 (length s.cells + c.args.n) (with_string c.args.n s))) e (subst (KeepsMarks c.reserve.new.self.store) after c.bind.ensures.marks)))

pub returns-clause-right : goal.returns-clause-right
returns-clause-right c = λ P step.
    let s = c.args.store.now.store in
    let e : c.reserve.new.self.store ≡ with_string c.args.n s = c.in_ok-reserve.ensures.store ∙ c.in_ok-built.ensures.ok in
    let after : c.bind.new.self.store ≡ with_binding c.args.end.0 (length s.cells + c.args.n) (with_string c.args.n s) = c.bind.ensures.store ∙ ap₂ (λ p x. with_binding c.args.end.0 p x) c.in_ok-built.ensures.place e in
    subst (KeepsRight P [] s) (sym after) (right-given P c.args.n s c.args.end.0 c.mark-old.ensures.well.fits c.requires.unbound step)
