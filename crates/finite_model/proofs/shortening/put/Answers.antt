use Rattle.std.proofs.Common.{◌+◌, ◌*◌, min, ◌++◌, ◌∷◌, [], ◌∙◌, ap, refl, subst}
use Rattle.calculus.specs.Syntax.{var}
use Rattle.finite_model.specs.Shortened.{IsShort}
use Rattle.finite_model.proofs.ShortLaws.{known-put, open-put}
use Rattle.finite_model.proofs.shortening.put.Goals as goal

pub returns-in_ok-push-in-Known : goal.returns-in_ok-push-in-Known
returns-in_ok-push-in-Known c = λ ts t h k.
    known-put c.args.structure.now c.args.depth c.in-Known.element ts t c.args.args.now _ h (subst (IsShort c.args.structure.now c.args.depth t) c.in-Known.is k)
    (c.in_ok-push-in-Known.ensures.ok ∙ ap (λ n. c.args.args.now.terms ++ var (c.args.depth + n) ∷ []) c.from.ensures) refl (λ p e. c.place_with-args.ensures p e ∙ ap (λ n. min (p * n + c.in-Known.element) 18446744073709551615) c.elements.ensures)

pub returns-in_ok-push-in-Open : goal.returns-in_ok-push-in-Open
returns-in_ok-push-in-Open c = λ ts t h k.
    open-put c.args.structure.now c.args.depth ts t _ c.args.args.now _ h (subst (IsShort c.args.structure.now c.args.depth t) c.in-Open.is k) c.in_ok-push-in-Open.ensures.ok refl
