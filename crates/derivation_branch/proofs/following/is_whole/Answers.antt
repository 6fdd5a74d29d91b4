use Rattle.std.proofs.Common.{◌≡◌, ◌++◌, ◌==◌, ◌∙◌, ap, length, refl, subst, sym}
use Rattle.std.specs.Prelude.{IfSome, IsNone}
use Rattle.formula_text.specs.Rows.{row_of}
use Rattle.derivation_branch.proofs.FollowingLaws.{none-told, rest-told, turned}
use Rattle.derivation_branch.proofs.following.is_whole.Goals as goal

pub returns-in-Some-clause-told : goal.returns-in-Some-clause-told
returns-in-Some-clause-told c = λ t u s n.
    rest-told t u c.in-Some.rest.now (subst (λ o. IfSome o (λ r. row_of t ≡ row_of u ++ r.now)) c.in-Some.is s) c.is_empty.result (λ e. c.is_empty.ensures ∙ ap (λ l. length l == 0) e)

pub returns-in-Some-clause-turned : goal.returns-in-Some-clause-turned
returns-in-Some-clause-turned c = λ t u s n.
    rest-told t u c.in-Some.rest.now (subst (λ o. IfSome o (λ r. row_of t ≡ row_of u ++ r.now)) c.in-Some.is s) c.is_empty.result (λ e. c.is_empty.ensures ∙ ap (λ l. length l == 0) e) ∙ turned t u

pub returns-in-None-clause-told : goal.returns-in-None-clause-told
returns-in-None-clause-told c = λ t u s n.
    none-told t u (n (subst (λ o. IsNone o) (sym c.in-None.is) refl))

pub returns-in-None-clause-turned : goal.returns-in-None-clause-turned
returns-in-None-clause-turned c = λ t u s n.
    none-told t u (n (subst (λ o. IsNone o) (sym c.in-None.is) refl)) ∙ turned t u
