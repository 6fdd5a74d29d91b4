-- One position of the way, by the kind that the program finds there.
use Rattle.std.proofs.Common.{◌≡◌, ℕ, ◌<◌, List, ◌∙◌, ap, subst}
use Rattle.calculus.specs.declared.sign.Sign.{Sign}
use Rattle.calculus.specs.declared.setting.Logic.{Logic}
use Rattle.calculus.specs.declared.kind.Shape.{Shape}
use Rattle.calculus.specs.declared.kind.ModalPart.{ModalPart}
use Rattle.store_theory.specs.Bindings.{AddsBuilt}
use Rattle.calculus.specs.Kinds.{shape_of, modal_of, components}
use Rattle.calculus.specs.Positions.{size}
use Rattle.store_theory.specs.Stores.{Store}
use Rattle.calculus.specs.Syntax.{Formula, Problem}
use Rattle.tableau_core.specs.InsideView.{Inside}
use Rattle.domain_cond.specs.Ways.{IsBelow, IsFoundHome, IsPushed, LacksString, LacksTerm, TakesString, TakesTerm}
use Rattle.domain_cond.proofs.WayLaws.{IsOnWay, found-modal, found-shape, on-last, on-next}

-- the kind of the signed formula, in the problem's logic
pub record IsKind (P : Problem) (l : Logic) (sign : Sign) (f : Formula) (modal : ModalPart) (shape : Shape) : Type 0 where
  pub logic : l ≡ P.setting.logic
  pub modal_is : modal ≡ modal_of l sign f
  pub shape_is : shape ≡ shape_of sign f

pub modal-of : (P : Problem) (l : Logic) (sign : Sign) (f : Formula) (modal : ModalPart) (shape : Shape) → IsKind P l sign f modal shape → modal ≡ modal_of P.setting.logic sign f
modal-of P l sign f modal shape k = k.modal_is ∙ ap (λ x. modal_of x sign f) k.logic

pushed-of : (P : Problem) (l : Logic) (sign : Sign) (f : Formula) (modal : ModalPart) (shape : Shape) (cur new : Store) (q : ℕ) (rs : List ℕ) (k : ℕ) (label after : List ℕ) → IsKind P l sign f modal shape → IsPushed l cur new modal q rs k label after → IsPushed P.setting.logic cur new (modal_of P.setting.logic sign f) q rs k label after
pushed-of P l sign f modal shape cur new q rs k label after kind pushed =
    subst (λ x. IsPushed x cur new (modal_of P.setting.logic sign f) q rs k label after) kind.logic
    (subst (λ m. IsPushed l cur new m q rs k label after) (modal-of P l sign f modal shape kind) pushed)

pub step-next : (P : Problem) (l : Logic) (modal : ModalPart) (shape : Shape) (p : ℕ) (old cur new : Store) (rs label after : List ℕ) (k m n q : ℕ) (sign : Sign) (f : Formula) (place : ℕ) (i : Inside) → IsKind P l sign f modal shape → IsOnWay P p old cur rs label k q sign f place → place < size f → 0 < place → TakesString cur modal rs k m → TakesTerm cur shape rs m n → IsPushed l cur new modal q rs k label after → AddsBuilt cur new → IsBelow q place (components sign f) i → IsOnWay P p old new rs after n i.further i.sign i.formula i.place
step-next P l modal shape p old cur new rs label after k m n q sign f place i kind w inside further string takes pushed adds below =
    on-next P p old cur new rs label after k m n q sign f place i w inside further (subst (λ x. TakesString cur x rs k m) (modal-of P l sign f modal shape kind) string) (subst (λ x. TakesTerm cur x rs m n) kind.shape_is takes) (pushed-of P l sign f modal shape cur new q rs k label after kind pushed) adds below

pub step-last : (P : Problem) (l : Logic) (modal : ModalPart) (shape : Shape) (p : ℕ) (old cur new : Store) (rs label after : List ℕ) (k m n q : ℕ) (sign : Sign) (f : Formula) (place : ℕ) → IsKind P l sign f modal shape → IsOnWay P p old cur rs label k q sign f place → place < size f → place ≡ 0 → TakesString cur modal rs k m → TakesTerm cur shape rs m n → IsPushed l cur new modal q rs k label after → AddsBuilt cur new → IsFoundHome P old new p rs after
step-last P l modal shape p old cur new rs label after k m n q sign f place kind w inside last string takes pushed adds =
    on-last P p old cur new rs label after k m n q sign f place w inside last (subst (λ x. TakesString cur x rs k m) (modal-of P l sign f modal shape kind) string) (subst (λ x. TakesTerm cur x rs m n) kind.shape_is takes) (pushed-of P l sign f modal shape cur new q rs k label after kind pushed) adds

pub step-no_string : (P : Problem) (l : Logic) (modal : ModalPart) (shape : Shape) (p : ℕ) (old cur : Store) (rs label : List ℕ) (k q : ℕ) (sign : Sign) (f : Formula) (place : ℕ) → IsKind P l sign f modal shape → IsOnWay P p old cur rs label k q sign f place → place < size f → LacksString cur modal rs k → IsFoundHome P old cur p rs label
step-no_string P l modal shape p old cur rs label k q sign f place kind w inside lacks = found-modal P p old cur rs label k q sign f place w inside (subst (λ x. LacksString cur x rs k) (modal-of P l sign f modal shape kind) lacks)

pub step-no_term : (P : Problem) (l : Logic) (modal : ModalPart) (shape : Shape) (p : ℕ) (old cur : Store) (rs label : List ℕ) (k m q : ℕ) (sign : Sign) (f : Formula) (place : ℕ) → IsKind P l sign f modal shape → IsOnWay P p old cur rs label k q sign f place → place < size f → TakesString cur modal rs k m → LacksTerm cur shape rs m → IsFoundHome P old cur p rs label
step-no_term P l modal shape p old cur rs label k m q sign f place kind w inside string lacks = found-shape P p old cur rs label k m q sign f place w inside (subst (λ x. TakesString cur x rs k m) (modal-of P l sign f modal shape kind) string) (subst (λ x. LacksTerm cur x rs m) kind.shape_is lacks)
