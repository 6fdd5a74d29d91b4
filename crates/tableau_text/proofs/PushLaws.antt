-- An item at the end of a list.
use Rattle.std.specs.Prelude.{Vec}
use Rattle.std.specs.declared.alloc.Global.{Global}
use Rattle.std.proofs.Common.{◌≡◌, ℕ, List, [], ◌∷◌, ◌++◌, refl, subst, sym}
use Rattle.std.specs.List.{AllByRecursion}
use Rattle.plain_laws.proofs.Every.{each-push}
use Rattle.cop_base.specs.declared.PosId.{PosId}
use Rattle.formula_core.specs.GroundLists.{IsNormalTerm, IsNormalMark, IsNormalValue}
use Rattle.formula_core.specs.declared.ground.GroundLabel.{GroundLabel}
use Rattle.formula_core.specs.declared.ground.GroundTerm.{GroundTerm}
use Rattle.formula_core.specs.declared.ground.GroundMark.{GroundMark}
use Rattle.formula_core.specs.declared.ground.Value.{Value}
use Rattle.formula_core.specs.declared.ground.Value.TheVariants as value
use Rattle.tableau_text.specs.OpenView.{IsPushed}
use Rattle.tableau_text.specs.declared.item.TableItem.TheVariants as item
use Rattle.tableau_text.specs.declared.open_list.OpenList.TheVariants as lists
use Rattle.tableau_text.proofs.OpenLaws.{map-last}

normal-with : {A : Type 0} (P : A → Type 0) (xs ys : List A) (x : A) → ys ≡ xs ++ x ∷ [] → AllByRecursion P xs → P x → AllByRecursion P ys
normal-with P xs ys x e h k = subst (AllByRecursion P) (sym e) (each-push P xs x h k)

pub args-term : (name : List ℕ) (old new : Vec GroundTerm Global) (t : GroundTerm) → new.items ≡ old.items ++ t ∷ [] → IsPushed (lists.Args name old) (item.Term t) (lists.Args name new)
args-term name old new t e = record { head = refl; items = λ ls. map-last _ old.items new.items t e; fit = λ ls. refl; normal = λ ls. normal-with (IsNormalTerm ls) old.items new.items t e }

pub own-mark : (k : ℕ) (old new : Vec GroundMark Global) (m : GroundMark) → new.items ≡ old.items ++ m ∷ [] → IsPushed (lists.Own k old) (item.Mark m) (lists.Own k new)
own-mark k old new m e = record { head = refl; items = λ ls. map-last _ old.items new.items m e; fit = λ ls. refl; normal = λ ls. normal-with (IsNormalMark ls) old.items new.items m e }

pub steps-mark : (old new : Vec GroundMark Global) (m : GroundMark) → new.items ≡ old.items ++ m ∷ [] → IsPushed (lists.Steps old) (item.Mark m) (lists.Steps new)
steps-mark old new m e = record { head = refl; items = λ ls. map-last _ old.items new.items m e; fit = λ ls. refl; normal = λ ls. normal-with (IsNormalMark ls) old.items new.items m e }

pub eigen-term : (p : PosId) (old new : Vec Value Global) (t : GroundTerm) → new.items ≡ old.items ++ value.Term t ∷ [] → IsPushed (lists.Eigen p old) (item.Term t) (lists.Eigen p new)
eigen-term p old new t e = record { head = refl; items = λ ls. map-last _ old.items new.items (value.Term t) e; fit = λ ls. refl; normal = λ ls. normal-with (IsNormalValue ls) old.items new.items (value.Term t) e }

pub new-term : (p : PosId) (old new : Vec Value Global) (t : GroundTerm) → new.items ≡ old.items ++ value.Term t ∷ [] → IsPushed (lists.New p old) (item.Term t) (lists.New p new)
new-term p old new t e = record { head = refl; items = λ ls. map-last _ old.items new.items (value.Term t) e; fit = λ ls. refl; normal = λ ls. normal-with (IsNormalValue ls) old.items new.items (value.Term t) e }

pub root-term : (old new : Vec Value Global) (t : GroundTerm) → new.items ≡ old.items ++ value.Term t ∷ [] → IsPushed (lists.Root old) (item.Term t) (lists.Root new)
root-term old new t e = record { head = refl; items = λ ls. map-last _ old.items new.items (value.Term t) e; fit = λ ls. refl; normal = λ ls. normal-with (IsNormalValue ls) old.items new.items (value.Term t) e }

pub eigen-steps : (p : PosId) (old new : Vec Value Global) (w : GroundLabel) → new.items ≡ old.items ++ value.Steps w ∷ [] → IsPushed (lists.Eigen p old) (item.Steps w) (lists.Eigen p new)
eigen-steps p old new w e = record { head = refl; items = λ ls. map-last _ old.items new.items (value.Steps w) e; fit = λ ls. refl; normal = λ ls. normal-with (IsNormalValue ls) old.items new.items (value.Steps w) e }

pub new-steps : (p : PosId) (old new : Vec Value Global) (w : GroundLabel) → new.items ≡ old.items ++ value.Steps w ∷ [] → IsPushed (lists.New p old) (item.Steps w) (lists.New p new)
new-steps p old new w e = record { head = refl; items = λ ls. map-last _ old.items new.items (value.Steps w) e; fit = λ ls. refl; normal = λ ls. normal-with (IsNormalValue ls) old.items new.items (value.Steps w) e }

pub root-steps : (old new : Vec Value Global) (w : GroundLabel) → new.items ≡ old.items ++ value.Steps w ∷ [] → IsPushed (lists.Root old) (item.Steps w) (lists.Root new)
root-steps old new w e = record { head = refl; items = λ ls. map-last _ old.items new.items (value.Steps w) e; fit = λ ls. refl; normal = λ ls. normal-with (IsNormalValue ls) old.items new.items (value.Steps w) e }

pub ruleset pushing = (args-term, own-mark, steps-mark, eigen-term, new-term, root-term, eigen-steps, new-steps, root-steps)
