-- What the walks find is the derivation without idle steps.
use Rattle.std.proofs.Common.{◌≡◌, ◌≤◌, List, length, IsTrue, Some, sym, subst}
use Rattle.calculus.specs.Calculus.{Derives}
use Rattle.calculus.specs.Derivations.{Derivation, Names, Step}
use Rattle.calculus.specs.Problems.{is_problem}
use Rattle.calculus.specs.Syntax.{Problem}
use Rattle.calculus.proofs.SoundnessLaws.{fits-problem}
use Rattle.trim_theory.specs.Editing.{edited_in}
use Rattle.trim_theory.specs.Found.{MayReplace, by_edits, steps_left}
use Rattle.trim_theory.specs.Trims.{IsTrimOf}
use Rattle.trim_theory.specs.UsedNames.{mentioned}
use Rattle.trim_theory.specs.declared.edit.Edit.{Edit}
use Rattle.trim_theory.proofs.FoundLaws.{is_trim-replaced}

pub trimmed-by : (P : Problem) (d : Derivation) (left steps : List Step) (names : Names) → IsTrue (is_problem P) → Derives P d → left ≡ steps_left P d.steps → MayReplace P left steps → names ≡ mentioned steps d.names → IsTrimOf P d (record { limit = d.limit; names = names; steps = steps })
trimmed-by P d left steps names well derives h r e =
    subst (λ (ns : Names). IsTrimOf P d (record { limit = d.limit; names = ns; steps = steps })) (sym e)
    (is_trim-replaced P d steps (fits-problem P well) derives (subst (λ (xs : List Step). MayReplace P xs steps) h r))

pub replaced-by : (P : Problem) (xs zs ys : List Step) → ((es : List Edit) × (edited_in P es xs ≡ Some zs)) → ys ≡ steps_left P zs → length ys ≤ length xs → MayReplace P xs ys
replaced-by P xs zs ys r h less =
    subst (λ (q : List Step). MayReplace P xs q) (sym h) (by_edits r.0 zs r.1 (subst (λ (q : List Step). length q ≤ length xs) h less))
