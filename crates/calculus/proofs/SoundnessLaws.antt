-- The sequent calculus is sound: what has a printable derivation is true at the root of each structure of the setting, of any size, in
-- all six logics and for the three domain conditions.
use Rattle.std.proofs.Common.{◌≡◌, ℕ, zero, suc, List, [], Bool, true, false, ◌&&◌, IsTrue, refl, ◌∙◌, subst, inl, inr, Option, Some, None, Ok, Err, slice_get, length, nat_le}
use Rattle.std.specs.List.{list_all}
use Rattle.std.proofs.lemmas.Bool.{cases_Bool, and_parts, true_from_ne_false}
use Rattle.calculus.specs.Syntax.{Term, Problem}
use Rattle.calculus.specs.Measures.{node_count, nesting}
use Rattle.calculus.specs.declared.fault.StepFault.TheVariants.{NoConnection}
use Rattle.calculus.specs.Problems.{setting_fits, symbol_fits, are_distinct, formula_fits, is_problem}
use Rattle.calculus.specs.Derivations.{Entry, Sequent, Names, ModalArg, TermArg, Step, apply_to, close, Derivation, first_sequent}
use Rattle.calculus.specs.Calculus.{Children, closed, one, two, conditions_of_use, children_of, connects, entry_of, use_entry, close_branch, apply, Closes, leaf, single, fork, Derives}
use Rattle.calculus.specs.Text.{is_number}
use Rattle.calculus.specs.DerivationText.{modal_is_written, term_arg_is_written, step_is_written, names_are_written, is_limit, is_printable}
use Rattle.calculus.specs.Judgement.{accepted}
use Rattle.calculus.specs.Structures.{Structure, is_structure, is_true}
use Rattle.calculus.specs.Models.{Model, IsModel}
use Rattle.calculus.specs.declared.version.Version.{Version}
use Rattle.calculus.specs.declared.version.Version.TheVariants.{One, Two}
use Rattle.calculus.specs.Versions.{is_printable_in, is_count, numbering}
use Rattle.calculus.specs.VersionJudgement.{IsVersionJudgement}
use Rattle.calculus.specs.Soundness.{HasNoDerivation, IsNeverAccepted, IsTrueOver, IsTrueInStructures, IsSound}
use Rattle.calculus.proofs.SequentLaws.{are_met, met-children}
use Rattle.calculus.proofs.StructureLaws.{conditions}
use Rattle.calculus.proofs.Interpretations.{Chosen, chosen, IsCommon, first_interpretation, first-fits, common-element, entry-holds}
use Rattle.calculus.proofs.NamedTruth.{truth-unnamed}
use Rattle.calculus.proofs.FiniteModels.{model_of, is-model, truth-computed}
use Rattle.calculus.proofs.StepSoundness.{Satisfied, SomeChild, connected-apart, child-of_use}

-- ---- a step

pub entry-is : (s : Sequent) (n : ℕ) (e : Entry) → entry_of s n ≡ Some e → (k : ℕ) × (slice_get s k ≡ Some e)
entry-is s zero e h = cc
entry-is s (suc k) e h = (k, h)

-- an axiom does not apply
close-apart : {W E : Type 0} (S : Model W E) (listed : Names) (common : E) (s : Sequent) → Satisfied S listed common s → (m n : ℕ) (a b : Option Entry) → entry_of s m ≡ a → entry_of s n ≡ b → (c : Children) → close_branch a b ≡ Ok c → ⊥
close-apart S listed common s sat m n None b at_a at_b c h = cc
close-apart S listed common s sat m n (Some x) None at_a at_b c h = cc
close-apart S listed common s sat m n (Some x) (Some y) at_a at_b c h = elim (cases_Bool (connects x y)) [
  | inl e ↦
      let left = entry-is s m x at_a in
      let right = entry-is s n y at_b in
      connected-apart S sat.interpretation x y e (entry-holds S sat.interpretation s left.0 x left.1 sat.holds) (entry-holds S sat.interpretation s right.0 y right.1 sat.holds)
  | inr e ↦ let no : Err NoConnection ≡ Ok c = rw e at h in cc
]

-- ---- a derivation

pub written-rest : (P : Problem) (listed : Names) (p : Step → Bool) {s : Sequent} {xs rest : List Step} → Closes P listed s xs rest → list_all p xs ≡ true → list_all p rest ≡ true
written-rest P listed p (leaf {x = x} {rest = rest} e) h = (and_parts (p x) (list_all p rest) h).1
written-rest P listed p (single {x = x} {xs = xs} e c) h = written-rest P listed p c (and_parts (p x) (list_all p xs) h).1
written-rest P listed p (fork {x = x} {xs = xs} e c d) h = written-rest P listed p d (written-rest P listed p c (and_parts (p x) (list_all p xs) h).1)

module _ {W E : Type 0} (P : Problem) (S : Model W E) (c : IsModel P S) (ch : Chosen S) (listed : Names) (common : E) (is_common : IsCommon P S common) where
  use-child : (s : Sequent) → Satisfied S listed common s → (n : ℕ) (o : Option Entry) → entry_of s n ≡ o → (m : ModalArg) (t : TermArg) → term_arg_is_written P.symbols t ≡ true → (d : Children) → use_entry P listed s o m t ≡ Ok d → SomeChild (Satisfied S listed common) d
  use-child s sat n None at m t written d h = cc
  use-child s sat n (Some e) at m t written d h =
      let place = entry-is s n e at in
      let met = are_met (conditions_of_use P listed s e m t) (children_of P.setting.logic s e m t) d h in
      subst (SomeChild (Satisfied S listed common)) (met-children (conditions_of_use P listed s e m t) (children_of P.setting.logic s e m t) d h) (child-of_use P S c ch listed common is_common s sat place.0 e place.1 m t written met)

  -- a step that applies leaves a child whose entries hold
  step-child : (s : Sequent) → Satisfied S listed common s → (x : Step) → step_is_written P.symbols x ≡ true → (d : Children) → apply P listed s x ≡ Ok d → SomeChild (Satisfied S listed common) d
  step-child s sat (apply_to n m t) written d h =
      let parts = and_parts (is_number n && modal_is_written m) (term_arg_is_written P.symbols t) written in
      use-child s sat n (entry_of s n) refl m t parts.1 d h
  step-child s sat (close m n) written d h = absurd (close-apart S listed common s sat m n (entry_of s m) (entry_of s n) refl refl d h)

  -- no steps close a sequent whose entries hold
  not-closed : {s : Sequent} {xs rest : List Step} → Closes P listed s xs rest → list_all (step_is_written P.symbols) xs ≡ true → Satisfied S listed common s → ⊥
  not-closed (leaf {s = s} {x = x} {rest = rest} e) written sat = step-child s sat x (and_parts (step_is_written P.symbols x) (list_all (step_is_written P.symbols) rest) written).0 closed e
  not-closed (single {s = s} {t = t} {x = x} {xs = xs} e d) written sat =
      let parts = and_parts (step_is_written P.symbols x) (list_all (step_is_written P.symbols) xs) written in
      not-closed d parts.1 (step-child s sat x parts.0 (one t) e)
  not-closed (fork {s = s} {t = t} {u = u} {x = x} {xs = xs} e d f) written sat =
      let parts = and_parts (step_is_written P.symbols x) (list_all (step_is_written P.symbols) xs) written in
      elim (step-child s sat x parts.0 (two t u) e) [
        | inl left ↦ not-closed d parts.1 left
        | inr right ↦ not-closed f (written-rest P listed (step_is_written P.symbols) d parts.1) right
      ]

pub fits-problem : (P : Problem) → IsTrue (is_problem P) → formula_fits P.setting.logic P.symbols 0 P.formula ≡ true
fits-problem P h =
    let f = and_parts (setting_fits P.setting.logic P.setting.domains && formula_fits P.setting.logic P.symbols 0 P.formula && list_all symbol_fits P.symbols && are_distinct P.symbols && nat_le (length P.symbols) 65536 && nat_le (node_count P.formula) 4000000) (nat_le (nesting P.formula) 1100) h in
    let e = and_parts (setting_fits P.setting.logic P.setting.domains && formula_fits P.setting.logic P.symbols 0 P.formula && list_all symbol_fits P.symbols && are_distinct P.symbols && nat_le (length P.symbols) 65536) (nat_le (node_count P.formula) 4000000) f.0 in
    let d = and_parts (setting_fits P.setting.logic P.setting.domains && formula_fits P.setting.logic P.symbols 0 P.formula && list_all symbol_fits P.symbols && are_distinct P.symbols) (nat_le (length P.symbols) 65536) e.0 in
    let c = and_parts (setting_fits P.setting.logic P.setting.domains && formula_fits P.setting.logic P.symbols 0 P.formula && list_all symbol_fits P.symbols) (are_distinct P.symbols) d.0 in
    let b = and_parts (setting_fits P.setting.logic P.setting.domains && formula_fits P.setting.logic P.symbols 0 P.formula) (list_all symbol_fits P.symbols) c.0 in
    (and_parts (setting_fits P.setting.logic P.setting.domains) (formula_fits P.setting.logic P.symbols 0 P.formula) b.0).1

first-satisfied : {W E : Type 0} (P : Problem) → IsTrue (is_problem P) → (S : Model W E) → IsModel P S → (names : Term → E) → S.truth names P.formula [] S.root ≡ false → (listed : Names) (common : E) → Satisfied S listed common (first_sequent P)
first-satisfied P problem S c names false_at_root listed common =
    let I = first_interpretation S (chosen P S c) listed common in
    record {
      interpretation = I;
      fits = first-fits P S c (chosen P S c) listed common;
      holds = (truth-unnamed P.setting.logic S c.truth I.names names P.symbols P.formula (fits-problem P problem) S.root ∙ false_at_root, tt);
    }

-- a problem that is false at the root of a structure of its setting has no printable derivation
pub false-underived : {W E : Type 0} (P : Problem) → IsTrue (is_problem P) → (M : Model W E) → IsModel P M → (names : Term → E) → M.truth names P.formula [] M.root ≡ false → HasNoDerivation P
false-underived P problem M c names false_at_root d printable derives =
    let common = common-element P M c in
    let written = and_parts (is_limit d.limit && names_are_written d.names) (list_all (step_is_written P.symbols) d.steps) printable in
    not-closed P M c (chosen P M c) d.names common.0 common.1 derives written.1 (first-satisfied P problem M c names false_at_root d.names common.0)

-- what has a printable derivation is true in each structure of its setting, whatever its worlds and elements are
pub derived-valid : (W E : Type 0) (P : Problem) → IsTrue (is_problem P) → (d : Derivation) → IsTrue (is_printable P d) → Derives P d → IsTrueOver W E P
derived-valid W E P problem d printable derives = record { at_root = λ M c names. true_from_ne_false (M.truth names P.formula [] M.root) (λ e. false-underived P problem M c names e d printable derives) }

-- ---- finite structures

pub refuted-underived : (P : Problem) → IsTrue (is_problem P) → (S : Structure) → IsTrue (is_structure P S) → is_true P S ≡ false → HasNoDerivation P
refuted-underived P problem S structure false_at_root =
    let l = P.setting.logic in
    let names : Term → ℕ = λ t. 0 in
    false-underived P problem (model_of l S) (is-model P S (conditions P S structure)) names (truth-computed l S names P.symbols 0 P.formula (fits-problem P problem) [] 0 ∙ false_at_root)

-- what can be printed in a version can be printed
pub printable-plain : (version : Version) (P : Problem) (d : Derivation) → IsTrue (is_printable_in version P d) → IsTrue (is_printable P d)
printable-plain One P d h = h
printable-plain Two P d h = (and_parts (is_printable P d) (is_count (length (numbering d).labels) && is_count (length (numbering d).terms)) h).0

pub refuted-never_accepted : (P : Problem) → IsTrue (is_problem P) → (S : Structure) → IsTrue (is_structure P S) → is_true P S ≡ false → IsNeverAccepted P
refuted-never_accepted P problem S structure false_at_root bytes judged =
    refuted-underived P problem S structure false_at_root judged.derivation (printable-plain judged.version P judged.derivation judged.text.printable) judged.derives

-- ---- what a contract says

pub derived-true : (P : Problem) → IsTrue (is_problem P) → (d : Derivation) → IsTrue (is_printable P d) → Derives P d → IsTrueInStructures P
derived-true P problem d printable derives = record {
  at_root = λ S structure. true_from_ne_false (is_true P S) (λ e. refuted-underived P problem S structure e d printable derives);
  over_numbers = derived-valid ℕ ℕ P problem d printable derives;
}

pub accepted-true : (P : Problem) → IsTrue (is_problem P) → (bytes : List ℕ) → IsVersionJudgement P bytes accepted → IsTrueInStructures P
accepted-true P problem bytes judged = derived-true P problem judged.derivation (printable-plain judged.version P judged.derivation judged.text.printable) judged.derives

pub sound : (P : Problem) → IsTrue (is_problem P) → IsSound P
sound P problem = record {
  derived_true = derived-true P problem;
  accepted_true = accepted-true P problem;
  underived = refuted-underived P problem;
  never_accepted = refuted-never_accepted P problem;
}
