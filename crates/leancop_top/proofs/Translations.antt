-- How translating a problem ends, and what is done with the translation.
use Rattle.std.proofs.Common.{◌≡◌, ◌↔◌, ◌<◌, ◌≤◌, ℕ, List, Result, Ok, Err, inl, inr, ap, subst, ◌∙◌}
use Rattle.std.proofs.lemmas.Bool.{cases_lt}
use Rattle.calculus.specs.Measures.{nesting, node_count}
use Rattle.calculus.specs.Syntax.{Problem, Setting}
use Rattle.calculus.specs.Translation.{translated_problem, translation_of}
use Rattle.calculus.specs.declared.setting.Logic.TheVariants.{Intuitionistic}
use Rattle.godel_transfer.specs.declared.fault.TransferFault.{TransferFault}
use Rattle.godel_transfer.specs.declared.fault.TransferFault.TheVariants as fault
use Rattle.leancop_top.specs.Reading.{IsReadIn}
use Rattle.leancop_top.specs.Translating.{IsTranslatable}
use Rattle.leancop_top.specs.declared.problem.Reading.TheVariants.{Read}

ok-err : {A : Type 0} (x : A) (f : TransferFault) (r : Result A TransferFault) → r ≡ Ok x → r ≡ Err f → ⊥
ok-err x f r h k = absurd (cc)

at_most : (m n : ℕ) → ((m < n) → ⊥) → n ≤ m
at_most m n h = elim (cases_lt m n) [
  | inl more ↦ absurd (h more)
  | inr less ↦ less
]

-- what was translated passes no limit
pub fits : {A : Type 0} (P : Problem) (x : A) (r : Result A TransferFault) → r ≡ Ok x
    → ((r ≡ Err fault.NestingTooDeep) ↔ (1000 < nesting (translation_of P.formula)))
    → ((r ≡ Err fault.FormulaTooLarge) ↔ ((nesting (translation_of P.formula) ≤ 1000) × (4000000 < node_count (translation_of P.formula))))
    → IsTranslatable P
fits P x r e deep large =
    let nests = at_most 1000 (nesting (translation_of P.formula)) (λ h. ok-err x fault.NestingTooDeep r e (deep.1 h)) in
    record {
      nests = nests;
      nodes = at_most 4000000 (node_count (translation_of P.formula)) (λ h. ok-err x fault.FormulaTooLarge r e (large.1 (nests, h)));
    }

-- a problem that is read in intuitionistic logic is one of it
pub intuitionistic : (s : Setting) (P : Problem) → s.logic ≡ Intuitionistic → IsReadIn s (Read P) → P.setting.logic ≡ Intuitionistic
intuitionistic s P e h = ap (λ t. t.logic) h ∙ e
