-- What is known where no tableau is closed.
use Rattle.std.proofs.Common.{ℕ, IsTrue, length, arith}
use Rattle.calculus.specs.Problems.{is_problem}
use Rattle.calculus.specs.Syntax.{Problem}
use Rattle.calculus.specs.Tableaux.{HasClosed}
use Rattle.decision_theory.proofs.AnswerLaws.{countermodel_where_never, countermodel_where_none}
use Rattle.decision_theory.proofs.DecisionLaws.{refuted_where_never, refuted_where_none}
use Rattle.decision_theory.proofs.StructureLaws.{counterexample_where_refuted}
use Rattle.derivation_theory.proofs.DerivedLaws.{derived-closes, none-accepted}
use Rattle.string_theory.proofs.AnyStringLaws.{many_where_none, none_by_any_strings}
use Rattle.string_theory.proofs.StringLaws.{way_where_none}
use Rattle.leancop_top.specs.Unclosed.{IsNeverClosed, IsUnclosed}

pub unclosed : (P : Problem) → IsTrue (is_problem P) → (limit : ℕ) → ¬ HasClosed P limit → IsUnclosed P limit
unclosed P well limit none = record {
  none = none;
  ways = way_where_none P limit none;
  by_any_strings = many_where_none P limit none;
  refuted = λ h enough. refuted_where_none P h limit enough none;
  counterexample = λ h enough. counterexample_where_refuted P well h (refuted_where_none P h limit enough none);
  countermodel = λ h enough. countermodel_where_none P well h limit enough none;
}

pub never-closed : (P : Problem) → IsTrue (is_problem P) → ((e : ℕ) → ¬ HasClosed P e) → IsNeverClosed P
never-closed P well none = record {
  none = none;
  underived = λ d printable derives. let c = derived-closes P well d printable derives in none c.0 c.1;
  never_accepted = none-accepted P well none;
  ways = λ is. way_where_none P (length is) (none (length is)) is (omega arith);
  by_any_strings = none_by_any_strings P none;
  refuted = λ h. refuted_where_never P h none;
  counterexample = λ h. counterexample_where_refuted P well h (refuted_where_never P h none);
  countermodel = λ h. countermodel_where_never P well h none;
}
