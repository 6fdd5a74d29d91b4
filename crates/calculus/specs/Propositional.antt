-- Propositional problems: classical, with no quantifier, no modal operator and no term; and tautologies.
use Rattle.std.specs.Prelude.{◌≡◌, ℕ, Bool, true, false, not, ◌&&◌, ◌||◌, IsTrue}
use Rattle.calculus.specs.declared.setting.Logic.TheVariants.{Classical}
use Rattle.calculus.specs.Syntax.{no_terms, more_terms, Formula, atom, neg, conj, disj, imp, all, ex, box, dia, Problem}

abbrev pub is_propositional : Formula → Bool
is_propositional (atom p no_terms) = true
is_propositional (atom p (more_terms t ts)) = false
is_propositional (neg a) = is_propositional a
is_propositional (conj a b) = is_propositional a && is_propositional b
is_propositional (disj a b) = is_propositional a && is_propositional b
is_propositional (imp a b) = is_propositional a && is_propositional b
is_propositional (all a) = false
is_propositional (ex a) = false
is_propositional (box a) = false
is_propositional (dia a) = false

pub record IsPropositional (P : Problem) : Type 0 where
  pub classical : P.setting.logic ≡ Classical
  pub formula : IsTrue (is_propositional P.formula)

-- the truth value of a propositional formula, by those of its propositions
abbrev pub truth_value : (ℕ → Bool) → Formula → Bool
truth_value v (atom p ts) = v p
truth_value v (neg a) = not (truth_value v a)
truth_value v (conj a b) = truth_value v a && truth_value v b
truth_value v (disj a b) = truth_value v a || truth_value v b
truth_value v (imp a b) = not (truth_value v a) || truth_value v b
truth_value v _ = false

-- true whatever truth values the propositions have
pub record IsTautology (P : Problem) : Type 0 where
  pub at_each : (v : ℕ → Bool) → IsTrue (truth_value v P.formula)
