-- What it means for a problem with finitely many ground terms that no tableau is closed, within a limit or at all.
use Rattle.std.proofs.Common.{◌≡◌, ℕ, ◌≤◌, IsTrue, refl, inl, inr, length, nat_le, subst}
use Rattle.std.specs.List.{list_all}
use Rattle.std.proofs.lemmas.Bool.{and_parts, false≢true}
use Rattle.calculus.specs.declared.setting.Domains.{Domains}
use Rattle.calculus.specs.declared.setting.Domains.TheVariants.{Constant, Cumulative, Varying}
use Rattle.calculus.specs.declared.setting.Logic.TheVariants.{Classical}
use Rattle.calculus.specs.Measures.{node_count, nesting}
use Rattle.calculus.specs.Problems.{setting_fits, symbol_fits, are_distinct, formula_fits, is_problem}
use Rattle.calculus.specs.Syntax.{Problem}
use Rattle.calculus.specs.Tableaux.{HasClosed}
use Rattle.calculus.proofs.AnswerLaws.{closed-mono}
use Rattle.decision_theory.specs.Countermodels.{HasFiniteCountermodel}
use Rattle.decision_theory.specs.Finite.{IsFinitary, ground_atoms}
use Rattle.decision_theory.proofs.CountermodelLaws.{decided_finite}

constant-fits : (d : Domains) → IsTrue (setting_fits Classical d) → d ≡ Constant
constant-fits Constant h = refl
constant-fits Cumulative h = absurd (false≢true h)
constant-fits Varying h = absurd (false≢true h)

setting-fits : (P : Problem) → IsTrue (is_problem P) → IsTrue (setting_fits P.setting.logic P.setting.domains)
setting-fits P h =
    let f = and_parts _ (nat_le (nesting P.formula) 1100) h in
    let e = and_parts _ (nat_le (node_count P.formula) 4000000) f.0 in
    let d = and_parts _ (nat_le (length P.symbols) 65536) e.0 in
    let c = and_parts _ (are_distinct P.symbols) d.0 in
    let b = and_parts _ (list_all symbol_fits P.symbols) c.0 in
    (and_parts (setting_fits P.setting.logic P.setting.domains) (formula_fits P.setting.logic P.symbols 0 P.formula) b.0).0

-- the domains of a classical problem are constant
constant : (P : Problem) → IsTrue (is_problem P) → P.setting.logic ≡ Classical → P.setting.domains ≡ Constant
constant P problem e = constant-fits P.setting.domains (subst (λ l. IsTrue (setting_fits l P.setting.domains)) e (setting-fits P problem))

pub countermodel_where_none : (P : Problem) → IsTrue (is_problem P) → IsFinitary P → (m : ℕ) → ground_atoms P ≤ m → ¬ HasClosed P m → HasFiniteCountermodel P
countermodel_where_none P problem f m enough none = elim (decided_finite P f.classical (constant P problem f.classical) f.flat f.constants_only) [
  | inl h ↦ absurd (none (closed-mono P (ground_atoms P) m enough h))
  | inr r ↦ r
]

pub countermodel_where_never : (P : Problem) → IsTrue (is_problem P) → IsFinitary P → ((e : ℕ) → ¬ HasClosed P e) → HasFiniteCountermodel P
countermodel_where_never P problem f never = elim (decided_finite P f.classical (constant P problem f.classical) f.flat f.constants_only) [
  | inl h ↦ absurd (never (ground_atoms P) h)
  | inr r ↦ r
]
