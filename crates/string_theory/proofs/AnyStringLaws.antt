-- Strings longer than the bound close no further tableau, up to the path limit.
use Rattle.std.proofs.Common.{◌⊎◌, ℕ, ◌<◌, ◌≤◌, length, IsTrue, inl, inr, nat_le}
use Rattle.std.proofs.lemmas.Bool.{cases_Bool, leb-true, leb-false}
use Rattle.calculus.specs.Syntax.{Problem}
use Rattle.calculus.specs.Tableaux.{Tableau, instances, HasClosed}
use Rattle.calculus.proofs.AnswerLaws.{closed-mono}
use Rattle.matrix_theory.specs.AnyStrings.{is_closed_by_any_strings}
use Rattle.matrix_theory.proofs.CompletenessLaws.{spanning_by_any_strings}
use Rattle.string_theory.proofs.StringLaws.{closed_where_instances_span}

-- where a tableau is closed by strings of any length, one is closed by short ones, within as many goals as the first has instances
pub closed_by_short_strings : (P : Problem) (d : ℕ) (t : Tableau) → IsTrue (is_closed_by_any_strings P d t) → HasClosed P (length (instances t))
closed_by_short_strings P d t h = closed_where_instances_span P (instances t) (spanning_by_any_strings P d t h)

-- where no tableau is closed within any limit, none is by strings of any length
pub none_by_any_strings : (P : Problem) → ((d : ℕ) → HasClosed P d → ⊥) → (d : ℕ) (t : Tableau) → IsTrue (is_closed_by_any_strings P d t) → ⊥
none_by_any_strings P none d t h = none (length (instances t)) (closed_by_short_strings P d t h)

-- where none is closed within d, one that is closed by strings of any length has more than d instances
pub many_where_none : (P : Problem) (d : ℕ) → (HasClosed P d → ⊥) → (e : ℕ) (t : Tableau) → IsTrue (is_closed_by_any_strings P e t) → d < length (instances t)
many_where_none P d none e t h = elim (leb-cases (length (instances t)) d) [
  | inl few ↦ absurd (none (closed-mono P (length (instances t)) d few (closed_by_short_strings P e t h)))
  | inr many ↦ many
]
  where
    leb-cases : (a b : ℕ) → (a ≤ b) ⊎ (b < a)
    leb-cases a b = elim (cases_Bool (nat_le a b)) [
      | inl e ↦ inl (leb-true a b e)
      | inr e ↦ inr (leb-false a b e)
    ]
