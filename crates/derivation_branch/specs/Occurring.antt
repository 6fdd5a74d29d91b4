-- What stands in a formula: the variable that is bound just outside of it, and numbers of names that are kept in the order of their first places.
use Rattle.std.specs.Prelude.{◌≡◌, ℕ, suc, List, ◌++◌, Bool, false, ◌||◌, ◌==◌}
use Rattle.std.specs.List.{list_any}
use Rattle.calculus.specs.Syntax.{Term, var, eigen, Formula, atom, neg, conj, disj, imp, all, ex, box, dia}
use Rattle.calculus.specs.Calculus.{holds_character}
use Rattle.calculus.specs.Derivations.{Entry, Sequent, Mark, new_mark, character_eq, ModalArg, no_modal, to, by_new, TermArg, no_term, by_term, by_name}
use Rattle.calculus.specs.Substitution.{any_leaf, any_leaf_of, any_leaf_in}

abbrev pub is_variable : ℕ → Term → Bool
is_variable d (var k) = k == d
is_variable d _ = false

-- the variable that is `var d` at the root of the formula stands in it
abbrev pub binds_at : ℕ → Formula → Bool
binds_at d (atom p us) = any_leaf_of (is_variable d) us
binds_at d (neg a) = binds_at d a
binds_at d (conj a b) = binds_at d a || binds_at d b
binds_at d (disj a b) = binds_at d a || binds_at d b
binds_at d (imp a b) = binds_at d a || binds_at d b
binds_at d (all a) = binds_at (suc d) a
binds_at d (ex a) = binds_at (suc d) a
binds_at d (box a) = binds_at d a
binds_at d (dia a) = binds_at d a

-- a name that the test tells stands in a formula of the sequent
abbrev pub occurs : (Term → Bool) → Sequent → Bool
occurs test s = list_any (λ (e : Entry). any_leaf_in test e.formula) s

abbrev pub holds : List ℕ → ℕ → Bool
holds ns n = list_any (λ k. n == k) ns

-- the formula is quantified, and its variable stands in it
abbrev pub quantifier_binds : Formula → Bool
quantifier_binds (all a) = binds_at 0 a
quantifier_binds (ex a) = binds_at 0 a
quantifier_binds _ = false

-- a leaf of the argument of a step on a quantifier passes the test
abbrev pub in_argument : (Term → Bool) → TermArg → Bool
in_argument test no_term = false
in_argument test (by_term t) = any_leaf test t
in_argument test (by_name n) = test (eigen n)

-- the character stands in the argument of a step with a modal part
abbrev pub in_modal : Mark → ModalArg → Bool
in_modal m no_modal = false
in_modal m (to v) = holds_character m v
in_modal m (by_new n) = character_eq m (new_mark n)
