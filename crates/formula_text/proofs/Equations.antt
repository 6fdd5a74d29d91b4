-- The text of an equation by the items of its list of arguments.
use Rattle.std.proofs.Common.{◌≡◌, ℕ, ◌<◌, ◌≤◌, List, [], ◌∷◌, ◌++◌, map, length, refl, arith, append_assoc}
use Rattle.calculus.specs.Lists.{terms_tree}
use Rattle.calculus.specs.Syntax.{Symbol, Term}
use Rattle.calculus.specs.Text.{equation_text, joined_text}
use Rattle.formula_core.specs.declared.term.Term as term
use Rattle.formula_core.specs.TermView.{the_term}

pub equation-short : (ss : List Symbol) (n : ℕ) (ts : List term.Term) (us : List Term) → map the_term ts ≡ us → length ts < 2 → equation_text ss n (terms_tree us) ≡ []
equation-short ss n [] us m h = rw (← m) refl
equation-short ss n (t ∷ []) us m h = rw (← m) refl
equation-short ss n (t ∷ u ∷ ts) us m h = absurd (omega arith)

pub equation-long : (ss : List Symbol) (n : ℕ) (ts : List term.Term) (us : List Term) → map the_term ts ≡ us → 3 ≤ length ts → equation_text ss n (terms_tree us) ≡ []
equation-long ss n [] us m h = absurd (omega arith)
equation-long ss n (t ∷ []) us m h = absurd (omega arith)
equation-long ss n (t ∷ u ∷ []) us m h = absurd (omega arith)
equation-long ss n (t ∷ u ∷ v ∷ ts) us m h = rw (← m) refl

-- two parts with a connective, written piece by piece
pub joined-by_steps : (a b c d e f left op right : List ℕ) → b ≡ a ++ 40 ∷ [] → c ≡ b ++ left → d ≡ c ++ op → e ≡ d ++ right → f ≡ e ++ 41 ∷ [] → f ≡ a ++ joined_text left op right
joined-by_steps a b c d e f left op right p q r s t = rw (t, s, r, q, p) (simp append_assoc)
