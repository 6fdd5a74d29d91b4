-- A tableau that is closed but for its long strings, computed.
use Rattle.std.proofs.Common.{◌≡◌, ℕ, List, [], ◌∷◌, ◌&&◌, true, false, refl}
use Rattle.std.specs.Prelude.{codes}
use Rattle.calculus.specs.declared.sign.Sign.{Sign}
use Rattle.calculus.specs.declared.sign.Sign.TheVariants.{T, F}
use Rattle.calculus.specs.declared.sign.Side.{Side}
use Rattle.calculus.specs.declared.sign.Side.TheVariants.{Left, Right}
use Rattle.calculus.specs.declared.symbol.SymbolClass.TheVariants.{Predicate}
use Rattle.calculus.specs.declared.setting.Logic.TheVariants.{S4}
use Rattle.calculus.specs.declared.setting.Domains.TheVariants.{Cumulative}
use Rattle.calculus.specs.Syntax.{no_terms, atom, imp, box, dia, setting_of, Problem}
use Rattle.calculus.specs.Ground.{GroundMark, g_spare_mark, no_g_terms, steps, marks_tree, GroundLiteral}
use Rattle.calculus.specs.Instances.{ClauseInstance}
use Rattle.calculus.specs.Tableaux.{extend, no_closings, more_closings, Tableau, is_short, is_closed, HasClosed}
use Rattle.matrix_theory.specs.AnyStrings.{is_closed_by_any_strings}
use Rattle.string_theory.proofs.AnyStringLaws.{closed_by_short_strings}

-- what is closed is what is closed by strings of any length and has short ones
closed_by_both : (P : Problem) (d : ℕ) (t : Tableau) → is_closed P d t ≡ (is_closed_by_any_strings P d t && is_short P t)
closed_by_both P d t = refl

-- #box: p => #dia: p in S4
example_problem : Problem
example_problem = record { setting = setting_of S4 Cumulative; formula = imp (box (atom 0 no_terms)) (dia (atom 0 no_terms)); symbols = record { name = codes "p"; class = Predicate; arity = 0 } ∷ [] }

abbrev far : List GroundMark
far = g_spare_mark 0 ∷ g_spare_mark 0 ∷ g_spare_mark 1 ∷ []

abbrev there : Sign → GroundLiteral
there s = record { sign = s; symbol = 0; args = no_g_terms; label = far }

abbrev part : Side → Sign → ClauseInstance
part d s = record { selection = d ∷ []; values = steps (marks_tree far) ∷ []; literals = there s ∷ [] }

long_tableau : Tableau
long_tableau = record { start = part Right F; goals = more_closings (extend (part Left T) 0 no_closings) no_closings }

-- its two nu steps allow strings of two characters, and these have three
too_long : is_closed example_problem 1 long_tableau ≡ false
unfolding example_problem long_tableau
too_long = refl

but_closed : is_closed_by_any_strings example_problem 1 long_tableau ≡ true
unfolding example_problem long_tableau
but_closed = refl

short_too : HasClosed example_problem 2
unfolding long_tableau
short_too = closed_by_short_strings example_problem 1 long_tableau but_closed
