-- Two tableaux made by hand, with their turns in order, their names and the derivations that they become.
use Rattle.std.proofs.Common.{◌≡◌, ℕ, ◌+◌, ◌*◌, List, [], ◌∷◌, map, Some, None, true, refl}
use Rattle.std.specs.Prelude.{codes}
use Rattle.calculus.specs.declared.version.Version.TheVariants.{One}
use Rattle.calculus.specs.declared.sign.Sign.{Sign}
use Rattle.calculus.specs.declared.sign.Sign.TheVariants.{T, F}
use Rattle.calculus.specs.declared.sign.Side.{Side}
use Rattle.calculus.specs.declared.sign.Side.TheVariants.{Left, Right}
use Rattle.calculus.specs.declared.symbol.SymbolClass.TheVariants.{Predicate}
use Rattle.calculus.specs.declared.setting.Logic.{Logic}
use Rattle.calculus.specs.declared.setting.Logic.TheVariants.{Intuitionistic, D}
use Rattle.calculus.specs.declared.setting.Domains.TheVariants.{Constant}
use Rattle.calculus.specs.Syntax.{no_terms, Formula, atom, neg, disj, imp, box, dia, setting_of, Problem}
use Rattle.calculus.specs.Ground.{GroundMark, Value, no_g_terms, g_new_mark, g_spare_mark, no_marks, more_marks, steps, no_values, more_values, GroundLiteral}
use Rattle.calculus.specs.Sizes.{value_list_size}
use Rattle.calculus.specs.Instances.{Turn, ClauseInstance}
use Rattle.calculus.specs.Tableaux.{extend, no_closings, more_closings, Tableau, is_closed}
use Rattle.conversion_theory.specs.Turns.{Name, mark_name, turns_of, names_of_tableau}
use Rattle.conversion_theory.specs.Numbering.{number_in, number_of, numbered_label, name_lines_of}
use Rattle.calculus.specs.Derivations.{no_modal, to, by_new, no_term, apply_to, close, Derivation}
use Rattle.calculus.specs.DerivationText.{is_printable}
use Rattle.calculus.specs.Judgement.{accepted}
use Rattle.calculus.specs.VersionJudgement.{verdict_in}

abbrev p : Formula
p = atom 0 no_terms

abbrev problem : Logic → Formula → Problem
problem l f = record { setting = setting_of l Constant; formula = f; symbols = record { name = codes "p"; class = Predicate; arity = 0 } ∷ [] }

abbrev lit : Sign → List GroundMark → GroundLiteral
lit s w = record { sign = s; symbol = 0; args = no_g_terms; label = w }

abbrev inst : List Side → List Value → List GroundLiteral → ClauseInstance
inst s v l = record { selection = s; values = v; literals = l }

abbrev at : ℕ → List Value → Turn
at q vs = record { position = q; values = vs }

-- by the size of the values, then by the position
abbrev keys : List Turn → List ℕ
keys agenda = map (λ (x : Turn). value_list_size x.values * 10 + x.position) agenda

-- ---- #box:p => #dia:p in D, with a spare character

abbrev serial : Problem
serial = problem D (imp (box p) (dia p))

abbrev step_1 : List Value
step_1 = steps (more_marks (g_spare_mark 1) no_marks) ∷ []

abbrev serial_tableau : Tableau
serial_tableau = record { start = inst (Right ∷ []) step_1 (lit F (g_spare_mark 1 ∷ []) ∷ []); goals = more_closings (extend (inst (Left ∷ []) step_1 (lit T (g_spare_mark 1 ∷ []) ∷ [])) 0 no_closings) no_closings }

serial_closed : is_closed serial 1 serial_tableau ≡ true
serial_closed = refl

-- the start reaches 0, 3 and 4, the extension 0, 1 and 2
serial_turns : turns_of serial serial_tableau ≡ at 0 [] ∷ at 3 step_1 ∷ at 4 step_1 ∷ at 0 [] ∷ at 1 step_1 ∷ at 2 step_1 ∷ []
serial_turns = refl

abbrev serial_agenda : List Turn
serial_agenda = at 0 [] ∷ at 1 step_1 ∷ at 2 step_1 ∷ at 3 step_1 ∷ at 4 step_1 ∷ []

serial_keys : keys serial_agenda ≡ 0 ∷ 41 ∷ 42 ∷ 43 ∷ 44 ∷ []
serial_keys = refl

abbrev serial_names : List Name
serial_names = mark_name (g_spare_mark 1) ∷ []

serial_mentioned : names_of_tableau serial serial_tableau ≡ mark_name (g_spare_mark 1) ∷ mark_name (g_spare_mark 1) ∷ mark_name (g_spare_mark 1) ∷ mark_name (g_spare_mark 1) ∷ []
serial_mentioned = refl

serial_number : number_in serial_names (mark_name (g_spare_mark 1)) ≡ Some 1
serial_number = refl

serial_unknown : number_in serial_names (mark_name (g_spare_mark 2)) ≡ None
serial_unknown = refl

-- the atoms have no step
abbrev serial_derivation : Derivation
serial_derivation = record {
  limit = 1;
  names = name_lines_of (number_of serial_names) serial serial_names;
  steps = apply_to 1 no_modal no_term ∷ apply_to 2 (to (numbered_label (number_of serial_names) (g_spare_mark 1 ∷ []))) no_term ∷ apply_to 3 (to (numbered_label (number_of serial_names) (g_spare_mark 1 ∷ []))) no_term ∷ close 4 5 ∷ [];
}

serial_derives : verdict_in One serial serial_derivation ≡ accepted
serial_derives = refl

serial_printable : is_printable serial serial_derivation ≡ true
serial_printable = refl

-- ---- ~~(p | ~p) in intuitionistic logic

abbrev excluded : Problem
excluded = problem Intuitionistic (neg (neg (disj p (neg p))))

-- the characters of the positions 0, 4 (of ~p, after the string of position 1) and 3 (of p)
abbrev m0 : GroundMark
m0 = g_new_mark 0 no_values

abbrev here : List Value
here = steps no_marks ∷ []

abbrev m4 : GroundMark
m4 = g_new_mark 4 (more_values (steps no_marks) no_values)

abbrev deeper : List Value
deeper = steps (more_marks m4 no_marks) ∷ []

abbrev m3 : GroundMark
m3 = g_new_mark 3 (more_values (steps (more_marks m4 no_marks)) no_values)

abbrev last : List Value
last = steps no_marks ∷ steps (more_marks m3 no_marks) ∷ []

abbrev excluded_tableau : Tableau
excluded_tableau = record { start = inst (Left ∷ []) deeper (lit F (m0 ∷ m4 ∷ m3 ∷ []) ∷ []); goals = more_closings (extend (inst (Right ∷ []) last (lit T (m0 ∷ m4 ∷ m3 ∷ []) ∷ [])) 0 no_closings) no_closings }

excluded_closed : is_closed excluded 1 excluded_tableau ≡ true
excluded_closed = refl

-- the start reaches 0 to 3, the extension 0, 1, 2, 4 and 5
excluded_turns : turns_of excluded excluded_tableau ≡ at 0 [] ∷ at 1 deeper ∷ at 2 deeper ∷ at 3 deeper ∷ at 0 [] ∷ at 1 here ∷ at 2 here ∷ at 4 here ∷ at 5 last ∷ []
excluded_turns = refl

-- position 4 comes before position 1 with the string that mentions its character
abbrev excluded_agenda : List Turn
excluded_agenda = at 0 [] ∷ at 1 here ∷ at 2 here ∷ at 4 here ∷ at 1 deeper ∷ at 2 deeper ∷ at 3 deeper ∷ at 5 last ∷ []

excluded_keys : keys excluded_agenda ≡ 0 ∷ 21 ∷ 22 ∷ 24 ∷ 61 ∷ 62 ∷ 63 ∷ 125 ∷ []
excluded_keys = refl

abbrev excluded_names : List Name
excluded_names = mark_name m0 ∷ mark_name m4 ∷ mark_name m3 ∷ []

abbrev num : Name → ℕ
num = number_of excluded_names

excluded_derivation : Derivation
excluded_derivation = record {
  limit = 1;
  names = name_lines_of num excluded excluded_names;
  steps =
      apply_to 1 (by_new (num (mark_name m0))) no_term
      ∷ apply_to 2 (to (numbered_label num (m0 ∷ []))) no_term
      ∷ apply_to 3 no_modal no_term
      ∷ apply_to 5 (by_new (num (mark_name m4))) no_term
      ∷ apply_to 2 (to (numbered_label num (m0 ∷ m4 ∷ []))) no_term
      ∷ apply_to 7 no_modal no_term
      ∷ apply_to 8 (by_new (num (mark_name m3))) no_term
      ∷ apply_to 6 (to (numbered_label num (m0 ∷ m4 ∷ m3 ∷ []))) no_term
      ∷ close 11 10
      ∷ [];
}

excluded_derives : verdict_in One excluded excluded_derivation ≡ accepted
unfolding excluded_derivation
excluded_derives = refl

excluded_printable : is_printable excluded excluded_derivation ≡ true
unfolding excluded_derivation
excluded_printable = refl
