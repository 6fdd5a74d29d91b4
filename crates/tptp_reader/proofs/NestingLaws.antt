-- A token begins parts at most one deeper than the part in whose place it stands. So while tokens up to the nesting 500 are
-- taken, no part waits that is deeper than 501.
use Rattle.std.proofs.Common.{◌≡◌, ◌==◌, ◌&&◌, ℕ, ◌<◌, ◌≤◌, ◌-◌, suc, Bool, true, false, List, [], ◌∷◌, ◌++◌, None, Some, refl, sym, subst, arith, length, take, get_or}
use Rattle.std.proofs.Math.Nat.{le_refl, le_trans}
use Rattle.std.specs.Prelude.{nat_lt, if◌then◌else◌}
use Rattle.std.proofs.lemmas.Bool.{ltb-false}
use Rattle.tptp_lex.specs.Tokens.{is_digits}
use Rattle.tptp_reader.specs.declared.expected.Expected as program
use Rattle.tptp_reader.specs.declared.expected.Expected.TheVariants.{Items}
use Rattle.tptp_reader.specs.declared.source.ChainKind.{ChainKind}
use Rattle.tptp_reader.specs.declared.source.ChainKind.TheVariants.{And, Or}
use Rattle.tptp_reader.specs.ExpectedView.{the_expected}
use Rattle.tptp_reader.specs.Terminals.{Terminal, lower, upper, quoted, number, dollar, hash, open_round, close_round, open_square, close_square, comma, tilde, exclamation, question, ampersand, bar, implies, implied, equivalent, inequivalent, nor, nand, equal, unequal}
use Rattle.tptp_reader.specs.Expecting.{Expected, Move, a_square, a_dot, an_opening, an_upper, a_quoted, this, term, arguments, some_arguments, some_equation, equation, atom, variables, unit, formula, formula_rest, chain_rest, stop, literal, unsigned, literals_rest, clause, clause_open, clause_rest, items, name, after_body, first_note, notes, include_rest, names_rest, move, moved, is_optional, step, form, form_of, before, head_of, this_move, term_move, arguments_move, some_arguments_move, equation_move, dollar_move, is_truth, atom_move, variables_move, modal_move, is_modality, unit_move, formula_rest_move, chain_rest_move, stop_move, unsigned_move, literal_move, literals_rest_move, clause_move, clause_open_move, clause_rest_move, items_move, name_move, after_body_move, notes_move, first_note_move, include_rest_move, names_rest_move}
use Rattle.tptp_reader.specs.Following.{AreWithin, nesting_of, stack_after, stack_of}
use Rattle.tptp_reader.proofs.StackViews.{stack_of-take}

-- the token has this nesting, and what it begins is at most one deeper
abbrev IsNear : ℕ → Move → Type 0
IsNear d None = Unit {0}
IsNear d (Some m) = (m.0 ≡ d) × AreWithin (suc d) m.1

here : (d : ℕ) → d ≤ suc d
here d = omega arith

within-append : (n : ℕ) (es fs : List Expected) → AreWithin n es → AreWithin n fs → AreWithin n (es ++ fs)
within-append n [] fs h k = k
within-append n (e ∷ es) fs h k = (h.0, within-append n es fs h.1 k)

within-more : (n m : ℕ) (es : List Expected) → n ≤ m → AreWithin n es → AreWithin m es
within-more n m [] l h = tt
within-more n m (e ∷ es) l h = (le_trans h.0 l, within-more n m es l h.1)

before-near : (d : ℕ) (rest : List Expected) (m : Move) → AreWithin (suc d) rest → IsNear d m → IsNear d (before rest m)
before-near d rest None h k = tt
before-near d rest (Some m) h k = (k.0, within-append (suc d) m.1 rest k.1 h)

flag-near : (b : Bool) (d : ℕ) → IsNear d (this_move b d)
flag-near true d = (refl, tt)
flag-near false d = tt

term-near : (d : ℕ) (x : Terminal) → IsNear d (term_move d x)
term-near d (upper w) = (refl, tt)
term-near d (lower w) = (refl, (here d, tt))
term-near d (quoted w) = (refl, (here d, tt))
term-near d _ = tt

arguments-near : (d : ℕ) (x : Terminal) → IsNear d (arguments_move d x)
arguments-near d comma = (refl, (here d, (here d, tt)))
arguments-near d close_round = (refl, tt)
arguments-near d _ = tt

some_arguments-near : (d : ℕ) (x : Terminal) → IsNear d (some_arguments_move d x)
some_arguments-near d open_round = (refl, (le_refl (suc d), (le_refl (suc d), tt)))
some_arguments-near d _ = tt

equation-near : (d : ℕ) (x : Terminal) → IsNear d (equation_move d x)
equation-near d equal = (refl, (here d, tt))
equation-near d unequal = (refl, (here d, tt))
equation-near d _ = tt

dollar-near : (b : Bool) (d : ℕ) → IsNear d (dollar_move b d)
dollar-near true d = (refl, tt)
dollar-near false d = tt

atom-near : (d : ℕ) (x : Terminal) → IsNear d (atom_move d x)
atom-near d (dollar w) = dollar-near (is_truth w) d
atom-near d (upper w) = (refl, (here d, tt))
atom-near d (lower w) = (refl, (here d, (here d, tt)))
atom-near d (quoted w) = (refl, (here d, (here d, tt)))
atom-near d _ = tt

variables-near : (d : ℕ) (x : Terminal) → IsNear d (variables_move d x)
variables-near d comma = (refl, (here d, (here d, tt)))
variables-near d close_square = (refl, (here d, tt))
variables-near d _ = tt

modal-near : (b : Bool) (d : ℕ) → IsNear d (modal_move b d)
modal-near true d = (refl, (here d, (le_refl (suc d), tt)))
modal-near false d = tt

prefix-near : (d : ℕ) → AreWithin (suc d) (this a_square d ∷ this an_upper d ∷ variables d ∷ unit (suc d) ∷ [])
prefix-near d = (here d, (here d, (here d, (le_refl (suc d), tt))))

unit-near : (modal : Bool) (d : ℕ) (x : Terminal) → IsNear d (unit_move modal d x)
unit-near modal d open_round = (refl, (le_refl (suc d), (le_refl (suc d), tt)))
unit-near modal d tilde = (refl, (le_refl (suc d), tt))
unit-near modal d exclamation = (refl, prefix-near d)
unit-near modal d question = (refl, prefix-near d)
unit-near modal d (hash w) = modal-near (modal && is_modality w) d
unit-near modal d (dollar w) = atom-near d (dollar w)
unit-near modal d (upper w) = atom-near d (upper w)
unit-near modal d (lower w) = atom-near d (lower w)
unit-near modal d (quoted w) = atom-near d (quoted w)
unit-near modal d _ = tt

formula_rest-near : (d : ℕ) (x : Terminal) → IsNear d (formula_rest_move d x)
formula_rest-near d ampersand = (refl, (here d, (here d, tt)))
formula_rest-near d bar = (refl, (here d, (here d, tt)))
formula_rest-near d implies = (refl, (here d, tt))
formula_rest-near d implied = (refl, (here d, tt))
formula_rest-near d equivalent = (refl, (here d, tt))
formula_rest-near d inequivalent = (refl, (here d, tt))
formula_rest-near d nor = (refl, (here d, tt))
formula_rest-near d nand = (refl, (here d, tt))
formula_rest-near d _ = tt

chain_rest-near : (c : ChainKind) (d : ℕ) (x : Terminal) → IsNear d (chain_rest_move c d x)
chain_rest-near And d ampersand = (refl, (here d, (here d, tt)))
chain_rest-near Or d bar = (refl, (here d, (here d, tt)))
chain_rest-near And d _ = tt
chain_rest-near Or d _ = tt

stop-near : (x : Terminal) → IsNear 0 (stop_move x)
stop-near comma = (refl, tt)
stop-near close_round = (refl, tt)
stop-near _ = tt

-- ---- clauses

unsigned-near : (d : ℕ) (x : Terminal) → IsNear d (unsigned_move d x)
unsigned-near d open_round = (refl, (le_refl (suc d), (le_refl (suc d), tt)))
unsigned-near d (dollar w) = atom-near d (dollar w)
unsigned-near d (upper w) = atom-near d (upper w)
unsigned-near d (lower w) = atom-near d (lower w)
unsigned-near d (quoted w) = atom-near d (quoted w)
unsigned-near d _ = tt

literal-near : (d : ℕ) (x : Terminal) → IsNear d (literal_move d x)
literal-near d tilde = (refl, (le_refl (suc d), tt))
literal-near d open_round = unsigned-near d open_round
literal-near d (dollar w) = atom-near d (dollar w)
literal-near d (upper w) = atom-near d (upper w)
literal-near d (lower w) = atom-near d (lower w)
literal-near d (quoted w) = atom-near d (quoted w)
literal-near d _ = tt

literals_rest-near : (d : ℕ) (x : Terminal) → IsNear d (literals_rest_move d x)
literals_rest-near d bar = (refl, (here d, (here d, tt)))
literals_rest-near d _ = tt

atom-before : (d : ℕ) (f : Expected) (x : Terminal) → nesting_of f ≡ d → IsNear d (before (f ∷ []) (atom_move d x))
atom-before d f x e = before-near d (f ∷ []) (atom_move d x) (subst (λ n. n ≤ suc d) (sym e) (here d), tt) (atom-near d x)

clause-near : (x : Terminal) → IsNear 0 (clause_move x)
clause-near open_round = (refl, (le_refl 1, tt))
clause-near tilde = (refl, (le_refl 1, (here 0, tt)))
clause-near (dollar w) = atom-before 0 (literals_rest 0) (dollar w) refl
clause-near (upper w) = atom-before 0 (literals_rest 0) (upper w) refl
clause-near (lower w) = atom-before 0 (literals_rest 0) (lower w) refl
clause-near (quoted w) = atom-before 0 (literals_rest 0) (quoted w) refl
clause-near _ = tt

clause_open-near : (x : Terminal) → IsNear 1 (clause_open_move x)
clause_open-near tilde = (refl, (le_refl 2, (here 1, (here 1, tt))))
clause_open-near open_round = (refl, (le_refl 2, (le_refl 2, (here 1, (here 1, tt)))))
clause_open-near (dollar w) = atom-before 1 clause_rest (dollar w) refl
clause_open-near (upper w) = atom-before 1 clause_rest (upper w) refl
clause_open-near (lower w) = atom-before 1 clause_rest (lower w) refl
clause_open-near (quoted w) = atom-before 1 clause_rest (quoted w) refl
clause_open-near _ = tt

clause_rest-near : (x : Terminal) → IsNear 1 (clause_rest_move x)
clause_rest-near bar = (refl, (here 1, (here 1, (here 1, tt))))
clause_rest-near close_round = (refl, (omega arith, tt))
clause_rest-near _ = tt

-- ---- items: all of their parts stand in no nesting

name-near : (x : Terminal) → IsNear 0 (name_move x)
name-near (lower w) = (refl, tt)
name-near (quoted w) = (refl, tt)
name-near (number w) = flag-near (is_digits w) 0
name-near _ = tt

after_body-near : (x : Terminal) → IsNear 0 (after_body_move x)
after_body-near comma = (refl, (here 0, tt))
after_body-near close_round = (refl, tt)
after_body-near _ = tt

notes-near : (waiting : List Bool) (x : Terminal) → IsNear 0 (notes_move waiting x)
notes-near waiting open_round = (refl, (here 0, tt))
notes-near waiting open_square = (refl, (here 0, tt))
notes-near [] close_round = (refl, tt)
notes-near (true ∷ waiting) close_round = (refl, (here 0, tt))
notes-near (false ∷ waiting) close_round = tt
notes-near [] close_square = tt
notes-near (true ∷ waiting) close_square = tt
notes-near (false ∷ waiting) close_square = (refl, (here 0, tt))
notes-near [] _ = (refl, (here 0, tt))
notes-near (b ∷ waiting) _ = (refl, (here 0, tt))

first_note-near : (x : Terminal) → IsNear 0 (first_note_move x)
first_note-near open_round = (refl, (here 0, tt))
first_note-near open_square = (refl, (here 0, tt))
first_note-near close_round = tt
first_note-near close_square = tt
first_note-near _ = (refl, (here 0, tt))

include_rest-near : (x : Terminal) → IsNear 0 (include_rest_move x)
include_rest-near comma = (refl, (here 0, (here 0, (here 0, tt))))
include_rest-near close_round = (refl, tt)
include_rest-near _ = tt

names_rest-near : (x : Terminal) → IsNear 0 (names_rest_move x)
names_rest-near comma = (refl, (here 0, (here 0, tt)))
names_rest-near close_square = (refl, (here 0, tt))
names_rest-near _ = tt

head-near : (body : Expected) → nesting_of body ≡ 0 → AreWithin 1 (head_of body)
head-near body e = (here 0, (here 0, (here 0, (here 0, (here 0, (subst (λ n. n ≤ 1) (sym e) (here 0), (here 0, (here 0, (here 0, tt)))))))))

word-near : (modal i f c m : Bool) → IsNear 0
    (if i then Some (0, this an_opening 0 ∷ this a_quoted 0 ∷ include_rest ∷ this a_dot 0 ∷ items ∷ [])
    else (if f then (if modal then None else Some (0, head_of (formula 0)))
    else (if c then (if modal then None else Some (0, head_of clause))
    else (if m then (if modal then Some (0, head_of (formula 0)) else None)
    else None))))
word-near modal true f c m = (refl, (here 0, (here 0, (here 0, (here 0, (here 0, tt))))))
word-near true false true c m = tt
word-near false false true c m = (refl, head-near (formula 0) refl)
word-near true false false true m = tt
word-near false false false true m = (refl, head-near clause refl)
word-near true false false false true = (refl, head-near (formula 0) refl)
word-near false false false false true = tt
word-near modal false false false false = tt

items-near : (modal : Bool) (x : Terminal) → IsNear 0 (items_move modal x)
items-near modal (lower w) = word-near modal _ _ _ _
items-near modal _ = tt

move-near : (modal : Bool) (e : Expected) (x : Terminal) → IsNear (nesting_of e) (move modal e x)
move-near modal (this k d) x = flag-near (form x == form_of k) d
move-near modal (term d) x = term-near d x
move-near modal (arguments d) x = arguments-near d x
move-near modal (some_arguments d) x = some_arguments-near d x
move-near modal (some_equation d) x = equation-near d x
move-near modal (equation d) x = equation-near d x
move-near modal (atom d) x = atom-near d x
move-near modal (variables d) x = variables-near d x
move-near modal (unit d) x = unit-near modal d x
move-near modal (formula d) x = before-near d (formula_rest d ∷ []) (unit_move modal d x) (here d, tt) (unit-near modal d x)
move-near modal (formula_rest d) x = formula_rest-near d x
move-near modal (chain_rest c d) x = chain_rest-near c d x
move-near modal stop x = stop-near x
move-near modal (literal d) x = literal-near d x
move-near modal (unsigned d) x = unsigned-near d x
move-near modal (literals_rest d) x = literals_rest-near d x
move-near modal clause x = clause-near x
move-near modal clause_open x = clause_open-near x
move-near modal clause_rest x = clause_rest-near x
move-near modal items x = items-near modal x
move-near modal name x = name-near x
move-near modal after_body x = after_body-near x
move-near modal first_note x = first_note-near x
move-near modal (notes waiting) x = notes-near waiting x
move-near modal include_rest x = include_rest-near x
move-near modal names_rest x = names_rest-near x

-- ---- the stack

-- what a move that is not too deep leads to
abbrev LeadsWithin : Move → Type 0
LeadsWithin None = Unit {0}
LeadsWithin (Some m) = nat_lt 500 m.0 ≡ false → AreWithin 501 m.1

step-within : (modal : Bool) (es : List Expected) (x : Terminal) → AreWithin 501 es → LeadsWithin (step modal es x)
step-within modal [] x h = tt
step-within modal (e ∷ es) x h = by (move modal e x) (move-near modal e x) (is_optional e) (step-within modal es x h.1)
  where
    by : (m : Move) → IsNear (nesting_of e) m → (b : Bool) → LeadsWithin (step modal es x) → LeadsWithin (moved m b es (step modal es x))
    by None k true next = next
    by None k false next = tt
    by (Some m) k b next = λ s. within-append 501 m.1 es (within-more (suc (nesting_of e)) 501 m.1 (let l = ltb-false 500 m.0 s in omega (arith, k.0)) k.1) h.1

pub after-within : (modal : Bool) (es : List Expected) (x : Terminal) → AreWithin 501 es → AreWithin 501 (stack_after (step modal es x) es)
after-within modal es x h = by (step modal es x) (step-within modal es x h)
  where
    on : (m : ℕ × List Expected) → LeadsWithin (Some m) → (b : Bool) → nat_lt 500 m.0 ≡ b → AreWithin 501 (if b then es else m.1)
    on m k true e = h
    on m k false e = k e

    by : (m : Move) → LeadsWithin m → AreWithin 501 (stack_after m es)
    by None k = h
    by (Some m) k = on m k (nat_lt 500 m.0) refl

-- ---- the part at the top of the program's lower parts, and those below it

pub top-within : (es : List program.Expected) (n : ℕ) (d : program.Expected) → 0 < n → n ≤ length es → AreWithin 501 (stack_of (take n es)) → nesting_of (the_expected (get_or es (n - 1) d)) ≤ 501
top-within es n d some within h = (subst (AreWithin 501) (stack_of-take es n d some within) h).0

pub below-within : (es : List program.Expected) (n : ℕ) → 0 < n → n ≤ length es → AreWithin 501 (stack_of (take n es)) → AreWithin 501 (stack_of (take (n - 1) es))
below-within es n some within h = (subst (AreWithin 501) (stack_of-take es n Items some within) h).1
