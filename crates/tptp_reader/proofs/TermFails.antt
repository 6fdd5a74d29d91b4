-- Where the way over a term goes wrong.
use Rattle.std.proofs.Common.{◌≡◌, ◌==◌, ℕ, suc, Bool, true, false, List, ◌∷◌, None, Some, inl, inr, refl, sym, subst, Bor}
use Rattle.std.proofs.lemmas.Bool.{false≢true}
use Rattle.plain_laws.proofs.Options.{none_some}
use Rattle.tptp_reader.specs.declared.terminal.Piece.{Piece}
use Rattle.tptp_reader.specs.declared.terminal.Terminal as program
use Rattle.tptp_reader.specs.declared.terminal.Terminal.TheVariants.{Upper}
use Rattle.tptp_reader.specs.Terminals.{Terminal, lower, upper, quoted, open_round, close_round, comma}
use Rattle.tptp_reader.specs.TerminalView.{the_terminal}
use Rattle.tptp_reader.specs.Expecting.{Expected, term, arguments, some_arguments, Move, form, arguments_move, some_arguments_move, step}
use Rattle.tptp_reader.specs.Following.{is_shallow}
use Rattle.tptp_reader.specs.Standing.{word_in}
use Rattle.tptp_reader.specs.Failing.{Fails, FailsAfter, FailsAt, fails_at, OnStacks}
use Rattle.tptp_reader.proofs.FailLaws.{fails-token, fails-none, fails-skip}
use Rattle.tptp_reader.proofs.SpanLaws.{opening-is, closing-is, comma-is}

-- ---- arguments

no-arguments : (d : ℕ) (x : Terminal) → (form x == 0) ≡ false → some_arguments_move d x ≡ None
no-arguments d open_round e = absurd (false≢true (sym e))
no-arguments d _ e = refl

no-more : (d : ℕ) (x : Terminal) → (form x == 11) ≡ false → (form x == 14) ≡ false → arguments_move d x ≡ None
no-more d close_round e f = absurd (false≢true (sym e))
no-more d comma e f = absurd (false≢true (sym f))
no-more d _ e f = refl

pub arguments-absent : {text : List ℕ} {p : Piece} (modal : Bool) (d : ℕ) (es : List Expected) → (form (the_terminal p.terminal) == 0) ≡ false → FailsAt modal text es p → FailsAt modal text (some_arguments d ∷ es) p
arguments-absent {p = p} modal d es e h = fails-skip modal (some_arguments d) es refl (no-arguments d (the_terminal p.terminal) e) h

pub arguments-deep : {text : List ℕ} {p : Piece} (modal : Bool) (d : ℕ) (es : List Expected) → (form (the_terminal p.terminal) == 0) ≡ true → is_shallow d ≡ false → FailsAt modal text (some_arguments d ∷ es) p
arguments-deep {p = p} modal d es e h = fails-token modal (some_arguments d ∷ es) (opening-is (the_terminal p.terminal) e) (inl h)

pub arguments-within : {text : List ℕ} {p : Piece} (modal : Bool) (d : ℕ) (es : List Expected) → (form (the_terminal p.terminal) == 0) ≡ true → Fails modal text (term (suc d) ∷ arguments (suc d) ∷ es) p.end → FailsAt modal text (some_arguments d ∷ es) p
arguments-within {p = p} modal d es e h = fails-token modal (some_arguments d ∷ es) (opening-is (the_terminal p.terminal) e) (inr h)

pub arguments-closed : {text : List ℕ} {p : Piece} (modal : Bool) (d : ℕ) (es : List Expected) → (form (the_terminal p.terminal) == 11) ≡ true → Fails modal text es p.end → FailsAt modal text (arguments d ∷ es) p
arguments-closed {p = p} modal d es e h = fails-token modal (arguments d ∷ es) (closing-is (the_terminal p.terminal) e) (inr h)

pub arguments-further : {text : List ℕ} {p : Piece} (modal : Bool) (d : ℕ) (es : List Expected) → (form (the_terminal p.terminal) == 14) ≡ true → Fails modal text (term d ∷ arguments d ∷ es) p.end → FailsAt modal text (arguments d ∷ es) p
arguments-further {p = p} modal d es e h = fails-token modal (arguments d ∷ es) (comma-is (the_terminal p.terminal) e) (inr h)

pub arguments-stuck : {text : List ℕ} {p : Piece} (modal : Bool) (d : ℕ) (es : List Expected) → (form (the_terminal p.terminal) == 11) ≡ false → (form (the_terminal p.terminal) == 14) ≡ false → FailsAt modal text (arguments d ∷ es) p
arguments-stuck {p = p} modal d es e f = fails-none modal (arguments d) es refl (no-more d (the_terminal p.terminal) e f)

-- whatever stands behind an argument
pub arguments-any : {text : List ℕ} {p : Piece} (modal : Bool) (d : ℕ) (es : List Expected) → Fails modal text es p.end → Fails modal text (term d ∷ arguments d ∷ es) p.end → FailsAt modal text (arguments d ∷ es) p
arguments-any {text} {p} modal d es h k = by (form (the_terminal p.terminal) == 11) (form (the_terminal p.terminal) == 14) refl refl
  where
    by : (a b : Bool) → (form (the_terminal p.terminal) == 11) ≡ a → (form (the_terminal p.terminal) == 14) ≡ b → FailsAt modal text (arguments d ∷ es) p
    by true b e f = arguments-closed modal d es e h
    by false true e f = arguments-further modal d es f k
    by false false e f = arguments-stuck modal d es e f

-- ---- terms

term-after : (modal : Bool) (text : List ℕ) (d : ℕ) (es : List Expected) (x : Terminal) (to : ℕ) → Fails modal text es to → Fails modal text (some_arguments d ∷ es) to → FailsAfter modal text (step modal (term d ∷ es) x) to
term-after modal text d es (upper w) to h k = inr h
term-after modal text d es (lower w) to h k = inr k
term-after modal text d es (quoted w) to h k = inr k
term-after modal text d es _ to h k = tt

too-deep : (modal : Bool) (text : List ℕ) (d : ℕ) (es : List Expected) (x : Terminal) (to : ℕ) → is_shallow d ≡ false → FailsAfter modal text (step modal (term d ∷ es) x) to
too-deep modal text d es (upper w) to h = inl h
too-deep modal text d es (lower w) to h = inl h
too-deep modal text d es (quoted w) to h = inl h
too-deep modal text d es _ to h = tt

pub term-any : {text : List ℕ} {p : Piece} (modal : Bool) (d : ℕ) (es : List Expected) → Fails modal text es p.end → Fails modal text (some_arguments d ∷ es) p.end → FailsAt modal text (term d ∷ es) p
term-any {text} {p} modal d es h k = fails_at (term-after modal text d es (the_terminal p.terminal) p.end h k)

pub term-deep : {text : List ℕ} {p : Piece} (modal : Bool) (d : ℕ) (es : List Expected) → is_shallow d ≡ false → FailsAt modal text (term d ∷ es) p
term-deep {text} {p} modal d es h = fails_at (too-deep modal text d es (the_terminal p.terminal) p.end h)

pub term-upper : {text : List ℕ} {p : Piece} {w : List ℕ} (modal : Bool) (d : ℕ) (es : List Expected) → the_terminal p.terminal ≡ upper w → Fails modal text es p.end → FailsAt modal text (term d ∷ es) p
term-upper modal d es e h = fails-token modal (term d ∷ es) e (inr h)

-- the argument here, behind which there are others
pub argument-led : {text : List ℕ} {here next : Piece} (modal : Bool) (d inner : ℕ) (es : List Expected) → inner ≡ suc d → OnStacks (λ fs. FailsAt modal text fs next → FailsAt modal text (term inner ∷ fs) here) → FailsAt modal text (arguments (suc d) ∷ es) next → FailsAt modal text (term (suc d) ∷ arguments (suc d) ∷ es) here
argument-led {text} {here} modal d inner es e k h = subst (λ n. FailsAt modal text (term n ∷ arguments (suc d) ∷ es) here) e (k (arguments (suc d) ∷ es) refl h)

-- a word, with arguments or without
word-after : (modal : Bool) (text : List ℕ) (d : ℕ) (es : List Expected) (x : Terminal) (to : ℕ) → ((w : List ℕ) → x ≡ upper w → ⊥) → Fails modal text (some_arguments d ∷ es) to → FailsAfter modal text (step modal (term d ∷ es) x) to
word-after modal text d es (upper w) to n k = absurd (n w refl)
word-after modal text d es (lower w) to n k = inr k
word-after modal text d es (quoted w) to n k = inr k
word-after modal text d es _ to n k = tt

pub term-word : {text : List ℕ} {p : Piece} (modal : Bool) (d : ℕ) (es : List Expected) → ((w : List ℕ) → the_terminal p.terminal ≡ upper w → ⊥) → Fails modal text (some_arguments d ∷ es) p.end → FailsAt modal text (term d ∷ es) p
term-word {text} {p} modal d es n k = fails_at (word-after modal text d es (the_terminal p.terminal) p.end n k)

none-after : (modal : Bool) (text : List ℕ) (d : ℕ) (es : List Expected) (x : Terminal) (to : ℕ) → ((w : List ℕ) → x ≡ upper w → ⊥) → word_in x ≡ None → FailsAfter modal text (step modal (term d ∷ es) x) to
none-after modal text d es (upper w) to n e = absurd (n w refl)
none-after modal text d es (lower w) to n e = absurd (none_some (sym e))
none-after modal text d es (quoted w) to n e = absurd (none_some (sym e))
none-after modal text d es _ to n e = tt

pub term-none : {text : List ℕ} {p : Piece} (modal : Bool) (d : ℕ) (es : List Expected) → ((w : List ℕ) → the_terminal p.terminal ≡ upper w → ⊥) → word_in (the_terminal p.terminal) ≡ None → FailsAt modal text (term d ∷ es) p
term-none {text} {p} modal d es n e = fails_at (none-after modal text d es (the_terminal p.terminal) p.end n e)

-- a token that the program does not find to be a variable
pub not-upper : (x : program.Terminal) → ((w : Bor (List ℕ)) → x ≡ Upper w → ⊥) → (w : List ℕ) → the_terminal x ≡ upper w → ⊥
not-upper (Upper w) n v e = n w refl
not-upper _ n v e = cc
