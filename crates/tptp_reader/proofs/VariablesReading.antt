-- Reading the variables of a quantifier.
use Rattle.std.proofs.Common.{◌≡◌, ◌==◌, ℕ, true, List, [], ◌∷◌, ◌++◌, Some, sym, ap, append_assoc, append-nil, subst}
use Rattle.plain_laws.proofs.Options.{none_some}
use Rattle.tptp_lex.proofs.Runs.{some-is}
use Rattle.tptp_reader.specs.declared.terminal.Piece.{Piece}
use Rattle.tptp_reader.specs.Terminals.{Terminal, upper, open_square, Follow}
use Rattle.tptp_reader.specs.TerminalView.{the_terminal}
use Rattle.tptp_reader.specs.Pieces.{placed}
use Rattle.tptp_reader.specs.Expecting.{form}
use Rattle.tptp_reader.specs.Spans.{Span}
use Rattle.tptp_reader.specs.Standing.{variable_in, EndRead, VariablesRead, VariablesUpTo}
use Rattle.tptp_reader.proofs.SpanLaws.{span-more, span-join, comma-is}

variable-is : (x : Terminal) (w : List ℕ) → variable_in x ≡ Some w → x ≡ upper w
variable-is (upper v) w e = ap upper (some-is e)
variable-is _ w e = absurd (none_some e)

-- behind the quantifier, its bracket and its first variable
pub variables-begun : {text : List ℕ} {p first here : Piece} (read : List (List ℕ)) (w : List ℕ) → read ≡ w ∷ [] → Span text p (the_terminal p.terminal ∷ open_square ∷ []) first → variable_in (the_terminal first.terminal) ≡ Some w → Follow text first.end (placed here ∷ []) here.end → VariablesUpTo text p read here
variables-begun {first = first} read w r s e f = λ xs q h. record {
  first = w;
  others = xs;
  value = ap (λ z. z ++ xs) r;
  stands = span-join s (span-more (variable-is (the_terminal first.terminal) w e) f h);
}

-- one variable more, and the comma before it
pub variables-on : {text : List ℕ} {p here after : Piece} (next : Piece) (read : List (List ℕ)) (w : List ℕ) → VariablesUpTo text p read here → (form (the_terminal here.terminal) == 14) ≡ true → Follow text here.end (placed next ∷ []) next.end → variable_in (the_terminal next.terminal) ≡ Some w → Follow text next.end (placed after ∷ []) after.end
    → VariablesUpTo text p (read ++ w ∷ []) after
variables-on {text} {p} {here} next read w u c f e k = λ xs q h.
    subst (λ (z : List (List ℕ)). VariablesRead text p (z, q)) (sym (append_assoc read (w ∷ []) xs))
    (u (w ∷ xs) q (span-more (comma-is (the_terminal here.terminal) c) f (span-more (variable-is (the_terminal next.terminal) w e) k h)))

-- the end of the prefix
pub variables-done : {text : List ℕ} {p here q : Piece} (read : List (List ℕ)) → VariablesUpTo text p read here → EndRead text here q → VariablesRead text p (read, q)
variables-done {text} {p} {q = q} read u e = subst (λ (z : List (List ℕ)). VariablesRead text p (z, q)) (append-nil read) (u [] q e)
