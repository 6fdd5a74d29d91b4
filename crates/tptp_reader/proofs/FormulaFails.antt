-- Where the way over a formula goes wrong.
use Rattle.std.proofs.Common.{◌≡◌, ◌==◌, ◌&&◌, ℕ, suc, Bool, true, false, List, [], ◌∷◌, ◌++◌, None, Some, inl, inr, refl, sym, ◌∙◌, ap, append_assoc, codes, subst, if◌then◌else◌}
use Rattle.std.proofs.lemmas.Bool.{false≢true}
use Rattle.plain_laws.proofs.Options.{none_some}
use Rattle.tptp_reader.specs.declared.formula_reader.Prefix.{Prefix}
use Rattle.tptp_reader.specs.declared.formula_reader.Prefix.TheVariants.{Bracket, Negation, Universal, Existential, Necessity, Possibility}
use Rattle.tptp_reader.specs.declared.source.BinaryKind.{BinaryKind}
use Rattle.tptp_reader.specs.declared.source.BinaryKind.TheVariants.{Imp, If, Iff, Xor, Nor, Nand}
use Rattle.tptp_reader.specs.declared.source.ChainKind.{ChainKind}
use Rattle.tptp_reader.specs.declared.source.ChainKind.TheVariants.{And, Or}
use Rattle.tptp_reader.specs.declared.terminal.Piece.{Piece}
use Rattle.tptp_reader.specs.Terminals.{Terminal, Follow, upper, hash, open_round, close_round, close_square, comma, tilde, exclamation, question, ampersand, bar, implies, implied, equivalent, inequivalent, nor, nand}
use Rattle.tptp_reader.specs.TerminalView.{the_terminal}
use Rattle.tptp_reader.specs.Pieces.{placed}
use Rattle.tptp_reader.specs.Expecting as way
use Rattle.tptp_reader.specs.Expecting.{Expected, this, a_closing, a_square, a_colon, an_upper, variables, atom, unit, formula, formula_rest, chain_rest, stop, Move, stop_move, form, is_word, is_modality, modal_move, atom_move, unit_move, before, formula_rest_move, chain_rest_move, moved, step}
use Rattle.tptp_reader.specs.Faults.{is_stop}
use Rattle.tptp_reader.specs.Following.{is_shallow}
use Rattle.tptp_reader.specs.Standing.{prefix_in, variable_in, chain_in, is_chain, binary_in}
use Rattle.tptp_reader.specs.Failing.{Fails, FailsAfter, FailsAt, fails_at, OnStacks, quantifier_parts}
use Rattle.tptp_reader.proofs.FailLaws.{fails-next, fails-token, fails-as, fails-none, fails-skip, fails-other}
use Rattle.tptp_reader.proofs.FormulaReading.{prefix_token, may_stand, prefix-is, chain-is, is-chain, binary-is}
use Rattle.tptp_reader.proofs.SpanLaws.{comma-is}

-- ---- variables of a quantifier

pub fails-listed : {text : List ℕ} {p : Piece} (modal : Bool) (d : ℕ) (es : List Expected) → (form (the_terminal p.terminal) == 14) ≡ true → Fails modal text (this an_upper d ∷ variables d ∷ es) p.end → FailsAt modal text (variables d ∷ es) p
fails-listed {p = p} modal d es e h = fails-token modal (variables d ∷ es) (comma-is (the_terminal p.terminal) e) (inr h)

listed-after : (modal : Bool) (text : List ℕ) (d : ℕ) (es : List Expected) (x : Terminal) (to : ℕ) → (form x == 14) ≡ false → Fails modal text (this a_colon d ∷ es) to → FailsAfter modal text (step modal (variables d ∷ es) x) to
listed-after modal text d es comma to e h = absurd (false≢true (sym e))
listed-after modal text d es close_square to e h = inr h
listed-after modal text d es _ to e h = tt

pub fails-closing : {text : List ℕ} {p : Piece} (modal : Bool) (d : ℕ) (es : List Expected) → (form (the_terminal p.terminal) == 14) ≡ false → Fails modal text (this a_colon d ∷ es) p.end → FailsAt modal text (variables d ∷ es) p
fails-closing {text} {p} modal d es e h = fails_at (listed-after modal text d es (the_terminal p.terminal) p.end e h)

open-after : (modal : Bool) (text : List ℕ) (d : ℕ) (es : List Expected) (x : Terminal) (to : ℕ) → (form x == 14) ≡ false → (form x == 13) ≡ false → FailsAfter modal text (step modal (variables d ∷ es) x) to
open-after modal text d es comma to e f = absurd (false≢true (sym e))
open-after modal text d es close_square to e f = absurd (false≢true (sym f))
open-after modal text d es _ to e f = tt

pub fails-unclosed : {text : List ℕ} {p : Piece} (modal : Bool) (d : ℕ) (es : List Expected) → (form (the_terminal p.terminal) == 14) ≡ false → (form (the_terminal p.terminal) == 13) ≡ false → FailsAt modal text (variables d ∷ es) p
fails-unclosed {text} {p} modal d es e f = fails_at (open-after modal text d es (the_terminal p.terminal) p.end e f)

no-variable : (x : Terminal) → variable_in x ≡ None → (form x == 21) ≡ false
no-variable (upper w) e = absurd (none_some (sym e))
no-variable _ e = refl

pub fails-no_variable : {text : List ℕ} {p : Piece} (modal : Bool) (d : ℕ) (es : List Expected) → variable_in (the_terminal p.terminal) ≡ None → FailsAt modal text (this an_upper d ∷ es) p
fails-no_variable {p = p} modal d es e = fails-other modal an_upper d es (no-variable (the_terminal p.terminal) e)

-- ---- units that are no atoms

-- what is expected behind the first token
abbrev pub prefix_parts : Prefix → ℕ → List Expected
prefix_parts Bracket d = formula (suc d) ∷ this a_closing (suc d) ∷ []
prefix_parts Negation d = unit (suc d) ∷ []
prefix_parts Universal d = this a_square d ∷ this an_upper d ∷ variables d ∷ unit (suc d) ∷ []
prefix_parts Existential d = this a_square d ∷ this an_upper d ∷ variables d ∷ unit (suc d) ∷ []
prefix_parts Necessity d = this a_colon d ∷ unit (suc d) ∷ []
prefix_parts Possibility d = this a_colon d ∷ unit (suc d) ∷ []

prefix-move : (modal : Bool) (d : ℕ) (k : Prefix) → may_stand modal k ≡ true → unit_move modal d (prefix_token k) ≡ Some (d, prefix_parts k d)
prefix-move modal d Bracket m = refl
prefix-move modal d Negation m = refl
prefix-move modal d Universal m = refl
prefix-move modal d Existential m = refl
prefix-move modal d Necessity m = ap (λ b. modal_move (b && is_modality (codes "#box")) d) m
prefix-move modal d Possibility m = ap (λ b. modal_move (b && is_modality (codes "#dia")) d) m

prefix-step : (modal : Bool) (d : ℕ) (es : List Expected) (x : Terminal) (k : Prefix) → prefix_in modal x ≡ Some k → step modal (unit d ∷ es) x ≡ Some (d, prefix_parts k d ++ es)
prefix-step modal d es x k e =
    let q = prefix-is modal x k e in
    ap (λ z. moved z false es (step modal es x)) (ap (unit_move modal d) q.0 ∙ prefix-move modal d k q.1)

pub fails-prefix : {text : List ℕ} {p : Piece} (modal : Bool) (d : ℕ) (k : Prefix) (es : List Expected) → prefix_in modal (the_terminal p.terminal) ≡ Some k → Fails modal text (prefix_parts k d ++ es) p.end → FailsAt modal text (unit d ∷ es) p
fails-prefix {text} {p} modal d k es e h = fails_at (subst (λ z. FailsAfter modal text z p.end) (sym (prefix-step modal d es (the_terminal p.terminal) k e)) (inr h))

pub prefix-deep : {text : List ℕ} {p : Piece} (modal : Bool) (d : ℕ) (k : Prefix) (es : List Expected) → prefix_in modal (the_terminal p.terminal) ≡ Some k → is_shallow d ≡ false → FailsAt modal text (unit d ∷ es) p
prefix-deep {text} {p} modal d k es e h = fails_at (subst (λ z. FailsAfter modal text z p.end) (sym (prefix-step modal d es (the_terminal p.terminal) k e)) (inl h))

-- what goes wrong inside
pub fails-bracketed : {text : List ℕ} {p start : Piece} (modal : Bool) (d inner : ℕ) (es : List Expected) → prefix_in modal (the_terminal p.terminal) ≡ Some Bracket → inner ≡ suc d → Follow text p.end (placed start ∷ []) start.end → FailsAt modal text (formula inner ∷ this a_closing inner ∷ es) start → FailsAt modal text (unit d ∷ es) p
fails-bracketed {text} {p} {start} modal d inner es e k f h = fails-prefix modal d Bracket es e (fails-next modal (formula (suc d) ∷ this a_closing (suc d) ∷ es) refl f (subst (λ n. FailsAt modal text (formula n ∷ this a_closing n ∷ es) start) k h))

pub fails-negated : {text : List ℕ} {p start : Piece} (modal : Bool) (d inner : ℕ) (es : List Expected) → prefix_in modal (the_terminal p.terminal) ≡ Some Negation → inner ≡ suc d → Follow text p.end (placed start ∷ []) start.end → FailsAt modal text (unit inner ∷ es) start → FailsAt modal text (unit d ∷ es) p
fails-negated {text} {p} {start} modal d inner es e k f h = fails-prefix modal d Negation es e (fails-next modal (unit (suc d) ∷ es) refl f (subst (λ n. FailsAt modal text (unit n ∷ es) start) k h))

-- what goes wrong in the operand, where this leads from it to the place behind the first token
inner-led : {text : List ℕ} {start : Piece} (modal : Bool) (d inner : ℕ) (parts : List Expected) (to : ℕ) (es : List Expected) → inner ≡ suc d → OnStacks (λ fs. FailsAt modal text fs start → Fails modal text (parts ++ fs) to) → FailsAt modal text (unit inner ∷ es) start → Fails modal text (parts ++ unit (suc d) ∷ es) to
inner-led {text} {start} modal d inner parts to es k l h = l (unit (suc d) ∷ es) refl (subst (λ n. FailsAt modal text (unit n ∷ es) start) k h)

pub fails-universal : {text : List ℕ} {p start : Piece} (modal : Bool) (d inner : ℕ) (es : List Expected) → prefix_in modal (the_terminal p.terminal) ≡ Some Universal → inner ≡ suc d → OnStacks (λ fs. FailsAt modal text fs start → Fails modal text (quantifier_parts d ++ fs) p.end) → FailsAt modal text (unit inner ∷ es) start → FailsAt modal text (unit d ∷ es) p
fails-universal {p = p} modal d inner es e k l h = fails-prefix modal d Universal es e (inner-led modal d inner (quantifier_parts d) p.end es k l h)

pub fails-existential : {text : List ℕ} {p start : Piece} (modal : Bool) (d inner : ℕ) (es : List Expected) → prefix_in modal (the_terminal p.terminal) ≡ Some Existential → inner ≡ suc d → OnStacks (λ fs. FailsAt modal text fs start → Fails modal text (quantifier_parts d ++ fs) p.end) → FailsAt modal text (unit inner ∷ es) start → FailsAt modal text (unit d ∷ es) p
fails-existential {p = p} modal d inner es e k l h = fails-prefix modal d Existential es e (inner-led modal d inner (quantifier_parts d) p.end es k l h)

pub fails-necessity : {text : List ℕ} {p start : Piece} (modal : Bool) (d inner : ℕ) (es : List Expected) → prefix_in modal (the_terminal p.terminal) ≡ Some Necessity → inner ≡ suc d → OnStacks (λ fs. FailsAt modal text fs start → Fails modal text (this a_colon d ∷ fs) p.end) → FailsAt modal text (unit inner ∷ es) start → FailsAt modal text (unit d ∷ es) p
fails-necessity {p = p} modal d inner es e k l h = fails-prefix modal d Necessity es e (inner-led modal d inner (this a_colon d ∷ []) p.end es k l h)

pub fails-possibility : {text : List ℕ} {p start : Piece} (modal : Bool) (d inner : ℕ) (es : List Expected) → prefix_in modal (the_terminal p.terminal) ≡ Some Possibility → inner ≡ suc d → OnStacks (λ fs. FailsAt modal text fs start → Fails modal text (this a_colon d ∷ fs) p.end) → FailsAt modal text (unit inner ∷ es) start → FailsAt modal text (unit d ∷ es) p
fails-possibility {p = p} modal d inner es e k l h = fails-prefix modal d Possibility es e (inner-led modal d inner (this a_colon d ∷ []) p.end es k l h)

-- ---- units that are atoms

no-modality : (w : List ℕ) → prefix_in true (hash w) ≡ None → is_modality w ≡ false
no-modality w e = by (is_word w (codes "#box")) (is_word w (codes "#dia")) refl refl e
  where
    by : (b c : Bool) → is_word w (codes "#box") ≡ b → is_word w (codes "#dia") ≡ c → (if b then Some Necessity else (if c then Some Possibility else None)) ≡ None → is_modality w ≡ false
    by true c h k q = absurd (none_some (sym q))
    by false true h k q = absurd (none_some (sym q))
    by false false h k q = ap (λ z. if z then true else is_word w (codes "#dia")) h ∙ k

unit-after : (modal : Bool) (text : List ℕ) (d : ℕ) (es : List Expected) (x : Terminal) (to : ℕ) → prefix_in modal x ≡ None → FailsAfter modal text (step modal (atom d ∷ es) x) to → FailsAfter modal text (step modal (unit d ∷ es) x) to
unit-after true text d es open_round to e h = absurd (none_some (sym e))
unit-after false text d es open_round to e h = absurd (none_some (sym e))
unit-after true text d es tilde to e h = absurd (none_some (sym e))
unit-after false text d es tilde to e h = absurd (none_some (sym e))
unit-after true text d es exclamation to e h = absurd (none_some (sym e))
unit-after false text d es exclamation to e h = absurd (none_some (sym e))
unit-after true text d es question to e h = absurd (none_some (sym e))
unit-after false text d es question to e h = absurd (none_some (sym e))
unit-after true text d es (hash w) to e h = subst (λ b. FailsAfter true text (moved (modal_move b d) false es (step true es (hash w))) to) (sym (no-modality w e)) tt
unit-after false text d es (hash w) to e h = tt
unit-after true text d es _ to e h = h
unit-after false text d es _ to e h = h

pub fails-atomic : {text : List ℕ} {p : Piece} (modal : Bool) (d : ℕ) (es : List Expected) → prefix_in modal (the_terminal p.terminal) ≡ None → FailsAt modal text (atom d ∷ es) p → FailsAt modal text (unit d ∷ es) p
fails-atomic {text} {p} modal d es e (fails_at h) = fails_at (unit-after modal text d es (the_terminal p.terminal) p.end e h)

-- ---- formulas

pub before-step : (m : Move) (e : Expected) (es : List Expected) (n k : Move) → moved m false (e ∷ es) n ≡ moved (before (e ∷ []) m) false es k
before-step None e es n k = refl
before-step (Some m) e es n k = ap (λ z. Some (m.0, z)) (sym (append_assoc m.1 (e ∷ []) es))

-- a formula is a unit and what follows it
pub fails-formula : {text : List ℕ} {p : Piece} (modal : Bool) (d : ℕ) (es : List Expected) → FailsAt modal text (unit d ∷ formula_rest d ∷ es) p → FailsAt modal text (formula d ∷ es) p
fails-formula {text} {p} modal d es h =
    let x : Terminal = the_terminal p.terminal in
    fails-as modal (unit d ∷ formula_rest d ∷ es) (formula d ∷ es) (before-step (unit_move modal d x) (formula_rest d) es (step modal (formula_rest d ∷ es) x) (step modal es x)) h

pub fails-chain : {text : List ℕ} {p : Piece} (modal : Bool) (d : ℕ) (c : ChainKind) (es : List Expected) → chain_in (the_terminal p.terminal) ≡ Some c → Fails modal text (unit d ∷ chain_rest c d ∷ es) p.end → FailsAt modal text (formula_rest d ∷ es) p
fails-chain {p = p} modal d And es e h = fails-token modal (formula_rest d ∷ es) (chain-is (the_terminal p.terminal) And e) (inr h)
fails-chain {p = p} modal d Or es e h = fails-token modal (formula_rest d ∷ es) (chain-is (the_terminal p.terminal) Or e) (inr h)

pub fails-binary : {text : List ℕ} {p : Piece} (modal : Bool) (d : ℕ) (c : BinaryKind) (es : List Expected) → binary_in (the_terminal p.terminal) ≡ Some c → Fails modal text (unit d ∷ es) p.end → FailsAt modal text (formula_rest d ∷ es) p
fails-binary {p = p} modal d Imp es e h = fails-token modal (formula_rest d ∷ es) (binary-is (the_terminal p.terminal) Imp e) (inr h)
fails-binary {p = p} modal d If es e h = fails-token modal (formula_rest d ∷ es) (binary-is (the_terminal p.terminal) If e) (inr h)
fails-binary {p = p} modal d Iff es e h = fails-token modal (formula_rest d ∷ es) (binary-is (the_terminal p.terminal) Iff e) (inr h)
fails-binary {p = p} modal d Xor es e h = fails-token modal (formula_rest d ∷ es) (binary-is (the_terminal p.terminal) Xor e) (inr h)
fails-binary {p = p} modal d Nor es e h = fails-token modal (formula_rest d ∷ es) (binary-is (the_terminal p.terminal) Nor e) (inr h)
fails-binary {p = p} modal d Nand es e h = fails-token modal (formula_rest d ∷ es) (binary-is (the_terminal p.terminal) Nand e) (inr h)

no-rest : (d : ℕ) (x : Terminal) → chain_in x ≡ None → binary_in x ≡ None → formula_rest_move d x ≡ None
no-rest d ampersand e f = absurd (none_some (sym e))
no-rest d bar e f = absurd (none_some (sym e))
no-rest d implies e f = absurd (none_some (sym f))
no-rest d implied e f = absurd (none_some (sym f))
no-rest d equivalent e f = absurd (none_some (sym f))
no-rest d inequivalent e f = absurd (none_some (sym f))
no-rest d nor e f = absurd (none_some (sym f))
no-rest d nand e f = absurd (none_some (sym f))
no-rest d _ e f = refl

pub fails-alone : {text : List ℕ} {p : Piece} (modal : Bool) (d : ℕ) (es : List Expected) → chain_in (the_terminal p.terminal) ≡ None → binary_in (the_terminal p.terminal) ≡ None → FailsAt modal text es p → FailsAt modal text (formula_rest d ∷ es) p
fails-alone {p = p} modal d es e f h = fails-skip modal (formula_rest d) es refl (no-rest d (the_terminal p.terminal) e f) h

-- behind a formula that stands alone
no-stop : (x : Terminal) → is_stop x ≡ false → stop_move x ≡ None
no-stop comma e = absurd (false≢true (sym e))
no-stop close_round e = absurd (false≢true (sym e))
no-stop _ e = refl

pub fails-no_stop : {text : List ℕ} {p : Piece} (modal : Bool) (es : List Expected) → is_stop (the_terminal p.terminal) ≡ false → FailsAt modal text (stop ∷ es) p
fails-no_stop {p = p} modal es e = fails-none modal stop es refl (no-stop (the_terminal p.terminal) e)

-- ---- chains

pub fails-further : {text : List ℕ} {p : Piece} (modal : Bool) (d : ℕ) (c : ChainKind) (es : List Expected) → is_chain c (the_terminal p.terminal) ≡ true → Fails modal text (unit d ∷ chain_rest c d ∷ es) p.end → FailsAt modal text (chain_rest c d ∷ es) p
fails-further {p = p} modal d And es e h = fails-token modal (chain_rest And d ∷ es) (is-chain And (the_terminal p.terminal) e) (inr h)
fails-further {p = p} modal d Or es e h = fails-token modal (chain_rest Or d ∷ es) (is-chain Or (the_terminal p.terminal) e) (inr h)

no-further : (c : ChainKind) (d : ℕ) (x : Terminal) → is_chain c x ≡ false → chain_rest_move c d x ≡ None
no-further And d ampersand e = absurd (false≢true (sym e))
no-further Or d bar e = absurd (false≢true (sym e))
no-further And d _ e = refl
no-further Or d _ e = refl

pub fails-last : {text : List ℕ} {p : Piece} (modal : Bool) (d : ℕ) (c : ChainKind) (es : List Expected) → is_chain c (the_terminal p.terminal) ≡ false → FailsAt modal text es p → FailsAt modal text (chain_rest c d ∷ es) p
fails-last {p = p} modal d c es e h = fails-skip modal (chain_rest c d) es refl (no-further c d (the_terminal p.terminal) e) h
