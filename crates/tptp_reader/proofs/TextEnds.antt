-- Where the way over a text of items ends, there is the fault.
use Rattle.std.proofs.Common.{◌≡◌, ℕ, Bool, false, List, [], ◌∷◌, refl, subst, length}
use Rattle.tptp_reader.specs.declared.fault.ReadCause.TheVariants.{Syntax}
use Rattle.tptp_reader.specs.declared.following.Ending.{Ending}
use Rattle.tptp_reader.specs.declared.following.Ending.TheVariants as ending
use Rattle.tptp_reader.specs.declared.terminal.Piece.{Piece}
use Rattle.tptp_reader.specs.Terminals.{terminals}
use Rattle.tptp_reader.specs.TerminalView.{the_terminal}
use Rattle.tptp_reader.specs.Expecting.{Expected, items, is_at_item}
use Rattle.tptp_reader.specs.Faults.{TextLanguage, TextCauses, cause_at, wrong, too_deep, HasFault}
use Rattle.tptp_reader.specs.Following.{HasEnding, place_now}
use Rattle.tptp_reader.proofs.EndingLaws.{text-for, stuck-fault, deep-fault, no_token-fault, end-fault}
use Rattle.tptp_reader.proofs.StageLaws.{not-at-item, place-is}

-- the same way, from the items and with the end that the program saw
from-items : (modal : Bool) (text : List ℕ) (es now : List Expected) (e f : Ending) → HasEnding modal text 0 es now e → es ≡ items ∷ [] → e ≡ f → HasEnding modal text 0 (items ∷ []) now f
from-items modal text es now e f h k q = subst (λ z. HasEnding modal text 0 z now f) k (subst (λ z. HasEnding modal text 0 es now z) q h)

pub text-stuck : (modal : Bool) (text : List ℕ) (es now : List Expected) (e : Ending) (p : Piece) → HasEnding modal text 0 es now e → es ≡ items ∷ [] → e ≡ ending.Stuck p → HasFault text 0 (TextLanguage modal) (TextCauses modal) (wrong p.start (cause_at modal (place_now now) (the_terminal p.terminal)))
text-stuck modal text es now e p h k q =
    stuck-fault modal (TextLanguage modal) (items ∷ []) (text-for modal) (TextCauses modal) text 0 now p (cause_at modal (place_now now) (the_terminal p.terminal)) (λ front l r. (place_now now, place-is modal front l now r, refl)) (from-items modal text es now e (ending.Stuck p) h k q)

pub text-deep : (modal : Bool) (text : List ℕ) (es now : List Expected) (e : Ending) (offset : ℕ) → HasEnding modal text 0 es now e → es ≡ items ∷ [] → e ≡ ending.TooDeep offset → HasFault text 0 (TextLanguage modal) (TextCauses modal) (too_deep offset)
text-deep modal text es now e offset h k q = deep-fault modal (TextLanguage modal) (items ∷ []) (text-for modal) (TextCauses modal) text 0 offset (from-items modal text es now e (ending.TooDeep offset) h k q)

pub text-no_token : (modal : Bool) (text : List ℕ) (es now : List Expected) (e : Ending) (offset : ℕ) → HasEnding modal text 0 es now e → es ≡ items ∷ [] → e ≡ ending.NoToken offset → HasFault text 0 (TextLanguage modal) (TextCauses modal) (wrong offset Syntax)
text-no_token modal text es now e offset h k q =
    let f = from-items modal text es now e (ending.NoToken offset) h k q in
    no_token-fault modal (TextLanguage modal) (items ∷ []) (text-for modal) (TextCauses modal) text 0 now f.0 offset f.1 f.2

pub text-end : (modal : Bool) (text : List ℕ) (es now : List Expected) (e : Ending) → HasEnding modal text 0 es now e → es ≡ items ∷ [] → e ≡ ending.End → is_at_item now ≡ false → HasFault text 0 (TextLanguage modal) (TextCauses modal) (wrong (length text) Syntax)
text-end modal text es now e h k q n =
    let f = from-items modal text es now e ending.End h k q in
    end-fault modal (TextLanguage modal) (items ∷ []) (text-for modal) (TextCauses modal) text 0 now f.0 f.1 f.2 (not-at-item modal (terminals f.1.front) f.1.nestings now f.1.is_run n)
