-- A formula in a text: its faults, and its value.
use Rattle.std.proofs.Common.{◌≡◌, ℕ, Bool, true, List, [], ◌∷◌, refl, sym, subst, length}
use Rattle.std.specs.Prelude.{Err, IfSome}
use Rattle.tptp_reader.specs.declared.fault.ReadCause.TheVariants.{Syntax}
use Rattle.tptp_reader.specs.declared.following.Ending.{Ending}
use Rattle.tptp_reader.specs.declared.following.Ending.TheVariants as ending
use Rattle.tptp_reader.specs.declared.terminal.Piece.{Piece}
use Rattle.tptp_lex.specs.Answers.{IsFault, OnlySpace}
use Rattle.tptp_reader.specs.Sources.{Source}
use Rattle.tptp_reader.specs.Terminals.{Follow}
use Rattle.tptp_reader.specs.TerminalView.{the_terminal}
use Rattle.tptp_reader.specs.Pieces.{placed}
use Rattle.tptp_reader.specs.Expecting.{Expected, formula, stop}
use Rattle.tptp_reader.specs.Faults.{FormulaLanguage, FormulaCauses, formula_cause, is_stop, AreShallow, wrong, too_deep, HasFault}
use Rattle.tptp_reader.specs.declared.fault.ReadFault.{ReadFault}
use Rattle.tptp_reader.specs.declared.fault.ReadFault.TheVariants as fault
use Rattle.tptp_reader.specs.declared.source.Source as program
use Rattle.tptp_reader.specs.SourceView.{the_source}
use Rattle.tptp_reader.specs.Answers.{the_formula_reading}
use Rattle.tptp_reader.specs.Reading.{HoldsFormula, Outcome, reads, fails, IsFormulaReading}
use Rattle.tptp_reader.proofs.OneReading.{one-formula-reading}
use Rattle.tptp_reader.specs.Following.{Ran, RanStuck, RanDeep, HasEnding, IsFormulaFault}
use Rattle.tptp_reader.specs.Standing.{FormulaRead}
use Rattle.tptp_reader.proofs.EndingLaws.{formula-for, stuck-fault, deep-fault, no_token-fault, end-fault, not-whole}
use Rattle.tptp_reader.proofs.SpanLaws.{span-tokens}
use Rattle.tptp_reader.proofs.ReadLaws.{formula-shallow}

-- ---- the faults

pub formula-stuck : (modal : Bool) (text : List ℕ) (from : ℕ) (now : List Expected) (p : Piece) → RanStuck modal text from (formula 0 ∷ stop ∷ []) now p → HasFault text from (FormulaLanguage modal) FormulaCauses (wrong p.start (formula_cause (the_terminal p.terminal)))
formula-stuck modal text from now p s = stuck-fault modal (FormulaLanguage modal) (formula 0 ∷ stop ∷ []) (formula-for modal) FormulaCauses text from now p (formula_cause (the_terminal p.terminal)) (λ front k h. refl) s

pub formula-deep : (modal : Bool) (text : List ℕ) (from offset : ℕ) → RanDeep modal text from (formula 0 ∷ stop ∷ []) offset → HasFault text from (FormulaLanguage modal) FormulaCauses (too_deep offset)
formula-deep modal text from offset d = deep-fault modal (FormulaLanguage modal) (formula 0 ∷ stop ∷ []) (formula-for modal) FormulaCauses text from offset d

pub formula-no_token : (modal : Bool) (text : List ℕ) (from : ℕ) (now : List Expected) (offset : ℕ) → (to : ℕ) × Ran modal text from (formula 0 ∷ stop ∷ []) now to × IsFault text to offset → HasFault text from (FormulaLanguage modal) FormulaCauses (wrong offset Syntax)
formula-no_token modal text from now offset f = no_token-fault modal (FormulaLanguage modal) (formula 0 ∷ stop ∷ []) (formula-for modal) FormulaCauses text from now f.0 offset f.1 f.2

pub formula-end : (modal : Bool) (text : List ℕ) (from : ℕ) (now : List Expected) → (to : ℕ) × Ran modal text from (formula 0 ∷ stop ∷ []) now to × OnlySpace text to → HasFault text from (FormulaLanguage modal) FormulaCauses (wrong (length text) Syntax)
formula-end modal text from now f =
    end-fault modal (FormulaLanguage modal) (formula 0 ∷ stop ∷ []) (formula-for modal) FormulaCauses text from now f.0 f.1 f.2 (not-whole modal text from now f.0 f.1)

-- what the program finds, by how its way ends
pub found-stuck : (modal : Bool) (text : List ℕ) (from : ℕ) (es now : List Expected) (e : Ending) (p : Piece) → HasEnding modal text from es now e → es ≡ formula 0 ∷ stop ∷ [] → e ≡ ending.Stuck p → HasFault text from (FormulaLanguage modal) FormulaCauses (wrong p.start (formula_cause (the_terminal p.terminal)))
found-stuck modal text from es now e p h k q = formula-stuck modal text from now p (subst (λ z. HasEnding modal text from z now (ending.Stuck p)) k (subst (λ z. HasEnding modal text from es now z) q h))

pub found-deep : (modal : Bool) (text : List ℕ) (from : ℕ) (es now : List Expected) (e : Ending) (offset : ℕ) → HasEnding modal text from es now e → es ≡ formula 0 ∷ stop ∷ [] → e ≡ ending.TooDeep offset → HasFault text from (FormulaLanguage modal) FormulaCauses (too_deep offset)
found-deep modal text from es now e offset h k q = formula-deep modal text from offset (subst (λ z. HasEnding modal text from z now (ending.TooDeep offset)) k (subst (λ z. HasEnding modal text from es now z) q h))

pub found-no_token : (modal : Bool) (text : List ℕ) (from : ℕ) (es now : List Expected) (e : Ending) (offset : ℕ) → HasEnding modal text from es now e → es ≡ formula 0 ∷ stop ∷ [] → e ≡ ending.NoToken offset → HasFault text from (FormulaLanguage modal) FormulaCauses (wrong offset Syntax)
found-no_token modal text from es now e offset h k q = formula-no_token modal text from now offset (subst (λ z. HasEnding modal text from z now (ending.NoToken offset)) k (subst (λ z. HasEnding modal text from es now z) q h))

pub found-end : (modal : Bool) (text : List ℕ) (from : ℕ) (es now : List Expected) (e : Ending) → HasEnding modal text from es now e → es ≡ formula 0 ∷ stop ∷ [] → e ≡ ending.End → HasFault text from (FormulaLanguage modal) FormulaCauses (wrong (length text) Syntax)
found-end modal text from es now e h k q = formula-end modal text from now (subst (λ z. HasEnding modal text from z now ending.End) k (subst (λ z. HasEnding modal text from es now z) q h))

-- ---- the value

pub formula-holds : {text : List ℕ} {from : ℕ} {first stop : Piece} (modal : Bool) (source : program.Source) → Follow text from (placed first ∷ []) first.end → FormulaRead modal text 0 first (source, stop) → is_stop (the_terminal stop.terminal) ≡ true
    → HoldsFormula modal text from (the_source source) stop.start
formula-holds {text} {from} {first} {stop} modal source f r e =
    let t = span-tokens from f r.stands in
    record {
      tokens = t.tokens;
      stop = placed stop;
      to = stop.end;
      tree = r.tree;
      there = t.there;
      written = t.written;
      fit = r.fits;
      stops = e;
      shallow = subst (λ z. AreShallow (FormulaLanguage modal) z) (sym t.written) (formula-shallow modal r.tree (the_terminal stop.terminal) r.fits e r.shallow);
      meant = r.value;
      place = refl;
    }

-- a fault that is found is the only reading
pub fault-alone : (modal : Bool) (text : List ℕ) (from : ℕ) (f : ReadFault) → IsFormulaFault modal text from f → IfSome (the_formula_reading (Err f)) (λ o. (other : Outcome (Source × ℕ)) → IsFormulaReading modal text from other → other ≡ o)
fault-alone modal text from (fault.At offset cause) h = λ other k. one-formula-reading modal text from other (fails (wrong offset cause)) k h
fault-alone modal text from (fault.TooDeep offset) h = λ other k. one-formula-reading modal text from other (fails (too_deep offset)) k h
fault-alone modal text from fault.NoMemory h = absurd h
