-- Where the way over a text ends, there is the fault.
use Rattle.std.proofs.Common.{◌≡◌, ◌&&◌, ℕ, Bool, true, false, not, List, [], ◌∷◌, ◌++◌, None, Some, inl, inr, refl, sym, ◌∙◌, ap, length}
use Rattle.std.specs.List.{list_all}
use Rattle.std.proofs.lemmas.Bool.{and_parts, false≢true, lt-ltb, ltb-true}
use Rattle.plain_laws.proofs.Booleans.{and-false}
use Rattle.plain_laws.proofs.Options.{none_some}
use Rattle.tptp_lex.specs.Answers.{IsFault, OnlySpace}
use Rattle.tptp_lex.proofs.Runs.{some-is}
use Rattle.tptp_reader.specs.declared.fault.ReadCause.{ReadCause}
use Rattle.tptp_reader.specs.declared.fault.ReadCause.TheVariants.{Syntax}
use Rattle.tptp_reader.specs.declared.terminal.Piece.{Piece}
use Rattle.tptp_reader.specs.Terminals.{Terminal, terminals}
use Rattle.tptp_reader.specs.TerminalView.{the_terminal}
use Rattle.tptp_reader.specs.Pieces.{placed}
use Rattle.tptp_reader.specs.Faults.{Language, TextLanguage, FormulaLanguage, Causes, IsWhole, CanGoOn, AreShallow, wrong, too_deep, HasFault, at_token, at_no_token, at_end, at_depth}
use Rattle.tptp_reader.specs.Expecting.{Expected, formula, stop, items, is_optional, all_optional, step, run, run_after, Move}
use Rattle.tptp_reader.specs.Following.{Ran, RanStuck, RanDeep, is_open, is_shallow}
use Rattle.tptp_reader.proofs.FollowLaws.{IsReadBy, text-read, formula-read, follows-run, no-step}
use Rattle.tptp_reader.proofs.FaultLaws.{Begins}
use Rattle.tptp_reader.proofs.OneReading.{Bottom, run-bottom}
use Rattle.tptp_reader.proofs.ExactLaws.{IsWrittenBy, text-written, formula-written, step-follows, whole-ends, text-goes-on}
use Rattle.tptp_reader.proofs.Derived.{completed, run-back}
use Rattle.tptp_reader.proofs.Deciding.{stop-goes}
use Rattle.tptp_reader.proofs.RunLaws.{run-behind, follow-join}

-- a language that the stack reads, and in which something can follow where the stack expects something
pub record IsFor (modal : Bool) (L : Language) (es : List Expected) : Type 0 where
  pub read : IsReadBy modal L es
  pub written : IsWrittenBy modal L es
  pub goes : (front : List Terminal) (before : List ℕ) (now : List Expected) → run modal es front ≡ Some (before, now) → is_open now ≡ true → CanGoOn L front

run-begins : (modal : Bool) (L : Language) (es : List Expected) → IsWrittenBy modal L es → (front : List Terminal) (before : List ℕ) (now : List Expected) → run modal es front ≡ Some (before, now) → Begins L front
run-begins modal L es w front before now h =
    let c = completed modal now in
    record { rest = c.tokens; nestings = before ++ c.nestings; whole = w.written (front ++ c.tokens) (before ++ c.nestings) (run-back modal front es now before c.tokens c.nestings h c.completes) }

pub text-for : (modal : Bool) → IsFor modal (TextLanguage modal) (items ∷ [])
text-for modal = record {
  read = text-read modal;
  written = text-written modal;
  goes = λ front before now h o. text-goes-on modal front (run-begins modal (TextLanguage modal) (items ∷ []) (text-written modal) front before now h);
}

pub stop-for : (modal : Bool) (L : Language) (above : List Expected) → IsReadBy modal L (above ++ stop ∷ []) → IsWrittenBy modal L (above ++ stop ∷ []) → IsFor modal L (above ++ stop ∷ [])
stop-for modal L above m w = record { read = m; written = w; goes = λ front before now h o. on front before now h o (run-bottom modal front (above ++ stop ∷ []) now before (inr (above, refl)) h) }
  where
    on : (front : List Terminal) (before : List ℕ) (now : List Expected) → run modal (above ++ stop ∷ []) front ≡ Some (before, now) → is_open now ≡ true → Bottom now → CanGoOn L front
    on front before now h o (inl e) = absurd (false≢true (ap is_open (sym e) ∙ o))
    on front before now h o (inr b) = stop-goes modal L (above ++ stop ∷ []) m w front before b.0 (h ∙ ap (λ z. Some (before, z)) b.1)

pub formula-for : (modal : Bool) → IsFor modal (FormulaLanguage modal) (formula 0 ∷ stop ∷ [])
formula-for modal = stop-for modal (FormulaLanguage modal) (formula 0 ∷ []) (formula-read modal) (formula-written modal)

-- ---- the nesting of a token is among those of the run

nesting-in : (modal : Bool) (front back : List Terminal) (x : Terminal) (es mid now : List Expected) (k l : List ℕ) (r : ℕ × List Expected) → run modal es front ≡ Some (k, mid) → step modal mid x ≡ Some r → run modal es (front ++ x ∷ back) ≡ Some (l, now) → list_all is_shallow l ≡ true → is_shallow r.0 ≡ true
nesting-in modal [] back x es mid now k l r h s g all =
    let e : step modal es x ≡ Some r = ap (λ z. step modal z x) (ap (λ p. p.1) (some-is h)) ∙ s in
    let b = run-behind r.0 (run modal r.1 back) l now (sym (ap (λ m. run_after m (λ fs. run modal fs back)) e) ∙ g) in
    (and_parts (is_shallow r.0) (list_all is_shallow b.0) (ap (list_all is_shallow) (sym b.2) ∙ all)).0
nesting-in modal (y ∷ front) back x es mid now k l r h s g all = by (step modal es y) refl (λ fs j i z w a. nesting-in modal front back x fs mid now j i r z s w a) h g
  where
    by : (m : Move) → step modal es y ≡ m → ((fs : List Expected) (j i : List ℕ) → run modal fs front ≡ Some (j, mid) → run modal fs (front ++ x ∷ back) ≡ Some (i, now) → list_all is_shallow i ≡ true → is_shallow r.0 ≡ true)
        → run_after m (λ fs. run modal fs front) ≡ Some (k, mid) → run_after m (λ fs. run modal fs (front ++ x ∷ back)) ≡ Some (l, now) → is_shallow r.0 ≡ true
    by None d next z w = absurd (none_some z)
    by (Some q) d next z w =
        let b = run-behind q.0 (run modal q.1 front) k mid z in
        let c = run-behind q.0 (run modal q.1 (front ++ x ∷ back)) l now w in
        next q.1 b.0 c.0 b.1 c.1 (and_parts (is_shallow q.0) (list_all is_shallow c.0) (ap (list_all is_shallow) (sym c.2) ∙ all)).1

pub run-shallow : (modal : Bool) (L : Language) (es : List Expected) → IsReadBy modal L es → (ts : List Terminal) (k : List ℕ) (now : List Expected) → run modal es ts ≡ Some (k, now) → list_all is_shallow k ≡ true → AreShallow L ts
run-shallow modal L es m ts k now h all = λ front back x e d.
    let f = follows-run modal L es m front x d.0 d.1 in
    let g : run modal es (front ++ x ∷ back) ≡ Some (k, now) = ap (run modal es) (sym e) ∙ h in
    let n : is_shallow d.0 ≡ true = nesting-in modal front back x es f.now now f.before k (d.0, f.rest) f.is_run f.is_step g all in
    false≢true (ap not (sym (lt-ltb 500 d.0 d.2)) ∙ n)

-- ---- the faults

pub stuck-fault : (modal : Bool) (L : Language) (es : List Expected) → IsFor modal L es → (C : Causes) (text : List ℕ) (from : ℕ) (now : List Expected) (p : Piece) (cause : ReadCause)
    → ((front : List Terminal) (k : List ℕ) → run modal es front ≡ Some (k, now) → C front (the_terminal p.terminal) cause) → RanStuck modal text from es now p → HasFault text from L C (wrong p.start cause)
stuck-fault modal L es m C text from now p cause c s =
    let r = s.ran in
    at_token r.front (placed p) p.end cause (follow-join r.there s.there) (run-shallow modal L es m.read (terminals r.front) r.nestings now r.is_run r.shallow)
    (m.goes (terminals r.front) r.nestings now r.is_run r.expects) (no-step modal L es m.read (terminals r.front) (the_terminal p.terminal) r.nestings now r.is_run s.is_step) (c (terminals r.front) r.nestings r.is_run)

pub deep-fault : (modal : Bool) (L : Language) (es : List Expected) → IsFor modal L es → (C : Causes) (text : List ℕ) (from offset : ℕ) → RanDeep modal text from es offset → HasFault text from L C (too_deep offset)
deep-fault modal L es m C text from offset d =
    let r = d.ran in
    at_depth r.front (record { at = offset; terminal = d.terminal }) d.end (follow-join r.there d.there) (run-shallow modal L es m.read (terminals r.front) r.nestings d.now r.is_run r.shallow)
    (d.step.0, step-follows modal L es m.written (terminals r.front) d.terminal r.nestings d.now d.step r.is_run d.is_step, ltb-true 500 d.step.0 d.deep)

pub no_token-fault : (modal : Bool) (L : Language) (es : List Expected) → IsFor modal L es → (C : Causes) (text : List ℕ) (from : ℕ) (now : List Expected) (to offset : ℕ) → Ran modal text from es now to → IsFault text to offset → HasFault text from L C (wrong offset Syntax)
no_token-fault modal L es m C text from now to offset r f =
    at_no_token r.front to offset r.there (run-shallow modal L es m.read (terminals r.front) r.nestings now r.is_run r.shallow) (m.goes (terminals r.front) r.nestings now r.is_run r.expects) f

pub end-fault : (modal : Bool) (L : Language) (es : List Expected) → IsFor modal L es → (C : Causes) (text : List ℕ) (from : ℕ) (now : List Expected) (to : ℕ) → (r : Ran modal text from es now to) → OnlySpace text to → (IsWhole L (terminals r.front) → ⊥) → HasFault text from L C (wrong (length text) Syntax)
end-fault modal L es m C text from now to r o n =
    at_end r.front to r.there (run-shallow modal L es m.read (terminals r.front) r.nestings now r.is_run r.shallow) (m.goes (terminals r.front) r.nestings now r.is_run r.expects) n o

-- above the last token of a formula nothing else may be left out
pub not-whole : (modal : Bool) (text : List ℕ) (from : ℕ) (now : List Expected) (to : ℕ) (r : Ran modal text from (formula 0 ∷ stop ∷ []) now to) → IsWhole (FormulaLanguage modal) (terminals r.front) → ⊥
not-whole modal text from now to r w = false≢true (sym (by (run-bottom modal (terminals r.front) (formula 0 ∷ stop ∷ []) now r.nestings (inr (formula 0 ∷ [], refl)) r.is_run)) ∙ whole-ends modal (FormulaLanguage modal) (formula 0 ∷ stop ∷ []) (formula-read modal) (terminals r.front) r.nestings now r.is_run w)
  where
    stays : (above : List Expected) → all_optional (above ++ stop ∷ []) ≡ false
    stays [] = refl
    stays (e ∷ above) = ap (λ b. is_optional e && b) (stays above) ∙ and-false (is_optional e)

    by : Bottom now → all_optional now ≡ false
    by (inl e) = absurd (false≢true (ap is_open (sym e) ∙ r.expects))
    by (inr b) = ap all_optional b.1 ∙ stays b.0
