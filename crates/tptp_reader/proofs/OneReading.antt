-- A text has one reading, and so has a formula in a text.
use Rattle.std.proofs.Common.{◌≡◌, ◌<◌, ◌⊎◌, ℕ, Bool, true, false, List, [], ◌∷◌, ◌++◌, Option, None, Some, inl, inr, refl, sym, ◌∙◌, ap, append_assoc, append-nil, subst, arith, length, slice_get, suc}
use Rattle.std.proofs.lemmas.Bool.{false≢true}
use Rattle.std.proofs.lemmas.List.{length-append}
use Rattle.plain_laws.proofs.Options.{none_some}
use Rattle.plain_laws.proofs.Lists.{same-last}
use Rattle.tptp_lex.proofs.AnswerLaws.{none-or-fault, next-or-none}
use Rattle.tptp_lex.proofs.Runs.{some-is}
use Rattle.tptp_lex.specs.Answers.{OnlySpace}
use Rattle.tptp_reader.specs.declared.fault.ReadCause.{ReadCause}
use Rattle.tptp_reader.specs.Sources.{Source, Item}
use Rattle.tptp_reader.specs.Terminals.{Terminal, comma, close_round, Placed, terminals, offsets}
use Rattle.tptp_reader.specs.Meaning.{source_of, items_of}
use Rattle.tptp_reader.specs.Nesting.{formula_nestings, text_nestings}
use Rattle.tptp_reader.specs.Faults.{TextLanguage, FormulaLanguage, FollowsAt, CanFollow, Place, at_item, in_formula, elsewhere, IsPlace, cause_at, TextCauses, FormulaCauses, IsTooDeep, Fault, HasFault}
use Rattle.tptp_reader.specs.Reading.{Outcome, reads, fails, HoldsItems, IsReading, HoldsFormula, IsFormulaReading}
use Rattle.tptp_reader.specs.Expecting.{Expected, formula, stop, items, move, moved, is_optional, step, stop_move, run, run_on, run_after}
use Rattle.tptp_reader.proofs.Deriving.{Derives, ends, takes, skips, derives-step}
use Rattle.tptp_reader.proofs.PlaceLaws.{next-in}
use Rattle.tptp_reader.proofs.FollowLaws.{text-read, formula-read, derives-run, get-behind, nesting-alone}
use Rattle.tptp_reader.proofs.FaultLaws.{whole-begins, Halts, halts-alone, deep-or-halts, Stuck, a_wrong_token, no_token_there, not_whole, Fate, stops, sinks, fate, one-fault, terminals-append}
use Rattle.tptp_reader.proofs.TreeLaws.{head_or, tail_of, one-tree}
use Rattle.tptp_reader.proofs.ItemLaws.{text-alike}

-- ---- causes

place-alone : (modal : Bool) (front : List Terminal) (p q : Place) → IsPlace modal front p → IsPlace modal front q → p ≡ q
place-alone modal front at_item at_item h k = refl
place-alone modal front at_item in_formula h k = absurd (k.0 h)
place-alone modal front at_item elsewhere h k = absurd (k.0 h)
place-alone modal front in_formula at_item h k = absurd (h.0 k)
place-alone modal front in_formula in_formula h k = refl
place-alone modal front in_formula elsewhere h k = absurd (k.1 h.1)
place-alone modal front elsewhere at_item h k = absurd (h.0 k)
place-alone modal front elsewhere in_formula h k = absurd (h.1 k.1)
place-alone modal front elsewhere elsewhere h k = refl

text-cause : (modal : Bool) (front : List Terminal) (x : Terminal) (c d : ReadCause) → TextCauses modal front x c → TextCauses modal front x d → c ≡ d
text-cause modal front x c d h k = h.2 ∙ ap (λ p. cause_at modal p x) (place-alone modal front h.0 k.0 h.1 k.1) ∙ sym k.2

formula-cause : (front : List Terminal) (x : Terminal) (c d : ReadCause) → FormulaCauses front x c → FormulaCauses front x d → c ≡ d
formula-cause front x c d h k = h ∙ sym k

-- ---- texts

text-whole : (modal : Bool) (text : List ℕ) (r : List Item) (h : HoldsItems modal text r) → TextLanguage modal (terminals h.tokens) (text_nestings h.trees)
text-whole modal text r h = (h.trees, h.fit, h.written, refl)

items-halt : (modal : Bool) (text : List ℕ) (r : List Item) (h : HoldsItems modal text r) → Halts (TextLanguage modal) text 0 h.tokens h.to
items-halt modal text r h = record {
  there = h.there;
  begins = whole-begins (TextLanguage modal) (terminals h.tokens) (text_nestings h.trees) (text-whole modal text r h);
  shallow = h.shallow;
  blocked = λ p back end f k. let t = next-in f in next-or-none text h.to t.0 t.1 h.all;
}

-- where the items are read nothing is wrong
items-or-fault : (modal : Bool) (text : List ℕ) (r : List Item) (f : Fault) → HoldsItems modal text r → HasFault text 0 (TextLanguage modal) (TextCauses modal) f → ⊥
items-or-fault modal text r f h k = by (fate text 0 (TextLanguage modal) (TextCauses modal) f k)
  where
    stuck : (front : List Placed) (to : ℕ) (z : Fault) → h.tokens ≡ front → h.to ≡ to → Stuck text (TextLanguage modal) (TextCauses modal) (terminals front) to z → ⊥
    stuck front to z e d (a_wrong_token p end c g s) = let t = next-in g in next-or-none text to t.0 t.1 (subst (OnlySpace text) d h.all)
    stuck front to z e d (no_token_there offset n) = none-or-fault text to offset (subst (OnlySpace text) d h.all) n
    stuck front to z e d (not_whole w o) = w (text_nestings h.trees, subst (λ (ps : List Placed). TextLanguage modal (terminals ps) (text_nestings h.trees)) e (text-whole modal text r h))

    by : Fate text 0 (TextLanguage modal) (TextCauses modal) f → ⊥
    by (stops front to g v s) =
        let e = halts-alone modal (TextLanguage modal) (items ∷ []) (text-read modal) text 0 h.tokens front h.to to (items-halt modal text r h) g in
        stuck front to f e.fronts e.places s
    by (sinks front p to e g s d) = deep-or-halts modal (TextLanguage modal) (items ∷ []) (text-read modal) text 0 front h.tokens p to h.to g d (items-halt modal text r h)

items-alone : (modal : Bool) (text : List ℕ) (r s : List Item) → HoldsItems modal text r → HoldsItems modal text s → r ≡ s
items-alone modal text r s h k =
    let e = halts-alone modal (TextLanguage modal) (items ∷ []) (text-read modal) text 0 h.tokens k.tokens h.to k.to (items-halt modal text r h) (items-halt modal text s k) in
    h.meant ∙ text-alike h.trees k.trees modal h.fit k.fit (sym h.written ∙ ap terminals e.fronts ∙ k.written) (offsets h.tokens)
    ∙ ap (λ (ps : List Placed). items_of (offsets ps) k.trees) e.fronts ∙ sym k.meant

-- A text has one reading.
pub one-reading : (modal : Bool) (text : List ℕ) (a b : Outcome (List Item)) → IsReading modal text a → IsReading modal text b → a ≡ b
one-reading modal text (reads r) (reads s) h k = ap reads (items-alone modal text r s h k)
one-reading modal text (reads r) (fails f) h k = absurd (items-or-fault modal text r f h k)
one-reading modal text (fails f) (reads r) h k = absurd (items-or-fault modal text r f k h)
one-reading modal text (fails f) (fails g) h k = ap fails (one-fault modal (TextLanguage modal) (items ∷ []) (text-read modal) (TextCauses modal) (text-cause modal) text 0 f g h k)

-- ---- formulas: nothing can follow the token behind one

pub stop-leads : (x : Terminal) (r : ℕ × List Expected) → stop_move x ≡ Some r → r.1 ≡ []
stop-leads comma r e = ap (λ p. p.1) (sym (some-is e))
stop-leads close_round r e = ap (λ p. p.1) (sym (some-is e))
stop-leads _ r e = absurd (none_some e)

-- the last part stays until it takes its token
abbrev pub Bottom : List Expected → Type 0
Bottom es = (es ≡ []) ⊎ ((above : List Expected) × (es ≡ above ++ stop ∷ []))

bottom-step : (modal : Bool) (above : List Expected) (x : Terminal) (r : ℕ × List Expected) → step modal (above ++ stop ∷ []) x ≡ Some r → Bottom r.1
bottom-step modal [] x r e = by (stop_move x) refl e
  where
    by : (m : Option (ℕ × List Expected)) → stop_move x ≡ m → moved m false [] None ≡ Some r → Bottom r.1
    by None d k = absurd (none_some k)
    by (Some q) d k = inl (ap (λ p. p.1) (sym (some-is k)) ∙ append-nil q.1 ∙ stop-leads x q d)
bottom-step modal (e ∷ above) x r h = by (move modal e x) (is_optional e) (λ k. bottom-step modal above x r k) h
  where
    by : (m : Option (ℕ × List Expected)) (o : Bool) → (step modal (above ++ stop ∷ []) x ≡ Some r → Bottom r.1) → moved m o (above ++ stop ∷ []) (step modal (above ++ stop ∷ []) x) ≡ Some r → Bottom r.1
    by (Some q) o next k = inr (q.1 ++ above, ap (λ p. p.1) (sym (some-is k)) ∙ sym (append_assoc q.1 above (stop ∷ [])))
    by None true next k = next k
    by None false next k = absurd (none_some k)

-- nothing is derived from a stack with the last part at its end but with a token
no-end : (modal : Bool) (above : List Expected) (ns : List ℕ) → Derives modal (above ++ stop ∷ []) [] ns → ⊥
no-end modal [] ns (skips o h) = false≢true o
no-end modal (e ∷ above) ns (skips o h) = no-end modal above ns h

-- what is expected behind a whole text of a language that ends with this part is nothing
ended : (modal : Bool) (es : List Expected) (ns : List ℕ) → Bottom es → Derives modal es [] ns → es ≡ []
ended modal es ns (inl e) h = e
ended modal es ns (inr a) h = absurd (no-end modal a.0 ns (subst (λ s. Derives modal s [] ns) a.1 h))

bottom-after : (modal : Bool) (es : List Expected) (x : Terminal) (r : ℕ × List Expected) → Bottom es → step modal es x ≡ Some r → Bottom r.1
bottom-after modal es x r (inl e) h = absurd (none_some (sym (ap (λ s. step modal s x) e) ∙ h))
bottom-after modal es x r (inr a) h = bottom-step modal a.0 x r (sym (ap (λ s. step modal s x) a.1) ∙ h)

pub run-bottom : (modal : Bool) (front : List Terminal) (es now : List Expected) (before : List ℕ) → Bottom es → run modal es front ≡ Some (before, now) → Bottom now
run-bottom modal [] es now before b e = subst Bottom (ap (λ p. p.1) (some-is e)) b
run-bottom modal (x ∷ front) es now before b e = by (step modal es x) refl (λ fs c k h. run-bottom modal front fs now k c h) e
  where
    behind : (n : ℕ) (r : Option (List ℕ × List Expected)) → run_on n r ≡ Some (before, now) → (k : List ℕ) × (r ≡ Some (k, now))
    behind n None h = absurd (none_some h)
    behind n (Some q) h = (q.0, ap (λ z. Some (q.0, z)) (ap (λ p. p.1) (some-is h)))

    by : (m : Option (ℕ × List Expected)) → step modal es x ≡ m → ((fs : List Expected) → Bottom fs → (k : List ℕ) → run modal fs front ≡ Some (k, now) → Bottom now) → run_after m (λ fs. run modal fs front) ≡ Some (before, now) → Bottom now
    by None d next h = absurd (none_some h)
    by (Some q) d next h = let k = behind q.0 (run modal q.1 front) h in next q.1 (bottom-after modal es x q b d) k.0 k.1

-- nothing follows a whole text of formulas
pub formula-over : (modal : Bool) (ts : List Terminal) (ns : List ℕ) (x : Terminal) → FormulaLanguage modal ts ns → CanFollow (FormulaLanguage modal) ts x → ⊥
formula-over modal ts ns x h k =
    let m = formula-read modal in
    let f = k.1 in
    let a = derives-run modal ts (formula 0 ∷ stop ∷ []) (x ∷ f.0) f.1 m.good (m.derived (ts ++ x ∷ f.0) f.1 f.2) in
    let b = derives-run modal ts (formula 0 ∷ stop ∷ []) [] ns m.good (subst (λ t. Derives modal (formula 0 ∷ stop ∷ []) t ns) (sym (append-nil ts)) (m.derived ts ns h)) in
    let e : a.now ≡ b.now = ap (λ p. p.1) (some-is (sym a.is_run ∙ b.is_run)) in
    let n : b.now ≡ [] = ended modal b.now b.others (run-bottom modal ts (formula 0 ∷ stop ∷ []) b.now b.before (inr (formula 0 ∷ [], refl)) b.is_run) b.derived in
    let s = derives-step modal a.now x f.0 a.others a.good a.derived in
    none_some (sym (ap (λ z. step modal z x) (e ∙ n)) ∙ s.is_step)

derives-length : {modal : Bool} {es : List Expected} {ts : List Terminal} {ns : List ℕ} → Derives modal es ts ns → length ns ≡ length ts
derives-length ends = refl
derives-length (takes m h) = ap suc (derives-length h)
derives-length (skips o h) = derives-length h

-- the token behind a formula has no nesting
stop-nesting : (modal : Bool) (text : List ℕ) (from : ℕ) (r : Source) (end : ℕ) (h : HoldsFormula modal text from r end) → FollowsAt (FormulaLanguage modal) (terminals h.tokens) h.stop.terminal 0
stop-nesting modal text from r end h =
    let l : FormulaLanguage modal (terminals h.tokens ++ h.stop.terminal ∷ []) (formula_nestings 0 h.tree ++ 0 ∷ []) = (h.tree, h.stop.terminal, h.fit, h.stops, ap (λ t. t ++ h.stop.terminal ∷ []) h.written, refl) in
    let d : length (formula_nestings 0 h.tree ++ 0 ∷ []) ≡ length (terminals h.tokens ++ h.stop.terminal ∷ []) = derives-length ((formula-read modal).derived (terminals h.tokens ++ h.stop.terminal ∷ []) (formula_nestings 0 h.tree ++ 0 ∷ []) l) in
    let n : length (terminals h.tokens) ≡ length (formula_nestings 0 h.tree) = omega (arith, d, length-append (formula_nestings 0 h.tree) (0 ∷ []), length-append (terminals h.tokens) (h.stop.terminal ∷ [])) in
    ([], formula_nestings 0 h.tree ++ 0 ∷ [], l, ap (λ k. slice_get (formula_nestings 0 h.tree ++ 0 ∷ []) k) n ∙ get-behind (formula_nestings 0 h.tree) 0 [])

pub split-last : {A : Type 0} (front back ts : List A) (x s : A) → ts ++ s ∷ [] ≡ front ++ x ∷ back → ((more : List A) × (ts ≡ front ++ x ∷ more)) ⊎ ((ts ≡ front) × (s ≡ x))
split-last [] back [] x s e = inr (refl, ap (head_or s) e)
split-last [] back (t ∷ ts) x s e = inl (ts, λ i. ap (head_or t) e i ∷ ts)
split-last {A} (f ∷ front) back [] x s e = absurd (none-there front (ap tail_of e))
  where
    none-there : (front : List A) → [] ≡ front ++ x ∷ back → ⊥
    none-there [] k = cc
    none-there (w ∷ ws) k = cc
split-last {A} (f ∷ front) back (t ∷ ts) x s e = by (split-last front back ts x s (ap tail_of e))
  where
    by : ((more : List A) × (ts ≡ front ++ x ∷ more)) ⊎ ((ts ≡ front) × (s ≡ x)) → ((more : List A) × (t ∷ ts ≡ f ∷ (front ++ x ∷ more))) ⊎ ((t ∷ ts ≡ f ∷ front) × (s ≡ x))
    by (inl m) = inl (m.0, λ i. ap (head_or t) e i ∷ m.1 i)
    by (inr m) = inr (λ i. ap (head_or t) e i ∷ m.0 i, m.1)

formula-whole : (modal : Bool) (text : List ℕ) (from : ℕ) (r : Source) (end : ℕ) (h : HoldsFormula modal text from r end) → FormulaLanguage modal (terminals (h.tokens ++ h.stop ∷ [])) (formula_nestings 0 h.tree ++ 0 ∷ [])
formula-whole modal text from r end h = (h.tree, h.stop.terminal, h.fit, h.stops, terminals-append h.tokens (h.stop ∷ []) ∙ ap (λ t. t ++ h.stop.terminal ∷ []) h.written, refl)

formula-halt : (modal : Bool) (text : List ℕ) (from : ℕ) (r : Source) (end : ℕ) (h : HoldsFormula modal text from r end) → Halts (FormulaLanguage modal) text from (h.tokens ++ h.stop ∷ []) h.to
formula-halt modal text from r end h = record {
  there = h.there;
  begins = whole-begins (FormulaLanguage modal) (terminals (h.tokens ++ h.stop ∷ [])) (formula_nestings 0 h.tree ++ 0 ∷ []) (formula-whole modal text from r end h);
  shallow = λ front back x e d. by front back x d (split-last front back (terminals h.tokens) x h.stop.terminal (sym (terminals-append h.tokens (h.stop ∷ [])) ∙ e));
  blocked = λ p back to f k. formula-over modal (terminals (h.tokens ++ h.stop ∷ [])) (formula_nestings 0 h.tree ++ 0 ∷ []) p.terminal (formula-whole modal text from r end h) k;
}
  where
    by : (front back : List Terminal) (x : Terminal) → IsTooDeep (FormulaLanguage modal) front x → ((more : List Terminal) × (terminals h.tokens ≡ front ++ x ∷ more)) ⊎ ((terminals h.tokens ≡ front) × (h.stop.terminal ≡ x)) → ⊥
    by front back x d (inl m) = h.shallow front m.0 x m.1 d
    by front back x d (inr m) =
        let f : FollowsAt (FormulaLanguage modal) front x 0 = subst (λ t. FollowsAt (FormulaLanguage modal) front t 0) m.1 (subst (λ t. FollowsAt (FormulaLanguage modal) t h.stop.terminal 0) m.0 (stop-nesting modal text from r end h)) in
        let e : d.0 ≡ 0 = nesting-alone modal (FormulaLanguage modal) (formula 0 ∷ stop ∷ []) (formula-read modal) front x d.0 0 d.1 f in
        let g : 500 < d.0 = d.2 in
        omega (arith, e, g)

formula-or-fault : (modal : Bool) (text : List ℕ) (from : ℕ) (r : Source) (end : ℕ) (f : Fault) → HoldsFormula modal text from r end → HasFault text from (FormulaLanguage modal) FormulaCauses f → ⊥
formula-or-fault modal text from r end f h k = by (fate text from (FormulaLanguage modal) FormulaCauses f k)
  where
    by : Fate text from (FormulaLanguage modal) FormulaCauses f → ⊥
    by (stops front to g v s) =
        let e = halts-alone modal (FormulaLanguage modal) (formula 0 ∷ stop ∷ []) (formula-read modal) text from (h.tokens ++ h.stop ∷ []) front h.to to (formula-halt modal text from r end h) g in
        formula-over modal (terminals (h.tokens ++ h.stop ∷ [])) (formula_nestings 0 h.tree ++ 0 ∷ []) v.0 (formula-whole modal text from r end h)
        (subst (λ (ps : List Placed). CanFollow (FormulaLanguage modal) (terminals ps) v.0) (sym e.fronts) v.1)
    by (sinks front p to e g s d) = deep-or-halts modal (FormulaLanguage modal) (formula 0 ∷ stop ∷ []) (formula-read modal) text from front (h.tokens ++ h.stop ∷ []) p to h.to g d (formula-halt modal text from r end h)

formula-alone : (modal : Bool) (text : List ℕ) (from : ℕ) (a b : Source × ℕ) → HoldsFormula modal text from a.0 a.1 → HoldsFormula modal text from b.0 b.1 → a ≡ b
formula-alone modal text from a b h k =
    let e = halts-alone modal (FormulaLanguage modal) (formula 0 ∷ stop ∷ []) (formula-read modal) text from (h.tokens ++ h.stop ∷ []) (k.tokens ++ k.stop ∷ []) h.to k.to (formula-halt modal text from a.0 a.1 h) (formula-halt modal text from b.0 b.1 k) in
    let s = same-last h.tokens k.tokens h.stop k.stop e.fronts in
    let t : h.tree ≡ k.tree = one-tree h.tree k.tree (sym h.written ∙ ap terminals s.0 ∙ k.written) in
    let c : a.0 ≡ b.0 = h.meant ∙ ap source_of t ∙ sym k.meant in
    let d : a.1 ≡ b.1 = h.place ∙ ap (λ (p : Placed). p.at) s.1 ∙ sym k.place in
    λ i. (c i, d i)

-- A formula in a text has one reading.
pub one-formula-reading : (modal : Bool) (text : List ℕ) (from : ℕ) (a b : Outcome (Source × ℕ)) → IsFormulaReading modal text from a → IsFormulaReading modal text from b → a ≡ b
one-formula-reading modal text from (reads r) (reads s) h k = ap reads (formula-alone modal text from r s h k)
one-formula-reading modal text from (reads r) (fails f) h k = absurd (formula-or-fault modal text from r.0 r.1 f h k)
one-formula-reading modal text from (fails f) (reads r) h k = absurd (formula-or-fault modal text from r.0 r.1 f k h)
one-formula-reading modal text from (fails f) (fails g) h k = ap fails (one-fault modal (FormulaLanguage modal) (formula 0 ∷ stop ∷ []) (formula-read modal) FormulaCauses formula-cause text from f g h k)
