-- Where the way over a text comes to its end, it does not go wrong.
use Rattle.std.proofs.Common.{◌≡◌, ◌&&◌, ℕ, Bool, true, false, List, [], ◌∷◌, ◌++◌, None, Some, refl, sym, ◌∙◌, ap, subst}
use Rattle.std.specs.List.{list_all}
use Rattle.std.proofs.lemmas.Bool.{and_parts, false≢true}
use Rattle.plain_laws.proofs.Options.{none_some}
use Rattle.tptp_lex.proofs.AnswerLaws.{none-or-fault, next-or-none, next-or-fault}
use Rattle.tptp_lex.specs.Answers.{IsNext, IsFault, OnlySpace}
use Rattle.tptp_lex.proofs.Runs.{some-is}
use Rattle.tptp_reader.specs.declared.following.Ending.{Ending}
use Rattle.tptp_reader.specs.declared.following.Ending.TheVariants as ending
use Rattle.tptp_reader.specs.declared.terminal.Piece.{Piece}
use Rattle.tptp_reader.specs.Terminals.{Terminal, Placed, terminals, Follow, no_token, a_token}
use Rattle.tptp_reader.specs.TerminalView.{the_terminal}
use Rattle.tptp_reader.specs.Pieces.{placed}
use Rattle.tptp_reader.specs.Expecting.{Expected, items, all_optional, is_at_item, Move, step, run, run_after}
use Rattle.tptp_reader.specs.Following.{Ran, RanOut, HasEnding, is_open, is_shallow}
use Rattle.tptp_reader.specs.Failing.{Fails, at_no_token, at_end, at_token, at_depth, further}
use Rattle.tptp_reader.proofs.PlaceLaws.{Compared, alike, longer, shorter, compared, next-in}
use Rattle.tptp_reader.proofs.RunLaws.{run-behind}
use Rattle.tptp_reader.proofs.StageLaws.{at-item-is}

-- ---- the next token

record OneNext (p q : Placed) (to end : ℕ) : Type 0 where
  token : p ≡ q
  place : to ≡ end

one-next : {text : List ℕ} {from to end : ℕ} (p q : Placed) → Follow text from (p ∷ []) to → Follow text from (q ∷ []) end → OneNext p q to end
one-next {text} {from} {to} {end} p q f g = by (compared f g)
  where
    by : Compared text (p ∷ []) to (q ∷ []) end → OneNext p q to end
    by (alike e k) = record { token = cc; place = k }
    by (longer r back e h) = cc
    by (shorter r back e h) = cc

-- ---- where nothing is expected, or nothing needs to be

nothing-fails : (modal : Bool) (text : List ℕ) (es : List Expected) (from : ℕ) → es ≡ [] → Fails modal text es from → ⊥
nothing-fails modal text es from e (at_no_token fs at offset o f) = false≢true (sym (ap is_open e) ∙ o)
nothing-fails modal text es from e (at_end fs at b f) = false≢true (sym b ∙ ap all_optional e)
nothing-fails modal text es from e (at_token fs at p to f o s) = false≢true (sym (ap is_open e) ∙ o)
nothing-fails modal text es from e (at_depth fs at p to m f s d) = none_some (sym (ap (λ z. step modal z p.terminal) e) ∙ s)
nothing-fails modal text es from e (further fs at p to m f s h) = none_some (sym (ap (λ z. step modal z p.terminal) e) ∙ s)

space-fails : (modal : Bool) (text : List ℕ) (es : List Expected) (from : ℕ) → all_optional es ≡ true → OnlySpace text from → Fails modal text es from → ⊥
space-fails modal text es from e k (at_no_token fs at offset o f) = none-or-fault text from offset k f
space-fails modal text es from e k (at_end fs at b f) = false≢true (sym b ∙ e)
space-fails modal text es from e k (at_token fs at p to f o s) = let t = next-in f in next-or-none text from t.0 t.1 k
space-fails modal text es from e k (at_depth fs at p to m f s d) = let t = next-in f in next-or-none text from t.0 t.1 k
space-fails modal text es from e k (further fs at p to m f s h) = let t = next-in f in next-or-none text from t.0 t.1 k

-- ---- one token further

same-move : (modal : Bool) (es : List Expected) (p q : Placed) (m n : ℕ × List Expected) → q ≡ p → step modal es p.terminal ≡ Some m → step modal es q.terminal ≡ Some n → n ≡ m
same-move modal es p q m n e s t = some-is (sym t ∙ ap (λ (z : Placed). step modal es z.terminal) e ∙ s)

token-fails : (modal : Bool) (text : List ℕ) (es : List Expected) (from : ℕ) (p : Placed) (to : ℕ) (m : ℕ × List Expected) → Follow text from (p ∷ []) to → step modal es p.terminal ≡ Some m → is_shallow m.0 ≡ true → (Fails modal text m.1 to → ⊥) → Fails modal text es from → ⊥
token-fails modal text es from p to m g s a k (at_no_token fs at offset o f) = let t = next-in g in next-or-fault text from t.0 offset t.1 f
token-fails modal text es from p to m g s a k (at_end fs at b f) = let t = next-in g in next-or-none text from t.0 t.1 f
token-fails modal text es from p to m g s a k (at_token fs at q end f o n) =
    let w = one-next q p f g in
    none_some (sym n ∙ ap (λ (z : Placed). step modal es z.terminal) w.token ∙ s)
token-fails modal text es from p to m g s a k (at_depth fs at q end n f t d) =
    let w = one-next q p f g in
    false≢true (sym d ∙ ap (λ z. is_shallow z.0) (same-move modal es p q m n w.token s t) ∙ a)
token-fails modal text es from p to m g s a k (further fs at q end n f t h) =
    let w = one-next q p f g in
    k (subst (λ z. Fails modal text m.1 z) w.place (subst (λ z. Fails modal text z end) (ap (λ z. z.1) (same-move modal es p q m n w.token s t)) h))

-- ---- many tokens further

cut : {text : List ℕ} {from to : ℕ} {q : Placed} {back : List Placed} → Follow text from (q ∷ back) to → (mid : ℕ) × Follow text from (q ∷ []) mid × Follow text mid back to
cut (a_token from to t x ps n k s f) = (t.end, a_token from t.end t x [] n k s (no_token t.end), f)

same-place : {text : List ℕ} {from to : ℕ} → Follow text from [] to → from ≡ to
same-place (no_token from) = refl

run-fails : (modal : Bool) (text : List ℕ) (front : List Placed) (es now : List Expected) (from to : ℕ) (k : List ℕ) → Follow text from front to → run modal es (terminals front) ≡ Some (k, now) → list_all is_shallow k ≡ true → (Fails modal text now to → ⊥) → Fails modal text es from → ⊥
run-fails modal text [] es now from to k f e a n h = n (subst (λ z. Fails modal text now z) (same-place f) (subst (λ z. Fails modal text z from) (ap (λ z. z.1) (some-is e)) h))
run-fails modal text (p ∷ front) es now from to k f e a n h = by (step modal es p.terminal) refl (λ fs mid j g i b x. run-fails modal text front fs now mid to j g i b n x) e
  where
    by : (m : Move) → step modal es p.terminal ≡ m → ((fs : List Expected) (mid : ℕ) (j : List ℕ) → Follow text mid front to → run modal fs (terminals front) ≡ Some (j, now) → list_all is_shallow j ≡ true → Fails modal text fs mid → ⊥)
        → run_after m (λ fs. run modal fs (terminals front)) ≡ Some (k, now) → ⊥
    by None d next q = none_some q
    by (Some m) d next q =
        let b = run-behind m.0 (run modal m.1 (terminals front)) k now q in
        let c = cut f in
        let s = and_parts (is_shallow m.0) (list_all is_shallow b.0) (ap (list_all is_shallow) (sym b.2) ∙ a) in
        token-fails modal text es from p c.0 m c.1 d s.0 (λ x. next m.1 c.0 b.0 c.2 b.1 s.1 x) h

-- ---- how the program's way ends

pub ran-out : (modal : Bool) (text : List ℕ) (from : ℕ) (es now : List Expected) (e : Ending) (p : Piece) → HasEnding modal text from es now e → e ≡ ending.Done p → Fails modal text es from → ⊥
ran-out modal text from es now e p h q x =
    let d : RanOut modal text from es p = subst (λ z. HasEnding modal text from es now z) q h in
    let r = d.ran in
    run-fails modal text r.front es d.now from d.to r.nestings r.there r.is_run r.shallow
    (λ y. token-fails modal text d.now d.to (placed p) p.end (d.nesting, []) d.there d.is_step d.shallow (λ z. nothing-fails modal text [] p.end refl z) y) x

pub ran-whole : (modal : Bool) (text : List ℕ) (from : ℕ) (es now : List Expected) (e : Ending) → HasEnding modal text from es now e → e ≡ ending.End → is_at_item now ≡ true → Fails modal text es from → ⊥
ran-whole modal text from es now e h q i x =
    let d : (to : ℕ) × Ran modal text from es now to × OnlySpace text to = subst (λ z. HasEnding modal text from es now z) q h in
    let r = d.1 in
    run-fails modal text r.front es now from d.0 r.nestings r.there r.is_run r.shallow (λ y. space-fails modal text now d.0 (ap all_optional (at-item-is now i)) d.2 y) x
