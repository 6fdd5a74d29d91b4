-- One token more on the way over a text.
use Rattle.std.proofs.Common.{◌≡◌, ◌&&◌, ℕ, Bool, true, false, not, List, [], ◌∷◌, ◌++◌, None, Some, refl, sym, ◌∙◌, ap}
use Rattle.std.specs.Prelude.{nat_lt, if◌then◌else◌}
use Rattle.std.specs.List.{list_all}
use Rattle.std.proofs.lemmas.Bool.{and_from}
use Rattle.std.proofs.lemmas.List.Folds.{list_all-append}
use Rattle.plain_laws.proofs.Options.{none_some}
use Rattle.tptp_lex.proofs.Runs.{some-is}
use Rattle.tptp_reader.specs.Terminals.{Terminal, Placed, terminals, Follow, no_token, a_token}
use Rattle.tptp_reader.specs.Expecting as way
use Rattle.tptp_reader.specs.Expecting.{Expected, step, run, run_on, run_after}
use Rattle.tptp_reader.specs.Following.{Ran, RanDeep, told, stack_after, is_open, is_shallow}
use Rattle.tptp_reader.specs.declared.machine.Step.TheVariants.{Onward, TooDeep}
use Rattle.tptp_reader.proofs.FaultLaws.{terminals-append}

-- ---- the step that the program tells of

pub record Onwards (m : way.Move) (es : List Expected) : Type 0 where
  pub nesting : ℕ
  pub is_move : m ≡ Some (nesting, stack_after m es)
  pub shallow : is_shallow nesting ≡ true

pub told-onward : (m : way.Move) (es : List Expected) → Onward ≡ told m → Onwards m es
told-onward None es e = cc
told-onward (Some m) es e = by (nat_lt 500 m.0) refl e
  where
    by : (b : Bool) → nat_lt 500 m.0 ≡ b → Onward ≡ (if b then TooDeep else Onward) → Onwards (Some m) es
    by true h k = cc
    by false h k = record { nesting = m.0; is_move = sym (ap (λ b. Some (m.0, if b then es else m.1)) h); shallow = ap not h }

pub record Deep (m : way.Move) : Type 0 where
  pub step : ℕ × List Expected
  pub is_move : m ≡ Some step
  pub deep : nat_lt 500 step.0 ≡ true

pub told-deep : (m : way.Move) → TooDeep ≡ told m → Deep m
told-deep None e = cc
told-deep (Some m) e = by (nat_lt 500 m.0) refl e
  where
    by : (b : Bool) → nat_lt 500 m.0 ≡ b → TooDeep ≡ (if b then TooDeep else Onward) → Deep (Some m)
    by true h k = record { step = m; is_move = refl; deep = h }
    by false h k = cc

-- ---- tokens and runs one behind the other

pub follow-join : {text : List ℕ} {from mid to : ℕ} {ps qs : List Placed} → Follow text from ps mid → Follow text mid qs to → Follow text from (ps ++ qs) to
follow-join (no_token from) g = g
follow-join {to = to} {qs = qs} (a_token from mid t x ps n k e f) g = a_token from to t x (ps ++ qs) n k e (follow-join f g)

pub run-behind : (n : ℕ) (r : way.Run) (k : List ℕ) (mid : List Expected) → run_on n r ≡ Some (k, mid) → (j : List ℕ) × (r ≡ Some (j, mid)) × (k ≡ n ∷ j)
run-behind n None k mid e = absurd (none_some e)
run-behind n (Some q) k mid e = (q.0, ap (λ z. Some (q.0, z)) (ap (λ p. p.1) (some-is e)), sym (ap (λ p. p.0) (some-is e)))

pub run-join : (modal : Bool) (xs ys : List Terminal) (es mid now : List Expected) (k l : List ℕ) → run modal es xs ≡ Some (k, mid) → run modal mid ys ≡ Some (l, now) → run modal es (xs ++ ys) ≡ Some (k ++ l, now)
run-join modal [] ys es mid now k l h g =
    ap (λ s. run modal s ys) (ap (λ p. p.1) (some-is h)) ∙ g ∙ ap (λ z. Some (z ++ l, now)) (ap (λ p. p.0) (some-is h))
run-join modal (x ∷ xs) ys es mid now k l h g = by (step modal es x) refl (λ fs j z. run-join modal xs ys fs mid now j l z g) h
  where
    by : (m : way.Move) → step modal es x ≡ m → ((fs : List Expected) (j : List ℕ) → run modal fs xs ≡ Some (j, mid) → run modal fs (xs ++ ys) ≡ Some (j ++ l, now)) → run_after m (λ fs. run modal fs xs) ≡ Some (k, mid) → run_after (step modal es x) (λ fs. run modal fs (xs ++ ys)) ≡ Some (k ++ l, now)
    by None d next e = absurd (none_some e)
    by (Some q) d next e =
        let b = run-behind q.0 (run modal q.1 xs) k mid e in
        ap (λ m. run_after m (λ fs. run modal fs (xs ++ ys))) d ∙ ap (run_on q.0) (next q.1 b.0 b.1) ∙ ap (λ z. Some (z ++ l, now)) (sym b.2)

pub single-run : (modal : Bool) (es : List Expected) (x : Terminal) (n : ℕ) (fs : List Expected) → step modal es x ≡ Some (n, fs) → run modal es (x ∷ []) ≡ Some (n ∷ [], fs)
single-run modal es x n fs e = ap (λ m. run_after m (λ gs. run modal gs [])) e

pub ran-none : (modal : Bool) (text : List ℕ) (from : ℕ) (es : List Expected) → is_open es ≡ true → Ran modal text from es es from
ran-none modal text from es o = record { front = []; nestings = []; there = no_token from; is_run = refl; shallow = refl; expects = o }

-- one token more, which is not too deep
pub ran-more : (modal : Bool) (text : List ℕ) (from : ℕ) (es now : List Expected) (to : ℕ) → Ran modal text from es now to → (p : Placed) (end : ℕ) → Follow text to (p ∷ []) end → (n : ℕ) (fs : List Expected) → step modal now p.terminal ≡ Some (n, fs) → is_shallow n ≡ true → is_open fs ≡ true → Ran modal text from es fs end
ran-more modal text from es now to r p end f n fs e h o = record {
  front = r.front ++ p ∷ [];
  nestings = r.nestings ++ n ∷ [];
  there = follow-join r.there f;
  is_run = ap (run modal es) (terminals-append r.front (p ∷ [])) ∙ run-join modal (terminals r.front) (p.terminal ∷ []) es now fs r.nestings (n ∷ []) r.is_run (single-run modal now p.terminal n fs e);
  shallow = list_all-append is_shallow r.nestings (n ∷ []) ∙ and_from (list_all is_shallow r.nestings) (is_shallow n && true) r.shallow (and_from (is_shallow n) true h refl);
  expects = o;
}

pub is-open : (es : List Expected) → not (is_open es) ≡ false → is_open es ≡ true
is-open [] h = cc
is-open (e ∷ es) h = refl

pub ran-further : (modal : Bool) (text : List ℕ) (from : ℕ) (es now : List Expected) (to : ℕ) → Ran modal text from es now to → (p : Placed) (end : ℕ) → Follow text to (p ∷ []) end → (fs : List Expected) → Onward ≡ told (step modal now p.terminal) → fs ≡ stack_after (step modal now p.terminal) now → not (is_open fs) ≡ false → Ran modal text from es fs end
ran-further modal text from es now to r p end f fs t a o =
    let u = told-onward (step modal now p.terminal) now t in
    ran-more modal text from es now to r p end f u.nesting fs (u.is_move ∙ ap (λ z. Some (u.nesting, z)) (sym a)) u.shallow (is-open fs o)

pub deep-there : (modal : Bool) (text : List ℕ) (from : ℕ) (es now : List Expected) (to : ℕ) → Ran modal text from es now to → (p : Placed) (end : ℕ) → Follow text to (p ∷ []) end → TooDeep ≡ told (step modal now p.terminal) → RanDeep modal text from es p.at
deep-there modal text from es now to r p end f t =
    let d = told-deep (step modal now p.terminal) t in
    record { now = now; to = to; ran = r; end = end; terminal = p.terminal; there = f; step = d.step; is_step = d.is_move; deep = d.deep }
