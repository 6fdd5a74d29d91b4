-- What may follow tokens in a language is found by the stack of what is expected: a token that has no step there cannot
-- follow, and its nesting depends on the tokens before it alone.
use Rattle.std.proofs.Common.{◌≡◌, ℕ, suc, Bool, true, false, List, [], ◌∷◌, ◌++◌, None, Some, refl, sym, ◌∙◌, ap, subst, length, slice_get}
use Rattle.plain_laws.proofs.Options.{none_some}
use Rattle.tptp_lex.proofs.Runs.{some-is}
use Rattle.tptp_reader.specs.Terminals.{Terminal, comma, close_round}
use Rattle.tptp_reader.specs.Faults.{Language, TextLanguage, FormulaLanguage, ClauseLanguage, FollowsAt, CanFollow, is_stop}
use Rattle.tptp_reader.specs.Expecting.{Expected, formula, clause, stop, items, step, run, run_on, run_after}
use Rattle.tptp_reader.proofs.Deriving.{Derives, ends, takes, IsGood, avoids-part, avoids-none, avoids-nothing, stop-apart, good-step, derives-step}
use Rattle.tptp_reader.proofs.TreesDerive.{formula-derives, clause-derives, text-derives}

-- the stack derives all that is in the language
pub record IsReadBy (modal : Bool) (L : Language) (es : List Expected) : Type 0 where
  pub good : IsGood modal es
  pub derived : (ts : List Terminal) (ns : List ℕ) → L ts ns → Derives modal es ts ns

both : {modal : Bool} {es : List Expected} {ts us : List Terminal} {ns ms : List ℕ} → ts ≡ us → ns ≡ ms → Derives modal es us ms → Derives modal es ts ns
both {modal} {es} {ts} {us} {ns} {ms} e k h = subst (λ t. Derives modal es t ns) (sym e) (subst (λ n. Derives modal es us n) (sym k) h)

stops-here : (modal : Bool) (x : Terminal) → is_stop x ≡ true → Derives modal (stop ∷ []) (x ∷ []) (0 ∷ [])
stops-here modal comma h = takes refl ends
stops-here modal close_round h = takes refl ends
stops-here modal _ h = absurd (no h)
  where
    no : false ≡ true → ⊥
    no e = cc

pub text-read : (modal : Bool) → IsReadBy modal (TextLanguage modal) (items ∷ [])
text-read modal = record {
  good = (avoids-nothing modal 21, tt);
  derived = λ ts ns h. both h.2 h.3 (text-derives h.0 modal h.1);
}

pub formula-read : (modal : Bool) → IsReadBy modal (FormulaLanguage modal) (formula 0 ∷ stop ∷ [])
formula-read modal = record {
  good = (avoids-part modal 11 stop [] refl stop-apart, (avoids-none modal [], tt));
  derived = λ ts ns h. both h.4 h.5 (formula-derives h.0 modal h.2 0 (stop ∷ []) (h.1 ∷ []) (0 ∷ []) (stops-here modal h.1 h.3));
}

pub clause-read : (modal : Bool) → IsReadBy modal ClauseLanguage (clause ∷ stop ∷ [])
clause-read modal = record {
  good = (avoids-part modal 11 stop [] refl stop-apart, (avoids-none modal [], tt));
  derived = λ ts ns h. both h.3 h.4 (clause-derives h.0 modal (stop ∷ []) (h.1 ∷ []) (0 ∷ []) (stops-here modal h.1 h.2));
}

-- a run over tokens that are derived, and what is derived behind it
pub record Ran (modal : Bool) (es : List Expected) (front ts : List Terminal) (ns : List ℕ) : Type 0 where
  pub before : List ℕ
  pub now : List Expected
  pub others : List ℕ
  pub is_run : run modal es front ≡ Some (before, now)
  pub as_long : length before ≡ length front
  pub nestings : ns ≡ before ++ others
  pub good : IsGood modal now
  pub derived : Derives modal now ts others

pub derives-run : (modal : Bool) (front : List Terminal) (es : List Expected) (ts : List Terminal) (ns : List ℕ) → IsGood modal es → Derives modal es (front ++ ts) ns → Ran modal es front ts ns
derives-run modal [] es ts ns g h = record { before = []; now = es; others = ns; is_run = refl; as_long = refl; nestings = refl; good = g; derived = h }
derives-run modal (x ∷ front) es ts ns g h =
    let s = derives-step modal es x (front ++ ts) ns g h in
    let r = derives-run modal front s.now.1 ts s.others (good-step modal es x s.now g s.is_step) s.derived in
    record {
      before = s.now.0 ∷ r.before;
      now = r.now;
      others = r.others;
      is_run = ap (λ m. run_after m (λ fs. run modal fs front)) s.is_step ∙ ap (run_on s.now.0) r.is_run;
      as_long = ap suc r.as_long;
      nestings = s.nestings ∙ ap (λ n. s.now.0 ∷ n) r.nestings;
      good = r.good;
      derived = r.derived;
    }

pub get-behind : (before : List ℕ) (n : ℕ) (others : List ℕ) → slice_get (before ++ n ∷ others) (length before) ≡ Some n
get-behind [] n others = refl
get-behind (m ∷ before) n others = get-behind before n others

-- what is expected behind the tokens, and the step of the one that follows
pub record Followed (modal : Bool) (es : List Expected) (front : List Terminal) (x : Terminal) (n : ℕ) : Type 0 where
  pub before : List ℕ
  pub now : List Expected
  pub rest : List Expected
  pub is_run : run modal es front ≡ Some (before, now)
  pub is_step : step modal now x ≡ Some (n, rest)

pub follows-run : (modal : Bool) (L : Language) (es : List Expected) → IsReadBy modal L es → (front : List Terminal) (x : Terminal) (n : ℕ) → FollowsAt L front x n → Followed modal es front x n
follows-run modal L es m front x n h =
    let r = derives-run modal front es (x ∷ h.0) h.1 m.good (m.derived (front ++ x ∷ h.0) h.1 h.2) in
    let s = derives-step modal r.now x h.0 r.others r.good r.derived in
    let e : h.1 ≡ r.before ++ s.now.0 ∷ s.others = r.nestings ∙ ap (λ o. r.before ++ o) s.nestings in
    let k : slice_get h.1 (length front) ≡ Some s.now.0 = ap (λ l. slice_get h.1 l) (sym r.as_long) ∙ ap (λ l. slice_get l (length r.before)) e ∙ get-behind r.before s.now.0 s.others in
    let q : s.now.0 ≡ n = some-is (sym k ∙ h.3) in
    record { before = r.before; now = r.now; rest = s.now.1; is_run = r.is_run; is_step = s.is_step ∙ ap (λ v. Some (v, s.now.1)) q }

-- the nesting of a token depends on the tokens before it alone
pub nesting-alone : (modal : Bool) (L : Language) (es : List Expected) → IsReadBy modal L es → (front : List Terminal) (x : Terminal) (n m : ℕ) → FollowsAt L front x n → FollowsAt L front x m → n ≡ m
nesting-alone modal L es r front x n m h k =
    let a = follows-run modal L es r front x n h in
    let b = follows-run modal L es r front x m k in
    let e : a.now ≡ b.now = ap (λ p. p.1) (some-is (sym a.is_run ∙ b.is_run)) in
    ap (λ p. p.0) (some-is (sym a.is_step ∙ ap (λ s. step modal s x) e ∙ b.is_step))

-- a token that has no step cannot follow
pub no-step : (modal : Bool) (L : Language) (es : List Expected) → IsReadBy modal L es → (front : List Terminal) (x : Terminal) (before : List ℕ) (now : List Expected) → run modal es front ≡ Some (before, now) → step modal now x ≡ None → CanFollow L front x → ⊥
no-step modal L es r front x before now e n h =
    let a = follows-run modal L es r front x h.0 h.1 in
    let q : now ≡ a.now = ap (λ p. p.1) (some-is (sym e ∙ a.is_run)) in
    none_some (sym n ∙ ap (λ s. step modal s x) q ∙ a.is_step)
