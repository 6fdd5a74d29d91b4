-- The stack of what is expected is exact: a token can follow exactly where it has a step, and the tokens are a whole text
-- exactly where all that is still expected may be left out.
use Rattle.std.proofs.Common.{◌≡◌, ℕ, suc, Bool, true, List, [], ◌∷◌, ◌++◌, Option, None, Some, refl, sym, ◌∙◌, ap, append_assoc, append-nil, subst, length, slice_get}
use Rattle.std.proofs.lemmas.Bool.{and_from}
use Rattle.std.proofs.lemmas.Grind.{flat_map-append}
use Rattle.std.proofs.lemmas.List.Folds.{list_all-append}
use Rattle.std.specs.List.{list_all}
use Rattle.std.specs.Prelude.{codes}
use Rattle.plain_laws.proofs.Lists.{joins}
use Rattle.plain_laws.proofs.Options.{none_some}
use Rattle.tptp_lex.proofs.Runs.{some-is}
use Rattle.tptp_reader.specs.Terminals.{Terminal}
use Rattle.tptp_reader.specs.Grammar.{ItemTree, include, item_fits, item_tokens, text_tokens}
use Rattle.tptp_reader.specs.Nesting.{text_nestings}
use Rattle.tptp_reader.specs.Faults.{Language, TextLanguage, FormulaLanguage, ClauseLanguage, FollowsAt, CanGoOn, IsWhole}
use Rattle.tptp_reader.specs.Expecting.{Expected, formula, clause, stop, items, is_optional, all_optional, step, run, run_on, run_after}
use Rattle.tptp_reader.proofs.Deriving.{Derives, ends, skips}
use Rattle.tptp_reader.proofs.FollowLaws.{IsReadBy, text-read, derives-run, get-behind}
use Rattle.tptp_reader.proofs.FaultLaws.{Begins, begins-follows}
use Rattle.tptp_reader.proofs.Forms.{Completes, only}
use Rattle.tptp_reader.proofs.FormulaForms.{two}
use Rattle.tptp_reader.proofs.Derived.{completed, step-back, run-back, optional-completes}

-- what completes the stack is in the language
pub record IsWrittenBy (modal : Bool) (L : Language) (es : List Expected) : Type 0 where
  pub written : (ts : List Terminal) (ns : List ℕ) → Completes modal es ts ns → L ts ns

pub text-written : (modal : Bool) → IsWrittenBy modal (TextLanguage modal) (items ∷ [])
text-written modal = record { written = λ ts ns c. only c }

pub formula-written : (modal : Bool) → IsWrittenBy modal (FormulaLanguage modal) (formula 0 ∷ stop ∷ [])
formula-written modal = record {
  written = λ ts ns c. let t = two c in
      (t.first.0, t.second.0, t.first.1, t.second.1, joins t.tokens t.first.2 t.second.2, joins t.nestings t.first.3 t.second.3);
}

pub clause-written : (modal : Bool) → IsWrittenBy modal ClauseLanguage (clause ∷ stop ∷ [])
clause-written modal = record {
  written = λ ts ns c. let t = two c in
      (t.first.0, t.second.0, t.second.1, joins t.tokens t.first.1 t.second.2, joins t.nestings t.first.2 t.second.3);
}

run-length : (modal : Bool) (front : List Terminal) (es now : List Expected) (before : List ℕ) → run modal es front ≡ Some (before, now) → length before ≡ length front
run-length modal [] es now before h = ap (λ p. length p.0) (sym (some-is h))
run-length modal (x ∷ front) es now before h = by (step modal es x) (λ fs k e. run-length modal front fs now k e) h
  where
    behind : (n : ℕ) (r : Option (List ℕ × List Expected)) → run_on n r ≡ Some (before, now) → (k : List ℕ) × (r ≡ Some (k, now)) × (before ≡ n ∷ k)
    behind n None e = absurd (none_some e)
    behind n (Some q) e = (q.0, ap (λ z. Some (q.0, z)) (ap (λ p. p.1) (some-is e)), sym (ap (λ p. p.0) (some-is e)))

    by : (m : Option (ℕ × List Expected)) → ((fs : List Expected) (k : List ℕ) → run modal fs front ≡ Some (k, now) → length k ≡ length front) → run_after m (λ fs. run modal fs front) ≡ Some (before, now) → length before ≡ suc (length front)
    by None next e = absurd (none_some e)
    by (Some q) next e = let k = behind q.0 (run modal q.1 front) e in ap length k.2 ∙ ap suc (next q.1 k.0 k.1)

-- A token that has a step can follow, and its nesting is that of the step.
pub step-follows : (modal : Bool) (L : Language) (es : List Expected) → IsWrittenBy modal L es → (front : List Terminal) (x : Terminal) (before : List ℕ) (now : List Expected) (r : ℕ × List Expected) → run modal es front ≡ Some (before, now) → step modal now x ≡ Some r → FollowsAt L front x r.0
step-follows modal L es w front x before now r h k =
    let c = completed modal r.1 in
    let d : Completes modal es (front ++ x ∷ c.tokens) (before ++ r.0 ∷ c.nestings) = run-back modal front es now before (x ∷ c.tokens) (r.0 ∷ c.nestings) h (step-back modal now x r c.tokens c.nestings k c.completes) in (
      c.tokens,
      before ++ r.0 ∷ c.nestings,
      w.written (front ++ x ∷ c.tokens) (before ++ r.0 ∷ c.nestings) d,
      ap (λ n. slice_get (before ++ r.0 ∷ c.nestings) n) (sym (run-length modal front es now before h)) ∙ get-behind before r.0 c.nestings,
    )

-- Where all that is expected may be left out the tokens are a text.
pub ends-whole : (modal : Bool) (L : Language) (es : List Expected) → IsWrittenBy modal L es → (front : List Terminal) (before : List ℕ) (now : List Expected) → run modal es front ≡ Some (before, now) → all_optional now ≡ true → L front before
ends-whole modal L es w front before now h o =
    let c : Completes modal es (front ++ []) (before ++ []) = run-back modal front es now before [] [] h (optional-completes modal now o) in
    subst (λ t. L t before) (append-nil front) (subst (λ n. L (front ++ []) n) (append-nil before) (w.written (front ++ []) (before ++ []) c))

derives-nothing : {modal : Bool} {es : List Expected} {ns : List ℕ} → Derives modal es [] ns → all_optional es ≡ true
derives-nothing ends = refl
derives-nothing (skips {e = e} {es = es} o h) = and_from (is_optional e) (all_optional es) o (derives-nothing h)

-- Elsewhere they are none.
pub whole-ends : (modal : Bool) (L : Language) (es : List Expected) → IsReadBy modal L es → (front : List Terminal) (before : List ℕ) (now : List Expected) → run modal es front ≡ Some (before, now) → IsWhole L front → all_optional now ≡ true
whole-ends modal L es m front before now h w =
    let a = derives-run modal front es [] w.0 m.good (subst (λ t. Derives modal es t w.0) (sym (append-nil front)) (m.derived front w.0 w.1)) in
    subst (λ s. all_optional s ≡ true) (ap (λ p. p.1) (some-is (sym a.is_run ∙ h))) (derives-nothing a.derived)

-- Tokens with others behind them can go on.
pub goes-on : (modal : Bool) (L : Language) (es : List Expected) → IsReadBy modal L es → (front : List Terminal) (x : Terminal) (rest : List Terminal) (ns : List ℕ) → L (front ++ x ∷ rest) ns → CanGoOn L front
goes-on modal L es m front x rest ns l =
    (x, begins-follows modal L es m front rest x (record { rest = []; nestings = ns; whole = subst (λ t. L t ns) (sym (append-nil (front ++ x ∷ rest))) l }))

abbrev one_item : List ItemTree
one_item = include (codes "a") ∷ []

-- Tokens that begin a text of items can go on: by one more item at least.
pub text-goes-on : (modal : Bool) (front : List Terminal) → Begins (TextLanguage modal) front → CanGoOn (TextLanguage modal) front
text-goes-on modal front b =
    let w = b.whole in
    let e : (front ++ b.rest) ++ text_tokens one_item ≡ text_tokens (w.0 ++ one_item) = ap (λ z. z ++ text_tokens one_item) w.2 ∙ sym (flat_map-append item_tokens w.0 one_item) in
    let l : TextLanguage modal ((front ++ b.rest) ++ text_tokens one_item) (text_nestings (w.0 ++ one_item)) =
    (w.0 ++ one_item, list_all-append (item_fits modal) w.0 one_item ∙ and_from (list_all (item_fits modal) w.0) (list_all (item_fits modal) one_item) w.1 refl, e, refl) in
    by b.rest (text_nestings (w.0 ++ one_item)) (subst (λ t. TextLanguage modal t (text_nestings (w.0 ++ one_item))) (append_assoc front b.rest (text_tokens one_item)) l)
  where
    by : (rest : List Terminal) (ns : List ℕ) → TextLanguage modal (front ++ (rest ++ text_tokens one_item)) ns → CanGoOn (TextLanguage modal) front
    by [] ns l = goes-on modal (TextLanguage modal) (items ∷ []) (text-read modal) front _ _ ns l
    by (x ∷ rest) ns l = goes-on modal (TextLanguage modal) (items ∷ []) (text-read modal) front x (rest ++ text_tokens one_item) ns l
