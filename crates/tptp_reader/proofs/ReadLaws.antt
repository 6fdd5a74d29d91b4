-- Nestings that are not too great, and what they say of the tokens of trees.
use Rattle.std.proofs.Common.{◌≡◌, ◌||◌, ◌<◌, ◌≤◌, ℕ, Bool, true, false, not, List, [], ◌∷◌, ◌++◌, refl, sym, append-nil, subst, arith}
use Rattle.std.specs.Prelude.{nat_lt}
use Rattle.std.specs.List.{list_all}
use Rattle.std.proofs.lemmas.Bool.{and_parts, ltb-true}
use Rattle.tptp_reader.specs.Terminals.{Terminal}
use Rattle.tptp_reader.specs.Grammar.{FormulaTree, is_plain, formula_tokens, ItemTree, item_fits, text_tokens}
use Rattle.tptp_reader.specs.Nesting.{all_at, formula_nestings, text_nestings}
use Rattle.tptp_reader.specs.Faults.{TextLanguage, FormulaLanguage, AreShallow, is_stop}
use Rattle.tptp_reader.specs.Following.{is_shallow}
use Rattle.tptp_reader.specs.Expecting.{formula, stop, items}
use Rattle.tptp_reader.specs.Spans.{AreRead}
use Rattle.tptp_reader.proofs.Deriving.{Derives}
use Rattle.tptp_reader.proofs.TreesDerive.{text-derives}
use Rattle.tptp_reader.proofs.FollowLaws.{text-read, formula-read, derives-run}
use Rattle.tptp_reader.proofs.EndingLaws.{run-shallow}
use Rattle.tptp_reader.proofs.SpanLaws.{read-more, read-join}

pub read-front : (ms ns : List ℕ) → AreRead (ms ++ ns) → AreRead ms
read-front [] ns h = refl
read-front (m ∷ ms) ns h =
    let q = and_parts (is_shallow m) (list_all is_shallow (ms ++ ns)) h in
    read-more m ms q.0 (read-front ms ns q.1)

-- tokens outside of formulas
pub none-deep : (ts : List Terminal) → AreRead (all_at 0 ts)
none-deep [] = refl
none-deep (t ∷ ts) = none-deep ts

-- the places in clauses
pub little : (n : ℕ) → n ≤ 3 → is_shallow n ≡ true
little n h = by (nat_lt 500 n) refl
  where
    by : (b : Bool) → nat_lt 500 n ≡ b → not b ≡ true
    by false e = refl
    by true e = let l : 500 < n = ltb-true 500 n e in absurd (omega (arith, h, l))

-- ---- the tokens of trees

pub text-shallow : (modal : Bool) (trees : List ItemTree) → list_all (item_fits modal) trees ≡ true → AreRead (text_nestings trees) → AreShallow (TextLanguage modal) (text_tokens trees)
text-shallow modal trees fit s =
    let d : Derives modal (items ∷ []) (text_tokens trees ++ []) (text_nestings trees) = subst (λ z. Derives modal (items ∷ []) z (text_nestings trees)) (sym (append-nil (text_tokens trees))) (text-derives trees modal fit) in
    let r = derives-run modal (text_tokens trees) (items ∷ []) [] (text_nestings trees) (text-read modal).good d in
    run-shallow modal (TextLanguage modal) (items ∷ []) (text-read modal) (text_tokens trees) r.before r.now r.is_run
    (read-front r.before r.others (subst (λ z. AreRead z) r.nestings s))

pub formula-shallow : (modal : Bool) (f : FormulaTree) (x : Terminal) → (modal || is_plain f) ≡ true → is_stop x ≡ true → AreRead (formula_nestings 0 f) → AreShallow (FormulaLanguage modal) (formula_tokens f)
formula-shallow modal f x fit e s =
    let d = (formula-read modal).derived (formula_tokens f ++ x ∷ []) (formula_nestings 0 f ++ 0 ∷ []) (f, x, fit, e, refl, refl) in
    let r = derives-run modal (formula_tokens f) (formula 0 ∷ stop ∷ []) (x ∷ []) (formula_nestings 0 f ++ 0 ∷ []) (formula-read modal).good d in
    run-shallow modal (FormulaLanguage modal) (formula 0 ∷ stop ∷ []) (formula-read modal) (formula_tokens f) r.before r.now r.is_run
    (read-front r.before r.others (subst (λ z. AreRead z) r.nestings (read-join (formula_nestings 0 f) (0 ∷ []) s refl)))
