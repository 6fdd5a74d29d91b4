-- Text between quotes: the code's way takes it whole, and what it takes is one.
use Rattle.std.proofs.Common.{◌≡◌, ◌≢◌, ℕ, List, [], ◌∷◌, ◌++◌, Bool, true, false, ◌||◌, ◌==◌, None, Some, inl, inr, ◌⊎◌, refl, sym, ◌∙◌, ap, subst, if◌then◌else◌}
use Rattle.std.proofs.lemmas.Bool.{eqb-true, eqb-false, eq-eqb, ne_eqb}
use Rattle.plain_laws.proofs.Options.{none_some}
use Rattle.calculus.specs.Problems.{is_name_byte}
use Rattle.calculus.proofs.TextLaws.{cons-head}
use Rattle.tptp_lex.specs.Scanning.{after_name, after_quoted}
use Rattle.tptp_lex.specs.Tokens.{IsQuotable, nothing, a_byte, a_quote, a_backslash}
use Rattle.tptp_lex.proofs.Runs.{both-cons, some-is}

pub quotable-over : (quote : ℕ) (bs rest : List ℕ) → (92 == quote) ≡ false → IsQuotable quote bs → after_quoted quote false (bs ++ quote ∷ rest) ≡ Some rest
quotable-over quote _ rest n nothing = rw (eq-eqb quote quote refl) refl
quotable-over quote _ rest n (a_byte b bs nq nb p q) = rw (ne_eqb b quote nq, ne_eqb b 92 nb, p) (quotable-over quote bs rest n q)
quotable-over quote _ rest n (a_quote bs q) = rw (n, eq-eqb quote quote refl) (quotable-over quote bs rest n q)
quotable-over quote _ rest n (a_backslash bs q) = rw n (quotable-over quote bs rest n q)

-- with a `\` before
abbrev pub slashed : Bool → List ℕ → List ℕ
slashed true bs = 92 ∷ bs
slashed false bs = bs

pub record QuotedSplit (quote : ℕ) (bytes rest : List ℕ) : Type 0 where
  pub body : List ℕ
  pub split : bytes ≡ body ++ quote ∷ rest
  pub quotable : IsQuotable quote body

quoted-pair : (quote b : ℕ) (bs rest : List ℕ) → (b ≡ quote) ⊎ (b ≡ 92) → QuotedSplit quote bs rest → QuotedSplit quote (92 ∷ b ∷ bs) rest
quoted-pair quote b bs rest (inl e) s = record { body = 92 ∷ quote ∷ s.body; split = both-cons refl (both-cons e s.split); quotable = a_quote s.body s.quotable }
quoted-pair quote b bs rest (inr e) s = record { body = 92 ∷ 92 ∷ s.body; split = both-cons refl (both-cons e s.split); quotable = a_backslash s.body s.quotable }

pub quoted-split : (quote : ℕ) (escaped : Bool) (bs rest : List ℕ) → after_quoted quote escaped bs ≡ Some rest → QuotedSplit quote (slashed escaped bs) rest
quoted-split quote true [] rest h = absurd (none_some h)
quoted-split quote false [] rest h = absurd (none_some h)
quoted-split quote true (b ∷ bs) rest h = by (b == quote) (b == 92) refl refl h (quoted-split quote false bs rest)
  where
    by : (q k : Bool) → (b == quote) ≡ q → (b == 92) ≡ k → (if q || k then after_quoted quote false bs else None) ≡ Some rest → (after_quoted quote false bs ≡ Some rest → QuotedSplit quote bs rest) → QuotedSplit quote (92 ∷ b ∷ bs) rest
    by true k e f h on = quoted-pair quote b bs rest (inl (eqb-true b quote e)) (on h)
    by false true e f h on = quoted-pair quote b bs rest (inr (eqb-true b 92 f)) (on h)
    by false false e f h on = absurd (none_some h)
quoted-split quote false (b ∷ bs) rest h = by (b == quote) (b == 92) (is_name_byte b) refl refl refl h (quoted-split quote true bs rest) (quoted-split quote false bs rest)
  where
    by : (q k p : Bool) → (b == quote) ≡ q → (b == 92) ≡ k → is_name_byte b ≡ p → (if q then Some bs else (if k then after_quoted quote true bs else (if p then after_quoted quote false bs else None))) ≡ Some rest
        → (after_quoted quote true bs ≡ Some rest → QuotedSplit quote (92 ∷ bs) rest) → (after_quoted quote false bs ≡ Some rest → QuotedSplit quote bs rest) → QuotedSplit quote (b ∷ bs) rest
    by true k p e f g h pair on = record { body = []; split = both-cons (eqb-true b quote e) (some-is h); quotable = nothing }
    by false true p e f g h pair on = subst (λ c. QuotedSplit quote (c ∷ bs) rest) (sym (eqb-true b 92 f)) (pair h)
    by false false true e f g h pair on =
        let s = on h in
        record { body = b ∷ s.body; split = both-cons refl s.split; quotable = a_byte b s.body (eqb-false b quote e) (eqb-false b 92 f) g s.quotable }
    by false false false e f g h pair on = absurd (none_some h)

pub name-over : (bs rest : List ℕ) → bs ≢ [] → IsQuotable 39 bs → after_name (bs ++ 39 ∷ rest) ≡ Some rest
name-over _ rest n nothing = absurd (n refl)
name-over _ rest n (a_byte b bs nq nb p q) =
    ap (λ t. if t then None else after_quoted 39 false (b ∷ (bs ++ 39 ∷ rest))) (ne_eqb b 39 nq) ∙ quotable-over 39 (b ∷ bs) rest refl (a_byte b bs nq nb p q)
name-over _ rest n (a_quote bs q) = quotable-over 39 (92 ∷ 39 ∷ bs) rest refl (a_quote bs q)
name-over _ rest n (a_backslash bs q) = quotable-over 39 (92 ∷ 92 ∷ bs) rest refl (a_backslash bs q)

-- a closing quote behind a first byte that is none
pub not-empty : (quote b : ℕ) (bs body rest : List ℕ) → (b == quote) ≡ false → b ∷ bs ≡ body ++ quote ∷ rest → body ≢ []
not-empty quote b bs body rest n e h = eqb-false b quote n (cons-head (e ∙ ap (λ y. y ++ quote ∷ rest) h))
