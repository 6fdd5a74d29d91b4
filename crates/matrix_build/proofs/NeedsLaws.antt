-- Marks of what the literals of clauses need above them.
use Rattle.std.proofs.Common.{◌≡◌, ◌≢◌, ◌⊎◌, ◌+◌, ◌*◌, ◌^◌, ◌%◌, ◌<◌, ◌≤◌, ℕ, zero, suc, List, [], ◌∷◌, ◌++◌, length, map, None, Some, get_or, slice_get, refl, sym, ◌∙◌, ap, subst, inl, inr, arith, bit_or}
use Rattle.std.specs.Int.{bit_at, w64}
use Rattle.std.proofs.lemmas.Bool.{cases_eq}
use Rattle.std.proofs.lemmas.Option.{slice_get_within}
use Rattle.std.proofs.lemmas.Nat.Bits.{bit_at-zero, bit_at_set_other, bit_at_set_same}
use Rattle.plain_laws.proofs.Options.{same-some}
use Rattle.calculus.specs.Kinds.{other}
use Rattle.calculus.specs.declared.sign.Sign.{Sign}
use Rattle.calculus.specs.declared.sign.Sign.TheVariants.{T, F}
use Rattle.search_theory.specs.Ahead.{bit_of}
use Rattle.search_theory.specs.Matrix.{MatrixClause}
use Rattle.store_theory.specs.Patterns.{PatternAtom}
use Rattle.matrix_build.specs.MatrixView.{the_clause}
use Rattle.matrix_build.specs.declared.clause.Clause.{Clause}
use Rattle.matrix_build.specs.Needs.{AreAllNeeds, AreNeeds, needed}

-- ---- a mark that is added

bit-small : (symbol : ℕ) (sign : Sign) → bit_of symbol sign < 64
bit-small symbol F = omega arith
bit-small symbol T = omega arith

pub marked-own : (marks bit symbol : ℕ) (sign : Sign) → bit ≡ bit_of symbol sign → bit_at (bit_or marks (1 * 2 ^ bit % 2 ^ 64)) (bit_of symbol sign) ≡ 1
marked-own marks bit symbol sign e = subst (λ n. bit_at (bit_or marks (1 * 2 ^ n % 2 ^ 64)) (bit_of symbol sign) ≡ 1) (sym e) (bit_at_set_same w64 marks (bit_of symbol sign) (bit-small symbol sign))

marked-same : (marks bit symbol : ℕ) (sign : Sign) → bit ≡ bit_of symbol sign → (b : ℕ) → b ≢ bit_of symbol sign → bit_at (bit_or marks (1 * 2 ^ bit % 2 ^ 64)) b ≡ bit_at marks b
marked-same marks bit symbol sign e b differs = subst (λ n. bit_at (bit_or marks (1 * 2 ^ n % 2 ^ 64)) b ≡ bit_at marks b) (sym e) (bit_at_set_other w64 marks (bit_of symbol sign) (bit-small symbol sign) b differs)

pub marked-others : (marks bit symbol : ℕ) (sign : Sign) → bit ≡ bit_of symbol sign → (b : ℕ) → bit_at marks b ≡ 1 → bit_at (bit_or marks (1 * 2 ^ bit % 2 ^ 64)) b ≡ 1
marked-others marks bit symbol sign e b h = by (cases_eq b (bit_of symbol sign))
  where
    by : (b ≡ bit_of symbol sign) ⊎ (b ≢ bit_of symbol sign) → bit_at (bit_or marks (1 * 2 ^ bit % 2 ^ 64)) b ≡ 1
    by (inl same) = subst (λ k. bit_at (bit_or marks (1 * 2 ^ bit % 2 ^ 64)) k ≡ 1) (sym same) (marked-own marks bit symbol sign e)
    by (inr differs) = marked-same marks bit symbol sign e b differs ∙ h

pub marked-only : (marks bit symbol : ℕ) (sign : Sign) → bit ≡ bit_of symbol sign → (b : ℕ) → bit_at (bit_or marks (1 * 2 ^ bit % 2 ^ 64)) b ≡ 1 → (bit_at marks b ≡ 1) ⊎ (b ≡ bit_of symbol sign)
marked-only marks bit symbol sign e b h = by (cases_eq b (bit_of symbol sign))
  where
    by : (b ≡ bit_of symbol sign) ⊎ (b ≢ bit_of symbol sign) → (bit_at marks b ≡ 1) ⊎ (b ≡ bit_of symbol sign)
    by (inl same) = inr same
    by (inr differs) = inl (sym (marked-same marks bit symbol sign e b differs) ∙ h)

-- ---- the literals of a clause

-- what the first i literals need
pub record AreNeedsTo (qs : List PatternAtom) (i needs : ℕ) : Type 0 where
  pub each : (k : ℕ) (q : PatternAtom) → k < i → slice_get qs k ≡ Some q → bit_at needs (needed q) ≡ 1
  pub only : (bit : ℕ) → bit_at needs bit ≡ 1 → (k : ℕ) × (q : PatternAtom) × (slice_get qs k ≡ Some q) × (bit ≡ needed q)

pub needs-none : (qs : List PatternAtom) → AreNeedsTo qs 0 0
needs-none qs = record {
  each = λ k q l e. absurd (omega (arith, l));
  only = λ bit h. absurd (let z : 0 ≡ 1 = sym (bit_at-zero bit) ∙ h in cc z);
}

needs-with : (qs : List PatternAtom) (i needs more : ℕ) (q : PatternAtom) → slice_get qs i ≡ Some q → bit_at more (needed q) ≡ 1 → ((bit : ℕ) → bit_at needs bit ≡ 1 → bit_at more bit ≡ 1) → ((bit : ℕ) → bit_at more bit ≡ 1 → (bit_at needs bit ≡ 1) ⊎ (bit ≡ needed q)) → AreNeedsTo qs i needs → AreNeedsTo qs (i + 1) more
needs-with qs i needs more q at own others only h = record {
  each = λ k p l e. there k p l e (cases_eq k i);
  only = λ bit set. from bit (only bit set);
}
  where
    there : (k : ℕ) (p : PatternAtom) → k < i + 1 → slice_get qs k ≡ Some p → (k ≡ i) ⊎ (k ≢ i) → bit_at more (needed p) ≡ 1
    there k p l e (inl same) = subst (λ z. bit_at more (needed z) ≡ 1) (same-some (slice_get qs i) q p at (subst (λ n. slice_get qs n ≡ Some p) same e)) own
    there k p l e (inr differs) = others (needed p) (h.each k p (omega (arith, l, differs)) e)

    from : (bit : ℕ) → (bit_at needs bit ≡ 1) ⊎ (bit ≡ needed q) → (k : ℕ) × (p : PatternAtom) × (slice_get qs k ≡ Some p) × (bit ≡ needed p)
    from bit (inl was) = h.only bit was
    from bit (inr is) = (i, q, at, is)

pub needs-next : (qs : List PatternAtom) (i needs more : ℕ) (q : PatternAtom) (sign : Sign) → sign ≡ other q.sign → slice_get qs i ≡ Some q → bit_at more (bit_of q.symbol sign) ≡ 1 → ((bit : ℕ) → bit_at needs bit ≡ 1 → bit_at more bit ≡ 1) → ((bit : ℕ) → bit_at more bit ≡ 1 → (bit_at needs bit ≡ 1) ⊎ (bit ≡ bit_of q.symbol sign)) → AreNeedsTo qs i needs → AreNeedsTo qs (i + 1) more
needs-next qs i needs more q sign e at own others only h = needs-with qs i needs more q at (subst (λ (z : Sign). bit_at more (bit_of q.symbol z) ≡ 1) e own) others (λ bit set. subst (λ (z : Sign). (bit_at needs bit ≡ 1) ⊎ (bit ≡ bit_of q.symbol z)) e (only bit set)) h

pub needs-all : (qs : List PatternAtom) (i needs : ℕ) → length qs ≤ i → AreNeedsTo qs i needs → AreNeeds qs needs
needs-all qs i needs l h = record {
  each = λ k q e. (let inside = slice_get_within qs k q e in h.each k q (omega (arith, l, inside)) e);
  only = h.only;
}

-- ---- the clauses

pub clause-at : (cs : List Clause) (k : ℕ) (c d : Clause) → k < length cs → c ≡ get_or cs k d → slice_get (map the_clause cs) k ≡ Some (the_clause c)
clause-at [] k c d h e = absurd (omega (arith, h))
clause-at (x ∷ xs) zero c d h e = ap (λ (y : Clause). Some (the_clause y)) (sym e)
clause-at (x ∷ xs) (suc k) c d h e = clause-at xs k c d (omega (arith, h)) e

-- those of the first clauses
pub record AreFirstNeeds (all : List ℕ) (m : List MatrixClause) (i : ℕ) : Type 0 where
  pub count : length all ≡ i
  pub each : (k : ℕ) (c : MatrixClause) (needs : ℕ) → slice_get m k ≡ Some c → slice_get all k ≡ Some needs → AreNeeds c.template.literals needs

pub none-first : (all : List ℕ) (m : List MatrixClause) → all ≡ [] → AreFirstNeeds all m 0
none-first [] m e = record { count = refl; each = λ k c needs there at. absurd (let z : None ≡ Some needs = at in cc z) }
none-first (x ∷ xs) m e = absurd (cc e)

-- what stands in a list with one item more
pushed-at : (xs : List ℕ) (y k x : ℕ) → slice_get (xs ++ y ∷ []) k ≡ Some x → (slice_get xs k ≡ Some x) ⊎ ((k ≡ length xs) × (y ≡ x))
pushed-at [] y zero x e = inr (refl, cc e)
pushed-at [] y (suc k) x e = let z : None ≡ Some x = e in absurd (cc z)
pushed-at (z ∷ xs) y zero x e = inl e
pushed-at (z ∷ xs) y (suc k) x e = elim (pushed-at xs y k x e) [ inl h ↦ inl h | inr h ↦ inr (ap suc h.0, h.1) ]

pub first-pushed : (all : List ℕ) (m : List MatrixClause) (i own : ℕ) (c : MatrixClause) → slice_get m i ≡ Some c → AreNeeds c.template.literals own → AreFirstNeeds all m i → AreFirstNeeds (all ++ own ∷ []) m (i + 1)
first-pushed all m i own c at is h = record {
  count = count all i h.count;
  each = λ k x needs there e. from k x needs there (pushed-at all own k needs e);
}
  where
    count : (xs : List ℕ) (n : ℕ) → length xs ≡ n → length (xs ++ own ∷ []) ≡ n + 1
    count [] n e = omega (arith, e)
    count (x ∷ xs) zero e = absurd (omega (arith, e))
    count (x ∷ xs) (suc n) e = let l = count xs n (omega (arith, e)) in omega (arith, l)

    from : (k : ℕ) (x : MatrixClause) (needs : ℕ) → slice_get m k ≡ Some x → (slice_get all k ≡ Some needs) ⊎ ((k ≡ length all) × (own ≡ needs)) → AreNeeds x.template.literals needs
    from k x needs there (inl e) = h.each k x needs there e
    from k x needs there (inr (last, same)) = subst (AreNeeds x.template.literals) same (subst (λ (z : MatrixClause). AreNeeds z.template.literals own) (same-some (slice_get m i) c x at (subst (λ n. slice_get m n ≡ Some x) (last ∙ h.count) there)) is)

pub first-all : (all : List ℕ) (m : List MatrixClause) (i : ℕ) → i ≡ length m → AreFirstNeeds all m i → AreAllNeeds all m
first-all all m i l h = record { count = h.count ∙ l; each = h.each }
