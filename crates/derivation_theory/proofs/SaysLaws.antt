-- What a formula says with names: when a term is put for a variable, and when names that do not stand in it change their meaning.
use Rattle.std.proofs.Common.{◌≡◌, ℕ, zero, suc, ◌-◌, ◌<◌, List, [], ◌∷◌, ◌++◌, length, Bool, false, refl, sym, ◌∙◌, ap, subst, slice_index_or, append_assoc, arith}
use Rattle.std.proofs.lemmas.Bool.{or_parts}
use Rattle.std.specs.Ordering.{nat_cmp, MatchOrdering}
use Rattle.std.specs.Cmp.{nat_cmp_is, ranks}
use Rattle.std.specs.declared.cmp.Ordering.{Ordering}
use Rattle.std.specs.declared.cmp.Ordering.TheVariants.{Less, Equal, Greater}
use Rattle.plain_laws.proofs.Lists.{length-last}
use Rattle.calculus.specs.Syntax.{Term, Terms, var, fun, eigen, spare, no_terms, more_terms, Formula}
use Rattle.calculus.specs.Ground.{GroundTerm, g_fun, common, more_g_terms}
use Rattle.calculus.specs.Substitution.{put_for, term_with, terms_with, formula_with, any_leaf, any_leaf_of, any_leaf_in}
use Rattle.calculus.specs.Instances.{grounds_of}
use Rattle.derivation_theory.proofs.Meanings.{Meaning, term_means, terms_mean, Says, says_atom, says_neg, says_conj, says_disj, says_imp, says_all, says_ex, says_box, says_dia}

-- ---- a term for a variable

less-one : (k : ℕ) → suc k - 1 ≡ k
less-one k = omega arith

cmp-down : (k n : ℕ) (o : Ordering) → nat_cmp (suc k) (suc n) ≡ o → nat_cmp k n ≡ o
cmp-down k n o e = sym (nat_cmp_is k n o (down o (subst (λ (z : Ordering). MatchOrdering z (suc k < suc n) (suc k ≡ suc n) (suc n < suc k)) e (ranks (suc k) (suc n)))))
  where
    down : (z : Ordering) → MatchOrdering z (suc k < suc n) (suc k ≡ suc n) (suc n < suc k) → MatchOrdering z (k < n) (k ≡ n) (n < k)
    down Less h = omega (arith, h)
    down Equal h = omega (arith, h)
    down Greater h = omega (arith, h)

-- the variable k among d others, the term's own place being behind them
var_says : (xs : List GroundTerm) (g : GroundTerm) (k : ℕ) (o : Ordering) → nat_cmp k (length xs) ≡ o → (r : Meaning) (t : Term) → term_means r xs t ≡ g → term_means r xs (put_for t k o) ≡ slice_index_or (xs ++ g ∷ []) k (common 0)
var_says [] g zero Equal e r t h = h
var_says [] g zero Less e r t h = cc
var_says [] g zero Greater e r t h = cc
var_says [] g (suc k) Greater e r t h = refl
var_says [] g (suc k) Less e r t h = let m = nat_cmp_is (suc k) 0 Greater (omega arith) in cc
var_says [] g (suc k) Equal e r t h = let m = nat_cmp_is (suc k) 0 Greater (omega arith) in cc
var_says (x ∷ xs) g zero Less e r t h = refl
var_says (x ∷ xs) g zero Equal e r t h = let m = nat_cmp_is 0 (suc (length xs)) Less (omega arith) in cc
var_says (x ∷ xs) g zero Greater e r t h = let m = nat_cmp_is 0 (suc (length xs)) Less (omega arith) in cc
var_says (x ∷ xs) g (suc k) Less e r t h = var_later xs g k Less (cmp-down k (length xs) Less e)
  where
    var_later : (ys : List GroundTerm) (g : GroundTerm) (k : ℕ) (o : Ordering) → nat_cmp k (length ys) ≡ Less → slice_index_or ys k (common 0) ≡ slice_index_or (ys ++ g ∷ []) k (common 0)
    var_later [] g zero o e = cc
    var_later [] g (suc k) o e = let m = nat_cmp_is (suc k) 0 Greater (omega arith) in cc
    var_later (y ∷ ys) g zero o e = refl
    var_later (y ∷ ys) g (suc k) o e = var_later ys g k o (cmp-down k (length ys) Less e)
var_says (x ∷ xs) g (suc k) Equal e r t h = h ∙ last xs k (cmp-down k (length xs) Equal e)
  where
    last : (ys : List GroundTerm) (k : ℕ) → nat_cmp k (length ys) ≡ Equal → g ≡ slice_index_or (ys ++ g ∷ []) k (common 0)
    last [] zero e = refl
    last [] (suc k) e = let m = nat_cmp_is (suc k) 0 Greater (omega arith) in cc
    last (y ∷ ys) zero e = let m = nat_cmp_is 0 (suc (length ys)) Less (omega arith) in cc
    last (y ∷ ys) (suc k) e = last ys k (cmp-down k (length ys) Equal e)
var_says (x ∷ xs) g (suc k) Greater e r t h = ap (λ j. slice_index_or (x ∷ xs) j (common 0)) (less-one k) ∙ beyond (x ∷ xs) k e ∙ sym (past xs k (cmp-down k (length xs) Greater e))
  where
    beyond : (ys : List GroundTerm) (k : ℕ) → nat_cmp (suc k) (length ys) ≡ Greater → slice_index_or ys k (common 0) ≡ common 0
    beyond [] k e = refl
    beyond (y ∷ ys) zero e = at_first ys e
      where
        at_first : (zs : List GroundTerm) → nat_cmp 1 (suc (length zs)) ≡ Greater → slice_index_or (y ∷ zs) 0 (common 0) ≡ common 0
        at_first [] e = let m = nat_cmp_is 1 1 Equal (omega arith) in cc
        at_first (z ∷ zs) e = let m = nat_cmp_is 1 (suc (suc (length zs))) Less (omega arith) in cc
    beyond (y ∷ ys) (suc k) e = beyond ys k (cmp-down (suc k) (length ys) Greater e)

    past : (ys : List GroundTerm) (k : ℕ) → nat_cmp k (length ys) ≡ Greater → slice_index_or (ys ++ g ∷ []) k (common 0) ≡ common 0
    past [] zero e = cc
    past [] (suc k) e = refl
    past (y ∷ ys) zero e = let m = nat_cmp_is 0 (suc (length ys)) Less (omega arith) in cc
    past (y ∷ ys) (suc k) e = past ys k (cmp-down k (length ys) Greater e)

mutual
  term_put : (r : Meaning) (t : Term) (xs : List GroundTerm) (g : GroundTerm) → term_means r xs t ≡ g → (u : Term) → term_means r xs (term_with t (length xs) u) ≡ term_means r (xs ++ g ∷ []) u
  term_put r t xs g h (var k) = var_says xs g k (nat_cmp k (length xs)) refl r t h
  term_put r t xs g h (fun f us) = ap (λ z. g_fun f z) (terms_put r t xs g h us)
  term_put r t xs g h (eigen n) = refl
  term_put r t xs g h (spare n) = refl

  terms_put : (r : Meaning) (t : Term) (xs : List GroundTerm) (g : GroundTerm) → term_means r xs t ≡ g → (us : Terms) → terms_mean r xs (terms_with t (length xs) us) ≡ terms_mean r (xs ++ g ∷ []) us
  terms_put r t xs g h no_terms = refl
  terms_put r t xs g h (more_terms u us) = λ i. more_g_terms (term_put r t xs g h u i) (terms_put r t xs g h us i)

-- a term without variables for the variable bound just outside
pub says-instance : (r : Meaning) (t : Term) (g : GroundTerm) → ((xs : List GroundTerm) → term_means r xs t ≡ g) → {d : ℕ} {env : List GroundTerm} {a b : Formula} → Says r (suc d) env a b → Says r d (g ∷ env) a (formula_with t d b)
says-instance r t g h {d} {env} (says_atom {ts = ts} {us = us} k) = says_atom (λ xs e.
    ap (λ z. grounds_of z ts) (sym (append_assoc xs (g ∷ []) env))
    ∙ k (xs ++ g ∷ []) (length-last xs g ∙ ap (λ n. suc n) e)
    ∙ sym (terms_put r t xs g (h xs) us)
    ∙ ap (λ n. terms_mean r xs (terms_with t n us)) e)
says-instance r t g h (says_neg k) = says_neg (says-instance r t g h k)
says-instance r t g h (says_conj k m) = says_conj (says-instance r t g h k) (says-instance r t g h m)
says-instance r t g h (says_disj k m) = says_disj (says-instance r t g h k) (says-instance r t g h m)
says-instance r t g h (says_imp k m) = says_imp (says-instance r t g h k) (says-instance r t g h m)
says-instance r t g h (says_all k) = says_all (says-instance r t g h k)
says-instance r t g h (says_ex k) = says_ex (says-instance r t g h k)
says-instance r t g h (says_box k) = says_box (says-instance r t g h k)
says-instance r t g h (says_dia k) = says_dia (says-instance r t g h k)

-- ---- names that change their meaning

-- a name that fails the test means the same
pub record Keeps (test : Term → Bool) (r q : Meaning) : Type 0 where
  pub eigens : (n : ℕ) → test (eigen n) ≡ false → r.eigens n ≡ q.eigens n
  pub spares : (n : ℕ) → test (spare n) ≡ false → r.spares n ≡ q.spares n

mutual
  term_stays : (test : Term → Bool) (r q : Meaning) → Keeps test r q → (env : List GroundTerm) (t : Term) → any_leaf test t ≡ false → term_means r env t ≡ term_means q env t
  term_stays test r q k env (var n) h = refl
  term_stays test r q k env (fun f ts) h = ap (λ z. g_fun f z) (terms_stay test r q k env ts h)
  term_stays test r q k env (eigen n) h = k.eigens n h
  term_stays test r q k env (spare n) h = k.spares n h

  terms_stay : (test : Term → Bool) (r q : Meaning) → Keeps test r q → (env : List GroundTerm) (ts : Terms) → any_leaf_of test ts ≡ false → terms_mean r env ts ≡ terms_mean q env ts
  terms_stay test r q k env no_terms h = refl
  terms_stay test r q k env (more_terms t ts) h = let e = or_parts (any_leaf test t) (any_leaf_of test ts) h in λ i. more_g_terms (term_stays test r q k env t e.0 i) (terms_stay test r q k env ts e.1 i)

pub says-stays : (test : Term → Bool) (r q : Meaning) → Keeps test r q → {d : ℕ} {env : List GroundTerm} {a b : Formula} → Says r d env a b → any_leaf_in test b ≡ false → Says q d env a b
says-stays test r q k (says_atom {us = us} s) h = says_atom (λ xs e. s xs e ∙ terms_stay test r q k xs us h)
says-stays test r q k (says_neg s) h = says_neg (says-stays test r q k s h)
says-stays test r q k (says_conj {b = b} {b2 = b2} s m) h = let e = or_parts (any_leaf_in test b) (any_leaf_in test b2) h in says_conj (says-stays test r q k s e.0) (says-stays test r q k m e.1)
says-stays test r q k (says_disj {b = b} {b2 = b2} s m) h = let e = or_parts (any_leaf_in test b) (any_leaf_in test b2) h in says_disj (says-stays test r q k s e.0) (says-stays test r q k m e.1)
says-stays test r q k (says_imp {b = b} {b2 = b2} s m) h = let e = or_parts (any_leaf_in test b) (any_leaf_in test b2) h in says_imp (says-stays test r q k s e.0) (says-stays test r q k m e.1)
says-stays test r q k (says_all s) h = says_all (says-stays test r q k s h)
says-stays test r q k (says_ex s) h = says_ex (says-stays test r q k s h)
says-stays test r q k (says_box s) h = says_box (says-stays test r q k s h)
says-stays test r q k (says_dia s) h = says_dia (says-stays test r q k s h)
