-- A term that a gamma step may take means a ground term that is admitted, and allowed at what the label means.
use Rattle.std.proofs.Common.{◌≡◌, ℕ, zero, suc, List, [], ◌∷◌, ◌++◌, length, true, false, not, ◌&&◌, Option, Some, None, IsTrue, refl, sym, ◌∙◌, ap, subst, arith}
use Rattle.std.specs.List.{list_any}
use Rattle.std.proofs.lemmas.Bool.{and_parts, and_from, or_parts, or_left, or_right, not-false, false≢true, true≢false}
use Rattle.calculus.specs.declared.setting.Domains.{Domains}
use Rattle.calculus.specs.declared.setting.Domains.TheVariants.{Constant, Cumulative, Varying}
use Rattle.calculus.specs.declared.setting.Logic.{Logic}
use Rattle.calculus.specs.declared.setting.Logic.TheVariants.{Classical, Intuitionistic, D, T as LogicT, S4, S5}
use Rattle.calculus.specs.Syntax.{Symbol, Term, Terms, var, fun, eigen, spare, no_terms, more_terms, arity_of, Problem}
use Rattle.calculus.specs.Ground.{GroundTerm, GroundMark, g_fun, more_g_terms, g_terms_list}
use Rattle.calculus.specs.Equality.{mark_eq, list_eq}
use Rattle.calculus.specs.Labels.{is_prefix, steps_to, home_allows}
use Rattle.calculus.specs.Substitution.{any_leaf, any_leaf_of}
use Rattle.calculus.specs.Skolem.{is_admitted, are_admitted, is_allowed, are_allowed, has_constant, has_function, is_constant_symbol, is_varying}
use Rattle.calculus.specs.Derivations.{Mark, Label, character_eq, Home, anywhere, home_at, EigenName, SpareName, Names}
use Rattle.calculus.specs.DerivationText.{term_is_written, terms_are_written}
use Rattle.calculus.specs.Calculus.{eigen_named, spare_named, is_forbidden, spare_allowed}
use Rattle.calculus.proofs.EqualityLaws.{list_eq-tells, character_eq-tells, label_eq-tells, mark_eq-tells}
use Rattle.derivation_theory.proofs.Meanings.{Meaning, label_means, is_intuitionistic, term_means, terms_mean, HasSpareHome, IsProper}

-- ---- labels

prefix-more : (x w v : List GroundMark) → IsTrue (is_prefix mark_eq w v) → IsTrue (is_prefix mark_eq (x ++ w) (x ++ v))
prefix-more [] w v h = h
prefix-more (c ∷ x) w v h = and_from (mark_eq c c) (is_prefix mark_eq (x ++ w) (x ++ v)) ((mark_eq-tells c c).1 refl) (prefix-more x w v h)

pub same-means : (f : Mark → List GroundMark) (w v : Label) → IsTrue (list_eq character_eq w v) → IsTrue (list_eq mark_eq (label_means f w) (label_means f v))
same-means f w v h = (label_eq-tells (label_means f w) (label_means f v)).1 (ap (label_means f) ((list_eq-tells character_eq character_eq-tells w v).0 h))

pub prefix-means : (f : Mark → List GroundMark) (w v : Label) → IsTrue (is_prefix character_eq w v) → IsTrue (is_prefix mark_eq (label_means f w) (label_means f v))
prefix-means f [] v h = refl
prefix-means f (c ∷ w) [] h = absurd (false≢true h)
prefix-means f (c ∷ w) (d ∷ v) h = let e = and_parts (character_eq c d) (is_prefix character_eq w v) h in subst (λ z. IsTrue (is_prefix mark_eq (f c ++ label_means f w) (f z ++ label_means f v))) ((character_eq-tells c d).0 e.0) (prefix-more (f c) (label_means f w) (label_means f v) (prefix-means f w v e.1))

pub length-means : (f : Mark → List GroundMark) → ((m : Mark) → length (f m) ≡ 1) → (w : Label) → length (label_means f w) ≡ length w
length-means f one [] = refl
length-means f one (c ∷ w) = by (length-means f one w) (f c) (one c)
  where
    by : length (label_means f w) ≡ length w → (x : List GroundMark) → length x ≡ 1 → length (x ++ label_means f w) ≡ suc (length w)
    by h [] e = absurd (omega (arith, e))
    by h (k ∷ []) e = ap (λ n. suc n) h
    by h (k ∷ m ∷ x) e = absurd (omega (arith, e))

pub steps-mean : (l : Logic) (f : Mark → List GroundMark) → (is_intuitionistic l ≡ false → (m : Mark) → length (f m) ≡ 1) → (w v : Label) → IsTrue (steps_to character_eq l w v) → IsTrue (steps_to mark_eq l (label_means f w) (label_means f v))
steps-mean Classical f one w v h = same-means f w v h
steps-mean Intuitionistic f one w v h = prefix-means f w v h
steps-mean D f one w v h = let e = and_parts _ _ h in and_from _ _ (prefix-means f w v e.0) (rw (length-means f (one refl) w, length-means f (one refl) v) e.1)
steps-mean LogicT f one w v h = let e = and_parts _ _ h in and_from _ _ (prefix-means f w v e.0) (rw (length-means f (one refl) w, length-means f (one refl) v) e.1)
steps-mean S4 f one w v h = prefix-means f w v h
steps-mean S5 f one w v h = rw (length-means f (one refl) v) h

pub allows-means : (d : Domains) (f : Mark → List GroundMark) (w v : Label) → IsTrue (home_allows character_eq d w v) → IsTrue (home_allows mark_eq d (label_means f w) (label_means f v))
allows-means Constant f w v h = refl
allows-means Cumulative f w v h = prefix-means f w v h
allows-means Varying f w v h = same-means f w v h

-- ---- constants

constant_among : (symbols : List Symbol) (k : ℕ) → IsTrue (has_function symbols k 0) → IsTrue (list_any is_constant_symbol symbols)
constant_among [] k h = absurd (false≢true h)
constant_among (s ∷ ss) zero h = or_left (is_constant_symbol s) (list_any is_constant_symbol ss) h
constant_among (s ∷ ss) (suc k) h = or_right (is_constant_symbol s) (list_any is_constant_symbol ss) (constant_among ss k h)

-- ---- terms

length-terms : (r : Meaning) (env : List GroundTerm) (ts : Terms) → length (g_terms_list (terms_mean r env ts)) ≡ arity_of ts
length-terms r env no_terms = refl
length-terms r env (more_terms t ts) = ap (λ n. suc n) (length-terms r env ts)

mutual
  pub term-closed : (P : Problem) (names : Names) (v : Label) (r : Meaning) (env : List GroundTerm) (t : Term) → any_leaf (is_forbidden P names v) t ≡ false → term_means r env t ≡ term_means r [] t
  term-closed P names v r env (var k) h = absurd (true≢false h)
  term-closed P names v r env (fun f ts) h = ap (λ z. g_fun f z) (terms-closed P names v r env ts h)
  term-closed P names v r env (eigen n) h = refl
  term-closed P names v r env (spare n) h = refl

  pub terms-closed : (P : Problem) (names : Names) (v : Label) (r : Meaning) (env : List GroundTerm) (ts : Terms) → any_leaf_of (is_forbidden P names v) ts ≡ false → terms_mean r env ts ≡ terms_mean r [] ts
  terms-closed P names v r env no_terms h = refl
  terms-closed P names v r env (more_terms t ts) h = let e = or_parts (any_leaf (is_forbidden P names v) t) (any_leaf_of (is_forbidden P names v) ts) h in λ i. more_g_terms (term-closed P names v r env t e.0 i) (terms-closed P names v r env ts e.1 i)

eigen_good : (P : Problem) (names : Names) (r : Meaning) → IsProper P names r → (v : Label) (n : ℕ) (o : Option EigenName) → eigen_named names n ≡ o → is_forbidden P names v (eigen n) ≡ false → IsTrue (is_admitted P (r.eigens n)) × IsTrue (is_allowed P (label_means r.marks v) (r.eigens n))
eigen_good P names r ok v n None e h = let no : true ≡ false = rw e at h in absurd (false≢true (sym no))
eigen_good P names r ok v n (Some x) e h =
    let may : not (home_allows character_eq P.setting.domains x.home v) ≡ false = rw e at h in
    let home = ok.eigens n x e in
    (home.admitted, home.allowed (label_means r.marks v) (allows-means P.setting.domains r.marks x.home v (not-false _ may)))

spare_home_good : (P : Problem) (r : Meaning) (v : Label) (h : Home) (t : GroundTerm) → HasSpareHome P r h t → spare_allowed P h v ≡ true → IsTrue (is_admitted P t) × IsTrue (is_allowed P (label_means r.marks v) t)
spare_home_good P r v anywhere t home may = (home.0, home.1 (label_means r.marks v) may)
spare_home_good P r v (home_at h) t home may = (home.admitted, home.allowed (label_means r.marks v) (allows-means P.setting.domains r.marks h v may))

spare_good : (P : Problem) (names : Names) (r : Meaning) → IsProper P names r → (v : Label) (n : ℕ) (o : Option SpareName) → spare_named names n ≡ o → is_forbidden P names v (spare n) ≡ false → IsTrue (is_admitted P (r.spares n)) × IsTrue (is_allowed P (label_means r.marks v) (r.spares n))
spare_good P names r ok v n None e h = let no : true ≡ false = rw e at h in absurd (false≢true (sym no))
spare_good P names r ok v n (Some x) e h =
    let may : not (spare_allowed P x.home v) ≡ false = rw e at h in
    spare_home_good P r v x.home (r.spares n) (ok.spares n x e) (not-false _ may)

mutual
  pub term-good : (P : Problem) (names : Names) (r : Meaning) → IsProper P names r → (v : Label) (t : Term) → any_leaf (is_forbidden P names v) t ≡ false → IsTrue (term_is_written P.symbols t) → IsTrue (is_admitted P (term_means r [] t)) × IsTrue (is_allowed P (label_means r.marks v) (term_means r [] t))
  term-good P names r ok v (var k) h w = absurd (true≢false h)
  term-good P names r ok v (fun f no_terms) h w =
      let e = and_parts (has_function P.symbols f 0) true w in
      (and_from (has_function P.symbols f 0) true e.0 refl, or_right (not (is_varying P.setting.domains)) (has_constant P) (constant_among P.symbols f e.0))
  term-good P names r ok v (fun f (more_terms t ts)) h w =
      let e = and_parts (has_function P.symbols f (suc (arity_of ts))) (term_is_written P.symbols t && terms_are_written P.symbols ts) w in
      let i = or_parts (any_leaf (is_forbidden P names v) t) (any_leaf_of (is_forbidden P names v) ts) h in
      let k = and_parts (term_is_written P.symbols t) (terms_are_written P.symbols ts) e.1 in
      let first = term-good P names r ok v t i.0 k.0 in
      let rest = terms-good P names r ok v ts i.1 k.1 in (
        and_from (has_function P.symbols f (suc (length (g_terms_list (terms_mean r [] ts))))) (is_admitted P (term_means r [] t) && are_admitted P (terms_mean r [] ts)) (ap (λ n. has_function P.symbols f (suc n)) (length-terms r [] ts) ∙ e.0) (and_from (is_admitted P (term_means r [] t)) (are_admitted P (terms_mean r [] ts)) first.0 rest.0),
        and_from (is_allowed P (label_means r.marks v) (term_means r [] t)) (are_allowed P (label_means r.marks v) (terms_mean r [] ts)) first.1 rest.1,
      )
  term-good P names r ok v (eigen n) h w = eigen_good P names r ok v n (eigen_named names n) refl h
  term-good P names r ok v (spare n) h w = spare_good P names r ok v n (spare_named names n) refl h

  pub terms-good : (P : Problem) (names : Names) (r : Meaning) → IsProper P names r → (v : Label) (ts : Terms) → any_leaf_of (is_forbidden P names v) ts ≡ false → IsTrue (terms_are_written P.symbols ts) → IsTrue (are_admitted P (terms_mean r [] ts)) × IsTrue (are_allowed P (label_means r.marks v) (terms_mean r [] ts))
  terms-good P names r ok v no_terms h w = (refl, refl)
  terms-good P names r ok v (more_terms t ts) h w =
      let i = or_parts (any_leaf (is_forbidden P names v) t) (any_leaf_of (is_forbidden P names v) ts) h in
      let k = and_parts (term_is_written P.symbols t) (terms_are_written P.symbols ts) w in
      let first = term-good P names r ok v t i.0 k.0 in
      let rest = terms-good P names r ok v ts i.1 k.1 in (
        and_from (is_admitted P (term_means r [] t)) (are_admitted P (terms_mean r [] ts)) first.0 rest.0,
        and_from (is_allowed P (label_means r.marks v) (term_means r [] t)) (are_allowed P (label_means r.marks v) (terms_mean r [] ts)) first.1 rest.1,
      )
