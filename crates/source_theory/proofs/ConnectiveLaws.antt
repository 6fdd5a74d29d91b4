-- What the truth of a formula of each shape says of its parts.
use Rattle.std.proofs.Common.{◌≡◌, ◌⊎◌, List, [], ◌∷◌, Bool, not, ◌&&◌, ◌||◌, IsTrue, sym, ◌∙◌}
use Rattle.std.specs.List.{list_all, list_any}
use Rattle.std.proofs.lemmas.List.Folds.{list_all-append, list_any-append}
use Rattle.plain_laws.proofs.Booleans.{and-true, or_false}
use Rattle.calculus.specs.declared.setting.Logic.{Logic}
use Rattle.calculus.specs.Syntax.{Symbol, Term, no_terms, Formula, atom, neg, conj, disj, imp, all, ex, box, dia}
use Rattle.calculus.specs.Models.{Model, IsWorld, Reaches, IsIn, value_by, HasTruth, RelationFits}
use Rattle.tptp_reader.specs.declared.source.BinaryKind.{BinaryKind}
use Rattle.tptp_reader.specs.declared.source.BinaryKind.TheVariants.{Imp, If, Iff, Xor, Nor, Nand}
use Rattle.problem_build.specs.Balance.{IsBalanced, one, halves}
use Rattle.problem_build.specs.Expansion.{binary_formula, equality_atom, equality_symbol, number_of, true_formula, truth_symbol}
use Rattle.source_theory.specs.SourceTruth.{Lasts, LastsForEach, AreAlike, JoinedBy}
use Rattle.source_theory.specs.Following.{HasIdentity}
use Rattle.source_theory.proofs.TruthLaws.{alike, not-says, implies-says, and-says, or-says, each-says, some-says, IsClosed, lasts-says, lasts_for_each-says, lasts-both, lasts-now, lasts-always, lasts-there, same-says}

-- what is asked of the structure
pub record IsFor {W E : Type 0} (l : Logic) (M : Model W E) (symbols : List Symbol) : Type 0 where
  pub steps : IsClosed M
  pub relation : RelationFits l M
  pub tells : HasTruth l M
  pub identity : HasIdentity M symbols

abbrev pub is_true_in : {W E : Type 0} → Model W E → (Term → E) → List E → W → Formula → Bool
is_true_in M names env w f = M.truth names f env w

-- at each world the formula is true exactly where this is
abbrev pub Says : {W E : Type 0} → Model W E → (Term → E) → Formula → List E → (W → Type 0) → Type 0
Says {W} M names f env A = (w : W) → IsWorld M w → AreAlike (IsTrue (M.truth names f env w)) (A w)

module _ {W E : Type 0} (l : Logic) (M : Model W E) (symbols : List Symbol) (S : IsFor l M symbols) (names : Term → E) where
  -- it says that it is true
  pub itself : (f : Formula) (env : List E) → Says M names f env (λ w. IsTrue (M.truth names f env w))
  itself f env w at = (λ h. h, λ h. h)

  pub neg-means : (f : Formula) (env : List E) (A : W → Type 0) → Says M names f env A → Says M names (neg f) env (Lasts l M (λ w. ¬ A w))
  neg-means f env A h w at =
      lasts-says l M S.steps (λ v. not (M.truth names f env v)) (λ v. ¬ A v) (λ v there. not-says (M.truth names f env v) (h v there)) w at
      (M.truth names (neg f) env w) (S.tells names (neg f) env w)

  pub imp-means : (f g : Formula) (env : List E) (A B : W → Type 0) → Says M names f env A → Says M names g env B → Says M names (imp f g) env (Lasts l M (λ w. A w → B w))
  imp-means f g env A B h k w at =
      lasts-says l M S.steps (λ v. not (M.truth names f env v) || M.truth names g env v) (λ v. A v → B v)
      (λ v there. implies-says (M.truth names f env v) (M.truth names g env v) (h v there) (k v there)) w at
      (M.truth names (imp f g) env w) (S.tells names (imp f g) env w)

  pub conj-means : (f g : Formula) (env : List E) (A B : W → Type 0) → Says M names f env A → Says M names g env B → Says M names (conj f g) env (λ w. A w × B w)
  conj-means f g env A B h k w at =
      same-says (M.truth names (conj f g) env w) (M.truth names f env w && M.truth names g env w) (S.tells names (conj f g) env w)
      (and-says (M.truth names f env w) (M.truth names g env w) (h w at) (k w at))

  pub disj-means : (f g : Formula) (env : List E) (A B : W → Type 0) → Says M names f env A → Says M names g env B → Says M names (disj f g) env (λ w. A w ⊎ B w)
  disj-means f g env A B h k w at =
      same-says (M.truth names (disj f g) env w) (M.truth names f env w || M.truth names g env w) (S.tells names (disj f g) env w)
      (or-says (M.truth names f env w) (M.truth names g env w) (h w at) (k w at))

  pub all-means : (f : Formula) (env : List E) (A : E → W → Type 0) → ((x : E) → Says M names f (x ∷ env) (A x)) → Says M names (all f) env (LastsForEach l M A)
  all-means f env A h w at =
      lasts_for_each-says l M S.steps (λ v x. M.truth names f (x ∷ env) v) A (λ v x there inside. h x v there) w at
      (M.truth names (all f) env w) (S.tells names (all f) env w)

  pub ex-means : (f : Formula) (env : List E) (A : E → W → Type 0) → ((x : E) → Says M names f (x ∷ env) (A x)) → Says M names (ex f) env (λ w. (x : E) × IsIn M w x × A x w)
  ex-means f env A h w at =
      some-says (M.is_in w) (λ x. M.truth names f (x ∷ env) w) (λ x. A x w) (λ x inside. h x w at)
      (M.truth names (ex f) env w) (S.tells names (ex f) env w)

  pub box-means : (f : Formula) (env : List E) (A : W → Type 0) → Says M names f env A → Says M names (box f) env (λ w. (v : W) → Reaches M w v → A v)
  box-means f env A h w at =
      each-says (M.reaches w) (λ v. M.truth names f env v) A (λ v on. h v (S.steps w v at on))
      (M.truth names (box f) env w) (S.tells names (box f) env w)

  pub dia-means : (f : Formula) (env : List E) (A : W → Type 0) → Says M names f env A → Says M names (dia f) env (λ w. (v : W) × Reaches M w v × A v)
  dia-means f env A h w at =
      some-says (M.reaches w) (λ v. M.truth names f env v) A (λ v on. h v (S.steps w v at on))
      (M.truth names (dia f) env w) (S.tells names (dia f) env w)

  -- ---- the connectives of TPTP

  pub truth-means : (env : List E) → Says M names (true_formula symbols) env (λ w. Unit {0})
  truth-means env w at = (
    λ h. tt,
    λ h. (imp-means (atom (number_of symbols truth_symbol) no_terms) (atom (number_of symbols truth_symbol) no_terms) env
        (λ v. IsTrue (M.truth names (atom (number_of symbols truth_symbol) no_terms) env v)) (λ v. IsTrue (M.truth names (atom (number_of symbols truth_symbol) no_terms) env v))
        (itself (atom (number_of symbols truth_symbol) no_terms) env) (itself (atom (number_of symbols truth_symbol) no_terms) env) w at).1
        (lasts-there l M S.steps (λ v. IsTrue (M.truth names (atom (number_of symbols truth_symbol) no_terms) env v) → IsTrue (M.truth names (atom (number_of symbols truth_symbol) no_terms) env v)) (λ v there x. x) w at),
  )

  pub falsity-means : (env : List E) → Says M names (neg (true_formula symbols)) env (λ w. ⊥)
  falsity-means env w at =
      (λ h. lasts-now l M S.relation (λ v. ¬ Unit {0}) w at ((neg-means (true_formula symbols) env (λ v. Unit {0}) (truth-means env) w at).0 h) tt, λ no. absurd no)

  pub equality-means : (s t : Term) (env : List E) → Says M names (equality_atom symbols s t) env (λ w. value_by M names env s ≡ value_by M names env t)
  equality-means s t env w at =
      alike
      (lasts-says l M S.steps (λ v. M.holds (number_of symbols equality_symbol) v (value_by M names env s ∷ value_by M names env t ∷ [])) (λ v. value_by M names env s ≡ value_by M names env t)
      (λ v there. S.identity v there (value_by M names env s) (value_by M names env t)) w at
      (M.truth names (equality_atom symbols s t) env w) (S.tells names (equality_atom symbols s t) env w))
      (lasts-always l M S.relation (value_by M names env s ≡ value_by M names env t) w at)

  pub unequal-means : (s t : Term) (env : List E) → Says M names (neg (equality_atom symbols s t)) env (λ w. ¬ (value_by M names env s ≡ value_by M names env t))
  unequal-means s t env w at =
      alike (neg-means (equality_atom symbols s t) env (λ v. value_by M names env s ≡ value_by M names env t) (equality-means s t env) w at)
      (lasts-always l M S.relation (¬ (value_by M names env s ≡ value_by M names env t)) w at)

  iff-means : (f g : Formula) (env : List E) (A B : W → Type 0) → Says M names f env A → Says M names g env B → Says M names (conj (imp f g) (imp g f)) env (Lasts l M (λ w. AreAlike (A w) (B w)))
  iff-means f g env A B h k w at =
      alike
      (conj-means (imp f g) (imp g f) env (Lasts l M (λ v. A v → B v)) (Lasts l M (λ v. B v → A v)) (imp-means f g env A B h k) (imp-means g f env B A k h) w at)
      (lasts-both l M (λ v. A v → B v) (λ v. B v → A v) w)

  pub binary-means : (c : BinaryKind) (f g : Formula) (env : List E) (A B : W → Type 0) → Says M names f env A → Says M names g env B → Says M names (binary_formula c f g) env (JoinedBy l M c A B)
  binary-means Imp f g env A B h k = imp-means f g env A B h k
  binary-means If f g env A B h k = imp-means g f env B A k h
  binary-means Iff f g env A B h k = iff-means f g env A B h k
  binary-means Xor f g env A B h k = neg-means (conj (imp f g) (imp g f)) env (Lasts l M (λ w. AreAlike (A w) (B w))) (iff-means f g env A B h k)
  binary-means Nor f g env A B h k = neg-means (disj f g) env (λ w. A w ⊎ B w) (disj-means f g env A B h k)
  binary-means Nand f g env A B h k = neg-means (conj f g) env (λ w. A w × B w) (conj-means f g env A B h k)

  -- ---- balanced chains

  pub conjunction-all : (env : List E) (w : W) (fs : List Formula) (f : Formula) → IsBalanced conj fs f → M.truth names f env w ≡ list_all (is_true_in M names env w) fs
  conjunction-all env w _ _ (one f) = sym (and-true (M.truth names f env w))
  conjunction-all env w _ _ (halves fs gs f g e p q) =
      S.tells names (conj f g) env w ∙ (λ i. conjunction-all env w fs f p i && conjunction-all env w gs g q i) ∙ sym (list_all-append (is_true_in M names env w) fs gs)

  pub disjunction-any : (env : List E) (w : W) (fs : List Formula) (f : Formula) → IsBalanced disj fs f → M.truth names f env w ≡ list_any (is_true_in M names env w) fs
  disjunction-any env w _ _ (one f) = sym (or_false (M.truth names f env w))
  disjunction-any env w _ _ (halves fs gs f g e p q) =
      S.tells names (disj f g) env w ∙ (λ i. disjunction-any env w fs f p i || disjunction-any env w gs g q i) ∙ sym (list_any-append (is_true_in M names env w) fs gs)
