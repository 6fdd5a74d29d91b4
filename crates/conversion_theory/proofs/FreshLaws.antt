-- What the next turn introduces stands nowhere on its branch.
use Rattle.std.proofs.Common.{◌≡◌, ℕ, zero, suc, ◌+◌, ◌-◌, ◌<◌, List, [], ◌∷◌, length, Bool, true, false, not, ◌==◌, IsTrue, refl, sym, ◌∙◌, ap, subst, inl, inr, arith, slice_index_or, ltb-true}
use Rattle.std.specs.List.{AllByRecursion}
use Rattle.std.proofs.lemmas.Bool.{false≢true, and_parts, not-true}
use Rattle.plain_laws.proofs.Numbers.{order}
use Rattle.calculus.specs.declared.setting.Logic.{Logic}
use Rattle.calculus.specs.Syntax.{Symbol, Term, Terms, var, fun, eigen, spare, no_terms, more_terms, Formula, atom, neg, conj, disj, imp, all, ex, box, dia, Problem}
use Rattle.calculus.specs.Ground.{GroundTerm, GroundTerms, GroundMark, g_fun, g_eigen, common, own, no_g_terms, more_g_terms, g_new_mark, marks_list, values_list, values_tree}
use Rattle.calculus.specs.Lists.{values_tree-inj}
use Rattle.calculus.specs.Equality.{mark_eq}
use Rattle.calculus.specs.Problems.{term_fits_in, terms_fit_in, formula_fits}
use Rattle.calculus.specs.Skolem.{label_of}
use Rattle.calculus.specs.Instances.{Turn}
use Rattle.calculus.specs.Substitution.{any_leaf, any_leaf_of, any_leaf_in}
use Rattle.calculus.specs.Derivations.{character_eq}
use Rattle.calculus.specs.Calculus.{holds_character, is_in_home, is_eigen, character_occurs, eigen_occurs}
use Rattle.calculus.specs.Tableaux.{Tableau}
use Rattle.conversion_theory.specs.Turns.{Name, term_name, mark_name, names_mentioned, names_introduced}
use Rattle.conversion_theory.specs.Numbering.{numbered_mark, numbered_label, numbered_term, numbered_terms, name_lines_of, variable_by, term_by, terms_by, formula_by}
use Rattle.calculus.proofs.EqualityLaws.{mark_eq-tells, nat_eq-tells}
use Rattle.calculus.proofs.Members.{Among, among-append}
use Rattle.conversion_theory.proofs.NameLaws.{introduced-cases}
use Rattle.conversion_theory.proofs.NumberedLaws.{TellsApart, MarksIn, IsKnownTerm, AreKnownTerms, character_eq-numbered, eigen-known, common-known, own-known}
use Rattle.conversion_theory.proofs.HitLaws.{turn}
use Rattle.conversion_theory.proofs.AgendaLaws.{TurnOf}
use Rattle.conversion_theory.proofs.PutLaws.{bound, free}
use Rattle.conversion_theory.proofs.WorkLaws.{NameOf, mentioned-name, introduced-name}
use Rattle.conversion_theory.proofs.BranchLaws.{Item, IsItem, Known, IsReady, entries_of}

-- ---- the name is not known

same-turn : (x y : Turn) (n : Name) (p : Problem) → Among (names_introduced p x) n → Among (names_introduced p y) n → x ≡ y
same-turn x y n p h g = elim (introduced-cases p x n h) [
  | inl a ↦ elim (introduced-cases p y n g) [
    | inl b ↦ let e : term_name (g_eigen x.position (values_tree x.values)) ≡ term_name (g_eigen y.position (values_tree y.values)) = sym a.1 ∙ b.1 in let at : x.position ≡ y.position = cc in let vs : values_tree x.values ≡ values_tree y.values = cc in let us = values_tree-inj x.values y.values vs in λ i. turn (at i) (us i)
    | inr b ↦ let e : term_name (g_eigen x.position (values_tree x.values)) ≡ mark_name (g_new_mark y.position (values_tree y.values)) = sym a.1 ∙ b.1 in absurd cc
  ]
  | inr a ↦ elim (introduced-cases p y n g) [
    | inl b ↦ let e : mark_name (g_new_mark x.position (values_tree x.values)) ≡ term_name (g_eigen y.position (values_tree y.values)) = sym a.1 ∙ b.1 in absurd cc
    | inr b ↦ let e : mark_name (g_new_mark x.position (values_tree x.values)) ≡ mark_name (g_new_mark y.position (values_tree y.values)) = sym a.1 ∙ b.1 in let at : x.position ≡ y.position = cc in let vs : values_tree x.values ≡ values_tree y.values = cc in let us = values_tree-inj x.values y.values vs in λ i. turn (at i) (us i)
  ]
]

pub introduced-unknown : (P : Problem) (t : Tableau) (done : List Turn) (x : Turn) → IsReady P t done x → (n : Name) → Among (names_introduced P x) n → Known P done n → ⊥
introduced-unknown P t done x r n h k = elim (among-append (names_mentioned P k.by) (names_introduced P k.by) n k.name) [
  | inl m ↦ r.names k.by n k.among m h
  | inr i ↦ r.new (subst (Among done) (same-turn k.by x n P i h) k.among)
]

-- what is known is named by the tableau
pub known-named : (P : Problem) (t : Tableau) (done : List Turn) → ((y : Turn) → Among done y → TurnOf P t y) → (n : Name) → Known P done n → NameOf P t n
known-named P t done turns n k = elim (among-append (names_mentioned P k.by) (names_introduced P k.by) n k.name) [
  | inl m ↦ mentioned-name P t k.by (turns k.by k.among) n m
  | inr i ↦ introduced-name P t k.by (turns k.by k.among) n i
]

-- ---- leaves of the formulas of entries

-- each variable, and each term put for one, fails the test
abbrev pub Fails : (Term → Bool) → (Name → ℕ) → List GroundTerm → Type 0
Fails test num env = AllByRecursion (λ u. any_leaf test (numbered_term num u) ≡ false) env

index-fails : (test : Term → Bool) (num : Name → ℕ) (env : List GroundTerm) → Fails test num env → (k : ℕ) → k < length env → any_leaf test (numbered_term num (slice_index_or env k (common 0))) ≡ false
index-fails test num [] h k lt = absurd (omega arith)
index-fails test num (u ∷ us) h zero lt = h.0
index-fails test num (u ∷ us) h (suc k) lt = index-fails test num us h.1 k (omega arith)

module _ (test : Term → Bool) (var_fails : (k : ℕ) → test (var k) ≡ false) (num : Name → ℕ) (symbols : List Symbol) where
  variable-fails : (d n : ℕ) (env : List GroundTerm) → Fails test num env → n ≡ d + length env → (k : ℕ) → k < n → any_leaf test (variable_by num d env k) ≡ false
  variable-fails d n env h e k lt = elim (order k d) [
    | inl p ↦ ap (any_leaf test) (bound num d k env p) ∙ var_fails k
    | inr p ↦ ap (any_leaf test) (free num d k (k - d) env (omega arith)) ∙ index-fails test num env h (k - d) (omega arith)
  ]

  mutual
    term-fails : (d n : ℕ) (env : List GroundTerm) → Fails test num env → n ≡ d + length env → (t : Term) → IsTrue (term_fits_in symbols n t) → any_leaf test (term_by num d env t) ≡ false
    term-fails d n env h e (var k) g = variable-fails d n env h e k (ltb-true k n g)
    term-fails d n env h e (fun f ts) g = terms-fail d n env h e ts (and_parts _ (terms_fit_in symbols n ts) g).1
    term-fails d n env h e (eigen k) g = absurd (false≢true g)
    term-fails d n env h e (spare k) g = absurd (false≢true g)

    terms-fail : (d n : ℕ) (env : List GroundTerm) → Fails test num env → n ≡ d + length env → (ts : Terms) → IsTrue (terms_fit_in symbols n ts) → any_leaf_of test (terms_by num d env ts) ≡ false
    terms-fail d n env h e no_terms g = refl
    terms-fail d n env h e (more_terms t ts) g = let p = and_parts (term_fits_in symbols n t) (terms_fit_in symbols n ts) g in rw (term-fails d n env h e t p.0) (terms-fail d n env h e ts p.1)

  pub formula-fails : (l : Logic) (d n : ℕ) (env : List GroundTerm) → Fails test num env → n ≡ d + length env → (f : Formula) → IsTrue (formula_fits l symbols n f) → any_leaf_in test (formula_by num d env f) ≡ false
  formula-fails l d n env h e (atom p ts) g = terms-fail d n env h e ts (and_parts _ (terms_fit_in symbols n ts) g).1
  formula-fails l d n env h e (neg a) g = formula-fails l d n env h e a g
  formula-fails l d n env h e (conj a b) g = let p = and_parts (formula_fits l symbols n a) (formula_fits l symbols n b) g in rw (formula-fails l d n env h e a p.0) (formula-fails l d n env h e b p.1)
  formula-fails l d n env h e (disj a b) g = let p = and_parts (formula_fits l symbols n a) (formula_fits l symbols n b) g in rw (formula-fails l d n env h e a p.0) (formula-fails l d n env h e b p.1)
  formula-fails l d n env h e (imp a b) g = let p = and_parts (formula_fits l symbols n a) (formula_fits l symbols n b) g in rw (formula-fails l d n env h e a p.0) (formula-fails l d n env h e b p.1)
  formula-fails l d n env h e (all a) g = formula-fails l (suc d) (suc n) env h (omega arith) a g
  formula-fails l d n env h e (ex a) g = formula-fails l (suc d) (suc n) env h (omega arith) a g
  formula-fails l d n env h e (box a) g = formula-fails l d n env h e a (and_parts _ (formula_fits l symbols n a) g).1
  formula-fails l d n env h e (dia a) g = formula-fails l d n env h e a (and_parts _ (formula_fits l symbols n a) g).1

-- ---- the new name stands in no entry

-- K is what is known, S what has numbers, and the new name is in S but not in K
module _ (S K : Name → Type 0) (num : Name → ℕ) (apart : TellsApart S num) (P : Problem) (ns : List Name) (s : (n : Name) → Among ns n → S n) (whole : (n : Name) → S n → Among ns n) (in_s : (n : Name) → K n → S n) where
  number-differs : (a b : Name) → S a → K b → (K a → ⊥) → (num a == num b) ≡ false
  number-differs a b h g n = not-true (num a == num b) (by (num a == num b) refl)
    where
      by : (r : Bool) → (num a == num b) ≡ r → not r ≡ true
      by false e = refl
      by true e = absurd (n (subst K (sym (apart a b h (in_s b g) ((nat_eq-tells (num a) (num b)).0 e))) g))

  mutual
    eigen-fails : (a : Name) → S a → (K a → ⊥) → (u : GroundTerm) → IsKnownTerm K P u → any_leaf (is_eigen (num a)) (numbered_term num u) ≡ false
    eigen-fails a h n (g_fun f ts) k = eigen-fail a h n ts k
    eigen-fails a h n (g_eigen p vs) k = number-differs a (term_name (g_eigen p vs)) h k.0 n
    eigen-fails a h n (common j) k = refl
    eigen-fails a h n (own j w) k = refl

    eigen-fail : (a : Name) → S a → (K a → ⊥) → (us : GroundTerms) → AreKnownTerms K P us → any_leaf_of (is_eigen (num a)) (numbered_terms num us) ≡ false
    eigen-fail a h n no_g_terms k = refl
    eigen-fail a h n (more_g_terms u us) k = rw (eigen-fails a h n u k.0) (eigen-fail a h n us k.1)

  env-eigen : (a : Name) → S a → (K a → ⊥) → (env : List GroundTerm) → AllByRecursion (IsKnownTerm K P) env → Fails (is_eigen (num a)) num env
  env-eigen a h n [] k = tt
  env-eigen a h n (u ∷ us) k = (eigen-fails a h n u k.0, env-eigen a h n us k.1)

  pub eigen-new : (a : Name) → S a → (K a → ⊥) → (items : List Item) → ((i : Item) → Among items i → IsItem P K i) → eigen_occurs (num a) (entries_of num items) ≡ false
  eigen-new a h n [] each = refl
  eigen-new a h n (i ∷ is) each =
      let ok = each i (inl refl) in
      rw (formula-fails (is_eigen (num a)) (λ k. refl) num P.symbols P.setting.logic 0 (length i.spot.env) i.spot.env (env-eigen a h n i.spot.env ok.env) (omega arith) i.formula ok.fits) (eigen-new a h n is (λ j k. each j (inr k)))

  -- a character
  mark-differs : (m k : GroundMark) → S (mark_name m) → K (mark_name k) → (K (mark_name m) → ⊥) → character_eq (numbered_mark num m) (numbered_mark num k) ≡ false
  mark-differs m k h g n = character_eq-numbered S num apart m k h (in_s (mark_name k) g) ∙ not-true (mark_eq m k) (by (mark_eq m k) refl)
    where
      by : (r : Bool) → mark_eq m k ≡ r → not r ≡ true
      by false e = refl
      by true e = absurd (n (subst (λ z. K (mark_name z)) (sym ((mark_eq-tells m k).0 e)) g))

  label-new : (m : GroundMark) → S (mark_name m) → (K (mark_name m) → ⊥) → (w : List GroundMark) → MarksIn K w → holds_character (numbered_mark num m) (numbered_label num w) ≡ false
  label-new m h n [] k = refl
  label-new m h n (j ∷ w) k = rw (mark-differs m j h k.0 n) (label-new m h n w k.1)

  mutual
    home-fails : (m : GroundMark) → S (mark_name m) → (K (mark_name m) → ⊥) → (u : GroundTerm) → IsKnownTerm K P u → any_leaf (is_in_home (name_lines_of num P ns) (numbered_mark num m)) (numbered_term num u) ≡ false
    home-fails m h n (g_fun f ts) k = home-fail m h n ts k
    home-fails m h n (g_eigen p vs) k = rw (eigen-known S num apart P ns s whole p vs (in_s (term_name (g_eigen p vs)) k.0)) (label-new m h n (label_of P p (values_list vs)) k.1)
    home-fails m h n (common j) k = rw (common-known S num apart P ns s whole j (in_s (term_name (common j)) k)) refl
    home-fails m h n (own j w) k = rw (own-known S num apart P ns s whole j w (in_s (term_name (own j w)) k.0)) (label-new m h n (marks_list w) k.1)

    home-fail : (m : GroundMark) → S (mark_name m) → (K (mark_name m) → ⊥) → (us : GroundTerms) → AreKnownTerms K P us → any_leaf_of (is_in_home (name_lines_of num P ns) (numbered_mark num m)) (numbered_terms num us) ≡ false
    home-fail m h n no_g_terms k = refl
    home-fail m h n (more_g_terms u us) k = rw (home-fails m h n u k.0) (home-fail m h n us k.1)

  env-home : (m : GroundMark) → S (mark_name m) → (K (mark_name m) → ⊥) → (env : List GroundTerm) → AllByRecursion (IsKnownTerm K P) env → Fails (is_in_home (name_lines_of num P ns) (numbered_mark num m)) num env
  env-home m h n [] k = tt
  env-home m h n (u ∷ us) k = (home-fails m h n u k.0, env-home m h n us k.1)

  pub character-new : (m : GroundMark) → S (mark_name m) → (K (mark_name m) → ⊥) → (items : List Item) → ((i : Item) → Among items i → IsItem P K i) → character_occurs (name_lines_of num P ns) (numbered_mark num m) (entries_of num items) ≡ false
  character-new m h n [] each = refl
  character-new m h n (i ∷ is) each =
      let ok = each i (inl refl) in
      rw (label-new m h n i.spot.label ok.label, formula-fails (is_in_home (name_lines_of num P ns) (numbered_mark num m)) (λ k. refl) num P.symbols P.setting.logic 0 (length i.spot.env) i.spot.env (env-home m h n i.spot.env ok.env) (omega arith) i.formula ok.fits) (character-new m h n is (λ j k. each j (inr k)))
