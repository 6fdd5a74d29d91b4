-- Putting terms for variables: the entry of a component is the component of the entry.
use Rattle.std.proofs.Common.{◌≡◌, ℕ, suc, ◌+◌, ◌-◌, ◌<◌, List, [], ◌∷◌, map, IsTrue, refl, sym, ◌∙◌, ap, inl, inr, arith, slice_index_or, lt-ltb, le-ltb, ltb-true}
use Rattle.std.proofs.lemmas.Bool.{false≢true, cases_eq, and_parts}
use Rattle.plain_laws.proofs.Numbers.{cmp-equal, cmp-less, order}
use Rattle.calculus.specs.declared.sign.Sign.{Sign}
use Rattle.calculus.specs.declared.sign.Sign.TheVariants.{T, F}
use Rattle.calculus.specs.declared.setting.Logic.{Logic}
use Rattle.calculus.specs.declared.setting.Logic.TheVariants.{Intuitionistic}
use Rattle.calculus.specs.Syntax.{Symbol, Term, Terms, var, fun, eigen, spare, no_terms, more_terms, Formula, atom, neg, conj, disj, imp, all, ex, box, dia}
use Rattle.calculus.specs.Ground.{GroundTerm, GroundTerms, g_fun, g_eigen, common, own, no_g_terms, more_g_terms}
use Rattle.calculus.specs.Kinds.{Signed, signed, shape_of, modal_of, components}
use Rattle.calculus.specs.Instances.{ground_of, grounds_of}
use Rattle.calculus.specs.Problems.{term_fits_in, terms_fit_in, formula_fits}
use Rattle.calculus.specs.Substitution.{put_for, term_with, terms_with, formula_with, instance, binders}
use Rattle.conversion_theory.specs.Turns.{Name}
use Rattle.conversion_theory.specs.Numbering.{numbered_term, numbered_terms, variable_by, term_by, terms_by, formula_by}

-- ---- kinds and components

pub shape_by : (num : Name → ℕ) (env : List GroundTerm) (s : Sign) (f : Formula) → shape_of s (formula_by num 0 env f) ≡ shape_of s f
shape_by num env T (atom p ts) = refl
shape_by num env F (atom p ts) = refl
shape_by num env T _ = refl
shape_by num env F _ = refl

pub modal_by : (num : Name → ℕ) (env : List GroundTerm) (l : Logic) (s : Sign) (f : Formula) → modal_of l s (formula_by num 0 env f) ≡ modal_of l s f
modal_by num env Intuitionistic s (box a) = refl
modal_by num env Intuitionistic s _ = refl
modal_by num env _ s (box a) = refl
modal_by num env _ s _ = refl

-- how many quantifiers the components stand behind
pub components_by : (num : Name → ℕ) (env : List GroundTerm) (s : Sign) (f : Formula) → components s (formula_by num 0 env f) ≡ map (λ (x : Signed). signed x.sign (formula_by num (binders f) env x.formula)) (components s f)
components_by num env s (atom p ts) = refl
components_by num env s _ = refl

-- ---- ground terms have no variable

mutual
  pub numbered-closed : (num : Name → ℕ) (u : Term) (d : ℕ) (t : GroundTerm) → term_with u d (numbered_term num t) ≡ numbered_term num t
  numbered-closed num u d (g_fun f ts) = ap (fun f) (numbered_all-closed num u d ts)
  numbered-closed num u d (g_eigen p vs) = refl
  numbered-closed num u d (common k) = refl
  numbered-closed num u d (own k w) = refl

  numbered_all-closed : (num : Name → ℕ) (u : Term) (d : ℕ) (ts : GroundTerms) → terms_with u d (numbered_terms num ts) ≡ numbered_terms num ts
  numbered_all-closed num u d no_g_terms = refl
  numbered_all-closed num u d (more_g_terms t ts) = λ i. more_terms (numbered-closed num u d t i) (numbered_all-closed num u d ts i)

-- ---- one more term

-- a variable that is free further out is that of the terms
pub bound : (num : Name → ℕ) (d k : ℕ) (env : List GroundTerm) → k < d → variable_by num d env k ≡ var k
bound num d k env h = rw (lt-ltb k d h) refl

pub free : (num : Name → ℕ) (d k j : ℕ) (env : List GroundTerm) → k ≡ d + j → variable_by num d env k ≡ numbered_term num (slice_index_or env j (common 0))
free num d k j env h =
    let at : k - d ≡ j = omega arith in
    rw (le-ltb k d (omega arith), at) refl

put-variable : (num : Name → ℕ) (t : GroundTerm) (d : ℕ) (env : List GroundTerm) (k : ℕ) → term_with (numbered_term num t) d (variable_by num (suc d) env k) ≡ variable_by num d (t ∷ env) k
put-variable num t d env k = elim (order k d) [
  | inl lt ↦ ap (term_with (numbered_term num t) d) (bound num (suc d) k env (omega arith)) ∙ ap (put_for (numbered_term num t) k) (cmp-less k d lt) ∙ sym (bound num d k (t ∷ env) lt)
  | inr le ↦ elim (cases_eq k d) [
    | inl e ↦ ap (term_with (numbered_term num t) d) (bound num (suc d) k env (omega arith)) ∙ ap (put_for (numbered_term num t) k) (cmp-equal k d e) ∙ sym (free num d k 0 (t ∷ env) (omega arith))
    | inr n ↦ ap (term_with (numbered_term num t) d) (free num (suc d) k (k - suc d) env (omega arith)) ∙ numbered-closed num (numbered_term num t) d (slice_index_or env (k - suc d) (common 0)) ∙ sym (free num d k (suc (k - suc d)) (t ∷ env) (omega arith))
  ]
]

mutual
  put-term : (num : Name → ℕ) (t : GroundTerm) (d : ℕ) (env : List GroundTerm) (u : Term) → term_with (numbered_term num t) d (term_by num (suc d) env u) ≡ term_by num d (t ∷ env) u
  put-term num t d env (var k) = put-variable num t d env k
  put-term num t d env (fun f us) = ap (fun f) (put-terms num t d env us)
  put-term num t d env (eigen n) = refl
  put-term num t d env (spare n) = refl

  put-terms : (num : Name → ℕ) (t : GroundTerm) (d : ℕ) (env : List GroundTerm) (us : Terms) → terms_with (numbered_term num t) d (terms_by num (suc d) env us) ≡ terms_by num d (t ∷ env) us
  put-terms num t d env no_terms = refl
  put-terms num t d env (more_terms u us) = λ i. more_terms (put-term num t d env u i) (put-terms num t d env us i)

pub put-formula : (num : Name → ℕ) (t : GroundTerm) (d : ℕ) (env : List GroundTerm) (f : Formula) → formula_with (numbered_term num t) d (formula_by num (suc d) env f) ≡ formula_by num d (t ∷ env) f
put-formula num t d env (atom p us) = ap (atom p) (put-terms num t d env us)
put-formula num t d env (neg a) = ap neg (put-formula num t d env a)
put-formula num t d env (conj a b) = λ i. conj (put-formula num t d env a i) (put-formula num t d env b i)
put-formula num t d env (disj a b) = λ i. disj (put-formula num t d env a i) (put-formula num t d env b i)
put-formula num t d env (imp a b) = λ i. imp (put-formula num t d env a i) (put-formula num t d env b i)
put-formula num t d env (all a) = ap all (put-formula num t (suc d) env a)
put-formula num t d env (ex a) = ap ex (put-formula num t (suc d) env a)
put-formula num t d env (box a) = ap box (put-formula num t d env a)
put-formula num t d env (dia a) = ap dia (put-formula num t d env a)

-- the instance of a quantifier's component
pub put-instance : (num : Name → ℕ) (t : GroundTerm) (env : List GroundTerm) (f : Formula) → instance (numbered_term num t) (formula_by num 1 env f) ≡ formula_by num 0 (t ∷ env) f
put-instance num t env f = put-formula num t 0 env f

-- ---- no terms: the formula itself

mutual
  none-term : (num : Name → ℕ) (symbols : List Symbol) (d : ℕ) (t : Term) → IsTrue (term_fits_in symbols d t) → term_by num d [] t ≡ t
  none-term num symbols d (var k) h = bound num d k [] (ltb-true k d h)
  none-term num symbols d (fun f ts) h = ap (fun f) (none-terms num symbols d ts (and_parts _ (terms_fit_in symbols d ts) h).1)
  none-term num symbols d (eigen n) h = refl
  none-term num symbols d (spare n) h = refl

  none-terms : (num : Name → ℕ) (symbols : List Symbol) (d : ℕ) (ts : Terms) → IsTrue (terms_fit_in symbols d ts) → terms_by num d [] ts ≡ ts
  none-terms num symbols d no_terms h = refl
  none-terms num symbols d (more_terms t ts) h = let p = and_parts (term_fits_in symbols d t) (terms_fit_in symbols d ts) h in λ i. more_terms (none-term num symbols d t p.0 i) (none-terms num symbols d ts p.1 i)

pub none-formula : (num : Name → ℕ) (l : Logic) (symbols : List Symbol) (d : ℕ) (f : Formula) → IsTrue (formula_fits l symbols d f) → formula_by num d [] f ≡ f
none-formula num l symbols d (atom p ts) h = ap (atom p) (none-terms num symbols d ts (and_parts _ (terms_fit_in symbols d ts) h).1)
none-formula num l symbols d (neg a) h = ap neg (none-formula num l symbols d a h)
none-formula num l symbols d (conj a b) h = let p = and_parts (formula_fits l symbols d a) (formula_fits l symbols d b) h in λ i. conj (none-formula num l symbols d a p.0 i) (none-formula num l symbols d b p.1 i)
none-formula num l symbols d (disj a b) h = let p = and_parts (formula_fits l symbols d a) (formula_fits l symbols d b) h in λ i. disj (none-formula num l symbols d a p.0 i) (none-formula num l symbols d b p.1 i)
none-formula num l symbols d (imp a b) h = let p = and_parts (formula_fits l symbols d a) (formula_fits l symbols d b) h in λ i. imp (none-formula num l symbols d a p.0 i) (none-formula num l symbols d b p.1 i)
none-formula num l symbols d (all a) h = ap all (none-formula num l symbols (suc d) a h)
none-formula num l symbols d (ex a) h = ap ex (none-formula num l symbols (suc d) a h)
none-formula num l symbols d (box a) h = ap box (none-formula num l symbols d a (and_parts _ (formula_fits l symbols d a) h).1)
none-formula num l symbols d (dia a) h = ap dia (none-formula num l symbols d a (and_parts _ (formula_fits l symbols d a) h).1)

-- ---- the arguments of an atom, where all variables have terms

mutual
  ground-term : (num : Name → ℕ) (symbols : List Symbol) (d : ℕ) (env : List GroundTerm) (t : Term) → IsTrue (term_fits_in symbols d t) → term_by num 0 env t ≡ numbered_term num (ground_of env t)
  ground-term num symbols d env (var k) h = free num 0 k k env (omega arith)
  ground-term num symbols d env (fun f ts) h = ap (fun f) (ground-terms num symbols d env ts (and_parts _ (terms_fit_in symbols d ts) h).1)
  ground-term num symbols d env (eigen n) h = absurd (false≢true h)
  ground-term num symbols d env (spare n) h = absurd (false≢true h)

  pub ground-terms : (num : Name → ℕ) (symbols : List Symbol) (d : ℕ) (env : List GroundTerm) (ts : Terms) → IsTrue (terms_fit_in symbols d ts) → terms_by num 0 env ts ≡ numbered_terms num (grounds_of env ts)
  ground-terms num symbols d env no_terms h = refl
  ground-terms num symbols d env (more_terms t ts) h = let p = and_parts (term_fits_in symbols d t) (terms_fit_in symbols d ts) h in λ i. more_terms (ground-term num symbols d env t p.0 i) (ground-terms num symbols d env ts p.1 i)
