-- What the names of a derivation mean on a branch: ground terms and marks. And when an entry stands at a place of the problem.
use Rattle.std.specs.Prelude.{◌≡◌, ℕ, suc, List, [], ◌∷◌, ◌++◌, length, Bool, true, false, IsTrue, Some, slice_index_or}
use Rattle.std.specs.List.{list_all}
use Rattle.calculus.specs.declared.sign.Sign.TheVariants.{T, F}
use Rattle.calculus.specs.declared.setting.Logic.{Logic}
use Rattle.calculus.specs.declared.setting.Logic.TheVariants.{Intuitionistic}
use Rattle.calculus.specs.Syntax.{Term, Terms, var, fun, eigen, spare, no_terms, more_terms, Formula, atom, neg, conj, disj, imp, all, ex, box, dia, Problem}
use Rattle.calculus.specs.Ground.{GroundTerm, GroundTerms, GroundMark, g_fun, g_new_mark, values_tree, common, no_g_terms, more_g_terms}
use Rattle.calculus.specs.Equality.{mark_eq}
use Rattle.calculus.specs.Labels.{is_prefix, home_allows}
use Rattle.calculus.specs.Positions.{Node}
use Rattle.calculus.specs.Skolem.{is_admitted, is_admitted_mark, is_admitted_value, is_allowed, common_spares}
use Rattle.calculus.specs.Derivations.{Mark, Label, Entry, Sequent, Home, anywhere, home_at, EigenName, SpareName, Names}
use Rattle.calculus.specs.Calculus.{eigen_named, spare_named}
use Rattle.calculus.specs.Instances.{grounds_of}
use Rattle.calculus.proofs.SpotLaws.{Stands}
use Rattle.derivation_theory.proofs.Places.{Place}

pub record Meaning : Type 0 where
  pub eigens : ℕ → GroundTerm
  pub spares : ℕ → GroundTerm
  pub marks : Mark → List GroundMark

abbrev pub label_means : (Mark → List GroundMark) → Label → List GroundMark
label_means f [] = []
label_means f (m ∷ w) = f m ++ label_means f w

abbrev pub is_intuitionistic : Logic → Bool
is_intuitionistic Intuitionistic = true
is_intuitionistic _ = false

-- a term with meanings for its names and ground terms for its variables
abbrev mutual
  pub term_means : Meaning → List GroundTerm → Term → GroundTerm
  term_means r env (var k) = slice_index_or env k (common 0)
  term_means r env (fun f ts) = g_fun f (terms_mean r env ts)
  term_means r env (eigen n) = r.eigens n
  term_means r env (spare n) = r.spares n

  pub terms_mean : Meaning → List GroundTerm → Terms → GroundTerms
  terms_mean r env no_terms = no_g_terms
  terms_mean r env (more_terms t ts) = more_g_terms (term_means r env t) (terms_mean r env ts)

-- inside of d quantifiers, the first formula with ground terms for the variables that are bound further out says what the second one
-- says with its names
pub data Says (r : Meaning) : ℕ → List GroundTerm → Formula → Formula → Type 0 where
  says_atom : {d : ℕ} {env : List GroundTerm} {p : ℕ} {ts us : Terms} → ((xs : List GroundTerm) → length xs ≡ d → grounds_of (xs ++ env) ts ≡ terms_mean r xs us) → Says r d env (atom p ts) (atom p us)
  says_neg : {d : ℕ} {env : List GroundTerm} {a b : Formula} → Says r d env a b → Says r d env (neg a) (neg b)
  says_conj : {d : ℕ} {env : List GroundTerm} {a b a2 b2 : Formula} → Says r d env a b → Says r d env a2 b2 → Says r d env (conj a a2) (conj b b2)
  says_disj : {d : ℕ} {env : List GroundTerm} {a b a2 b2 : Formula} → Says r d env a b → Says r d env a2 b2 → Says r d env (disj a a2) (disj b b2)
  says_imp : {d : ℕ} {env : List GroundTerm} {a b a2 b2 : Formula} → Says r d env a b → Says r d env a2 b2 → Says r d env (imp a a2) (imp b b2)
  says_all : {d : ℕ} {env : List GroundTerm} {a b : Formula} → Says r (suc d) env a b → Says r d env (all a) (all b)
  says_ex : {d : ℕ} {env : List GroundTerm} {a b : Formula} → Says r (suc d) env a b → Says r d env (ex a) (ex b)
  says_box : {d : ℕ} {env : List GroundTerm} {a b : Formula} → Says r d env a b → Says r d env (box a) (box b)
  says_dia : {d : ℕ} {env : List GroundTerm} {a b : Formula} → Says r d env a b → Says r d env (dia a) (dia b)

-- the term is admitted, and allowed wherever a name with this home is
pub record HasHome (P : Problem) (h : List GroundMark) (t : GroundTerm) : Type 0 where
  pub admitted : IsTrue (is_admitted P t)
  pub allowed : (w : List GroundMark) → IsTrue (home_allows mark_eq P.setting.domains h w) → IsTrue (is_allowed P w t)

-- the same for a spare constant
abbrev pub HasSpareHome : Problem → Meaning → Home → GroundTerm → Type 0
HasSpareHome P r anywhere t = IsTrue (is_admitted P t) × ((w : List GroundMark) → IsTrue (common_spares P) → IsTrue (is_allowed P w t))
HasSpareHome P r (home_at h) t = HasHome P (label_means r.marks h) t

pub record IsProper (P : Problem) (names : Names) (r : Meaning) : Type 0 where
  pub marks : (m : Mark) → IsTrue (list_all (is_admitted_mark P) (r.marks m))
  pub single : is_intuitionistic P.setting.logic ≡ false → (m : Mark) → length (r.marks m) ≡ 1
  pub eigens : (n : ℕ) (x : EigenName) → eigen_named names n ≡ Some x → HasHome P (label_means r.marks x.home) (r.eigens n)
  pub spares : (n : ℕ) (x : SpareName) → spare_named names n ≡ Some x → HasSpareHome P r x.home (r.spares n)

-- the place's label means this one: it is the same; or an atom's string is still open (T), or its character is behind it (F)
pub data MeansLabel (P : Problem) (p : Place) (w : List GroundMark) : Type 0 where
  label_here : p.spot.label ≡ w → MeansLabel P p w
  label_later : (n : ℕ) (ts : Terms) → P.setting.logic ≡ Intuitionistic → p.sign ≡ T → p.formula ≡ atom n ts → IsTrue (is_prefix mark_eq p.spot.label w) → MeansLabel P p w
  label_end : (n : ℕ) (ts : Terms) → P.setting.logic ≡ Intuitionistic → p.sign ≡ F → p.formula ≡ atom n ts → p.spot.label ++ g_new_mark p.spot.position (values_tree p.spot.taken) ∷ [] ≡ w → MeansLabel P p w

-- the entry stands at the place
pub record StandsAt (P : Problem) (r : Meaning) (e : Entry) (p : Place) : Type 0 where
  pub sign : p.sign ≡ e.sign
  pub label : MeansLabel P p (label_means r.marks e.label)
  pub says : Says r 0 p.spot.env p.formula e.formula
  pub before : List Node
  pub stands : Stands P before p.spot p.sign p.formula
  pub admitted : IsTrue (list_all (is_admitted_value P) p.spot.taken)

abbrev pub StandAt : Problem → Meaning → Sequent → List Place → Type 0
StandAt P r [] [] = Unit {0}
StandAt P r (e ∷ s) (p ∷ ps) = StandsAt P r e p × StandAt P r s ps
StandAt P r _ _ = ⊥
