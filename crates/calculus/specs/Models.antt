-- Kripke structures of any size, and truth in them (Kripke; Fitting and Mendelsohn). Worlds and
-- elements are of any types, so there may be infinitely many. What a structure says is given by
-- truth values, and truth too: for each formula, with elements for its variables and names, at each
-- world. Each structure of the textbooks gives such values by excluded middle, which is used
-- nowhere here; in the finite ones of `Structures` they are computed.
use Rattle.std.specs.Prelude.{◌≡◌, ℕ, List, [], ◌∷◌, length, Bool, true, false, not, ◌&&◌, ◌||◌, get_or, IsTrue}
use Rattle.calculus.specs.declared.setting.Logic.{Logic}
use Rattle.calculus.specs.declared.setting.Logic.TheVariants.{Classical, Intuitionistic, D, T as LogicT, S4, S5}
use Rattle.calculus.specs.declared.setting.Domains.{Domains}
use Rattle.calculus.specs.declared.setting.Domains.TheVariants.{Constant, Cumulative, Varying}
use Rattle.calculus.specs.Syntax.{Term, Terms, var, fun, eigen, spare, no_terms, more_terms, Formula, atom, neg, conj, disj, imp, all, ex, box, dia, Problem}
use Rattle.calculus.specs.Skolem.{has_function}

-- `element` stands for a variable that nothing binds. `holds p w xs`: the predicate p is true of
-- these elements at w
pub record Model (W E : Type 0) : Type 0 where
  pub is_world : W → Bool
  pub root : W
  pub reaches : W → W → Bool
  pub is_in : W → E → Bool
  pub element : E
  pub value : ℕ → List E → E
  pub holds : ℕ → W → List E → Bool
  pub truth : (Term → E) → Formula → List E → W → Bool

abbrev pub IsWorld : {W E : Type 0} → Model W E → W → Type 0
IsWorld M w = IsTrue (M.is_world w)

-- v is a successor of w
abbrev pub Reaches : {W E : Type 0} → Model W E → W → W → Type 0
Reaches M w v = IsTrue (M.reaches w v)

-- x lies in the domain of w
abbrev pub IsIn : {W E : Type 0} → Model W E → W → E → Type 0
IsIn M w x = IsTrue (M.is_in w x)

abbrev pub AllIn : {W E : Type 0} → Model W E → W → List E → Type 0
AllIn M w [] = Unit {0}
AllIn M w (x ∷ xs) = IsIn M w x × AllIn M w xs

-- ---- truth

-- the value of a term, with elements for its names and variables, the innermost quantifier's first
abbrev mutual
  pub value_by : {W E : Type 0} → Model W E → (Term → E) → List E → Term → E
  value_by M names env (var k) = get_or env k M.element
  value_by M names env (fun f ts) = M.value f (values_by M names env ts)
  value_by M names env (eigen n) = names (eigen n)
  value_by M names env (spare n) = names (spare n)

  pub values_by : {W E : Type 0} → Model W E → (Term → E) → List E → Terms → List E
  values_by M names env no_terms = []
  values_by M names env (more_terms t ts) = value_by M names env t ∷ values_by M names env ts

-- what it means that 'each x of the kind passes the test' is true, and that it is false
abbrev pub ForAll : {A : Type 0} → (A → Bool) → (A → Bool) → Bool → Type 0
ForAll {A} kind test true = (x : A) → IsTrue (kind x) → test x ≡ true
ForAll {A} kind test false = (x : A) × IsTrue (kind x) × (test x ≡ false)

-- the same for 'some x of the kind passes the test'
abbrev pub ForSome : {A : Type 0} → (A → Bool) → (A → Bool) → Bool → Type 0
ForSome {A} kind test true = (x : A) × IsTrue (kind x) × (test x ≡ true)
ForSome {A} kind test false = (x : A) → IsTrue (kind x) → test x ≡ false

-- in intuitionistic logic at all successors, else here
abbrev pub FromHere : {W E : Type 0} → Logic → Model W E → W → (W → Bool) → Bool → Type 0
FromHere Intuitionistic M w test b = ForAll (M.reaches w) test b
FromHere _ M w test b = b ≡ test w

-- for each element of the domain: in intuitionistic logic at all successors, else here
abbrev pub EachElement :
    {W E : Type 0} → Logic → Model W E → W → (W → E → Bool) → Bool → Type 0
EachElement {W} {E} Intuitionistic M w test b =
    ForAll {A = W × E} (λ p. M.reaches w p.0 && M.is_in p.0 p.1) (λ p. test p.0 p.1) b
EachElement _ M w test b = ForAll (M.is_in w) (test w) b

-- what the truth value of a formula at a world says of its parts
abbrev pub TruthAt :
    {W E : Type 0} → Logic → Model W E → (Term → E) → Formula → List E → W → Bool → Type 0
TruthAt l M names (atom p ts) env w b =
    FromHere l M w (λ v. M.holds p v (values_by M names env ts)) b
TruthAt l M names (neg a) env w b = FromHere l M w (λ v. not (M.truth names a env v)) b
TruthAt l M names (conj a c) env w b = b ≡ (M.truth names a env w && M.truth names c env w)
TruthAt l M names (disj a c) env w b = b ≡ (M.truth names a env w || M.truth names c env w)
TruthAt l M names (imp a c) env w b =
    FromHere l M w (λ v. not (M.truth names a env v) || M.truth names c env v) b
TruthAt l M names (all a) env w b = EachElement l M w (λ v x. M.truth names a (x ∷ env) v) b
TruthAt l M names (ex a) env w b = ForSome (M.is_in w) (λ x. M.truth names a (x ∷ env) w) b
TruthAt l M names (box a) env w b = ForAll (M.reaches w) (λ v. M.truth names a env v) b
TruthAt l M names (dia a) env w b = ForSome (M.reaches w) (λ v. M.truth names a env v) b

abbrev pub HasTruth : {W E : Type 0} → Logic → Model W E → Type 0
HasTruth {W} {E} l M =
    (names : Term → E) (a : Formula) (env : List E) (w : W)
    → TruthAt l M names a env w (M.truth names a env w)

-- ---- the conditions

abbrev pub IsReflexive : {W E : Type 0} → Model W E → Type 0
IsReflexive {W} M = (w : W) → IsWorld M w → Reaches M w w

abbrev pub IsTransitive : {W E : Type 0} → Model W E → Type 0
IsTransitive {W} M =
    (w v u : W) → IsWorld M w → Reaches M w v → Reaches M v u → Reaches M w u

-- one world; a successor of each world in D; in S5 all worlds are related
abbrev pub RelationFits : {W E : Type 0} → Logic → Model W E → Type 0
RelationFits {W} Classical M =
    IsReflexive M × ((w v : W) → IsWorld M w → IsWorld M v → w ≡ v)
RelationFits Intuitionistic M = IsReflexive M × IsTransitive M
RelationFits {W} D M = (w : W) → IsWorld M w → (v : W) × Reaches M w v
RelationFits LogicT M = IsReflexive M
RelationFits S4 M = IsReflexive M × IsTransitive M
RelationFits {W} S5 M = (w v : W) → IsWorld M w → IsWorld M v → Reaches M w v

-- constant domains have the same elements, cumulative ones grow along the relation
abbrev pub DomainsFit : {W E : Type 0} → Domains → Model W E → Type 0
DomainsFit {W} {E} Constant M =
    (w v : W) (x : E) → IsWorld M w → IsWorld M v → IsIn M w x → IsIn M v x
DomainsFit {W} {E} Cumulative M =
    (w v : W) (x : E) → IsWorld M w → Reaches M w v → IsIn M w x → IsIn M v x
DomainsFit Varying M = Unit {0}

-- A structure of the problem's setting. No domain is empty, and each function keeps each domain; so
-- constants lie in every one. In intuitionistic logic nothing is asked of predicates: an atom is
-- true where it holds at all successors
pub record IsModel {W E : Type 0} (P : Problem) (M : Model W E) : Type 0 where
  pub root : IsWorld M M.root
  pub successors : (w v : W) → IsWorld M w → Reaches M w v → IsWorld M v
  pub inhabited : (w : W) → IsWorld M w → (x : E) × IsIn M w x
  pub relation : RelationFits P.setting.logic M
  pub domains : DomainsFit P.setting.domains M
  pub functions :
      (f : ℕ) (xs : List E) → IsTrue (has_function P.symbols f (length xs))
      → (w : W) → IsWorld M w → AllIn M w xs → IsIn M w (M.value f xs)
  pub truth : HasTruth P.setting.logic M
