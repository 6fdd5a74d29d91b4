-- The numbers of names, and what the terms, labels and formulas of a tableau are in its derivation.
use Rattle.std.specs.Prelude.{◌≡◌, ◌↔◌, ℕ, suc, ◌-◌, ◌<◌, ◌≤◌, List, [], ◌∷◌, map, Bool, false, Option, Some, None, unwrap_or, Contains, slice_get, slice_index_or, nat_lt, if◌then◌else◌}
use Rattle.calculus.specs.declared.sign.Sign.{Sign}
use Rattle.calculus.specs.Syntax.{Term, Terms, var, fun, eigen, spare, no_terms, more_terms, Formula, atom, neg, conj, disj, imp, all, ex, box, dia, Problem}
use Rattle.calculus.specs.Ground.{GroundTerm, GroundTerms, GroundMark, Marks, Values, g_fun, g_eigen, common, own, no_g_terms, more_g_terms, g_new_mark, g_spare_mark, marks_list, values_list}
use Rattle.calculus.specs.Equality.{ground_eq, mark_eq}
use Rattle.calculus.specs.Skolem.{label_of}
use Rattle.calculus.specs.Instances.{Spot}
use Rattle.calculus.specs.Tableaux.{Tableau}
use Rattle.conversion_theory.specs.Turns.{Name, term_name, mark_name, names_of_marks, names_of_values, names_of_tableau}
use Rattle.calculus.specs.Derivations.{Mark, new_mark, spare_mark, Label, Entry, anywhere, home_at, EigenName, SpareName, Names}

-- ---- numbers

abbrev pub name_eq : Name → Name → Bool
name_eq (term_name t) (term_name u) = ground_eq t u
name_eq (mark_name m) (mark_name n) = mark_eq m n
name_eq _ _ = false

-- the names in the values, or in the label, that a name holds
abbrev pub names_inside : Name → List Name
names_inside (term_name (g_eigen p vs)) = names_of_values vs
names_inside (term_name (own k w)) = names_of_marks w
names_inside (term_name t) = []
names_inside (mark_name (g_new_mark p vs)) = names_of_values vs
names_inside (mark_name (g_spare_mark k)) = []

-- the list holds each name of the tableau once and nothing else, each after the names inside it
pub record IsNumbering (P : Problem) (t : Tableau) (names : List Name) : Type 0 where
  pub all : (n : Name) → Contains (names_of_tableau P t) n ↔ Contains names n
  pub once : (i j : ℕ) (n : Name) → slice_get names i ≡ Some n → slice_get names j ≡ Some n → i ≡ j
  pub inside : (i : ℕ) (n m : Name) → slice_get names i ≡ Some n → Contains (names_inside n) m → (j : ℕ) × (j < i) × (slice_get names j ≡ Some m)

-- the place of a name in the list, whose first one has the number k
abbrev pub place_from : ℕ → List Name → Name → Option ℕ
place_from k [] n = None
place_from k (m ∷ ms) n = if name_eq n m then Some k else place_from (suc k) ms n

-- a name's number is its place in the list, counted from 1
abbrev pub number_in : List Name → Name → Option ℕ
number_in names n = place_from 1 names n

-- 0 where it has none
abbrev pub number_of : List Name → Name → ℕ
number_of names n = unwrap_or (number_in names n) 0

-- different names have different numbers, from 1; a name has none exactly where the tableau does not mention it; and the names inside a
-- name have lower numbers
pub record NumbersTell (P : Problem) (t : Tableau) (names : List Name) : Type 0 where
  pub apart : (n m : Name) (k : ℕ) → number_in names n ≡ Some k → number_in names m ≡ Some k → n ≡ m
  pub from_one : (n : Name) (k : ℕ) → number_in names n ≡ Some k → 1 ≤ k
  pub mentioned : (n : Name) → (number_in names n ≡ None) ↔ (Contains (names_of_tableau P t) n → ⊥)
  pub inside : (n m : Name) (k : ℕ) → number_in names n ≡ Some k → Contains (names_inside n) m → (j : ℕ) × (number_in names m ≡ Some j) × (j < k)

-- ---- terms, labels and homes by the numbers of their names

abbrev pub numbered_mark : (Name → ℕ) → GroundMark → Mark
numbered_mark num (g_new_mark p vs) = new_mark (num (mark_name (g_new_mark p vs)))
numbered_mark num (g_spare_mark k) = spare_mark (num (mark_name (g_spare_mark k)))

abbrev pub numbered_label : (Name → ℕ) → List GroundMark → Label
numbered_label num w = map (numbered_mark num) w

abbrev mutual
  pub numbered_term : (Name → ℕ) → GroundTerm → Term
  numbered_term num (g_fun f ts) = fun f (numbered_terms num ts)
  numbered_term num (g_eigen p vs) = eigen (num (term_name (g_eigen p vs)))
  numbered_term num (common k) = spare (num (term_name (common k)))
  numbered_term num (own k w) = spare (num (term_name (own k w)))

  pub numbered_terms : (Name → ℕ) → GroundTerms → Terms
  numbered_terms num no_g_terms = no_terms
  numbered_terms num (more_g_terms t ts) = more_terms (numbered_term num t) (numbered_terms num ts)

-- the home of an eigenvariable, and that of a spare constant
abbrev pub eigen_home : (Name → ℕ) → Problem → ℕ → Values → Label
eigen_home num P p vs = numbered_label num (label_of P p (values_list vs))

abbrev pub eigen_name : (Name → ℕ) → Problem → ℕ → Values → EigenName
eigen_name num P p vs = record { number = num (term_name (g_eigen p vs)); home = eigen_home num P p vs }

abbrev pub common_name : (Name → ℕ) → ℕ → SpareName
common_name num k = record { number = num (term_name (common k)); home = anywhere }

abbrev pub own_name : (Name → ℕ) → ℕ → Marks → SpareName
own_name num k w = record { number = num (term_name (own k w)); home = home_at (numbered_label num (marks_list w)) }

-- the name lines of a list of names, in its order
abbrev pub eigen_names : (Name → ℕ) → Problem → List Name → List EigenName
eigen_names num P [] = []
eigen_names num P (term_name (g_eigen p vs) ∷ ns) = eigen_name num P p vs ∷ eigen_names num P ns
eigen_names num P (n ∷ ns) = eigen_names num P ns

abbrev pub spare_names : (Name → ℕ) → List Name → List SpareName
spare_names num [] = []
spare_names num (term_name (common k) ∷ ns) = common_name num k ∷ spare_names num ns
spare_names num (term_name (own k w) ∷ ns) = own_name num k w ∷ spare_names num ns
spare_names num (n ∷ ns) = spare_names num ns

abbrev pub name_lines_of : (Name → ℕ) → Problem → List Name → Names
name_lines_of num P names = record { eigens = eigen_names num P names; spares = spare_names num names }

-- ---- the entries of a branch

-- the term of a variable that is free behind d quantifiers
abbrev pub variable_by : (Name → ℕ) → ℕ → List GroundTerm → ℕ → Term
variable_by num d env k = if nat_lt k d then var k else numbered_term num (slice_index_or env (k - d) (common 0))

abbrev mutual
  pub term_by : (Name → ℕ) → ℕ → List GroundTerm → Term → Term
  term_by num d env (var k) = variable_by num d env k
  term_by num d env (fun f ts) = fun f (terms_by num d env ts)
  term_by num d env (eigen n) = eigen n
  term_by num d env (spare n) = spare n

  pub terms_by : (Name → ℕ) → ℕ → List GroundTerm → Terms → Terms
  terms_by num d env no_terms = no_terms
  terms_by num d env (more_terms t ts) = more_terms (term_by num d env t) (terms_by num d env ts)

-- ground terms put for the variables that are free behind d quantifiers, the innermost quantifier's first
abbrev pub formula_by : (Name → ℕ) → ℕ → List GroundTerm → Formula → Formula
formula_by num d env (atom p ts) = atom p (terms_by num d env ts)
formula_by num d env (neg a) = neg (formula_by num d env a)
formula_by num d env (conj a b) = conj (formula_by num d env a) (formula_by num d env b)
formula_by num d env (disj a b) = disj (formula_by num d env a) (formula_by num d env b)
formula_by num d env (imp a b) = imp (formula_by num d env a) (formula_by num d env b)
formula_by num d env (all a) = all (formula_by num (suc d) env a)
formula_by num d env (ex a) = ex (formula_by num (suc d) env a)
formula_by num d env (box a) = box (formula_by num d env a)
formula_by num d env (dia a) = dia (formula_by num d env a)

-- the entry of a signed formula of the problem that stands at a spot
abbrev pub entry_by : (Name → ℕ) → Spot → Sign → Formula → Entry
entry_by num c s f = record { sign = s; formula = formula_by num 0 c.env f; label = numbered_label num c.label }
