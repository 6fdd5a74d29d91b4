-- A table of ground lists: each list names lists before it by their numbers. A number that is not that of a list of the kind that is
-- asked for, or of none, stands for the empty list.
use Rattle.std.specs.Prelude.{◌≡◌, ℕ, ◌≤◌, ◌+◌, List, [], ◌∷◌, ◌++◌, map, length}
use Rattle.std.specs.List.{AllByRecursion}
use Rattle.std.proofs.Common.{get_or}
use Rattle.calculus.specs.Ground as tree
use Rattle.calculus.specs.Lists.{g_terms_tree}
use Rattle.formula_core.specs.declared.ground.GroundTerms.{GroundTerms}
use Rattle.formula_core.specs.declared.ground.GroundLabel.{GroundLabel}
use Rattle.formula_core.specs.declared.ground.Values.{Values}
use Rattle.formula_core.specs.declared.ground.GroundTerm.{GroundTerm}
use Rattle.formula_core.specs.declared.ground.GroundTerm.TheVariants as term
use Rattle.formula_core.specs.declared.ground.GroundMark.{GroundMark}
use Rattle.formula_core.specs.declared.ground.GroundMark.TheVariants as mark
use Rattle.formula_core.specs.declared.ground.Value.{Value}
use Rattle.formula_core.specs.declared.ground.Value.TheVariants as value

-- a list of one of the three kinds
pub data GroundList : Type 0 where
  of_terms : List tree.GroundTerm → GroundList
  of_marks : List tree.GroundMark → GroundList
  of_values : List tree.Value → GroundList

abbrev pub terms_in : GroundList → List tree.GroundTerm
terms_in (of_terms ts) = ts
terms_in _ = []

abbrev pub marks_in : GroundList → List tree.GroundMark
marks_in (of_marks ms) = ms
marks_in _ = []

abbrev pub values_in : GroundList → List tree.Value
values_in (of_values vs) = vs
values_in _ = []

-- the lists of these numbers
abbrev pub list_at : List GroundList → ℕ → GroundList
list_at ls k = get_or ls k (of_terms [])

abbrev pub the_terms : List GroundList → GroundTerms → List tree.GroundTerm
the_terms ls n = terms_in (list_at ls n.0)

abbrev pub the_marks : List GroundList → GroundLabel → List tree.GroundMark
the_marks ls n = marks_in (list_at ls n.0)

abbrev pub the_values : List GroundList → Values → List tree.Value
the_values ls n = values_in (list_at ls n.0)

-- the ground terms, characters and values of the calculus that those of the program stand for
abbrev pub the_g_term : List GroundList → GroundTerm → tree.GroundTerm
the_g_term ls (term.Fun f ts) = tree.g_fun f.0 (g_terms_tree (the_terms ls ts))
the_g_term ls (term.Eigen p vs) = tree.g_eigen p.0 (tree.values_tree (the_values ls vs))
the_g_term ls (term.Common k) = tree.common k
the_g_term ls (term.Own k w) = tree.own k (tree.marks_tree (the_marks ls w))

abbrev pub the_mark : List GroundList → GroundMark → tree.GroundMark
the_mark ls (mark.New p vs) = tree.g_new_mark p.0 (tree.values_tree (the_values ls vs))
the_mark ls (mark.Spare k) = tree.g_spare_mark k

abbrev pub the_value : List GroundList → Value → tree.Value
the_value ls (value.Term t) = tree.term (the_g_term ls t)
the_value ls (value.Steps w) = tree.steps (tree.marks_tree (the_marks ls w))

-- the number of the empty list: a table has fewer lists
abbrev pub no_list : ℕ
no_list = 4294967295

-- the empty list has one number alone
abbrev pub IsNormal : {A : Type 0} → List A → ℕ → Type 0
IsNormal xs k = xs ≡ [] → k ≡ no_list

abbrev pub AreNormalTerms : List GroundList → GroundTerms → Type 0
AreNormalTerms ls n = IsNormal (the_terms ls n) n.0

abbrev pub AreNormalMarks : List GroundList → GroundLabel → Type 0
AreNormalMarks ls n = IsNormal (the_marks ls n) n.0

abbrev pub AreNormalValues : List GroundList → Values → Type 0
AreNormalValues ls n = IsNormal (the_values ls n) n.0

abbrev pub IsNormalTerm : List GroundList → GroundTerm → Type 0
IsNormalTerm ls (term.Fun f ts) = AreNormalTerms ls ts
IsNormalTerm ls (term.Eigen p vs) = AreNormalValues ls vs
IsNormalTerm ls (term.Common k) = k ≡ k
IsNormalTerm ls (term.Own k w) = AreNormalMarks ls w

abbrev pub IsNormalMark : List GroundList → GroundMark → Type 0
IsNormalMark ls (mark.New p vs) = AreNormalValues ls vs
IsNormalMark ls (mark.Spare k) = k ≡ k

abbrev pub IsNormalValue : List GroundList → Value → Type 0
IsNormalValue ls (value.Term t) = IsNormalTerm ls t
IsNormalValue ls (value.Steps w) = AreNormalMarks ls w

-- a list that is not empty has a lower number than n
abbrev pub IsLower : {A : Type 0} → List A → ℕ → ℕ → Type 0
IsLower xs k n = n ≤ k → xs ≡ []

-- the lists that a term, a character or a value names do
abbrev pub IsLowerTerm : List GroundList → ℕ → GroundTerm → Type 0
IsLowerTerm ls n (term.Fun f ts) = IsLower (the_terms ls ts) ts.0 n
IsLowerTerm ls n (term.Eigen p vs) = IsLower (the_values ls vs) vs.0 n
IsLowerTerm ls n (term.Common k) = k ≡ k
IsLowerTerm ls n (term.Own k w) = IsLower (the_marks ls w) w.0 n

abbrev pub IsLowerMark : List GroundList → ℕ → GroundMark → Type 0
IsLowerMark ls n (mark.New p vs) = IsLower (the_values ls vs) vs.0 n
IsLowerMark ls n (mark.Spare k) = k ≡ k

abbrev pub IsLowerValue : List GroundList → ℕ → Value → Type 0
IsLowerValue ls n (value.Term t) = IsLowerTerm ls n t
IsLowerValue ls n (value.Steps w) = IsLower (the_marks ls w) w.0 n

-- the lists of one table stand at the same places in another
pub record IsGrown (before after : List GroundList) : Type 0 where
  pub added : List GroundList
  pub grown : after ≡ before ++ added
  pub most : length after ≤ no_list
