-- What is read off of a tree: by own spares its literals and instances, and the choices by which goals are closed.
use Rattle.std.specs.Prelude.{◌≡◌, ℕ, List, [], ◌∷◌, ◌++◌, map, ⊤}
use Rattle.std.specs.List.{AllByRecursion}
use Rattle.calculus.specs.Choices.{Choice, extension, reduction}
use Rattle.calculus.specs.Ground as tree
use Rattle.calculus.specs.Instances as instances
use Rattle.calculus.specs.Tableaux as tableaux
use Rattle.calculus.specs.Lists.{g_terms_tree}
use Rattle.formula_core.specs.GroundLists.{GroundList, the_terms, the_marks, the_values, AreNormalTerms, AreNormalMarks, AreNormalValues}
use Rattle.formula_core.specs.declared.ground.GroundTerms.{GroundTerms}
use Rattle.formula_core.specs.declared.ground.GroundLabel.{GroundLabel}
use Rattle.formula_core.specs.declared.ground.Values.{Values}
use Rattle.tableau_core.specs.Numbered.ClosingView.{the_closing, closing_in}
use Rattle.tableau_core.specs.Numbered.Closings as numbered
use Rattle.tableau_core.specs.Numbered.InstanceView.{the_instance}
use Rattle.tableau_core.specs.Numbered.LiteralView.{the_literal}
use Rattle.tableau_core.specs.declared.closing.Closing.{Closing}
use Rattle.tableau_core.specs.declared.instance.ClauseInstance.{ClauseInstance}
use Rattle.tableau_core.specs.declared.literal.GroundLiteral.{GroundLiteral}
use Rattle.search_tree.specs.declared.tree.Copied.{Copied}
use Rattle.search_tree.specs.declared.tree.Step.{Step}
use Rattle.search_tree.specs.declared.tree.Step.TheVariants.{Start, Reduce, Extend}

-- ---- literals and instances

-- the list stands for these terms, whatever is added to the table
pub record AreTermsOf (ls : List GroundList) (n : GroundTerms) (ts : tree.GroundTerms) : Type 0 where
  pub normal : AreNormalTerms ls n
  pub value : g_terms_tree (the_terms ls n) ≡ ts

pub record AreMarksOf (ls : List GroundList) (n : GroundLabel) (w : List tree.GroundMark) : Type 0 where
  pub normal : AreNormalMarks ls n
  pub value : the_marks ls n ≡ w

pub record AreValuesOf (ls : List GroundList) (n : Values) (vs : List tree.Value) : Type 0 where
  pub normal : AreNormalValues ls n
  pub value : the_values ls n ≡ vs

pub record IsLiteralOf (ls : List GroundList) (x : GroundLiteral) (y : tree.GroundLiteral) : Type 0 where
  pub args : AreNormalTerms ls x.args
  pub label : AreNormalMarks ls x.label
  pub value : the_literal ls x ≡ y

-- what it stands for stays as the table grows
abbrev pub IsNormalLiteral : List GroundList → GroundLiteral → Type 0
IsNormalLiteral ls x = AreNormalTerms ls x.args × AreNormalMarks ls x.label

abbrev pub IsNormalInstance : List GroundList → ClauseInstance → Type 0
IsNormalInstance ls i = AreNormalValues ls i.values × AllByRecursion (IsNormalLiteral ls) i.literals

pub record AreLiteralsOf (ls : List GroundList) (xs : List GroundLiteral) (ys : List tree.GroundLiteral) : Type 0 where
  pub normal : AllByRecursion (IsNormalLiteral ls) xs
  pub value : map (the_literal ls) xs ≡ ys

pub record IsInstanceOf (ls : List GroundList) (i : ClauseInstance) (j : instances.ClauseInstance) : Type 0 where
  pub normal : IsNormalInstance ls i
  pub value : the_instance ls i ≡ j

-- ---- closings

abbrev mutual
  pub IsNormalClosing : List GroundList → numbered.Closing → Type 0
  IsNormalClosing ls (numbered.reduce up) = ⊤
  IsNormalClosing ls (numbered.extend i place below) = IsNormalInstance ls i × AreNormalClosings ls below

  pub AreNormalClosings : List GroundList → numbered.Closings → Type 0
  AreNormalClosings ls numbered.no_closings = ⊤
  AreNormalClosings ls (numbered.more_closings c cs) = IsNormalClosing ls c × AreNormalClosings ls cs

pub record AreClosingsOf (ls : List GroundList) (cs : List numbered.Closing) (ds : List tableaux.Closing) : Type 0 where
  pub normal : AllByRecursion (IsNormalClosing ls) cs
  pub value : map (closing_in ls) cs ≡ ds

-- ---- choices

-- the choices by which the goal is closed
abbrev mutual
  pub closing_names : numbered.Closing → List Choice
  closing_names (numbered.reduce up) = reduction up ∷ []
  closing_names (numbered.extend i place below) = extension i.selection place ∷ closings_names below

  pub closings_names : numbered.Closings → List Choice
  closings_names numbered.no_closings = []
  closings_names (numbered.more_closings c cs) = closing_names c ++ closings_names cs

-- the closings on the stack, the top first, and then others
abbrev pub stacked_on : List Closing → List numbered.Closing → List numbered.Closing
stacked_on [] others = others
stacked_on (c ∷ cs) others = stacked_on cs (the_closing c ∷ others)

abbrev pub stacked : List Closing → List numbered.Closing
stacked items = stacked_on items []

abbrev pub names_in : List numbered.Closing → List Choice
names_in [] = []
names_in (c ∷ cs) = closing_names c ++ names_in cs

-- the choices by which the goals on the stack are closed
abbrev pub stacked_names : List Closing → List Choice
stacked_names items = names_in (stacked items)

-- no choice of a start
abbrev pub IsInner : Step → Type 0
IsInner (Start c) = ⊥
IsInner (Reduce goal up ancestor) = ⊤
IsInner (Extend goal c place atom) = ⊤

-- the first choice starts the tree, and no other does
abbrev pub IsStarted : List Step → Type 0
IsStarted [] = ⊥
IsStarted (Start c ∷ steps) = AllByRecursion IsInner steps
IsStarted (Reduce goal up ancestor ∷ steps) = ⊥
IsStarted (Extend goal c place atom ∷ steps) = ⊥

-- it starts with this clause, and these are the other choices
abbrev pub IsStartedBy : List Step → Copied → List Step → Type 0
IsStartedBy steps c others = steps ≡ Start c ∷ others
