-- The text of a finite structure, what is wrong with bytes that are none or state no structure of the problem's setting, and what the
-- bytes say of the problem's formula. Worlds and elements are numbered from 0 in a structure, and from 1 in its text.
use Rattle.std.specs.Prelude.{◌⊎◌, ℕ, suc, ◌+◌, ◌^◌, List, [], ◌∷◌, ◌++◌, length, map, Bool, true, false, not, ◌&&◌, ◌||◌, ◌==◌, Option, Some, None, nat_le, codes, decimal, if◌then◌else◌}
use Rattle.std.specs.List.{list_all, flat_map}
use Rattle.calculus.specs.declared.limits.TheConstants.{MAX_TABLE_ENTRIES}
use Rattle.calculus.specs.declared.setting.Logic.{Logic}
use Rattle.calculus.specs.declared.setting.Logic.TheVariants.{Classical, Intuitionistic, D, T as LogicT, S4, S5}
use Rattle.calculus.specs.declared.setting.Domains.{Domains}
use Rattle.calculus.specs.declared.setting.Domains.TheVariants.{Constant, Cumulative, Varying}
use Rattle.calculus.specs.declared.fault.StructureCause.{StructureCause}
use Rattle.calculus.specs.declared.fault.StructureCause.TheVariants as cause
use Rattle.calculus.specs.Syntax.{Symbol, Problem}
use Rattle.calculus.specs.Equality.{contains}
use Rattle.calculus.specs.Skolem.{is_function}
use Rattle.calculus.specs.Text.{symbol_text}
use Rattle.calculus.specs.FirstWrong.{TextKind, IsTextOf, Causes, IsWrongText, IsJudgedText}
use Rattle.calculus.specs.DerivationText.{setting_text, rises_from}
use Rattle.calculus.specs.Structures.{Meaning, Structure, value_table, truth_tables, successors_of, domain_of, predicate_value, numbers_from, worlds, includes, tuples, has_element, are_tables, is_in_range, keeps_domains, is_true}

-- ---- the text

-- numbers from 0, written from 1, with a space before each
abbrev pub numbers_text : List ℕ → List ℕ
numbers_text xs = flat_map (λ x. 32 ∷ decimal (suc x)) xs

-- a line for each world, from world w on
abbrev pub world_lines : List ℕ → ℕ → List (List ℕ) → List (List ℕ)
world_lines word w [] = []
world_lines word w (xs ∷ rest) = (word ++ decimal (suc w) ++ numbers_text xs) ∷ world_lines word (suc w) rest

-- the name and the arity
abbrev pub symbol_head : Symbol → List ℕ
symbol_head s = symbol_text s ++ codes " " ++ decimal s.arity

abbrev pub function_lines : List Symbol → List Meaning → List (List ℕ)
function_lines (s ∷ ss) (value_table vs ∷ ms) = (codes "function " ++ symbol_head s ++ numbers_text vs) ∷ function_lines ss ms
function_lines (s ∷ ss) (truth_tables rows ∷ ms) = function_lines ss ms
function_lines _ _ = []

abbrev pub bit_text : Bool → ℕ
bit_text true = 49
bit_text false = 48

-- a line for each world, from world w on
abbrev pub row_lines : Symbol → ℕ → List (List Bool) → List (List ℕ)
row_lines s w [] = []
row_lines s w (row ∷ rows) = (codes "predicate " ++ symbol_head s ++ codes " " ++ decimal (suc w) ++ codes " " ++ map bit_text row) ∷ row_lines s (suc w) rows

abbrev pub predicate_lines : List Symbol → List Meaning → List (List ℕ)
predicate_lines (s ∷ ss) (value_table vs ∷ ms) = predicate_lines ss ms
predicate_lines (s ∷ ss) (truth_tables rows ∷ ms) = row_lines s 0 rows ++ predicate_lines ss ms
predicate_lines _ _ = []

abbrev pub structure_head : Problem → Structure → List (List ℕ)
structure_head P S = codes "leancop structure 1" ∷ (codes "logic " ++ setting_text P.setting) ∷ (codes "worlds " ++ decimal (length S.successors)) ∷ (codes "elements " ++ decimal S.elements) ∷ []

abbrev pub structure_lines : Problem → Structure → List (List ℕ)
structure_lines P S = structure_head P S ++ world_lines (codes "relation ") 0 S.successors ++ world_lines (codes "domain ") 0 S.domains ++ function_lines P.symbols S.meanings ++ predicate_lines P.symbols S.meanings ++ codes "end" ∷ []

-- ---- which structures can be written

abbrev pub is_size : ℕ → Bool
is_size n = nat_le 1 n && nat_le n 64

abbrev pub fits_table : ℕ → Symbol → Bool
fits_table elements s = nat_le (elements ^ s.arity) MAX_TABLE_ENTRIES

abbrev pub rises : List ℕ → Bool
rises xs = rises_from 0 (map suc xs)

-- the sizes are within their bounds, there is a list for each world, rising and within range, and a table of the right size for each symbol
abbrev pub can_be_stated : Problem → Structure → Bool
can_be_stated P S =
    is_size (length S.successors) && is_size S.elements && list_all (fits_table S.elements) P.symbols
    && (is_in_range S && list_all rises S.successors && list_all rises S.domains)
    && are_tables S P.symbols S.meanings

abbrev pub structure_texts : Problem → TextKind Structure
structure_texts P = record { printable = can_be_stated P; lines = structure_lines P }

-- the bytes are the text of the structure, which need not be one of the problem's setting
abbrev pub IsStructureText : Problem → Structure → List ℕ → Type 0
IsStructureText P S bytes = IsTextOf (structure_texts P) S bytes

abbrev pub structure_causes : Causes StructureCause
structure_causes = record { head = cause.Version ∷ cause.Setting ∷ cause.Size ∷ cause.Size ∷ []; after_end = cause.TextAfterEnd; behind_head = λ before next. cause.Line }

-- ---- the conditions of a setting, in the order in which they are judged

-- a condition, the line at which it is broken, and whether it holds
pub record Condition : Type 0 where
  pub line : ℕ
  pub cause : StructureCause
  pub holds : Bool

abbrev pub relation_line : ℕ → ℕ
relation_line w = 5 + w

abbrev pub domain_line : Structure → ℕ → ℕ
domain_line S w = 5 + length S.successors + w

abbrev pub first_function_line : Structure → ℕ
first_function_line S = 5 + length S.successors + length S.domains

abbrev pub first_predicate_line : Problem → Structure → ℕ
first_predicate_line P S = first_function_line S + length (function_lines P.symbols S.meanings)

-- one condition for each world
abbrev pub at_worlds : Structure → (ℕ → ℕ) → StructureCause → (ℕ → Bool) → List Condition
at_worlds S line c test = map (λ w. record { line = line w; cause = c; holds = test w }) (worlds S)

-- each successor of a successor is a successor
abbrev pub is_transitive_at : Structure → ℕ → Bool
is_transitive_at S w = list_all (λ v. includes (successors_of S w) (successors_of S v)) (successors_of S w)

abbrev pub serial_conditions : Structure → List Condition
serial_conditions S = at_worlds S relation_line cause.Serial (λ w. has_element (successors_of S w))

abbrev pub reflexive_conditions : Structure → List Condition
reflexive_conditions S = at_worlds S relation_line cause.Reflexive (λ w. contains (successors_of S w) w)

abbrev pub transitive_conditions : Structure → List Condition
transitive_conditions S = at_worlds S relation_line cause.Transitive (is_transitive_at S)

abbrev pub total_conditions : Structure → List Condition
total_conditions S = at_worlds S relation_line cause.Total (λ w. includes (successors_of S w) (worlds S))

abbrev pub relation_conditions : Logic → Structure → List Condition
relation_conditions Classical S = reflexive_conditions S ++ record { line = 3; cause = cause.Worlds; holds = length S.successors == 1 } ∷ []
relation_conditions Intuitionistic S = reflexive_conditions S ++ transitive_conditions S
relation_conditions D S = serial_conditions S
relation_conditions LogicT S = reflexive_conditions S
relation_conditions S4 S = reflexive_conditions S ++ transitive_conditions S
relation_conditions S5 S = total_conditions S

abbrev pub domain_conditions : Domains → Structure → List Condition
domain_conditions Constant S = at_worlds S (domain_line S) cause.Domains (λ w. includes (domain_of S w) (domain_of S 0) && includes (domain_of S 0) (domain_of S w))
domain_conditions Cumulative S = at_worlds S (domain_line S) cause.Domains (λ w. list_all (λ v. includes (domain_of S v) (domain_of S w)) (successors_of S w))
domain_conditions Varying S = []

-- for each function symbol, of which the first one here is symbol k and stands in this line
abbrev pub function_conditions : Structure → ℕ → ℕ → List Symbol → List Condition
function_conditions S line k [] = []
function_conditions S line k (s ∷ ss) = if is_function s.class then record { line = line; cause = cause.Function; holds = keeps_domains S k s.arity } ∷ function_conditions S (suc line) (suc k) ss else function_conditions S line (suc k) ss

-- what is true at w is true at each successor
abbrev pub persists_at : Structure → ℕ → ℕ → ℕ → Bool
persists_at S p n w = list_all (λ v. list_all (λ xs. not (predicate_value S p w xs) || predicate_value S p v xs) (tuples n (numbers_from 0 S.elements))) (successors_of S w)

-- for each predicate symbol and world
abbrev pub persistence_conditions_from : Structure → ℕ → ℕ → List Symbol → List Condition
persistence_conditions_from S line k [] = []
persistence_conditions_from S line k (s ∷ ss) = if is_function s.class then persistence_conditions_from S line (suc k) ss else at_worlds S (λ w. line + w) cause.Persistence (persists_at S k s.arity) ++ persistence_conditions_from S (line + length S.successors) (suc k) ss

abbrev pub persistence_conditions : Logic → Structure → ℕ → List Symbol → List Condition
persistence_conditions Intuitionistic S line symbols = persistence_conditions_from S line 0 symbols
persistence_conditions _ S line symbols = []

abbrev pub conditions : Problem → Structure → List Condition
conditions P S =
    at_worlds S (domain_line S) cause.EmptyDomain (λ w. has_element (domain_of S w))
    ++ relation_conditions P.setting.logic S
    ++ domain_conditions P.setting.domains S
    ++ function_conditions S (first_function_line S) 0 P.symbols
    ++ persistence_conditions P.setting.logic S (first_predicate_line P S) P.symbols

-- the first condition that is broken
abbrev pub first_broken : List Condition → Option Condition
first_broken [] = None
first_broken (c ∷ cs) = if c.holds then first_broken cs else Some c

-- ---- what the bytes of a structure say

pub data StructureVerdict : Type 0 where
  true_at_root : StructureVerdict
  false_at_root : StructureVerdict
  bad_structure : ℕ → StructureCause → StructureVerdict

abbrev pub truth_verdict : Bool → StructureVerdict
truth_verdict true = true_at_root
truth_verdict false = false_at_root

-- the verdict on a structure that can be stated
abbrev pub verdict_after_conditions : Problem → Structure → Option Condition → StructureVerdict
verdict_after_conditions P S None = truth_verdict (is_true P S)
verdict_after_conditions P S (Some c) = bad_structure c.line c.cause

abbrev pub structure_verdict : Problem → Structure → StructureVerdict
structure_verdict P S = verdict_after_conditions P S (first_broken (conditions P S))

abbrev pub IsStructureJudgement : Problem → List ℕ → StructureVerdict → Type 0
IsStructureJudgement P bytes v = IsWrongText (structure_texts P) structure_causes bad_structure bytes v ⊎ IsJudgedText (structure_texts P) (structure_verdict P) bytes v
