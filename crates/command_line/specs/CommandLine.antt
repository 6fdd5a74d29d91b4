-- The words of a run: a command, and its operands and options in any order.
use Rattle.std.specs.Prelude.{ℕ, zero, suc, ◌+◌, List, [], ◌∷◌, ◌++◌, length, Bool, true, false, ◌==◌}
use Rattle.std.specs.Prelude.{if◌then◌else◌, ◌&&◌, not, Option, None, Some, codes, map, nat_lt, is_some, String}
use Rattle.std.specs.Prelude.{string_bytes}
use Rattle.std.specs.Global.{Global}
use Rattle.std.specs.List.{starts_with, list_any}
use Rattle.calculus.specs.declared.limits.TheConstants.{MAX_PATH_LIMIT}
use Rattle.calculus.specs.declared.family.Family.{Family}
use Rattle.calculus.specs.declared.family.Family.TheVariants.{Chain}
use Rattle.calculus.specs.declared.setting.Domains.{Domains}
use Rattle.calculus.specs.declared.setting.Domains.TheVariants.{Constant, Cumulative}
use Rattle.calculus.specs.declared.setting.Logic.{Logic}
use Rattle.calculus.specs.declared.setting.Logic.TheVariants.{Classical, Intuitionistic}
use Rattle.calculus.specs.declared.version.Version.{Version}
use Rattle.calculus.specs.declared.version.Version.TheVariants.{One}
use Rattle.calculus.specs.Problems.{is_modal}
use Rattle.calculus.specs.Syntax.{Setting, setting_of}
use Rattle.command_line.specs.Table.{Word, command_named, front_of, is, operands_of, options_of}
use Rattle.command_line.specs.Values.{domains_of, family_of, is_operand, is_value, logic_of}
use Rattle.command_line.specs.Values.{number_of, version_of}
use Rattle.command_line.specs.declared.value.TheConstants.{MAX_SIZE, MAX_STEPS}
use Rattle.command_line.specs.declared.request.TheConstants.{USUAL_LIMIT, USUAL_STEPS}
use Rattle.command_line.specs.declared.table.CommandName.{CommandName}
use Rattle.command_line.specs.declared.table.CommandName.TheVariants as command
use Rattle.command_line.specs.declared.table.OptionName.{OptionName}
use Rattle.command_line.specs.declared.table.OptionName.TheVariants as option

-- ---- commands

-- a problem by the name of its main file, the root of the files that it includes (empty where there
-- is none), and the setting in which it is read
pub record ProblemFile : Type 0 where
  pub name : Word
  pub root : Word
  pub setting : Setting

-- one of intuitionistic logic, which has one setting
pub record IntuitionisticFile : Type 0 where
  pub name : Word
  pub root : Word

abbrev pub in_intuitionistic : IntuitionisticFile → ProblemFile
in_intuitionistic p =
    record { name = p.name; root = p.root; setting = setting_of Intuitionistic Cumulative }

-- a problem that is generated, and the setting in which it is read
pub record GeneratedProblem : Type 0 where
  pub family : Family
  pub size : ℕ
  pub setting : Setting

-- how far a search goes: the greatest path limit, the budget of steps and, where a search that does
-- not return to solved goals is to come first, the greatest limit of that one
pub record Bounds : Type 0 where
  pub limit : ℕ
  pub steps : ℕ
  pub cut : Option ℕ

-- places are counted from 1. What is read beside a problem is the name of a file. The version is that
-- of the text to be printed
pub data Command : Type 0 where
  prove : (problem : ProblemFile) (bounds : Bounds) (version : Version) → Command
  check : (problem : ProblemFile) (derivation : Word) → Command
  check_translated : (problem : IntuitionisticFile) (derivation : Word) → Command
  transfer : (problem : IntuitionisticFile) (derivation : Word) → Command
  migrate : (problem : ProblemFile) (derivation : Word) → Command
  make : (problem : GeneratedProblem) (bounds : Bounds) → Command
  model : (problem : ProblemFile) (structure : Word) (steps : ℕ) → Command
  tableau : (problem : ProblemFile) (bounds : Bounds) → Command
  tcheck : (problem : ProblemFile) (text : Word) → Command
  convert : (problem : ProblemFile) (text : Word) → Command
  bad : (place : ℕ) → Command

-- ---- what the words behind the command give, of which the first stands at place 2

abbrev pub on : {A B : Type 0} → Option A → (A → B) → B → B
on None found other = other
on (Some a) found other = found a

-- what follows the front of a word, where it has this front
abbrev pub behind : (front : Word) → Word → Option Word
behind [] w = Some w
behind (b ∷ bs) [] = None
behind (b ∷ bs) (c ∷ cs) = if b == c then behind bs cs else None

-- the place of the first word of an option, and its value
abbrev pub given : OptionName → (place : ℕ) → List Word → Option (ℕ × Word)
given o place [] = None
given o place (w ∷ ws) = on (behind (front_of o) w) (λ v. Some (place, v)) (given o (suc place) ws)

abbrev pub is_given : OptionName → List Word → Bool
is_given o ws = is_some (given o 2 ws)

-- nothing where the option is not given
abbrev pub value_in : OptionName → List Word → Word
value_in o ws = on (given o 2 ws) (λ p. p.1) []

abbrev pub is_option : Word → Bool
is_option w = starts_with ◌==◌ w (codes "--")

-- the operands, each with its place
abbrev pub operands : (place : ℕ) → List Word → List (ℕ × Word)
operands place [] = []
operands place (w ∷ ws) =
    if is_option w then operands (suc place) ws else (place, w) ∷ operands (suc place) ws

abbrev pub item : {A : Type 0} → List A → ℕ → Option A
item [] n = None
item (x ∷ xs) zero = Some x
item (x ∷ xs) (suc n) = item xs n

-- nothing where an operand is missing
abbrev pub operand_in : ℕ → List Word → Word
operand_in n ws = on (item (operands 2 ws) n) (λ p. p.1) []

-- ---- the first bad word

-- the word gives the option a value that it may have, and no word before gives it one
abbrev pub gives : List Word → Word → OptionName → Bool
gives before w o =
    on (behind (front_of o) w) (λ v. is_value o v && not (is_given o before)) false

-- a word is good behind these
abbrev pub is_good : CommandName → (before : List Word) → Word → Bool
is_good c before w =
    if is_option w then list_any (gives before w) (options_of c)
    else on (item (operands_of c) (length (operands 2 before))) (λ kind. is_operand kind w) false

-- the first bad word from left to right, behind the good ones, and a missing one behind the last
abbrev pub first_bad : CommandName → (good : List Word) → List Word → Option ℕ
first_bad c good [] =
    if nat_lt (length (operands 2 good)) (length (operands_of c)) then Some (2 + length good) else None
first_bad c good (w ∷ ws) =
    if is_good c good w then first_bad c (good ++ w ∷ []) ws else Some (2 + length good)

-- ---- good words that do not fit the logic

abbrev pub logic_in : List Word → Logic
logic_in ws = on (logic_of (value_in option.Logic ws)) (λ l. l) Classical

abbrev pub is_intuitionistic : Logic → Bool
is_intuitionistic Intuitionistic = true
is_intuitionistic _ = false

abbrev pub place_of : OptionName → List Word → Option ℕ
place_of o ws = on (given o 2 ws) (λ p. Some p.0) None

-- the place of the family of generated problems, where it is that of towers
abbrev pub tower_place : CommandName → List Word → Option ℕ
tower_place command.Make ws =
    on (item (operands 2 ws) 0) (λ p. if is p.1 (codes "tower") then Some p.0 else None) None
tower_place _ ws = None

abbrev pub unless : Bool → Option ℕ → Option ℕ
unless fits place = if fits then None else place

-- domains are given in modal logics alone, only intuitionistic problems are translated, and a tower
-- is a modal problem
abbrev pub misfit : CommandName → List Word → Option ℕ
misfit c ws =
    on (unless (is_modal (logic_in ws)) (place_of option.Domains ws)) Some
    (on (unless (is_intuitionistic (logic_in ws)) (place_of option.As ws)) Some
    (unless (is_modal (logic_in ws)) (tower_place c ws)))

-- ---- the command

-- domains are constant where none are given
abbrev pub domains_in : List Word → Domains
domains_in ws = on (domains_of (value_in option.Domains ws)) (λ d. d) Constant

abbrev pub problem_in : List Word → ProblemFile
problem_in ws = record {
  name = operand_in 0 ws;
  root = value_in option.Root ws;
  setting = setting_of (logic_in ws) (domains_in ws);
}

abbrev pub intuitionistic_in : List Word → IntuitionisticFile
intuitionistic_in ws = record { name = operand_in 0 ws; root = value_in option.Root ws }

abbrev pub generated_in : List Word → GeneratedProblem
generated_in ws = record {
  family = on (family_of (operand_in 0 ws)) (λ f. f) Chain;
  size = on (number_of MAX_SIZE (operand_in 1 ws)) (λ n. n) 1;
  setting = setting_of (logic_in ws) (domains_in ws);
}

abbrev pub steps_in : List Word → ℕ
steps_in ws = on (number_of MAX_STEPS (value_in option.Steps ws)) (λ n. n) USUAL_STEPS

abbrev pub bounds_in : List Word → Bounds
bounds_in ws = record {
  limit = on (number_of MAX_PATH_LIMIT (value_in option.Limit ws)) (λ n. n) USUAL_LIMIT;
  steps = steps_in ws;
  cut = number_of MAX_PATH_LIMIT (value_in option.Cut ws);
}

-- version 1 where none is given
abbrev pub version_in : List Word → Version
version_in ws = on (version_of (value_in option.Format ws)) (λ v. v) One

-- `--as=s4`, which only words of intuitionistic problems give, asks for the judgement of the
-- translated problem
abbrev pub check_in : List Word → Command
check_in ws =
    if is_given option.As ws then check_translated (intuitionistic_in ws) (operand_in 1 ws)
    else check (problem_in ws) (operand_in 1 ws)

-- what good words ask for
abbrev pub request : CommandName → List Word → Command
request command.Prove ws = prove (problem_in ws) (bounds_in ws) (version_in ws)
request command.Check ws = check_in ws
request command.Transfer ws = transfer (intuitionistic_in ws) (operand_in 1 ws)
request command.Migrate ws = migrate (problem_in ws) (operand_in 1 ws)
request command.Make ws = make (generated_in ws) (bounds_in ws)
request command.Model ws = model (problem_in ws) (operand_in 1 ws) (steps_in ws)
request command.Tableau ws = tableau (problem_in ws) (bounds_in ws)
request command.Tcheck ws = tcheck (problem_in ws) (operand_in 1 ws)
request command.Convert ws = convert (problem_in ws) (operand_in 1 ws)

abbrev pub command_by : CommandName → List Word → Command
command_by c ws = on (first_bad c [] ws) bad (on (misfit c ws) bad (request c ws))

abbrev pub command_of : List Word → Command
command_of [] = bad 1
command_of (w ∷ ws) = on (command_named w) (λ c. command_by c ws) (bad 1)

-- what the words of a run ask for
abbrev pub asked : List (String Global) → Command
asked words = command_of (map string_bytes words)
