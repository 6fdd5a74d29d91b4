-- The formulas that pass, and what the walk over all files leads to.
use Rattle.std.specs.Prelude.{◌≡◌, ◌≤◌, ℕ, List, length, map, Bool, true, Result, Ok, Err, IfSome, IsTrue}
use Rattle.std.specs.List.{list_all}
use Rattle.tptp_reader.specs.SourceView.{the_source}
use Rattle.tptp_reader.specs.Sources.{Item, Source, formula, include}
use Rattle.tptp_reader.specs.Reading.{reads, IsReading}
use Rattle.problem_build.specs.declared.fault.BuildFault.{BuildFault}
use Rattle.problem_build.specs.declared.passed.Passed as program
use Rattle.problem_build.specs.declared.passed.WalkedFiles.{WalkedFiles}
use Rattle.problem_build.specs.Answers.{the_refusal}
use Rattle.problem_build.specs.Refusals.{Refusal}
use Rattle.problem_build.specs.Walk.{Passed, Walked, greatest_input}

abbrev pub the_passed : program.Passed → Passed
the_passed p = record { is_conjecture = p.is_conjecture; body = the_source p.body }

-- what the walk over all files leads to, where its outcome by definition is this
abbrev pub WalksTo : Result Walked Refusal → Result WalkedFiles BuildFault → Type 0
WalksTo outcome (Ok f) = (w : Walked) × (outcome ≡ Ok w) × (w.progress.passed ≡ map the_passed f.passed.items)
WalksTo outcome (Err fault) = IfSome (the_refusal fault) (λ r. outcome ≡ Err r)

-- a test of the formula of an item
abbrev pub item_passes : (Source → Bool) → Item → Bool
item_passes test (formula kind name role role_at body start) = test body
item_passes test (include file names start) = true

-- What holds of the formulas of all texts that are read, of at most 16 MiB, holds of these.
abbrev pub AreRead : Bool → List Passed → Type 0
AreRead modal passed = (test : Source → Bool)
    → ((text : List ℕ) (items : List Item) → length text ≤ greatest_input → IsReading modal text (reads items) → IsTrue (list_all (item_passes test) items))
    → IsTrue (list_all (λ (p : Passed). test p.body) passed)
