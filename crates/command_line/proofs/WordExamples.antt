-- What some lists of words ask for, and the first bad word of others.
use Rattle.std.proofs.Common.{◌≡◌, refl, codes, List, [], ◌∷◌, None, Some}
use Rattle.std.specs.Fmt.{digits}
use Rattle.calculus.specs.Syntax.{setting_of}
use Rattle.calculus.specs.declared.family.Family.TheVariants.{Tower}
use Rattle.calculus.specs.declared.setting.Domains.TheVariants.{Constant, Varying}
use Rattle.calculus.specs.declared.setting.Logic.TheVariants.{Classical, S4}
use Rattle.calculus.specs.declared.version.Version.TheVariants.{One, Two}
use Rattle.command_line.specs.Table.{Word}
use Rattle.command_line.specs.CommandLine.{ProblemFile, Bounds, command_of, prove, check, check_translated, transfer, migrate, make, model, tableau, tcheck, convert, bad}

in_classical : ProblemFile
in_classical = record { name = codes "m.p"; root = []; setting = setting_of Classical Constant }

usual : Bounds
usual = record { limit = 100; steps = 10000000; cut = None }

no_words : command_of [] ≡ bad 1
no_words = refl

prove_alone : command_of (codes "prove" ∷ []) ≡ bad 2
prove_alone = refl

two_files : command_of (codes "prove" ∷ codes "m.p" ∷ codes "n.p" ∷ []) ≡ bad 3
two_files = refl

empty_word : command_of (codes "prove" ∷ codes "--steps=5" ∷ [] ∷ []) ≡ bad 3
unfolding digits
empty_word = refl

plain_proof : command_of (codes "prove" ∷ codes "m.p" ∷ []) ≡ prove in_classical usual One
unfolding in_classical usual digits
plain_proof = refl

options_in_any_order : command_of (codes "check" ∷ codes "--domains=varying" ∷ codes "m.p" ∷ codes "--root=r" ∷ codes "d.txt" ∷ codes "--logic=s4" ∷ [])
    ≡ check (record { name = codes "m.p"; root = codes "r"; setting = setting_of S4 Varying }) (codes "d.txt")
unfolding digits
options_in_any_order = refl

-- a bad value is told before the missing file, and an option given twice at its second word
bad_value : command_of (codes "prove" ∷ codes "--limit=201" ∷ []) ≡ bad 2
unfolding digits
bad_value = refl

given_twice : command_of (codes "prove" ∷ codes "--limit=2" ∷ codes "m.p" ∷ codes "--limit=2" ∷ []) ≡ bad 4
unfolding digits
given_twice = refl

classical_domains : command_of (codes "prove" ∷ codes "--domains=constant" ∷ codes "m.p" ∷ []) ≡ bad 2
unfolding digits
classical_domains = refl

limit_of_check : command_of (codes "check" ∷ codes "m.p" ∷ codes "d.txt" ∷ codes "--limit=1" ∷ []) ≡ bad 4
unfolding digits
limit_of_check = refl

-- ---- the search that does not return to solved goals

cut_first : command_of (codes "prove" ∷ codes "m.p" ∷ codes "--cut=5" ∷ []) ≡ prove in_classical (record { limit = 100; steps = 10000000; cut = Some 5 }) One
unfolding in_classical digits
cut_first = refl

cut_zero : command_of (codes "prove" ∷ codes "m.p" ∷ codes "--cut=0" ∷ []) ≡ bad 3
unfolding digits
cut_zero = refl

cut_of_check : command_of (codes "check" ∷ codes "m.p" ∷ codes "d.txt" ∷ codes "--cut=1" ∷ []) ≡ bad 4
unfolding digits
cut_of_check = refl

cut_twice : command_of (codes "prove" ∷ codes "m.p" ∷ codes "--cut=5" ∷ codes "--cut=5" ∷ []) ≡ bad 4
unfolding digits
cut_twice = refl

-- ---- translation

-- without `--logic=intuitionistic` nothing is translated
untranslated : command_of (codes "check" ∷ codes "m.p" ∷ codes "d.txt" ∷ codes "--as=s4" ∷ []) ≡ bad 4
unfolding digits
untranslated = refl

-- the domains are told before
translated_domains : command_of (codes "check" ∷ codes "m.p" ∷ codes "d.txt" ∷ codes "--as=s4" ∷ codes "--domains=varying" ∷ []) ≡ bad 5
unfolding digits
translated_domains = refl

translated_check : command_of (codes "check" ∷ codes "--as=s4" ∷ codes "m.p" ∷ codes "d.txt" ∷ codes "--logic=intuitionistic" ∷ [])
    ≡ check_translated (record { name = codes "m.p"; root = [] }) (codes "d.txt")
unfolding digits
translated_check = refl

plain_transfer : command_of (codes "transfer" ∷ codes "m.p" ∷ codes "--root=r" ∷ codes "d.txt" ∷ [])
    ≡ transfer (record { name = codes "m.p"; root = codes "r" }) (codes "d.txt")
plain_transfer = refl

transfer_logic : command_of (codes "transfer" ∷ codes "m.p" ∷ codes "d.txt" ∷ codes "--logic=intuitionistic" ∷ []) ≡ bad 4
transfer_logic = refl

-- ---- versions of a text

second_version : command_of (codes "prove" ∷ codes "--format=2" ∷ codes "m.p" ∷ []) ≡ prove in_classical usual Two
unfolding in_classical usual digits
second_version = refl

no_version : command_of (codes "prove" ∷ codes "m.p" ∷ codes "--format=3" ∷ []) ≡ bad 3
unfolding digits
no_version = refl

format_of_migrate : command_of (codes "migrate" ∷ codes "m.p" ∷ codes "d.txt" ∷ codes "--format=2" ∷ []) ≡ bad 4
unfolding digits
format_of_migrate = refl

plain_migrate : command_of (codes "migrate" ∷ codes "m.p" ∷ codes "d.txt" ∷ []) ≡ migrate in_classical (codes "d.txt")
unfolding in_classical digits
plain_migrate = refl

-- ---- texts of tableaux

tableau_by_cut : command_of (codes "tableau" ∷ codes "--cut=5" ∷ codes "m.p" ∷ []) ≡ tableau in_classical (record { limit = 100; steps = 10000000; cut = Some 5 })
unfolding in_classical digits
tableau_by_cut = refl

format_of_tableau : command_of (codes "tableau" ∷ codes "m.p" ∷ codes "--format=1" ∷ []) ≡ bad 3
unfolding digits
format_of_tableau = refl

plain_tcheck : command_of (codes "tcheck" ∷ codes "m.p" ∷ codes "t.txt" ∷ []) ≡ tcheck in_classical (codes "t.txt")
unfolding in_classical digits
plain_tcheck = refl

as_of_tcheck : command_of (codes "tcheck" ∷ codes "m.p" ∷ codes "t.txt" ∷ codes "--as=s4" ∷ []) ≡ bad 4
unfolding digits
as_of_tcheck = refl

modal_convert : command_of (codes "convert" ∷ codes "--domains=varying" ∷ codes "m.p" ∷ codes "t.txt" ∷ codes "--logic=s4" ∷ [])
    ≡ convert (record { name = codes "m.p"; root = []; setting = setting_of S4 Varying }) (codes "t.txt")
unfolding digits
modal_convert = refl

-- ---- generated problems

chain_zero : command_of (codes "make" ∷ codes "chain" ∷ codes "0" ∷ []) ≡ bad 3
unfolding digits
chain_zero = refl

no_family : command_of (codes "make" ∷ codes "loop" ∷ codes "2" ∷ []) ≡ bad 2
no_family = refl

root_of_make : command_of (codes "make" ∷ codes "chain" ∷ codes "2" ∷ codes "--root=r" ∷ []) ≡ bad 4
unfolding digits
root_of_make = refl

tower_after_limit : command_of (codes "make" ∷ codes "--limit=2" ∷ codes "tower" ∷ codes "2" ∷ []) ≡ bad 3
unfolding digits
tower_after_limit = refl

-- the domains are told before the family
classical_tower : command_of (codes "make" ∷ codes "tower" ∷ codes "2" ∷ codes "--domains=varying" ∷ []) ≡ bad 4
unfolding digits
classical_tower = refl

domains_of_chain : command_of (codes "make" ∷ codes "chain" ∷ codes "2" ∷ codes "--domains=constant" ∷ []) ≡ bad 4
unfolding digits
domains_of_chain = refl

modal_tower : command_of (codes "make" ∷ codes "--logic=s4" ∷ codes "tower" ∷ codes "3" ∷ [])
    ≡ make (record { family = Tower; size = 3; setting = setting_of S4 Constant }) usual
unfolding usual digits
modal_tower = refl

-- ---- structures

limit_of_model : command_of (codes "model" ∷ codes "m.p" ∷ codes "s.txt" ∷ codes "--steps=5" ∷ codes "--limit=5" ∷ []) ≡ bad 5
unfolding digits
limit_of_model = refl

in_structure : command_of (codes "model" ∷ codes "m.p" ∷ codes "s.txt" ∷ codes "--steps=5" ∷ []) ≡ model in_classical (codes "s.txt") 5
unfolding in_classical digits
in_structure = refl
