-- The lists inside an include, and what is left of them.
use Rattle.std.proofs.Common.{◌≡◌, ℕ, List, [], ◌∷◌, ◌++◌, map, Bool, true, false, Option, None, Some, Result, is_some, refl, ◌∙◌, ap, subst}
use Rattle.std.proofs.lemmas.List.{map-append}
use Rattle.cop_base.specs.Outside.{Files}
use Rattle.tptp_reader.specs.Sources.{Name}
use Rattle.problem_build.specs.declared.fault.BuildFault.{BuildFault}
use Rattle.problem_build.specs.Walk.{Progress, Reader, absent_in, fetched_name, first_absent, lists_inside, names_of, past_list}
use Rattle.problem_build.specs.Walking.{IsSelected, Outcomes, file_outcomes, with_list}

lists-entered : (names : Option (List (Name × ℕ))) (lists : List (List (Name × ℕ))) → map names_of (with_list names lists) ≡ lists_inside names (map names_of lists)
lists-entered None lists = refl
lists-entered (Some list) lists = map-append names_of lists (list ∷ [])

-- what is said of the walk over the file that was fetched is said of that over the included one
pub file-included : (P : Outcomes → Type 0) (read : Reader) (files : Files) (root included fetched : Name) (d : ℕ) (names : Option (List (Name × ℕ))) (lists entered : List (List (Name × ℕ))) (p : Progress)
    → fetched ≡ fetched_name root included → entered ≡ with_list names lists → P (file_outcomes read files root fetched d (map names_of entered) p)
    → P (file_outcomes read files root (fetched_name root included) d (lists_inside names (map names_of lists)) p)
file-included P read files root included fetched d names lists entered p e f h =
    subst (λ n. P (file_outcomes read files root n d (lists_inside names (map names_of lists)) p)) e
    (subst (λ ls. P (file_outcomes read files root fetched d ls p)) (ap (map names_of) f ∙ lists-entered names lists) h)

-- ---- what is left behind an include

pub left-reached : (names : Option (List (Name × ℕ))) (is_list : Bool) (lists entered : List (List (Name × ℕ))) (before inner after : List Name) → is_list ≡ is_some names → entered ≡ with_list names lists
    → (is_list ≡ false → after ≡ before ++ inner)
    → ((outer : List (List (Name × ℕ))) (list : List (Name × ℕ)) → is_list ≡ true → entered ≡ outer ++ list ∷ [] → after ≡ before ++ past_list (Some list) inner)
    → after ≡ before ++ past_list names inner
left-reached None is_list lists entered before inner after e f a l = a e
left-reached (Some list) is_list lists entered before inner after e f a l = l lists list e f

pub left-selected : {A : Type 0} (r : Result A BuildFault) (file : Name) (names : Option (List (Name × ℕ))) (is_list : Bool) (lists entered : List (List (Name × ℕ))) (inner : List Name) → is_list ≡ is_some names → entered ≡ with_list names lists
    → (is_list ≡ false → IsSelected file None r)
    → ((outer : List (List (Name × ℕ))) (list : List (Name × ℕ)) → is_list ≡ true → entered ≡ outer ++ list ∷ [] → IsSelected file (first_absent list inner) r)
    → IsSelected file (absent_in names inner) r
left-selected r file None is_list lists entered inner e f a l = a e
left-selected r file (Some list) is_list lists entered inner e f a l = l lists list e f
