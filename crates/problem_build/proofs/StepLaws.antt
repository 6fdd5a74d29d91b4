-- One turn of the walk over items, and what its parts add up to.
use Rattle.std.proofs.Common.{◌≡◌, ℕ, List, [], ◌∷◌, ◌++◌, map, Bool, IsTrue, Result, Ok, Err, sym, ◌∙◌, ap, subst}
use Rattle.std.specs.Prelude.{Vec}
use Rattle.std.specs.List.{list_all}
use Rattle.std.specs.declared.alloc.Global.{Global}
use Rattle.std.proofs.lemmas.Bool.{and_parts}
use Rattle.std.proofs.lemmas.Result.{err_from_is_err_and}
use Rattle.std.specs.Result.{IsErrAnd}
use Rattle.cop_base.specs.Outside.{Files}
use Rattle.tptp_reader.specs.declared.item.Item as program
use Rattle.tptp_reader.specs.ItemView.{the_item}
use Rattle.tptp_reader.specs.Sources.{Name, Source}
use Rattle.problem_build.specs.declared.fault.BuildFault.{BuildFault}
use Rattle.problem_build.specs.declared.progress.Walk.{Walk}
use Rattle.problem_build.specs.Passing.{item_passes}
use Rattle.problem_build.specs.Walk.{Progress, Reader, walked}
use Rattle.problem_build.specs.Walking.{EndsIn, GoesOn, LeadsTo, Outcomes, StepsTo, items_outcomes, pending_items}
use Rattle.problem_build.proofs.ListLaws.{popped}
use Rattle.problem_build.proofs.WalkLaws.{goes-ends, goes-goes}

-- what the exit of a `?` answers
pub residual-is : {T E : Type 0} (r : Result T E) (y : E) → IsErrAnd r (λ e. e ≡ y) → r ≡ Err y
residual-is r y h = let p = err_from_is_err_and r h in p.1 ∙ ap Err p.2

pub stopped : {A : Type 0} (from to : Outcomes) (r : Result A BuildFault) (fault : BuildFault) → IsErrAnd r (λ e. e ≡ fault) → EndsIn from fault → StepsTo from to r
stopped from to r fault h k = subst (StepsTo from to) (sym (residual-is r fault h)) k

pub led : (from : Outcomes) (new : Walk) (r : Result (Vec Name Global) BuildFault) (fault : BuildFault) → IsErrAnd r (λ e. e ≡ fault) → EndsIn from fault → LeadsTo from new r
led from new r fault h k = subst (LeadsTo from new) (sym (residual-is r fault h)) k

-- ---- turns

pub turns-end : (read : Reader) (files : Files) (root file : Name) (depth : ℕ) (lists : List (List Name)) (first : Outcomes) (items : List program.Item) (p : Progress) (reached : List Name) → items ≡ []
    → GoesOn first (items_outcomes read files root file depth lists (pending_items items) p reached) → GoesOn first (λ _. Ok (walked p reached))
turns-end read files root file depth lists first items p reached e h = subst (λ is. GoesOn first (items_outcomes read files root file depth lists (pending_items is) p reached)) e h

pub pending-popped : (items more : List program.Item) (item : program.Item) → items ≡ more ++ item ∷ [] → pending_items items ≡ the_item item ∷ pending_items more
pending-popped items more item e = ap (map the_item) (popped items more item e)

-- a test that all items pass, where one is taken off
pub popped-pass : (test : Source → Bool) (items more : List program.Item) (item : program.Item) → items ≡ more ++ item ∷ [] → IsTrue (list_all (item_passes test) (pending_items items))
    → IsTrue (item_passes test (the_item item)) × IsTrue (list_all (item_passes test) (pending_items more))
popped-pass test items more item e h =
    and_parts (item_passes test (the_item item)) (list_all (item_passes test) (pending_items more)) (subst (λ is. IsTrue (list_all (item_passes test) is)) (pending-popped items more item e) h)

pub step-ends : (read : Reader) (files : Files) (root file : Name) (depth : ℕ) (lists inside : List (List Name)) (first : Outcomes) (items more : List program.Item) (item : program.Item) (p : Progress) (reached : List Name) (fault : BuildFault)
    → items ≡ more ++ item ∷ [] → inside ≡ lists
    → GoesOn first (items_outcomes read files root file depth lists (pending_items items) p reached)
    → EndsIn (items_outcomes read files root file depth inside (the_item item ∷ pending_items more) p reached) fault
    → EndsIn first fault
step-ends read files root file depth lists inside first items more item p reached fault e s h k =
    goes-ends first (items_outcomes read files root file depth lists (pending_items items) p reached) h fault
    (subst (λ is. EndsIn (items_outcomes read files root file depth lists is p reached) fault) (sym (pending-popped items more item e))
    (subst (λ ls. EndsIn (items_outcomes read files root file depth ls (the_item item ∷ pending_items more) p reached) fault) s k))

pub step-goes : (read : Reader) (files : Files) (root file : Name) (depth : ℕ) (lists inside : List (List Name)) (first : Outcomes) (items more : List program.Item) (item : program.Item) (p q : Progress) (reached after : List Name)
    → items ≡ more ++ item ∷ [] → inside ≡ lists
    → GoesOn first (items_outcomes read files root file depth lists (pending_items items) p reached)
    → GoesOn (items_outcomes read files root file depth inside (the_item item ∷ pending_items more) p reached) (items_outcomes read files root file depth inside (pending_items more) q after)
    → GoesOn first (items_outcomes read files root file depth lists (pending_items more) q after)
step-goes read files root file depth lists inside first items more item p q reached after e s h k =
    goes-goes first (items_outcomes read files root file depth lists (pending_items items) p reached) (items_outcomes read files root file depth lists (pending_items more) q after) h
    (subst (λ is. GoesOn (items_outcomes read files root file depth lists is p reached) (items_outcomes read files root file depth lists (pending_items more) q after)) (sym (pending-popped items more item e))
    (subst (λ ls. GoesOn (items_outcomes read files root file depth ls (the_item item ∷ pending_items more) p reached) (items_outcomes read files root file depth ls (pending_items more) q after)) s k))
