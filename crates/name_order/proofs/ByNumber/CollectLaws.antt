-- The turns of a closing that extends a goal: those of its instance, and those of the closings below.
use Rattle.std.proofs.Common.{◌≡◌, ℕ, List, [], ◌∷◌, ◌++◌, map, append_assoc, sym, ◌∙◌, ap}
use Rattle.std.proofs.lemmas.List.{map-append}
use Rattle.calculus.specs.Lists.{closings_tree}
use Rattle.calculus.specs.Syntax.{Problem}
use Rattle.calculus.specs.Tableaux.{instances_below, instances_of_all}
use Rattle.formula_core.specs.GroundLists.{GroundList}
use Rattle.name_order.specs.ByNumber.Collected.{the_list, the_lists}
use Rattle.name_order.specs.Walks.{turns_by}
use Rattle.name_order.specs.declared.collect.ReachedList.{ReachedList}
use Rattle.tableau_core.specs.Numbered.Closings as numbered
use Rattle.tableau_core.specs.Numbered.ClosingView.{closing_in}
use Rattle.tableau_core.specs.Numbered.InstanceView.{the_instance}
use Rattle.tableau_core.proofs.Numbered.ClosingLaws.{closings-in}
use Rattle.tableau_core.specs.declared.instance.ClauseInstance.{ClauseInstance}

pub extended : (P : Problem) (ls : List GroundList) (i : ClauseInstance) (k : ℕ) (goals : List numbered.Closing) (old mid new : List ReachedList) (turns : ReachedList) → the_list ls turns ≡ turns_by P (the_instance ls i) → mid ≡ old ++ turns ∷ [] → the_lists ls new ≡ the_lists ls mid ++ map (turns_by P) (instances_of_all (closings_tree (map (closing_in ls) goals))) → the_lists ls new ≡ the_lists ls old ++ map (turns_by P) (instances_below (closing_in ls (numbered.extend i k (numbered.closings_tree goals))))
extended P ls i k goals old mid new turns walked pushed collected =
    let rest = map (turns_by P) (instances_of_all (closings_tree (map (closing_in ls) goals))) in
    collected
    ∙ ap (λ ms. the_lists ls ms ++ rest) pushed
    ∙ ap (λ ms. ms ++ rest) (map-append (the_list ls) old (turns ∷ []))
    ∙ append_assoc (the_lists ls old) (the_list ls turns ∷ []) rest
    ∙ ap (λ t. the_lists ls old ++ t ∷ rest) walked
    ∙ ap (λ cs. the_lists ls old ++ turns_by P (the_instance ls i) ∷ map (turns_by P) (instances_of_all cs)) (sym (closings-in ls goals))
