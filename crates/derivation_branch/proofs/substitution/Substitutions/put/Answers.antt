use Rattle.std.proofs.Common.{◌∙◌, ◌∷◌, [], List, ap, arith, length, map, subst, sym}
use Rattle.std.proofs.lemmas.List.{length-append}
use Rattle.label_table.specs.Chains.{AreBackward}
use Rattle.derivation_branch.specs.Putting.{AreClosedLinks}
use Rattle.derivation_branch.specs.RowNumbers.{AreNumbered}
use Rattle.derivation_branch.specs.TableView.{the_link}
use Rattle.derivation_branch.specs.declared.substitution.Binding.{Binding}
use Rattle.derivation_branch.proofs.NumberLaws.{numbered-longer, numbered-put}
use Rattle.label_table.proofs.TableLaws.{backward-put, place-put, table-put}
use Rattle.derivation_branch.proofs.SubstitutionLaws.{closed-put, list-closed}
use Rattle.derivation_branch.proofs.substitution.Substitutions.put.Goals as goal

pub invariant_of-self : goal.invariant_of-self
invariant_of-self c = (c.self.invariant.0, c.self.invariant.1, numbered-longer c.self.inside.rows c.number_of.new.rows c.self.inside.bindings.items c.number_of.ensures.grown c.self.invariant.2)

pub invariant_of-self-in_err-push : goal.invariant_of-self-in_err-push
invariant_of-self-in_err-push c =
    subst (λ (l : List Binding). AreBackward 1 (map the_link l) × AreClosedLinks (map the_link l) × AreNumbered c.number_of.new.rows l) (sym c.in_err-push.ensures.items)
    (c.self.invariant.0, c.self.invariant.1, numbered-longer c.self.inside.rows c.number_of.new.rows c.self.inside.bindings.items c.number_of.ensures.grown c.self.invariant.2)

pub invariant_of-self-2 : goal.invariant_of-self-2
invariant_of-self-2 c =
    let xs = c.self.inside.bindings.items in
    let x : Binding = record { term = c.args.term; outer = c.args.outer; number = c.in_ok-number.number } in
    (backward-put the_link xs c.push.new.self.items x c.args.self.now c.in_ok-push.ensures.items c.self.view_is c.requires.within c.self.invariant.0, closed-put xs c.push.new.self.items x c.in_ok-push.ensures.items c.requires.closed c.self.invariant.1, numbered-put c.self.inside.rows c.number_of.new.rows xs c.push.new.self.items x c.number_of.ensures.grown c.in_ok-push.ensures.items c.in_ok-number.ensures.told c.self.invariant.2)

pub returns-clause-place : goal.returns-clause-place
returns-clause-place c =
    let x : Binding = record { term = c.args.term; outer = c.args.outer; number = c.in_ok-number.number } in
    place-put the_link c.self.inside.bindings.items c.push.new.self.items x c.args.self.now c.in_ok-place.place c.in_ok-push.ensures.items c.self.view_is (let n = ap length c.in_ok-push.ensures.items ∙ length-append c.self.inside.bindings.items (x ∷ []) in omega (arith, n, c.in_ok-place.ensures))

pub returns-clause-put : goal.returns-clause-put
returns-clause-put c =
    let x : Binding = record { term = c.args.term; outer = c.args.outer; number = c.in_ok-number.number } in
    table-put the_link c.self.inside.bindings.items c.push.new.self.items x c.args.self.now c.in_ok-push.ensures.items c.self.view_is

pub returns-clause-others : goal.returns-clause-others
returns-clause-others c = list-closed c.self.inside.bindings.items c.args.self.now c.args.outer c.self.view_is c.self.invariant.1
