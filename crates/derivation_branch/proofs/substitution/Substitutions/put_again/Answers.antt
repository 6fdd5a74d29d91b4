use Rattle.std.proofs.Common.{◌∙◌, ◌∷◌, ◌++◌, ◌-◌, [], ap, arith, get_or, length, refl}
use Rattle.std.proofs.lemmas.List.{length-append}
use Rattle.derivation_branch.specs.TableView.{the_link}
use Rattle.derivation_branch.specs.declared.substitution.Binding.{Binding}
use Rattle.derivation_branch.proofs.NumberLaws.{numbered-at, numbered-put}
use Rattle.label_table.proofs.TableLaws.{backward-put, in-links, list-at, longer-self, place-put, table-put}
use Rattle.derivation_branch.proofs.SubstitutionLaws.{closed-put, first-closed, list-closed, value-here}
use Rattle.derivation_branch.proofs.substitution.Substitutions.put_again.Goals as goal

pub index-requires : goal.index-requires
index-requires c = let le = in-links the_link c.self.inside.bindings.items c.args.self.now c.args.earlier c.self.view_is c.requires.earlier in omega (arith, le, c.requires.some)

pub invariant_of-self-2 : goal.invariant_of-self-2
invariant_of-self-2 c =
    let now = c.args.self.now in
    let xs = c.self.inside.bindings.items in
    let y = c.index.result.now in
    let x : Binding = record { term = y.term; outer = c.args.outer; number = y.number } in
    let le = in-links the_link xs now c.args.earlier c.self.view_is c.requires.earlier in
    let at = list-at the_link xs now c.args.earlier y c.self.view_is c.self.invariant.0 c.requires.some le c.index.ensures in
    let closed = first-closed y (get_or now c.args.earlier []) (get_or now y.outer []) at (list-closed xs now c.args.earlier c.self.view_is c.self.invariant.1) in
    let rows = c.self.inside.rows in (
      backward-put the_link xs c.push.new.self.items x now c.in_ok-push.ensures.items c.self.view_is c.requires.within c.self.invariant.0,
      closed-put xs c.push.new.self.items x c.in_ok-push.ensures.items closed c.self.invariant.1,
      numbered-put rows rows xs c.push.new.self.items x (longer-self rows) c.in_ok-push.ensures.items (numbered-at rows xs (c.args.earlier - 1) y c.self.invariant.2 (omega (arith, le, c.requires.some)) c.index.ensures) c.self.invariant.2,
    )

pub returns-clause-place : goal.returns-clause-place
returns-clause-place c =
    let y = c.index.result.now in
    let x : Binding = record { term = y.term; outer = c.args.outer; number = y.number } in
    place-put the_link c.self.inside.bindings.items c.push.new.self.items x c.args.self.now c.in_ok-place.place c.in_ok-push.ensures.items c.self.view_is (let n = ap length c.in_ok-push.ensures.items ∙ length-append c.self.inside.bindings.items (x ∷ []) in omega (arith, n, c.in_ok-place.ensures))

pub returns-clause-put : goal.returns-clause-put
returns-clause-put c =
    let now = c.args.self.now in
    let xs = c.self.inside.bindings.items in
    let y = c.index.result.now in
    let x : Binding = record { term = y.term; outer = c.args.outer; number = y.number } in
    let le = in-links the_link xs now c.args.earlier c.self.view_is c.requires.earlier in
    let at = list-at the_link xs now c.args.earlier y c.self.view_is c.self.invariant.0 c.requires.some le c.index.ensures in
    table-put the_link xs c.push.new.self.items x now c.in_ok-push.ensures.items c.self.view_is
    ∙ ap (λ t. now ++ (t ∷ get_or now c.args.outer []) ∷ []) (value-here y (get_or now c.args.earlier []) (get_or now y.outer []) 0 at refl)

pub returns-clause-others : goal.returns-clause-others
returns-clause-others c = list-closed c.self.inside.bindings.items c.args.self.now c.args.outer c.self.view_is c.self.invariant.1
