use Rattle.std.proofs.Common.{◌∙◌, ◌<◌, [], get_or, ap, arith}
use Rattle.derivation_branch.specs.TableView.{the_link}
use Rattle.label_table.proofs.TableLaws.{first-empty, in-links, list-at}
use Rattle.derivation_branch.proofs.SubstitutionLaws.{value-free, value-here}
use Rattle.derivation_branch.proofs.substitution.Substitutions.value_here.Goals as goal

pub returns-then-at-eq0 : goal.returns-then-at-eq0
returns-then-at-eq0 c =
    let now = c.args.self.now in
    value-free (get_or now c.args.at []) c.args.left (ap (λ m. get_or now m []) c.if-at-eq0.true ∙ first-empty the_link c.self.inside.bindings.items now c.self.view_is)

pub index-requires : goal.index-requires
index-requires c = let le = in-links the_link c.self.inside.bindings.items c.args.self.now c.args.at c.self.view_is c.requires.within in omega (arith, le, c.if-at-eq0.false)

pub returns : goal.returns
returns c =
    let now = c.args.self.now in
    let items = c.self.inside.bindings.items in
    let x = c.index.result.now in
    let pos : 0 < c.args.at = omega (arith, c.if-at-eq0.false) in
    let le = in-links the_link items now c.args.at c.self.view_is c.requires.within in
    value-here x (get_or now c.args.at []) (get_or now x.outer []) c.args.left (list-at the_link items now c.args.at x c.self.view_is c.self.invariant.0 pos le c.index.ensures) (c.requires.first pos)
