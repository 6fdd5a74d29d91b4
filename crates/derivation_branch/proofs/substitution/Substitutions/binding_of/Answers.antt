use Rattle.std.proofs.Common.{◌≡◌, ◌<◌, ◌-◌, suc, [], get_or, refl, arith}
use Rattle.derivation_branch.specs.TableView.{the_link}
use Rattle.label_table.proofs.TableLaws.{in-links, list-at, rest-before, table-length}
use Rattle.derivation_branch.proofs.SubstitutionLaws.{list-closed, value-outer}
use Rattle.derivation_branch.proofs.substitution.Substitutions.binding_of.Goals as goal

pub loop-at-init : goal.loop-at-init
loop-at-init c = record { within = in-links the_link c.self.inside.bindings.items c.args.self.now c.args.place c.self.view_is c.requires; same = refl }

pub returns-then-left-eq0-clause-within : goal.returns-then-left-eq0-clause-within
returns-then-left-eq0-clause-within c = let n = table-length the_link c.self.inside.bindings.items c.args.self.now c.self.view_is in omega (arith, n, c.loop-at.invariant.within)

pub loop-at-preserved : goal.loop-at-preserved
loop-at-preserved c =
    let now = c.args.self.now in
    let items = c.self.inside.bindings.items in
    let x = c.index.result.now in
    let pos : 0 < c.loop-at.at = omega (arith, c.loop-at-test.true) in
    let at = list-at the_link items now c.loop-at.at x c.self.view_is c.self.invariant.0 pos c.loop-at.invariant.within c.index.ensures in
    let before = rest-before the_link items c.loop-at.at x c.self.invariant.0 pos c.loop-at.invariant.within c.index.ensures in
    let less : c.loop-at.left ≡ suc (c.loop-at.left - 1) = omega (arith, c.if-left-eq0.false) in
    record {
      within = omega (arith, before, c.loop-at.invariant.within);
      same = value-outer x (get_or now c.loop-at.at []) (get_or now x.outer []) c.loop-at.left (c.loop-at.left - 1) _ at less c.loop-at.invariant.same;
    }

pub returns-then-left-eq0-clause-closed : goal.returns-then-left-eq0-clause-closed
returns-then-left-eq0-clause-closed c = list-closed c.self.inside.bindings.items c.args.self.now c.args.place c.self.view_is c.self.invariant.1

pub returns-clause-closed : goal.returns-clause-closed
returns-clause-closed c = list-closed c.self.inside.bindings.items c.args.self.now c.args.place c.self.view_is c.self.invariant.1
