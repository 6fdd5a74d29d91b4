use Rattle.std.proofs.Common.{◌∙◌, ◌<◌, ◌-◌, [], get_or, arith}
use Rattle.calculus.specs.Equality.{term_eq}
use Rattle.derivation_branch.specs.TableView.{the_link, the_value}
use Rattle.derivation_branch.proofs.NumberLaws.{numbered-at}
use Rattle.label_table.proofs.TableLaws.{in-links, list-at}
use Rattle.derivation_branch.proofs.SubstitutionLaws.{value-here}
use Rattle.derivation_branch.proofs.substitution.Substitutions.are_equal_numbers.Goals as goal

pub index-requires : goal.index-requires
index-requires c = let le = in-links the_link c.self.inside.bindings.items c.args.self.now c.args.first c.self.view_is c.requires.first in omega (arith, le, c.if-first-eq0.false)

pub index-requires-2 : goal.index-requires-2
index-requires-2 c = let le = in-links the_link c.self.inside.bindings.items c.args.self.now c.args.second c.self.view_is c.requires.second in omega (arith, le, c.if-second-eq0.false)

pub returns : goal.returns
returns c = λ k m f s.
    let now = c.args.self.now in
    let items = c.self.inside.bindings.items in
    let x = c.index.result.now in
    let y = c.index-2.result.now in
    let pos : 0 < c.args.first = omega (arith, c.if-first-eq0.false) in
    let more : 0 < c.args.second = omega (arith, c.if-second-eq0.false) in
    let le = in-links the_link items now c.args.first c.self.view_is c.requires.first in
    let most = in-links the_link items now c.args.second c.self.view_is c.requires.second in
    let one = value-here x (get_or now c.args.first []) (get_or now x.outer []) k (list-at the_link items now c.args.first x c.self.view_is c.self.invariant.0 pos le c.index.ensures) (f pos) in
    let two = value-here y (get_or now c.args.second []) (get_or now y.outer []) m (list-at the_link items now c.args.second y c.self.view_is c.self.invariant.0 more most c.index-2.ensures) (s more) in
    c.are_equal.ensures (the_value x.term) (the_value y.term)
    (numbered-at c.self.inside.rows items (c.args.first - 1) x c.self.invariant.2 (omega (arith, le, pos)) c.index.ensures (omega (arith, c.if-number-eq0.false)))
    (numbered-at c.self.inside.rows items (c.args.second - 1) y c.self.invariant.2 (omega (arith, most, more)) c.index-2.ensures (omega (arith, c.if-other-eq0.false)))
    ∙ (λ i. term_eq (one i) (two i))
