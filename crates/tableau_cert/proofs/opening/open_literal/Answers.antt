use Rattle.std.proofs.Common.{refl, subst, sym}
use Rattle.std.specs.List.{AllByRecursion}
use Rattle.calculus.specs.Instances.{grounds_of}
use Rattle.calculus.specs.Lists.{terms_tree}
use Rattle.formula_core.specs.GroundLists.{IsNormalTerm}
use Rattle.tableau_cert.proofs.OpeningLaws.{opened-literal}
use Rattle.tableau_cert.proofs.SteppingLaws.{way-normal-grown}
use Rattle.tableau_cert.specs.Made.{AreArgsMade}
use Rattle.tableau_cert.specs.WayView.{bound_terms, the_way}
use Rattle.tableau_cert.proofs.opening.open_literal.Goals as goal

pub ground_terms-requires-clause-bindings : goal.ground_terms-requires-clause-bindings
ground_terms-requires-clause-bindings c = subst (AllByRecursion (IsNormalTerm c.args.table.now)) (sym c.deref.ensures.value) c.requires.way.bindings

pub label_in-requires-clause-way : goal.label_in-requires-clause-way
label_in-requires-clause-way c = way-normal-grown c.args.table.now c.ground_terms.new.table c.in_ok-args.ensures.grown (the_way c.args.way.now) c.requires.way

pub label_in-requires-clause-most : goal.label_in-requires-clause-most
label_in-requires-clause-most c = c.in_ok-args.ensures.grown.most

pub returns : goal.returns
returns c P l given p v = let ls = c.args.table.now in
    opened-literal P l given ls c.ground_terms.new.table c.label_in.new.table (the_way c.args.way.now) (the_way c.label_in.new.self) c.args.sign (terms_tree c.args.args.now) p c.args.supply _ v c.requires.way refl
    (subst (λ ts. AreArgsMade ls c.ground_terms.new.table (grounds_of (bound_terms ls ts) (terms_tree c.args.args.now)) c.in_ok-args.args) c.deref.ensures.value c.in_ok-args.ensures) c.in_ok-label.ensures
