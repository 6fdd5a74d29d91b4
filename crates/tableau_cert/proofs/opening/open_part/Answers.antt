use Rattle.std.proofs.Common.{arith}
use Rattle.tableau_cert.proofs.OpeningLaws.{opened-as}
use Rattle.tableau_cert.specs.WayView.{the_way}
use Rattle.tableau_cert.proofs.opening.open_part.Goals as goal

-- Each shape's step is that of the part, whose shape and components it has.

pub returns-in_ok-step-in-Literal : goal.returns-in_ok-step-in-Literal
returns-in_ok-step-in-Literal c l = opened-as c.args.problem.now l c.args.given.now c.args.table.now c.open_literal.new.table (the_way c.args.way.now) (the_way c.open_literal.new.way) _ _ _ _ _ _ c.args.placed.position c.args.supply _ c.in-Literal.ensures.shape c.in-Literal.ensures.components c.in-Literal.ensures.size (c.in_ok-step-in-Literal.ensures c.args.problem.now l c.args.given.now c.args.placed.position c.requires.values)

pub returns-in-One : goal.returns-in-One
returns-in-One c l = opened-as c.args.problem.now l c.args.given.now c.args.table.now c.args.table.now (the_way c.args.way.now) (the_way c.args.way.now) _ _ _ _ _ _ c.args.placed.position c.args.supply _ c.in-One.ensures.shape c.in-One.ensures.components c.in-One.ensures.size (c.open_one.ensures c.args.problem.now l c.args.given.now c.args.table.now (the_way c.args.way.now) c.requires.values c.requires.way c.requires.grown)

pub returns-in-Alpha : goal.returns-in-Alpha
returns-in-Alpha c l = opened-as c.args.problem.now l c.args.given.now c.args.table.now c.args.table.now (the_way c.args.way.now) (the_way c.args.way.now) _ _ _ _ _ _ c.args.placed.position c.args.supply _ c.in-Alpha.ensures.shape c.in-Alpha.ensures.components c.in-Alpha.ensures.size (c.open_alpha.ensures c.args.problem.now l c.args.given.now c.args.table.now (the_way c.args.way.now) c.requires.values c.requires.way c.requires.grown)

pub returns-in_ok-step-in-Beta : goal.returns-in_ok-step-in-Beta
returns-in_ok-step-in-Beta c l = opened-as c.args.problem.now l c.args.given.now c.args.table.now c.open_beta.new.table (the_way c.args.way.now) (the_way c.open_beta.new.way) _ _ _ _ _ _ c.args.placed.position c.args.supply _ c.in-Beta.ensures.shape c.in-Beta.ensures.components c.in-Beta.ensures.size (c.in_ok-step-in-Beta.ensures c.args.problem.now l c.args.given.now c.requires.values)

pub returns-in_ok-step-in-Gamma : goal.returns-in_ok-step-in-Gamma
returns-in_ok-step-in-Gamma c l = opened-as c.args.problem.now l c.args.given.now c.args.table.now c.args.table.now (the_way c.args.way.now) (the_way c.open_gamma.new.way) _ _ _ _ _ _ c.args.placed.position c.args.supply _ c.in-Gamma.ensures.shape c.in-Gamma.ensures.components c.in-Gamma.ensures.size (c.in_ok-step-in-Gamma.ensures l)

pub returns-in_ok-step-in-Delta : goal.returns-in_ok-step-in-Delta
returns-in_ok-step-in-Delta c l = opened-as c.args.problem.now l c.args.given.now c.args.table.now c.open_delta.new.table (the_way c.args.way.now) (the_way c.open_delta.new.way) _ _ _ _ _ _ c.args.placed.position c.args.supply _ c.in-Delta.ensures.shape c.in-Delta.ensures.components c.in-Delta.ensures.size (c.in_ok-step-in-Delta.ensures c.args.problem.now l c.args.given.now c.requires.values)

pub open_one-requires : goal.open_one-requires
open_one-requires c = let n = c.in-One.ensures.size in let f = c.requires.fits in omega (arith, n, f)

pub open_alpha-requires : goal.open_alpha-requires
open_alpha-requires c = let n = c.in-Alpha.ensures.size in let f = c.requires.fits in omega (arith, n, f)

pub open_beta-requires-clause-fits : goal.open_beta-requires-clause-fits
open_beta-requires-clause-fits c = let n = c.in-Beta.ensures.size in let f = c.requires.fits in omega (arith, n, f)

pub open_beta-requires-clause-most : goal.open_beta-requires-clause-most
open_beta-requires-clause-most c = c.requires.grown.most

pub open_gamma-requires-clause-fits : goal.open_gamma-requires-clause-fits
open_gamma-requires-clause-fits c = let n = c.in-Gamma.ensures.size in let f = c.requires.fits in omega (arith, n, f)

pub open_delta-requires-clause-fits : goal.open_delta-requires-clause-fits
open_delta-requires-clause-fits c = let n = c.in-Delta.ensures.size in let f = c.requires.fits in omega (arith, n, f)

pub open_literal-requires-clause-most : goal.open_literal-requires-clause-most
open_literal-requires-clause-most c = c.requires.grown.most
