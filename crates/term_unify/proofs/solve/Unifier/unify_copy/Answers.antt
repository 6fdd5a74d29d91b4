use Rattle.std.proofs.Common.{arith}
use Rattle.store_theory.proofs.BindingLaws.{KeepsMarks-both, within-sort}
use Rattle.store_theory.proofs.PatternLaws.{KeepsMarks-built}
use Rattle.search_theory.proofs.BuildingLaws.{adds-longer}
use Rattle.term_store.specs.PatternView.{the_pattern}
use Rattle.term_store.specs.RefView.{the_places}
use Rattle.term_unify.proofs.MatchCells.{adds-bound, adds-built, closed-adds, names-built, names-copy, sorts-stay, value-below, values-stay, within-bound}
use Rattle.term_unify.proofs.MatchLaws.{narrows-copy, nowhere-copy}
use Rattle.term_unify.proofs.solve.Unifier.unify_copy.Goals as goal

pub unify_below-requires-clause-left : goal.unify_below-requires-clause-left
unify_below-requires-clause-left c =
    let a = adds-longer c.args.store.now.store c.copy_pattern.new.self.store c.in_ok-copy.ensures.adds.built in
    let b = c.requires.cell in
    omega (arith, a, b)

pub unify_below-requires-clause-right : goal.unify_below-requires-clause-right
unify_below-requires-clause-right c = within-sort c.copy_pattern.new.self.store c.requires.fits.0 c.in_ok-copy.copy.0 (c.in_ok-copy.ensures.sorts c.requires.fits.0 c.requires.fits.1)

pub unify_below-requires-clause-closed : goal.unify_below-requires-clause-closed
unify_below-requires-clause-closed c = closed-adds c.args.below.now c.args.store.now.store c.copy_pattern.new.self.store c.in_ok-copy.ensures.adds.built c.requires.closed

pub returns-clause-met : goal.returns-clause-met
returns-clause-met c = λ t.
    let s = c.args.store.now.store in
    let m = c.copy_pattern.new.self.store in
    let vs = the_places c.args.variables in
    narrows-copy s m c.unify_below.new.store.store vs c.args.cell.0 c.in_ok-copy.copy.0 (the_pattern c.args.pattern.now) c.in_ok-copy.ensures.adds.built c.in_ok-copy.ensures.copy (values-stay s m (sorts-stay s m (adds-built s m c.in_ok-copy.ensures.adds.built)) vs c.requires.values) (value-below s vs c.requires.values) c.requires.cell (c.in_ok-equal.ensures.unifies t) c.unify_below.ensures.binds.same_length

pub returns-clause-apart : goal.returns-clause-apart
returns-clause-apart c = λ t.
    let s = c.args.store.now.store in
    let m = c.copy_pattern.new.self.store in
    let vs = the_places c.args.variables in
    nowhere-copy s m vs c.args.cell.0 c.in_ok-copy.copy.0 (the_pattern c.args.pattern.now) c.in_ok-copy.ensures.adds.built c.in_ok-copy.ensures.copy (values-stay s m (sorts-stay s m (adds-built s m c.in_ok-copy.ensures.adds.built)) vs c.requires.values) (value-below s vs c.requires.values) c.requires.cell (c.in_ok-equal.ensures.apart t)

pub returns-clause-within : goal.returns-clause-within
returns-clause-within c = λ t. within-bound (the_places c.args.variables) _ c.args.store.now.store c.copy_pattern.new.self.store c.unify_below.new.store.store c.in_ok-copy.ensures.within c.unify_below.ensures.binds

pub returns-clause-cells : goal.returns-clause-cells
returns-clause-cells c = adds-bound c.args.store.now.store c.copy_pattern.new.self.store c.unify_below.new.store.store c.in_ok-copy.ensures.adds.built c.unify_below.ensures.binds

pub returns-clause-names : goal.returns-clause-names
returns-clause-names c = names-copy (the_places c.args.variables) c.args.cell.0 c.in_ok-copy.copy.0 c.args.store.now.store c.copy_pattern.new.self.store c.unify_below.new.store.store c.in_ok-copy.ensures.adds c.in_ok-copy.ensures.own c.unify_below.ensures.binds c.unify_below.ensures.within

pub returns-clause-marks : goal.returns-clause-marks
returns-clause-marks c = KeepsMarks-both c.args.store.now.store c.copy_pattern.new.self.store c.unify_below.new.store.store (KeepsMarks-built c.args.store.now.store c.copy_pattern.new.self.store c.in_ok-copy.ensures.adds.built) c.unify_below.ensures.marks

pub returns-in_err-copy-clause-marks : goal.returns-in_err-copy-clause-marks
returns-in_err-copy-clause-marks c = KeepsMarks-built c.args.store.now.store c.copy_pattern.new.self.store c.in_err-copy.ensures.adds.built

pub returns-in_err-equal-clause-marks : goal.returns-in_err-equal-clause-marks
returns-in_err-equal-clause-marks c = KeepsMarks-both c.args.store.now.store c.copy_pattern.new.self.store c.unify_below.new.store.store (KeepsMarks-built c.args.store.now.store c.copy_pattern.new.self.store c.in_ok-copy.ensures.adds.built) c.unify_below.ensures.marks

pub returns-in_err-copy-clause-cells : goal.returns-in_err-copy-clause-cells
returns-in_err-copy-clause-cells c = adds-built c.args.store.now.store c.copy_pattern.new.self.store c.in_err-copy.ensures.adds.built

pub returns-in_err-copy-clause-names : goal.returns-in_err-copy-clause-names
returns-in_err-copy-clause-names c = names-built (the_places c.args.variables) c.args.cell.0 c.args.store.now.store c.copy_pattern.new.self.store c.in_err-copy.ensures.adds

pub returns-in_err-equal-clause-cells : goal.returns-in_err-equal-clause-cells
returns-in_err-equal-clause-cells c = adds-bound c.args.store.now.store c.copy_pattern.new.self.store c.unify_below.new.store.store c.in_ok-copy.ensures.adds.built c.unify_below.ensures.binds

pub returns-in_err-equal-clause-names : goal.returns-in_err-equal-clause-names
returns-in_err-equal-clause-names c = names-copy (the_places c.args.variables) c.args.cell.0 c.in_ok-copy.copy.0 c.args.store.now.store c.copy_pattern.new.self.store c.unify_below.new.store.store c.in_ok-copy.ensures.adds c.in_ok-copy.ensures.own c.unify_below.ensures.binds c.unify_below.ensures.within
