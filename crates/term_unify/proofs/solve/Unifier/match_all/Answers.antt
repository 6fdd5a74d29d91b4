use Rattle.std.proofs.Common.{◌∙◌, IsTrue, ap, arith, length, map, refl, subst, sym}
use Rattle.std.proofs.lemmas.List.{length-map}
use Rattle.plain_laws.proofs.Every.{all-at}
use Rattle.calculus.specs.declared.sort.Sort.TheVariants.{TermSort}
use Rattle.store_theory.specs.Patterns.{patterns_tree}
use Rattle.store_theory.specs.Stores.{has_sort_at}
use Rattle.store_theory.proofs.BindingLaws.{KeepsMarks-both, within-sort}
use Rattle.term_store.specs.Fitting.{parts_fit_in}
use Rattle.term_store.specs.PatternView.{the_pattern}
use Rattle.term_store.specs.RefView.{the_place, the_places}
use Rattle.term_store.specs.Signatures.{BuildsOver, allows_all}
use Rattle.term_store.proofs.CopyLaws.{fits-at, some-sort}
use Rattle.term_store.proofs.ListLaws.{literal-there}
use Rattle.term_unify.proofs.MatchCells.{adds-both, adds-none}
use Rattle.term_unify.proofs.MatchedLaws.{matched-all, matched-below, matched-fits, matched-more, matched-none, matched-nowhere, matched-values, names-next, nowhere-all}
use Rattle.term_unify.proofs.solve.Unifier.match_all.Goals as goal

pub returns-then-cells-items-clause-apart : goal.returns-then-cells-items-clause-apart
returns-then-cells-items-clause-apart c = λ f σ h q.
    let n = length-map c.items-items.result.now the_pattern in
    let m = ap length c.items-items.ensures in
    let k = length-map c.args.cells.now the_place in
    c.if-cells-items.true (sym k ∙ q.0 ∙ sym m ∙ n)

pub returns-then-cells-items-clause-cells : goal.returns-then-cells-items-clause-cells
returns-then-cells-items-clause-cells c = adds-none c.args.store.now.store

pub loop-i-init : goal.loop-i-init
loop-i-init c = record {
  matched = matched-none c.args.store.now.store (the_places c.args.variables) (map the_place c.args.cells.now) (map the_pattern c.items-items.result.now);
  closed = c.requires.closed;
  room = (omega arith, omega arith);
}

pub match_pattern-requires-clause-cell : goal.match_pattern-requires-clause-cell
match_pattern-requires-clause-cell c =
    let s = c.args.store.now.store in
    let rs = map the_place c.args.cells.now in
    matched-below s c.loop-i.store.store (the_places c.args.variables) rs (map the_pattern c.items-items.result.now) c.loop-i.i c.cell_at.result.0 c.loop-i.invariant.matched (within-sort s TermSort c.cell_at.result.0 (all-at (has_sort_at s TermSort) rs c.loop-i.i c.cell_at.result.0 c.requires.sorted c.cell_at.ensures))

pub match_pattern-requires-clause-fits : goal.match_pattern-requires-clause-fits
match_pattern-requires-clause-fits c =
    let s = c.args.store.now.store in
    let vs = the_places c.args.variables in
    let items = c.items-items.result.now in
    let item = c.index-items-i.result in
    let f = subst (λ ps. IsTrue (parts_fit_in s vs c.requires.fits.0 c.requires.fits.1 (patterns_tree ps))) (sym c.items-items.ensures) c.requires.fits.2 in
    let one = some-sort s vs c.requires.fits.0 c.requires.fits.1 (the_pattern item) (fits-at s vs c.requires.fits.0 c.requires.fits.1 items c.loop-i.i item item f (omega arith) c.index-items-i.is) in
    (one.0, matched-fits s c.loop-i.store.store vs (map the_place c.args.cells.now) (map the_pattern items) c.loop-i.i one.0 (the_pattern item) c.loop-i.invariant.matched one.1)

pub match_pattern-requires-clause-values : goal.match_pattern-requires-clause-values
match_pattern-requires-clause-values c = matched-values c.args.store.now.store c.loop-i.store.store (the_places c.args.variables) (map the_place c.args.cells.now) (map the_pattern c.items-items.result.now) c.loop-i.i c.loop-i.invariant.matched c.requires.values

pub loop-i-preserved : goal.loop-i-preserved
loop-i-preserved c =
    let s = c.args.store.now.store in
    let rs = map the_place c.args.cells.now in
    let items = c.items-items.result.now in
    let item = c.index-items-i.result in
    let n = length-map items the_pattern in
    let at = literal-there the_pattern items (map the_pattern items) c.loop-i.i item refl (omega (arith, n)) c.index-items-i.is in
    let within = within-sort s TermSort c.cell_at.result.0 (all-at (has_sort_at s TermSort) rs c.loop-i.i c.cell_at.result.0 c.requires.sorted c.cell_at.ensures) in
    let a = c.loop-i.invariant.room in
    let b = c.match_pattern.ensures.room in
    record {
      matched = matched-more s c.loop-i.store.store c.match_pattern.new.store.store (the_places c.args.variables) rs (map the_pattern items) c.loop-i.i c.cell_at.result.0 (the_pattern item) c.mark-start.ensures.well.fits c.requires.values within c.cell_at.ensures at c.loop-i.invariant.matched (record { met = c.in_ok-match_pattern.ensures.met c.if-not-branch.false; cells = c.match_pattern.ensures.cells; names = c.match_pattern.ensures.names; within = c.in_ok-match_pattern.ensures.within c.if-not-branch.false; marks = c.match_pattern.ensures.marks });
      closed = c.in_ok-match_pattern.ensures.closed c.if-not-branch.false;
      room = (omega (arith, a, b), omega (arith, a, b));
    }

pub returns-in_err-match_pattern-clause-cells : goal.returns-in_err-match_pattern-clause-cells
returns-in_err-match_pattern-clause-cells c = adds-both c.args.store.now.store c.loop-i.store.store c.match_pattern.new.store.store c.mark-start.ensures.well.fits c.loop-i.invariant.matched.cells c.match_pattern.ensures.cells

pub returns-in_err-match_pattern-clause-names : goal.returns-in_err-match_pattern-clause-names
returns-in_err-match_pattern-clause-names c = names-next c.args.store.now.store c.loop-i.store.store c.match_pattern.new.store.store (the_places c.args.variables) (map the_place c.args.cells.now) (map the_pattern c.items-items.result.now) c.loop-i.i c.cell_at.result.0 c.loop-i.invariant.matched c.cell_at.ensures c.match_pattern.ensures.names

pub returns-in_err-match_pattern-clause-marks : goal.returns-in_err-match_pattern-clause-marks
returns-in_err-match_pattern-clause-marks c = KeepsMarks-both c.args.store.now.store c.loop-i.store.store c.match_pattern.new.store.store c.loop-i.invariant.matched.marks c.match_pattern.ensures.marks

pub returns-in_err-match_pattern-clause-room : goal.returns-in_err-match_pattern-clause-room
returns-in_err-match_pattern-clause-room c = let a = c.loop-i.invariant.room in let b = c.match_pattern.ensures.room in (omega (arith, a, b), omega (arith, a, b))

pub returns-then-not-branch-clause-apart : goal.returns-then-not-branch-clause-apart
returns-then-not-branch-clause-apart c = λ f.
    let s = c.args.store.now.store in
    let rs = map the_place c.args.cells.now in
    let items = c.items-items.result.now in
    let item = c.index-items-i.result in
    let n = length-map items the_pattern in
    let m = ap length c.items-items.ensures in
    let at = literal-there the_pattern items (map the_pattern items) c.loop-i.i item refl (omega (arith, n)) c.index-items-i.is in
    let within = within-sort s TermSort c.cell_at.result.0 (all-at (has_sort_at s TermSort) rs c.loop-i.i c.cell_at.result.0 c.requires.sorted c.cell_at.ensures) in
    nowhere-all s (the_places c.args.variables) rs (map the_pattern items) c.args.patterns.now c.items-items.ensures (matched-nowhere s c.loop-i.store.store (the_places c.args.variables) rs (map the_pattern items) c.loop-i.i (length (map the_pattern items)) c.cell_at.result.0 (the_pattern item) c.requires.values within c.cell_at.ensures at (omega (arith, n)) c.loop-i.invariant.matched (c.in_ok-match_pattern.ensures.apart c.if-not-branch.true))

pub returns-then-not-branch-clause-cells : goal.returns-then-not-branch-clause-cells
returns-then-not-branch-clause-cells c = adds-both c.args.store.now.store c.loop-i.store.store c.match_pattern.new.store.store c.mark-start.ensures.well.fits c.loop-i.invariant.matched.cells c.match_pattern.ensures.cells

pub returns-then-not-branch-clause-names : goal.returns-then-not-branch-clause-names
returns-then-not-branch-clause-names c = names-next c.args.store.now.store c.loop-i.store.store c.match_pattern.new.store.store (the_places c.args.variables) (map the_place c.args.cells.now) (map the_pattern c.items-items.result.now) c.loop-i.i c.cell_at.result.0 c.loop-i.invariant.matched c.cell_at.ensures c.match_pattern.ensures.names

pub returns-then-not-branch-clause-marks : goal.returns-then-not-branch-clause-marks
returns-then-not-branch-clause-marks c = KeepsMarks-both c.args.store.now.store c.loop-i.store.store c.match_pattern.new.store.store c.loop-i.invariant.matched.marks c.match_pattern.ensures.marks

pub returns-then-not-branch-clause-room : goal.returns-then-not-branch-clause-room
returns-then-not-branch-clause-room c = let a = c.loop-i.invariant.room in let b = c.match_pattern.ensures.room in (omega (arith, a, b), omega (arith, a, b))

pub returns-clause-met : goal.returns-clause-met
returns-clause-met c = λ f.
    let n = length-map c.items-items.result.now the_pattern in
    let k = length-map c.args.cells.now the_place in
    let same = c.if-cells-items.false in
    matched-all c.args.store.now.store c.loop-i.store.store (the_places c.args.variables) (map the_place c.args.cells.now) (map the_pattern c.items-items.result.now) c.args.patterns.now c.loop-i.i c.items-items.ensures (omega (arith, n, k, same)) (omega (arith, n, k, same)) c.loop-i.invariant.matched

pub returns-clause-within : goal.returns-clause-within
returns-clause-within c = λ f. subst (λ ps. BuildsOver (the_places c.args.variables) (λ sorts g. allows_all g sorts (patterns_tree ps)) c.args.store.now.store c.loop-i.store.store) c.items-items.ensures c.loop-i.invariant.matched.within

pub returns-clause-cells : goal.returns-clause-cells
returns-clause-cells c = c.loop-i.invariant.matched.cells

pub returns-clause-names : goal.returns-clause-names
returns-clause-names c = c.loop-i.invariant.matched.names

pub returns-clause-marks : goal.returns-clause-marks
returns-clause-marks c = c.loop-i.invariant.matched.marks
