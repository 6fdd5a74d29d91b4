use Rattle.std.proofs.Common.{◌≡◌, ◌<◌, ◌∙◌, IsTrue, ap, arith, length, subst, sym}
use Rattle.std.proofs.lemmas.List.{length-map}
use Rattle.store_theory.specs.Patterns.{pattern_list_size, patterns_tree}
use Rattle.store_theory.specs.Stores.{parts_of}
use Rattle.store_theory.proofs.BindingLaws.{KeepsMarks-both}
use Rattle.term_store.specs.Fitting.{parts_fit_in}
use Rattle.term_store.specs.PatternFalls.{size-item}
use Rattle.term_store.specs.PatternView.{the_pattern}
use Rattle.term_store.specs.RefView.{the_places}
use Rattle.term_store.specs.Shown.{the_head}
use Rattle.term_store.proofs.CopyLaws.{fits-at, some-sort}
use Rattle.term_store.proofs.ListLaws.{literal-there}
use Rattle.term_store.proofs.StoreFacts.{shown-end}
use Rattle.term_unify.specs.Matching.{MatchTo, Narrows}
use Rattle.term_unify.proofs.MatchBuilt.{built-apart, built-names, built-narrows, built-nowhere, built-within, count-apart}
use Rattle.term_unify.proofs.MatchCells.{adds-both, adds-none}
use Rattle.term_unify.proofs.MatchedLaws.{matched-fits, matched-more, matched-none, matched-nowhere, matched-values, names-next, names-parts, part-before, parts-forth, stands-stays}
use Rattle.term_unify.proofs.StepLaws.{ended, parts-counted}
use Rattle.term_unify.proofs.solve.Unifier.+match_pattern.Goals as goal

-- ---- a pattern with parts

pub match_built-returns-then-not-has_name-clause-apart : goal.match_built-returns-then-not-has_name-clause-apart
match_built-returns-then-not-has_name-clause-apart t c = λ f.
    let s = c.args.store.now.store in
    let k = c.end-end.result.content in
    let x = c.end-end.result.place.0 in
    let w = ended s c.args.cell.0 x (the_head k) c.end-end.ensures.ends (shown-end s c.args.cell.0 x k c.end-end.ensures.ends c.end-end.ensures.shows).0 in
    built-apart s (the_places c.args.variables) c.args.cell.0 x (the_head k) (the_pattern c.args.pattern.now) c.args.parts.now c.end-end.ensures.well w (sym c.is_open.ensures ∙ c.if-is_open.false) (record { parts = c.requires.parts; fits = c.requires.fits; values = c.requires.values }) (sym c.has_name.ensures ∙ c.if-not-has_name.true)

pub match_built-returns-then-not-has_name-clause-cells : goal.match_built-returns-then-not-has_name-clause-cells
match_built-returns-then-not-has_name-clause-cells t c = adds-none c.args.store.now.store

pub match_built-returns-then-count_in-items-clause-cells : goal.match_built-returns-then-count_in-items-clause-cells
match_built-returns-then-count_in-items-clause-cells t c = adds-none c.args.store.now.store

pub match_built-returns-then-count_in-items-clause-apart : goal.match_built-returns-then-count_in-items-clause-apart
match_built-returns-then-count_in-items-clause-apart t c = λ f.
    let s = c.args.store.now.store in
    let k = c.end-end.result.content in
    let x = c.end-end.result.place.0 in
    let w = ended s c.args.cell.0 x (the_head k) c.end-end.ensures.ends (shown-end s c.args.cell.0 x k c.end-end.ensures.ends c.end-end.ensures.shows).0 in
    let n = length-map c.items.result.now the_pattern in
    let e = ap length c.items.ensures in
    let d = c.if-count_in-items.true in
    count-apart s (the_places c.args.variables) c.args.cell.0 x c.count_in.result (the_head k) (the_pattern c.args.pattern.now) c.args.parts.now c.end-end.ensures.well w (sym c.is_open.ensures ∙ c.if-is_open.false) (record { parts = c.requires.parts; fits = c.requires.fits; values = c.requires.values }) (parts-counted s c.args.cell.0 x k c.count_in.result c.end-end.ensures.ends c.end-end.ensures.shows c.count_in.ensures) (λ q. d (q ∙ sym e ∙ n))

pub match_built-returns-in_err-equal-2-clause-names : goal.match_built-returns-in_err-equal-2-clause-names
match_built-returns-in_err-equal-2-clause-names t c = built-names c.args.store.now.store c.match_parts.new.store.store (the_places c.args.variables) c.args.cell.0 c.end-end.result.place.0 c.end-end.ensures.ends c.match_parts.ensures.names

pub match_built-returns-clause-names : goal.match_built-returns-clause-names
match_built-returns-clause-names t c = built-names c.args.store.now.store c.match_parts.new.store.store (the_places c.args.variables) c.args.cell.0 c.end-end.result.place.0 c.end-end.ensures.ends c.match_parts.ensures.names

pub match_built-returns-clause-within : goal.match_built-returns-clause-within
match_built-returns-clause-within t c = λ e. built-within c.args.store.now.store c.match_parts.new.store.store (the_places c.args.variables) (the_pattern c.args.pattern.now) c.args.parts.now c.requires.parts (c.in_ok-equal-2.ensures.within e)

pub match_built-returns-clause-met : goal.match_built-returns-clause-met
match_built-returns-clause-met t c = λ f.
    let s = c.args.store.now.store in
    let k = c.end-end.result.content in
    let x = c.end-end.result.place.0 in
    let w = ended s c.args.cell.0 x (the_head k) c.end-end.ensures.ends (shown-end s c.args.cell.0 x k c.end-end.ensures.ends c.end-end.ensures.shows).0 in
    let n = length-map c.items.result.now the_pattern in
    let e = ap length c.items.ensures in
    built-narrows s c.match_parts.new.store.store (the_places c.args.variables) c.args.cell.0 x c.count_in.result (the_head k) (the_pattern c.args.pattern.now) c.args.parts.now c.end-end.ensures.well w (sym c.is_open.ensures ∙ c.if-is_open.false) (record { parts = c.requires.parts; fits = c.requires.fits; values = c.requires.values }) (sym c.has_name.ensures ∙ c.if-not-has_name.false) (parts-counted s c.args.cell.0 x k c.count_in.result c.end-end.ensures.ends c.end-end.ensures.shows c.count_in.ensures) (c.if-count_in-items.false ∙ sym n ∙ e) (c.in_ok-equal-2.ensures.met f)

pub match_built-returns-clause-apart : goal.match_built-returns-clause-apart
match_built-returns-clause-apart t c = λ f.
    let s = c.args.store.now.store in
    let k = c.end-end.result.content in
    let x = c.end-end.result.place.0 in
    let w = ended s c.args.cell.0 x (the_head k) c.end-end.ensures.ends (shown-end s c.args.cell.0 x k c.end-end.ensures.ends c.end-end.ensures.shows).0 in
    let n = length-map c.items.result.now the_pattern in
    let e = ap length c.items.ensures in
    built-nowhere s (the_places c.args.variables) c.args.cell.0 x c.count_in.result (the_head k) (the_pattern c.args.pattern.now) c.args.parts.now c.end-end.ensures.well w (sym c.is_open.ensures ∙ c.if-is_open.false) (record { parts = c.requires.parts; fits = c.requires.fits; values = c.requires.values }) (sym c.has_name.ensures ∙ c.if-not-has_name.false) (parts-counted s c.args.cell.0 x k c.count_in.result c.end-end.ensures.ends c.end-end.ensures.shows c.count_in.ensures) (c.if-count_in-items.false ∙ sym n ∙ e) (c.in_ok-equal-2.ensures.apart f)

-- ---- the parts, one after the other

pub match_parts-loop-i-init : goal.match_parts-loop-i-init
match_parts-loop-i-init t c = record {
  matched = λ d e. matched-none c.args.store.now.store (the_places c.args.variables) (parts_of d) c.args.parts.now;
  closed = c.requires.closed;
  room = (omega arith, omega arith);
}

pub match_parts-part_of-part-requires-clause-end : goal.match_parts-part_of-part-requires-clause-end
match_parts-part_of-part-requires-clause-end t c = stands-stays c.args.store.now.store c.loop-i.store.store c.args.end.0 (c.loop-i.invariant.matched c.requires.end.0 c.requires.end.1).cells c.requires.end

pub match_parts-part_of-part-requires-clause-there : goal.match_parts-part_of-part-requires-clause-there
match_parts-part_of-part-requires-clause-there t c =
    let n = length-map c.items-patterns.result.now the_pattern in
    let m = ap length c.items-patterns.ensures in
    parts-forth c.args.store.now.store c.loop-i.store.store c.args.end.0 (λ rs. c.loop-i.i < length rs) (c.loop-i.invariant.matched c.requires.end.0 c.requires.end.1).cells c.requires.end (λ d e. let q = c.requires.count d e in omega (arith, n, m, q))

pub match_parts-match_pattern-requires : goal.match_parts-match_pattern-requires
match_parts-match_pattern-requires t c =
    let s = c.args.store.now.store in
    let vs = the_places c.args.variables in
    let items = c.items-patterns.result.now in
    let here = c.loop-i.invariant.matched c.requires.end.0 c.requires.end.1 in
    let small = size-item items c.loop-i.i c.index-patterns-i.result c.index-patterns-i.result (omega arith) c.index-patterns-i.is in
    let same = ap pattern_list_size c.items-patterns.ensures in
    let d = c.decreases in
    let f = subst (λ ps. IsTrue (parts_fit_in s vs c.requires.fits.0 c.requires.fits.1 (patterns_tree ps))) (sym c.items-patterns.ensures) c.requires.fits.2 in
    let one = some-sort s vs c.requires.fits.0 c.requires.fits.1 (the_pattern c.index-patterns-i.result) (fits-at s vs c.requires.fits.0 c.requires.fits.1 items c.loop-i.i c.index-patterns-i.result c.index-patterns-i.result f (omega arith) c.index-patterns-i.is) in (
      omega (arith, small, same, d),
      (
        c.part_of-part.ensures.within,
        (
          (one.0, matched-fits s c.loop-i.store.store vs (parts_of c.requires.end.0) c.args.parts.now c.loop-i.i one.0 (the_pattern c.index-patterns-i.result) here one.1),
          (matched-values s c.loop-i.store.store vs (parts_of c.requires.end.0) c.args.parts.now c.loop-i.i here c.requires.values, c.loop-i.invariant.closed),
        ),
      ),
    )

pub match_parts-loop-i-preserved : goal.match_parts-loop-i-preserved
match_parts-loop-i-preserved t c =
    let s = c.args.store.now.store in
    let cur = c.loop-i.store.store in
    let vs = the_places c.args.variables in
    let items = c.items-patterns.result.now in
    let ps = c.args.parts.now in
    let n = length-map items the_pattern in
    let m = ap length c.items-patterns.ensures in
    let item = c.index-patterns-i.result in
    let at = literal-there the_pattern items ps c.loop-i.i item c.items-patterns.ensures (omega (arith, n, m)) c.index-patterns-i.is in
    let before = part-before s cur c.args.end.0 c.loop-i.i c.part_of-part.result.0 c.requires.well (c.loop-i.invariant.matched c.requires.end.0 c.requires.end.1).cells c.requires.end c.part_of-part.ensures.part in
    let a = c.loop-i.invariant.room in
    let b = c.match_pattern.ensures.room in
    record {
      matched = λ d e. matched-more s cur c.match_pattern.new.store.store vs (parts_of d) ps c.loop-i.i c.part_of-part.result.0 (the_pattern item) c.requires.well.fits c.requires.values (before d e).1 (before d e).0 at (c.loop-i.invariant.matched d e) (record { met = c.in_ok-match_pattern.ensures.met c.if-not-branch.false; cells = c.match_pattern.ensures.cells; names = c.match_pattern.ensures.names; within = c.in_ok-match_pattern.ensures.within c.if-not-branch.false; marks = c.match_pattern.ensures.marks });
      closed = c.in_ok-match_pattern.ensures.closed c.if-not-branch.false;
      room = (omega (arith, a, b), omega (arith, a, b));
    }

pub match_parts-returns-in_err-match_pattern-clause-cells : goal.match_parts-returns-in_err-match_pattern-clause-cells
match_parts-returns-in_err-match_pattern-clause-cells t c = adds-both c.args.store.now.store c.loop-i.store.store c.match_pattern.new.store.store c.requires.well.fits (c.loop-i.invariant.matched c.requires.end.0 c.requires.end.1).cells c.match_pattern.ensures.cells

pub match_parts-returns-in_err-match_pattern-clause-names : goal.match_parts-returns-in_err-match_pattern-clause-names
match_parts-returns-in_err-match_pattern-clause-names t c =
    let s = c.args.store.now.store in
    let vs = the_places c.args.variables in
    let before = part-before s c.loop-i.store.store c.args.end.0 c.loop-i.i c.part_of-part.result.0 c.requires.well (c.loop-i.invariant.matched c.requires.end.0 c.requires.end.1).cells c.requires.end c.part_of-part.ensures.part in
    names-parts s c.match_pattern.new.store.store vs c.args.end.0 c.requires.end (λ d e. names-next s c.loop-i.store.store c.match_pattern.new.store.store vs (parts_of d) c.args.parts.now c.loop-i.i c.part_of-part.result.0 (c.loop-i.invariant.matched d e) (before d e).0 c.match_pattern.ensures.names)

pub match_parts-returns-in_err-match_pattern-clause-marks : goal.match_parts-returns-in_err-match_pattern-clause-marks
match_parts-returns-in_err-match_pattern-clause-marks t c = KeepsMarks-both c.args.store.now.store c.loop-i.store.store c.match_pattern.new.store.store (c.loop-i.invariant.matched c.requires.end.0 c.requires.end.1).marks c.match_pattern.ensures.marks

pub match_parts-returns-in_err-match_pattern-clause-room : goal.match_parts-returns-in_err-match_pattern-clause-room
match_parts-returns-in_err-match_pattern-clause-room t c = let a = c.loop-i.invariant.room in let b = c.match_pattern.ensures.room in (omega (arith, a, b), omega (arith, a, b))

pub match_parts-returns-then-not-branch-clause-apart : goal.match_parts-returns-then-not-branch-clause-apart
match_parts-returns-then-not-branch-clause-apart t c = λ f d e.
    let s = c.args.store.now.store in
    let cur = c.loop-i.store.store in
    let vs = the_places c.args.variables in
    let items = c.items-patterns.result.now in
    let ps = c.args.parts.now in
    let n = length-map items the_pattern in
    let m = ap length c.items-patterns.ensures in
    let item = c.index-patterns-i.result in
    let at = literal-there the_pattern items ps c.loop-i.i item c.items-patterns.ensures (omega (arith, n, m)) c.index-patterns-i.is in
    let before = part-before s cur c.args.end.0 c.loop-i.i c.part_of-part.result.0 c.requires.well (c.loop-i.invariant.matched c.requires.end.0 c.requires.end.1).cells c.requires.end c.part_of-part.ensures.part in
    matched-nowhere s cur vs (parts_of d) ps c.loop-i.i (length ps) c.part_of-part.result.0 (the_pattern item) c.requires.values (before d e).1 (before d e).0 at (omega (arith, n, m)) (c.loop-i.invariant.matched d e) (c.in_ok-match_pattern.ensures.apart c.if-not-branch.true)

pub match_parts-returns-then-not-branch-clause-cells : goal.match_parts-returns-then-not-branch-clause-cells
match_parts-returns-then-not-branch-clause-cells t c = adds-both c.args.store.now.store c.loop-i.store.store c.match_pattern.new.store.store c.requires.well.fits (c.loop-i.invariant.matched c.requires.end.0 c.requires.end.1).cells c.match_pattern.ensures.cells

pub match_parts-returns-then-not-branch-clause-names : goal.match_parts-returns-then-not-branch-clause-names
match_parts-returns-then-not-branch-clause-names t c =
    let s = c.args.store.now.store in
    let vs = the_places c.args.variables in
    let before = part-before s c.loop-i.store.store c.args.end.0 c.loop-i.i c.part_of-part.result.0 c.requires.well (c.loop-i.invariant.matched c.requires.end.0 c.requires.end.1).cells c.requires.end c.part_of-part.ensures.part in
    names-parts s c.match_pattern.new.store.store vs c.args.end.0 c.requires.end (λ d e. names-next s c.loop-i.store.store c.match_pattern.new.store.store vs (parts_of d) c.args.parts.now c.loop-i.i c.part_of-part.result.0 (c.loop-i.invariant.matched d e) (before d e).0 c.match_pattern.ensures.names)

pub match_parts-returns-then-not-branch-clause-marks : goal.match_parts-returns-then-not-branch-clause-marks
match_parts-returns-then-not-branch-clause-marks t c = KeepsMarks-both c.args.store.now.store c.loop-i.store.store c.match_pattern.new.store.store (c.loop-i.invariant.matched c.requires.end.0 c.requires.end.1).marks c.match_pattern.ensures.marks

pub match_parts-returns-then-not-branch-clause-room : goal.match_parts-returns-then-not-branch-clause-room
match_parts-returns-then-not-branch-clause-room t c = let a = c.loop-i.invariant.room in let b = c.match_pattern.ensures.room in (omega (arith, a, b), omega (arith, a, b))

pub match_parts-returns-clause-met : goal.match_parts-returns-clause-met
match_parts-returns-clause-met t c = λ f d e.
    let n = length-map c.items-patterns.result.now the_pattern in
    let m = ap length c.items-patterns.ensures in
    let all : c.loop-i.i ≡ length c.args.parts.now = omega (arith, n, m) in
    subst (λ k. Narrows (MatchTo (the_places c.args.variables) (parts_of d) c.args.parts.now k) c.args.store.now.store c.loop-i.store.store) all (c.loop-i.invariant.matched d e).met

pub match_parts-returns-clause-within : goal.match_parts-returns-clause-within
match_parts-returns-clause-within t c = λ f. (c.loop-i.invariant.matched c.requires.end.0 c.requires.end.1).within

pub match_parts-returns-clause-closed : goal.match_parts-returns-clause-closed
match_parts-returns-clause-closed t c = λ f. c.loop-i.invariant.closed

pub match_parts-returns-clause-cells : goal.match_parts-returns-clause-cells
match_parts-returns-clause-cells t c = (c.loop-i.invariant.matched c.requires.end.0 c.requires.end.1).cells

pub match_parts-returns-clause-names : goal.match_parts-returns-clause-names
match_parts-returns-clause-names t c = names-parts c.args.store.now.store c.loop-i.store.store (the_places c.args.variables) c.args.end.0 c.requires.end (λ d e. (c.loop-i.invariant.matched d e).names)

pub match_parts-returns-clause-marks : goal.match_parts-returns-clause-marks
match_parts-returns-clause-marks t c = (c.loop-i.invariant.matched c.requires.end.0 c.requires.end.1).marks

pub match_parts-returns-clause-room : goal.match_parts-returns-clause-room
match_parts-returns-clause-room t c = c.loop-i.invariant.room
