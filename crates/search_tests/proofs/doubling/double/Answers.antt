use Rattle.std.proofs.Common.{arith}
use Rattle.calculus.specs.declared.sort.Sort.TheVariants.{TermSort}
use Rattle.store_theory.proofs.PatternLaws.{Grows-built, grown-sort}
use Rattle.term_store.specs.PatternView.{the_pattern}
use Rattle.term_store.proofs.OwnLaws.{length-grown}
use Rattle.search_tests.proofs.DoublingLaws.{term-within, doubled-fits}
use Rattle.search_tests.proofs.doubling.double.Goals as goal

pub copy_pattern-requires : goal.copy_pattern-requires
copy_pattern-requires c =
    let begun = c.variable.new.store.store in
    let k = term-within begun c.in_ok-y.y.0 c.in_ok-y.ensures.term in
    let p = c.in_ok-end.ensures.place in
    (TermSort, doubled-fits c.variable-2.new.store.store c.in_ok-y.y.0 c.in_ok-end.end.0 (the_pattern c.args.pattern.now) c.requires.pattern (grown-sort begun c.variable-2.new.store.store TermSort c.in_ok-y.y.0 c.in_ok-end.ensures.grows c.in_ok-y.ensures.term) (omega (arith, k, p)))

pub unify-requires-clause-left : goal.unify-requires-clause-left
unify-requires-clause-left c =
    let k = c.requires.cell in
    let l = length-grown c.args.store.now.store c.variable.new.store.store c.in_ok-y.ensures.grows in
    let e = length-grown c.variable.new.store.store c.variable-2.new.store.store c.in_ok-end.ensures.grows in
    let m = length-grown c.variable-2.new.store.store c.copy_pattern.new.self.store (Grows-built c.variable-2.new.store.store c.copy_pattern.new.self.store c.in_ok-term.ensures.adds.built) in
    omega (arith, k, l, e, m)

pub unify-requires-clause-right : goal.unify-requires-clause-right
unify-requires-clause-right c =
    let begun = c.variable.new.store.store in
    let k = term-within begun c.in_ok-y.y.0 c.in_ok-y.ensures.term in
    let p = c.in_ok-end.ensures.place in
    term-within c.copy_pattern.new.self.store c.in_ok-term.term.0 (c.in_ok-term.ensures.sorts TermSort (doubled-fits c.variable-2.new.store.store c.in_ok-y.y.0 c.in_ok-end.end.0 (the_pattern c.args.pattern.now) c.requires.pattern (grown-sort begun c.variable-2.new.store.store TermSort c.in_ok-y.y.0 c.in_ok-end.ensures.grows c.in_ok-y.ensures.term) (omega (arith, k, p))))

pub returns-clause-cell : goal.returns-clause-cell
returns-clause-cell c =
    let k = term-within c.variable.new.store.store c.in_ok-y.y.0 c.in_ok-y.ensures.term in
    let n = length-grown c.variable.new.store.store c.variable-2.new.store.store c.in_ok-end.ensures.grows in
    let m = length-grown c.variable-2.new.store.store c.copy_pattern.new.self.store (Grows-built c.variable-2.new.store.store c.copy_pattern.new.self.store c.in_ok-term.ensures.adds.built) in
    let e = c.in_ok-_bound.ensures.binds.same_length in
    omega (arith, k, n, m, e)

pub returns-clause-longer : goal.returns-clause-longer
returns-clause-longer c =
    let l = length-grown c.args.store.now.store c.variable.new.store.store c.in_ok-y.ensures.grows in
    let n = length-grown c.variable.new.store.store c.variable-2.new.store.store c.in_ok-end.ensures.grows in
    let m = length-grown c.variable-2.new.store.store c.copy_pattern.new.self.store (Grows-built c.variable-2.new.store.store c.copy_pattern.new.self.store c.in_ok-term.ensures.adds.built) in
    let e = c.in_ok-_bound.ensures.binds.same_length in
    omega (arith, l, n, m, e)

pub returns-in_err-_bound-clause-longer : goal.returns-in_err-_bound-clause-longer
returns-in_err-_bound-clause-longer c =
    let l = length-grown c.args.store.now.store c.variable.new.store.store c.in_ok-y.ensures.grows in
    let n = length-grown c.variable.new.store.store c.variable-2.new.store.store c.in_ok-end.ensures.grows in
    let m = length-grown c.variable-2.new.store.store c.copy_pattern.new.self.store (Grows-built c.variable-2.new.store.store c.copy_pattern.new.self.store c.in_ok-term.ensures.adds.built) in
    let e = c.in_err-_bound.ensures.binds.same_length in
    omega (arith, l, n, m, e)

pub returns-in_err-term-clause-longer : goal.returns-in_err-term-clause-longer
returns-in_err-term-clause-longer c =
    let l = length-grown c.args.store.now.store c.variable.new.store.store c.in_ok-y.ensures.grows in
    let n = length-grown c.variable.new.store.store c.variable-2.new.store.store c.in_ok-end.ensures.grows in
    let m = length-grown c.variable-2.new.store.store c.copy_pattern.new.self.store (Grows-built c.variable-2.new.store.store c.copy_pattern.new.self.store c.in_err-term.ensures.adds.built) in
    omega (arith, l, n, m)

pub returns-in_err-end-clause-longer : goal.returns-in_err-end-clause-longer
returns-in_err-end-clause-longer c =
    let l = length-grown c.args.store.now.store c.variable.new.store.store c.in_ok-y.ensures.grows in
    let n = length-grown c.variable.new.store.store c.variable-2.new.store.store c.in_err-end.ensures.grows in
    omega (arith, l, n)

pub returns-in_err-y-clause-longer : goal.returns-in_err-y-clause-longer
returns-in_err-y-clause-longer c = length-grown c.args.store.now.store c.variable.new.store.store c.in_err-y.ensures.grows
