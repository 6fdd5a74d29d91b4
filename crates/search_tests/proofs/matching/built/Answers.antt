use Rattle.std.proofs.Common.{[]}
use Rattle.calculus.specs.declared.sort.Sort.TheVariants.{TermSort}
use Rattle.store_theory.proofs.PatternLaws.{Grows-built}
use Rattle.search_tests.proofs.matching.built.Goals as goal

pub copy_pattern-requires : goal.copy_pattern-requires
copy_pattern-requires c = (TermSort, c.requires c.args.store.now.store [])

pub returns-clause-term : goal.returns-clause-term
returns-clause-term c = c.in_ok-copied.ensures.sorts TermSort (c.requires c.args.store.now.store [])

pub returns-clause-grows : goal.returns-clause-grows
returns-clause-grows c = Grows-built c.args.store.now.store c.copy_pattern.new.self.store c.in_ok-copied.ensures.adds.built

pub returns-in_err-copied-clause-grows : goal.returns-in_err-copied-clause-grows
returns-in_err-copied-clause-grows c = Grows-built c.args.store.now.store c.copy_pattern.new.self.store c.in_err-copied.ensures.adds.built
