use Rattle.std.proofs.Common.{arith, length}
use Rattle.godel_transfer.proofs.BranchLaws.{entry-at, place-at, place-past, within-at}
use Rattle.godel_transfer.proofs.branches.Branches.entry.Goals as goal

pub returns-clause-within : goal.returns-clause-within
returns-clause-within c =
    let some = c.if-number-eq0.false in
    let inside = c.if-place-len.false in
    let size = c.len.ensures in
    within-at c.args.self.now.labels c.args.self.now.entries.items _ c.index.result.now c.index.result.now c.requires.kept.within (omega arith) c.index.ensures

pub returns-clause-entry : goal.returns-clause-entry
returns-clause-entry c =
    let some = c.if-number-eq0.false in
    let inside = c.if-place-len.false in
    let size = c.len.ensures in
    entry-at c.args.self.now.labels c.args.self.now.entries.items c.args.number c.index.result.now (omega arith) (omega arith) c.index.ensures

pub returns-then-place-len-clause-placed : goal.returns-then-place-len-clause-placed
returns-then-place-len-clause-placed c =
    let some = c.if-number-eq0.false in
    let past = c.if-place-len.true in
    let size = c.len.ensures in
    place-past c.args.self.now.entries.items c.args.number (omega arith) (omega arith)

pub returns-clause-placed : goal.returns-clause-placed
returns-clause-placed c =
    let some = c.if-number-eq0.false in
    let inside = c.if-place-len.false in
    let size = c.len.ensures in
    place-at c.args.self.now.entries.items c.args.number c.index.result.now (omega arith) (omega arith) c.index.ensures
