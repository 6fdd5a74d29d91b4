use Rattle.std.proofs.Common.{arith, ap, sym, ◌∙◌, refl, map, []}
use Rattle.formula_core.specs.GroundTables.{items_of, lists_from}
use Rattle.formula_core.proofs.EntryLaws.{entry-added, grown-same}
use Rattle.formula_core.proofs.table.GroundTable.add.Goals as goal

pub returns-then-len-clause-grown : goal.returns-then-len-clause-grown
returns-then-len-clause-grown c = grown-same c.self.inside.entries.keys c.args.self.now c.args.self.now c.self.view_is c.self.invariant refl

pub returns-in_err-index-clause-grown : goal.returns-in_err-index-clause-grown
returns-in_err-index-clause-grown c = grown-same c.self.inside.entries.keys c.args.self.now _ c.self.view_is c.self.invariant (ap (λ ks. lists_from [] (map items_of ks)) c.in_err-index.ensures.err ∙ c.self.view_is)

pub invariant_of-self-2 : goal.invariant_of-self-2
invariant_of-self-2 c =
    let a = (let k = c.in_ok-index.ensures.stored in
    entry-added c.self.inside.entries.keys c.insert_full.new.self.keys c.args.entry k.0 c.in_ok-index.index c.args.self.now c.self.view_is c.self.invariant c.requires (let n = c.len.ensures.len in let m = c.if-len.false in omega (arith, n, m)) c.in_ok-index.ensures.keys k.1 k.2 c.in_ok-index.ensures.within) in
    a.table

pub returns-clause-place : goal.returns-clause-place
returns-clause-place c =
    let a = (let k = c.in_ok-index.ensures.stored in
    entry-added c.self.inside.entries.keys c.insert_full.new.self.keys c.args.entry k.0 c.in_ok-index.index c.args.self.now c.self.view_is c.self.invariant c.requires (let n = c.len.ensures.len in let m = c.if-len.false in omega (arith, n, m)) c.in_ok-index.ensures.keys k.1 k.2 c.in_ok-index.ensures.within) in
    a.place

pub returns-clause-list : goal.returns-clause-list
returns-clause-list c =
    let a = (let k = c.in_ok-index.ensures.stored in
    entry-added c.self.inside.entries.keys c.insert_full.new.self.keys c.args.entry k.0 c.in_ok-index.index c.args.self.now c.self.view_is c.self.invariant c.requires (let n = c.len.ensures.len in let m = c.if-len.false in omega (arith, n, m)) c.in_ok-index.ensures.keys k.1 k.2 c.in_ok-index.ensures.within) in
    a.list

pub returns-clause-grown : goal.returns-clause-grown
returns-clause-grown c =
    let a = (let k = c.in_ok-index.ensures.stored in
    entry-added c.self.inside.entries.keys c.insert_full.new.self.keys c.args.entry k.0 c.in_ok-index.index c.args.self.now c.self.view_is c.self.invariant c.requires (let n = c.len.ensures.len in let m = c.if-len.false in omega (arith, n, m)) c.in_ok-index.ensures.keys k.1 k.2 c.in_ok-index.ensures.within) in
    a.grown
