use Rattle.derivation_branch.proofs.NumberLaws.{row-number, rows-apart, rows-longer}
use Rattle.derivation_branch.proofs.row_set.RowSet.number.Goals as goal

pub invariant_of-self-2 : goal.invariant_of-self-2
invariant_of-self-2 c = rows-apart (λ k. k.now) c.insert_full.new.self.keys c.in_ok-index.ensures.unique

pub returns-clause-told : goal.returns-clause-told
returns-clause-told c =
    let k = c.in_ok-index.ensures.stored in
    row-number (λ k. k.now) c.insert_full.new.self.keys c.items.result k.0 c.in_ok-index.index c.args.row.now c.items.ensures k.1 k.2 c.in_ok-index.ensures.within

pub returns-clause-grown : goal.returns-clause-grown
returns-clause-grown c = rows-longer (λ k. k.now) c.self.inside.rows.keys c.insert_full.new.self.keys c.items.result c.args.self.now c.self.view_is c.in_ok-index.ensures.keys
