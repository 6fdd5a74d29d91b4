use Rattle.term_table.proofs.WalkLaws.{symbol-less, symbol-put}
use Rattle.term_table.proofs.walk.put_term.Goals as goal

pub returns-in_ok-push_terms-in-Fun-clause-row : goal.returns-in_ok-push_terms-in-Fun-clause-row
returns-in_ok-push_terms-in-Fun-clause-row c =
    symbol-put c.args.table.now c.args.items.now.items c.push-in-Fun.new.self.items c.args.stack.now.items c.push_terms.new.stack.items c.args.term c.in-Fun.symbol c.in-Fun.list c.in_ok-count-in-Fun.count c.terms-terms.result.now
    c.in-Fun.is c.in_ok-count-in-Fun.ensures c.terms-terms.ensures c.in_ok-push-in-Fun.ensures.items c.in_ok-push_terms-in-Fun.ensures

pub returns-in_ok-push_terms-in-Fun-clause-less : goal.returns-in_ok-push_terms-in-Fun-clause-less
returns-in_ok-push_terms-in-Fun-clause-less c =
    symbol-less c.args.table.now c.args.stack.now.items c.push_terms.new.stack.items c.args.term c.in-Fun.symbol c.in-Fun.list c.terms-terms.result.now c.in-Fun.is c.terms-terms.ensures c.in_ok-push_terms-in-Fun.ensures
