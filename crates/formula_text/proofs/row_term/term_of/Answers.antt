use Rattle.std.proofs.Common.{rules, [], ◌≡◌, ◌∙◌, ap, arith, drop}
use Rattle.formula_text.specs.Rows.{terms_in}
use Rattle.formula_text.proofs.StandingLaws.{none-standing, term-standing}
use Rattle.formula_text.proofs.row_term.term_of.Goals as goal

pub returns-in-Some : goal.returns-in-Some
returns-in-Some c =
    let items = c.items-items.result.now in
    let end : c.loop-left.left ≡ 0 = omega (arith, c.loop-left-test.false) in
    term-standing c.loop-left.stack.items c.pop.new.self.items c.in-Some.term items c.args.row.now c.in-Some.ensures.items (c.loop-left.invariant.0 ∙ ap (λ n. terms_in (drop n items)) end) c.items-items.ensures

pub returns : goal.returns
returns c =
    let items = c.items-items.result.now in
    let end : c.loop-left.left ≡ 0 = omega (arith, c.loop-left-test.false) in
    let empty : c.loop-left.stack.items ≡ [] = search rules in
    absurd (none-standing c.loop-left.stack.items items c.args.row.now empty (c.loop-left.invariant.0 ∙ ap (λ n. terms_in (drop n items)) end) c.items-items.ensures)
