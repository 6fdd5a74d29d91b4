use Rattle.std.proofs.Common.{◌∷◌, [], map, sym, subst, ap, ◌∙◌, length, arith}
use Rattle.std.proofs.lemmas.List.{map-append}
use Rattle.term_table.specs.Table.{AreBelow, lists_from}
use Rattle.term_table.proofs.TableLaws.{below-push, count-is, pushed-is}
use Rattle.term_table.proofs.table.TermTable.push.Goals as goal

pub invariant_of-self-2 : goal.invariant_of-self-2
invariant_of-self-2 c =
    let old = map (λ v. v.items) c.self.inside.lists.items in
    let n = count-is old c.args.self.now c.self.view_is in
    let joined = ap (map (λ v. v.items)) c.in_ok-push.ensures.items ∙ map-append (λ v. v.items) c.self.inside.lists.items (c.args.terms ∷ []) in
    subst (AreBelow 0) (sym joined) (below-push 0 (length c.args.self.now) old c.args.terms.items (omega (arith, n)) c.self.invariant c.requires)

pub returns-clause-ok : goal.returns-clause-ok
returns-clause-ok c =
    let old = map (λ v. v.items) c.self.inside.lists.items in
    let joined = ap (map (λ v. v.items)) c.in_ok-push.ensures.items ∙ map-append (λ v. v.items) c.self.inside.lists.items (c.args.terms ∷ []) in
    ap (lists_from []) joined ∙ pushed-is old c.args.terms.items c.args.self.now c.self.view_is
