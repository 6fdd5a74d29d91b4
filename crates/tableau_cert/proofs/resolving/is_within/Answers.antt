use Rattle.std.proofs.Common.{ap, arith, length, sym, ◌∙◌, nat_le}
use Rattle.std.proofs.lemmas.List.{length-map}
use Rattle.calculus.specs.Lists.{marks_list-marks_tree}
use Rattle.calculus.specs.Tableaux.{has_at_most}
use Rattle.formula_core.specs.GroundLists.{the_mark, the_marks, the_value}
use Rattle.tableau_cert.proofs.ResolvingLaws.{within-capped}
use Rattle.tableau_cert.proofs.resolving.is_within.Goals as goal

pub returns-in-Term : goal.returns-in-Term
returns-in-Term c n e = sym (ap (λ v. has_at_most n (the_value c.args.table.now v)) c.in-Term.is)

pub returns-in-Steps : goal.returns-in-Steps
returns-in-Steps c n e = let ls = c.args.table.now in let s = c.in-Steps.string in let k = length c.marks.result.now in
    let m = sym (length-map c.marks.result.now (the_mark ls)) ∙ ap length c.marks.ensures.list ∙ ap length (sym (marks_list-marks_tree (the_marks ls s))) in
    within-capped k n c.args.most (omega arith) e
    ∙ ap (λ j. nat_le j n) m
    ∙ sym (ap (λ v. has_at_most n (the_value ls v)) c.in-Steps.is)
