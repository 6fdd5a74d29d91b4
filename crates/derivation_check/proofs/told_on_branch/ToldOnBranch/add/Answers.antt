use Rattle.std.proofs.Common.{◌++◌, ◌∷◌, [], ◌∙◌, ap, subst, sym, arith}
use Rattle.derivation_check.specs.ToldView.{AreCounted, AreRising, is_told}
use Rattle.derivation_check.proofs.ToldLaws.{absent-put, rising-put}
use Rattle.derivation_check.proofs.told_on_branch.ToldOnBranch.add.Goals as goal

pub invariant_of-self-2 : goal.invariant_of-self-2
invariant_of-self-2 c =
    let es = c.self.inside.labels.entries in
    let after = c.in_ok-insert.ensures.entries ∙ absent-put c.args.place c.args.count es (ap (is_told c.args.place) c.self.view_is ∙ c.requires.new) in
    subst (AreRising 0) (sym after) (rising-put 0 c.args.place c.args.count es c.self.invariant (omega arith) (subst (AreCounted c.args.count) (sym c.self.view_is) c.requires.counted))

pub returns : goal.returns
returns c =
    let es = c.self.inside.labels.entries in
    c.in_ok-insert.ensures.entries ∙ absent-put c.args.place c.args.count es (ap (is_told c.args.place) c.self.view_is ∙ c.requires.new) ∙ ap (λ l. l ++ (c.args.place, c.args.count) ∷ []) c.self.view_is
