use Rattle.std.proofs.Common.{◌≡◌, ◌∙◌, true, false, sym, ap}
use Rattle.std.specs.List.{list_any}
use Rattle.problem_build.specs.Expansion.{same_name}
use Rattle.problem_build.proofs.NameSetLaws.{among-few, among-more}
use Rattle.problem_build.proofs.name_set.NameSet.contains.Goals as goal

pub returns-then-is_among : goal.returns-then-is_among
returns-then-is_among c =
    let k : list_any (same_name c.args.name.now) c.self.inside.few.items ≡ true = sym (c.is_among.ensures ∙ ap (list_any (same_name c.args.name.now)) c.deref.ensures.value) ∙ c.if-is_among.true in
    rw (← c.self.view_is) (among-few c.self.inside.few.items c.self.inside.more.keys c.args.name.now k)

pub returns : goal.returns
returns c =
    let k : list_any (same_name c.args.name.now) c.self.inside.few.items ≡ false = sym (c.is_among.ensures ∙ ap (list_any (same_name c.args.name.now)) c.deref.ensures.value) ∙ c.if-is_among.false in
    rw (← c.self.view_is) (c.contains.ensures ∙ among-more c.self.inside.few.items c.self.inside.more.keys c.args.name.now k)
