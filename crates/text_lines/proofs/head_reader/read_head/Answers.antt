use Rattle.std.proofs.Common.{refl, ◌∙◌}
use Rattle.text_lines.proofs.HeadLaws.{first-fault, formula-fault, limit-fault, read-all, read-one, read-three, read-two, setting-fault, told}
use Rattle.text_lines.specs.declared.head_line.HeadLine.TheVariants.{First, Setting, Formula, Limit}
use Rattle.text_lines.proofs.head_reader.read_head.Goals as goal

pub returns-in_default-clause-wrong : goal.returns-in_default-clause-wrong
returns-in_default-clause-wrong c = λ line e. told c.args.first.now c.args.problem.now c.args.bytes.now First line e (first-fault c.args.first.now c.args.problem.now c.args.bytes.now (c.in_default.ensures.none refl))

pub returns-in_default-after_line-clause-wrong : goal.returns-in_default-after_line-clause-wrong
returns-in_default-after_line-clause-wrong c = λ line e.
    told c.args.first.now c.args.problem.now c.args.bytes.now Setting line e
    (setting-fault c.args.first.now c.args.problem.now c.args.bytes.now c.in-Some.second _ (read-one c.args.first.now c.args.bytes.now c.in-Some.second c.in-Some.ensures.some)
    (c.as_slice.ensures.value ∙ c.in_ok-setting.ensures.text) (c.in_default-after_line.ensures.none refl))

pub returns-in_default-after_line-2-clause-wrong : goal.returns-in_default-after_line-2-clause-wrong
returns-in_default-after_line-2-clause-wrong c = λ line e.
    told c.args.first.now c.args.problem.now c.args.bytes.now Formula line e
    (formula-fault c.args.first.now c.args.problem.now c.args.bytes.now c.in-Some-after_line.third _
    (read-two c.args.first.now c.args.problem.now c.args.bytes.now c.in-Some.second c.in-Some-after_line.third _ c.in-Some.ensures.some c.in-Some-after_line.ensures.some (c.as_slice.ensures.value ∙ c.in_ok-setting.ensures.text))
    (c.as_slice-2.ensures.value ∙ c.in_ok-formula.ensures) (c.in_default-after_line-2.ensures.none refl))

pub returns-in_default-limit_after-clause-wrong : goal.returns-in_default-limit_after-clause-wrong
returns-in_default-limit_after-clause-wrong c = λ line e.
    told c.args.first.now c.args.problem.now c.args.bytes.now Limit line e
    (limit-fault c.args.first.now c.args.problem.now c.args.bytes.now c.in-Some-after_line-2.fourth
    (read-three c.args.first.now c.args.problem.now c.args.bytes.now c.in-Some.second c.in-Some-after_line.third c.in-Some-after_line-2.fourth _ _ c.in-Some.ensures.some c.in-Some-after_line.ensures.some (c.as_slice.ensures.value ∙ c.in_ok-setting.ensures.text) c.in-Some-after_line-2.ensures.some (c.as_slice-2.ensures.value ∙ c.in_ok-formula.ensures))
    (c.in_default-limit_after.ensures.none refl))

pub returns-clause-ok : goal.returns-clause-ok
returns-clause-ok c =
    read-all c.args.first.now c.args.problem.now c.args.bytes.now c.in-Some-after_line-2.fourth c.in-Some-limit_after.end c.in-Some-limit_after.limit
    (read-three c.args.first.now c.args.problem.now c.args.bytes.now c.in-Some.second c.in-Some-after_line.third c.in-Some-after_line-2.fourth _ _ c.in-Some.ensures.some c.in-Some-after_line.ensures.some (c.as_slice.ensures.value ∙ c.in_ok-setting.ensures.text) c.in-Some-after_line-2.ensures.some (c.as_slice-2.ensures.value ∙ c.in_ok-formula.ensures))
    c.in-Some-limit_after.ensures.some c.in-Some-limit_after.ensures.limit
