use Rattle.std.proofs.Common.{◌≡◌, ◌∙◌, true, map, Ok, sym, ap, subst, arith}
use Rattle.std.proofs.lemmas.Grind.{common_steps}
use Rattle.tptp_reader.specs.SourceView.{the_source}
use Rattle.problem_build.specs.Passing.{the_passed}
use Rattle.problem_build.specs.Walk.{names_of, passes}
use Rattle.problem_build.specs.Walking.{LetsPass, lists_of, progress_of}
use Rattle.problem_build.proofs.PassingLaws.{by-role, by-role-refused, formula-added}
use Rattle.problem_build.proofs.StepLaws.{residual-is}
use Rattle.problem_build.proofs.WalkLaws.{judged}
use Rattle.problem_build.proofs.walk.pass_formula.Goals as goal

pub returns-in_err-is_conjecture-clause-judged : goal.returns-in_err-is_conjecture-clause-judged
returns-in_err-is_conjecture-clause-judged c =
    let walk = c.args.walk.now in
    let same : c.passes.result ≡ passes (lists_of walk) c.args.name.now = c.passes.ensures ∙ ap (λ ls. passes (map names_of ls) c.args.name.now) c.deref.ensures.value in
    let passed : c.passes.result ≡ true = grind (arith, common_steps) in
    subst (LetsPass (judged (lists_of walk) c.args.file.now c.args.name.now c.args.role.now c.args.role_at (the_source c.args.body) c.args.start (progress_of walk)) walk)
    (sym (residual-is c.from_residual.result c.in_err-is_conjecture.field-0.0 c.from_residual.ensures.1))
    (by-role-refused (lists_of walk) c.args.file.now c.args.name.now c.args.role.now c.args.role_at (the_source c.args.body) c.args.start (progress_of walk) (sym same ∙ passed)
    c.in_err-is_conjecture.field-0.0 (c.in_err-is_conjecture.ensures.judged (the_source c.args.body) (progress_of walk) (ap (map the_passed) (sym c.deref-2.ensures.value))))

pub returns-clause-judged : goal.returns-clause-judged
returns-clause-judged c =
    let walk = c.args.walk.now in
    let same : c.passes.result ≡ passes (lists_of walk) c.args.name.now = c.passes.ensures ∙ ap (λ ls. passes (map names_of ls) c.args.name.now) c.deref.ensures.value in
    let passed : c.passes.result ≡ true = grind (arith, common_steps) in
    by-role (lists_of walk) c.args.file.now c.args.name.now c.args.role.now c.args.role_at (the_source c.args.body) c.args.start (progress_of walk) (sym same ∙ passed)
    ∙ c.in_ok-is_conjecture.ensures.judged (the_source c.args.body) (progress_of walk) (ap (map the_passed) (sym c.deref-2.ensures.value))
    ∙ ap Ok (formula-added walk.bytes walk.passed.items c.push.new.self.items _ c.in_ok-push.ensures.items)
