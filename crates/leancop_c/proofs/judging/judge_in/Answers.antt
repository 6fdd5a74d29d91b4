use Rattle.std.proofs.Common.{Some, subst, sym}
use Rattle.logic_rules.specs.SettingView.{the_setting}
use Rattle.problem_build.specs.Answers.{the_refusal}
use Rattle.leancop_c.specs.Told.{IsTold}
use Rattle.leancop_c.proofs.Reading.{judged-told, unread-is_told}
use Rattle.leancop_c.proofs.judging.judge_in.Goals as goal

pub returns-in-Ok : goal.returns-in-Ok
returns-in-Ok c = judged-told _ _ _ _ _ c.in-Ok.ensures.held c.judge.ensures

pub returns-in-Err : goal.returns-in-Err
returns-in-Err c =
    subst (IsTold (Some (the_setting c.args.setting)) c.args.problem.now c.args.derivation.now) (sym c.unread_told.ensures)
    (unread-is_told (the_refusal c.in-Err.fault) _ _ _ c.in-Err.ensures.held)
