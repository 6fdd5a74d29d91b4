use Rattle.std.proofs.Common.{arith}
use Rattle.leancop_c.proofs.ByStatus.{accepted_told, no_setting_told, refused_told, rejected_told}
use Rattle.leancop_c.proofs.leancop_check.Goals as goal

pub returns-clause-accepted : goal.returns-clause-accepted
returns-clause-accepted c = accepted_told _ _ _ _ c.judge_texts.ensures

pub returns-clause-rejected : goal.returns-clause-rejected
returns-clause-rejected c = rejected_told _ _ _ _ c.judge_texts.ensures

pub returns-clause-refused : goal.returns-clause-refused
returns-clause-refused c =
    refused_told 4 (λ e. omega (arith, e)) (λ e. omega (arith, e)) (λ e. omega (arith, e)) (λ e. omega (arith, e)) _ _ _ _ c.judge_texts.ensures

pub returns-clause-including : goal.returns-clause-including
returns-clause-including c =
    refused_told 6 (λ e. omega (arith, e)) (λ e. omega (arith, e)) (λ e. omega (arith, e)) (λ e. omega (arith, e)) _ _ _ _ c.judge_texts.ensures

pub returns-clause-no_setting : goal.returns-clause-no_setting
returns-clause-no_setting c = no_setting_told _ _ _ _ c.judge_texts.ensures
