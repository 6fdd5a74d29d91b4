use Rattle.std.proofs.Common.{◌∙◌, ap, length, sym}
use Rattle.problem_build.specs.Answers.{the_refusal}
use Rattle.leancop_c.proofs.Reading.{is_placed, is_unread}
use Rattle.leancop_c.proofs.formula.place_formula.Goals as goal

pub returns-in-Ok : goal.returns-in-Ok
returns-in-Ok c = is_placed _ _ _ _ _ _ _ c.in-Ok.ensures.canonical c.as_slice.ensures.value c.place.ensures
    (c.len.ensures ∙ sym c.as_slice.ensures.len ∙ ap length c.as_slice.ensures.value)

pub returns-in-Err : goal.returns-in-Err
returns-in-Err c = is_unread (the_refusal c.in-Err.fault) _ _ _ _ _ c.in-Err.ensures.refused c.unread_status.ensures c.requires
