use Rattle.trim_marks.proofs.marking.+is_any_counted.Given as goal

abbrev pub decreases-is_any_counted : goal.decreases-is_any_counted
decreases-is_any_counted l = l.added
