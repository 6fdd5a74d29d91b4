use Rattle.trim_marks.proofs.marking.+set_back_after.Given as goal

abbrev pub decreases-set_back_after : goal.decreases-set_back_after
decreases-set_back_after l = l.added
