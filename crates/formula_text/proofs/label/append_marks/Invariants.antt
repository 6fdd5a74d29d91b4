use Rattle.std.proofs.Common.{◌≡◌, ◌++◌, map, drop, true}
use Rattle.formula_text.specs.Extends.{Extends}
use Rattle.formula_text.specs.Rests.{marks_text}
use Rattle.logic_rules.specs.MarkView.{the_character}
use Rattle.formula_text.proofs.label.append_marks.Given as goal

abbrev pub invariant-loop-mark : goal.invariant-loop-mark
invariant-loop-mark l =
    (l.out.items ++ marks_text (map the_character (drop l.mark-index l.mark-items)) l.first ≡ l.fn.out.items ++ marks_text (map the_character l.mark-items) true)
    × Extends l.fn.out.items l.out.items
