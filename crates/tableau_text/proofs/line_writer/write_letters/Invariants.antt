use Rattle.std.proofs.Common.{◌≡◌, ◌++◌, map, take}
use Rattle.calculus.specs.TableauText.{side_text}
use Rattle.tableau_text.proofs.line_writer.write_letters.Given as goal

abbrev pub invariant-loop-side : goal.invariant-loop-side
invariant-loop-side l = l.out.items ≡ l.fn.out.items ++ map side_text (take l.side-index l.sides)
