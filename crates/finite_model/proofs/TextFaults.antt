-- The texts of structures as a kind of text: no line of theirs has a line feed in it.
use Rattle.std.proofs.Common.{length, IsTrue, sym, subst}
use Rattle.std.specs.List.{list_all}
use Rattle.calculus.specs.Syntax.{Problem}
use Rattle.calculus.specs.Problems.{symbol_fits}
use Rattle.calculus.specs.StructureText.{structure_texts}
use Rattle.text_lines.proofs.FirstWrong.{HaveNoFeeds}
use Rattle.text_lines.proofs.LineFeeds.{AreNoFeeds}
use Rattle.finite_model.proofs.EntryLaws.{stated-entries}
use Rattle.finite_model.proofs.Feeds.{lines-feed}

pub no-feeds : (P : Problem) → IsTrue (list_all symbol_fits P.symbols) → HaveNoFeeds (structure_texts P)
no-feeds P names S h =
    let e = stated-entries P S h in
    subst AreNoFeeds (sym e.lines) (lines-feed P (length S.successors) S.elements e.entries names e.are)
