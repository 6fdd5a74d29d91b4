use Rattle.std.proofs.Common.{length, sym, ◌∙◌, ap, subst}
use Rattle.logic_rules.proofs.ProblemFacts.{kept}
use Rattle.text_lines.specs.Lines.{AreRead}
use Rattle.finite_model.specs.Reading.{AreEntriesRead}
use Rattle.finite_model.specs.Slots.{lines_of, structure_of}
use Rattle.finite_model.specs.StructureView.{the_lists}
use Rattle.finite_model.proofs.ReadingOutcomes.{text-read}
use Rattle.finite_model.proofs.SizeLaws.{size-most}
use Rattle.finite_model.proofs.reader.read_text.Goals as goal

pub read_entries-requires-clause-names : goal.read_entries-requires-clause-names
read_entries-requires-clause-names c = (kept c.args.problem.now c.symbols-symbols.ensures.well).symbols

pub read_end-requires-clause-names : goal.read_end-requires-clause-names
read_end-requires-clause-names c = (kept c.args.problem.now c.symbols-symbols.ensures.well).symbols

pub read_end-requires-clause-read : goal.read_end-requires-clause-read
read_end-requires-clause-read c = subst (λ l. AreEntriesRead c.args.problem.now c.args.bytes.now c.in_ok-head.head.worlds c.in_ok-head.head.elements (the_lists l) c.in_ok-entries.entries.place) (sym c.as_slice.ensures.value) c.in_ok-entries.ensures.ok

pub structure_of-requires : goal.structure_of-requires
structure_of-requires c = size-most c.in_ok-head.head.worlds c.in_ok-head.ensures.ok.worlds

pub returns-clause-text : goal.returns-clause-text
returns-clause-text c =
    text-read c.args.problem.now c.args.bytes.now c.in_ok-head.head (the_lists c.in_ok-entries.entries.lists.items) c.in_ok-entries.entries.place _ c.in_ok-head.ensures.ok c.in_ok-entries.ensures.ok
    (subst (λ l. AreRead c.args.bytes.now (lines_of c.args.problem.now c.in_ok-head.head.worlds c.in_ok-head.head.elements (the_lists l)) (length c.args.bytes.now)) c.as_slice.ensures.value c.in_ok-read_end.ensures.ok)
    (c.in_ok-structure.ensures ∙ ap (λ ss. structure_of ss c.in_ok-head.head.worlds c.in_ok-head.head.elements (the_lists c.in_ok-entries.entries.lists.items)) c.symbols-symbols.ensures.symbols)
