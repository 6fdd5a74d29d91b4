-- What has been read is the one judgement of the bytes.
use Rattle.std.proofs.Common.{◌≡◌, ℕ, ◌≤◌, List, ◌++◌, length, inl, inr, sym, ◌∙◌, ap, subst, append-nil, flat_map, None, arith, refl}
use Rattle.std.proofs.Math.ListN.{drop_of_length-le}
use Rattle.calculus.specs.declared.fault.StructureCause.{StructureCause}
use Rattle.calculus.specs.Syntax.{Problem}
use Rattle.calculus.specs.FirstWrong.{line_bytes}
use Rattle.calculus.specs.Structures.{Structure, is_true}
use Rattle.calculus.specs.StructureText.{IsStructureJudgement, IsStructureText, bad_structure, conditions, first_broken, truth_verdict, verdict_after_conditions}
use Rattle.calculus.proofs.StructureSoundness.{read-structure, structure-verdict}
use Rattle.finite_model.specs.Conditions.{IsFirstBroken}
use Rattle.finite_model.specs.declared.head.Head.{Head}
use Rattle.text_lines.specs.Lines.{AreRead}
use Rattle.finite_model.specs.Reading.{AreEntriesRead, IsFaultOf, IsHeadRead}
use Rattle.finite_model.specs.Slots.{lines_of, structure_of}
use Rattle.finite_model.proofs.EntryLaws.{entries-stated}

-- the text of a structure that is read to the end
pub text-read : (P : Problem) (bytes : List ℕ) (h : Head) (es : List (List ℕ)) (place : ℕ) (S : Structure) → IsHeadRead P bytes h → AreEntriesRead P bytes h.worlds h.elements es place → AreRead bytes (lines_of P h.worlds h.elements es) (length bytes) → S ≡ structure_of P.symbols h.worlds h.elements es → IsStructureText P S bytes
text-read P bytes h es place S head r all e =
    let s = entries-stated P h.worlds h.elements es head.worlds head.elements head.fits r.are in
    subst (λ T. IsStructureText P T bytes) (sym e)
    (record {
      printable = s.stated;
      text =
          all.text
          ∙ ap (λ l. flat_map line_bytes (lines_of P h.worlds h.elements es) ++ l) (drop_of_length-le bytes (let k : length bytes ≤ length bytes = omega arith in k))
          ∙ append-nil (flat_map line_bytes (lines_of P h.worlds h.elements es))
          ∙ ap (flat_map line_bytes) (sym s.lines);
    })

pub fault-judged : (P : Problem) (bytes : List ℕ) (line : ℕ) (why : StructureCause) → IsFaultOf P bytes line why → IsStructureJudgement P bytes (bad_structure line why)
fault-judged P bytes line why f = inl (record { line = line; why = why; first = f; verdict = refl })

pub broken-judged : (P : Problem) (bytes : List ℕ) (S : Structure) (line : ℕ) (why : StructureCause) → IsStructureText P S bytes → IsFirstBroken (conditions P S) line why → IsStructureJudgement P bytes (bad_structure line why)
broken-judged P bytes S line why t b = inr (record { value = S; text = t; verdict = sym (ap (verdict_after_conditions P S) b.first ∙ (λ i. bad_structure (b.line i) (b.cause i))) })

pub whole-judged : (P : Problem) (bytes : List ℕ) (S : Structure) → IsStructureText P S bytes → first_broken (conditions P S) ≡ None → IsStructureJudgement P bytes (truth_verdict (is_true P S))
whole-judged P bytes S t e = inr (record { value = S; text = t; verdict = sym (structure-verdict P S bytes t (read-structure P S bytes t e)) })
