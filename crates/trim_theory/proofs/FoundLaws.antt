-- The walks find the derivation without idle steps.
use Rattle.std.proofs.Common.{◌≡◌, ◌≤◌, List, [], ◌∷◌, ◌++◌, length, true, false, ◌&&◌, IsTrue, Some, refl, sym, ◌∙◌, ap, subst, arith}
use Rattle.std.specs.List.{list_all}
use Rattle.std.proofs.lemmas.Bool.{and_parts, and_from}
use Rattle.std.proofs.lemmas.List.{append-nil, reverse-reverse}
use Rattle.calculus.specs.Syntax.{Problem}
use Rattle.calculus.specs.Problems.{formula_fits}
use Rattle.calculus.specs.Derivations.{Derivation, Step, first_sequent}
use Rattle.calculus.specs.Calculus.{Closes, Derives}
use Rattle.calculus.specs.DerivationText.{is_limit, is_printable, names_are_written, step_is_written}
use Rattle.trim_theory.specs.Trimming.{Tree, steps_of, trimmed, with_steps, ClosesBy}
use Rattle.trim_theory.specs.UsedNames.{mentioned}
use Rattle.trim_theory.specs.Trims.{IsTrimOf}
use Rattle.trim_theory.specs.Marking.{marks}
use Rattle.trim_theory.specs.Writing.{write}
use Rattle.trim_theory.specs.Editing.{edited_in}
use Rattle.trim_theory.specs.declared.edit.Edit.{Edit}
use Rattle.trim_theory.specs.Found.{marks_by, written, steps_left, derivation_left, MayReplace, same, by_edits}
use Rattle.trim_theory.proofs.TrimLaws.{tree-of_derivation, steps-close, trim-closes}
use Rattle.trim_theory.proofs.PrintLaws.{trimmed-printable}
use Rattle.trim_theory.proofs.EditingLaws.{edited-axioms, edited-closes, edited-written}
use Rattle.trim_theory.proofs.ReadingLaws.{closes-within, reads-all}
use Rattle.trim_theory.proofs.MarkingLaws.{run-marks}
use Rattle.trim_theory.proofs.WritingLaws.{trim-writes}
use Rattle.trim_theory.proofs.WholeLaws.{only_one, trimmed-is_trim}

tree-left : (P : Problem) (d : Derivation) (t : Tree) → ClosesBy P d.names (first_sequent P) t → steps_left P (steps_of t) ≡ steps_of (trimmed t)
tree-left P d t h =
    let within = closes-within P d.names h in
    let w = trim-writes 1 t (true ∷ []) [] [] [] refl within in
    ap (λ ps. written (steps_of t) (marks_by ps)) (reads-all P d.names t h)
    ∙ ap (written (steps_of t)) (run-marks t within)
    ∙ ap (λ ms. write ms (steps_of t) (0 ∷ 1 ∷ []) []) (reverse-reverse (marks false 1 t) ∙ sym (append-nil (marks false 1 t)))
    ∙ ap (λ xs. write (marks false 1 t ++ []) xs (0 ∷ 1 ∷ []) []) (sym (append-nil (steps_of t)))
    ∙ w.1
    ∙ append-nil (steps_of (trimmed t))

pub is_trim-found : (P : Problem) (d : Derivation) → formula_fits P.setting.logic P.symbols 0 P.formula ≡ true → Derives P d → IsTrimOf P d (derivation_left P d)
is_trim-found P d fits h =
    let r = tree-of_derivation P d h in
    let t = r.0 in
    let e : steps_left P d.steps ≡ steps_of (trimmed t) = ap (steps_left P) r.1.1 ∙ tree-left P d t r.1.0 in
    subst (λ xs. IsTrimOf P d (record { limit = d.limit; names = mentioned xs d.names; steps = xs })) (sym e) (trimmed-is_trim P d t fits r.1)

-- ---- by way of edited steps

still-printable : (P : Problem) (d : Derivation) (es : List Edit) (zs : List Step) (t : Tree) → edited_in P es (steps_left P d.steps) ≡ Some zs → steps_left P d.steps ≡ steps_of t → IsTrue (is_printable P (with_steps d t)) → IsTrue (is_printable P (record { limit = d.limit; names = d.names; steps = zs }))
still-printable P d es zs t edit left h =
    let parts = and_parts (is_limit d.limit && names_are_written d.names) (list_all (step_is_written P.symbols) (steps_of t)) h in
    and_from (is_limit d.limit && names_are_written d.names) (list_all (step_is_written P.symbols) zs) parts.0 (edited-written P es (steps_left P d.steps) zs edit (subst (λ xs. list_all (step_is_written P.symbols) xs ≡ true) (sym left) parts.1))

-- edited steps without idle ones, where they are no more
pub is_trim-edited : (P : Problem) (d : Derivation) (es : List Edit) (zs : List Step) → formula_fits P.setting.logic P.symbols 0 P.formula ≡ true → Derives P d → edited_in P es (steps_left P d.steps) ≡ Some zs → length (steps_left P zs) ≤ length (steps_left P d.steps) → IsTrimOf P d (record { limit = d.limit; names = mentioned (steps_left P zs) d.names; steps = steps_left P zs })
is_trim-edited P d es zs fits h edit less =
    let s = first_sequent P in
    let r = tree-of_derivation P d h in
    let t = r.0 in
    let left : steps_left P d.steps ≡ steps_of (trimmed t) = ap (steps_left P) r.1.1 ∙ tree-left P d t r.1.0 in
    let tree = trim-closes P d.names r.1.0 1 (true ∷ []) refl refl (only_one t) in
    let closes : Closes P d.names s (steps_left P d.steps) [] = subst (λ xs. Closes P d.names s xs []) (append-nil (steps_of (trimmed t)) ∙ sym left) (steps-close P d.names tree []) in
    let given = is_trim-found P d fits h in
    let e : Derivation = record { limit = d.limit; names = d.names; steps = zs } in
    let found = is_trim-found P e fits (edited-closes P d.names es (steps_left P d.steps) zs closes edit) in
    let few = given.no_longer in
    let axioms = found.axioms in
    let as_many = edited-axioms P es (steps_left P d.steps) zs edit in
    let fewer = given.axioms in
    record {
      limit = refl;
      derives = found.derives;
      printable = λ p. found.printable (still-printable P d es zs (trimmed t) edit left (trimmed-printable P d t r.1.1 p));
      no_longer = omega arith;
      axioms = omega arith;
      names = refl;
      trim = found.trim;
    }

pub is_trim-replaced : (P : Problem) (d : Derivation) (ys : List Step) → formula_fits P.setting.logic P.symbols 0 P.formula ≡ true → Derives P d → MayReplace P (steps_left P d.steps) ys → IsTrimOf P d (record { limit = d.limit; names = mentioned ys d.names; steps = ys })
is_trim-replaced P d ys fits h same = is_trim-found P d fits h
is_trim-replaced P d ys fits h (by_edits es zs edit less) = is_trim-edited P d es zs fits h edit less
