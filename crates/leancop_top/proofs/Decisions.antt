-- What the files hold is decided, where no file fails, the sink does not fail and memory does not end.
use Rattle.std.proofs.Common.{◌≡◌, List, ℕ, ◌≤◌, Option, None, Some, Result, Ok, Err, arith, refl, subst, sym}
use Rattle.std.specs.Prelude.{IfSome}
use Rattle.calculus.proofs.AnswerLaws.{closed-mono}
use Rattle.calculus.proofs.StructureTextUnique.{structure_judgement-unique}
use Rattle.calculus.specs.declared.fault.StructureCause.{StructureCause}
use Rattle.calculus.specs.Structures.{is_true}
use Rattle.calculus.specs.StructureText.{IsStructureJudgement, IsStructureText, truth_verdict}
use Rattle.calculus.specs.StructureText as verdict
use Rattle.calculus.specs.Propositional.{IsPropositional, IsTautology}
use Rattle.calculus.specs.Syntax.{Problem}
use Rattle.calculus.specs.Tableaux.{HasClosed}
use Rattle.calculus.specs.declared.version.Version.{Version}
use Rattle.calculus.specs.Translation.{translated_problem}
use Rattle.cop_base.specs.Outside.{Files, file_in, Rose}
use Rattle.cop_base.specs.Reads.{Read}
use Rattle.command_line.specs.CommandLine.{Bounds, Command, GeneratedProblem, ProblemFile, in_intuitionistic, prove, check, check_translated, transfer, migrate, make, model, tableau, tcheck, convert, bad}
use Rattle.command_line.specs.Table.{Word}
use Rattle.decision_theory.proofs.DecisionLaws.{tautology_closes_within}
use Rattle.decision_theory.proofs.ExclusionLaws.{tautology_where_closed}
use Rattle.decision_theory.specs.Decision.{proposition_count}
use Rattle.problem_build.specs.Refusals.{Refusal}
use Rattle.leancop_top.proofs.Budgets.{not_steps_ended}
use Rattle.leancop_top.proofs.Cuts.{prove-by_cut, tableau-by_cut}
use Rattle.leancop_top.specs.Commands.Check.{CheckEnds, IsJudged, TranslatedCheckEnds, accepted, rejected, not_fetched, not_translated, translated}
use Rattle.leancop_top.specs.Commands.Convert.{ConvertEnds, IsConvertDecided}
use Rattle.leancop_top.specs.Commands.Convert as convert_ends
use Rattle.leancop_top.specs.Commands.Make.{IsMakeable, MakeEnds, made_file, made_files}
use Rattle.leancop_top.specs.Commands.Make as made
use Rattle.leancop_top.specs.Commands.Migrate.{IsMigrateDecided, MigrateEnds}
use Rattle.leancop_top.specs.Commands.Migrate as migrate_ends
use Rattle.leancop_top.specs.Commands.Model.{IsModel, IsNoModel, IsTold, ModelEnds}
use Rattle.leancop_top.specs.Commands.Model as modelled
use Rattle.leancop_top.proofs.ModelLaws.{judged-truth, same-bytes, same-status, same-ways, truth-not_bad}
use Rattle.leancop_top.specs.Commands.Prove.{IsDecided, IsProblemDecided, ProveEnds, derived, fruitless}
use Rattle.leancop_top.specs.Commands.Tableau.{IsTableauDecided, IsTableauProblemDecided, TableauEnds}
use Rattle.leancop_top.specs.Commands.Tableau as tableau_ends
use Rattle.leancop_top.specs.Commands.Tcheck.{IsTcheckDecided, TcheckEnds}
use Rattle.leancop_top.specs.Commands.Tcheck as tcheck_ends
use Rattle.leancop_top.specs.Commands.Transfer.{IsTransferDecided, TransferEnds, transferred}
use Rattle.leancop_top.specs.Commands.Transfer as transfer_ends
use Rattle.leancop_top.specs.Reading.{EndsOn, IsRead, Reading, ReadingEnds, refused, unread, with_problem, without_problem}
use Rattle.leancop_top.specs.Run.{Decides, Ends}
use Rattle.leancop_top.specs.SecondFile.{FetchEnds, Lacks}
use Rattle.leancop_top.specs.SecondFile as second
use Rattle.leancop_top.specs.Statuses.{IsCounted, OnAnswer}
use Rattle.leancop_top.specs.TableauSearch.{IsLimit, SearchEnds, Suffices, least, cut, exhausted, no_tableau, steps_ended, too_large}
use Rattle.leancop_top.specs.Translating.{IsTranslatable, TranslatingEnds, too_deep}
use Rattle.leancop_top.specs.Translating as translating
use Rattle.leancop_top.specs.declared.status.Status.{Status}
use Rattle.leancop_top.specs.declared.status.Status.TheVariants as status

none-some : (text : List ℕ) (o : Option (List ℕ)) → o ≡ Some text → o ≡ None → ⊥
none-some text o e k = absurd (cc)

same-ok : (P Q : Problem) (a b : Result Problem Refusal) → a ≡ Ok P → b ≡ Ok Q → a ≡ b → P ≡ Q
same-ok P Q a b h k e = cc

ok-err : (P : Problem) (r : Refusal) (a b : Result Problem Refusal) → a ≡ Ok P → b ≡ Err r → a ≡ b → ⊥
ok-err P r a b h k e = absurd (cc)

-- ---- the files hold the problem P

-- what is read is this problem
read_is : (told : Option Files) (files : Files) (p : ProblemFile) (P : Problem) (r : Result Problem Refusal) → told ≡ Some files → Reading files p (Ok P) → IsRead told p r → Ok P ≡ r
read_is told files p P r t read h =
    subst (λ o. IfSome o (λ fs. (other : Result Problem Refusal) → Reading fs p other → other ≡ r)) t h.unique (Ok P) read

-- where no fault was counted, reading does not end the run
not_ended : (told : Option Files) (files : Files) (p : ProblemFile) (P : Problem) (m n f g : ℕ) (after : List Read) → told ≡ Some files → Reading files p (Ok P) → ¬ Rose f g → (s : Status) → ReadingEnds told p s → IsCounted m n f g after s → ⊥
not_ended told files p P m n f g after t read quiet _ (refused r h) counted = ok-err P r (Ok P) (Err r) refl refl (read_is told files p P (Err r) t read h)
not_ended told files p P m n f g after t read quiet _ (unread name h) counted = quiet counted.0

same_problem : (told : Option Files) (files : Files) (p : ProblemFile) (P Q : Problem) → told ≡ Some files → Reading files p (Ok P) → IsRead told p (Ok Q) → Q ≡ P
same_problem told files p P Q t read h = same-ok Q P (Ok Q) (Ok P) refl refl (sym (read_is told files p P (Ok Q) t read h))

-- so the command ends as it does for this problem
pub for-problem : (told : Option Files) (files : Files) (p : ProblemFile) (P : Problem) (ends : Problem → Status → List ℕ → Type 0) (m n f g : ℕ) (after : List Read) → told ≡ Some files → Reading files p (Ok P) → ¬ Rose f g → (s : Status) (bytes : List ℕ) → EndsOn told p ends s bytes → IsCounted m n f g after s → ends P s bytes
for-problem told files p P ends m n f g after t read quiet _ _ (without_problem s r) counted = absurd (not_ended told files p P m n f g after t read quiet s r counted)
for-problem told files p P ends m n f g after t read quiet _ _ (with_problem Q s bytes r h) counted =
    subst (λ X. ends X s bytes) (same_problem told files p P Q t read r) h

-- ---- prove and tableau

limit-within : (P : Problem) (b : Bounds) (d : ℕ) → IsLimit P b d → d ≤ b.limit
limit-within P b d (least h missed) = h.answer.answers.1
limit-within P b d (cut fits h) = h.within

search-decided : (P : Problem) (b : Bounds) → Suffices P b → (s : Status) → SearchEnds P b s → IsDecided (HasClosed P b.limit) s × IsTableauDecided (HasClosed P b.limit) s
search-decided P b e _ (exhausted d h) = (h.answer.answers.1, h.answer.answers.1)
search-decided P b e _ (no_tableau d h) = (h.never.none b.limit, h.never.none b.limit)
search-decided P b e _ (steps_ended d k h) = absurd (not_steps_ended P b d k e.answer e.answers e.enough h)
search-decided P b e _ (too_large h) = absurd (h e.fits)

prove-closed : (P : Problem) (b : Bounds) (v : Version) → Suffices P b → (s : Status) (bytes : List ℕ) → ProveEnds P b v s bytes → IsDecided (HasClosed P b.limit) s
prove-closed P b v e _ _ (derived d bytes h) = closed-mono P d b.limit (limit-within P b d h.limit_is) h.closed
prove-closed P b v e _ _ (fruitless s h) = (search-decided P b e s h).0

tableau-closed : (P : Problem) (b : Bounds) → Suffices P b → (s : Status) (bytes : List ℕ) → TableauEnds P b s bytes → IsTableauDecided (HasClosed P b.limit) s
tableau-closed P b e _ _ (tableau_ends.found d bytes h) = closed-mono P d b.limit (limit-within P b d h.limit_is) (record { tableau = h.tableau; closed = h.written.text.closed })
tableau-closed P b e _ _ (tableau_ends.fruitless s h) = (search-decided P b e s h).1

-- what holds exactly where another thing does is decided with it
same-decided : (A B : Type 0) → (A → B) → (B → A) → (s : Status) → IsDecided A s → IsDecided B s
same-decided A B f g (status.Derived d) h = f h
same-decided A B f g (status.Exhausted d) h = λ b. h (g b)
same-decided A B f g (status.NoTableau d) h = λ b. h (g b)
same-decided A B f g _ h = h

same-tableau_decided : (A B : Type 0) → (A → B) → (B → A) → (s : Status) → IsTableauDecided A s → IsTableauDecided B s
same-tableau_decided A B f g (status.TableauFound d) h = f h
same-tableau_decided A B f g (status.Exhausted d) h = λ b. h (g b)
same-tableau_decided A B f g (status.NoTableau d) h = λ b. h (g b)
same-tableau_decided A B f g _ h = h

-- a tautology has a tableau closed within the number of its propositions
within-limit : (P : Problem) (b : Bounds) → IsPropositional P → proposition_count P.formula ≤ b.limit → IsTautology P → HasClosed P b.limit
within-limit P b h enough t = closed-mono P (proposition_count P.formula) b.limit enough (tautology_closes_within P h t)

problem-decided : (P : Problem) (b : Bounds) (s : Status) → IsDecided (HasClosed P b.limit) s → IsProblemDecided P b s
problem-decided P b s h = record { closed = h; tautology = λ p enough. same-decided (HasClosed P b.limit) (IsTautology P) (tautology_where_closed P p b.limit) (within-limit P b p enough) s h }

prove-decided : (P : Problem) (b : Bounds) (v : Version) → Suffices P b → (s : Status) (bytes : List ℕ) → ProveEnds P b v s bytes → IsProblemDecided P b s
prove-decided P b v e s bytes h = problem-decided P b s (prove-closed P b v e s bytes h)

tableau-decided : (P : Problem) (b : Bounds) → Suffices P b → (s : Status) (bytes : List ℕ) → TableauEnds P b s bytes → IsTableauProblemDecided P b s
tableau-decided P b e s bytes h =
    let closed = tableau-closed P b e s bytes h in
    record { closed = closed; tautology = λ p enough. same-tableau_decided (HasClosed P b.limit) (IsTautology P) (tautology_where_closed P p b.limit) (within-limit P b p enough) s closed }

-- ---- check

-- a file that is held is not lacking
not_lacking : (told : Option Files) (files : Files) (file : Word) (text : List ℕ) → told ≡ Some files → file_in files file ≡ Some text → Lacks told file → ⊥
not_lacking told files file text t held h = none-some text (file_in files file) held (subst (λ o. IfSome o (λ fs. file_in fs file ≡ None)) t h)

pub fetched : (told : Option Files) (files : Files) (file : Word) (text : List ℕ) (m n f g : ℕ) (after : List Read) → told ≡ Some files → file_in files file ≡ Some text → ¬ Rose f g → (s : Status) → FetchEnds told file s → IsCounted m n f g after s → ⊥
fetched told files file text m n f g after t held quiet _ (second.missing h) counted = not_lacking told files file text t held h
fetched told files file text m n f g after t held quiet _ second.unread counted = quiet counted.0

check-decided : (told : Option Files) (files : Files) (P : Problem) (derivation : Word) (text : List ℕ) (m n f g : ℕ) (after : List Read) → told ≡ Some files → file_in files derivation ≡ Some text → ¬ Rose f g → (s : Status) (bytes : List ℕ) → CheckEnds told P derivation s bytes → IsCounted m n f g after s → IsJudged s
check-decided told files P d text m n f g after t held quiet _ _ (accepted h v) counted = tt
check-decided told files P d text m n f g after t held quiet _ _ (rejected line fault h) counted = tt
check-decided told files P d text m n f g after t held quiet _ _ (not_fetched s h) counted = absurd (fetched told files d text m n f g after t held quiet s h counted)

-- a problem whose translation passes no limit is translated
not_refused : (P : Problem) → IsTranslatable P → (s : Status) → TranslatingEnds P s → ⊥
not_refused P t _ (too_deep h) = absurd (omega (arith, t.nests, h))
not_refused P t _ (translating.too_large h k) = absurd (omega (arith, t.nodes, k))

translated-check-decided : (told : Option Files) (files : Files) (P : Problem) (derivation : Word) (text : List ℕ) (m n f g : ℕ) (after : List Read) → told ≡ Some files → file_in files derivation ≡ Some text → ¬ Rose f g → IsTranslatable P → (s : Status) (bytes : List ℕ) → TranslatedCheckEnds told P derivation s bytes → IsCounted m n f g after s → IsJudged s
translated-check-decided told files P d text m n f g after t held quiet fits _ _ (not_translated s h) counted = absurd (not_refused P fits s h)
translated-check-decided told files P d text m n f g after t held quiet fits _ _ (translated s bytes k h) counted = check-decided told files (translated_problem P) d text m n f g after t held quiet s bytes h counted

-- ---- transfer

translating-decided : (P : Problem) (s : Status) → TranslatingEnds P s → IsTransferDecided s
translating-decided P _ (too_deep h) = tt
translating-decided P _ (translating.too_large h k) = tt

transfer-decided : (told : Option Files) (files : Files) (P : Problem) (derivation : Word) (text : List ℕ) (m n f g : ℕ) (after : List Read) → told ≡ Some files → file_in files derivation ≡ Some text → ¬ Rose f g → (s : Status) (bytes : List ℕ) → TransferEnds told P derivation s bytes → IsCounted m n f g after s → IsTransferDecided s
transfer-decided told files P d text m n f g after t held quiet _ _ (transferred bytes h) counted = tt
transfer-decided told files P d text m n f g after t held quiet _ _ (transfer_ends.not_translated s h) counted = translating-decided P s h.refused
transfer-decided told files P d text m n f g after t held quiet _ _ (transfer_ends.rejected line fault h) counted = tt
transfer-decided told files P d text m n f g after t held quiet _ _ (transfer_ends.not_fetched s h) counted = absurd (fetched told files d text m n f g after t held quiet s h counted)

-- ---- migrate

migrate-decided : (told : Option Files) (files : Files) (P : Problem) (derivation : Word) (text : List ℕ) (m n f g : ℕ) (after : List Read) → told ≡ Some files → file_in files derivation ≡ Some text → ¬ Rose f g → (s : Status) (bytes : List ℕ) → MigrateEnds told P derivation s bytes → IsCounted m n f g after s → IsMigrateDecided s
migrate-decided told files P d text m n f g after t held quiet _ _ (migrate_ends.migrated bytes h) counted = tt
migrate-decided told files P d text m n f g after t held quiet _ _ (migrate_ends.rejected line fault h) counted = tt
migrate-decided told files P d text m n f g after t held quiet _ _ (migrate_ends.not_fetched s h) counted = absurd (fetched told files d text m n f g after t held quiet s h counted)

-- ---- tcheck and convert

tcheck-decided : (told : Option Files) (files : Files) (P : Problem) (name : Word) (text : List ℕ) (m n f g : ℕ) (after : List Read) → told ≡ Some files → file_in files name ≡ Some text → ¬ Rose f g → (s : Status) (bytes : List ℕ) → TcheckEnds told P name s bytes → IsCounted m n f g after s → IsTcheckDecided s
tcheck-decided told files P d text m n f g after t held quiet _ _ (tcheck_ends.accepted u limit h) counted = tt
tcheck-decided told files P d text m n f g after t held quiet _ _ (tcheck_ends.rejected line fault h) counted = tt
tcheck-decided told files P d text m n f g after t held quiet _ _ (tcheck_ends.not_fetched s h) counted = absurd (fetched told files d text m n f g after t held quiet s h counted)

convert-decided : (told : Option Files) (files : Files) (P : Problem) (name : Word) (text : List ℕ) (m n f g : ℕ) (after : List Read) → told ≡ Some files → file_in files name ≡ Some text → ¬ Rose f g → (s : Status) (bytes : List ℕ) → ConvertEnds told P name s bytes → IsCounted m n f g after s → IsConvertDecided s
convert-decided told files P d text m n f g after t held quiet _ _ (convert_ends.converted bytes h) counted = tt
convert-decided told files P d text m n f g after t held quiet _ _ (convert_ends.rejected line fault h) counted = tt
convert-decided told files P d text m n f g after t held quiet _ _ (convert_ends.not_fetched s h) counted = absurd (fetched told files d text m n f g after t held quiet s h counted)

-- ---- make

make-decided : (g : GeneratedProblem) (b : Bounds) → (e : IsMakeable g b) → (s : Status) (bytes : List ℕ) → MakeEnds g b s bytes → IsProblemDecided e.problem b s
make-decided g b e _ _ (made.derived P d text h k) =
    let same = same_problem (Some (made_files g)) (made_files g) (made_file g) e.problem P refl e.read h in
    problem-decided e.problem b (status.Derived d) (subst (λ Q. HasClosed Q b.limit) same (closed-mono P d b.limit (limit-within P b d k.limit_is) k.closed))
make-decided g b e _ _ (made.fruitless P s h k) =
    let same = same_problem (Some (made_files g)) (made_files g) (made_file g) e.problem P refl e.read h in
    problem-decided e.problem b s (search-decided e.problem b e.suffices s (subst (λ Q. SearchEnds Q b s) same k)).0
make-decided g b e _ _ (made.refused r h k) =
    absurd (ok-err e.problem r (Ok e.problem) (Err r) refl refl (read_is (Some (made_files g)) (made_files g) (made_file g) e.problem (Err r) refl e.read k))

-- ---- model

model-told : (told : Option Files) (p : ProblemFile) (structure : Word) (steps m n f g : ℕ) (after : List Read) → ¬ Rose f g → (h : IsModel told p structure steps) (s : Status) (bytes : List ℕ) → ModelEnds told h.problem structure steps s bytes → IsCounted m n f g after s → IsTold s
model-told told p structure steps m n f g after quiet h _ _ (modelled.true_at_root j) counted = tt
model-told told p structure steps m n f g after quiet h _ _ (modelled.false_at_root j u v) counted = tt
model-told told p structure steps m n f g after quiet h _ _ (modelled.bad_structure line cause j) counted =
    let same = same-bytes told h.held.files structure h.bytes j.text h.held.tells h.held.given j.held in
    let truth = judged-truth h.problem h.stated h.bytes h.is_text h.sound in
    absurd (truth-not_bad (is_true h.problem h.stated) line cause
    (j.unique (truth_verdict (is_true h.problem h.stated)) (subst (λ b. IsStructureJudgement h.problem b (truth_verdict (is_true h.problem h.stated))) (sym same) truth)))
model-told told p structure steps m n f g after quiet h _ _ (modelled.steps_ended w) counted =
    let same = same-bytes told h.held.files structure h.bytes w.text h.held.tells h.held.given w.held in
    absurd (same-ways h.problem w.stated h.stated h.bytes steps (subst (IsStructureText h.problem w.stated) same w.is_text) h.is_text w.more h.enough)
model-told told p structure steps m n f g after quiet h _ _ (modelled.not_fetched s k) counted =
    absurd (fetched told h.held.files structure h.bytes m n f g after h.held.tells h.held.given quiet s k counted)

true-not_bad : (line : ℕ) (cause : StructureCause) → verdict.bad_structure line cause ≡ verdict.true_at_root → ⊥
true-not_bad line cause e = absurd (cc)

false-not_bad : (line : ℕ) (cause : StructureCause) → verdict.bad_structure line cause ≡ verdict.false_at_root → ⊥
false-not_bad line cause e = absurd (cc)

model-bad : (told : Option Files) (p : ProblemFile) (structure : Word) (steps line : ℕ) (cause : StructureCause) (m n f g : ℕ) (after : List Read) → ¬ Rose f g → (h : IsNoModel told p structure line cause) (s : Status) (bytes : List ℕ) → ModelEnds told h.problem structure steps s bytes → IsCounted m n f g after s → s ≡ status.BadStructure line cause
model-bad told p structure steps line cause m n f g after quiet h _ _ (modelled.true_at_root j) counted =
    let same = same-bytes told h.held.files structure h.bytes j.text h.held.tells h.held.given j.held in
    absurd (true-not_bad line cause (j.unique (verdict.bad_structure line cause) (subst (λ b. IsStructureJudgement h.problem b (verdict.bad_structure line cause)) (sym same) h.bad)))
model-bad told p structure steps line cause m n f g after quiet h _ _ (modelled.false_at_root j u v) counted =
    let same = same-bytes told h.held.files structure h.bytes j.text h.held.tells h.held.given j.held in
    absurd (false-not_bad line cause (j.unique (verdict.bad_structure line cause) (subst (λ b. IsStructureJudgement h.problem b (verdict.bad_structure line cause)) (sym same) h.bad)))
model-bad told p structure steps line cause m n f g after quiet h _ _ (modelled.bad_structure k d j) counted =
    let same = same-bytes told h.held.files structure h.bytes j.text h.held.tells h.held.given j.held in
    same-status k line d cause (j.unique (verdict.bad_structure line cause) (subst (λ b. IsStructureJudgement h.problem b (verdict.bad_structure line cause)) (sym same) h.bad))
model-bad told p structure steps line cause m n f g after quiet h _ _ (modelled.steps_ended w) counted =
    let same = same-bytes told h.held.files structure h.bytes w.text h.held.tells h.held.given w.held in
    absurd (truth-not_bad (is_true h.problem w.stated) line cause
    (structure_judgement-unique h.problem h.bytes (truth_verdict (is_true h.problem w.stated)) (verdict.bad_structure line cause)
    (subst (λ b. IsStructureJudgement h.problem b (truth_verdict (is_true h.problem w.stated))) same w.judged) h.bad))
model-bad told p structure steps line cause m n f g after quiet h _ _ (modelled.not_fetched s k) counted =
    absurd (fetched told h.held.files structure h.bytes m n f g after h.held.tells h.held.given quiet s k counted)

-- ---- the commands

pub decided : (told : Option Files) (command : Command) (s : Status) (bytes : List ℕ) (m n f g : ℕ) (after : List Read) → Ends told command s bytes → IsCounted m n f g after s → ¬ Rose f g → Decides told command s
decided told (prove p b v) s bytes m n f g after ends counted quiet = (
  λ h. prove-decided h.problem b v h.suffices s bytes (for-problem told h.files p h.problem (λ P. ProveEnds P b v) m n f g after h.tells h.read quiet s bytes ends counted),
  λ d h. prove-by_cut h.problem b v d h.suffices s bytes (for-problem told h.files p h.problem (λ P. ProveEnds P b v) m n f g after h.tells h.read quiet s bytes ends counted),
)
decided told (check p d) s bytes m n f g after ends counted quiet = λ h.
    check-decided told h.files h.problem d h.bytes m n f g after h.tells h.given quiet s bytes (for-problem told h.files p h.problem (λ P. CheckEnds told P d) m n f g after h.tells h.read quiet s bytes ends counted) counted
decided told (check_translated p d) s bytes m n f g after ends counted quiet = λ h.
    let c = h.checkable in
    translated-check-decided told c.files c.problem d c.bytes m n f g after c.tells c.given quiet h.translatable s bytes (for-problem told c.files (in_intuitionistic p) c.problem (λ P. TranslatedCheckEnds told P d) m n f g after c.tells c.read quiet s bytes ends counted) counted
decided told (transfer p d) s bytes m n f g after ends counted quiet = λ h.
    transfer-decided told h.files h.problem d h.bytes m n f g after h.tells h.given quiet s bytes (for-problem told h.files (in_intuitionistic p) h.problem (λ P. TransferEnds told P d) m n f g after h.tells h.read quiet s bytes ends counted) counted
decided told (migrate p d) s bytes m n f g after ends counted quiet = λ h.
    migrate-decided told h.files h.problem d h.bytes m n f g after h.tells h.given quiet s bytes (for-problem told h.files p h.problem (λ P. MigrateEnds told P d) m n f g after h.tells h.read quiet s bytes ends counted) counted
decided told (make g b) s bytes m n f k after ends counted quiet = λ h. make-decided g b h s bytes ends
decided told (model p d b) s bytes m n f g after ends counted quiet = (
  λ h. model-told told p d b m n f g after quiet h s bytes (for-problem told h.held.files p h.problem (λ P. ModelEnds told P d b) m n f g after h.held.tells h.held.read quiet s bytes ends counted) counted,
  λ line cause h. model-bad told p d b line cause m n f g after quiet h s bytes (for-problem told h.held.files p h.problem (λ P. ModelEnds told P d b) m n f g after h.held.tells h.held.read quiet s bytes ends counted) counted,
)
decided told (tableau p b) s bytes m n f g after ends counted quiet = (
  λ h. tableau-decided h.problem b h.suffices s bytes (for-problem told h.files p h.problem (λ P. TableauEnds P b) m n f g after h.tells h.read quiet s bytes ends counted),
  λ d h. tableau-by_cut h.problem b d h.suffices s bytes (for-problem told h.files p h.problem (λ P. TableauEnds P b) m n f g after h.tells h.read quiet s bytes ends counted),
)
decided told (tcheck p d) s bytes m n f g after ends counted quiet = λ h.
    tcheck-decided told h.files h.problem d h.bytes m n f g after h.tells h.given quiet s bytes (for-problem told h.files p h.problem (λ P. TcheckEnds told P d) m n f g after h.tells h.read quiet s bytes ends counted) counted
decided told (convert p d) s bytes m n f g after ends counted quiet = λ h.
    convert-decided told h.files h.problem d h.bytes m n f g after h.tells h.given quiet s bytes (for-problem told h.files p h.problem (λ P. ConvertEnds told P d) m n f g after h.tells h.read quiet s bytes ends counted) counted
decided told (bad place) s bytes m n f g after ends counted quiet = tt

-- so it is where anything is answered
pub on-answer : (fact : Type 0) (s : Status) → fact → OnAnswer s fact
on-answer fact status.WriteFault h = tt
on-answer fact status.NoMemory h = tt
on-answer fact s h = h
