-- What has been read of a body, what may follow it, and the causes of faults in it.
use Rattle.std.proofs.Common.{◌≡◌, ◌≢◌, ℕ, List, [], ◌∷◌, ◌++◌, length, map, drop, Bool, true, false, ◌||◌, IsTrue, refl, sym, ◌∙◌, ap, append_assoc, append-nil, slice_get, codes, Option, None, Some, flat_map, if◌then◌else◌, ◌&&◌}
use Rattle.std.specs.List.{list_all, list_any}
use Rattle.std.proofs.lemmas.Bool.{and_parts}
use Rattle.std.proofs.lemmas.List.Folds.{list_all-append, list_any-append}
use Rattle.plain_laws.proofs.Lists.{map-append, nothing-after}
use Rattle.plain_laws.proofs.Options.{none-some, some-eq}
use Rattle.calculus.specs.declared.fault.TextCause.{TextCause}
use Rattle.calculus.specs.declared.fault.TextCause.TheVariants as cause
use Rattle.calculus.specs.Syntax.{Symbol, Problem}
use Rattle.calculus.specs.Problems.{is_problem}
use Rattle.calculus.specs.Derivations.{EigenName, SpareName, Step, apply_to, close, Derivation}
use Rattle.calculus.specs.DerivationText.{derivation_lines, eigen_line, head_lines, is_printable, spare_line, step_line}
use Rattle.calculus.specs.FirstWrong.{line_bytes, is_end_line, whole_lines, IsFaulty, cause_after, cause_at}
use Rattle.calculus.specs.VersionJudgement.{is_name_line, cause_in_body, text_causes}
use Rattle.calculus.specs.Versions.{derivation_texts, IsTextIn}
use Rattle.calculus.specs.declared.version.Version.TheVariants.{One}
use Rattle.text_lines.proofs.FirstWrong.{IsBegun, cause-behind, faulty}
use Rattle.logic_rules.proofs.ProblemFacts.{kept}
use Rattle.derivation_text.specs.declared.body_line.Stage.{Stage}
use Rattle.derivation_text.specs.declared.body_line.Stage.TheVariants.{Eigens, Spares, Steps, Ended}
use Rattle.derivation_text.specs.Body.{BodyLine, last, IsBodyLine, body_line_text, body_line_is_written, stage_after, stage_after_lines, names_and_steps}
use Rattle.derivation_text.specs.Reading.{Fits, IsReadTo, cause_at_stage, ending, lines_at, lines_read}
use Rattle.text_lines.specs.Lines.{IsLineAt}
use Rattle.derivation_text.proofs.BodyLaws.{body, body-begins, body-ends, body-written, lines-body, lines-of, printable-so_far, stage-append, stage-none}
use Rattle.derivation_text.proofs.LineFeeds.{lines-feed}

tail-eq : {A : Type 0} (x y : A) (xs ys : List A) → x ∷ xs ≡ y ∷ ys → xs ≡ ys
tail-eq x y xs ys e = cc

head-eq : {A : Type 0} (x y : A) (xs ys : List A) → x ∷ xs ≡ y ∷ ys → x ≡ y
head-eq x y xs ys e = cc

-- ---- lines that may follow

-- after four lines of the head
pub after-head : (P : Problem) (e : Derivation) (m : ℕ) (ls rest : List (List ℕ)) → derivation_lines P e ≡ (head_lines P m ++ ls) ++ rest → map (body_line_text P.symbols) (body e) ≡ ls ++ rest
after-head P e m ls rest h =
    let f = sym (lines-body P e) ∙ h ∙ append_assoc (head_lines P m) ls rest in
    tail-eq _ _ _ _ (tail-eq _ _ _ _ (tail-eq _ _ _ _ (tail-eq _ _ _ _ f)))

-- a line that may not stand here is in no derivation that begins so
pub refused : (P : Problem) → IsTrue (is_problem P) → (m : ℕ) (xs : List BodyLine) (s : Stage) → IsTrue (list_all (body_line_is_written P.symbols) xs) → stage_after_lines (Some (Eigens 0)) xs ≡ Some s
    → (l : List ℕ) → ((x : BodyLine) → IsBodyLine P.symbols l x → stage_after s x ≡ None)
    → (e : Derivation) → IsTrue (is_printable P e) → (rest : List (List ℕ)) → derivation_lines P e ≡ (head_lines P m ++ map (body_line_text P.symbols) xs) ++ l ∷ rest → ⊥
refused P w m xs s written order l none e printable rest same =
    let f = after-head P e m (map (body_line_text P.symbols) xs) (l ∷ rest) same in
    let b = body-begins P.symbols (kept P w).distinct xs (body e) (l ∷ rest) written (body-written P e printable) f in
    by-next b.0 b.1 b.2 b.3
  where
    by-next : (zs : List BodyLine) → body e ≡ xs ++ zs → map (body_line_text P.symbols) zs ≡ l ∷ rest → IsTrue (list_all (body_line_is_written P.symbols) zs) → ⊥
    by-next [] all lines hz = absurd (cc)
    by-next (z ∷ zs) all lines hz =
        let p = and_parts (body_line_is_written P.symbols z) (list_all (body_line_is_written P.symbols) zs) hz in
        let stop = none z (record { written = p.0; same = sym (head-eq _ _ _ _ lines) }) in
        none-some (stage_after_lines (Some (Eigens 0)) (body e)) Ended
        (ap (stage_after_lines (Some (Eigens 0))) all ∙ stage-append (Some (Eigens 0)) xs (z ∷ zs) ∙ ap (λ o. stage_after_lines o (z ∷ zs)) order ∙ ap (λ o. stage_after_lines o zs) stop ∙ stage-none zs)
        (body-ends P e printable)

-- where these are all lines, they end
pub whole-ends : (P : Problem) → IsTrue (is_problem P) → (m : ℕ) (xs : List BodyLine) (s : Stage) → IsTrue (list_all (body_line_is_written P.symbols) xs) → stage_after_lines (Some (Eigens 0)) xs ≡ Some s
    → (e : Derivation) → IsTrue (is_printable P e) → derivation_lines P e ≡ head_lines P m ++ map (body_line_text P.symbols) xs → s ≡ Ended
whole-ends P w m xs s written order e printable same =
    let f = after-head P e m (map (body_line_text P.symbols) xs) [] (same ∙ sym (append-nil (head_lines P m ++ map (body_line_text P.symbols) xs))) in
    let b = body-begins P.symbols (kept P w).distinct xs (body e) [] written (body-written P e printable) f in
    by-rest b.0 b.1 b.2
  where
    by-rest : (zs : List BodyLine) → body e ≡ xs ++ zs → map (body_line_text P.symbols) zs ≡ [] → s ≡ Ended
    by-rest [] all lines = some-eq s Ended (sym order ∙ ap (stage_after_lines (Some (Eigens 0))) (sym (append-nil xs) ∙ sym all) ∙ body-ends P e printable)
    by-rest (z ∷ zs) all lines = absurd (cc)

-- ---- what has been read

printable-at : (P : Problem) (bytes : List ℕ) (place : ℕ) (s : Stage) (d : Derivation) → IsReadTo P bytes place s d → IsTrue (is_printable P d)
printable-at P bytes place s d r =
    let b = names_and_steps d.names.eigens d.names.spares d.steps in
    let w = and_parts (list_all (body_line_is_written P.symbols) b) (list_all (body_line_is_written P.symbols) (ending s)) (sym (list_all-append (body_line_is_written P.symbols) b (ending s)) ∙ r.written) in
    let o = reached (stage_after_lines (Some (Eigens 0)) b) (ending s) s (sym (stage-append (Some (Eigens 0)) b (ending s)) ∙ r.order) in
    printable-so_far P d.limit d.names.eigens d.names.spares d.steps o.0 r.limit w.0 o.1
  where
    reached : (o : Option Stage) (xs : List BodyLine) (s : Stage) → stage_after_lines o xs ≡ Some s → (t : Stage) × (o ≡ Some t)
    reached None xs s e = absurd (none-some _ s (stage-none xs) e)
    reached (Some t) xs s e = (t, refl)

open-lines : (P : Problem) (d : Derivation) → derivation_lines P d ≡ (head_lines P d.limit ++ map (body_line_text P.symbols) (names_and_steps d.names.eigens d.names.spares d.steps ++ [])) ++ codes "end" ∷ []
open-lines P d =
    let b = names_and_steps d.names.eigens d.names.spares d.steps in
    lines-body P d
    ∙ ap (λ l. head_lines P d.limit ++ l) (map-append (body_line_text P.symbols) b (last ∷ []))
    ∙ sym (append_assoc (head_lines P d.limit) (map (body_line_text P.symbols) b) (codes "end" ∷ []))
    ∙ ap (λ l. (head_lines P d.limit ++ map (body_line_text P.symbols) l) ++ codes "end" ∷ []) (sym (append-nil b))

-- the derivation read so far begins with the lines read
pub begun-here : (P : Problem) (bytes : List ℕ) (place : ℕ) (s : Stage) (d : Derivation) → IsReadTo P bytes place s d → IsBegun (derivation_texts One P) (lines_read P s d)
begun-here P bytes place Ended d r = record {
  whose = d;
  printable = printable-at P bytes place Ended d r;
  rest = [];
  all = lines-body P d ∙ sym (append-nil (lines_read P Ended d));
}
begun-here P bytes place (Eigens n) d r = record { whose = d; printable = printable-at P bytes place (Eigens n) d r; rest = codes "end" ∷ []; all = open-lines P d }
begun-here P bytes place (Spares n) d r = record { whose = d; printable = printable-at P bytes place (Spares n) d r; rest = codes "end" ∷ []; all = open-lines P d }
begun-here P bytes place Steps d r = record { whose = d; printable = printable-at P bytes place Steps d r; rest = codes "end" ∷ []; all = open-lines P d }

-- the whole text is read
pub text-read : (P : Problem) (bytes : List ℕ) (place : ℕ) (d : Derivation) → IsReadTo P bytes place Ended d → place ≡ length bytes → IsTextIn One P d bytes
text-read P bytes place d r e = record {
  printable = printable-at P bytes place Ended d r;
  text = r.lines.text
      ∙ ap (λ k. flat_map line_bytes (lines_read P Ended d) ++ k) (ap (λ k. drop k bytes) e ∙ drop-all bytes)
      ∙ append-nil (flat_map line_bytes (lines_read P Ended d))
      ∙ ap (flat_map line_bytes) (sym (lines-body P d));
}
  where
    drop-all : (bs : List ℕ) → drop (length bs) bs ≡ []
    drop-all [] = refl
    drop-all (b ∷ bs) = drop-all bs

-- ---- faults

-- the next line may not stand here
pub fault-at_line : (P : Problem) → IsTrue (is_problem P) → (bytes : List ℕ) (place to : ℕ) (s : Stage) (d : Derivation) (l : List ℕ) → IsReadTo P bytes place s d → IsLineAt bytes place to l
    → ((x : BodyLine) → IsBodyLine P.symbols l x → stage_after s x ≡ None) → IsFaulty (derivation_texts One P) bytes (length (lines_read P s d))
fault-at_line P w bytes place to s d l r here none =
    faulty (derivation_texts One P) (lines-feed P w) bytes (lines_read P s d) (l ∷ whole_lines (drop to bytes)) (r.lines.whole ∙ ap (λ k. lines_read P s d ++ k) here.whole) (begun-here P bytes place s d r) next done
  where
    next : (e : Derivation) → IsTrue (is_printable P e) → (k : List ℕ) (rest more : List (List ℕ)) → derivation_lines P e ≡ lines_read P s d ++ k ∷ rest → l ∷ whole_lines (drop to bytes) ≡ k ∷ more → ⊥
    next e printable k rest more same first =
        refused P w d.limit (lines_at s d) s r.written r.order l none e printable rest (same ∙ ap (λ (j : List ℕ). lines_read P s d ++ j ∷ rest) (sym (head-eq _ _ _ _ first)))

    no_more : (a b : List ℕ) → a ++ 10 ∷ b ≡ [] → ⊥
    no_more [] b e = cc
    no_more (x ∷ a) b e = cc

    done : (e : Derivation) → IsTextIn One P e bytes → derivation_lines P e ≡ lines_read P s d → ⊥
    done e t same = no_more l (drop to bytes) (sym here.text ∙ nothing-after bytes (flat_map line_bytes (lines_read P s d)) (drop place bytes) r.lines.text (t.text ∙ ap (flat_map line_bytes) same))

-- no whole line follows, and the text has not ended as it should
pub fault-at_end : (P : Problem) → IsTrue (is_problem P) → (bytes : List ℕ) (place : ℕ) (s : Stage) (d : Derivation) → IsReadTo P bytes place s d → whole_lines (drop place bytes) ≡ []
    → (s ≡ Ended → drop place bytes ≡ [] → ⊥) → IsFaulty (derivation_texts One P) bytes (length (lines_read P s d))
fault-at_end P w bytes place s d r none unfinished =
    faulty (derivation_texts One P) (lines-feed P w) bytes (lines_read P s d) [] (r.lines.whole ∙ ap (λ k. lines_read P s d ++ k) none) (begun-here P bytes place s d r) next done
  where
    next : (e : Derivation) → IsTrue (is_printable P e) → (k : List ℕ) (rest more : List (List ℕ)) → derivation_lines P e ≡ lines_read P s d ++ k ∷ rest → [] ≡ k ∷ more → ⊥
    next e printable k rest more same first = cc first

    done : (e : Derivation) → IsTextIn One P e bytes → derivation_lines P e ≡ lines_read P s d → ⊥
    done e t same = unfinished
        (whole-ends P w d.limit (lines_at s d) s r.written r.order e t.printable same)
        (nothing-after bytes (flat_map line_bytes (lines_read P s d)) (drop place bytes) r.lines.text (t.text ∙ ap (flat_map line_bytes) same))

-- ---- causes

any-map : {X : Type 0} (f : X → List ℕ) → ((x : X) → is_end_line (f x) ≡ false) → (xs : List X) → list_any is_end_line (map f xs) ≡ false
any-map f g [] = refl
any-map f g (x ∷ xs) = rw (g x, any-map f g xs) refl

step-ends_not : (S : List Symbol) (x : Step) → is_end_line (step_line S x) ≡ false
step-ends_not S (apply_to n m t) = refl
step-ends_not S (close n k) = refl

step-names_not : (S : List Symbol) (x : Step) → is_name_line (step_line S x) ≡ false
step-names_not S (apply_to n m t) = refl
step-names_not S (close n k) = refl

all-map : {X : Type 0} (f : X → List ℕ) → ((x : X) → is_name_line (f x) ≡ true) → (xs : List X) → list_all is_name_line (map f xs) ≡ true
all-map f g [] = refl
all-map f g (x ∷ xs) = rw (g x, all-map f g xs) refl

no-end : (S : List Symbol) (es : List EigenName) (ss : List SpareName) (xs : List Step) → list_any is_end_line (map eigen_line es ++ (map spare_line ss ++ map (step_line S) xs)) ≡ false
no-end S es ss xs =
    list_any-append is_end_line (map eigen_line es) (map spare_line ss ++ map (step_line S) xs)
    ∙ rw (list_any-append is_end_line (map spare_line ss) (map (step_line S) xs), any-map eigen_line (λ x. refl) es, any-map spare_line (λ x. refl) ss, any-map (step_line S) (step-ends_not S) xs) refl

names-then : (S : List Symbol) (es : List EigenName) (ss : List SpareName) (xs : List Step) → list_all is_name_line (map eigen_line es ++ (map spare_line ss ++ map (step_line S) xs)) ≡ list_all is_name_line (map (step_line S) xs)
names-then S es ss xs =
    list_all-append is_name_line (map eigen_line es) (map spare_line ss ++ map (step_line S) xs)
    ∙ rw (list_all-append is_name_line (map spare_line ss) (map (step_line S) xs), all-map eigen_line (λ x. refl) es, all-map spare_line (λ x. refl) ss) refl

-- the texts of the lines of a body, and how they end and begin
record BodyTexts (S : List Symbol) (d : Derivation) : Type 0 where
  open_end : list_any is_end_line (map (body_line_text S) (names_and_steps d.names.eigens d.names.spares d.steps ++ [])) ≡ false
  names : list_all is_name_line (map (body_line_text S) (names_and_steps d.names.eigens d.names.spares d.steps ++ [])) ≡ list_all is_name_line (map (step_line S) d.steps)
  closed_end : list_any is_end_line (map (body_line_text S) (names_and_steps d.names.eigens d.names.spares d.steps ++ last ∷ [])) ≡ true

texts : (S : List Symbol) (d : Derivation) → BodyTexts S d
texts S d =
    let b = names_and_steps d.names.eigens d.names.spares d.steps in
    let l = lines-of S d.names.eigens d.names.spares d.steps in
    let o : map (body_line_text S) (b ++ []) ≡ map eigen_line d.names.eigens ++ (map spare_line d.names.spares ++ map (step_line S) d.steps) = ap (map (body_line_text S)) (append-nil b) ∙ l in
    record {
      open_end = ap (list_any is_end_line) o ∙ no-end S d.names.eigens d.names.spares d.steps;
      names = ap (list_all is_name_line) o ∙ names-then S d.names.eigens d.names.spares d.steps;
      closed_end = ap (list_any is_end_line) (map-append (body_line_text S) b (last ∷ []) ∙ ap (λ k. k ++ codes "end" ∷ []) l)
          ∙ list_any-append is_end_line (map eigen_line d.names.eigens ++ (map spare_line d.names.spares ++ map (step_line S) d.steps)) (codes "end" ∷ [])
          ∙ ap (λ b. b || true) (no-end S d.names.eigens d.names.spares d.steps);
    }

cause-open : (ends : Bool) (before : List (List ℕ)) (next : Option (List ℕ)) (c : TextCause) → ends ≡ false → cause_in_body One before next ≡ c → (if ends then cause.TextAfterEnd else cause_in_body One before next) ≡ c
cause-open ends before next c e f = rw e f

some-steps : (S : List Symbol) (xs : List Step) → xs ≢ [] → list_all is_name_line (map (step_line S) xs) ≡ false
some-steps S [] h = absurd (h refl)
some-steps S (x ∷ xs) h = rw (step-names_not S x) refl

not-names : (before : List (List ℕ)) (next : Option (List ℕ)) → list_all is_name_line before ≡ false → cause_in_body One before next ≡ cause.Line
not-names before None e = refl
not-names before (Some l) e = ap (λ b. if b && is_name_line l then cause.Name else cause.Line) e

all-names : (before : List (List ℕ)) (next : Option (List ℕ)) → list_all is_name_line before ≡ true → cause_in_body One before next ≡ cause_in_body One [] next
all-names before None e = refl
all-names before (Some l) e = ap (λ b. if b && is_name_line l then cause.Name else cause.Line) e

-- the lines of a body that goes on
abbrev open_body : List Symbol → Derivation → List (List ℕ)
open_body S d = map (body_line_text S) (names_and_steps d.names.eigens d.names.spares d.steps ++ [])

cause-of_lines : (P : Problem) (s : Stage) (d : Derivation) (next : Option (List ℕ)) → Fits s d → cause_after (text_causes One) (lines_read P s d) next ≡ cause_at_stage s next
cause-of_lines P (Eigens n) d next f =
    let t = texts P.symbols d in
    let ls = open_body P.symbols d in
    cause-open (list_any is_end_line ls) ls next (cause_in_body One [] next) t.open_end (all-names ls next (t.names ∙ ap (λ xs. list_all is_name_line (map (step_line P.symbols) xs)) f.1))
cause-of_lines P (Spares n) d next f =
    let t = texts P.symbols d in
    let ls = open_body P.symbols d in
    cause-open (list_any is_end_line ls) ls next (cause_in_body One [] next) t.open_end (all-names ls next (t.names ∙ ap (λ xs. list_all is_name_line (map (step_line P.symbols) xs)) f))
cause-of_lines P Steps d next f =
    let t = texts P.symbols d in
    let ls = open_body P.symbols d in
    cause-open (list_any is_end_line ls) ls next cause.Line t.open_end (not-names ls next (t.names ∙ some-steps P.symbols d.steps f))
cause-of_lines P Ended d next f =
    let ls = map (body_line_text P.symbols) (names_and_steps d.names.eigens d.names.spares d.steps ++ last ∷ []) in
    ap (λ b. if b then cause.TextAfterEnd else cause_in_body One ls next) (texts P.symbols d).closed_end

pub cause-at_stage : (P : Problem) (bytes : List ℕ) (place : ℕ) (s : Stage) (d : Derivation) → IsReadTo P bytes place s d → cause_at (text_causes One) bytes (length (lines_read P s d)) ≡ cause_at_stage s (slice_get (whole_lines (drop place bytes)) 0)
cause-at_stage P bytes place s d r = cause-behind (text_causes One) bytes (lines_read P s d) (whole_lines (drop place bytes)) r.lines.whole ∙ cause-of_lines P s d (slice_get (whole_lines (drop place bytes)) 0) r.fits
