-- Reading the text of a tableau line by line, and where it is wrong first.
use Rattle.std.proofs.Common.{Option, slice_get, ◌≡◌, ℕ, ◌+◌, List, [], ◌∷◌, ◌++◌, length, map, drop, Bool, true, false, ◌&&◌, IsTrue, None, Some, refl, sym, ◌∙◌, ap, subst, append_assoc, append-nil, flat_map, codes, if◌then◌else◌}
use Rattle.std.specs.List.{list_all, list_any}
use Rattle.std.proofs.lemmas.Bool.{and_from, and_parts}
use Rattle.std.proofs.lemmas.List.Folds.{list_all-append}
use Rattle.calculus.specs.declared.fault.TableauFault.{TableauFault}
use Rattle.calculus.specs.declared.fault.TableauFault.TheVariants as fault
use Rattle.calculus.specs.Syntax.{Symbol, Problem}
use Rattle.calculus.specs.Problems.{is_problem}
use Rattle.calculus.specs.DerivationText.{is_limit}
use Rattle.calculus.specs.FirstWrong.{line_bytes, is_end_line, whole_lines, IsFaulty, cause_after, IsFirstWrong}
use Rattle.calculus.specs.TableauText.{Chosen, Move, reduction, extension, Moves, chosen_text, move_line, chosen_is_written, move_is_written, tableau_head, IsMovesText, moves_texts, tableau_causes}
use Rattle.text_lines.specs.Head.{IsHeadFault, IsHeadRead, lines_before}
use Rattle.text_lines.specs.Lines.{AreRead, IsLineAt}
use Rattle.text_lines.specs.declared.head_line.HeadLine.{HeadLine}
use Rattle.text_lines.proofs.FirstWrong.{wrong-behind}
use Rattle.text_lines.proofs.HeadFaults.{HasHead, head-fault}
use Rattle.text_lines.proofs.StagedLines.{AreReadTo, run, wrong-line, wrong-end}
use Rattle.text_lines.proofs.WholeLines.{more-read}
use Rattle.tableau_text.specs.MoveLines.{Line, of_start, of_move, last, line_text, line_is_written, Stage, starting, moving, ended, stage_after, body_to, fault_at, IsReadTo, with_move, IsChosenText, IsMoveLine}
use Rattle.tableau_text.proofs.MoveFeeds.{moves-feed, written-moves}
use Rattle.tableau_text.proofs.MoveKinds.{the_kind, is-kind}

-- ---- what is wrong first

abbrev IsWrong : Problem → List ℕ → ℕ → TableauFault → Type 0
IsWrong P bytes line why = IsFirstWrong (moves_texts P) tableau_causes bytes line why

wrong-text : (P : Problem) (bytes : List ℕ) (seen tail : List (List ℕ)) (line : ℕ) (why : TableauFault) → whole_lines bytes ≡ seen ++ tail → IsFaulty (moves_texts P) bytes (length seen) → line ≡ length seen + 1 → why ≡ cause_after tableau_causes seen (slice_get tail 0) → IsWrong P bytes line why
wrong-text P bytes seen tail line why whole h n w = wrong-behind (moves_texts P) tableau_causes bytes seen tail line why whole h n w

-- ---- the head

abbrev blank : ℕ → Moves
blank n = record { limit = n; start = record { sides = []; values = [] }; moves = [] }

begins-so : (P : Problem) → IsTrue (is_problem P) → HasHead (moves_texts P) (codes "leancop tableau 1") P
begins-so P w = record {
  feeds = moves-feed P w;
  limit = λ (x : Moves). x.limit;
  within = λ x h. (written-moves P x h).limit;
  rest = λ (x : Moves). (codes "start " ++ chosen_text P.symbols x.start) ∷ (map (move_line P.symbols) x.moves ++ codes "end" ∷ []);
  lines_are = λ x. refl;
  blank = blank 1;
  blank_printable = refl;
}

pub fault-head : (P : Problem) → IsTrue (is_problem P) → (bytes : List ℕ) (line : HeadLine) → IsHeadFault (codes "leancop tableau 1") P bytes line → (c : TableauFault) → ((next : Option (List ℕ)) → cause_after tableau_causes (lines_before (codes "leancop tableau 1") P line) next ≡ c)
    → IsFirstWrong (moves_texts P) tableau_causes bytes (length (lines_before (codes "leancop tableau 1") P line) + 1) c
fault-head P w bytes line h c why = head-fault (moves_texts P) tableau_causes (codes "leancop tableau 1") P (begins-so P w) bytes line h c why

-- ---- behind the head

moves-good : (S : List Symbol) (ms : List Move) → IsTrue (list_all (move_is_written S) ms) → IsTrue (list_all (line_is_written S) (map of_move ms))
moves-good S [] h = refl
moves-good S (m ∷ ms) h =
    let p = and_parts (move_is_written S m) (list_all (move_is_written S) ms) h in
    and_from (move_is_written S m) (list_all (line_is_written S) (map of_move ms)) p.0 (moves-good S ms p.1)

run-to : (P : Problem) (ms : List Move) → run (the_kind P) (Some moving) (map of_move ms) ≡ Some moving
run-to P [] = refl
run-to P (m ∷ ms) = run-to P ms

abbrev stage_at : Bool → Stage
stage_at false = moving
stage_at true = ended

-- what has been read stands in the form of staged lines
staged : (P : Problem) → IsTrue (is_problem P) → (bytes : List ℕ) (place : ℕ) (x : Moves) (done : Bool) → IsReadTo P bytes place x done → AreReadTo (the_kind P) bytes place (stage_at done) (tableau_head P x.limit) (body_to x done)
staged P w bytes place x false r = record {
  lines = r.lines;
  good = let p = written-moves P x r.written in and_from (chosen_is_written P.symbols x.start) (list_all (line_is_written P.symbols) (map of_move x.moves)) p.start (moves-good P.symbols x.moves p.moves);
  order = run-to P x.moves;
  begun = record {
    whose = x;
    printable = r.written;
    rest = codes "end" ∷ [];
    all = ap (λ l. (tableau_head P x.limit ++ (codes "start " ++ chosen_text P.symbols x.start) ∷ l) ++ codes "end" ∷ []) (sym (plain P.symbols x.moves));
  };
  heads = λ d h. refl;
}
  where
    plain : (S : List Symbol) (ms : List Move) → map (line_text S) (map of_move ms) ≡ map (move_line S) ms
    plain S [] = refl
    plain S (m ∷ ms) = ap (λ l. move_line S m ∷ l) (plain S ms)
staged P w bytes place x true r = record {
  lines = r.lines;
  good = (is-kind P w).written x r.written;
  order = (is-kind P w).ends x r.written;
  begun = record { whose = x; printable = r.written; rest = []; all = (is-kind P w).lines_are x ∙ sym (append-nil (tableau_head P x.limit ++ map (line_text P.symbols) (body_to x true))) };
  heads = λ d h. refl;
}

-- ---- reading on

pub start-read : (P : Problem) (bytes : List ℕ) (place to top : ℕ) (i : Chosen) (line rest : List ℕ) → IsHeadRead (codes "leancop tableau 1") P bytes place top → IsLineAt bytes place to line → line ≡ codes "start " ++ rest → IsChosenText P.symbols rest i
    → IsReadTo P bytes to (record { limit = top; start = i; moves = [] }) false
start-read P bytes place to top i line rest h l e t = record {
  written = and_from (is_limit top && chosen_is_written P.symbols i) true (and_from (is_limit top) (chosen_is_written P.symbols i) h.limit t.written) refl;
  lines = subst (λ k. AreRead bytes (tableau_head P top ++ k ∷ []) to) (e ∙ ap (λ r. codes "start " ++ r) t.same) (more-read bytes (tableau_head P top) place to line h.lines l);
}

body-move : (x : Moves) (m : Move) → body_to (with_move x m) false ≡ body_to x false ++ of_move m ∷ []
body-move x m = ap (λ l. of_start x.start ∷ l) (by x.moves)
  where
    by : (ms : List Move) → map of_move (ms ++ m ∷ []) ≡ map of_move ms ++ of_move m ∷ []
    by [] = refl
    by (n ∷ ms) = ap (λ l. of_move n ∷ l) (by ms)

map-last : (S : List Symbol) (ls : List Line) (l : Line) → map (line_text S) (ls ++ l ∷ []) ≡ map (line_text S) ls ++ line_text S l ∷ []
map-last S [] l = refl
map-last S (k ∷ ls) l = ap (λ r. line_text S k ∷ r) (map-last S ls l)

one-more : (P : Problem) (bytes : List ℕ) (place to : ℕ) (x : Moves) (ls : List Line) (l : Line) (line : List ℕ) → AreRead bytes (tableau_head P x.limit ++ map (line_text P.symbols) ls) place → IsLineAt bytes place to line → line ≡ line_text P.symbols l → AreRead bytes (tableau_head P x.limit ++ map (line_text P.symbols) (ls ++ l ∷ [])) to
one-more P bytes place to x ls l line r h e =
    subst (λ k. AreRead bytes k to)
    (append_assoc (tableau_head P x.limit) (map (line_text P.symbols) ls) (line ∷ []) ∙ ap (λ k. tableau_head P x.limit ++ (map (line_text P.symbols) ls ++ k ∷ [])) e ∙ ap (λ k. tableau_head P x.limit ++ k) (sym (map-last P.symbols ls l)))
    (more-read bytes (tableau_head P x.limit ++ map (line_text P.symbols) ls) place to line r h)

pub move-read : (P : Problem) (bytes : List ℕ) (place to : ℕ) (x : Moves) (m : Move) (line : List ℕ) → IsReadTo P bytes place x false → IsLineAt bytes place to line → IsMoveLine P.symbols line m → IsReadTo P bytes to (with_move x m) false
move-read P bytes place to x m line r h t =
    let p = written-moves P x r.written in record {
      written = and_from (is_limit x.limit && chosen_is_written P.symbols x.start) (list_all (move_is_written P.symbols) (x.moves ++ m ∷ [])) (and_from (is_limit x.limit) (chosen_is_written P.symbols x.start) p.limit p.start)
          (list_all-append (move_is_written P.symbols) x.moves (m ∷ []) ∙ and_from (list_all (move_is_written P.symbols) x.moves) (move_is_written P.symbols m && true) p.moves (and_from (move_is_written P.symbols m) true t.written refl));
      lines = subst (λ ls. AreRead bytes (tableau_head P x.limit ++ map (line_text P.symbols) ls) to) (sym (body-move x m)) (one-more P bytes place to x (body_to x false) (of_move m) line r.lines h t.same);
    }

pub end-read : (P : Problem) (bytes : List ℕ) (place to : ℕ) (x : Moves) (line : List ℕ) → IsReadTo P bytes place x false → IsLineAt bytes place to line → line ≡ codes "end" → IsReadTo P bytes to x true
end-read P bytes place to x line r h e = record { written = r.written; lines = one-more P bytes place to x (body_to x false) last line r.lines h e }

pub all-read : (P : Problem) → IsTrue (is_problem P) → (bytes : List ℕ) (place : ℕ) (x : Moves) → IsReadTo P bytes place x true → place ≡ length bytes → IsMovesText P x bytes
all-read P w bytes place x r e = record {
  printable = r.written;
  text = r.lines.text ∙ ap (λ l. flat_map line_bytes (tableau_head P x.limit ++ map (line_text P.symbols) (body_to x true)) ++ l) (ap (λ n. drop n bytes) e ∙ drop-all bytes) ∙ append-nil _ ∙ ap (flat_map line_bytes) (sym ((is-kind P w).lines_are x));
}
  where
    drop-all : (xs : List ℕ) → drop (length xs) xs ≡ []
    drop-all [] = refl
    drop-all (y ∷ xs) = drop-all xs

-- ---- faults behind the head

no-end : (S : List Symbol) (m : Move) → is_end_line (move_line S m) ≡ false
no-end S (reduction k) = refl
no-end S (extension k i) = refl

no-ends : (S : List Symbol) (ms : List Move) → list_any is_end_line (map (line_text S) (map of_move ms)) ≡ false
no-ends S [] = refl
no-ends S (m ∷ ms) = rw (no-end S m) (no-ends S ms)

an-end : (S : List Symbol) (ms : List Move) → list_any is_end_line (map (line_text S) (map of_move ms ++ last ∷ [])) ≡ true
an-end S [] = refl
an-end S (m ∷ ms) = rw (no-end S m) (an-end S ms)

cause-of : (P : Problem) (x : Moves) (done : Bool) (next : Option (List ℕ)) → fault_at done ≡ cause_after tableau_causes (tableau_head P x.limit ++ map (line_text P.symbols) (body_to x done)) next
cause-of P x false next = ap (λ b. if b then fault.TextAfterEnd else fault.Line) (sym (no-ends P.symbols x.moves))
cause-of P x true next = ap (λ b. if b then fault.TextAfterEnd else fault.Line) (sym (an-end P.symbols x.moves))

abbrev pub lines_read : Problem → Moves → Bool → ℕ
lines_read P x done = length (tableau_head P x.limit ++ map (line_text P.symbols) (body_to x done))

-- a line that cannot stand there
pub fault-line : (P : Problem) → IsTrue (is_problem P) → (bytes : List ℕ) (place to : ℕ) (x : Moves) (done : Bool) (line : List ℕ) (count : ℕ) → IsReadTo P bytes place x done → IsLineAt bytes place to line
    → ((l : Line) → IsTrue (line_is_written P.symbols l) → line ≡ line_text P.symbols l → stage_after (stage_at done) l ≡ None)
    → count ≡ lines_read P x done → IsWrong P bytes (count + 1) (fault_at done)
fault-line P w bytes place to x done line count r h none n =
    let s = staged P w bytes place x done r in
    wrong-text P bytes (tableau_head P x.limit ++ map (line_text P.symbols) (body_to x done)) (whole_lines (drop place bytes)) (count + 1) (fault_at done) r.lines.whole
    (wrong-line (the_kind P) (is-kind P w) bytes place to (stage_at done) (tableau_head P x.limit) (body_to x done) line s h (λ l t. none l t.good t.same))
    (ap (λ k. k + 1) n) (cause-of P x done (slice_get (whole_lines (drop place bytes)) 0))

pub fault-move : (P : Problem) → IsTrue (is_problem P) → (bytes : List ℕ) (place to : ℕ) (x : Moves) (line : List ℕ) (count : ℕ) → IsReadTo P bytes place x false → IsLineAt bytes place to line
    → ¬ (line ≡ codes "end") → ((m : Move) → ¬ IsMoveLine P.symbols line m) → count ≡ lines_read P x false → IsWrong P bytes (count + 1) fault.Line
fault-move P w bytes place to x line count r h not none n = fault-line P w bytes place to x false line count r h by n
  where
    by : (l : Line) → IsTrue (line_is_written P.symbols l) → line ≡ line_text P.symbols l → stage_after moving l ≡ None
    by (of_start i) g e = refl
    by (of_move m) g e = absurd (none m (record { written = g; same = e }))
    by last g e = absurd (not e)

pub fault-after : (P : Problem) → IsTrue (is_problem P) → (bytes : List ℕ) (place to : ℕ) (x : Moves) (line : List ℕ) (count : ℕ) → IsReadTo P bytes place x true → IsLineAt bytes place to line → count ≡ lines_read P x true → IsWrong P bytes (count + 1) fault.TextAfterEnd
fault-after P w bytes place to x line count r h n = fault-line P w bytes place to x true line count r h by n
  where
    by : (l : Line) → IsTrue (line_is_written P.symbols l) → line ≡ line_text P.symbols l → stage_after ended l ≡ None
    by (of_start i) g e = refl
    by (of_move m) g e = refl
    by last g e = refl

-- no line follows
pub fault-end : (P : Problem) → IsTrue (is_problem P) → (bytes : List ℕ) (place : ℕ) (x : Moves) (done : Bool) (count : ℕ) → IsReadTo P bytes place x done → whole_lines (drop place bytes) ≡ []
    → (done ≡ true → drop place bytes ≡ [] → ⊥) → count ≡ lines_read P x done → IsWrong P bytes (count + 1) (fault_at done)
fault-end P w bytes place x done count r none unfinished n =
    wrong-text P bytes (tableau_head P x.limit ++ map (line_text P.symbols) (body_to x done)) (whole_lines (drop place bytes)) (count + 1) (fault_at done) r.lines.whole
    (wrong-end (the_kind P) (is-kind P w) bytes place (stage_at done) (tableau_head P x.limit) (body_to x done) (staged P w bytes place x done r) none (by done unfinished))
    (ap (λ k. k + 1) n) (cause-of P x done (slice_get (whole_lines (drop place bytes)) 0))
  where
    by : (done : Bool) → (done ≡ true → drop place bytes ≡ [] → ⊥) → stage_at done ≡ ended → drop place bytes ≡ [] → ⊥
    by false f e = absurd (cc e)
    by true f e = f refl

-- ---- the fifth line

head-read : (P : Problem) (bytes : List ℕ) (place top : ℕ) → IsHeadRead (codes "leancop tableau 1") P bytes place top → AreReadTo (the_kind P) bytes place starting (tableau_head P top) []
head-read P bytes place top h = record {
  lines = subst (λ k. AreRead bytes k place) (sym (append-nil (tableau_head P top))) h.lines;
  good = refl;
  order = refl;
  begun = record { whose = blank top; printable = and_from (is_limit top && true) true (and_from (is_limit top) true h.limit refl) refl; rest = _; all = refl };
  heads = λ d k. refl;
}

pub fault-start : (P : Problem) → IsTrue (is_problem P) → (bytes : List ℕ) (place to top : ℕ) (line : List ℕ) → IsHeadRead (codes "leancop tableau 1") P bytes place top → IsLineAt bytes place to line
    → ((i : Chosen) → IsTrue (chosen_is_written P.symbols i) → ¬ (line ≡ codes "start " ++ chosen_text P.symbols i)) → IsWrong P bytes 5 fault.Line
fault-start P w bytes place to top line r h none =
    wrong-text P bytes (tableau_head P top ++ []) (whole_lines (drop place bytes)) 5 fault.Line (head-read P bytes place top r).lines.whole
    (wrong-line (the_kind P) (is-kind P w) bytes place to starting (tableau_head P top) [] line (head-read P bytes place top r) h (λ l t. by l t.good t.same)) refl refl
  where
    by : (l : Line) → IsTrue (line_is_written P.symbols l) → line ≡ line_text P.symbols l → stage_after starting l ≡ None
    by (of_start i) g e = absurd (none i g e)
    by (of_move m) g e = refl
    by last g e = refl

pub fault-no_start : (P : Problem) → IsTrue (is_problem P) → (bytes : List ℕ) (place top : ℕ) → IsHeadRead (codes "leancop tableau 1") P bytes place top → whole_lines (drop place bytes) ≡ [] → IsWrong P bytes 5 fault.Line
fault-no_start P w bytes place top r none =
    wrong-text P bytes (tableau_head P top ++ []) (whole_lines (drop place bytes)) 5 fault.Line (head-read P bytes place top r).lines.whole
    (wrong-end (the_kind P) (is-kind P w) bytes place starting (tableau_head P top) [] (head-read P bytes place top r) none (λ e. absurd (cc e))) refl refl
