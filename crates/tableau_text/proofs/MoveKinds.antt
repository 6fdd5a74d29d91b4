-- The text of a tableau as a text of staged lines.
use Rattle.std.proofs.Common.{◌≡◌, ℕ, List, [], ◌∷◌, ◌++◌, map, true, IsTrue, Some, refl, sym, ◌∙◌, ap, append_assoc, flat_map, codes}
use Rattle.std.specs.List.{list_all}
use Rattle.std.proofs.lemmas.Bool.{and_from, and_parts}
use Rattle.plain_laws.proofs.Places.{differ-at}
use Rattle.calculus.specs.Syntax.{Symbol, Problem}
use Rattle.calculus.specs.Problems.{are_distinct, is_problem}
use Rattle.calculus.specs.TableauText.{Chosen, Move, reduction, extension, Moves, chosen_text, move_line, chosen_is_written, move_is_written, tableau_head, moves_texts}
use Rattle.calculus.specs.FirstWrong.{line_bytes, text_of}
use Rattle.calculus.proofs.TableauTextUnique.{moves-unique}
use Rattle.logic_rules.proofs.ProblemFacts.{kept}
use Rattle.text_lines.proofs.StagedLines.{IsKind, Kind, run}
use Rattle.tableau_text.specs.MoveLines.{Line, of_start, of_move, last, line_text, line_is_written, Stage, starting, moving, ended, stage_after, body_to}
use Rattle.tableau_text.proofs.MoveFeeds.{moves-feed, written-moves}

abbrev pub the_kind : Problem → Kind Moves Line Stage
the_kind P = record {
  texts = moves_texts P;
  head = λ x. tableau_head P x.limit;
  body = λ x. body_to x true;
  text = line_text P.symbols;
  good = line_is_written P.symbols;
  first = starting;
  ended = ended;
  after = stage_after;
}

pub map-moves : (S : List Symbol) (ms : List Move) (ls : List Line) → map (line_text S) (map of_move ms ++ ls) ≡ map (move_line S) ms ++ map (line_text S) ls
map-moves S [] ls = refl
map-moves S (m ∷ ms) ls = ap (λ l. move_line S m ∷ l) (map-moves S ms ls)

all-moves : (S : List Symbol) (ms : List Move) → IsTrue (list_all (move_is_written S) ms) → IsTrue (list_all (line_is_written S) (map of_move ms ++ last ∷ []))
all-moves S [] h = refl
all-moves S (m ∷ ms) h =
    let p = and_parts (move_is_written S m) (list_all (move_is_written S) ms) h in
    and_from (move_is_written S m) (list_all (line_is_written S) (map of_move ms ++ last ∷ [])) p.0 (all-moves S ms p.1)

run-moves : (P : Problem) (ms : List Move) (ls : List Line) → run (the_kind P) (Some moving) (map of_move ms ++ ls) ≡ run (the_kind P) (Some moving) ls
run-moves P [] ls = refl
run-moves P (m ∷ ms) ls = run-moves P ms ls

-- ---- one line for one text

start-one : (P : Problem) → IsTrue (are_distinct P.symbols) → (i j : Chosen) → IsTrue (chosen_is_written P.symbols i) → IsTrue (chosen_is_written P.symbols j) → line_text P.symbols (of_start i) ≡ line_text P.symbols (of_start j) → i ≡ j
start-one P d i j hi hj e =
    let text : (k : List ℕ) → List ℕ = λ k. flat_map line_bytes ((tableau_head P 1 ++ k ∷ []) ++ codes "end" ∷ []) in
    let x : Moves = record { limit = 1; start = i; moves = [] } in
    let y : Moves = record { limit = 1; start = j; moves = [] } in
    let same = moves-unique P d x y (text_of (moves_texts P) x) (record { printable = and_from _ true hi refl; text = refl }) (record { printable = and_from _ true hj refl; text = ap text e }) in
    ap (λ (m : Moves). m.start) same

move-one : (P : Problem) → IsTrue (are_distinct P.symbols) → (m n : Move) → IsTrue (move_is_written P.symbols m) → IsTrue (move_is_written P.symbols n) → move_line P.symbols m ≡ move_line P.symbols n → m ≡ n
move-one P d m n hm hn e =
    let blank : Chosen = record { sides = []; values = [] } in
    let text : (k : List ℕ) → List ℕ = λ k. flat_map line_bytes ((tableau_head P 1 ++ (codes "start " ++ chosen_text P.symbols blank) ∷ k ∷ []) ++ codes "end" ∷ []) in
    let x : Moves = record { limit = 1; start = blank; moves = m ∷ [] } in
    let y : Moves = record { limit = 1; start = blank; moves = n ∷ [] } in
    let same = moves-unique P d x y (text_of (moves_texts P) x) (record { printable = and_from _ true hm refl; text = refl }) (record { printable = and_from _ true hn refl; text = ap text e }) in
    first (ap (λ (z : Moves). z.moves) same)
  where
    first : {a b : Move} → a ∷ [] ≡ b ∷ [] → a ≡ b
    first e = cc

start-no_move : (S : List Symbol) (i : Chosen) (m : Move) → line_text S (of_start i) ≡ move_line S m → ⊥
start-no_move S i (reduction k) e = differ-at _ _ 0 e refl
start-no_move S i (extension k j) e = differ-at _ _ 0 e refl

end-no_move : (S : List Symbol) (m : Move) → codes "end" ≡ move_line S m → ⊥
end-no_move S (reduction k) e = differ-at _ _ 0 e refl
end-no_move S (extension k j) e = differ-at _ _ 1 e refl

line-one : (P : Problem) → IsTrue (are_distinct P.symbols) → (x y : Line) → IsTrue (line_is_written P.symbols x) → IsTrue (line_is_written P.symbols y) → line_text P.symbols x ≡ line_text P.symbols y → x ≡ y
line-one P d (of_start i) (of_start j) hx hy e = ap of_start (start-one P d i j hx hy e)
line-one P d (of_start i) (of_move m) hx hy e = absurd (start-no_move P.symbols i m e)
line-one P d (of_start i) last hx hy e = absurd (differ-at _ _ 0 e refl)
line-one P d (of_move m) (of_start j) hx hy e = absurd (start-no_move P.symbols j m (sym e))
line-one P d (of_move m) (of_move n) hx hy e = ap of_move (move-one P d m n hx hy e)
line-one P d (of_move m) last hx hy e = absurd (end-no_move P.symbols m (sym e))
line-one P d last (of_start j) hx hy e = absurd (differ-at _ _ 0 e refl)
line-one P d last (of_move m) hx hy e = absurd (end-no_move P.symbols m e)
line-one P d last last hx hy e = refl

pub is-kind : (P : Problem) → IsTrue (is_problem P) → IsKind (the_kind P)
is-kind P w = record {
  lines_are = λ x.
      append_assoc (tableau_head P x.limit) ((codes "start " ++ chosen_text P.symbols x.start) ∷ map (move_line P.symbols) x.moves) (codes "end" ∷ [])
      ∙ ap (λ l. tableau_head P x.limit ++ (codes "start " ++ chosen_text P.symbols x.start) ∷ l) (sym (map-moves P.symbols x.moves (last ∷ [])));
  feeds = moves-feed P w;
  written = λ x h.
      let p = written-moves P x h in
      and_from (chosen_is_written P.symbols x.start) (list_all (line_is_written P.symbols) (map of_move x.moves ++ last ∷ [])) p.start (all-moves P.symbols x.moves p.moves);
  ends = λ x h. run-moves P x.moves (last ∷ []);
  one = line-one P (kept P w).distinct;
}
