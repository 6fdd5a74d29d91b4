-- No line of the text of a tableau has a line feed in it.
use Rattle.std.proofs.Common.{◌≡◌, ℕ, zero, suc, List, [], ◌∷◌, ◌++◌, length, map, true, ◌&&◌, IsTrue, refl, sym, ◌∙◌, ap, subst, codes, decimal}
use Rattle.std.specs.List.{list_all}
use Rattle.std.proofs.lemmas.Bool.{and_from, and_parts}
use Rattle.std.proofs.lemmas.List.Folds.{list_all-append}
use Rattle.calculus.specs.declared.sign.Side.{Side}
use Rattle.calculus.specs.declared.sign.Side.TheVariants.{Left, Right}
use Rattle.calculus.specs.Syntax.{Symbol, Terms, fun, spare, no_terms, more_terms, arity_of, Problem}
use Rattle.calculus.specs.Problems.{is_problem, symbol_fits}
use Rattle.calculus.specs.Skolem.{has_function}
use Rattle.calculus.specs.Ground.{GroundTerm, GroundTerms, GroundMark, Marks, Value, Values, g_fun, g_eigen, common, own, no_g_terms, more_g_terms, g_new_mark, g_spare_mark, no_marks, more_marks, term, steps, no_values, more_values, values_tree, g_terms_list}
use Rattle.calculus.specs.DerivationText.{is_limit, terms_are_written}
use Rattle.calculus.specs.Text.{args_text, is_number, symbol_at}
use Rattle.calculus.specs.TableauText.{ground_text, ground_args_text, more_ground_args_text, ground_mark_text, marks_text, more_marks_text, value_text, values_text, more_values_text, ground_is_written, grounds_are_written, ground_mark_is_written, marks_are_written, value_is_written, values_are_written, Chosen, Move, reduction, extension, Moves, side_text, sides_text, chosen_text, move_line, chosen_is_written, move_is_written, are_written, tableau_head, moves_lines}
use Rattle.logic_rules.proofs.ProblemFacts.{kept}
use Rattle.text_lines.proofs.LineFeeds.{AreNoFeeds, NoFeed, head-feed, is_no_feed, join, lines-join, lines-map, small-feed, term-feed}

-- ---- symbols: that of a term over so many constants

abbrev some-terms : ℕ → Terms
some-terms zero = no_terms
some-terms (suc n) = more_terms (spare 1) (some-terms n)

some-arity : (n : ℕ) → arity_of (some-terms n) ≡ n
some-arity zero = refl
some-arity (suc n) = ap suc (some-arity n)

some-written : (S : List Symbol) (n : ℕ) → IsTrue (terms_are_written S (some-terms n))
some-written S zero = refl
some-written S (suc n) = some-written S n

symbol-feed : (S : List Symbol) → IsTrue (list_all symbol_fits S) → (f n : ℕ) → IsTrue (has_function S f n) → NoFeed (symbol_at S f)
symbol-feed S s f n h =
    let ts = some-terms n in
    let w = and_from (has_function S f (arity_of ts)) (terms_are_written S ts) (subst (λ k. IsTrue (has_function S f k)) (sym (some-arity n)) h) (some-written S n) in
    (and_parts (list_all is_no_feed (symbol_at S f)) (list_all is_no_feed (args_text S 0 ts)) (sym (list_all-append is_no_feed (symbol_at S f) (args_text S 0 ts)) ∙ term-feed S s (fun f ts) w)).0

-- ---- values

module _ (S : List Symbol) (s : IsTrue (list_all symbol_fits S)) where
  mutual
    ground-feed : (t : GroundTerm) → IsTrue (ground_is_written S t) → NoFeed (ground_text S t)
    ground-feed (g_fun f ts) h =
        let p = and_parts (has_function S f (length (g_terms_list ts))) (grounds_are_written S ts) h in
        join (symbol_at S f) (ground_args_text S ts) (symbol-feed S s f (length (g_terms_list ts)) p.0) (args-feed ts p.1)
    ground-feed (g_eigen p vs) h =
        let k = and_parts (is_number p) (values_are_written S vs) h in
        join (codes "$$e" ++ decimal p) (values_text S vs) (join (codes "$$e") (decimal p) refl (small-feed p k.0)) (values-feed vs k.1)
    ground-feed (common k) h = join (codes "$$s") (decimal k) refl (small-feed k h)
    ground-feed (own k w) h =
        let p = and_parts (is_number k) (marks_are_written S w) h in
        join (codes "$$s" ++ decimal k ++ codes "@") (marks_text S w) (join (codes "$$s" ++ decimal k) (codes "@") (join (codes "$$s") (decimal k) refl (small-feed k p.0)) refl) (marks-feed w p.1)

    args-feed : (ts : GroundTerms) → IsTrue (grounds_are_written S ts) → NoFeed (ground_args_text S ts)
    args-feed no_g_terms h = refl
    args-feed (more_g_terms t ts) h = let p = and_parts (ground_is_written S t) (grounds_are_written S ts) h in join (ground_text S t) (more_ground_args_text S ts) (ground-feed t p.0) (more_args-feed ts p.1)

    more_args-feed : (ts : GroundTerms) → IsTrue (grounds_are_written S ts) → NoFeed (more_ground_args_text S ts)
    more_args-feed no_g_terms h = refl
    more_args-feed (more_g_terms t ts) h = let p = and_parts (ground_is_written S t) (grounds_are_written S ts) h in join (ground_text S t) (more_ground_args_text S ts) (ground-feed t p.0) (more_args-feed ts p.1)

    mark-feed : (m : GroundMark) → IsTrue (ground_mark_is_written S m) → NoFeed (ground_mark_text S m)
    mark-feed (g_new_mark p vs) h =
        let k = and_parts (is_number p) (values_are_written S vs) h in
        join (codes "$$c" ++ decimal p) (values_text S vs) (join (codes "$$c") (decimal p) refl (small-feed p k.0)) (values-feed vs k.1)
    mark-feed (g_spare_mark k) h = join (codes "$$d") (decimal k) refl (small-feed k h)

    marks-feed : (w : Marks) → IsTrue (marks_are_written S w) → NoFeed (marks_text S w)
    marks-feed no_marks h = refl
    marks-feed (more_marks m w) h = let p = and_parts (ground_mark_is_written S m) (marks_are_written S w) h in join (ground_mark_text S m) (more_marks_text S w) (mark-feed m p.0) (more_marks-feed w p.1)

    more_marks-feed : (w : Marks) → IsTrue (marks_are_written S w) → NoFeed (more_marks_text S w)
    more_marks-feed no_marks h = refl
    more_marks-feed (more_marks m w) h = let p = and_parts (ground_mark_is_written S m) (marks_are_written S w) h in join (ground_mark_text S m) (more_marks_text S w) (mark-feed m p.0) (more_marks-feed w p.1)

    value-feed : (v : Value) → IsTrue (value_is_written S v) → NoFeed (value_text S v)
    value-feed (term t) h = ground-feed t h
    value-feed (steps w) h = marks-feed w h

    values-feed : (vs : Values) → IsTrue (values_are_written S vs) → NoFeed (values_text S vs)
    values-feed no_values h = refl
    values-feed (more_values v vs) h = let p = and_parts (value_is_written S v) (values_are_written S vs) h in join (value_text S v) (more_values_text S vs) (value-feed v p.0) (more_values-feed vs p.1)

    more_values-feed : (vs : Values) → IsTrue (values_are_written S vs) → NoFeed (more_values_text S vs)
    more_values-feed no_values h = refl
    more_values-feed (more_values v vs) h = let p = and_parts (value_is_written S v) (values_are_written S vs) h in join (value_text S v) (more_values_text S vs) (value-feed v p.0) (more_values-feed vs p.1)

  -- ---- lines

  letters-feed : (ss : List Side) → NoFeed (map side_text ss)
  letters-feed [] = refl
  letters-feed (Left ∷ ss) = letters-feed ss
  letters-feed (Right ∷ ss) = letters-feed ss

  sides-feed : (ss : List Side) → NoFeed (sides_text ss)
  sides-feed [] = refl
  sides-feed (x ∷ ss) = letters-feed (x ∷ ss)

  tree-written : (vs : List Value) → IsTrue (list_all (value_is_written S) vs) → IsTrue (values_are_written S (values_tree vs))
  tree-written [] h = refl
  tree-written (v ∷ vs) h =
      let p = and_parts (value_is_written S v) (list_all (value_is_written S) vs) h in
      and_from (value_is_written S v) (values_are_written S (values_tree vs)) p.0 (tree-written vs p.1)

  chosen-feed : (i : Chosen) → IsTrue (chosen_is_written S i) → NoFeed (chosen_text S i)
  chosen-feed i h = join (sides_text i.sides ++ codes " ") (values_text S (values_tree i.values)) (join (sides_text i.sides) (codes " ") (sides-feed i.sides) refl) (values-feed (values_tree i.values) (tree-written i.values h))

  move-feed : (m : Move) → IsTrue (move_is_written S m) → NoFeed (move_line S m)
  move-feed (reduction k) h = join (codes "reduce ") (decimal k) refl (small-feed k h)
  move-feed (extension place i) h =
      let p = and_parts (is_number place) (chosen_is_written S i) h in
      join (codes "extend " ++ decimal place ++ codes " ") (chosen_text S i) (join (codes "extend " ++ decimal place) (codes " ") (join (codes "extend ") (decimal place) refl (small-feed place p.0)) refl) (chosen-feed i p.1)

-- ---- the text

pub record WrittenMoves (P : Problem) (x : Moves) : Type 0 where
  pub limit : IsTrue (is_limit x.limit)
  pub start : IsTrue (chosen_is_written P.symbols x.start)
  pub moves : IsTrue (list_all (move_is_written P.symbols) x.moves)

pub written-moves : (P : Problem) (x : Moves) → IsTrue (are_written P x) → WrittenMoves P x
written-moves P x h =
    let p = and_parts (is_limit x.limit && chosen_is_written P.symbols x.start) (list_all (move_is_written P.symbols) x.moves) h in
    let q = and_parts (is_limit x.limit) (chosen_is_written P.symbols x.start) p.0 in
    record { limit = q.0; start = q.1; moves = p.1 }

pub moves-feed : (P : Problem) → IsTrue (is_problem P) → (x : Moves) → IsTrue (are_written P x) → AreNoFeeds (moves_lines P x)
moves-feed P w x h =
    let p = written-moves P x h in
    let s = (kept P w).symbols in
    let start = codes "start " ++ chosen_text P.symbols x.start in
    let ms = map (move_line P.symbols) x.moves in
    lines-join (tableau_head P x.limit ++ start ∷ ms) (codes "end" ∷ [])
    (lines-join (tableau_head P x.limit) (start ∷ ms) (head-feed (codes "leancop tableau 1") P refl w x.limit p.limit)
    (lines-join (start ∷ []) ms (and_from (list_all is_no_feed start) true (join (codes "start ") (chosen_text P.symbols x.start) refl (chosen-feed P.symbols s x.start p.start)) refl) (lines-map (move_line P.symbols) (move_is_written P.symbols) (move-feed P.symbols s) x.moves p.moves)))
    refl
