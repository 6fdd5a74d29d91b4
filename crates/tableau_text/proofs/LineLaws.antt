-- Reading lines into a table that grows, and how many there are.
use Rattle.std.proofs.Common.{◌≡◌, ℕ, suc, ◌+◌, ◌≤◌, List, [], ◌∷◌, ◌++◌, length, map, drop, Bool, true, false, refl, sym, ◌∙◌, ap, subst, arith, length-append, flat_map}
use Rattle.std.specs.List.{AllByRecursion}
use Rattle.plain_laws.proofs.Every.{each-push}
use Rattle.plain_laws.proofs.Lists.{map-length}
use Rattle.calculus.specs.Syntax.{Problem}
use Rattle.calculus.specs.FirstWrong.{line_bytes}
use Rattle.calculus.specs.TableauText as tree
use Rattle.calculus.specs.TableauText.{tableau_head}
use Rattle.formula_core.specs.GroundLists.{GroundList, AreNormalValues, IsGrown}
use Rattle.formula_core.specs.declared.ground.Values.{Values}
use Rattle.formula_core.specs.declared.ground.GroundMark.TheVariants as mark
use Rattle.formula_core.proofs.GrownLaws.{values-grown, mark-normal-grown}
use Rattle.text_lines.specs.Lines.{IsLineAt}
use Rattle.tableau_text.specs.MovesView.{IsNormalMove, the_chosen, the_move}
use Rattle.tableau_text.specs.MoveLines.{of_move, last, line_text, body_to, IsReadTo, with_move}
use Rattle.tableau_text.specs.Reading.{IsLineRead, moves_by}
use Rattle.tableau_text.specs.declared.moves.Chosen.{Chosen}
use Rattle.tableau_text.specs.declared.moves.Move.{Move}
use Rattle.tableau_text.specs.declared.moves.Move.TheVariants.{Reduction, Extension}
use Rattle.tableau_text.proofs.OpenLaws.{map-last}
use Rattle.tableau_text.proofs.MoveFaults.{lines_read, move-read, end-read}

-- ---- the table grows

module _ (a b : List GroundList) (g : IsGrown a b) where
  pub values-normal : (n : Values) → AreNormalValues a n → AreNormalValues b n
  values-normal n h = mark-normal-grown a b g (mark.New (record { 0 = 0 }) n) h

  chosen-grown : (i : Chosen) → AreNormalValues a i.values → the_chosen b i ≡ the_chosen a i
  chosen-grown i h = let e = values-grown a b g i.values h in (λ k. record { sides = i.selection; values = e k })

  move-grown : (m : Move) → IsNormalMove a m → the_move b m ≡ the_move a m
  move-grown (Reduction up) h = refl
  move-grown (Extension place i) h = ap (tree.extension place) (chosen-grown i h)

  move-normal : (m : Move) → IsNormalMove a m → IsNormalMove b m
  move-normal (Reduction up) h = refl
  move-normal (Extension place i) h = values-normal i.values h

  moves-grown : (ms : List Move) → AllByRecursion (IsNormalMove a) ms → map (the_move b) ms ≡ map (the_move a) ms
  moves-grown [] h = refl
  moves-grown (m ∷ ms) h = let p = move-grown m h.0 in let q = moves-grown ms h.1 in (λ i. p i ∷ q i)

  moves-normal : (ms : List Move) → AllByRecursion (IsNormalMove a) ms → AllByRecursion (IsNormalMove b) ms
  moves-normal [] h = tt
  moves-normal (m ∷ ms) h = (move-normal m h.0, moves-normal ms h.1)

  stated-grown : (limit : ℕ) (start : Chosen) (ms : List Move) → AreNormalValues a start.values → AllByRecursion (IsNormalMove a) ms → moves_by limit b start ms ≡ moves_by limit a start ms
  stated-grown limit start ms h k = let p = chosen-grown start h in let q = moves-grown ms k in (λ i. record { limit = limit; start = p i; moves = q i })

-- ---- how many lines

lines-few : (ls : List (List ℕ)) → length ls ≤ length (flat_map line_bytes ls)
lines-few [] = omega arith
lines-few (l ∷ ls) = by (length l) (length ls) (length (line_bytes l)) (length (flat_map line_bytes ls)) (length (flat_map line_bytes (l ∷ ls))) (length-append l (10 ∷ [])) (length-append (line_bytes l) (flat_map line_bytes ls)) (lines-few ls)
  where
    by : (a b c d e : ℕ) → c ≡ a + 1 → e ≡ c + d → b ≤ d → suc b ≤ e
    by a b c d e f g h = omega arith

pub few-lines : (P : Problem) (bytes : List ℕ) (place : ℕ) (x : tree.Moves) (done : Bool) → IsReadTo P bytes place x done → lines_read P x done ≤ length bytes
few-lines P bytes place x done r =
    let ls = tableau_head P x.limit ++ map (line_text P.symbols) (body_to x done) in
    by (length ls) (length (flat_map line_bytes ls)) (length (drop place bytes)) (length bytes) (lines-few ls) (ap length r.lines.text ∙ length-append (flat_map line_bytes ls) (drop place bytes))
  where
    by : (a b c d : ℕ) → a ≤ b → d ≡ b + c → a ≤ d
    by a b c d e f = omega arith

lines-more : (P : Problem) (x : tree.Moves) (m : tree.Move) → lines_read P (with_move x m) false ≡ suc (lines_read P x false)
lines-more P x m =
    ap (λ n. suc (suc (suc (suc (suc n))))) (map-length (line_text P.symbols) (map of_move (x.moves ++ m ∷ [])) ∙ map-length of_move (x.moves ++ m ∷ []) ∙ length-append x.moves (m ∷ []) ∙ one (length x.moves) ∙ ap suc (sym (map-length of_move x.moves)) ∙ ap suc (sym (map-length (line_text P.symbols) (map of_move x.moves))))
  where
    one : (n : ℕ) → n + 1 ≡ suc n
    one n = omega arith

lines-end : (P : Problem) (x : tree.Moves) → lines_read P x true ≡ suc (lines_read P x false)
lines-end P x =
    ap (λ n. suc (suc (suc (suc (suc n))))) (map-length (line_text P.symbols) (map of_move x.moves ++ last ∷ []) ∙ length-append (map of_move x.moves) (last ∷ []) ∙ one (length (map of_move x.moves)) ∙ ap suc (sym (map-length (line_text P.symbols) (map of_move x.moves))))
  where
    one : (n : ℕ) → n + 1 ≡ suc n
    one n = omega arith

-- ---- one line more

-- what the loop over the lines keeps
pub record IsReadBy (P : Problem) (bytes : List ℕ) (limit : ℕ) (ls : List GroundList) (start : Chosen) (ms : List Move) (place : ℕ) (done : Bool) (count : ℕ) : Type 0 where
  pub read : IsReadTo P bytes place (moves_by limit ls start ms) done
  pub start_normal : AreNormalValues ls start.values
  pub moves_normal : AllByRecursion (IsNormalMove ls) ms
  pub counted : count ≡ lines_read P (moves_by limit ls start ms) done

pub read-first : (P : Problem) (bytes : List ℕ) (limit : ℕ) (ls : List GroundList) (start : Chosen) (place : ℕ) → IsReadTo P bytes place (moves_by limit ls start []) false → AreNormalValues ls start.values → IsReadBy P bytes limit ls start [] place false 5
read-first P bytes limit ls start place r h = record { read = r; start_normal = h; moves_normal = tt; counted = refl }

pub line-step : (P : Problem) (bytes : List ℕ) (limit : ℕ) (a b : List GroundList) (start : Chosen) (ms new : List Move) (place to : ℕ) (line : List ℕ) (done : Bool) (count : ℕ)
    → IsReadBy P bytes limit a start ms place false count → IsGrown a b → IsLineAt bytes place to line → IsLineRead P.symbols b ms new line done → IsReadBy P bytes limit b start new to done (count + 1)
line-step P bytes limit a b start ms new place to line true count r g h l =
    let same = stated-grown a b g limit start ms r.start_normal r.moves_normal in
    let before : IsReadTo P bytes place (moves_by limit b start ms) false = subst (λ x. IsReadTo P bytes place x false) (sym same) r.read in
    subst (λ k. IsReadBy P bytes limit b start k to true (count + 1)) (sym l.1) (record {
      read = end-read P bytes place to (moves_by limit b start ms) line before h l.0;
      start_normal = values-normal a b g start.values r.start_normal;
      moves_normal = moves-normal a b g ms r.moves_normal;
      counted = one count _ r.counted ∙ ap (λ x. suc (lines_read P x false)) (sym same) ∙ sym (lines-end P (moves_by limit b start ms));
    })
  where
    one : (n k : ℕ) → n ≡ k → n + 1 ≡ suc k
    one n k e = omega arith
line-step P bytes limit a b start ms new place to line false count r g h l =
    let same = stated-grown a b g limit start ms r.start_normal r.moves_normal in
    let before : IsReadTo P bytes place (moves_by limit b start ms) false = subst (λ x. IsReadTo P bytes place x false) (sym same) r.read in
    let m = l.0 in
    let stated : moves_by limit b start (ms ++ m ∷ []) ≡ with_move (moves_by limit b start ms) (the_move b m) = (let e = map-last (the_move b) ms (ms ++ m ∷ []) m refl in λ i. record { limit = limit; start = the_chosen b start; moves = e i }) in
    subst (λ k. IsReadBy P bytes limit b start k to false (count + 1)) (sym l.1) (record {
      read = subst (λ x. IsReadTo P bytes to x false) (sym stated) (move-read P bytes place to (moves_by limit b start ms) (the_move b m) line before h l.2);
      start_normal = values-normal a b g start.values r.start_normal;
      moves_normal = each-push (IsNormalMove b) ms m (moves-normal a b g ms r.moves_normal) l.3;
      counted = one count _ r.counted ∙ ap (λ x. suc (lines_read P x false)) (sym same) ∙ sym (lines-more P (moves_by limit b start ms) (the_move b m)) ∙ ap (λ x. lines_read P x false) (sym stated);
    })
  where
    one : (n k : ℕ) → n ≡ k → n + 1 ≡ suc k
    one n k e = omega arith
