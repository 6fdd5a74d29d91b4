-- A text states one list of moves, so it is the text of one closed tableau with one limit, and bytes have at most one judgement.
use Rattle.std.proofs.Common.{◌≡◌, ℕ, ◌+◌, List, [], ◌∷◌, ◌++◌, length, map, Bool, true, false, ◌&&◌, Result, Ok, Err, IsTrue, refl, sym, ◌∙◌, ap, subst, append_assoc, inl, inr, decimal, codes, flat_map, slice_get, remove, nat_lt}
use Rattle.std.specs.List.{list_all}
use Rattle.std.proofs.lemmas.Bool.{true≢false, false≢true, and_parts, and_from}
use Rattle.std.proofs.lemmas.List.Folds.{list_all-append}
use Rattle.plain_laws.proofs.Places.{differ-at}
use Rattle.calculus.proofs.SpotLaws.{values_list-tree}
use Rattle.calculus.proofs.GrowthLaws.{allowed-instance}
use Rattle.calculus.specs.declared.sign.Side.{Side}
use Rattle.calculus.specs.declared.sign.Side.TheVariants.{Left, Right}
use Rattle.calculus.specs.declared.fault.TableauFault.{TableauFault}
use Rattle.calculus.specs.Syntax.{Symbol, Problem}
use Rattle.calculus.specs.Problems.{are_distinct}
use Rattle.calculus.specs.Ground.{Value, values_list, values_tree, GroundLiteral}
use Rattle.calculus.specs.Text.{is_number, formula_text}
use Rattle.calculus.specs.DerivationText.{setting_text, is_limit}
use Rattle.calculus.specs.FirstWrong.{line_bytes, text_of}
use Rattle.calculus.specs.Instances.{ClauseInstance}
use Rattle.calculus.specs.ComputedInstances.{is_instance, is_allowed_instance}
use Rattle.calculus.specs.Tableaux.{Closing, Closings, reduce, extend, no_closings, more_closings, Tableau, is_complement, is_new_on, is_shown, is_short, closes, closes_all, instances_below, instances_of_all, instances, is_closed}
use Rattle.calculus.specs.TableauText.{value_is_written, values_are_written, values_text, Chosen, Move, reduction, extension, Moves, side_text, sides_text, chosen_text, move_line, tableau_head, chosen_is_written, move_is_written, moves_texts, IsMovesText, tableau_causes, chosen_of, moves_of, moves_of_all, tableau_moves, IsClosedText, TableauVerdict, tableau_accepted, tableau_rejected, literals_of, tableau_verdict, IsTableauJudgement}
use Rattle.calculus.proofs.TextLaws.{cons-tail, decimal-split}
use Rattle.calculus.proofs.TermTextLaws.{small-number}
use Rattle.calculus.proofs.DerivationTextLaws.{cancel, lines_on, lines_on-append, end_text, limit-small}
use Rattle.calculus.proofs.FirstWrongLaws.{text-verdict-unique}
use Rattle.calculus.proofs.VersionLaws.{kind-split}
use Rattle.calculus.proofs.GroundTextLaws.{values-split}
use Rattle.calculus.proofs.TableauTextLaws.{not_accepted, allowed-literals, closed-accepted, accepted-closed}

-- ---- an instance by its sides and values

tree-written : (S : List Symbol) (vs : List Value) → IsTrue (list_all (value_is_written S) vs) → IsTrue (values_are_written S (values_tree vs))
tree-written S [] h = refl
tree-written S (v ∷ vs) h =
    let p = and_parts (value_is_written S v) (list_all (value_is_written S) vs) h in
    and_from (value_is_written S v) (values_are_written S (values_tree vs)) p.0 (tree-written S vs p.1)

letters-split : (xs ys : List Side) (r s : List ℕ) → map side_text xs ++ 32 ∷ r ≡ map side_text ys ++ 32 ∷ s → (xs ≡ ys) × (r ≡ s)
letters-split [] [] r s e = (refl, cons-tail e)
letters-split [] (Left ∷ ys) r s e = absurd (differ-at _ _ 0 e refl)
letters-split [] (Right ∷ ys) r s e = absurd (differ-at _ _ 0 e refl)
letters-split (Left ∷ xs) [] r s e = absurd (differ-at _ _ 0 e refl)
letters-split (Right ∷ xs) [] r s e = absurd (differ-at _ _ 0 e refl)
letters-split (Left ∷ xs) (Left ∷ ys) r s e = let p = letters-split xs ys r s (cons-tail e) in (ap (λ zs. Left ∷ zs) p.0, p.1)
letters-split (Right ∷ xs) (Right ∷ ys) r s e = let p = letters-split xs ys r s (cons-tail e) in (ap (λ zs. Right ∷ zs) p.0, p.1)
letters-split (Left ∷ xs) (Right ∷ ys) r s e = absurd (differ-at _ _ 0 e refl)
letters-split (Right ∷ xs) (Left ∷ ys) r s e = absurd (differ-at _ _ 0 e refl)

sides-split : (xs ys : List Side) (r s : List ℕ) → sides_text xs ++ 32 ∷ r ≡ sides_text ys ++ 32 ∷ s → (xs ≡ ys) × (r ≡ s)
sides-split [] [] r s e = (refl, cons-tail (cons-tail e))
sides-split [] (Left ∷ ys) r s e = absurd (differ-at _ _ 0 e refl)
sides-split [] (Right ∷ ys) r s e = absurd (differ-at _ _ 0 e refl)
sides-split (Left ∷ xs) [] r s e = absurd (differ-at _ _ 0 e refl)
sides-split (Right ∷ xs) [] r s e = absurd (differ-at _ _ 0 e refl)
sides-split (x ∷ xs) (y ∷ ys) r s e = letters-split (x ∷ xs) (y ∷ ys) r s e

chosen-on : (S : List Symbol) (i : Chosen) (r : List ℕ) → chosen_text S i ++ r ≡ sides_text i.sides ++ (32 ∷ (values_text S (values_tree i.values) ++ r))
chosen-on S i r = append_assoc (sides_text i.sides ++ codes " ") (values_text S (values_tree i.values)) r ∙ append_assoc (sides_text i.sides) (codes " ") (values_text S (values_tree i.values) ++ r)

chosen-split : (S : List Symbol) → IsTrue (are_distinct S) → (i j : Chosen) (r s : List ℕ) → IsTrue (chosen_is_written S i) → IsTrue (chosen_is_written S j) → chosen_text S i ++ r ≡ chosen_text S j ++ s → (i ≡ j) × (r ≡ s)
chosen-split S d i j r s hi hj e =
    let first = sides-split i.sides j.sides (values_text S (values_tree i.values) ++ r) (values_text S (values_tree j.values) ++ s) (sym (chosen-on S i r) ∙ e ∙ chosen-on S j s) in
    let rest = values-split S d (values_tree i.values) (values_tree j.values) r s (tree-written S i.values hi) (tree-written S j.values hj) first.1 in
    let values = sym (values_list-tree i.values) ∙ ap values_list rest.0 ∙ values_list-tree j.values in
    ((λ k. record { sides = first.0 k; values = values k }), rest.1)

-- ---- lines

extension-on : (S : List Symbol) (place : ℕ) (i : Chosen) (r : List ℕ) → move_line S (extension place i) ++ r ≡ codes "extend " ++ (decimal place ++ (32 ∷ (chosen_text S i ++ r)))
extension-on S place i r = append_assoc (codes "extend " ++ decimal place ++ codes " ") (chosen_text S i) r ∙ append_assoc (codes "extend " ++ decimal place) (codes " ") (chosen_text S i ++ r) ∙ append_assoc (codes "extend ") (decimal place) (32 ∷ (chosen_text S i ++ r))

move-split : (S : List Symbol) → IsTrue (are_distinct S) → (x y : Move) (r s : List ℕ) → IsTrue (move_is_written S x) → IsTrue (move_is_written S y) → move_line S x ++ 10 ∷ r ≡ move_line S y ++ 10 ∷ s → (x ≡ y) × (r ≡ s)
move-split S d (reduction k) (reduction j) r s hx hy e =
    let first = decimal-split k j (10 ∷ r) (10 ∷ s) (small-number k hx) (small-number j hy) refl refl (cancel (codes "reduce ") (decimal k ++ 10 ∷ r) (decimal j ++ 10 ∷ s) e) in
    (ap reduction first.0, cons-tail first.1)
move-split S d (reduction k) (extension j i) r s hx hy e = absurd (differ-at _ _ 0 e refl)
move-split S d (extension k i) (reduction j) r s hx hy e = absurd (differ-at _ _ 0 e refl)
move-split S d (extension k i) (extension j l) r s hx hy e =
    let px = and_parts (is_number k) (chosen_is_written S i) hx in
    let py = and_parts (is_number j) (chosen_is_written S l) hy in
    let f = cancel (codes "extend ") _ _ (sym (extension-on S k i (10 ∷ r)) ∙ e ∙ extension-on S j l (10 ∷ s)) in
    let first = decimal-split k j (32 ∷ (chosen_text S i ++ 10 ∷ r)) (32 ∷ (chosen_text S l ++ 10 ∷ s)) (small-number k px.0) (small-number j py.0) refl refl f in
    let rest = chosen-split S d i l (10 ∷ r) (10 ∷ s) px.1 py.1 (cons-tail first.1) in
    ((λ z. extension (first.0 z) (rest.0 z)), cons-tail rest.1)

end-no_move : (S : List Symbol) (x : Move) (q : List ℕ) → end_text ≡ move_line S x ++ 10 ∷ q → ⊥
end-no_move S (reduction k) q e = differ-at _ _ 0 e refl
end-no_move S (extension k i) q e = differ-at _ _ 1 e refl

-- ---- the whole text

abbrev start_line : List Symbol → Chosen → List ℕ
start_line S i = codes "start " ++ chosen_text S i

moves-parts : (P : Problem) (x : Moves) → text_of (moves_texts P) x ≡ lines_on (tableau_head P x.limit) ((start_line P.symbols x.start ++ 10 ∷ lines_on (map (move_line P.symbols) x.moves) end_text))
moves-parts P x =
    let head = tableau_head P x.limit in
    let start = start_line P.symbols x.start in
    let ms = map (move_line P.symbols) x.moves in
    let last = codes "end" ∷ [] in
    ap (flat_map line_bytes) (append_assoc head (start ∷ ms) last)
    ∙ lines_on-append head (start ∷ (ms ++ last))
    ∙ ap (lines_on head) (lines_on-append (start ∷ []) (ms ++ last) ∙ ap (λ r. start ++ 10 ∷ r) (lines_on-append ms last))

head-split : (P : Problem) (m n : ℕ) (r s : List ℕ) → IsTrue (is_limit m) → IsTrue (is_limit n) → lines_on (tableau_head P m) r ≡ lines_on (tableau_head P n) s → (m ≡ n) × (r ≡ s)
head-split P m n r s hm hn e =
    let e1 = cons-tail (cancel (codes "leancop tableau 1") _ _ e) in
    let e2 = cons-tail (cancel (codes "logic " ++ setting_text P.setting) _ _ e1) in
    let e3 = cons-tail (cancel (codes "formula " ++ formula_text P.symbols 0 P.formula) _ _ e2) in
    let e4 = cancel (codes "limit ") (decimal m ++ 10 ∷ r) (decimal n ++ 10 ∷ s) e3 in
    let k = decimal-split m n (10 ∷ r) (10 ∷ s) (small-number m (limit-small m hm)) (small-number n (limit-small n hn)) refl refl e4 in
    (k.0, cons-tail k.1)

-- one text states one list of moves
pub moves-unique : (P : Problem) → IsTrue (are_distinct P.symbols) → (x y : Moves) (bytes : List ℕ) → IsMovesText P x bytes → IsMovesText P y bytes → x ≡ y
moves-unique P distinct x y bytes t u =
    let S = P.symbols in
    let px = and_parts (is_limit x.limit && chosen_is_written S x.start) (list_all (move_is_written S) x.moves) t.printable in
    let py = and_parts (is_limit y.limit && chosen_is_written S y.start) (list_all (move_is_written S) y.moves) u.printable in
    let qx = and_parts (is_limit x.limit) (chosen_is_written S x.start) px.0 in
    let qy = and_parts (is_limit y.limit) (chosen_is_written S y.start) py.0 in
    let rx = lines_on (map (move_line S) x.moves) end_text in
    let ry = lines_on (map (move_line S) y.moves) end_text in
    let head = head-split P x.limit y.limit (start_line S x.start ++ 10 ∷ rx) (start_line S y.start ++ 10 ∷ ry) qx.0 qy.0 (sym (moves-parts P x) ∙ sym t.text ∙ u.text ∙ moves-parts P y) in
    let f = cancel (codes "start ") _ _ (sym (append_assoc (codes "start ") (chosen_text S x.start) (10 ∷ rx)) ∙ head.1 ∙ append_assoc (codes "start ") (chosen_text S y.start) (10 ∷ ry)) in
    let start = chosen-split S distinct x.start y.start (10 ∷ rx) (10 ∷ ry) qx.1 qy.1 f in
    let moves = kind-split (move_line S) (move_is_written S) (move-split S distinct) x.moves y.moves end_text end_text (end-no_move S) (end-no_move S) px.1 py.1 (cons-tail start.1) in
    λ i. record { limit = head.0 i; start = start.0 i; moves = moves.0 i }

-- ---- the moves of a closed tableau are those of no other

ok-same : {xs : List GroundLiteral} {ys : List GroundLiteral} → ◌≡◌ {A = Result (List GroundLiteral) TableauFault} (Ok xs) (Ok ys) → xs ≡ ys
ok-same e = ap literals_in e
  where
    literals_in : Result (List GroundLiteral) TableauFault → List GroundLiteral
    literals_in (Ok xs) = xs
    literals_in (Err f) = []

-- allowed instances with the same sides and values
instance-same : (P : Problem) (i j : ClauseInstance) → IsTrue (is_allowed_instance P i) → IsTrue (is_allowed_instance P j) → chosen_of i ≡ chosen_of j → i ≡ j
instance-same P i j hi hj e =
    let literals = ok-same (sym (allowed-literals P i hi) ∙ ap (literals_of P) e ∙ allowed-literals P j hj) in
    λ k. record { selection = (e k).sides; values = (e k).values; literals = literals k }

moves-head : {x y : Move} {xs ys : List Move} → x ∷ xs ≡ y ∷ ys → x ≡ y
moves-head {x} e = ap (λ zs. head_move zs) e
  where
    head_move : List Move → Move
    head_move [] = x
    head_move (z ∷ zs) = z

moves-tail : {x y : Move} {xs ys : List Move} → x ∷ xs ≡ y ∷ ys → xs ≡ ys
moves-tail e = ap (λ zs. tail_moves zs) e
  where
    tail_moves : List Move → List Move
    tail_moves [] = []
    tail_moves (z ∷ zs) = zs

abbrev is_reduction : Move → Bool
is_reduction (reduction k) = true
is_reduction (extension place i) = false

abbrev move_number : Move → ℕ
move_number (reduction k) = k
move_number (extension place i) = place

abbrev move_chosen : Chosen → Move → Chosen
move_chosen o (reduction k) = o
move_chosen o (extension place i) = i

-- what an extension that closes a goal says of its instance, and of the goals below
pub record Extends (P : Problem) (d : ℕ) (path : List GroundLiteral) (goal : GroundLiteral) (i : ClauseInstance) (place : ℕ) (cs : Closings) : Type 0 where
  pub allowed : IsTrue (is_allowed_instance P i)
  pub below : IsTrue (closes_all P d (goal ∷ path) (remove i.literals place) cs)

pub extends : (P : Problem) (d : ℕ) (path : List GroundLiteral) (goal : GroundLiteral) (i : ClauseInstance) (place : ℕ) (cs : Closings) → IsTrue (closes P d path goal (extend i place cs)) → Extends P d path goal i place cs
extends P d path goal i place cs h =
    let a = and_parts (is_new_on path goal && nat_lt (length path) d && is_allowed_instance P i && is_complement goal (slice_get i.literals place)) (closes_all P d (goal ∷ path) (remove i.literals place) cs) h in
    let b = and_parts (is_new_on path goal && nat_lt (length path) d && is_allowed_instance P i) (is_complement goal (slice_get i.literals place)) a.0 in
    let c = and_parts (is_new_on path goal && nat_lt (length path) d) (is_allowed_instance P i) b.0 in
    record { allowed = c.1; below = a.1 }

mutual
  closing-same : (P : Problem) (d : ℕ) (path : List GroundLiteral) (goal : GroundLiteral) (c e : Closing) (xs ys : List Move) → IsTrue (closes P d path goal c) → IsTrue (closes P d path goal e) → moves_of c ++ xs ≡ moves_of e ++ ys → (c ≡ e) × (xs ≡ ys)
  closing-same P d path goal (reduce k) (reduce j) xs ys hc he m = (ap reduce (ap move_number (moves-head m)), moves-tail m)
  closing-same P d path goal (reduce k) (extend j q cs) xs ys hc he m = absurd (true≢false (ap is_reduction (moves-head m)))
  closing-same P d path goal (extend i p bs) (reduce j) xs ys hc he m = absurd (false≢true (ap is_reduction (moves-head m)))
  closing-same P d path goal (extend i p bs) (extend j q cs) xs ys hc he m =
      let x = extends P d path goal i p bs hc in
      let y = extends P d path goal j q cs he in
      let place = ap move_number (moves-head m) in
      let same = instance-same P i j x.allowed y.allowed (ap (move_chosen (chosen_of i)) (moves-head m)) in
      let goals : remove i.literals p ≡ remove j.literals q = λ k. remove (same k).literals (place k) in
      let rest = closings-same P d (goal ∷ path) (remove i.literals p) bs cs xs ys x.below (ap (λ gs. closes_all P d (goal ∷ path) gs cs) goals ∙ y.below) (moves-tail m) in
      ((λ k. extend (same k) (place k) (rest.0 k)), rest.1)

  closings-same : (P : Problem) (d : ℕ) (path goals : List GroundLiteral) (cs es : Closings) (xs ys : List Move) → IsTrue (closes_all P d path goals cs) → IsTrue (closes_all P d path goals es) → moves_of_all cs ++ xs ≡ moves_of_all es ++ ys → (cs ≡ es) × (xs ≡ ys)
  closings-same P d path [] no_closings no_closings xs ys hc he m = (refl, m)
  closings-same P d path [] no_closings (more_closings e es) xs ys hc he m = absurd (false≢true he)
  closings-same P d path [] (more_closings c cs) es xs ys hc he m = absurd (false≢true hc)
  closings-same P d path (g ∷ gs) no_closings es xs ys hc he m = absurd (false≢true hc)
  closings-same P d path (g ∷ gs) (more_closings c cs) no_closings xs ys hc he m = absurd (false≢true he)
  closings-same P d path (g ∷ gs) (more_closings c cs) (more_closings e es) xs ys hc he m =
      let pc = and_parts (closes P d path g c) (closes_all P d path gs cs) hc in
      let pe = and_parts (closes P d path g e) (closes_all P d path gs es) he in
      let first = closing-same P d path g c e (moves_of_all cs ++ xs) (moves_of_all es ++ ys) pc.0 pe.0 (sym (append_assoc (moves_of c) (moves_of_all cs) xs) ∙ m ∙ append_assoc (moves_of e) (moves_of_all es) ys) in
      let rest = closings-same P d path gs cs es xs ys pc.1 pe.1 first.1 in
      ((λ k. more_closings (first.0 k) (rest.0 k)), rest.1)

pub record ClosedParts (P : Problem) (d : ℕ) (t : Tableau) : Type 0 where
  pub start : IsTrue (is_allowed_instance P t.start)
  pub goals : IsTrue (closes_all P d [] t.start.literals t.goals)

pub closed-parts : (P : Problem) (d : ℕ) (t : Tableau) → IsTrue (is_closed P d t) → ClosedParts P d t
closed-parts P d t h =
    let a = and_parts (is_allowed_instance P t.start && list_all is_shown t.start.literals && closes_all P d [] t.start.literals t.goals) (is_short P t) h in
    let b = and_parts (is_allowed_instance P t.start && list_all is_shown t.start.literals) (closes_all P d [] t.start.literals t.goals) a.0 in
    let c = and_parts (is_allowed_instance P t.start) (list_all is_shown t.start.literals) b.0 in
    record { start = c.0; goals = b.1 }

pub closed_moves-unique : (P : Problem) (d : ℕ) (t u : Tableau) → IsTrue (is_closed P d t) → IsTrue (is_closed P d u) → tableau_moves t d ≡ tableau_moves u d → t ≡ u
closed_moves-unique P d t u ht hu e =
    let x = closed-parts P d t ht in
    let y = closed-parts P d u hu in
    let start = instance-same P t.start u.start x.start y.start (ap (λ (m : Moves). m.start) e) in
    let goals : t.start.literals ≡ u.start.literals = λ k. (start k).literals in
    let rest = closings-same P d [] t.start.literals t.goals u.goals [] [] x.goals (ap (λ gs. closes_all P d [] gs u.goals) goals ∙ y.goals) (ap (λ (m : Moves). m.moves ++ []) e) in
    λ k. record { start = start k; goals = rest.0 k }

-- bytes are the text of one closed tableau, with one limit
pub closed_text-unique : (P : Problem) → IsTrue (are_distinct P.symbols) → (t u : Tableau) (d e : ℕ) (bytes : List ℕ) → IsClosedText P t d bytes → IsClosedText P u e bytes → (t ≡ u) × (d ≡ e)
closed_text-unique P distinct t u d e bytes x y =
    let same = moves-unique P distinct (tableau_moves t d) (tableau_moves u e) bytes x.text.text y.text.text in
    let limit : d ≡ e = ap (λ (m : Moves). m.limit) same in
    (closed_moves-unique P d t u x.closed (ap (λ k. is_closed P k u) limit ∙ y.closed) (same ∙ ap (tableau_moves u) (sym limit)), limit)

-- ---- the judgement

-- bytes have at most one judgement
pub tableau_judgement-unique : (P : Problem) → IsTrue (are_distinct P.symbols) → (bytes : List ℕ) (v w : TableauVerdict) → IsTableauJudgement P bytes v → IsTableauJudgement P bytes w → v ≡ w
tableau_judgement-unique P distinct bytes v w = text-verdict-unique (moves_texts P) tableau_causes tableau_rejected (tableau_verdict P) bytes (λ x y. moves-unique P distinct x y bytes) v w

-- ---- acceptance is that of a closed tableau

mutual
  closing-instances : (P : Problem) (d : ℕ) (path : List GroundLiteral) (goal : GroundLiteral) (c : Closing) → IsTrue (closes P d path goal c) → IsTrue (list_all (is_instance P) (instances_below c))
  closing-instances P d path goal (reduce k) h = refl
  closing-instances P d path goal (extend i p cs) h =
      let x = extends P d path goal i p cs h in
      and_from (is_instance P i) (list_all (is_instance P) (instances_of_all cs)) (allowed-instance P i x.allowed) (closings-instances P d (goal ∷ path) (remove i.literals p) cs x.below)

  closings-instances : (P : Problem) (d : ℕ) (path goals : List GroundLiteral) (cs : Closings) → IsTrue (closes_all P d path goals cs) → IsTrue (list_all (is_instance P) (instances_of_all cs))
  closings-instances P d path [] no_closings h = refl
  closings-instances P d path [] (more_closings c cs) h = absurd (false≢true h)
  closings-instances P d path (g ∷ gs) no_closings h = absurd (false≢true h)
  closings-instances P d path (g ∷ gs) (more_closings c cs) h =
      let p = and_parts (closes P d path g c) (closes_all P d path gs cs) h in
      list_all-append (is_instance P) (instances_below c) (instances_of_all cs) ∙ and_from (list_all (is_instance P) (instances_below c)) (list_all (is_instance P) (instances_of_all cs)) (closing-instances P d path g c p.0) (closings-instances P d path gs cs p.1)

pub closed-instances : (P : Problem) (d : ℕ) (t : Tableau) → IsTrue (is_closed P d t) → IsTrue (list_all (is_instance P) (instances t))
closed-instances P d t h =
    let x = closed-parts P d t h in
    and_from (is_instance P t.start) (list_all (is_instance P) (instances_of_all t.goals)) (allowed-instance P t.start x.start) (closings-instances P d [] t.start.literals t.goals x.goals)

-- the tableau, and the limit that the bytes state
pub record ClosedIn (P : Problem) (bytes : List ℕ) : Type 0 where
  pub tableau : Tableau
  pub limit : ℕ
  pub is_text : IsClosedText P tableau limit bytes

-- what is accepted is the text of a closed tableau
pub accepted-text : (P : Problem) (bytes : List ℕ) → IsTableauJudgement P bytes tableau_accepted → ClosedIn P bytes
accepted-text P bytes (inl f) = absurd (not_accepted (sym f.verdict))
accepted-text P bytes (inr g) =
    let c = accepted-closed P g.value (sym g.verdict) in
    record { tableau = c.tableau; limit = g.value.limit; is_text = record { text = record { instances = closed-instances P g.value.limit c.tableau c.closed; text = subst (λ x. IsMovesText P x bytes) (sym c.moves) g.text }; closed = c.closed } }

-- and the text of a closed tableau is accepted
pub text-accepted : (P : Problem) (t : Tableau) (d : ℕ) (bytes : List ℕ) → IsClosedText P t d bytes → IsTableauJudgement P bytes tableau_accepted
text-accepted P t d bytes h = inr (record { value = tableau_moves t d; text = h.text.text; verdict = sym (closed-accepted P t d h.closed) })
