-- Writing lists: their beginnings, and what is left of them.
use Rattle.std.proofs.Common.{◌≡◌, ℕ, zero, suc, ◌≤◌, ◌<◌, List, [], ◌∷◌, ◌++◌, length, map, drop, false, IsTrue, Some, refl, sym, ◌∙◌, ap, subst, append-nil, arith, get_or, slice_get, codes}
use Rattle.std.specs.Option.{option_map_or}
use Rattle.std.proofs.lemmas.Bool.{and_parts}
use Rattle.std.proofs.lemmas.Option.{slice_get-get_or}
use Rattle.tableau_text.proofs.PointLaws.{good-item}
use Rattle.calculus.specs.Syntax.{Symbol}
use Rattle.calculus.specs.Skolem.{has_function}
use Rattle.calculus.specs.Ground.{marks_tree, values_tree}
use Rattle.calculus.specs.Lists.{g_terms_tree}
use Rattle.calculus.specs.TableauText.{ground_args_text, ground_text, grounds_are_written, marks_are_written, marks_text, values_are_written, values_text}
use Rattle.calculus.proofs.TermTextLaws.{function-at}
use Rattle.formula_core.specs.GroundLists.{GroundList, the_g_term, the_mark, the_marks, the_terms, the_value, the_values}
use Rattle.formula_core.specs.declared.ground.GroundTerms.{GroundTerms}
use Rattle.formula_core.specs.declared.ground.GroundLabel.{GroundLabel}
use Rattle.formula_core.specs.declared.ground.Values.{Values}
use Rattle.formula_core.specs.declared.ground.GroundTerm.{GroundTerm}
use Rattle.formula_core.specs.declared.ground.GroundMark.{GroundMark}
use Rattle.formula_core.specs.declared.ground.Value.{Value}
use Rattle.formula_text.specs.Known.{is_named, is_named_class}
use Rattle.tableau_text.specs.Items.{Item, a_term, a_mark, of_value, item_text, item_is_written, are_written_items, tail_text}
use Rattle.tableau_text.specs.ItemView.{the_item}
use Rattle.tableau_text.specs.Points.{is_good}
use Rattle.tableau_text.specs.Pieces.{piece_text, piece_is_written, Wrote}
use Rattle.tableau_text.specs.declared.item.TableItem.{TableItem}
use Rattle.tableau_text.specs.declared.item.TableItem.TheVariants as item
use Rattle.tableau_text.specs.declared.piece.Piece.{Piece}
use Rattle.tableau_text.specs.declared.piece.Piece.TheVariants as piece
use Rattle.tableau_text.proofs.ItemLaws.{args-list, marks-list, values-list, terms-written, marks-written, values-written}
use Rattle.tableau_text.proofs.OpenLaws.{items-terms, items-marks, items-values}
use Rattle.tableau_text.proofs.PieceLaws.{wrote-all, wrote-two}

-- ---- lists and places

drop-step : {A B : Type 0} (f : A → B) (xs : List A) (ys : List B) (k : ℕ) (x : A) → map f xs ≡ ys → slice_get xs k ≡ Some x → drop k ys ≡ f x ∷ drop (suc k) ys
drop-step f [] ys k x e g = absurd (cc)
drop-step f (y ∷ xs) ys zero x e g = let same : y ≡ x = cc in subst (λ l. l ≡ f x ∷ drop 1 l) e (λ i. f (same i) ∷ map f xs)
drop-step f (y ∷ xs) ys (suc k) x e g = subst (λ l. drop (suc k) l ≡ f x ∷ drop (suc (suc k)) l) e (drop-step f xs (map f xs) k x refl g)

drop-end : {A B : Type 0} (f : A → B) (xs : List A) (ys : List B) (k : ℕ) → map f xs ≡ ys → length xs ≤ k → drop k ys ≡ []
drop-end f [] ys k e h = subst (λ l. drop k l ≡ []) e (none k)
  where
    none : {A : Type 0} (k : ℕ) → drop {A = A} k [] ≡ []
    none zero = refl
    none (suc k) = refl
drop-end f (x ∷ xs) ys zero e h = absurd (omega arith)
drop-end f (x ∷ xs) ys (suc k) e h = subst (λ l. drop (suc k) l ≡ []) e (drop-end f xs (map f xs) k refl (omega arith))

module _ (S : List Symbol) (ls : List GroundList) where
  -- a further item of any list
  further : (byte close : ℕ) (xs : List Item) (x : Item) (text out new : List ℕ) (stack left : List Piece) (rest : Piece) (i : TableItem) → text ≡ byte ∷ (item_text S x ++ tail_text S close xs) → the_item ls i ≡ x → piece_text S ls rest ≡ tail_text S close xs → piece_is_written S ls rest ≡ are_written_items S xs
      → IsTrue (are_written_items S (x ∷ xs)) → new ≡ out ++ byte ∷ [] → left ≡ (stack ++ rest ∷ []) ++ piece.Item i ∷ [] → Wrote S ls text out new stack left
  further byte close xs x text out new stack left rest i t same r w h e f =
      let p = and_parts (item_is_written S x) (are_written_items S xs) h in
      wrote-two S ls byte text out new stack left rest (piece.Item i) e f
      (t ∙ (λ k. byte ∷ (item_text S (sym same k) ++ sym r k))) (w ∙ p.1) (subst (λ j. IsTrue (is_good S j)) (sym same) (good-item S x p.0))

  -- ---- arguments

  pub args-open : (n : GroundTerms) (terms rest : List GroundTerm) (x : GroundTerm) (out new : List ℕ) (stack left : List Piece) → map (the_g_term ls) terms ≡ the_terms ls n → terms ≡ x ∷ rest → IsTrue (grounds_are_written S (g_terms_tree (the_terms ls n)))
      → new ≡ out ++ 40 ∷ [] → left ≡ (stack ++ piece.Args n 1 ∷ []) ++ piece.Item (item.Term x) ∷ [] → Wrote S ls (ground_args_text S (g_terms_tree (the_terms ls n))) out new stack left
  args-open n terms rest x out new stack left e f w g h =
      let all : the_terms ls n ≡ the_g_term ls x ∷ map (the_g_term ls) rest = sym e ∙ ap (map (the_g_term ls)) f in
      let ts = map (the_g_term ls) rest in
      further 40 41 (map a_term ts) (a_term (the_g_term ls x)) _ out new stack left (piece.Args n 1) (item.Term x)
      (ap (λ l. ground_args_text S (g_terms_tree l)) all ∙ args-list S (the_g_term ls x) (g_terms_tree ts) ∙ ap (λ l. 40 ∷ (ground_text S (the_g_term ls x) ++ tail_text S 41 l)) (sym (items-terms ts))) refl
      (ap (λ l. tail_text S 41 (map a_term (drop 1 l))) all) (ap (λ l. are_written_items S (map a_term (drop 1 l))) all)
      (ap (are_written_items S) (items-terms (the_g_term ls x ∷ ts)) ∙ sym (terms-written S (g_terms_tree (the_g_term ls x ∷ ts))) ∙ ap (λ l. grounds_are_written S (g_terms_tree l)) (sym all) ∙ w) g h

  pub args-none : (n : GroundTerms) (terms : List GroundTerm) (out new : List ℕ) (stack left : List Piece) → map (the_g_term ls) terms ≡ the_terms ls n → terms ≡ [] → new ≡ out → left ≡ stack → Wrote S ls (ground_args_text S (g_terms_tree (the_terms ls n))) out new stack left
  args-none n terms out new stack left e f g h = wrote-all S ls _ out new stack left (g ∙ sym (append-nil out) ∙ ap (λ l. out ++ ground_args_text S (g_terms_tree l)) (sym (sym e ∙ ap (map (the_g_term ls)) f))) h

  pub args-more : (n : GroundTerms) (terms : List GroundTerm) (k : ℕ) (x : GroundTerm) (out new : List ℕ) (stack left : List Piece) → map (the_g_term ls) terms ≡ the_terms ls n → slice_get terms k ≡ Some x → IsTrue (piece_is_written S ls (piece.Args n k))
      → new ≡ out ++ 44 ∷ [] → left ≡ (stack ++ piece.Args n (suc k) ∷ []) ++ piece.Item (item.Term x) ∷ [] → Wrote S ls (piece_text S ls (piece.Args n k)) out new stack left
  args-more n terms k x out new stack left e f w g h =
      let all = drop-step (the_g_term ls) terms (the_terms ls n) k x e f in
      further 44 41 (map a_term (drop (suc k) (the_terms ls n))) (a_term (the_g_term ls x)) _ out new stack left (piece.Args n (suc k)) (item.Term x) (ap (λ l. tail_text S 41 (map a_term l)) all) refl refl refl (ap (λ l. are_written_items S (map a_term l)) (sym all) ∙ w) g h

  pub args-next : (n : GroundTerms) (terms : List GroundTerm) (k m : ℕ) (x d : GroundTerm) (out new : List ℕ) (stack left : List Piece) → map (the_g_term ls) terms ≡ the_terms ls n → k < length terms → m ≡ suc k → x ≡ get_or terms k d → IsTrue (piece_is_written S ls (piece.Args n k))
      → new ≡ out ++ 44 ∷ [] → left ≡ (stack ++ piece.Args n m ∷ []) ++ piece.Item (item.Term x) ∷ [] → Wrote S ls (piece_text S ls (piece.Args n k)) out new stack left
  args-next n terms k m x d out new stack left e h s r w f g =
      args-more n terms k x out new stack left e (slice_get-get_or terms k d h ∙ ap Some (sym r)) w f (g ∙ ap (λ j. (stack ++ piece.Args n j ∷ []) ++ piece.Item (item.Term x) ∷ []) s)

  pub args-end : (n : GroundTerms) (terms : List GroundTerm) (k : ℕ) (out new : List ℕ) (stack left : List Piece) → map (the_g_term ls) terms ≡ the_terms ls n → length terms ≤ k → new ≡ out ++ 41 ∷ [] → left ≡ stack → Wrote S ls (piece_text S ls (piece.Args n k)) out new stack left
  args-end n terms k out new stack left e f g h = wrote-all S ls _ out new stack left (g ∙ ap (λ l. out ++ tail_text S 41 (map a_term l)) (sym (drop-end (the_g_term ls) terms (the_terms ls n) k e f))) h

  -- ---- labels

  pub marks-open : (n : GroundLabel) (marks rest : List GroundMark) (x : GroundMark) (out new : List ℕ) (stack left : List Piece) → map (the_mark ls) marks ≡ the_marks ls n → marks ≡ x ∷ rest → IsTrue (marks_are_written S (marks_tree (the_marks ls n)))
      → new ≡ out ++ 91 ∷ [] → left ≡ (stack ++ piece.Marks n 1 ∷ []) ++ piece.Item (item.Mark x) ∷ [] → Wrote S ls (marks_text S (marks_tree (the_marks ls n))) out new stack left
  marks-open n marks rest x out new stack left e f w g h =
      let all : the_marks ls n ≡ the_mark ls x ∷ map (the_mark ls) rest = sym e ∙ ap (map (the_mark ls)) f in
      let ms = map (the_mark ls) rest in
      further 91 93 (map a_mark ms) (a_mark (the_mark ls x)) _ out new stack left (piece.Marks n 1) (item.Mark x)
      (ap (λ l. marks_text S (marks_tree l)) all ∙ marks-list S (marks_tree (the_mark ls x ∷ ms)) ∙ ap (λ l. 91 ∷ (item_text S (a_mark (the_mark ls x)) ++ tail_text S 93 l)) (sym (items-marks ms))) refl
      (ap (λ l. tail_text S 93 (map a_mark (drop 1 l))) all) (ap (λ l. are_written_items S (map a_mark (drop 1 l))) all)
      (ap (are_written_items S) (items-marks (the_mark ls x ∷ ms)) ∙ sym (marks-written S (marks_tree (the_mark ls x ∷ ms))) ∙ ap (λ l. marks_are_written S (marks_tree l)) (sym all) ∙ w) g h

  pub marks-none : (n : GroundLabel) (marks : List GroundMark) (out new : List ℕ) (stack left : List Piece) → map (the_mark ls) marks ≡ the_marks ls n → marks ≡ [] → new ≡ out ++ codes "[]" → left ≡ stack → Wrote S ls (marks_text S (marks_tree (the_marks ls n))) out new stack left
  marks-none n marks out new stack left e f g h = wrote-all S ls _ out new stack left (g ∙ ap (λ l. out ++ marks_text S (marks_tree l)) (sym (sym e ∙ ap (map (the_mark ls)) f))) h

  pub marks-more : (n : GroundLabel) (marks : List GroundMark) (k : ℕ) (x : GroundMark) (out new : List ℕ) (stack left : List Piece) → map (the_mark ls) marks ≡ the_marks ls n → slice_get marks k ≡ Some x → IsTrue (piece_is_written S ls (piece.Marks n k))
      → new ≡ out ++ 44 ∷ [] → left ≡ (stack ++ piece.Marks n (suc k) ∷ []) ++ piece.Item (item.Mark x) ∷ [] → Wrote S ls (piece_text S ls (piece.Marks n k)) out new stack left
  marks-more n marks k x out new stack left e f w g h =
      let all = drop-step (the_mark ls) marks (the_marks ls n) k x e f in
      further 44 93 (map a_mark (drop (suc k) (the_marks ls n))) (a_mark (the_mark ls x)) _ out new stack left (piece.Marks n (suc k)) (item.Mark x) (ap (λ l. tail_text S 93 (map a_mark l)) all) refl refl refl (ap (λ l. are_written_items S (map a_mark l)) (sym all) ∙ w) g h

  pub marks-next : (n : GroundLabel) (marks : List GroundMark) (k m : ℕ) (x d : GroundMark) (out new : List ℕ) (stack left : List Piece) → map (the_mark ls) marks ≡ the_marks ls n → k < length marks → m ≡ suc k → x ≡ get_or marks k d → IsTrue (piece_is_written S ls (piece.Marks n k))
      → new ≡ out ++ 44 ∷ [] → left ≡ (stack ++ piece.Marks n m ∷ []) ++ piece.Item (item.Mark x) ∷ [] → Wrote S ls (piece_text S ls (piece.Marks n k)) out new stack left
  marks-next n marks k m x d out new stack left e h s r w f g =
      marks-more n marks k x out new stack left e (slice_get-get_or marks k d h ∙ ap Some (sym r)) w f (g ∙ ap (λ j. (stack ++ piece.Marks n j ∷ []) ++ piece.Item (item.Mark x) ∷ []) s)

  pub marks-end : (n : GroundLabel) (marks : List GroundMark) (k : ℕ) (out new : List ℕ) (stack left : List Piece) → map (the_mark ls) marks ≡ the_marks ls n → length marks ≤ k → new ≡ out ++ 93 ∷ [] → left ≡ stack → Wrote S ls (piece_text S ls (piece.Marks n k)) out new stack left
  marks-end n marks k out new stack left e f g h = wrote-all S ls _ out new stack left (g ∙ ap (λ l. out ++ tail_text S 93 (map a_mark l)) (sym (drop-end (the_mark ls) marks (the_marks ls n) k e f))) h

  -- ---- values

  pub values-open : (n : Values) (values rest : List Value) (x : Value) (i : TableItem) (out new : List ℕ) (stack left : List Piece) → map (the_value ls) values ≡ the_values ls n → values ≡ x ∷ rest → the_item ls i ≡ of_value (the_value ls x) → IsTrue (values_are_written S (values_tree (the_values ls n)))
      → new ≡ out ++ 123 ∷ [] → left ≡ (stack ++ piece.Values n 1 ∷ []) ++ piece.Item i ∷ [] → Wrote S ls (values_text S (values_tree (the_values ls n))) out new stack left
  values-open n values rest x i out new stack left e f is w g h =
      let all : the_values ls n ≡ the_value ls x ∷ map (the_value ls) rest = sym e ∙ ap (map (the_value ls)) f in
      let vs = map (the_value ls) rest in
      further 123 125 (map of_value vs) (of_value (the_value ls x)) _ out new stack left (piece.Values n 1) i
      (ap (λ l. values_text S (values_tree l)) all ∙ values-list S (values_tree (the_value ls x ∷ vs)) ∙ ap (λ l. 123 ∷ (item_text S (of_value (the_value ls x)) ++ tail_text S 125 l)) (sym (items-values vs))) is
      (ap (λ l. tail_text S 125 (map of_value (drop 1 l))) all) (ap (λ l. are_written_items S (map of_value (drop 1 l))) all)
      (ap (are_written_items S) (items-values (the_value ls x ∷ vs)) ∙ sym (values-written S (values_tree (the_value ls x ∷ vs))) ∙ ap (λ l. values_are_written S (values_tree l)) (sym all) ∙ w) g h

  pub values-none : (n : Values) (values : List Value) (out new : List ℕ) (stack left : List Piece) → map (the_value ls) values ≡ the_values ls n → values ≡ [] → new ≡ out ++ codes "{}" → left ≡ stack → Wrote S ls (values_text S (values_tree (the_values ls n))) out new stack left
  values-none n values out new stack left e f g h = wrote-all S ls _ out new stack left (g ∙ ap (λ l. out ++ values_text S (values_tree l)) (sym (sym e ∙ ap (map (the_value ls)) f))) h

  pub values-more : (n : Values) (values : List Value) (k : ℕ) (x : Value) (i : TableItem) (out new : List ℕ) (stack left : List Piece) → map (the_value ls) values ≡ the_values ls n → slice_get values k ≡ Some x → the_item ls i ≡ of_value (the_value ls x) → IsTrue (piece_is_written S ls (piece.Values n k))
      → new ≡ out ++ 44 ∷ [] → left ≡ (stack ++ piece.Values n (suc k) ∷ []) ++ piece.Item i ∷ [] → Wrote S ls (piece_text S ls (piece.Values n k)) out new stack left
  values-more n values k x i out new stack left e f is w g h =
      let all = drop-step (the_value ls) values (the_values ls n) k x e f in
      further 44 125 (map of_value (drop (suc k) (the_values ls n))) (of_value (the_value ls x)) _ out new stack left (piece.Values n (suc k)) i (ap (λ l. tail_text S 125 (map of_value l)) all) is refl refl (ap (λ l. are_written_items S (map of_value l)) (sym all) ∙ w) g h

  pub values-next : (n : Values) (values : List Value) (k m : ℕ) (x d : Value) (i : TableItem) (out new : List ℕ) (stack left : List Piece) → map (the_value ls) values ≡ the_values ls n → k < length values → m ≡ suc k → x ≡ get_or values k d → the_item ls i ≡ of_value (the_value ls x) → IsTrue (piece_is_written S ls (piece.Values n k))
      → new ≡ out ++ 44 ∷ [] → left ≡ (stack ++ piece.Values n m ∷ []) ++ piece.Item i ∷ [] → Wrote S ls (piece_text S ls (piece.Values n k)) out new stack left
  values-next n values k m x d i out new stack left e h s r is w f g =
      values-more n values k x i out new stack left e (slice_get-get_or values k d h ∙ ap Some (sym r)) is w f (g ∙ ap (λ j. (stack ++ piece.Values n j ∷ []) ++ piece.Item i ∷ []) s)

  pub values-end : (n : Values) (values : List Value) (k : ℕ) (out new : List ℕ) (stack left : List Piece) → map (the_value ls) values ≡ the_values ls n → length values ≤ k → new ≡ out ++ 125 ∷ [] → left ≡ stack → Wrote S ls (piece_text S ls (piece.Values n k)) out new stack left
  values-end n values k out new stack left e f g h = wrote-all S ls _ out new stack left (g ∙ ap (λ l. out ++ tail_text S 125 (map of_value l)) (sym (drop-end (the_value ls) values (the_values ls n) k e f))) h

-- ---- names

pub is-named : (S : List Symbol) (f n : ℕ) → IsTrue (has_function S f n) → IsTrue (is_named S f)
is-named S f n h = let x = function-at S f n h in ap (λ o. option_map_or (λ (s : Symbol). is_named_class s.class) o false) x.1.found ∙ ap is_named_class x.1.class

pub ruleset opening_pieces = (args-open, args-none, marks-open, marks-none, values-open, values-none)

pub ruleset more_pieces = (args-more, args-end, marks-more, marks-end, values-more, values-end)
