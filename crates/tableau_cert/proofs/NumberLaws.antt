-- Numbers have 32 bits in each list of a table where they have in those before it, and so in moves and tableaux.
use Rattle.std.proofs.Common.{◌≡◌, ℕ, zero, suc, ◌<◌, ◌≤◌, ◌+◌, ◌^◌, ◌⊎◌, inl, inr, List, [], ◌∷◌, length, map, drop, Bool, true, ◌&&◌, IsTrue, refl, sym, ◌∙◌, ap, subst, arith, get_or}
use Rattle.std.specs.List.{AllByRecursion, list_all}
use Rattle.std.proofs.lemmas.Bool.{and_parts, and_from, cases_lt, lt-ltb}
use Rattle.std.proofs.lemmas.List.{get_or_past}
use Rattle.std.proofs.lemmas.List.Folds.{list_all-append}
use Rattle.calculus.specs.Ground as tree
use Rattle.calculus.specs.Ground.{marks_tree, values_tree}
use Rattle.calculus.specs.Lists.{g_terms_tree}
use Rattle.calculus.specs.DerivationText.{is_limit}
use Rattle.calculus.specs.Syntax.{Problem}
use Rattle.calculus.specs.Tableaux.{Closing, Closings, reduce, extend, no_closings, more_closings, Tableau, is_closed}
use Rattle.calculus.specs.Text.{is_number}
use Rattle.calculus.specs.TableauText.{Moves, are_written, IsMovesText, IsClosedText, chosen_of, moves_of, moves_of_all, tableau_moves, ground_has_numbers, grounds_have_numbers, ground_mark_has_numbers, marks_have_numbers, value_has_numbers, values_have_numbers, instance_has_numbers, closing_has_numbers, closings_have_numbers, tableau_has_numbers}
use Rattle.calculus.proofs.TableauTextUnique.{closed-instances}
use Rattle.calculus.proofs.TableauWritten.{closed-written}
use Rattle.cop_base.specs.declared.PosId.{PosId}
use Rattle.cop_base.specs.declared.SymbolId.{SymbolId}
use Rattle.formula_core.specs.GroundLists.{GroundList, of_terms, of_marks, of_values, list_at, terms_in, marks_in, values_in, the_marks, the_values, the_g_term, the_mark, the_value, IsLower, IsLowerTerm, IsLowerMark, IsLowerValue}
use Rattle.formula_core.specs.declared.ground.GroundTerms.{GroundTerms}
use Rattle.formula_core.specs.declared.ground.GroundLabel.{GroundLabel}
use Rattle.formula_core.specs.declared.ground.Values.{Values}
use Rattle.formula_core.specs.declared.ground.GroundTerm.{GroundTerm}
use Rattle.formula_core.specs.declared.ground.GroundTerm.TheVariants as term
use Rattle.formula_core.specs.declared.ground.GroundMark.{GroundMark}
use Rattle.formula_core.specs.declared.ground.GroundMark.TheVariants as mark
use Rattle.formula_core.specs.declared.ground.Value.{Value}
use Rattle.formula_core.specs.declared.ground.Value.TheVariants as value
use Rattle.tableau_text.specs.MovesView.{the_move}
use Rattle.tableau_text.specs.declared.moves.Chosen.{Chosen}
use Rattle.tableau_text.specs.declared.moves.Move.{Move}
use Rattle.tableau_text.specs.declared.moves.Move.TheVariants as moves
use Rattle.tableau_cert.specs.Numbers.{list_has_numbers, HaveNumbers, chosen_has_numbers, move_has_numbers, moves_have_numbers}

pub small : (n : ℕ) → n < 2 ^ 32 → IsTrue (is_number n)
small n h = lt-ltb n (2 ^ 32) h

-- ---- one list

terms-of : (l : GroundList) → IsTrue (list_has_numbers l) → IsTrue (grounds_have_numbers (g_terms_tree (terms_in l)))
terms-of (of_terms ts) h = h
terms-of (of_marks ms) h = refl
terms-of (of_values vs) h = refl

marks-of : (l : GroundList) → IsTrue (list_has_numbers l) → IsTrue (marks_have_numbers (marks_tree (marks_in l)))
marks-of (of_terms ts) h = refl
marks-of (of_marks ms) h = h
marks-of (of_values vs) h = refl

values-of : (l : GroundList) → IsTrue (list_has_numbers l) → IsTrue (values_have_numbers (values_tree (values_in l)))
values-of (of_terms ts) h = refl
values-of (of_marks ms) h = refl
values-of (of_values vs) h = h

kinds : (l : GroundList) → IsTrue (grounds_have_numbers (g_terms_tree (terms_in l))) → IsTrue (marks_have_numbers (marks_tree (marks_in l))) → IsTrue (values_have_numbers (values_tree (values_in l))) → IsTrue (list_has_numbers l)
kinds (of_terms ts) t m v = t
kinds (of_marks ms) t m v = m
kinds (of_values vs) t m v = v

pub list-numbers : (ls : List GroundList) (n : ℕ) (ts : List tree.GroundTerm) (ms : List tree.GroundMark) (vs : List tree.Value) → ts ≡ terms_in (list_at ls n) → ms ≡ marks_in (list_at ls n) → vs ≡ values_in (list_at ls n)
    → IsTrue (grounds_have_numbers (g_terms_tree ts)) → IsTrue (marks_have_numbers (marks_tree ms)) → IsTrue (values_have_numbers (values_tree vs)) → IsTrue (list_has_numbers (list_at ls n))
list-numbers ls n ts ms vs e f g t m v = kinds (list_at ls n) (subst (λ l. IsTrue (grounds_have_numbers (g_terms_tree l))) e t) (subst (λ l. IsTrue (marks_have_numbers (marks_tree l))) f m) (subst (λ l. IsTrue (values_have_numbers (values_tree l))) g v)

module _ (ls : List GroundList) (n : ℕ) (known : HaveNumbers ls n) where
  below : {A : Type 0} (part : GroundList → List A) (p : List A → Bool) → IsTrue (p []) → ((l : GroundList) → IsTrue (list_has_numbers l) → IsTrue (p (part l))) → (k : ℕ) → IsLower (part (list_at ls k)) k n → IsTrue (p (part (list_at ls k)))
  below part p none of k low = by (cases_lt k n)
    where
      by : (k < n) ⊎ (n ≤ k) → IsTrue (p (part (list_at ls k)))
      by (inl h) = of (list_at ls k) (known k h)
      by (inr h) = subst (λ xs. IsTrue (p xs)) (sym (low h)) none

  terms-below : (k : ℕ) → IsLower (terms_in (list_at ls k)) k n → IsTrue (grounds_have_numbers (g_terms_tree (terms_in (list_at ls k))))
  terms-below k low = below terms_in (λ ts. grounds_have_numbers (g_terms_tree ts)) refl terms-of k low

  marks-below : (k : ℕ) → IsLower (marks_in (list_at ls k)) k n → IsTrue (marks_have_numbers (marks_tree (marks_in (list_at ls k))))
  marks-below k low = below marks_in (λ ms. marks_have_numbers (marks_tree ms)) refl marks-of k low

  values-below : (k : ℕ) → IsLower (values_in (list_at ls k)) k n → IsTrue (values_have_numbers (values_tree (values_in (list_at ls k))))
  values-below k low = below values_in (λ vs. values_have_numbers (values_tree vs)) refl values-of k low

  -- ---- one item, its own number being small

  pub fun-numbers : (t : GroundTerm) (f : SymbolId) (ts : GroundTerms) → t ≡ term.Fun f ts → IsLowerTerm ls n t → IsTrue (ground_has_numbers (the_g_term ls t))
  fun-numbers t f ts e low = subst (λ x. IsTrue (ground_has_numbers (the_g_term ls x))) (sym e) (terms-below ts.0 (subst (IsLowerTerm ls n) e low))

  pub eigen-numbers : (t : GroundTerm) (p : PosId) (vs : Values) → t ≡ term.Eigen p vs → IsTrue (is_number p.0) → IsLowerTerm ls n t → IsTrue (ground_has_numbers (the_g_term ls t))
  eigen-numbers t p vs e h low =
      subst (λ x. IsTrue (ground_has_numbers (the_g_term ls x))) (sym e) (and_from (is_number p.0) (values_have_numbers (values_tree (the_values ls vs))) h (values-below vs.0 (subst (IsLowerTerm ls n) e low)))

  pub own-numbers : (t : GroundTerm) (k : ℕ) (w : GroundLabel) → t ≡ term.Own k w → IsTrue (is_number k) → IsLowerTerm ls n t → IsTrue (ground_has_numbers (the_g_term ls t))
  own-numbers t k w e h low =
      subst (λ x. IsTrue (ground_has_numbers (the_g_term ls x))) (sym e) (and_from (is_number k) (marks_have_numbers (marks_tree (the_marks ls w))) h (marks-below w.0 (subst (IsLowerTerm ls n) e low)))

  pub new-numbers : (m : GroundMark) (p : PosId) (vs : Values) → m ≡ mark.New p vs → IsTrue (is_number p.0) → IsLowerMark ls n m → IsTrue (ground_mark_has_numbers (the_mark ls m))
  new-numbers m p vs e h low =
      subst (λ x. IsTrue (ground_mark_has_numbers (the_mark ls x))) (sym e) (and_from (is_number p.0) (values_have_numbers (values_tree (the_values ls vs))) h (values-below vs.0 (subst (IsLowerMark ls n) e low)))

  pub steps-numbers : (v : Value) (w : GroundLabel) → v ≡ value.Steps w → IsLowerValue ls n v → IsTrue (value_has_numbers (the_value ls v))
  steps-numbers v w e low = subst (λ x. IsTrue (value_has_numbers (the_value ls x))) (sym e) (marks-below w.0 (subst (IsLowerValue ls n) e low))

  pub term-numbers : (v : Value) (t : GroundTerm) → v ≡ value.Term t → (IsLowerTerm ls n t → IsTrue (ground_has_numbers (the_g_term ls t))) → IsLowerValue ls n v → IsTrue (value_has_numbers (the_value ls v))
  term-numbers v t e h low = subst (λ x. IsTrue (value_has_numbers (the_value ls x))) (sym e) (h (subst (IsLowerValue ls n) e low))

-- ---- the items of a list, one by one: what the rest has, the whole has

rest-all : {A B : Type 0} (f : A → B) (p : List B → Bool) (q : B → Bool) → ((y : B) (ys : List B) → IsTrue (q y) → IsTrue (p ys) → IsTrue (p (y ∷ ys))) → (P : A → Type 0) (xs : List A) (k : ℕ) (d x : A) → k < length xs → x ≡ get_or xs k d → (P x → IsTrue (q (f x))) → AllByRecursion P xs
    → IsTrue (p (map f (drop (suc k) xs))) → IsTrue (p (map f (drop k xs)))
rest-all f p q join P [] k d x h e g low r = absurd (omega arith)
rest-all f p q join P (y ∷ xs) zero d x h e g low r = join (f y) (map f xs) (subst (λ z. P z → IsTrue (q (f z))) e g low.0) r
rest-all f p q join P (y ∷ xs) (suc k) d x h e g low r = rest-all f p q join P xs k d x (omega arith) e g low.1 r

next : {A B : Type 0} (f : A → B) (p : List B → Bool) (xs : List A) (k : ℕ) → IsTrue (p (map f (drop (k + 1) xs))) → IsTrue (p (map f (drop (suc k) xs)))
next f p xs k r = subst (λ n. IsTrue (p (map f (drop n xs)))) one r
  where
    one : k + 1 ≡ suc k
    one = omega arith

pub rest-terms : (ls : List GroundList) (n : ℕ) (xs : List GroundTerm) (k : ℕ) (d x : GroundTerm) → k < length xs → x ≡ get_or xs k d → (IsLowerTerm ls n x → IsTrue (ground_has_numbers (the_g_term ls x))) → AllByRecursion (IsLowerTerm ls n) xs
    → IsTrue (grounds_have_numbers (g_terms_tree (map (the_g_term ls) (drop (k + 1) xs)))) → IsTrue (grounds_have_numbers (g_terms_tree (map (the_g_term ls) (drop k xs))))
rest-terms ls n xs k d x h e f low r =
    rest-all (the_g_term ls) (λ ts. grounds_have_numbers (g_terms_tree ts)) ground_has_numbers (λ y ys a b. and_from (ground_has_numbers y) (grounds_have_numbers (g_terms_tree ys)) a b) (IsLowerTerm ls n) xs k d x h e f low
    (next (the_g_term ls) (λ ts. grounds_have_numbers (g_terms_tree ts)) xs k r)

pub rest-marks : (ls : List GroundList) (n : ℕ) (xs : List GroundMark) (k : ℕ) (d x : GroundMark) → k < length xs → x ≡ get_or xs k d → (IsLowerMark ls n x → IsTrue (ground_mark_has_numbers (the_mark ls x))) → AllByRecursion (IsLowerMark ls n) xs
    → IsTrue (marks_have_numbers (marks_tree (map (the_mark ls) (drop (k + 1) xs)))) → IsTrue (marks_have_numbers (marks_tree (map (the_mark ls) (drop k xs))))
rest-marks ls n xs k d x h e f low r =
    rest-all (the_mark ls) (λ ms. marks_have_numbers (marks_tree ms)) ground_mark_has_numbers (λ y ys a b. and_from (ground_mark_has_numbers y) (marks_have_numbers (marks_tree ys)) a b) (IsLowerMark ls n) xs k d x h e f low
    (next (the_mark ls) (λ ms. marks_have_numbers (marks_tree ms)) xs k r)

pub rest-values : (ls : List GroundList) (n : ℕ) (xs : List Value) (k : ℕ) (d x : Value) → k < length xs → x ≡ get_or xs k d → (IsLowerValue ls n x → IsTrue (value_has_numbers (the_value ls x))) → AllByRecursion (IsLowerValue ls n) xs
    → IsTrue (values_have_numbers (values_tree (map (the_value ls) (drop (k + 1) xs)))) → IsTrue (values_have_numbers (values_tree (map (the_value ls) (drop k xs))))
rest-values ls n xs k d x h e f low r =
    rest-all (the_value ls) (λ vs. values_have_numbers (values_tree vs)) value_has_numbers (λ y ys a b. and_from (value_has_numbers y) (values_have_numbers (values_tree ys)) a b) (IsLowerValue ls n) xs k d x h e f low
    (next (the_value ls) (λ vs. values_have_numbers (values_tree vs)) xs k r)

-- the rest is empty
pub none-left : {A B : Type 0} (f : A → B) (p : List B → Bool) (xs : List A) (k : ℕ) → IsTrue (p []) → length xs ≤ k → IsTrue (p (map f (drop k xs)))
none-left f p [] k h e = subst (λ l. IsTrue (p (map f l))) (sym (none k)) h
  where
    none : {A : Type 0} (k : ℕ) → drop {A = A} k [] ≡ []
    none zero = refl
    none (suc k) = refl
none-left f p (x ∷ xs) zero h e = absurd (omega arith)
none-left f p (x ∷ xs) (suc k) h e = none-left f p xs k h (omega arith)

-- ---- the lists of a table, one by one

pub one-list : (ls : List GroundList) (n : ℕ) → HaveNumbers ls n → IsTrue (list_has_numbers (list_at ls n)) → HaveNumbers ls (n + 1)
one-list ls n known h k lt = by (cases_lt k n)
  where
    by : (k < n) ⊎ (n ≤ k) → IsTrue (list_has_numbers (list_at ls k))
    by (inl g) = known k g
    by (inr g) = let e : n ≡ k = omega arith in subst (λ j. IsTrue (list_has_numbers (list_at ls j))) e h

values-tree : (vs : List tree.Value) → values_have_numbers (values_tree vs) ≡ list_all value_has_numbers vs
values-tree [] = refl
values-tree (v ∷ vs) = ap (λ b. value_has_numbers v && b) (values-tree vs)

-- all lists of a table
pub all-values : (ls : List GroundList) → HaveNumbers ls (length ls) → (n : Values) → IsTrue (list_all value_has_numbers (the_values ls n))
all-values ls known n = sym (values-tree (the_values ls n)) ∙ values-below ls (length ls) known n.0 (λ h. ap values_in (get_or_past ls n.0 (of_terms []) h))

-- ---- moves

pub reduction-numbers : (ls : List GroundList) (m : Move) (up : ℕ) → m ≡ moves.Reduction up → IsTrue (is_number up) → IsTrue (move_has_numbers (the_move ls m))
reduction-numbers ls m up e h = subst (λ x. IsTrue (move_has_numbers (the_move ls x))) (sym e) h

pub extension-numbers : (ls : List GroundList) (m : Move) (place : ℕ) (i : Chosen) → m ≡ moves.Extension place i → HaveNumbers ls (length ls) → IsTrue (is_number place) → IsTrue (move_has_numbers (the_move ls m))
extension-numbers ls m place i e known h = subst (λ x. IsTrue (move_has_numbers (the_move ls x))) (sym e) (and_from (is_number place) (list_all value_has_numbers (the_values ls i.values)) h (all-values ls known i.values))

pub move-rest : (ls : List GroundList) (ms : List Move) (k : ℕ) (d x : Move) → k < length ms → x ≡ get_or ms k d → IsTrue (move_has_numbers (the_move ls x)) → IsTrue (list_all move_has_numbers (map (the_move ls) (drop (k + 1) ms))) → IsTrue (list_all move_has_numbers (map (the_move ls) (drop k ms)))
move-rest ls ms k d x h e f r =
    rest-all (the_move ls) (list_all move_has_numbers) move_has_numbers (λ y ys a b. and_from (move_has_numbers y) (list_all move_has_numbers ys) a b) (λ m. m ≡ m) ms k d x h e (λ _. f) (alike ms) (next (the_move ls) (list_all move_has_numbers) ms k r)
  where
    alike : (ms : List Move) → AllByRecursion (λ m. m ≡ m) ms
    alike [] = tt
    alike (m ∷ ms) = (refl, alike ms)

-- ---- tableaux

mutual
  closing-numbers : (c : Closing) → IsTrue (list_all move_has_numbers (moves_of c)) → IsTrue (closing_has_numbers c)
  closing-numbers (reduce up) h = (and_parts (is_number up) true h).0
  closing-numbers (extend i place cs) h =
      let p = and_parts (is_number place && instance_has_numbers i) (list_all move_has_numbers (moves_of_all cs)) h in
      and_from (is_number place && instance_has_numbers i) (closings_have_numbers cs) p.0 (closings-numbers cs p.1)

  closings-numbers : (cs : Closings) → IsTrue (list_all move_has_numbers (moves_of_all cs)) → IsTrue (closings_have_numbers cs)
  closings-numbers no_closings h = refl
  closings-numbers (more_closings c cs) h =
      let p = and_parts (list_all move_has_numbers (moves_of c)) (list_all move_has_numbers (moves_of_all cs)) (sym (list_all-append move_has_numbers (moves_of c) (moves_of_all cs)) ∙ h) in
      and_from (closing_has_numbers c) (closings_have_numbers cs) (closing-numbers c p.0) (closings-numbers cs p.1)

-- a tableau has small numbers where its moves have
pub tableau-numbers : (t : Tableau) (d : ℕ) → IsTrue (moves_have_numbers (tableau_moves t d)) → IsTrue (tableau_has_numbers t)
tableau-numbers t d h =
    let p = and_parts (chosen_has_numbers (chosen_of t.start)) (list_all move_has_numbers (moves_of_all t.goals)) h in
    and_from (instance_has_numbers t.start) (closings_have_numbers t.goals) p.0 (closings-numbers t.goals p.1)

-- the moves of a closed tableau can be written, and their text is that of the tableau
pub closed-moves : (P : Problem) (t : Tableau) (d : ℕ) (x : Moves) → x ≡ tableau_moves t d → IsTrue (is_limit d) → IsTrue (is_closed P d t) → IsTrue (moves_have_numbers x) → IsTrue (are_written P x)
closed-moves P t d x e limit h n = subst (λ m. IsTrue (are_written P m)) (sym e) (closed-written P t d limit h (tableau-numbers t d (subst (λ m. IsTrue (moves_have_numbers m)) e n)))

pub closed-text : (P : Problem) (t : Tableau) (d : ℕ) (x : Moves) (bytes : List ℕ) → x ≡ tableau_moves t d → IsTrue (is_closed P d t) → IsMovesText P x bytes → IsClosedText P t d bytes
closed-text P t d x bytes e h m = record { text = record { instances = closed-instances P d t h; text = subst (λ y. IsMovesText P y bytes) e m }; closed = h }
