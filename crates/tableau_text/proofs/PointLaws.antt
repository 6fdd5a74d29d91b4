-- How the reading of a list of values goes on.
use Rattle.std.proofs.Common.{◌≡◌, ℕ, List, [], ◌∷◌, ◌++◌, length, true, false, ◌==◌, IsTrue, refl, sym, ◌∙◌, ap, subst, append_assoc, append-nil}
use Rattle.std.specs.List.{list_all}
use Rattle.std.proofs.lemmas.Bool.{true≢false, false≢true, and_parts, and_from}
use Rattle.std.proofs.lemmas.List.Folds.{list_all-append}
use Rattle.calculus.specs.Syntax.{Symbol}
use Rattle.calculus.specs.Skolem.{has_function}
use Rattle.calculus.specs.Problems.{are_distinct, symbol_fits}
use Rattle.calculus.specs.Ground.{GroundTerms, Marks, Values, no_g_terms, more_g_terms, no_marks, more_marks, term, steps, no_values, more_values, g_terms_list}
use Rattle.calculus.specs.Text.{name_text, symbol_at}
use Rattle.calculus.specs.TableauText.{ground_args_text, values_text, grounds_are_written, values_are_written}
use Rattle.calculus.proofs.TextLaws.{cons-head, cons-tail}
use Rattle.formula_text.proofs.Frames.{function-has, function-text}
use Rattle.tableau_text.specs.Items.{Item, a_term, a_mark, a_string, all_values, of_terms, of_marks, of_values, item_text, item_is_written, are_written_items, tail_text, front_text, list_text, Head, of_args, of_own, of_steps, of_eigen, of_new, of_root, opening, closing, head_text, head_is_written, may_be_empty, fits, is_a_term, is_a_mark, is_a_value, Made, Frame, with_item, frame_text, frame_is_written, before, Behind, Ahead}
use Rattle.tableau_text.specs.Tokens.{Follows, IsItemOn, whole, opened, IsBeginning, NoItem}
use Rattle.tableau_text.specs.Points.{Point, ahead, behind, inside, is_good, IsRightAt, Leads, NoneFrom}
use Rattle.tableau_text.proofs.ItemLaws.{args-list, marks-list, values-list, terms-written, marks-written, values-written, terms-length, list-last, front-last, made-one}
use Rattle.tableau_text.proofs.TokenLaws.{no-item-before}

pub leads-both : (S : List Symbol) (p q r : Point) → Leads S p q → Leads S q r → Leads S p r
leads-both S p q r g h = record { text = g.text ∙ h.text; written = λ w. h.written (g.written w); right = λ v k. h.right v (g.right v k) }

pub none-behind : (S : List Symbol) (p q : Point) → Leads S p q → NoneFrom S q → NoneFrom S p
none-behind S p q g none v k = none v (g.right v k)

-- ---- what stands in a list fits it

terms-fit : (ts : GroundTerms) → IsTrue (list_all is_a_term (of_terms ts))
terms-fit no_g_terms = refl
terms-fit (more_g_terms t ts) = terms-fit ts

marks-fit : (w : Marks) → IsTrue (list_all is_a_mark (of_marks w))
marks-fit no_marks = refl
marks-fit (more_marks m w) = marks-fit w

values-fit : (vs : Values) → IsTrue (list_all is_a_value (of_values vs))
values-fit no_values = refl
values-fit (more_values (term t) vs) = values-fit vs
values-fit (more_values (steps w) vs) = values-fit vs

made-fit : (S : List Symbol) (h : Head) (xs : List Item) (i : Item) → Made S h xs i → IsTrue (list_all (fits h) xs)
made-fit S (of_args name) xs i m = subst (λ l. IsTrue (list_all is_a_term l)) (sym m.3) (terms-fit m.1)
made-fit S (of_own k) xs i m = subst (λ l. IsTrue (list_all is_a_mark l)) (sym m.1) (marks-fit m.0)
made-fit S of_steps xs i m = subst (λ l. IsTrue (list_all is_a_mark l)) (sym m.1) (marks-fit m.0)
made-fit S (of_eigen k) xs i m = subst (λ l. IsTrue (list_all is_a_value l)) (sym m.1) (values-fit m.0)
made-fit S (of_new k) xs i m = subst (λ l. IsTrue (list_all is_a_value l)) (sym m.1) (values-fit m.0)
made-fit S of_root xs i m = subst (λ l. IsTrue (list_all is_a_value l)) (sym m.1) (values-fit m.0)

fits-good : (S : List Symbol) (h : Head) (i : Item) → IsTrue (fits h i) → IsTrue (is_good S i) → IsTrue (item_is_written S i)
fits-good S h (a_term t) f g = g
fits-good S h (a_mark m) f g = g
fits-good S h (a_string w) f g = g
fits-good S (of_args n) (all_values vs) f g = absurd (false≢true f)
fits-good S (of_own n) (all_values vs) f g = absurd (false≢true f)
fits-good S of_steps (all_values vs) f g = absurd (false≢true f)
fits-good S (of_eigen n) (all_values vs) f g = absurd (false≢true f)
fits-good S (of_new n) (all_values vs) f g = absurd (false≢true f)
fits-good S of_root (all_values vs) f g = absurd (false≢true f)

pub good-item : (S : List Symbol) (i : Item) → IsTrue (item_is_written S i) → IsTrue (is_good S i)
good-item S (a_term t) g = g
good-item S (a_mark m) g = g
good-item S (a_string w) g = g
good-item S (all_values vs) g = absurd (false≢true g)

-- an item that is made of what can be written
made-good : (S : List Symbol) (h : Head) (xs : List Item) (i : Item) → IsTrue (head_is_written h) → IsTrue (are_written_items S xs) → Made S h xs i → IsTrue (is_good S i)
made-good S (of_args name) xs i g w m =
    subst (λ j. IsTrue (is_good S j)) (sym m.4)
    (and_from (has_function S m.0 (length (g_terms_list m.1))) (grounds_are_written S m.1)
    (subst (λ n. IsTrue (has_function S m.0 n)) (ap length m.3 ∙ sym (terms-length m.1)) (function-has S m.0 (length xs) name m.2))
    (terms-written S m.1 ∙ subst (λ l. IsTrue (are_written_items S l)) m.3 w))
made-good S (of_own k) xs i g w m = subst (λ j. IsTrue (is_good S j)) (sym m.2) (and_from _ _ g (marks-written S m.0 ∙ subst (λ l. IsTrue (are_written_items S l)) m.1 w))
made-good S of_steps xs i g w m = subst (λ j. IsTrue (is_good S j)) (sym m.2) (marks-written S m.0 ∙ subst (λ l. IsTrue (are_written_items S l)) m.1 w)
made-good S (of_eigen k) xs i g w m = subst (λ j. IsTrue (is_good S j)) (sym m.2) (and_from _ _ g (values-written S m.0 ∙ subst (λ l. IsTrue (are_written_items S l)) m.1 w))
made-good S (of_new k) xs i g w m = subst (λ j. IsTrue (is_good S j)) (sym m.2) (and_from _ _ g (values-written S m.0 ∙ subst (λ l. IsTrue (are_written_items S l)) m.1 w))
made-good S of_root xs i g w m = subst (λ j. IsTrue (is_good S j)) (sym m.2) (values-written S m.0 ∙ subst (λ l. IsTrue (are_written_items S l)) m.1 w)

-- its text
made-text : (S : List Symbol) (h : Head) (xs : List Item) (i : Item) → (xs ≡ [] → IsTrue (may_be_empty h)) → Made S h xs i → item_text S i ≡ head_text h ++ list_text S (opening h) (closing h) xs
made-text S (of_args name) xs i some m = ap (item_text S) m.4 ∙ by m.1 m.3
  where
    by : (ts : GroundTerms) → xs ≡ of_terms ts → symbol_at S m.0 ++ ground_args_text S ts ≡ name_text name ++ list_text S 40 41 xs
    by no_g_terms e = absurd (false≢true (some e))
    by (more_g_terms t ts) e = ap (λ l. l ++ ground_args_text S (more_g_terms t ts)) (function-text S m.0 (length xs) name m.2) ∙ ap (λ l. name_text name ++ l) (args-list S t ts ∙ ap (list_text S 40 41) (sym e))
made-text S (of_own k) xs i some m = ap (item_text S) m.2 ∙ ap (λ l. head_text (of_own k) ++ l) (marks-list S m.0 ∙ ap (list_text S 91 93) (sym m.1))
made-text S of_steps xs i some m = ap (item_text S) m.2 ∙ (marks-list S m.0 ∙ ap (list_text S 91 93) (sym m.1))
made-text S (of_eigen k) xs i some m = ap (item_text S) m.2 ∙ ap (λ l. head_text (of_eigen k) ++ l) (values-list S m.0 ∙ ap (list_text S 123 125) (sym m.1))
made-text S (of_new k) xs i some m = ap (item_text S) m.2 ∙ ap (λ l. head_text (of_new k) ++ l) (values-list S m.0 ∙ ap (list_text S 123 125) (sym m.1))
made-text S of_root xs i some m = ap (item_text S) m.2 ∙ (values-list S m.0 ∙ ap (list_text S 123 125) (sym m.1))

-- ---- what follows an item

tail-follows : (S : List Symbol) (h : Head) (ys : List Item) (r : List ℕ) → Follows (tail_text S (closing h) ys ++ r)
tail-follows S h (y ∷ ys) r p a b c d = a
tail-follows S (of_args n) [] r p a b c d = b
tail-follows S (of_own n) [] r p a b c d = c
tail-follows S of_steps [] r p a b c d = c
tail-follows S (of_eigen n) [] r p a b c d = d
tail-follows S (of_new n) [] r p a b c d = d
tail-follows S of_root [] r p a b c d = d

behind-follows : (S : List Symbol) (f : Frame) (fs : List Frame) (i : Item) (rest : List ℕ) (v : Item) → Behind S (f ∷ fs) i rest v → Follows rest
behind-follows S f fs i rest v b = subst Follows (sym b.4) (tail-follows S f.head b.0 b.1)

no-comma : (h : Head) (r s : List ℕ) → closing h ∷ r ≡ 44 ∷ s → ⊥
no-comma (of_args n) r s e = true≢false (ap (λ k. k == 41) (cons-head e))
no-comma (of_own n) r s e = true≢false (ap (λ k. k == 93) (cons-head e))
no-comma of_steps r s e = true≢false (ap (λ k. k == 93) (cons-head e))
no-comma (of_eigen n) r s e = true≢false (ap (λ k. k == 125) (cons-head e))
no-comma (of_new n) r s e = true≢false (ap (λ k. k == 125) (cons-head e))
no-comma of_root r s e = true≢false (ap (λ k. k == 125) (cons-head e))

-- ---- a comma

last-none : (xs : List Item) (i : Item) → xs ++ i ∷ [] ≡ [] → ⊥
last-none [] i e = cc e
last-none (x ∷ xs) i e = cc e

written-last : (S : List Symbol) (f : Frame) (i : Item) → IsTrue (frame_is_written S f) → IsTrue (item_is_written S i) → IsTrue (frame_is_written S (with_item f i))
written-last S f i w k =
    let p = and_parts (head_is_written f.head) (are_written_items S f.items) w in
    and_from (head_is_written f.head) (are_written_items S (f.items ++ i ∷ [])) p.0
    (list_all-append (item_is_written S) f.items (i ∷ []) ∙ and_from (are_written_items S f.items) (are_written_items S (i ∷ [])) p.1 (and_from (item_is_written S i) true k refl))

pub comma : (S : List Symbol) (f : Frame) (fs : List Frame) (i : Item) (rest after : List ℕ) → IsTrue (fits f.head i) → rest ≡ 44 ∷ after → Leads S (behind (f ∷ fs) i rest) (ahead (with_item f i ∷ fs) after)
comma S f fs i rest after fit e = record {
  text = ap (λ l. (before S fs ++ frame_text S f) ++ (item_text S i ++ l)) e ∙ append_assoc (before S fs) (frame_text S f) (item_text S i ++ 44 ∷ after) ∙ ap (λ l. before S fs ++ l) same ∙ sym (append_assoc (before S fs) (frame_text S (with_item f i)) after);
  written = λ w.
      let p = and_parts (list_all (frame_is_written S) (f ∷ fs)) (is_good S i) w in
      let q = and_parts (frame_is_written S f) (list_all (frame_is_written S) fs) p.0 in
      and_from (frame_is_written S (with_item f i)) (list_all (frame_is_written S) fs) (written-last S f i q.0 (fits-good S f.head i fit p.1)) q.1;
  right = λ v b. by v b.0 b.1 b.2 b.3 b.4 b.5 b.6;
}
  where
    same : frame_text S f ++ (item_text S i ++ 44 ∷ after) ≡ frame_text S (with_item f i) ++ after
    same =
        append_assoc (head_text f.head) (opening f.head ∷ front_text S f.items) (item_text S i ++ 44 ∷ after)
        ∙ ap (λ l. head_text f.head ++ opening f.head ∷ l)
        (ap (λ l. front_text S f.items ++ l) (sym (append_assoc (item_text S i) (44 ∷ []) after)) ∙ sym (append_assoc (front_text S f.items) (item_text S i ++ 44 ∷ []) after) ∙ ap (λ l. l ++ after) (sym (front-last S f.items i)))
        ∙ sym (append_assoc (head_text f.head) (opening f.head ∷ front_text S (f.items ++ i ∷ [])) after)

    by : (v : Item) (ys : List Item) (r : List ℕ) (j : Item) → IsTrue (are_written_items S ys) → rest ≡ tail_text S (closing f.head) ys ++ r → Made S f.head ((f.items ++ i ∷ []) ++ ys) j → Behind S fs j r v → Ahead S (with_item f i ∷ fs) after v
    by v [] r j w t m b = absurd (no-comma f.head r after (sym t ∙ e))
    by v (y ∷ ys) r j w t m b =
        let p = and_parts (item_is_written S y) (are_written_items S ys) w in
        (y, tail_text S (closing f.head) ys ++ r, p.0, cons-tail (sym e ∙ t) ∙ append_assoc (item_text S y) (tail_text S (closing f.head) ys) r, (ys, r, j, p.1, refl, subst (λ l. Made S f.head l j) (sym (append_assoc (f.items ++ i ∷ []) (y ∷ []) ys)) m, b))

-- ---- a closing bracket

pub close : (S : List Symbol) → IsTrue (are_distinct S) → (f : Frame) (fs : List Frame) (i j : Item) (rest after : List ℕ) → IsTrue (fits f.head i) → rest ≡ closing f.head ∷ after → Made S f.head (f.items ++ i ∷ []) j → Leads S (behind (f ∷ fs) i rest) (behind fs j after)
close S d f fs i j rest after fit e m = record {
  text = ap (λ l. (before S fs ++ frame_text S f) ++ (item_text S i ++ l)) e ∙ append_assoc (before S fs) (frame_text S f) (item_text S i ++ closing f.head ∷ after) ∙ ap (λ l. before S fs ++ l) same;
  written = λ w.
      let p = and_parts (list_all (frame_is_written S) (f ∷ fs)) (is_good S i) w in
      let q = and_parts (frame_is_written S f) (list_all (frame_is_written S) fs) p.0 in
      let k = and_parts (head_is_written f.head) (are_written_items S (f.items ++ i ∷ [])) (written-last S f i q.0 (fits-good S f.head i fit p.1)) in
      and_from (list_all (frame_is_written S) fs) (is_good S j) q.1 (made-good S f.head (f.items ++ i ∷ []) j k.0 k.1 m);
  right = λ v b. by v b.0 b.1 b.2 b.4 b.5 b.6;
}
  where
    same : frame_text S f ++ (item_text S i ++ closing f.head ∷ after) ≡ item_text S j ++ after
    same =
        append_assoc (head_text f.head) (opening f.head ∷ front_text S f.items) (item_text S i ++ closing f.head ∷ after)
        ∙ ap (λ l. head_text f.head ++ opening f.head ∷ l)
        (ap (λ l. front_text S f.items ++ l) (sym (append_assoc (item_text S i) (closing f.head ∷ []) after)) ∙ sym (append_assoc (front_text S f.items) (item_text S i ++ closing f.head ∷ []) after))
        ∙ ap (λ l. head_text f.head ++ (l ++ after)) (sym (list-last S (opening f.head) (closing f.head) f.items i))
        ∙ sym (append_assoc (head_text f.head) (list_text S (opening f.head) (closing f.head) (f.items ++ i ∷ [])) after)
        ∙ ap (λ l. l ++ after) (sym (made-text S f.head (f.items ++ i ∷ []) j (λ n. absurd (last-none f.items i n)) m))

    by : (v : Item) (ys : List Item) (r : List ℕ) (k : Item) → rest ≡ tail_text S (closing f.head) ys ++ r → Made S f.head ((f.items ++ i ∷ []) ++ ys) k → Behind S fs k r v → Behind S fs j after v
    by v [] r k t n b =
        let is = made-one S d f.head (f.items ++ i ∷ []) k j (subst (λ l. Made S f.head l k) (append-nil (f.items ++ i ∷ [])) n) m in
        subst (λ l. Behind S fs j l v) (cons-tail (sym t ∙ e)) (subst (λ l. Behind S fs l r v) is b)
    by v (y ∷ ys) r k t n b = absurd (no-comma f.head after (item_text S y ++ tail_text S (closing f.head) ys ++ r) (sym e ∙ t ∙ ap (λ l. 44 ∷ l) refl))

-- ---- faults behind an item

pub no-fit : (S : List Symbol) (f : Frame) (fs : List Frame) (i : Item) (rest : List ℕ) → fits f.head i ≡ false → NoneFrom S (behind (f ∷ fs) i rest)
no-fit S f fs i rest e v b =
    let all = made-fit S f.head ((f.items ++ i ∷ []) ++ b.0) b.2 b.5 in
    let p = and_parts (list_all (fits f.head) (f.items ++ i ∷ [])) (list_all (fits f.head) b.0) (sym (list_all-append (fits f.head) (f.items ++ i ∷ []) b.0) ∙ all) in
    let q = and_parts (list_all (fits f.head) f.items) (list_all (fits f.head) (i ∷ [])) (sym (list_all-append (fits f.head) f.items (i ∷ [])) ∙ p.0) in
    let k = and_parts (fits f.head i) true q.1 in
    false≢true (sym e ∙ k.0)

pub no-follower : (S : List Symbol) (f : Frame) (fs : List Frame) (i : Item) (rest : List ℕ) → ((r : List ℕ) → ¬ (rest ≡ 44 ∷ r)) → ((r : List ℕ) → ¬ (rest ≡ closing f.head ∷ r)) → NoneFrom S (behind (f ∷ fs) i rest)
no-follower S f fs i rest comma closes v b = by b.0 b.4
  where
    by : (ys : List Item) → rest ≡ tail_text S (closing f.head) ys ++ b.1 → ⊥
    by [] t = closes _ t
    by (y ∷ ys) t = comma _ t

pub no-made : (S : List Symbol) (f : Frame) (fs : List Frame) (i : Item) (rest after : List ℕ) → rest ≡ closing f.head ∷ after → ((j : Item) → ¬ Made S f.head (f.items ++ i ∷ []) j) → NoneFrom S (behind (f ∷ fs) i rest)
no-made S f fs i rest after e none v b = by b.0 b.4 b.5
  where
    by : (ys : List Item) → rest ≡ tail_text S (closing f.head) ys ++ b.1 → Made S f.head ((f.items ++ i ∷ []) ++ ys) b.2 → ⊥
    by [] t m = none b.2 (subst (λ l. Made S f.head l b.2) (append-nil (f.items ++ i ∷ [])) m)
    by (y ∷ ys) t m = no-comma f.head after _ (sym e ∙ t)

-- ---- beginnings

item-on : (S : List Symbol) (f : Frame) (fs : List Frame) (text : List ℕ) (v : Item) (a : Ahead S (f ∷ fs) text v) → IsItemOn S text a.0 a.1
item-on S f fs text v a = record { written = a.2; follows = behind-follows S f fs a.0 a.1 v a.4; text = a.3 }

pub leaf : (S : List Symbol) (fs : List Frame) (i : Item) (text rest : List ℕ) → IsBeginning S text (whole i) rest → Leads S (ahead fs text) (behind fs i rest)
leaf S fs i text rest h = record {
  text = ap (λ l. before S fs ++ l) h.1;
  written = λ w. and_from (list_all (frame_is_written S) fs) (is_good S i) w (good-item S i h.0);
  right = λ v a. by fs v a;
}
  where
    by : (fs : List Frame) (v : Item) → Ahead S fs text v → Behind S fs i rest v
    by [] v a = absurd a
    by (f ∷ fs) v a =
        let p = h.2 a.0 a.1 (item-on S f fs text v a) in
        subst (λ j. Behind S (f ∷ fs) j rest v) (sym p.0) (subst (λ l. Behind S (f ∷ fs) a.0 l v) (sym p.1) a.4)

pub open-list : (S : List Symbol) (fs : List Frame) (h : Head) (text rest : List ℕ) → IsBeginning S text (opened h) rest → Leads S (ahead fs text) (inside fs h rest)
open-list S fs h text rest b = record {
  text = ap (λ l. before S fs ++ l) b.1;
  written = λ w. and_from (list_all (frame_is_written S) fs) (head_is_written h) w b.0;
  right = λ v a. by fs v a;
}
  where
    by : (fs : List Frame) (v : Item) → Ahead S fs text v → IsRightAt S v (inside fs h rest)
    by [] v a = absurd a
    by (f ∷ fs) v a = (a.0, a.1, b.2 a.0 a.1 (item-on S f fs text v a), a.4)

pub none-ahead : (S : List Symbol) (fs : List Frame) (text : List ℕ) → NoItem S text → NoneFrom S (ahead fs text)
none-ahead S [] text none v a = a
none-ahead S (f ∷ fs) text none v a = none a.0 a.1 (item-on S f fs text v a)

-- ---- behind an opening bracket

pub enter : (S : List Symbol) (fs : List Frame) (h : Head) (rest : List ℕ) → (IsTrue (may_be_empty h) → (r : List ℕ) → ¬ (rest ≡ closing h ∷ r)) → Leads S (inside fs h rest) (ahead (record { head = h; items = [] } ∷ fs) rest)
enter S fs h rest some = record {
  text = ap (λ l. before S fs ++ l) (sym (append_assoc (head_text h) (opening h ∷ []) rest)) ∙ sym (append_assoc (before S fs) (head_text h ++ opening h ∷ []) rest);
  written = λ w.
      let p = and_parts (list_all (frame_is_written S) fs) (head_is_written h) w in
      and_from (frame_is_written S (record { head = h; items = [] })) (list_all (frame_is_written S) fs) (and_from (head_is_written h) true p.1 refl) p.0;
  right = λ v k. by v k.0 k.1 k.3 k.2.items k.2.written k.2.made k.2.some k.2.text;
}
  where
    by : (v j : Item) (r : List ℕ) → Behind S fs j r v → (xs : List Item) → IsTrue (are_written_items S xs) → Made S h xs j → (xs ≡ [] → IsTrue (may_be_empty h)) → opening h ∷ rest ≡ list_text S (opening h) (closing h) xs ++ r → Ahead S (record { head = h; items = [] } ∷ fs) rest v
    by v j r b [] w m e t = absurd (some (e refl) r (cons-tail t))
    by v j r b (x ∷ xs) w m e t =
        let p = and_parts (item_is_written S x) (are_written_items S xs) w in
        (x, tail_text S (closing h) xs ++ r, p.0, cons-tail t ∙ append_assoc (item_text S x) (tail_text S (closing h) xs) r, (xs, r, j, p.1, refl, m, b))

no-item-text : (S : List Symbol) → IsTrue (list_all symbol_fits S) → (h : Head) (x : Item) (xs : List Item) (after r : List ℕ) → IsTrue (item_is_written S x) → closing h ∷ after ≡ (item_text S x ++ tail_text S (closing h) xs) ++ r → ⊥
no-item-text S fit h x xs after r w e =
    no-item-before S fit h after x (tail_text S (closing h) xs ++ r) (record { written = w; follows = tail-follows S h xs r; text = e ∙ append_assoc (item_text S x) (tail_text S (closing h) xs) r })

pub empty : (S : List Symbol) → IsTrue (are_distinct S) → IsTrue (list_all symbol_fits S) → (fs : List Frame) (h : Head) (j : Item) (rest after : List ℕ) → IsTrue (may_be_empty h) → rest ≡ closing h ∷ after → Made S h [] j → Leads S (inside fs h rest) (behind fs j after)
empty S d fit fs h j rest after may e m = record {
  text = ap (λ l. before S fs ++ (head_text h ++ opening h ∷ l)) e ∙ ap (λ l. before S fs ++ l) (sym (append_assoc (head_text h) (opening h ∷ closing h ∷ []) after) ∙ ap (λ l. l ++ after) (sym (made-text S h [] j (λ _. may) m)));
  written = λ w.
      let p = and_parts (list_all (frame_is_written S) fs) (head_is_written h) w in
      and_from (list_all (frame_is_written S) fs) (is_good S j) p.0 (made-good S h [] j p.1 refl m);
  right = λ v k. by v k.0 k.1 k.3 k.2.items k.2.written k.2.made k.2.text;
}
  where
    by : (v i : Item) (r : List ℕ) → Behind S fs i r v → (xs : List Item) → IsTrue (are_written_items S xs) → Made S h xs i → opening h ∷ rest ≡ list_text S (opening h) (closing h) xs ++ r → Behind S fs j after v
    by v i r b [] w n t =
        let is = made-one S d h [] i j n m in
        subst (λ l. Behind S fs j l v) (sym (cons-tail (sym e ∙ cons-tail t))) (subst (λ l. Behind S fs l r v) is b)
    by v i r b (x ∷ xs) w n t = absurd (no-item-text S fit h x xs after r (and_parts (item_is_written S x) (are_written_items S xs) w).0 (sym e ∙ cons-tail t))

pub no-empty : (S : List Symbol) → IsTrue (list_all symbol_fits S) → (fs : List Frame) (h : Head) (rest after : List ℕ) → rest ≡ closing h ∷ after → ((j : Item) → ¬ Made S h [] j) → NoneFrom S (inside fs h rest)
no-empty S fit fs h rest after e none v k = by k.0 k.1 k.2.items k.2.written k.2.made k.2.text
  where
    by : (i : Item) (r : List ℕ) (xs : List Item) → IsTrue (are_written_items S xs) → Made S h xs i → opening h ∷ rest ≡ list_text S (opening h) (closing h) xs ++ r → ⊥
    by i r [] w n t = none i n
    by i r (x ∷ xs) w n t = no-item-text S fit h x xs after r (and_parts (item_is_written S x) (are_written_items S xs) w).0 (sym e ∙ cons-tail t)

-- ---- the whole text

-- where the text of a list of values begins
pub begins : (S : List Symbol) (vs : Values) (text inner : List ℕ) → IsTrue (values_are_written S vs) → text ≡ 123 ∷ inner → text ≡ values_text S vs → IsRightAt S (all_values vs) (inside [] of_root inner)
begins S vs text inner w e t = (
  all_values vs,
  [],
  record {
    items = of_values vs;
    written = sym (values-written S vs) ∙ w;
    made = (vs, refl, refl);
    some = λ _. refl;
    text = sym e ∙ t ∙ values-list S vs ∙ sym (append-nil (list_text S 123 125 (of_values vs)));
  },
  (refl, refl),
)

pub ends : (S : List Symbol) (vs : Values) (text inner rest : List ℕ) → text ≡ 123 ∷ inner → rest ≡ [] → Leads S (inside [] of_root inner) (behind [] (all_values vs) rest) → IsTrue (values_are_written S vs) × (text ≡ values_text S vs)
ends S vs text inner rest e n h = (h.written refl, e ∙ h.text ∙ ap (λ l. values_text S vs ++ l) n ∙ append-nil (values_text S vs))
