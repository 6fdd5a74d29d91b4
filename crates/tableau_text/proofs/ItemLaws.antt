-- Items and lists of items: their texts, and that an item is told by its head and its list.
use Rattle.std.proofs.Common.{◌≡◌, ℕ, suc, List, [], ◌∷◌, ◌++◌, length, ◌&&◌, IsTrue, refl, sym, ◌∙◌, ap, append_assoc}
use Rattle.calculus.specs.Syntax.{Symbol}
use Rattle.calculus.specs.Problems.{are_distinct}
use Rattle.calculus.specs.declared.symbol.SymbolClass.TheVariants.{Function}
use Rattle.calculus.specs.Ground.{GroundTerm, GroundTerms, GroundMark, Marks, Value, Values, g_fun, g_eigen, own, no_g_terms, more_g_terms, g_new_mark, no_marks, more_marks, term, steps, no_values, more_values, g_terms_list}
use Rattle.calculus.specs.TableauText.{ground_text, ground_args_text, more_ground_args_text, marks_text, more_marks_text, values_text, more_values_text, grounds_are_written, marks_are_written, values_are_written}
use Rattle.calculus.proofs.TermTextLaws.{same-symbol}
use Rattle.tableau_text.specs.Items.{Item, a_term, a_mark, a_string, all_values, of_value, of_terms, of_marks, of_values, item_text, item_is_written, are_written_items, tail_text, front_text, list_text, Head, of_args, of_own, of_steps, of_eigen, of_new, of_root, Made}

-- ---- the texts of lists

pub args-tail : (S : List Symbol) (ts : GroundTerms) → more_ground_args_text S ts ≡ tail_text S 41 (of_terms ts)
args-tail S no_g_terms = refl
args-tail S (more_g_terms t ts) = ap (λ l. 44 ∷ (ground_text S t ++ l)) (args-tail S ts)

pub marks-tail : (S : List Symbol) (w : Marks) → more_marks_text S w ≡ tail_text S 93 (of_marks w)
marks-tail S no_marks = refl
marks-tail S (more_marks m w) = ap (λ l. 44 ∷ (item_text S (a_mark m) ++ l)) (marks-tail S w)

pub values-tail : (S : List Symbol) (vs : Values) → more_values_text S vs ≡ tail_text S 125 (of_values vs)
values-tail S no_values = refl
values-tail S (more_values (term t) vs) = ap (λ l. 44 ∷ (ground_text S t ++ l)) (values-tail S vs)
values-tail S (more_values (steps w) vs) = ap (λ l. 44 ∷ (marks_text S w ++ l)) (values-tail S vs)

pub args-list : (S : List Symbol) (t : GroundTerm) (ts : GroundTerms) → ground_args_text S (more_g_terms t ts) ≡ list_text S 40 41 (of_terms (more_g_terms t ts))
args-list S t ts = ap (λ l. 40 ∷ (ground_text S t ++ l)) (args-tail S ts)

pub marks-list : (S : List Symbol) (w : Marks) → marks_text S w ≡ list_text S 91 93 (of_marks w)
marks-list S no_marks = refl
marks-list S (more_marks m w) = ap (λ l. 91 ∷ (item_text S (a_mark m) ++ l)) (marks-tail S w)

pub values-list : (S : List Symbol) (vs : Values) → values_text S vs ≡ list_text S 123 125 (of_values vs)
values-list S no_values = refl
values-list S (more_values (term t) vs) = ap (λ l. 123 ∷ (ground_text S t ++ l)) (values-tail S vs)
values-list S (more_values (steps w) vs) = ap (λ l. 123 ∷ (marks_text S w ++ l)) (values-tail S vs)

pub terms-written : (S : List Symbol) (ts : GroundTerms) → grounds_are_written S ts ≡ are_written_items S (of_terms ts)
terms-written S no_g_terms = refl
terms-written S (more_g_terms t ts) = ap (λ b. item_is_written S (a_term t) && b) (terms-written S ts)

pub marks-written : (S : List Symbol) (w : Marks) → marks_are_written S w ≡ are_written_items S (of_marks w)
marks-written S no_marks = refl
marks-written S (more_marks m w) = ap (λ b. item_is_written S (a_mark m) && b) (marks-written S w)

pub values-written : (S : List Symbol) (vs : Values) → values_are_written S vs ≡ are_written_items S (of_values vs)
values-written S no_values = refl
values-written S (more_values (term t) vs) = ap (λ b. item_is_written S (a_term t) && b) (values-written S vs)
values-written S (more_values (steps w) vs) = ap (λ b. item_is_written S (a_string w) && b) (values-written S vs)

pub terms-length : (ts : GroundTerms) → length (g_terms_list ts) ≡ length (of_terms ts)
terms-length no_g_terms = refl
terms-length (more_g_terms t ts) = ap suc (terms-length ts)

-- the last item of a list
tail-last : (S : List Symbol) (b : ℕ) (xs : List Item) (i : Item) → tail_text S b (xs ++ i ∷ []) ≡ 44 ∷ (front_text S xs ++ (item_text S i ++ b ∷ []))
tail-last S b [] i = refl
tail-last S b (x ∷ xs) i = ap (λ l. 44 ∷ (item_text S x ++ l)) (tail-last S b xs i) ∙ ap (λ l. 44 ∷ l) (sym (append_assoc (item_text S x) (44 ∷ front_text S xs) (item_text S i ++ b ∷ [])))

pub list-last : (S : List Symbol) (a b : ℕ) (xs : List Item) (i : Item) → list_text S a b (xs ++ i ∷ []) ≡ a ∷ (front_text S xs ++ (item_text S i ++ b ∷ []))
list-last S a b [] i = refl
list-last S a b (x ∷ xs) i = ap (λ l. a ∷ (item_text S x ++ l)) (tail-last S b xs i) ∙ ap (λ l. a ∷ l) (sym (append_assoc (item_text S x) (44 ∷ front_text S xs) (item_text S i ++ b ∷ [])))

pub front-last : (S : List Symbol) (xs : List Item) (i : Item) → front_text S (xs ++ i ∷ []) ≡ front_text S xs ++ (item_text S i ++ 44 ∷ [])
front-last S [] i = refl
front-last S (x ∷ xs) i = ap (λ l. item_text S x ++ 44 ∷ l) (front-last S xs i) ∙ sym (append_assoc (item_text S x) (44 ∷ front_text S xs) (item_text S i ++ 44 ∷ []))

-- ---- one tree for one list of items

item-terms : {t u : GroundTerm} → a_term t ≡ a_term u → t ≡ u
item-terms e = cc

item-marks : {t u : GroundMark} → a_mark t ≡ a_mark u → t ≡ u
item-marks e = cc

item-strings : {t u : Marks} → a_string t ≡ a_string u → t ≡ u
item-strings e = cc

parts-of : {x y : Item} {xs ys : List Item} → x ∷ xs ≡ y ∷ ys → (x ≡ y) × (xs ≡ ys)
parts-of e = (cc, cc)

nil-item : {x : Item} {xs : List Item} → [] ≡ x ∷ xs → ⊥
nil-item e = cc e

one-value : (v u : Value) → of_value v ≡ of_value u → v ≡ u
one-value (term t) (term u) e = ap term (item-terms e)
one-value (term t) (steps w) e = absurd (cc)
one-value (steps w) (term t) e = absurd (cc)
one-value (steps v) (steps w) e = ap steps (item-strings e)

pub one-terms : (ts us : GroundTerms) → of_terms ts ≡ of_terms us → ts ≡ us
one-terms no_g_terms no_g_terms e = refl
one-terms no_g_terms (more_g_terms u us) e = absurd (nil-item e)
one-terms (more_g_terms t ts) no_g_terms e = absurd (nil-item (sym e))
one-terms (more_g_terms t ts) (more_g_terms u us) e = let p = parts-of e in let a = item-terms p.0 in let b = one-terms ts us p.1 in (λ i. more_g_terms (a i) (b i))

pub one-marks : (ts us : Marks) → of_marks ts ≡ of_marks us → ts ≡ us
one-marks no_marks no_marks e = refl
one-marks no_marks (more_marks u us) e = absurd (nil-item e)
one-marks (more_marks t ts) no_marks e = absurd (nil-item (sym e))
one-marks (more_marks t ts) (more_marks u us) e = let p = parts-of e in let a = item-marks p.0 in let b = one-marks ts us p.1 in (λ i. more_marks (a i) (b i))

pub one-values : (ts us : Values) → of_values ts ≡ of_values us → ts ≡ us
one-values no_values no_values e = refl
one-values no_values (more_values u us) e = absurd (nil-item e)
one-values (more_values t ts) no_values e = absurd (nil-item (sym e))
one-values (more_values t ts) (more_values u us) e = let p = parts-of e in let a = one-value t u p.0 in let b = one-values ts us p.1 in (λ i. more_values (a i) (b i))

-- one item for one head and list
pub made-one : (S : List Symbol) → IsTrue (are_distinct S) → (h : Head) (xs : List Item) (i j : Item) → Made S h xs i → Made S h xs j → i ≡ j
made-one S d (of_args name) xs i j p q =
    let a = one-terms p.1 q.1 (sym p.3 ∙ q.3) in
    let n = length xs in
    let f = same-symbol S p.0 q.0 n n (record { name = name; class = Function; arity = n }) (record { name = name; class = Function; arity = n }) d (record { found = p.2; class = refl; arity = refl }) (record { found = q.2; class = refl; arity = refl }) refl refl in
    p.4 ∙ (λ k. a_term (g_fun (f k) (a k))) ∙ sym q.4
made-one S d (of_own k) xs i j p q = p.2 ∙ ap (λ w. a_term (own k w)) (one-marks p.0 q.0 (sym p.1 ∙ q.1)) ∙ sym q.2
made-one S d of_steps xs i j p q = p.2 ∙ ap a_string (one-marks p.0 q.0 (sym p.1 ∙ q.1)) ∙ sym q.2
made-one S d (of_eigen k) xs i j p q = p.2 ∙ ap (λ w. a_term (g_eigen k w)) (one-values p.0 q.0 (sym p.1 ∙ q.1)) ∙ sym q.2
made-one S d (of_new k) xs i j p q = p.2 ∙ ap (λ w. a_mark (g_new_mark k w)) (one-values p.0 q.0 (sym p.1 ∙ q.1)) ∙ sym q.2
made-one S d of_root xs i j p q = p.2 ∙ ap all_values (one-values p.0 q.0 (sym p.1 ∙ q.1)) ∙ sym q.2
