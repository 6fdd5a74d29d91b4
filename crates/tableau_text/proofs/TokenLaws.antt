-- How items begin: each has one token, and what follows the token tells how it goes on.
use Rattle.std.proofs.Common.{◌≡◌, ℕ, List, [], ◌∷◌, ◌++◌, length, Bool, true, false, ◌==◌, ◌⊎◌, IsTrue, refl, sym, ◌∙◌, ap, subst, append_assoc, codes, decimal, flat_map, if◌then◌else◌, inl, inr}
use Rattle.std.specs.List.{list_all}
use Rattle.std.proofs.lemmas.Bool.{true≢false, false≢true, and_parts, and_from}
use Rattle.plain_laws.proofs.Places.{differ-at}
use Rattle.formula_text.proofs.Heads.{list_all-at}
use Rattle.calculus.specs.declared.symbol.SymbolClass.TheVariants.{Function}
use Rattle.calculus.specs.Syntax.{Symbol}
use Rattle.calculus.specs.Skolem.{has_function}
use Rattle.calculus.specs.Problems.{are_distinct, symbol_fits}
use Rattle.calculus.specs.Ground.{GroundTerms, Marks, Values, g_fun, g_eigen, common, own, no_g_terms, more_g_terms, g_new_mark, g_spare_mark, no_marks, more_marks, no_values, more_values, g_terms_list}
use Rattle.calculus.specs.Text.{StopsAt, is_digit, is_lower, is_lower_word, is_number, is_word_byte, name_text, escaped}
use Rattle.calculus.specs.TableauText.{ground_args_text, marks_text, values_text, grounds_are_written, marks_are_written, values_are_written}
use Rattle.calculus.proofs.TextLaws.{cons-head, cons-tail, decimal-split, name-split, name-dollar}
use Rattle.calculus.proofs.TermTextLaws.{same-symbol, small-number}
use Rattle.calculus.proofs.DerivationTextLaws.{cancel}
use Rattle.formula_text.specs.Frames.{IsFunction, NoFunction}
use Rattle.formula_text.proofs.Frames.{contains-at, function-has, function-text, named}
use Rattle.tableau_text.specs.Items.{Item, a_term, a_mark, a_string, all_values, of_terms, of_marks, of_values, are_written_items, closing, Head, of_args, of_own, of_steps, of_eigen, of_new, of_root}
use Rattle.tableau_text.specs.Tokens.{Token, by_name, by_number, by_bracket, kind_text, IsToken, Follows, IsItemOn, IsListOn, whole, opened, IsBegunAt, NoneAt, NoItem}
use Rattle.tableau_text.specs.declared.token.NameKind.{NameKind}
use Rattle.tableau_text.specs.declared.token.NameKind.TheVariants.{Eigen, New, Constant, Spare}
use Rattle.tableau_text.proofs.ItemLaws.{args-list, marks-list, values-list, terms-written, marks-written, values-written, terms-length}

-- ---- one token

name-bracket : (a r s : List ℕ) → name_text a ++ r ≡ 91 ∷ s → ⊥
name-bracket a r s e = by (is_lower_word a) refl
  where
    bare : (a : List ℕ) → IsTrue (is_lower_word a) → a ++ r ≡ 91 ∷ s → ⊥
    bare [] h f = false≢true h
    bare (c ∷ cs) h f = false≢true (sym (ap is_lower (cons-head f)) ∙ (and_parts (is_lower c) (list_all is_word_byte cs) h).0)

    by : (x : Bool) → is_lower_word a ≡ x → ⊥
    by true h = bare a h (ap (λ x. (if x then a else 39 ∷ (flat_map escaped a ++ 39 ∷ [])) ++ r) (sym h) ∙ e)
    by false h = true≢false (ap (λ k. k == 39) (cons-head (ap (λ x. (if x then a else 39 ∷ (flat_map escaped a ++ 39 ∷ [])) ++ r) (sym h) ∙ e)))

-- a name with a number begins with `$`
pub kind-dollar : (k : NameKind) (r : List ℕ) → (s : List ℕ) × (kind_text k ++ r ≡ 36 ∷ s)
kind-dollar Eigen r = (_, refl)
kind-dollar New r = (_, refl)
kind-dollar Constant r = (_, refl)
kind-dollar Spare r = (_, refl)

pub one-kind : (k l : NameKind) (r s : List ℕ) → kind_text k ++ r ≡ kind_text l ++ s → (k ≡ l) × (r ≡ s)
one-kind Eigen Eigen r s e = (refl, cancel (codes "$$e") r s e)
one-kind New New r s e = (refl, cancel (codes "$$c") r s e)
one-kind Constant Constant r s e = (refl, cancel (codes "$$s") r s e)
one-kind Spare Spare r s e = (refl, cancel (codes "$$d") r s e)
one-kind Eigen New r s e = absurd (differ-at _ _ 2 e refl)
one-kind Eigen Constant r s e = absurd (differ-at _ _ 2 e refl)
one-kind Eigen Spare r s e = absurd (differ-at _ _ 2 e refl)
one-kind New Eigen r s e = absurd (differ-at _ _ 2 e refl)
one-kind New Constant r s e = absurd (differ-at _ _ 2 e refl)
one-kind New Spare r s e = absurd (differ-at _ _ 2 e refl)
one-kind Constant Eigen r s e = absurd (differ-at _ _ 2 e refl)
one-kind Constant New r s e = absurd (differ-at _ _ 2 e refl)
one-kind Constant Spare r s e = absurd (differ-at _ _ 2 e refl)
one-kind Spare Eigen r s e = absurd (differ-at _ _ 2 e refl)
one-kind Spare New r s e = absurd (differ-at _ _ 2 e refl)
one-kind Spare Constant r s e = absurd (differ-at _ _ 2 e refl)

pub dollar-bracket : (r s : List ℕ) → 36 ∷ r ≡ 91 ∷ s → ⊥
dollar-bracket r s e = true≢false (ap (λ k. k == 36) (cons-head e))

pub token-one : (bytes : List ℕ) (t u : Token) (r s : List ℕ) → IsToken bytes t r → IsToken bytes u s → (t ≡ u) × (r ≡ s)
token-one bytes (by_name a) (by_name b) r s h k = let p = name-split a b r s h.2 k.2 (sym h.1 ∙ k.1) in (ap by_name p.0, p.1)
token-one bytes (by_name a) (by_number l n) r s h k = let d = kind-dollar l (decimal n ++ s) in absurd (name-dollar a r d.0 (sym h.1 ∙ k.1 ∙ d.1))
token-one bytes (by_name a) by_bracket r s h k = absurd (name-bracket a r s (sym h.1 ∙ k))
token-one bytes (by_number l n) (by_name b) r s h k = let d = kind-dollar l (decimal n ++ r) in absurd (name-dollar b s d.0 (sym k.1 ∙ h.1 ∙ d.1))
token-one bytes (by_number l n) (by_number m o) r s h k =
    let p = one-kind l m (decimal n ++ r) (decimal o ++ s) (sym h.1 ∙ k.1) in
    let q = decimal-split n o r s (small-number n h.0) (small-number o k.0) h.2 k.2 p.1 in
    ((λ i. by_number (p.0 i) (q.0 i)), q.1)
token-one bytes (by_number l n) by_bracket r s h k = let d = kind-dollar l (decimal n ++ r) in absurd (dollar-bracket d.0 s (sym d.1 ∙ sym h.1 ∙ k))
token-one bytes by_bracket (by_name b) r s h k = absurd (name-bracket b s r (sym k.1 ∙ h))
token-one bytes by_bracket (by_number m o) r s h k = let d = kind-dollar m (decimal o ++ s) in absurd (dollar-bracket d.0 r (sym d.1 ∙ sym k.1 ∙ h))
token-one bytes by_bracket by_bracket r s h k = (refl, cons-tail (sym h ∙ k))

-- ---- the token of an item, and what of the item follows it

abbrev GoesOn : List Symbol → Token → Item → List ℕ → List ℕ → Type 0
GoesOn S (by_name name) j rest r = (f : ℕ) × (ts : GroundTerms) × IsFunction S f name (length (of_terms ts)) × IsTrue (are_written_items S (of_terms ts)) × (j ≡ a_term (g_fun f ts)) × (rest ≡ ground_args_text S ts ++ r)
GoesOn S (by_number Eigen n) j rest r = (vs : Values) × IsTrue (are_written_items S (of_values vs)) × (j ≡ a_term (g_eigen n vs)) × (rest ≡ values_text S vs ++ r)
GoesOn S (by_number New n) j rest r = (vs : Values) × IsTrue (are_written_items S (of_values vs)) × (j ≡ a_mark (g_new_mark n vs)) × (rest ≡ values_text S vs ++ r)
GoesOn S (by_number Constant n) j rest r = ((j ≡ a_term (common n)) × (rest ≡ r)) ⊎ ((w : Marks) × IsTrue (are_written_items S (of_marks w)) × (j ≡ a_term (own n w)) × (rest ≡ 64 ∷ (marks_text S w ++ r)))
GoesOn S (by_number Spare n) j rest r = (j ≡ a_mark (g_spare_mark n)) × (rest ≡ r)
GoesOn S by_bracket j rest r = (w : Marks) × IsTrue (are_written_items S (of_marks w)) × (j ≡ a_string w) × (91 ∷ rest ≡ marks_text S w ++ r)

args-stop : (S : List Symbol) (ts : GroundTerms) (r : List ℕ) → Follows r → StopsAt is_word_byte (ground_args_text S ts ++ r)
args-stop S no_g_terms r h = h is_word_byte refl refl refl refl
args-stop S (more_g_terms t ts) r h = refl

values-stop : (S : List Symbol) (vs : Values) (r : List ℕ) → StopsAt is_digit (values_text S vs ++ r)
values-stop S no_values r = refl
values-stop S (more_values v vs) r = refl

marks-begin : (S : List Symbol) (w : Marks) (r : List ℕ) → (s : List ℕ) × (marks_text S w ++ r ≡ 91 ∷ s)
marks-begin S no_marks r = (_, refl)
marks-begin S (more_marks m w) r = (_, refl)

values-begin : (S : List Symbol) (vs : Values) (r : List ℕ) → (s : List ℕ) × (values_text S vs ++ r ≡ 123 ∷ s)
values-begin S no_values r = (_, refl)
values-begin S (more_values v vs) r = (_, refl)

record Its (S : List Symbol) (bytes : List ℕ) (j : Item) (r : List ℕ) : Type 0 where
  token : Token
  rest : List ℕ
  stands : IsToken bytes token rest
  goes : GoesOn S token j rest r

its-token : (S : List Symbol) → IsTrue (list_all symbol_fits S) → (bytes : List ℕ) (j : Item) (r : List ℕ) → IsItemOn S bytes j r → Its S bytes j r
its-token S fits bytes (a_term (g_fun f ts)) r h =
    let p = and_parts (has_function S f (length (g_terms_list ts))) (grounds_are_written S ts) h.written in
    let x = named S f (length (g_terms_list ts)) p.0 in
    let is : IsFunction S f x.0 (length (of_terms ts)) = subst (IsFunction S f x.0) (terms-length ts) x.1.is in record {
      token = by_name x.0;
      rest = ground_args_text S ts ++ r;
      stands = (list_all-at symbol_fits S f (record { name = x.0; class = Function; arity = length (of_terms ts) }) fits is, h.text ∙ append_assoc _ (ground_args_text S ts) r ∙ ap (λ l. l ++ (ground_args_text S ts ++ r)) x.1.text, args-stop S ts r h.follows);
      goes = (f, ts, is, sym (terms-written S ts) ∙ p.1, refl, refl);
    }
its-token S fits bytes (a_term (g_eigen n vs)) r h =
    let p = and_parts (is_number n) (values_are_written S vs) h.written in record {
      token = by_number Eigen n;
      rest = values_text S vs ++ r;
      stands = (p.0, h.text ∙ append_assoc (codes "$$e" ++ decimal n) (values_text S vs) r ∙ append_assoc (codes "$$e") (decimal n) (values_text S vs ++ r), values-stop S vs r);
      goes = (vs, sym (values-written S vs) ∙ p.1, refl, refl);
    }
its-token S fits bytes (a_term (common n)) r h = record {
  token = by_number Constant n;
  rest = r;
  stands = (h.written, h.text ∙ append_assoc (codes "$$s") (decimal n) r, h.follows is_digit refl refl refl refl);
  goes = inl (refl, refl);
}
its-token S fits bytes (a_term (own n w)) r h =
    let p = and_parts (is_number n) (marks_are_written S w) h.written in record {
      token = by_number Constant n;
      rest = 64 ∷ (marks_text S w ++ r);
      stands = (p.0, h.text ∙ append_assoc (codes "$$s" ++ decimal n ++ codes "@") (marks_text S w) r ∙ append_assoc (codes "$$s" ++ decimal n) (codes "@") (marks_text S w ++ r) ∙ append_assoc (codes "$$s") (decimal n) (64 ∷ (marks_text S w ++ r)), refl);
      goes = inr (w, sym (marks-written S w) ∙ p.1, refl, refl);
    }
its-token S fits bytes (a_mark (g_new_mark n vs)) r h =
    let p = and_parts (is_number n) (values_are_written S vs) h.written in record {
      token = by_number New n;
      rest = values_text S vs ++ r;
      stands = (p.0, h.text ∙ append_assoc (codes "$$c" ++ decimal n) (values_text S vs) r ∙ append_assoc (codes "$$c") (decimal n) (values_text S vs ++ r), values-stop S vs r);
      goes = (vs, sym (values-written S vs) ∙ p.1, refl, refl);
    }
its-token S fits bytes (a_mark (g_spare_mark n)) r h = record {
  token = by_number Spare n;
  rest = r;
  stands = (h.written, h.text ∙ append_assoc (codes "$$d") (decimal n) r, h.follows is_digit refl refl refl refl);
  goes = (refl, refl);
}
its-token S fits bytes (a_string w) r h =
    let b = marks-begin S w r in record {
      token = by_bracket;
      rest = b.0;
      stands = h.text ∙ b.1;
      goes = (w, sym (marks-written S w) ∙ h.written, refl, sym b.1);
    }
its-token S fits bytes (all_values vs) r h = absurd (false≢true h.written)

-- how an item goes on behind a token that was read
on-token : (S : List Symbol) → IsTrue (list_all symbol_fits S) → (bytes : List ℕ) (t : Token) (rest : List ℕ) → IsToken bytes t rest → (j : Item) (r : List ℕ) → IsItemOn S bytes j r → GoesOn S t j rest r
on-token S fits bytes t rest h j r i =
    let x = its-token S fits bytes j r i in
    let p = token-one bytes x.token t x.rest rest x.stands h in
    subst (λ u. GoesOn S u j rest r) p.0 (subst (λ l. GoesOn S x.token j l r) p.1 x.goes)

pub no-token : (S : List Symbol) → IsTrue (list_all symbol_fits S) → (bytes : List ℕ) → ((t : Token) (rest : List ℕ) → ¬ IsToken bytes t rest) → NoItem S bytes
no-token S fits bytes none j r h = let x = its-token S fits bytes j r h in none x.token x.rest x.stands

-- what follows an item is no other byte
follow-not : (b : ℕ) → (44 == b) ≡ false → (41 == b) ≡ false → (93 == b) ≡ false → (125 == b) ≡ false → (b == b) ≡ true → (r s : List ℕ) → Follows r → r ≡ b ∷ s → ⊥
follow-not b e1 e2 e3 e4 e r s h f = true≢false (sym e ∙ subst (StopsAt (λ k. k == b)) f (h (λ k. k == b) e1 e2 e3 e4))

-- ---- behind a name

pub args-begun : (S : List Symbol) → IsTrue (list_all symbol_fits S) → (name rest after : List ℕ) → rest ≡ 40 ∷ after → IsBegunAt S (by_name name) rest (opened (of_args name)) after
args-begun S fits name rest after e bytes t = (refl, t.1 ∙ ap (λ l. name_text name ++ l) e, goes)
  where
    by : (j : Item) (r : List ℕ) → Follows r → (f : ℕ) (ts : GroundTerms) → IsFunction S f name (length (of_terms ts)) → IsTrue (are_written_items S (of_terms ts)) → j ≡ a_term (g_fun f ts) → rest ≡ ground_args_text S ts ++ r → IsListOn S (of_args name) j after r
    by j r h f no_g_terms is w same k = absurd (follow-not 40 refl refl refl refl refl r after h (sym k ∙ e))
    by j r h f (more_g_terms u us) is w same k = record {
      items = of_terms (more_g_terms u us);
      written = w;
      made = (f, more_g_terms u us, is, refl, same);
      some = λ n. absurd (cc n);
      text = sym e ∙ k ∙ ap (λ l. l ++ r) (args-list S u us);
    }

    goes : (j : Item) (r : List ℕ) → IsItemOn S bytes j r → IsListOn S (of_args name) j after r
    goes j r i = let g = on-token S fits bytes (by_name name) rest t j r i in by j r i.follows g.0 g.1 g.2 g.3 g.4 g.5

pub constant-begun : (S : List Symbol) → IsTrue (list_all symbol_fits S) → IsTrue (are_distinct S) → (name rest : List ℕ) (f : ℕ) → ((after : List ℕ) → ¬ (rest ≡ 40 ∷ after)) → IsFunction S f name 0 → IsBegunAt S (by_name name) rest (whole (a_term (g_fun f no_g_terms))) rest
constant-begun S fits d name rest f none is bytes t = (and_from (has_function S f 0) true (function-has S f 0 name is) refl, t.1 ∙ ap (λ l. l ++ rest) (sym (function-text S f 0 name is)) ∙ sym (append_assoc _ [] rest), goes)
  where
    by : (j : Item) (r : List ℕ) (g : ℕ) (ts : GroundTerms) → IsFunction S g name (length (of_terms ts)) → j ≡ a_term (g_fun g ts) → rest ≡ ground_args_text S ts ++ r → (a_term (g_fun f no_g_terms) ≡ j) × (rest ≡ r)
    by j r g no_g_terms its same k =
        let x : Symbol = record { name = name; class = Function; arity = 0 } in
        let p = same-symbol S f g 0 0 x x d (record { found = is; class = refl; arity = refl }) (record { found = its; class = refl; arity = refl }) refl refl in
        (ap (λ n. a_term (g_fun n no_g_terms)) p ∙ sym same, k)
    by j r g (more_g_terms u us) its same k = absurd (none _ k)

    goes : (j : Item) (r : List ℕ) → IsItemOn S bytes j r → (a_term (g_fun f no_g_terms) ≡ j) × (rest ≡ r)
    goes j r i = let g = on-token S fits bytes (by_name name) rest t j r i in by j r g.0 g.1 g.2 g.4 g.5

pub no-constant : (S : List Symbol) → IsTrue (list_all symbol_fits S) → (name rest : List ℕ) → ((after : List ℕ) → ¬ (rest ≡ 40 ∷ after)) → NoFunction S name 0 → NoneAt S (by_name name) rest
no-constant S fits name rest none not bytes t j r i = let g = on-token S fits bytes (by_name name) rest t j r i in by g.0 g.1 g.2 g.5
  where
    by : (f : ℕ) (ts : GroundTerms) → IsFunction S f name (length (of_terms ts)) → rest ≡ ground_args_text S ts ++ r → ⊥
    by f no_g_terms is k = not (contains-at S f (record { name = name; class = Function; arity = 0 }) is)
    by f (more_g_terms u us) is k = none _ k

-- ---- behind a name with a number

pub eigen-begun : (S : List Symbol) → IsTrue (list_all symbol_fits S) → (n : ℕ) (rest after : List ℕ) → rest ≡ 123 ∷ after → IsBegunAt S (by_number Eigen n) rest (opened (of_eigen n)) after
eigen-begun S fits n rest after e bytes t = (t.0, t.1 ∙ ap (λ l. codes "$$e" ++ (decimal n ++ l)) e ∙ sym (append_assoc (codes "$$e") (decimal n) (123 ∷ after)), goes)
  where
    goes : (j : Item) (r : List ℕ) → IsItemOn S bytes j r → IsListOn S (of_eigen n) j after r
    goes j r i =
        let g = on-token S fits bytes (by_number Eigen n) rest t j r i in
        record { items = of_values g.0; written = g.1; made = (g.0, refl, g.2); some = λ _. refl; text = sym e ∙ g.3 ∙ ap (λ l. l ++ r) (values-list S g.0) }

pub new-begun : (S : List Symbol) → IsTrue (list_all symbol_fits S) → (n : ℕ) (rest after : List ℕ) → rest ≡ 123 ∷ after → IsBegunAt S (by_number New n) rest (opened (of_new n)) after
new-begun S fits n rest after e bytes t = (t.0, t.1 ∙ ap (λ l. codes "$$c" ++ (decimal n ++ l)) e ∙ sym (append_assoc (codes "$$c") (decimal n) (123 ∷ after)), goes)
  where
    goes : (j : Item) (r : List ℕ) → IsItemOn S bytes j r → IsListOn S (of_new n) j after r
    goes j r i =
        let g = on-token S fits bytes (by_number New n) rest t j r i in
        record { items = of_values g.0; written = g.1; made = (g.0, refl, g.2); some = λ _. refl; text = sym e ∙ g.3 ∙ ap (λ l. l ++ r) (values-list S g.0) }

no-list : (S : List Symbol) (vs : Values) (rest r : List ℕ) → ((after : List ℕ) → ¬ (rest ≡ 123 ∷ after)) → rest ≡ values_text S vs ++ r → ⊥
no-list S vs rest r none e = let b = values-begin S vs r in none b.0 (e ∙ b.1)

pub no-eigen : (S : List Symbol) → IsTrue (list_all symbol_fits S) → (n : ℕ) (rest : List ℕ) → ((after : List ℕ) → ¬ (rest ≡ 123 ∷ after)) → NoneAt S (by_number Eigen n) rest
no-eigen S fits n rest none bytes t j r i = let g = on-token S fits bytes (by_number Eigen n) rest t j r i in no-list S g.0 rest r none g.3

pub no-new : (S : List Symbol) → IsTrue (list_all symbol_fits S) → (n : ℕ) (rest : List ℕ) → ((after : List ℕ) → ¬ (rest ≡ 123 ∷ after)) → NoneAt S (by_number New n) rest
no-new S fits n rest none bytes t j r i = let g = on-token S fits bytes (by_number New n) rest t j r i in no-list S g.0 rest r none g.3

pub common-begun : (S : List Symbol) → IsTrue (list_all symbol_fits S) → (n : ℕ) (rest : List ℕ) → ((after : List ℕ) → ¬ (rest ≡ 64 ∷ after)) → IsBegunAt S (by_number Constant n) rest (whole (a_term (common n))) rest
common-begun S fits n rest none bytes t = (t.0, t.1 ∙ sym (append_assoc (codes "$$s") (decimal n) rest), goes)
  where
    by : (j : Item) (r : List ℕ) → GoesOn S (by_number Constant n) j rest r → (a_term (common n) ≡ j) × (rest ≡ r)
    by j r (inl g) = (sym g.0, g.1)
    by j r (inr g) = absurd (none _ g.3)

    goes : (j : Item) (r : List ℕ) → IsItemOn S bytes j r → (a_term (common n) ≡ j) × (rest ≡ r)
    goes j r i = by j r (on-token S fits bytes (by_number Constant n) rest t j r i)

pub own-begun : (S : List Symbol) → IsTrue (list_all symbol_fits S) → (n : ℕ) (rest label after : List ℕ) → rest ≡ 64 ∷ label → label ≡ 91 ∷ after → IsBegunAt S (by_number Constant n) rest (opened (of_own n)) after
own-begun S fits n rest label after e f bytes t = (t.0, t.1 ∙ ap (λ l. codes "$$s" ++ (decimal n ++ l)) (e ∙ ap (λ l. 64 ∷ l) f) ∙ sym (append_assoc (codes "$$s") (decimal n) (64 ∷ 91 ∷ after)) ∙ sym (append_assoc (codes "$$s" ++ decimal n) (codes "@") (91 ∷ after)), goes)
  where
    by : (j : Item) (r : List ℕ) → Follows r → GoesOn S (by_number Constant n) j rest r → IsListOn S (of_own n) j after r
    by j r h (inl g) = absurd (follow-not 64 refl refl refl refl refl r label h (sym g.1 ∙ e))
    by j r h (inr g) = record { items = of_marks g.0; written = g.1; made = (g.0, refl, g.2); some = λ _. refl; text = sym f ∙ cons-tail (sym e ∙ g.3) ∙ ap (λ l. l ++ r) (marks-list S g.0) }

    goes : (j : Item) (r : List ℕ) → IsItemOn S bytes j r → IsListOn S (of_own n) j after r
    goes j r i = by j r i.follows (on-token S fits bytes (by_number Constant n) rest t j r i)

pub no-own : (S : List Symbol) → IsTrue (list_all symbol_fits S) → (n : ℕ) (rest label : List ℕ) → rest ≡ 64 ∷ label → ((after : List ℕ) → ¬ (label ≡ 91 ∷ after)) → NoneAt S (by_number Constant n) rest
no-own S fits n rest label e none bytes t j r i = by i.follows (on-token S fits bytes (by_number Constant n) rest t j r i)
  where
    by : Follows r → GoesOn S (by_number Constant n) j rest r → ⊥
    by h (inl g) = follow-not 64 refl refl refl refl refl r label h (sym g.1 ∙ e)
    by h (inr g) = let b = marks-begin S g.0 r in none b.0 (cons-tail (sym e ∙ g.3) ∙ b.1)

pub spare-begun : (S : List Symbol) → IsTrue (list_all symbol_fits S) → (n : ℕ) (rest : List ℕ) → IsBegunAt S (by_number Spare n) rest (whole (a_mark (g_spare_mark n))) rest
spare-begun S fits n rest bytes t = (t.0, t.1 ∙ sym (append_assoc (codes "$$d") (decimal n) rest), goes)
  where
    goes : (j : Item) (r : List ℕ) → IsItemOn S bytes j r → (a_mark (g_spare_mark n) ≡ j) × (rest ≡ r)
    goes j r i = let g = on-token S fits bytes (by_number Spare n) rest t j r i in (sym g.0, g.1)

-- ---- behind a bracket

pub steps-begun : (S : List Symbol) → IsTrue (list_all symbol_fits S) → (rest : List ℕ) → IsBegunAt S by_bracket rest (opened of_steps) rest
steps-begun S fits rest bytes t = (refl, t, goes)
  where
    goes : (j : Item) (r : List ℕ) → IsItemOn S bytes j r → IsListOn S of_steps j rest r
    goes j r i =
        let g = on-token S fits bytes by_bracket rest t j r i in
        record { items = of_marks g.0; written = g.1; made = (g.0, refl, g.2); some = λ _. refl; text = g.3 ∙ ap (λ l. l ++ r) (marks-list S g.0) }

-- ---- no item begins with a closing bracket

name-closing : (h : Head) (a r s : List ℕ) → name_text a ++ r ≡ closing h ∷ s → ⊥
name-closing h a r s e = by (is_lower_word a) refl
  where
    lower : (h : Head) → is_lower (closing h) ≡ false
    lower (of_args n) = refl
    lower (of_own n) = refl
    lower of_steps = refl
    lower (of_eigen n) = refl
    lower (of_new n) = refl
    lower of_root = refl

    quote : (h : Head) → (closing h == 39) ≡ false
    quote (of_args n) = refl
    quote (of_own n) = refl
    quote of_steps = refl
    quote (of_eigen n) = refl
    quote (of_new n) = refl
    quote of_root = refl

    bare : (a : List ℕ) → IsTrue (is_lower_word a) → a ++ r ≡ closing h ∷ s → ⊥
    bare [] g f = false≢true g
    bare (c ∷ cs) g f = false≢true (sym (lower h) ∙ sym (ap is_lower (cons-head f)) ∙ (and_parts (is_lower c) (list_all is_word_byte cs) g).0)

    by : (x : Bool) → is_lower_word a ≡ x → ⊥
    by true g = bare a g (ap (λ x. (if x then a else 39 ∷ (flat_map escaped a ++ 39 ∷ [])) ++ r) (sym g) ∙ e)
    by false g = true≢false (ap (λ k. k == 39) (cons-head (ap (λ x. (if x then a else 39 ∷ (flat_map escaped a ++ 39 ∷ [])) ++ r) (sym g) ∙ e)) ∙ quote h)

dollar-closing : (h : Head) (r s : List ℕ) → 36 ∷ r ≡ closing h ∷ s → ⊥
dollar-closing (of_args n) r s e = true≢false (ap (λ k. k == 36) (cons-head e))
dollar-closing (of_own n) r s e = true≢false (ap (λ k. k == 36) (cons-head e))
dollar-closing of_steps r s e = true≢false (ap (λ k. k == 36) (cons-head e))
dollar-closing (of_eigen n) r s e = true≢false (ap (λ k. k == 36) (cons-head e))
dollar-closing (of_new n) r s e = true≢false (ap (λ k. k == 36) (cons-head e))
dollar-closing of_root r s e = true≢false (ap (λ k. k == 36) (cons-head e))

bracket-closing : (h : Head) (r s : List ℕ) → 91 ∷ r ≡ closing h ∷ s → ⊥
bracket-closing (of_args n) r s e = true≢false (ap (λ k. k == 91) (cons-head e))
bracket-closing (of_own n) r s e = true≢false (ap (λ k. k == 91) (cons-head e))
bracket-closing of_steps r s e = true≢false (ap (λ k. k == 91) (cons-head e))
bracket-closing (of_eigen n) r s e = true≢false (ap (λ k. k == 91) (cons-head e))
bracket-closing (of_new n) r s e = true≢false (ap (λ k. k == 91) (cons-head e))
bracket-closing of_root r s e = true≢false (ap (λ k. k == 91) (cons-head e))

token-closing : (h : Head) (s : List ℕ) (t : Token) (rest : List ℕ) → IsToken (closing h ∷ s) t rest → ⊥
token-closing h s (by_name a) rest t = name-closing h a rest s (sym t.1)
token-closing h s (by_number k n) rest t = let d = kind-dollar k (decimal n ++ rest) in dollar-closing h d.0 s (sym d.1 ∙ sym t.1)
token-closing h s by_bracket rest t = bracket-closing h rest s (sym t)

pub no-item-before : (S : List Symbol) → IsTrue (list_all symbol_fits S) → (h : Head) (s : List ℕ) (j : Item) (r : List ℕ) → IsItemOn S (closing h ∷ s) j r → ⊥
no-item-before S fits h s j r i = let x = its-token S fits (closing h ∷ s) j r i in token-closing h s x.token x.rest x.stands
