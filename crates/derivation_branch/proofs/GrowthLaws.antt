-- What stands on a branch when a use step adds the components of one of its entries: what stood there, and what stands in the argument where
-- the quantifier binds something.
use Rattle.std.proofs.Common.{◌≡◌, ℕ, zero, suc, ◌-◌, ◌<◌, Bool, true, false, ◌||◌, ◌&&◌, ◌==◌, List, [], ◌∷◌, ◌++◌, length, get_or, map, refl, sym, ◌∙◌, ap, inl, inr, arith}
use Rattle.std.proofs.lemmas.Bool.{cases_order, or_parts}
use Rattle.std.specs.List.{list_any}
use Rattle.std.specs.Ordering.{nat_cmp}
use Rattle.plain_laws.proofs.Numbers.{cmp-equal, cmp-greater, cmp-less}
use Rattle.plain_laws.proofs.Booleans.{or_false}
use Rattle.calculus.specs.declared.sign.Sign.{Sign}
use Rattle.calculus.specs.Calculus.{entry_at, character_occurs, holds_character, is_in_home}
use Rattle.calculus.specs.Derivations.{Entry, Sequent, Label, Mark, Names}
use Rattle.calculus.specs.Kinds.{Signed, signed, components}
use Rattle.calculus.specs.Syntax.{Term, Terms, var, fun, eigen, spare, no_terms, more_terms, Formula, atom, neg, conj, disj, imp, all, ex, box, dia}
use Rattle.calculus.specs.Substitution.{put_for, term_with, terms_with, formula_with, instance, any_leaf, any_leaf_of, any_leaf_in}
use Rattle.derivation_branch.specs.Occurring.{is_variable, binds_at, occurs}
use Rattle.derivation_branch.specs.Putting.{IsClosed, is_var}
use Rattle.derivation_branch.proofs.OccurrenceLaws.{IsOfNames, leaf-put, equal-apart}

-- ---- truth values

pub or_assoc : (a b c : Bool) → ((a || b) || c) ≡ (a || (b || c))
or_assoc true b c = refl
or_assoc false b c = refl

pub or_swap : (a b c d : Bool) → ((a || b) || (c || d)) ≡ ((a || c) || (b || d))
or_swap true b c d = refl
or_swap false true true d = refl
or_swap false true false d = refl
or_swap false false c d = refl

-- what is covered adds nothing
pub covered : (a b c : Bool) → (a || b) ≡ a → (a || (b || c)) ≡ (a || c)
covered a b c e = sym (or_assoc a b c) ∙ ap (λ x. x || c) e

pub any-append : {A : Type 0} (p : A → Bool) (xs ys : List A) → list_any p (xs ++ ys) ≡ (list_any p xs || list_any p ys)
any-append p [] ys = refl
any-append p (x ∷ xs) ys = ap (λ b. p x || b) (any-append p xs ys) ∙ sym (or_assoc (p x) (list_any p xs) (list_any p ys))

any-or : {A : Type 0} (p q : A → Bool) (xs : List A) → list_any (λ x. p x || q x) xs ≡ (list_any p xs || list_any q xs)
any-or p q [] = refl
any-or p q (x ∷ xs) = ap (λ b. (p x || q x) || b) (any-or p q xs) ∙ or_swap (p x) (q x) (list_any p xs) (list_any q xs)

pub any-member : {A : Type 0} (p : A → Bool) (xs : List A) (k : ℕ) (x : A) → k < length xs → x ≡ get_or xs k x → (list_any p xs || p x) ≡ list_any p xs
any-member p [] k x h e = absurd (omega arith)
any-member p (y ∷ ys) zero x h e = ap (λ z. (p y || list_any p ys) || p z) e ∙ again (p y) (list_any p ys)
  where
    again : (a b : Bool) → ((a || b) || a) ≡ (a || b)
    again true b = refl
    again false true = refl
    again false false = refl
any-member p (y ∷ ys) (suc k) x h e = or_assoc (p y) (list_any p ys) (p x) ∙ ap (λ b. p y || b) (any-member p ys k x (omega arith) e)

-- ---- components

-- the leaves of a formula are those of its components
leaves-components : (test : Term → Bool) (s : Sign) (f : Formula) → list_any (λ (x : Signed). any_leaf_in test x.formula) (components s f) ≡ any_leaf_in test f
leaves-components test s (atom p us) = or_false (any_leaf_of test us)
leaves-components test s (neg a) = or_false (any_leaf_in test a)
leaves-components test s (conj a b) = ap (λ c. any_leaf_in test a || c) (or_false (any_leaf_in test b))
leaves-components test s (disj a b) = ap (λ c. any_leaf_in test a || c) (or_false (any_leaf_in test b))
leaves-components test s (imp a b) = ap (λ c. any_leaf_in test a || c) (or_false (any_leaf_in test b))
leaves-components test s (all a) = or_false (any_leaf_in test a)
leaves-components test s (ex a) = or_false (any_leaf_in test a)
leaves-components test s (box a) = or_false (any_leaf_in test a)
leaves-components test s (dia a) = or_false (any_leaf_in test a)

any-entries : (test : Term → Bool) (v : Label) (xs : List Signed) → occurs test (map (entry_at v) xs) ≡ list_any (λ (x : Signed). any_leaf_in test x.formula) xs
any-entries test v [] = refl
any-entries test v (x ∷ xs) = ap (λ b. any_leaf_in test x.formula || b) (any-entries test v xs)

-- the components of an entry of the branch bring nothing
pub plain-grown : (test : Term → Bool) (s : Sequent) (k : ℕ) (e : Entry) (v : Label) → k < length s → e ≡ get_or s k e → occurs test (s ++ map (entry_at v) (components e.sign e.formula)) ≡ occurs test s
plain-grown test s k e v h at =
    any-append (λ (x : Entry). any_leaf_in test x.formula) s (map (entry_at v) (components e.sign e.formula))
    ∙ ap (λ b. occurs test s || b) (any-entries test v (components e.sign e.formula) ∙ leaves-components test e.sign e.formula)
    ∙ any-member (λ (x : Entry). any_leaf_in test x.formula) s k e h at

-- one of two components
pub part-covered : (a b c : Bool) → (a || (b || c)) ≡ a → (a || b) ≡ a
part-covered true b c e = refl
part-covered false true c e = e
part-covered false false c e = refl

other-covered : (a b c : Bool) → (a || (b || c)) ≡ a → (a || c) ≡ a
other-covered true b c e = refl
other-covered false true c e = absurd (true-apart e)
  where
    true-apart : true ≡ false → ⊥
    true-apart h = cc
other-covered false false c e = e

pub first-grown : (test : Term → Bool) (s : Sequent) (k : ℕ) (e : Entry) (v : Label) (x y : Signed) → k < length s → e ≡ get_or s k e → components e.sign e.formula ≡ x ∷ y ∷ [] → occurs test (s ++ entry_at v x ∷ []) ≡ occurs test s
first-grown test s k e v x y h at are =
    let o = any_leaf_in test in
    let whole : (occurs test s || (o x.formula || (o y.formula || false))) ≡ occurs test s = ap (λ l. occurs test s || list_any (λ (z : Signed). any_leaf_in test z.formula) l) (sym are) ∙ ap (λ b. occurs test s || b) (leaves-components test e.sign e.formula) ∙ any-member (λ (z : Entry). any_leaf_in test z.formula) s k e h at in
    any-append (λ (z : Entry). any_leaf_in test z.formula) s (entry_at v x ∷ []) ∙ ap (λ b. occurs test s || b) (or_false (o x.formula)) ∙ part-covered (occurs test s) (o x.formula) (o y.formula || false) whole

pub second-grown : (test : Term → Bool) (s : Sequent) (k : ℕ) (e : Entry) (v : Label) (x y : Signed) → k < length s → e ≡ get_or s k e → components e.sign e.formula ≡ x ∷ y ∷ [] → occurs test (s ++ entry_at v y ∷ []) ≡ occurs test s
second-grown test s k e v x y h at are =
    let o = any_leaf_in test in
    let whole : (occurs test s || (o x.formula || (o y.formula || false))) ≡ occurs test s = ap (λ l. occurs test s || list_any (λ (z : Signed). any_leaf_in test z.formula) l) (sym are) ∙ ap (λ b. occurs test s || b) (leaves-components test e.sign e.formula) ∙ any-member (λ (z : Entry). any_leaf_in test z.formula) s k e h at in
    any-append (λ (z : Entry). any_leaf_in test z.formula) s (entry_at v y ∷ []) ∙ other-covered (occurs test s) (o x.formula) (o y.formula || false) whole

-- the instance brings what stands in the argument, where the quantifier binds something
pub bound-grown : (test : Term → Bool) (s : Sequent) (k : ℕ) (e : Entry) (v : Label) (x : Signed) (t : Term) → IsOfNames test → k < length s → e ≡ get_or s k e → components e.sign e.formula ≡ x ∷ []
    → occurs test (s ++ entry_at v (signed x.sign (instance t x.formula)) ∷ []) ≡ (occurs test s || (binds_at 0 x.formula && any_leaf test t))
bound-grown test s k e v x t of h at are =
    let o = any_leaf_in test in
    let whole : (occurs test s || o x.formula) ≡ occurs test s = ap (λ b. occurs test s || b) (sym (or_false (o x.formula)) ∙ ap (list_any (λ (z : Signed). any_leaf_in test z.formula)) (sym are) ∙ leaves-components test e.sign e.formula) ∙ any-member (λ (z : Entry). any_leaf_in test z.formula) s k e h at in
    any-append (λ (z : Entry). any_leaf_in test z.formula) s (entry_at v (signed x.sign (instance t x.formula)) ∷ [])
    ∙ ap (λ b. occurs test s || b) (or_false (o (instance t x.formula)) ∙ leaf-put test t 0 x.formula of)
    ∙ covered (occurs test s) (o x.formula) (binds_at 0 x.formula && any_leaf test t) whole

-- ---- characters

pub characters-apart : (names : Names) (m : Mark) (s : Sequent) → character_occurs names m s ≡ (list_any (λ (e : Entry). holds_character m e.label) s || occurs (is_in_home names m) s)
characters-apart names m s = any-or (λ (e : Entry). holds_character m e.label) (λ (e : Entry). any_leaf_in (is_in_home names m) e.formula) s

pub home-of_names : (names : Names) (m : Mark) → IsOfNames (is_in_home names m)
home-of_names names m k = refl

-- ---- what a quantifier binds does not depend on the terms that are put for variables further out

mutual
  closed-none : (d : ℕ) (t : Term) → IsClosed t → any_leaf (is_variable d) t ≡ false
  closed-none d (var k) h = absurd (true-apart h)
    where
      true-apart : true ≡ false → ⊥
      true-apart e = cc
  closed-none d (fun f us) h = closed_all-none d us h
  closed-none d (eigen n) h = refl
  closed-none d (spare n) h = refl

  closed_all-none : (d : ℕ) (us : Terms) → any_leaf_of is_var us ≡ false → any_leaf_of (is_variable d) us ≡ false
  closed_all-none d no_terms h = refl
  closed_all-none d (more_terms u us) h =
      let parts = or_parts (any_leaf is_var u) (any_leaf_of is_var us) h in
      λ i. closed-none d u parts.0 i || closed_all-none d us parts.1 i

bound-variable : (t : Term) (d e k : ℕ) → IsClosed t → d < e → any_leaf (is_variable d) (put_for t k (nat_cmp k e)) ≡ (k == d)
bound-variable t d e k h lt = elim (cases_order k e) [
  | inl same ↦ ap (λ o. any_leaf (is_variable d) (put_for t k o)) (cmp-equal k e same) ∙ closed-none d t h ∙ sym (equal-apart k d (λ q. omega (arith, same, q, lt)))
  | inr apart ↦ elim apart [
    | inl less ↦ ap (λ o. any_leaf (is_variable d) (put_for t k o)) (cmp-less k e less)
    | inr more ↦ ap (λ o. any_leaf (is_variable d) (put_for t k o)) (cmp-greater k e more) ∙ equal-apart (k - 1) d (λ q. omega (arith, q, more, lt)) ∙ sym (equal-apart k d (λ q. omega (arith, q, more, lt)))
  ]
]

mutual
  bound-term : (t : Term) (d e : ℕ) (u : Term) → IsClosed t → d < e → any_leaf (is_variable d) (term_with t e u) ≡ any_leaf (is_variable d) u
  bound-term t d e (var k) h lt = bound-variable t d e k h lt
  bound-term t d e (fun f us) h lt = bound-terms t d e us h lt
  bound-term t d e (eigen n) h lt = refl
  bound-term t d e (spare n) h lt = refl

  bound-terms : (t : Term) (d e : ℕ) (us : Terms) → IsClosed t → d < e → any_leaf_of (is_variable d) (terms_with t e us) ≡ any_leaf_of (is_variable d) us
  bound-terms t d e no_terms h lt = refl
  bound-terms t d e (more_terms u us) h lt = λ i. bound-term t d e u h lt i || bound-terms t d e us h lt i

pub bound-formula : (t : Term) (d e : ℕ) (f : Formula) → IsClosed t → d < e → binds_at d (formula_with t e f) ≡ binds_at d f
bound-formula t d e (atom p us) h lt = bound-terms t d e us h lt
bound-formula t d e (neg a) h lt = bound-formula t d e a h lt
bound-formula t d e (conj a b) h lt = λ i. bound-formula t d e a h lt i || bound-formula t d e b h lt i
bound-formula t d e (disj a b) h lt = λ i. bound-formula t d e a h lt i || bound-formula t d e b h lt i
bound-formula t d e (imp a b) h lt = λ i. bound-formula t d e a h lt i || bound-formula t d e b h lt i
bound-formula t d e (all a) h lt = bound-formula t (suc d) (suc e) a h (omega arith)
bound-formula t d e (ex a) h lt = bound-formula t (suc d) (suc e) a h (omega arith)
bound-formula t d e (box a) h lt = bound-formula t d e a h lt
bound-formula t d e (dia a) h lt = bound-formula t d e a h lt
