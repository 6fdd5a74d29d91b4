-- Terms in rows: the row of a term tells the term, and has its leaves.
use Rattle.std.proofs.Common.{◌≡◌, ℕ, suc, Bool, ◌||◌, List, [], ◌∷◌, ◌++◌, length, take, drop, get_or, refl, sym, ◌∙◌, ap, append-nil, append_assoc}
use Rattle.std.proofs.lemmas.List.{take_at, drop_at}
use Rattle.plain_laws.proofs.Booleans.{or-assoc, or_false}
use Rattle.calculus.specs.Lists.{terms_list, terms_tree, terms_tree-terms_list}
use Rattle.calculus.specs.Substitution.{any_leaf, any_leaf_of}
use Rattle.calculus.specs.Syntax.{Term, Terms, var, fun, eigen, spare, no_terms, more_terms, arity_of}
use Rattle.formula_text.specs.Rows.{any_item, root_of, row_of, rows_of, terms_in}
use Rattle.formula_text.specs.declared.term_row.RowItem.{RowItem}
use Rattle.formula_text.specs.declared.term_row.RowItem.TheVariants.{Var, Fun, Eigen, Spare}

length-list : (ts : Terms) → length (terms_list ts) ≡ arity_of ts
length-list no_terms = refl
length-list (more_terms t ts) = ap suc (length-list ts)

-- ---- the terms of rows

symbol : (f n : ℕ) (ts : Terms) (us vs : List Term) → length (terms_list ts) ≡ n → us ≡ terms_list ts ++ vs → fun f (terms_tree (take n us)) ∷ drop n us ≡ fun f ts ∷ vs
symbol f n ts us vs e h =
    (λ i. fun f (terms_tree (take n (h i))) ∷ drop n (h i))
    ∙ (λ i. fun f (terms_tree (take_at (terms_list ts) vs n e i)) ∷ drop_at (terms_list ts) vs n e i)
    ∙ ap (λ ws. fun f ws ∷ vs) (terms_tree-terms_list ts)

mutual
  pub terms-row : (t : Term) (xs : List RowItem) → terms_in (row_of t ++ xs) ≡ t ∷ terms_in xs
  terms-row (var k) xs = refl
  terms-row (fun f ts) xs = symbol f (arity_of ts) ts (terms_in (rows_of ts ++ xs)) (terms_in xs) (length-list ts) (terms-rows ts xs)
  terms-row (eigen n) xs = refl
  terms-row (spare n) xs = refl

  pub terms-rows : (ts : Terms) (xs : List RowItem) → terms_in (rows_of ts ++ xs) ≡ terms_list ts ++ terms_in xs
  terms-rows no_terms xs = refl
  terms-rows (more_terms t ts) xs = ap terms_in (append_assoc (row_of t) (rows_of ts) xs) ∙ terms-row t (rows_of ts ++ xs) ∙ ap (λ us. t ∷ us) (terms-rows ts xs)

pub root-row : (t : Term) → root_of (row_of t) ≡ t
root-row t = ap (λ xs. get_or xs 0 (var 0)) (ap terms_in (sym (append-nil (row_of t))) ∙ terms-row t [])

pub root-is : (xs : List RowItem) (t : Term) → xs ≡ row_of t → root_of xs ≡ t
root-is xs t e = ap root_of e ∙ root-row t

pub row-is : (xs : List RowItem) (t : Term) → xs ≡ row_of t → xs ≡ row_of (root_of xs)
row-is xs t e = e ∙ ap row_of (sym (root-is xs t e))

-- ---- equal rows

head-of : {A : Type 0} (x y d : A) (xs ys : List A) → x ∷ xs ≡ y ∷ ys → x ≡ y
head-of x y d xs ys e = ap (λ l. get_or l 0 d) e

-- a term whose row begins with that of another is this one
pub row-alone : (t u : Term) (rest : List RowItem) → row_of t ≡ row_of u ++ rest → t ≡ u
row-alone t u rest e = head-of t u (var 0) (terms_in []) (terms_in rest) (sym (terms-row t []) ∙ ap terms_in (append-nil (row_of t) ∙ e) ∙ terms-row u rest)

pub row-same : (t u : Term) → row_of t ≡ row_of u → t ≡ u
row-same t u e = row-alone t u [] (e ∙ sym (append-nil (row_of u)))

-- ---- leaves

pub any-both : (test : Term → Bool) (xs ys : List RowItem) → any_item test (xs ++ ys) ≡ (any_item test xs || any_item test ys)
any-both test [] ys = refl
any-both test (Var k ∷ xs) ys = ap (λ b. test (var k) || b) (any-both test xs ys) ∙ or-assoc (test (var k)) (any_item test xs) (any_item test ys)
any-both test (Fun f n ∷ xs) ys = any-both test xs ys
any-both test (Eigen n ∷ xs) ys = ap (λ b. test (eigen n) || b) (any-both test xs ys) ∙ or-assoc (test (eigen n)) (any_item test xs) (any_item test ys)
any-both test (Spare n ∷ xs) ys = ap (λ b. test (spare n) || b) (any-both test xs ys) ∙ or-assoc (test (spare n)) (any_item test xs) (any_item test ys)

mutual
  pub any-row : (test : Term → Bool) (t : Term) → any_item test (row_of t) ≡ any_leaf test t
  any-row test (var k) = or_false (test (var k))
  any-row test (fun f ts) = any-rows test ts
  any-row test (eigen n) = or_false (test (eigen n))
  any-row test (spare n) = or_false (test (spare n))

  pub any-rows : (test : Term → Bool) (ts : Terms) → any_item test (rows_of ts) ≡ any_leaf_of test ts
  any-rows test no_terms = refl
  any-rows test (more_terms t ts) = any-both test (row_of t) (rows_of ts) ∙ (λ i. any-row test t i || any-rows test ts i)

-- ---- counts of arguments

pub arity-tree : (ts : List Term) → length ts ≡ arity_of (terms_tree ts)
arity-tree [] = refl
arity-tree (t ∷ ts) = ap suc (arity-tree ts)
