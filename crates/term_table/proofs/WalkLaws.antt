-- What a walk puts and leaves.
use Rattle.std.proofs.Common.{◌≡◌, ◌<◌, ℕ, suc, arith, List, [], ◌∷◌, ◌++◌, length, get_or, map, reverse, refl, sym, ◌∙◌, ap}
use Rattle.std.proofs.lemmas.List.{append-nil, append_assoc}
use mathlib.Core.List.{reverse-cons}
use Rattle.calculus.specs.Lists.{terms_tree}
use Rattle.calculus.specs.Syntax.{Term, arity_of, fun}
use Rattle.cop_base.specs.declared.SymbolId.{SymbolId}
use Rattle.formula_text.specs.Rows.{row_of, rows_of}
use Rattle.formula_text.specs.declared.term_row.RowItem.{RowItem}
use Rattle.formula_text.specs.declared.term_row.RowItem.TheVariants as item
use Rattle.formula_text.proofs.RowLaws.{arity-tree}
use Rattle.term_table.specs.Table.{the_table_term}
use Rattle.term_table.specs.Walk.{rows_left}
use Rattle.term_table.specs.declared.table.TableTerm.{TableTerm}
use Rattle.term_table.specs.declared.table.TableTerm.TheVariants.{Fun}

module _ (ls : List (List Term)) where
  pub left-none : rows_left ls [] ≡ []
  unfolding rows_left
  left-none = refl

  -- the last term of a stack comes first
  pub left-last : (xs : List TableTerm) (x : TableTerm) → rows_left ls (xs ++ x ∷ []) ≡ row_of (the_table_term ls x) ++ rows_left ls xs
  unfolding rows_left
  left-last [] x = sym (append-nil (row_of (the_table_term ls x)))
  left-last (y ∷ xs) x = ap (λ l. l ++ row_of (the_table_term ls y)) (left-last xs x) ∙ append_assoc (row_of (the_table_term ls x)) (rows_left ls xs) (row_of (the_table_term ls y))

  -- terms that were put on it come in order
  pub left-reverse : (xs ys : List TableTerm) → rows_left ls (xs ++ reverse ys) ≡ rows_of (terms_tree (map (the_table_term ls) ys)) ++ rows_left ls xs
  left-reverse xs [] = ap (rows_left ls) (append-nil xs)
  left-reverse xs (y ∷ ys) =
      ap (λ zs. rows_left ls (xs ++ zs)) (reverse-cons y ys)
      ∙ ap (rows_left ls) (sym (append_assoc xs (reverse ys) (y ∷ [])))
      ∙ left-last (xs ++ reverse ys) y
      ∙ ap (λ l. row_of (the_table_term ls y) ++ l) (left-reverse xs ys)
      ∙ sym (append_assoc (row_of (the_table_term ls y)) (rows_of (terms_tree (map (the_table_term ls) ys))) (rows_left ls xs))

  -- a symbol is put, and its arguments on the stack
  pub symbol-put : (old new : List RowItem) (stack pushed : List TableTerm) (x : TableTerm) (f : SymbolId) (k n : ℕ) (ys : List TableTerm) → x ≡ Fun f k → n ≡ length ys → map (the_table_term ls) ys ≡ get_or ls k [] → new ≡ old ++ item.Fun f n ∷ [] → pushed ≡ stack ++ reverse ys
      → new ++ rows_left ls pushed ≡ old ++ (row_of (the_table_term ls x) ++ rows_left ls stack)
  symbol-put old new stack pushed x f k n ys is count told put e =
      let rest = rows_of (terms_tree (map (the_table_term ls) ys)) ++ rows_left ls stack in
      (λ i. put i ++ rows_left ls (e i))
      ∙ ap (λ l. (old ++ item.Fun f n ∷ []) ++ l) (left-reverse stack ys)
      ∙ append_assoc old (item.Fun f n ∷ []) rest
      ∙ ap (λ m. old ++ (item.Fun f m ∷ rest)) (arity ys n count)
      ∙ ap (λ us. old ++ (row_of (fun f.0 (terms_tree us)) ++ rows_left ls stack)) told
      ∙ ap (λ y. old ++ (row_of (the_table_term ls y) ++ rows_left ls stack)) (sym is)
    where
      map-length : (ys : List TableTerm) → length ys ≡ length (map (the_table_term ls) ys)
      map-length [] = refl
      map-length (y ∷ ys) = ap suc (map-length ys)

      arity : (ys : List TableTerm) (n : ℕ) → n ≡ length ys → n ≡ arity_of (terms_tree (map (the_table_term ls) ys))
      arity ys n e = e ∙ map-length ys ∙ arity-tree (map (the_table_term ls) ys)

  -- and less is left
  pub symbol-less : (stack pushed : List TableTerm) (x : TableTerm) (f : SymbolId) (k : ℕ) (ys : List TableTerm) → x ≡ Fun f k → map (the_table_term ls) ys ≡ get_or ls k [] → pushed ≡ stack ++ reverse ys
      → suc (length (rows_left ls pushed)) ≡ length (row_of (the_table_term ls x) ++ rows_left ls stack)
  symbol-less stack pushed x f k ys is told e =
      ap (λ l. suc (length (rows_left ls l))) e ∙ ap (λ l. suc (length l)) (left-reverse stack ys)
      ∙ ap (λ us. length (row_of (fun f.0 (terms_tree us)) ++ rows_left ls stack)) told
      ∙ ap (λ y. length (row_of (the_table_term ls y) ++ rows_left ls stack)) (sym is)

  -- ---- the loop

  pub walk-begins : (items : List RowItem) (none stack : List TableTerm) (x : TableTerm) → items ≡ [] → none ≡ [] → stack ≡ none ++ x ∷ [] → items ++ rows_left ls stack ≡ row_of (the_table_term ls x)
  walk-begins items none stack x e f g =
      (λ i. e i ++ rows_left ls (g i)) ∙ left-last none x ∙ ap (λ zs. row_of (the_table_term ls x) ++ rows_left ls zs) f
      ∙ ap (λ l. row_of (the_table_term ls x) ++ l) left-none ∙ append-nil (row_of (the_table_term ls x))

  pub walk-goes : (items new whole : List RowItem) (stack rest pushed : List TableTerm) (x : TableTerm) → stack ≡ rest ++ x ∷ [] → new ++ rows_left ls pushed ≡ items ++ (row_of (the_table_term ls x) ++ rows_left ls rest) → items ++ rows_left ls stack ≡ whole → new ++ rows_left ls pushed ≡ whole
  walk-goes items new whole stack rest pushed x e h k = h ∙ ap (λ l. items ++ l) (sym (ap (rows_left ls) e ∙ left-last rest x)) ∙ k

  pub walk-falls : (stack rest pushed : List TableTerm) (x : TableTerm) → stack ≡ rest ++ x ∷ [] → suc (length (rows_left ls pushed)) ≡ length (row_of (the_table_term ls x) ++ rows_left ls rest) → length (rows_left ls pushed) < length (rows_left ls stack)
  walk-falls stack rest pushed x e h =
      let k : length (rows_left ls stack) ≡ length (row_of (the_table_term ls x) ++ rows_left ls rest) = ap length (ap (rows_left ls) e ∙ left-last rest x) in
      omega (arith, h, k)

  pub walk-ends : (items whole : List RowItem) (stack : List TableTerm) → stack ≡ [] → items ++ rows_left ls stack ≡ whole → items ≡ whole
  walk-ends items whole stack e h = sym (append-nil items) ∙ ap (λ l. items ++ l) (sym (ap (rows_left ls) e ∙ left-none)) ∙ h
