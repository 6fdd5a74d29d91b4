-- The row of a term's image is that of the images of its items.
use Rattle.std.proofs.Common.{◌≡◌, ℕ, suc, Bool, true, false, ◌==◌, List, [], ◌∷◌, ◌++◌, get_or, map, refl, sym, ◌∙◌, ap}
use Rattle.std.specs.Prelude.{if◌then◌else◌}
use Rattle.std.proofs.lemmas.List.{map-append}
use Rattle.calculus.specs.Syntax.{Term, Terms, var, fun, eigen, spare, no_terms, more_terms, arity_of}
use Rattle.formula_text.specs.Rows.{row_of, rows_of}
use Rattle.formula_text.specs.declared.term_row.RowItem.{RowItem}
use Rattle.formula_text.specs.declared.term_row.RowItem.TheVariants as item
use Rattle.godel_transfer.specs.RowImages.{eigen_item, item_image}
use Rattle.godel_transfer.specs.Transfer.{EigenImage, eigen_image, term_image, terms_image}

-- a term in one item
abbrev IsAlone : Term → Type 0
IsAlone t = row_of t ≡ get_or (row_of t) 0 (item.Spare 1) ∷ []

eigen-alone : (xs : List EigenImage) (n : ℕ) → IsAlone (eigen_image xs n)
eigen-alone [] n = refl
eigen-alone (x ∷ xs) n = by (x.number == n) (eigen-alone xs n)
  where
    by : (b : Bool) → IsAlone (eigen_image xs n) → IsAlone (if b then eigen x.image else eigen_image xs n)
    by true h = refl
    by false h = h

arity-image : (xs : List EigenImage) (ts : Terms) → arity_of (terms_image xs ts) ≡ arity_of ts
arity-image xs no_terms = refl
arity-image xs (more_terms t ts) = ap suc (arity-image xs ts)

mutual
  pub row-image : (xs : List EigenImage) (t : Term) → row_of (term_image xs t) ≡ map (item_image xs) (row_of t)
  row-image xs (var k) = refl
  row-image xs (fun f ts) = (λ i. item.Fun (record { 0 = f }) (arity-image xs ts i) ∷ rows-image xs ts i)
  row-image xs (eigen n) = eigen-alone xs n
  row-image xs (spare n) = refl

  pub rows-image : (xs : List EigenImage) (ts : Terms) → rows_of (terms_image xs ts) ≡ map (item_image xs) (rows_of ts)
  rows-image xs no_terms = refl
  rows-image xs (more_terms t ts) = (λ i. row-image xs t i ++ rows-image xs ts i) ∙ sym (map-append (item_image xs) (row_of t) (rows_of ts))
