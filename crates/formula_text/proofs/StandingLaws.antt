-- Terms that are taken from the end of a stack and put there.
use Rattle.std.proofs.Common.{◌≡◌, ℕ, List, [], ◌∷◌, ◌++◌, take, drop, get_or, map, reverse, sym, ◌∙◌, ap, append-nil}
use Rattle.std.proofs.lemmas.List.{map-append, reverse-append}
use Rattle.calculus.specs.Syntax as tree
use Rattle.formula_core.specs.TermView.{the_term}
use Rattle.formula_core.specs.declared.term.Term.{Term}
use Rattle.formula_text.proofs.RowLaws.{terms-row}
use Rattle.formula_text.specs.Rows.{row_of, terms_in}
use Rattle.formula_text.specs.declared.term_row.RowItem.{RowItem}
use Rattle.formula_text.specs.Standing.{standing}

pub standing-push : (xs : List Term) (t : Term) → standing (xs ++ t ∷ []) ≡ the_term t ∷ standing xs
standing-push xs t = ap reverse (map-append the_term xs (t ∷ [])) ∙ reverse-append (map the_term xs) (the_term t ∷ [])

-- what is left to be taken, and what stays
pub record IsTaking (args : List tree.Term) (left : ℕ) (stack : List Term) (taken stays : List tree.Term) : Type 0 where
  pub taken_is : args ++ take left (standing stack) ≡ taken
  pub stays_is : drop left (standing stack) ≡ stays

-- what a stack holds in the end
pub term-standing : (stack rest : List Term) (t : Term) (items : List RowItem) (u : tree.Term) → stack ≡ rest ++ t ∷ [] → standing stack ≡ terms_in items → items ≡ row_of u → the_term t ≡ u
term-standing stack rest t items u e h k =
    ap (λ xs. get_or xs 0 (the_term t)) (sym (standing-push rest t) ∙ sym (ap standing e) ∙ h) ∙ ap (λ xs. get_or (terms_in xs) 0 (the_term t)) (k ∙ sym (append-nil (row_of u))) ∙ ap (λ xs. get_or xs 0 (the_term t)) (terms-row u [])

pub none-standing : (stack : List Term) (items : List RowItem) (u : tree.Term) → stack ≡ [] → standing stack ≡ terms_in items → items ≡ row_of u → ⊥
none-standing stack items u e h k = nil-cons u [] (sym (ap standing e) ∙ h ∙ ap terms_in (k ∙ sym (append-nil (row_of u))) ∙ terms-row u [])
  where
    nil-cons : (x : tree.Term) (xs : List tree.Term) → [] ≡ x ∷ xs → ⊥
    nil-cons x xs p = cc p
