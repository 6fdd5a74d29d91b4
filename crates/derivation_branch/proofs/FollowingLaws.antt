-- What follows a row at the beginning of another.
use Rattle.std.specs.Prelude.{IfSome}
use Rattle.std.proofs.Common.{◌≡◌, ◌↔◌, Option, Some, None, ℕ, Bool, true, false, IsTrue, List, [], ◌∷◌, ◌++◌, length, refl, sym, ◌∙◌, ap, append-nil, append_assoc}
use Rattle.std.proofs.lemmas.List.{append_cancel_left}
use Rattle.calculus.proofs.EqualityLaws.{term_eq-tells}
use Rattle.calculus.specs.Equality.{term_eq}
use Rattle.calculus.specs.Lists.{terms_tree}
use Rattle.calculus.specs.Syntax.{Term, fun}
use Rattle.cop_base.specs.declared.SymbolId.{SymbolId}
use Rattle.formula_text.proofs.RowLaws.{arity-tree, row-alone}
use Rattle.formula_text.specs.Rows.{row_of, rows_of}
use Rattle.formula_text.specs.declared.term_row.RowItem.{RowItem}
use Rattle.formula_text.specs.declared.term_row.RowItem.TheVariants.{Fun}

-- what follows the row `all` at the beginning of the items is what follows the row `left` at that of the rest
abbrev pub IsAfter : List RowItem → List RowItem → List RowItem → List RowItem → Type 0
IsAfter items all rest left = (more : List RowItem) → (items ≡ all ++ more) ↔ (rest ≡ left ++ more)

-- ---- equal rows

pub rest-empty : (t u : Term) (rest : List RowItem) → row_of t ≡ row_of u ++ rest → rest ≡ []
rest-empty t u rest e = sym (append_cancel_left (row_of u) [] rest (append-nil (row_of u) ∙ sym (ap row_of (row-alone t u rest e)) ∙ e))

pub same-told : (t u : Term) → t ≡ u → true ≡ term_eq t u
same-told t u e = sym ((term_eq-tells t u).1 e)

pub other-told : (t u : Term) → ¬ (t ≡ u) → false ≡ term_eq t u
other-told t u h = by (term_eq t u) (term_eq-tells t u).0
  where
    by : (b : Bool) → (IsTrue b → t ≡ u) → false ≡ b
    by true k = absurd (h (k refl))
    by false k = refl

pub none-told : (t u : Term) → ((rest : List RowItem) → ¬ (row_of t ≡ row_of u ++ rest)) → false ≡ term_eq t u
none-told t u h = other-told t u (λ e. h [] (ap row_of e ∙ sym (append-nil (row_of u))))

pub rest-told : (t u : Term) (rest : List RowItem) → row_of t ≡ row_of u ++ rest → (b : Bool) → (rest ≡ [] → b ≡ true) → b ≡ term_eq t u
rest-told t u rest e b h = h (rest-empty t u rest e) ∙ same-told t u (row-alone t u rest e)

-- ---- what follows a row

pub after-step : (items all rest next x left : List RowItem) → IsAfter items all rest (x ++ left) → rest ≡ x ++ next → IsAfter items all next left
after-step items all rest next x left h e = λ more. (
  (λ k. append_cancel_left x next (left ++ more) (sym e ∙ (h more).0 k ∙ append_assoc x left more)),
  (λ k. (h more).1 (e ∙ ap (λ l. x ++ l) k ∙ sym (append_assoc x left more))),
)

pub symbol-first : (items rest : List RowItem) (f : SymbolId) (count : ℕ) (u : Term) (ts : List Term) → fun f.0 (terms_tree ts) ≡ u → count ≡ length ts → items ≡ row_of u ++ rest → items ≡ Fun f count ∷ (rows_of (terms_tree ts) ++ rest)
symbol-first items rest f count u ts e n h = h ∙ ap (λ v. row_of v ++ rest) (sym e) ∙ ap (λ m. Fun f m ∷ (rows_of (terms_tree ts) ++ rest)) (sym (n ∙ arity-tree ts))

pub symbol-then : (items next rest : List RowItem) (f : SymbolId) (count : ℕ) (u : Term) (ts : List Term) → fun f.0 (terms_tree ts) ≡ u → count ≡ length ts → items ≡ Fun f count ∷ next → next ≡ rows_of (terms_tree ts) ++ rest → items ≡ row_of u ++ rest
symbol-then items next rest f count u ts e n h k = h ∙ ap (λ l. Fun f count ∷ l) k ∙ ap (λ m. Fun f m ∷ (rows_of (terms_tree ts) ++ rest)) (n ∙ arity-tree ts) ∙ ap (λ v. row_of v ++ rest) e

pub some-then : {A : Type 0} (P Q : A → Type 0) (o : Option A) → ((x : A) → P x → Q x) → IfSome o P → IfSome o Q
some-then P Q None f h = tt
some-then P Q (Some x) f h = f x h

pub turned : (t u : Term) → term_eq t u ≡ term_eq u t
turned t u = by (term_eq t u) (term_eq u t) (term_eq-tells t u) (term_eq-tells u t)
  where
    by : (a b : Bool) → IsTrue a ↔ (t ≡ u) → IsTrue b ↔ (u ≡ t) → a ≡ b
    by true true f g = refl
    by true false f g = sym (g.1 (sym (f.0 refl)))
    by false true f g = f.1 (sym (g.0 refl))
    by false false f g = refl
