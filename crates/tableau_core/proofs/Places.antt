-- Lists with one view, place by place.
use Rattle.std.specs.Prelude.{◌≡◌, ◌≢◌, IsTrue, false, ℕ, ◌<◌, List, [], ◌∷◌, map, length}
use Rattle.std.proofs.Common.{true≢false, arith, get_or, zero, suc, ap, sym, ◌∙◌}
use Rattle.std.proofs.lemmas.List.{length-map}

-- what a test that answers false owes where the fact cannot be
pub not-so : {A : Type 0} → (A → ⊥) → (IsTrue false → A) × (A → IsTrue false)
not-so n = (λ h. absurd (true≢false (sym h)), λ a. absurd (n a))

-- lists whose lengths differ have views that differ
pub lengths-apart : {X Y Z : Type 0} (f : X → Z) (g : Y → Z) (xs : List X) (ys : List Y) → length xs ≢ length ys → map f xs ≢ map g ys
lengths-apart f g xs ys h e = h (sym (length-map xs f) ∙ ap length e ∙ length-map ys g)

-- lists with one view have items with one view
pub views-item : {X Y Z : Type 0} (f : X → Z) (g : Y → Z) (xs : List X) (ys : List Y) (i : ℕ) (x d : X) (y e : Y) → i < length xs → i < length ys → x ≡ get_or xs i d → y ≡ get_or ys i e → map f xs ≡ map g ys → f x ≡ g y
views-item f g [] ys i x d y e h k p q m = absurd (omega arith)
views-item f g (a ∷ xs) [] i x d y e h k p q m = absurd (omega arith)
views-item f g (a ∷ xs) (b ∷ ys) zero x d y e h k p q m = let n : f a ≡ g b = cc in ap f p ∙ n ∙ sym (ap g q)
views-item f g (a ∷ xs) (b ∷ ys) (suc i) x d y e h k p q m = let n : map f xs ≡ map g ys = cc in views-item f g xs ys i x d y e (omega arith) (omega arith) p q n

pub ruleset values_equality = (lengths-apart, views-item)
