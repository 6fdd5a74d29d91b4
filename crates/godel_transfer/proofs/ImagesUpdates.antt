-- What adding an image and taking one away make of images.
use Rattle.std.proofs.Common.{◌≡◌, ℕ, suc, ◌+◌, ◌-◌, ◌==◌, Bool, true, false, cond, List, [], ◌∷◌, ◌++◌, length, reverse, Some, nat_eq, refl, sym, ◌∙◌, ap, subst}
use Rattle.std.proofs.lemmas.List.{reverse-append, length-reverse}
use Rattle.indexmap.specs.IndexMap.{get}
use Rattle.godel_transfer.specs.ImagesView.{AreImages, AreLinked, place_in, place_told}
use Rattle.godel_transfer.specs.declared.images.Image.{Image}
use Rattle.godel_transfer.specs.declared.images.Images.{Images}

turned : {A : Type 0} (xs ys : List A) (x : A) → ys ≡ xs ++ x ∷ [] → reverse ys ≡ x ∷ reverse xs
turned xs ys x e = ap reverse e ∙ reverse-append xs (x ∷ [])

pub push-kept : (x y : Images) (i : Image) (k : ℕ) → y.items.items ≡ x.items.items ++ i ∷ [] → i.before ≡ place_told x i.number → k ≡ length y.items.items → ((q : ℕ) → get nat_eq y.places q ≡ cond (nat_eq i.number q) (Some k) (get nat_eq x.places q)) → AreImages x → AreImages y
push-kept x y i k grown before size updates h =
    let r = reverse x.items.items in
    let e = turned x.items.items y.items.items i grown in
    let more : length y.items.items ≡ suc (length r) = sym (length-reverse y.items.items) ∙ ap length e in
    record {
      told = λ n. by n (i.number == n) refl more ∙ ap (λ (xs : List Image). place_in xs n) (sym e);
      linked = subst AreLinked (sym e) (before ∙ h.told i.number, h.linked);
    }
  where
    by : (n : ℕ) (b : Bool) → (i.number == n) ≡ b → length y.items.items ≡ suc (length (reverse x.items.items)) → place_told y n ≡ place_in (i ∷ reverse x.items.items) n
    by n true g more = rw (updates n, g) (size ∙ more)
    by n false g more = rw (updates n, g) (h.told n)
