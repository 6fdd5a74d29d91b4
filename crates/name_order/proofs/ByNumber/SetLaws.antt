-- What a set by one test of equality shows is what is kept by another, where the two tests say the same.
use Rattle.std.proofs.Common.{◌≡◌, ℕ, List, [], ◌∷◌, ◌++◌, map, Bool, true, false, position, drop, length, get_or, ◌+◌, ◌<◌, refl, sym, ◌∙◌, ap, subst, if◌then◌else◌}
use Rattle.std.specs.List.{AllByRecursion, list_any, position_or_len}
use Rattle.std.proofs.lemmas.List.{at_drop_more, length-map, map-append}
use Rattle.indexmap.specs.IndexSet.{insert_key}
use Rattle.plain_laws.proofs.Every.{each-push}
use Rattle.name_order.specs.Keeping.{keep, keep_all}

module _ {A B : Type 0} (eq : A → A → Bool) (test : B → B → Bool) (view : A → B) (Good : A → Type 0) (same : (x y : A) → Good x → Good y → eq x y ≡ test (view x) (view y)) where
  any-same : (ks : List A) (x : A) → AllByRecursion Good ks → Good x → list_any (eq x) ks ≡ list_any (test (view x)) (map view ks)
  any-same [] x h g = refl
  any-same (k ∷ ks) x h g = rw (same x k g h.0, any-same ks x h.1 g) refl

  place-same : (ks : List A) (x : A) → AllByRecursion Good ks → Good x → position_or_len (eq x) ks ≡ position_or_len (test (view x)) (map view ks)
  place-same [] x h g = refl
  place-same (k ∷ ks) x h g = rw (same x k g h.0, place-same ks x h.1 g) refl

  by-test : (ks : List A) (x : A) (b : Bool) → map view (if b then ks else ks ++ x ∷ []) ≡ (if b then map view ks else map view ks ++ view x ∷ [])
  by-test ks x true = refl
  by-test ks x false = map-append view ks (x ∷ [])

  pub insert-kept : (ks us : List A) (x : A) (y : B) → AllByRecursion Good ks → Good x → view x ≡ y → us ≡ insert_key eq ks x → map view us ≡ keep test (map view ks) y
  insert-kept ks us x y h g v e =
      let kept : map view us ≡ keep test (map view ks) (view x) = ap (map view) e ∙ by-test ks x (list_any (eq x) ks) ∙ ap (λ b. if b then map view ks else map view ks ++ view x ∷ []) (any-same ks x h g) in
      kept ∙ ap (keep test (map view ks)) v

  good-by : (ks : List A) (x : A) (b : Bool) → AllByRecursion Good ks → Good x → AllByRecursion Good (if b then ks else ks ++ x ∷ [])
  good-by ks x true h g = h
  good-by ks x false h g = each-push Good ks x h g

  pub insert-good : (ks us : List A) (x : A) → AllByRecursion Good ks → Good x → us ≡ insert_key eq ks x → AllByRecursion Good us
  insert-good ks us x h g e = subst (AllByRecursion Good) (sym e) (good-by ks x (list_any (eq x) ks) h g)

  pub position-same : (ks : List A) (x : A) (y : B) → AllByRecursion Good ks → Good x → view x ≡ y → position (eq x) ks ≡ position (test y) (map view ks)
  position-same ks x y h g v =
      let found : position (eq x) ks ≡ position (test (view x)) (map view ks) = rw (place-same ks x h g, length-map ks view) refl in
      found ∙ ap (λ z. position (test z) (map view ks)) v

-- ---- loops that keep items

module _ {B : Type 0} (eq : B → B → Bool) where
  pub keep_all-append : (ks xs ys : List B) → keep_all eq ks (xs ++ ys) ≡ keep_all eq (keep_all eq ks xs) ys
  keep_all-append ks [] ys = refl
  keep_all-append ks (x ∷ xs) ys = keep_all-append (keep eq ks x) xs ys

  -- `all` gives what the items stand for, `one` what one does
  pub kept-step : {A : Type 0} (all : List A → List B) (one : A → List B) → ((x : A) (xs : List A) → all (x ∷ xs) ≡ one x ++ all xs) → (ks us kept : List B) (xs : List A) (i : ℕ) (x d : A) → i < length xs → x ≡ get_or xs i d → us ≡ keep_all eq ks (one x) → keep_all eq ks (all (drop i xs)) ≡ kept → keep_all eq us (all (drop (i + 1) xs)) ≡ kept
  kept-step all one more ks us kept xs i x d h e g k =
      let rest = all (drop (i + 1) xs) in
      ap (λ vs. keep_all eq vs rest) g
      ∙ sym (keep_all-append ks (one x) rest)
      ∙ ap (keep_all eq ks) (sym (more x (drop (i + 1) xs)))
      ∙ ap (λ y. keep_all eq ks (all (y ∷ drop (i + 1) xs))) e
      ∙ sym (at_drop_more (λ ys. keep_all eq ks (all ys)) xs i d h)
      ∙ k
