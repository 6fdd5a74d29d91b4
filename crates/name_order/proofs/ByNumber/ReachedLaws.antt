-- Positions with values that name their lists by the one number: they are equal exactly where they stand for the same turn.
use Rattle.std.proofs.Common.{◌≡◌, ℕ, List, [], ◌∷◌, map, true, ◌==◌, position, refl, ◌∙◌, ap, subst, arith}
use Rattle.std.specs.Cmp.Lexicographic.{pointwise, pointwise_decides}
use Rattle.std.specs.List.{AllByRecursion}
use Rattle.std.proofs.lemmas.Bool.{and_parts, eqb-true, and_from}
use Rattle.calculus.specs.Instances as tree
use Rattle.formula_core.specs.GroundLists.{GroundList, the_value, IsNormalValue}
use Rattle.formula_core.specs.GroundTables.{AreApart}
use Rattle.formula_core.specs.contracts.ground.ValuePartialEq.TheImpl as value
use Rattle.formula_core.specs.declared.ground.Value.{Value}
use Rattle.formula_core.proofs.GroundTableLaws.{value-inj}
use Rattle.indexmap.specs.IndexSet.{insert_key}
use Rattle.plain_laws.proofs.Booleans.{same-tests}
use Rattle.formula_core.proofs.EntryLaws.{value-decides}
use Rattle.name_order.specs.ByNumber.ReachedView.{the_reached, the_all, the_keys, IsNormalReached, AreNormalReached}
use Rattle.name_order.specs.Found.{find_in}
use Rattle.name_order.specs.Keeping.{keep, turn_eq}
use Rattle.name_order.specs.Words.{words_eq, words_of_turn}
use Rattle.name_order.specs.contracts.reached.ReachedPartialEq.TheImpl.{eq-value}
use Rattle.name_order.specs.declared.reached.Reached.{Reached}
use Rattle.name_order.proofs.Arranging.{turn_eq-tells}
use Rattle.name_order.proofs.ByNumber.SetLaws.{insert-kept, insert-good, position-same}
use Rattle.name_order.proofs.WordLaws.{words_eq-tells, words_of_turn-inj}

values-same : (ls : List GroundList) → AreApart ls → (xs ys : List Value) → AllByRecursion (IsNormalValue ls) xs → AllByRecursion (IsNormalValue ls) ys → map (the_value ls) xs ≡ map (the_value ls) ys → xs ≡ ys
values-same ls apart [] [] h g e = refl
values-same ls apart [] (y ∷ ys) h g e = absurd cc
values-same ls apart (x ∷ xs) [] h g e = absurd cc
values-same ls apart (x ∷ xs) (y ∷ ys) h g e =
    let here : the_value ls x ≡ the_value ls y = cc in
    let rest : map (the_value ls) xs ≡ map (the_value ls) ys = cc in
    let a = value-inj ls apart x y h.0 g.0 here in
    let b = values-same ls apart xs ys h.1 g.1 rest in
    rw (a, b) refl

-- equal ones have the position and the values
parts-of : (x y : Reached) → eq-value.it x y ≡ true → (x.position ≡ y.position) × (x.values.items ≡ y.values.items)
parts-of x y e =
    let parts = and_parts (x.position == y.position) (pointwise value.eq-value.it x.values.items y.values.items) e in
    (eqb-true x.position y.position parts.0, (pointwise_decides value-decides x.values.items y.values.items).0 parts.1)

of-parts : (x y : Reached) → x.position ≡ y.position → x.values.items ≡ y.values.items → eq-value.it x y ≡ true
of-parts x y p v = and_from (x.position == y.position) (pointwise value.eq-value.it x.values.items y.values.items) (subst (λ n. (x.position == n) ≡ true) p (grind arith)) ((pointwise_decides value-decides x.values.items y.values.items).1 v)

module _ (ls : List GroundList) (apart : AreApart ls) where
  same-turn : (x y : Reached) → eq-value.it x y ≡ true → the_reached ls x ≡ the_reached ls y
  same-turn x y e = let p = parts-of x y e in let n = p.0 in let v = ap (map (the_value ls)) p.1 in λ i. record { position = n i; values = v i }

  turn-same : (x y : Reached) → IsNormalReached ls x → IsNormalReached ls y → the_reached ls x ≡ the_reached ls y → eq-value.it x y ≡ true
  turn-same x y h g e = of-parts x y (ap (λ (t : tree.Turn). t.position) e) (values-same ls apart x.values.items y.values.items h g (ap (λ (t : tree.Turn). t.values) e))

  by-turns : (x y : Reached) → IsNormalReached ls x → IsNormalReached ls y → eq-value.it x y ≡ turn_eq (the_reached ls x) (the_reached ls y)
  by-turns x y h g = same-tests (eq-value.it x y) (turn_eq (the_reached ls x) (the_reached ls y)) (λ e. (turn_eq-tells (the_reached ls x) (the_reached ls y)).1 (same-turn x y e)) (λ e. turn-same x y h g ((turn_eq-tells (the_reached ls x) (the_reached ls y)).0 e))

  abbrev words : Reached → List ℕ
  words r = words_of_turn (the_reached ls r)

  by-words : (x y : Reached) → IsNormalReached ls x → IsNormalReached ls y → eq-value.it x y ≡ words_eq (words x) (words y)
  by-words x y h g = same-tests (eq-value.it x y) (words_eq (words x) (words y)) (λ e. (words_eq-tells (words x) (words y)).1 (ap words_of_turn (same-turn x y e))) (λ e. turn-same x y h g (words_of_turn-inj (the_reached ls x) (the_reached ls y) ((words_eq-tells (words x) (words y)).0 e)))

  pub turn-kept : (ks us : List Reached) (r : Reached) (x : tree.Turn) → AreNormalReached ls ks → IsNormalReached ls r → the_reached ls r ≡ x → us ≡ insert_key eq-value.it ks r → the_all ls us ≡ keep turn_eq (the_all ls ks) x
  turn-kept = insert-kept eq-value.it turn_eq (the_reached ls) (IsNormalReached ls) by-turns

  pub turn-normal : (ks us : List Reached) (r : Reached) → AreNormalReached ls ks → IsNormalReached ls r → us ≡ insert_key eq-value.it ks r → AreNormalReached ls us
  turn-normal = insert-good eq-value.it turn_eq (the_reached ls) (IsNormalReached ls) by-turns

  pub turn-found : (ks : List Reached) (r : Reached) (x : tree.Turn) → AreNormalReached ls ks → IsNormalReached ls r → the_reached ls r ≡ x → position (eq-value.it r) ks ≡ find_in (the_keys ls ks) x
  turn-found ks r x h g e = position-same eq-value.it words_eq words (IsNormalReached ls) by-words ks r (words_of_turn x) h g (ap words_of_turn e) ∙ ap (position (words_eq (words_of_turn x))) (words-map ks)
    where
      words-map : (rs : List Reached) → map words rs ≡ the_keys ls rs
      words-map [] = refl
      words-map (q ∷ qs) = ap (λ ws. words q ∷ ws) (words-map qs)
