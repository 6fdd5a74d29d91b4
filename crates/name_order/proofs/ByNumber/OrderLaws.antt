-- Sorted turns stand in the order of the agenda, and are one; sorted names are a numbering.
use Rattle.std.proofs.Common.{◌≡◌, ◌⊎◌, ℕ, suc, ◌<◌, List, [], ◌∷◌, ◌++◌, Contains, IsTrue, Bool, true, false, append-nil, append_assoc, refl, sym, ◌∙◌, ap, subst, inl, inr, length, arith, add-one, slice_index_or, IsPermutation}
use Rattle.std.specs.List.{IsDistinct, flat_map, list_any}
use Rattle.std.specs.List.Sorted.{IsNonDecreasingBy}
use Rattle.std.proofs.lemmas.Bool.{true≢false}
use Rattle.std.proofs.lemmas.List.{length-map}
use Rattle.std.proofs.lemmas.List.Sorted.{Contains-permutation, IsPermutation-sym, IsPermutation-map}
use Rattle.std.proofs.lemmas.Map.Keys.{IsDistinct-IsPermutation, IsDistinct-head, IsDistinct-tail}
use Rattle.std.proofs.lemmas.Option.{slice_get_within, get_or_from_slice_get}
use Rattle.std.specs.Cmp.{nat_cmp_is}
use Rattle.std.specs.Ordering.{nat_cmp, is_lt}
use Rattle.std.specs.declared.cmp.Ordering.TheVariants.{Less, Equal}
use Rattle.calculus.specs.Instances as tree
use Rattle.calculus.specs.Syntax.{Problem}
use Rattle.calculus.specs.Tableaux.{Tableau, instances, is_closed}
use Rattle.calculus.proofs.Members.{Among, among-append, contains-among, among-contains, among-all, all-among, among-at}
use Rattle.conversion_theory.specs.Depths.{value_list_depth, inner_depth}
use Rattle.conversion_theory.specs.Numbering.{name_eq}
use Rattle.conversion_theory.specs.Turns.{Name, IsAgenda}
use Rattle.conversion_theory.proofs.DepthAgenda.{ComesLessDeep, IsInDepthOrder, AreInDepthOrder, agenda-by_depth}
use Rattle.conversion_theory.proofs.NumberLaws.{name_eq-tells}
use Rattle.conversion_theory.proofs.SortedTurns.{IsRisingInDepth, depth_order-rising}
use Rattle.formula_core.specs.GroundLists.{GroundList, the_value}
use Rattle.name_order.specs.ByNumber.NameView.{the_name}
use Rattle.name_order.specs.ByNumber.Order.{sort_key, key_cmp, IsSortedByKeys, the_turns, AreDeep, IsArranged, the_names, HaveDepths, name_depth, IsOnce, AreOrdered}
use Rattle.name_order.specs.ByNumber.ReachedView.{the_reached}
use Rattle.name_order.specs.Keeping.{keep_all, turn_eq}
use Rattle.name_order.specs.Walks.{turns_by}
use Rattle.name_order.specs.declared.agenda.DeepTurn.{DeepTurn}
use Rattle.name_order.specs.declared.numbering.DeepName.{DeepName}
use Rattle.name_order.proofs.Arranging.{turn_eq-tells}
use Rattle.name_order.proofs.GuideLaws.{kept-all}
use Rattle.name_order.proofs.KeepingLaws.{any-among, flips, kept-distinct, kept-more, kept-only, distinct-once}
use Rattle.name_order.proofs.NumberOrder.{at-map}
use Rattle.name_order.proofs.WalkTurns.{closed-turns}

-- ---- turns

-- what comes before has a lesser key
key-less : (a b c d e f : ℕ) → (a < d) ⊎ ((a ≡ d) × ((b < e) ⊎ ((b ≡ e) × (c < f)))) → is_lt (key_cmp (a, b, c) (d, e, f)) ≡ true
key-less a b c d e f (inl h) = let p : nat_cmp a d ≡ Less = sym (nat_cmp_is a d Less h) in rw p refl
key-less a b c d e f (inr (h, inl g)) = let p : nat_cmp a d ≡ Equal = sym (nat_cmp_is a d Equal h) in let q : nat_cmp b e ≡ Less = sym (nat_cmp_is b e Less g) in rw (p, q) refl
key-less a b c d e f (inr (h, inr (g, k))) = let p : nat_cmp a d ≡ Equal = sym (nat_cmp_is a d Equal h) in let q : nat_cmp b e ≡ Equal = sym (nat_cmp_is b e Equal g) in let r : nat_cmp c f ≡ Less = sym (nat_cmp_is c f Less k) in rw (p, q, r) refl

module _ (ls : List GroundList) where
  abbrev IsDeep : DeepTurn → Type 0
  IsDeep t = t.depth ≡ value_list_depth (the_reached ls t.turn).values

  before-less : (x y : DeepTurn) → IsDeep x → IsDeep y → ComesLessDeep (the_reached ls y.turn) (the_reached ls x.turn) → is_lt (key_cmp (sort_key y) (sort_key x)) ≡ true
  before-less x y h g b =
      let m = length-map y.turn.values.items (the_value ls) in
      let n = length-map x.turn.values.items (the_value ls) in
      key-less y.depth (length y.turn.values.items) y.turn.position x.depth (length x.turn.values.items) x.turn.position (elim b [
        | inl lt ↦ inl (omega (arith, lt, h, g))
        | inr p ↦ let at = p.0 in inr (
          omega (arith, at, h, g),
          elim p.1 [
            | inl lt ↦ inl (omega (arith, lt, m, n))
            | inr q ↦ let count = q.0 in inr (omega (arith, count, m, n), q.1)
          ],
        )
      ])

  -- neighbours
  rising : (ts : List DeepTurn) → AreDeep ls ts → ((k : ℕ) (d : DeepTurn) → suc k < length ts → is_lt (key_cmp (sort_key (slice_index_or ts (suc k) d)) (sort_key (slice_index_or ts k d))) ≡ false) → IsRisingInDepth (the_turns ls ts)
  rising [] h s = tt
  rising (x ∷ []) h s = tt
  rising (x ∷ y ∷ ts) h s = (
    λ b. true≢false (sym (before-less x y h.0 h.1.0 b) ∙ s 0 x (omega arith)),
    rising (y ∷ ts) h.1 (λ k d lt. s (suc k) d (omega (arith, lt))),
  )

  ordered : (ts : List DeepTurn) → AreDeep ls ts → IsSortedByKeys ts → IsInDepthOrder (the_turns ls ts)
  ordered ts h s = depth_order-rising (the_turns ls ts) (rising ts h (λ k d lt. subst (λ n. is_lt (key_cmp (sort_key (slice_index_or ts n d)) (sort_key (slice_index_or ts k d))) ≡ false) (add-one k) (s k d (omega arith) (omega (arith, lt)))))

  pub sorted-arranged : (deep sorted : List DeepTurn) (turns agenda : List tree.Turn) → the_turns ls deep ≡ keep_all turn_eq [] turns → AreDeep ls deep → IsPermutation deep sorted → IsSortedByKeys sorted → agenda ≡ keep_all turn_eq [] (the_turns ls sorted) → IsArranged turns agenda
  unfolding IsDistinct
  sorted-arranged deep sorted turns agenda e depths moved up a =
      let each : AreDeep ls sorted = all-among IsDeep sorted (λ x k. among-all IsDeep deep x depths (among-contains deep x (Contains-permutation sorted deep x (IsPermutation-sym deep sorted moved) (contains-among sorted x k)))) in
      let kept = keep_all turn_eq [] turns in
      let same : IsPermutation kept (the_turns ls sorted) = subst (λ ts. IsPermutation ts (the_turns ls sorted)) e (IsPermutation-map (λ (t : DeepTurn). the_reached ls t.turn) deep sorted moved) in
      let once = IsDistinct-IsPermutation turn_eq (flips turn_eq turn_eq-tells) kept (the_turns ls sorted) same (kept-distinct turn_eq turn_eq-tells [] turns tt) in
      let whole : agenda ≡ the_turns ls sorted = a ∙ kept-all [] (the_turns ls sorted) once (λ x i j. j) in
      record { moved = subst (IsPermutation kept) (sym whole) same; in_order = subst IsInDepthOrder (sym whole) (ordered sorted each up) }

pub arranged-agenda : (P : Problem) (d : ℕ) (t : Tableau) → IsTrue (is_closed P d t) → (agenda : List tree.Turn) → IsArranged (flat_map (turns_by P) (instances t)) agenda → IsAgenda P t agenda
unfolding IsDistinct
arranged-agenda P d t closed agenda h =
    let all_turns = flat_map (turns_by P) (instances t) in
    let kept = keep_all turn_eq [] all_turns in
    let same = closed-turns P d t closed in
    let once = distinct-once turn_eq turn_eq-tells agenda (IsDistinct-IsPermutation turn_eq (flips turn_eq turn_eq-tells) kept agenda h.moved (kept-distinct turn_eq turn_eq-tells [] all_turns tt)) in
    agenda-by_depth P t agenda (λ x. (
      λ k. Contains-permutation kept agenda x h.moved (contains-among kept x (kept-more turn_eq turn_eq-tells [] all_turns x (inr (among-contains all_turns x (subst (λ ts. Contains ts x) (sym same) k))))),
      λ k. subst (λ ts. Contains ts x) same (contains-among all_turns x (elim (kept-only turn_eq turn_eq-tells [] all_turns x (among-contains kept x (Contains-permutation agenda kept x (IsPermutation-sym kept agenda h.moved) k))) [ inl m ↦ elim m [ ] | inr m ↦ m ])),
    )) once h.in_order

-- each turn that was collected stands in the agenda
pub arranged-has : (turns agenda : List tree.Turn) → IsArranged turns agenda → (x : tree.Turn) → Among turns x → Among agenda x
arranged-has turns agenda h x i =
    let kept = keep_all turn_eq [] turns in
    among-contains agenda x (Contains-permutation kept agenda x h.moved (contains-among kept x (kept-more turn_eq turn_eq-tells [] turns x (inr i))))

-- ---- names

names-ordered : (ls : List GroundList) (ns : List DeepName) → HaveDepths ls ns → IsNonDecreasingBy name_depth ns → AreInDepthOrder (the_names ls ns)
names-ordered ls ns depths up i j n m e f lt =
    let a = at-map (λ (x : DeepName). the_name ls x.name) ns i n e in
    let b = at-map (λ (x : DeepName). the_name ls x.name) ns j m f in
    let first = get_or_from_slice_get ns i a.0 a.0 a.1 in
    let second = get_or_from_slice_get ns j b.0 a.0 b.1 in
    let le = up i j a.0 (omega (arith, lt)) (slice_get_within ns j b.0 b.1) in
    let x : name_depth a.0 ≡ inner_depth n = among-all (λ (x : DeepName). x.depth ≡ inner_depth (the_name ls x.name)) ns a.0 depths (among-at ns i a.0 a.1) ∙ ap inner_depth a.2 in
    let y : name_depth b.0 ≡ inner_depth m = among-all (λ (x : DeepName). x.depth ≡ inner_depth (the_name ls x.name)) ns b.0 depths (among-at ns j b.0 b.1) ∙ ap inner_depth b.2 in
    let p = ap name_depth first in
    let q = ap name_depth second in
    omega (arith, le, x, y, p, q)

-- names once each keep their order
names-kept : (ks xs : List Name) → IsDistinct name_eq xs → ((x : Name) → Among xs x → Among ks x → ⊥) → keep_all name_eq ks xs ≡ ks ++ xs
names-kept ks [] d h = sym (append-nil ks)
names-kept ks (x ∷ xs) d h = by (list_any (name_eq x) ks) refl (names-kept (ks ++ x ∷ []) xs (IsDistinct-tail name_eq x xs d) apart)
  where
    apart : (y : Name) → Among xs y → Among (ks ++ x ∷ []) y → ⊥
    apart y i j = elim (among-append ks (x ∷ []) y j) [
      | inl k ↦ h y (inr i) k
      | inr k ↦ elim k [
        | inl e ↦ true≢false (sym ((name_eq-tells x y).1 e) ∙ among-all (λ z. name_eq x z ≡ false) xs y (IsDistinct-head name_eq x xs d) i)
        | inr n ↦ n
      ]
    ]

    by : (b : Bool) → list_any (name_eq x) ks ≡ b → keep_all name_eq (ks ++ x ∷ []) xs ≡ (ks ++ x ∷ []) ++ xs → keep_all name_eq ks (x ∷ xs) ≡ ks ++ x ∷ xs
    by true e r = absurd (h x (inl refl) (any-among name_eq name_eq-tells ks x e))
    by false e r = rw e (r ∙ append_assoc ks (x ∷ []) xs)

pub sorted-names : (ls : List GroundList) (deep sorted : List DeepName) (names all : List Name) → the_names ls deep ≡ names → HaveDepths ls deep → IsOnce names → IsPermutation deep sorted → IsNonDecreasingBy name_depth sorted → all ≡ keep_all name_eq [] (the_names ls sorted) → AreOrdered names all
sorted-names ls deep sorted names all e depths once moved up a =
    let each : HaveDepths ls sorted = all-among (λ (n : DeepName). n.depth ≡ inner_depth (the_name ls n.name)) sorted (λ x k. among-all (λ (n : DeepName). n.depth ≡ inner_depth (the_name ls n.name)) deep x depths (among-contains deep x (Contains-permutation sorted deep x (IsPermutation-sym deep sorted moved) (contains-among sorted x k)))) in
    let same : IsPermutation names (the_names ls sorted) = subst (λ ns. IsPermutation ns (the_names ls sorted)) e (IsPermutation-map (λ (n : DeepName). the_name ls n.name) deep sorted moved) in
    let distinct = IsDistinct-IsPermutation name_eq (flips name_eq name_eq-tells) names (the_names ls sorted) same once in
    let whole : all ≡ the_names ls sorted = a ∙ names-kept [] (the_names ls sorted) distinct (λ x i j. j) in
    record {
      all = λ n. (λ k. subst (λ ns. Contains ns n) (sym whole) (Contains-permutation names (the_names ls sorted) n same k), λ k. Contains-permutation (the_names ls sorted) names n (IsPermutation-sym names (the_names ls sorted) same) (subst (λ ns. Contains ns n) whole k));
      once = subst IsOnce (sym whole) distinct;
      in_order = subst AreInDepthOrder (sym whole) (names-ordered ls sorted each up);
    }
