-- The number of a name is its place in the set of names, counted from 1.
use Rattle.std.proofs.Common.{◌≡◌, ℕ, suc, ◌+◌, ◌<◌, ◌≤◌, List, [], ◌∷◌, map, Bool, true, false, Some, None, position, length, refl, sym, ◌∙◌, ap, inl, inr, arith, if◌then◌else◌}
use Rattle.std.proofs.lemmas.List.{get_or_append_left, get_or_past, length-append}
use Rattle.std.proofs.lemmas.List.Quantifiers.{position-Some}
use Rattle.std.proofs.lemmas.List.Sums.{fails_before_first}
use Rattle.calculus.specs.Ground.{Value, g_new_mark, values_list, values_tree}
use Rattle.calculus.specs.Lists.{values_list-values_tree}
use Rattle.calculus.proofs.Members.{Among}
use Rattle.conversion_theory.specs.Numbering.{name_eq, number_in, place_from}
use Rattle.conversion_theory.specs.Turns.{Name, mark_name}
use Rattle.conversion_theory.proofs.NumberLaws.{name_eq-tells}
use Rattle.formula_core.specs.GroundLists.{GroundList, of_terms, values_in, the_values, AreNormalValues, IsGrown}
use Rattle.formula_core.specs.GroundTables.{AreApart}
use Rattle.formula_core.specs.declared.ground.GroundMark.TheVariants as mark
use Rattle.formula_core.specs.declared.ground.Values.{Values}
use Rattle.formula_core.proofs.GroundTableLaws.{values-inj}
use Rattle.formula_core.proofs.GrownLaws.{values-grown}
use Rattle.name_order.specs.ByNumber.Inside.{AreNormalNames}
use Rattle.name_order.specs.ByNumber.NameView.{the_name, IsNormalName}
use Rattle.name_order.specs.declared.names.Name as program
use Rattle.name_order.specs.declared.names.Name.TheVariants as name
use Rattle.name_order.proofs.NumberPlaces.{none-behind, place-none, place-some}
use Rattle.name_order.proofs.ByNumber.GrowLaws.{list-normal-grown}

pub number-some : (ns : List Name) (n : Name) (i : ℕ) → Some i ≡ position (name_eq n) ns → Some (i + 1) ≡ number_in ns n
number-some ns n i e = let found = position-Some (name_eq n) ns i n (sym e) in let m : 1 + i ≡ i + 1 = omega arith in sym (place-some 1 i ns n found.0 found.1 found.2 ∙ ap Some m)

pub number-none : (ns : List Name) (n : Name) → None ≡ position (name_eq n) ns → None ≡ number_in ns n
number-none ns n e = sym (place-none 1 ns n (λ i lt. fails_before_first (name_eq n) ns i n (none-behind (name_eq n) ns i (sym e) lt)))

-- ---- characters by lists of a grown table

missing : (k : ℕ) (ns : List Name) (n : Name) → (Among ns n → ⊥) → None ≡ place_from k ns n
missing k [] n h = refl
missing k (m ∷ ms) n h = by (name_eq n m) refl (missing (suc k) ms n (λ i. h (inr i)))
  where
    by : (b : Bool) → name_eq n m ≡ b → None ≡ place_from (suc k) ms n → None ≡ (if b then Some k else place_from (suc k) ms n)
    by true e r = absurd (h (inl (sym ((name_eq-tells n m).0 e))))
    by false e r = r

abbrev values_of : Name → List Value
values_of (mark_name (g_new_mark p vs)) = values_list vs
values_of _ = []

module _ (lists table : List GroundList) (grown : IsGrown lists table) (apart : AreApart table) where
  past : (v : Values) → length lists ≤ v.0 → the_values lists v ≡ []
  past v h = ap values_in (get_or_past lists v.0 (of_terms []) h)

  other-name : (q : ℕ) (v : Values) → AreNormalValues table v → length lists ≤ v.0 → (the_values table v ≡ [] → ⊥) → (x : program.Name) → IsNormalName lists x → the_name lists x ≡ mark_name (g_new_mark q (values_tree (the_values table v))) → ⊥
  other-name q v normal h some (name.Term t) g e = cc
  other-name q v normal h some (name.Mark (mark.Spare k)) g e = cc
  other-name q v normal h some (name.Mark (mark.New p m)) g e =
      let same : the_values lists m ≡ the_values table v = sym (values_list-values_tree (the_values lists m)) ∙ ap values_of e ∙ values_list-values_tree (the_values table v) in
      let one : m ≡ v = values-inj table apart m v (list-normal-grown lists table grown m g) normal (values-grown lists table grown m g ∙ same) in
      let place = ap (λ (w : Values). w.0) one in
      some (sym same ∙ past m (omega (arith, place, h)))

  not-among : (names : List program.Name) (q : ℕ) (v : Values) → AreNormalNames lists names → AreNormalValues table v → length lists ≤ v.0 → (the_values table v ≡ [] → ⊥) → Among (map (the_name lists) names) (mark_name (g_new_mark q (values_tree (the_values table v)))) → ⊥
  not-among [] q v good normal h some i = elim i [ ]
  not-among (x ∷ names) q v good normal h some (inl e) = other-name q v normal h some x good.0 e
  not-among (x ∷ names) q v good normal h some (inr i) = not-among names q v good.1 normal h some i

  pub no-number : (names : List program.Name) (q : ℕ) (v : Values) → AreNormalNames lists names → AreNormalValues table v → length lists ≤ v.0 → (the_values table v ≡ [] → ⊥) → None ≡ number_in (map (the_name lists) names) (mark_name (g_new_mark q (values_tree (the_values table v))))
  no-number names q v good normal h some = missing 1 (map (the_name lists) names) (mark_name (g_new_mark q (values_tree (the_values table v)))) (not-among names q v good normal h some)

  pub same-low : (v : Values) → v.0 < length lists → the_values lists v ≡ the_values table v
  same-low v h = sym (ap (λ ls. the_values ls v) grown.grown ∙ ap values_in (get_or_append_left lists grown.added (of_terms []) v.0 h))

  pub same-empty : (v : Values) → AreNormalValues table v → the_values table v ≡ [] → the_values lists v ≡ the_values table v
  same-empty v normal e =
      let last = normal e in
      let most = grown.most in
      let whole = ap length grown.grown ∙ length-append lists grown.added in
      past v (omega (arith, last, most, whole)) ∙ sym e
