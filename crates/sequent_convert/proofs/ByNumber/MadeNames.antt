-- Characters of pi positions looked up among names.
use Rattle.std.proofs.Common.{◌≡◌, ◌↔◌, ℕ, zero, suc, ◌+◌, ◌≤◌, ◌<◌, List, [], ◌∷◌, map, length, get_or, Bool, true, false, ◌==◌, IsTrue, Option, None, unwrap_or, refl, sym, ◌∙◌, ap, subst, inl, inr, arith}
use Rattle.std.proofs.lemmas.Bool.{cases_Bool, cases_lt, false≢true}
use Rattle.std.proofs.lemmas.Bool.Decides.{nat_tests}
use Rattle.std.proofs.lemmas.List.{length-map}
use Rattle.conversion_theory.specs.Numbering.{name_eq, place_from, number_in, number_of}
use Rattle.conversion_theory.specs.Turns as turns
use Rattle.conversion_theory.specs.Turns.{mark_name}
use Rattle.conversion_theory.proofs.NumberLaws.{name_eq-tells}
use Rattle.calculus.specs.Ground as tree
use Rattle.calculus.specs.Ground.{g_new_mark, values_tree}
use Rattle.calculus.specs.Lists.{values_tree-inj}
use Rattle.cop_base.specs.declared.PosId.{PosId}
use Rattle.formula_core.specs.GroundLists.{GroundList, the_value, the_values}
use Rattle.formula_core.specs.declared.ground.GroundMark.{GroundMark}
use Rattle.formula_core.specs.declared.ground.GroundMark.TheVariants as mark
use Rattle.formula_core.specs.declared.ground.Value.{Value}
use Rattle.formula_core.specs.declared.ground.Values.{Values}
use Rattle.name_order.specs.ByNumber.NameView.{the_name}
use Rattle.name_order.specs.declared.names.Name.{Name}
use Rattle.name_order.specs.declared.names.Name.TheVariants as name

-- a name that is none of the names has no number
none-from : (k : ℕ) (ns : List turns.Name) (n : turns.Name) → ((i : ℕ) → i < length ns → get_or ns i n ≡ n → ⊥) → place_from k ns n ≡ None
none-from k [] n h = refl
none-from k (m ∷ ms) n h = elim (cases_Bool (name_eq n m)) [
  | inl e ↦ absurd (h 0 (omega arith) (sym ((name_eq-tells n m).0 e)))
  | inr e ↦ rw e (none-from (suc k) ms n (λ i lt q. h (suc i) (omega (arith, lt)) q))
]

-- none of the first names is this one
abbrev pub NoneOf : List GroundList → List Name → ℕ → turns.Name → Type 0
NoneOf ls ns k n = (i : ℕ) → i < k → i < length ns → get_or (map (the_name ls) ns) i n ≡ n → ⊥

pub none-start : (ls : List GroundList) (ns : List Name) (n : turns.Name) → NoneOf ls ns 0 n
none-start ls ns n i lt within e = absurd (omega (arith, lt))

name-at : (ls : List GroundList) (ns : List Name) (k : ℕ) (x d : Name) (n : turns.Name) → k < length ns → x ≡ get_or ns k d → get_or (map (the_name ls) ns) k n ≡ the_name ls x
name-at ls [] k x d n lt e = absurd (omega (arith, lt))
name-at ls (y ∷ ys) zero x d n lt e = ap (the_name ls) (sym e)
name-at ls (y ∷ ys) (suc k) x d n lt e = name-at ls ys k x d n (omega (arith, lt)) e

none-step : (ls : List GroundList) (ns : List Name) (k : ℕ) (x d : Name) (n : turns.Name) → k < length ns → x ≡ get_or ns k d → (the_name ls x ≡ n → ⊥) → NoneOf ls ns k n → NoneOf ls ns (k + 1) n
none-step ls ns k x d n lt read apart h i less within e = elim (cases_lt i k) [
  | inl l ↦ h i l within e
  | inr g ↦ let same : i ≡ k = omega (arith, less, g) in apart (sym (name-at ls ns k x d n lt read) ∙ subst (λ j. get_or (map (the_name ls) ns) j n ≡ n) same e)
]

-- one more name, which a test tells from this one
pub none-told : (ls : List GroundList) (ns : List Name) (k : ℕ) (x d : Name) (n : turns.Name) (r : Bool) → k < length ns → x ≡ get_or ns k d → r ≡ false → (IsTrue r ↔ (the_name ls x ≡ n)) → NoneOf ls ns k n → NoneOf ls ns (k + 1) n
none-told ls ns k x d n r lt read differs h none = none-step ls ns k x d n lt read (λ e. false≢true (sym differs ∙ h.1 e)) none

pub none-number : (ls : List GroundList) (ns : List Name) (names : List turns.Name) (k : ℕ) (n : turns.Name) → map (the_name ls) ns ≡ names → length ns ≤ k → NoneOf ls ns k n → 0 ≡ number_of names n
none-number ls ns names k n e le h =
    let count = length-map ns (the_name ls) in
    sym (ap (λ o. unwrap_or o 0) (none-from 1 names n (λ i lt q. subst (λ xs. (i : ℕ) → i < length xs → get_or xs i n ≡ n → ⊥) e (λ i lt q. let l : i < length ns = omega (arith, lt, count) in h i (omega (arith, l, le)) l q) i lt q)))

-- ---- by another name of the same lists

abbrev pub made_name : List GroundList → ℕ → List Value → turns.Name
made_name ls p vs = mark_name (g_new_mark p (values_tree (map (the_value ls) vs)))

-- the character that a name is
pub made-told : (ls : List GroundList) (x : Name) (m : GroundMark) (p q : PosId) (list : Values) (items vs : List Value) (r : Bool) → x ≡ name.Mark m → m ≡ mark.New p list → (p.0 == q.0) ≡ true → map (the_value ls) items ≡ the_values ls list → (IsTrue r ↔ (map (the_value ls) items ≡ map (the_value ls) vs)) → IsTrue r ↔ (the_name ls x ≡ made_name ls q.0 vs)
made-told ls x m p q list items vs r named new at read same =
    let shown : the_name ls x ≡ mark_name (g_new_mark p.0 (values_tree (the_values ls list))) = ap (the_name ls) (named ∙ ap name.Mark new) in
    let place : p.0 ≡ q.0 = grind (arith, nat_tests, at) in (
      λ t. shown ∙ (λ i. mark_name (g_new_mark (place i) (values_tree ((sym read ∙ same.0 t) i)))),
      λ e. same.1 (read ∙ values_tree-inj (the_values ls list) (map (the_value ls) vs) (values-one p.0 q.0 (values_tree (the_values ls list)) (values_tree (map (the_value ls) vs)) (sym shown ∙ e))),
    )
  where
    values-one : (j k : ℕ) (us ws : tree.Values) → mark_name (g_new_mark j us) ≡ mark_name (g_new_mark k ws) → us ≡ ws
    values-one j k us ws e = cc

module _ (ls ts : List GroundList) (same : ts ≡ ls) (p : ℕ) (vs : List Value) where
  told-by : (x : Name) (r : Bool) → (IsTrue r ↔ (the_name ts x ≡ made_name ts p vs)) → IsTrue r ↔ (the_name ls x ≡ made_name ls p vs)
  told-by x r h = subst (λ (zs : List GroundList). IsTrue r ↔ (the_name zs x ≡ made_name zs p vs)) same h

  pub none-by : (ns : List Name) (k : ℕ) (x d : Name) (r : Bool) → k < length ns → x ≡ get_or ns k d → r ≡ false → (IsTrue r ↔ (the_name ts x ≡ made_name ts p vs)) → NoneOf ls ns k (made_name ls p vs) → NoneOf ls ns (k + 1) (made_name ls p vs)
  none-by ns k x d r lt read differs h none = none-told ls ns k x d (made_name ls p vs) r lt read differs (told-by x r h) none

  -- the name that was looked for
  pub found-by : (names : List turns.Name) (x : Name) (r : Bool) (n : ℕ) → r ≡ true → (IsTrue r ↔ (the_name ts x ≡ made_name ts p vs)) → n ≡ number_of names (the_name ls x) → n ≡ number_of names (made_name ls p vs)
  found-by names x r n found h e = e ∙ ap (number_of names) ((told-by x r h).0 found)

  -- the number by the list that was found
  pub mark-by : (names : List turns.Name) (list : Values) (items : List Value) (r : Bool) (o : Option ℕ) → r ≡ true → (IsTrue r ↔ (map (the_value ts) items ≡ map (the_value ts) vs)) → map (the_value ts) items ≡ the_values ts list → o ≡ number_in names (mark_name (g_new_mark p (values_tree (the_values ls list)))) → unwrap_or o 0 ≡ number_of names (made_name ls p vs)
  mark-by names list items r o found h read e =
      let values : the_values ls list ≡ map (the_value ls) vs = subst (λ (zs : List GroundList). the_values zs list ≡ map (the_value zs) vs) same (sym read ∙ h.0 found) in
      ap (λ q. unwrap_or q 0) e ∙ ap (λ ws. number_of names (mark_name (g_new_mark p (values_tree ws)))) values

pub ruleset made = (none-start, none-number)
