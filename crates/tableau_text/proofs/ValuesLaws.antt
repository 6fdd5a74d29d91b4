-- A list of values that is the whole text.
use Rattle.std.proofs.Common.{◌≡◌, ℕ, List, [], ◌∷◌, subst}
use Rattle.calculus.specs.Syntax.{Symbol}
use Rattle.calculus.specs.Ground as tree
use Rattle.calculus.specs.Ground.{no_values, more_values, values_tree}
use Rattle.formula_core.specs.GroundLists.{GroundList, the_values, AreNormalValues}
use Rattle.formula_core.specs.declared.ground.Values.{Values}
use Rattle.tableau_text.specs.Items.{all_values, of_root}
use Rattle.tableau_text.specs.ItemView.{the_item, IsNormalItem}
use Rattle.tableau_text.specs.Points.{Leads, NoneFrom, IsValuesText, IsWhole, behind, inside}
use Rattle.tableau_text.specs.declared.item.TableItem.{TableItem}
use Rattle.tableau_text.specs.declared.item.TableItem.TheVariants as item
use Rattle.tableau_text.proofs.PointLaws.{begins, ends}

pub no-brace : (S : List Symbol) (text : List ℕ) → ((r : List ℕ) → ¬ (text ≡ 123 ∷ r)) → (vs : tree.Values) → ¬ IsValuesText S text vs
no-brace S text none no_values h = none _ h.same
no-brace S text none (more_values v vs) h = none _ h.same

pub none-inside : (S : List Symbol) (text inner : List ℕ) → text ≡ 123 ∷ inner → NoneFrom S (inside [] of_root inner) → (vs : tree.Values) → ¬ IsValuesText S text vs
none-inside S text inner e none vs h = none (all_values vs) (begins S vs text inner h.written e h.same)

pub none-whole : (S : List Symbol) (text inner rest : List ℕ) (ls : List GroundList) (i : TableItem) → text ≡ 123 ∷ inner → Leads S (inside [] of_root inner) (behind [] (the_item ls i) rest) → ((ks : List GroundList) → ¬ IsWhole (the_item ks i) rest) → (vs : tree.Values) → ¬ IsValuesText S text vs
none-whole S text inner rest ls i e h none vs t = let k = h.right (all_values vs) (begins S vs text inner t.written e t.same) in none ls (vs, k.0, k.1)

pub whole-read : (S : List Symbol) (text inner rest : List ℕ) (ls : List GroundList) (i : TableItem) (n : Values) → text ≡ 123 ∷ inner → (i ≡ item.Values n) × (rest ≡ []) → Leads S (inside [] of_root inner) (behind [] (the_item ls i) rest) → IsValuesText S text (values_tree (the_values ls n))
whole-read S text inner rest ls i n e k h =
    let p = ends S (values_tree (the_values ls n)) text inner rest e k.1 (subst (λ j. Leads S (inside [] of_root inner) (behind [] (the_item ls j) rest)) k.0 h) in
    record { written = p.0; same = p.1 }

pub whole-normal : (ls : List GroundList) (i : TableItem) (n : Values) (rest : List ℕ) → (i ≡ item.Values n) × (rest ≡ []) → IsNormalItem ls i → AreNormalValues ls n
whole-normal ls i n rest k h = subst (IsNormalItem ls) k.0 h
