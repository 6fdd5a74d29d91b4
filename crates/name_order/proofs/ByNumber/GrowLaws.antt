-- What is kept of names and turns when their table grows.
use Rattle.std.proofs.Common.{◌≡◌, ℕ, ◌+◌, ◌<◌, List, [], ◌∷◌, ◌++◌, map, take, length, get_or, append_assoc, refl, sym, ◌∙◌, ap, subst}
use Rattle.std.specs.List.{AllByRecursion}
use Rattle.std.proofs.lemmas.List.{map-append, take_more}
use Rattle.formula_core.specs.GroundLists.{GroundList, the_value, AreNormalValues, IsNormalValue, IsGrown}
use Rattle.formula_core.specs.declared.ground.Value.{Value}
use Rattle.formula_core.specs.declared.ground.Values.{Values}
use Rattle.formula_core.proofs.GrownLaws.{grown-both, value-grown, values-grown}
use Rattle.name_order.specs.ByNumber.Inside.{the_names, AreNormalNames}
use Rattle.name_order.specs.ByNumber.Naming.{IsNaming, Keeps}
use Rattle.name_order.specs.ByNumber.TurnView.{the_turn, IsNormalTurn}
use Rattle.name_order.specs.declared.naming.Naming.{Naming}
use Rattle.name_order.specs.declared.turn.Turn.{Turn}
use Rattle.name_order.proofs.ByNumber.NameSets.{names-grown, names-normal-grown}

module _ (a b : List GroundList) (g : IsGrown a b) where
  pub all-grown : (vs : List Value) → AllByRecursion (IsNormalValue a) vs → map (the_value b) vs ≡ map (the_value a) vs
  all-grown [] h = refl
  all-grown (v ∷ vs) h = rw (value-grown a b g v h.0, all-grown vs h.1) refl

  pub list-normal-grown : (n : Values) → AreNormalValues a n → AreNormalValues b n
  list-normal-grown n h e = h (sym (values-grown a b g n h) ∙ e)

  turns-grown : (ts : List Turn) → AllByRecursion (IsNormalTurn a) ts → map (the_turn b) ts ≡ map (the_turn a) ts
  turns-grown [] h = refl
  turns-grown (t ∷ ts) h = rw (values-grown a b g t.values h.0, turns-grown ts h.1) refl

  turns-normal-grown : (ts : List Turn) → AllByRecursion (IsNormalTurn a) ts → AllByRecursion (IsNormalTurn b) ts
  turns-normal-grown [] h = tt
  turns-normal-grown (t ∷ ts) h = (list-normal-grown t.values h.0, turns-normal-grown ts h.1)

pub keeps : (source : List GroundList) (old new : Naming) → IsNaming source old → IsGrown old.table new.table → new.names.keys ≡ old.names.keys → new.turns.items ≡ old.turns.items → Keeps source old new
keeps source old new h g k t = record {
  good = record {
    grown = grown-both source old.table new.table h.grown g;
    names = subst (AreNormalNames new.table) (sym k) (names-normal-grown old.table new.table g old.names.keys h.names);
    turns = subst (AllByRecursion (IsNormalTurn new.table)) (sym t) (turns-normal-grown old.table new.table g old.turns.items h.turns);
  };
  names = ap (the_names new.table) k ∙ names-grown old.table new.table g old.names.keys h.names;
  turns = ap (map (the_turn new.table)) t ∙ turns-grown old.table new.table g old.turns.items h.turns;
  keys = k;
  items = t;
}

-- one turn more
pub turns-step : {A B : Type 0} (f : A → B) (xs : List A) (i : ℕ) (x d : A) (first now new : List B) → i < length xs → x ≡ get_or xs i d → now ≡ first ++ map f (take i xs) → new ≡ now ++ f x ∷ [] → new ≡ first ++ map f (take (i + 1) xs)
turns-step f xs i x d first now new h e n m =
    m
    ∙ ap (λ ys. ys ++ f x ∷ []) n
    ∙ append_assoc first (map f (take i xs)) (f x ∷ [])
    ∙ ap (λ y. first ++ (map f (take i xs) ++ f y ∷ [])) e
    ∙ ap (λ ys. first ++ ys) (sym (ap (map f) (take_more xs i d h) ∙ map-append f (take i xs) (get_or xs i d ∷ [])))
