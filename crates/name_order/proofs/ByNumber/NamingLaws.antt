-- One turn more, with the names that it introduces.
use Rattle.std.proofs.Common.{◌≡◌, List, [], ◌∷◌, ◌++◌, map, sym, ◌∙◌, ap, subst, Vec, Global}
use Rattle.std.specs.List.{AllByRecursion}
use Rattle.std.proofs.lemmas.List.{map-append}
use Rattle.plain_laws.proofs.Every.{each-push}
use Rattle.calculus.specs.Instances as tree
use Rattle.conversion_theory.specs.Numbering.{name_eq}
use Rattle.conversion_theory.specs.Turns.{Name}
use Rattle.formula_core.specs.GroundLists.{GroundList, IsGrown}
use Rattle.name_order.specs.ByNumber.Inside.{AreNormalNames}
use Rattle.name_order.specs.ByNumber.NameView.{the_name}
use Rattle.name_order.specs.ByNumber.Naming.{IsNaming, Keeps, the_names, the_turns}
use Rattle.name_order.specs.ByNumber.TurnView.{the_turn, IsNormalTurn}
use Rattle.name_order.specs.Keeping.{keep_all}
use Rattle.name_order.specs.Mentioned.{character_in, eigen_in, introduced_in}
use Rattle.name_order.specs.Places.{Place}
use Rattle.name_order.specs.declared.naming.Naming.{Naming}
use Rattle.name_order.specs.declared.turn.Turn.{Turn}
use Rattle.name_order.proofs.ByNumber.SetLaws.{keep_all-append}

-- the names of a turn are those that it introduces, one sort after the other
both : (ps : List Place) (old : List Name) (t : tree.Turn) → keep_all name_eq (keep_all name_eq old (eigen_in ps t)) (character_in ps t) ≡ keep_all name_eq old (introduced_in ps t)
both ps old t = sym (keep_all-append name_eq old (eigen_in ps t) (character_in ps t))

-- `mid` has the list of the turn, `one` its eigenvariable besides, `new` its character and itself
module _ (source : List GroundList) (ps : List Place) (old mid one two new : Naming) (turn : Turn) (t : tree.Turn) (kept : Keeps source old mid) (normal : IsNormalTurn mid.table turn) (view : the_turn mid.table turn ≡ t) (one-table : one.table ≡ mid.table) (one-turns : one.turns ≡ mid.turns) (one-names : the_names one ≡ keep_all name_eq (the_names mid) (eigen_in ps (the_turn mid.table turn))) (two-table : two.table ≡ one.table) (two-turns : two.turns ≡ one.turns) (two-normal : AreNormalNames two.table two.names.keys) (two-names : the_names two ≡ keep_all name_eq (the_names one) (character_in ps (the_turn one.table turn))) (new-table : new.table ≡ two.table) (new-names : new.names.keys ≡ two.names.keys) (new-turns : new.turns.items ≡ two.turns.items ++ turn ∷ []) where
  same : new.table ≡ mid.table
  same = new-table ∙ two-table ∙ one-table

  items : new.turns.items ≡ mid.turns.items ++ turn ∷ []
  items = new-turns ∙ ap (λ (v : Vec Turn Global). v.items ++ turn ∷ []) (two-turns ∙ one-turns)

  pub added-good : IsNaming source new
  added-good = record {
    grown = subst (IsGrown source) (sym same) kept.good.grown;
    names = subst (λ ls. AreNormalNames ls new.names.keys) (sym new-table) (subst (AreNormalNames two.table) (sym new-names) two-normal);
    turns = subst (λ ls. AllByRecursion (IsNormalTurn ls) new.turns.items) (sym same) (subst (AllByRecursion (IsNormalTurn mid.table)) (sym items) (each-push (IsNormalTurn mid.table) mid.turns.items turn kept.good.turns normal));
  }

  pub added-names : the_names new ≡ keep_all name_eq (the_names old) (introduced_in ps t)
  added-names =
      ap (λ ls. map (the_name ls) new.names.keys) new-table
      ∙ ap (map (the_name two.table)) new-names
      ∙ two-names
      ∙ ap (λ ls. keep_all name_eq (the_names one) (character_in ps (the_turn ls turn))) one-table
      ∙ ap (λ ns. keep_all name_eq ns (character_in ps (the_turn mid.table turn))) one-names
      ∙ ap (λ ns. keep_all name_eq (keep_all name_eq ns (eigen_in ps (the_turn mid.table turn))) (character_in ps (the_turn mid.table turn))) kept.names
      ∙ ap (λ x. keep_all name_eq (keep_all name_eq (the_names old) (eigen_in ps x)) (character_in ps x)) view
      ∙ both ps (the_names old) t

  pub added-turns : the_turns new ≡ the_turns old ++ t ∷ []
  added-turns =
      ap (λ ls. map (the_turn ls) new.turns.items) same
      ∙ ap (map (the_turn mid.table)) items
      ∙ map-append (the_turn mid.table) mid.turns.items (turn ∷ [])
      ∙ ap (λ ts. ts ++ the_turn mid.table turn ∷ []) kept.turns
      ∙ ap (λ x. the_turns old ++ x ∷ []) view
