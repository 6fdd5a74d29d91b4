use Rattle.std.proofs.Common.{arith, subst, sym, ap, map}
use Rattle.std.specs.List.{AllByRecursion}
use Rattle.formula_core.specs.GroundLists.{IsGrown}
use Rattle.formula_core.proofs.EntryLaws.{same-lists}
use Rattle.name_order.specs.ByNumber.NameView.{IsNormalName, the_name}
use Rattle.name_order.specs.ByNumber.TurnView.{IsNormalTurn, the_turn}
use Rattle.name_order.proofs.naming.start.Goals as goal

pub returns-clause-good : goal.returns-clause-good
returns-clause-good c =
    let ls = c.args.source.now in
    let n = c.len-read_for_its_invariant.ensures.len in
    let m = c.len-read_for_its_invariant.ensures.most in
    record {
      grown = subst (IsGrown ls) (sym c.in_ok-table.ensures) (same-lists ls (omega (arith, n, m)));
      names = subst (AllByRecursion (IsNormalName c.in_ok-table.table)) (sym c.new-names.ensures.empty) tt;
      turns = subst (AllByRecursion (IsNormalTurn c.in_ok-table.table)) (sym c.new-turns.ensures.items) tt;
    }

pub returns-clause-names : goal.returns-clause-names
returns-clause-names c = ap (map (the_name c.in_ok-table.table)) c.new-names.ensures.empty

pub returns-clause-turns : goal.returns-clause-turns
returns-clause-turns c = ap (map (the_turn c.in_ok-table.table)) c.new-turns.ensures.items
