use Rattle.std.proofs.Common.{◌≡◌, ◌≢◌, ◌∙◌, ap, refl, sym, Some, length}
use Rattle.std.proofs.lemmas.List.{length-map}
use Rattle.formula_core.specs.SymbolView.{the_symbol}
use Rattle.formula_core.proofs.SymbolEq.{still_most, symbol_eq-exact, slice_get-the_symbol}
use Rattle.formula_core.proofs.Distinct.{are_distinct-insert_key}
use Rattle.formula_core.proofs.symbol.Symbols.add.Goals as goal

pub returns-clause-place : goal.returns-clause-place
returns-clause-place c =
    let k = c.in-Ok.ensures.stored in
    slice_get-the_symbol c.insert_full.new.self.keys c.in-Ok.added.0 c.args.s (k.1 ∙ ap Some (sym (symbol_eq-exact c.args.s k.0 k.2)))

pub invariant_of-self-2 : goal.invariant_of-self-2
invariant_of-self-2 c =
    let e : length c.args.self.now ≡ length c.self.inside.set.keys = ap length (sym c.self.view_is) ∙ length-map c.self.inside.set.keys the_symbol in
    let h : length c.self.inside.set.keys ≢ 65536 = λ k. c.if-len-eq-MAX_LEN.false (c.len.ensures.len ∙ e ∙ k) in
    (still_most c.in-Ok.added.1 (length c.self.inside.set.keys) (length c.insert_full.new.self.keys) c.in-Ok.ensures.len c.self.invariant.0 h, are_distinct-insert_key _ _ _ c.args.s c.self.view_is (c.in_default.ensures.absent.0 refl) c.in-Ok.ensures.keys c.self.invariant.1)
