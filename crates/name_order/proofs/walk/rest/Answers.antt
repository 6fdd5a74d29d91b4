use Rattle.std.proofs.Common.{◌≡◌, ◌-◌, ℕ, List, length, take, drop, arith, sym}
use Rattle.std.proofs.lemmas.List.{drop_min, drop-map, length-drop, take_all}
use Rattle.formula_core.specs.GroundLists.{the_value}
use Rattle.name_order.proofs.walk.rest.Goals as goal

to-end : {A : Type 0} (k : ℕ) (xs : List A) → take (length xs - k) (drop k xs) ≡ drop k xs
to-end k xs = take_all (length xs - k) (drop k xs) (omega (arith, length-drop k xs))

pub returns : goal.returns
returns c = rw (to-end c.min.result c.args.values.now, c.min.ensures, drop_min c.args.count c.args.values.now) (sym (drop-map (the_value c.args.table.now) c.args.count c.args.values.now))
