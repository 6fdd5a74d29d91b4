use Rattle.std.proofs.Common.{◌<◌, ◌≤◌, ◌+◌, ◌^◌, length, map}
use Rattle.calculus.specs.Positions.{size}
use Rattle.formula_core.specs.FormulaView.{the_formula}
use Rattle.term_store.specs.RefView.{the_place}
use Rattle.term_store.specs.Room.{KeepsRoom}
use Rattle.domain_cond.proofs.WayLaws.{IsOnWay}
use Rattle.domain_cond.proofs.RightLaws.{IsRightTo}
use Rattle.domain_cond.proofs.home.home.Given as goal

abbrev pub invariant-loop-middle : goal.invariant-loop-middle
invariant-loop-middle l = record {
  way : IsOnWay l.problem l.fn.p.0 l.initial.store.store l.store.store (map the_place l.values) (map the_place l.label.items) l.taken l.at.further l.at.part.sign (the_formula l.at.part.formula.now) l.at.place;
  right : IsRightTo l.problem l.fn.p.0 l.initial.store.store l.store.store (map the_place l.values) (map the_place l.label.items) l.taken l.at.further l.at.part.sign (the_formula l.at.part.formula.now) l.at.place;
  inside : l.at.place < size (the_formula l.at.part.formula.now);
  small : l.at.further + size (the_formula l.at.part.formula.now) < 2 ^ 32;
  taken : l.taken ≤ length l.values;
  room : KeepsRoom l.initial.store l.store;
}

abbrev pub decreases-loop-middle : goal.decreases-loop-middle
decreases-loop-middle l = size (the_formula l.at.part.formula.now)
