-- What is left of the worlds or elements tells the answer, by the steps that are left; calls go down the formula.
use Rattle.std.proofs.Common.{◌≡◌, ◌+◌, ◌*◌, ◌∷◌, drop, false, reverse, take, true}
use Rattle.calculus.specs.Measures.{node_count}
use Rattle.calculus.specs.StructureTruth.{each_told, not_told, told_at}
use Rattle.calculus.specs.Structures.{domain_of}
use Rattle.formula_core.specs.FormulaView.{the_formula}
use Rattle.finite_model.specs.Seeking.{decide_told, left, seek_told}
use Rattle.finite_model.proofs.truth.+truth_at.Given as goal

abbrev pub decreases-truth_by_parts : goal.decreases-truth_by_parts
decreases-truth_by_parts l = 4 * node_count (the_formula l.formula.now)

abbrev pub decreases-truth_at : goal.decreases-truth_at
decreases-truth_at l = 4 * node_count (the_formula l.formula.now) + 1

abbrev pub decreases-seek_worlds : goal.decreases-seek_worlds
decreases-seek_worlds l = 4 * node_count (the_formula l.formula.now) + 2

abbrev pub decreases-seek_elements : goal.decreases-seek_elements
decreases-seek_elements l = 4 * node_count (the_formula l.formula.now) + 2

abbrev pub decreases-true_for_all : goal.decreases-true_for_all
decreases-true_for_all l = 4 * node_count (the_formula l.formula.now) + 3

abbrev pub decreases-decided : goal.decreases-decided
decreases-decided l = 4 * (node_count (the_formula l.first.now) + node_count (the_formula l.second.now)) + 2

abbrev pub decreases-implied_at_all : goal.decreases-implied_at_all
decreases-implied_at_all l = 4 * (node_count (the_formula l.first.now) + node_count (the_formula l.second.now)) + 3

abbrev pub invariant-seek_worlds-loop-world : goal.invariant-seek_worlds-loop-world
invariant-seek_worlds-loop-world l =
    (seek_told l.value (told_at l.logic l.structure (the_formula l.formula) (reverse (take l.bound l.fn.env))) l.worlds (left l.fn.ledger)
    ≡ seek_told l.value (told_at l.logic l.structure (the_formula l.formula) (reverse (take l.bound l.fn.env))) (drop l.world-index l.worlds) (left l.ledger))
    × (take l.bound l.env ≡ take l.bound l.fn.env)
    × (l.ledger.budget ≡ l.fn.ledger.budget)

abbrev pub invariant-seek_elements-loop-element : goal.invariant-seek_elements-loop-element
invariant-seek_elements-loop-element l =
    (seek_told l.value (λ x. told_at l.logic l.structure (the_formula l.formula) (x ∷ reverse (take l.bound l.fn.env)) l.world) l.element-items (left l.fn.ledger)
    ≡ seek_told l.value (λ x. told_at l.logic l.structure (the_formula l.formula) (x ∷ reverse (take l.bound l.fn.env)) l.world) (drop l.element-index l.element-items) (left l.ledger))
    × (take l.bound l.env ≡ take l.bound l.fn.env)
    × (l.ledger.budget ≡ l.fn.ledger.budget)

abbrev pub invariant-implied_at_all-loop-world : goal.invariant-implied_at_all-loop-world
invariant-implied_at_all-loop-world l =
    (each_told (λ v. decide_told false true (told_at l.logic l.structure (the_formula l.first) (reverse (take l.bound l.fn.env)) v) (told_at l.logic l.structure (the_formula l.second) (reverse (take l.bound l.fn.env)) v)) l.worlds (left l.fn.ledger)
    ≡ each_told (λ v. decide_told false true (told_at l.logic l.structure (the_formula l.first) (reverse (take l.bound l.fn.env)) v) (told_at l.logic l.structure (the_formula l.second) (reverse (take l.bound l.fn.env)) v)) (drop l.world-index l.worlds) (left l.ledger))
    × (take l.bound l.env ≡ take l.bound l.fn.env)
    × (l.ledger.budget ≡ l.fn.ledger.budget)

abbrev pub invariant-true_for_all-loop-world : goal.invariant-true_for_all-loop-world
invariant-true_for_all-loop-world l =
    (each_told (λ v. not_told (seek_told false (λ x. told_at l.logic l.structure (the_formula l.formula) (x ∷ reverse (take l.bound l.fn.env)) v) (domain_of l.structure v))) l.worlds (left l.fn.ledger)
    ≡ each_told (λ v. not_told (seek_told false (λ x. told_at l.logic l.structure (the_formula l.formula) (x ∷ reverse (take l.bound l.fn.env)) v) (domain_of l.structure v))) (drop l.world-index l.worlds) (left l.ledger))
    × (take l.bound l.env ≡ take l.bound l.fn.env)
    × (l.ledger.budget ≡ l.fn.ledger.budget)
