use Rattle.std.proofs.Common.{sym, ◌∙◌, arith, reverse}
use Rattle.calculus.specs.Lists.{terms_tree}
use Rattle.calculus.specs.Structures.{place_of, predicate_value, term_values}
use Rattle.finite_model.proofs.ArgLaws.{all-on, all-false, all-end}
use Rattle.finite_model.proofs.value.is_atom_true.Goals as goal

pub loop-world-preserved : goal.loop-world-preserved
loop-world-preserved c =
    let xs = term_values c.args.structure.now (reverse c.args.env.now) (terms_tree c.args.args.now) in
    sym (all-on (λ v. predicate_value c.args.structure.now c.args.predicate.0 v xs) c.args.worlds.now c.loop-world.world-index (omega arith) (sym (c.is_true_at.ensures (place_of c.args.structure.now xs) c.place_at-place.ensures) ∙ c.if-not-is_true_at.false)) ∙ c.loop-world.invariant

pub returns-then-not-is_true_at : goal.returns-then-not-is_true_at
returns-then-not-is_true_at c =
    let xs = term_values c.args.structure.now (reverse c.args.env.now) (terms_tree c.args.args.now) in
    sym (all-false (λ v. predicate_value c.args.structure.now c.args.predicate.0 v xs) c.args.worlds.now c.loop-world.world-index (omega arith) (sym (c.is_true_at.ensures (place_of c.args.structure.now xs) c.place_at-place.ensures) ∙ c.if-not-is_true_at.true)) ∙ c.loop-world.invariant

pub returns : goal.returns
returns c =
    let xs = term_values c.args.structure.now (reverse c.args.env.now) (terms_tree c.args.args.now) in
    sym (all-end (λ v. predicate_value c.args.structure.now c.args.predicate.0 v xs) c.args.worlds.now c.loop-world.world-index (omega arith)) ∙ c.loop-world.invariant
