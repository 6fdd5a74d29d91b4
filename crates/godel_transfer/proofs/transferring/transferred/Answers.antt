use Rattle.std.proofs.Common.{◌≡◌, ℕ, get_or, ◌+◌, ◌<◌, ◌++◌, ◌∷◌, [], ◌∙◌, List, length, refl, suc, drop, map, ap, sym, append-nil, arith}
use Rattle.std.proofs.lemmas.List.{at_drop_more, drop_all}
use Rattle.calculus.specs.Derivations.{Derivation, Label, Step}
use Rattle.calculus.specs.Syntax.{Formula, Term}
use Rattle.godel_transfer.specs.BranchView.{branches_of}
use Rattle.godel_transfer.specs.Sketch.{first_sketch, names_sketched_from, sketched_from}
use Rattle.calculus.specs.Versions.{stated_step}
use Rattle.derivation_text.specs.Listed.{are_listed}
use Rattle.derivation_text.specs.NumbersView.{the_numbered_step}
use Rattle.derivation_text.specs.declared.numbers.NumberedStep.{NumberedStep}
use Rattle.derivation_text.proofs.Items.{all-item}
use Rattle.godel_transfer.proofs.transferring.transferred.Goals as goal

-- what the steps that are left say, one step on
led : {R : Type 0} (labels : List Label) (terms : List Term) (g : ℕ → List Step → R) (xs : List NumberedStep) (i n m : ℕ) (d : NumberedStep) (l r : R) → i < length xs → m ≡ suc n
    → l ≡ g m (stated_step labels terms (the_numbered_step (get_or xs i d)) ∷ map (stated_step labels terms) (map the_numbered_step (drop (i + 1) xs)))
    → g (suc n) (map (stated_step labels terms) (map the_numbered_step (drop i xs))) ≡ r → l ≡ r
led labels terms g xs i n m d l r lt e one told =
    one ∙ ap (λ k. g k (stated_step labels terms (the_numbered_step (get_or xs i d)) ∷ map (stated_step labels terms) (map the_numbered_step (drop (i + 1) xs)))) e
    ∙ sym (at_drop_more (λ ys. g (suc n) (map (stated_step labels terms) (map the_numbered_step ys))) xs i d lt) ∙ told

pub loop-step-init : goal.loop-step-init
loop-step-init c =
    let of = map (stated_step c.args.d.now.labels c.args.d.now.terms) in
    let first = c.in_ok-branches.ensures.first ∙ ap (λ (f : Formula). first_sketch f ∷ []) c.formula.ensures.formula in
    let out = c.in_ok-out.ensures in
    record {
      kept = c.in_ok-branches.ensures.kept;
      limit = ap (λ (d : Derivation). d.limit) out ∙ c.limit.ensures;
      spares = ap (λ (d : Derivation). d.names.spares) out;
      steps = λ i. (out i).steps ++ sketched_from (first i) 1 (of (c.steps-step-items.ensures.view i));
      names = λ i. (out i).names.eigens ++ names_sketched_from (first i) 1 (of (c.steps-step-items.ensures.view i));
    }

pub take_numbered-requires : goal.take_numbered-requires
take_numbered-requires c = record {
  listed = all-item the_numbered_step (are_listed (length c.args.d.now.labels) (length c.args.d.now.terms)) c.steps-step-items.result.now c.args.d.now.steps c.loop-step.step-index _ _ c.steps-step-items.ensures.view (omega (arith, c.loop-step-test.true)) refl c.steps-step-items.ensures.listed;
  kept = c.loop-step.invariant.kept;
}

pub loop-step-preserved : goal.loop-step-preserved
loop-step-preserved c =
    let x = c.args.d.now in
    let items = c.steps-step-items.result.now in
    let i = c.loop-step.step-index in
    let n = c.loop-step.number in
    let m = c.in_ok-number.number in
    let out = c.loop-step.out in
    let old = branches_of c.loop-step.branches in
    let rest = map (stated_step x.labels x.terms) (map the_numbered_step (drop (i + 1) items)) in
    let inside : i < length items = omega (arith, c.loop-step-test.true) in
    let taken = c.in_ok-take_numbered.ensures in
    let next = c.in_ok-number.ensures in
    record {
      kept = taken.kept;
      limit = sym taken.others.0 ∙ c.loop-step.invariant.limit;
      spares = sym taken.others.1 ∙ c.loop-step.invariant.spares;
      steps = led x.labels x.terms (λ k ys. out.steps ++ sketched_from old k ys) items i n m _ _ _ inside next (taken.steps rest) c.loop-step.invariant.steps;
      names = led x.labels x.terms (λ k ys. out.names.eigens ++ names_sketched_from old k ys) items i n m _ _ _ inside next (taken.names rest) c.loop-step.invariant.names;
    }

pub returns : goal.returns
returns c =
    let items = c.steps-step-items.result.now in
    let n = c.loop-step.number in
    let out = c.loop-step.out in
    let now = branches_of c.loop-step.branches in
    let told = c.loop-step.invariant in
    let of = λ (xs : List NumberedStep). map (stated_step c.args.d.now.labels c.args.d.now.terms) (map the_numbered_step xs) in
    let none : [] ≡ drop c.loop-step.step-index items = sym (drop_all c.loop-step.step-index items (omega (arith, c.loop-step-test.false))) in
    let steps = sym (append-nil out.steps) ∙ (λ j. out.steps ++ sketched_from now (suc n) (of (none j))) ∙ told.steps in
    let names = sym (append-nil out.names.eigens) ∙ (λ j. out.names.eigens ++ names_sketched_from now (suc n) (of (none j))) ∙ told.names in
    λ j. record { limit = told.limit j; names = record { eigens = names j; spares = told.spares j }; steps = steps j }
