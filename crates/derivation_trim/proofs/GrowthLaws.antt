-- How the walk that edits lets the branches grow.
use Rattle.std.proofs.Common.{◌≡◌, ℕ, List, [], ◌∷◌, ◌++◌, length, map, reverse, take, get_or, Option, refl, sym, ◌∙◌, ap}
use Rattle.std.proofs.lemmas.List.{reverse-append, take-map}
use Rattle.calculus.specs.Kinds as kinds
use Rattle.formula_core.specs.declared.components.Signed.{Signed}
use Rattle.sequent_calc.specs.StepView.{the_step}
use Rattle.sequent_calc.specs.declared.step.ModalArg as step_modal
use Rattle.sequent_calc.specs.declared.step.Step.{Step}
use Rattle.sequent_calc.specs.declared.step.Step.TheVariants.{Use}
use Rattle.sequent_calc.specs.declared.step.TermArg as step_term
use Rattle.trim_theory.specs.Editing.{Fork, Place, place, fork_at, added, after_use, resumed_at, after_kept}
use Rattle.trim_theory.specs.Reading.{grows, splits, next_of, bare_entry}
use Rattle.derivation_trim.specs.BranchView.{the_bare, the_branch}
use Rattle.derivation_trim.specs.PlaceView.{the_split, the_splits, the_place}
use Rattle.derivation_trim.proofs.PassLaws.{branch_long}

abbrev Split : Type 0
Split = ℕ × ℕ × Signed

pub splits-push : (fs gs : List Split) (f : Split) → gs ≡ fs ++ f ∷ [] → the_splits gs ≡ the_split f ∷ the_splits fs
splits-push fs gs f h = ap (λ zs. map the_split (reverse zs)) h ∙ ap (map the_split) (reverse-append fs (f ∷ []))

-- the lists of a place
same-place : (br cr : List kinds.Signed) (ps qs tb ub : List ℕ) (fs gs : List Fork) → br ≡ cr → ps ≡ qs → tb ≡ ub → fs ≡ gs → place br ps tb fs ≡ place cr qs ub gs
same-place br cr ps qs tb ub fs gs a b c d =
    ap (λ z. place z ps tb fs) a ∙ ap (λ z. place cr z tb fs) b ∙ ap (λ z. place cr qs z fs) c ∙ ap (λ z. place cr qs ub z) d

-- ---- by a step on a formula

pub used-one : (o : Option kinds.Signed) (a : kinds.Signed) (w v : Place) → next_of o ≡ grows (a ∷ []) → v ≡ added a w → v ≡ after_use (next_of o) w
used-one o a w v h e = e ∙ sym (ap (λ k. after_use k w) h)

pub used-two : (o : Option kinds.Signed) (a d : kinds.Signed) (w u v : Place) → next_of o ≡ grows (a ∷ d ∷ []) → u ≡ added a w → v ≡ added d u → v ≡ after_use (next_of o) w
used-two o a d w u v h e f = f ∙ ap (added d) e ∙ sym (ap (λ k. after_use k w) h)

pub used-fork : (o : Option kinds.Signed) (a d : Signed) (xs : List Signed) (ps tb : List ℕ) (fs gs : List Split) (n k : ℕ) (v : Place) → next_of o ≡ splits (the_bare a) (the_bare d) → n ≡ length xs → k ≡ length tb → gs ≡ fs ++ (n, k, d) ∷ [] → v ≡ added (the_bare a) (place (the_branch xs) ps tb (the_splits gs)) → v ≡ after_use (next_of o) (the_place xs ps tb fs)
used-fork o a d xs ps tb fs gs n k v h e f g i =
    let waits : the_splits gs ≡ fork_at (length (the_branch xs)) (length tb) (the_bare d) ∷ the_splits fs =
    splits-push fs gs (n, k, d) g ∙ ap (λ j. fork_at j k (the_bare d) ∷ the_splits fs) (e ∙ sym (branch_long xs)) ∙ ap (λ j. fork_at (length (the_branch xs)) j (the_bare d) ∷ the_splits fs) f in
    i ∙ ap (λ z. added (the_bare a) (place (the_branch xs) ps tb z)) waits ∙ sym (ap (λ z. after_use z (the_place xs ps tb fs)) h)

-- ---- the next right side

pub resumed-some : (xs ys : List Signed) (ps qs tb ub : List ℕ) (fs gs : List Split) (n k : ℕ) (a : Signed) (v : Place) → fs ≡ gs ++ (n, k, a) ∷ [] → ys ≡ take n xs → qs ≡ take n ps → ub ≡ take k tb → v ≡ added (the_bare a) (place (the_branch ys) qs ub (the_splits gs)) → v ≡ resumed_at (the_splits fs) (the_place xs ps tb fs)
resumed-some xs ys ps qs tb ub fs gs n k a v e f g h i =
    let cut : the_branch ys ≡ take n (the_branch xs) = ap the_branch f ∙ sym (take-map the_bare n xs) in
    i
    ∙ ap (added (the_bare a)) (same-place (the_branch ys) (take n (the_branch xs)) qs (take n ps) ub (take k tb) (the_splits gs) (the_splits gs) cut g h refl)
    ∙ sym (ap (λ z. resumed_at z (the_place xs ps tb fs)) (splits-push gs fs (n, k, a) e))
