-- Past the modal part of a signed formula, by the lists of a table.
use Rattle.std.proofs.Common.{◌≡◌, ℕ, List, ◌∷◌, map, ◌∙◌, ap, subst}
use Rattle.std.specs.Borrow.{Bor}
use Rattle.calculus.specs.declared.setting.Logic.{Logic}
use Rattle.calculus.specs.Derivations.{Label, to}
use Rattle.calculus.specs.Ground.{marks_tree, steps}
use Rattle.calculus.specs.Instances as spots
use Rattle.calculus.specs.Instances.{after_string}
use Rattle.conversion_theory.specs.Branches.{past_string}
use Rattle.conversion_theory.specs.Numbering.{numbered_label}
use Rattle.conversion_theory.specs.Turns.{Name}
use Rattle.formula_core.specs.GroundLists.{GroundList, the_mark, the_marks, the_value, the_values}
use Rattle.formula_core.specs.declared.ground.GroundLabel.{GroundLabel}
use Rattle.formula_core.specs.declared.ground.GroundMark.{GroundMark}
use Rattle.formula_core.specs.declared.ground.Value.{Value}
use Rattle.formula_core.specs.declared.ground.Values.{Values}
use Rattle.sequent_calc.specs.StepView.{the_modal}
use Rattle.sequent_calc.specs.declared.step.ModalArg.{ModalArg}
use Rattle.sequent_convert.specs.ByNumber.PastView.{taking, the_past}
use Rattle.sequent_convert.specs.ByNumber.SpotView.{taken_is, the_spot}
use Rattle.sequent_convert.specs.declared.spot.Spot.{Spot}

module _ (ls : List GroundList) (num : Name → ℕ) (l : Logic) (c : Spot) where
  -- past a nu part, by another name of the same lists
  pub past-nu : (ts : List GroundList) → ts ≡ ls → (n : GroundLabel) (ms : List GroundMark) → map (the_mark ts) ms ≡ the_marks ts n → (vs : Values) (d : Spot) → the_spot ls d ≡ taken_is (the_values ls vs) (after_string l (marks_tree (map (the_mark ls) ms)) (the_spot ls c)) → (reached : List GroundMark) → reached ≡ d.label.value.items → (w : Label) → w ≡ numbered_label num (map (the_mark ls) reached) → (a : ModalArg) → the_modal a ≡ to w → (rest : Bor (List Value)) → the_past ls (record { spot = d; arg = a; rest = rest }) ≡ taking (the_values ls vs) (past_string num l (the_spot ls c) (steps (marks_tree (the_marks ls n)) ∷ map (the_value ls) rest.now))
  past-nu ts same n ms read vs d next reached at w label a arg rest =
      let string : map (the_mark ls) ms ≡ the_marks ls n = subst (λ (zs : List GroundList). map (the_mark zs) ms ≡ the_marks zs n) same read in
      let spot : the_spot ls d ≡ taken_is (the_values ls vs) (after_string l (marks_tree (the_marks ls n)) (the_spot ls c)) = next ∙ ap (λ xs. taken_is (the_values ls vs) (after_string l (marks_tree xs) (the_spot ls c))) string in
      let told : the_modal a ≡ to (numbered_label num (after_string l (marks_tree (the_marks ls n)) (the_spot ls c)).label) = arg ∙ ap to (label ∙ ap (λ xs. numbered_label num (map (the_mark ls) xs)) at ∙ ap (λ (s : spots.Spot). numbered_label num s.label) spot) in
      λ i. record { spot = spot i; arg = told i; rest = map (the_value ls) rest.now }
