-- What is told of a use step over the longer table of labels is told of the step.
use Rattle.std.proofs.Common.{◌≡◌, ℕ, Bool, true, List, [], get_or, reverse, Option, sym, ◌∙◌, ap, subst}
use Rattle.calculus.specs.declared.fault.StepFault.{StepFault}
use Rattle.calculus.specs.declared.kind.ModalPart.{ModalPart}
use Rattle.calculus.specs.declared.kind.Shape.{Shape}
use Rattle.calculus.specs.declared.setting.Logic.{Logic}
use Rattle.calculus.specs.Calculus.{Children, conditions_of_use, first_fault, label_after}
use Rattle.calculus.specs.Derivations.{Entry, Label, ModalArg, Names, Sequent, TermArg}
use Rattle.calculus.specs.Kinds.{modal_of, shape_of}
use Rattle.calculus.specs.Syntax.{Problem, Term}
use Rattle.formula_core.specs.FormulaView.{the_formula}
use Rattle.derivation_branch.specs.SameView.{AreSame}
use Rattle.derivation_branch.specs.declared.same_atoms.Pair.{Pair}
use Rattle.derivation_branch.proofs.PuttingLaws.{modal-all, shape-all}
use Rattle.sequent_calc.specs.ChildrenView.{faulty}
use Rattle.label_table.specs.LabelTable.{IsLabelAt}
use Rattle.label_table.specs.Longer.{IsLonger}
use Rattle.label_table.proofs.TableLaws.{longer-self}
use Rattle.derivation_check.specs.OpenSequents.{sequents_of}
use Rattle.derivation_check.specs.StateView.{IsKept, StandsOn, Tells, the_entry, the_sequent}
use Rattle.derivation_check.specs.declared.open_sequents.BranchEntry.{BranchEntry}
use Rattle.derivation_check.specs.declared.state.State.{State}
use Rattle.derivation_check.proofs.HomesLaws.{homes-longer}
use Rattle.derivation_check.proofs.Keeping.{kept-longer}
use Rattle.derivation_check.proofs.StateLaws.{Used, label-kept, told-of}
use Rattle.derivation_check.proofs.ToldLaws.{told-longer}

-- a table of labels that grows
pub kept-more : (names : Names) (s : State) (more : List Label) → IsLonger s.labels more → IsKept names s → IsKept names (record s { labels = more })
kept-more names s more long h = record {
  nested = h.nested;
  sequents = kept-longer names s.substitutions s.substitutions s.labels more s.eigens s.marks (sequents_of s.sequents) (longer-self s.substitutions) long h.sequents;
  homes = homes-longer names s.labels more s.homes long h.homes;
  told = told-longer s.labels more s.marks s.told long h.told;
  parts = h.parts;
  outline = h.outline;
  nodes = h.nodes;
  same = h.same;
}

-- more pairs that are the same atom
pub kept-same : (names : Names) (s : State) (more : List Pair) (h : IsKept names s) → AreSame s.substitutions h.parts more → IsKept names (record s { same = more })
kept-same names s more h same = record {
  nested = h.nested;
  sequents = h.sequents;
  homes = h.homes;
  told = h.told;
  parts = h.parts;
  outline = h.outline;
  nodes = h.nodes;
  same = same;
}

-- the step to the label at a place
pub used-of : (P : Problem) (names : Names) (s : State) (more : List Label) (u : BranchEntry) (at : ℕ) (x : ModalArg) (l : Logic) → s.sequents.is_open ≡ true → IsKept names s → StandsOn s.sequents.branch.items u → IsLonger s.labels more → l ≡ P.setting.logic → IsLabelAt more at (label_after l (get_or s.labels u.shared.label []) x)
    → Used P names s.substitutions s.labels more s.eigens s.marks s.sequents.is_open s.sequents.branch.items (reverse s.sequents.forks.items) u at x
used-of P names s more u at x l opened h stands grown logic label = record {
  is_open = opened;
  sequents = h.sequents;
  stands = stands;
  grown = grown;
  label = subst (λ k. IsLabelAt more at (label_after k (get_or s.labels u.shared.label []) x)) logic label;
}

-- what `use_fault` tells of an entry that stands at the label of a place
abbrev pub Told : Problem → Names → List Label → List ℕ → List ℕ → ℕ → ℕ → ModalPart → Shape → ModalArg → TermArg → Option StepFault → Type 0
Told P names more E M from at modal shape y t r =
    (s : Sequent) → (e : Entry) → Tells names E M s → modal ≡ modal_of P.setting.logic e.sign e.formula → shape ≡ shape_of e.sign e.formula → get_or more from [] ≡ e.label → get_or more at [] ≡ label_after P.setting.logic e.label y
    → (c : Children) → first_fault (conditions_of_use P names s e y t) c ≡ faulty c r

pub told-fault : (P : Problem) (names : Names) (table : List (List Term)) (labels more : List Label) (E M : List ℕ) (o : Bool) (xs : List BranchEntry) (forks : List (ℕ × BranchEntry)) (u : BranchEntry) (at : ℕ) (x y : ModalArg) (t : TermArg) (r : Option StepFault) (l : Logic) (modal : ModalPart) (shape : Shape)
    → Used P names table labels more E M o xs forks u at x → y ≡ x → l ≡ P.setting.logic → modal ≡ modal_of l u.shared.sign (the_formula u.shared.formula.now) → shape ≡ shape_of u.shared.sign (the_formula u.shared.formula.now) → Told P names more E M u.shared.label at modal shape y t r
    → (c : Children) → first_fault (conditions_of_use P names (the_sequent table labels xs) (the_entry table labels u) x t) c ≡ faulty c r
told-fault P names table labels more E M o xs forks u at x y t r l modal shape g same logic is_modal is_shape told c =
    let f = the_formula u.shared.formula.now in
    let ts = get_or table u.shared.substitution [] in
    let kept = label-kept P names table labels more E M o xs forks u at x g in
    let met = told (the_sequent table labels xs) (the_entry table labels u) (told-of P names table labels more E M o xs forks u at x g)
    (is_modal ∙ ap (λ k. modal_of k u.shared.sign f) logic ∙ sym (modal-all ts 0 P.setting.logic u.shared.sign f))
    (is_shape ∙ sym (shape-all ts 0 u.shared.sign f))
    kept.1
    (g.label.1 ∙ ap (λ z. label_after P.setting.logic (get_or labels u.shared.label []) z) (sym same)) c in
    (λ i. first_fault (conditions_of_use P names (the_sequent table labels xs) (the_entry table labels u) (sym same i) t) c) ∙ met
