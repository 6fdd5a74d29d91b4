use Rattle.std.proofs.Common.{sym, ◌∙◌, ap, map}
use Rattle.calculus.specs.Kinds.{modal_of, shape_of}
use Rattle.calculus.specs.declared.kind.ModalPart.{ModalPart}
use Rattle.conversion_theory.specs.Branches.{Past, past_modal}
use Rattle.conversion_theory.specs.Numbering.{number_of}
use Rattle.formula_core.specs.FormulaView.{the_formula}
use Rattle.formula_core.specs.GroundLists.{the_value, the_values}
use Rattle.sequent_convert.specs.ByNumber.PastView.{made_taken, taking}
use Rattle.sequent_convert.specs.ByNumber.SpotView.{the_spot}
use Rattle.sequent_convert.proofs.ByNumber.MadeLaws.{made-same}
use Rattle.sequent_convert.proofs.make.make.Goals as goal

pub returns : goal.returns
returns c =
    let num = number_of c.args.named.now.names in
    let ls = c.args.named.now.lists in
    let l = c.args.logic in
    let s = c.args.part.sign in
    let f = the_formula c.args.part.formula.now in
    let all = the_values ls c.args.all in
    let spot = the_spot ls c.args.spot.now in
    let own = map (the_value ls) c.args.own.now in
    let kind = c.kind_of-kind.ensures.modal in
    c.in_ok-made.ensures
    ∙ ap (λ (q : Past). made_taken num (shape_of s f) c.kind_of-kind.result.modal q s f) c.in_ok-past.ensures.past
    ∙ ap (λ (m : ModalPart). made_taken num (shape_of s f) m (taking all (past_modal num l m spot own)) s f) kind
    ∙ made-same num (shape_of s f) (modal_of l s f) (past_modal num l (modal_of l s f) spot own) all s f c.requires.taken
