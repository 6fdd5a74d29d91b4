use Rattle.std.proofs.Common.{Global, Vec, ◌∙◌, ap, refl}
use Rattle.formula_core.specs.declared.ground.GroundMark.{GroundMark}
use Rattle.formula_core.specs.declared.ground.GroundTerm.{GroundTerm}
use Rattle.sequent_convert.proofs.ByNumber.SpotLaws.{root-by}
use Rattle.sequent_convert.proofs.spot.Spot.root.Goals as goal

pub returns-clause-spot : goal.returns-clause-spot
returns-clause-spot c = λ ls most. root-by ls c.in_ok-label.label.value.items _ c.in_ok-env.env.value.items (ap (λ (v : Vec GroundMark Global). v.items) c.in_ok-label.ensures.ok ∙ c.new.ensures.items) refl (ap (λ (v : Vec GroundTerm Global). v.items) c.in_ok-env.ensures.ok ∙ c.new-3.ensures.items) most
