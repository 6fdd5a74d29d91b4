use Rattle.std.proofs.Common.{◌≡◌, ◌+◌, ◌^◌, ◌≤◌, map, drop}
use Rattle.calculus.specs.Derivations.{Names}
use Rattle.calculus.specs.Judgement.{verdict_from}
use Rattle.calculus.specs.Versions.{stated, stated_step}
use Rattle.derivation_text.specs.NumbersView.{the_numbered_step}
use Rattle.derivation_check.specs.ArgumentView.{ArePlaces}
use Rattle.derivation_check.specs.NamesTold.{AreNamed}
use Rattle.derivation_check.specs.TermsPut.{ArePut}
use Rattle.derivation_check.specs.StateView.{IsKept, the_sequents}
use Rattle.derivation_check.proofs.steps.judge_steps.Given as goal

abbrev pub invariant-loop-step : goal.invariant-loop-step
invariant-loop-step l = record {
  bound : l.line ≤ 2 ^ 62 + l.step-index;
  some : (names : Names) × IsKept names l.state;
  kept : (names : Names) → IsKept names l.initial.state → IsKept names l.state;
  places : ArePlaces l.d.labels l.state.labels l.places;
  named : AreNamed l.state.homes l.d.terms l.state.named.items;
  put : ArePut l.state.substitutions l.d.terms l.put;
  judged : (names : Names) → IsKept names l.initial.state
      → verdict_from l.problem names (the_sequents l.state) (map (stated_step l.d.labels l.d.terms) (map the_numbered_step (drop l.step-index l.step-items))) l.line
      ≡ verdict_from l.problem names (the_sequents l.initial.state) (stated l.d).steps l.initial.line;
}
