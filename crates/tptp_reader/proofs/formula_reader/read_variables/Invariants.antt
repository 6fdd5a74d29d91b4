use Rattle.std.proofs.Common.{◌<◌, ◌≤◌, ◌-◌, ◌∷◌, ◌++◌, Bool, ℕ, length}
use Rattle.tptp_reader.specs.Expecting.{variables}
use Rattle.tptp_reader.specs.Failing.{OnStacks, Fails, FailsAt, quantifier_parts}
use Rattle.tptp_reader.specs.Standing.{VariablesUpTo}
use Rattle.tptp_reader.proofs.formula_reader.read_variables.Given as goal

abbrev pub invariant-variables : goal.invariant-variables
invariant-variables l = record {
  read : VariablesUpTo l.text l.p l.names l.here;
  settles : (modal : Bool) (d : ℕ) → OnStacks (λ es. FailsAt modal l.text (variables d ∷ es) l.here → Fails modal l.text (quantifier_parts d ++ es) l.p.end);
  onward : l.p.end < l.here.end;
  within : l.here.end ≤ length l.text;
}

abbrev pub decreases-variables : goal.decreases-variables
decreases-variables l = length l.text - l.here.end
