use Rattle.std.proofs.Common.{◌≤◌, ◌-◌, ◌*◌, ◌+◌, ◌∷◌, [], length}
use Rattle.tptp_reader.specs.Expecting.{unit, chain_rest}
use Rattle.tptp_reader.specs.Failing.{LeadsBehind}
use Rattle.tptp_reader.specs.SourceView.{the_source}
use Rattle.tptp_reader.specs.Standing.{ChainUpTo}
use Rattle.tptp_reader.proofs.formula_reader.+read_tree.Given as goal

abbrev pub decreases-read_bracketed : goal.decreases-read_bracketed
decreases-read_bracketed l = 3 * (length l.text.now - l.p.end)

abbrev pub decreases-read_negation : goal.decreases-read_negation
decreases-read_negation l = 3 * (length l.text.now - l.p.end)

abbrev pub decreases-read_universal : goal.decreases-read_universal
decreases-read_universal l = 3 * (length l.text.now - l.p.end)

abbrev pub decreases-read_existential : goal.decreases-read_existential
decreases-read_existential l = 3 * (length l.text.now - l.p.end)

abbrev pub decreases-read_necessity : goal.decreases-read_necessity
decreases-read_necessity l = 3 * (length l.text.now - l.p.end)

abbrev pub decreases-read_possibility : goal.decreases-read_possibility
decreases-read_possibility l = 3 * (length l.text.now - l.p.end)

abbrev pub decreases-read_unit : goal.decreases-read_unit
decreases-read_unit l = 3 * (length l.text.now - l.p.end) + 1

abbrev pub decreases-read_inner : goal.decreases-read_inner
decreases-read_inner l = 3 * (length l.text.now - l.p.end) + 2

abbrev pub decreases-read_tree : goal.decreases-read_tree
decreases-read_tree l = 3 * (length l.text.now - l.p.end) + 2

abbrev pub decreases-read_binary : goal.decreases-read_binary
decreases-read_binary l = 3 * (length l.text.now - l.sign.end) + 2

abbrev pub decreases-read_chain : goal.decreases-read_chain
decreases-read_chain l = 3 * (length l.text.now - l.sign.end) + 2

abbrev pub invariant-read_chain-loop-units : goal.invariant-read_chain-loop-units
invariant-read_chain-loop-units l = record {
  read : ChainUpTo l.modal l.text l.depth l.kind (the_source l.fn.first) l.sign l.units l.here;
  settles : LeadsBehind l.modal l.text (unit l.depth ∷ chain_rest l.kind l.depth ∷ []) l.sign.end (unit l.depth ∷ chain_rest l.kind l.depth ∷ []) l.here.end;
  onward : l.sign.end ≤ l.here.end;
  within : l.here.end ≤ length l.text;
}

abbrev pub decreases-read_chain-loop-units : goal.decreases-read_chain-loop-units
decreases-read_chain-loop-units l = length l.text - l.here.end
