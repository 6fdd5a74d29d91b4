-- The walk from the root, whose sign is told by an equation.
use Rattle.std.proofs.Common.{◌≡◌, List, [], true}
use Rattle.std.specs.List.{list_all}
use Rattle.calculus.specs.declared.sign.Sign.{Sign}
use Rattle.calculus.specs.declared.sign.Sign.TheVariants.{F}
use Rattle.calculus.specs.declared.sign.Side.{Side}
use Rattle.calculus.specs.declared.setting.Logic.{Logic}
use Rattle.calculus.specs.ComputedInstances.{part_of}
use Rattle.calculus.specs.Ground.{GroundLiteral, GroundMark, GroundTerm, Value}
use Rattle.calculus.specs.Instances.{ClauseInstance}
use Rattle.calculus.specs.Skolem.{is_admitted_value}
use Rattle.calculus.specs.Syntax.{Formula, Problem}
use Rattle.tableau_core.specs.Walks.{finished, steps_if_allowed, left}
use Rattle.tableau_core.proofs.WalkLaws.{instance-by}

pub instance-from : (P : Problem) (i : ClauseInstance) (l : Logic) (f : Formula) (s : Sign) (w : List GroundMark) (t : List Value) (e : List GroundTerm) (ss : List Side) (vs : List Value) (ls : List GroundLiteral) → list_all (is_admitted_value P) i.values ≡ true → l ≡ P.setting.logic → f ≡ P.formula → s ≡ F → w ≡ [] → t ≡ [] → e ≡ [] → ss ≡ i.selection → vs ≡ i.values → ls ≡ i.literals → finished (left P (part_of l f s) (record { position = 0; label = w; taken = t; env = e }) (record { supply = record { sides = ss; values = vs }; literals = ls; steps = 0 })) ≡ steps_if_allowed P i
instance-from P i l f s w t e ss vs ls h a b o c d g j k m = rw o (instance-by P i l f w t e ss vs ls h a b c d g j k m)
