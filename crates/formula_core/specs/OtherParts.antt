-- A formula's connective over other parts, where it has so many. Private functions alone use it.
use Rattle.calculus.specs.Syntax.{Formula, neg, conj, disj, imp, all, ex, box, dia}

abbrev pub with_part : Formula → Formula → Formula
with_part (neg _) a = neg a
with_part (all _) a = all a
with_part (ex _) a = ex a
with_part (box _) a = box a
with_part (dia _) a = dia a
with_part _ a = a

abbrev pub with_parts : Formula → Formula → Formula → Formula
with_parts (conj _ _) a b = conj a b
with_parts (disj _ _) a b = disj a b
with_parts (imp _ _) a b = imp a b
with_parts _ a b = a
