-- What Goedel's translation makes of a formula's connective, over parts that are translated. Private functions alone use it.
use Rattle.calculus.specs.Syntax.{Formula, neg, conj, disj, imp, all, ex, box, dia}

abbrev pub over_part : Formula → Formula → Formula
over_part (neg _) a = box (neg a)
over_part (all _) a = box (all a)
over_part (ex _) a = ex a
over_part (box _) a = box a
over_part (dia _) a = dia a
over_part _ a = a

abbrev pub over_parts : Formula → Formula → Formula → Formula
over_parts (conj _ _) a b = conj a b
over_parts (disj _ _) a b = disj a b
over_parts (imp _ _) a b = box (imp a b)
over_parts _ a b = a
