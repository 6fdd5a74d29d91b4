-- The size of a formula's translation, counted on the formula.
use Rattle.std.specs.Prelude.{ℕ, suc, ◌+◌, max}
use Rattle.calculus.specs.Syntax.{Formula, atom, neg, conj, disj, imp, all, ex, box, dia}
use Rattle.calculus.specs.Measures.{terms_nesting}

-- how many boxes the translation adds
abbrev pub boxes_added : Formula → ℕ
boxes_added (atom p ts) = 1
boxes_added (neg a) = suc (boxes_added a)
boxes_added (conj a b) = boxes_added a + boxes_added b
boxes_added (disj a b) = boxes_added a + boxes_added b
boxes_added (imp a b) = suc (boxes_added a + boxes_added b)
boxes_added (all a) = suc (boxes_added a)
boxes_added (ex a) = boxes_added a
boxes_added (box a) = boxes_added a
boxes_added (dia a) = boxes_added a

-- the nesting of the translation
abbrev pub boxed_nesting : Formula → ℕ
boxed_nesting (atom p ts) = suc (suc (terms_nesting ts))
boxed_nesting (neg a) = suc (suc (boxed_nesting a))
boxed_nesting (conj a b) = suc (max (boxed_nesting a) (boxed_nesting b))
boxed_nesting (disj a b) = suc (max (boxed_nesting a) (boxed_nesting b))
boxed_nesting (imp a b) = suc (suc (max (boxed_nesting a) (boxed_nesting b)))
boxed_nesting (all a) = suc (suc (boxed_nesting a))
boxed_nesting (ex a) = suc (boxed_nesting a)
boxed_nesting (box a) = suc (boxed_nesting a)
boxed_nesting (dia a) = suc (boxed_nesting a)
