-- How large the translation of a formula is.
use Rattle.std.proofs.Common.{◌≡◌, suc, ◌+◌, max, refl, ap, arith}
use Rattle.calculus.specs.Syntax.{Formula, atom, neg, conj, disj, imp, all, ex, box, dia}
use Rattle.calculus.specs.Measures.{node_count, nesting}
use Rattle.calculus.specs.Translation.{translation_of}
use Rattle.godel_transfer.specs.TranslationMeasures.{boxes_added, boxed_nesting}

-- a node more for each box
pub translation-nodes : (a : Formula) → node_count (translation_of a) ≡ node_count a + boxes_added a
translation-nodes (atom p ts) = omega arith
translation-nodes (neg a) = let e = translation-nodes a in omega arith
translation-nodes (conj a b) = let e = translation-nodes a in let f = translation-nodes b in omega arith
translation-nodes (disj a b) = let e = translation-nodes a in let f = translation-nodes b in omega arith
translation-nodes (imp a b) = let e = translation-nodes a in let f = translation-nodes b in omega arith
translation-nodes (all a) = let e = translation-nodes a in omega arith
translation-nodes (ex a) = let e = translation-nodes a in omega arith
translation-nodes (box a) = let e = translation-nodes a in omega arith
translation-nodes (dia a) = let e = translation-nodes a in omega arith

pub translation-nesting : (a : Formula) → nesting (translation_of a) ≡ boxed_nesting a
translation-nesting (atom p ts) = refl
translation-nesting (neg a) = ap (λ n. suc (suc n)) (translation-nesting a)
translation-nesting (conj a b) = λ i. suc (max (translation-nesting a i) (translation-nesting b i))
translation-nesting (disj a b) = λ i. suc (max (translation-nesting a i) (translation-nesting b i))
translation-nesting (imp a b) = λ i. suc (suc (max (translation-nesting a i) (translation-nesting b i)))
translation-nesting (all a) = ap (λ n. suc (suc n)) (translation-nesting a)
translation-nesting (ex a) = ap (λ n. suc n) (translation-nesting a)
translation-nesting (box a) = ap (λ n. suc n) (translation-nesting a)
translation-nesting (dia a) = ap (λ n. suc n) (translation-nesting a)
