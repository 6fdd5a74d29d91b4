-- The elements of the variables that are bound, which stand at the beginning of a list, the innermost quantifier's last.
use Rattle.std.proofs.Common.{◌≡◌, ℕ, ◌+◌, ◌<◌, List, [], ◌∷◌, length, take, set, reverse, ◌∙◌, ap, arith}
use Rattle.std.proofs.lemmas.List.{reverse-append, take-set-le, take_more_set}
use Rattle.calculus.proofs.FirstWrongLaws.{take-less}

pub bound-more : (env : List ℕ) (b x : ℕ) → b < length env → reverse (take (b + 1) (set env b x)) ≡ x ∷ reverse (take b env)
bound-more env b x h = ap reverse (take_more_set env b x h) ∙ reverse-append (take b env) (x ∷ [])

pub bound-back : (env new : List ℕ) (b x : ℕ) → take (b + 1) new ≡ take (b + 1) (set env b x) → take b new ≡ take b env
bound-back env new b x e = take-less b (b + 1) new (set env b x) (omega arith) e ∙ take-set-le b env b x (omega arith)
