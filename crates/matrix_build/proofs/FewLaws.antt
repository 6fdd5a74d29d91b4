-- What has numbers is bounded by the positions that a walk has passed, and these by the size of the formula.
use Rattle.std.proofs.Common.{◌≡◌, ℕ, zero, suc, ◌+◌, ◌<◌, ◌≤◌, List, [], ◌∷◌, length, map, get_or, sym, ap, subst, arith}
use Rattle.std.specs.List.{AllByRecursion}
use Rattle.calculus.specs.Positions.{size}
use Rattle.calculus.specs.Syntax.{Formula}
use Rattle.matrix_build.specs.MatrixView.{HasFewLiterals, the_clause}
use Rattle.matrix_build.specs.Parts.{BuiltPart, IsFewBefore, numbered}
use Rattle.matrix_build.specs.Sizes.{sizes_of}
use Rattle.matrix_build.specs.declared.clause.Clause.{Clause}
use Rattle.matrix_build.proofs.SizeTable.{length-sizes_of}

-- ---- a walk

-- the whole formula, of whose part the other has the same
pub few-whole : (zs : List ℕ) (f : Formula) (b d : BuiltPart) → length zs ≤ 4000000 → zs ≡ sizes_of f → d ≡ b → IsFewBefore (0 + size f) b → numbered d ≤ 8000000
few-whole zs f b d l e p k =
    let w : length zs ≡ length (sizes_of f) = ap length e in
    let n : numbered b ≤ 8000000 = omega (arith, l, w, length-sizes_of f, k) in
    subst (λ x. numbered x ≤ 8000000) (sym p) n

-- ---- clauses

pub few-item : (cs : List Clause) (k : ℕ) (c d : Clause) → k < length cs → c ≡ get_or cs k d → AllByRecursion HasFewLiterals (map the_clause cs) → HasFewLiterals (the_clause c)
few-item [] k c d h e g = absurd (omega arith)
few-item (x ∷ xs) zero c d h e g = subst (λ y. HasFewLiterals (the_clause y)) (sym e) g.0
few-item (x ∷ xs) (suc k) c d h e g = few-item xs k c d (omega arith) e g.1
