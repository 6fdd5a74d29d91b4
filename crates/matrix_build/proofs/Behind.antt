-- Selections behind sides.
use Rattle.std.proofs.Common.{◌≡◌, ◌≤◌, ℕ, ◌+◌, List, [], ◌∷◌, ◌++◌, length, drop, map, refl, sym, ◌∙◌, ap, ap₂, append_assoc, append-nil}
use Rattle.std.proofs.lemmas.List.{drop_all}
use Rattle.calculus.specs.declared.kind.Shape.{Shape}
use Rattle.calculus.specs.declared.kind.Shape.TheVariants.{Beta}
use Rattle.calculus.specs.declared.sign.Sign.{Sign}
use Rattle.calculus.specs.declared.sign.Sign.TheVariants.{T, F}
use Rattle.calculus.specs.declared.sign.Side.{Side}
use Rattle.calculus.specs.declared.sign.Side.TheVariants.{Left, Right}
use Rattle.calculus.specs.Clauses.{all_joined, selections}
use Rattle.calculus.specs.Kinds.{Signed, components, shape_of}
use Rattle.calculus.specs.Syntax.{Formula, atom, neg, conj, disj, imp, all, ex, box, dia}
use Rattle.matrix_build.specs.Behind.{behind, alpha_selections}

-- ---- by components

abbrev pub selections_by : Shape → List Signed → List (List Side)
selections_by k [] = []
selections_by k (a ∷ []) = selections a.formula a.sign
selections_by Beta (a ∷ b ∷ cs) = all_joined (selections a.formula a.sign) (selections b.formula b.sign)
selections_by k (a ∷ b ∷ cs) = alpha_selections (selections a.formula a.sign) (selections b.formula b.sign)

pub selections-by : (s : Sign) (f : Formula) → selections f s ≡ selections_by (shape_of s f) (components s f)
selections-by s (atom p ts) = refl
selections-by s (neg a) = refl
selections-by T (conj a b) = refl
selections-by F (conj a b) = refl
selections-by T (disj a b) = refl
selections-by F (disj a b) = refl
selections-by T (imp a b) = refl
selections-by F (imp a b) = refl
selections-by T (all a) = refl
selections-by F (all a) = refl
selections-by T (ex a) = refl
selections-by F (ex a) = refl
selections-by s (box a) = refl
selections-by s (dia a) = refl

pub ruleset selections_by_components = (selections-by)

-- ---- behind sides

pub behind-none : (xs : List (List Side)) → behind [] xs ≡ xs
behind-none [] = refl
behind-none (x ∷ xs) = ap (λ ys. x ∷ ys) (behind-none xs)

behind-append : (ds : List Side) (xs ys : List (List Side)) → behind ds (xs ++ ys) ≡ behind ds xs ++ behind ds ys
behind-append ds [] ys = refl
behind-append ds (x ∷ xs) ys = ap (λ zs. (ds ++ x) ∷ zs) (behind-append ds xs ys)

behind-side : (ds : List Side) (d : Side) (xs : List (List Side)) → behind ds (map (λ x. d ∷ x) xs) ≡ behind (ds ++ d ∷ []) xs
behind-side ds d [] = refl
behind-side ds d (x ∷ xs) = ap₂ (λ s zs. s ∷ zs) (sym (append_assoc ds (d ∷ []) x)) (behind-side ds d xs)

behind-alpha : (ds : List Side) (xs ys : List (List Side)) → behind ds (alpha_selections xs ys) ≡ behind (ds ++ Left ∷ []) xs ++ behind (ds ++ Right ∷ []) ys
behind-alpha ds xs ys = behind-append ds (map (λ x. Left ∷ x) xs) (map (λ y. Right ∷ y) ys) ∙ ap₂ ◌++◌ (behind-side ds Left xs) (behind-side ds Right ys)

behind-joined : (ds x : List Side) (ys : List (List Side)) → behind (ds ++ x) ys ≡ behind ds (behind x ys)
behind-joined ds x [] = refl
behind-joined ds x (y ∷ ys) = ap₂ (λ s zs. s ∷ zs) (append_assoc ds x y) (behind-joined ds x ys)

behind-beta : (ds : List Side) (xs ys : List (List Side)) → all_joined (behind ds xs) ys ≡ behind ds (all_joined xs ys)
behind-beta ds [] ys = refl
behind-beta ds (x ∷ xs) ys = ap₂ ◌++◌ (behind-joined ds x ys) (behind-beta ds xs ys) ∙ sym (behind-append ds (behind x ys) (all_joined xs ys))

-- ---- what is added

-- the selections of the left part, then those of the right part
pub alpha-added : (ds : List Side) (xs ys before between after : List (List Side)) → between ≡ before ++ behind (ds ++ Left ∷ []) xs → after ≡ between ++ behind (ds ++ Right ∷ []) ys → after ≡ before ++ behind ds (alpha_selections xs ys)
alpha-added ds xs ys before between after e f =
    f ∙ ap (λ zs. zs ++ behind (ds ++ Right ∷ []) ys) e
    ∙ append_assoc before (behind (ds ++ Left ∷ []) xs) (behind (ds ++ Right ∷ []) ys)
    ∙ ap (λ zs. before ++ zs) (sym (behind-alpha ds xs ys))

-- the pairs, where the loop over the first ones has ended
pub beta-added : (ds : List Side) (xs ys first second : List (List Side)) (i : ℕ) (before after : List (List Side)) → length first ≤ i → first ≡ behind ds xs → second ≡ behind [] ys → after ++ all_joined (drop i first) second ≡ before ++ all_joined first second → after ≡ before ++ behind ds (all_joined xs ys)
beta-added ds xs ys first second i before after h e f g =
    sym (append-nil after)
    ∙ ap (λ cs. after ++ all_joined cs second) (sym (drop_all i first h))
    ∙ g
    ∙ ap₂ (λ fs ss. before ++ all_joined fs ss) e (f ∙ behind-none ys)
    ∙ ap (λ zs. before ++ zs) (behind-beta ds xs ys)
