-- The instances that stand below each instance: the sizes of closings stand in a row, as their instances do.
use Rattle.std.proofs.Common.{◌≡◌, ℕ, zero, suc, ◌+◌, List, [], ◌∷◌, ◌++◌, length, length-append, take, drop, append_assoc, append-nil, refl, sym, ◌∙◌, ap, arith}
use Rattle.std.proofs.lemmas.List.{drop-drop}
use Rattle.std.proofs.Math.Seq.{drop-append_seam}
use Rattle.calculus.specs.Instances.{ClauseInstance}
use Rattle.calculus.specs.Tableaux as tree
use Rattle.conversion_theory.specs.Leading.{End, meets_path, by_closing, ends_of, ends_at}
use Rattle.sequent_convert.specs.AheadView.{end_instances, ends_instances, instance_count, sizes_below, sizes_of_all, end_sizes, ends_sizes}

-- ---- rows in two parts

pub row-first : {A : Type 0} (xs ys zs rest : List A) (row : List A) → row ≡ xs ++ rest → xs ≡ ys ++ zs → row ≡ ys ++ (zs ++ rest)
row-first xs ys zs rest row e parts = e ∙ ap (λ is. is ++ rest) parts ∙ append_assoc ys zs rest

pub row-second : {A : Type 0} (all : List A) (n count : ℕ) (xs ys zs rest : List A) → drop n all ≡ xs ++ rest → xs ≡ ys ++ zs → length ys ≡ count → drop (n + count) all ≡ zs ++ rest
row-second all n count xs ys zs rest e parts long =
    ap (λ k. drop (n + k) all) (sym long)
    ∙ sym (drop-drop (length ys) n all)
    ∙ ap (drop (length ys)) (row-first xs ys zs rest (drop n all) e parts)
    ∙ drop-append_seam ys (zs ++ rest)

-- ---- the sizes of ends

pub sizes-split : (n : ℕ) (es : List End) → ends_sizes es ≡ ends_sizes (take n es) ++ ends_sizes (drop n es)
sizes-split zero es = refl
sizes-split (suc n) [] = refl
sizes-split (suc n) (e ∷ es) = ap (λ is. end_sizes e ++ is) (sizes-split n es) ∙ sym (append_assoc (end_sizes e) (ends_sizes (take n es)) (ends_sizes (drop n es)))

pub sizes-start : (cs : tree.Closings) → ends_sizes (ends_of cs) ≡ sizes_of_all cs
sizes-start tree.no_closings = refl
sizes-start (tree.more_closings c cs) = ap (λ is. sizes_below c ++ is) (sizes-start cs)

-- those of an extension: where the place is past the closings, these are all
pub sizes-extension : (place : ℕ) (cs : tree.Closings) → ends_sizes (ends_at place cs) ≡ sizes_of_all cs
sizes-extension zero cs = sizes-start cs
sizes-extension (suc k) tree.no_closings = refl
sizes-extension (suc k) (tree.more_closings c cs) = ap (λ is. sizes_below c ++ is) (sizes-extension k cs)

-- where an extension is the only end, those of its goals stand behind its own
pub sizes-extended : (all : List ℕ) (n : ℕ) (es : List End) (rest : List ℕ) (j : ClauseInstance) (place : ℕ) (below : tree.Closings) → drop n all ≡ ends_sizes es ++ rest → es ≡ by_closing (tree.extend j place below) ∷ [] → drop (n + 1) all ≡ ends_sizes (ends_at place below) ++ rest
sizes-extended all n es rest j place below e alone =
    sym (drop-drop 1 n all)
    ∙ ap (drop 1) (e ∙ ap (λ fs. ends_sizes fs ++ rest) alone ∙ ap (λ is. (suc (length (sizes_of_all below)) ∷ is) ++ rest) (append-nil (sizes_of_all below)))
    ∙ ap (λ is. is ++ rest) (sym (sizes-extension place below))

-- ---- there are as many as instances

mutual
  below-counted : (c : tree.Closing) → length (sizes_below c) ≡ length (tree.instances_below c)
  below-counted (tree.reduce up) = refl
  below-counted (tree.extend i place below) = ap suc (all-counted below)

  all-counted : (cs : tree.Closings) → length (sizes_of_all cs) ≡ length (tree.instances_of_all cs)
  all-counted tree.no_closings = refl
  all-counted (tree.more_closings c cs) = let n = length-append (sizes_below c) (sizes_of_all cs) in let m = length-append (tree.instances_below c) (tree.instances_of_all cs) in let a = below-counted c in let b = all-counted cs in omega (arith, n, m, a, b)

end-counted : (e : End) → length (end_sizes e) ≡ length (end_instances e)
end-counted meets_path = refl
end-counted (by_closing c) = below-counted c

pub ends-counted : (es : List End) → length (ends_sizes es) ≡ instance_count es
ends-counted [] = refl
ends-counted (e ∷ es) = let n = length-append (end_sizes e) (ends_sizes es) in let m = length-append (end_instances e) (ends_instances es) in let a = end-counted e in let b = ends-counted es in omega (arith, n, m, a, b)
