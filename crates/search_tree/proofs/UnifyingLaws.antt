-- The loop that unifies two lists of terms pair by pair.
use Rattle.std.proofs.Common.{◌≡◌, ◌+◌, ◌<◌, ℕ, suc, List, [], ◌∷◌, drop, length, map, IsTrue, refl, sym, ◌∙◌, ap, subst, Some, slice_get, arith, nat_le, leb-true}
use Rattle.std.specs.List.{list_all}
use Rattle.std.proofs.lemmas.List.{length-map}
use Rattle.plain_laws.proofs.Every.{all-at}
use Rattle.plain_laws.proofs.Places.{drop-there}
use Rattle.calculus.specs.declared.sort.Sort.TheVariants.{TermSort}
use Rattle.calculus.specs.Ground.{GroundTerms, no_g_terms, more_g_terms}
use Rattle.store_theory.specs.Bindings.{AreApart, BindsOnly, BindsWithin, KeepsMarks, NamesFrom, Unifies}
use Rattle.store_theory.specs.Stores.{Store, Solution, has_sort_at}
use Rattle.store_theory.proofs.BindingLaws.{KeepsMarks-both, KeepsMarks-same, within-sort}
use Rattle.term_store.specs.RefView.{the_place}
use Rattle.term_store.specs.declared.cell.Ref.{Ref}
use Rattle.term_unify.proofs.PairLaws.{BindsOnly-both, BindsOnly-same}
use Rattle.search_theory.specs.States.{terms_by}
use Rattle.search_theory.specs.Steps.{AreUnified, Clash, IsUnified}
use Rattle.search_theory.proofs.ClassicalSteps.{terms-binds}
use Rattle.search_theory.proofs.UnifyLaws.{clash-first, clash-later, unified-more}
use Rattle.search_theory.proofs.WithinLaws.{names-within}

-- the pairs before the place i are unified
pub record UnifiedTo (old cur : Store) (xs ys : List ℕ) (i : ℕ) : Type 0 where
  pub rest : (new : Store) → AreUnified cur new (drop i xs) (drop i ys) → AreUnified old new xs ys
  pub apart : Clash cur (drop i xs) (drop i ys) → Clash old xs ys
  pub binds : BindsOnly old cur
  pub marks : KeepsMarks old cur
  pub names : (base : ℕ) → NamesFrom base old → IsTrue (list_all (nat_le base) xs) → IsTrue (list_all (nat_le base) ys) → NamesFrom base cur

pub unified-start : (s : Store) (xs ys : List ℕ) → UnifiedTo s s xs ys 0
unified-start s xs ys = record { rest = λ new h. h; apart = λ h. h; binds = BindsOnly-same s; marks = KeepsMarks-same s; names = λ base h l r. h }

one : (s t : Store) (a b : ℕ) → Unifies a b s t → BindsOnly s t → IsUnified s t a b
one s t a b u binds = record { size = binds.same_length; back = λ σ h. (u.0 σ).0 h; forth = λ σ h e. (u.0 σ).1 h e }

-- the cells of a copy name one another alone, also where a pair was bound in part or could not be
pub names-after : (old mid new : Store) (xs ys : List ℕ) (i a b : ℕ) → UnifiedTo old mid xs ys i → slice_get xs i ≡ Some a → slice_get ys i ≡ Some b → BindsOnly mid new → BindsWithin a b mid new → (base : ℕ) → NamesFrom base old → IsTrue (list_all (nat_le base) xs) → IsTrue (list_all (nat_le base) ys) → NamesFrom base new
names-after old mid new xs ys i a b h ea eb binds within base n l r = names-within base a b mid new binds within (h.names base n l r) (leb-true base a (all-at (nat_le base) xs i a l ea)) (leb-true base b (all-at (nat_le base) ys i b r eb))

-- the pair at the place is unified
pub unified-next : (old mid new : Store) (xs ys : List ℕ) (i a b : ℕ) → UnifiedTo old mid xs ys i → slice_get xs i ≡ Some a → slice_get ys i ≡ Some b → IsTrue (list_all (has_sort_at old TermSort) xs) → IsTrue (list_all (has_sort_at old TermSort) ys) → Unifies a b mid new → BindsOnly mid new → BindsWithin a b mid new → KeepsMarks mid new → UnifiedTo old new xs ys (i + 1)
unified-next old mid new xs ys i a b h ea eb tx ty u binds within marks = record {
  rest = λ end k. h.rest end (subst (λ us. AreUnified mid end us (drop i ys)) (sym (drop-there xs i a ea)) (subst (λ vs. AreUnified mid end (a ∷ drop (suc i) xs) vs) (sym (drop-there ys i b eb)) (unified-more mid new end a b (drop (suc i) xs) (drop (suc i) ys) sa sb (one mid new a b u binds) (subst (λ n. AreUnified new end (drop n xs) (drop n ys)) more k))));
  apart = λ k. h.apart (subst (λ us. Clash mid us (drop i ys)) (sym (drop-there xs i a ea)) (subst (λ vs. Clash mid (a ∷ drop (suc i) xs) vs) (sym (drop-there ys i b eb)) (clash-later mid new a b (drop (suc i) xs) (drop (suc i) ys) sa sb (one mid new a b u binds) (subst (λ n. Clash new (drop n xs) (drop n ys)) more k))));
  binds = BindsOnly-both old mid new h.binds binds;
  marks = KeepsMarks-both old mid new h.marks marks;
  names = names-after old mid new xs ys i a b h ea eb binds within;
}
  where
    more : i + 1 ≡ suc i
    more = omega arith

    sa : IsTrue (has_sort_at mid TermSort a)
    sa = terms-binds old mid h.binds a (all-at (has_sort_at old TermSort) xs i a tx ea)

    sb : IsTrue (has_sort_at mid TermSort b)
    sb = terms-binds old mid h.binds b (all-at (has_sort_at old TermSort) ys i b ty eb)

-- the pair at the place clashes
pub unified-clash : (old mid : Store) (xs ys : List ℕ) (i a b : ℕ) → UnifiedTo old mid xs ys i → slice_get xs i ≡ Some a → slice_get ys i ≡ Some b → IsTrue (list_all (has_sort_at old TermSort) xs) → IsTrue (list_all (has_sort_at old TermSort) ys) → AreApart a b mid → Clash old xs ys
unified-clash old mid xs ys i a b h ea eb tx ty apart = h.apart (subst (λ us. Clash mid us (drop i ys)) (sym (drop-there xs i a ea)) (subst (λ vs. Clash mid (a ∷ drop (suc i) xs) vs) (sym (drop-there ys i b eb)) (clash-first mid a b (drop (suc i) xs) (drop (suc i) ys) (terms-binds old mid h.binds a (all-at (has_sort_at old TermSort) xs i a tx ea)) (terms-binds old mid h.binds b (all-at (has_sort_at old TermSort) ys i b ty eb)) apart)))

count : GroundTerms → ℕ
count no_g_terms = 0
count (more_g_terms t ts) = suc (count ts)

counted : (σ : Solution) (xs : List ℕ) → count (terms_by σ xs) ≡ length xs
unfolding count
counted σ [] = refl
counted σ (x ∷ xs) = ap suc (counted σ xs)

-- lists of different lengths clash
pub lengths-clash : (s : Store) (xs ys : List ℕ) → ¬ (length xs ≡ length ys) → Clash s xs ys
lengths-clash s xs ys n σ h e = n (sym (counted σ xs) ∙ ap count e ∙ counted σ ys)

-- the terms at the place are cells of the store
pub term-below-left : (old cur : Store) (xs ys : List ℕ) (i a : ℕ) → UnifiedTo old cur xs ys i → IsTrue (list_all (has_sort_at old TermSort) xs) → slice_get xs i ≡ Some a → a < length cur.cells
term-below-left old cur xs ys i a h t e = let l = within-sort old TermSort a (all-at (has_sort_at old TermSort) xs i a t e) in let s = h.binds.same_length in omega (arith, l, s)

pub term-below-right : (old cur : Store) (xs ys : List ℕ) (i b : ℕ) → UnifiedTo old cur xs ys i → IsTrue (list_all (has_sort_at old TermSort) ys) → slice_get ys i ≡ Some b → b < length cur.cells
term-below-right old cur xs ys i b h t e = let l = within-sort old TermSort b (all-at (has_sort_at old TermSort) ys i b t e) in let s = h.binds.same_length in omega (arith, l, s)

-- lists whose lengths differ have views whose lengths differ
pub mapped-differ : (xs ys : List Ref) → ¬ (length xs ≡ length ys) → ¬ (length (map the_place xs) ≡ length (map the_place ys))
mapped-differ xs ys n e = n (sym (length-map xs the_place) ∙ e ∙ length-map ys the_place)
