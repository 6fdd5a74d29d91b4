-- Copies of patterns: one part more, and built cells of a name.
use Rattle.std.proofs.Common.{◌≡◌, ◌≤◌, ◌<◌, ◌+◌, ◌++◌, ◌∷◌, ◌&&◌, ◌||◌, [], Some, IsTrue, length, ℕ, zero, suc, List, Bool, true, false, map, take, drop, refl, sym, ap, ◌∙◌, subst, arith, inl, inr, get_or, append_assoc, length-append, ◌-◌, nat_le}
use Rattle.std.specs.Prelude.{slice_get}
use Rattle.std.specs.List.{list_all}
use Rattle.std.proofs.lemmas.List.{take_all}
use Rattle.std.proofs.lemmas.Bool.{cases_Bool, false≢true, and_parts, and_from}
use Rattle.plain_laws.proofs.Every.{all-append}
use Rattle.plain_laws.proofs.Places.{get-end}
use Rattle.calculus.specs.declared.sort.Sort.{Sort}
use Rattle.calculus.specs.declared.sort.Sort.TheVariants.{TermSort, MarkSort, StringSort}
use Rattle.calculus.specs.Equality.{sort_eq}
use Rattle.store_theory.specs.Patterns as tree
use Rattle.store_theory.specs.Patterns.{patterns_tree, IsCopy, AreCopies, Grows}
use Rattle.store_theory.specs.Stores.{Cell, fun_cell, eigen_cell, new_cell, Store, has_sort_at}
use Rattle.store_theory.specs.Bindings.{with_cell, NamesOver}
use Rattle.store_theory.proofs.BindingLaws.{has_sort-from, sort_eq-true}
use Rattle.store_theory.proofs.PatternLaws.{copies-more, grown-copies}
use Rattle.term_store.specs.declared.cell.Name.{Name}
use Rattle.term_store.specs.declared.cell.Name.TheVariants.{Fun, Eigen, New, Marks}
use Rattle.term_store.specs.declared.pattern.Pattern.{Pattern}
use Rattle.term_store.specs.Built.{named_cell}
use Rattle.term_store.specs.Copying.{named_pattern}
use Rattle.term_store.specs.Fitting.{fits_in, parts_fit_in, part_sort_at}
use Rattle.term_store.specs.PatternView.{the_pattern}
use Rattle.term_store.proofs.FitLaws.{grown-part_sorts, part_sorts-more, grown-fits}
use Rattle.term_store.proofs.OwnLaws.{length-grown}

-- ---- parts

pub fits-last : (s : Store) (vs : List ℕ) (b : Sort) (w : Bool) (ps : List tree.Pattern) (p : tree.Pattern) → IsTrue (parts_fit_in s vs b w (patterns_tree (ps ++ p ∷ []))) → IsTrue (parts_fit_in s vs b w (patterns_tree ps)) × IsTrue (fits_in s vs b p || (w && fits_in s vs StringSort p))
fits-last s vs b w [] p h = (refl, (and_parts (fits_in s vs b p || (w && fits_in s vs StringSort p)) true h).0)
fits-last s vs b w (q ∷ ps) p h =
    let a = and_parts (fits_in s vs b q || (w && fits_in s vs StringSort q)) (parts_fit_in s vs b w (patterns_tree (ps ++ p ∷ []))) h in
    let rest = fits-last s vs b w ps p a.1 in
    (and_from (fits_in s vs b q || (w && fits_in s vs StringSort q)) (parts_fit_in s vs b w (patterns_tree ps)) a.0 rest.0, rest.1)

pub fits-at : (s : Store) (vs : List ℕ) (b : Sort) (w : Bool) (ps : List Pattern) (i : ℕ) (p d : Pattern) → IsTrue (parts_fit_in s vs b w (patterns_tree (map the_pattern ps))) → i < length ps → p ≡ get_or ps i d → IsTrue (fits_in s vs b (the_pattern p) || (w && fits_in s vs StringSort (the_pattern p)))
fits-at s vs b w [] i p d h l e = absurd (omega arith)
fits-at s vs b w (q ∷ ps) zero p d h l e = subst (λ x. IsTrue (fits_in s vs b (the_pattern x) || (w && fits_in s vs StringSort (the_pattern x)))) (sym e) (and_parts (fits_in s vs b (the_pattern q) || (w && fits_in s vs StringSort (the_pattern q))) (parts_fit_in s vs b w (patterns_tree (map the_pattern ps))) h).0
fits-at s vs b w (q ∷ ps) (suc i) p d h l e = fits-at s vs b w ps i p d (and_parts (fits_in s vs b (the_pattern q) || (w && fits_in s vs StringSort (the_pattern q))) (parts_fit_in s vs b w (patterns_tree (map the_pattern ps))) h).1 (omega arith) e

pub some-sort : (s : Store) (vs : List ℕ) (b : Sort) (w : Bool) (p : tree.Pattern) → IsTrue (fits_in s vs b p || (w && fits_in s vs StringSort p)) → (sort : Sort) × IsTrue (fits_in s vs sort p)
some-sort s vs b w p h = elim (cases_Bool (fits_in s vs b p)) [
  | inl t ↦ (b, t)
  | inr f ↦ (StringSort, by w (rw f at h))
]
  where
    by : (w : Bool) → (w && fits_in s vs StringSort p) ≡ true → fits_in s vs StringSort p ≡ true
    by true h = h
    by false h = absurd (false≢true h)

part-sorted : (s t : Store) (vs : List ℕ) (b : Sort) (w : Bool) (p : tree.Pattern) (r : ℕ) → ((sort : Sort) → IsTrue (fits_in s vs sort p) → IsTrue (has_sort_at t sort r)) → IsTrue (fits_in s vs b p || (w && fits_in s vs StringSort p)) → IsTrue (part_sort_at t b w r)
part-sorted s t vs b w p r k h = elim (cases_Bool (fits_in s vs b p)) [
  | inl e ↦ rw (k b e) refl
  | inr f ↦ by w (rw f at h)
]
  where
    by : (w : Bool) → (w && fits_in s vs StringSort p) ≡ true → (has_sort_at t b r || (w && has_sort_at t StringSort r)) ≡ true
    by true h = rw (k StringSort h) (or_true (has_sort_at t b r))
      where
        or_true : (p : Bool) → (p || (true && true)) ≡ true
        or_true true = refl
        or_true false = refl
    by false h = absurd (false≢true h)

-- copies of the parts so far
pub record Copied (s t : Store) (vs : List ℕ) (before after : List ℕ) (ps : List tree.Pattern) : Type 0 where
  pub more : List ℕ
  pub places : after ≡ before ++ more
  pub copies : AreCopies t vs (patterns_tree ps) more
  pub sorts : (b : Sort) (w : Bool) → IsTrue (parts_fit_in s vs b w (patterns_tree ps)) → IsTrue (list_all (part_sort_at t b w) more)
  pub own : NamesOver vs (length s.cells) (λ base. list_all (nat_le base) more)

pub copied-none : (s : Store) (vs : List ℕ) (before : List ℕ) → Copied s s vs before before []
copied-none s vs before = record { more = []; places = sym (append_none before); copies = refl; sorts = λ b w h. refl; own = λ base l h. refl }
  where
    append_none : (xs : List ℕ) → xs ++ [] ≡ xs
    append_none [] = refl
    append_none (x ∷ xs) = ap (λ ys. x ∷ ys) (append_none xs)

pub copied-more : (s t u : Store) (vs : List ℕ) (before items after : List ℕ) (ps : List tree.Pattern) (p : tree.Pattern) (r : ℕ) → Copied s t vs before items ps → Grows s t → Grows t u → IsCopy u vs p r → ((sort : Sort) → IsTrue (fits_in t vs sort p) → IsTrue (has_sort_at u sort r)) → NamesOver vs (length t.cells) (λ base. nat_le base r) → after ≡ items ++ r ∷ [] → Copied s u vs before after (ps ++ p ∷ [])
copied-more s t u vs before items after ps p r w g h k m o e = record {
  more = w.more ++ r ∷ [];
  places = e ∙ ap (λ xs. xs ++ r ∷ []) w.places ∙ append_assoc before w.more (r ∷ []);
  copies = copies-more u vs ps p w.more r (grown-copies t u vs (patterns_tree ps) w.more h w.copies) k;
  sorts = λ b v f.
      let a = fits-last s vs b v ps p f in
      part_sorts-more u b v w.more r (grown-part_sorts t u b v w.more h (w.sorts b v a.0)) (part-sorted s u vs b v p r (λ sort q. m sort (grown-fits s t vs sort p g q)) a.1);
  own = λ base l f. all-append (nat_le base) w.more (r ∷ []) (w.own base l f) (and_from (nat_le base r) true (o base (let q = length-grown s t g in omega (arith, l, q)) f) refl);
}

-- the references are copies of the patterns
pub record RefsCopied (s t : Store) (vs rs : List ℕ) (ps : List tree.Pattern) : Type 0 where
  pub copies : AreCopies t vs (patterns_tree ps) rs
  pub sorts : (b : Sort) (w : Bool) → IsTrue (parts_fit_in s vs b w (patterns_tree ps)) → IsTrue (list_all (part_sort_at t b w) rs)
  pub own : NamesOver vs (length s.cells) (λ base. list_all (nat_le base) rs)

-- all items were copied into a new list
pub refs-copied : (s t : Store) (vs rs : List ℕ) (items : List Pattern) (ps : List tree.Pattern) (n : ℕ) → length items ≤ n → map the_pattern items ≡ ps → Copied s t vs [] rs (map the_pattern (take n items)) → RefsCopied s t vs rs ps
refs-copied s t vs rs items ps n l e w =
    subst (RefsCopied s t vs rs) (ap (map the_pattern) (take_all n items l) ∙ e)
    (subst (λ xs. RefsCopied s t vs xs (map the_pattern (take n items))) (sym w.places) (record { copies = w.copies; sorts = w.sorts; own = w.own }))

-- ---- built cells of a name

pub copy-named : (t : Store) (vs : List ℕ) (r : ℕ) (name : Name) (ps : tree.Patterns) (rs : List ℕ) → ¬ (name ≡ Marks) → slice_get t.cells r ≡ Some (named_cell name rs) → AreCopies t vs ps rs → IsCopy t vs (named_pattern name ps) r
copy-named t vs r (Fun f) ps rs m e h = (rs, e, h)
copy-named t vs r (Eigen p) ps rs m e h = (rs, e, h)
copy-named t vs r (New p) ps rs m e h = (rs, e, h)
copy-named t vs r Marks ps rs m e h = absurd (m refl)

pub sort-named : (s t : Store) (vs : List ℕ) (r : ℕ) (sort : Sort) (name : Name) (ps : tree.Patterns) (rs : List ℕ) → ¬ (name ≡ Marks) → slice_get t.cells r ≡ Some (named_cell name rs) → IsTrue (fits_in s vs sort (named_pattern name ps)) → IsTrue (has_sort_at t sort r)
sort-named s t vs r sort (Fun f) ps rs m e h = has_sort-from t sort r (fun_cell f.0 rs) e (sym (sort_eq-true sort TermSort (and_parts (sort_eq sort TermSort) (parts_fit_in s vs TermSort false ps) h).0))
sort-named s t vs r sort (Eigen p) ps rs m e h = has_sort-from t sort r (eigen_cell p.0 rs) e (sym (sort_eq-true sort TermSort (and_parts (sort_eq sort TermSort) (parts_fit_in s vs TermSort true ps) h).0))
sort-named s t vs r sort (New p) ps rs m e h = has_sort-from t sort r (new_cell p.0 rs) e (sym (sort_eq-true sort MarkSort (and_parts (sort_eq sort MarkSort) (parts_fit_in s vs TermSort true ps) h).0))
sort-named s t vs r sort Marks ps rs m e h = absurd (m refl)

pub drop-front : (n : ℕ) (before more after : List ℕ) → n ≡ length before → after ≡ before ++ more → drop n after ≡ more
drop-front n before more after h e = ap (drop n) e ∙ by n before h
  where
    by : (n : ℕ) (before : List ℕ) → n ≡ length before → drop n (before ++ more) ≡ more
    by zero [] h = refl
    by (suc n) [] h = absurd (omega arith)
    by zero (x ∷ before) h = absurd (omega arith)
    by (suc n) (x ∷ before) h = by n before (omega arith)

take-long : (k : ℕ) (xs : List ℕ) → length xs ≤ k → take k xs ≡ xs
take-long zero [] h = refl
take-long (suc k) [] h = refl
take-long zero (x ∷ xs) h = absurd (omega arith)
take-long (suc k) (x ∷ xs) h = ap (λ ys. x ∷ ys) (take-long k xs (omega arith))

-- what stands from a place on
pub rest-range : (n : ℕ) (before more after : List ℕ) → n ≡ length before → after ≡ before ++ more → take (length after - n) (drop n after) ≡ more
rest-range n before more after h e =
    let l : length after ≡ length before + length more = ap length e ∙ length-append before more in
    ap (take (length after - n)) (drop-front n before more after h e) ∙ take-long (length after - n) more (omega arith)

pub built-at : (t u : Store) (r : ℕ) (c : Cell) → u ≡ with_cell c t → r ≡ length t.cells → slice_get u.cells r ≡ Some c
built-at t u r c e h = ap (λ s. slice_get s.cells r) e ∙ ap (slice_get (with_cell c t).cells) h ∙ get-end t.cells c

-- what holds of each item of a view
pub all-item : {X Y : Type 0} (f : X → Y) (p : Y → Bool) (xs : List X) (i : ℕ) (x d : X) → IsTrue (list_all p (map f xs)) → i < length xs → x ≡ get_or xs i d → IsTrue (p (f x))
all-item f p [] i x d h l e = absurd (omega arith)
all-item f p (y ∷ xs) zero x d h l e = subst (λ z. IsTrue (p (f z))) (sym e) (and_parts (p (f y)) (list_all p (map f xs)) h).0
all-item f p (y ∷ xs) (suc i) x d h l e = all-item f p xs i x d (and_parts (p (f y)) (list_all p (map f xs)) h).1 (omega arith) e
