-- Matching patterns against cells: what cells and patterns of one name come to, and one pattern after the other.
use Rattle.std.proofs.Common.{◌≡◌, ◌⊎◌, ◌+◌, ◌<◌, ◌∷◌, [], ℕ, zero, suc, List, length, Bool, Some, slice_get, IsTrue, refl, sym, ◌∙◌, ap, ap₂, arith, inl, inr, lt-ltb}
use Rattle.std.specs.List.{list_all}
use Rattle.std.proofs.lemmas.Bool.{false≢true, and_parts}
use Rattle.plain_laws.proofs.Every.{all-weaken}
use Rattle.plain_laws.proofs.Options.{same-some}
use Rattle.calculus.specs.declared.sort.Sort.TheVariants.{TermSort}
use Rattle.calculus.specs.Ground.{Value, more_g_terms, more_values, marks_list, marks_tree, values_tree}
use Rattle.calculus.specs.Lists.{marks_list-marks_tree}
use Rattle.store_theory.specs.Bindings.{AddsBuilt, Unifies, AreApart}
use Rattle.store_theory.specs.Patterns.{Pattern, patterns_tree, IsCopy}
use Rattle.store_theory.specs.Stores.{Store, has_value_sort_at, CellValue, a_term, a_mark, a_string, has_sort, Solution, Solves, EndsAt, names_below}
use Rattle.store_theory.specs.Templates.{as_term, as_value, pattern_value, pattern_terms, pattern_values}
use Rattle.store_theory.proofs.SolutionLaws.{ends-same}
use Rattle.search_theory.specs.States.{Agree, terms_by, values_by}
use Rattle.search_theory.proofs.BuildingLaws.{AreValueCells, adds-back, adds-forth, adds-longer, agree-both, built-value, is_value_cell, solved-valued, value-cell}
use Rattle.search_theory.proofs.ImageLaws.{values-agree}
use Rattle.search_theory.proofs.UnifyLaws.{term-same}
use Rattle.term_unify.specs.Matching.{HoldsNowhere, MatchTo, Matches, Narrows}

-- ---- one pattern after the other

-- values of patterns stay where the values of the variables and of the cell do
pub matches-agree : (n : ℕ) (σ τ : Solution) (vs : List ℕ) (r : ℕ) (p : Pattern) → Agree n σ τ → IsTrue (names_below n vs) → r < n → Matches vs r p σ → Matches vs r p τ
matches-agree n σ τ vs r p a b l h = sym (a r (lt-ltb r n l)) ∙ h ∙ ap (λ us. pattern_value us p) (values-agree n σ τ a vs b)

pub narrows-none : (s : Store) (vs rs : List ℕ) (ps : List Pattern) → Narrows (MatchTo vs rs ps 0) s s
narrows-none s vs rs ps = record {
  longer = omega arith;
  back = λ σ h. (h, λ j r p l e f. absurd (omega (arith, l)));
  forth = λ σ h q. (σ, h, λ r l. refl);
}

below-next : (j n : ℕ) → j < n + 1 → (j < n) ⊎ (j ≡ n)
below-next zero zero l = inr refl
below-next zero (suc n) l = inl (omega arith)
below-next (suc j) zero l = absurd (omega (arith, l))
below-next (suc j) (suc n) l = elim (below-next j n (omega (arith, l))) [ inl m ↦ inl (omega (arith, m)) | inr m ↦ inr (ap suc m) ]

-- one more is matched
pub next-matches : (vs rs : List ℕ) (ps : List Pattern) (n r : ℕ) (p : Pattern) (σ : Solution) → slice_get rs n ≡ Some r → slice_get ps n ≡ Some p → MatchTo vs rs ps n σ → Matches vs r p σ → MatchTo vs rs ps (n + 1) σ
next-matches vs rs ps n r p σ er ep first next j q u m e f = elim (below-next j n m) [
  | inl k ↦ first j q u k e f
  | inr k ↦
      let sq : r ≡ q = same-some (slice_get rs n) r q er (sym (ap (slice_get rs) k) ∙ e) in
      let su : p ≡ u = same-some (slice_get ps n) p u ep (sym (ap (slice_get ps) k) ∙ f) in
      ap σ (sym sq) ∙ next ∙ ap (pattern_value (values_by σ vs)) su
]

pub narrows-more : (old mid new : Store) (vs rs : List ℕ) (ps : List Pattern) (n r : ℕ) (p : Pattern) → IsTrue (names_below (length old.cells) vs) → r < length old.cells → slice_get rs n ≡ Some r → slice_get ps n ≡ Some p → Narrows (MatchTo vs rs ps n) old mid → Narrows (Matches vs r p) mid new → Narrows (MatchTo vs rs ps (n + 1)) old new
narrows-more old mid new vs rs ps n r p b l er ep first second = record {
  longer = let x = first.longer in let y = second.longer in omega (arith, x, y);
  back = λ σ h. let y = second.back σ h in let x = first.back σ y.0 in (x.0, next-matches vs rs ps n r p σ er ep x.1 y.1);
  forth = λ σ h q.
      let (τ, ht, at) = first.forth σ h (λ j k u m e f. q j k u (omega (arith, m)) e f) in
      let here = matches-agree (length old.cells) σ τ vs r p at b l (q n r p (omega arith) er ep) in
      let (ρ, hr, ar) = second.forth τ ht here in
      (ρ, hr, agree-both (length old.cells) (length mid.cells) σ τ ρ first.longer at ar);
}

-- where no solution gives the next cell the pattern's value, none gives all of them theirs
pub nowhere-later : (old mid : Store) (vs rs : List ℕ) (ps : List Pattern) (n m r : ℕ) (p : Pattern) → IsTrue (names_below (length old.cells) vs) → r < length old.cells → slice_get rs n ≡ Some r → slice_get ps n ≡ Some p → n < m → Narrows (MatchTo vs rs ps n) old mid → HoldsNowhere (Matches vs r p) mid → HoldsNowhere (MatchTo vs rs ps m) old
nowhere-later old mid vs rs ps n m r p b l er ep k first none σ h q =
    let (τ, ht, at) = first.forth σ h (λ j i u x e f. q j i u (omega (arith, x, k)) e f) in
    none τ ht (matches-agree (length old.cells) σ τ vs r p at b l (q n r p k er ep))

-- ---- a pattern that is copied

pub value-cells : (s : Store) (σ : Solution) → Solves s σ → (vs : List ℕ) → IsTrue (list_all (has_value_sort_at s) vs) → AreValueCells σ vs
value-cells s σ h vs k = all-weaken (has_value_sort_at s) (λ r. is_value_cell (σ r)) (λ r e. value-cell (σ r) (solved-valued s σ h r e)) vs k

-- by a solution of the store with the copy
copy-found : (old mid : Store) (vs : List ℕ) (r q : ℕ) (p : Pattern) → AddsBuilt old mid → IsCopy mid vs p q → IsTrue (list_all (has_value_sort_at mid) vs) → IsTrue (names_below (length old.cells) vs) → r < length old.cells → (σ : Solution) → Solves old σ → Matches vs r p σ → (τ : Solution) × Solves mid τ × Agree (length old.cells) σ τ × (τ r ≡ τ q)
copy-found old mid vs r q p adds copy values b l σ h e =
    let (τ, ht, at) = adds-forth old mid adds σ h in
    (τ, ht, at, matches-agree (length old.cells) σ τ vs r p at b l e ∙ sym (built-value mid τ ht vs (value-cells mid τ ht vs values) p q copy))

pub narrows-copy : (old mid new : Store) (vs : List ℕ) (r q : ℕ) (p : Pattern) → AddsBuilt old mid → IsCopy mid vs p q → IsTrue (list_all (has_value_sort_at mid) vs) → IsTrue (names_below (length old.cells) vs) → r < length old.cells → Unifies r q mid new → length new.cells ≡ length mid.cells → Narrows (Matches vs r p) old new
narrows-copy old mid new vs r q p adds copy values b l u same = record {
  longer = let x = adds-longer old mid adds in omega (arith, x, same);
  back = λ σ h.
      let x = (u.0 σ).0 h in
      (adds-back old mid adds σ x.0, x.1 ∙ built-value mid σ x.0 vs (value-cells mid σ x.0 vs values) p q copy);
  forth = λ σ h e.
      let (τ, ht, at, m) = copy-found old mid vs r q p adds copy values b l σ h e in
      (τ, (u.0 τ).1 ht m, at);
}

pub nowhere-copy : (old mid : Store) (vs : List ℕ) (r q : ℕ) (p : Pattern) → AddsBuilt old mid → IsCopy mid vs p q → IsTrue (list_all (has_value_sort_at mid) vs) → IsTrue (names_below (length old.cells) vs) → r < length old.cells → AreApart r q mid → HoldsNowhere (Matches vs r p) old
nowhere-copy old mid vs r q p adds copy values b l apart σ h e =
    let (τ, ht, at, m) = copy-found old mid vs r q p adds copy values b l σ h e in
    apart τ ht m

-- ---- from the end of bindings to the cell

pub matches-end : (s : Store) (σ : Solution) (vs : List ℕ) (r x : ℕ) (p : Pattern) → Solves s σ → EndsAt s r x → (Matches vs r p σ → Matches vs x p σ) × (Matches vs x p σ → Matches vs r p σ)
matches-end s σ vs r x p h e = let q = ends-same s σ r x h e in (λ m. sym q ∙ m, λ m. q ∙ m)

-- a condition that is the same by each solution of the old store
pub narrows-same : (P Q : Solution → Type 0) (old new : Store) → ((σ : Solution) → Solves old σ → (P σ → Q σ) × (Q σ → P σ)) → Narrows P old new → Narrows Q old new
narrows-same P Q old new f h = record {
  longer = h.longer;
  back = λ σ s. let x = h.back σ s in (x.0, (f σ x.0).0 x.1);
  forth = λ σ s q. h.forth σ s ((f σ s).1 q);
}

-- ---- parts

-- all terms, or all values of variables
abbrev pub are_sorted : (CellValue → Bool) → Solution → List ℕ → Bool
are_sorted ok σ rs = list_all (λ r. ok (σ r)) rs

abbrev pub have_values : (CellValue → Bool) → List Value → List Pattern → Bool
have_values ok us ps = list_all (λ p. ok (pattern_value us p)) ps

-- cells that all have the values of the patterns, and as many
abbrev pub AllMatch : Solution → List Value → List ℕ → List Pattern → Type 0
AllMatch σ us rs ps = (length rs ≡ length ps) × ((j r : ℕ) (p : Pattern) → slice_get rs j ≡ Some r → slice_get ps j ≡ Some p → σ r ≡ pattern_value us p)

match-next : (σ : Solution) (us : List Value) (r : ℕ) (rs : List ℕ) (p : Pattern) (ps : List Pattern) → σ r ≡ pattern_value us p → AllMatch σ us rs ps → AllMatch σ us (r ∷ rs) (p ∷ ps)
match-next σ us r rs p ps h k = (ap suc k.0, at)
  where
    at : (j q : ℕ) (u : Pattern) → slice_get (r ∷ rs) j ≡ Some q → slice_get (p ∷ ps) j ≡ Some u → σ q ≡ pattern_value us u
    at zero q u e f = let x : r ≡ q = cc e in let y : p ≡ u = cc f in ap σ (sym x) ∙ h ∙ ap (pattern_value us) y
    at (suc j) q u e f = k.1 j q u e f

pub terms-match : (σ : Solution) (us : List Value) (rs : List ℕ) (ps : List Pattern) → IsTrue (are_sorted (has_sort TermSort) σ rs) → IsTrue (have_values (has_sort TermSort) us ps) → terms_by σ rs ≡ pattern_terms us (patterns_tree ps) → AllMatch σ us rs ps
terms-match σ us [] [] a b e = (refl, λ j r p f g. cc f)
terms-match σ us [] (p ∷ ps) a b e = cc e
terms-match σ us (r ∷ rs) [] a b e = cc e
terms-match σ us (r ∷ rs) (p ∷ ps) a b e =
    let x = and_parts (has_sort TermSort (σ r)) (are_sorted (has_sort TermSort) σ rs) a in
    let y = and_parts (has_sort TermSort (pattern_value us p)) (have_values (has_sort TermSort) us ps) b in
    let one : as_term (σ r) ≡ as_term (pattern_value us p) = cc e in
    let more : terms_by σ rs ≡ pattern_terms us (patterns_tree ps) = cc e in
    match-next σ us r rs p ps (term-same (σ r) (pattern_value us p) x.0 y.0 one) (terms-match σ us rs ps x.1 y.1 more)

pub match-terms : (σ : Solution) (us : List Value) (rs : List ℕ) (ps : List Pattern) → AllMatch σ us rs ps → terms_by σ rs ≡ pattern_terms us (patterns_tree ps)
match-terms σ us [] [] h = refl
match-terms σ us [] (p ∷ ps) h = absurd (let e = h.0 in omega (arith, e))
match-terms σ us (r ∷ rs) [] h = absurd (let e = h.0 in omega (arith, e))
match-terms σ us (r ∷ rs) (p ∷ ps) h = ap₂ (λ v ts. more_g_terms (as_term v) ts) (h.1 0 r p refl refl) (match-terms σ us rs ps (let e = h.0 in omega (arith, e), λ j. h.1 (suc j)))

value-same : (u v : CellValue) → IsTrue (is_value_cell u) → IsTrue (is_value_cell v) → as_value u ≡ as_value v → u ≡ v
value-same (a_term x) (a_term y) f g e = ap a_term (let q : x ≡ y = cc e in q)
value-same (a_string x) (a_string y) f g e = ap a_string (let q : marks_tree x ≡ marks_tree y = cc e in sym (marks_list-marks_tree x) ∙ ap marks_list q ∙ marks_list-marks_tree y)
value-same (a_term x) (a_string y) f g e = cc e
value-same (a_string x) (a_term y) f g e = cc e
value-same (a_mark m) v f g e = absurd (false≢true f)
value-same (a_term x) (a_mark m) f g e = absurd (false≢true g)
value-same (a_string x) (a_mark m) f g e = absurd (false≢true g)

pub values-match : (σ : Solution) (us : List Value) (rs : List ℕ) (ps : List Pattern) → IsTrue (are_sorted is_value_cell σ rs) → IsTrue (have_values is_value_cell us ps) → values_tree (values_by σ rs) ≡ pattern_values us (patterns_tree ps) → AllMatch σ us rs ps
values-match σ us [] [] a b e = (refl, λ j r p f g. cc f)
values-match σ us [] (p ∷ ps) a b e = cc e
values-match σ us (r ∷ rs) [] a b e = cc e
values-match σ us (r ∷ rs) (p ∷ ps) a b e =
    let x = and_parts (is_value_cell (σ r)) (are_sorted is_value_cell σ rs) a in
    let y = and_parts (is_value_cell (pattern_value us p)) (have_values is_value_cell us ps) b in
    let one : as_value (σ r) ≡ as_value (pattern_value us p) = cc e in
    let more : values_tree (values_by σ rs) ≡ pattern_values us (patterns_tree ps) = cc e in
    match-next σ us r rs p ps (value-same (σ r) (pattern_value us p) x.0 y.0 one) (values-match σ us rs ps x.1 y.1 more)

pub match-values : (σ : Solution) (us : List Value) (rs : List ℕ) (ps : List Pattern) → AllMatch σ us rs ps → values_tree (values_by σ rs) ≡ pattern_values us (patterns_tree ps)
match-values σ us [] [] h = refl
match-values σ us [] (p ∷ ps) h = absurd (let e = h.0 in omega (arith, e))
match-values σ us (r ∷ rs) [] h = absurd (let e = h.0 in omega (arith, e))
match-values σ us (r ∷ rs) (p ∷ ps) h = ap₂ (λ v ts. more_values (as_value v) ts) (h.1 0 r p refl refl) (match-values σ us rs ps (let e = h.0 in omega (arith, e), λ j. h.1 (suc j)))
