-- A built cell and a pattern with parts: they are equal exactly where their names and their parts are.
use Rattle.std.proofs.Common.{◌≡◌, ◌==◌, ◌&&◌, ◌||◌, ◌∷◌, [], ℕ, List, length, true, false, Option, None, Some, slice_get, IsTrue, refl, sym, ◌∙◌, ap, ap₂, subst, eq-eqb, eqb-true}
use Rattle.std.specs.List.{list_all}
use Rattle.std.specs.Option.{option_map_or}
use Rattle.std.proofs.lemmas.Bool.{false≢true, and_parts}
use Rattle.plain_laws.proofs.Every.{all-weaken}
use Rattle.plain_laws.proofs.Places.{get-within}
use Rattle.plain_laws.proofs.Booleans.{or-false_true}
use Rattle.calculus.specs.declared.sort.Sort.{Sort}
use Rattle.calculus.specs.declared.sort.Sort.TheVariants.{TermSort, MarkSort, StringSort}
use Rattle.calculus.specs.Equality.{sort_eq}
use Rattle.calculus.specs.Ground.{g_fun, g_eigen, g_new_mark, values_tree}
use Rattle.store_theory.specs.Bindings.{is_variable}
use Rattle.store_theory.specs.Patterns.{Pattern, Patterns, p_var, p_fun, p_eigen, p_new, patterns_tree}
use Rattle.store_theory.specs.Stores.{Cell, variable, fun_cell, eigen_cell, new_cell, string_cell, Store, is_store, parts_of, has_sort_at, has_value_sort_at, a_term, a_mark, a_string, has_sort, Solution, values_at, Solves}
use Rattle.store_theory.specs.Templates.{pattern_terms, pattern_value, pattern_values}
use Rattle.store_theory.proofs.BindingLaws.{kept, sort_eq-true}
use Rattle.search_theory.specs.States.{terms_by, values_by}
use Rattle.search_theory.proofs.BuildingLaws.{built-value, is_value_cell, solved-sorted, solved-valued, value-cell}
use Rattle.search_theory.proofs.SpareLaws.{or-both, terms-there, values-there}
use Rattle.term_store.specs.Fitting.{fits_in, parts_fit_in}
use Rattle.term_store.specs.Shown.{head_of}
use Rattle.term_unify.specs.Matching.{HasParts, MatchTo, Matches, has_head}
use Rattle.term_unify.proofs.MatchLaws.{AllMatch, are_sorted, have_values, match-terms, match-values, terms-match, value-cells, values-match}

-- ---- sorts of values

-- the value of a pattern has its sort
pub pattern-sorted : (s : Store) (σ : Solution) → Solves s σ → (vs : List ℕ) → IsTrue (list_all (has_value_sort_at s) vs) → (sort : Sort) (p : Pattern) → IsTrue (fits_in s vs sort p) → IsTrue (has_sort sort (pattern_value (values_by σ vs) p))
pattern-sorted s σ h vs k sort (p_var n) f = by (slice_get vs n) refl f
  where
    by : (o : Option ℕ) → slice_get vs n ≡ o → IsTrue (option_map_or (has_sort_at s sort) o false) → IsTrue (has_sort sort (pattern_value (values_by σ vs) (p_var n)))
    by None e g = absurd (false≢true g)
    by (Some r) e g = subst (λ v. IsTrue (has_sort sort v)) (built-value s σ h vs (value-cells s σ h vs k) (p_var n) r e) (solved-sorted s σ h sort r g)
pattern-sorted s σ h vs k sort (p_fun g ps) f = let e = sort_eq-true sort TermSort (and_parts (sort_eq sort TermSort) (parts_fit_in s vs TermSort false ps) f).0 in rw e refl
pattern-sorted s σ h vs k sort (p_eigen g ps) f = let e = sort_eq-true sort TermSort (and_parts (sort_eq sort TermSort) (parts_fit_in s vs TermSort true ps) f).0 in rw e refl
pattern-sorted s σ h vs k sort (p_new g ps) f = let e = sort_eq-true sort MarkSort (and_parts (sort_eq sort MarkSort) (parts_fit_in s vs TermSort true ps) f).0 in rw e refl

pub terms-valued : (s : Store) (σ : Solution) → Solves s σ → (vs : List ℕ) → IsTrue (list_all (has_value_sort_at s) vs) → (ps : List Pattern) → IsTrue (parts_fit_in s vs TermSort false (patterns_tree ps)) → IsTrue (have_values (has_sort TermSort) (values_by σ vs) ps)
terms-valued s σ h vs k [] f = refl
terms-valued s σ h vs k (p ∷ ps) f =
    let x = and_parts (fits_in s vs TermSort p || (false && fits_in s vs StringSort p)) (parts_fit_in s vs TermSort false (patterns_tree ps)) f in
    let one = pattern-sorted s σ h vs k TermSort p (or-false_true (fits_in s vs TermSort p) x.0) in
    rw one (terms-valued s σ h vs k ps x.1)

pub values-valued : (s : Store) (σ : Solution) → Solves s σ → (vs : List ℕ) → IsTrue (list_all (has_value_sort_at s) vs) → (ps : List Pattern) → IsTrue (parts_fit_in s vs TermSort true (patterns_tree ps)) → IsTrue (have_values is_value_cell (values_by σ vs) ps)
values-valued s σ h vs k [] f = refl
values-valued s σ h vs k (p ∷ ps) f =
    let x = and_parts (fits_in s vs TermSort p || (true && fits_in s vs StringSort p)) (parts_fit_in s vs TermSort true (patterns_tree ps)) f in
    let v = pattern_value (values_by σ vs) p in
    let one = value-cell v (or-both (fits_in s vs TermSort p) (fits_in s vs StringSort p) (has_sort TermSort v) (has_sort StringSort v) (pattern-sorted s σ h vs k TermSort p) (pattern-sorted s σ h vs k StringSort p) x.0) in
    rw one (values-valued s σ h vs k ps x.1)

pub terms-cells : (s : Store) (σ : Solution) → Solves s σ → (rs : List ℕ) → IsTrue (list_all (has_sort_at s TermSort) rs) → IsTrue (are_sorted (has_sort TermSort) σ rs)
terms-cells s σ h rs f = all-weaken (has_sort_at s TermSort) (λ r. has_sort TermSort (σ r)) (λ r k. solved-sorted s σ h TermSort r k) rs f

-- ---- values of built cells

fun-value : (s : Store) (σ : Solution) → Solves s σ → (x f : ℕ) (rs : List ℕ) → slice_get s.cells x ≡ Some (fun_cell f rs) → IsTrue (list_all (has_sort_at s TermSort) rs) → σ x ≡ a_term (g_fun f (terms_by σ rs))
fun-value s σ h x f rs e k =
    let (ts, at, is) = h x (fun_cell f rs) e in
    let q : ts ≡ terms_by σ rs = let z : Some ts ≡ Some (terms_by σ rs) = sym at ∙ terms-there σ rs (terms-cells s σ h rs k) in cc z in
    is ∙ ap (λ us. a_term (g_fun f us)) q

listed : (s : Store) (σ : Solution) → Solves s σ → (rs : List ℕ) → IsTrue (list_all (has_value_sort_at s) rs) → values_at σ rs ≡ Some (values_tree (values_by σ rs))
listed s σ h rs k = values-there σ rs (all-weaken (has_value_sort_at s) (λ r. has_sort TermSort (σ r) || has_sort StringSort (σ r)) (λ r e. solved-valued s σ h r e) rs k)

eigen-value : (s : Store) (σ : Solution) → Solves s σ → (x f : ℕ) (rs : List ℕ) → slice_get s.cells x ≡ Some (eigen_cell f rs) → IsTrue (list_all (has_value_sort_at s) rs) → σ x ≡ a_term (g_eigen f (values_tree (values_by σ rs)))
eigen-value s σ h x f rs e k =
    let (us, at, is) = h x (eigen_cell f rs) e in
    let q : us ≡ values_tree (values_by σ rs) = let z : Some us ≡ Some (values_tree (values_by σ rs)) = sym at ∙ listed s σ h rs k in cc z in
    is ∙ ap (λ zs. a_term (g_eigen f zs)) q

new-value : (s : Store) (σ : Solution) → Solves s σ → (x f : ℕ) (rs : List ℕ) → slice_get s.cells x ≡ Some (new_cell f rs) → IsTrue (list_all (has_value_sort_at s) rs) → σ x ≡ a_mark (g_new_mark f (values_tree (values_by σ rs)))
new-value s σ h x f rs e k =
    let (us, at, is) = h x (new_cell f rs) e in
    let q : us ≡ values_tree (values_by σ rs) = let z : Some us ≡ Some (values_tree (values_by σ rs)) = sym at ∙ listed s σ h rs k in cc z in
    is ∙ ap (λ zs. a_mark (g_new_mark f zs)) q

-- ---- names and parts

parts-of_fun : (s : Store) (vs : List ℕ) (sort : Sort) (g : ℕ) (qs : Patterns) (ps : List Pattern) → qs ≡ patterns_tree ps → IsTrue (fits_in s vs sort (p_fun g qs)) → IsTrue (parts_fit_in s vs TermSort false (patterns_tree ps))
parts-of_fun s vs sort g qs ps e f = subst (λ z. IsTrue (parts_fit_in s vs TermSort false z)) e (and_parts (sort_eq sort TermSort) (parts_fit_in s vs TermSort false qs) f).1

parts-of_eigen : (s : Store) (vs : List ℕ) (sort : Sort) (g : ℕ) (qs : Patterns) (ps : List Pattern) → qs ≡ patterns_tree ps → IsTrue (fits_in s vs sort (p_eigen g qs)) → IsTrue (parts_fit_in s vs TermSort true (patterns_tree ps))
parts-of_eigen s vs sort g qs ps e f = subst (λ z. IsTrue (parts_fit_in s vs TermSort true z)) e (and_parts (sort_eq sort TermSort) (parts_fit_in s vs TermSort true qs) f).1

parts-of_new : (s : Store) (vs : List ℕ) (sort : Sort) (g : ℕ) (qs : Patterns) (ps : List Pattern) → qs ≡ patterns_tree ps → IsTrue (fits_in s vs sort (p_new g qs)) → IsTrue (parts_fit_in s vs TermSort true (patterns_tree ps))
parts-of_new s vs sort g qs ps e f = subst (λ z. IsTrue (parts_fit_in s vs TermSort true z)) e (and_parts (sort_eq sort MarkSort) (parts_fit_in s vs TermSort true qs) f).1

same-name : (a b : ℕ) → a ≡ b → IsTrue (a == b)
same-name a b e = eq-eqb a b e

-- a built cell with the value of a pattern has its name and the values of its parts
pub matches-built : (s : Store) (vs : List ℕ) (x : ℕ) (c : Cell) (sort : Sort) (p : Pattern) (ps : List Pattern) → IsTrue (is_store s) → slice_get s.cells x ≡ Some c → is_variable c ≡ false → HasParts p ps → IsTrue (fits_in s vs sort p) → IsTrue (list_all (has_value_sort_at s) vs) → (σ : Solution) → Solves s σ → Matches vs x p σ → IsTrue (has_head (head_of c) p) × AllMatch σ (values_by σ vs) (parts_of c) ps
matches-built s vs x (variable t b) sort p ps i e v has f k σ h m = absurd (false≢true (sym v))
matches-built s vs x c sort (p_var n) ps i e v has f k σ h m = absurd has
matches-built s vs x (fun_cell g rs) sort (p_fun n qs) ps i e v has f k σ h m =
    let fit = (kept s i).fits x (fun_cell g rs) e in
    let q : a_term (g_fun g (terms_by σ rs)) ≡ a_term (g_fun n (pattern_terms (values_by σ vs) qs)) = sym (fun-value s σ h x g rs e fit) ∙ m in
    let name : g ≡ n = cc q in
    let same : terms_by σ rs ≡ pattern_terms (values_by σ vs) qs = cc q in
    (same-name g n name, terms-match σ (values_by σ vs) rs ps (terms-cells s σ h rs fit) (terms-valued s σ h vs k ps (parts-of_fun s vs sort n qs ps has f)) (same ∙ ap (pattern_terms (values_by σ vs)) has))
matches-built s vs x (eigen_cell g rs) sort (p_eigen n qs) ps i e v has f k σ h m =
    let fit = (kept s i).fits x (eigen_cell g rs) e in
    let q : a_term (g_eigen g (values_tree (values_by σ rs))) ≡ a_term (g_eigen n (pattern_values (values_by σ vs) qs)) = sym (eigen-value s σ h x g rs e fit) ∙ m in
    let name : g ≡ n = cc q in
    let same : values_tree (values_by σ rs) ≡ pattern_values (values_by σ vs) qs = cc q in
    (same-name g n name, values-match σ (values_by σ vs) rs ps (value-cells s σ h rs fit) (values-valued s σ h vs k ps (parts-of_eigen s vs sort n qs ps has f)) (same ∙ ap (pattern_values (values_by σ vs)) has))
matches-built s vs x (new_cell g rs) sort (p_new n qs) ps i e v has f k σ h m =
    let fit = (kept s i).fits x (new_cell g rs) e in
    let q : a_mark (g_new_mark g (values_tree (values_by σ rs))) ≡ a_mark (g_new_mark n (pattern_values (values_by σ vs) qs)) = sym (new-value s σ h x g rs e fit) ∙ m in
    let name : g ≡ n = cc q in
    let same : values_tree (values_by σ rs) ≡ pattern_values (values_by σ vs) qs = cc q in
    (same-name g n name, values-match σ (values_by σ vs) rs ps (value-cells s σ h rs fit) (values-valued s σ h vs k ps (parts-of_new s vs sort n qs ps has f)) (same ∙ ap (pattern_values (values_by σ vs)) has))
matches-built s vs x (fun_cell g rs) sort (p_eigen n qs) ps i e v has f k σ h m = let q : a_term (g_fun g (h x (fun_cell g rs) e).0) ≡ a_term (g_eigen n (pattern_values (values_by σ vs) qs)) = sym (h x (fun_cell g rs) e).2 ∙ m in cc q
matches-built s vs x (fun_cell g rs) sort (p_new n qs) ps i e v has f k σ h m = let q : a_term (g_fun g (h x (fun_cell g rs) e).0) ≡ a_mark (g_new_mark n (pattern_values (values_by σ vs) qs)) = sym (h x (fun_cell g rs) e).2 ∙ m in cc q
matches-built s vs x (eigen_cell g rs) sort (p_fun n qs) ps i e v has f k σ h m = let q : a_term (g_eigen g (h x (eigen_cell g rs) e).0) ≡ a_term (g_fun n (pattern_terms (values_by σ vs) qs)) = sym (h x (eigen_cell g rs) e).2 ∙ m in cc q
matches-built s vs x (eigen_cell g rs) sort (p_new n qs) ps i e v has f k σ h m = let q : a_term (g_eigen g (h x (eigen_cell g rs) e).0) ≡ a_mark (g_new_mark n (pattern_values (values_by σ vs) qs)) = sym (h x (eigen_cell g rs) e).2 ∙ m in cc q
matches-built s vs x (new_cell g rs) sort (p_fun n qs) ps i e v has f k σ h m = let q : a_mark (g_new_mark g (h x (new_cell g rs) e).0) ≡ a_term (g_fun n (pattern_terms (values_by σ vs) qs)) = sym (h x (new_cell g rs) e).2 ∙ m in cc q
matches-built s vs x (new_cell g rs) sort (p_eigen n qs) ps i e v has f k σ h m = let q : a_mark (g_new_mark g (h x (new_cell g rs) e).0) ≡ a_term (g_eigen n (pattern_values (values_by σ vs) qs)) = sym (h x (new_cell g rs) e).2 ∙ m in cc q
matches-built s vs x (string_cell rs) sort (p_fun n qs) ps i e v has f k σ h m = let q : a_string (h x (string_cell rs) e).0 ≡ a_term (g_fun n (pattern_terms (values_by σ vs) qs)) = sym (h x (string_cell rs) e).2 ∙ m in cc q
matches-built s vs x (string_cell rs) sort (p_eigen n qs) ps i e v has f k σ h m = let q : a_string (h x (string_cell rs) e).0 ≡ a_term (g_eigen n (pattern_values (values_by σ vs) qs)) = sym (h x (string_cell rs) e).2 ∙ m in cc q
matches-built s vs x (string_cell rs) sort (p_new n qs) ps i e v has f k σ h m = let q : a_string (h x (string_cell rs) e).0 ≡ a_mark (g_new_mark n (pattern_values (values_by σ vs) qs)) = sym (h x (string_cell rs) e).2 ∙ m in cc q

-- and the other way
pub built-matches : (s : Store) (vs : List ℕ) (x : ℕ) (c : Cell) (p : Pattern) (ps : List Pattern) → IsTrue (is_store s) → slice_get s.cells x ≡ Some c → HasParts p ps → IsTrue (has_head (head_of c) p) → (σ : Solution) → Solves s σ → AllMatch σ (values_by σ vs) (parts_of c) ps → Matches vs x p σ
built-matches s vs x (fun_cell g rs) (p_fun n qs) ps i e has name σ h m =
    let fit = (kept s i).fits x (fun_cell g rs) e in
    fun-value s σ h x g rs e fit ∙ ap₂ (λ a ts. a_term (g_fun a ts)) (eqb-true g n name) (match-terms σ (values_by σ vs) rs ps m ∙ sym (ap (pattern_terms (values_by σ vs)) has))
built-matches s vs x (eigen_cell g rs) (p_eigen n qs) ps i e has name σ h m =
    let fit = (kept s i).fits x (eigen_cell g rs) e in
    eigen-value s σ h x g rs e fit ∙ ap₂ (λ a us. a_term (g_eigen a us)) (eqb-true g n name) (match-values σ (values_by σ vs) rs ps m ∙ sym (ap (pattern_values (values_by σ vs)) has))
built-matches s vs x (new_cell g rs) (p_new n qs) ps i e has name σ h m =
    let fit = (kept s i).fits x (new_cell g rs) e in
    new-value s σ h x g rs e fit ∙ ap₂ (λ a us. a_mark (g_new_mark a us)) (eqb-true g n name) (match-values σ (values_by σ vs) rs ps m ∙ sym (ap (pattern_values (values_by σ vs)) has))
built-matches s vs x (variable t b) p ps i e has name σ h m = absurd (false≢true name)
built-matches s vs x (string_cell rs) p ps i e has name σ h m = absurd (false≢true name)
built-matches s vs x c (p_var k) ps i e has name σ h m = absurd has
built-matches s vs x (fun_cell g rs) (p_eigen n qs) ps i e has name σ h m = absurd (false≢true name)
built-matches s vs x (fun_cell g rs) (p_new n qs) ps i e has name σ h m = absurd (false≢true name)
built-matches s vs x (eigen_cell g rs) (p_fun n qs) ps i e has name σ h m = absurd (false≢true name)
built-matches s vs x (eigen_cell g rs) (p_new n qs) ps i e has name σ h m = absurd (false≢true name)
built-matches s vs x (new_cell g rs) (p_fun n qs) ps i e has name σ h m = absurd (false≢true name)
built-matches s vs x (new_cell g rs) (p_eigen n qs) ps i e has name σ h m = absurd (false≢true name)

-- all cells and patterns, place by place
pub match-all : (σ : Solution) (vs rs : List ℕ) (ps : List Pattern) → length rs ≡ length ps → MatchTo vs rs ps (length ps) σ → AllMatch σ (values_by σ vs) rs ps
match-all σ vs rs ps e m = (e, λ j r p f g. m j r p (get-within ps j p g) f g)

pub all-match : (σ : Solution) (vs rs : List ℕ) (ps : List Pattern) → AllMatch σ (values_by σ vs) rs ps → MatchTo vs rs ps (length ps) σ
all-match σ vs rs ps m = λ j r p l f g. m.1 j r p f g
