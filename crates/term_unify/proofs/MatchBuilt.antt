-- A pattern with parts against a cell whose bindings end at a built one.
use Rattle.std.proofs.Common.{◌≡◌, ◌≤◌, ℕ, List, length, true, false, Some, IsTrue, refl, sym, ◌∙◌, ap, subst, nat_le, leb-true}
use Rattle.std.specs.List.{list_all}
use Rattle.std.proofs.lemmas.Bool.{false≢true, and_parts}
use Rattle.calculus.specs.declared.sort.Sort.{Sort}
use Rattle.store_theory.specs.Bindings.{EndsIn, IsWellFormed, NamesFrom}
use Rattle.store_theory.specs.Patterns.{Pattern, p_var, p_fun, p_eigen, p_new, patterns_tree}
use Rattle.store_theory.specs.Stores.{Store, parts_of, variable, has_value_sort_at, EndsAt, stays, goes_on, Solution, Solves}
use Rattle.search_theory.specs.States.{values_by}
use Rattle.term_store.specs.Fitting.{fits_in}
use Rattle.term_store.specs.Signatures.{BuildsOver, allows, allows_all, number_of_patterns, sorts_of_patterns}
use Rattle.term_store.specs.declared.cell.Head.{Head}
use Rattle.term_store.specs.declared.cell.Head.TheVariants.{Open, Fun, Eigen, New, Marks}
use Rattle.term_unify.specs.Matching.{ArePartsAt, HasParts, HoldsAlways, HoldsNowhere, MatchTo, Matches, NamesKept, Narrows, has_head}
use Rattle.term_unify.specs.Steps.{is_open_head}
use Rattle.term_unify.proofs.MatchLaws.{AllMatch, matches-end, narrows-same}
use Rattle.term_unify.proofs.MatchShapes.{all-match, built-matches, match-all, matches-built}
use Rattle.term_unify.proofs.StepLaws.{Ended, built-cell, counted}

-- the pattern fits, and the variables have values
pub record IsPut (s : Store) (vs : List ℕ) (p : Pattern) (ps : List Pattern) : Type 0 where
  pub parts : HasParts p ps
  pub fits : (sort : Sort) × IsTrue (fits_in s vs sort p)
  pub values : IsTrue (list_all (has_value_sort_at s) vs)

-- the name and the parts of a cell with the pattern's value
built-parts : (s : Store) (vs : List ℕ) (r x : ℕ) (h : Head) (p : Pattern) (ps : List Pattern) → IsWellFormed s → (w : Ended s r x h) → is_open_head h ≡ false → IsPut s vs p ps → (σ : Solution) → Solves s σ → Matches vs r p σ → IsTrue (has_head h p) × AllMatch σ (values_by σ vs) (parts_of w.cell) ps
built-parts s vs r x h p ps good w o put σ k m =
    let q = matches-built s vs x w.cell put.fits.0 p ps good.fits w.at (built-cell w.cell h w.shows o) put.parts put.fits.1 put.values σ k ((matches-end s σ vs r x p k w.ends).0 m) in
    (ap (λ z. has_head z p) (sym w.shows) ∙ q.0, q.1)

-- another name
pub built-apart : (s : Store) (vs : List ℕ) (r x : ℕ) (h : Head) (p : Pattern) (ps : List Pattern) → IsWellFormed s → Ended s r x h → is_open_head h ≡ false → IsPut s vs p ps → has_head h p ≡ false → HoldsNowhere (Matches vs r p) s
built-apart s vs r x h p ps good w o put n σ k m = false≢true (sym n ∙ (built-parts s vs r x h p ps good w o put σ k m).0)

-- another number of parts
pub count-apart : (s : Store) (vs : List ℕ) (r x count : ℕ) (h : Head) (p : Pattern) (ps : List Pattern) → IsWellFormed s → Ended s r x h → is_open_head h ≡ false → IsPut s vs p ps → EndsIn s x (λ c. count ≡ length (parts_of c)) → ¬ (count ≡ length ps) → HoldsNowhere (Matches vs r p) s
count-apart s vs r x count h p ps good w o put many n σ k m = n (counted s r x h w count many ∙ (built-parts s vs r x h p ps good w o put σ k m).1.0)

-- both ways between the cell and the parts of the built one
parts-both : (s : Store) (vs : List ℕ) (r x : ℕ) (h : Head) (p : Pattern) (ps : List Pattern) → IsWellFormed s → (w : Ended s r x h) → is_open_head h ≡ false → IsPut s vs p ps → has_head h p ≡ true → length (parts_of w.cell) ≡ length ps → (σ : Solution) → Solves s σ → (MatchTo vs (parts_of w.cell) ps (length ps) σ → Matches vs r p σ) × (Matches vs r p σ → MatchTo vs (parts_of w.cell) ps (length ps) σ)
parts-both s vs r x h p ps good w o put name many σ k = (
  λ m. (matches-end s σ vs r x p k w.ends).1 (built-matches s vs x w.cell p ps good.fits w.at put.parts (ap (λ z. has_head z p) w.shows ∙ name) σ k (match-all σ vs (parts_of w.cell) ps many m)),
  λ m. all-match σ vs (parts_of w.cell) ps (built-parts s vs r x h p ps good w o put σ k m).1,
)

pub built-narrows : (s t : Store) (vs : List ℕ) (r x count : ℕ) (h : Head) (p : Pattern) (ps : List Pattern) → IsWellFormed s → Ended s r x h → is_open_head h ≡ false → IsPut s vs p ps → has_head h p ≡ true → EndsIn s x (λ c. count ≡ length (parts_of c)) → count ≡ length ps → ArePartsAt s x (λ rs. Narrows (MatchTo vs rs ps (length ps)) s t) → Narrows (Matches vs r p) s t
built-narrows s t vs r x count h p ps good w o put name many e k =
    narrows-same (MatchTo vs (parts_of w.cell) ps (length ps)) (Matches vs r p) s t (parts-both s vs r x h p ps good w o put name (sym (counted s r x h w count many) ∙ e)) (k w.cell w.at)

pub built-nowhere : (s : Store) (vs : List ℕ) (r x count : ℕ) (h : Head) (p : Pattern) (ps : List Pattern) → IsWellFormed s → Ended s r x h → is_open_head h ≡ false → IsPut s vs p ps → has_head h p ≡ true → EndsIn s x (λ c. count ≡ length (parts_of c)) → count ≡ length ps → ArePartsAt s x (λ rs. HoldsNowhere (MatchTo vs rs ps (length ps)) s) → HoldsNowhere (Matches vs r p) s
built-nowhere s vs r x count h p ps good w o put name many e k σ g m =
    k w.cell w.at σ g ((parts-both s vs r x h p ps good w o put name (sym (counted s r x h w count many) ∙ e) σ g).1 m)

pub built-always : (s : Store) (vs : List ℕ) (r x count : ℕ) (h : Head) (p : Pattern) (ps : List Pattern) → IsWellFormed s → Ended s r x h → is_open_head h ≡ false → IsPut s vs p ps → has_head h p ≡ true → EndsIn s x (λ c. count ≡ length (parts_of c)) → count ≡ length ps → ArePartsAt s x (λ rs. HoldsAlways (MatchTo vs rs ps (length ps)) s) → HoldsAlways (Matches vs r p) s
built-always s vs r x count h p ps good w o put name many e k σ g =
    (parts-both s vs r x h p ps good w o put name (sym (counted s r x h w count many) ∙ e) σ g).0 (k w.cell w.at σ g)

-- a cell with a pattern's name is built
pub named-built : (h : Head) (p : Pattern) → has_head h p ≡ true → is_open_head h ≡ false
named-built (Open sort) p e = absurd (false≢true e)
named-built (Fun f) p e = refl
named-built (Eigen f) p e = refl
named-built (New f) p e = refl
named-built Marks p e = refl

-- what the pattern allows its parts allow
pub built-within : (s t : Store) (vs : List ℕ) (p : Pattern) (ps : List Pattern) → HasParts p ps → BuildsOver vs (λ sorts g. allows_all g sorts (patterns_tree ps)) s t → BuildsOver vs (λ sorts g. allows g sorts p) s t
built-within s t vs (p_var k) ps e h = absurd e
built-within s t vs (p_fun f qs) ps e h = λ sorts have g base a b. h sorts have g base (subst (λ z. IsTrue (allows_all g sorts z)) e (and_parts (g.functions f (number_of_patterns qs)) (allows_all g sorts qs) a).1) b
built-within s t vs (p_eigen f qs) ps e h = λ sorts have g base a b. h sorts have g base (subst (λ z. IsTrue (allows_all g sorts z)) e (and_parts (g.eigenvariables f (sorts_of_patterns sorts qs)) (allows_all g sorts qs) a).1) b
built-within s t vs (p_new f qs) ps e h = λ sorts have g base a b. h sorts have g base (subst (λ z. IsTrue (allows_all g sorts z)) e (and_parts (g.marks f (sorts_of_patterns sorts qs)) (allows_all g sorts qs) a).1) b

-- cells from a number on end in such cells
ends-from : (base : ℕ) (s : Store) (r x : ℕ) → NamesFrom base s → EndsAt s r x → base ≤ r → base ≤ x
ends-from base s r x n (stays e b) l = l
ends-from base s r x n (goes_on {k = k} {sort = sort} e o) l =
    let names = n r (variable sort (Some k)) l e in
    ends-from base s k x n o (leb-true base k (and_parts (nat_le base k) true names).0)

pub built-names : (s t : Store) (vs : List ℕ) (r x : ℕ) → EndsAt s r x → NamesKept vs x s t → NamesKept vs r s t
built-names s t vs r x e h base l low from names = h base l low (ends-from base s r x names e from) names
