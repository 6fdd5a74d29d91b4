-- Different outermost names rule an extension out.
use Rattle.std.proofs.Common.{◌≡◌, ◌<◌, ◌&&◌, ◌||◌, arith, ℕ, zero, suc, Bool, List, [], ◌∷◌, true, false, not, IsTrue, eq-eqb, ◌==◌, refl, sym, ◌∙◌, ap, ap₂, subst, None, Some, slice_get}
use Rattle.std.proofs.lemmas.Bool.{and_parts, false≢true}
use Rattle.plain_laws.proofs.Places.{map-there}
use Rattle.calculus.specs.declared.sort.Sort.{Sort}
use Rattle.calculus.specs.declared.sort.Sort.TheVariants.{StringSort}
use Rattle.calculus.specs.Ground.{Value, common, g_eigen, g_fun}
use Rattle.store_theory.specs.Bindings.{EndsIn}
use Rattle.store_theory.specs.Patterns.{Pattern, PatternAtom, Template, p_eigen, p_fun, p_new, p_var, pattern_list_size, pattern_size, patterns_tree}
use Rattle.store_theory.specs.Stores.{Cell, CellHolds, CellValue, EndsAt, Solution, Solves, Store, a_mark, a_string, a_term, eigen_cell, fun_cell, is_bound, new_cell, parts_of, string_cell, variable}
use Rattle.store_theory.proofs.BindingLaws.{ends-there}
use Rattle.store_theory.specs.Systems.{CellAtom}
use Rattle.store_theory.specs.Templates.{as_term, as_value, cell_value, literals_by, pattern_literal, pattern_terms, pattern_value}
use Rattle.store_theory.proofs.SolutionLaws.{ends-same}
use Rattle.search_theory.specs.States.{literal_by, terms_by, values_by}
use Rattle.search_theory.specs.Steps.{CannotExtend, Clash}
use Rattle.search_theory.proofs.AtomLaws.{terms_at-by}
use Rattle.search_theory.proofs.MeetingLaws.{opposite-parts, opposite-some}
use Rattle.term_store.specs.Fitting.{fits_in, parts_fit_in}
use Rattle.term_store.specs.Shown.{head_of}
use Rattle.term_store.specs.declared.cell.Head.{Head}
use Rattle.term_unify.specs.Matching.{EachFits}
use Rattle.term_unify.proofs.PairLaws.{told}
use Rattle.search_tree.specs.Heads.{HasClash, HavePartsApart, IsApart, IsApartAt, ends_differ, names_differ}
use Rattle.search_tree.proofs.SamenessLaws.{item-equal}

-- equal lists have equal items
items-equal : (σ : Solution) (vs : List Value) (rs : List ℕ) (ps : List Pattern) (k r : ℕ) (q : Pattern) → terms_by σ rs ≡ pattern_terms vs (patterns_tree ps) → slice_get rs k ≡ Some r → slice_get ps k ≡ Some q → as_term (σ r) ≡ as_term (pattern_value vs q)
items-equal σ vs [] ps k r q e a b = let z : None ≡ Some r = a in absurd (cc z)
items-equal σ vs (x ∷ rs) [] k r q e a b = let z : None ≡ Some q = b in absurd (cc z)
items-equal σ vs (x ∷ rs) (y ∷ ps) zero r q e a b =
    let here : x ≡ r = cc a in
    let there : y ≡ q = cc b in
    let same : as_term (σ x) ≡ as_term (pattern_value vs y) = cc e in
    ap (λ z. as_term (σ z)) (sym here) ∙ same ∙ ap (λ z. as_term (pattern_value vs z)) there
items-equal σ vs (x ∷ rs) (y ∷ ps) (suc k) r q e a b = let rest : terms_by σ rs ≡ pattern_terms vs (patterns_tree ps) = cc e in items-equal σ vs rs ps k r q rest a b

not-self : (n : ℕ) → not (n == n) ≡ false
not-self n = ap not (eq-eqb n n refl)

differ : (m n : ℕ) → not (m == n) ≡ true → ¬ (m ≡ n)
differ m n h e = false≢true (sym (not-self n) ∙ ap (λ k. not (k == n)) (sym e) ∙ h)

-- cells and patterns with different names have different values
values-differ : (σ : Solution) (e : ℕ) (c : Cell) (vs : List Value) (q : Pattern) → CellHolds σ e c → names_differ (head_of c) q ≡ true → ¬ (as_term (σ e) ≡ as_term (pattern_value vs q))
values-differ σ e (variable sort b) vs q h d same = by q d
  where
    by : (p : Pattern) → names_differ (head_of (variable sort b)) p ≡ true → ⊥
    by (p_var k) d = false≢true d
    by (p_fun f ps) d = false≢true d
    by (p_eigen f ps) d = false≢true d
    by (p_new f ps) d = false≢true d
values-differ σ e (fun_cell f rs) vs (p_var k) h d same = false≢true d
values-differ σ e (fun_cell f rs) vs (p_fun g ps) (ts, is, value) d same = let z : g_fun f ts ≡ g_fun g (pattern_terms vs ps) = ap as_term (sym value) ∙ same in differ f g d (cc z)
values-differ σ e (fun_cell f rs) vs (p_eigen g ps) (ts, is, value) d same = let z : g_fun f ts ≡ as_term (pattern_value vs (p_eigen g ps)) = ap as_term (sym value) ∙ same in cc z
values-differ σ e (fun_cell f rs) vs (p_new g ps) h d same = false≢true d
values-differ σ e (eigen_cell p rs) vs (p_var k) h d same = false≢true d
values-differ σ e (eigen_cell p rs) vs (p_fun g ps) (us, is, value) d same = let z : g_eigen p us ≡ as_term (pattern_value vs (p_fun g ps)) = ap as_term (sym value) ∙ same in cc z
values-differ σ e (eigen_cell p rs) vs (p_eigen g ps) (us, is, value) d same = let z : g_eigen p us ≡ as_term (pattern_value vs (p_eigen g ps)) = ap as_term (sym value) ∙ same in differ p g d (cc z)
values-differ σ e (eigen_cell p rs) vs (p_new g ps) h d same = false≢true d
values-differ σ e (new_cell p rs) vs q h d same = by q d
  where
    by : (k : Pattern) → names_differ (head_of (new_cell p rs)) k ≡ true → ⊥
    by (p_var k) d = false≢true d
    by (p_fun f ps) d = false≢true d
    by (p_eigen f ps) d = false≢true d
    by (p_new f ps) d = false≢true d
values-differ σ e (string_cell rs) vs q h d same = by q d
  where
    by : (k : Pattern) → names_differ (head_of (string_cell rs)) k ≡ true → ⊥
    by (p_var k) d = false≢true d
    by (p_fun f ps) d = false≢true d
    by (p_eigen f ps) d = false≢true d
    by (p_new f ps) d = false≢true d

-- a cell with another name than the pattern
pub apart-by_names : (s : Store) (r e : ℕ) (h : Head) (q : Pattern) → EndsAt s r e → EndsIn s e (λ c. head_of c ≡ h) → names_differ h q ≡ true → IsApart s r q
apart-by_names s r e h q at (v, c, o, stands, is) d σ vs solves same =
    values-differ σ v c vs q (solves v c stands) (ap (λ k. names_differ k q) is ∙ d) (ap as_term (sym (ends-same s σ r e solves at ∙ ends-same s σ e v solves o)) ∙ same)

-- a cell with a part that is equal to no copy of the pattern's
pub apart-by_parts : (s : Store) (r e g : ℕ) (ps : List Pattern) → EndsAt s r e → HavePartsApart s e ps → IsApart s r (p_fun g (patterns_tree ps))
apart-by_parts s r e g ps at (i, k, q, inside, p, apart) σ vs solves same =
    let (c, there, unbound) = ends-there s r e at in
    by c there unbound (told s e c (λ d. slice_get (parts_of d) i ≡ Some k) there unbound inside)
  where
    value-is : as_term (σ e) ≡ g_fun g (pattern_terms vs (patterns_tree ps))
    value-is = ap as_term (sym (ends-same s σ r e solves at)) ∙ same

    by : (c : Cell) → slice_get s.cells e ≡ Some c → is_bound c ≡ false → slice_get (parts_of c) i ≡ Some k → ⊥
    by (variable t None) there unbound part = let z : None ≡ Some k = part in absurd (cc z)
    by (variable t (Some x)) there unbound part = false≢true (sym unbound)
    by (fun_cell j rs) there unbound part =
        let (ts, are, value) = solves e (fun_cell j rs) there in
        let terms : g_fun j ts ≡ g_fun g (pattern_terms vs (patterns_tree ps)) = ap as_term (sym value) ∙ value-is in
        let equal : ts ≡ pattern_terms vs (patterns_tree ps) = cc terms in
        apart σ vs solves (items-equal σ vs rs ps i k q (terms_at-by σ rs ts are ∙ equal) part p)
    by (eigen_cell j rs) there unbound part =
        let (us, are, value) = solves e (eigen_cell j rs) there in
        let z : g_eigen j us ≡ g_fun g (pattern_terms vs (patterns_tree ps)) = ap as_term (sym value) ∙ value-is in
        cc z
    by (new_cell j rs) there unbound part =
        let (us, are, value) = solves e (new_cell j rs) there in
        let z : common 0 ≡ g_fun g (pattern_terms vs (patterns_tree ps)) = ap as_term (sym value) ∙ value-is in
        cc z
    by (string_cell rs) there unbound part =
        let (w, are, value) = solves e (string_cell rs) there in
        let z : common 0 ≡ g_fun g (pattern_terms vs (patterns_tree ps)) = ap as_term (sym value) ∙ value-is in
        cc z

-- a pattern of a list is smaller than the list
pub size-there : (ps : List Pattern) (i : ℕ) (p : Pattern) → slice_get ps i ≡ Some p → pattern_size p < pattern_list_size ps
size-there [] i p e = let z : None ≡ Some p = e in absurd (cc z)
size-there (q ∷ ps) zero p e = let same : q ≡ p = cc e in let f = ap pattern_size same in omega (arith, f)
size-there (q ∷ ps) (suc i) p e = let f = size-there ps i p e in omega (arith, f)

-- no copy of the literal can be connected
pub cannot-extend-by_names : (s : Store) (t : Template) (goal : CellAtom) (p : PatternAtom) (place : ℕ) → slice_get t.literals place ≡ Some p → HasClash s goal p → CannotExtend s t goal place
cannot-extend-by_names s t goal p place at (k, r, q, ea, eb, apart) σ solves vs sorts opposite =
    let parts = opposite-parts (literal_by σ goal) (pattern_literal vs p) (opposite-some (literal_by σ goal) (slice_get (literals_by vs t) place) (pattern_literal vs p) (map-there (pattern_literal vs) t.literals place p at) opposite) in
    apart σ vs solves (items-equal σ vs goal.args p.args k r q parts.args ea eb)

-- ---- two ends

-- cells with different names have different values
ends-apart : (σ : Solution) (e g : ℕ) (c d : Cell) → CellHolds σ e c → CellHolds σ g d → ends_differ (head_of c) (head_of d) ≡ true → ¬ (as_term (σ e) ≡ as_term (σ g))
ends-apart σ e g (fun_cell f rs) (fun_cell k qs) (ts, is, value) (us, are, other) d same = let z : g_fun f ts ≡ g_fun k us = ap as_term (sym value) ∙ same ∙ ap as_term other in differ f k d (cc z)
ends-apart σ e g (fun_cell f rs) (eigen_cell k qs) (ts, is, value) (us, are, other) d same = let z : g_fun f ts ≡ g_eigen k us = ap as_term (sym value) ∙ same ∙ ap as_term other in cc z
ends-apart σ e g (eigen_cell f rs) (eigen_cell k qs) (ts, is, value) (us, are, other) d same = let z : g_eigen f ts ≡ g_eigen k us = ap as_term (sym value) ∙ same ∙ ap as_term other in differ f k d (cc z)
ends-apart σ e g (eigen_cell f rs) (fun_cell k qs) (ts, is, value) (us, are, other) d same = let z : g_eigen f ts ≡ g_fun k us = ap as_term (sym value) ∙ same ∙ ap as_term other in cc z
ends-apart σ e g (fun_cell f rs) (variable t b) h k d same = false≢true d
ends-apart σ e g (fun_cell f rs) (new_cell q qs) h k d same = false≢true d
ends-apart σ e g (fun_cell f rs) (string_cell qs) h k d same = false≢true d
ends-apart σ e g (eigen_cell f rs) (variable t b) h k d same = false≢true d
ends-apart σ e g (eigen_cell f rs) (new_cell q qs) h k d same = false≢true d
ends-apart σ e g (eigen_cell f rs) (string_cell qs) h k d same = false≢true d
ends-apart σ e g (variable t b) c h k d same = by c d
  where
    by : (x : Cell) → ends_differ (head_of (variable t b)) (head_of x) ≡ true → ⊥
    by (variable u q) d = false≢true d
    by (fun_cell f qs) d = false≢true d
    by (eigen_cell f qs) d = false≢true d
    by (new_cell f qs) d = false≢true d
    by (string_cell qs) d = false≢true d
ends-apart σ e g (new_cell p rs) c h k d same = by c d
  where
    by : (x : Cell) → ends_differ (head_of (new_cell p rs)) (head_of x) ≡ true → ⊥
    by (variable u q) d = false≢true d
    by (fun_cell f qs) d = false≢true d
    by (eigen_cell f qs) d = false≢true d
    by (new_cell f qs) d = false≢true d
    by (string_cell qs) d = false≢true d
ends-apart σ e g (string_cell rs) c h k d same = by c d
  where
    by : (x : Cell) → ends_differ (head_of (string_cell rs)) (head_of x) ≡ true → ⊥
    by (variable u q) d = false≢true d
    by (fun_cell f qs) d = false≢true d
    by (eigen_cell f qs) d = false≢true d
    by (new_cell f qs) d = false≢true d
    by (string_cell qs) d = false≢true d

-- no solution makes the lists equal
pub clash-by_ends : (s : Store) (xs ys : List ℕ) (k x y : ℕ) (a b : Head) → slice_get xs k ≡ Some x → slice_get ys k ≡ Some y → EndsIn s x (λ c. head_of c ≡ a) → EndsIn s y (λ c. head_of c ≡ b) → ends_differ a b ≡ true → Clash s xs ys
clash-by_ends s xs ys k x y a b ex ey (e, c, o, stands, is) (g, d, q, there, are) apart σ solves same =
    ends-apart σ e g c d (solves e c stands) (solves g d there) (ap₂ ends_differ is are ∙ apart)
    (ap as_term (sym (ends-same s σ x e solves o)) ∙ item-equal σ xs ys k x y same ex ey ∙ ap as_term (ends-same s σ y g solves q))

-- ---- names of cells and of patterns over variables

-- of the value of a cell the term is kept, whatever its sort
term-kept : (v : CellValue) → as_term (cell_value (as_value v)) ≡ as_term v
term-kept (a_term t) = refl
term-kept (a_mark m) = refl
term-kept (a_string w) = refl

variable-term : (σ : Solution) (vs : List ℕ) (k v : ℕ) → slice_get vs k ≡ Some v → as_term (pattern_value (values_by σ vs) (p_var k)) ≡ as_term (σ v)
variable-term σ [] k v e = let z : None ≡ Some v = e in absurd (cc z)
variable-term σ (x ∷ vs) zero v e = let same : x ≡ v = cc e in term-kept (σ x) ∙ ap (λ z. as_term (σ z)) same
variable-term σ (x ∷ vs) (suc k) v e = variable-term σ vs k v e

-- a cell with another name than the variable's
pub variable-apart : (s : Store) (vs : List ℕ) (r k v : ℕ) (a b : Head) → slice_get vs k ≡ Some v → EndsIn s v (λ c. head_of c ≡ a) → EndsIn s r (λ c. head_of c ≡ b) → ends_differ a b ≡ true → IsApartAt s vs r (p_var k)
variable-apart s vs r k v a b at (e, c, o, stands, is) (g, d, q, there, are) differ σ solves same =
    ends-apart σ e g c d (solves e c stands) (solves g d there) (ap₂ ends_differ is are ∙ differ)
    (ap as_term (sym (ends-same s σ v e solves o)) ∙ sym (variable-term σ vs k v at) ∙ sym same ∙ ap as_term (ends-same s σ r g solves q))

-- equal to no copy, so not to that over these variables
pub apart-over : (s : Store) (vs : List ℕ) (r : ℕ) (q : Pattern) → IsApart s r q → IsApartAt s vs r q
apart-over s vs r q h σ solves = h σ (values_by σ vs) solves

pub clash-over : (s : Store) (vs rs : List ℕ) (ps : List Pattern) (i r : ℕ) (q : Pattern) → slice_get rs i ≡ Some r → slice_get ps i ≡ Some q → IsApartAt s vs r q → (σ : Solution) → Solves s σ → ¬ (terms_by σ rs ≡ pattern_terms (values_by σ vs) (patterns_tree ps))
clash-over s vs rs ps i r q er eq apart σ solves same = apart σ solves (items-equal σ (values_by σ vs) rs ps i r q same er eq)

-- ---- sorts of patterns

part-fits : (s : Store) (vs : List ℕ) (sort : Sort) (strings : Bool) (p : Pattern) → IsTrue (fits_in s vs sort p || (strings && fits_in s vs StringSort p)) → (b : Sort) × IsTrue (fits_in s vs b p)
part-fits s vs sort strings p h = by (fits_in s vs sort p) refl h
  where
    by : (t : Bool) → fits_in s vs sort p ≡ t → IsTrue (t || (strings && fits_in s vs StringSort p)) → (b : Sort) × IsTrue (fits_in s vs b p)
    by true e k = (sort, e)
    by false e k = (StringSort, (and_parts strings (fits_in s vs StringSort p) k).1)

-- each part has a sort
pub parts-sorted : (s : Store) (vs : List ℕ) (sort : Sort) (strings : Bool) (ps : List Pattern) → IsTrue (parts_fit_in s vs sort strings (patterns_tree ps)) → EachFits s vs ps
parts-sorted s vs sort strings [] h i p e = let z : None ≡ Some p = e in absurd (cc z)
parts-sorted s vs sort strings (q ∷ ps) h zero p e =
    let same : q ≡ p = cc e in
    let k = and_parts (fits_in s vs sort q || (strings && fits_in s vs StringSort q)) (parts_fit_in s vs sort strings (patterns_tree ps)) h in
    subst (λ u. (b : Sort) × IsTrue (fits_in s vs b u)) same (part-fits s vs sort strings q k.0)
parts-sorted s vs sort strings (q ∷ ps) h (suc i) p e =
    let k = and_parts (fits_in s vs sort q || (strings && fits_in s vs StringSort q)) (parts_fit_in s vs sort strings (patterns_tree ps)) h in
    parts-sorted s vs sort strings ps k.1 i p e
