-- What the tests of doubling terms and of matching know of the cells that they hand over.
use Rattle.std.proofs.Common.{◌≡◌, ◌≤◌, ◌<◌, ◌-◌, suc, ◌∙◌, ◌∷◌, [], ◌&&◌, ◌||◌, Option, None, Some, IsTrue, length, ℕ, List, Bool, true, false, refl, sym, ap, arith, option_map, subst, slice_get}
use Rattle.std.specs.List.{list_all}
use Rattle.std.specs.Option.{option_map_or}
use Rattle.std.proofs.lemmas.Bool.{and_from, and_parts}
use Rattle.plain_laws.proofs.Every.{all-at}
use Rattle.plain_laws.proofs.Places.{get-end, get-within}
use Rattle.calculus.specs.declared.sort.Sort.{Sort}
use Rattle.calculus.specs.declared.sort.Sort.TheVariants.{TermSort}
use Rattle.store_theory.specs.Bindings.{places_from, with_cell, with_variables_of}
use Rattle.store_theory.specs.Patterns.{Pattern, PatternAtom, Template, more_patterns, no_patterns, p_fun, p_var, patterns_tree, template_fits}
use Rattle.store_theory.specs.Stores.{Cell, Store, has_sort_at, sort_of, variable}
use Rattle.store_theory.proofs.BindingLaws.{sorted_cell}
use Rattle.store_theory.proofs.PatternLaws.{Grows-built, Grows-variables}
use Rattle.calculus.specs.Equality.{sort_eq}
use Rattle.term_store.specs.Fitting.{atom_fits_in, fits_in, label_fits_in, parts_fit_in}
use Rattle.term_store.proofs.FitLaws.{have-new, literals-fit, placed-atoms}
use Rattle.term_store.proofs.OwnLaws.{length-grown}
use Rattle.term_unify.specs.Matching.{AddsAndBinds}

pub term-within : (s : Store) (r : ℕ) → IsTrue (has_sort_at s TermSort r) → r < length s.cells
term-within s r h =
    let t = sorted_cell s TermSort r h in
    get-within s.cells r t.0 t.1

pub fresh-term : (s t : Store) (r : ℕ) → t ≡ with_cell (variable TermSort None) s → r ≡ length s.cells → IsTrue (has_sort_at t TermSort r)
fresh-term s t r e f =
    let u = with_cell (variable TermSort None) s in
    let at : slice_get u.cells r ≡ Some (variable TermSort None) = ap (slice_get u.cells) f ∙ get-end s.cells (variable TermSort None) in
    subst (λ x. IsTrue (has_sort_at x TermSort r)) (sym e) (ap (λ (o : Option Cell). option_map_or (sort_eq TermSort) (option_map sort_of o) false) at)

-- f(Y, Y) over a variable of terms
pub doubled-fits : (s : Store) (r end : ℕ) (p : Pattern) → p ≡ p_fun 1 (more_patterns (p_var 0) (more_patterns (p_var 0) no_patterns)) → IsTrue (has_sort_at s TermSort r) → r < end → IsTrue (fits_in s (places_from r (end - r)) TermSort p)
doubled-fits s r end p e h lt =
    let n : end - r ≡ suc (end - suc r) = omega (arith, lt) in
    subst (λ k. IsTrue (fits_in s (places_from r k) TermSort p)) (sym n)
    (subst (λ q. IsTrue (fits_in s (r ∷ places_from (suc r) (end - suc r)) TermSort q)) (sym e) (both (has_sort_at s TermSort r) h))
  where
    both : (b : Bool) → IsTrue b → IsTrue ((b || false) && ((b || false) && true))
    both true k = refl
    both false k = k

-- the arguments of a clause's literal over new variables
pub args-fit : (old begun : Store) (t : Template) (k : ℕ) (vs : List ℕ) (a : PatternAtom) → IsTrue (template_fits t) → begun ≡ with_variables_of t.sorts old → slice_get t.literals k ≡ Some a → vs ≡ places_from (length old.cells) (length t.sorts) → IsTrue (parts_fit_in begun vs TermSort false (patterns_tree a.args))
args-fit old begun t k vs a fits e at f =
    let have = have-new vs t.sorts old begun e f in
    (and_parts (parts_fit_in begun vs TermSort false (patterns_tree a.args)) (label_fits_in begun vs a.label) (all-at (atom_fits_in begun vs) t.literals k a (placed-atoms begun vs t.sorts have t.literals (literals-fit t fits)) at)).0

pub longer-matched : (sorts : List Sort) (old begun met : Store) → begun ≡ with_variables_of sorts old → AddsAndBinds begun met → length old.cells ≤ length met.cells
longer-matched sorts old begun met e h =
    let l = length-grown old (with_variables_of sorts old) (Grows-variables sorts old) in
    let same = ap (λ (s : Store). length s.cells) e in
    let m = length-grown begun h.mid (Grows-built begun h.mid h.built) in
    let k = h.binds.same_length in
    omega (arith, l, same, m, k)

pub three-terms : (s : Store) (a b c : ℕ) → IsTrue (has_sort_at s TermSort a) → IsTrue (has_sort_at s TermSort b) → IsTrue (has_sort_at s TermSort c) → IsTrue (list_all (has_sort_at s TermSort) (a ∷ b ∷ c ∷ []))
three-terms s a b c h k l = and_from (has_sort_at s TermSort a) (has_sort_at s TermSort b && (has_sort_at s TermSort c && true)) h (and_from (has_sort_at s TermSort b) (has_sort_at s TermSort c && true) k (and_from (has_sort_at s TermSort c) true l refl))

-- a term of this name and no parts, and one of one such part
pub constant-fits : (s : Store) (vs : List ℕ) (p : Pattern) (name : ℕ) → p ≡ p_fun name no_patterns → IsTrue (fits_in s vs TermSort p)
constant-fits s vs p name e = subst (λ q. IsTrue (fits_in s vs TermSort q)) (sym e) refl

pub applied-fits : (s : Store) (vs : List ℕ) (p q : Pattern) (name inner : ℕ) → p ≡ p_fun name (more_patterns q no_patterns) → q ≡ p_fun inner no_patterns → IsTrue (fits_in s vs TermSort p)
applied-fits s vs p q name inner e f = subst (λ x. IsTrue (fits_in s vs TermSort x)) (sym (e ∙ ap (λ x. p_fun name (more_patterns x no_patterns)) f)) refl
