-- Patterns of a sort in a store that grows, and templates whose variables are in the store.
use Rattle.std.proofs.Common.{◌&&◌, ◌++◌, Some, ◌||◌, ◌≡◌, ℕ, zero, suc, List, [], ◌∷◌, length, Bool, true, false, Option, None, IsTrue, refl, sym, ◌∙◌, ap, subst, option_map}
use Rattle.std.specs.List.{list_all}
use Rattle.std.specs.Prelude.{slice_get}
use Rattle.std.specs.Option.{option_map_or}
use Rattle.std.proofs.lemmas.Bool.{false≢true, and_parts, and_from, or_left}
use Rattle.plain_laws.proofs.Every.{all-append, all-at}
use Rattle.plain_laws.proofs.Options.{found-more}
use Rattle.plain_laws.proofs.Booleans.{or-false_true}
use Rattle.calculus.specs.declared.sort.Sort.{Sort}
use Rattle.calculus.specs.declared.sort.Sort.TheVariants.{TermSort, MarkSort, StringSort}
use Rattle.calculus.specs.Equality.{sort_eq}
use Rattle.store_theory.specs.Stores.{Cell, Store, sort_of, sort_at, has_sort_at}
use Rattle.store_theory.specs.Patterns.{Pattern, Patterns, p_var, p_fun, p_eigen, p_new, no_patterns, more_patterns, patterns_tree, Grows, PatternAtom, PatternGamma, Template, HaveSortsAt, pattern_fits, are_term_patterns, are_value_patterns, is_label_pattern, atom_fits, gamma_fits, template_fits}
use Rattle.store_theory.specs.Bindings.{places_from, with_variables_of}
use Rattle.calculus.proofs.PlaceLists.{all-more}
use Rattle.store_theory.proofs.BindingLaws.{or-more}
use Rattle.store_theory.proofs.PatternLaws.{variables-have, grown-cell, grown-sort, and-more, and-both}
use Rattle.term_store.specs.Fitting.{fits_in, parts_fit_in, part_sort_at, label_fits_in, atom_fits_in, gamma_fits_in}

mutual
  pub grown-fits : (s t : Store) (vs : List ℕ) (sort : Sort) (p : Pattern) → Grows s t → IsTrue (fits_in s vs sort p) → IsTrue (fits_in t vs sort p)
  grown-fits s t vs sort (p_var k) g h = found-more (has_sort_at s sort) (has_sort_at t sort) (slice_get vs k) (λ r. grown-sort s t sort r g) h
  grown-fits s t vs sort (p_fun f ps) g h = and-more (sort_eq sort TermSort) (parts_fit_in s vs TermSort false ps) (parts_fit_in t vs TermSort false ps) (grown-parts_fit s t vs TermSort false ps g) h
  grown-fits s t vs sort (p_eigen f ps) g h = and-more (sort_eq sort TermSort) (parts_fit_in s vs TermSort true ps) (parts_fit_in t vs TermSort true ps) (grown-parts_fit s t vs TermSort true ps g) h
  grown-fits s t vs sort (p_new f ps) g h = and-more (sort_eq sort MarkSort) (parts_fit_in s vs TermSort true ps) (parts_fit_in t vs TermSort true ps) (grown-parts_fit s t vs TermSort true ps g) h

  pub grown-parts_fit : (s t : Store) (vs : List ℕ) (b : Sort) (w : Bool) (ps : Patterns) → Grows s t → IsTrue (parts_fit_in s vs b w ps) → IsTrue (parts_fit_in t vs b w ps)
  grown-parts_fit s t vs b w no_patterns g h = refl
  grown-parts_fit s t vs b w (more_patterns p ps) g h = and-both (fits_in s vs b p || (w && fits_in s vs StringSort p)) (fits_in t vs b p || (w && fits_in t vs StringSort p)) (parts_fit_in s vs b w ps) (parts_fit_in t vs b w ps)
      (or-more (fits_in s vs b p) (fits_in t vs b p) (w && fits_in s vs StringSort p) (w && fits_in t vs StringSort p) (grown-fits s t vs b p g) (and-more w (fits_in s vs StringSort p) (fits_in t vs StringSort p) (grown-fits s t vs StringSort p g)))
      (grown-parts_fit s t vs b w ps g) h

-- the sorts of parts
pub grown-part_sorts : (s t : Store) (b : Sort) (w : Bool) (rs : List ℕ) → Grows s t → IsTrue (list_all (part_sort_at s b w) rs) → IsTrue (list_all (part_sort_at t b w) rs)
grown-part_sorts s t b w rs g h = all-more (part_sort_at s b w) (part_sort_at t b w) rs (λ r. or-more (has_sort_at s b r) (has_sort_at t b r) (w && has_sort_at s StringSort r) (w && has_sort_at t StringSort r) (grown-sort s t b r g) (and-more w (has_sort_at s StringSort r) (has_sort_at t StringSort r) (grown-sort s t StringSort r g))) h

pub part_sorts-more : (s : Store) (b : Sort) (w : Bool) (rs : List ℕ) (r : ℕ) → IsTrue (list_all (part_sort_at s b w) rs) → IsTrue (part_sort_at s b w r) → IsTrue (list_all (part_sort_at s b w) (rs ++ r ∷ []))
part_sorts-more s b w rs r h k = all-append (part_sort_at s b w) rs (r ∷ []) h (and_from (part_sort_at s b w r) true k refl)

pub sorted-alone : (s : Store) (b : Sort) (rs : List ℕ) → IsTrue (list_all (part_sort_at s b false) rs) → IsTrue (list_all (has_sort_at s b) rs)
sorted-alone s b rs h = all-more (part_sort_at s b false) (has_sort_at s b) rs (λ r k. or-false_true (has_sort_at s b r) k) h

pub terms-sorted : (s : Store) (rs : List ℕ) → IsTrue (list_all (part_sort_at s TermSort false) rs) → IsTrue (list_all (has_sort_at s TermSort) rs)
terms-sorted s rs h = sorted-alone s TermSort rs h

pub grown-atom_fits : (s t : Store) (vs : List ℕ) (a : PatternAtom) → Grows s t → IsTrue (atom_fits_in s vs a) → IsTrue (atom_fits_in t vs a)
grown-atom_fits s t vs a g h = and-both (parts_fit_in s vs TermSort false (patterns_tree a.args)) (parts_fit_in t vs TermSort false (patterns_tree a.args)) (label_fits_in s vs a.label) (label_fits_in t vs a.label) (grown-parts_fit s t vs TermSort false (patterns_tree a.args) g) (grown-parts_fit s t vs MarkSort true (patterns_tree a.label) g) h

pub grown-gamma_fits : (s t : Store) (vs : List ℕ) (a : PatternGamma) → Grows s t → IsTrue (gamma_fits_in s vs a) → IsTrue (gamma_fits_in t vs a)
grown-gamma_fits s t vs a g h = and-both (fits_in s vs TermSort a.term) (fits_in t vs TermSort a.term) (label_fits_in s vs a.label) (label_fits_in t vs a.label) (grown-fits s t vs TermSort a.term g) (grown-parts_fit s t vs MarkSort true (patterns_tree a.label) g) h

-- ---- a template that fits, once its variables are in the store

mutual
  placed-fits : (t : Store) (vs : List ℕ) (sorts : List Sort) → ((b : Sort) (k : ℕ) → IsTrue (option_map_or (sort_eq b) (slice_get sorts k) false) → IsTrue (option_map_or (has_sort_at t b) (slice_get vs k) false)) → (sort : Sort) (p : Pattern) → IsTrue (pattern_fits sorts sort p) → IsTrue (fits_in t vs sort p)
  placed-fits t vs sorts g sort (p_var k) h = g sort k h
  placed-fits t vs sorts g sort (p_fun f ps) h = and-more (sort_eq sort TermSort) (are_term_patterns sorts ps) (parts_fit_in t vs TermSort false ps) (placed-terms t vs sorts g ps) h
  placed-fits t vs sorts g sort (p_eigen f ps) h = and-more (sort_eq sort TermSort) (are_value_patterns sorts ps) (parts_fit_in t vs TermSort true ps) (placed-values t vs sorts g ps) h
  placed-fits t vs sorts g sort (p_new f ps) h = and-more (sort_eq sort MarkSort) (are_value_patterns sorts ps) (parts_fit_in t vs TermSort true ps) (placed-values t vs sorts g ps) h

  placed-terms : (t : Store) (vs : List ℕ) (sorts : List Sort) → ((b : Sort) (k : ℕ) → IsTrue (option_map_or (sort_eq b) (slice_get sorts k) false) → IsTrue (option_map_or (has_sort_at t b) (slice_get vs k) false)) → (ps : Patterns) → IsTrue (are_term_patterns sorts ps) → IsTrue (parts_fit_in t vs TermSort false ps)
  placed-terms t vs sorts g no_patterns h = refl
  placed-terms t vs sorts g (more_patterns p ps) h = and-both (pattern_fits sorts TermSort p) (fits_in t vs TermSort p || (false && fits_in t vs StringSort p)) (are_term_patterns sorts ps) (parts_fit_in t vs TermSort false ps) (λ e. or_left (fits_in t vs TermSort p) (false && fits_in t vs StringSort p) (placed-fits t vs sorts g TermSort p e)) (placed-terms t vs sorts g ps) h

  placed-values : (t : Store) (vs : List ℕ) (sorts : List Sort) → ((b : Sort) (k : ℕ) → IsTrue (option_map_or (sort_eq b) (slice_get sorts k) false) → IsTrue (option_map_or (has_sort_at t b) (slice_get vs k) false)) → (ps : Patterns) → IsTrue (are_value_patterns sorts ps) → IsTrue (parts_fit_in t vs TermSort true ps)
  placed-values t vs sorts g no_patterns h = refl
  placed-values t vs sorts g (more_patterns p ps) h = and-both (pattern_fits sorts TermSort p || pattern_fits sorts StringSort p) (fits_in t vs TermSort p || (true && fits_in t vs StringSort p)) (are_value_patterns sorts ps) (parts_fit_in t vs TermSort true ps) (or-more (pattern_fits sorts TermSort p) (fits_in t vs TermSort p) (pattern_fits sorts StringSort p) (true && fits_in t vs StringSort p) (placed-fits t vs sorts g TermSort p) (placed-fits t vs sorts g StringSort p)) (placed-values t vs sorts g ps) h

-- patterns of one sort, and labels
placed-all : (t : Store) (vs : List ℕ) (sorts : List Sort) → ((b : Sort) (k : ℕ) → IsTrue (option_map_or (sort_eq b) (slice_get sorts k) false) → IsTrue (option_map_or (has_sort_at t b) (slice_get vs k) false)) → (b : Sort) (ps : List Pattern) → IsTrue (list_all (pattern_fits sorts b) ps) → IsTrue (parts_fit_in t vs b false (patterns_tree ps))
placed-all t vs sorts g b [] h = refl
placed-all t vs sorts g b (p ∷ ps) h = and-both (pattern_fits sorts b p) (fits_in t vs b p || (false && fits_in t vs StringSort p)) (list_all (pattern_fits sorts b) ps) (parts_fit_in t vs b false (patterns_tree ps)) (λ e. or_left (fits_in t vs b p) (false && fits_in t vs StringSort p) (placed-fits t vs sorts g b p e)) (placed-all t vs sorts g b ps) h

placed-label : (t : Store) (vs : List ℕ) (sorts : List Sort) → ((b : Sort) (k : ℕ) → IsTrue (option_map_or (sort_eq b) (slice_get sorts k) false) → IsTrue (option_map_or (has_sort_at t b) (slice_get vs k) false)) → (ps : List Pattern) → IsTrue (is_label_pattern sorts ps) → IsTrue (label_fits_in t vs ps)
placed-label t vs sorts g [] h = refl
placed-label t vs sorts g (p ∷ ps) h = and-both (pattern_fits sorts MarkSort p || pattern_fits sorts StringSort p) (fits_in t vs MarkSort p || (true && fits_in t vs StringSort p)) (is_label_pattern sorts ps) (label_fits_in t vs ps) (or-more (pattern_fits sorts MarkSort p) (fits_in t vs MarkSort p) (pattern_fits sorts StringSort p) (true && fits_in t vs StringSort p) (placed-fits t vs sorts g MarkSort p) (placed-fits t vs sorts g StringSort p)) (placed-label t vs sorts g ps) h

pub variables-placed : (t : Store) (sorts : List Sort) (vs : List ℕ) → HaveSortsAt t sorts vs → (b : Sort) (k : ℕ) → IsTrue (option_map_or (sort_eq b) (slice_get sorts k) false) → IsTrue (option_map_or (has_sort_at t b) (slice_get vs k) false)
variables-placed t [] vs have b k h = absurd (false≢true h)
variables-placed t (sort ∷ sorts) vs (r, qs, e, at, more) b zero h = subst (λ xs. IsTrue (option_map_or (has_sort_at t b) (slice_get xs zero) false)) (sym e) (subst (λ o. IsTrue (option_map_or (sort_eq b) o false)) (sym at) h)
variables-placed t (sort ∷ sorts) vs (r, qs, e, at, more) b (suc k) h = subst (λ xs. IsTrue (option_map_or (has_sort_at t b) (slice_get xs (suc k)) false)) (sym e) (variables-placed t sorts qs more b k h)

sort-kept : (s t : Store) (r : ℕ) (b : Sort) → Grows s t → sort_at s r ≡ Some b → sort_at t r ≡ Some b
sort-kept s t r b g h = by (slice_get s.cells r) refl h
  where
    by : (o : Option Cell) → slice_get s.cells r ≡ o → option_map sort_of o ≡ Some b → sort_at t r ≡ Some b
    by None e f = cc f
    by (Some c) e f = ap (option_map sort_of) (grown-cell s t r c g e) ∙ f

-- the variables keep their sorts
pub have-grown : (s t : Store) (sorts : List Sort) (rs : List ℕ) → Grows s t → HaveSortsAt s sorts rs → HaveSortsAt t sorts rs
have-grown s t [] rs g h = h
have-grown s t (sort ∷ sorts) rs g (r, qs, e, at, more) = (r, qs, e, sort-kept s t r sort g at, have-grown s t sorts qs g more)

pub placed-atoms : (t : Store) (vs : List ℕ) (sorts : List Sort) → HaveSortsAt t sorts vs → (atoms : List PatternAtom) → IsTrue (list_all (atom_fits sorts) atoms) → IsTrue (list_all (atom_fits_in t vs) atoms)
placed-atoms t vs sorts have atoms h =
    let g = variables-placed t sorts vs have in
    all-more (atom_fits sorts) (atom_fits_in t vs) atoms (λ x k. and-both (list_all (pattern_fits sorts TermSort) x.args) (parts_fit_in t vs TermSort false (patterns_tree x.args)) (is_label_pattern sorts x.label) (label_fits_in t vs x.label) (placed-all t vs sorts g TermSort x.args) (placed-label t vs sorts g x.label) k) h

pub literals-fit : (m : Template) → IsTrue (template_fits m) → IsTrue (list_all (atom_fits m.sorts) m.literals)
literals-fit m h =
    let a = and_parts (list_all (atom_fits m.sorts) m.literals && list_all (pattern_fits m.sorts StringSort) m.strings) (list_all (gamma_fits m.sorts) m.gammas) h in
    (and_parts (list_all (atom_fits m.sorts) m.literals) (list_all (pattern_fits m.sorts StringSort) m.strings) a.0).0

-- the label of a literal
pub label-fits-at : (t : Store) (vs : List ℕ) (m : Template) (place : ℕ) (a : PatternAtom) → HaveSortsAt t m.sorts vs → IsTrue (template_fits m) → slice_get m.literals place ≡ Some a → IsTrue (label_fits_in t vs a.label)
label-fits-at t vs m place a have h at = (and_parts (parts_fit_in t vs TermSort false (patterns_tree a.args)) (label_fits_in t vs a.label) (all-at (atom_fits_in t vs) m.literals place a (placed-atoms t vs m.sorts have m.literals (literals-fit m h)) at)).1

pub template-strings : (t : Store) (vs : List ℕ) (m : Template) → HaveSortsAt t m.sorts vs → IsTrue (template_fits m) → IsTrue (parts_fit_in t vs StringSort false (patterns_tree m.strings))
template-strings t vs m e h =
    let a = and_parts (list_all (atom_fits m.sorts) m.literals && list_all (pattern_fits m.sorts StringSort) m.strings) (list_all (gamma_fits m.sorts) m.gammas) h in
    let b = and_parts (list_all (atom_fits m.sorts) m.literals) (list_all (pattern_fits m.sorts StringSort) m.strings) a.0 in
    placed-all t vs m.sorts (variables-placed t m.sorts vs e) StringSort m.strings b.1

pub template-gammas : (t : Store) (vs : List ℕ) (m : Template) → HaveSortsAt t m.sorts vs → IsTrue (template_fits m) → IsTrue (list_all (gamma_fits_in t vs) m.gammas)
template-gammas t vs m e h =
    let g = variables-placed t m.sorts vs e in
    let a = and_parts (list_all (atom_fits m.sorts) m.literals && list_all (pattern_fits m.sorts StringSort) m.strings) (list_all (gamma_fits m.sorts) m.gammas) h in
    all-more (gamma_fits m.sorts) (gamma_fits_in t vs) m.gammas (λ x k. and-both (pattern_fits m.sorts TermSort x.term) (fits_in t vs TermSort x.term) (is_label_pattern m.sorts x.label) (label_fits_in t vs x.label) (placed-fits t vs m.sorts g TermSort x.term) (placed-label t vs m.sorts g x.label) k) a.1

-- new variables have their sorts
pub have-new : (vs : List ℕ) (sorts : List Sort) (s t : Store) → t ≡ with_variables_of sorts s → vs ≡ places_from (length s.cells) (length sorts) → HaveSortsAt t sorts vs
have-new vs sorts s t e f = subst (λ x. HaveSortsAt x sorts vs) (sym e) (subst (HaveSortsAt (with_variables_of sorts s) sorts) (sym f) (variables-have sorts s (length s.cells) refl))
