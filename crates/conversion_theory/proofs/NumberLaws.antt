-- Numbers of names: equal names have one number and different names different ones, and the names inside a name have lower numbers.
use Rattle.std.proofs.Common.{◌≡◌, ◌⊎◌, ◌↔◌, ℕ, suc, ◌+◌, ◌<◌, ◌≤◌, List, [], ◌∷◌, ◌++◌, length, flat_map, Contains, Option, Some, None, unwrap_or, refl, sym, ◌∙◌, ap, subst, inl, inr, slice_get, arith}
use Rattle.std.proofs.lemmas.Bool.{false≢true, cases_eq, cases_Bool}
use Rattle.std.proofs.lemmas.Option.{slice_get_within}
use Rattle.plain_laws.proofs.Options.{none_some}
use Rattle.calculus.specs.Syntax.{Problem}
use Rattle.calculus.specs.Ground.{GroundTerm, GroundTerms, GroundMark, Marks, Value, Values, g_fun, g_eigen, common, own, no_g_terms, more_g_terms, g_new_mark, g_spare_mark, no_marks, more_marks, term, steps, no_values, more_values, values_list, values_tree}
use Rattle.calculus.specs.Skolem.{label_of}
use Rattle.calculus.specs.Instances.{Turn}
use Rattle.calculus.specs.Tableaux.{Tableau}
use Rattle.conversion_theory.specs.Turns.{Name, term_name, mark_name, names_of_term, names_of_terms, names_of_mark, names_of_marks, names_of_value, names_of_values, names_of_home, turns_of, names_mentioned, names_introduced, names_of_tableau}
use Rattle.conversion_theory.specs.Numbering.{name_eq, names_inside, IsNumbering, NumbersTell, place_from, number_in, number_of}
use Rattle.calculus.proofs.EqualityLaws.{Tells, ground_eq-tells, mark_eq-tells}
use Rattle.calculus.proofs.Members.{Among, among-at, contains-at, at-contains, among-contains, contains-among, among-left, among-right, among-append, among-joined, joined-among}
use Rattle.conversion_theory.proofs.NameLaws.{inner_size, below-values, below-marks, introduced-cases}

-- ---- the test of equality

pub name_eq-tells : Tells name_eq
name_eq-tells (term_name t) (term_name u) = (λ h. ap term_name ((ground_eq-tells t u).0 h), λ e. (ground_eq-tells t u).1 (let q : t ≡ u = cc in q))
name_eq-tells (term_name t) (mark_name n) = (λ h. absurd (false≢true h), λ e. absurd cc)
name_eq-tells (mark_name m) (term_name u) = (λ h. absurd (false≢true h), λ e. absurd cc)
name_eq-tells (mark_name m) (mark_name n) = (λ h. ap mark_name ((mark_eq-tells m n).0 h), λ e. (mark_eq-tells m n).1 (let q : m ≡ n = cc in q))

-- ---- names inside

abbrev Holds : List Name → Name → Type 0
Holds ns n = (m : Name) → Among (names_inside n) m → Among ns m

-- a list that holds what is inside each of its names
abbrev pub IsWhole : List Name → Type 0
IsWhole ns = (n : Name) → Among ns n → Holds ns n

whole-none : IsWhole []
whole-none n h = elim h [ ]

pub whole-append : (xs ys : List Name) → IsWhole xs → IsWhole ys → IsWhole (xs ++ ys)
whole-append xs ys h k n i m j = elim (among-append xs ys n i) [ inl p ↦ among-left xs ys m (h n p m j) | inr p ↦ among-right xs ys m (k n p m j) ]

whole-cons : (x : Name) (xs : List Name) → ((m : Name) → Among (names_inside x) m → Among xs m) → IsWhole xs → IsWhole (x ∷ xs)
whole-cons x xs h k n (inl e) m j = inr (h m (subst (λ z. Among (names_inside z) m) (sym e) j))
whole-cons x xs h k n (inr i) m j = inr (k n i m j)

pub whole-joined : {A : Type 0} (f : A → List Name) (xs : List A) → ((x : A) → Among xs x → IsWhole (f x)) → IsWhole (flat_map f xs)
whole-joined f xs h n i m j = let r = among-joined f xs n i in joined-among f xs r.0 m r.1 (h r.0 r.1 n r.2 m j)

mutual
  pub whole-term : (t : GroundTerm) → IsWhole (names_of_term t)
  whole-term (g_fun f ts) = whole-terms ts
  whole-term (g_eigen p vs) = whole-cons (term_name (g_eigen p vs)) (names_of_values vs) (λ m i. i) (whole-values vs)
  whole-term (common k) = whole-cons (term_name (common k)) [] (λ m i. i) whole-none
  whole-term (own k w) = whole-cons (term_name (own k w)) (names_of_marks w) (λ m i. i) (whole-marks w)

  whole-terms : (ts : GroundTerms) → IsWhole (names_of_terms ts)
  whole-terms no_g_terms = whole-none
  whole-terms (more_g_terms t ts) = whole-append (names_of_term t) (names_of_terms ts) (whole-term t) (whole-terms ts)

  pub whole-mark : (m : GroundMark) → IsWhole (names_of_mark m)
  whole-mark (g_new_mark p vs) = whole-cons (mark_name (g_new_mark p vs)) (names_of_values vs) (λ m i. i) (whole-values vs)
  whole-mark (g_spare_mark k) = whole-cons (mark_name (g_spare_mark k)) [] (λ m i. i) whole-none

  whole-marks : (w : Marks) → IsWhole (names_of_marks w)
  whole-marks no_marks = whole-none
  whole-marks (more_marks m ms) = whole-append (names_of_mark m) (names_of_marks ms) (whole-mark m) (whole-marks ms)

  pub whole-value : (v : Value) → IsWhole (names_of_value v)
  whole-value (term t) = whole-term t
  whole-value (steps w) = whole-marks w

  whole-values : (vs : Values) → IsWhole (names_of_values vs)
  whole-values no_values = whole-none
  whole-values (more_values v vs) = whole-append (names_of_value v) (names_of_values vs) (whole-value v) (whole-values vs)

whole-home : (P : Problem) (n : Name) → IsWhole (names_of_home P n)
whole-home P (term_name (g_eigen p vs)) = whole-joined names_of_mark (label_of P p (values_list vs)) (λ m i. whole-mark m)
whole-home P (term_name (g_fun f ts)) = whole-none
whole-home P (term_name (common k)) = whole-none
whole-home P (term_name (own k w)) = whole-none
whole-home P (mark_name m) = whole-none

pub whole-mentioned : (P : Problem) (x : Turn) → IsWhole (names_mentioned P x)
whole-mentioned P x = whole-append (flat_map names_of_value x.values) (flat_map (names_of_home P) (flat_map names_of_value x.values)) (whole-joined names_of_value x.values (λ v i. whole-value v)) (whole-joined (names_of_home P) (flat_map names_of_value x.values) (λ n i. whole-home P n))

-- the names inside of those that a turn introduces are mentioned
pub names-of-tree : (vs : List Value) → names_of_values (values_tree vs) ≡ flat_map names_of_value vs
names-of-tree [] = refl
names-of-tree (v ∷ vs) = ap (λ ns. names_of_value v ++ ns) (names-of-tree vs)

pub inside-introduced : (P : Problem) (x : Turn) (n m : Name) → Among (names_introduced P x) n → Among (names_inside n) m → Among (names_mentioned P x) m
inside-introduced P x n m h i =
    let inner : names_inside n ≡ flat_map names_of_value x.values = elim (introduced-cases P x n h) [ inl e ↦ ap names_inside e.1 ∙ names-of-tree x.values | inr e ↦ ap names_inside e.1 ∙ names-of-tree x.values ] in
    among-left (flat_map names_of_value x.values) (flat_map (names_of_home P) (flat_map names_of_value x.values)) m (subst (λ ns. Among ns m) inner i)

abbrev pub names_of_turn : Problem → Turn → List Name
names_of_turn P x = names_mentioned P x ++ names_introduced P x

whole-turn : (P : Problem) (x : Turn) → IsWhole (names_of_turn P x)
whole-turn P x n i m j = among-left (names_mentioned P x) (names_introduced P x) m (elim (among-append (names_mentioned P x) (names_introduced P x) n i) [ inl p ↦ whole-mentioned P x n p m j | inr p ↦ inside-introduced P x n m p j ])

-- the names of a tableau hold what is inside them
pub whole-tableau : (P : Problem) (t : Tableau) → IsWhole (names_of_tableau P t)
whole-tableau P t = whole-joined (names_of_turn P) (turns_of P t) (λ x i. whole-turn P x)

-- ---- an order in which names are behind those inside them is a numbering

-- no name is smaller than an earlier one
abbrev pub AreOrderedBy : (Name → ℕ) → List Name → Type 0
AreOrderedBy measure names = (i j : ℕ) (n m : Name) → slice_get names i ≡ Some n → slice_get names j ≡ Some m → i < j → measure n ≤ measure m

module _ (measure : Name → ℕ) where
  place-before : (names : List Name) → AreOrderedBy measure names → (i j : ℕ) (n m : Name) → slice_get names i ≡ Some n → slice_get names j ≡ Some m → measure m < measure n → j < i
  place-before names h i j n m e f lt = elim (order i j) [
    | inl p ↦ let le = h i j n m e f p in absurd (omega arith)
    | inr p ↦ elim (cases_eq i j) [
      | inl q ↦ let both : Some n ≡ Some m = sym e ∙ ap (slice_get names) q ∙ f in let same : n ≡ m = cc in let size = ap measure same in absurd (omega arith)
      | inr q ↦ omega arith
    ]
  ]
    where
      order : (m n : ℕ) → (m < n) ⊎ (n ≤ m)
      order m n = grind arith

  pub numbering-by : ((n m : Name) → Among (names_inside n) m → measure m < measure n) → (P : Problem) (t : Tableau) (names : List Name) → ((n : Name) → Contains (names_of_tableau P t) n ↔ Contains names n) → ((i j : ℕ) (n : Name) → slice_get names i ≡ Some n → slice_get names j ≡ Some n → i ≡ j) → AreOrderedBy measure names → IsNumbering P t names
  numbering-by inside-smaller P t names all once ordered = record {
    all = all;
    once = once;
    inside = λ i n m e k.
        let here = among-contains (names_of_tableau P t) n ((all n).1 (contains-at names i n e)) in
        let deeper = among-contains (names_inside n) m k in
        let found = at-contains names m ((all m).0 (contains-among (names_of_tableau P t) m (whole-tableau P t n here m deeper))) in
        (found.0, place-before names ordered i found.0 n m e found.1 (inside-smaller n m deeper), found.1);
  }

pub inside-smaller : (n m : Name) → Among (names_inside n) m → inner_size m < inner_size n
inside-smaller (term_name (g_eigen p vs)) m i = below-values vs m i
inside-smaller (term_name (own k w)) m i = below-marks w m i
inside-smaller (term_name (g_fun f ts)) m i = elim i [ ]
inside-smaller (term_name (common k)) m i = elim i [ ]
inside-smaller (mark_name (g_new_mark p vs)) m i = below-values vs m i
inside-smaller (mark_name (g_spare_mark k)) m i = elim i [ ]

-- ---- numbers are places

-- the number is the place of the name
pub place_from-at : (k : ℕ) (ms : List Name) (n : Name) (p : ℕ) → place_from k ms n ≡ Some p → (j : ℕ) × (p ≡ k + j) × (slice_get ms j ≡ Some n)
place_from-at k [] n p e = absurd (none_some e)
place_from-at k (m ∷ ms) n p e = elim (cases_Bool (name_eq n m)) [
  | inl h ↦ let same = (name_eq-tells n m).0 h in let q : Some k ≡ Some p = rw h at e in let here : k ≡ p = cc in let there : slice_get (m ∷ ms) 0 ≡ Some n = ap Some (sym same) in (0, omega arith, there)
  | inr h ↦ let q : place_from (suc k) ms n ≡ Some p = rw h at e in let r = place_from-at (suc k) ms n p q in let there = r.2 in let at = r.1 in (suc r.0, omega arith, there)
]

-- a name of the list has a number
pub place_from-some : (k : ℕ) (ms : List Name) (n : Name) → Among ms n → (p : ℕ) × (place_from k ms n ≡ Some p)
place_from-some k [] n i = elim i [ ]
place_from-some k (m ∷ ms) n (inl e) = let h = (name_eq-tells n m).1 (sym e) in (k, rw h refl)
place_from-some k (m ∷ ms) n (inr i) = elim (cases_Bool (name_eq n m)) [
  | inl h ↦ (k, rw h refl)
  | inr h ↦ let r = place_from-some (suc k) ms n i in (r.0, rw h r.1)
]

pub number_in-at : (names : List Name) (n : Name) (p : ℕ) → number_in names n ≡ Some p → (j : ℕ) × (p ≡ suc j) × (slice_get names j ≡ Some n)
number_in-at names n p e = let r = place_from-at 1 names n p e in let at = r.1 in (r.0, omega arith, r.2)

-- numbers are from 1
pub number_in-positive : (names : List Name) (n : Name) (p : ℕ) → number_in names n ≡ Some p → (1 ≤ p) × (p ≤ length names)
number_in-positive names n p e = let r = number_in-at names n p e in let at = r.1 in let lt = slice_get_within names r.0 n r.2 in (omega arith, omega arith)

-- different names have different numbers
pub number_in-apart : (names : List Name) (n m : Name) (p : ℕ) → number_in names n ≡ Some p → number_in names m ≡ Some p → n ≡ m
number_in-apart names n m p e f =
    let a = number_in-at names n p e in
    let b = number_in-at names m p f in
    let x = a.1 in
    let y = b.1 in
    let same : a.0 ≡ b.0 = omega arith in
    let both : Some n ≡ Some m = sym a.2 ∙ ap (slice_get names) same ∙ b.2 in
    cc

-- a name has a number exactly where it stands in the list
pub number_in-known : (names : List Name) (n : Name) → Among names n → (p : ℕ) × (number_in names n ≡ Some p)
number_in-known names n i = place_from-some 1 names n i

pub number_in-none : (names : List Name) (n : Name) → number_in names n ≡ None → Among names n → ⊥
number_in-none names n e i = let r = number_in-known names n i in none_some (sym e ∙ r.1)

pub number_in-where : (names : List Name) (n : Name) (p : ℕ) → number_in names n ≡ Some p → Among names n
number_in-where names n p e = let r = number_in-at names n p e in among-at names r.0 n r.2

-- in a list without repetitions the number tells the place
pub number_in-once : (names : List Name) → ((i j : ℕ) (n : Name) → slice_get names i ≡ Some n → slice_get names j ≡ Some n → i ≡ j) → (j : ℕ) (n : Name) → slice_get names j ≡ Some n → number_in names n ≡ Some (suc j)
number_in-once names once j n e =
    let r = number_in-known names n (among-at names j n e) in
    let at = number_in-at names n r.0 r.1 in
    let same = once at.0 j n at.2 e in
    r.1 ∙ ap Some (at.1 ∙ ap suc same)

-- names inside a name have lower numbers
pub number_in-inside : (P : Problem) (t : Tableau) (names : List Name) → IsNumbering P t names → (n m : Name) (p : ℕ) → number_in names n ≡ Some p → Among (names_inside n) m → (q : ℕ) × (number_in names m ≡ Some q) × (q < p)
number_in-inside P t names h n m p e i =
    let at = number_in-at names n p e in
    let r = h.inside at.0 n m at.2 (contains-among (names_inside n) m i) in
    let is = at.1 in
    let lt = r.1 in
    (suc r.0, number_in-once names h.once r.0 m r.2, omega arith)

-- a name has a number exactly where the tableau mentions it
pub number_in-mentioned : (P : Problem) (t : Tableau) (names : List Name) → IsNumbering P t names → (n : Name) → (number_in names n ≡ None) ↔ (Contains (names_of_tableau P t) n → ⊥)
number_in-mentioned P t names h n = (
  λ e k. number_in-none names n e (among-contains names n ((h.all n).0 k)),
  λ none. no_number (number_in names n) refl none,
)
  where
    no_number : (o : Option ℕ) → number_in names n ≡ o → (Contains (names_of_tableau P t) n → ⊥) → o ≡ None
    no_number None e none = refl
    no_number (Some p) e none = absurd (none ((h.all n).1 (contains-among names n (number_in-where names n p e))))

-- ---- number_of, where the names are known to have one

pub number_of-apart : (names : List Name) (n m : Name) → Among names n → Among names m → number_of names n ≡ number_of names m → n ≡ m
number_of-apart names n m i j e =
    let a = number_in-known names n i in
    let b = number_in-known names m j in
    let x : number_of names n ≡ a.0 = ap (λ o. unwrap_or o 0) a.1 in
    let y : number_of names m ≡ b.0 = ap (λ o. unwrap_or o 0) b.1 in
    number_in-apart names n m a.0 a.1 (b.1 ∙ ap Some (sym y ∙ sym e ∙ x))

-- what a numbering tells
pub numbers-tell : (P : Problem) (t : Tableau) (names : List Name) → IsNumbering P t names → NumbersTell P t names
numbers-tell P t names h = record {
  apart = λ n m k e f. number_in-apart names n m k e f;
  from_one = λ n k e. (number_in-positive names n k e).0;
  mentioned = λ n. number_in-mentioned P t names h n;
  inside = λ n m k e i. number_in-inside P t names h n m k e (among-contains (names_inside n) m i);
}
