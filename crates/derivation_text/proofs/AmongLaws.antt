-- The numbers of a derivation stay those of labels and terms that are listed, as it grows.
use Rattle.std.proofs.Common.{if◌then◌else◌, ◌≡◌, ℕ, ◌≤◌, List, [], ◌∷◌, ◌++◌, length, map, Bool, true, false, ◌||◌, IsTrue, Option, Some, None, nat_le, refl, ◌∙◌, ap, arith, leb-true, leb-false, flat_map}
use Rattle.std.specs.List.{list_all}
use Rattle.std.proofs.lemmas.Bool.{and_from, and_parts}
use Rattle.std.proofs.lemmas.List.{length-append}
use Rattle.std.proofs.lemmas.List.Folds.{list_all-append}
use Rattle.plain_laws.proofs.Every.{all-weaken}
use Rattle.calculus.proofs.EqualityLaws.{Tells, term_eq-tells}
use Rattle.calculus.specs.Equality.{term_eq}
use Rattle.calculus.specs.Syntax.{Term}
use Rattle.calculus.specs.Derivations.{Label, Home, anywhere, home_at, ModalArg, no_modal, to, by_new, TermArg, no_term, by_term, by_name}
use Rattle.calculus.specs.Versions.{NumberedDerivation, NumberedEigen, NumberedSpare, NumberedModal, no_numbered_modal, to_number, by_character, NumberedTerm, no_numbered_term, by_number, by_eigen, NumberedStep, numbered_use, numbered_axiom, home_number, is_among, number_in, numbered_arg, numbered_home_is_written, numbered_modal, same_label}
use Rattle.derivation_text.specs.Entering.{entered, has, with_arg, with_home, with_modal}
use Rattle.derivation_text.specs.InOrder.{arg_numbers, home_numbers, label_numbers, modal_numbers, step_label_numbers, step_term_numbers, term_numbers}
use Rattle.derivation_text.specs.Listed.{are_listed, has_home_among, is_arg_listed, is_modal_listed, may_have_home_among}
use Rattle.derivation_text.specs.NumbersView.{AreAmong}
use Rattle.derivation_text.proofs.NumberingLaws.{same_label-tells}
use Rattle.derivation_text.proofs.OrderLaws.{place-within}

-- ---- more labels and terms

le-leb : (k n : ℕ) → k ≤ n → nat_le k n ≡ true
le-leb k n h = by (nat_le k n) refl
  where
    by : (b : Bool) → nat_le k n ≡ b → b ≡ true
    by true e = refl
    by false e = absurd (omega (arith, h, leb-false k n e))

among-more : (m n k : ℕ) → m ≤ n → IsTrue (is_among m k) → IsTrue (is_among n k)
among-more m n k le h =
    let p = and_parts (nat_le 1 k) (nat_le k m) h in
    let b = leb-true k m p.1 in
    and_from (nat_le 1 k) (nat_le k n) p.0 (le-leb k n (omega (arith, le, b)))

home-more : (m n : ℕ) (home : Option ℕ) → m ≤ n → IsTrue (numbered_home_is_written m home) → IsTrue (numbered_home_is_written n home)
home-more m n None le h = refl
home-more m n (Some k) le h = among-more m n k le h

modal-more : (m n : ℕ) (x : NumberedModal) → m ≤ n → IsTrue (is_modal_listed m x) → IsTrue (is_modal_listed n x)
modal-more m n no_numbered_modal le h = refl
modal-more m n (to_number k) le h = among-more m n k le h
modal-more m n (by_character k) le h = refl

arg-more : (m n : ℕ) (x : NumberedTerm) → m ≤ n → IsTrue (is_arg_listed m x) → IsTrue (is_arg_listed n x)
arg-more m n no_numbered_term le h = refl
arg-more m n (by_number k) le h = among-more m n k le h
arg-more m n (by_eigen k) le h = refl

step-more : (a b c d : ℕ) (x : NumberedStep) → a ≤ b → c ≤ d → IsTrue (are_listed a c x) → IsTrue (are_listed b d x)
step-more a b c d (numbered_axiom n k) f g h = refl
step-more a b c d (numbered_use n m t) f g h =
    let p = and_parts (is_modal_listed a m) (is_arg_listed c t) h in
    and_from (is_modal_listed b m) (is_arg_listed d t) (modal-more a b m f p.0) (arg-more c d t g p.1)

pub all-end : {A : Type 0} (p : A → Bool) (xs : List A) (x : A) → IsTrue (list_all p xs) → IsTrue (p x) → IsTrue (list_all p (xs ++ x ∷ []))
all-end p xs x h g = list_all-append p xs (x ∷ []) ∙ and_from (list_all p xs) (list_all p (x ∷ [])) h (and_from (p x) true g refl)

-- with these lists of labels and terms, which are no shorter
abbrev pub with_lists : NumberedDerivation → List Label → List Term → NumberedDerivation
with_lists x labels terms = record { limit = x.limit; labels = labels; eigens = x.eigens; spares = x.spares; terms = terms; steps = x.steps }

pub among-lists : (x : NumberedDerivation) (labels : List Label) (terms : List Term) → length x.labels ≤ length labels → length x.terms ≤ length terms → AreAmong x → AreAmong (with_lists x labels terms)
among-lists x labels terms f g h = record {
  eigens = all-weaken (has_home_among (length x.labels)) (has_home_among (length labels)) (λ y k. among-more (length x.labels) (length labels) y.home f k) x.eigens h.eigens;
  spares = all-weaken (may_have_home_among (length x.labels)) (may_have_home_among (length labels)) (λ y k. home-more (length x.labels) (length labels) y.home f k) x.spares h.spares;
  steps = all-weaken (are_listed (length x.labels) (length x.terms)) (are_listed (length labels) (length terms)) (λ y k. step-more (length x.labels) (length labels) (length x.terms) (length terms) y f g k) x.steps h.steps;
}

pub end-longer : {A : Type 0} (xs : List A) (x : A) → length xs ≤ length (xs ++ x ∷ [])
end-longer xs x = let n = length-append xs (x ∷ []) in omega (arith, n)

-- ---- an item that is entered

pub entered-longer : {A : Type 0} (same : A → A → Bool) (xs : List A) (x : A) → length xs ≤ length (entered same xs x)
entered-longer {A} same xs x = by (has same xs x)
  where
    by : (b : Bool) → length xs ≤ length (if b then xs else xs ++ x ∷ [])
    by true = omega arith
    by false = end-longer xs x

pub has-end : {A : Type 0} (same : A → A → Bool) → Tells same → (xs : List A) (x : A) → IsTrue (has same (xs ++ x ∷ []) x)
has-end same tells [] x = ap (λ b. b || false) ((tells x x).1 refl)
has-end same tells (y ∷ ys) x = or-true (same y x) (has same (ys ++ x ∷ []) x) (has-end same tells ys x)
  where
    or-true : (a b : Bool) → IsTrue b → IsTrue (a || b)
    or-true true b h = refl
    or-true false b h = h

pub has-entered : {A : Type 0} (same : A → A → Bool) → Tells same → (xs : List A) (x : A) → IsTrue (has same (entered same xs x) x)
has-entered {A} same tells xs x = by (has same xs x) refl
  where
    by : (b : Bool) → has same xs x ≡ b → IsTrue (has same (if b then xs else xs ++ x ∷ []) x)
    by true e = e
    by false e = has-end same tells xs x

pub entered-among : {A : Type 0} (same : A → A → Bool) → Tells same → (xs : List A) (x : A) → IsTrue (is_among (length (entered same xs x)) (number_in same (entered same xs x) x))
entered-among same tells xs x =
    let w = place-within same (entered same xs x) x (has-entered same tells xs x) in
    and_from (nat_le 1 (number_in same (entered same xs x) x)) (nat_le (number_in same (entered same xs x) x) (length (entered same xs x))) (le-leb 1 (number_in same (entered same xs x) x) (omega arith)) (le-leb (number_in same (entered same xs x) x) (length (entered same xs x)) (omega (arith, w)))

pub home-longer : (L : List Label) (home : Home) → length L ≤ length (with_home L home)
home-longer L anywhere = omega arith
home-longer L (home_at w) = entered-longer same_label L w

pub home-among : (L : List Label) (home : Home) → IsTrue (numbered_home_is_written (length (with_home L home)) (home_number (with_home L home) home))
home-among L anywhere = refl
home-among L (home_at w) = entered-among same_label same_label-tells L w

pub modal-longer : (L : List Label) (m : ModalArg) → length L ≤ length (with_modal L m)
modal-longer L no_modal = omega arith
modal-longer L (to w) = entered-longer same_label L w
modal-longer L (by_new n) = omega arith

pub modal-among : (L : List Label) (m : ModalArg) → IsTrue (is_modal_listed (length (with_modal L m)) (numbered_modal (with_modal L m) m))
modal-among L no_modal = refl
modal-among L (to w) = entered-among same_label same_label-tells L w
modal-among L (by_new n) = refl

pub arg-longer : (T : List Term) (t : TermArg) → length T ≤ length (with_arg T t)
arg-longer T no_term = omega arith
arg-longer T (by_term t) = entered-longer term_eq T t
arg-longer T (by_name n) = omega arith

pub arg-among : (T : List Term) (t : TermArg) → IsTrue (is_arg_listed (length (with_arg T t)) (numbered_arg (with_arg T t) t))
arg-among T no_term = refl
arg-among T (by_term t) = entered-among term_eq term_eq-tells T t
arg-among T (by_name n) = refl

-- ---- the numbers by themselves

eigens-numbers : (n : ℕ) (es : List NumberedEigen) → IsTrue (list_all (has_home_among n) es) → IsTrue (list_all (is_among n) (map (λ (y : NumberedEigen). y.home) es))
eigens-numbers n [] h = refl
eigens-numbers n (y ∷ es) h =
    let p = and_parts (has_home_among n y) (list_all (has_home_among n) es) h in
    and_from (is_among n y.home) (list_all (is_among n) (map (λ (y : NumberedEigen). y.home) es)) p.0 (eigens-numbers n es p.1)

home-before : (n : ℕ) (home : Option ℕ) (rest : List ℕ) → IsTrue (numbered_home_is_written n home) → IsTrue (list_all (is_among n) rest) → IsTrue (list_all (is_among n) (home_numbers home ++ rest))
home-before n None rest h k = k
home-before n (Some j) rest h k = and_from (is_among n j) (list_all (is_among n) rest) h k

spares-numbers : (n : ℕ) (ss : List NumberedSpare) → IsTrue (list_all (may_have_home_among n) ss) → IsTrue (list_all (is_among n) (flat_map (λ (y : NumberedSpare). home_numbers y.home) ss))
spares-numbers n [] h = refl
spares-numbers n (y ∷ ss) h =
    let p = and_parts (may_have_home_among n y) (list_all (may_have_home_among n) ss) h in
    home-before n y.home (flat_map (λ (y : NumberedSpare). home_numbers y.home) ss) p.0 (spares-numbers n ss p.1)

modal-before : (n : ℕ) (m : NumberedModal) (rest : List ℕ) → IsTrue (is_modal_listed n m) → IsTrue (list_all (is_among n) rest) → IsTrue (list_all (is_among n) (modal_numbers m ++ rest))
modal-before n no_numbered_modal rest h k = k
modal-before n (to_number j) rest h k = and_from (is_among n j) (list_all (is_among n) rest) h k
modal-before n (by_character j) rest h k = k

arg-before : (n : ℕ) (t : NumberedTerm) (rest : List ℕ) → IsTrue (is_arg_listed n t) → IsTrue (list_all (is_among n) rest) → IsTrue (list_all (is_among n) (arg_numbers t ++ rest))
arg-before n no_numbered_term rest h k = k
arg-before n (by_number j) rest h k = and_from (is_among n j) (list_all (is_among n) rest) h k
arg-before n (by_eigen j) rest h k = k

steps-numbers : (a b : ℕ) (xs : List NumberedStep) → IsTrue (list_all (are_listed a b) xs) → IsTrue (list_all (is_among a) (flat_map step_label_numbers xs)) × IsTrue (list_all (is_among b) (flat_map step_term_numbers xs))
steps-numbers a b [] h = (refl, refl)
steps-numbers a b (numbered_axiom n k ∷ xs) h = steps-numbers a b xs h
steps-numbers a b (numbered_use n m t ∷ xs) h =
    let p = and_parts (are_listed a b (numbered_use n m t)) (list_all (are_listed a b) xs) h in
    let q = and_parts (is_modal_listed a m) (is_arg_listed b t) p.0 in
    let r = steps-numbers a b xs p.1 in
    (modal-before a m (flat_map step_label_numbers xs) q.0 r.0, arg-before b t (flat_map step_term_numbers xs) q.1 r.1)

pub among-numbers : (x : NumberedDerivation) → AreAmong x → IsTrue (list_all (is_among (length x.labels)) (label_numbers x)) × IsTrue (list_all (is_among (length x.terms)) (term_numbers x))
among-numbers x h =
    let n = length x.labels in
    let es = map (λ (y : NumberedEigen). y.home) x.eigens in
    let ss = flat_map (λ (y : NumberedSpare). home_numbers y.home) x.spares in
    let s = steps-numbers n (length x.terms) x.steps h.steps in (
      list_all-append (is_among n) (es ++ ss) (flat_map step_label_numbers x.steps)
          ∙ and_from (list_all (is_among n) (es ++ ss)) (list_all (is_among n) (flat_map step_label_numbers x.steps))
          (list_all-append (is_among n) es ss ∙ and_from (list_all (is_among n) es) (list_all (is_among n) ss) (eigens-numbers n x.eigens h.eigens) (spares-numbers n x.spares h.spares)) s.0,
      s.1,
    )
