-- The two versions of a derivation's text: the numbered form of a derivation states it, and bytes are the text of at most one version and
-- one derivation.
use Rattle.std.proofs.Common.{◌≡◌, ℕ, suc, ◌^◌, ◌<◌, ◌≤◌, List, [], ◌∷◌, ◌++◌, length, map, Bool, true, false, cond, not, ◌&&◌, ◌||◌, ◌==◌, Option, Some, None, IsTrue, refl, sym, ◌∙◌, ap, append_assoc, decimal, codes, get_or, flat_map, nat_le, lt_of_le_of_lt, ltb-true, leb-true, le-leb, arith, if◌then◌else◌}
use Rattle.std.specs.List.{list_all, list_any, filter}
use Rattle.std.proofs.lemmas.Bool.{true≢false, and_parts, and_from, or_right}
use Rattle.plain_laws.proofs.Places.{differ-at}
use Rattle.plain_laws.proofs.Every.{all-filter}
use Rattle.calculus.specs.declared.version.Version.{Version}
use Rattle.calculus.specs.declared.version.Version.TheVariants.{One, Two}
use Rattle.calculus.specs.Syntax.{Symbol, Term, spare, Problem}
use Rattle.calculus.specs.Problems.{are_distinct}
use Rattle.calculus.specs.Derivations.{character_eq, Label, Home, anywhere, home_at, EigenName, SpareName, ModalArg, no_modal, to, by_new, TermArg, no_term, by_term, by_name, Step, apply_to, close, Derivation}
use Rattle.calculus.specs.Equality.{term_eq}
use Rattle.calculus.specs.Text.{is_digit, Ends, is_number, formula_text, label_text, term_text}
use Rattle.calculus.specs.DerivationText.{setting_text, eigen_text, label_is_written, term_is_written, home_is_written, modal_is_written, term_arg_is_written, step_is_written, names_are_written, rises_from, is_limit, is_printable}
use Rattle.calculus.specs.Versions.{first_line, label_line, term_line, lines_from, NumberedEigen, NumberedSpare, NumberedModal, no_numbered_modal, to_number, by_character, NumberedTerm, no_numbered_term, by_number, by_eigen, NumberedStep, numbered_use, numbered_axiom, NumberedDerivation, numbered_eigen_line, numbered_home_text, numbered_spare_line, numbered_modal_text, numbered_term_text, numbered_step_line, numbered_head, is_among, is_count, numbered_home_is_written, numbered_modal_is_written, numbered_term_is_written, numbered_step_is_written, numbered_eigen_is_written, numbered_spare_is_written, is_written, is_printable_in, IsTextIn, numbered_texts, numbered, once, place_in, number_in, same_label, home_labels, home_number, modal_labels, step_labels, arg_terms, step_terms, numbering, stated, stated_home, stated_modal, stated_term, stated_eigen, stated_spare, stated_step, numbered_modal, numbered_arg, numbered_eigen, numbered_spare, numbered_step, labels_of, terms_of}
use Rattle.calculus.specs.FirstWrong.{line_bytes, text_of}
use Rattle.calculus.proofs.TextLaws.{cons-head, cons-tail, decimal-digits, decimal-split}
use Rattle.calculus.proofs.TermTextLaws.{ends-digit, number-split, term-split, label-split}
use Rattle.calculus.proofs.DerivationTextLaws.{entry-split, lines_on, lines_on-append, end_text, cancel, limit-small, text-unique}
use Rattle.calculus.proofs.EqualityLaws.{Tells, list_eq-tells, character_eq-tells, term_eq-tells}

-- ---- an item is found by its number

-- the item is in the list
abbrev has : {A : Type 0} → (A → A → Bool) → List A → A → Bool
has same xs x = list_any (λ y. same y x) xs

found : {A : Type 0} (same : A → A → Bool) → Tells same → (xs : List A) (x o : A) → IsTrue (has same xs x) → numbered xs (number_in same xs x) o ≡ x
found {A} same tells [] x o h = absurd (true≢false (sym h))
found {A} same tells (y ∷ ys) x o h = by (same y x) refl (found same tells ys x o)
  where
    by : (b : Bool) → same y x ≡ b → (IsTrue (has same ys x) → numbered ys (number_in same ys x) o ≡ x) → numbered (y ∷ ys) (number_in same (y ∷ ys) x) o ≡ x
    by true e rest = ap (λ c. get_or (y ∷ ys) (if c then 0 else suc (place_in same ys x)) o) e ∙ (tells y x).0 e
    by false e rest = ap (λ c. get_or (y ∷ ys) (if c then 0 else suc (place_in same ys x)) o) e ∙ rest (ap (λ c. c || has same ys x) (sym e) ∙ h)

-- ---- each item is among the items once

-- what is not the same as z stays
kept : {A : Type 0} (same : A → A → Bool) → Tells same → (z x : A) (ys : List A) → same z x ≡ false → IsTrue (has same ys x) → IsTrue (has same (filter (λ y. not (same z y)) ys) x)
kept {A} same tells z x [] apart h = h
kept {A} same tells z x (y ∷ ys) apart h = by (same y x) refl (same z y) refl (kept same tells z x ys apart)
  where
    by : (b : Bool) → same y x ≡ b → (c : Bool) → same z y ≡ c → (IsTrue (has same ys x) → IsTrue (has same (filter (λ u. not (same z u)) ys) x)) → IsTrue (has same (filter (λ u. not (same z u)) (y ∷ ys)) x)
    by true e true k rest = absurd (true≢false (sym k ∙ ap (same z) ((tells y x).0 e) ∙ apart))
    by true e false k rest = ap (λ c. has same (cond (not c) (y ∷ filter (λ u. not (same z u)) ys) (filter (λ u. not (same z u)) ys)) x) k ∙ ap (λ b. b || has same (filter (λ u. not (same z u)) ys) x) e
    by false e true k rest = ap (λ c. has same (cond (not c) (y ∷ filter (λ u. not (same z u)) ys) (filter (λ u. not (same z u)) ys)) x) k ∙ rest (ap (λ b. b || has same ys x) (sym e) ∙ h)
    by false e false k rest = ap (λ c. has same (cond (not c) (y ∷ filter (λ u. not (same z u)) ys) (filter (λ u. not (same z u)) ys)) x) k ∙ ap (λ b. b || has same (filter (λ u. not (same z u)) ys) x) e ∙ rest (ap (λ b. b || has same ys x) (sym e) ∙ h)

once-has : {A : Type 0} (same : A → A → Bool) → Tells same → (xs : List A) (x : A) → IsTrue (has same xs x) → IsTrue (has same (once same xs) x)
once-has {A} same tells [] x h = h
once-has {A} same tells (z ∷ zs) x h = by (same z x) refl (once-has same tells zs x)
  where
    by : (b : Bool) → same z x ≡ b → (IsTrue (has same zs x) → IsTrue (has same (once same zs) x)) → IsTrue (has same (once same (z ∷ zs)) x)
    by true e rest = ap (λ b. b || has same (filter (λ y. not (same z y)) (once same zs)) x) e
    by false e rest = ap (λ b. b || has same (filter (λ y. not (same z y)) (once same zs)) x) e ∙ kept same tells z x (once same zs) e (rest (ap (λ b. b || has same zs x) (sym e) ∙ h))

-- each of zs is in xs
all-in : {A : Type 0} (same : A → A → Bool) → Tells same → (zs xs : List A) → ((x : A) → IsTrue (has same zs x) → IsTrue (has same xs x)) → IsTrue (list_all (has same xs) zs)
all-in same tells [] xs into = refl
all-in same tells (z ∷ zs) xs into = and_from (has same xs z) (list_all (has same xs) zs) (into z (ap (λ b. b || has same zs z) ((tells z z).1 refl))) (all-in same tells zs xs (λ x h. into x (or_right (same z x) (has same zs x) h)))

all-once : {A : Type 0} (same : A → A → Bool) → Tells same → (xs : List A) → IsTrue (list_all (has same (once same xs)) xs)
all-once same tells xs = all-in same tells xs (once same xs) (once-has same tells xs)

-- ---- the numbered form states its derivation

same_label-tells : Tells same_label
same_label-tells = list_eq-tells character_eq character_eq-tells

label-found : (L : List Label) (w : Label) → IsTrue (has same_label L w) → numbered L (number_in same_label L w) [] ≡ w
label-found L w h = found same_label same_label-tells L w [] h

stated-steps : (L : List Label) (T : List Term) (xs : List Step) → IsTrue (list_all (has same_label L) (flat_map step_labels xs)) → IsTrue (list_all (has term_eq T) (flat_map step_terms xs)) → map (stated_step L T) (map (numbered_step L T) xs) ≡ xs
stated-steps L T [] h k = refl
stated-steps L T (close n m ∷ xs) h k = ap (λ ys. close n m ∷ ys) (stated-steps L T xs h k)
stated-steps L T (apply_to n m t ∷ xs) h k =
    let a = modal m h in
    let b = arg t k in
    let rest = stated-steps L T xs a.1 b.1 in
    λ i. apply_to n (a.0 i) (b.0 i) ∷ rest i
  where
    modal : (m : ModalArg) → IsTrue (list_all (has same_label L) (modal_labels m ++ flat_map step_labels xs)) → (stated_modal L (numbered_modal L m) ≡ m) × IsTrue (list_all (has same_label L) (flat_map step_labels xs))
    modal no_modal g = (refl, g)
    modal (by_new c) g = (refl, g)
    modal (to w) g = let p = and_parts (has same_label L w) (list_all (has same_label L) (flat_map step_labels xs)) g in (ap to (label-found L w p.0), p.1)

    arg : (t : TermArg) → IsTrue (list_all (has term_eq T) (arg_terms t ++ flat_map step_terms xs)) → (stated_term T (numbered_arg T t) ≡ t) × IsTrue (list_all (has term_eq T) (flat_map step_terms xs))
    arg no_term g = (refl, g)
    arg (by_name c) g = (refl, g)
    arg (by_term u) g = let p = and_parts (has term_eq T u) (list_all (has term_eq T) (flat_map step_terms xs)) g in (ap by_term (found term_eq term_eq-tells T u (spare 0) p.0), p.1)

stated-spares : (L : List Label) (xs : List SpareName) (rest : List Label) → IsTrue (list_all (has same_label L) (flat_map (λ (x : SpareName). home_labels x.home) xs ++ rest)) → (map (stated_spare L) (map (numbered_spare L) xs) ≡ xs) × IsTrue (list_all (has same_label L) rest)
stated-spares L [] rest h = (refl, h)
stated-spares L (x ∷ xs) rest h = by x.home refl (stated-spares L xs rest)
  where
    by : (home : Home) → x.home ≡ home → (IsTrue (list_all (has same_label L) (flat_map (λ (y : SpareName). home_labels y.home) xs ++ rest)) → (map (stated_spare L) (map (numbered_spare L) xs) ≡ xs) × IsTrue (list_all (has same_label L) rest)) → (map (stated_spare L) (map (numbered_spare L) (x ∷ xs)) ≡ x ∷ xs) × IsTrue (list_all (has same_label L) rest)
    by anywhere e next =
        let g : IsTrue (list_all (has same_label L) (flat_map (λ (y : SpareName). home_labels y.home) xs ++ rest)) = ap (λ (k : Home). list_all (has same_label L) ((home_labels k ++ flat_map (λ (y : SpareName). home_labels y.home) xs) ++ rest)) (sym e) ∙ h in
        let r = next g in
        let same : stated_home L (home_number L x.home) ≡ x.home = ap (λ (k : Home). stated_home L (home_number L k)) e ∙ sym e in
        ((λ i. record { number = x.number; home = same i } ∷ r.0 i), r.1)
    by (home_at w) e next =
        let g : IsTrue (list_all (has same_label L) (w ∷ (flat_map (λ (y : SpareName). home_labels y.home) xs ++ rest))) = ap (λ (k : Home). list_all (has same_label L) ((home_labels k ++ flat_map (λ (y : SpareName). home_labels y.home) xs) ++ rest)) (sym e) ∙ h in
        let p = and_parts (has same_label L w) (list_all (has same_label L) (flat_map (λ (y : SpareName). home_labels y.home) xs ++ rest)) g in
        let r = next p.1 in
        let same : stated_home L (home_number L x.home) ≡ x.home = ap (λ (k : Home). stated_home L (home_number L k)) e ∙ ap home_at (label-found L w p.0) ∙ sym e in
        ((λ i. record { number = x.number; home = same i } ∷ r.0 i), r.1)

stated-eigens : (L : List Label) (xs : List EigenName) (rest : List Label) → IsTrue (list_all (has same_label L) (map (λ (x : EigenName). x.home) xs ++ rest)) → (map (stated_eigen L) (map (numbered_eigen L) xs) ≡ xs) × IsTrue (list_all (has same_label L) rest)
stated-eigens L [] rest h = (refl, h)
stated-eigens L (x ∷ xs) rest h =
    let p = and_parts (has same_label L x.home) (list_all (has same_label L) (map (λ (y : EigenName). y.home) xs ++ rest)) h in
    let r = stated-eigens L xs rest p.1 in
    let same = label-found L x.home p.0 in
    ((λ i. record { number = x.number; home = same i } ∷ r.0 i), r.1)

-- the numbered form of a derivation states the derivation
pub stated-numbering : (d : Derivation) → stated (numbering d) ≡ d
stated-numbering d =
    let L = once same_label (labels_of d) in
    let T = once term_eq (terms_of d) in
    let spares = flat_map (λ (x : SpareName). home_labels x.home) d.names.spares in
    let es = stated-eigens L d.names.eigens (spares ++ flat_map step_labels d.steps) (ap (list_all (has same_label L)) (sym (append_assoc (map (λ (x : EigenName). x.home) d.names.eigens) spares (flat_map step_labels d.steps))) ∙ all-once same_label same_label-tells (labels_of d)) in
    let ss = stated-spares L d.names.spares (flat_map step_labels d.steps) es.1 in
    let xs = stated-steps L T d.steps ss.1 (all-once term_eq term_eq-tells (terms_of d)) in
    λ i. record { limit = d.limit; names = record { eigens = es.0 i; spares = ss.0 i }; steps = xs i }

-- ---- the lines of a text in version 2 are read in one way

-- lines of one kind, behind which stands none of this kind
pub kind-split : {A : Type 0} (f : A → List ℕ) (W : A → Bool) → ((x y : A) (r s : List ℕ) → IsTrue (W x) → IsTrue (W y) → f x ++ 10 ∷ r ≡ f y ++ 10 ∷ s → (x ≡ y) × (r ≡ s)) → (xs ys : List A) (r s : List ℕ) → ((x : A) (q : List ℕ) → r ≡ f x ++ 10 ∷ q → ⊥) → ((x : A) (q : List ℕ) → s ≡ f x ++ 10 ∷ q → ⊥) → IsTrue (list_all W xs) → IsTrue (list_all W ys) → lines_on (map f xs) r ≡ lines_on (map f ys) s → (xs ≡ ys) × (r ≡ s)
kind-split f W split [] [] r s no_r no_s hx hy e = (refl, e)
kind-split f W split [] (y ∷ ys) r s no_r no_s hx hy e = absurd (no_r y _ e)
kind-split f W split (x ∷ xs) [] r s no_r no_s hx hy e = absurd (no_s x _ (sym e))
kind-split f W split (x ∷ xs) (y ∷ ys) r s no_r no_s hx hy e =
    let px = and_parts (W x) (list_all W xs) hx in
    let py = and_parts (W y) (list_all W ys) hy in
    let first = split x y (lines_on (map f xs) r) (lines_on (map f ys) s) px.0 py.0 e in
    let rest = kind-split f W split xs ys r s no_r no_s px.1 py.1 first.1 in
    ((λ i. first.0 i ∷ rest.0 i), rest.1)

-- numbered lines of one kind
from-split : {A : Type 0} (f : ℕ → A → List ℕ) (W : A → Bool) → ((k : ℕ) (x y : A) (r s : List ℕ) → IsTrue (W x) → IsTrue (W y) → f k x ++ 10 ∷ r ≡ f k y ++ 10 ∷ s → (x ≡ y) × (r ≡ s)) → (k : ℕ) (xs ys : List A) (r s : List ℕ) → ((j : ℕ) (x : A) (q : List ℕ) → r ≡ f j x ++ 10 ∷ q → ⊥) → ((j : ℕ) (x : A) (q : List ℕ) → s ≡ f j x ++ 10 ∷ q → ⊥) → IsTrue (list_all W xs) → IsTrue (list_all W ys) → lines_on (lines_from f k xs) r ≡ lines_on (lines_from f k ys) s → (xs ≡ ys) × (r ≡ s)
from-split f W split k [] [] r s no_r no_s hx hy e = (refl, e)
from-split f W split k [] (y ∷ ys) r s no_r no_s hx hy e = absurd (no_r k y _ e)
from-split f W split k (x ∷ xs) [] r s no_r no_s hx hy e = absurd (no_s k x _ (sym e))
from-split f W split k (x ∷ xs) (y ∷ ys) r s no_r no_s hx hy e =
    let px = and_parts (W x) (list_all W xs) hx in
    let py = and_parts (W y) (list_all W ys) hy in
    let first = split k x y (lines_on (lines_from f (suc k) xs) r) (lines_on (lines_from f (suc k) ys) s) px.0 py.0 e in
    let rest = from-split f W split (suc k) xs ys r s no_r no_s px.1 py.1 first.1 in
    ((λ i. first.0 i ∷ rest.0 i), rest.1)

-- ---- one line of each kind

label-line-split : (k : ℕ) (x y : Label) (r s : List ℕ) → IsTrue (label_is_written x) → IsTrue (label_is_written y) → label_line k x ++ 10 ∷ r ≡ label_line k y ++ 10 ∷ s → (x ≡ y) × (r ≡ s)
label-line-split k x y r s hx hy e =
    let head = codes "label " ++ decimal k ++ codes " " in
    let f = cancel head _ _ (sym (append_assoc head (label_text x) (10 ∷ r)) ∙ e ∙ append_assoc head (label_text y) (10 ∷ s)) in
    let p = label-split x y (10 ∷ r) (10 ∷ s) hx hy f in
    (p.0, cons-tail p.1)

term-line-split : (S : List Symbol) → IsTrue (are_distinct S) → (k : ℕ) (x y : Term) (r s : List ℕ) → IsTrue (term_is_written S x) → IsTrue (term_is_written S y) → term_line S k x ++ 10 ∷ r ≡ term_line S k y ++ 10 ∷ s → (x ≡ y) × (r ≡ s)
term-line-split S d k x y r s hx hy e =
    let head = codes "term " ++ decimal k ++ codes " " in
    let f = cancel head _ _ (sym (append_assoc head (term_text S 0 x) (10 ∷ r)) ∙ e ∙ append_assoc head (term_text S 0 y) (10 ∷ s)) in
    let p = term-split S d x y (10 ∷ r) (10 ∷ s) hx hy refl refl f in
    (p.0, cons-tail p.1)

-- a number of one of as many things as can be counted
among-split : (n : ℕ) → IsTrue (is_count n) → (j k : ℕ) (r s : List ℕ) → IsTrue (is_among n j) → IsTrue (is_among n k) → Ends r → Ends s → decimal j ++ r ≡ decimal k ++ s → (j ≡ k) × (r ≡ s)
among-split n c j k r s hj hk hr hs e = decimal-split j k r s (small j hj) (small k hk) (ends-digit r hr) (ends-digit s hs) e
  where
    small : (m : ℕ) → IsTrue (is_among n m) → m < 2 ^ 64
    small m h = lt_of_le_of_lt (leb-true m n (and_parts (nat_le 1 m) (nat_le m n) h).1) (ltb-true n (2 ^ 64) c)

number-small : (n : ℕ) → IsTrue (is_count n) → (m : ℕ) → IsTrue (is_among n m) → m < 2 ^ 64
number-small n c m h = lt_of_le_of_lt (leb-true m n (and_parts (nat_le 1 m) (nat_le m n) h).1) (ltb-true n (2 ^ 64) c)

-- digits, then a line feed, do not begin with a letter
any-digit : (k : ℕ) (r s : List ℕ) → k < 2 ^ 64 → codes "any" ++ r ≡ decimal k ++ 10 ∷ s → ⊥
any-digit k r s h e = by (decimal k) (decimal-digits k h) e
  where
    by : (ds : List ℕ) → IsTrue (list_all is_digit ds) → codes "any" ++ r ≡ ds ++ 10 ∷ s → ⊥
    by [] g f = differ-at _ _ 0 f refl
    by (d ∷ ds) g f = true≢false (sym (and_parts (is_digit d) (list_all is_digit ds) g).0 ∙ ap is_digit (sym (cons-head f)))

home-number-split : (n : ℕ) → IsTrue (is_count n) → (j k : Option ℕ) (r s : List ℕ) → IsTrue (numbered_home_is_written n j) → IsTrue (numbered_home_is_written n k) → numbered_home_text j ++ 10 ∷ r ≡ numbered_home_text k ++ 10 ∷ s → (j ≡ k) × (r ≡ s)
home-number-split n c None None r s hj hk e = (refl, cons-tail (cons-tail (cons-tail (cons-tail e))))
home-number-split n c None (Some k) r s hj hk e = absurd (any-digit k (10 ∷ r) s (number-small n c k hk) e)
home-number-split n c (Some j) None r s hj hk e = absurd (any-digit j (10 ∷ s) r (number-small n c j hj) (sym e))
home-number-split n c (Some j) (Some k) r s hj hk e = let p = among-split n c j k (10 ∷ r) (10 ∷ s) hj hk refl refl e in (ap Some p.0, cons-tail p.1)

pub numbered-eigen-on : (x : NumberedEigen) (r : List ℕ) → numbered_eigen_line x ++ r ≡ codes "name $$e" ++ (decimal x.number ++ (32 ∷ (decimal x.home ++ r)))
numbered-eigen-on x r = append_assoc (codes "name " ++ eigen_text x.number ++ codes " ") (decimal x.home) r ∙ append_assoc (codes "name " ++ eigen_text x.number) (codes " ") (decimal x.home ++ r)

numbered-eigen-split : (n : ℕ) → IsTrue (is_count n) → (x y : NumberedEigen) (r s : List ℕ) → IsTrue (numbered_eigen_is_written n x) → IsTrue (numbered_eigen_is_written n y) → numbered_eigen_line x ++ 10 ∷ r ≡ numbered_eigen_line y ++ 10 ∷ s → (x ≡ y) × (r ≡ s)
numbered-eigen-split n c x y r s hx hy e =
    let f = cons-tail (cons-tail (cons-tail (cons-tail (cons-tail (cons-tail (cons-tail (cons-tail (sym (numbered-eigen-on x (10 ∷ r)) ∙ e ∙ numbered-eigen-on y (10 ∷ s))))))))) in
    let px = and_parts (is_number x.number) (is_among n x.home) hx in
    let py = and_parts (is_number y.number) (is_among n y.home) hy in
    let first = entry-split x.number y.number (32 ∷ (decimal x.home ++ 10 ∷ r)) (32 ∷ (decimal y.home ++ 10 ∷ s)) px.0 py.0 refl refl f in
    let second = among-split n c x.home y.home (10 ∷ r) (10 ∷ s) px.1 py.1 refl refl (cons-tail first.1) in
    ((λ i. record { number = first.0 i; home = second.0 i }), cons-tail second.1)

pub numbered-spare-on : (x : NumberedSpare) (r : List ℕ) → numbered_spare_line x ++ r ≡ codes "name $$s" ++ (decimal x.number ++ (32 ∷ (numbered_home_text x.home ++ r)))
numbered-spare-on x r = append_assoc (codes "name $$s" ++ decimal x.number ++ codes " ") (numbered_home_text x.home) r ∙ append_assoc (codes "name $$s" ++ decimal x.number) (codes " ") (numbered_home_text x.home ++ r) ∙ append_assoc (codes "name $$s") (decimal x.number) (32 ∷ (numbered_home_text x.home ++ r))

numbered-spare-split : (n : ℕ) → IsTrue (is_count n) → (x y : NumberedSpare) (r s : List ℕ) → IsTrue (numbered_spare_is_written n x) → IsTrue (numbered_spare_is_written n y) → numbered_spare_line x ++ 10 ∷ r ≡ numbered_spare_line y ++ 10 ∷ s → (x ≡ y) × (r ≡ s)
numbered-spare-split n c x y r s hx hy e =
    let f = cons-tail (cons-tail (cons-tail (cons-tail (cons-tail (cons-tail (cons-tail (cons-tail (sym (numbered-spare-on x (10 ∷ r)) ∙ e ∙ numbered-spare-on y (10 ∷ s))))))))) in
    let px = and_parts (is_number x.number) (numbered_home_is_written n x.home) hx in
    let py = and_parts (is_number y.number) (numbered_home_is_written n y.home) hy in
    let first = entry-split x.number y.number (32 ∷ (numbered_home_text x.home ++ 10 ∷ r)) (32 ∷ (numbered_home_text y.home ++ 10 ∷ s)) px.0 py.0 refl refl f in
    let second = home-number-split n c x.home y.home r s px.1 py.1 (cons-tail first.1) in
    ((λ i. record { number = first.0 i; home = second.0 i }), second.1)

-- ---- steps

numbered-arg-split : (n : ℕ) → IsTrue (is_count n) → (t u : NumberedTerm) (r s : List ℕ) → IsTrue (numbered_term_is_written n t) → IsTrue (numbered_term_is_written n u) → numbered_term_text t ++ 10 ∷ r ≡ numbered_term_text u ++ 10 ∷ s → (t ≡ u) × (r ≡ s)
numbered-arg-split n c no_numbered_term no_numbered_term r s ht hu e = (refl, cons-tail e)
numbered-arg-split n c no_numbered_term (by_number j) r s ht hu e = absurd (differ-at _ _ 0 e refl)
numbered-arg-split n c no_numbered_term (by_eigen j) r s ht hu e = absurd (differ-at _ _ 0 e refl)
numbered-arg-split n c (by_number k) no_numbered_term r s ht hu e = absurd (differ-at _ _ 0 e refl)
numbered-arg-split n c (by_number k) (by_number j) r s ht hu e =
    let p = among-split n c k j (10 ∷ r) (10 ∷ s) ht hu refl refl (cancel (codes " term ") _ _ e) in (ap by_number p.0, cons-tail p.1)
numbered-arg-split n c (by_number k) (by_eigen j) r s ht hu e = absurd (differ-at _ _ 1 e refl)
numbered-arg-split n c (by_eigen k) no_numbered_term r s ht hu e = absurd (differ-at _ _ 0 e refl)
numbered-arg-split n c (by_eigen k) (by_number j) r s ht hu e = absurd (differ-at _ _ 1 e refl)
numbered-arg-split n c (by_eigen k) (by_eigen j) r s ht hu e =
    let p = number-split k j (10 ∷ r) (10 ∷ s) ht hu refl refl (cancel (codes " name $$e") _ _ e) in (ap by_eigen p.0, cons-tail p.1)

pub arg-no_to : (t : NumberedTerm) (k : ℕ) (r s : List ℕ) → numbered_term_text t ++ 10 ∷ r ≡ numbered_modal_text (to_number k) ++ s → ⊥
arg-no_to no_numbered_term k r s e = differ-at _ _ 0 e refl
arg-no_to (by_number j) k r s e = differ-at _ _ 2 e refl
arg-no_to (by_eigen j) k r s e = differ-at _ _ 1 e refl

pub arg-no_character : (t : NumberedTerm) (k : ℕ) (r s : List ℕ) → numbered_term_text t ++ 10 ∷ r ≡ numbered_modal_text (by_character k) ++ s → ⊥
arg-no_character no_numbered_term k r s e = differ-at _ _ 0 e refl
arg-no_character (by_number j) k r s e = differ-at _ _ 1 e refl
arg-no_character (by_eigen j) k r s e = differ-at _ _ 2 e refl

arg-ends : (t : NumberedTerm) (r : List ℕ) → Ends (numbered_term_text t ++ 10 ∷ r)
arg-ends no_numbered_term r = refl
arg-ends (by_number k) r = refl
arg-ends (by_eigen k) r = refl

args-end : (m : NumberedModal) (t : NumberedTerm) (r : List ℕ) → Ends (numbered_modal_text m ++ (numbered_term_text t ++ 10 ∷ r))
args-end no_numbered_modal t r = arg-ends t r
args-end (to_number k) t r = refl
args-end (by_character k) t r = refl

numbered-args-split : (a b : ℕ) → IsTrue (is_count a) → IsTrue (is_count b) → (m n : NumberedModal) (t u : NumberedTerm) (r s : List ℕ) → IsTrue (numbered_modal_is_written a m) → IsTrue (numbered_modal_is_written a n) → IsTrue (numbered_term_is_written b t) → IsTrue (numbered_term_is_written b u) → numbered_modal_text m ++ (numbered_term_text t ++ 10 ∷ r) ≡ numbered_modal_text n ++ (numbered_term_text u ++ 10 ∷ s) → (m ≡ n) × (t ≡ u) × (r ≡ s)
numbered-args-split a b ca cb no_numbered_modal no_numbered_modal t u r s hm hn ht hu e = let p = numbered-arg-split b cb t u r s ht hu e in (refl, p.0, p.1)
numbered-args-split a b ca cb no_numbered_modal (to_number j) t u r s hm hn ht hu e = absurd (arg-no_to t j r _ e)
numbered-args-split a b ca cb no_numbered_modal (by_character j) t u r s hm hn ht hu e = absurd (arg-no_character t j r _ e)
numbered-args-split a b ca cb (to_number k) no_numbered_modal t u r s hm hn ht hu e = absurd (arg-no_to u k s _ (sym e))
numbered-args-split a b ca cb (to_number k) (to_number j) t u r s hm hn ht hu e =
    let first = among-split a ca k j (numbered_term_text t ++ 10 ∷ r) (numbered_term_text u ++ 10 ∷ s) hm hn (arg-ends t r) (arg-ends u s) (cancel (codes " to ") _ _ e) in
    let rest = numbered-arg-split b cb t u r s ht hu first.1 in
    (ap to_number first.0, rest.0, rest.1)
numbered-args-split a b ca cb (to_number k) (by_character j) t u r s hm hn ht hu e = absurd (differ-at _ _ 1 e refl)
numbered-args-split a b ca cb (by_character k) no_numbered_modal t u r s hm hn ht hu e = absurd (arg-no_character u k s _ (sym e))
numbered-args-split a b ca cb (by_character k) (to_number j) t u r s hm hn ht hu e = absurd (differ-at _ _ 1 e refl)
numbered-args-split a b ca cb (by_character k) (by_character j) t u r s hm hn ht hu e =
    let first = number-split k j (numbered_term_text t ++ 10 ∷ r) (numbered_term_text u ++ 10 ∷ s) hm hn (arg-ends t r) (arg-ends u s) (cancel (codes " new $$c") _ _ e) in
    let rest = numbered-arg-split b cb t u r s ht hu first.1 in
    (ap by_character first.0, rest.0, rest.1)

pub numbered-use-on : (n : ℕ) (m : NumberedModal) (t : NumberedTerm) (r : List ℕ) → numbered_step_line (numbered_use n m t) ++ r ≡ codes "use " ++ (decimal n ++ (numbered_modal_text m ++ (numbered_term_text t ++ r)))
numbered-use-on n m t r = append_assoc (codes "use " ++ decimal n ++ numbered_modal_text m) (numbered_term_text t) r ∙ append_assoc (codes "use " ++ decimal n) (numbered_modal_text m) (numbered_term_text t ++ r) ∙ append_assoc (codes "use ") (decimal n) (numbered_modal_text m ++ (numbered_term_text t ++ r))

pub numbered-axiom-on : (n k : ℕ) (r : List ℕ) → numbered_step_line (numbered_axiom n k) ++ r ≡ codes "axiom " ++ (decimal n ++ (32 ∷ (decimal k ++ r)))
numbered-axiom-on n k r = append_assoc (codes "axiom " ++ decimal n ++ codes " ") (decimal k) r ∙ append_assoc (codes "axiom " ++ decimal n) (codes " ") (decimal k ++ r) ∙ append_assoc (codes "axiom ") (decimal n) (32 ∷ (decimal k ++ r))

numbered-step-split : (a b : ℕ) → IsTrue (is_count a) → IsTrue (is_count b) → (x y : NumberedStep) (r s : List ℕ) → IsTrue (numbered_step_is_written a b x) → IsTrue (numbered_step_is_written a b y) → numbered_step_line x ++ 10 ∷ r ≡ numbered_step_line y ++ 10 ∷ s → (x ≡ y) × (r ≡ s)
numbered-step-split a b ca cb (numbered_use n m t) (numbered_use k j u) r s hx hy e =
    let f = cancel (codes "use ") _ _ (sym (numbered-use-on n m t (10 ∷ r)) ∙ e ∙ numbered-use-on k j u (10 ∷ s)) in
    let px = and_parts (is_number n && numbered_modal_is_written a m) (numbered_term_is_written b t) hx in
    let py = and_parts (is_number k && numbered_modal_is_written a j) (numbered_term_is_written b u) hy in
    let qx = and_parts (is_number n) (numbered_modal_is_written a m) px.0 in
    let qy = and_parts (is_number k) (numbered_modal_is_written a j) py.0 in
    let first = entry-split n k (numbered_modal_text m ++ (numbered_term_text t ++ 10 ∷ r)) (numbered_modal_text j ++ (numbered_term_text u ++ 10 ∷ s)) qx.0 qy.0 (args-end m t r) (args-end j u s) f in
    let rest = numbered-args-split a b ca cb m j t u r s qx.1 qy.1 px.1 py.1 first.1 in
    ((λ i. numbered_use (first.0 i) (rest.0 i) (rest.1 i)), rest.2)
numbered-step-split a b ca cb (numbered_use n m t) (numbered_axiom k j) r s hx hy e = absurd (differ-at _ _ 0 e refl)
numbered-step-split a b ca cb (numbered_axiom n k) (numbered_use j m t) r s hx hy e = absurd (differ-at _ _ 0 e refl)
numbered-step-split a b ca cb (numbered_axiom n k) (numbered_axiom i j) r s hx hy e =
    let f = cancel (codes "axiom ") _ _ (sym (numbered-axiom-on n k (10 ∷ r)) ∙ e ∙ numbered-axiom-on i j (10 ∷ s)) in
    let px = and_parts (is_number n) (is_number k) hx in
    let py = and_parts (is_number i) (is_number j) hy in
    let first = entry-split n i (32 ∷ (decimal k ++ 10 ∷ r)) (32 ∷ (decimal j ++ 10 ∷ s)) px.0 py.0 refl refl f in
    let second = entry-split k j (10 ∷ r) (10 ∷ s) px.1 py.1 refl refl (cons-tail first.1) in
    ((λ z. numbered_axiom (first.0 z) (second.0 z)), cons-tail second.1)

-- ---- the parts of a text, each in front of the rest

abbrev part_steps : List NumberedStep → List ℕ
part_steps xs = lines_on (map numbered_step_line xs) end_text

abbrev part_terms : List Symbol → List Term → List NumberedStep → List ℕ
part_terms S ts xs = lines_on (lines_from (term_line S) 1 ts) (part_steps xs)

abbrev part_spares : List Symbol → List NumberedSpare → List Term → List NumberedStep → List ℕ
part_spares S ss ts xs = lines_on (map numbered_spare_line ss) (part_terms S ts xs)

abbrev part_eigens : List Symbol → List NumberedEigen → List NumberedSpare → List Term → List NumberedStep → List ℕ
part_eigens S es ss ts xs = lines_on (map numbered_eigen_line es) (part_spares S ss ts xs)

abbrev part_labels : List Symbol → NumberedDerivation → List ℕ
part_labels S x = lines_on (lines_from label_line 1 x.labels) (part_eigens S x.eigens x.spares x.terms x.steps)

numbered-parts : (P : Problem) (x : NumberedDerivation) → text_of (numbered_texts P) x ≡ lines_on (numbered_head P x.limit) (part_labels P.symbols x)
numbered-parts P x =
    let head = numbered_head P x.limit in
    let ls = lines_from label_line 1 x.labels in
    let es = map numbered_eigen_line x.eigens in
    let ss = map numbered_spare_line x.spares in
    let ts = lines_from (term_line P.symbols) 1 x.terms in
    let xs = map numbered_step_line x.steps in
    let last = codes "end" ∷ [] in
    ap (flat_map line_bytes) (append_assoc ((((head ++ ls) ++ es) ++ ss) ++ ts) xs last ∙ append_assoc (((head ++ ls) ++ es) ++ ss) ts (xs ++ last) ∙ append_assoc ((head ++ ls) ++ es) ss (ts ++ (xs ++ last)) ∙ append_assoc (head ++ ls) es (ss ++ (ts ++ (xs ++ last))) ∙ append_assoc head ls (es ++ (ss ++ (ts ++ (xs ++ last)))))
    ∙ lines_on-append head (ls ++ (es ++ (ss ++ (ts ++ (xs ++ last)))))
    ∙ ap (lines_on head) (lines_on-append ls (es ++ (ss ++ (ts ++ (xs ++ last)))) ∙ ap (lines_on ls) (lines_on-append es (ss ++ (ts ++ (xs ++ last))) ∙ ap (lines_on es) (lines_on-append ss (ts ++ (xs ++ last)) ∙ ap (lines_on ss) (lines_on-append ts (xs ++ last) ∙ ap (lines_on ts) (lines_on-append xs last)))))

-- no part begins with the first byte of a kind of line that stands before it: steps and the end with neither `l`, `n` nor `t`
steps-begin : (b : ℕ) → (117 == b) ≡ false → (97 == b) ≡ false → (101 == b) ≡ false → (xs : List NumberedStep) (q : List ℕ) → part_steps xs ≡ b ∷ q → ⊥
steps-begin b u a n [] q e = differ-at _ _ 0 e n
steps-begin b u a n (numbered_use k m t ∷ xs) q e = differ-at _ _ 0 e u
steps-begin b u a n (numbered_axiom k j ∷ xs) q e = differ-at _ _ 0 e a

terms-begin : (S : List Symbol) (b : ℕ) → (117 == b) ≡ false → (97 == b) ≡ false → (101 == b) ≡ false → (116 == b) ≡ false → (ts : List Term) (xs : List NumberedStep) (q : List ℕ) → part_terms S ts xs ≡ b ∷ q → ⊥
terms-begin S b u a n t [] xs q e = steps-begin b u a n xs q e
terms-begin S b u a n t (y ∷ ts) xs q e = differ-at _ _ 0 e t

spares-no_label : (S : List Symbol) (ss : List NumberedSpare) (ts : List Term) (xs : List NumberedStep) (q : List ℕ) → part_spares S ss ts xs ≡ 108 ∷ q → ⊥
spares-no_label S [] ts xs q e = terms-begin S 108 refl refl refl refl ts xs q e
spares-no_label S (x ∷ ss) ts xs q e = differ-at _ _ 0 e refl

eigens-no_label : (S : List Symbol) (es : List NumberedEigen) (ss : List NumberedSpare) (ts : List Term) (xs : List NumberedStep) (q : List ℕ) → part_eigens S es ss ts xs ≡ 108 ∷ q → ⊥
eigens-no_label S [] ss ts xs q e = spares-no_label S ss ts xs q e
eigens-no_label S (x ∷ es) ss ts xs q e = differ-at _ _ 0 e refl

spares-no_eigen : (S : List Symbol) (ss : List NumberedSpare) (ts : List Term) (xs : List NumberedStep) (x : NumberedEigen) (q : List ℕ) → part_spares S ss ts xs ≡ numbered_eigen_line x ++ 10 ∷ q → ⊥
spares-no_eigen S [] ts xs x q e = terms-begin S 110 refl refl refl refl ts xs _ e
spares-no_eigen S (y ∷ ss) ts xs x q e = differ-at _ _ 7 e refl

end-no_step : (x : NumberedStep) (q : List ℕ) → end_text ≡ numbered_step_line x ++ 10 ∷ q → ⊥
end-no_step (numbered_use n m t) q e = differ-at _ _ 0 e refl
end-no_step (numbered_axiom n k) q e = differ-at _ _ 0 e refl

-- ---- the law of the form

record WrittenParts (P : Problem) (x : NumberedDerivation) : Type 0 where
  limit : IsTrue (is_limit x.limit)
  label_count : IsTrue (is_count (length x.labels))
  labels : IsTrue (list_all label_is_written x.labels)
  eigens : IsTrue (list_all (numbered_eigen_is_written (length x.labels)) x.eigens)
  spares : IsTrue (list_all (numbered_spare_is_written (length x.labels)) x.spares)
  term_count : IsTrue (is_count (length x.terms))
  terms : IsTrue (list_all (term_is_written P.symbols) x.terms)
  steps : IsTrue (list_all (numbered_step_is_written (length x.labels) (length x.terms)) x.steps)

written-parts : (P : Problem) (x : NumberedDerivation) → IsTrue (is_written P x) → WrittenParts P x
written-parts P x h =
    let e = and_parts _ (list_all (numbered_step_is_written (length x.labels) (length x.terms)) x.steps) h in
    let d = and_parts _ (is_count (length x.terms) && list_all (term_is_written P.symbols) x.terms) e.0 in
    let c = and_parts _ (rises_from 0 (map (λ (y : NumberedSpare). y.number) x.spares) && list_all (numbered_spare_is_written (length x.labels)) x.spares) d.0 in
    let b = and_parts _ (rises_from 0 (map (λ (y : NumberedEigen). y.number) x.eigens) && list_all (numbered_eigen_is_written (length x.labels)) x.eigens) c.0 in
    let a = and_parts (is_limit x.limit) (is_count (length x.labels) && list_all label_is_written x.labels) b.0 in
    let ls = and_parts (is_count (length x.labels)) (list_all label_is_written x.labels) a.1 in
    let es = and_parts (rises_from 0 (map (λ (y : NumberedEigen). y.number) x.eigens)) (list_all (numbered_eigen_is_written (length x.labels)) x.eigens) b.1 in
    let ss = and_parts (rises_from 0 (map (λ (y : NumberedSpare). y.number) x.spares)) (list_all (numbered_spare_is_written (length x.labels)) x.spares) c.1 in
    let ts = and_parts (is_count (length x.terms)) (list_all (term_is_written P.symbols) x.terms) d.1 in
    record { limit = a.0; label_count = ls.0; labels = ls.1; eigens = es.1; spares = ss.1; term_count = ts.0; terms = ts.1; steps = e.1 }

numbered-head-split : (P : Problem) (m n : ℕ) (r s : List ℕ) → IsTrue (is_limit m) → IsTrue (is_limit n) → lines_on (numbered_head P m) r ≡ lines_on (numbered_head P n) s → (m ≡ n) × (r ≡ s)
numbered-head-split P m n r s hm hn e =
    let e1 = cons-tail (cancel (first_line Two) _ _ e) in
    let e2 = cons-tail (cancel (codes "logic " ++ setting_text P.setting) _ _ e1) in
    let e3 = cons-tail (cancel (codes "formula " ++ formula_text P.symbols 0 P.formula) _ _ e2) in
    let e4 = cancel (codes "limit ") (decimal m ++ 10 ∷ r) (decimal n ++ 10 ∷ s) e3 in
    let k = entry-split m n (10 ∷ r) (10 ∷ s) (limit-small m hm) (limit-small n hn) refl refl e4 in
    (k.0, cons-tail k.1)

-- one text has one derivation with numbers
pub numbered-unique : (P : Problem) → IsTrue (are_distinct P.symbols) → (x y : NumberedDerivation) → IsTrue (is_written P x) → IsTrue (is_written P y) → text_of (numbered_texts P) x ≡ text_of (numbered_texts P) y → x ≡ y
numbered-unique P distinct x y hx hy e =
    let S = P.symbols in
    let p = written-parts P x hx in
    let q = written-parts P y hy in
    let head = numbered-head-split P x.limit y.limit (part_labels S x) (part_labels S y) p.limit q.limit (sym (numbered-parts P x) ∙ e ∙ numbered-parts P y) in
    let ls = from-split label_line label_is_written label-line-split 1 x.labels y.labels (part_eigens S x.eigens x.spares x.terms x.steps) (part_eigens S y.eigens y.spares y.terms y.steps) (λ j z r. eigens-no_label S x.eigens x.spares x.terms x.steps _) (λ j z r. eigens-no_label S y.eigens y.spares y.terms y.steps _) p.labels q.labels head.1 in
    let n = ap length ls.0 in
    let es = kind-split numbered_eigen_line (numbered_eigen_is_written (length x.labels)) (numbered-eigen-split (length x.labels) p.label_count) x.eigens y.eigens (part_spares S x.spares x.terms x.steps) (part_spares S y.spares y.terms y.steps) (spares-no_eigen S x.spares x.terms x.steps) (spares-no_eigen S y.spares y.terms y.steps) p.eigens (ap (λ k. list_all (numbered_eigen_is_written k) y.eigens) n ∙ q.eigens) ls.1 in
    let ss = kind-split numbered_spare_line (numbered_spare_is_written (length x.labels)) (numbered-spare-split (length x.labels) p.label_count) x.spares y.spares (part_terms S x.terms x.steps) (part_terms S y.terms y.steps) (λ z r. terms-begin S 110 refl refl refl refl x.terms x.steps _) (λ z r. terms-begin S 110 refl refl refl refl y.terms y.steps _) p.spares (ap (λ k. list_all (numbered_spare_is_written k) y.spares) n ∙ q.spares) es.1 in
    let ts = from-split (term_line S) (term_is_written S) (term-line-split S distinct) 1 x.terms y.terms (part_steps x.steps) (part_steps y.steps) (λ j z r. steps-begin 116 refl refl refl x.steps _) (λ j z r. steps-begin 116 refl refl refl y.steps _) p.terms q.terms ss.1 in
    let m = ap length ts.0 in
    let xs = kind-split numbered_step_line (numbered_step_is_written (length x.labels) (length x.terms)) (numbered-step-split (length x.labels) (length x.terms) p.label_count p.term_count) x.steps y.steps end_text end_text end-no_step end-no_step p.steps ((λ i. list_all (numbered_step_is_written (n i) (m i)) y.steps) ∙ q.steps) ts.1 in
    λ i. record { limit = head.0 i; labels = ls.0 i; eigens = es.0 i; spares = ss.0 i; terms = ts.0 i; steps = xs.0 i }

-- ---- a printable derivation has a numbered form that can be written

-- what is in a list has a number of it
has-among : {A : Type 0} (same : A → A → Bool) (xs : List A) (x : A) → IsTrue (has same xs x) → IsTrue (is_among (length xs) (number_in same xs x))
has-among {A} same xs x h = and_from (nat_le 1 (suc (place_in same xs x))) (nat_le (suc (place_in same xs x)) (length xs)) (le-leb 1 (suc (place_in same xs x)) (omega arith)) (le-leb (suc (place_in same xs x)) (length xs) (place xs h))
  where
    place : (ys : List A) → IsTrue (has same ys x) → suc (place_in same ys x) ≤ length ys
    place [] g = absurd (true≢false (sym g))
    place (y ∷ ys) g = by (same y x) refl (place ys)
      where
        by : (b : Bool) → same y x ≡ b → (IsTrue (has same ys x) → suc (place_in same ys x) ≤ length ys) → suc (if same y x then 0 else suc (place_in same ys x)) ≤ suc (length ys)
        by true e rest = rw e (omega arith)
        by false e rest = let r = rest (ap (λ c. c || has same ys x) (sym e) ∙ g) in rw e (omega arith)

once-all : {A : Type 0} (same : A → A → Bool) (f : A → Bool) (xs : List A) → IsTrue (list_all f xs) → IsTrue (list_all f (once same xs))
once-all same f [] h = refl
once-all same f (x ∷ xs) h =
    let p = and_parts (f x) (list_all f xs) h in
    and_from (f x) (list_all f (filter (λ y. not (same x y)) (once same xs))) p.0 (all-filter f (λ y. not (same x y)) (once same xs) (once-all same f xs p.1))

eigen-numbers : (L : List Label) (xs : List EigenName) → map (λ (y : NumberedEigen). y.number) (map (numbered_eigen L) xs) ≡ map (λ (y : EigenName). y.number) xs
eigen-numbers L [] = refl
eigen-numbers L (x ∷ xs) = ap (λ ys. x.number ∷ ys) (eigen-numbers L xs)

spare-numbers : (L : List Label) (xs : List SpareName) → map (λ (y : NumberedSpare). y.number) (map (numbered_spare L) xs) ≡ map (λ (y : SpareName). y.number) xs
spare-numbers L [] = refl
spare-numbers L (x ∷ xs) = ap (λ ys. x.number ∷ ys) (spare-numbers L xs)

-- the names, with the labels behind theirs
eigens-written : (L : List Label) (xs : List EigenName) (rest : List Label) → IsTrue (list_all (has same_label L) (map (λ (x : EigenName). x.home) xs ++ rest)) → IsTrue (list_all (λ (x : EigenName). is_number x.number && label_is_written x.home) xs) → IsTrue (list_all (numbered_eigen_is_written (length L)) (map (numbered_eigen L) xs)) × IsTrue (list_all (has same_label L) rest)
eigens-written L [] rest h w = (refl, h)
eigens-written L (x ∷ xs) rest h w =
    let p = and_parts (has same_label L x.home) (list_all (has same_label L) (map (λ (y : EigenName). y.home) xs ++ rest)) h in
    let q = and_parts (is_number x.number && label_is_written x.home) (list_all (λ (y : EigenName). is_number y.number && label_is_written y.home) xs) w in
    let n = and_parts (is_number x.number) (label_is_written x.home) q.0 in
    let r = eigens-written L xs rest p.1 q.1 in
    (and_from (numbered_eigen_is_written (length L) (numbered_eigen L x)) (list_all (numbered_eigen_is_written (length L)) (map (numbered_eigen L) xs)) (and_from (is_number x.number) (is_among (length L) (number_in same_label L x.home)) n.0 (has-among same_label L x.home p.0)) r.0, r.1)

home-written : (L : List Label) (home : Home) (rest : List Label) → IsTrue (list_all (has same_label L) (home_labels home ++ rest)) → IsTrue (numbered_home_is_written (length L) (home_number L home)) × IsTrue (list_all (has same_label L) rest)
home-written L anywhere rest h = (refl, h)
home-written L (home_at w) rest h = let p = and_parts (has same_label L w) (list_all (has same_label L) rest) h in (has-among same_label L w p.0, p.1)

spares-written : (L : List Label) (xs : List SpareName) (rest : List Label) → IsTrue (list_all (has same_label L) (flat_map (λ (x : SpareName). home_labels x.home) xs ++ rest)) → IsTrue (list_all (λ (x : SpareName). is_number x.number && home_is_written x.home) xs) → IsTrue (list_all (numbered_spare_is_written (length L)) (map (numbered_spare L) xs)) × IsTrue (list_all (has same_label L) rest)
spares-written L [] rest h w = (refl, h)
spares-written L (x ∷ xs) rest h w =
    let more = flat_map (λ (y : SpareName). home_labels y.home) xs in
    let p = home-written L x.home (more ++ rest) (ap (list_all (has same_label L)) (sym (append_assoc (home_labels x.home) more rest)) ∙ h) in
    let q = and_parts (is_number x.number && home_is_written x.home) (list_all (λ (y : SpareName). is_number y.number && home_is_written y.home) xs) w in
    let n = and_parts (is_number x.number) (home_is_written x.home) q.0 in
    let r = spares-written L xs rest p.1 q.1 in
    (and_from (numbered_spare_is_written (length L) (numbered_spare L x)) (list_all (numbered_spare_is_written (length L)) (map (numbered_spare L) xs)) (and_from (is_number x.number) (numbered_home_is_written (length L) (home_number L x.home)) n.0 p.0) r.0, r.1)

modal-written : (L : List Label) (m : ModalArg) (rest : List Label) → IsTrue (list_all (has same_label L) (modal_labels m ++ rest)) → IsTrue (modal_is_written m) → IsTrue (numbered_modal_is_written (length L) (numbered_modal L m)) × IsTrue (list_all (has same_label L) rest)
modal-written L no_modal rest h w = (refl, h)
modal-written L (by_new n) rest h w = (w, h)
modal-written L (to v) rest h w = let p = and_parts (has same_label L v) (list_all (has same_label L) rest) h in (has-among same_label L v p.0, p.1)

arg-written : (S : List Symbol) (T : List Term) (t : TermArg) (rest : List Term) → IsTrue (list_all (has term_eq T) (arg_terms t ++ rest)) → IsTrue (term_arg_is_written S t) → IsTrue (numbered_term_is_written (length T) (numbered_arg T t)) × IsTrue (list_all (has term_eq T) rest)
arg-written S T no_term rest h w = (refl, h)
arg-written S T (by_name n) rest h w = (w, h)
arg-written S T (by_term u) rest h w = let p = and_parts (has term_eq T u) (list_all (has term_eq T) rest) h in (has-among term_eq T u p.0, p.1)

steps-written : (S : List Symbol) (L : List Label) (T : List Term) (xs : List Step) → IsTrue (list_all (has same_label L) (flat_map step_labels xs)) → IsTrue (list_all (has term_eq T) (flat_map step_terms xs)) → IsTrue (list_all (step_is_written S) xs) → IsTrue (list_all (numbered_step_is_written (length L) (length T)) (map (numbered_step L T) xs))
steps-written S L T [] h k w = refl
steps-written S L T (close n m ∷ xs) h k w =
    let q = and_parts (is_number n && is_number m) (list_all (step_is_written S) xs) w in
    and_from (is_number n && is_number m) (list_all (numbered_step_is_written (length L) (length T)) (map (numbered_step L T) xs)) q.0 (steps-written S L T xs h k q.1)
steps-written S L T (apply_to n m t ∷ xs) h k w =
    let q = and_parts (is_number n && modal_is_written m && term_arg_is_written S t) (list_all (step_is_written S) xs) w in
    let u = and_parts (is_number n && modal_is_written m) (term_arg_is_written S t) q.0 in
    let v = and_parts (is_number n) (modal_is_written m) u.0 in
    let a = modal-written L m (flat_map step_labels xs) h v.1 in
    let b = arg-written S T t (flat_map step_terms xs) k u.1 in
    and_from (is_number n && numbered_modal_is_written (length L) (numbered_modal L m) && numbered_term_is_written (length T) (numbered_arg T t)) (list_all (numbered_step_is_written (length L) (length T)) (map (numbered_step L T) xs))
    (and_from (is_number n && numbered_modal_is_written (length L) (numbered_modal L m)) (numbered_term_is_written (length T) (numbered_arg T t)) (and_from (is_number n) (numbered_modal_is_written (length L) (numbered_modal L m)) v.0 a.0) b.0)
    (steps-written S L T xs a.1 b.1 q.1)

-- the labels and terms themselves
eigen-labels : (xs : List EigenName) (rest : List Label) → IsTrue (list_all (λ (x : EigenName). is_number x.number && label_is_written x.home) xs) → IsTrue (list_all label_is_written rest) → IsTrue (list_all label_is_written (map (λ (x : EigenName). x.home) xs ++ rest))
eigen-labels [] rest w h = h
eigen-labels (x ∷ xs) rest w h =
    let q = and_parts (is_number x.number && label_is_written x.home) (list_all (λ (y : EigenName). is_number y.number && label_is_written y.home) xs) w in
    and_from (label_is_written x.home) (list_all label_is_written (map (λ (y : EigenName). y.home) xs ++ rest)) (and_parts (is_number x.number) (label_is_written x.home) q.0).1 (eigen-labels xs rest q.1 h)

spare-labels : (xs : List SpareName) (rest : List Label) → IsTrue (list_all (λ (x : SpareName). is_number x.number && home_is_written x.home) xs) → IsTrue (list_all label_is_written rest) → IsTrue (list_all label_is_written (flat_map (λ (x : SpareName). home_labels x.home) xs ++ rest))
spare-labels [] rest w h = h
spare-labels (x ∷ xs) rest w h =
    let more = flat_map (λ (y : SpareName). home_labels y.home) xs in
    let q = and_parts (is_number x.number && home_is_written x.home) (list_all (λ (y : SpareName). is_number y.number && home_is_written y.home) xs) w in
    ap (list_all label_is_written) (append_assoc (home_labels x.home) more rest) ∙ one x.home (more ++ rest) (and_parts (is_number x.number) (home_is_written x.home) q.0).1 (spare-labels xs rest q.1 h)
  where
    one : (home : Home) (ls : List Label) → IsTrue (home_is_written home) → IsTrue (list_all label_is_written ls) → IsTrue (list_all label_is_written (home_labels home ++ ls))
    one anywhere ls g k = k
    one (home_at v) ls g k = and_from (label_is_written v) (list_all label_is_written ls) g k

step-labels : (S : List Symbol) (xs : List Step) → IsTrue (list_all (step_is_written S) xs) → IsTrue (list_all label_is_written (flat_map step_labels xs))
step-labels S [] w = refl
step-labels S (close n m ∷ xs) w = step-labels S xs (and_parts (is_number n && is_number m) (list_all (step_is_written S) xs) w).1
step-labels S (apply_to n m t ∷ xs) w =
    let q = and_parts (is_number n && modal_is_written m && term_arg_is_written S t) (list_all (step_is_written S) xs) w in
    let v = and_parts (is_number n) (modal_is_written m) (and_parts (is_number n && modal_is_written m) (term_arg_is_written S t) q.0).0 in
    one m (flat_map step_labels xs) v.1 (step-labels S xs q.1)
  where
    one : (m : ModalArg) (ls : List Label) → IsTrue (modal_is_written m) → IsTrue (list_all label_is_written ls) → IsTrue (list_all label_is_written (modal_labels m ++ ls))
    one no_modal ls g k = k
    one (by_new c) ls g k = k
    one (to v) ls g k = and_from (label_is_written v) (list_all label_is_written ls) g k

step-terms : (S : List Symbol) (xs : List Step) → IsTrue (list_all (step_is_written S) xs) → IsTrue (list_all (term_is_written S) (flat_map step_terms xs))
step-terms S [] w = refl
step-terms S (close n m ∷ xs) w = step-terms S xs (and_parts (is_number n && is_number m) (list_all (step_is_written S) xs) w).1
step-terms S (apply_to n m t ∷ xs) w =
    let q = and_parts (is_number n && modal_is_written m && term_arg_is_written S t) (list_all (step_is_written S) xs) w in
    one t (flat_map step_terms xs) (and_parts (is_number n && modal_is_written m) (term_arg_is_written S t) q.0).1 (step-terms S xs q.1)
  where
    one : (t : TermArg) (ts : List Term) → IsTrue (term_arg_is_written S t) → IsTrue (list_all (term_is_written S) ts) → IsTrue (list_all (term_is_written S) (arg_terms t ++ ts))
    one no_term ts g k = k
    one (by_name c) ts g k = k
    one (by_term u) ts g k = and_from (term_is_written S u) (list_all (term_is_written S) ts) g k

-- what can be printed has a numbered form that can be written
pub printable-written : (P : Problem) (d : Derivation) → IsTrue (is_printable_in Two P d) → IsTrue (is_written P (numbering d))
printable-written P d h =
    let S = P.symbols in
    let E = d.names.eigens in
    let F = d.names.spares in
    let all_labels = labels_of d in
    let L = once same_label all_labels in
    let T = once term_eq (terms_of d) in
    let spares = flat_map (λ (x : SpareName). home_labels x.home) F in
    let counts = and_parts (is_printable P d) (is_count (length L) && is_count (length T)) h in
    let two = and_parts (is_count (length L)) (is_count (length T)) counts.1 in
    let b = and_parts (is_limit d.limit && names_are_written d.names) (list_all (step_is_written S) d.steps) counts.0 in
    let a = and_parts (is_limit d.limit) (names_are_written d.names) b.0 in
    let z = and_parts (rises_from 0 (map (λ (x : EigenName). x.number) E) && list_all (λ (x : EigenName). is_number x.number && label_is_written x.home) E && rises_from 0 (map (λ (x : SpareName). x.number) F)) (list_all (λ (x : SpareName). is_number x.number && home_is_written x.home) F) a.1 in
    let y = and_parts (rises_from 0 (map (λ (x : EigenName). x.number) E) && list_all (λ (x : EigenName). is_number x.number && label_is_written x.home) E) (rises_from 0 (map (λ (x : SpareName). x.number) F)) z.0 in
    let x = and_parts (rises_from 0 (map (λ (x : EigenName). x.number) E)) (list_all (λ (x : EigenName). is_number x.number && label_is_written x.home) E) y.0 in
    let homes = map (λ (x : EigenName). x.home) E in
    let there = ap (list_all (has same_label L)) (sym (append_assoc homes spares (flat_map step_labels d.steps))) ∙ all-once same_label same_label-tells all_labels in
    let es = eigens-written L E (spares ++ flat_map step_labels d.steps) there x.1 in
    let ss = spares-written L F (flat_map step_labels d.steps) es.1 z.1 in
    let xs = steps-written S L T d.steps ss.1 (all-once term_eq term_eq-tells (terms_of d)) b.1 in
    let labels = once-all same_label label_is_written all_labels (ap (list_all label_is_written) (append_assoc homes spares (flat_map step_labels d.steps)) ∙ eigen-labels E (spares ++ flat_map step_labels d.steps) x.1 (spare-labels F (flat_map step_labels d.steps) z.1 (step-labels S d.steps b.1))) in
    let terms = once-all term_eq (term_is_written S) (terms_of d) (step-terms S d.steps b.1) in
    let re = ap (rises_from 0) (eigen-numbers L E) ∙ x.0 in
    let rs = ap (rises_from 0) (spare-numbers L F) ∙ y.1 in
    and_from _ _ (and_from _ _ (and_from _ _ (and_from _ _ (and_from _ _ a.0 (and_from _ _ two.0 labels)) (and_from _ _ re es.0)) (and_from _ _ rs ss.0)) (and_from _ _ two.1 terms)) xs

-- ---- bytes are a text of at most one version and one derivation

pub text_two-unique : (P : Problem) → IsTrue (are_distinct P.symbols) → (d e : Derivation) (bytes : List ℕ) → IsTextIn Two P d bytes → IsTextIn Two P e bytes → d ≡ e
text_two-unique P distinct d e bytes t u = sym (stated-numbering d) ∙ ap stated (numbered-unique P distinct (numbering d) (numbering e) (printable-written P d t.printable) (printable-written P e u.printable) (sym t.text ∙ u.text)) ∙ stated-numbering e

-- the two first lines differ
versions-apart : (P : Problem) (d e : Derivation) (bytes : List ℕ) → IsTextIn One P d bytes → IsTextIn Two P e bytes → ⊥
versions-apart P d e bytes t u = differ-at _ _ 19 (sym t.text ∙ u.text) refl

pub text_in-unique : (P : Problem) → IsTrue (are_distinct P.symbols) → (v w : Version) (d e : Derivation) (bytes : List ℕ) → IsTextIn v P d bytes → IsTextIn w P e bytes → (v ≡ w) × (d ≡ e)
text_in-unique P distinct One One d e bytes t u = (refl, text-unique P distinct d e bytes t u)
text_in-unique P distinct One Two d e bytes t u = absurd (versions-apart P d e bytes t u)
text_in-unique P distinct Two One d e bytes t u = absurd (versions-apart P e d bytes u t)
text_in-unique P distinct Two Two d e bytes t u = (refl, text_two-unique P distinct d e bytes t u)
