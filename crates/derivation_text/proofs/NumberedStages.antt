-- Lines of version 2 that stand in order are those of a derivation with numbers that can be written.
use Rattle.std.proofs.Common.{◌≡◌, ℕ, suc, ◌+◌, ◌^◌, ◌<◌, List, [], ◌∷◌, ◌++◌, length, map, Bool, true, false, ◌&&◌, IsTrue, Option, None, Some, if◌then◌else◌, refl, sym, ◌∙◌, ap, append-nil, arith, nat_lt, ◌==◌, ltb-true, lt-ltb}
use Rattle.std.specs.List.{list_all}
use Rattle.std.proofs.lemmas.Bool.{and_from, and_parts, true≢false}
use Rattle.std.proofs.lemmas.List.Folds.{list_all-append}
use Rattle.plain_laws.proofs.Every.{all-map}
use Rattle.calculus.specs.Syntax.{Symbol, Term, Problem}
use Rattle.calculus.specs.Derivations.{Label}
use Rattle.calculus.specs.DerivationText.{is_limit, label_is_written, rises_from, term_is_written}
use Rattle.calculus.specs.Text.{is_number}
use Rattle.calculus.specs.Versions.{NumberedEigen, NumberedSpare, NumberedModal, no_numbered_modal, to_number, by_character, NumberedTerm, no_numbered_term, by_number, by_eigen, NumberedStep, numbered_use, numbered_axiom, is_among, is_count, is_written, numbered_eigen_is_written, numbered_home_is_written, numbered_modal_is_written, numbered_spare_is_written, numbered_step_is_written, numbered_term_is_written}
use Rattle.derivation_text.specs.declared.numbered_line.NumberedStage.{NumberedStage}
use Rattle.derivation_text.specs.declared.numbered_line.Part.{Part}
use Rattle.derivation_text.specs.declared.numbered_line.Part.TheVariants.{Labels, Eigens, Spares, Terms, Steps, Ended}
use Rattle.derivation_text.specs.Listed.{are_listed, is_arg_listed, is_modal_listed}
use Rattle.derivation_text.specs.NumberedBody.{arg_has_number, goes_on, home_has_number, is_behind, is_count_text, last_spare, modal_has_number, NumberedLine, eigen_of, spare_of, step_of, numbered_line_is_written, numbered_stage_after, takes_terms}
use Rattle.derivation_text.specs.NumberedReading.{first_stage, label_lines, lines_of_lists, numbered_stage_after_lines, term_lines}

abbrev pub stage_at : ℕ → ℕ → Part → NumberedStage
stage_at a b p = record { labels = a; terms = b; part = p }

-- ---- stages

pub run-none : (xs : List NumberedLine) → numbered_stage_after_lines None xs ≡ None
run-none [] = refl
run-none (x ∷ xs) = run-none xs

pub run-append : (o : Option NumberedStage) (xs ys : List NumberedLine) → numbered_stage_after_lines o (xs ++ ys) ≡ numbered_stage_after_lines (numbered_stage_after_lines o xs) ys
run-append o [] ys = refl
run-append None (x ∷ xs) ys = run-append None xs ys
run-append (Some s) (x ∷ xs) ys = run-append (numbered_stage_after s x) xs ys

none-some : {C : Type 0} (o : Option NumberedStage) (s : NumberedStage) → o ≡ None → o ≡ Some s → C
none-some o s e f = absurd (cc)

through : (b : Bool) (r : NumberedStage) (xs : List NumberedLine) (t : NumberedStage) → numbered_stage_after_lines (if b then Some r else None) xs ≡ Some t → (b ≡ true) × (numbered_stage_after_lines (Some r) xs ≡ Some t)
through true r xs t e = (refl, e)
through false r xs t e = none-some _ t (run-none xs) e

-- labels are counted
labels-in : (a b : ℕ) (ws : List Label) (tail : List NumberedLine) (t : NumberedStage) → numbered_stage_after_lines (Some (stage_at a b Labels)) (label_lines (suc a) ws ++ tail) ≡ Some t → numbered_stage_after_lines (Some (stage_at (a + length ws) b Labels)) tail ≡ Some t
labels-in a b [] tail t e = ap (λ n. numbered_stage_after_lines (Some (stage_at n b Labels)) tail) (let z : a + 0 ≡ a = omega arith in z) ∙ e
labels-in a b (w ∷ ws) tail t e =
    let p = through (suc a == suc a) (stage_at (suc a) b Labels) (label_lines (suc (suc a)) ws ++ tail) t e in
    ap (λ n. numbered_stage_after_lines (Some (stage_at n b Labels)) tail) (let z : a + suc (length ws) ≡ suc a + length ws = omega arith in z) ∙ labels-in (suc a) b ws tail t p.1

-- ---- names

abbrev pub eigen_numbers : List NumberedEigen → List ℕ
eigen_numbers es = map (λ (y : NumberedEigen). y.number) es

abbrev pub spare_numbers : List NumberedSpare → List ℕ
spare_numbers ss = map (λ (y : NumberedSpare). y.number) ss

record EigensIn (a b m : ℕ) (es : List NumberedEigen) (tail : List NumberedLine) (t : NumberedStage) : Type 0 where
  rises : IsTrue (rises_from m (eigen_numbers es))
  homes : IsTrue (list_all (λ (y : NumberedEigen). is_among a y.home) es)
  part : Part
  spares : last_spare part ≡ Some 0
  takes : takes_terms part ≡ true
  rest : numbered_stage_after_lines (Some (stage_at a b part)) tail ≡ Some t

eigens-in : (a b m : ℕ) (es : List NumberedEigen) (tail : List NumberedLine) (t : NumberedStage) → numbered_stage_after_lines (Some (stage_at a b (Eigens m))) (map eigen_of es ++ tail) ≡ Some t → EigensIn a b m es tail t
eigens-in a b m [] tail t e = record { rises = refl; homes = refl; part = Eigens m; spares = refl; takes = refl; rest = e }
eigens-in a b m (x ∷ es) tail t e =
    let p = through (nat_lt m x.number && is_among a x.home) (stage_at a b (Eigens x.number)) (map eigen_of es ++ tail) t e in
    let q = and_parts (nat_lt m x.number) (is_among a x.home) p.0 in
    let r = eigens-in a b x.number es tail t p.1 in
    record {
      rises = and_from (nat_lt m x.number) (rises_from x.number (eigen_numbers es)) q.0 r.rises;
      homes = and_from (is_among a x.home) (list_all (λ (y : NumberedEigen). is_among a y.home) es) q.1 r.homes;
      part = r.part;
      spares = r.spares;
      takes = r.takes;
      rest = r.rest;
    }

first-eigens : (a b : ℕ) (es : List NumberedEigen) (tail : List NumberedLine) (t : NumberedStage) → numbered_stage_after_lines (Some (stage_at a b Labels)) (map eigen_of es ++ tail) ≡ Some t → EigensIn a b 0 es tail t
first-eigens a b [] tail t e = record { rises = refl; homes = refl; part = Labels; spares = refl; takes = refl; rest = e }
first-eigens a b (x ∷ es) tail t e =
    let p = through (nat_lt 0 x.number && is_among a x.home) (stage_at a b (Eigens x.number)) (map eigen_of es ++ tail) t e in
    let q = and_parts (nat_lt 0 x.number) (is_among a x.home) p.0 in
    let r = eigens-in a b x.number es tail t p.1 in
    record {
      rises = and_from (nat_lt 0 x.number) (rises_from x.number (eigen_numbers es)) q.0 r.rises;
      homes = and_from (is_among a x.home) (list_all (λ (y : NumberedEigen). is_among a y.home) es) q.1 r.homes;
      part = r.part;
      spares = r.spares;
      takes = r.takes;
      rest = r.rest;
    }

record SparesIn (a b m : ℕ) (ss : List NumberedSpare) (tail : List NumberedLine) (t : NumberedStage) : Type 0 where
  rises : IsTrue (rises_from m (spare_numbers ss))
  homes : IsTrue (list_all (λ (y : NumberedSpare). numbered_home_is_written a y.home) ss)
  part : Part
  takes : takes_terms part ≡ true
  rest : numbered_stage_after_lines (Some (stage_at a b part)) tail ≡ Some t

spares-in : (a b m : ℕ) (ss : List NumberedSpare) (tail : List NumberedLine) (t : NumberedStage) → numbered_stage_after_lines (Some (stage_at a b (Spares m))) (map spare_of ss ++ tail) ≡ Some t → SparesIn a b m ss tail t
spares-in a b m [] tail t e = record { rises = refl; homes = refl; part = Spares m; takes = refl; rest = e }
spares-in a b m (x ∷ ss) tail t e =
    let p = through (nat_lt m x.number && numbered_home_is_written a x.home) (stage_at a b (Spares x.number)) (map spare_of ss ++ tail) t e in
    let q = and_parts (nat_lt m x.number) (numbered_home_is_written a x.home) p.0 in
    let r = spares-in a b x.number ss tail t p.1 in
    record {
      rises = and_from (nat_lt m x.number) (rises_from x.number (spare_numbers ss)) q.0 r.rises;
      homes = and_from (numbered_home_is_written a x.home) (list_all (λ (y : NumberedSpare). numbered_home_is_written a y.home) ss) q.1 r.homes;
      part = r.part;
      takes = r.takes;
      rest = r.rest;
    }

first-spares : (a b : ℕ) (part : Part) → last_spare part ≡ Some 0 → takes_terms part ≡ true → (ss : List NumberedSpare) (tail : List NumberedLine) (t : NumberedStage) → numbered_stage_after_lines (Some (stage_at a b part)) (map spare_of ss ++ tail) ≡ Some t → SparesIn a b 0 ss tail t
first-spares a b part l k [] tail t e = record { rises = refl; homes = refl; part = part; takes = k; rest = e }
first-spares a b part l k (x ∷ ss) tail t e =
    let told = ap (λ o. numbered_stage_after_lines (if is_behind o x.number && numbered_home_is_written a x.home then Some (stage_at a b (Spares x.number)) else None) (map spare_of ss ++ tail)) (sym l) ∙ e in
    let p = through (nat_lt 0 x.number && numbered_home_is_written a x.home) (stage_at a b (Spares x.number)) (map spare_of ss ++ tail) t told in
    let q = and_parts (nat_lt 0 x.number) (numbered_home_is_written a x.home) p.0 in
    let r = spares-in a b x.number ss tail t p.1 in
    record {
      rises = and_from (nat_lt 0 x.number) (rises_from x.number (spare_numbers ss)) q.0 r.rises;
      homes = and_from (numbered_home_is_written a x.home) (list_all (λ (y : NumberedSpare). numbered_home_is_written a y.home) ss) q.1 r.homes;
      part = r.part;
      takes = r.takes;
      rest = r.rest;
    }

-- ---- terms and steps

pub takes-on : (p : Part) → takes_terms p ≡ true → goes_on p ≡ true
takes-on Labels e = refl
takes-on (Eigens m) e = refl
takes-on (Spares m) e = refl
takes-on Terms e = refl
takes-on Steps e = refl
takes-on Ended e = absurd (true≢false (sym e))

record TermsIn (a b : ℕ) (ts : List Term) (tail : List NumberedLine) (t : NumberedStage) : Type 0 where
  part : Part
  goes : goes_on part ≡ true
  rest : numbered_stage_after_lines (Some (stage_at a (b + length ts) part)) tail ≡ Some t

terms-in : (a b : ℕ) (part : Part) → takes_terms part ≡ true → (ts : List Term) (tail : List NumberedLine) (t : NumberedStage) → numbered_stage_after_lines (Some (stage_at a b part)) (term_lines (suc b) ts ++ tail) ≡ Some t → TermsIn a b ts tail t
terms-in a b part k [] tail t e = record { part = part; goes = takes-on part k; rest = ap (λ n. numbered_stage_after_lines (Some (stage_at a n part)) tail) (let z : b + 0 ≡ b = omega arith in z) ∙ e }
terms-in a b part k (u ∷ ts) tail t e =
    let p = through (takes_terms part && (suc b == suc b)) (stage_at a (suc b) Terms) (term_lines (suc (suc b)) ts ++ tail) t e in
    let r = terms-in a (suc b) Terms refl ts tail t p.1 in
    record { part = r.part; goes = r.goes; rest = ap (λ n. numbered_stage_after_lines (Some (stage_at a n r.part)) tail) (let z : b + suc (length ts) ≡ suc b + length ts = omega arith in z) ∙ r.rest }

steps-in : (a b : ℕ) (part : Part) → goes_on part ≡ true → (xs : List NumberedStep) (tail : List NumberedLine) (t : NumberedStage) → numbered_stage_after_lines (Some (stage_at a b part)) (map step_of xs ++ tail) ≡ Some t → IsTrue (list_all (are_listed a b) xs)
steps-in a b part g [] tail t e = refl
steps-in a b part g (x ∷ xs) tail t e =
    let p = through (goes_on part && are_listed a b x) (stage_at a b Steps) (map step_of xs ++ tail) t e in
    let q = and_parts (goes_on part) (are_listed a b x) p.0 in
    and_from (are_listed a b x) (list_all (are_listed a b) xs) q.1 (steps-in a b Steps refl xs tail t p.1)

-- ---- what can be written

-- both tests of each item
pub both : {A : Type 0} (p q r : A → Bool) → ((x : A) → IsTrue (p x) → IsTrue (q x) → IsTrue (r x)) → (xs : List A) → IsTrue (list_all p xs) → IsTrue (list_all q xs) → IsTrue (list_all r xs)
both p q r f [] h k = refl
both p q r f (x ∷ xs) h k =
    let a = and_parts (p x) (list_all p xs) h in
    let b = and_parts (q x) (list_all q xs) k in
    and_from (r x) (list_all r xs) (f x a.0 b.0) (both p q r f xs a.1 b.1)

labels-written : (S : List Symbol) (k : ℕ) (ws : List Label) → k < 2 ^ 64 → IsTrue (list_all (numbered_line_is_written S) (label_lines (suc k) ws)) → (k + length ws < 2 ^ 64) × IsTrue (list_all label_is_written ws)
labels-written S k [] b h = (omega (arith, b), refl)
labels-written S k (w ∷ ws) b h =
    let p = and_parts (nat_lt (suc k) (2 ^ 64) && label_is_written w) (list_all (numbered_line_is_written S) (label_lines (suc (suc k)) ws)) h in
    let q = and_parts (nat_lt (suc k) (2 ^ 64)) (label_is_written w) p.0 in
    let r = labels-written S (suc k) ws (ltb-true (suc k) (2 ^ 64) q.0) p.1 in
    (omega (arith, r.0), and_from (label_is_written w) (list_all label_is_written ws) q.1 r.1)

terms-written : (S : List Symbol) (k : ℕ) (ts : List Term) → k < 2 ^ 64 → IsTrue (list_all (numbered_line_is_written S) (term_lines (suc k) ts)) → (k + length ts < 2 ^ 64) × IsTrue (list_all (term_is_written S) ts)
terms-written S k [] b h = (omega (arith, b), refl)
terms-written S k (t ∷ ts) b h =
    let p = and_parts (nat_lt (suc k) (2 ^ 64) && term_is_written S t) (list_all (numbered_line_is_written S) (term_lines (suc (suc k)) ts)) h in
    let q = and_parts (nat_lt (suc k) (2 ^ 64)) (term_is_written S t) p.0 in
    let r = terms-written S (suc k) ts (ltb-true (suc k) (2 ^ 64) q.0) p.1 in
    (omega (arith, r.0), and_from (term_is_written S t) (list_all (term_is_written S) ts) q.1 r.1)

eigen-both : (S : List Symbol) (n : ℕ) (y : NumberedEigen) → IsTrue (numbered_line_is_written S (eigen_of y)) → IsTrue (is_among n y.home) → IsTrue (numbered_eigen_is_written n y)
eigen-both S n y h k = and_from (is_number y.number) (is_among n y.home) (and_parts (is_number y.number) (is_count_text y.home) h).0 k

spare-both : (S : List Symbol) (n : ℕ) (y : NumberedSpare) → IsTrue (numbered_line_is_written S (spare_of y)) → IsTrue (numbered_home_is_written n y.home) → IsTrue (numbered_spare_is_written n y)
spare-both S n y h k = and_from (is_number y.number) (numbered_home_is_written n y.home) (and_parts (is_number y.number) (home_has_number y.home) h).0 k

modal-both : (n : ℕ) (m : NumberedModal) → IsTrue (modal_has_number m) → IsTrue (is_modal_listed n m) → IsTrue (numbered_modal_is_written n m)
modal-both n no_numbered_modal h k = refl
modal-both n (to_number j) h k = k
modal-both n (by_character j) h k = h

arg-both : (n : ℕ) (t : NumberedTerm) → IsTrue (arg_has_number t) → IsTrue (is_arg_listed n t) → IsTrue (numbered_term_is_written n t)
arg-both n no_numbered_term h k = refl
arg-both n (by_number j) h k = k
arg-both n (by_eigen j) h k = h

step-both : (S : List Symbol) (a b : ℕ) (x : NumberedStep) → IsTrue (numbered_line_is_written S (step_of x)) → IsTrue (are_listed a b x) → IsTrue (numbered_step_is_written a b x)
step-both S a b (numbered_axiom n m) h k = h
step-both S a b (numbered_use n m t) h k =
    let p = and_parts (is_number n) (modal_has_number m && arg_has_number t) h in
    let q = and_parts (modal_has_number m) (arg_has_number t) p.1 in
    let l = and_parts (is_modal_listed a m) (is_arg_listed b t) k in
    and_from (is_number n && numbered_modal_is_written a m) (numbered_term_is_written b t)
    (and_from (is_number n) (numbered_modal_is_written a m) p.0 (modal-both a m q.0 l.0)) (arg-both b t q.1 l.1)

from-none : (n : ℕ) → n ≡ 0 + n
from-none n = omega arith

-- lines that have been read in order are those of numbers that can be written
pub written-so_far : (P : Problem) (n : ℕ) (ws : List Label) (es : List NumberedEigen) (ss : List NumberedSpare) (ts : List Term) (xs : List NumberedStep) (t : NumberedStage) → IsTrue (is_limit n)
    → IsTrue (list_all (numbered_line_is_written P.symbols) (lines_of_lists ws es ss ts xs)) → numbered_stage_after_lines (Some first_stage) (lines_of_lists ws es ss ts xs) ≡ Some t
    → IsTrue (is_written P (record { limit = n; labels = ws; eigens = es; spares = ss; terms = ts; steps = xs }))
written-so_far P n ws es ss ts xs t l w e =
    let S = P.symbols in
    let good = numbered_line_is_written S in
    let z = map step_of xs in
    let y = term_lines 1 ts ++ z in
    let v = map spare_of ss ++ y in
    let u = map eigen_of es ++ v in
    let a = and_parts (list_all good (label_lines 1 ws)) (list_all good u) (sym (list_all-append good (label_lines 1 ws) u) ∙ w) in
    let b = and_parts (list_all good (map eigen_of es)) (list_all good v) (sym (list_all-append good (map eigen_of es) v) ∙ a.1) in
    let c = and_parts (list_all good (map spare_of ss)) (list_all good y) (sym (list_all-append good (map spare_of ss) y) ∙ b.1) in
    let d = and_parts (list_all good (term_lines 1 ts)) (list_all good z) (sym (list_all-append good (term_lines 1 ts) z) ∙ c.1) in
    let labels = labels-written S 0 ws (omega arith) a.0 in
    let terms = terms-written S 0 ts (omega arith) d.0 in
    let r = first-eigens (length ws) 0 es v t (ap (λ k. numbered_stage_after_lines (Some (stage_at k 0 Labels)) u) (from-none (length ws)) ∙ labels-in 0 0 ws u t e) in
    let q = first-spares (length ws) 0 r.part r.spares r.takes ss y t r.rest in
    let o = terms-in (length ws) 0 q.part q.takes ts z t q.rest in
    let steps = steps-in (length ws) (length ts) o.part o.goes xs [] t (ap (numbered_stage_after_lines (Some (stage_at (length ws) (length ts) o.part))) (append-nil z) ∙ (ap (λ k. numbered_stage_after_lines (Some (stage_at (length ws) k o.part)) z) (from-none (length ts)) ∙ o.rest)) in
    let one = is_limit n in
    let two = is_count (length ws) && list_all label_is_written ws in
    let three = rises_from 0 (eigen_numbers es) && list_all (numbered_eigen_is_written (length ws)) es in
    let four = rises_from 0 (spare_numbers ss) && list_all (numbered_spare_is_written (length ws)) ss in
    let five = is_count (length ts) && list_all (term_is_written S) ts in
    let six = list_all (numbered_step_is_written (length ws) (length ts)) xs in
    and_from (one && two && three && four && five) six
    (and_from (one && two && three && four) five
    (and_from (one && two && three) four
    (and_from (one && two) three
    (and_from one two l (and_from (is_count (length ws)) (list_all label_is_written ws) (lt-ltb (length ws) (2 ^ 64) (omega (arith, labels.0))) labels.1))
    (and_from (rises_from 0 (eigen_numbers es)) (list_all (numbered_eigen_is_written (length ws)) es) r.rises (both (λ y. good (eigen_of y)) (λ (y : NumberedEigen). is_among (length ws) y.home) (numbered_eigen_is_written (length ws)) (eigen-both S (length ws)) es (sym (all-map eigen_of good es) ∙ b.0) r.homes)))
    (and_from (rises_from 0 (spare_numbers ss)) (list_all (numbered_spare_is_written (length ws)) ss) q.rises (both (λ y. good (spare_of y)) (λ (y : NumberedSpare). numbered_home_is_written (length ws) y.home) (numbered_spare_is_written (length ws)) (spare-both S (length ws)) ss (sym (all-map spare_of good ss) ∙ c.0) q.homes)))
    (and_from (is_count (length ts)) (list_all (term_is_written S) ts) (lt-ltb (length ts) (2 ^ 64) (omega (arith, terms.0))) terms.1))
    (both (λ y. good (step_of y)) (are_listed (length ws) (length ts)) (numbered_step_is_written (length ws) (length ts)) (step-both S (length ws) (length ts)) xs (sym (all-map step_of good xs) ∙ d.1) steps)
