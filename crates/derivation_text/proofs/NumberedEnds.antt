-- The lines of a derivation with numbers that can be written can be written themselves, and stand in order.
use Rattle.std.proofs.Common.{◌≡◌, ℕ, suc, ◌+◌, ◌^◌, ◌<◌, List, [], ◌∷◌, ◌++◌, length, map, Bool, true, ◌&&◌, IsTrue, Option, None, Some, if◌then◌else◌, refl, ◌∙◌, ap, append_assoc, arith, nat_le, nat_lt, ◌==◌, eq-eqb, leb-true, ltb-true, lt-ltb}
use Rattle.std.specs.List.{list_all}
use Rattle.std.proofs.lemmas.Bool.{and_from, and_parts}
use Rattle.std.proofs.lemmas.List.Folds.{list_all-append}
use Rattle.calculus.specs.Syntax.{Symbol, Term, Problem}
use Rattle.calculus.specs.Derivations.{Label}
use Rattle.calculus.specs.DerivationText.{is_limit, label_is_written, rises_from, term_is_written}
use Rattle.calculus.specs.Text.{is_number}
use Rattle.calculus.specs.Versions.{NumberedDerivation, NumberedEigen, NumberedSpare, NumberedModal, no_numbered_modal, to_number, by_character, NumberedTerm, no_numbered_term, by_number, by_eigen, NumberedStep, numbered_use, numbered_axiom, is_among, is_count, is_written, numbered_eigen_is_written, numbered_home_is_written, numbered_modal_is_written, numbered_spare_is_written, numbered_step_is_written, numbered_term_is_written}
use Rattle.derivation_text.specs.declared.numbered_line.NumberedStage.{NumberedStage}
use Rattle.derivation_text.specs.declared.numbered_line.Part.{Part}
use Rattle.derivation_text.specs.declared.numbered_line.Part.TheVariants.{Labels, Eigens, Spares, Terms, Steps}
use Rattle.derivation_text.specs.Listed.{are_listed, is_arg_listed, is_modal_listed}
use Rattle.derivation_text.specs.NumberedBody.{arg_has_number, ended_stage, goes_on, home_has_number, is_behind, is_count_text, last_spare, modal_has_number, NumberedLine, eigen_of, spare_of, step_of, last_line, numbered_line_is_written, step_has_numbers, takes_terms}
use Rattle.derivation_text.specs.NumberedReading.{first_stage, front_lines, label_lines, numbered_stage_after_lines, term_lines}
use Rattle.derivation_text.proofs.NumberedBodyLaws.{numbered_body}
use Rattle.derivation_text.proofs.NumberedFeeds.{written-parts}
use Rattle.derivation_text.proofs.NumberedStages.{eigen_numbers, spare_numbers, stage_at, takes-on}

-- ---- in order

if-run : (b : Bool) (r : NumberedStage) (xs : List NumberedLine) → b ≡ true → numbered_stage_after_lines (if b then Some r else None) xs ≡ numbered_stage_after_lines (Some r) xs
if-run b r xs e = ap (λ c. numbered_stage_after_lines (if c then Some r else None) xs) e

labels-run : (a b : ℕ) (ws : List Label) (tail : List NumberedLine) → numbered_stage_after_lines (Some (stage_at a b Labels)) (label_lines (suc a) ws ++ tail) ≡ numbered_stage_after_lines (Some (stage_at (a + length ws) b Labels)) tail
labels-run a b [] tail = ap (λ n. numbered_stage_after_lines (Some (stage_at n b Labels)) tail) (let z : a ≡ a + 0 = omega arith in z)
labels-run a b (w ∷ ws) tail =
    if-run (suc a == suc a) (stage_at (suc a) b Labels) (label_lines (suc (suc a)) ws ++ tail) (eq-eqb (suc a) (suc a) refl) ∙ labels-run (suc a) b ws tail
    ∙ ap (λ n. numbered_stage_after_lines (Some (stage_at n b Labels)) tail) (let z : suc a + length ws ≡ a + suc (length ws) = omega arith in z)

-- a part of a text to which these lines lead
record Leads (a b : ℕ) (part : Part) (xs tail : List NumberedLine) : Type 0 where
  to : Part
  takes : takes_terms to ≡ true
  run : numbered_stage_after_lines (Some (stage_at a b part)) (xs ++ tail) ≡ numbered_stage_after_lines (Some (stage_at a b to)) tail

record LeadsToNames (a b : ℕ) (part : Part) (xs tail : List NumberedLine) : Type 0 where
  leads : Leads a b part xs tail
  spares : last_spare leads.to ≡ Some 0

eigens-run : (a b m : ℕ) (es : List NumberedEigen) (tail : List NumberedLine) → IsTrue (rises_from m (eigen_numbers es)) → IsTrue (list_all (numbered_eigen_is_written a) es) → LeadsToNames a b (Eigens m) (map eigen_of es) tail
eigens-run a b m [] tail h k = record { leads = record { to = Eigens m; takes = refl; run = refl }; spares = refl }
eigens-run a b m (x ∷ es) tail h k =
    let p = and_parts (nat_lt m x.number) (rises_from x.number (eigen_numbers es)) h in
    let q = and_parts (numbered_eigen_is_written a x) (list_all (numbered_eigen_is_written a) es) k in
    let home = and_parts (is_number x.number) (is_among a x.home) q.0 in
    let r = eigens-run a b x.number es tail p.1 q.1 in
    record {
      leads = record {
        to = r.leads.to;
        takes = r.leads.takes;
        run = if-run (nat_lt m x.number && is_among a x.home) (stage_at a b (Eigens x.number)) (map eigen_of es ++ tail) (and_from (nat_lt m x.number) (is_among a x.home) p.0 home.1) ∙ r.leads.run;
      };
      spares = r.spares;
    }

first-eigens-run : (a b : ℕ) (es : List NumberedEigen) (tail : List NumberedLine) → IsTrue (rises_from 0 (eigen_numbers es)) → IsTrue (list_all (numbered_eigen_is_written a) es) → LeadsToNames a b Labels (map eigen_of es) tail
first-eigens-run a b [] tail h k = record { leads = record { to = Labels; takes = refl; run = refl }; spares = refl }
first-eigens-run a b (x ∷ es) tail h k =
    let p = and_parts (nat_lt 0 x.number) (rises_from x.number (eigen_numbers es)) h in
    let q = and_parts (numbered_eigen_is_written a x) (list_all (numbered_eigen_is_written a) es) k in
    let home = and_parts (is_number x.number) (is_among a x.home) q.0 in
    let r = eigens-run a b x.number es tail p.1 q.1 in
    record {
      leads = record {
        to = r.leads.to;
        takes = r.leads.takes;
        run = if-run (nat_lt 0 x.number && is_among a x.home) (stage_at a b (Eigens x.number)) (map eigen_of es ++ tail) (and_from (nat_lt 0 x.number) (is_among a x.home) p.0 home.1) ∙ r.leads.run;
      };
      spares = r.spares;
    }

spares-run : (a b m : ℕ) (ss : List NumberedSpare) (tail : List NumberedLine) → IsTrue (rises_from m (spare_numbers ss)) → IsTrue (list_all (numbered_spare_is_written a) ss) → Leads a b (Spares m) (map spare_of ss) tail
spares-run a b m [] tail h k = record { to = Spares m; takes = refl; run = refl }
spares-run a b m (x ∷ ss) tail h k =
    let p = and_parts (nat_lt m x.number) (rises_from x.number (spare_numbers ss)) h in
    let q = and_parts (numbered_spare_is_written a x) (list_all (numbered_spare_is_written a) ss) k in
    let home = and_parts (is_number x.number) (numbered_home_is_written a x.home) q.0 in
    let r = spares-run a b x.number ss tail p.1 q.1 in
    record {
      to = r.to;
      takes = r.takes;
      run = if-run (nat_lt m x.number && numbered_home_is_written a x.home) (stage_at a b (Spares x.number)) (map spare_of ss ++ tail) (and_from (nat_lt m x.number) (numbered_home_is_written a x.home) p.0 home.1) ∙ r.run;
    }

first-spares-run : (a b : ℕ) (part : Part) → last_spare part ≡ Some 0 → takes_terms part ≡ true → (ss : List NumberedSpare) (tail : List NumberedLine) → IsTrue (rises_from 0 (spare_numbers ss)) → IsTrue (list_all (numbered_spare_is_written a) ss) → Leads a b part (map spare_of ss) tail
first-spares-run a b part l t [] tail h k = record { to = part; takes = t; run = refl }
first-spares-run a b part l t (x ∷ ss) tail h k =
    let p = and_parts (nat_lt 0 x.number) (rises_from x.number (spare_numbers ss)) h in
    let q = and_parts (numbered_spare_is_written a x) (list_all (numbered_spare_is_written a) ss) k in
    let home = and_parts (is_number x.number) (numbered_home_is_written a x.home) q.0 in
    let r = spares-run a b x.number ss tail p.1 q.1 in
    record {
      to = r.to;
      takes = r.takes;
      run = ap (λ o. numbered_stage_after_lines (if is_behind o x.number && numbered_home_is_written a x.home then Some (stage_at a b (Spares x.number)) else None) (map spare_of ss ++ tail)) l
          ∙ if-run (nat_lt 0 x.number && numbered_home_is_written a x.home) (stage_at a b (Spares x.number)) (map spare_of ss ++ tail) (and_from (nat_lt 0 x.number) (numbered_home_is_written a x.home) p.0 home.1) ∙ r.run;
    }

terms-run : (a b : ℕ) (part : Part) → takes_terms part ≡ true → (ts : List Term) (tail : List NumberedLine) → (p : Part) × (goes_on p ≡ true) × (numbered_stage_after_lines (Some (stage_at a b part)) (term_lines (suc b) ts ++ tail) ≡ numbered_stage_after_lines (Some (stage_at a (b + length ts) p)) tail)
terms-run a b part t [] tail = (part, takes-on part t, ap (λ n. numbered_stage_after_lines (Some (stage_at a n part)) tail) (let z : b ≡ b + 0 = omega arith in z))
terms-run a b part t (u ∷ ts) tail =
    let r = terms-run a (suc b) Terms refl ts tail in (
      r.0,
      r.1,
      if-run (takes_terms part && (suc b == suc b)) (stage_at a (suc b) Terms) (term_lines (suc (suc b)) ts ++ tail) (and_from (takes_terms part) (suc b == suc b) t (eq-eqb (suc b) (suc b) refl)) ∙ r.2
          ∙ ap (λ n. numbered_stage_after_lines (Some (stage_at a n r.0)) tail) (let z : suc b + length ts ≡ b + suc (length ts) = omega arith in z),
    )

modal-listed : (n : ℕ) (m : NumberedModal) → IsTrue (numbered_modal_is_written n m) → IsTrue (is_modal_listed n m)
modal-listed n no_numbered_modal h = refl
modal-listed n (to_number k) h = h
modal-listed n (by_character k) h = refl

arg-listed : (n : ℕ) (t : NumberedTerm) → IsTrue (numbered_term_is_written n t) → IsTrue (is_arg_listed n t)
arg-listed n no_numbered_term h = refl
arg-listed n (by_number k) h = h
arg-listed n (by_eigen k) h = refl

pub step-listed : (a b : ℕ) (x : NumberedStep) → IsTrue (numbered_step_is_written a b x) → IsTrue (are_listed a b x)
step-listed a b (numbered_axiom n k) h = refl
step-listed a b (numbered_use n m t) h =
    let p = and_parts (is_number n && numbered_modal_is_written a m) (numbered_term_is_written b t) h in
    let q = and_parts (is_number n) (numbered_modal_is_written a m) p.0 in
    and_from (is_modal_listed a m) (is_arg_listed b t) (modal-listed a m q.1) (arg-listed b t p.1)

steps-run : (a b : ℕ) (part : Part) → goes_on part ≡ true → (xs : List NumberedStep) → IsTrue (list_all (numbered_step_is_written a b) xs) → numbered_stage_after_lines (Some (stage_at a b part)) (map step_of xs ++ last_line ∷ []) ≡ Some ended_stage
steps-run a b part g [] h = if-run (goes_on part) ended_stage [] g
steps-run a b part g (x ∷ xs) h =
    let p = and_parts (numbered_step_is_written a b x) (list_all (numbered_step_is_written a b) xs) h in
    if-run (goes_on part && are_listed a b x) (stage_at a b Steps) (map step_of xs ++ last_line ∷ []) (and_from (goes_on part) (are_listed a b x) g (step-listed a b x p.0)) ∙ steps-run a b Steps refl xs p.1

regroup : (a b c d e f : List NumberedLine) → (a ++ (b ++ (c ++ (d ++ e)))) ++ f ≡ a ++ (b ++ (c ++ (d ++ (e ++ f))))
regroup a b c d e f = simp append_assoc

pub record Rising (x : NumberedDerivation) : Type 0 where
  pub eigens : IsTrue (rises_from 0 (eigen_numbers x.eigens))
  pub spares : IsTrue (rises_from 0 (spare_numbers x.spares))

pub rising : (P : Problem) (x : NumberedDerivation) → IsTrue (is_written P x) → Rising x
rising P x h =
    let limit = is_limit x.limit in
    let labels = is_count (length x.labels) && list_all label_is_written x.labels in
    let eigens = rises_from 0 (eigen_numbers x.eigens) && list_all (numbered_eigen_is_written (length x.labels)) x.eigens in
    let spares = rises_from 0 (spare_numbers x.spares) && list_all (numbered_spare_is_written (length x.labels)) x.spares in
    let terms = is_count (length x.terms) && list_all (term_is_written P.symbols) x.terms in
    let steps = list_all (numbered_step_is_written (length x.labels) (length x.terms)) x.steps in
    let e = and_parts (limit && labels && eigens && spares) terms (and_parts (limit && labels && eigens && spares && terms) steps h).0 in
    let d = and_parts (limit && labels && eigens) spares e.0 in
    let c = and_parts (limit && labels) eigens d.0 in
    record {
      eigens = (and_parts (rises_from 0 (eigen_numbers x.eigens)) (list_all (numbered_eigen_is_written (length x.labels)) x.eigens) c.1).0;
      spares = (and_parts (rises_from 0 (spare_numbers x.spares)) (list_all (numbered_spare_is_written (length x.labels)) x.spares) d.1).0;
    }

from-none : (n : ℕ) → 0 + n ≡ n
from-none n = omega arith

pub body-ends : (P : Problem) (x : NumberedDerivation) → IsTrue (is_written P x) → numbered_stage_after_lines (Some first_stage) (numbered_body x) ≡ Some ended_stage
body-ends P x h =
    let p = written-parts P x h in
    let rise = rising P x h in
    let n = length x.labels in
    let end = last_line ∷ [] in
    let steps = map step_of x.steps ++ end in
    let terms = term_lines 1 x.terms ++ steps in
    let spares = map spare_of x.spares ++ terms in
    let eigens = map eigen_of x.eigens ++ spares in
    let e = first-eigens-run n 0 x.eigens spares rise.eigens p.eigens in
    let s = first-spares-run n 0 e.leads.to e.spares e.leads.takes x.spares terms rise.spares p.spares in
    let t = terms-run n 0 s.to s.takes x.terms steps in
    ap (numbered_stage_after_lines (Some first_stage)) (regroup (label_lines 1 x.labels) (map eigen_of x.eigens) (map spare_of x.spares) (term_lines 1 x.terms) (map step_of x.steps) end)
    ∙ labels-run 0 0 x.labels eigens ∙ ap (λ k. numbered_stage_after_lines (Some (stage_at k 0 Labels)) eigens) (from-none n)
    ∙ e.leads.run ∙ s.run ∙ t.2 ∙ ap (λ k. numbered_stage_after_lines (Some (stage_at n k t.0)) steps) (from-none (length x.terms))
    ∙ steps-run n (length x.terms) t.0 t.1 x.steps p.steps

-- ---- written

labels-good : (S : List Symbol) (k : ℕ) (ws : List Label) → k + length ws < 2 ^ 64 → IsTrue (list_all label_is_written ws) → IsTrue (list_all (numbered_line_is_written S) (label_lines (suc k) ws))
labels-good S k [] b h = refl
labels-good S k (w ∷ ws) b h =
    let p = and_parts (label_is_written w) (list_all label_is_written ws) h in
    and_from (nat_lt (suc k) (2 ^ 64) && label_is_written w) (list_all (numbered_line_is_written S) (label_lines (suc (suc k)) ws))
    (and_from (nat_lt (suc k) (2 ^ 64)) (label_is_written w) (lt-ltb (suc k) (2 ^ 64) (omega arith)) p.0) (labels-good S (suc k) ws (omega arith) p.1)

terms-good : (S : List Symbol) (k : ℕ) (ts : List Term) → k + length ts < 2 ^ 64 → IsTrue (list_all (term_is_written S) ts) → IsTrue (list_all (numbered_line_is_written S) (term_lines (suc k) ts))
terms-good S k [] b h = refl
terms-good S k (t ∷ ts) b h =
    let p = and_parts (term_is_written S t) (list_all (term_is_written S) ts) h in
    and_from (nat_lt (suc k) (2 ^ 64) && term_is_written S t) (list_all (numbered_line_is_written S) (term_lines (suc (suc k)) ts))
    (and_from (nat_lt (suc k) (2 ^ 64)) (term_is_written S t) (lt-ltb (suc k) (2 ^ 64) (omega arith)) p.0) (terms-good S (suc k) ts (omega arith) p.1)

count-small : (n k : ℕ) → IsTrue (is_count n) → IsTrue (is_among n k) → IsTrue (is_count_text k)
count-small n k c h =
    let b = ltb-true n (2 ^ 64) c in
    let l = leb-true k n (and_parts (nat_le 1 k) (nat_le k n) h).1 in
    lt-ltb k (2 ^ 64) (omega (arith, b, l))

home-small : (n : ℕ) (home : Option ℕ) → IsTrue (is_count n) → IsTrue (numbered_home_is_written n home) → IsTrue (home_has_number home)
home-small n None c h = refl
home-small n (Some k) c h = count-small n k c h

modal-small : (n : ℕ) (m : NumberedModal) → IsTrue (is_count n) → IsTrue (numbered_modal_is_written n m) → IsTrue (modal_has_number m)
modal-small n no_numbered_modal c h = refl
modal-small n (to_number k) c h = count-small n k c h
modal-small n (by_character k) c h = h

arg-small : (n : ℕ) (t : NumberedTerm) → IsTrue (is_count n) → IsTrue (numbered_term_is_written n t) → IsTrue (arg_has_number t)
arg-small n no_numbered_term c h = refl
arg-small n (by_number k) c h = count-small n k c h
arg-small n (by_eigen k) c h = h

eigens-good : (S : List Symbol) (n : ℕ) → IsTrue (is_count n) → (es : List NumberedEigen) → IsTrue (list_all (numbered_eigen_is_written n) es) → IsTrue (list_all (numbered_line_is_written S) (map eigen_of es))
eigens-good S n c [] h = refl
eigens-good S n c (y ∷ es) h =
    let p = and_parts (numbered_eigen_is_written n y) (list_all (numbered_eigen_is_written n) es) h in
    let q = and_parts (is_number y.number) (is_among n y.home) p.0 in
    and_from (is_number y.number && is_count_text y.home) (list_all (numbered_line_is_written S) (map eigen_of es)) (and_from (is_number y.number) (is_count_text y.home) q.0 (count-small n y.home c q.1)) (eigens-good S n c es p.1)

spares-good : (S : List Symbol) (n : ℕ) → IsTrue (is_count n) → (ss : List NumberedSpare) → IsTrue (list_all (numbered_spare_is_written n) ss) → IsTrue (list_all (numbered_line_is_written S) (map spare_of ss))
spares-good S n c [] h = refl
spares-good S n c (y ∷ ss) h =
    let p = and_parts (numbered_spare_is_written n y) (list_all (numbered_spare_is_written n) ss) h in
    let q = and_parts (is_number y.number) (numbered_home_is_written n y.home) p.0 in
    and_from (is_number y.number && home_has_number y.home) (list_all (numbered_line_is_written S) (map spare_of ss)) (and_from (is_number y.number) (home_has_number y.home) q.0 (home-small n y.home c q.1)) (spares-good S n c ss p.1)

step-good : (a b : ℕ) → IsTrue (is_count a) → IsTrue (is_count b) → (x : NumberedStep) → IsTrue (numbered_step_is_written a b x) → IsTrue (step_has_numbers x)
step-good a b c d (numbered_axiom n k) h = h
step-good a b c d (numbered_use n m t) h =
    let p = and_parts (is_number n && numbered_modal_is_written a m) (numbered_term_is_written b t) h in
    let q = and_parts (is_number n) (numbered_modal_is_written a m) p.0 in
    and_from (is_number n) (modal_has_number m && arg_has_number t) q.0 (and_from (modal_has_number m) (arg_has_number t) (modal-small a m c q.1) (arg-small b t d p.1))

steps-good : (S : List Symbol) (a b : ℕ) → IsTrue (is_count a) → IsTrue (is_count b) → (xs : List NumberedStep) → IsTrue (list_all (numbered_step_is_written a b) xs) → IsTrue (list_all (numbered_line_is_written S) (map step_of xs))
steps-good S a b c d [] h = refl
steps-good S a b c d (x ∷ xs) h =
    let p = and_parts (numbered_step_is_written a b x) (list_all (numbered_step_is_written a b) xs) h in
    and_from (step_has_numbers x) (list_all (numbered_line_is_written S) (map step_of xs)) (step-good a b c d x p.0) (steps-good S a b c d xs p.1)

join : (S : List Symbol) (xs ys : List NumberedLine) → IsTrue (list_all (numbered_line_is_written S) xs) → IsTrue (list_all (numbered_line_is_written S) ys) → IsTrue (list_all (numbered_line_is_written S) (xs ++ ys))
join S xs ys h k = list_all-append (numbered_line_is_written S) xs ys ∙ and_from (list_all (numbered_line_is_written S) xs) (list_all (numbered_line_is_written S) ys) h k

pub body-written : (P : Problem) (x : NumberedDerivation) → IsTrue (is_written P x) → IsTrue (list_all (numbered_line_is_written P.symbols) (numbered_body x))
body-written P x h =
    let S = P.symbols in
    let p = written-parts P x h in
    let n = ltb-true (length x.labels) (2 ^ 64) p.label_count in
    let m = ltb-true (length x.terms) (2 ^ 64) p.term_count in
    let ls = label_lines 1 x.labels in
    let es = map eigen_of x.eigens in
    let ss = map spare_of x.spares in
    let ts = term_lines 1 x.terms in
    let xs = map step_of x.steps in
    join S (front_lines x) (last_line ∷ [])
    (join S ls (es ++ (ss ++ (ts ++ xs))) (labels-good S 0 x.labels (omega (arith, n)) p.labels)
    (join S es (ss ++ (ts ++ xs)) (eigens-good S (length x.labels) p.label_count x.eigens p.eigens)
    (join S ss (ts ++ xs) (spares-good S (length x.labels) p.label_count x.spares p.spares)
    (join S ts xs (terms-good S 0 x.terms (omega (arith, m)) p.terms) (steps-good S (length x.labels) (length x.terms) p.label_count p.term_count x.steps p.steps)))))
    refl
