-- No line of a derivation with numbers has a line feed in it.
use Rattle.std.proofs.Common.{ℕ, suc, ◌+◌, ◌^◌, ◌<◌, ◌≤◌, List, [], ◌∷◌, ◌++◌, length, map, Bool, ◌&&◌, IsTrue, Option, None, Some, nat_le, refl, codes, decimal, arith, leb-true, ltb-true, lt_of_le_of_lt}
use Rattle.std.specs.List.{list_all}
use Rattle.std.proofs.lemmas.Bool.{and_from, and_parts}
use Rattle.calculus.specs.Syntax.{Symbol, Term, Problem}
use Rattle.calculus.specs.Problems.{is_problem, symbol_fits}
use Rattle.calculus.specs.Derivations.{Label}
use Rattle.calculus.specs.DerivationText.{is_limit, label_is_written, rises_from, term_is_written}
use Rattle.calculus.specs.Text.{is_number, label_text, term_text}
use Rattle.calculus.specs.Versions.{NumberedDerivation, NumberedEigen, NumberedSpare, NumberedModal, no_numbered_modal, to_number, by_character, NumberedTerm, no_numbered_term, by_number, by_eigen, NumberedStep, numbered_use, numbered_axiom, is_among, is_count, is_written, label_line, lines_from, numbered_eigen_is_written, numbered_eigen_line, numbered_head, numbered_home_is_written, numbered_home_text, numbered_lines, numbered_modal_is_written, numbered_modal_text, numbered_spare_is_written, numbered_spare_line, numbered_step_is_written, numbered_step_line, numbered_term_is_written, numbered_term_text, term_line}
use Rattle.logic_rules.proofs.ProblemFacts.{kept}
use Rattle.text_lines.proofs.LineFeeds.{AreNoFeeds, NoFeed, head-feed, is_no_feed, join, label-feed, lines-join, lines-map, name_number-feed, number-feed, small-feed, term-feed}

-- ---- the parts of what can be written

pub record WrittenParts (P : Problem) (x : NumberedDerivation) : Type 0 where
  pub limit : IsTrue (is_limit x.limit)
  pub label_count : IsTrue (is_count (length x.labels))
  pub labels : IsTrue (list_all label_is_written x.labels)
  pub eigens : IsTrue (list_all (numbered_eigen_is_written (length x.labels)) x.eigens)
  pub spares : IsTrue (list_all (numbered_spare_is_written (length x.labels)) x.spares)
  pub term_count : IsTrue (is_count (length x.terms))
  pub terms : IsTrue (list_all (term_is_written P.symbols) x.terms)
  pub steps : IsTrue (list_all (numbered_step_is_written (length x.labels) (length x.terms)) x.steps)

pub written-parts : (P : Problem) (x : NumberedDerivation) → IsTrue (is_written P x) → WrittenParts P x
written-parts P x h =
    let limit = is_limit x.limit in
    let labels = is_count (length x.labels) && list_all label_is_written x.labels in
    let eigens = rises_from 0 (map (λ (y : NumberedEigen). y.number) x.eigens) && list_all (numbered_eigen_is_written (length x.labels)) x.eigens in
    let spares = rises_from 0 (map (λ (y : NumberedSpare). y.number) x.spares) && list_all (numbered_spare_is_written (length x.labels)) x.spares in
    let terms = is_count (length x.terms) && list_all (term_is_written P.symbols) x.terms in
    let steps = list_all (numbered_step_is_written (length x.labels) (length x.terms)) x.steps in
    let f = and_parts (limit && labels && eigens && spares && terms) steps h in
    let e = and_parts (limit && labels && eigens && spares) terms f.0 in
    let d = and_parts (limit && labels && eigens) spares e.0 in
    let c = and_parts (limit && labels) eigens d.0 in
    let b = and_parts limit labels c.0 in
    let l = and_parts (is_count (length x.labels)) (list_all label_is_written x.labels) b.1 in
    let t = and_parts (is_count (length x.terms)) (list_all (term_is_written P.symbols) x.terms) e.1 in
    record {
      limit = b.0;
      label_count = l.0;
      labels = l.1;
      eigens = (and_parts (rises_from 0 (map (λ (y : NumberedEigen). y.number) x.eigens)) (list_all (numbered_eigen_is_written (length x.labels)) x.eigens) c.1).1;
      spares = (and_parts (rises_from 0 (map (λ (y : NumberedSpare). y.number) x.spares)) (list_all (numbered_spare_is_written (length x.labels)) x.spares) d.1).1;
      term_count = t.0;
      terms = t.1;
      steps = f.1;
    }

-- ---- lines

among-feed : (n k : ℕ) → IsTrue (is_count n) → IsTrue (is_among n k) → NoFeed (decimal k)
among-feed n k c h = number-feed k (lt_of_le_of_lt (leb-true k n (and_parts (nat_le 1 k) (nat_le k n) h).1) (ltb-true n (2 ^ 64) c))

-- lines with numbers from k
from-feed : {A : Type 0} (line : ℕ → A → List ℕ) (good : A → Bool) → ((k : ℕ) (x : A) → k < 2 ^ 64 → IsTrue (good x) → NoFeed (line k x)) → (k : ℕ) (xs : List A) → k + length xs ≤ 2 ^ 64 → IsTrue (list_all good xs) → AreNoFeeds (lines_from line k xs)
from-feed line good f k [] b h = refl
from-feed line good f k (x ∷ xs) b h =
    let p = and_parts (good x) (list_all good xs) h in
    and_from (list_all is_no_feed (line k x)) (list_all (list_all is_no_feed) (lines_from line (suc k) xs)) (f k x (omega arith) p.0) (from-feed line good f (suc k) xs (omega arith) p.1)

label_line-feed : (k : ℕ) (w : Label) → k < 2 ^ 64 → IsTrue (label_is_written w) → NoFeed (label_line k w)
label_line-feed k w b h = join (codes "label " ++ decimal k ++ codes " ") (label_text w) (join (codes "label " ++ decimal k) (codes " ") (join (codes "label ") (decimal k) refl (number-feed k b)) refl) (label-feed w h)

term_line-feed : (S : List Symbol) → IsTrue (list_all symbol_fits S) → (k : ℕ) (t : Term) → k < 2 ^ 64 → IsTrue (term_is_written S t) → NoFeed (term_line S k t)
term_line-feed S s k t b h = join (codes "term " ++ decimal k ++ codes " ") (term_text S 0 t) (join (codes "term " ++ decimal k) (codes " ") (join (codes "term ") (decimal k) refl (number-feed k b)) refl) (term-feed S s t h)

eigen-feed : (n : ℕ) → IsTrue (is_count n) → (x : NumberedEigen) → IsTrue (numbered_eigen_is_written n x) → NoFeed (numbered_eigen_line x)
eigen-feed n c x h =
    let p = and_parts (is_number x.number) (is_among n x.home) h in
    join (codes "name " ++ (codes "$$e" ++ decimal x.number) ++ codes " ") (decimal x.home) (join (codes "name " ++ (codes "$$e" ++ decimal x.number)) (codes " ") (join (codes "name ") (codes "$$e" ++ decimal x.number) refl (join (codes "$$e") (decimal x.number) refl (small-feed x.number p.0))) refl) (among-feed n x.home c p.1)

home-feed : (n : ℕ) → IsTrue (is_count n) → (home : Option ℕ) → IsTrue (numbered_home_is_written n home) → NoFeed (numbered_home_text home)
home-feed n c None h = refl
home-feed n c (Some k) h = among-feed n k c h

spare-feed : (n : ℕ) → IsTrue (is_count n) → (x : NumberedSpare) → IsTrue (numbered_spare_is_written n x) → NoFeed (numbered_spare_line x)
spare-feed n c x h =
    let p = and_parts (is_number x.number) (numbered_home_is_written n x.home) h in
    join (codes "name $$s" ++ decimal x.number ++ codes " ") (numbered_home_text x.home) (join (codes "name $$s" ++ decimal x.number) (codes " ") (join (codes "name $$s") (decimal x.number) refl (small-feed x.number p.0)) refl) (home-feed n c x.home p.1)

modal-feed : (n : ℕ) → IsTrue (is_count n) → (m : NumberedModal) → IsTrue (numbered_modal_is_written n m) → NoFeed (numbered_modal_text m)
modal-feed n c no_numbered_modal h = refl
modal-feed n c (to_number k) h = join (codes " to ") (decimal k) refl (among-feed n k c h)
modal-feed n c (by_character k) h = join (codes " new $$c") (decimal k) refl (name_number-feed k h)

arg-feed : (n : ℕ) → IsTrue (is_count n) → (t : NumberedTerm) → IsTrue (numbered_term_is_written n t) → NoFeed (numbered_term_text t)
arg-feed n c no_numbered_term h = refl
arg-feed n c (by_number k) h = join (codes " term ") (decimal k) refl (among-feed n k c h)
arg-feed n c (by_eigen k) h = join (codes " name ") (codes "$$e" ++ decimal k) refl (join (codes "$$e") (decimal k) refl (name_number-feed k h))

step-feed : (a b : ℕ) → IsTrue (is_count a) → IsTrue (is_count b) → (x : NumberedStep) → IsTrue (numbered_step_is_written a b x) → NoFeed (numbered_step_line x)
step-feed a b c d (numbered_use n m t) h =
    let p = and_parts (is_number n && numbered_modal_is_written a m) (numbered_term_is_written b t) h in
    let q = and_parts (is_number n) (numbered_modal_is_written a m) p.0 in
    join (codes "use " ++ decimal n ++ numbered_modal_text m) (numbered_term_text t) (join (codes "use " ++ decimal n) (numbered_modal_text m) (join (codes "use ") (decimal n) refl (small-feed n q.0)) (modal-feed a c m q.1)) (arg-feed b d t p.1)
step-feed a b c d (numbered_axiom n k) h =
    let p = and_parts (is_number n) (is_number k) h in
    join (codes "axiom " ++ decimal n ++ codes " ") (decimal k) (join (codes "axiom " ++ decimal n) (codes " ") (join (codes "axiom ") (decimal n) refl (small-feed n p.0)) refl) (small-feed k p.1)

-- more than none, and no more than a machine can count
one-more : (n : ℕ) → IsTrue (is_count n) → 1 + n ≤ 2 ^ 64
one-more n c = let b = ltb-true n (2 ^ 64) c in omega arith

pub numbered-feed : (P : Problem) → IsTrue (is_problem P) → (x : NumberedDerivation) → IsTrue (is_written P x) → AreNoFeeds (numbered_lines P x)
numbered-feed P w x h =
    let p = written-parts P x h in
    let s = (kept P w).symbols in
    let hs = numbered_head P x.limit in
    let ls = lines_from label_line 1 x.labels in
    let es = map numbered_eigen_line x.eigens in
    let ss = map numbered_spare_line x.spares in
    let ts = lines_from (term_line P.symbols) 1 x.terms in
    let xs = map numbered_step_line x.steps in
    lines-join (hs ++ ls ++ es ++ ss ++ ts ++ xs) (codes "end" ∷ [])
    (lines-join (hs ++ ls ++ es ++ ss ++ ts) xs
    (lines-join (hs ++ ls ++ es ++ ss) ts
    (lines-join (hs ++ ls ++ es) ss
    (lines-join (hs ++ ls) es
    (lines-join hs ls (head-feed (codes "leancop derivation 2") P refl w x.limit p.limit) (from-feed label_line label_is_written label_line-feed 1 x.labels (one-more (length x.labels) p.label_count) p.labels))
    (lines-map numbered_eigen_line (numbered_eigen_is_written (length x.labels)) (eigen-feed (length x.labels) p.label_count) x.eigens p.eigens))
    (lines-map numbered_spare_line (numbered_spare_is_written (length x.labels)) (spare-feed (length x.labels) p.label_count) x.spares p.spares))
    (from-feed (term_line P.symbols) (term_is_written P.symbols) (term_line-feed P.symbols s) 1 x.terms (one-more (length x.terms) p.term_count) p.terms))
    (lines-map numbered_step_line (numbered_step_is_written (length x.labels) (length x.terms)) (step-feed (length x.labels) (length x.terms) p.label_count p.term_count) x.steps p.steps))
    refl
