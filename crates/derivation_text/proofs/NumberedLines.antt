-- Lines whose numbers a reader holds.
use Rattle.std.proofs.Common.{◌≡◌, ℕ, suc, ◌-◌, ◌^◌, ◌<◌, List, true, ◌&&◌, ◌==◌, IsTrue, Option, None, Some, nat_le, refl, sym, ◌∙◌, ap, arith, leb-true, ltb-true, eqb-true, lt-ltb}
use Rattle.std.proofs.lemmas.Bool.{and_from, and_parts}
use Rattle.calculus.specs.Syntax.{Symbol}
use Rattle.calculus.specs.Problems.{are_distinct}
use Rattle.calculus.specs.DerivationText.{label_is_written, term_is_written}
use Rattle.calculus.specs.Text.{is_number}
use Rattle.calculus.specs.Versions.{NumberedModal, no_numbered_modal, to_number, by_character, NumberedTerm, no_numbered_term, by_number, by_eigen, NumberedStep, numbered_use, numbered_axiom, is_among, numbered_home_is_written}
use Rattle.derivation_text.specs.declared.numbered_line.NumberedStage.{NumberedStage}
use Rattle.derivation_text.specs.declared.numbered_line.Part.TheVariants.{Labels, Eigens, Spares, Terms, Steps}
use Rattle.derivation_text.specs.Listed.{are_listed, is_arg_listed, is_modal_listed}
use Rattle.derivation_text.specs.NumberedBody.{IsNumberedLine, IsSmallLine, NumberedLine, label_of, eigen_of, spare_of, term_of, step_of, last_line, arg_has_number, arg_is_small, goes_on, home_has_number, home_is_small, is_behind, is_count_text, last_eigen, last_spare, line_is_small, modal_has_number, modal_is_small, numbered_line_is_written, numbered_stage_after, step_has_numbers, step_is_small, takes_labels, takes_terms}
use Rattle.derivation_text.proofs.NumberedBodyLaws.{chosen}
use Rattle.derivation_text.proofs.NumberedOne.{line-one}

-- ---- small numbers are numbers

wider : (n : ℕ) → IsTrue (is_number n) → IsTrue (is_count_text n)
wider n h = let b = ltb-true n (2 ^ 32) h in lt-ltb n (2 ^ 64) (omega (arith, b))

home-wider : (h : Option ℕ) → IsTrue (home_is_small h) → IsTrue (home_has_number h)
home-wider None h = refl
home-wider (Some k) h = wider k h

modal-wider : (m : NumberedModal) → IsTrue (modal_is_small m) → IsTrue (modal_has_number m)
modal-wider no_numbered_modal h = refl
modal-wider (to_number k) h = wider k h
modal-wider (by_character n) h = h

arg-wider : (t : NumberedTerm) → IsTrue (arg_is_small t) → IsTrue (arg_has_number t)
arg-wider no_numbered_term h = refl
arg-wider (by_number k) h = wider k h
arg-wider (by_eigen n) h = h

step-wider : (x : NumberedStep) → IsTrue (step_is_small x) → IsTrue (step_has_numbers x)
step-wider (numbered_axiom n k) h = h
step-wider (numbered_use n m t) h =
    let p = and_parts (is_number n) (modal_is_small m && arg_is_small t) h in
    let q = and_parts (modal_is_small m) (arg_is_small t) p.1 in
    and_from (is_number n) (modal_has_number m && arg_has_number t) p.0 (and_from (modal_has_number m) (arg_has_number t) (modal-wider m q.0) (arg-wider t q.1))

line-wider : (S : List Symbol) (x : NumberedLine) → IsTrue (line_is_small S x) → IsTrue (numbered_line_is_written S x)
line-wider S (label_of k w) h = let p = and_parts (is_number k) (label_is_written w) h in and_from (is_count_text k) (label_is_written w) (wider k p.0) p.1
line-wider S (eigen_of y) h = let p = and_parts (is_number y.number) (is_number y.home) h in and_from (is_number y.number) (is_count_text y.home) p.0 (wider y.home p.1)
line-wider S (spare_of y) h = let p = and_parts (is_number y.number) (home_is_small y.home) h in and_from (is_number y.number) (home_has_number y.home) p.0 (home-wider y.home p.1)
line-wider S (term_of k t) h = let p = and_parts (is_number k) (term_is_written S t) h in and_from (is_count_text k) (term_is_written S t) (wider k p.0) p.1
line-wider S (step_of y) h = step-wider y h
line-wider S last_line h = refl

pub read-line : (S : List Symbol) (bytes : List ℕ) (x : NumberedLine) → IsSmallLine S bytes x → IsNumberedLine S bytes x
read-line S bytes x h = record { written = line-wider S x h.written; same = h.same }

-- ---- lines that may stand have small numbers

among-small : (n k : ℕ) → n < 2 ^ 32 → IsTrue (is_among n k) → IsTrue (is_number k)
among-small n k b h = let l = leb-true k n (and_parts (nat_le 1 k) (nat_le k n) h).1 in lt-ltb k (2 ^ 32) (omega (arith, b, l))

home-small : (n : ℕ) (h : Option ℕ) → n < 2 ^ 32 → IsTrue (numbered_home_is_written n h) → IsTrue (home_is_small h)
home-small n None b h = refl
home-small n (Some k) b h = among-small n k b h

modal-small : (n : ℕ) (m : NumberedModal) → n < 2 ^ 32 → IsTrue (is_modal_listed n m) → IsTrue (modal_has_number m) → IsTrue (modal_is_small m)
modal-small n no_numbered_modal b h w = refl
modal-small n (to_number k) b h w = among-small n k b h
modal-small n (by_character k) b h w = w

arg-small : (n : ℕ) (t : NumberedTerm) → n < 2 ^ 32 → IsTrue (is_arg_listed n t) → IsTrue (arg_has_number t) → IsTrue (arg_is_small t)
arg-small n no_numbered_term b h w = refl
arg-small n (by_number k) b h w = among-small n k b h
arg-small n (by_eigen k) b h w = w

step-small : (a b : ℕ) (x : NumberedStep) → a < 2 ^ 32 → b < 2 ^ 32 → IsTrue (are_listed a b x) → IsTrue (step_has_numbers x) → IsTrue (step_is_small x)
step-small a b (numbered_axiom n k) f g h w = w
step-small a b (numbered_use n m t) f g h w =
    let p = and_parts (is_number n) (modal_has_number m && arg_has_number t) w in
    let q = and_parts (modal_has_number m) (arg_has_number t) p.1 in
    let l = and_parts (is_modal_listed a m) (is_arg_listed b t) h in
    and_from (is_number n) (modal_is_small m && arg_is_small t) p.0 (and_from (modal_is_small m) (arg_is_small t) (modal-small a m f l.0 q.0) (arg-small b t g l.1 q.1))

next-small : (n k : ℕ) → n < 2 ^ 32 - 1 → (k == suc n) ≡ true → IsTrue (is_number k)
next-small n k b e = let same = eqb-true k (suc n) e in lt-ltb k (2 ^ 32) (omega (arith, b, same))

standing-small : (S : List Symbol) (s t : NumberedStage) (x : NumberedLine) → s.labels < 2 ^ 32 - 1 → s.terms < 2 ^ 32 - 1 → IsTrue (numbered_line_is_written S x) → numbered_stage_after s x ≡ Some t → IsTrue (line_is_small S x)
standing-small S s t (label_of k w) f g h e =
    let c = chosen (takes_labels s.part && (k == suc s.labels)) (record { labels = suc s.labels; terms = s.terms; part = Labels }) t e in
    let p = and_parts (takes_labels s.part) (k == suc s.labels) c.0 in
    and_from (is_number k) (label_is_written w) (next-small s.labels k f p.1) (and_parts (is_count_text k) (label_is_written w) h).1
standing-small S s t (term_of k u) f g h e =
    let c = chosen (takes_terms s.part && (k == suc s.terms)) (record { labels = s.labels; terms = suc s.terms; part = Terms }) t e in
    let p = and_parts (takes_terms s.part) (k == suc s.terms) c.0 in
    and_from (is_number k) (term_is_written S u) (next-small s.terms k g p.1) (and_parts (is_count_text k) (term_is_written S u) h).1
standing-small S s t (eigen_of y) f g h e =
    let c = chosen (is_behind (last_eigen s.part) y.number && is_among s.labels y.home) (record { labels = s.labels; terms = s.terms; part = Eigens y.number }) t e in
    let p = and_parts (is_behind (last_eigen s.part) y.number) (is_among s.labels y.home) c.0 in
    and_from (is_number y.number) (is_number y.home) (and_parts (is_number y.number) (is_count_text y.home) h).0 (among-small s.labels y.home (omega (arith, f)) p.1)
standing-small S s t (spare_of y) f g h e =
    let c = chosen (is_behind (last_spare s.part) y.number && numbered_home_is_written s.labels y.home) (record { labels = s.labels; terms = s.terms; part = Spares y.number }) t e in
    let p = and_parts (is_behind (last_spare s.part) y.number) (numbered_home_is_written s.labels y.home) c.0 in
    and_from (is_number y.number) (home_is_small y.home) (and_parts (is_number y.number) (home_has_number y.home) h).0 (home-small s.labels y.home (omega (arith, f)) p.1)
standing-small S s t (step_of y) f g h e =
    let c = chosen (goes_on s.part && are_listed s.labels s.terms y) (record { labels = s.labels; terms = s.terms; part = Steps }) t e in
    let p = and_parts (goes_on s.part) (are_listed s.labels s.terms y) c.0 in
    step-small s.labels s.terms y (omega (arith, f)) (omega (arith, g)) p.1 h
standing-small S s t last_line f g h e = refl

-- no line with small numbers is the text, so none may stand
pub none-small : (S : List Symbol) (s : NumberedStage) (bytes : List ℕ) → s.labels < 2 ^ 32 - 1 → s.terms < 2 ^ 32 - 1 → ((x : NumberedLine) → ¬ IsSmallLine S bytes x) → (x : NumberedLine) → IsNumberedLine S bytes x → numbered_stage_after s x ≡ None
none-small S s bytes f g none x h = by (numbered_stage_after s x) refl
  where
    by : (o : Option NumberedStage) → numbered_stage_after s x ≡ o → numbered_stage_after s x ≡ None
    by None e = e
    by (Some t) e = absurd (none x (record { written = standing-small S s t x f g h.written e; same = h.same }))

-- the line that the text is may not stand
pub none-after : (S : List Symbol) → IsTrue (are_distinct S) → (s : NumberedStage) (bytes : List ℕ) (x : NumberedLine) → IsSmallLine S bytes x → numbered_stage_after s x ≡ None → (y : NumberedLine) → IsNumberedLine S bytes y → numbered_stage_after s y ≡ None
none-after S d s bytes x h e y k = ap (numbered_stage_after s) (sym (line-one S d x y (line-wider S x h.written) k.written (sym h.same ∙ k.same))) ∙ e
