-- A line of version 2 is the text of one value.
use Rattle.std.proofs.Common.{◌≡◌, ℕ, ◌^◌, ◌<◌, List, [], ◌∷◌, ◌++◌, ◌&&◌, false, ◌==◌, IsTrue, Option, None, Some, refl, sym, ◌∙◌, ap, append_assoc, decimal, codes, eq-eqb, ltb-true}
use Rattle.std.specs.List.{list_all}
use Rattle.std.proofs.lemmas.Bool.{and_parts, true≢false}
use Rattle.plain_laws.proofs.Places.{differ-at}
use Rattle.plain_laws.proofs.Lists.{on-line}
use Rattle.calculus.proofs.VersionLaws.{arg-no_character, arg-no_to, numbered-axiom-on, numbered-eigen-on, numbered-spare-on, numbered-use-on}
use Rattle.calculus.specs.Syntax.{Symbol, Term}
use Rattle.calculus.specs.Problems.{are_distinct}
use Rattle.calculus.specs.Derivations.{Label}
use Rattle.calculus.specs.DerivationText.{label_is_written, term_is_written}
use Rattle.calculus.specs.Text.{Ends, is_digit, is_number, label_text, term_text}
use Rattle.calculus.specs.Versions.{NumberedEigen, NumberedSpare, NumberedModal, no_numbered_modal, to_number, by_character, NumberedTerm, no_numbered_term, by_number, by_eigen, NumberedStep, numbered_use, numbered_axiom, label_line, numbered_eigen_line, numbered_home_text, numbered_modal_text, numbered_spare_line, numbered_step_line, numbered_term_text, term_line}
use Rattle.calculus.proofs.TextLaws.{cons-head, cons-tail, decimal-digits, decimal-split}
use Rattle.calculus.proofs.TermTextLaws.{ends-digit, label-split, number-split, term-split}
use Rattle.calculus.proofs.DerivationTextLaws.{cancel, entry-split}
use Rattle.derivation_text.specs.NumberedBody.{NumberedLine, label_of, eigen_of, spare_of, term_of, step_of, last_line, arg_has_number, home_has_number, is_count_text, modal_has_number, numbered_line_is_written, numbered_line_text, step_has_numbers}

small : (k : ℕ) → IsTrue (is_count_text k) → k < 2 ^ 64
small k h = ltb-true k (2 ^ 64) h

count-split : (j k : ℕ) (r s : List ℕ) → IsTrue (is_count_text j) → IsTrue (is_count_text k) → Ends r → Ends s → decimal j ++ r ≡ decimal k ++ s → (j ≡ k) × (r ≡ s)
count-split j k r s hj hk hr hs e = decimal-split j k r s (small j hj) (small k hk) (ends-digit r hr) (ends-digit s hs) e

-- digits, then a line feed, do not begin with a letter
any-digit : (k : ℕ) (r s : List ℕ) → k < 2 ^ 64 → codes "any" ++ r ≡ decimal k ++ 10 ∷ s → ⊥
any-digit k r s h e = by (decimal k) (decimal-digits k h) e
  where
    by : (ds : List ℕ) → IsTrue (list_all is_digit ds) → codes "any" ++ r ≡ ds ++ 10 ∷ s → ⊥
    by [] g f = differ-at _ _ 0 f refl
    by (d ∷ ds) g f = true≢false (sym (and_parts (is_digit d) (list_all is_digit ds) g).0 ∙ ap is_digit (sym (cons-head f)))

home-split : (j k : Option ℕ) (r s : List ℕ) → IsTrue (home_has_number j) → IsTrue (home_has_number k) → numbered_home_text j ++ 10 ∷ r ≡ numbered_home_text k ++ 10 ∷ s → (j ≡ k) × (r ≡ s)
home-split None None r s hj hk e = (refl, cons-tail (cons-tail (cons-tail (cons-tail e))))
home-split None (Some k) r s hj hk e = absurd (any-digit k (10 ∷ r) s (small k hk) e)
home-split (Some j) None r s hj hk e = absurd (any-digit j (10 ∷ s) r (small j hj) (sym e))
home-split (Some j) (Some k) r s hj hk e = let p = count-split j k (10 ∷ r) (10 ∷ s) hj hk refl refl e in (ap Some p.0, cons-tail p.1)

-- ---- lines with a number in front

numbered-on : (word text r : List ℕ) (k : ℕ) → (word ++ decimal k ++ codes " " ++ text) ++ r ≡ word ++ (decimal k ++ (32 ∷ (text ++ r)))
numbered-on word text r k = append_assoc (word ++ decimal k ++ codes " ") text r ∙ append_assoc (word ++ decimal k) (codes " ") (text ++ r) ∙ append_assoc word (decimal k) (32 ∷ (text ++ r))

label-one : (j k : ℕ) (v w : Label) (r s : List ℕ) → IsTrue (is_count_text j && label_is_written v) → IsTrue (is_count_text k && label_is_written w) → label_line j v ++ 10 ∷ r ≡ label_line k w ++ 10 ∷ s → (j ≡ k) × (v ≡ w)
label-one j k v w r s hv hw e =
    let p = and_parts (is_count_text j) (label_is_written v) hv in
    let q = and_parts (is_count_text k) (label_is_written w) hw in
    let f = cancel (codes "label ") _ _ (sym (numbered-on (codes "label ") (label_text v) (10 ∷ r) j) ∙ e ∙ numbered-on (codes "label ") (label_text w) (10 ∷ s) k) in
    let first = count-split j k (32 ∷ (label_text v ++ 10 ∷ r)) (32 ∷ (label_text w ++ 10 ∷ s)) p.0 q.0 refl refl f in
    let second = label-split v w (10 ∷ r) (10 ∷ s) p.1 q.1 (cons-tail first.1) in
    (first.0, second.0)

term-one : (S : List Symbol) → IsTrue (are_distinct S) → (j k : ℕ) (t u : Term) (r s : List ℕ) → IsTrue (is_count_text j && term_is_written S t) → IsTrue (is_count_text k && term_is_written S u) → term_line S j t ++ 10 ∷ r ≡ term_line S k u ++ 10 ∷ s → (j ≡ k) × (t ≡ u)
term-one S d j k t u r s ht hu e =
    let p = and_parts (is_count_text j) (term_is_written S t) ht in
    let q = and_parts (is_count_text k) (term_is_written S u) hu in
    let f = cancel (codes "term ") _ _ (sym (numbered-on (codes "term ") (term_text S 0 t) (10 ∷ r) j) ∙ e ∙ numbered-on (codes "term ") (term_text S 0 u) (10 ∷ s) k) in
    let first = count-split j k (32 ∷ (term_text S 0 t ++ 10 ∷ r)) (32 ∷ (term_text S 0 u ++ 10 ∷ s)) p.0 q.0 refl refl f in
    let second = term-split S d t u (10 ∷ r) (10 ∷ s) p.1 q.1 refl refl (cons-tail first.1) in
    (first.0, second.0)

eigen-one : (x y : NumberedEigen) (r s : List ℕ) → IsTrue (is_number x.number && is_count_text x.home) → IsTrue (is_number y.number && is_count_text y.home) → numbered_eigen_line x ++ 10 ∷ r ≡ numbered_eigen_line y ++ 10 ∷ s → x ≡ y
eigen-one x y r s hx hy e =
    let f = cons-tail (cons-tail (cons-tail (cons-tail (cons-tail (cons-tail (cons-tail (cons-tail (sym (numbered-eigen-on x (10 ∷ r)) ∙ e ∙ numbered-eigen-on y (10 ∷ s))))))))) in
    let px = and_parts (is_number x.number) (is_count_text x.home) hx in
    let py = and_parts (is_number y.number) (is_count_text y.home) hy in
    let first = entry-split x.number y.number (32 ∷ (decimal x.home ++ 10 ∷ r)) (32 ∷ (decimal y.home ++ 10 ∷ s)) px.0 py.0 refl refl f in
    let second = count-split x.home y.home (10 ∷ r) (10 ∷ s) px.1 py.1 refl refl (cons-tail first.1) in
    λ i. record { number = first.0 i; home = second.0 i }

spare-one : (x y : NumberedSpare) (r s : List ℕ) → IsTrue (is_number x.number && home_has_number x.home) → IsTrue (is_number y.number && home_has_number y.home) → numbered_spare_line x ++ 10 ∷ r ≡ numbered_spare_line y ++ 10 ∷ s → x ≡ y
spare-one x y r s hx hy e =
    let f = cons-tail (cons-tail (cons-tail (cons-tail (cons-tail (cons-tail (cons-tail (cons-tail (sym (numbered-spare-on x (10 ∷ r)) ∙ e ∙ numbered-spare-on y (10 ∷ s))))))))) in
    let px = and_parts (is_number x.number) (home_has_number x.home) hx in
    let py = and_parts (is_number y.number) (home_has_number y.home) hy in
    let first = entry-split x.number y.number (32 ∷ (numbered_home_text x.home ++ 10 ∷ r)) (32 ∷ (numbered_home_text y.home ++ 10 ∷ s)) px.0 py.0 refl refl f in
    let second = home-split x.home y.home r s px.1 py.1 (cons-tail first.1) in
    λ i. record { number = first.0 i; home = second.0 i }

-- ---- steps

arg-split : (t u : NumberedTerm) (r s : List ℕ) → IsTrue (arg_has_number t) → IsTrue (arg_has_number u) → numbered_term_text t ++ 10 ∷ r ≡ numbered_term_text u ++ 10 ∷ s → (t ≡ u) × (r ≡ s)
arg-split no_numbered_term no_numbered_term r s ht hu e = (refl, cons-tail e)
arg-split no_numbered_term (by_number j) r s ht hu e = absurd (differ-at _ _ 0 e refl)
arg-split no_numbered_term (by_eigen j) r s ht hu e = absurd (differ-at _ _ 0 e refl)
arg-split (by_number k) no_numbered_term r s ht hu e = absurd (differ-at _ _ 0 e refl)
arg-split (by_number k) (by_number j) r s ht hu e = let p = count-split k j (10 ∷ r) (10 ∷ s) ht hu refl refl (cancel (codes " term ") _ _ e) in (ap by_number p.0, cons-tail p.1)
arg-split (by_number k) (by_eigen j) r s ht hu e = absurd (differ-at _ _ 1 e refl)
arg-split (by_eigen k) no_numbered_term r s ht hu e = absurd (differ-at _ _ 0 e refl)
arg-split (by_eigen k) (by_number j) r s ht hu e = absurd (differ-at _ _ 1 e refl)
arg-split (by_eigen k) (by_eigen j) r s ht hu e = let p = number-split k j (10 ∷ r) (10 ∷ s) ht hu refl refl (cancel (codes " name $$e") _ _ e) in (ap by_eigen p.0, cons-tail p.1)

arg-ends : (t : NumberedTerm) (r : List ℕ) → Ends (numbered_term_text t ++ 10 ∷ r)
arg-ends no_numbered_term r = refl
arg-ends (by_number k) r = refl
arg-ends (by_eigen k) r = refl

args-end : (m : NumberedModal) (t : NumberedTerm) (r : List ℕ) → Ends (numbered_modal_text m ++ (numbered_term_text t ++ 10 ∷ r))
args-end no_numbered_modal t r = arg-ends t r
args-end (to_number k) t r = refl
args-end (by_character k) t r = refl

args-split : (m n : NumberedModal) (t u : NumberedTerm) (r s : List ℕ) → IsTrue (modal_has_number m) → IsTrue (modal_has_number n) → IsTrue (arg_has_number t) → IsTrue (arg_has_number u) → numbered_modal_text m ++ (numbered_term_text t ++ 10 ∷ r) ≡ numbered_modal_text n ++ (numbered_term_text u ++ 10 ∷ s) → (m ≡ n) × (t ≡ u)
args-split no_numbered_modal no_numbered_modal t u r s hm hn ht hu e = (refl, (arg-split t u r s ht hu e).0)
args-split no_numbered_modal (to_number j) t u r s hm hn ht hu e = absurd (arg-no_to t j r _ e)
args-split no_numbered_modal (by_character j) t u r s hm hn ht hu e = absurd (arg-no_character t j r _ e)
args-split (to_number k) no_numbered_modal t u r s hm hn ht hu e = absurd (arg-no_to u k s _ (sym e))
args-split (to_number k) (to_number j) t u r s hm hn ht hu e =
    let first = count-split k j (numbered_term_text t ++ 10 ∷ r) (numbered_term_text u ++ 10 ∷ s) hm hn (arg-ends t r) (arg-ends u s) (cancel (codes " to ") _ _ e) in
    (ap to_number first.0, (arg-split t u r s ht hu first.1).0)
args-split (to_number k) (by_character j) t u r s hm hn ht hu e = absurd (differ-at _ _ 1 e refl)
args-split (by_character k) no_numbered_modal t u r s hm hn ht hu e = absurd (arg-no_character u k s _ (sym e))
args-split (by_character k) (to_number j) t u r s hm hn ht hu e = absurd (differ-at _ _ 1 e refl)
args-split (by_character k) (by_character j) t u r s hm hn ht hu e =
    let first = number-split k j (numbered_term_text t ++ 10 ∷ r) (numbered_term_text u ++ 10 ∷ s) hm hn (arg-ends t r) (arg-ends u s) (cancel (codes " new $$c") _ _ e) in
    (ap by_character first.0, (arg-split t u r s ht hu first.1).0)

step-one : (x y : NumberedStep) (r s : List ℕ) → IsTrue (step_has_numbers x) → IsTrue (step_has_numbers y) → numbered_step_line x ++ 10 ∷ r ≡ numbered_step_line y ++ 10 ∷ s → x ≡ y
step-one (numbered_use n m t) (numbered_use k j u) r s hx hy e =
    let f = cancel (codes "use ") _ _ (sym (numbered-use-on n m t (10 ∷ r)) ∙ e ∙ numbered-use-on k j u (10 ∷ s)) in
    let px = and_parts (is_number n) (modal_has_number m && arg_has_number t) hx in
    let py = and_parts (is_number k) (modal_has_number j && arg_has_number u) hy in
    let qx = and_parts (modal_has_number m) (arg_has_number t) px.1 in
    let qy = and_parts (modal_has_number j) (arg_has_number u) py.1 in
    let first = entry-split n k (numbered_modal_text m ++ (numbered_term_text t ++ 10 ∷ r)) (numbered_modal_text j ++ (numbered_term_text u ++ 10 ∷ s)) px.0 py.0 (args-end m t r) (args-end j u s) f in
    let rest = args-split m j t u r s qx.0 qy.0 qx.1 qy.1 first.1 in
    λ i. numbered_use (first.0 i) (rest.0 i) (rest.1 i)
step-one (numbered_use n m t) (numbered_axiom k j) r s hx hy e = absurd (differ-at _ _ 0 e refl)
step-one (numbered_axiom n k) (numbered_use j m t) r s hx hy e = absurd (differ-at _ _ 0 e refl)
step-one (numbered_axiom n k) (numbered_axiom i j) r s hx hy e =
    let f = cancel (codes "axiom ") _ _ (sym (numbered-axiom-on n k (10 ∷ r)) ∙ e ∙ numbered-axiom-on i j (10 ∷ s)) in
    let px = and_parts (is_number n) (is_number k) hx in
    let py = and_parts (is_number i) (is_number j) hy in
    let first = entry-split n i (32 ∷ (decimal k ++ 10 ∷ r)) (32 ∷ (decimal j ++ 10 ∷ s)) px.0 py.0 refl refl f in
    let second = entry-split k j (10 ∷ r) (10 ∷ s) px.1 py.1 refl refl (cons-tail first.1) in
    λ z. numbered_axiom (first.0 z) (second.0 z)

-- ---- any line

-- a step line begins with `u` or `a`
no-step : (x : NumberedStep) (b : ℕ) (r : List ℕ) → (117 == b) ≡ false → (97 == b) ≡ false → numbered_step_line x ≡ b ∷ r → ⊥
no-step (numbered_use n m t) b r h k e = true≢false (sym (eq-eqb 117 b (cons-head e)) ∙ h)
no-step (numbered_axiom n m) b r h k e = true≢false (sym (eq-eqb 97 b (cons-head e)) ∙ k)

pub line-one : (S : List Symbol) → IsTrue (are_distinct S) → (x y : NumberedLine) → IsTrue (numbered_line_is_written S x) → IsTrue (numbered_line_is_written S y) → numbered_line_text S x ≡ numbered_line_text S y → x ≡ y
line-one S d (label_of j v) (label_of k w) hx hy e = let p = label-one j k v w [] [] hx hy (on-line (label_line j v) (label_line k w) e) in λ i. label_of (p.0 i) (p.1 i)
line-one S d (term_of j t) (term_of k u) hx hy e = let p = term-one S d j k t u [] [] hx hy (on-line (term_line S j t) (term_line S k u) e) in λ i. term_of (p.0 i) (p.1 i)
line-one S d (eigen_of x) (eigen_of y) hx hy e = ap eigen_of (eigen-one x y [] [] hx hy (on-line (numbered_eigen_line x) (numbered_eigen_line y) e))
line-one S d (spare_of x) (spare_of y) hx hy e = ap spare_of (spare-one x y [] [] hx hy (on-line (numbered_spare_line x) (numbered_spare_line y) e))
line-one S d (step_of x) (step_of y) hx hy e = ap step_of (step-one x y [] [] hx hy (on-line (numbered_step_line x) (numbered_step_line y) e))
line-one S d last_line last_line hx hy e = refl
line-one S d (label_of j v) (eigen_of y) hx hy e = absurd (differ-at _ _ 0 e refl)
line-one S d (label_of j v) (spare_of y) hx hy e = absurd (differ-at _ _ 0 e refl)
line-one S d (label_of j v) (term_of k u) hx hy e = absurd (differ-at _ _ 0 e refl)
line-one S d (label_of j v) (step_of y) hx hy e = absurd (no-step y 108 _ refl refl (sym e))
line-one S d (label_of j v) last_line hx hy e = absurd (differ-at _ _ 0 e refl)
line-one S d (eigen_of x) (label_of k w) hx hy e = absurd (differ-at _ _ 0 e refl)
line-one S d (eigen_of x) (spare_of y) hx hy e = absurd (differ-at _ _ 7 e refl)
line-one S d (eigen_of x) (term_of k u) hx hy e = absurd (differ-at _ _ 0 e refl)
line-one S d (eigen_of x) (step_of y) hx hy e = absurd (no-step y 110 _ refl refl (sym e))
line-one S d (eigen_of x) last_line hx hy e = absurd (differ-at _ _ 0 e refl)
line-one S d (spare_of x) (label_of k w) hx hy e = absurd (differ-at _ _ 0 e refl)
line-one S d (spare_of x) (eigen_of y) hx hy e = absurd (differ-at _ _ 7 e refl)
line-one S d (spare_of x) (term_of k u) hx hy e = absurd (differ-at _ _ 0 e refl)
line-one S d (spare_of x) (step_of y) hx hy e = absurd (no-step y 110 _ refl refl (sym e))
line-one S d (spare_of x) last_line hx hy e = absurd (differ-at _ _ 0 e refl)
line-one S d (term_of j t) (label_of k w) hx hy e = absurd (differ-at _ _ 0 e refl)
line-one S d (term_of j t) (eigen_of y) hx hy e = absurd (differ-at _ _ 0 e refl)
line-one S d (term_of j t) (spare_of y) hx hy e = absurd (differ-at _ _ 0 e refl)
line-one S d (term_of j t) (step_of y) hx hy e = absurd (no-step y 116 _ refl refl (sym e))
line-one S d (term_of j t) last_line hx hy e = absurd (differ-at _ _ 0 e refl)
line-one S d (step_of x) (label_of k w) hx hy e = absurd (no-step x 108 _ refl refl e)
line-one S d (step_of x) (eigen_of y) hx hy e = absurd (no-step x 110 _ refl refl e)
line-one S d (step_of x) (spare_of y) hx hy e = absurd (no-step x 110 _ refl refl e)
line-one S d (step_of x) (term_of k u) hx hy e = absurd (no-step x 116 _ refl refl e)
line-one S d (step_of x) last_line hx hy e = absurd (no-step x 101 _ refl refl e)
line-one S d last_line (label_of k w) hx hy e = absurd (differ-at _ _ 0 e refl)
line-one S d last_line (eigen_of y) hx hy e = absurd (differ-at _ _ 0 e refl)
line-one S d last_line (spare_of y) hx hy e = absurd (differ-at _ _ 0 e refl)
line-one S d last_line (term_of k u) hx hy e = absurd (differ-at _ _ 0 e refl)
line-one S d last_line (step_of y) hx hy e = absurd (no-step y 101 _ refl refl (sym e))
