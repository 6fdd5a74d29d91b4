-- The causes of faults in texts of version 2, by the lines that have been read.
use Rattle.std.proofs.Common.{◌≡◌, ◌≢◌, ℕ, suc, List, [], ◌∷◌, ◌++◌, length, map, drop, Bool, true, false, ◌&&◌, ◌||◌, Option, None, Some, refl, ◌∙◌, ap, append-nil, slice_get, if◌then◌else◌}
use Rattle.std.specs.List.{list_all, list_any}
use Rattle.std.proofs.lemmas.List.Folds.{list_all-append, list_any-append}
use Rattle.plain_laws.proofs.Lists.{map-append}
use Rattle.calculus.specs.declared.fault.TextCause.TheVariants as cause
use Rattle.calculus.specs.Syntax.{Symbol, Term, Problem}
use Rattle.calculus.specs.Derivations.{Label}
use Rattle.calculus.specs.FirstWrong.{is_end_line, whole_lines, cause_after, cause_at}
use Rattle.calculus.specs.Versions.{NumberedDerivation, NumberedStep, numbered_use, numbered_axiom}
use Rattle.calculus.specs.VersionJudgement.{cause_in_body, is_label_line, is_term_line, is_name_line, text_causes}
use Rattle.calculus.specs.declared.version.Version.TheVariants.{Two}
use Rattle.text_lines.proofs.FirstWrong.{cause-behind}
use Rattle.derivation_text.specs.declared.numbered_line.NumberedStage.{NumberedStage}
use Rattle.derivation_text.specs.declared.numbered_line.Part.{Part}
use Rattle.derivation_text.specs.declared.numbered_line.Part.TheVariants.{Labels, Eigens, Spares, Terms, Steps, Ended}
use Rattle.derivation_text.specs.NumberedBody.{NumberedLine, label_of, eigen_of, spare_of, term_of, step_of, last_line, goes_on, numbered_line_text, takes_labels, takes_terms}
use Rattle.derivation_text.specs.NumberedReading.{FitsPart, IsNumberedTo, cause_in_part, front_lines, label_lines, numbered_cause_at_stage, takes_names, term_lines}
use Rattle.derivation_text.proofs.NumberedKind.{numbered_lines_read}

-- which lines may stand before one that begins with this word
abbrev or_name : List ℕ → Bool
or_name b = is_label_line b || is_name_line b

abbrev or_term : List ℕ → Bool
or_term b = is_label_line b || is_name_line b || is_term_line b

-- ---- a test of all lines

abbrev all_are : List Symbol → (List ℕ → Bool) → List NumberedLine → Bool
all_are S test xs = list_all test (map (numbered_line_text S) xs)

all-join : (S : List Symbol) (test : List ℕ → Bool) (xs ys : List NumberedLine) → all_are S test (xs ++ ys) ≡ (all_are S test xs && all_are S test ys)
all-join S test xs ys = ap (list_all test) (map-append (numbered_line_text S) xs ys) ∙ list_all-append test (map (numbered_line_text S) xs) (map (numbered_line_text S) ys)

-- where each item has the line
every : {A : Type 0} (S : List Symbol) (test : List ℕ → Bool) (f : A → NumberedLine) → ((x : A) → test (numbered_line_text S (f x)) ≡ true) → (xs : List A) → all_are S test (map f xs) ≡ true
every S test f g [] = refl
every S test f g (x ∷ xs) = ap (λ b. b && all_are S test (map f xs)) (g x) ∙ every S test f g xs

-- where none has, and there is one
some-not : {A : Type 0} (S : List Symbol) (test : List ℕ → Bool) (f : A → NumberedLine) → ((x : A) → test (numbered_line_text S (f x)) ≡ false) → (xs : List A) → xs ≢ [] → all_are S test (map f xs) ≡ false
some-not S test f g [] h = absurd (h refl)
some-not S test f g (x ∷ xs) h = ap (λ b. b && all_are S test (map f xs)) (g x)

none-of : {A : Type 0} (S : List Symbol) (test : List ℕ → Bool) (f : A → NumberedLine) (xs : List A) → xs ≡ [] → all_are S test (map f xs) ≡ true
none-of S test f xs e = ap (λ l. all_are S test (map f l)) e

labels-all : (S : List Symbol) (test : List ℕ → Bool) → ((k : ℕ) (w : Label) → test (numbered_line_text S (label_of k w)) ≡ true) → (k : ℕ) (ws : List Label) → all_are S test (label_lines k ws) ≡ true
labels-all S test g k [] = refl
labels-all S test g k (w ∷ ws) = ap (λ b. b && all_are S test (label_lines (suc k) ws)) (g k w) ∙ labels-all S test g (suc k) ws

terms-all : (S : List Symbol) (test : List ℕ → Bool) → ((k : ℕ) (t : Term) → test (numbered_line_text S (term_of k t)) ≡ true) → (k : ℕ) (ts : List Term) → all_are S test (term_lines k ts) ≡ true
terms-all S test g k [] = refl
terms-all S test g k (t ∷ ts) = ap (λ b. b && all_are S test (term_lines (suc k) ts)) (g k t) ∙ terms-all S test g (suc k) ts

terms-not : (S : List Symbol) (test : List ℕ → Bool) → ((k : ℕ) (t : Term) → test (numbered_line_text S (term_of k t)) ≡ false) → (k : ℕ) (ts : List Term) → ts ≢ [] → all_are S test (term_lines k ts) ≡ false
terms-not S test g k [] h = absurd (h refl)
terms-not S test g k (t ∷ ts) h = ap (λ b. b && all_are S test (term_lines (suc k) ts)) (g k t)

terms-none : (S : List Symbol) (test : List ℕ → Bool) (ts : List Term) → ts ≡ [] → all_are S test (term_lines 1 ts) ≡ true
terms-none S test ts e = ap (λ l. all_are S test (term_lines 1 l)) e

-- a test of the lines by that of each list
by-lists : (S : List Symbol) (test : List ℕ → Bool) (x : NumberedDerivation) → all_are S test (front_lines x)
    ≡ (all_are S test (label_lines 1 x.labels) && (all_are S test (map eigen_of x.eigens) && (all_are S test (map spare_of x.spares) && (all_are S test (term_lines 1 x.terms) && all_are S test (map step_of x.steps)))))
by-lists S test x =
    let es = map eigen_of x.eigens in
    let ss = map spare_of x.spares in
    let ts = term_lines 1 x.terms in
    let xs = map step_of x.steps in
    all-join S test (label_lines 1 x.labels) (es ++ (ss ++ (ts ++ xs)))
    ∙ ap (λ b. all_are S test (label_lines 1 x.labels) && b) (all-join S test es (ss ++ (ts ++ xs))
    ∙ ap (λ b. all_are S test es && b) (all-join S test ss (ts ++ xs) ∙ ap (λ b. all_are S test ss && b) (all-join S test ts xs)))

step-not : (test : List ℕ → Bool) → ((r : List ℕ) → test (117 ∷ r) ≡ false) → ((r : List ℕ) → test (97 ∷ r) ≡ false) → (S : List Symbol) (x : NumberedStep) → test (numbered_line_text S (step_of x)) ≡ false
step-not test g h S (numbered_use n m t) = g _
step-not test g h S (numbered_axiom n k) = h _

false-third : (a b c : Bool) → (a && (b && (false && c))) ≡ false
false-third true true c = refl
false-third true false c = refl
false-third false b c = refl

false-second : (a c : Bool) → (a && (false && c)) ≡ false
false-second true c = refl
false-second false c = refl

false-fourth : (a b d c : Bool) → (a && (b && (d && (false && c)))) ≡ false
false-fourth true b d c = false-third b d c
false-fourth false b d c = refl

false-last : (a b d c : Bool) → (a && (b && (d && (c && false)))) ≡ false
false-last true true true true = refl
false-last true true true false = refl
false-last true true false c = refl
false-last true false d c = refl
false-last false b d c = refl

abbrev in_labels : List Symbol → (List ℕ → Bool) → NumberedDerivation → Bool
in_labels S test x = all_are S test (label_lines 1 x.labels)

abbrev in_eigens : List Symbol → (List ℕ → Bool) → NumberedDerivation → Bool
in_eigens S test x = all_are S test (map eigen_of x.eigens)

abbrev in_spares : List Symbol → (List ℕ → Bool) → NumberedDerivation → Bool
in_spares S test x = all_are S test (map spare_of x.spares)

abbrev in_terms : List Symbol → (List ℕ → Bool) → NumberedDerivation → Bool
in_terms S test x = all_are S test (term_lines 1 x.terms)

abbrev in_steps : List Symbol → (List ℕ → Bool) → NumberedDerivation → Bool
in_steps S test x = all_are S test (map step_of x.steps)

-- where all lists pass the test, or the lines of one do not
all-five : (S : List Symbol) (test : List ℕ → Bool) (x : NumberedDerivation) → in_labels S test x ≡ true → in_eigens S test x ≡ true → in_spares S test x ≡ true → in_terms S test x ≡ true → in_steps S test x ≡ true → all_are S test (front_lines x) ≡ true
all-five S test x f g h i j = by-lists S test x ∙ (λ k. f k && (g k && (h k && (i k && j k))))

eigens-fail : (S : List Symbol) (test : List ℕ → Bool) (x : NumberedDerivation) → in_eigens S test x ≡ false → all_are S test (front_lines x) ≡ false
eigens-fail S test x e = by-lists S test x ∙ (λ i. in_labels S test x && (e i && (in_spares S test x && (in_terms S test x && in_steps S test x)))) ∙ false-second (in_labels S test x) (in_spares S test x && (in_terms S test x && in_steps S test x))

spares-fail : (S : List Symbol) (test : List ℕ → Bool) (x : NumberedDerivation) → in_spares S test x ≡ false → all_are S test (front_lines x) ≡ false
spares-fail S test x e = by-lists S test x ∙ (λ i. in_labels S test x && (in_eigens S test x && (e i && (in_terms S test x && in_steps S test x)))) ∙ false-third (in_labels S test x) (in_eigens S test x) (in_terms S test x && in_steps S test x)

terms-fail : (S : List Symbol) (test : List ℕ → Bool) (x : NumberedDerivation) → in_terms S test x ≡ false → all_are S test (front_lines x) ≡ false
terms-fail S test x e = by-lists S test x ∙ (λ i. in_labels S test x && (in_eigens S test x && (in_spares S test x && (e i && in_steps S test x)))) ∙ false-fourth (in_labels S test x) (in_eigens S test x) (in_spares S test x) (in_steps S test x)

steps-fail : (S : List Symbol) (test : List ℕ → Bool) (x : NumberedDerivation) → in_steps S test x ≡ false → all_are S test (front_lines x) ≡ false
steps-fail S test x e = by-lists S test x ∙ (λ i. in_labels S test x && (in_eigens S test x && (in_spares S test x && (in_terms S test x && e i)))) ∙ false-last (in_labels S test x) (in_eigens S test x) (in_spares S test x) (in_terms S test x)

label-lines : (S : List Symbol) (p : Part) (x : NumberedDerivation) → FitsPart p x → goes_on p ≡ true → all_are S is_label_line (front_lines x) ≡ takes_labels p
label-lines S Labels x f g = all-five S is_label_line x (labels-all S is_label_line (λ k w. refl) 1 x.labels) (none-of S is_label_line eigen_of x.eigens f.0) (none-of S is_label_line spare_of x.spares f.1) (terms-none S is_label_line x.terms f.2) (none-of S is_label_line step_of x.steps f.3)
label-lines S (Eigens n) x f g = eigens-fail S is_label_line x (some-not S is_label_line eigen_of (λ y. refl) x.eigens f.0)
label-lines S (Spares n) x f g = spares-fail S is_label_line x (some-not S is_label_line spare_of (λ y. refl) x.spares f.0)
label-lines S Terms x f g = terms-fail S is_label_line x (terms-not S is_label_line (λ k t. refl) 1 x.terms f.0)
label-lines S Steps x f g = steps-fail S is_label_line x (some-not S is_label_line step_of (step-not is_label_line (λ r. refl) (λ r. refl) S) x.steps f)
label-lines S Ended x f g = absurd (cc g)

name-lines : (S : List Symbol) (p : Part) (x : NumberedDerivation) → FitsPart p x → goes_on p ≡ true → all_are S or_name (front_lines x) ≡ takes_names p
name-lines S Labels x f g = all-five S or_name x (labels-all S or_name (λ k w. refl) 1 x.labels) (none-of S or_name eigen_of x.eigens f.0) (none-of S or_name spare_of x.spares f.1) (terms-none S or_name x.terms f.2) (none-of S or_name step_of x.steps f.3)
name-lines S (Eigens n) x f g = all-five S or_name x (labels-all S or_name (λ k w. refl) 1 x.labels) (every S or_name eigen_of (λ y. refl) x.eigens) (none-of S or_name spare_of x.spares f.1) (terms-none S or_name x.terms f.2) (none-of S or_name step_of x.steps f.3)
name-lines S (Spares n) x f g = all-five S or_name x (labels-all S or_name (λ k w. refl) 1 x.labels) (every S or_name eigen_of (λ y. refl) x.eigens) (every S or_name spare_of (λ y. refl) x.spares) (terms-none S or_name x.terms f.1) (none-of S or_name step_of x.steps f.2)
name-lines S Terms x f g = terms-fail S or_name x (terms-not S or_name (λ k t. refl) 1 x.terms f.0)
name-lines S Steps x f g = steps-fail S or_name x (some-not S or_name step_of (step-not or_name (λ r. refl) (λ r. refl) S) x.steps f)
name-lines S Ended x f g = absurd (cc g)

term-lines : (S : List Symbol) (p : Part) (x : NumberedDerivation) → FitsPart p x → goes_on p ≡ true → all_are S or_term (front_lines x) ≡ takes_terms p
term-lines S Labels x f g = all-five S or_term x (labels-all S or_term (λ k w. refl) 1 x.labels) (none-of S or_term eigen_of x.eigens f.0) (none-of S or_term spare_of x.spares f.1) (terms-none S or_term x.terms f.2) (none-of S or_term step_of x.steps f.3)
term-lines S (Eigens n) x f g = all-five S or_term x (labels-all S or_term (λ k w. refl) 1 x.labels) (every S or_term eigen_of (λ y. refl) x.eigens) (none-of S or_term spare_of x.spares f.1) (terms-none S or_term x.terms f.2) (none-of S or_term step_of x.steps f.3)
term-lines S (Spares n) x f g = all-five S or_term x (labels-all S or_term (λ k w. refl) 1 x.labels) (every S or_term eigen_of (λ y. refl) x.eigens) (every S or_term spare_of (λ y. refl) x.spares) (terms-none S or_term x.terms f.1) (none-of S or_term step_of x.steps f.2)
term-lines S Terms x f g = all-five S or_term x (labels-all S or_term (λ k w. refl) 1 x.labels) (every S or_term eigen_of (λ y. refl) x.eigens) (every S or_term spare_of (λ y. refl) x.spares) (terms-all S or_term (λ k t. refl) 1 x.terms) (none-of S or_term step_of x.steps f.1)
term-lines S Steps x f g = steps-fail S or_term x (some-not S or_term step_of (step-not or_term (λ r. refl) (λ r. refl) S) x.steps f)
term-lines S Ended x f g = absurd (cc g)

-- ---- whether the last line is among them

abbrev any_ends : List Symbol → List NumberedLine → Bool
any_ends S xs = list_any is_end_line (map (numbered_line_text S) xs)

any-join : (S : List Symbol) (xs ys : List NumberedLine) → any_ends S (xs ++ ys) ≡ (any_ends S xs || any_ends S ys)
any-join S xs ys = ap (list_any is_end_line) (map-append (numbered_line_text S) xs ys) ∙ list_any-append is_end_line (map (numbered_line_text S) xs) (map (numbered_line_text S) ys)

no-ends : {A : Type 0} (S : List Symbol) (f : A → NumberedLine) → ((x : A) → is_end_line (numbered_line_text S (f x)) ≡ false) → (xs : List A) → any_ends S (map f xs) ≡ false
no-ends S f g [] = refl
no-ends S f g (x ∷ xs) = ap (λ b. b || any_ends S (map f xs)) (g x) ∙ no-ends S f g xs

labels-end_not : (S : List Symbol) (k : ℕ) (ws : List Label) → any_ends S (label_lines k ws) ≡ false
labels-end_not S k [] = refl
labels-end_not S k (w ∷ ws) = labels-end_not S (suc k) ws

terms-end_not : (S : List Symbol) (k : ℕ) (ts : List Term) → any_ends S (term_lines k ts) ≡ false
terms-end_not S k [] = refl
terms-end_not S k (t ∷ ts) = terms-end_not S (suc k) ts

front-ends_not : (S : List Symbol) (x : NumberedDerivation) → any_ends S (front_lines x) ≡ false
front-ends_not S x =
    let es = map eigen_of x.eigens in
    let ss = map spare_of x.spares in
    let ts = term_lines 1 x.terms in
    let xs = map step_of x.steps in
    any-join S (label_lines 1 x.labels) (es ++ (ss ++ (ts ++ xs))) ∙ (λ i. labels-end_not S 1 x.labels i || any-join S es (ss ++ (ts ++ xs)) i)
    ∙ (λ i. no-ends S eigen_of (λ y. refl) x.eigens i || any-join S ss (ts ++ xs) i) ∙ (λ i. no-ends S spare_of (λ y. refl) x.spares i || any-join S ts xs i)
    ∙ (λ i. terms-end_not S 1 x.terms i || no-ends S step_of (step-not is_end_line (λ r. refl) (λ r. refl) S) x.steps i)

-- ---- causes

in-body : (S : List Symbol) (p : Part) (x : NumberedDerivation) (next : Option (List ℕ)) → FitsPart p x → goes_on p ≡ true → cause_in_body Two (map (numbered_line_text S) (front_lines x)) next ≡ cause_in_part p next
in-body S p x None f g = refl
in-body S p x (Some l) f g = λ i.
    if is_label_line l && label-lines S p x f g i then cause.Label
    else (if is_name_line l && name-lines S p x f g i then cause.Name
    else (if is_term_line l && term-lines S p x f g i then cause.Term
    else cause.Line))

open-cause : (S : List Symbol) (p : Part) (x : NumberedDerivation) (next : Option (List ℕ)) → FitsPart p x → goes_on p ≡ true
    → (if any_ends S (front_lines x ++ []) then cause.TextAfterEnd else cause_in_body Two (map (numbered_line_text S) (front_lines x ++ [])) next) ≡ cause_in_part p next
open-cause S p x next f g =
    ap (λ ls. if any_ends S ls then cause.TextAfterEnd else cause_in_body Two (map (numbered_line_text S) ls) next) (append-nil (front_lines x))
    ∙ ap (λ b. if b then cause.TextAfterEnd else cause_in_body Two (map (numbered_line_text S) (front_lines x)) next) (front-ends_not S x) ∙ in-body S p x next f g

cause-of_lines : (P : Problem) (p : Part) (x : NumberedDerivation) (next : Option (List ℕ)) → FitsPart p x → cause_after (text_causes Two) (numbered_lines_read P p x) next ≡ numbered_cause_at_stage p next
cause-of_lines P Labels x next f = open-cause P.symbols Labels x next f refl
cause-of_lines P (Eigens n) x next f = open-cause P.symbols (Eigens n) x next f refl
cause-of_lines P (Spares n) x next f = open-cause P.symbols (Spares n) x next f refl
cause-of_lines P Terms x next f = open-cause P.symbols Terms x next f refl
cause-of_lines P Steps x next f = open-cause P.symbols Steps x next f refl
cause-of_lines P Ended x next f =
    let S = P.symbols in
    ap (λ b. if b then cause.TextAfterEnd else cause_in_body Two (map (numbered_line_text S) (front_lines x ++ last_line ∷ [])) next)
    (any-join S (front_lines x) (last_line ∷ []) ∙ ap (λ b. b || true) (front-ends_not S x))

pub cause-at_part : (P : Problem) (bytes : List ℕ) (place : ℕ) (s : NumberedStage) (x : NumberedDerivation) → IsNumberedTo P bytes place s x
    → cause_at (text_causes Two) bytes (length (numbered_lines_read P s.part x)) ≡ numbered_cause_at_stage s.part (slice_get (whole_lines (drop place bytes)) 0)
cause-at_part P bytes place s x r = cause-behind (text_causes Two) bytes (numbered_lines_read P s.part x) (whole_lines (drop place bytes)) r.lines.whole ∙ cause-of_lines P s.part x (slice_get (whole_lines (drop place bytes)) 0) r.fits
