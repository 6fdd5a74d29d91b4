-- Ground values have different texts, also where more bytes follow that cannot go on with one.
use Rattle.std.proofs.Common.{◌≡◌, ℕ, List, [], ◌∷◌, ◌++◌, length, Bool, true, false, ◌||◌, ◌==◌, IsTrue, refl, sym, ◌∙◌, ap, append_assoc, decimal, codes, flat_map, if◌then◌else◌}
use Rattle.std.specs.List.{list_all}
use Rattle.std.proofs.lemmas.Bool.{true≢false, false≢true, and_parts, or_left}
use Rattle.plain_laws.proofs.Places.{differ-at}
use Rattle.calculus.specs.Syntax.{Symbol}
use Rattle.calculus.specs.Problems.{are_distinct}
use Rattle.calculus.specs.Skolem.{has_function}
use Rattle.calculus.specs.Ground.{GroundTerm, GroundTerms, GroundMark, Marks, Value, Values, g_fun, g_eigen, common, own, no_g_terms, more_g_terms, g_new_mark, g_spare_mark, no_marks, more_marks, term, steps, no_values, more_values, g_terms_list}
use Rattle.calculus.specs.Text.{StopsAt, is_digit, is_lower, is_upper, is_word_byte, is_lower_word, is_number, name_text, escaped, symbol_at}
use Rattle.calculus.specs.TableauText.{ground_text, ground_args_text, more_ground_args_text, ground_mark_text, marks_text, more_marks_text, value_text, values_text, more_values_text, ground_is_written, grounds_are_written, ground_mark_is_written, marks_are_written, value_is_written, values_are_written}
use Rattle.calculus.proofs.TextLaws.{cons-head, cons-tail, nil-cons, decimal-split, name-split, name-dollar}
use Rattle.calculus.proofs.TermTextLaws.{small-number, FunctionAt, function-at, name-at, same-symbol}
use Rattle.calculus.proofs.DerivationTextLaws.{cancel}

-- ---- what may not follow a ground term or a mark: a byte of a word, `(` and `@`

abbrev goes_on : ℕ → Bool
goes_on b = is_word_byte b || b == 40 || b == 64

or-left-false : (a b : Bool) → (a || b) ≡ false → a ≡ false
or-left-false true b h = h
or-left-false false b h = refl

or-right-false : (a b : Bool) → (a || b) ≡ false → b ≡ false
or-right-false true b h = absurd (true≢false h)
or-right-false false b h = h

stops-word : (r : List ℕ) → StopsAt goes_on r → StopsAt is_word_byte r
stops-word [] h = tt
stops-word (b ∷ bs) h = or-left-false (is_word_byte b) (b == 40) (or-left-false (is_word_byte b || b == 40) (b == 64) h)

stops-digit : (r : List ℕ) → StopsAt goes_on r → StopsAt is_digit r
stops-digit [] h = tt
stops-digit (b ∷ bs) h = or-right-false (is_lower b || is_upper b) (is_digit b) (or-left-false (is_lower b || is_upper b || is_digit b) (b == 95) (stops-word (b ∷ bs) h))

-- what goes on does not follow
not-next : (b : ℕ) → goes_on b ≡ true → (r s : List ℕ) → StopsAt goes_on r → r ≡ b ∷ s → ⊥
not-next b g [] s h e = nil-cons e
not-next b g (c ∷ r) s h e = true≢false (sym g ∙ ap goes_on (sym (cons-head e)) ∙ h)

-- ---- the first bytes of values

-- the first byte of a name is a lower-case letter or a quote
abbrev begins_name : ℕ → Bool
begins_name b = is_lower b || b == 39

name-begins : (a r s : List ℕ) (b : ℕ) → name_text a ++ r ≡ b ∷ s → begins_name b ≡ true
name-begins a r s b e = by (is_lower_word a) refl
  where
    bare : (a : List ℕ) → IsTrue (is_lower_word a) → a ++ r ≡ b ∷ s → begins_name b ≡ true
    bare [] h f = absurd (false≢true h)
    bare (c ∷ cs) h f = ap begins_name (sym (cons-head f)) ∙ ap (λ x. x || c == 39) (and_parts (is_lower c) (list_all is_word_byte cs) h).0

    by : (x : Bool) → is_lower_word a ≡ x → begins_name b ≡ true
    by true h = bare a h (ap (λ x. (if x then a else 39 ∷ (flat_map escaped a ++ 39 ∷ [])) ++ r) (sym h) ∙ e)
    by false h = ap begins_name (sym (cons-head (ap (λ x. (if x then a else 39 ∷ (flat_map escaped a ++ 39 ∷ [])) ++ r) (sym h) ∙ e)))

abbrev begins_ground : ℕ → Bool
begins_ground b = begins_name b || b == 36

-- a function symbol's text, with its arguments and what follows
fun-on : (S : List Symbol) (f n : ℕ) (x : Symbol) (ts : GroundTerms) (r : List ℕ) → FunctionAt S f n x → ground_text S (g_fun f ts) ++ r ≡ name_text x.name ++ (ground_args_text S ts ++ r)
fun-on S f n x ts r h = append_assoc (symbol_at S f) (ground_args_text S ts) r ∙ ap (λ l. l ++ (ground_args_text S ts ++ r)) (name-at S f n x h)

ground-begins : (S : List Symbol) (t : GroundTerm) (r s : List ℕ) (b : ℕ) → IsTrue (ground_is_written S t) → ground_text S t ++ r ≡ b ∷ s → begins_ground b ≡ true
ground-begins S (g_fun f ts) r s b h e =
    let p = and_parts (has_function S f (length (g_terms_list ts))) (grounds_are_written S ts) h in
    let x = function-at S f (length (g_terms_list ts)) p.0 in
    or_left (begins_name b) (b == 36) (name-begins x.0.name (ground_args_text S ts ++ r) s b (sym (fun-on S f (length (g_terms_list ts)) x.0 ts r x.1) ∙ e))
ground-begins S (g_eigen p vs) r s b h e = ap begins_ground (sym (cons-head e))
ground-begins S (common k) r s b h e = ap begins_ground (sym (cons-head e))
ground-begins S (own k w) r s b h e = ap begins_ground (sym (cons-head e))

value-begins : (S : List Symbol) (v : Value) (r s : List ℕ) (b : ℕ) → IsTrue (value_is_written S v) → value_text S v ++ r ≡ b ∷ s → (begins_ground b || b == 91) ≡ true
value-begins S (term t) r s b h e = or_left (begins_ground b) (b == 91) (ground-begins S t r s b h e)
value-begins S (steps no_marks) r s b h e = ap (λ k. begins_ground k || k == 91) (sym (cons-head e))
value-begins S (steps (more_marks m ms)) r s b h e = ap (λ k. begins_ground k || k == 91) (sym (cons-head e))

-- ---- what follows inside lists

ground-args-stop : (S : List Symbol) (ts : GroundTerms) (r : List ℕ) → StopsAt goes_on r → StopsAt is_word_byte (ground_args_text S ts ++ r)
ground-args-stop S no_g_terms r h = stops-word r h
ground-args-stop S (more_g_terms t ts) r h = refl

more-args-stop : (S : List Symbol) (ts : GroundTerms) (r : List ℕ) → StopsAt goes_on (more_ground_args_text S ts ++ r)
more-args-stop S no_g_terms r = refl
more-args-stop S (more_g_terms t ts) r = refl

more-marks-stop : (S : List Symbol) (ms : Marks) (r : List ℕ) → StopsAt goes_on (more_marks_text S ms ++ r)
more-marks-stop S no_marks r = refl
more-marks-stop S (more_marks m ms) r = refl

more-values-stop : (S : List Symbol) (vs : Values) (r : List ℕ) → StopsAt goes_on (more_values_text S vs ++ r)
more-values-stop S no_values r = refl
more-values-stop S (more_values v vs) r = refl

values-stop : (S : List Symbol) (vs : Values) (r : List ℕ) → StopsAt is_digit (values_text S vs ++ r)
values-stop S no_values r = refl
values-stop S (more_values v vs) r = refl

-- a number, then a list of values
named-on : (S : List Symbol) (head : List ℕ) (p : ℕ) (vs : Values) (r : List ℕ) → ((head ++ decimal p) ++ values_text S vs) ++ r ≡ head ++ (decimal p ++ (values_text S vs ++ r))
named-on S head p vs r = append_assoc (head ++ decimal p) (values_text S vs) r ∙ append_assoc head (decimal p) (values_text S vs ++ r)

own-on : (S : List Symbol) (k : ℕ) (w : Marks) (r : List ℕ) → ground_text S (own k w) ++ r ≡ codes "$$s" ++ (decimal k ++ (64 ∷ (marks_text S w ++ r)))
own-on S k w r = append_assoc (codes "$$s" ++ decimal k ++ codes "@") (marks_text S w) r ∙ append_assoc (codes "$$s" ++ decimal k) (codes "@") (marks_text S w ++ r) ∙ append_assoc (codes "$$s") (decimal k) (64 ∷ (marks_text S w ++ r))

-- ---- the splits

fun-no_dollar : (S : List Symbol) (f : ℕ) (ts : GroundTerms) (r s : List ℕ) → IsTrue (ground_is_written S (g_fun f ts)) → ground_text S (g_fun f ts) ++ r ≡ 36 ∷ s → ⊥
fun-no_dollar S f ts r s h e =
    let n = length (g_terms_list ts) in
    let p = and_parts (has_function S f n) (grounds_are_written S ts) h in
    let x = function-at S f n p.0 in
    name-dollar x.0.name (ground_args_text S ts ++ r) s (sym (fun-on S f n x.0 ts r x.1) ∙ e)

mark-dollar : (S : List Symbol) (m : GroundMark) (r s : List ℕ) → 93 ∷ r ≡ ground_mark_text S m ++ s → ⊥
mark-dollar S (g_new_mark p vs) r s e = differ-at _ _ 0 e refl
mark-dollar S (g_spare_mark k) r s e = differ-at _ _ 0 e refl

mutual
  ground-split : (S : List Symbol) → IsTrue (are_distinct S) → (t u : GroundTerm) (r s : List ℕ) → IsTrue (ground_is_written S t) → IsTrue (ground_is_written S u) → StopsAt goes_on r → StopsAt goes_on s → ground_text S t ++ r ≡ ground_text S u ++ s → (t ≡ u) × (r ≡ s)
  ground-split S d (g_fun f ts) (g_fun g us) r s ht hu hr hs e =
      let m = length (g_terms_list ts) in
      let n = length (g_terms_list us) in
      let pt = and_parts (has_function S f m) (grounds_are_written S ts) ht in
      let pu = and_parts (has_function S g n) (grounds_are_written S us) hu in
      let x = function-at S f m pt.0 in
      let y = function-at S g n pu.0 in
      let names = name-split x.0.name y.0.name (ground_args_text S ts ++ r) (ground_args_text S us ++ s) (ground-args-stop S ts r hr) (ground-args-stop S us s hs) (sym (fun-on S f m x.0 ts r x.1) ∙ e ∙ fun-on S g n y.0 us s y.1) in
      let args = ground-args-split S d ts us r s pt.1 pu.1 hr hs names.1 in
      let place = same-symbol S f g m n x.0 y.0 d x.1 y.1 names.0 (ap (λ z. length (g_terms_list z)) args.0) in
      ((λ i. g_fun (place i) (args.0 i)), args.1)
  ground-split S d (g_fun f ts) (g_eigen p vs) r s ht hu hr hs e = absurd (fun-no_dollar S f ts r _ ht e)
  ground-split S d (g_fun f ts) (common k) r s ht hu hr hs e = absurd (fun-no_dollar S f ts r _ ht e)
  ground-split S d (g_fun f ts) (own k w) r s ht hu hr hs e = absurd (fun-no_dollar S f ts r _ ht e)
  ground-split S d (g_eigen p vs) (g_fun g us) r s ht hu hr hs e = absurd (fun-no_dollar S g us s _ hu (sym e))
  ground-split S d (g_eigen p vs) (g_eigen q us) r s ht hu hr hs e =
      let pt = and_parts (is_number p) (values_are_written S vs) ht in
      let pu = and_parts (is_number q) (values_are_written S us) hu in
      let f = cancel (codes "$$e") _ _ (sym (named-on S (codes "$$e") p vs r) ∙ e ∙ named-on S (codes "$$e") q us s) in
      let first = decimal-split p q (values_text S vs ++ r) (values_text S us ++ s) (small-number p pt.0) (small-number q pu.0) (values-stop S vs r) (values-stop S us s) f in
      let rest = values-split S d vs us r s pt.1 pu.1 first.1 in
      ((λ i. g_eigen (first.0 i) (rest.0 i)), rest.1)
  ground-split S d (g_eigen p vs) (common k) r s ht hu hr hs e = absurd (differ-at _ _ 2 e refl)
  ground-split S d (g_eigen p vs) (own k w) r s ht hu hr hs e = absurd (differ-at _ _ 2 e refl)
  ground-split S d (common k) (g_fun g us) r s ht hu hr hs e = absurd (fun-no_dollar S g us s _ hu (sym e))
  ground-split S d (common k) (g_eigen q us) r s ht hu hr hs e = absurd (differ-at _ _ 2 e refl)
  ground-split S d (common k) (common j) r s ht hu hr hs e =
      let first = decimal-split k j r s (small-number k ht) (small-number j hu) (stops-digit r hr) (stops-digit s hs) (cancel (codes "$$s") _ _ e) in
      (ap common first.0, first.1)
  ground-split S d (common k) (own j w) r s ht hu hr hs e =
      let pu = and_parts (is_number j) (marks_are_written S w) hu in
      let f = cancel (codes "$$s") _ _ (e ∙ own-on S j w s) in
      let first = decimal-split k j r (64 ∷ (marks_text S w ++ s)) (small-number k ht) (small-number j pu.0) (stops-digit r hr) refl f in
      absurd (not-next 64 refl r (marks_text S w ++ s) hr first.1)
  ground-split S d (own k v) (g_fun g us) r s ht hu hr hs e = absurd (fun-no_dollar S g us s _ hu (sym e))
  ground-split S d (own k v) (g_eigen q us) r s ht hu hr hs e = absurd (differ-at _ _ 2 e refl)
  ground-split S d (own k v) (common j) r s ht hu hr hs e =
      let pt = and_parts (is_number k) (marks_are_written S v) ht in
      let f = cancel (codes "$$s") _ _ (sym e ∙ own-on S k v r) in
      let first = decimal-split j k s (64 ∷ (marks_text S v ++ r)) (small-number j hu) (small-number k pt.0) (stops-digit s hs) refl f in
      absurd (not-next 64 refl s (marks_text S v ++ r) hs first.1)
  ground-split S d (own k v) (own j w) r s ht hu hr hs e =
      let pt = and_parts (is_number k) (marks_are_written S v) ht in
      let pu = and_parts (is_number j) (marks_are_written S w) hu in
      let f = cancel (codes "$$s") _ _ (sym (own-on S k v r) ∙ e ∙ own-on S j w s) in
      let first = decimal-split k j (64 ∷ (marks_text S v ++ r)) (64 ∷ (marks_text S w ++ s)) (small-number k pt.0) (small-number j pu.0) refl refl f in
      let rest = marks-split S d v w r s pt.1 pu.1 (cons-tail first.1) in
      ((λ i. own (first.0 i) (rest.0 i)), rest.1)

  ground-args-split : (S : List Symbol) → IsTrue (are_distinct S) → (ts us : GroundTerms) (r s : List ℕ) → IsTrue (grounds_are_written S ts) → IsTrue (grounds_are_written S us) → StopsAt goes_on r → StopsAt goes_on s → ground_args_text S ts ++ r ≡ ground_args_text S us ++ s → (ts ≡ us) × (r ≡ s)
  ground-args-split S d no_g_terms no_g_terms r s ht hu hr hs e = (refl, e)
  ground-args-split S d no_g_terms (more_g_terms u us) r s ht hu hr hs e = absurd (not-next 40 refl r _ hr e)
  ground-args-split S d (more_g_terms t ts) no_g_terms r s ht hu hr hs e = absurd (not-next 40 refl s _ hs (sym e))
  ground-args-split S d (more_g_terms t ts) (more_g_terms u us) r s ht hu hr hs e =
      let pt = and_parts (ground_is_written S t) (grounds_are_written S ts) ht in
      let pu = and_parts (ground_is_written S u) (grounds_are_written S us) hu in
      let f = sym (append_assoc (ground_text S t) (more_ground_args_text S ts) r) ∙ cons-tail e ∙ append_assoc (ground_text S u) (more_ground_args_text S us) s in
      let first = ground-split S d t u (more_ground_args_text S ts ++ r) (more_ground_args_text S us ++ s) pt.0 pu.0 (more-args-stop S ts r) (more-args-stop S us s) f in
      let rest = more-args-split S d ts us r s pt.1 pu.1 first.1 in
      ((λ i. more_g_terms (first.0 i) (rest.0 i)), rest.1)

  more-args-split : (S : List Symbol) → IsTrue (are_distinct S) → (ts us : GroundTerms) (r s : List ℕ) → IsTrue (grounds_are_written S ts) → IsTrue (grounds_are_written S us) → more_ground_args_text S ts ++ r ≡ more_ground_args_text S us ++ s → (ts ≡ us) × (r ≡ s)
  more-args-split S d no_g_terms no_g_terms r s ht hu e = (refl, cons-tail e)
  more-args-split S d no_g_terms (more_g_terms u us) r s ht hu e = absurd (differ-at _ _ 0 e refl)
  more-args-split S d (more_g_terms t ts) no_g_terms r s ht hu e = absurd (differ-at _ _ 0 e refl)
  more-args-split S d (more_g_terms t ts) (more_g_terms u us) r s ht hu e =
      let pt = and_parts (ground_is_written S t) (grounds_are_written S ts) ht in
      let pu = and_parts (ground_is_written S u) (grounds_are_written S us) hu in
      let f = sym (append_assoc (ground_text S t) (more_ground_args_text S ts) r) ∙ cons-tail e ∙ append_assoc (ground_text S u) (more_ground_args_text S us) s in
      let first = ground-split S d t u (more_ground_args_text S ts ++ r) (more_ground_args_text S us ++ s) pt.0 pu.0 (more-args-stop S ts r) (more-args-stop S us s) f in
      let rest = more-args-split S d ts us r s pt.1 pu.1 first.1 in
      ((λ i. more_g_terms (first.0 i) (rest.0 i)), rest.1)

  ground-mark-split : (S : List Symbol) → IsTrue (are_distinct S) → (m n : GroundMark) (r s : List ℕ) → IsTrue (ground_mark_is_written S m) → IsTrue (ground_mark_is_written S n) → StopsAt goes_on r → StopsAt goes_on s → ground_mark_text S m ++ r ≡ ground_mark_text S n ++ s → (m ≡ n) × (r ≡ s)
  ground-mark-split S d (g_new_mark p vs) (g_new_mark q us) r s ht hu hr hs e =
      let pt = and_parts (is_number p) (values_are_written S vs) ht in
      let pu = and_parts (is_number q) (values_are_written S us) hu in
      let f = cancel (codes "$$c") _ _ (sym (named-on S (codes "$$c") p vs r) ∙ e ∙ named-on S (codes "$$c") q us s) in
      let first = decimal-split p q (values_text S vs ++ r) (values_text S us ++ s) (small-number p pt.0) (small-number q pu.0) (values-stop S vs r) (values-stop S us s) f in
      let rest = values-split S d vs us r s pt.1 pu.1 first.1 in
      ((λ i. g_new_mark (first.0 i) (rest.0 i)), rest.1)
  ground-mark-split S d (g_new_mark p vs) (g_spare_mark k) r s ht hu hr hs e = absurd (differ-at _ _ 2 e refl)
  ground-mark-split S d (g_spare_mark k) (g_new_mark q us) r s ht hu hr hs e = absurd (differ-at _ _ 2 e refl)
  ground-mark-split S d (g_spare_mark k) (g_spare_mark j) r s ht hu hr hs e =
      let first = decimal-split k j r s (small-number k ht) (small-number j hu) (stops-digit r hr) (stops-digit s hs) (cancel (codes "$$d") _ _ e) in
      (ap g_spare_mark first.0, first.1)

  marks-split : (S : List Symbol) → IsTrue (are_distinct S) → (v w : Marks) (r s : List ℕ) → IsTrue (marks_are_written S v) → IsTrue (marks_are_written S w) → marks_text S v ++ r ≡ marks_text S w ++ s → (v ≡ w) × (r ≡ s)
  marks-split S d no_marks no_marks r s hv hw e = (refl, cons-tail (cons-tail e))
  marks-split S d no_marks (more_marks n w) r s hv hw e = absurd (mark-dollar S n r _ (cons-tail e ∙ append_assoc (ground_mark_text S n) (more_marks_text S w) s))
  marks-split S d (more_marks m v) no_marks r s hv hw e = absurd (mark-dollar S m s _ (cons-tail (sym e) ∙ append_assoc (ground_mark_text S m) (more_marks_text S v) r))
  marks-split S d (more_marks m v) (more_marks n w) r s hv hw e =
      let pv = and_parts (ground_mark_is_written S m) (marks_are_written S v) hv in
      let pw = and_parts (ground_mark_is_written S n) (marks_are_written S w) hw in
      let f = sym (append_assoc (ground_mark_text S m) (more_marks_text S v) r) ∙ cons-tail e ∙ append_assoc (ground_mark_text S n) (more_marks_text S w) s in
      let first = ground-mark-split S d m n (more_marks_text S v ++ r) (more_marks_text S w ++ s) pv.0 pw.0 (more-marks-stop S v r) (more-marks-stop S w s) f in
      let rest = more-marks-split S d v w r s pv.1 pw.1 first.1 in
      ((λ i. more_marks (first.0 i) (rest.0 i)), rest.1)

  more-marks-split : (S : List Symbol) → IsTrue (are_distinct S) → (v w : Marks) (r s : List ℕ) → IsTrue (marks_are_written S v) → IsTrue (marks_are_written S w) → more_marks_text S v ++ r ≡ more_marks_text S w ++ s → (v ≡ w) × (r ≡ s)
  more-marks-split S d no_marks no_marks r s hv hw e = (refl, cons-tail e)
  more-marks-split S d no_marks (more_marks n w) r s hv hw e = absurd (differ-at _ _ 0 e refl)
  more-marks-split S d (more_marks m v) no_marks r s hv hw e = absurd (differ-at _ _ 0 e refl)
  more-marks-split S d (more_marks m v) (more_marks n w) r s hv hw e =
      let pv = and_parts (ground_mark_is_written S m) (marks_are_written S v) hv in
      let pw = and_parts (ground_mark_is_written S n) (marks_are_written S w) hw in
      let f = sym (append_assoc (ground_mark_text S m) (more_marks_text S v) r) ∙ cons-tail e ∙ append_assoc (ground_mark_text S n) (more_marks_text S w) s in
      let first = ground-mark-split S d m n (more_marks_text S v ++ r) (more_marks_text S w ++ s) pv.0 pw.0 (more-marks-stop S v r) (more-marks-stop S w s) f in
      let rest = more-marks-split S d v w r s pv.1 pw.1 first.1 in
      ((λ i. more_marks (first.0 i) (rest.0 i)), rest.1)

  value-split : (S : List Symbol) → IsTrue (are_distinct S) → (x y : Value) (r s : List ℕ) → IsTrue (value_is_written S x) → IsTrue (value_is_written S y) → StopsAt goes_on r → StopsAt goes_on s → value_text S x ++ r ≡ value_text S y ++ s → (x ≡ y) × (r ≡ s)
  value-split S d (term t) (term u) r s hx hy hr hs e = let p = ground-split S d t u r s hx hy hr hs e in (ap term p.0, p.1)
  value-split S d (term t) (steps no_marks) r s hx hy hr hs e = absurd (false≢true (ground-begins S t r _ 91 hx e))
  value-split S d (term t) (steps (more_marks n w)) r s hx hy hr hs e = absurd (false≢true (ground-begins S t r _ 91 hx e))
  value-split S d (steps no_marks) (term u) r s hx hy hr hs e = absurd (false≢true (ground-begins S u s _ 91 hy (sym e)))
  value-split S d (steps (more_marks m v)) (term u) r s hx hy hr hs e = absurd (false≢true (ground-begins S u s _ 91 hy (sym e)))
  value-split S d (steps v) (steps w) r s hx hy hr hs e = let p = marks-split S d v w r s hx hy e in (ap steps p.0, p.1)

  pub values-split : (S : List Symbol) → IsTrue (are_distinct S) → (xs ys : Values) (r s : List ℕ) → IsTrue (values_are_written S xs) → IsTrue (values_are_written S ys) → values_text S xs ++ r ≡ values_text S ys ++ s → (xs ≡ ys) × (r ≡ s)
  values-split S d no_values no_values r s hx hy e = (refl, cons-tail (cons-tail e))
  values-split S d no_values (more_values y ys) r s hx hy e =
      let py = and_parts (value_is_written S y) (values_are_written S ys) hy in
      absurd (false≢true (value-begins S y (more_values_text S ys ++ s) r 125 py.0 (sym (append_assoc (value_text S y) (more_values_text S ys) s) ∙ sym (cons-tail e))))
  values-split S d (more_values x xs) no_values r s hx hy e =
      let px = and_parts (value_is_written S x) (values_are_written S xs) hx in
      absurd (false≢true (value-begins S x (more_values_text S xs ++ r) s 125 px.0 (sym (append_assoc (value_text S x) (more_values_text S xs) r) ∙ cons-tail e)))
  values-split S d (more_values x xs) (more_values y ys) r s hx hy e =
      let px = and_parts (value_is_written S x) (values_are_written S xs) hx in
      let py = and_parts (value_is_written S y) (values_are_written S ys) hy in
      let f = sym (append_assoc (value_text S x) (more_values_text S xs) r) ∙ cons-tail e ∙ append_assoc (value_text S y) (more_values_text S ys) s in
      let first = value-split S d x y (more_values_text S xs ++ r) (more_values_text S ys ++ s) px.0 py.0 (more-values-stop S xs r) (more-values-stop S ys s) f in
      let rest = more-values-split S d xs ys r s px.1 py.1 first.1 in
      ((λ i. more_values (first.0 i) (rest.0 i)), rest.1)

  more-values-split : (S : List Symbol) → IsTrue (are_distinct S) → (xs ys : Values) (r s : List ℕ) → IsTrue (values_are_written S xs) → IsTrue (values_are_written S ys) → more_values_text S xs ++ r ≡ more_values_text S ys ++ s → (xs ≡ ys) × (r ≡ s)
  more-values-split S d no_values no_values r s hx hy e = (refl, cons-tail e)
  more-values-split S d no_values (more_values y ys) r s hx hy e = absurd (differ-at _ _ 0 e refl)
  more-values-split S d (more_values x xs) no_values r s hx hy e = absurd (differ-at _ _ 0 e refl)
  more-values-split S d (more_values x xs) (more_values y ys) r s hx hy e =
      let px = and_parts (value_is_written S x) (values_are_written S xs) hx in
      let py = and_parts (value_is_written S y) (values_are_written S ys) hy in
      let f = sym (append_assoc (value_text S x) (more_values_text S xs) r) ∙ cons-tail e ∙ append_assoc (value_text S y) (more_values_text S ys) s in
      let first = value-split S d x y (more_values_text S xs ++ r) (more_values_text S ys ++ s) px.0 py.0 (more-values-stop S xs r) (more-values-stop S ys s) f in
      let rest = more-values-split S d xs ys r s px.1 py.1 first.1 in
      ((λ i. more_values (first.0 i) (rest.0 i)), rest.1)
