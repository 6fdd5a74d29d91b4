-- A text belongs to at most one derivation.
use Rattle.std.proofs.Common.{◌≡◌, ℕ, ◌^◌, List, [], ◌∷◌, ◌++◌, map, Bool, ◌&&◌, IsTrue, refl, sym, ◌∙◌, ap, append_assoc, decimal, codes, flat_map, nat_le, lt_of_le_of_lt, lit<, lt-ltb, leb-true}
use Rattle.std.specs.List.{list_all}
use Rattle.std.proofs.lemmas.Bool.{and_parts}
use Rattle.plain_laws.proofs.Places.{differ-at}
use Rattle.calculus.specs.declared.version.Version.TheVariants.{One}
use Rattle.calculus.specs.Syntax.{Symbol, Problem}
use Rattle.calculus.specs.Derivations.{Label, Home, anywhere, home_at, EigenName, SpareName, ModalArg, no_modal, to, by_new, TermArg, no_term, by_term, by_name, Step, apply_to, close, Derivation}
use Rattle.calculus.specs.Text.{Ends, is_number, label_text, formula_text}
use Rattle.calculus.specs.DerivationText.{setting_text, eigen_text, home_text, eigen_line, spare_line, modal_text, term_arg_text, step_line, head_lines, label_is_written, home_is_written, modal_is_written, term_arg_is_written, step_is_written, rises_from, names_are_written, is_limit, is_printable}
use Rattle.calculus.specs.Problems.{are_distinct}
use Rattle.calculus.specs.FirstWrong.{line_bytes}
use Rattle.calculus.specs.Versions.{text_in, IsTextIn}
use Rattle.calculus.proofs.TextLaws.{cons-tail, decimal-split}
use Rattle.calculus.proofs.TermTextLaws.{ends-digit, small-number, number-split, term-split, label-split}

-- numbers of entries
pub entry-split : (m n : ℕ) (r s : List ℕ) → IsTrue (is_number m) → IsTrue (is_number n) → Ends r → Ends s → decimal m ++ r ≡ decimal n ++ s → (m ≡ n) × (r ≡ s)
entry-split m n r s hm hn hr hs e = decimal-split m n r s (small-number m hm) (small-number n hn) (ends-digit r hr) (ends-digit s hs) e

-- ---- steps

term_arg-split : (S : List Symbol) → IsTrue (are_distinct S) → (t u : TermArg) (r s : List ℕ) → IsTrue (term_arg_is_written S t) → IsTrue (term_arg_is_written S u) → term_arg_text S t ++ 10 ∷ r ≡ term_arg_text S u ++ 10 ∷ s → (t ≡ u) × (r ≡ s)
term_arg-split S d no_term no_term r s ht hu e = (refl, cons-tail e)
term_arg-split S d no_term (by_term u) r s ht hu e = absurd (differ-at _ _ 0 e refl)
term_arg-split S d no_term (by_name m) r s ht hu e = absurd (differ-at _ _ 0 e refl)
term_arg-split S d (by_term t) no_term r s ht hu e = absurd (differ-at _ _ 0 e refl)
term_arg-split S d (by_term t) (by_term u) r s ht hu e =
    let k = term-split S d t u (10 ∷ r) (10 ∷ s) ht hu refl refl (cons-tail (cons-tail (cons-tail (cons-tail (cons-tail (cons-tail e)))))) in (ap by_term k.0, cons-tail k.1)
term_arg-split S d (by_term t) (by_name m) r s ht hu e = absurd (differ-at _ _ 1 e refl)
term_arg-split S d (by_name n) no_term r s ht hu e = absurd (differ-at _ _ 0 e refl)
term_arg-split S d (by_name n) (by_term u) r s ht hu e = absurd (differ-at _ _ 1 e refl)
term_arg-split S d (by_name n) (by_name m) r s ht hu e =
    let k = number-split n m (10 ∷ r) (10 ∷ s) ht hu refl refl (cons-tail (cons-tail (cons-tail (cons-tail (cons-tail (cons-tail (cons-tail (cons-tail (cons-tail e))))))))) in (ap by_name k.0, cons-tail k.1)

-- a term's argument is no modal one
arg-no_to : (S : List Symbol) (t : TermArg) (w : Label) (r s : List ℕ) → term_arg_text S t ++ 10 ∷ r ≡ modal_text (to w) ++ s → ⊥
arg-no_to S no_term w r s e = differ-at _ _ 0 e refl
arg-no_to S (by_term t) w r s e = differ-at _ _ 2 e refl
arg-no_to S (by_name n) w r s e = differ-at _ _ 1 e refl

arg-no_make : (S : List Symbol) (t : TermArg) (n : ℕ) (r s : List ℕ) → term_arg_text S t ++ 10 ∷ r ≡ modal_text (by_new n) ++ s → ⊥
arg-no_make S no_term n r s e = differ-at _ _ 0 e refl
arg-no_make S (by_term t) n r s e = differ-at _ _ 1 e refl
arg-no_make S (by_name m) n r s e = differ-at _ _ 2 e refl

arg-ends : (S : List Symbol) (t : TermArg) (r : List ℕ) → Ends (term_arg_text S t ++ 10 ∷ r)
arg-ends S no_term r = refl
arg-ends S (by_term t) r = refl
arg-ends S (by_name n) r = refl

args-ends : (S : List Symbol) (m : ModalArg) (t : TermArg) (r : List ℕ) → Ends (modal_text m ++ (term_arg_text S t ++ 10 ∷ r))
args-ends S no_modal t r = arg-ends S t r
args-ends S (to w) t r = refl
args-ends S (by_new n) t r = refl

args-split : (S : List Symbol) → IsTrue (are_distinct S) → (m n : ModalArg) (t u : TermArg) (r s : List ℕ) → IsTrue (modal_is_written m) → IsTrue (modal_is_written n) → IsTrue (term_arg_is_written S t) → IsTrue (term_arg_is_written S u) → modal_text m ++ (term_arg_text S t ++ 10 ∷ r) ≡ modal_text n ++ (term_arg_text S u ++ 10 ∷ s) → (m ≡ n) × (t ≡ u) × (r ≡ s)
args-split S d no_modal no_modal t u r s hm hn ht hu e = let k = term_arg-split S d t u r s ht hu e in (refl, k.0, k.1)
args-split S d no_modal (to v) t u r s hm hn ht hu e = absurd (arg-no_to S t v r _ e)
args-split S d no_modal (by_new n) t u r s hm hn ht hu e = absurd (arg-no_make S t n r _ e)
args-split S d (to w) no_modal t u r s hm hn ht hu e = absurd (arg-no_to S u w s _ (sym e))
args-split S d (to w) (to v) t u r s hm hn ht hu e =
    let f = cons-tail (cons-tail (cons-tail (cons-tail e))) in
    let k = label-split w v (term_arg_text S t ++ 10 ∷ r) (term_arg_text S u ++ 10 ∷ s) hm hn f in
    let j = term_arg-split S d t u r s ht hu k.1 in
    (ap to k.0, j.0, j.1)
args-split S d (to w) (by_new n) t u r s hm hn ht hu e = absurd (differ-at _ _ 1 e refl)
args-split S d (by_new m) no_modal t u r s hm hn ht hu e = absurd (arg-no_make S u m s _ (sym e))
args-split S d (by_new m) (to v) t u r s hm hn ht hu e = absurd (differ-at _ _ 1 e refl)
args-split S d (by_new m) (by_new n) t u r s hm hn ht hu e =
    let f = cons-tail (cons-tail (cons-tail (cons-tail (cons-tail (cons-tail (cons-tail (cons-tail e))))))) in
    let k = number-split m n (term_arg_text S t ++ 10 ∷ r) (term_arg_text S u ++ 10 ∷ s) hm hn (arg-ends S t r) (arg-ends S u s) f in
    let j = term_arg-split S d t u r s ht hu k.1 in
    (ap by_new k.0, j.0, j.1)

-- a use line with what follows
use-on : (S : List Symbol) (n : ℕ) (m : ModalArg) (t : TermArg) (r : List ℕ) → step_line S (apply_to n m t) ++ r ≡ codes "use " ++ (decimal n ++ (modal_text m ++ (term_arg_text S t ++ r)))
use-on S n m t r = append_assoc (codes "use " ++ decimal n ++ modal_text m) (term_arg_text S t) r ∙ append_assoc (codes "use " ++ decimal n) (modal_text m) (term_arg_text S t ++ r) ∙ append_assoc (codes "use ") (decimal n) (modal_text m ++ (term_arg_text S t ++ r))

close-on : (S : List Symbol) (n k : ℕ) (r : List ℕ) → step_line S (close n k) ++ r ≡ codes "axiom " ++ (decimal n ++ (32 ∷ (decimal k ++ r)))
close-on S n k r = append_assoc (codes "axiom " ++ decimal n ++ codes " ") (decimal k) r ∙ append_assoc (codes "axiom " ++ decimal n) (codes " ") (decimal k ++ r) ∙ append_assoc (codes "axiom ") (decimal n) (32 ∷ (decimal k ++ r))

pub step-split : (S : List Symbol) → IsTrue (are_distinct S) → (x y : Step) (r s : List ℕ) → IsTrue (step_is_written S x) → IsTrue (step_is_written S y) → step_line S x ++ 10 ∷ r ≡ step_line S y ++ 10 ∷ s → (x ≡ y) × (r ≡ s)
step-split S d (apply_to n m t) (apply_to k j u) r s hx hy e =
    let f = cons-tail (cons-tail (cons-tail (cons-tail (sym (use-on S n m t (10 ∷ r)) ∙ e ∙ use-on S k j u (10 ∷ s))))) in
    let px = and_parts (is_number n && modal_is_written m) (term_arg_is_written S t) hx in
    let py = and_parts (is_number k && modal_is_written j) (term_arg_is_written S u) hy in
    let qx = and_parts (is_number n) (modal_is_written m) px.0 in
    let qy = and_parts (is_number k) (modal_is_written j) py.0 in
    let first = entry-split n k (modal_text m ++ (term_arg_text S t ++ 10 ∷ r)) (modal_text j ++ (term_arg_text S u ++ 10 ∷ s)) qx.0 qy.0 (args-ends S m t r) (args-ends S j u s) f in
    let rest = args-split S d m j t u r s qx.1 qy.1 px.1 py.1 first.1 in
    ((λ i. apply_to (first.0 i) (rest.0 i) (rest.1 i)), rest.2)
step-split S d (apply_to n m t) (close k j) r s hx hy e = absurd (differ-at _ _ 0 e refl)
step-split S d (close n k) (apply_to j m t) r s hx hy e = absurd (differ-at _ _ 0 e refl)
step-split S d (close n k) (close i j) r s hx hy e =
    let f = cons-tail (cons-tail (cons-tail (cons-tail (cons-tail (cons-tail (sym (close-on S n k (10 ∷ r)) ∙ e ∙ close-on S i j (10 ∷ s))))))) in
    let px = and_parts (is_number n) (is_number k) hx in
    let py = and_parts (is_number i) (is_number j) hy in
    let first = entry-split n i (32 ∷ (decimal k ++ 10 ∷ r)) (32 ∷ (decimal j ++ 10 ∷ s)) px.0 py.0 refl refl f in
    let second = entry-split k j (10 ∷ r) (10 ∷ s) px.1 py.1 refl refl (cons-tail first.1) in
    ((λ z. close (first.0 z) (second.0 z)), cons-tail second.1)

-- ---- names

eigen-on : (x : EigenName) (r : List ℕ) → eigen_line x ++ r ≡ codes "name $$e" ++ (decimal x.number ++ (32 ∷ (label_text x.home ++ r)))
eigen-on x r = append_assoc (codes "name " ++ eigen_text x.number ++ codes " ") (label_text x.home) r ∙ append_assoc (codes "name " ++ eigen_text x.number) (codes " ") (label_text x.home ++ r)

pub eigen-split : (x y : EigenName) (r s : List ℕ) → IsTrue (is_number x.number && label_is_written x.home) → IsTrue (is_number y.number && label_is_written y.home) → eigen_line x ++ 10 ∷ r ≡ eigen_line y ++ 10 ∷ s → (x ≡ y) × (r ≡ s)
eigen-split x y r s hx hy e =
    let f = cons-tail (cons-tail (cons-tail (cons-tail (cons-tail (cons-tail (cons-tail (cons-tail (sym (eigen-on x (10 ∷ r)) ∙ e ∙ eigen-on y (10 ∷ s))))))))) in
    let px = and_parts (is_number x.number) (label_is_written x.home) hx in
    let py = and_parts (is_number y.number) (label_is_written y.home) hy in
    let first = entry-split x.number y.number (32 ∷ (label_text x.home ++ 10 ∷ r)) (32 ∷ (label_text y.home ++ 10 ∷ s)) px.0 py.0 refl refl f in
    let second = label-split x.home y.home (10 ∷ r) (10 ∷ s) px.1 py.1 (cons-tail first.1) in
    ((λ i. record { number = first.0 i; home = second.0 i }), cons-tail second.1)

home-split : (h k : Home) (r s : List ℕ) → IsTrue (home_is_written h) → IsTrue (home_is_written k) → home_text h ++ 10 ∷ r ≡ home_text k ++ 10 ∷ s → (h ≡ k) × (r ≡ s)
home-split anywhere anywhere r s hh hk e = (refl, cons-tail (cons-tail (cons-tail (cons-tail e))))
home-split anywhere (home_at v) r s hh hk e = absurd (differ-at _ _ 0 e refl)
home-split (home_at w) anywhere r s hh hk e = absurd (differ-at _ _ 0 e refl)
home-split (home_at w) (home_at v) r s hh hk e = let k = label-split w v (10 ∷ r) (10 ∷ s) hh hk e in (ap home_at k.0, cons-tail k.1)

spare-on : (x : SpareName) (r : List ℕ) → spare_line x ++ r ≡ codes "name $$s" ++ (decimal x.number ++ (32 ∷ (home_text x.home ++ r)))
spare-on x r = append_assoc (codes "name $$s" ++ decimal x.number ++ codes " ") (home_text x.home) r ∙ append_assoc (codes "name $$s" ++ decimal x.number) (codes " ") (home_text x.home ++ r) ∙ append_assoc (codes "name $$s") (decimal x.number) (32 ∷ (home_text x.home ++ r))

pub spare-split : (x y : SpareName) (r s : List ℕ) → IsTrue (is_number x.number && home_is_written x.home) → IsTrue (is_number y.number && home_is_written y.home) → spare_line x ++ 10 ∷ r ≡ spare_line y ++ 10 ∷ s → (x ≡ y) × (r ≡ s)
spare-split x y r s hx hy e =
    let f = cons-tail (cons-tail (cons-tail (cons-tail (cons-tail (cons-tail (cons-tail (cons-tail (sym (spare-on x (10 ∷ r)) ∙ e ∙ spare-on y (10 ∷ s))))))))) in
    let px = and_parts (is_number x.number) (home_is_written x.home) hx in
    let py = and_parts (is_number y.number) (home_is_written y.home) hy in
    let first = entry-split x.number y.number (32 ∷ (home_text x.home ++ 10 ∷ r)) (32 ∷ (home_text y.home ++ 10 ∷ s)) px.0 py.0 refl refl f in
    let second = home-split x.home y.home r s px.1 py.1 (cons-tail first.1) in
    ((λ i. record { number = first.0 i; home = second.0 i }), second.1)

-- ---- lines

-- lines, each ended by a line feed, and what follows them
abbrev pub lines_on : List (List ℕ) → List ℕ → List ℕ
lines_on [] r = r
lines_on (l ∷ ls) r = l ++ 10 ∷ lines_on ls r

pub lines_on-append : (ls ms : List (List ℕ)) → flat_map line_bytes (ls ++ ms) ≡ lines_on ls (flat_map line_bytes ms)
lines_on-append [] ms = refl
lines_on-append (l ∷ ls) ms = append_assoc l (10 ∷ []) (flat_map line_bytes (ls ++ ms)) ∙ ap (λ k. l ++ 10 ∷ k) (lines_on-append ls ms)

-- the last line
abbrev pub end_text : List ℕ
end_text = flat_map line_bytes (codes "end" ∷ [])

abbrev steps_tail : List Symbol → List Step → List ℕ
steps_tail S xs = lines_on (map (step_line S) xs) end_text

abbrev spares_tail : List Symbol → List SpareName → List Step → List ℕ
spares_tail S ss xs = lines_on (map spare_line ss) (steps_tail S xs)

abbrev eigens_tail : List Symbol → List EigenName → List SpareName → List Step → List ℕ
eigens_tail S es ss xs = lines_on (map eigen_line es) (spares_tail S ss xs)

text-tails : (P : Problem) (d : Derivation) → text_in One P d ≡ lines_on (head_lines P d.limit) (eigens_tail P.symbols d.names.eigens d.names.spares d.steps)
text-tails P d =
    let head = head_lines P d.limit in
    let es = map eigen_line d.names.eigens in
    let ss = map spare_line d.names.spares in
    let xs = map (step_line P.symbols) d.steps in
    let last = codes "end" ∷ [] in
    ap (flat_map line_bytes) (append_assoc (head ++ (es ++ ss)) xs last ∙ append_assoc head (es ++ ss) (xs ++ last) ∙ ap (λ k. head ++ k) (append_assoc es ss (xs ++ last)))
    ∙ lines_on-append head (es ++ (ss ++ (xs ++ last)))
    ∙ ap (lines_on head) (lines_on-append es (ss ++ (xs ++ last)) ∙ ap (lines_on es) (lines_on-append ss (xs ++ last) ∙ ap (lines_on ss) (lines_on-append xs last)))

-- a line of a step, or the end, begins with neither byte
steps-no_name : (S : List Symbol) (xs : List Step) (r : List ℕ) → steps_tail S xs ≡ 110 ∷ r → ⊥
steps-no_name S [] r e = differ-at _ _ 0 e refl
steps-no_name S (apply_to n m t ∷ xs) r e = differ-at _ _ 0 e refl
steps-no_name S (close n k ∷ xs) r e = differ-at _ _ 0 e refl

step-no_end : (S : List Symbol) (x : Step) (r : List ℕ) → end_text ≡ step_line S x ++ r → ⊥
step-no_end S (apply_to n m t) r e = differ-at _ _ 0 e refl
step-no_end S (close n k) r e = differ-at _ _ 0 e refl

steps-unique : (S : List Symbol) → IsTrue (are_distinct S) → (xs ys : List Step) → IsTrue (list_all (step_is_written S) xs) → IsTrue (list_all (step_is_written S) ys) → steps_tail S xs ≡ steps_tail S ys → xs ≡ ys
steps-unique S d [] [] hx hy e = refl
steps-unique S d [] (y ∷ ys) hx hy e = absurd (step-no_end S y _ e)
steps-unique S d (x ∷ xs) [] hx hy e = absurd (step-no_end S x _ (sym e))
steps-unique S d (x ∷ xs) (y ∷ ys) hx hy e =
    let px = and_parts (step_is_written S x) (list_all (step_is_written S) xs) hx in
    let py = and_parts (step_is_written S y) (list_all (step_is_written S) ys) hy in
    let first = step-split S d x y (steps_tail S xs) (steps_tail S ys) px.0 py.0 e in
    let rest = steps-unique S d xs ys px.1 py.1 first.1 in
    λ i. first.0 i ∷ rest i

abbrev spare_is_written : SpareName → Bool
spare_is_written x = is_number x.number && home_is_written x.home

abbrev eigen_is_written : EigenName → Bool
eigen_is_written x = is_number x.number && label_is_written x.home

spares-unique : (S : List Symbol) (ss ts : List SpareName) (xs ys : List Step) → IsTrue (list_all spare_is_written ss) → IsTrue (list_all spare_is_written ts) → spares_tail S ss xs ≡ spares_tail S ts ys → (ss ≡ ts) × (steps_tail S xs ≡ steps_tail S ys)
spares-unique S [] [] xs ys hs ht e = (refl, e)
spares-unique S [] (t ∷ ts) xs ys hs ht e = absurd (steps-no_name S xs _ e)
spares-unique S (s ∷ ss) [] xs ys hs ht e = absurd (steps-no_name S ys _ (sym e))
spares-unique S (s ∷ ss) (t ∷ ts) xs ys hs ht e =
    let ps = and_parts (spare_is_written s) (list_all spare_is_written ss) hs in
    let pt = and_parts (spare_is_written t) (list_all spare_is_written ts) ht in
    let first = spare-split s t (spares_tail S ss xs) (spares_tail S ts ys) ps.0 pt.0 e in
    let rest = spares-unique S ss ts xs ys ps.1 pt.1 first.1 in
    ((λ i. first.0 i ∷ rest.0 i), rest.1)

-- a line of an eigenvariable is none of the others
eigen-no_spare : (S : List Symbol) (ss : List SpareName) (xs : List Step) (x : EigenName) (r : List ℕ) → spares_tail S ss xs ≡ eigen_line x ++ r → ⊥
eigen-no_spare S [] xs x r e = steps-no_name S xs _ e
eigen-no_spare S (s ∷ ss) xs x r e = differ-at _ _ 7 e refl

eigens-unique : (S : List Symbol) (ds es : List EigenName) (ss ts : List SpareName) (xs ys : List Step) → IsTrue (list_all eigen_is_written ds) → IsTrue (list_all eigen_is_written es) → eigens_tail S ds ss xs ≡ eigens_tail S es ts ys → (ds ≡ es) × (spares_tail S ss xs ≡ spares_tail S ts ys)
eigens-unique S [] [] ss ts xs ys hd he e = (refl, e)
eigens-unique S [] (y ∷ es) ss ts xs ys hd he e = absurd (eigen-no_spare S ss xs y _ e)
eigens-unique S (x ∷ ds) [] ss ts xs ys hd he e = absurd (eigen-no_spare S ts ys x _ (sym e))
eigens-unique S (x ∷ ds) (y ∷ es) ss ts xs ys hd he e =
    let pd = and_parts (eigen_is_written x) (list_all eigen_is_written ds) hd in
    let pe = and_parts (eigen_is_written y) (list_all eigen_is_written es) he in
    let first = eigen-split x y (eigens_tail S ds ss xs) (eigens_tail S es ts ys) pd.0 pe.0 e in
    let rest = eigens-unique S ds es ss ts xs ys pd.1 pe.1 first.1 in
    ((λ i. first.0 i ∷ rest.0 i), rest.1)

-- ---- the head

pub cancel : (xs r s : List ℕ) → xs ++ r ≡ xs ++ s → r ≡ s
cancel [] r s e = e
cancel (x ∷ xs) r s e = cancel xs r s (cons-tail e)

pub limit-small : (n : ℕ) → IsTrue (is_limit n) → IsTrue (is_number n)
limit-small n h = lt-ltb n (2 ^ 32) (lt_of_le_of_lt (leb-true n 200 (and_parts (nat_le 1 n) (nat_le n 200) h).1) (lit< tt))

head-split : (P : Problem) (m n : ℕ) (r s : List ℕ) → IsTrue (is_limit m) → IsTrue (is_limit n) → lines_on (head_lines P m) r ≡ lines_on (head_lines P n) s → (m ≡ n) × (r ≡ s)
head-split P m n r s hm hn e =
    let e1 = cons-tail (cancel (codes "leancop derivation 1") _ _ e) in
    let e2 = cons-tail (cancel (codes "logic " ++ setting_text P.setting) _ _ e1) in
    let e3 = cons-tail (cancel (codes "formula " ++ formula_text P.symbols 0 P.formula) _ _ e2) in
    let e4 = cancel (codes "limit ") (decimal m ++ 10 ∷ r) (decimal n ++ 10 ∷ s) e3 in
    let k = entry-split m n (10 ∷ r) (10 ∷ s) (limit-small m hm) (limit-small n hn) refl refl e4 in
    (k.0, cons-tail k.1)

-- ---- the law

record PrintableParts (P : Problem) (d : Derivation) : Type 0 where
  limit : IsTrue (is_limit d.limit)
  eigens : IsTrue (list_all eigen_is_written d.names.eigens)
  spares : IsTrue (list_all spare_is_written d.names.spares)
  steps : IsTrue (list_all (step_is_written P.symbols) d.steps)

printable-parts : (P : Problem) (d : Derivation) → IsTrue (is_printable P d) → PrintableParts P d
printable-parts P d h =
    let b = and_parts (is_limit d.limit && names_are_written d.names) (list_all (step_is_written P.symbols) d.steps) h in
    let a = and_parts (is_limit d.limit) (names_are_written d.names) b.0 in
    let z = and_parts (rises_from 0 (map (λ (x : EigenName). x.number) d.names.eigens) && list_all eigen_is_written d.names.eigens && rises_from 0 (map (λ (x : SpareName). x.number) d.names.spares)) (list_all spare_is_written d.names.spares) a.1 in
    let y = and_parts (rises_from 0 (map (λ (x : EigenName). x.number) d.names.eigens) && list_all eigen_is_written d.names.eigens) (rises_from 0 (map (λ (x : SpareName). x.number) d.names.spares)) z.0 in
    let x = and_parts (rises_from 0 (map (λ (x : EigenName). x.number) d.names.eigens)) (list_all eigen_is_written d.names.eigens) y.0 in
    record { limit = a.0; eigens = x.1; spares = z.1; steps = b.1 }

pub text-unique : (P : Problem) → IsTrue (are_distinct P.symbols) → (d e : Derivation) (bytes : List ℕ) → IsTextIn One P d bytes → IsTextIn One P e bytes → d ≡ e
text-unique P distinct d e bytes t u =
    let S = P.symbols in
    let p = printable-parts P d t.printable in
    let q = printable-parts P e u.printable in
    let same = sym (text-tails P d) ∙ sym t.text ∙ u.text ∙ text-tails P e in
    let head = head-split P d.limit e.limit (eigens_tail S d.names.eigens d.names.spares d.steps) (eigens_tail S e.names.eigens e.names.spares e.steps) p.limit q.limit same in
    let eigens = eigens-unique S d.names.eigens e.names.eigens d.names.spares e.names.spares d.steps e.steps p.eigens q.eigens head.1 in
    let spares = spares-unique S d.names.spares e.names.spares d.steps e.steps p.spares q.spares eigens.1 in
    let steps = steps-unique S distinct d.steps e.steps p.steps q.steps spares.1 in
    λ i. record { limit = head.0 i; names = record { eigens = eigens.0 i; spares = spares.0 i }; steps = steps i }
