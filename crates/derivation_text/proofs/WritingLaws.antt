-- The lines that are written are those of the text of the version.
use Rattle.std.proofs.Common.{◌≡◌, ℕ, suc, ◌+◌, ◌^◌, ◌<◌, ◌≤◌, List, [], ◌∷◌, ◌++◌, length, map, drop, get_or, Bool, true, false, ◌&&◌, IsTrue, Option, None, Some, refl, sym, ◌∙◌, ap, subst, append_assoc, append-nil, codes, decimal, flat_map, arith, lt-ltb, nat_le, leb-false}
use Rattle.std.proofs.lemmas.Bool.{and_from}
use Rattle.std.proofs.lemmas.Grind.{flat_map-append}
use Rattle.std.proofs.lemmas.List.{drop_all, drop_more}
use Rattle.plain_laws.proofs.Lists.{map-composed}
use Rattle.calculus.specs.declared.version.Version.{Version}
use Rattle.calculus.specs.declared.version.Version.TheVariants.{One, Two}
use Rattle.calculus.specs.Syntax.{Symbol, Term, Problem}
use Rattle.calculus.specs.Derivations.{Label}
use Rattle.calculus.specs.DerivationText.{derivation_lines, eigen_line, head_lines, is_printable, spare_line, step_line}
use Rattle.calculus.specs.Versions.{IsTextIn, NumberedDerivation, NumberedEigen, NumberedSpare, no_numbered_modal, to_number, by_character, no_numbered_term, by_number, by_eigen, NumberedStep, numbered_use, numbered_axiom, first_line, is_among, is_written, label_line, lines_from, numbered, numbered_eigen_line, numbered_head, numbered_lines, numbered_spare_line, numbered_step_line, numbering, stated, stated_eigen, stated_spare, stated_step, term_line}
use Rattle.calculus.specs.FirstWrong.{line_bytes}
use Rattle.calculus.proofs.VersionLaws.{printable-written}
use Rattle.text_lines.specs.Head.{head_of}
use Rattle.derivation_text.specs.Writing.{AreTablesWritten, body_lines_in, eigen_line_at, spare_line_at, step_line_at}
use Rattle.derivation_text.proofs.NumberedFeeds.{written-parts}
use Rattle.derivation_text.proofs.StatedLaws.{printable-two, text-one_written, text-two_written}

-- ---- lines of labels and terms

pub lines-step : {A : Type 0} (line : ℕ → A → List ℕ) (xs : List A) (i j : ℕ) (x d : A) → i < length xs → j ≡ i + 1 → x ≡ numbered xs j d → lines_from line (suc i) (drop i xs) ≡ line j x ∷ lines_from line (suc j) (drop j xs)
lines-step line xs i j x d lt e at =
    let next : suc i ≡ j = omega (arith, e) in
    let item : x ≡ get_or xs i d = at ∙ ap (λ n. numbered xs n d) (sym next) in
    ap (lines_from line (suc i)) (drop_more xs i d lt) ∙ (λ k. line (next k) (sym item k) ∷ lines_from line (suc (next k)) (drop (sym e k) xs))

pub among-next : (n i : ℕ) → i < n → IsTrue (is_among n (i + 1))
among-next n i h = by (nat_le 1 (i + 1)) (nat_le (i + 1) n) refl refl
  where
    by : (a b : Bool) → nat_le 1 (i + 1) ≡ a → nat_le (i + 1) n ≡ b → IsTrue (nat_le 1 (i + 1) && nat_le (i + 1) n)
    by true true e f = and_from (nat_le 1 (i + 1)) (nat_le (i + 1) n) e f
    by false b e f = absurd (omega (arith, leb-false 1 (i + 1) e))
    by true false e f = absurd (omega (arith, h, leb-false (i + 1) n f))

-- one line of a label or a term more
pub lines-written : {A : Type 0} (line : ℕ → A → List ℕ) (xs : List A) (d : A) (i : ℕ) (old new whole : List ℕ) → i < length xs → new ≡ old ++ line_bytes (line (i + 1) (numbered xs (i + 1) d)) → old ++ flat_map line_bytes (lines_from line (suc i) (drop i xs)) ≡ whole
    → new ++ flat_map line_bytes (lines_from line (suc (i + 1)) (drop (i + 1) xs)) ≡ whole
lines-written line xs d i old new whole lt e h =
    ap (λ l. l ++ flat_map line_bytes (lines_from line (suc (i + 1)) (drop (i + 1) xs))) e
    ∙ append_assoc old (line_bytes (line (i + 1) (numbered xs (i + 1) d))) (flat_map line_bytes (lines_from line (suc (i + 1)) (drop (i + 1) xs)))
    ∙ ap (λ l. old ++ flat_map line_bytes l) (sym (lines-step line xs i (i + 1) (numbered xs (i + 1) d) d lt refl refl)) ∙ h

pub lines-done : {A : Type 0} (line : ℕ → A → List ℕ) (xs : List A) (i : ℕ) (old whole : List ℕ) → length xs ≤ i → old ++ flat_map line_bytes (lines_from line (suc i) (drop i xs)) ≡ whole → old ≡ whole
lines-done line xs i old whole le h = sym (append-nil old) ∙ ap (λ l. old ++ flat_map line_bytes (lines_from line (suc i) l)) (sym (drop_all i xs le)) ∙ h

-- ---- lines of names and steps

four : (a b c d : List ℕ) → a ++ (b ++ (c ++ d)) ≡ a ++ b ++ c ++ d
four a b c d = simp append_assoc

five : (a b c d e : List ℕ) → a ++ (b ++ (c ++ (d ++ e))) ≡ a ++ (b ++ c) ++ d ++ e
five a b c d e = simp append_assoc

map-same : {X Y : Type 0} (f g : X → Y) → ((x : X) → f x ≡ g x) → (xs : List X) → map f xs ≡ map g xs
map-same f g h [] = refl
map-same f g h (x ∷ xs) = λ i. h x i ∷ map-same f g h xs i

eigen-one : (L : List Label) (x : NumberedEigen) → eigen_line_at One L x ≡ eigen_line (stated_eigen L x)
eigen-one L x = five (codes "name ") (codes "$$e") (decimal x.number) (codes " ") _

eigen-two : (L : List Label) (x : NumberedEigen) → eigen_line_at Two L x ≡ numbered_eigen_line x
eigen-two L x = five (codes "name ") (codes "$$e") (decimal x.number) (codes " ") (decimal x.home)

spare-one : (L : List Label) (x : NumberedSpare) → spare_line_at One L x ≡ spare_line (stated_spare L x)
spare-one L x = by x.home
  where
    by : (home : Option ℕ) → spare_line_at One L (record { number = x.number; home = home }) ≡ spare_line (stated_spare L (record { number = x.number; home = home }))
    by None = four (codes "name $$s") (decimal x.number) (codes " ") (codes "any")
    by (Some k) = four (codes "name $$s") (decimal x.number) (codes " ") _

spare-two : (L : List Label) (x : NumberedSpare) → spare_line_at Two L x ≡ numbered_spare_line x
spare-two L x = by x.home
  where
    by : (home : Option ℕ) → spare_line_at Two L (record { number = x.number; home = home }) ≡ numbered_spare_line (record { number = x.number; home = home })
    by None = four (codes "name $$s") (decimal x.number) (codes " ") (codes "any")
    by (Some k) = four (codes "name $$s") (decimal x.number) (codes " ") (decimal k)

step-one : (S : List Symbol) (L : List Label) (T : List Term) (x : NumberedStep) → step_line_at One S L T x ≡ step_line S (stated_step L T x)
step-one S L T (numbered_axiom n k) = four (codes "axiom ") (decimal n) (codes " ") (decimal k)
step-one S L T (numbered_use n no_numbered_modal no_numbered_term) = four (codes "use ") (decimal n) [] []
step-one S L T (numbered_use n no_numbered_modal (by_number k)) = four (codes "use ") (decimal n) [] _
step-one S L T (numbered_use n no_numbered_modal (by_eigen k)) = four (codes "use ") (decimal n) [] _
step-one S L T (numbered_use n (to_number j) no_numbered_term) = four (codes "use ") (decimal n) _ []
step-one S L T (numbered_use n (to_number j) (by_number k)) = four (codes "use ") (decimal n) _ _
step-one S L T (numbered_use n (to_number j) (by_eigen k)) = four (codes "use ") (decimal n) _ _
step-one S L T (numbered_use n (by_character j) no_numbered_term) = four (codes "use ") (decimal n) _ []
step-one S L T (numbered_use n (by_character j) (by_number k)) = four (codes "use ") (decimal n) _ _
step-one S L T (numbered_use n (by_character j) (by_eigen k)) = four (codes "use ") (decimal n) _ _

step-two : (S : List Symbol) (L : List Label) (T : List Term) (x : NumberedStep) → step_line_at Two S L T x ≡ numbered_step_line x
step-two S L T (numbered_axiom n k) = four (codes "axiom ") (decimal n) (codes " ") (decimal k)
step-two S L T (numbered_use n no_numbered_modal no_numbered_term) = four (codes "use ") (decimal n) [] []
step-two S L T (numbered_use n no_numbered_modal (by_number k)) = four (codes "use ") (decimal n) [] _
step-two S L T (numbered_use n no_numbered_modal (by_eigen k)) = four (codes "use ") (decimal n) [] _
step-two S L T (numbered_use n (to_number j) no_numbered_term) = four (codes "use ") (decimal n) _ []
step-two S L T (numbered_use n (to_number j) (by_number k)) = four (codes "use ") (decimal n) _ _
step-two S L T (numbered_use n (to_number j) (by_eigen k)) = four (codes "use ") (decimal n) _ _
step-two S L T (numbered_use n (by_character j) no_numbered_term) = four (codes "use ") (decimal n) _ []
step-two S L T (numbered_use n (by_character j) (by_number k)) = four (codes "use ") (decimal n) _ _
step-two S L T (numbered_use n (by_character j) (by_eigen k)) = four (codes "use ") (decimal n) _ _

-- ---- whole texts

regroup-one : (h a b c e : List (List ℕ)) → h ++ (a ++ (b ++ (c ++ e))) ≡ h ++ (a ++ b) ++ c ++ e
regroup-one h a b c e = simp append_assoc

regroup-two : (h l a b t c e : List (List ℕ)) → h ++ (l ++ (a ++ (b ++ (t ++ (c ++ e))))) ≡ h ++ l ++ a ++ b ++ t ++ c ++ e
regroup-two h l a b t c e = simp append_assoc

lines-one : (P : Problem) (x : NumberedDerivation) → head_of (first_line One) P x.limit ++ body_lines_in One P.symbols x ≡ derivation_lines P (stated x)
lines-one P x =
    let S = P.symbols in
    let L = x.labels in
    let T = x.terms in
    let es = map-same (eigen_line_at One L) (λ y. eigen_line (stated_eigen L y)) (eigen-one L) x.eigens ∙ map-composed (stated_eigen L) eigen_line x.eigens in
    let ss = map-same (spare_line_at One L) (λ y. spare_line (stated_spare L y)) (spare-one L) x.spares ∙ map-composed (stated_spare L) spare_line x.spares in
    let xs = map-same (step_line_at One S L T) (λ y. step_line S (stated_step L T y)) (step-one S L T) x.steps ∙ map-composed (stated_step L T) (step_line S) x.steps in
    (λ i. head_lines P x.limit ++ (es i ++ (ss i ++ (xs i ++ codes "end" ∷ []))))
    ∙ regroup-one (head_lines P x.limit) (map eigen_line (map (stated_eigen L) x.eigens)) (map spare_line (map (stated_spare L) x.spares)) (map (step_line S) (map (stated_step L T) x.steps)) (codes "end" ∷ [])

lines-two : (P : Problem) (x : NumberedDerivation) → head_of (first_line Two) P x.limit ++ body_lines_in Two P.symbols x ≡ numbered_lines P x
lines-two P x =
    let S = P.symbols in
    let L = x.labels in
    let T = x.terms in
    let es = map-same (eigen_line_at Two L) numbered_eigen_line (eigen-two L) x.eigens in
    let ss = map-same (spare_line_at Two L) numbered_spare_line (spare-two L) x.spares in
    let xs = map-same (step_line_at Two S L T) numbered_step_line (step-two S L T) x.steps in
    (λ i. numbered_head P x.limit ++ (lines_from label_line 1 L ++ (es i ++ (ss i ++ (lines_from (term_line S) 1 T ++ (xs i ++ codes "end" ∷ []))))))
    ∙ regroup-two (numbered_head P x.limit) (lines_from label_line 1 L) (map numbered_eigen_line x.eigens) (map numbered_spare_line x.spares) (lines_from (term_line S) 1 T) (map numbered_step_line x.steps) (codes "end" ∷ [])

-- what is written after the head
pub text-written : (v : Version) (P : Problem) (x : NumberedDerivation) (a b : List ℕ) → IsTrue (is_printable P (stated x)) → x ≡ numbering (stated x) → length x.labels < 2 ^ 64 → length x.terms < 2 ^ 64
    → a ≡ flat_map line_bytes (head_of (first_line v) P x.limit) → b ≡ a ++ flat_map line_bytes (body_lines_in v P.symbols x) → IsTextIn v P (stated x) b
text-written v P x a b h n labels terms p q =
    let all = q ∙ ap (λ l. l ++ flat_map line_bytes (body_lines_in v P.symbols x)) p ∙ sym (flat_map-append line_bytes (head_of (first_line v) P x.limit) (body_lines_in v P.symbols x)) in
    by v all
  where
    by : (v : Version) → b ≡ flat_map line_bytes (head_of (first_line v) P x.limit ++ body_lines_in v P.symbols x) → IsTextIn v P (stated x) b
    by One e = text-one_written P (stated x) b h (e ∙ ap (flat_map line_bytes) (lines-one P x))
    by Two e = text-two_written P x b n labels terms h (e ∙ ap (flat_map line_bytes) (lines-two P x))

-- the tables of numbers in order whose derivation can be printed
pub tables-written : (P : Problem) (x : NumberedDerivation) → IsTrue (is_printable P (stated x)) → x ≡ numbering (stated x) → length x.labels < 2 ^ 64 → length x.terms < 2 ^ 64 → AreTablesWritten P.symbols x
tables-written P x h n labels terms =
    let two = printable-two P x n (lt-ltb (length x.labels) (2 ^ 64) labels) (lt-ltb (length x.terms) (2 ^ 64) terms) h in
    let w = written-parts P x (subst (λ y. IsTrue (is_written P y)) (sym n) (printable-written P (stated x) two)) in
    record { labels = w.labels; terms = w.terms }

pub body-joined : (a b c d e f g ls es ss ts xs : List ℕ) → b ≡ a ++ ls → c ≡ b ++ es → d ≡ c ++ ss → e ≡ d ++ ts → f ≡ e ++ xs → g ≡ f ++ codes "end\n" → g ≡ a ++ (ls ++ (es ++ (ss ++ (ts ++ (xs ++ codes "end\n")))))
body-joined a b c d e f g ls es ss ts xs p q r s t u = rw (u, t, s, r, q, p) (join a ls es ss ts xs (codes "end\n"))
  where
    join : (a b c d e f g : List ℕ) → a ++ b ++ c ++ d ++ e ++ f ++ g ≡ a ++ (b ++ (c ++ (d ++ (e ++ (f ++ g)))))
    join a b c d e f g = simp append_assoc

pub body-lines : (ls es ss ts xs ends : List (List ℕ)) → flat_map line_bytes ls ++ (flat_map line_bytes es ++ (flat_map line_bytes ss ++ (flat_map line_bytes ts ++ (flat_map line_bytes xs ++ flat_map line_bytes ends)))) ≡ flat_map line_bytes (ls ++ (es ++ (ss ++ (ts ++ (xs ++ ends)))))
body-lines ls es ss ts xs ends = simp flat_map-append
