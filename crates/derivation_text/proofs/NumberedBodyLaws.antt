-- The lines of a derivation with numbers as values: what one more makes of them, and which of them can be written.
use Rattle.std.proofs.Common.{◌≡◌, ◌≢◌, ℕ, suc, ◌+◌, List, [], ◌∷◌, ◌++◌, length, map, Bool, true, false, ◌&&◌, IsTrue, None, Some, if◌then◌else◌, refl, sym, ◌∙◌, ap, subst, append_assoc, append-nil, codes, arith, ◌==◌, eqb-true, length-append}
use Rattle.std.proofs.lemmas.Bool.{and_parts, true≢false}
use Rattle.plain_laws.proofs.Lists.{map-append, map-twice}
use Rattle.derivation_text.proofs.NumberedStages.{takes-on}
use Rattle.calculus.specs.Syntax.{Symbol, Term, Problem}
use Rattle.calculus.specs.Derivations.{Label}
use Rattle.calculus.specs.Versions.{is_among, numbered_home_is_written, NumberedDerivation, NumberedEigen, NumberedSpare, NumberedStep, label_line, lines_from, numbered_eigen_line, numbered_head, numbered_lines, numbered_spare_line, numbered_step_line, term_line}
use Rattle.derivation_text.specs.declared.numbered_line.NumberedStage.{NumberedStage}
use Rattle.derivation_text.specs.declared.numbered_line.Part.{Part}
use Rattle.derivation_text.specs.declared.numbered_line.Part.TheVariants.{Labels, Eigens, Spares, Terms, Steps, Ended}
use Rattle.derivation_text.specs.Listed.{are_listed}
use Rattle.derivation_text.specs.NumberedBody.{NumberedLine, label_of, eigen_of, spare_of, term_of, step_of, last_line, ended_stage, goes_on, is_behind, last_eigen, last_spare, numbered_line_text, numbered_stage_after, takes_labels, takes_terms, with_numbered_line}
use Rattle.derivation_text.specs.NumberedReading.{FitsPart, ending_of, front_lines, label_lines, lines_of_lists, numbered_lines_at, term_lines}

-- ---- their texts

label-texts : (S : List Symbol) (k : ℕ) (ws : List Label) → map (numbered_line_text S) (label_lines k ws) ≡ lines_from label_line k ws
label-texts S k [] = refl
label-texts S k (w ∷ ws) = ap (λ l. label_line k w ∷ l) (label-texts S (suc k) ws)

term-texts : (S : List Symbol) (k : ℕ) (ts : List Term) → map (numbered_line_text S) (term_lines k ts) ≡ lines_from (term_line S) k ts
term-texts S k [] = refl
term-texts S k (t ∷ ts) = ap (λ l. term_line S k t ∷ l) (term-texts S (suc k) ts)

front-texts : (S : List Symbol) (ws : List Label) (es : List NumberedEigen) (ss : List NumberedSpare) (ts : List Term) (xs : List NumberedStep)
    → map (numbered_line_text S) (lines_of_lists ws es ss ts xs) ≡ lines_from label_line 1 ws ++ (map numbered_eigen_line es ++ (map numbered_spare_line ss ++ (lines_from (term_line S) 1 ts ++ map numbered_step_line xs)))
front-texts S ws es ss ts xs =
    let f = numbered_line_text S in
    map-append f (label_lines 1 ws) (map eigen_of es ++ (map spare_of ss ++ (term_lines 1 ts ++ map step_of xs)))
    ∙ (λ i. label-texts S 1 ws i ++ map-append f (map eigen_of es) (map spare_of ss ++ (term_lines 1 ts ++ map step_of xs)) i)
    ∙ (λ i. lines_from label_line 1 ws ++ (map-twice eigen_of f es i ++ map-append f (map spare_of ss) (term_lines 1 ts ++ map step_of xs) i))
    ∙ (λ i. lines_from label_line 1 ws ++ (map numbered_eigen_line es ++ (map-twice spare_of f ss i ++ map-append f (term_lines 1 ts) (map step_of xs) i)))
    ∙ (λ i. lines_from label_line 1 ws ++ (map numbered_eigen_line es ++ (map numbered_spare_line ss ++ (term-texts S 1 ts i ++ map-twice step_of f xs i))))

regroup : (h a b c d e f : List (List ℕ)) → h ++ a ++ b ++ c ++ d ++ e ++ f ≡ h ++ ((a ++ (b ++ (c ++ (d ++ e)))) ++ f)
regroup h a b c d e f = simp append_assoc

-- the lines of a derivation with numbers
abbrev pub numbered_body : NumberedDerivation → List NumberedLine
numbered_body x = front_lines x ++ last_line ∷ []

pub lines-body : (P : Problem) (x : NumberedDerivation) → numbered_lines P x ≡ numbered_head P x.limit ++ map (numbered_line_text P.symbols) (numbered_body x)
lines-body P x =
    let S = P.symbols in
    let h = numbered_head P x.limit in
    let e = codes "end" ∷ [] in
    regroup h (lines_from label_line 1 x.labels) (map numbered_eigen_line x.eigens) (map numbered_spare_line x.spares) (lines_from (term_line S) 1 x.terms) (map numbered_step_line x.steps) e
    ∙ ap (λ l. h ++ (l ++ e)) (sym (front-texts S x.labels x.eigens x.spares x.terms x.steps))
    ∙ ap (λ l. h ++ l) (sym (map-append (numbered_line_text S) (front_lines x) (last_line ∷ [])))

-- ---- the lists after a line

label-end : (k : ℕ) (ws : List Label) (w : Label) → label_lines k (ws ++ w ∷ []) ≡ label_lines k ws ++ label_of (k + length ws) w ∷ []
label-end k [] w = let e : k ≡ k + 0 = omega arith in ap (λ n. label_of n w ∷ []) e
label-end k (v ∷ ws) w =
    let e : suc k + length ws ≡ k + suc (length ws) = omega arith in
    ap (λ l. label_of k v ∷ l) (label-end (suc k) ws w) ∙ ap (λ n. label_of k v ∷ (label_lines (suc k) ws ++ label_of n w ∷ [])) e

term-end : (k : ℕ) (ts : List Term) (t : Term) → term_lines k (ts ++ t ∷ []) ≡ term_lines k ts ++ term_of (k + length ts) t ∷ []
term-end k [] t = let e : k ≡ k + 0 = omega arith in ap (λ n. term_of n t ∷ []) e
term-end k (u ∷ ts) t =
    let e : suc k + length ts ≡ k + suc (length ts) = omega arith in
    ap (λ l. term_of k u ∷ l) (term-end (suc k) ts t) ∙ ap (λ n. term_of k u ∷ (term_lines (suc k) ts ++ term_of n t ∷ [])) e

label-more : (ws : List Label) (es : List NumberedEigen) (ss : List NumberedSpare) (ts : List Term) (xs : List NumberedStep) (k : ℕ) (w : Label) → es ≡ [] → ss ≡ [] → ts ≡ [] → xs ≡ [] → k ≡ suc (length ws)
    → lines_of_lists (ws ++ w ∷ []) es ss ts xs ≡ lines_of_lists ws es ss ts xs ++ label_of k w ∷ []
label-more ws es ss ts xs k w a b c d n =
    let m : 1 + length ws ≡ k = omega (arith, n) in
    rw (a, b, c, d) (append-nil (label_lines 1 (ws ++ w ∷ [])) ∙ label-end 1 ws w ∙ (λ i. sym (append-nil (label_lines 1 ws)) i ++ label_of (m i) w ∷ []))

eigen-more : (ls : List NumberedLine) (es : List NumberedEigen) (ss : List NumberedSpare) (ts : List Term) (xs : List NumberedStep) (y : NumberedEigen) → ss ≡ [] → ts ≡ [] → xs ≡ []
    → ls ++ (map eigen_of (es ++ y ∷ []) ++ (map spare_of ss ++ (term_lines 1 ts ++ map step_of xs))) ≡ (ls ++ (map eigen_of es ++ (map spare_of ss ++ (term_lines 1 ts ++ map step_of xs)))) ++ eigen_of y ∷ []
eigen-more ls es ss ts xs y b c d = rw (b, c, d) (simp (map-append, append_assoc, append-nil))

spare-more : (ls ms : List NumberedLine) (ss : List NumberedSpare) (ts : List Term) (xs : List NumberedStep) (y : NumberedSpare) → ts ≡ [] → xs ≡ []
    → ls ++ (ms ++ (map spare_of (ss ++ y ∷ []) ++ (term_lines 1 ts ++ map step_of xs))) ≡ (ls ++ (ms ++ (map spare_of ss ++ (term_lines 1 ts ++ map step_of xs)))) ++ spare_of y ∷ []
spare-more ls ms ss ts xs y c d = rw (c, d) (simp (map-append, append_assoc, append-nil))

term-more : (ls ms ns : List NumberedLine) (ts : List Term) (xs : List NumberedStep) (k : ℕ) (t : Term) → xs ≡ [] → k ≡ suc (length ts)
    → ls ++ (ms ++ (ns ++ (term_lines 1 (ts ++ t ∷ []) ++ map step_of xs))) ≡ (ls ++ (ms ++ (ns ++ (term_lines 1 ts ++ map step_of xs)))) ++ term_of k t ∷ []
term-more ls ms ns ts xs k t d n =
    let m : 1 + length ts ≡ k = omega (arith, n) in
    rw d ((λ i. ls ++ (ms ++ (ns ++ (term-end 1 ts t i ++ [])))) ∙ (λ i. ls ++ (ms ++ (ns ++ ((term_lines 1 ts ++ term_of (m i) t ∷ []) ++ [])))) ∙ glue ls ms ns (term_lines 1 ts) (term_of k t ∷ []))
  where
    glue : (a b c d e : List NumberedLine) → a ++ (b ++ (c ++ ((d ++ e) ++ []))) ≡ (a ++ (b ++ (c ++ (d ++ [])))) ++ e
    glue a b c d e = simp (append_assoc, append-nil)

step-more : (ls ms ns os : List NumberedLine) (xs : List NumberedStep) (y : NumberedStep)
    → ls ++ (ms ++ (ns ++ (os ++ map step_of (xs ++ y ∷ [])))) ≡ (ls ++ (ms ++ (ns ++ (os ++ map step_of xs)))) ++ step_of y ∷ []
step-more ls ms ns os xs y = simp (map-append, append_assoc)

-- ---- the next line

none-some : {A : Type 0} {C : Type 0} (t : A) → None ≡ Some t → C
none-some t e = absurd (cc e)

-- a choice that is made
pub chosen : {A : Type 0} (b : Bool) (r t : A) → (if b then Some r else None) ≡ Some t → (b ≡ true) × (r ≡ t)
chosen true r t e = (refl, cc)
chosen false r t e = none-some t e

no_false : {A : Type 0} → false ≡ true → A
no_false e = absurd (true≢false (sym e))

part-labels : (p : Part) → takes_labels p ≡ true → p ≡ Labels
part-labels Labels e = refl
part-labels (Eigens n) e = no_false e
part-labels (Spares n) e = no_false e
part-labels Terms e = no_false e
part-labels Steps e = no_false e
part-labels Ended e = no_false e

fits-eigen : (p : Part) (n : ℕ) (x : NumberedDerivation) → is_behind (last_eigen p) n ≡ true → FitsPart p x → (x.spares ≡ []) × (x.terms ≡ []) × (x.steps ≡ [])
fits-eigen Labels n x e h = (h.1, h.2, h.3)
fits-eigen (Eigens m) n x e h = (h.1, h.2, h.3)
fits-eigen (Spares m) n x e h = no_false e
fits-eigen Terms n x e h = no_false e
fits-eigen Steps n x e h = no_false e
fits-eigen Ended n x e h = no_false e

fits-spare : (p : Part) (n : ℕ) (x : NumberedDerivation) → is_behind (last_spare p) n ≡ true → FitsPart p x → (x.terms ≡ []) × (x.steps ≡ [])
fits-spare Labels n x e h = (h.2, h.3)
fits-spare (Eigens m) n x e h = (h.2, h.3)
fits-spare (Spares m) n x e h = (h.1, h.2)
fits-spare Terms n x e h = no_false e
fits-spare Steps n x e h = no_false e
fits-spare Ended n x e h = no_false e

fits-term : (p : Part) (x : NumberedDerivation) → takes_terms p ≡ true → FitsPart p x → x.steps ≡ []
fits-term Labels x e h = h.3
fits-term (Eigens m) x e h = h.3
fits-term (Spares m) x e h = h.2
fits-term Terms x e h = h.1
fits-term Steps x e h = no_false e
fits-term Ended x e h = no_false e

not-empty : {A : Type 0} (xs : List A) (y : A) → xs ++ y ∷ [] ≢ []
not-empty [] y e = cc
not-empty (x ∷ xs) y e = cc

not-ended : (p : Part) → goes_on p ≡ true → ending_of p ≡ []
not-ended Labels e = refl
not-ended (Eigens n) e = refl
not-ended (Spares n) e = refl
not-ended Terms e = refl
not-ended Steps e = refl
not-ended Ended e = no_false e

pub eigen-goes : (p : Part) (n : ℕ) → is_behind (last_eigen p) n ≡ true → goes_on p ≡ true
eigen-goes Labels n e = refl
eigen-goes (Eigens m) n e = refl
eigen-goes (Spares m) n e = no_false e
eigen-goes Terms n e = no_false e
eigen-goes Steps n e = no_false e
eigen-goes Ended n e = no_false e

pub spare-goes : (p : Part) (n : ℕ) → is_behind (last_spare p) n ≡ true → goes_on p ≡ true
spare-goes Labels n e = refl
spare-goes (Eigens m) n e = refl
spare-goes (Spares m) n e = refl
spare-goes Terms n e = no_false e
spare-goes Steps n e = no_false e
spare-goes Ended n e = no_false e

abbrev pub Counts : NumberedStage → NumberedDerivation → Type 0
Counts s x = IsTrue (goes_on s.part) → (s.labels ≡ length x.labels) × (s.terms ≡ length x.terms)

-- one line more
pub record GoesOn (s t : NumberedStage) (x : NumberedDerivation) (l : NumberedLine) : Type 0 where
  pub lines : numbered_lines_at t.part (with_numbered_line x l) ≡ numbered_lines_at s.part x ++ l ∷ []
  pub fits : FitsPart t.part (with_numbered_line x l)
  pub counts : Counts t (with_numbered_line x l)

there : (s t u : NumberedStage) (x : NumberedDerivation) (l : NumberedLine) → u ≡ t → GoesOn s u x l → GoesOn s t x l
there s t u x l e g = subst (λ v. GoesOn s v x l) e g

-- what was read so far ends openly
open-end : (p : Part) (x : NumberedDerivation) → goes_on p ≡ true → front_lines x ≡ numbered_lines_at p x
open-end p x e = sym (append-nil (front_lines x)) ∙ ap (λ l. front_lines x ++ l) (sym (not-ended p e))

onto : (a b c d : List NumberedLine) (l : NumberedLine) → a ≡ b ++ l ∷ [] → b ≡ c → a ++ [] ≡ c ++ l ∷ []
onto a b c d l e f = append-nil a ∙ e ∙ ap (λ k. k ++ l ∷ []) f

pub goes-more : (s t : NumberedStage) (x : NumberedDerivation) (l : NumberedLine) → FitsPart s.part x → Counts s x → numbered_stage_after s l ≡ Some t → GoesOn s t x l
goes-more s t x (label_of k w) h n e =
    let c = chosen (takes_labels s.part && (k == suc s.labels)) (record { labels = suc s.labels; terms = s.terms; part = Labels }) t e in
    let p = and_parts (takes_labels s.part) (k == suc s.labels) c.0 in
    let at = part-labels s.part p.0 in
    let f : FitsPart Labels x = subst (λ q. FitsPart q x) at h in
    let g : goes_on s.part ≡ true = ap goes_on at in
    let m = n g in
    let number : k ≡ suc (length x.labels) = eqb-true k (suc s.labels) p.1 ∙ ap suc m.0 in
    there s t (record { labels = suc s.labels; terms = s.terms; part = Labels }) x (label_of k w) c.1
    (record {
      lines = onto _ _ _ [] (label_of k w) (label-more x.labels x.eigens x.spares x.terms x.steps k w f.0 f.1 f.2 f.3 number) (open-end s.part x g);
      fits = f;
      counts = λ _. (ap suc m.0 ∙ (let z : suc (length x.labels) ≡ length (x.labels ++ w ∷ []) = omega (arith, length-append x.labels (w ∷ [])) in z), m.1);
    })
goes-more s t x (eigen_of y) h n e =
    let c = chosen (is_behind (last_eigen s.part) y.number && is_among s.labels y.home) (record { labels = s.labels; terms = s.terms; part = Eigens y.number }) t e in
    let p = and_parts (is_behind (last_eigen s.part) y.number) (is_among s.labels y.home) c.0 in
    let f = fits-eigen s.part y.number x p.0 h in
    let g = eigen-goes s.part y.number p.0 in
    there s t (record { labels = s.labels; terms = s.terms; part = Eigens y.number }) x (eigen_of y) c.1
    (record {
      lines = onto _ _ _ [] (eigen_of y) (eigen-more (label_lines 1 x.labels) x.eigens x.spares x.terms x.steps y f.0 f.1 f.2) (open-end s.part x g);
      fits = (not-empty x.eigens y, f.0, f.1, f.2);
      counts = λ _. n g;
    })
goes-more s t x (spare_of y) h n e =
    let c = chosen (is_behind (last_spare s.part) y.number && numbered_home_is_written s.labels y.home) (record { labels = s.labels; terms = s.terms; part = Spares y.number }) t e in
    let p = and_parts (is_behind (last_spare s.part) y.number) (numbered_home_is_written s.labels y.home) c.0 in
    let f = fits-spare s.part y.number x p.0 h in
    let g = spare-goes s.part y.number p.0 in
    there s t (record { labels = s.labels; terms = s.terms; part = Spares y.number }) x (spare_of y) c.1
    (record {
      lines = onto _ _ _ [] (spare_of y) (spare-more (label_lines 1 x.labels) (map eigen_of x.eigens) x.spares x.terms x.steps y f.0 f.1) (open-end s.part x g);
      fits = (not-empty x.spares y, f.0, f.1);
      counts = λ _. n g;
    })
goes-more s t x (term_of k u) h n e =
    let c = chosen (takes_terms s.part && (k == suc s.terms)) (record { labels = s.labels; terms = suc s.terms; part = Terms }) t e in
    let p = and_parts (takes_terms s.part) (k == suc s.terms) c.0 in
    let f = fits-term s.part x p.0 h in
    let g = takes-on s.part p.0 in
    let m = n g in
    let number : k ≡ suc (length x.terms) = eqb-true k (suc s.terms) p.1 ∙ ap suc m.1 in
    there s t (record { labels = s.labels; terms = suc s.terms; part = Terms }) x (term_of k u) c.1
    (record {
      lines = onto _ _ _ [] (term_of k u) (term-more (label_lines 1 x.labels) (map eigen_of x.eigens) (map spare_of x.spares) x.terms x.steps k u f number) (open-end s.part x g);
      fits = (not-empty x.terms u, f);
      counts = λ _. (m.0, ap suc m.1 ∙ (let z : suc (length x.terms) ≡ length (x.terms ++ u ∷ []) = omega (arith, length-append x.terms (u ∷ [])) in z));
    })
goes-more s t x (step_of y) h n e =
    let c = chosen (goes_on s.part && are_listed s.labels s.terms y) (record { labels = s.labels; terms = s.terms; part = Steps }) t e in
    let p = and_parts (goes_on s.part) (are_listed s.labels s.terms y) c.0 in
    there s t (record { labels = s.labels; terms = s.terms; part = Steps }) x (step_of y) c.1
    (record {
      lines = onto _ _ _ [] (step_of y) (step-more (label_lines 1 x.labels) (map eigen_of x.eigens) (map spare_of x.spares) (term_lines 1 x.terms) x.steps y) (open-end s.part x p.0);
      fits = not-empty x.steps y;
      counts = λ _. n p.0;
    })
goes-more s t x last_line h n e =
    let c = chosen (goes_on s.part) ended_stage t e in
    there s t ended_stage x last_line c.1
    (record {
      lines = ap (λ l. l ++ last_line ∷ []) (open-end s.part x c.0);
      fits = tt;
      counts = λ h. no_false h;
    })
