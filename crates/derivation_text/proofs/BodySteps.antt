-- One line more of a body.
use Rattle.std.proofs.Common.{◌≡◌, ◌≢◌, ℕ, ◌+◌, ◌≤◌, List, [], ◌∷◌, ◌++◌, length, map, drop, Bool, true, false, ◌&&◌, IsTrue, refl, sym, ◌∙◌, ap, subst, append_assoc, append-nil, arith, codes, None, Some, flat_map, if◌then◌else◌, nat_lt, length-append}
use Rattle.std.specs.List.{list_all}
use Rattle.std.proofs.lemmas.Bool.{and_from}
use Rattle.std.proofs.lemmas.List.Folds.{list_all-append}
use Rattle.plain_laws.proofs.Lists.{map-append}
use Rattle.calculus.specs.Syntax.{Problem}
use Rattle.calculus.specs.Derivations.{EigenName, SpareName, Step, Derivation}
use Rattle.calculus.specs.DerivationText.{head_lines, is_limit}
use Rattle.calculus.specs.FirstWrong.{line_bytes}
use Rattle.derivation_text.specs.declared.body_line.Stage.{Stage}
use Rattle.derivation_text.specs.declared.body_line.Stage.TheVariants.{Eigens, Spares, Steps, Ended}
use Rattle.derivation_text.specs.Body.{BodyLine, of_eigen, of_spare, of_step, last, IsBodyLine, body_line_text, body_line_is_written, stage_after, stage_after_lines, names_and_steps}
use Rattle.derivation_text.specs.Reading.{Fits, IsReadTo, lines_at, lines_read, with_line}
use Rattle.text_lines.specs.Lines.{AreRead, IsLineAt}
use Rattle.derivation_text.proofs.BodyLaws.{stage-append}
use Rattle.text_lines.proofs.WholeLines.{more-read}

-- ---- the lists after a line

eigen-more : (es : List EigenName) (ss : List SpareName) (xs : List Step) (y : EigenName) → ss ≡ [] → xs ≡ [] → names_and_steps (es ++ y ∷ []) ss xs ++ [] ≡ (names_and_steps es ss xs ++ []) ++ of_eigen y ∷ []
eigen-more es ss xs y hs hx = rw (hs, hx) (simp (map-append, append_assoc, append-nil))

spare-more : (es : List EigenName) (ss : List SpareName) (xs : List Step) (y : SpareName) → xs ≡ [] → names_and_steps es (ss ++ y ∷ []) xs ++ [] ≡ (names_and_steps es ss xs ++ []) ++ of_spare y ∷ []
spare-more es ss xs y hx = rw hx (simp (map-append, append_assoc, append-nil))

step-more : (es : List EigenName) (ss : List SpareName) (xs : List Step) (y : Step) → names_and_steps es ss (xs ++ y ∷ []) ++ [] ≡ (names_and_steps es ss xs ++ []) ++ of_step y ∷ []
step-more es ss xs y = simp (map-append, append_assoc, append-nil)

not-empty : (xs : List Step) (y : Step) → xs ++ y ∷ [] ≢ []
not-empty [] y e = cc
not-empty (x ∷ xs) y e = cc

abbrev Goes : Stage → Derivation → BodyLine → Stage → Type 0
Goes s d x t = (lines_at t (with_line d x) ≡ lines_at s d ++ x ∷ []) × Fits t (with_line d x)

below-is : (b : Bool) (s t : Stage) → (if b then Some s else None) ≡ Some t → s ≡ t
below-is true s t e = cc
below-is false s t e = absurd (cc)

some-is : (s t : Stage) → Some s ≡ Some t → s ≡ t
some-is s t e = cc

never : {A : Type 0} (t : Stage) → None ≡ Some t → A
never t e = absurd (cc e)

there : (s : Stage) (d : Derivation) (x : BodyLine) (t u : Stage) → u ≡ t → Goes s d x u → Goes s d x t
there s d x t u e g = subst (Goes s d x) e g

end-more : (b : List BodyLine) → b ++ last ∷ [] ≡ (b ++ []) ++ last ∷ []
end-more b = ap (λ k. k ++ last ∷ []) (sym (append-nil b))

pub goes-on : (s t : Stage) (d : Derivation) (x : BodyLine) → Fits s d → stage_after s x ≡ Some t → Goes s d x t
goes-on (Eigens n) t d (of_eigen y) f e = there (Eigens n) d (of_eigen y) t (Eigens y.number) (below-is (nat_lt n y.number) (Eigens y.number) t e) (eigen-more d.names.eigens d.names.spares d.steps y f.0 f.1, (f.0, f.1))
goes-on (Eigens n) t d (of_spare y) f e = there (Eigens n) d (of_spare y) t (Spares y.number) (below-is (nat_lt 0 y.number) (Spares y.number) t e) (spare-more d.names.eigens d.names.spares d.steps y f.1, f.1)
goes-on (Eigens n) t d (of_step y) f e = there (Eigens n) d (of_step y) t Steps (some-is Steps t e) (step-more d.names.eigens d.names.spares d.steps y, not-empty d.steps y)
goes-on (Eigens n) t d last f e = there (Eigens n) d last t Ended (some-is Ended t e) (end-more (names_and_steps d.names.eigens d.names.spares d.steps), tt)
goes-on (Spares n) t d (of_eigen y) f e = never t e
goes-on (Spares n) t d (of_spare y) f e = there (Spares n) d (of_spare y) t (Spares y.number) (below-is (nat_lt n y.number) (Spares y.number) t e) (spare-more d.names.eigens d.names.spares d.steps y f, f)
goes-on (Spares n) t d (of_step y) f e = there (Spares n) d (of_step y) t Steps (some-is Steps t e) (step-more d.names.eigens d.names.spares d.steps y, not-empty d.steps y)
goes-on (Spares n) t d last f e = there (Spares n) d last t Ended (some-is Ended t e) (end-more (names_and_steps d.names.eigens d.names.spares d.steps), tt)
goes-on Steps t d (of_eigen y) f e = never t e
goes-on Steps t d (of_spare y) f e = never t e
goes-on Steps t d (of_step y) f e = there Steps d (of_step y) t Steps (some-is Steps t e) (step-more d.names.eigens d.names.spares d.steps y, not-empty d.steps y)
goes-on Steps t d last f e = there Steps d last t Ended (some-is Ended t e) (end-more (names_and_steps d.names.eigens d.names.spares d.steps), tt)
goes-on Ended t d (of_eigen y) f e = never t e
goes-on Ended t d (of_spare y) f e = never t e
goes-on Ended t d (of_step y) f e = never t e
goes-on Ended t d last f e = never t e

-- ---- what is read

same-limit : (d : Derivation) (x : BodyLine) → d.limit ≡ (with_line d x).limit
same-limit d (of_eigen y) = refl
same-limit d (of_spare y) = refl
same-limit d (of_step y) = refl
same-limit d last = refl

pub lines-more : (P : Problem) (s t : Stage) (d : Derivation) (x : BodyLine) (l : List ℕ) → Goes s d x t → l ≡ body_line_text P.symbols x → lines_read P s d ++ l ∷ [] ≡ lines_read P t (with_line d x)
lines-more P s t d x l g e =
    let S = P.symbols in
    append_assoc (head_lines P d.limit) (map (body_line_text S) (lines_at s d)) (l ∷ [])
    ∙ ap (λ (k : List ℕ). head_lines P d.limit ++ (map (body_line_text S) (lines_at s d) ++ k ∷ [])) e
    ∙ ap (λ k. head_lines P d.limit ++ k) (sym (map-append (body_line_text S) (lines_at s d) (x ∷ [])))
    ∙ ap (λ k. head_lines P d.limit ++ map (body_line_text S) k) (sym g.0)
    ∙ ap (λ n. head_lines P n ++ map (body_line_text S) (lines_at t (with_line d x))) (same-limit d x)

pub body-more : (P : Problem) (bytes : List ℕ) (place to : ℕ) (s t : Stage) (d : Derivation) (x : BodyLine) (l : List ℕ) → IsReadTo P bytes place s d → IsLineAt bytes place to l → IsBodyLine P.symbols l x → stage_after s x ≡ Some t → IsReadTo P bytes to t (with_line d x)
body-more P bytes place to s t d x l r here is e =
    let g = goes-on s t d x r.fits e in
    let S = P.symbols in
    record {
      limit = subst (λ n. IsTrue (is_limit n)) (same-limit d x) r.limit;
      lines = subst (λ k. AreRead bytes k to) (lines-more P s t d x l g is.same) (more-read bytes (lines_read P s d) place to l r.lines here);
      written = ap (list_all (body_line_is_written S)) g.0 ∙ list_all-append (body_line_is_written S) (lines_at s d) (x ∷ []) ∙ and_from (list_all (body_line_is_written S) (lines_at s d)) (body_line_is_written S x && true) r.written (and_from (body_line_is_written S x) true is.written refl);
      order = ap (stage_after_lines (Some (Eigens 0))) g.0 ∙ stage-append (Some (Eigens 0)) (lines_at s d) (x ∷ []) ∙ ap (λ o. stage_after_lines o (x ∷ [])) r.order ∙ e;
      fits = g.1;
    }

-- ---- numbers of lines

many : (ls : List (List ℕ)) → length ls ≤ length (flat_map line_bytes ls)
many [] = omega arith
many (l ∷ ls) =
    let r = many ls in
    omega (arith, r, length-append (l ++ 10 ∷ []) (flat_map line_bytes ls), length-append l (10 ∷ []))

pub few : (l : List ℕ) (tail : List (List ℕ)) (rest bs : List ℕ) → 20 ≤ length l → bs ≡ flat_map line_bytes (l ∷ tail) ++ rest → (length (l ∷ tail) + 10) ≤ length bs
few l tail rest bs h e =
    let f = ap length e in
    let m = many tail in
    omega (arith, f, m, h, length-append (flat_map line_bytes (l ∷ tail)) rest, length-append (l ++ 10 ∷ []) (flat_map line_bytes tail), length-append l (10 ∷ []))

abbrev pub after-first : List (List ℕ) → List (List ℕ)
after-first [] = []
after-first (l ∷ ls) = ls

-- a count of lines stays far below the number of bytes
pub few-lines : (P : Problem) (bytes : List ℕ) (place : ℕ) (s : Stage) (d : Derivation) → IsReadTo P bytes place s d → (length (lines_read P s d) + 10) ≤ length bytes
few-lines P bytes place s d r = few (codes "leancop derivation 1") (after-first (lines_read P s d)) (drop place bytes) bytes (omega arith) r.lines.text
