-- Lines after the head: each has one value, and they stand in order exactly in derivations that can be printed.
use Rattle.std.proofs.Common.{◌≡◌, ℕ, List, [], ◌∷◌, ◌++◌, map, Bool, true, false, ◌&&◌, IsTrue, refl, sym, ◌∙◌, ap, append_assoc, nat_lt, codes, Option, None, Some, if◌then◌else◌}
use Rattle.std.specs.List.{list_all}
use Rattle.std.proofs.lemmas.Bool.{and_parts, and_from}
use Rattle.std.proofs.lemmas.List.Folds.{list_all-append}
use Rattle.plain_laws.proofs.Places.{differ-at}
use Rattle.plain_laws.proofs.Lists.{cons-parts, map-append, map-twice, on-line}
use Rattle.plain_laws.proofs.Every.{all-map}
use Rattle.calculus.specs.Syntax.{Symbol, Problem}
use Rattle.calculus.specs.Problems.{are_distinct}
use Rattle.calculus.specs.Derivations.{EigenName, SpareName, Step, apply_to, close, Derivation}
use Rattle.calculus.specs.DerivationText.{derivation_lines, eigen_line, head_lines, is_limit, is_printable, names_are_written, rises_from, spare_line, step_is_written, step_line}
use Rattle.calculus.proofs.DerivationTextLaws.{eigen-split, spare-split, step-split}
use Rattle.derivation_text.specs.declared.body_line.Stage.{Stage}
use Rattle.derivation_text.specs.declared.body_line.Stage.TheVariants.{Eigens, Spares, Steps, Ended}
use Rattle.derivation_text.specs.Body.{BodyLine, of_eigen, of_spare, of_step, last, IsBodyLine, body_line_text, body_line_is_written, stage_after, advanced, stage_after_lines, names_and_steps}
use Rattle.derivation_text.specs.Written.{eigen_is_written, spare_is_written}
use Rattle.derivation_text.proofs.Printable.{parts}

-- ---- stages

pub stage-append : (s : Option Stage) (xs ys : List BodyLine) → stage_after_lines s (xs ++ ys) ≡ stage_after_lines (stage_after_lines s xs) ys
stage-append s [] ys = refl
stage-append s (x ∷ xs) ys = stage-append (advanced s x) xs ys

pub stage-none : (xs : List BodyLine) → stage_after_lines None xs ≡ None
stage-none [] = refl
stage-none (x ∷ xs) = stage-none xs

none-some : (o : Option Stage) (s : Stage) → o ≡ None → o ≡ Some s → ⊥
none-some o s e f = cc

below-some : (b : Bool) (s : Stage) (xs : List BodyLine) (t : Stage) → stage_after_lines (if b then Some s else None) xs ≡ Some t → (b ≡ true) × (stage_after_lines (Some s) xs ≡ Some t)
below-some true s xs t e = (refl, e)
below-some false s xs t e = absurd (none-some _ t (stage-none xs) e)

abbrev pub eigen_numbers : List EigenName → List ℕ
eigen_numbers es = map (λ (x : EigenName). x.number) es

abbrev pub spare_numbers : List SpareName → List ℕ
spare_numbers ss = map (λ (x : SpareName). x.number) ss

rises-eigens : (n : ℕ) (es : List EigenName) (tail : List BodyLine) (t : Stage) → stage_after_lines (Some (Eigens n)) (map of_eigen es ++ tail) ≡ Some t → IsTrue (rises_from n (eigen_numbers es)) × ((m : ℕ) × (stage_after_lines (Some (Eigens m)) tail ≡ Some t))
rises-eigens n [] tail t e = (refl, (n, e))
rises-eigens n (x ∷ es) tail t e =
    let p = below-some (nat_lt n x.number) (Eigens x.number) (map of_eigen es ++ tail) t e in
    let r = rises-eigens x.number es tail t p.1 in
    (and_from (nat_lt n x.number) (rises_from x.number (eigen_numbers es)) p.0 r.0, r.1)

rises-spares : (n : ℕ) (ss : List SpareName) (tail : List BodyLine) (t : Stage) → stage_after_lines (Some (Spares n)) (map of_spare ss ++ tail) ≡ Some t → IsTrue (rises_from n (spare_numbers ss))
rises-spares n [] tail t e = refl
rises-spares n (x ∷ ss) tail t e =
    let p = below-some (nat_lt n x.number) (Spares x.number) (map of_spare ss ++ tail) t e in
    and_from (nat_lt n x.number) (rises_from x.number (spare_numbers ss)) p.0 (rises-spares x.number ss tail t p.1)

rises-first : (m : ℕ) (ss : List SpareName) (tail : List BodyLine) (t : Stage) → stage_after_lines (Some (Eigens m)) (map of_spare ss ++ tail) ≡ Some t → IsTrue (rises_from 0 (spare_numbers ss))
rises-first m [] tail t e = refl
rises-first m (x ∷ ss) tail t e =
    let p = below-some (nat_lt 0 x.number) (Spares x.number) (map of_spare ss ++ tail) t e in
    and_from (nat_lt 0 x.number) (rises_from x.number (spare_numbers ss)) p.0 (rises-spares x.number ss tail t p.1)

-- ---- what can be written

written-parts : (S : List Symbol) (es : List EigenName) (ss : List SpareName) (xs : List Step) → list_all (body_line_is_written S) (names_and_steps es ss xs) ≡ (list_all eigen_is_written es && (list_all spare_is_written ss && list_all (step_is_written S) xs))
written-parts S es ss xs =
    list_all-append (body_line_is_written S) (map of_eigen es) (map of_spare ss ++ map of_step xs)
    ∙ ap (λ b. list_all (body_line_is_written S) (map of_eigen es) && b) (list_all-append (body_line_is_written S) (map of_spare ss) (map of_step xs))
    ∙ rw (all-map of_eigen (body_line_is_written S) es, all-map of_spare (body_line_is_written S) ss, all-map of_step (body_line_is_written S) xs) refl

-- what has been read so far is the beginning of a derivation that can be printed
pub printable-so_far : (P : Problem) (n : ℕ) (es : List EigenName) (ss : List SpareName) (xs : List Step) (t : Stage) → IsTrue (is_limit n) → IsTrue (list_all (body_line_is_written P.symbols) (names_and_steps es ss xs)) → stage_after_lines (Some (Eigens 0)) (names_and_steps es ss xs) ≡ Some t
    → IsTrue (is_printable P (record { limit = n; names = record { eigens = es; spares = ss }; steps = xs }))
printable-so_far P n es ss xs t l w e =
    let S = P.symbols in
    let p = and_parts (list_all eigen_is_written es) (list_all spare_is_written ss && list_all (step_is_written S) xs) (sym (written-parts S es ss xs) ∙ w) in
    let q = and_parts (list_all spare_is_written ss) (list_all (step_is_written S) xs) p.1 in
    let r = rises-eigens 0 es (map of_spare ss ++ map of_step xs) t e in
    let s = rises-first r.1.0 ss (map of_step xs) t r.1.1 in
    let a = rises_from 0 (eigen_numbers es) in
    let b = list_all eigen_is_written es in
    let c = rises_from 0 (spare_numbers ss) in
    let d = list_all spare_is_written ss in
    and_from (is_limit n && names_are_written (record { eigens = es; spares = ss })) (list_all (step_is_written S) xs)
    (and_from (is_limit n) (names_are_written (record { eigens = es; spares = ss })) l (and_from (a && b && c) d (and_from (a && b) c (and_from a b r.0 p.0) s) q.0)) q.1

-- ---- the body of a derivation

abbrev pub body : Derivation → List BodyLine
body d = names_and_steps d.names.eigens d.names.spares d.steps ++ last ∷ []

pub lines-of : (S : List Symbol) (es : List EigenName) (ss : List SpareName) (xs : List Step) → map (body_line_text S) (names_and_steps es ss xs) ≡ map eigen_line es ++ (map spare_line ss ++ map (step_line S) xs)
lines-of S es ss xs =
    map-append (body_line_text S) (map of_eigen es) (map of_spare ss ++ map of_step xs)
    ∙ ap (λ l. map (body_line_text S) (map of_eigen es) ++ l) (map-append (body_line_text S) (map of_spare ss) (map of_step xs))
    ∙ rw (map-twice of_eigen (body_line_text S) es, map-twice of_spare (body_line_text S) ss, map-twice of_step (body_line_text S) xs) refl

pub lines-body : (P : Problem) (d : Derivation) → derivation_lines P d ≡ head_lines P d.limit ++ map (body_line_text P.symbols) (body d)
lines-body P d =
    let es = map eigen_line d.names.eigens in
    let ss = map spare_line d.names.spares in
    let xs = map (step_line P.symbols) d.steps in
    let h = head_lines P d.limit in
    let e = codes "end" ∷ [] in
    regroup h es ss xs e
    ∙ ap (λ l. h ++ (l ++ e)) (sym (lines-of P.symbols d.names.eigens d.names.spares d.steps))
    ∙ ap (λ l. h ++ l) (sym (map-append (body_line_text P.symbols) (names_and_steps d.names.eigens d.names.spares d.steps) (last ∷ [])))
  where
    regroup : (h es ss xs e : List (List ℕ)) → h ++ (es ++ ss) ++ xs ++ e ≡ h ++ ((es ++ (ss ++ xs)) ++ e)
    regroup h es ss xs e = simp append_assoc

pub body-written : (P : Problem) (d : Derivation) → IsTrue (is_printable P d) → IsTrue (list_all (body_line_is_written P.symbols) (body d))
body-written P d h =
    let S = P.symbols in
    let p = parts P d h in
    let b = names_and_steps d.names.eigens d.names.spares d.steps in
    list_all-append (body_line_is_written S) b (last ∷ [])
    ∙ and_from (list_all (body_line_is_written S) b) (list_all (body_line_is_written S) (last ∷ [])) (written-parts S d.names.eigens d.names.spares d.steps ∙ and_from (list_all eigen_is_written d.names.eigens) (list_all spare_is_written d.names.spares && list_all (step_is_written S) d.steps) p.eigens (and_from (list_all spare_is_written d.names.spares) (list_all (step_is_written S) d.steps) p.spares p.steps)) refl

steps-run : (xs : List Step) → stage_after_lines (Some Steps) (map of_step xs ++ last ∷ []) ≡ Some Ended
steps-run [] = refl
steps-run (x ∷ xs) = steps-run xs

if-true : (b : Bool) (s : Stage) (xs : List BodyLine) → IsTrue b → stage_after_lines (if b then Some s else None) xs ≡ stage_after_lines (Some s) xs
if-true b s xs h = rw h refl

spares-run : (n : ℕ) (ss : List SpareName) (xs : List Step) → IsTrue (rises_from n (spare_numbers ss)) → stage_after_lines (Some (Spares n)) (map of_spare ss ++ (map of_step xs ++ last ∷ [])) ≡ Some Ended
spares-run n [] [] h = refl
spares-run n [] (x ∷ xs) h = steps-run xs
spares-run n (s ∷ ss) xs h =
    let p = and_parts (nat_lt n s.number) (rises_from s.number (spare_numbers ss)) h in
    if-true (nat_lt n s.number) (Spares s.number) (map of_spare ss ++ (map of_step xs ++ last ∷ [])) p.0 ∙ spares-run s.number ss xs p.1

first-run : (n : ℕ) (ss : List SpareName) (xs : List Step) → IsTrue (rises_from 0 (spare_numbers ss)) → stage_after_lines (Some (Eigens n)) (map of_spare ss ++ (map of_step xs ++ last ∷ [])) ≡ Some Ended
first-run n [] [] h = refl
first-run n [] (x ∷ xs) h = steps-run xs
first-run n (s ∷ ss) xs h =
    let p = and_parts (nat_lt 0 s.number) (rises_from s.number (spare_numbers ss)) h in
    if-true (nat_lt 0 s.number) (Spares s.number) (map of_spare ss ++ (map of_step xs ++ last ∷ [])) p.0 ∙ spares-run s.number ss xs p.1

eigens-run : (n : ℕ) (es : List EigenName) (ss : List SpareName) (xs : List Step) → IsTrue (rises_from n (eigen_numbers es)) → IsTrue (rises_from 0 (spare_numbers ss)) → stage_after_lines (Some (Eigens n)) (map of_eigen es ++ (map of_spare ss ++ (map of_step xs ++ last ∷ []))) ≡ Some Ended
eigens-run n [] ss xs h k = first-run n ss xs k
eigens-run n (x ∷ es) ss xs h k =
    let p = and_parts (nat_lt n x.number) (rises_from x.number (eigen_numbers es)) h in
    if-true (nat_lt n x.number) (Eigens x.number) (map of_eigen es ++ (map of_spare ss ++ (map of_step xs ++ last ∷ []))) p.0 ∙ eigens-run x.number es ss xs p.1 k

record Rising (d : Derivation) : Type 0 where
  eigens : IsTrue (rises_from 0 (eigen_numbers d.names.eigens))
  spares : IsTrue (rises_from 0 (spare_numbers d.names.spares))

rising : (P : Problem) (d : Derivation) → IsTrue (is_printable P d) → Rising d
rising P d h =
    let a = rises_from 0 (eigen_numbers d.names.eigens) in
    let b = list_all eigen_is_written d.names.eigens in
    let c = rises_from 0 (spare_numbers d.names.spares) in
    let e = list_all spare_is_written d.names.spares in
    let p = and_parts (is_limit d.limit) (names_are_written d.names) (and_parts (is_limit d.limit && names_are_written d.names) (list_all (step_is_written P.symbols) d.steps) h).0 in
    let q = and_parts (a && b) c (and_parts (a && b && c) e p.1).0 in
    record { eigens = (and_parts a b q.0).0; spares = q.1 }

pub body-ends : (P : Problem) (d : Derivation) → IsTrue (is_printable P d) → stage_after_lines (Some (Eigens 0)) (body d) ≡ Some Ended
body-ends P d h =
    let r = rising P d h in
    ap (stage_after_lines (Some (Eigens 0))) (append_assoc (map of_eigen d.names.eigens) (map of_spare d.names.spares ++ map of_step d.steps) (last ∷ []) ∙ ap (λ l. map of_eigen d.names.eigens ++ l) (append_assoc (map of_spare d.names.spares) (map of_step d.steps) (last ∷ [])))
    ∙ eigens-run 0 d.names.eigens d.names.spares d.steps r.eigens r.spares

-- ---- one value for a line

step-no_end : (S : List Symbol) (x : Step) → step_line S x ≡ codes "end" → ⊥
step-no_end S (apply_to n m t) e = differ-at _ _ 0 e refl
step-no_end S (close n k) e = differ-at _ _ 0 e refl

step-no_name : (S : List Symbol) (x : Step) (r : List ℕ) → step_line S x ≡ 110 ∷ r → ⊥
step-no_name S (apply_to n m t) r e = differ-at _ _ 0 e refl
step-no_name S (close n k) r e = differ-at _ _ 0 e refl

pub body_line-unique : (S : List Symbol) → IsTrue (are_distinct S) → (x y : BodyLine) → IsTrue (body_line_is_written S x) → IsTrue (body_line_is_written S y) → body_line_text S x ≡ body_line_text S y → x ≡ y
body_line-unique S d (of_eigen x) (of_eigen y) hx hy e = ap of_eigen (eigen-split x y [] [] hx hy (on-line (eigen_line x) (eigen_line y) e)).0
body_line-unique S d (of_eigen x) (of_spare y) hx hy e = absurd (differ-at _ _ 7 e refl)
body_line-unique S d (of_eigen x) (of_step y) hx hy e = absurd (step-no_name S y _ (sym e))
body_line-unique S d (of_eigen x) last hx hy e = absurd (differ-at _ _ 0 e refl)
body_line-unique S d (of_spare x) (of_eigen y) hx hy e = absurd (differ-at _ _ 7 e refl)
body_line-unique S d (of_spare x) (of_spare y) hx hy e = ap of_spare (spare-split x y [] [] hx hy (on-line (spare_line x) (spare_line y) e)).0
body_line-unique S d (of_spare x) (of_step y) hx hy e = absurd (step-no_name S y _ (sym e))
body_line-unique S d (of_spare x) last hx hy e = absurd (differ-at _ _ 0 e refl)
body_line-unique S d (of_step x) (of_eigen y) hx hy e = absurd (step-no_name S x _ e)
body_line-unique S d (of_step x) (of_spare y) hx hy e = absurd (step-no_name S x _ e)
body_line-unique S d (of_step x) (of_step y) hx hy e = ap of_step (step-split S d x y [] [] hx hy (on-line (step_line S x) (step_line S y) e)).0
body_line-unique S d (of_step x) last hx hy e = absurd (step-no_end S x e)
body_line-unique S d last (of_eigen y) hx hy e = absurd (differ-at _ _ 0 e refl)
body_line-unique S d last (of_spare y) hx hy e = absurd (differ-at _ _ 0 e refl)
body_line-unique S d last (of_step y) hx hy e = absurd (step-no_end S y (sym e))
body_line-unique S d last last hx hy e = refl

-- lines that begin with these are those of values that begin with these
pub body-begins : (S : List Symbol) → IsTrue (are_distinct S) → (xs ys : List BodyLine) (rest : List (List ℕ)) → IsTrue (list_all (body_line_is_written S) xs) → IsTrue (list_all (body_line_is_written S) ys) → map (body_line_text S) ys ≡ map (body_line_text S) xs ++ rest
    → (zs : List BodyLine) × (ys ≡ xs ++ zs) × (map (body_line_text S) zs ≡ rest) × IsTrue (list_all (body_line_is_written S) zs)
body-begins S d [] ys rest hx hy e = (ys, refl, e, hy)
body-begins S d (x ∷ xs) [] rest hx hy e = absurd (cc)
body-begins S d (x ∷ xs) (y ∷ ys) rest hx hy e =
    let px = and_parts (body_line_is_written S x) (list_all (body_line_is_written S) xs) hx in
    let py = and_parts (body_line_is_written S y) (list_all (body_line_is_written S) ys) hy in
    let h = cons-parts (body_line_text S y) (body_line_text S x) (map (body_line_text S) ys) (map (body_line_text S) xs ++ rest) e in
    let same = body_line-unique S d y x py.0 px.0 h.0 in
    let r = body-begins S d xs ys rest px.1 py.1 h.1 in
    (r.0, (λ i. same i ∷ r.1 i), r.2, r.3)

-- a line that may not stand here as one value may not as any
pub no-stage : (S : List Symbol) → IsTrue (are_distinct S) → (bytes : List ℕ) (y : BodyLine) (s : Stage) → IsBodyLine S bytes y → stage_after s y ≡ None → (x : BodyLine) → IsBodyLine S bytes x → stage_after s x ≡ None
no-stage S d bytes y s hy e x hx = ap (stage_after s) (body_line-unique S d x y hx.written hy.written (sym hx.same ∙ hy.same)) ∙ e
