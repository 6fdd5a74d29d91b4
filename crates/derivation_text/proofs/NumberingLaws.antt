-- A derivation with numbers in place of its labels and terms, line by line: what was read so far has its numbers, and the next line is put
-- behind it.
use Rattle.std.proofs.Common.{◌≡◌, List, [], ◌∷◌, ◌++◌, map, IsTrue, Some, refl, sym, ◌∙◌, ap, append-nil, append_assoc, flat_map}
use Rattle.std.specs.List.{list_all}
use Rattle.std.proofs.lemmas.Bool.{and_parts}
use Rattle.std.proofs.lemmas.List.{map-append}
use Rattle.std.proofs.lemmas.List.Folds.{list_all-append}
use Rattle.plain_laws.proofs.Lists.{flat-last}
use Rattle.calculus.proofs.EqualityLaws.{Tells, character_eq-tells, list_eq-tells, term_eq-tells}
use Rattle.calculus.specs.Equality.{term_eq}
use Rattle.calculus.specs.Syntax.{Term}
use Rattle.calculus.specs.Derivations.{character_eq, Label, Home, anywhere, home_at, EigenName, SpareName, ModalArg, no_modal, to, by_new, TermArg, no_term, by_term, by_name, Step, apply_to, close, Derivation}
use Rattle.calculus.specs.Versions.{arg_terms, by_number, home_labels, home_number, labels_of, modal_labels, numbered_arg, numbered_axiom, numbered_by, numbered_eigen, numbered_modal, numbered_spare, numbered_step, numbered_use, numbering, once, same_label, step_labels, step_terms, terms_of, to_number}
use Rattle.derivation_text.specs.Body.{BodyLine, of_eigen, of_spare, of_step, last, stage_after}
use Rattle.derivation_text.specs.Entering.{has, put_eigen, put_line, put_spare, put_step, with_arg, with_home, with_label, with_modal}
use Rattle.derivation_text.specs.Reading.{Fits, with_line}
use Rattle.derivation_text.specs.declared.body_line.Stage.{Stage}
use Rattle.derivation_text.specs.declared.body_line.Stage.TheVariants.{Eigens, Spares, Steps, Ended}
use Rattle.derivation_text.proofs.OnceLaws.{Grows, all-once, entered-grows, grows-same, number-kept, once-end}

pub same_label-tells : Tells same_label
same_label-tells = list_eq-tells character_eq character_eq-tells

-- ---- the numbers of names and steps stay as the lists grow

grown-eigens : (L M : List Label) → Grows L M → (xs : List EigenName) → IsTrue (list_all (has same_label L) (map (λ (x : EigenName). x.home) xs)) → map (numbered_eigen M) xs ≡ map (numbered_eigen L) xs
grown-eigens L M g [] h = refl
grown-eigens L M g (x ∷ xs) h =
    let p = and_parts (has same_label L x.home) (list_all (has same_label L) (map (λ (y : EigenName). y.home) xs)) h in
    λ i. record { number = x.number; home = number-kept same_label L M x.home g p.0 i } ∷ grown-eigens L M g xs p.1 i

grown-home : (L M : List Label) → Grows L M → (home : Home) (rest : List Label) → IsTrue (list_all (has same_label L) (home_labels home ++ rest)) → (home_number M home ≡ home_number L home) × IsTrue (list_all (has same_label L) rest)
grown-home L M g anywhere rest h = (refl, h)
grown-home L M g (home_at w) rest h =
    let p = and_parts (has same_label L w) (list_all (has same_label L) rest) h in
    (ap Some (number-kept same_label L M w g p.0), p.1)

grown-spares : (L M : List Label) → Grows L M → (xs : List SpareName) → IsTrue (list_all (has same_label L) (flat_map (λ (x : SpareName). home_labels x.home) xs)) → map (numbered_spare M) xs ≡ map (numbered_spare L) xs
grown-spares L M g [] h = refl
grown-spares L M g (x ∷ xs) h =
    let p = grown-home L M g x.home (flat_map (λ (y : SpareName). home_labels y.home) xs) h in
    λ i. record { number = x.number; home = p.0 i } ∷ grown-spares L M g xs p.1 i

grown-modal : (L M : List Label) → Grows L M → (m : ModalArg) (rest : List Label) → IsTrue (list_all (has same_label L) (modal_labels m ++ rest)) → (numbered_modal M m ≡ numbered_modal L m) × IsTrue (list_all (has same_label L) rest)
grown-modal L M g no_modal rest h = (refl, h)
grown-modal L M g (by_new n) rest h = (refl, h)
grown-modal L M g (to w) rest h =
    let p = and_parts (has same_label L w) (list_all (has same_label L) rest) h in
    (ap to_number (number-kept same_label L M w g p.0), p.1)

grown-arg : (T U : List Term) → Grows T U → (t : TermArg) (rest : List Term) → IsTrue (list_all (has term_eq T) (arg_terms t ++ rest)) → (numbered_arg U t ≡ numbered_arg T t) × IsTrue (list_all (has term_eq T) rest)
grown-arg T U g no_term rest h = (refl, h)
grown-arg T U g (by_name n) rest h = (refl, h)
grown-arg T U g (by_term t) rest h =
    let p = and_parts (has term_eq T t) (list_all (has term_eq T) rest) h in
    (ap by_number (number-kept term_eq T U t g p.0), p.1)

grown-steps : (L M : List Label) (T U : List Term) → Grows L M → Grows T U → (xs : List Step) → IsTrue (list_all (has same_label L) (flat_map step_labels xs)) → IsTrue (list_all (has term_eq T) (flat_map step_terms xs)) → map (numbered_step M U) xs ≡ map (numbered_step L T) xs
grown-steps L M T U g k [] h j = refl
grown-steps L M T U g k (close n m ∷ xs) h j = ap (λ ys. numbered_axiom n m ∷ ys) (grown-steps L M T U g k xs h j)
grown-steps L M T U g k (apply_to n m t ∷ xs) h j =
    let a = grown-modal L M g m (flat_map step_labels xs) h in
    let b = grown-arg T U k t (flat_map step_terms xs) j in
    λ i. numbered_use n (a.0 i) (b.0 i) ∷ grown-steps L M T U g k xs a.1 b.1 i

-- ---- what the lists hold

-- the labels and terms of a derivation are those of the lists
record AreIn (d : Derivation) (L : List Label) (T : List Term) : Type 0 where
  eigens : IsTrue (list_all (has same_label L) (map (λ (x : EigenName). x.home) d.names.eigens))
  spares : IsTrue (list_all (has same_label L) (flat_map (λ (x : SpareName). home_labels x.home) d.names.spares))
  steps : IsTrue (list_all (has same_label L) (flat_map step_labels d.steps))
  terms : IsTrue (list_all (has term_eq T) (flat_map step_terms d.steps))

are-in : (d : Derivation) → AreIn d (once same_label (labels_of d)) (once term_eq (terms_of d))
are-in d =
    let L = once same_label (labels_of d) in
    let es = map (λ (x : EigenName). x.home) d.names.eigens in
    let ss = flat_map (λ (x : SpareName). home_labels x.home) d.names.spares in
    let xs = flat_map step_labels d.steps in
    let p = and_parts (list_all (has same_label L) (es ++ ss)) (list_all (has same_label L) xs) (sym (list_all-append (has same_label L) (es ++ ss) xs) ∙ all-once same_label same_label-tells (labels_of d)) in
    let q = and_parts (list_all (has same_label L) es) (list_all (has same_label L) ss) (sym (list_all-append (has same_label L) es ss) ∙ p.0) in
    record { eigens = q.0; spares = q.1; steps = p.1; terms = all-once term_eq term_eq-tells (terms_of d) }

once-home : (xs : List Label) (home : Home) → once same_label (xs ++ home_labels home) ≡ with_home (once same_label xs) home
once-home xs anywhere = ap (once same_label) (append-nil xs)
once-home xs (home_at w) = once-end same_label same_label-tells xs w

home-grows : (L : List Label) (home : Home) → Grows L (with_home L home)
home-grows L anywhere = grows-same L
home-grows L (home_at w) = entered-grows same_label L w

once-modal : (xs : List Label) (m : ModalArg) → once same_label (xs ++ modal_labels m) ≡ with_modal (once same_label xs) m
once-modal xs no_modal = ap (once same_label) (append-nil xs)
once-modal xs (to w) = once-end same_label same_label-tells xs w
once-modal xs (by_new n) = ap (once same_label) (append-nil xs)

modal-grows : (L : List Label) (m : ModalArg) → Grows L (with_modal L m)
modal-grows L no_modal = grows-same L
modal-grows L (to w) = entered-grows same_label L w
modal-grows L (by_new n) = grows-same L

once-arg : (xs : List Term) (t : TermArg) → once term_eq (xs ++ arg_terms t) ≡ with_arg (once term_eq xs) t
once-arg xs no_term = ap (once term_eq) (append-nil xs)
once-arg xs (by_term t) = once-end term_eq term_eq-tells xs t
once-arg xs (by_name n) = ap (once term_eq) (append-nil xs)

arg-grows : (T : List Term) (t : TermArg) → Grows T (with_arg T t)
arg-grows T no_term = grows-same T
arg-grows T (by_term t) = entered-grows term_eq T t
arg-grows T (by_name n) = grows-same T

-- ---- the labels and terms of a derivation with one line more

both-nil : (ys : List Label) → (ys ++ []) ++ [] ≡ ys
both-nil ys = append-nil (ys ++ []) ∙ append-nil ys

eigen-labels : (es : List EigenName) (ss : List SpareName) (xs : List Step) (x : EigenName) → ss ≡ [] → xs ≡ []
    → (map (λ (y : EigenName). y.home) (es ++ x ∷ []) ++ flat_map (λ (y : SpareName). home_labels y.home) ss) ++ flat_map step_labels xs ≡ ((map (λ (y : EigenName). y.home) es ++ flat_map (λ (y : SpareName). home_labels y.home) ss) ++ flat_map step_labels xs) ++ x.home ∷ []
eigen-labels es ss xs x e f =
    (λ i. (map (λ (y : EigenName). y.home) (es ++ x ∷ []) ++ flat_map (λ (y : SpareName). home_labels y.home) (e i)) ++ flat_map step_labels (f i))
    ∙ both-nil (map (λ (y : EigenName). y.home) (es ++ x ∷ [])) ∙ map-append (λ (y : EigenName). y.home) es (x ∷ [])
    ∙ ap (λ l. l ++ x.home ∷ []) (sym (both-nil (map (λ (y : EigenName). y.home) es)) ∙ (λ i. (map (λ (y : EigenName). y.home) es ++ flat_map (λ (y : SpareName). home_labels y.home) (sym e i)) ++ flat_map step_labels (sym f i)))

spare-labels : (front : List Label) (ss : List SpareName) (xs : List Step) (s : SpareName) → xs ≡ []
    → (front ++ flat_map (λ (y : SpareName). home_labels y.home) (ss ++ s ∷ [])) ++ flat_map step_labels xs ≡ ((front ++ flat_map (λ (y : SpareName). home_labels y.home) ss) ++ flat_map step_labels xs) ++ home_labels s.home
spare-labels front ss xs s f =
    (λ i. (front ++ flat_map (λ (y : SpareName). home_labels y.home) (ss ++ s ∷ [])) ++ flat_map step_labels (f i)) ∙ append-nil (front ++ flat_map (λ (y : SpareName). home_labels y.home) (ss ++ s ∷ []))
    ∙ ap (λ l. front ++ l) (flat-last (λ (y : SpareName). home_labels y.home) ss s) ∙ sym (append_assoc front (flat_map (λ (y : SpareName). home_labels y.home) ss) (home_labels s.home))
    ∙ ap (λ l. l ++ home_labels s.home) (sym (append-nil (front ++ flat_map (λ (y : SpareName). home_labels y.home) ss)) ∙ (λ i. (front ++ flat_map (λ (y : SpareName). home_labels y.home) ss) ++ flat_map step_labels (sym f i)))

step-end-labels : (front : List Label) (xs : List Step) (y : Step) → front ++ flat_map step_labels (xs ++ y ∷ []) ≡ (front ++ flat_map step_labels xs) ++ step_labels y
step-end-labels front xs y = ap (λ l. front ++ l) (flat-last step_labels xs y) ∙ sym (append_assoc front (flat_map step_labels xs) (step_labels y))

-- ---- one line more

pub put-eigen : (d : Derivation) (x : EigenName) → d.names.spares ≡ [] → d.steps ≡ [] → put_eigen (numbering d) x ≡ numbering (with_line d (of_eigen x))
put-eigen d x e f =
    let L = once same_label (labels_of d) in
    let T = once term_eq (terms_of d) in
    let M = with_label L x.home in
    let g = entered-grows same_label L x.home in
    let k = are-in d in
    let eigens = ap (λ l. l ++ numbered_eigen M x ∷ []) (sym (grown-eigens L M g d.names.eigens k.eigens)) ∙ sym (map-append (numbered_eigen M) d.names.eigens (x ∷ [])) in
    let spares = sym (grown-spares L M g d.names.spares k.spares) in
    let steps = sym (grown-steps L M T T g (grows-same T) d.steps k.steps k.terms) in
    let same = ap (once same_label) (eigen-labels d.names.eigens d.names.spares d.steps x e f) ∙ once-end same_label same_label-tells (labels_of d) x.home in
    (λ i. record { limit = d.limit; labels = M; eigens = eigens i; spares = spares i; terms = T; steps = steps i })
    ∙ ap (λ l. numbered_by l T (with_line d (of_eigen x))) (sym same)

pub put-spare : (d : Derivation) (s : SpareName) → d.steps ≡ [] → put_spare (numbering d) s ≡ numbering (with_line d (of_spare s))
put-spare d s f =
    let L = once same_label (labels_of d) in
    let T = once term_eq (terms_of d) in
    let M = with_home L s.home in
    let g = home-grows L s.home in
    let k = are-in d in
    let eigens = sym (grown-eigens L M g d.names.eigens k.eigens) in
    let spares = ap (λ l. l ++ numbered_spare M s ∷ []) (sym (grown-spares L M g d.names.spares k.spares)) ∙ sym (map-append (numbered_spare M) d.names.spares (s ∷ [])) in
    let steps = sym (grown-steps L M T T g (grows-same T) d.steps k.steps k.terms) in
    let same = ap (once same_label) (spare-labels (map (λ (x : EigenName). x.home) d.names.eigens) d.names.spares d.steps s f) ∙ once-home (labels_of d) s.home in
    (λ i. record { limit = d.limit; labels = M; eigens = eigens i; spares = spares i; terms = T; steps = steps i })
    ∙ ap (λ l. numbered_by l T (with_line d (of_spare s))) (sym same)

pub put-step : (d : Derivation) (y : Step) → put_step (numbering d) y ≡ numbering (with_line d (of_step y))
put-step d (close n m) =
    let L = once same_label (labels_of d) in
    let T = once term_eq (terms_of d) in
    let front = map (λ (x : EigenName). x.home) d.names.eigens ++ flat_map (λ (x : SpareName). home_labels x.home) d.names.spares in
    let labels = ap (once same_label) (step-end-labels front d.steps (close n m) ∙ append-nil (labels_of d)) in
    let terms = ap (once term_eq) (flat-last step_terms d.steps (close n m) ∙ append-nil (terms_of d)) in
    let steps = sym (map-append (numbered_step L T) d.steps (close n m ∷ [])) in
    (λ i. record { limit = d.limit; labels = L; eigens = map (numbered_eigen L) d.names.eigens; spares = map (numbered_spare L) d.names.spares; terms = T; steps = steps i })
    ∙ (λ i. numbered_by (sym labels i) (sym terms i) (with_line d (of_step (close n m))))
put-step d (apply_to n m t) =
    let L = once same_label (labels_of d) in
    let T = once term_eq (terms_of d) in
    let M = with_modal L m in
    let U = with_arg T t in
    let g = modal-grows L m in
    let j = arg-grows T t in
    let k = are-in d in
    let y = apply_to n m t in
    let front = map (λ (x : EigenName). x.home) d.names.eigens ++ flat_map (λ (x : SpareName). home_labels x.home) d.names.spares in
    let eigens = sym (grown-eigens L M g d.names.eigens k.eigens) in
    let spares = sym (grown-spares L M g d.names.spares k.spares) in
    let steps = ap (λ l. l ++ numbered_step M U y ∷ []) (sym (grown-steps L M T U g j d.steps k.steps k.terms)) ∙ sym (map-append (numbered_step M U) d.steps (y ∷ [])) in
    let labels = ap (once same_label) (step-end-labels front d.steps y) ∙ once-modal (labels_of d) m in
    let terms = ap (once term_eq) (flat-last step_terms d.steps y) ∙ once-arg (terms_of d) t in
    (λ i. record { limit = d.limit; labels = M; eigens = eigens i; spares = spares i; terms = U; steps = steps i })
    ∙ (λ i. numbered_by (sym labels i) (sym terms i) (with_line d (of_step y)))

-- the line that may stand next
pub put-line : (d : Derivation) (s next : Stage) (l : BodyLine) → Fits s d → stage_after s l ≡ Some next → put_line (numbering d) l ≡ numbering (with_line d l)
put-line d (Eigens n) next (of_eigen x) h e = put-eigen d x h.0 h.1
put-line d (Spares n) next (of_eigen x) h e = absurd (cc e)
put-line d Steps next (of_eigen x) h e = absurd (cc e)
put-line d Ended next (of_eigen x) h e = absurd (cc e)
put-line d (Eigens n) next (of_spare s) h e = put-spare d s h.1
put-line d (Spares n) next (of_spare s) h e = put-spare d s h
put-line d Steps next (of_spare s) h e = absurd (cc e)
put-line d Ended next (of_spare s) h e = absurd (cc e)
put-line d s next (of_step y) h e = put-step d y
put-line d s next last h e = refl
