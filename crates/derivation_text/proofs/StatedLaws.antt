-- The derivation that numbers state can be printed where the numbers can be written.
use Rattle.std.proofs.Common.{◌≡◌, ℕ, zero, suc, ◌^◌, ◌<◌, List, [], ◌∷◌, length, map, Bool, ◌&&◌, IsTrue, Option, None, Some, nat_le, refl, sym, ◌∙◌, ap, arith, leb-true, lt-ltb}
use Rattle.std.specs.List.{list_all}
use Rattle.std.proofs.lemmas.Bool.{and_from, and_parts, true≢false}
use Rattle.calculus.specs.declared.version.Version.TheVariants.{One, Two}
use Rattle.calculus.specs.Syntax.{Symbol, Term, spare, Problem}
use Rattle.calculus.specs.Derivations.{Label, EigenName, SpareName, Derivation}
use Rattle.calculus.specs.DerivationText.{home_is_written, is_limit, is_printable, label_is_written, modal_is_written, names_are_written, rises_from, step_is_written, term_arg_is_written, term_is_written}
use Rattle.calculus.specs.Text.{is_number}
use Rattle.calculus.specs.FirstWrong.{text_of}
use Rattle.calculus.specs.Versions.{IsTextIn, NumberedDerivation, NumberedEigen, NumberedSpare, NumberedModal, no_numbered_modal, to_number, by_character, NumberedTerm, no_numbered_term, by_number, by_eigen, NumberedStep, numbered_use, numbered_axiom, is_among, is_count, is_printable_in, is_written, numbered, numbered_eigen_is_written, numbered_home_is_written, numbered_modal_is_written, numbered_spare_is_written, numbered_step_is_written, numbered_term_is_written, numbered_texts, numbering, stated, stated_eigen, stated_home, stated_modal, stated_spare, stated_step, stated_term, text_in, IsNumberedText}
use Rattle.derivation_text.specs.Written.{eigen_is_written, spare_is_written}
use Rattle.derivation_text.proofs.NumberedEnds.{rising}
use Rattle.derivation_text.proofs.NumberedFeeds.{written-parts}

pub item-written : {A : Type 0} (f : A → Bool) (xs : List A) (k : ℕ) (d : A) → IsTrue (list_all f xs) → IsTrue (is_among (length xs) k) → IsTrue (f (numbered xs k d))
item-written f xs zero d h m = absurd (true≢false (sym m))
item-written {A} f xs (suc i) d h m = at xs i h (leb-true (suc i) (length xs) (and_parts (nat_le 1 (suc i)) (nat_le (suc i) (length xs)) m).1)
  where
    at : (xs : List A) (i : ℕ) → IsTrue (list_all f xs) → i < length xs → IsTrue (f (numbered xs (suc i) d))
    at [] i h lt = absurd (omega (arith, lt))
    at (x ∷ xs) zero h lt = (and_parts (f x) (list_all f xs) h).0
    at (x ∷ xs) (suc i) h lt = at xs i (and_parts (f x) (list_all f xs) h).1 (omega (arith, lt))

module _ (S : List Symbol) (L : List Label) (T : List Term) (labels : IsTrue (list_all label_is_written L)) (terms : IsTrue (list_all (term_is_written S) T)) where
  eigens-stated : (es : List NumberedEigen) → IsTrue (list_all (numbered_eigen_is_written (length L)) es) → IsTrue (list_all eigen_is_written (map (stated_eigen L) es))
  eigens-stated [] h = refl
  eigens-stated (e ∷ es) h =
      let p = and_parts (numbered_eigen_is_written (length L) e) (list_all (numbered_eigen_is_written (length L)) es) h in
      let q = and_parts (is_number e.number) (is_among (length L) e.home) p.0 in
      and_from (eigen_is_written (stated_eigen L e)) (list_all eigen_is_written (map (stated_eigen L) es)) (and_from (is_number e.number) (label_is_written (numbered L e.home [])) q.0 (item-written label_is_written L e.home [] labels q.1)) (eigens-stated es p.1)

  home-stated : (home : Option ℕ) → IsTrue (numbered_home_is_written (length L) home) → IsTrue (home_is_written (stated_home L home))
  home-stated None h = refl
  home-stated (Some k) h = item-written label_is_written L k [] labels h

  spares-stated : (ss : List NumberedSpare) → IsTrue (list_all (numbered_spare_is_written (length L)) ss) → IsTrue (list_all spare_is_written (map (stated_spare L) ss))
  spares-stated [] h = refl
  spares-stated (s ∷ ss) h =
      let p = and_parts (numbered_spare_is_written (length L) s) (list_all (numbered_spare_is_written (length L)) ss) h in
      let q = and_parts (is_number s.number) (numbered_home_is_written (length L) s.home) p.0 in
      and_from (spare_is_written (stated_spare L s)) (list_all spare_is_written (map (stated_spare L) ss)) (and_from (is_number s.number) (home_is_written (stated_home L s.home)) q.0 (home-stated s.home q.1)) (spares-stated ss p.1)

  modal-stated : (m : NumberedModal) → IsTrue (numbered_modal_is_written (length L) m) → IsTrue (modal_is_written (stated_modal L m))
  modal-stated no_numbered_modal h = refl
  modal-stated (to_number k) h = item-written label_is_written L k [] labels h
  modal-stated (by_character k) h = h

  arg-stated : (t : NumberedTerm) → IsTrue (numbered_term_is_written (length T) t) → IsTrue (term_arg_is_written S (stated_term T t))
  arg-stated no_numbered_term h = refl
  arg-stated (by_number k) h = item-written (term_is_written S) T k (spare 0) terms h
  arg-stated (by_eigen k) h = h

  step-stated : (x : NumberedStep) → IsTrue (numbered_step_is_written (length L) (length T) x) → IsTrue (step_is_written S (stated_step L T x))
  step-stated (numbered_axiom n k) h = h
  step-stated (numbered_use n m t) h =
      let p = and_parts (is_number n && numbered_modal_is_written (length L) m) (numbered_term_is_written (length T) t) h in
      let q = and_parts (is_number n) (numbered_modal_is_written (length L) m) p.0 in
      and_from (is_number n && modal_is_written (stated_modal L m)) (term_arg_is_written S (stated_term T t)) (and_from (is_number n) (modal_is_written (stated_modal L m)) q.0 (modal-stated m q.1)) (arg-stated t p.1)

  steps-stated : (xs : List NumberedStep) → IsTrue (list_all (numbered_step_is_written (length L) (length T)) xs) → IsTrue (list_all (step_is_written S) (map (stated_step L T) xs))
  steps-stated [] h = refl
  steps-stated (x ∷ xs) h =
      let p = and_parts (numbered_step_is_written (length L) (length T) x) (list_all (numbered_step_is_written (length L) (length T)) xs) h in
      and_from (step_is_written S (stated_step L T x)) (list_all (step_is_written S) (map (stated_step L T) xs)) (step-stated x p.0) (steps-stated xs p.1)

eigen-numbers : (L : List Label) (es : List NumberedEigen) → map (λ (x : EigenName). x.number) (map (stated_eigen L) es) ≡ map (λ (y : NumberedEigen). y.number) es
eigen-numbers L [] = refl
eigen-numbers L (e ∷ es) = ap (λ ns. e.number ∷ ns) (eigen-numbers L es)

spare-numbers : (L : List Label) (ss : List NumberedSpare) → map (λ (x : SpareName). x.number) (map (stated_spare L) ss) ≡ map (λ (y : NumberedSpare). y.number) ss
spare-numbers L [] = refl
spare-numbers L (s ∷ ss) = ap (λ ns. s.number ∷ ns) (spare-numbers L ss)

pub stated-printable : (P : Problem) (x : NumberedDerivation) → IsTrue (is_written P x) → IsTrue (is_printable P (stated x))
stated-printable P x h =
    let S = P.symbols in
    let d = stated x in
    let p = written-parts P x h in
    let r = rising P x h in
    let re = ap (rises_from 0) (eigen-numbers x.labels x.eigens) ∙ r.eigens in
    let rs = ap (rises_from 0) (spare-numbers x.labels x.spares) ∙ r.spares in
    let es = eigens-stated S x.labels x.terms p.labels p.terms x.eigens p.eigens in
    let ss = spares-stated S x.labels x.terms p.labels p.terms x.spares p.spares in
    let eigens_rise = rises_from 0 (map (λ (y : EigenName). y.number) d.names.eigens) in
    let spares_rise = rises_from 0 (map (λ (y : SpareName). y.number) d.names.spares) in
    let eigens_are = list_all eigen_is_written d.names.eigens in
    let spares_are = list_all spare_is_written d.names.spares in
    and_from (is_limit d.limit && names_are_written d.names) (list_all (step_is_written S) d.steps)
    (and_from (is_limit d.limit) (names_are_written d.names) p.limit
    (and_from (eigens_rise && eigens_are && spares_rise) spares_are
    (and_from (eigens_rise && eigens_are) spares_rise
    (and_from eigens_rise eigens_are re es) rs) ss))
    (steps-stated S x.labels x.terms p.labels p.terms x.steps p.steps)

-- ---- texts of version 2

pub printable-two : (P : Problem) (x : NumberedDerivation) → x ≡ numbering (stated x) → IsTrue (is_count (length x.labels)) → IsTrue (is_count (length x.terms)) → IsTrue (is_printable P (stated x)) → IsTrue (is_printable_in Two P (stated x))
printable-two P x n labels terms h =
    let y = numbering (stated x) in
    and_from (is_printable P (stated x)) (is_count (length y.labels) && is_count (length y.terms)) h
    (and_from (is_count (length y.labels)) (is_count (length y.terms)) (ap (λ (z : NumberedDerivation). is_count (length z.labels)) (sym n) ∙ labels) (ap (λ (z : NumberedDerivation). is_count (length z.terms)) (sym n) ∙ terms))

-- numbers in order, in form
pub text-two : (P : Problem) (x : NumberedDerivation) (bytes : List ℕ) → IsNumberedText P x bytes → x ≡ numbering (stated x) → IsTextIn Two P (stated x) bytes
text-two P x bytes t n =
    let p = written-parts P x t.printable in
    record {
      printable = printable-two P x n p.label_count p.term_count (stated-printable P x t.printable);
      text = t.text ∙ ap (text_of (numbered_texts P)) n;
    }

-- that are written
pub text-two_written : (P : Problem) (x : NumberedDerivation) (bytes : List ℕ) → x ≡ numbering (stated x) → length x.labels < 2 ^ 64 → length x.terms < 2 ^ 64 → IsTrue (is_printable P (stated x)) → bytes ≡ text_of (numbered_texts P) x → IsTextIn Two P (stated x) bytes
text-two_written P x bytes n labels terms h t = record {
  printable = printable-two P x n (lt-ltb (length x.labels) (2 ^ 64) labels) (lt-ltb (length x.terms) (2 ^ 64) terms) h;
  text = t ∙ ap (text_of (numbered_texts P)) n;
}

pub text-one_written : (P : Problem) (d : Derivation) (bytes : List ℕ) → IsTrue (is_printable P d) → bytes ≡ text_in One P d → IsTextIn One P d bytes
text-one_written P d bytes h t = record { printable = h; text = t }
