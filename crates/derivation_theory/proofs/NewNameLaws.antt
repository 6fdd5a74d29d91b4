-- A new eigenvariable or character gets its meaning: the names stay proper, and the entries of the sequent stay at their places.
use Rattle.std.proofs.Common.{◌≡◌, ℕ, List, [], ◌∷◌, ◌++◌, length, false, ◌||◌, ◌==◌, Option, Some, None, IsTrue, refl, sym, ◌∙◌, ap, subst, inl, inr, if◌then◌else◌}
use Rattle.std.specs.List.{list_all}
use Rattle.std.specs.Option.{option_map_or}
use Rattle.std.proofs.lemmas.Bool.{or_parts, cases_Bool, eqb-true}
use Rattle.plain_laws.proofs.Every.{all-append}
use Rattle.calculus.specs.Syntax.{Problem}
use Rattle.calculus.specs.Ground.{GroundTerm, GroundMark, own, marks_tree}
use Rattle.calculus.specs.Equality.{mark_eq}
use Rattle.calculus.specs.Labels.{home_allows}
use Rattle.calculus.specs.Lists.{marks_list-marks_tree}
use Rattle.calculus.specs.Substitution.{any_leaf_in}
use Rattle.calculus.specs.Skolem.{is_admitted_mark}
use Rattle.calculus.specs.Derivations.{Mark, Label, character_eq, Home, anywhere, home_at, EigenName, SpareName, Names, Entry, Sequent}
use Rattle.calculus.specs.Calculus.{eigen_named, spare_named, holds_character, home_holds, is_in_home, is_eigen, character_occurs, eigen_occurs}
use Rattle.calculus.proofs.EqualityLaws.{character_eq-tells}
use Rattle.calculus.proofs.SpotLaws.{proper-marks}
use Rattle.derivation_theory.proofs.Places.{Place}
use Rattle.derivation_theory.proofs.Meanings.{Meaning, label_means, is_intuitionistic, MeansLabel, HasHome, HasSpareHome, IsProper, StandsAt, StandAt}
use Rattle.derivation_theory.proofs.SaysLaws.{Keeps, says-stays}

-- ---- a spare constant of a label

pub admitted-label : (P : Problem) (f : Mark → List GroundMark) → ((m : Mark) → IsTrue (list_all (is_admitted_mark P) (f m))) → (w : Label) → IsTrue (list_all (is_admitted_mark P) (label_means f w))
admitted-label P f h [] = refl
admitted-label P f h (m ∷ w) = all-append (is_admitted_mark P) (f m) (label_means f w) (h m) (admitted-label P f h w)

pub own-home : (P : Problem) (f : Mark → List GroundMark) → ((m : Mark) → IsTrue (list_all (is_admitted_mark P) (f m))) → (w : Label) → HasHome P (label_means f w) (own 0 (marks_tree (label_means f w)))
own-home P f h w = record {
  admitted = proper-marks P (marks_tree (label_means f w)) ∙ ap (list_all (is_admitted_mark P)) (marks_list-marks_tree (label_means f w)) ∙ admitted-label P f h w;
  allowed = λ v k. ap (λ z. home_allows mark_eq P.setting.domains z v) (marks_list-marks_tree (label_means f w)) ∙ k;
}

-- ---- a new character

abbrev pub mark_with : Mark → List GroundMark → (Mark → List GroundMark) → Mark → List GroundMark
mark_with m g f k = if character_eq m k then g else f k

pub label-stays : (m : Mark) (g : List GroundMark) (f : Mark → List GroundMark) (w : Label) → holds_character m w ≡ false → label_means (mark_with m g f) w ≡ label_means f w
label-stays m g f [] h = refl
label-stays m g f (k ∷ w) h = let e = or_parts (character_eq m k) (holds_character m w) h in λ i. (ap (λ b. if b then g else f k) e.0 i) ++ label-stays m g f w e.1 i

pub mark-itself : (m : Mark) (g : List GroundMark) (f : Mark → List GroundMark) → mark_with m g f m ≡ g
mark-itself m g f = ap (λ b. if b then g else f m) ((character_eq-tells m m).1 refl)

abbrev pub eigen_by : Mark → (Mark → List GroundMark) → GroundTerm → Option EigenName → GroundTerm
eigen_by m f t None = t
eigen_by m f t (Some x) = if holds_character m x.home then own 0 (marks_tree (label_means f x.home)) else t

abbrev pub spare_by_home : Mark → (Mark → List GroundMark) → GroundTerm → Home → GroundTerm
spare_by_home m f t anywhere = t
spare_by_home m f t (home_at w) = if holds_character m w then own 0 (marks_tree (label_means f w)) else t

abbrev pub spare_by : Mark → (Mark → List GroundMark) → GroundTerm → Option SpareName → GroundTerm
spare_by m f t None = t
spare_by m f t (Some x) = spare_by_home m f t x.home

abbrev pub with_mark : Names → Mark → List GroundMark → Meaning → Meaning
with_mark names m g r = record {
  eigens = λ n. eigen_by m (mark_with m g r.marks) (r.eigens n) (eigen_named names n);
  spares = λ n. spare_by m (mark_with m g r.marks) (r.spares n) (spare_named names n);
  marks = mark_with m g r.marks;
}

pub with_mark-proper : (P : Problem) (names : Names) (m : Mark) (g : List GroundMark) (r : Meaning) → IsTrue (list_all (is_admitted_mark P) g) → (is_intuitionistic P.setting.logic ≡ false → length g ≡ 1) → IsProper P names r → IsProper P names (with_mark names m g r)
with_mark-proper P names m g r good one ok = record { marks = marks; single = single; eigens = λ n x e. subst (λ o. HasHome P (label_means f x.home) (eigen_by m f (r.eigens n) o)) (sym e) (eigen n x (ok.eigens n x e)); spares = λ n x e. subst (λ o. HasSpareHome P (with_mark names m g r) x.home (spare_by m f (r.spares n) o)) (sym e) (spare x.home (r.spares n) (ok.spares n x e)) }
  where
    f : Mark → List GroundMark
    f = mark_with m g r.marks

    single : is_intuitionistic P.setting.logic ≡ false → (k : Mark) → length (mark_with m g r.marks k) ≡ 1
    single l k = elim (cases_Bool (character_eq m k)) [
      | inl e ↦ rw e (one l)
      | inr e ↦ rw e (ok.single l k)
    ]

    marks : (k : Mark) → IsTrue (list_all (is_admitted_mark P) (mark_with m g r.marks k))
    marks k = elim (cases_Bool (character_eq m k)) [
      | inl e ↦ rw e good
      | inr e ↦ rw e (ok.marks k)
    ]

    eigen : (n : ℕ) (x : EigenName) → HasHome P (label_means r.marks x.home) (r.eigens n) → HasHome P (label_means (mark_with m g r.marks) x.home) (if holds_character m x.home then own 0 (marks_tree (label_means (mark_with m g r.marks) x.home)) else r.eigens n)
    eigen n x h = elim (cases_Bool (holds_character m x.home)) [
      | inl e ↦ rw e (own-home P (mark_with m g r.marks) marks x.home)
      | inr e ↦ rw e (subst (λ w. HasHome P w (r.eigens n)) (sym (label-stays m g r.marks x.home e)) h)
    ]

    spare : (h : Home) (t : GroundTerm) → HasSpareHome P r h t → HasSpareHome P (with_mark names m g r) h (spare_by_home m (mark_with m g r.marks) t h)
    spare anywhere t h = h
    spare (home_at w) t h = elim (cases_Bool (holds_character m w)) [
      | inl e ↦ rw e (own-home P (mark_with m g r.marks) marks w)
      | inr e ↦ rw e (subst (λ v. HasHome P v t) (sym (label-stays m g r.marks w e)) h)
    ]

with_mark-keeps : (names : Names) (m : Mark) (g : List GroundMark) (r : Meaning) → Keeps (is_in_home names m) r (with_mark names m g r)
with_mark-keeps names m g r = record { eigens = λ n h. eigen (r.eigens n) (eigen_named names n) h; spares = λ n h. spare (r.spares n) (spare_named names n) h }
  where
    eigen : (t : GroundTerm) (o : Option EigenName) → option_map_or (λ (x : EigenName). holds_character m x.home) o false ≡ false → t ≡ eigen_by m (mark_with m g r.marks) t o
    eigen t None h = refl
    eigen t (Some x) h = rw h refl

    spare : (t : GroundTerm) (o : Option SpareName) → option_map_or (λ (x : SpareName). home_holds m x.home) o false ≡ false → t ≡ spare_by m (mark_with m g r.marks) t o
    spare t None h = refl
    spare t (Some x) h = home x.home h
      where
        home : (w : Home) → home_holds m w ≡ false → t ≡ spare_by_home m (mark_with m g r.marks) t w
        home anywhere h = refl
        home (home_at w) h = rw h refl

pub with_mark-stands : (P : Problem) (names : Names) (m : Mark) (g : List GroundMark) (r : Meaning) (e : Entry) (p : Place) → (holds_character m e.label || any_leaf_in (is_in_home names m) e.formula) ≡ false → StandsAt P r e p → StandsAt P (with_mark names m g r) e p
with_mark-stands P names m g r e p h st =
    let k = or_parts (holds_character m e.label) (any_leaf_in (is_in_home names m) e.formula) h in
    record { sign = st.sign; label = subst (MeansLabel P p) (sym (label-stays m g r.marks e.label k.0)) st.label; says = says-stays (is_in_home names m) r (with_mark names m g r) (with_mark-keeps names m g r) st.says k.1; before = st.before; stands = st.stands; admitted = st.admitted }

pub with_mark-stand : (P : Problem) (names : Names) (m : Mark) (g : List GroundMark) (r : Meaning) (s : Sequent) (ps : List Place) → character_occurs names m s ≡ false → StandAt P r s ps → StandAt P (with_mark names m g r) s ps
with_mark-stand P names m g r [] [] h st = tt
with_mark-stand P names m g r [] (p ∷ ps) h st = absurd st
with_mark-stand P names m g r (e ∷ s) [] h st = absurd st
with_mark-stand P names m g r (e ∷ s) (p ∷ ps) h st = let k = or_parts (holds_character m e.label || any_leaf_in (is_in_home names m) e.formula) (character_occurs names m s) h in (with_mark-stands P names m g r e p k.0 st.0, with_mark-stand P names m g r s ps k.1 st.1)

-- ---- a new eigenvariable

abbrev pub with_eigen : ℕ → GroundTerm → Meaning → Meaning
with_eigen n t r = record { eigens = λ k. if n == k then t else r.eigens k; spares = r.spares; marks = r.marks }

pub with_eigen-proper : (P : Problem) (names : Names) (n : ℕ) (t : GroundTerm) (r : Meaning) → ((x : EigenName) → eigen_named names n ≡ Some x → HasHome P (label_means r.marks x.home) t) → IsProper P names r → IsProper P names (with_eigen n t r)
with_eigen-proper P names n t r h ok = record {
  marks = ok.marks;
  single = ok.single;
  eigens = λ k x e. elim (cases_Bool (n == k)) [
    | inl same ↦ rw same (h x (ap (eigen_named names) (eqb-true n k same) ∙ e))
    | inr other ↦ rw other (ok.eigens k x e)
  ];
  spares = λ k x e. spare x.home (r.spares k) (ok.spares k x e);
}
  where
    spare : (w : Home) (u : GroundTerm) → HasSpareHome P r w u → HasSpareHome P (with_eigen n t r) w u
    spare anywhere u k = k
    spare (home_at v) u k = k

pub with_eigen-keeps : (n : ℕ) (t : GroundTerm) (r : Meaning) → Keeps (is_eigen n) r (with_eigen n t r)
with_eigen-keeps n t r = record { eigens = λ k h. rw h refl; spares = λ k h. refl }

pub with_eigen-stand : (P : Problem) (n : ℕ) (t : GroundTerm) (r : Meaning) (s : Sequent) (ps : List Place) → eigen_occurs n s ≡ false → StandAt P r s ps → StandAt P (with_eigen n t r) s ps
with_eigen-stand P n t r [] [] h st = tt
with_eigen-stand P n t r [] (p ∷ ps) h st = absurd st
with_eigen-stand P n t r (e ∷ s) [] h st = absurd st
with_eigen-stand P n t r (e ∷ s) (p ∷ ps) h st =
    let k = or_parts (any_leaf_in (is_eigen n) e.formula) (eigen_occurs n s) h in
    let a = st.0 in
    (record { sign = a.sign; label = a.label; says = says-stays (is_eigen n) r (with_eigen n t r) (with_eigen-keeps n t r) a.says k.0; before = a.before; stands = a.stands; admitted = a.admitted }, with_eigen-stand P n t r s ps k.1 st.1)
