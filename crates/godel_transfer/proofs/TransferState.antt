-- What a branch of a transfer keeps: for each entry the one that stands for it in S4, with the images of its formula and label; and all
-- numbers of characters and eigenvariables in S4 are below those that come next.
use Rattle.std.proofs.Common.{◌≡◌, ℕ, zero, suc, ◌≤◌, List, [], ◌∷◌, ◌++◌, length, Bool, true, false, ◌||◌, ◌==◌, refl, sym, ◌∙◌, ap, subst, inl, inr, Option, Some, None, nat_le, arith, eqb-true, leb-true, leb-false}
use Rattle.std.specs.List.{AllByRecursion, list_any}
use Rattle.std.specs.Option.{option_map_or}
use Rattle.std.proofs.lemmas.Bool.{false≢true, cases_Bool, or_parts}
use Rattle.calculus.specs.declared.sign.Sign.{Sign}
use Rattle.calculus.specs.declared.sign.Sign.TheVariants.{T, F}
use Rattle.calculus.specs.Syntax.{Term, var, fun, eigen, spare, Formula, atom, neg, conj, disj, imp, all, ex, box, dia}
use Rattle.calculus.specs.Labels.{is_prefix}
use Rattle.calculus.specs.Substitution.{any_leaf_in}
use Rattle.calculus.specs.Derivations.{Mark, new_mark, spare_mark, Label, character_eq, Entry, Sequent, EigenName, Names}
use Rattle.calculus.specs.Calculus.{eigen_named, holds_character, is_in_home, is_eigen, character_occurs, eigen_occurs, entry_of}
use Rattle.calculus.specs.Translation.{translation_of}
use Rattle.godel_transfer.specs.Transfer.{CharacterImage, EigenImage, label_image, formula_image, OpenBranch, place_of, names_with}
use Rattle.godel_transfer.proofs.ImageLaws.{any-fails, any-on_left, prefix-self, label-new, formula-new, leaves-in, each-fails, translation-leaves, label-marks}

-- ---- what comes later

abbrev pub is_mark_late : ℕ → Mark → Bool
is_mark_late c (new_mark j) = nat_le c j
is_mark_late c (spare_mark j) = false

abbrev pub is_late : Names → ℕ → ℕ → Term → Bool
is_late names i c (eigen j) = nat_le i j || option_map_or (λ (x : EigenName). list_any (is_mark_late c) x.home) (eigen_named names j) false
is_late names i c _ = false

abbrev pub IsEarly : Names → ℕ → ℕ → Entry → Type 0
IsEarly names i c e = (list_any (is_mark_late c) e.label ≡ false) × (any_leaf_in (is_late names i c) e.formula ≡ false)

abbrev pub AreEarly : Names → ℕ → ℕ → Sequent → Type 0
AreEarly names i c [] = Unit {0}
AreEarly names i c (e ∷ s) = IsEarly names i c e × AreEarly names i c s

abbrev pub MarksEarly : ℕ → List CharacterImage → Type 0
MarksEarly c xs = AllByRecursion (λ (x : CharacterImage). list_any (is_mark_late c) x.label ≡ false) xs

abbrev pub EigensEarly : Names → ℕ → ℕ → List EigenImage → Type 0
EigensEarly names i c xs = AllByRecursion (λ (x : EigenImage). is_late names i c (eigen x.image) ≡ false) xs

-- ---- what stands for what

-- past a box only the T atoms move on
abbrev pub LabelStands : Sign → Formula → Label → Label → Type 0
LabelStands T (atom p ts) u w = is_prefix character_eq u w ≡ true
LabelStands s a u w = u ≡ w

abbrev pub entry_with : Sign → Formula → Label → Entry
entry_with s a w = record { sign = s; formula = a; label = w }

abbrev pub EntryStands : List CharacterImage → List EigenImage → Sequent → Entry → ℕ → Type 0
EntryStands cs es target e p = (u : Label) × (entry_of target p ≡ Some (entry_with e.sign (translation_of (formula_image es e.formula)) u)) × LabelStands e.sign e.formula u (label_image cs e.label)

abbrev pub EachStands : List CharacterImage → List EigenImage → Sequent → Sequent → List ℕ → Type 0
EachStands cs es target [] [] = Unit {0}
EachStands cs es target (e ∷ s) (p ∷ ps) = EntryStands cs es target e p × EachStands cs es target s ps
EachStands cs es target _ _ = ⊥

-- an introduced eigenvariable: the characters of its home stand in the sequent, so that they are not introduced again
pub record EigenFits (names others : Names) (cs : List CharacterImage) (s : Sequent) (x : EigenImage) : Type 0 where
  pub source : EigenName
  pub named : eigen_named names x.number ≡ Some source
  pub image : EigenName
  pub listed : eigen_named others x.image ≡ Some image
  pub home : image.home ≡ label_image cs source.home
  pub stays : (m : Mark) → holds_character m source.home ≡ true → character_occurs names m s ≡ true

pub record Fits (names others : Names) (b : OpenBranch) (i : ℕ) (target : Sequent) : Type 0 where
  pub counted : length target ≡ b.count
  pub stands : EachStands b.characters b.eigens target b.sequent b.places
  pub eigens_fit : AllByRecursion (EigenFits names others b.characters b.sequent) b.eigens
  pub eigens_early : EigensEarly others i b.count b.eigens
  pub marks_early : MarksEarly b.count b.characters
  pub early : AreEarly others i b.count target

-- ---- what is early stays early

mark-later : (c d : ℕ) → c ≤ d → (m : Mark) → is_mark_late c m ≡ false → is_mark_late d m ≡ false
mark-later c d le (new_mark j) h = elim (cases_Bool (nat_le d j)) [
  | inl e ↦ let less = leb-true d j e in let more = leb-false c j h in absurd (omega arith)
  | inr e ↦ e
]
mark-later c d le (spare_mark j) h = refl

home-later : (p q : Mark → Bool) → ((m : Mark) → p m ≡ false → q m ≡ false) → (o : Option EigenName) → option_map_or (λ (x : EigenName). list_any p x.home) o false ≡ false → option_map_or (λ (x : EigenName). list_any q x.home) o false ≡ false
home-later p q h None e = refl
home-later p q h (Some x) e = any-fails p q h x.home e

number-later : (i j n : ℕ) → i ≤ j → nat_le i n ≡ false → nat_le j n ≡ false
number-later i j n le h = elim (cases_Bool (nat_le j n)) [
  | inl e ↦ let less = leb-true j n e in let more = leb-false i n h in absurd (omega arith)
  | inr e ↦ e
]

pub late-later : (names : Names) (i j c d : ℕ) → i ≤ j → c ≤ d → (t : Term) → is_late names i c t ≡ false → is_late names j d t ≡ false
late-later names i j c d le lf (var k) h = refl
late-later names i j c d le lf (fun f ts) h = refl
late-later names i j c d le lf (spare n) h = refl
late-later names i j c d le lf (eigen n) h =
    let r = or_parts (nat_le i n) (option_map_or (λ (x : EigenName). list_any (is_mark_late c) x.home) (eigen_named names n) false) h in
    rw (number-later i j n le r.0) (home-later (is_mark_late c) (is_mark_late d) (mark-later c d lf) (eigen_named names n) r.1)

pub early-later : (names : Names) (i j c d : ℕ) → i ≤ j → c ≤ d → (s : Sequent) → AreEarly names i c s → AreEarly names j d s
early-later names i j c d le lf [] h = tt
early-later names i j c d le lf (e ∷ s) h = ((any-fails (is_mark_late c) (is_mark_late d) (mark-later c d lf) e.label h.0.0, leaves-in (is_late names i c) (is_late names j d) (late-later names i j c d le lf) e.formula h.0.1), early-later names i j c d le lf s h.1)

pub early-append : (names : Names) (i c : ℕ) (s t : Sequent) → AreEarly names i c s → AreEarly names i c t → AreEarly names i c (s ++ t)
early-append names i c [] t h g = g
early-append names i c (e ∷ s) t h g = (h.0, early-append names i c s t h.1 g)

pub marks-later : (c d : ℕ) → c ≤ d → (xs : List CharacterImage) → MarksEarly c xs → MarksEarly d xs
marks-later c d le [] h = tt
marks-later c d le (x ∷ xs) h = (any-fails (is_mark_late c) (is_mark_late d) (mark-later c d le) x.label h.0, marks-later c d le xs h.1)

pub eigens-later : (names : Names) (i j c d : ℕ) → i ≤ j → c ≤ d → (xs : List EigenImage) → EigensEarly names i c xs → EigensEarly names j d xs
eigens-later names i j c d le lf [] h = tt
eigens-later names i j c d le lf (x ∷ xs) h = (late-later names i j c d le lf (eigen x.image) h.0, eigens-later names i j c d le lf xs h.1)

pub fits-later : (names others : Names) (b : OpenBranch) (i j : ℕ) (target : Sequent) → i ≤ j → Fits names others b i target → Fits names others b j target
fits-later names others b i j target le f = record {
  counted = f.counted;
  stands = f.stands;
  eigens_fit = f.eigens_fit;
  eigens_early = eigens-later others i j b.count b.count le (omega arith) b.eigens f.eigens_early;
  marks_early = f.marks_early;
  early = early-later others i j b.count b.count le (omega arith) target f.early;
}

-- ---- so what comes next is new

mark-apart : (c : ℕ) (m : Mark) → is_mark_late c m ≡ false → character_eq (new_mark c) m ≡ false
mark-apart c (spare_mark j) h = refl
mark-apart c (new_mark j) h = elim (cases_Bool (c == j)) [
  | inl e ↦ let same : c ≡ j = eqb-true c j e in let more = leb-false c j h in absurd (omega arith)
  | inr e ↦ e
]

spare-home : (E : List EigenName) (m : Mark) (n : ℕ) → is_in_home (names_with E) m (spare n) ≡ false
spare-home E m n = elim (cases_Bool (1 == n)) [ inl e ↦ rw e refl | inr e ↦ rw e refl ]

leaf-apart : (E : List EigenName) (i c : ℕ) (t : Term) → is_late (names_with E) i c t ≡ false → is_in_home (names_with E) (new_mark c) t ≡ false
leaf-apart E i c (var k) h = refl
leaf-apart E i c (fun f ts) h = refl
leaf-apart E i c (spare n) h = spare-home E (new_mark c) n
leaf-apart E i c (eigen n) h =
    let names = names_with E in
    let r = or_parts (nat_le i n) (option_map_or (λ (x : EigenName). list_any (is_mark_late c) x.home) (eigen_named names n) false) h in
    home-later (is_mark_late c) (character_eq (new_mark c)) (mark-apart c) (eigen_named names n) r.1

pub new-character : (E : List EigenName) (i c : ℕ) (s : Sequent) → AreEarly (names_with E) i c s → character_occurs (names_with E) (new_mark c) s ≡ false
new-character E i c [] h = refl
new-character E i c (e ∷ s) h =
    let names = names_with E in
    rw (any-fails (is_mark_late c) (character_eq (new_mark c)) (mark-apart c) e.label h.0.0)
    (rw (leaves-in (is_late names i c) (is_in_home names (new_mark c)) (leaf-apart E i c) e.formula h.0.1) (new-character E i c s h.1))

eigen-apart : (names : Names) (i c : ℕ) (t : Term) → is_late names i c t ≡ false → is_eigen i t ≡ false
eigen-apart names i c (var k) h = refl
eigen-apart names i c (fun f ts) h = refl
eigen-apart names i c (spare n) h = refl
eigen-apart names i c (eigen n) h = elim (cases_Bool (i == n)) [
  | inl e ↦
      let same : i ≡ n = eqb-true i n e in
      let r = or_parts (nat_le i n) (option_map_or (λ (x : EigenName). list_any (is_mark_late c) x.home) (eigen_named names n) false) h in
      let more = leb-false i n r.0 in
      absurd (omega arith)
  | inr e ↦ e
]

pub new-eigen : (names : Names) (i c : ℕ) (s : Sequent) → AreEarly names i c s → eigen_occurs i s ≡ false
new-eigen names i c [] h = refl
new-eigen names i c (e ∷ s) h = rw (leaves-in (is_late names i c) (is_eigen i) (eigen-apart names i c) e.formula h.0.1) (new-eigen names i c s h.1)

-- ---- entries

pub entry-left : (s t : Sequent) (p : ℕ) (e : Entry) → entry_of s p ≡ Some e → entry_of (s ++ t) p ≡ Some e
entry-left s t zero e h = cc
entry-left [] t (suc k) e h = cc
entry-left (x ∷ s) t (suc zero) e h = h
entry-left (x ∷ s) t (suc (suc k)) e h = entry-left s t (suc k) e h

pub entry-next : (s t : Sequent) (e : Entry) → entry_of (s ++ e ∷ t) (suc (length s)) ≡ Some e
entry-next [] t e = refl
entry-next (x ∷ s) t e = entry-next s t e

pub stands-left : (cs : List CharacterImage) (es : List EigenImage) (target more : Sequent) (s : Sequent) (ps : List ℕ) → EachStands cs es target s ps → EachStands cs es (target ++ more) s ps
stands-left cs es target more [] [] h = tt
stands-left cs es target more (e ∷ s) (p ∷ ps) h = ((h.0.0, entry-left target more p _ h.0.1, h.0.2), stands-left cs es target more s ps h.1)
stands-left cs es target more [] (p ∷ ps) h = elim h [ ]
stands-left cs es target more (e ∷ s) [] h = elim h [ ]

pub stands-append : (cs : List CharacterImage) (es : List EigenImage) (target s t : Sequent) (ps qs : List ℕ) → EachStands cs es target s ps → EachStands cs es target t qs → EachStands cs es target (s ++ t) (ps ++ qs)
stands-append cs es target [] t [] qs h g = g
stands-append cs es target (e ∷ s) t (p ∷ ps) qs h g = (h.0, stands-append cs es target s t ps qs h.1 g)
stands-append cs es target [] t (p ∷ ps) qs h g = elim h [ ]
stands-append cs es target (e ∷ s) t [] qs h g = elim h [ ]

pub stands-at : (cs : List CharacterImage) (es : List EigenImage) (target s : Sequent) (ps : List ℕ) → EachStands cs es target s ps → (n : ℕ) (e : Entry) → entry_of s n ≡ Some e → EntryStands cs es target e (place_of ps n)
stands-at cs es target s ps h zero e g = cc
stands-at cs es target [] ps h (suc k) e g = cc
stands-at cs es target (x ∷ s) [] h (suc k) e g = elim h [ ]
stands-at cs es target (x ∷ s) (p ∷ ps) h (suc zero) e g = subst (λ o. OnSome (λ y. EntryStands cs es target y p) o) g h.0
  where
    OnSome : (Entry → Type 0) → Option Entry → Type 0
    OnSome Claim None = Unit {0}
    OnSome Claim (Some y) = Claim y
stands-at cs es target (x ∷ s) (p ∷ ps) h (suc (suc k)) e g = stands-at cs es target s ps h.1 (suc k) e g

pub label-self : (s : Sign) (a : Formula) (w : Label) → LabelStands s a w w
label-self T (atom p ts) w = prefix-self w
label-self F (atom p ts) w = refl
label-self T (neg a) w = refl
label-self F (neg a) w = refl
label-self T (conj a b) w = refl
label-self F (conj a b) w = refl
label-self T (disj a b) w = refl
label-self F (disj a b) w = refl
label-self T (imp a b) w = refl
label-self F (imp a b) w = refl
label-self T (all a) w = refl
label-self F (all a) w = refl
label-self T (ex a) w = refl
label-self F (ex a) w = refl
label-self T (box a) w = refl
label-self F (box a) w = refl
label-self T (dia a) w = refl
label-self F (dia a) w = refl

-- ---- new images

pub stands-new_mark : (names : Names) (cs : List CharacterImage) (es : List EigenImage) (x : CharacterImage) (target s : Sequent) (ps : List ℕ) → character_occurs names (new_mark x.number) s ≡ false → EachStands cs es target s ps → EachStands (x ∷ cs) es target s ps
stands-new_mark names cs es x target [] [] h g = tt
stands-new_mark names cs es x target (e ∷ s) (p ∷ ps) h g =
    let m = new_mark x.number in
    let r = or_parts (holds_character m e.label || any_leaf_in (is_in_home names m) e.formula) (character_occurs names m s) h in
    let q = or_parts (holds_character m e.label) (any_leaf_in (is_in_home names m) e.formula) r.0 in
    ((g.0.0, g.0.1, subst (LabelStands e.sign e.formula g.0.0) (sym (label-new cs x e.label q.0)) g.0.2), stands-new_mark names cs es x target s ps r.1 g.1)
stands-new_mark names cs es x target [] (p ∷ ps) h g = elim g [ ]
stands-new_mark names cs es x target (e ∷ s) [] h g = elim g [ ]

pub stands-new_eigen : (cs : List CharacterImage) (es : List EigenImage) (x : EigenImage) (target s : Sequent) (ps : List ℕ) → eigen_occurs x.number s ≡ false → EachStands cs es target s ps → EachStands cs (x ∷ es) target s ps
stands-new_eigen cs es x target [] [] h g = tt
stands-new_eigen cs es x target (e ∷ s) (p ∷ ps) h g =
    let r = or_parts (any_leaf_in (is_eigen x.number) e.formula) (eigen_occurs x.number s) h in
    ((g.0.0, g.0.1 ∙ ap (λ (a : Formula). Some (entry_with e.sign (translation_of a) g.0.0)) (sym (formula-new es x e.formula r.0)), g.0.2), stands-new_eigen cs es x target s ps r.1 g.1)
stands-new_eigen cs es x target [] (p ∷ ps) h g = elim g [ ]
stands-new_eigen cs es x target (e ∷ s) [] h g = elim g [ ]

-- a label whose characters all occur does not hold a new one
pub occurring-apart : (names : Names) (s : Sequent) (n : ℕ) (w : Label) → ((m : Mark) → holds_character m w ≡ true → character_occurs names m s ≡ true) → character_occurs names (new_mark n) s ≡ false → holds_character (new_mark n) w ≡ false
occurring-apart names s n w h new = elim (cases_Bool (holds_character (new_mark n) w)) [
  | inl e ↦ absurd (false≢true (sym new ∙ h (new_mark n) e))
  | inr e ↦ e
]

pub fit-new_mark : (names others : Names) (cs : List CharacterImage) (s : Sequent) (x : CharacterImage) → character_occurs names (new_mark x.number) s ≡ false → (es : List EigenImage) → AllByRecursion (EigenFits names others cs s) es → AllByRecursion (EigenFits names others (x ∷ cs) s) es
fit-new_mark names others cs s x new [] h = tt
fit-new_mark names others cs s x new (y ∷ es) h =
    let f = h.0 in
    (record { source = f.source; named = f.named; image = f.image; listed = f.listed; home = f.home ∙ sym (label-new cs x f.source.home (occurring-apart names s x.number f.source.home f.stays new)); stays = f.stays }, fit-new_mark names others cs s x new es h.1)

pub fit-more : (names others : Names) (cs : List CharacterImage) (s t : Sequent) (es : List EigenImage) → AllByRecursion (EigenFits names others cs s) es → AllByRecursion (EigenFits names others cs (s ++ t)) es
fit-more names others cs s t [] h = tt
fit-more names others cs s t (y ∷ es) h =
    let f = h.0 in
    (record { source = f.source; named = f.named; image = f.image; listed = f.listed; home = f.home; stays = λ m k. any-on_left _ s t (f.stays m k) }, fit-more names others cs s t es h.1)

-- ---- images are early

pub label-early : (c : ℕ) (cs : List CharacterImage) → MarksEarly c cs → (w : Label) → list_any (is_mark_late c) (label_image cs w) ≡ false
label-early c cs h w = label-marks (is_mark_late c) cs h w

pub formula-early : (names : Names) (i c : ℕ) (es : List EigenImage) → EigensEarly names i c es → (a : Formula) → any_leaf_in (is_late names i c) (translation_of (formula_image es a)) ≡ false
formula-early names i c es h a = translation-leaves (is_late names i c) es (λ k. refl) (each-fails (is_late names i c) refl es h) refl a
