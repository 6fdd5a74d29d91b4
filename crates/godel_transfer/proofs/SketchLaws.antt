-- A sketch of a derivation's branches leads to the same steps and names as the branches: what a transfer asks of an entry are its sign,
-- its formula without terms, and the image of its label, which no later step changes.
use Rattle.std.proofs.Common.{◌≡◌, ℕ, zero, suc, ◌+◌, ◌<◌, List, [], ◌∷◌, ◌++◌, map, length, true, false, ◌&&◌, ◌||◌, ◌==◌, refl, sym, ◌∙◌, ap, subst, inl, inr, Option, Some, None, Result, Ok, Err, arith, append_assoc, append-nil, eq-eqb, eqb-true, if◌then◌else◌}
use Rattle.std.specs.List.{AllByRecursion}
use Rattle.std.specs.Option.{option_map}
use Rattle.std.proofs.lemmas.List.{map-append}
use Rattle.std.proofs.lemmas.Option.{slice_get-map}
use Rattle.std.proofs.lemmas.Bool.{false≢true, cases_Bool, and_parts, or_parts, not-true}
use Rattle.plain_laws.proofs.Lists.{map-length}
use Rattle.calculus.specs.declared.fault.StepFault.{StepFault}
use Rattle.calculus.specs.declared.sign.Sign.{Sign}
use Rattle.calculus.specs.declared.kind.Shape.{Shape}
use Rattle.calculus.specs.declared.kind.Shape.TheVariants.{Alpha, Beta, Gamma, Delta, Literal}
use Rattle.calculus.specs.declared.setting.Logic.TheVariants.{Intuitionistic}
use Rattle.calculus.specs.declared.setting.Domains.TheVariants.{Cumulative}
use Rattle.calculus.specs.Syntax.{Symbol, Terms, Formula, atom, neg, conj, disj, imp, all, ex, box, dia, setting_of, Problem}
use Rattle.calculus.specs.Kinds.{Signed, signed, shape_of, modal_of, components}
use Rattle.calculus.specs.Substitution.{any_leaf_in}
use Rattle.calculus.specs.Derivations.{Mark, new_mark, spare_mark, Label, character_eq, Entry, Sequent, EigenName, Names, ModalArg, no_modal, to, by_new, TermArg, no_term, by_term, by_name, Step, apply_to, close, Derivation}
use Rattle.calculus.specs.Calculus.{Children, closed, one, two, holds_character, is_in_home, character_occurs, modal_fits, term_fits, has_step, label_after, character_is_new, eigen_is_new, entry_at, with_argument, with_components, children_of, conditions_of_use, connects, entry_of, use_entry, close_branch, apply, Closes, leaf, single, fork, Derives}
use Rattle.trim_theory.specs.Bare.{bare, bare_signed}
use Rattle.trim_theory.proofs.BareLaws.{bare-argument, bare-components, bare-shape}
use Rattle.godel_transfer.specs.Transfer.{CharacterImage, EigenImage, mark_image, label_image, term_image, OpenBranch, first_branch, place_of, has_two_steps, numbers_for, modal_image, argument_image, new_character, characters_after, eigens_after, use_steps, places_added, count_after, branch_after, branches_by, axiom_to, axiom_at, steps_at, name_at, names_by, names_at, names_for, steps_for, branches_at, branches_for, steps_from, names_from, names_with, transferred}
use Rattle.godel_transfer.specs.Sketch.{label_then, atom_after, grown, sketches_by, sketches_at, sketches_for, sketched_axiom, sketched_for, names_sketched, names_sketched_at, names_sketched_for, sketched_from, names_sketched_from, first_sketch, sketched}
use Rattle.calculus.proofs.SequentLaws.{are_met, met-children}
use Rattle.godel_transfer.proofs.ImageLaws.{any-on_left, any-on_right, label-new, mark-new, label-append}
use Rattle.godel_transfer.proofs.TransferParts.{intuitionistic}
use Rattle.godel_transfer.proofs.TransferLaws.{outside-entry}

-- ---- formulas without terms

bare-arguments : (t : TermArg) (xs : List Signed) → map bare_signed (map (with_argument t) xs) ≡ map bare_signed xs
bare-arguments t [] = refl
bare-arguments t (x ∷ xs) = λ i. bare-argument t x i ∷ bare-arguments t xs i

-- ---- what a step makes looks at the bare formula

abbrev count_up : ℕ → ℕ → List ℕ
count_up n zero = []
count_up n (suc k) = n ∷ count_up (suc n) k

numbers-up : {A : Type 0} (n : ℕ) (xs : List A) → numbers_for n xs ≡ count_up n (length xs)
numbers-up n [] = refl
numbers-up n (x ∷ xs) = ap (λ (ns : List ℕ). n ∷ ns) (numbers-up (suc n) xs)

abbrev before_bare : ℕ → Formula → ℕ
before_bare n a = if has_two_steps a then suc n else n

abbrev places_bare : ℕ → ℕ → Formula → ℕ → List ℕ
places_bare n p (atom r ts) k = p ∷ []
places_bare n p a k = count_up (suc (before_bare n a)) k

abbrev count_bare : ℕ → Formula → ℕ → ℕ
count_bare n (atom r ts) k = n
count_bare n a k = before_bare n a + k

places-bare : {A : Type 0} (b : OpenBranch) (p : ℕ) (a : Formula) (xs : List A) → places_added b p a xs ≡ places_bare b.count p (bare a) (length xs)
places-bare b p (atom r ts) xs = refl
places-bare b p (neg a) xs = numbers-up _ xs
places-bare b p (conj a c) xs = numbers-up _ xs
places-bare b p (disj a c) xs = numbers-up _ xs
places-bare b p (imp a c) xs = numbers-up _ xs
places-bare b p (all a) xs = numbers-up _ xs
places-bare b p (ex a) xs = numbers-up _ xs
places-bare b p (box a) xs = numbers-up _ xs
places-bare b p (dia a) xs = numbers-up _ xs

count-bare : {A : Type 0} (b : OpenBranch) (a : Formula) (xs : List A) → count_after b a xs ≡ count_bare b.count (bare a) (length xs)
count-bare b (atom r ts) xs = refl
count-bare b (neg a) xs = refl
count-bare b (conj a c) xs = refl
count-bare b (disj a c) xs = refl
count-bare b (imp a c) xs = refl
count-bare b (all a) xs = refl
count-bare b (ex a) xs = refl
count-bare b (box a) xs = refl
count-bare b (dia a) xs = refl

abbrev steps_bare : ℕ → ℕ → Formula → ModalArg → TermArg → List Step
steps_bare n p (atom r ts) m t = []
steps_bare n p a m t =
    if has_two_steps a
    then apply_to p m no_term ∷ apply_to (suc n) no_modal t ∷ []
    else apply_to p m t ∷ []

steps-bare : (b : OpenBranch) (i p : ℕ) (a : Formula) (m : ModalArg) (t : TermArg) → use_steps b i p a m t ≡ steps_bare b.count p (bare a) (modal_image b m) (argument_image b i t)
steps-bare b i p (atom r ts) m t = refl
steps-bare b i p (neg a) m t = refl
steps-bare b i p (conj a c) m t = refl
steps-bare b i p (disj a c) m t = refl
steps-bare b i p (imp a c) m t = refl
steps-bare b i p (all a) m t = refl
steps-bare b i p (ex a) m t = refl
steps-bare b i p (box a) m t = refl
steps-bare b i p (dia a) m t = refl

abbrev character_bare : ℕ → Formula → Label
character_bare n (atom r ts) = []
character_bare n _ = new_mark n ∷ []

character-bare : (b : OpenBranch) (a : Formula) → new_character b a ≡ character_bare b.count (bare a)
character-bare b (atom r ts) = refl
character-bare b (neg a) = refl
character-bare b (conj a c) = refl
character-bare b (disj a c) = refl
character-bare b (imp a c) = refl
character-bare b (all a) = refl
character-bare b (ex a) = refl
character-bare b (box a) = refl
character-bare b (dia a) = refl

sketches-bare : (k : OpenBranch) (i p : ℕ) (e : Entry) (m : ModalArg) (t : TermArg) (a : Formula) → sketches_by k i p e m t a ≡ sketches_by k i p e m t (bare a)
sketches-bare k i p e m t (atom r ts) = refl
sketches-bare k i p e m t _ = refl

names-bare : (k : OpenBranch) (i : ℕ) (e : Entry) (m : ModalArg) (t : TermArg) (a : Formula) → names_sketched k i e m t a ≡ names_sketched k i e m t (bare a)
names-bare k i e m t (atom r ts) = refl
names-bare k i e m t _ = refl

-- ---- what is the same of a branch and its sketch

abbrev pub AreSame : List CharacterImage → List CharacterImage → Type 0
AreSame cs ds = (m : Mark) → mark_image cs m ≡ mark_image ds m

-- an entry without terms, with the image of its label
abbrev pub shade : List CharacterImage → Entry → Entry
shade cs e = record { sign = e.sign; formula = bare e.formula; label = label_image cs e.label }

abbrev pub bare_entry : Entry → Entry
bare_entry e = record { sign = e.sign; formula = bare e.formula; label = e.label }

abbrev pub AreSeen : Names → Sequent → List CharacterImage → Type 0
AreSeen names s cs = AllByRecursion (λ (x : CharacterImage). character_occurs names (new_mark x.number) s ≡ true) cs

pub record Sketches (names : Names) (b k : OpenBranch) : Type 0 where
  pub entries : map (shade b.characters) b.sequent ≡ map bare_entry k.sequent
  pub places : b.places ≡ k.places
  pub count : b.count ≡ k.count
  pub characters : AreSame b.characters k.characters
  pub eigens : b.eigens ≡ k.eigens
  pub seen : AreSeen names b.sequent b.characters

same-label : (cs ds : List CharacterImage) → AreSame cs ds → (w : Label) → label_image cs w ≡ label_image ds w
same-label cs ds h [] = refl
same-label cs ds h (m ∷ w) = λ i. h m i ++ same-label cs ds h w i

-- a character that occurs nowhere has no image
absent : (names : Names) (s : Sequent) (n : ℕ) → character_occurs names (new_mark n) s ≡ false → (cs : List CharacterImage) → AreSeen names s cs → mark_image cs (new_mark n) ≡ []
absent names s n new [] h = refl
absent names s n new (x ∷ cs) h = elim (cases_Bool (x.number == n)) [
  | inl e ↦ let same : x.number ≡ n = eqb-true x.number n e in let there : character_occurs names (new_mark n) s ≡ true = subst (λ (k : ℕ). character_occurs names (new_mark k) s ≡ true) same h.0 in absurd (false≢true (sym new ∙ there))
  | inr e ↦ rw e (absent names s n new cs h.1)
]

-- what stands in no label changes no image
shade-new : (names : Names) (cs : List CharacterImage) (x : CharacterImage) (s : Sequent) → character_occurs names (new_mark x.number) s ≡ false → map (shade (x ∷ cs)) s ≡ map (shade cs) s
shade-new names cs x [] h = refl
shade-new names cs x (e ∷ s) h =
    let r = or_parts (holds_character (new_mark x.number) e.label || any_leaf_in (is_in_home names (new_mark x.number)) e.formula) (character_occurs names (new_mark x.number) s) h in
    let q = or_parts (holds_character (new_mark x.number) e.label) (any_leaf_in (is_in_home names (new_mark x.number)) e.formula) r.0 in
    λ i. record { sign = e.sign; formula = bare e.formula; label = label-new cs x e.label q.0 i } ∷ shade-new names cs x s r.1 i

shades-at : (cs : List CharacterImage) (v w : Label) → label_image cs v ≡ w → (ys zs : List Signed) → map bare_signed ys ≡ map bare_signed zs → map (shade cs) (map (entry_at v) ys) ≡ map bare_entry (map (entry_at w) zs)
shades-at cs v w e ys zs h = left ys ∙ (λ i. map (entry_at (e i)) (h i)) ∙ sym (right zs)
  where
    left : (ys : List Signed) → map (shade cs) (map (entry_at v) ys) ≡ map (entry_at (label_image cs v)) (map bare_signed ys)
    left [] = refl
    left (y ∷ ys) = ap (λ (t : Sequent). entry_at (label_image cs v) (bare_signed y) ∷ t) (left ys)

    right : (zs : List Signed) → map bare_entry (map (entry_at w) zs) ≡ map (entry_at w) (map bare_signed zs)
    right [] = refl
    right (z ∷ zs) = ap (λ (t : Sequent). entry_at w (bare_signed z) ∷ t) (right zs)

-- ---- one step

abbrev pub AreSketches : Names → List OpenBranch → List OpenBranch → Type 0
AreSketches names [] [] = Unit {0}
AreSketches names (b ∷ bs) (k ∷ ks) = Sketches names b k × AreSketches names bs ks
AreSketches names _ _ = ⊥

-- the image of the label to which a step leads
image-after : (cs : List CharacterImage) (n : ℕ) (l w : Label) → holds_character (new_mark n) w ≡ false → label_image (record { number = n; label = l } ∷ cs) (w ++ new_mark n ∷ []) ≡ label_image cs w ++ l
image-after cs n l w out =
    let x : CharacterImage = record { number = n; label = l } in
    let last : label_image (x ∷ cs) (new_mark n ∷ []) ≡ l = append-nil (mark_image (x ∷ cs) (new_mark n)) ∙ mark-new cs n l in
    label-append (x ∷ cs) w (new_mark n ∷ []) ∙ (λ i. label-new cs x w out i ++ last i)

then-image : (b k : OpenBranch) (a : Formula) (w : Label) (x : Entry) (m : ModalArg) → AreSame b.characters k.characters → b.count ≡ k.count → bare a ≡ bare x.formula → label_image b.characters w ≡ x.label → ((n : ℕ) → m ≡ by_new n → holds_character (new_mark n) w ≡ false) → label_image (characters_after b a m) (label_after Intuitionistic w m) ≡ label_then k x m
then-image b k a w x no_modal same count e at out = at
then-image b k a w x (to v) same count e at out = same-label b.characters k.characters same v
then-image b k a w x (by_new n) same count e at out =
    let moved : new_character b a ≡ new_character k x.formula = character-bare b a ∙ (λ i. character_bare (count i) (e i)) ∙ sym (character-bare k x.formula) in
    image-after b.characters n (new_character b a) w (out n refl) ∙ (λ i. at i ++ moved i)

shade-after : (names : Names) (b : OpenBranch) (a : Formula) (m : ModalArg) → character_is_new names b.sequent m ≡ true → map (shade (characters_after b a m)) b.sequent ≡ map (shade b.characters) b.sequent
shade-after names b a no_modal new = refl
shade-after names b a (to v) new = refl
shade-after names b a (by_new n) new = shade-new names b.characters (record { number = n; label = new_character b a }) b.sequent (not-true _ new)

-- what occurs in a sequent occurs in a longer one
seen-more : (names : Names) (s t : Sequent) (cs : List CharacterImage) → AreSeen names s cs → AreSeen names (s ++ t) cs
seen-more names s t [] h = tt
seen-more names s t (x ∷ cs) h = (any-on_left _ s t h.0, seen-more names s t cs h.1)

last-holds : (n : ℕ) (w : Label) → holds_character (new_mark n) (w ++ new_mark n ∷ []) ≡ true
last-holds n w = any-on_right (character_eq (new_mark n)) w (new_mark n ∷ []) (let e : (n == n) ≡ true = eq-eqb n n refl in rw e refl)

seen-after : (names : Names) (b : OpenBranch) (a : Formula) (w : Label) (m : ModalArg) (y : Signed) (ys : List Signed) → AreSeen names b.sequent b.characters → AreSeen names (b.sequent ++ map (entry_at (label_after Intuitionistic w m)) (y ∷ ys)) (characters_after b a m)
seen-after names b a w no_modal y ys h = seen-more names b.sequent _ b.characters h
seen-after names b a w (to v) y ys h = seen-more names b.sequent _ b.characters h
seen-after names b a w (by_new n) y ys h = (
  any-on_right _ b.sequent (map (entry_at (w ++ new_mark n ∷ [])) (y ∷ ys)) (let e = last-holds n w in rw e refl),
  seen-more names b.sequent _ b.characters h,
)

same-modal : (b k : OpenBranch) → AreSame b.characters k.characters → b.count ≡ k.count → (m : ModalArg) → modal_image b m ≡ modal_image k m
same-modal b k same count no_modal = refl
same-modal b k same count (to v) = ap to (same-label b.characters k.characters same v)
same-modal b k same count (by_new n) = ap by_new count

same-argument : (b k : OpenBranch) (i : ℕ) → b.eigens ≡ k.eigens → (t : TermArg) → argument_image b i t ≡ argument_image k i t
same-argument b k i e no_term = refl
same-argument b k i e (by_term t) = λ j. by_term (term_image (e j) t)
same-argument b k i e (by_name n) = refl

same-eigens : (b k : OpenBranch) (i : ℕ) → b.eigens ≡ k.eigens → (t : TermArg) → eigens_after b i t ≡ eigens_after k i t
same-eigens b k i e no_term = e
same-eigens b k i e (by_term t) = e
same-eigens b k i e (by_name n) = ap (λ (es : List EigenImage). record { number = n; image = i } ∷ es) e

-- where the characters of both become the same
same-added : (cs ds : List CharacterImage) → AreSame cs ds → (n : ℕ) (l r : Label) → l ≡ r → AreSame (record { number = n; label = l } ∷ cs) (record { number = n; label = r } ∷ ds)
same-added cs ds h n l r e (spare_mark j) = h (spare_mark j)
same-added cs ds h n l r e (new_mark j) = elim (cases_Bool (n == j)) [ inl g ↦ rw g e | inr g ↦ rw g (h (new_mark j)) ]

same-characters : (b k : OpenBranch) (a c : Formula) → AreSame b.characters k.characters → b.count ≡ k.count → bare a ≡ bare c → (m : ModalArg) → AreSame (characters_after b a m) (characters_after k c m)
same-characters b k a c same count e no_modal = same
same-characters b k a c same count e (to v) = same
same-characters b k a c same count e (by_new n) = same-added b.characters k.characters same n (new_character b a) (new_character k c) (character-bare b a ∙ (λ i. character_bare (count i) (e i)) ∙ sym (character-bare k c))

module _ (names : Names) (b k : OpenBranch) (i p : ℕ) (s : Sign) (a : Formula) (w : Label) (x : Entry) (m : ModalArg) (t : TermArg) (h : Sketches names b k) (e : bare a ≡ bare x.formula) (new : character_is_new names b.sequent m ≡ true) (at : label_image (characters_after b a m) (label_after Intuitionistic w m) ≡ label_then k x m) where
  branch-sketched : {A B : Type 0} (us : List A) (vs : List B) (y : Signed) (ys zs : List Signed) → length us ≡ length vs → map bare_signed (y ∷ ys) ≡ map bare_signed zs → Sketches names (branch_after b i p a m t us (b.sequent ++ map (entry_at (label_after Intuitionistic w m)) (y ∷ ys))) (branch_after k i p x.formula m t vs (k.sequent ++ map (entry_at (label_then k x m)) zs))
  branch-sketched us vs y ys zs l g =
      let cs = characters_after b a m in
      let v = label_after Intuitionistic w m in
      let front = shade-after names b a m new ∙ h.entries in
      let back = shades-at cs v (label_then k x m) at (y ∷ ys) zs g in
      record {
        entries = map-append (shade cs) b.sequent (map (entry_at v) (y ∷ ys)) ∙ (λ j. front j ++ back j) ∙ sym (map-append bare_entry k.sequent (map (entry_at (label_then k x m)) zs));
        places = λ j. h.places j ++ ((places-bare b p a us ∙ (λ j. places_bare (h.count j) p (e j) (l j)) ∙ sym (places-bare k p x.formula vs)) j);
        count = count-bare b a us ∙ (λ j. count_bare (h.count j) (e j) (l j)) ∙ sym (count-bare k x.formula vs);
        characters = same-characters b k a x.formula h.characters h.count e m;
        eigens = same-eigens b k i h.eigens t;
        seen = seen-after names b a w m y ys h.seen;
      }

  kids : (sh : Shape) (ys zs : List Signed) → 0 < length ys → map bare_signed ys ≡ map bare_signed zs → length (components s a) ≡ length (components x.sign x.formula) → AreSketches names (branches_by b i p (entry_at w (signed s a)) m t (Ok (with_components sh b.sequent (label_after Intuitionistic w m) ys))) (branches_by k i p x m t (Ok (with_components sh k.sequent (label_then k x m) zs)))
  kids Alpha [] zs some g l = absurd (omega arith)
  kids Alpha (y ∷ ys) zs some g l = (branch-sketched (components s a) (components x.sign x.formula) y ys zs l g, tt)
  kids Gamma [] zs some g l = absurd (omega arith)
  kids Gamma (y ∷ ys) zs some g l = (branch-sketched (components s a) (components x.sign x.formula) y ys zs l g, tt)
  kids Delta [] zs some g l = absurd (omega arith)
  kids Delta (y ∷ ys) zs some g l = (branch-sketched (components s a) (components x.sign x.formula) y ys zs l g, tt)
  kids Literal [] zs some g l = absurd (omega arith)
  kids Literal (y ∷ ys) zs some g l = (branch-sketched (components s a) (components x.sign x.formula) y ys zs l g, tt)
  kids Beta [] zs some g l = absurd (omega arith)
  kids Beta (y ∷ []) [] some g l = cc
  kids Beta (y ∷ []) (z ∷ []) some g l = (branch-sketched (components s a) (components x.sign x.formula) y [] (z ∷ []) l g, tt)
  kids Beta (y ∷ []) (z ∷ z' ∷ zs) some g l = cc
  kids Beta (y ∷ y' ∷ []) [] some g l = cc
  kids Beta (y ∷ y' ∷ []) (z ∷ []) some g l = cc
  kids Beta (y ∷ y' ∷ []) (z ∷ z' ∷ []) some g l =
      let us = entry_at w (signed s a) ∷ [] in
      (branch-sketched us (x ∷ []) y [] (z ∷ []) refl (ap front g), (branch-sketched us (x ∷ []) y' [] (z' ∷ []) refl (ap back g), tt))
    where
      front : List Signed → List Signed
      front [] = []
      front (u ∷ us) = u ∷ []

      back : List Signed → List Signed
      back [] = []
      back (u ∷ us) = us
  kids Beta (y ∷ y' ∷ []) (z ∷ z' ∷ z'' ∷ zs) some g l = cc
  kids Beta (y ∷ y' ∷ y'' ∷ ys) [] some g l = cc
  kids Beta (y ∷ y' ∷ y'' ∷ ys) (z ∷ []) some g l = cc
  kids Beta (y ∷ y' ∷ y'' ∷ ys) (z ∷ z' ∷ []) some g l = cc
  kids Beta (y ∷ y' ∷ y'' ∷ ys) (z ∷ z' ∷ z'' ∷ zs) some g l = (branch-sketched (components s a) (components x.sign x.formula) y (y' ∷ y'' ∷ ys) (z ∷ z' ∷ z'' ∷ zs) l g, tt)

some-component : (s : Sign) (a : Formula) → 0 < length (components s a)
some-component s (atom p ts) = omega arith
some-component s (neg a) = omega arith
some-component s (conj a b) = omega arith
some-component s (disj a b) = omega arith
some-component s (imp a b) = omega arith
some-component s (all a) = omega arith
some-component s (ex a) = omega arith
some-component s (box a) = omega arith
some-component s (dia a) = omega arith

-- what a use step comes to, for the entry and its sketch
record Met (names : Names) (b k : OpenBranch) (i p : ℕ) (s : Sign) (a : Formula) (w : Label) (x : Entry) (m : ModalArg) (t : TermArg) : Type 0 where
  listed : names_by b i (entry_at w (signed s a)) m t ≡ names_sketched k i x m t x.formula
  branches : AreSketches names (branches_by b i p (entry_at w (signed s a)) m t (Ok (children_of Intuitionistic b.sequent (entry_at w (signed s a)) m t))) (sketches_by k i p x m t x.formula)

same-steps : (names : Names) (b k : OpenBranch) (i p : ℕ) (a c : Formula) (m : ModalArg) (t : TermArg) → Sketches names b k → bare a ≡ bare c → use_steps b i p a m t ≡ use_steps k i p c m t
same-steps names b k i p a c m t h e =
    steps-bare b i p a m t
    ∙ (λ j. steps_bare (h.count j) p (e j) (same-modal b k h.characters h.count m j) (same-argument b k i h.eigens t j))
    ∙ sym (steps-bare k i p c m t)

-- on what is no atom
met-compound : (names : Names) (b k : OpenBranch) (i p : ℕ) (s : Sign) (a : Formula) (w : Label) (x : Entry) (m : ModalArg) (t : TermArg) → Sketches names b k → s ≡ x.sign → bare a ≡ bare x.formula → character_is_new names b.sequent m ≡ true → label_image (characters_after b a m) (label_after Intuitionistic w m) ≡ label_then k x m → names_sketched k i x m t x.formula ≡ name_at i (label_then k x m) t → sketches_by k i p x m t x.formula ≡ grown k i p x m t → Met names b k i p s a w x m t
met-compound names b k i p s a w x m t h sg e new at nm sk =
    let same : shape_of s a ≡ shape_of x.sign x.formula = sym (bare-shape s a) ∙ (λ j. shape_of (sg j) (e j)) ∙ bare-shape x.sign x.formula in
    let parts : map bare_signed (components s a) ≡ map bare_signed (components x.sign x.formula) = bare-components s a ∙ (λ j. components (sg j) (e j)) ∙ sym (bare-components x.sign x.formula) in
    let l : length (components s a) ≡ length (components x.sign x.formula) = sym (map-length bare_signed (components s a)) ∙ ap length parts ∙ map-length bare_signed (components x.sign x.formula) in
    let g = bare-arguments t (components s a) ∙ parts in
    let put = map-length (with_argument t) (components s a) in
    let some = some-component s a in
    let r = kids names b k i p s a w x m t h e new at (shape_of s a) (map (with_argument t) (components s a)) (components x.sign x.formula) (omega arith) g l in
    let bs = branches_by b i p (entry_at w (signed s a)) m t (Ok (children_of Intuitionistic b.sequent (entry_at w (signed s a)) m t)) in
    let r' = subst (λ (sh : Shape). AreSketches names bs (branches_by k i p x m t (Ok (with_components sh k.sequent (label_then k x m) (components x.sign x.formula))))) same r in
    record {
      listed = ap (λ (v : Label). name_at i v t) at ∙ sym nm;
      branches = subst (λ (ks : List OpenBranch). AreSketches names bs ks) (sym sk) r';
    }

-- on an atom
met-atom : (names : Names) (b k : OpenBranch) (i p : ℕ) (s : Sign) (r : ℕ) (ts : Terms) (w : Label) (x : Entry) (m : ModalArg) (t : TermArg) → Sketches names b k → s ≡ x.sign → bare (atom r ts) ≡ bare x.formula → character_is_new names b.sequent m ≡ true → label_image (characters_after b (atom r ts) m) (label_after Intuitionistic w m) ≡ label_then k x m → term_fits Literal t ≡ true → Met names b k i p s (atom r ts) w x m t
met-atom names b k i p s r ts w x m (by_term u) h sg e new at fits = absurd (false≢true fits)
met-atom names b k i p s r ts w x m (by_name n) h sg e new at fits = absurd (false≢true fits)
met-atom names b k i p s r ts w x m no_term h sg e new at fits =
    let a : Formula = atom r ts in
    let cs = characters_after b a m in
    let v = label_after Intuitionistic w m in
    let y = signed s a in
    let g : bare_signed y ∷ [] ≡ bare_signed (signed x.sign x.formula) ∷ [] = λ j. signed (sg j) (e j) ∷ [] in
    let front = shade-after names b a m new ∙ h.entries in
    let back = shades-at cs v (label_then k x m) at (y ∷ []) (signed x.sign x.formula ∷ []) g in
    let one : Sketches names (branch_after b i p a m no_term (components s a) (b.sequent ++ map (entry_at v) (y ∷ []))) (atom_after k p x m) = record {
      entries = map-append (shade cs) b.sequent (map (entry_at v) (y ∷ [])) ∙ (λ j. front j ++ back j) ∙ sym (map-append bare_entry k.sequent (map (entry_at (label_then k x m)) (signed x.sign x.formula ∷ [])));
      places = λ j. h.places j ++ p ∷ [];
      count = h.count;
      characters = characters m new;
      eigens = h.eigens;
      seen = seen-after names b a w m y [] h.seen;
    } in
    record {
      listed = sym (names-bare k i x m no_term x.formula ∙ ap (names_sketched k i x m no_term) (sym e));
      branches = subst (λ (ks : List OpenBranch). AreSketches names (branches_by b i p (entry_at w y) m no_term (Ok (children_of Intuitionistic b.sequent (entry_at w y) m no_term))) ks) (sym (sketches-bare k i p x m no_term x.formula ∙ ap (sketches_by k i p x m no_term) (sym e))) (one, tt);
    }
  where
    characters : (m : ModalArg) → character_is_new names b.sequent m ≡ true → AreSame (characters_after b (atom r ts) m) k.characters
    characters no_modal new = h.characters
    characters (to v) new = h.characters
    characters (by_new n) new = by
      where
        by : (c : Mark) → mark_image (record { number = n; label = [] } ∷ b.characters) c ≡ mark_image k.characters c
        by (spare_mark j) = h.characters (spare_mark j)
        by (new_mark j) = elim (cases_Bool (n == j)) [
          | inl g ↦ let same : n ≡ j = eqb-true n j g in rw g (sym (subst (λ (c : ℕ). mark_image b.characters (new_mark c) ≡ []) same (absent names b.sequent n (not-true _ new) b.characters h.seen)) ∙ h.characters (new_mark j))
          | inr g ↦ rw g (h.characters (new_mark j))
        ]

met-use : (names : Names) (b k : OpenBranch) (i p : ℕ) (s : Sign) (a : Formula) (w : Label) (x : Entry) (m : ModalArg) (t : TermArg) → Sketches names b k → s ≡ x.sign → bare a ≡ bare x.formula → character_is_new names b.sequent m ≡ true → label_image (characters_after b a m) (label_after Intuitionistic w m) ≡ label_then k x m → term_fits (shape_of s a) t ≡ true → Met names b k i p s a w x m t
met-use names b k i p s (atom r ts) w x m t h sg e new at fits = met-atom names b k i p s r ts w x m t h sg e new at fits
met-use names b k i p s (neg a) w x m t h sg e new at fits = met-compound names b k i p s (neg a) w x m t h sg e new at (names-bare k i x m t x.formula ∙ ap (names_sketched k i x m t) (sym e)) (sketches-bare k i p x m t x.formula ∙ ap (sketches_by k i p x m t) (sym e))
met-use names b k i p s (conj a c) w x m t h sg e new at fits = met-compound names b k i p s (conj a c) w x m t h sg e new at (names-bare k i x m t x.formula ∙ ap (names_sketched k i x m t) (sym e)) (sketches-bare k i p x m t x.formula ∙ ap (sketches_by k i p x m t) (sym e))
met-use names b k i p s (disj a c) w x m t h sg e new at fits = met-compound names b k i p s (disj a c) w x m t h sg e new at (names-bare k i x m t x.formula ∙ ap (names_sketched k i x m t) (sym e)) (sketches-bare k i p x m t x.formula ∙ ap (sketches_by k i p x m t) (sym e))
met-use names b k i p s (imp a c) w x m t h sg e new at fits = met-compound names b k i p s (imp a c) w x m t h sg e new at (names-bare k i x m t x.formula ∙ ap (names_sketched k i x m t) (sym e)) (sketches-bare k i p x m t x.formula ∙ ap (sketches_by k i p x m t) (sym e))
met-use names b k i p s (all a) w x m t h sg e new at fits = met-compound names b k i p s (all a) w x m t h sg e new at (names-bare k i x m t x.formula ∙ ap (names_sketched k i x m t) (sym e)) (sketches-bare k i p x m t x.formula ∙ ap (sketches_by k i p x m t) (sym e))
met-use names b k i p s (ex a) w x m t h sg e new at fits = met-compound names b k i p s (ex a) w x m t h sg e new at (names-bare k i x m t x.formula ∙ ap (names_sketched k i x m t) (sym e)) (sketches-bare k i p x m t x.formula ∙ ap (sketches_by k i p x m t) (sym e))
met-use names b k i p s (box a) w x m t h sg e new at fits = met-compound names b k i p s (box a) w x m t h sg e new at (names-bare k i x m t x.formula ∙ ap (names_sketched k i x m t) (sym e)) (sketches-bare k i p x m t x.formula ∙ ap (sketches_by k i p x m t) (sym e))
met-use names b k i p s (dia a) w x m t h sg e new at fits = met-compound names b k i p s (dia a) w x m t h sg e new at (names-bare k i x m t x.formula ∙ ap (names_sketched k i x m t) (sym e)) (sketches-bare k i p x m t x.formula ∙ ap (sketches_by k i p x m t) (sym e))

-- ---- all steps

entry-map : (f : Entry → Entry) (s : Sequent) (n : ℕ) → entry_of (map f s) n ≡ option_map f (entry_of s n)
entry-map f s zero = refl
entry-map f s (suc j) = slice_get-map f s j

module _ (phi : Formula) (symbols : List Symbol) (names : Names) where
  -- what a step comes to
  record Stepped (b k : OpenBranch) (i : ℕ) (x : Step) : Type 0 where
    steps : steps_for b i x ≡ sketched_for k i x
    listed : names_for b i x ≡ names_sketched_for k i x
    branches : AreSketches names (branches_for (intuitionistic phi symbols) names b i x) (sketches_for k i x)

  use-stepped : (b k : OpenBranch) (i n : ℕ) (m : ModalArg) (t : TermArg) (c : Children) (o q : Option Entry) → Sketches names b k → entry_of b.sequent n ≡ o → entry_of k.sequent n ≡ q → option_map (shade b.characters) o ≡ option_map bare_entry q → use_entry (intuitionistic phi symbols) names b.sequent o m t ≡ Ok c → apply (intuitionistic phi symbols) names b.sequent (apply_to n m t) ≡ Ok c
      → (steps_at b i (place_of b.places n) o m t ≡ steps_at k i (place_of k.places n) q m t)
      × (names_at b i o m t ≡ names_sketched_at k i q m t)
      × AreSketches names (branches_at (intuitionistic phi symbols) names b i (place_of b.places n) o m t (apply_to n m t)) (sketches_at k i (place_of k.places n) q m t)
  use-stepped b k i n m t c None q h at there e used applied = cc
  use-stepped b k i n m t c (Some x) None h at there e used applied = cc
  use-stepped b k i n m t c (Some x) (Some y) h at there e used applied =
      let P = intuitionistic phi symbols in
      let p = place_of b.places n in
      let children = children_of Intuitionistic b.sequent x m t in
      let met = are_met (conditions_of_use P names b.sequent x m t) children c used in
      let same : children ≡ c = met-children (conditions_of_use P names b.sequent x m t) children c used in
      let new = and_parts (character_is_new names b.sequent m) (eigen_is_new b.sequent t) met.1.1.1.0 in
      let kinds = and_parts (modal_fits (modal_of Intuitionistic x.sign x.formula) m && term_fits (shape_of x.sign x.formula) t) (has_step (modal_of Intuitionistic x.sign x.formula) (shape_of x.sign x.formula)) met.0 in
      let args = and_parts (modal_fits (modal_of Intuitionistic x.sign x.formula) m) (term_fits (shape_of x.sign x.formula) t) kinds.0 in
      let alike : shade b.characters x ≡ bare_entry y = ap (entry_or (shade b.characters x)) e in
      let sg : x.sign ≡ y.sign = ap (λ (z : Entry). z.sign) alike in
      let like : bare x.formula ≡ bare y.formula = ap (λ (z : Entry). z.formula) alike in
      let labelled : label_image b.characters x.label ≡ y.label = ap (λ (z : Entry). z.label) alike in
      let moved = then-image b k x.formula x.label y m h.characters h.count like labelled (outside-entry names b.sequent n x at m new.0) in
      let r = met-use names b k i p x.sign x.formula x.label y m t h sg like new.0 moved args.1 in
      let bs = branches_by b i p x m t (Ok children) in
      let by : AreSketches names (branches_by b i p x m t (Ok c)) (sketches_by k i p y m t y.formula) = subst (λ (d : Children). AreSketches names (branches_by b i p x m t (Ok d)) (sketches_by k i p y m t y.formula)) same r.branches in
      let by' : AreSketches names (branches_by b i p x m t (apply P names b.sequent (apply_to n m t))) (sketches_by k i p y m t y.formula) = subst (λ (z : Result Children StepFault). AreSketches names (branches_by b i p x m t z) (sketches_by k i p y m t y.formula)) (sym applied) by in
      let place : p ≡ place_of k.places n = ap (λ (ps : List ℕ). place_of ps n) h.places in (
        same-steps names b k i p x.formula y.formula m t h like ∙ (λ j. use_steps k i (place j) y.formula m t),
        r.listed,
        subst (λ (z : ℕ). AreSketches names (branches_by b i p x m t (apply P names b.sequent (apply_to n m t))) (sketches_by k i z y m t y.formula)) place by',
      )
    where
      entry_or : Entry → Option Entry → Entry
      entry_or d None = d
      entry_or d (Some z) = z

  close-stepped : (b k : OpenBranch) (g f : ℕ) (o q : Option Entry) → Sketches names b k → option_map (shade b.characters) o ≡ option_map bare_entry q → axiom_at b g f o ≡ sketched_axiom k g f q
  close-stepped b k g f None None h e = refl
  close-stepped b k g f None (Some y) h e = cc
  close-stepped b k g f (Some x) None h e = cc
  close-stepped b k g f (Some x) (Some y) h e = λ j. axiom_to (h.count j) g f (labelled j)
    where
      label_or : Option Entry → Label
      label_or None = []
      label_or (Some z) = z.label

      labelled : label_image b.characters x.label ≡ y.label
      labelled = ap label_or e

  at-number : (b k : OpenBranch) → Sketches names b k → (n : ℕ) → option_map (shade b.characters) (entry_of b.sequent n) ≡ option_map bare_entry (entry_of k.sequent n)
  at-number b k h n = sym (entry-map (shade b.characters) b.sequent n) ∙ ap (λ (s : Sequent). entry_of s n) h.entries ∙ entry-map bare_entry k.sequent n

  stepped : (b k : OpenBranch) (i : ℕ) (x : Step) (c : Children) → Sketches names b k → apply (intuitionistic phi symbols) names b.sequent x ≡ Ok c → Stepped b k i x
  stepped b k i (apply_to n m t) c h e =
      let r = use-stepped b k i n m t c (entry_of b.sequent n) (entry_of k.sequent n) h refl refl (at-number b k h n) e e in
      record { steps = r.0; listed = r.1; branches = r.2 }
  stepped b k i (close n j) c h e = record {
    steps = close-stepped b k (place_of b.places n) (place_of b.places j) (entry_of b.sequent j) (entry_of k.sequent j) h (at-number b k h j) ∙ (λ l. sketched_axiom k (place_of (h.places l) n) (place_of (h.places l) j) (entry_of k.sequent j));
    listed = refl;
    branches = tt;
  }

  -- a sequent that the steps close leaves the other branches
  record Ended (i : ℕ) (bs ks : List OpenBranch) (steps other : List Step) (listed other_listed : List EigenName) (rest : List Step) : Type 0 where
    next : ℕ
    front : List Step
    before : steps ≡ front ++ steps_from (intuitionistic phi symbols) names bs next rest
    after : other ≡ front ++ sketched_from ks next rest
    names_front : List EigenName
    names_before : listed ≡ names_front ++ names_from (intuitionistic phi symbols) names bs next rest
    names_after : other_listed ≡ names_front ++ names_sketched_from ks next rest

  -- the branches after a step have the sequents of its children
  abbrev Led : List OpenBranch → Children → Type 0
  Led bs closed = bs ≡ []
  Led bs (one t) = (l : OpenBranch) × (bs ≡ l ∷ []) × (l.sequent ≡ t)
  Led bs (two t u) = (l : OpenBranch) × (r : OpenBranch) × (bs ≡ l ∷ r ∷ []) × (l.sequent ≡ t) × (r.sequent ≡ u)

  by-led : (b : OpenBranch) (i p : ℕ) (e : Entry) (m : ModalArg) (t : TermArg) (c : Children) → Led (branches_by b i p e m t (Ok c)) c
  by-led b i p e m t closed = refl
  by-led b i p e m t (one s) = (branch_after b i p e.formula m t (components e.sign e.formula) s, refl, refl)
  by-led b i p e m t (two s u) = (branch_after b i p e.formula m t (e ∷ []) s, branch_after b i p e.formula m t (e ∷ []) u, refl, refl, refl)

  use-led : (b : OpenBranch) (i n : ℕ) (m : ModalArg) (t : TermArg) (c : Children) (o : Option Entry) → use_entry (intuitionistic phi symbols) names b.sequent o m t ≡ Ok c → apply (intuitionistic phi symbols) names b.sequent (apply_to n m t) ≡ Ok c → Led (branches_at (intuitionistic phi symbols) names b i (place_of b.places n) o m t (apply_to n m t)) c
  use-led b i n m t c None used applied = cc
  use-led b i n m t c (Some e) used applied = subst (λ (z : Result Children StepFault). Led (branches_by b i (place_of b.places n) e m t z) c) (sym applied) (by-led b i (place_of b.places n) e m t c)

  close-led : (c : Children) (o q : Option Entry) → close_branch o q ≡ Ok c → Led [] c
  close-led c (Some x) (Some y) e = elim (cases_Bool (connects x y)) [
    | inl h ↦ let e' : Ok closed ≡ Ok c = rw h at e in let same : closed ≡ c = cc in subst (λ (d : Children). Led [] d) same refl
    | inr h ↦ let e' : Err _ ≡ Ok c = rw h at e in absurd cc
  ]
  close-led c (Some x) None e = cc
  close-led c None q e = cc

  led : (b : OpenBranch) (i : ℕ) (x : Step) (c : Children) → apply (intuitionistic phi symbols) names b.sequent x ≡ Ok c → Led (branches_for (intuitionistic phi symbols) names b i x) c
  led b i (apply_to n m t) c e = use-led b i n m t c (entry_of b.sequent n) e e
  led b i (close n j) c e = close-led c (entry_of b.sequent n) (entry_of b.sequent j) e

  none-of : (bs ks : List OpenBranch) → bs ≡ [] → AreSketches names bs ks → ks ≡ []
  none-of [] [] e h = refl
  none-of [] (k ∷ ks) e h = absurd h
  none-of (b ∷ bs) ks e h = cc

  one-of : (bs ks : List OpenBranch) (l : OpenBranch) → bs ≡ l ∷ [] → AreSketches names bs ks → (k : OpenBranch) × (ks ≡ k ∷ []) × Sketches names l k
  one-of bs ks l e h = by ks (subst (λ (cs : List OpenBranch). AreSketches names cs ks) e h)
    where
      by : (ks : List OpenBranch) → AreSketches names (l ∷ []) ks → (k : OpenBranch) × (ks ≡ k ∷ []) × Sketches names l k
      by [] h = absurd h
      by (k ∷ []) h = (k, refl, h.0)
      by (k ∷ k' ∷ ks) h = absurd h.1

  two-of : (bs ks : List OpenBranch) (l r : OpenBranch) → bs ≡ l ∷ r ∷ [] → AreSketches names bs ks → (k : OpenBranch) × (k' : OpenBranch) × (ks ≡ k ∷ k' ∷ []) × Sketches names l k × Sketches names r k'
  two-of bs ks l r e h = by ks (subst (λ (cs : List OpenBranch). AreSketches names cs ks) e h)
    where
      by : (ks : List OpenBranch) → AreSketches names (l ∷ r ∷ []) ks → (k : OpenBranch) × (k' : OpenBranch) × (ks ≡ k ∷ k' ∷ []) × Sketches names l k × Sketches names r k'
      by [] h = absurd h
      by (k ∷ []) h = absurd h.1
      by (k ∷ k' ∷ []) h = (k, k', refl, h.0, h.1.0)
      by (k ∷ k' ∷ k'' ∷ ks) h = absurd h.1.1

  all-sketched : {s : Sequent} {xs rest : List Step} → Closes (intuitionistic phi symbols) names s xs rest → (b k : OpenBranch) → b.sequent ≡ s → Sketches names b k → (i : ℕ) (bs ks : List OpenBranch) → Ended i bs ks (steps_from (intuitionistic phi symbols) names (b ∷ bs) i xs) (sketched_from (k ∷ ks) i xs) (names_from (intuitionistic phi symbols) names (b ∷ bs) i xs) (names_sketched_from (k ∷ ks) i xs) rest
  all-sketched (leaf {x = x} {rest = rest} e) b k same h i bs ks =
      let P = intuitionistic phi symbols in
      let e' = subst (λ (s : Sequent). apply P names s x ≡ Ok closed) (sym same) e in
      let r = stepped b k i x closed h e' in
      let none = led b i x closed e' in
      let none' = none-of (branches_for P names b i x) (sketches_for k i x) none r.branches in
      record {
        next = suc i;
        front = steps_for b i x;
        before = λ j. steps_for b i x ++ steps_from P names (none j ++ bs) (suc i) rest;
        after = λ j. sym r.steps j ++ sketched_from (none' j ++ ks) (suc i) rest;
        names_front = names_for b i x;
        names_before = λ j. names_for b i x ++ names_from P names (none j ++ bs) (suc i) rest;
        names_after = λ j. sym r.listed j ++ names_sketched_from (none' j ++ ks) (suc i) rest;
      }
  all-sketched (single {t = t} {x = x} {xs = xs} {rest = rest} e d) b k same h i bs ks =
      let P = intuitionistic phi symbols in
      let e' = subst (λ (s : Sequent). apply P names s x ≡ Ok (one t)) (sym same) e in
      let r = stepped b k i x (one t) h e' in
      let l = led b i x (one t) e' in
      let q = one-of (branches_for P names b i x) (sketches_for k i x) l.0 l.1 r.branches in
      let a = all-sketched d l.0 q.0 l.2 q.2 (suc i) bs ks in
      record {
        next = a.next;
        front = steps_for b i x ++ a.front;
        before = (λ j. steps_for b i x ++ steps_from P names (l.1 j ++ bs) (suc i) xs) ∙ (λ j. steps_for b i x ++ a.before j) ∙ sym (append_assoc (steps_for b i x) a.front (steps_from P names bs a.next rest));
        after = (λ j. sym r.steps j ++ sketched_from (q.1 j ++ ks) (suc i) xs) ∙ (λ j. steps_for b i x ++ a.after j) ∙ sym (append_assoc (steps_for b i x) a.front (sketched_from ks a.next rest));
        names_front = names_for b i x ++ a.names_front;
        names_before = (λ j. names_for b i x ++ names_from P names (l.1 j ++ bs) (suc i) xs) ∙ (λ j. names_for b i x ++ a.names_before j) ∙ sym (append_assoc (names_for b i x) a.names_front (names_from P names bs a.next rest));
        names_after = (λ j. sym r.listed j ++ names_sketched_from (q.1 j ++ ks) (suc i) xs) ∙ (λ j. names_for b i x ++ a.names_after j) ∙ sym (append_assoc (names_for b i x) a.names_front (names_sketched_from ks a.next rest));
      }
  all-sketched (fork {t = t} {u = u} {x = x} {xs = xs} {ys = ys} {rest = rest} e d1 d2) b k same h i bs ks =
      let P = intuitionistic phi symbols in
      let e' = subst (λ (s : Sequent). apply P names s x ≡ Ok (two t u)) (sym same) e in
      let r = stepped b k i x (two t u) h e' in
      let l = led b i x (two t u) e' in
      let q = two-of (branches_for P names b i x) (sketches_for k i x) l.0 l.1 l.2 r.branches in
      let a = all-sketched d1 l.0 q.0 l.3 q.3 (suc i) (l.1 ∷ bs) (q.1 ∷ ks) in
      let c = all-sketched d2 l.1 q.1 l.4 q.4 a.next bs ks in
      record {
        next = c.next;
        front = steps_for b i x ++ (a.front ++ c.front);
        before = (λ j. steps_for b i x ++ steps_from P names (l.2 j ++ bs) (suc i) xs) ∙ (λ j. steps_for b i x ++ a.before j) ∙ (λ j. steps_for b i x ++ (a.front ++ c.before j)) ∙ regroup (steps_for b i x) a.front c.front (steps_from P names bs c.next rest);
        after = (λ j. sym r.steps j ++ sketched_from (q.2 j ++ ks) (suc i) xs) ∙ (λ j. steps_for b i x ++ a.after j) ∙ (λ j. steps_for b i x ++ (a.front ++ c.after j)) ∙ regroup (steps_for b i x) a.front c.front (sketched_from ks c.next rest);
        names_front = names_for b i x ++ (a.names_front ++ c.names_front);
        names_before = (λ j. names_for b i x ++ names_from P names (l.2 j ++ bs) (suc i) xs) ∙ (λ j. names_for b i x ++ a.names_before j) ∙ (λ j. names_for b i x ++ (a.names_front ++ c.names_before j)) ∙ regroup (names_for b i x) a.names_front c.names_front (names_from P names bs c.next rest);
        names_after = (λ j. sym r.listed j ++ names_sketched_from (q.2 j ++ ks) (suc i) xs) ∙ (λ j. names_for b i x ++ a.names_after j) ∙ (λ j. names_for b i x ++ (a.names_front ++ c.names_after j)) ∙ regroup (names_for b i x) a.names_front c.names_front (names_sketched_from ks c.next rest);
      }
    where
      regroup : {A : Type 0} (f g h r : List A) → f ++ (g ++ (h ++ r)) ≡ (f ++ (g ++ h)) ++ r
      regroup f g h r = (λ j. f ++ sym (append_assoc g h r) j) ∙ sym (append_assoc f (g ++ h) r)

-- what the code computes is the transfer
pub sketched-same : (P : Problem) (d : Derivation) → P.setting ≡ setting_of Intuitionistic Cumulative → Derives P d → sketched P d ≡ transferred P d
sketched-same P d setting derives =
    let Q = intuitionistic P.formula P.symbols in
    let same : P ≡ Q = λ j. record { setting = setting j; formula = P.formula; symbols = P.symbols } in
    subst (λ (R : Problem). sketched R d ≡ transferred R d) (sym same) (whole P.formula P.symbols (subst (λ (R : Problem). Derives R d) same derives))
  where
    whole : (phi : Formula) (symbols : List Symbol) → Derives (intuitionistic phi symbols) d → sketched (intuitionistic phi symbols) d ≡ transferred (intuitionistic phi symbols) d
    whole phi symbols derives =
        let Q = intuitionistic phi symbols in
        let k = first_sketch phi in
        let h : Sketches d.names (first_branch Q) k = record { entries = refl; places = refl; count = refl; characters = λ m. refl; eigens = refl; seen = tt } in
        let a = all-sketched phi symbols d.names derives (first_branch Q) k refl h 1 [] [] in
        let names : names_sketched_from (k ∷ []) 1 d.steps ≡ names_from Q d.names (first_branch Q ∷ []) 1 d.steps = a.names_after ∙ sym a.names_before in
        let steps : sketched_from (k ∷ []) 1 d.steps ≡ steps_from Q d.names (first_branch Q ∷ []) 1 d.steps = a.after ∙ sym a.before in
        λ j. record { limit = d.limit; names = names_with (names j); steps = steps j }
