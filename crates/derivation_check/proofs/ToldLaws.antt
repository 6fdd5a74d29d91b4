-- Homes that are told stay told while the tables and the set grow, and those that are left are told when the set is cut back.
use Rattle.std.proofs.Common.{◌≡◌, ℕ, zero, suc, ◌<◌, ◌≤◌, ◌==◌, ◌||◌, Bool, true, false, List, [], ◌∷◌, ◌++◌, length, get_or, take, drop, nat_eq, is_some, slice_get, Some, unwrap_or, take_all, refl, sym, ◌∙◌, ap, subst, arith}
use Rattle.std.proofs.lemmas.Bool.{and_parts, false≢true, or_left}
use Rattle.std.proofs.lemmas.List.{take-append-drop, take-append-le, take-take}
use Rattle.std.specs.Map.{lookup, values_of}
use Rattle.indexmap.specs.IndexMap.{insert_entry}
use Rattle.plain_laws.proofs.Booleans.{or_false}
use Rattle.calculus.specs.Calculus.{character_occurs, holds_character, is_in_home, label_after}
use Rattle.calculus.specs.Derivations.{Entry, Label, Mark, Names, Sequent, ModalArg, no_modal, to, by_new, character_eq, new_mark}
use Rattle.calculus.specs.Labels.{is_prefix}
use Rattle.calculus.specs.Substitution.{any_leaf_in}
use Rattle.calculus.specs.declared.setting.Logic.{Logic}
use Rattle.calculus.specs.declared.setting.Logic.TheVariants.{S5}
use Rattle.calculus.proofs.EqualityLaws.{character_eq-tells, nat_eq-tells}
use Rattle.label_table.specs.Longer.{IsLonger}
use Rattle.derivation_branch.specs.Occurring.{holds, in_modal}
use Rattle.derivation_branch.proofs.GrowthLaws.{any-append, any-member}
use Rattle.label_table.proofs.TableLaws.{longer-at, longer-size}
use Rattle.derivation_check.specs.ToldView.{AreCounted, AreRising, AreTold, HasMarks, is_told}

-- ---- truth values

or_right : (a b : Bool) → b ≡ true → (a || b) ≡ true
or_right true b e = refl
or_right false b e = e

-- what is there adds nothing
there_adds : (a b : Bool) → (b ≡ true → a ≡ true) → a ≡ (a || b)
there_adds true b h = refl
there_adds false true h = h refl
there_adds false false h = refl

-- ---- sets of marks that grow

pub has-longer : (labels : List Label) (M L : List ℕ) (k : ℕ) → IsLonger M L → HasMarks labels M k → HasMarks labels L k
has-longer labels M L k long h n e = ap (λ l. holds l n) long.1 ∙ any-append (λ m. n == m) M long.0 ∙ or_left (holds M n) (holds long.0 n) (h n e)

pub take-longer : (M L : List ℕ) (n : ℕ) → IsLonger M L → n ≤ length M → take n L ≡ take n M
take-longer M L n long le = ap (take n) long.1 ∙ take-append-le n M long.0 le

begins-taken : (M : List ℕ) (n : ℕ) → IsLonger (take n M) M
begins-taken M n = (drop n M, sym (take-append-drop n M))

pub told-more : (labels : List Label) (M L : List ℕ) (xs : List (ℕ × ℕ)) → IsLonger M L → AreTold labels M xs → AreTold labels L xs
told-more labels M L [] long h = tt
told-more labels M L (x ∷ xs) long h =
    let size = longer-size M L long in
    let few = h.0.count in (
      record { within = h.0.within; count = omega (arith, size, few); there = subst (λ l. HasMarks labels l x.0) (sym (take-longer M L x.1 long few)) h.0.there },
      told-more labels M L xs long h.1,
    )

-- ---- tables of labels that grow

pub told-longer : (labels more : List Label) (M : List ℕ) (xs : List (ℕ × ℕ)) → IsLonger labels more → AreTold labels M xs → AreTold more M xs
told-longer labels more M [] long h = tt
told-longer labels more M (x ∷ xs) long h =
    let size = longer-size labels more long in
    let lt = h.0.within in
    let same = longer-at labels more x.0 [] long lt in (
      record { within = omega (arith, size, lt); count = h.0.count; there = λ n e. h.0.there n (ap (holds_character (new_mark n)) (sym same) ∙ e) },
      told-longer labels more M xs long h.1,
    )

-- ---- what is told

pub told-found : (labels : List Label) (M : List ℕ) (k : ℕ) (xs : List (ℕ × ℕ)) → AreTold labels M xs → is_told k xs ≡ true → HasMarks labels M k
told-found labels M k [] h e = absurd (false≢true e)
told-found labels M k (x ∷ xs) h e = by (k == x.0) refl (told-found labels M k xs h.1)
  where
    by : (b : Bool) → (k == x.0) ≡ b → (is_told k xs ≡ true → HasMarks labels M k) → HasMarks labels M k
    by true same rest = subst (HasMarks labels M) (sym ((nat_eq-tells k x.0).0 same)) (has-longer labels (take x.1 M) M x.0 (begins-taken M x.1) h.0.there)
    by false same rest = rest (sym (ap (λ b. b || is_told k xs) same) ∙ e)

pub told-put : (labels : List Label) (M : List ℕ) (k n : ℕ) (xs : List (ℕ × ℕ)) → AreTold labels M xs → k < length labels → n ≡ length M → HasMarks labels M k → AreTold labels M (xs ++ (k, n) ∷ [])
told-put labels M k n [] h lt e g = (record { within = lt; count = omega (arith, e); there = subst (λ l. HasMarks labels l k) (sym (take_all n M (omega (arith, e)))) g }, tt)
told-put labels M k n (x ∷ xs) h lt e g = (h.0, told-put labels M k n xs h.1 lt e g)

pub told-counted : (labels : List Label) (M : List ℕ) (n : ℕ) (xs : List (ℕ × ℕ)) → AreTold labels M xs → n ≡ length M → AreCounted n xs
told-counted labels M n [] h e = tt
told-counted labels M n (x ∷ xs) h e = let few = h.0.count in (omega (arith, few, e), told-counted labels M n xs h.1 e)

-- ---- the set is cut back

told-first : (labels : List Label) (M : List ℕ) (xs more : List (ℕ × ℕ)) → AreTold labels M (xs ++ more) → AreTold labels M xs
told-first labels M [] more h = tt
told-first labels M (x ∷ xs) more h = (h.0, told-first labels M xs more h.1)

enough-taken : (k n : ℕ) (M : List ℕ) → k ≤ n → k ≤ length M → k ≤ length (take n M)
enough-taken zero n M le few = omega arith
enough-taken (suc k) zero M le few = absurd (omega (arith, le))
enough-taken (suc k) (suc n) [] le few = absurd (omega (arith, few))
enough-taken (suc k) (suc n) (m ∷ M) le few = let rest = enough-taken k n M (omega (arith, le)) (omega (arith, few)) in omega (arith, rest)

told-less : (labels : List Label) (M : List ℕ) (n : ℕ) (xs : List (ℕ × ℕ)) → AreTold labels M xs → AreCounted n xs → AreTold labels (take n M) xs
told-less labels M n [] h g = tt
told-less labels M n (x ∷ xs) h g =
    let le = g.0 in (
      record { within = h.0.within; count = enough-taken x.1 n M le h.0.count; there = subst (λ l. HasMarks labels l x.0) (sym (take-take x.1 n M le)) h.0.there },
      told-less labels M n xs h.1 g.1,
    )

pub told-cut : (labels : List Label) (M L : List ℕ) (n : ℕ) (xs ys : List (ℕ × ℕ)) → AreTold labels M xs → IsLonger ys xs → AreCounted n ys → L ≡ take n M → AreTold labels L ys
told-cut labels M L n xs ys h begins counted cut =
    subst (λ l. AreTold labels l ys) (sym cut) (told-less labels M n ys (told-first labels M ys begins.0 (subst (AreTold labels M) begins.1 h)) counted)

-- ---- the homes in their order

pub rising-put : (m k n : ℕ) (xs : List (ℕ × ℕ)) → AreRising m xs → m ≤ n → AreCounted n xs → AreRising m (xs ++ (k, n) ∷ [])
rising-put m k n [] h le g = (le, tt)
rising-put m k n (x ∷ xs) h le g = (h.0, rising-put x.1 k n xs h.1 g.0 g.1)

pub rising-take : (m n : ℕ) (xs : List (ℕ × ℕ)) → AreRising m xs → AreRising m (take n xs)
rising-take m zero xs h = tt
rising-take m (suc n) [] h = tt
rising-take m (suc n) (x ∷ xs) h = (h.0, rising-take x.1 n xs h.1)

rising-at : (m k c : ℕ) (xs : List (ℕ × ℕ)) → AreRising m xs → slice_get (values_of xs) k ≡ Some c → m ≤ c
rising-at m k c [] h e = absurd cc
rising-at m zero c (x ∷ xs) h e = subst (λ v. m ≤ v) (ap (λ o. unwrap_or o x.1) e) h.0
rising-at m (suc k) c (x ∷ xs) h e = let first = h.0 in let rest = rising-at x.1 k c xs h.1 e in omega (arith, first, rest)

pub cut-counted : (m n left c : ℕ) (xs : List (ℕ × ℕ)) → AreRising m xs → slice_get (values_of xs) left ≡ Some c → c ≤ n → AreCounted n (take (suc left) xs)
cut-counted m n left c [] h e le = absurd cc
cut-counted m n zero c (x ∷ xs) h e le = let same : x.1 ≡ c = ap (λ o. unwrap_or o x.1) e in (omega (arith, same, le), tt)
cut-counted m n (suc left) c (x ∷ xs) h e le = let least = rising-at x.1 left c xs h.1 e in (omega (arith, least, le), cut-counted x.1 n left c xs h.1 e le)

pub absent-put : (k n : ℕ) (xs : List (ℕ × ℕ)) → is_told k xs ≡ false → insert_entry nat_eq xs k n ≡ xs ++ (k, n) ∷ []
absent-put k n [] e = refl
absent-put k n (x ∷ xs) e = by (k == x.0) refl (absent-put k n xs)
  where
    by : (b : Bool) → (k == x.0) ≡ b → (is_told k xs ≡ false → insert_entry nat_eq xs k n ≡ xs ++ (k, n) ∷ []) → insert_entry nat_eq (x ∷ xs) k n ≡ (x ∷ xs) ++ (k, n) ∷ []
    by true same rest = absurd (false≢true (sym e ∙ ap (λ b. b || is_told k xs) same))
    by false same rest = rw same (ap (λ l. x ∷ l) (rest (sym (ap (λ b. b || is_told k xs) same) ∙ e)))

pub found-told : (k : ℕ) (xs : List (ℕ × ℕ)) → is_some (lookup (nat_eq k) xs) ≡ is_told k xs
found-told k [] = refl
found-told k (x ∷ xs) = by (k == x.0) refl (found-told k xs)
  where
    by : (b : Bool) → (k == x.0) ≡ b → is_some (lookup (nat_eq k) xs) ≡ is_told k xs → is_some (lookup (nat_eq k) (x ∷ xs)) ≡ is_told k (x ∷ xs)
    by true same rest = rw same refl
    by false same rest = rw same rest

-- ---- labels that begin alike

character_same : (m c d : Mark) → character_eq c d ≡ true → character_eq m c ≡ character_eq m d
character_same m c d e = ap (character_eq m) ((character_eq-tells c d).0 e)

prefix-holds : (m : Mark) (w v : Label) → is_prefix character_eq w v ≡ true → holds_character m w ≡ true → holds_character m v ≡ true
prefix-holds m [] v p h = absurd (false≢true h)
prefix-holds m (c ∷ w) [] p h = absurd (false≢true p)
prefix-holds m (c ∷ w) (d ∷ v) p h =
    let parts = and_parts (character_eq c d) (is_prefix character_eq w v) p in
    by (character_eq m c) refl parts.0 (prefix-holds m w v parts.1)
  where
    by : (b : Bool) → character_eq m c ≡ b → character_eq c d ≡ true → (holds_character m w ≡ true → holds_character m v ≡ true) → holds_character m (d ∷ v) ≡ true
    by true e same rest = or_left (character_eq m d) (holds_character m v) (sym (character_same m c d same) ∙ e)
    by false e same rest = or_right (character_eq m d) (holds_character m v) (rest (sym (ap (λ b. b || holds_character m w) e) ∙ h))

pub begins-there : (labels : List Label) (at home : ℕ) (M : List ℕ) → is_prefix character_eq (get_or labels home []) (get_or labels at []) ≡ true → HasMarks labels M at → HasMarks labels M home
begins-there labels at home M p h n e = h n (prefix-holds (new_mark n) (get_or labels home []) (get_or labels at []) p e)

-- ---- what the set holds

pub there-held : (labels : List Label) (M : List ℕ) (k : ℕ) → HasMarks labels M k → (n : ℕ) → holds M n ≡ (holds M n || holds_character (new_mark n) (get_or labels k []))
there-held labels M k h n = there_adds (holds M n) (holds_character (new_mark n) (get_or labels k [])) (h n)

pub held-there : (labels : List Label) (M L : List ℕ) (k : ℕ) → ((n : ℕ) → holds L n ≡ (holds M n || holds_character (new_mark n) (get_or labels k []))) → HasMarks labels L k
held-there labels M L k h n e = h n ∙ or_right (holds M n) (holds_character (new_mark n) (get_or labels k [])) e

-- ---- the label of the components

label-parts : (m : Mark) (l : Logic) (w : Label) (x : ModalArg) → holds_character m (label_after l w x) ≡ true → (holds_character m w || in_modal m x) ≡ true
label-parts m l w no_modal h = or_left (holds_character m w) false h
label-parts m l w (to v) h = or_right (holds_character m w) (holds_character m v) h
label-parts m S5 w (by_new n) h = or_right (holds_character m w) (character_eq m (new_mark n)) (sym (or_false (character_eq m (new_mark n))) ∙ h)
label-parts m _ w (by_new n) h = sym (any-append (character_eq m) w (new_mark n ∷ []) ∙ ap (λ b. holds_character m w || b) (or_false (character_eq m (new_mark n)))) ∙ h

-- the marks of the label of an entry occur, and those of the argument were added
pub label-there : (names : Names) (labels : List Label) (M L : List ℕ) (s : Sequent) (k at : ℕ) (e : Entry) (l : Logic) (x : ModalArg) → k < length s → e ≡ get_or s k e → get_or labels at [] ≡ label_after l e.label x
    → ((n : ℕ) → holds M n ≡ character_occurs names (new_mark n) s) → ((n : ℕ) → holds L n ≡ (holds M n || in_modal (new_mark n) x)) → HasMarks labels L at
label-there names labels M L s k at e l x lt here label told held n h =
    let m = new_mark n in
    let part = label-parts m l e.label x (ap (holds_character m) (sym label) ∙ h) in
    held n ∙ ap (λ b. b || in_modal m x) (told n) ∙ occurs (holds_character m e.label) (any_leaf_in (is_in_home names m) e.formula) (character_occurs names m s) (in_modal m x) (any-member (λ (y : Entry). holds_character m y.label || any_leaf_in (is_in_home names m) y.formula) s k e lt here) part
  where
    occurs : (a b c d : Bool) → (c || (a || b)) ≡ c → (a || d) ≡ true → (c || d) ≡ true
    occurs a b true d e f = refl
    occurs true b false d e f = absurd (false≢true (sym e))
    occurs false b false d e f = f
