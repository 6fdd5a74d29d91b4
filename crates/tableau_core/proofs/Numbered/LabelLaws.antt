-- Labels that go on by one step, atoms that are compared by numbers, and instances that are used up.
use Rattle.std.specs.Prelude.{◌≡◌, ◌↔◌, IsTrue, List, [], ◌∷◌, ◌++◌, Bool, true, false, ◌&&◌, ◌==◌, ℕ, zero, suc, ◌+◌, Some, None, take, ◌<◌, ◌≤◌, map, length, drop, refl}
use Rattle.std.specs.Bool.{Decides}
use Rattle.std.proofs.Common.{ap, sym, ◌∙◌, arith, get_or, append_assoc}
use Rattle.std.proofs.lemmas.List.{drop_all, take_more}
use Rattle.std.proofs.lemmas.Bool.Decides.{nat_tests, same_from_decides}
use Rattle.std.proofs.lemmas.List.{map-append}
use Rattle.calculus.specs.declared.setting.Logic.{Logic}
use Rattle.calculus.specs.declared.setting.Logic.TheVariants.{Classical, Intuitionistic, D, T as LogicT, S4, S5}
use Rattle.calculus.specs.declared.setting.Domains.{Domains}
use Rattle.calculus.specs.Equality.{grounds_eq, label_eq, list_eq, mark_eq}
use Rattle.calculus.specs.Ground as tree
use Rattle.calculus.specs.Labels.{home_allows, is_prefix, nu_label, pi_label}
use Rattle.calculus.specs.Lists.{g_terms_tree}
use Rattle.calculus.specs.declared.kind.ModalPart.{ModalPart}
use Rattle.calculus.specs.declared.kind.ModalPart.TheVariants.{Nu}
use Rattle.calculus.specs.Skolem.{after_modal, is_empty, take_string}
use Rattle.calculus.proofs.EqualityLaws.{label_eq-tells, mark_eq-tells}
use Rattle.formula_core.specs.GroundEq.{g_terms_eq-tells}
use Rattle.formula_core.specs.GroundLists.{GroundList, the_mark}
use Rattle.formula_core.specs.declared.ground.GroundMark.{GroundMark}
use Rattle.tableau_core.specs.Reaching.{reach}
use Rattle.tableau_core.specs.Numbered.SpotView.{the_mark_at, start_marks}
use Rattle.tableau_core.specs.declared.spot.MarkAt.{MarkAt}
use Rattle.tableau_core.specs.declared.spot.MarkAt.TheVariants as mark

pub pi-made : (ls : List GroundList) (l : Logic) (w : List MarkAt) (m : MarkAt) → map (the_mark_at ls) (start_marks l w ++ m ∷ []) ≡ pi_label l (map (the_mark_at ls) w) (the_mark_at ls m)
pi-made ls Classical w m = map-append (the_mark_at ls) w (m ∷ [])
pi-made ls Intuitionistic w m = map-append (the_mark_at ls) w (m ∷ [])
pi-made ls D w m = map-append (the_mark_at ls) w (m ∷ [])
pi-made ls LogicT w m = map-append (the_mark_at ls) w (m ∷ [])
pi-made ls S4 w m = map-append (the_mark_at ls) w (m ∷ [])
pi-made ls S5 w m = refl

pub nu-made : (ls : List GroundList) (l : Logic) (w all : List MarkAt) (s : List tree.GroundMark) → map (the_mark_at ls) all ≡ map (the_mark_at ls) (start_marks l w) ++ s → map (the_mark_at ls) all ≡ nu_label l (map (the_mark_at ls) w) s
nu-made ls Classical w all s e = e
nu-made ls Intuitionistic w all s e = e
nu-made ls D w all s e = e
nu-made ls LogicT w all s e = e
nu-made ls S4 w all s e = e
nu-made ls S5 w all s e = e

pub ruleset labels = (pi-made, nu-made)

-- lists that are the same exactly where a test says so
pub terms-told : (r : Bool) (xs ys : List tree.GroundTerm) → (IsTrue r ↔ (xs ≡ ys)) → r ≡ grounds_eq (g_terms_tree xs) (g_terms_tree ys)
terms-told r xs ys h = same_from_decides r (grounds_eq (g_terms_tree xs) (g_terms_tree ys)) h (g_terms_eq-tells xs ys)

pub marks-told : (r : Bool) (xs ys : List tree.GroundMark) → (IsTrue r ↔ (xs ≡ ys)) → r ≡ label_eq xs ys
marks-told r xs ys h = same_from_decides r (label_eq xs ys) h (label_eq-tells xs ys)

pub mark-told : (r : Bool) (x y : tree.GroundMark) → (IsTrue r ↔ (x ≡ y)) → r ≡ mark_eq x y
mark-told r x y h = same_from_decides r (mark_eq x y) h (mark_eq-tells x y)

pub ruleset told = (terms-told, marks-told, mark-told)

-- ---- a label that begins with a home, character by character

module _ {X : Type 0} (f : X → tree.GroundMark) where
  abbrev begins : List X → List X → Bool
  begins xs ys = is_prefix mark_eq (map f xs) (map f ys)

  pub longer-home : (xs ys : List X) → length ys < length xs → false ≡ begins xs ys
  longer-home [] ys h = absurd (omega (arith, h))
  longer-home (x ∷ xs) [] h = refl
  longer-home (x ∷ xs) (y ∷ ys) h = flat (mark_eq (f x) (f y)) (begins xs ys) (longer-home xs ys (omega (arith, h)))
    where
      flat : (a b : Bool) → false ≡ b → false ≡ (a && b)
      flat true b e = e
      flat false b e = refl

  begins-step : (xs ys : List X) (k : ℕ) (x y d e : X) → k < length xs → k < length ys → x ≡ get_or xs k d → y ≡ get_or ys k e → begins (drop k xs) (drop k ys) ≡ (mark_eq (f x) (f y) && begins (drop (suc k) xs) (drop (suc k) ys))
  begins-step [] ys k x y d e h g p q = absurd (omega (arith, h))
  begins-step (a ∷ xs) [] k x y d e h g p q = absurd (omega (arith, g))
  begins-step (a ∷ xs) (b ∷ ys) zero x y d e h g p q = rw (p, q) refl
  begins-step (a ∷ xs) (b ∷ ys) (suc k) x y d e h g p q = begins-step xs ys k x y d e (omega (arith, h)) (omega (arith, g)) p q

  pub begins-next : (xs ys : List X) (k j : ℕ) (x y d e : X) (r : Bool) → j ≡ suc k → k < length xs → k < length ys → x ≡ get_or xs k d → y ≡ get_or ys k e → r ≡ mark_eq (f x) (f y) → r ≡ true → begins (drop j xs) (drop j ys) ≡ begins (drop k xs) (drop k ys)
  begins-next xs ys k j x y d e r i h g p q m t = rw i (sym (begins-step xs ys k x y d e h g p q ∙ ap (λ b. b && begins (drop (suc k) xs) (drop (suc k) ys)) (sym m ∙ t)))

  pub begins-not : (xs ys : List X) (k : ℕ) (x y d e : X) (r : Bool) → k < length xs → k < length ys → x ≡ get_or xs k d → y ≡ get_or ys k e → r ≡ mark_eq (f x) (f y) → r ≡ false → false ≡ begins (drop k xs) (drop k ys)
  begins-not xs ys k x y d e r h g p q m t = sym (begins-step xs ys k x y d e h g p q ∙ ap (λ b. b && begins (drop (suc k) xs) (drop (suc k) ys)) (sym m ∙ t))

  pub begins-all : (xs ys : List X) (k : ℕ) → length xs ≤ k → true ≡ begins (drop k xs) (drop k ys)
  begins-all xs ys k h = sym (ap (λ l. begins l (drop k ys)) (drop_all k xs h))

  pub equal-begins : (xs ys : List X) (r : Bool) → length xs ≡ length ys → r ≡ begins xs ys → r ≡ list_eq mark_eq (map f xs) (map f ys)
  equal-begins [] [] r h e = e
  equal-begins [] (y ∷ ys) r h e = absurd (omega (arith, h))
  equal-begins (x ∷ xs) [] r h e = absurd (omega (arith, h))
  equal-begins (x ∷ xs) (y ∷ ys) r h e = e ∙ ap (λ b. mark_eq (f x) (f y) && b) (equal-begins xs ys (begins xs ys) (omega (arith, h)) refl)

  pub unequal-lengths : (xs ys : List X) → (length xs ≡ length ys → ⊥) → false ≡ list_eq mark_eq (map f xs) (map f ys)
  unequal-lengths [] [] h = absurd (h refl)
  unequal-lengths [] (y ∷ ys) h = refl
  unequal-lengths (x ∷ xs) [] h = refl
  unequal-lengths (x ∷ xs) (y ∷ ys) h = flat (mark_eq (f x) (f y)) (list_eq mark_eq (map f xs) (map f ys)) (unequal-lengths xs ys (λ e. h (ap suc e)))
    where
      flat : (a b : Bool) → false ≡ b → false ≡ (a && b)
      flat true b e = e
      flat false b e = refl

-- by the domains
pub home-in : (d e : Domains) (h w : List tree.GroundMark) (r : Bool) → d ≡ e → r ≡ home_allows mark_eq d h w → r ≡ home_allows mark_eq e h w
home-in d e h w r p q = q ∙ ap (λ x. home_allows mark_eq x h w) p

-- a view has as many items
pub empty-view : {X Y : Type 0} (f : X → Y) (xs : List X) (r : Bool) → r ≡ (length xs == 0) → r ≡ is_empty (map f xs)
empty-view f [] r e = e
empty-view f (x ∷ xs) r e = e ∙ grind (arith, nat_tests)

pub ruleset used_up = (empty-view)

-- the label of a nu position
pub nu-next : {X : Type 0} (f : X → tree.Value) (xs : List X) (k : ℕ) (l : Logic) (q : ℕ) (m n : ModalPart) (w moved s : List tree.GroundMark) → m ≡ n → m ≡ Nu → moved ≡ nu_label l w s → Some (reach (nu_label l w s) (map f xs) (k + 1)) ≡ take_string l (reach w (map f xs) k) (drop k (map f xs)) → Some (reach moved (map f xs) (k + 1)) ≡ after_modal l q n (reach w (map f xs) k)
nu-next f xs k l q m n w moved s e h d t = ap (λ v. Some (reach v (map f xs) (k + 1))) d ∙ t ∙ ap (λ x. after_modal l q x (reach w (map f xs) k)) (sym h ∙ e)

-- where no string stands the way ends
pub nu-stuck : {X : Type 0} (f : X → tree.Value) (xs : List X) (k : ℕ) (l : Logic) (q : ℕ) (m n : ModalPart) (w : List tree.GroundMark) → m ≡ n → m ≡ Nu → None ≡ take_string l (reach w (map f xs) k) (drop k (map f xs)) → None ≡ after_modal l q n (reach w (map f xs) k)
nu-stuck f xs k l q m n w e h t = t ∙ ap (λ x. after_modal l q x (reach w (map f xs) k)) (sym h ∙ e)

-- characters of a string are put behind others
pub given-push : (ls : List GroundList) (before : List tree.GroundMark) (all more : List MarkAt) (ms : List GroundMark) (k : ℕ) (d : GroundMark) → map (the_mark_at ls) all ≡ before ++ map (the_mark ls) (take k ms) → more ≡ all ++ mark.Given (get_or ms k d) ∷ [] → k < length ms → map (the_mark_at ls) more ≡ before ++ map (the_mark ls) (take (k + 1) ms)
given-push ls before all more ms k d e g h =
    ap (map (the_mark_at ls)) g ∙ map-append (the_mark_at ls) all (mark.Given (get_or ms k d) ∷ [])
    ∙ ap (λ xs. xs ++ the_mark ls (get_or ms k d) ∷ []) e
    ∙ append_assoc before (map (the_mark ls) (take k ms)) (the_mark ls (get_or ms k d) ∷ [])
    ∙ ap (λ xs. before ++ xs) (sym (ap (map (the_mark ls)) (take_more ms k d h) ∙ map-append (the_mark ls) (take k ms) (get_or ms k d ∷ [])))
