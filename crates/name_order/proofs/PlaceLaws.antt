-- The positions of a formula in preorder are those that the ways lead to.
use Rattle.std.proofs.Common.{◌≡◌, ℕ, zero, suc, ◌+◌, ◌-◌, ◌<◌, ◌≤◌, List, [], ◌∷◌, ◌++◌, length, Bool, true, false, nat_lt, Option, Some, None, option_and_then, slice_get, arith, refl, sym, ◌∙◌, ap, if◌then◌else◌, append-nil, append_assoc, get_or}
use Rattle.std.specs.Option.{option_map_or}
use Rattle.std.proofs.lemmas.Bool.Decides.{nat_tests}
use Rattle.std.proofs.lemmas.List.{length-append}
use Rattle.calculus.specs.declared.sign.Sign.{Sign}
use Rattle.calculus.specs.declared.sign.Sign.TheVariants.{T, F}
use Rattle.calculus.specs.declared.setting.Logic.{Logic}
use Rattle.calculus.specs.declared.kind.Shape.{Shape}
use Rattle.calculus.specs.declared.kind.Shape.TheVariants.{Literal}
use Rattle.calculus.specs.declared.kind.ModalPart.{ModalPart}
use Rattle.calculus.specs.Kinds.{other, Signed, components, shape_of, modal_of}
use Rattle.calculus.specs.Positions.{size, Node, node, way_from}
use Rattle.calculus.specs.Skolem.{last_node, way_to, is_delta, is_pi, is_delta_position, is_pi_position}
use Rattle.calculus.specs.Syntax.{Formula, atom, neg, conj, disj, imp, all, ex, box, dia, Problem}
use Rattle.conversion_theory.specs.Turns.{last_but_one, parent_position}
use Rattle.name_order.specs.Places.{Place, place, places, places_of}
use Rattle.name_order.specs.PlaceView.{the_place, the_places}
use Rattle.name_order.specs.declared.place.Place as program

-- ---- by the components

abbrev pub places_below : Logic → ℕ → Shape → List Signed → List Place
places_below l q Literal cs = []
places_below l q k [] = []
places_below l q k (a ∷ []) = places l (Some q) (suc q) a.sign a.formula
places_below l q k (a ∷ b ∷ cs) = places l (Some q) (suc q) a.sign a.formula ++ places l (Some q) (suc (q + size a.formula)) b.sign b.formula

pub places-by : (l : Logic) (up : Option ℕ) (q : ℕ) (s : Sign) (f : Formula) → places l up q s f ≡ place l up s f ∷ places_below l q (shape_of s f) (components s f)
places-by l up q s (atom p ts) = refl
places-by l up q s (neg a) = refl
places-by l up q T (conj a b) = refl
places-by l up q F (conj a b) = refl
places-by l up q T (disj a b) = refl
places-by l up q F (disj a b) = refl
places-by l up q T (imp a b) = refl
places-by l up q F (imp a b) = refl
places-by l up q T (all a) = refl
places-by l up q F (all a) = refl
places-by l up q T (ex a) = refl
places-by l up q F (ex a) = refl
places-by l up q s (box a) = refl
places-by l up q s (dia a) = refl

pub ruleset place_by_place = (places-by, append_assoc, append-nil)

-- ---- along the ways

abbrev pub place_along : Logic → Option ℕ → List Node → Option Place
place_along l up [] = None
place_along l up (n ∷ []) = Some (place l up n.sign n.formula)
place_along l up (n ∷ m ∷ ns) = place_along l (Some n.position) (m ∷ ns)

way-begins : (q : ℕ) (s : Sign) (f : Formula) (p : ℕ) → p < size f → (ns : List Node) × (way_from q s f p ≡ node q s f ∷ ns)
way-begins q s f zero h = ([], refl)
way-begins q s (atom r ts) (suc p) h = absurd (omega arith)
way-begins q s (neg a) (suc p) h = (_, refl)
way-begins q s (conj a b) (suc p) h = (_, refl)
way-begins q s (disj a b) (suc p) h = (_, refl)
way-begins q s (imp a b) (suc p) h = (_, refl)
way-begins q s (all a) (suc p) h = (_, refl)
way-begins q s (ex a) (suc p) h = (_, refl)
way-begins q s (box a) (suc p) h = (_, refl)
way-begins q s (dia a) (suc p) h = (_, refl)

-- one position further on a way
along-next : (l : Logic) (up : Option ℕ) (n : Node) (q : ℕ) (s : Sign) (f : Formula) (p : ℕ) → p < size f → place_along l up (n ∷ way_from q s f p) ≡ place_along l (Some n.position) (way_from q s f p)
along-next l up n q s f p h = let b = way-begins q s f p h in rw b.1 refl

two-length : {A : Type 0} (xs ys : List A) (n m : ℕ) → length xs ≡ n → length ys ≡ m → length (xs ++ ys) ≡ n + m
two-length xs ys n m e g = length-append xs ys ∙ (rw (e, g) refl)

pub places-length : (l : Logic) (up : Option ℕ) (q : ℕ) (s : Sign) (f : Formula) → length (places l up q s f) ≡ size f
places-length l up q s (atom p ts) = refl
places-length l up q s (neg a) = ap suc (places-length l (Some q) (suc q) (other s) a)
places-length l up q s (conj a b) = ap suc (two-length (places l (Some q) (suc q) s a) (places l (Some q) (suc (q + size a)) s b) (size a) (size b) (places-length l (Some q) (suc q) s a) (places-length l (Some q) (suc (q + size a)) s b))
places-length l up q s (disj a b) = ap suc (two-length (places l (Some q) (suc q) s a) (places l (Some q) (suc (q + size a)) s b) (size a) (size b) (places-length l (Some q) (suc q) s a) (places-length l (Some q) (suc (q + size a)) s b))
places-length l up q s (imp a b) = ap suc (two-length (places l (Some q) (suc q) (other s) a) (places l (Some q) (suc (q + size a)) s b) (size a) (size b) (places-length l (Some q) (suc q) (other s) a) (places-length l (Some q) (suc (q + size a)) s b))
places-length l up q s (all a) = ap suc (places-length l (Some q) (suc q) s a)
places-length l up q s (ex a) = ap suc (places-length l (Some q) (suc q) s a)
places-length l up q s (box a) = ap suc (places-length l (Some q) (suc q) s a)
places-length l up q s (dia a) = ap suc (places-length l (Some q) (suc q) s a)

-- an item of two lists joined
left-item : {A : Type 0} (xs ys : List A) (p : ℕ) → p < length xs → slice_get (xs ++ ys) p ≡ slice_get xs p
left-item [] ys p h = absurd (omega arith)
left-item (x ∷ xs) ys zero h = refl
left-item (x ∷ xs) ys (suc p) h = left-item xs ys p (omega arith)

right-item : {A : Type 0} (xs ys : List A) (k p : ℕ) → k ≡ length xs + p → slice_get (xs ++ ys) k ≡ slice_get ys p
right-item [] ys k p e = let same : k ≡ p = omega arith in ap (slice_get ys) same
right-item (x ∷ xs) ys zero p e = absurd (omega arith)
right-item (x ∷ xs) ys (suc k) p e = right-item xs ys k p (omega arith)

two-ways : (l : Logic) (q n p m : ℕ) (xs ys : List Place) (first second : List Node) → length xs ≡ n → p < n + m → (p < n → slice_get xs p ≡ place_along l (Some q) first) → (p - n < m → slice_get ys (p - n) ≡ place_along l (Some q) second) → slice_get (xs ++ ys) p ≡ place_along l (Some q) (if nat_lt p n then first else second)
two-ways l q n p m xs ys first second e lt f g = by (nat_lt p n) refl
  where
    by : (b : Bool) → nat_lt p n ≡ b → slice_get (xs ++ ys) p ≡ place_along l (Some q) (if nat_lt p n then first else second)
    by true t = let k : p < n = grind (arith, nat_tests) in rw t (left-item xs ys p (omega (arith, e, k)) ∙ f k)
    by false t = let k : n ≤ p = grind (arith, nat_tests) in let r : p ≡ length xs + (p - n) = omega (arith, e, k) in rw t (right-item xs ys p (p - n) r ∙ g (omega (arith, lt, k)))

both-along : (l : Logic) (up : Option ℕ) (n : Node) (p k : ℕ) (first second : List Node) → (p < k → (m : Node) × (ms : List Node) × (first ≡ m ∷ ms)) → (k ≤ p → (m : Node) × (ms : List Node) × (second ≡ m ∷ ms)) → place_along l up (n ∷ (if nat_lt p k then first else second)) ≡ place_along l (Some n.position) (if nat_lt p k then first else second)
both-along l up n p k first second f g = by (nat_lt p k) refl
  where
    by : (b : Bool) → nat_lt p k ≡ b → place_along l up (n ∷ (if nat_lt p k then first else second)) ≡ place_along l (Some n.position) (if nat_lt p k then first else second)
    by true t = let r = f (grind (arith, nat_tests)) in rw (t, r.2) refl
    by false t = let r = g (grind (arith, nat_tests)) in rw (t, r.2) refl

begun : (q : ℕ) (s : Sign) (f : Formula) (p : ℕ) → p < size f → (m : Node) × (ms : List Node) × (way_from q s f p ≡ m ∷ ms)
begun q s f p h = let b = way-begins q s f p h in (node q s f, b.0, b.1)

-- the item at a position is what stands at the end of the way to it
pub places-along : (l : Logic) (up : Option ℕ) (q : ℕ) (s : Sign) (f : Formula) (p : ℕ) → p < size f → slice_get (places l up q s f) p ≡ place_along l up (way_from q s f p)
places-along l up q s (atom r ts) zero h = refl
places-along l up q s (neg a) zero h = refl
places-along l up q s (conj a b) zero h = refl
places-along l up q s (disj a b) zero h = refl
places-along l up q s (imp a b) zero h = refl
places-along l up q s (all a) zero h = refl
places-along l up q s (ex a) zero h = refl
places-along l up q s (box a) zero h = refl
places-along l up q s (dia a) zero h = refl
places-along l up q s (atom r ts) (suc p) h = absurd (omega arith)
places-along l up q s (neg a) (suc p) h = places-along l (Some q) (suc q) (other s) a p (omega arith) ∙ sym (along-next l up (node q s (neg a)) (suc q) (other s) a p (omega arith))
places-along l up q s (all a) (suc p) h = places-along l (Some q) (suc q) s a p (omega arith) ∙ sym (along-next l up (node q s (all a)) (suc q) s a p (omega arith))
places-along l up q s (ex a) (suc p) h = places-along l (Some q) (suc q) s a p (omega arith) ∙ sym (along-next l up (node q s (ex a)) (suc q) s a p (omega arith))
places-along l up q s (box a) (suc p) h = places-along l (Some q) (suc q) s a p (omega arith) ∙ sym (along-next l up (node q s (box a)) (suc q) s a p (omega arith))
places-along l up q s (dia a) (suc p) h = places-along l (Some q) (suc q) s a p (omega arith) ∙ sym (along-next l up (node q s (dia a)) (suc q) s a p (omega arith))
places-along l up q s (conj a b) (suc p) h =
    two-ways l q (size a) p (size b) (places l (Some q) (suc q) s a) (places l (Some q) (suc (q + size a)) s b) (way_from (suc q) s a p) (way_from (suc (q + size a)) s b (p - size a)) (places-length l (Some q) (suc q) s a) (omega arith) (λ k. places-along l (Some q) (suc q) s a p k) (λ k. places-along l (Some q) (suc (q + size a)) s b (p - size a) k)
    ∙ sym (both-along l up (node q s (conj a b)) p (size a) (way_from (suc q) s a p) (way_from (suc (q + size a)) s b (p - size a)) (λ k. begun (suc q) s a p k) (λ k. begun (suc (q + size a)) s b (p - size a) (omega (arith, h, k))))
places-along l up q s (disj a b) (suc p) h =
    two-ways l q (size a) p (size b) (places l (Some q) (suc q) s a) (places l (Some q) (suc (q + size a)) s b) (way_from (suc q) s a p) (way_from (suc (q + size a)) s b (p - size a)) (places-length l (Some q) (suc q) s a) (omega arith) (λ k. places-along l (Some q) (suc q) s a p k) (λ k. places-along l (Some q) (suc (q + size a)) s b (p - size a) k)
    ∙ sym (both-along l up (node q s (disj a b)) p (size a) (way_from (suc q) s a p) (way_from (suc (q + size a)) s b (p - size a)) (λ k. begun (suc q) s a p k) (λ k. begun (suc (q + size a)) s b (p - size a) (omega (arith, h, k))))
places-along l up q s (imp a b) (suc p) h =
    two-ways l q (size a) p (size b) (places l (Some q) (suc q) (other s) a) (places l (Some q) (suc (q + size a)) s b) (way_from (suc q) (other s) a p) (way_from (suc (q + size a)) s b (p - size a)) (places-length l (Some q) (suc q) (other s) a) (omega arith) (λ k. places-along l (Some q) (suc q) (other s) a p k) (λ k. places-along l (Some q) (suc (q + size a)) s b (p - size a) k)
    ∙ sym (both-along l up (node q s (imp a b)) p (size a) (way_from (suc q) (other s) a p) (way_from (suc (q + size a)) s b (p - size a)) (λ k. begun (suc q) (other s) a p k) (λ k. begun (suc (q + size a)) s b (p - size a) (omega (arith, h, k))))

-- ---- what the list tells of a problem's positions

beyond : {A : Type 0} (xs : List A) (p : ℕ) → length xs ≤ p → slice_get xs p ≡ None
beyond [] p h = refl
beyond (x ∷ xs) zero h = absurd (omega arith)
beyond (x ∷ xs) (suc p) h = beyond xs p (omega arith)

pub place-at : (P : Problem) (p : ℕ) → slice_get (places_of P) p ≡ place_along P.setting.logic None (way_to P p)
place-at P p = by (nat_lt p (size P.formula)) refl
  where
    by : (b : Bool) → nat_lt p (size P.formula) ≡ b → slice_get (places_of P) p ≡ place_along P.setting.logic None (way_to P p)
    by true t = rw t (places-along P.setting.logic None 0 F P.formula p (grind (arith, nat_tests)))
    by false t = let k : size P.formula ≤ p = grind (arith, nat_tests) in rw t (beyond (places_of P) p (omega (arith, places-length P.setting.logic None 0 F P.formula, k)))

abbrev pub above_of : Option Place → Option ℕ
above_of o = option_and_then (λ (x : Place). x.above) o

above-along : (l : Logic) (ns : List Node) → above_of (place_along l None ns) ≡ last_but_one ns
above-along l [] = refl
above-along l (n ∷ []) = refl
above-along l (n ∷ m ∷ []) = refl
above-along l (n ∷ m ∷ k ∷ ns) = above-along l (m ∷ k ∷ ns)

kind-along : (l : Logic) (test : ModalPart → Shape → Bool) (up : Option ℕ) (ns : List Node) → option_map_or (λ (x : Place). test x.modal x.shape) (place_along l up ns) false ≡ option_map_or (λ (n : Node). test (modal_of l n.sign n.formula) (shape_of n.sign n.formula)) (last_node ns) false
kind-along l test up [] = refl
kind-along l test up (n ∷ []) = refl
kind-along l test up (n ∷ m ∷ ns) = kind-along l test (Some n.position) (m ∷ ns)

pub above-is : (P : Problem) (p : ℕ) → above_of (slice_get (places_of P) p) ≡ parent_position P p
above-is P p = ap above_of (place-at P p) ∙ above-along P.setting.logic (way_to P p)

pub delta-is : (P : Problem) (p : ℕ) → option_map_or (λ (x : Place). is_delta x.shape) (slice_get (places_of P) p) false ≡ is_delta_position P p
delta-is P p = ap (λ o. option_map_or (λ (x : Place). is_delta x.shape) o false) (place-at P p) ∙ kind-along P.setting.logic (λ m s. is_delta s) None (way_to P p)

pub pi-is : (P : Problem) (p : ℕ) → option_map_or (λ (x : Place). is_pi x.modal) (slice_get (places_of P) p) false ≡ is_pi_position P p
pi-is P p = ap (λ o. option_map_or (λ (x : Place). is_pi x.modal) o false) (place-at P p) ∙ kind-along P.setting.logic (λ m s. is_pi m) None (way_to P p)

-- ---- the program's list

pub place-read : (ps : List program.Place) (p : ℕ) (x d : program.Place) → p < length ps → x ≡ get_or ps p d → Some (the_place x) ≡ slice_get (the_places ps) p
place-read [] p x d h e = absurd (omega arith)
place-read (y ∷ ps) zero x d h e = ap (λ z. Some (the_place z)) e
place-read (y ∷ ps) (suc p) x d h e = place-read ps p x d (omega arith) e

pub place-none : (ps : List program.Place) (p : ℕ) → length ps ≤ p → None ≡ slice_get (the_places ps) p
place-none [] p h = refl
place-none (y ∷ ps) zero h = absurd (omega arith)
place-none (y ∷ ps) (suc p) h = place-none ps p (omega arith)

pub ruleset place_reads = (place-read, place-none)
