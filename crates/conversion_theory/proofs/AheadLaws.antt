-- The turn ahead of a branch, where its parts divide, and a measure that each action of a led converter lowers, whichever turns it makes.
use Rattle.std.proofs.Common.{◌≡◌, ◌⊎◌, ℕ, zero, suc, ◌+◌, ◌≤◌, ◌<◌, arith, List, [], ◌∷◌, ◌++◌, length, true, false, ◌==◌, refl, sym, ap, subst, inl, inr, lt-ltb, le-ltb}
use Rattle.std.proofs.lemmas.Bool.{false≢true, cases_Bool, and_parts, and_from, eqb-true}
use Rattle.calculus.specs.Equality.{list_eq, value_eq}
use Rattle.calculus.specs.Instances.{Turn}
use Rattle.conversion_theory.specs.Leading.{turn_eq, is_done, undone, turns_before}
use Rattle.calculus.proofs.EqualityLaws.{list_eq-tells, value_eq-tells, nat_eq-tells}
use Rattle.calculus.proofs.Members.{Among}
use Rattle.conversion_theory.proofs.HitLaws.{turn}
use Rattle.conversion_theory.proofs.FollowLaws.{ArePlaced}
use Rattle.conversion_theory.proofs.LeadingLaws.{room_for, measure-made}

-- ---- where the second part begins

pub before-second : (p : ℕ) (us vs : List Turn) → ArePlaced p us vs → turns_before p (us ++ vs) ≡ length us
before-second p [] [] h = refl
before-second p [] (v ∷ vs) h = let le = h.second v (inl refl) in rw (le-ltb v.position p le) refl
before-second p (u ∷ us) vs h = let lt = h.first u (inl refl) in rw (lt-ltb u.position p lt) (ap suc (before-second p us vs (record { first = λ z m. h.first z (inr m); second = h.second })))

-- ---- turns that are done

self_eq : (y : Turn) → turn_eq y y ≡ true
self_eq y = and_from (y.position == y.position) (list_eq value_eq y.values y.values) ((nat_eq-tells y.position y.position).1 refl) ((list_eq-tells value_eq value_eq-tells y.values y.values).1 refl)

same_turn : (x y : Turn) → turn_eq x y ≡ true → x ≡ y
same_turn x y e = let p = and_parts (x.position == y.position) (list_eq value_eq x.values y.values) e in let positions = eqb-true x.position y.position p.0 in let values = (list_eq-tells value_eq value_eq-tells x.values y.values).0 p.1 in λ i. turn (positions i) (values i)

pub done-among : (done : List Turn) (y : Turn) → is_done done y ≡ true → Among done y
done-among [] y e = absurd (false≢true e)
done-among (x ∷ xs) y e = elim (cases_Bool (turn_eq x y)) [ inl h ↦ inl (same_turn x y h) | inr h ↦ inr (done-among xs y (rw h at e)) ]

pub among-done : (done : List Turn) (y : Turn) → Among done y → is_done done y ≡ true
among-done [] y h = elim h [ ]
among-done (x ∷ xs) y (inl e) = let s : turn_eq x y ≡ true = subst (λ z. turn_eq x z ≡ true) e (self_eq x) in rw s refl
among-done (x ∷ xs) y (inr h) = elim (cases_Bool (turn_eq x y)) [ inl e ↦ rw e refl | inr e ↦ rw e (among-done xs y h) ]

-- one more turn is done
done-more : (done : List Turn) (x y : Turn) → is_done done y ≡ true → is_done (done ++ x ∷ []) y ≡ true
done-more done x y e = among-done (done ++ x ∷ []) y (left done (done-among done y e))
  where
    left : (zs : List Turn) → Among zs y → Among (zs ++ x ∷ []) y
    left [] h = elim h [ ]
    left (z ∷ zs) (inl q) = inl q
    left (z ∷ zs) (inr q) = inr (left zs q)

undone-more : (agenda done : List Turn) (x : Turn) → undone agenda (done ++ x ∷ []) ≤ undone agenda done
undone-more [] done x = omega arith
undone-more (y ∷ ys) done x =
    let r = undone-more ys done x in
    elim (cases_Bool (is_done done y)) [
      | inl e ↦ let f = done-more done x y e in rw (e, f) (omega arith)
      | inr e ↦ elim (cases_Bool (is_done (done ++ x ∷ []) y)) [ inl f ↦ rw (e, f) (omega arith) | inr f ↦ rw (e, f) (omega arith) ]
    ]

pub undone-less : (agenda done : List Turn) (x : Turn) → Among agenda x → (Among done x → ⊥) → undone agenda (done ++ x ∷ []) < undone agenda done
undone-less [] done x h new = elim h [ ]
undone-less (y ∷ ys) done x (inl same) new =
    let r = undone-more ys done x in
    let before : is_done done y ≡ false = elim (cases_Bool (is_done done y)) [ inl e ↦ absurd (new (subst (Among done) same (done-among done y e))) | inr e ↦ e ] in
    let after : is_done (done ++ x ∷ []) y ≡ true = among-done (done ++ x ∷ []) y (subst (Among (done ++ x ∷ [])) (sym same) (right done)) in
    rw (before, after) (omega arith)
  where
    right : (zs : List Turn) → Among (zs ++ x ∷ []) x
    right [] = inl refl
    right (z ∷ zs) = inr (right zs)
undone-less (y ∷ ys) done x (inr h) new =
    let r = undone-less ys done x h new in
    elim (cases_Bool (is_done done y)) [
      | inl e ↦ let f = done-more done x y e in rw (e, f) (omega arith)
      | inr e ↦ elim (cases_Bool (is_done (done ++ x ∷ []) y)) [ inl f ↦ rw (e, f) (omega arith) | inr f ↦ rw (e, f) (omega arith) ]
    ]

-- ---- the measure of a branch: w bounds what is ahead of any branch

room-grows : (w m n : ℕ) → m ≤ n → room_for w m ≤ room_for w n
room-grows w m zero le = let z : m ≡ 0 = omega arith in rw z (omega arith)
room-grows w m (suc n) le = elim (at_top m n le) [ inl e ↦ rw e (omega arith) | inr lower ↦ let r = room-grows w m n lower in omega arith ]
  where
    at_top : (m n : ℕ) → m ≤ suc n → (m ≡ suc n) ⊎ (m ≤ n)
    at_top m n le = grind arith

-- a turn that is made or passed over lowers it, even where it forks the branch
pub made-lowers : (w : ℕ) (agenda done : List Turn) (x : Turn) (ahead : ℕ) → Among agenda x → (Among done x → ⊥) → ahead ≤ w → (room_for w (undone agenda (done ++ x ∷ [])) + ahead) + (room_for w (undone agenda (done ++ x ∷ [])) + ahead) < room_for w (undone agenda done) + ahead
made-lowers w agenda done x ahead here new le =
    let less = undone-less agenda done x here new in
    let up = room-grows w (suc (undone agenda (done ++ x ∷ []))) (undone agenda done) less in
    let m = measure-made w (undone agenda (done ++ x ∷ [])) ahead le in
    omega arith
