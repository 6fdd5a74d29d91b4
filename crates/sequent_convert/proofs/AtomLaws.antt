-- The positions of atoms are those at which the calculus has literals.
use Rattle.std.proofs.Common.{◌≡◌, ℕ, zero, suc, ◌+◌, ◌-◌, ◌≤◌, ◌<◌, List, [], ◌∷◌, ◌++◌, length, length-append, Bool, true, false, Option, Some, None, Contains, nat_lt, if◌then◌else◌, refl, sym, ◌∙◌, ap, subst, inl, inr, slice_get, arith, lt-ltb, le-ltb}
use Rattle.std.specs.Option.{option_map_or}
use Rattle.std.proofs.lemmas.Bool.{false≢true, cases_Bool, ltb-true, ltb-false}
use Rattle.calculus.specs.declared.sign.Sign.{Sign}
use Rattle.calculus.specs.declared.sign.Sign.TheVariants.{T, F}
use Rattle.calculus.specs.Kinds.{other, shape_of}
use Rattle.calculus.specs.Syntax.{Formula, atom, neg, conj, disj, imp, all, ex, box, dia, Problem}
use Rattle.calculus.specs.Positions.{size, Node, node, way_from, way}
use Rattle.calculus.specs.Skolem.{last_node, way_to}
use Rattle.conversion_theory.specs.Leading.{is_literal_shape, is_literal_position}
use Rattle.sequent_convert.specs.Atoms.{atoms_of}

pub atoms-count : (f : Formula) → length (atoms_of f) ≡ size f
atoms-count (atom p ts) = refl
atoms-count (neg a) = ap suc (atoms-count a)
atoms-count (conj a b) = let n = length-append (atoms_of a) (atoms_of b) in let x = atoms-count a in let y = atoms-count b in omega (arith, n, x, y)
atoms-count (disj a b) = let n = length-append (atoms_of a) (atoms_of b) in let x = atoms-count a in let y = atoms-count b in omega (arith, n, x, y)
atoms-count (imp a b) = let n = length-append (atoms_of a) (atoms_of b) in let x = atoms-count a in let y = atoms-count b in omega (arith, n, x, y)
atoms-count (all a) = ap suc (atoms-count a)
atoms-count (ex a) = ap suc (atoms-count a)
atoms-count (box a) = ap suc (atoms-count a)
atoms-count (dia a) = ap suc (atoms-count a)

-- whether the last of the nodes is a literal
abbrev ends_in_literal : List Node → Bool
ends_in_literal ns = option_map_or (λ (n : Node). is_literal_shape (shape_of n.sign n.formula)) (last_node ns) false

abbrev IsCons : List Node → Type 0
IsCons [] = ⊥
IsCons (n ∷ ns) = Unit {0}

cons-some : (n : Node) (ns : List Node) → IsCons ns → ends_in_literal (n ∷ ns) ≡ ends_in_literal ns
cons-some n [] h = absurd h
cons-some n (m ∷ ns) h = refl

in-left : (xs ys : List Bool) (p : ℕ) → p < length xs → slice_get (xs ++ ys) p ≡ slice_get xs p
in-left [] ys p lt = absurd (omega (arith, lt))
in-left (x ∷ xs) ys zero lt = refl
in-left (x ∷ xs) ys (suc p) lt = in-left xs ys p (omega (arith, lt))

in-right : (xs ys : List Bool) (p : ℕ) → length xs ≤ p → slice_get (xs ++ ys) p ≡ slice_get ys (p - length xs)
in-right [] ys p le = ap (slice_get ys) (omega arith)
in-right (x ∷ xs) ys zero le = absurd (omega (arith, le))
in-right (x ∷ xs) ys (suc p) le = in-right xs ys p (omega (arith, le)) ∙ ap (slice_get ys) (omega arith)

below : (n : Node) (b : Bool) (bs : List Bool) (p : ℕ) (ns : List Node) → (slice_get bs p ≡ Some (ends_in_literal ns)) × IsCons ns → (slice_get (b ∷ bs) (suc p) ≡ Some (ends_in_literal (n ∷ ns))) × IsCons (n ∷ ns)
below n b bs p ns h = (h.0 ∙ ap Some (sym (cons-some n ns h.1)), tt)

either : (a c : Formula) (p : ℕ) (ns ms : List Node) → p < size a + size c → (p < size a → (slice_get (atoms_of a) p ≡ Some (ends_in_literal ns)) × IsCons ns) → (p - size a < size c → (slice_get (atoms_of c) (p - size a) ≡ Some (ends_in_literal ms)) × IsCons ms) → (slice_get (atoms_of a ++ atoms_of c) p ≡ Some (ends_in_literal (if nat_lt p (size a) then ns else ms))) × IsCons (if nat_lt p (size a) then ns else ms)
either a c p ns ms lt left right = elim (cases_Bool (nat_lt p (size a))) [
  | inl e ↦ let small : p < size a = ltb-true p (size a) e in let count = atoms-count a in rw e ((in-left (atoms_of a) (atoms_of c) p (omega (arith, small, count)) ∙ (left small).0), (left small).1)
  | inr e ↦ let large : size a ≤ p = ltb-false p (size a) e in let count = atoms-count a in let r = right (omega (arith, large, lt)) in rw e ((in-right (atoms_of a) (atoms_of c) p (omega (arith, large, count)) ∙ ap (slice_get (atoms_of c)) (omega (arith, count)) ∙ r.0), r.1)
]

pub atom-at : (q : ℕ) (s : Sign) (f : Formula) (p : ℕ) → p < size f → (slice_get (atoms_of f) p ≡ Some (ends_in_literal (way_from q s f p))) × IsCons (way_from q s f p)
atom-at q s (atom r ts) zero lt = (refl, tt)
atom-at q s (atom r ts) (suc p) lt = absurd (omega (arith, lt))
atom-at q s (neg a) zero lt = (refl, tt)
atom-at q s (neg a) (suc p) lt = below (node q s (neg a)) false (atoms_of a) p (way_from (suc q) (other s) a p) (atom-at (suc q) (other s) a p (omega (arith, lt)))
atom-at q T (conj a b) zero lt = (refl, tt)
atom-at q F (conj a b) zero lt = (refl, tt)
atom-at q s (conj a b) (suc p) lt = below (node q s (conj a b)) false (atoms_of a ++ atoms_of b) p _ (either a b p (way_from (suc q) s a p) (way_from (suc (q + size a)) s b (p - size a)) (omega (arith, lt)) (λ l. atom-at (suc q) s a p l) (λ l. atom-at (suc (q + size a)) s b (p - size a) l))
atom-at q T (disj a b) zero lt = (refl, tt)
atom-at q F (disj a b) zero lt = (refl, tt)
atom-at q s (disj a b) (suc p) lt = below (node q s (disj a b)) false (atoms_of a ++ atoms_of b) p _ (either a b p (way_from (suc q) s a p) (way_from (suc (q + size a)) s b (p - size a)) (omega (arith, lt)) (λ l. atom-at (suc q) s a p l) (λ l. atom-at (suc (q + size a)) s b (p - size a) l))
atom-at q T (imp a b) zero lt = (refl, tt)
atom-at q F (imp a b) zero lt = (refl, tt)
atom-at q s (imp a b) (suc p) lt = below (node q s (imp a b)) false (atoms_of a ++ atoms_of b) p _ (either a b p (way_from (suc q) (other s) a p) (way_from (suc (q + size a)) s b (p - size a)) (omega (arith, lt)) (λ l. atom-at (suc q) (other s) a p l) (λ l. atom-at (suc (q + size a)) s b (p - size a) l))
atom-at q T (all a) zero lt = (refl, tt)
atom-at q F (all a) zero lt = (refl, tt)
atom-at q s (all a) (suc p) lt = below (node q s (all a)) false (atoms_of a) p (way_from (suc q) s a p) (atom-at (suc q) s a p (omega (arith, lt)))
atom-at q T (ex a) zero lt = (refl, tt)
atom-at q F (ex a) zero lt = (refl, tt)
atom-at q s (ex a) (suc p) lt = below (node q s (ex a)) false (atoms_of a) p (way_from (suc q) s a p) (atom-at (suc q) s a p (omega (arith, lt)))
atom-at q s (box a) zero lt = (refl, tt)
atom-at q s (box a) (suc p) lt = below (node q s (box a)) false (atoms_of a) p (way_from (suc q) s a p) (atom-at (suc q) s a p (omega (arith, lt)))
atom-at q s (dia a) zero lt = (refl, tt)
atom-at q s (dia a) (suc p) lt = below (node q s (dia a)) false (atoms_of a) p (way_from (suc q) s a p) (atom-at (suc q) s a p (omega (arith, lt)))

-- a position of the problem
pub literal-at : (P : Problem) (p : ℕ) → p < size P.formula → slice_get (atoms_of P.formula) p ≡ Some (is_literal_position P p)
literal-at P p lt =
    let same : way_to P p ≡ way_from 0 F P.formula p = rw (lt-ltb p (size P.formula) lt) refl in
    (atom-at 0 F P.formula p lt).0 ∙ ap Some (ap ends_in_literal (sym same))
