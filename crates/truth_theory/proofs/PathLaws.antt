-- The nodes of a way: each stands at the end of the way to its own position.
use Rattle.std.proofs.Common.{◌≡◌, ℕ, zero, suc, ◌+◌, ◌-◌, ◌<◌, List, [], ◌∷◌, ◌++◌, Some, refl, sym, ◌∙◌, ap, subst, inl, inr, arith, nat_lt, append_assoc, append-nil, add-zero, one-add, add_assoc, ltb-true}
use Rattle.std.proofs.lemmas.Bool.{cases_Bool, cases_lt}
use Rattle.plain_laws.proofs.Options.{none_some}
use Rattle.calculus.specs.declared.sign.Sign.{Sign}
use Rattle.calculus.specs.declared.sign.Sign.TheVariants.{T, F}
use Rattle.calculus.specs.declared.kind.Shape.TheVariants.{Alpha, Literal}
use Rattle.calculus.specs.Syntax.{Formula, atom, neg, conj, disj, imp, all, ex, box, dia, Problem}
use Rattle.calculus.specs.Kinds.{Signed, signed, other, shape_of, components}
use Rattle.calculus.specs.Positions.{size, Node, node, way_from, way}
use Rattle.calculus.specs.Skolem.{way_to, last_node}
use Rattle.calculus.proofs.PositionLaws.{size-pos}
use Rattle.calculus.proofs.InstanceLaws.{WayDown, root-stands}
use Rattle.conversion_theory.proofs.PlaceLaws.{down-only, down-two}

-- of the nodes ns, which come behind those before
abbrev pub IsPath : Problem → List Node → List Node → Type 0
IsPath P before [] = Unit {0}
IsPath P before (n ∷ ns) = (way_to P n.position ≡ before ++ n ∷ []) × IsPath P (before ++ n ∷ []) ns

pub path-front : (P : Problem) (before ns ms : List Node) → IsPath P before (ns ++ ms) → IsPath P before ns
path-front P before [] ms h = tt
path-front P before (n ∷ ns) ms h = (h.0, path-front P (before ++ n ∷ []) ns ms h.1)

pub path-end : (P : Problem) (before ns : List Node) (n : Node) → IsPath P before (ns ++ n ∷ []) → way_to P n.position ≡ (before ++ ns) ++ n ∷ []
path-end P before [] n h = h.0 ∙ ap (λ ms. ms ++ n ∷ []) (sym (append-nil before))
path-end P before (m ∷ ns) n h = path-end P (before ++ m ∷ []) ns n h.1 ∙ ap (λ ms. ms ++ n ∷ []) (append_assoc before (m ∷ []) ns)

-- a signed formula stands at q behind these nodes
abbrev InWay : Problem → List Node → ℕ → Sign → Formula → Type 0
InWay P before q s f = (n : ℕ) → n < size f → way F P.formula (q + n) ≡ before ++ way_from q s f n

abbrev HasPaths : Problem → Formula → Type 0
HasPaths P f = (before : List Node) (q : ℕ) (s : Sign) → InWay P before q s f → (n : ℕ) → n < size f → IsPath P before (way_from q s f n)

alpha≢literal : Alpha ≡ Literal → ⊥
alpha≢literal e = cc

universal : (s : Sign) (a : Formula) → shape_of s (all a) ≡ Literal → ⊥
universal F a e = cc
universal T a e = cc

existential : (s : Sign) (a : Formula) → shape_of s (ex a) ≡ Literal → ⊥
existential F a e = cc
existential T a e = cc

module _ (P : Problem) where
  path-by : (before : List Node) (q : ℕ) (s : Sign) (f : Formula) → InWay P before q s f → (k : ℕ) (r : Sign) (g : Formula) → WayDown q s f k r g → HasPaths P g → (n : ℕ) → n < size g → (m : ℕ) → k + n ≡ m → IsPath P before (way_from q s f m)
  path-by before q s f h k r g d paths n lt m e =
      let here : way_to P q ≡ before ++ node q s f ∷ [] = ap (way F P.formula) (sym (add-zero q)) ∙ h 0 (size-pos f) in
      let down : InWay P (before ++ node q s f ∷ []) (q + k) r g = λ i l. ap (way F P.formula) (add_assoc q k i) ∙ h (k + i) (d i l).0 ∙ ap (λ ns. before ++ ns) (d i l).1 ∙ sym (append_assoc before (node q s f ∷ []) (way_from (q + k) r g i)) in
      subst (λ j. IsPath P before (way_from q s f j)) e (subst (IsPath P before) (sym (d n lt).1) (here, paths (before ++ node q s f ∷ []) (q + k) r down n lt))

  path-here : (before : List Node) (q : ℕ) (s : Sign) (f : Formula) → InWay P before q s f → IsPath P before (node q s f ∷ [])
  path-here before q s f h = (ap (way F P.formula) (sym (add-zero q)) ∙ h 0 (size-pos f), tt)

  path-one : (before : List Node) (q : ℕ) (s : Sign) (f : Formula) → InWay P before q s f → (a : Signed) → components s f ≡ a ∷ [] → (shape_of s f ≡ Literal → ⊥) → HasPaths P a.formula → (n : ℕ) → n < size a.formula → IsPath P before (way_from q s f (suc n))
  path-one before q s f h a e apart paths n lt = path-by before q s f h 1 a.sign a.formula (down-only q s f a e apart) paths n lt (suc n) (one-add n)

  path-two : (before : List Node) (q : ℕ) (s : Sign) (f : Formula) → InWay P before q s f → (a b : Signed) → components s f ≡ a ∷ b ∷ [] → HasPaths P a.formula → HasPaths P b.formula → (n : ℕ) → n < size a.formula + size b.formula → IsPath P before (way_from q s f (suc n))
  path-two before q s f h a b e first second n lt =
      let d = down-two q s f a b e in
      elim (cases_lt n (size a.formula)) [
        | inl less ↦ path-by before q s f h 1 a.sign a.formula d.first first n less (suc n) (one-add n)
        | inr more ↦ path-by before q s f h (suc (size a.formula)) b.sign b.formula d.second second (n - size a.formula) (omega arith) (suc n) (omega arith)
      ]

  paths : (f : Formula) → HasPaths P f
  paths f before q s h zero lt = path-here before q s f h
  paths (atom p ts) before q s h (suc n) lt = absurd (omega arith)
  paths (neg a) before q s h (suc n) lt = path-one before q s (neg a) h (signed (other s) a) refl alpha≢literal (paths a) n (omega arith)
  paths (conj a b) before q s h (suc n) lt = path-two before q s (conj a b) h (signed s a) (signed s b) refl (paths a) (paths b) n (omega arith)
  paths (disj a b) before q s h (suc n) lt = path-two before q s (disj a b) h (signed s a) (signed s b) refl (paths a) (paths b) n (omega arith)
  paths (imp a b) before q s h (suc n) lt = path-two before q s (imp a b) h (signed (other s) a) (signed s b) refl (paths a) (paths b) n (omega arith)
  paths (all a) before q s h (suc n) lt = path-one before q s (all a) h (signed s a) refl (universal s a) (paths a) n (omega arith)
  paths (ex a) before q s h (suc n) lt = path-one before q s (ex a) h (signed s a) refl (existential s a) (paths a) n (omega arith)
  paths (box a) before q s h (suc n) lt = path-one before q s (box a) h (signed s a) refl alpha≢literal (paths a) n (omega arith)
  paths (dia a) before q s h (suc n) lt = path-one before q s (dia a) h (signed s a) refl alpha≢literal (paths a) n (omega arith)

  pub way-path : (p : ℕ) → IsPath P [] (way_to P p)
  way-path p = elim (cases_Bool (nat_lt p (size P.formula))) [
    | inl e ↦ rw e (paths P.formula [] 0 F (root-stands P).in_way p (ltb-true p (size P.formula) e))
    | inr e ↦ rw e tt
  ]

-- the last node of a way
pub last-split : (ns : List Node) (n : Node) → last_node ns ≡ Some n → (before : List Node) × (ns ≡ before ++ n ∷ [])
last-split [] n e = absurd (none_some e)
last-split (m ∷ []) n e = ([], ap (λ k. k ∷ []) (let same : m ≡ n = cc in same))
last-split (m ∷ k ∷ ns) n e = let r = last-split (k ∷ ns) n e in (m ∷ r.0, ap (λ ms. m ∷ ms) r.1)
