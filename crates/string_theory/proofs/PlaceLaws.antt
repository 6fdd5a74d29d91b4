-- Where the components of a formula stand, and at which labels the values on the way to a place are taken.
use Rattle.std.proofs.Common.{◌≡◌, ℕ, suc, List, [], ◌∷◌, ◌++◌, Bool, true, false, refl, sym, ◌∙◌, ap, subst, arith, append_assoc}
use Rattle.std.proofs.lemmas.Bool.{false≢true}
use Rattle.calculus.specs.declared.sign.Sign.{Sign}
use Rattle.calculus.specs.declared.setting.Logic.{Logic}
use Rattle.calculus.specs.declared.kind.Shape.{Shape}
use Rattle.calculus.specs.declared.kind.Shape.TheVariants.{Literal}
use Rattle.calculus.specs.Syntax.{Formula, atom, neg, conj, disj, imp, all, ex, box, dia}
use Rattle.calculus.specs.Kinds.{Signed, other, shape_of, modal_of, components}
use Rattle.calculus.specs.Positions.{size, Node}
use Rattle.calculus.specs.Skolem.{Reached}
use Rattle.calculus.proofs.SpotLaws.{LeadsTo}
use Rattle.calculus.proofs.InstanceLaws.{WayDown, down-one, down-second, first-way, second-way}
use Rattle.calculus.proofs.CasesLaws.{first_of, second_of, one≢two}
use Rattle.string_theory.proofs.Folding.{string_use, term_use, contexts_along}

-- ---- ways down to the components

abbrev pub is_literal_shape : Shape → Bool
is_literal_shape Literal = true
is_literal_shape _ = false

pub way-only : (p : ℕ) (s : Sign) (f : Formula) (a : Signed) → is_literal_shape (shape_of s f) ≡ false → components s f ≡ a ∷ [] → WayDown p s f 1 a.sign a.formula
way-only p s (atom q ts) a h e = absurd (false≢true (sym h))
way-only p s (neg g) a h e = subst (λ (z : Signed). WayDown p s (neg g) 1 z.sign z.formula) (ap (first_of a) e) (down-one p s (other s) (neg g) g (λ n lt. (omega arith, refl)))
way-only p s (conj g k) a h e = absurd (one≢two (sym e))
way-only p s (disj g k) a h e = absurd (one≢two (sym e))
way-only p s (imp g k) a h e = absurd (one≢two (sym e))
way-only p s (all g) a h e = subst (λ (z : Signed). WayDown p s (all g) 1 z.sign z.formula) (ap (first_of a) e) (down-one p s s (all g) g (λ n lt. (omega arith, refl)))
way-only p s (ex g) a h e = subst (λ (z : Signed). WayDown p s (ex g) 1 z.sign z.formula) (ap (first_of a) e) (down-one p s s (ex g) g (λ n lt. (omega arith, refl)))
way-only p s (box g) a h e = subst (λ (z : Signed). WayDown p s (box g) 1 z.sign z.formula) (ap (first_of a) e) (down-one p s s (box g) g (λ n lt. (omega arith, refl)))
way-only p s (dia g) a h e = subst (λ (z : Signed). WayDown p s (dia g) 1 z.sign z.formula) (ap (first_of a) e) (down-one p s s (dia g) g (λ n lt. (omega arith, refl)))

pub way-first : (p : ℕ) (s : Sign) (f : Formula) (a b : Signed) → components s f ≡ a ∷ b ∷ [] → WayDown p s f 1 a.sign a.formula
way-first p s (atom q ts) a b e = absurd (one≢two e)
way-first p s (neg g) a b e = absurd (one≢two e)
way-first p s (conj g k) a b e = subst (λ (z : Signed). WayDown p s (conj g k) 1 z.sign z.formula) (ap (first_of a) e) (down-one p s s (conj g k) g (λ n lt. (omega arith, first-way p s s s (conj g k) g k n lt)))
way-first p s (disj g k) a b e = subst (λ (z : Signed). WayDown p s (disj g k) 1 z.sign z.formula) (ap (first_of a) e) (down-one p s s (disj g k) g (λ n lt. (omega arith, first-way p s s s (disj g k) g k n lt)))
way-first p s (imp g k) a b e = subst (λ (z : Signed). WayDown p s (imp g k) 1 z.sign z.formula) (ap (first_of a) e) (down-one p s (other s) (imp g k) g (λ n lt. (omega arith, first-way p s (other s) s (imp g k) g k n lt)))
way-first p s (all g) a b e = absurd (one≢two e)
way-first p s (ex g) a b e = absurd (one≢two e)
way-first p s (box g) a b e = absurd (one≢two e)
way-first p s (dia g) a b e = absurd (one≢two e)

pub way-second : (p : ℕ) (s : Sign) (f : Formula) (a b : Signed) → components s f ≡ a ∷ b ∷ [] → WayDown p s f (suc (size a.formula)) b.sign b.formula
way-second p s (atom q ts) a b e = absurd (one≢two e)
way-second p s (neg g) a b e = absurd (one≢two e)
way-second p s (conj g k) a b e = subst (λ (z : Signed). WayDown p s (conj g k) (suc (size z.formula)) b.sign b.formula) (ap (first_of a) e) (subst (λ (z : Signed). WayDown p s (conj g k) (suc (size g)) z.sign z.formula) (ap (second_of b) e) (down-second p s s (conj g k) g k refl (λ n. second-way p s s s (conj g k) g k n)))
way-second p s (disj g k) a b e = subst (λ (z : Signed). WayDown p s (disj g k) (suc (size z.formula)) b.sign b.formula) (ap (first_of a) e) (subst (λ (z : Signed). WayDown p s (disj g k) (suc (size g)) z.sign z.formula) (ap (second_of b) e) (down-second p s s (disj g k) g k refl (λ n. second-way p s s s (disj g k) g k n)))
way-second p s (imp g k) a b e = subst (λ (z : Signed). WayDown p s (imp g k) (suc (size z.formula)) b.sign b.formula) (ap (first_of a) e) (subst (λ (z : Signed). WayDown p s (imp g k) (suc (size g)) z.sign z.formula) (ap (second_of b) e) (down-second p s s (imp g k) g k refl (λ n. second-way p s (other s) s (imp g k) g k n)))
way-second p s (all g) a b e = absurd (one≢two e)
way-second p s (ex g) a b e = absurd (one≢two e)
way-second p s (box g) a b e = absurd (one≢two e)
way-second p s (dia g) a b e = absurd (one≢two e)

-- ---- contexts along a way

pub contexts-LeadsTo : (l : Logic) (ns ms : List Node) (r k : Reached) → LeadsTo l ns r k → contexts_along l (ns ++ ms) r ≡ contexts_along l ns r ++ contexts_along l ms k
contexts-LeadsTo l [] ms r k e = ap (contexts_along l ms) e
contexts-LeadsTo l (n ∷ ns) ms r k f = let taking = string_use (modal_of l n.sign n.formula) r.label ++ term_use (shape_of n.sign n.formula) in rw f.1 (ap (λ x. taking ++ x) (contexts-LeadsTo l ns ms f.0 k f.3) ∙ sym (append_assoc taking (contexts_along l ns f.0) (contexts_along l ms k)))
