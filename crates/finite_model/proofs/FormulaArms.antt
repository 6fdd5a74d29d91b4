-- The formula of the calculus at each form of a formula of the program.
use Rattle.std.proofs.Common.{◌≡◌, Box, Global, sym, ◌∙◌, ap}
use Rattle.calculus.specs.Lists.{terms_tree}
use Rattle.calculus.specs.Syntax as tree
use Rattle.cop_base.specs.declared.SymbolId.{SymbolId}
use Rattle.formula_core.specs.FormulaView.{formula_step, the_formula}
use Rattle.formula_core.specs.declared.formula.Formula.{Formula, Formula-F, fold-roll-Formula}
use Rattle.formula_core.specs.declared.formula.Formula.TheVariants.{Atom, Not, And, Or, Imp, All, Ex, Nec, Poss, rolls-Atom, rolls-Not, rolls-And, rolls-Or, rolls-Imp, rolls-All, rolls-Ex, rolls-Nec, rolls-Poss}
use Rattle.formula_core.specs.declared.term.Terms.{Terms}

pub form-Atom : (f : Formula) (p : SymbolId) (ts : Terms) → f ≡ Atom p ts → the_formula f ≡ tree.atom p.0 (terms_tree ts)
form-Atom f p ts e = ap the_formula (e ∙ sym (rolls-Atom p ts)) ∙ fold-roll-Formula tree.Formula formula_step (Formula-F.Atom p ts)

pub form-Not : (f : Formula) (a : Box Formula Global) (x : Formula) → f ≡ Not a → x ≡ a.value → the_formula f ≡ tree.neg (the_formula x)
form-Not f a x e ea = ap the_formula (e ∙ sym (rolls-Not a)) ∙ fold-roll-Formula tree.Formula formula_step (Formula-F.Not a) ∙ ap (λ y. tree.neg (the_formula y)) (sym ea)

pub form-And : (f : Formula) (a b : Box Formula Global) (x y : Formula) → f ≡ And a b → x ≡ a.value → y ≡ b.value → the_formula f ≡ tree.conj (the_formula x) (the_formula y)
form-And f a b x y e ea eb = ap the_formula (e ∙ sym (rolls-And a b)) ∙ fold-roll-Formula tree.Formula formula_step (Formula-F.And a b) ∙ (λ i. tree.conj (the_formula (sym ea i)) (the_formula (sym eb i)))

pub form-Or : (f : Formula) (a b : Box Formula Global) (x y : Formula) → f ≡ Or a b → x ≡ a.value → y ≡ b.value → the_formula f ≡ tree.disj (the_formula x) (the_formula y)
form-Or f a b x y e ea eb = ap the_formula (e ∙ sym (rolls-Or a b)) ∙ fold-roll-Formula tree.Formula formula_step (Formula-F.Or a b) ∙ (λ i. tree.disj (the_formula (sym ea i)) (the_formula (sym eb i)))

pub form-Imp : (f : Formula) (a b : Box Formula Global) (x y : Formula) → f ≡ Imp a b → x ≡ a.value → y ≡ b.value → the_formula f ≡ tree.imp (the_formula x) (the_formula y)
form-Imp f a b x y e ea eb = ap the_formula (e ∙ sym (rolls-Imp a b)) ∙ fold-roll-Formula tree.Formula formula_step (Formula-F.Imp a b) ∙ (λ i. tree.imp (the_formula (sym ea i)) (the_formula (sym eb i)))

pub form-All : (f : Formula) (a : Box Formula Global) (x : Formula) → f ≡ All a → x ≡ a.value → the_formula f ≡ tree.all (the_formula x)
form-All f a x e ea = ap the_formula (e ∙ sym (rolls-All a)) ∙ fold-roll-Formula tree.Formula formula_step (Formula-F.All a) ∙ ap (λ y. tree.all (the_formula y)) (sym ea)

pub form-Ex : (f : Formula) (a : Box Formula Global) (x : Formula) → f ≡ Ex a → x ≡ a.value → the_formula f ≡ tree.ex (the_formula x)
form-Ex f a x e ea = ap the_formula (e ∙ sym (rolls-Ex a)) ∙ fold-roll-Formula tree.Formula formula_step (Formula-F.Ex a) ∙ ap (λ y. tree.ex (the_formula y)) (sym ea)

pub form-Nec : (f : Formula) (a : Box Formula Global) (x : Formula) → f ≡ Nec a → x ≡ a.value → the_formula f ≡ tree.box (the_formula x)
form-Nec f a x e ea = ap the_formula (e ∙ sym (rolls-Nec a)) ∙ fold-roll-Formula tree.Formula formula_step (Formula-F.Nec a) ∙ ap (λ y. tree.box (the_formula y)) (sym ea)

pub form-Poss : (f : Formula) (a : Box Formula Global) (x : Formula) → f ≡ Poss a → x ≡ a.value → the_formula f ≡ tree.dia (the_formula x)
form-Poss f a x e ea = ap the_formula (e ∙ sym (rolls-Poss a)) ∙ fold-roll-Formula tree.Formula formula_step (Formula-F.Poss a) ∙ ap (λ y. tree.dia (the_formula y)) (sym ea)
