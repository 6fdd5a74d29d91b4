-- Different formulas that fit have different texts, also where bytes follow with which a formula may end.
use Rattle.std.proofs.Common.{◌≡◌, ℕ, suc, ◌+◌, ◌≤◌, List, [], ◌∷◌, ◌++◌, IsTrue, refl, sym, ◌∙◌, ap, append_assoc, append-nil, arith, codes, decimal}
use Rattle.std.specs.List.{list_all}
use Rattle.std.proofs.lemmas.Bool.{and_parts}
use Rattle.calculus.specs.declared.setting.Logic.{Logic}
use Rattle.calculus.specs.Syntax.{arity_of, Symbol, Formula, atom, neg, conj, disj, imp, all, ex, box, dia}
use Rattle.calculus.specs.Measures.{nesting}
use Rattle.calculus.specs.Text.{Ends, formula_text}
use Rattle.calculus.specs.Problems.{are_distinct, formula_fits, has_predicate, is_modal, symbol_fits, terms_fit_in}
use Rattle.calculus.proofs.TextLaws.{cons-head, cons-tail}
use Rattle.formula_text.proofs.TermTexts.{cancel, differ}
use Rattle.formula_text.proofs.AtomTexts.{atom-apart, atom-of, atoms-split, equation-apart, joined-open, same-code}

module _ (S : List Symbol) (dist : IsTrue (are_distinct S)) (fit : IsTrue (list_all symbol_fits S)) where
  pub formula-split : (l m : Logic) (d : ℕ) (f g : Formula) (r s : List ℕ) → d + nesting f ≤ 1100 → IsTrue (formula_fits l S d f) → IsTrue (formula_fits m S d g) → Ends r → Ends s → formula_text S d f ++ r ≡ formula_text S d g ++ s → (f ≡ g) × (r ≡ s)
  formula-split l m d (atom p ts) (atom q us) r s b hf hg hr hs e =
      let parts = and_parts (has_predicate S p (arity_of ts)) (terms_fit_in S d ts) hf in
      let others = and_parts (has_predicate S q (arity_of us)) (terms_fit_in S d us) hg in
      atoms-split S dist fit d (omega arith) p q ts us r s (atom-of S p (arity_of ts) fit parts.0) (atom-of S q (arity_of us) fit others.0) parts.1 others.1 hr hs e
  formula-split l m d (atom p ts) (neg x) r s b hf hg hr hs e = absurd (atom-apart S dist fit l m d p ts (neg x) r s hf hg 126 refl refl refl refl e)
  formula-split l m d (atom p ts) (conj x y) r s b hf hg hr hs e = absurd (equation-apart S dist fit l m d (omega arith) p ts x y (codes " & ") r s hf (and_parts (formula_fits m S d x) (formula_fits m S d y) hg).0 (λ z. refl) (λ z w k. differ 61 38 (cons-head (cons-tail k)) refl) e)
  formula-split l m d (atom p ts) (disj x y) r s b hf hg hr hs e = absurd (equation-apart S dist fit l m d (omega arith) p ts x y (codes " | ") r s hf (and_parts (formula_fits m S d x) (formula_fits m S d y) hg).0 (λ z. refl) (λ z w k. differ 61 124 (cons-head (cons-tail k)) refl) e)
  formula-split l m d (atom p ts) (imp x y) r s b hf hg hr hs e = absurd (equation-apart S dist fit l m d (omega arith) p ts x y (codes " => ") r s hf (and_parts (formula_fits m S d x) (formula_fits m S d y) hg).0 (λ z. refl) (λ z w k. differ 32 62 (cons-head (cons-tail (cons-tail k))) refl) e)
  formula-split l m d (atom p ts) (all x) r s b hf hg hr hs e = absurd (atom-apart S dist fit l m d p ts (all x) r s hf hg 33 refl refl refl refl e)
  formula-split l m d (atom p ts) (ex x) r s b hf hg hr hs e = absurd (atom-apart S dist fit l m d p ts (ex x) r s hf hg 63 refl refl refl refl e)
  formula-split l m d (atom p ts) (box x) r s b hf hg hr hs e = absurd (atom-apart S dist fit l m d p ts (box x) r s hf hg 98 refl refl refl refl e)
  formula-split l m d (atom p ts) (dia x) r s b hf hg hr hs e = absurd (atom-apart S dist fit l m d p ts (dia x) r s hf hg 100 refl refl refl refl e)
  formula-split l m d (neg a) (atom q us) r s b hf hg hr hs e = absurd (atom-apart S dist fit m l d q us (neg a) s r hg hf 126 refl refl refl refl (sym e))
  formula-split l m d (neg a) (neg x) r s b hf hg hr hs e = let inner = formula-split l m d a x r s (omega arith) hf hg hr hs (cons-tail e) in (ap neg inner.0, inner.1)
  formula-split l m d (neg a) (conj x y) r s b hf hg hr hs e = absurd (differ 126 40 (same-code S dist fit l m d (neg a) (conj x y) r s hf hg e) refl)
  formula-split l m d (neg a) (disj x y) r s b hf hg hr hs e = absurd (differ 126 40 (same-code S dist fit l m d (neg a) (disj x y) r s hf hg e) refl)
  formula-split l m d (neg a) (imp x y) r s b hf hg hr hs e = absurd (differ 126 40 (same-code S dist fit l m d (neg a) (imp x y) r s hf hg e) refl)
  formula-split l m d (neg a) (all x) r s b hf hg hr hs e = absurd (differ 126 33 (same-code S dist fit l m d (neg a) (all x) r s hf hg e) refl)
  formula-split l m d (neg a) (ex x) r s b hf hg hr hs e = absurd (differ 126 63 (same-code S dist fit l m d (neg a) (ex x) r s hf hg e) refl)
  formula-split l m d (neg a) (box x) r s b hf hg hr hs e = absurd (differ 126 98 (same-code S dist fit l m d (neg a) (box x) r s hf hg e) refl)
  formula-split l m d (neg a) (dia x) r s b hf hg hr hs e = absurd (differ 126 100 (same-code S dist fit l m d (neg a) (dia x) r s hf hg e) refl)
  formula-split l m d (conj a c) (atom q us) r s b hf hg hr hs e = absurd (equation-apart S dist fit m l d (omega arith) q us a c (codes " & ") s r hg (and_parts (formula_fits l S d a) (formula_fits l S d c) hf).0 (λ z. refl) (λ z w k. differ 61 38 (cons-head (cons-tail k)) refl) (sym e))
  formula-split l m d (conj a c) (neg x) r s b hf hg hr hs e = absurd (differ 40 126 (same-code S dist fit l m d (conj a c) (neg x) r s hf hg e) refl)
  formula-split l m d (conj a c) (conj x y) r s b hf hg hr hs e =
      let first = formula-split l m d a x (codes " & " ++ (formula_text S d c ++ (41 ∷ r))) (codes " & " ++ (formula_text S d y ++ (41 ∷ s))) (omega arith) (and_parts (formula_fits l S d a) (formula_fits l S d c) hf).0 (and_parts (formula_fits m S d x) (formula_fits m S d y) hg).0 refl refl
      (joined-open (formula_text S d a) (codes " & ") (formula_text S d c) (formula_text S d x) (codes " & ") (formula_text S d y) r s e) in
      let second = formula-split l m d c y (41 ∷ r) (41 ∷ s) (omega arith) (and_parts (formula_fits l S d a) (formula_fits l S d c) hf).1 (and_parts (formula_fits m S d x) (formula_fits m S d y) hg).1 refl refl (cons-tail (cons-tail (cons-tail first.1))) in
      ((λ i. conj (first.0 i) (second.0 i)), cons-tail second.1)
  formula-split l m d (conj a c) (disj x y) r s b hf hg hr hs e =
      let first = formula-split l m d a x (codes " & " ++ (formula_text S d c ++ (41 ∷ r))) (codes " | " ++ (formula_text S d y ++ (41 ∷ s))) (omega arith) (and_parts (formula_fits l S d a) (formula_fits l S d c) hf).0 (and_parts (formula_fits m S d x) (formula_fits m S d y) hg).0 refl refl
      (joined-open (formula_text S d a) (codes " & ") (formula_text S d c) (formula_text S d x) (codes " | ") (formula_text S d y) r s e) in absurd (differ 38 124 (cons-head (cons-tail first.1)) refl)
  formula-split l m d (conj a c) (imp x y) r s b hf hg hr hs e =
      let first = formula-split l m d a x (codes " & " ++ (formula_text S d c ++ (41 ∷ r))) (codes " => " ++ (formula_text S d y ++ (41 ∷ s))) (omega arith) (and_parts (formula_fits l S d a) (formula_fits l S d c) hf).0 (and_parts (formula_fits m S d x) (formula_fits m S d y) hg).0 refl refl
      (joined-open (formula_text S d a) (codes " & ") (formula_text S d c) (formula_text S d x) (codes " => ") (formula_text S d y) r s e) in absurd (differ 38 61 (cons-head (cons-tail first.1)) refl)
  formula-split l m d (conj a c) (all x) r s b hf hg hr hs e = absurd (differ 40 33 (same-code S dist fit l m d (conj a c) (all x) r s hf hg e) refl)
  formula-split l m d (conj a c) (ex x) r s b hf hg hr hs e = absurd (differ 40 63 (same-code S dist fit l m d (conj a c) (ex x) r s hf hg e) refl)
  formula-split l m d (conj a c) (box x) r s b hf hg hr hs e = absurd (differ 40 98 (same-code S dist fit l m d (conj a c) (box x) r s hf hg e) refl)
  formula-split l m d (conj a c) (dia x) r s b hf hg hr hs e = absurd (differ 40 100 (same-code S dist fit l m d (conj a c) (dia x) r s hf hg e) refl)
  formula-split l m d (disj a c) (atom q us) r s b hf hg hr hs e = absurd (equation-apart S dist fit m l d (omega arith) q us a c (codes " | ") s r hg (and_parts (formula_fits l S d a) (formula_fits l S d c) hf).0 (λ z. refl) (λ z w k. differ 61 124 (cons-head (cons-tail k)) refl) (sym e))
  formula-split l m d (disj a c) (neg x) r s b hf hg hr hs e = absurd (differ 40 126 (same-code S dist fit l m d (disj a c) (neg x) r s hf hg e) refl)
  formula-split l m d (disj a c) (conj x y) r s b hf hg hr hs e =
      let first = formula-split l m d a x (codes " | " ++ (formula_text S d c ++ (41 ∷ r))) (codes " & " ++ (formula_text S d y ++ (41 ∷ s))) (omega arith) (and_parts (formula_fits l S d a) (formula_fits l S d c) hf).0 (and_parts (formula_fits m S d x) (formula_fits m S d y) hg).0 refl refl
      (joined-open (formula_text S d a) (codes " | ") (formula_text S d c) (formula_text S d x) (codes " & ") (formula_text S d y) r s e) in absurd (differ 124 38 (cons-head (cons-tail first.1)) refl)
  formula-split l m d (disj a c) (disj x y) r s b hf hg hr hs e =
      let first = formula-split l m d a x (codes " | " ++ (formula_text S d c ++ (41 ∷ r))) (codes " | " ++ (formula_text S d y ++ (41 ∷ s))) (omega arith) (and_parts (formula_fits l S d a) (formula_fits l S d c) hf).0 (and_parts (formula_fits m S d x) (formula_fits m S d y) hg).0 refl refl
      (joined-open (formula_text S d a) (codes " | ") (formula_text S d c) (formula_text S d x) (codes " | ") (formula_text S d y) r s e) in
      let second = formula-split l m d c y (41 ∷ r) (41 ∷ s) (omega arith) (and_parts (formula_fits l S d a) (formula_fits l S d c) hf).1 (and_parts (formula_fits m S d x) (formula_fits m S d y) hg).1 refl refl (cons-tail (cons-tail (cons-tail first.1))) in
      ((λ i. disj (first.0 i) (second.0 i)), cons-tail second.1)
  formula-split l m d (disj a c) (imp x y) r s b hf hg hr hs e =
      let first = formula-split l m d a x (codes " | " ++ (formula_text S d c ++ (41 ∷ r))) (codes " => " ++ (formula_text S d y ++ (41 ∷ s))) (omega arith) (and_parts (formula_fits l S d a) (formula_fits l S d c) hf).0 (and_parts (formula_fits m S d x) (formula_fits m S d y) hg).0 refl refl
      (joined-open (formula_text S d a) (codes " | ") (formula_text S d c) (formula_text S d x) (codes " => ") (formula_text S d y) r s e) in absurd (differ 124 61 (cons-head (cons-tail first.1)) refl)
  formula-split l m d (disj a c) (all x) r s b hf hg hr hs e = absurd (differ 40 33 (same-code S dist fit l m d (disj a c) (all x) r s hf hg e) refl)
  formula-split l m d (disj a c) (ex x) r s b hf hg hr hs e = absurd (differ 40 63 (same-code S dist fit l m d (disj a c) (ex x) r s hf hg e) refl)
  formula-split l m d (disj a c) (box x) r s b hf hg hr hs e = absurd (differ 40 98 (same-code S dist fit l m d (disj a c) (box x) r s hf hg e) refl)
  formula-split l m d (disj a c) (dia x) r s b hf hg hr hs e = absurd (differ 40 100 (same-code S dist fit l m d (disj a c) (dia x) r s hf hg e) refl)
  formula-split l m d (imp a c) (atom q us) r s b hf hg hr hs e = absurd (equation-apart S dist fit m l d (omega arith) q us a c (codes " => ") s r hg (and_parts (formula_fits l S d a) (formula_fits l S d c) hf).0 (λ z. refl) (λ z w k. differ 32 62 (cons-head (cons-tail (cons-tail k))) refl) (sym e))
  formula-split l m d (imp a c) (neg x) r s b hf hg hr hs e = absurd (differ 40 126 (same-code S dist fit l m d (imp a c) (neg x) r s hf hg e) refl)
  formula-split l m d (imp a c) (conj x y) r s b hf hg hr hs e =
      let first = formula-split l m d a x (codes " => " ++ (formula_text S d c ++ (41 ∷ r))) (codes " & " ++ (formula_text S d y ++ (41 ∷ s))) (omega arith) (and_parts (formula_fits l S d a) (formula_fits l S d c) hf).0 (and_parts (formula_fits m S d x) (formula_fits m S d y) hg).0 refl refl
      (joined-open (formula_text S d a) (codes " => ") (formula_text S d c) (formula_text S d x) (codes " & ") (formula_text S d y) r s e) in absurd (differ 61 38 (cons-head (cons-tail first.1)) refl)
  formula-split l m d (imp a c) (disj x y) r s b hf hg hr hs e =
      let first = formula-split l m d a x (codes " => " ++ (formula_text S d c ++ (41 ∷ r))) (codes " | " ++ (formula_text S d y ++ (41 ∷ s))) (omega arith) (and_parts (formula_fits l S d a) (formula_fits l S d c) hf).0 (and_parts (formula_fits m S d x) (formula_fits m S d y) hg).0 refl refl
      (joined-open (formula_text S d a) (codes " => ") (formula_text S d c) (formula_text S d x) (codes " | ") (formula_text S d y) r s e) in absurd (differ 61 124 (cons-head (cons-tail first.1)) refl)
  formula-split l m d (imp a c) (imp x y) r s b hf hg hr hs e =
      let first = formula-split l m d a x (codes " => " ++ (formula_text S d c ++ (41 ∷ r))) (codes " => " ++ (formula_text S d y ++ (41 ∷ s))) (omega arith) (and_parts (formula_fits l S d a) (formula_fits l S d c) hf).0 (and_parts (formula_fits m S d x) (formula_fits m S d y) hg).0 refl refl
      (joined-open (formula_text S d a) (codes " => ") (formula_text S d c) (formula_text S d x) (codes " => ") (formula_text S d y) r s e) in
      let second = formula-split l m d c y (41 ∷ r) (41 ∷ s) (omega arith) (and_parts (formula_fits l S d a) (formula_fits l S d c) hf).1 (and_parts (formula_fits m S d x) (formula_fits m S d y) hg).1 refl refl (cons-tail (cons-tail (cons-tail (cons-tail first.1)))) in
      ((λ i. imp (first.0 i) (second.0 i)), cons-tail second.1)
  formula-split l m d (imp a c) (all x) r s b hf hg hr hs e = absurd (differ 40 33 (same-code S dist fit l m d (imp a c) (all x) r s hf hg e) refl)
  formula-split l m d (imp a c) (ex x) r s b hf hg hr hs e = absurd (differ 40 63 (same-code S dist fit l m d (imp a c) (ex x) r s hf hg e) refl)
  formula-split l m d (imp a c) (box x) r s b hf hg hr hs e = absurd (differ 40 98 (same-code S dist fit l m d (imp a c) (box x) r s hf hg e) refl)
  formula-split l m d (imp a c) (dia x) r s b hf hg hr hs e = absurd (differ 40 100 (same-code S dist fit l m d (imp a c) (dia x) r s hf hg e) refl)
  formula-split l m d (all a) (atom q us) r s b hf hg hr hs e = absurd (atom-apart S dist fit m l d q us (all a) s r hg hf 33 refl refl refl refl (sym e))
  formula-split l m d (all a) (neg x) r s b hf hg hr hs e = absurd (differ 33 126 (same-code S dist fit l m d (all a) (neg x) r s hf hg e) refl)
  formula-split l m d (all a) (conj x y) r s b hf hg hr hs e = absurd (differ 33 40 (same-code S dist fit l m d (all a) (conj x y) r s hf hg e) refl)
  formula-split l m d (all a) (disj x y) r s b hf hg hr hs e = absurd (differ 33 40 (same-code S dist fit l m d (all a) (disj x y) r s hf hg e) refl)
  formula-split l m d (all a) (imp x y) r s b hf hg hr hs e = absurd (differ 33 40 (same-code S dist fit l m d (all a) (imp x y) r s hf hg e) refl)
  formula-split l m d (all a) (all x) r s b hf hg hr hs e =
      let front = (((codes "!" ++ codes "[") ++ (88 ∷ decimal (suc d))) ++ codes "]:") in
      let rest = cancel front (formula_text S (suc d) a ++ r) (formula_text S (suc d) x ++ s) (sym (append_assoc front (formula_text S (suc d) a) r) ∙ e ∙ append_assoc front (formula_text S (suc d) x) s) in
      let inner = formula-split l m (suc d) a x r s (omega arith) hf hg hr hs rest in
      (ap all inner.0, inner.1)
  formula-split l m d (all a) (ex x) r s b hf hg hr hs e = absurd (differ 33 63 (same-code S dist fit l m d (all a) (ex x) r s hf hg e) refl)
  formula-split l m d (all a) (box x) r s b hf hg hr hs e = absurd (differ 33 98 (same-code S dist fit l m d (all a) (box x) r s hf hg e) refl)
  formula-split l m d (all a) (dia x) r s b hf hg hr hs e = absurd (differ 33 100 (same-code S dist fit l m d (all a) (dia x) r s hf hg e) refl)
  formula-split l m d (ex a) (atom q us) r s b hf hg hr hs e = absurd (atom-apart S dist fit m l d q us (ex a) s r hg hf 63 refl refl refl refl (sym e))
  formula-split l m d (ex a) (neg x) r s b hf hg hr hs e = absurd (differ 63 126 (same-code S dist fit l m d (ex a) (neg x) r s hf hg e) refl)
  formula-split l m d (ex a) (conj x y) r s b hf hg hr hs e = absurd (differ 63 40 (same-code S dist fit l m d (ex a) (conj x y) r s hf hg e) refl)
  formula-split l m d (ex a) (disj x y) r s b hf hg hr hs e = absurd (differ 63 40 (same-code S dist fit l m d (ex a) (disj x y) r s hf hg e) refl)
  formula-split l m d (ex a) (imp x y) r s b hf hg hr hs e = absurd (differ 63 40 (same-code S dist fit l m d (ex a) (imp x y) r s hf hg e) refl)
  formula-split l m d (ex a) (all x) r s b hf hg hr hs e = absurd (differ 63 33 (same-code S dist fit l m d (ex a) (all x) r s hf hg e) refl)
  formula-split l m d (ex a) (ex x) r s b hf hg hr hs e =
      let front = (((codes "?" ++ codes "[") ++ (88 ∷ decimal (suc d))) ++ codes "]:") in
      let rest = cancel front (formula_text S (suc d) a ++ r) (formula_text S (suc d) x ++ s) (sym (append_assoc front (formula_text S (suc d) a) r) ∙ e ∙ append_assoc front (formula_text S (suc d) x) s) in
      let inner = formula-split l m (suc d) a x r s (omega arith) hf hg hr hs rest in
      (ap ex inner.0, inner.1)
  formula-split l m d (ex a) (box x) r s b hf hg hr hs e = absurd (differ 63 98 (same-code S dist fit l m d (ex a) (box x) r s hf hg e) refl)
  formula-split l m d (ex a) (dia x) r s b hf hg hr hs e = absurd (differ 63 100 (same-code S dist fit l m d (ex a) (dia x) r s hf hg e) refl)
  formula-split l m d (box a) (atom q us) r s b hf hg hr hs e = absurd (atom-apart S dist fit m l d q us (box a) s r hg hf 98 refl refl refl refl (sym e))
  formula-split l m d (box a) (neg x) r s b hf hg hr hs e = absurd (differ 98 126 (same-code S dist fit l m d (box a) (neg x) r s hf hg e) refl)
  formula-split l m d (box a) (conj x y) r s b hf hg hr hs e = absurd (differ 98 40 (same-code S dist fit l m d (box a) (conj x y) r s hf hg e) refl)
  formula-split l m d (box a) (disj x y) r s b hf hg hr hs e = absurd (differ 98 40 (same-code S dist fit l m d (box a) (disj x y) r s hf hg e) refl)
  formula-split l m d (box a) (imp x y) r s b hf hg hr hs e = absurd (differ 98 40 (same-code S dist fit l m d (box a) (imp x y) r s hf hg e) refl)
  formula-split l m d (box a) (all x) r s b hf hg hr hs e = absurd (differ 98 33 (same-code S dist fit l m d (box a) (all x) r s hf hg e) refl)
  formula-split l m d (box a) (ex x) r s b hf hg hr hs e = absurd (differ 98 63 (same-code S dist fit l m d (box a) (ex x) r s hf hg e) refl)
  formula-split l m d (box a) (box x) r s b hf hg hr hs e =
      let inner = formula-split l m d a x r s (omega arith) (and_parts (is_modal l) (formula_fits l S d a) hf).1 (and_parts (is_modal m) (formula_fits m S d x) hg).1 hr hs (cons-tail (cons-tail (cons-tail (cons-tail (cons-tail e))))) in
      (ap box inner.0, inner.1)
  formula-split l m d (box a) (dia x) r s b hf hg hr hs e = absurd (differ 98 100 (same-code S dist fit l m d (box a) (dia x) r s hf hg e) refl)
  formula-split l m d (dia a) (atom q us) r s b hf hg hr hs e = absurd (atom-apart S dist fit m l d q us (dia a) s r hg hf 100 refl refl refl refl (sym e))
  formula-split l m d (dia a) (neg x) r s b hf hg hr hs e = absurd (differ 100 126 (same-code S dist fit l m d (dia a) (neg x) r s hf hg e) refl)
  formula-split l m d (dia a) (conj x y) r s b hf hg hr hs e = absurd (differ 100 40 (same-code S dist fit l m d (dia a) (conj x y) r s hf hg e) refl)
  formula-split l m d (dia a) (disj x y) r s b hf hg hr hs e = absurd (differ 100 40 (same-code S dist fit l m d (dia a) (disj x y) r s hf hg e) refl)
  formula-split l m d (dia a) (imp x y) r s b hf hg hr hs e = absurd (differ 100 40 (same-code S dist fit l m d (dia a) (imp x y) r s hf hg e) refl)
  formula-split l m d (dia a) (all x) r s b hf hg hr hs e = absurd (differ 100 33 (same-code S dist fit l m d (dia a) (all x) r s hf hg e) refl)
  formula-split l m d (dia a) (ex x) r s b hf hg hr hs e = absurd (differ 100 63 (same-code S dist fit l m d (dia a) (ex x) r s hf hg e) refl)
  formula-split l m d (dia a) (box x) r s b hf hg hr hs e = absurd (differ 100 98 (same-code S dist fit l m d (dia a) (box x) r s hf hg e) refl)
  formula-split l m d (dia a) (dia x) r s b hf hg hr hs e =
      let inner = formula-split l m d a x r s (omega arith) (and_parts (is_modal l) (formula_fits l S d a) hf).1 (and_parts (is_modal m) (formula_fits m S d x) hg).1 hr hs (cons-tail (cons-tail (cons-tail (cons-tail (cons-tail e))))) in
      (ap dia inner.0, inner.1)

pub formulas-apart : (S : List Symbol) → IsTrue (are_distinct S) → IsTrue (list_all symbol_fits S) → (l m : Logic) (f g : Formula) → IsTrue (formula_fits l S 0 f) → IsTrue (formula_fits m S 0 g) → nesting f ≤ 1100 → formula_text S 0 f ≡ formula_text S 0 g → f ≡ g
formulas-apart S dist fit l m f g hf hg b e = (formula-split S dist fit l m 0 f g [] [] (omega arith) hf hg tt tt (append-nil (formula_text S 0 f) ∙ e ∙ sym (append-nil (formula_text S 0 g)))).0
