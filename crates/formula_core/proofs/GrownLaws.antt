-- What holders of numbers may rely on when a table grows.
use Rattle.std.specs.Prelude.{◌≡◌, ◌≤◌, List, ◌++◌, length}
use Rattle.std.proofs.Common.{ap, subst, sym, ◌∙◌}
use Rattle.std.proofs.lemmas.List.{append_assoc}
use Rattle.formula_core.specs.GroundLists.{GroundList, the_terms, the_marks, the_values, the_g_term, the_mark, the_value, no_list, IsNormalTerm, IsNormalMark, IsNormalValue, AreNormalTerms, AreNormalMarks, AreNormalValues, IsGrown}
use Rattle.formula_core.specs.declared.ground.GroundTerms.{GroundTerms}
use Rattle.formula_core.specs.declared.ground.GroundLabel.{GroundLabel}
use Rattle.formula_core.specs.declared.ground.Values.{Values}
use Rattle.formula_core.specs.declared.ground.GroundTerm.{GroundTerm}
use Rattle.formula_core.specs.declared.ground.GroundMark.{GroundMark}
use Rattle.formula_core.specs.declared.ground.Value.{Value}
use Rattle.formula_core.proofs.GroundTableLaws.{terms-stay, marks-stay, values-stay, term-stays, mark-stays, value-stays, term-normal, mark-normal, value-normal}

pub grown-both : (a b c : List GroundList) → IsGrown a b → IsGrown b c → IsGrown a c
grown-both a b c g h = record {
  added = g.added ++ h.added;
  grown = h.grown ∙ ap (λ ls. ls ++ h.added) g.grown ∙ append_assoc a g.added h.added;
  most = h.most;
}

module _ (a b : List GroundList) (g : IsGrown a b) where
  most-of : length (a ++ g.added) ≤ no_list
  most-of = subst (λ ls. length ls ≤ no_list) g.grown g.most

  pub terms-grown : (n : GroundTerms) → AreNormalTerms a n → the_terms b n ≡ the_terms a n
  terms-grown n h = ap (λ ls. the_terms ls n) g.grown ∙ terms-stay a g.added most-of n h

  pub marks-grown : (n : GroundLabel) → AreNormalMarks a n → the_marks b n ≡ the_marks a n
  marks-grown n h = ap (λ ls. the_marks ls n) g.grown ∙ marks-stay a g.added most-of n h

  pub values-grown : (n : Values) → AreNormalValues a n → the_values b n ≡ the_values a n
  values-grown n h = ap (λ ls. the_values ls n) g.grown ∙ values-stay a g.added most-of n h

  pub term-grown : (t : GroundTerm) → IsNormalTerm a t → the_g_term b t ≡ the_g_term a t
  term-grown t h = ap (λ ls. the_g_term ls t) g.grown ∙ term-stays a g.added most-of t h

  pub mark-grown : (m : GroundMark) → IsNormalMark a m → the_mark b m ≡ the_mark a m
  mark-grown m h = ap (λ ls. the_mark ls m) g.grown ∙ mark-stays a g.added most-of m h

  pub value-grown : (v : Value) → IsNormalValue a v → the_value b v ≡ the_value a v
  value-grown v h = ap (λ ls. the_value ls v) g.grown ∙ value-stays a g.added most-of v h

  pub term-normal-grown : (t : GroundTerm) → IsNormalTerm a t → IsNormalTerm b t
  term-normal-grown t h = subst (λ ls. IsNormalTerm ls t) (sym g.grown) (term-normal a g.added most-of t h)

  pub mark-normal-grown : (m : GroundMark) → IsNormalMark a m → IsNormalMark b m
  mark-normal-grown m h = subst (λ ls. IsNormalMark ls m) (sym g.grown) (mark-normal a g.added most-of m h)

  pub value-normal-grown : (v : Value) → IsNormalValue a v → IsNormalValue b v
  value-normal-grown v h = subst (λ ls. IsNormalValue ls v) (sym g.grown) (value-normal a g.added most-of v h)
