-- Lists of terms that differ in length.
use Rattle.std.proofs.Common.{◌≡◌, ◌≢◌, false, List, [], ◌∷◌, length, map, refl, sym, ◌∙◌, ap, arith}
use Rattle.std.proofs.lemmas.List.{length-map}
use Rattle.std.proofs.lemmas.Bool.{and_right}
use Rattle.formula_core.specs.declared.term.Term.{Term as Item}
use Rattle.formula_core.specs.TermView.{the_term}
use Rattle.calculus.specs.Syntax.{Term}
use Rattle.calculus.specs.Equality.{term_eq, terms_eq}
use Rattle.calculus.specs.Lists.{terms_tree}

pub terms_eq-lengths : (ts us : List Term) → length ts ≢ length us → terms_eq (terms_tree ts) (terms_tree us) ≡ false
terms_eq-lengths [] [] h = absurd (h refl)
terms_eq-lengths [] (u ∷ us) h = refl
terms_eq-lengths (t ∷ ts) [] h = refl
terms_eq-lengths (t ∷ ts) (u ∷ us) h = and_right (term_eq t u) (terms_eq (terms_tree ts) (terms_tree us)) (terms_eq-lengths ts us (λ e. h (omega (arith, e))))

pub terms_eq-items : (xs ys : List Item) (ts us : List Term) → map the_term xs ≡ ts → map the_term ys ≡ us → length xs ≢ length ys → terms_eq (terms_tree ts) (terms_tree us) ≡ false
terms_eq-items xs ys ts us e f h =
    terms_eq-lengths ts us (λ g. h (sym (length-map xs the_term) ∙ ap length e ∙ g ∙ sym (ap length f) ∙ length-map ys the_term))
