-- A term is allowed where it was: what is left of homes and labels.
use Rattle.std.proofs.Common.{◌≡◌, suc, ◌+◌, List, [], ◌∷◌, map, length, IsTrue, refl, sym, ◌∙◌, ap, subst, inl, inr, length-append}
use Rattle.std.specs.List.{AllByRecursion, list_all}
use Rattle.std.proofs.lemmas.Bool.{and_parts, and_from, cases_Bool}
use Rattle.calculus.specs.declared.sign.Sign.{Sign}
use Rattle.calculus.specs.declared.setting.Logic.{Logic}
use Rattle.calculus.specs.Syntax.{Formula, Problem}
use Rattle.calculus.specs.Ground.{GroundTerm, GroundTerms, GroundMark, g_fun, g_eigen, common, own, no_g_terms, more_g_terms, marks_list, values_list}
use Rattle.calculus.specs.Equality.{ground_eq, mark_eq}
use Rattle.calculus.specs.Labels.{home_allows}
use Rattle.calculus.specs.Lists.{marks_list-marks_tree}
use Rattle.calculus.specs.Skolem.{label_of, is_allowed, are_allowed}
use Rattle.calculus.specs.Instances.{Spot, Share, Gives, Shaped, by_plain, by_nu, by_pi, is_literal, by_only, by_left, by_right, by_both, by_gamma, by_delta, GammaUse, gamma_is_allowed}
use Rattle.calculus.proofs.EqualityLaws.{ground_eq-tells}
use Rattle.matrix_theory.proofs.WayLaws.{found, all_at}
use Rattle.string_theory.proofs.Folding.{Names, has_eigen, folded, term_by, terms_by, new_gamma}
use Rattle.string_theory.proofs.StepNames.{steps_of, steps_in}
use Rattle.string_theory.proofs.FoldingLaws.{folded-allows}
use Rattle.string_theory.proofs.InstanceChanges.{HomeIsKept}

-- the home of each eigenvariable at hand changes into that of its change
abbrev pub HomesAreKept : Problem → Names → (GroundMark → GroundMark) → Type 0
HomesAreKept P K f = AllByRecursion (HomeIsKept P K f) K.eigens

kept-home : (P : Problem) (K : Names) (f : GroundMark → GroundMark) → HomesAreKept P K f → (t : GroundTerm) → IsTrue (has_eigen K t) → HomeIsKept P K f t
kept-home P K f h t e =
    let r = found (ground_eq t) K.eigens e in
    subst (HomeIsKept P K f) (sym ((ground_eq-tells t r.1).0 r.3)) (all_at (HomeIsKept P K f) K.eigens h r.0 r.1 r.2)

mutual
  term-allowed : (P : Problem) (K : Names) (f : GroundMark → GroundMark) → HomesAreKept P K f → (w : List GroundMark) (t : GroundTerm) → IsTrue (is_allowed P w t) → IsTrue (is_allowed P (folded K f [] w) (term_by P K f t))
  term-allowed P K f h w (g_fun g no_g_terms) k = k
  term-allowed P K f h w (g_fun g (more_g_terms t ts)) k =
      let parts = and_parts (is_allowed P w t) (are_allowed P w ts) k in
      and_from (is_allowed P (folded K f [] w) (term_by P K f t)) (are_allowed P (folded K f [] w) (terms_by P K f ts)) (term-allowed P K f h w t parts.0) (terms-allowed P K f h w ts parts.1)
  term-allowed P K f h w (g_eigen p vs) k =
      let d = P.setting.domains in
      let home = label_of P p (values_list vs) in
      let left = folded-allows K f d home w k in
      elim (cases_Bool (has_eigen K (g_eigen p vs))) [
        | inl e ↦ rw e (subst (λ x. IsTrue (home_allows mark_eq d x (folded K f [] w))) (sym (kept-home P K f h (g_eigen p vs) e)) left)
        | inr e ↦ rw e (subst (λ x. IsTrue (home_allows mark_eq d x (folded K f [] w))) (sym (marks_list-marks_tree (folded K f [] home))) left)
      ]
  term-allowed P K f h w (common j) k = k
  term-allowed P K f h w (own j v) k =
      let d = P.setting.domains in
      subst (λ x. IsTrue (home_allows mark_eq d x (folded K f [] w))) (sym (marks_list-marks_tree (folded K f [] (marks_list v)))) (folded-allows K f d (marks_list v) w k)

  terms-allowed : (P : Problem) (K : Names) (f : GroundMark → GroundMark) → HomesAreKept P K f → (w : List GroundMark) (ts : GroundTerms) → IsTrue (are_allowed P w ts) → IsTrue (are_allowed P (folded K f [] w) (terms_by P K f ts))
  terms-allowed P K f h w no_g_terms k = refl
  terms-allowed P K f h w (more_g_terms t ts) k =
      let parts = and_parts (is_allowed P w t) (are_allowed P w ts) k in
      and_from (is_allowed P (folded K f [] w) (term_by P K f t)) (are_allowed P (folded K f [] w) (terms_by P K f ts)) (term-allowed P K f h w t parts.0) (terms-allowed P K f h w ts parts.1)

pub gammas-allowed : (P : Problem) (K : Names) (f : GroundMark → GroundMark) → HomesAreKept P K f → (gs : List GammaUse) → IsTrue (list_all (gamma_is_allowed P) gs) → IsTrue (list_all (gamma_is_allowed P) (map (new_gamma P K f) gs))
gammas-allowed P K f h [] k = refl
gammas-allowed P K f h (g ∷ gs) k =
    let parts = and_parts (gamma_is_allowed P g) (list_all (gamma_is_allowed P) gs) k in
    and_from (gamma_is_allowed P (new_gamma P K f g)) (list_all (gamma_is_allowed P) (map (new_gamma P K f) gs)) (term-allowed P K f h g.label g.term parts.0) (gammas-allowed P K f h gs parts.1)

-- ---- how many pi steps there are

mutual
  pub steps-counted : (l : Logic) (c : Spot) (s : Sign) (f : Formula) (x : Share) (d : Gives l c s f x) → length (steps_of d) ≡ x.pis
  steps-counted l c s f x (by_plain e g) = steps-counted_in l c s f x g
  steps-counted l c s f x (by_nu {x = y} w e h g) = steps-counted_in l _ s f y g
  steps-counted l c s f x (by_pi {x = y} e g) = ap (λ n. suc n) (steps-counted_in l _ s f y g)

  steps-counted_in : (l : Logic) (c : Spot) (s : Sign) (f : Formula) (x : Share) (d : Shaped l c s f x) → length (steps_in d) ≡ x.pis
  steps-counted_in l c s f x is_literal = refl
  steps-counted_in l c s f x (by_only {x = y} e k g) = steps-counted l _ _ _ y g
  steps-counted_in l c s f x (by_left {x = y} e k g) = steps-counted l _ _ _ y g
  steps-counted_in l c s f x (by_right {x = y} e k g) = steps-counted l _ _ _ y g
  steps-counted_in l c s f x (by_both {x = y} {y = z} e k g h) = length-append (steps_of g) (steps_of h) ∙ (λ i. steps-counted l _ _ _ y g i + steps-counted l _ _ _ z h i)
  steps-counted_in l c s f x (by_gamma {x = y} t e k g) = steps-counted l _ _ _ y g
  steps-counted_in l c s f x (by_delta {x = y} e k g) = steps-counted l _ _ _ y g
