-- In the logics with labels the literals and gamma terms of a template are proper in its instance by spare values.
use Rattle.std.proofs.Common.{◌≡◌, List, [], ◌∷◌, true, false, IsTrue, refl, subst, Option, Some, None}
use Rattle.std.specs.List.{list_all}
use Rattle.std.specs.Option.{option_map_or}
use Rattle.std.proofs.lemmas.Bool.{false≢true, and_from}
use Rattle.calculus.specs.declared.sign.Side.{Side}
use Rattle.calculus.specs.declared.sort.Sort.{Sort}
use Rattle.calculus.specs.declared.sort.Sort.TheVariants.{TermSort, MarkSort, StringSort}
use Rattle.calculus.specs.declared.setting.Logic.{Logic}
use Rattle.calculus.specs.Syntax.{Problem}
use Rattle.calculus.specs.Equality.{list_eq, literal_eq}
use Rattle.calculus.specs.Skolem.{is_admitted_value}
use Rattle.calculus.specs.Problems.{formula_fits}
use Rattle.calculus.specs.ComputedInstances.{Part, instance_of}
use Rattle.calculus.specs.Space.{has_labels}
use Rattle.calculus.specs.Labels.{is_step_length}
use Rattle.calculus.proofs.InstanceLaws.{literal_is_proper, gamma_is_proper, Good, OnPart, instance-proper}
use Rattle.store_theory.specs.Patterns.{Template}
use Rattle.store_theory.specs.Templates.{literals_by, gammas_by, have_sorts, is_step_value, is_choice_of_values, IsTemplateOf}
use Rattle.search_theory.specs.RightPatterns.{spare_values}
use Rattle.search_theory.proofs.BuildingLaws.{is_variable_sort}
use Rattle.search_theory.proofs.AdmittedLaws.{one-step}
use Rattle.search_theory.proofs.ClassicalTemplates.{proper-by}

-- ---- the literals and the gamma terms of a template are proper by spare values

spare-sorted : (ss : List Sort) → IsTrue (list_all is_variable_sort ss) → IsTrue (have_sorts ss (spare_values ss))
spare-sorted [] h = refl
spare-sorted (TermSort ∷ ss) h = spare-sorted ss h
spare-sorted (MarkSort ∷ ss) h = absurd (false≢true h)
spare-sorted (StringSort ∷ ss) h = spare-sorted ss h

pub spare-admitted : (P : Problem) (ss : List Sort) → IsTrue (list_all (is_admitted_value P) (spare_values ss))
spare-admitted P [] = refl
spare-admitted P (TermSort ∷ ss) = spare-admitted P ss
spare-admitted P (MarkSort ∷ ss) = spare-admitted P ss
spare-admitted P (StringSort ∷ ss) = spare-admitted P ss

pub spare-steps : (l : Logic) → IsTrue (has_labels l) → (ss : List Sort) → IsTrue (list_all (is_step_value l) (spare_values ss))
spare-steps l k [] = refl
spare-steps l k (TermSort ∷ ss) = spare-steps l k ss
spare-steps l k (MarkSort ∷ ss) = and_from (is_step_length l 1) (list_all (is_step_value l) (spare_values ss)) (one-step l k) (spare-steps l k ss)
spare-steps l k (StringSort ∷ ss) = and_from (is_step_length l 1) (list_all (is_step_value l) (spare_values ss)) (one-step l k) (spare-steps l k ss)

-- the instance by spare values is there
pub spare-instance : (P : Problem) (sides : List Side) (t : Template) → IsTrue (has_labels P.setting.logic) → IsTemplateOf P sides t → IsTrue (list_all is_variable_sort t.sorts) → IsTrue (option_map_or (λ (x : Part). list_eq literal_eq x.literals (literals_by (spare_values t.sorts) t)) (instance_of P sides (spare_values t.sorts)) false)
spare-instance P sides t labels right sorts =
    let vs = spare_values t.sorts in
    let chosen = and_from (list_all (is_admitted_value P) vs) (list_all (is_step_value P.setting.logic) vs) (spare-admitted P t.sorts) (spare-steps P.setting.logic labels t.sorts) in
    (right.instances vs (literals_by vs t)).1 (and_from (have_sorts t.sorts vs) (is_choice_of_values P vs) (spare-sorted t.sorts sorts) chosen, refl)

pub literals-proper : (P : Problem) (sides : List Side) (t : Template) → IsTrue (has_labels P.setting.logic) → IsTrue (formula_fits P.setting.logic P.symbols 0 P.formula) → IsTemplateOf P sides t → IsTrue (list_all is_variable_sort t.sorts) → IsTrue (list_all (literal_is_proper P) (literals_by (spare_values t.sorts) t))
literals-proper P sides t labels fits right sorts =
    let vs = spare_values t.sorts in
    proper-by P (literals_by vs t) (instance_of P sides vs) (instance-proper P sides vs fits) (spare-instance P sides t labels right sorts)

-- so are its gamma terms
pub gammas-proper : (P : Problem) (sides : List Side) (t : Template) → IsTrue (has_labels P.setting.logic) → IsTrue (formula_fits P.setting.logic P.symbols 0 P.formula) → IsTemplateOf P sides t → IsTrue (list_all is_variable_sort t.sorts) → IsTrue (list_all (gamma_is_proper P) (gammas_by (spare_values t.sorts) t))
gammas-proper P sides t labels fits right sorts = by (instance_of P sides (spare_values t.sorts)) refl (instance-proper P sides (spare_values t.sorts) fits) (spare-instance P sides t labels right sorts)
  where
    by : (o : Option Part) → instance_of P sides (spare_values t.sorts) ≡ o → OnPart (Good P) o → IsTrue (option_map_or (λ (x : Part). list_eq literal_eq x.literals (literals_by (spare_values t.sorts) t)) o false) → IsTrue (list_all (gamma_is_proper P) (gammas_by (spare_values t.sorts) t))
    by None e g h = absurd (false≢true h)
    by (Some x) e g h = subst (λ us. IsTrue (list_all (gamma_is_proper P) us)) (right.gammas (spare_values t.sorts) x e) g.gammas
