-- Spots that go on by one step.
use Rattle.std.proofs.Common.{◌≡◌, ◌≤◌, List, [], ◌∷◌, ◌++◌, map, length, refl, sym, ◌∙◌, ap, arith}
use Rattle.std.proofs.lemmas.List.{get_or_past, map-append}
use Rattle.calculus.specs.declared.setting.Logic.{Logic}
use Rattle.calculus.specs.declared.setting.Logic.TheVariants.{Classical, Intuitionistic, D, T as LogicT, S4, S5}
use Rattle.calculus.specs.Ground.{marks_list, marks_tree}
use Rattle.calculus.specs.Instances.{after_character, after_string, root_spot}
use Rattle.calculus.specs.Labels.{nu_label, pi_label}
use Rattle.calculus.specs.Lists.{marks_list-marks_tree}
use Rattle.formula_core.specs.GroundLists.{GroundList, no_list, of_terms, the_g_term, the_mark, the_values, values_in}
use Rattle.formula_core.specs.declared.ground.GroundMark.{GroundMark}
use Rattle.formula_core.specs.declared.ground.GroundMark.TheVariants as mark
use Rattle.formula_core.specs.declared.ground.GroundTerm.{GroundTerm}
use Rattle.formula_core.specs.declared.ground.Values.{Values}
use Rattle.sequent_convert.specs.ByNumber.SpotView.{kept_marks, taken_is, the_spot}
use Rattle.sequent_convert.specs.declared.spot.Spot.{Spot}

-- the label of a nu step
nu-moved : (ls : List GroundList) (l : Logic) (w s all : List GroundMark) → all ≡ kept_marks l w ++ s → map (the_mark ls) all ≡ nu_label l (map (the_mark ls) w) (marks_list (marks_tree (map (the_mark ls) s)))
nu-moved ls l w s all e = ap (map (the_mark ls)) e ∙ by l ∙ ap (nu_label l (map (the_mark ls) w)) (sym (marks_list-marks_tree (map (the_mark ls) s)))
  where
    by : (l : Logic) → map (the_mark ls) (kept_marks l w ++ s) ≡ nu_label l (map (the_mark ls) w) (map (the_mark ls) s)
    by Classical = map-append (the_mark ls) w s
    by Intuitionistic = map-append (the_mark ls) w s
    by D = map-append (the_mark ls) w s
    by LogicT = map-append (the_mark ls) w s
    by S4 = map-append (the_mark ls) w s
    by S5 = refl

-- the label of a pi step
pi-moved : (ls : List GroundList) (l : Logic) (w all : List GroundMark) (m : GroundMark) → all ≡ kept_marks l w ++ m ∷ [] → map (the_mark ls) all ≡ pi_label l (map (the_mark ls) w) (the_mark ls m)
pi-moved ls l w all m e = ap (map (the_mark ls)) e ∙ by l
  where
    by : (l : Logic) → map (the_mark ls) (kept_marks l w ++ m ∷ []) ≡ pi_label l (map (the_mark ls) w) (the_mark ls m)
    by Classical = map-append (the_mark ls) w (m ∷ [])
    by Intuitionistic = map-append (the_mark ls) w (m ∷ [])
    by D = map-append (the_mark ls) w (m ∷ [])
    by LogicT = map-append (the_mark ls) w (m ∷ [])
    by S4 = map-append (the_mark ls) w (m ∷ [])
    by S5 = refl

-- the spot of a nu step
pub nu-spot : (ls : List GroundList) (l : Logic) (c d : Spot) (s all : List GroundMark) (vs : Values) → all ≡ kept_marks l c.label.value.items ++ s → the_spot ls d ≡ record { position = c.position; label = map (the_mark ls) all; taken = the_values ls vs; env = map (the_g_term ls) c.env.value.items } → the_spot ls d ≡ taken_is (the_values ls vs) (after_string l (marks_tree (map (the_mark ls) s)) (the_spot ls c))
nu-spot ls l c d s all vs e h = h ∙ (λ i. record { position = c.position; label = nu-moved ls l c.label.value.items s all e i; taken = the_values ls vs; env = map (the_g_term ls) c.env.value.items })

-- the spot of a pi step
pub pi-spot : (ls : List GroundList) (l : Logic) (c d : Spot) (m : GroundMark) (all : List GroundMark) (vs : Values) → m ≡ mark.New (record { 0 = c.position }) c.taken → all ≡ kept_marks l c.label.value.items ++ m ∷ [] → the_spot ls d ≡ record { position = c.position; label = map (the_mark ls) all; taken = the_values ls vs; env = map (the_g_term ls) c.env.value.items } → the_spot ls d ≡ taken_is (the_values ls vs) (after_character l (the_spot ls c))
pi-spot ls l c d m all vs named e h =
    let label : map (the_mark ls) all ≡ pi_label l (map (the_mark ls) c.label.value.items) (the_mark ls (mark.New (record { 0 = c.position }) c.taken)) = pi-moved ls l c.label.value.items all m e ∙ ap (λ n. pi_label l (map (the_mark ls) c.label.value.items) (the_mark ls n)) named in
    h ∙ (λ i. record { position = c.position; label = label i; taken = the_values ls vs; env = map (the_g_term ls) c.env.value.items })

-- the root, by the number of the empty list
pub root-by : (ls : List GroundList) (w : List GroundMark) (v : Values) (ts : List GroundTerm) → w ≡ [] → v.0 ≡ no_list → ts ≡ [] → length ls ≤ no_list → record { position = 0; label = map (the_mark ls) w; taken = the_values ls v; env = map (the_g_term ls) ts } ≡ root_spot
root-by ls w v ts no_marks number no_terms most =
    let none : the_values ls v ≡ [] = ap values_in (get_or_past ls v.0 (of_terms []) (omega (arith, number, most))) in
    λ i. record { position = 0; label = map (the_mark ls) (no_marks i); taken = none i; env = map (the_g_term ls) (no_terms i) }
