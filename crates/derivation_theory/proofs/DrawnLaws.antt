-- What is drawn from the components of a place gives what is drawn from the place, with the same literals.
use Rattle.std.proofs.Common.{◌≡◌, suc, List, [], ◌∷◌, ◌++◌, IsTrue, refl, sym, subst, inl, inr}
use Rattle.std.specs.List.{list_all}
use Rattle.std.proofs.lemmas.Bool.{and_from}
use Rattle.plain_laws.proofs.Every.{all-append}
use Rattle.calculus.specs.declared.sign.Sign.{Sign}
use Rattle.calculus.specs.declared.kind.Shape.TheVariants.{Alpha, Beta, Gamma, Delta}
use Rattle.calculus.specs.declared.kind.ModalPart.TheVariants.{Plain, Nu, Pi}
use Rattle.calculus.specs.Syntax.{Formula, Problem}
use Rattle.calculus.specs.Ground.{GroundTerm, Marks, g_eigen, term, steps, marks_list, values_tree}
use Rattle.calculus.specs.Equality.{mark_eq}
use Rattle.calculus.specs.Kinds.{Signed, shape_of, modal_of, components}
use Rattle.calculus.specs.Positions.{size}
use Rattle.calculus.specs.Labels.{steps_to, nu_label}
use Rattle.calculus.specs.Skolem.{is_admitted, is_admitted_value, is_allowed}
use Rattle.calculus.specs.Instances.{Spot, down_by, spot_inside, after_string, after_character, Share, reaching, with_side, with_string, with_character, with_term, both, by_plain, by_nu, by_pi, Shaped, by_only, by_left, by_right, by_both, by_gamma, by_delta, gamma_is_allowed}
use Rattle.calculus.specs.declared.sign.Side.TheVariants.{Left, Right}
use Rattle.derivation_theory.proofs.Places.{Place, IsDrawn, OneIn, IsDrawnFrom}
use Rattle.derivation_theory.proofs.RefutedLaws.{StandFor, StandForBoth}

abbrev pub place_at : Spot → Sign → Formula → Place
place_at c s f = record { spot = c; sign = s; formula = f }

-- the spot past the modal part of the signed formula
pub data Past (P : Problem) (s : Sign) (f : Formula) (c : Spot) : Spot → Type 0 where
  past_plain : modal_of P.setting.logic s f ≡ Plain → Past P s f c c
  past_nu : (w : Marks) → modal_of P.setting.logic s f ≡ Nu → IsTrue (steps_to mark_eq P.setting.logic c.label (nu_label P.setting.logic c.label (marks_list w))) → IsTrue (is_admitted_value P (steps w)) → Past P s f c (after_string P.setting.logic w c)
  past_pi : modal_of P.setting.logic s f ≡ Pi → Past P s f c (after_character P.setting.logic c)

-- what is drawn past the modal part
pub record IsShaped (P : Problem) (d : Spot) (s : Sign) (f : Formula) (x : Share) : Type 0 where
  pub given : Shaped P.setting.logic d s f x
  pub admitted : IsTrue (list_all (is_admitted_value P) x.values)
  pub allowed : IsTrue (list_all (gamma_is_allowed P) x.gammas)

pub drawn-past : (P : Problem) (s : Sign) (f : Formula) (c d : Spot) → Past P s f c d → (x : Share) → IsShaped P d s f x → (y : Share) × IsDrawn P (place_at c s f) y × (y.literals ≡ x.literals)
drawn-past P s f c d (past_plain e) x h = (x, record { given = by_plain e h.given; admitted = h.admitted; allowed = h.allowed }, refl)
drawn-past P s f c d (past_nu w e step good) x h = (with_string w x, record { given = by_nu w e step h.given; admitted = and_from (is_admitted_value P (steps w)) (list_all (is_admitted_value P) x.values) good h.admitted; allowed = h.allowed }, refl)
drawn-past P s f c d (past_pi e) x h = (with_character x, record { given = by_pi e h.given; admitted = h.admitted; allowed = h.allowed }, refl)

-- the place is one of the list
abbrev pub IsOne : Place → List Place → Type 0
IsOne p ps = OneIn (λ q. q ≡ p) ps

pub drawn-one : (P : Problem) (p : Place) (ps : List Place) → IsOne p ps → (y : Share) → IsDrawn P p y → IsDrawnFrom P ps y
drawn-one P p [] o y h = absurd o
drawn-one P p (q ∷ ps) (inl e) y h = inl (subst (λ z. IsDrawn P z y) (sym e) h)
drawn-one P p (q ∷ ps) (inr o) y h = inr (drawn-one P p ps o y h)

lifted : (P : Problem) (ps : List Place) (s : Sign) (f : Formula) (c d : Spot) → IsOne (place_at c s f) ps → Past P s f c d → (x : Share) → IsShaped P d s f x → (y : Share) × IsDrawnFrom P ps y × (y.literals ≡ x.literals)
lifted P ps s f c d o past x h = let y = drawn-past P s f c d past x h in (y.0, drawn-one P (place_at c s f) ps o y.0 y.1, y.2)

pub only-stands_for : (P : Problem) (ps : List Place) (s : Sign) (f : Formula) (c d : Spot) (a : Signed) → IsOne (place_at c s f) ps → Past P s f c d → shape_of s f ≡ Alpha → components s f ≡ a ∷ [] → StandFor P ps (place_at (down_by 1 d) a.sign a.formula)
only-stands_for P ps s f c d a o past h k x r = lifted P ps s f c d o past (reaching d.position d.taken x) (record { given = by_only h k r.given; admitted = r.admitted; allowed = r.allowed })

pub left-stands_for : (P : Problem) (ps : List Place) (s : Sign) (f : Formula) (c d : Spot) (a b : Signed) → IsOne (place_at c s f) ps → Past P s f c d → shape_of s f ≡ Alpha → components s f ≡ a ∷ b ∷ [] → StandFor P ps (place_at (down_by 1 d) a.sign a.formula)
left-stands_for P ps s f c d a b o past h k x r = lifted P ps s f c d o past (reaching d.position d.taken (with_side Left x)) (record { given = by_left h k r.given; admitted = r.admitted; allowed = r.allowed })

pub right-stands_for : (P : Problem) (ps : List Place) (s : Sign) (f : Formula) (c d : Spot) (a b : Signed) → IsOne (place_at c s f) ps → Past P s f c d → shape_of s f ≡ Alpha → components s f ≡ a ∷ b ∷ [] → StandFor P ps (place_at (down_by (suc (size a.formula)) d) b.sign b.formula)
right-stands_for P ps s f c d a b o past h k x r = lifted P ps s f c d o past (reaching d.position d.taken (with_side Right x)) (record { given = by_right h k r.given; admitted = r.admitted; allowed = r.allowed })

pub both-stand_for : (P : Problem) (ps : List Place) (s : Sign) (f : Formula) (c d : Spot) (a b : Signed) → IsOne (place_at c s f) ps → Past P s f c d → shape_of s f ≡ Beta → components s f ≡ a ∷ b ∷ [] → StandForBoth P ps (place_at (down_by 1 d) a.sign a.formula) (place_at (down_by (suc (size a.formula)) d) b.sign b.formula)
both-stand_for P ps s f c d a b o past h k x y r t = lifted P ps s f c d o past (reaching d.position d.taken (both x y)) (record { given = by_both h k r.given t.given; admitted = all-append (is_admitted_value P) x.values y.values r.admitted t.admitted; allowed = all-append (gamma_is_allowed P) x.gammas y.gammas r.allowed t.allowed })

pub gamma-stands_for : (P : Problem) (ps : List Place) (s : Sign) (f : Formula) (c d : Spot) (a : Signed) (t : GroundTerm) → IsOne (place_at c s f) ps → Past P s f c d → shape_of s f ≡ Gamma → components s f ≡ a ∷ [] → IsTrue (is_admitted P t) → IsTrue (is_allowed P d.label t) → StandFor P ps (place_at (spot_inside t (d.taken ++ term t ∷ []) d) a.sign a.formula)
gamma-stands_for P ps s f c d a t o past h k good may x r = lifted P ps s f c d o past (reaching d.position (d.taken ++ term t ∷ []) (with_term t d.label x)) (record { given = by_gamma t h k r.given; admitted = and_from (is_admitted P t) (list_all (is_admitted_value P) x.values) good r.admitted; allowed = and_from (is_allowed P d.label t) (list_all (gamma_is_allowed P) x.gammas) may r.allowed })

pub delta-stands_for : (P : Problem) (ps : List Place) (s : Sign) (f : Formula) (c d : Spot) (a : Signed) → IsOne (place_at c s f) ps → Past P s f c d → shape_of s f ≡ Delta → components s f ≡ a ∷ [] → StandFor P ps (place_at (spot_inside (g_eigen d.position (values_tree d.taken)) d.taken d) a.sign a.formula)
delta-stands_for P ps s f c d a o past h k x r = lifted P ps s f c d o past (reaching d.position d.taken x) (record { given = by_delta h k r.given; admitted = r.admitted; allowed = r.allowed })
