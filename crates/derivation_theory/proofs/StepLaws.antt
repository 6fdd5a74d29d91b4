-- A step of a derivation: where its children's places are refuted, those of the sequent are.
use Rattle.std.proofs.Common.{◌≡◌, ℕ, suc, List, [], ◌∷◌, ◌++◌, map, true, false, ◌||◌, Option, Some, IsTrue, refl, sym, ◌∙◌, ap, subst, if◌then◌else◌, append-nil, append_assoc}
use Rattle.std.specs.List.{list_all}
use Rattle.std.specs.Option.{option_map_or}
use Rattle.std.proofs.lemmas.Bool.{and_parts, and_from, or_parts, false≢true, not-true}
use Rattle.plain_laws.proofs.Every.{all-append}
use Rattle.calculus.specs.declared.sign.Sign.{Sign}
use Rattle.calculus.specs.declared.setting.Logic.{Logic}
use Rattle.calculus.specs.declared.setting.Logic.TheVariants.{Classical, Intuitionistic, D, T as LogicT, S4, S5}
use Rattle.calculus.specs.declared.kind.Shape.{Shape}
use Rattle.calculus.specs.declared.kind.Shape.TheVariants.{Delta}
use Rattle.calculus.specs.declared.kind.ModalPart.{ModalPart}
use Rattle.calculus.specs.declared.kind.ModalPart.TheVariants.{Plain, Nu, Pi}
use Rattle.calculus.specs.Syntax.{eigen, Formula, Problem}
use Rattle.calculus.specs.Ground.{GroundTerm, GroundMark, Marks, g_eigen, g_new_mark, term, steps, marks_list, marks_tree, values_list, values_tree}
use Rattle.calculus.specs.Equality.{mark_eq, list_eq}
use Rattle.calculus.specs.Kinds.{signed, shape_of, modal_of, components}
use Rattle.calculus.specs.Positions.{size, Node, node}
use Rattle.calculus.specs.Labels.{is_prefix, steps_to, nu_label, pi_label, home_allows}
use Rattle.calculus.specs.Lists.{marks_list-marks_tree}
use Rattle.calculus.specs.Substitution.{instance, any_leaf, any_leaf_in}
use Rattle.calculus.specs.Skolem.{is_admitted, is_admitted_value, is_admitted_mark, is_allowed, label_of}
use Rattle.calculus.specs.Instances.{Spot, down_by, spot_inside, after_string, after_character}
use Rattle.calculus.specs.Derivations.{Mark, new_mark, Label, character_eq, EigenName, Names, Entry, Sequent, ModalArg, no_modal, to, by_new, TermArg, no_term, by_term, by_name}
use Rattle.calculus.specs.DerivationText.{term_arg_is_written}
use Rattle.calculus.specs.Calculus.{is_atom, Children, closed, one, two, eigen_named, holds_character, is_in_home, is_eigen, character_occurs, eigen_occurs, modal_fits, term_fits, has_step, label_after, is_reachable, character_is_new, eigen_is_new, home_is, term_allowed, is_forbidden, with_argument, with_components}
use Rattle.calculus.proofs.EqualityLaws.{list_eq-tells, character_eq-tells, nat_eq-tells}
use Rattle.calculus.proofs.SpotLaws.{Halfway, is_gamma, home-here, eigen-proper, mark-proper, proper-marks, values_list-tree}
use Rattle.calculus.proofs.InstanceLaws.{component-stands, gamma-stands, WayDown}
use Rattle.string_theory.proofs.PlaceLaws.{is_literal_shape, way-only, way-first, way-second}
use Rattle.string_theory.proofs.SpotChanges.{plain-half, nu-half, pi-half}
use Rattle.derivation_theory.proofs.Places.{Place, AreRefuted}
use Rattle.derivation_theory.proofs.Meanings.{Meaning, label_means, label_here, term_means, Says, HasHome, IsProper, StandsAt, StandAt}
use Rattle.derivation_theory.proofs.RefutedLaws.{refuted-one, refuted-two}
use Rattle.derivation_theory.proofs.SaysLaws.{says-instance, says-stays}
use Rattle.derivation_theory.proofs.DrawnLaws.{place_at, Past, past_plain, past_nu, past_pi, IsOne, only-stands_for, left-stands_for, right-stands_for, both-stand_for, gamma-stands_for, delta-stands_for}
use Rattle.derivation_theory.proofs.TermLaws.{steps-mean, term-closed, term-good}
use Rattle.derivation_theory.proofs.BranchLaws.{Kind, literal_kind, only_kind, alpha_kind, beta_kind, gamma_kind, delta_kind}
use Rattle.derivation_theory.proofs.NewNameLaws.{admitted-label, label-stays, with_mark, mark-itself, with_mark-proper, with_mark-stands, with_mark-stand, with_eigen, with_eigen-proper, with_eigen-keeps, with_eigen-stand}

-- ---- labels of steps

rest-of : (w v : Label) → IsTrue (is_prefix character_eq w v) → (u : Label) × (v ≡ w ++ u)
rest-of [] v h = (v, refl)
rest-of (c ∷ w) [] h = absurd (false≢true h)
rest-of (c ∷ w) (d ∷ v) h =
    let e = and_parts (character_eq c d) (is_prefix character_eq w v) h in
    let r = rest-of w v e.1 in
    (r.0, λ i. (sym ((character_eq-tells c d).0 e.0) i) ∷ (r.1 i))

pub means-join : (f : Mark → List GroundMark) (xs ys : Label) → label_means f (xs ++ ys) ≡ label_means f xs ++ label_means f ys
means-join f [] ys = refl
means-join f (x ∷ xs) ys = ap (λ zs. f x ++ zs) (means-join f xs ys) ∙ sym (append_assoc (f x) (label_means f xs) (label_means f ys))

behind : (w v : Label) → IsTrue (is_prefix character_eq w v) → (u : Label) × ((f : Mark → List GroundMark) → label_means f w ++ label_means f u ≡ label_means f v)
behind w v h = let r = rest-of w v h in (r.0, λ f. sym (means-join f w r.0) ∙ ap (label_means f) (sym r.1))

string-of : (l : Logic) (w v : Label) → IsTrue (steps_to character_eq l w v) → (u : Label) × ((f : Mark → List GroundMark) → nu_label l (label_means f w) (label_means f u) ≡ label_means f v)
string-of Classical w v h = ([], λ f. append-nil (label_means f w) ∙ ap (label_means f) ((list_eq-tells character_eq character_eq-tells w v).0 h))
string-of Intuitionistic w v h = behind w v h
string-of D w v h = behind w v (and_parts _ _ h).0
string-of LogicT w v h = behind w v (and_parts _ _ h).0
string-of S4 w v h = behind w v h
string-of S5 w v h = (v, λ f. refl)

pub pi-means : (l : Logic) (f : Mark → List GroundMark) (w : Label) (m : Mark) (k : GroundMark) → f m ≡ k ∷ [] → label_means f (pi_label l w m) ≡ pi_label l (label_means f w) k
pi-means S5 f w m k e = append-nil (f m) ∙ e
pi-means _ f w m k e = means-join f w (m ∷ []) ∙ ap (λ z. label_means f w ++ z) (append-nil (f m) ∙ e)

-- ---- past the modal part

-- the meaning in which the used entry, whose formula is g at its place's f, is past its modal part at the label v
pub record Reach (P : Problem) (names : Names) (s : Sequent) (ps : List Place) (c : Spot) (sg : Sign) (f g : Formula) (v : Label) : Type 0 where
  pub means : Meaning
  pub proper : IsProper P names means
  pub stand : StandAt P means s ps
  pub spot : Spot
  pub past : Past P sg f c spot
  pub label : spot.label ≡ label_means means.marks v
  pub says : Says means 0 spot.env f g
  pub before : List Node
  pub half : Halfway P before spot sg f (modal_of P.setting.logic sg f)
  pub admitted : IsTrue (list_all (is_admitted_value P) spot.taken)

abbrev pub entry : Sign → Formula → Label → Entry
entry sg g w = record { sign = sg; formula = g; label = w }

pub reach-modal : (P : Problem) (names : Names) (s : Sequent) (ps : List Place) (r : Meaning) → IsProper P names r → StandAt P r s ps → (c : Spot) (sg : Sign) (f g : Formula) (w : Label) → StandsAt P r (entry sg g w) (place_at c sg f) → c.label ≡ label_means r.marks w → ((n : ℕ) → character_occurs names (new_mark n) s ≡ false → (holds_character (new_mark n) w || any_leaf_in (is_in_home names (new_mark n)) g) ≡ false) → (q : ModalPart) → modal_of P.setting.logic sg f ≡ q → (m : ModalArg) → modal_fits q m ≡ true → is_reachable P.setting.logic w m ≡ true → character_is_new names s m ≡ true → Reach P names s ps c sg f g (label_after P.setting.logic w m)
reach-modal P names s ps r ok stand c sg f g w st here outside Plain e no_modal h reach new = record { means = r; proper = ok; stand = stand; spot = c; past = past_plain e; label = here; says = st.says; before = st.before; half = subst (Halfway P st.before c sg f) (sym e) (plain-half P st.before c sg f st.stands); admitted = st.admitted }
reach-modal P names s ps r ok stand c sg f g w st here outside Nu e (to v) h reach new =
    let l = P.setting.logic in
    let u = string-of l w v reach in
    let x : Marks = marks_tree (label_means r.marks u.0) in
    let there : nu_label l c.label (marks_list x) ≡ label_means r.marks v = (λ i. nu_label l (here i) (marks_list-marks_tree (label_means r.marks u.0) i)) ∙ u.1 r.marks in
    let step : IsTrue (steps_to mark_eq l c.label (nu_label l c.label (marks_list x))) = subst (λ z. IsTrue (steps_to mark_eq l c.label z)) (sym there) (subst (λ z. IsTrue (steps_to mark_eq l z (label_means r.marks v))) (sym here) (steps-mean l r.marks ok.single w v reach)) in
    let good : IsTrue (is_admitted_value P (steps x)) = proper-marks P x ∙ ap (list_all (is_admitted_mark P)) (marks_list-marks_tree (label_means r.marks u.0)) ∙ admitted-label P r.marks ok.marks u.0 in
    record { means = r; proper = ok; stand = stand; spot = after_string l x c; past = past_nu x e step good; label = there; says = st.says; before = st.before; half = subst (Halfway P st.before (after_string l x c) sg f) (sym e) (nu-half P st.before c sg f x step st.stands); admitted = all-append (is_admitted_value P) c.taken (steps x ∷ []) st.admitted (and_from (is_admitted_value P (steps x)) true good refl) }
reach-modal P names s ps r ok stand c sg f g w st here outside Pi e (by_new n) h reach new =
    let l = P.setting.logic in
    let fresh = not-true (character_occurs names (new_mark n) s) new in
    let k : GroundMark = g_new_mark c.position (values_tree c.taken) in
    let q = with_mark names (new_mark n) (k ∷ []) r in
    let now = with_mark-stands P names (new_mark n) (k ∷ []) r (entry sg g w) (place_at c sg f) (outside n fresh) st in
    let there : pi_label l c.label k ≡ label_means q.marks (pi_label l w (new_mark n)) = ap (λ z. pi_label l z k) (here ∙ sym (label-stays (new_mark n) (k ∷ []) r.marks w (or_parts (holds_character (new_mark n) w) (any_leaf_in (is_in_home names (new_mark n)) g) (outside n fresh)).0)) ∙ sym (pi-means l q.marks w (new_mark n) k (mark-itself (new_mark n) (k ∷ []) r.marks)) in
    record { means = q; proper = with_mark-proper P names (new_mark n) (k ∷ []) r (and_from (is_admitted_mark P k) true (mark-proper P st.before c sg f st.stands e st.admitted) refl) (λ z. refl) ok; stand = with_mark-stand P names (new_mark n) (k ∷ []) r s ps fresh stand; spot = after_character l c; past = past_pi e; label = there; says = now.says; before = st.before; half = subst (Halfway P st.before (after_character l c) sg f) (sym e) (pi-half P st.before c sg f st.stands); admitted = st.admitted }
reach-modal P names s ps r ok stand c sg f g w st here outside q e m h reach new = absurd (false≢true h)

-- ---- the argument

abbrev pub ArgumentMeans : (P : Problem) → Meaning → Spot → Label → TermArg → Type 0
ArgumentMeans P r d v no_term = Unit {0}
ArgumentMeans P r d v (by_term t) = IsTrue (is_admitted P (term_means r [] t)) × IsTrue (is_allowed P (label_means r.marks v) (term_means r [] t)) × ((xs : List GroundTerm) → term_means r xs t ≡ term_means r [] t)
ArgumentMeans P r d v (by_name n) = r.eigens n ≡ g_eigen d.position (values_tree d.taken)

pub record Ready (P : Problem) (names : Names) (s : Sequent) (ps : List Place) (c : Spot) (sg : Sign) (f g : Formula) (v : Label) (t : TermArg) : Type 0 where
  pub reach : Reach P names s ps c sg f g v
  pub argument : ArgumentMeans P reach.means reach.spot v t

named : (P : Problem) (names : Names) (s : Sequent) (ps : List Place) (c : Spot) (sg : Sign) (f g : Formula) (v : Label) (n : ℕ) → Reach P names s ps c sg f g v → shape_of sg f ≡ Delta → eigen_occurs n s ≡ false → any_leaf_in (is_eigen n) g ≡ false → home_is names v (by_name n) ≡ true → Ready P names s ps c sg f g v (by_name n)
named P names s ps c sg f g v n R delta fresh without home =
    let d = R.spot in
    let k : GroundTerm = g_eigen d.position (values_tree d.taken) in
    let r = R.means in
    let here : label_of P d.position (values_list (values_tree d.taken)) ≡ d.label = ap (label_of P d.position) (values_list-tree d.taken) ∙ home-here P R.before d sg f R.half (ap is_gamma delta) in
    let at_home : (x : EigenName) → eigen_named names n ≡ Some x → HasHome P (label_means r.marks x.home) k = λ x e.
    let same : list_eq character_eq x.home v ≡ true = subst (λ (o : Option EigenName). option_map_or (λ (y : EigenName). list_eq character_eq y.home v) o false ≡ true) e home in
    let to_here : label_means r.marks x.home ≡ label_of P d.position (values_list (values_tree d.taken)) = ap (label_means r.marks) ((list_eq-tells character_eq character_eq-tells x.home v).0 same) ∙ sym R.label ∙ sym here in
    record { admitted = eigen-proper P R.before d sg f R.half delta R.admitted; allowed = λ w h. subst (λ z. IsTrue (home_allows mark_eq P.setting.domains z w)) to_here h } in
    record {
      reach = record { means = with_eigen n k r; proper = with_eigen-proper P names n k r at_home R.proper; stand = with_eigen-stand P n k r s ps fresh R.stand; spot = d; past = R.past; label = R.label; says = says-stays (is_eigen n) r (with_eigen n k r) (with_eigen-keeps n k r) R.says without; before = R.before; half = R.half; admitted = R.admitted };
      argument = ap (λ b. if b then k else r.eigens n) ((nat_eq-tells n n).1 refl);
    }

delta-only : (q : Shape) (n : ℕ) → term_fits q (by_name n) ≡ true → q ≡ Delta
delta-only Delta n h = refl
delta-only q n h = absurd (false≢true h)

pub ready : (P : Problem) (names : Names) (s : Sequent) (ps : List Place) (c : Spot) (sg : Sign) (f g : Formula) (v : Label) → Reach P names s ps c sg f g v → (t : TermArg) → term_fits (shape_of sg f) t ≡ true → ((n : ℕ) → eigen_occurs n s ≡ false → any_leaf_in (is_eigen n) g ≡ false) → eigen_is_new s t ≡ true → home_is names v t ≡ true → term_allowed P names v t ≡ true → term_arg_is_written P.symbols t ≡ true → Ready P names s ps c sg f g v t
ready P names s ps c sg f g v R no_term fit out new home may written = record { reach = R; argument = tt }
ready P names s ps c sg f g v R (by_term t) fit out new home may written =
    let none = not-true (any_leaf (is_forbidden P names v) t) may in
    let good = term-good P names R.means R.proper v t none written in
    record { reach = R; argument = (good.0, good.1, λ xs. term-closed P names v R.means xs t none) }
ready P names s ps c sg f g v R (by_name n) fit out new home may written = let fresh = not-true (eigen_occurs n s) new in named P names s ps c sg f g v n R (delta-only (shape_of sg f) n fit) fresh (out n fresh) home

-- ---- the shape

abbrev pub Claim : Problem → Names → Sequent → Type 0
Claim P names t = (r : Meaning) (qs : List Place) → IsProper P names r → StandAt P r t qs → AreRefuted P qs

abbrev pub Follows : Problem → Names → List Place → Children → Type 0
Follows P names ps closed = AreRefuted P ps
Follows P names ps (one t) = Claim P names t → AreRefuted P ps
Follows P names ps (two t u) = Claim P names t → Claim P names u → AreRefuted P ps

pub stand-join : (P : Problem) (r : Meaning) (s t : Sequent) (ps qs : List Place) → StandAt P r s ps → StandAt P r t qs → StandAt P r (s ++ t) (ps ++ qs)
stand-join P r [] t [] qs h k = k
stand-join P r [] t (p ∷ ps) qs h k = absurd h
stand-join P r (e ∷ s) t [] qs h k = absurd h
stand-join P r (e ∷ s) t (p ∷ ps) qs h k = (h.0, stand-join P r s t ps qs h.1 k)

-- the component at k further on
component-at : (P : Problem) (names : Names) (s : Sequent) (ps : List Place) (c : Spot) (sg : Sign) (f g : Formula) (v : Label) (R : Reach P names s ps c sg f g v) → is_gamma (shape_of sg f) ≡ false → (k : ℕ) (t : Sign) (a b : Formula) → WayDown R.spot.position sg f k t a → Says R.means 0 R.spot.env a b → StandsAt P R.means (entry t b v) (place_at (down_by k R.spot) t a)
component-at P names s ps c sg f g v R e k t a b way says = record { sign = refl; label = label_here R.label; says = says; before = R.before ++ node R.spot.position sg f ∷ []; stands = component-stands P R.before R.spot sg f R.half e k t a R.spot.env way; admitted = R.admitted }

pub shape-follows : (P : Problem) (names : Names) → (s : Sequent) (ps : List Place) (c : Spot) (sg : Sign) (f g : Formula) → is_atom g ≡ false → (v : Label) (t : TermArg) (R : Ready P names s ps c sg f g v t) → IsOne (place_at c sg f) ps → term_fits (shape_of sg g) t ≡ true → has_step (modal_of P.setting.logic sg g) (shape_of sg g) ≡ true → Kind R.reach.means R.reach.spot.env sg f g → Follows P names ps (with_components (shape_of sg g) s v (map (with_argument t) (components sg g)))
shape-follows P names s ps c sg f g plain v t R o fit step (literal_kind p us e h k m) = absurd (false≢true (sym plain ∙ ap is_atom e))
shape-follows P names s ps c sg f g plain v no_term R o fit step (only_kind u a b h k m n says) =
    let X = R.reach in
    let q = place_at (down_by 1 X.spot) u a in
    rw (k, n) (λ claim. refuted-one P ps (q ∷ []) (only-stands_for P ps sg f c X.spot (signed u a) o X.past h m, tt) (claim X.means (ps ++ q ∷ []) X.proper (stand-join P X.means s (entry u b v ∷ []) ps (q ∷ []) X.stand (component-at P names s ps c sg f g v X (ap is_gamma h) 1 u a b (way-only X.spot.position sg f (signed u a) (ap is_literal_shape h) m) says, tt))))
shape-follows P names s ps c sg f g plain v no_term R o fit step (alpha_kind u w a a2 b b2 h k m n says more) =
    let X = R.reach in
    let q = place_at (down_by 1 X.spot) u a in
    let q2 = place_at (down_by (suc (size a)) X.spot) w a2 in
    rw (k, n) (λ claim. refuted-one P ps (q ∷ q2 ∷ []) (left-stands_for P ps sg f c X.spot (signed u a) (signed w a2) o X.past h m, (right-stands_for P ps sg f c X.spot (signed u a) (signed w a2) o X.past h m, tt)) (claim X.means (ps ++ q ∷ q2 ∷ []) X.proper (stand-join P X.means s (entry u b v ∷ entry w b2 v ∷ []) ps (q ∷ q2 ∷ []) X.stand (component-at P names s ps c sg f g v X (ap is_gamma h) 1 u a b (way-first X.spot.position sg f (signed u a) (signed w a2) m) says, (component-at P names s ps c sg f g v X (ap is_gamma h) (suc (size a)) w a2 b2 (way-second X.spot.position sg f (signed u a) (signed w a2) m) more, tt)))))
shape-follows P names s ps c sg f g plain v no_term R o fit step (beta_kind u w a a2 b b2 h k m n says more) =
    let X = R.reach in
    let q = place_at (down_by 1 X.spot) u a in
    let q2 = place_at (down_by (suc (size a)) X.spot) w a2 in
    rw (k, n) (λ claim other. refuted-two P ps q q2 (both-stand_for P ps sg f c X.spot (signed u a) (signed w a2) o X.past h m)
    (claim X.means (ps ++ q ∷ []) X.proper (stand-join P X.means s (entry u b v ∷ []) ps (q ∷ []) X.stand (component-at P names s ps c sg f g v X (ap is_gamma h) 1 u a b (way-first X.spot.position sg f (signed u a) (signed w a2) m) says, tt)))
    (other X.means (ps ++ q2 ∷ []) X.proper (stand-join P X.means s (entry w b2 v ∷ []) ps (q2 ∷ []) X.stand (component-at P names s ps c sg f g v X (ap is_gamma h) (suc (size a)) w a2 b2 (way-second X.spot.position sg f (signed u a) (signed w a2) m) more, tt))))
shape-follows P names s ps c sg f g plain v (by_term t) R o fit step (gamma_kind a b h k m n says) =
    let X = R.reach in
    let d = X.spot in
    let z : GroundTerm = term_means X.means [] t in
    let q = place_at (spot_inside z (d.taken ++ term z ∷ []) d) sg a in
    let arg = R.argument in
    rw (k, n) (λ claim. refuted-one P ps (q ∷ []) (gamma-stands_for P ps sg f c d (signed sg a) z o X.past h m arg.0 (subst (λ w. IsTrue (is_allowed P w z)) (sym X.label) arg.1), tt)
    (claim X.means (ps ++ q ∷ []) X.proper (stand-join P X.means s (entry sg (instance t b) v ∷ []) ps (q ∷ []) X.stand
    (record { sign = refl; label = label_here X.label; says = says-instance X.means t z arg.2 says; before = X.before ++ node d.position sg f ∷ []; stands = gamma-stands P X.before d sg f X.half h z a (z ∷ d.env) (way-only d.position sg f (signed sg a) (ap is_literal_shape h) m); admitted = all-append (is_admitted_value P) d.taken (term z ∷ []) X.admitted (and_from (is_admitted P z) true arg.0 refl) }, tt))))
shape-follows P names s ps c sg f g plain v (by_name x) R o fit step (delta_kind a b h k m n says) =
    let X = R.reach in
    let d = X.spot in
    let z : GroundTerm = g_eigen d.position (values_tree d.taken) in
    let q = place_at (spot_inside z d.taken d) sg a in
    rw (k, n) (λ claim. refuted-one P ps (q ∷ []) (delta-stands_for P ps sg f c d (signed sg a) o X.past h m, tt)
    (claim X.means (ps ++ q ∷ []) X.proper (stand-join P X.means s (entry sg (instance (eigen x) b) v ∷ []) ps (q ∷ []) X.stand
    (record { sign = refl; label = label_here X.label; says = says-instance X.means (eigen x) z (λ xs. R.argument) says; before = X.before ++ node d.position sg f ∷ []; stands = component-stands P X.before d sg f X.half (ap is_gamma h) 1 sg a (z ∷ d.env) (way-only d.position sg f (signed sg a) (ap is_literal_shape h) m); admitted = X.admitted }, tt))))
shape-follows P names s ps c sg f g plain v t R o fit step (only_kind u a b h k m n says) = absurd (false≢true (rw k at fit))
shape-follows P names s ps c sg f g plain v t R o fit step (alpha_kind u w a a2 b b2 h k m n says more) = absurd (false≢true (rw k at fit))
shape-follows P names s ps c sg f g plain v t R o fit step (beta_kind u w a a2 b b2 h k m n says more) = absurd (false≢true (rw k at fit))
shape-follows P names s ps c sg f g plain v t R o fit step (gamma_kind a b h k m n says) = absurd (false≢true (rw k at fit))
shape-follows P names s ps c sg f g plain v t R o fit step (delta_kind a b h k m n says) = absurd (false≢true (rw k at fit))
