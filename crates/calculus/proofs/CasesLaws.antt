-- The cases that define an instance and the function that computes one agree.
use Rattle.std.proofs.Common.{◌≡◌, ◌↔◌, ℕ, suc, List, [], ◌∷◌, ◌++◌, Bool, true, false, ◌&&◌, IsTrue, refl, sym, ◌∙◌, ap, subst, Option, Some, None, option_map, option_and_then, inl, inr, append_assoc, append-nil}
use Rattle.std.specs.List.{list_all}
use Rattle.std.specs.Option.{option_map_or}
use Rattle.std.proofs.lemmas.Bool.{false≢true, cases_Bool, and_parts, and_from}
use Rattle.calculus.specs.declared.sign.Sign.{Sign}
use Rattle.calculus.specs.declared.sign.Sign.TheVariants.{T, F}
use Rattle.calculus.specs.declared.sign.Side.{Side}
use Rattle.calculus.specs.declared.sign.Side.TheVariants.{Left, Right}
use Rattle.calculus.specs.declared.setting.Logic.{Logic}
use Rattle.calculus.specs.declared.kind.Shape.{Shape}
use Rattle.calculus.specs.declared.kind.Shape.TheVariants.{Alpha, Beta, Gamma, Delta, Literal}
use Rattle.calculus.specs.declared.kind.ModalPart.{ModalPart}
use Rattle.calculus.specs.declared.kind.ModalPart.TheVariants.{Plain, Nu, Pi}
use Rattle.calculus.specs.Syntax.{Terms, Formula, atom, neg, conj, disj, imp, all, ex, box, dia, Problem}
use Rattle.calculus.specs.Ground.{Value, g_eigen, term, steps, values_tree, marks_list, GroundLiteral}
use Rattle.calculus.specs.Equality.{mark_eq, list_eq, literal_eq}
use Rattle.calculus.specs.Kinds.{Signed, signed, other, shape_of, modal_of, components}
use Rattle.calculus.specs.Positions.{size}
use Rattle.calculus.specs.Labels.{steps_to, nu_label}
use Rattle.calculus.specs.Skolem.{is_empty, is_admitted_value}
use Rattle.calculus.specs.Instances.{Spot, root_spot, down_by, spot_inside, after_string, after_character, Share, literal_share, reaching, with_side, with_string, with_character, with_term, both, Gives, Shaped, by_plain, by_nu, by_pi, is_literal, by_only, by_left, by_right, by_both, by_gamma, by_delta, IsInstance, IsAllowedInstance, gamma_is_allowed, ClauseInstance, clause_instance}
use Rattle.calculus.specs.ComputedInstances.{Supply, Part, at_modal, with_modal_step, with_turn, with_gamma, at_one, at_two, at_beta, at_gamma, at_literal, at_quantifier, join_of, part_of, if_used_up, instance_of, is_instance, is_allowed_instance, part_by, ComputesInstances}
use Rattle.calculus.proofs.EqualityLaws.{list_eq-tells, literal_eq-tells}
use Rattle.calculus.proofs.InstanceLaws.{OnPart}

-- the supply before a share is used up
abbrev pub before : Share → Supply → Supply
before x r = record { sides = x.sides ++ r.sides; values = x.values ++ r.values }

-- ---- what the cases give is computed

abbrev Runs : (Spot → Supply → Option Part) → Spot → Share → Type 0
Runs go c x = (r : Supply) → go c (before x r) ≡ Some (part_by x r)

modal-runs : (l : Logic) (s : Sign) (f : Formula) (go : Spot → Supply → Option Part) → ((d : Spot) (y : Share) → Shaped l d s f y → Runs go d y) → (c : Spot) (x : Share) → Gives l c s f x → Runs (at_modal l (modal_of l s f) go) c x
modal-runs l s f go k c x (by_plain e g) r = rw e (ap (option_map (with_modal_step Plain)) (k c x g r))
modal-runs l s f go k c x (by_nu {x = y} w e h g) r = rw (e, h) (ap (option_map (with_modal_step Nu)) (k (after_string l w c) y g r))
modal-runs l s f go k c x (by_pi {x = y} e g) r = rw e (ap (option_map (with_modal_step Pi)) (k (after_character l c) y g r))

-- ---- which components a formula has

abbrev has_second : List Signed → Bool
has_second (x ∷ y ∷ ys) = true
has_second _ = false

pub one≢two : {x a b : Signed} → x ∷ [] ≡ a ∷ b ∷ [] → ⊥
one≢two e = false≢true (ap has_second e)

abbrev pub first_of : Signed → List Signed → Signed
first_of d [] = d
first_of d (x ∷ xs) = x

abbrev pub second_of : Signed → List Signed → Signed
second_of d (x ∷ y ∷ ys) = y
second_of d _ = d

abbrev pub is_alpha : Shape → Bool
is_alpha Alpha = true
is_alpha _ = false

abbrev pub is_quantified : Shape → Bool
is_quantified Gamma = true
is_quantified Delta = true
is_quantified _ = false

-- ---- what the shapes give is computed

two-before : (x y : Share) (r : Supply) → before (both x y) r ≡ before x (before y r)
two-before x y r = λ i. record { sides = append_assoc x.sides y.sides r.sides i; values = append_assoc x.values y.values r.values i }

abbrev RunsIn : Logic → Signed → (Spot → Supply → Option Part) → Type 0
RunsIn l a go = (d : Spot) (y : Share) → Gives l d a.sign a.formula y → Runs go d y

literal-runs : (l : Logic) (s : Sign) (p : ℕ) (ts : Terms) (c : Spot) (x : Share) → Shaped l c s (atom p ts) x → Runs (at_literal s p ts) c x
literal-runs l s p ts c x is_literal r = refl
literal-runs l s p ts c x (by_only e k g) r = absurd (false≢true (ap is_alpha e))
literal-runs l s p ts c x (by_left e k g) r = absurd (one≢two k)
literal-runs l s p ts c x (by_right e k g) r = absurd (one≢two k)
literal-runs l s p ts c x (by_both e k g h) r = absurd (one≢two k)
literal-runs l s p ts c x (by_gamma t e k g) r = absurd (false≢true (ap is_quantified e))
literal-runs l s p ts c x (by_delta e k g) r = absurd (false≢true (ap is_quantified e))

one-runs : (l : Logic) (s : Sign) (f : Formula) (a : Signed) → shape_of s f ≡ Alpha → components s f ≡ a ∷ [] → (body : Spot → Supply → Option Part) → RunsIn l a body → (c : Spot) (x : Share) → Shaped l c s f x → Runs (at_one body) c x
one-runs l s f a e0 k0 body h c x is_literal r = absurd (false≢true (ap is_alpha e0))
one-runs l s f a e0 k0 body h c x (by_only {x = y} {a = b} e k g) r = ap (with_turn c.position c.taken) (h (down_by 1 c) y (subst (λ (z : Signed). Gives l (down_by 1 c) z.sign z.formula y) (ap (first_of a) (sym k ∙ k0)) g) r)
one-runs l s f a e0 k0 body h c x (by_left e k g) r = absurd (one≢two (sym k0 ∙ k))
one-runs l s f a e0 k0 body h c x (by_right e k g) r = absurd (one≢two (sym k0 ∙ k))
one-runs l s f a e0 k0 body h c x (by_both e k g j) r = absurd (one≢two (sym k0 ∙ k))
one-runs l s f a e0 k0 body h c x (by_gamma t e k g) r = absurd (false≢true (ap is_alpha (sym e ∙ e0)))
one-runs l s f a e0 k0 body h c x (by_delta e k g) r = absurd (false≢true (ap is_alpha (sym e ∙ e0)))

two-runs : (l : Logic) (s : Sign) (f : Formula) (a b : Signed) → components s f ≡ a ∷ b ∷ [] → (first second : Spot → Supply → Option Part) → RunsIn l a first → RunsIn l b second → (c : Spot) (x : Share) → Shaped l c s f x → Runs (at_two (shape_of s f) (size a.formula) first second) c x
two-runs l s f a b k0 first second h j c x is_literal r = absurd (one≢two k0)
two-runs l s f a b k0 first second h j c x (by_only e k g) r = absurd (one≢two (sym k ∙ k0))
two-runs l s f a b k0 first second h j c x (by_left {x = y} {a = a'} {b = b'} e k g) r = rw e (ap (with_turn c.position c.taken) (h (down_by 1 c) y (subst (λ (z : Signed). Gives l (down_by 1 c) z.sign z.formula y) (ap (first_of a) (sym k ∙ k0)) g) r))
two-runs l s f a b k0 first second h j c x (by_right {x = y} {a = a'} {b = b'} e k g) r =
    let g' = subst (λ (z : Signed). Gives l (down_by (suc (size z.formula)) c) b'.sign b'.formula y) (ap (first_of a) (sym k ∙ k0)) g in
    rw e (ap (with_turn c.position c.taken) (j (down_by (suc (size a.formula)) c) y (subst (λ (z : Signed). Gives l (down_by (suc (size a.formula)) c) z.sign z.formula y) (ap (second_of b) (sym k ∙ k0)) g') r))
two-runs l s f a b k0 first second h j c x (by_both {x = y} {y = z} {a = a'} {b = b'} e k g g2) r =
    let h' = h (down_by 1 c) y (subst (λ (z : Signed). Gives l (down_by 1 c) z.sign z.formula y) (ap (first_of a) (sym k ∙ k0)) g) (before z r) in
    let g' = subst (λ (w : Signed). Gives l (down_by (suc (size w.formula)) c) b'.sign b'.formula z) (ap (first_of a) (sym k ∙ k0)) g2 in
    let j' = j (down_by (suc (size a.formula)) c) z (subst (λ (w : Signed). Gives l (down_by (suc (size a.formula)) c) w.sign w.formula z) (ap (second_of b) (sym k ∙ k0)) g') r in
    rw e (ap (with_turn c.position c.taken) (ap (at_beta (first (down_by 1 c)) (second (down_by (suc (size a.formula)) c))) (two-before y z r) ∙ ap (option_and_then (λ (w : Part). option_map (join_of w) (second (down_by (suc (size a.formula)) c) w.left_over))) h' ∙ ap (option_map (join_of (part_by y (before z r)))) j'))
two-runs l s f a b k0 first second h j c x (by_gamma t e k g) r = absurd (one≢two (sym k ∙ k0))
two-runs l s f a b k0 first second h j c x (by_delta e k g) r = absurd (one≢two (sym k ∙ k0))

quantifier-runs : (l : Logic) (s : Sign) (f : Formula) (a : Signed) → is_quantified (shape_of s f) ≡ true → components s f ≡ a ∷ [] → (body : Spot → Supply → Option Part) → RunsIn l a body → (c : Spot) (x : Share) → Shaped l c s f x → Runs (at_quantifier (shape_of s f) body) c x
quantifier-runs l s f a e0 k0 body h c x is_literal r = absurd (false≢true e0)
quantifier-runs l s f a e0 k0 body h c x (by_only e k g) r = absurd (false≢true (sym (ap is_quantified e) ∙ e0))
quantifier-runs l s f a e0 k0 body h c x (by_left e k g) r = absurd (one≢two (sym k0 ∙ k))
quantifier-runs l s f a e0 k0 body h c x (by_right e k g) r = absurd (one≢two (sym k0 ∙ k))
quantifier-runs l s f a e0 k0 body h c x (by_both e k g j) r = absurd (one≢two (sym k0 ∙ k))
quantifier-runs l s f a e0 k0 body h c x (by_gamma {x = y} t e k g) r =
    let d = spot_inside t (c.taken ++ term t ∷ []) c in
    rw e (ap (λ o. with_turn c.position (c.taken ++ term t ∷ []) (with_gamma t c.label o)) (h d y (subst (λ (z : Signed). Gives l d z.sign z.formula y) (ap (first_of a) (sym k ∙ k0)) g) r))
quantifier-runs l s f a e0 k0 body h c x (by_delta {x = y} e k g) r =
    let d = spot_inside (g_eigen c.position (values_tree c.taken)) c.taken c in
    rw e (ap (with_turn c.position c.taken) (h d y (subst (λ (z : Signed). Gives l d z.sign z.formula y) (ap (first_of a) (sym k ∙ k0)) g) r))

pub quantified-all : (s : Sign) (a : Formula) → is_quantified (shape_of s (all a)) ≡ true
quantified-all T a = refl
quantified-all F a = refl

pub quantified-ex : (s : Sign) (a : Formula) → is_quantified (shape_of s (ex a)) ≡ true
quantified-ex T a = refl
quantified-ex F a = refl

pub part-runs : (l : Logic) (f : Formula) (s : Sign) → RunsIn l (signed s f) (part_of l f s)
part-runs l (atom p ts) s = modal-runs l s (atom p ts) (at_literal s p ts) (literal-runs l s p ts)
part-runs l (neg a) s = modal-runs l s (neg a) (at_one (part_of l a (other s))) (one-runs l s (neg a) (signed (other s) a) refl refl (part_of l a (other s)) (part-runs l a (other s)))
part-runs l (conj a b) s = modal-runs l s (conj a b) (at_two (shape_of s (conj a b)) (size a) (part_of l a s) (part_of l b s)) (two-runs l s (conj a b) (signed s a) (signed s b) refl (part_of l a s) (part_of l b s) (part-runs l a s) (part-runs l b s))
part-runs l (disj a b) s = modal-runs l s (disj a b) (at_two (shape_of s (disj a b)) (size a) (part_of l a s) (part_of l b s)) (two-runs l s (disj a b) (signed s a) (signed s b) refl (part_of l a s) (part_of l b s) (part-runs l a s) (part-runs l b s))
part-runs l (imp a b) s = modal-runs l s (imp a b) (at_two (shape_of s (imp a b)) (size a) (part_of l a (other s)) (part_of l b s)) (two-runs l s (imp a b) (signed (other s) a) (signed s b) refl (part_of l a (other s)) (part_of l b s) (part-runs l a (other s)) (part-runs l b s))
part-runs l (all a) s = modal-runs l s (all a) (at_quantifier (shape_of s (all a)) (part_of l a s)) (quantifier-runs l s (all a) (signed s a) (quantified-all s a) refl (part_of l a s) (part-runs l a s))
part-runs l (ex a) s = modal-runs l s (ex a) (at_quantifier (shape_of s (ex a)) (part_of l a s)) (quantifier-runs l s (ex a) (signed s a) (quantified-ex s a) refl (part_of l a s) (part-runs l a s))
part-runs l (box a) s = modal-runs l s (box a) (at_one (part_of l a s)) (one-runs l s (box a) (signed s a) refl refl (part_of l a s) (part-runs l a s))
part-runs l (dia a) s = modal-runs l s (dia a) (at_one (part_of l a s)) (one-runs l s (dia a) (signed s a) refl refl (part_of l a s) (part-runs l a s))

-- ---- what is computed is given by the cases

abbrev Gained : (Share → Type 0) → Supply → Part → Type 0
Gained G u y = (x : Share) × (r : Supply) × G x × (u ≡ before x r) × (y ≡ part_by x r)

gained-map : (G H : Share → Type 0) (u v : Supply) (g : Part → Part) (h : Share → Share) → ((x : Share) → G x → H (h x)) → ((x : Share) (r : Supply) → u ≡ before x r → v ≡ before (h x) r) → ((x : Share) (r : Supply) → g (part_by x r) ≡ part_by (h x) r) → (o : Option Part) → OnPart (Gained G u) o → OnPart (Gained H v) (option_map g o)
gained-map G H u v g h k b p None q = tt
gained-map G H u v g h k b p (Some y) q = (h q.0, q.1, k q.0 q.2, b q.0 q.1 q.3, ap g q.4 ∙ p q.0 q.1)

abbrev GainsIn : Logic → Signed → (Spot → Supply → Option Part) → Type 0
GainsIn l a go = (d : Spot) (u : Supply) → OnPart (Gained (Gives l d a.sign a.formula) u) (go d u)

abbrev supply : List Side → List Value → Supply
supply ss vs = record { sides = ss; values = vs }

nu-gains : (l : Logic) (s : Sign) (f : Formula) (go : Spot → Supply → Option Part) → ((d : Spot) (u : Supply) → OnPart (Gained (Shaped l d s f) u) (go d u)) → modal_of l s f ≡ Nu → (c : Spot) (ss : List Side) (vs : List Value) → OnPart (Gained (Gives l c s f) (supply ss vs)) (at_modal l Nu go c (supply ss vs))
nu-gains l s f go k e c ss [] = tt
nu-gains l s f go k e c ss (term t ∷ vs) = tt
nu-gains l s f go k e c ss (steps w ∷ vs) = elim (cases_Bool (steps_to mark_eq l c.label (nu_label l c.label (marks_list w)))) [
  | inl q ↦ rw q (gained-map (Shaped l (after_string l w c) s f) (Gives l c s f) (supply ss vs) (supply ss (steps w ∷ vs)) (with_modal_step Nu) (with_string w) (λ x g. by_nu w e q g) (λ x r b. ap (λ (v : Supply). supply v.sides (steps w ∷ v.values)) b) (λ x r. refl) (go (after_string l w c) (supply ss vs)) (k (after_string l w c) (supply ss vs)))
  | inr q ↦ rw q tt
]

modal-gains : (l : Logic) (s : Sign) (f : Formula) (go : Spot → Supply → Option Part) → ((d : Spot) (u : Supply) → OnPart (Gained (Shaped l d s f) u) (go d u)) → (m : ModalPart) → modal_of l s f ≡ m → (c : Spot) (u : Supply) → OnPart (Gained (Gives l c s f) u) (at_modal l m go c u)
modal-gains l s f go k Plain e c u = gained-map (Shaped l c s f) (Gives l c s f) u u (with_modal_step Plain) (λ x. x) (λ x g. by_plain e g) (λ x r b. b) (λ x r. refl) (go c u) (k c u)
modal-gains l s f go k Nu e c u = nu-gains l s f go k e c u.sides u.values
modal-gains l s f go k Pi e c u = gained-map (Shaped l (after_character l c) s f) (Gives l c s f) u u (with_modal_step Pi) with_character (λ x g. by_pi e g) (λ x r b. b) (λ x r. refl) (go (after_character l c) u) (k (after_character l c) u)

one-gains : (l : Logic) (s : Sign) (f : Formula) (a : Signed) → shape_of s f ≡ Alpha → components s f ≡ a ∷ [] → (body : Spot → Supply → Option Part) → GainsIn l a body → (c : Spot) (u : Supply) → OnPart (Gained (Shaped l c s f) u) (at_one body c u)
one-gains l s f a e k body h c u = gained-map (Gives l (down_by 1 c) a.sign a.formula) (Shaped l c s f) u u _ (reaching c.position c.taken) (λ x g. by_only e k g) (λ x r b. b) (λ x r. refl) (body (down_by 1 c) u) (h (down_by 1 c) u)

alpha-gains : (l : Logic) (s : Sign) (f : Formula) (a b : Signed) → shape_of s f ≡ Alpha → components s f ≡ a ∷ b ∷ [] → (first second : Spot → Supply → Option Part) → GainsIn l a first → GainsIn l b second → (c : Spot) (ss : List Side) (vs : List Value) → OnPart (Gained (Shaped l c s f) (supply ss vs)) (at_two Alpha (size a.formula) first second c (supply ss vs))
alpha-gains l s f a b e k first second h j c [] vs = tt
alpha-gains l s f a b e k first second h j c (Left ∷ ss) vs = gained-map (Gives l (down_by 1 c) a.sign a.formula) (Shaped l c s f) (supply ss vs) (supply (Left ∷ ss) vs) _ (λ x. reaching c.position c.taken (with_side Left x)) (λ x g. by_left e k g) (λ x r q. ap (λ (v : Supply). supply (Left ∷ v.sides) v.values) q) (λ x r. refl) (first (down_by 1 c) (supply ss vs)) (h (down_by 1 c) (supply ss vs))
alpha-gains l s f a b e k first second h j c (Right ∷ ss) vs = gained-map (Gives l (down_by (suc (size a.formula)) c) b.sign b.formula) (Shaped l c s f) (supply ss vs) (supply (Right ∷ ss) vs) _ (λ x. reaching c.position c.taken (with_side Right x)) (λ x g. by_right e k g) (λ x r q. ap (λ (v : Supply). supply (Right ∷ v.sides) v.values) q) (λ x r. refl) (second (down_by (suc (size a.formula)) c) (supply ss vs)) (j (down_by (suc (size a.formula)) c) (supply ss vs))

beta-gains : (l : Logic) (s : Sign) (f : Formula) (a b : Signed) → shape_of s f ≡ Beta → components s f ≡ a ∷ b ∷ [] → (second : Spot → Supply → Option Part) → GainsIn l b second → (c : Spot) (u : Supply) (o : Option Part) → OnPart (Gained (Gives l (down_by 1 c) a.sign a.formula) u) o → OnPart (Gained (λ z. Shaped l c s f (reaching c.position c.taken z)) u) (option_and_then (λ (x : Part). option_map (join_of x) (second (down_by (suc (size a.formula)) c) x.left_over)) o)
beta-gains l s f a b e k second j c u None q = tt
beta-gains l s f a b e k second j c u (Some y) q =
    let d = down_by (suc (size a.formula)) c in
    let left : q.1 ≡ y.left_over = sym (ap (λ (p : Part). p.left_over) q.4) in
    gained-map (Gives l (down_by (suc (size a.formula)) c) b.sign b.formula) (λ z. Shaped l c s f (reaching c.position c.taken z)) y.left_over u (join_of y) (both q.0) (λ z g. by_both e k q.2 g) (λ z r p. q.3 ∙ ap (before q.0) (left ∙ p) ∙ sym (two-before q.0 z r)) (λ z r. ap (λ p. join_of p (part_by z r)) q.4) (second d y.left_over) (j d y.left_over)

two-gains : (l : Logic) (s : Sign) (f : Formula) (a b : Signed) → components s f ≡ a ∷ b ∷ [] → (first second : Spot → Supply → Option Part) → GainsIn l a first → GainsIn l b second → (h : Shape) → shape_of s f ≡ h → (c : Spot) (u : Supply) → OnPart (Gained (Shaped l c s f) u) (at_two h (size a.formula) first second c u)
two-gains l s f a b k first second g j Alpha e c u = alpha-gains l s f a b e k first second g j c u.sides u.values
two-gains l s f a b k first second g j Beta e c u = gained-map (λ z. Shaped l c s f (reaching c.position c.taken z)) (Shaped l c s f) u u _ (reaching c.position c.taken) (λ x z. z) (λ x r q. q) (λ x r. refl) _ (beta-gains l s f a b e k second j c u (first (down_by 1 c) u) (g (down_by 1 c) u))
two-gains l s f a b k first second g j Gamma e c u = tt
two-gains l s f a b k first second g j Delta e c u = tt
two-gains l s f a b k first second g j Literal e c u = tt

gamma-gains : (l : Logic) (s : Sign) (f : Formula) (a : Signed) → shape_of s f ≡ Gamma → components s f ≡ a ∷ [] → (body : Spot → Supply → Option Part) → GainsIn l a body → (c : Spot) (ss : List Side) (vs : List Value) → OnPart (Gained (Shaped l c s f) (supply ss vs)) (at_gamma body c (supply ss vs) vs)
gamma-gains l s f a e k body h c ss [] = tt
gamma-gains l s f a e k body h c ss (steps w ∷ vs) = tt
gamma-gains l s f a e k body h c ss (term t ∷ vs) =
    let d = spot_inside t (c.taken ++ term t ∷ []) c in
    let part = body d (supply ss vs) in
    gained-map (λ z. Shaped l c s f (reaching c.position (c.taken ++ term t ∷ []) z)) (Shaped l c s f) (supply ss (term t ∷ vs)) (supply ss (term t ∷ vs)) _ (reaching c.position (c.taken ++ term t ∷ [])) (λ x z. z) (λ x r q. q) (λ x r. refl) (with_gamma t c.label part)
    (gained-map (Gives l d a.sign a.formula) (λ z. Shaped l c s f (reaching c.position (c.taken ++ term t ∷ []) z)) (supply ss vs) (supply ss (term t ∷ vs)) _ (with_term t c.label) (λ x g. by_gamma t e k g) (λ x r q. ap (λ (v : Supply). supply v.sides (term t ∷ v.values)) q) (λ x r. refl) part (h d (supply ss vs)))

quantifier-gains : (l : Logic) (s : Sign) (f : Formula) (a : Signed) → components s f ≡ a ∷ [] → (body : Spot → Supply → Option Part) → GainsIn l a body → (h : Shape) → shape_of s f ≡ h → (c : Spot) (u : Supply) → OnPart (Gained (Shaped l c s f) u) (at_quantifier h body c u)
quantifier-gains l s f a k body g Gamma e c u = gamma-gains l s f a e k body g c u.sides u.values
quantifier-gains l s f a k body g Delta e c u = gained-map (Gives l (spot_inside (g_eigen c.position (values_tree c.taken)) c.taken c) a.sign a.formula) (Shaped l c s f) u u _ (reaching c.position c.taken) (λ x z. by_delta e k z) (λ x r q. q) (λ x r. refl) _ (g (spot_inside (g_eigen c.position (values_tree c.taken)) c.taken c) u)
quantifier-gains l s f a k body g Alpha e c u = tt
quantifier-gains l s f a k body g Beta e c u = tt
quantifier-gains l s f a k body g Literal e c u = tt

part-gains : (l : Logic) (f : Formula) (s : Sign) → GainsIn l (signed s f) (part_of l f s)
part-gains l (atom p ts) s = modal-gains l s (atom p ts) (at_literal s p ts) (λ d u. (literal_share d s p ts, u, is_literal, refl, refl)) _ refl
part-gains l (neg a) s = modal-gains l s (neg a) _ (one-gains l s (neg a) (signed (other s) a) refl refl (part_of l a (other s)) (part-gains l a (other s))) _ refl
part-gains l (conj a b) s = modal-gains l s (conj a b) _ (two-gains l s (conj a b) (signed s a) (signed s b) refl (part_of l a s) (part_of l b s) (part-gains l a s) (part-gains l b s) _ refl) _ refl
part-gains l (disj a b) s = modal-gains l s (disj a b) _ (two-gains l s (disj a b) (signed s a) (signed s b) refl (part_of l a s) (part_of l b s) (part-gains l a s) (part-gains l b s) _ refl) _ refl
part-gains l (imp a b) s = modal-gains l s (imp a b) _ (two-gains l s (imp a b) (signed (other s) a) (signed s b) refl (part_of l a (other s)) (part_of l b s) (part-gains l a (other s)) (part-gains l b s) _ refl) _ refl
part-gains l (all a) s = modal-gains l s (all a) _ (quantifier-gains l s (all a) (signed s a) refl (part_of l a s) (part-gains l a s) _ refl) _ refl
part-gains l (ex a) s = modal-gains l s (ex a) _ (quantifier-gains l s (ex a) (signed s a) refl (part_of l a s) (part-gains l a s) _ refl) _ refl
part-gains l (box a) s = modal-gains l s (box a) _ (one-gains l s (box a) (signed s a) refl refl (part_of l a s) (part-gains l a s)) _ refl
part-gains l (dia a) s = modal-gains l s (dia a) _ (one-gains l s (dia a) (signed s a) refl refl (part_of l a s) (part-gains l a s)) _ refl

-- ---- the two agree

abbrev pub nothing : Supply
nothing = supply [] []

before-nothing : (x : Share) → before x nothing ≡ supply x.sides x.values
before-nothing x = λ i. record { sides = append-nil x.sides i; values = append-nil x.values i }

-- the instance that the cases give is computed
pub instance_of-by_cases : (P : Problem) (x : Share) → IsInstance P x → instance_of P x.sides x.values ≡ Some (part_by x nothing)
instance_of-by_cases P x h = rw h.admitted (ap (λ u. option_and_then if_used_up (part_of P.setting.logic P.formula F root_spot u)) (sym (before-nothing x)) ∙ ap (option_and_then if_used_up) (part-runs P.setting.logic P.formula F root_spot x h.given nothing))

empty-nil : {A : Type 0} (xs : List A) → is_empty xs ≡ true → xs ≡ []
empty-nil [] e = refl
empty-nil (x ∷ xs) e = absurd (false≢true e)

-- the cases give the sides, the values and the part
pub record Cases (P : Problem) (sides : List Side) (values : List Value) (y : Part) : Type 0 where
  pub share : Share
  pub instance : IsInstance P share
  pub sides_are : sides ≡ share.sides
  pub values_are : values ≡ share.values
  pub part_is : y ≡ part_by share nothing

cases-found : (P : Problem) (ss : List Side) (vs : List Value) (y : Part) → IsTrue (list_all (is_admitted_value P) vs) → Gained (Gives P.setting.logic root_spot F P.formula) (supply ss vs) y → IsTrue (is_empty y.left_over.sides && is_empty y.left_over.values) → Cases P ss vs y
cases-found P ss vs y admitted q e =
    let ends = and_parts (is_empty y.left_over.sides) (is_empty y.left_over.values) e in
    let left : y.left_over ≡ nothing = λ i. supply (empty-nil y.left_over.sides ends.0 i) (empty-nil y.left_over.values ends.1 i) in
    let rest : q.1 ≡ nothing = sym (ap (λ (p : Part). p.left_over) q.4) ∙ left in
    let all_used : supply ss vs ≡ supply q.0.sides q.0.values = q.3 ∙ ap (before q.0) rest ∙ before-nothing q.0 in
    record {
      share = q.0;
      instance = record { admitted = subst (λ us. IsTrue (list_all (is_admitted_value P) us)) (ap (λ (u : Supply). u.values) all_used) admitted; given = q.2 };
      sides_are = ap (λ (u : Supply). u.sides) all_used;
      values_are = ap (λ (u : Supply). u.values) all_used;
      part_is = q.4 ∙ ap (part_by q.0) rest;
    }

cases-used : (P : Problem) (ss : List Side) (vs : List Value) → IsTrue (list_all (is_admitted_value P) vs) → (o : Option Part) → OnPart (Gained (Gives P.setting.logic root_spot F P.formula) (supply ss vs)) o → OnPart (Cases P ss vs) (option_and_then if_used_up o)
cases-used P ss vs admitted None q = tt
cases-used P ss vs admitted (Some y) q = elim (cases_Bool (is_empty y.left_over.sides && is_empty y.left_over.values)) [ inl e ↦ rw e (cases-found P ss vs y admitted q e) | inr e ↦ rw e tt ]

-- the instance that is computed is given by the cases
pub cases-by_instance_of : (P : Problem) (ss : List Side) (vs : List Value) → OnPart (Cases P ss vs) (instance_of P ss vs)
cases-by_instance_of P ss vs = elim (cases_Bool (list_all (is_admitted_value P) vs)) [
  | inl e ↦ rw e (cases-used P ss vs e (part_of P.setting.logic P.formula F root_spot (supply ss vs)) (part-gains P.setting.logic P.formula F root_spot (supply ss vs)))
  | inr e ↦ rw e tt
]

pub instance_of-exact : (P : Problem) (x : Share) → IsInstance P x ↔ (instance_of P x.sides x.values ≡ Some (part_by x nothing))
instance_of-exact P x = (instance_of-by_cases P x, λ e. back (subst (OnPart (Cases P x.sides x.values)) e (cases-by_instance_of P x.sides x.values)))
  where
    back : Cases P x.sides x.values (part_by x nothing) → IsInstance P x
    back c = subst (IsInstance P) (λ i. record {
      sides = sym c.sides_are i;
      values = sym c.values_are i;
      literals = (sym c.part_is i).literals;
      gammas = (sym c.part_is i).gammas;
      turns = (sym c.part_is i).turns;
      nus = (sym c.part_is i).nus;
      pis = (sym c.part_is i).pis;
    }) c.instance

-- ---- the tests of clause instances

list-self : (xs : List GroundLiteral) → IsTrue (list_eq literal_eq xs xs)
list-self xs = (list_eq-tells literal_eq literal_eq-tells xs xs).1 refl

clause-by : (P : Problem) (i : ClauseInstance) (y : Part) → (c : Cases P i.selection i.values y) → IsTrue (list_eq literal_eq y.literals i.literals) → i ≡ clause_instance c.share
clause-by P i y c h =
    let same = (list_eq-tells literal_eq literal_eq-tells y.literals i.literals).0 h in
    let given : i.literals ≡ c.share.literals = sym same ∙ ap (λ (p : Part). p.literals) c.part_is in
    λ j. record { selection = c.sides_are j; values = c.values_are j; literals = given j }

pub is_instance-exact : (P : Problem) (i : ClauseInstance) → IsTrue (is_instance P i) ↔ ((x : Share) × IsInstance P x × (i ≡ clause_instance x))
is_instance-exact P i = (forth (instance_of P i.selection i.values) (cases-by_instance_of P i.selection i.values), back)
  where
    forth : (o : Option Part) → OnPart (Cases P i.selection i.values) o → IsTrue (option_map_or (λ (x : Part). list_eq literal_eq x.literals i.literals) o false) → (x : Share) × IsInstance P x × (i ≡ clause_instance x)
    forth None c h = absurd (false≢true h)
    forth (Some y) c h = (c.share, c.instance, clause-by P i y c h)

    back : (x : Share) × IsInstance P x × (i ≡ clause_instance x) → IsTrue (is_instance P i)
    back q = subst (λ k. IsTrue (is_instance P k)) (sym q.2) (rw (instance_of-by_cases P q.0 q.1) (list-self q.0.literals))

pub is_allowed_instance-exact : (P : Problem) (i : ClauseInstance) → IsTrue (is_allowed_instance P i) ↔ ((x : Share) × IsAllowedInstance P x × (i ≡ clause_instance x))
is_allowed_instance-exact P i = (forth (instance_of P i.selection i.values) (cases-by_instance_of P i.selection i.values), back)
  where
    forth : (o : Option Part) → OnPart (Cases P i.selection i.values) o → IsTrue (option_map_or (λ (x : Part). list_eq literal_eq x.literals i.literals && list_all (gamma_is_allowed P) x.gammas) o false) → (x : Share) × IsAllowedInstance P x × (i ≡ clause_instance x)
    forth None c h = absurd (false≢true h)
    forth (Some y) c h =
        let parts = and_parts (list_eq literal_eq y.literals i.literals) (list_all (gamma_is_allowed P) y.gammas) h in
        (c.share, record { instance = c.instance; allowed = subst (λ (p : Part). IsTrue (list_all (gamma_is_allowed P) p.gammas)) c.part_is parts.1 }, clause-by P i y c parts.0)

    back : (x : Share) × IsAllowedInstance P x × (i ≡ clause_instance x) → IsTrue (is_allowed_instance P i)
    back q = subst (λ k. IsTrue (is_allowed_instance P k)) (sym q.2) (rw (instance_of-by_cases P q.0 q.1.instance) (and_from (list_eq literal_eq q.0.literals q.0.literals) (list_all (gamma_is_allowed P) q.0.gammas) (list-self q.0.literals) q.1.allowed))

pub computes_instances : (P : Problem) → ComputesInstances P
computes_instances P = record { whole = instance_of-exact P; given = is_instance-exact P; allowed = is_allowed_instance-exact P }
