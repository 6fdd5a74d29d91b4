-- A closed tableau and refuting truth values exclude each other, and so each propositional problem is one or the other.
use Rattle.std.proofs.Common.{◌≡◌, ◌⊎◌, ℕ, List, [], ◌∷◌, ◌++◌, Bool, false, not, ◌&&◌, ◌==◌, IsTrue, refl, sym, ◌∙◌, ap, subst, inl, inr, eqb-true}
use Rattle.std.specs.List.{AllByRecursion, list_all}
use Rattle.std.proofs.lemmas.Bool.{and_parts, and_cases, or_cases, or_parts, not-true, not-false, not_from_false, true≢false, false≢true, both_ways, true_from_ne_false}
use Rattle.calculus.specs.declared.sign.Sign.{Sign}
use Rattle.calculus.specs.declared.sign.Sign.TheVariants.{T, F}
use Rattle.calculus.specs.declared.setting.Logic.TheVariants.{Classical}
use Rattle.calculus.specs.declared.kind.Shape.TheVariants.{Alpha, Beta}
use Rattle.calculus.specs.Syntax.{Terms, Formula, atom, neg, conj, disj, imp, all, ex, box, dia, Problem}
use Rattle.calculus.specs.Ground.{GroundLiteral}
use Rattle.calculus.specs.Equality.{same_atom, sign_eq, grounds_eq, label_eq}
use Rattle.calculus.specs.Instances.{Spot, Share, Gives, Shaped, by_plain, by_nu, by_pi, is_literal, by_only, by_left, by_right, by_both, by_gamma, by_delta, ClauseInstance, root_spot}
use Rattle.calculus.specs.ComputedInstances.{is_allowed_instance}
use Rattle.calculus.specs.Kinds.{Signed, signed, shape_of, components}
use Rattle.calculus.specs.Propositional.{is_propositional, IsPropositional, truth_value, IsTautology}
use Rattle.calculus.specs.Tableaux.{are_complementary, instances, HasClosed}
use Rattle.calculus.proofs.CasesLaws.{one≢two, first_of, second_of, is_alpha, is_quantified, is_allowed_instance-exact}
use Rattle.calculus.proofs.SpaceLaws.{instances-allowed}
use Rattle.calculus.proofs.WalkLaws.{SomeIn, Hits, pair_of_closed}
use Rattle.decision_theory.proofs.PropositionalLaws.{Says}
use Rattle.decision_theory.specs.Decision.{IsRefuted}

-- the literal is true by these truth values
abbrev signed_value : Sign → Bool → Bool
signed_value T b = b
signed_value F b = not b

abbrev holds_by : (ℕ → Bool) → GroundLiteral → Bool
holds_by v l = signed_value l.sign (v l.symbol)

abbrev Held : (ℕ → Bool) → GroundLiteral → Type 0
Held v l = IsTrue (holds_by v l)

held-apart : (v : ℕ → Bool) (a b : GroundLiteral) → Held v a → Held v b → IsTrue (are_complementary a b) → ⊥
held-apart v a b h k c =
    let p = and_parts (not (sign_eq a.sign b.sign)) (same_atom a b) c in
    let q = and_parts (a.symbol == b.symbol && grounds_eq a.args b.args) (label_eq a.label b.label) p.1 in
    let r = and_parts (a.symbol == b.symbol) (grounds_eq a.args b.args) q.0 in
    by a.sign b.sign (v a.symbol) p.0 h (subst (λ n. IsTrue (signed_value b.sign (v n))) (sym (eqb-true a.symbol b.symbol r.0)) k)
  where
    by : (s t : Sign) (x : Bool) → IsTrue (not (sign_eq s t)) → IsTrue (signed_value s x) → IsTrue (signed_value t x) → ⊥
    by T T x n h k = false≢true n
    by F F x n h k = false≢true n
    by T F x n h k = both_ways x (not-true x k) h
    by F T x n h k = both_ways x (not-true x h) k

abbrev HitIn : (ℕ → Bool) → Share → Type 0
HitIn v x = SomeIn (Held v) x.literals

abbrev HitsAt : (ℕ → Bool) → Signed → Type 0
HitsAt v a = (c : Spot) (x : Share) → Gives Classical c a.sign a.formula x → HitIn v x

some-left : (v : ℕ → Bool) (xs ys : List GroundLiteral) → SomeIn (Held v) xs → SomeIn (Held v) (xs ++ ys)
some-left v [] ys h = absurd h
some-left v (x ∷ xs) ys (inl h) = inl h
some-left v (x ∷ xs) ys (inr h) = inr (some-left v xs ys h)

some-right : (v : ℕ → Bool) (xs ys : List GroundLiteral) → SomeIn (Held v) ys → SomeIn (Held v) (xs ++ ys)
some-right v [] ys h = h
some-right v (x ∷ xs) ys h = inr (some-right v xs ys h)

modal-hit : (v : ℕ → Bool) (s : Sign) (f : Formula) → ((c : Spot) (x : Share) → Shaped Classical c s f x → HitIn v x) → HitsAt v (signed s f)
modal-hit v s f k c x (by_plain e g) = k c x g
modal-hit v s f k c x (by_nu {x = y} w e h g) = k _ y g
modal-hit v s f k c x (by_pi {x = y} e g) = k _ y g

given-by : {d : Spot} (b a : Signed) (y : Share) → b ≡ a → Gives Classical d b.sign b.formula y → Gives Classical d a.sign a.formula y
given-by {d = d} b a y e g = subst (λ (z : Signed). Gives Classical d z.sign z.formula y) e g

literal-hit : (v : ℕ → Bool) (s : Sign) (p : ℕ) (ts : Terms) → IsTrue (signed_value s (v p)) → (c : Spot) (x : Share) → Shaped Classical c s (atom p ts) x → HitIn v x
literal-hit v s p ts h c x is_literal = inl h
literal-hit v s p ts h c x (by_only e k g) = absurd (false≢true (ap is_alpha e))
literal-hit v s p ts h c x (by_left e k g) = absurd (one≢two k)
literal-hit v s p ts h c x (by_right e k g) = absurd (one≢two k)
literal-hit v s p ts h c x (by_both e k g j) = absurd (one≢two k)
literal-hit v s p ts h c x (by_gamma t e k g) = absurd (false≢true (ap is_quantified e))
literal-hit v s p ts h c x (by_delta e k g) = absurd (false≢true (ap is_quantified e))

one-hit : (v : ℕ → Bool) (s : Sign) (f : Formula) (a : Signed) → shape_of s f ≡ Alpha → components s f ≡ a ∷ [] → HitsAt v a → (c : Spot) (x : Share) → Shaped Classical c s f x → HitIn v x
one-hit v s f a e0 k0 h c x is_literal = absurd (false≢true (ap is_alpha e0))
one-hit v s f a e0 k0 h c x (by_only {x = y} {a = b} e k g) = h _ y (given-by _ _ y (ap (first_of a) (sym k ∙ k0)) g)
one-hit v s f a e0 k0 h c x (by_left e k g) = absurd (one≢two (sym k0 ∙ k))
one-hit v s f a e0 k0 h c x (by_right e k g) = absurd (one≢two (sym k0 ∙ k))
one-hit v s f a e0 k0 h c x (by_both e k g j) = absurd (one≢two (sym k0 ∙ k))
one-hit v s f a e0 k0 h c x (by_gamma t e k g) = absurd (false≢true (ap is_alpha (sym e ∙ e0)))
one-hit v s f a e0 k0 h c x (by_delta e k g) = absurd (false≢true (ap is_alpha (sym e ∙ e0)))

alpha-hit : (v : ℕ → Bool) (s : Sign) (f : Formula) (a b : Signed) → shape_of s f ≡ Alpha → components s f ≡ a ∷ b ∷ [] → HitsAt v a → HitsAt v b → (c : Spot) (x : Share) → Shaped Classical c s f x → HitIn v x
alpha-hit v s f a b e0 k0 h j c x is_literal = absurd (one≢two k0)
alpha-hit v s f a b e0 k0 h j c x (by_only e k g) = absurd (one≢two (sym k ∙ k0))
alpha-hit v s f a b e0 k0 h j c x (by_left {x = y} {a = a'} {b = b'} e k g) = h _ y (given-by _ _ y (ap (first_of a) (sym k ∙ k0)) g)
alpha-hit v s f a b e0 k0 h j c x (by_right {x = y} {a = a'} {b = b'} e k g) = j _ y (given-by _ _ y (ap (second_of b) (sym k ∙ k0)) g)
alpha-hit v s f a b e0 k0 h j c x (by_both e k g g2) = absurd (true≢false (sym (ap is_alpha e0) ∙ ap is_alpha e))
alpha-hit v s f a b e0 k0 h j c x (by_gamma t e k g) = absurd (one≢two (sym k ∙ k0))
alpha-hit v s f a b e0 k0 h j c x (by_delta e k g) = absurd (one≢two (sym k ∙ k0))

beta-hit : (v : ℕ → Bool) (s : Sign) (f : Formula) (a b : Signed) → shape_of s f ≡ Beta → components s f ≡ a ∷ b ∷ [] → HitsAt v a ⊎ HitsAt v b → (c : Spot) (x : Share) → Shaped Classical c s f x → HitIn v x
beta-hit v s f a b e0 k0 h c x is_literal = absurd (one≢two k0)
beta-hit v s f a b e0 k0 h c x (by_only e k g) = absurd (one≢two (sym k ∙ k0))
beta-hit v s f a b e0 k0 h c x (by_left e k g) = absurd (true≢false (sym (ap is_alpha e) ∙ ap is_alpha e0))
beta-hit v s f a b e0 k0 h c x (by_right e k g) = absurd (true≢false (sym (ap is_alpha e) ∙ ap is_alpha e0))
beta-hit v s f a b e0 k0 (inl h) c x (by_both {x = y} {y = z} {a = a'} {b = b'} e k g g2) = some-left v y.literals z.literals (h _ y (given-by _ _ y (ap (first_of a) (sym k ∙ k0)) g))
beta-hit v s f a b e0 k0 (inr h) c x (by_both {x = y} {y = z} {a = a'} {b = b'} e k g g2) = some-right v y.literals z.literals (h _ z (given-by _ _ z (ap (second_of b) (sym k ∙ k0)) g2))
beta-hit v s f a b e0 k0 h c x (by_gamma t e k g) = absurd (one≢two (sym k ∙ k0))
beta-hit v s f a b e0 k0 h c x (by_delta e k g) = absurd (one≢two (sym k ∙ k0))

-- what a signed formula that holds gives has a true literal
pub all-hit : (v : ℕ → Bool) (f : Formula) (s : Sign) → IsTrue (is_propositional f) → Says v s f → HitsAt v (signed s f)
all-hit v (atom p ts) T h k = modal-hit v T (atom p ts) (literal-hit v T p ts k)
all-hit v (atom p ts) F h k = modal-hit v F (atom p ts) (literal-hit v F p ts (not_from_false (v p) k))
all-hit v (neg a) T h k = modal-hit v T (neg a) (one-hit v T (neg a) (signed F a) refl refl (all-hit v a F h (not-true (truth_value v a) k)))
all-hit v (neg a) F h k = modal-hit v F (neg a) (one-hit v F (neg a) (signed T a) refl refl (all-hit v a T h (not-false (truth_value v a) k)))
all-hit v (conj a b) T h k =
    let g = and_parts (is_propositional a) (is_propositional b) h in let p = and_parts (truth_value v a) (truth_value v b) k in
    modal-hit v T (conj a b) (alpha-hit v T (conj a b) (signed T a) (signed T b) refl refl (all-hit v a T g.0 p.0) (all-hit v b T g.1 p.1))
all-hit v (conj a b) F h k =
    let g = and_parts (is_propositional a) (is_propositional b) h in
    modal-hit v F (conj a b) (beta-hit v F (conj a b) (signed F a) (signed F b) refl refl (elim (and_cases (truth_value v a) (truth_value v b) k) [ inl x ↦ inl (all-hit v a F g.0 x) | inr y ↦ inr (all-hit v b F g.1 y) ]))
all-hit v (disj a b) T h k =
    let g = and_parts (is_propositional a) (is_propositional b) h in
    modal-hit v T (disj a b) (beta-hit v T (disj a b) (signed T a) (signed T b) refl refl (elim (or_cases (truth_value v a) (truth_value v b) k) [ inl x ↦ inl (all-hit v a T g.0 x) | inr y ↦ inr (all-hit v b T g.1 y) ]))
all-hit v (disj a b) F h k =
    let g = and_parts (is_propositional a) (is_propositional b) h in let p = or_parts (truth_value v a) (truth_value v b) k in
    modal-hit v F (disj a b) (alpha-hit v F (disj a b) (signed F a) (signed F b) refl refl (all-hit v a F g.0 p.0) (all-hit v b F g.1 p.1))
all-hit v (imp a b) T h k =
    let g = and_parts (is_propositional a) (is_propositional b) h in
    modal-hit v T (imp a b) (beta-hit v T (imp a b) (signed F a) (signed T b) refl refl (elim (or_cases (not (truth_value v a)) (truth_value v b) k) [ inl x ↦ inl (all-hit v a F g.0 (not-true (truth_value v a) x)) | inr y ↦ inr (all-hit v b T g.1 y) ]))
all-hit v (imp a b) F h k =
    let g = and_parts (is_propositional a) (is_propositional b) h in let p = or_parts (not (truth_value v a)) (truth_value v b) k in
    modal-hit v F (imp a b) (alpha-hit v F (imp a b) (signed T a) (signed F b) refl refl (all-hit v a T g.0 (not-false (truth_value v a) p.0)) (all-hit v b F g.1 p.1))
all-hit v (all a) s h k = absurd (false≢true h)
all-hit v (ex a) s h k = absurd (false≢true h)
all-hit v (box a) s h k = absurd (false≢true h)
all-hit v (dia a) s h k = absurd (false≢true h)

-- ---- the laws

instances-hit : (P : Problem) → IsPropositional P → (v : ℕ → Bool) → truth_value v P.formula ≡ false → (is : List ClauseInstance) → IsTrue (list_all (is_allowed_instance P) is) → AllByRecursion (Hits (Held v)) is
instances-hit P h v k [] a = tt
instances-hit P h v k (i ∷ is) a =
    let p = and_parts (is_allowed_instance P i) (list_all (is_allowed_instance P) is) a in
    let r = (is_allowed_instance-exact P i).0 p.0 in
    let given = subst (λ l. Gives l root_spot F P.formula r.0) h.classical r.1.instance.given in
    (subst (Hits (Held v)) (sym r.2) (all-hit v P.formula F h.formula k root_spot r.0 given), instances-hit P h v k is p.1)

pub not_both : (P : Problem) → IsPropositional P → (d : ℕ) → HasClosed P d → IsRefuted P → ⊥
not_both P h d c r =
    let pair = pair_of_closed (Held r.values) P d c.tableau c.closed (instances-hit P h r.values r.false_there (instances c.tableau) (instances-allowed P d c.tableau c.closed)) in
    held-apart r.values pair.0 pair.1 pair.2 pair.3 pair.4

-- what has a closed tableau is a tautology
pub tautology_where_closed : (P : Problem) → IsPropositional P → (d : ℕ) → HasClosed P d → IsTautology P
tautology_where_closed P h d c = record { at_each = λ v. true_from_ne_false (truth_value v P.formula) (λ e. not_both P h d c (record { values = v; false_there = e })) }
