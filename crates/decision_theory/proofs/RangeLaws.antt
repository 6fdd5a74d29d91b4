-- A list of terms that has the eigenvariables of all delta positions that are reached by it: either the instances over it close a tableau,
-- or a way through them makes the formula false where the quantifiers range over the list.
use Rattle.std.proofs.Common.{◌≡◌, ◌⊎◌, ℕ, suc, List, [], ◌∷◌, ◌++◌, map, Bool, false, not, ◌&&◌, ◌||◌, ◌==◌, IsTrue, refl, sym, ap, subst, inl, inr}
use Rattle.std.specs.List.{AllByRecursion, list_all, list_any, flat_map}
use Rattle.std.proofs.lemmas.Bool.{and_from, and_left, and_right, or_left, or_right, or_from, cases_Bool, not_from_true, not_from_false, false_from_ne_true}
use Rattle.plain_laws.proofs.Every.{each-parts, all-append, each-append, each-always}
use Rattle.calculus.specs.declared.sign.Sign.{Sign}
use Rattle.calculus.specs.declared.sign.Sign.TheVariants.{T, F}
use Rattle.calculus.specs.declared.setting.Logic.TheVariants.{Classical}
use Rattle.calculus.specs.Syntax.{Formula, atom, neg, conj, disj, imp, all, ex, box, dia, Problem}
use Rattle.calculus.specs.Ground.{GroundTerm, GroundTerms, GroundMark, GroundLiteral}
use Rattle.calculus.specs.Equality.{grounds_eq, label_eq}
use Rattle.calculus.specs.Kinds.{other}
use Rattle.calculus.specs.Positions.{size}
use Rattle.calculus.specs.Skolem.{is_admitted, is_admitted_value, is_allowed}
use Rattle.calculus.specs.Instances.{grounds_of, Spot, root_spot, down_by, Share, Gives, by_plain, is_literal, by_only, by_left, by_right, by_both, by_gamma, by_delta, gamma_is_allowed, clause_instance}
use Rattle.calculus.specs.ComputedInstances.{is_allowed_instance}
use Rattle.calculus.specs.Tableaux.{are_complementary, has_unbounded_strings, HasClosed}
use Rattle.calculus.proofs.CasesLaws.{is_allowed_instance-exact}
use Rattle.calculus.proofs.EqualityLaws.{nat_eq-tells, grounds_eq-tells, label_eq-tells}
use Rattle.calculus.proofs.Members.{Among}
use Rattle.calculus.proofs.WalkLaws.{Hits}
use Rattle.matrix_theory.specs.Spanning.{has_way}
use Rattle.matrix_theory.proofs.WayLaws.{way_from}
use Rattle.decision_theory.proofs.PropositionalLaws.{all_mapped, all_before, hit-tells, in_other_part, Apart, one_hit}
use Rattle.decision_theory.specs.Atoms.{atom_count}
use Rattle.decision_theory.proofs.AtomLaws.{closed_where_spanning_within}
use Rattle.decision_theory.specs.Ranging.{pairs, only_at, left_at, right_at, both_at, term_at, in_term, eigen_at, in_eigen, either_at, shares, truth_over, instances_over}

-- ---- each share is given, by terms of the list

all_paired : {A : Type 0} (P Q R : A → Type 0) (g : A → A → A) (xs ys : List A) → ((x y : A) → P x → Q y → R (g x y)) → AllByRecursion P xs → AllByRecursion Q ys → AllByRecursion R (pairs g xs ys)
all_paired P Q R g [] ys f h k = tt
all_paired P Q R g (x ∷ xs) ys f h k = each-append R (map (g x) ys) (pairs g xs ys) (all_mapped Q R (g x) ys (λ y q. f x y h.0 q) k) (all_paired P Q R g xs ys f h.1 k)

all_flat : {A B : Type 0} (R : B → Type 0) (f : A → List B) (xs : List A) → AllByRecursion (λ x. AllByRecursion R (f x)) xs → AllByRecursion R (flat_map f xs)
all_flat R f [] h = tt
all_flat R f (x ∷ xs) h = each-append R (f x) (flat_map f xs) h.0 (all_flat R f xs h.1)

all_zipped : {A : Type 0} (P Q R : A → Type 0) (xs : List A) → ((x : A) → P x → Q x → R x) → AllByRecursion P xs → AllByRecursion Q xs → AllByRecursion R xs
all_zipped P Q R [] f h k = tt
all_zipped P Q R (x ∷ xs) f h k = (f x h.0 k.0, all_zipped P Q R xs f h.1 k.1)

abbrev IsGiven : Spot → Sign → Formula → Share → Type 0
IsGiven c s f x = Gives Classical c s f x

pub all-shares_given : (U : List GroundTerm) (f : Formula) (c : Spot) (s : Sign) → AllByRecursion (IsGiven c s f) (shares U c s f)
all-shares_given U (atom p ts) c s = (by_plain refl is_literal, tt)
all-shares_given U (neg a) c s = all_mapped (IsGiven (down_by 1 c) (other s) a) (IsGiven c s (neg a)) (only_at c) (shares U (down_by 1 c) (other s) a) (λ x g. by_plain refl (by_only refl refl g)) (all-shares_given U a (down_by 1 c) (other s))
all-shares_given U (conj a b) c T = each-append (IsGiven c T (conj a b)) (map (left_at c) (shares U (down_by 1 c) T a)) (map (right_at c) (shares U (down_by (suc (size a)) c) T b))
    (all_mapped (IsGiven (down_by 1 c) T a) (IsGiven c T (conj a b)) (left_at c) (shares U (down_by 1 c) T a) (λ x g. by_plain refl (by_left refl refl g)) (all-shares_given U a (down_by 1 c) T))
    (all_mapped (IsGiven (down_by (suc (size a)) c) T b) (IsGiven c T (conj a b)) (right_at c) (shares U (down_by (suc (size a)) c) T b) (λ x g. by_plain refl (by_right refl refl g)) (all-shares_given U b (down_by (suc (size a)) c) T))
all-shares_given U (conj a b) c F = all_paired (IsGiven (down_by 1 c) F a) (IsGiven (down_by (suc (size a)) c) F b) (IsGiven c F (conj a b)) (both_at c) (shares U (down_by 1 c) F a) (shares U (down_by (suc (size a)) c) F b) (λ x y g h. by_plain refl (by_both refl refl g h)) (all-shares_given U a (down_by 1 c) F) (all-shares_given U b (down_by (suc (size a)) c) F)
all-shares_given U (disj a b) c T = all_paired (IsGiven (down_by 1 c) T a) (IsGiven (down_by (suc (size a)) c) T b) (IsGiven c T (disj a b)) (both_at c) (shares U (down_by 1 c) T a) (shares U (down_by (suc (size a)) c) T b) (λ x y g h. by_plain refl (by_both refl refl g h)) (all-shares_given U a (down_by 1 c) T) (all-shares_given U b (down_by (suc (size a)) c) T)
all-shares_given U (disj a b) c F = each-append (IsGiven c F (disj a b)) (map (left_at c) (shares U (down_by 1 c) F a)) (map (right_at c) (shares U (down_by (suc (size a)) c) F b))
    (all_mapped (IsGiven (down_by 1 c) F a) (IsGiven c F (disj a b)) (left_at c) (shares U (down_by 1 c) F a) (λ x g. by_plain refl (by_left refl refl g)) (all-shares_given U a (down_by 1 c) F))
    (all_mapped (IsGiven (down_by (suc (size a)) c) F b) (IsGiven c F (disj a b)) (right_at c) (shares U (down_by (suc (size a)) c) F b) (λ x g. by_plain refl (by_right refl refl g)) (all-shares_given U b (down_by (suc (size a)) c) F))
all-shares_given U (imp a b) c T = all_paired (IsGiven (down_by 1 c) F a) (IsGiven (down_by (suc (size a)) c) T b) (IsGiven c T (imp a b)) (both_at c) (shares U (down_by 1 c) F a) (shares U (down_by (suc (size a)) c) T b) (λ x y g h. by_plain refl (by_both refl refl g h)) (all-shares_given U a (down_by 1 c) F) (all-shares_given U b (down_by (suc (size a)) c) T)
all-shares_given U (imp a b) c F = each-append (IsGiven c F (imp a b)) (map (left_at c) (shares U (down_by 1 c) T a)) (map (right_at c) (shares U (down_by (suc (size a)) c) F b))
    (all_mapped (IsGiven (down_by 1 c) T a) (IsGiven c F (imp a b)) (left_at c) (shares U (down_by 1 c) T a) (λ x g. by_plain refl (by_left refl refl g)) (all-shares_given U a (down_by 1 c) T))
    (all_mapped (IsGiven (down_by (suc (size a)) c) F b) (IsGiven c F (imp a b)) (right_at c) (shares U (down_by (suc (size a)) c) F b) (λ x g. by_plain refl (by_right refl refl g)) (all-shares_given U b (down_by (suc (size a)) c) F))
all-shares_given U (all a) c T = all_flat (IsGiven c T (all a)) (λ t. map (term_at c t) (shares U (in_term c t) T a)) U (each-always (λ t. AllByRecursion (IsGiven c T (all a)) (map (term_at c t) (shares U (in_term c t) T a))) U (λ t. all_mapped (IsGiven (in_term c t) T a) (IsGiven c T (all a)) (term_at c t) (shares U (in_term c t) T a) (λ x g. by_plain refl (by_gamma t refl refl g)) (all-shares_given U a (in_term c t) T)))
all-shares_given U (all a) c F = all_mapped (IsGiven (in_eigen c) F a) (IsGiven c F (all a)) (only_at c) (shares U (in_eigen c) F a) (λ x g. by_plain refl (by_delta refl refl g)) (all-shares_given U a (in_eigen c) F)
all-shares_given U (ex a) c T = all_mapped (IsGiven (in_eigen c) T a) (IsGiven c T (ex a)) (only_at c) (shares U (in_eigen c) T a) (λ x g. by_plain refl (by_delta refl refl g)) (all-shares_given U a (in_eigen c) T)
all-shares_given U (ex a) c F = all_flat (IsGiven c F (ex a)) (λ t. map (term_at c t) (shares U (in_term c t) F a)) U (each-always (λ t. AllByRecursion (IsGiven c F (ex a)) (map (term_at c t) (shares U (in_term c t) F a))) U (λ t. all_mapped (IsGiven (in_term c t) F a) (IsGiven c F (ex a)) (term_at c t) (shares U (in_term c t) F a) (λ x g. by_plain refl (by_gamma t refl refl g)) (all-shares_given U a (in_term c t) F)))
all-shares_given U (box a) c s = tt
all-shares_given U (dia a) c s = tt

-- the term may be put for a variable at the label
abbrev pub IsTermOf : Problem → List GroundMark → GroundTerm → Type 0
IsTermOf P w t = IsTrue (is_admitted P t) × IsTrue (is_allowed P w t)

abbrev IsAllowedShare : Problem → Share → Type 0
IsAllowedShare P x = IsTrue (list_all (is_admitted_value P) x.values) × IsTrue (list_all (gamma_is_allowed P) x.gammas)

both_allowed : (P : Problem) (c : Spot) (x y : Share) → IsAllowedShare P x → IsAllowedShare P y → IsAllowedShare P (both_at c x y)
both_allowed P c x y h k = (all-append (is_admitted_value P) x.values y.values h.0 k.0, all-append (gamma_is_allowed P) x.gammas y.gammas h.1 k.1)

term_allowed : (P : Problem) (c : Spot) (t : GroundTerm) → IsTermOf P c.label t → (x : Share) → IsAllowedShare P x → IsAllowedShare P (term_at c t x)
term_allowed P c t h x k = (and_from (is_admitted P t) (list_all (is_admitted_value P) x.values) h.0 k.0, and_from (is_allowed P c.label t) (list_all (gamma_is_allowed P) x.gammas) h.1 k.1)

either_allowed : (P : Problem) (c : Spot) (xs ys : List Share) → AllByRecursion (IsAllowedShare P) xs → AllByRecursion (IsAllowedShare P) ys → AllByRecursion (IsAllowedShare P) (either_at c xs ys)
either_allowed P c xs ys h k = each-append (IsAllowedShare P) (map (left_at c) xs) (map (right_at c) ys) (all_mapped (IsAllowedShare P) (IsAllowedShare P) (left_at c) xs (λ x g. g) h) (all_mapped (IsAllowedShare P) (IsAllowedShare P) (right_at c) ys (λ y g. g) k)

terms_allowed : (P : Problem) (c : Spot) (f : GroundTerm → List Share) (ts : List GroundTerm) → AllByRecursion (IsTermOf P c.label) ts → ((t : GroundTerm) → AllByRecursion (IsAllowedShare P) (f t)) → AllByRecursion (IsAllowedShare P) (flat_map (λ t. map (term_at c t) (f t)) ts)
terms_allowed P c f [] h k = tt
terms_allowed P c f (t ∷ ts) h k = each-append (IsAllowedShare P) (map (term_at c t) (f t)) (flat_map (λ u. map (term_at c u) (f u)) ts) (all_mapped (IsAllowedShare P) (IsAllowedShare P) (term_at c t) (f t) (term_allowed P c t h.0) (k t)) (terms_allowed P c f ts h.1 k)

pub all-shares_allowed : (P : Problem) (U : List GroundTerm) (f : Formula) (c : Spot) (s : Sign) → AllByRecursion (IsTermOf P c.label) U → AllByRecursion (IsAllowedShare P) (shares U c s f)
all-shares_allowed P U (atom p ts) c s h = ((refl, refl), tt)
all-shares_allowed P U (neg a) c s h = all_mapped (IsAllowedShare P) (IsAllowedShare P) (only_at c) (shares U (down_by 1 c) (other s) a) (λ x g. g) (all-shares_allowed P U a (down_by 1 c) (other s) h)
all-shares_allowed P U (conj a b) c T h = either_allowed P c (shares U (down_by 1 c) T a) (shares U (down_by (suc (size a)) c) T b) (all-shares_allowed P U a (down_by 1 c) T h) (all-shares_allowed P U b (down_by (suc (size a)) c) T h)
all-shares_allowed P U (conj a b) c F h = all_paired (IsAllowedShare P) (IsAllowedShare P) (IsAllowedShare P) (both_at c) (shares U (down_by 1 c) F a) (shares U (down_by (suc (size a)) c) F b) (both_allowed P c) (all-shares_allowed P U a (down_by 1 c) F h) (all-shares_allowed P U b (down_by (suc (size a)) c) F h)
all-shares_allowed P U (disj a b) c T h = all_paired (IsAllowedShare P) (IsAllowedShare P) (IsAllowedShare P) (both_at c) (shares U (down_by 1 c) T a) (shares U (down_by (suc (size a)) c) T b) (both_allowed P c) (all-shares_allowed P U a (down_by 1 c) T h) (all-shares_allowed P U b (down_by (suc (size a)) c) T h)
all-shares_allowed P U (disj a b) c F h = either_allowed P c (shares U (down_by 1 c) F a) (shares U (down_by (suc (size a)) c) F b) (all-shares_allowed P U a (down_by 1 c) F h) (all-shares_allowed P U b (down_by (suc (size a)) c) F h)
all-shares_allowed P U (imp a b) c T h = all_paired (IsAllowedShare P) (IsAllowedShare P) (IsAllowedShare P) (both_at c) (shares U (down_by 1 c) F a) (shares U (down_by (suc (size a)) c) T b) (both_allowed P c) (all-shares_allowed P U a (down_by 1 c) F h) (all-shares_allowed P U b (down_by (suc (size a)) c) T h)
all-shares_allowed P U (imp a b) c F h = either_allowed P c (shares U (down_by 1 c) T a) (shares U (down_by (suc (size a)) c) F b) (all-shares_allowed P U a (down_by 1 c) T h) (all-shares_allowed P U b (down_by (suc (size a)) c) F h)
all-shares_allowed P U (all a) c T h = terms_allowed P c (λ t. shares U (in_term c t) T a) U h (λ t. all-shares_allowed P U a (in_term c t) T h)
all-shares_allowed P U (all a) c F h = all_mapped (IsAllowedShare P) (IsAllowedShare P) (only_at c) (shares U (in_eigen c) F a) (λ x g. g) (all-shares_allowed P U a (in_eigen c) F h)
all-shares_allowed P U (ex a) c T h = all_mapped (IsAllowedShare P) (IsAllowedShare P) (only_at c) (shares U (in_eigen c) T a) (λ x g. g) (all-shares_allowed P U a (in_eigen c) T h)
all-shares_allowed P U (ex a) c F h = terms_allowed P c (λ t. shares U (in_term c t) F a) U h (λ t. all-shares_allowed P U a (in_term c t) F h)
all-shares_allowed P U (box a) c s h = tt
all-shares_allowed P U (dia a) c s h = tt

-- ---- a way through the shares makes the signed formula hold over the list

-- the list has the eigenvariable of each delta position that is reached by its terms, and no modal operator is reached
abbrev pub HasEigens : List GroundTerm → Spot → Sign → Formula → Type 0
HasEigens U c s (atom p ts) = Unit {0}
HasEigens U c s (neg a) = HasEigens U (down_by 1 c) (other s) a
HasEigens U c s (conj a b) = HasEigens U (down_by 1 c) s a × HasEigens U (down_by (suc (size a)) c) s b
HasEigens U c s (disj a b) = HasEigens U (down_by 1 c) s a × HasEigens U (down_by (suc (size a)) c) s b
HasEigens U c s (imp a b) = HasEigens U (down_by 1 c) (other s) a × HasEigens U (down_by (suc (size a)) c) s b
HasEigens U c T (all a) = AllByRecursion (λ t. HasEigens U (in_term c t) T a) U
HasEigens U c F (all a) = Among U (eigen_at c) × HasEigens U (in_eigen c) F a
HasEigens U c T (ex a) = Among U (eigen_at c) × HasEigens U (in_eigen c) T a
HasEigens U c F (ex a) = AllByRecursion (λ t. HasEigens U (in_term c t) F a) U
HasEigens U c s (box a) = ⊥
HasEigens U c s (dia a) = ⊥

abbrev pub value_at : (GroundLiteral → Bool) → List GroundMark → ℕ → GroundTerms → Bool
value_at has w p ts = has (record { sign = T; symbol = p; args = ts; label = w })

abbrev pub SaysOver : List GroundTerm → (ℕ → GroundTerms → Bool) → List GroundTerm → Sign → Formula → Type 0
SaysOver U v env T f = IsTrue (truth_over U v env f)
SaysOver U v env F f = truth_over U v env f ≡ false

abbrev IsHitShare : (GroundLiteral → Bool) → Share → Type 0
IsHitShare has x = IsTrue (list_any has x.literals)

opposite : (p : ℕ) (ts : GroundTerms) (w : List GroundMark) → IsTrue (are_complementary (record { sign = T; symbol = p; args = ts; label = w }) (record { sign = F; symbol = p; args = ts; label = w }))
opposite p ts w = and_from (p == p && grounds_eq ts ts) (label_eq w w) (and_from (p == p) (grounds_eq ts ts) ((nat_eq-tells p p).1 refl) ((grounds_eq-tells ts ts).1 refl)) ((label_eq-tells w w).1 refl)

one_side : (has : GroundLiteral → Bool) (c : Spot) (xs ys : List Share) → AllByRecursion (IsHitShare has) (pairs (both_at c) xs ys) → AllByRecursion (IsHitShare has) xs ⊎ AllByRecursion (IsHitShare has) ys
one_side has c [] ys h = inl tt
one_side has c (x ∷ xs) ys h =
    let parts = each-parts (IsHitShare has) (map (both_at c x) ys) (pairs (both_at c) xs ys) h in
    elim (cases_Bool (list_any has x.literals)) [
      | inl e ↦ elim (one_side has c xs ys parts.1) [
        | inl k ↦ inl (e, k)
        | inr k ↦ inr k
      ]
      | inr f ↦ inr (others ys parts.0 f)
    ]
  where
    others : (zs : List Share) → AllByRecursion (IsHitShare has) (map (both_at c x) zs) → list_any has x.literals ≡ false → AllByRecursion (IsHitShare has) zs
    others [] k f = tt
    others (z ∷ zs) k f = (in_other_part has x.literals z.literals k.0 f, others zs k.1 f)

two_sides : (has : GroundLiteral → Bool) (c : Spot) (xs ys : List Share) → AllByRecursion (IsHitShare has) (either_at c xs ys) → AllByRecursion (IsHitShare has) xs × AllByRecursion (IsHitShare has) ys
two_sides has c xs ys h =
    let parts = each-parts (IsHitShare has) (map (left_at c) xs) (map (right_at c) ys) h in
    (all_before (IsHitShare has) (IsHitShare has) (left_at c) xs (λ x k. k) parts.0, all_before (IsHitShare has) (IsHitShare has) (right_at c) ys (λ y k. k) parts.1)

each_term : (has : GroundLiteral → Bool) (c : Spot) (f : GroundTerm → List Share) (ts : List GroundTerm) → AllByRecursion (IsHitShare has) (flat_map (λ t. map (term_at c t) (f t)) ts) → AllByRecursion (λ t. AllByRecursion (IsHitShare has) (f t)) ts
each_term has c f [] h = tt
each_term has c f (t ∷ ts) h =
    let parts = each-parts (IsHitShare has) (map (term_at c t) (f t)) (flat_map (λ u. map (term_at c u) (f u)) ts) h in
    (all_before (IsHitShare has) (IsHitShare has) (term_at c t) (f t) (λ x k. k) parts.0, each_term has c f ts parts.1)

all_true : (f : GroundTerm → Bool) (ts : List GroundTerm) → AllByRecursion (λ t. IsTrue (f t)) ts → IsTrue (list_all f ts)
all_true f [] h = refl
all_true f (t ∷ ts) h = and_from (f t) (list_all f ts) h.0 (all_true f ts h.1)

all_false : (f : GroundTerm → Bool) (ts : List GroundTerm) → AllByRecursion (λ t. f t ≡ false) ts → list_any f ts ≡ false
all_false f [] h = refl
all_false f (t ∷ ts) h = or_from (f t) (list_any f ts) h.0 (all_false f ts h.1)

some_true : (f : GroundTerm → Bool) (ts : List GroundTerm) (e : GroundTerm) → Among ts e → IsTrue (f e) → IsTrue (list_any f ts)
some_true f [] e h k = elim h [ ]
some_true f (t ∷ ts) e (inl q) k = or_left (f t) (list_any f ts) (subst (λ x. IsTrue (f x)) (sym q) k)
some_true f (t ∷ ts) e (inr h) k = or_right (f t) (list_any f ts) (some_true f ts e h k)

some_false : (f : GroundTerm → Bool) (ts : List GroundTerm) (e : GroundTerm) → Among ts e → f e ≡ false → list_all f ts ≡ false
some_false f [] e h k = elim h [ ]
some_false f (t ∷ ts) e (inl q) k = and_left (f t) (list_all f ts) (subst (λ x. f x ≡ false) (sym q) k)
some_false f (t ∷ ts) e (inr h) k = and_right (f t) (list_all f ts) (some_false f ts e h k)

pub all_say : (has : GroundLiteral → Bool) → Apart has → (U : List GroundTerm) (f : Formula) (c : Spot) (s : Sign) → HasEigens U c s f → AllByRecursion (IsHitShare has) (shares U c s f) → SaysOver U (value_at has c.label) c.env s f
all_say has apart U (atom p ts) c T g h = one_hit has (record { sign = T; symbol = p; args = grounds_of c.env ts; label = c.label }) h.0
all_say has apart U (atom p ts) c F g h =
    let shown : GroundLiteral = record { sign = F; symbol = p; args = grounds_of c.env ts; label = c.label } in
    let given : GroundLiteral = record { sign = T; symbol = p; args = grounds_of c.env ts; label = c.label } in
    false_from_ne_true (has given) (λ t. apart given shown t (one_hit has shown h.0) (opposite p (grounds_of c.env ts) c.label))
all_say has apart U (neg a) c T g h = not_from_false (truth_over U (value_at has c.label) c.env a) (all_say has apart U a (down_by 1 c) F g (all_before (IsHitShare has) (IsHitShare has) (only_at c) (shares U (down_by 1 c) F a) (λ x k. k) h))
all_say has apart U (neg a) c F g h = not_from_true (truth_over U (value_at has c.label) c.env a) (all_say has apart U a (down_by 1 c) T g (all_before (IsHitShare has) (IsHitShare has) (only_at c) (shares U (down_by 1 c) T a) (λ x k. k) h))
all_say has apart U (conj a b) c T g h = let q = two_sides has c (shares U (down_by 1 c) T a) (shares U (down_by (suc (size a)) c) T b) h in
    and_from (truth_over U (value_at has c.label) c.env a) (truth_over U (value_at has c.label) c.env b) (all_say has apart U a (down_by 1 c) T g.0 q.0) (all_say has apart U b (down_by (suc (size a)) c) T g.1 q.1)
all_say has apart U (conj a b) c F g h = elim (one_side has c (shares U (down_by 1 c) F a) (shares U (down_by (suc (size a)) c) F b) h) [
  | inl l ↦ and_left (truth_over U (value_at has c.label) c.env a) (truth_over U (value_at has c.label) c.env b) (all_say has apart U a (down_by 1 c) F g.0 l)
  | inr r ↦ and_right (truth_over U (value_at has c.label) c.env a) (truth_over U (value_at has c.label) c.env b) (all_say has apart U b (down_by (suc (size a)) c) F g.1 r)
]
all_say has apart U (disj a b) c T g h = elim (one_side has c (shares U (down_by 1 c) T a) (shares U (down_by (suc (size a)) c) T b) h) [
  | inl l ↦ or_left (truth_over U (value_at has c.label) c.env a) (truth_over U (value_at has c.label) c.env b) (all_say has apart U a (down_by 1 c) T g.0 l)
  | inr r ↦ or_right (truth_over U (value_at has c.label) c.env a) (truth_over U (value_at has c.label) c.env b) (all_say has apart U b (down_by (suc (size a)) c) T g.1 r)
]
all_say has apart U (disj a b) c F g h = let q = two_sides has c (shares U (down_by 1 c) F a) (shares U (down_by (suc (size a)) c) F b) h in
    or_from (truth_over U (value_at has c.label) c.env a) (truth_over U (value_at has c.label) c.env b) (all_say has apart U a (down_by 1 c) F g.0 q.0) (all_say has apart U b (down_by (suc (size a)) c) F g.1 q.1)
all_say has apart U (imp a b) c T g h = elim (one_side has c (shares U (down_by 1 c) F a) (shares U (down_by (suc (size a)) c) T b) h) [
  | inl l ↦ or_left (not (truth_over U (value_at has c.label) c.env a)) (truth_over U (value_at has c.label) c.env b) (not_from_false (truth_over U (value_at has c.label) c.env a) (all_say has apart U a (down_by 1 c) F g.0 l))
  | inr r ↦ or_right (not (truth_over U (value_at has c.label) c.env a)) (truth_over U (value_at has c.label) c.env b) (all_say has apart U b (down_by (suc (size a)) c) T g.1 r)
]
all_say has apart U (imp a b) c F g h = let q = two_sides has c (shares U (down_by 1 c) T a) (shares U (down_by (suc (size a)) c) F b) h in
    or_from (not (truth_over U (value_at has c.label) c.env a)) (truth_over U (value_at has c.label) c.env b) (not_from_true (truth_over U (value_at has c.label) c.env a) (all_say has apart U a (down_by 1 c) T g.0 q.0)) (all_say has apart U b (down_by (suc (size a)) c) F g.1 q.1)
all_say has apart U (all a) c T g h =
    let f : GroundTerm → List Share = λ t. shares U (in_term c t) T a in
    let v = value_at has c.label in
    all_true (λ t. truth_over U v (t ∷ c.env) a) U
    (all_zipped (λ t. HasEigens U (in_term c t) T a) (λ t. AllByRecursion (IsHitShare has) (f t)) (λ t. IsTrue (truth_over U v (t ∷ c.env) a)) U (λ t g k. all_say has apart U a (in_term c t) T g k) g (each_term has c f U h))
all_say has apart U (all a) c F g h = some_false (λ t. truth_over U (value_at has c.label) (t ∷ c.env) a) U (eigen_at c) g.0 (all_say has apart U a (in_eigen c) F g.1 (all_before (IsHitShare has) (IsHitShare has) (only_at c) (shares U (in_eigen c) F a) (λ x k. k) h))
all_say has apart U (ex a) c T g h = some_true (λ t. truth_over U (value_at has c.label) (t ∷ c.env) a) U (eigen_at c) g.0 (all_say has apart U a (in_eigen c) T g.1 (all_before (IsHitShare has) (IsHitShare has) (only_at c) (shares U (in_eigen c) T a) (λ x k. k) h))
all_say has apart U (ex a) c F g h =
    let f : GroundTerm → List Share = λ t. shares U (in_term c t) F a in
    let v = value_at has c.label in
    all_false (λ t. truth_over U v (t ∷ c.env) a) U
    (all_zipped (λ t. HasEigens U (in_term c t) F a) (λ t. AllByRecursion (IsHitShare has) (f t)) (λ t. truth_over U v (t ∷ c.env) a ≡ false) U (λ t g k. all_say has apart U a (in_term c t) F g k) g (each_term has c f U h))
all_say has apart U (box a) c s g h = absurd g
all_say has apart U (dia a) c s g h = absurd g

-- ---- the decision over the list

-- what makes the formula false where the quantifiers range over the list
pub record IsRefutedOver (U : List GroundTerm) (P : Problem) : Type 0 where
  pub values : ℕ → GroundTerms → Bool
  pub false_there : truth_over U values [] P.formula ≡ false

over_allowed : (P : Problem) → P.setting.logic ≡ Classical → (xs : List Share) → AllByRecursion (IsGiven root_spot F P.formula) xs → AllByRecursion (IsAllowedShare P) xs → IsTrue (list_all (is_allowed_instance P) (map clause_instance xs))
over_allowed P e [] g h = refl
over_allowed P e (x ∷ xs) g h =
    and_from (is_allowed_instance P (clause_instance x)) (list_all (is_allowed_instance P) (map clause_instance xs))
    ((is_allowed_instance-exact P (clause_instance x)).1 (x, record { instance = record { admitted = h.0.0; given = subst (λ l. Gives l root_spot F P.formula x) (sym e) g.0 }; allowed = h.0.1 }, refl))
    (over_allowed P e xs g.1 h.1)

-- over a list of terms that are allowed, with the eigenvariables that are reached by them
pub decided_over : (P : Problem) (U : List GroundTerm) → P.setting.logic ≡ Classical → AllByRecursion (IsTermOf P []) U → HasEigens U root_spot F P.formula → HasClosed P (atom_count (instances_over U P)) ⊎ IsRefutedOver U P
decided_over P U e terms eigens = elim (cases_Bool (has_way [] (instances_over U P))) [
  | inl t ↦
      let w = way_from [] (instances_over U P) tt t in
      let hits = all_before (IsHitShare w.has) (Hits (λ l. IsTrue (w.has l))) clause_instance (shares U root_spot F P.formula) (λ x s. hit-tells w.has x.literals s) w.through in
      inr (record { values = value_at w.has []; false_there = all_say w.has w.apart U P.formula root_spot F eigens hits })
  | inr f ↦
      let allowed = over_allowed P e (shares U root_spot F P.formula) (all-shares_given U P.formula root_spot F) (all-shares_allowed P U P.formula root_spot F terms) in
      inl (closed_where_spanning_within P (instances_over U P) (ap has_unbounded_strings e) (record { allowed = allowed; spanning = f }))
]
