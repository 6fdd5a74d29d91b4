-- The instances of a propositional problem, one for each selection: all are allowed, and a way through them makes truth values at which
-- the formula is false.
use Rattle.std.proofs.Common.{◌≡◌, ◌⊎◌, ℕ, suc, List, [], ◌∷◌, ◌++◌, map, Bool, true, false, not, ◌&&◌, ◌||◌, Option, Some, None, option_map, IsTrue, if◌then◌else◌, ◌==◌, refl, sym, ◌∙◌, ap, subst, inl, inr}
use Rattle.std.specs.List.{AllByRecursion, list_all, list_any}
use Rattle.std.specs.Option.{option_map_or, option_and_then}
use Rattle.std.proofs.lemmas.List.{append_assoc, append-nil}
use Rattle.std.proofs.lemmas.Bool.{and_parts, and_from, and_left, and_right, or_left, or_right, or_from, or_cases, or_parts, cases_Bool, not_from_true, not_from_false, false≢true, false_from_ne_true, both_ways}
use Rattle.plain_laws.proofs.Every.{each-append, each-parts}
use Rattle.calculus.specs.declared.sign.Sign.{Sign}
use Rattle.calculus.specs.declared.sign.Sign.TheVariants.{T, F}
use Rattle.calculus.specs.declared.sign.Side.{Side}
use Rattle.calculus.specs.declared.sign.Side.TheVariants.{Left, Right}
use Rattle.calculus.specs.declared.setting.Logic.TheVariants.{Classical}
use Rattle.calculus.specs.declared.kind.ModalPart.TheVariants.{Plain}
use Rattle.calculus.specs.Syntax.{no_terms, more_terms, Formula, atom, neg, conj, disj, imp, all, ex, box, dia, Problem}
use Rattle.calculus.specs.Ground.{Value, no_g_terms, GroundLiteral}
use Rattle.calculus.specs.Equality.{list_eq, literal_eq}
use Rattle.calculus.specs.Kinds.{other}
use Rattle.calculus.specs.Positions.{size}
use Rattle.calculus.specs.Skolem.{is_empty}
use Rattle.calculus.specs.Instances.{Spot, root_spot, down_by, ClauseInstance, gamma_is_allowed}
use Rattle.calculus.specs.ComputedInstances.{Supply, Part, part_of, with_modal_step, with_turn, at_beta, join_of, if_used_up, is_allowed_instance}
use Rattle.calculus.specs.Propositional.{is_propositional, IsPropositional, truth_value}
use Rattle.calculus.specs.Tableaux.{are_complementary}
use Rattle.calculus.proofs.EqualityLaws.{literal_eq-tells, list_eq-tells, nat_eq-tells}
use Rattle.calculus.proofs.WalkLaws.{SomeIn}

-- a selection and the literals of its clause
pub record Pick : Type 0 where
  pub sides : List Side
  pub literals : List GroundLiteral

abbrev pub literal_of : Sign → ℕ → GroundLiteral
literal_of s p = record { sign = s; symbol = p; args = no_g_terms; label = [] }

abbrev pub on_side : Side → Pick → Pick
on_side d x = record { sides = d ∷ x.sides; literals = x.literals }

abbrev pub beside : Pick → Pick → Pick
beside x y = record { sides = x.sides ++ y.sides; literals = x.literals ++ y.literals }

abbrev pub either : List Pick → List Pick → List Pick
either xs ys = map (on_side Left) xs ++ map (on_side Right) ys

abbrev pub both : List Pick → List Pick → List Pick
both [] ys = []
both (x ∷ xs) ys = map (beside x) ys ++ both xs ys

-- the picks of a propositional formula with a sign
abbrev pub picks : Formula → Sign → List Pick
picks (atom p ts) s = record { sides = []; literals = literal_of s p ∷ [] } ∷ []
picks (neg a) s = picks a (other s)
picks (conj a b) T = either (picks a T) (picks b T)
picks (conj a b) F = both (picks a F) (picks b F)
picks (disj a b) T = both (picks a T) (picks b T)
picks (disj a b) F = either (picks a F) (picks b F)
picks (imp a b) T = both (picks a F) (picks b T)
picks (imp a b) F = either (picks a T) (picks b F)
picks _ s = []

-- ---- lists

pub all_mapped : {A B : Type 0} (P : A → Type 0) (Q : B → Type 0) (f : A → B) (xs : List A) → ((x : A) → P x → Q (f x)) → AllByRecursion P xs → AllByRecursion Q (map f xs)
all_mapped P Q f [] g h = tt
all_mapped P Q f (x ∷ xs) g h = (g x h.0, all_mapped P Q f xs g h.1)

pub all_before : {A B : Type 0} (P : A → Type 0) (Q : B → Type 0) (f : A → B) (xs : List A) → ((x : A) → Q (f x) → P x) → AllByRecursion Q (map f xs) → AllByRecursion P xs
all_before P Q f [] g h = tt
all_before P Q f (x ∷ xs) g h = (g x h.0, all_before P Q f xs g h.1)

pub all_both : (P Q R : Pick → Type 0) (xs ys : List Pick) → ((x y : Pick) → P x → Q y → R (beside x y)) → AllByRecursion P xs → AllByRecursion Q ys → AllByRecursion R (both xs ys)
all_both P Q R [] ys g h k = tt
all_both P Q R (x ∷ xs) ys g h k = each-append R (map (beside x) ys) (both xs ys) (all_mapped Q R (beside x) ys (λ y q. g x y h.0 q) k) (all_both P Q R xs ys g h.1 k)

-- ---- each pick is an instance

-- what a signed formula gives at a spot without label, the sides and values behind it being left over
abbrev pub IsGivenBy : Formula → Sign → Pick → Type 0
IsGivenBy f s x = (c : Spot) (rest : List Side) (vs : List Value) → c.label ≡ [] → (y : Part) × (part_of Classical f s c (record { sides = x.sides ++ rest; values = vs }) ≡ Some y) × (y.literals ≡ x.literals) × (y.gammas ≡ []) × (y.left_over ≡ record { sides = rest; values = vs })

abbrev reaching : Spot → Option Part → Option Part
reaching c o = option_map (with_modal_step Plain) (with_turn c.position c.taken o)

given-atom : (p : ℕ) (s : Sign) → IsGivenBy (atom p no_terms) s (record { sides = []; literals = literal_of s p ∷ [] })
given-atom p s c rest vs e = (record { literals = record { sign = s; symbol = p; args = no_g_terms; label = c.label } ∷ []; turns = record { position = c.position; values = c.taken } ∷ []; gammas = []; nus = 0; pis = 0; left_over = record { sides = rest; values = vs } }, refl, (λ i. record { sign = s; symbol = p; args = no_g_terms; label = e i } ∷ []), refl, refl)

given-neg : (a : Formula) (s : Sign) (x : Pick) → IsGivenBy a (other s) x → IsGivenBy (neg a) s x
given-neg a s x h c rest vs e =
    let r = h (down_by 1 c) rest vs e in
    (record r.0 { turns = record { position = c.position; values = c.taken } ∷ r.0.turns }, ap (reaching c) r.1, r.2, r.3, r.4)

-- the rule of alpha and beta of each connective, over what its components give
abbrev IsAlphaBy : Formula → Sign → Formula → Sign → Formula → Sign → Type 0
IsAlphaBy f s a sa b sb = (c : Spot) (ss : List Side) (vs : List Value) →
    (part_of Classical f s c (record { sides = Left ∷ ss; values = vs }) ≡ reaching c (part_of Classical a sa (down_by 1 c) (record { sides = ss; values = vs })))
    × (part_of Classical f s c (record { sides = Right ∷ ss; values = vs }) ≡ reaching c (part_of Classical b sb (down_by (suc (size a)) c) (record { sides = ss; values = vs })))

abbrev IsBetaBy : Formula → Sign → Formula → Sign → Formula → Sign → Type 0
IsBetaBy f s a sa b sb = (c : Spot) (u : Supply) →
    part_of Classical f s c u ≡ reaching c (at_beta (part_of Classical a sa (down_by 1 c)) (part_of Classical b sb (down_by (suc (size a)) c)) u)

given-left : (f : Formula) (s : Sign) (a : Formula) (sa : Sign) (b : Formula) (sb : Sign) → IsAlphaBy f s a sa b sb → (x : Pick) → IsGivenBy a sa x → IsGivenBy f s (on_side Left x)
given-left f s a sa b sb rule x h c rest vs e =
    let r = h (down_by 1 c) rest vs e in
    (record r.0 { turns = record { position = c.position; values = c.taken } ∷ r.0.turns }, (rule c (x.sides ++ rest) vs).0 ∙ ap (reaching c) r.1, r.2, r.3, r.4)

given-right : (f : Formula) (s : Sign) (a : Formula) (sa : Sign) (b : Formula) (sb : Sign) → IsAlphaBy f s a sa b sb → (x : Pick) → IsGivenBy b sb x → IsGivenBy f s (on_side Right x)
given-right f s a sa b sb rule x h c rest vs e =
    let r = h (down_by (suc (size a)) c) rest vs e in
    (record r.0 { turns = record { position = c.position; values = c.taken } ∷ r.0.turns }, (rule c (x.sides ++ rest) vs).1 ∙ ap (reaching c) r.1, r.2, r.3, r.4)

given-both : (f : Formula) (s : Sign) (a : Formula) (sa : Sign) (b : Formula) (sb : Sign) → IsBetaBy f s a sa b sb → (x y : Pick) → IsGivenBy a sa x → IsGivenBy b sb y → IsGivenBy f s (beside x y)
given-both f s a sa b sb rule x y h k c rest vs e =
    let first = h (down_by 1 c) (y.sides ++ rest) vs e in
    let second = k (down_by (suc (size a)) c) rest vs e in
    let go : Supply → Option Part = part_of Classical b sb (down_by (suc (size a)) c) in
    let sides : (x.sides ++ y.sides) ++ rest ≡ x.sides ++ (y.sides ++ rest) = append_assoc x.sides y.sides rest in
    let begin : part_of Classical a sa (down_by 1 c) (record { sides = (x.sides ++ y.sides) ++ rest; values = vs }) ≡ Some first.0 = ap (λ ss. part_of Classical a sa (down_by 1 c) (record { sides = ss; values = vs })) sides ∙ first.1 in
    let next : go first.0.left_over ≡ Some second.0 = ap go first.4 ∙ second.1 in
    let joined : at_beta (part_of Classical a sa (down_by 1 c)) go (record { sides = (x.sides ++ y.sides) ++ rest; values = vs }) ≡ Some (join_of first.0 second.0) =
    ap (λ o. option_and_then (λ (z : Part). option_map (join_of z) (go z.left_over)) o) begin ∙ ap (λ o. option_map (join_of first.0) o) next in (
      record (join_of first.0 second.0) { turns = record { position = c.position; values = c.taken } ∷ (join_of first.0 second.0).turns },
      rule c (record { sides = (x.sides ++ y.sides) ++ rest; values = vs }) ∙ ap (reaching c) joined,
      (λ i. first.2 i ++ second.2 i),
      (λ i. first.3 i ++ second.3 i),
      second.4,
    )

all_either : (f : Formula) (s : Sign) (a : Formula) (sa : Sign) (b : Formula) (sb : Sign) → IsAlphaBy f s a sa b sb → (xs ys : List Pick) → AllByRecursion (IsGivenBy a sa) xs → AllByRecursion (IsGivenBy b sb) ys → AllByRecursion (IsGivenBy f s) (either xs ys)
all_either f s a sa b sb rule xs ys h k =
    each-append (IsGivenBy f s) (map (on_side Left) xs) (map (on_side Right) ys)
    (all_mapped (IsGivenBy a sa) (IsGivenBy f s) (on_side Left) xs (given-left f s a sa b sb rule) h)
    (all_mapped (IsGivenBy b sb) (IsGivenBy f s) (on_side Right) ys (given-right f s a sa b sb rule) k)

pub all-given : (f : Formula) (s : Sign) → IsTrue (is_propositional f) → AllByRecursion (IsGivenBy f s) (picks f s)
all-given (atom p no_terms) s h = (given-atom p s, tt)
all-given (atom p (more_terms t ts)) s h = absurd (false≢true h)
all-given (neg a) s h = all_kept (picks a (other s)) (all-given a (other s) h)
  where
    all_kept : (xs : List Pick) → AllByRecursion (IsGivenBy a (other s)) xs → AllByRecursion (IsGivenBy (neg a) s) xs
    all_kept [] k = tt
    all_kept (x ∷ xs) k = (given-neg a s x k.0, all_kept xs k.1)
all-given (conj a b) T h = let p = and_parts (is_propositional a) (is_propositional b) h in
    all_either (conj a b) T a T b T (λ c ss vs. (refl, refl)) (picks a T) (picks b T) (all-given a T p.0) (all-given b T p.1)
all-given (conj a b) F h = let p = and_parts (is_propositional a) (is_propositional b) h in
    all_both (IsGivenBy a F) (IsGivenBy b F) (IsGivenBy (conj a b) F) (picks a F) (picks b F) (λ x y. given-both (conj a b) F a F b F (λ c u. refl) x y) (all-given a F p.0) (all-given b F p.1)
all-given (disj a b) T h = let p = and_parts (is_propositional a) (is_propositional b) h in
    all_both (IsGivenBy a T) (IsGivenBy b T) (IsGivenBy (disj a b) T) (picks a T) (picks b T) (λ x y. given-both (disj a b) T a T b T (λ c u. refl) x y) (all-given a T p.0) (all-given b T p.1)
all-given (disj a b) F h = let p = and_parts (is_propositional a) (is_propositional b) h in
    all_either (disj a b) F a F b F (λ c ss vs. (refl, refl)) (picks a F) (picks b F) (all-given a F p.0) (all-given b F p.1)
all-given (imp a b) T h = let p = and_parts (is_propositional a) (is_propositional b) h in
    all_both (IsGivenBy a F) (IsGivenBy b T) (IsGivenBy (imp a b) T) (picks a F) (picks b T) (λ x y. given-both (imp a b) T a F b T (λ c u. refl) x y) (all-given a F p.0) (all-given b T p.1)
all-given (imp a b) F h = let p = and_parts (is_propositional a) (is_propositional b) h in
    all_either (imp a b) F a T b F (λ c ss vs. (refl, refl)) (picks a T) (picks b F) (all-given a T p.0) (all-given b F p.1)
all-given (all a) s h = absurd (false≢true h)
all-given (ex a) s h = absurd (false≢true h)
all-given (box a) s h = absurd (false≢true h)
all-given (dia a) s h = absurd (false≢true h)

abbrev pub instance_by : Pick → ClauseInstance
instance_by x = record { selection = x.sides; values = []; literals = x.literals }

-- ---- a way through the picks makes truth values

abbrev pub value_by : (GroundLiteral → Bool) → ℕ → Bool
value_by has p = has (literal_of T p)

-- the signed formula holds by these truth values
abbrev pub Says : (ℕ → Bool) → Sign → Formula → Type 0
Says v T f = IsTrue (truth_value v f)
Says v F f = truth_value v f ≡ false

pub hit-tells : (has : GroundLiteral → Bool) (ls : List GroundLiteral) → SomeIn (λ l. IsTrue (has l)) ls → IsTrue (list_any has ls)
hit-tells has [] h = absurd h
hit-tells has (l ∷ ls) (inl h) = or_left (has l) (list_any has ls) h
hit-tells has (l ∷ ls) (inr h) = or_right (has l) (list_any has ls) (hit-tells has ls h)

abbrev pub IsHitByTest : (GroundLiteral → Bool) → Pick → Type 0
IsHitByTest has x = IsTrue (list_any has x.literals)

-- where one list has no such literal, the other one has it
pub in_other_part : (has : GroundLiteral → Bool) (ls ms : List GroundLiteral) → IsTrue (list_any has (ls ++ ms)) → list_any has ls ≡ false → IsTrue (list_any has ms)
in_other_part has [] ms k f = k
in_other_part has (l ∷ ls) ms k f = let g = or_parts (has l) (list_any has ls) f in in_other_part has ls ms (later (has l) (list_any has (ls ++ ms)) k g.0) g.1
  where
    later : (a b : Bool) → IsTrue (a || b) → a ≡ false → IsTrue b
    later a b k f = elim (or_cases a b k) [
      | inl e ↦ absurd (both_ways a f e)
      | inr e ↦ e
    ]

-- where each pair of both is hit, one side is hit everywhere
one_side : (has : GroundLiteral → Bool) (xs ys : List Pick) → AllByRecursion (IsHitByTest has) (both xs ys) → AllByRecursion (IsHitByTest has) xs ⊎ AllByRecursion (IsHitByTest has) ys
one_side has [] ys h = inl tt
one_side has (x ∷ xs) ys h =
    let parts = each-parts (IsHitByTest has) (map (beside x) ys) (both xs ys) h in
    elim (cases_Bool (list_any has x.literals)) [
      | inl e ↦ elim (one_side has xs ys parts.1) [
        | inl k ↦ inl (e, k)
        | inr k ↦ inr k
      ]
      | inr f ↦ inr (others ys parts.0 f)
    ]
  where
    others : (zs : List Pick) → AllByRecursion (IsHitByTest has) (map (beside x) zs) → list_any has x.literals ≡ false → AllByRecursion (IsHitByTest has) zs
    others [] k f = tt
    others (z ∷ zs) k f = (in_other_part has x.literals z.literals k.0 f, others zs k.1 f)

two_sides : (has : GroundLiteral → Bool) (xs ys : List Pick) → AllByRecursion (IsHitByTest has) (either xs ys) → AllByRecursion (IsHitByTest has) xs × AllByRecursion (IsHitByTest has) ys
two_sides has xs ys h =
    let parts = each-parts (IsHitByTest has) (map (on_side Left) xs) (map (on_side Right) ys) h in
    (all_before (IsHitByTest has) (IsHitByTest has) (on_side Left) xs (λ x k. k) parts.0, all_before (IsHitByTest has) (IsHitByTest has) (on_side Right) ys (λ y k. k) parts.1)

pub one_hit : (has : GroundLiteral → Bool) (l : GroundLiteral) → IsTrue (list_any has (l ∷ [])) → IsTrue (has l)
one_hit has l h = elim (or_cases (has l) false h) [
  | inl e ↦ e
  | inr e ↦ absurd (false≢true e)
]

opposite : (p : ℕ) → IsTrue (are_complementary (literal_of T p) (literal_of F p))
opposite p = and_from (p == p && true) true (and_from (p == p) true ((nat_eq-tells p p).1 refl) refl) refl

-- where each pick of a signed formula is hit by an apart set, the signed formula holds
abbrev pub Apart : (GroundLiteral → Bool) → Type 0
Apart has = (a b : GroundLiteral) → IsTrue (has a) → IsTrue (has b) → IsTrue (are_complementary a b) → ⊥

pub all_says : (has : GroundLiteral → Bool) → Apart has → (f : Formula) (s : Sign) → IsTrue (is_propositional f) → AllByRecursion (IsHitByTest has) (picks f s) → Says (value_by has) s f
all_says has apart (atom p no_terms) T h k = one_hit has (literal_of T p) k.0
all_says has apart (atom p no_terms) F h k = false_from_ne_true (has (literal_of T p)) (λ t. apart (literal_of T p) (literal_of F p) t (one_hit has (literal_of F p) k.0) (opposite p))
all_says has apart (atom p (more_terms t ts)) s h k = absurd (false≢true h)
all_says has apart (neg a) T h k = not_from_false (truth_value (value_by has) a) (all_says has apart a F h k)
all_says has apart (neg a) F h k = not_from_true (truth_value (value_by has) a) (all_says has apart a T h k)
all_says has apart (conj a b) T h k = let p = and_parts (is_propositional a) (is_propositional b) h in let q = two_sides has (picks a T) (picks b T) k in
    and_from (truth_value (value_by has) a) (truth_value (value_by has) b) (all_says has apart a T p.0 q.0) (all_says has apart b T p.1 q.1)
all_says has apart (conj a b) F h k = let p = and_parts (is_propositional a) (is_propositional b) h in
    elim (one_side has (picks a F) (picks b F) k) [
      | inl l ↦ and_left (truth_value (value_by has) a) (truth_value (value_by has) b) (all_says has apart a F p.0 l)
      | inr r ↦ and_right (truth_value (value_by has) a) (truth_value (value_by has) b) (all_says has apart b F p.1 r)
    ]
all_says has apart (disj a b) T h k = let p = and_parts (is_propositional a) (is_propositional b) h in
    elim (one_side has (picks a T) (picks b T) k) [
      | inl l ↦ or_left (truth_value (value_by has) a) (truth_value (value_by has) b) (all_says has apart a T p.0 l)
      | inr r ↦ or_right (truth_value (value_by has) a) (truth_value (value_by has) b) (all_says has apart b T p.1 r)
    ]
all_says has apart (disj a b) F h k = let p = and_parts (is_propositional a) (is_propositional b) h in let q = two_sides has (picks a F) (picks b F) k in
    or_from (truth_value (value_by has) a) (truth_value (value_by has) b) (all_says has apart a F p.0 q.0) (all_says has apart b F p.1 q.1)
all_says has apart (imp a b) T h k = let p = and_parts (is_propositional a) (is_propositional b) h in
    elim (one_side has (picks a F) (picks b T) k) [
      | inl l ↦ or_left (not (truth_value (value_by has) a)) (truth_value (value_by has) b) (not_from_false (truth_value (value_by has) a) (all_says has apart a F p.0 l))
      | inr r ↦ or_right (not (truth_value (value_by has) a)) (truth_value (value_by has) b) (all_says has apart b T p.1 r)
    ]
all_says has apart (imp a b) F h k = let p = and_parts (is_propositional a) (is_propositional b) h in let q = two_sides has (picks a T) (picks b F) k in
    or_from (not (truth_value (value_by has) a)) (truth_value (value_by has) b) (not_from_true (truth_value (value_by has) a) (all_says has apart a T p.0 q.0)) (all_says has apart b F p.1 q.1)
all_says has apart (all a) s h k = absurd (false≢true h)
all_says has apart (ex a) s h k = absurd (false≢true h)
all_says has apart (box a) s h k = absurd (false≢true h)
all_says has apart (dia a) s h k = absurd (false≢true h)

-- ---- the law

pub allowed_by : (P : Problem) → IsPropositional P → (x : Pick) → IsGivenBy P.formula F x → IsTrue (is_allowed_instance P (instance_by x))
allowed_by P h x g =
    let r = g root_spot [] [] refl in
    let e : part_of P.setting.logic P.formula F root_spot (record { sides = x.sides; values = [] }) ≡ Some r.0 =
    ap (λ l. part_of l P.formula F root_spot (record { sides = x.sides; values = [] })) h.classical
    ∙ ap (λ ss. part_of Classical P.formula F root_spot (record { sides = ss; values = [] })) (sym (append-nil x.sides)) ∙ r.1 in
    subst (λ o. IsTrue (option_map_or (λ (y : Part). list_eq literal_eq y.literals x.literals && list_all (gamma_is_allowed P) y.gammas) (option_and_then if_used_up o) false)) (sym e) (used r.0 r.2 r.3 r.4)
  where
    used : (y : Part) → y.literals ≡ x.literals → y.gammas ≡ [] → y.left_over ≡ record { sides = []; values = [] } → IsTrue (option_map_or (λ (z : Part). list_eq literal_eq z.literals x.literals && list_all (gamma_is_allowed P) z.gammas) (if_used_up y) false)
    used y e f u =
        let empty : is_empty y.left_over.sides && is_empty y.left_over.values ≡ true = ap (λ (z : Supply). is_empty z.sides && is_empty z.values) u in
        let some : if_used_up y ≡ Some y = ap (λ b. if b then Some y else None) empty in
        subst (λ o. IsTrue (option_map_or (λ (z : Part). list_eq literal_eq z.literals x.literals && list_all (gamma_is_allowed P) z.gammas) o false)) (sym some)
        (and_from (list_eq literal_eq y.literals x.literals) (list_all (gamma_is_allowed P) y.gammas) ((list_eq-tells literal_eq literal_eq-tells y.literals x.literals).1 e) (ap (λ gs. list_all (gamma_is_allowed P) gs) f))
