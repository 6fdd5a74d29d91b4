-- What the conditions on a finite structure say of its worlds, successors, domains and functions one by one.
use Rattle.std.proofs.Common.{◌≡◌, ℕ, zero, suc, ◌+◌, ◌<◌, List, [], ◌∷◌, length, map, Bool, true, ◌&&◌, ◌==◌, IsTrue, refl, sym, ◌∙◌, subst, inl, inr, arith, eqb-true, eq-eqb, nat_lt, if◌then◌else◌}
use Rattle.std.specs.List.{list_all, list_any, flat_map}
use Rattle.std.proofs.lemmas.Bool.{false≢true, and_parts, or_cases, or_left, ltb-true}
use Rattle.std.proofs.lemmas.List.Folds.{list_all-append, list_all-map}
use Rattle.calculus.specs.declared.setting.Logic.TheVariants.{S5}
use Rattle.calculus.specs.declared.setting.Domains.TheVariants.{Constant, Cumulative}
use Rattle.calculus.specs.Syntax.{Symbol, Problem}
use Rattle.calculus.specs.Equality.{contains}
use Rattle.calculus.specs.Skolem.{is_function, has_function, is_constant_symbol}
use Rattle.calculus.specs.Structures.{Structure, list_at, successors_of, domain_of, function_value, worlds, includes, tuples, has_element, is_reflexive, is_transitive_relation, relation_fits, domains_fit, keeps_domains, are_tables, functions_fit, persistence_fits, is_in_range, is_structure}
use Rattle.calculus.proofs.MemberLaws.{all-contained, all-numbers}

abbrev pub IsWorld : Structure → ℕ → Type 0
IsWorld S w = IsTrue (nat_lt w (length S.successors))

-- v is a successor of w
abbrev pub Reaches : Structure → ℕ → ℕ → Type 0
Reaches S w v = IsTrue (contains (successors_of S w) v)

-- x lies in the domain of w
abbrev pub IsIn : Structure → ℕ → ℕ → Type 0
IsIn S w x = IsTrue (contains (domain_of S w) x)

-- ---- the conditions one by one

pub record Conditions (P : Problem) (S : Structure) : Type 0 where
  pub in_range : IsTrue (is_in_range S)
  pub inhabited : IsTrue (list_all has_element S.domains)
  pub relation : IsTrue (relation_fits P.setting.logic S)
  pub domains : IsTrue (domains_fit P.setting.domains S)
  pub functions : IsTrue (functions_fit S 0 P.symbols)

pub conditions : (P : Problem) (S : Structure) → IsTrue (is_structure P S) → Conditions P S
conditions P S h =
    let f = and_parts (is_in_range S && are_tables S P.symbols S.meanings && list_all has_element S.domains && relation_fits P.setting.logic S && domains_fit P.setting.domains S && functions_fit S 0 P.symbols) (persistence_fits P.setting.logic S P.symbols) h in
    let e = and_parts (is_in_range S && are_tables S P.symbols S.meanings && list_all has_element S.domains && relation_fits P.setting.logic S && domains_fit P.setting.domains S) (functions_fit S 0 P.symbols) f.0 in
    let d = and_parts (is_in_range S && are_tables S P.symbols S.meanings && list_all has_element S.domains && relation_fits P.setting.logic S) (domains_fit P.setting.domains S) e.0 in
    let c = and_parts (is_in_range S && are_tables S P.symbols S.meanings && list_all has_element S.domains) (relation_fits P.setting.logic S) d.0 in
    let b = and_parts (is_in_range S && are_tables S P.symbols S.meanings) (list_all has_element S.domains) c.0 in
    let a = and_parts (is_in_range S) (are_tables S P.symbols S.meanings) b.0 in
    record { in_range = a.0; inhabited = b.1; relation = c.1; domains = d.1; functions = e.1 }

pub record Range (S : Structure) : Type 0 where
  pub root : IsWorld S 0
  pub a_domain_each : length S.domains ≡ length S.successors
  pub successors : list_all (λ vs. list_all (λ v. nat_lt v (length S.successors)) vs) S.successors ≡ true

pub range_of : (S : Structure) → IsTrue (is_in_range S) → Range S
range_of S h =
    let c = and_parts (nat_lt 0 (length S.successors) && length S.domains == length S.successors && list_all (λ vs. list_all (λ v. nat_lt v (length S.successors)) vs) S.successors) (list_all (λ xs. list_all (λ x. nat_lt x S.elements) xs) S.domains) h in
    let b = and_parts (nat_lt 0 (length S.successors) && length S.domains == length S.successors) (list_all (λ vs. list_all (λ v. nat_lt v (length S.successors)) vs) S.successors) c.0 in
    let a = and_parts (nat_lt 0 (length S.successors)) (length S.domains == length S.successors) b.0 in
    record { root = a.0; a_domain_each = eqb-true (length S.domains) (length S.successors) a.1; successors = b.1 }

-- ---- lists of a world

-- what holds of each list and of the empty one holds of that at any place
at-each : (p : List ℕ → Bool) (xs : List (List ℕ)) → list_all p xs ≡ true → p [] ≡ true → (k : ℕ) → p (list_at xs k) ≡ true
at-each p [] h e k = e
at-each p (x ∷ xs) h e zero = (and_parts (p x) (list_all p xs) h).0
at-each p (x ∷ xs) h e (suc k) = at-each p xs (and_parts (p x) (list_all p xs) h).1 e k

-- what holds of each list holds of that at a place of the list
at-place : (p : List ℕ → Bool) (xs : List (List ℕ)) → list_all p xs ≡ true → (k : ℕ) → k < length xs → p (list_at xs k) ≡ true
at-place p [] h k less = absurd (omega arith)
at-place p (x ∷ xs) h zero less = (and_parts (p x) (list_all p xs) h).0
at-place p (x ∷ xs) h (suc k) less = at-place p xs (and_parts (p x) (list_all p xs) h).1 k (omega arith)

pub each-world : (S : Structure) (p : ℕ → Bool) → list_all p (worlds S) ≡ true → (w : ℕ) → IsWorld S w → p w ≡ true
each-world S p h w world =
    let e : 0 + w ≡ w = omega arith in
    subst (λ z. p z ≡ true) e (all-numbers p 0 (length S.successors) w h (ltb-true w (length S.successors) world))

-- ---- successors

pub successor-world : (S : Structure) → Range S → (w v : ℕ) → Reaches S w v → IsWorld S v
successor-world S r w v h = all-contained (λ u. nat_lt u (length S.successors)) (successors_of S w) v (at-each (λ vs. list_all (λ u. nat_lt u (length S.successors)) vs) S.successors r.successors refl w) h

world-included : (S : Structure) (xs : List ℕ) (w : ℕ) → IsWorld S w → includes xs (worlds S) ≡ true → contains xs w ≡ true
world-included S xs w world h = each-world S (contains xs) h w world

pub included : (xs ys : List ℕ) (x : ℕ) → includes xs ys ≡ true → contains ys x ≡ true → contains xs x ≡ true
included xs ys x h m = all-contained (contains xs) ys x h m

pub reaches-itself : (S : Structure) → IsTrue (is_reflexive S) → (w : ℕ) → IsWorld S w → Reaches S w w
reaches-itself S h w world = each-world S (λ v. contains (successors_of S v) v) h w world

pub reaches-on : (S : Structure) → IsTrue (is_transitive_relation S) → (w v u : ℕ) → IsWorld S w → Reaches S w v → Reaches S v u → Reaches S w u
reaches-on S h w v u world a b = included (successors_of S w) (successors_of S v) u (all-contained (λ x. includes (successors_of S w) (successors_of S x)) (successors_of S w) v (each-world S (λ y. list_all (λ x. includes (successors_of S y) (successors_of S x)) (successors_of S y)) h w world) a) b

pub reaches-each : (S : Structure) → IsTrue (relation_fits S5 S) → (w v : ℕ) → IsWorld S w → IsWorld S v → Reaches S w v
reaches-each S h w v from here = world-included S (successors_of S w) v here (each-world S (λ x. includes (successors_of S x) (worlds S)) h w from)

-- ---- a successor of each world: in D the first one, else the world itself

abbrev pub first_of_list : List ℕ → ℕ
first_of_list [] = 0
first_of_list (x ∷ xs) = x

pub first-contained : (xs : List ℕ) → has_element xs ≡ true → contains xs (first_of_list xs) ≡ true
first-contained [] h = absurd (false≢true h)
first-contained (x ∷ xs) h = or_left (x == x) (contains xs x) (eq-eqb x x refl)

-- ---- domains

abbrev pub first_element : Structure → ℕ → ℕ
first_element S w = first_of_list (domain_of S w)

pub first-element-in : (P : Problem) (S : Structure) → Conditions P S → (w : ℕ) → IsWorld S w → IsIn S w (first_element S w)
first-element-in P S c w world =
    let r = range_of S c.in_range in
    let less : w < length S.domains = subst (λ n. w < n) (sym r.a_domain_each) (ltb-true w (length S.successors) world) in
    first-contained (domain_of S w) (at-place has_element S.domains c.inhabited w less)

at-root : (S : Structure) → IsTrue (domains_fit Constant S) → (w : ℕ) → IsWorld S w → (includes (domain_of S w) (domain_of S 0) ≡ true) × (includes (domain_of S 0) (domain_of S w) ≡ true)
at-root S h w world = and_parts (includes (domain_of S w) (domain_of S 0)) (includes (domain_of S 0) (domain_of S w)) (each-world S (λ y. includes (domain_of S y) (domain_of S 0) && includes (domain_of S 0) (domain_of S y)) h w world)

pub same-domain : (S : Structure) → IsTrue (domains_fit Constant S) → (w v x : ℕ) → IsWorld S w → IsWorld S v → IsIn S w x → IsIn S v x
same-domain S h w v x from here m = included (domain_of S v) (domain_of S 0) x (at-root S h v here).0 (included (domain_of S 0) (domain_of S w) x (at-root S h w from).1 m)

pub larger-domain : (S : Structure) → IsTrue (domains_fit Cumulative S) → (w v x : ℕ) → IsWorld S w → Reaches S w v → IsIn S w x → IsIn S v x
larger-domain S h w v x from step m = included (domain_of S v) (domain_of S w) x (all-contained (λ u. includes (domain_of S u) (domain_of S w)) (successors_of S w) v (each-world S (λ y. list_all (λ u. includes (domain_of S u) (domain_of S y)) (successors_of S y)) h w from) step) m

-- ---- functions keep each domain

abbrev pub AllIn : List ℕ → List ℕ → Type 0
AllIn domain [] = Unit {0}
AllIn domain (x ∷ xs) = IsTrue (contains domain x) × AllIn domain xs

-- what is true of each tuple is true of this one
all-tuples : (p : List ℕ → Bool) (domain xs : List ℕ) → AllIn domain xs → list_all p (tuples (length xs) domain) ≡ true → p xs ≡ true
all-tuples p domain [] m h = (and_parts (p []) true h).0
all-tuples p domain (x ∷ xs) m h = all-tuples (λ t. p (x ∷ t)) domain xs m.1 (by domain h m.0)
  where
    by : (ys : List ℕ) → list_all p (flat_map (λ y. map (λ t. y ∷ t) (tuples (length xs) domain)) ys) ≡ true → contains ys x ≡ true → list_all (λ t. p (x ∷ t)) (tuples (length xs) domain) ≡ true
    by [] g n = absurd (false≢true n)
    by (y ∷ ys) g n =
        let parts = and_parts (list_all p (map (λ t. y ∷ t) (tuples (length xs) domain))) (list_all p (flat_map (λ z. map (λ t. z ∷ t) (tuples (length xs) domain)) ys)) (sym (list_all-append p (map (λ t. y ∷ t) (tuples (length xs) domain)) (flat_map (λ z. map (λ t. z ∷ t) (tuples (length xs) domain)) ys)) ∙ g) in
        elim (or_cases (y == x) (contains ys x) n) [
          | inl e ↦ subst (λ z. list_all (λ t. p (z ∷ t)) (tuples (length xs) domain) ≡ true) (eqb-true y x e) (sym (list_all-map p (λ t. y ∷ t) (tuples (length xs) domain)) ∙ parts.0)
          | inr e ↦ by ys parts.1 e
        ]

kept-domains : (S : Structure) (k : ℕ) (ss : List Symbol) (f n : ℕ) → functions_fit S k ss ≡ true → has_function ss f n ≡ true → keeps_domains S (k + f) n ≡ true
kept-domains S k [] f n h e = absurd (false≢true e)
kept-domains S k (s ∷ ss) zero n h e =
    let class = and_parts (is_function s.class) (s.arity == n) e in
    let parts = and_parts (if is_function s.class then keeps_domains S k s.arity else true) (functions_fit S (suc k) ss) h in
    let kept : keeps_domains S k s.arity ≡ true = rw class.0 at parts.0 in
    let place : k ≡ k + 0 = omega arith in
    subst (λ m. keeps_domains S m n ≡ true) place (subst (λ m. keeps_domains S k m ≡ true) (eqb-true s.arity n class.1) kept)
kept-domains S k (s ∷ ss) (suc f) n h e =
    let parts = and_parts (if is_function s.class then keeps_domains S k s.arity else true) (functions_fit S (suc k) ss) h in
    let place : suc k + f ≡ k + suc f = omega arith in
    subst (λ m. keeps_domains S m n ≡ true) place (kept-domains S (suc k) ss f n parts.1 e)

-- the value of a function at elements of a domain lies there
pub value-in : (P : Problem) (S : Structure) → Conditions P S → (f : ℕ) (xs : List ℕ) → has_function P.symbols f (length xs) ≡ true → (w : ℕ) → IsWorld S w → AllIn (domain_of S w) xs → IsIn S w (function_value S f xs)
value-in P S c f xs h w world m =
    let place : 0 + f ≡ f = omega arith in
    let kept : keeps_domains S f (length xs) ≡ true = subst (λ k. keeps_domains S k (length xs) ≡ true) place (kept-domains S 0 P.symbols f (length xs) c.functions h) in
    all-tuples (λ ys. contains (domain_of S w) (function_value S f ys)) (domain_of S w) xs m (each-world S (λ v. list_all (λ ys. contains (domain_of S v) (function_value S f ys)) (tuples (length xs) (domain_of S v))) kept w world)

-- a problem with a constant has a place of one
pub constant-place : (ss : List Symbol) → list_any is_constant_symbol ss ≡ true → (f : ℕ) × (has_function ss f 0 ≡ true)
constant-place [] h = absurd (false≢true h)
constant-place (s ∷ ss) h = elim (or_cases (is_constant_symbol s) (list_any is_constant_symbol ss) h) [
  | inl e ↦ (0, e)
  | inr e ↦ let r = constant-place ss e in (suc r.0, r.1)
]
