-- What is told of the names of a term tells the leaves of the term.
use Rattle.std.proofs.Common.{◌≡◌, ℕ, ◌+◌, ◌-◌, ◌<◌, ◌≤◌, ◌||◌, ◌&&◌, ◌⊎◌, inl, inr, if◌then◌else◌, Bool, true, false, not, List, [], ◌∷◌, ◌++◌, length, get_or, nat_eq, nat_lt, is_some, Option, None, Some, IsTrue, refl, sym, ◌∙◌, ap, subst, arith}
use Rattle.std.specs.List.{AllByRecursion, list_any}
use Rattle.std.specs.Option.{option_map_or}
use Rattle.std.proofs.lemmas.Bool.{cases_lt, false≢true}
use Rattle.std.proofs.lemmas.Bool.Decides.{nat_tests}
use Rattle.std.proofs.lemmas.List.{length-append, get_or_append_left, get_or_push}
use Rattle.indexmap.specs.IndexMap.{get}
use Rattle.indexmap.specs.IndexSet.{insert_key}
use Rattle.plain_laws.proofs.Booleans.{or_false}
use Rattle.calculus.proofs.EqualityLaws.{nat_eq-tells}
use Rattle.calculus.specs.Calculus.{holds_character}
use Rattle.calculus.specs.Derivations.{Home, anywhere, home_at, Label, Mark, Names}
use Rattle.calculus.specs.Substitution.{any_leaf, any_leaf_of}
use Rattle.calculus.specs.Syntax.{Problem, Term, Terms, var, fun, eigen, spare, no_terms, more_terms}
use Rattle.derivation_branch.proofs.GrowthLaws.{any-append}
use Rattle.derivation_branch.specs.Occurring.{holds}
use Rattle.derivation_check.specs.HomesView.{AreHomes, IsEigenHome, IsFound, IsHomeOfSpare, IsSpareHome, is_forbidden_at, is_in_home_at, is_place_allowed, is_unknown_at, place_holds}
use Rattle.calculus.specs.Versions.{is_among, numbered}
use Rattle.derivation_check.proofs.ArgumentLaws.{among-parts, number-read}
use Rattle.derivation_check.specs.StateView.{IsLater}
use Rattle.derivation_check.specs.declared.state.State.{State}
use Rattle.derivation_check.specs.NamesTold.{AreFirstNamed, AreFoundIn, AreNamed, AreNamesOf, HomeTest, any_found, any_told, asks_unknown, at_place, by_home, forbids, has_character, is_past}
use Rattle.derivation_check.specs.declared.homes.Homes.{Homes}
use Rattle.derivation_check.specs.declared.homes.Place.{Place}
use Rattle.derivation_check.specs.declared.homes.Place.TheVariants.{Anywhere, At}
use Rattle.derivation_check.specs.declared.term_names.FoundNames.{FoundNames}
use Rattle.derivation_check.specs.declared.term_names.TermNames.{TermNames}

-- ---- a number is put into a set

has-passes : (test : ℕ → Bool) (ks : List ℕ) (n : ℕ) → list_any (nat_eq n) ks ≡ true → list_any test ks ≡ (list_any test ks || test n)
has-passes test [] n h = absurd (false≢true h)
has-passes test (k ∷ ks) n h = by (nat_eq n k) refl h (has-passes test ks n)
  where
    first : (a b : Bool) → (a || b) ≡ ((a || b) || a)
    first true b = refl
    first false true = refl
    first false false = refl

    later : (a b c : Bool) → b ≡ (b || c) → (a || b) ≡ ((a || b) || c)
    later true b c e = refl
    later false b c e = e

    by : (b : Bool) → nat_eq n k ≡ b → (b || list_any (nat_eq n) ks) ≡ true → (list_any (nat_eq n) ks ≡ true → list_any test ks ≡ (list_any test ks || test n)) → (test k || list_any test ks) ≡ ((test k || list_any test ks) || test n)
    by true e h rest = first (test k) (list_any test ks) ∙ ap (λ j. (test k || list_any test ks) || test j) (sym ((nat_eq-tells n k).0 e))
    by false e h rest = later (test k) (list_any test ks) (test n) (rest h)

pub any-inserted : (ks after : List ℕ) (n : ℕ) → after ≡ insert_key nat_eq ks n → (test : ℕ → Bool) → list_any test after ≡ (list_any test ks || test n)
any-inserted ks after n e test = ap (list_any test) e ∙ by (list_any (nat_eq n) ks) refl
  where
    by : (b : Bool) → list_any (nat_eq n) ks ≡ b → list_any test (if b then ks else ks ++ n ∷ []) ≡ (list_any test ks || test n)
    by true h = has-passes test ks n h
    by false h = any-append test ks (n ∷ []) ∙ ap (λ b. list_any test ks || b) (or_false (test n))

-- ---- a leaf is told

-- what is found is told
pub found-told : (homes : Homes) (t : Term) (x : FoundNames) (y : TermNames) → AreFoundIn homes t x → y.eigens.items ≡ x.eigens.keys → y.places.items ≡ x.places.keys → y.has_variable ≡ x.has_variable → y.has_unknown ≡ x.has_unknown → y.has_anywhere ≡ x.has_anywhere → AreNamesOf homes t y
found-told homes t x y h e p v u a = record {
  eigen = λ n. h.eigen n ∙ ap (λ ks. holds ks n) (sym e);
  home = λ test. h.home test ∙ (λ i. (sym v i && test.variable) || ((sym u i && test.unknown) || ((sym a i && test.anywhere) || list_any test.at (sym p i))));
}

-- ---- the tests that the rules make

mutual
  pub leaves-same : (f g : Term → Bool) → ((t : Term) → f t ≡ g t) → (t : Term) → any_leaf f t ≡ any_leaf g t
  leaves-same f g same (var k) = same (var k)
  leaves-same f g same (fun h us) = all-leaves-same f g same us
  leaves-same f g same (eigen n) = same (eigen n)
  leaves-same f g same (spare n) = same (spare n)

  all-leaves-same : (f g : Term → Bool) → ((t : Term) → f t ≡ g t) → (us : Terms) → any_leaf_of f us ≡ any_leaf_of g us
  all-leaves-same f g same no_terms = refl
  all-leaves-same f g same (more_terms u us) = λ i. leaves-same f g same u i || all-leaves-same f g same us i

options-same : {A : Type 0} (o : Option A) (f g : A → Bool) (d : Bool) → ((a : A) → f a ≡ g a) → option_map_or f o d ≡ option_map_or g o d
options-same None f g d same = refl
options-same (Some a) f g d same = same a

forbidden-leaf : (P : Problem) (labels : List Label) (homes : Homes) (v : Label) (t : Term) → is_forbidden_at P labels homes v t ≡ by_home homes (forbids P labels v) t
forbidden-leaf P labels homes v (var k) = refl
forbidden-leaf P labels homes v (fun f us) = refl
forbidden-leaf P labels homes v (eigen n) = refl
forbidden-leaf P labels homes v (spare n) = options-same (get nat_eq homes.spares n) (λ p. not (is_place_allowed P labels p v)) (at_place (forbids P labels v)) true at_each
  where
    at_each : (p : Place) → not (is_place_allowed P labels p v) ≡ at_place (forbids P labels v) p
    at_each Anywhere = refl
    at_each (At k) = refl

none-found : {A : Type 0} (o : Option A) (test : A → Bool) → ((a : A) → test a ≡ false) → not (is_some o) ≡ option_map_or test o true
none-found None test none = refl
none-found (Some a) test none = sym (none a)

unknown-leaf : (homes : Homes) (t : Term) → is_unknown_at homes t ≡ by_home homes asks_unknown t
unknown-leaf homes (var k) = refl
unknown-leaf homes (fun f us) = refl
unknown-leaf homes (eigen n) = none-found (get nat_eq homes.eigens n) (λ k. false) (λ k. refl)
unknown-leaf homes (spare n) = none-found (get nat_eq homes.spares n) (at_place asks_unknown) at_each
  where
    at_each : (p : Place) → at_place asks_unknown p ≡ false
    at_each Anywhere = refl
    at_each (At k) = refl

home-leaf : (labels : List Label) (homes : Homes) (m : Mark) (t : Term) → is_in_home_at labels homes m t ≡ by_home homes (has_character labels m) t
home-leaf labels homes m (var k) = refl
home-leaf labels homes m (fun f us) = refl
home-leaf labels homes m (eigen n) = refl
home-leaf labels homes m (spare n) = options-same (get nat_eq homes.spares n) (place_holds labels m) (at_place (has_character labels m)) false at_each
  where
    at_each : (p : Place) → place_holds labels m p ≡ at_place (has_character labels m) p
    at_each Anywhere = refl
    at_each (At k) = refl

-- ---- what is told answers them

none-passes : (ks : List ℕ) → list_any (λ k. false) ks ≡ false
none-passes [] = refl
none-passes (k ∷ ks) = none-passes ks

only-unknown : (v u a l : Bool) → l ≡ false → ((v && false) || ((u && true) || ((a && false) || l))) ≡ u
only-unknown true true a l e = refl
only-unknown false true a l e = refl
only-unknown true false true l e = e
only-unknown true false false l e = e
only-unknown false false true l e = e
only-unknown false false false l e = e

only-places : (v u a l : Bool) → ((v && false) || ((u && false) || ((a && false) || l))) ≡ l
only-places true true true l = refl
only-places true true false l = refl
only-places true false true l = refl
only-places true false false l = refl
only-places false true true l = refl
only-places false true false l = refl
only-places false false true l = refl
only-places false false false l = refl

pub unknown-of : (homes : Homes) (t : Term) (x : TermNames) → AreNamesOf homes t x → any_leaf (is_unknown_at homes) t ≡ x.has_unknown
unknown-of homes t x h =
    leaves-same (is_unknown_at homes) (by_home homes asks_unknown) (unknown-leaf homes) t ∙ h.home asks_unknown
    ∙ only-unknown x.has_variable x.has_unknown x.has_anywhere (list_any (λ k. false) x.places.items) (none-passes x.places.items)

pub forbidden-of : (P : Problem) (labels : List Label) (homes : Homes) (v : Label) (t : Term) (x : TermNames) → AreNamesOf homes t x → any_leaf (is_forbidden_at P labels homes v) t ≡ any_told (forbids P labels v) x
forbidden-of P labels homes v t x h = leaves-same (is_forbidden_at P labels homes v) (by_home homes (forbids P labels v)) (forbidden-leaf P labels homes v) t ∙ h.home (forbids P labels v)

pub homes-of : (labels : List Label) (homes : Homes) (m : Mark) (t : Term) (x : TermNames) → AreNamesOf homes t x → any_leaf (is_in_home_at labels homes m) t ≡ list_any (λ k. holds_character m (get_or labels k [])) x.places.items
homes-of labels homes m t x h =
    leaves-same (is_in_home_at labels homes m) (by_home homes (has_character labels m)) (home-leaf labels homes m) t ∙ h.home (has_character labels m)
    ∙ only-places x.has_variable x.has_unknown x.has_anywhere (list_any (λ k. holds_character m (get_or labels k [])) x.places.items)

-- ---- the places are within the table

mutual
  no-leaf : (f : Term → Bool) → ((t : Term) → f t ≡ false) → (t : Term) → any_leaf f t ≡ false
  no-leaf f none (var k) = none (var k)
  no-leaf f none (fun h us) = no-leaf-of f none us
  no-leaf f none (eigen n) = none (eigen n)
  no-leaf f none (spare n) = none (spare n)

  no-leaf-of : (f : Term → Bool) → ((t : Term) → f t ≡ false) → (us : Terms) → any_leaf_of f us ≡ false
  no-leaf-of f none no_terms = refl
  no-leaf-of f none (more_terms u us) = λ i. no-leaf f none u i || no-leaf-of f none us i

not-past : (k n : ℕ) → k < n → not (nat_lt k n) ≡ false
not-past k n lt = grind (arith, nat_tests)

found-within : {A B : Type 0} (R : A → B → Type 0) (test : A → Bool) (o : Option A) (p : Option B) → ((a : A) (b : B) → R a b → test a ≡ false) → IsFound R o p → option_map_or test o false ≡ false
found-within R test None None each h = refl
found-within R test None (Some b) each h = absurd h
found-within R test (Some a) None each h = absurd h
found-within R test (Some a) (Some b) each h = each a b h

place-within : (labels : List Label) (p : Place) (w : Home) → IsSpareHome labels p w → at_place (is_past (length labels)) p ≡ false
place-within labels Anywhere w h = refl
place-within labels (At k) anywhere h = absurd h
place-within labels (At k) (home_at w) h = not-past k (length labels) h.0

leaf-within : (names : Names) (labels : List Label) (homes : Homes) → AreHomes names labels homes → (t : Term) → by_home homes (is_past (length labels)) t ≡ false
leaf-within names labels homes h (var k) = refl
leaf-within names labels homes h (fun f us) = refl
leaf-within names labels homes h (eigen n) = found-within (IsEigenHome labels) (λ k. not (nat_lt k (length labels))) _ _ (λ k b r. not-past k (length labels) r.0) (h.eigens n)
leaf-within names labels homes h (spare n) = found-within (IsHomeOfSpare labels) (at_place (is_past (length labels))) _ _ (λ p b r. place-within labels p b.home r) (h.spares n)

all-within : (n : ℕ) (ks : List ℕ) → list_any (λ k. not (nat_lt k n)) ks ≡ false → AllByRecursion (λ k. k < n) ks
all-within n [] e = tt
all-within n (k ∷ ks) e = by (not (nat_lt k n)) refl e (all-within n ks)
  where
    by : (b : Bool) → not (nat_lt k n) ≡ b → (b || list_any (λ j. not (nat_lt j n)) ks) ≡ false → (list_any (λ j. not (nat_lt j n)) ks ≡ false → AllByRecursion (λ j. j < n) ks) → (k < n) × AllByRecursion (λ j. j < n) ks
    by true q r rest = absurd (false≢true (sym r))
    by false q r rest = (grind (arith, nat_tests), rest r)

pub places-within : (names : Names) (labels : List Label) (homes : Homes) (t : Term) (x : TermNames) → AreHomes names labels homes → AreNamesOf homes t x → AllByRecursion (λ k. k < length labels) x.places.items
places-within names labels homes t x h told =
    all-within (length labels) x.places.items (sym (only-places x.has_variable x.has_unknown x.has_anywhere (list_any (λ k. not (nat_lt k (length labels))) x.places.items))
    ∙ sym (told.home (is_past (length labels))) ∙ no-leaf (by_home homes (is_past (length labels))) (leaf-within names labels homes h) t)

-- ---- what is told of each term

pub no-named : (homes : Homes) (terms : List Term) (told : List TermNames) → told ≡ [] → AreFirstNamed homes 0 terms told
no-named homes terms told none = record { count = ap length none; each = λ k x lt e. absurd (omega (arith, lt)) }

pub named-put : (homes : Homes) (n : ℕ) (terms : List Term) (told after : List TermNames) (t : Term) (x : TermNames) → AreFirstNamed homes n terms told → t ≡ get_or terms n (spare 0) → AreNamesOf homes t x → after ≡ told ++ x ∷ [] → AreFirstNamed homes (n + 1) terms after
named-put homes n terms told after t x h at names put =
    let size = ap length put ∙ length-append told (x ∷ []) in
    let count = h.count in
    record { count = omega (arith, count, size); each = λ k y less e. by k y less e (cases_lt k n) }
  where
    by : (k : ℕ) (y : TermNames) → k < n + 1 → y ≡ get_or after k y → (k < n) ⊎ (n ≤ k) → AreNamesOf homes (get_or terms k (spare 0)) y
    by k y less e (inl lt) = let count = h.count in h.each k y lt (e ∙ ap (λ l. get_or l k y) put ∙ get_or_append_left told (x ∷ []) y k (omega (arith, lt, count)))
    by k y less e (inr le) =
        let same : k ≡ n = omega (arith, less, le) in
        let count = h.count in
        let here = e ∙ ap (λ l. get_or l k y) put ∙ get_or_push told x y k (omega (arith, same, count)) in
        subst (λ z. AreNamesOf homes (get_or terms k (spare 0)) z) (sym here) (subst (λ u. AreNamesOf homes u x) (at ∙ ap (λ j. get_or terms j (spare 0)) (sym same)) names)

-- what is told of the term of a number stands at its place
pub argument-named : (homes : Homes) (terms : List Term) (told : List TermNames) (t : Term) (number place : ℕ) → AreNamed homes terms told → IsTrue (is_among (length terms) number) → place ≡ number - 1 → t ≡ numbered terms number (spare 0)
    → (place < length told) × ((x : TermNames) → x ≡ get_or told place x → AreNamesOf homes t x)
argument-named homes terms told t number place h among at is =
    let parts = among-parts (length terms) number among in
    let some = parts.0 in
    let most = parts.1 in
    let count = h.count in
    let lt : place < length terms = omega (arith, some, most, at) in (
      omega (arith, lt, count),
      λ x e. subst (λ u. AreNamesOf homes u x) (sym (is ∙ number-read terms number place (spare 0) (omega (arith, some, at)))) (h.each place x lt e),
    )

pub names-stay : (s t : State) (terms : List Term) → IsLater s t → AreNamed s.homes terms s.named.items → AreNamed t.homes terms t.named.items
names-stay s t terms same h = subst (λ xs. AreNamed t.homes terms xs.items) (sym same.named) (subst (λ hs. AreNamed hs terms s.named.items) (sym same.homes) h)
