-- Homes of names stay at their places when the table of labels grows.
use Rattle.std.proofs.Common.{◌≡◌, ℕ, ◌||◌, Bool, true, false, not, List, [], ◌∷◌, map, is_some, Option, None, Some, refl, ◌∙◌, ap, arith}
use Rattle.std.specs.Option.{option_map_or}
use Rattle.calculus.specs.Calculus.{holds_character, home_holds, is_forbidden, is_in_home, is_known, is_unknown, spare_allowed}
use Rattle.calculus.specs.Labels.{home_allows}
use Rattle.calculus.specs.Substitution.{any_leaf, any_leaf_of}
use Rattle.calculus.specs.Syntax.{Problem, Term, Terms, var, fun, eigen, spare, no_terms, more_terms}
use Rattle.calculus.specs.Derivations.{character_eq, Label, Mark, EigenName, SpareName, Names, Home, anywhere, home_at, TermArg, no_term, by_term, by_name}
use Rattle.label_table.specs.Longer.{IsLonger}
use Rattle.derivation_branch.specs.Occurring.{in_argument}
use Rattle.label_table.specs.LabelTable.{IsLabelAt}
use Rattle.label_table.proofs.TableLaws.{longer-at, longer-size}
use Rattle.derivation_check.specs.HomesView.{AreHomes, IsEigenHome, IsFound, IsHomeOfSpare, IsSpareHome, is_forbidden_at, is_in_home_at, is_known_at, is_place_allowed, is_unknown_at, place_holds}
use Rattle.derivation_check.specs.declared.homes.Homes.{Homes}
use Rattle.derivation_check.specs.declared.homes.Place.{Place}
use Rattle.derivation_check.specs.declared.homes.Place.TheVariants.{Anywhere, At}

label-longer : (labels more : List Label) (k : ℕ) (w : Label) → IsLonger labels more → IsLabelAt labels k w → IsLabelAt more k w
label-longer labels more k w long h =
    let size = longer-size labels more long in
    let lt = h.0 in
    (omega (arith, size, lt), longer-at labels more k [] long lt ∙ h.1)

eigen-longer : (labels more : List Label) → IsLonger labels more → (k : ℕ) (x : EigenName) → IsEigenHome labels k x → IsEigenHome more k x
eigen-longer labels more long k x h = label-longer labels more k x.home long h

place-longer : (labels more : List Label) → IsLonger labels more → (p : Place) (h : Home) → IsSpareHome labels p h → IsSpareHome more p h
place-longer labels more long Anywhere anywhere g = g
place-longer labels more long Anywhere (home_at w) g = g
place-longer labels more long (At k) anywhere g = g
place-longer labels more long (At k) (home_at w) g = label-longer labels more k w long g

spare-longer : (labels more : List Label) → IsLonger labels more → (p : Place) (x : SpareName) → IsHomeOfSpare labels p x → IsHomeOfSpare more p x
spare-longer labels more long p x h = place-longer labels more long p x.home h

module _ {A B : Type 0} (R Q : A → B → Type 0) (follows : (a : A) (b : B) → R a b → Q a b) where
  found-longer : (o : Option A) (p : Option B) → IsFound R o p → IsFound Q o p
  found-longer None None h = tt
  found-longer None (Some b) h = h
  found-longer (Some a) None h = h
  found-longer (Some a) (Some b) h = follows a b h

pub homes-longer : (names : Names) (labels more : List Label) (homes : Homes) → IsLonger labels more → AreHomes names labels homes → AreHomes names more homes
homes-longer names labels more homes long h = record {
  eigens = λ n. found-longer (IsEigenHome labels) (IsEigenHome more) (eigen-longer labels more long) _ _ (h.eigens n);
  spares = λ n. found-longer (IsHomeOfSpare labels) (IsHomeOfSpare more) (spare-longer labels more long) _ _ (h.spares n);
}

pub map-twice : {A B C : Type 0} (g : B → C) (f : A → B) (xs : List A) → map g (map f xs) ≡ map (λ x. g (f x)) xs
map-twice g f [] = refl
map-twice g f (x ∷ xs) = ap (λ l. g (f x) ∷ l) (map-twice g f xs)

-- ---- leaves of terms

found-same : {A B : Type 0} (R : A → B → Type 0) (o : Option A) (p : Option B) (f : A → Bool) (g : B → Bool) (d : Bool) → IsFound R o p → ((a : A) (b : B) → R a b → f a ≡ g b) → option_map_or f o d ≡ option_map_or g p d
found-same R None None f g d h same = refl
found-same R None (Some b) f g d h same = absurd h
found-same R (Some a) None f g d h same = absurd h
found-same R (Some a) (Some b) f g d h same = same a b h

place-same : (P : Problem) (labels : List Label) (v : Label) (p : Place) (h : Home) → IsSpareHome labels p h → is_place_allowed P labels p v ≡ spare_allowed P h v
place-same P labels v Anywhere anywhere g = refl
place-same P labels v Anywhere (home_at w) g = absurd g
place-same P labels v (At k) anywhere g = absurd g
place-same P labels v (At k) (home_at w) g = ap (λ u. home_allows character_eq P.setting.domains u v) g.1

module _ (P : Problem) (names : Names) (labels : List Label) (homes : Homes) (v : Label) (h : AreHomes names labels homes) where
  mutual
    forbidden-same : (t : Term) → any_leaf (is_forbidden_at P labels homes v) t ≡ any_leaf (is_forbidden P names v) t
    forbidden-same (var k) = refl
    forbidden-same (fun f us) = all-forbidden-same us
    forbidden-same (eigen n) = found-same (IsEigenHome labels) _ _ _ _ true (h.eigens n) (λ k x g. ap (λ u. not (home_allows character_eq P.setting.domains u v)) g.1)
    forbidden-same (spare n) = found-same (IsHomeOfSpare labels) _ _ _ _ true (h.spares n) (λ p x g. ap not (place-same P labels v p x.home g))

    all-forbidden-same : (us : Terms) → any_leaf_of (is_forbidden_at P labels homes v) us ≡ any_leaf_of (is_forbidden P names v) us
    all-forbidden-same no_terms = refl
    all-forbidden-same (more_terms u us) = λ i. forbidden-same u i || all-forbidden-same us i

  pub allowed-told : (t : Term) (r : Bool) → r ≡ any_leaf (is_forbidden_at P labels homes v) t → not r ≡ not (any_leaf (is_forbidden P names v) t)
  allowed-told t r e = ap not (e ∙ forbidden-same t)

-- ---- listed names

found-some : {A B : Type 0} (R : A → B → Type 0) (o : Option A) (p : Option B) → IsFound R o p → not (is_some o) ≡ not (is_some p)
found-some R None None h = refl
found-some R None (Some b) h = absurd h
found-some R (Some a) None h = absurd h
found-some R (Some a) (Some b) h = refl

module _ (names : Names) (labels : List Label) (homes : Homes) (h : AreHomes names labels homes) where
  mutual
    unknown-same : (t : Term) → any_leaf (is_unknown_at homes) t ≡ any_leaf (is_unknown names) t
    unknown-same (var k) = refl
    unknown-same (fun f us) = all-unknown-same us
    unknown-same (eigen n) = found-some (IsEigenHome labels) _ _ (h.eigens n)
    unknown-same (spare n) = found-some (IsHomeOfSpare labels) _ _ (h.spares n)

    all-unknown-same : (us : Terms) → any_leaf_of (is_unknown_at homes) us ≡ any_leaf_of (is_unknown names) us
    all-unknown-same no_terms = refl
    all-unknown-same (more_terms u us) = λ i. unknown-same u i || all-unknown-same us i

  pub known-told : (t : TermArg) (r : Bool) → r ≡ is_known_at homes t → r ≡ is_known names t
  known-told no_term r e = e
  known-told (by_term t) r e = e ∙ ap not (unknown-same t)
  known-told (by_name n) r e = e ∙ ap not (unknown-same (eigen n))

-- ---- characters in homes

place-holds-same : (labels : List Label) (m : Mark) (p : Place) (x : Home) → IsSpareHome labels p x → place_holds labels m p ≡ home_holds m x
place-holds-same labels m Anywhere anywhere g = refl
place-holds-same labels m Anywhere (home_at w) g = absurd g
place-holds-same labels m (At k) anywhere g = absurd g
place-holds-same labels m (At k) (home_at w) g = ap (holds_character m) g.1

module _ (names : Names) (labels : List Label) (homes : Homes) (m : Mark) (h : AreHomes names labels homes) where
  mutual
    home-same : (t : Term) → any_leaf (is_in_home_at labels homes m) t ≡ any_leaf (is_in_home names m) t
    home-same (var k) = refl
    home-same (fun f us) = all-homes-same us
    home-same (eigen n) = found-same (IsEigenHome labels) _ _ _ _ false (h.eigens n) (λ k x g. ap (holds_character m) g.1)
    home-same (spare n) = found-same (IsHomeOfSpare labels) _ _ _ _ false (h.spares n) (λ p x g. place-holds-same labels m p x.home g)

    all-homes-same : (us : Terms) → any_leaf_of (is_in_home_at labels homes m) us ≡ any_leaf_of (is_in_home names m) us
    all-homes-same no_terms = refl
    all-homes-same (more_terms u us) = λ i. home-same u i || all-homes-same us i

  pub argument-same : (t : TermArg) → in_argument (is_in_home_at labels homes m) t ≡ in_argument (is_in_home names m) t
  argument-same no_term = refl
  argument-same (by_term t) = home-same t
  argument-same (by_name n) = home-same (eigen n)
