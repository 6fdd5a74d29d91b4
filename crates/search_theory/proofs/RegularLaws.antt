-- Where two goals of a branch are the same under the bindings, each tree that the state stands for is irregular.
use Rattle.std.proofs.Common.{◌≡◌, ℕ, zero, suc, List, [], ◌∷◌, map, Bool, true, false, not, ◌&&◌, ◌||◌, IsTrue, refl, sym, ◌∙◌, ap, subst, Some, slice_get}
use Rattle.std.specs.List.{list_all, list_any, AllByRecursion}
use Rattle.std.proofs.lemmas.Bool.{false≢true}
use Rattle.plain_laws.proofs.Places.{map-there}
use Rattle.calculus.specs.Syntax.{Problem}
use Rattle.calculus.specs.Ground.{GroundLiteral}
use Rattle.calculus.specs.Equality.{literal_eq}
use Rattle.calculus.specs.Tableaux.{is_new_on}
use Rattle.calculus.specs.Choices.{Goal, is_regular}
use Rattle.store_theory.specs.Stores.{Store, is_store, Solution, Solves}
use Rattle.store_theory.specs.Systems.{CellAtom}
use Rattle.calculus.proofs.EqualityLaws.{literal_eq-tells}
use Rattle.search_theory.specs.States.{State, literal_by, goal_at, growth_at}
use Rattle.search_theory.specs.Regular.{HasSamePair, is_classical_store}
use Rattle.search_theory.proofs.SpareLaws.{IsRanked}

-- ---- what a store of the classical search keeps, with ranks that show that it has no cycle

pub record IsClassicalStore (P : Problem) (base : ℕ) (s : Store) (rank : ℕ → ℕ) (bound : ℕ) : Type 0 where
  pub store : IsTrue (is_store s)
  pub classical : IsTrue (is_classical_store P base s)
  pub ranked : IsRanked s rank bound

-- ---- regular trees

pub not-any : (b : Bool) → (IsTrue b → ⊥) → not b ≡ true
not-any true h = absurd (h refl)
not-any false h = refl

-- an atom of a list with this image
abbrev pub HasImage : Solution → GroundLiteral → List CellAtom → Type 0
HasImage σ x atoms = (j : ℕ) × (a : CellAtom) × (slice_get atoms j ≡ Some a) × (x ≡ literal_by σ a)

pub any-of : (σ : Solution) (x : GroundLiteral) (atoms : List CellAtom) → IsTrue (list_any (literal_eq x) (map (literal_by σ) atoms)) → HasImage σ x atoms
any-of σ x [] h = absurd (false≢true h)
any-of σ x (a ∷ rest) h = by (literal_eq x (literal_by σ a)) refl (λ k. any-of σ x rest k) h
  where
    later : HasImage σ x rest → HasImage σ x (a ∷ rest)
    later (j, b, e, f) = (suc j, b, e, f)

    by : (t : Bool) → literal_eq x (literal_by σ a) ≡ t → (IsTrue (list_any (literal_eq x) (map (literal_by σ) rest)) → HasImage σ x rest) → IsTrue (t || list_any (literal_eq x) (map (literal_by σ) rest)) → HasImage σ x (a ∷ rest)
    by true e ih k = (0, a, refl, (literal_eq-tells x (literal_by σ a)).0 e)
    by false e ih k = later (ih k)

pub each-at : {A : Type 0} (Q : A → Type 0) (xs : List A) (j : ℕ) (x : A) → AllByRecursion Q xs → slice_get xs j ≡ Some x → Q x
each-at Q [] j x h e = cc e
each-at Q (y ∷ ys) zero x h e = let q : y ≡ x = cc e in subst Q q h.0
each-at Q (y ∷ ys) (suc j) x h e = each-at Q ys j x h.1 e

-- ---- irregular trees

-- an item that is the same as one of the list
pub any-there : (x : GroundLiteral) (xs : List GroundLiteral) (j : ℕ) (y : GroundLiteral) → slice_get xs j ≡ Some y → x ≡ y → IsTrue (list_any (literal_eq x) xs)
any-there x [] j y e f = cc e
any-there x (z ∷ zs) zero y e f = let q : z ≡ y = cc e in or-left (literal_eq x z) (list_any (literal_eq x) zs) ((literal_eq-tells x z).1 (f ∙ sym q))
  where
    or-left : (a b : Bool) → a ≡ true → (a || b) ≡ true
    or-left true b k = refl
    or-left false b k = absurd (false≢true k)
any-there x (z ∷ zs) (suc j) y e f = or-right (literal_eq x z) (list_any (literal_eq x) zs) (any-there x zs j y e f)
  where
    or-right : (a b : Bool) → b ≡ true → (a || b) ≡ true
    or-right true b k = refl
    or-right false b k = k

pub not-all : {A : Type 0} (p : A → Bool) (xs : List A) (i : ℕ) (x : A) → slice_get xs i ≡ Some x → p x ≡ false → list_all p xs ≡ false
not-all p [] i x e f = cc e
not-all p (y ∷ ys) zero x e f = let q : y ≡ x = cc e in and-left (p y) (list_all p ys) (ap p q ∙ f)
  where
    and-left : (a b : Bool) → a ≡ false → (a && b) ≡ false
    and-left true b k = absurd (false≢true (sym k))
    and-left false b k = refl
not-all p (y ∷ ys) (suc i) x e f = and-right (p y) (list_all p ys) (not-all p ys i x e f)
  where
    and-right : (a b : Bool) → b ≡ false → (a && b) ≡ false
    and-right true b k = k
    and-right false b k = refl

-- each image of a state with a same pair is irregular
pub irregular-same : (S : State) → HasSamePair S → (τ : Solution) → Solves S.store τ → is_regular (growth_at τ S.growth) ≡ false
irregular-same S (i, j, g, a, at_i, at_j, same) τ t =
    not-all (λ (x : Goal). is_new_on x.path x.literal) (map (goal_at τ) S.growth.all_goals) i (goal_at τ g) (map-there (goal_at τ) S.growth.all_goals i g at_i)
    (ap not (any-there (literal_by τ g.literal) (map (literal_by τ) g.path) j (literal_by τ a) (map-there (literal_by τ) g.path j a at_j) (same τ t)))
