-- Large terms that stand in the table of substitutions: their places while the table grows, and the state over a longer table.
use Rattle.std.proofs.Common.{◌≡◌, ℕ, ◌+◌, ◌-◌, ◌<◌, ◌≤◌, ◌||◌, ◌&&◌, ◌⊎◌, inl, inr, Bool, true, false, List, [], ◌∷◌, ◌++◌, length, get_or, map, nat_eq, Option, None, Some, IsTrue, refl, sym, ◌∙◌, ap, subst, arith}
use Rattle.std.specs.List.{list_any}
use Rattle.std.specs.Option.{option_map_or}
use Rattle.std.proofs.lemmas.Bool.{cases_lt}
use Rattle.std.proofs.lemmas.List.{length-append, get_or_append_left, get_or_push}
use Rattle.indexmap.specs.IndexMap.{get}
use Rattle.calculus.specs.Derivations.{Label, Names}
use Rattle.calculus.specs.Syntax.{Term, var, fun, eigen, spare}
use Rattle.calculus.specs.Versions.{is_among, numbered}
use Rattle.derivation_branch.specs.Putting.{IsClosed, is_var, value_at}
use Rattle.label_table.specs.Longer.{IsLonger}
use Rattle.label_table.proofs.TableLaws.{longer-at, longer-self, longer-size, pushed-at}
use Rattle.derivation_branch.proofs.SameLaws.{same-longer}
use Rattle.derivation_check.specs.NamesTold.{AreNamesOf, HomeTest, at_place, by_home}
use Rattle.derivation_check.specs.StateView.{AreKept, IsKept, the_sequent}
use Rattle.derivation_check.specs.OpenSequents.{sequents_of}
use Rattle.derivation_check.specs.TermsPut.{AreFirstPut, ArePut, IsPut}
use Rattle.derivation_check.specs.declared.homes.Homes.{Homes}
use Rattle.derivation_check.specs.declared.homes.Place.{Place}
use Rattle.derivation_check.specs.declared.homes.Place.TheVariants.{Anywhere, At}
use Rattle.derivation_check.specs.declared.open_sequents.BranchEntry.{BranchEntry}
use Rattle.derivation_check.specs.declared.state.State.{State}
use Rattle.derivation_check.specs.declared.term_names.TermNames.{TermNames}
use Rattle.derivation_check.proofs.ArgumentLaws.{among-parts, number-read}
use Rattle.derivation_check.proofs.Keeping.{kept-longer, sequent-longer, waiting-longer}
use Rattle.derivation_check.proofs.NamesLaws.{leaves-same}

-- ---- a term without variables

abbrev asks_variable : HomeTest
asks_variable = record { variable = true; unknown = false; anywhere = false; at = λ k. false }

none-asked : {A : Type 0} (o : Option A) (test : A → Bool) → ((a : A) → test a ≡ false) → false ≡ option_map_or test o false
none-asked None test none = refl
none-asked (Some a) test none = sym (none a)

variable-leaf : (homes : Homes) (t : Term) → is_var t ≡ by_home homes asks_variable t
variable-leaf homes (var k) = refl
variable-leaf homes (fun f us) = refl
variable-leaf homes (eigen n) = none-asked (get nat_eq homes.eigens n) (λ k. false) (λ k. refl)
variable-leaf homes (spare n) = none-asked (get nat_eq homes.spares n) (at_place asks_variable) at_each
  where
    at_each : (p : Place) → at_place asks_variable p ≡ false
    at_each Anywhere = refl
    at_each (At k) = refl

none-passes : (ks : List ℕ) → list_any (λ k. false) ks ≡ false
none-passes [] = refl
none-passes (k ∷ ks) = none-passes ks

only-variable : (v u a l : Bool) → l ≡ false → ((v && true) || ((u && false) || ((a && false) || l))) ≡ v
only-variable true u a l e = refl
only-variable false true true l e = e
only-variable false true false l e = e
only-variable false false true l e = e
only-variable false false false l e = e

pub closed-of : (homes : Homes) (t : Term) (x : TermNames) → AreNamesOf homes t x → x.has_variable ≡ false → IsClosed t
closed-of homes t x h none =
    leaves-same is_var (by_home homes asks_variable) (variable-leaf homes) t ∙ h.home asks_variable
    ∙ only-variable x.has_variable x.has_unknown x.has_anywhere (list_any (λ k. false) x.places.items) (none-passes x.places.items) ∙ none

-- ---- places of terms

pub put-longer : (table more : List (List Term)) (t : Term) (k : ℕ) → IsLonger table more → IsPut table t k → IsPut more t k
put-longer table more t k long h = λ some.
    let put = h some in
    let size = longer-size table more long in
    (omega (arith, put.0, size), ap (λ l. value_at l 0) (longer-at table more k [] long put.0) ∙ put.1)

pub put-first : (table more : List (List Term)) (t : Term) (k : ℕ) → k ≡ length table → more ≡ table ++ (t ∷ get_or table 0 []) ∷ [] → IsPut more t k
put-first table more t k place pushed = λ some. let at = pushed-at table more k (t ∷ get_or table 0 []) [] place pushed in (at.0, ap (λ l. value_at l 0) at.1)

pub puts-longer : (n : ℕ) (table more : List (List Term)) (terms : List Term) (places : List ℕ) → IsLonger table more → AreFirstPut n table terms places → AreFirstPut n more terms places
puts-longer n table more terms places long h = record { count = h.count; each = λ k lt. put-longer table more (get_or terms k (spare 0)) (get_or places k 0) long (h.each k lt) }

pub no-puts : (table : List (List Term)) (terms : List Term) (places : List ℕ) → places ≡ [] → AreFirstPut 0 table terms places
no-puts table terms places none = record { count = ap length none; each = λ k lt. absurd (omega (arith, lt)) }

-- the place of one term more
pub puts-next : (n p : ℕ) (table more : List (List Term)) (terms : List Term) (t : Term) (places after : List ℕ) → IsLonger table more → AreFirstPut n table terms places → t ≡ get_or terms n (spare 0) → IsPut more t p → after ≡ places ++ p ∷ [] → AreFirstPut (n + 1) more terms after
puts-next n p table more terms t places after long h at put pushed =
    let count = h.count in
    let size = ap length pushed ∙ length-append places (p ∷ []) in
    record { count = omega (arith, count, size); each = λ k less. by k less (cases_lt k n) }
  where
    by : (k : ℕ) → k < n + 1 → (k < n) ⊎ (n ≤ k) → IsPut more (get_or terms k (spare 0)) (get_or after k 0)
    by k less (inl lt) =
        let count = h.count in
        let here = ap (λ l. get_or l k 0) pushed ∙ get_or_append_left places (p ∷ []) 0 k (omega (arith, lt, count)) in
        subst (IsPut more (get_or terms k (spare 0))) (sym here) (put-longer table more (get_or terms k (spare 0)) (get_or places k 0) long (h.each k lt))
    by k less (inr le) =
        let same : k ≡ n = omega (arith, less, le) in
        let count = h.count in
        let here = ap (λ l. get_or l k 0) pushed ∙ get_or_push places p 0 k (omega (arith, same, count)) in
        subst (IsPut more (get_or terms k (spare 0))) (sym here) (subst (λ u. IsPut more u p) (at ∙ ap (λ j. get_or terms j (spare 0)) (sym same)) put)

-- the place of the term of a number
pub argument-put : (table : List (List Term)) (terms : List Term) (places : List ℕ) (t : Term) (number k p : ℕ) → ArePut table terms places → IsTrue (is_among (length terms) number) → k ≡ number - 1 → t ≡ numbered terms number (spare 0) → p ≡ get_or places k 0 → IsPut table t p
argument-put table terms places t number k p h among at is place =
    let parts = among-parts (length terms) number among in
    let some = parts.0 in
    let most = parts.1 in
    let lt : k < length terms = omega (arith, some, most, at) in
    subst (λ u. IsPut table u p) (sym (is ∙ number-read terms number k (spare 0) (omega (arith, some, at)))) (subst (IsPut table (get_or terms k (spare 0))) (sym place) (h.each k lt))

-- the term that is put again
pub again-put : (table more : List (List Term)) (t : Term) (outer earlier : ℕ) → 0 < earlier → IsPut table t earlier → more ≡ table ++ (value_at (get_or table earlier []) 0 ∷ get_or table outer []) ∷ [] → more ≡ table ++ (t ∷ get_or table outer []) ∷ []
again-put table more t outer earlier some h pushed = pushed ∙ ap (λ u. table ++ (u ∷ get_or table outer []) ∷ []) (h some).1

-- ---- the state over a longer table

pub kept-put : (names : Names) (s : State) (more : List (List Term)) → IsLonger s.substitutions more → IsKept names s → IsKept names (record s { substitutions = more })
kept-put names s more long h = record {
  nested = h.nested;
  sequents = kept-longer names s.substitutions more s.labels s.labels s.eigens s.marks (sequents_of s.sequents) long (longer-self s.labels) h.sequents;
  homes = h.homes;
  told = h.told;
  parts = h.parts;
  outline = h.outline;
  nodes = h.nodes;
  same = same-longer s.substitutions more h.parts s.same long h.same;
}

pub shown-put : (names : Names) (table more : List (List Term)) (labels : List Label) (E M : List ℕ) (ss : List (List BranchEntry)) → IsLonger table more → AreKept names table labels E M ss → map (the_sequent more labels) ss ≡ map (the_sequent table labels) ss
shown-put names table more labels E M [] long h = refl
shown-put names table more labels E M (s ∷ ss) long h =
    λ i. sequent-longer table more labels labels s long (longer-self labels) h.0 i ∷ waiting-longer names table more labels labels E M ss long (longer-self labels) h.2 i
