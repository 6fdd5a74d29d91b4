-- Which lists of terms are still to be allowed at a label. Each names lower ones, so the highest comes first and none comes twice.
use Rattle.std.specs.Prelude.{◌≡◌, ℕ, zero, suc, ◌<◌, ◌≤◌, max, List, [], ◌∷◌, ◌++◌, drop, length, map, Bool, true, false, ◌&&◌, ◌==◌, refl}
use Rattle.std.specs.List.{All, list_all}
use Rattle.std.proofs.Common.{ap, sym, ◌∙◌, arith, get_or, true≢false}
use Rattle.std.proofs.Math.Logic.{◌⊎◌, inl, inr}
use Rattle.std.proofs.lemmas.Bool.{cases_lt}
use Rattle.std.proofs.lemmas.Bool.Decides.{nat_tests}
use Rattle.std.specs.Cmp.{ranked}
use Rattle.std.specs.Ordering.{nat_cmp, match_ordering}
use Rattle.std.specs.declared.cmp.Ordering.{Ordering}
use Rattle.std.specs.declared.cmp.Ordering.TheVariants.{Less, Equal, Greater}
use Rattle.std.specs.BTreeMap.Range.{IsLtBy}
use Rattle.std.specs.BTreeSet.{insert_key}
use Rattle.calculus.specs.Ground as tree
use Rattle.calculus.specs.Ground.{GroundMark, g_fun}
use Rattle.calculus.specs.Lists.{g_terms_tree}
use Rattle.calculus.specs.Skolem.{are_allowed, common_spares, is_allowed}
use Rattle.calculus.specs.Syntax.{Problem}
use Rattle.formula_core.specs.GroundLists.{GroundList, the_terms, the_g_term}
use Rattle.formula_core.specs.declared.ground.GroundTerms.{GroundTerms as TermList}
use Rattle.formula_core.specs.declared.ground.GroundTerm.{GroundTerm}
use Rattle.tableau_core.specs.Numbered.Ahead.{are_ahead_allowed, bound, is_list_allowed}

-- ---- tests of all

idem : (a b : Bool) → (a && b) ≡ (a && (a && b))
idem true b = refl
idem false b = refl

swap : (a b c : Bool) → (a && (b && c)) ≡ (b && (a && c))
swap true b c = refl
swap false true c = refl
swap false false c = refl

-- a key that is put among the others is tested with them
pub insert-all : (f : ℕ → Bool) (ks : List ℕ) (k : ℕ) → list_all f (insert_key nat_cmp ks k) ≡ (f k && list_all f ks)
insert-all f [] k = refl
insert-all f (x ∷ ks) k = by (nat_cmp k x) refl (insert-all f ks k)
  where
    by : (o : Ordering) → o ≡ nat_cmp k x → list_all f (insert_key nat_cmp ks k) ≡ (f k && list_all f ks) → list_all f (match_ordering o (k ∷ x ∷ ks) (x ∷ ks) (x ∷ insert_key nat_cmp ks k)) ≡ (f k && (f x && list_all f ks))
    by Less e h = refl
    by Equal e h = let same : k ≡ x = ranked k x Equal e in idem (f x) (list_all f ks) ∙ ap (λ j. f j && (f x && list_all f ks)) (sym same)
    by Greater e h = ap (λ b. f x && b) h ∙ swap (f x) (f k) (list_all f ks)

-- ---- bounds

pub insert-bound : (ks : List ℕ) (k : ℕ) → bound (insert_key nat_cmp ks k) ≤ max (suc k) (bound ks)
insert-bound [] k = omega arith
insert-bound (x ∷ ks) k = by (nat_cmp k x) (insert-bound ks k)
  where
    by : (o : Ordering) → bound (insert_key nat_cmp ks k) ≤ max (suc k) (bound ks) → bound (match_ordering o (k ∷ x ∷ ks) (x ∷ ks) (x ∷ insert_key nat_cmp ks k)) ≤ max (suc k) (max (suc x) (bound ks))
    by Less h = omega arith
    by Equal h = omega arith
    by Greater h = omega arith

pub append-bound : (ks : List ℕ) (k : ℕ) → bound (ks ++ k ∷ []) ≡ max (bound ks) (suc k)
append-bound [] k = omega arith
append-bound (x ∷ ks) k = let h = append-bound ks k in omega (arith, h)

pub below-bound : (ks : List ℕ) (k : ℕ) → All (λ q. IsLtBy nat_cmp q k) ks → bound ks ≤ k
below-bound [] k h = omega arith
below-bound (x ∷ ks) k h = let lt : x < k = ranked x k Less (sym (h 0 x (omega arith))) in let le = below-bound ks k (λ j d less. h (suc j) d (omega (arith, less))) in omega (arith, lt, le)

-- ---- one item

turn : (a m r : Bool) → ((a && m) && r) ≡ (m && (a && r))
turn true m r = refl
turn false true r = refl
turn false false r = refl

-- b is the answer for an item that passes where a says so, n and m are the tests of the lists ahead after it and before, r is that of
-- the items that are left
pub item-goes_on : (b n a m r t : Bool) → (b && n) ≡ (a && m) → b ≡ true → (m && (a && r)) ≡ t → (n && r) ≡ t
item-goes_on true n a m r t e g h = ap (λ x. x && r) e ∙ turn a m r ∙ h
item-goes_on false n a m r t e g h = absurd cc

item-ends : (b n a m r t : Bool) → (b && n) ≡ (a && m) → b ≡ false → (m && (a && r)) ≡ t → false ≡ t
item-ends false n a m r t e g h = ap (λ x. x && r) e ∙ turn a m r ∙ h
item-ends true n a m r t e g h = absurd cc

-- ---- arguments

module _ (P : Problem) (w : List GroundMark) (ls : List GroundList) where
  -- a function without arguments
  pub fun-empty : (f n : ℕ) (ts : List tree.GroundTerm) (b : Bool) (ks : List ℕ) → n ≡ length ts → b ≡ (n == 0) → b ≡ true → (common_spares P && are_ahead_allowed P w ls ks) ≡ (is_allowed P w (g_fun f (g_terms_tree ts)) && are_ahead_allowed P w ls ks)
  fun-empty f n [] b ks m e t = refl
  fun-empty f n (x ∷ ts) b ks m e t = absurd (true≢false (sym t ∙ e ∙ grind (arith, nat_tests, m)))

  -- one whose arguments are put ahead
  pub fun-filled : (f n : ℕ) (args : TermList) (b : Bool) (ks more : List ℕ) → n ≡ length (the_terms ls args) → b ≡ (n == 0) → b ≡ false → more ≡ insert_key nat_cmp ks args.0 → (true && are_ahead_allowed P w ls more) ≡ (is_allowed P w (g_fun f (g_terms_tree (the_terms ls args))) && are_ahead_allowed P w ls ks)
  fun-filled f n args b ks more m e t a = ap (are_ahead_allowed P w ls) a ∙ insert-all (is_list_allowed P w ls) ks args.0 ∙ ap (λ x. x && are_ahead_allowed P w ls ks) (filled (the_terms ls args) m)
    where
      filled : (ts : List tree.GroundTerm) → n ≡ length ts → are_allowed P w (g_terms_tree ts) ≡ is_allowed P w (g_fun f (g_terms_tree ts))
      filled [] z = absurd (true≢false (grind (arith, nat_tests, z, e, t)))
      filled (x ∷ ts) z = refl

-- arguments that are not empty stand before the list of their function
pub fun-bound : (ts : List tree.GroundTerm) (n k j : ℕ) (b : Bool) (ks more : List ℕ) → (j ≤ k → ts ≡ []) → n ≡ length ts → b ≡ (n == 0) → b ≡ false → more ≡ insert_key nat_cmp ks k → bound more ≤ max j (bound ks)
fun-bound ts n k j b ks more lower m e t a =
    let inside = below (cases_lt k j) in
    let le = insert-bound ks k in
    let same = ap bound a in
    omega (arith, inside, le, same)
  where
    below : (k < j) ⊎ (j ≤ k) → k < j
    below (inl h) = h
    below (inr h) = let z : length ts ≡ 0 = ap length (lower h) in absurd (true≢false (grind (arith, nat_tests, m, e, t, z)))

pub ruleset arguments = (fun-empty)

-- one item of a list, and those behind it
items-from : (P : Problem) (w : List GroundMark) (ls : List GroundList) (xs : List GroundTerm) (k : ℕ) (d : GroundTerm) → k < length xs → are_allowed P w (g_terms_tree (map (the_g_term ls) (drop k xs))) ≡ (is_allowed P w (the_g_term ls (get_or xs k d)) && are_allowed P w (g_terms_tree (map (the_g_term ls) (drop (suc k) xs))))
items-from P w ls [] k d h = absurd (omega (arith, h))
items-from P w ls (x ∷ xs) zero d h = refl
items-from P w ls (x ∷ xs) (suc k) d h = items-from P w ls xs k d (omega (arith, h))

pub items-step : (P : Problem) (w : List GroundMark) (ls : List GroundList) (xs : List GroundTerm) (k j : ℕ) (d : GroundTerm) → j ≡ suc k → k < length xs → are_allowed P w (g_terms_tree (map (the_g_term ls) (drop k xs))) ≡ (is_allowed P w (the_g_term ls (get_or xs k d)) && are_allowed P w (g_terms_tree (map (the_g_term ls) (drop j xs))))
items-step P w ls xs k j d e h = items-from P w ls xs k d h ∙ ap (λ i. is_allowed P w (the_g_term ls (get_or xs k d)) && are_allowed P w (g_terms_tree (map (the_g_term ls) (drop i xs)))) (sym e)

-- an item that is not allowed ends the list
pub items-end : (P : Problem) (w : List GroundMark) (ls : List GroundList) (xs : List GroundTerm) (k : ℕ) (d : GroundTerm) (b : Bool) (more ks : List ℕ) (t : Bool) → k < length xs → (b && are_ahead_allowed P w ls more) ≡ (is_allowed P w (the_g_term ls (get_or xs k d)) && are_ahead_allowed P w ls ks) → b ≡ false → (are_ahead_allowed P w ls ks && are_allowed P w (g_terms_tree (map (the_g_term ls) (drop k xs)))) ≡ t → false ≡ t
items-end P w ls xs k d b more ks t h e g f =
    item-ends b (are_ahead_allowed P w ls more) (is_allowed P w (the_g_term ls (get_or xs k d))) (are_ahead_allowed P w ls ks) (are_allowed P w (g_terms_tree (map (the_g_term ls) (drop (suc k) xs)))) t e g (ap (λ x. are_ahead_allowed P w ls ks && x) (sym (items-from P w ls xs k d h)) ∙ f)
