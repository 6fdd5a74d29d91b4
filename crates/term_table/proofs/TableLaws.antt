-- A list that is read is that of its items by all lists.
use Rattle.std.proofs.Common.{◌≡◌, ℕ, zero, suc, ◌+◌, ◌<◌, ◌≤◌, List, [], ◌∷◌, ◌++◌, length, get_or, map, refl, sym, ◌∙◌, ap, subst, arith}
use Rattle.std.specs.List.{AllByRecursion}
use Rattle.std.proofs.Math.Seq.{get_or-append_seam}
use Rattle.std.proofs.lemmas.List.{append-nil, append_assoc, get_or_append_left, get_or_past, length-append}
use Rattle.calculus.specs.Lists.{terms_tree}
use Rattle.calculus.specs.Syntax.{Term, fun}
use Rattle.term_table.specs.Table.{AreBelow, IsBelow, lists_from, the_table_term}
use Rattle.term_table.specs.declared.table.TableTerm.{TableTerm}
use Rattle.term_table.specs.declared.table.TableTerm.TheVariants.{Constant, Fun, Eigen, Spare}

-- ---- terms stay when lists are added

pub term-stays : (ls us : List (List Term)) (x : TableTerm) → IsBelow (length ls) x → the_table_term (ls ++ us) x ≡ the_table_term ls x
term-stays ls us (Constant f) h = refl
term-stays ls us (Fun f k) h = ap (λ ts. fun f.0 (terms_tree ts)) (get_or_append_left ls us [] k h)
term-stays ls us (Eigen n) h = refl
term-stays ls us (Spare n) h = refl

pub terms-stay : (ls us : List (List Term)) (xs : List TableTerm) → AllByRecursion (IsBelow (length ls)) xs → map (the_table_term (ls ++ us)) xs ≡ map (the_table_term ls) xs
terms-stay ls us [] h = refl
terms-stay ls us (x ∷ xs) h = let a = term-stays ls us x h.0 in let b = terms-stay ls us xs h.1 in λ i. a i ∷ b i

-- ---- the lists of items

-- those of the items behind these lists
behind : List (List Term) → List (List TableTerm) → List (List Term)
behind ls [] = []
behind ls (xs ∷ more) = map (the_table_term ls) xs ∷ behind (ls ++ map (the_table_term ls) xs ∷ []) more

lists-extend : (ls : List (List Term)) (xss : List (List TableTerm)) → lists_from ls xss ≡ ls ++ behind ls xss
unfolding lists_from behind
lists-extend ls [] = sym (append-nil ls)
lists-extend ls (xs ∷ more) = lists-extend (ls ++ map (the_table_term ls) xs ∷ []) more ∙ append_assoc ls (map (the_table_term ls) xs ∷ []) (behind (ls ++ map (the_table_term ls) xs ∷ []) more)

behind-length : (ls : List (List Term)) (xss : List (List TableTerm)) → length (behind ls xss) ≡ length xss
unfolding behind
behind-length ls [] = refl
behind-length ls (xs ∷ more) = ap suc (behind-length (ls ++ map (the_table_term ls) xs ∷ []) more)

pub lists-length : (xss : List (List TableTerm)) → length (lists_from [] xss) ≡ length xss
lists-length xss = ap length (lists-extend [] xss) ∙ behind-length [] xss

pub lists-none : lists_from [] [] ≡ []
unfolding lists_from
lists-none = refl

pub below-none : AreBelow 0 []
unfolding AreBelow
below-none = tt

-- one list more
pub lists-push : (ls : List (List Term)) (xss : List (List TableTerm)) (ys : List TableTerm) → lists_from ls (xss ++ ys ∷ []) ≡ lists_from ls xss ++ map (the_table_term (lists_from ls xss)) ys ∷ []
unfolding lists_from
lists-push ls [] ys = refl
lists-push ls (xs ∷ more) ys = lists-push (ls ++ map (the_table_term ls) xs ∷ []) more ys

pub below-push : (n m : ℕ) (xss : List (List TableTerm)) (ys : List TableTerm) → m ≡ n + length xss → AreBelow n xss → AllByRecursion (IsBelow m) ys → AreBelow n (xss ++ ys ∷ [])
unfolding AreBelow
below-push n m [] ys e h k = (subst (λ j. AllByRecursion (IsBelow j) ys) (omega (arith, e)) k, tt)
below-push n m (xs ∷ more) ys e h k = (h.0, below-push (suc n) m more ys (omega (arith, e)) h.1 k)

pub list-read : (ls : List (List Term)) (xss : List (List TableTerm)) (k m : ℕ) → m ≡ length ls + k → AreBelow (length ls) xss → k < length xss → map (the_table_term (lists_from ls xss)) (get_or xss k []) ≡ get_or (lists_from ls xss) m []
unfolding lists_from AreBelow behind
list-read ls [] k m e h lt = absurd (omega (arith, lt))
list-read ls (xs ∷ more) zero m e h lt =
    let us = map (the_table_term ls) xs ∷ behind (ls ++ map (the_table_term ls) xs ∷ []) more in
    let whole : lists_from ls (xs ∷ more) ≡ ls ++ us = lists-extend ls (xs ∷ more) in
    let at : m ≡ length ls = omega (arith, e) in
    (λ i. map (the_table_term (whole i)) xs) ∙ terms-stay ls us xs h.0
    ∙ sym (get_or-append_seam ls (map (the_table_term ls) xs) (behind (ls ++ map (the_table_term ls) xs ∷ []) more) [])
    ∙ (λ i. get_or (sym whole i) (sym at i) [])
list-read ls (xs ∷ more) (suc k) m e h lt =
    let n : length (ls ++ map (the_table_term ls) xs ∷ []) ≡ length ls + 1 = length-append ls (map (the_table_term ls) xs ∷ []) in
    let l : suc (length ls) ≡ length (ls ++ map (the_table_term ls) xs ∷ []) = omega (arith, n) in
    list-read (ls ++ map (the_table_term ls) xs ∷ []) more k m (omega (arith, e, n)) (subst (λ j. AreBelow j more) l h.1) (omega (arith, lt))

pub none-read : (ls : List (List Term)) (k : ℕ) → length ls ≤ k → [] ≡ get_or ls k []
none-read ls k h = sym (get_or_past ls k [] h)

pub count-is : (xss : List (List TableTerm)) (now : List (List Term)) → lists_from [] xss ≡ now → length xss ≡ length now
count-is xss now e = sym (lists-length xss) ∙ ap length e

pub pushed-is : (xss : List (List TableTerm)) (ys : List TableTerm) (now : List (List Term)) → lists_from [] xss ≡ now → lists_from [] (xss ++ ys ∷ []) ≡ now ++ map (the_table_term now) ys ∷ []
pushed-is xss ys now e = lists-push [] xss ys ∙ ap (λ ls. ls ++ map (the_table_term ls) ys ∷ []) e

pub read-is : (xss : List (List TableTerm)) (now : List (List Term)) (k : ℕ) (ys : List TableTerm) → lists_from [] xss ≡ now → AreBelow 0 xss → k < length xss → get_or xss k [] ≡ ys → map (the_table_term now) ys ≡ get_or now k []
read-is xss now k ys e below lt at = (λ i. map (the_table_term (sym e i)) (sym at i)) ∙ list-read [] xss k k (omega arith) below lt ∙ ap (λ ls. get_or ls k []) e
