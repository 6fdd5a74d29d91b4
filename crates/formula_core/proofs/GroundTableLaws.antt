-- Tables of ground lists. A list that is read is that of its entry by all lists, whatever came after it; and a new entry keeps a table
-- without repeats, since entries that name its lists in the one way are equal where their lists are.
use Rattle.std.specs.Prelude.{◌≡◌, ℕ, zero, suc, ◌+◌, ◌<◌, ◌≤◌, List, [], ◌∷◌, ◌++◌, map, length, refl}
use Rattle.std.specs.List.{AllByRecursion}
use Rattle.std.proofs.Common.{get_or, ap, sym, subst, ◌∙◌, arith, Bool, true, false}
use Rattle.std.proofs.Math.Logic.{◌⊎◌, inl, inr}
use Rattle.std.proofs.lemmas.Bool.{cases_lt, cases_eq}
use Rattle.std.proofs.lemmas.List.{get_or_append_left, get_or_past, get_or_push, append-nil, append_assoc, length-append}
use Rattle.std.proofs.Math.Seq.{get_or-append_seam}
use Rattle.calculus.specs.Ground as tree
use Rattle.calculus.specs.Lists.{g_terms_tree, g_terms_tree-inj, marks_tree-inj, values_tree-inj}
use Rattle.formula_core.specs.GroundLists.{GroundList, of_terms, of_marks, of_values, terms_in, marks_in, values_in, list_at, the_terms, the_marks, the_values, the_g_term, the_mark, the_value, no_list, IsNormal, IsNormalTerm, IsNormalMark, IsNormalValue, AreNormalTerms, AreNormalMarks, AreNormalValues, IsLower, IsLowerTerm, IsLowerMark, IsLowerValue, IsGrown}
use Rattle.formula_core.specs.GroundTables.{Items, some_terms, some_marks, some_values, list_of, lists_from, AreNormalItems, AreLowerItems, AreNormal, AreApart, IsTable, IsRead}
use Rattle.formula_core.specs.declared.ground.GroundTerms.{GroundTerms}
use Rattle.formula_core.specs.declared.ground.GroundLabel.{GroundLabel}
use Rattle.formula_core.specs.declared.ground.Values.{Values}
use Rattle.formula_core.specs.declared.ground.GroundTerm.{GroundTerm}
use Rattle.formula_core.specs.declared.ground.GroundTerm.TheVariants as term
use Rattle.formula_core.specs.declared.ground.GroundMark.{GroundMark}
use Rattle.formula_core.specs.declared.ground.GroundMark.TheVariants as mark
use Rattle.formula_core.specs.declared.ground.Value.{Value}
use Rattle.formula_core.specs.declared.ground.Value.TheVariants as value

-- ---- one list

-- what a normal number stands for stays when the table grows
part-stays : {A : Type 0} (part : GroundList → List A) → part (of_terms []) ≡ [] → (ls us : List GroundList) (k : ℕ) → length (ls ++ us) ≤ no_list → (part (list_at ls k) ≡ [] → k ≡ no_list) → part (list_at (ls ++ us) k) ≡ part (list_at ls k)
part-stays part e ls us k most normal = by (cases_lt k (length ls))
  where
    by : (k < length ls) ⊎ (length ls ≤ k) → part (list_at (ls ++ us) k) ≡ part (list_at ls k)
    by (inl h) = ap part (get_or_append_left ls us (of_terms []) k h)
    by (inr h) =
        let none : part (list_at ls k) ≡ [] = ap part (get_or_past ls k (of_terms []) h) ∙ e in
        let last = normal none in
        let n : length (ls ++ us) ≤ k = omega (arith, most, last) in
        ap part (get_or_past (ls ++ us) k (of_terms []) n) ∙ e ∙ sym none

-- a list that is not empty stands in the table
part-there : {A : Type 0} (part : GroundList → List A) → part (of_terms []) ≡ [] → (ls : List GroundList) (k : ℕ) → (part (list_at ls k) ≡ [] → ⊥) → k < length ls
part-there part e ls k some = by (cases_lt k (length ls))
  where
    by : (k < length ls) ⊎ (length ls ≤ k) → k < length ls
    by (inl h) = h
    by (inr h) = absurd (some (ap part (get_or_past ls k (of_terms []) h) ∙ e))

-- a list that is not empty has one number
part-same : {A : Type 0} (part : GroundList → List A) (make : List A → GroundList) → part (of_terms []) ≡ [] → ((l : GroundList) → (part l ≡ [] → ⊥) → l ≡ make (part l)) → (ls : List GroundList) → AreApart ls → (j k : ℕ) → (part (list_at ls j) ≡ [] → ⊥) → part (list_at ls j) ≡ part (list_at ls k) → j ≡ k
part-same part make e back ls apart j k some same =
    let other : part (list_at ls k) ≡ [] → ⊥ = λ h. some (same ∙ h) in
    apart j k (part-there part e ls j some) (part-there part e ls k other) (back (list_at ls j) some ∙ ap make same ∙ sym (back (list_at ls k) other))

-- and so has each, where both numbers are normal
part-inj : {A : Type 0} (part : GroundList → List A) (make : List A → GroundList) → part (of_terms []) ≡ [] → ((l : GroundList) → (part l ≡ [] → ⊥) → l ≡ make (part l)) → (ls : List GroundList) → AreApart ls → (j k : ℕ) → (part (list_at ls j) ≡ [] → j ≡ no_list) → (part (list_at ls k) ≡ [] → k ≡ no_list) → part (list_at ls j) ≡ part (list_at ls k) → j ≡ k
part-inj {A} part make e back ls apart j k m n same = by (part (list_at ls j)) refl
  where
    by : (xs : List A) → part (list_at ls j) ≡ xs → j ≡ k
    by [] h = m h ∙ sym (n (sym same ∙ h))
    by (x ∷ xs) h = part-same part make e back ls apart j k (λ z. let f : x ∷ xs ≡ [] = sym h ∙ z in cc) same

terms-back : (l : GroundList) → (terms_in l ≡ [] → ⊥) → l ≡ of_terms (terms_in l)
terms-back (of_terms ts) h = refl
terms-back (of_marks ms) h = absurd (h refl)
terms-back (of_values vs) h = absurd (h refl)

marks-back : (l : GroundList) → (marks_in l ≡ [] → ⊥) → l ≡ of_marks (marks_in l)
marks-back (of_terms ts) h = absurd (h refl)
marks-back (of_marks ms) h = refl
marks-back (of_values vs) h = absurd (h refl)

values-back : (l : GroundList) → (values_in l ≡ [] → ⊥) → l ≡ of_values (values_in l)
values-back (of_terms ts) h = absurd (h refl)
values-back (of_marks ms) h = absurd (h refl)
values-back (of_values vs) h = refl

pub terms-inj : (ls : List GroundList) → AreApart ls → (a b : GroundTerms) → AreNormalTerms ls a → AreNormalTerms ls b → the_terms ls a ≡ the_terms ls b → a ≡ b
terms-inj ls apart a b m n e = let k = part-inj terms_in of_terms refl terms-back ls apart a.0 b.0 m n e in λ i. let r : GroundTerms = record { 0 = k i } in r

pub marks-inj : (ls : List GroundList) → AreApart ls → (a b : GroundLabel) → AreNormalMarks ls a → AreNormalMarks ls b → the_marks ls a ≡ the_marks ls b → a ≡ b
marks-inj ls apart a b m n e = let k = part-inj marks_in of_marks refl marks-back ls apart a.0 b.0 m n e in λ i. let r : GroundLabel = record { 0 = k i } in r

pub values-inj : (ls : List GroundList) → AreApart ls → (a b : Values) → AreNormalValues ls a → AreNormalValues ls b → the_values ls a ≡ the_values ls b → a ≡ b
values-inj ls apart a b m n e = let k = part-inj values_in of_values refl values-back ls apart a.0 b.0 m n e in λ i. let r : Values = record { 0 = k i } in r

-- ---- items

pub term-inj : (ls : List GroundList) → AreApart ls → (a b : GroundTerm) → IsNormalTerm ls a → IsNormalTerm ls b → the_g_term ls a ≡ the_g_term ls b → a ≡ b
term-inj ls apart (term.Fun f ts) (term.Fun g us) m n e =
    let p : f.0 ≡ g.0 = cc in
    let h : g_terms_tree (the_terms ls ts) ≡ g_terms_tree (the_terms ls us) = cc in
    let k = terms-inj ls apart ts us m n (g_terms_tree-inj _ _ h) in
    λ i. term.Fun (record { 0 = p i }) (k i)
term-inj ls apart (term.Eigen p vs) (term.Eigen q ws) m n e =
    let o : p.0 ≡ q.0 = cc in
    let h : tree.values_tree (the_values ls vs) ≡ tree.values_tree (the_values ls ws) = cc in
    let k = values-inj ls apart vs ws m n (values_tree-inj _ _ h) in
    λ i. term.Eigen (record { 0 = o i }) (k i)
term-inj ls apart (term.Common j) (term.Common k) m n e = let o : j ≡ k = cc in ap term.Common o
term-inj ls apart (term.Own j v) (term.Own k w) m n e =
    let o : j ≡ k = cc in
    let h : tree.marks_tree (the_marks ls v) ≡ tree.marks_tree (the_marks ls w) = cc in
    let l = marks-inj ls apart v w m n (marks_tree-inj _ _ h) in
    λ i. term.Own (o i) (l i)
term-inj ls apart (term.Fun f ts) (term.Eigen q ws) m n e = cc
term-inj ls apart (term.Fun f ts) (term.Common k) m n e = cc
term-inj ls apart (term.Fun f ts) (term.Own k w) m n e = cc
term-inj ls apart (term.Eigen p vs) (term.Fun g us) m n e = cc
term-inj ls apart (term.Eigen p vs) (term.Common k) m n e = cc
term-inj ls apart (term.Eigen p vs) (term.Own k w) m n e = cc
term-inj ls apart (term.Common j) (term.Fun g us) m n e = cc
term-inj ls apart (term.Common j) (term.Eigen q ws) m n e = cc
term-inj ls apart (term.Common j) (term.Own k w) m n e = cc
term-inj ls apart (term.Own j v) (term.Fun g us) m n e = cc
term-inj ls apart (term.Own j v) (term.Eigen q ws) m n e = cc
term-inj ls apart (term.Own j v) (term.Common k) m n e = cc

pub mark-inj : (ls : List GroundList) → AreApart ls → (a b : GroundMark) → IsNormalMark ls a → IsNormalMark ls b → the_mark ls a ≡ the_mark ls b → a ≡ b
mark-inj ls apart (mark.New p vs) (mark.New q ws) m n e =
    let o : p.0 ≡ q.0 = cc in
    let h : tree.values_tree (the_values ls vs) ≡ tree.values_tree (the_values ls ws) = cc in
    let k = values-inj ls apart vs ws m n (values_tree-inj _ _ h) in
    λ i. mark.New (record { 0 = o i }) (k i)
mark-inj ls apart (mark.Spare j) (mark.Spare k) m n e = let o : j ≡ k = cc in ap mark.Spare o
mark-inj ls apart (mark.New p vs) (mark.Spare k) m n e = cc
mark-inj ls apart (mark.Spare j) (mark.New q ws) m n e = cc

pub value-inj : (ls : List GroundList) → AreApart ls → (a b : Value) → IsNormalValue ls a → IsNormalValue ls b → the_value ls a ≡ the_value ls b → a ≡ b
value-inj ls apart (value.Term t) (value.Term u) m n e = let h : the_g_term ls t ≡ the_g_term ls u = cc in ap value.Term (term-inj ls apart t u m n h)
value-inj ls apart (value.Steps v) (value.Steps w) m n e =
    let h : tree.marks_tree (the_marks ls v) ≡ tree.marks_tree (the_marks ls w) = cc in
    ap value.Steps (marks-inj ls apart v w m n (marks_tree-inj _ _ h))
value-inj ls apart (value.Term t) (value.Steps w) m n e = cc
value-inj ls apart (value.Steps v) (value.Term u) m n e = cc

-- what holds of items holds of lists of them
map-inj : {X Y : Type 0} (f : X → Y) (P : X → Type 0) → ((x y : X) → P x → P y → f x ≡ f y → x ≡ y) → (xs ys : List X) → AllByRecursion P xs → AllByRecursion P ys → map f xs ≡ map f ys → xs ≡ ys
map-inj f P inj [] [] m n e = refl
map-inj f P inj [] (y ∷ ys) m n e = cc
map-inj f P inj (x ∷ xs) [] m n e = cc
map-inj f P inj (x ∷ xs) (y ∷ ys) m n e =
    let h : f x ≡ f y = cc in
    let g : map f xs ≡ map f ys = cc in
    let p = inj x y m.0 n.0 h in
    let q = map-inj f P inj xs ys m.1 n.1 g in
    λ i. p i ∷ q i

items-inj : (ls : List GroundList) → AreApart ls → (a b : Items) → AreNormalItems ls a → AreNormalItems ls b → list_of ls a ≡ list_of ls b → a ≡ b
items-inj ls apart (some_terms ts) (some_terms us) m n e = ap some_terms (map-inj (the_g_term ls) (IsNormalTerm ls) (term-inj ls apart) ts us m n (ap terms_in e))
items-inj ls apart (some_marks ts) (some_marks us) m n e = ap some_marks (map-inj (the_mark ls) (IsNormalMark ls) (mark-inj ls apart) ts us m n (ap marks_in e))
items-inj ls apart (some_values ts) (some_values us) m n e = ap some_values (map-inj (the_value ls) (IsNormalValue ls) (value-inj ls apart) ts us m n (ap values_in e))
items-inj ls apart (some_terms ts) (some_marks us) m n e = cc
items-inj ls apart (some_terms ts) (some_values us) m n e = cc
items-inj ls apart (some_marks ts) (some_terms us) m n e = cc
items-inj ls apart (some_marks ts) (some_values us) m n e = cc
items-inj ls apart (some_values ts) (some_terms us) m n e = cc
items-inj ls apart (some_values ts) (some_marks us) m n e = cc

-- ---- growing

module _ (ls us : List GroundList) (most : length (ls ++ us) ≤ no_list) where
  pub terms-stay : (n : GroundTerms) → AreNormalTerms ls n → the_terms (ls ++ us) n ≡ the_terms ls n
  terms-stay n h = part-stays terms_in refl ls us n.0 most h

  pub marks-stay : (n : GroundLabel) → AreNormalMarks ls n → the_marks (ls ++ us) n ≡ the_marks ls n
  marks-stay n h = part-stays marks_in refl ls us n.0 most h

  pub values-stay : (n : Values) → AreNormalValues ls n → the_values (ls ++ us) n ≡ the_values ls n
  values-stay n h = part-stays values_in refl ls us n.0 most h

  pub term-stays : (t : GroundTerm) → IsNormalTerm ls t → the_g_term (ls ++ us) t ≡ the_g_term ls t
  term-stays (term.Fun f ts) h = ap (λ xs. tree.g_fun f.0 (g_terms_tree xs)) (terms-stay ts h)
  term-stays (term.Eigen p vs) h = ap (λ xs. tree.g_eigen p.0 (tree.values_tree xs)) (values-stay vs h)
  term-stays (term.Common k) h = refl
  term-stays (term.Own k w) h = ap (λ xs. tree.own k (tree.marks_tree xs)) (marks-stay w h)

  pub mark-stays : (m : GroundMark) → IsNormalMark ls m → the_mark (ls ++ us) m ≡ the_mark ls m
  mark-stays (mark.New p vs) h = ap (λ xs. tree.g_new_mark p.0 (tree.values_tree xs)) (values-stay vs h)
  mark-stays (mark.Spare k) h = refl

  pub value-stays : (v : Value) → IsNormalValue ls v → the_value (ls ++ us) v ≡ the_value ls v
  value-stays (value.Term t) h = ap tree.term (term-stays t h)
  value-stays (value.Steps w) h = ap (λ xs. tree.steps (tree.marks_tree xs)) (marks-stay w h)

  pub term-normal : (t : GroundTerm) → IsNormalTerm ls t → IsNormalTerm (ls ++ us) t
  term-normal (term.Fun f ts) h = λ e. h (sym (terms-stay ts h) ∙ e)
  term-normal (term.Eigen p vs) h = λ e. h (sym (values-stay vs h) ∙ e)
  term-normal (term.Common k) h = refl
  term-normal (term.Own k w) h = λ e. h (sym (marks-stay w h) ∙ e)

  pub mark-normal : (m : GroundMark) → IsNormalMark ls m → IsNormalMark (ls ++ us) m
  mark-normal (mark.New p vs) h = λ e. h (sym (values-stay vs h) ∙ e)
  mark-normal (mark.Spare k) h = refl

  pub value-normal : (v : Value) → IsNormalValue ls v → IsNormalValue (ls ++ us) v
  value-normal (value.Term t) h = term-normal t h
  value-normal (value.Steps w) h = λ e. h (sym (marks-stay w h) ∙ e)

  map-stays : {X Y : Type 0} (f g : X → Y) (P : X → Type 0) → ((x : X) → P x → f x ≡ g x) → (xs : List X) → AllByRecursion P xs → map f xs ≡ map g xs
  map-stays f g P h [] m = refl
  map-stays f g P h (x ∷ xs) m = let a = h x m.0 in let b = map-stays f g P h xs m.1 in λ i. a i ∷ b i

  all-stays : {X : Type 0} (P Q : X → Type 0) → ((x : X) → P x → Q x) → (xs : List X) → AllByRecursion P xs → AllByRecursion Q xs
  all-stays P Q h [] m = tt
  all-stays P Q h (x ∷ xs) m = (h x m.0, all-stays P Q h xs m.1)

  pub list_of-stays : (e : Items) → AreNormalItems ls e → list_of (ls ++ us) e ≡ list_of ls e
  list_of-stays (some_terms ts) h = ap of_terms (map-stays (the_g_term (ls ++ us)) (the_g_term ls) (IsNormalTerm ls) term-stays ts h)
  list_of-stays (some_marks ts) h = ap of_marks (map-stays (the_mark (ls ++ us)) (the_mark ls) (IsNormalMark ls) mark-stays ts h)
  list_of-stays (some_values ts) h = ap of_values (map-stays (the_value (ls ++ us)) (the_value ls) (IsNormalValue ls) value-stays ts h)

  pub items-normal : (e : Items) → AreNormalItems ls e → AreNormalItems (ls ++ us) e
  items-normal (some_terms ts) h = all-stays (IsNormalTerm ls) (IsNormalTerm (ls ++ us)) term-normal ts h
  items-normal (some_marks ts) h = all-stays (IsNormalMark ls) (IsNormalMark (ls ++ us)) mark-normal ts h
  items-normal (some_values ts) h = all-stays (IsNormalValue ls) (IsNormalValue (ls ++ us)) value-normal ts h

-- ---- the fold

-- the lists of entries behind these
behind : List GroundList → List Items → List GroundList
behind ls [] = []
behind ls (e ∷ es) = list_of ls e ∷ behind (ls ++ list_of ls e ∷ []) es

lists-extend : (ls : List GroundList) (es : List Items) → lists_from ls es ≡ ls ++ behind ls es
unfolding lists_from behind
lists-extend ls [] = sym (append-nil ls)
lists-extend ls (e ∷ es) = lists-extend (ls ++ list_of ls e ∷ []) es ∙ append_assoc ls (list_of ls e ∷ []) (behind (ls ++ list_of ls e ∷ []) es)

behind-length : (ls : List GroundList) (es : List Items) → length (behind ls es) ≡ length es
unfolding behind
behind-length ls [] = refl
behind-length ls (e ∷ es) = ap suc (behind-length (ls ++ list_of ls e ∷ []) es)

pub lists-length : (es : List Items) → length (lists_from [] es) ≡ length es
lists-length es = ap length (lists-extend [] es) ∙ behind-length [] es

pub lists-none : lists_from [] [] ≡ []
unfolding lists_from
lists-none = refl

-- one more entry is one more list
pub lists-push : (ls : List GroundList) (es : List Items) (e : Items) → lists_from ls (es ++ e ∷ []) ≡ lists_from ls es ++ list_of (lists_from ls es) e ∷ []
unfolding lists_from
lists-push ls [] e = refl
lists-push ls (x ∷ es) e = lists-push (ls ++ list_of ls x ∷ []) es e

normal-push : (ls : List GroundList) (es : List Items) (e : Items) → AreNormal ls es → AreNormalItems (lists_from ls es) e → AreNormal ls (es ++ e ∷ [])
unfolding lists_from AreNormal
normal-push ls [] e h k = (k, refl)
normal-push ls (x ∷ es) e h k = (h.0, normal-push (ls ++ list_of ls x ∷ []) es e h.1 k)

-- an entry stands behind the lists that it names
record StandsAt (ls : List GroundList) (es : List Items) (k : ℕ) (d : Items) : Type 0 where
  before : List GroundList
  after : List GroundList
  place : length before ≡ length ls + k
  whole : lists_from ls es ≡ before ++ list_of before (get_or es k d) ∷ after
  normal : AreNormalItems before (get_or es k d)

stands : (ls : List GroundList) (es : List Items) (k : ℕ) (d : Items) → AreNormal ls es → k < length es → StandsAt ls es k d
unfolding lists_from AreNormal behind
stands ls [] k d h g = absurd (omega (arith, g))
stands ls (e ∷ es) zero d h g = record {
  before = ls;
  after = behind (ls ++ list_of ls e ∷ []) es;
  place = omega arith;
  whole = lists-extend ls (e ∷ es);
  normal = h.0;
}
stands ls (e ∷ es) (suc k) d h g =
    let s = stands (ls ++ list_of ls e ∷ []) es k d h.1 (omega (arith, g)) in
    let n : length (ls ++ list_of ls e ∷ []) ≡ length ls + 1 = length-append ls (list_of ls e ∷ []) in
    let p = s.place in
    record {
      before = s.before;
      after = s.after;
      place = omega (arith, p, n);
      whole = s.whole;
      normal = s.normal;
    }

-- ---- what is read at a number

-- a list that an item of the entry at n names has a lower number, or none
part-lower : {A : Type 0} (part : GroundList → List A) → part (of_terms []) ≡ [] → (ls us : List GroundList) (k : ℕ) → length (ls ++ us) ≤ no_list → (part (list_at ls k) ≡ [] → k ≡ no_list) → length ls ≤ k → part (list_at (ls ++ us) k) ≡ []
part-lower part e ls us k most normal h =
    part-stays part e ls us k most normal ∙ ap part (get_or_past ls k (of_terms []) h) ∙ e

module _ (ls us : List GroundList) (most : length (ls ++ us) ≤ no_list) where
  term-lower : (t : GroundTerm) → IsNormalTerm ls t → IsLowerTerm (ls ++ us) (length ls) t
  term-lower (term.Fun f ts) h = part-lower terms_in refl ls us ts.0 most h
  term-lower (term.Eigen p vs) h = part-lower values_in refl ls us vs.0 most h
  term-lower (term.Common k) h = refl
  term-lower (term.Own k w) h = part-lower marks_in refl ls us w.0 most h

  mark-lower : (m : GroundMark) → IsNormalMark ls m → IsLowerMark (ls ++ us) (length ls) m
  mark-lower (mark.New p vs) h = part-lower values_in refl ls us vs.0 most h
  mark-lower (mark.Spare k) h = refl

  value-lower : (v : Value) → IsNormalValue ls v → IsLowerValue (ls ++ us) (length ls) v
  value-lower (value.Term t) h = term-lower t h
  value-lower (value.Steps w) h = part-lower marks_in refl ls us w.0 most h

  items-lower : (e : Items) → AreNormalItems ls e → AreLowerItems (ls ++ us) (length ls) e
  items-lower (some_terms ts) h = all-stays ls us most (IsNormalTerm ls) (IsLowerTerm (ls ++ us) (length ls)) term-lower ts h
  items-lower (some_marks ts) h = all-stays ls us most (IsNormalMark ls) (IsLowerMark (ls ++ us) (length ls)) mark-lower ts h
  items-lower (some_values ts) h = all-stays ls us most (IsNormalValue ls) (IsLowerValue (ls ++ us) (length ls)) value-lower ts h

read-at : (ls before after : List GroundList) (k : ℕ) (e : Items) → length ls ≤ no_list → ls ≡ before ++ list_of before e ∷ after → length before ≡ k → AreNormalItems before e → IsRead ls k e
read-at ls before after k e most whole place normal =
    let m : length (before ++ list_of before e ∷ after) ≤ no_list = subst (λ xs. length xs ≤ no_list) whole most in
    let r : IsRead (before ++ list_of before e ∷ after) (length before) e = record {
      list = get_or-append_seam before (list_of before e) after (of_terms []) ∙ sym (list_of-stays before (list_of before e ∷ after) m e normal);
      lower = items-lower before (list_of before e ∷ after) m e normal;
      normal = items-normal before (list_of before e ∷ after) m e normal;
    } in
    subst (λ n. IsRead ls n e) place (subst (λ xs. IsRead xs (length before) e) (sym whole) r)

pub is-read : (es : List Items) (k : ℕ) (d : Items) → IsTable es → k < length es → IsRead (lists_from [] es) k (get_or es k d)
is-read es k d t h =
    let s = stands [] es k d t.normal h in
    let m : length (lists_from [] es) ≤ no_list = subst (λ n. n ≤ no_list) (sym (lists-length es)) t.most in
    let p = s.place in
    read-at (lists_from [] es) s.before s.after k (get_or es k d) m s.whole (omega (arith, p)) s.normal

-- ---- one more entry

apart-push : (ls : List GroundList) (x : GroundList) → AreApart ls → ((k : ℕ) → k < length ls → list_at ls k ≡ x → ⊥) → AreApart (ls ++ x ∷ [])
apart-push ls x apart new i j hi hj e = by (cases_lt i (length ls)) (cases_lt j (length ls))
  where
    n : length (ls ++ x ∷ []) ≡ length ls + 1
    n = length-append ls (x ∷ [])

    low : (k : ℕ) → k < length ls → list_at (ls ++ x ∷ []) k ≡ list_at ls k
    low k h = get_or_append_left ls (x ∷ []) (of_terms []) k h

    last : (k : ℕ) → length ls ≡ k → list_at (ls ++ x ∷ []) k ≡ x
    last k h = get_or_push ls x (of_terms []) k h

    by : (i < length ls) ⊎ (length ls ≤ i) → (j < length ls) ⊎ (length ls ≤ j) → i ≡ j
    by (inl a) (inl b) = apart i j a b (sym (low i a) ∙ e ∙ low j b)
    by (inl a) (inr b) = absurd (new i a (sym (low i a) ∙ e ∙ last j (omega (arith, n, hj, b))))
    by (inr a) (inl b) = absurd (new j b (sym (low j b) ∙ sym e ∙ last i (omega (arith, n, hi, a))))
    by (inr a) (inr b) = omega (arith, n, hi, hj, a, b)

pub table-none : IsTable []
unfolding lists_from AreNormal
table-none = record { most = omega arith; normal = refl; apart = λ i j h g e. absurd (omega (arith, h)) }

pub table-push : (es : List Items) (e d : Items) → IsTable es → length es < no_list → AreNormalItems (lists_from [] es) e → ((k : ℕ) → k < length es → get_or es k d ≡ e → ⊥) → IsTable (es ++ e ∷ [])
table-push es e d t room normal new =
    let n = lists-length es in
    let other : (k : ℕ) → k < length (lists_from [] es) → list_at (lists_from [] es) k ≡ list_of (lists_from [] es) e → ⊥ = λ k h same.
    (let r = is-read es k d t (omega (arith, n, h)) in
    new k (omega (arith, n, h)) (items-inj (lists_from [] es) t.apart (get_or es k d) e r.normal normal (sym r.list ∙ same))) in
    record {
      most = let m = length-append es (e ∷ []) in omega (arith, m, room);
      normal = normal-push [] es e t.normal normal;
      apart = subst AreApart (sym (lists-push [] es e)) (apart-push (lists_from [] es) (list_of (lists_from [] es) e) t.apart other);
    }

pub ruleset alike = (terms-inj, marks-inj, values-inj, term-inj, mark-inj, value-inj)
