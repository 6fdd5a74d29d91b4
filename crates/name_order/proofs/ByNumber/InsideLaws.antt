-- What a search for names has seen: names that were found, and those in lists that are ahead.
use Rattle.std.proofs.Common.{◌≡◌, ◌⊎◌, ◌↔◌, ℕ, ◌+◌, ◌<◌, ◌≤◌, List, [], ◌∷◌, ◌++◌, drop, length, get_or, Bool, true, false, ◌||◌, ◌==◌, Contains, append-nil, arith, refl, sym, ◌∙◌, ap, subst, inl, inr, if◌then◌else◌}
use Rattle.std.specs.List.{list_any}
use Rattle.std.specs.Ordering.{nat_cmp, match_ordering}
use Rattle.std.specs.declared.cmp.Ordering.{Ordering}
use Rattle.std.specs.declared.cmp.Ordering.TheVariants.{Less, Equal, Greater}
use Rattle.std.specs.BTreeSet.{insert_key}
use Rattle.std.specs.Cmp.{ranked}
use Rattle.std.proofs.lemmas.Bool.{cases_lt, true≢false}
use Rattle.std.proofs.lemmas.Bool.Decides.{nat_tests}
use Rattle.std.proofs.lemmas.List.{at_drop_all, at_drop_more}
use Rattle.plain_laws.proofs.Booleans.{or-assoc, or_false, or-swap}
use Rattle.calculus.specs.Ground.{marks_tree, values_tree}
use Rattle.calculus.specs.Lists.{g_terms_tree}
use Rattle.calculus.proofs.Members.{contains-among, among-contains}
use Rattle.conversion_theory.specs.Numbering.{name_eq}
use Rattle.conversion_theory.specs.Turns.{Name, names_of_terms, names_of_marks, names_of_values}
use Rattle.conversion_theory.proofs.NumberLaws.{name_eq-tells}
use Rattle.formula_core.specs.GroundLists.{GroundList, of_terms, of_marks, of_values, list_at, terms_in, marks_in, values_in, the_terms, the_marks, the_values}
use Rattle.formula_core.specs.declared.ground.GroundTerms.{GroundTerms}
use Rattle.formula_core.specs.declared.ground.GroundLabel.{GroundLabel}
use Rattle.formula_core.specs.declared.ground.Values.{Values}
use Rattle.name_order.specs.ByNumber.Inside.{has, is_ahead, names_in, the_names, AreNormalNames}
use Rattle.name_order.specs.ByNumber.Seeing.{sees, Sees}
use Rattle.name_order.specs.Keeping.{keep}
use Rattle.name_order.specs.declared.inside.Search.{Search}
use Rattle.name_order.proofs.KeepingLaws.{any-among, none-among}
use Rattle.tableau_core.specs.Numbered.Ahead.{bound}
use Rattle.tableau_core.proofs.Numbered.AheadLaws.{insert-bound}

-- ---- tests of any

or-twice : (a b : Bool) → (a || b) ≡ (a || (a || b))
or-twice true b = refl
or-twice false b = refl

-- the middle goes behind
or-last : (a b c : Bool) → ((a || b) || c) ≡ ((a || c) || (b || false))
or-last true b c = refl
or-last false true true = refl
or-last false true false = refl
or-last false false true = refl
or-last false false false = refl

pub has-append : (n : Name) (xs ys : List Name) → has n (xs ++ ys) ≡ (has n xs || has n ys)
has-append n [] ys = refl
has-append n (x ∷ xs) ys = ap (λ b. name_eq n x || b) (has-append n xs ys) ∙ or-assoc (name_eq n x) (has n xs) (has n ys)

-- a name that is kept
has-kept : (n x : Name) (ks : List Name) (b : Bool) → list_any (name_eq x) ks ≡ b → has n (if b then ks else ks ++ x ∷ []) ≡ (has n ks || name_eq n x)
has-kept n x ks false e = has-append n ks (x ∷ []) ∙ ap (λ b. has n ks || b) (or_false (name_eq n x))
has-kept n x ks true e = by (name_eq n x) refl
  where
    by : (c : Bool) → name_eq n x ≡ c → has n ks ≡ (has n ks || c)
    by true g = let here : has n ks ≡ true = ap (λ m. has m ks) ((name_eq-tells n x).0 g) ∙ e in rw here refl
    by false g = sym (or_false (has n ks))

-- a number that is put among the others
insert-any : (f : ℕ → Bool) (ks : List ℕ) (k : ℕ) → list_any f (insert_key nat_cmp ks k) ≡ (f k || list_any f ks)
insert-any f [] k = refl
insert-any f (x ∷ ks) k = by (nat_cmp k x) refl (insert-any f ks k)
  where
    by : (o : Ordering) → o ≡ nat_cmp k x → list_any f (insert_key nat_cmp ks k) ≡ (f k || list_any f ks) → list_any f (match_ordering o (k ∷ x ∷ ks) (x ∷ ks) (x ∷ insert_key nat_cmp ks k)) ≡ (f k || (f x || list_any f ks))
    by Less e h = refl
    by Equal e h = let same : k ≡ x = ranked k x Equal e in or-twice (f x) (list_any f ks) ∙ ap (λ j. f j || (f x || list_any f ks)) (sym same)
    by Greater e h = ap (λ b. f x || b) h ∙ or-swap (f x) (f k) (list_any f ks)

append-any : (f : ℕ → Bool) (ks : List ℕ) (k : ℕ) → list_any f (ks ++ k ∷ []) ≡ (list_any f ks || f k)
append-any f [] k = or_false (f k)
append-any f (x ∷ ks) k = ap (λ b. f x || b) (append-any f ks k) ∙ or-assoc (f x) (list_any f ks) (f k)

-- ---- kinds

terms-kind : (l : GroundList) → (terms_in l ≡ [] → ⊥) → names_in l ≡ names_of_terms (g_terms_tree (terms_in l))
terms-kind (of_terms ts) h = refl
terms-kind (of_marks ms) h = absurd (h refl)
terms-kind (of_values vs) h = absurd (h refl)

marks-kind : (l : GroundList) → (marks_in l ≡ [] → ⊥) → names_in l ≡ names_of_marks (marks_tree (marks_in l))
marks-kind (of_terms ts) h = absurd (h refl)
marks-kind (of_marks ms) h = refl
marks-kind (of_values vs) h = absurd (h refl)

values-kind : (l : GroundList) → (values_in l ≡ [] → ⊥) → names_in l ≡ names_of_values (values_tree (values_in l))
values-kind (of_terms ts) h = absurd (h refl)
values-kind (of_marks ms) h = absurd (h refl)
values-kind (of_values vs) h = refl

pub of-each : (l : GroundList) → names_of_terms (g_terms_tree (terms_in l)) ++ (names_of_marks (marks_tree (marks_in l)) ++ names_of_values (values_tree (values_in l))) ≡ names_in l
of-each (of_terms ts) = append-nil (names_of_terms (g_terms_tree ts))
of-each (of_marks ms) = append-nil (names_of_marks (marks_tree ms))
of-each (of_values vs) = refl

pub filled : {A : Type 0} (xs : List A) (n : ℕ) (b : Bool) → n ≡ length xs → b ≡ (n == 0) → b ≡ false → xs ≡ [] → ⊥
filled xs n b m e t z = let none : length xs ≡ 0 = ap length z in true≢false (grind (arith, nat_tests, m, e, t, none))

pub empty : {A : Type 0} (xs : List A) (n : ℕ) (b : Bool) → n ≡ length xs → b ≡ (n == 0) → b ≡ true → xs ≡ []
empty [] n b m e t = refl
empty (x ∷ xs) n b m e t = absurd (true≢false (sym t ∙ e ∙ grind (arith, nat_tests, m)))

-- ---- steps

module _ (ls : List GroundList) where
  pub sees-none : (s : Search) → AreNormalNames ls s.names.keys → Sees ls s s []
  sees-none s h = record { normal = h; seen = λ n. sym (or_false (sees ls s n)) }

  pub sees-both : (a b c : Search) (xs ys : List Name) → Sees ls a b xs → Sees ls b c ys → Sees ls a c (xs ++ ys)
  sees-both a b c xs ys h g = record { normal = g.normal; seen = λ n. g.seen n ∙ ap (λ z. z || has n ys) (h.seen n) ∙ sym (or-assoc (sees ls a n) (has n xs) (has n ys)) ∙ ap (λ z. sees ls a n || z) (sym (has-append n xs ys)) }

  pub sees-cons : (a b c : Search) (x : Name) (ys : List Name) → Sees ls a b (x ∷ []) → Sees ls b c ys → Sees ls a c (x ∷ ys)
  sees-cons a b c x ys h g = sees-both a b c (x ∷ []) ys h g

  pub sees-kept : (old new : Search) (x : Name) → AreNormalNames ls new.names.keys → the_names ls new.names.keys ≡ keep name_eq (the_names ls old.names.keys) x → new.ahead.keys ≡ old.ahead.keys → Sees ls old new (x ∷ [])
  sees-kept old new x h e a = record {
    normal = h;
    seen = λ n.
        ap (λ ns. has n ns || is_ahead ls new.ahead.keys n) e
        ∙ ap (λ ks. has n (keep name_eq (the_names ls old.names.keys) x) || is_ahead ls ks n) a
        ∙ ap (λ b. b || is_ahead ls old.ahead.keys n) (has-kept n x (the_names ls old.names.keys) (list_any (name_eq x) (the_names ls old.names.keys)) refl)
        ∙ or-last (has n (the_names ls old.names.keys)) (name_eq n x) (is_ahead ls old.ahead.keys n);
  }

  sees-put : (old new : Search) (k : ℕ) → AreNormalNames ls old.names.keys → new.names.keys ≡ old.names.keys → new.ahead.keys ≡ insert_key nat_cmp old.ahead.keys k → Sees ls old new (names_in (list_at ls k))
  sees-put old new k h e a = record {
    normal = subst (AreNormalNames ls) (sym e) h;
    seen = λ n.
        ap (λ ks. has n (the_names ls ks) || is_ahead ls new.ahead.keys n) e
        ∙ ap (λ ks. has n (the_names ls old.names.keys) || is_ahead ls ks n) a
        ∙ ap (λ b. has n (the_names ls old.names.keys) || b) (insert-any (λ j. has n (names_in (list_at ls j))) old.ahead.keys k)
        ∙ turn (has n (the_names ls old.names.keys)) (has n (names_in (list_at ls k))) (is_ahead ls old.ahead.keys n);
  }
    where
      turn : (a b c : Bool) → (a || (b || c)) ≡ ((a || c) || b)
      turn true b c = refl
      turn false true true = refl
      turn false true false = refl
      turn false false true = refl
      turn false false false = refl

  pub terms-put : (old new : Search) (list : GroundTerms) (n : ℕ) (b : Bool) → AreNormalNames ls old.names.keys → n ≡ length (the_terms ls list) → b ≡ (n == 0) → b ≡ false → new.names.keys ≡ old.names.keys → new.ahead.keys ≡ insert_key nat_cmp old.ahead.keys list.0 → Sees ls old new (names_of_terms (g_terms_tree (the_terms ls list)))
  terms-put old new list n b h m e t k a = subst (Sees ls old new) (terms-kind (list_at ls list.0) (filled (the_terms ls list) n b m e t)) (sees-put old new list.0 h k a)

  pub label-put : (old new : Search) (list : GroundLabel) (n : ℕ) (b : Bool) → AreNormalNames ls old.names.keys → n ≡ length (the_marks ls list) → b ≡ (n == 0) → b ≡ false → new.names.keys ≡ old.names.keys → new.ahead.keys ≡ insert_key nat_cmp old.ahead.keys list.0 → Sees ls old new (names_of_marks (marks_tree (the_marks ls list)))
  label-put old new list n b h m e t k a = subst (Sees ls old new) (marks-kind (list_at ls list.0) (filled (the_marks ls list) n b m e t)) (sees-put old new list.0 h k a)

  pub values-put : (old new : Search) (list : Values) (n : ℕ) (b : Bool) → AreNormalNames ls old.names.keys → n ≡ length (the_values ls list) → b ≡ (n == 0) → b ≡ false → new.names.keys ≡ old.names.keys → new.ahead.keys ≡ insert_key nat_cmp old.ahead.keys list.0 → Sees ls old new (names_of_values (values_tree (the_values ls list)))
  values-put old new list n b h m e t k a = subst (Sees ls old new) (values-kind (list_at ls list.0) (filled (the_values ls list) n b m e t)) (sees-put old new list.0 h k a)

  -- one item of a list, and those behind it
  pub see-step : {X : Type 0} (names : List X → List Name) (one : X → List Name) → ((x : X) (xs : List X) → names (x ∷ xs) ≡ one x ++ names xs) → (now new : Search) (xs : List X) (i : ℕ) (x d : X) (all : Name → Bool) → i < length xs → x ≡ get_or xs i d → Sees ls now new (one x) → ((n : Name) → (sees ls now n || has n (names (drop i xs))) ≡ all n) → (n : Name) → (sees ls new n || has n (names (drop (i + 1) xs))) ≡ all n
  see-step names one more now new xs i x d all lt e h k n =
      let rest = names (drop (i + 1) xs) in
      ap (λ b. b || has n rest) (h.seen n)
      ∙ sym (or-assoc (sees ls now n) (has n (one x)) (has n rest))
      ∙ ap (λ b. sees ls now n || b) (sym (has-append n (one x) rest))
      ∙ ap (λ ns. sees ls now n || has n ns) (sym (more x (drop (i + 1) xs)) ∙ ap (λ y. names (y ∷ drop (i + 1) xs)) e ∙ sym (at_drop_more names xs i d lt))
      ∙ k n

  pub see-end : {X : Type 0} (names : List X → List Name) → names [] ≡ [] → (old now : Search) (xs : List X) (i : ℕ) (ns : List Name) → length xs ≤ i → AreNormalNames ls now.names.keys → ((n : Name) → (sees ls now n || has n (names (drop i xs))) ≡ (sees ls old n || has n ns)) → Sees ls old now ns
  see-end names none old now xs i ns past h k = record { normal = h; seen = λ n. sym (or_false (sees ls now n)) ∙ ap (λ ms. sees ls now n || has n ms) (sym none ∙ sym (at_drop_all names xs i past)) ∙ k n }

  pub seen-end : {X : Type 0} (names : List X → List Name) → names [] ≡ [] → (now : Search) (xs : List X) (i : ℕ) (all : Name → Bool) → length xs ≤ i → ((n : Name) → (sees ls now n || has n (names (drop i xs))) ≡ all n) → (n : Name) → sees ls now n ≡ all n
  seen-end names none now xs i all past k n = sym (or_false (sees ls now n)) ∙ ap (λ ms. sees ls now n || has n ms) (sym none ∙ sym (at_drop_all names xs i past)) ∙ k n

  -- the highest list was taken out, and has been looked at
  pub see-popped : (old popped new : Search) (k : ℕ) → popped.names.keys ≡ old.names.keys → old.ahead.keys ≡ popped.ahead.keys ++ k ∷ [] → Sees ls popped new (names_in (list_at ls k)) → (n : Name) → sees ls new n ≡ sees ls old n
  see-popped old popped new k e a h n =
      h.seen n
      ∙ ap (λ ks. (has n (the_names ls ks) || is_ahead ls popped.ahead.keys n) || has n (names_in (list_at ls k))) e
      ∙ sym (or-assoc (has n (the_names ls old.names.keys)) (is_ahead ls popped.ahead.keys n) (has n (names_in (list_at ls k))))
      ∙ ap (λ b. has n (the_names ls old.names.keys) || b) (sym (append-any (λ j. has n (names_in (list_at ls j))) popped.ahead.keys k))
      ∙ ap (λ ks. has n (the_names ls old.names.keys) || is_ahead ls ks n) (sym a)

pub bound-same : (m : ℕ) (ks us : List ℕ) → us ≡ ks → bound ks ≤ m → bound us ≤ m
bound-same m ks us e h = let same = ap bound e in omega (arith, same, h)

pub ruleset arms = (sees-cons, bound-same)

-- a list that is put ahead is lower
pub put-bound : {A : Type 0} (xs : List A) (n k m : ℕ) (b : Bool) (ks more : List ℕ) → (m ≤ k → xs ≡ []) → n ≡ length xs → b ≡ (n == 0) → b ≡ false → more ≡ insert_key nat_cmp ks k → bound ks ≤ m → bound more ≤ m
put-bound xs n k m b ks more lower l e t a le =
    let inside = below (cases_lt k m) in
    let most = insert-bound ks k in
    let same = ap bound a in
    omega (arith, inside, most, same, le)
  where
    below : (k < m) ⊎ (m ≤ k) → k < m
    below (inl h) = h
    below (inr h) = absurd (filled xs n b l e t (lower h))

-- what is seen is what stands there
pub has-among : (ns ks : List Name) → ((n : Name) → has n ns ≡ has n ks) → (n : Name) → Contains ns n ↔ Contains ks n
has-among ns ks h n = (over ns ks (λ m. h m), over ks ns (λ m. sym (h m)))
  where
    over : (xs ys : List Name) → ((m : Name) → has m xs ≡ has m ys) → Contains xs n → Contains ys n
    over xs ys e k = contains-among ys n (any-among name_eq name_eq-tells ys n (sym (e n) ∙ there (has n xs) refl))
      where
        there : (b : Bool) → has n xs ≡ b → has n xs ≡ true
        there true g = g
        there false g = absurd (none-among name_eq name_eq-tells xs n g (among-contains xs n k))
