-- The characters of homes alone: what is inside them is inside the values of their eigenvariable.
use Rattle.std.proofs.Common.{◌≡◌, ◌⊎◌, ◌↔◌, ℕ, List, [], ◌∷◌, ◌++◌, map, drop, Contains, ◌==◌, true, arith, refl, sym, ap, subst, inl, inr}
use Rattle.std.proofs.lemmas.Bool.{eqb-true}
use Rattle.std.specs.List.{flat_map, IsDistinct}
use Rattle.calculus.specs.Ground.{GroundMark, Marks, Value, g_fun, g_eigen, common, own, g_new_mark, g_spare_mark, no_marks, more_marks, steps, marks_list, values_list}
use Rattle.calculus.specs.Instances.{Turn}
use Rattle.calculus.specs.Lists.{values_tree-values_list}
use Rattle.calculus.specs.Skolem.{label_of}
use Rattle.calculus.specs.Syntax.{Problem}
use Rattle.calculus.proofs.EqualityLaws.{Tells}
use Rattle.calculus.proofs.Members.{Among, contains-among, among-contains, among-left, among-right, among-append, among-joined, joined-among}
use Rattle.conversion_theory.specs.Numbering.{name_eq, names_inside}
use Rattle.conversion_theory.specs.Turns.{Name, term_name, mark_name, names_of_mark, names_of_marks, names_of_value, names_of_values, names_of_home}
use Rattle.conversion_theory.proofs.HomeMarks.{Each, each-label}
use Rattle.conversion_theory.proofs.NumberLaws.{IsWhole, name_eq-tells, whole-joined, whole-value}
use Rattle.name_order.specs.ByNumber.Inside.{home_marks, with_marks, all_with_marks}
use Rattle.name_order.specs.ByNumber.Naming.{AreGathered}
use Rattle.name_order.specs.ByNumber.Waiting.{WaitFor}
use Rattle.name_order.specs.Found.{before_in, introducer_in, introducers_in, listed}
use Rattle.name_order.specs.Keeping.{keep_all}
use Rattle.name_order.specs.Mentioned.{gathered, introduced_in, mentioned_in, names_in, names_in_turn, with_home, with_homes}
use Rattle.name_order.specs.Places.{Place}
use Rattle.name_order.proofs.KeepingLaws.{kept-distinct, kept-more, kept-only}
use Rattle.name_order.proofs.MentionLaws.{names-in-values, same-kept}

among-map : {A B : Type 0} (f : A → B) (xs : List A) (x : A) → Among xs x → Among (map f xs) (f x)
among-map f [] x h = elim h [ ]
among-map f (y ∷ ys) x (inl e) = inl (ap f e)
among-map f (y ∷ ys) x (inr h) = inr (among-map f ys x h)

mapped-among : {A B : Type 0} (f : A → B) (xs : List A) (y : B) → Among (map f xs) y → (x : A) × Among xs x × (f x ≡ y)
mapped-among f [] y h = elim h [ ]
mapped-among f (x ∷ xs) y (inl e) = (x, inl refl, e)
mapped-among f (x ∷ xs) y (inr h) = let r = mapped-among f xs y h in (r.0, inr r.1, r.2)

mark-head : (m : GroundMark) → names_of_mark m ≡ mark_name m ∷ names_inside (mark_name m)
mark-head (g_new_mark p vs) = refl
mark-head (g_spare_mark k) = refl

mark-among : (w : Marks) (m : GroundMark) → Among (marks_list w) m → Among (names_of_marks w) (mark_name m)
mark-among no_marks m h = elim h [ ]
mark-among (more_marks x ms) m (inl e) = among-left (names_of_mark x) (names_of_marks ms) (mark_name m) (subst (λ ns. Among ns (mark_name m)) (sym (mark-head x)) (inl (ap mark_name e)))
mark-among (more_marks x ms) m (inr h) = among-right (names_of_mark x) (names_of_marks ms) (mark_name m) (mark-among ms m h)

-- the names inside the characters of a home are in the values
inside-label : (P : Problem) (p : ℕ) (vs : List Value) → Each (λ m. (n : Name) → Among (names_inside (mark_name m)) n → Among (flat_map names_of_value vs) n) (label_of P p vs)
inside-label P p vs = each-label (λ m. (n : Name) → Among (names_inside (mark_name m)) n → Among (flat_map names_of_value vs) n) vs (record {
  given = λ us ws s e m i n k. subst (λ xs. Among (flat_map names_of_value xs) n) e (joined-among names_of_value (us ++ steps s ∷ ws) (steps s) n (among-right us (steps s ∷ ws) (steps s) (inl refl)) (whole-value (steps s) (mark_name m) (mark-among s m i) n k));
  made = λ q us ws e n k. (let r = among-joined names_of_value us n (subst (λ ns. Among ns n) (names-in-values us) k) in subst (λ xs. Among (flat_map names_of_value xs) n) e (joined-among names_of_value (us ++ ws) r.0 n (among-left us ws r.0 r.1) r.2));
}) P p

marks-in : (P : Problem) (m n : Name) → Among (home_marks P m) n → Among (names_of_home P m) n
marks-in P (term_name (g_eigen p vs)) n h =
    let r = mapped-among mark_name (label_of P p (values_list vs)) n h in
    joined-among names_of_mark (label_of P p (values_list vs)) r.0 n r.1 (subst (λ ns. Among ns n) (sym (mark-head r.0)) (inl r.2))
marks-in P (term_name (g_fun f ts)) n h = elim h [ ]
marks-in P (term_name (common k)) n h = elim h [ ]
marks-in P (term_name (own k w)) n h = elim h [ ]
marks-in P (mark_name m) n h = elim h [ ]

-- a name in a home is one of its characters or inside the name
home-or : (P : Problem) (m n : Name) → Among (names_of_home P m) n → Among (home_marks P m) n ⊎ Among (names_inside m) n
home-or P (term_name (g_eigen p vs)) n h =
    let label = label_of P p (values_list vs) in
    let r = among-joined names_of_mark label n h in
    elim (subst (λ ns. Among ns n) (mark-head r.0) r.2) [
      | inl e ↦ inl (subst (Among (map mark_name label)) e (among-map mark_name label r.0 r.1))
      | inr k ↦ inr (subst (λ us. Among (names_of_values us) n) (values_tree-values_list vs) (subst (λ ns. Among ns n) (sym (names-in-values (values_list vs))) (inside-label P p (values_list vs) r.0 r.1 n k)))
    ]
home-or P (term_name (g_fun f ts)) n h = elim h [ ]
home-or P (term_name (common k)) n h = elim h [ ]
home-or P (term_name (own k w)) n h = elim h [ ]
home-or P (mark_name m) n h = elim h [ ]

module _ (P : Problem) (all ns ks : List Name) (whole : IsWhole all) (first : (m : Name) → Among ns m ↔ Among all m) (second : (m : Name) → Among ks m ↔ Among all m) where
  over : (m : Name) → Among ns m → Among ks m
  over m h = (second m).1 ((first m).0 h)

  back : (m : Name) → Among ks m → Among ns m
  back m h = (first m).1 ((second m).0 h)

  pub homes-into : (n : Name) → Among (all_with_marks P ns) n → Among (with_homes P ks) n
  homes-into n h = let r = among-joined (with_marks P) ns n h in elim r.2 [
    | inl e ↦ joined-among (with_home P) ks r.0 n (over r.0 r.1) (inl e)
    | inr i ↦ joined-among (with_home P) ks r.0 n (over r.0 r.1) (inr (marks-in P r.0 n i))
  ]

  pub homes-from : (n : Name) → Among (with_homes P ks) n → Among (all_with_marks P ns) n
  homes-from n h = let r = among-joined (with_home P) ks n h in elim r.2 [
    | inl e ↦ joined-among (with_marks P) ns r.0 n (back r.0 r.1) (inl e)
    | inr i ↦ elim (home-or P r.0 n i) [
      | inl k ↦ joined-among (with_marks P) ns r.0 n (back r.0 r.1) (inr k)
      | inr k ↦ joined-among (with_marks P) ns n n ((first n).1 (whole r.0 ((second r.0).0 r.1) n k)) (inl refl)
    ]
  ]

whole-in : (vs : List Value) → IsWhole (names_in vs)
whole-in vs = subst IsWhole (sym (names-in-values vs)) (whole-joined names_of_value vs (λ v i. whole-value v))

both-ways : (ns ks : List Name) → ((n : Name) → Contains ns n ↔ Contains ks n) → (n : Name) → Among ns n ↔ Among ks n
both-ways ns ks h n = (λ k. among-contains ks n ((h n).0 (contains-among ns n k)), λ k. among-contains ns n ((h n).1 (contains-among ks n k)))

-- ---- the names of turns

pub names-gathered : (P : Problem) (ps : List Place) (xs : List Turn) (inside names : List Name) → ((n : Name) → Contains inside n ↔ Contains (flat_map names_in_turn xs) n) → names ≡ keep_all name_eq (keep_all name_eq [] (all_with_marks P inside)) (flat_map (introduced_in ps) xs) → AreGathered P ps xs names
unfolding IsDistinct
names-gathered P ps xs inside names h e = record {
  all = λ n. (λ k. contains-among names n (subst (λ ns. Among ns n) (sym e) (into n (among-contains (gathered P ps xs) n k))), λ k. contains-among (gathered P ps xs) n (out n (subst (λ ns. Among ns n) e (among-contains names n k))));
  once = subst (IsDistinct name_eq) (sym e) (kept-distinct name_eq name_eq-tells homes (flat_map (introduced_in ps) xs) (kept-distinct name_eq name_eq-tells [] (all_with_marks P inside) tt));
}
  where
    homes : List Name
    homes = keep_all name_eq [] (all_with_marks P inside)

    known : List Name
    known = flat_map names_in_turn xs

    kept : List Name
    kept = keep_all name_eq [] known

    whole : IsWhole known
    whole = whole-joined names_in_turn xs (λ x i. whole-in x.values)

    into : (n : Name) → Among (gathered P ps xs) n → Among (keep_all name_eq homes (flat_map (introduced_in ps) xs)) n
    into n k = kept-more name_eq name_eq-tells homes (flat_map (introduced_in ps) xs) n (elim (among-append (with_homes P kept) (flat_map (introduced_in ps) xs) n k) [
      | inl i ↦ inl ((same-kept (all_with_marks P inside) n).1 (homes-from P known inside kept whole (both-ways inside known h) (same-kept known) n i))
      | inr i ↦ inr i
    ])

    out : (n : Name) → Among (keep_all name_eq homes (flat_map (introduced_in ps) xs)) n → Among (gathered P ps xs) n
    out n k = elim (kept-only name_eq name_eq-tells homes (flat_map (introduced_in ps) xs) n k) [
      | inl i ↦ among-left (with_homes P kept) (flat_map (introduced_in ps) xs) n (homes-into P known inside kept whole (both-ways inside known h) (same-kept known) n ((same-kept (all_with_marks P inside) n).0 i))
      | inr i ↦ among-right (with_homes P kept) (flat_map (introduced_in ps) xs) n i
    ]

-- ---- what a turn waits for

number-tells : Tells ◌==◌
number-tells i j = (λ e. eqb-true i j e, λ e. subst (λ k. (i == k) ≡ true) e (grind arith))

pub waits-for : (P : Problem) (ps : List Place) (ks : List (List ℕ)) (x : Turn) (inside : List Name) (w : List ℕ) → ((n : Name) → Contains inside n ↔ Contains (names_in (drop (before_in ps x) x.values)) n) → w ≡ keep_all ◌==◌ [] (introducers_in ps ks (all_with_marks P inside)) → WaitFor P ps ks x w
waits-for P ps ks x inside w h e k = (
  λ m. contains-among (introducers_in ps ks (mentioned_in P vs)) k (into (elim (kept-only ◌==◌ number-tells [] (introducers_in ps ks (all_with_marks P inside)) k (subst (λ u. Among u k) e (among-contains w k m))) [ inl i ↦ elim i [ ] | inr i ↦ i ])),
  λ m. contains-among w k (subst (λ u. Among u k) (sym e) (kept-more ◌==◌ number-tells [] (introducers_in ps ks (all_with_marks P inside)) k (inr (out (among-contains (introducers_in ps ks (mentioned_in P vs)) k m))))),
)
  where
    vs : List Value
    vs = drop (before_in ps x) x.values

    into : Among (introducers_in ps ks (all_with_marks P inside)) k → Among (introducers_in ps ks (mentioned_in P vs)) k
    into m = let r = among-joined (λ n. listed (introducer_in ps ks n)) (all_with_marks P inside) k m in joined-among (λ n. listed (introducer_in ps ks n)) (mentioned_in P vs) r.0 k (homes-into P (names_in vs) inside (keep_all name_eq [] (names_in vs)) (whole-in vs) (both-ways inside (names_in vs) h) (same-kept (names_in vs)) r.0 r.1) r.2

    out : Among (introducers_in ps ks (mentioned_in P vs)) k → Among (introducers_in ps ks (all_with_marks P inside)) k
    out m = let r = among-joined (λ n. listed (introducer_in ps ks n)) (mentioned_in P vs) k m in joined-among (λ n. listed (introducer_in ps ks n)) (all_with_marks P inside) r.0 k (homes-from P (names_in vs) inside (keep_all name_eq [] (names_in vs)) (whole-in vs) (both-ways inside (names_in vs) h) (same-kept (names_in vs)) r.0 r.1) r.2
