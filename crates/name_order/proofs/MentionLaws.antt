-- The names that are gathered are those that turns mention and introduce.
use Rattle.std.proofs.Common.{◌≡◌, ◌↔◌, List, [], ◌∷◌, ◌++◌, refl, sym, ap, subst, inl, inr}
use Rattle.std.specs.List.{flat_map}
use Rattle.calculus.specs.Ground.{Value}
use Rattle.calculus.specs.Instances.{Turn}
use Rattle.conversion_theory.specs.Numbering.{name_eq}
use Rattle.calculus.specs.Syntax.{Problem}
use Rattle.conversion_theory.specs.Turns.{Name, names_of_value, names_of_home, names_mentioned, names_introduced}
use Rattle.calculus.proofs.Members.{Among, among-left, among-right, among-append, among-joined, joined-among}
use Rattle.conversion_theory.proofs.NumberLaws.{name_eq-tells}
use Rattle.name_order.specs.Keeping.{keep_all}
use Rattle.name_order.specs.Mentioned.{names_in, with_home, with_homes, mentioned_in, names_in_turn, names_by}
use Rattle.name_order.proofs.KeepingLaws.{kept-more, kept-only}

pub names-in-values : (vs : List Value) → names_in vs ≡ flat_map names_of_value vs
names-in-values [] = refl
names-in-values (v ∷ vs) = ap (λ ns. names_of_value v ++ ns) (names-in-values vs)

-- names once each are among the same
pub same-kept : (ns : List Name) (n : Name) → Among (keep_all name_eq [] ns) n ↔ Among ns n
same-kept ns n = (
  λ h. elim (kept-only name_eq name_eq-tells [] ns n h) [ inl k ↦ elim k [ ] | inr k ↦ k ],
  λ h. kept-more name_eq name_eq-tells [] ns n (inr h),
)

homes-in : (P : Problem) (ns ks : List Name) (n : Name) → ((m : Name) → Among ns m → Among ks m) → Among (ns ++ flat_map (names_of_home P) ns) n → Among (with_homes P ks) n
homes-in P ns ks n h k = elim (among-append ns (flat_map (names_of_home P) ns) n k) [
  | inl i ↦ joined-among (with_home P) ks n n (h n i) (inl refl)
  | inr i ↦ let r = among-joined (names_of_home P) ns n i in joined-among (with_home P) ks r.0 n (h r.0 r.1) (inr r.2)
]

homes-out : (P : Problem) (ns ks : List Name) (n : Name) → ((m : Name) → Among ks m → Among ns m) → Among (with_homes P ks) n → Among (ns ++ flat_map (names_of_home P) ns) n
homes-out P ns ks n h k = let r = among-joined (with_home P) ks n k in elim r.2 [
  | inl e ↦ among-left ns (flat_map (names_of_home P) ns) n (subst (Among ns) e (h r.0 r.1))
  | inr i ↦ among-right ns (flat_map (names_of_home P) ns) n (joined-among (names_of_home P) ns r.0 n (h r.0 r.1) i)
]

-- what a turn mentions by its values
pub mentioned-same : (P : Problem) (x : Turn) (n : Name) → Among (keep_all name_eq [] (mentioned_in P x.values)) n ↔ Among (names_mentioned P x) n
mentioned-same P x n =
    let vs = flat_map names_of_value x.values in
    let same = names-in-values x.values in (
      λ h. homes-out P vs (keep_all name_eq [] (names_in x.values)) n (λ m k. subst (λ ns. Among ns m) same ((same-kept (names_in x.values) m).0 k)) ((same-kept (mentioned_in P x.values) n).0 h),
      λ h. (same-kept (mentioned_in P x.values) n).1 (homes-in P vs (keep_all name_eq [] (names_in x.values)) n (λ m k. (same-kept (names_in x.values) m).1 (subst (λ ns. Among ns m) (sym same) k)) h),
    )

-- what the turns of an agenda mention or introduce
pub names-same : (P : Problem) (xs ys : List Turn) → ((x : Turn) → Among xs x ↔ Among ys x) → (n : Name) → Among (keep_all name_eq [] (names_by P ys)) n ↔ Among (flat_map (λ x. names_mentioned P x ++ names_introduced P x) xs) n
names-same P xs ys h n = (λ k. out ((same-kept (names_by P ys) n).0 k), λ k. (same-kept (names_by P ys) n).1 (into k))
  where
    turn_names : Turn → List Name
    turn_names x = names_mentioned P x ++ names_introduced P x

    kept : List Name
    kept = keep_all name_eq [] (flat_map names_in_turn ys)

    known : (x : Turn) → Among ys x → (m : Name) → Among (flat_map names_of_value x.values) m → Among kept m
    known x i m k = (same-kept (flat_map names_in_turn ys) m).1 (joined-among names_in_turn ys x m i (subst (λ ns. Among ns m) (sym (names-in-values x.values)) k))

    into : Among (flat_map turn_names xs) n → Among (names_by P ys) n
    into k = let r = among-joined turn_names xs n k in elim (among-append (names_mentioned P r.0) (names_introduced P r.0) n r.2) [
      | inl m ↦ among-left (with_homes P kept) (flat_map (names_introduced P) ys) n (homes-in P (flat_map names_of_value r.0.values) kept n (known r.0 ((h r.0).0 r.1)) m)
      | inr i ↦ among-right (with_homes P kept) (flat_map (names_introduced P) ys) n (joined-among (names_introduced P) ys r.0 n ((h r.0).0 r.1) i)
    ]

    from : (m : Name) → Among kept m → (x : Turn) × Among xs x × Among (flat_map names_of_value x.values) m
    from m k = let r = among-joined names_in_turn ys m ((same-kept (flat_map names_in_turn ys) m).0 k) in (r.0, (h r.0).1 r.1, subst (λ ns. Among ns m) (names-in-values r.0.values) r.2)

    out : Among (names_by P ys) n → Among (flat_map turn_names xs) n
    out k = elim (among-append (with_homes P kept) (flat_map (names_introduced P) ys) n k) [
      | inl m ↦ let r = among-joined (with_home P) kept n m in let f = from r.0 r.1 in let vs = flat_map names_of_value f.0.values in joined-among turn_names xs f.0 n f.1 (among-left (names_mentioned P f.0) (names_introduced P f.0) n (elim r.2 [
        | inl e ↦ among-left vs (flat_map (names_of_home P) vs) n (subst (Among vs) e f.2)
        | inr i ↦ among-right vs (flat_map (names_of_home P) vs) n (joined-among (names_of_home P) vs r.0 n f.2 i)
      ]))
      | inr i ↦ let r = among-joined (names_introduced P) ys n i in joined-among turn_names xs r.0 n ((h r.0).1 r.1) (among-right (names_mentioned P r.0) (names_introduced P r.0) n r.2)
    ]
