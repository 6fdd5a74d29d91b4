-- What a converter takes from the places: parents and those waited for come earlier, and once they are done a turn can come.
use Rattle.std.proofs.Common.{◌≡◌, ◌⊎◌, ℕ, ◌<◌, List, ◌++◌, length, take, drop, Option, Some, None, Contains, slice_get, refl, sym, ◌∙◌, ap, subst, inl, inr, take-append-drop}
use Rattle.std.specs.List.{flat_map}
use Rattle.std.specs.Option.{option_map_or}
use Rattle.calculus.specs.Ground.{Value}
use Rattle.calculus.specs.Instances.{Turn}
use Rattle.calculus.specs.Syntax.{Problem}
use Rattle.calculus.specs.Tableaux.{Tableau}
use Rattle.conversion_theory.specs.Turns.{Name, turns_of, names_of_value, names_of_home, names_mentioned, names_introduced, parent_position, IsParent, IsAgenda}
use Rattle.conversion_theory.proofs.AgendaLaws.{TurnOf}
use Rattle.conversion_theory.proofs.BranchLaws.{IsComplete}
use Rattle.conversion_theory.proofs.LedLaws.{CanCome, parent-done}
use Rattle.calculus.proofs.Members.{Among, among-contains, contains-among, among-left, among-right, among-append, among-joined, joined-among, contains-at, at-contains}
use Rattle.name_order.specs.Prerequisites.{ParentsTell, WaitsTell, own_part, count_before}
use Rattle.name_order.proofs.Collecting.{flat_map-append}

module _ (P : Problem) where
  abbrev Mentions : List Value → Name → Type 0
  Mentions vs n = Among (flat_map names_of_value vs ++ flat_map (names_of_home P) (flat_map names_of_value vs)) n

  values-split : (us vs : List Value) (n : Name) → Among (flat_map names_of_value (us ++ vs)) n → Among (flat_map names_of_value us) n ⊎ Among (flat_map names_of_value vs) n
  values-split us vs n h = among-append (flat_map names_of_value us) (flat_map names_of_value vs) n (subst (λ ns. Among ns n) (flat_map-append names_of_value us vs) h)

  values-joined : (us vs : List Value) (n : Name) → Among (flat_map names_of_value vs) n → Among (flat_map names_of_value (us ++ vs)) n
  values-joined us vs n h = subst (λ ns. Among ns n) (sym (flat_map-append names_of_value us vs)) (among-right (flat_map names_of_value us) (flat_map names_of_value vs) n h)

  at-value : (vs : List Value) (n : Name) → Among (flat_map names_of_value vs) n → Mentions vs n
  at-value vs n h = among-left (flat_map names_of_value vs) (flat_map (names_of_home P) (flat_map names_of_value vs)) n h

  at-home : (vs : List Value) (m n : Name) → Among (flat_map names_of_value vs) m → Among (names_of_home P m) n → Mentions vs n
  at-home vs m n h k = among-right (flat_map names_of_value vs) (flat_map (names_of_home P) (flat_map names_of_value vs)) n (joined-among (names_of_home P) (flat_map names_of_value vs) m n h k)

  -- what is mentioned by two lists of values is mentioned by one of them
  pub mention-split : (us vs : List Value) (n : Name) → Mentions (us ++ vs) n → Mentions us n ⊎ Mentions vs n
  mention-split us vs n h = elim (among-append (flat_map names_of_value (us ++ vs)) (flat_map (names_of_home P) (flat_map names_of_value (us ++ vs))) n h) [
    | inl i ↦ elim (values-split us vs n i) [ inl a ↦ inl (at-value us n a) | inr b ↦ inr (at-value vs n b) ]
    | inr i ↦ let r = among-joined (names_of_home P) (flat_map names_of_value (us ++ vs)) n i in elim (values-split us vs r.0 r.1) [ inl a ↦ inl (at-home us r.0 n a r.2) | inr b ↦ inr (at-home vs r.0 n b r.2) ]
  ]

  pub mention-right : (us vs : List Value) (n : Name) → Mentions vs n → Mentions (us ++ vs) n
  mention-right us vs n h = elim (among-append (flat_map names_of_value vs) (flat_map (names_of_home P) (flat_map names_of_value vs)) n h) [
    | inl i ↦ at-value (us ++ vs) n (values-joined us vs n i)
    | inr i ↦ let r = among-joined (names_of_home P) (flat_map names_of_value vs) n i in at-home (us ++ vs) r.0 n (values-joined us vs r.0 r.1) r.2
  ]

  own-mentioned : (c : ℕ) (vs : List Value) (n : Name) → Mentions (drop c vs) n → Mentions vs n
  own-mentioned c vs n h = subst (λ us. Mentions us n) (take-append-drop c vs) (mention-right (take c vs) (drop c vs) n h)

module _ (P : Problem) (t : Tableau) (agenda : List Turn) (ag : IsAgenda P t agenda) (parents : List (Option ℕ)) (told : ParentsTell P agenda parents) where
  pub parent-before : (i j : ℕ) (x : Turn) → slice_get agenda i ≡ Some x → slice_get parents i ≡ Some (Some j) → j < i
  parent-before i j x e h =
      let y = told.parent i j x h e in
      let b = ag.parents i x y.0 e y.2 in
      subst (λ k. k < i) (ag.once b.0 j y.0 b.2 y.1) b.1

  module _ (waits : List (List ℕ)) (waiting : WaitsTell P agenda parents waits) where
    pub waits-before : (i k : ℕ) (x : Turn) (p : Option ℕ) (w : List ℕ) → slice_get agenda i ≡ Some x → slice_get parents i ≡ Some p → slice_get waits i ≡ Some w → Contains w k → k < i
    waits-before i k x p w e h g c =
        let a = (waiting.each i x p w e h g k).0 c in
        let m = own-mentioned P (count_before agenda p) x.values a.1 (among-contains (names_mentioned P (own_part agenda p x)) a.1 a.3) in
        let here = (ag.all a.0).1 (contains-at agenda k a.0 a.2) in
        let b = ag.names i x a.0 a.1 e (contains-among (names_mentioned P x) a.1 m) here a.4 in
        subst (λ j. j < i) (ag.once b.0 k a.0 b.2 a.2) b.1

    -- its parent is done, and so are the turns that it waits for
    pub can-come : (done : List Turn) → IsComplete P t done → (i : ℕ) (x : Turn) (p : Option ℕ) (w : List ℕ) → slice_get agenda i ≡ Some x → slice_get parents i ≡ Some p → slice_get waits i ≡ Some w → (Among done x → ⊥) → ((j : ℕ) (y : Turn) → p ≡ Some j → slice_get agenda j ≡ Some y → Among done y) → ((k : ℕ) (y : Turn) → Contains w k → slice_get agenda k ≡ Some y → Among done y) → CanCome P t done x
    can-come done complete i x p w e h g new parent others = record {
      here = here;
      new = new;
      parents = λ z q. parent-done P t done x here (above p h parent) z q;
      names = λ z n k m q. elim (mention-split P (take (count_before agenda p) x.values) (drop (count_before agenda p) x.values) n (subst (λ us. Mentions P us n) (sym (take-append-drop (count_before agenda p) x.values)) m)) [
        | inl a ↦ inherited p h parent z n k q a
        | inr b ↦ let at = at-contains agenda z ((ag.all z).0 (contains-among (turns_of P t) z k)) in others at.0 z ((waiting.each i x p w e h g at.0).1 (z, n, at.1, contains-among (names_mentioned P (own_part agenda p x)) n b, contains-among (names_introduced P z) n q)) at.1
      ];
    }
      where
        here : TurnOf P t x
        here = among-contains (turns_of P t) x ((ag.all x).1 (contains-at agenda i x e))

        above : (o : Option ℕ) → slice_get parents i ≡ Some o → ((j : ℕ) (y : Turn) → o ≡ Some j → slice_get agenda j ≡ Some y → Among done y) → ((y : Turn) × IsParent P y x × Among done y) ⊎ (parent_position P x.position ≡ None)
        above None k f = inr (told.root i x k e)
        above (Some j) k f = let y = told.parent i j x k e in inl (y.0, y.2, f j y.0 refl y.1)

        inherited : (o : Option ℕ) → slice_get parents i ≡ Some o → ((j : ℕ) (y : Turn) → o ≡ Some j → slice_get agenda j ≡ Some y → Among done y) → (z : Turn) (n : Name) → TurnOf P t z → Among (names_introduced P z) n → Mentions P (take (count_before agenda o) x.values) n → Among done z
        inherited None k f z n c q a = elim a [ ]
        inherited (Some j) k f z n c q a =
            let y = told.parent i j x k e in
            let count : count_before agenda (Some j) ≡ length y.0.values = ap (λ o. option_map_or (λ (v : Turn). length v.values) o 0) y.1 in
            let same : take (count_before agenda (Some j)) x.values ≡ y.0.values = ap (λ m. take m x.values) count ∙ sym y.2.values in
            complete.names y.0 z n (f j y.0 refl y.1) c (subst (λ us. Mentions P us n) same a) q
