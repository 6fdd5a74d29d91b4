-- The parents of turns, and what they wait for, by the keys of an agenda.
use Rattle.std.proofs.Common.{◌≡◌, ◌↔◌, ℕ, ◌+◌, ◌-◌, List, [], ◌∷◌, ◌++◌, length, take, drop, map, Bool, true, false, IsTrue, Option, Some, None, option_and_then, slice_get, arith, refl, sym, ◌∙◌, ap, subst, inl, inr, if◌then◌else◌, append-nil, append_assoc}
use Rattle.std.proofs.Math.Seq.{take-append_seam}
use Rattle.std.proofs.lemmas.List.{length-append, length-map}
use Rattle.std.specs.Option.{option_map_or}
use Rattle.plain_laws.proofs.Options.{none_some, some_injective}
use Rattle.calculus.specs.declared.sign.Sign.{Sign}
use Rattle.calculus.specs.declared.setting.Logic.{Logic}
use Rattle.calculus.specs.declared.kind.Shape.{Shape}
use Rattle.calculus.specs.declared.kind.Shape.TheVariants.{Literal, Alpha, Beta, Gamma, Delta}
use Rattle.calculus.specs.Ground.{Value, term, steps, g_fun, g_eigen, common, own, g_new_mark, g_spare_mark, values_tree, values_list}
use Rattle.calculus.specs.Instances.{Spot, GammaUse, Turn}
use Rattle.calculus.specs.Kinds.{shape_of, modal_of}
use Rattle.calculus.specs.Lists.{values_list-values_tree, values_tree-values_list}
use Rattle.conversion_theory.specs.Numbering.{name_eq}
use Rattle.calculus.specs.Positions.{Node, node}
use Rattle.calculus.specs.Skolem.{Reached, at_root, way_to, fits_along, fits_way}
use Rattle.calculus.specs.ComputedInstances.{reached_at}
use Rattle.calculus.specs.Syntax.{Formula, Problem}
use Rattle.calculus.specs.Tableaux.{Tableau}
use Rattle.conversion_theory.specs.Turns.{Name, term_name, mark_name, turns_of, names_mentioned, names_introduced, last_but_one, parent_position, IsParent, IsAgenda}
use Rattle.conversion_theory.proofs.AgendaLaws.{TurnOf, Anything, turn-works, work-position, work-way, last_but_one-two}
use Rattle.conversion_theory.proofs.HitLaws.{Moves, plain, by_string, by_character}
use Rattle.calculus.proofs.Members.{Among, among-contains, contains-among, among-at, joined-among, among-joined}
use Rattle.conversion_theory.proofs.NameLaws.{introduced-cases, introduced-eigen, introduced-mark}
use Rattle.conversion_theory.proofs.PlaceLaws.{Parent, HasParent, Work, Takes, nothing_more, one_term}
use Rattle.calculus.proofs.SpotLaws.{LeadsTo, fits-LeadsTo, is_gamma}
use Rattle.name_order.specs.Found.{find_in, above_in, before_in, parent_in, introducer_in, listed, waits_in}
use Rattle.name_order.specs.Keeping.{keep_all}
use Rattle.name_order.specs.Mentioned.{mentioned_in}
use Rattle.name_order.specs.Places.{Place, place, places_of, is_delta_in, is_pi_in}
use Rattle.name_order.specs.Prerequisites.{ParentsTell, IsAwaited, own_part, count_before}
use Rattle.name_order.specs.Walks.{strings_at, terms_at, values_at}
use Rattle.name_order.specs.WalkView.{the_turn_at}
use Rattle.name_order.specs.Words.{words_of_turn}
use Rattle.name_order.proofs.GuideLaws.{found-at, found-some}
use Rattle.name_order.proofs.MentionLaws.{mentioned-same}
use Rattle.name_order.proofs.NumberOrder.{at-map}
use Rattle.name_order.proofs.PlaceLaws.{place_along, place-at, above-is, delta-is, pi-is}

-- ---- the own values of a turn

moves-count : (l : Logic) (s : Sign) (f : Formula) (c d : Spot) → Moves l s f c d → (own : List Value) × (d.taken ≡ c.taken ++ own) × (length own ≡ strings_at (modal_of l s f))
moves-count l s f c d (plain e) = ([], sym (append-nil c.taken), rw e refl)
moves-count l s f c d (by_string w e g) = (steps w ∷ [], refl, rw e refl)
moves-count l s f c d (by_character e) = ([], sym (append-nil c.taken), rw e refl)

no-term : (h : Shape) → is_gamma h ≡ false → 0 ≡ terms_at h
no-term Literal e = refl
no-term Alpha e = refl
no-term Beta e = refl
no-term Gamma e = absurd cc
no-term Delta e = refl

takes-count : (G : GammaUse → Type 0) (h : Shape) (d : Spot) (x : Turn) → Takes G h d x → (own : List Value) × (x.values ≡ d.taken ++ own) × (length own ≡ terms_at h)
takes-count G h d x (nothing_more e) = ([], sym (append-nil d.taken), no-term h e)
takes-count G h d x (one_term t e g) = (term t ∷ [], refl, rw e refl)

own-count : (P : Problem) (T : Turn → Type 0) (G : GammaUse → Type 0) (V : Value → Type 0) (x : Turn) (w : Work P T G V x) → (own : List Value) × (x.values ≡ w.from.taken ++ own) × (length own ≡ values_at (modal_of P.setting.logic w.sign w.formula) (shape_of w.sign w.formula))
own-count P T G V x w =
    let a = takes-count G (shape_of w.sign w.formula) w.past x w.takes in
    let b = moves-count P.setting.logic w.sign w.formula w.from w.past w.moves in
    let n = length-append b.0 a.0 in
    let p = a.2 in
    let q = b.2 in
    (b.0 ++ a.0, a.1 ∙ ap (λ vs. vs ++ a.0) b.1 ∙ append_assoc w.from.taken b.0 a.0, omega (arith, n, p, q))

-- ---- what stands at the position of a turn

abbrev end_above : Option ℕ → List Node → Option ℕ
end_above up [] = up
end_above up (m ∷ ms) = end_above (Some m.position) ms

place-end : (l : Logic) (up : Option ℕ) (ns : List Node) (n : Node) → place_along l up (ns ++ n ∷ []) ≡ Some (place l (end_above up ns) n.sign n.formula)
place-end l up [] n = refl
place-end l up (m ∷ []) n = refl
place-end l up (m ∷ k ∷ ms) n = place-end l (Some m.position) (k ∷ ms) n

module _ (P : Problem) (t : Tableau) where
  abbrev WorkOf : Turn → Type 0
  WorkOf x = Work P (TurnOf P t) Anything Anything x

  place-of : (x : Turn) (w : WorkOf x) → slice_get (places_of P) x.position ≡ Some (place P.setting.logic (end_above None w.before) w.sign w.formula)
  place-of x w = place-at P x.position ∙ ap (place_along P.setting.logic None) (work-way P (TurnOf P t) Anything Anything x w) ∙ place-end P.setting.logic None w.before (node w.from.position w.sign w.formula)

  before-is : (x : Turn) (w : WorkOf x) → before_in (places_of P) x ≡ length w.from.taken
  before-is x w =
      let o = own-count P (TurnOf P t) Anything Anything x w in
      let n = ap length o.1 ∙ length-append w.from.taken o.0 in
      let k = o.2 in
      ap (λ p. option_map_or (λ (p : Place). length x.values - values_at p.modal p.shape) p 0) (place-of x w) ∙ counted (length x.values) (length w.from.taken) (length o.0) (values_at (modal_of P.setting.logic w.sign w.formula) (shape_of w.sign w.formula)) n k
    where
      counted : (a b c d : ℕ) → a ≡ b + c → c ≡ d → a - d ≡ b
      counted a b c d e g = omega arith

  before-taken : (x : Turn) (w : WorkOf x) → take (before_in (places_of P) x) x.values ≡ w.from.taken
  before-taken x w = let o = own-count P (TurnOf P t) Anything Anything x w in rw (before-is x w, o.1) (take-append_seam w.from.taken o.0)

  parent-fits : (x : Turn) (w : WorkOf x) (p : Parent P (TurnOf P t) w.before w.from) → IsTrue (fits_way P p.above.position p.above.values)
  parent-fits x w p =
      let l = P.setting.logic in
      let follow : LeadsTo l w.before (at_root w.from.taken) (reached_at w.from []) = subst (λ vs. LeadsTo l w.before (at_root vs) (reached_at w.from [])) (append-nil w.from.taken) (w.stood.stands.comes []) in
      ap (λ ns. fits_along l ns (at_root p.above.values)) (p.way ∙ sym (append-nil w.before)) ∙ ap (λ vs. fits_along l (w.before ++ []) (at_root vs)) p.values ∙ fits-LeadsTo l w.before [] (at_root w.from.taken) (reached_at w.from []) follow

  parent-position : (x : Turn) (w : WorkOf x) (p : Parent P (TurnOf P t) w.before w.from) → parent_position P x.position ≡ Some p.above.position
  parent-position x w p =
      let up = turn-works P t p.above p.among in
      let n = node w.from.position w.sign w.formula in
      let m = node up.from.position up.sign up.formula in
      let up_way = work-way P (TurnOf P t) Anything Anything p.above up in
      let way : way_to P x.position ≡ (up.before ++ m ∷ []) ++ n ∷ [] = work-way P (TurnOf P t) Anything Anything x w ∙ ap (λ ns. ns ++ n ∷ []) (sym p.way ∙ up_way) in
      ap last_but_one way ∙ last_but_one-two up.before m n ∙ ap Some (sym (work-position P (TurnOf P t) Anything Anything p.above up))

  above-parent : (x : Turn) (w : WorkOf x) (p : Parent P (TurnOf P t) w.before w.from) → IsParent P p.above x
  above-parent x w p =
      let o = own-count P (TurnOf P t) Anything Anything x w in
      record {
        position = parent-position x w p;
        values = sym (ap (λ n. take n x.values) (ap length p.values) ∙ ap (take (length w.from.taken)) o.1 ∙ take-append_seam w.from.taken o.0 ∙ sym p.values);
        fits = parent-fits x w p;
      }

  -- what is found for a turn
  pub data Tells (agenda : List Turn) (x : Turn) (o : Option ℕ) : Type 0 where
    is_root : o ≡ None → parent_position P x.position ≡ None → before_in (places_of P) x ≡ 0 → Tells agenda x o
    has_parent : (j : ℕ) (y : Turn) → o ≡ Some j → slice_get agenda j ≡ Some y → IsParent P y x → before_in (places_of P) x ≡ length y.values → Tells agenda x o

  module _ (agenda : List Turn) (keys : List (List ℕ)) (known : keys ≡ map words_of_turn agenda) (ag : IsAgenda P t agenda) where
    root-taken : (x : Turn) (w : WorkOf x) → w.before ≡ [] → w.from.taken ≡ []
    root-taken x w e = sym (ap (λ (r : Reached). r.taken) (subst (λ ns. LeadsTo P.setting.logic ns (at_root (w.from.taken ++ [])) (reached_at w.from [])) e (w.stood.stands.comes [])))

    parent-tells : (x : Turn) → Among agenda x → Tells agenda x (parent_in (places_of P) keys x)
    parent-tells x i = let w = turn-works P t x (among-contains (turns_of P t) x ((ag.all x).1 (contains-among agenda x i))) in by w w.parent
      where
        by : (w : WorkOf x) → HasParent P (TurnOf P t) w.before w.from → Tells agenda x (parent_in (places_of P) keys x)
        by w (inl e) =
            let none : above_in (places_of P) x.position ≡ None = ap (option_and_then (λ (z : Place). z.above)) (place-of x w) ∙ ap (end_above None) e in
            is_root (ap (option_and_then (λ q. find_in keys (the_turn_at q (take (before_in (places_of P) x) x.values)))) none) (sym (above-is P x.position) ∙ none) (before-is x w ∙ ap length (root-taken x w e))
        by w (inr p) =
            let some : above_in (places_of P) x.position ≡ Some p.above.position = above-is P x.position ∙ parent-position x w p in
            let same : the_turn_at p.above.position (take (before_in (places_of P) x) x.values) ≡ p.above = ap (the_turn_at p.above.position) (before-taken x w ∙ sym p.values) in
            let there = among-contains agenda p.above ((ag.all p.above).0 (contains-among (turns_of P t) p.above p.among)) in
            let found = found-some agenda keys known p.above there in
            has_parent found.0 p.above (ap (option_and_then (λ q. find_in keys (the_turn_at q (take (before_in (places_of P) x) x.values)))) some ∙ ap (find_in keys) same ∙ found.1) (found-at agenda keys known p.above found.0 found.1) (above-parent x w p) (before-is x w ∙ ap length (sym p.values))

    pub tells-at : (parents : List (Option ℕ)) → parents ≡ map (parent_in (places_of P) keys) agenda → (i : ℕ) (x : Turn) (o : Option ℕ) → slice_get parents i ≡ Some o → slice_get agenda i ≡ Some x → Tells agenda x o
    tells-at parents e i x o g h =
        let m = at-map (parent_in (places_of P) keys) agenda i o (subst (λ ps. slice_get ps i ≡ Some o) e g) in
        let same : m.0 ≡ x = some_injective m.0 (sym m.1 ∙ h) in
        subst (Tells agenda x) (ap (parent_in (places_of P) keys) (sym same) ∙ m.2) (parent-tells x (among-at agenda i x h))

    pub tells-parents : (parents : List (Option ℕ)) → parents ≡ map (parent_in (places_of P) keys) agenda → ParentsTell P agenda parents
    tells-parents parents e = record {
      count = ap length e ∙ length-map agenda (parent_in (places_of P) keys);
      parent = λ i j x g h. with_parent (tells-at parents e i x (Some j) g h);
      root = λ i x g h. without (tells-at parents e i x None g h);
    }
      where
        with_parent : {x : Turn} {j : ℕ} → Tells agenda x (Some j) → (y : Turn) × (slice_get agenda j ≡ Some y) × IsParent P y x
        with_parent (is_root n q b) = absurd (none_some (sym n))
        with_parent (has_parent k y q a r b) = (y, subst (λ i. slice_get agenda i ≡ Some y) (sym (some_injective _ q)) a, r)

        without : {x : Turn} → Tells agenda x None → parent_position P x.position ≡ None
        without (is_root n q b) = q
        without (has_parent k y q a r b) = absurd (none_some q)

    -- ---- what a turn waits for

    find-own : (y : Turn) (k : ℕ) → slice_get agenda k ≡ Some y → find_in keys y ≡ Some k
    find-own y k e =
        let f = found-some agenda keys known y (among-at agenda k y e) in
        let same = ag.once f.0 k y (found-at agenda keys known y f.0 f.1) e in
        f.1 ∙ ap Some same

    eigen-found : (y : Turn) (k : ℕ) → is_delta_in (places_of P) y.position ≡ true → find_in keys y ≡ Some k → introducer_in (places_of P) keys (term_name (g_eigen y.position (values_tree y.values))) ≡ Some k
    eigen-found y k d f = subst (λ b. (if b then find_in keys (the_turn_at y.position (values_list (values_tree y.values))) else None) ≡ Some k) (sym d) (subst (λ vs. find_in keys (the_turn_at y.position vs) ≡ Some k) (sym (values_list-values_tree y.values)) f)

    mark-found : (y : Turn) (k : ℕ) → is_pi_in (places_of P) y.position ≡ true → find_in keys y ≡ Some k → introducer_in (places_of P) keys (mark_name (g_new_mark y.position (values_tree y.values))) ≡ Some k
    mark-found y k d f = subst (λ b. (if b then find_in keys (the_turn_at y.position (values_list (values_tree y.values))) else None) ≡ Some k) (sym d) (subst (λ vs. find_in keys (the_turn_at y.position vs) ≡ Some k) (sym (values_list-values_tree y.values)) f)

    introducer-of : (y : Turn) (n : Name) (k : ℕ) → slice_get agenda k ≡ Some y → Among (names_introduced P y) n → introducer_in (places_of P) keys n ≡ Some k
    introducer-of y n k e h = elim (introduced-cases P y n h) [
      | inl c ↦ ap (introducer_in (places_of P) keys) c.1 ∙ eigen-found y k (delta-is P y.position ∙ c.0) (find-own y k e)
      | inr c ↦ ap (introducer_in (places_of P) keys) c.1 ∙ mark-found y k (pi-is P y.position ∙ c.0) (find-own y k e)
    ]

    abbrev Introduces : Name → ℕ → Type 0
    Introduces n k = (y : Turn) × (slice_get agenda k ≡ Some y) × Among (names_introduced P y) n

    introducer-is : (n : Name) (k : ℕ) → introducer_in (places_of P) keys n ≡ Some k → Introduces n k
    introducer-is (term_name (g_eigen p vs)) k e = by (is_delta_in (places_of P) p) refl
      where
        y : Turn
        y = the_turn_at p (values_list vs)

        by : (b : Bool) → is_delta_in (places_of P) p ≡ b → Introduces (term_name (g_eigen p vs)) k
        by true d = let f : find_in keys y ≡ Some k = subst (λ c. (if c then find_in keys y else None) ≡ Some k) d e in (y, found-at agenda keys known y k f, subst (λ us. Among (names_introduced P y) (term_name (g_eigen p us))) (values_tree-values_list vs) (introduced-eigen P y (sym (delta-is P p) ∙ d)))
        by false d = absurd (none_some (subst (λ c. (if c then find_in keys y else None) ≡ Some k) d e))
    introducer-is (term_name (g_fun f ts)) k e = absurd (none_some e)
    introducer-is (term_name (common m)) k e = absurd (none_some e)
    introducer-is (term_name (own m w)) k e = absurd (none_some e)
    introducer-is (mark_name (g_new_mark p vs)) k e = by (is_pi_in (places_of P) p) refl
      where
        y : Turn
        y = the_turn_at p (values_list vs)

        by : (b : Bool) → is_pi_in (places_of P) p ≡ b → Introduces (mark_name (g_new_mark p vs)) k
        by true d = let f : find_in keys y ≡ Some k = subst (λ c. (if c then find_in keys y else None) ≡ Some k) d e in (y, found-at agenda keys known y k f, subst (λ us. Among (names_introduced P y) (mark_name (g_new_mark p us))) (values_tree-values_list vs) (introduced-mark P y (sym (pi-is P p) ∙ d)))
        by false d = absurd (none_some (subst (λ c. (if c then find_in keys y else None) ≡ Some k) d e))
    introducer-is (mark_name (g_spare_mark m)) k e = absurd (none_some e)

    listed-is : (o : Option ℕ) (k : ℕ) → Among (listed o) k → o ≡ Some k
    listed-is None k h = elim h [ ]
    listed-is (Some j) k (inl e) = ap Some e
    listed-is (Some j) k (inr h) = elim h [ ]

    is-listed : (o : Option ℕ) (k : ℕ) → o ≡ Some k → Among (listed o) k
    is-listed o k e = subst (λ p. Among (listed p) k) (sym e) (inl refl)

    count-is : (x : Turn) (o : Option ℕ) → Tells agenda x o → count_before agenda o ≡ before_in (places_of P) x
    count-is x o (is_root n q b) = ap (count_before agenda) n ∙ sym b
    count-is x o (has_parent j y q a r b) = ap (count_before agenda) q ∙ ap (λ z. option_map_or (λ (v : Turn). length v.values) z 0) a ∙ sym b

    pub waits-is : (x : Turn) (o : Option ℕ) (k : ℕ) → Tells agenda x o → Among (waits_in P (places_of P) keys x) k ↔ IsAwaited P agenda o x k
    waits-is x o k told = (
      λ h. (let r = among-joined (λ n. listed (introducer_in (places_of P) keys n)) names k h in let i = introducer-is r.0 k (listed-is (introducer_in (places_of P) keys r.0) k r.2) in (i.0, r.0, i.1, contains-among (names_mentioned P (own_part agenda o x)) r.0 ((same r.0).0 r.1), contains-among (names_introduced P i.0) r.0 i.2)),
      λ h. joined-among (λ n. listed (introducer_in (places_of P) keys n)) names h.1 k ((same h.1).1 (among-contains (names_mentioned P (own_part agenda o x)) h.1 h.3)) (is-listed (introducer_in (places_of P) keys h.1) k (introducer-of h.0 h.1 k h.2 (among-contains (names_introduced P h.0) h.1 h.4))),
    )
      where
        names : List Name
        names = keep_all name_eq [] (mentioned_in P (drop (before_in (places_of P) x) x.values))

        same : (n : Name) → Among names n ↔ Among (names_mentioned P (own_part agenda o x)) n
        same n = subst (λ c. Among (keep_all name_eq [] (mentioned_in P (drop c x.values))) n ↔ Among (names_mentioned P (own_part agenda o x)) n) (count-is x o told) (mentioned-same P (own_part agenda o x) n)
