-- Ranks by rounds: where a round changes nothing, no cell needs itself; where ranks still rise after as many rounds as there are cells, one does.
use Rattle.std.proofs.Common.{◌≡◌, ◌⊎◌, ℕ, zero, suc, ◌+◌, ◌<◌, ◌≤◌, List, [], ◌∷◌, drop, length, true, false, refl, sym, ◌∙◌, ap, subst, None, Some, slice_get, slice_index_or, inl, inr, arith, if◌then◌else◌}
use Rattle.std.proofs.lemmas.Bool.{cases_lt, false≢true}
use Rattle.plain_laws.proofs.Places.{get-there, get-within}
use Rattle.calculus.specs.declared.sort.Sort.{Sort}
use Rattle.calculus.specs.declared.sort.Sort.TheVariants.{TermSort, MarkSort, StringSort}
use Rattle.store_theory.specs.Bindings.{IsWellFormed}
use Rattle.store_theory.specs.Stores.{Cell, variable, fun_cell, eigen_cell, new_cell, string_cell, Store, EndsAt, stays, goes_on, is_bound, parts_of}
use Rattle.store_theory.proofs.BindingLaws.{ends-on, ends-once}
use Rattle.search_theory.proofs.NeedRanks.{need_rank, ranked-by_no_need_cycle}
use Rattle.search_theory.specs.SpareRules.{HasNoNeedCycle, NeedsCells, Needs, at_once, by_way, SpareRule, homes, needed}
use Rattle.search_theory.proofs.RuleLaws.{IsRankedBy}
use Rattle.search_theory.specs.CellsIn.{IsPart}
use Rattle.domain_cond.specs.Ranks.{IsAbove, IsRankOf, IsRound, rank_at}
use Rattle.domain_cond.specs.Leaves.{is_among}
use Rattle.domain_cond.specs.Standings.{Standing, home_marks}

-- ---- numbers at places

pub rank-get : (ns : List ℕ) (r : ℕ) → slice_index_or ns r 0 ≡ rank_at ns r
rank-get [] r = refl
rank-get (n ∷ ns) zero = refl
rank-get (n ∷ ns) (suc r) = rank-get ns r

pub rank-there : (ns : List ℕ) (r b : ℕ) → slice_get ns r ≡ Some b → rank_at ns r ≡ b
rank-there [] r b e = cc e
rank-there (n ∷ ns) zero b e = cc e
rank-there (n ∷ ns) (suc r) b e = rank-there ns r b e

pub rank-beyond : (ns : List ℕ) (r : ℕ) → length ns ≤ r → rank_at ns r ≡ 0
rank-beyond [] r l = refl
rank-beyond (n ∷ ns) zero l = absurd (omega (arith, l))
rank-beyond (n ∷ ns) (suc r) l = rank-beyond ns r (omega (arith, l))

-- ---- the least number above others

above-part : (f : ℕ → ℕ) (ks : List ℕ) (b k : ℕ) → IsAbove f ks b → IsPart k ks → f k < b
above-part f ks b k h (i, at) = h.each i k (get-within ks i k at) at

-- it is no greater than another number above them
above-least : (f : ℕ → ℕ) (ks : List ℕ) (b m : ℕ) → IsAbove f ks b → ((k : ℕ) → IsPart k ks → f k < m) → b ≤ m
above-least f ks b m h all = elim h.least [
  | inl e ↦ omega (arith, e)
  | inr w ↦ (let l = all w.1 (w.0, w.2) in let e = w.3 in omega (arith, l, e))
]

above-same : (f g : ℕ → ℕ) (ks : List ℕ) (a b : ℕ) → IsAbove f ks a → IsAbove g ks b → ((k : ℕ) → IsPart k ks → f k ≡ g k) → b ≡ a
above-same f g ks a b h k same =
    let one = above-least f ks a b h (λ x p. let l = above-part g ks b x k p in let e = same x p in omega (arith, l, e)) in
    let two = above-least g ks b a k (λ x p. let l = above-part f ks a x h p in let e = same x p in omega (arith, l, e)) in
    omega (arith, one, two)

-- ---- homes by the rest of the list

pub home-found : (ts : List Standing) (v i : ℕ) (t : Standing) → home_marks (drop i ts) v ≡ home_marks ts v → slice_get ts i ≡ Some t → is_among t.leaves v ≡ true → home_marks ts v ≡ t.marks
home-found ts v i t h at among = sym h ∙ by ts i at
  where
    by : (ts : List Standing) (i : ℕ) → slice_get ts i ≡ Some t → home_marks (drop i ts) v ≡ t.marks
    by [] i e = cc e
    by (x ∷ xs) zero e = let q : x ≡ t = cc e in ap (λ (y : Standing). home_marks (y ∷ xs) v) q ∙ ap (λ b. if b then t.marks else home_marks xs v) among
    by (x ∷ xs) (suc i) e = by xs i e

pub home-next : (ts : List Standing) (v i : ℕ) (t : Standing) → home_marks (drop i ts) v ≡ home_marks ts v → slice_get ts i ≡ Some t → is_among t.leaves v ≡ false → home_marks (drop (i + 1) ts) v ≡ home_marks ts v
home-next ts v i t h at among = ap (λ n. home_marks (drop n ts) v) (let q : i + 1 ≡ suc i = omega arith in q) ∙ by ts i at ∙ h
  where
    by : (ts : List Standing) (i : ℕ) → slice_get ts i ≡ Some t → home_marks (drop (suc i) ts) v ≡ home_marks (drop i ts) v
    by [] i e = cc e
    by (x ∷ xs) zero e = let q : x ≡ t = cc e in sym (ap (λ (y : Standing). home_marks (y ∷ xs) v) q ∙ ap (λ b. if b then t.marks else home_marks xs v) among)
    by (x ∷ xs) (suc i) e = by xs i e

-- ---- the rank of one cell

parts-needed : (home : ℕ → List ℕ) (e : ℕ) (c : Cell) → is_bound c ≡ false → ¬ (c ≡ variable TermSort None) → parts_of c ≡ needed (homes home) e c
parts-needed home e (variable TermSort None) b other = absurd (other refl)
parts-needed home e (variable MarkSort None) b other = refl
parts-needed home e (variable StringSort None) b other = refl
parts-needed home e (variable sort (Some k)) b other = absurd (false≢true (sym b))
parts-needed home e (fun_cell f rs) b other = refl
parts-needed home e (eigen_cell f rs) b other = refl
parts-needed home e (new_cell f rs) b other = refl
parts-needed home e (string_cell rs) b other = refl

pub rank-parts : (home : ℕ → List ℕ) (s : Store) (f : ℕ → ℕ) (r e b : ℕ) (c : Cell) (ks : List ℕ) → EndsAt s r e → slice_get s.cells e ≡ Some c → is_bound c ≡ false → ¬ (slice_get s.cells e ≡ Some (variable TermSort None)) → ks ≡ parts_of c → IsAbove f ks b → IsRankOf (homes home) s f r b
rank-parts home s f r e b c ks ends at unbound other is h = (e, c, ends, at, subst (λ xs. IsAbove f xs b) (is ∙ parts-needed home e c unbound (λ same. other (at ∙ ap Some same))) h)

-- ---- one round

pub record RoundTo (R : SpareRule) (s : Store) (f : ℕ → ℕ) (ns : List ℕ) (i : ℕ) : Type 0 where
  pub count : length ns ≡ i
  pub each : (r b : ℕ) → slice_get ns r ≡ Some b → IsRankOf R s f r b

pub round-whole : (R : SpareRule) (s : Store) (f : ℕ → ℕ) (ns : List ℕ) (i n : ℕ) → i ≡ n → RoundTo R s f ns i → IsRound R s n f (rank_at ns)
round-whole R s f ns i n e h = record {
  inside = λ r l. (let q = get-there ns r (let c = h.count in omega (arith, l, e, c)) in subst (IsRankOf R s f r) (sym (rank-there ns r q.0 q.1)) (h.each r q.0 q.1));
  outside = λ r l. rank-beyond ns r (let c = h.count in omega (arith, l, e, c));
}

-- ---- all rounds

-- after i rounds: no number is above that of ranks, and those below i stay
pub record IsRanking (R : SpareRule) (s : Store) (n : ℕ) (f : ℕ → ℕ) (i : ℕ) : Type 0 where
  pub small : (r : ℕ) → f r ≤ i
  pub stays : (g : ℕ → ℕ) → IsRound R s n f g → (r : ℕ) → r < n → f r < i → g r ≡ f r
  pub below : (rank : ℕ → ℕ) → IsRankedBy R s rank (suc n) → ((r : ℕ) → f r ≤ rank r) × (i ≤ n + 1)

-- an end is no higher than what leads to it
end-below : (R : SpareRule) (s : Store) (rank : ℕ → ℕ) (bound r e : ℕ) → IsRankedBy R s rank bound → EndsAt s r e → rank e ≤ rank r
end-below R s rank bound r e h (stays at b) = omega arith
end-below R s rank bound r e h (goes_on {k = k} {sort = sort} at more) =
    let l = h.falls r k (variable sort (Some k)) at (0, refl) in
    let m = end-below R s rank bound k e h more in
    omega (arith, l, m)

same-end : (s : Store) (r a b : ℕ) (c d : Cell) → EndsAt s r a → EndsAt s r b → slice_get s.cells a ≡ Some c → slice_get s.cells b ≡ Some d → (a ≡ b) × (c ≡ d)
same-end s r a b c d e f at bt = let q = ends-once s r a b e f in (q, (let z : Some c ≡ Some d = sym at ∙ ap (slice_get s.cells) q ∙ bt in cc z))

-- one that is outside has the number 0
round-below : (R : SpareRule) (s : Store) (n : ℕ) (f g : ℕ → ℕ) (m : ℕ) → IsRound R s n f g → ((r : ℕ) → r < n → g r ≤ m) → (r : ℕ) → g r ≤ m
round-below R s n f g m h all r = elim (cases_lt r n) [
  | inl l ↦ all r l
  | inr l ↦ (let z = h.outside r l in omega (arith, z))
]

pub ranking-next : (R : SpareRule) (s : Store) (n i : ℕ) (f g : ℕ → ℕ) → n ≡ length s.cells → NeedsCells R s → IsRanking R s n f i → IsRound R s n f g → ((r : ℕ) × (r < n) × (¬ (g r ≡ f r))) → IsRanking R s n g (i + 1)
ranking-next R s n i f g count cells h round (q, q-within, differs) = record {
  small = λ r. round-below R s n f g (i + 1) round (λ x l. small x (round.inside x l)) r;
  stays = λ g' next r l m. (
      let (e, c, ends, at, above) = round.inside r l in
      let (e', c', ends', at', above') = next.inside r l in
      let same = same-end s r e' e c' c ends' ends at' at in
      let there : IsAbove g (needed R e c) (g' r) = subst (λ x. IsAbove g (needed R x c) (g' r)) same.0 (subst (λ x. IsAbove g (needed R e' x) (g' r)) same.1 above') in
      above-same f g (needed R e c) (g r) (g' r) above there (λ k p.
      let d = cells e k c at p in
      let k-within = get-within s.cells k d.0 d.1 in
      let low = above-part f (needed R e c) (g r) k above p in
      sym (h.stays g round k (omega (arith, count, k-within)) (omega (arith, low, m)))));
  below = λ rank ranked. (
      let (under, time) = h.below rank ranked in
      ((λ r. bounded rank ranked under r), late rank ranked under time));
}
  where
    small : (x : ℕ) → IsRankOf R s f x (g x) → g x ≤ i + 1
    small x (e, c, ends, at, above) = above-least f (needed R e c) (g x) (i + 1) above (λ k p. let z = h.small k in omega (arith, z))

    bounded : (rank : ℕ → ℕ) → IsRankedBy R s rank (suc n) → ((r : ℕ) → f r ≤ rank r) → (r : ℕ) → g r ≤ rank r
    bounded rank ranked under r = elim (cases_lt r n) [
      | inl l ↦ (
          let (e, c, ends, at, above) = round.inside r l in
          let end = end-below R s rank (suc n) r e ranked ends in
          let z = above-least f (needed R e c) (g r) (rank e) above (λ k p. let a = under k in let b = ranked.falls e k c at p in omega (arith, a, b)) in
          omega (arith, z, end))
      | inr l ↦ (let z = round.outside r l in omega (arith, z))
    ]

    late : (rank : ℕ → ℕ) → IsRankedBy R s rank (suc n) → ((r : ℕ) → f r ≤ rank r) → i ≤ n + 1 → i + 1 ≤ n + 1
    late rank ranked under time = elim (cases_lt (f q) i) [
      | inl l ↦ absurd (differs (h.stays g round q q-within l))
      | inr l ↦ (let a = under q in let b = ranked.below q in omega (arith, a, b, l))
    ]

-- too many rounds
pub ranking-cycle : (R : SpareRule) (s : Store) (n i : ℕ) (f : ℕ → ℕ) → n ≡ length s.cells → NeedsCells R s → IsRanking R s n f i → n + 2 ≤ i → ¬ HasNoNeedCycle R s
ranking-cycle R s n i f count cells h l none =
    let time = (h.below (need_rank R s) (subst (λ m. IsRankedBy R s (need_rank R s) (suc m)) (sym count) (ranked-by_no_need_cycle R s cells none))).1 in
    omega (arith, time, l)

-- ---- a round that changes nothing

-- the number falls, or it stays and the rank of the store falls
Falls : (ℕ → ℕ) → (ℕ → ℕ) → ℕ → ℕ → Type 0
Falls f rank k r = (f k < f r) ⊎ ((f k ≡ f r) × (rank k < rank r))

falls-both : (f rank : ℕ → ℕ) (k j r : ℕ) → Falls f rank k j → Falls f rank j r → Falls f rank k r
unfolding Falls
falls-both f rank k j r (inl a) (inl b) = inl (omega (arith, a, b))
falls-both f rank k j r (inl a) (inr b) = inl (let e = b.0 in omega (arith, a, e))
falls-both f rank k j r (inr a) (inl b) = inl (let e = a.0 in omega (arith, b, e))
falls-both f rank k j r (inr a) (inr b) = inr (a.0 ∙ b.0, (let x = a.1 in let y = b.1 in omega (arith, x, y)))

pub round-ranks : (R : SpareRule) (s : Store) (n : ℕ) (f g : ℕ → ℕ) → IsWellFormed s → n ≡ length s.cells → NeedsCells R s → IsRound R s n f g → ((r : ℕ) → r < n → g r ≡ f r) → HasNoNeedCycle R s
unfolding Falls
round-ranks R s n f g well count cells round same r cycle = elim (chain r r cycle) [
  | inl l ↦ omega (arith, l)
  | inr l ↦ (let z = l.1 in omega (arith, z))
]
  where
    rank : ℕ → ℕ
    rank = well.rank.0

    within : (k : ℕ) (d : Cell) → slice_get s.cells k ≡ Some d → k < n
    within k d at = let l = get-within s.cells k d at in omega (arith, l, count)

    -- what a cell without a binding needs
    at-end : (r k : ℕ) (c : Cell) → slice_get s.cells r ≡ Some c → is_bound c ≡ false → IsPart k (needed R r c) → Falls f rank k r
    at-end r k c at b p =
        let l = within r c at in
        let (e, d, ends, dt, above) = round.inside r l in
        let one = same-end s r e r d c ends (stays at b) dt at in
        let there : IsAbove f (needed R r c) (g r) = subst (λ x. IsAbove f (needed R x c) (g r)) one.0 (subst (λ x. IsAbove f (needed R e x) (g r)) one.1 above) in
        let low = above-part f (needed R r c) (g r) k there p in
        let z = same r l in
        inl (omega (arith, low, z))

    -- what a bound cell is bound to
    at-bound : (r k : ℕ) (sort : Sort) → slice_get s.cells r ≡ Some (variable sort (Some k)) → Falls f rank k r
    at-bound r k sort at =
        let d = cells r k (variable sort (Some k)) at (0, refl) in
        let l = within r (variable sort (Some k)) at in
        let m = within k d.0 d.1 in
        let (e, c, ends, et, above) = round.inside r l in
        let (e', c', ends', et', above') = round.inside k m in
        let one = same-end s k e' e c' c ends' (ends-on s r k e sort at ends) et' et in
        let there : IsAbove f (needed R e c) (g k) = subst (λ x. IsAbove f (needed R x c) (g k)) one.0 (subst (λ x. IsAbove f (needed R e' x) (g k)) one.1 above') in
        let z = above-same f f (needed R e c) (g r) (g k) above there (λ x p. refl) in
        let a = same r l in
        let b = same k m in
        inr ((let q : f k ≡ f r = omega (arith, z, a, b) in q), well.rank.1 0 r k (variable sort (Some k)) at refl)

    step : (r k : ℕ) (c : Cell) → slice_get s.cells r ≡ Some c → IsPart k (needed R r c) → Falls f rank k r
    step r k (variable sort None) at p = at-end r k (variable sort None) at refl p
    step r k (variable sort (Some j)) at (zero, e) = let q : j ≡ k = cc e in subst (λ x. Falls f rank x r) q (at-bound r j sort at)
    step r k (variable sort (Some j)) at (suc i, e) = cc e
    step r k (fun_cell h rs) at p = at-end r k (fun_cell h rs) at refl p
    step r k (eigen_cell h rs) at p = at-end r k (eigen_cell h rs) at refl p
    step r k (new_cell h rs) at p = at-end r k (new_cell h rs) at refl p
    step r k (string_cell rs) at p = at-end r k (string_cell rs) at refl p

    chain : (k r : ℕ) → Needs R s k r → Falls f rank k r
    chain k r (at_once {c = c} at p) = step r k c at p
    chain k r (by_way {j = j} {c = c} at p more) = falls-both f rank k j r (chain k j more) (step r j c at p)
