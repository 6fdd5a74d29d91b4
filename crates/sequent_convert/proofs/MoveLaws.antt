-- What the functions of the loop do is among its moves.
use Rattle.std.proofs.Common.{◌≡◌, ◌⊎◌, ℕ, suc, ◌+◌, List, [], ◌∷◌, ◌++◌, length, map, take, drop, reverse, Bool, true, false, Contains, refl, sym, ◌∙◌, ap, subst, inl, inr, slice_get, Some}
use Rattle.calculus.specs.declared.kind.Shape.{Shape}
use Rattle.calculus.specs.declared.kind.Shape.TheVariants.{Beta, Literal}
use Rattle.calculus.specs.Kinds.{Signed, shape_of, components}
use Rattle.calculus.specs.Positions.{size}
use Rattle.calculus.specs.Derivations.{ModalArg, TermArg, apply_to, close, no_term}
use Rattle.calculus.specs.Text.{is_number}
use Rattle.calculus.specs.Tableaux.{Closings}
use Rattle.conversion_theory.specs.Branches.{Item, rests, grows, splits}
use Rattle.conversion_theory.specs.Leading.{ends_at, turns_before}
use Rattle.conversion_theory.proofs.FollowLaws.{has_one_part}
use Rattle.sequent_convert.specs.AheadView.{Ahead, IsExtended}
use Rattle.sequent_convert.specs.RunView.{own_values}
use Rattle.sequent_convert.specs.State.{Basis, Waiting, State, turns_at, IsAxiom, Works, WorksOnNone, made_of, ComesFor, IsFirst, IsForkAhead, IsLiteralAhead, first_turns, first_part, second_part, IsDoneAhead, Begins, BeginsNot, resumed, with_step, Moves, closes, skips, stays, adds, forks_ahead, forks_other, passes, to_first, to_second, extends}

-- ---- axioms

pub close-last : (B : Basis) (s r : State) (given shown : ℕ) → IsAxiom B s.items given shown → s.waiting ≡ [] → r ≡ record s { is_open = false; steps = s.steps ++ close given shown ∷ [] } → Moves B s r
close-last B s r given shown a none e = subst (Moves B s) (sym (e ∙ ap (resumed (with_step s (close given shown))) (sym none))) (closes given shown a)

pub close-next : (B : Basis) (s r : State) (given shown : ℕ) (w : Waiting) (ws : List Waiting) → IsAxiom B s.items given shown → s.waiting ≡ w ∷ ws → r ≡ record s { steps = s.steps ++ close given shown ∷ []; items = take w.nodes s.items ++ w.node ∷ []; done = take w.done s.done; ahead = w.ahead; waiting = ws } → Moves B s r
close-next B s r given shown w ws a some e = subst (Moves B s) (sym (e ∙ ap (resumed (with_step s (close given shown))) (sym some))) (closes given shown a)

-- ---- turns

-- the turn works on the item at the place
abbrev pub WorksThere : Basis → State → ℕ → ℕ → Type 0
WorksThere B s k n = (i : Item) × (slice_get s.items n ≡ Some i) × Works B k i (own_values B k i)

pub move-skips : (B : Basis) (s r : State) (first k : ℕ) → IsFirst s first → ComesFor B s.done first k → WorksOnNone B k s.items → r ≡ record s { done = s.done ++ k ∷ [] } → Moves B s r
move-skips B s r first k f comes none e = subst (Moves B s) (sym e) (skips first k f.0 f.1 comes none)

pub move-stays : (B : Basis) (s r : State) (first k n : ℕ) → IsFirst s first → ComesFor B s.done first k → (w : WorksThere B s k n) → is_number (suc n) ≡ true → ((i : Item) → slice_get s.items n ≡ Some i → rests ≡ made_of B i (own_values B k i)) → r ≡ record s { done = s.done ++ k ∷ [] } → Moves B s r
move-stays B s r first k n f comes w number same e = subst (Moves B s) (sym e) (stays first k f.0 n w.0 (own_values B k w.0) f.1 comes w.1 number w.2 (sym (same w.0 w.1)))

pub move-adds : (B : Basis) (s r : State) (first k n : ℕ) (m : ModalArg) (u : TermArg) (added : List Item) → IsFirst s first → ComesFor B s.done first k → (w : WorksThere B s k n) → is_number (suc n) ≡ true → ((i : Item) → slice_get s.items n ≡ Some i → grows m u added ≡ made_of B i (own_values B k i)) → r ≡ record s { steps = s.steps ++ apply_to (suc n) m u ∷ []; items = s.items ++ added; done = s.done ++ k ∷ [] } → Moves B s r
move-adds B s r first k n m u added f comes w number same e = subst (Moves B s) (sym e) (adds first k f.0 n w.0 (own_values B k w.0) m u added f.1 comes w.1 number w.2 (sym (same w.0 w.1)))

abbrev fork_state : State → ℕ → ℕ → ModalArg → Item → Item → Ahead → Ahead → State
fork_state s k n m p q here there = record s { steps = s.steps ++ apply_to (suc n) m no_term ∷ []; items = s.items ++ p ∷ []; done = s.done ++ k ∷ []; ahead = here; waiting = record { nodes = length s.items; done = length s.done + 1; node = q; ahead = there } ∷ s.waiting }

-- the turn ahead
pub move-forks : (B : Basis) (s r : State) (k n : ℕ) (m : ModalArg) (p q : Item) (here there : Ahead) → IsFirst s k → ComesFor B s.done k k → (w : WorksThere B s k n) → is_number (suc n) ≡ true → ((i : Item) → slice_get s.items n ≡ Some i → splits m p q ≡ made_of B i (own_values B k i)) → ((j : ℕ) (ks : List ℕ) → s.ahead.turns ≡ j ∷ ks → (here ≡ first_part B q.spot.position ks s.ahead) × (there ≡ second_part B q.spot.position ks s.ahead)) → r ≡ fork_state s k n m p q here there → Moves B s r
move-forks B s r k n m p q here there f comes w number same parts e =
    let both = parts k f.0 f.1 in
    subst (Moves B s) (sym (e ∙ (λ i. fork_state s k n m p q (both.0 i) (both.1 i)))) (forks_ahead k f.0 n w.0 (own_values B k w.0) m p q f.1 comes.next w.1 number w.2 (sym (same w.0 w.1)))

-- another turn
pub move-forks_other : (B : Basis) (s r : State) (first k n : ℕ) (m : ModalArg) (p q : Item) (here there : Ahead) → IsFirst s first → ComesFor B s.done first k → (first ≡ k → ⊥) → (w : WorksThere B s k n) → is_number (suc n) ≡ true → ((i : Item) → slice_get s.items n ≡ Some i → splits m p q ≡ made_of B i (own_values B k i)) → (here ≡ s.ahead) × (there ≡ s.ahead) → r ≡ fork_state s k n m p q here there → Moves B s r
move-forks_other B s r first k n m p q here there f comes other w number same both e =
    subst (Moves B s) (sym (e ∙ (λ i. fork_state s k n m p q (both.0 i) (both.1 i)))) (forks_other first k f.0 n w.0 (own_values B k w.0) m p q f.1 comes other w.1 number w.2 (sym (same w.0 w.1)))

-- ---- the turn ahead is done

-- the item j at the place is that on which the turn ahead was made
pub made-ahead : (B : Basis) (s : State) (k n : ℕ) (f : IsFirst s k) → Contains s.done k → (w : WorksThere B s k n) → IsDoneAhead B s k f.0 w.0 (own_values B k w.0)
made-ahead B s k n f done w = record { first = f.1; done = done; place = n; at = w.1; works = w.2 }

pub move-passes : (B : Basis) (s r : State) (k n : ℕ) (j : Item) (shape : Shape) → IsFirst s k → Contains s.done k → (w : WorksThere B s k n) → j ≡ w.0 → shape ≡ shape_of j.sign j.formula → has_one_part shape ≡ true → r ≡ record s { ahead = record { turns = drop 1 s.ahead.turns; ends = s.ahead.ends; instance = s.ahead.instance } } → Moves B s r
move-passes B s r k n j shape f done w same is one e =
    subst (Moves B s) (sym (e ∙ (λ i. record s { ahead = record { turns = drop 1 (f.1 i); ends = s.ahead.ends; instance = s.ahead.instance } })))
    (passes k f.0 w.0 (own_values B k w.0) (made-ahead B s k n f done w) (ap has_one_part (sym (is ∙ ap (λ (i : Item). shape_of i.sign i.formula) same)) ∙ one))

pub literal-ahead : (B : Basis) (s : State) (k n : ℕ) (j : Item) → IsFirst s k → Contains s.done k → (w : WorksThere B s k n) → j ≡ w.0 → Literal ≡ shape_of j.sign j.formula → IsLiteralAhead B s
literal-ahead B s k n j f done w same is = record { turn = k; turns = f.0; item = w.0; own = own_values B k w.0; made = made-ahead B s k n f done w; shape = sym (is ∙ ap (λ (i : Item). shape_of i.sign i.formula) same) }

pub fork-ahead : (B : Basis) (s : State) (second k n : ℕ) (j : Item) (a b : Signed) → IsFirst s k → Contains s.done k → (w : WorksThere B s k n) → j ≡ w.0 → Beta ≡ shape_of j.sign j.formula → a ∷ b ∷ [] ≡ components j.sign j.formula → second ≡ j.spot.position + suc (size a.formula) → IsForkAhead B s second
fork-ahead B s second k n j a b f done w same is parts begins = record {
  turn = k;
  turns = f.0;
  item = w.0;
  own = own_values B k w.0;
  left = a;
  right = b;
  made = made-ahead B s k n f done w;
  shape = sym (is ∙ ap (λ (i : Item). shape_of i.sign i.formula) same);
  parts = sym (parts ∙ ap (λ (i : Item). components i.sign i.formula) same);
  begins = begins ∙ ap (λ (i : Item). i.spot.position + suc (size a.formula)) same;
}

pub move-first : (B : Basis) (s r : State) (second : ℕ) (d : IsForkAhead B s second) (turns : List ℕ) → turns ≡ first_turns B second d.turns → Begins B s.items turns → r ≡ record s { ahead = first_part B second d.turns s.ahead } → Moves B s r
move-first B s r second d turns same begin e =
    subst (Moves B s) (sym (e ∙ ap (λ p. record s { ahead = first_part B p d.turns s.ahead }) d.begins)) (to_first d.turn d.turns d.item d.own d.left d.right d.made d.shape d.parts (subst (Begins B s.items) (same ∙ ap (λ p. first_turns B p d.turns) d.begins) begin))

pub move-second : (B : Basis) (s r : State) (second : ℕ) (d : IsForkAhead B s second) (turns : List ℕ) → turns ≡ drop (turns_before second (turns_at B d.turns)) d.turns → Begins B s.items turns → r ≡ record s { ahead = second_part B second d.turns s.ahead } → Moves B s r
move-second B s r second d turns same begin e =
    subst (Moves B s) (sym (e ∙ ap (λ p. record s { ahead = second_part B p d.turns s.ahead }) d.begins)) (to_second d.turn d.turns d.item d.own d.left d.right d.made d.shape d.parts (inl (subst (Begins B s.items) (same ∙ ap (λ p. drop (turns_before p (turns_at B d.turns)) d.turns) d.begins) begin)))

pub move-other : (B : Basis) (s r : State) (second : ℕ) (d : IsForkAhead B s second) (turns : List ℕ) → turns ≡ first_turns B second d.turns → BeginsNot B s.items turns → r ≡ record s { ahead = second_part B second d.turns s.ahead } → Moves B s r
move-other B s r second d turns same none e =
    subst (Moves B s) (sym (e ∙ ap (λ p. record s { ahead = second_part B p d.turns s.ahead }) d.begins)) (to_second d.turn d.turns d.item d.own d.left d.right d.made d.shape d.parts (inr (subst (BeginsNot B s.items) (same ∙ ap (λ p. first_turns B p d.turns) d.begins) none)))

pub move-extends : (B : Basis) (s r : State) (d : IsLiteralAhead B s) (place : ℕ) (below : Closings) (turns : List ℕ) → IsExtended s.ahead.ends place below → slice_get B.named.order s.ahead.instance ≡ Some turns → r ≡ record s { ahead = record { turns = turns; ends = ends_at place below; instance = s.ahead.instance + 1 } } → Moves B s r
move-extends B s r d place below turns x at e = subst (Moves B s) (sym e) (extends d.turn d.turns d.item d.own x.instance place below x.rest turns d.made d.shape x.first at)
