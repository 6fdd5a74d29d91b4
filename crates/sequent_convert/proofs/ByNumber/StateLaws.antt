-- What the functions of the loop ask of its state, by the lists of the table.
use Rattle.std.proofs.Common.{◌≡◌, ℕ, zero, suc, ◌<◌, List, [], ◌∷◌, map, length, get_or, drop, Some, None, sym, ◌∙◌, ap, subst, slice_get, arith}
use Rattle.std.proofs.lemmas.List.{length-map, drop-map}
use Rattle.std.proofs.lemmas.Option.{slice_get_within, slice_get-get_or}
use Rattle.calculus.specs.Instances.{Turn}
use Rattle.conversion_theory.specs.Leading.{is_literal_position}
use Rattle.formula_core.specs.GroundLists.{GroundList, the_value}
use Rattle.formula_core.specs.declared.ground.Value as value
use Rattle.name_order.specs.ByNumber.TurnView.{the_turn}
use Rattle.name_order.specs.declared.turn.Turn as program
use Rattle.sequent_convert.specs.State.{Basis, IsBasis, turn_at}
use Rattle.sequent_convert.proofs.TurnPlaces.{turn-is}
use Rattle.sequent_convert.proofs.StateLaws.{first-ahead, first-within, literals-step, item-within, some-ahead, head-of, head-within, parents-within, waits-within, parent-within, atoms-within}

pub agenda-length : (ls : List GroundList) (B : Basis) (xs : List program.Turn) → map (the_turn ls) xs ≡ B.named.agenda → length xs ≡ length B.named.agenda
agenda-length ls B xs e = sym (length-map xs (the_turn ls)) ∙ ap length e

map-at : (ls : List GroundList) (xs : List program.Turn) (k : ℕ) (x : program.Turn) → slice_get xs k ≡ Some x → slice_get (map (the_turn ls) xs) k ≡ Some (the_turn ls x)
map-at ls [] k x e = absurd (none-some e)
  where
    none-some : {A : Type 0} {a : A} → None ≡ Some a → ⊥
    none-some z = cc
map-at ls (y ∷ ys) zero x e = ap Some (ap (the_turn ls) (one-some y x e))
  where
    one-some : (u v : program.Turn) → Some u ≡ Some v → u ≡ v
    one-some u v q = cc
map-at ls (y ∷ ys) (suc k) x e = map-at ls ys k x e

-- what the agenda has at a place, whatever is read past its end
pub agenda-turn : (ls : List GroundList) (B : Basis) (xs : List program.Turn) (k : ℕ) (x d : program.Turn) → map (the_turn ls) xs ≡ B.named.agenda → k < length xs → x ≡ get_or xs k d → the_turn ls x ≡ turn_at B k
agenda-turn ls B xs k x d e lt read = sym (turn-is B k (the_turn ls x) (sym (ap (λ ys. slice_get ys k) e) ∙ map-at ls xs k x (slice_get-get_or xs k d lt ∙ ap Some (sym read))))

-- a position of the agenda has its place in the table of atoms
pub atom-within : (ls : List GroundList) (B : Basis) → IsBasis B → (xs : List program.Turn) (k : ℕ) (x d : program.Turn) → map (the_turn ls) xs ≡ B.named.agenda → k < length B.named.agenda → x ≡ get_or xs k d → x.position.0 < length B.atoms
atom-within ls B basis xs k x d e lt read =
    let same = ap (λ (y : Turn). y.position) (agenda-turn ls B xs k x d e (let n = agenda-length ls B xs e in omega (arith, n, lt)) read) in
    subst (λ p. p < length B.atoms) (sym same) (slice_get_within B.atoms (turn_at B k).position (is_literal_position B.problem (turn_at B k).position) (atoms-within B basis k lt))

pub atom-tells : (ls : List GroundList) (B : Basis) → IsBasis B → (xs : List program.Turn) (k : ℕ) (x d : program.Turn) → map (the_turn ls) xs ≡ B.named.agenda → k < length B.named.agenda → x ≡ get_or xs k d → slice_get B.atoms x.position.0 ≡ Some (is_literal_position B.problem (turn_at B k).position)
atom-tells ls B basis xs k x d e lt read =
    let same = ap (λ (y : Turn). y.position) (agenda-turn ls B xs k x d e (let n = agenda-length ls B xs e in omega (arith, n, lt)) read) in
    ap (slice_get B.atoms) same ∙ atoms-within B basis k lt

-- a turn's values behind the first n
pub own-part : (ls : List GroundList) (B : Basis) (xs : List program.Turn) (k n : ℕ) (x d : program.Turn) (vs own : List value.Value) → map (the_turn ls) xs ≡ B.named.agenda → k < length xs → x ≡ get_or xs k d → map (the_value ls) vs ≡ (the_turn ls x).values → own ≡ drop n vs → map (the_value ls) own ≡ drop n (turn_at B k).values
own-part ls B xs k n x d vs own e lt read items part = ap (map (the_value ls)) part ∙ sym (drop-map (the_value ls) n vs) ∙ ap (drop n) (items ∙ ap (λ (y : Turn). y.values) (agenda-turn ls B xs k x d e lt read))

pub ruleset states = (first-ahead, first-within, atom-within, atom-tells, literals-step, item-within, some-ahead, head-of, head-within, parents-within, waits-within, parent-within, agenda-length, agenda-turn, atoms-within)
