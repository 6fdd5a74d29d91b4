-- One step of the walk over an instance, for any walk below.
use Rattle.std.proofs.Common.{◌≡◌, ℕ, List, [], ◌∷◌, ◌++◌, take, drop, sym, ◌∙◌, ap, subst, append_assoc}
use Rattle.calculus.specs.declared.sign.Sign.{Sign}
use Rattle.calculus.specs.declared.sign.Side.{Side}
use Rattle.calculus.specs.declared.setting.Logic.{Logic}
use Rattle.calculus.specs.Ground.{Value}
use Rattle.calculus.specs.Kinds.{components, modal_of, shape_of}
use Rattle.calculus.specs.Syntax.{Formula}
use Rattle.formula_core.specs.GroundLists.{GroundList}
use Rattle.name_order.specs.ByNumber.ReachedView.{the_all}
use Rattle.name_order.specs.ByNumber.WalkView.{IsLeft}
use Rattle.name_order.specs.declared.reached.Reached.{Reached}
use Rattle.name_order.specs.declared.walk.Supply.{Supply}
use Rattle.name_order.specs.WalkView.{the_turn_at}
use Rattle.name_order.specs.Walks.{Walk, values_at, walk_node, walk}
use Rattle.name_order.proofs.WalkByShape.{walk_below, walk-by}

-- what a position and the part below it give
pub left-by : (l : Logic) (s : Sign) (f : Formula) (p n : ℕ) (taken own now vs more : List Value) (ss : List Side) (ls : List GroundList) (old mid new : List Reached) (left : Supply) (below : Walk) → n ≡ values_at (modal_of l s f) (shape_of s f) → own ≡ take n vs → now ≡ taken ++ own → the_all ls mid ≡ the_all ls old ++ the_turn_at p now ∷ [] → more ≡ drop n vs → below ≡ walk_below l (shape_of s f) (components s f) → IsLeft ls mid new left (below p now ss more) → IsLeft ls old new left (walk l f s p taken ss vs)
left-by l s f p n taken own now vs more ss ls old mid new left below count first extended reached rest part h =
    let k = values_at (modal_of l s f) (shape_of s f) in
    let tk = taken ++ take k vs in
    let given : now ≡ tk = extended ∙ ap (λ o. taken ++ o) (first ∙ ap (λ j. take j vs) count) in
    let behind : more ≡ drop k vs = rest ∙ ap (λ j. drop j vs) count in
    let w = walk_below l (shape_of s f) (components s f) p tk ss (drop k vs) in
    let same : below p now ss more ≡ w = λ i. part i p (given i) ss (behind i) in
    let g : IsLeft ls mid new left w = subst (λ x. IsLeft ls mid new left x) same h in
    let node : IsLeft ls old new left (walk_node k (walk_below l (shape_of s f) (components s f)) p taken ss vs) = record {
      turns = g.turns ∙ ap (λ ts. ts ++ w.turns) (reached ∙ ap (λ t. the_all ls old ++ the_turn_at p t ∷ []) given) ∙ append_assoc (the_all ls old) (the_turn_at p tk ∷ []) w.turns;
      sides = g.sides;
      values = g.values;
    } in
    subst (λ (x : Walk). IsLeft ls old new left (x p taken ss vs)) (sym (walk-by l s f)) node
