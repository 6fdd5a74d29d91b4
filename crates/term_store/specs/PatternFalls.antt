-- Each list of patterns is larger than the lists inside it, so a recursion over them ends.
use Rattle.std.specs.Prelude.{◌≡◌, ℕ, ◌<◌, ◌≤◌, max, List, [], ◌∷◌, map, length}
use Rattle.std.proofs.Common.{arith, ap, get_or, zero, suc}
use denote.Param.Weighed.{most, w_this}
use Rattle.store_theory.specs.Patterns.{pattern_size, pattern_list_size}
use Rattle.std.specs.Prelude.{Option, Some, None}
use Rattle.std.specs.Global.{Vec, Global}
use Rattle.std.specs.declared.rc.Rc.{Rc}
use Rattle.term_store.specs.PatternItems.{items_of}
use Rattle.term_store.specs.PatternView.{the_pattern}
use Rattle.term_store.specs.declared.pattern.Pattern.{Pattern}
use Rattle.term_store.specs.declared.pattern.Pattern.TheVariants.{Var, Fun, Eigen, New, the_data}
use Rattle.term_store.specs.declared.pattern.Patterns.TheDeep.{deep-Pattern, deep-Patterns}
use Rattle.term_store.specs.declared.pattern.Patterns.TheInside.{Inside}

pub deep-Pattern-le-size : (p : Pattern) → deep-Pattern p ≤ pattern_size (the_pattern p)
deep-Pattern-le-size (Var k) = omega arith
deep-Pattern-le-size (Fun f ps) = omega arith
deep-Pattern-le-size (Eigen p ps) = omega arith
deep-Pattern-le-size (New p ps) = omega arith

pub most-deep-Pattern-le-size : (ps : List Pattern) → max (most (λ p. w_this.weight the_data deep-Pattern p) ps) 0 ≤ pattern_list_size (map the_pattern ps)
most-deep-Pattern-le-size [] = omega arith
most-deep-Pattern-le-size (p ∷ ps) = omega (arith, deep-Pattern-le-size p, most-deep-Pattern-le-size ps)

shared-deep-at : (a : Inside) (ps : Option (Rc (Vec Pattern) Global)) → deep-Patterns (record a { items = ps }) ≤ pattern_list_size (map the_pattern (items_of ps))
shared-deep-at a None = omega arith
shared-deep-at a (Some shared) = omega (arith, most-deep-Pattern-le-size shared.value.items)

pub shared-deep : (a : Inside) → deep-Patterns a ≤ pattern_list_size (map the_pattern (items_of a.items))
shared-deep a = shared-deep-at a a.items

-- an item of a list of patterns is smaller than the list
pub size-item : (ps : List Pattern) (k : ℕ) (p d : Pattern) → k < length ps → p ≡ get_or ps k d → pattern_size (the_pattern p) < pattern_list_size (map the_pattern ps)
size-item [] k p d h e = absurd (omega arith)
size-item (q ∷ ps) zero p d h e = let f : pattern_size (the_pattern p) ≡ pattern_size (the_pattern q) = ap (λ x. pattern_size (the_pattern x)) e in omega arith
size-item (q ∷ ps) (suc k) p d h e = let f = size-item ps k p d (omega arith) e in omega arith

pub ruleset falling = (size-item)
