-- The variables of a template are terms and strings.
use Rattle.std.proofs.Common.{◌≡◌, ℕ, suc, ◌+◌, List, [], ◌∷◌, length, IsTrue, refl, subst, Option, Some, None, option_map, option_and_then}
use Rattle.std.specs.List.{list_all}
use Rattle.plain_laws.proofs.Every.{all-append}
use Rattle.calculus.specs.declared.sign.Sign.{Sign}
use Rattle.calculus.specs.declared.sign.Sign.TheVariants.{F}
use Rattle.calculus.specs.declared.sign.Side.{Side}
use Rattle.calculus.specs.declared.sign.Side.TheVariants.{Left, Right}
use Rattle.calculus.specs.declared.sort.Sort.TheVariants.{TermSort, StringSort}
use Rattle.calculus.specs.declared.setting.Logic.{Logic}
use Rattle.calculus.specs.declared.kind.Shape.{Shape}
use Rattle.calculus.specs.declared.kind.Shape.TheVariants.{Alpha, Beta, Gamma, Delta, Literal}
use Rattle.calculus.specs.declared.kind.ModalPart.{ModalPart}
use Rattle.calculus.specs.declared.kind.ModalPart.TheVariants.{Plain, Nu, Pi}
use Rattle.calculus.specs.Syntax.{Formula, atom, neg, conj, disj, imp, all, ex, box, dia, Problem}
use Rattle.calculus.specs.Kinds.{other, shape_of, modal_of}
use Rattle.calculus.specs.Positions.{size}
use Rattle.store_theory.specs.Patterns.{Template}
use Rattle.search_theory.specs.TemplateOf.{PatternSpot, root_pattern_spot, PatternPart, PatternBody, of_sort, pattern_modal, pattern_atom, joined_patterns, pattern_alpha, pattern_one, pattern_two, pattern_quantifier, pattern_part, template_by, if_sides_used, template_of}
use Rattle.search_theory.proofs.BuildingLaws.{is_variable_sort}

abbrev IsSortedPart : Option PatternPart → Type 0
IsSortedPart None = Unit {0}
IsSortedPart (Some y) = IsTrue (list_all is_variable_sort y.sorts)

abbrev Sorts : PatternBody → Type 0
Sorts body = (c : PatternSpot) (ss : List Side) (n : ℕ) → IsSortedPart (body c ss n)

map-sorts : (f : PatternPart → PatternPart) → ((y : PatternPart) → IsTrue (list_all is_variable_sort y.sorts) → IsTrue (list_all is_variable_sort (f y).sorts)) → (o : Option PatternPart) → IsSortedPart o → IsSortedPart (option_map f o)
map-sorts f k None h = tt
map-sorts f k (Some y) h = k y h

modal-sorts : (l : Logic) (m : ModalPart) (go : PatternBody) → Sorts go → Sorts (pattern_modal l m go)
modal-sorts l Plain go h c ss n = h c ss n
modal-sorts l Nu go h c ss n = map-sorts (of_sort StringSort) (λ y q. q) (go _ ss (suc n)) (h _ ss (suc n))
modal-sorts l Pi go h c ss n = map-sorts _ (λ y q. q) (go _ ss n) (h _ ss n)

one-sorts : (body : PatternBody) → Sorts body → Sorts (pattern_one body)
one-sorts body h c ss n = map-sorts _ (λ y q. q) (body _ ss n) (h _ ss n)

beta-sorts : (second : List Side → ℕ → Option PatternPart) (n : ℕ) → ((ss : List Side) (m : ℕ) → IsSortedPart (second ss m)) → (o : Option PatternPart) → IsSortedPart o → IsSortedPart (option_and_then (λ (x : PatternPart). option_map (joined_patterns x) (second x.sides (n + length x.sorts))) o)
beta-sorts second n k None h = tt
beta-sorts second n k (Some x) h = map-sorts (joined_patterns x) (λ y q. all-append is_variable_sort x.sorts y.sorts h q) (second x.sides (n + length x.sorts)) (k x.sides (n + length x.sorts))

alpha-sorts : (f g : List Side → Option PatternPart) → ((ss : List Side) → IsSortedPart (f ss)) → ((ss : List Side) → IsSortedPart (g ss)) → (ss : List Side) → IsSortedPart (pattern_alpha f g ss)
alpha-sorts f g h k [] = tt
alpha-sorts f g h k (Left ∷ ss) = h ss
alpha-sorts f g h k (Right ∷ ss) = k ss

two-sorts : (h : Shape) (k : ℕ) (f g : PatternBody) → Sorts f → Sorts g → Sorts (pattern_two h k f g)
two-sorts Alpha k f g a b c ss n = map-sorts _ (λ y q. q) (pattern_alpha (λ rest. f _ rest n) (λ rest. g _ rest n) ss) (alpha-sorts (λ rest. f _ rest n) (λ rest. g _ rest n) (λ rest. a _ rest n) (λ rest. b _ rest n) ss)
two-sorts Beta k f g a b c ss n = map-sorts _ (λ y q. q) _ (beta-sorts (g _) n (λ rest m. b _ rest m) (f _ ss n) (a _ ss n))
two-sorts Gamma k f g a b c ss n = tt
two-sorts Delta k f g a b c ss n = tt
two-sorts Literal k f g a b c ss n = tt

quantifier-sorts : (h : Shape) (body : PatternBody) → Sorts body → Sorts (pattern_quantifier h body)
quantifier-sorts Gamma body k c ss n = map-sorts (of_sort TermSort) (λ y q. q) _ (map-sorts _ (λ y q. q) _ (map-sorts _ (λ y q. q) (body _ ss (suc n)) (k _ ss (suc n))))
quantifier-sorts Delta body k c ss n = map-sorts _ (λ y q. q) (body _ ss n) (k _ ss n)
quantifier-sorts Alpha body k c ss n = tt
quantifier-sorts Beta body k c ss n = tt
quantifier-sorts Literal body k c ss n = tt

part-sorts : (l : Logic) (f : Formula) (s : Sign) → Sorts (pattern_part l f s)
part-sorts l (atom p ts) s = modal-sorts l (modal_of l s (atom p ts)) (pattern_atom s p ts) (λ c ss n. refl)
part-sorts l (neg a) s = modal-sorts l (modal_of l s (neg a)) (pattern_one (pattern_part l a (other s))) (one-sorts (pattern_part l a (other s)) (part-sorts l a (other s)))
part-sorts l (conj a b) s = modal-sorts l (modal_of l s (conj a b)) _ (two-sorts (shape_of s (conj a b)) (size a) (pattern_part l a s) (pattern_part l b s) (part-sorts l a s) (part-sorts l b s))
part-sorts l (disj a b) s = modal-sorts l (modal_of l s (disj a b)) _ (two-sorts (shape_of s (disj a b)) (size a) (pattern_part l a s) (pattern_part l b s) (part-sorts l a s) (part-sorts l b s))
part-sorts l (imp a b) s = modal-sorts l (modal_of l s (imp a b)) _ (two-sorts (shape_of s (imp a b)) (size a) (pattern_part l a (other s)) (pattern_part l b s) (part-sorts l a (other s)) (part-sorts l b s))
part-sorts l (all a) s = modal-sorts l (modal_of l s (all a)) _ (quantifier-sorts (shape_of s (all a)) (pattern_part l a s) (part-sorts l a s))
part-sorts l (ex a) s = modal-sorts l (modal_of l s (ex a)) _ (quantifier-sorts (shape_of s (ex a)) (pattern_part l a s) (part-sorts l a s))
part-sorts l (box a) s = modal-sorts l (modal_of l s (box a)) _ (one-sorts (pattern_part l a s) (part-sorts l a s))
part-sorts l (dia a) s = modal-sorts l (modal_of l s (dia a)) _ (one-sorts (pattern_part l a s) (part-sorts l a s))

pub template-sorts : (P : Problem) (sides : List Side) (t : Template) → template_of P sides ≡ Some t → IsTrue (list_all is_variable_sort t.sorts)
template-sorts P sides t e = by (pattern_part P.setting.logic P.formula F root_pattern_spot sides 0) (part-sorts P.setting.logic P.formula F root_pattern_spot sides 0) e
  where
    used : (y : PatternPart) → IsTrue (list_all is_variable_sort y.sorts) → (ss : List Side) → if_sides_used y ss ≡ Some t → IsTrue (list_all is_variable_sort t.sorts)
    used y h [] q = let same : template_by y ≡ t = cc q in subst (λ (z : Template). IsTrue (list_all is_variable_sort z.sorts)) same h
    used y h (s ∷ ss) q = cc q

    by : (o : Option PatternPart) → IsSortedPart o → option_and_then (λ (y : PatternPart). if_sides_used y y.sides) o ≡ Some t → IsTrue (list_all is_variable_sort t.sorts)
    by None h q = cc q
    by (Some y) h q = used y h y.sides q
