-- Each selection of a formula has a template.
use Rattle.std.proofs.Common.{◌≡◌, ℕ, zero, suc, ◌+◌, List, [], ◌∷◌, ◌++◌, length, map, Bool, true, false, IsTrue, refl, sym, ◌∙◌, ap, subst, Option, Some, option_map, option_and_then, arith, append_assoc, append-nil}
use Rattle.std.specs.Prelude.{Contains}
use Rattle.std.specs.List.{AllByRecursion}
use Rattle.calculus.specs.declared.sign.Sign.{Sign}
use Rattle.calculus.specs.declared.sign.Sign.TheVariants.{T, F}
use Rattle.calculus.specs.declared.sign.Side.{Side}
use Rattle.calculus.specs.declared.sign.Side.TheVariants.{Left, Right}
use Rattle.calculus.specs.declared.sort.Sort.TheVariants.{TermSort, StringSort}
use Rattle.calculus.specs.declared.setting.Logic.{Logic}
use Rattle.calculus.specs.declared.kind.Shape.{Shape}
use Rattle.calculus.specs.declared.kind.Shape.TheVariants.{Alpha, Beta, Gamma, Delta, Literal}
use Rattle.calculus.specs.declared.kind.ModalPart.{ModalPart}
use Rattle.calculus.specs.declared.kind.ModalPart.TheVariants.{Plain, Nu, Pi}
use Rattle.calculus.specs.Syntax.{Formula, atom, neg, conj, disj, imp, all, ex, box, dia, Problem}
use Rattle.calculus.specs.Kinds.{other, shape_of, modal_of}
use Rattle.calculus.specs.Positions.{size}
use Rattle.calculus.specs.Problems.{formula_fits}
use Rattle.calculus.specs.Clauses.{all_joined, selections_of_two, selections}
use Rattle.store_theory.specs.Patterns.{Pattern, p_var, p_eigen, p_new, patterns_tree, Template}
use Rattle.store_theory.specs.Templates.{IsTemplateOf}
use Rattle.calculus.specs.Labels.{pi_label}
use Rattle.search_theory.specs.TemplateOf.{PatternSpot, root_pattern_spot, PatternPart, PatternBody, pattern_down, pattern_inside, of_sort, one_pi_more, pattern_modal, pattern_turn, pattern_atom, joined_patterns, pattern_beta, pattern_one, pattern_two, with_pattern_gamma, pattern_quantifier, pattern_part, template_by, if_sides_used, template_of}
use Rattle.search_theory.proofs.TemplateLaws.{template_of-right}

-- ---- a selection is read off, whatever follows it

abbrev is_quantifier : Shape → Bool
is_quantifier Gamma = true
is_quantifier Delta = true
is_quantifier _ = false

-- some part that leaves these sides
abbrev Reads : Option PatternPart → List Side → Type 0
Reads o rest = (y : PatternPart) × (o ≡ Some y) × (y.sides ≡ rest)

reads-map : (f : PatternPart → PatternPart) → ((y : PatternPart) → (f y).sides ≡ y.sides) → (o : Option PatternPart) (rest : List Side) → Reads o rest → Reads (option_map f o) rest
reads-map f k o rest (y, e, s) = (f y, ap (option_map f) e, k y ∙ s)

abbrev IsReadBy : PatternBody → List Side → Type 0
IsReadBy body ss = (c : PatternSpot) (rest : List Side) (n : ℕ) → Reads (body c (ss ++ rest) n) rest

modal-read : (l : Logic) (m : ModalPart) (body : PatternBody) (ss : List Side) → IsReadBy body ss → IsReadBy (pattern_modal l m body) ss
modal-read l Plain body ss h c rest n = h c rest n
modal-read l Nu body ss h c rest n = reads-map (of_sort StringSort) (λ y. refl) (body (record c { label = pi_label l c.label (p_var n); taken = c.taken ++ p_var n ∷ [] }) (ss ++ rest) (suc n)) rest (h _ rest (suc n))
modal-read l Pi body ss h c rest n = reads-map one_pi_more (λ y. refl) (body (record c { label = pi_label l c.label (p_new c.position (patterns_tree c.taken)) }) (ss ++ rest) n) rest (h _ rest n)

turn-read : (p : ℕ) (ps : List Pattern) (o : Option PatternPart) (rest : List Side) → Reads o rest → Reads (pattern_turn p ps o) rest
turn-read p ps o rest h = reads-map (λ (y : PatternPart). record y { turns = record { position = p; values = ps } ∷ y.turns }) (λ y. refl) o rest h

one-read : (body : PatternBody) (ss : List Side) → IsReadBy body ss → IsReadBy (pattern_one body) ss
one-read body ss h c rest n = turn-read c.position c.taken (body (pattern_down 1 c) (ss ++ rest) n) rest (h (pattern_down 1 c) rest n)

quantifier-read : (h : Shape) (body : PatternBody) (ss : List Side) → (h ≡ Gamma → IsReadBy body ss) → (h ≡ Delta → IsReadBy body ss) → is_quantifier h ≡ true → IsReadBy (pattern_quantifier h body) ss
quantifier-read Gamma body ss k j e c rest n =
    reads-map (of_sort TermSort) (λ y. refl) _ rest
    (turn-read c.position (c.taken ++ p_var n ∷ []) _ rest
    (reads-map (with_pattern_gamma (p_var n) c.label) (λ y. refl) (body (pattern_inside (p_var n) (c.taken ++ p_var n ∷ []) c) (ss ++ rest) (suc n)) rest (k refl (pattern_inside (p_var n) (c.taken ++ p_var n ∷ []) c) rest (suc n))))
quantifier-read Delta body ss k j e c rest n = turn-read c.position c.taken (body (pattern_inside (p_eigen c.position (patterns_tree c.taken)) c.taken c) (ss ++ rest) n) rest (j refl (pattern_inside (p_eigen c.position (patterns_tree c.taken)) c.taken c) rest n)
quantifier-read Alpha body ss k j e c rest n = cc e
quantifier-read Beta body ss k j e c rest n = cc e
quantifier-read Literal body ss k j e c rest n = cc e

left-read : (k : ℕ) (f g : PatternBody) (ss : List Side) → IsReadBy f ss → IsReadBy (pattern_two Alpha k f g) (Left ∷ ss)
left-read k f g ss h c rest n = turn-read c.position c.taken (f (pattern_down 1 c) (ss ++ rest) n) rest (h (pattern_down 1 c) rest n)

right-read : (k : ℕ) (f g : PatternBody) (ss : List Side) → IsReadBy g ss → IsReadBy (pattern_two Alpha k f g) (Right ∷ ss)
right-read k f g ss h c rest n = turn-read c.position c.taken (g (pattern_down (suc k) c) (ss ++ rest) n) rest (h (pattern_down (suc k) c) rest n)

beta-read : (k : ℕ) (f g : PatternBody) (xs ys : List Side) → IsReadBy f xs → IsReadBy g ys → IsReadBy (pattern_two Beta k f g) (xs ++ ys)
beta-read k f g xs ys h j c rest n =
    let (x, made, sx) = h (pattern_down 1 c) (ys ++ rest) n in
    let (y, made_too, sy) = j (pattern_down (suc k) c) rest (n + length x.sorts) in
    let first : f (pattern_down 1 c) ((xs ++ ys) ++ rest) n ≡ Some x = ap (λ ss. f (pattern_down 1 c) ss n) (append_assoc xs ys rest) ∙ made in
    let second : g (pattern_down (suc k) c) x.sides (n + length x.sorts) ≡ Some y = ap (λ ss. g (pattern_down (suc k) c) ss (n + length x.sorts)) sx ∙ made_too in
    turn-read c.position c.taken (pattern_beta (f (pattern_down 1 c)) (g (pattern_down (suc k) c)) ((xs ++ ys) ++ rest) n) rest
    (joined_patterns x y, ap (option_and_then (λ (z : PatternPart). option_map (joined_patterns z) (g (pattern_down (suc k) c) z.sides (n + length z.sorts)))) first ∙ ap (option_map (joined_patterns x)) second, sy)

-- ---- all selections

each-append : (Q : List Side → Type 0) (xs ys : List (List Side)) → AllByRecursion Q xs → AllByRecursion Q ys → AllByRecursion Q (xs ++ ys)
each-append Q [] ys h g = g
each-append Q (x ∷ xs) ys h g = (h.0, each-append Q xs ys h.1 g)

each-map : (Q R : List Side → Type 0) (f : List Side → List Side) → ((x : List Side) → Q x → R (f x)) → (xs : List (List Side)) → AllByRecursion Q xs → AllByRecursion R (map f xs)
each-map Q R f k [] h = tt
each-map Q R f k (x ∷ xs) h = (k x h.0, each-map Q R f k xs h.1)

each-of : (Q R : List Side → Type 0) → ((x : List Side) → Q x → R x) → (xs : List (List Side)) → AllByRecursion Q xs → AllByRecursion R xs
each-of Q R k [] h = tt
each-of Q R k (x ∷ xs) h = (k x h.0, each-of Q R k xs h.1)

each-join : (Q R S : List Side → Type 0) → ((x y : List Side) → Q x → R y → S (x ++ y)) → (xs ys : List (List Side)) → AllByRecursion Q xs → AllByRecursion R ys → AllByRecursion S (all_joined xs ys)
each-join Q R S k [] ys h g = tt
each-join Q R S k (x ∷ xs) ys h g = each-append S (map (λ y. x ++ y) ys) (all_joined xs ys) (each-map R S (λ y. x ++ y) (λ y. k x y h.0) ys g) (each-join Q R S k xs ys h.1 g)

abbrev is_two : Shape → Bool
is_two Alpha = true
is_two Beta = true
is_two _ = false

two-read : (h : Shape) (k : ℕ) (f g : PatternBody) (xs ys : List (List Side)) → is_two h ≡ true → AllByRecursion (IsReadBy f) xs → AllByRecursion (IsReadBy g) ys → AllByRecursion (IsReadBy (pattern_two h k f g)) (selections_of_two h xs ys)
two-read Alpha k f g xs ys e a b = each-append (IsReadBy (pattern_two Alpha k f g)) (map (λ x. Left ∷ x) xs) (map (λ y. Right ∷ y) ys) (each-map (IsReadBy f) (IsReadBy (pattern_two Alpha k f g)) (λ x. Left ∷ x) (left-read k f g) xs a) (each-map (IsReadBy g) (IsReadBy (pattern_two Alpha k f g)) (λ y. Right ∷ y) (right-read k f g) ys b)
two-read Beta k f g xs ys e a b = each-join (IsReadBy f) (IsReadBy g) (IsReadBy (pattern_two Beta k f g)) (beta-read k f g) xs ys a b
two-read Gamma k f g xs ys e a b = cc e
two-read Delta k f g xs ys e a b = cc e
two-read Literal k f g xs ys e a b = cc e

two-conj : (s : Sign) (a b : Formula) → is_two (shape_of s (conj a b)) ≡ true
two-conj F a b = refl
two-conj T a b = refl

two-disj : (s : Sign) (a b : Formula) → is_two (shape_of s (disj a b)) ≡ true
two-disj F a b = refl
two-disj T a b = refl

two-imp : (s : Sign) (a b : Formula) → is_two (shape_of s (imp a b)) ≡ true
two-imp F a b = refl
two-imp T a b = refl

one-all : (s : Sign) (a : Formula) → is_quantifier (shape_of s (all a)) ≡ true
one-all F a = refl
one-all T a = refl

one-ex : (s : Sign) (a : Formula) → is_quantifier (shape_of s (ex a)) ≡ true
one-ex F a = refl
one-ex T a = refl

part-read : (l : Logic) (f : Formula) (s : Sign) → AllByRecursion (IsReadBy (pattern_part l f s)) (selections f s)
part-read l (atom p ts) s = (modal-read l (modal_of l s (atom p ts)) (pattern_atom s p ts) [] (λ c rest n. (_, refl, refl)), tt)
part-read l (neg a) s = each-of (IsReadBy (pattern_part l a (other s))) (IsReadBy (pattern_part l (neg a) s)) (λ ss h. modal-read l (modal_of l s (neg a)) (pattern_one (pattern_part l a (other s))) ss (one-read (pattern_part l a (other s)) ss h)) (selections a (other s)) (part-read l a (other s))
part-read l (conj a b) s = each-of (IsReadBy (pattern_two (shape_of s (conj a b)) (size a) (pattern_part l a s) (pattern_part l b s))) (IsReadBy (pattern_part l (conj a b) s)) (λ ss h. modal-read l (modal_of l s (conj a b)) (pattern_two (shape_of s (conj a b)) (size a) (pattern_part l a s) (pattern_part l b s)) ss h) (selections (conj a b) s) (two-read (shape_of s (conj a b)) (size a) (pattern_part l a s) (pattern_part l b s) (selections a s) (selections b s) (two-conj s a b) (part-read l a s) (part-read l b s))
part-read l (disj a b) s = each-of (IsReadBy (pattern_two (shape_of s (disj a b)) (size a) (pattern_part l a s) (pattern_part l b s))) (IsReadBy (pattern_part l (disj a b) s)) (λ ss h. modal-read l (modal_of l s (disj a b)) (pattern_two (shape_of s (disj a b)) (size a) (pattern_part l a s) (pattern_part l b s)) ss h) (selections (disj a b) s) (two-read (shape_of s (disj a b)) (size a) (pattern_part l a s) (pattern_part l b s) (selections a s) (selections b s) (two-disj s a b) (part-read l a s) (part-read l b s))
part-read l (imp a b) s = each-of (IsReadBy (pattern_two (shape_of s (imp a b)) (size a) (pattern_part l a (other s)) (pattern_part l b s))) (IsReadBy (pattern_part l (imp a b) s)) (λ ss h. modal-read l (modal_of l s (imp a b)) (pattern_two (shape_of s (imp a b)) (size a) (pattern_part l a (other s)) (pattern_part l b s)) ss h) (selections (imp a b) s) (two-read (shape_of s (imp a b)) (size a) (pattern_part l a (other s)) (pattern_part l b s) (selections a (other s)) (selections b s) (two-imp s a b) (part-read l a (other s)) (part-read l b s))
part-read l (all a) s = each-of (IsReadBy (pattern_part l a s)) (IsReadBy (pattern_part l (all a) s)) (λ ss h. modal-read l (modal_of l s (all a)) (pattern_quantifier (shape_of s (all a)) (pattern_part l a s)) ss (quantifier-read (shape_of s (all a)) (pattern_part l a s) ss (λ e. h) (λ e. h) (one-all s a))) (selections a s) (part-read l a s)
part-read l (ex a) s = each-of (IsReadBy (pattern_part l a s)) (IsReadBy (pattern_part l (ex a) s)) (λ ss h. modal-read l (modal_of l s (ex a)) (pattern_quantifier (shape_of s (ex a)) (pattern_part l a s)) ss (quantifier-read (shape_of s (ex a)) (pattern_part l a s) ss (λ e. h) (λ e. h) (one-ex s a))) (selections a s) (part-read l a s)
part-read l (box a) s = each-of (IsReadBy (pattern_part l a s)) (IsReadBy (pattern_part l (box a) s)) (λ ss h. modal-read l (modal_of l s (box a)) (pattern_one (pattern_part l a s)) ss (one-read (pattern_part l a s) ss h)) (selections a s) (part-read l a s)
part-read l (dia a) s = each-of (IsReadBy (pattern_part l a s)) (IsReadBy (pattern_part l (dia a) s)) (λ ss h. modal-read l (modal_of l s (dia a)) (pattern_one (pattern_part l a s)) ss (one-read (pattern_part l a s) ss h)) (selections a s) (part-read l a s)

each-contained : (Q : List Side → Type 0) (xs : List (List Side)) (x : List Side) → AllByRecursion Q xs → Contains xs x → Q x
each-contained Q [] x h (k, l, e) = absurd (omega (arith, l))
each-contained Q (y ∷ xs) x h (zero, l, e) = subst Q e h.0
each-contained Q (y ∷ xs) x h (suc k, l, e) = each-contained Q xs x h.1 (k, omega (arith, l), e)

-- each selection has the template that is computed, and it is right
pub template-exists : (P : Problem) (sides : List Side) → IsTrue (formula_fits P.setting.logic P.symbols 0 P.formula) → Contains (selections P.formula F) sides → (t : Template) × (template_of P sides ≡ Some t) × IsTemplateOf P sides t
template-exists P sides fits h =
    let r = each-contained (IsReadBy (pattern_part P.setting.logic P.formula F)) (selections P.formula F) sides (part-read P.setting.logic P.formula F) h in
    let (y, e, s) = r root_pattern_spot [] 0 in
    let f : pattern_part P.setting.logic P.formula F root_pattern_spot sides 0 ≡ Some y = ap (λ ss. pattern_part P.setting.logic P.formula F root_pattern_spot ss 0) (sym (append-nil sides)) ∙ e in
    let q : template_of P sides ≡ Some (template_by y) = ap (option_and_then (λ (z : PatternPart). if_sides_used z z.sides)) f ∙ ap (if_sides_used y) s in
    (template_by y, q, template_of-right P sides (template_by y) fits q)
