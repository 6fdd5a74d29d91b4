-- What each step of a walk adds to a clause.
use Rattle.std.proofs.Common.{◌≡◌, ℕ, suc, ◌+◌, List, [], ◌∷◌, ◌++◌, length, Option, Some, None, option_map, option_and_then, refl, sym, ◌∙◌, ap, ap₂, subst, arith, append_assoc, length-append}
use Rattle.plain_laws.proofs.Lists.{length-last}
use Rattle.calculus.specs.declared.kind.Shape.TheVariants.{Beta, Gamma}
use Rattle.calculus.specs.declared.kind.ModalPart.{ModalPart}
use Rattle.calculus.specs.declared.kind.ModalPart.TheVariants.{Nu, Pi}
use Rattle.calculus.specs.declared.setting.Logic.{Logic}
use Rattle.calculus.specs.declared.sign.Sign.{Sign}
use Rattle.calculus.specs.declared.sign.Sign.TheVariants.{T, F}
use Rattle.calculus.specs.declared.sign.Side.{Side}
use Rattle.calculus.specs.declared.sort.Sort.{Sort}
use Rattle.calculus.specs.declared.sort.Sort.TheVariants.{TermSort, StringSort}
use Rattle.calculus.specs.Kinds.{components, modal_of, shape_of}
use Rattle.store_theory.specs.Patterns.{Pattern, Template, p_var}
use Rattle.calculus.specs.Syntax.{Formula, atom, neg, conj, disj, imp, all, ex, box, dia}
use Rattle.store_theory.specs.Templates.{strings_from}
use Rattle.search_theory.specs.TemplateOf.{root_pattern_spot, template_by, PatternBody, PatternPart, PatternSpot, of_sort, one_pi_more, pattern_down, pattern_inside, pattern_modal, pattern_turn, joined_patterns, pattern_beta, pattern_two, with_pattern_gamma, pattern_quantifier, pattern_part}
use Rattle.matrix_build.specs.Parts.{BuiltPart, with_part, with_sort, with_pi, with_gamma, Adds, IsTemplateIfAny, body_by, nothing_built}
use Rattle.matrix_build.specs.WayView.{nu_spot, pi_spot}

-- ---- a signed formula by its modal part, its shape and its components

pub part-by : (l : Logic) (s : Sign) (f : Formula) → pattern_part l f s ≡ pattern_modal l (modal_of l s f) (body_by l (shape_of s f) (components s f))
part-by l s (atom p ts) = refl
part-by l s (neg a) = refl
part-by l T (conj a b) = refl
part-by l F (conj a b) = refl
part-by l T (disj a b) = refl
part-by l F (disj a b) = refl
part-by l T (imp a b) = refl
part-by l F (imp a b) = refl
part-by l T (all a) = refl
part-by l F (all a) = refl
part-by l T (ex a) = refl
part-by l F (ex a) = refl
part-by l s (box a) = refl
part-by l s (dia a) = refl

-- ---- options

from-map : {A B : Type 0} (g : A → B) (o : Option A) (y : B) → option_map g o ≡ Some y → (z : A) × (o ≡ Some z) × (g z ≡ y)
from-map g None y e = absurd (cc)
from-map g (Some z) y e = (z, refl, cc e)

from-then : {A B : Type 0} (g : A → Option B) (o : Option A) (y : B) → option_and_then g o ≡ Some y → (z : A) × (o ≡ Some z) × (g z ≡ Some y)
from-then g None y e = absurd (cc)
from-then g (Some z) y e = (z, refl, e)

-- what was turned was added
turned : (p : ℕ) (vs : List Pattern) (o : Option PatternPart) (y : PatternPart) → pattern_turn p vs o ≡ Some y → (z : PatternPart) × (o ≡ Some z) × ((b : BuiltPart) → with_part b z ≡ with_part b y)
turned p vs o y e = let h = from-map _ o y e in (h.0, h.1, λ b. ap (with_part b) h.2)

-- ---- the modal part

sort-joins : (s : Sort) (b : BuiltPart) (z : PatternPart) → with_part (with_sort s b) z ≡ with_part b (of_sort s z)
sort-joins s b z = ap (λ ss. record (with_part b z) { sorts = ss }) (append_assoc b.sorts (s ∷ []) z.sorts)

pub nu-adds : (l : Logic) (body : PatternBody) (c : PatternSpot) (b d : BuiltPart) → Adds body (nu_spot l (length b.sorts) c) (with_sort StringSort b) d → Adds (pattern_modal l Nu body) c b d
nu-adds l body c b d h y e =
    let n = length b.sorts in
    let q = from-map (of_sort StringSort) (body (nu_spot l n c) b.sides (suc n)) y e in
    h q.0 (ap (body (nu_spot l n c) b.sides) (length-last b.sorts StringSort) ∙ q.1) ∙ sort-joins StringSort b q.0 ∙ ap (with_part b) q.2

pi-joins : (b : BuiltPart) (z : PatternPart) → with_part (with_pi b) z ≡ with_part b (one_pi_more z)
pi-joins b z = let e : b.pis + 1 + z.pis ≡ b.pis + suc z.pis = omega arith in ap (λ n. record (with_part b z) { pis = n }) e

pub pi-adds : (l : Logic) (body : PatternBody) (c : PatternSpot) (b d : BuiltPart) → Adds body (pi_spot l c) (with_pi b) d → Adds (pattern_modal l Pi body) c b d
pi-adds l body c b d h y e =
    let q = from-map one_pi_more (body (pi_spot l c) b.sides (length b.sorts)) y e in
    h q.0 q.1 ∙ pi-joins b q.0 ∙ ap (with_part b) q.2

abbrev body-of : Logic → Sign → Formula → PatternBody
body-of l s f = body_by l (shape_of s f) (components s f)

part-of : (l : Logic) (s : Sign) (f : Formula) (k : ModalPart) (c : PatternSpot) (b d : BuiltPart) → k ≡ modal_of l s f → Adds (pattern_modal l k (body-of l s f)) c b d → Adds (pattern_part l f s) c b d
part-of l s f k c b d e h = subst (λ (body : PatternBody). Adds body c b d) (sym (part-by l s f)) (subst (λ (m : ModalPart). Adds (pattern_modal l m (body-of l s f)) c b d) e h)

-- a signed formula behind its nu step
pub nu-part : (l : Logic) (s : Sign) (f : Formula) (n : ℕ) (c inner : PatternSpot) (b m d : BuiltPart) → Nu ≡ modal_of l s f → n ≡ length b.sorts → m ≡ with_sort StringSort b → inner ≡ nu_spot l n c → Adds (body_by l (shape_of s f) (components s f)) inner m d → Adds (pattern_part l f s) c b d
nu-part l s f n c inner b m d k i j g h =
    let spot : inner ≡ nu_spot l (length b.sorts) c = g ∙ ap (λ x. nu_spot l x c) i in
    let moved = subst (λ (x : BuiltPart). Adds (body-of l s f) inner x d) j h in
    part-of l s f Nu c b d k (nu-adds l (body-of l s f) c b d (subst (λ (x : PatternSpot). Adds (body-of l s f) x (with_sort StringSort b) d) spot moved))

-- a signed formula behind its pi step
pub pi-part : (l : Logic) (s : Sign) (f : Formula) (c inner : PatternSpot) (b m d : BuiltPart) → Pi ≡ modal_of l s f → m ≡ with_pi b → inner ≡ pi_spot l c → Adds (body_by l (shape_of s f) (components s f)) inner m d → Adds (pattern_part l f s) c b d
pi-part l s f c inner b m d k j g h =
    let moved = subst (λ (x : BuiltPart). Adds (body-of l s f) inner x d) j h in
    part-of l s f Pi c b d k (pi-adds l (body-of l s f) c b d (subst (λ (x : PatternSpot). Adds (body-of l s f) x (with_pi b) d) g moved))

-- ---- the shapes

parts-join : (b : BuiltPart) (x z : PatternPart) → with_part (with_part b x) z ≡ with_part b (joined_patterns x z)
parts-join b x z =
    let pis : b.pis + x.pis + z.pis ≡ b.pis + (x.pis + z.pis) = omega arith in
    let lists = ap₂ (λ ls gs. record (with_part (with_part b x) z) { literals = ls; gammas = gs }) (append_assoc b.literals x.literals z.literals) (append_assoc b.gammas x.gammas z.gammas) in
    lists ∙ ap₂ (λ n ss. record (with_part b (joined_patterns x z)) { pis = n; sorts = ss }) pis (append_assoc b.sorts x.sorts z.sorts)

pub beta-adds : (k : ℕ) (first second : PatternBody) (c : PatternSpot) (b d e : BuiltPart) → Adds first (pattern_down 1 c) b d → Adds second (pattern_down (suc k) c) d e → Adds (pattern_two Beta k first second) c b e
beta-adds k first second c b d e h g y f =
    let n = length b.sorts in
    let q = turned c.position c.taken (pattern_beta (first (pattern_down 1 c)) (second (pattern_down (suc k) c)) b.sides n) y f in
    let r = from-then (λ (x : PatternPart). option_map (joined_patterns x) (second (pattern_down (suc k) c) x.sides (n + length x.sorts))) (first (pattern_down 1 c) b.sides n) q.0 q.1 in
    let s = from-map (joined_patterns r.0) (second (pattern_down (suc k) c) r.0.sides (n + length r.0.sorts)) q.0 r.2 in
    let d_is : d ≡ with_part b r.0 = h r.0 r.1 in
    let there : second (pattern_down (suc k) c) (with_part b r.0).sides (length (with_part b r.0).sorts) ≡ Some s.0 = ap (second (pattern_down (suc k) c) r.0.sides) (length-append b.sorts r.0.sorts) ∙ s.1 in
    subst (λ (x : BuiltPart). Adds second (pattern_down (suc k) c) x e) d_is g s.0 there ∙ parts-join b r.0 s.0 ∙ ap (with_part b) s.2 ∙ q.2 b

gamma-joins : (p : Pattern) (w : List Pattern) (b : BuiltPart) (z : PatternPart) → with_part (with_gamma (record { term = p; label = w }) (with_sort TermSort b)) z ≡ with_part b (of_sort TermSort (with_pattern_gamma p w z))
gamma-joins p w b z = ap₂ (λ gs ss. record (with_part b z) { gammas = gs; sorts = ss }) (append_assoc b.gammas (record { term = p; label = w } ∷ []) z.gammas) (append_assoc b.sorts (TermSort ∷ []) z.sorts)

sort-turned : (b : BuiltPart) (z x : PatternPart) → ((a : BuiltPart) → with_part a z ≡ with_part a x) → with_part b (of_sort TermSort z) ≡ with_part b (of_sort TermSort x)
sort-turned b z x g = sym (sort-joins TermSort b z) ∙ g (with_sort TermSort b) ∙ sort-joins TermSort b x

pub gamma-adds : (body : PatternBody) (c : PatternSpot) (b d : BuiltPart) → Adds body (pattern_inside (p_var (length b.sorts)) (c.taken ++ p_var (length b.sorts) ∷ []) c) (with_gamma (record { term = p_var (length b.sorts); label = c.label }) (with_sort TermSort b)) d → Adds (pattern_quantifier Gamma body) c b d
gamma-adds body c b d h y e =
    let n = length b.sorts in
    let vs = c.taken ++ p_var n ∷ [] in
    let spot = pattern_inside (p_var n) vs c in
    let inner = body spot b.sides (suc n) in
    let q = from-map (of_sort TermSort) (pattern_turn c.position vs (option_map (with_pattern_gamma (p_var n) c.label) inner)) y e in
    let r = turned c.position vs (option_map (with_pattern_gamma (p_var n) c.label) inner) q.0 q.1 in
    let s = from-map (with_pattern_gamma (p_var n) c.label) inner r.0 r.1 in
    h s.0 (ap (body spot b.sides) (length-last b.sorts TermSort) ∙ s.1)
    ∙ gamma-joins (p_var n) c.label b s.0
    ∙ ap (λ (z : PatternPart). with_part b (of_sort TermSort z)) s.2
    ∙ sort-turned b r.0 q.0 r.2
    ∙ ap (with_part b) q.2

-- the same by the steps of the program
pub gamma-part : (body : PatternBody) (n : ℕ) (c inner : PatternSpot) (b m k d : BuiltPart) → n ≡ length b.sorts → m ≡ with_sort TermSort b → k ≡ with_gamma (record { term = p_var n; label = c.label }) m → inner ≡ pattern_inside (p_var n) (c.taken ++ p_var n ∷ []) c → Adds body inner k d → Adds (pattern_quantifier Gamma body) c b d
gamma-part body n c inner b m k d i j g e h =
    let put : k ≡ with_gamma (record { term = p_var (length b.sorts); label = c.label }) (with_sort TermSort b) = g ∙ ap₂ (λ (x : ℕ) (y : BuiltPart). with_gamma (record { term = p_var x; label = c.label }) y) i j in
    let spot : inner ≡ pattern_inside (p_var (length b.sorts)) (c.taken ++ p_var (length b.sorts) ∷ []) c = e ∙ ap (λ x. pattern_inside (p_var x) (c.taken ++ p_var x ∷ []) c) i in
    gamma-adds body c b d (subst (λ (x : PatternSpot). Adds body x (with_gamma (record { term = p_var (length b.sorts); label = c.label }) (with_sort TermSort b)) d) spot (subst (λ (x : BuiltPart). Adds body inner x d) put h))

-- ---- the whole clause

pub template-added : (l : Logic) (f : Formula) (sides : List Side) (c : PatternSpot) (b d : BuiltPart) (strings : List Pattern) → b ≡ nothing_built sides → c ≡ root_pattern_spot → Adds (pattern_part l f F) c b d → strings ≡ strings_from 0 d.sorts → IsTemplateIfAny l f sides (record { literals = d.literals; strings = strings; pis = d.pis; gammas = d.gammas; sorts = d.sorts })
template-added l f sides c b d strings e g h s y i =
    let moved : Adds (pattern_part l f F) root_pattern_spot (nothing_built sides) d = subst (λ (x : BuiltPart). Adds (pattern_part l f F) root_pattern_spot x d) e (subst (λ (x : PatternSpot). Adds (pattern_part l f F) x b d) g h) in
    let none : 0 + y.pis ≡ y.pis = omega arith in
    ap (λ (ss : List Pattern). the_record d ss) s ∙ ap (λ (x : BuiltPart). the_record x (strings_from 0 x.sorts)) (moved y i) ∙ ap (λ n. record (template_by y) { pis = n }) none
  where
    the_record : BuiltPart → List Pattern → Template
    the_record x ss = record { literals = x.literals; strings = ss; pis = x.pis; gammas = x.gammas; sorts = x.sorts }
