-- The gamma terms of a classical clause are its values, so those of its templates are variables.
use Rattle.std.proofs.Common.{◌≡◌, ℕ, suc, List, [], ◌∷◌, ◌++◌, Bool, true, false, ◌&&◌, IsTrue, refl, sym, subst, Option, None, Some, option_map, option_and_then, if◌then◌else◌}
use Rattle.std.specs.List.{AllByRecursion, list_all}
use Rattle.std.proofs.lemmas.Bool.{false≢true, and_parts}
use Rattle.calculus.specs.declared.setting.Logic.TheVariants.{Classical}
use Rattle.calculus.specs.declared.kind.Shape.{Shape}
use Rattle.calculus.specs.declared.kind.Shape.TheVariants.{Alpha, Beta, Gamma, Delta, Literal}
use Rattle.calculus.specs.declared.kind.ModalPart.TheVariants.{Plain}
use Rattle.calculus.specs.declared.sign.Sign.{Sign}
use Rattle.calculus.specs.declared.sign.Sign.TheVariants.{F}
use Rattle.calculus.specs.declared.sign.Side.{Side}
use Rattle.calculus.specs.declared.sign.Side.TheVariants.{Left, Right}
use Rattle.calculus.specs.declared.sort.Sort.{Sort}
use Rattle.calculus.specs.ComputedInstances.{Part, Supply, at_alpha, at_beta, at_gamma, at_literal, at_modal, at_one, at_quantifier, at_two, if_used_up, instance_of, join_of, part_of, with_gamma, with_modal_step, with_turn}
use Rattle.calculus.specs.Ground.{Value, common, g_eigen, term, values_tree}
use Rattle.calculus.specs.Instances.{GammaUse, Spot, down_by, root_spot, spot_inside}
use Rattle.calculus.specs.Kinds.{other, shape_of}
use Rattle.calculus.specs.Positions.{size}
use Rattle.calculus.specs.Problems.{formula_fits}
use Rattle.calculus.specs.Skolem.{is_admitted_value, is_empty}
use Rattle.calculus.specs.Syntax.{Formula, Problem, Symbol, all, atom, box, conj, dia, disj, ex, imp, neg}
use Rattle.calculus.proofs.InstanceLaws.{OnPart}
use Rattle.search_theory.proofs.ClassicalTemplates.{commons}

-- ---- instances by spare constants

abbrev pub IsSpareUse : GammaUse → Type 0
IsSpareUse g = (g.term ≡ common 0) × (g.label ≡ [])

abbrev AreSpares : List Value → Type 0
AreSpares vs = AllByRecursion (λ (v : Value). v ≡ term (common 0)) vs

record Spared (x : Part) : Type 0 where
  pub gammas : AllByRecursion IsSpareUse x.gammas
  pub left : AreSpares x.left_over.values

-- a body that gives such a part where it is given spare constants
abbrev Sparing : (Spot → Supply → Option Part) → Type 0
Sparing body = (c : Spot) (u : Supply) → c.label ≡ [] → AreSpares u.values → OnPart Spared (body c u)

on-map : (f : Part → Part) → ((x : Part) → Spared x → Spared (f x)) → (o : Option Part) → OnPart Spared o → OnPart Spared (option_map f o)
on-map f k None h = tt
on-map f k (Some x) h = k x h

turn-spared : (p : ℕ) (vs : List Value) (o : Option Part) → OnPart Spared o → OnPart Spared (with_turn p vs o)
turn-spared p vs None h = tt
turn-spared p vs (Some x) h = record { gammas = h.gammas; left = h.left }

modal-spared : (go : Spot → Supply → Option Part) → Sparing go → Sparing (at_modal Classical Plain go)
modal-spared go k c u e h = on-map (with_modal_step Plain) (λ x q. q) (go c u) (k c u e h)

one-spared : (body : Spot → Supply → Option Part) → Sparing body → Sparing (at_one body)
one-spared body k c u e h = turn-spared c.position c.taken (body (down_by 1 c) u) (k (down_by 1 c) u e h)

both-lists : (xs ys : List GammaUse) → AllByRecursion IsSpareUse xs → AllByRecursion IsSpareUse ys → AllByRecursion IsSpareUse (xs ++ ys)
both-lists [] ys h k = k
both-lists (x ∷ xs) ys h k = (h.0, both-lists xs ys h.1 k)

joined-spared : (x y : Part) → Spared x → Spared y → Spared (join_of x y)
joined-spared x y h k = record { gammas = both-lists x.gammas y.gammas h.gammas k.gammas; left = k.left }

beta-spared : (second : Supply → Option Part) (o : Option Part) → OnPart Spared o → ((v : Supply) → AreSpares v.values → OnPart Spared (second v)) → OnPart Spared (option_and_then (λ (x : Part). option_map (join_of x) (second x.left_over)) o)
beta-spared second None h k = tt
beta-spared second (Some x) h k = on-map (join_of x) (λ y q. joined-spared x y h q) (second x.left_over) (k x.left_over h.left)

alpha-spared : (first second : Supply → Option Part) (ss : List Side) (u : Supply) → AreSpares u.values → ((v : Supply) → AreSpares v.values → OnPart Spared (first v)) → ((v : Supply) → AreSpares v.values → OnPart Spared (second v)) → OnPart Spared (at_alpha ss first second u)
alpha-spared first second [] u h k m = tt
alpha-spared first second (Left ∷ ss) u h k m = k (record u { sides = ss }) h
alpha-spared first second (Right ∷ ss) u h k m = m (record u { sides = ss }) h

two-spared : (h : Shape) (n : ℕ) (first second : Spot → Supply → Option Part) → Sparing first → Sparing second → Sparing (at_two h n first second)
two-spared Alpha n first second k m c u e g = turn-spared c.position c.taken (at_alpha u.sides (first (down_by 1 c)) (second (down_by (suc n) c)) u) (alpha-spared (first (down_by 1 c)) (second (down_by (suc n) c)) u.sides u g (λ v q. k (down_by 1 c) v e q) (λ v q. m (down_by (suc n) c) v e q))
two-spared Beta n first second k m c u e g = turn-spared c.position c.taken (at_beta (first (down_by 1 c)) (second (down_by (suc n) c)) u) (beta-spared (second (down_by (suc n) c)) (first (down_by 1 c) u) (k (down_by 1 c) u e g) (λ v q. m (down_by (suc n) c) v e q))
two-spared Gamma n first second k m c u e g = tt
two-spared Delta n first second k m c u e g = tt
two-spared Literal n first second k m c u e g = tt

gamma-spared : (body : Spot → Supply → Option Part) → Sparing body → (c : Spot) (u : Supply) (vs : List Value) → c.label ≡ [] → AreSpares vs → OnPart Spared (at_gamma body c u vs)
gamma-spared body k c u [] e h = tt
gamma-spared body k c u (steps-or-term ∷ vs) e h = by steps-or-term h
  where
    by : (v : Value) → AreSpares (v ∷ vs) → OnPart Spared (at_gamma body c u (v ∷ vs))
    by (term t) (q, rest) =
        let same : t ≡ common 0 = cc q in
        let inner = spot_inside t (c.taken ++ term t ∷ []) c in
        turn-spared c.position (c.taken ++ term t ∷ []) (with_gamma t c.label (body inner (record u { values = vs })))
        (on-map (λ (x : Part). record x { gammas = record { term = t; label = c.label } ∷ x.gammas }) (λ x s. record { gammas = ((same, e), s.gammas); left = s.left }) (body inner (record u { values = vs })) (k inner (record u { values = vs }) e rest))
    by v q = tt

quantifier-spared : (h : Shape) (body : Spot → Supply → Option Part) → Sparing body → Sparing (at_quantifier h body)
quantifier-spared Gamma body k c u e g = gamma-spared body k c u u.values e g
quantifier-spared Delta body k c u e g = turn-spared c.position c.taken (body (spot_inside (g_eigen c.position (values_tree c.taken)) c.taken c) u) (k (spot_inside (g_eigen c.position (values_tree c.taken)) c.taken c) u e g)
quantifier-spared Alpha body k c u e g = tt
quantifier-spared Beta body k c u e g = tt
quantifier-spared Literal body k c u e g = tt

part-spared : (symbols : List Symbol) (f : Formula) (s : Sign) (d : ℕ) → IsTrue (formula_fits Classical symbols d f) → Sparing (part_of Classical f s)
part-spared symbols (atom p ts) s d h = modal-spared (at_literal s p ts) (λ c u e g. record { gammas = tt; left = g })
part-spared symbols (neg a) s d h = modal-spared (at_one (part_of Classical a (other s))) (one-spared (part_of Classical a (other s)) (part-spared symbols a (other s) d h))
part-spared symbols (conj a b) s d h = let q = and_parts (formula_fits Classical symbols d a) (formula_fits Classical symbols d b) h in modal-spared (at_two (shape_of s (conj a b)) (size a) (part_of Classical a s) (part_of Classical b s)) (two-spared (shape_of s (conj a b)) (size a) (part_of Classical a s) (part_of Classical b s) (part-spared symbols a s d q.0) (part-spared symbols b s d q.1))
part-spared symbols (disj a b) s d h = let q = and_parts (formula_fits Classical symbols d a) (formula_fits Classical symbols d b) h in modal-spared (at_two (shape_of s (disj a b)) (size a) (part_of Classical a s) (part_of Classical b s)) (two-spared (shape_of s (disj a b)) (size a) (part_of Classical a s) (part_of Classical b s) (part-spared symbols a s d q.0) (part-spared symbols b s d q.1))
part-spared symbols (imp a b) s d h = let q = and_parts (formula_fits Classical symbols d a) (formula_fits Classical symbols d b) h in modal-spared (at_two (shape_of s (imp a b)) (size a) (part_of Classical a (other s)) (part_of Classical b s)) (two-spared (shape_of s (imp a b)) (size a) (part_of Classical a (other s)) (part_of Classical b s) (part-spared symbols a (other s) d q.0) (part-spared symbols b s d q.1))
part-spared symbols (all a) s d h = modal-spared (at_quantifier (shape_of s (all a)) (part_of Classical a s)) (quantifier-spared (shape_of s (all a)) (part_of Classical a s) (part-spared symbols a s (suc d) h))
part-spared symbols (ex a) s d h = modal-spared (at_quantifier (shape_of s (ex a)) (part_of Classical a s)) (quantifier-spared (shape_of s (ex a)) (part_of Classical a s) (part-spared symbols a s (suc d) h))
part-spared symbols (box a) s d h = absurd (false≢true h)
part-spared symbols (dia a) s d h = absurd (false≢true h)

commons-spared : (ss : List Sort) → AreSpares (commons ss)
commons-spared [] = tt
commons-spared (s ∷ ss) = (refl, commons-spared ss)

used-spared : (x : Part) → Spared x → OnPart Spared (if_used_up x)
used-spared x h = by (is_empty x.left_over.sides && is_empty x.left_over.values)
  where
    by : (b : Bool) → OnPart Spared (if b then Some x else None)
    by true = h
    by false = tt

all-spared : (o : Option Part) → OnPart Spared o → OnPart Spared (option_and_then if_used_up o)
all-spared None h = tt
all-spared (Some x) h = used-spared x h

-- the gamma terms of an instance by spare constants
pub gammas-spare : (P : Problem) (sides : List Side) (ss : List Sort) (x : Part) → P.setting.logic ≡ Classical → IsTrue (formula_fits P.setting.logic P.symbols 0 P.formula) → instance_of P sides (commons ss) ≡ Some x → AllByRecursion IsSpareUse x.gammas
gammas-spare P sides ss x c fits e =
    let supply : Supply = record { sides = sides; values = commons ss } in
    let plain = subst (λ l. OnPart Spared (option_and_then if_used_up (part_of l P.formula F root_spot supply))) (sym c) (all-spared (part_of Classical P.formula F root_spot supply) (part-spared P.symbols P.formula F 0 (subst (λ l. IsTrue (formula_fits l P.symbols 0 P.formula)) c fits) root_spot supply refl (commons-spared ss))) in
    by (list_all (is_admitted_value P) (commons ss)) (option_and_then if_used_up (part_of P.setting.logic P.formula F root_spot supply)) plain e
  where
    by : (b : Bool) (o : Option Part) → OnPart Spared o → (if b then o else None) ≡ Some x → AllByRecursion IsSpareUse x.gammas
    by true None h e = let z : None ≡ Some x = e in absurd (cc z)
    by true (Some y) h e = let same : y ≡ x = cc e in subst (λ (z : Part). AllByRecursion IsSpareUse z.gammas) same h.gammas
    by false o h e = let z : None ≡ Some x = e in absurd (cc z)
