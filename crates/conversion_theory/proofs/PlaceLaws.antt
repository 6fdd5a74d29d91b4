-- Where the formulas of an instance stand: each turn of an instance works on a signed formula at a spot that its position and the values
-- taken before it determine, and its parent's turn is one of the instance's turns.
use Rattle.std.proofs.Common.{◌≡◌, ◌⊎◌, ℕ, suc, ◌+◌, ◌<◌, List, [], ◌∷◌, ◌++◌, false, Some, option_and_then, refl, sym, ◌∙◌, ap, subst, inl, inr, arith, append_assoc}
use Rattle.std.specs.List.{AllByRecursion}
use Rattle.std.specs.Option.{option_map_or}
use Rattle.calculus.specs.declared.sign.Sign.{Sign}
use Rattle.calculus.specs.declared.sign.Sign.TheVariants.{F}
use Rattle.calculus.specs.declared.setting.Logic.{Logic}
use Rattle.calculus.specs.declared.kind.Shape.{Shape}
use Rattle.calculus.specs.declared.kind.Shape.TheVariants.{Alpha, Beta, Gamma, Delta, Literal}
use Rattle.calculus.specs.Syntax.{Formula, atom, neg, conj, disj, imp, all, ex, box, dia, Problem}
use Rattle.calculus.specs.Ground.{GroundTerm, GroundMark, Value, g_eigen, common, term, steps, values_tree}
use Rattle.calculus.specs.Kinds.{Signed, signed, other, shape_of, modal_of, components}
use Rattle.calculus.specs.Positions.{size, Node, node}
use Rattle.calculus.specs.Skolem.{Reached, after_shape, after_node, at_root, way_to}
use Rattle.calculus.specs.Instances.{Spot, root_spot, down_by, spot_inside, after_string, after_character, GammaUse, Turn, Share, Gives, Shaped, by_plain, by_nu, by_pi, is_literal, by_only, by_left, by_right, by_both, by_gamma, by_delta}
use Rattle.calculus.specs.ComputedInstances.{reached_at}
use Rattle.calculus.proofs.Members.{Among, among-append, among-left, among-right}
use Rattle.calculus.proofs.SpotLaws.{LeadsTo, Stands, Halfway, is_gamma, way-here, after_node-by}
use Rattle.calculus.proofs.InstanceLaws.{WayDown, down-one, first-way, second-way, down-second, component-stands, gamma-stands, root-stands}
use Rattle.conversion_theory.proofs.HitLaws.{Moves, plain, by_string, by_character, turn}
use Rattle.calculus.proofs.CasesLaws.{one≢two}

-- ---- the terms put for the variables along a way

-- the term taken last
abbrev pub last_term : List Value → GroundTerm
last_term [] = common 0
last_term (term t ∷ []) = t
last_term (steps w ∷ []) = common 0
last_term (v ∷ u ∷ vs) = last_term (u ∷ vs)

-- past a position that was left as r
abbrev pub env_past : Shape → ℕ → Reached → List GroundTerm → List GroundTerm
env_past Gamma p r env = last_term r.taken ∷ env
env_past Delta p r env = g_eigen p (values_tree r.taken) ∷ env
env_past _ p r env = env

abbrev pub env_along : Logic → List Node → Reached → List GroundTerm → List GroundTerm
env_along l [] r env = env
env_along l (n ∷ ns) r env = option_map_or (λ (next : Reached). env_along l ns next (env_past (shape_of n.sign n.formula) n.position next env)) (after_node l n r) env

env-append : (l : Logic) (ns : List Node) (n : Node) (r k m : Reached) (env : List GroundTerm) → LeadsTo l ns r k → after_node l n k ≡ Some m → env_along l (ns ++ n ∷ []) r env ≡ env_past (shape_of n.sign n.formula) n.position m (env_along l ns r env)
env-append l [] n r k m env e p = let q : after_node l n r ≡ Some m = rw e p in rw q refl
env-append l (x ∷ ns) n r k m env f p = rw f.1 (env-append l ns n f.0 k m (env_past (shape_of x.sign x.formula) x.position f.0 env) f.3 p)

pub last_term-push : (vs : List Value) (t : GroundTerm) → last_term (vs ++ term t ∷ []) ≡ t
last_term-push [] t = refl
last_term-push (v ∷ []) t = refl
last_term-push (v ∷ u ∷ vs) t = last_term-push (u ∷ vs) t

-- ---- places

-- the spot stands at the signed formula, behind the nodes before it, and has the terms that were put on the way
pub record Stood (P : Problem) (before : List Node) (c : Spot) (s : Sign) (f : Formula) : Type 0 where
  pub stands : Stands P before c s f
  pub env : (rest : List Value) → env_along P.setting.logic before (at_root (c.taken ++ rest)) [] ≡ c.env

-- the spot is past the modal part of the signed formula
pub record Turned (P : Problem) (before : List Node) (d : Spot) (s : Sign) (f : Formula) : Type 0 where
  pub halfway : Halfway P before d s f (modal_of P.setting.logic s f)
  pub env : (rest : List Value) → env_along P.setting.logic before (at_root (d.taken ++ rest)) [] ≡ d.env

pub root-stood : (P : Problem) → Stood P [] root_spot F P.formula
root-stood P = record { stands = root-stands P; env = λ rest. refl }

-- the modal part leads past it
pub turned : (P : Problem) (before : List Node) (c d : Spot) (s : Sign) (f : Formula) → Stood P before c s f → Moves P.setting.logic s f c d → Turned P before d s f
turned P before c d s f h (plain e) = record {
  halfway = subst (Halfway P before c s f) (sym e) (record { in_way = h.stands.in_way; comes = λ rest. (reached_at c rest, h.stands.comes rest, refl, refl) });
  env = h.env;
}
turned P before c d s f h (by_string w e g) = record {
  halfway = subst (Halfway P before (after_string P.setting.logic w c) s f) (sym e) (record {
    in_way = h.stands.in_way;
    comes = λ rest. (reached_at c (steps w ∷ rest), subst (λ vs. LeadsTo P.setting.logic before (at_root vs) (reached_at c (steps w ∷ rest))) (sym (append_assoc c.taken (steps w ∷ []) rest)) (h.stands.comes (steps w ∷ rest)), refl, g);
  });
  env = λ rest. ap (λ vs. env_along P.setting.logic before (at_root vs) []) (append_assoc c.taken (steps w ∷ []) rest) ∙ h.env (steps w ∷ rest);
}
turned P before c d s f h (by_character e) = record {
  halfway = subst (Halfway P before (after_character P.setting.logic c) s f) (sym e) (record { in_way = h.stands.in_way; comes = λ rest. (reached_at c rest, h.stands.comes rest, refl, refl) });
  env = h.env;
}

-- a component that is no quantifier's
pub component-stood : (P : Problem) (before : List Node) (d : Spot) (s : Sign) (f : Formula) → Turned P before d s f → is_gamma (shape_of s f) ≡ false → (k : ℕ) (r : Sign) (g : Formula) (env : List GroundTerm) → ((rest : List Value) → env_past (shape_of s f) d.position (reached_at d rest) d.env ≡ env) → WayDown d.position s f k r g → Stood P (before ++ node d.position s f ∷ []) (record { position = d.position + k; label = d.label; taken = d.taken; env = env }) r g
component-stood P before d s f h e k r g env past down = record {
  stands = component-stands P before d s f h.halfway e k r g env down;
  env = λ rest.
      let l = P.setting.logic in
      let come = h.halfway.comes rest in
      env-append l before (node d.position s f) (at_root (d.taken ++ rest)) come.0 (reached_at d rest) [] come.1 (after_node-by l d.position s f come.0 (reached_at d rest) e come.2)
      ∙ ap (env_past (shape_of s f) d.position (reached_at d rest)) (h.env rest)
      ∙ past rest;
}

pub gamma-stood : (P : Problem) (before : List Node) (d : Spot) (s : Sign) (f : Formula) → Turned P before d s f → shape_of s f ≡ Gamma → (t : GroundTerm) (g : Formula) → WayDown d.position s f 1 s g → Stood P (before ++ node d.position s f ∷ []) (spot_inside t (d.taken ++ term t ∷ []) d) s g
gamma-stood P before d s f h e t g down = record {
  stands = gamma-stands P before d s f h.halfway e t g (t ∷ d.env) down;
  env = λ rest.
      let l = P.setting.logic in
      let come = h.halfway.comes (term t ∷ rest) in
      let at_end : Reached = record { label = d.label; taken = d.taken ++ term t ∷ []; rest = rest } in
      let here : after_node l (node d.position s f) come.0 ≡ Some at_end = ap (option_and_then (after_shape (shape_of s f))) come.2 ∙ ap (λ h. after_shape h (reached_at d (term t ∷ rest))) e in
      ap (λ vs. env_along l (before ++ node d.position s f ∷ []) (at_root vs) []) (append_assoc d.taken (term t ∷ []) rest)
      ∙ env-append l before (node d.position s f) (at_root (d.taken ++ term t ∷ rest)) come.0 at_end [] come.1 here
      ∙ ap (env_past (shape_of s f) d.position at_end) (h.env (term t ∷ rest))
      ∙ ap (λ h. env_past h d.position at_end d.env) e
      ∙ ap (λ u. u ∷ d.env) (last_term-push d.taken t);
}

-- ---- ways down, by the components

down-by : (p : ℕ) (s : Sign) (f : Formula) (k : ℕ) (x y : Signed) → x ≡ y → WayDown p s f k x.sign x.formula → WayDown p s f k y.sign y.formula
down-by p s f k x y e h = subst (λ (z : Signed). WayDown p s f k z.sign z.formula) e h

pub only-is : {x y : Signed} → x ∷ [] ≡ y ∷ [] → x ≡ y
only-is {x} {y} e = cc

pub two-are : {x y a b : Signed} → x ∷ y ∷ [] ≡ a ∷ b ∷ [] → (x ≡ a) × (y ≡ b)
two-are {x} {y} {a} {b} e = (cc, cc)

pub two≢one : {x a b : Signed} → a ∷ b ∷ [] ≡ x ∷ [] → ⊥
two≢one e = one≢two (sym e)

-- the only component of a formula that is no literal
pub down-only : (p : ℕ) (s : Sign) (f : Formula) (a : Signed) → components s f ≡ a ∷ [] → (shape_of s f ≡ Literal → ⊥) → WayDown p s f 1 a.sign a.formula
down-only p s (atom q ts) a e n = absurd (n refl)
down-only p s (neg g) a e n = down-by p s (neg g) 1 (signed (other s) g) a (only-is e) (down-one p s (other s) (neg g) g (λ n lt. (omega arith, refl)))
down-only p s (conj g h) a e n = absurd (two≢one e)
down-only p s (disj g h) a e n = absurd (two≢one e)
down-only p s (imp g h) a e n = absurd (two≢one e)
down-only p s (all g) a e n = down-by p s (all g) 1 (signed s g) a (only-is e) (down-one p s s (all g) g (λ n lt. (omega arith, refl)))
down-only p s (ex g) a e n = down-by p s (ex g) 1 (signed s g) a (only-is e) (down-one p s s (ex g) g (λ n lt. (omega arith, refl)))
down-only p s (box g) a e n = down-by p s (box g) 1 (signed s g) a (only-is e) (down-one p s s (box g) g (λ n lt. (omega arith, refl)))
down-only p s (dia g) a e n = down-by p s (dia g) 1 (signed s g) a (only-is e) (down-one p s s (dia g) g (λ n lt. (omega arith, refl)))

-- two components
pub record TwoDown (p : ℕ) (s : Sign) (f : Formula) (a b : Signed) : Type 0 where
  pub first : WayDown p s f 1 a.sign a.formula
  pub second : WayDown p s f (suc (size a.formula)) b.sign b.formula

two-down-by : (p : ℕ) (s : Sign) (f : Formula) (x y a b : Signed) → (x ≡ a) × (y ≡ b) → TwoDown p s f x y → TwoDown p s f a b
two-down-by p s f x y a b e h = subst (λ (z : Signed). TwoDown p s f a z) e.1 (subst (λ (z : Signed). TwoDown p s f z y) e.0 h)

pub down-two : (p : ℕ) (s : Sign) (f : Formula) (a b : Signed) → components s f ≡ a ∷ b ∷ [] → TwoDown p s f a b
down-two p s (atom q ts) a b e = absurd (one≢two e)
down-two p s (neg g) a b e = absurd (one≢two e)
down-two p s (conj g h) a b e = two-down-by p s (conj g h) (signed s g) (signed s h) a b (two-are e) (record { first = down-one p s s (conj g h) g (λ n lt. (omega arith, first-way p s s s (conj g h) g h n lt)); second = down-second p s s (conj g h) g h refl (λ n. second-way p s s s (conj g h) g h n) })
down-two p s (disj g h) a b e = two-down-by p s (disj g h) (signed s g) (signed s h) a b (two-are e) (record { first = down-one p s s (disj g h) g (λ n lt. (omega arith, first-way p s s s (disj g h) g h n lt)); second = down-second p s s (disj g h) g h refl (λ n. second-way p s s s (disj g h) g h n) })
down-two p s (imp g h) a b e = two-down-by p s (imp g h) (signed (other s) g) (signed s h) a b (two-are e) (record { first = down-one p s (other s) (imp g h) g (λ n lt. (omega arith, first-way p s (other s) s (imp g h) g h n lt)); second = down-second p s s (imp g h) g h refl (λ n. second-way p s (other s) s (imp g h) g h n) })
down-two p s (all g) a b e = absurd (one≢two e)
down-two p s (ex g) a b e = absurd (one≢two e)
down-two p s (box g) a b e = absurd (one≢two e)
down-two p s (dia g) a b e = absurd (one≢two e)

-- ---- the components stand where the cases put them

no_gamma : {h k : Shape} → h ≡ k → is_gamma k ≡ false → is_gamma h ≡ false
no_gamma e q = ap is_gamma e ∙ q

past-same : (h k : Shape) (p : ℕ) (r : Reached) (env : List GroundTerm) → h ≡ k → env_past k p r env ≡ env → env_past h p r env ≡ env
past-same h k p r env e q = ap (λ x. env_past x p r env) e ∙ q

pub only-stood : (P : Problem) (before : List Node) (d : Spot) (s : Sign) (f : Formula) (a : Signed) → Turned P before d s f → shape_of s f ≡ Alpha → components s f ≡ a ∷ [] → Stood P (before ++ node d.position s f ∷ []) (down_by 1 d) a.sign a.formula
only-stood P before d s f a h e q = component-stood P before d s f h (no_gamma e refl) 1 a.sign a.formula d.env (λ rest. past-same (shape_of s f) Alpha d.position (reached_at d rest) d.env e refl) (down-only d.position s f a q (λ k. let x : Alpha ≡ Literal = sym e ∙ k in cc))

pub first-stood : (P : Problem) (before : List Node) (d : Spot) (s : Sign) (f : Formula) (h : Shape) (a b : Signed) → Turned P before d s f → is_gamma h ≡ false → ((rest : List Value) → env_past h d.position (reached_at d rest) d.env ≡ d.env) → shape_of s f ≡ h → components s f ≡ a ∷ b ∷ [] → Stood P (before ++ node d.position s f ∷ []) (down_by 1 d) a.sign a.formula
first-stood P before d s f h a b t g past e q = component-stood P before d s f t (no_gamma e g) 1 a.sign a.formula d.env (λ rest. past-same (shape_of s f) h d.position (reached_at d rest) d.env e (past rest)) (down-two d.position s f a b q).first

pub second-stood : (P : Problem) (before : List Node) (d : Spot) (s : Sign) (f : Formula) (h : Shape) (a b : Signed) → Turned P before d s f → is_gamma h ≡ false → ((rest : List Value) → env_past h d.position (reached_at d rest) d.env ≡ d.env) → shape_of s f ≡ h → components s f ≡ a ∷ b ∷ [] → Stood P (before ++ node d.position s f ∷ []) (down_by (suc (size a.formula)) d) b.sign b.formula
second-stood P before d s f h a b t g past e q = component-stood P before d s f t (no_gamma e g) (suc (size a.formula)) b.sign b.formula d.env (λ rest. past-same (shape_of s f) h d.position (reached_at d rest) d.env e (past rest)) (down-two d.position s f a b q).second

gamma-sign : (s : Sign) (f : Formula) (a : Signed) → shape_of s f ≡ Gamma → components s f ≡ a ∷ [] → a.sign ≡ s
gamma-sign s (atom q ts) a e k = cc
gamma-sign s (neg g) a e k = cc
gamma-sign s (conj g h) a e k = absurd (two≢one k)
gamma-sign s (disj g h) a e k = absurd (two≢one k)
gamma-sign s (imp g h) a e k = absurd (two≢one k)
gamma-sign s (all g) a e k = ap (λ (x : Signed). x.sign) (sym (only-is k))
gamma-sign s (ex g) a e k = ap (λ (x : Signed). x.sign) (sym (only-is k))
gamma-sign s (box g) a e k = cc
gamma-sign s (dia g) a e k = cc

pub inside-gamma-stood : (P : Problem) (before : List Node) (d : Spot) (s : Sign) (f : Formula) (a : Signed) (t : GroundTerm) → Turned P before d s f → shape_of s f ≡ Gamma → components s f ≡ a ∷ [] → Stood P (before ++ node d.position s f ∷ []) (spot_inside t (d.taken ++ term t ∷ []) d) a.sign a.formula
inside-gamma-stood P before d s f a t h e q =
    let same = gamma-sign s f a e q in
    let down = subst (λ r. WayDown d.position s f 1 r a.formula) same (down-only d.position s f a q (λ k. let x : Gamma ≡ Literal = sym e ∙ k in cc)) in
    subst (λ r. Stood P (before ++ node d.position s f ∷ []) (spot_inside t (d.taken ++ term t ∷ []) d) r a.formula) (sym same) (gamma-stood P before d s f h e t a.formula down)

pub inside-delta-stood : (P : Problem) (before : List Node) (d : Spot) (s : Sign) (f : Formula) (a : Signed) → Turned P before d s f → shape_of s f ≡ Delta → components s f ≡ a ∷ [] → Stood P (before ++ node d.position s f ∷ []) (spot_inside (g_eigen d.position (values_tree d.taken)) d.taken d) a.sign a.formula
inside-delta-stood P before d s f a h e q = component-stood P before d s f h (no_gamma e refl) 1 a.sign a.formula (g_eigen d.position (values_tree d.taken) ∷ d.env) (λ rest. ap (λ x. env_past x d.position (reached_at d rest) d.env) e) (down-only d.position s f a q (λ k. let x : Delta ≡ Literal = sym e ∙ k in cc))

-- ---- turns

abbrev pub gamma_use : GroundTerm → List GroundMark → GammaUse
gamma_use t w = record { term = t; label = w }

-- the turn at a spot past the modal part takes nothing more, or a gamma position's term
pub data Takes (G : GammaUse → Type 0) (h : Shape) (d : Spot) : Turn → Type 0 where
  nothing_more : is_gamma h ≡ false → Takes G h d (turn d.position d.taken)
  one_term : (t : GroundTerm) → h ≡ Gamma → G (gamma_use t d.label) → Takes G h d (turn d.position (d.taken ++ term t ∷ []))

-- the turn of the node that the spot stands below
pub record Parent (P : Problem) (T : Turn → Type 0) (before : List Node) (c : Spot) : Type 0 where
  pub above : Turn
  pub among : T above
  pub way : way_to P above.position ≡ before
  pub lower : above.position < c.position
  pub values : above.values ≡ c.taken

abbrev pub HasParent : Problem → (Turn → Type 0) → List Node → Spot → Type 0
HasParent P T before c = (before ≡ []) ⊎ Parent P T before c

-- what a turn works on, where T tells the turns, G the gamma terms and V the values of the instance
pub record Work (P : Problem) (T : Turn → Type 0) (G : GammaUse → Type 0) (V : Value → Type 0) (x : Turn) : Type 0 where
  pub before : List Node
  pub from : Spot
  pub past : Spot
  pub sign : Sign
  pub formula : Formula
  pub stood : Stood P before from sign formula
  pub moves : Moves P.setting.logic sign formula from past
  pub takes : Takes G (shape_of sign formula) past x
  pub values : AllByRecursion V x.values
  pub parent : HasParent P T before from

pub moves-position : (l : Logic) (s : Sign) (f : Formula) (c d : Spot) → Moves l s f c d → d.position ≡ c.position
moves-position l s f c d (plain e) = refl
moves-position l s f c d (by_string w e g) = refl
moves-position l s f c d (by_character e) = refl

-- the turn here, as the parent of the components
pub parent-here : (P : Problem) (T : Turn → Type 0) (before : List Node) (d : Spot) (s : Sign) (f : Formula) (vs : List Value) → Turned P before d s f → T (turn d.position vs) → (e : Spot) → d.position < e.position → e.taken ≡ vs → HasParent P T (before ++ node d.position s f ∷ []) e
parent-here P T before d s f vs h t e lt q = inr (record { above = turn d.position vs; among = t; way = way-here P before d s f h.halfway.in_way; lower = lt; values = sym q })

pub at_logic : (l : Logic) (P : Problem) → P.setting.logic ≡ l → (s : Sign) (f : Formula) (c d : Spot) → Moves l s f c d → Moves P.setting.logic s f c d
at_logic l P same s f c d m = subst (λ k. Moves k s f c d) (sym same) m

all-push : (V : Value → Type 0) (vs : List Value) (v : Value) → AllByRecursion V vs → V v → AllByRecursion V (vs ++ v ∷ [])
all-push V [] v h k = (k, tt)
all-push V (u ∷ us) v h k = (h.0, all-push V us v h.1 k)

mutual
  works : (l : Logic) (P : Problem) → P.setting.logic ≡ l → (T : Turn → Type 0) (G : GammaUse → Type 0) (V : Value → Type 0) (before : List Node) (c : Spot) (s : Sign) (f : Formula) (x : Share) → Gives l c s f x → Stood P before c s f → HasParent P T before c → AllByRecursion V c.taken → ((y : Turn) → Among x.turns y → T y) → ((g : GammaUse) → Among x.gammas g → G g) → ((v : Value) → Among x.values v → V v) → (y : Turn) → Among x.turns y → Work P T G V y
  works l P same T G V before c s f x (by_plain e g) h p b t ga va y i = works_shaped l P same T G V before c c s f x g h (plain e) p b t ga va y i
  works l P same T G V before c s f x (by_nu {x = z} w e q g) h p b t ga va y i = works_shaped l P same T G V before c (after_string l w c) s f z g h (by_string w e q) p (all-push V c.taken (steps w) b (va (steps w) (inl refl))) t ga (λ v k. va v (inr k)) y i
  works l P same T G V before c s f x (by_pi {x = z} e g) h p b t ga va y i = works_shaped l P same T G V before c (after_character l c) s f z g h (by_character e) p b t ga va y i

  works_shaped : (l : Logic) (P : Problem) → P.setting.logic ≡ l → (T : Turn → Type 0) (G : GammaUse → Type 0) (V : Value → Type 0) (before : List Node) (c d : Spot) (s : Sign) (f : Formula) (x : Share) → Shaped l d s f x → Stood P before c s f → Moves l s f c d → HasParent P T before c → AllByRecursion V d.taken → ((y : Turn) → Among x.turns y → T y) → ((g : GammaUse) → Among x.gammas g → G g) → ((v : Value) → Among x.values v → V v) → (y : Turn) → Among x.turns y → Work P T G V y
  works_shaped l P same T G V before c d s f x (is_literal {p = q} {ts = ts}) h m p b t ga va y (inl i) = subst (Work P T G V) i (record { before = before; from = c; past = d; sign = s; formula = atom q ts; stood = h; moves = at_logic l P same s f c d m; takes = nothing_more refl; parent = p; values = b })
  works_shaped l P same T G V before c d s f x (is_literal {p = q} {ts = ts}) h m p b t ga va y (inr i) = elim i [ ]
  works_shaped l P same T G V before c d s f x (by_only {x = z} {a = a} e q g) h m p b t ga va y (inl i) = subst (Work P T G V) i (record { before = before; from = c; past = d; sign = s; formula = f; stood = h; moves = at_logic l P same s f c d m; takes = nothing_more (no_gamma e refl); parent = p; values = b })
  works_shaped l P same T G V before c d s f x (by_only {x = z} {a = a} e q g) h m p b t ga va y (inr i) =
      let past = turned P before c d s f h (at_logic l P same s f c d m) in
      works l P same T G V (before ++ node d.position s f ∷ []) (down_by 1 d) a.sign a.formula z g (only-stood P before d s f a past e q) (parent-here P T before d s f d.taken past (t (turn d.position d.taken) (inl refl)) (down_by 1 d) (omega arith) refl) b (λ w k. t w (inr k)) ga va y i
  works_shaped l P same T G V before c d s f x (by_left {x = z} {a = a} {b = b} e q g) h m p r t ga va y (inl i) = subst (Work P T G V) i (record { before = before; from = c; past = d; sign = s; formula = f; stood = h; moves = at_logic l P same s f c d m; takes = nothing_more (no_gamma e refl); parent = p; values = r })
  works_shaped l P same T G V before c d s f x (by_left {x = z} {a = a} {b = b} e q g) h m p r t ga va y (inr i) =
      let past = turned P before c d s f h (at_logic l P same s f c d m) in
      works l P same T G V (before ++ node d.position s f ∷ []) (down_by 1 d) a.sign a.formula z g (first-stood P before d s f Alpha a b past refl (λ rest. refl) e q) (parent-here P T before d s f d.taken past (t (turn d.position d.taken) (inl refl)) (down_by 1 d) (omega arith) refl) r (λ w k. t w (inr k)) ga va y i
  works_shaped l P same T G V before c d s f x (by_right {x = z} {a = a} {b = b} e q g) h m p r t ga va y (inl i) = subst (Work P T G V) i (record { before = before; from = c; past = d; sign = s; formula = f; stood = h; moves = at_logic l P same s f c d m; takes = nothing_more (no_gamma e refl); parent = p; values = r })
  works_shaped l P same T G V before c d s f x (by_right {x = z} {a = a} {b = b} e q g) h m p r t ga va y (inr i) =
      let past = turned P before c d s f h (at_logic l P same s f c d m) in
      works l P same T G V (before ++ node d.position s f ∷ []) (down_by (suc (size a.formula)) d) b.sign b.formula z g (second-stood P before d s f Alpha a b past refl (λ rest. refl) e q) (parent-here P T before d s f d.taken past (t (turn d.position d.taken) (inl refl)) (down_by (suc (size a.formula)) d) (omega arith) refl) r (λ w k. t w (inr k)) ga va y i
  works_shaped l P same T G V before c d s f x (by_both {x = z} {y = u} {a = a} {b = b} e q g j) h m p r t ga va y (inl i) = subst (Work P T G V) i (record { before = before; from = c; past = d; sign = s; formula = f; stood = h; moves = at_logic l P same s f c d m; takes = nothing_more (no_gamma e refl); parent = p; values = r })
  works_shaped l P same T G V before c d s f x (by_both {x = z} {y = u} {a = a} {b = b} e q g j) h m p r t ga va y (inr i) =
      let past = turned P before c d s f h (at_logic l P same s f c d m) in
      let here = t (turn d.position d.taken) (inl refl) in
      elim (among-append z.turns u.turns y i) [
        | inl k ↦ works l P same T G V (before ++ node d.position s f ∷ []) (down_by 1 d) a.sign a.formula z g (first-stood P before d s f Beta a b past refl (λ rest. refl) e q) (parent-here P T before d s f d.taken past here (down_by 1 d) (omega arith) refl) r (λ w n. t w (inr (among-left z.turns u.turns w n))) (λ w n. ga w (among-left z.gammas u.gammas w n)) (λ w n. va w (among-left z.values u.values w n)) y k
        | inr k ↦ works l P same T G V (before ++ node d.position s f ∷ []) (down_by (suc (size a.formula)) d) b.sign b.formula u j (second-stood P before d s f Beta a b past refl (λ rest. refl) e q) (parent-here P T before d s f d.taken past here (down_by (suc (size a.formula)) d) (omega arith) refl) r (λ w n. t w (inr (among-right z.turns u.turns w n))) (λ w n. ga w (among-right z.gammas u.gammas w n)) (λ w n. va w (among-right z.values u.values w n)) y k
      ]
  works_shaped l P same T G V before c d s f x (by_gamma {x = z} {a = a} v e q g) h m p b t ga va y (inl i) = subst (Work P T G V) i (record { before = before; from = c; past = d; sign = s; formula = f; stood = h; moves = at_logic l P same s f c d m; takes = one_term v e (ga (gamma_use v d.label) (inl refl)); values = all-push V d.taken (term v) b (va (term v) (inl refl)); parent = p })
  works_shaped l P same T G V before c d s f x (by_gamma {x = z} {a = a} v e q g) h m p b t ga va y (inr i) =
      let past = turned P before c d s f h (at_logic l P same s f c d m) in
      works l P same T G V (before ++ node d.position s f ∷ []) (spot_inside v (d.taken ++ term v ∷ []) d) a.sign a.formula z g (inside-gamma-stood P before d s f a v past e q) (parent-here P T before d s f (d.taken ++ term v ∷ []) past (t (turn d.position (d.taken ++ term v ∷ [])) (inl refl)) (spot_inside v (d.taken ++ term v ∷ []) d) (omega arith) refl) (all-push V d.taken (term v) b (va (term v) (inl refl))) (λ w k. t w (inr k)) (λ u k. ga u (inr k)) (λ u k. va u (inr k)) y i
  works_shaped l P same T G V before c d s f x (by_delta {x = z} {a = a} e q g) h m p b t ga va y (inl i) = subst (Work P T G V) i (record { before = before; from = c; past = d; sign = s; formula = f; stood = h; moves = at_logic l P same s f c d m; takes = nothing_more (no_gamma e refl); parent = p; values = b })
  works_shaped l P same T G V before c d s f x (by_delta {x = z} {a = a} e q g) h m p b t ga va y (inr i) =
      let past = turned P before c d s f h (at_logic l P same s f c d m) in
      works l P same T G V (before ++ node d.position s f ∷ []) (spot_inside (g_eigen d.position (values_tree d.taken)) d.taken d) a.sign a.formula z g (inside-delta-stood P before d s f a past e q) (parent-here P T before d s f d.taken past (t (turn d.position d.taken) (inl refl)) (spot_inside (g_eigen d.position (values_tree d.taken)) d.taken d) (omega arith) refl) b (λ w k. t w (inr k)) ga va y i

-- each turn of what the root gives
pub root-works : (P : Problem) (x : Share) → Gives P.setting.logic root_spot F P.formula x → (T : Turn → Type 0) (G : GammaUse → Type 0) (V : Value → Type 0) → ((y : Turn) → Among x.turns y → T y) → ((g : GammaUse) → Among x.gammas g → G g) → ((v : Value) → Among x.values v → V v) → (y : Turn) → Among x.turns y → Work P T G V y
root-works P x g T G V t ga va y i = works P.setting.logic P refl T G V [] root_spot F P.formula x g (root-stood P) (inl refl) tt t ga va y i
