-- Ways, position by position.
use Rattle.std.proofs.Common.{◌≡◌, ℕ, zero, suc, ◌+◌, ◌-◌, ◌<◌, ◌≤◌, List, [], ◌∷◌, length, map, Bool, true, false, ◌&&◌, ◌==◌, nat_lt, Option, Some, None, refl, ap, sym, ◌∙◌, arith}
use Rattle.std.specs.Option.{option_map_or}
use Rattle.std.proofs.lemmas.Bool.Decides.{nat_tests}
use Rattle.calculus.specs.declared.sign.Sign.{Sign}
use Rattle.calculus.specs.declared.setting.Logic.{Logic}
use Rattle.calculus.specs.declared.kind.ModalPart.{ModalPart}
use Rattle.calculus.specs.declared.kind.Shape.{Shape}
use Rattle.calculus.specs.Ground.{Value}
use Rattle.calculus.specs.Kinds.{Signed, components, shape_of, modal_of}
use Rattle.calculus.specs.Positions.{size, Node, node, way_from}
use Rattle.calculus.specs.Skolem.{is_empty, last_node}
use Rattle.calculus.specs.Syntax.{Formula, atom, neg, conj, disj, imp, all, ex, box, dia}
use Rattle.tableau_core.specs.InsideView.{Inside, LeadsOn, way_inside}
use Rattle.tableau_core.specs.Fitting.{is_made, is_maker, fits, past, past_node}
use Rattle.tableau_core.specs.declared.way.Maker.{Maker}

pub way-by : (q : ℕ) (s : Sign) (f : Formula) (p : ℕ) → suc p < size f → way_from q s f (suc p) ≡ node q s f ∷ way_inside q p (components s f)
way-by q s (atom r ts) p h = absurd (omega arith)
way-by q s (neg a) p h = refl
way-by q s (conj a b) p h = refl
way-by q s (disj a b) p h = refl
way-by q s (imp a b) p h = refl
way-by q s (all a) p h = refl
way-by q s (ex a) p h = refl
way-by q s (box a) p h = refl
way-by q s (dia a) p h = refl

-- a way begins with its first position
pub way-begins : (q : ℕ) (s : Sign) (f : Formula) (p : ℕ) → p < size f → (ns : List Node) × (way_from q s f p ≡ node q s f ∷ ns)
way-begins q s f zero h = ([], refl)
way-begins q s f (suc p) h = (way_inside q p (components s f), way-by q s f p h)

and-inside : {A : Type 0} (t : Bool) (o : Option A) (f : A → Bool) → (t && option_map_or f o false) ≡ option_map_or (λ x. t && f x) o false
and-inside true o f = refl
and-inside false None f = refl
and-inside false (Some x) f = refl

-- past one position that is not the last
pub made-next : (k : Maker) (l : Logic) (n : Node) (ns ms : List Node) (m : Node) (vs : List Value) → ns ≡ m ∷ ms → is_made k l (n ∷ ns) vs ≡ option_map_or (is_made k l ns) (past l n vs) false
unfolding is_made fits
made-next k l n ns ms m vs e = rw e (and-inside (option_map_or (λ (x : Node). is_maker k (modal_of l x.sign x.formula) (shape_of x.sign x.formula)) (last_node (m ∷ ms)) false) (past l n vs) (fits l (m ∷ ms)))

-- values that do not fit the first position
pub not-made : (k : Maker) (l : Logic) (q : ℕ) (s : Sign) (f : Formula) (p : ℕ) (vs : List Value) → p < size f → past_node l (modal_of l s f) (shape_of s f) vs ≡ None → false ≡ is_made k l (way_from q s f p) vs
unfolding is_made fits
not-made k l q s f p vs h e = let b = way-begins q s f p h in rw (b.1, e) (sym (and-inside (option_map_or (λ (x : Node). is_maker k (modal_of l x.sign x.formula) (shape_of x.sign x.formula)) (last_node (node q s f ∷ b.0)) false) None (fits l b.0)))

-- the last position
pub made-here : (k : Maker) (l : Logic) (q : ℕ) (s : Sign) (f : Formula) (p : ℕ) (vs rest : List Value) (m : ModalPart) (h : Shape) (r : Bool) → p ≡ 0 → m ≡ modal_of l s f → h ≡ shape_of s f → Some rest ≡ past_node l m h vs → r ≡ (is_maker k m h && is_empty rest) → r ≡ is_made k l (way_from q s f p) vs
unfolding is_made fits
made-here k l q s f p vs rest m h r z em eh e d = d ∙ rw (z, sym em, sym eh, sym e) refl

pub made-last : {X : Type 0} (view : X → Value) (rest : List X) (x y r : Bool) → x ≡ true → x ≡ y → r ≡ (length rest == 0) → r ≡ (y && is_empty (map view rest))
made-last view [] x y r t e d = rw (sym e, t) (d ∙ refl)
made-last view (v ∷ vs) x y r t e d = rw (sym e, t) (d ∙ grind (arith, nat_tests))

pub made-not : (x y r b : Bool) → x ≡ false → x ≡ y → r ≡ x → r ≡ (y && b)
made-not x y r b f e d = rw (sym e, f) (d ∙ f)

-- by the kind of the first position
pub past-kind : (l : Logic) (m n : ModalPart) (h k : Shape) (vs : List Value) (o : Option (List Value)) → m ≡ n → h ≡ k → o ≡ past_node l m h vs → o ≡ past_node l n k vs
past-kind l m n h k vs o e f d = rw (sym e, sym f) d

-- the values past a position are those of the way further down
abbrev pub IsMadeBelow : Maker → Logic → Sign → Formula → ℕ → List Value → Bool → Type 0
IsMadeBelow k l s f p vs result = (q : ℕ) → result ≡ is_made k l (way_from q s f p) vs

pub made-inside : (k : Maker) (l : Logic) (s : Sign) (f : Formula) (p : ℕ) (vs rest : List Value) (i : Inside) (r : Bool) → p < size f → 0 < p → LeadsOn p (components s f) i → Some rest ≡ past_node l (modal_of l s f) (shape_of s f) vs → IsMadeBelow k l i.sign i.formula i.place rest r → IsMadeBelow k l s f p vs r
made-inside k l s f zero vs rest i r h z o e m q = absurd (omega arith)
made-inside k l s f (suc p) vs rest i r h z o e m q =
    let b = way-begins (q + i.further) i.sign i.formula i.place o.inside in
    let w : way_from q s f (suc p) ≡ node q s f ∷ way_from (q + i.further) i.sign i.formula i.place = way-by q s f p h ∙ ap (λ x. node q s f ∷ way_inside q x (components s f)) (omega arith) ∙ ap (λ x. node q s f ∷ x) (o.way q) in
    m (q + i.further) ∙ sym (ap (λ x. is_made k l x vs) w ∙ made-next k l (node q s f) (way_from (q + i.further) i.sign i.formula i.place) b.0 (node (q + i.further) i.sign i.formula) vs b.1 ∙ ap (λ x. option_map_or (is_made k l (way_from (q + i.further) i.sign i.formula i.place)) x false) (sym e))

pub ruleset made = (not-made, made-here, made-inside)

pub leads-one : (p : ℕ) (a : Signed) (i : Inside) → 0 < p → p ≤ size a.formula → i.sign ≡ a.sign → i.formula ≡ a.formula → i.further ≡ 1 → i.place ≡ p - 1 → LeadsOn p (a ∷ []) i
leads-one p a i h k e f g j = record {
  way = λ q. rw (e, f, g, j) (ap (λ x. way_from x a.sign a.formula (p - 1)) (omega arith));
  inside = rw (f, j) (omega arith);
  position = omega arith;
}

pub leads-first : (p : ℕ) (a b : Signed) (i : Inside) → p ≤ size a.formula → 0 < p → LeadsOn p (a ∷ []) i → LeadsOn p (a ∷ b ∷ []) i
leads-first p a b i h k o = let t : nat_lt (p - 1) (size a.formula) ≡ true = grind (arith, nat_tests) in record {
  way = λ q. rw t (o.way q);
  inside = o.inside;
  position = o.position;
}

pub leads-second : (p : ℕ) (a b : Signed) (i : Inside) → p ≤ size a.formula + size b.formula → size a.formula < p → i.sign ≡ b.sign → i.formula ≡ b.formula → i.further ≡ size a.formula + 1 → i.place ≡ p - 1 - size a.formula → LeadsOn p (a ∷ b ∷ []) i
leads-second p a b i h k e f g j = let t : nat_lt (p - 1) (size a.formula) ≡ false = grind (arith, nat_tests) in record {
  way = λ q. rw (t, e, f, g, j) (ap (λ x. way_from x b.sign b.formula (p - 1 - size a.formula)) (omega arith));
  inside = rw (f, j) (omega arith);
  position = omega arith;
}

pub ruleset inside = (leads-one, leads-first, leads-second)
