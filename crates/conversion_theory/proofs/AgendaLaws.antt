-- Sorted by the size of their values and then by position, the turns of a tableau are an agenda: each stands after its parent and after
-- the turns that introduce what it mentions. Names are finite trees, so no argument on cycles is needed.
use Rattle.std.proofs.Common.{◌≡◌, ◌⊎◌, ◌↔◌, ℕ, ◌<◌, ◌≤◌, List, [], ◌∷◌, ◌++◌, length, take, drop, true, false, ◌&&◌, IsTrue, Contains, Option, Some, None, option_and_then, refl, sym, ◌∙◌, ap, subst, inl, inr, slice_get, arith, append_assoc, append-nil, take-append-drop}
use Rattle.std.specs.Option.{option_map_or}
use Rattle.std.proofs.lemmas.Bool.{false≢true, and_parts, cases_eq}
use Rattle.plain_laws.proofs.Options.{none_some}
use Rattle.calculus.specs.declared.setting.Logic.{Logic}
use Rattle.calculus.specs.declared.kind.Shape.{Shape}
use Rattle.calculus.specs.declared.kind.Shape.TheVariants.{Gamma}
use Rattle.calculus.specs.declared.kind.ModalPart.{ModalPart}
use Rattle.calculus.specs.declared.kind.ModalPart.TheVariants.{Plain, Nu, Pi}
use Rattle.calculus.specs.Syntax.{Problem}
use Rattle.calculus.specs.Ground.{Value, term, steps}
use Rattle.calculus.specs.Kinds.{shape_of, modal_of}
use Rattle.calculus.specs.Positions.{Node, node}
use Rattle.calculus.specs.Skolem.{Reached, take_string, after_modal, take_term, after_shape, after_node, at_root, way_to, is_step, is_empty, fits_along, fits_way}
use Rattle.calculus.specs.Instances.{Spot, GammaUse, Turn, ClauseInstance}
use Rattle.calculus.specs.ComputedInstances.{Part, reached_at, instance_of}
use Rattle.calculus.specs.Tableaux.{Tableau, instances}
use Rattle.conversion_theory.specs.Turns.{Name, turns_of_instance, turns_of, names_mentioned, names_introduced, last_but_one, IsParent, IsAgenda}
use Rattle.calculus.proofs.Members.{Among, contains-at, at-contains, among-contains, contains-among, among-joined, joined-among}
use Rattle.calculus.proofs.SpotLaws.{LeadsTo, way-here}
use Rattle.calculus.proofs.InstanceLaws.{OnPart}
use Rattle.calculus.proofs.CasesLaws.{Cases, cases-by_instance_of}
use Rattle.conversion_theory.proofs.HitLaws.{Moves, plain, by_string, by_character, turn}
use Rattle.conversion_theory.proofs.PlaceLaws.{Parent, Stood, Takes, nothing_more, one_term, HasParent, Work, moves-position, root-works}

-- ---- the turns of a tableau

abbrev pub TurnOf : Problem → Tableau → Turn → Type 0
TurnOf P t x = Among (turns_of P t) x

-- nothing is asked of terms and values
abbrev pub Anything : {A : Type 0} → A → Type 0
Anything x = Unit {0}

part-works : (P : Problem) (i : ClauseInstance) (here : Turn → Type 0) → ((y : Turn) → Among (turns_of_instance P i) y → here y) → (o : Option Part) → instance_of P i.selection i.values ≡ o → OnPart (Cases P i.selection i.values) o → (y : Turn) → Among (option_map_or (λ (x : Part). x.turns) o []) y → Work P here Anything Anything y
part-works P i here t None e c y k = elim k [ ]
part-works P i here t (Some x) e c y k =
    let same : x.turns ≡ c.share.turns = ap (λ (p : Part). p.turns) c.part_is in
    let whole : turns_of_instance P i ≡ x.turns = ap (λ o. option_map_or (λ (p : Part). p.turns) o []) e in
    root-works P c.share c.instance.given here Anything Anything
    (λ z m. t z (subst (λ ts. Among ts z) (sym (whole ∙ same)) m)) (λ g m. tt) (λ v m. tt) y (subst (λ ts. Among ts y) same k)

-- each turn of a tableau works on a signed formula, and its parent is one of the turns
pub turn-works : (P : Problem) (t : Tableau) (x : Turn) → TurnOf P t x → Work P (TurnOf P t) Anything Anything x
turn-works P t x h =
    let found = among-joined (turns_of_instance P) (instances t) x h in
    let i = found.0 in
    part-works P i (TurnOf P t) (λ y k. joined-among (turns_of_instance P) (instances t) i y found.1 k) (instance_of P i.selection i.values) refl (cases-by_instance_of P i.selection i.values) x found.2

-- ---- ways that are followed

pub LeadsTo-same : (l : Logic) (ns : List Node) (r m k : Reached) → LeadsTo l ns r m → LeadsTo l ns r k → m ≡ k
LeadsTo-same l [] r m k e q = sym e ∙ q
LeadsTo-same l (n ∷ ns) r m k f g =
    let same : f.0 ≡ g.0 = let e : Some f.0 ≡ Some g.0 = sym f.1 ∙ g.1 in cc in
    LeadsTo-same l ns f.0 m k f.3 (subst (λ x. LeadsTo l ns x k) (sym same) g.3)

-- r with more values to come
abbrev pub with_more : List Value → Reached → Reached
with_more vs r = record r { rest = r.rest ++ vs }

abbrev Keeps : List Value → Option Reached → Option Reached → Type 0
Keeps vs None o = Unit {0}
Keeps vs (Some r) o = o ≡ Some (with_more vs r)

string-more : (l : Logic) (vs : List Value) (r q : Reached) → r.label ≡ q.label → r.taken ≡ q.taken → (us : List Value) → Keeps vs (take_string l r us) (take_string l q (us ++ vs))
string-more l vs r q e k [] = tt
string-more l vs r q e k (term t ∷ us) = tt
string-more l vs r q e k (steps s ∷ us) = rw (e, k) refl

modal-more : (l : Logic) (p : ℕ) (m : ModalPart) (vs : List Value) (r : Reached) → Keeps vs (after_modal l p m r) (after_modal l p m (with_more vs r))
modal-more l p Plain vs r = refl
modal-more l p Nu vs r = string-more l vs r (with_more vs r) refl refl r.rest
modal-more l p Pi vs r = refl

term-more : (vs : List Value) (r q : Reached) → r.label ≡ q.label → r.taken ≡ q.taken → (us : List Value) → Keeps vs (take_term r us) (take_term q (us ++ vs))
term-more vs r q e k [] = tt
term-more vs r q e k (steps s ∷ us) = tt
term-more vs r q e k (term t ∷ us) = rw (e, k) refl

shape-more : (s : Shape) (vs : List Value) (r : Reached) → Keeps vs (after_shape s r) (after_shape s (with_more vs r))
shape-more Gamma vs r = term-more vs r (with_more vs r) refl refl r.rest
shape-more _ vs r = refl

both-more : (s : Shape) (vs : List Value) (o q : Option Reached) → Keeps vs o q → Keeps vs (option_and_then (after_shape s) o) (option_and_then (after_shape s) q)
both-more s vs None q e = tt
both-more s vs (Some r) q e = subst (λ z. Keeps vs (after_shape s r) (option_and_then (after_shape s) z)) (sym e) (shape-more s vs r)

node-more : (l : Logic) (n : Node) (vs : List Value) (r k : Reached) → after_node l n r ≡ Some k → after_node l n (with_more vs r) ≡ Some (with_more vs k)
node-more l n vs r k e =
    let h = both-more (shape_of n.sign n.formula) vs (after_modal l n.position (modal_of l n.sign n.formula) r) (after_modal l n.position (modal_of l n.sign n.formula) (with_more vs r)) (modal-more l n.position (modal_of l n.sign n.formula) vs r) in
    subst (λ o. Keeps vs o (after_node l n (with_more vs r))) e h

-- the test of a step sees labels alone
step-more : (l : Logic) (m : ModalPart) (vs : List Value) (r k : Reached) → is_step l m (with_more vs r) (with_more vs k) ≡ is_step l m r k
step-more l Plain vs r k = refl
step-more l Nu vs r k = refl
step-more l Pi vs r k = refl

pub LeadsTo-more : (l : Logic) (ns : List Node) (vs : List Value) (r m : Reached) → LeadsTo l ns r m → LeadsTo l ns (with_more vs r) (with_more vs m)
LeadsTo-more l [] vs r m e = ap (with_more vs) e
LeadsTo-more l (n ∷ ns) vs r m f = (with_more vs f.0, node-more l n vs r f.0 f.1, step-more l (modal_of l n.sign n.formula) vs r f.0 ∙ f.2, LeadsTo-more l ns vs f.0 m f.3)

empty-nil : (xs : List Value) → is_empty xs ≡ true → xs ≡ []
empty-nil [] e = refl
empty-nil (x ∷ xs) e = absurd (false≢true e)

-- values that fit a way lead along it, and none is left
mutual-free-fits : (l : Logic) (n : Node) (ns : List Node) (r : Reached) → ((k : Reached) → IsTrue (fits_along l ns k) → (m : Reached) × LeadsTo l ns k m × (m.rest ≡ [])) → (o : Option Reached) → after_node l n r ≡ o → IsTrue (option_map_or (λ (next : Reached). is_step l (modal_of l n.sign n.formula) r next && fits_along l ns next) o false) → (m : Reached) × LeadsTo l (n ∷ ns) r m × (m.rest ≡ [])
mutual-free-fits l n ns r rest None e h = absurd (false≢true h)
mutual-free-fits l n ns r rest (Some k) e h =
    let parts = and_parts (is_step l (modal_of l n.sign n.formula) r k) (fits_along l ns k) h in
    let q = rest k parts.1 in
    (q.0, (k, e, parts.0, q.1), q.2)

pub fits-leads : (l : Logic) (ns : List Node) (r : Reached) → IsTrue (fits_along l ns r) → (m : Reached) × LeadsTo l ns r m × (m.rest ≡ [])
fits-leads l [] r h = (r, refl, empty-nil r.rest h)
fits-leads l (n ∷ ns) r h = mutual-free-fits l n ns r (λ k g. fits-leads l ns k g) (after_node l n r) refl h

-- values in order, taken or to come, are the same at each node
abbrev Has : List Value → Option Reached → Type 0
Has vs None = Unit {0}
Has vs (Some r) = r.taken ++ r.rest ≡ vs

string-values : (l : Logic) (r : Reached) (us : List Value) → Has (r.taken ++ us) (take_string l r us)
string-values l r [] = tt
string-values l r (term t ∷ us) = tt
string-values l r (steps s ∷ us) = append_assoc r.taken (steps s ∷ []) us

term-values : (r : Reached) (us : List Value) → Has (r.taken ++ us) (take_term r us)
term-values r [] = tt
term-values r (steps s ∷ us) = tt
term-values r (term t ∷ us) = append_assoc r.taken (term t ∷ []) us

modal-values : (l : Logic) (p : ℕ) (m : ModalPart) (r : Reached) → Has (r.taken ++ r.rest) (after_modal l p m r)
modal-values l p Plain r = refl
modal-values l p Nu r = string-values l r r.rest
modal-values l p Pi r = refl

shape-values : (s : Shape) (r : Reached) → Has (r.taken ++ r.rest) (after_shape s r)
shape-values Gamma r = term-values r r.rest
shape-values _ r = refl

both-values : (s : Shape) (vs : List Value) (o : Option Reached) → Has vs o → Has vs (option_and_then (after_shape s) o)
both-values s vs None h = tt
both-values s vs (Some r) h = subst (λ us. Has us (after_shape s r)) h (shape-values s r)

taken-node : (l : Logic) (n : Node) (r k : Reached) → after_node l n r ≡ Some k → k.taken ++ k.rest ≡ r.taken ++ r.rest
taken-node l n r k e = subst (Has (r.taken ++ r.rest)) e (both-values (shape_of n.sign n.formula) (r.taken ++ r.rest) (after_modal l n.position (modal_of l n.sign n.formula) r) (modal-values l n.position (modal_of l n.sign n.formula) r))

pub LeadsTo-values : (l : Logic) (ns : List Node) (r m : Reached) → LeadsTo l ns r m → m.taken ++ m.rest ≡ r.taken ++ r.rest
LeadsTo-values l [] r m e = ap (λ (x : Reached). x.taken ++ x.rest) (sym e)
LeadsTo-values l (n ∷ ns) r m f = LeadsTo-values l ns f.0 m f.3 ∙ taken-node l n r f.0 f.1

-- the part of the values that fits a way along which all of them lead is what was taken
pub fits-taken : (l : Logic) (ns : List Node) (us taken rest : List Value) (w : _) (k : ℕ) → LeadsTo l ns (at_root us) (record { label = w; taken = taken; rest = rest }) → IsTrue (fits_along l ns (at_root (take k us))) → take k us ≡ taken
fits-taken l ns us taken rest w k f h =
    let q = fits-leads l ns (at_root (take k us)) h in
    let more : LeadsTo l ns (at_root (take k us ++ drop k us)) (with_more (drop k us) q.0) = LeadsTo-more l ns (drop k us) (at_root (take k us)) q.0 q.1 in
    let whole : LeadsTo l ns (at_root us) (with_more (drop k us) q.0) = subst (λ vs. LeadsTo l ns (at_root vs) (with_more (drop k us) q.0)) (take-append-drop k us) more in
    let same = LeadsTo-same l ns (at_root us) (with_more (drop k us) q.0) (record { label = w; taken = taken; rest = rest }) whole f in
    let all_taken : q.0.taken ≡ take k us = sym (append-nil q.0.taken) ∙ ap (λ vs. q.0.taken ++ vs) (sym q.2) ∙ LeadsTo-values l ns (at_root (take k us)) q.0 q.1 in
    sym all_taken ∙ ap (λ (x : Reached). x.taken) same

-- ---- the last two nodes of a way

last_but_one-one : (n : Node) (q : ℕ) → last_but_one (n ∷ []) ≡ Some q → ⊥
last_but_one-one n q e = none_some e

pub last_but_one-two : (ns : List Node) (n m : Node) → last_but_one ((ns ++ n ∷ []) ++ m ∷ []) ≡ Some n.position
last_but_one-two [] n m = refl
last_but_one-two (x ∷ []) n m = refl
last_but_one-two (x ∷ y ∷ []) n m = refl
last_but_one-two (x ∷ y ∷ z ∷ ns) n m = last_but_one-two (y ∷ z ∷ ns) n m

-- ---- the order

-- no turn comes before an earlier one
abbrev pub InOrderBy : (Turn → Turn → Type 0) → List Turn → Type 0
InOrderBy Before agenda = (i j : ℕ) (x y : Turn) → slice_get agenda i ≡ Some x → slice_get agenda j ≡ Some y → i < j → Before y x → ⊥

earlier : (Before : Turn → Turn → Type 0) → ((x : Turn) → Before x x → ⊥) → (agenda : List Turn) → InOrderBy Before agenda → (i j : ℕ) (x y : Turn) → slice_get agenda i ≡ Some x → slice_get agenda j ≡ Some y → Before y x → j < i
earlier Before never agenda h i j x y e f b = elim (cases_eq i j) [
  | inl same ↦ let both : Some x ≡ Some y = sym e ∙ ap (slice_get agenda) same ∙ f in let xy : x ≡ y = cc in absurd (never y (subst (λ z. Before y z) xy b))
  | inr differ ↦ elim (order i j) [ inl lt ↦ absurd (h i j x y e f lt b) | inr le ↦ omega arith ]
]
  where
    order : (m n : ℕ) → (m < n) ⊎ (n ≤ m)
    order m n = grind arith

-- ---- what the order gives

-- where a turn works
pub takes-position : (G : GammaUse → Type 0) (h : Shape) (d : Spot) (x : Turn) → Takes G h d x → x.position ≡ d.position
takes-position G h d x (nothing_more e) = refl
takes-position G h d x (one_term t e g) = refl

pub own-values : (G : GammaUse → Type 0) (h : Shape) (d : Spot) (x : Turn) → Takes G h d x → (own : List Value) × (x.values ≡ d.taken ++ own)
own-values G h d x (nothing_more e) = ([], sym (append-nil d.taken))
own-values G h d x (one_term t e g) = (term t ∷ [], refl)

pub moves-values : (l : Logic) (s : _) (f : _) (c d : Spot) → Moves l s f c d → (own : List Value) × (d.taken ≡ c.taken ++ own)
moves-values l s f c d (plain e) = ([], sym (append-nil c.taken))
moves-values l s f c d (by_string w e g) = (steps w ∷ [], refl)
moves-values l s f c d (by_character e) = ([], sym (append-nil c.taken))

-- the position of a turn, and its values behind those taken before
pub work-position : (P : Problem) (T : Turn → Type 0) (G : GammaUse → Type 0) (V : Value → Type 0) (x : Turn) → (w : Work P T G V x) → x.position ≡ w.from.position
work-position P T G V x w = takes-position G (shape_of w.sign w.formula) w.past x w.takes ∙ moves-position P.setting.logic w.sign w.formula w.from w.past w.moves

pub work-values : (P : Problem) (T : Turn → Type 0) (G : GammaUse → Type 0) (V : Value → Type 0) (x : Turn) → (w : Work P T G V x) → (own : List Value) × (x.values ≡ w.from.taken ++ own)
work-values P T G V x w =
    let a = own-values G (shape_of w.sign w.formula) w.past x w.takes in
    let b = moves-values P.setting.logic w.sign w.formula w.from w.past w.moves in
    (b.0 ++ a.0, a.1 ∙ ap (λ vs. vs ++ a.0) b.1 ∙ append_assoc w.from.taken b.0 a.0)

pub stood-way : (P : Problem) (before : List Node) (c : Spot) (s : _) (f : _) → Stood P before c s f → way_to P c.position ≡ before ++ node c.position s f ∷ []
stood-way P before c s f h = way-here P before c s f h.stands.in_way

pub work-way : (P : Problem) (T : Turn → Type 0) (G : GammaUse → Type 0) (V : Value → Type 0) (x : Turn) → (w : Work P T G V x) → way_to P x.position ≡ w.before ++ node w.from.position w.sign w.formula ∷ []
work-way P T G V x w = ap (way_to P) (work-position P T G V x w) ∙ stood-way P w.before w.from w.sign w.formula w.stood

-- a parent is the turn above, which has a beginning of the values
pub record IsAbove (P : Problem) (t : Tableau) (y x : Turn) : Type 0 where
  pub among : TurnOf P t y
  pub own : List Value
  pub values : x.values ≡ y.values ++ own
  pub lower : y.position < x.position

-- a turn at the root has no parent
root-parent : (P : Problem) (t : Tableau) (x y : Turn) (w : Work P (TurnOf P t) Anything Anything x) → w.before ≡ [] → IsParent P y x → ⊥
root-parent P t x y w e h =
    let n = node w.from.position w.sign w.formula in
    let way : way_to P x.position ≡ n ∷ [] = work-way P (TurnOf P t) Anything Anything x w ∙ ap (λ ns. ns ++ n ∷ []) e in
    last_but_one-one n y.position (ap last_but_one (sym way) ∙ h.position)

-- the parent is the turn above
parent-same : (P : Problem) (t : Tableau) (x y : Turn) (w : Work P (TurnOf P t) Anything Anything x) (p : Parent P (TurnOf P t) w.before w.from) → IsParent P y x → p.above ≡ y
parent-same P t x y w p h =
    let up = turn-works P t p.above p.among in
    let n = node w.from.position w.sign w.formula in
    let m = node up.from.position up.sign up.formula in
    let up_way = work-way P (TurnOf P t) Anything Anything p.above up in
    let way : way_to P x.position ≡ (up.before ++ m ∷ []) ++ n ∷ [] = work-way P (TurnOf P t) Anything Anything x w ∙ ap (λ ns. ns ++ n ∷ []) (sym p.way ∙ up_way) in
    let twice : Some up.from.position ≡ Some y.position = sym (last_but_one-two up.before m n) ∙ ap last_but_one (sym way) ∙ h.position in
    let here : up.from.position ≡ y.position = cc in
    let position : y.position ≡ p.above.position = sym here ∙ sym (work-position P (TurnOf P t) Anything Anything p.above up) in
    let vs = work-values P (TurnOf P t) Anything Anything x w in
    let follow = w.stood.stands.comes vs.0 in
    let whole : LeadsTo P.setting.logic w.before (at_root x.values) (reached_at w.from vs.0) = subst (λ us. LeadsTo P.setting.logic w.before (at_root us) (reached_at w.from vs.0)) (sym vs.1) follow in
    let fits : IsTrue (fits_along P.setting.logic w.before (at_root (take (length y.values) x.values))) = subst (λ ns. IsTrue (fits_along P.setting.logic ns (at_root (take (length y.values) x.values)))) (ap (way_to P) position ∙ p.way) (subst (λ us. IsTrue (fits_way P y.position us)) h.values h.fits) in
    let values : y.values ≡ p.above.values = h.values ∙ fits-taken P.setting.logic w.before x.values w.from.taken vs.0 w.from.label (length y.values) whole fits ∙ sym p.values in
    λ i. turn (sym position i) (sym values i)

pub parent-above : (P : Problem) (t : Tableau) (x y : Turn) (w : Work P (TurnOf P t) Anything Anything x) → HasParent P (TurnOf P t) w.before w.from → IsParent P y x → IsAbove P t y x
parent-above P t x y w (inl e) h = absurd (root-parent P t x y w e h)
parent-above P t x y w (inr p) h =
    let same = parent-same P t x y w p h in
    let vs = work-values P (TurnOf P t) Anything Anything x w in
    let shared : y.values ≡ w.from.taken = ap (λ (z : Turn). z.values) (sym same) ∙ p.values in
    let lower = p.lower in
    let at_x = work-position P (TurnOf P t) Anything Anything x w in
    let at_y = ap (λ (z : Turn). z.position) same in
    record {
      among = subst (TurnOf P t) same p.among;
      own = vs.0;
      values = vs.1 ∙ ap (λ us. us ++ vs.0) (sym shared);
      lower = omega arith;
    }

-- a turn of a tableau has at most one parent
pub only-parent : (P : Problem) (t : Tableau) (x y z : Turn) → TurnOf P t x → IsParent P y x → IsParent P z x → y ≡ z
only-parent P t x y z h g k = let w = turn-works P t x h in by_parent w w.parent
  where
    by_parent : (w : Work P (TurnOf P t) Anything Anything x) → HasParent P (TurnOf P t) w.before w.from → y ≡ z
    by_parent w (inl e) = absurd (root-parent P t x y w e g)
    by_parent w (inr p) = sym (parent-same P t x y w p g) ∙ parent-same P t x z w p k

-- the turns in order, each once, are an agenda, where parents and those that introduce a name come before
module _ (Before : Turn → Turn → Type 0) (never : (x : Turn) → Before x x → ⊥) (P : Problem) (t : Tableau) (above-before : (x y : Turn) → IsAbove P t y x → Before y x) (introduces-before : (x y : Turn) (n : Name) → Among (names_mentioned P x) n → Among (names_introduced P y) n → Before y x) where
  pub agenda-by : (agenda : List Turn) → ((x : Turn) → Contains (turns_of P t) x ↔ Contains agenda x) → ((i j : ℕ) (x : Turn) → slice_get agenda i ≡ Some x → slice_get agenda j ≡ Some x → i ≡ j) → InOrderBy Before agenda → IsAgenda P t agenda
  agenda-by agenda all once ordered = record {
    all = all;
    once = once;
    parents = λ i x y e h.
        let among : TurnOf P t x = among-contains (turns_of P t) x ((all x).1 (contains-at agenda i x e)) in
        let w = turn-works P t x among in
        let above = parent-above P t x y w w.parent h in
        let found = at-contains agenda y ((all y).0 (contains-among (turns_of P t) y above.among)) in
        (found.0, earlier Before never agenda ordered i found.0 x y e found.1 (above-before x y above), found.1);
    names = λ i x y n e m k h.
        let found = at-contains agenda y ((all y).0 k) in
        (found.0, earlier Before never agenda ordered i found.0 x y e found.1 (introduces-before x y n (among-contains (names_mentioned P x) n m) (among-contains (names_introduced P y) n h)), found.1);
  }
