-- What a turn's position and values determine: the spot that it works on, and the label it leads to. The marks of the labels in a tableau
-- are names of the tableau.
use Rattle.std.proofs.Common.{◌≡◌, ◌⊎◌, ℕ, zero, suc, ◌<◌, List, [], ◌∷◌, ◌++◌, length, take, true, false, Some, option_and_then, refl, sym, ◌∙◌, ap, subst, inl, inr, arith, append_assoc, append-nil}
use Rattle.std.specs.Option.{option_map_or}
use Rattle.std.proofs.lemmas.Bool.{false≢true}
use Rattle.calculus.specs.declared.sign.Sign.{Sign}
use Rattle.calculus.specs.declared.setting.Logic.{Logic}
use Rattle.calculus.specs.declared.setting.Logic.TheVariants.{S5}
use Rattle.calculus.specs.declared.kind.Shape.TheVariants.{Gamma}
use Rattle.calculus.specs.declared.kind.ModalPart.TheVariants.{Pi}
use Rattle.calculus.specs.Syntax.{Formula, Problem}
use Rattle.calculus.specs.Ground.{GroundTerm, GroundMark, Value, g_new_mark, term, steps, marks_list, values_tree}
use Rattle.calculus.specs.Kinds.{shape_of, modal_of}
use Rattle.calculus.specs.Positions.{Node, node}
use Rattle.calculus.specs.Labels.{nu_label, pi_label}
use Rattle.calculus.specs.Skolem.{Reached, after_shape, after_node, label_along, at_root, way_to, label_of, fits_along, last_node, is_pi, is_pi_position}
use Rattle.calculus.specs.Instances.{Spot, after_string, after_character, GammaUse, Turn}
use Rattle.calculus.specs.ComputedInstances.{reached_at}
use Rattle.calculus.specs.Tableaux.{Tableau}
use Rattle.conversion_theory.specs.Turns.{Name, mark_name, turns_of, names_mentioned, names_introduced, names_of_tableau, last_but_one, IsParent}
use Rattle.calculus.proofs.Members.{Among, among-left, among-right, joined-among}
use Rattle.calculus.proofs.SpotLaws.{LeadsTo, LeadsTo-append, label-LeadsTo, fits-LeadsTo, last_node-append, is_gamma, NotBoth, gamma-no_pi, after_node-by, way-here}
use Rattle.calculus.proofs.InstanceLaws.{is_step-label}
use Rattle.conversion_theory.proofs.HitLaws.{Moves, plain, by_string, by_character}
use Rattle.conversion_theory.proofs.PlaceLaws.{moves-position, Stood, Turned, turned, env_along, Takes, nothing_more, one_term, Parent, Work}
use Rattle.plain_laws.proofs.Lists.{same-last}
use Rattle.conversion_theory.proofs.AgendaLaws.{TurnOf, Anything, turn-works, LeadsTo-same, takes-position, own-values, work-values, last_but_one-two, work-position, work-way, stood-way}
use Rattle.conversion_theory.proofs.NameLaws.{introduced-mark, mentioned-value}
use Rattle.conversion_theory.proofs.NumberedLaws.{MarksIn, marks-of-string}

-- ---- a spot is determined by its position and the values taken

pub record SameSpot (before before' : List Node) (c c' : Spot) (s s' : Sign) (f f' : Formula) : Type 0 where
  pub befores : before ≡ before'
  pub spots : c ≡ c'
  pub signs : s ≡ s'
  pub formulas : f ≡ f'

pub same-spot : (P : Problem) (before before' : List Node) (c c' : Spot) (s s' : Sign) (f f' : Formula) → Stood P before c s f → Stood P before' c' s' f' → c.position ≡ c'.position → c.taken ≡ c'.taken → SameSpot before before' c c' s s' f f'
same-spot P before before' c c' s s' f f' h g p v =
    let l = P.setting.logic in
    let ways = same-last before before' (node c.position s f) (node c'.position s' f') (sym (stood-way P before c s f h) ∙ ap (way_to P) p ∙ stood-way P before' c' s' f' g) in
    let there : LeadsTo l before (at_root (c.taken ++ [])) (reached_at c' []) = subst (λ vs. LeadsTo l before (at_root (vs ++ [])) (reached_at c' [])) (sym v) (subst (λ ns. LeadsTo l ns (at_root (c'.taken ++ [])) (reached_at c' [])) (sym ways.0) (g.stands.comes [])) in
    let reached = LeadsTo-same l before (at_root (c.taken ++ [])) (reached_at c []) (reached_at c' []) (h.stands.comes []) there in
    let labels : c.label ≡ c'.label = ap (λ (x : Reached). x.label) reached in
    let envs : c.env ≡ c'.env = sym (h.env []) ∙ ap (λ ns. env_along l ns (at_root (c.taken ++ [])) []) ways.0 ∙ ap (λ vs. env_along l before' (at_root (vs ++ [])) []) v ∙ g.env [] in
    record {
      befores = ways.0;
      spots = λ i. record { position = p i; label = labels i; taken = v i; env = envs i };
      signs = ap (λ (n : Node). n.sign) ways.1;
      formulas = ap (λ (n : Node). n.formula) ways.1;
    }

-- ---- where a turn leads

pub turned-leads : (P : Problem) (G : GammaUse → Type 0) (before : List Node) (d : Spot) (s : Sign) (f : Formula) (x : Turn) → Turned P before d s f → Takes G (shape_of s f) d x → (rest : List Value) → LeadsTo P.setting.logic (before ++ node d.position s f ∷ []) (at_root (x.values ++ rest)) (record { label = d.label; taken = x.values; rest = rest })
turned-leads P G before d s f x h (nothing_more e) rest =
    let l = P.setting.logic in
    let come = h.halfway.comes rest in
    LeadsTo-append l before (node d.position s f) (at_root (d.taken ++ rest)) come.0 (reached_at d rest) come.1 (after_node-by l d.position s f come.0 (reached_at d rest) e come.2) come.3
turned-leads P G before d s f x h (one_term t e g) rest =
    let l = P.setting.logic in
    let come = h.halfway.comes (term t ∷ rest) in
    let at_end : Reached = record { label = d.label; taken = d.taken ++ term t ∷ []; rest = rest } in
    let follow = subst (λ vs. LeadsTo l before (at_root vs) come.0) (sym (append_assoc d.taken (term t ∷ []) rest)) come.1 in
    let here : after_node l (node d.position s f) come.0 ≡ Some at_end = ap (option_and_then (after_shape (shape_of s f))) come.2 ∙ ap (λ h. after_shape h (reached_at d (term t ∷ rest))) e in
    LeadsTo-append l before (node d.position s f) _ come.0 at_end follow here (is_step-label l (modal_of l s f) come.0 (reached_at d (term t ∷ rest)) at_end refl come.3)

-- the label of a turn's position by its values is the label past the modal part: the home of what it introduces
pub turned-label : (P : Problem) (G : GammaUse → Type 0) (before : List Node) (d : Spot) (s : Sign) (f : Formula) (x : Turn) → Turned P before d s f → Takes G (shape_of s f) d x → label_of P x.position x.values ≡ d.label
turned-label P G before d s f x h k =
    let l = P.setting.logic in
    let ns = before ++ node d.position s f ∷ [] in
    let lead = turned-leads P G before d s f x h k [] in
    let lead' : LeadsTo l ns (at_root x.values) (record { label = d.label; taken = x.values; rest = [] }) = subst (λ vs. LeadsTo l ns (at_root vs) (record { label = d.label; taken = x.values; rest = [] })) (append-nil x.values) lead in
    ap (λ p. label_along l (way_to P p) (at_root x.values)) (takes-position G (shape_of s f) d x k)
    ∙ ap (λ ms. label_along l ms (at_root x.values)) (way-here P before d s f h.halfway.in_way ∙ sym (append-nil ns))
    ∙ label-LeadsTo l ns [] (at_root x.values) (record { label = d.label; taken = x.values; rest = [] }) lead'

-- a turn of the tableau
pub work-turned : (P : Problem) (T : Turn → Type 0) (G : GammaUse → Type 0) (V : Value → Type 0) (x : Turn) → (w : Work P T G V x) → Turned P w.before w.past w.sign w.formula
work-turned P T G V x w = turned P w.before w.from w.past w.sign w.formula w.stood w.moves

pub work-label : (P : Problem) (T : Turn → Type 0) (G : GammaUse → Type 0) (V : Value → Type 0) (x : Turn) → (w : Work P T G V x) → label_of P x.position x.values ≡ w.past.label
work-label P T G V x w = turned-label P G w.before w.past w.sign w.formula x (work-turned P T G V x w) w.takes

-- the label before a turn's modal part is the one that its parent leads to
pub parent-label : (P : Problem) (T : Turn → Type 0) (before : List Node) (c : Spot) (s : Sign) (f : Formula) → Stood P before c s f → (p : Parent P T before c) → label_of P p.above.position p.above.values ≡ c.label
parent-label P T before c s f h p =
    let l = P.setting.logic in
    let come : LeadsTo l before (at_root c.taken) (reached_at c []) = subst (λ vs. LeadsTo l before (at_root vs) (reached_at c [])) (append-nil c.taken) (h.stands.comes []) in
    ap (λ vs. label_along l (way_to P p.above.position) (at_root vs)) p.values
    ∙ ap (λ ns. label_along l ns (at_root c.taken)) (p.way ∙ sym (append-nil before))
    ∙ label-LeadsTo l before [] (at_root c.taken) (reached_at c []) come

root-label : (P : Problem) (before : List Node) (c : Spot) (s : Sign) (f : Formula) → Stood P before c s f → before ≡ [] → c.label ≡ []
root-label P before c s f h e = let come = subst (λ ns. LeadsTo P.setting.logic ns (at_root (c.taken ++ [])) (reached_at c [])) e (h.stands.comes []) in ap (λ (x : Reached). x.label) (sym come)

-- the position's own modal part
pub pi-position : (P : Problem) (before : List Node) (c : Spot) (s : Sign) (f : Formula) → Stood P before c s f → modal_of P.setting.logic s f ≡ Pi → is_pi_position P c.position ≡ true
pi-position P before c s f h e =
    let way = stood-way P before c s f h in
    ap (λ ns. option_map_or (λ (n : Node). is_pi (modal_of P.setting.logic n.sign n.formula)) (last_node ns) false) way
    ∙ ap (λ o. option_map_or (λ (n : Node). is_pi (modal_of P.setting.logic n.sign n.formula)) o false) (last_node-append before (node c.position s f))
    ∙ ap is_pi e

-- no turn both introduces a character and takes a term
pub pi-takes-nothing : (P : Problem) (G : GammaUse → Type 0) (d : Spot) (s : Sign) (f : Formula) (x : Turn) → modal_of P.setting.logic s f ≡ Pi → Takes G (shape_of s f) d x → x.values ≡ d.taken
pi-takes-nothing P G d s f x e (nothing_more g) = refl
pi-takes-nothing P G d s f x e (one_term t g u) = let both = gamma-no_pi P.setting.logic s f in let clash : NotBoth Gamma Pi = subst (λ m. NotBoth Gamma m) e (subst (λ h. NotBoth h (modal_of P.setting.logic s f)) g both) in absurd (false≢true clash)

-- ---- names of labels

pub marks-append : (S : Name → Type 0) (w v : List GroundMark) → MarksIn S w → MarksIn S v → MarksIn S (w ++ v)
marks-append S [] v h g = g
marks-append S (m ∷ w) v h g = (h.0, marks-append S w v h.1 g)

pub marks-nu : (S : Name → Type 0) (l : Logic) (w v : List GroundMark) → MarksIn S w → MarksIn S v → MarksIn S (nu_label l w v)
marks-nu S S5 w v h g = g
marks-nu S _ w v h g = marks-append S w v h g

pub marks-pi : (S : Name → Type 0) (l : Logic) (w : List GroundMark) (m : GroundMark) → MarksIn S w → S (mark_name m) → MarksIn S (pi_label l w m)
marks-pi S S5 w m h g = (g, tt)
marks-pi S _ w m h g = marks-append S w (m ∷ []) h (g, tt)

-- past the modal part the label has the marks of the string, or the character of this position
pub moved-marks : (P : Problem) (S : Name → Type 0) (G : GammaUse → Type 0) (before : List Node) (c d : Spot) (s : Sign) (f : Formula) (x : Turn) → Stood P before c s f → Moves P.setting.logic s f c d → Takes G (shape_of s f) d x → MarksIn S c.label → ((n : Name) → Among (names_mentioned P x) n → S n) → ((n : Name) → Among (names_introduced P x) n → S n) → MarksIn S d.label
moved-marks P S G before c d s f x h (plain e) k g m i = g
moved-marks P S G before c d s f x h (by_string w e q) k g m i =
    let own = own-values G (shape_of s f) (after_string P.setting.logic w c) x k in
    let there : Among x.values (steps w) = subst (λ vs. Among vs (steps w)) (sym own.1) (among-left (c.taken ++ steps w ∷ []) own.0 (steps w) (among-right c.taken (steps w ∷ []) (steps w) (inl refl))) in
    marks-nu S P.setting.logic c.label (marks_list w) g (marks-of-string S w (λ n j. m n (mentioned-value P x (steps w) n there j)))
moved-marks P S G before c d s f x h (by_character e) k g m i =
    let values = pi-takes-nothing P G (after_character P.setting.logic c) s f x e k in
    let position = takes-position G (shape_of s f) (after_character P.setting.logic c) x k in
    let here : is_pi_position P x.position ≡ true = ap (is_pi_position P) position ∙ pi-position P before c s f h e in
    let new = i (mark_name (g_new_mark x.position (values_tree x.values))) (introduced-mark P x here) in
    let same : g_new_mark x.position (values_tree x.values) ≡ g_new_mark c.position (values_tree c.taken) = λ j. g_new_mark (position j) (values_tree (values j)) in
    marks-pi S P.setting.logic c.label (g_new_mark c.position (values_tree c.taken)) g (subst (λ k. S (mark_name k)) same new)

-- ---- the labels of a tableau have marks of the tableau

abbrev pub NameOf : Problem → Tableau → Name → Type 0
NameOf P t n = Among (names_of_tableau P t) n

pub mentioned-name : (P : Problem) (t : Tableau) (x : Turn) → TurnOf P t x → (n : Name) → Among (names_mentioned P x) n → NameOf P t n
mentioned-name P t x h n i = joined-among (λ y. names_mentioned P y ++ names_introduced P y) (turns_of P t) x n h (among-left (names_mentioned P x) (names_introduced P x) n i)

pub introduced-name : (P : Problem) (t : Tableau) (x : Turn) → TurnOf P t x → (n : Name) → Among (names_introduced P x) n → NameOf P t n
introduced-name P t x h n i = joined-among (λ y. names_mentioned P y ++ names_introduced P y) (turns_of P t) x n h (among-right (names_mentioned P x) (names_introduced P x) n i)

-- the home of what a turn introduces
turn-marks : (P : Problem) (t : Tableau) (n : ℕ) (x : Turn) → x.position < n → TurnOf P t x → MarksIn (NameOf P t) (label_of P x.position x.values)
turn-marks P t zero x lt h = absurd (omega arith)
turn-marks P t (suc n) x lt h =
    let w = turn-works P t x h in
    let at = work-position P (TurnOf P t) Anything Anything x w in
    let before : MarksIn (NameOf P t) w.from.label = elim w.parent [
      | inl e ↦ subst (MarksIn (NameOf P t)) (sym (root-label P w.before w.from w.sign w.formula w.stood e)) tt
      | inr p ↦ let lower = p.lower in subst (MarksIn (NameOf P t)) (parent-label P (TurnOf P t) w.before w.from w.sign w.formula w.stood p) (turn-marks P t n p.above (omega arith) p.among)
    ] in
    subst (MarksIn (NameOf P t)) (sym (work-label P (TurnOf P t) Anything Anything x w)) (moved-marks P (NameOf P t) Anything w.before w.from w.past w.sign w.formula x w.stood w.moves w.takes before (mentioned-name P t x h) (introduced-name P t x h))

pub label-marks : (P : Problem) (t : Tableau) (x : Turn) → TurnOf P t x → MarksIn (NameOf P t) (label_of P x.position x.values)
label-marks P t x h = turn-marks P t (suc x.position) x (omega arith) h

-- ---- the spot that a turn works on is the only one with its position and the values taken before

pub work-from : (P : Problem) (T : Turn → Type 0) (G : GammaUse → Type 0) (V : Value → Type 0) (x : Turn) (w : Work P T G V x) (before : List Node) (c : Spot) (s : Sign) (f : Formula) → Stood P before c s f → x.position ≡ c.position → (own : List Value) → x.values ≡ c.taken ++ own → SameSpot before w.before c w.from s w.sign f w.formula
work-from P T G V x w before c s f h p own v =
    let l = P.setting.logic in
    let ways = same-last before w.before (node c.position s f) (node w.from.position w.sign w.formula) (sym (stood-way P before c s f h) ∙ ap (way_to P) (sym p) ∙ work-way P T G V x w) in
    let vs = work-values P T G V x w in
    let here : LeadsTo l before (at_root x.values) (reached_at c own) = subst (λ us. LeadsTo l before (at_root us) (reached_at c own)) (sym v) (h.stands.comes own) in
    let there : LeadsTo l before (at_root x.values) (reached_at w.from vs.0) = subst (λ ns. LeadsTo l ns (at_root x.values) (reached_at w.from vs.0)) (sym ways.0) (subst (λ us. LeadsTo l w.before (at_root us) (reached_at w.from vs.0)) (sym vs.1) (w.stood.stands.comes vs.0)) in
    let reached = LeadsTo-same l before (at_root x.values) (reached_at c own) (reached_at w.from vs.0) here there in
    same-spot P before w.before c w.from s w.sign f w.formula h w.stood (ap (λ (n : Node). n.position) ways.1) (ap (λ (r : Reached). r.taken) reached)

-- what a turn takes at a spot
pub takes-cases : (G : GammaUse → Type 0) (h : _) (d : Spot) (x : Turn) → Takes G h d x → ((is_gamma h ≡ false) × (x.values ≡ d.taken)) ⊎ ((t : GroundTerm) × (h ≡ Gamma) × (x.values ≡ d.taken ++ term t ∷ []))
takes-cases G h d x (nothing_more e) = inl (e, refl)
takes-cases G h d x (one_term t e g) = inr (t, e, refl)

taken-same : (G H : GammaUse → Type 0) (h : _) (d e : Spot) (x : Turn) → Takes G h d x → Takes H h e x → d.taken ≡ e.taken
taken-same G H h d e x k j = elim (takes-cases G h d x k) [
  | inl p ↦ elim (takes-cases H h e x j) [
    | inl q ↦ sym p.1 ∙ q.1
    | inr q ↦ absurd (false≢true (sym p.0 ∙ ap is_gamma q.1))
  ]
  | inr p ↦ elim (takes-cases H h e x j) [
    | inl q ↦ absurd (false≢true (sym q.0 ∙ ap is_gamma p.1))
    | inr q ↦ (same-last d.taken e.taken (term p.0) (term q.0) (sym p.2 ∙ q.2)).0
  ]
]

pub moves-env : (l : Logic) (s : Sign) (f : Formula) (c d : Spot) → Moves l s f c d → d.env ≡ c.env
moves-env l s f c d (plain e) = refl
moves-env l s f c d (by_string w e g) = refl
moves-env l s f c d (by_character e) = refl

-- and the turn tells where the modal part led
pub past-same : (P : Problem) (G H : GammaUse → Type 0) (before : List Node) (c d e : Spot) (s : Sign) (f : Formula) (x : Turn) → Stood P before c s f → Moves P.setting.logic s f c d → Moves P.setting.logic s f c e → Takes G (shape_of s f) d x → Takes H (shape_of s f) e x → d ≡ e
past-same P G H before c d e s f x h m n k j =
    let l = P.setting.logic in
    let pd = moves-position l s f c d m in
    let pe = moves-position l s f c e n in
    let here = turned-leads P G before d s f x (turned P before c d s f h m) k [] in
    let there = subst (λ p. LeadsTo l (before ++ node p s f ∷ []) (at_root (x.values ++ [])) (record { label = e.label; taken = x.values; rest = [] })) (pe ∙ sym pd) (turned-leads P H before e s f x (turned P before c e s f h n) j []) in
    let labels = ap (λ (r : Reached). r.label) (LeadsTo-same l (before ++ node d.position s f ∷ []) (at_root (x.values ++ [])) (record { label = d.label; taken = x.values; rest = [] }) (record { label = e.label; taken = x.values; rest = [] }) here there) in
    let positions = pd ∙ sym pe in
    let takens = taken-same G H (shape_of s f) d e x k j in
    let envs = moves-env l s f c d m ∙ sym (moves-env l s f c e n) in
    λ i. record { position = positions i; label = labels i; taken = takens i; env = envs i }

-- ---- a turn on a component has the turn of the whole as its parent

take-front : (xs ys : List Value) → take (length xs) (xs ++ ys) ≡ xs
take-front [] ys = refl
take-front (x ∷ xs) ys = ap (λ zs. x ∷ zs) (take-front xs ys)

pub child-parent : (P : Problem) (T : Turn → Type 0) (G : GammaUse → Type 0) (V : Value → Type 0) (x : Turn) (w : Work P T G V x) (e : Spot) (s : Sign) (f : Formula) → Stood P (w.before ++ node w.past.position w.sign w.formula ∷ []) e s f → e.taken ≡ x.values → (y : Turn) → y.position ≡ e.position → (own : List Value) → y.values ≡ e.taken ++ own → IsParent P x y
child-parent P T G V x w e s f h v y p own q =
    let l = P.setting.logic in
    let n = node w.past.position w.sign w.formula in
    let moved = moves-position l w.sign w.formula w.from w.past w.moves in
    let at : n.position ≡ x.position = moved ∙ sym (work-position P T G V x w) in
    let way : way_to P y.position ≡ (w.before ++ n ∷ []) ++ node e.position s f ∷ [] = ap (way_to P) p ∙ stood-way P (w.before ++ n ∷ []) e s f h in
    let whole : y.values ≡ x.values ++ own = q ∙ ap (λ us. us ++ own) v in
    let x_way : way_to P x.position ≡ w.before ++ n ∷ [] = work-way P T G V x w ∙ ap (λ k. w.before ++ node k w.sign w.formula ∷ []) (sym moved) in
    let lead : LeadsTo l (w.before ++ n ∷ []) (at_root x.values) (reached_at e []) = subst (λ us. LeadsTo l (w.before ++ n ∷ []) (at_root us) (reached_at e [])) (append-nil e.taken ∙ v) (h.stands.comes []) in
    record {
      position = ap last_but_one way ∙ last_but_one-two w.before n (node e.position s f) ∙ ap Some at;
      values = sym (take-front x.values own) ∙ ap (take (length x.values)) (sym whole);
      fits = ap (λ ns. fits_along l ns (at_root x.values)) (x_way ∙ sym (append-nil (w.before ++ n ∷ []))) ∙ fits-LeadsTo l (w.before ++ n ∷ []) [] (at_root x.values) (reached_at e []) lead;
    }

-- ---- the turn above

-- a spot below a turn's signed formula is worked on only by turns whose parent is this turn
pub record HasAbove (P : Problem) (T : Turn → Type 0) (y x : Turn) (w : Work P T Anything Anything x) : Type 0 where
  pub parent : Parent P T w.before w.from
  pub same : parent.above ≡ y
