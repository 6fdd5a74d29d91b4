-- What the parts of an instance leave.
use Rattle.std.proofs.Common.{zero-add, true≢false, add-one, ◌≡◌, ℕ, suc, ◌+◌, List, [], ◌∷◌, ◌++◌, length, map, Bool, true, false, ◌&&◌, Option, Some, None, option_and_then, refl, ap, sym, ◌∙◌, arith, if◌then◌else◌}
use Rattle.std.specs.Option.{option_map, option_map_or}
use Rattle.std.specs.List.{list_all}
use Rattle.std.specs.Bool.{Decides}
use Rattle.std.proofs.Common.{◌≤◌, IsTrue}
use Rattle.std.proofs.lemmas.Bool.Decides.{same_from_decides}
use Rattle.calculus.proofs.EqualityLaws.{literal_eq-tells}
use Rattle.calculus.specs.declared.sign.Sign.{Sign}
use Rattle.calculus.specs.declared.sign.Sign.TheVariants.{T, F}
use Rattle.calculus.specs.declared.sign.Side.{Side}
use Rattle.calculus.specs.declared.sign.Side.TheVariants.{Left as LeftSide, Right as RightSide}
use Rattle.calculus.specs.declared.setting.Logic.{Logic}
use Rattle.calculus.specs.declared.kind.Shape.{Shape}
use Rattle.calculus.specs.declared.kind.Shape.TheVariants.{Alpha, Beta, Gamma, Delta}
use Rattle.calculus.specs.declared.kind.ModalPart.{ModalPart}
use Rattle.calculus.specs.declared.kind.ModalPart.TheVariants.{Plain, Nu, Pi}
use Rattle.calculus.specs.ComputedInstances.{if_used_up, Supply, Part, part_of, at_modal, with_modal_step, with_turn, with_gamma, at_one, at_two, at_alpha, at_beta, at_delta, at_quantifier, join_of}
use Rattle.calculus.specs.Equality.{list_eq, literal_eq}
use Rattle.calculus.specs.Ground.{GroundLiteral, GroundMark, GroundTerm, Value, Marks, term, steps, marks_list, marks_tree, values_tree, g_eigen, g_new_mark}
use Rattle.calculus.specs.Instances.{ClauseInstance, root_spot, Spot, gamma_is_allowed, down_by, spot_inside}
use Rattle.calculus.specs.Kinds.{Signed, components, shape_of, modal_of}
use Rattle.calculus.specs.Labels.{nu_label, pi_label}
use Rattle.calculus.specs.Lists.{marks_list-marks_tree}
use Rattle.calculus.specs.Skolem.{is_allowed, is_empty, is_admitted_value}
use Rattle.calculus.specs.Syntax.{Formula, Terms, atom, neg, conj, disj, imp, all, ex, box, dia, Problem}
use Rattle.calculus.specs.Labels.{is_step_length}
use Rattle.tableau_core.specs.Walks.{finished, steps_if_allowed, starts_with_string, starts_with_term, literal_at, Left, capped, after_literals, left_after, left, one_more_step, at_atom, shaped_by}
use Rattle.tableau_core.proofs.StringLaws.{steps-of}

pub part-by : (l : Logic) (s : Sign) (f : Formula) → part_of l f s ≡ at_modal l (modal_of l s f) (shaped_by l (shape_of s f) (components s f))
part-by l s (atom p ts) = refl
part-by l s (neg a) = refl
part-by l T (conj a b) = refl
part-by l F (conj a b) = refl
part-by l T (disj a b) = refl
part-by l F (disj a b) = refl
part-by l T (imp a b) = refl
part-by l F (imp a b) = refl
part-by l T (all a) = refl
part-by l F (all a) = refl
part-by l T (ex a) = refl
part-by l F (ex a) = refl
part-by l s (box a) = refl
part-by l s (dia a) = refl

module _ (P : Problem) where
  after-turn : (ls : List GroundLiteral) (n p : ℕ) (vs : List Value) (o : Option Part) → left_after P ls n (with_turn p vs o) ≡ left_after P ls n o
  unfolding left_after
  after-turn ls n p vs None = refl
  after-turn ls n p vs (Some x) = refl

  after-plain : (ls : List GroundLiteral) (n : ℕ) (o : Option Part) → left_after P ls n (option_map (with_modal_step Plain) o) ≡ left_after P ls n o
  unfolding left_after
  after-plain ls n None = refl
  after-plain ls n (Some x) = refl

  counted : (n a b : ℕ) → capped (n + (suc a + b)) ≡ capped (capped (n + 1) + (a + b))
  counted n a b = omega arith

  counted-pi : (n a b : ℕ) → capped (n + (a + suc b)) ≡ capped (capped (n + 1) + (a + b))
  counted-pi n a b = omega arith

  abbrev with_steps : Part → ℕ → List GroundLiteral → Left
  with_steps x n rest = record { supply = x.left_over; literals = rest; steps = n }

  after-nu : (ls : List GroundLiteral) (n : ℕ) (o : Option Part) → left_after P ls n (option_map (with_modal_step Nu) o) ≡ left_after P ls (capped (n + 1)) o
  unfolding left_after
  after-nu ls n None = refl
  after-nu ls n (Some x) = ap (λ k. if list_all (gamma_is_allowed P) x.gammas then option_map (with_steps x k) (after_literals x.literals ls) else None) (counted n x.nus x.pis)

  after-pi : (ls : List GroundLiteral) (n : ℕ) (o : Option Part) → left_after P ls n (option_map (with_modal_step Pi) o) ≡ left_after P ls (capped (n + 1)) o
  unfolding left_after
  after-pi ls n None = refl
  after-pi ls n (Some x) = ap (λ k. if list_all (gamma_is_allowed P) x.gammas then option_map (with_steps x k) (after_literals x.literals ls) else None) (counted-pi n x.nus x.pis)

  after-gamma : (ls : List GroundLiteral) (n : ℕ) (t : GroundTerm) (w : List GroundMark) (b : Bool) (o : Option Part) → b ≡ is_allowed P w t → left_after P ls n (with_gamma t w o) ≡ (if b then left_after P ls n o else None)
  unfolding left_after
  after-gamma ls n t w true None e = refl
  after-gamma ls n t w false None e = refl
  after-gamma ls n t w true (Some x) e = rw (sym e) refl
  after-gamma ls n t w false (Some x) e = rw (sym e) refl

  all-append : {A : Type 0} (p : A → Bool) (xs ys : List A) → list_all p (xs ++ ys) ≡ (list_all p xs && list_all p ys)
  all-append p [] ys = refl
  all-append p (x ∷ xs) ys = apart (p x) (list_all p (xs ++ ys)) (list_all p xs) (list_all p ys) (all-append p xs ys)
    where
      apart : (b r s t : Bool) → r ≡ (s && t) → (b && r) ≡ (b && s && t)
      apart true r s t e = e
      apart false r s t e = refl

  literals-append : (xs ys ls : List GroundLiteral) → after_literals (xs ++ ys) ls ≡ option_and_then (after_literals ys) (after_literals xs ls)
  literals-append [] ys ls = refl
  literals-append (x ∷ xs) ys [] = refl
  literals-append (x ∷ xs) ys (l ∷ ls) = apart (literal_eq x l) (after_literals (xs ++ ys) ls) (after_literals xs ls) (literals-append xs ys ls)
    where
      apart : (b : Bool) (o q : Option (List GroundLiteral)) → o ≡ option_and_then (after_literals ys) q → (if b then o else None) ≡ option_and_then (after_literals ys) (if b then q else None)
      apart true o q e = e
      apart false o q e = refl

  none-either : (b : Bool) → (let n : Option Left = None in if b then n else None) ≡ None
  none-either true = refl
  none-either false = refl

  together : (n a b c d : ℕ) → capped (n + ((a + c) + (b + d))) ≡ capped (capped (n + (a + b)) + (c + d))
  together n a b c d = omega arith

  -- two parts, one after the other
  two-parts : (ls : List GroundLiteral) (n : ℕ) (x : Part) (o : Option Part) (a : Bool) (m : Option (List GroundLiteral)) → list_all (gamma_is_allowed P) x.gammas ≡ a → after_literals x.literals ls ≡ m → left_after P ls n (option_map (join_of x) o) ≡ (if a then option_and_then (λ (rest : List GroundLiteral). left_after P rest (capped (n + (x.nus + x.pis))) o) m else None)
  unfolding left_after
  two-parts ls n x None true None e h = refl
  two-parts ls n x None true (Some rest) e h = refl
  two-parts ls n x None false m e h = refl
  two-parts ls n x (Some y) false m e h = rw (all-append (gamma_is_allowed P) x.gammas y.gammas, e) refl
  two-parts ls n x (Some y) true None e h = rw (all-append (gamma_is_allowed P) x.gammas y.gammas, e, literals-append x.literals y.literals ls, h) (none-either (list_all (gamma_is_allowed P) y.gammas))
  two-parts ls n x (Some y) true (Some rest) e h = rw (all-append (gamma_is_allowed P) x.gammas y.gammas, e, literals-append x.literals y.literals ls, h) (ap (λ k. if list_all (gamma_is_allowed P) y.gammas then option_map (with_steps y k) (after_literals y.literals rest) else None) (together n x.nus x.pis y.nus y.pis))

  then-left : (ls : List GroundLiteral) (n : ℕ) (x : Part) (second : Supply → Option Part) (a : Bool) (m : Option (List GroundLiteral)) → list_all (gamma_is_allowed P) x.gammas ≡ a → after_literals x.literals ls ≡ m → option_and_then (λ (y : Left). left_after P y.literals y.steps (second y.supply)) (left_after P ls n (Some x)) ≡ (if a then option_and_then (λ (rest : List GroundLiteral). left_after P rest (capped (n + (x.nus + x.pis))) (second x.left_over)) m else None)
  unfolding left_after
  then-left ls n x second false m e h = rw e refl
  then-left ls n x second true None e h = rw (e, h) refl
  then-left ls n x second true (Some rest) e h = rw (e, h) refl

  after-beta : (ls : List GroundLiteral) (n : ℕ) (o : Option Part) (second : Supply → Option Part) → left_after P ls n (option_and_then (λ (x : Part). option_map (join_of x) (second x.left_over)) o) ≡ option_and_then (λ (y : Left). left_after P y.literals y.steps (second y.supply)) (left_after P ls n o)
  unfolding left_after
  after-beta ls n None second = refl
  after-beta ls n (Some x) second = two-parts ls n x (second x.left_over) (list_all (gamma_is_allowed P) x.gammas) (after_literals x.literals ls) refl refl ∙ sym (then-left ls n x second (list_all (gamma_is_allowed P) x.gammas) (after_literals x.literals ls) refl refl)

  -- ---- by where the part stands

  abbrev Go : Type 0
  Go = Spot → Supply → Option Part

  pub left-plain : (l : Logic) (go : Go) (c : Spot) (r : Left) → left P (at_modal l Plain go) c r ≡ left P go c r
  unfolding left
  left-plain l go c r = after-plain r.literals r.steps (go c r.supply)

  pub left-pi : (l : Logic) (go : Go) (c : Spot) (r : Left) → left P (at_modal l Pi go) c r ≡ left P go (record c { label = pi_label l c.label (g_new_mark c.position (values_tree c.taken)) }) (one_more_step r)
  unfolding left
  left-pi l go c r = after-pi r.literals r.steps (go (record c { label = pi_label l c.label (g_new_mark c.position (values_tree c.taken)) }) r.supply)

  pub left-nu_none : (l : Logic) (go : Go) (c : Spot) (r : Left) → r.supply.values ≡ [] → None ≡ left P (at_modal l Nu go) c r
  unfolding left left_after
  left-nu_none l go c r e = rw e refl

  pub left-nu_term : (l : Logic) (go : Go) (c : Spot) (r : Left) (t : GroundTerm) (vs : List Value) → r.supply.values ≡ term t ∷ vs → None ≡ left P (at_modal l Nu go) c r
  unfolding left left_after
  left-nu_term l go c r t vs e = rw e refl

  pub left-nu_not : (l : Logic) (go : Go) (c : Spot) (r : Left) (s : Marks) (vs : List Value) (n : ℕ) → r.supply.values ≡ steps s ∷ vs → n ≡ length (marks_list s) → is_step_length l n ≡ false → None ≡ left P (at_modal l Nu go) c r
  unfolding left left_after
  left-nu_not l go c r s vs n e h k = rw (e, steps-of l c.label (marks_list s), sym h, k) refl

  pub left-nu : (l : Logic) (go : Go) (c : Spot) (r : Left) (s : Marks) (vs : List Value) (n : ℕ) → r.supply.values ≡ steps s ∷ vs → n ≡ length (marks_list s) → is_step_length l n ≡ true → left P (at_modal l Nu go) c r ≡ left P go (record c { label = nu_label l c.label (marks_list s); taken = c.taken ++ steps s ∷ [] }) (record r { supply = record { sides = r.supply.sides; values = vs }; steps = capped (r.steps + 1) })
  unfolding left
  left-nu l go c r s vs n e h k = rw (e, steps-of l c.label (marks_list s), sym h, k) (after-nu r.literals r.steps (go (record c { label = nu_label l c.label (marks_list s); taken = c.taken ++ steps s ∷ [] }) (record { sides = r.supply.sides; values = vs })))

  pub left-one : (l : Logic) (go : Go) (c : Spot) (r : Left) → left P (at_one go) c r ≡ left P go (down_by 1 c) r
  unfolding left
  left-one l go c r = after-turn r.literals r.steps c.position c.taken (go (down_by 1 c) r.supply)

  pub left-delta : (l : Logic) (go : Go) (c : Spot) (r : Left) → left P (at_delta go) c r ≡ left P go (spot_inside (g_eigen c.position (values_tree c.taken)) c.taken c) r
  unfolding left
  left-delta l go c r = after-turn r.literals r.steps c.position c.taken (go (spot_inside (g_eigen c.position (values_tree c.taken)) c.taken c) r.supply)

  pub left-beta : (l : Logic) (n : ℕ) (first second : Go) (c : Spot) (r : Left) → left P (at_two Beta n first second) c r ≡ option_and_then (λ (y : Left). left P second (down_by (suc n) c) y) (left P first (down_by 1 c) r)
  unfolding left
  left-beta l n first second c r = after-turn r.literals r.steps c.position c.taken (at_beta (first (down_by 1 c)) (second (down_by (suc n) c)) r.supply) ∙ after-beta r.literals r.steps (first (down_by 1 c) r.supply) (second (down_by (suc n) c))

  pub left-first : (l : Logic) (n : ℕ) (first second : Go) (c : Spot) (r : Left) (ss : List Side) → r.supply.sides ≡ LeftSide ∷ ss → left P (at_two Alpha n first second) c r ≡ left P first (down_by 1 c) (record r { supply = record { sides = ss; values = r.supply.values } })
  unfolding left
  left-first l n first second c r ss e = after-turn r.literals r.steps c.position c.taken (at_alpha r.supply.sides (first (down_by 1 c)) (second (down_by (suc n) c)) r.supply) ∙ rw e refl

  pub left-second : (l : Logic) (n : ℕ) (first second : Go) (c : Spot) (r : Left) (ss : List Side) → r.supply.sides ≡ RightSide ∷ ss → left P (at_two Alpha n first second) c r ≡ left P second (down_by (suc n) c) (record r { supply = record { sides = ss; values = r.supply.values } })
  unfolding left
  left-second l n first second c r ss e = after-turn r.literals r.steps c.position c.taken (at_alpha r.supply.sides (first (down_by 1 c)) (second (down_by (suc n) c)) r.supply) ∙ rw e refl

  pub left-no_side : (l : Logic) (n : ℕ) (first second : Go) (c : Spot) (r : Left) → r.supply.sides ≡ [] → None ≡ left P (at_two Alpha n first second) c r
  unfolding left left_after
  left-no_side l n first second c r e = rw e refl

  pub left-no_term : (l : Logic) (go : Go) (c : Spot) (r : Left) → r.supply.values ≡ [] → None ≡ left P (at_quantifier Gamma go) c r
  unfolding left left_after
  left-no_term l go c r e = rw e refl

  pub left-string : (l : Logic) (go : Go) (c : Spot) (r : Left) (s : Marks) (vs : List Value) → r.supply.values ≡ steps s ∷ vs → None ≡ left P (at_quantifier Gamma go) c r
  unfolding left left_after
  left-string l go c r s vs e = rw e refl

  pub left-gamma : (l : Logic) (go : Go) (c : Spot) (r : Left) (t : GroundTerm) (vs : List Value) (b : Bool) → r.supply.values ≡ term t ∷ vs → b ≡ is_allowed P c.label t → left P (at_quantifier Gamma go) c r ≡ (if b then left P go (spot_inside t (c.taken ++ term t ∷ []) c) (record r { supply = record { sides = r.supply.sides; values = vs } }) else None)
  unfolding left
  left-gamma l go c r t vs b e h = rw e (after-turn r.literals r.steps c.position (c.taken ++ term t ∷ []) (with_gamma t c.label (go (spot_inside t (c.taken ++ term t ∷ []) c) (record { sides = r.supply.sides; values = vs }))) ∙ after-gamma r.literals r.steps t c.label b (go (spot_inside t (c.taken ++ term t ∷ []) c) (record { sides = r.supply.sides; values = vs })) h)

  pub left-literal : (s : Sign) (p : ℕ) (ts : Terms) (c : Spot) (r : Left) (x : GroundLiteral) (rest : List GroundLiteral) → r.literals ≡ x ∷ rest → r.steps ≤ 18446744073709551615 → literal_eq (literal_at s p ts c) x ≡ true → Some (record r { literals = rest }) ≡ left P (at_atom s (atom p ts)) c r
  unfolding left left_after
  left-literal s p ts c r x rest e b h = rw (e, h) (ap (λ k. Some (record r { literals = rest; steps = k })) (omega arith))

  pub left-other_literal : (s : Sign) (p : ℕ) (ts : Terms) (c : Spot) (r : Left) (x : GroundLiteral) (rest : List GroundLiteral) → r.literals ≡ x ∷ rest → literal_eq (literal_at s p ts c) x ≡ false → None ≡ left P (at_atom s (atom p ts)) c r
  unfolding left left_after
  left-other_literal s p ts c r x rest e h = rw (e, h) refl

  pub left-no_literal : (s : Sign) (p : ℕ) (ts : Terms) (c : Spot) (r : Left) → r.literals ≡ [] → None ≡ left P (at_atom s (atom p ts)) c r
  unfolding left left_after
  left-no_literal s p ts c r e = rw e refl

  -- ---- by the kind and the components

  pub left-part : (l : Logic) (s : Sign) (f : Formula) (m n : ModalPart) (c : Spot) (r : Left) → m ≡ modal_of l s f → m ≡ n → left P (part_of l f s) c r ≡ left P (at_modal l n (shaped_by l (shape_of s f) (components s f))) c r
  left-part l s f m n c r e h = ap (λ (go : Go). left P go c r) (part-by l s f) ∙ ap (λ k. left P (at_modal l k (shaped_by l (shape_of s f) (components s f))) c r) (sym e ∙ h)

  pub left-by : (l : Logic) (k h : Shape) (xs ys : List Signed) (c : Spot) (r : Left) → k ≡ h → xs ≡ ys → left P (shaped_by l k xs) c r ≡ left P (shaped_by l h ys) c r
  left-by l k h xs ys c r e d = rw (e, d) refl

  -- ---- by the parts of spots and of what is left

  abbrev pub spot_of : ℕ → List GroundMark → List Value → List GroundTerm → Spot
  spot_of p w t e = record { position = p; label = w; taken = t; env = e }

  abbrev pub left_of : List Side → List Value → List GroundLiteral → ℕ → Left
  left_of ss vs ls n = record { supply = record { sides = ss; values = vs }; literals = ls; steps = n }

  pub pi-by : (l : Logic) (go : Go) (p : ℕ) (w v : List GroundMark) (t : List Value) (e : List GroundTerm) (ss : List Side) (vs : List Value) (ls : List GroundLiteral) (n m : ℕ) → v ≡ pi_label l w (g_new_mark p (values_tree t)) → m ≡ capped (n + 1) → left P go (spot_of p v t e) (left_of ss vs ls m) ≡ left P (at_modal l Pi go) (spot_of p w t e) (left_of ss vs ls n)
  pi-by l go p w v t e ss vs ls n m h k = rw (h, k) (sym (left-pi l go (spot_of p w t e) (left_of ss vs ls n)))

  pub nu-by : (l : Logic) (go : Go) (p : ℕ) (w v s : List GroundMark) (t u : List Value) (e : List GroundTerm) (ss : List Side) (whole vs : List Value) (ls : List GroundLiteral) (n m k : ℕ) → whole ≡ steps (marks_tree s) ∷ vs → k ≡ length s → is_step_length l k ≡ true → v ≡ nu_label l w s → u ≡ t ++ steps (marks_tree s) ∷ [] → m ≡ capped (n + 1) → left P go (spot_of p v u e) (left_of ss vs ls m) ≡ left P (at_modal l Nu go) (spot_of p w t e) (left_of ss whole ls n)
  nu-by l go p w v s t u e ss whole vs ls n m k a b d f g h = rw (f, g, h) (ap (λ x. left P go (spot_of p (nu_label l w x) (t ++ steps (marks_tree s) ∷ []) e) (left_of ss vs ls (capped (n + 1)))) (sym (marks_list-marks_tree s)) ∙ sym (left-nu l go (spot_of p w t e) (left_of ss whole ls n) (marks_tree s) vs k a (b ∙ ap length (sym (marks_list-marks_tree s))) d))

  pub nu-not : (l : Logic) (go : Go) (c : Spot) (r : Left) (s : List GroundMark) (vs : List Value) (k : ℕ) → r.supply.values ≡ steps (marks_tree s) ∷ vs → k ≡ length s → is_step_length l k ≡ false → None ≡ left P (at_modal l Nu go) c r
  nu-not l go c r s vs k a b d = left-nu_not l go c r (marks_tree s) vs k a (b ∙ ap length (sym (marks_list-marks_tree s))) d

  pub gamma-by : (l : Logic) (go : Go) (p q : ℕ) (w : List GroundMark) (x : GroundTerm) (t u : List Value) (e f : List GroundTerm) (ss : List Side) (whole vs : List Value) (ls : List GroundLiteral) (n : ℕ) (b : Bool) → whole ≡ term x ∷ vs → b ≡ is_allowed P w x → b ≡ true → q ≡ p + 1 → u ≡ t ++ term x ∷ [] → f ≡ x ∷ e → left P go (spot_of q w u f) (left_of ss vs ls n) ≡ left P (at_quantifier Gamma go) (spot_of p w t e) (left_of ss whole ls n)
  gamma-by l go p q w x t u e f ss whole vs ls n b a h d y g k = rw (y, g, k) (sym (left-gamma l go (spot_of p w t e) (left_of ss whole ls n) x vs true a (sym d ∙ h)))

  pub gamma-not : (l : Logic) (go : Go) (c : Spot) (r : Left) (x : GroundTerm) (vs : List Value) (b : Bool) → r.supply.values ≡ term x ∷ vs → b ≡ is_allowed P c.label x → b ≡ false → None ≡ left P (at_quantifier Gamma go) c r
  gamma-not l go c r x vs b a h d = sym (left-gamma l go c r x vs false a (sym d ∙ h))

  pub delta-by : (l : Logic) (go : Go) (p q : ℕ) (w : List GroundMark) (t : List Value) (e f : List GroundTerm) (r : Left) → q ≡ p + 1 → f ≡ g_eigen p (values_tree t) ∷ e → left P go (spot_of q w t f) r ≡ left P (at_quantifier Delta go) (spot_of p w t e) r
  delta-by l go p q w t e f r h k = rw (h, k) (sym (left-delta l go (spot_of p w t e) r))

  pub first-by : (l : Logic) (n : ℕ) (first second : Go) (c d : Spot) (whole ss : List Side) (vs : List Value) (ls : List GroundLiteral) (k : ℕ) → whole ≡ LeftSide ∷ ss → d ≡ down_by 1 c → left P first d (left_of ss vs ls k) ≡ left P (at_two Alpha n first second) c (left_of whole vs ls k)
  first-by l n first second c d whole ss vs ls k e h = rw h (sym (left-first l n first second c (left_of whole vs ls k) ss e))

  pub second-by : (l : Logic) (n : ℕ) (first second : Go) (c d : Spot) (whole ss : List Side) (vs : List Value) (ls : List GroundLiteral) (k m : ℕ) → whole ≡ RightSide ∷ ss → m ≡ n → d ≡ down_by (m + 1) c → left P second d (left_of ss vs ls k) ≡ left P (at_two Alpha n first second) c (left_of whole vs ls k)
  second-by l n first second c d whole ss vs ls k m e g h = rw (h, g, add-one n) (sym (left-second l n first second c (left_of whole vs ls k) ss e))

  pub beta-none : (l : Logic) (n : ℕ) (first second : Go) (c d : Spot) (r : Left) → None ≡ left P first d r → d ≡ down_by 1 c → None ≡ left P (at_two Beta n first second) c r
  beta-none l n first second c d r e h = sym (left-beta l n first second c r ∙ ap (option_and_then (λ (y : Left). left P second (down_by (suc n) c) y)) (ap (λ x. left P first x r) (sym h) ∙ sym e))

  pub beta-some : (l : Logic) (n : ℕ) (first second : Go) (c d f : Spot) (r q : Left) (m : ℕ) → Some q ≡ left P first d r → d ≡ down_by 1 c → m ≡ n → f ≡ down_by (m + 1) c → left P second f q ≡ left P (at_two Beta n first second) c r
  beta-some l n first second c d f r q m e h g k = rw (k, g, add-one n) (sym (left-beta l n first second c r ∙ ap (option_and_then (λ (y : Left). left P second (down_by (suc n) c) y)) (ap (λ x. left P first x r) (sym h) ∙ sym e)))

  pub nu-none : (l : Logic) (go : Go) (c : Spot) (r : Left) (vs : List Value) → r.supply.values ≡ vs → starts_with_string vs ≡ false → None ≡ left P (at_modal l Nu go) c r
  nu-none l go c r [] e h = left-nu_none l go c r e
  nu-none l go c r (term x ∷ vs) e h = left-nu_term l go c r x vs e
  nu-none l go c r (steps s ∷ vs) e h = absurd (true≢false h)

  pub gamma-none : (l : Logic) (go : Go) (c : Spot) (r : Left) (vs : List Value) → r.supply.values ≡ vs → starts_with_term vs ≡ false → None ≡ left P (at_quantifier Gamma go) c r
  gamma-none l go c r [] e h = left-no_term l go c r e
  gamma-none l go c r (steps s ∷ vs) e h = left-string l go c r s vs e
  gamma-none l go c r (term x ∷ vs) e h = absurd (true≢false h)

  pub one-by : (l : Logic) (go : Go) (c d : Spot) (r : Left) → d ≡ down_by 1 c → left P go d r ≡ left P (at_one go) c r
  one-by l go c d r e = rw e (sym (left-one l go c r))

-- literals that differ, and those that agree up to their labels
pub literals-apart : (x y : GroundLiteral) → (x ≡ y → ⊥) → false ≡ literal_eq x y
literals-apart x y n = differ (literal_eq x y) (literal_eq-tells x y).0 n
  where
    differ : (b : Bool) → (IsTrue b → x ≡ y) → (x ≡ y → ⊥) → false ≡ b
    differ true f n = absurd (n (f refl))
    differ false f n = refl

pub literals-alike : (x y : GroundLiteral) (b : Bool) → x.sign ≡ y.sign → x.symbol ≡ y.symbol → x.args ≡ y.args → Decides b (x.label ≡ y.label) → b ≡ literal_eq x y
literals-alike x y b e h k d = same_from_decides b (literal_eq x y) (λ t. λ i. record { sign = e i; symbol = h i; args = k i; label = d.0 t i }, λ q. d.1 (ap (λ (z : GroundLiteral). z.label) q)) (literal_eq-tells x y)

pub none-mapped : {X Y : Type 0} (f : X → Y) (xs : List X) → length xs ≡ 0 → map f xs ≡ []
none-mapped f [] e = refl
none-mapped f (x ∷ xs) e = absurd (omega arith)

-- ---- the whole instance

abbrev is_end : Option (List GroundLiteral) → Bool
is_end None = false
is_end (Some ls) = is_empty ls

literals-end : (xs ls : List GroundLiteral) → list_eq literal_eq xs ls ≡ is_end (after_literals xs ls)
literals-end [] [] = refl
literals-end [] (l ∷ ls) = refl
literals-end (x ∷ xs) [] = refl
literals-end (x ∷ xs) (l ∷ ls) = apart (literal_eq x l) (list_eq literal_eq xs ls) (after_literals xs ls) (literals-end xs ls)
  where
    apart : (b c : Bool) (o : Option (List GroundLiteral)) → c ≡ is_end o → (b && c) ≡ is_end (if b then o else None)
    apart true c o e = e
    apart false c o e = refl

module _ (P : Problem) (ls : List GroundLiteral) where
  abbrev test : Part → Bool
  test x = list_eq literal_eq x.literals ls && list_all (gamma_is_allowed P) x.gammas

  by_part : (x : Part) (used a : Bool) (m : Option (List GroundLiteral)) → (is_empty x.left_over.sides && is_empty x.left_over.values) ≡ used → list_all (gamma_is_allowed P) x.gammas ≡ a → after_literals x.literals ls ≡ m → finished (left_after P ls 0 (Some x)) ≡ (if option_map_or test (if used then Some x else None) false then Some (capped (option_map_or (λ (y : Part). y.nus + y.pis) (if used then Some x else None) 0)) else None)
  unfolding left_after
  by_part x true true None u e h = rw (e, literals-end x.literals ls, h) refl
  by_part x true true (Some []) u e h = rw (e, literals-end x.literals ls, h, u) (ap (λ k. Some (capped k)) (zero-add (x.nus + x.pis)))
  by_part x true true (Some (y ∷ ys)) u e h = rw (e, literals-end x.literals ls, h, u) refl
  by_part x true false m u e h = rw (e, literals-end x.literals ls) (none-and (is_end (after_literals x.literals ls)))
    where
      none-and : (b : Bool) → None ≡ (if b && false then Some (capped (x.nus + x.pis)) else None)
      none-and true = refl
      none-and false = refl
  by_part x false true None u e h = rw (e, h) refl
  by_part x false true (Some rest) u e h = rw (e, h, u) refl
  by_part x false false m u e h = rw e refl

  whole : (o : Option Part) → finished (left_after P ls 0 o) ≡ (if option_map_or test (option_and_then if_used_up o) false then Some (capped (option_map_or (λ (y : Part). y.nus + y.pis) (option_and_then if_used_up o) 0)) else None)
  unfolding left_after
  whole None = refl
  whole (Some x) = by_part x (is_empty x.left_over.sides && is_empty x.left_over.values) (list_all (gamma_is_allowed P) x.gammas) (after_literals x.literals ls) refl refl refl

pub instance-steps : (P : Problem) (i : ClauseInstance) → list_all (is_admitted_value P) i.values ≡ true → finished (left P (part_of P.setting.logic P.formula F) root_spot (record { supply = record { sides = i.selection; values = i.values }; literals = i.literals; steps = 0 })) ≡ steps_if_allowed P i
unfolding left
instance-steps P i e = whole P i.literals (part_of P.setting.logic P.formula F root_spot (record { sides = i.selection; values = i.values })) ∙ rw e refl

pub not-admitted : (P : Problem) (i : ClauseInstance) → list_all (is_admitted_value P) i.values ≡ false → None ≡ steps_if_allowed P i
not-admitted P i e = rw e refl

pub instance-by : (P : Problem) (i : ClauseInstance) (l : Logic) (f : Formula) (w : List GroundMark) (t : List Value) (e : List GroundTerm) (ss : List Side) (vs : List Value) (ls : List GroundLiteral) → list_all (is_admitted_value P) i.values ≡ true → l ≡ P.setting.logic → f ≡ P.formula → w ≡ [] → t ≡ [] → e ≡ [] → ss ≡ i.selection → vs ≡ i.values → ls ≡ i.literals → finished (left P (part_of l f F) (record { position = 0; label = w; taken = t; env = e }) (record { supply = record { sides = ss; values = vs }; literals = ls; steps = 0 })) ≡ steps_if_allowed P i
instance-by P i l f w t e ss vs ls h a b c d g j k m = rw (a, b, c, d, g, j, k, m) (instance-steps P i h)
