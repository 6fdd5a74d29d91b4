-- What the parts of an instance give, part by part.
use Rattle.std.proofs.Common.{true≢false, add-one, append_assoc, ◌≡◌, ℕ, suc, ◌+◌, List, [], ◌∷◌, ◌++◌, length, Bool, true, false, ◌&&◌, Option, Some, None, option_and_then, refl, ap, sym, ◌∙◌, arith, if◌then◌else◌, append-nil}
use Rattle.std.specs.Option.{option_map}
use Rattle.std.specs.List.{list_all}
use Rattle.plain_laws.proofs.Booleans.{and-assoc, and-true}
use Rattle.calculus.specs.declared.sign.Sign.{Sign}
use Rattle.calculus.specs.declared.sign.Side.{Side}
use Rattle.calculus.specs.declared.sign.Side.TheVariants.{Left as LeftSide, Right as RightSide}
use Rattle.calculus.specs.declared.setting.Logic.{Logic}
use Rattle.calculus.specs.declared.kind.Shape.TheVariants.{Alpha, Beta, Gamma, Delta}
use Rattle.calculus.specs.declared.kind.ModalPart.{ModalPart}
use Rattle.calculus.specs.declared.kind.ModalPart.TheVariants.{Plain, Nu, Pi}
use Rattle.calculus.specs.ComputedInstances.{Supply, Part, part_of, at_modal, with_modal_step, with_turn, with_gamma, at_one, at_two, at_alpha, at_beta, at_quantifier, join_of}
use Rattle.calculus.specs.Ground.{GroundLiteral, GroundMark, GroundTerm, Value, term, steps, marks_list, marks_tree, values_tree, g_eigen}
use Rattle.calculus.specs.Instances.{Spot, gamma_is_allowed, down_by, spot_inside, after_string, after_character}
use Rattle.calculus.specs.Kinds.{components, shape_of, modal_of}
use Rattle.calculus.specs.Equality.{mark_eq}
use Rattle.calculus.specs.Labels.{nu_label, is_step_length, steps_to}
use Rattle.calculus.specs.Lists.{marks_list-marks_tree}
use Rattle.calculus.specs.Skolem.{is_allowed}
use Rattle.calculus.specs.Syntax.{Formula, Terms, atom, Problem}
use Rattle.tableau_core.specs.Walks.{starts_with_string, starts_with_term, literal_at, capped, at_atom, shaped_by}
use Rattle.tableau_core.proofs.StringLaws.{steps-of}
use Rattle.tableau_core.proofs.WalkLaws.{part-by}
use Rattle.formula_core.specs.GroundLists.{GroundList}
use Rattle.tableau_core.specs.Numbered.LiteralView.{the_literal}
use Rattle.tableau_cert.specs.Gathering.{Gathered, Open, gathered_part, gathered_after, gathered, gathered_all, with_rest, with_step, with_steps}
use Rattle.tableau_cert.specs.declared.task.Opened.{Opened}
use Rattle.tableau_cert.specs.declared.task.Opened.TheVariants.{Literal, One, Two}

all-append : {A : Type 0} (p : A → Bool) (xs ys : List A) → list_all p (xs ++ ys) ≡ (list_all p xs && list_all p ys)
all-append p [] ys = refl
all-append p (x ∷ xs) ys = ap (λ b. p x && b) (all-append p xs ys) ∙ and-assoc (p x) (list_all p xs) (list_all p ys)

-- gathered of what the spot, the numbers and the supply are
abbrev state : List GroundLiteral → Bool → ℕ → Supply → Gathered
state ls b n u = record { literals = ls; allowed = b; steps = n; rest = u }

module _ (P : Problem) where
  abbrev Go : Type 0
  Go = Spot → Supply → Option Part

  after-turn : (g : Gathered) (p : ℕ) (vs : List Value) (o : Option Part) → gathered_after P g (with_turn p vs o) ≡ gathered_after P g o
  unfolding gathered_after
  after-turn g p vs None = refl
  after-turn g p vs (Some x) = refl

  same-but : (g : Gathered) (ls : List GroundLiteral) (u : Supply) (a b : Bool) (m n : ℕ) → a ≡ b → m ≡ n → ◌≡◌ {A = Option Gathered} (Some (state ls a m u)) (Some (state ls b n u))
  same-but g ls u a b m n e h = λ i. Some (state ls (e i) (h i) u)

  counted-none : (n a b : ℕ) → capped (n + (a + b)) ≡ capped (capped (n + 0) + (a + b))
  counted-none n a b = omega arith

  counted-nu : (n a b : ℕ) → capped (n + (suc a + b)) ≡ capped (capped (n + 1) + (a + b))
  counted-nu n a b = omega arith

  counted-pi : (n a b : ℕ) → capped (n + (a + suc b)) ≡ capped (capped (n + 1) + (a + b))
  counted-pi n a b = omega arith

  after-plain : (g : Gathered) (u : Supply) (o : Option Part) → gathered_after P g (option_map (with_modal_step Plain) o) ≡ gathered_after P (with_rest g 0 true u) o
  unfolding gathered_after
  after-plain g u None = refl
  after-plain g u (Some x) = let a = list_all (gamma_is_allowed P) x.gammas in same-but g (g.literals ++ x.literals) x.left_over (g.allowed && a) ((g.allowed && true) && a) _ _ (ap (λ b. b && a) (sym (and-true g.allowed))) (counted-none g.steps x.nus x.pis)

  after-nu : (g : Gathered) (u : Supply) (o : Option Part) → gathered_after P g (option_map (with_modal_step Nu) o) ≡ gathered_after P (with_rest g 1 true u) o
  unfolding gathered_after
  after-nu g u None = refl
  after-nu g u (Some x) = let a = list_all (gamma_is_allowed P) x.gammas in same-but g (g.literals ++ x.literals) x.left_over (g.allowed && a) ((g.allowed && true) && a) _ _ (ap (λ b. b && a) (sym (and-true g.allowed))) (counted-nu g.steps x.nus x.pis)

  after-pi : (g : Gathered) (u : Supply) (o : Option Part) → gathered_after P g (option_map (with_modal_step Pi) o) ≡ gathered_after P (with_rest g 1 true u) o
  unfolding gathered_after
  after-pi g u None = refl
  after-pi g u (Some x) = let a = list_all (gamma_is_allowed P) x.gammas in same-but g (g.literals ++ x.literals) x.left_over (g.allowed && a) ((g.allowed && true) && a) _ _ (ap (λ b. b && a) (sym (and-true g.allowed))) (counted-pi g.steps x.nus x.pis)

  -- the supply alone changes
  after-rest : (g : Gathered) (u : Supply) (o : Option Part) → gathered_after P g o ≡ gathered_after P (with_rest g 0 true u) o
  unfolding gathered_after
  after-rest g u None = refl
  after-rest g u (Some x) = let a = list_all (gamma_is_allowed P) x.gammas in same-but g (g.literals ++ x.literals) x.left_over (g.allowed && a) ((g.allowed && true) && a) _ _ (ap (λ b. b && a) (sym (and-true g.allowed))) (counted-none g.steps x.nus x.pis)

  after-gamma : (g : Gathered) (u : Supply) (t : GroundTerm) (w : List GroundMark) (b : Bool) (o : Option Part) → b ≡ is_allowed P w t → gathered_after P g (with_gamma t w o) ≡ gathered_after P (with_rest g 0 b u) o
  unfolding gathered_after
  after-gamma g u t w b None e = refl
  after-gamma g u t w b (Some x) e = let a = list_all (gamma_is_allowed P) x.gammas in same-but g (g.literals ++ x.literals) x.left_over (g.allowed && (is_allowed P w t && a)) ((g.allowed && b) && a) _ _ (and-assoc g.allowed (is_allowed P w t) a ∙ ap (λ d. (g.allowed && d) && a) (sym e)) (counted-none g.steps x.nus x.pis)

  together : (n a b c d : ℕ) → capped (n + ((a + c) + (b + d))) ≡ capped (capped (n + (a + b)) + (c + d))
  together n a b c d = omega arith

  after-joined : (g : Gathered) (x : Part) (o : Option Part) → gathered_after P g (option_map (join_of x) o) ≡ gathered_after P (gathered_part P g x) o
  unfolding gathered_after
  after-joined g x None = refl
  after-joined g x (Some y) =
      let a = list_all (gamma_is_allowed P) x.gammas in let b = list_all (gamma_is_allowed P) y.gammas in
      let l = sym (append_assoc g.literals x.literals y.literals) in
      let t = ap (λ d. g.allowed && d) (all-append (gamma_is_allowed P) x.gammas y.gammas) ∙ and-assoc g.allowed a b in
      let n = together g.steps x.nus x.pis y.nus y.pis in
      λ i. Some (state (l i) (t i) (n i) y.left_over)

  after-beta : (g : Gathered) (o : Option Part) (second : Supply → Option Part) → gathered_after P g (option_and_then (λ (x : Part). option_map (join_of x) (second x.left_over)) o) ≡ option_and_then (λ (h : Gathered). gathered_after P h (second h.rest)) (gathered_after P g o)
  unfolding gathered_after
  after-beta g None second = refl
  after-beta g (Some x) second = after-joined g x (second x.left_over)

  -- ---- the modal step

  pub by-kind : (l : Logic) (s : Sign) (f : Formula) (m n : ModalPart) (c : Spot) (g : Gathered) → m ≡ modal_of l s f → m ≡ n → gathered P (part_of l f s) c g ≡ gathered P (at_modal l n (shaped_by l (shape_of s f) (components s f))) c g
  by-kind l s f m n c g e h = ap (λ (go : Go). gathered P go c g) (part-by l s f) ∙ ap (λ k. gathered P (at_modal l k (shaped_by l (shape_of s f) (components s f))) c g) (sym e ∙ h)

  pub plain : (l : Logic) (go : Go) (c : Spot) (g : Gathered) (u : Supply) → g.rest ≡ u → gathered P (at_modal l Plain go) c g ≡ gathered P go c (with_rest g 0 true u)
  unfolding gathered
  plain l go c g u e = after-plain g u (go c g.rest) ∙ ap (λ r. gathered_after P (with_rest g 0 true u) (go c r)) e

  pub pi : (l : Logic) (go : Go) (c : Spot) (g : Gathered) (u : Supply) → g.rest ≡ u → gathered P (at_modal l Pi go) c g ≡ gathered P go (after_character l c) (with_rest g 1 true u)
  unfolding gathered
  pi l go c g u e = after-pi g u (go (after_character l c) g.rest) ∙ ap (λ r. gathered_after P (with_rest g 1 true u) (go (after_character l c) r)) e

  pub nu-missing : (l : Logic) (go : Go) (c : Spot) (g : Gathered) (ss : List Side) (vs : List Value) → g.rest ≡ record { sides = ss; values = vs } → starts_with_string vs ≡ false → gathered P (at_modal l Nu go) c g ≡ None
  unfolding gathered gathered_after
  nu-missing l go c g ss [] e h = rw e refl
  nu-missing l go c g ss (term t ∷ vs) e h = rw e refl
  nu-missing l go c g ss (steps s ∷ vs) e h = absurd (true≢false h)

  -- whether the string is a step
  is-step : (l : Logic) (w s : List GroundMark) (n : ℕ) (b : Bool) → n ≡ length s → is_step_length l n ≡ b → steps_to mark_eq l w (nu_label l w (marks_list (marks_tree s))) ≡ b
  is-step l w s n b h k = ap (λ x. steps_to mark_eq l w (nu_label l w x)) (marks_list-marks_tree s) ∙ steps-of l w s ∙ ap (is_step_length l) (sym h) ∙ k

  pub nu-long : (l : Logic) (go : Go) (c : Spot) (g : Gathered) (ss : List Side) (s : List GroundMark) (vs : List Value) (n : ℕ) → g.rest ≡ record { sides = ss; values = steps (marks_tree s) ∷ vs } → n ≡ length s → is_step_length l n ≡ false → gathered P (at_modal l Nu go) c g ≡ None
  unfolding gathered gathered_after
  nu-long l go c g ss s vs n e h k =
      let x = option_map (with_modal_step Nu) (go (after_string l (marks_tree s) c) (record { sides = ss; values = vs })) in
      ap (λ (r : Supply). gathered_after P g (at_modal l Nu go c r)) e
      ∙ ap (λ (b : Bool). gathered_after P g (if b then x else None)) (is-step l c.label s n false h k)

  pub nu : (l : Logic) (go : Go) (c : Spot) (g : Gathered) (ss : List Side) (s : List GroundMark) (vs : List Value) (n : ℕ) → g.rest ≡ record { sides = ss; values = steps (marks_tree s) ∷ vs } → n ≡ length s → is_step_length l n ≡ true → gathered P (at_modal l Nu go) c g ≡ gathered P go (after_string l (marks_tree s) c) (with_rest g 1 true (record { sides = ss; values = vs }))
  unfolding gathered
  nu l go c g ss s vs n e h k =
      let u : Supply = record { sides = ss; values = vs } in
      let x = go (after_string l (marks_tree s) c) u in
      ap (λ (r : Supply). gathered_after P g (at_modal l Nu go c r)) e
      ∙ ap (λ (b : Bool). gathered_after P g (if b then option_map (with_modal_step Nu) x else None)) (is-step l c.label s n true h k)
      ∙ after-nu g u x

  -- ---- what is opened

  all-one : (l : Logic) (t : Open) (g : Gathered) → gathered_all P l (t ∷ []) g ≡ gathered P (part_of l t.formula t.sign) t.spot g
  unfolding gathered_all
  all-one l t g = by (gathered P (part_of l t.formula t.sign) t.spot g)
    where
      by : (o : Option Gathered) → option_and_then (gathered_all P l []) o ≡ o
      by None = refl
      by (Some x) = refl

  all-two : (l : Logic) (t u : Open) (g : Gathered) → gathered_all P l (t ∷ u ∷ []) g ≡ option_and_then (gathered P (part_of l u.formula u.sign) u.spot) (gathered P (part_of l t.formula t.sign) t.spot g)
  unfolding gathered_all
  all-two l t u g = by (gathered P (part_of l t.formula t.sign) t.spot g)
    where
      by : (o : Option Gathered) → option_and_then (gathered_all P l (u ∷ [])) o ≡ option_and_then (gathered P (part_of l u.formula u.sign) u.spot) o
      by None = refl
      by (Some x) = all-one l u x

  pub all-append-parts : (l : Logic) (ts us : List Open) (g : Gathered) → gathered_all P l (ts ++ us) g ≡ option_and_then (gathered_all P l us) (gathered_all P l ts g)
  unfolding gathered_all
  all-append-parts l [] us g = refl
  all-append-parts l (t ∷ ts) us g = by (λ x. all-append-parts l ts us x) (gathered P (part_of l t.formula t.sign) t.spot g)
    where
      by : ((x : Gathered) → gathered_all P l (ts ++ us) x ≡ option_and_then (gathered_all P l us) (gathered_all P l ts x)) → (o : Option Gathered) → option_and_then (gathered_all P l (ts ++ us)) o ≡ option_and_then (gathered_all P l us) (option_and_then (gathered_all P l ts) o)
      by h None = refl
      by h (Some x) = h x

  abbrev opens : Sign → Formula → Spot → Open
  opens s f c = record { sign = s; formula = f; spot = c }

  pub literal : (s : Sign) (p : ℕ) (ts : Terms) (c : Spot) (g : Gathered) (u : Supply) (x : GroundLiteral) → g.rest ≡ u → x ≡ literal_at s p ts c → gathered P (at_atom s (atom p ts)) c g ≡ Some (record { literals = g.literals ++ x ∷ []; allowed = g.allowed && true; steps = capped (g.steps + 0); rest = u })
  unfolding gathered gathered_after
  literal s p ts c g u x e h = rw (h, e) refl

  pub one : (l : Logic) (s : Sign) (f : Formula) (c d : Spot) (g : Gathered) (u : Supply) → g.rest ≡ u → d ≡ down_by 1 c → gathered P (at_one (part_of l f s)) c g ≡ gathered_all P l (opens s f d ∷ []) (with_rest g 0 true u)
  unfolding gathered
  one l s f c d g u e h =
      after-turn g c.position c.taken (part_of l f s (down_by 1 c) g.rest)
      ∙ after-rest g u (part_of l f s (down_by 1 c) g.rest)
      ∙ (λ i. gathered_after P (with_rest g 0 true u) (part_of l f s (sym h i) (e i)))
      ∙ sym (all-one l (opens s f d) (with_rest g 0 true u))

  pub no-side : (l : Logic) (n : ℕ) (first second : Go) (c : Spot) (g : Gathered) (vs : List Value) → g.rest ≡ record { sides = []; values = vs } → gathered P (at_two Alpha n first second) c g ≡ None
  unfolding gathered gathered_after
  no-side l n first second c g vs e = rw e refl

  pub left-side : (l : Logic) (n : ℕ) (s : Sign) (f : Formula) (second : Go) (c d : Spot) (g : Gathered) (ss : List Side) (vs : List Value) → g.rest ≡ record { sides = LeftSide ∷ ss; values = vs } → d ≡ down_by 1 c → gathered P (at_two Alpha n (part_of l f s) second) c g ≡ gathered_all P l (opens s f d ∷ []) (with_rest g 0 true (record { sides = ss; values = vs }))
  unfolding gathered
  left-side l n s f second c d g ss vs e h =
      let u : Supply = record { sides = ss; values = vs } in
      after-turn g c.position c.taken (at_alpha g.rest.sides (part_of l f s (down_by 1 c)) (second (down_by (suc n) c)) g.rest)
      ∙ ap (λ (r : Supply). gathered_after P g (at_alpha r.sides (part_of l f s (down_by 1 c)) (second (down_by (suc n) c)) r)) e
      ∙ after-rest g u (part_of l f s (down_by 1 c) u)
      ∙ ap (λ x. gathered_after P (with_rest g 0 true u) (part_of l f s x u)) (sym h)
      ∙ sym (all-one l (opens s f d) (with_rest g 0 true u))

  pub right-side : (l : Logic) (n m : ℕ) (first : Go) (s : Sign) (f : Formula) (c d : Spot) (g : Gathered) (ss : List Side) (vs : List Value) → g.rest ≡ record { sides = RightSide ∷ ss; values = vs } → m ≡ n → d ≡ down_by (m + 1) c → gathered P (at_two Alpha n first (part_of l f s)) c g ≡ gathered_all P l (opens s f d ∷ []) (with_rest g 0 true (record { sides = ss; values = vs }))
  unfolding gathered
  right-side l n m first s f c d g ss vs e k h =
      let u : Supply = record { sides = ss; values = vs } in
      after-turn g c.position c.taken (at_alpha g.rest.sides (first (down_by 1 c)) (part_of l f s (down_by (suc n) c)) g.rest)
      ∙ ap (λ (r : Supply). gathered_after P g (at_alpha r.sides (first (down_by 1 c)) (part_of l f s (down_by (suc n) c)) r)) e
      ∙ after-rest g u (part_of l f s (down_by (suc n) c) u)
      ∙ ap (λ x. gathered_after P (with_rest g 0 true u) (part_of l f s x u)) (sym (h ∙ ap (λ j. down_by j c) (add-one m ∙ ap suc k)))
      ∙ sym (all-one l (opens s f d) (with_rest g 0 true u))

  pub both : (l : Logic) (n m : ℕ) (s r : Sign) (a b : Formula) (c d e : Spot) (g : Gathered) (u : Supply) → g.rest ≡ u → d ≡ down_by 1 c → m ≡ n → e ≡ down_by (m + 1) c → gathered P (at_two Beta n (part_of l a s) (part_of l b r)) c g ≡ gathered_all P l (opens s a d ∷ opens r b e ∷ []) (with_rest g 0 true u)
  unfolding gathered
  both l n m s r a b c d e g u q h k j =
      after-turn g c.position c.taken (at_beta (part_of l a s (down_by 1 c)) (part_of l b r (down_by (suc n) c)) g.rest)
      ∙ after-beta g (part_of l a s (down_by 1 c) g.rest) (part_of l b r (down_by (suc n) c))
      ∙ ap (option_and_then (λ (x : Gathered). gathered_after P x (part_of l b r (down_by (suc n) c) x.rest))) (after-rest g u (part_of l a s (down_by 1 c) g.rest) ∙ (λ i. gathered_after P (with_rest g 0 true u) (part_of l a s (sym h i) (q i))))
      ∙ ap (λ y. option_and_then (λ (x : Gathered). gathered_after P x (part_of l b r y x.rest)) (gathered_after P (with_rest g 0 true u) (part_of l a s d u))) (sym (j ∙ ap (λ i. down_by i c) (add-one m ∙ ap suc k)))
      ∙ sym (all-two l (opens s a d) (opens r b e) (with_rest g 0 true u))

  pub no-term : (l : Logic) (go : Go) (c : Spot) (g : Gathered) (ss : List Side) (vs : List Value) → g.rest ≡ record { sides = ss; values = vs } → starts_with_term vs ≡ false → gathered P (at_quantifier Gamma go) c g ≡ None
  unfolding gathered gathered_after
  no-term l go c g ss [] e h = rw e refl
  no-term l go c g ss (steps s ∷ vs) e h = rw e refl
  no-term l go c g ss (term t ∷ vs) e h = absurd (true≢false h)

  pub gamma : (l : Logic) (s : Sign) (f : Formula) (c d : Spot) (g : Gathered) (ss : List Side) (t : GroundTerm) (vs : List Value) (b : Bool) → g.rest ≡ record { sides = ss; values = term t ∷ vs } → b ≡ is_allowed P c.label t → d ≡ spot_inside t (c.taken ++ term t ∷ []) c → gathered P (at_quantifier Gamma (part_of l f s)) c g ≡ gathered_all P l (opens s f d ∷ []) (with_rest g 0 b (record { sides = ss; values = vs }))
  unfolding gathered
  gamma l s f c d g ss t vs b e k h =
      let u : Supply = record { sides = ss; values = vs } in
      let o = part_of l f s (spot_inside t (c.taken ++ term t ∷ []) c) u in
      ap (λ (r : Supply). gathered_after P g (at_quantifier Gamma (part_of l f s) c r)) e
      ∙ after-turn g c.position (c.taken ++ term t ∷ []) (with_gamma t c.label o)
      ∙ after-gamma g u t c.label b o k
      ∙ ap (λ x. gathered_after P (with_rest g 0 b u) (part_of l f s x u)) (sym h)
      ∙ sym (all-one l (opens s f d) (with_rest g 0 b u))

  pub delta : (l : Logic) (s : Sign) (f : Formula) (c d : Spot) (g : Gathered) (u : Supply) → g.rest ≡ u → d ≡ spot_inside (g_eigen c.position (values_tree c.taken)) c.taken c → gathered P (at_quantifier Delta (part_of l f s)) c g ≡ gathered_all P l (opens s f d ∷ []) (with_rest g 0 true u)
  unfolding gathered
  delta l s f c d g u e h =
      after-turn g c.position c.taken (part_of l f s (spot_inside (g_eigen c.position (values_tree c.taken)) c.taken c) g.rest)
      ∙ after-rest g u (part_of l f s (spot_inside (g_eigen c.position (values_tree c.taken)) c.taken c) g.rest)
      ∙ (λ i. gathered_after P (with_rest g 0 true u) (part_of l f s (sym h i) (e i)))
      ∙ sym (all-one l (opens s f d) (with_rest g 0 true u))

  -- ---- the walk

  pub walk-next : (l : Logic) (t : Open) (ts news : List Open) (g h : Gathered) → gathered P (part_of l t.formula t.sign) t.spot g ≡ gathered_all P l news h → gathered_all P l (t ∷ ts) g ≡ gathered_all P l (news ++ ts) h
  unfolding gathered_all
  walk-next l t ts news g h e = ap (option_and_then (gathered_all P l ts)) e ∙ sym (all-append-parts l news ts h)

  pub walk-none : (l : Logic) (t : Open) (ts : List Open) (g : Gathered) → gathered P (part_of l t.formula t.sign) t.spot g ≡ None → gathered_all P l (t ∷ ts) g ≡ None
  unfolding gathered_all
  walk-none l t ts g e = ap (option_and_then (gathered_all P l ts)) e

  pub walk-begins : (l : Logic) (t : Open) (g : Gathered) → gathered_all P l (t ∷ []) g ≡ gathered P (part_of l t.formula t.sign) t.spot g
  walk-begins l t g = all-one l t g

  pub walk-end : (l : Logic) (ts : List Open) (g : Gathered) → ts ≡ [] → gathered_all P l ts g ≡ Some g
  unfolding gathered_all
  walk-end l ts g e = rw e refl

-- ---- the step of an open part

steps-once : (n m : ℕ) → capped (capped (n + m) + 0) ≡ capped (n + m)
steps-once n m = omega arith

pub steps-joined : (ls : List GroundList) (g : Gathered) (o : Opened) (b : Bool) (n : ℕ) (u w : Supply) → with_step ls (with_rest g n true u) o b w ≡ with_steps ls g o b n w
steps-joined ls g (Literal x) b n u w = let a = ap (λ d. d && b) (and-true g.allowed) in let m = steps-once g.steps n in λ i. state (g.literals ++ the_literal ls x ∷ []) (a i) (m i) w
steps-joined ls g (One t) b n u w = let a = ap (λ d. d && b) (and-true g.allowed) in let m = steps-once g.steps n in let e = sym (append-nil g.literals) in λ i. state (e i) (a i) (m i) w
steps-joined ls g (Two t v) b n u w = let a = ap (λ d. d && b) (and-true g.allowed) in let m = steps-once g.steps n in let e = sym (append-nil g.literals) in λ i. state (e i) (a i) (m i) w
