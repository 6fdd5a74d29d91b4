-- Behind a state with an open goal: each closed tableau takes one of the goal's choices next, and so does each tree that shows that the
-- limit is left.
use Rattle.std.proofs.Common.{◌≡◌, ◌⊎◌, ℕ, zero, suc, ◌+◌, ◌<◌, List, [], ◌∷◌, ◌++◌, length, map, Bool, true, false, not, ◌&&◌, ◌==◌, IsTrue, refl, sym, ◌∙◌, ap, subst, Option, Some, None, slice_get, nat_lt, inl, inr, arith, append_assoc, append-nil, ltb-true, lt-ltb, eqb-true}
use Rattle.std.specs.Prelude.{Contains}
use Rattle.std.specs.List.{list_all, list_any}
use Rattle.std.proofs.lemmas.Bool.{false≢true, cases_lt, and_parts}
use Rattle.std.proofs.lemmas.List.{length-map}
use Rattle.plain_laws.proofs.Places.{found-in-map}
use Rattle.plain_laws.proofs.Options.{same-some}
use Rattle.calculus.specs.declared.sign.Sign.TheVariants.{F}
use Rattle.calculus.specs.declared.sign.Side.{Side}
use Rattle.calculus.specs.Syntax.{Problem}
use Rattle.calculus.specs.Ground.{GroundLiteral}
use Rattle.calculus.specs.Equality.{sign_eq}
use Rattle.calculus.specs.Clauses.{selections}
use Rattle.calculus.specs.Instances.{ClauseInstance}
use Rattle.calculus.specs.ComputedInstances.{is_instance}
use Rattle.calculus.specs.Choices.{start, reduction, extension, Choice, GroundChoice, choice_of, choices_of, ground_choices, Growth, is_opposite, growth_of, is_within, has_depth}
use Rattle.store_theory.specs.Stores.{Store, Solution}
use Rattle.calculus.proofs.GrowthLaws.{closed_growth, grown-closed}
use Rattle.calculus.proofs.CasesLaws.{is_instance-exact}
use Rattle.calculus.proofs.MatrixLaws.{Contains-selection}
use Rattle.store_theory.specs.Templates.{pattern_literal}
use Rattle.search_theory.specs.States.{CellChoice, CellGoal, literal_by, goal_at, growth_at, IsStateOf}
use Rattle.search_theory.specs.Goals.{IsChoiceAt, by_ancestor, by_clause}
use Rattle.search_theory.specs.Exploring.{BeginsWith, BeginsWithOne, IsClosedList, IsLeftList, behind, IsIn}
use Rattle.search_theory.proofs.LastChoice.{grow_once, none≢some, growth-before, ends-with}
use Rattle.search_theory.proofs.StepLaws.{if-some, by-template}
use Rattle.search_theory.proofs.ExtensionLaws.{last-at, extension-of, reduction-of, state_at}
use Rattle.search_theory.proofs.MeetingLaws.{opposite-parts, opposite-some}
use Rattle.search_theory.proofs.BeginningLaws.{not-empty-behind, ClosedBeginning, closed-beginning, left-beginning, left-parts, NextChoice}
use Rattle.search_theory.specs.DeadEnds.{is_not_empty}
use Rattle.search_theory.proofs.ExploreLaws.{begins-behind}

-- ---- the shape of the next choice

pub selection-in : (P : Problem) (j : ClauseInstance) → IsTrue (is_instance P j) → Contains (selections P.formula F) j.selection
selection-in P j h =
    let (x, i, e) = (is_instance-exact P j).0 h in
    subst (λ ss. Contains (selections P.formula F) ss) (sym (ap (λ (k : ClauseInstance). k.selection) e)) (Contains-selection P x i)

opposite-is-some : (a : GroundLiteral) (o : Option GroundLiteral) → IsTrue (is_opposite a o) → (b : GroundLiteral) × (o ≡ Some b)
opposite-is-some a None h = absurd (false≢true h)
opposite-is-some a (Some b) h = (b, refl)

abbrev pub grown_state : CellGoal → List CellGoal → List CellGoal → List ℕ → Solution → Growth
grown_state g gs every ds σ = growth_at σ (record { open_goals = g ∷ gs; all_goals = every; depths = ds })

pub reduction-shape : (P : Problem) (e : ℕ) (g : CellGoal) (gs every : List CellGoal) (ds : List ℕ) (σ : Solution) (up : ℕ) (y : Growth) → grow_once P (reduction up) (grown_state g gs every ds σ) ≡ Some y → IsChoiceAt P e g (reduction up)
reduction-shape P e g gs every ds σ zero y h = none≢some y h
reduction-shape P e g gs every ds σ (suc k) y h =
    let opp = (if-some (is_opposite (literal_by σ g.literal) (slice_get (map (literal_by σ) g.path) k)) _ y h).0 in
    let (b, there) = opposite-is-some (literal_by σ g.literal) (slice_get (map (literal_by σ) g.path) k) opp in
    let (a, at, is) = found-in-map (literal_by σ) g.path k b there in
    let parts = opposite-parts (literal_by σ g.literal) b (opposite-some (literal_by σ g.literal) (slice_get (map (literal_by σ) g.path) k) b there opp) in
    by_ancestor k a at (subst (λ (z : GroundLiteral). IsTrue (not (sign_eq g.literal.sign z.sign))) is parts.signs) (parts.symbols ∙ ap (λ (z : GroundLiteral). z.symbol) is)

pub extension-shape : (P : Problem) (e : ℕ) (g : CellGoal) (gs every : List CellGoal) (ds : List ℕ) (σ : Solution) (j : ClauseInstance) (place : ℕ) (y : Growth) → grow_once P (extension j place) (grown_state g gs every ds σ) ≡ Some y → IsTrue (is_within e y) → IsChoiceAt P e g (extension j.selection place)
extension-shape P e g gs every ds σ j place y h w =
    let q = if-some (is_instance P j && is_opposite (literal_by σ g.literal) (slice_get j.literals place)) _ y h in
    let p = and_parts (is_instance P j) (is_opposite (literal_by σ g.literal) (slice_get j.literals place)) q.0 in
    let (b, there) = opposite-is-some (literal_by σ g.literal) (slice_get j.literals place) p.1 in
    let parts = opposite-parts (literal_by σ g.literal) b (opposite-some (literal_by σ g.literal) (slice_get j.literals place) b there p.1) in
    let depths = subst (λ (x : Growth). IsTrue (is_within e x)) (sym q.1) w in
    by_clause j.selection place (last-depth ds (length (map (literal_by σ) g.path)) (length g.path) (length-map g.path (literal_by σ)) depths) (selection-in P j p.0) (λ t tm.
    let m = by-template P j.selection t tm j refl p.0 in
    let (a, at, is) = found-in-map (pattern_literal j.values) t.literals place b (sym (ap (λ xs. slice_get xs place) m.literals) ∙ there) in
    record { literal = a; stands = at; signs = subst (λ (z : GroundLiteral). IsTrue (not (sign_eq g.literal.sign z.sign))) is parts.signs; symbols = parts.symbols ∙ ap (λ (z : GroundLiteral). z.symbol) is })
  where
    last-depth : (ns : List ℕ) (n m : ℕ) → n ≡ m → IsTrue (list_all (λ k. nat_lt k e) (ns ++ n ∷ [])) → IsTrue (nat_lt m e)
    last-depth [] n m same k = subst (λ z. IsTrue (nat_lt z e)) same (and_parts (nat_lt n e) true k).0
    last-depth (z ∷ ns) n m same k = last-depth ns n m same (and_parts (nat_lt z e) (list_all (λ i. nat_lt i e) (ns ++ n ∷ [])) k).1

pub not-start : (P : Problem) (p : List Choice) (s : List Side) (gs : List GroundChoice) (y : Growth) → IsTrue (is_not_empty p) → choices_of gs ≡ p ++ start s ∷ [] → growth_of P gs ≡ Some y → ⊥
not-start P p s gs y n e g =
    let k = ends-with gs p (start s) e in
    by k.first k.last k.is_list k.first_names k.last_name
  where
    last-start : (c : GroundChoice) (x : Growth) → choice_of c ≡ start s → grow_once P c x ≡ Some y → ⊥
    last-start (start i) x f h = none≢some y h
    last-start (reduction up) x f h = cc f
    last-start (extension i place) x f h = cc f

    by : (first : List GroundChoice) (last : GroundChoice) → gs ≡ first ++ last ∷ [] → choices_of first ≡ p → choice_of last ≡ start s → ⊥
    by [] last is names f = false≢true (ap is_not_empty names ∙ n)
    by (c ∷ cs) last is names f = let (x, gx, h) = growth-before P c cs last y (sym (ap (growth_of P) is) ∙ g) in last-start last x f h

-- the next choice is one of the goal's choices
pub next-choice : (P : Problem) (d e : ℕ) (p : List Choice) (s : Store) (cs : List CellChoice) (g : CellGoal) (gs every : List CellGoal) (ds : List ℕ) → IsStateOf P d p (state_at s cs g gs every ds) → IsTrue (is_not_empty p) → (x : Choice) → ClosedBeginning P e (p ++ x ∷ []) → IsChoiceAt P e g x
next-choice P d e p s cs g gs every ds h n (start ss) k = absurd (not-start P p ss k.choices k.growth n k.names k.grows)
next-choice P d e p s cs g gs every ds h n (reduction up) k =
    let l = last-at P d p (state_at s cs g gs every ds) (reduction up) h refl k.choices k.growth k.names k.grows in
    let is = reduction-of l.last up l.last_name in
    reduction-shape P e g gs every ds l.solution up k.growth (ap (λ c. grow_once P c (grown_state g gs every ds l.solution)) (sym is) ∙ l.grown)
next-choice P d e p s cs g gs every ds h n (extension sides place) k =
    let l = last-at P d p (state_at s cs g gs every ds) (extension sides place) h refl k.choices k.growth k.names k.grows in
    let (j, is, selected) = extension-of l.last sides place l.last_name in
    subst (λ ss. IsChoiceAt P e g (extension ss place)) selected (extension-shape P e g gs every ds l.solution j place k.growth (ap (λ c. grow_once P c (grown_state g gs every ds l.solution)) (sym is) ∙ l.grown) k.within)

-- ---- closed tableaux behind the state

begins-more : (p : List Choice) (x : Choice) (more b : List Choice) → b ≡ p ++ x ∷ more → BeginsWith (p ++ x ∷ []) b
begins-more p x more b e = (more, e ∙ sym (append_assoc p (x ∷ []) more))

-- a closed tableau's list does not end where a goal is open
pub next-closed : (P : Problem) (d : ℕ) (p b : List Choice) (s : Store) (cs : List CellChoice) (g : CellGoal) (gs every : List CellGoal) (ds : List ℕ) → IsStateOf P d p (state_at s cs g gs every ds) → IsClosedList P d b → BeginsWith p b → NextChoice P d p b
next-closed P d p b s cs g gs every ds h (t, c, e) ([], q) =
    let (σ, ground, image) = h.complete (ground_choices t) (closed_growth t) (e ∙ q ∙ append-nil p) (grown-closed P d t c) in
    let same : grown_state g gs every ds σ ≡ closed_growth t = same-some (growth_of P (ground_choices t)) (grown_state g gs every ds σ) (closed_growth t) (ap (growth_of P) (sym image) ∙ h.sound σ ground) (grown-closed P d t c) in
    let z : goal_at σ g ∷ map (goal_at σ) gs ≡ [] = ap (λ (x : Growth). x.open_goals) same in
    cc z
next-closed P d p b s cs g gs every ds h c (x ∷ more, q) = record { choice = x; more = more; is_list = q; next = closed-beginning P d (p ++ x ∷ []) b (not-empty-behind p x) c (begins-more p x more b q) }

-- where the choices of the goal within the limit are among xs, each closed tableau behind p is behind one of them
pub covers-closed : (P : Problem) (d : ℕ) (p : List Choice) (s : Store) (cs : List CellChoice) (g : CellGoal) (gs every : List CellGoal) (ds : List ℕ) (xs : List Choice) → IsStateOf P d p (state_at s cs g gs every ds) → IsTrue (is_not_empty p) → ((x : Choice) → IsChoiceAt P d g x → IsIn x xs) → (b : List Choice) → IsClosedList P d b → BeginsWith p b → BeginsWithOne (behind p xs) b
covers-closed P d p s cs g gs every ds xs h n all_in b c k =
    let q = next-closed P d p b s cs g gs every ds h c k in
    begins-behind p xs q.choice q.more b (all_in q.choice (next-choice P d d p s cs g gs every ds h n q.choice q.next)) q.is_list

-- ---- trees that show that the limit is left

pub none-deep : (d : ℕ) (ns : List ℕ) → IsTrue (list_all (λ n. nat_lt n d) ns) → list_any (λ n. n == d) ns ≡ false
none-deep d [] h = refl
none-deep d (n ∷ ns) h =
    let p = and_parts (nat_lt n d) (list_all (λ k. nat_lt k d) ns) h in
    by (n == d) refl (ltb-true n d p.0) (none-deep d ns p.1)
  where
    by : (b : Bool) → (n == d) ≡ b → n < d → list_any (λ k. k == d) ns ≡ false → (list_any (λ k. k == d) (n ∷ ns)) ≡ false
    by true e l r = absurd (let q = eqb-true n d e in omega (arith, q, l))
    by false e l r = rw e r

pub next-left : (P : Problem) (d : ℕ) (p b : List Choice) (s : Store) (cs : List CellChoice) (g : CellGoal) (gs every : List CellGoal) (ds : List ℕ) → IsStateOf P d p (state_at s cs g gs every ds) → IsLeftList P d b → BeginsWith p b → NextChoice P (d + 1) p b
next-left P d p b s cs g gs every ds h (hs, x, gr, l, e) ([], q) =
    let (σ, ground, image) = h.complete hs x (e ∙ q ∙ append-nil p) gr in
    let same : x ≡ grown_state g gs every ds σ = same-some (growth_of P hs) x (grown_state g gs every ds σ) gr (ap (growth_of P) (sym image) ∙ h.sound σ ground) in
    let deep = (left-parts d x l).depth in
    absurd (false≢true (sym (none-deep d ds h.within) ∙ sym (ap (has_depth d) same) ∙ deep))
next-left P d p b s cs g gs every ds h c (x ∷ more, q) = record { choice = x; more = more; is_list = q; next = left-beginning P d (p ++ x ∷ []) b (not-empty-behind p x) c (begins-more p x more b q) }

-- the choices of a goal within d + 1 are its choices within d, and the extensions from a path of exactly d goals
choice-lower : (P : Problem) (d : ℕ) (g : CellGoal) (x : Choice) → IsChoiceAt P (d + 1) g x → IsChoiceAt P d g x ⊎ ((length g.path ≡ d) × ((sides : List Side) × (place : ℕ) × (x ≡ extension sides place)))
choice-lower P d g x (by_ancestor k a at signs symbols) = inl (by_ancestor k a at signs symbols)
choice-lower P d g x (by_clause sides place near inside meets) = elim (cases_lt (length g.path) d) [
  | inl less ↦ inl (by_clause sides place (lt-ltb (length g.path) d less) inside meets)
  | inr far ↦ inr ((let l : length g.path < d + 1 = ltb-true (length g.path) (d + 1) near in omega (arith, l, far)), (sides, place, refl))
]

-- where besides no extension from a path of exactly d goals has a regular tree, each tree that shows that d is left is behind one of xs
pub covers-left : (P : Problem) (d : ℕ) (p : List Choice) (s : Store) (cs : List CellChoice) (g : CellGoal) (gs every : List CellGoal) (ds : List ℕ) (xs : List Choice) → IsStateOf P d p (state_at s cs g gs every ds) → IsTrue (is_not_empty p) → ((x : Choice) → IsChoiceAt P d g x → IsIn x xs) → (length g.path ≡ d → (sides : List Side) (place : ℕ) → ¬ ClosedBeginning P (d + 1) (p ++ extension sides place ∷ [])) → (b : List Choice) → IsLeftList P d b → BeginsWith p b → BeginsWithOne (behind p xs) b
covers-left P d p s cs g gs every ds xs h n all_in none b c k =
    let q = next-left P d p b s cs g gs every ds h c k in
    elim (choice-lower P d g q.choice (next-choice P d (d + 1) p s cs g gs every ds h n q.choice q.next)) [
      | inl w ↦ begins-behind p xs q.choice q.more b (all_in q.choice w) q.is_list
      | inr w ↦ absurd (none w.0 w.1.0 w.1.1 (subst (λ x. ClosedBeginning P (d + 1) (p ++ x ∷ [])) w.1.2 q.next))
    ]
