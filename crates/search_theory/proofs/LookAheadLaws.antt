-- Looking ahead at the path limit: a goal with as many goals above it as the limit is closed by a reduction, or not at all. So too a goal
-- with one goal less above it, where each extension gives a goal without a reduction.
use Rattle.std.proofs.Common.{◌≡◌, ℕ, zero, suc, ◌+◌, ◌<◌, ◌≤◌, List, [], ◌∷◌, ◌++◌, length, map, not, IsTrue, refl, sym, ◌∙◌, ap, subst, Option, Some, None, option_map, slice_get, remove, arith, ltb-true, ap₂}
use Rattle.std.specs.List.{AllByRecursion}
use Rattle.std.specs.Int.{bit_at}
use Rattle.std.proofs.lemmas.Bool.{false≢true, and_parts}
use Rattle.std.proofs.lemmas.List.{length-map}
use Rattle.std.proofs.lemmas.Option.{slice_get-map}
use Rattle.plain_laws.proofs.Every.{each-append}
use Rattle.plain_laws.proofs.Places.{found-in-map, map-there}
use Rattle.plain_laws.proofs.Options.{same-some}
use Rattle.calculus.specs.declared.sign.Sign.{Sign}
use Rattle.calculus.specs.declared.sign.Sign.TheVariants.{T, F}
use Rattle.calculus.specs.Syntax.{Problem}
use Rattle.calculus.specs.Ground.{GroundLiteral}
use Rattle.calculus.specs.Equality.{sign_eq}
use Rattle.calculus.specs.Instances.{ClauseInstance}
use Rattle.calculus.specs.Kinds.{other}
use Rattle.calculus.specs.ComputedInstances.{is_instance}
use Rattle.calculus.specs.Tableaux.{Closing, Closings, reduce, extend, no_closings, more_closings, Tableau, is_complement, ancestor, is_new_on, closes, closes_all, is_closed}
use Rattle.calculus.specs.Choices.{extension, Choice, GroundChoice, choices_of, ground_choices, Growth, is_opposite, goals_on, growth_of}
use Rattle.store_theory.specs.Stores.{Store, Solution, Solves}
use Rattle.store_theory.specs.Systems.{CellAtom}
use Rattle.store_theory.specs.Patterns.{PatternAtom, Template}
use Rattle.store_theory.specs.Templates.{IsTemplateOf, pattern_literal}
use Rattle.calculus.proofs.GrowthLaws.{allowed-instance, closed_growth, closed-parts, extended-parts, goals_below, goals_of_all, grown-closed, is_complement-opposite}
use Rattle.search_theory.specs.Ahead.{IsAnswered, IsApart, by_sign, by_symbol, by_args, HasNoReduction, IsHopelessAt, MarksPath, bit_of}
use Rattle.search_theory.specs.Exploring.{BeginsWith, IsClosedList, IsIn}
use Rattle.search_theory.specs.Goals.{MeetsAt}
use Rattle.search_theory.specs.Matrix.{MatrixClause, MatrixPlace, IsTemplateMatrix, places}
use Rattle.search_theory.specs.OrderedChoices.{extension_at, selection_of}
use Rattle.search_theory.specs.States.{CellGoal, State, literal_by, goal_at, growth_at, IsGround, IsStateOf}
use Rattle.search_theory.specs.Steps.{CannotReduce}
use Rattle.search_theory.proofs.BeginningLaws.{beginning}
use Rattle.search_theory.specs.DeadEnds.{is_not_empty}
use Rattle.search_theory.proofs.ChoiceLaws.{extensions-by_index, extensions-complete}
use Rattle.search_theory.proofs.ExtensionLaws.{choice_place, choice_selection}
use Rattle.search_theory.proofs.ImageLaws.{remove-map}
use Rattle.search_theory.proofs.MeetingLaws.{OppositeParts, cannot-reduce-by_clash, cannot-reduce-by_number, cannot-reduce-by_sign, cannot-reduce-by_symbol, cannot-reduce-by_zero, opposite-parts, opposite-some}
use Rattle.search_theory.proofs.NextLaws.{selection-in}
use Rattle.search_theory.proofs.RegularLaws.{each-at}
use Rattle.search_theory.proofs.StepLaws.{by-template}
use Rattle.search_theory.specs.Closing.{IsCloseable}

-- ---- a closed tableau: each of its goals is closed

front-holds : {A : Type 0} (Q : A → Type 0) (xs ys : List A) → AllByRecursion Q (xs ++ ys) → AllByRecursion Q xs
front-holds Q [] ys h = tt
front-holds Q (x ∷ xs) ys h = (h.0, front-holds Q xs ys h.1)

closeable-on : (P : Problem) (d : ℕ) (cs : Closings) (path goals : List GroundLiteral) → IsTrue (closes_all P d path goals cs) → AllByRecursion (IsCloseable P d) (goals_on path goals)
closeable-on P d cs path [] h = tt
closeable-on P d no_closings path (g ∷ goals) h = absurd (false≢true h)
closeable-on P d (more_closings c cs) path (g ∷ goals) h = let p = and_parts (closes P d path g c) (closes_all P d path goals cs) h in ((c, p.0), closeable-on P d cs path goals p.1)

mutual
  -- so are all goals below one that is closed
  pub closeable : (P : Problem) (d : ℕ) (c : Closing) (path : List GroundLiteral) (g : GroundLiteral) → IsTrue (closes P d path g c) → AllByRecursion (IsCloseable P d) (goals_below g path c)
  closeable P d (reduce up) path g h = tt
  closeable P d (extend i place below) path g h =
      let e = extended-parts P d path g i place below h in
      let others = remove i.literals place in
      each-append (IsCloseable P d) (goals_on (g ∷ path) others) (goals_of_all others (g ∷ path) below) (closeable-on P d below (g ∷ path) others e.all_closed) (closeable-all P d below (g ∷ path) others e.all_closed)

  pub closeable-all : (P : Problem) (d : ℕ) (cs : Closings) (path goals : List GroundLiteral) → IsTrue (closes_all P d path goals cs) → AllByRecursion (IsCloseable P d) (goals_of_all goals path cs)
  closeable-all P d no_closings path goals h = tt
  closeable-all P d (more_closings c cs) path [] h = tt
  closeable-all P d (more_closings c cs) path (g ∷ goals) h =
      let p = and_parts (closes P d path g c) (closes_all P d path goals cs) h in
      each-append (IsCloseable P d) (goals_below g path c) (goals_of_all goals path cs) (closeable P d c path g p.0) (closeable-all P d cs path goals p.1)

pub closed-closeable : (P : Problem) (d : ℕ) (t : Tableau) → IsTrue (is_closed P d t) → AllByRecursion (IsCloseable P d) (closed_growth t).all_goals
closed-closeable P d t h =
    let k = closed-parts P d t h in
    each-append (IsCloseable P d) (goals_on [] t.start.literals) (goals_of_all t.start.literals [] t.goals) (closeable-on P d t.goals [] t.start.literals k.all_closed) (closeable-all P d t.goals [] t.start.literals k.all_closed)

-- ---- a goal that has no room for an extension is closed by a reduction

pub record HasReduction (path : List GroundLiteral) (g : GroundLiteral) : Type 0 where
  pub number : ℕ
  pub is_complement : IsTrue (is_complement g (ancestor path number))

pub full-reduces : (P : Problem) (d : ℕ) (path : List GroundLiteral) (g : GroundLiteral) (c : Closing) → d ≤ length path → IsTrue (closes P d path g c) → HasReduction path g
full-reduces P d path g (reduce up) far h = record { number = up; is_complement = (and_parts (is_new_on path g) (is_complement g (ancestor path up)) h).1 }
full-reduces P d path g (extend i place below) far h =
    let e = extended-parts P d path g i place below h in
    absurd (let l : length path < d = ltb-true (length path) d e.within in omega (arith, far, l))

-- the ancestor has the goal's symbol and the other sign
pub record IsMet (path : List GroundLiteral) (g : GroundLiteral) : Type 0 where
  pub number : ℕ
  pub literal : GroundLiteral
  pub on_path : slice_get path number ≡ Some literal
  pub parts : OppositeParts g literal

opposite-is-some : (a : GroundLiteral) (o : Option GroundLiteral) → IsTrue (is_opposite a o) → (b : GroundLiteral) × (o ≡ Some b)
opposite-is-some a None h = absurd (false≢true h)
opposite-is-some a (Some b) h = (b, refl)

pub opposite-met : (path : List GroundLiteral) (g : GroundLiteral) (up : ℕ) → IsTrue (is_opposite g (ancestor path up)) → IsMet path g
opposite-met path g zero h = absurd (false≢true h)
opposite-met path g (suc k) h =
    let (b, there) = opposite-is-some g (slice_get path k) h in
    record { number = k; literal = b; on_path = there; parts = opposite-parts g b (opposite-some g (slice_get path k) b there h) }

pub full-met : (P : Problem) (d : ℕ) (path : List GroundLiteral) (g : GroundLiteral) (c : Closing) → d ≤ length path → IsTrue (closes P d path g c) → IsMet path g
full-met P d path g c far h = let r = full-reduces P d path g c far h in opposite-met path g r.number (is_complement-opposite g (ancestor path r.number) r.is_complement)

-- ---- beginnings of a closed tableau's list

pub record ClosingBeginning (P : Problem) (d : ℕ) (p : List Choice) : Type 0 where
  pub choices : List GroundChoice
  pub growth : Growth
  pub names : choices_of choices ≡ p
  pub grows : growth_of P choices ≡ Some growth
  pub goals : AllByRecursion (IsCloseable P d) growth.all_goals

pub closing-beginning : (P : Problem) (d : ℕ) (p b : List Choice) → IsTrue (is_not_empty p) → IsClosedList P d b → BeginsWith p b → ClosingBeginning P d p
closing-beginning P d p b n (t, c, e) (more, q) =
    let k = beginning P (ground_choices t) (closed_growth t) p more n (grown-closed P d t c) (e ∙ q) in
    record { choices = k.choices; growth = k.growth; names = k.names; grows = k.grows; goals = front-holds (IsCloseable P d) k.growth.all_goals k.keeps.more_goals (subst (AllByRecursion (IsCloseable P d)) k.keeps.goals (closed-closeable P d t c)) }

-- by some ground solution each goal of the state is closed in the tableau
pub record ClosedImage (P : Problem) (d : ℕ) (S : State) : Type 0 where
  pub solution : Solution
  pub ground : IsGround P S solution
  pub goals : AllByRecursion (IsCloseable P d) (map (goal_at solution) S.growth.all_goals)

pub closed-image : (P : Problem) (d : ℕ) (c b : List Choice) (S : State) → IsTrue (is_not_empty c) → IsStateOf P d c S → IsClosedList P d b → BeginsWith c b → ClosedImage P d S
closed-image P d c b S n h closed begins =
    let k = closing-beginning P d c b n closed begins in
    let (σ, ground, image) = h.complete k.choices k.growth k.names k.grows in
    let same : k.growth ≡ growth_at σ S.growth = same-some (growth_of P k.choices) k.growth (growth_at σ S.growth) k.grows (ap (growth_of P) (sym image) ∙ h.sound σ ground) in
    record { solution = σ; ground = ground; goals = subst (λ (x : Growth). AllByRecursion (IsCloseable P d) x.all_goals) same k.goals }

pub goal-closed : (P : Problem) (d : ℕ) (S : State) (g : CellGoal) → IsIn g S.growth.all_goals → (k : ClosedImage P d S) → IsCloseable P d (goal_at k.solution g)
goal-closed P d S g (i, at) k = each-at (IsCloseable P d) (map (goal_at k.solution) S.growth.all_goals) i (goal_at k.solution g) k.goals (there (goal_at k.solution) S.growth.all_goals i g at)
  where
    there : {A B : Type 0} (f : A → B) (xs : List A) (k : ℕ) (x : A) → slice_get xs k ≡ Some x → slice_get (map f xs) k ≡ Some (f x)
    there f xs k x e = slice_get-map f xs k ∙ ap (option_map f) e

-- ---- what no reduction of a goal is seen by

pub none-reduces : (s : Store) (g : CellGoal) → HasNoReduction s g → (up : ℕ) → CannotReduce s g up
none-reduces s g none zero = cannot-reduce-by_zero s g
none-reduces s g none (suc k) = by (slice_get g.path k) refl
  where
    apart : (a : CellAtom) → slice_get g.path k ≡ Some a → IsApart s g.literal a → CannotReduce s g (suc k)
    apart a e (by_sign same) = cannot-reduce-by_sign s g a k e same
    apart a e (by_symbol differs) = cannot-reduce-by_symbol s g a k e differs
    apart a e (by_args clash) = cannot-reduce-by_clash s g a k e clash

    by : (o : Option CellAtom) → slice_get g.path k ≡ o → CannotReduce s g (suc k)
    by None e = cannot-reduce-by_number s g k e
    by (Some a) e = apart a e (none k a e)

-- the literals have the signs and symbols of the atoms
pub record AreLike (xs : List GroundLiteral) (path : List CellAtom) : Type 0 where
  pub many : length xs ≡ length path
  pub each : (k : ℕ) (x : GroundLiteral) → slice_get xs k ≡ Some x → (a : CellAtom) × (slice_get path k ≡ Some a) × (x.sign ≡ a.sign) × (x.symbol ≡ a.symbol)

pub like-image : (σ : Solution) (path : List CellAtom) → AreLike (map (literal_by σ) path) path
like-image σ path = record {
  many = length-map path (literal_by σ);
  each = λ k x at. (let (a, there, is) = found-in-map (literal_by σ) path k x at in (a, there, ap (λ (z : GroundLiteral). z.sign) is, ap (λ (z : GroundLiteral). z.symbol) is));
}

like-more : (xs : List GroundLiteral) (path : List CellAtom) (x : GroundLiteral) (a : CellAtom) → x.sign ≡ a.sign → x.symbol ≡ a.symbol → AreLike xs path → AreLike (x ∷ xs) (a ∷ path)
like-more xs path x a signs symbols h = record { many = ap suc h.many; each = by }
  where
    by : (k : ℕ) (z : GroundLiteral) → slice_get (x ∷ xs) k ≡ Some z → (b : CellAtom) × (slice_get (a ∷ path) k ≡ Some b) × (z.sign ≡ b.sign) × (z.symbol ≡ b.symbol)
    by zero z e = let same : x ≡ z = cc e in (a, refl, subst (λ (y : GroundLiteral). y.sign ≡ a.sign) same signs, subst (λ (y : GroundLiteral). y.symbol ≡ a.symbol) same symbols)
    by (suc k) z e = h.each k z e

met-answered : (xs : List GroundLiteral) (path : List CellAtom) (x : GroundLiteral) → AreLike xs path → IsMet xs x → IsAnswered path x.symbol x.sign
met-answered xs path x h m =
    let (a, at, signs, symbols) = h.each m.number m.literal m.on_path in
    record { number = m.number; atom = a; on_path = at; signs = subst (λ sign. IsTrue (not (sign_eq x.sign sign))) signs m.parts.signs; symbols = m.parts.symbols ∙ symbols }

-- ---- at the limit

pub full-path : (d : ℕ) (σ : Solution) (path : List CellAtom) → d ≤ length path → d ≤ length (map (literal_by σ) path)
full-path d σ path far = let e = length-map path (literal_by σ) in omega (arith, e, far)

-- the image of a goal that has as many goals above it as the limit, and no reduction, is not closed
pub full-lost : (P : Problem) (d : ℕ) (s : Store) (g : CellGoal) (σ : Solution) → d ≤ length g.path → ((up : ℕ) → CannotReduce s g up) → Solves s σ → ¬ IsCloseable P d (goal_at σ g)
full-lost P d s g σ far none solves (y, y_closes) =
    let path = map (literal_by σ) g.path in
    let r = full-reduces P d path (literal_by σ g.literal) y (full-path d σ g.path far) y_closes in
    none r.number σ solves (is_complement-opposite (literal_by σ g.literal) (ancestor path r.number) r.is_complement)

-- a literal of an instance by a template, at its place among the others
other-literal : (t : Template) (j : ClauseInstance) (place k : ℕ) (q : PatternAtom) → j.literals ≡ map (pattern_literal j.values) t.literals → slice_get (remove t.literals place) k ≡ Some q → slice_get (remove j.literals place) k ≡ Some (pattern_literal j.values q)
other-literal t j place k q e at = ap (λ xs. slice_get (remove xs place) k) e ∙ ap (λ xs. slice_get xs k) (remove-map (pattern_literal j.values) t.literals place) ∙ map-there (pattern_literal j.values) (remove t.literals place) k q at

-- a goal at the limit that is closed has an ancestor of cells with its symbol and the other sign
closed-answered : (P : Problem) (d : ℕ) (xs : List GroundLiteral) (path : List CellAtom) (others : List GroundLiteral) (k : ℕ) (x : GroundLiteral) → d ≤ length path → AreLike xs path → AllByRecursion (IsCloseable P d) (goals_on xs others) → slice_get others k ≡ Some x → IsAnswered path x.symbol x.sign
closed-answered P d xs path others k x far like h at =
    let many = like.many in
    let (y, y_closes) = each-at (IsCloseable P d) (goals_on xs others) k (record { literal = x; path = xs }) h (map-there (λ (z : GroundLiteral). record { literal = z; path = xs }) others k x at) in
    met-answered xs path x like (full-met P d xs x y (omega (arith, far, many)) y_closes)

-- ---- one level earlier

-- how a goal with one goal less above it than the limit is closed
pub data IsNearlyFull (P : Problem) (d : ℕ) (path : List GroundLiteral) (g : GroundLiteral) : Type 0 where
  reduces : HasReduction path g → IsNearlyFull P d path g
  extends : (i : ClauseInstance) (place : ℕ) → IsTrue (is_instance P i) → IsTrue (is_opposite g (slice_get i.literals place)) → AllByRecursion (IsCloseable P d) (goals_on (g ∷ path) (remove i.literals place)) → IsNearlyFull P d path g

pub nearly-full : (P : Problem) (d : ℕ) (path : List GroundLiteral) (g : GroundLiteral) (c : Closing) → IsTrue (closes P d path g c) → IsNearlyFull P d path g
nearly-full P d path g (reduce up) h = reduces (record { number = up; is_complement = (and_parts (is_new_on path g) (is_complement g (ancestor path up)) h).1 })
nearly-full P d path g (extend i place below) h =
    let e = extended-parts P d path g i place below h in
    extends i place (allowed-instance P i e.allowed) (is_complement-opposite g (slice_get i.literals place) e.complement) (closeable-on P d below (g ∷ path) (remove i.literals place) e.all_closed)

-- an extension at a literal with the atom's sign and symbol is by a literal of the matrix with this symbol and the other sign
image-meets : (P : Problem) (a : CellAtom) (x : GroundLiteral) (i : ClauseInstance) (place : ℕ) → x.sign ≡ a.sign → x.symbol ≡ a.symbol → IsTrue (is_instance P i) → IsTrue (is_opposite x (slice_get i.literals place)) → (t : Template) → IsTemplateOf P i.selection t → MeetsAt t place a
image-meets P a x i place signs symbols h opp t tm =
    let (b, there) = opposite-is-some x (slice_get i.literals place) opp in
    let parts = opposite-parts x b (opposite-some x (slice_get i.literals place) b there opp) in
    let w = by-template P i.selection t tm i refl h in
    let (q, at, is) = found-in-map (pattern_literal i.values) t.literals place b (sym (ap (λ xs. slice_get xs place) w.literals) ∙ there) in
    record {
      literal = q;
      stands = at;
      signs = subst (λ sign. IsTrue (not (sign_eq sign q.sign))) signs (subst (λ (z : GroundLiteral). IsTrue (not (sign_eq x.sign z.sign))) is parts.signs);
      symbols = sym symbols ∙ parts.symbols ∙ ap (λ (z : GroundLiteral). z.symbol) is;
    }

-- a goal that has one goal less above it than the limit, no reduction, and the sign, symbol and path of one whose extensions are all
-- hopeless, is not closed
pub nearly-open : (P : Problem) (m : List MatrixClause) (d : ℕ) (g : CellGoal) (xs : List GroundLiteral) (x : GroundLiteral) → IsTemplateMatrix P m → d ≤ length g.path + 1 → x.sign ≡ g.literal.sign → x.symbol ≡ g.literal.symbol → AreLike xs g.path → ¬ HasReduction xs x → ((p : MatrixPlace) → IsIn p (places m g.literal.symbol (other g.literal.sign)) → IsHopelessAt m p g) → ¬ IsCloseable P d (record { literal = x; path = xs })
nearly-open P m d g xs x tm far signs symbols like none bad (y, y_closes) = by (nearly-full P d xs x y y_closes)
  where
    by : IsNearlyFull P d xs x → ⊥
    by (reduces r) = none r
    by (extends i place is opp goals) =
        let inside = extensions-complete P m g.literal tm i.selection place (selection-in P i is) (image-meets P g.literal x i place signs symbols is opp) in
        let among = subst (IsIn (extension i.selection place)) (sym (extensions-by_index m g.literal.symbol (other g.literal.sign))) inside in
        let (p, p_at, same) = found-in-map (extension_at m) (places m g.literal.symbol (other g.literal.sign)) among.0 (extension i.selection place) among.1 in
        let q = bad p (among.0, p_at) in
        let selected : i.selection ≡ q.clause.selection = ap choice_selection same ∙ ap selection_of q.stands in
        let placed : p.literal ≡ place = sym (ap choice_place same) in
        let w = by-template P q.clause.selection q.clause.template (each-at (λ (z : MatrixClause). IsTemplateOf P z.selection z.template) m p.clause q.clause tm.templates q.stands) i selected is in
        let hopeless = q.hopeless in
        hopeless.lacking (closed-answered P d (x ∷ xs) (g.literal ∷ g.path) (remove i.literals place) hopeless.number (pattern_literal i.values hopeless.literal) (omega (arith, far)) (like-more xs g.path x g.literal signs symbols like) goals
        (other-literal q.clause.template i place hopeless.number hopeless.literal w.literals (subst (λ k. slice_get (remove q.clause.template.literals k) hopeless.number ≡ Some hopeless.literal) placed hopeless.stands)))

-- so no image of such a goal is closed
pub nearly-lost : (P : Problem) (m : List MatrixClause) (d : ℕ) (s : Store) (g : CellGoal) (σ : Solution) → IsTemplateMatrix P m → d ≤ length g.path + 1 → ((up : ℕ) → CannotReduce s g up) → ((p : MatrixPlace) → IsIn p (places m g.literal.symbol (other g.literal.sign)) → IsHopelessAt m p g) → Solves s σ → ¬ IsCloseable P d (goal_at σ g)
nearly-lost P m d s g σ tm far none bad solves =
    let path = map (literal_by σ) g.path in
    nearly-open P m d g path (literal_by σ g.literal) tm far refl refl (like-image σ g.path) (λ (r : HasReduction path (literal_by σ g.literal)). none r.number σ solves (is_complement-opposite (literal_by σ g.literal) (ancestor path r.number) r.is_complement)) bad

-- ---- masks

other-of : (s t : Sign) → IsTrue (not (sign_eq s t)) → t ≡ other s
other-of F F h = absurd (false≢true h)
other-of F T h = refl
other-of T F h = refl
other-of T T h = absurd (false≢true h)

-- where the bit of the symbol with the other sign is not set, no atom of the path has them
pub unmarked-lacks : (mask : ℕ) (path : List CellAtom) (symbol : ℕ) (sign : Sign) → MarksPath mask path → bit_at mask (bit_of symbol (other sign)) ≡ 0 → ¬ IsAnswered path symbol sign
unmarked-lacks mask path symbol sign h zero_bit x =
    let marked = h x.number x.atom x.on_path in
    let same : bit_of x.atom.symbol x.atom.sign ≡ bit_of symbol (other sign) = ap₂ bit_of (sym x.symbols) (other-of sign x.atom.sign x.signs) in
    let z : 0 ≡ 1 = sym zero_bit ∙ sym (ap (bit_at mask) same) ∙ marked in
    cc z
