-- Looking ahead at the path limit: goals that no bindings close within it, and lists that are dropped where the limit is known to be left.
use Rattle.std.proofs.Common.{◌≡◌, ◌≢◌, ◌⊎◌, ◌&&◌, ◌==◌, ◌+◌, ◌<◌, ◌≤◌, ◌^◌, ℕ, zero, suc, Bool, List, [], ◌∷◌, length, max, not, true, false, IsTrue, refl, sym, ◌∙◌, ap, ap₂, subst, Option, Some, None, slice_get, remove, inl, inr, arith, bit_or, eq-eqb}
use Rattle.std.specs.Int.{bit_at}
use Rattle.std.proofs.lemmas.Bool.{and_parts, cases_eq, cases_lt, false≢true}
use Rattle.std.proofs.lemmas.Option.{slice_get_within}
use Rattle.std.proofs.lemmas.Nat.Bits.{bit_at-lt, bit_at_above, bit_at_or, same_from_bits}
use Rattle.plain_laws.proofs.Places.{get-within}
use Rattle.plain_laws.proofs.Options.{same-some}
use Rattle.calculus.specs.declared.sign.Sign.{Sign}
use Rattle.calculus.specs.declared.sign.Sign.TheVariants.{T, F}
use Rattle.calculus.specs.Choices.{Choice}
use Rattle.calculus.specs.Equality.{sign_eq}
use Rattle.calculus.specs.Kinds.{other}
use Rattle.calculus.specs.Syntax.{Problem}
use Rattle.search_theory.specs.Ahead.{IsApart, IsHopelessAt, MarksPath, bit_of, by_args, by_sign, by_symbol}
use Rattle.search_theory.specs.Matrix.{MatrixClause, MatrixPlace, places}
use Rattle.search_theory.specs.OrderedChoices.{meets}
use Rattle.search_theory.specs.States.{CellGoal, atom_is_below, goal_is_below}
use Rattle.search_theory.specs.Steps.{Clash}
use Rattle.search_theory.proofs.LookAheadLaws.{unmarked-lacks}
use Rattle.store_theory.specs.Patterns.{PatternAtom}
use Rattle.store_theory.specs.Stores.{Store, names_below}
use Rattle.store_theory.specs.Systems.{CellAtom}
use Rattle.search_tree.specs.Points.{row_of}
use Rattle.matrix_build.specs.Needs.{AreNeeds, needed}
use Rattle.search_tree.specs.Ahead.{HasNoHope, MeetsPlace}
use Rattle.search_tree.specs.Running.{ExtendsBy, StandsFor}
use Rattle.search_tree.specs.Trees.{AreOpen, IsGoalAt, atom_at}
use Rattle.search_tree.specs.declared.tree.Goal.{Goal}
use Rattle.search_tree.specs.declared.tree.Step.{Step}
use Rattle.search_tree.proofs.PlaceLaws.{about-sign, about-symbol, place-found, place-stands}
use Rattle.search_tree.proofs.SeenLaws.{goal-wanted}
use Rattle.search_tree.proofs.TreeLaws.{atom-found}

-- ---- marks

pub unequal : (x y : ℕ) → not (x == y) ≡ true → ¬ (x ≡ y)
unequal x y h e = by (x == y) (eq-eqb x y e) h
  where
    by : (b : Bool) → b ≡ true → not b ≡ true → ⊥
    by true f k = false≢true k
    by false f k = false≢true f

other-of : (s t : Sign) → IsTrue (not (sign_eq s t)) → s ≡ other t
other-of T T h = absurd (false≢true h)
other-of T F h = refl
other-of F T h = refl
other-of F F h = absurd (false≢true h)

-- marks that are wanting show in the sum of both
pub wanting : (needs marks : ℕ) → needs < 2 ^ 64 → marks < 2 ^ 64 → ¬ (bit_or needs marks ≡ marks) → (b : ℕ) × (bit_at needs b ≡ 1) × (bit_at marks b ≡ 0)
wanting needs marks small few differ = by (search 64)
  where
    HasWanting : Type 0
    HasWanting = (b : ℕ) × (bit_at needs b ≡ 1) × (bit_at marks b ≡ 0)

    at : (b : ℕ) → (bit_at (bit_or needs marks) b ≡ bit_at marks b) ⊎ HasWanting
    at b = look (bit_at needs b) (bit_at marks b) refl refl (bit_at-lt needs b) (bit_at-lt marks b) (bit_at_or needs marks b)
      where
        look : (x y : ℕ) → bit_at needs b ≡ x → bit_at marks b ≡ y → bit_at needs b < 2 → bit_at marks b < 2 → bit_at (bit_or needs marks) b ≡ max (bit_at needs b) (bit_at marks b) → (bit_at (bit_or needs marks) b ≡ bit_at marks b) ⊎ HasWanting
        look zero y ex ey l k q = inl (omega (arith, ex, ey, q))
        look (suc zero) zero ex ey l k q = inr (b, ex, ey)
        look (suc zero) (suc y) ex ey l k q = inl (omega (arith, ex, ey, k, q))
        look (suc (suc x)) y ex ey l k q = absurd (omega (arith, ex, l))

    search : (n : ℕ) → ((b : ℕ) → b < n → bit_at (bit_or needs marks) b ≡ bit_at marks b) ⊎ HasWanting
    search zero = inl (λ b l. absurd (omega (arith, l)))
    search (suc n) = elim (search n) [ inl below ↦ add below (at n) | inr found ↦ inr found ]
      where
        add : ((b : ℕ) → b < n → bit_at (bit_or needs marks) b ≡ bit_at marks b) → (bit_at (bit_or needs marks) n ≡ bit_at marks n) ⊎ HasWanting → ((b : ℕ) → b < suc n → bit_at (bit_or needs marks) b ≡ bit_at marks b) ⊎ HasWanting
        add below (inr found) = inr found
        add below (inl same) = inl (λ b l. elim (cases_eq b n) [
          | inl e ↦ subst (λ k. bit_at (bit_or needs marks) k ≡ bit_at marks k) (sym e) same
          | inr d ↦ below b (omega (arith, l, d))
        ])

    beyond : (b : ℕ) → 64 ≤ b → bit_at (bit_or needs marks) b ≡ bit_at marks b
    beyond b l = let x = bit_at_above needs 64 b small l in let y = bit_at_above marks 64 b few l in let q = bit_at_or needs marks b in omega (arith, x, y, q)

    by : ((b : ℕ) → b < 64 → bit_at (bit_or needs marks) b ≡ bit_at marks b) ⊎ HasWanting → HasWanting
    by (inr found) = found
    by (inl below) = absurd (differ (same_from_bits (bit_or needs marks) marks (λ b. elim (cases_lt b 64) [ inl l ↦ below b l | inr l ↦ beyond b l ])))

-- the goal's own mark and those of its path
pub marks-goal : (marks : ℕ) (x : CellGoal) → bit_at marks (bit_of x.literal.symbol x.literal.sign) ≡ 1 → ((k : ℕ) (a : CellAtom) → slice_get x.path k ≡ Some a → bit_at marks (bit_of a.symbol a.sign) ≡ 1) → MarksPath marks (x.literal ∷ x.path)
marks-goal marks x own above zero a e = let same : x.literal ≡ a = cc e in subst (λ (z : CellAtom). bit_at marks (bit_of z.symbol z.sign) ≡ 1) same own
marks-goal marks x own above (suc k) a e = above k a e

-- the atom's symbol is marked under its sign
abbrev pub IsMarkedBy : ℕ → CellGoal → CellAtom → Type 0
IsMarkedBy marks x a = bit_at marks (bit_of a.symbol a.sign) ≡ 1

pub marked-literal : (steps : List Step) (goals : List Goal) (goal marks : ℕ) (a : CellAtom) (x : CellGoal) → IsGoalAt steps goals goal x → ((g : Goal) → slice_get goals goal ≡ Some g → atom_at steps g ≡ Some a) → bit_at marks (bit_of a.symbol a.sign) ≡ 1 → bit_at marks (bit_of x.literal.symbol x.literal.sign) ≡ 1
marked-literal steps goals goal marks a x g f h = subst (λ (z : CellAtom). bit_at marks (bit_of z.symbol z.sign) ≡ 1) (atom-found steps goals goal x a g f) h

-- ---- extensions without hope

-- another item stands among those that are left
pub other-there : {A : Type 0} (xs : List A) (place i : ℕ) (x : A) → i ≢ place → slice_get xs i ≡ Some x → (n : ℕ) × (slice_get (remove xs place) n ≡ Some x)
other-there [] place i x n e = let z : None ≡ Some x = e in absurd (cc z)
other-there (y ∷ xs) zero zero x n e = absurd (n refl)
other-there (y ∷ xs) zero (suc i) x n e = (i, e)
other-there (y ∷ xs) (suc place) zero x n e = (0, e)
other-there (y ∷ xs) (suc place) (suc i) x n e = let w = other-there xs place i x (λ q. n (ap suc q)) e in (suc w.0, w.1)

-- another literal of the place's clause needs a mark that the path lacks: the one at the place needs that of the goal
pub place-hopeless : (m : List MatrixClause) (p : MatrixPlace) (g : CellGoal) (needs marks b : ℕ) → ((x : MatrixClause) → slice_get m p.clause ≡ Some x → AreNeeds x.template.literals needs) → MeetsPlace m p g → MarksPath marks (g.literal ∷ g.path) → bit_at needs b ≡ 1 → bit_at marks b ≡ 0 → IsHopelessAt m p g
place-hopeless m p g needs marks b each meets marked set none =
    let (i, q, at, is) = (each meets.clause meets.stands).only b set in
    let (n, stands) = other-there meets.clause.template.literals p.literal i q (differs i q at is) at in
    record {
      clause = meets.clause;
      stands = meets.stands;
      hopeless = record {
        number = n;
        literal = q;
        stands = stands;
        lacking = unmarked-lacks marks (g.literal ∷ g.path) q.symbol q.sign marked (ap (bit_at marks) (sym is) ∙ none);
      };
    }
  where
    differs : (i : ℕ) (q : PatternAtom) → slice_get meets.clause.template.literals i ≡ Some q → b ≡ needed q → i ≢ p.literal
    differs i q at is e =
        let same : q ≡ meets.literal = same-some (slice_get meets.clause.template.literals p.literal) q meets.literal (subst (λ k. slice_get meets.clause.template.literals k ≡ Some q) e at) meets.there in
        let own : needed meets.literal ≡ bit_of g.literal.symbol g.literal.sign = ap₂ bit_of (sym meets.symbols) (sym (other-of g.literal.sign meets.literal.sign meets.signs)) in
        let z : 0 ≡ 1 = sym none ∙ ap (bit_at marks) (is ∙ ap needed same ∙ own) ∙ marked 0 g.literal refl in
        cc z

-- the row of a goal has such literals, as each extension has
pub row-meets : (m : List MatrixClause) (items : List MatrixPlace) (x : CellGoal) (i : ℕ) (p : MatrixPlace) → items ≡ row_of m x → slice_get items i ≡ Some p → MeetsPlace m p x
row-meets m items x i p e at =
    let w = place-stands m x.literal.symbol (other x.literal.sign) i p (subst (λ ps. slice_get ps i ≡ Some p) e at) in
    record {
      clause = w.clause;
      stands = place-found m x.literal.symbol (other x.literal.sign) p w;
      literal = w.literal;
      there = w.there;
      signs = about-sign x.literal.symbol x.literal.sign w.literal w.about;
      symbols = about-symbol x.literal.symbol (other x.literal.sign) w.literal w.about;
    }

pub extension-meets : (m : List MatrixClause) (d : ℕ) (g : CellGoal) (p : MatrixPlace) → ExtendsBy m d g p → MeetsPlace m p g
extension-meets m d g p e = record { clause = e.clause; stands = e.stands; literal = e.literal; there = e.there; signs = e.signs; symbols = e.symbols }

-- ---- goals that an ancestor may close

pub apart-by_meets : (s : Store) (a b : CellAtom) → meets a b ≡ false → IsApart s a b
apart-by_meets s a b h = by (sign_eq a.sign b.sign) (a.symbol == b.symbol) refl refl h
  where
    by : (u v : Bool) → sign_eq a.sign b.sign ≡ u → (a.symbol == b.symbol) ≡ v → (not u && v) ≡ false → IsApart s a b
    by true v e f k = by_sign e
    by false false e f k = by_symbol (λ q. false≢true (sym f ∙ eq-eqb a.symbol b.symbol q))
    by false true e f k = absurd (false≢true (sym k))

-- the atom cannot be met by the goal
abbrev pub IsApartIn : Store → CellGoal → CellAtom → Type 0
IsApartIn s x a = IsApart s x.literal a

pub apart-literal : (s : Store) (steps : List Step) (goals : List Goal) (goal : ℕ) (a b : CellAtom) (x : CellGoal) → IsGoalAt steps goals goal x → ((g : Goal) → slice_get goals goal ≡ Some g → atom_at steps g ≡ Some a) → IsApart s a b → IsApart s x.literal b
apart-literal s steps goals goal a b x g f h = subst (λ z. IsApart s z b) (atom-found steps goals goal x a g f) h

pub apart-by_clash : (s : Store) (a b : CellAtom) (xs ys : List ℕ) → xs ≡ a.args → ys ≡ b.args → Clash s xs ys → IsApart s a b
apart-by_clash s a b xs ys ex ey k = by_args (subst (λ us. Clash s us b.args) ex (subst (Clash s xs) ey k))

pub terms-below : (n : ℕ) (a : CellAtom) (xs : List ℕ) → xs ≡ a.args → IsTrue (atom_is_below n a) → IsTrue (names_below n xs)
terms-below n a xs e h = subst (λ us. IsTrue (names_below n us)) (sym e) (and_parts (names_below n a.args) (names_below n a.label) h).0

-- ---- the row of a goal

pub row-by : (m : List MatrixClause) (items : List MatrixPlace) (symbol : ℕ) (sign facing : Sign) (x : CellGoal) → items ≡ places m symbol facing → facing ≡ other sign → x.literal.symbol ≡ symbol → x.literal.sign ≡ sign → items ≡ row_of m x
row-by m items symbol sign facing x e ef es eg = e ∙ ap (places m symbol) (ef ∙ ap other (sym eg)) ∙ ap (λ n. places m n (other x.literal.sign)) (sym es)

-- the clause of a literal of the index
pub places-clause : (m : List MatrixClause) (items : List MatrixPlace) (symbol : ℕ) (sign : Sign) (i : ℕ) (p : MatrixPlace) → items ≡ places m symbol sign → slice_get items i ≡ Some p → p.clause < length m
places-clause m items symbol sign i p e at =
    let w = place-stands m symbol sign i p (subst (λ ps. slice_get ps i ≡ Some p) e at) in
    get-within m p.clause w.clause (place-found m symbol sign p w)

-- the first i of them are hopeless
abbrev pub AreHopelessTo : List MatrixClause → CellGoal → ℕ → Type 0
AreHopelessTo m x i = (k : ℕ) (p : MatrixPlace) → k < i → slice_get (row_of m x) k ≡ Some p → IsHopelessAt m p x

pub hopeless-next : (m : List MatrixClause) (items : List MatrixPlace) (x : CellGoal) (i : ℕ) (p : MatrixPlace) → items ≡ row_of m x → slice_get items i ≡ Some p → IsHopelessAt m p x → AreHopelessTo m x i → AreHopelessTo m x (i + 1)
hopeless-next m items x i p e at bad h k q l there = by (cases_eq k i)
  where
    by : (k ≡ i) ⊎ (k ≢ i) → IsHopelessAt m q x
    by (inl same) = subst (λ z. IsHopelessAt m z x) (same-some (slice_get (row_of m x) i) p q (subst (λ ps. slice_get ps i ≡ Some p) e at) (subst (λ n. slice_get (row_of m x) n ≡ Some q) same there)) bad
    by (inr differs) = h k q (omega (arith, l, differs)) there

pub hopeless-all : (m : List MatrixClause) (items : List MatrixPlace) (x : CellGoal) (i : ℕ) → items ≡ row_of m x → length items ≤ i → AreHopelessTo m x i → HasNoHope m x
hopeless-all m items x i e l h p (k, at) =
    let inside = slice_get_within (row_of m x) k p at in
    let count = ap length e in
    h k p (omega (arith, inside, count, l)) at

-- ---- goals that no bindings close

-- a goal of the tree is over cells of the store
pub goal-cells : (P : Problem) (m : List MatrixClause) (base d : ℕ) (c : List Choice) (s : Store) (steps : List Step) (goals : List Goal) (first : Option ℕ) (goal : ℕ) (x : CellGoal) → StandsFor P m base d c s steps goals first → IsGoalAt steps goals goal x → (z : CellGoal) × IsGoalAt steps goals goal z × IsTrue (goal_is_below (length s.cells) z)
goal-cells P m base d c s steps goals first goal x (cs, y, h) at = goal-wanted steps goals (length s.cells) goal y.all_goals h.tree.goals h.running.state.cells.all_goals (slice_get_within goals goal at.goal at.stands)

-- the leftmost of these goals, and those behind it
pub record OpenFirst (steps : List Step) (goals : List Goal) (goal : ℕ) : Type 0 where
  pub x : CellGoal
  pub at : IsGoalAt steps goals goal x
  pub rest : (g : Goal) → slice_get goals goal ≡ Some g → (ys : List CellGoal) × AreOpen steps goals g.behind ys

pub leftmost-open : (steps : List Step) (goals : List Goal) (next : Option ℕ) (goal : ℕ) (xs : List CellGoal) → AreOpen steps goals next xs → next ≡ Some goal → OpenFirst steps goals goal
leftmost-open steps goals next goal [] h e = let z : None ≡ Some goal = sym h ∙ e in absurd (cc z)
leftmost-open steps goals next goal (x ∷ xs) (i, g, is, at, goal_is, rest) e =
    let same : i ≡ goal = let z : Some i ≡ Some goal = sym is ∙ e in cc z in
    let there : slice_get goals goal ≡ Some g = subst (λ k. slice_get goals k ≡ Some g) same at in
    record {
      x = x;
      at = record { goal = g; stands = there; is_goal = goal_is };
      rest = λ k f. (xs, subst (λ (z : Goal). AreOpen steps goals z.behind xs) (same-some (slice_get goals goal) g k there f) rest);
    }
