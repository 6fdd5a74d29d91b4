-- Whether the limit is left at a goal.
use Rattle.std.proofs.Common.{◌≡◌, ◌⊎◌, ◌+◌, ℕ, zero, suc, List, [], ◌∷◌, ◌++◌, length, take, Bool, true, false, IsTrue, refl, ◌∙◌, ap, subst, sym, Option, None, Some, slice_get, arith, inl, inr, ◌==◌, if◌then◌else◌, nat_lt}
use Rattle.std.specs.List.{list_any}
use Rattle.store_theory.specs.Bindings.{KeepsMarks}
use Rattle.calculus.specs.Choices.{Choice, IsLeft, extension, reduction}
use Rattle.calculus.specs.Kinds.{other}
use Rattle.calculus.specs.declared.sign.Side.{Side}
use Rattle.store_theory.specs.Systems.{CellAtom}
use Rattle.search_theory.specs.Exploring.{IsIn}
use Rattle.search_theory.specs.Goals.{IsChoiceAt}
use Rattle.search_theory.specs.OrderedChoices.{extensions, meets, reductions_from}
use Rattle.search_theory.specs.DeadEnds.{IsDead}
use Rattle.search_theory.proofs.ChoiceLaws.{choices-complete}
use Rattle.store_theory.specs.Stores.{Store, cut_at}
use Rattle.calculus.specs.Syntax.{Problem}
use Rattle.search_theory.specs.Matrix.{IsTemplateMatrix, MatrixClause}
use Rattle.search_theory.specs.Regular.{HasNoSamePair}
use Rattle.search_theory.specs.States.{CellChoice, CellGoal, CellGrowth}
use Rattle.search_theory.proofs.DeepenLaws.{state-more}
use Rattle.term_store.specs.StoreView.{the_mark}
use Rattle.search_tree.specs.Points.{HasExtensions, IsHere}
use Rattle.search_tree.specs.Running.{IsAt, IsAtGoal, IsLeftFound, StandsDeep}
use Rattle.search_tree.specs.Trees.{IsGoalAt, tree_system}
use Rattle.search_tree.specs.declared.point.Point.{Point}
use Rattle.search_tree.specs.declared.tree.Goal.{Goal}
use Rattle.search_tree.specs.declared.tree.Step.{Step}
use Rattle.search_tree.proofs.RunningLaws.{running-left}

-- a regular tree with an extension from a path of as many goals as the limit
pub left-by_tree : (P : Problem) (m : List MatrixClause) (base d n : ℕ) (c : List Choice) (s : Store) (steps : List Step) (goals : List Goal) (first : Option ℕ) → n ≡ d → StandsDeep P m base (d + 1) c s steps goals first n → ((cs : List CellChoice) (x : CellGrowth) → IsAt P m base (d + 1) c s steps goals first cs x → HasNoSamePair (record { store = s; choices = cs; growth = x })) → IsLeft P d
left-by_tree P m base d n c s steps goals first e (cs, x, at, deep) new = running-left P base d c (record { store = s; choices = cs; growth = x }) (tree_system m steps goals x.all_goals) at.running (new cs x at) (subst (λ k. IsTrue (list_any (λ i. i == k) x.depths)) e deep)

-- back where the point was made
pub back-list : {A : Type 0} (n : ℕ) (before after : List A) → n ≡ length before → (more : List A) × (after ≡ before ++ more) → take n after ≡ before
back-list {A} n before after e (more, f) = ap (take n) f ∙ by n before e
  where
    by : (n : ℕ) (xs : List A) → n ≡ length xs → take n (xs ++ more) ≡ xs
    by zero [] e = refl
    by (suc n) [] e = absurd (omega (arith, e))
    by zero (x ∷ xs) e = absurd (omega (arith, e))
    by (suc n) (x ∷ xs) e = ap (λ ys. x ∷ ys) (by n xs (omega (arith, e)))

pub back-store : (p : Point) (old mid new : Store) (steps : List Step) (goals : List Goal) (first : Option ℕ) → IsHere p old steps goals first → KeepsMarks old mid → new ≡ cut_at (the_mark p.mark) mid → new ≡ old
back-store p old mid new steps goals first h k e = e ∙ (k (the_mark p.mark) h.good).1 ∙ h.whole

-- ---- all extensions of a goal

abbrev pub all_extensions : List MatrixClause → ℕ → CellGoal → List Choice
all_extensions m d g = if nat_lt (length g.path) d then extensions g.literal.symbol (other g.literal.sign) m else []

-- each extension of the goal within the limit e is still to be tried, or is a dead end
pub record TriedTo (P : Problem) (m : List MatrixClause) (e : ℕ) (c : List Choice) (g : CellGoal) (p : Point) : Type 0 where
  pub rest : List Choice
  pub has : HasExtensions m e p g rest
  pub others : (x : Choice) → IsIn x (all_extensions m e g) → IsIn x rest ⊎ IsDead P (c ++ x ∷ [])

pub tried-first : (P : Problem) (m : List MatrixClause) (e : ℕ) (c : List Choice) (g : CellGoal) (p : Point) → HasExtensions m e p g (all_extensions m e g) → TriedTo P m e c g p
tried-first P m e c g p h = record { rest = all_extensions m e g; has = h; others = λ x i. inl i }

in-later : (P : Problem) (c : List Choice) (x y : Choice) (rest : List Choice) → IsDead P (c ++ y ∷ []) → IsIn x (y ∷ rest) → IsIn x rest ⊎ IsDead P (c ++ x ∷ [])
in-later P c x y rest dead (zero, e) = let same : y ≡ x = cc e in inr (subst (λ z. IsDead P (c ++ z ∷ [])) same dead)
in-later P c x y rest dead (suc k, e) = inl (k, e)

pub tried-next : (P : Problem) (m : List MatrixClause) (e : ℕ) (c : List Choice) (g : CellGoal) (before after : Point) (y : Choice) (more : List Choice) → (h : TriedTo P m e c g before) → h.rest ≡ y ∷ more → HasExtensions m e after g more → IsDead P (c ++ y ∷ []) → TriedTo P m e c g after
tried-next P m e c g before after y more h q has dead = record {
  rest = more;
  has = has;
  others = λ x i. elim (h.others x i) [
    | inl j ↦ in-later P c x y more dead (subst (IsIn x) q j)
    | inr d ↦ inr d
  ];
}

not-reduction : (sides : List Side) (place k : ℕ) (a : CellAtom) (path : List CellAtom) (ys : List Choice) → IsIn (extension sides place) (reductions_from k a path ++ ys) → IsIn (extension sides place) ys
not-reduction sides place k a [] ys i = i
not-reduction sides place k a (b ∷ path) ys i = by (meets a b) (not-reduction sides place (suc k) a path ys) i
  where
    by : (q : Bool) → (IsIn (extension sides place) (reductions_from (suc k) a path ++ ys) → IsIn (extension sides place) ys) → IsIn (extension sides place) (((if q then reduction k ∷ [] else []) ++ reductions_from (suc k) a path) ++ ys) → IsIn (extension sides place) ys
    by true f (zero, e) = let z : reduction k ≡ extension sides place = cc e in absurd (cc z)
    by true f (suc n, e) = f (n, e)
    by false f i = f i

pub tried-all : (P : Problem) (m : List MatrixClause) (e : ℕ) (c : List Choice) (g : CellGoal) (p : Point) → IsTemplateMatrix P m → (h : TriedTo P m e c g p) → h.rest ≡ [] → (sides : List Side) (place : ℕ) → IsChoiceAt P e g (extension sides place) → IsDead P (c ++ extension sides place ∷ [])
tried-all P m e c g p matrix h none sides place choice = elim (h.others (extension sides place) (not-reduction sides place 1 g.literal g.path (all_extensions m e g) (choices-complete P m e g matrix (extension sides place) choice))) [
  | inl (k, q) ↦ let z : None ≡ Some (extension sides place) = ap (λ xs. slice_get xs k) (sym none) ∙ q in absurd (cc z)
  | inr d ↦ d
]

-- the state at a greater limit
pub at-deeper : (P : Problem) (m : List MatrixClause) (base d : ℕ) (c : List Choice) (s : Store) (steps : List Step) (goals : List Goal) (goal : ℕ) (g : CellGoal) → IsAtGoal P m base d c s steps goals goal g → IsAtGoal P m base (d + 1) c s steps goals goal g
at-deeper P m base d c s steps goals goal g h =
    let r = h.at.running in
    record {
      made = h.made;
      behind = h.behind;
      every = h.every;
      depths = h.depths;
      at = record {
        running = record { state = state-more P d (d + 1) c (record { store = s; choices = h.made; growth = record { open_goals = g ∷ h.behind; all_goals = h.every; depths = h.depths } }) (omega arith) r.state; well = r.well; from = r.from; own = r.own; choices = r.choices; open_goals = r.open_goals; goals = r.goals; system = r.system; cells = r.cells; strings = r.strings; variables = r.variables };
        tree = h.at.tree;
      };
    }

-- ---- the same, at equal places

pub goal-moved : (steps after : List Step) (goals all : List Goal) (goal other_goal : ℕ) (g : CellGoal) → after ≡ steps → all ≡ goals → other_goal ≡ goal → IsGoalAt steps goals goal g → IsGoalAt after all other_goal g
goal-moved steps after goals all goal other_goal g ea eb ec h = rw (ea, eb, ec) h

pub at-moved : (P : Problem) (m : List MatrixClause) (base d : ℕ) (c : List Choice) (old new : Store) (steps after : List Step) (goals all : List Goal) (goal other_goal : ℕ) (g : CellGoal) → new ≡ old → after ≡ steps → all ≡ goals → other_goal ≡ goal → IsAtGoal P m base d c old steps goals goal g → IsAtGoal P m base d c new after all other_goal g
at-moved P m base d c old new steps after goals all goal other_goal g es ea eb ec h = rw (es, ea, eb, ec) h

pub here-moved : (p : Point) (old new : Store) (steps after : List Step) (goals all : List Goal) (first link : Option ℕ) → new ≡ old → after ≡ steps → all ≡ goals → link ≡ first → IsHere p old steps goals first → IsHere p new after all link
here-moved p old new steps after goals all first link es ea eb ec h = rw (es, ea, eb, ec) h

-- ---- what is found at a goal

pub known-found : (P : Problem) (d : ℕ) (c : List Choice) (g : CellGoal) (known : Bool) → known ≡ true → IsLeftFound P d c g known true
known-found P d c g known k = record { is_left = λ t f. let z : true ≡ false = sym k ∙ f in absurd (cc z); unknown = λ z. absurd (cc z); dead = λ z. absurd (cc z) }

-- the path is shorter than the limit
pub short-found : (P : Problem) (d : ℕ) (c : List Choice) (g : CellGoal) (known : Bool) (limit depth : ℕ) → known ≡ false → limit ≡ d → ¬ (depth ≡ limit) → depth ≡ length g.path → IsLeftFound P d c g known false
short-found P d c g known limit depth k l n e = record { is_left = λ z. absurd (cc z); unknown = λ f. k; dead = λ f q. absurd (n (e ∙ q ∙ sym l)) }

pub goal-found : (P : Problem) (d : ℕ) (c : List Choice) (g : CellGoal) (known left : Bool) → known ≡ false → (left ≡ true → IsLeft P d) → (left ≡ false → (sides : List Side) (place : ℕ) → IsChoiceAt P (d + 1) g (extension sides place) → IsDead P (c ++ extension sides place ∷ [])) → IsLeftFound P d c g known left
goal-found P d c g known left k found dead = record { is_left = λ t f. found t; unknown = λ f. k; dead = λ f q. dead f }
