-- What stands on a branch that a tableau leads: the task of the branch, and what each turn that is done there has left.
use Rattle.std.proofs.Common.{◌≡◌, ◌⊎◌, ℕ, ◌+◌, ◌≤◌, ◌<◌, arith, List, [], ◌∷◌, ◌++◌, length, None, refl, sym, ◌∙◌, ap, subst, inl, inr}
use Rattle.std.specs.List.{AllByRecursion}
use Rattle.plain_laws.proofs.Options.{none_some}
use Rattle.calculus.specs.declared.sign.Sign.{Sign}
use Rattle.calculus.specs.Syntax.{Formula, Problem}
use Rattle.calculus.specs.Ground.{Value, GroundLiteral}
use Rattle.calculus.specs.Positions.{Node}
use Rattle.calculus.specs.Instances.{Spot, Turn, Gives}
use Rattle.calculus.specs.Tableaux.{Tableau}
use Rattle.conversion_theory.specs.Turns.{Name, names_mentioned, names_introduced, parent_position, IsParent}
use Rattle.conversion_theory.specs.Numbering.{number_of}
use Rattle.conversion_theory.specs.Branches.{Item, item, Made, rests, grows, splits, made}
use Rattle.conversion_theory.specs.Leading.{End, Task, task_cost, task_weight}
use Rattle.calculus.proofs.Members.{Among}
use Rattle.conversion_theory.proofs.PlaceLaws.{Stood, HasParent}
use Rattle.conversion_theory.proofs.AgendaLaws.{TurnOf, Anything, turn-works, parent-above, only-parent}
use Rattle.conversion_theory.proofs.BranchLaws.{Has, Holding, IsReady, IsComplete, ready-complete, complete-more}
use Rattle.conversion_theory.proofs.RunLaws.{Branch, WorksOn}
use Rattle.conversion_theory.proofs.TaskLaws.{AreEnds}
use Rattle.conversion_theory.proofs.FollowLaws.{AreMade, IsBelowOf, below, Next, lands, goes, forks, Opened, opened}

-- ---- turns that can come next

-- the turn is not done, its parent is done, and the turns that introduce what it mentions
pub record CanCome (P : Problem) (t : Tableau) (done : List Turn) (x : Turn) : Type 0 where
  pub here : TurnOf P t x
  pub new : Among done x → ⊥
  pub parents : (z : Turn) → IsParent P z x → Among done z
  pub names : (z : Turn) (n : Name) → TurnOf P t z → Among (names_mentioned P x) n → Among (names_introduced P z) n → Among done z

-- the one parent is done, or there is none
pub parent-done : (P : Problem) (t : Tableau) (done : List Turn) (x : Turn) → TurnOf P t x → ((y : Turn) × IsParent P y x × Among done y) ⊎ (parent_position P x.position ≡ None) → (z : Turn) → IsParent P z x → Among done z
parent-done P t done x here (inl r) z p = subst (Among done) (only-parent P t x r.0 z here r.1 p) r.2
parent-done P t done x here (inr e) z p = absurd (none_some (sym e ∙ p.position))

own_parent : (P : Problem) (t : Tableau) (x : Turn) → TurnOf P t x → IsParent P x x → ⊥
own_parent P t x h p = let w = turn-works P t x h in let lt = (parent-above P t x x w w.parent p).lower in absurd (omega arith)

pub come-ready : (P : Problem) (t : Tableau) (done : List Turn) (x : Turn) → IsComplete P t done → CanCome P t done x → IsReady P t done x
come-ready P t done x c h = ready-complete P t done x c h.here h.new (own_parent P t x h.here)

pub come-complete : (P : Problem) (t : Tableau) (done : List Turn) (x : Turn) → IsComplete P t done → CanCome P t done x → IsComplete P t (done ++ x ∷ [])
come-complete P t done x c h = complete-more P t done x c h.here h.parents h.names

-- ---- what the turns that are done have left

-- where the turn works on an item of the branch, what it made of it stands there
abbrev pub AreLeft : Problem → Tableau → List Name → Branch → Type 0
AreLeft P t names b = (y : Turn) → Among b.done y → (i : Item) → Among b.items i → (own : List Value) → WorksOn P t names y i own → AreMade b.items (made (number_of names) P.setting.logic i.spot i.sign i.formula own)

pub made-more : (items more : List Item) (m : Made) → ((i : Item) → Among items i → Among more i) → AreMade items m → AreMade more m
made-more items more rests h g = tt
made-more items more (grows a u added) h g = each added g
  where
    each : (is : List Item) → AllByRecursion (Among items) is → AllByRecursion (Among more) is
    each [] k = tt
    each (i ∷ is) k = (h i k.0, each is k.1)
made-more items more (splits a i j) h (inl g) = inl (h i g)
made-more items more (splits a i j) h (inr g) = inr (h j g)

-- ---- the task of a branch

module _ (P : Problem) (d : ℕ) (t : Tableau) (names : List Name) where
  -- the parent of a turn at the spot is done, or it has none
  abbrev pub IsAboveDone : List Turn → Spot → Type 0
  IsAboveDone done c = (z : Turn) (own : List Value) → z.position ≡ c.position → z.values ≡ c.taken ++ own → ((y : Turn) × IsParent P y z × Among done y) ⊎ (parent_position P z.position ≡ None)

  -- the task's signed formula stands on the branch and gives its share, its path holds there, and its ends are right
  pub record IsTask (b : Branch) (k : Task) : Type 0 where
    pub before : List Node
    pub gives : Gives P.setting.logic k.spot k.sign k.formula k.share
    pub stood : Stood P before k.spot k.sign k.formula
    pub parent : HasParent P Anything before k.spot
    pub ends : AreEnds P t d k.path k.share.literals k.ends
    pub turns : (y : Turn) → Among k.share.turns y → TurnOf P t y
    pub stands : Has b.items k.spot k.sign k.formula
    pub path : AllByRecursion (Holding P.setting.logic b.items) k.path
    pub above : IsAboveDone b.done k.spot

  pub holding-by : (items more : List Item) → ((i : Item) → Among items i → Among more i) → (x : GroundLiteral) → Holding P.setting.logic items x → Holding P.setting.logic more x
  holding-by items more f x h = record { at = h.at; among = f h.at h.among; symbol = h.symbol; args = h.args; formula = h.formula; rest = h.rest; literal = h.literal }

  path-by : (items more : List Item) → ((i : Item) → Among items i → Among more i) → (xs : List GroundLiteral) → AllByRecursion (Holding P.setting.logic items) xs → AllByRecursion (Holding P.setting.logic more) xs
  path-by items more f [] h = tt
  path-by items more f (x ∷ xs) h = (holding-by items more f x h.0, path-by items more f xs h.1)

  above-by : (done more : List Turn) → ((y : Turn) → Among done y → Among more y) → (c : Spot) → IsAboveDone done c → IsAboveDone more c
  above-by done more g c h z own p v = elim (h z own p v) [ inl r ↦ inl (r.0, r.1, g r.0 r.2) | inr e ↦ inr e ]

  -- a task stays one on a longer branch
  pub task-more : (b e : Branch) (k : Task) → ((i : Item) → Among b.items i → Among e.items i) → ((y : Turn) → Among b.done y → Among e.done y) → IsTask b k → IsTask e k
  task-more b e k f g h = record {
    before = h.before;
    gives = h.gives;
    stood = h.stood;
    parent = h.parent;
    ends = h.ends;
    turns = h.turns;
    stands = f (item k.spot k.sign k.formula) h.stands;
    path = path-by b.items e.items f k.path h.path;
    above = above-by b.done e.done g k.spot h.above;
  }

  -- ---- its turn

  pub task_turn : (b : Branch) (k : Task) → IsTask b k → Opened P t d (number_of names) k.path k.share.turns k.ends k.spot k.sign k.formula
  task_turn b k h = opened P t d (number_of names) k.path h.before k.spot k.sign k.formula k.share k.ends h.stood h.parent h.gives h.ends

  first-turn : (path : List GroundLiteral) (y : Turn) (ts : List Turn) (es : List End) (c : Spot) (s : Sign) (f : Formula) (m : Made) → Next P t d path y ts es c s f m → Among ts y
  first-turn path y ts es c s f m (lands x e one shape same z end holds) = subst (λ us. Among us y) (sym same) (inl refl)
  first-turn path y ts es c s f m (goes us g r h one shape same lower stands) = subst (λ vs. Among vs y) (sym same) (inl refl)
  first-turn path y ts es c s f m (forks n us vs a i j q r g h both shape placed same first second) = subst (λ ws. Among ws y) (sym same) (inl refl)

  pub turn-of_task : (b : Branch) (k : Task) (h : IsTask b k) → TurnOf P t (task_turn b k h).here
  turn-of_task b k h = let o = task_turn b k h in h.turns o.here (first-turn k.path o.here k.share.turns k.ends k.spot k.sign k.formula (made (number_of names) P.setting.logic k.spot k.sign k.formula o.own) o.next)

  first_is : (path : List GroundLiteral) (y : Turn) (ts : List Turn) (es : List End) (c : Spot) (s : Sign) (f : Formula) (m : Made) → Next P t d path y ts es c s f m → (us : List Turn) × (ts ≡ y ∷ us)
  first_is path y ts es c s f m (lands x e one shape same z end holds) = ([], same)
  first_is path y ts es c s f m (goes us g r h one shape same lower stands) = (us, same)
  first_is path y ts es c s f m (forks n us vs a i j q r g h both shape placed same first second) = (us ++ vs, same)

  -- it is the first of the task's turns
  pub turn-first : (b : Branch) (k : Task) (h : IsTask b k) → (us : List Turn) × (k.share.turns ≡ (task_turn b k h).here ∷ us)
  turn-first b k h = let o = task_turn b k h in first_is k.path o.here k.share.turns k.ends k.spot k.sign k.formula (made (number_of names) P.setting.logic k.spot k.sign k.formula o.own) o.next

  -- it works on the task's signed formula
  pub turn-works_on : (b : Branch) (k : Task) (h : IsTask b k) → WorksOn P t names (task_turn b k h).here (item k.spot k.sign k.formula) (task_turn b k h).own
  turn-works_on b k h = let o = task_turn b k h in (refl, o.position, o.values)

  -- its parent is done, or it has none
  pub turn-parent : (b : Branch) (k : Task) (h : IsTask b k) → ((y : Turn) × IsParent P y (task_turn b k h).here × Among b.done y) ⊎ (parent_position P (task_turn b k h).here.position ≡ None)
  turn-parent b k h = let o = task_turn b k h in h.above o.here o.own (sym o.position) o.values

  -- ---- where its turn is done

  -- what is below the turn, where it stands and the turn is done
  pub part-task : (b : Branch) (k : Task) (h : IsTask b k) (y : Turn) → Among b.done y → (ts : List Turn) (es : List End) (c : Spot) (s : Sign) (f : Formula) → ((z : Turn) → Among ts z → Among k.share.turns z) → Has b.items c s f → IsBelowOf P t d k.path y ts es c s f → (j : Task) × IsTask b j × (j.path ≡ k.path) × (j.ends ≡ es) × (length j.share.turns ≡ length ts) × (j.share.turns ≡ ts)
  part-task b k h y done ts es c s f inside stands (below x before gives stood parent turns ends above) = (
    (record { spot = c; sign = s; formula = f; share = x; ends = es; path = k.path }),
    record {
      before = before;
      gives = gives;
      stood = stood;
      parent = parent;
      ends = ends;
      turns = λ z m. h.turns z (inside z (subst (λ us. Among us z) turns m));
      stands = stands;
      path = h.path;
      above = λ z own p v. inl (y, above z own p v, done);
    },
    refl,
    refl,
    ap length turns,
    turns,
  )

  -- ---- where its turn forks the branch

  -- two parts of a task, on the two branches of a fork: they cost no more than the task, and weigh less
  pub record Forked (b e : Branch) (k : Task) : Type 0 where
    pub first : Task
    pub second : Task
    pub first_task : IsTask b first
    pub second_task : IsTask e second
    pub cost : task_cost first + task_cost second ≤ task_cost k
    pub weight : task_weight P first + task_weight P second < task_weight P k
