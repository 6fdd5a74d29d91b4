-- A led run in the terms of a program: an open branch has the turns that it is to be led along, in the order of the instance, and the ends of
-- the literals among them. The rest of a task is not needed to go on.
use Rattle.std.proofs.Common.{◌≡◌, ◌⊎◌, ℕ, List, [], ◌∷◌, ◌++◌, take, drop, length, true, Some, None, refl, sym, ◌∙◌, ap, subst, inr, slice_get}
use Rattle.std.proofs.lemmas.Bool.{false≢true}
use Rattle.calculus.specs.declared.sign.Sign.{Sign}
use Rattle.calculus.specs.declared.kind.Shape.TheVariants.{Beta, Literal}
use Rattle.calculus.specs.Syntax.{Formula, Problem}
use Rattle.calculus.specs.Ground.{Value, GroundLiteral}
use Rattle.calculus.specs.Kinds.{shape_of}
use Rattle.calculus.specs.Instances.{Spot, Turn}
use Rattle.calculus.specs.Derivations.{ModalArg}
use Rattle.calculus.specs.Tableaux.{Tableau}
use Rattle.conversion_theory.specs.Turns.{Name, IsParent, parent_position}
use Rattle.conversion_theory.specs.Numbering.{number_of}
use Rattle.conversion_theory.specs.Branches.{Item, item, splits, made}
use Rattle.conversion_theory.specs.Leading.{End, literals_among, Task}
use Rattle.calculus.proofs.Members.{Among, among-left, among-right, at-among}
use Rattle.conversion_theory.proofs.AgendaLaws.{TurnOf, Anything, turn-works}
use Rattle.conversion_theory.proofs.WorkLaws.{work-from}
use Rattle.conversion_theory.proofs.BranchLaws.{Holding}
use Rattle.conversion_theory.proofs.MadeLaws.{front_same}
use Rattle.conversion_theory.proofs.RunLaws.{Branch, WorksOn, IsGood}
use Rattle.conversion_theory.proofs.TaskLaws.{IsEnd, length-ends, take-length, drop-length}
use Rattle.conversion_theory.proofs.SpanLaws.{counts}
use Rattle.conversion_theory.proofs.FollowLaws.{AreMade, IsSingle, IsBelowOf, below, has_one_part, ArePlaced, Next, lands, goes, forks}
use Rattle.conversion_theory.proofs.LedLaws.{AreLeft, IsTask, task_turn, turn-of_task, turn-first, turn-works_on, turn-parent, part-task}

module _ (P : Problem) (d : ℕ) (t : Tableau) (names : List Name) where
  -- the branch is to be led along these turns, whose literals have these ends
  pub record Leads (b : Branch) (ts : List Turn) (es : List End) : Type 0 where
    pub task : Task
    pub right : IsTask P d t names b task
    pub turns : task.share.turns ≡ ts
    pub ends : task.ends ≡ es

  leads_by : (b : Branch) (j : Task) (ts : List Turn) (zs es : List End) → IsTask P d t names b j → j.share.turns ≡ ts → j.ends ≡ zs → zs ≡ es → Leads b ts es
  leads_by b j ts zs es right turns ends same = record { task = j; right = right; turns = turns; ends = ends ∙ same }

  -- a turn works on one item
  pub same-item : (b : Branch) → IsGood P t names b → (y : Turn) → TurnOf P t y → (i j : Item) → Among b.items i → Among b.items j → (own mine : List Value) → WorksOn P t names y i own → WorksOn P t names y j mine → i ≡ j
  same-item b good y here i j h g own mine on_i on_j =
      let w = turn-works P t y here in
      let a = (good.branch.each i h).place on_i.0 in
      let c = (good.branch.each j g).place on_j.0 in
      let p = work-from P (TurnOf P t) Anything Anything y w a.0 i.spot i.sign i.formula a.1 (sym on_i.1) own on_i.2 in
      let q = work-from P (TurnOf P t) Anything Anything y w c.0 j.spot j.sign j.formula c.1 (sym on_j.1) mine on_j.2 in
      let spots = p.spots ∙ sym q.spots in
      let signs = p.signs ∙ sym q.signs in
      let formulas = p.formulas ∙ sym q.formulas in
      let pasts = on_i.0 ∙ sym on_j.0 in
      λ k. record { spot = spots k; sign = signs k; formula = formulas k; past = pasts k }

  head_is : (x y : Turn) (us vs : List Turn) → x ∷ us ≡ y ∷ vs → (x ≡ y) × (us ≡ vs)
  head_is x y us vs e = (cc, cc)

  module _ (b : Branch) (good : IsGood P t names b) (y : Turn) (us : List Turn) (es : List End) (l : Leads b (y ∷ us) es) where
    here_is : (task_turn P d t names b l.task l.right).here ≡ y
    here_is = let f = turn-first P d t names b l.task l.right in (head_is (task_turn P d t names b l.task l.right).here y f.0 us (sym f.1 ∙ l.turns)).0

    -- it is a turn of the tableau
    pub leads-turn : TurnOf P t y
    leads-turn = subst (TurnOf P t) here_is (turn-of_task P d t names b l.task l.right)

    -- its parent is done, or it has none
    pub leads-parent : ((z : Turn) × IsParent P z y × Among b.done z) ⊎ (parent_position P y.position ≡ None)
    leads-parent = subst (λ x. ((z : Turn) × IsParent P z x × Among b.done z) ⊎ (parent_position P x.position ≡ None)) here_is (turn-parent P d t names b l.task l.right)

    abbrev task_own : List Value
    task_own = (task_turn P d t names b l.task l.right).own

    task_works : WorksOn P t names y (item l.task.spot l.task.sign l.task.formula) task_own
    task_works = subst (λ x. WorksOn P t names x (item l.task.spot l.task.sign l.task.formula) task_own) here_is (turn-works_on P d t names b l.task l.right)

    -- it works on an item of the branch
    pub leads-item : (n : ℕ) × (i : Item) × (own : List Value) × (slice_get b.items n ≡ Some i) × WorksOn P t names y i own
    leads-item = let at = at-among b.items (item l.task.spot l.task.sign l.task.formula) l.right.stands in (at.0, item l.task.spot l.task.sign l.task.formula, task_own, at.1, task_works)

    -- the item that it works on, where it is done
    module _ (left : AreLeft P t names b) (done : Among b.done y) (i : Item) (there : Among b.items i) (own : List Value) (works : WorksOn P t names y i own) where
      item_is : i ≡ item l.task.spot l.task.sign l.task.formula
      item_is = same-item b good y leads-turn i (item l.task.spot l.task.sign l.task.formula) there l.right.stands own task_own works task_works

      own_is : own ≡ task_own
      own_is = front_same i.spot.taken own task_own (sym works.2 ∙ task_works.2 ∙ ap (λ (j : Item). j.spot.taken ++ task_own) (sym item_is))

      made_is : made (number_of names) P.setting.logic i.spot i.sign i.formula own ≡ made (number_of names) P.setting.logic l.task.spot l.task.sign l.task.formula task_own
      made_is = (λ k. made (number_of names) P.setting.logic (item_is k).spot (item_is k).sign (item_is k).formula (own_is k))

      shape_is : shape_of i.sign i.formula ≡ shape_of l.task.sign l.task.formula
      shape_is = λ k. shape_of (item_is k).sign (item_is k).formula

      stands_made : AreMade b.items (made (number_of names) P.setting.logic l.task.spot l.task.sign l.task.formula task_own)
      stands_made = subst (AreMade b.items) made_is (left y done i there own works)

      abbrev NextHere : Type 0
      NextHere = Next P t d l.task.path y l.task.share.turns l.task.ends l.task.spot l.task.sign l.task.formula (made (number_of names) P.setting.logic l.task.spot l.task.sign l.task.formula task_own)

      next_here : NextHere
      next_here = subst (λ x. Next P t d l.task.path x l.task.share.turns l.task.ends l.task.spot l.task.sign l.task.formula (made (number_of names) P.setting.logic l.task.spot l.task.sign l.task.formula task_own)) here_is (task_turn P d t names b l.task l.right).next

      to_turns : (vs : List Turn) → l.task.share.turns ≡ y ∷ vs → vs ≡ us
      to_turns vs e = (head_is y y vs us (sym e ∙ l.turns)).1

      -- one part
      pub leads-part : has_one_part (shape_of i.sign i.formula) ≡ true → Leads b us es
      leads-part one = by_next next_here
        where
          by_next : NextHere → Leads b us es
          by_next (lands x e single shape same z end holds) = absurd (false≢true (sym (ap has_one_part (shape_is ∙ shape)) ∙ one))
          by_next (goes vs g r h single shape same lower stands) =
              let j = part-task P d t names b l.task l.right y done vs l.task.ends g r h (λ z m. subst (λ ws. Among ws z) (sym same) (inr m)) (stands b.items stands_made) lower in
              leads_by b j.0 us l.task.ends es j.1 (j.5 ∙ to_turns vs same) j.3 l.ends
          by_next (forks n vs ws a p q r s g h both shape placed same first second) = absurd (false≢true (sym (ap has_one_part (shape_is ∙ shape)) ∙ one))

      -- a literal: it has its end, and no turn is left
      pub record Literals : Type 0 where
        pub literal : GroundLiteral
        pub end : End
        pub holds : Holding P.setting.logic b.items literal
        pub right : IsEnd P t d l.task.path literal end
        pub ends : es ≡ end ∷ []
        pub last : us ≡ []

      pub leads-literal : shape_of i.sign i.formula ≡ Literal → Literals
      leads-literal atom_here = by_next next_here
        where
          by_next : NextHere → Literals
          by_next (lands x e single shape same z end holds) = record { literal = x; end = e; holds = holds b.items l.right.stands stands_made; right = end; ends = sym l.ends ∙ z; last = sym (to_turns [] same) }
          by_next (goes vs g r h single shape same lower stands) = absurd (false≢true (sym (ap has_one_part atom_here) ∙ ap has_one_part shape_is ∙ shape))
          by_next (forks n vs ws a p q r s g h both shape placed same first second) = absurd (let e : Literal ≡ Beta = sym atom_here ∙ shape_is ∙ shape in cc)

      -- two parts, of which the branch follows one that stands there: their turns are told apart by their positions, and the first part
      -- has as many ends as turns on atoms
      pub record Parts (p q : Item) : Type 0 where
        pub first : List Turn
        pub second : List Turn
        pub turns : us ≡ first ++ second
        pub placed : ArePlaced q.spot.position first second
        pub to_first : Among b.items p → Leads b first (take (literals_among P first) es)
        pub to_second : Among b.items q → Leads b second (drop (literals_among P first) es)
        pub one_stands : Among b.items p ⊎ Among b.items q

      pub leads-parts : (a : ModalArg) (p q : Item) → made (number_of names) P.setting.logic i.spot i.sign i.formula own ≡ splits a p q → Parts p q
      leads-parts a p q two = by_next next_here
        where
          two_here : made (number_of names) P.setting.logic l.task.spot l.task.sign l.task.formula task_own ≡ splits a p q
          two_here = sym made_is ∙ two

          count : (ts : List Turn) (zs : List End) (c : Spot) (s : Sign) (f : Formula) → IsBelowOf P t d l.task.path y ts zs c s f → length zs ≡ literals_among P ts
          count ts zs c s f (below x before gives stood parent turns ends above) = length-ends P t d l.task.path x.literals zs ends ∙ counts P.setting.logic P refl before c s f x gives stood ∙ ap (literals_among P) turns

          by_next : NextHere → Parts p q
          by_next (lands x e single shape same z end holds) = absurd (subst IsSingle two_here single)
          by_next (goes vs g r h single shape same lower stands) = absurd (subst IsSingle two_here single)
          by_next (forks n vs ws c e k r s g h both shape placed same first second) =
              let whole : splits c (item e r g) (item k s h) ≡ splits a p q = sym both ∙ two_here in
              let first_item : item e r g ≡ p = cc in
              let second_item : item k s h ≡ q = cc in
              let inside_first = λ (z : Turn) (m : Among vs z). subst (λ xs. Among xs z) (sym same) (inr (among-left vs ws z m)) in
              let inside_second = λ (z : Turn) (m : Among ws z). subst (λ xs. Among xs z) (sym same) (inr (among-right vs ws z m)) in
              let many = count vs (take n l.task.ends) e r g first in
              record {
                first = vs;
                second = ws;
                turns = sym (to_turns (vs ++ ws) same);
                placed = subst (λ (z : Item). ArePlaced z.spot.position vs ws) second_item placed;
                to_first = λ m.
                    let j = part-task P d t names b l.task l.right y done vs (take n l.task.ends) e r g inside_first (subst (Among b.items) (sym first_item) m) first in
                    leads_by b j.0 vs (take n l.task.ends) (take (literals_among P vs) es) j.1 j.5 j.3 (take-length n l.task.ends ∙ (λ x. take (many x) (l.ends x)));
                to_second = λ m.
                    let j = part-task P d t names b l.task l.right y done ws (drop n l.task.ends) k s h inside_second (subst (Among b.items) (sym second_item) m) second in
                    leads_by b j.0 ws (drop n l.task.ends) (drop (literals_among P vs) es) j.1 j.5 j.3 (drop-length n l.task.ends ∙ (λ x. drop (many x) (l.ends x)));
                one_stands = subst (AreMade b.items) two_here stands_made;
              }
