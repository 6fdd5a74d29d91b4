-- The two parts of what is ahead of a branch, behind a turn that has two components.
use Rattle.std.proofs.Common.{◌≡◌, ℕ, ◌+◌, List, [], ◌∷◌, ◌++◌, length, take, drop, refl, sym, ◌∙◌, ap, subst, inl, inr}
use Rattle.std.proofs.lemmas.List.{take-map, drop-map}
use Rattle.std.proofs.Math.Seq.{take-append_seam, drop-append_seam}
use Rattle.calculus.specs.declared.sign.Sign.{Sign}
use Rattle.calculus.specs.Syntax.{Formula, Problem}
use Rattle.calculus.specs.Ground.{Value, GroundLiteral}
use Rattle.calculus.specs.Instances.{Spot, Turn}
use Rattle.calculus.specs.Derivations.{ModalArg}
use Rattle.calculus.specs.Tableaux.{Tableau}
use Rattle.conversion_theory.specs.Turns.{Name}
use Rattle.conversion_theory.specs.Numbering.{number_of}
use Rattle.conversion_theory.specs.Branches.{Item, item, Made, splits, made}
use Rattle.conversion_theory.specs.Leading.{End, literals_among, turns_before}
use Rattle.calculus.proofs.Members.{Among, among-left, among-right}
use Rattle.conversion_theory.proofs.AgendaLaws.{TurnOf, Anything, turn-works}
use Rattle.conversion_theory.proofs.WorkLaws.{work-from}
use Rattle.conversion_theory.proofs.RunLaws.{Branch, branch, WorksOn, IsGood}
use Rattle.conversion_theory.proofs.FollowLaws.{ArePlaced, IsBelowOf, below, Next, lands, goes, forks, IsSingle, opened}
use Rattle.conversion_theory.proofs.LedLaws.{AreLeft, task_turn, turn-first, turn-works_on}
use Rattle.conversion_theory.proofs.SegmentLaws.{Leads, leads-parts, leads-turn, same-item}
use Rattle.conversion_theory.proofs.AheadLaws.{before-second}
use Rattle.conversion_theory.proofs.LoopLaws.{split-unique}
use Rattle.conversion_theory.proofs.MadeLaws.{front_same}
use Rattle.sequent_convert.specs.State.{Basis, turn_at, turns_at, first_turns, first_count}

-- ---- the parts by the place where the second begins

module _ (B : Basis) where
  abbrev IsLed : Branch → List Turn → List End → Type 0
  IsLed b ts es = Leads B.problem B.limit B.tableau B.named.names b ts es

  pub take-turns : (n : ℕ) (ks : List ℕ) → turns_at B (take n ks) ≡ take n (turns_at B ks)
  take-turns n ks = sym (take-map (turn_at B) n ks)

  pub drop-turns : (n : ℕ) (ks : List ℕ) → turns_at B (drop n ks) ≡ drop n (turns_at B ks)
  drop-turns n ks = sym (drop-map (turn_at B) n ks)

  -- the parts of a list of turns, where they are told apart by the position
  pub parts-by_position : (p : ℕ) (ks : List ℕ) (us vs : List Turn) → turns_at B ks ≡ us ++ vs → ArePlaced p us vs → (us ≡ turns_at B (first_turns B p ks)) × (vs ≡ turns_at B (drop (turns_before p (turns_at B ks)) ks))
  parts-by_position p ks us vs e placed =
      let many : turns_before p (turns_at B ks) ≡ length us = ap (turns_before p) e ∙ before-second p us vs placed in
      let first : turns_at B (first_turns B p ks) ≡ us = take-turns (turns_before p (turns_at B ks)) ks ∙ (λ i. take (many i) (e i)) ∙ take-append_seam us vs in
      let second : turns_at B (drop (turns_before p (turns_at B ks)) ks) ≡ vs = drop-turns (turns_before p (turns_at B ks)) ks ∙ (λ i. drop (many i) (e i)) ∙ drop-append_seam us vs in
      (sym first, sym second)

  module _ (b : Branch) (good : IsGood B.problem B.tableau B.named.names b) (y : Turn) (ks : List ℕ) (es : List End) (l : IsLed b (y ∷ turns_at B ks) es) (left : AreLeft B.problem B.tableau B.named.names b) (done : Among b.done y) (i : Item) (there : Among b.items i) (own : List Value) (works : WorksOn B.problem B.tableau B.named.names y i own) (a : ModalArg) (p q : Item) (two : made (number_of B.named.names) B.problem.setting.logic i.spot i.sign i.formula own ≡ splits a p q) where
    pub led-first : Among b.items p → IsLed b (turns_at B (first_turns B q.spot.position ks)) (take (first_count B q.spot.position ks) es)
    led-first stands =
        let r = leads-parts B.problem B.limit B.tableau B.named.names b good y (turns_at B ks) es l left done i there own works a p q two in
        let same = parts-by_position q.spot.position ks r.first r.second r.turns r.placed in
        subst (λ us. IsLed b us (take (literals_among B.problem us) es)) same.0 (r.to_first stands)

    pub led-second : Among b.items q → IsLed b (turns_at B (drop (turns_before q.spot.position (turns_at B ks)) ks)) (drop (first_count B q.spot.position ks) es)
    led-second stands =
        let r = leads-parts B.problem B.limit B.tableau B.named.names b good y (turns_at B ks) es l left done i there own works a p q two in
        let same = parts-by_position q.spot.position ks r.first r.second r.turns r.placed in
        subst (λ vs. IsLed b vs (drop (first_count B q.spot.position ks) es)) same.1 (subst (λ us. IsLed b r.second (drop (literals_among B.problem us) es)) same.0 (r.to_second stands))

head_turn : (u v : Turn) (us vs : List Turn) → u ∷ us ≡ v ∷ vs → u ≡ v
head_turn u v us vs q = cc

tail_turn : (u v : Turn) (us vs : List Turn) → u ∷ us ≡ v ∷ vs → us ≡ vs
tail_turn u v us vs q = cc

-- ---- an item that the first turn of a part works on is the component of that part

module _ (P : Problem) (d : ℕ) (t : Tableau) (names : List Name) where
  -- the first turn of what is below works on the component alone
  first_works : (b : Branch) → IsGood P t names b → (path : List GroundLiteral) (y : Turn) (ts : List Turn) (es : List End) (c : Spot) (s : Sign) (f : Formula) → IsBelowOf P t d path y ts es c s f → (z : Turn) (zs : List Turn) → ts ≡ z ∷ zs → TurnOf P t z → (g : Item) (own : List Value) → Among b.items g → WorksOn P t names z g own → g ≡ item c s f
  first_works b good path y ts es c s f (below x before gives stood parent turns ends above) z zs e here g own there works =
      let o = opened P t d (number_of names) path before c s f x es stood parent gives ends in
      let first = first_of o.here x.turns o.next in
      let same : o.here ≡ z = head_of o.here z first.0 zs (sym first.1 ∙ turns ∙ e) in
      let w = turn-works P t z here in
      let place = (good.branch.each g there).place works.0 in
      let there_from = work-from P (TurnOf P t) Anything Anything z w place.0 g.spot g.sign g.formula place.1 (sym works.1) own works.2 in
      let here_from = work-from P (TurnOf P t) Anything Anything z w before c s f stood (sym (o.position ∙ ap (λ (u : Turn). u.position) same)) o.own (sym (ap (λ (u : Turn). u.values) same) ∙ o.values) in
      let spots = there_from.spots ∙ sym here_from.spots in
      let signs = there_from.signs ∙ sym here_from.signs in
      let formulas = there_from.formulas ∙ sym here_from.formulas in
      λ k. record { spot = spots k; sign = signs k; formula = formulas k; past = works.0 k }
    where
      head_of : (u v : Turn) (us vs : List Turn) → u ∷ us ≡ v ∷ vs → u ≡ v
      head_of u v us vs q = cc

      first_of : (u : Turn) (us : List Turn) {es : List End} {c : Spot} {s : Sign} {f : Formula} {m : Made} → Next P t d path u us es c s f m → (rest : List Turn) × (us ≡ u ∷ rest)
      first_of u us (lands x e one shape same k end holds) = ([], same)
      first_of u us (goes rest g r h one shape same lower stands) = (rest, same)
      first_of u us (forks n rest others a i j q r g h both shape placed same one two) = (rest ++ others, same)

  module _ (b : Branch) (good : IsGood P t names b) (y : Turn) (us : List Turn) (es : List End) (l : Leads P d t names b (y ∷ us) es) (i : Item) (there : Among b.items i) (own : List Value) (works : WorksOn P t names y i own) (a : ModalArg) (p q : Item) (two : made (number_of names) P.setting.logic i.spot i.sign i.formula own ≡ splits a p q) (first second : List Turn) (turns : us ≡ first ++ second) (placed : ArePlaced q.spot.position first second) where
    here_is : (task_turn P d t names b l.task l.right).here ≡ y
    here_is = let f = turn-first P d t names b l.task l.right in head_turn (task_turn P d t names b l.task l.right).here y f.0 us (sym f.1 ∙ l.turns)

    abbrev task_own : List Value
    task_own = (task_turn P d t names b l.task l.right).own

    task_works : WorksOn P t names y (item l.task.spot l.task.sign l.task.formula) task_own
    task_works = subst (λ x. WorksOn P t names x (item l.task.spot l.task.sign l.task.formula) task_own) here_is (turn-works_on P d t names b l.task l.right)

    item_is : i ≡ item l.task.spot l.task.sign l.task.formula
    item_is = same-item P d t names b good y (leads-turn P d t names b good y us es l) i (item l.task.spot l.task.sign l.task.formula) there l.right.stands own task_own works task_works

    own_is : own ≡ task_own
    own_is = front_same i.spot.taken own task_own (sym works.2 ∙ task_works.2 ∙ ap (λ (j : Item). j.spot.taken ++ task_own) (sym item_is))

    two_here : made (number_of names) P.setting.logic l.task.spot l.task.sign l.task.formula task_own ≡ splits a p q
    two_here = sym (λ k. made (number_of names) P.setting.logic (item_is k).spot (item_is k).sign (item_is k).formula (own_is k)) ∙ two

    abbrev TaskNext : Type 0
    TaskNext = Next P t d l.task.path (task_turn P d t names b l.task l.right).here l.task.share.turns l.task.ends l.task.spot l.task.sign l.task.formula (made (number_of names) P.setting.logic l.task.spot l.task.sign l.task.formula task_own)

    turn_here : (z : Turn) → Among us z → TurnOf P t z
    turn_here z m = l.right.turns z (subst (λ ts. Among ts z) (sym l.turns) (inr m))

    pub first-is : (z : Turn) (zs : List Turn) → first ≡ z ∷ zs → (g : Item) (mine : List Value) → Among b.items g → WorksOn P t names z g mine → g ≡ p
    first-is z zs e g mine among on = by_next (task_turn P d t names b l.task l.right).next
      where
        by_next : TaskNext → g ≡ p
        by_next (lands x k single shape same w end holds) = absurd (subst IsSingle two_here single)
        by_next (goes ts h r f single shape same lower stands) = absurd (subst IsSingle two_here single)
        by_next (forks n xs ys c i j r w f k both shape put same one two) =
            let whole : splits c (item i r f) (item j w k) ≡ splits a p q = sym both ∙ two_here in
            let is_p : item i r f ≡ p = cc in
            let is_q : item j w k ≡ q = cc in
            let rest : xs ++ ys ≡ first ++ second = tail_turn (task_turn P d t names b l.task l.right).here y (xs ++ ys) us (sym same ∙ l.turns) ∙ turns in
            let unique = split-unique q.spot.position xs first ys second rest (subst (λ (v : Item). ArePlaced v.spot.position xs ys) is_q put) placed in
            first_works b good l.task.path (task_turn P d t names b l.task l.right).here xs (take n l.task.ends) i r f one z zs (unique.0 ∙ e) (turn_here z (subst (λ vs. Among vs z) (sym turns) (among-left first second z (subst (λ vs. Among vs z) (sym e) (inl refl))))) g mine among on ∙ is_p

    pub second-is : (z : Turn) (zs : List Turn) → second ≡ z ∷ zs → (g : Item) (mine : List Value) → Among b.items g → WorksOn P t names z g mine → g ≡ q
    second-is z zs e g mine among on = by_next (task_turn P d t names b l.task l.right).next
      where
        by_next : TaskNext → g ≡ q
        by_next (lands x k single shape same w end holds) = absurd (subst IsSingle two_here single)
        by_next (goes ts h r f single shape same lower stands) = absurd (subst IsSingle two_here single)
        by_next (forks n xs ys c i j r w f k both shape put same one two) =
            let whole : splits c (item i r f) (item j w k) ≡ splits a p q = sym both ∙ two_here in
            let is_q : item j w k ≡ q = cc in
            let rest : xs ++ ys ≡ first ++ second = tail_turn (task_turn P d t names b l.task l.right).here y (xs ++ ys) us (sym same ∙ l.turns) ∙ turns in
            let unique = split-unique q.spot.position xs first ys second rest (subst (λ (v : Item). ArePlaced v.spot.position xs ys) is_q put) placed in
            first_works b good l.task.path (task_turn P d t names b l.task l.right).here ys (drop n l.task.ends) j w k two z zs (unique.1 ∙ e) (turn_here z (subst (λ vs. Among vs z) (sym turns) (among-right first second z (subst (λ vs. Among vs z) (sym e) (inl refl))))) g mine among on ∙ is_q
