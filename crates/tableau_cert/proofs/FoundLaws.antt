-- What is found of an instance by the summary of the walk through it, and moves with their instances.
use Rattle.std.proofs.Common.{◌≡◌, ℕ, ◌+◌, ◌<◌, ◌≤◌, List, [], ◌∷◌, ◌++◌, length, map, take, drop, get_or, Bool, true, false, ◌&&◌, Some, None, Ok, Err, refl, sym, ◌∙◌, ap, subst, arith, if◌then◌else◌}
use Rattle.std.specs.List.{list_all, AllByRecursion}
use Rattle.std.proofs.lemmas.List.{drop_all, map-append, take_all, take_more}
use Rattle.plain_laws.proofs.Places.{items-next}
use Rattle.calculus.specs.declared.fault.TableauFault.TheVariants as fault
use Rattle.calculus.specs.ComputedInstances.{modal_steps}
use Rattle.calculus.specs.Skolem.{is_admitted_value}
use Rattle.calculus.specs.Syntax.{Problem}
use Rattle.calculus.specs.TableauText.{Chosen, Move, reduction, extension, Moves, literals_of, bare, bare_instances}
use Rattle.calculus.specs.Tableaux.{total_steps}
use Rattle.formula_core.specs.GroundLists.{GroundList, IsGrown, AreNormalValues, no_list}
use Rattle.formula_core.proofs.GrownLaws.{values-grown}
use Rattle.tableau_core.specs.Walks.{capped}
use Rattle.tableau_core.specs.Numbered.InstanceView.{the_instance}
use Rattle.tableau_core.specs.declared.instance.ClauseInstance as numbered
use Rattle.tableau_cert.proofs.ResolvingLaws.{all-steps, by-summary, literals-none, steps-next, steps-none}
use Rattle.tableau_cert.proofs.SteppingLaws.{grown-none, literals-grown, literals-normal-grown, values-normal-grown}
use Rattle.tableau_cert.specs.Gathering.{AreNormalLiterals, Summary}
use Rattle.tableau_text.specs.MovesView.{the_move}
use Rattle.tableau_cert.specs.Resolving.{by_extension, closer_of, IsCloser, IsFound, IsNormalCloser, IsNormalOutcome, move_steps, moves_steps, the_closer, the_outcome, told_of, with_literals}
use Rattle.tableau_text.specs.declared.moves.Move as stated
use Rattle.tableau_cert.specs.declared.resolving.Found as found
use Rattle.tableau_cert.specs.declared.resolving.Outcome as outcome
use Rattle.tableau_cert.specs.declared.resolving.Outcome.TheVariants.{NoInstance, NotAllowed, Instance}
use Rattle.tableau_cert.specs.declared.resolving.Closer as program
use Rattle.tableau_cert.specs.declared.resolving.Closer.TheVariants.{Reduction, Extension}

-- ---- one instance

module _ (P : Problem) (given before after : List GroundList) (c : Chosen) (f : found.Found) (g : IsGrown before after) where
  none-found : f.outcome ≡ NoInstance → f.steps ≡ 0 → literals_of P c ≡ Err fault.NoInstance → 0 ≡ capped (modal_steps P (bare c)) → IsFound P given before after c f
  none-found o n l s = record { outcome = ap (the_outcome after) o ∙ sym (ap (with_literals c) l); steps = n ∙ s; normal = subst (IsNormalOutcome after) (sym o) refl; grown = g }

  pub found-unknown : list_all (is_admitted_value P) c.values ≡ false → f.outcome ≡ NoInstance → f.steps ≡ 0 → IsFound P given before after c f
  found-unknown a o n = none-found o n (literals-none P c a) (steps-none P c a)

  pub found-stopped : list_all (is_admitted_value P) c.values ≡ true → None ≡ told_of P c → f.outcome ≡ NoInstance → f.steps ≡ 0 → IsFound P given before after c f
  found-stopped a e o n = let t = by-summary P c None a e in none-found o n (sym t.0) t.1

module _ (P : Problem) (c : Chosen) (s : Summary) (a : list_all (is_admitted_value P) c.values ≡ true) (e : Some s ≡ told_of P c) where
  used : (b : Bool) → s.used_up ≡ b → literals_of P c ≡ (if b then (if s.allowed then Ok s.literals else Err fault.NotAllowed) else Err fault.NoInstance)
  used b u = sym (by-summary P c (Some s) a e).0 ∙ ap (λ x. if x then (if s.allowed then Ok s.literals else Err fault.NotAllowed) else Err fault.NoInstance) u

  counted : (b : Bool) → s.used_up ≡ b → (if b then s.steps else 0) ≡ capped (modal_steps P (bare c))
  counted b u = sym (ap (λ x. if x then s.steps else 0) u) ∙ (by-summary P c (Some s) a e).1

module _ (P : Problem) (given before after : List GroundList) (c : Chosen) (f : found.Found) (g : IsGrown before after) (s : Summary) (a : list_all (is_admitted_value P) c.values ≡ true) (e : Some s ≡ told_of P c) where
  pub found-left_over : s.used_up ≡ false → f.outcome ≡ NoInstance → f.steps ≡ 0 → IsFound P given before after c f
  found-left_over u o n = none-found P given before after c f g o n (used P c s a e false u) (counted P c s a e false u)

  pub found-not_allowed : s.used_up ≡ true → s.allowed ≡ false → f.outcome ≡ NotAllowed → f.steps ≡ s.steps → IsFound P given before after c f
  found-not_allowed u b o n = record {
    outcome = ap (the_outcome after) o ∙ sym (ap (with_literals c) (used P c s a e true u ∙ ap (λ x. if x then Ok s.literals else Err fault.NotAllowed) b));
    steps = n ∙ counted P c s a e true u;
    normal = subst (IsNormalOutcome after) (sym o) refl;
    grown = g;
  }

  pub found-allowed : (i : numbered.ClauseInstance) → s.used_up ≡ true → s.allowed ≡ true → f.outcome ≡ Instance i → f.steps ≡ s.steps → the_instance after i ≡ record { selection = c.sides; values = c.values; literals = s.literals } → AreNormalValues after i.values → AreNormalLiterals after i.literals → IsFound P given before after c f
  found-allowed i u b o n w v l = record {
    outcome = ap (the_outcome after) o ∙ ap Ok w ∙ sym (ap (with_literals c) (used P c s a e true u ∙ ap (λ x. if x then Ok s.literals else Err fault.NotAllowed) b));
    steps = n ∙ counted P c s a e true u;
    normal = subst (IsNormalOutcome after) (sym o) (v, l);
    grown = g;
  }

-- ---- one move

pub closer-reduced : (P : Problem) (ls : List GroundList) (m : Move) (k : ℕ) (x : program.Closer) (n : ℕ) → length ls ≤ no_list → m ≡ reduction k → x ≡ Reduction k → n ≡ 0 → IsCloser P ls ls m x n
closer-reduced P ls m k x n h e q z = record {
  closer = ap (the_closer ls) q ∙ sym (ap (closer_of P) e);
  steps = z ∙ sym (ap (λ y. capped (move_steps P y)) e);
  normal = subst (IsNormalCloser ls) (sym q) refl;
  grown = grown-none ls h;
}

pub closer-found : (P : Problem) (given before after : List GroundList) (m : Move) (place : ℕ) (c : Chosen) (f : found.Found) (x : program.Closer) (n : ℕ) → m ≡ extension place c → x ≡ Extension place f.outcome → n ≡ f.steps → IsFound P given before after c f → IsCloser P before after m x n
closer-found P given before after m place c f x n e q z k = record {
  closer = ap (the_closer after) q ∙ ap (by_extension place) k.outcome ∙ sym (ap (closer_of P) e);
  steps = z ∙ k.steps ∙ sym (ap (λ y. capped (move_steps P y)) e);
  normal = subst (IsNormalCloser after) (sym q) k.normal;
  grown = k.grown;
}

-- ---- instances stay when the table grows

module _ (a b : List GroundList) (g : IsGrown a b) where
  pub outcome-grown : (o : outcome.Outcome) → IsNormalOutcome a o → the_outcome b o ≡ the_outcome a o
  outcome-grown NoInstance n = refl
  outcome-grown NotAllowed n = refl
  outcome-grown (Instance i) n = ap Ok (λ k. record { selection = i.selection; values = values-grown a b g i.values n.0 k; literals = literals-grown a b g i.literals n.1 k })

  pub outcome-normal-grown : (o : outcome.Outcome) → IsNormalOutcome a o → IsNormalOutcome b o
  outcome-normal-grown NoInstance n = refl
  outcome-normal-grown NotAllowed n = refl
  outcome-normal-grown (Instance i) n = (values-normal-grown a b g i.values n.0, literals-normal-grown a b g i.literals n.1)

  closer-grown : (c : program.Closer) → IsNormalCloser a c → the_closer b c ≡ the_closer a c
  closer-grown (Reduction up) n = refl
  closer-grown (Extension place o) n = ap (by_extension place) (outcome-grown o n)

  closer-normal-grown : (c : program.Closer) → IsNormalCloser a c → IsNormalCloser b c
  closer-normal-grown (Reduction up) n = refl
  closer-normal-grown (Extension place o) n = outcome-normal-grown o n

  closers-grown : (cs : List program.Closer) → AllByRecursion (IsNormalCloser a) cs → map (the_closer b) cs ≡ map (the_closer a) cs
  closers-grown [] n = refl
  closers-grown (c ∷ cs) n = λ i. closer-grown c n.0 i ∷ closers-grown cs n.1 i

  closers-more : (cs : List program.Closer) (c : program.Closer) → AllByRecursion (IsNormalCloser a) cs → IsNormalCloser b c → AllByRecursion (IsNormalCloser b) (cs ++ c ∷ [])
  closers-more [] c n h = (h, tt)
  closers-more (x ∷ cs) c n h = (closer-normal-grown x n.0, closers-more cs c n.1 h)

-- ---- the loop over the moves

pub moves-view : (P : Problem) (mt : List GroundList) (items : List stated.Move) → map (λ m. closer_of P (the_move mt m)) items ≡ map (closer_of P) (map (the_move mt) items)
moves-view P mt [] = refl
moves-view P mt (m ∷ ms) = ap (λ cs. closer_of P (the_move mt m) ∷ cs) (moves-view P mt ms)

module _ (P : Problem) (mt before after : List GroundList) (items : List stated.Move) (i : ℕ) (x d : stated.Move) (l : i < length items) (q : x ≡ get_or items i d) where
  pub closers-next : (cs more : List program.Closer) (c : program.Closer) → IsGrown before after → map (the_closer before) cs ≡ map (closer_of P) (map (the_move mt) (take i items)) → AllByRecursion (IsNormalCloser before) cs → more ≡ cs ++ c ∷ [] → the_closer after c ≡ closer_of P (the_move mt x) → map (the_closer after) more ≡ map (closer_of P) (map (the_move mt) (take (i + 1) items))
  closers-next cs more c g h n e k =
      ap (map (the_closer after)) e
      ∙ map-append (the_closer after) cs (c ∷ [])
      ∙ (λ j. (closers-grown before after g cs n ∙ h) j ++ (k ∙ ap (λ y. closer_of P (the_move mt y)) q) j ∷ [])
      ∙ sym (map-append (closer_of P) (map (the_move mt) (take i items)) (the_move mt (get_or items i d) ∷ []))
      ∙ ap (map (closer_of P)) (sym (map-append (the_move mt) (take i items) (get_or items i d ∷ [])) ∙ sym (ap (map (the_move mt)) (take_more items i d l)))

module _ (P : Problem) (mt : List GroundList) (items : List stated.Move) (i : ℕ) (x d : stated.Move) (l : i < length items) (q : x ≡ get_or items i d) where
  pub steps-so_far : (steps more new v : ℕ) → capped (steps + moves_steps P (map (the_move mt) (drop i items))) ≡ v → new ≡ capped (steps + more) → more ≡ capped (move_steps P (the_move mt x)) → capped (new + moves_steps P (map (the_move mt) (drop (i + 1) items))) ≡ v
  steps-so_far steps more new v h n e =
      let rest = moves_steps P (map (the_move mt) (drop (i + 1) items)) in
      ap (λ k. capped (k + rest)) n
      ∙ steps-next steps (move_steps P (the_move mt x)) more rest e
      ∙ sym (ap (λ xs. capped (steps + moves_steps P (map (the_move mt) xs))) (items-next items i x d l q))
      ∙ h

pub closers-kept : (before after : List GroundList) (cs more : List program.Closer) (c : program.Closer) → IsGrown before after → AllByRecursion (IsNormalCloser before) cs → more ≡ cs ++ c ∷ [] → IsNormalCloser after c → AllByRecursion (IsNormalCloser after) more
closers-kept before after cs more c g n e k = subst (AllByRecursion (IsNormalCloser after)) (sym e) (closers-more before after g cs c n k)

pub steps-whole : (n m : ℕ) → n ≡ capped m → n < 18446744073709551616
steps-whole n m e = omega (arith, e)

-- the steps of the start's instance and those of the moves are the steps of all
pub steps-begin : (P : Problem) (x : Moves) (n : ℕ) → n ≡ capped (modal_steps P (bare x.start)) → capped (n + moves_steps P x.moves) ≡ capped (total_steps P (bare_instances x))
steps-begin P x n e = by (modal_steps P (bare x.start)) (moves_steps P x.moves) (total_steps P (bare_instances x)) e (all-steps P x)
  where
    by : (m rest t : ℕ) → n ≡ capped m → t ≡ m + rest → capped (n + rest) ≡ capped t
    by m rest t e g = omega (arith, e, g)

pub steps-end : (P : Problem) (mt : List GroundList) (items : List stated.Move) (i steps v : ℕ) → capped (steps + moves_steps P (map (the_move mt) (drop i items))) ≡ capped v → length items ≤ i → steps < 18446744073709551616 → steps ≡ capped v
steps-end P mt items i steps v h l s = by steps v (sym (ap (λ xs. capped (steps + moves_steps P (map (the_move mt) xs))) (drop_all i items l)) ∙ h) s
  where
    by : (n t : ℕ) → capped (n + 0) ≡ capped t → n < 18446744073709551616 → n ≡ capped t
    by n t e h = omega (arith, e, h)

pub closers-end : (P : Problem) (mt ls : List GroundList) (items : List stated.Move) (i : ℕ) (cs : List program.Closer) → map (the_closer ls) cs ≡ map (closer_of P) (map (the_move mt) (take i items)) → length items ≤ i → map (the_closer ls) cs ≡ map (closer_of P) (map (the_move mt) items)
closers-end P mt ls items i cs h l = h ∙ ap (λ xs. map (closer_of P) (map (the_move mt) xs)) (take_all i items l)

-- ---- the tests of all strings

pub all-next : {X Y : Type 0} (p : Y → Bool) (f : X → Y) (xs : List X) (i : ℕ) (x d : X) (v : Bool) → list_all p (map f (drop i xs)) ≡ v → i < length xs → x ≡ get_or xs i d → p (f x) ≡ true → list_all p (map f (drop (i + 1) xs)) ≡ v
all-next p f xs i x d v h l e t = sym (ap (λ ys. list_all p (map f ys)) (items-next xs i x d l e) ∙ by (p (f x)) (list_all p (map f (drop (i + 1) xs))) t) ∙ h
  where
    by : (a b : Bool) → a ≡ true → (a && b) ≡ b
    by true b t = refl
    by false b t = cc

pub all-stops : {X Y : Type 0} (p : Y → Bool) (f : X → Y) (xs : List X) (i : ℕ) (x d : X) (v : Bool) → list_all p (map f (drop i xs)) ≡ v → i < length xs → x ≡ get_or xs i d → p (f x) ≡ false → false ≡ v
all-stops p f xs i x d v h l e t = sym (by (p (f x)) (list_all p (map f (drop (i + 1) xs))) t) ∙ sym (ap (λ ys. list_all p (map f ys)) (items-next xs i x d l e)) ∙ h
  where
    by : (a b : Bool) → a ≡ false → (a && b) ≡ false
    by false b t = refl
    by true b t = cc

pub all-ends : {X Y : Type 0} (p : Y → Bool) (f : X → Y) (xs : List X) (i : ℕ) (v : Bool) → list_all p (map f (drop i xs)) ≡ v → length xs ≤ i → true ≡ v
all-ends p f xs i v h l = sym (ap (λ ys. list_all p (map f ys)) (drop_all i xs l)) ∙ h

-- a test of two parts by its first part
pub first-stops : (r a b : Bool) → r ≡ a → r ≡ false → false ≡ (a && b)
first-stops r a b e h = ap (λ x. x && b) (sym h ∙ e)

pub first-goes : (r a b v : Bool) → r ≡ a → r ≡ true → v ≡ b → v ≡ (a && b)
first-goes r a b v e h k = k ∙ ap (λ x. x && b) (sym h ∙ e)
