-- The loop of a converter that a tableau leads. Its state is the steps so far and a stack of open branches, each with the turns ahead of it
-- and the ends of the literals among them. One law for each thing that the loop does.
use Rattle.std.proofs.Common.{◌≡◌, ℕ, zero, suc, ◌+◌, ◌≤◌, ◌<◌, arith, List, [], ◌∷◌, ◌++◌, map, length, true, false, IsTrue, Some, Ok, refl, sym, ◌∙◌, ap, subst, slice_get}
use Rattle.std.specs.List.{AllByRecursion}
use Rattle.std.proofs.lemmas.Bool.{false≢true}
use Rattle.calculus.specs.declared.sign.Sign.TheVariants.{F}
use Rattle.calculus.specs.Syntax.{Problem}
use Rattle.calculus.specs.Ground.{Value}
use Rattle.calculus.specs.Problems.{formula_fits}
use Rattle.calculus.specs.Instances.{root_spot, Turn, ClauseInstance}
use Rattle.calculus.specs.Derivations.{Step, apply_to, close, no_term}
use Rattle.calculus.specs.Calculus.{closed, apply}
use Rattle.calculus.specs.Text.{is_number}
use Rattle.calculus.specs.Tableaux.{Closings, extend, Tableau, is_closed}
use Rattle.conversion_theory.specs.Turns.{Name, turns_of_instance, names_mentioned, names_introduced, has_introduced_names}
use Rattle.conversion_theory.specs.Numbering.{IsNumbering, number_of, name_lines_of}
use Rattle.conversion_theory.specs.Branches.{Item, item, entries_of, Made, rests, grows, splits, made}
use Rattle.conversion_theory.specs.Leading.{End, by_closing, closes_at_once, ends_of, ends_at, end_cost, ends_cost, ends_weight}
use Rattle.calculus.proofs.Members.{Among}
use Rattle.conversion_theory.proofs.AgendaLaws.{TurnOf}
use Rattle.conversion_theory.proofs.BranchLaws.{Known, IsComplete}
use Rattle.conversion_theory.proofs.EndLaws.{Axiom, axiom-of_pair}
use Rattle.conversion_theory.proofs.ShortLaws.{mentions-none, introduced-is}
use Rattle.conversion_theory.proofs.RunLaws.{Branch, branch, WorksOn, IsGood, IsRunning, run-closed}
use Rattle.conversion_theory.proofs.TaskLaws.{IsEnd, cost-extension, weight-extension}
use Rattle.conversion_theory.proofs.LedLaws.{CanCome, AreLeft}
use Rattle.conversion_theory.proofs.SegmentLaws.{Leads, Literals}
use Rattle.conversion_theory.proofs.LeadLaws.{Led, led, branches_of, IsKept, IsLed, LedGoes, led-made, led-skipped}
use Rattle.conversion_theory.proofs.LeadEnds.{led-start, end-pair, end-extends}

-- an open branch, the turns ahead, and the ends of the literals among them
pub record Way : Type 0 where
  pub branch : Branch
  pub turns : List Turn
  pub ends : List End

abbrev pub way : Branch → List Turn → List End → Way
way b ts es = record { branch = b; turns = ts; ends = es }

abbrev pub branches_ahead : List Way → List Branch
branches_ahead os = map (λ (o : Way). o.branch) os

-- the axioms that may still come
abbrev pub ways_cost : List Way → ℕ
ways_cost [] = 0
ways_cost (o ∷ os) = ends_cost o.ends + ways_cost os

abbrev pub way_weight : Problem → Way → ℕ
way_weight P o = length o.turns + ends_weight P o.ends

module _ (P : Problem) (d : ℕ) (t : Tableau) (names : List Name) where
  pub record IsKeptWay (o : Way) : Type 0 where
    pub leads : Leads P d t names o.branch o.turns o.ends
    pub left : AreLeft P t names o.branch
    pub complete : IsComplete P t o.branch.done

  -- the invariant
  pub record IsLeading (steps : List Step) (os : List Way) : Type 0 where
    pub run : IsRunning P t names steps (branches_ahead os)
    pub kept : AllByRecursion IsKeptWay os

  -- after the turn x on the item at the place n of the first branch: what is ahead stays
  abbrev pub WayGoes : List Step → Branch → List Turn → List End → List Way → Turn → ℕ → Made → Type 0
  WayGoes steps b ts es os x n rests = IsLeading steps (way (branch b.items (b.done ++ x ∷ [])) ts es ∷ os)
  WayGoes steps b ts es os x n (grows m u added) = IsLeading (steps ++ apply_to (suc n) m u ∷ []) (way (branch (b.items ++ added) (b.done ++ x ∷ [])) ts es ∷ os)
  WayGoes steps b ts es os x n (splits m i j) = IsLeading (steps ++ apply_to (suc n) m no_term ∷ []) (way (branch (b.items ++ i ∷ []) (b.done ++ x ∷ [])) ts es ∷ way (branch (b.items ++ j ∷ []) (b.done ++ x ∷ [])) ts es ∷ os)

  -- ---- tasks of the open branches

  abbrev tasks : (os : List Way) → AllByRecursion IsKeptWay os → List Led
  tasks [] h = []
  tasks (o ∷ os) h = led o.branch h.0.leads.task ∷ tasks os h.1

  tasks-branches : (os : List Way) (h : AllByRecursion IsKeptWay os) → branches_of (tasks os h) ≡ branches_ahead os
  tasks-branches [] h = refl
  tasks-branches (o ∷ os) h = ap (λ bs. o.branch ∷ bs) (tasks-branches os h.1)

  tasks-kept : (os : List Way) (h : AllByRecursion IsKeptWay os) → AllByRecursion (IsKept P d t names) (tasks os h)
  tasks-kept [] h = tt
  tasks-kept (o ∷ os) h = (record { task = h.0.leads.right; left = h.0.left; complete = h.0.complete }, tasks-kept os h.1)

  to_led : (steps : List Step) (b : Branch) (ts : List Turn) (es : List End) (os : List Way) (h : IsLeading steps (way b ts es ∷ os)) → IsLed P d t names steps (led b h.kept.0.leads.task ∷ tasks os h.kept.1)
  to_led steps b ts es os h = record { run = subst (λ bs. IsRunning P t names steps (b ∷ bs)) (sym (tasks-branches os h.kept.1)) h.run; kept = tasks-kept (way b ts es ∷ os) h.kept }

  kept_way : (q : Led) (ts : List Turn) (es : List End) → q.task.share.turns ≡ ts → q.task.ends ≡ es → IsKept P d t names q → IsKeptWay (way q.branch ts es)
  kept_way q ts es turns ends h = record { leads = record { task = q.task; right = h.task; turns = turns; ends = ends }; left = h.left; complete = h.complete }

  -- ---- what is ahead changes

  pub leading-one : (steps : List Step) (b : Branch) (ts us : List Turn) (es zs : List End) (os : List Way) → IsLeading steps (way b ts es ∷ os) → Leads P d t names b us zs → IsLeading steps (way b us zs ∷ os)
  leading-one steps b ts us es zs os h l = record { run = h.run; kept = (record { leads = l; left = h.kept.0.left; complete = h.kept.0.complete }, h.kept.1) }

  pub leading-two : (steps : List Step) (b c : Branch) (ts us vs ws : List Turn) (es zs xs ys : List End) (os : List Way) → IsLeading steps (way b ts es ∷ way c us zs ∷ os) → Leads P d t names b vs xs → Leads P d t names c ws ys → IsLeading steps (way b vs xs ∷ way c ws ys ∷ os)
  leading-two steps b c ts us vs ws es zs xs ys os h l m = record { run = h.run; kept = (record { leads = l; left = h.kept.0.left; complete = h.kept.0.complete }, (record { leads = m; left = h.kept.1.0.left; complete = h.kept.1.0.complete }, h.kept.1.1)) }

  -- an axiom, at any time
  pub leading-closed : (steps : List Step) (b : Branch) (ts : List Turn) (es : List End) (os : List Way) → IsLeading steps (way b ts es ∷ os) → (given shown : ℕ) → apply P (name_lines_of (number_of names) P names) (entries_of (number_of names) b.items) (close given shown) ≡ Ok closed → is_number given ≡ true → is_number shown ≡ true → IsLeading (steps ++ close given shown ∷ []) os
  leading-closed steps b ts es os h given shown e g s = record { run = run-closed P t names steps b (branches_ahead os) h.run given shown e g s; kept = h.kept.1 }

  module _ (shut : IsTrue (is_closed P d t)) (numbering : IsNumbering P t names) (long : IsTrue (is_number (length names))) where
    -- the start
    pub leading-start : IsTrue (formula_fits P.setting.logic P.symbols 0 P.formula) → IsLeading [] (way (branch (item root_spot F P.formula ∷ []) []) (turns_of_instance P t.start) (ends_of t.goals) ∷ [])
    leading-start fit = let s = led-start P d t names shut numbering long fit in record { run = s.led.run; kept = (kept_way (led (branch (item root_spot F P.formula ∷ []) []) s.task) (turns_of_instance P t.start) (ends_of t.goals) s.turns s.ends s.led.kept.0, tt) }

    -- a turn that can come, ahead or not, is made
    pub leading-made : (steps : List Step) (b : Branch) (ts : List Turn) (es : List End) (os : List Way) → IsLeading steps (way b ts es ∷ os) → (x : Turn) → CanCome P t b.done x → (n : ℕ) (i : Item) → slice_get b.items n ≡ Some i → is_number (suc n) ≡ true → (own : List Value) → WorksOn P t names x i own → WayGoes steps b ts es os x n (made (number_of names) P.setting.logic i.spot i.sign i.formula own)
    leading-made steps b ts es os h x come n i at number own works = after (made (number_of names) P.setting.logic i.spot i.sign i.formula own) (led-made P d t names shut numbering long steps b h.kept.0.leads.task (tasks os h.kept.1) (to_led steps b ts es os h) x come n i at number own works)
      where
        after : (m : Made) → LedGoes P d t names steps b h.kept.0.leads.task (tasks os h.kept.1) x n m → WayGoes steps b ts es os x n m
        after rests g = record {
          run = subst (λ bs. IsRunning P t names steps (branch b.items (b.done ++ x ∷ []) ∷ bs)) (tasks-branches os h.kept.1) g.run;
          kept = (kept_way (led (branch b.items (b.done ++ x ∷ [])) h.kept.0.leads.task) ts es h.kept.0.leads.turns h.kept.0.leads.ends g.kept.0, h.kept.1);
        }
        after (grows m u added) g = record {
          run = subst (λ bs. IsRunning P t names (steps ++ apply_to (suc n) m u ∷ []) (branch (b.items ++ added) (b.done ++ x ∷ []) ∷ bs)) (tasks-branches os h.kept.1) g.run;
          kept = (kept_way (led (branch (b.items ++ added) (b.done ++ x ∷ [])) h.kept.0.leads.task) ts es h.kept.0.leads.turns h.kept.0.leads.ends g.kept.0, h.kept.1);
        }
        after (splits m p q) g = record {
          run = subst (λ bs. IsRunning P t names (steps ++ apply_to (suc n) m no_term ∷ []) (branch (b.items ++ p ∷ []) (b.done ++ x ∷ []) ∷ branch (b.items ++ q ∷ []) (b.done ++ x ∷ []) ∷ bs)) (tasks-branches os h.kept.1) g.run;
          kept = (kept_way (led (branch (b.items ++ p ∷ []) (b.done ++ x ∷ [])) h.kept.0.leads.task) ts es h.kept.0.leads.turns h.kept.0.leads.ends g.kept.0, (kept_way (led (branch (b.items ++ q ∷ []) (b.done ++ x ∷ [])) h.kept.0.leads.task) ts es h.kept.0.leads.turns h.kept.0.leads.ends g.kept.1.0, h.kept.1));
        }

    -- a turn that can come works on no item of the branch
    pub leading-skipped : (steps : List Step) (b : Branch) (ts : List Turn) (es : List End) (os : List Way) → IsLeading steps (way b ts es ∷ os) → (x : Turn) → CanCome P t b.done x → ((i : Item) → Among b.items i → (own : List Value) → WorksOn P t names x i own → ⊥) → IsLeading steps (way (branch b.items (b.done ++ x ∷ [])) ts es ∷ os)
    leading-skipped steps b ts es os h x come none =
        let g = led-skipped P d t names shut numbering long steps b h.kept.0.leads.task (tasks os h.kept.1) (to_led steps b ts es os h) x come none in
        record {
          run = subst (λ bs. IsRunning P t names steps (branch b.items (b.done ++ x ∷ []) ∷ bs)) (tasks-branches os h.kept.1) g.run;
          kept = (kept_way (led (branch b.items (b.done ++ x ∷ [])) h.kept.0.leads.task) ts es h.kept.0.leads.turns h.kept.0.leads.ends g.kept.0, h.kept.1);
        }

    -- ---- at a literal

    module _ (b : Branch) (good : IsGood P t names b) (y : Turn) (us : List Turn) (es : List End) (l : Leads P d t names b (y ∷ us) es) (left : AreLeft P t names b) (done : Among b.done y) (i : Item) (there : Among b.items i) (own : List Value) (works : WorksOn P t names y i own) (at : Literals P d t names b good y us es l left done i there own works) where
      -- a complementary literal stands on the branch
      pub literal-axiom : closes_at_once at.end ≡ true → Axiom P (name_lines_of (number_of names) P names) (entries_of (number_of names) b.items)
      literal-axiom once = axiom-of_pair P (name_lines_of (number_of names) P names) b.done (number_of names) (Known P b.done) b.items good.branch.each (end-pair P d t names shut numbering long b l.task l.right at.literal at.holds at.end once at.right)

      -- the turns of the next instance are ahead
      pub literal-extends : (j : ClauseInstance) (place : ℕ) (below : Closings) → at.end ≡ by_closing (extend j place below) → Leads P d t names b (turns_of_instance P j) (ends_at place below)
      literal-extends j place below e =
          let next = end-extends P d t names shut numbering long b l.task l.right good at.literal at.holds j place below (subst (IsEnd P t d l.task.path at.literal) e at.right) in
          record { task = next.0; right = next.1; turns = next.2; ends = next.3 }

  -- ---- the count: no action that follows raises what may still come

  -- where no name is introduced, no turn waits for one that introduces
  pub none-awaited : IsTrue (is_closed P d t) → has_introduced_names t ≡ false → (x z : Turn) → TurnOf P t x → (n : Name) → Among (names_mentioned P x) n → Among (names_introduced P z) n → ⊥
  none-awaited shut none x z here n m i = false≢true (sym (mentions-none P d t shut none x here n m) ∙ introduced-is P z n i)

pub extension-cost : (i : ClauseInstance) (place : ℕ) (below : Closings) → ends_cost (ends_at place below) ≤ end_cost (by_closing (extend i place below))
extension-cost i place below = cost-extension place below

pub extension-weight : (P : Problem) (i : ClauseInstance) (place : ℕ) (below : Closings) → length (turns_of_instance P i) + ends_weight P (ends_at place below) < 1 + ends_weight P (by_closing (extend i place below) ∷ [])
extension-weight P i place below = let w = weight-extension P place below in omega arith

-- ---- the measure, where turns that are not ahead are made too

-- r turns are not done on the branch, and no more than w turns and ends are ahead
abbrev pub room_for : ℕ → ℕ → ℕ
room_for w zero = suc w
room_for w (suc r) = room_for w r + room_for w r + room_for w r

pub room-large : (w r : ℕ) → w < room_for w r
room-large w zero = omega arith
room-large w (suc r) = let h = room-large w r in omega arith

-- a turn is made or skipped: even two branches have a lower measure than one had
pub measure-made : (w r ahead : ℕ) → ahead ≤ w → (room_for w r + ahead) + (room_for w r + ahead) < room_for w (suc r) + ahead
measure-made w r ahead le = let h = room-large w r in omega arith
