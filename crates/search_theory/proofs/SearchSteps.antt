-- The steps of the search's loop keep its invariant, and what they give at the end.
use Rattle.std.proofs.Common.{◌≡◌, ℕ, ◌+◌, ◌≤◌, List, [], ◌∷◌, ◌++◌, length, Bool, true, false, IsTrue, sym, inl, inr}
use Rattle.std.proofs.lemmas.Bool.{false≢true, cases_Bool}
use Rattle.calculus.specs.declared.sign.Side.{Side}
use Rattle.calculus.specs.Syntax.{Problem}
use Rattle.calculus.specs.Tableaux.{HasClosed}
use Rattle.calculus.specs.Choices.{extension, Choice, selection_cmp, IsLive, IsLeft}
use Rattle.calculus.specs.Counting.{IsRising}
use Rattle.calculus.specs.Space.{Member, with_choices}
use Rattle.store_theory.specs.Stores.{Store}
use Rattle.search_theory.specs.States.{CellChoice, CellGoal, IsStateOf}
use Rattle.search_theory.specs.Matrix.{MatrixClause, IsTemplateMatrix}
use Rattle.search_theory.specs.Goals.{IsChoiceAt}
use Rattle.search_theory.specs.OrderedChoices.{choices_at}
use Rattle.search_theory.specs.Exploring.{IsLeftList, behind, IsIn}
use Rattle.search_theory.specs.Searching.{IsSearch}
use Rattle.search_theory.proofs.ExtensionLaws.{state_at}
use Rattle.search_theory.proofs.ExploreLaws.{covers-drop, covers-visit, explore-drop, explore-visit, explored}
use Rattle.search_theory.proofs.BeginningLaws.{no-closed-dead, no-left-dead, dead-regular}
use Rattle.search_theory.specs.DeadEnds.{is_not_empty, IsDead}
use Rattle.search_theory.proofs.NextLaws.{next-choice, covers-closed, covers-left}
use Rattle.search_theory.proofs.ChoiceLaws.{choices-complete, choices-rise}
use Rattle.search_theory.proofs.DeepenLaws.{starting, MayStart, explore-start, left-start, not-left}

true≢false : true ≡ false → ⊥
true≢false e = false≢true (sym e)

-- before the first step
pub search-start : (P : Problem) (d : ℕ) (sss : List (List Side)) → IsRising selection_cmp sss → ((ss : List Side) → MayStart P ss → IsIn ss sss) → IsSearch P d [] (behind [] (starting sss)) false
search-start P d sss r all_in = record { explores = explore-start P d sss r all_in; is_left = λ e. absurd (false≢true e); not_left = λ e. left-start P d sss all_in }

-- the first pending list is a dead end
pub search-dead : (P : Problem) (d : ℕ) (spent : List Member) (p : List Choice) (ps : List (List Choice)) (left : Bool) → IsSearch P d spent (p ∷ ps) left → IsTrue (is_not_empty p) → IsDead P p → IsSearch P d spent ps left
search-dead P d spent p ps left h n dead = record {
  explores = explore-drop P d spent p ps h.explores (no-closed-dead P d p n dead);
  is_left = h.is_left;
  not_left = λ e. covers-drop (IsLeftList P d) p ps (h.not_left e) (no-left-dead P d p n dead);
}

-- the limit is found to be left
pub search-left : (P : Problem) (d : ℕ) (spent : List Member) (pending : List (List Choice)) (left : Bool) → IsSearch P d spent pending left → IsLeft P d → IsSearch P d spent pending true
search-left P d spent pending left h l = record { explores = h.explores; is_left = λ e. l; not_left = λ e. absurd (true≢false e) }

-- a step is spent for the first pending list, which is live and has an open goal. Where the goal's path has as many goals as the limit and
-- the limit is not known to be left, no extension may give a regular tree
pub search-visit : (P : Problem) (m : List MatrixClause) (d : ℕ) (spent : List Member) (p : List Choice) (ps : List (List Choice)) (left : Bool) (s : Store) (cs : List CellChoice) (g : CellGoal) (gs every : List CellGoal) (ds : List ℕ) → IsTemplateMatrix P m → 1 ≤ d → IsSearch P d spent (p ∷ ps) left → IsTrue (is_not_empty p) → IsStateOf P d p (state_at s cs g gs every ds) → IsLive P d p → (left ≡ false → length g.path ≡ d → (sides : List Side) (place : ℕ) → IsChoiceAt P (d + 1) g (extension sides place) → IsDead P (p ++ extension sides place ∷ [])) → IsSearch P d (spent ++ with_choices d p ∷ []) (behind p (choices_at m d g) ++ ps) left
search-visit P m d spent p ps left s cs g gs every ds tm from h n st live none = record {
  explores = explore-visit P d spent p ps (choices_at m d g) h.explores from live (choices-rise P m d g tm) (covers-closed P d p s cs g gs every ds (choices_at m d g) st n (choices-complete P m d g tm));
  is_left = h.is_left;
  not_left = λ e. covers-visit (IsLeftList P d) p ps (behind p (choices_at m d g)) (h.not_left e)
      (covers-left P d p s cs g gs every ds (choices_at m d g) st n (choices-complete P m d g tm)
      (λ deep sides place k. dead-regular P (d + 1) (p ++ extension sides place ∷ []) (none e deep sides place (next-choice P d (d + 1) p s cs g gs every ds st n (extension sides place) k)) k));
}

-- nothing is pending: there is no closed tableau, and `left` is right
pub search-ended : (P : Problem) (d : ℕ) (spent : List Member) (left : Bool) → IsSearch P d spent [] left → (¬ HasClosed P d) × ((left ≡ true → IsLeft P d) × (IsLeft P d → left ≡ true))
search-ended P d spent left h = (explored P d spent h.explores, (h.is_left, λ l. elim (cases_Bool left) [ inl e ↦ e | inr e ↦ absurd (not-left P d (h.not_left e) l) ]))
