-- Behind a state without open goals nothing grows: a closed tableau behind it has just its list, and no tree there shows that the limit is
-- left. So a list whose label equations have no solution is passed over, with the steps of the lists of lengths that were tried.
use Rattle.std.proofs.Common.{◌≡◌, ℕ, ◌≤◌, List, [], ◌∷◌, ◌++◌, map, Bool, false, IsTrue, refl, sym, ◌∙◌, ap, None, append-nil, append_assoc}
use Rattle.std.specs.List.{AllByRecursion}
use Rattle.std.proofs.lemmas.Bool.{false≢true}
use Rattle.plain_laws.proofs.Options.{same-some}
use Rattle.calculus.specs.Syntax.{Problem}
use Rattle.calculus.specs.Choices.{start, reduction, extension, Choice, GroundChoice, choice_of, Growth, growth_of, has_depth, IsLive}
use Rattle.calculus.specs.Counting.{IsRising}
use Rattle.calculus.specs.Space.{Member, with_choices, with_lengths, lengths_cmp}
use Rattle.search_theory.specs.States.{State, goal_at, growth_at, IsStateOf}
use Rattle.search_theory.specs.Exploring.{BeginsWith, IsClosedList, IsLeftList, IsMemberAt}
use Rattle.search_theory.specs.Searching.{IsSearch}
use Rattle.search_theory.proofs.LastChoice.{grow_once, none≢some}
use Rattle.search_theory.specs.DeadEnds.{Grows, is_not_empty}
use Rattle.search_theory.proofs.ExtensionLaws.{LastAt, last-at, is_start}
use Rattle.search_theory.proofs.BeginningLaws.{not-empty-behind, ClosedBeginning, closed-beginning, left-beginning, left-parts}
use Rattle.search_theory.proofs.NextLaws.{not-start, none-deep}
use Rattle.search_theory.proofs.ExploreLaws.{covers-drop}
use Rattle.search_theory.proofs.EarlyLaws.{explore-lengths}

pub none-at : (P : Problem) (c : GroundChoice) (x : Growth) → x.open_goals ≡ [] → grow_once P c x ≡ None
none-at P (start i) x e = refl
none-at P (reduction up) x e = rw e refl
none-at P (extension i place) x e = rw e refl

-- no choice follows
pub nothing-behind : (P : Problem) (d : ℕ) (p : List Choice) (S : State) → IsStateOf P d p S → S.growth.open_goals ≡ [] → IsTrue (is_not_empty p) → (x : Choice) → ¬ Grows P (p ++ x ∷ [])
nothing-behind P d p S h o n x (gs, y, e, g) = by x refl e
  where
    last : (z : Choice) → is_start z ≡ false → LastAt P S gs y z → ⊥
    last z f l = none≢some y (sym (none-at P l.last (growth_at l.solution S.growth) (ap (map (goal_at l.solution)) o)) ∙ l.grown)

    by : (z : Choice) → x ≡ z → map choice_of gs ≡ p ++ z ∷ [] → ⊥
    by (start ss) q k = not-start P p ss gs y n k g
    by (reduction up) q k = last (reduction up) refl (last-at P d p S (reduction up) h refl gs y k g)
    by (extension ss place) q k = last (extension ss place) refl (last-at P d p S (extension ss place) h refl gs y k g)

beginning-grows : (P : Problem) (d : ℕ) (p : List Choice) → ClosedBeginning P d p → Grows P p
beginning-grows P d p k = (k.choices, k.growth, k.names, k.grows)

-- a closed tableau behind the state has its list
pub closed-whole : (P : Problem) (d : ℕ) (p b : List Choice) (S : State) → IsStateOf P d p S → S.growth.open_goals ≡ [] → IsTrue (is_not_empty p) → IsClosedList P d b → BeginsWith p b → b ≡ p
closed-whole P d p b S h o n c ([], e) = e ∙ append-nil p
closed-whole P d p b S h o n c (x ∷ more, e) = absurd (nothing-behind P d p S h o n x (beginning-grows P d (p ++ x ∷ []) (closed-beginning P d (p ++ x ∷ []) b (not-empty-behind p x) c (more, e ∙ sym (append_assoc p (x ∷ []) more)))))

-- no tree behind the state shows that the limit is left
pub left-whole : (P : Problem) (d : ℕ) (p b : List Choice) (S : State) → IsStateOf P d p S → S.growth.open_goals ≡ [] → IsTrue (is_not_empty p) → IsLeftList P d b → ¬ BeginsWith p b
left-whole P d p b S h o n (gs, x, g, l, e) ([], q) =
    let (σ, ground, image) = h.complete gs x (e ∙ q ∙ append-nil p) g in
    let same : x ≡ growth_at σ S.growth = same-some (growth_of P gs) x (growth_at σ S.growth) g (ap (growth_of P) (sym image) ∙ h.sound σ ground) in
    false≢true (sym (none-deep d S.growth.depths h.within) ∙ sym (ap (has_depth d) same) ∙ (left-parts d x l).depth)
left-whole P d p b S h o n c (x ∷ more, e) = nothing-behind P d p S h o n x (beginning-grows P _ (p ++ x ∷ []) (left-beginning P d (p ++ x ∷ []) b (not-empty-behind p x) c (more, e ∙ sym (append_assoc p (x ∷ []) more))))

-- steps are spent for the list and for these lists of lengths, and no tableau is closed with the list
pub search-lengths : (P : Problem) (d : ℕ) (spent : List Member) (p : List Choice) (ps : List (List Choice)) (left : Bool) (S : State) (tried : List (List ℕ)) → IsSearch P d spent (p ∷ ps) left → 1 ≤ d → IsTrue (is_not_empty p) → IsStateOf P d p S → S.growth.open_goals ≡ [] → IsLive P d p → IsRising lengths_cmp tried → AllByRecursion (λ ns. IsMemberAt P d (with_lengths d p ns)) tried → ¬ IsClosedList P d p → IsSearch P d (spent ++ with_choices d p ∷ map (with_lengths d p) tried) ps left
search-lengths P d spent p ps left S tried h from n st o live r members none = record {
  explores = explore-lengths P d spent p ps tried h.explores from live r members (λ b c k. none (closed-list b c (closed-whole P d p b S st o n c k)));
  is_left = h.is_left;
  not_left = λ e. covers-drop (IsLeftList P d) p ps (h.not_left e) (λ b c k. left-whole P d p b S st o n c k);
}
  where
    closed-list : (b : List Choice) → IsClosedList P d b → b ≡ p → IsClosedList P d p
    closed-list b (t, c, e) q = (t, c, e ∙ q)
