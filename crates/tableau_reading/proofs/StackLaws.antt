-- The closings of a tree's goals, which are read off from the last choice to the first one, have the choices of its steps.
use Rattle.std.proofs.Common.{◌≡◌, ◌+◌, ◌-◌, ◌<◌, ◌≤◌, ℕ, zero, suc, List, [], ◌∷◌, ◌++◌, drop, length, map, refl, sym, ◌∙◌, ap, ap₂, subst, Option, None, Some, option_map, slice_get, arith, append_assoc, append-nil}
use Rattle.std.specs.List.{AllByRecursion}
use Rattle.std.proofs.lemmas.List.{length-append, map-append}
use Rattle.plain_laws.proofs.Places.{drop-there}
use Rattle.plain_laws.proofs.Options.{then-some}
use Rattle.calculus.specs.Choices.{Choice, Growth, GroundChoice, choices_below, choices_of, choices_of_all, extension, grow, grow_at, growth_of, after_start, ground_choices, reduction, start}
use Rattle.calculus.specs.Lists.{closings_tree}
use Rattle.calculus.specs.Syntax.{Problem}
use Rattle.calculus.specs.declared.sign.Side.{Side}
use Rattle.formula_core.specs.GroundLists.{GroundList}
use Rattle.store_theory.specs.Stores.{Solution, Store}
use Rattle.search_theory.specs.Matrix.{MatrixClause}
use Rattle.search_theory.specs.OrderedChoices.{selection_of}
use Rattle.search_theory.specs.States.{State, choice_at, clause_at, growth_at, name_of}
use Rattle.tableau_core.specs.Numbered.ClosingView.{the_closing, closing_in, closings_in}
use Rattle.tableau_core.specs.Numbered.Closings as numbered
use Rattle.tableau_core.specs.Numbered.TableauView.{the_tableau}
use Rattle.tableau_core.specs.declared.closing.Closing.{Closing}
use Rattle.tableau_core.specs.declared.closing.Closing.TheVariants as program
use Rattle.tableau_core.specs.declared.instance.ClauseInstance.{ClauseInstance}
use Rattle.tableau_core.specs.declared.tableau.Tableau.{Tableau}
use Rattle.tableau_reading.specs.Listing.{names_of}
use Rattle.tableau_reading.specs.Reading.{IsInner, IsStarted, IsStartedBy, closing_names, closings_names, names_in, stacked, stacked_names, stacked_on}
use Rattle.search_tree.specs.Running.{StandsFor}
use Rattle.search_tree.specs.Trees.{clause_with, the_step, tree_system}
use Rattle.search_tree.specs.declared.tree.Copied.{Copied}
use Rattle.search_tree.specs.declared.tree.Goal.{Goal}
use Rattle.search_tree.specs.declared.tree.Step.{Step}
use Rattle.search_tree.specs.declared.tree.Step.TheVariants.{Start, Reduce, Extend}
use Rattle.search_tree.proofs.RunningLaws.{running-ground}

-- ---- the stack

pub stacked-push : (items : List Closing) (others : List numbered.Closing) (c : Closing) → stacked_on (items ++ c ∷ []) others ≡ the_closing c ∷ stacked_on items others
stacked-push [] others c = refl
stacked-push (x ∷ items) others c = stacked-push items (the_closing x ∷ others) c

pub stacked-more : (items before : List Closing) (c : Closing) → items ≡ before ++ c ∷ [] → stacked items ≡ the_closing c ∷ stacked before
stacked-more items before c e = ap stacked e ∙ stacked-push before [] c

pub taken-first : (before : List Closing) (cs : List numbered.Closing) → cs ≡ [] → (stacked before ≡ cs ++ stacked before) × (length before ≤ length before - 0)
taken-first before cs e = (ap (λ xs. xs ++ stacked before) (sym e), omega arith)

-- one closing more is taken
pub taken-more : (before now rest : List Closing) (c : Closing) (cs : List numbered.Closing) → now ≡ rest ++ c ∷ [] → stacked before ≡ cs ++ stacked now → stacked before ≡ (cs ++ the_closing c ∷ []) ++ stacked rest
taken-more before now rest c cs e h = h ∙ ap (λ xs. cs ++ xs) (stacked-more now rest c e) ∙ sym (append_assoc cs (the_closing c ∷ []) (stacked rest))

pub fewer-more : (now rest : List Closing) (c : Closing) (n i : ℕ) → now ≡ rest ++ c ∷ [] → length now ≤ n - i → length rest ≤ n - (i + 1)
fewer-more now rest c n i e l = let q : length now ≡ length rest + 1 = ap length e ∙ length-append rest (c ∷ []) in omega (arith, q, l)

names-append : (xs ys : List numbered.Closing) → names_in (xs ++ ys) ≡ names_in xs ++ names_in ys
names-append [] ys = refl
names-append (x ∷ xs) ys = ap (λ zs. closing_names x ++ zs) (names-append xs ys) ∙ sym (append_assoc (closing_names x) (names_in xs) (names_in ys))

names-tree : (cs : List numbered.Closing) → closings_names (numbered.closings_tree cs) ≡ names_in cs
names-tree [] = refl
names-tree (c ∷ cs) = ap (λ zs. closing_names c ++ zs) (names-tree cs)

pub names-reduce : (items before : List Closing) (up : ℕ) → items ≡ before ++ program.Reduce up ∷ [] → stacked_names items ≡ reduction up ∷ stacked_names before
names-reduce items before up e = ap names_in (stacked-more items before (program.Reduce up) e)

pub names-extend : (m : List MatrixClause) (items mid before : List Closing) (i : ClauseInstance) (clause place : ℕ) (cs : List numbered.Closing) → items ≡ mid ++ program.Extend i place cs ∷ [] → stacked before ≡ cs ++ stacked mid → i.selection ≡ selection_of (slice_get m clause) → stacked_names items ≡ extension (selection_of (slice_get m clause)) place ∷ stacked_names before
names-extend m items mid before i clause place cs e h s =
    ap names_in (stacked-more items mid (program.Extend i place cs) e)
    ∙ ap₂ (λ (x : Choice) ys. x ∷ ys) (ap (λ ss. extension ss place) s) (ap (λ xs. xs ++ stacked_names mid) (names-tree cs) ∙ sym (names-append cs (stacked mid)) ∙ ap names_in (sym h))

-- ---- the steps behind a step

-- the names of the steps from k on, where so many were read
abbrev pub AreBehind : List MatrixClause → List Step → ℕ → List Choice → List Choice → Type 0
AreBehind m steps passed behind names = (k : ℕ) → k + passed ≡ length steps → names ≡ names_of m (drop k steps) ++ behind

pub behind-none : (m : List MatrixClause) (steps : List Step) (names : List Choice) → AreBehind m steps 0 names names
behind-none m steps names k e = ap (λ xs. names_of m xs ++ names) (sym (drop-all steps k (omega (arith, e))))
  where
    drop-all : (xs : List Step) (n : ℕ) → n ≡ length xs → drop n xs ≡ []
    drop-all [] zero l = refl
    drop-all [] (suc n) l = absurd (omega (arith, l))
    drop-all (x ∷ xs) zero l = absurd (omega (arith, l))
    drop-all (x ∷ xs) (suc n) l = drop-all xs n (omega (arith, l))

pub behind-next : (m : List MatrixClause) (steps : List Step) (passed k : ℕ) (step : Step) (behind old new : List Choice) → slice_get steps k ≡ Some step → k + (passed + 1) ≡ length steps → AreBehind m steps passed behind old → new ≡ name_of (the_step m step) ∷ old → AreBehind m steps (passed + 1) behind new
behind-next m steps passed k step behind old new at e h next j f =
    let same : j ≡ k = omega (arith, e, f) in
    let before : old ≡ names_of m (drop (suc k) steps) ++ behind = h (suc k) (omega (arith, e)) in
    next ∙ ap (λ xs. name_of (the_step m step) ∷ xs) before ∙ ap (λ xs. names_of m xs ++ behind) (sym (drop-there steps k step at)) ∙ ap (λ n. names_of m (drop n steps) ++ behind) (sym same)

pub behind-all : (m : List MatrixClause) (steps : List Step) (passed : ℕ) (behind names : List Choice) → length steps ≤ passed → passed ≤ length steps → AreBehind m steps passed behind names → names ≡ names_of m steps ++ behind
behind-all m steps passed behind names l k h = h 0 (omega (arith, l, k))

-- ---- a tableau

mutual
  closing-names : (ls : List GroundList) (c : numbered.Closing) → choices_of (choices_below (closing_in ls c)) ≡ closing_names c
  closing-names ls (numbered.reduce up) = refl
  closing-names ls (numbered.extend i place below) = ap (λ xs. extension i.selection place ∷ xs) (closings-names ls below)

  closings-names : (ls : List GroundList) (cs : numbered.Closings) → choices_of (choices_of_all (closings_in ls cs)) ≡ closings_names cs
  closings-names ls numbered.no_closings = refl
  closings-names ls (numbered.more_closings c cs) = map-append _ (choices_below (closing_in ls c)) (choices_of_all (closings_in ls cs)) ∙ ap₂ (λ xs ys. xs ++ ys) (closing-names ls c) (closings-names ls cs)

goals-names : (ls : List GroundList) (cs : List numbered.Closing) → choices_of (choices_of_all (closings_tree (map (closing_in ls) cs))) ≡ names_in cs
goals-names ls [] = refl
goals-names ls (c ∷ cs) = map-append _ (choices_below (closing_in ls c)) (choices_of_all (closings_tree (map (closing_in ls) cs))) ∙ ap₂ (λ xs ys. xs ++ ys) (closing-names ls c) (goals-names ls cs)

-- its start is that of the first step, and its goals are closed by the others
pub whole-names : (m : List MatrixClause) (steps others : List Step) (c : Copied) (t : Tableau) (first before after : List Closing) (count : ℕ) → IsStartedBy steps c others → t.start.selection ≡ selection_of (slice_get m c.clause.0) → first ≡ [] → stacked_names before ≡ names_of m others ++ stacked_names first → stacked before ≡ t.goals ++ stacked after → length after ≤ length before - count → count ≡ length before → choices_of (ground_choices (the_tableau t)) ≡ names_of m steps
whole-names m steps others c t first before after count e s none names taken fewer all =
    ap₂ (λ ss xs. start ss ∷ xs) s
    (goals-names t.table t.goals ∙ ap names_in (sym (append-nil t.goals) ∙ ap (λ xs. t.goals ++ xs) (sym (ap stacked (nothing after (omega (arith, fewer, all))))) ∙ sym taken) ∙ names ∙ ap (λ xs. names_of m others ++ stacked_names xs) none ∙ append-nil (names_of m others))
    ∙ sym (ap (names_of m) e)
  where
    nothing : (xs : List Closing) → length xs ≤ 0 → xs ≡ []
    nothing [] l = refl
    nothing (x ∷ xs) l = absurd (omega (arith, l))

pub started-parts : (P : Step → Type 0) (steps others : List Step) (c : Copied) → IsStartedBy steps c others → AllByRecursion P steps → P (Start c) × AllByRecursion P others
started-parts P steps others c e h = subst (AllByRecursion P) e h

pub started-inner : (steps others : List Step) (c : Copied) → IsStartedBy steps c others → IsStarted steps → AllByRecursion IsInner others
started-inner steps others c e h = subst IsStarted e h

-- ---- the steps of a state

grown-inner : (P : Problem) (m : List MatrixClause) (σ : Solution) (steps : List Step) (x y : Growth) → grow P (map (choice_at σ) (map (the_step m) steps)) x ≡ Some y → AllByRecursion IsInner steps
grown-inner P m σ [] x y e = tt
grown-inner P m σ (Start c ∷ steps) x y e = let z : None ≡ Some y = e in cc z
grown-inner P m σ (Reduce goal up ancestor ∷ steps) x y e = let (z, first, rest) = then-some (grow P (map (choice_at σ) (map (the_step m) steps))) (grow_at P (reduction up) x.open_goals x) y e in (tt, grown-inner P m σ steps z y rest)
grown-inner P m σ (Extend goal c place atom ∷ steps) x y e = let (z, first, rest) = then-some (grow P (map (choice_at σ) (map (the_step m) steps))) (grow_at P (choice_at σ (the_step m (Extend goal c place atom))) x.open_goals x) y e in (tt, grown-inner P m σ steps z y rest)

grown-started : (P : Problem) (m : List MatrixClause) (σ : Solution) (steps : List Step) (y : Growth) → growth_of P (map (choice_at σ) (map (the_step m) steps)) ≡ Some y → IsStarted steps
grown-started P m σ [] y e = cc e
grown-started P m σ (Start c ∷ steps) y e = let (z, first, rest) = then-some (grow P (map (choice_at σ) (map (the_step m) steps))) (after_start P (clause_at σ (clause_with m c c.copy.literals))) y e in grown-inner P m σ steps z y rest
grown-started P m σ (Reduce goal up ancestor ∷ steps) y e = cc e
grown-started P m σ (Extend goal c place atom ∷ steps) y e = cc e

pub stands-started : (P : Problem) (m : List MatrixClause) (base d : ℕ) (c : List Choice) (s : Store) (steps : List Step) (goals : List Goal) (first : Option ℕ) → StandsFor P m base d c s steps goals first → IsStarted steps
stands-started P m base d c s steps goals first (cs, x, at) =
    let S : State = record { store = s; choices = cs; growth = x } in
    let (σ, number, distinct, ground) = running-ground P base d c S (tree_system m steps goals x.all_goals) at.running in
    grown-started P m σ steps (growth_at σ x) (subst (λ xs. growth_of P (map (choice_at σ) xs) ≡ Some (growth_at σ x)) (sym at.tree.made) (at.running.state.sound σ ground))

-- what they are named
pub stands-named : (P : Problem) (m : List MatrixClause) (base d : ℕ) (c : List Choice) (s : Store) (steps : List Step) (goals : List Goal) (first : Option ℕ) → StandsFor P m base d c s steps goals first → names_of m steps ≡ c
stands-named P m base d c s steps goals first (cs, x, at) = ap (map name_of) at.tree.made ∙ at.running.state.names
