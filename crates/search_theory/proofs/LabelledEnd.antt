-- The end of a list of choices in the logics with labels: what solving its system gives, and the steps that it takes.
use Rattle.std.proofs.Common.{suc, ◌≡◌, ℕ, ◌+◌, ◌≤◌, List, [], ◌∷◌, ◌++◌, length, map, Bool, true, false, ◌||◌, IsTrue, refl, sym, ◌∙◌, ap, Some, slice_get, arith, length-append}
use Rattle.std.specs.List.{list_all, AllByRecursion}
use Rattle.std.specs.Ordering.{ordering_then, ordering_reverse}
use Rattle.std.specs.Cmp.{tied_itself, nat_cmp_total}
use Rattle.std.specs.declared.cmp.Ordering.{Ordering}
use Rattle.std.specs.declared.cmp.Ordering.TheVariants.{Less, Equal, Greater}
use Rattle.plain_laws.proofs.Every.{all-at, all-weaken}
use Rattle.calculus.specs.declared.setting.Logic.{Logic}
use Rattle.calculus.specs.Syntax.{Problem}
use Rattle.calculus.specs.Instances.{GammaUse}
use Rattle.calculus.specs.Tableaux.{Tableau, is_closed, instances}
use Rattle.calculus.specs.Choices.{start, reduction, extension, Choice, choices_of, ground_choices, choices_cmp, IsLive}
use Rattle.calculus.specs.Counting.{IsRising, AtLeastMany}
use Rattle.calculus.specs.Space.{Member, with_choices, with_lengths, member_cmp, member_of, IsEarly, lengths_cmp, has_labels, string_lengths}
use Rattle.store_theory.specs.Stores.{Cell, Store, has_sort_at, has_value_sort_at, is_store, has_sort, Solution, Solves, GammaCell, AreOwnSpares}
use Rattle.calculus.specs.declared.sort.Sort.TheVariants.{TermSort, StringSort}
use Rattle.store_theory.specs.Systems.{System, is_gamma_cell, AllAllowed, AreTried, HasSolution, IsBoundedSolution, OwnSparesSolve, AreEarly}
use Rattle.calculus.proofs.OrderLaws.{choices_cmp_total, choices_cmp-IsAntisymmetric, lengths_cmp_total}
use Rattle.store_theory.specs.Templates.{is_choice_of_values}
use Rattle.search_theory.specs.States.{CellClause, CellChoice, State, values_by, choice_at, IsAdmittedAt, IsGround, IsStateOf}
use Rattle.search_theory.specs.Exploring.{IsMemberAt, Explores}
use Rattle.search_theory.specs.LabelledCells.{AreLabelled}
use Rattle.search_theory.specs.StateSystems.{IsTreeOf, IsSystemOf}
use Rattle.search_theory.specs.Solving.{IsClosedSet}
use Rattle.search_theory.proofs.SpareLaws.{IsRanked, cell-sorted, or-both}
use Rattle.search_theory.specs.CellsIn.{IsPart, IsChoiceIn, IsClauseIn}
use Rattle.search_theory.proofs.BuildingLaws.{solved-sorted}
use Rattle.search_theory.proofs.ClosedLaws.{IsTableauOf}
use Rattle.search_theory.proofs.ExploreLaws.{rising-front, rising-join, first-not-after, early-first}
use Rattle.search_theory.proofs.EarlyLaws.{all-early, steps-ended}
use Rattle.search_theory.proofs.AdmittedLaws.{IsGood, good-cells, good-choice, own-good}
use Rattle.search_theory.proofs.SystemLaws.{closed-by_solution, solution-by_closed}

-- ---- a ground solution of the state

clause-admitted : (P : Problem) (In : ℕ → Type 0) (s : Store) (σ : Solution) → Solves s σ → ((r : ℕ) (c : Cell) → In r → slice_get s.cells r ≡ Some c → IsGood P (σ r)) → (i : CellClause) → IsClauseIn In s i → IsTrue (is_choice_of_values P (values_by σ i.values))
clause-admitted P In s σ t good i h = good-choice P σ i.values
    (all-weaken (has_value_sort_at s) (λ k. has_sort TermSort (σ k) || has_sort StringSort (σ k)) (λ k q. or-both (has_sort_at s TermSort k) (has_sort_at s StringSort k) (has_sort TermSort (σ k)) (has_sort StringSort (σ k)) (solved-sorted s σ t TermSort k) (solved-sorted s σ t StringSort k) q) i.values h.sorted)
    (λ k p. (let d = there k (all-at (has_value_sort_at s) i.values p.0 k h.sorted p.1) in good k d.0 (h.names k p) d.1))
  where
    there : (k : ℕ) → IsTrue (has_value_sort_at s k) → (d : Cell) × (slice_get s.cells k ≡ Some d)
    there k c = by (has_sort_at s TermSort k) refl c
      where
        by : (b : Bool) → has_sort_at s TermSort k ≡ b → IsTrue (b || has_sort_at s StringSort k) → (d : Cell) × (slice_get s.cells k ≡ Some d)
        by true e x = let t = cell-sorted s TermSort k e in (t.0, t.1)
        by false e x = let t = cell-sorted s StringSort k x in (t.0, t.1)

-- where each cell of In has a good value, each copied clause is an instance
pub admitted-good : (P : Problem) (In : ℕ → Type 0) (s : Store) (σ : Solution) → Solves s σ → ((r : ℕ) (c : Cell) → In r → slice_get s.cells r ≡ Some c → IsGood P (σ r)) → (cs : List CellChoice) → AllByRecursion (IsChoiceIn In s) cs → AllByRecursion (IsAdmittedAt P σ) cs
admitted-good P In s σ t good [] h = tt
admitted-good P In s σ t good (start i ∷ cs) h = (clause-admitted P In s σ t good i h.0, admitted-good P In s σ t good cs h.1)
admitted-good P In s σ t good (reduction up ∷ cs) h = (tt, admitted-good P In s σ t good cs h.1)
admitted-good P In s σ t good (extension i place ∷ cs) h = (clause-admitted P In s σ t good i h.0, admitted-good P In s σ t good cs h.1)

-- ---- found

-- the store after solving, for a state: cells are built right, no string of In is unbound, and the system and the clauses name cells of In
pub record IsSolvedFor (P : Problem) (In : ℕ → Type 0) (S : State) (y : System) (new : Store) (rank : ℕ → ℕ) (bound : ℕ) : Type 0 where
  pub store : IsTrue (is_store new)
  pub ranked : IsRanked new rank bound
  pub labelled : AreLabelled P In new
  pub closed : IsClosedSet In new
  pub back : (σ : Solution) → Solves new σ → Solves S.store σ
  pub gammas : IsTrue (list_all (is_gamma_cell new) y.gammas)
  pub labels : (j k : ℕ) (g : GammaCell) → slice_get y.gammas j ≡ Some g → IsPart k g.label → In k
  pub choices : AllByRecursion (IsChoiceIn In new) S.choices

bounded-back : (l : Logic) (Demanded : List GammaUse → Type 0) (old new : Store) (y : System) (ns : List ℕ) (σ : Solution) → Solves old σ → IsBoundedSolution l Demanded new y ns σ → IsBoundedSolution l Demanded old y ns σ
bounded-back l Demanded old new y ns σ t b = record {
  solution = record { solves = t; equal = b.solution.equal; steps = b.solution.steps; demanded = b.solution.demanded; apart = b.solution.apart };
  tried = b.tried;
  lengths = b.lengths;
}

-- own spares give a closed tableau with the state's list, and its strings have the lengths that were found
pub closed-by_found : (b : Bool) (P : Problem) (d : ℕ) (c : List Choice) (S : State) (y : System) (In : ℕ → Type 0) (new : Store) (rank : ℕ → ℕ) (bound : ℕ) → IsTreeOf P d c S → IsSystemOf P S y → S.growth.open_goals ≡ [] → IsSolvedFor P In S y new rank bound → OwnSparesSolve b P.setting.logic (AllAllowed P) new y → (σ : Solution) × AreOwnSpares b new y.gammas σ (λ v. v) × IsTableauOf P d (map (choice_at σ) S.choices)
closed-by_found b P d c S y In new rank bound h k o solved (σ, spares, (ns, bounded)) =
    let good = good-cells P In new rank bound σ solved.store solved.ranked solved.labelled spares.solves (own-good b P In new y.gammas σ (λ v. v) solved.closed.no_open_string solved.gammas solved.labels spares) in
    let back = solved.back σ spares.solves in
    let ground : IsGround P S σ = record { solves = back; admitted = admitted-good P In new σ spares.solves good S.choices solved.choices } in
    (σ, spares, (closed-by_solution P d c S y ns σ h k o ground (bounded-back P.setting.logic (AllAllowed P) S.store new y ns σ back bounded)).0)

-- ---- steps

-- each tableau closed with the list p gives a solution of the system, with the lengths of its strings
abbrev pub SolvesClosed : Problem → ℕ → List Choice → State → System → Type 0
SolvesClosed P d p S y = (t : Tableau) → IsTrue (is_closed P d t) → choices_of (ground_choices t) ≡ p → HasSolution P.setting.logic (AllAllowed P) S.store y (string_lengths (instances t))

-- as behind a state
pub solves-by_state : (P : Problem) (d : ℕ) (p : List Choice) (S : State) (y : System) → IsTrue (has_labels P.setting.logic) → IsStateOf P d p S → IsSystemOf P S y → SolvesClosed P d p S y
solves-by_state P d p S y labels h k t c names = let s = solution-by_closed P d p S y t labels h k c names in (s.0, s.3)

-- a list of lengths after no list that has a solution is early, where its list of choices is the first pending one
pub lengths-early : (P : Problem) (d : ℕ) (spent : List Member) (p : List Choice) (ps : List (List Choice)) (S : State) (y : System) (ns : List ℕ) → Explores P d spent (p ∷ ps) → IsTrue (has_labels P.setting.logic) → SolvesClosed P d p S y → IsMemberAt P d (with_lengths d p ns) → AreEarly P.setting.logic (AllAllowed P) S.store y ns → IsEarly P d (with_lengths d p ns)
lengths-early P d spent p ps S y ns h labels k member early = record {
  member = member.member;
  limit = refl;
  before = λ t c g. by t c (choices_cmp p (choices_of (ground_choices t))) refl (sym (against t) ∙ g);
}
  where
    against : (t : Tableau) → member_cmp (with_lengths d p ns) (member_of P d t) ≡ ordering_then (choices_cmp p (choices_of (ground_choices t))) (lengths_cmp ns (string_lengths (instances t)))
    against t = rw labels (ap (λ o. ordering_then o (ordering_then (choices_cmp p (choices_of (ground_choices t))) (lengths_cmp ns (string_lengths (instances t))))) (tied_itself nat_cmp_total d))

    by : (t : Tableau) → IsTrue (is_closed P d t) → (o : Ordering) → choices_cmp p (choices_of (ground_choices t)) ≡ o → ordering_then (choices_cmp p (choices_of (ground_choices t))) (lengths_cmp ns (string_lengths (instances t))) ≡ Greater → ⊥
    by t c Less e g = let z : Less ≡ Greater = sym (ap (λ o. ordering_then o (lengths_cmp ns (string_lengths (instances t)))) e) ∙ g in cc z
    by t c Greater e g = first-not-after p ps (choices_of (ground_choices t)) h.parted (h.covers (choices_of (ground_choices t)) (t, c, refl)) e
    by t c Equal e g =
        let same : p ≡ choices_of (ground_choices t) = choices_cmp-IsAntisymmetric p (choices_of (ground_choices t)) e in
        let z : lengths_cmp ns (string_lengths (instances t)) ≡ Greater = sym (ap (λ o. ordering_then o (lengths_cmp ns (string_lengths (instances t)))) e) ∙ g in
        early.before (string_lengths (instances t)) (k t c (sym same)) z

-- the steps of the list and of the lists of lengths tried so far rise behind those spent
pub rising-lengths : (d : ℕ) (spent : List Member) (p : List Choice) (tried : List (List ℕ)) → IsRising member_cmp (spent ++ with_choices d p ∷ []) → IsRising lengths_cmp tried → IsRising member_cmp (spent ++ with_choices d p ∷ map (with_lengths d p) tried)
rising-lengths d spent p tried h r = rising-join member_cmp spent (with_choices d p) (map (with_lengths d p) tried) h (first tried r)
  where
    same-list : (ms ns : List ℕ) → member_cmp (with_lengths d p ms) (with_lengths d p ns) ≡ lengths_cmp ms ns
    same-list ms ns = ap (λ o. ordering_then o (ordering_then (choices_cmp p p) (lengths_cmp ms ns))) (tied_itself nat_cmp_total d) ∙ ap (λ o. ordering_then o (lengths_cmp ms ns)) (tied_itself choices_cmp_total p)

    list-first : (ns : List ℕ) → member_cmp (with_choices d p) (with_lengths d p ns) ≡ Less
    list-first ns = ap (λ o. ordering_then o (ordering_then (choices_cmp p p) Less)) (tied_itself nat_cmp_total d) ∙ ap (λ o. ordering_then o Less) (tied_itself choices_cmp_total p)

    later : (ns : List ℕ) (nss : List (List ℕ)) → IsRising lengths_cmp (ns ∷ nss) → IsRising member_cmp (with_lengths d p ns ∷ map (with_lengths d p) nss)
    later ns [] a = tt
    later ns (ms ∷ nss) a = (same-list ns ms ∙ a.0, later ms nss a.1)

    first : (nss : List (List ℕ)) → IsRising lengths_cmp nss → IsRising member_cmp (with_choices d p ∷ map (with_lengths d p) nss)
    first [] a = tt
    first (ns ∷ nss) a = (list-first ns, later ns nss a)

-- while a system is solved: so many early members
pub solving-many : (P : Problem) (d : ℕ) (spent : List Member) (p : List Choice) (ps : List (List Choice)) (S : State) (y : System) (tried : List (List ℕ)) → Explores P d spent (p ∷ ps) → 1 ≤ d → IsLive P d p → IsTrue (has_labels P.setting.logic) → SolvesClosed P d p S y → IsRising lengths_cmp tried → AllByRecursion (λ ns. IsMemberAt P d (with_lengths d p ns)) tried → AllByRecursion (AreEarly P.setting.logic (AllAllowed P) S.store y) tried → AtLeastMany member_cmp (IsEarly P d) (length spent + suc (length tried))
solving-many P d spent p ps S y tried h from live labels k rising members early =
    let front = rising-front member_cmp spent (with_choices d p) (map (with_choices d) ps) h.rising in
    let ended = steps-ended P d spent p ps h from live in (
      spent ++ with_choices d p ∷ map (with_lengths d p) tried,
      record {
        rising = rising-lengths d spent p tried front rising;
        members = join spent (with_choices d p ∷ map (with_lengths d p) tried) (all-early P d spent (p ∷ ps) h) (first, each tried members early);
      },
      (let a = length-append spent (with_choices d p ∷ map (with_lengths d p) tried) in let b = length-of tried in omega (arith, a, b)),
    )
  where
    first : IsEarly P d (with_choices d p)
    first = early-first P d spent p ps h from live

    join : (xs ys : List Member) → AllByRecursion (IsEarly P d) xs → AllByRecursion (IsEarly P d) ys → AllByRecursion (IsEarly P d) (xs ++ ys)
    join [] ys a b = b
    join (x ∷ xs) ys a b = (a.0, join xs ys a.1 b)

    each : (nss : List (List ℕ)) → AllByRecursion (λ ns. IsMemberAt P d (with_lengths d p ns)) nss → AllByRecursion (AreEarly P.setting.logic (AllAllowed P) S.store y) nss → AllByRecursion (IsEarly P d) (map (with_lengths d p) nss)
    each [] a b = tt
    each (ns ∷ nss) a b = (lengths-early P d spent p ps S y ns h labels k a.0 b.0, each nss a.1 b.1)

    length-of : (nss : List (List ℕ)) → length (map (with_lengths d p) nss) ≡ length nss
    length-of [] = refl
    length-of (ns ∷ nss) = ap suc (length-of nss)

-- a list of lengths is early where no smaller list that is tried has a solution
pub early-by_smaller : (l : Logic) (Demanded : List GammaUse → Type 0) (s : Store) (y : System) (ns : List ℕ) → AreTried l y ns → ((ms : List ℕ) → AreTried l y ms → lengths_cmp ms ns ≡ Less → ¬ HasSolution l Demanded s y ms) → AreEarly l Demanded s y ns
early-by_smaller l Demanded s y ns tried none = record { tried = tried; before = λ ms has g. none ms has.1.tried (flipped ns ms g) has }
  where
    flipped : (ns ms : List ℕ) → lengths_cmp ns ms ≡ Greater → lengths_cmp ms ns ≡ Less
    flipped ns ms g = lengths_cmp_total.antisymm ms ns ∙ ap ordering_reverse g
