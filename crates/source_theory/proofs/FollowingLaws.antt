-- Where the problem of files is true in a structure in which `=` is identity, the conjecture follows from the premises there.
use Rattle.std.proofs.Common.{◌≡◌, List, [], ◌∷◌, ◌++◌, length, Bool, true, false, not, ◌&&◌, IsTrue, refl, sym, ◌∙◌, ap, subst, Option, None, Some, Result, Ok, Err, nat_lt, if◌then◌else◌}
use Rattle.std.specs.List.{list_all, list_any}
use Rattle.std.proofs.lemmas.Bool.{and_from, and_parts}
use Rattle.std.proofs.lemmas.List.Folds.{list_all-append}
use Rattle.calculus.specs.declared.setting.Logic.{Logic}
use Rattle.calculus.specs.Equality.{symbol_eq}
use Rattle.calculus.specs.Measures.{node_count}
use Rattle.calculus.specs.Problems.{is_modal, setting_fits, greatest_nodes, greatest_symbols}
use Rattle.calculus.specs.Syntax.{Symbol, Term, Formula, neg, conj, imp, Setting, Problem}
use Rattle.calculus.specs.Models.{Model, IsWorld, IsIn, IsModel}
use Rattle.cop_base.specs.Outside.{Files}
use Rattle.tptp_reader.specs.Sources.{Name}
use Rattle.problem_build.specs.Refusals.{Refusal, formula_too_large, nesting_too_deep, too_many_symbols}
use Rattle.problem_build.specs.Walk.{Passed, go_on, walk}
use Rattle.problem_build.specs.Balance.{balanced}
use Rattle.problem_build.specs.Expansion.{closed, equality_symbol}
use Rattle.problem_build.specs.EqualityAxioms.{equality_axioms}
use Rattle.problem_build.specs.Building.{are_flat, axioms_of, conjectures, formulas_of, limited, no_formula, premises, premises_of, problem_formula, problem_of, sized, symbols_of, IsExactReader, IsProblemOf}
use Rattle.problem_build.proofs.BalanceLaws.{balanced-balanced}
use Rattle.source_theory.specs.SourceTruth.{AreAlike, IsTrueForAll}
use Rattle.source_theory.specs.Following.{HasIdentity, AllAreTrue, FirstIsTrue, FollowsAt, MeansItems}
use Rattle.source_theory.proofs.TruthLaws.{alike, and-says, lasts-now}
use Rattle.source_theory.proofs.ConnectiveLaws.{IsFor, is_true_in, itself, neg-means, imp-means, conjunction-all}
use Rattle.source_theory.proofs.SourceLaws.{closed-means}
use Rattle.source_theory.proofs.FreeLaws.{Grows, grows-in}
use Rattle.source_theory.proofs.LastingLaws.{universal}
use Rattle.source_theory.proofs.WellLaws.{is_well_passed, walk-well, kept-well}
use Rattle.source_theory.proofs.EqualityTruth.{equality_axioms-true}

-- ---- the problem that comes

-- a problem that comes has this setting, these symbols and this formula
abbrev pub Comes : Setting → List Symbol → Option Formula → Result Problem Refusal → Type 0
Comes setting symbols f (Ok P) = (f ≡ Some P.formula) × (P.setting ≡ setting) × (P.symbols ≡ symbols)
Comes setting symbols f (Err refusal) = Unit {0}

either-comes : (b : Bool) (setting : Setting) (symbols : List Symbol) (f : Option Formula) (r q : Result Problem Refusal) → Comes setting symbols f r → Comes setting symbols f q
    → Comes setting symbols f (if b then r else q)
either-comes true setting symbols f r q h k = h
either-comes false setting symbols f r q h k = k

sized-comes : (empty : Refusal) (setting : Setting) (symbols : List Symbol) (f : Option Formula) → Comes setting symbols f (sized empty setting symbols f)
sized-comes empty setting symbols None = tt
sized-comes empty setting symbols (Some f) =
    either-comes (nat_lt greatest_nodes (node_count f)) setting symbols (Some f) (Err formula_too_large) (Ok (record { setting = setting; formula = f; symbols = symbols }))
    tt (refl, refl, refl)

limited-comes : (empty : Refusal) (setting : Setting) (symbols : List Symbol) (ps cs : List Formula) → Comes setting symbols (problem_formula ps cs) (limited empty setting symbols ps cs)
limited-comes empty setting symbols ps cs =
    either-comes (nat_lt greatest_symbols (length symbols)) setting symbols (problem_formula ps cs) (Err too_many_symbols)
    (if are_flat (ps ++ cs) then sized empty setting symbols (problem_formula ps cs) else Err nesting_too_deep) tt
    (either-comes (are_flat (ps ++ cs)) setting symbols (problem_formula ps cs) (sized empty setting symbols (problem_formula ps cs)) (Err nesting_too_deep)
    (sized-comes empty setting symbols (problem_formula ps cs)) tt)

abbrev IsRefused : Result Problem Refusal → Type 0
IsRefused (Ok P) = ⊥
IsRefused (Err refusal) = Unit {0}

went-on : {A : Type 0} (r : Result A Refusal) (next : A → Result Problem Refusal) (P : Problem) → go_on r next ≡ Ok P → (a : A) × (r ≡ Ok a) × (next a ≡ Ok P)
went-on (Ok a) next P h = (a, refl, h)
went-on (Err refusal) next P h = absurd (subst IsRefused h tt)

-- ---- the formula of a problem

abbrev IsNothing : Option Formula → Type 0
IsNothing None = Unit {0}
IsNothing (Some f) = ⊥

abbrev the_formula_of : Formula → Option Formula → Formula
the_formula_of f None = f
the_formula_of f (Some g) = g

-- of a list with at most one formula: it is true, and there is one
abbrev FirstPasses : (Formula → Bool) → List Formula → Type 0
FirstPasses test [] = ⊥
FirstPasses test (c ∷ cs) = IsTrue (test c)

module _ {W E : Type 0} (l : Logic) (M : Model W E) (symbols : List Symbol) (S : IsFor l M symbols) (names : Term → E) (grows : Grows l M) (inhabited : (w : W) → IsWorld M w → (x : E) × IsIn M w x) where
  formula-follows : (ps cs : List Formula) (f : Formula) → problem_formula ps cs ≡ Some f → (w : W) → IsWorld M w → IsTrue (M.truth names f [] w)
      → IsTrue (list_all (is_true_in M names [] w) ps) → FirstPasses (is_true_in M names [] w) cs
  formula-follows [] [] f e w at h all = absurd (subst IsNothing e tt)
  formula-follows [] (c ∷ cs) f e w at h all = subst (λ g. IsTrue (M.truth names g [] w)) (sym (ap (the_formula_of f) e)) h
  formula-follows (a ∷ bs) [] f e w at h all =
      let both = balanced conj a bs in
      let k : IsTrue (M.truth names (neg both) [] w) = subst (λ g. IsTrue (M.truth names g [] w)) (sym (ap (the_formula_of f) e)) h in
      lasts-now l M S.relation (λ v. ¬ IsTrue (M.truth names both [] v)) w at
      ((neg-means l M symbols S names both [] (λ v. IsTrue (M.truth names both [] v)) (itself l M symbols S names both []) w at).0 k)
      (conjunction-all l M symbols S names [] w (a ∷ bs) both (balanced-balanced conj a bs) ∙ all)
  formula-follows (a ∷ bs) (c ∷ cs) f e w at h all =
      let both = balanced conj a bs in
      let k : IsTrue (M.truth names (imp both c) [] w) = subst (λ g. IsTrue (M.truth names g [] w)) (sym (ap (the_formula_of f) e)) h in
      lasts-now l M S.relation (λ v. IsTrue (M.truth names both [] v) → IsTrue (M.truth names c [] v)) w at
      ((imp-means l M symbols S names both c [] (λ v. IsTrue (M.truth names both [] v)) (λ v. IsTrue (M.truth names c [] v)) (itself l M symbols S names both []) (itself l M symbols S names c []) w at).0 k)
      (conjunction-all l M symbols S names [] w (a ∷ bs) both (balanced-balanced conj a bs) ∙ all)

  -- ---- items

  body-means : (p : Passed) → IsTrue (is_well_passed (is_modal l) p) → (w : W) → IsWorld M w → AreAlike (IsTrue (is_true_in M names [] w (closed symbols p.body))) (IsTrueForAll l M symbols p.body w)
  body-means p well w at =
      alike (closed-means l M symbols S names p.body w at) (universal l M symbols S.steps S.relation grows p.body well w at (inhabited w at).0 (inhabited w at).1)

  items-mean : (items : List Passed) → IsTrue (list_all (is_well_passed (is_modal l)) items) → (w : W) → IsWorld M w
      → AreAlike (IsTrue (list_all (is_true_in M names [] w) (formulas_of symbols items))) (AllAreTrue l M symbols items w)
  items-mean [] well w at = (λ e. tt, λ u. refl)
  items-mean (p ∷ ps) well w at =
      let parts = and_parts (is_well_passed (is_modal l) p) (list_all (is_well_passed (is_modal l)) ps) well in
      and-says (is_true_in M names [] w (closed symbols p.body)) (list_all (is_true_in M names [] w) (formulas_of symbols ps)) (body-means p parts.0 w at) (items-mean ps parts.1 w at)

  first-means : (items : List Passed) → IsTrue (list_all (is_well_passed (is_modal l)) items) → (w : W) → IsWorld M w
      → FirstPasses (is_true_in M names [] w) (formulas_of symbols items) → FirstIsTrue l M symbols items w
  first-means [] well w at h = h
  first-means (p ∷ ps) well w at h =
      (body-means p (and_parts (is_well_passed (is_modal l) p) (list_all (is_well_passed (is_modal l)) ps) well).0 w at).0 h

  axioms-true : (setting : Setting) (w : W) → IsWorld M w → IsTrue (list_all (is_true_in M names [] w) (axioms_of setting symbols))
  axioms-true setting w at = by (not (is_modal setting.logic) && list_any (symbol_eq equality_symbol) symbols)
    where
      by : (b : Bool) → IsTrue (list_all (is_true_in M names [] w) (if b then equality_axioms symbols else []))
      by true = equality_axioms-true l M symbols S names w at
      by false = refl

  pub problem-follows : (setting : Setting) (items : List Passed) → IsTrue (list_all (is_well_passed (is_modal l)) items) → (f : Formula) → problem_formula (premises_of setting symbols items) (formulas_of symbols (conjectures items)) ≡ Some f
      → (w : W) → IsWorld M w → IsTrue (M.truth names f [] w) → FollowsAt l M symbols items w
  problem-follows setting items well f e w at h given =
      let test = is_true_in M names [] w in
      first-means (conjectures items) (kept-well (is_modal l) (λ (p : Passed). p.is_conjecture) items well) w at
      (formula-follows (premises_of setting symbols items) (formulas_of symbols (conjectures items)) f e w at h
      (list_all-append test (axioms_of setting symbols) (formulas_of symbols (premises items))
      ∙ and_from (list_all test (axioms_of setting symbols)) (list_all test (formulas_of symbols (premises items))) (axioms-true setting w at) ((items-mean (premises items) (kept-well (is_modal l) (λ (p : Passed). not p.is_conjecture) items well) w at).1 given)))

-- ---- structures

pub fit-structure : {W E : Type 0} (P : Problem) (M : Model W E) → IsModel P M → HasIdentity M P.symbols → IsFor P.setting.logic M P.symbols
fit-structure P M model identity = record { steps = model.successors; relation = model.relation; tells = model.truth; identity = identity }

-- a problem of files means what the items that pass do
pub means_items : {W E : Type 0} (files : Files) (name root : Name) (setting : Setting) (P : Problem) → IsTrue (setting_fits P.setting.logic P.setting.domains) → IsProblemOf files name root setting (Ok P) → MeansItems W E files name root P
means_items {W} {E} files name root setting P fits h =
    let reached = went-on (walk h.0 files name root) (λ w. problem_of (no_formula files name) setting w.progress.passed) P h.2 in
    let items : List Passed = reached.0.progress.passed in
    let parts : Comes setting (symbols_of items) (problem_formula (premises_of setting (symbols_of items) items) (formulas_of (symbols_of items) (conjectures items))) (Ok P) =
    subst (Comes setting (symbols_of items) (problem_formula (premises_of setting (symbols_of items) items) (formulas_of (symbols_of items) (conjectures items)))) reached.2
    (limited-comes (no_formula files name) setting (symbols_of items) (premises_of setting (symbols_of items) items) (formulas_of (symbols_of items) (conjectures items))) in
    let made : problem_formula (premises_of P.setting P.symbols items) (formulas_of P.symbols (conjectures items)) ≡ Some P.formula =
    (λ i. problem_formula (premises_of (parts.1 i) (parts.2 i) items) (formulas_of (parts.2 i) (conjectures items))) ∙ parts.0 in
    let exact : IsExactReader (is_modal P.setting.logic) h.0 = subst (λ (s : Setting). IsExactReader (is_modal s.logic) h.0) (sym parts.1) h.1 in
    let well = walk-well (is_modal P.setting.logic) h.0 exact files name root reached.0 reached.1 in
    let true_there : (M : Model W E) → IsModel P M → HasIdentity M P.symbols → (names : Term → E) → IsTrue (M.truth names P.formula [] M.root) → FollowsAt P.setting.logic M P.symbols items M.root =
    λ M model identity names holds. problem-follows P.setting.logic M P.symbols (fit-structure P M model identity) names (grows-in P.setting.logic P.setting.domains M fits model.domains) model.inhabited P.setting items well P.formula made M.root model.root holds in
    record {
      read = h.0;
      exact = exact;
      reached = reached.0;
      walked = reached.1;
      where_true = true_there;
      follows = λ over M model identity. true_there M model identity (λ t. M.element) (over.at_root M model (λ t. M.element));
    }
