-- Own spares where no spares of every domain exist, and equations that nothing solves.
use Rattle.std.proofs.Common.{◌≡◌, ℕ, zero, suc, List, [], ◌∷◌, ◌++◌, length, false, IsTrue, refl, sym, ◌∙◌, ap, subst, None, Some, slice_get}
use Rattle.std.proofs.lemmas.Bool.{and_from}
use Rattle.plain_laws.proofs.Places.{get-end}
use Rattle.calculus.specs.declared.sort.Sort.TheVariants.{StringSort}
use Rattle.calculus.specs.declared.setting.Domains.TheVariants.{Varying}
use Rattle.store_theory.specs.Bindings.{AddsBuilt, IsWellFormed, with_cell}
use Rattle.calculus.specs.Ground.{GroundMark}
use Rattle.calculus.specs.Skolem.{common_spares}
use Rattle.store_theory.specs.Stores.{Cell, variable, new_cell, Store, GammaCell, OccursIn, here, in_part, Solution, Solves, parts_of, join_label, label_at}
use Rattle.calculus.specs.Syntax.{Problem}
use Rattle.store_theory.specs.Systems.{AllAllowed, AreEqual, Equation, IsDemandEquation, IsOpenString, MeetsDemand, OwnSparesMeet, System, is_label, is_system}
use Rattle.store_theory.proofs.BindingLaws.{HasNoCycle-rank}
use Rattle.search_theory.proofs.BuildingLaws.{adds-back}
use Rattle.search_theory.proofs.DemandLaws.{forced-home, met-own, never-constant}
use Rattle.search_theory.specs.HomesTold.{HomesAllow}
use Rattle.search_theory.proofs.NeedRanks.{need_rank, ranked-by_no_need_cycle}
use Rattle.search_theory.specs.SpareRules.{HasNoNeedCycle, homes}
use Rattle.search_theory.proofs.OwnHomes.{homes-by_labels, homes-cells, never-met}
use Rattle.search_theory.proofs.RankLaws.{rank_of, ranked-by_no_cycle}
use Rattle.search_theory.proofs.RuleLaws.{own-by_homes, rule_value}
use Rattle.search_theory.proofs.SolvingLaws.{system-parts}
use Rattle.search_theory.proofs.SpareLaws.{own-apart, own_value}
use Rattle.term_unify.specs.Flat.{HasNoString}
use Rattle.domain_cond.specs.Conditions.{IsForced, IsNeverEqual}
use Rattle.domain_cond.specs.Standings.{AreStandings, ConstantStands, HasOwnSpares, LabelsAgree, Standing, home_marks}
use Rattle.domain_cond.proofs.ConditionLaws.{free-sides}
use Rattle.domain_cond.proofs.StandingLaws.{tells-homes}

-- ---- an equation that nothing solves

nothing-there : (i k : ℕ) → ¬ (slice_get [] i ≡ Some k)
nothing-there i k e = cc e

-- no unbound string occurs in a mark without values
mark-only : (s : Store) (v m : ℕ) → slice_get s.cells m ≡ Some (new_cell 0 []) → IsOpenString s v → ¬ OccursIn s v m
mark-only s v m there o here = let z : Some (new_cell 0 []) ≡ Some (variable StringSort None) = sym there ∙ o in cc z
mark-only s v m there o (in_part i {k = k} {c = d} at p more) =
    let same : d ≡ new_cell 0 [] = let z : Some d ≡ Some (new_cell 0 []) = sym at ∙ there in cc z in
    nothing-there i k (sym (ap (λ (x : Cell). slice_get (parts_of x) i) same) ∙ p)

filled : {x : GroundMark} (w : List GroundMark) → Some (x ∷ []) ≡ Some w → ¬ ([] ≡ w)
filled {x} w e f = let z : x ∷ [] ≡ w = cc e in cc (z ∙ sym f)

-- the empty label is not that of one mark
pub never-solved : (old new : Store) (m : ℕ) (e : Equation) → new ≡ with_cell (new_cell 0 []) old → m ≡ length old.cells → e.left ≡ [] → e.right ≡ m ∷ [] → IsNeverEqual new e
never-solved old new m e is place left right σ t (w, l, r) =
    let there : slice_get new.cells m ≡ Some (new_cell 0 []) = ap (λ (s : Store). slice_get s.cells m) is ∙ ap (slice_get (old.cells ++ new_cell 0 [] ∷ [])) place ∙ get-end old.cells (new_cell 0 []) in
    let (vs, at, is-mark) = t m (new_cell 0 []) there in
    let empty : [] ≡ w = let z : Some [] ≡ Some w = sym (ap (label_at σ) left) ∙ l in cc z in
    let one : label_at σ (m ∷ []) ≡ Some w = ap (label_at σ) (sym right) ∙ r in
    let shown = sym (ap (λ v. join_label v (Some [])) is-mark) ∙ one in
    filled w shown empty

pub never-equal : (old new : Store) (m : ℕ) (e : Equation) → new ≡ with_cell (new_cell 0 []) old → IsWellFormed new → m ≡ length old.cells → e.left ≡ [] → e.right ≡ m ∷ [] → IsForced new (λ σ. ⊥) e
never-equal old new m e is well place left right = record {
  fits = and_from (is_label new e.left) (is_label new e.right) (subst (λ xs. IsTrue (is_label new xs)) (sym left) refl) (subst (λ xs. IsTrue (is_label new xs)) (sym right) mark-sorted);
  no_open_string = free-sides new e.left e.right (subst (HasNoString new) (sym left) (λ v i r o x k. cc x)) (subst (HasNoString new) (sym right) mark-free);
  unequal = λ now. (
      let σ = own_value new (suc (length new.cells)) in
      let solves = (own-apart new (rank_of new) (suc (length new.cells)) [] well.fits (ranked-by_no_cycle new well.fits (HasNoCycle-rank new well.rank))).solves in
      never-solved old new m e is place left right σ solves (now σ solves));
  forced = λ σ t none. absurd none;
}
  where
    there : slice_get new.cells m ≡ Some (new_cell 0 [])
    there = ap (λ (s : Store). slice_get s.cells m) is ∙ ap (slice_get (old.cells ++ new_cell 0 [] ∷ [])) place ∙ get-end old.cells (new_cell 0 [])

    mark-sorted : IsTrue (is_label new (m ∷ []))
    mark-sorted = rw there refl

    mark-free : HasNoString new (m ∷ [])
    mark-free v zero r o x occurs = let q : m ≡ r = cc x in mark-only new v m there o (subst (OccursIn new v) (sym q) occurs)
    mark-free v (suc i) r o x occurs = cc x

-- a demand that is never met forces it
pub never-demanded : (P : Problem) (old new : Store) (y : System) (e : Equation) → AddsBuilt old new → ((σ : Solution) → Solves old σ → ¬ MeetsDemand (AllAllowed P) y σ) → IsForced new (λ σ. ⊥) e → IsDemandEquation (AllAllowed P) new y e
never-demanded P old new y e adds never f = record { fits = f.fits; no_open_string = f.no_open_string; unequal = f.unequal; forced = λ σ t met. absurd (never σ (adds-back old new adds σ t) met) }

pub constant-never : (P : Problem) (s : Store) (y : System) → common_spares P ≡ false → ConstantStands s y.gammas → (σ : Solution) → Solves s σ → ¬ MeetsDemand (AllAllowed P) y σ
constant-never P s y common (j, g, e, f, at, held, cell) σ t = never-constant P s y σ common t j e f g at held cell

pub cycle-never : (P : Problem) (s : Store) (y : System) (ts : List Standing) → P.setting.domains ≡ Varying → common_spares P ≡ false → IsWellFormed s → AreStandings s y.gammas ts → ¬ HasNoNeedCycle (homes (home_marks ts)) s → (σ : Solution) → Solves s σ → ¬ MeetsDemand (AllAllowed P) y σ
cycle-never P s y ts d common well are cycle σ t met =
    let ranked = ranked-by_no_cycle s well.fits (HasNoCycle-rank s well.rank) in
    cycle (λ r needs. never-met P s (rank_of s) (suc (length s.cells)) y (home_marks ts) well.fits ranked d common (tells-homes s y.gammas ts are) r needs σ t met)

-- ---- labels that are to agree

pub labels-demanded : (P : Problem) (s : Store) (y : System) (e : Equation) → P.setting.domains ≡ Varying → common_spares P ≡ false → IsForced s (LabelsAgree s y.gammas) e → IsDemandEquation (AllAllowed P) s y e
labels-demanded P s y e d common f = record {
  fits = f.fits;
  no_open_string = f.no_open_string;
  unequal = f.unequal;
  forced = λ σ t met. f.forced σ t (λ i j v g h at_i at_j in_g in_h. forced-home P s y σ d common t met i j v g h at_i at_j in_g in_h);
}

-- ---- own spares

pub own-met : (P : Problem) (s : Store) (y : System) → IsWellFormed s → P.setting.domains ≡ Varying → common_spares P ≡ false → IsTrue (is_system s y) → ((j : ℕ) (g : GammaCell) → slice_get y.gammas j ≡ Some g → (σ : Solution) → Solves s σ → HomesAllow P s σ g) → HasOwnSpares s y.gammas → OwnSparesMeet (common_spares P) (AllAllowed P) s y
own-met P s y well d common fits allow own =
    let bound = suc (length s.cells) in
    let ranked = ranked-by_no_cycle s well.fits (HasNoCycle-rank s well.rank) in
    let R = homes own.home in
    let needs = ranked-by_no_need_cycle R s (homes-cells s y.gammas own.home well.fits own.tells) own.no_cycle in
    let σ = rule_value R s bound in
    let spares = own-by_homes s y.gammas own.home (need_rank R s) bound well.fits needs (homes-by_labels s y.gammas own.home own.tells) in
    subst (λ b. OwnSparesMeet b (AllAllowed P) s y) (sym common) (met-own P s (rank_of s) bound y σ well.fits ranked (system-parts s y fits).gammas d spares own.agree (λ j g at. allow j g at σ spares.solves) own.constants)
