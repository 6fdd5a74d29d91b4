-- With constant domains own spares meet the condition in every store.
use Rattle.std.proofs.Common.{◌≡◌, suc, length, true, IsTrue, ap, sym, subst}
use Rattle.calculus.specs.declared.setting.Domains.TheVariants.{Constant}
use Rattle.store_theory.specs.Bindings.{IsWellFormed}
use Rattle.calculus.specs.Skolem.{common_spares, has_constant, is_varying}
use Rattle.store_theory.specs.Stores.{Store}
use Rattle.calculus.specs.Syntax.{Problem}
use Rattle.store_theory.specs.Systems.{AllAllowed, OwnSparesMeet, System, is_system}
use Rattle.store_theory.proofs.BindingLaws.{HasNoCycle-rank}
use Rattle.search_theory.proofs.DemandLaws.{homes-constant, met-common}
use Rattle.search_theory.proofs.RankLaws.{rank_of, ranked-by_no_cycle}
use Rattle.search_theory.proofs.SolvingLaws.{system-parts}
use Rattle.search_theory.proofs.SpareLaws.{own_value}
use Rattle.std.specs.Prelude.{not, ◌||◌}

common-constant : (P : Problem) → P.setting.domains ≡ Constant → common_spares P ≡ true
common-constant P e = ap (λ d. not (is_varying d) || has_constant P) e

pub met-constant : (P : Problem) (s : Store) (y : System) → IsWellFormed s → P.setting.domains ≡ Constant → IsTrue (is_system s y) → OwnSparesMeet (common_spares P) (AllAllowed P) s y
met-constant P s y w e h =
    let common = common-constant P e in
    subst (λ b. OwnSparesMeet b (AllAllowed P) s y) (sym common)
    (met-common P s (rank_of s) (suc (length s.cells)) y w.fits (ranked-by_no_cycle s w.fits (HasNoCycle-rank s w.rank)) (system-parts s y h).gammas common
    (λ j g at. homes-constant P s (own_value s (suc (length s.cells))) g e))
