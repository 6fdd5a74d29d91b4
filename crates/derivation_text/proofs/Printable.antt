-- What a derivation that can be printed keeps.
use Rattle.std.proofs.Common.{map, ◌&&◌, IsTrue}
use Rattle.std.specs.List.{list_all}
use Rattle.std.proofs.lemmas.Bool.{and_parts}
use Rattle.calculus.specs.Syntax.{Problem}
use Rattle.calculus.specs.Derivations.{EigenName, SpareName, Derivation}
use Rattle.calculus.specs.DerivationText.{is_limit, is_printable, names_are_written, rises_from, step_is_written}
use Rattle.derivation_text.specs.Written.{eigen_is_written, spare_is_written}

pub record Parts (P : Problem) (d : Derivation) : Type 0 where
  pub limit : IsTrue (is_limit d.limit)
  pub eigens : IsTrue (list_all eigen_is_written d.names.eigens)
  pub spares : IsTrue (list_all spare_is_written d.names.spares)
  pub steps : IsTrue (list_all (step_is_written P.symbols) d.steps)

pub parts : (P : Problem) (d : Derivation) → IsTrue (is_printable P d) → Parts P d
parts P d h =
    let b = and_parts (is_limit d.limit && names_are_written d.names) (list_all (step_is_written P.symbols) d.steps) h in
    let a = and_parts (is_limit d.limit) (names_are_written d.names) b.0 in
    let z = and_parts (rises_from 0 (map (λ (x : EigenName). x.number) d.names.eigens) && list_all eigen_is_written d.names.eigens && rises_from 0 (map (λ (x : SpareName). x.number) d.names.spares)) (list_all spare_is_written d.names.spares) a.1 in
    let y = and_parts (rises_from 0 (map (λ (x : EigenName). x.number) d.names.eigens) && list_all eigen_is_written d.names.eigens) (rises_from 0 (map (λ (x : SpareName). x.number) d.names.spares)) z.0 in
    let x = and_parts (rises_from 0 (map (λ (x : EigenName). x.number) d.names.eigens)) (list_all eigen_is_written d.names.eigens) y.0 in
    record { limit = a.0; eigens = x.1; spares = z.1; steps = b.1 }
