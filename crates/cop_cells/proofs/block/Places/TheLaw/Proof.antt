-- A `&` to places lends each value that is written in them. Assumes `Logic`.
use mathlib.Core.List.{[], ◌++◌}
use base.Fml.{Incl-trans}
use contract.BorrowLft.{meet_⊑_left}
use denote.RattleType.{RattleType}
use denote.RawPtr.{RawPtr}
use denote.Param.Laws.{Laws}
use denote.Param.Shared.{copy_shared}
use denote.Struct.Laws.{field_copy}
use denote.Struct.Lending.{of_Lends}
use Rattle.core.specs.contracts.marker.PhantomData as marker
use Rattle.cop_cells.specs.contracts.block.Places as P
use Rattle.cop_cells.proofs.block.Places.TheLaw.Statement.{statement}
use Rattle.cop_cells.proofs.Lent.{places-copied, places-lent}

pub shares : (R : RattleType) (L : Laws R) → statement R L
shares R L =
    let mark = copy_shared (marker.the_field RawPtr) (field_copy (marker.the_type RawPtr) tt) in
    let codes = P.the_codes R.Denot R.coded (marker.the_row RawPtr).coded in
    let lives = Incl-trans (meet_⊑_left (R.lives ++ []) _) (meet_⊑_left R.lives []) in
    of_Lends (P.struct R) codes (P.the_heap R) (P.the_lent R) (λ d p. places-copied R L.shr_laws d.at d.start d.first d.slots)
    (mark, tt) (λ M 𝓤 𝓛 d p. places-lent R L (P.the_row R).lives lives 𝓛 d.at d.start d.first d.slots)
