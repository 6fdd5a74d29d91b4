-- Places behind a `&`: what is lent of a row is lent place by place. Assumes `Logic`.
use Prim.Native.Nat.{ℕ, ◌+◌, ◌*◌}
use Rattle.std.specs.Prelude.{List, [], ◌∷◌, Option, Some, None}
use Rattle.std.specs.Mem.{type_size}
use seplogic.Ra.Ura.{Ura}
use base.Fml.{Lft, Incl, ftrue, ffalse, fsep}
use types.Logic.{Logic}
use denote.RattleType.{RattleType, RowLaws}
use denote.Param.Laws.{Laws}
use denote.RawPtr.{Ptr, block_ptr, null_ptr}
use denote.Sharing.{ShrLaws, said, beside}
use denote.SharingLaws.{beside_shr_laws, nothing_shr_laws, said_shr_laws}
use denote.Shares.{Shares-less}
use denote.Struct.Lending.{Lends, Lends-both, Lends-nothing, Lends-said, Lends-false}
use Rattle.cop_cells.specs.Memory.{place_own, row_own, row_ends, begins, places_own, place_lent, row_lent, places_lent}

-- it can be copied, and used for a shorter time
module _ (R : RattleType) (given : RowLaws R) where
  place-copied : (b o : ℕ) (c : Option R.Denot) → ShrLaws (place_lent R b o c)
  place-copied b o None = nothing_shr_laws
  place-copied b o (Some x) = given x b o

  row-copied : (b o : ℕ) (cs : List (Option R.Denot)) → ShrLaws (row_lent R b o cs)
  row-copied b o [] = nothing_shr_laws
  row-copied b o (c ∷ cs) = beside_shr_laws (place_lent R b o c) (row_lent R b (o + type_size R) cs)
      (place-copied b o c) (row-copied b (o + type_size R) cs)

  pub places-copied : (at : Ptr) (n : ℕ) (p : Ptr) (cs : List (Option R.Denot)) → ShrLaws (places_lent R at n p cs)
  places-copied null_ptr n p cs = said_shr_laws ffalse tt
  places-copied (block_ptr b o) n p cs = let row = row_lent R b (n * type_size R + o) cs in
      beside_shr_laws (said (begins R p b o n)) (beside (said (row_ends R n cs)) row) (said_shr_laws (begins R p b o n) tt)
      (beside_shr_laws (said (row_ends R n cs)) row (said_shr_laws (row_ends R n cs) tt) (row-copied b (n * type_size R + o) cs))

-- it is had from a borrow of what is owned
module _ (R : RattleType) (given : Laws R) (l : Lft) (lives : Incl l R.lives) {M : Type 1} {𝓤 : Ura M} (𝓛 : Logic 𝓤) where
  place-lent : (b o : ℕ) (c : Option R.Denot) → Lends 𝓛 (place_own R b o c) (place_lent R b o c) l
  place-lent b o None = Lends-nothing 𝓛 (place_own R b o None) l
  place-lent b o (Some x) = λ κ ts. Shares-less 𝓛 R R.lives l lives (given.shares 𝓛) x κ ts b o

  row-lent : (b o : ℕ) (cs : List (Option R.Denot)) → Lends 𝓛 (row_own R b o cs) (row_lent R b o cs) l
  row-lent b o [] = Lends-nothing 𝓛 ftrue l
  row-lent b o (c ∷ cs) = Lends-both 𝓛 (place_own R b o c) (row_own R b (o + type_size R) cs)
      (place_lent R b o c) (row_lent R b (o + type_size R) cs) l
      (place-lent b o c) (row-lent b (o + type_size R) cs)

  pub places-lent : (at : Ptr) (n : ℕ) (p : Ptr) (cs : List (Option R.Denot))
      → Lends 𝓛 (places_own R at n p cs) (places_lent R at n p cs) l
  places-lent null_ptr n p cs = Lends-false 𝓛 (said ffalse) l
  places-lent (block_ptr b o) n p cs =
      let owned = row_own R b (n * type_size R + o) cs in let lent = row_lent R b (n * type_size R + o) cs in
      Lends-both 𝓛 (begins R p b o n) (fsep (row_ends R n cs) owned) (said (begins R p b o n)) (beside (said (row_ends R n cs)) lent) l
      (Lends-said 𝓛 (begins R p b o n) tt l)
      (Lends-both 𝓛 (row_ends R n cs) owned (said (row_ends R n cs)) lent l
      (Lends-said 𝓛 (row_ends R n cs) tt l) (row-lent b (n * type_size R + o) cs))
