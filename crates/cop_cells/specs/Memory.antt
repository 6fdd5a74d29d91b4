-- What the values of `block.rt` own and lend, for items of the row R.
use Rattle.std.specs.Prelude.{ℕ, ◌+◌, ◌*◌, ◌^◌, List, [], ◌∷◌, length, Option, Some, None}
use Rattle.std.specs.Mem.{type_size}
use base.Fraction.{full_share}
use base.Fml.{Lft, Fml, ftrue, ffalse, fsep, feq, flt, froom}
use mir.Syntax.{Ty, ty_array}
use mir.Raw.{raw}
use denote.RattleType.{RattleType}
use denote.Memory.{lone, part_at, shared_of}
use denote.Sharing.{nothing, said, beside}
use denote.RawPtr.{Ptr, block_ptr, null_ptr}

module _ (R : RattleType) where
  -- a place, o bytes into the block b: its value, or room for one
  abbrev pub place_own : ℕ → ℕ → Option R.Denot → Fml
  place_own b o None = froom (raw (lone R.mir)) b o
  place_own b o (Some x) = part_at R full_share x b o

  -- places side by side
  abbrev pub row_own : ℕ → ℕ → List (Option R.Denot) → Fml
  row_own b o [] = ftrue
  row_own b o (c ∷ cs) = fsep (place_own b o c) (row_own b (o + type_size R) cs)

  -- the places end fewer than 2 ^ 63 bytes from where their block begins
  abbrev pub row_ends : ℕ → List (Option R.Denot) → Fml
  row_ends n cs = flt ((n + length cs) * type_size R) (2 ^ 63)

  -- the places from the n-th on of the block at a pointer, and where they begin
  abbrev pub begins : Ptr → ℕ → ℕ → ℕ → Fml
  begins p b o n = feq Ptr p (block_ptr b (n * type_size R + o))

  abbrev pub places_own : Ptr → ℕ → Ptr → List (Option R.Denot) → Fml
  places_own (block_ptr b o) n p cs =
      fsep (begins p b o n) (fsep (row_ends n cs) (row_own b (n * type_size R + o) cs))
  places_own null_ptr n p cs = ffalse

  -- the same behind a `&`, where an empty place tells nothing
  abbrev pub place_lent : ℕ → ℕ → Option R.Denot → Lft → Fml
  place_lent b o None = nothing
  place_lent b o (Some x) = shared_of R x b o

  abbrev pub row_lent : ℕ → ℕ → List (Option R.Denot) → Lft → Fml
  row_lent b o [] = nothing
  row_lent b o (c ∷ cs) = beside (place_lent b o c) (row_lent b (o + type_size R) cs)

  abbrev pub places_lent : Ptr → ℕ → Ptr → List (Option R.Denot) → Lft → Fml
  places_lent (block_ptr b o) n p cs =
      beside (said (begins p b o n)) (beside (said (row_ends n cs)) (row_lent b (n * type_size R + o) cs))
  places_lent null_ptr n p cs = said ffalse

  -- what the allocator asks for when a block of n places is freed
  abbrev pub deed_own : (Ty → Ptr → Fml) → Ptr → ℕ → Fml
  deed_own token p n = token (raw (ty_array (lone R.mir) n)) p
