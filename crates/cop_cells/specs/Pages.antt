-- How the items of a list stand in pages of 4096 cells. No public clause cites this module.
use Rattle.std.specs.Prelude.{◌≡◌, ℕ, ◌*◌, ◌-◌, ◌<◌, ◌≤◌, ◌^◌, zero, suc, min, List, [], ◌∷◌, ◌++◌, length, take}

module _ {T : Type 0} where
  -- the cells of all pages in order
  abbrev pub joined : List (List T) → List T
  joined [] = []
  joined (p ∷ ps) = p ++ joined ps

  -- so many cells are written: those of a page before those of the next one
  abbrev pub AreWritten : ℕ → List (List T) → Type 0
  AreWritten n [] = n ≡ 0
  AreWritten n (p ∷ ps) = (length p ≡ min n 4096) × AreWritten (n - 4096) ps

  -- an item over the one at this place, or at the end
  abbrev pub put_at : List T → ℕ → T → List T
  put_at [] i x = x ∷ []
  put_at (y ∷ ys) zero x = x ∷ ys
  put_at (y ∷ ys) (suc i) x = y ∷ put_at ys i x

  -- the first so many cells
  abbrev pub listed : ℕ → List (List T) → List T
  listed len pages = take len (joined pages)

  -- how many cells are left
  abbrev pub unused : ℕ → List (List T) → ℕ
  unused len pages = length pages * 4096 - len

  -- at least so many cells are written, and all cells have a number
  pub record AreCells (len : ℕ) (pages : List (List T)) : Type 0 where
    pub written : AreWritten (length (joined pages)) pages
    pub listed : len ≤ length (joined pages)
    pub numbered : length pages * 4096 < 2 ^ 64
