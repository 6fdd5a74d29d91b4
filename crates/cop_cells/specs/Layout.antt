-- How pages lie in blocks of memory. No public clause cites this module.
use Rattle.std.specs.Prelude.{ℕ, ◌*◌, zero, suc, List, [], ◌∷◌, ◌++◌, refl}
use Rattle.std.specs.Coded.{Coded, code_by, coded×, coded_list, coded_ℕ}
use denote.RawPtr.{Ptr, coded_ptr}

-- a page: the block that it is part of, at which place of the block it begins, and its written cells
pub record Placed (T : Type 0) : Type 0 where
  pub at : Ptr
  pub start : ℕ
  pub cells : List T

abbrev pub placed_code : {T : Type 0} → Coded T → Coded (Placed T)
placed_code {T} code =
    code_by (Ptr × (ℕ × List T)) (coded× coded_ptr (coded× coded_ℕ (coded_list code)))
    (λ p. (p.at, (p.start, p.cells))) (λ p. record { at = p.0; start = p.1.0; cells = p.1.1 }) (λ _. refl)

-- a block by its pointer and how many pages it has
abbrev pub block_code : Coded (Ptr × ℕ)
block_code = coded× coded_ptr coded_ℕ

module _ {T : Type 0} where
  -- what is written, page by page
  abbrev pub cells_of : List (Placed T) → List (List T)
  cells_of [] = []
  cells_of (p ∷ ps) = p.cells ∷ cells_of ps

  -- where the pages begin
  abbrev pub spots_of : List (Placed T) → List (Ptr × ℕ)
  spots_of [] = []
  spots_of (p ∷ ps) = (p.at, p.start) ∷ spots_of ps

  -- the first n pages of the block at a pointer, with nothing written
  abbrev pub blank_page : Ptr → ℕ → Placed T
  blank_page at n = record { at = at; start = n; cells = [] }

  abbrev pub blank_pages : Ptr → ℕ → List (Placed T)
  blank_pages at zero = []
  blank_pages at (suc n) = blank_pages at n ++ blank_page at (n * 4096) ∷ []

-- where the first n pages of the block at a pointer begin
abbrev pub spots : Ptr → ℕ → List (Ptr × ℕ)
spots at zero = []
spots at (suc n) = spots at n ++ (at, n * 4096) ∷ []

-- where the pages of these blocks begin, one block behind the other
abbrev pub laid : List (Ptr × ℕ) → List (Ptr × ℕ)
laid [] = []
laid (b ∷ bs) = spots b.0 b.1 ++ laid bs
