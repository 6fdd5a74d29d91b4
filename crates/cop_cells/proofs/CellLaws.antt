-- The list and the room that the pages show, before and after each call.
use Rattle.std.proofs.Common.{◌≡◌, ℕ, ◌+◌, ◌*◌, ◌/◌, ◌%◌, ◌<◌, ◌≤◌, ◌^◌, zero, suc, max, List, [], ◌∷◌, ◌++◌, length, take, get_or, replicate, Some, refl, sym, ◌∙◌, ap, subst, arith, length-append, length-set, length-take}
use Rattle.std.proofs.lemmas.List.{length-replicate}
use Rattle.std.proofs.Math.ListN.{set}
use Rattle.std.proofs.Math.Seq.{take-set-lt}
use Rattle.std.specs.List.{slice_get}
use Rattle.cop_cells.specs.Pages.{joined, listed, unused, put_at, AreCells, AreWritten}
use Rattle.cop_cells.proofs.PageLaws.{put_at-set, take-pushed, get-taken, written-length, written-fits, place-within, place-next, place-read, place-put, written-put, written-more, joined-more}

-- a place is a place in a page
split : (i : ℕ) → (i / 4096) * 4096 + i % 4096 ≡ i
split i = omega arith

in_page : (i : ℕ) → i % 4096 < 4096
in_page i = omega arith

module _ {T : Type 0} where
  -- this page has the place
  pub record IsPageOf (pages : List (List T)) (place : ℕ) (page : List T) : Type 0 where
    pub there : place < length pages * 4096
    pub read : get_or pages (place / 4096) [] ≡ page

  some-page : (pages : List (List T)) (k : ℕ) → k < length pages → slice_get pages k ≡ Some (get_or pages k [])
  some-page [] k h = absurd (omega (arith, h))
  some-page (p ∷ pages) zero h = refl
  some-page (p ∷ pages) (suc k) h = some-page pages k (omega (arith, h))

  page-at : (pages : List (List T)) (place : ℕ) (page : List T) → IsPageOf pages place page
      → slice_get pages (place / 4096) ≡ Some page
  page-at pages place page p = some-page pages (place / 4096) (let h = p.there in omega arith) ∙ ap Some p.read

  pub listed-length : (len : ℕ) (pages : List (List T)) → AreCells len pages
      → length (listed len pages) ≡ len
  listed-length len pages c = let h = c.listed in omega (arith, length-take len (joined pages))

  -- each item has a cell
  pub cells-fit : (len : ℕ) (pages : List (List T)) → AreCells len pages → len ≤ length pages * 4096
  cells-fit len pages c = let h = c.listed in omega
      (arith, written-fits (length (joined pages)) pages c.written)

  pub page-there : (pages : List (List T)) (place : ℕ) (page : List T) → IsPageOf pages place page
      → place / 4096 < length pages
  page-there pages place page p = let h = p.there in omega arith

  pub cell-within : (len : ℕ) (pages : List (List T)) (place : ℕ) (page : List T)
      → AreCells len pages → IsPageOf pages place page → place < len → place % 4096 < length page
  cell-within len pages place page c p h =
      let l = c.listed in
      place-within (length (joined pages)) pages (place / 4096) (place % 4096) page c.written
      (page-at pages place page p) (in_page place) (omega (arith, split place))

  pub cell-next : (len : ℕ) (pages : List (List T)) (place : ℕ) (page : List T) → AreCells len pages
      → IsPageOf pages place page → place ≤ len → place % 4096 ≤ length page
  cell-next len pages place page c p h =
      let l = c.listed in
      place-next (length (joined pages)) pages (place / 4096) (place % 4096) page c.written
      (page-at pages place page p) (in_page place) (omega (arith, split place))

  pub cell-read : (len : ℕ) (pages : List (List T)) (place : ℕ) (page : List T) (x : T)
      → AreCells len pages → IsPageOf pages place page → place < len
      → slice_get page (place % 4096) ≡ Some x → slice_get (listed len pages) place ≡ Some x
  cell-read len pages place page x c p h e =
      let l = c.listed in
      get-taken (joined pages) len place h
      ∙ ap (slice_get (joined pages)) (sym (split place))
      ∙ place-read (length (joined pages)) pages (place / 4096) (place % 4096) page c.written
      (page-at pages place page p) (in_page place) (omega (arith, split place))
      ∙ e

  put-joined : (len : ℕ) (pages : List (List T)) (place : ℕ) (page : List T) (x : T)
      → AreCells len pages → IsPageOf pages place page → place ≤ len
      → joined (set pages (place / 4096) (put_at page (place % 4096) x)) ≡ put_at
      (joined pages) place x
  put-joined len pages place page x c p h =
      let l = c.listed in
      place-put (length (joined pages)) pages (place / 4096) (place % 4096) page x c.written
      (page-at pages place page p) (in_page place) (omega (arith, split place))
      ∙ ap (λ i. put_at (joined pages) i x) (split place)

  pub put-cells : (len n : ℕ) (pages : List (List T)) (place : ℕ) (page : List T) (x : T)
      → AreCells len pages → IsPageOf pages place page → place ≤ len → n ≤ max len (place + 1)
      → AreCells n (set pages (place / 4096) (put_at page (place % 4096) x))
  put-cells len n pages place page x c p h m =
      let l = c.listed in
      let after = set pages (place / 4096) (put_at page (place % 4096) x) in
      let most = max (length (joined pages)) (suc (place / 4096 * 4096 + place % 4096)) in
      let w = written-put (length (joined pages)) most pages (place / 4096)
      (place % 4096) page x c.written (page-at pages place page p) (in_page place)
      (omega (arith, split place)) refl in
      let e = written-length most after w in
      record {
        written = subst (λ k. AreWritten k after) (sym e) w;
        listed = omega (arith, e, split place);
        numbered = let k = c.numbered in omega
            (arith, length-set pages (place / 4096) (put_at page (place % 4096) x));
      }

  pub push-listed : (len : ℕ) (pages : List (List T)) (page : List T) (x : T) → AreCells len pages
      → IsPageOf pages len page
      → listed (len + 1) (set pages (len / 4096)
      (put_at page (len % 4096) x)) ≡ listed len pages ++ x ∷ []
  push-listed len pages page x c p =
      ap (take (len + 1)) (put-joined len pages len page x c p (omega arith)) ∙ take-pushed
      (joined pages) len (len + 1) x refl c.listed

  pub set-listed : (len : ℕ) (pages : List (List T)) (place : ℕ) (page : List T) (x : T)
      → AreCells len pages → IsPageOf pages place page → place < len
      → listed len (set pages (place / 4096) (put_at page (place % 4096) x)) ≡ set
      (listed len pages) place x
  set-listed len pages place page x c p h =
      let l = c.listed in
      ap (take len) (put-joined len pages place page x c p (omega arith) ∙ put_at-set
      (joined pages) place x (omega arith))
      ∙ take-set-lt len (joined pages) place x h

  -- empty pages at the end change nothing but the room
  pub more-cells : (len count : ℕ) (pages : List (List T)) → AreCells len pages
      → (length pages + count) * 4096 < 2 ^ 64 → AreCells len (pages ++ replicate count [])
  more-cells len count pages c h = record {
    written = subst (λ n. AreWritten n (pages ++ replicate count []))
        (ap length (sym (joined-more count pages)))
        (written-more (length (joined pages)) count pages c.written);
    listed = let l = c.listed in omega (arith, ap length (joined-more count pages));
    numbered = omega (
      arith,
      length-append pages (replicate count []),
      length-replicate
          {A = List T} count [],
    );
  }

  pub more-listed : (len count : ℕ) (pages : List (List T))
      → listed len (pages ++ replicate count []) ≡ listed len pages
  more-listed len count pages = ap (take len) (joined-more count pages)

  pub more-length : (count : ℕ) (pages : List (List T))
      → length (pages ++ replicate count []) ≡ length pages + count
  more-length count pages = omega
      (arith, length-append pages (replicate count []), length-replicate {A = List T} count [])

  -- a place in the list that is shown
  pub listed-within : (len : ℕ) (pages : List (List T)) (list : List T) (place : ℕ)
      → AreCells len pages → listed len pages ≡ list → place < length list → place < len
  listed-within len pages list place c e h = omega (arith, listed-length len pages c, ap length e)

  pub item-page : (len : ℕ) (pages : List (List T)) (place : ℕ) → AreCells len pages
      → place < len → IsPageOf pages place (get_or pages (place / 4096) [])
  item-page len pages place c h = record { there = omega (arith, cells-fit len pages c); read = refl }

  -- the page of the next item
  pub next-page : (len : ℕ) (pages : List (List T)) (spare : ℕ) → unused len pages ≡ spare → 0 < spare
      → IsPageOf pages len (get_or pages (len / 4096) [])
  next-page len pages spare e h = record { there = omega (arith, e, h); read = refl }

  -- the cells of all pages are those of the list and those that are left
  pub all-cells : (len : ℕ) (pages : List (List T)) → AreCells len pages
      → length (listed len pages) + unused len pages ≡ length pages * 4096
  all-cells len pages c = omega (arith, listed-length len pages c, cells-fit len pages c)
