-- The table of pages and the blocks that they lie in.
use Rattle.std.proofs.Common.{◌≡◌, ℕ, zero, suc, ◌+◌, ◌-◌, ◌*◌, ◌<◌, List, [], ◌∷◌, ◌++◌, length, set, get_or, take, replicate, refl, sym, ap, ◌∙◌, arith, append-nil, append_assoc, length-append, take_at}
use Rattle.plain_laws.proofs.Lists.{same-last}
use denote.RawPtr.{Ptr}
use Rattle.cop_cells.specs.Layout.{Placed, cells_of, spots_of, blank_page, blank_pages, spots, laid}

pub length-spots : (at : Ptr) (n : ℕ) → length (spots at n) ≡ n
length-spots at zero = refl
length-spots at (suc n) = omega (arith, length-append (spots at n) ((at, n * 4096) ∷ []), length-spots at n)

pub spots-next : (at : Ptr) (n k : ℕ) → n ≡ k + 1 → spots at n ≡ spots at k ++ (at, k * 4096) ∷ []
spots-next at n k e = ap (spots at) (let f : n ≡ suc k = omega (arith, e) in f)

pub laid-more : (bs : List (Ptr × ℕ)) (b : Ptr × ℕ) → laid (bs ++ b ∷ []) ≡ laid bs ++ spots b.0 b.1
laid-more [] b = append-nil (spots b.0 b.1)
laid-more (c ∷ bs) b = ap (λ r. spots c.0 c.1 ++ r) (laid-more bs b) ∙ sym (append_assoc (spots c.0 c.1) (laid bs) (spots b.0 b.1))

same-more : {X : Type 0} (x : X) (n : ℕ) → replicate n x ++ x ∷ [] ≡ replicate (suc n) x
same-more x zero = refl
same-more x (suc n) = ap (λ r. x ∷ r) (same-more x n)

module _ {T : Type 0} where
  pub spots-append : (ps qs : List (Placed T)) → spots_of (ps ++ qs) ≡ spots_of ps ++ spots_of qs
  spots-append [] qs = refl
  spots-append (p ∷ ps) qs = ap (λ r. (p.at, p.start) ∷ r) (spots-append ps qs)

  cells-append : (ps qs : List (Placed T)) → cells_of (ps ++ qs) ≡ cells_of ps ++ cells_of qs
  cells-append [] qs = refl
  cells-append (p ∷ ps) qs = ap (λ r. p.cells ∷ r) (cells-append ps qs)

spots-blank : (T : Type 0) (at : Ptr) (n : ℕ) → spots_of {T = T} (blank_pages at n) ≡ spots at n
spots-blank T at zero = refl
spots-blank T at (suc n) = spots-append {T = T} (blank_pages at n) (blank_page at (n * 4096) ∷ [])
    ∙ ap (λ r. r ++ (at, n * 4096) ∷ []) (spots-blank T at n)

cells-blank : (T : Type 0) (at : Ptr) (n : ℕ) → cells_of {T = T} (blank_pages at n) ≡ replicate n []
cells-blank T at zero = refl
cells-blank T at (suc n) = cells-append {T = T} (blank_pages at n) (blank_page at (n * 4096) ∷ [])
    ∙ ap (λ r. r ++ [] ∷ []) (cells-blank T at n) ∙ same-more [] n

module _ {T : Type 0} where
  -- one page more
  pub blank-next : (ps : List (Placed T)) (at : Ptr) (n k : ℕ) → n ≡ k + 1
      → (ps ++ blank_pages at k) ++ blank_page at (k * 4096) ∷ [] ≡ ps ++ blank_pages at n
  blank-next ps at n k e = append_assoc ps (blank_pages at k) (blank_page at (k * 4096) ∷ [])
      ∙ ap (λ i. ps ++ blank_pages at i) (let f : suc k ≡ n = omega (arith, e) in f)

  -- a block more
  pub cells-more : (ps : List (Placed T)) (at : Ptr) (n : ℕ) → cells_of (ps ++ blank_pages at n) ≡ cells_of ps ++ replicate n []
  cells-more ps at n = cells-append ps (blank_pages at n) ∙ ap (λ r. cells_of ps ++ r) (cells-blank T at n)

  pub spots-more : (ps : List (Placed T)) (bs : List (Ptr × ℕ)) (at : Ptr) (n : ℕ) → spots_of ps ≡ laid bs
      → spots_of (ps ++ blank_pages at n) ≡ laid (bs ++ (at, n) ∷ [])
  spots-more ps bs at n e = spots-append ps (blank_pages at n) ∙ (λ i. e i ++ spots-blank T at n i) ∙ sym (laid-more bs (at, n))

  pub length-spots_of : (ps : List (Placed T)) → length (spots_of ps) ≡ length ps
  length-spots_of [] = refl
  length-spots_of (p ∷ ps) = omega (arith, length-spots_of ps)

  pub length-cells_of : (ps : List (Placed T)) → length (cells_of ps) ≡ length ps
  length-cells_of [] = refl
  length-cells_of (p ∷ ps) = omega (arith, length-cells_of ps)

  -- the cells of one page
  pub cells-at : (ps : List (Placed T)) (i : ℕ) (p : Placed T) → i < length ps → p ≡ get_or ps i p → get_or (cells_of ps) i [] ≡ p.cells
  cells-at [] i p h e = absurd (omega (arith, h))
  cells-at (q ∷ ps) zero p h e = ap (λ r. r.cells) (sym e)
  cells-at (q ∷ ps) (suc i) p h e = cells-at ps i p (omega (arith, h)) e

  -- a page that is written to stays where it is
  pub cells-set : (ps : List (Placed T)) (i : ℕ) (q : Placed T) → cells_of (set ps i q) ≡ set (cells_of ps) i q.cells
  cells-set [] i q = refl
  cells-set (p ∷ ps) zero q = refl
  cells-set (p ∷ ps) (suc i) q = ap (λ r. p.cells ∷ r) (cells-set ps i q)

  pub spots-set : (ps : List (Placed T)) (i : ℕ) (p q : Placed T) → p ≡ get_or ps i p → (q.at ≡ p.at) × (q.start ≡ p.start)
      → spots_of (set ps i q) ≡ spots_of ps
  spots-set [] i p q e s = refl
  spots-set (r ∷ ps) zero p q e s = let same : p ≡ r = e in
      λ i. ((s.0 ∙ ap (λ x. x.at) same) i, (s.1 ∙ ap (λ x. x.start) same) i) ∷ spots_of ps
  spots-set (r ∷ ps) (suc i) p q e s = ap (λ x. (r.at, r.start) ∷ x) (spots-set ps i p q e s)

-- the last block has the last pages
pub last-block : (ss : List (Ptr × ℕ)) (bs : List (Ptr × ℕ)) (b : Ptr × ℕ) → ss ≡ laid (bs ++ b ∷ [])
    → (take (length ss - b.1) ss ≡ laid bs) × (ss ≡ take (length ss - b.1) ss ++ spots b.0 b.1)
last-block ss bs b e =
    let whole : ss ≡ laid bs ++ spots b.0 b.1 = e ∙ laid-more bs b in
    let long : length (laid bs) ≡ length ss - b.1 = omega (arith, ap length whole, length-append (laid bs) (spots b.0 b.1), length-spots b.0 b.1) in
    let front : take (length ss - b.1) ss ≡ laid bs = ap (take (length ss - b.1)) whole ∙ take_at (laid bs) (spots b.0 b.1) (length ss - b.1) long in
    (front, whole ∙ ap (λ r. r ++ spots b.0 b.1) (sym front))

-- the last page, where the first n pages of a block are left
pub last-page : (front all left : List (Ptr × ℕ)) (at : Ptr) (n k : ℕ) (s : Ptr × ℕ) → n ≡ k + 1
    → all ≡ front ++ spots at n → all ≡ left ++ s ∷ [] → (left ≡ front ++ spots at k) × (s.0 ≡ at) × (s.1 ≡ k * 4096)
last-page front all left at n k s e whole cut =
    let last : Ptr × ℕ = (at, k * 4096) in
    let r = same-last left (front ++ spots at k) s last
    (sym cut ∙ whole ∙ ap (λ r. front ++ r) (spots-next at n k e) ∙ sym (append_assoc front (spots at k) (last ∷ []))) in
    (r.0, ap (λ p. p.0) r.1, ap (λ p. p.1) r.1)

-- there is one
pub some-page : (front all : List (Ptr × ℕ)) (at : Ptr) (n : ℕ) → all ≡ front ++ spots at n → 0 < n → 0 < length all
some-page front all at n e h = omega (arith, ap length e, length-append front (spots at n), length-spots at n, h)

-- without blocks there are no pages
pub no-pages : {T : Type 0} (ps : List (Placed T)) (bs : List (Ptr × ℕ)) → spots_of ps ≡ laid bs → length bs ≡ 0 → length ps ≡ 0
no-pages ps [] e h = omega (arith, length-spots_of ps, ap length e)
no-pages ps (b ∷ bs) e h = absurd (omega (arith, h))
