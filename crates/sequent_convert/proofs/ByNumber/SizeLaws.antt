-- The sizes of closings as the program has them.
use Rattle.std.proofs.Common.{◌≡◌, ℕ, zero, suc, ◌+◌, ◌<◌, ◌≤◌, List, [], ◌∷◌, ◌++◌, map, length, length-append, get_or, drop, append_assoc, append-nil, Bool, true, false, refl, sym, ◌∙◌, ap, arith}
use Rattle.std.proofs.lemmas.List.{drop_more}
use Rattle.formula_core.specs.GroundLists.{GroundList}
use Rattle.conversion_theory.specs.Leading as leading
use Rattle.tableau_core.specs.Numbered.Closings as numbered
use Rattle.tableau_core.specs.Numbered.Closings.{closing_size, closing_list_size}
use Rattle.tableau_core.specs.Numbered.ClosingView.{closing_in, closings_in, the_closing}
use Rattle.tableau_core.specs.declared.closing.Closing as program
use Rattle.sequent_convert.specs.AheadView.{meeting, sizes_below, sizes_of_all, end_sizes, ends_sizes}
use Rattle.sequent_convert.specs.ByNumber.AheadView.{closing_ends, closing_sizes, closings_sizes, sizes_among}
use Rattle.sequent_convert.proofs.SizesAhead.{row-second}

-- ---- they are told without a table

mutual
  pub closing-sized : (ls : List GroundList) (c : numbered.Closing) → sizes_below (closing_in ls c) ≡ closing_sizes c
  closing-sized ls (numbered.reduce up) = refl
  closing-sized ls (numbered.extend i place below) = ap (λ ns. suc (length ns) ∷ ns) (closings-sized ls below)

  pub closings-sized : (ls : List GroundList) (cs : numbered.Closings) → sizes_of_all (closings_in ls cs) ≡ closings_sizes cs
  closings-sized ls numbered.no_closings = refl
  closings-sized ls (numbered.more_closings c cs) = λ i. closing-sized ls c i ++ closings-sized ls cs i

sizes-append : (es fs : List leading.End) → ends_sizes (es ++ fs) ≡ ends_sizes es ++ ends_sizes fs
sizes-append [] fs = refl
sizes-append (e ∷ es) fs = ap (λ ns. end_sizes e ++ ns) (sizes-append es fs) ∙ sym (append_assoc (end_sizes e) (ends_sizes es) (ends_sizes fs))

ends-sized : (ls : List GroundList) (cs : List program.Closing) → ends_sizes (closing_ends ls cs) ≡ sizes_among cs
ends-sized ls [] = refl
ends-sized ls (c ∷ cs) = λ i. closing-sized ls (the_closing c) i ++ ends-sized ls cs i

pub ends-together : (ls : List GroundList) (bs es : List program.Closing) (m : Bool) → ends_sizes (closing_ends ls bs ++ meeting m ++ closing_ends ls es) ≡ sizes_among bs ++ sizes_among es
ends-together ls bs es m =
    sizes-append (closing_ends ls bs ++ meeting m) (closing_ends ls es)
    ∙ ap (λ ns. ns ++ ends_sizes (closing_ends ls es)) (sizes-append (closing_ends ls bs) (meeting m) ∙ ap (λ ns. ends_sizes (closing_ends ls bs) ++ ns) (none m) ∙ append-nil (ends_sizes (closing_ends ls bs)))
    ∙ (λ i. ends-sized ls bs i ++ ends-sized ls es i)
  where
    none : (b : Bool) → ends_sizes (meeting b) ≡ []
    none true = refl
    none false = refl

-- ---- how they are made

-- an item of the list is smaller than the list
pub closing_size-item : (cs : List program.Closing) (k : ℕ) (c d : program.Closing) → k < length cs → c ≡ get_or cs k d → closing_size (the_closing c) < closing_list_size (map the_closing cs)
closing_size-item [] k c d h e = absurd (omega arith)
closing_size-item (u ∷ cs) zero c d h e = let f : closing_size (the_closing c) ≡ closing_size (the_closing u) = ap (λ x. closing_size (the_closing x)) e in omega arith
closing_size-item (u ∷ cs) (suc k) c d h e = let f = closing_size-item cs k c d (omega arith) e in omega arith

pub ruleset sizes = (append_assoc, append-nil, closing_size-item)

-- ---- how they are gone over

-- the first size of a row tells how long the row of its instance is
at-row : (all : List ℕ) (at y : ℕ) (ys : List ℕ) (d : ℕ) → drop at all ≡ y ∷ ys → (at < length all) × (get_or all at d ≡ y) × (at + suc (length ys) ≡ length all)
at-row [] zero y ys d e = absurd (nil_cons e)
  where
    nil_cons : {A : Type 0} {a : A} {l : List A} → [] ≡ a ∷ l → ⊥
    nil_cons q = cc
at-row [] (suc n) y ys d e = absurd (nil_cons e)
  where
    nil_cons : {A : Type 0} {a : A} {l : List A} → [] ≡ a ∷ l → ⊥
    nil_cons q = cc
at-row (x ∷ xs) zero y ys d e = let long = ap length e in (omega arith, head e, omega (arith, long))
  where
    head : {A : Type 0} {a b : A} {l m : List A} → a ∷ l ≡ b ∷ m → a ≡ b
    head q = cc
at-row (x ∷ xs) (suc n) y ys d e = let r = at-row xs n y ys d e in let lt = r.0 in let long = r.2 in (omega (arith, lt), r.1, omega (arith, long))

pub size-at : (all : List ℕ) (at : ℕ) (below rest : List ℕ) (x d : ℕ) → drop at all ≡ (suc (length below) ∷ below) ++ rest → x ≡ get_or all at d → (at < length all) × (x ≡ suc (length below)) × (at + x ≤ length all)
size-at all at below rest x d e read =
    let r = at-row all at (suc (length below)) (below ++ rest) d e in
    let lt = r.0 in
    let same = read ∙ r.1 in
    let long = r.2 in
    let both = length-append below rest in
    (lt, same, omega (arith, same, long, both))

-- one closing further
pub first-sizes : (cs : List program.Closing) (i : ℕ) (c d : program.Closing) → i < length cs → c ≡ get_or cs i d → sizes_among (drop i cs) ≡ closing_sizes (the_closing c) ++ sizes_among (drop (i + 1) cs)
first-sizes cs i c d lt read = ap sizes_among (drop_more cs i d lt) ∙ ap (λ (x : program.Closing). closing_sizes (the_closing x) ++ sizes_among (drop (i + 1) cs)) (sym read)

pub behind-next : (all : List ℕ) (cs : List program.Closing) (i at n : ℕ) (c d : program.Closing) (rest : List ℕ) → drop at all ≡ sizes_among (drop i cs) ++ rest → i < length cs → c ≡ get_or cs i d → n ≡ at + length (closing_sizes (the_closing c)) → drop n all ≡ sizes_among (drop (i + 1) cs) ++ rest
behind-next all cs i at n c d rest e lt read to =
    ap (λ k. drop k all) to
    ∙ row-second all at (length (closing_sizes (the_closing c))) (sizes_among (drop i cs)) (closing_sizes (the_closing c)) (sizes_among (drop (i + 1) cs)) rest e (first-sizes cs i c d lt read) refl
