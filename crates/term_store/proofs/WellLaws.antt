-- What is kept of the lists of a store: a cell more.
use Rattle.std.proofs.Common.{◌≡◌, ◌≤◌, ◌<◌, ◌+◌, ◌++◌, ◌∷◌, [], None, IsTrue, length, ℕ, zero, suc, List, false, map, take, drop, refl, sym, ap, ap₂, ◌∙◌, subst, arith, length-append}
use Rattle.plain_laws.proofs.Lists.{map-last}
use Rattle.calculus.specs.declared.sort.Sort.{Sort}
use Rattle.store_theory.specs.Stores.{variable, fun_cell, eigen_cell, new_cell, string_cell, Store, is_store, is_bound, parts_fit}
use Rattle.store_theory.specs.Bindings.{HasRank, with_cell}
use Rattle.store_theory.proofs.BindingLaws.{is_store-with_cell, HasRank-with_cell}
use Rattle.term_store.specs.declared.cell.Content.{Content}
use Rattle.term_store.specs.declared.cell.Content.TheVariants.{Open, Bound, Fun, Eigen, New, Marks}
use Rattle.term_store.specs.declared.cell.Slot.{Slot}
use Rattle.term_store.specs.declared.cell.Name.{Name}
use Rattle.term_store.specs.declared.cell.Name.TheVariants as name
use Rattle.term_store.specs.Built.{named_cell, named_content}
use Rattle.term_store.specs.StoreView.{the_cell, the_cell_at, the_store, part_count, IsLaid, IsWell}

pub well-none : IsWell [] [] []
well-none = record { laid = refl; fits = refl; rank = (λ r. 0, λ i r k c e p. absurd (cc)); places = omega arith; part_places = omega arith }

laid-last : (start : ℕ) (slots : List Slot) (s : Slot) (end : ℕ) → IsLaid start slots end → s.start ≡ end → IsLaid start (slots ++ s ∷ []) (end + part_count s.content)
laid-last start [] s end h e = (e ∙ sym h, ap (λ n. n + part_count s.content) h)
laid-last start (t ∷ slots) s end h e = (h.0, laid-last (start + part_count t.content) slots s end h.1 e)

-- where the parts of the cells end
pub laid-within : (start : ℕ) (slots : List Slot) (end : ℕ) → IsLaid start slots end → start ≤ end
laid-within start [] end h = let h' : start ≡ end = h in omega arith
laid-within start (t ∷ slots) end h = let a = laid-within (start + part_count t.content) slots end h.1 in omega arith

part-front : (n start : ℕ) (parts more : List ℕ) → start + n ≤ length parts → take n (drop start (parts ++ more)) ≡ take n (drop start parts)
part-front n (suc start) [] more h = absurd (omega arith)
part-front zero zero parts more h = refl
part-front (suc n) zero [] more h = absurd (omega arith)
part-front (suc n) zero (p ∷ parts) more h = ap (λ qs. p ∷ qs) (part-front n zero parts more (omega arith))
part-front n (suc start) (p ∷ parts) more h = part-front n start parts more (omega arith)

cell-front : (c : Content) (start : ℕ) (parts more : List ℕ) → start + part_count c ≤ length parts → the_cell_at (parts ++ more) start c ≡ the_cell_at parts start c
cell-front (Open sort) start parts more h = refl
cell-front (Bound sort r) start parts more h = refl
cell-front (Fun f n) start parts more h = ap (fun_cell f.0) (part-front n start parts more h)
cell-front (Eigen p n) start parts more h = ap (eigen_cell p.0) (part-front n start parts more h)
cell-front (New p n) start parts more h = ap (new_cell p.0) (part-front n start parts more h)
cell-front (Marks n) start parts more h = ap string_cell (part-front n start parts more h)

pub cells-front : (start : ℕ) (slots : List Slot) (parts more : List ℕ) → IsLaid start slots (length parts) → map (the_cell (parts ++ more)) slots ≡ map (the_cell parts) slots
cells-front start [] parts more h = refl
cells-front start (s ∷ slots) parts more h =
    let l = laid-within (start + part_count s.content) slots (length parts) h.1 in
    let e = h.0 in
    ap₂ ◌∷◌ (cell-front s.content s.start parts more (omega arith)) (cells-front (start + part_count s.content) slots parts more h.1)

-- a variable more
pub open-store : (slots : List Slot) (parts trail : List ℕ) (sort : Sort) (start : ℕ) → the_store (slots ++ record { content = Open sort; start = start } ∷ []) parts trail ≡ with_cell (variable sort None) (the_store slots parts trail)
open-store slots parts trail sort start = ap (λ cs. let r : Store = record { cells = cs; trail = trail } in r) (map-last (the_cell parts) slots (record { content = Open sort; start = start }))

pub well-open : (slots : List Slot) (parts trail : List ℕ) (sort : Sort) (start : ℕ) → IsWell slots parts trail → start ≡ length parts → length slots < 4294967296 → IsWell (slots ++ record { content = Open sort; start = start } ∷ []) parts trail
well-open slots parts trail sort start w e l = record {
  laid = subst (IsLaid 0 (slots ++ record { content = Open sort; start = start } ∷ [])) (let q : length parts + 0 ≡ length parts = omega arith in q) (laid-last 0 slots (record { content = Open sort; start = start }) (length parts) w.laid e);
  fits = subst (λ s. IsTrue (is_store s)) (sym (open-store slots parts trail sort start)) (is_store-with_cell (variable sort None) (the_store slots parts trail) w.fits refl refl);
  rank = subst HasRank (sym (open-store slots parts trail sort start)) (HasRank-with_cell (variable sort None) (the_store slots parts trail) w.fits refl w.rank);
  places = omega (arith, length-append slots (let s : Slot = record { content = Open sort; start = start } in s ∷ []));
  part_places = w.part_places;
}

-- a built cell more
part-last : (start : ℕ) (parts more : List ℕ) → start ≡ length parts → take (length more) (drop start (parts ++ more)) ≡ more
part-last zero [] more h = take-all more
  where
    take-all : (xs : List ℕ) → take (length xs) (drop zero xs) ≡ xs
    take-all [] = refl
    take-all (x ∷ xs) = ap (λ ys. x ∷ ys) (take-all xs)
part-last (suc start) [] more h = absurd (omega arith)
part-last zero (p ∷ parts) more h = absurd (omega arith)
part-last (suc start) (p ∷ parts) more h = part-last start parts more (omega arith)

built-cell : (name : Name) (start : ℕ) (parts more : List ℕ) → start ≡ length parts → the_cell_at (parts ++ more) start (named_content name (length more)) ≡ named_cell name more
built-cell (name.Fun f) start parts more h = ap (fun_cell f.0) (part-last start parts more h)
built-cell (name.Eigen p) start parts more h = ap (eigen_cell p.0) (part-last start parts more h)
built-cell (name.New p) start parts more h = ap (new_cell p.0) (part-last start parts more h)
built-cell name.Marks start parts more h = ap string_cell (part-last start parts more h)

count-named : (name : Name) (n : ℕ) → part_count (named_content name n) ≡ n
count-named (name.Fun f) n = refl
count-named (name.Eigen p) n = refl
count-named (name.New p) n = refl
count-named name.Marks n = refl

unbound-named : (name : Name) (rs : List ℕ) → is_bound (named_cell name rs) ≡ false
unbound-named (name.Fun f) rs = refl
unbound-named (name.Eigen p) rs = refl
unbound-named (name.New p) rs = refl
unbound-named name.Marks rs = refl

pub built-store : (slots : List Slot) (parts more trail : List ℕ) (name : Name) (start : ℕ) → IsLaid 0 slots (length parts) → start ≡ length parts → the_store (slots ++ record { content = named_content name (length more); start = start } ∷ []) (parts ++ more) trail ≡ with_cell (named_cell name more) (the_store slots parts trail)
built-store slots parts more trail name start l e =
    ap (λ cs. let r : Store = record { cells = cs; trail = trail } in r)
    (map-last (the_cell (parts ++ more)) slots (record { content = named_content name (length more); start = start })
    ∙ ap₂ (λ cs c. cs ++ c ∷ []) (cells-front 0 slots parts more l) (built-cell name start parts more e))

pub well-built : (slots : List Slot) (parts more trail : List ℕ) (name : Name) (start : ℕ) → IsWell slots parts trail → start ≡ length parts → length slots < 4294967296 → length parts + length more < 4294967296 → IsTrue (parts_fit (the_store slots parts trail) (named_cell name more)) → IsWell (slots ++ record { content = named_content name (length more); start = start } ∷ []) (parts ++ more) trail
well-built slots parts more trail name start w e l m f = record {
  laid = subst (IsLaid 0 (slots ++ record { content = named_content name (length more); start = start } ∷ [])) (let q : length parts + part_count (named_content name (length more)) ≡ length (parts ++ more) = omega (arith, length-append parts more, count-named name (length more)) in q) (laid-last 0 slots (record { content = named_content name (length more); start = start }) (length parts) w.laid e);
  fits = subst (λ s. IsTrue (is_store s)) (sym (built-store slots parts more trail name start w.laid e)) (is_store-with_cell (named_cell name more) (the_store slots parts trail) w.fits f (unbound-named name more));
  rank = subst HasRank (sym (built-store slots parts more trail name start w.laid e)) (HasRank-with_cell (named_cell name more) (the_store slots parts trail) w.fits f w.rank);
  places = omega (arith, length-append slots (let s : Slot = record { content = named_content name (length more); start = start } in s ∷ []));
  part_places = omega (arith, length-append parts more);
}
