use Rattle.std.proofs.Common.{◌+◌, ◌≡◌, ◌∷◌, [], ℕ, ap, arith, length, length-append, replicate, suc}
use Rattle.calculus.specs.declared.sort.Sort.TheVariants.{MarkSort}
use Rattle.store_theory.specs.Stores.{Store, Cell, string_cell}
use Rattle.store_theory.specs.Bindings.{with_cell, with_variables_of, places_from}
use Rattle.term_store.proofs.MarkLaws.{length-marks}
use Rattle.search_tests.proofs.unifying.are_unified.Goals as goal

length-string : (n : ℕ) (c : Cell) (s : Store) → length (with_cell c (with_variables_of (replicate n MarkSort) s)).cells ≡ suc (length s.cells + n)
length-string n c s = let h = length-marks n s in omega (arith, length-append (with_variables_of (replicate n MarkSort) s).cells (c ∷ []))

pub unify-requires-clause-left : goal.unify-requires-clause-left
unify-requires-clause-left c =
    let a = c.in_ok-a.ensures.place in
    let e = ap (λ s. length s.cells) c.in_ok-a.ensures.ok in
    let f = ap (λ s. length s.cells) c.in_ok-b.ensures.ok in
    let g = length-string c.args.left (string_cell (places_from (length c.in_ok-store.store.store.cells) c.args.left)) c.in_ok-store.store.store in
    let h = length-string c.args.right (string_cell (places_from (length c.marks.new.self.store.cells) c.args.right)) c.marks.new.self.store in
    omega arith

pub unify-requires-clause-right : goal.unify-requires-clause-right
unify-requires-clause-right c =
    let a = c.in_ok-b.ensures.place in
    let f = ap (λ s. length s.cells) c.in_ok-b.ensures.ok in
    let h = length-string c.args.right (string_cell (places_from (length c.marks.new.self.store.cells) c.args.right)) c.marks.new.self.store in
    omega arith
