-- The search's own cells stay built right when they are bound.
use Rattle.std.proofs.Common.{◌≡◌, ◌≤◌, ℕ, length, IsTrue, refl, ap, subst, None, Some, option_map, slice_get, arith, inl, inr}
use Rattle.plain_laws.proofs.Places.{get-within, get-there}
use Rattle.plain_laws.proofs.Options.{same-some}
use Rattle.search_theory.proofs.FromLaws.{part-from}
use Rattle.store_theory.specs.Bindings.{BindsOnly, NamesFrom}
use Rattle.store_theory.specs.Stores.{Cell, Store, is_store, parts_of, sort_of, variable}
use Rattle.calculus.specs.Syntax.{Problem}
use Rattle.calculus.specs.declared.sort.Sort.{Sort}
use Rattle.calculus.specs.declared.sort.Sort.TheVariants.{TermSort, MarkSort, StringSort}
use Rattle.search_theory.proofs.KeepingLaws.{GoesOn, labelled-goes_on}
use Rattle.search_tree.specs.OwnStores.{AreOwn, is_search_cell}
use Rattle.search_tree.proofs.KeptLaws.{from-parts}
use Rattle.search_tree.proofs.OpenStrings.{sorts-of_bound}

-- own cells name own cells alone
pub own-names : (P : Problem) (base : ℕ) (s : Store) → AreOwn P base s → NamesFrom base s
own-names P base s h n c l e = from-parts base (parts_of c) (λ k p. h.labelled.names n k p.0 c l e p.1)

pub names-own : (base : ℕ) (s : Store) → NamesFrom base s → (r k i : ℕ) (c : Cell) → base ≤ r → slice_get s.cells r ≡ Some c → slice_get (parts_of c) i ≡ Some k → base ≤ k
names-own base s h r k i c l e p = part-from base (parts_of c) (h r c l e) k (i, p)

-- in a store without cells from the number on there are none
pub own-none : (P : Problem) (s : Store) → AreOwn P (length s.cells) s
own-none P s = record {
  labelled = record {
    built = λ r c l e. (let k = get-within s.cells r c e in absurd (omega (arith, l, k)));
    names = λ r k i c l e p. (let n = get-within s.cells r c e in absurd (omega (arith, l, n)));
  };
  cells = λ r c l e. (let k = get-within s.cells r c e in absurd (omega (arith, l, k)));
}

search-bound : (P : Problem) (sort : Sort) (r : ℕ) → IsTrue (is_search_cell P (variable sort None)) → IsTrue (is_search_cell P (variable sort (Some r)))
search-bound P TermSort r h = h
search-bound P MarkSort r h = h
search-bound P StringSort r h = h

before-bound : (old new : Store) → BindsOnly old new → (r : ℕ) (c : Cell) → slice_get new.cells r ≡ Some c → (d : Cell) × (slice_get old.cells r ≡ Some d)
before-bound old new b r c e = let l = get-within new.cells r c e in let n = b.same_length in get-there old.cells r (omega (arith, l, n))

pub own-binds : (P : Problem) (base : ℕ) (old new : Store) → IsTrue (is_store old) → BindsOnly old new → NamesFrom base new → AreOwn P base old → AreOwn P base new
own-binds P base old new st b names h = record {
  labelled = labelled-goes_on P (λ r. base ≤ r) (λ r. base ≤ r) old new st goes h.labelled;
  cells = λ r c l e.
      let (d, f) = before-bound old new b r c e in
      let k = h.cells r d l f in
      elim (b.cells r d f) [
        | inl same ↦ subst (λ x. IsTrue (is_search_cell P x)) (same-some (slice_get new.cells r) d c same e) k
        | inr bound ↦ subst (λ x. IsTrue (is_search_cell P x)) (same-some (slice_get new.cells r) (variable bound.0 (Some bound.1)) c bound.3 e) (search-bound P bound.0 bound.1 (subst (λ x. IsTrue (is_search_cell P x)) bound.2 k))
      ];
}
  where
    goes : GoesOn P (λ r. base ≤ r) (λ r. base ≤ r) old new
    goes = record {
      kept = λ r o. o;
      back = λ r l o. o;
      others = λ r d e. sorts-of_bound old new b r (sort_of d) (ap (option_map sort_of) e);
      old_cells = λ r d o e. elim (b.cells r d e) [
        | inl same ↦ inl same
        | inr bound ↦ inr (bound.0, bound.1, bound.2, bound.3, names-own base new names r bound.1 0 (variable bound.0 (Some bound.1)) o bound.3 refl)
      ];
      new_parts = λ r k c l o e p. names-own base new names r k p.0 c o e p.1;
      new_built = λ r c l o e. (let m = get-within new.cells r c e in let n = b.same_length in absurd (omega (arith, l, m, n)));
      below = get-there old.cells;
    }
