-- Cells from a number on stay built right as cells come over them and their variables are bound.
use Rattle.std.proofs.Common.{◌≡◌, ◌≤◌, ℕ, zero, suc, List, [], ◌∷◌, length, IsTrue, refl, sym, ◌∙◌, ap, subst, None, Some, option_map, slice_get, inl, inr, arith, nat_le, le-leb, leb-true}
use Rattle.std.specs.List.{list_all}
use Rattle.std.proofs.lemmas.Bool.{and_from}
use Rattle.plain_laws.proofs.Every.{all-at}
use Rattle.plain_laws.proofs.Places.{get-front, get-there, get-within}
use Rattle.calculus.specs.Syntax.{Problem}
use Rattle.calculus.specs.declared.sort.Sort.{Sort}
use Rattle.store_theory.specs.Bindings.{BindsOnly, BindsWithin, NamesFrom, with_cell}
use Rattle.store_theory.specs.Stores.{Cell, variable, Store, is_store, parts_of, sort_of}
use Rattle.search_theory.specs.LabelledCells.{AreLabelled, is_labelled_cell}
use Rattle.search_theory.proofs.BuildingLaws.{get-more}
use Rattle.search_theory.proofs.KeepingLaws.{GoesOn, IsBoundAt, goes_on-bound, labelled-goes_on}
use Rattle.search_theory.specs.CellsIn.{IsPart}
use Rattle.search_theory.proofs.WithinLaws.{names-within}

abbrev pub IsFrom : ℕ → ℕ → Type 0
IsFrom base r = base ≤ r

all-from : (base : ℕ) (rs : List ℕ) → ((i k : ℕ) → slice_get rs i ≡ Some k → base ≤ k) → IsTrue (list_all (nat_le base) rs)
all-from base [] h = refl
all-from base (r ∷ rs) h = and_from (nat_le base r) (list_all (nat_le base) rs) (le-leb base r (h 0 r refl)) (all-from base rs (λ i k e. h (suc i) k e))

pub names-labelled : (P : Problem) (base : ℕ) (s : Store) → AreLabelled P (IsFrom base) s → NamesFrom base s
names-labelled P base s h n c l e = all-from base (parts_of c) (λ i k p. h.names n k i c l e p)

pub part-from : (base : ℕ) (rs : List ℕ) → IsTrue (list_all (nat_le base) rs) → (k : ℕ) → IsPart k rs → base ≤ k
part-from base rs h k (i, p) = leb-true base k (all-at (nat_le base) rs i k h p)

-- ---- one cell more

pub labelled-plus : (P : Problem) (base : ℕ) (s : Store) (c : Cell) → IsTrue (is_store s) → IsTrue (list_all (nat_le base) (parts_of c)) → IsTrue (is_labelled_cell P (with_cell c s) c) → AreLabelled P (IsFrom base) s → AreLabelled P (IsFrom base) (with_cell c s)
labelled-plus P base s c st parts built h = labelled-goes_on P (IsFrom base) (IsFrom base) s (with_cell c s) st goes h
  where
    last : (r : ℕ) (x : Cell) → length s.cells ≤ r → slice_get (with_cell c s).cells r ≡ Some x → x ≡ c
    last r x l e = elim (get-more s.cells c r x e) [
      | inl old ↦ (let k = get-within s.cells r x old in absurd (omega (arith, k, l)))
      | inr new ↦ sym new.1
    ]

    goes : GoesOn P (IsFrom base) (IsFrom base) s (with_cell c s)
    goes = record {
      kept = λ r o. o;
      back = λ r l o. o;
      others = λ r d e. ap (option_map sort_of) (get-front s.cells (c ∷ []) r d e);
      old_cells = λ r d o e. inl (get-front s.cells (c ∷ []) r d e);
      new_parts = λ r k x l o e p. part-from base (parts_of c) parts k (subst (λ y. IsPart k (parts_of y)) (last r x l e) p);
      new_built = λ r x l o e. subst (λ y. IsTrue (is_labelled_cell P (with_cell c s) y)) (sym (last r x l e)) built;
      below = get-there s.cells;
    }

-- ---- bindings

pub labelled-bound : (P : Problem) (base : ℕ) (old new : Store) (v : ℕ) (sort : Sort) (k : ℕ) → IsTrue (is_store old) → IsBoundAt old new v sort k → base ≤ k → AreLabelled P (IsFrom base) old → AreLabelled P (IsFrom base) new
labelled-bound P base old new v sort k st b l h = labelled-goes_on P (IsFrom base) (IsFrom base) old new st (goes_on-bound P (IsFrom base) old new v sort k b (λ o. l)) h

pub labelled-binds : (P : Problem) (base : ℕ) (old new : Store) → IsTrue (is_store old) → BindsOnly old new → NamesFrom base new → AreLabelled P (IsFrom base) old → AreLabelled P (IsFrom base) new
labelled-binds P base old new st b names h = labelled-goes_on P (IsFrom base) (IsFrom base) old new st goes h
  where
    goes : GoesOn P (IsFrom base) (IsFrom base) old new
    goes = record {
      kept = λ r o. o;
      back = λ r l o. o;
      others = λ r d e. elim (b.cells r d e) [
        | inl same ↦ ap (option_map sort_of) same
        | inr (sort, k, q, at) ↦ ap (option_map sort_of) at ∙ ap (λ x. Some (sort_of x)) (sym q)
      ];
      old_cells = λ r d o e. elim (b.cells r d e) [
        | inl same ↦ inl same
        | inr (sort, k, q, at) ↦ inr (sort, k, q, at, part-from base (k ∷ []) (names r (variable sort (Some k)) o at) k (0, refl))
      ];
      new_parts = λ r k c l o e p. part-from base (parts_of c) (names r c o e) k p;
      new_built = λ r c l o e. (let m = get-within new.cells r c e in let n = b.same_length in absurd (omega (arith, l, m, n)));
      below = get-there old.cells;
    }

-- two cells from the number on were unified
pub labelled-unified : (P : Problem) (base a c : ℕ) (old new : Store) → IsTrue (is_store old) → BindsOnly old new → BindsWithin a c old new → base ≤ a → base ≤ c → AreLabelled P (IsFrom base) old → AreLabelled P (IsFrom base) new
labelled-unified P base a c old new st b within la lc h = labelled-binds P base old new st b (names-within base a c old new b within (names-labelled P base old h) la lc) h
