-- What a search keeps of its own cells through bindings and new cells: no string without a binding, and cells that are built right.
use Rattle.std.proofs.Common.{◌≡◌, ◌⊎◌, ℕ, zero, suc, ◌<◌, ◌≤◌, List, [], ◌∷◌, length, Bool, false, ◌&&◌, IsTrue, refl, sym, ◌∙◌, ap, ap₂, subst, Option, Some, None, option_map, slice_get, inl, inr, arith, eqb, eqb-true, eq-eqb, if◌then◌else◌}
use Rattle.std.specs.Option.{option_map_or}
use Rattle.std.proofs.lemmas.Bool.{false≢true, cases_Bool, cases_lt}
use Rattle.std.proofs.lemmas.Option.{slice_get_within}
use Rattle.plain_laws.proofs.Options.{same-some}
use Rattle.calculus.specs.declared.sort.Sort.{Sort}
use Rattle.calculus.specs.declared.sort.Sort.TheVariants.{TermSort}
use Rattle.calculus.specs.Syntax.{Problem}
use Rattle.calculus.specs.Ground.{common, g_spare_mark, no_marks, more_marks, term, steps}
use Rattle.calculus.specs.Equality.{sort_eq}
use Rattle.calculus.specs.Skolem.{is_delta_position, is_pi_position, fits_way}
use Rattle.store_theory.specs.Stores.{Cell, variable, fun_cell, eigen_cell, new_cell, string_cell, Store, sort_of, parts_of, has_sort_at, is_store}
use Rattle.search_theory.specs.LabelledCells.{sort_values, is_labelled_cell, AreLabelled}
use Rattle.search_theory.specs.CellsIn.{IsPart}
use Rattle.search_theory.proofs.GeneralLaws.{part-cell}

-- the old cell d stays, or it is a variable that was bound to a cell of In
abbrev pub StaysOrBinds : (ℕ → Type 0) → Store → ℕ → Cell → Type 0
StaysOrBinds In new r d = (slice_get new.cells r ≡ Some d) ⊎ ((sort : Sort) × (k : ℕ) × (d ≡ variable sort None) × (slice_get new.cells r ≡ Some (variable sort (Some k))) × In k)

-- variables of the old set were bound to cells of the new one, and the new set has besides new cells alone, that are built right over it
pub record GoesOn (P : Problem) (Old New : ℕ → Type 0) (old new : Store) : Type 0 where
  pub kept : (r : ℕ) → Old r → New r
  pub back : (r : ℕ) → r < length old.cells → New r → Old r
  pub others : (r : ℕ) (d : Cell) → slice_get old.cells r ≡ Some d → option_map sort_of (slice_get new.cells r) ≡ Some (sort_of d)
  pub old_cells : (r : ℕ) (d : Cell) → Old r → slice_get old.cells r ≡ Some d → StaysOrBinds New new r d
  pub new_parts : (r k : ℕ) (c : Cell) → length old.cells ≤ r → New r → slice_get new.cells r ≡ Some c → IsPart k (parts_of c) → New k
  pub new_built : (r : ℕ) (c : Cell) → length old.cells ≤ r → New r → slice_get new.cells r ≡ Some c → IsTrue (is_labelled_cell P new c)
  -- each cell of the new set below is an old cell
  pub below : (r : ℕ) → r < length old.cells → (d : Cell) × (slice_get old.cells r ≡ Some d)

-- sorts of old cells stay
sort-stays : (P : Problem) (Old New : ℕ → Type 0) (old new : Store) → GoesOn P Old New old new → (sort : Sort) (r : ℕ) (d : Cell) → slice_get old.cells r ≡ Some d → has_sort_at new sort r ≡ has_sort_at old sort r
sort-stays P Old New old new h sort r d e = ap (λ (o : Option Sort). option_map_or (sort_eq sort) o false) (h.others r d e ∙ sym (ap (option_map sort_of) e))

values-stay : (P : Problem) (Old New : ℕ → Type 0) (old new : Store) → GoesOn P Old New old new → (rs : List ℕ) → ((k : ℕ) → IsPart k rs → (d : Cell) × (slice_get old.cells k ≡ Some d)) → sort_values new rs ≡ sort_values old rs
values-stay P Old New old new h [] p = refl
values-stay P Old New old new h (r ∷ rs) p =
    let d = p r (0, refl) in
    ap₂ (λ (b : Bool) vs. (if b then term (common 0) else steps (more_marks (g_spare_mark 0) no_marks)) ∷ vs) (sort-stays P Old New old new h TermSort r d.0 d.1) (values-stay P Old New old new h rs (λ k q. p k (suc q.0, q.1)))

labelled-stays : (P : Problem) (Old New : ℕ → Type 0) (old new : Store) → GoesOn P Old New old new → (c : Cell) → ((k : ℕ) → IsPart k (parts_of c) → (d : Cell) × (slice_get old.cells k ≡ Some d)) → IsTrue (is_labelled_cell P old c) → IsTrue (is_labelled_cell P new c)
labelled-stays P Old New old new h (variable sort b) p k = refl
labelled-stays P Old New old new h (fun_cell f rs) p k = k
labelled-stays P Old New old new h (eigen_cell x rs) p k = ap (λ vs. is_delta_position P x && fits_way P x vs) (values-stay P Old New old new h rs p) ∙ k
labelled-stays P Old New old new h (new_cell x rs) p k = ap (λ vs. is_pi_position P x && fits_way P x vs) (values-stay P Old New old new h rs p) ∙ k
labelled-stays P Old New old new h (string_cell rs) p k = k

-- a cell of the new set is new, or an old one that stayed or was bound
pub data CellOf (P : Problem) (Old New : ℕ → Type 0) (old new : Store) (r : ℕ) (c : Cell) : Type 0 where
  is_new : length old.cells ≤ r → CellOf P Old New old new r c
  stayed : Old r → slice_get old.cells r ≡ Some c → CellOf P Old New old new r c
  was_bound : (sort : Sort) (k : ℕ) → Old r → slice_get old.cells r ≡ Some (variable sort None) → c ≡ variable sort (Some k) → New k → CellOf P Old New old new r c

cell-of : (P : Problem) (Old New : ℕ → Type 0) (old new : Store) → GoesOn P Old New old new → (r : ℕ) (c : Cell) → New r → slice_get new.cells r ≡ Some c → CellOf P Old New old new r c
cell-of P Old New old new h r c i e = elim (cases_lt r (length old.cells)) [
  | inr l ↦ is_new l
  | inl l ↦ (let d = h.below r l in let o = h.back r l i in by d.0 d.1 o (h.old_cells r d.0 o d.1))
]
  where
    by : (d : Cell) → slice_get old.cells r ≡ Some d → Old r → StaysOrBinds New new r d → CellOf P Old New old new r c
    by d f o (inl g) = stayed o (f ∙ ap Some (same-some (slice_get new.cells r) d c g e))
    by d f o (inr (sort, k, q, g, w)) = was_bound sort k o (f ∙ ap Some q) (sym (same-some (slice_get new.cells r) (variable sort (Some k)) c g e)) w

-- the cells of the new set are built right
pub labelled-goes_on : (P : Problem) (Old New : ℕ → Type 0) (old new : Store) → IsTrue (is_store old) → GoesOn P Old New old new → AreLabelled P Old old → AreLabelled P New new
labelled-goes_on P Old New old new st h a = record {
  built = λ r c i e. built r c i e (cell-of P Old New old new h r c i e);
  names = λ r k j x i e p. parts r k x i e (j, p) (cell-of P Old New old new h r x i e);
}
  where
    built : (r : ℕ) (c : Cell) → New r → slice_get new.cells r ≡ Some c → CellOf P Old New old new r c → IsTrue (is_labelled_cell P new c)
    built r c i e (is_new l) = h.new_built r c l i e
    built r c i e (stayed o f) = labelled-stays P Old New old new h c (λ k p. part-cell old st r k c f p) (a.built r c o f)
    built r c i e (was_bound sort k o f q w) = subst (λ x. IsTrue (is_labelled_cell P new x)) (sym q) refl

    parts : (r k : ℕ) (x : Cell) → New r → slice_get new.cells r ≡ Some x → IsPart k (parts_of x) → CellOf P Old New old new r x → New k
    parts r k x i e p (is_new l) = h.new_parts r k x l i e p
    parts r k x i e p (stayed o f) = h.kept k (a.names r k p.0 x o f p.1)
    parts r k x i e p (was_bound sort j o f q w) = one (subst (λ y. IsPart k (parts_of y)) q p)
      where
        one : IsPart k (j ∷ []) → New k
        one (zero, z) = let same : j ≡ k = cc z in subst New same w
        one (suc n, z) = cc z

-- ---- one cell more

some-cell : (s : Store) (r : ℕ) → r < length s.cells → (d : Cell) × (slice_get s.cells r ≡ Some d)
some-cell s r l = each s.cells r l
  where
    each : (cs : List Cell) (n : ℕ) → n < length cs → (d : Cell) × (slice_get cs n ≡ Some d)
    each [] n k = absurd (omega (arith, k))
    each (c ∷ cs) zero k = (c, refl)
    each (c ∷ cs) (suc n) k = each cs n (omega (arith, k))

-- ---- one binding

-- the unbound variable v is bound to the cell k, and the other cells stay
pub record IsBoundAt (old new : Store) (v : ℕ) (sort : Sort) (k : ℕ) : Type 0 where
  pub size : length new.cells ≡ length old.cells
  pub was : slice_get old.cells v ≡ Some (variable sort None)
  pub is : slice_get new.cells v ≡ Some (variable sort (Some k))
  pub rest : (r : ℕ) → ¬ (r ≡ v) → slice_get new.cells r ≡ slice_get old.cells r

pub goes_on-bound : (P : Problem) (Old : ℕ → Type 0) (old new : Store) (v : ℕ) (sort : Sort) (k : ℕ) → IsBoundAt old new v sort k → (Old v → Old k) → GoesOn P Old Old old new
goes_on-bound P Old old new v sort k b inside = record {
  kept = λ r o. o;
  back = λ r l o. o;
  others = λ r d e. elim (cases_Bool (eqb r v)) [
    | inl q ↦ (let same = eqb-true r v q in let z = same-some (slice_get old.cells v) d (variable sort None) (sym (ap (slice_get old.cells) same) ∙ e) b.was in ap (λ x. option_map sort_of (slice_get new.cells x)) same ∙ ap (option_map sort_of) b.is ∙ ap (λ x. Some (sort_of x)) (sym z))
    | inr q ↦ ap (option_map sort_of) (b.rest r (λ s. false≢true (sym q ∙ eq-eqb r v s)) ∙ e)
  ];
  old_cells = λ r d o e. elim (cases_Bool (eqb r v)) [
    | inl q ↦ (let same = eqb-true r v q in let z = same-some (slice_get old.cells v) d (variable sort None) (sym (ap (slice_get old.cells) same) ∙ e) b.was in inr (sort, k, z, ap (slice_get new.cells) same ∙ b.is, inside (subst Old same o)))
    | inr q ↦ inl (b.rest r (λ s. false≢true (sym q ∙ eq-eqb r v s)) ∙ e)
  ];
  new_parts = λ r j x l i e p. (let m = slice_get_within new.cells r x e in let n = b.size in absurd (omega (arith, l, m, n)));
  new_built = λ r x l i e. (let m = slice_get_within new.cells r x e in let n = b.size in absurd (omega (arith, l, m, n)));
  below = some-cell old;
}
