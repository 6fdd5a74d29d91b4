-- One more place in a row of the table.
use Rattle.std.proofs.Common.{◌≡◌, ◌≢◌, ℕ, zero, suc, ◌<◌, List, [], ◌∷◌, ◌++◌, ◌==◌, true, false, length, get_or, set, map, refl, sym, ◌∙◌, ap, subst, inl, inr, arith, eqb-true, eq-eqb, append-nil}
use Rattle.std.proofs.lemmas.Bool.{false≢true, cases_Bool}
use Rattle.matrix_build.specs.MatrixView.{the_place, if_equal, places_at}
use Rattle.matrix_build.specs.declared.index.Place.{Place}
use Rattle.matrix_build.specs.declared.index.Places.{Places}

map-last : (ps : List Place) (p : Place) → map the_place (ps ++ p ∷ []) ≡ map the_place ps ++ the_place p ∷ []
map-last [] p = refl
map-last (q ∷ ps) p = ap (λ xs. the_place q ∷ xs) (map-last ps p)

at-row : (rows : List Places) (m : ℕ) (row : Places) → m < length rows → row ≡ get_or rows m row → places_at m rows ≡ map the_place row.items.items
at-row [] m row h e = absurd (omega arith)
at-row (r ∷ rows) zero row h e = ap (λ (x : Places). map the_place x.items.items) (sym e)
at-row (r ∷ rows) (suc m) row h e = at-row rows m row (omega arith) e

set-same : (rows : List Places) (m : ℕ) (row : Places) → m < length rows → places_at m (set rows m row) ≡ map the_place row.items.items
set-same [] m row h = absurd (omega arith)
set-same (r ∷ rows) zero row h = refl
set-same (r ∷ rows) (suc m) row h = set-same rows m row (omega arith)

set-other : (rows : List Places) (m n : ℕ) (row : Places) → m ≢ n → places_at n (set rows m row) ≡ places_at n rows
set-other [] m n row h = refl
set-other (r ∷ rows) zero zero row h = absurd (h refl)
set-other (r ∷ rows) zero (suc n) row h = refl
set-other (r ∷ rows) (suc m) zero row h = refl
set-other (r ∷ rows) (suc m) (suc n) row h = set-other rows m n row (λ e. h (ap suc e))

pub placed : (rows : List Places) (m : ℕ) (before after : Places) (p : Place) (n : ℕ) → m < length rows → before ≡ get_or rows m before → after.items.items ≡ before.items.items ++ p ∷ [] → places_at n (set rows m after) ≡ places_at n rows ++ if_equal m n (the_place p)
placed rows m before after p n h e f = elim (cases_Bool (m == n)) [
  | inl q ↦
      let here : places_at m (set rows m after) ≡ places_at m rows ++ the_place p ∷ [] = set-same rows m after h ∙ ap (map the_place) f ∙ map-last before.items.items p ∙ ap (λ ps. ps ++ the_place p ∷ []) (sym (at-row rows m before h e)) in
      rw q (subst (λ k. places_at k (set rows m after) ≡ places_at k rows ++ the_place p ∷ []) (eqb-true m n q) here)
  | inr q ↦ rw q (set-other rows m n after (λ r. false≢true (sym q ∙ eq-eqb m n r)) ∙ sym (append-nil (places_at n rows)))
]
