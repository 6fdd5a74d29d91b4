-- Cells that wait are ever lighter, so no cell waits for itself, and each that was asked for is made when none waits any more.
use Rattle.std.proofs.Common.{◌≡◌, ◌⊎◌, ◌+◌, ◌<◌, ◌≤◌, ℕ, zero, suc, List, [], ◌∷◌, ◌++◌, Bool, true, false, length, set, refl, sym, ◌∙◌, ap, subst, inl, inr, Option, None, Some, slice_get, arith}
use Rattle.plain_laws.proofs.Every.{each-parts, each-push}
use Rattle.calculus.specs.declared.sort.Sort.TheVariants.{TermSort, MarkSort, StringSort}
use Rattle.calculus.specs.Ground as tree
use Rattle.calculus.specs.Sizes.{g_term_size, g_terms_size, mark_size, mark_list_size, values_size}
use Rattle.store_theory.specs.Bindings.{IsEnd}
use Rattle.store_theory.specs.Stores.{Cell, variable, fun_cell, eigen_cell, new_cell, string_cell, is_bound, Store, CellValue, a_term, a_mark, a_string, Solution, cons_term, terms_at, cons_value, values_at, cons_mark, marks_at, join_label, label_at}
use Rattle.store_theory.proofs.SolutionLaws.{ends-same}
use Rattle.term_store.specs.declared.cell.Ref.{Ref}
use Rattle.formula_core.specs.GroundLists.{no_list}
use Rattle.tableau_reading.specs.Grounds.{AreSparesAt, HasSparesAt, IsBegun, IsGroundOf, IsReading, IsSpareAt, Needs, home_of, needs_of, or_nothing}
use Rattle.tableau_reading.specs.Waiting.{AreFalling, AreHeavier, AreWaiting, IsAsked, IsMade, IsMadeIn, IsUnmade, WaitBySpares, Waits, unasked, weight}
use Rattle.tableau_reading.specs.declared.grounds.Ground.{Ground}
use Rattle.tableau_reading.specs.declared.grounds.Grounds.{Grounds}
use Rattle.tableau_reading.specs.declared.homes.Homes.{Homes}
use Rattle.tableau_reading.proofs.MakingLaws.{set-at}

-- ---- a value is larger than those that it is made of

terms-lighter : (σ : Solution) (rs : List ℕ) (ts : tree.GroundTerms) → terms_at σ rs ≡ Some ts → (i k : ℕ) → slice_get rs i ≡ Some k → weight (σ k) < g_terms_size ts
terms-lighter σ [] ts e i k at = let z : None ≡ Some k = at in absurd (cc z)
terms-lighter σ (r ∷ rs) ts e i k at = by (σ r) (terms_at σ rs) refl refl e i at (λ us h j x. terms-lighter σ rs us h j k x)
  where
    by : (v : CellValue) (o : Option tree.GroundTerms) → σ r ≡ v → terms_at σ rs ≡ o → cons_term v o ≡ Some ts → (i : ℕ) → slice_get (r ∷ rs) i ≡ Some k
        → ((us : tree.GroundTerms) → terms_at σ rs ≡ Some us → (j : ℕ) → slice_get rs j ≡ Some k → weight (σ k) < g_terms_size us) → weight (σ k) < g_terms_size ts
    by (a_term t) (Some us) f g z zero x ih =
        let same : r ≡ k = let y : Some r ≡ Some k = x in cc y in
        let whole : tree.more_g_terms t us ≡ ts = cc z in
        let w : weight (σ k) ≡ g_term_size t = ap (λ n. weight (σ n)) (sym same) ∙ ap weight f in
        let l : suc (g_term_size t + g_terms_size us) ≡ g_terms_size ts = ap g_terms_size whole in
        omega (arith, w, l)
    by (a_term t) (Some us) f g z (suc j) x ih =
        let whole : tree.more_g_terms t us ≡ ts = cc z in
        let l : suc (g_term_size t + g_terms_size us) ≡ g_terms_size ts = ap g_terms_size whole in
        omega (arith, ih us g j x, l)
    by (a_term t) None f g z j x ih = absurd (cc z)
    by (a_mark m) o f g z j x ih = absurd (cc z)
    by (a_string w) o f g z j x ih = absurd (cc z)

values-lighter : (σ : Solution) (rs : List ℕ) (vs : tree.Values) → values_at σ rs ≡ Some vs → (i k : ℕ) → slice_get rs i ≡ Some k → weight (σ k) < values_size vs
values-lighter σ [] vs e i k at = let z : None ≡ Some k = at in absurd (cc z)
values-lighter σ (r ∷ rs) vs e i k at = by (σ r) (values_at σ rs) refl refl e i at (λ us h j x. values-lighter σ rs us h j k x)
  where
    by : (v : CellValue) (o : Option tree.Values) → σ r ≡ v → values_at σ rs ≡ o → cons_value v o ≡ Some vs → (i : ℕ) → slice_get (r ∷ rs) i ≡ Some k
        → ((us : tree.Values) → values_at σ rs ≡ Some us → (j : ℕ) → slice_get rs j ≡ Some k → weight (σ k) < values_size us) → weight (σ k) < values_size vs
    by (a_term t) (Some us) f g z zero x ih =
        let same : r ≡ k = let y : Some r ≡ Some k = x in cc y in
        let whole : tree.more_values (tree.term t) us ≡ vs = cc z in
        let w : weight (σ k) ≡ g_term_size t = ap (λ n. weight (σ n)) (sym same) ∙ ap weight f in
        let l : suc (suc (g_term_size t) + values_size us) ≡ values_size vs = ap values_size whole in
        omega (arith, w, l)
    by (a_string w) (Some us) f g z zero x ih =
        let same : r ≡ k = let y : Some r ≡ Some k = x in cc y in
        let whole : tree.more_values (tree.steps (tree.marks_tree w)) us ≡ vs = cc z in
        let n : weight (σ k) ≡ mark_list_size w = ap (λ n. weight (σ n)) (sym same) ∙ ap weight f in
        let l : suc (suc (mark_list_size w) + values_size us) ≡ values_size vs = ap values_size whole in
        omega (arith, n, l)
    by (a_term t) (Some us) f g z (suc j) x ih =
        let whole : tree.more_values (tree.term t) us ≡ vs = cc z in
        let l : suc (suc (g_term_size t) + values_size us) ≡ values_size vs = ap values_size whole in
        omega (arith, ih us g j x, l)
    by (a_string w) (Some us) f g z (suc j) x ih =
        let whole : tree.more_values (tree.steps (tree.marks_tree w)) us ≡ vs = cc z in
        let l : suc (suc (mark_list_size w) + values_size us) ≡ values_size vs = ap values_size whole in
        omega (arith, ih us g j x, l)
    by (a_term t) None f g z j x ih = absurd (cc z)
    by (a_string w) None f g z j x ih = absurd (cc z)
    by (a_mark m) o f g z j x ih = absurd (cc z)

marks-lighter : (σ : Solution) (rs : List ℕ) (w : List tree.GroundMark) → marks_at σ rs ≡ Some w → (i k : ℕ) → slice_get rs i ≡ Some k → weight (σ k) < mark_list_size w
marks-lighter σ [] w e i k at = let z : None ≡ Some k = at in absurd (cc z)
marks-lighter σ (r ∷ rs) w e i k at = by (σ r) (marks_at σ rs) refl refl e i at (λ us h j x. marks-lighter σ rs us h j k x)
  where
    by : (v : CellValue) (o : Option (List tree.GroundMark)) → σ r ≡ v → marks_at σ rs ≡ o → cons_mark v o ≡ Some w → (i : ℕ) → slice_get (r ∷ rs) i ≡ Some k
        → ((us : List tree.GroundMark) → marks_at σ rs ≡ Some us → (j : ℕ) → slice_get rs j ≡ Some k → weight (σ k) < mark_list_size us) → weight (σ k) < mark_list_size w
    by (a_mark m) (Some us) f g z zero x ih =
        let same : r ≡ k = let y : Some r ≡ Some k = x in cc y in
        let whole : m ∷ us ≡ w = cc z in
        let n : weight (σ k) ≡ mark_size m = ap (λ n. weight (σ n)) (sym same) ∙ ap weight f in
        let l : suc (mark_size m + mark_list_size us) ≡ mark_list_size w = ap mark_list_size whole in
        omega (arith, n, l)
    by (a_mark m) (Some us) f g z (suc j) x ih =
        let whole : m ∷ us ≡ w = cc z in
        let l : suc (mark_size m + mark_list_size us) ≡ mark_list_size w = ap mark_list_size whole in
        omega (arith, ih us g j x, l)
    by (a_mark m) None f g z j x ih = absurd (cc z)
    by (a_term t) o f g z j x ih = absurd (cc z)
    by (a_string v) o f g z j x ih = absurd (cc z)

sizes-append : (v w : List tree.GroundMark) → mark_list_size (v ++ w) ≡ mark_list_size v + mark_list_size w
sizes-append [] w = omega arith
sizes-append (m ∷ v) w = let h = sizes-append v w in omega (arith, h)

-- a string may be all of the label
label-lighter : (σ : Solution) (rs : List ℕ) (w : List tree.GroundMark) → label_at σ rs ≡ Some w → (i k : ℕ) → slice_get rs i ≡ Some k → weight (σ k) ≤ mark_list_size w
label-lighter σ [] w e i k at = let z : None ≡ Some k = at in absurd (cc z)
label-lighter σ (r ∷ rs) w e i k at = by (σ r) (label_at σ rs) refl refl e i at (λ us h j x. label-lighter σ rs us h j k x)
  where
    by : (v : CellValue) (o : Option (List tree.GroundMark)) → σ r ≡ v → label_at σ rs ≡ o → join_label v o ≡ Some w → (i : ℕ) → slice_get (r ∷ rs) i ≡ Some k
        → ((us : List tree.GroundMark) → label_at σ rs ≡ Some us → (j : ℕ) → slice_get rs j ≡ Some k → weight (σ k) ≤ mark_list_size us) → weight (σ k) ≤ mark_list_size w
    by (a_mark m) (Some us) f g z zero x ih =
        let same : r ≡ k = let y : Some r ≡ Some k = x in cc y in
        let whole : m ∷ us ≡ w = cc z in
        let n : weight (σ k) ≡ mark_size m = ap (λ n. weight (σ n)) (sym same) ∙ ap weight f in
        let l : suc (mark_size m + mark_list_size us) ≡ mark_list_size w = ap mark_list_size whole in
        omega (arith, n, l)
    by (a_mark m) (Some us) f g z (suc j) x ih =
        let whole : m ∷ us ≡ w = cc z in
        let l : suc (mark_size m + mark_list_size us) ≡ mark_list_size w = ap mark_list_size whole in
        omega (arith, ih us g j x, l)
    by (a_string v) (Some us) f g z zero x ih =
        let same : r ≡ k = let y : Some r ≡ Some k = x in cc y in
        let whole : v ++ us ≡ w = cc z in
        let n : weight (σ k) ≡ mark_list_size v = ap (λ n. weight (σ n)) (sym same) ∙ ap weight f in
        let l : mark_list_size v + mark_list_size us ≡ mark_list_size w = sym (sizes-append v us) ∙ ap mark_list_size whole in
        omega (arith, n, l)
    by (a_string v) (Some us) f g z (suc j) x ih =
        let whole : v ++ us ≡ w = cc z in
        let l : mark_list_size v + mark_list_size us ≡ mark_list_size w = sym (sizes-append v us) ∙ ap mark_list_size whole in
        omega (arith, ih us g j x, l)
    by (a_mark m) None f g z j x ih = absurd (cc z)
    by (a_string v) None f g z j x ih = absurd (cc z)
    by (a_term t) o f g z j x ih = absurd (cc z)

nothing-there : (rs : List ℕ) (i k : ℕ) → rs ≡ [] → slice_get rs i ≡ Some k → ⊥
nothing-there rs i k e at = let z : None ≡ Some k = ap (λ xs. slice_get xs i) (sym e) ∙ at in cc z

spare-lighter : (home : Option (List ℕ)) (σ : Solution) (v : ℕ) (rs : List ℕ) → rs ≡ or_nothing home → IsSpareAt home σ TermSort v → (i k : ℕ) → slice_get rs i ≡ Some k → weight (σ k) < weight (σ v)
spare-lighter None σ v rs q sp i k at = absurd (nothing-there rs i k q at)
spare-lighter (Some qs) σ v rs q (w, l, is) i k at =
    let x : weight (σ k) ≤ mark_list_size w = label-lighter σ qs w l i k (ap (λ xs. slice_get xs i) (sym q) ∙ at) in
    let y : weight (σ v) ≡ suc (mark_list_size w) = ap weight is in
    omega (arith, x, y)

needs-lighter : (s : Store) (h : Homes) (v : ℕ) (rs : List ℕ) (σ : Solution) → IsEnd s v → Needs s h v rs → AreSparesAt s h σ → (i k : ℕ) → slice_get rs i ≡ Some k → weight (σ k) < weight (σ v)
needs-lighter s h v rs σ end n sp i k at = by n.cell n.stands n.needs (unbound end)
  where
    unbound : IsEnd s v → is_bound n.cell ≡ false
    unbound (d, f, u) = let q : d ≡ n.cell = let z : Some d ≡ Some n.cell = sym f ∙ n.stands in cc z in subst (λ y. is_bound y ≡ false) q u

    by : (c : Cell) → slice_get s.cells v ≡ Some c → rs ≡ needs_of h v c → is_bound c ≡ false → weight (σ k) < weight (σ v)
    by (variable TermSort None) e q u = spare-lighter (home_of h v) σ v rs q (sp.spares v TermSort e) i k at
    by (variable MarkSort None) e q u = absurd (nothing-there rs i k q at)
    by (variable StringSort None) e q u = absurd (nothing-there rs i k q at)
    by (variable sort (Some r)) e q u = absurd (cc u)
    by (fun_cell f qs) e q u =
        let (ts, a, b) = sp.solves v (fun_cell f qs) e in
        let x : weight (σ k) < g_terms_size ts = terms-lighter σ qs ts a i k (ap (λ xs. slice_get xs i) (sym q) ∙ at) in
        let y : weight (σ v) ≡ suc (g_terms_size ts) = ap weight b in
        omega (arith, x, y)
    by (eigen_cell p qs) e q u =
        let (vs, a, b) = sp.solves v (eigen_cell p qs) e in
        let x : weight (σ k) < values_size vs = values-lighter σ qs vs a i k (ap (λ xs. slice_get xs i) (sym q) ∙ at) in
        let y : weight (σ v) ≡ suc (values_size vs) = ap weight b in
        omega (arith, x, y)
    by (new_cell p qs) e q u =
        let (vs, a, b) = sp.solves v (new_cell p qs) e in
        let x : weight (σ k) < values_size vs = values-lighter σ qs vs a i k (ap (λ xs. slice_get xs i) (sym q) ∙ at) in
        let y : weight (σ v) ≡ suc (values_size vs) = ap weight b in
        omega (arith, x, y)
    by (string_cell qs) e q u =
        let (w, a, b) = sp.solves v (string_cell qs) e in
        let x : weight (σ k) < mark_list_size w = marks-lighter σ qs w a i k (ap (λ xs. slice_get xs i) (sym q) ∙ at) in
        let y : weight (σ v) ≡ mark_list_size w = ap weight b in
        omega (arith, x, y)

-- the end of one of the cells of which the value is made
pub unmade-lighter : (s : Store) (h : Homes) (v e : ℕ) (rs : List ℕ) (made : List (Option Ground)) → IsEnd s v → Needs s h v rs → IsUnmade s made rs e
    → (σ : Solution) → AreSparesAt s h σ → weight (σ e) < weight (σ v)
unmade-lighter s h v e rs made end n u σ sp =
    let x : weight (σ u.cell) < weight (σ v) = needs-lighter s h v rs σ end n sp u.place u.cell u.there in
    let y : weight (σ u.cell) ≡ weight (σ e) = ap weight (ends-same s σ u.cell e sp.solves u.ends) in
    omega (arith, x, y)

-- ---- lists of cells that wait

lighter-weaken : (σ : Solution) (n m : ℕ) (xs : List Ref) → n < m → AreHeavier σ m xs → AreHeavier σ n xs
lighter-weaken σ n m [] l h = tt
lighter-weaken σ n m (x ∷ xs) l h = ((let y : m < weight (σ x.0) = h.0 in omega (arith, l, y)), lighter-weaken σ n m xs l h.1)

falling-last : (σ : Solution) (xs : List Ref) (x : Ref) → AreFalling σ (xs ++ x ∷ []) → AreFalling σ xs × AreHeavier σ (weight (σ x.0)) xs
falling-last σ [] x h = (tt, tt)
falling-last σ (y ∷ xs) x h =
    let p = falling-last σ xs x h.1 in
    let q = each-parts (λ (r : Ref). weight (σ r.0) < weight (σ y.0)) xs (x ∷ []) h.0 in
    ((q.0, p.0), (q.1.0, p.1))

falling-more : (σ : Solution) (xs : List Ref) (x : Ref) → AreFalling σ xs → AreHeavier σ (weight (σ x.0)) xs → AreFalling σ (xs ++ x ∷ [])
falling-more σ [] x h k = (tt, tt)
falling-more σ (y ∷ xs) x h k = (each-push (λ (r : Ref). weight (σ r.0) < weight (σ y.0)) xs x h.0 k.0, falling-more σ xs x h.1 k.1)

heavier-there : (σ : Solution) (n k : ℕ) (xs : List Ref) → AreHeavier σ n xs → Waits xs k → n < weight (σ k)
heavier-there σ n k [] h q = absurd q
heavier-there σ n k (x ∷ xs) h q = elim q [
  | inl e ↦ subst (λ z. n < weight (σ z)) e h.0
  | inr r ↦ heavier-there σ n k xs h.1 r
]

waits-more : (xs ys : List Ref) (k : ℕ) → Waits xs k → Waits (xs ++ ys) k
waits-more [] ys k q = absurd q
waits-more (x ∷ xs) ys k q = elim q [
  | inl e ↦ inl e
  | inr r ↦ inr (waits-more xs ys k r)
]

waits-last : (xs : List Ref) (x : Ref) (k : ℕ) → x.0 ≡ k → Waits (xs ++ x ∷ []) k
waits-last [] x k e = inl e
waits-last (y ∷ xs) x k e = inr (waits-last xs x k e)

waits-apart : (xs : List Ref) (x : Ref) (k : ℕ) → Waits (xs ++ x ∷ []) k → Waits xs k ⊎ (x.0 ≡ k)
waits-apart [] x k q = elim q [
  | inl e ↦ inr e
  | inr r ↦ absurd r
]
waits-apart (y ∷ xs) x k q = elim q [
  | inl e ↦ inl (inl e)
  | inr r ↦ (elim (waits-apart xs x k r) [
    | inl p ↦ inl (inr p)
    | inr e ↦ inr e
  ])
]

-- ---- what is asked for and what is made

pub unasked-falls : (asked : List Bool) (i : ℕ) → slice_get asked i ≡ Some false → suc (unasked (set asked i true)) ≡ unasked asked
unasked-falls [] i e = let z : None ≡ Some false = e in absurd (cc z)
unasked-falls (true ∷ asked) zero e = let z : true ≡ false = cc e in absurd (cc z)
unasked-falls (false ∷ asked) zero e = refl
unasked-falls (true ∷ asked) (suc i) e = unasked-falls asked i e
unasked-falls (false ∷ asked) (suc i) e = ap suc (unasked-falls asked i e)

asked-kept : (asked : List Bool) (i r : ℕ) → slice_get asked r ≡ Some true → slice_get (set asked i true) r ≡ Some true
asked-kept [] zero r e = e
asked-kept [] (suc i) r e = e
asked-kept (x ∷ asked) zero zero e = refl
asked-kept (x ∷ asked) zero (suc r) e = e
asked-kept (x ∷ asked) (suc i) zero e = e
asked-kept (x ∷ asked) (suc i) (suc r) e = asked-kept asked i r e

set-there : {A : Type 0} (xs : List A) (i : ℕ) (y : A) → i < length xs → slice_get (set xs i y) i ≡ Some y
set-there [] i y l = absurd (omega (arith, l))
set-there (x ∷ xs) zero y l = refl
set-there (x ∷ xs) (suc i) y l = set-there xs i y (omega (arith, l))

made-kept : (made : List (Option Ground)) (i r : ℕ) (g : Ground) → IsMadeIn made r → IsMadeIn (set made i (Some g)) r
made-kept [] zero r g (x, e) = (x, e)
made-kept [] (suc i) r g (x, e) = (x, e)
made-kept (y ∷ made) zero zero g (x, e) = (g, refl)
made-kept (y ∷ made) zero (suc r) g (x, e) = (x, e)
made-kept (y ∷ made) (suc i) zero g (x, e) = (x, e)
made-kept (y ∷ made) (suc i) (suc r) g (x, e) = made-kept made i r g (x, e)

pub keeps-asked : (g new : Grounds) (i : ℕ) → new.asked.items ≡ set g.asked.items i true → (r : ℕ) → IsAsked g r → IsAsked new r
keeps-asked g new i e r h = ap (λ xs. slice_get xs r) e ∙ asked-kept g.asked.items i r h

pub keeps-made : (g mid new : Grounds) (i : ℕ) (x : Ground) → mid.made ≡ g.made → new.made.items ≡ set mid.made.items i (Some x) → (r : ℕ) → IsMade g r → IsMade new r
keeps-made g mid new i x same e r h = subst (λ xs. IsMadeIn xs r) (sym (e ∙ ap (λ v. set v.items i (Some x)) same)) (made-kept g.made.items i r x h)

pub same-made : (g new : Grounds) → new.made ≡ g.made → (r : ℕ) → IsMade g r → IsMade new r
same-made g new same r h = subst (λ v. IsMadeIn v.items r) (sym same) h

pub asked-there : (g new : Grounds) (i : ℕ) → i < length g.asked.items → new.asked.items ≡ set g.asked.items i true → IsAsked new i
asked-there g new i l e = ap (λ xs. slice_get xs i) e ∙ set-there g.asked.items i true l

-- ---- the stack

-- what waits for itself is heavier than itself
itself : (σ : Solution) (g : Grounds) (xs : List Ref) (top part : Ref) → AreWaiting σ g (xs ++ top ∷ []) → IsAsked g part.0 → ¬ (IsMade g part.0) → weight (σ part.0) < weight (σ top.0) → ⊥
itself σ g xs top part w a u l = elim (w.known part.0 a) [
  | inl m ↦ u m
  | inr q ↦ (elim (waits-apart xs top part.0 q) [
    | inl p ↦ (let h = heavier-there σ (weight (σ top.0)) part.0 xs (falling-last σ xs top w.falling).1 p in omega (arith, h, l))
    | inr e ↦ (let h = ap (λ z. weight (σ z)) e in omega (arith, h, l))
  ])
]

not-true : (asked : List Bool) (i : ℕ) → i < length asked → ¬ (slice_get asked i ≡ Some true) → slice_get asked i ≡ Some false
not-true [] i l n = absurd (omega (arith, l))
not-true (true ∷ asked) zero l n = absurd (n refl)
not-true (false ∷ asked) zero l n = refl
not-true (x ∷ asked) (suc i) l n = not-true asked i (omega (arith, l)) n

-- so the part was not asked for
pub part-new : (s : Store) (h : Homes) (g : Grounds) (xs : List Ref) (top part : Ref) → HasSparesAt s h → WaitBySpares s h g (xs ++ top ∷ []) → part.0 < length g.asked.items → ¬ (IsMade g part.0)
    → ((σ : Solution) → AreSparesAt s h σ → weight (σ part.0) < weight (σ top.0)) → slice_get g.asked.items part.0 ≡ Some false
part-new s h g xs top part (σ, sp) w n u l = not-true g.asked.items part.0 n (λ a. itself σ g xs top part (w σ sp) a u (l σ sp))

-- one cell more is asked for
pub waits-asked : (s : Store) (h : Homes) (g new : Grounds) (xs ys zs : List Ref) (top part : Ref) → WaitBySpares s h g (xs ++ top ∷ []) → new.made ≡ g.made → new.asked.items ≡ set g.asked.items part.0 true
    → ys ≡ xs ++ top ∷ [] → zs ≡ ys ++ part ∷ [] → ((σ : Solution) → AreSparesAt s h σ → weight (σ part.0) < weight (σ top.0)) → WaitBySpares s h new zs
waits-asked s h g new xs ys zs top part w made asked e f l = λ σ sp.
    let v = w σ sp in
    let p = falling-last σ xs top v.falling in
    let heavy : AreHeavier σ (weight (σ part.0)) (xs ++ top ∷ []) = each-push (λ (r : Ref). weight (σ part.0) < weight (σ r.0)) xs top (lighter-weaken σ (weight (σ part.0)) (weight (σ top.0)) xs (l σ sp) p.1) (l σ sp) in
    subst (AreWaiting σ new) (sym (f ∙ ap (λ rs. rs ++ part ∷ []) e)) (record {
      falling = falling-more σ (xs ++ top ∷ []) part v.falling heavy;
      known = λ k a. (elim (set-at g.asked.items part.0 k true true (sym (ap (λ rs. slice_get rs k) asked) ∙ a)) [
        | inl q ↦ inr (waits-last (xs ++ top ∷ []) part k (sym q.0))
        | inr q ↦ (elim (v.known k q) [
          | inl m ↦ inl (same-made g new made k m)
          | inr r ↦ inr (waits-more (xs ++ top ∷ []) (part ∷ []) k r)
        ])
      ]);
    })

-- the top is made
pub waits-made : (s : Store) (h : Homes) (g mid new : Grounds) (xs : List Ref) (top : Ref) (x : Ground) → WaitBySpares s h g (xs ++ top ∷ []) → top.0 < length g.made.items → mid.made ≡ g.made → mid.asked ≡ g.asked
    → new.made.items ≡ set mid.made.items top.0 (Some x) → new.asked ≡ mid.asked → WaitBySpares s h new xs
waits-made s h g mid new xs top x w l made asked noted same = λ σ sp.
    let v = w σ sp in
    let is : new.made.items ≡ set g.made.items top.0 (Some x) = noted ∙ ap (λ v. set v.items top.0 (Some x)) made in
    record {
      falling = (falling-last σ xs top v.falling).0;
      known = λ k a. (elim (v.known k (ap (λ v. slice_get v.items k) (sym (same ∙ asked)) ∙ a)) [
        | inl m ↦ inl (keeps-made g mid new top.0 x made noted k m)
        | inr q ↦ (elim (waits-apart xs top k q) [
          | inl p ↦ inr p
          | inr e ↦ inl (subst (IsMade new) e (x, ap (λ rs. slice_get rs top.0) is ∙ set-there g.made.items top.0 (Some x) l))
        ])
      ]);
    }

-- the first cell is asked for
pub waits-first : (s : Store) (h : Homes) (g new : Grounds) (none xs : List Ref) (end : Ref) → IsReading s h g → new.made ≡ g.made → new.asked.items ≡ set g.asked.items end.0 true → none ≡ [] → xs ≡ none ++ end ∷ [] → WaitBySpares s h new xs
waits-first s h g new none xs end k made asked n e = λ σ sp.
    subst (AreWaiting σ new) (sym (e ∙ ap (λ rs. rs ++ end ∷ []) n)) (record {
      falling = (tt, tt);
      known = λ r a. (elim (set-at g.asked.items end.0 r true true (sym (ap (λ rs. slice_get rs r) asked) ∙ a)) [
        | inl q ↦ inr (inl (sym q.0))
        | inr q ↦ inl (same-made g new made r (k.settled r q))
      ]);
    })

-- ---- beginning and end

pub begun-of : (s : Store) (h : Homes) (g : Grounds) → IsReading s h g → IsBegun s h g
begun-of s h g k = record { most = k.most; all = k.all; marked = k.marked; read = k.read }

-- no cell waits any more
pub last-made : (s : Store) (h : Homes) (g : Grounds) (xs : List Ref) (r : ℕ) → HasSparesAt s h → WaitBySpares s h g xs → length xs ≡ 0 → IsAsked g r → IsMade g r
last-made s h g [] r (σ, sp) w e a = elim ((w σ sp).known r a) [
  | inl m ↦ m
  | inr q ↦ absurd q
]
last-made s h g (x ∷ xs) r has w e a = absurd (omega (arith, e))

pub reading-settled : (s : Store) (h : Homes) (g : Grounds) (xs : List Ref) → HasSparesAt s h → IsBegun s h g → WaitBySpares s h g xs → length xs ≡ 0 → IsReading s h g
reading-settled s h g xs has k w e = record {
  most = k.most;
  all = k.all;
  marked = k.marked;
  read = k.read;
  settled = λ r a. last-made s h g xs r has w e a;
}

-- the table and what is made stay, and another cell is asked for
pub begun-asked : (s : Store) (h : Homes) (g new : Grounds) → IsBegun s h g → new.table ≡ g.table → new.made ≡ g.made → length new.asked.items ≡ length g.asked.items → IsBegun s h new
begun-asked s h g new k table made marked = record {
  most = subst (λ ls. length ls ≤ no_list) (sym table) k.most;
  all = ap (λ v. length v.items) made ∙ k.all;
  marked = marked ∙ k.marked;
  read = λ σ sp r x e. subst (λ ls. IsGroundOf ls x (σ r)) (sym table) (k.read σ sp r x (sym (ap (λ v. slice_get v.items r) made) ∙ e));
}
