-- What is read off of the program's tree stands in its store.
use Rattle.std.proofs.Common.{◌≡◌, ◌+◌, ◌-◌, ◌<◌, ◌≤◌, ℕ, zero, suc, List, [], ◌∷◌, ◌++◌, drop, length, map, take, Bool, true, false, ◌&&◌, ◌||◌, IsTrue, refl, sym, ◌∙◌, ap, subst, Option, Some, slice_get, get_or, arith, nat_lt, ltb-true, lt-ltb}
use Rattle.std.specs.List.{AllByRecursion, flat_map, list_all}
use Rattle.std.proofs.lemmas.Bool.{and_from, and_parts}
use Rattle.std.proofs.lemmas.Option.{slice_get_within}
use Rattle.calculus.specs.declared.sort.Sort.{Sort}
use Rattle.calculus.specs.declared.sort.Sort.TheVariants.{TermSort, MarkSort, StringSort}
use Rattle.std.proofs.lemmas.List.{drop-map, take-map, take_rest}
use Rattle.plain_laws.proofs.Every.{all-at, all-weaken}
use Rattle.store_theory.specs.Bindings.{IsEnd, KeepsMarks}
use Rattle.calculus.specs.Choices.{Choice}
use Rattle.store_theory.specs.Stores.{EndsAt, IsGood, Store, TrailMark, GammaCell, cells_bound_by, cut_at, has_sort_at, names_below}
use Rattle.calculus.specs.Syntax.{Problem}
use Rattle.store_theory.specs.Systems.{CellAtom, has_label_sort_at, is_gamma_cell, is_label}
use Rattle.store_theory.proofs.StoreLaws.{length-bound}
use Rattle.search_theory.specs.Matrix.{MatrixClause}
use Rattle.search_theory.specs.States.{atom_is_below, choice_is_below}
use Rattle.search_theory.proofs.BelowLaws.{choice-more}
use Rattle.search_theory.proofs.SolvingLaws.{system-parts}
use Rattle.search_theory.proofs.SpareLaws.{cell-sorted}
use Rattle.term_store.specs.ClauseView.{the_atom}
use Rattle.term_store.specs.RefView.{the_places}
use Rattle.term_store.specs.declared.clause.CellAtom as program
use Rattle.tableau_reading.specs.Readable.{IsReadableStep, is_gamma_below}
use Rattle.search_tree.specs.Running.{StandsFor}
use Rattle.search_tree.specs.Trees.{IsBuiltStep, gammas_of, inserted, the_step, tree_system}
use Rattle.search_tree.specs.declared.tree.Goal.{Goal}
use Rattle.search_tree.specs.declared.tree.Step.{Step}
use Rattle.search_tree.specs.declared.tree.Step.TheVariants.{Extend, Reduce, Start}

-- ---- cells

pub cell-below : (n : ℕ) (rs : List ℕ) (i r : ℕ) → IsTrue (names_below n rs) → slice_get rs i ≡ Some r → r < n
cell-below n rs i r h e = ltb-true r n (all-at (λ k. nat_lt k n) rs i r h e)

pub end-of : (s : Store) (r e : ℕ) → EndsAt s r e → IsEnd s e
end-of s r e (EndsAt.stays {c = c} h f) = (c, h, f)
end-of s r e (EndsAt.goes_on h more) = end-of s _ e more

-- ---- lists of atoms

-- an atom of the list names cells
pub atom-below : (n : ℕ) (atoms : List CellAtom) (i : ℕ) (a : CellAtom) → IsTrue (list_all (atom_is_below n) atoms) → slice_get atoms i ≡ Some a → IsTrue (atom_is_below n a)
atom-below n atoms i a h e = all-at (atom_is_below n) atoms i a h e

pub atom-parts : (n : ℕ) (a : CellAtom) → IsTrue (atom_is_below n a) → IsTrue (names_below n a.args) × IsTrue (names_below n a.label)
atom-parts n a h = and_parts (names_below n a.args) (names_below n a.label) h

-- an item of a view
pub viewed : {A B : Type 0} (f : A → B) (xs : List A) (i : ℕ) (x : A) → i < length xs → x ≡ get_or xs i x → slice_get (map f xs) i ≡ Some (f x)
viewed f [] i x l e = absurd (omega (arith, l))
viewed f (y ∷ xs) zero x l e = ap (λ z. Some (f z)) (sym e)
viewed f (y ∷ xs) (suc i) x l e = viewed f xs i x (omega (arith, l)) e

pub front-atoms : (n : ℕ) (items : List program.CellAtom) (xs : List CellAtom) → map the_atom items ≡ xs → map the_atom (take n items) ≡ take n xs
front-atoms n items xs e = sym (take-map the_atom n items) ∙ ap (take n) e

pub back-atoms : (n : ℕ) (items : List program.CellAtom) (xs : List CellAtom) → map the_atom items ≡ xs → map the_atom (take (length items - n) (drop n items)) ≡ drop n xs
back-atoms n items xs e = ap (map the_atom) (take_rest items n) ∙ sym (drop-map the_atom n items) ∙ ap (drop n) e

pub all-front : (p : CellAtom → Bool) (n : ℕ) (xs : List CellAtom) → IsTrue (list_all p xs) → IsTrue (list_all p (take n xs))
all-front p zero xs h = refl
all-front p (suc n) [] h = refl
all-front p (suc n) (x ∷ xs) h = let a = and_parts (p x) (list_all p xs) h in and_from (p x) (list_all p (take n xs)) a.0 (all-front p n xs a.1)

pub all-back : (p : CellAtom → Bool) (n : ℕ) (xs : List CellAtom) → IsTrue (list_all p xs) → IsTrue (list_all p (drop n xs))
all-back p zero xs h = h
all-back p (suc n) [] h = refl
all-back p (suc n) (x ∷ xs) h = all-back p n xs (and_parts (p x) (list_all p xs) h).1

-- ---- steps that can be read

all-halves : (q : CellAtom → Bool) (xs ys : List CellAtom) → IsTrue (list_all q (xs ++ ys)) → IsTrue (list_all q xs) × IsTrue (list_all q ys)
all-halves q [] ys h = (refl, h)
all-halves q (x ∷ xs) ys h =
    let p = and_parts (q x) (list_all q (xs ++ ys)) h in
    let r = all-halves q xs ys p.1 in
    (ap (λ b. b && list_all q xs) p.0 ∙ r.0, r.1)

all-rejoined : (q : CellAtom → Bool) (n : ℕ) (xs : List CellAtom) → IsTrue (list_all q (take n xs)) → IsTrue (list_all q (drop n xs)) → IsTrue (list_all q xs)
all-rejoined q zero xs a b = b
all-rejoined q (suc n) [] a b = refl
all-rejoined q (suc n) (x ∷ xs) a b =
    let p = and_parts (q x) (list_all q (take n xs)) a in
    ap (λ c. c && list_all q xs) p.0 ∙ all-rejoined q n xs p.1 b

readable : (s : Store) (m : List MatrixClause) (step : Step) → IsBuiltStep m step → IsTrue (choice_is_below (length s.cells) (the_step m step)) → IsReadableStep s m step
readable s m (Start c) b h =
    let p = and_parts (names_below (length s.cells) (the_places c.copy.variables)) (list_all (atom_is_below (length s.cells)) c.copy.literals) h in
    record { clause = b; variables = p.0; literals = p.1 }
readable s m (Reduce goal up ancestor) b h = tt
readable s m (Extend goal c place atom) b h =
    let p = and_parts (names_below (length s.cells) (the_places c.copy.variables)) (list_all (atom_is_below (length s.cells)) (inserted place (the_atom atom) c.copy.literals)) h in
    let q = all-halves (atom_is_below (length s.cells)) (take place c.copy.literals) (the_atom atom ∷ drop place c.copy.literals) p.1 in
    let r = and_parts (atom_is_below (length s.cells) (the_atom atom)) (list_all (atom_is_below (length s.cells)) (drop place c.copy.literals)) q.1 in
    record {
      readable = record { clause = b.0; variables = p.0; literals = all-rejoined (atom_is_below (length s.cells)) place c.copy.literals q.0 r.1 };
      place_within = b.1;
      atom_below = r.0;
    }

all-readable : (s : Store) (m : List MatrixClause) (steps : List Step) → AllByRecursion (IsBuiltStep m) steps → IsTrue (list_all (choice_is_below (length s.cells)) (map (the_step m) steps)) → AllByRecursion (IsReadableStep s m) steps
all-readable s m [] b h = tt
all-readable s m (step ∷ steps) b h =
    let p = and_parts (choice_is_below (length s.cells) (the_step m step)) (list_all (choice_is_below (length s.cells)) (map (the_step m) steps)) h in
    (readable s m step b.0 p.0, all-readable s m steps b.1 p.1)

-- they stay so as the store grows
pub steps-readable : (P : Problem) (m : List MatrixClause) (base d : ℕ) (c : List Choice) (s t : Store) (steps : List Step) (goals : List Goal) (first : Option ℕ) → StandsFor P m base d c s steps goals first → length s.cells ≤ length t.cells → AllByRecursion (IsReadableStep t m) steps
steps-readable P m base d c s t steps goals first (cs, x, at) l =
    let below = all-weaken (choice_is_below (length s.cells)) (choice_is_below (length t.cells)) (choice-more (length s.cells) (length t.cells) l) cs at.running.state.cells.choices in
    all-readable t m steps at.tree.built (subst (λ ys. IsTrue (list_all (choice_is_below (length t.cells)) ys)) (sym at.tree.made) below)

take-shorter : {A : Type 0} (n : ℕ) (xs : List A) → length (take n xs) ≤ length xs
take-shorter zero xs = omega arith
take-shorter (suc n) [] = omega arith
take-shorter (suc n) (x ∷ xs) = let l = take-shorter n xs in omega (arith, l)

-- a store that keeps the moment that is all of it has as many cells
pub cells-stay : (k : TrailMark) (s t : Store) → IsGood k s → cut_at k s ≡ s → KeepsMarks s t → length s.cells ≤ length t.cells
cells-stay k s t good whole keeps =
    let m = keeps k good in
    let same : length (cells_bound_by (take k.entries t.trail) 0 (take k.cells t.cells)) ≡ length s.cells = ap (λ (x : Store). length x.cells) (m.1 ∙ whole) in
    let bound = length-bound (take k.entries t.trail) 0 (take k.cells t.cells) in
    let short = take-shorter k.cells t.cells in
    omega (arith, same, bound, short)

-- ---- gamma terms that can be read

sorted-below : (s : Store) (n : ℕ) → length s.cells ≤ n → (sort : Sort) (r : ℕ) → IsTrue (has_sort_at s sort r) → IsTrue (nat_lt r n)
sorted-below s n l sort r h =
    let t = cell-sorted s sort r h in
    let w = slice_get_within s.cells r t.0 t.1 in
    lt-ltb r n (omega (arith, w, l))

item-below : (s : Store) (n : ℕ) → length s.cells ≤ n → (r : ℕ) → IsTrue (has_label_sort_at s r) → IsTrue (nat_lt r n)
item-below s n l r h = by (has_sort_at s MarkSort r) refl h
  where
    by : (b : Bool) → has_sort_at s MarkSort r ≡ b → IsTrue (b || has_sort_at s StringSort r) → IsTrue (nat_lt r n)
    by true e x = sorted-below s n l MarkSort r e
    by false e x = sorted-below s n l StringSort r x

gamma-there : (s : Store) (n : ℕ) → length s.cells ≤ n → (g : GammaCell) → IsTrue (is_gamma_cell s g) → IsTrue (is_gamma_below n g)
gamma-there s n l g k =
    let p = and_parts (has_sort_at s TermSort g.term) (is_label s g.label) k in
    and_from (nat_lt g.term n) (names_below n g.label) (sorted-below s n l TermSort g.term p.0) (all-weaken (has_label_sort_at s) (λ r. nat_lt r n) (item-below s n l) g.label p.1)

-- they stay so as the store grows
pub gammas-there : (P : Problem) (m : List MatrixClause) (base d : ℕ) (c : List Choice) (s t : Store) (steps : List Step) (goals : List Goal) (first : Option ℕ) → StandsFor P m base d c s steps goals first → length s.cells ≤ length t.cells → IsTrue (list_all (is_gamma_below (length t.cells)) (flat_map gammas_of steps))
gammas-there P m base d c s t steps goals first (cs, x, at) l = all-weaken (is_gamma_cell s) (is_gamma_below (length t.cells)) (gamma-there s (length t.cells) l) (flat_map gammas_of steps) (system-parts s (tree_system m steps goals x.all_goals) at.running.system.well).gammas

-- an item of a list of which all are so
pub all-there : {A : Type 0} (Q : A → Type 0) (xs : List A) (k : ℕ) (x : A) → AllByRecursion Q xs → slice_get xs k ≡ Some x → Q x
all-there Q [] k x h e = cc e
all-there Q (y ∷ ys) zero x h e = let q : y ≡ x = cc e in subst Q q h.0
all-there Q (y ∷ ys) (suc k) x h e = all-there Q ys k x h.1 e
