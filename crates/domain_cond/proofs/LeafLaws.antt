-- The leaves of a term, by a list of cells that are still to be looked at and those that were.
use Rattle.std.proofs.Common.{◌≡◌, ◌⊎◌, ◌||◌, cond, ◌==◌, ℕ, zero, suc, ◌<◌, List, [], ◌∷◌, ◌++◌, length, Bool, true, false, not, IsTrue, refl, sym, ◌∙◌, ap, subst, Some, slice_get, inl, inr, arith, eqb-true, eq-eqb}
use Rattle.std.proofs.lemmas.Bool.{cases_Bool, false≢true}
use Rattle.plain_laws.proofs.Places.{get-front}
use Rattle.calculus.specs.declared.sort.Sort.{Sort}
use Rattle.store_theory.specs.Bindings.{EndsIn, IsEnd}
use Rattle.store_theory.specs.Stores.{Cell, variable, fun_cell, eigen_cell, new_cell, string_cell, Store, parts_of, is_bound, is_store, EndsAt, stays, goes_on, Holds, itself, bound, argument}
use Rattle.store_theory.proofs.BindingLaws.{kept, parts-within}
use Rattle.calculus.proofs.PlaceLists.{get-last}
use Rattle.cop_base.specs.declared.PosId.{PosId}
use Rattle.cop_base.specs.declared.SymbolId.{SymbolId}
use Rattle.term_store.specs.Shown.{head_of}
use Rattle.term_store.specs.declared.cell.Head.{Head}
use Rattle.term_store.specs.declared.cell.Head.TheVariants.{Eigen, Fun}
use Rattle.term_unify.proofs.PairLaws.{told}
use Rattle.domain_cond.specs.Leaves.{AreLeaves, IsLeaf, has_arguments, is_among}

-- ---- places of lists

abbrev pub IsAmong : ℕ → List ℕ → Type 0
IsAmong k xs = (i : ℕ) × (slice_get xs i ≡ Some k)

among-back : (k : ℕ) (xs ys : List ℕ) → IsAmong k ys → IsAmong k (xs ++ ys)
among-back k [] ys h = h
among-back k (x ∷ xs) ys h = let q = among-back k xs ys h in (suc q.0, q.1)

among-split : (k : ℕ) (xs ys : List ℕ) → IsAmong k (xs ++ ys) → IsAmong k xs ⊎ IsAmong k ys
among-split k [] ys h = inr h
among-split k (x ∷ xs) ys (zero, e) = inl (0, e)
among-split k (x ∷ xs) ys (suc i, e) = elim (among-split k xs ys (i, e)) [ inl h ↦ inl (suc h.0, h.1) | inr h ↦ inr h ]

-- ---- holding

holds-end : (s : Store) (r v : ℕ) → EndsAt s r v → Holds s v r
holds-end s r v (stays e b) = itself
holds-end s r v (goes_on e more) = bound e (holds-end s _ v more)

holds-both : (s : Store) (a b c : ℕ) → Holds s a b → Holds s b c → Holds s a c
holds-both s a b c h itself = h
holds-both s a b c h (bound e more) = bound e (holds-both s a b _ h more)
holds-both s a b c h (argument i e p more) = argument i e p (holds-both s a b _ h more)

-- ---- the search for leaves

-- the cell is still to be looked at, or the end of its bindings was
abbrev pub IsMet : Store → List ℕ → List ℕ → List ℕ → ℕ → Type 0
IsMet s pending seen leaves k = IsAmong k pending ⊎ ((v : ℕ) × EndsAt s k v × (IsAmong v leaves ⊎ IsTrue (is_among seen v)))

pub record IsLooking (s : Store) (term : ℕ) (pending seen leaves : List ℕ) : Type 0 where
  pub root : IsMet s pending seen leaves term
  pub cells : (k : ℕ) → IsAmong k pending → (k < length s.cells) × Holds s k term
  pub found : (k : ℕ) → IsAmong k leaves → Holds s k term × IsLeaf s k
  pub closed : (x : ℕ) (c : Cell) → IsTrue (is_among seen x) → slice_get s.cells x ≡ Some c → (has_arguments c ≡ true) × ((i k : ℕ) → slice_get (parts_of c) i ≡ Some k → IsMet s pending seen leaves k)

pub looking-start : (s : Store) (term : ℕ) (pending leaves seen : List ℕ) → pending ≡ term ∷ [] → leaves ≡ [] → seen ≡ [] → term < length s.cells → IsLooking s term pending seen leaves
looking-start s term pending leaves seen e f g l = subst (λ xs. IsLooking s term xs seen leaves) (sym e) (subst (λ xs. IsLooking s term (term ∷ []) seen xs) (sym f) (subst (λ xs. IsLooking s term (term ∷ []) xs []) (sym g) (record {
  root = inl (0, refl);
  cells = λ k a. one k a;
  found = λ k a. (let z = a.1 in cc z);
  closed = λ x c a. absurd (false≢true a);
})))
  where
    one : (k : ℕ) → IsAmong k (term ∷ []) → (k < length s.cells) × Holds s k term
    one k (zero, e) = let z : term ≡ k = cc e in (subst (λ x. x < length s.cells) z l, subst (λ x. Holds s x term) z itself)
    one k (suc i, e) = cc e

-- what was met stays so
met-more : (s : Store) (r v : ℕ) (rest seen seen' leaves leaves' pending' : List ℕ) → ((k : ℕ) → IsAmong k rest → IsAmong k pending') → ((k : ℕ) → IsAmong k leaves → IsAmong k leaves') → ((k : ℕ) → IsTrue (is_among seen k) → IsTrue (is_among seen' k)) → EndsAt s r v → (IsAmong v leaves' ⊎ IsTrue (is_among seen' v)) → (k : ℕ) → IsMet s (rest ++ r ∷ []) seen leaves k → IsMet s pending' seen' leaves' k
met-more s r v rest seen seen' leaves leaves' pending' opens adds sees ends now k (inl a) = elim (among-split k rest (r ∷ []) a) [
  | inl h ↦ inl (opens k h)
  | inr h ↦ inr (v, subst (λ x. EndsAt s x v) (only k h) ends, now)
]
  where
    only : (k : ℕ) → IsAmong k (r ∷ []) → r ≡ k
    only k (zero, e) = cc e
    only k (suc i, e) = cc e
met-more s r v rest seen seen' leaves leaves' pending' opens adds sees ends now k (inr (w, e, inl a)) = inr (w, e, inl (adds w a))
met-more s r v rest seen seen' leaves leaves' pending' opens adds sees ends now k (inr (w, e, inr a)) = inr (w, e, inr (sees w a))

-- a leaf was found
pub looking-leaf : (s : Store) (term r v : ℕ) (pending rest seen leaves after : List ℕ) → IsLooking s term pending seen leaves → pending ≡ rest ++ r ∷ [] → EndsAt s r v → IsLeaf s v → after ≡ leaves ++ v ∷ [] → IsLooking s term rest seen after
looking-leaf s term r v pending rest seen leaves after w e ends leaf f =
    let w' : IsLooking s term (rest ++ r ∷ []) seen leaves = subst (λ xs. IsLooking s term xs seen leaves) e w in
    let top = w'.cells r (among-back r rest (r ∷ []) (0, refl)) in
    let more = met-more s r v rest seen seen leaves (leaves ++ v ∷ []) rest (λ k a. a) (λ k a. (a.0, get-front leaves (v ∷ []) a.0 k a.1)) (λ k a. a) ends (inl (among-back v leaves (v ∷ []) (0, refl))) in
    subst (λ xs. IsLooking s term rest seen xs) (sym f) (record {
      root = more term w'.root;
      cells = λ k a. w'.cells k (a.0, get-front rest (r ∷ []) a.0 k a.1);
      found = λ k a. elim (get-last leaves a.0 k v a.1) [
        | inl h ↦ w'.found k (a.0, h)
        | inr h ↦ (subst (λ x. Holds s x term) h.1 (holds-both s v r term (holds-end s r v ends) top.1), subst (IsLeaf s) h.1 leaf)
      ];
      closed = λ x c a b. (let q = w'.closed x c a b in (q.0, λ i k p. more k (q.1 i k p)));
    })

-- a cell was seen before
pub looking-again : (s : Store) (term r v : ℕ) (pending rest seen after leaves : List ℕ) → IsLooking s term pending seen leaves → pending ≡ rest ++ r ∷ [] → EndsAt s r v → IsTrue (is_among seen v) → ((x : ℕ) → is_among after x ≡ (v == x || is_among seen x)) → IsLooking s term rest after leaves
looking-again s term r v pending rest seen after leaves w e ends again noted =
    let w' : IsLooking s term (rest ++ r ∷ []) seen leaves = subst (λ xs. IsLooking s term xs seen leaves) e w in
    let more = met-more s r v rest seen after leaves leaves rest (λ k a. a) (λ k a. a) (λ k a. kept k a) ends (inr (kept v again)) in
    record {
      root = more term w'.root;
      cells = λ k a. w'.cells k (a.0, get-front rest (r ∷ []) a.0 k a.1);
      found = λ k a. w'.found k a;
      closed = λ x c a b. (let q = w'.closed x c (known x a) b in (q.0, λ i k p. more k (q.1 i k p)));
    }
  where
    or-right : (a b : Bool) → IsTrue b → IsTrue (a || b)
    or-right true b h = refl
    or-right false b h = h

    kept : (k : ℕ) → IsTrue (is_among seen k) → IsTrue (is_among after k)
    kept k a = subst IsTrue (sym (noted k)) (or-right (v == k) (is_among seen k) a)

    known : (x : ℕ) → IsTrue (is_among after x) → IsTrue (is_among seen x)
    known x a = by (v == x) refl (subst IsTrue (noted x) a)
      where
        by : (t : Bool) → (v == x) ≡ t → IsTrue (t || is_among seen x) → IsTrue (is_among seen x)
        by true q h = subst (λ y. IsTrue (is_among seen y)) (eqb-true v x q) again
        by false q h = h

-- a cell with arguments was not
pub looking-parts : (s : Store) (term r v : ℕ) (pending rest before seen after leaves : List ℕ) (c : Cell) → IsTrue (is_store s) → IsLooking s term pending seen leaves → pending ≡ rest ++ r ∷ [] → EndsAt s r v → slice_get s.cells v ≡ Some c → has_arguments c ≡ true → ((x : ℕ) → is_among after x ≡ (v == x || is_among seen x)) → before ≡ rest ++ parts_of c → IsLooking s term before after leaves
looking-parts s term r v pending rest before seen after leaves c h w e ends at args noted joined =
    let w' : IsLooking s term (rest ++ r ∷ []) seen leaves = subst (λ xs. IsLooking s term xs seen leaves) e w in
    let top = w'.cells r (among-back r rest (r ∷ []) (0, refl)) in
    let more = met-more s r v rest seen after leaves leaves (rest ++ parts_of c) (λ k a. (a.0, get-front rest (parts_of c) a.0 k a.1)) (λ k a. a) kept-seen ends (inr noted-now) in
    subst (λ xs. IsLooking s term xs after leaves) (sym joined) (record {
      root = more term w'.root;
      cells = λ k a. elim (among-split k rest (parts_of c) a) [
        | inl x ↦ w'.cells k (x.0, get-front rest (r ∷ []) x.0 k x.1)
        | inr x ↦ (parts-within s c x.0 k ((kept s h).fits v c at) x.1, holds-both s k r term (holds-both s k v r (part-held c at args x.0 k x.1) (holds-end s r v ends)) top.1)
      ];
      found = λ k a. w'.found k a;
      closed = λ x d a b. by x d (v == x) refl (subst IsTrue (noted x) a) b (λ y. (let q = w'.closed x d y b in (q.0, λ i k p. more k (q.1 i k p))));
    })
  where
    or-right : (a b : Bool) → IsTrue b → IsTrue (a || b)
    or-right true b h = refl
    or-right false b h = h

    or-left : (a b : Bool) → a ≡ true → IsTrue (a || b)
    or-left true b h = refl
    or-left false b h = absurd (false≢true h)

    kept-seen : (k : ℕ) → IsTrue (is_among seen k) → IsTrue (is_among after k)
    kept-seen k a = subst IsTrue (sym (noted k)) (or-right (v == k) (is_among seen k) a)

    noted-now : IsTrue (is_among after v)
    noted-now = subst IsTrue (sym (noted v)) (or-left (v == v) (is_among seen v) (eq-eqb v v refl))

    part-held : (d : Cell) → slice_get s.cells v ≡ Some d → has_arguments d ≡ true → (i k : ℕ) → slice_get (parts_of d) i ≡ Some k → Holds s k v
    part-held (fun_cell f rs) f-at a i k p = argument i f-at p itself
    part-held (variable sort b) f-at a i k p = absurd (false≢true a)
    part-held (eigen_cell f rs) f-at a i k p = absurd (false≢true a)
    part-held (new_cell f rs) f-at a i k p = absurd (false≢true a)
    part-held (string_cell rs) f-at a i k p = absurd (false≢true a)

    Closed : Cell → Type 0
    Closed d = (has_arguments d ≡ true) × ((i k : ℕ) → slice_get (parts_of d) i ≡ Some k → IsMet s (rest ++ parts_of c) after leaves k)

    by : (x : ℕ) (d : Cell) (t : Bool) → (v == x) ≡ t → IsTrue (t || is_among seen x) → slice_get s.cells x ≡ Some d → (IsTrue (is_among seen x) → (has_arguments d ≡ true) × ((i k : ℕ) → slice_get (parts_of d) i ≡ Some k → IsMet s (rest ++ parts_of c) after leaves k)) → (has_arguments d ≡ true) × ((i k : ℕ) → slice_get (parts_of d) i ≡ Some k → IsMet s (rest ++ parts_of c) after leaves k)
    by x d true q a b old =
        let same : c ≡ d = let z : Some c ≡ Some d = sym at ∙ ap (slice_get s.cells) (eqb-true v x q) ∙ b in cc z in
        (ap has_arguments (sym same) ∙ args, λ i k p. inl (among-back k rest (parts_of c) (i, ap (λ y. slice_get (parts_of y) i) same ∙ p)))
    by x d false q a b old = old a

-- nothing is left to be looked at
ends-bound : (s : Store) (r k v : ℕ) (sort : Sort) → slice_get s.cells r ≡ Some (variable sort (Some k)) → EndsAt s r v → EndsAt s k v
ends-bound s r k v sort e (stays {c = c} f b) = let q : c ≡ variable sort (Some k) = let z : Some c ≡ Some (variable sort (Some k)) = sym f ∙ e in cc z in absurd (false≢true (sym b ∙ ap is_bound q))
ends-bound s r k v sort e (goes_on {k = j} {sort = x} f more) = let q : j ≡ k = let z : Some (variable x (Some j)) ≡ Some (variable sort (Some k)) = sym f ∙ e in cc z in subst (λ y. EndsAt s y v) q more

ends-here : (s : Store) (r v : ℕ) (c : Cell) → slice_get s.cells r ≡ Some c → is_bound c ≡ false → EndsAt s r v → r ≡ v
ends-here s r v c e b (stays f d) = refl
ends-here s r v c e b (goes_on {k = j} {sort = x} f more) = let q : variable x (Some j) ≡ c = let z : Some (variable x (Some j)) ≡ Some c = sym f ∙ e in cc z in absurd (false≢true (sym b ∙ sym (ap is_bound q)))

arguments-there : (f : ℕ) (rs : List ℕ) (i k : ℕ) → slice_get rs i ≡ Some k → has_arguments (fun_cell f rs) ≡ true
arguments-there f [] i k p = cc p
arguments-there f (r ∷ rs) i k p = refl

pub looking-end : (s : Store) (term : ℕ) (pending seen leaves : List ℕ) → IsLooking s term pending seen leaves → pending ≡ [] → AreLeaves s term leaves
looking-end s term pending seen leaves w nothing = record {
  held = λ i e p. w.found e (i, p);
  all_of_them = λ e h leaf. reach e term h leaf w.root;
}
  where
    none-pending : (k : ℕ) → ¬ IsAmong k pending
    none-pending k (i, e) = let z : slice_get [] i ≡ Some k = sym (ap (λ xs. slice_get xs i) nothing) ∙ e in cc z

    reach : (e r : ℕ) → Holds s e r → IsLeaf s e → IsMet s pending seen leaves r → IsAmong e leaves
    reach e r h leaf (inl a) = absurd (none-pending r a)
    reach e r itself leaf (inr (v, ends, m)) = here m
      where
        same : e ≡ v
        same = ends-here s e v leaf.0 leaf.1 leaf.2 ends

        here : IsAmong v leaves ⊎ IsTrue (is_among seen v) → IsAmong e leaves
        here (inl a) = subst (λ x. IsAmong x leaves) (sym same) a
        here (inr a) = let q = w.closed v leaf.0 a (ap (slice_get s.cells) (sym same) ∙ leaf.1) in absurd (false≢true (sym leaf.3 ∙ q.0))
    reach e r (bound {k = k} {sort = sort} at more) leaf (inr (v, ends, m)) = reach e k more leaf (inr (v, ends-bound s r k v sort at ends, m))
    reach e r (argument i {f = f} {k = k} {rs = rs} at p more) leaf (inr (v, ends, inl a)) =
        let same = ends-here s r v (fun_cell f rs) at refl ends in
        let (c, c-at, b, none) = (w.found v a).1 in
        let q : c ≡ fun_cell f rs = let z : Some c ≡ Some (fun_cell f rs) = sym c-at ∙ ap (slice_get s.cells) (sym same) ∙ at in cc z in
        absurd (false≢true (sym none ∙ ap has_arguments q ∙ arguments-there f rs i k p))
    reach e r (argument i {f = f} {k = k} {rs = rs} at p more) leaf (inr (v, ends, inr a)) =
        let same = ends-here s r v (fun_cell f rs) at refl ends in
        let q = w.closed v (fun_cell f rs) a (ap (slice_get s.cells) (sym same) ∙ at) in
        reach e k more leaf (q.1 i k p)

-- ---- what heads tell

pub eigen-head : (s : Store) (v : ℕ) (head : Head) (p : ℕ) (rs : List ℕ) → slice_get s.cells v ≡ Some (eigen_cell p rs) → EndsIn s v (λ c. head_of c ≡ head) → Eigen (record { 0 = p }) ≡ head
eigen-head s v head p rs at t = told s v (eigen_cell p rs) (λ c. head_of c ≡ head) at refl t

pub head-eigen : (s : Store) (v : ℕ) (head : Head) (p : PosId) → IsEnd s v → EndsIn s v (λ c. head_of c ≡ head) → head ≡ Eigen p → (q : ℕ) × (rs : List ℕ) × (slice_get s.cells v ≡ Some (eigen_cell q rs))
head-eigen s v head p (c, at, b) t e = by c at (told s v c (λ d. head_of d ≡ head) at b t ∙ e)
  where
    by : (d : Cell) → slice_get s.cells v ≡ Some d → head_of d ≡ Eigen p → (q : ℕ) × (rs : List ℕ) × (slice_get s.cells v ≡ Some (eigen_cell q rs))
    by (eigen_cell q rs) f h = (q, rs, f)
    by (variable sort b) f h = cc h
    by (fun_cell g rs) f h = cc h
    by (new_cell g rs) f h = cc h
    by (string_cell rs) f h = cc h

-- a cell with arguments is a function
pub arguments-head : (s : Store) (v : ℕ) (head : Head) (d : Cell) → slice_get s.cells v ≡ Some d → IsEnd s v → EndsIn s v (λ c. head_of c ≡ head) → ((f : SymbolId) → ¬ (head ≡ Fun f)) → has_arguments d ≡ false
arguments-head s v head d at (c, f, b) t other = by d at (told s v d (λ x. head_of x ≡ head) at (ap is_bound same ∙ b) t)
  where
    same : d ≡ c
    same = let z : Some d ≡ Some c = sym at ∙ f in cc z

    by : (x : Cell) → slice_get s.cells v ≡ Some x → head_of x ≡ head → has_arguments x ≡ false
    by (fun_cell g rs) e h = absurd (other (record { 0 = g }) (sym h))
    by (eigen_cell q rs) e h = refl
    by (variable sort k) e h = refl
    by (new_cell g rs) e h = refl
    by (string_cell rs) e h = refl

not-none : (count n : ℕ) → count ≡ suc n → not (count == 0) ≡ true
not-none count n e = elim (cases_Bool (count == 0)) [
  | inl t ↦ (let z = eqb-true count 0 t in absurd (omega (arith, e, z)))
  | inr f ↦ ap not f
]

pub arguments-count : (s : Store) (v count : ℕ) (head : Head) (f : SymbolId) (d : Cell) → slice_get s.cells v ≡ Some d → IsEnd s v → EndsIn s v (λ c. head_of c ≡ head) → head ≡ Fun f → EndsIn s v (λ c. count ≡ length (parts_of c)) → not (count == 0) ≡ has_arguments d
arguments-count s v count head f d at (c, e, b) t is u = by d (told s v d (λ x. head_of x ≡ head) at unbound t ∙ is) (told s v d (λ x. count ≡ length (parts_of x)) at unbound u)
  where
    unbound : is_bound d ≡ false
    unbound = let z : Some d ≡ Some c = sym at ∙ e in ap is_bound (let y : d ≡ c = cc z in y) ∙ b

    by : (x : Cell) → head_of x ≡ Fun f → count ≡ length (parts_of x) → not (count == 0) ≡ has_arguments x
    by (fun_cell g []) h k = ap (λ n. not (n == 0)) k
    by (fun_cell g (r ∷ rs)) h k = not-none count (length rs) k
    by (eigen_cell q rs) h k = cc h
    by (variable sort j) h k = cc h
    by (new_cell g rs) h k = cc h
    by (string_cell rs) h k = cc h

-- an end without arguments is a leaf
pub leaf-of : (s : Store) (v : ℕ) → IsEnd s v → ((c : Cell) → slice_get s.cells v ≡ Some c → false ≡ has_arguments c) → IsLeaf s v
leaf-of s v (c, at, b) none = (c, at, b, sym (none c at))

pub looking-top : (s : Store) (term r : ℕ) (pending rest seen leaves : List ℕ) → IsLooking s term pending seen leaves → pending ≡ rest ++ r ∷ [] → r < length s.cells
looking-top s term r pending rest seen leaves w e = (w.cells r (subst (IsAmong r) (sym e) (among-back r rest (r ∷ []) (0, refl)))).0

pub or-cond : (b m n : Bool) → m ≡ cond b true n → m ≡ (b || n)
or-cond true m n e = e
or-cond false m n e = e
