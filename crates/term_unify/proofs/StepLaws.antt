-- The steps of unification over the ground solutions of a store.
use Rattle.std.proofs.Common.{inl, inr, ◌≡◌, ◌==◌, None, Some, length, ℕ, true, false, refl, sym, ap, ap₂, ◌∙◌, eqb-true, eq-eqb}
use Rattle.std.specs.Prelude.{slice_get}
use Rattle.std.proofs.lemmas.Bool.{false≢true}
use Rattle.plain_laws.proofs.Booleans.{and-number, and-number_parts}
use Rattle.calculus.specs.Equality.{sort_eq}
use Rattle.store_theory.specs.Stores.{Cell, variable, fun_cell, eigen_cell, new_cell, string_cell, Store, parts_of, sort_of, is_bound, EndsAt, stays, Solution, Solves}
use Rattle.store_theory.specs.Bindings.{EndsIn, are_alike, is_variable}
use Rattle.store_theory.proofs.BindingLaws.{ends-once, ends-there, sort_eq-same, sort_eq-true, has_sort-from}
use Rattle.store_theory.proofs.SolutionLaws.{ends-same, sorts-apart, equal-alike}
use Rattle.term_store.specs.declared.cell.Head.{Head}
use Rattle.term_store.specs.declared.cell.Content.{Content}
use Rattle.term_store.specs.Shown.{Shows, head_of}
use Rattle.term_store.specs.StoreView.{part_count}
use Rattle.term_store.proofs.StoreFacts.{shown-end}
use Rattle.term_unify.specs.Steps.{head_sort, is_open_head, same_name, IsBinding, AreBuilt, AreEnds}

-- the cell at the end of bindings
pub record Ended (s : Store) (a x : ℕ) (h : Head) : Type 0 where
  pub ends : EndsAt s a x
  pub cell : Cell
  pub at : slice_get s.cells x ≡ Some cell
  pub unbound : is_bound cell ≡ false
  pub shows : head_of cell ≡ h

pub ended : (s : Store) (a x : ℕ) (h : Head) → EndsAt s a x → EndsIn s x (λ c. head_of c ≡ h) → Ended s a x h
ended s a x h e (v, c, f, g, k) =
    let (d, at, b) = ends-there s a x e in
    let same = ends-once s x x v (stays at b) f in
    let at' : slice_get s.cells x ≡ Some c = ap (slice_get s.cells) same ∙ g in
    let q : d ≡ c = let p : Some d ≡ Some c = sym at ∙ at' in cc in
    record { ends = e; cell = c; at = at'; unbound = ap is_bound (sym q) ∙ b; shows = k }

pub parts-counted : (s : Store) (r v : ℕ) (k : Content) (n : ℕ) → EndsAt s r v → Shows s v k → n ≡ part_count k → EndsIn s v (λ c. n ≡ length (parts_of c))
parts-counted s r v k n e h q = let (w, c, f, at, l) = (shown-end s r v k e h).1 in (w, c, f, at, q ∙ l)

head_sort-of : (c : Cell) → head_sort (head_of c) ≡ sort_of c
head_sort-of (variable sort b) = refl
head_sort-of (fun_cell f rs) = refl
head_sort-of (eigen_cell f rs) = refl
head_sort-of (new_cell f rs) = refl
head_sort-of (string_cell rs) = refl

ended-sort : (s : Store) (a x : ℕ) (h : Head) (w : Ended s a x h) → sort_of w.cell ≡ head_sort h
ended-sort s a x h w = sym (head_sort-of w.cell) ∙ ap head_sort w.shows

-- and-number ways between the cells and the ends of their bindings
pub both-ends : (s : Store) (σ : Solution) (a b x y : ℕ) → Solves s σ → EndsAt s a x → EndsAt s b y → (σ a ≡ σ b → σ x ≡ σ y) × (σ x ≡ σ y → σ a ≡ σ b)
both-ends s σ a b x y h e f = (λ q. sym (ends-same s σ a x h e) ∙ q ∙ ends-same s σ b y h f, λ q. ends-same s σ a x h e ∙ q ∙ sym (ends-same s σ b y h f))

pub step-same : (s : Store) (a b x y : ℕ) → EndsAt s a x → EndsAt s b y → x ≡ y → (σ : Solution) → Solves s σ → σ a ≡ σ b
step-same s a b x y e f q σ h = (both-ends s σ a b x y h e f).1 (ap σ q)

pub step-sorts : (s : Store) (a b x y : ℕ) (h k : Head) → Ended s a x h → Ended s b y k → sort_eq (head_sort h) (head_sort k) ≡ false → (σ : Solution) → Solves s σ → ¬ (σ a ≡ σ b)
step-sorts s a b x y h k w u n σ o q =
    let same = sorts-apart s σ x y w.cell u.cell o w.at u.at ((both-ends s σ a b x y o w.ends u.ends).0 q) in
    let t : head_sort h ≡ head_sort k = sym (ended-sort s a x h w) ∙ same ∙ ended-sort s b y k u in
    false≢true (sym n ∙ ap (sort_eq (head_sort h)) (sym t) ∙ sort_eq-same (head_sort h))

pub step-sorts_right : (s : Store) (a b x y : ℕ) (h k : Head) → Ended s a x h → Ended s b y k → sort_eq (head_sort k) (head_sort h) ≡ false → (σ : Solution) → Solves s σ → ¬ (σ a ≡ σ b)
step-sorts_right s a b x y h k w u n σ o q = step-sorts s b a y x k h u w n σ o (sym q)

open-cell : (c : Cell) (h : Head) → is_bound c ≡ false → head_of c ≡ h → is_open_head h ≡ true → c ≡ variable (head_sort h) None
open-cell c h b e o = by c b (ap is_open_head e ∙ o) ∙ ap (λ t. variable t None) (sym (head_sort-of c) ∙ ap head_sort e)
  where
    by : (c : Cell) → is_bound c ≡ false → is_open_head (head_of c) ≡ true → c ≡ variable (sort_of c) None
    by (variable sort None) b o = refl
    by (variable sort (Some r)) b o = absurd (false≢true (sym b))
    by (fun_cell f rs) b o = absurd (false≢true o)
    by (eigen_cell f rs) b o = absurd (false≢true o)
    by (new_cell f rs) b o = absurd (false≢true o)
    by (string_cell rs) b o = absurd (false≢true o)

pub built-cell : (c : Cell) (h : Head) → head_of c ≡ h → is_open_head h ≡ false → is_variable c ≡ false
built-cell c h e o = by c (ap is_open_head e ∙ o)
  where
    by : (c : Cell) → is_open_head (head_of c) ≡ false → is_variable c ≡ false
    by (variable sort b) o = absurd (false≢true (sym o))
    by (fun_cell f rs) o = refl
    by (eigen_cell f rs) o = refl
    by (new_cell f rs) o = refl
    by (string_cell rs) o = refl

pub step-left : (s : Store) (a b x y : ℕ) (h k : Head) → Ended s a x h → Ended s b y k → ¬ (x ≡ y) → sort_eq (head_sort h) (head_sort k) ≡ true → is_open_head h ≡ true → IsBinding s x y × ((σ : Solution) → Solves s σ → (σ a ≡ σ b → σ x ≡ σ y) × (σ x ≡ σ y → σ a ≡ σ b)) × AreEnds s a b x y
step-left s a b x y h k w u n t o =
    let same = sort_eq-true (head_sort h) (head_sort k) t in (
      record {
        sort = head_sort h;
        open_cell = w.at ∙ ap Some (open-cell w.cell h w.unbound w.shows o);
        same_sort = has_sort-from s (head_sort h) y u.cell u.at (ended-sort s b y k u ∙ sym same);
        end = (u.cell, u.at, u.unbound);
        other = n;
      },
      λ σ z. both-ends s σ a b x y z w.ends u.ends,
      inl (w.ends, u.ends),
    )

pub step-right : (s : Store) (a b x y : ℕ) (h k : Head) → Ended s a x h → Ended s b y k → ¬ (x ≡ y) → sort_eq (head_sort k) (head_sort h) ≡ true → is_open_head k ≡ true → IsBinding s y x × ((σ : Solution) → Solves s σ → (σ a ≡ σ b → σ y ≡ σ x) × (σ y ≡ σ x → σ a ≡ σ b)) × AreEnds s a b y x
step-right s a b x y h k w u n t o =
    let turned = step-left s b a y x k h u w (λ q. n (sym q)) t o in
    (turned.0, λ σ z. let p = turned.1 σ z in (λ q. p.0 (sym q), λ q. sym (p.1 q)), inr (u.ends, w.ends))

-- names and numbers of parts tell whether built cells are alike
alike-name : (c d : Cell) → is_variable c ≡ false → are_alike c d ≡ true → (same_name (head_of c) (head_of d) ≡ true) × (length (parts_of c) ≡ length (parts_of d))
alike-name (variable sort b) d v h = absurd (false≢true (sym v))
alike-name (fun_cell f rs) (fun_cell g qs) v h = and-number_parts (f == g) (length rs) (length qs) h
alike-name (eigen_cell f rs) (eigen_cell g qs) v h = and-number_parts (f == g) (length rs) (length qs) h
alike-name (new_cell f rs) (new_cell g qs) v h = and-number_parts (f == g) (length rs) (length qs) h
alike-name (string_cell rs) (string_cell qs) v h = (refl, eqb-true (length rs) (length qs) h)
alike-name (fun_cell f rs) (variable sort b) v h = absurd (false≢true h)
alike-name (fun_cell f rs) (eigen_cell g qs) v h = absurd (false≢true h)
alike-name (fun_cell f rs) (new_cell g qs) v h = absurd (false≢true h)
alike-name (fun_cell f rs) (string_cell qs) v h = absurd (false≢true h)
alike-name (eigen_cell f rs) (variable sort b) v h = absurd (false≢true h)
alike-name (eigen_cell f rs) (fun_cell g qs) v h = absurd (false≢true h)
alike-name (eigen_cell f rs) (new_cell g qs) v h = absurd (false≢true h)
alike-name (eigen_cell f rs) (string_cell qs) v h = absurd (false≢true h)
alike-name (new_cell f rs) (variable sort b) v h = absurd (false≢true h)
alike-name (new_cell f rs) (fun_cell g qs) v h = absurd (false≢true h)
alike-name (new_cell f rs) (eigen_cell g qs) v h = absurd (false≢true h)
alike-name (new_cell f rs) (string_cell qs) v h = absurd (false≢true h)
alike-name (string_cell rs) (variable sort b) v h = absurd (false≢true h)
alike-name (string_cell rs) (fun_cell g qs) v h = absurd (false≢true h)
alike-name (string_cell rs) (eigen_cell g qs) v h = absurd (false≢true h)
alike-name (string_cell rs) (new_cell g qs) v h = absurd (false≢true h)

name-alike : (c d : Cell) → is_variable c ≡ false → same_name (head_of c) (head_of d) ≡ true → length (parts_of c) ≡ length (parts_of d) → are_alike c d ≡ true
name-alike (variable sort b) d v h n = absurd (false≢true (sym v))
name-alike (fun_cell f rs) (fun_cell g qs) v h n = and-number (f == g) (length rs) (length qs) h n
name-alike (eigen_cell f rs) (eigen_cell g qs) v h n = and-number (f == g) (length rs) (length qs) h n
name-alike (new_cell f rs) (new_cell g qs) v h n = and-number (f == g) (length rs) (length qs) h n
name-alike (string_cell rs) (string_cell qs) v h n = eq-eqb (length rs) (length qs) n
name-alike (fun_cell f rs) (variable sort b) v h n = absurd (false≢true h)
name-alike (fun_cell f rs) (eigen_cell g qs) v h n = absurd (false≢true h)
name-alike (fun_cell f rs) (new_cell g qs) v h n = absurd (false≢true h)
name-alike (fun_cell f rs) (string_cell qs) v h n = absurd (false≢true h)
name-alike (eigen_cell f rs) (variable sort b) v h n = absurd (false≢true h)
name-alike (eigen_cell f rs) (fun_cell g qs) v h n = absurd (false≢true h)
name-alike (eigen_cell f rs) (new_cell g qs) v h n = absurd (false≢true h)
name-alike (eigen_cell f rs) (string_cell qs) v h n = absurd (false≢true h)
name-alike (new_cell f rs) (variable sort b) v h n = absurd (false≢true h)
name-alike (new_cell f rs) (fun_cell g qs) v h n = absurd (false≢true h)
name-alike (new_cell f rs) (eigen_cell g qs) v h n = absurd (false≢true h)
name-alike (new_cell f rs) (string_cell qs) v h n = absurd (false≢true h)
name-alike (string_cell rs) (variable sort b) v h n = absurd (false≢true h)
name-alike (string_cell rs) (fun_cell g qs) v h n = absurd (false≢true h)
name-alike (string_cell rs) (eigen_cell g qs) v h n = absurd (false≢true h)
name-alike (string_cell rs) (new_cell g qs) v h n = absurd (false≢true h)

-- built cells with other names are apart
pub step-names : (s : Store) (a b x y : ℕ) (h k : Head) → Ended s a x h → Ended s b y k → is_open_head h ≡ false → is_open_head k ≡ false → same_name h k ≡ false → (σ : Solution) → Solves s σ → ¬ (σ a ≡ σ b)
step-names s a b x y h k w u o p n σ z q =
    let c = built-cell w.cell h w.shows o in
    let d = built-cell u.cell k u.shows p in
    let alike = equal-alike s σ x y w.cell u.cell z w.at u.at c d ((both-ends s σ a b x y z w.ends u.ends).0 q) in
    false≢true (sym n ∙ ap₂ same_name (sym w.shows) (sym u.shows) ∙ (alike-name w.cell u.cell c alike).0)

pub counted : (s : Store) (a x : ℕ) (h : Head) (w : Ended s a x h) (m : ℕ) → EndsIn s x (λ c. m ≡ length (parts_of c)) → m ≡ length (parts_of w.cell)
counted s a x h w m (v, c, f, g, k) =
    let same = ends-once s x x v (stays w.at w.unbound) f in
    let q : c ≡ w.cell = let p : Some c ≡ Some w.cell = sym g ∙ ap (slice_get s.cells) (sym same) ∙ w.at in cc in
    k ∙ ap (λ e. length (parts_of e)) q

-- and so are those with other numbers of parts
pub step-counts : (s : Store) (a b x y m n : ℕ) (h k : Head) → Ended s a x h → Ended s b y k → is_open_head h ≡ false → is_open_head k ≡ false → EndsIn s x (λ c. m ≡ length (parts_of c)) → EndsIn s y (λ c. n ≡ length (parts_of c)) → ¬ (m ≡ n) → (σ : Solution) → Solves s σ → ¬ (σ a ≡ σ b)
step-counts s a b x y m n h k w u o p f g t σ z q =
    let c = built-cell w.cell h w.shows o in
    let d = built-cell u.cell k u.shows p in
    let alike = equal-alike s σ x y w.cell u.cell z w.at u.at c d ((both-ends s σ a b x y z w.ends u.ends).0 q) in
    t (counted s a x h w m f ∙ (alike-name w.cell u.cell c alike).1 ∙ sym (counted s b y k u n g))

pub step-parts : (s : Store) (a b x y m n : ℕ) (h k : Head) → Ended s a x h → Ended s b y k → is_open_head h ≡ false → same_name h k ≡ true → EndsIn s x (λ c. m ≡ length (parts_of c)) → EndsIn s y (λ c. n ≡ length (parts_of c)) → m ≡ n → AreBuilt s x y × EndsAt s a x × EndsAt s b y
step-parts s a b x y m n h k w u o e f g t = (
  record {
    left = w.cell;
    right = u.cell;
    left_at = w.at;
    right_at = u.at;
    alike = name-alike w.cell u.cell (built-cell w.cell h w.shows o) (ap₂ same_name w.shows u.shows ∙ e) (sym (counted s a x h w m f) ∙ t ∙ counted s b y k u n g);
  },
  w.ends,
  u.ends,
)
