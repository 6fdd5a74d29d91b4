-- Making lists of marks the same, and equations equal, one by one.
use Rattle.std.proofs.Common.{◌≡◌, ◌⊎◌, ℕ, zero, suc, ◌+◌, ◌<◌, ◌≤◌, List, [], ◌∷◌, ◌++◌, drop, length, map, IsTrue, refl, sym, ◌∙◌, ap, subst, Some, slice_get, inl, inr, arith, leb-true, ltb-true, nat_le, nat_lt}
use Rattle.std.specs.List.{flat_map, list_all, AllByRecursion}
use Rattle.calculus.specs.Syntax.{Problem}
use Rattle.std.proofs.lemmas.Bool.{and_from, and_parts}
use Rattle.std.proofs.lemmas.List.{length-map}
use Rattle.plain_laws.proofs.Places.{drop-end, drop-there}
use Rattle.plain_laws.proofs.Every.{all-at, all-drop, all-weaken, all-parts}
use Rattle.store_theory.proofs.BindingLaws.{within-sort}
use Rattle.calculus.specs.declared.sort.Sort.TheVariants.{MarkSort, StringSort}
use Rattle.store_theory.specs.Bindings.{AreApart, BindsOnly, BindsWithin, KeepsMarks, NamesFrom, Unifies}
use Rattle.store_theory.specs.Stores.{Store, has_sort_at, is_store, Solution, Solves}
use Rattle.store_theory.specs.Systems.{Equation, AreEqual, has_label_sort_at, is_equation, is_label}
use Rattle.term_store.specs.RefView.{the_place}
use Rattle.term_store.specs.declared.cell.Ref.{Ref}
use Rattle.term_unify.proofs.PairLaws.{BindsOnly-both, BindsOnly-same}
use Rattle.search_theory.specs.Solving.{CannotEqual, IsNarrowed}
use Rattle.search_theory.specs.States.{Agree}
use Rattle.search_theory.specs.Steps.{IsUnified}
use Rattle.search_theory.proofs.BuildingLaws.{agree-both}
use Rattle.search_theory.proofs.GivingLaws.{equation-made, equation-never, narrowed-not, never-first, never-later, never-length, same-more, same-none}
use Rattle.search_theory.specs.MarkLists.{IsFlat, NeverSame, SameMarks}
use Rattle.search_theory.proofs.FromLaws.{labelled-unified, names-labelled}
use Rattle.search_theory.proofs.SpareLaws.{or-both}
use Rattle.search_theory.proofs.SolvingLaws.{equal-agree, label-below}
use Rattle.prefix_split.specs.Equated.{equation_cells}
use Rattle.prefix_split.specs.Later.{HasNoString, HasNoStringIn, IsLater, KeepsRight}
use Rattle.prefix_split.proofs.LaterLaws.{later-both, later-same, later-unified, no_string-later}
use Rattle.prefix_split.proofs.LengthLaws.{sorted-later}

one : (s t : Store) (a b : ℕ) → Unifies a b s t → BindsOnly s t → IsUnified s t a b
one s t a b u binds = record { size = binds.same_length; back = λ σ h. (u.0 σ).0 h; forth = λ σ h e. (u.0 σ).1 h e }

-- ---- marks

-- the marks before the place i are the same
pub record IsSameTo (old cur : Store) (ms ns : List ℕ) (i : ℕ) : Type 0 where
  pub rest : (new : Store) → IsNarrowed cur new (SameMarks (drop i ms) (drop i ns)) → IsNarrowed old new (SameMarks ms ns)
  pub apart : NeverSame cur (drop i ms) (drop i ns) → NeverSame old ms ns
  pub binds : BindsOnly old cur
  pub later : IsLater old cur

pub same-start : (s : Store) (ms ns : List ℕ) → IsSameTo s s ms ns 0
same-start s ms ns = record { rest = λ new h. h; apart = λ h. h; binds = BindsOnly-same s; later = later-same s }

-- what is asked of both lists
pub record AreMarks (s : Store) (ms : List ℕ) : Type 0 where
  pub sorted : IsTrue (list_all (has_sort_at s MarkSort) ms)
  pub free : HasNoString s ms

clean : (old cur : Store) (ms : List ℕ) (i a : ℕ) → AreMarks old ms → IsLater old cur → slice_get ms i ≡ Some a → HasNoStringIn cur a
clean old cur ms i a h l e = no_string-later old cur a l (within-sort old MarkSort a (all-at (has_sort_at old MarkSort) ms i a h.sorted e)) (λ v o c. h.free v i a o e c)

pub mark-within : (old cur : Store) (ms : List ℕ) (i a : ℕ) → IsTrue (list_all (has_sort_at old MarkSort) ms) → IsLater old cur → slice_get ms i ≡ Some a → a < length cur.cells
mark-within old cur ms i a h l e = within-sort cur MarkSort a (l.sorts MarkSort a (all-at (has_sort_at old MarkSort) ms i a h e))

-- a pair of marks was unified, or was not: what stays in either case
pub later-next : (old mid new : Store) (ms ns : List ℕ) (i a b : ℕ) → AreMarks old ms → AreMarks old ns → IsSameTo old mid ms ns i → slice_get ms i ≡ Some a → slice_get ns i ≡ Some b → BindsOnly mid new → BindsWithin a b mid new → KeepsMarks mid new → IsLater old new
later-next old mid new ms ns i a b hm hn t ea eb binds within marks = later-both old mid new t.later (later-unified mid new a b binds within (clean old mid ms i a hm t.later ea) (clean old mid ns i b hn t.later eb) marks)

pub binds-next : (old mid new : Store) (ms ns : List ℕ) (i : ℕ) → IsSameTo old mid ms ns i → BindsOnly mid new → BindsOnly old new
binds-next old mid new ms ns i t binds = BindsOnly-both old mid new t.binds binds

from-here : (old cur : Store) (ms : List ℕ) (i a : ℕ) → IsLater old cur → IsTrue (list_all (has_sort_at old MarkSort) ms) → slice_get ms i ≡ Some a → IsTrue (list_all (has_sort_at cur MarkSort) (a ∷ drop (suc i) ms))
from-here old cur ms i a l h e = subst (λ xs. IsTrue (list_all (has_sort_at cur MarkSort) xs)) (drop-there ms i a e) (all-drop (has_sort_at cur MarkSort) i ms (sorted-later old cur MarkSort ms l h))

pub same-next : (old mid new : Store) (ms ns : List ℕ) (i a b : ℕ) → AreMarks old ms → AreMarks old ns → IsSameTo old mid ms ns i → slice_get ms i ≡ Some a → slice_get ns i ≡ Some b → Unifies a b mid new → BindsOnly mid new → BindsWithin a b mid new → KeepsMarks mid new → IsSameTo old new ms ns (i + 1)
same-next old mid new ms ns i a b hm hn t ea eb u binds within marks = record {
  rest = λ end k. t.rest end (subst (λ xs. IsNarrowed mid end (SameMarks xs (drop i ns))) (sym (drop-there ms i a ea)) (subst (λ ys. IsNarrowed mid end (SameMarks (a ∷ drop (suc i) ms) ys)) (sym (drop-there ns i b eb))
      (same-more mid new end a b (drop (suc i) ms) (drop (suc i) ns) left right (one mid new a b u binds) (subst (λ n. IsNarrowed new end (SameMarks (drop n ms) (drop n ns))) more k))));
  apart = λ k. t.apart (subst (λ xs. NeverSame mid xs (drop i ns)) (sym (drop-there ms i a ea)) (subst (λ ys. NeverSame mid (a ∷ drop (suc i) ms) ys) (sym (drop-there ns i b eb))
      (never-later mid new a b (drop (suc i) ms) (drop (suc i) ns) left right (one mid new a b u binds) (subst (λ n. NeverSame new (drop n ms) (drop n ns)) more k))));
  binds = binds-next old mid new ms ns i t binds;
  later = later-next old mid new ms ns i a b hm hn t ea eb binds within marks;
}
  where
    more : i + 1 ≡ suc i
    more = omega arith

    left : IsTrue (list_all (has_sort_at mid MarkSort) (a ∷ drop (suc i) ms))
    left = from-here old mid ms i a t.later hm.sorted ea

    right : IsTrue (list_all (has_sort_at mid MarkSort) (b ∷ drop (suc i) ns))
    right = from-here old mid ns i b t.later hn.sorted eb

pub never-next : (old mid : Store) (ms ns : List ℕ) (i a b : ℕ) → AreMarks old ms → AreMarks old ns → IsSameTo old mid ms ns i → slice_get ms i ≡ Some a → slice_get ns i ≡ Some b → AreApart a b mid → NeverSame old ms ns
never-next old mid ms ns i a b hm hn t ea eb apart = t.apart (subst (λ xs. NeverSame mid xs (drop i ns)) (sym (drop-there ms i a ea)) (subst (λ ys. NeverSame mid (a ∷ drop (suc i) ms) ys) (sym (drop-there ns i b eb))
    (never-first mid a b (drop (suc i) ms) (drop (suc i) ns) (from-here old mid ms i a t.later hm.sorted ea) (from-here old mid ns i b t.later hn.sorted eb) apart)))

pub same-all : (old new : Store) (ms ns : List ℕ) (i : ℕ) → IsSameTo old new ms ns i → length ms ≤ i → length ns ≤ i → IsNarrowed old new (SameMarks ms ns)
same-all old new ms ns i t l m = t.rest new (subst (λ xs. IsNarrowed new new (SameMarks xs (drop i ns))) (sym (drop-end ms i l)) (subst (λ ys. IsNarrowed new new (SameMarks [] ys)) (sym (drop-end ns i m)) (same-none new)))

pub mapped-differ : (xs ys : List Ref) → ¬ (length xs ≡ length ys) → ¬ (length (map the_place xs) ≡ length (map the_place ys))
mapped-differ xs ys n e = n (sym (length-map xs the_place) ∙ e ∙ length-map ys the_place)

-- ---- what is made equal stays built right

pub from-left : (base : ℕ) (xs ys : List ℕ) (i r : ℕ) → IsTrue (list_all (nat_le base) (xs ++ ys)) → slice_get xs i ≡ Some r → base ≤ r
from-left base xs ys i r h e = leb-true base r (all-at (nat_le base) xs i r (all-parts (nat_le base) xs ys h).0 e)

pub from-right : (base : ℕ) (xs ys : List ℕ) (i r : ℕ) → IsTrue (list_all (nat_le base) (xs ++ ys)) → slice_get ys i ≡ Some r → base ≤ r
from-right base xs ys i r h e = leb-true base r (all-at (nat_le base) ys i r (all-parts (nat_le base) xs ys h).1 e)

from-both : (base : ℕ) (xs ys : List ℕ) → IsTrue (list_all (nat_le base) xs) → IsTrue (list_all (nat_le base) ys) → IsTrue (list_all (nat_le base) (xs ++ ys))
from-both base [] ys h k = k
from-both base (x ∷ xs) ys h k = let p = and_parts (nat_le base x) (list_all (nat_le base) xs) h in and_from (nat_le base x) (list_all (nat_le base) (xs ++ ys)) p.0 (from-both base xs ys p.1 k)

-- a pair of marks was unified
pub right-next : (P : Problem) (old mid new : Store) (ms ns : List ℕ) (i a b : ℕ) → IsTrue (is_store mid) → KeepsRight P (ms ++ ns) old mid → slice_get ms i ≡ Some a → slice_get ns i ≡ Some b → BindsOnly mid new → BindsWithin a b mid new → KeepsRight P (ms ++ ns) old new
right-next P old mid new ms ns i a b st h ea eb binds within base l from k = labelled-unified P base a b mid new st binds within (from-left base ms ns i a from ea) (from-right base ms ns i b from eb) (h base l from k)

-- labels are made equal by their marks
pub right-flat : (P : Problem) (old new : Store) (left right ms ns : List ℕ) → ((base : ℕ) → NamesFrom base old → IsTrue (list_all (nat_le base) left) → IsTrue (list_all (nat_le base) ms)) → ((base : ℕ) → NamesFrom base old → IsTrue (list_all (nat_le base) right) → IsTrue (list_all (nat_le base) ns)) → KeepsRight P (ms ++ ns) old new → KeepsRight P (left ++ right) old new
right-flat P old new left right ms ns f g h base l from a =
    let names = names-labelled P base old a in
    let parts = all-parts (nat_le base) left right from in
    h base l (from-both base ms ns (f base names parts.0) (g base names parts.1)) a

-- one of the equations was made equal
pub right-equation : (P : Problem) (es : List Equation) (i : ℕ) (e : Equation) (left right : List ℕ) (s t : Store) → slice_get es i ≡ Some e → left ≡ e.left → right ≡ e.right → KeepsRight P (left ++ right) s t → KeepsRight P (flat_map equation_cells es) s t
right-equation P es i e left right s t at el er h base l from a = h base l (subst (λ xs. IsTrue (list_all (nat_le base) (xs ++ right))) (sym el) (subst (λ ys. IsTrue (list_all (nat_le base) (e.left ++ ys))) (sym er) (cells-at es i at from))) a
  where
    cells-at : (xs : List Equation) (j : ℕ) → slice_get xs j ≡ Some e → IsTrue (list_all (nat_le base) (flat_map equation_cells xs)) → IsTrue (list_all (nat_le base) (equation_cells e))
    cells-at [] j q k = cc q
    cells-at (x ∷ xs) zero q k = let z : x ≡ e = cc q in subst (λ y. IsTrue (list_all (nat_le base) (equation_cells y))) z (all-parts (nat_le base) (equation_cells x) (flat_map equation_cells xs) k).0
    cells-at (x ∷ xs) (suc j) q k = cells-at xs j q (all-parts (nat_le base) (equation_cells x) (flat_map equation_cells xs) k).1

-- ---- equations

-- the equations before the place i are made equal
pub record AreMadeTo (old cur : Store) (es : List Equation) (i : ℕ) : Type 0 where
  pub rest : (new : Store) → IsNarrowed cur new (λ σ. AllByRecursion (AreEqual σ) (drop i es)) → IsNarrowed old new (λ σ. AllByRecursion (AreEqual σ) es)
  pub apart : ((σ : Solution) → Solves cur σ → ¬ AllByRecursion (AreEqual σ) (drop i es)) → (σ : Solution) → Solves old σ → ¬ AllByRecursion (AreEqual σ) es
  pub later : IsLater old cur

pub made-start : (s : Store) (es : List Equation) → AreMadeTo s s es 0
made-start s es = record { rest = λ new h. h; apart = λ h. h; later = later-same s }

abbrev AllEqual : List Equation → Solution → Type 0
AllEqual es σ = AllByRecursion (AreEqual σ) es

label-later : (old cur : Store) (rs : List ℕ) → IsLater old cur → IsTrue (is_label old rs) → IsTrue (is_label cur rs)
label-later old cur rs l h = all-weaken (has_label_sort_at old) (has_label_sort_at cur) (λ r q. or-both (has_sort_at old MarkSort r) (has_sort_at old StringSort r) (has_sort_at cur MarkSort r) (has_sort_at cur StringSort r) (l.sorts MarkSort r) (l.sorts StringSort r) q) rs h

pub equation-later : (old cur : Store) (e : Equation) → IsLater old cur → IsTrue (is_equation old e) → IsTrue (is_equation cur e)
equation-later old cur e l h = let p = and_parts (is_label old e.left) (is_label old e.right) h in and_from (is_label cur e.left) (is_label cur e.right) (label-later old cur e.left l p.0) (label-later old cur e.right l p.1)

equations-later : (old cur : Store) (es : List Equation) → IsLater old cur → IsTrue (list_all (is_equation old) es) → IsTrue (list_all (is_equation cur) es)
equations-later old cur es l h = all-weaken (is_equation old) (is_equation cur) (λ e q. equation-later old cur e l q) es h

pub equations-agree : (s : Store) (σ τ : Solution) → Agree (length s.cells) σ τ → (es : List Equation) → IsTrue (list_all (is_equation s) es) → AllEqual es σ → AllEqual es τ
equations-agree s σ τ a [] h k = tt
equations-agree s σ τ a (e ∷ es) h k = let p = and_parts (is_equation s e) (list_all (is_equation s) es) h in (equal-agree s σ τ a e p.0 k.0, equations-agree s σ τ a es p.1 k.1)

more-equal : (s t u : Store) (e : Equation) (es : List Equation) → IsTrue (list_all (is_equation s) es) → IsNarrowed s t (λ σ. AreEqual σ e) → IsNarrowed t u (AllEqual es) → IsNarrowed s u (AllEqual (e ∷ es))
more-equal s t u e es h first rest = record {
  longer = let a = first.longer in let b = rest.longer in omega (arith, a, b);
  back = λ σ k. (let b = rest.back σ k in let a = first.back σ b.0 in (a.0, (a.1, b.1)));
  forth = λ σ k q. (
      let (τ, th, agree) = first.forth σ k q.0 in
      let (υ, uh, more) = rest.forth τ th (equations-agree s σ τ agree es h q.1) in
      (υ, uh, agree-both (length s.cells) (length t.cells) σ τ υ first.longer agree more)
      );
}

pub made-next : (old mid new : Store) (es : List Equation) (i : ℕ) (e : Equation) → IsTrue (list_all (is_equation old) es) → AreMadeTo old mid es i → slice_get es i ≡ Some e → IsNarrowed mid new (λ σ. AreEqual σ e) → IsLater mid new → AreMadeTo old new es (i + 1)
made-next old mid new es i e h t at n later = record {
  rest = λ end k. t.rest end (subst (λ xs. IsNarrowed mid end (AllEqual xs)) (sym (drop-there es i e at)) (more-equal mid new end e (drop (suc i) es) rest-fits n (subst (λ j. IsNarrowed new end (AllEqual (drop j es))) more k)));
  apart = λ k. t.apart (λ σ s q. (
      let q' : AllEqual (e ∷ drop (suc i) es) σ = subst (λ xs. AllEqual xs σ) (drop-there es i e at) q in
      let (τ, th, agree) = n.forth σ s q'.0 in
      k τ th (subst (λ j. AllEqual (drop j es) τ) (sym more) (equations-agree mid σ τ agree (drop (suc i) es) rest-fits q'.1))
      ));
  later = later-both old mid new t.later later;
}
  where
    more : i + 1 ≡ suc i
    more = omega arith

    rest-fits : IsTrue (list_all (is_equation mid) (drop (suc i) es))
    rest-fits = all-drop (is_equation mid) (suc i) es (equations-later old mid es t.later h)

pub never-made : (old mid : Store) (es : List Equation) (i : ℕ) (e : Equation) → AreMadeTo old mid es i → slice_get es i ≡ Some e → CannotEqual mid e → (σ : Solution) → Solves old σ → ¬ AllByRecursion (AreEqual σ) es
never-made old mid es i e t at never = t.apart (λ σ s q. (let q' : AllEqual (e ∷ drop (suc i) es) σ = subst (λ xs. AllEqual xs σ) (drop-there es i e at) q in never σ s q'.0))

pub made-all : (old new : Store) (es : List Equation) (i : ℕ) → AreMadeTo old new es i → length es ≤ i → IsNarrowed old new (λ σ. AllByRecursion (AreEqual σ) es)
made-all old new es i t l = t.rest new (subst (λ xs. IsNarrowed new new (AllEqual xs)) (sym (drop-end es i l)) (narrowed-not new (AllEqual []) (λ σ s. tt)))

-- the equation at a place, in a later store
pub equation-at : (old cur : Store) (es : List Equation) (i : ℕ) (e : Equation) → IsTrue (list_all (is_equation old) es) → IsLater old cur → slice_get es i ≡ Some e → IsTrue (is_label cur e.left) × IsTrue (is_label cur e.right)
equation-at old cur es i e h l at = let p = equation-later old cur e l (all-at (is_equation old) es i e h at) in and_parts (is_label cur e.left) (is_label cur e.right) p

label-within : (s : Store) (rs : List ℕ) (j r : ℕ) → IsTrue (is_label s rs) → slice_get rs j ≡ Some r → r < length s.cells
label-within s rs j r h e = ltb-true r (length s.cells) (all-at (λ x. nat_lt x (length s.cells)) rs j r (label-below s rs h) e)

pub free-later : (old cur : Store) (rs : List ℕ) → IsTrue (is_label old rs) → IsLater old cur → HasNoString old rs → HasNoString cur rs
free-later old cur rs h l free v j r o e c = no_string-later old cur r l (label-within old rs j r h e) (λ w p d. free w j r p e d) v o c

pub label-at : (s : Store) (es : List Equation) (i : ℕ) (e : Equation) → IsTrue (list_all (is_equation s) es) → slice_get es i ≡ Some e → IsTrue (is_label s e.left) × IsTrue (is_label s e.right)
label-at s es i e h at = and_parts (is_label s e.left) (is_label s e.right) (all-at (is_equation s) es i e h at)
