-- The passes that are found by the branch without terms are those of the tree, and refer to entries of the branch alone.
use Rattle.std.proofs.Common.{◌≡◌, ℕ, zero, suc, ◌+◌, ◌≤◌, List, [], ◌∷◌, ◌++◌, length, map, take, Bool, true, false, Option, Some, None, Ok, refl, sym, ◌∙◌, ap, ap₂, subst, arith}
use Rattle.std.specs.Option.{option_map}
use Rattle.std.proofs.lemmas.Option.{slice_get-map, slice_get_within}
use Rattle.std.proofs.lemmas.List.{append_assoc, append-nil, length-append}
use Rattle.calculus.specs.declared.kind.Shape.{Shape}
use Rattle.calculus.specs.declared.kind.Shape.TheVariants.{Alpha, Beta, Gamma, Delta, Literal}
use Rattle.calculus.specs.Syntax.{Problem}
use Rattle.calculus.specs.Kinds.{Signed, shape_of, components}
use Rattle.calculus.specs.Derivations.{Entry, Sequent, Names, Step, first_sequent}
use Rattle.calculus.specs.Calculus.{closed, close_branch, entry_of}
use Rattle.trim_theory.specs.Trimming.{Tree, steps_of, ClosesBy, by_axiom, by_step, by_fork}
use Rattle.trim_theory.specs.Bare.{bare, bare_of}
use Rattle.trim_theory.specs.Marking.{pass, passes, IsWithin}
use Rattle.trim_theory.specs.Reading.{grows, splits, next_by, next_of, bare_entry, Waiting, resumed, by_next, passes_of}
use Rattle.trim_theory.specs.declared.pass.Way.TheVariants.{Ends, Adds, Forks}
use Rattle.trim_theory.proofs.BareLaws.{AddsBare, ForksBare, step-bare, fork-bare}

pub map-append : (s r : Sequent) → map bare_of s ++ map bare_of r ≡ map bare_of (s ++ r)
map-append [] r = refl
map-append (e ∷ s) r = ap (λ xs. bare_of e ∷ xs) (map-append s r)

pub bare-length : (s : Sequent) → length (map bare_of s) ≡ length s
bare-length [] = refl
bare-length (e ∷ s) = ap suc (bare-length s)

pub bare-at : (s : Sequent) (a : ℕ) (e : Entry) → entry_of s a ≡ Some e → bare_entry (map bare_of s) a ≡ Some (bare_of e)
bare-at s zero e h = cc
bare-at s (suc k) e h = slice_get-map bare_of s k ∙ ap (option_map bare_of) h

no_split : (h : Shape) (xs : List Signed) → (h ≡ Beta → ⊥) → next_by h xs ≡ grows xs
no_split Alpha xs n = refl
no_split Beta xs n = absurd (n refl)
no_split Gamma xs n = refl
no_split Delta xs n = refl
no_split Literal xs n = refl

pub next-step : (s added : Sequent) (a : ℕ) → AddsBare (entry_of s a) added → next_of (bare_entry (map bare_of s) a) ≡ grows (map bare_of added)
next-step s added a h =
    let e = h.0 in
    ap next_of (bare-at s a e h.1) ∙ no_split (shape_of e.sign (bare e.formula)) (components e.sign (bare e.formula)) h.2 ∙ ap grows (sym h.3)

pub next-fork : (s : Sequent) (e f : Entry) (a : ℕ) → ForksBare (entry_of s a) e f → next_of (bare_entry (map bare_of s) a) ≡ splits (bare_of e) (bare_of f)
next-fork s e f a h =
    let x = h.0 in
    ap next_of (bare-at s a x h.1) ∙ ap (λ k. next_by k (components x.sign (bare x.formula))) h.2 ∙ ap (next_by Beta) (sym h.3)

one_more : (s : Sequent) (e : Entry) → length (s ++ e ∷ []) ≡ suc (length s)
one_more s e = let h = length-append s (e ∷ []) in let g : length (e ∷ []) ≡ 1 = refl in omega arith

-- ---- entries of the branch

entry-within : (s : Sequent) (a : ℕ) (e : Entry) → entry_of s a ≡ Some e → a ≤ length s
entry-within s zero e h = omega arith
entry-within s (suc k) e h = let w = slice_get_within s k e h in omega arith

close-within : (o p : Option Entry) → close_branch o p ≡ Ok closed → ((e : Entry) × (o ≡ Some e)) × ((f : Entry) × (p ≡ Some f))
close-within (Some e) (Some f) h = ((e, refl), (f, refl))
close-within (Some e) None h = cc
close-within None p h = cc

pub closes-within : (P : Problem) (names : Names) {s : Sequent} {t : Tree} → ClosesBy P names s t → IsWithin (length s) t
closes-within P names {s} (by_axiom {a = a} {b = b} h) =
    let r = close-within (entry_of s a) (entry_of s b) h in
    (entry-within s a r.0.0 r.0.1, entry-within s b r.1.0 r.1.1)
closes-within P names {s} (by_step added {a = a} {x = x} {y = y} {t = t} h d) =
    let g = step-bare P names s (entry_of s a) x y added h in
    (entry-within s a g.0 g.1, subst (λ n. IsWithin n t) (length-append s added) (closes-within P names d))
closes-within P names {s} (by_fork e f {a = a} {x = x} {y = y} {t = t} {r = r} h d g) =
    let k = fork-bare P names s (entry_of s a) x y e f h in
    (entry-within s a k.0 k.1, subst (λ n. IsWithin n t) (one_more s e) (closes-within P names d), subst (λ n. IsWithin n r) (one_more s f) (closes-within P names g))

-- ---- the walk

take-left : {A : Type 0} (xs ys zs : List A) → take (length xs) ((xs ++ ys) ++ zs) ≡ xs
take-left [] ys zs = refl
take-left (x ∷ xs) ys zs = ap (λ ws. x ∷ ws) (take-left xs ys zs)

-- the walk over a tree tells its passes, and goes on with a longer branch
abbrev Reads : Sequent → Tree → Bool → Waiting → List Step → Type 0
Reads s t b fs xs = (q : List Signed) × (passes_of (steps_of t ++ xs) b (map bare_of s) fs ≡ passes b (length s) t ++ resumed (map bare_of s ++ q) fs (passes_of xs))

reads : (P : Problem) (names : Names) {s : Sequent} {t : Tree} → ClosesBy P names s t → (b : Bool) (fs : Waiting) (xs : List Step) → Reads s t b fs xs
reads P names {s} (by_axiom {a = a} {b = c} h) b fs xs = ([], ap₂ (λ n z. pass n (Ends a c) b ∷ resumed z fs (passes_of xs)) (bare-length s) (sym (append-nil (map bare_of s))))
reads P names {s} (by_step added {a = a} {x = x} {y = y} {t = t} h d) b fs xs =
    let br = map bare_of s in
    let go = passes_of (steps_of t ++ xs) in
    let next = next-step s added a (step-bare P names s (entry_of s a) x y added h) in
    let r = reads P names d false fs xs in
    let below : go false (br ++ map bare_of added) fs ≡ passes false (length s + length added) t ++ resumed (br ++ (map bare_of added ++ r.0)) fs (passes_of xs) =
    ap (λ z. go false z fs) (map-append s added)
    ∙ r.1
    ∙ ap₂ (λ n z. passes false n t ++ resumed z fs (passes_of xs)) (length-append s added) (ap (λ z. z ++ r.0) (sym (map-append s added)) ∙ append_assoc br (map bare_of added) r.0) in (
      map bare_of added ++ r.0,
      ap (λ z. by_next b br fs a z go) next
          ∙ ap₂ (λ n j. pass n (Adds a j) b ∷ go false (br ++ map bare_of added) fs) (bare-length s) (bare-length added)
          ∙ ap (λ zs. pass (length s) (Adds a (length added)) b ∷ zs) below,
    )
reads P names {s} (by_fork e f {a = a} {x = x} {y = y} {t = t} {r = r} h d g) b fs xs =
    let br = map bare_of s in
    let more : Waiting = (length br, bare_of f) ∷ fs in
    let next = next-fork s e f a (fork-bare P names s (entry_of s a) x y e f h) in
    let left = reads P names d false more (steps_of r ++ xs) in
    let right = reads P names g true fs xs in
    let cut : take (length br) (map bare_of (s ++ e ∷ []) ++ left.0) ++ bare_of f ∷ [] ≡ map bare_of (s ++ f ∷ []) =
    ap (λ z. take (length br) (z ++ left.0) ++ bare_of f ∷ []) (sym (map-append s (e ∷ []))) ∙ ap (λ z. z ++ bare_of f ∷ []) (take-left br (bare_of e ∷ []) left.0) ∙ map-append s (f ∷ []) in
    let behind : map bare_of (s ++ f ∷ []) ++ right.0 ≡ br ++ (bare_of f ∷ right.0) = ap (λ z. z ++ right.0) (sym (map-append s (f ∷ []))) ∙ append_assoc br (bare_of f ∷ []) right.0 in
    let from_right : resumed (map bare_of (s ++ e ∷ []) ++ left.0) more (passes_of (steps_of r ++ xs)) ≡ passes true (suc (length s)) r ++ resumed (br ++ (bare_of f ∷ right.0)) fs (passes_of xs) =
    ap (λ z. passes_of (steps_of r ++ xs) true z fs) cut ∙ right.1 ∙ ap₂ (λ n z. passes true n r ++ resumed z fs (passes_of xs)) (one_more s f) behind in
    let below : passes_of ((steps_of t ++ steps_of r) ++ xs) false (br ++ bare_of e ∷ []) more ≡ (passes false (suc (length s)) t ++ passes true (suc (length s)) r) ++ resumed (br ++ (bare_of f ∷ right.0)) fs (passes_of xs) =
    ap₂ (λ z w. passes_of z false w more) (append_assoc (steps_of t) (steps_of r) xs) (map-append s (e ∷ []))
    ∙ left.1
    ∙ ap₂ (λ n z. passes false n t ++ z) (one_more s e) from_right
    ∙ sym (append_assoc (passes false (suc (length s)) t) (passes true (suc (length s)) r) (resumed (br ++ (bare_of f ∷ right.0)) fs (passes_of xs))) in (
      bare_of f ∷ right.0,
      ap (λ z. by_next b br fs a z (passes_of ((steps_of t ++ steps_of r) ++ xs))) next
          ∙ ap₂ (λ n zs. pass n (Forks a) b ∷ zs) (bare-length s) below,
    )

-- a derivation's steps, below the problem's formula
pub reads-all : (P : Problem) (names : Names) (t : Tree) → ClosesBy P names (first_sequent P) t → passes_of (steps_of t) false (map bare_of (first_sequent P)) [] ≡ passes false 1 t
reads-all P names t h =
    let r = reads P names h false [] [] in
    ap (λ xs. passes_of xs false (map bare_of (first_sequent P)) []) (sym (append-nil (steps_of t))) ∙ r.1 ∙ append-nil (passes false 1 t)
