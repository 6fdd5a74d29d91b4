-- What a signature allows is kept by copies of what it allows.
use Rattle.std.proofs.Common.{◌≡◌, ◌++◌, ◌∷◌, ◌&&◌, [], None, Option, Some, IsTrue, length, map, option_map, slice_get, slice_index_or, ℕ, zero, suc, List, Bool, true, refl, sym, ap, arith, ◌∙◌, subst, inl, inr, append-nil}
use Rattle.std.specs.List.{list_all}
use Rattle.std.proofs.lemmas.Bool.{and_from, and_parts}
use Rattle.plain_laws.proofs.Every.{all-parts}
use Rattle.plain_laws.proofs.Places.{get-within, get-there}
use Rattle.plain_laws.proofs.Options.{same-some}
use Rattle.calculus.specs.declared.sort.Sort.{Sort}
use Rattle.calculus.specs.declared.sort.Sort.TheVariants.{TermSort}
use Rattle.store_theory.specs.Bindings.{AddsBuilt, BindsOnly, with_cell, with_variables_of}
use Rattle.store_theory.specs.Patterns as tree
use Rattle.store_theory.specs.Patterns.{AreCopies, Grows, HaveSortsAt, IsCopy, no_patterns, more_patterns, p_eigen, p_fun, p_new, p_var, patterns_tree}
use Rattle.store_theory.specs.Stores.{Cell, eigen_cell, fun_cell, new_cell, sort_at, sort_of, string_cell, variable, Store}
use Rattle.store_theory.proofs.PatternLaws.{Grows-built, Grows-with_cell}
use Rattle.calculus.proofs.PlaceLists.{get-last}
use Rattle.term_store.specs.Built.{named_cell}
use Rattle.term_store.specs.Copying.{named_pattern, with_literals}
use Rattle.term_store.specs.Signatures.{AreAllowedFrom, BuildsOver, BuildsWithin, IsAllowedCell, Signature, allows, allows_all, allows_atom, allows_gamma, allows_template, number_of_patterns, sort_of_pattern, sorts_of_patterns}
use Rattle.term_store.specs.declared.cell.Name.{Name}
use Rattle.term_store.specs.declared.cell.Name.TheVariants.{Fun, Eigen, New, Marks}
use Rattle.term_store.proofs.FitLaws.{have-grown}

-- ---- one thing after the other

pub within-both : (vs : List ℕ) (p q : List Sort → Signature → Bool) (s t u : Store) → AddsBuilt s t → BuildsOver vs p s t → BuildsOver vs q t u → BuildsOver vs (λ sorts g. p sorts g && q sorts g) s u
within-both vs p q s t u l a b sorts have g base h k =
    let w = and_parts (p sorts g) (q sorts g) h in
    b sorts (have-grown s t sorts vs (Grows-built s t l) have) g base w.1 (a sorts have g base w.0 k)

all-last : {A : Type 0} (p : A → Bool) (xs : List A) (x : A) → IsTrue (list_all p (xs ++ x ∷ [])) → IsTrue (list_all p xs) × IsTrue (p x)
all-last p [] x h = (refl, (and_parts (p x) true h).0)
all-last p (y ∷ xs) x h =
    let a = and_parts (p y) (list_all p (xs ++ x ∷ [])) h in
    let rest = all-last p xs x a.1 in
    (and_from (p y) (list_all p xs) a.0 rest.0, rest.1)

-- one item of a list more
pub within-item : {A : Type 0} (vs : List ℕ) (p : Signature → List Sort → A → Bool) (xs : List A) (x : A) (s t u : Store) → AddsBuilt s t → BuildsOver vs (λ sorts g. list_all (p g sorts) xs) s t → BuildsOver vs (λ sorts g. p g sorts x) t u → BuildsOver vs (λ sorts g. list_all (p g sorts) (xs ++ x ∷ [])) s u
within-item vs p xs x s t u l a b sorts have g base h k =
    let w = all-last (p g sorts) xs x h in
    b sorts (have-grown s t sorts vs (Grows-built s t l) have) g base w.1 (a sorts have g base w.0 k)

patterns-last : (g : Signature) (sorts : List Sort) (ps : List tree.Pattern) (p : tree.Pattern) → IsTrue (allows_all g sorts (patterns_tree (ps ++ p ∷ []))) → IsTrue (allows_all g sorts (patterns_tree ps)) × IsTrue (allows g sorts p)
patterns-last g sorts [] p h = (refl, (and_parts (allows g sorts p) true h).0)
patterns-last g sorts (q ∷ ps) p h =
    let a = and_parts (allows g sorts q) (allows_all g sorts (patterns_tree (ps ++ p ∷ []))) h in
    let rest = patterns-last g sorts ps p a.1 in
    (and_from (allows g sorts q) (allows_all g sorts (patterns_tree ps)) a.0 rest.0, rest.1)

pub within-pattern : (vs : List ℕ) (ps : List tree.Pattern) (p : tree.Pattern) (s t u : Store) → AddsBuilt s t → BuildsOver vs (λ sorts g. allows_all g sorts (patterns_tree ps)) s t → BuildsOver vs (λ sorts g. allows g sorts p) t u → BuildsOver vs (λ sorts g. allows_all g sorts (patterns_tree (ps ++ p ∷ []))) s u
within-pattern vs ps p s t u l a b sorts have g base h k =
    let w = patterns-last g sorts ps p h in
    b sorts (have-grown s t sorts vs (Grows-built s t l) have) g base w.1 (a sorts have g base w.0 k)

-- the lists of a clause one after the other
pub within-clause : (vs : List ℕ) (old a b d new : Store) (t : tree.Template) (xs ys : List tree.PatternAtom) → HaveSortsAt old t.sorts vs → AddsBuilt old a → AddsBuilt a b → AddsBuilt b d → BuildsOver vs (λ sorts g. list_all (allows_atom g sorts) xs) old a → BuildsOver vs (λ sorts g. list_all (allows_atom g sorts) ys) a b
    → BuildsOver vs (λ sorts g. allows_all g sorts (patterns_tree t.strings)) b d → BuildsOver vs (λ sorts g. list_all (allows_gamma g sorts) t.gammas) d new → BuildsWithin (λ g. allows_template g (with_literals (xs ++ ys) t)) old new
within-clause vs old a b d new t xs ys have i j e f k m n g base h l =
    let w = and_parts (list_all (allows_atom g t.sorts) (xs ++ ys) && allows_all g t.sorts (patterns_tree t.strings)) (list_all (allows_gamma g t.sorts) t.gammas) h in
    let v = and_parts (list_all (allows_atom g t.sorts) (xs ++ ys)) (allows_all g t.sorts (patterns_tree t.strings)) w.0 in
    let u = all-parts (allows_atom g t.sorts) xs ys v.0 in
    let at_a = have-grown old a t.sorts vs (Grows-built old a i) have in
    let at_b = have-grown a b t.sorts vs (Grows-built a b j) at_a in
    let at_d = have-grown b d t.sorts vs (Grows-built b d e) at_b in
    n t.sorts at_d g base w.1 (m t.sorts at_b g base v.1 (k t.sorts at_a g base u.1 (f t.sorts have g base u.0 l)))

-- all literals of the template at once
pub within-whole : {X : Type 0} (f : X → tree.PatternAtom) (items : List X) (t : tree.Template) (s u : Store) → map f items ≡ t.literals → BuildsWithin (λ g. allows_template g (with_literals (map f items ++ []) t)) s u → BuildsWithin (λ g. allows_template g t) s u
within-whole f items t s u e h = subst (λ xs. BuildsWithin (λ g. allows_template g (with_literals xs t)) s u) (append-nil (map f items) ∙ e) h

-- ---- cells that come

allowed-grown : (g : Signature) (s t : Store) (c : Cell) → Grows s t → IsAllowedCell g s c → IsAllowedCell g t c
allowed-grown g s t (variable sort b) l h = h
allowed-grown g s t (fun_cell f rs) l h = h
allowed-grown g s t (eigen_cell p rs) l (ss, have, h) = (ss, have-grown s t ss rs l have, h)
allowed-grown g s t (new_cell p rs) l (ss, have, h) = (ss, have-grown s t ss rs l have, h)
allowed-grown g s t (string_cell rs) l h = h

allowed-with : (g : Signature) (base : ℕ) (s : Store) (c : Cell) → IsAllowedCell g s c → AreAllowedFrom g base s → AreAllowedFrom g base (with_cell c s)
allowed-with g base s c h k n d l e = elim (get-last s.cells n d c e) [
  | inl old ↦ allowed-grown g s (with_cell c s) d (Grows-with_cell c s) (k n d l old)
  | inr new ↦ subst (IsAllowedCell g (with_cell c s)) new.1 (allowed-grown g s (with_cell c s) c (Grows-with_cell c s) h)
]

variable-sort : (s : Store) (sorts : List Sort) (vs : List ℕ) (k r : ℕ) → HaveSortsAt s sorts vs → slice_get vs k ≡ Some r → sort_at s r ≡ Some (slice_index_or sorts k TermSort)
variable-sort s [] vs k r have e = let z : slice_get [] k ≡ Some r = sym (ap (λ xs. slice_get xs k) have) ∙ e in cc z
variable-sort s (sort ∷ sorts) vs zero r (q, qs, f, at, more) e =
    let z : slice_get (q ∷ qs) zero ≡ Some r = sym (ap (λ xs. slice_get xs zero) f) ∙ e in
    let same : q ≡ r = cc z in
    ap (sort_at s) (sym same) ∙ at
variable-sort s (sort ∷ sorts) vs (suc k) r (q, qs, f, at, more) e = variable-sort s sorts qs k r more (sym (ap (λ xs. slice_get xs (suc k)) f) ∙ e)

copy-sort : (s : Store) (sorts : List Sort) (vs : List ℕ) (p : tree.Pattern) (r : ℕ) → HaveSortsAt s sorts vs → IsCopy s vs p r → sort_at s r ≡ Some (sort_of_pattern sorts p)
copy-sort s sorts vs (p_var k) r have e = variable-sort s sorts vs k r have e
copy-sort s sorts vs (p_fun f ps) r have (rs, e, b) = ap (option_map sort_of) e
copy-sort s sorts vs (p_eigen p ps) r have (rs, e, b) = ap (option_map sort_of) e
copy-sort s sorts vs (p_new p ps) r have (rs, e, b) = ap (option_map sort_of) e

-- copies have the sorts of the patterns
copies-sorts : (s : Store) (sorts : List Sort) (vs : List ℕ) (ps : tree.Patterns) (rs : List ℕ) → HaveSortsAt s sorts vs → AreCopies s vs ps rs → HaveSortsAt s (sorts_of_patterns sorts ps) rs
copies-sorts s sorts vs no_patterns rs have b = b
copies-sorts s sorts vs (more_patterns p ps) rs have (r, qs, e, b, c) = (r, qs, e, copy-sort s sorts vs p r have b, copies-sorts s sorts vs ps qs have c)

as-many : (s : Store) (vs : List ℕ) (ps : tree.Patterns) (rs : List ℕ) → AreCopies s vs ps rs → length rs ≡ number_of_patterns ps
as-many s vs no_patterns rs b = ap (λ (xs : List ℕ). length xs) b
as-many s vs (more_patterns p ps) rs (r, qs, e, b, c) = ap (λ (xs : List ℕ). length xs) e ∙ ap suc (as-many s vs ps qs c)

named-allowed : (g : Signature) (s : Store) (sorts : List Sort) (vs : List ℕ) (name : Name) (ps : tree.Patterns) (rs : List ℕ) → ¬ (name ≡ Marks) → HaveSortsAt s sorts vs → AreCopies s vs ps rs → IsTrue (allows g sorts (named_pattern name ps)) → IsAllowedCell g s (named_cell name rs) × IsTrue (allows_all g sorts ps)
named-allowed g s sorts vs (Fun f) ps rs m have b h = let w = and_parts (g.functions f.0 (number_of_patterns ps)) (allows_all g sorts ps) h in (ap (g.functions f.0) (as-many s vs ps rs b) ∙ w.0, w.1)
named-allowed g s sorts vs (Eigen p) ps rs m have b h = let w = and_parts (g.eigenvariables p.0 (sorts_of_patterns sorts ps)) (allows_all g sorts ps) h in ((sorts_of_patterns sorts ps, copies-sorts s sorts vs ps rs have b, w.0), w.1)
named-allowed g s sorts vs (New p) ps rs m have b h = let w = and_parts (g.marks p.0 (sorts_of_patterns sorts ps)) (allows_all g sorts ps) h in ((sorts_of_patterns sorts ps, copies-sorts s sorts vs ps rs have b, w.0), w.1)
named-allowed g s sorts vs Marks ps rs m have b h = absurd (m refl)

-- a built cell behind its parts
pub within-built : (s t u : Store) (vs : List ℕ) (name : Name) (ps : tree.Patterns) (rs qs : List ℕ) → ¬ (name ≡ Marks) → AddsBuilt s t → BuildsOver vs (λ sorts g. allows_all g sorts ps) s t → AreCopies t vs ps rs → qs ≡ rs → u ≡ with_cell (named_cell name qs) t → BuildsOver vs (λ sorts g. allows g sorts (named_pattern name ps)) s u
within-built s t u vs name ps rs qs m l a b e f sorts have g base h k =
    let w = named-allowed g t sorts vs name ps rs m (have-grown s t sorts vs (Grows-built s t l) have) b h in
    subst (AreAllowedFrom g base) (sym (f ∙ ap (λ xs. with_cell (named_cell name xs) t) e)) (allowed-with g base t (named_cell name rs) w.0 (a sorts have g base w.1 k))

allowed-variables : (g : Signature) (base : ℕ) (sorts : List Sort) (s : Store) → IsTrue (list_all g.sorts sorts) → AreAllowedFrom g base s → AreAllowedFrom g base (with_variables_of sorts s)
allowed-variables g base [] s h k = k
allowed-variables g base (sort ∷ sorts) s h k =
    let w = and_parts (g.sorts sort) (list_all g.sorts sorts) h in
    allowed-variables g base sorts (with_cell (variable sort None) s) w.1 (allowed-with g base s (variable sort None) w.0 k)

-- variables, and what is built over them
pub within-variables : (p : Signature → Bool) (sorts : List Sort) (s t u : Store) → t ≡ with_variables_of sorts s → BuildsWithin p t u → BuildsWithin (λ g. list_all g.sorts sorts && p g) s u
within-variables p sorts s t u e a g base h k =
    let w = and_parts (list_all g.sorts sorts) (p g) h in
    a g base w.1 (subst (AreAllowedFrom g base) (sym e) (allowed-variables g base sorts s w.0 k))

-- ---- bindings

sort-bound : (old new : Store) (r : ℕ) (sort : Sort) → BindsOnly old new → sort_at old r ≡ Some sort → sort_at new r ≡ Some sort
sort-bound old new r sort b h = by (slice_get old.cells r) refl h
  where
    by : (o : Option Cell) → slice_get old.cells r ≡ o → option_map sort_of o ≡ Some sort → sort_at new r ≡ Some sort
    by None e f = cc f
    by (Some c) e f = elim (b.cells r c e) [
      | inl same ↦ ap (option_map sort_of) same ∙ f
      | inr bound ↦ ap (option_map sort_of) bound.3 ∙ sym (ap (λ x. Some (sort_of x)) bound.2) ∙ f
    ]

have-bound : (old new : Store) (sorts : List Sort) (rs : List ℕ) → BindsOnly old new → HaveSortsAt old sorts rs → HaveSortsAt new sorts rs
have-bound old new [] rs b h = h
have-bound old new (sort ∷ sorts) rs b (r, qs, e, at, more) = (r, qs, e, sort-bound old new r sort b at, have-bound old new sorts qs b more)

cell-bound : (g : Signature) (old new : Store) (c : Cell) → BindsOnly old new → IsAllowedCell g old c → IsAllowedCell g new c
cell-bound g old new (variable sort o) b h = h
cell-bound g old new (fun_cell f rs) b h = h
cell-bound g old new (eigen_cell p rs) b (ss, have, h) = (ss, have-bound old new ss rs b have, h)
cell-bound g old new (new_cell p rs) b (ss, have, h) = (ss, have-bound old new ss rs b have, h)
cell-bound g old new (string_cell rs) b h = h

-- bindings change nothing of what is allowed
pub allowed-binds : (g : Signature) (base : ℕ) (old new : Store) → BindsOnly old new → AreAllowedFrom g base old → AreAllowedFrom g base new
allowed-binds g base old new b h n d low e =
    let (c, f) = get-there old.cells n (let l = get-within new.cells n d e in let s = b.same_length in omega (arith, l, s)) in
    let k = cell-bound g old new c b (h n c low f) in
    elim (b.cells n c f) [
      | inl same ↦ subst (IsAllowedCell g new) (same-some (slice_get new.cells n) c d same e) k
      | inr bound ↦ subst (IsAllowedCell g new) (same-some (slice_get new.cells n) (variable bound.0 (Some bound.1)) d bound.3 e) (subst (IsAllowedCell g new) bound.2 k)
    ]
