-- What terms that are put for variables leave as it is, and what a variable becomes.
use Rattle.std.proofs.Common.{◌≡◌, ℕ, zero, suc, ◌+◌, ◌-◌, ◌<◌, ◌≤◌, List, [], ◌∷◌, map, length, get_or, false, refl, sym, ◌∙◌, ap, arith}
use Rattle.std.proofs.lemmas.Bool.{false≢true, or_parts}
use Rattle.plain_laws.proofs.Numbers.{cmp-equal, cmp-greater, cmp-less}
use Rattle.calculus.specs.declared.sign.Sign.{Sign}
use Rattle.calculus.specs.declared.sign.Sign.TheVariants.{T, F}
use Rattle.calculus.specs.declared.setting.Logic.{Logic}
use Rattle.calculus.specs.declared.setting.Logic.TheVariants.{Intuitionistic}
use Rattle.calculus.specs.Syntax.{Term, Terms, var, fun, eigen, spare, no_terms, more_terms, Formula, atom, neg, conj, disj, imp, all, ex, box, dia}
use Rattle.calculus.specs.Lists.{terms_tree}
use Rattle.calculus.specs.Kinds.{Signed, signed, shape_of, modal_of, components}
use Rattle.calculus.specs.Substitution.{put_for, term_with, terms_with, formula_with, binders, any_leaf, any_leaf_of}
use Rattle.derivation_branch.specs.Putting.{term_with_all, terms_with_all, formula_with_all, is_var, IsClosed, AreClosed, value_at}

-- ---- connectives

pub fun-all : (ts : List Term) (d f : ℕ) (us : Terms) → term_with_all ts d (fun f us) ≡ fun f (terms_with_all ts d us)
fun-all [] d f us = refl
fun-all (t ∷ ts) d f us = ap (term_with t d) (fun-all ts (suc d) f us)

pub atom-all : (ts : List Term) (d p : ℕ) (us : Terms) → formula_with_all ts d (atom p us) ≡ atom p (terms_with_all ts d us)
atom-all [] d p us = refl
atom-all (t ∷ ts) d p us = ap (formula_with t d) (atom-all ts (suc d) p us)

neg-all : (ts : List Term) (d : ℕ) (a : Formula) → formula_with_all ts d (neg a) ≡ neg (formula_with_all ts d a)
neg-all [] d a = refl
neg-all (t ∷ ts) d a = ap (formula_with t d) (neg-all ts (suc d) a)

conj-all : (ts : List Term) (d : ℕ) (a b : Formula) → formula_with_all ts d (conj a b) ≡ conj (formula_with_all ts d a) (formula_with_all ts d b)
conj-all [] d a b = refl
conj-all (t ∷ ts) d a b = ap (formula_with t d) (conj-all ts (suc d) a b)

disj-all : (ts : List Term) (d : ℕ) (a b : Formula) → formula_with_all ts d (disj a b) ≡ disj (formula_with_all ts d a) (formula_with_all ts d b)
disj-all [] d a b = refl
disj-all (t ∷ ts) d a b = ap (formula_with t d) (disj-all ts (suc d) a b)

imp-all : (ts : List Term) (d : ℕ) (a b : Formula) → formula_with_all ts d (imp a b) ≡ imp (formula_with_all ts d a) (formula_with_all ts d b)
imp-all [] d a b = refl
imp-all (t ∷ ts) d a b = ap (formula_with t d) (imp-all ts (suc d) a b)

all-all : (ts : List Term) (d : ℕ) (a : Formula) → formula_with_all ts d (all a) ≡ all (formula_with_all ts (suc d) a)
all-all [] d a = refl
all-all (t ∷ ts) d a = ap (formula_with t d) (all-all ts (suc d) a)

ex-all : (ts : List Term) (d : ℕ) (a : Formula) → formula_with_all ts d (ex a) ≡ ex (formula_with_all ts (suc d) a)
ex-all [] d a = refl
ex-all (t ∷ ts) d a = ap (formula_with t d) (ex-all ts (suc d) a)

box-all : (ts : List Term) (d : ℕ) (a : Formula) → formula_with_all ts d (box a) ≡ box (formula_with_all ts d a)
box-all [] d a = refl
box-all (t ∷ ts) d a = ap (formula_with t d) (box-all ts (suc d) a)

dia-all : (ts : List Term) (d : ℕ) (a : Formula) → formula_with_all ts d (dia a) ≡ dia (formula_with_all ts d a)
dia-all [] d a = refl
dia-all (t ∷ ts) d a = ap (formula_with t d) (dia-all ts (suc d) a)

-- ---- kinds and components

shape-one : (t : Term) (d : ℕ) (s : Sign) (f : Formula) → shape_of s (formula_with t d f) ≡ shape_of s f
shape-one t d s (atom p us) = refl
shape-one t d s (neg a) = refl
shape-one t d T (conj a b) = refl
shape-one t d F (conj a b) = refl
shape-one t d T (disj a b) = refl
shape-one t d F (disj a b) = refl
shape-one t d T (imp a b) = refl
shape-one t d F (imp a b) = refl
shape-one t d T (all a) = refl
shape-one t d F (all a) = refl
shape-one t d T (ex a) = refl
shape-one t d F (ex a) = refl
shape-one t d s (box a) = refl
shape-one t d s (dia a) = refl

pub shape-all : (ts : List Term) (d : ℕ) (s : Sign) (f : Formula) → shape_of s (formula_with_all ts d f) ≡ shape_of s f
shape-all [] d s f = refl
shape-all (t ∷ ts) d s f = shape-one t d s (formula_with_all ts (suc d) f) ∙ shape-all ts (suc d) s f

modal-one : (t : Term) (d : ℕ) (l : Logic) (s : Sign) (f : Formula) → modal_of l s (formula_with t d f) ≡ modal_of l s f
modal-one t d Intuitionistic s (atom p us) = refl
modal-one t d _ s (atom p us) = refl
modal-one t d Intuitionistic s (neg a) = refl
modal-one t d _ s (neg a) = refl
modal-one t d Intuitionistic s (conj a b) = refl
modal-one t d _ s (conj a b) = refl
modal-one t d Intuitionistic s (disj a b) = refl
modal-one t d _ s (disj a b) = refl
modal-one t d Intuitionistic s (imp a b) = refl
modal-one t d _ s (imp a b) = refl
modal-one t d Intuitionistic s (all a) = refl
modal-one t d _ s (all a) = refl
modal-one t d Intuitionistic s (ex a) = refl
modal-one t d _ s (ex a) = refl
modal-one t d l s (box a) = refl
modal-one t d l s (dia a) = refl

pub modal-all : (ts : List Term) (d : ℕ) (l : Logic) (s : Sign) (f : Formula) → modal_of l s (formula_with_all ts d f) ≡ modal_of l s f
modal-all [] d l s f = refl
modal-all (t ∷ ts) d l s f = modal-one t d l s (formula_with_all ts (suc d) f) ∙ modal-all ts (suc d) l s f

pub components-all : (ts : List Term) (s : Sign) (f : Formula) → components s (formula_with_all ts 0 f) ≡ map (λ (x : Signed). signed x.sign (formula_with_all ts (binders f) x.formula)) (components s f)
components-all ts s (atom p us) = rw (atom-all ts 0 p us) refl
components-all ts s (neg a) = rw (neg-all ts 0 a) refl
components-all ts s (conj a b) = rw (conj-all ts 0 a b) refl
components-all ts s (disj a b) = rw (disj-all ts 0 a b) refl
components-all ts s (imp a b) = rw (imp-all ts 0 a b) refl
components-all ts s (all a) = rw (all-all ts 0 a) refl
components-all ts s (ex a) = rw (ex-all ts 0 a) refl
components-all ts s (box a) = rw (box-all ts 0 a) refl
components-all ts s (dia a) = rw (dia-all ts 0 a) refl

-- ---- closed terms

mutual
  pub closed-kept : (t : Term) (d : ℕ) (u : Term) → IsClosed u → term_with t d u ≡ u
  closed-kept t d (var k) h = absurd (false≢true (sym h))
  closed-kept t d (fun f us) h = ap (fun f) (closed_all-kept t d us h)
  closed-kept t d (eigen n) h = refl
  closed-kept t d (spare n) h = refl

  closed_all-kept : (t : Term) (d : ℕ) (us : Terms) → any_leaf_of is_var us ≡ false → terms_with t d us ≡ us
  closed_all-kept t d no_terms h = refl
  closed_all-kept t d (more_terms u us) h =
      let parts = or_parts (any_leaf is_var u) (any_leaf_of is_var us) h in
      λ i. more_terms (closed-kept t d u parts.0 i) (closed_all-kept t d us parts.1 i)

-- ---- variables

var-below : (ts : List Term) (d k : ℕ) → k < d → term_with_all ts d (var k) ≡ var k
var-below [] d k h = refl
var-below (t ∷ ts) d k h = ap (term_with t d) (var-below ts (suc d) k (omega arith)) ∙ ap (put_for t k) (cmp-less k d h)

put-value : (ts : List Term) (j : ℕ) (t : Term) (d a b : ℕ) → AreClosed ts → (length ts ≤ j → (d < a) × (b ≡ a - 1)) → term_with t d (get_or ts j (var a)) ≡ get_or ts j (var b)
put-value [] j t d a b h past = let p = past (omega arith) in ap (put_for t a) (cmp-greater a d p.0) ∙ ap var (sym p.1)
put-value (u ∷ us) zero t d a b h past = closed-kept t d u h.0
put-value (u ∷ us) (suc j) t d a b h past = put-value us j t d a b h.1 (λ le. past (omega (arith, le)))

var-at : (ts : List Term) (d j : ℕ) → AreClosed ts → term_with_all ts d (var (d + j)) ≡ get_or ts j (var (d + j - length ts))
var-at [] d j h = ap var (omega arith)
var-at (t ∷ ts) d zero h = ap (term_with t d) (var-below ts (suc d) (d + 0) (omega arith)) ∙ ap (put_for t (d + 0)) (cmp-equal (d + 0) d (omega arith))
var-at (t ∷ ts) d (suc j) h =
    let same : d + suc j ≡ suc d + j = omega arith in
    let inner : term_with_all ts (suc d) (var (d + suc j)) ≡ get_or ts j (var (suc d + j - length ts)) = ap (λ m. term_with_all ts (suc d) (var m)) same ∙ var-at ts (suc d) j h.1 in
    ap (term_with t d) inner ∙ put-value ts j t d (suc d + j - length ts) (d + suc j - suc (length ts)) h.1 (λ le. (omega (arith, le), omega (arith, le)))

-- a variable becomes its value
pub value-put : (ts : List Term) (k : ℕ) → AreClosed ts → term_with_all ts 0 (var k) ≡ value_at ts k
value-put ts k h =
    let same : k ≡ 0 + k = omega arith in
    ap (λ m. term_with_all ts 0 (var m)) same ∙ var-at ts 0 k h ∙ ap (λ m. get_or ts k (var (m - length ts))) (sym same)

pub value-first : (t : Term) (ts : List Term) (k : ℕ) → k ≡ 0 → value_at (t ∷ ts) k ≡ t
value-first t ts k e = rw e refl

pub value-further : (t : Term) (ts : List Term) (k : ℕ) → value_at (t ∷ ts) (suc k) ≡ value_at ts k
value-further t ts k = let e : suc k - suc (length ts) ≡ k - length ts = omega arith in ap (λ m. get_or ts k (var m)) e

pub value-none : (k : ℕ) → value_at [] k ≡ var k
value-none k = ap var (omega arith)

-- ---- lists of terms

more-all : (ts : List Term) (d : ℕ) (u : Term) (us : Terms) → terms_with_all ts d (more_terms u us) ≡ more_terms (term_with_all ts d u) (terms_with_all ts d us)
more-all [] d u us = refl
more-all (t ∷ ts) d u us = ap (terms_with t d) (more-all ts (suc d) u us)

none-all : (ts : List Term) (d : ℕ) → terms_with_all ts d no_terms ≡ no_terms
none-all [] d = refl
none-all (t ∷ ts) d = ap (terms_with t d) (none-all ts (suc d))

pub tree-all : (ts : List Term) (d : ℕ) (us : List Term) → terms_with_all ts d (terms_tree us) ≡ terms_tree (map (term_with_all ts d) us)
tree-all ts d [] = none-all ts d
tree-all ts d (u ∷ us) = more-all ts d u (terms_tree us) ∙ ap (more_terms (term_with_all ts d u)) (tree-all ts d us)

pub eigen-all : (ts : List Term) (d n : ℕ) → term_with_all ts d (eigen n) ≡ eigen n
eigen-all [] d n = refl
eigen-all (t ∷ ts) d n = ap (term_with t d) (eigen-all ts (suc d) n)

pub spare-all : (ts : List Term) (d n : ℕ) → term_with_all ts d (spare n) ≡ spare n
spare-all [] d n = refl
spare-all (t ∷ ts) d n = ap (term_with t d) (spare-all ts (suc d) n)
