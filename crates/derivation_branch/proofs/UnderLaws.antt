-- Terms and formulas under a substitution of the table.
use Rattle.std.proofs.Common.{◌≡◌, ◌≢◌, ℕ, zero, suc, ◌<◌, false, List, [], ◌∷◌, length, get_or, map, refl, sym, ◌∙◌, ap, arith}
use Rattle.std.proofs.lemmas.Bool.{false≢true, and_right}
use Rattle.std.proofs.lemmas.List.{length-map}
use Rattle.calculus.specs.Calculus.{is_atom}
use Rattle.calculus.specs.Equality.{formula_eq, term_eq, terms_eq}
use Rattle.calculus.specs.Lists.{terms_tree}
use Rattle.calculus.specs.Sizes.{term_size, terms_size}
use Rattle.calculus.specs.Substitution.{formula_with}
use Rattle.calculus.specs.Syntax.{Term, Terms, var, fun, Formula, atom, neg, conj, disj, imp, all, ex, box, dia}
use Rattle.formula_core.specs.TermView.{the_term}
use Rattle.formula_core.specs.declared.term.Term.{Term as Item}
use Rattle.derivation_branch.specs.EntryView.{term_under, formula_under}
use Rattle.derivation_branch.specs.Putting.{AreClosed, formula_with_all, value_at}
use Rattle.derivation_branch.proofs.PuttingLaws.{atom-all, fun-all, tree-all, value-put}

pub under-fun : (table : List (List Term)) (k f : ℕ) (ts : List Term) → fun f (terms_tree (map (term_under table k) ts)) ≡ term_under table k (fun f (terms_tree ts))
under-fun table k f ts = sym (fun-all (get_or table k []) 0 f (terms_tree ts) ∙ ap (fun f) (tree-all (get_or table k []) 0 ts))

pub under-atom : (table : List (List Term)) (k p : ℕ) (ts : List Term) → formula_under table k (atom p (terms_tree ts)) ≡ atom p (terms_tree (map (term_under table k) ts))
under-atom table k p ts = atom-all (get_or table k []) 0 p (terms_tree ts) ∙ ap (atom p) (tree-all (get_or table k []) 0 ts)

pub under-value : (table : List (List Term)) (k n : ℕ) (v : Term) → AreClosed (get_or table k []) → v ≡ value_at (get_or table k []) n → v ≡ term_under table k (var n)
under-value table k n v h e = e ∙ sym (value-put (get_or table k []) n h)

-- an item of a list under a substitution is smaller than the list
pub size-under : (table : List (List Term)) (i : ℕ) (ts : List Item) (k : ℕ) (t d : Item) → k < length ts → t ≡ get_or ts k d → term_size (term_under table i (the_term t)) < terms_size (terms_tree (map (term_under table i) (map the_term ts)))
size-under table i [] k t d h e = absurd (omega arith)
size-under table i (u ∷ ts) zero t d h e = let f : term_size (term_under table i (the_term t)) ≡ term_size (term_under table i (the_term u)) = ap (λ x. term_size (term_under table i (the_term x))) e in omega arith
size-under table i (u ∷ ts) (suc k) t d h e = let f = size-under table i ts k t d (omega arith) e in omega arith

pub ruleset falling_under = (size-under)

terms_eq-lengths : (ts us : List Term) → length ts ≢ length us → terms_eq (terms_tree ts) (terms_tree us) ≡ false
terms_eq-lengths [] [] h = absurd (h refl)
terms_eq-lengths [] (u ∷ us) h = refl
terms_eq-lengths (t ∷ ts) [] h = refl
terms_eq-lengths (t ∷ ts) (u ∷ us) h = and_right (term_eq t u) (terms_eq (terms_tree ts) (terms_tree us)) (terms_eq-lengths ts us (λ e. h (omega (arith, e))))

pub lengths-under : (table : List (List Term)) (i j : ℕ) (xs ys : List Item) (ts us : List Term) → map the_term xs ≡ ts → map the_term ys ≡ us → length xs ≢ length ys → terms_eq (terms_tree (map (term_under table i) ts)) (terms_tree (map (term_under table j) us)) ≡ false
lengths-under table i j xs ys ts us e f h =
    terms_eq-lengths (map (term_under table i) ts) (map (term_under table j) us)
    (λ g. h (sym (length-map xs the_term) ∙ ap length e ∙ sym (length-map ts (term_under table i)) ∙ g ∙ length-map us (term_under table j) ∙ sym (ap length f) ∙ length-map ys the_term))

-- ---- atoms

atom-one : (t : Term) (d : ℕ) (f : Formula) → is_atom (formula_with t d f) ≡ is_atom f
atom-one t d (atom p us) = refl
atom-one t d (neg a) = refl
atom-one t d (conj a b) = refl
atom-one t d (disj a b) = refl
atom-one t d (imp a b) = refl
atom-one t d (all a) = refl
atom-one t d (ex a) = refl
atom-one t d (box a) = refl
atom-one t d (dia a) = refl

is_atom-all : (ts : List Term) (d : ℕ) (f : Formula) → is_atom (formula_with_all ts d f) ≡ is_atom f
is_atom-all [] d f = refl
is_atom-all (t ∷ ts) d f = atom-one t d (formula_with_all ts (suc d) f) ∙ is_atom-all ts (suc d) f

pub no_atom : (table : List (List Term)) (k : ℕ) (f : Formula) → is_atom f ≡ false → is_atom (formula_under table k f) ≡ false
no_atom table k f e = is_atom-all (get_or table k []) 0 f ∙ e

other-formula : (p : ℕ) (us : Terms) (g : Formula) → is_atom g ≡ false → formula_eq (atom p us) g ≡ false
other-formula p us (atom q vs) e = absurd (false≢true (sym e))
other-formula p us (neg a) e = refl
other-formula p us (conj a b) e = refl
other-formula p us (disj a b) e = refl
other-formula p us (imp a b) e = refl
other-formula p us (all a) e = refl
other-formula p us (ex a) e = refl
other-formula p us (box a) e = refl
other-formula p us (dia a) e = refl

pub no_atom-equal : (table : List (List Term)) (k p : ℕ) (us : Terms) (g : Formula) → is_atom g ≡ false → false ≡ formula_eq (atom p us) (formula_under table k g)
no_atom-equal table k p us g e = sym (other-formula p us (formula_under table k g) (no_atom table k g e))
