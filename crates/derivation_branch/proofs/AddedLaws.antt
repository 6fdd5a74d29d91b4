-- The components of an instance are those of the formula under the same substitution.
use Rattle.std.proofs.Common.{◌≡◌, ℕ, List, [], ◌∷◌, get_or, map, refl, ◌∙◌, ap, subst, arith}
use Rattle.calculus.specs.declared.sign.Sign.{Sign}
use Rattle.calculus.specs.declared.sign.Sign.TheVariants.{T, F}
use Rattle.calculus.specs.declared.kind.Shape.{Shape}
use Rattle.calculus.specs.declared.kind.Shape.TheVariants.{Alpha, Beta, Gamma, Delta, Literal}
use Rattle.calculus.specs.Calculus.{with_argument, with_components}
use Rattle.calculus.specs.Derivations.{Label, Sequent, TermArg, no_term, by_term, by_name}
use Rattle.calculus.specs.Kinds.{Signed, signed, shape_of, components}
use Rattle.calculus.specs.Syntax.{Term, Formula, atom, neg, conj, disj, imp, all, ex, box, dia}
use Rattle.calculus.specs.Substitution.{binders}
use Rattle.derivation_branch.specs.AddedView.{PutsArgument}
use Rattle.derivation_branch.specs.EntryView.{formula_under}
use Rattle.derivation_branch.specs.Putting.{formula_with_all}
use Rattle.derivation_branch.proofs.PuttingLaws.{components-all, shape-all}

-- the components of a formula of this shape stand behind so many quantifiers
abbrev binds : Shape → ℕ
binds Gamma = 1
binds Delta = 1
binds _ = 0

binders-shape : (s : Sign) (f : Formula) → binders f ≡ binds (shape_of s f)
binders-shape s (atom p us) = refl
binders-shape s (neg a) = refl
binders-shape T (conj a b) = refl
binders-shape F (conj a b) = refl
binders-shape T (disj a b) = refl
binders-shape F (disj a b) = refl
binders-shape T (imp a b) = refl
binders-shape F (imp a b) = refl
binders-shape T (all a) = refl
binders-shape F (all a) = refl
binders-shape T (ex a) = refl
binders-shape F (ex a) = refl
binders-shape s (box a) = refl
binders-shape s (dia a) = refl

abbrev signed_with : List Term → ℕ → Signed → Signed
signed_with ts d x = signed x.sign (formula_with_all ts d x.formula)

components-under : (ts : List Term) (s : Sign) (f : Formula) (h : Shape) (xs : List Signed) → shape_of s f ≡ h → components s f ≡ xs → components s (formula_with_all ts 0 f) ≡ map (signed_with ts (binds h)) xs
components-under ts s f h xs shape are =
    components-all ts s f ∙ ap (λ d. map (signed_with ts d) (components s f)) (binders-shape s f ∙ ap binds shape) ∙ ap (map (signed_with ts (binds h))) are

no_argument : (xs : List Signed) → map (with_argument no_term) xs ≡ xs
no_argument [] = refl
no_argument (x ∷ xs) = ap (λ ys. x ∷ ys) (no_argument xs)

pub added-plain : (table : List (List Term)) (outer : ℕ) (s : Sign) (f : Formula) (h : Shape) (xs : List Signed) (t : TermArg) (sq : Sequent) (v : Label) → binds h ≡ 0 → shape_of s f ≡ h → components s f ≡ xs → t ≡ no_term
    → with_components (shape_of s (formula_under table outer f)) sq v (map (with_argument t) (components s (formula_under table outer f))) ≡ with_components h sq v (map (signed_with (get_or table outer []) 0) xs)
added-plain table outer s f h xs t sq v plain shape are none =
    let ts = get_or table outer [] in
    let same = components-under ts s f h xs shape are ∙ ap (λ d. map (signed_with ts d) xs) plain in
    ap (λ k. with_components k sq v (map (with_argument t) (components s (formula_under table outer f)))) (shape-all ts 0 s f ∙ shape)
    ∙ ap (λ u. with_components h sq v (map (with_argument u) (components s (formula_under table outer f)))) none
    ∙ ap (with_components h sq v) (no_argument (components s (formula_under table outer f)) ∙ same)

put-inner : (table : List (List Term)) (outer inner : ℕ) (h : Shape) (x : Signed) (t : TermArg) → binds h ≡ 1 → PutsArgument table outer inner h t → with_argument t (signed_with (get_or table outer []) 1 x) ≡ signed_with (get_or table inner []) 0 x
put-inner table outer inner Gamma x (by_term t) one e = rw e refl
put-inner table outer inner Gamma x (by_name n) one e = rw e refl
put-inner table outer inner Delta x (by_term t) one e = rw e refl
put-inner table outer inner Delta x (by_name n) one e = rw e refl
put-inner table outer inner Gamma x no_term one e = absurd e
put-inner table outer inner Delta x no_term one e = absurd e
put-inner table outer inner Alpha x t one e = absurd (omega (arith, one))
put-inner table outer inner Beta x t one e = absurd (omega (arith, one))
put-inner table outer inner Literal x t one e = absurd (omega (arith, one))

pub added-bound : (table : List (List Term)) (outer inner : ℕ) (s : Sign) (f : Formula) (h : Shape) (x : Signed) (t : TermArg) (sq : Sequent) (v : Label) → binds h ≡ 1 → shape_of s f ≡ h → components s f ≡ x ∷ [] → PutsArgument table outer inner (shape_of s f) t
    → with_components (shape_of s (formula_under table outer f)) sq v (map (with_argument t) (components s (formula_under table outer f))) ≡ with_components h sq v (signed_with (get_or table inner []) 0 x ∷ [])
added-bound table outer inner s f h x t sq v one shape are put =
    let ts = get_or table outer [] in
    let same = components-under ts s f h (x ∷ []) shape are ∙ ap (λ d. signed_with ts d x ∷ []) one in
    ap (λ k. with_components k sq v (map (with_argument t) (components s (formula_under table outer f)))) (shape-all ts 0 s f ∙ shape)
    ∙ ap (λ xs. with_components h sq v (map (with_argument t) xs)) same
    ∙ ap (λ y. with_components h sq v (y ∷ [])) (put-inner table outer inner h x t one (subst (λ k. PutsArgument table outer inner k t) shape put))
