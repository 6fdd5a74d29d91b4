-- How the walk that tells how each step goes on takes one step.
use Rattle.std.proofs.Common.{◌≡◌, ℕ, ◌+◌, ◌<◌, ◌≤◌, List, [], ◌∷◌, ◌++◌, length, map, reverse, take, drop, get_or, Bool, true, false, Option, Some, None, refl, sym, ◌∙◌, ap, ap₂, append_assoc, add-one}
use Rattle.std.specs.Option.{option_map}
use Rattle.std.proofs.lemmas.List.{append-nil, drop_all, drop_more, length-map, map-append, reverse-append, take-map}
use Rattle.std.proofs.lemmas.Option.{slice_get_past, slice_get_read, slice_get-map}
use Rattle.calculus.specs.Derivations.{close}
use Rattle.calculus.specs.Kinds as kinds
use Rattle.calculus.specs.Syntax.{Formula}
use Rattle.calculus.specs.declared.sign.Sign.{Sign}
use Rattle.calculus.specs.declared.kind.Shape.{Shape}
use Rattle.calculus.specs.declared.kind.Shape.TheVariants as shape
use Rattle.formula_core.specs.declared.components.Signed.{Signed}
use Rattle.sequent_calc.specs.StepView.{the_step}
use Rattle.sequent_calc.specs.declared.step.ModalArg as step_modal
use Rattle.sequent_calc.specs.declared.step.Step.{Step}
use Rattle.sequent_calc.specs.declared.step.Step.TheVariants.{Use}
use Rattle.sequent_calc.specs.declared.step.TermArg as step_term
use Rattle.trim_theory.specs.Bare.{bare_signed}
use Rattle.trim_theory.specs.Marking.{pass}
use Rattle.trim_theory.specs.Reading.{grows, splits, next_by, next_of, bare_entry, Waiting, Later, resumed, by_next, by_step, passes_of}
use Rattle.trim_theory.specs.declared.pass.Way.{Way}
use Rattle.trim_theory.specs.declared.pass.Way.TheVariants.{Ends, Adds, Forks}
use Rattle.trim_theory.specs.declared.pass.Pass.{Pass}
use Rattle.trim_theory.proofs.BareLaws.{bare-shape, bare-components}
use Rattle.derivation_trim.specs.BranchView.{the_bare, the_branch, the_fork, the_waiting}

-- ---- the branch

pub branch-push : (xs ys : List Signed) (a : Signed) → ys ≡ xs ++ a ∷ [] → the_branch ys ≡ the_branch xs ++ the_bare a ∷ []
branch-push xs ys a h = ap the_branch h ∙ map-append the_bare xs (a ∷ [])

pub waiting-push : (fs gs : List (ℕ × Signed)) (f : ℕ × Signed) → gs ≡ fs ++ f ∷ [] → the_waiting gs ≡ the_fork f ∷ the_waiting fs
waiting-push fs gs f h = ap (λ zs. map the_fork (reverse zs)) h ∙ ap (map the_fork) (reverse-append fs (f ∷ []))

pub branch_long : (xs : List Signed) → length (the_branch xs) ≡ length xs
branch_long xs = length-map xs the_bare

-- ---- how a step on a formula goes on

-- by what its components are
pub next-is : (s : Sign) (f : Formula) (k : Shape) (ys : List kinds.Signed) → k ≡ kinds.shape_of s f → ys ≡ kinds.components s f → next_of (Some (bare_signed (kinds.signed s f))) ≡ next_by k (map bare_signed ys)
next-is s f k ys h g = ap₂ next_by (bare-shape s f ∙ sym h) (sym (bare-components s f) ∙ ap (map bare_signed) (sym g))

pub next-literal : (s : Sign) (f a : Formula) → shape.Literal ≡ kinds.shape_of s f → kinds.signed s a ∷ [] ≡ kinds.components s f → f ≡ a → next_of (Some (bare_signed (kinds.signed s f))) ≡ grows (bare_signed (kinds.signed s f) ∷ [])
next-literal s f a h g e = next-is s f shape.Literal (kinds.signed s a ∷ []) h g ∙ ap (λ z. grows (bare_signed (kinds.signed s z) ∷ [])) (sym e)

-- it adds one formula
pub adds-one : (b : Bool) (go : Later) (xs ys : List Signed) (fs : Waiting) (n : ℕ) (o : Option kinds.Signed) (a : Signed) → next_of o ≡ grows (the_bare a ∷ []) → ys ≡ xs ++ a ∷ [] → by_next b (the_branch xs) fs n (next_of o) go ≡ pass (length xs) (Adds n 1) b ∷ go false (the_branch ys) fs
adds-one b go xs ys fs n o a h e =
    ap (λ m. by_next b (the_branch xs) fs n m go) h
    ∙ ap₂ (λ i z. pass i (Adds n 1) b ∷ go false z fs) (branch_long xs) (sym (branch-push xs ys a e))

-- or two
pub adds-two : (b : Bool) (go : Later) (xs ys zs : List Signed) (fs : Waiting) (n : ℕ) (o : Option kinds.Signed) (a d : Signed) → next_of o ≡ grows (the_bare a ∷ the_bare d ∷ []) → ys ≡ xs ++ a ∷ [] → zs ≡ ys ++ d ∷ [] → by_next b (the_branch xs) fs n (next_of o) go ≡ pass (length xs) (Adds n 2) b ∷ go false (the_branch zs) fs
adds-two b go xs ys zs fs n o a d h e f =
    let both : the_branch zs ≡ the_branch xs ++ (the_bare a ∷ the_bare d ∷ []) = branch-push ys zs d f ∙ ap (λ v. v ++ the_bare d ∷ []) (branch-push xs ys a e) ∙ append_assoc (the_branch xs) (the_bare a ∷ []) (the_bare d ∷ []) in
    ap (λ m. by_next b (the_branch xs) fs n m go) h
    ∙ ap₂ (λ i z. pass i (Adds n 2) b ∷ go false z fs) (branch_long xs) (sym both)

-- or splits the branch
pub forks-on : (b : Bool) (go : Later) (xs ys : List Signed) (fs gs : List (ℕ × Signed)) (n l : ℕ) (o : Option kinds.Signed) (a d : Signed) → next_of o ≡ splits (the_bare a) (the_bare d) → l ≡ length xs → gs ≡ fs ++ (l, d) ∷ [] → ys ≡ xs ++ a ∷ [] → by_next b (the_branch xs) (the_waiting fs) n (next_of o) go ≡ pass (length xs) (Forks n) b ∷ go false (the_branch ys) (the_waiting gs)
forks-on b go xs ys fs gs n l o a d h q g e =
    let waits : the_waiting gs ≡ (length xs, the_bare d) ∷ the_waiting fs = waiting-push fs gs (l, d) g ∙ ap (λ i. (i, the_bare d) ∷ the_waiting fs) q in
    ap (λ m. by_next b (the_branch xs) (the_waiting fs) n m go) h
    ∙ ap (λ i. pass i (Forks n) b ∷ go false (the_branch xs ++ the_bare a ∷ []) ((i, the_bare d) ∷ the_waiting fs)) (branch_long xs)
    ∙ ap₂ (λ y z. pass (length xs) (Forks n) b ∷ go false y z) (sym (branch-push xs ys a e)) (sym waits)

-- ---- an entry of the branch

pub no_entry : (xs : List Signed) (n : ℕ) → n ≡ 0 → None ≡ bare_entry (the_branch xs) n
no_entry xs n h = sym (ap (bare_entry (the_branch xs)) h)

pub past_entry : (xs : List Signed) (n i : ℕ) → n ≡ i + 1 → length xs ≤ i → None ≡ bare_entry (the_branch xs) n
past_entry xs n i h past = sym (ap (bare_entry (the_branch xs)) (h ∙ add-one i) ∙ slice_get-map the_bare xs i ∙ ap (option_map the_bare) (slice_get_past xs i past))

pub entry_read : (xs : List Signed) (n i : ℕ) (x : Signed) → n ≡ i + 1 → i < length xs → x ≡ get_or xs i x → Some (the_bare x) ≡ bare_entry (the_branch xs) n
entry_read xs n i x h within read = sym (ap (bare_entry (the_branch xs)) (h ∙ add-one i) ∙ slice_get-map the_bare xs i ∙ ap (option_map the_bare) (slice_get_read xs (length xs) i x refl within read))

pub ruleset entries = (no_entry, past_entry, entry_read)

-- ---- a step

-- on an entry: of the step only the number is looked at
used : (b : Bool) (go : Later) (xs : List Signed) (fs : Waiting) (s : Step) (n : ℕ) (x : step_modal.ModalArg) (y : step_term.TermArg) (ps : List Pass) → s ≡ Use n x y → by_next b (the_branch xs) fs n (next_of (bare_entry (the_branch xs) n)) go ≡ ps → by_step b (the_branch xs) fs (the_step s) go ≡ ps
used b go xs fs s n x y ps h e = ap (λ z. by_step b (the_branch xs) fs (the_step z) go) h ∙ e

pub used-next : (b : Bool) (go : Later) (xs : List Signed) (fs : Waiting) (s : Step) (n : ℕ) (x : step_modal.ModalArg) (y : step_term.TermArg) (o : Option Signed) (ps : List Pass) → s ≡ Use n x y → option_map the_bare o ≡ bare_entry (the_branch xs) n → by_next b (the_branch xs) fs n (next_of (option_map the_bare o)) go ≡ ps → by_step b (the_branch xs) fs (the_step s) go ≡ ps
used-next b go xs fs s n x y o ps is h e = used b go xs fs s n x y ps is (sym (ap (λ z. by_next b (the_branch xs) fs n (next_of z) go) h) ∙ e)

pub used-none : (b : Bool) (go : Later) (xs : List Signed) (fs : Waiting) (s : Step) (n : ℕ) (x : step_modal.ModalArg) (y : step_term.TermArg) → s ≡ Use n x y → None ≡ bare_entry (the_branch xs) n → by_step b (the_branch xs) fs (the_step s) go ≡ pass (length xs) (Adds n 0) b ∷ go false (the_branch xs) fs
used-none b go xs fs s n x y is h =
    used b go xs fs s n x y _ is
    (sym (ap (λ z. by_next b (the_branch xs) fs n (next_of z) go) h)
    ∙ ap₂ (λ i z. pass i (Adds n 0) b ∷ go false z fs) (branch_long xs) (append-nil (the_branch xs)))

pub axiom-next : (b : Bool) (xs : List Signed) (fs : Waiting) (n k : ℕ) (go : Later) (ps : List Pass) → resumed (the_branch xs) fs go ≡ ps → by_step b (the_branch xs) fs (close n k) go ≡ pass (length xs) (Ends n k) b ∷ ps
axiom-next b xs fs n k go ps h = ap₂ (λ i z. pass i (Ends n k) b ∷ z) (branch_long xs) h

-- ---- the next right side

pub resumed-some : (go : Later) (xs ts ys : List Signed) (fs gs : List (ℕ × Signed)) (l : ℕ) (a : Signed) → fs ≡ gs ++ (l, a) ∷ [] → ts ≡ take l xs → ys ≡ ts ++ a ∷ [] → resumed (the_branch xs) (the_waiting fs) go ≡ go true (the_branch ys) (the_waiting gs)
resumed-some go xs ts ys fs gs l a h e f =
    ap (λ ws. resumed (the_branch xs) ws go) (waiting-push gs fs (l, a) h)
    ∙ ap (λ z. go true (z ++ the_bare a ∷ []) (the_waiting gs)) (take-map the_bare l xs ∙ sym (ap the_branch e))
    ∙ ap (λ z. go true z (the_waiting gs)) (sym (branch-push ts ys a f))

pub resumed-none : (go : Later) (xs : List Signed) (fs gs : List (ℕ × Signed)) → fs ≡ [] → gs ≡ [] → resumed (the_branch xs) (the_waiting fs) go ≡ go false (the_branch xs) (the_waiting gs)
resumed-none go xs fs gs h e = ap (λ z. resumed (the_branch xs) (the_waiting z) go) h ∙ sym (ap (λ z. go false (the_branch xs) (the_waiting z)) e)

-- ---- the loop

pub passes-next : (steps : List Step) (i : ℕ) (d step : Step) (b next : Bool) (xs ys : List Signed) (fs gs : List (ℕ × Signed)) (ps qs all : List Pass) (n : ℕ) (way : Way) → i < length steps → step ≡ get_or steps i d → n ≡ length xs → qs ≡ ps ++ pass n way b ∷ [] → by_step b (the_branch xs) (the_waiting fs) (the_step step) (passes_of (map the_step (drop (i + 1) steps))) ≡ pass (length xs) way b ∷ passes_of (map the_step (drop (i + 1) steps)) next (the_branch ys) (the_waiting gs) → ps ++ passes_of (map the_step (drop i steps)) b (the_branch xs) (the_waiting fs) ≡ all → qs ++ passes_of (map the_step (drop (i + 1) steps)) next (the_branch ys) (the_waiting gs) ≡ all
passes-next steps i d step b next xs ys fs gs ps qs all n way within read long h e known =
    let rest = passes_of (map the_step (drop (i + 1) steps)) next (the_branch ys) (the_waiting gs) in
    let here : drop i steps ≡ step ∷ drop (i + 1) steps = drop_more steps i d within ∙ ap (λ x. x ∷ drop (i + 1) steps) (sym read) in
    ap (λ z. z ++ rest) h
    ∙ append_assoc ps (pass n way b ∷ []) rest
    ∙ ap (λ j. ps ++ pass j way b ∷ rest) long
    ∙ ap (λ z. ps ++ z) (sym e)
    ∙ ap (λ z. ps ++ passes_of (map the_step z) b (the_branch xs) (the_waiting fs)) (sym here)
    ∙ known

pub passes-end : (steps : List Step) (i : ℕ) (b : Bool) (br : List kinds.Signed) (fs : Waiting) (ps all : List Pass) → length steps ≤ i → ps ++ passes_of (map the_step (drop i steps)) b br fs ≡ all → ps ≡ all
passes-end steps i b br fs ps all past known =
    sym (append-nil ps) ∙ ap (λ z. ps ++ passes_of (map the_step z) b br fs) (sym (drop_all i steps past)) ∙ known
