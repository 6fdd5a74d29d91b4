-- How the walk that edits makes one edit.
use Rattle.std.proofs.Common.{◌≡◌, ℕ, ◌+◌, ◌<◌, ◌≤◌, List, [], ◌∷◌, ◌++◌, length, map, drop, get_or, true, Option, Some, None, refl, sym, ◌∙◌, ap, ap₂, subst, append_assoc, arith}
use Rattle.std.proofs.lemmas.List.{append-nil, drop_all, drop_more}
use Rattle.calculus.specs.Derivations as derivation
use Rattle.calculus.specs.declared.setting.Logic.{Logic}
use Rattle.formula_core.specs.declared.components.Signed.{Signed}
use Rattle.sequent_calc.specs.StepView.{the_step}
use Rattle.sequent_calc.specs.declared.step.Step.{Step}
use Rattle.trim_theory.specs.Editing.{Fork, Place, place, Rest, after_kept, before_all, by_edit, edited, has_numbers, if_fits, taken_by}
use Rattle.trim_theory.specs.Writing.{numbered}
use Rattle.trim_theory.specs.declared.edit.Edit.{Edit}
use Rattle.trim_theory.specs.declared.edit.Edit.TheVariants.{Keep, Skip, Insert}
use Rattle.derivation_trim.specs.BranchView.{the_branch}

before-twice : (xs ys : List derivation.Step) (o : Option (List derivation.Step)) → before_all xs (before_all ys o) ≡ before_all (xs ++ ys) o
before-twice xs ys None = refl
before-twice xs ys (Some zs) = ap Some (sym (append_assoc xs ys zs))

-- ---- one edit

pub kept-by : (l : Logic) (x m : derivation.Step) (xs : List derivation.Step) (w v : Place) (go : Rest) (out new : List derivation.Step) → m ≡ numbered w.table x → has_numbers m ≡ true → new ≡ out ++ m ∷ [] → v ≡ after_kept x w → before_all out (by_edit l Keep x xs w go) ≡ before_all new (go xs v)
kept-by l x m xs w v go out new e n h g =
    sym (ap (λ z. before_all out (if_fits (has_numbers z) (before_all (z ∷ []) (go xs (after_kept x w))))) e)
    ∙ ap (λ b. before_all out (if_fits b (before_all (m ∷ []) (go xs (after_kept x w))))) n
    ∙ before-twice out (m ∷ []) (go xs (after_kept x w))
    ∙ ap₂ (λ z u. before_all z (go xs u)) (sym h) (sym g)

-- ---- whichever it is

abbrev Turned : Logic → Edit → derivation.Step → List derivation.Step → Place → Place → Rest → List derivation.Step → List derivation.Step → Type 0
Turned l e x xs w v go out new = before_all out (by_edit l e x xs w go) ≡ before_all new (go (drop (taken_by e) (x ∷ xs)) v)

pub turned-keep : (l : Logic) (e : Edit) (x : derivation.Step) (xs : List derivation.Step) (w v : Place) (go : Rest) (out new : List derivation.Step) → e ≡ Keep → before_all out (by_edit l Keep x xs w go) ≡ before_all new (go xs v) → Turned l e x xs w v go out new
turned-keep l e x xs w v go out new is h = subst (λ z. Turned l z x xs w v go out new) (sym is) h

pub turned-skip : (l : Logic) (e : Edit) (m : ℕ) (x : derivation.Step) (xs : List derivation.Step) (br cr : List Signed) (ps qs tb ub : List ℕ) (fs : List Fork) (go : Rest) (out : List derivation.Step) → e ≡ Skip m → br ≡ cr → ps ≡ qs → by_edit l (Skip m) x xs (place (the_branch br) ps tb fs) go ≡ go xs (place (the_branch br) ps ub fs) → Turned l e x xs (place (the_branch cr) qs tb fs) (place (the_branch cr) qs ub fs) go out out
turned-skip l e m x xs br cr ps qs tb ub fs go out is b p h =
    let same = subst (λ z. by_edit l (Skip m) x xs (place (the_branch z) qs tb fs) go ≡ go xs (place (the_branch z) qs ub fs)) b
    (subst (λ z. by_edit l (Skip m) x xs (place (the_branch br) z tb fs) go ≡ go xs (place (the_branch br) z ub fs)) p h) in
    subst (λ z. Turned l z x xs (place (the_branch cr) qs tb fs) (place (the_branch cr) qs ub fs) go out out) (sym is) (ap (before_all out) same)

-- ---- the loop

-- what the edits and the steps from these places on lead to
abbrev pub leads : Logic → List Edit → ℕ → List Step → ℕ → Place → Option (List derivation.Step)
leads l es i steps j w = edited l (drop i es) (map the_step (drop j steps)) w

behind-edit : (e : Edit) (steps : List Step) (j n : ℕ) (x : Step) → drop j steps ≡ x ∷ drop (j + 1) steps → n ≡ j + taken_by e → drop (taken_by e) (the_step x ∷ map the_step (drop (j + 1) steps)) ≡ map the_step (drop n steps)
behind-edit Keep steps j n x here h = ap (λ i. map the_step (drop i steps)) (sym h)
behind-edit (Skip m) steps j n x here h = ap (λ i. map the_step (drop i steps)) (sym h)
behind-edit (Insert m) steps j n x here h =
    let q : n ≡ j = omega (arith, h) in
    sym (ap (map the_step) here) ∙ ap (λ i. map the_step (drop i steps)) (sym q)

pub leads-next : (l : Logic) (es : List Edit) (i : ℕ) (d e : Edit) (steps : List Step) (j n : ℕ) (c x : Step) (out new : List derivation.Step) (w v : Place) (all : Option (List derivation.Step)) → i < length es → e ≡ get_or es i d → j < length steps → x ≡ get_or steps j c → n ≡ j + taken_by e → ((xs : List derivation.Step) (go : Rest) → Turned l e (the_step x) xs w v go out new) → before_all out (leads l es i steps j w) ≡ all → before_all new (leads l es (i + 1) steps n v) ≡ all
leads-next l es i d e steps j n c x out new w v all within read inside got count turn known =
    let here : drop i es ≡ e ∷ drop (i + 1) es = drop_more es i d within ∙ ap (λ z. z ∷ drop (i + 1) es) (sym read) in
    let there : drop j steps ≡ x ∷ drop (j + 1) steps = drop_more steps j c inside ∙ ap (λ z. z ∷ drop (j + 1) steps) (sym got) in
    let xs = map the_step (drop (j + 1) steps) in
    ap (λ z. before_all new (edited l (drop (i + 1) es) z v)) (sym (behind-edit e steps j n x there count))
    ∙ sym (turn xs (edited l (drop (i + 1) es)))
    ∙ ap₂ (λ z y. before_all out (edited l z (map the_step y) w)) (sym here) (sym there)
    ∙ known
