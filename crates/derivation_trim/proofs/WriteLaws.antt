-- How the walk that writes takes one step.
use Rattle.std.proofs.Common.{◌≡◌, ℕ, suc, ◌+◌, ◌<◌, ◌≤◌, List, [], ◌∷◌, ◌++◌, length, map, reverse, drop, get_or, Bool, true, false, refl, sym, ◌∙◌, ap, ap₂, arith}
use Rattle.std.proofs.lemmas.List.{append-nil, drop_all, drop_more, reverse-append}
use Rattle.calculus.specs.Derivations as derivation
use Rattle.sequent_calc.specs.StepView.{the_step}
use Rattle.sequent_calc.specs.declared.step.Step.{Step}
use Rattle.trim_theory.specs.Writing.{grown, grown_by, last_of, next_forks, next_table, numbered, put_if, resumed_forks, resumed_table, write}
use Rattle.trim_theory.specs.declared.pass.Mark.{Mark}

-- ---- the table

pub grown-out : (table new : List ℕ) (last : ℕ) → last ≡ last_of table → new ≡ table ++ last ∷ [] → new ≡ grown false table
grown-out table new last e h = let q : last ≡ last_of table + 0 = omega (arith, e) in h ∙ ap (λ n. table ++ n ∷ []) q

pub grown-left : (table new : List ℕ) (last : ℕ) → last ≡ last_of table → new ≡ table ++ (last + 1) ∷ [] → new ≡ grown true table
grown-left table new last e h = h ∙ ap (λ n. table ++ (n + 1) ∷ []) e

pub grown-next : (k : Bool) (n j : ℕ) (t u : List ℕ) → n ≡ suc j → u ≡ grown k t → grown_by j k u ≡ grown_by n k t
grown-next k n j t u h e = ap (grown_by j k) e ∙ sym (ap (λ i. grown_by i k t) h)

pub grown-end : (k : Bool) (n : ℕ) (t : List ℕ) → n ≡ 0 → grown_by n k t ≡ t
grown-end k n t h = ap (λ i. grown_by i k t) h

pub ruleset growing = (grown-out, grown-left, grown-next, grown-end)

-- ---- one step

pub written-one : (m : Mark) (x : derivation.Step) (ms : List Mark) (xs out new : List derivation.Step) (table resumed next : List ℕ) (forks taken later : List Bool) → resumed ≡ resumed_table m.pass.starts_right m.pass.before table forks → taken ≡ resumed_forks m.pass.starts_right forks → next ≡ next_table m.is_left m.pass.way resumed → later ≡ next_forks m.is_left m.pass.way taken → ((rest : List derivation.Step) → new ++ rest ≡ out ++ put_if m.is_left (numbered resumed x) rest) → new ++ write ms xs next later ≡ out ++ write (m ∷ ms) (x ∷ xs) table forks
written-one m x ms xs out new table resumed next forks taken later a b c d h =
    h (write ms xs next later)
    ∙ ap₂ (λ t f. out ++ put_if m.is_left (numbered resumed x) (write ms xs t f)) c d
    ∙ ap₂ (λ t f. out ++ put_if m.is_left (numbered t x) (write ms xs (next_table m.is_left m.pass.way t) (next_forks m.is_left m.pass.way f))) a b

-- ---- the loop

-- what the steps and the marks from one on write
abbrev pub rest_of : List Step → List Mark → ℕ → List ℕ → List Bool → List derivation.Step
rest_of steps waiting i table forks = write (reverse waiting) (map the_step (drop i steps)) table (reverse forks)

pub write-next : (steps : List Step) (i : ℕ) (d step : Step) (old waiting : List Mark) (m : Mark) (out new all : List derivation.Step) (table next : List ℕ) (forks later : List Bool) → i < length steps → step ≡ get_or steps i d → old ≡ waiting ++ m ∷ [] → ((ms : List Mark) → (xs : List derivation.Step) → new ++ write ms xs next (reverse later) ≡ out ++ write (m ∷ ms) (the_step step ∷ xs) table (reverse forks)) → out ++ rest_of steps old i table forks ≡ all → new ++ rest_of steps waiting (i + 1) next later ≡ all
write-next steps i d step old waiting m out new all table next forks later within read h one known =
    let here : drop i steps ≡ step ∷ drop (i + 1) steps = drop_more steps i d within ∙ ap (λ x. x ∷ drop (i + 1) steps) (sym read) in
    let first : reverse old ≡ m ∷ reverse waiting = ap reverse h ∙ reverse-append waiting (m ∷ []) in
    one (reverse waiting) (map the_step (drop (i + 1) steps))
    ∙ ap₂ (λ ms xs. out ++ write ms (map the_step xs) table (reverse forks)) (sym first) (sym here)
    ∙ known

without_steps : (ms : List Mark) (table : List ℕ) (forks : List Bool) → write ms [] table forks ≡ []
without_steps [] table forks = refl
without_steps (m ∷ ms) table forks = refl

pub write-end : (steps : List Step) (i : ℕ) (waiting : List Mark) (out all : List derivation.Step) (table : List ℕ) (forks : List Bool) → length steps ≤ i → out ++ rest_of steps waiting i table forks ≡ all → out ≡ all
write-end steps i waiting out all table forks past known =
    sym (append-nil out)
    ∙ ap (λ xs. out ++ xs) (sym (without_steps (reverse waiting) table (reverse forks)))
    ∙ ap (λ xs. out ++ write (reverse waiting) (map the_step xs) table (reverse forks)) (sym (drop_all i steps past))
    ∙ known
