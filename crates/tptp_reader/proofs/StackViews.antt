-- The program's parts as a stack.
use Rattle.std.proofs.Common.{◌≡◌, ◌==◌, ◌&&◌, ◌||◌, not, rules, tests, ◌<◌, ◌≤◌, ◌+◌, ◌-◌, ℕ, Bool, true, false, List, [], ◌∷◌, ◌++◌, None, Some, refl, sym, ◌∙◌, ap, arith, length, take, get_or}
use Rattle.std.proofs.lemmas.List.{take_more}
use Rattle.std.proofs.lemmas.Bool.{false≢true}
use Rattle.tptp_reader.specs.Expecting as way
use Rattle.tptp_reader.specs.ExpectedView.{the_expected, the_next, the_parts, the_rest}
use Rattle.tptp_reader.specs.Following.{stack_of, is_open}
use Rattle.tptp_reader.specs.declared.expected.Expected.{Expected}
use Rattle.tptp_reader.specs.declared.expected.Move.{Move}
use Rattle.tptp_reader.specs.Terminals.{Terminal}

pub stack_of-snoc : (es : List Expected) (e : Expected) → stack_of (es ++ e ∷ []) ≡ the_expected e ∷ stack_of es
stack_of-snoc [] e = refl
stack_of-snoc (f ∷ es) e = ap (λ z. z ++ the_expected f ∷ []) (stack_of-snoc es e)

-- the part at the top of the lower parts of a stack
pub stack_of-take : (es : List Expected) (n : ℕ) (d : Expected) → 0 < n → n ≤ length es → stack_of (take n es) ≡ the_expected (get_or es (n - 1) d) ∷ stack_of (take (n - 1) es)
stack_of-take es n d some within =
    let k : n ≡ (n - 1) + 1 = omega arith in
    let l : n - 1 < length es = omega arith in
    ap (λ m. stack_of (take m es)) k ∙ ap stack_of (take_more es (n - 1) d l) ∙ stack_of-snoc (take (n - 1) es) (get_or es (n - 1) d)

pub ruleset stacking = (stack_of-snoc)

-- ---- one part more of the search for a step

top-step : (modal : Bool) (es : List Expected) (n : ℕ) (d : Expected) (x : Terminal) → 0 < n → n ≤ length es
    → way.step modal (stack_of (take n es)) x ≡ way.moved (way.move modal (the_expected (get_or es (n - 1) d)) x) (way.is_optional (the_expected (get_or es (n - 1) d))) (stack_of (take (n - 1) es)) (way.step modal (stack_of (take (n - 1) es)) x)
top-step modal es n d x some within = ap (λ z. way.step modal z x) (stack_of-take es n d some within)

pub step-found : (modal : Bool) (es : List Expected) (n : ℕ) (d : Expected) (x : Terminal) (m : Move) → 0 < n → n ≤ length es → the_next (Some m) ≡ way.move modal (the_expected (get_or es (n - 1) d)) x
    → way.step modal (stack_of (take n es)) x ≡ Some (m.nesting, (the_parts m.parts ++ the_rest m.nesting m.rest) ++ stack_of (take (n - 1) es))
step-found modal es n d x m some within e =
    top-step modal es n d x some within
    ∙ ap (λ z. way.moved z (way.is_optional (the_expected (get_or es (n - 1) d))) (stack_of (take (n - 1) es)) (way.step modal (stack_of (take (n - 1) es)) x)) (sym e)

pub step-stuck : (modal : Bool) (es : List Expected) (n : ℕ) (d : Expected) (x : Terminal) → 0 < n → n ≤ length es → the_next None ≡ way.move modal (the_expected (get_or es (n - 1) d)) x
    → way.is_optional (the_expected (get_or es (n - 1) d)) ≡ false → way.step modal (stack_of (take n es)) x ≡ None
step-stuck modal es n d x some within e o =
    top-step modal es n d x some within
    ∙ ap (λ z. way.moved z (way.is_optional (the_expected (get_or es (n - 1) d))) (stack_of (take (n - 1) es)) (way.step modal (stack_of (take (n - 1) es)) x)) (sym e)
    ∙ ap (λ b. way.moved None b (stack_of (take (n - 1) es)) (way.step modal (stack_of (take (n - 1) es)) x)) o

pub step-passed : (modal : Bool) (es : List Expected) (n : ℕ) (d : Expected) (x : Terminal) → 0 < n → n ≤ length es → the_next None ≡ way.move modal (the_expected (get_or es (n - 1) d)) x
    → way.is_optional (the_expected (get_or es (n - 1) d)) ≡ true → way.step modal (stack_of (take n es)) x ≡ way.step modal (stack_of (take (n - 1) es)) x
step-passed modal es n d x some within e o =
    top-step modal es n d x some within
    ∙ ap (λ z. way.moved z (way.is_optional (the_expected (get_or es (n - 1) d))) (stack_of (take (n - 1) es)) (way.step modal (stack_of (take (n - 1) es)) x)) (sym e)
    ∙ ap (λ b. way.moved None b (stack_of (take (n - 1) es)) (way.step modal (stack_of (take (n - 1) es)) x)) o

open-above : (es : List way.Expected) (e : way.Expected) → is_open (es ++ e ∷ []) ≡ true
open-above [] e = refl
open-above (f ∷ es) e = refl

pub stack-open : (es : List Expected) → (length es == 0) ≡ not (is_open (stack_of es))
stack-open [] = refl
stack-open (e ∷ es) = let t : (length (e ∷ es) == 0) ≡ false = search (tests, rules) in t ∙ ap not (sym (open-above (stack_of es) (the_expected e)))

-- ---- places

body-take : (es : List Expected) (n : ℕ) (d : Expected) → 0 < n → n ≤ length es
    → way.is_in_body (stack_of (take n es)) ≡ (way.is_after_body (the_expected (get_or es (n - 1) d)) || (way.is_part (the_expected (get_or es (n - 1) d)) && way.is_in_body (stack_of (take (n - 1) es))))
body-take es n d some within = ap way.is_in_body (stack_of-take es n d some within)

pub body-found : (es : List Expected) (n : ℕ) (d : Expected) → 0 < n → n ≤ length es → way.is_after_body (the_expected (get_or es (n - 1) d)) ≡ true → way.is_in_body (stack_of (take n es)) ≡ true
body-found es n d some within h = body-take es n d some within ∙ ap (λ b. b || (way.is_part (the_expected (get_or es (n - 1) d)) && way.is_in_body (stack_of (take (n - 1) es)))) h

pub body-stops : (es : List Expected) (n : ℕ) (d : Expected) → 0 < n → n ≤ length es → way.is_after_body (the_expected (get_or es (n - 1) d)) ≡ false → way.is_part (the_expected (get_or es (n - 1) d)) ≡ false → way.is_in_body (stack_of (take n es)) ≡ false
body-stops es n d some within h p =
    body-take es n d some within ∙ ap (λ b. b || (way.is_part (the_expected (get_or es (n - 1) d)) && way.is_in_body (stack_of (take (n - 1) es)))) h
    ∙ ap (λ b. b && way.is_in_body (stack_of (take (n - 1) es))) p

pub body-on : (es : List Expected) (n : ℕ) (d : Expected) → 0 < n → n ≤ length es → way.is_after_body (the_expected (get_or es (n - 1) d)) ≡ false → way.is_part (the_expected (get_or es (n - 1) d)) ≡ true → way.is_in_body (stack_of (take n es)) ≡ way.is_in_body (stack_of (take (n - 1) es))
body-on es n d some within h p =
    body-take es n d some within ∙ ap (λ b. b || (way.is_part (the_expected (get_or es (n - 1) d)) && way.is_in_body (stack_of (take (n - 1) es)))) h
    ∙ ap (λ b. b && way.is_in_body (stack_of (take (n - 1) es))) p

two-above : (es : List way.Expected) (f e : way.Expected) → way.is_at_item ((es ++ f ∷ []) ++ e ∷ []) ≡ false
two-above [] f e = refl
two-above (g ∷ []) f e = refl
two-above (g ∷ h ∷ es) f e = refl

-- only one part alone can be that of items
pub not-alone : (es : List Expected) → (length es == 1) ≡ false → way.is_at_item (stack_of es) ≡ false
not-alone [] h = refl
not-alone (e ∷ []) h = absurd (false≢true (sym h))
not-alone (e ∷ f ∷ es) h = two-above (stack_of es) (the_expected f) (the_expected e)
