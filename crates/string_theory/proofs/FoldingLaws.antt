-- What is left of a label: it goes on as the label does, and each pi step at hand adds at most one character.
use Rattle.std.proofs.Common.{◌≡◌, ℕ, suc, ◌+◌, ◌≤◌, List, [], ◌∷◌, ◌++◌, length, Bool, true, false, nat_le, IsTrue, refl, sym, ◌∙◌, ap, subst, inl, inr, arith, append_assoc, if◌then◌else◌}
use Rattle.std.specs.List.{list_any}
use Rattle.std.proofs.lemmas.Bool.{and_parts, and_from, or_cases, cases_Bool, false≢true, leb-true, le-leb}
use Rattle.calculus.specs.Ground.{GroundMark}
use Rattle.calculus.specs.Equality.{mark_eq, label_eq}
use Rattle.calculus.specs.declared.setting.Logic.{Logic}
use Rattle.calculus.specs.declared.setting.Logic.TheVariants.{Classical, Intuitionistic, D, T as LogicT, S4, S5}
use Rattle.calculus.specs.declared.setting.Domains.{Domains}
use Rattle.calculus.specs.declared.setting.Domains.TheVariants.{Constant, Cumulative, Varying}
use Rattle.calculus.specs.Labels.{is_prefix, home_allows, steps_to, nu_label, pi_label}
use Rattle.calculus.specs.Tableaux.{has_unbounded_strings}
use Rattle.calculus.proofs.EqualityLaws.{mark_eq-tells, label_eq-tells}
use Rattle.string_theory.proofs.Folding.{PiStep, Names, has_step, is_step_at, folded}

pub folded-append : (K : Names) (f : GroundMark → GroundMark) (u v w : List GroundMark) → folded K f u (v ++ w) ≡ folded K f u v ++ folded K f (u ++ v) w
folded-append K f u [] w = ap (λ x. folded K f x w) (sym (append_nil u))
  where
    append_nil : (x : List GroundMark) → x ++ [] ≡ x
    append_nil [] = refl
    append_nil (m ∷ x) = ap (λ y. m ∷ y) (append_nil x)
folded-append K f u (m ∷ v) w = elim (cases_Bool (has_step K u m)) [
  | inl e ↦ rw e (ap (λ x. f m ∷ x) (folded-append K f (u ++ m ∷ []) v w ∙ ap (λ x. folded K f (u ++ m ∷ []) v ++ folded K f x w) (append_assoc u (m ∷ []) v)))
  | inr e ↦ rw e (folded-append K f (u ++ m ∷ []) v w ∙ ap (λ x. folded K f (u ++ m ∷ []) v ++ folded K f x w) (append_assoc u (m ∷ []) v))
]

-- the character of a pi step at hand stays
pub folded-step : (K : Names) (f : GroundMark → GroundMark) (u : List GroundMark) (m : GroundMark) → IsTrue (has_step K u m) → folded K f [] (u ++ m ∷ []) ≡ folded K f [] u ++ f m ∷ []
folded-step K f u m h = folded-append K f [] u (m ∷ []) ∙ ap (λ b. folded K f [] u ++ (if b then f m ∷ folded K f (u ++ m ∷ []) [] else folded K f (u ++ m ∷ []) [])) h

-- ---- how long it is

abbrev one_if : Bool → ℕ
one_if true = 1
one_if false = 0

-- the pi steps that begin at labels with at least n characters
abbrev steps_from : ℕ → List PiStep → ℕ
steps_from n [] = 0
steps_from n (e ∷ es) = one_if (nat_le n (length e.before)) + steps_from n es

one-least : (b : Bool) → one_if b ≤ 1
one-least true = omega arith
one-least false = omega arith

one-falls : (n k : ℕ) → one_if (nat_le (n + 1) k) ≤ one_if (nat_le n k)
one-falls n k = elim (cases_Bool (nat_le (n + 1) k)) [
  | inl e ↦ let l = leb-true (n + 1) k e in rw (e, le-leb n k (omega (arith, l))) (omega arith)
  | inr e ↦ rw e (omega arith)
]

steps-fall : (n : ℕ) (es : List PiStep) → steps_from (n + 1) es ≤ steps_from n es
steps-fall n [] = omega arith
steps-fall n (e ∷ es) = let a = one-falls n (length e.before) in let b = steps-fall n es in omega (arith, a, b)

one-here : (n : ℕ) → one_if (nat_le n n) ≡ 1
one-here n = rw (le-leb n n (omega arith)) refl

one-past : (n : ℕ) → one_if (nat_le (n + 1) n) ≡ 0
one-past n = elim (cases_Bool (nat_le (n + 1) n)) [
  | inl e ↦ let l = leb-true (n + 1) n e in absurd (omega (arith, l))
  | inr e ↦ rw e refl
]

step-counts : (u : List GroundMark) (m : GroundMark) (es : List PiStep) → IsTrue (list_any (is_step_at u m) es) → suc (steps_from (length u + 1) es) ≤ steps_from (length u) es
step-counts u m [] h = absurd (false≢true h)
step-counts u m (e ∷ es) h = elim (or_cases (is_step_at u m e) (list_any (is_step_at u m) es) h) [
  | inl here ↦
      let same = (label_eq-tells e.before u).0 (and_parts (label_eq e.before u) (mark_eq e.mark m) here).0 in
      let long : length e.before ≡ length u = ap length same in
      let a = one-here (length u) in
      let b = one-past (length u) in
      let c : one_if (nat_le (length u) (length e.before)) ≡ 1 = ap (λ n. one_if (nat_le (length u) n)) long ∙ a in
      let d : one_if (nat_le (length u + 1) (length e.before)) ≡ 0 = ap (λ n. one_if (nat_le (length u + 1) n)) long ∙ b in
      let f = steps-fall (length u) es in
      omega (arith, c, d, f)
  | inr later ↦ let a = one-falls (length u) (length e.before) in let b = step-counts u m es later in omega (arith, a, b)
]

length-more : (u : List GroundMark) (m : GroundMark) → length (u ++ m ∷ []) ≡ length u + 1
length-more [] m = refl
length-more (x ∷ u) m = let h = length-more u m in omega (arith, h)

folded-counts : (K : Names) (f : GroundMark → GroundMark) (u s : List GroundMark) → length (folded K f u s) ≤ steps_from (length u) K.pi_steps
folded-counts K f u [] = omega arith
folded-counts K f u (m ∷ s) =
    let next = subst (λ n. length (folded K f (u ++ m ∷ []) s) ≤ steps_from n K.pi_steps) (length-more u m) (folded-counts K f (u ++ m ∷ []) s) in
    elim (cases_Bool (has_step K u m)) [
      | inl e ↦ let a = step-counts u m K.pi_steps e in rw e (omega (arith, a, next))
      | inr e ↦ let a = steps-fall (length u) K.pi_steps in rw e (omega (arith, a, next))
    ]

steps-all : (n : ℕ) (es : List PiStep) → steps_from n es ≤ length es
steps-all n [] = omega arith
steps-all n (e ∷ es) = let a = one-least (nat_le n (length e.before)) in let b = steps-all n es in omega (arith, a, b)

-- no more characters are left than there are pi steps at hand
pub folded-short : (K : Names) (f : GroundMark → GroundMark) (u s : List GroundMark) → length (folded K f u s) ≤ length K.pi_steps
folded-short K f u s = let a = folded-counts K f u s in let b = steps-all (length u) K.pi_steps in omega (arith, a, b)

-- ---- prefixes and equal labels

prefix-more : (u v : List GroundMark) → IsTrue (is_prefix mark_eq u (u ++ v))
prefix-more [] v = refl
prefix-more (m ∷ u) v = and_from (mark_eq m m) (is_prefix mark_eq u (u ++ v)) ((mark_eq-tells m m).1 refl) (prefix-more u v)

prefix-rest : (u w : List GroundMark) → IsTrue (is_prefix mark_eq u w) → (v : List GroundMark) × (w ≡ u ++ v)
prefix-rest [] w h = (w, refl)
prefix-rest (m ∷ u) [] h = absurd (false≢true h)
prefix-rest (m ∷ u) (n ∷ w) h =
    let p = and_parts (mark_eq m n) (is_prefix mark_eq u w) h in
    let r = prefix-rest u w p.1 in
    (r.0, λ i. sym ((mark_eq-tells m n).0 p.0) i ∷ r.1 i)

-- a prefix stays a prefix
pub folded-prefix : (K : Names) (f : GroundMark → GroundMark) (u w : List GroundMark) → IsTrue (is_prefix mark_eq u w) → IsTrue (is_prefix mark_eq (folded K f [] u) (folded K f [] w))
folded-prefix K f u w h =
    let r = prefix-rest u w h in
    subst (λ x. IsTrue (is_prefix mark_eq (folded K f [] u) x)) (sym (ap (folded K f []) r.1 ∙ folded-append K f [] u r.0)) (prefix-more (folded K f [] u) (folded K f u r.0))

-- where a home allowed a label, what is left of the one allows what is left of the other
pub folded-allows : (K : Names) (f : GroundMark → GroundMark) (d : Domains) (h w : List GroundMark) → IsTrue (home_allows mark_eq d h w) → IsTrue (home_allows mark_eq d (folded K f [] h) (folded K f [] w))
folded-allows K f Constant h w e = refl
folded-allows K f Cumulative h w e = folded-prefix K f h w e
folded-allows K f Varying h w e = (label_eq-tells (folded K f [] h) (folded K f [] w)).1 (ap (folded K f []) ((label_eq-tells h w).0 e))

-- what holds in both logics of unbounded strings
by_unbounded : (Q : Logic → Type 0) → Q Intuitionistic → Q S4 → (l : Logic) → has_unbounded_strings l ≡ true → Q l
by_unbounded Q a b Intuitionistic h = a
by_unbounded Q a b S4 h = b
by_unbounded Q a b Classical h = absurd (false≢true h)
by_unbounded Q a b D h = absurd (false≢true h)
by_unbounded Q a b LogicT h = absurd (false≢true h)
by_unbounded Q a b S5 h = absurd (false≢true h)

-- each string is a step in these logics
pub always-step : (l : Logic) → has_unbounded_strings l ≡ true → (u v : List GroundMark) → IsTrue (steps_to mark_eq l u (nu_label l u v))
always-step l h u v = by_unbounded (λ l. IsTrue (steps_to mark_eq l u (nu_label l u v))) (prefix-more u v) (prefix-more u v) l h

pub goes-on : {C : Type 0} (l : Logic) → has_unbounded_strings l ≡ true → (u v : List C) → nu_label l u v ≡ u ++ v
goes-on l h u v = by_unbounded (λ l. nu_label l u v ≡ u ++ v) refl refl l h

pub pi-goes_on : {C : Type 0} (l : Logic) → has_unbounded_strings l ≡ true → (u : List C) (c : C) → pi_label l u c ≡ u ++ c ∷ []
pi-goes_on l h u c = by_unbounded (λ l. pi_label l u c ≡ u ++ c ∷ []) refl refl l h
