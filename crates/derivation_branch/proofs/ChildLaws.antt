-- What stands on each branch that a use step leads to, by what the step is given.
use Rattle.std.proofs.Common.{◌≡◌, ℕ, suc, ◌<◌, Bool, true, false, ◌||◌, ◌&&◌, List, [], ◌∷◌, ◌++◌, length, get_or, map, refl, sym, ◌∙◌, ap, arith}
use Rattle.std.specs.List.{list_any}
use Rattle.plain_laws.proofs.Booleans.{or_false}
use Rattle.std.proofs.lemmas.Bool.{false≢true}
use Rattle.calculus.specs.declared.setting.Logic.{Logic}
use Rattle.calculus.specs.declared.setting.Logic.TheVariants.{S5}
use Rattle.calculus.specs.declared.sign.Sign.{Sign}
use Rattle.calculus.specs.declared.sign.Sign.TheVariants.{T, F}
use Rattle.calculus.specs.Calculus.{Children, closed, one, two, entry_at, with_argument, with_components, term_fits, label_after, character_occurs, holds_character, is_in_home}
use Rattle.calculus.specs.Derivations.{Entry, Sequent, Label, Mark, new_mark, character_eq, Names, ModalArg, no_modal, to, by_new, TermArg, no_term, by_term, by_name}
use Rattle.calculus.specs.Kinds.{Signed, signed, shape_of, components}
use Rattle.calculus.specs.Labels.{pi_label}
use Rattle.calculus.specs.Syntax.{Term, eigen, Formula, atom, neg, conj, disj, imp, all, ex, box, dia}
use Rattle.calculus.specs.Substitution.{formula_with, any_leaf_in}
use Rattle.derivation_branch.specs.Occurring.{occurs, quantifier_binds, in_argument, in_modal}
use Rattle.derivation_branch.specs.Putting.{IsClosed, AreClosed, formula_with_all}
use Rattle.derivation_branch.proofs.GrowthLaws.{any-append, any-member, bound-formula, bound-grown, characters-apart, covered, first-grown, home-of_names, or_assoc, or_swap, part-covered, plain-grown, second-grown}
use Rattle.derivation_branch.proofs.OccurrenceLaws.{IsOfNames}

-- it holds of each branch
abbrev pub OnEach : (Sequent → Type 0) → Children → Type 0
OnEach P closed = Unit {0}
OnEach P (one s) = P s
OnEach P (two s t) = P s × P t

pub each-both : (P Q R : Sequent → Type 0) → ((s : Sequent) → P s → Q s → R s) → (c : Children) → OnEach P c → OnEach Q c → OnEach R c
each-both P Q R f closed p q = tt
each-both P Q R f (one s) p q = f s p q
each-both P Q R f (two s t) p q = (f s p.0 q.0, f t p.1 q.1)

pub each-weaker : (P Q : Sequent → Type 0) → ((s : Sequent) → P s → Q s) → (c : Children) → OnEach P c → OnEach Q c
each-weaker P Q f closed p = tt
each-weaker P Q f (one s) p = f s p
each-weaker P Q f (two s t) p = (f s p.0, f t p.1)

-- ---- names

abbrev pub Grown : (Term → Bool) → Sequent → Sign → Formula → TermArg → Sequent → Type 0
Grown test s g f t c = occurs test c ≡ (occurs test s || (quantifier_binds f && in_argument test t))

pub children-grown : (test : Term → Bool) (s : Sequent) (k : ℕ) (g : Sign) (f : Formula) (w v : Label) (t : TermArg) → IsOfNames test → k < length s → record { sign = g; formula = f; label = w } ≡ get_or s k (record { sign = g; formula = f; label = w }) → term_fits (shape_of g f) t ≡ true
    → OnEach (Grown test s g f t) (with_components (shape_of g f) s v (map (with_argument t) (components g f)))
children-grown test s k g (atom p us) w v no_term of h at fits = plain-grown test s k (record { sign = g; formula = atom p us; label = w }) v h at ∙ sym (or_false (occurs test s))
children-grown test s k g (neg a) w v no_term of h at fits = plain-grown test s k (record { sign = g; formula = neg a; label = w }) v h at ∙ sym (or_false (occurs test s))
children-grown test s k g (box a) w v no_term of h at fits = plain-grown test s k (record { sign = g; formula = box a; label = w }) v h at ∙ sym (or_false (occurs test s))
children-grown test s k g (dia a) w v no_term of h at fits = plain-grown test s k (record { sign = g; formula = dia a; label = w }) v h at ∙ sym (or_false (occurs test s))
children-grown test s k T (conj a b) w v no_term of h at fits = plain-grown test s k (record { sign = T; formula = conj a b; label = w }) v h at ∙ sym (or_false (occurs test s))
children-grown test s k F (conj a b) w v no_term of h at fits =
    let e : Entry = record { sign = F; formula = conj a b; label = w } in
    (first-grown test s k e v (signed F a) (signed F b) h at refl ∙ sym (or_false (occurs test s)), second-grown test s k e v (signed F a) (signed F b) h at refl ∙ sym (or_false (occurs test s)))
children-grown test s k T (disj a b) w v no_term of h at fits =
    let e : Entry = record { sign = T; formula = disj a b; label = w } in
    (first-grown test s k e v (signed T a) (signed T b) h at refl ∙ sym (or_false (occurs test s)), second-grown test s k e v (signed T a) (signed T b) h at refl ∙ sym (or_false (occurs test s)))
children-grown test s k F (disj a b) w v no_term of h at fits = plain-grown test s k (record { sign = F; formula = disj a b; label = w }) v h at ∙ sym (or_false (occurs test s))
children-grown test s k T (imp a b) w v no_term of h at fits =
    let e : Entry = record { sign = T; formula = imp a b; label = w } in
    (first-grown test s k e v (signed F a) (signed T b) h at refl ∙ sym (or_false (occurs test s)), second-grown test s k e v (signed F a) (signed T b) h at refl ∙ sym (or_false (occurs test s)))
children-grown test s k F (imp a b) w v no_term of h at fits = plain-grown test s k (record { sign = F; formula = imp a b; label = w }) v h at ∙ sym (or_false (occurs test s))
children-grown test s k T (all a) w v (by_term u) of h at fits = bound-grown test s k (record { sign = T; formula = all a; label = w }) v (signed T a) u of h at refl
children-grown test s k F (all a) w v (by_name n) of h at fits = bound-grown test s k (record { sign = F; formula = all a; label = w }) v (signed F a) (eigen n) of h at refl
children-grown test s k T (ex a) w v (by_name n) of h at fits = bound-grown test s k (record { sign = T; formula = ex a; label = w }) v (signed T a) (eigen n) of h at refl
children-grown test s k F (ex a) w v (by_term u) of h at fits = bound-grown test s k (record { sign = F; formula = ex a; label = w }) v (signed F a) u of h at refl
children-grown test s k T (all a) w v no_term of h at fits = absurd (false≢true fits)
children-grown test s k T (all a) w v (by_name n) of h at fits = absurd (false≢true fits)
children-grown test s k F (all a) w v no_term of h at fits = absurd (false≢true fits)
children-grown test s k F (all a) w v (by_term u) of h at fits = absurd (false≢true fits)
children-grown test s k T (ex a) w v no_term of h at fits = absurd (false≢true fits)
children-grown test s k T (ex a) w v (by_term u) of h at fits = absurd (false≢true fits)
children-grown test s k F (ex a) w v no_term of h at fits = absurd (false≢true fits)
children-grown test s k F (ex a) w v (by_name n) of h at fits = absurd (false≢true fits)
children-grown test s k g (atom p us) w v (by_term u) of h at fits = absurd (false≢true fits)
children-grown test s k g (atom p us) w v (by_name n) of h at fits = absurd (false≢true fits)
children-grown test s k g (neg a) w v (by_term u) of h at fits = absurd (false≢true fits)
children-grown test s k g (neg a) w v (by_name n) of h at fits = absurd (false≢true fits)
children-grown test s k g (box a) w v (by_term u) of h at fits = absurd (false≢true fits)
children-grown test s k g (box a) w v (by_name n) of h at fits = absurd (false≢true fits)
children-grown test s k g (dia a) w v (by_term u) of h at fits = absurd (false≢true fits)
children-grown test s k g (dia a) w v (by_name n) of h at fits = absurd (false≢true fits)
children-grown test s k T (conj a b) w v (by_term u) of h at fits = absurd (false≢true fits)
children-grown test s k T (conj a b) w v (by_name n) of h at fits = absurd (false≢true fits)
children-grown test s k F (conj a b) w v (by_term u) of h at fits = absurd (false≢true fits)
children-grown test s k F (conj a b) w v (by_name n) of h at fits = absurd (false≢true fits)
children-grown test s k T (disj a b) w v (by_term u) of h at fits = absurd (false≢true fits)
children-grown test s k T (disj a b) w v (by_name n) of h at fits = absurd (false≢true fits)
children-grown test s k F (disj a b) w v (by_term u) of h at fits = absurd (false≢true fits)
children-grown test s k F (disj a b) w v (by_name n) of h at fits = absurd (false≢true fits)
children-grown test s k T (imp a b) w v (by_term u) of h at fits = absurd (false≢true fits)
children-grown test s k T (imp a b) w v (by_name n) of h at fits = absurd (false≢true fits)
children-grown test s k F (imp a b) w v (by_term u) of h at fits = absurd (false≢true fits)
children-grown test s k F (imp a b) w v (by_name n) of h at fits = absurd (false≢true fits)

-- ---- labels

again : (a b : Bool) → b ≡ (a || false) → (a || b) ≡ a
again true b e = refl
again false b e = e

labels-of : (m : Mark) (v : Label) (x : Signed) (xs : List Signed) → list_any (λ (e : Entry). holds_character m e.label) (map (entry_at v) (x ∷ xs)) ≡ holds_character m v
labels-of m v x [] = or_false (holds_character m v)
labels-of m v x (y ∷ ys) = again (holds_character m v) (list_any (λ (e : Entry). holds_character m e.label) (map (entry_at v) (y ∷ ys))) (labels-of m v y ys ∙ sym (or_false (holds_character m v)))

labels-more : (m : Mark) (s : Sequent) (v : Label) (x : Signed) (xs : List Signed) → list_any (λ (e : Entry). holds_character m e.label) (s ++ map (entry_at v) (x ∷ xs)) ≡ (list_any (λ (e : Entry). holds_character m e.label) s || holds_character m v)
labels-more m s v x xs = any-append (λ (e : Entry). holds_character m e.label) s (map (entry_at v) (x ∷ xs)) ∙ ap (λ b. list_any (λ (e : Entry). holds_character m e.label) s || b) (labels-of m v x xs)

abbrev Labelled : Mark → Sequent → Label → Sequent → Type 0
Labelled m s v c = list_any (λ (e : Entry). holds_character m e.label) c ≡ (list_any (λ (e : Entry). holds_character m e.label) s || holds_character m v)

children-labels : (m : Mark) (s : Sequent) (g : Sign) (f : Formula) (v : Label) (t : TermArg) → OnEach (Labelled m s v) (with_components (shape_of g f) s v (map (with_argument t) (components g f)))
children-labels m s g (atom p us) v t = labels-more m s v (with_argument t (signed g (atom p us))) []
children-labels m s T (neg a) v t = labels-more m s v (with_argument t (signed F a)) []
children-labels m s F (neg a) v t = labels-more m s v (with_argument t (signed T a)) []
children-labels m s T (conj a b) v t = labels-more m s v (with_argument t (signed T a)) (with_argument t (signed T b) ∷ [])
children-labels m s F (conj a b) v t = (labels-more m s v (with_argument t (signed F a)) [], labels-more m s v (with_argument t (signed F b)) [])
children-labels m s T (disj a b) v t = (labels-more m s v (with_argument t (signed T a)) [], labels-more m s v (with_argument t (signed T b)) [])
children-labels m s F (disj a b) v t = labels-more m s v (with_argument t (signed F a)) (with_argument t (signed F b) ∷ [])
children-labels m s T (imp a b) v t = (labels-more m s v (with_argument t (signed F a)) [], labels-more m s v (with_argument t (signed T b)) [])
children-labels m s F (imp a b) v t = labels-more m s v (with_argument t (signed T a)) (with_argument t (signed F b) ∷ [])
children-labels m s T (all a) v t = labels-more m s v (with_argument t (signed T a)) []
children-labels m s F (all a) v t = labels-more m s v (with_argument t (signed F a)) []
children-labels m s T (ex a) v t = labels-more m s v (with_argument t (signed T a)) []
children-labels m s F (ex a) v t = labels-more m s v (with_argument t (signed F a)) []
children-labels m s g (box a) v t = labels-more m s v (with_argument t (signed g a)) []
children-labels m s g (dia a) v t = labels-more m s v (with_argument t (signed g a)) []

-- ---- characters

pi-after : (m c : Mark) (l : Logic) (w : Label) (a : Bool) → (a || holds_character m w) ≡ a → (a || holds_character m (pi_label l w c)) ≡ (a || character_eq m c)
pi-after m c S5 w a e = ap (λ b. a || b) (or_false (character_eq m c))
pi-after m c _ w a e = ap (λ b. a || b) (any-append (character_eq m) w (c ∷ []) ∙ ap (λ b. holds_character m w || b) (or_false (character_eq m c))) ∙ covered a (holds_character m w) (character_eq m c) e

-- the label of the components brings the characters of the argument
label-brings : (m : Mark) (l : Logic) (w : Label) (x : ModalArg) (a : Bool) → (a || holds_character m w) ≡ a → (a || holds_character m (label_after l w x)) ≡ (a || in_modal m x)
label-brings m l w no_modal a e = e ∙ sym (or_false a)
label-brings m l w (to v) a e = refl
label-brings m l w (by_new n) a e = pi-after m (new_mark n) l w a e

label-covered : (names : Names) (m : Mark) (s : Sequent) (k : ℕ) (e : Entry) → k < length s → e ≡ get_or s k e → (character_occurs names m s || holds_character m e.label) ≡ character_occurs names m s
label-covered names m s k e h at =
    part-covered (character_occurs names m s) (holds_character m e.label) (any_leaf_in (is_in_home names m) e.formula)
    (any-member (λ (x : Entry). holds_character m x.label || any_leaf_in (is_in_home names m) x.formula) s k e h at)

abbrev pub Marked : Names → Mark → Sequent → Formula → ModalArg → TermArg → Sequent → Type 0
Marked names m s f x t c = character_occurs names m c ≡ ((character_occurs names m s || in_modal m x) || (quantifier_binds f && in_argument (is_in_home names m) t))

marked : (names : Names) (m : Mark) (s : Sequent) (g : Sign) (f : Formula) (w v : Label) (x : ModalArg) (t : TermArg) (c : Sequent) → (character_occurs names m s || holds_character m v) ≡ (character_occurs names m s || in_modal m x)
    → Labelled m s v c → Grown (is_in_home names m) s g f t c → Marked names m s f x t c
marked names m s g f w v x t c e labels grown =
    let ls = list_any (λ (z : Entry). holds_character m z.label) s in
    let os = occurs (is_in_home names m) s in
    let brought = quantifier_binds f && in_argument (is_in_home names m) t in
    characters-apart names m c ∙ (λ i. labels i || grown i) ∙ or_swap ls (holds_character m v) os brought ∙ sym (or_assoc (ls || os) (holds_character m v) brought)
    ∙ ap (λ a. (a || holds_character m v) || brought) (sym (characters-apart names m s)) ∙ ap (λ a. a || brought) e

pub children-marked : (names : Names) (m : Mark) (s : Sequent) (k : ℕ) (g : Sign) (f : Formula) (w : Label) (l : Logic) (x : ModalArg) (t : TermArg) → k < length s → record { sign = g; formula = f; label = w } ≡ get_or s k (record { sign = g; formula = f; label = w }) → term_fits (shape_of g f) t ≡ true
    → OnEach (Marked names m s f x t) (with_components (shape_of g f) s (label_after l w x) (map (with_argument t) (components g f)))
children-marked names m s k g f w l x t h at fits =
    let v = label_after l w x in
    let e : Entry = record { sign = g; formula = f; label = w } in
    each-both (Labelled m s v) (Grown (is_in_home names m) s g f t) (Marked names m s f x t)
    (λ c. marked names m s g f w v x t c (label-brings m l w x (character_occurs names m s) (label-covered names m s k e h at)))
    (with_components (shape_of g f) s v (map (with_argument t) (components g f)))
    (children-labels m s g f v t)
    (children-grown (is_in_home names m) s k g f w v t (home-of_names names m) h at fits)

-- ---- whether a quantifier binds does not depend on terms that are put further out

binds-one : (t : Term) (d : ℕ) (f : Formula) → IsClosed t → quantifier_binds (formula_with t d f) ≡ quantifier_binds f
binds-one t d (atom p us) h = refl
binds-one t d (neg a) h = refl
binds-one t d (conj a b) h = refl
binds-one t d (disj a b) h = refl
binds-one t d (imp a b) h = refl
binds-one t d (all a) h = bound-formula t 0 (suc d) a h (omega arith)
binds-one t d (ex a) h = bound-formula t 0 (suc d) a h (omega arith)
binds-one t d (box a) h = refl
binds-one t d (dia a) h = refl

pub binds-under : (ts : List Term) (d : ℕ) (f : Formula) → AreClosed ts → quantifier_binds (formula_with_all ts d f) ≡ quantifier_binds f
binds-under [] d f h = refl
binds-under (t ∷ ts) d f h = binds-one t d (formula_with_all ts (suc d) f) h.0 ∙ binds-under ts (suc d) f h.1

pub each-all : (P : ℕ → Sequent → Type 0) (c : Children) → ((n : ℕ) → OnEach (P n) c) → OnEach (λ s. (n : ℕ) → P n s) c
each-all P closed h = tt
each-all P (one s) h = h
each-all P (two s t) h = (λ n. (h n).0, λ n. (h n).1)
