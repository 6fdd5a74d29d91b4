-- Own spares of labels, where common spares do not exist: if any ground solution meets the demand, no variable's home leads back to the
-- variable, and so own spares exist. A term that is allowed at a label has a leaf with this home, and so no mark of the label is larger than
-- the term; but a mark is larger than what it holds.
use Rattle.std.proofs.Common.{◌≡◌, ℕ, suc, ◌+◌, ◌≤◌, List, [], ◌∷◌, ◌++◌, Bool, true, false, IsTrue, refl, sym, ◌∙◌, ap, subst, Option, Some, None, option_and_then, nat_le, arith, leb-true, le-leb}
use Rattle.std.specs.List.{list_all}
use Rattle.std.specs.Option.{option_map_or}
use Rattle.std.proofs.lemmas.Bool.{false≢true, and_parts, and_from}
use Rattle.calculus.specs.declared.setting.Logic.{Logic}
use Rattle.calculus.specs.declared.setting.Logic.TheVariants.{Classical, Intuitionistic, D, T as LogicT, S4, S5}
use Rattle.calculus.specs.declared.setting.Domains.TheVariants.{Varying}
use Rattle.calculus.specs.declared.kind.Shape.{Shape}
use Rattle.calculus.specs.declared.kind.Shape.TheVariants.{Alpha, Beta, Gamma, Delta, Literal}
use Rattle.calculus.specs.declared.kind.ModalPart.{ModalPart}
use Rattle.calculus.specs.declared.kind.ModalPart.TheVariants.{Plain, Nu, Pi}
use Rattle.calculus.specs.Syntax.{Problem}
use Rattle.calculus.specs.Ground.{GroundTerm, GroundMark, Marks, Value, Values, g_fun, g_eigen, common, own, g_new_mark, no_g_terms, more_g_terms, term, steps, marks_list, marks_tree, values_tree, values_list}
use Rattle.calculus.specs.Lists.{marks_tree-marks_list, values_tree-values_list}
use Rattle.calculus.specs.Equality.{mark_eq}
use Rattle.calculus.specs.Kinds.{shape_of, modal_of}
use Rattle.calculus.specs.Positions.{Node}
use Rattle.calculus.specs.Labels.{nu_label, pi_label, home_allows}
use Rattle.calculus.specs.Skolem.{Reached, take_string, after_modal, take_term, after_shape, after_node, label_along, at_root, way_to, label_of, common_spares, is_allowed, are_allowed}
use Rattle.calculus.specs.Sizes.{g_term_size, mark_size, marks_size, values_size}
use Rattle.calculus.proofs.EqualityLaws.{mark_eq-tells, list_eq-tells}

-- each mark has at most n nodes
abbrev pub is_within : ℕ → List GroundMark → Bool
is_within n w = list_all (λ m. nat_le (mark_size m) n) w

within-both : (n : ℕ) (w v : List GroundMark) → IsTrue (is_within n w) → IsTrue (is_within n v) → IsTrue (is_within n (w ++ v))
within-both n [] v a b = b
within-both n (m ∷ w) v a b = let p = and_parts (nat_le (mark_size m) n) (is_within n w) a in and_from (nat_le (mark_size m) n) (is_within n (w ++ v)) p.0 (within-both n w v p.1 b)

within-more : (n k : ℕ) → n ≤ k → (w : List GroundMark) → IsTrue (is_within n w) → IsTrue (is_within k w)
within-more n k l [] h = refl
within-more n k l (m ∷ w) h =
    let p = and_parts (nat_le (mark_size m) n) (is_within n w) h in
    and_from (nat_le (mark_size m) k) (is_within k w) (le-leb (mark_size m) k (let q = leb-true (mark_size m) n p.0 in omega (arith, q, l))) (within-more n k l w p.1)

-- the marks of a string are smaller than the string
marks-within : (w : List GroundMark) → IsTrue (is_within (marks_size (marks_tree w)) w)
marks-within [] = refl
marks-within (m ∷ w) =
    let size = marks_size (marks_tree (m ∷ w)) in
    and_from (nat_le (mark_size m) size) (is_within size w) (le-leb (mark_size m) size (omega arith)) (within-more (marks_size (marks_tree w)) size (omega arith) w (marks-within w))

-- ---- the label of a position

nu-within : (l : Logic) (n : ℕ) (w s : List GroundMark) → IsTrue (is_within n w) → IsTrue (is_within n s) → IsTrue (is_within n (nu_label l w s))
nu-within Classical n w s a b = within-both n w s a b
nu-within Intuitionistic n w s a b = within-both n w s a b
nu-within D n w s a b = within-both n w s a b
nu-within LogicT n w s a b = within-both n w s a b
nu-within S4 n w s a b = within-both n w s a b
nu-within S5 n w s a b = b

one-within : (n : ℕ) (m : GroundMark) → mark_size m ≤ n → IsTrue (is_within n (m ∷ []))
one-within n m l = and_from (nat_le (mark_size m) n) true (le-leb (mark_size m) n l) refl

pi-within : (l : Logic) (n : ℕ) (w : List GroundMark) (m : GroundMark) → IsTrue (is_within n w) → mark_size m ≤ n → IsTrue (is_within n (pi_label l w m))
pi-within Classical n w m a b = within-both n w (m ∷ []) a (one-within n m b)
pi-within Intuitionistic n w m a b = within-both n w (m ∷ []) a (one-within n m b)
pi-within D n w m a b = within-both n w (m ∷ []) a (one-within n m b)
pi-within LogicT n w m a b = within-both n w (m ∷ []) a (one-within n m b)
pi-within S4 n w m a b = within-both n w (m ∷ []) a (one-within n m b)
pi-within S5 n w m a b = one-within n m b

-- values taken and those still there together are not larger than n
abbrev sum_of : List Value → ℕ
sum_of vs = values_size (values_tree vs)

sum-both : (vs us : List Value) → sum_of (vs ++ us) ≡ sum_of vs + sum_of us
sum-both [] us = omega arith
sum-both (v ∷ vs) us = let e = sum-both vs us in omega (arith, e)

record Fits (n : ℕ) (r : Reached) : Type 0 where
  label : IsTrue (is_within (suc n) r.label)
  small : sum_of r.taken + sum_of r.rest ≤ n

abbrev FitsOption : ℕ → Option Reached → Type 0
FitsOption n None = Unit {0}
FitsOption n (Some r) = Fits n r

string-fits : (l : Logic) (n : ℕ) (r : Reached) (vs : List Value) → r.rest ≡ vs → Fits n r → FitsOption n (take_string l r vs)
string-fits l n r [] e h = tt
string-fits l n r (term t ∷ vs) e h = tt
string-fits l n r (steps s ∷ vs) e h =
    let total = h.small in
    let rest : sum_of r.rest ≡ suc (suc (marks_size s) + sum_of vs) = ap sum_of e in
    let more = sum-both r.taken (steps s ∷ []) in
    let fits : marks_size s ≤ suc n = omega (arith, total, rest) in
    let inside : IsTrue (is_within (marks_size s) (marks_list s)) = subst (λ (z : Marks). IsTrue (is_within (marks_size z) (marks_list s))) (marks_tree-marks_list s) (marks-within (marks_list s)) in
    record { label = nu-within l (suc n) r.label (marks_list s) h.label (within-more (marks_size s) (suc n) fits (marks_list s) inside); small = omega (arith, total, rest, more) }

term-fits : (n : ℕ) (r : Reached) (vs : List Value) → r.rest ≡ vs → Fits n r → FitsOption n (take_term r vs)
term-fits n r [] e h = tt
term-fits n r (steps s ∷ vs) e h = tt
term-fits n r (term t ∷ vs) e h =
    let total = h.small in
    let rest : sum_of r.rest ≡ suc (suc (g_term_size t) + sum_of vs) = ap sum_of e in
    let more = sum-both r.taken (term t ∷ []) in
    record { label = h.label; small = omega (arith, total, rest, more) }

modal-fits : (l : Logic) (n p : ℕ) (m : ModalPart) (r : Reached) → Fits n r → FitsOption n (after_modal l p m r)
modal-fits l n p Plain r h = h
modal-fits l n p Nu r h = string-fits l n r r.rest refl h
modal-fits l n p Pi r h = record { label = pi-within l (suc n) r.label (g_new_mark p (values_tree r.taken)) h.label (let t = h.small in omega (arith, t)); small = h.small }

shape-fits : (n : ℕ) (x : Shape) (o : Option Reached) → FitsOption n o → FitsOption n (option_and_then (after_shape x) o)
shape-fits n x None h = tt
shape-fits n Gamma (Some r) h = term-fits n r r.rest refl h
shape-fits n Alpha (Some r) h = h
shape-fits n Beta (Some r) h = h
shape-fits n Delta (Some r) h = h
shape-fits n Literal (Some r) h = h

along-fits : (l : Logic) (n : ℕ) (ns : List Node) (r : Reached) → Fits n r → IsTrue (is_within (suc n) (label_along l ns r))
along-fits l n [] r h = h.label
along-fits l n (x ∷ ns) r h = by (after_node l x r) (shape-fits n (shape_of x.sign x.formula) (after_modal l x.position (modal_of l x.sign x.formula) r) (modal-fits l n x.position (modal_of l x.sign x.formula) r h)) (λ q k. along-fits l n ns q k)
  where
    by : (o : Option Reached) → FitsOption n o → ((q : Reached) → Fits n q → IsTrue (is_within (suc n) (label_along l ns q))) → IsTrue (is_within (suc n) (option_map_or (λ (next : Reached). label_along l ns next) o r.label))
    by None k ih = h.label
    by (Some q) k ih = ih q k

-- no mark of an eigenvariable's home is larger than the eigenvariable
pub home-within : (P : Problem) (p : ℕ) (vs : Values) → IsTrue (is_within (suc (values_size vs)) (label_of P p (values_list vs)))
home-within P p vs = along-fits P.setting.logic (values_size vs) (way_to P p) (at_root (values_list vs)) (record { label = refl; small = (let e : sum_of (values_list vs) ≡ values_size vs = ap values_size (values_tree-values_list vs) in omega (arith, e)) })

-- ---- terms that are allowed

-- no mark of a label at which a term is allowed is larger than the term
pub allowed-within : (P : Problem) (w : List GroundMark) (t : GroundTerm) → P.setting.domains ≡ Varying → common_spares P ≡ false → IsTrue (is_allowed P w t) → IsTrue (is_within (g_term_size t) w)
allowed-within P w (g_fun f no_g_terms) d c a = absurd (false≢true (sym c ∙ a))
allowed-within P w (g_fun f (more_g_terms t ts)) d c a = within-more (g_term_size t) (g_term_size (g_fun f (more_g_terms t ts))) (omega arith) w (allowed-within P w t d c (and_parts (is_allowed P w t) (are_allowed P w ts) a).0)
allowed-within P w (g_eigen p vs) d c a =
    let h = label_of P p (values_list vs) in
    let same : h ≡ w = (list_eq-tells mark_eq mark_eq-tells h w).0 (subst (λ x. IsTrue (home_allows mark_eq x h w)) d a) in
    subst (λ x. IsTrue (is_within (suc (values_size vs)) x)) same (home-within P p vs)
allowed-within P w (common k) d c a = absurd (false≢true (sym c ∙ a))
allowed-within P w (own k h) d c a =
    let same : marks_list h ≡ w = (list_eq-tells mark_eq mark_eq-tells (marks_list h) w).0 (subst (λ x. IsTrue (home_allows mark_eq x (marks_list h) w)) d a) in
    let size : marks_size (marks_tree (marks_list h)) ≡ marks_size h = ap marks_size (marks_tree-marks_list h) in
    subst (λ x. IsTrue (is_within (suc (marks_size h)) x)) same (within-more (marks_size (marks_tree (marks_list h))) (suc (marks_size h)) (omega (arith, size)) (marks_list h) (marks-within (marks_list h)))
