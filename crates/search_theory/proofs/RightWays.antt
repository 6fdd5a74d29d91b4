-- The values of a name that is built right lead along the way to its position, so the marks on the way are built right.
use Rattle.std.proofs.Common.{◌≡◌, ◌⊎◌, ℕ, suc, ◌+◌, ◌<◌, List, [], ◌∷◌, ◌++◌, length, Bool, true, false, ◌&&◌, IsTrue, refl, sym, ◌∙◌, ap, subst, Option, Some, None, option_and_then, slice_get, take, arith, append_assoc, append-nil, length-append, lt-ltb, if◌then◌else◌}
use Rattle.std.specs.List.{list_all}
use Rattle.std.specs.Option.{option_map_or}
use Rattle.std.proofs.lemmas.Bool.{false≢true, and_parts, and_from}
use Rattle.plain_laws.proofs.Every.{all-parts}
use Rattle.plain_laws.proofs.Places.{take-longer}
use Rattle.calculus.specs.declared.sign.Sign.{Sign}
use Rattle.calculus.specs.declared.sort.Sort.TheVariants.{TermSort}
use Rattle.calculus.specs.declared.sign.Sign.TheVariants.{F}
use Rattle.calculus.specs.declared.setting.Logic.{Logic}
use Rattle.calculus.specs.declared.kind.Shape.{Shape}
use Rattle.calculus.specs.declared.kind.Shape.TheVariants.{Alpha, Beta, Gamma, Delta, Literal}
use Rattle.calculus.specs.declared.kind.ModalPart.{ModalPart}
use Rattle.calculus.specs.declared.kind.ModalPart.TheVariants.{Plain, Nu, Pi}
use Rattle.calculus.specs.Ground.{GroundMark, Value, common, g_new_mark, g_spare_mark, marks_list, more_marks, no_marks, steps, term, values_list, values_tree}
use Rattle.calculus.specs.Instances.{Spot}
use Rattle.calculus.specs.Kinds.{shape_of, modal_of}
use Rattle.calculus.specs.Labels.{nu_label, pi_label}
use Rattle.calculus.specs.Positions.{size, Node, node, way, way_from}
use Rattle.calculus.specs.Skolem.{Reached, after_modal, after_node, after_shape, at_root, are_admitted_values, fits_along, fits_way, is_admitted_value, is_pi_position, is_step, take_string, take_term}
use Rattle.calculus.specs.Syntax.{Formula, Problem}
use Rattle.calculus.proofs.SpotLaws.{LeadsTo, LeadsTo-append, Stands, mark-proper, values_list-tree}
use Rattle.store_theory.specs.Stores.{Store, has_sort_at}
use Rattle.search_theory.specs.LabelledCells.{sort_value, sort_values}

-- ---- what a position takes

abbrev pub strings_of : ModalPart → ℕ
strings_of Plain = 0
strings_of Nu = 1
strings_of Pi = 0

abbrev pub terms_of : Shape → ℕ
terms_of Gamma = 1
terms_of Alpha = 0
terms_of Beta = 0
terms_of Delta = 0
terms_of Literal = 0

abbrev pub with_rest : Reached → List Value → Reached
with_rest r vs = record { label = r.label; taken = r.taken; rest = vs }

-- so many values are taken from r on, and they lead there whatever stands behind them
pub record TakesMore (go : Reached → Option Reached) (n : ℕ) (r next : Reached) : Type 0 where
  pub more : List Value
  pub front : r.rest ≡ more ++ next.rest
  pub grown : next.taken ≡ r.taken ++ more
  pub count : length more ≡ n
  pub again : (other : List Value) → go (with_rest r (more ++ other)) ≡ Some (with_rest next other)

same-takes : (go : Reached → Option Reached) (r next : Reached) → ((vs : List Value) → go (with_rest r vs) ≡ Some (with_rest next vs)) → r.rest ≡ next.rest → next.taken ≡ r.taken → TakesMore go 0 r next
same-takes go r next h rest taken = record { more = []; front = rest; grown = taken ∙ sym (append-nil r.taken); count = refl; again = h }

string-takes : (l : Logic) (q : ℕ) (r next : Reached) (vs : List Value) → r.rest ≡ vs → take_string l r vs ≡ Some next → TakesMore (after_modal l q Nu) 1 r next
string-takes l q r next [] e h = cc h
string-takes l q r next (term t ∷ vs) e h = cc h
string-takes l q r next (steps s ∷ vs) e h =
    let z : record { label = nu_label l r.label (marks_list s); taken = r.taken ++ steps s ∷ []; rest = vs } ≡ next = cc h in
    record {
      more = steps s ∷ [];
      front = e ∙ ap (λ xs. steps s ∷ xs) (ap (λ (x : Reached). x.rest) z);
      grown = sym (ap (λ (x : Reached). x.taken) z);
      count = refl;
      again = λ other. ap (λ (x : Reached). Some (with_rest x other)) z;
    }

modal-takes : (l : Logic) (q : ℕ) (m : ModalPart) (r next : Reached) → after_modal l q m r ≡ Some next → TakesMore (after_modal l q m) (strings_of m) r next
modal-takes l q Plain r next h = let z : r ≡ next = cc h in same-takes (after_modal l q Plain) r next (λ vs. ap (λ (x : Reached). Some (with_rest x vs)) z) (ap (λ (x : Reached). x.rest) z) (sym (ap (λ (x : Reached). x.taken) z))
modal-takes l q Pi r next h =
    let z : record { label = pi_label l r.label (g_new_mark q (values_tree r.taken)); taken = r.taken; rest = r.rest } ≡ next = cc h in
    same-takes (after_modal l q Pi) r next (λ vs. ap (λ (x : Reached). Some (with_rest x vs)) z) (ap (λ (x : Reached). x.rest) z) (sym (ap (λ (x : Reached). x.taken) z))
modal-takes l q Nu r next h = string-takes l q r next r.rest refl h

term-takes : (r next : Reached) (vs : List Value) → r.rest ≡ vs → take_term r vs ≡ Some next → TakesMore (after_shape Gamma) 1 r next
term-takes r next [] e h = cc h
term-takes r next (steps s ∷ vs) e h = cc h
term-takes r next (term t ∷ vs) e h =
    let z : record { label = r.label; taken = r.taken ++ term t ∷ []; rest = vs } ≡ next = cc h in
    record {
      more = term t ∷ [];
      front = e ∙ ap (λ xs. term t ∷ xs) (ap (λ (x : Reached). x.rest) z);
      grown = sym (ap (λ (x : Reached). x.taken) z);
      count = refl;
      again = λ other. ap (λ (x : Reached). Some (with_rest x other)) z;
    }

no-term-takes : (h : Shape) (r next : Reached) → ((x : Reached) → after_shape h x ≡ Some x) → after_shape h r ≡ Some next → TakesMore (after_shape h) 0 r next
no-term-takes h r next plain e =
    let w : Some r ≡ Some next = sym (plain r) ∙ e in
    let z : r ≡ next = cc w in
    same-takes (after_shape h) r next (λ vs. plain (with_rest r vs) ∙ ap (λ (x : Reached). Some (with_rest x vs)) z) (ap (λ (x : Reached). x.rest) z) (sym (ap (λ (x : Reached). x.taken) z))

shape-takes : (h : Shape) (r next : Reached) → after_shape h r ≡ Some next → TakesMore (after_shape h) (terms_of h) r next
shape-takes Gamma r next e = term-takes r next r.rest refl e
shape-takes Alpha r next e = no-term-takes Alpha r next (λ x. refl) e
shape-takes Beta r next e = no-term-takes Beta r next (λ x. refl) e
shape-takes Delta r next e = no-term-takes Delta r next (λ x. refl) e
shape-takes Literal r next e = no-term-takes Literal r next (λ x. refl) e

then-some : (go : Reached → Option Reached) (o : Option Reached) (y : Reached) → option_and_then go o ≡ Some y → (x : Reached) × (o ≡ Some x) × (go x ≡ Some y)
then-some go None y e = cc e
then-some go (Some x) y e = (x, refl, e)

node-takes : (l : Logic) (n : Node) (r next : Reached) → after_node l n r ≡ Some next → TakesMore (after_node l n) (strings_of (modal_of l n.sign n.formula) + terms_of (shape_of n.sign n.formula)) r next
node-takes l n r next e =
    let m = modal_of l n.sign n.formula in
    let h = shape_of n.sign n.formula in
    let (x, first, rest) = then-some (after_shape h) (after_modal l n.position m r) next e in
    let a = modal-takes l n.position m r x first in
    let b = shape-takes h x next rest in
    let c = length-append a.more b.more in
    let ca = a.count in
    let cb = b.count in
    record {
      more = a.more ++ b.more;
      front = a.front ∙ ap (λ vs. a.more ++ vs) b.front ∙ sym (append_assoc a.more b.more next.rest);
      grown = b.grown ∙ ap (λ vs. vs ++ b.more) a.grown ∙ append_assoc r.taken a.more b.more;
      count = omega (arith, c, ca, cb);
      again = λ other.
          ap (λ vs. after_node l n (with_rest r vs)) (append_assoc a.more b.more other)
          ∙ ap (option_and_then (after_shape h)) (a.again (b.more ++ other))
          ∙ b.again other;
    }

-- ---- the way so far

-- the values lead to the signed formula at the position q, which takes k of them, and fit the way from there to the place
pub record IsRightWay (P : Problem) (vs : List Value) (k q : ℕ) (sign : Sign) (f : Formula) (place : ℕ) : Type 0 where
  pub before : List Node
  pub reached : Reached
  pub in_way : (r : ℕ) → r < size f → way F P.formula (q + r) ≡ before ++ way_from q sign f r
  pub comes : (rest : List Value) → LeadsTo P.setting.logic before (at_root (reached.taken ++ rest)) (with_rest reached rest)
  pub whole : vs ≡ reached.taken ++ reached.rest
  pub count : length reached.taken ≡ k
  pub fits : IsTrue (fits_along P.setting.logic (way_from q sign f place) reached)

pub right-start : (P : Problem) (p : ℕ) (vs : List Value) → p < size P.formula → IsTrue (fits_way P p vs) → IsRightWay P vs 0 0 F P.formula p
right-start P p vs l h = record {
  before = [];
  reached = at_root vs;
  in_way = λ r inside. ap (λ n. way F P.formula n) (omega arith) ∙ within r inside;
  comes = λ rest. refl;
  whole = refl;
  count = refl;
  fits = subst (λ ns. IsTrue (fits_along P.setting.logic ns (at_root vs))) (within p l) h;
}
  where
    within : (r : ℕ) → r < size P.formula → way F P.formula r ≡ way_from 0 F P.formula r
    within r inside = ap (λ b. if b then way_from 0 F P.formula r else []) (lt-ltb r (size P.formula) inside)

step-same : (l : Logic) (m : ModalPart) (r next : Reached) (vs other : List Value) → IsTrue (is_step l m r next) → IsTrue (is_step l m (with_rest r vs) (with_rest next other))
step-same l Plain r next vs other h = refl
step-same l Nu r next vs other h = h
step-same l Pi r next vs other h = refl

maps-true : (g : Reached → Bool) (o : Option Reached) → option_map_or g o false ≡ true → (x : Reached) × (o ≡ Some x) × (g x ≡ true)
maps-true g None e = absurd (false≢true e)
maps-true g (Some x) e = (x, refl, e)

-- past a position that is not the last
pub right-next : (P : Problem) (vs : List Value) (k n q r : ℕ) (sign : Sign) (f : Formula) (place : ℕ) (s : Sign) (g : Formula) (rest : ℕ) → IsRightWay P vs k q sign f place → n ≡ k + strings_of (modal_of P.setting.logic sign f) + terms_of (shape_of sign f) → way_from q sign f place ≡ node q sign f ∷ way_from (q + r) s g rest → ((i : ℕ) → i < size g → (r + i < size f) × (way_from q sign f (r + i) ≡ node q sign f ∷ way_from (q + r) s g i)) → IsRightWay P vs n (q + r) s g rest
right-next P vs k n q r sign f place s g rest h more further below =
    let l = P.setting.logic in
    let here = node q sign f in
    let (next, passed, both) = maps-true (λ (x : Reached). is_step l (modal_of l sign f) h.reached x && fits_along l (way_from (q + r) s g rest) x) (after_node l here h.reached) (subst (λ ns. IsTrue (fits_along l ns h.reached)) further h.fits) in
    let fit = and_parts (is_step l (modal_of l sign f) h.reached next) (fits_along l (way_from (q + r) s g rest) next) both in
    let t = node-takes l here h.reached next passed in
    let c = length-append h.reached.taken t.more in
    let ch = h.count in
    let ct = t.count in
    record {
      before = h.before ++ here ∷ [];
      reached = next;
      in_way = λ i inside.
          let b = below i inside in
          ap (λ x. way F P.formula x) (omega arith) ∙ h.in_way (r + i) b.0 ∙ ap (λ ns. h.before ++ ns) b.1 ∙ sym (append_assoc h.before (here ∷ []) (way_from (q + r) s g i));
      comes = λ other. LeadsTo-append l h.before here (at_root (next.taken ++ other)) (with_rest h.reached (t.more ++ other)) (with_rest next other)
          (subst (λ us. LeadsTo l h.before (at_root us) (with_rest h.reached (t.more ++ other))) (sym (append_assoc h.reached.taken t.more other) ∙ ap (λ us. us ++ other) (sym t.grown)) (h.comes (t.more ++ other)))
          (t.again other)
          (step-same l (modal_of l sign f) h.reached next (t.more ++ other) other fit.0);
      whole = h.whole ∙ ap (λ us. h.reached.taken ++ us) t.front ∙ sym (append_assoc h.reached.taken t.more next.rest) ∙ ap (λ us. us ++ next.rest) (sym t.grown);
      count = ap length t.grown ∙ omega (arith, c, ch, ct, more);
      fits = fit.1;
    }

-- ---- marks

sorts-admitted : (P : Problem) (s : Store) (rs : List ℕ) → IsTrue (list_all (is_admitted_value P) (sort_values s rs))
sorts-admitted P s [] = refl
sorts-admitted P s (r ∷ rs) = and_from (is_admitted_value P (sort_value s r)) (list_all (is_admitted_value P) (sort_values s rs)) (by (has_sort_at s TermSort r)) (sorts-admitted P s rs)
  where
    by : (b : Bool) → IsTrue (is_admitted_value P (if b then term (common 0) else steps (more_marks (g_spare_mark 0) no_marks)))
    by true = refl
    by false = refl

-- a mark of a pi position on the way, named by the values taken so far
pub right-mark : (P : Problem) (s : Store) (rs : List ℕ) (k q : ℕ) (sign : Sign) (f : Formula) (place : ℕ) → IsRightWay P (sort_values s rs) k q sign f place → modal_of P.setting.logic sign f ≡ Pi → IsTrue (is_pi_position P q && fits_way P q (take k (sort_values s rs)))
right-mark P s rs k q sign f place h pi =
    let vs = sort_values s rs in
    let taken = h.reached.taken in
    let spot : Spot = record { position = q; label = h.reached.label; taken = taken; env = [] } in
    let stands : Stands P h.before spot sign f = record { in_way = h.in_way; comes = h.comes } in
    let proper = all-parts (is_admitted_value P) taken h.reached.rest (subst (λ us. IsTrue (list_all (is_admitted_value P) us)) h.whole (sorts-admitted P s rs)) in
    let mark = mark-proper P h.before spot sign f stands pi proper.0 in
    let all = and_parts (is_pi_position P q && fits_way P q (values_list (values_tree taken))) (are_admitted_values P (values_tree taken)) mark in
    let c = h.count in
    let front : take k vs ≡ taken = ap (take k) h.whole ∙ take-longer k taken h.reached.rest (omega (arith, c)) ∙ whole k taken c in
    subst (λ us. IsTrue (is_pi_position P q && fits_way P q us)) (values_list-tree taken ∙ sym front) all.0
  where
    whole : (n : ℕ) (us : List Value) → length us ≡ n → take n us ≡ us
    whole n us e = ap (λ i. take i us) (sym e) ∙ all-of us
      where
        all-of : (xs : List Value) → take (length xs) xs ≡ xs
        all-of [] = refl
        all-of (x ∷ xs) = ap (λ ys. x ∷ ys) (all-of xs)
