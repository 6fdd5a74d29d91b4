-- Ways that are followed position by position.
use Rattle.std.proofs.Common.{add-one, ◌≡◌, ℕ, zero, suc, ◌+◌, ◌<◌, List, [], ◌∷◌, length, map, ◌++◌, take, drop, get_or, Option, Some, None, option_and_then, refl, ap, sym, ◌∙◌, arith}
use Rattle.std.specs.Option.{option_map_or}
use Rattle.std.proofs.lemmas.List.{take-map}
use Rattle.calculus.specs.declared.sign.Sign.{Sign}
use Rattle.calculus.specs.declared.setting.Logic.{Logic}
use Rattle.calculus.specs.declared.kind.ModalPart.{ModalPart}
use Rattle.calculus.specs.declared.kind.ModalPart.TheVariants.{Pi}
use Rattle.calculus.specs.Ground.{GroundMark, GroundTerm, Marks, Value, term, steps, marks_tree, values_tree, g_new_mark}
use Rattle.calculus.specs.Kinds.{components, shape_of, modal_of}
use Rattle.calculus.specs.Labels.{nu_label, pi_label}
use Rattle.calculus.specs.Lists.{marks_list-marks_tree}
use Rattle.calculus.specs.Positions.{size, Node, way_from}
use Rattle.calculus.specs.Skolem.{Reached, after_modal, after_shape, label_along, take_string, take_term}
use Rattle.calculus.specs.Syntax.{Formula}
use Rattle.tableau_core.specs.InsideView.{Inside, LeadsOn, way_inside}
use Rattle.tableau_core.specs.Reaching.{reach, rest_of}
use Rattle.tableau_core.proofs.WayLaws.{way-by, way-begins}

-- the values from a place on, and those before the next one
pub drop-here : {X : Type 0} (f : X → Value) (xs : List X) (k : ℕ) (x d : X) → k < length xs → x ≡ get_or xs k d → drop k (map f xs) ≡ f x ∷ drop (suc k) (map f xs)
drop-here f [] k x d h e = absurd (omega arith)
drop-here f (a ∷ xs) zero x d h e = ap (λ y. f y ∷ map f xs) (sym e)
drop-here f (a ∷ xs) (suc k) x d h e = drop-here f xs k x d (omega arith) e

pub take-here : {X : Type 0} (f : X → Value) (xs : List X) (k : ℕ) (x d : X) → k < length xs → x ≡ get_or xs k d → take (suc k) (map f xs) ≡ take k (map f xs) ++ f x ∷ []
take-here f [] k x d h e = absurd (omega arith)
take-here f (a ∷ xs) zero x d h e = ap (λ y. f y ∷ []) (sym e)
take-here f (a ∷ xs) (suc k) x d h e = ap (λ ys. f a ∷ ys) (take-here f xs k x d (omega arith) e)

-- past one position, given what its modal part leads to
pub along : (l : Logic) (q : ℕ) (s : Sign) (f : Formula) (p : ℕ) (r : Reached) (o : Option Reached) → p < size f → o ≡ after_modal l q (modal_of l s f) r → label_along l (way_from q s f p) r ≡ option_map_or (label_along l (rest_of (way_from q s f p))) (option_and_then (after_shape (shape_of s f)) o) r.label
along l q s f p r o h e = let b = way-begins q s f p h in rw (b.1, e) refl

-- the label past the last position
pub along-last : (l : Logic) (q : ℕ) (s : Sign) (f : Formula) (p : ℕ) (o : Option Reached) (w : List GroundMark) (r : Reached) → p ≡ 0 → Some r ≡ o → option_map_or (label_along l (rest_of (way_from q s f p))) o w ≡ r.label
along-last l q s f p o w r h e = rw (h, sym e) refl

pub along-further : (l : Logic) (q : ℕ) (s : Sign) (f : Formula) (p : ℕ) (i : Inside) (o : Option Reached) (w : List GroundMark) (r : Reached) → p < size f → 0 < p → LeadsOn p (components s f) i → Some r ≡ o → option_map_or (label_along l (rest_of (way_from q s f p))) o w ≡ label_along l (way_from (q + i.further) i.sign i.formula i.place) r
along-further l q s f zero i o w r h z n e = absurd (omega arith)
along-further l q s f (suc p) i o w r h z n e = let y : rest_of (way_from q s f (suc p)) ≡ way_from (q + i.further) i.sign i.formula i.place = ap rest_of (way-by q s f p h) ∙ ap (λ x. way_inside q x (components s f)) (omega arith) ∙ n.way q in
    ap (λ ns. option_map_or (label_along l ns) o w) y ∙ ap (λ x. option_map_or (label_along l (way_from (q + i.further) i.sign i.formula i.place)) x w) (sym e)

pub along-stuck : (l : Logic) (ns : List Node) (o : Option Reached) (w : List GroundMark) → None ≡ o → option_map_or (label_along l ns) o w ≡ w
along-stuck l ns o w e = rw (sym e) refl

-- one value more is taken
one_more : {X : Type 0} (f : X → Value) (xs : List X) (k : ℕ) (x d : X) (w : List GroundMark) (v : Value) → k < length xs → x ≡ get_or xs k d → f x ≡ v → Some (reach w (map f xs) (k + 1)) ≡ Some (record { label = w; taken = take k (map f xs) ++ v ∷ []; rest = drop (suc k) (map f xs) })
one_more f xs k x d w v h e g = rw (add-one k, sym g) (ap (λ t. Some (record { label = w; taken = t; rest = drop (suc k) (map f xs) })) (take-here f xs k x d h e))

pub term-taken : {X : Type 0} (f : X → Value) (xs : List X) (k : ℕ) (x d : X) (w : List GroundMark) (t : GroundTerm) → k < length xs → x ≡ get_or xs k d → f x ≡ term t → Some (reach w (map f xs) (k + 1)) ≡ take_term (reach w (map f xs) k) (drop k (map f xs))
term-taken f xs k x d w t h e g = one_more f xs k x d w (term t) h e g ∙ sym (ap (take_term (reach w (map f xs) k)) (drop-here f xs k x d h e ∙ ap (λ v. v ∷ drop (suc k) (map f xs)) g))

pub no-term : {X : Type 0} (f : X → Value) (xs : List X) (k : ℕ) (x d : X) (w : List GroundMark) (s : Marks) → k < length xs → x ≡ get_or xs k d → f x ≡ steps s → None ≡ take_term (reach w (map f xs) k) (drop k (map f xs))
no-term f xs k x d w s h e g = sym (ap (take_term (reach w (map f xs) k)) (drop-here f xs k x d h e ∙ ap (λ v. v ∷ drop (suc k) (map f xs)) g))

pub string-taken : {X : Type 0} (f : X → Value) (xs : List X) (k : ℕ) (x d : X) (l : Logic) (w s : List GroundMark) → k < length xs → x ≡ get_or xs k d → f x ≡ steps (marks_tree s) → Some (reach (nu_label l w s) (map f xs) (k + 1)) ≡ take_string l (reach w (map f xs) k) (drop k (map f xs))
string-taken f xs k x d l w s h e g = one_more f xs k x d (nu_label l w s) (steps (marks_tree s)) h e g ∙ sym (ap (take_string l (reach w (map f xs) k)) (drop-here f xs k x d h e ∙ ap (λ v. v ∷ drop (suc k) (map f xs)) g) ∙ ap (λ m. Some (record { label = nu_label l w m; taken = take k (map f xs) ++ steps (marks_tree s) ∷ []; rest = drop (suc k) (map f xs) })) (marks_list-marks_tree s))

pub no-string : {X : Type 0} (f : X → Value) (xs : List X) (k : ℕ) (x d : X) (l : Logic) (w : List GroundMark) (t : GroundTerm) → k < length xs → x ≡ get_or xs k d → f x ≡ term t → None ≡ take_string l (reach w (map f xs) k) (drop k (map f xs))
no-string f xs k x d l w t h e g = sym (ap (take_string l (reach w (map f xs) k)) (drop-here f xs k x d h e ∙ ap (λ v. v ∷ drop (suc k) (map f xs)) g))

-- the label of a pi position
pub pi-next : {X : Type 0} (f : X → Value) (xs ys : List X) (k : ℕ) (l : Logic) (q : ℕ) (m n : ModalPart) (w moved : List GroundMark) → m ≡ n → m ≡ Pi → ys ≡ take k xs → moved ≡ pi_label l w (g_new_mark q (values_tree (map f ys))) → Some (reach moved (map f xs) k) ≡ after_modal l q n (reach w (map f xs) k)
pi-next f xs ys k l q m n w moved e h y d = rw (sym e, h, take-map f k xs, sym y) (ap (λ v. Some (record { label = v; taken = map f ys; rest = drop k (map f xs) })) d)
