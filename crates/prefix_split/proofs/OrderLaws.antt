-- Lists that begin others, and what follows from what is known of them.
use Rattle.std.proofs.Common.{◌≡◌, ◌⊎◌, ℕ, zero, suc, ◌<◌, ◌≤◌, List, [], ◌∷◌, ◌++◌, length, Bool, true, false, not, refl, sym, ◌∙◌, ap, subst, None, Some, slice_get, inl, inr, arith, nat_le, leb-true, leb-false, eq-eqb, append_assoc, append-nil, length-append}
use Rattle.std.proofs.lemmas.Bool.{false≢true}
use Rattle.store_theory.specs.Bindings.{EndsIn}
use Rattle.calculus.specs.Ground.{GroundMark, g_new_mark}
use Rattle.store_theory.specs.Stores.{Cell, variable, fun_cell, eigen_cell, new_cell, string_cell, Store, Solution, Solves}
use Rattle.store_theory.specs.Templates.{as_label}
use Rattle.search_theory.proofs.GivingLaws.{ends-same}
use Rattle.term_store.specs.Shown.{head_of}
use Rattle.term_store.specs.declared.cell.Head.{Head}
use Rattle.term_store.specs.declared.cell.Ref.{Ref}
use Rattle.prefix_split.specs.declared.node.Node.{Node}
use Rattle.prefix_split.specs.declared.node.Step.{Step}
use Rattle.prefix_split.specs.declared.node.Step.TheVariants.{Root, Mark, Short, Long}
use Rattle.prefix_split.specs.declared.order.Relation.{Relation}
use Rattle.prefix_split.specs.declared.order.Relation.TheVariants.{Unknown, Weak, Strict}
use Rattle.prefix_split.specs.Beginnings.{AreValues, Begins, HasExtent, IsMarkNode, IsOtherMark, IsRelated, IsShortBehind, IsShorter, NodesFit, are_other_names, is_short, item_of, joined, step_marks}

-- ---- lists

-- an item of a list with one item more
pub last-item : {A : Type 0} (xs : List A) (y x : A) (i : ℕ) → slice_get (xs ++ y ∷ []) i ≡ Some x → (slice_get xs i ≡ Some x) ⊎ ((i ≡ length xs) × (y ≡ x))
last-item [] y x zero e = inr (refl, cc e)
last-item [] y x (suc i) e = let q : None ≡ Some x = e in cc q
last-item (z ∷ xs) y x zero e = inl e
last-item (z ∷ xs) y x (suc i) e = by (last-item xs y x i e)
  where
    by : (slice_get xs i ≡ Some x) ⊎ ((i ≡ length xs) × (y ≡ x)) → (slice_get xs i ≡ Some x) ⊎ ((suc i ≡ suc (length xs)) × (y ≡ x))
    by (inl p) = inl p
    by (inr p) = inr (ap suc p.0, p.1)

pub begins-same : (x : List GroundMark) → Begins x x
begins-same x = ([], sym (append-nil x))

pub begins-both : (x y z : List GroundMark) → Begins x y → Begins y z → Begins x z
begins-both x y z (s, e) (t, f) = (s ++ t, f ∙ ap (λ w. w ++ t) e ∙ append_assoc x s t)

pub begins-length : (x y : List GroundMark) → Begins x y → length x ≤ length y
begins-length x y (s, e) =
    let p = ap length e in
    let q = length-append x s in
    omega (arith, p, q)

-- of two beginnings of one list the shorter one begins the longer one
pub begins-shorter : (x y w : List GroundMark) → Begins x w → Begins y w → length x ≤ length y → Begins x y
begins-shorter [] y w a b l = (y, refl)
begins-shorter (m ∷ x) [] w a b l = absurd (omega (arith, l))
begins-shorter (m ∷ x) (n ∷ y) [] (s, e) b l = cc e
begins-shorter (m ∷ x) (n ∷ y) (k ∷ w) (s, e) (t, f) l =
    let p : k ≡ m = cc e in
    let q : k ≡ n = cc f in
    let a : w ≡ x ++ s = cc e in
    let b : w ≡ y ++ t = cc f in
    let (u, g) = begins-shorter x y w (s, a) (t, b) (omega (arith, l)) in
    (u, ap (λ h. h ∷ y) (sym q ∙ p) ∙ ap (λ xs. m ∷ xs) g)

append-none : (x s : List GroundMark) → length (x ++ s) ≤ length x → s ≡ []
append-none x [] l = refl
append-none x (m ∷ s) l = let q = length-append x (m ∷ s) in absurd (omega (arith, l, q))

-- lists that begin each other are equal
pub begins-equal : (x y : List GroundMark) → Begins x y → Begins y x → x ≡ y
begins-equal x y (s, e) b =
    let l = begins-length y x b in
    let none : s ≡ [] = append-none x s (subst (λ w. length w ≤ length x) e l) in
    sym (e ∙ ap (λ t. x ++ t) none ∙ append-nil x)

-- lists of one length that end so have the same last part
append-parts : (x y s t : List GroundMark) → x ++ s ≡ y ++ t → length s ≡ length t → s ≡ t
append-parts [] [] s t e l = e
append-parts [] (n ∷ y) s t e l =
    let p = ap length e in
    let q = length-append y t in
    absurd (omega (arith, p, q, l))
append-parts (m ∷ x) [] s t e l =
    let p = ap length e in
    let q = length-append x s in
    absurd (omega (arith, p, q, l))
append-parts (m ∷ x) (n ∷ y) s t e l = let r : x ++ s ≡ y ++ t = cc e in append-parts x y s t r l

-- ---- relations

pub joined-related : (a b : Relation) (x y z : List GroundMark) → IsRelated a x y → IsRelated b y z → IsRelated (joined a b) x z
joined-related Unknown b x y z h k = tt
joined-related Weak Unknown x y z h k = tt
joined-related Weak Weak x y z h k = begins-both x y z h k
joined-related Weak Strict x y z h k = let l = begins-length x y h in let m = k.1 in (begins-both x y z h k.0, omega (arith, l, m))
joined-related Strict Unknown x y z h k = tt
joined-related Strict Weak x y z h k = let l = begins-length y z k in let m = h.1 in (begins-both x y z h.0 k, omega (arith, l, m))
joined-related Strict Strict x y z h k = let l = h.1 in let m = k.1 in (begins-both x y z h.0 k.0, omega (arith, l, m))

-- no list is shorter than itself
pub never-shorter : (x : List GroundMark) → IsShorter x x → ⊥
never-shorter x h = let l = h.1 in omega (arith, l)

-- ---- steps of at most one mark

pub short-behind : (σ : Solution) (value : ℕ → List GroundMark) (nodes : List Node) (y : ℕ) (n : Node) → AreValues σ value nodes → slice_get nodes y ≡ Some n → is_short n.step ≡ true → IsShortBehind (value n.parent) (value y)
short-behind σ value nodes y n h e s =
    let k = h.each y n e in
    let p = ap length k.joined in
    let q = length-append (value n.parent) (step_marks σ n.step) in
    let l = by n.step s k.extent in
    record { begins = (step_marks σ n.step, k.joined); short = omega (arith, p, q, l) }
  where
    by : (step : Step) → is_short step ≡ true → HasExtent σ step → length (step_marks σ step) ≤ 1
    by Root f x = absurd (false≢true f)
    by (Mark r) f x = omega (arith, x)
    by (Short r) f x = x
    by (Long r) f x = absurd (false≢true f)

-- what is longer than the parent, and a beginning of what the node begins, has the node as a beginning
pub gap-above : (x y z w : List GroundMark) → IsShortBehind x y → IsShorter x z → Begins y w → Begins z w → Begins y z
gap-above x y z w h k a b = let l = h.short in let m = k.1 in begins-shorter y z w a b (omega (arith, l, m))

-- what begins the same as the node begins its parent, or has the node as a beginning
pub gap-either : (x y z w : List GroundMark) → IsShortBehind x y → Begins y w → Begins z w → Begins z x ⊎ Begins y z
gap-either x y z w h a b = by (nat_le (length z) (length x)) refl
  where
    by : (l : Bool) → nat_le (length z) (length x) ≡ l → Begins z x ⊎ Begins y z
    by true e = inl (begins-shorter z x w b (begins-both x y w h.begins a) (leb-true (length z) (length x) e))
    by false e =
        let l = h.short in
        let m = leb-false (length z) (length x) e in
        inr (begins-shorter y z w a b (omega (arith, l, m)))

-- what is shorter than the node begins its parent
pub gap-below : (x y z : List GroundMark) → IsShortBehind x y → IsShorter z y → Begins z x
gap-below x y z h k = let l = h.short in let m = k.1 in begins-shorter z x y k.0 h.begins (omega (arith, l, m))

-- a node by one mark is longer than its parent
pub mark-behind : (σ : Solution) (value : ℕ → List GroundMark) (nodes : List Node) (y : ℕ) (n : Node) (r : Ref) → AreValues σ value nodes → slice_get nodes y ≡ Some n → n.step ≡ Mark r → IsShorter (value n.parent) (value y)
mark-behind σ value nodes y n r h e s =
    let k = h.each y n e in
    let one : length (as_label (σ r.0)) ≡ 1 = subst (HasExtent σ) s k.extent in
    let f : value y ≡ value n.parent ++ as_label (σ r.0) = k.joined ∙ ap (λ x. value n.parent ++ step_marks σ x) s in
    let p = ap length f in
    let q = length-append (value n.parent) (as_label (σ r.0)) in
    ((as_label (σ r.0), f), omega (arith, p, q, one))

pub node-behind : (σ : Solution) (value : ℕ → List GroundMark) (nodes : List Node) (y : ℕ) (n : Node) → AreValues σ value nodes → slice_get nodes y ≡ Some n → Begins (value n.parent) (value y)
node-behind σ value nodes y n h e = (step_marks σ n.step, (h.each y n e).joined)

-- ---- nodes with one label

-- the same steps from parents with one label
pub nodes-same : (σ : Solution) (value : ℕ → List GroundMark) (nodes : List Node) (y z : ℕ) (a b : Node) → AreValues σ value nodes → slice_get nodes y ≡ Some a → slice_get nodes z ≡ Some b → value a.parent ≡ value b.parent → step_marks σ a.step ≡ step_marks σ b.step → value y ≡ value z
nodes-same σ value nodes y z a b h e f p q = (h.each y a e).joined ∙ ap (λ w. w ++ step_marks σ a.step) p ∙ ap (λ s. value b.parent ++ s) q ∙ sym (h.each z b f).joined

-- nodes with one label that are by one mark are by the same
pub marks-same : (σ : Solution) (value : ℕ → List GroundMark) (nodes : List Node) (y z : ℕ) (a b : Node) (r q : Ref) → AreValues σ value nodes → slice_get nodes y ≡ Some a → slice_get nodes z ≡ Some b → a.step ≡ Mark r → b.step ≡ Mark q → value y ≡ value z → as_label (σ r.0) ≡ as_label (σ q.0)
marks-same σ value nodes y z a b r q h e f s t g =
    let k = h.each y a e in
    let l = h.each z b f in
    let one : length (as_label (σ r.0)) ≡ 1 = subst (HasExtent σ) s k.extent in
    let two : length (as_label (σ q.0)) ≡ 1 = subst (HasExtent σ) t l.extent in
    let left : value y ≡ value a.parent ++ as_label (σ r.0) = k.joined ∙ ap (λ x. value a.parent ++ step_marks σ x) s in
    let right : value z ≡ value b.parent ++ as_label (σ q.0) = l.joined ∙ ap (λ x. value b.parent ++ step_marks σ x) t in
    append-parts (value a.parent) (value b.parent) (as_label (σ r.0)) (as_label (σ q.0)) (sym left ∙ g ∙ right) (omega (arith, one, two))

pub equal-begins : (x y : List GroundMark) → x ≡ y → Begins x y
equal-begins x y e = ([], sym e ∙ sym (append-nil x))

-- marks of two positions have other values
pub heads-apart : (s : Store) (σ : Solution) (r q : ℕ) (left right : Head) → Solves s σ → EndsIn s r (λ c. head_of c ≡ left) → EndsIn s q (λ c. head_of c ≡ right) → are_other_names left right ≡ true → ¬ (as_label (σ r) ≡ as_label (σ q))
heads-apart s σ r q left right h (v, c, ends, at, e) (w, d, more, there, f) o same = by c d at there (subst (λ x. are_other_names x (head_of d) ≡ true) (sym e) (subst (λ y. are_other_names left y ≡ true) (sym f) o))
  where
    by : (c d : Cell) → slice_get s.cells v ≡ Some c → slice_get s.cells w ≡ Some d → are_other_names (head_of c) (head_of d) ≡ true → ⊥
    by (variable x b) d a k u = absurd (false≢true u)
    by (fun_cell x rs) d a k u = absurd (false≢true u)
    by (eigen_cell x rs) d a k u = absurd (false≢true u)
    by (string_cell rs) d a k u = absurd (false≢true u)
    by (new_cell x rs) (variable y b) a k u = absurd (false≢true u)
    by (new_cell x rs) (fun_cell y qs) a k u = absurd (false≢true u)
    by (new_cell x rs) (eigen_cell y qs) a k u = absurd (false≢true u)
    by (new_cell x rs) (string_cell qs) a k u = absurd (false≢true u)
    by (new_cell x rs) (new_cell y qs) a k u =
        let (vs, x_parts, x_is) = h v (new_cell x rs) a in
        let (us, y_parts, y_is) = h w (new_cell y qs) k in
        let one = ap as_label (ends-same s r v ends σ h ∙ x_is) in
        let two = ap as_label (ends-same s q w more σ h ∙ y_is) in
        let z : g_new_mark x vs ∷ [] ≡ g_new_mark y us ∷ [] = sym one ∙ same ∙ two in
        let p : x ≡ y = cc z in
        false≢true (sym (ap not (eq-eqb x y p)) ∙ u)

pub mark-within : (size : ℕ) (nodes : List Node) (y : ℕ) (r : Ref) → NodesFit size nodes → IsMarkNode nodes y r → r.0 < size
mark-within size nodes y r h (n, at, is) = h y n at r (ap item_of is)

pub marks-other : (s : Store) (σ : Solution) (value : ℕ → List GroundMark) (nodes : List Node) (y z : ℕ) (r : Ref) → Solves s σ → AreValues σ value nodes → IsMarkNode nodes y r → IsOtherMark s nodes z r → ¬ (value y ≡ value z)
marks-other s σ value nodes y z r t v (a, a_at, a_is) (q, (b, b_at, b_is), apart) same = apart σ t (marks-same σ value nodes y z a b r q v a_at b_at a_is b_is same)
