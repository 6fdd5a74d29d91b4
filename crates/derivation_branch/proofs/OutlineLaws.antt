-- Where the parts of a formula stand in its outline, and what is told of each.
use Rattle.std.proofs.Common.{◌≡◌, ℕ, suc, ◌+◌, ◌-◌, ◌<◌, List, [], ◌∷◌, ◌++◌, length, get_or, map, refl, sym, ◌∙◌, ap, subst, arith}
use Rattle.std.proofs.lemmas.List.{length-append, length-map, append_assoc, append-nil, get_or-map, get_or_at, map-append}
use Rattle.calculus.specs.declared.kind.Shape.{Shape}
use Rattle.calculus.specs.declared.kind.Shape.TheVariants.{Literal}
use Rattle.calculus.specs.declared.sign.Sign.{Sign}
use Rattle.calculus.specs.Kinds.{Signed, components, shape_of}
use Rattle.calculus.specs.Syntax.{Formula, atom, neg, conj, disj, imp, all, ex, box, dia}
use Rattle.derivation_branch.specs.OutlineView.{node_of, outline_of, parts_of, IsNode, IsOutline}
use Rattle.derivation_branch.specs.declared.outline.Node.{Node}

-- ---- a row of parts taken apart

split-one : (front part rest : List Formula) (n : Formula) → (front ++ (part ++ n ∷ [])) ++ rest ≡ (front ++ part) ++ n ∷ rest
split-one front part rest n = append_assoc front (part ++ n ∷ []) rest ∙ ap (λ l. front ++ l) (append_assoc part (n ∷ []) rest) ∙ sym (append_assoc front part (n ∷ rest))

split-second : (front a b rest : List Formula) (n : Formula) → (front ++ ((a ++ b) ++ n ∷ [])) ++ rest ≡ ((front ++ a) ++ b) ++ n ∷ rest
split-second front a b rest n = split-one front (a ++ b) rest n ∙ ap (λ l. l ++ n ∷ rest) (sym (append_assoc front a b))

split-first : (front a b rest : List Formula) (n : Formula) → (front ++ ((a ++ b) ++ n ∷ [])) ++ rest ≡ (front ++ a) ++ (b ++ n ∷ rest)
split-first front a b rest n = split-second front a b rest n ∙ append_assoc (front ++ a) b (n ∷ rest)

-- the last part of a row
last-at : (parts front part rest : List Formula) (n d : Formula) (k : ℕ) → parts ≡ (front ++ (part ++ n ∷ [])) ++ rest → suc k ≡ length front + length (part ++ n ∷ []) → (k < length parts) × (get_or parts k d ≡ n)
last-at parts front part rest n d k e size =
    let whole = e ∙ split-one front part rest n in
    let one = length-append part (n ∷ []) in
    let all = ap length whole ∙ length-append (front ++ part) (n ∷ rest) in
    let both = length-append front part in
    let at : length (front ++ part) ≡ k = omega (arith, size, one, both) in
    (omega (arith, all, at), ap (λ l. get_or l k d) whole ∙ get_or_at (front ++ part) n rest d k at)

-- ---- the last part of each formula

abbrev before : Formula → List Formula
before (atom p us) = []
before (neg a) = parts_of a
before (conj a b) = parts_of a ++ parts_of b
before (disj a b) = parts_of a ++ parts_of b
before (imp a b) = parts_of a ++ parts_of b
before (all a) = parts_of a
before (ex a) = parts_of a
before (box a) = parts_of a
before (dia a) = parts_of a

parts-last : (f : Formula) → parts_of f ≡ before f ++ f ∷ []
parts-last (atom p us) = refl
parts-last (neg a) = refl
parts-last (conj a b) = refl
parts-last (disj a b) = refl
parts-last (imp a b) = refl
parts-last (all a) = refl
parts-last (ex a) = refl
parts-last (box a) = refl
parts-last (dia a) = refl

parts-some : (f : Formula) → 0 < length (parts_of f)
parts-some f = let n = ap length (parts-last f) ∙ length-append (before f) (f ∷ []) in omega (arith, n)

part-last : (parts : List Formula) (k : ℕ) (f d : Formula) → IsNode parts k f → (k < length parts) × (get_or parts k d ≡ f)
part-last parts k f d h =
    let last = parts-last f in
    last-at parts h.0 (before f) h.1 f d k (h.2 ∙ ap (λ l. (h.0 ++ l) ++ h.1) last) (h.3 ∙ ap (λ (l : List Formula). length h.0 + length l) last)

-- one part stands at a place
pub part-same : (parts : List Formula) (k : ℕ) (f g : Formula) → IsNode parts k f → IsNode parts k g → f ≡ g
part-same parts k f g h i = sym (part-last parts k f f h).1 ∙ (part-last parts k g f i).1

-- ---- what is told of the parts

one-more : (a : Formula) (f : Formula) → outline_of a ≡ map node_of (parts_of a) → outline_of a ++ node_of f ∷ [] ≡ map node_of (parts_of a ++ f ∷ [])
one-more a f e = ap (λ l. l ++ node_of f ∷ []) e ∙ sym (map-append node_of (parts_of a) (f ∷ []))

two-more : (a b f : Formula) → outline_of a ≡ map node_of (parts_of a) → outline_of b ≡ map node_of (parts_of b) → (outline_of a ++ outline_of b) ++ node_of f ∷ [] ≡ map node_of ((parts_of a ++ parts_of b) ++ f ∷ [])
two-more a b f e g = (λ i. (e i ++ g i) ++ node_of f ∷ []) ∙ ap (λ l. l ++ node_of f ∷ []) (sym (map-append node_of (parts_of a) (parts_of b))) ∙ sym (map-append node_of (parts_of a ++ parts_of b) (f ∷ []))

pub outline-parts : (f : Formula) → outline_of f ≡ map node_of (parts_of f)
outline-parts (atom p us) = refl
outline-parts (neg a) = one-more a (neg a) (outline-parts a)
outline-parts (conj a b) = two-more a b (conj a b) (outline-parts a) (outline-parts b)
outline-parts (disj a b) = two-more a b (disj a b) (outline-parts a) (outline-parts b)
outline-parts (imp a b) = two-more a b (imp a b) (outline-parts a) (outline-parts b)
outline-parts (all a) = one-more a (all a) (outline-parts a)
outline-parts (ex a) = one-more a (ex a) (outline-parts a)
outline-parts (box a) = one-more a (box a) (outline-parts a)
outline-parts (dia a) = one-more a (dia a) (outline-parts a)

outline-long : (f : Formula) → length (outline_of f) ≡ length (parts_of f)
outline-long f = ap length (outline-parts f) ∙ length-map (parts_of f) node_of

pub node-at : (parts : List Formula) (nodes : List Node) (k : ℕ) (f : Formula) (d : Node) → IsOutline parts nodes → IsNode parts k f → (k < length nodes) × (get_or nodes k d ≡ node_of f)
node-at parts nodes k f d e h =
    let at = part-last parts k f f h in
    let long = ap length e ∙ length-map parts node_of in
    (omega (arith, long, at.0), ap (λ l. get_or l k d) e ∙ get_or-map node_of parts k f d at.0 ∙ ap node_of at.1)

-- the whole formula is the last part
pub node-whole : (nodes : List Node) (k : ℕ) (f : Formula) → k ≡ length nodes - 1 → nodes ≡ outline_of f → IsNode (parts_of f) k f
node-whole nodes k f e same =
    let some = parts-some f in
    let long = ap length same ∙ outline-long f in
    ([], [], sym (append-nil (parts_of f)), omega (arith, e, some, long))

-- ---- components

abbrev formula_in : List Signed → Formula → Formula
formula_in [] f = f
formula_in (x ∷ xs) f = x.formula

abbrev formula_second : List Signed → Formula → Formula
formula_second (x ∷ y ∷ xs) f = y.formula
formula_second _ f = f

abbrev pub IsLiteral : Shape → Type 0
IsLiteral Literal = Unit {0}
IsLiteral _ = ⊥

part-one : (parts : List Formula) (k : ℕ) (a n : Formula) (front rest : List Formula) → parts ≡ (front ++ (parts_of a ++ n ∷ [])) ++ rest → suc k ≡ length front + length (parts_of a ++ n ∷ []) → IsNode parts (k - 1) a
part-one parts k a n front rest e size =
    let some = parts-some a in
    let one = length-append (parts_of a) (n ∷ []) in
    (front, n ∷ rest, e ∙ split-one front (parts_of a) rest n, omega (arith, size, some, one))

part-second : (parts : List Formula) (k : ℕ) (a b n : Formula) (front rest : List Formula) → parts ≡ (front ++ ((parts_of a ++ parts_of b) ++ n ∷ [])) ++ rest → suc k ≡ length front + length ((parts_of a ++ parts_of b) ++ n ∷ []) → IsNode parts (k - 1) b
part-second parts k a b n front rest e size =
    let some = parts-some b in
    let one = length-append (parts_of a ++ parts_of b) (n ∷ []) in
    let both = length-append (parts_of a) (parts_of b) in
    let more = length-append front (parts_of a) in
    (front ++ parts_of a, n ∷ rest, e ∙ split-second front (parts_of a) (parts_of b) rest n, omega (arith, size, some, one, both, more))

part-first : (parts : List Formula) (k : ℕ) (a b n : Formula) (front rest : List Formula) → parts ≡ (front ++ ((parts_of a ++ parts_of b) ++ n ∷ [])) ++ rest → suc k ≡ length front + length ((parts_of a ++ parts_of b) ++ n ∷ []) → IsNode parts (k - 1 - length (parts_of b)) a
part-first parts k a b n front rest e size =
    let some = parts-some a in
    let one = length-append (parts_of a ++ parts_of b) (n ∷ []) in
    let both = length-append (parts_of a) (parts_of b) in
    (front, parts_of b ++ n ∷ rest, e ∙ split-first front (parts_of a) (parts_of b) rest n, omega (arith, size, some, one, both))

not-one : {A : Type 0} (x y z : A) (xs : List A) → x ∷ y ∷ xs ≡ z ∷ [] → ⊥
not-one x y z xs e = let n = ap length e in absurd (omega (arith, n))

not-two : {A : Type 0} (x y z : A) → x ∷ [] ≡ y ∷ z ∷ [] → ⊥
not-two x y z e = let n = ap length e in absurd (omega (arith, n))

-- the place of the one component of a formula that is no literal
pub component-one : (parts : List Formula) (k : ℕ) (s : Sign) (f : Formula) (x : Signed) → (IsLiteral (shape_of s f) → ⊥) → components s f ≡ x ∷ [] → IsNode parts k f → IsNode parts (k - 1) x.formula
component-one parts k s (atom p us) x apart e h = absurd (apart tt)
component-one parts k s (neg a) x apart e h = subst (IsNode parts (k - 1)) (ap (λ l. formula_in l a) e) (part-one parts k a (neg a) h.0 h.1 h.2 h.3)
component-one parts k s (conj a b) x apart e h = absurd (not-one _ _ _ _ e)
component-one parts k s (disj a b) x apart e h = absurd (not-one _ _ _ _ e)
component-one parts k s (imp a b) x apart e h = absurd (not-one _ _ _ _ e)
component-one parts k s (all a) x apart e h = subst (IsNode parts (k - 1)) (ap (λ l. formula_in l a) e) (part-one parts k a (all a) h.0 h.1 h.2 h.3)
component-one parts k s (ex a) x apart e h = subst (IsNode parts (k - 1)) (ap (λ l. formula_in l a) e) (part-one parts k a (ex a) h.0 h.1 h.2 h.3)
component-one parts k s (box a) x apart e h = subst (IsNode parts (k - 1)) (ap (λ l. formula_in l a) e) (part-one parts k a (box a) h.0 h.1 h.2 h.3)
component-one parts k s (dia a) x apart e h = subst (IsNode parts (k - 1)) (ap (λ l. formula_in l a) e) (part-one parts k a (dia a) h.0 h.1 h.2 h.3)

pub shape-no : (s : Sign) (f : Formula) (h : Shape) → (IsLiteral h → ⊥) → h ≡ shape_of s f → IsLiteral (shape_of s f) → ⊥
shape-no s f h apart e l = apart (subst IsLiteral (sym e) l)

two-parts : (parts : List Formula) (k second : ℕ) (a b n : Formula) (x y : Signed) (front rest : List Formula) → (a ≡ x.formula) × (b ≡ y.formula) → second ≡ length (parts_of b) → parts ≡ (front ++ ((parts_of a ++ parts_of b) ++ n ∷ [])) ++ rest → suc k ≡ length front + length ((parts_of a ++ parts_of b) ++ n ∷ [])
    → IsNode parts (k - 1 - second) x.formula × IsNode parts (k - 1) y.formula
two-parts parts k second a b n x y front rest same many e size = (
  subst (λ m. IsNode parts (k - 1 - m) x.formula) (sym many) (subst (IsNode parts (k - 1 - length (parts_of b))) same.0 (part-first parts k a b n front rest e size)),
  subst (IsNode parts (k - 1)) same.1 (part-second parts k a b n front rest e size),
)

-- the places of two components
pub component-two : (parts : List Formula) (nodes : List Node) (k second : ℕ) (s : Sign) (f : Formula) (x y : Signed) (d : Node) → IsOutline parts nodes → components s f ≡ x ∷ y ∷ [] → (k < length nodes → second ≡ (get_or nodes k d).second) → IsNode parts k f → IsNode parts (k - 1 - second) x.formula × IsNode parts (k - 1) y.formula
component-two parts nodes k second s (atom p us) x y d o e read h = absurd (not-two _ _ _ e)
component-two parts nodes k second s (neg a) x y d o e read h = absurd (not-two _ _ _ e)
component-two parts nodes k second s (all a) x y d o e read h = absurd (not-two _ _ _ e)
component-two parts nodes k second s (ex a) x y d o e read h = absurd (not-two _ _ _ e)
component-two parts nodes k second s (box a) x y d o e read h = absurd (not-two _ _ _ e)
component-two parts nodes k second s (dia a) x y d o e read h = absurd (not-two _ _ _ e)
component-two parts nodes k second s (conj a b) x y d o e read h =
    let last = node-at parts nodes k (conj a b) d o h in
    two-parts parts k second a b (conj a b) x y h.0 h.1 (ap (λ l. formula_in l a) e, ap (λ l. formula_second l b) e) (read last.0 ∙ ap (λ (n : Node). n.second) last.1 ∙ outline-long b) h.2 h.3
component-two parts nodes k second s (disj a b) x y d o e read h =
    let last = node-at parts nodes k (disj a b) d o h in
    two-parts parts k second a b (disj a b) x y h.0 h.1 (ap (λ l. formula_in l a) e, ap (λ l. formula_second l b) e) (read last.0 ∙ ap (λ (n : Node). n.second) last.1 ∙ outline-long b) h.2 h.3
component-two parts nodes k second s (imp a b) x y d o e read h =
    let last = node-at parts nodes k (imp a b) d o h in
    two-parts parts k second a b (imp a b) x y h.0 h.1 (ap (λ l. formula_in l a) e, ap (λ l. formula_second l b) e) (read last.0 ∙ ap (λ (n : Node). n.second) last.1 ∙ outline-long b) h.2 h.3
