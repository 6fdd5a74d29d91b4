-- The choices of a goal rise, they are all of its choices, and the index of the matrix gives them.
use Rattle.std.proofs.Common.{◌≡◌, ℕ, zero, suc, ◌+◌, ◌<◌, List, [], ◌∷◌, ◌++◌, length, map, drop, Bool, true, false, not, ◌==◌, IsTrue, refl, sym, ◌∙◌, ap, ap₂, subst, Some, slice_get, nat_lt, arith, eq-eqb, if◌then◌else◌}
use Rattle.std.specs.Prelude.{Contains}
use Rattle.std.specs.List.{AllByRecursion}
use Rattle.std.proofs.lemmas.Bool.{false≢true, and_from}
use Rattle.std.proofs.lemmas.List.{map-append}
use Rattle.std.specs.Ordering.{nat_cmp, ordering_then}
use Rattle.std.specs.Cmp.{tied_itself}
use Rattle.std.specs.declared.cmp.Ordering.TheVariants.{Less}
use Rattle.plain_laws.proofs.Numbers.{cmp-less}
use Rattle.calculus.specs.declared.sign.Sign.{Sign}
use Rattle.calculus.specs.declared.sign.Sign.TheVariants.{T, F}
use Rattle.calculus.specs.declared.sign.Side.{Side}
use Rattle.calculus.specs.Syntax.{Problem}
use Rattle.calculus.specs.Clauses.{selections}
use Rattle.calculus.specs.Equality.{sign_eq}
use Rattle.calculus.specs.Kinds.{other}
use Rattle.calculus.specs.Choices.{reduction, extension, Choice, choice_cmp, selection_cmp}
use Rattle.calculus.specs.Counting.{IsRising}
use Rattle.store_theory.specs.Systems.{CellAtom}
use Rattle.calculus.proofs.OrderLaws.{selection_cmp_total, rising-before}
use Rattle.calculus.proofs.SelectionLaws.{selections-rise}
use Rattle.store_theory.specs.Patterns.{PatternAtom, Template}
use Rattle.store_theory.specs.Templates.{IsTemplateOf}
use Rattle.search_theory.specs.States.{CellGoal}
use Rattle.search_theory.specs.Matrix.{MatrixClause, IsTemplateMatrix, is_about, places_among, clause_places, places}
use Rattle.search_theory.specs.Goals.{IsChoiceAt, MeetsAt, by_ancestor, by_clause}
use Rattle.search_theory.specs.Exploring.{IsIn}
use Rattle.search_theory.specs.OrderedChoices.{meets, reductions_from, extensions_among, extensions, selection_of, extension_at, choices_at}
use Rattle.search_theory.proofs.Dropping.{drop-next}

-- ---- lists

in-left : {A : Type 0} (x : A) (xs ys : List A) → IsIn x xs → IsIn x (xs ++ ys)
in-left x [] ys (k, e) = cc e
in-left x (z ∷ xs) ys (zero, e) = (zero, e)
in-left x (z ∷ xs) ys (suc k, e) = let r = in-left x xs ys (k, e) in (suc r.0, r.1)

in-right : {A : Type 0} (x : A) (xs ys : List A) → IsIn x ys → IsIn x (xs ++ ys)
in-right x [] ys h = h
in-right x (z ∷ xs) ys h = let r = in-right x xs ys h in (suc r.0, r.1)

in-if : {A : Type 0} (b : Bool) (x : A) (ys : List A) → IsTrue b → IsIn x ((if b then x ∷ [] else []) ++ ys)
in-if true x ys h = (0, refl)
in-if false x ys h = absurd (false≢true h)

in-after : {A : Type 0} (b : Bool) (x y : A) (ys : List A) → IsIn x ys → IsIn x ((if b then y ∷ [] else []) ++ ys)
in-after true x y ys h = (suc h.0, h.1)
in-after false x y ys h = h

-- ---- all choices are there

meets-from : (g a : CellAtom) → IsTrue (not (sign_eq g.sign a.sign)) → g.symbol ≡ a.symbol → IsTrue (meets g a)
meets-from g a s e = and_from (not (sign_eq g.sign a.sign)) (g.symbol == a.symbol) s (eq-eqb g.symbol a.symbol e)

reduction-in : (n : ℕ) (g : CellAtom) (path : List CellAtom) (k : ℕ) (a : CellAtom) → slice_get path k ≡ Some a → IsTrue (meets g a) → IsIn (reduction (n + k)) (reductions_from n g path)
reduction-in n g [] k a e m = cc e
reduction-in n g (b ∷ path) zero a e m =
    let same : b ≡ a = cc e in
    let number : n ≡ n + 0 = omega arith in
    subst (λ x. IsIn (reduction x) (reductions_from n g (b ∷ path))) number (in-if (meets g b) (reduction n) (reductions_from (suc n) g path) (subst (λ x. IsTrue (meets g x)) (sym same) m))
reduction-in n g (b ∷ path) (suc k) a e m =
    let number : suc n + k ≡ n + suc k = omega arith in
    subst (λ x. IsIn (reduction x) (reductions_from n g (b ∷ path))) number (in-after (meets g b) (reduction (suc n + k)) (reduction n) (reductions_from (suc n) g path) (reduction-in (suc n) g path k a e m))

other-sign : (s t : Sign) → IsTrue (not (sign_eq s t)) → IsTrue (sign_eq t (other s))
other-sign F F h = absurd (false≢true h)
other-sign F T h = refl
other-sign T F h = refl
other-sign T T h = absurd (false≢true h)

among-in : (symbol : ℕ) (sign : Sign) (sides : List Side) (n : ℕ) (xs : List PatternAtom) (j : ℕ) (a : PatternAtom) → slice_get xs j ≡ Some a → IsTrue (is_about symbol sign a) → IsIn (extension sides (n + j)) (extensions_among symbol sign sides n xs)
among-in symbol sign sides n [] j a e m = cc e
among-in symbol sign sides n (b ∷ xs) zero a e m =
    let same : b ≡ a = cc e in
    let number : n ≡ n + 0 = omega arith in
    subst (λ x. IsIn (extension sides x) (extensions_among symbol sign sides n (b ∷ xs))) number (in-if (is_about symbol sign b) (extension sides n) (extensions_among symbol sign sides (suc n) xs) (subst (λ x. IsTrue (is_about symbol sign x)) (sym same) m))
among-in symbol sign sides n (b ∷ xs) (suc j) a e m =
    let number : suc n + j ≡ n + suc j = omega arith in
    subst (λ x. IsIn (extension sides x) (extensions_among symbol sign sides n (b ∷ xs))) number (in-after (is_about symbol sign b) (extension sides (suc n + j)) (extension sides n) (extensions_among symbol sign sides (suc n) xs) (among-in symbol sign sides (suc n) xs j a e m))

-- the clause of a selection is in the matrix
record Found (P : Problem) (m : List MatrixClause) (sides : List Side) : Type 0 where
  clause : MatrixClause
  is_in : IsIn clause m
  selected : clause.selection ≡ sides
  template : IsTemplateOf P sides clause.template

find : (P : Problem) (m : List MatrixClause) (sides : List Side) → AllByRecursion (λ (c : MatrixClause). IsTemplateOf P c.selection c.template) m → Contains (map (λ (c : MatrixClause). c.selection) m) sides → Found P m sides
find P [] sides h (k, l, e) = absurd (omega (arith, l))
find P (c ∷ m) sides h (zero, l, e) = record { clause = c; is_in = (0, refl); selected = e; template = subst (λ ss. IsTemplateOf P ss c.template) e h.0 }
find P (c ∷ m) sides h (suc k, l, e) = let r = find P m sides h.1 (k, omega (arith, l), e) in record { clause = r.clause; is_in = (suc r.is_in.0, r.is_in.1); selected = r.selected; template = r.template }

extension-in : (symbol : ℕ) (sign : Sign) (m : List MatrixClause) (c : MatrixClause) → IsIn c m → (j : ℕ) (a : PatternAtom) → slice_get c.template.literals j ≡ Some a → IsTrue (is_about symbol sign a) → IsIn (extension c.selection j) (extensions symbol sign m)
extension-in symbol sign [] c (k, e) j a at h = cc e
extension-in symbol sign (d ∷ m) c (zero, e) j a at h =
    let same : d ≡ c = cc e in
    let number : 0 + j ≡ j = omega arith in
    subst (λ (x : MatrixClause). IsIn (extension c.selection j) (extensions symbol sign (x ∷ m))) (sym same)
    (in-left (extension c.selection j) (extensions_among symbol sign c.selection 0 c.template.literals) (extensions symbol sign m) (subst (λ x. IsIn (extension c.selection x) (extensions_among symbol sign c.selection 0 c.template.literals)) number (among-in symbol sign c.selection 0 c.template.literals j a at h)))
extension-in symbol sign (d ∷ m) c (suc k, e) j a at h = in-right (extension c.selection j) (extensions_among symbol sign d.selection 0 d.template.literals) (extensions symbol sign m) (extension-in symbol sign m c (k, e) j a at h)

if-taken : {A : Type 0} (b : Bool) (xs : List A) → IsTrue b → xs ≡ (if b then xs else [])
if-taken true xs h = refl
if-taken false xs h = absurd (false≢true h)

-- each choice of the goal is among them
-- each extension that the goal may have, whatever its path
pub extensions-complete : (P : Problem) (m : List MatrixClause) (g : CellAtom) → IsTemplateMatrix P m → (sides : List Side) (place : ℕ) → Contains (selections P.formula F) sides → ((t : Template) → IsTemplateOf P sides t → MeetsAt t place g) → IsIn (extension sides place) (extensions g.symbol (other g.sign) m)
extensions-complete P m g h sides place inside meet =
    let f = find P m sides h.templates (subst (λ sss. Contains sss sides) (sym h.in_order) inside) in
    let t = meet f.clause.template f.template in
    let about = and_from (t.literal.symbol == g.symbol) (sign_eq t.literal.sign (other g.sign)) (eq-eqb t.literal.symbol g.symbol (sym t.symbols)) (other-sign g.sign t.literal.sign t.signs) in
    subst (λ ss. IsIn (extension ss place) (extensions g.symbol (other g.sign) m)) f.selected (extension-in g.symbol (other g.sign) m f.clause f.is_in place t.literal t.stands about)

pub choices-complete : (P : Problem) (m : List MatrixClause) (d : ℕ) (g : CellGoal) → IsTemplateMatrix P m → (x : Choice) → IsChoiceAt P d g x → IsIn x (choices_at m d g)
choices-complete P m d g h x (by_ancestor k a at signs symbols) =
    let number : 1 + k ≡ suc k = omega arith in
    in-left (reduction (suc k)) (reductions_from 1 g.literal g.path) (if nat_lt (length g.path) d then extensions g.literal.symbol (other g.literal.sign) m else [])
    (subst (λ n. IsIn (reduction n) (reductions_from 1 g.literal g.path)) number (reduction-in 1 g.literal g.path k a at (meets-from g.literal a signs symbols)))
choices-complete P m d g h x (by_clause sides place near inside meet) =
    in-right (extension sides place) (reductions_from 1 g.literal g.path) (if nat_lt (length g.path) d then extensions g.literal.symbol (other g.literal.sign) m else [])
    (subst (λ xs. IsIn (extension sides place) xs) (if-taken (nat_lt (length g.path) d) (extensions g.literal.symbol (other g.literal.sign) m) near) (extensions-complete P m g.literal h sides place inside meet))

-- ---- they rise

abbrev AllLess : Choice → List Choice → Type 0
AllLess x ys = AllByRecursion (λ y. choice_cmp x y ≡ Less) ys

rise-append : (xs ys : List Choice) → IsRising choice_cmp xs → IsRising choice_cmp ys → AllByRecursion (λ x. AllLess x ys) xs → IsRising choice_cmp (xs ++ ys)
rise-append [] ys a b h = b
rise-append (x ∷ []) [] a b h = tt
rise-append (x ∷ []) (y ∷ ys) a b h = (h.0.0, b)
rise-append (x ∷ z ∷ xs) ys a b h = (a.0, rise-append (z ∷ xs) ys a.1 b h.1)

rise-if : (b : Bool) (x : Choice) (ys : List Choice) → IsRising choice_cmp ys → AllLess x ys → IsRising choice_cmp ((if b then x ∷ [] else []) ++ ys)
rise-if true x ys r h = rise-append (x ∷ []) ys tt r (h, tt)
rise-if false x ys r h = r

all-if : (Q : Choice → Type 0) (b : Bool) (x : Choice) (ys : List Choice) → Q x → AllByRecursion Q ys → AllByRecursion Q ((if b then x ∷ [] else []) ++ ys)
all-if Q true x ys h g = (h, g)
all-if Q false x ys h g = g

all-both : (Q : Choice → Type 0) (xs ys : List Choice) → AllByRecursion Q xs → AllByRecursion Q ys → AllByRecursion Q (xs ++ ys)
all-both Q [] ys h g = g
all-both Q (x ∷ xs) ys h g = (h.0, all-both Q xs ys h.1 g)

-- reductions by later ancestors come later
later-reductions : (k n : ℕ) (g : CellAtom) (path : List CellAtom) → k < n → AllLess (reduction k) (reductions_from n g path)
later-reductions k n g [] l = tt
later-reductions k n g (a ∷ path) l = all-if (λ y. choice_cmp (reduction k) y ≡ Less) (meets g a) (reduction n) (reductions_from (suc n) g path) (cmp-less k n l) (later-reductions k (suc n) g path (omega (arith, l)))

reductions-rise : (n : ℕ) (g : CellAtom) (path : List CellAtom) → IsRising choice_cmp (reductions_from n g path)
reductions-rise n g [] = tt
reductions-rise n g (a ∷ path) = rise-if (meets g a) (reduction n) (reductions_from (suc n) g path) (reductions-rise (suc n) g path) (later-reductions n (suc n) g path (omega arith))

same-clause : (sides : List Side) (i j : ℕ) → i < j → choice_cmp (extension sides i) (extension sides j) ≡ Less
same-clause sides i j l = ap (λ o. ordering_then o (nat_cmp i j)) (tied_itself selection_cmp_total sides) ∙ cmp-less i j l

later-literals : (symbol : ℕ) (sign : Sign) (sides : List Side) (i n : ℕ) (xs : List PatternAtom) → i < n → AllLess (extension sides i) (extensions_among symbol sign sides n xs)
later-literals symbol sign sides i n [] l = tt
later-literals symbol sign sides i n (a ∷ xs) l = all-if (λ y. choice_cmp (extension sides i) y ≡ Less) (is_about symbol sign a) (extension sides n) (extensions_among symbol sign sides (suc n) xs) (same-clause sides i n l) (later-literals symbol sign sides i (suc n) xs (omega (arith, l)))

among-rise : (symbol : ℕ) (sign : Sign) (sides : List Side) (n : ℕ) (xs : List PatternAtom) → IsRising choice_cmp (extensions_among symbol sign sides n xs)
among-rise symbol sign sides n [] = tt
among-rise symbol sign sides n (a ∷ xs) = rise-if (is_about symbol sign a) (extension sides n) (extensions_among symbol sign sides (suc n) xs) (among-rise symbol sign sides (suc n) xs) (later-literals symbol sign sides n (suc n) xs (omega arith))

-- all extensions by clauses whose selections come later
abbrev SelectedAfter : List Side → List MatrixClause → Type 0
SelectedAfter sides cs = AllByRecursion (λ ss. selection_cmp sides ss ≡ Less) (map (λ (c : MatrixClause). c.selection) cs)

later-among : (symbol : ℕ) (sign : Sign) (sides other_sides : List Side) (i n : ℕ) (xs : List PatternAtom) → selection_cmp sides other_sides ≡ Less → AllLess (extension sides i) (extensions_among symbol sign other_sides n xs)
later-among symbol sign sides other_sides i n [] l = tt
later-among symbol sign sides other_sides i n (a ∷ xs) l = all-if (λ y. choice_cmp (extension sides i) y ≡ Less) (is_about symbol sign a) (extension other_sides n) (extensions_among symbol sign other_sides (suc n) xs) (ap (λ o. ordering_then o (nat_cmp i n)) l) (later-among symbol sign sides other_sides i (suc n) xs l)

later-clauses : (symbol : ℕ) (sign : Sign) (sides : List Side) (i : ℕ) (cs : List MatrixClause) → SelectedAfter sides cs → AllLess (extension sides i) (extensions symbol sign cs)
later-clauses symbol sign sides i [] h = tt
later-clauses symbol sign sides i (c ∷ cs) h = all-both (λ y. choice_cmp (extension sides i) y ≡ Less) (extensions_among symbol sign c.selection 0 c.template.literals) (extensions symbol sign cs) (later-among symbol sign sides c.selection i 0 c.template.literals h.0) (later-clauses symbol sign sides i cs h.1)

among-before : (symbol : ℕ) (sign : Sign) (sides : List Side) (n : ℕ) (xs : List PatternAtom) (cs : List MatrixClause) → SelectedAfter sides cs → AllByRecursion (λ x. AllLess x (extensions symbol sign cs)) (extensions_among symbol sign sides n xs)
among-before symbol sign sides n [] cs h = tt
among-before symbol sign sides n (a ∷ xs) cs h = all-if (λ x. AllLess x (extensions symbol sign cs)) (is_about symbol sign a) (extension sides n) (extensions_among symbol sign sides (suc n) xs) (later-clauses symbol sign sides n cs h) (among-before symbol sign sides (suc n) xs cs h)

rising-rest : (x : List Side) (xs : List (List Side)) → IsRising selection_cmp (x ∷ xs) → IsRising selection_cmp xs
rising-rest x [] h = tt
rising-rest x (y ∷ ys) h = h.1

extensions-rise : (symbol : ℕ) (sign : Sign) (cs : List MatrixClause) → IsRising selection_cmp (map (λ (c : MatrixClause). c.selection) cs) → IsRising choice_cmp (extensions symbol sign cs)
extensions-rise symbol sign [] h = tt
extensions-rise symbol sign (c ∷ cs) h =
    rise-append (extensions_among symbol sign c.selection 0 c.template.literals) (extensions symbol sign cs) (among-rise symbol sign c.selection 0 c.template.literals) (extensions-rise symbol sign cs (rising-rest c.selection (map (λ (e : MatrixClause). e.selection) cs) h))
    (among-before symbol sign c.selection 0 c.template.literals cs (rising-before selection_cmp_total c.selection (map (λ (e : MatrixClause). e.selection) cs) h))

reductions-before : (n : ℕ) (g : CellAtom) (path : List CellAtom) (symbol : ℕ) (sign : Sign) (cs : List MatrixClause) → AllByRecursion (λ x. AllLess x (extensions symbol sign cs)) (reductions_from n g path)
reductions-before n g [] symbol sign cs = tt
reductions-before n g (a ∷ path) symbol sign cs = all-if (λ x. AllLess x (extensions symbol sign cs)) (meets g a) (reduction n) (reductions_from (suc n) g path) (all-later cs) (reductions-before (suc n) g path symbol sign cs)
  where
    one : (sides : List Side) (j : ℕ) (xs : List PatternAtom) → AllLess (reduction n) (extensions_among symbol sign sides j xs)
    one sides j [] = tt
    one sides j (b ∷ xs) = all-if (λ y. choice_cmp (reduction n) y ≡ Less) (is_about symbol sign b) (extension sides j) (extensions_among symbol sign sides (suc j) xs) refl (one sides (suc j) xs)

    all-later : (ds : List MatrixClause) → AllLess (reduction n) (extensions symbol sign ds)
    all-later [] = tt
    all-later (d ∷ ds) = all-both (λ y. choice_cmp (reduction n) y ≡ Less) (extensions_among symbol sign d.selection 0 d.template.literals) (extensions symbol sign ds) (one d.selection 0 d.template.literals) (all-later ds)

none-later : (xs : List Choice) → AllByRecursion (λ x. AllLess x []) xs
none-later [] = tt
none-later (x ∷ xs) = (tt, none-later xs)

-- the choices of a goal rise
pub choices-rise : (P : Problem) (m : List MatrixClause) (d : ℕ) (g : CellGoal) → IsTemplateMatrix P m → IsRising choice_cmp (choices_at m d g)
choices-rise P m d g h = by (nat_lt (length g.path) d)
  where
    by : (b : Bool) → IsRising choice_cmp (reductions_from 1 g.literal g.path ++ (if b then extensions g.literal.symbol (other g.literal.sign) m else []))
    by true = rise-append (reductions_from 1 g.literal g.path) (extensions g.literal.symbol (other g.literal.sign) m) (reductions-rise 1 g.literal g.path) (extensions-rise g.literal.symbol (other g.literal.sign) m (subst (IsRising selection_cmp) (sym h.in_order) (selections-rise P.formula F))) (reductions-before 1 g.literal g.path g.literal.symbol (other g.literal.sign) m)
    by false = rise-append (reductions_from 1 g.literal g.path) [] (reductions-rise 1 g.literal g.path) tt (none-later (reductions_from 1 g.literal g.path))

-- ---- the index

index-among : (m : List MatrixClause) (symbol : ℕ) (sign : Sign) (k j : ℕ) (sides : List Side) (xs : List PatternAtom) → selection_of (slice_get m k) ≡ sides → map (extension_at m) (places_among symbol sign k j xs) ≡ extensions_among symbol sign sides j xs
index-among m symbol sign k j sides [] e = refl
index-among m symbol sign k j sides (a ∷ xs) e = by (is_about symbol sign a) (index-among m symbol sign k (suc j) sides xs e)
  where
    by : (b : Bool) → map (extension_at m) (places_among symbol sign k (suc j) xs) ≡ extensions_among symbol sign sides (suc j) xs → map (extension_at m) ((if b then record { clause = k; literal = j } ∷ [] else []) ++ places_among symbol sign k (suc j) xs) ≡ (if b then extension sides j ∷ [] else []) ++ extensions_among symbol sign sides (suc j) xs
    by true ih = ap₂ (λ ss ys. extension ss j ∷ ys) e ih
    by false ih = ih

index-from : (m : List MatrixClause) (symbol : ℕ) (sign : Sign) (k : ℕ) (cs : List MatrixClause) → drop k m ≡ cs → map (extension_at m) (clause_places symbol sign k cs) ≡ extensions symbol sign cs
index-from m symbol sign k [] e = refl
index-from m symbol sign k (c ∷ cs) e =
    let d = drop-next k m c cs e in
    map-append (extension_at m) (places_among symbol sign k 0 c.template.literals) (clause_places symbol sign (suc k) cs)
    ∙ ap₂ (λ xs ys. xs ++ ys) (index-among m symbol sign k 0 c.selection c.template.literals (ap selection_of d.0)) (index-from m symbol sign (suc k) cs d.1)

-- the index gives the extensions, in order
pub extensions-by_index : (m : List MatrixClause) (symbol : ℕ) (sign : Sign) → map (extension_at m) (places m symbol sign) ≡ extensions symbol sign m
extensions-by_index m symbol sign = index-from m symbol sign 0 m refl
