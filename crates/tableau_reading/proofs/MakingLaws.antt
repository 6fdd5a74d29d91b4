-- How what stands for cells is made, in loops over lists of cells for which it is made before.
use Rattle.std.proofs.Common.{◌≡◌, ◌⊎◌, ◌+◌, ◌<◌, ◌≤◌, ℕ, zero, suc, List, [], ◌∷◌, ◌++◌, length, map, set, take, refl, sym, ◌∙◌, ap, subst, inl, inr, Bool, true, false, Option, None, Some, IfOk, Result, slice_get, append-nil, arith}
use Rattle.std.specs.Prelude.{MatchOption}
use Rattle.std.specs.Bool.{⊤}
use Rattle.std.proofs.lemmas.List.{length-append, length-map, map-append}
use Rattle.std.proofs.lemmas.Option.{slice_get_within}
use Rattle.std.proofs.lemmas.Result.{IfOk-weaker}
use Rattle.store_theory.specs.Bindings.{EndsIn, IsEnd}
use Rattle.store_theory.specs.Stores.{CellValue, Store, EndsAt, Solution, Solves}
use Rattle.store_theory.proofs.BindingLaws.{ends-once}
use Rattle.store_theory.specs.Templates.{as_label, as_term, as_value}
use Rattle.store_theory.proofs.SolutionLaws.{ends-same}
use Rattle.search_theory.specs.States.{label_by, values_by}
use Rattle.term_store.specs.Shown.{head_of}
use Rattle.term_store.specs.declared.cell.Head.{Head}
use Rattle.formula_core.specs.GroundLists.{GroundList, IsGrown, no_list, the_g_term, the_mark, the_value, the_marks}
use Rattle.formula_core.specs.declared.ground.GroundTerm.{GroundTerm}
use Rattle.formula_core.specs.declared.ground.GroundMark.{GroundMark}
use Rattle.formula_core.specs.declared.ground.Value.{Value}
use Rattle.tableau_reading.specs.Grounds.{AreMade, AreSparesAt, IsBegun, IsGroundOf, IsReading, Needs, home_of, made_of, the_ground}
use Rattle.tableau_reading.specs.Waiting.{AreAllMade, IsMadeIn, IsUnmade}
use Rattle.term_store.specs.RefView.{the_place}
use Rattle.term_store.specs.declared.cell.Ref.{Ref}
use Rattle.formula_core.specs.declared.ground.GroundLabel.{GroundLabel}
use Rattle.tableau_reading.specs.declared.grounds.Ground.{Ground}
use Rattle.tableau_reading.specs.declared.grounds.Ground.TheVariants as ground
use Rattle.tableau_reading.specs.declared.grounds.Grounds.{Grounds}
use Rattle.tableau_reading.specs.declared.homes.Homes.{Homes}
use Rattle.tableau_reading.proofs.GroundLaws.{ground-grown, ground-there, label-more, mark-label, string-label, terms-more, values-more}
use Rattle.calculus.specs.Ground.{g_spare_mark}
use Rattle.formula_core.proofs.EntryLaws.{empty-marks}
use Rattle.formula_core.specs.declared.ground.GroundMark.TheVariants as mark
use Rattle.store_theory.specs.Stores.{a_mark, a_string}

-- ---- one more is made

pub set-at : {A : Type 0} (xs : List A) (i r : ℕ) (y z : A) → slice_get (set xs i y) r ≡ Some z → ((r ≡ i) × (y ≡ z)) ⊎ (slice_get xs r ≡ Some z)
set-at [] zero r y z e = inr e
set-at [] (suc i) r y z e = inr e
set-at (x ∷ xs) zero zero y z e = inl (refl, cc e)
set-at (x ∷ xs) zero (suc r) y z e = inr e
set-at (x ∷ xs) (suc i) zero y z e = inr e
set-at (x ∷ xs) (suc i) (suc r) y z e = elim (set-at xs i r y z e) [
  | inl p ↦ inl (ap suc p.0, p.1)
  | inr q ↦ inr q
]

pub set-length : {A : Type 0} (xs : List A) (i : ℕ) (y : A) → length (set xs i y) ≡ length xs
set-length [] zero y = refl
set-length [] (suc i) y = refl
set-length (x ∷ xs) zero y = refl
set-length (x ∷ xs) (suc i) y = ap suc (set-length xs i y)

-- what was built for the cell at the place is written there
pub reading-more : (s : Store) (h : Homes) (before after : Grounds) (top : ℕ) (g : Ground) → IsBegun s h before → IsGrown before.table after.table → after.asked ≡ before.asked → after.made.items ≡ set before.made.items top (Some g) → ((σ : Solution) → AreSparesAt s h σ → AreMade before.table σ before.made.items → IsGroundOf after.table g (σ top)) → IsBegun s h after
reading-more s h before after top g k grown asked is built = record {
  most = grown.most;
  all = ap length is ∙ set-length before.made.items top (Some g) ∙ k.all;
  marked = ap (λ v. length v.items) asked ∙ k.marked;
  read = λ σ sp r x e. (elim (set-at before.made.items top r (Some g) (Some x) (sym (ap (λ xs. slice_get xs r) is) ∙ e)) [
    | inl p ↦ (let q : g ≡ x = let z : Some g ≡ Some x = p.1 in cc z in subst (λ y. IsGroundOf after.table y (σ r)) q (subst (λ n. IsGroundOf after.table g (σ n)) (sym p.0) (built σ sp (k.read σ sp))))
    | inr q ↦ ground-grown before.table after.table grown x (σ r) (k.read σ sp r x q)
  ]);
}

pub reading-noted : (s : Store) (h : Homes) (before mid after : Grounds) (top : ℕ) (g : Ground) → IsBegun s h before → IsGrown before.table mid.table → mid.made ≡ before.made → after.asked ≡ before.asked → after.table ≡ mid.table → after.made.items ≡ set mid.made.items top (Some g) → ((σ : Solution) → AreSparesAt s h σ → AreMade before.table σ before.made.items → IsGroundOf mid.table g (σ top)) → IsBegun s h after
reading-noted s h before mid after top g k grown same asked table is built = reading-more s h before after top g k
    (subst (IsGrown before.table) (sym table) grown) asked
    (is ∙ ap (λ v. set v.items top (Some g)) same)
    (λ σ sp am. subst (λ ls. IsGroundOf ls g (σ top)) (sym table) (built σ sp am))

-- a table that grows alone
pub reading-grown : (s : Store) (h : Homes) (before after : Grounds) → IsReading s h before → IsGrown before.table after.table → after.made ≡ before.made → after.asked ≡ before.asked → IsReading s h after
reading-grown s h before after k grown same asked = record {
  most = grown.most;
  all = ap (λ v. length v.items) same ∙ k.all;
  marked = ap (λ v. length v.items) asked ∙ k.marked;
  read = λ σ sp r x e. ground-grown before.table after.table grown x (σ r) (k.read σ sp r x (sym (ap (λ v. slice_get v.items r) same) ∙ e));
  settled = λ r a. subst (λ v. IsMadeIn v.items r) (sym same) (k.settled r (sym (ap (λ v. slice_get v.items r) asked) ∙ a));
}

-- nothing is made
abbrev pub All-none : List (Option Ground) → Type 0
All-none [] = ⊤
All-none (x ∷ made) = (x ≡ None) × All-none made

pub none-more : (made : List (Option Ground)) → All-none made → All-none (made ++ None ∷ [])
none-more [] h = (refl, tt)
none-more (x ∷ made) h = (h.0, none-more made h.1)

none-at : (made : List (Option Ground)) (r : ℕ) (g : Ground) → All-none made → slice_get made r ≡ Some (Some g) → ⊥
none-at [] r g h e = cc e
none-at (x ∷ made) zero g h e = let q : x ≡ Some g = cc e in let z : None ≡ Some g = sym h.0 ∙ q in cc z
none-at (x ∷ made) (suc r) g h e = none-at made r g h.1 e

pub nothing-made : (ls : List GroundList) (σ : Solution) (made : List (Option Ground)) → All-none made → AreMade ls σ made
nothing-made ls σ made h r g e = absurd (none-at made r g h e)

abbrev pub NoneTo : ℕ → List (Option Ground) → Type 0
NoneTo i made = All-none made × (length made ≡ i)

pub none-first : (made : List (Option Ground)) → made ≡ [] → NoneTo 0 made
none-first made e = subst (NoneTo 0) (sym e) (tt, refl)

pub none-step : (i : ℕ) (made before : List (Option Ground)) → made ≡ before ++ None ∷ [] → NoneTo i before → NoneTo (i + 1) made
none-step i made before e h = subst (NoneTo (i + 1)) (sym e) (none-more before h.0, length-append before (None ∷ []) ∙ ap (λ n. n + 1) h.1)

-- nothing is asked for
abbrev pub All-new : List Bool → Type 0
All-new [] = ⊤
All-new (x ∷ asked) = (x ≡ false) × All-new asked

new-more : (asked : List Bool) → All-new asked → All-new (asked ++ false ∷ [])
new-more [] h = (refl, tt)
new-more (x ∷ asked) h = (h.0, new-more asked h.1)

new-at : (asked : List Bool) (r : ℕ) → All-new asked → slice_get asked r ≡ Some true → ⊥
new-at [] r h e = let z : None ≡ Some true = e in cc z
new-at (x ∷ asked) zero h e = let q : x ≡ true = cc e in let z : false ≡ true = sym h.0 ∙ q in cc z
new-at (x ∷ asked) (suc r) h e = new-at asked r h.1 e

abbrev pub NewTo : ℕ → List Bool → Type 0
NewTo i asked = All-new asked × (length asked ≡ i)

pub new-first : (asked : List Bool) → asked ≡ [] → NewTo 0 asked
new-first asked e = subst (NewTo 0) (sym e) (tt, refl)

pub new-step : (i : ℕ) (asked before : List Bool) → asked ≡ before ++ false ∷ [] → NewTo i before → NewTo (i + 1) asked
new-step i asked before e h = subst (NewTo (i + 1)) (sym e) (new-more before h.0, length-append before (false ∷ []) ∙ ap (λ n. n + 1) h.1)

pub reading-none : (s : Store) (h : Homes) (g : Grounds) (i n : ℕ) → g.table ≡ [] → NoneTo i g.made.items → NewTo i g.asked.items → i ≡ n → n ≡ length s.cells → IsReading s h g
reading-none s h g i n table none new e l = record {
  most = subst (λ ls. length ls ≤ no_list) (sym table) (omega arith);
  all = none.1 ∙ e ∙ l;
  marked = new.1 ∙ e ∙ l;
  read = λ σ sp. nothing-made g.table σ g.made.items none.0;
  settled = λ r a. absurd (new-at g.asked.items r new.0 a);
}

-- what stands at the end of the bindings
pub end-made : (s : Store) (h : Homes) (g : Grounds) (r end : ℕ) (x : Ground) (o : Option Ground) (σ : Solution) → IsReading s h g → EndsAt s r end → o ≡ Some x → MatchOption o (¬ (IsMadeIn g.made.items end)) (λ y. slice_get g.made.items end ≡ Some (Some y)) → AreSparesAt s h σ → IsGroundOf g.table x (σ r)
end-made s h g r end x o σ k ends e at sp =
    subst (IsGroundOf g.table x) (sym (ends-same s σ r end sp.solves ends)) (k.read σ sp end x (subst (λ z. MatchOption z (¬ (IsMadeIn g.made.items end)) (λ y. slice_get g.made.items end ≡ Some (Some y))) e at))

-- what is made stands there
pub end-there : (g : Grounds) (end : ℕ) (o : Option Ground) → o ≡ None → MatchOption o (¬ (IsMadeIn g.made.items end)) (λ y. slice_get g.made.items end ≡ Some (Some y)) → IsMadeIn g.made.items end → ⊥
end-there g end o e at m = subst (λ z. MatchOption z (¬ (IsMadeIn g.made.items end)) (λ y. slice_get g.made.items end ≡ Some (Some y))) e at m

pub made-at : (s : Store) (ls : List GroundList) (made : List (Option Ground)) (refs : List ℕ) (i r end : ℕ) (x : Ground) → slice_get refs i ≡ Some r → EndsAt s r end → slice_get made end ≡ Some (Some x) → (σ : Solution) → Solves s σ → AreMade ls σ made → (k : ℕ) → slice_get refs i ≡ Some k → IsGroundOf ls x (σ k)
made-at s ls made refs i r end x at ends e σ t h k f =
    let same : r ≡ k = let z : Some r ≡ Some k = sym at ∙ f in cc z in
    subst (λ n. IsGroundOf ls x (σ n)) same (subst (IsGroundOf ls x) (sym (ends-same s σ r end t ends)) (h end x e))

abbrev pub TermsTo : Store → List GroundList → List (Option Ground) → List ℕ → ℕ → List GroundTerm → Type 0
TermsTo s ls made refs i items = (σ : Solution) → Solves s σ → AreMade ls σ made → map (the_g_term ls) items ≡ map (λ k. as_term (σ k)) (take i refs)

abbrev pub ValuesTo : Store → List GroundList → List (Option Ground) → List ℕ → ℕ → List Value → Type 0
ValuesTo s ls made refs i items = (σ : Solution) → Solves s σ → AreMade ls σ made → map (the_value ls) items ≡ values_by σ (take i refs)

abbrev pub MarksTo : Store → List GroundList → List (Option Ground) → List ℕ → ℕ → List GroundMark → Type 0
MarksTo s ls made refs i items = (σ : Solution) → Solves s σ → AreMade ls σ made → map (the_mark ls) items ≡ label_by σ (take i refs)

-- what is made for the cell at a place
abbrev pub IsMadeAt : Store → List GroundList → List (Option Ground) → List ℕ → ℕ → Ground → Type 0
IsMadeAt s ls made refs i g = (σ : Solution) → Solves s σ → AreMade ls σ made → (k : ℕ) → slice_get refs i ≡ Some k → IsGroundOf ls g (σ k)

pub made-for : (s : Store) (ls : List GroundList) (made : List (Option Ground)) (refs : List ℕ) (i r end : ℕ) (o : Option Ground) (x : Ground) → slice_get refs i ≡ Some r → EndsAt s r end → o ≡ Some x → MatchOption o (¬ (IsMadeIn made end)) (λ g. slice_get made end ≡ Some (Some g)) → IsMadeAt s ls made refs i x
made-for s ls made refs i r end o x at ends e h = made-at s ls made refs i r end x at ends (subst (λ z. MatchOption z (¬ (IsMadeIn made end)) (λ g. slice_get made end ≡ Some (Some g))) e h)

-- what a ground value is taken for
told : {X : Type 0} (of : CellValue → X) (x : X) (s : Store) (ls : List GroundList) (made : List (Option Ground)) (refs : List ℕ) (i : ℕ) (g : Ground) → x ≡ of (the_ground ls g) → IsMadeAt s ls made refs i g
    → (σ : Solution) → Solves s σ → AreMade ls σ made → (k : ℕ) → slice_get refs i ≡ Some k → x ≡ of (σ k)
told of x s ls made refs i g h m σ sv am k at = h ∙ ap of (m σ sv am k at).value

-- nothing is made for the end
pub unmade-there : (s : Store) (made : List (Option Ground)) (refs : List ℕ) (i r end : ℕ) (o : Option Ground) → slice_get refs i ≡ Some r → EndsAt s r end → o ≡ None → MatchOption o (¬ (IsMadeIn made end)) (λ g. slice_get made end ≡ Some (Some g)) → IsUnmade s made refs end
unmade-there s made refs i r end o at ends e h = record { place = i; cell = r; there = at; ends = ends; unmade = subst (λ z. MatchOption z (¬ (IsMadeIn made end)) (λ g. slice_get made end ≡ Some (Some g))) e h }

-- something is
pub made-there : (s : Store) (made : List (Option Ground)) (refs : List ℕ) (i r end : ℕ) (o : Option Ground) (x : Ground) → slice_get refs i ≡ Some r → EndsAt s r end → o ≡ Some x → MatchOption o (¬ (IsMadeIn made end)) (λ g. slice_get made end ≡ Some (Some g))
    → (k e : ℕ) → slice_get refs i ≡ Some k → EndsAt s k e → IsMadeIn made e
made-there s made refs i r end o x at ends e h k f q w =
    let same : r ≡ k = let z : Some r ≡ Some k = sym at ∙ q in cc z in
    let last : end ≡ f = ends-once s k end f (subst (λ n. EndsAt s n end) same ends) w in
    let there : slice_get made end ≡ Some (Some x) = subst (λ z. MatchOption z (¬ (IsMadeIn made end)) (λ g. slice_get made end ≡ Some (Some g))) e h in
    subst (IsMadeIn made) last (x, there)

-- the end of the cell at the place
pub made-ends : (s : Store) (made : List (Option Ground)) (refs : List ℕ) (i r : ℕ) → slice_get refs i ≡ Some r → ((e : ℕ) → EndsAt s r e → IsMadeIn made e) → (k e : ℕ) → slice_get refs i ≡ Some k → EndsAt s k e → IsMadeIn made e
made-ends s made refs i r at h k e q w = let same : k ≡ r = let z : Some k ≡ Some r = sym q ∙ at in cc z in h e (subst (λ n. EndsAt s n e) same w)

-- those at the first places are made
abbrev pub AreMadeTo : Store → List (Option Ground) → List ℕ → ℕ → Type 0
AreMadeTo s made refs n = (i k e : ℕ) → i < n → slice_get refs i ≡ Some k → EndsAt s k e → IsMadeIn made e

pub none-made_to : (s : Store) (made : List (Option Ground)) (refs : List ℕ) → AreMadeTo s made refs 0
none-made_to s made refs i k e l at ends = absurd (omega (arith, l))

pub made-to : (s : Store) (made : List (Option Ground)) (refs : List ℕ) (n : ℕ) → AreMadeTo s made refs n → ((k e : ℕ) → slice_get refs n ≡ Some k → EndsAt s k e → IsMadeIn made e) → AreMadeTo s made refs (n + 1)
made-to s made refs n h one i k e l at ends = elim (split i n (omega (arith, l))) [
  | inl p ↦ h i k e p at ends
  | inr q ↦ one k e (ap (slice_get refs) (sym q) ∙ at) ends
]
  where
    split : (i n : ℕ) → i ≤ n → (i < n) ⊎ (i ≡ n)
    split zero zero l = inr refl
    split zero (suc n) l = inl (omega arith)
    split (suc i) zero l = absurd (omega (arith, l))
    split (suc i) (suc n) l = elim (split i n (omega (arith, l))) [
      | inl p ↦ inl (omega (arith, p))
      | inr q ↦ inr (ap suc q)
    ]

pub all-made : (s : Store) (made : List (Option Ground)) (refs : List Ref) (n : ℕ) → length refs ≤ n → AreMadeTo s made (map the_place refs) n → AreAllMade s made (map the_place refs)
all-made s made refs n l h i k e at ends = h i k e (let w = slice_get_within (map the_place refs) i k at in let m = length-map refs the_place in omega (arith, l, w, m)) at ends

-- what is made stays so
pub made-still : (s : Store) (made more : List (Option Ground)) (refs : List ℕ) (n : ℕ) → AreMadeTo s made refs n → ((r : ℕ) → IsMadeIn made r → IsMadeIn more r) → AreMadeTo s more refs n
made-still s made more refs n h keep i k e l at ends = keep e (h i k e l at ends)

place-of : (refs : List Ref) (i : ℕ) → i < length refs → (k : ℕ) × (slice_get (map the_place refs) i ≡ Some k)
place-of [] i l = absurd (omega (arith, l))
place-of (r ∷ refs) zero l = (r.0, refl)
place-of (r ∷ refs) (suc i) l = place-of refs i (omega (arith, l))

pub terms-step : (s : Store) (ls : List GroundList) (made : List (Option Ground)) (refs : List Ref) (i : ℕ) (items before : List GroundTerm) (t : GroundTerm) (g : Ground) → items ≡ before ++ t ∷ [] → i < length refs → the_g_term ls t ≡ as_term (the_ground ls g) → IsMadeAt s ls made (map the_place refs) i g → TermsTo s ls made (map the_place refs) i before → TermsTo s ls made (map the_place refs) (i + 1) items
terms-step s ls made refs i items before t g q l e m h σ sv am =
    let (k, at) = place-of refs i l in
    ap (map (the_g_term ls)) q ∙ terms-more ls σ (map the_place refs) i k before t at (told as_term (the_g_term ls t) s ls made (map the_place refs) i g e m σ sv am k at) (h σ sv am)

-- what is made, as marks
pub made-mark : (s : Store) (ls : List GroundList) (made : List (Option Ground)) (refs : List ℕ) (i : ℕ) (items before : List GroundMark) (m : GroundMark) (g : Ground) → items ≡ before ++ m ∷ [] → g ≡ ground.Mark m → IsMadeAt s ls made refs i g → (σ : Solution) → Solves s σ → AreMade ls σ made → (k : ℕ) → slice_get refs i ≡ Some k → map (the_mark ls) items ≡ map (the_mark ls) before ++ as_label (σ k)
made-mark s ls made refs i items before m g q e h σ sv am k at =
    ap (map (the_mark ls)) q ∙ map-append (the_mark ls) before (m ∷ [])
    ∙ ap (λ w. map (the_mark ls) before ++ w) (mark-label ls m (σ k) (subst (IsMadeAt s ls made refs i) e h σ sv am k at))

pub made-marks : (s : Store) (ls : List GroundList) (made : List (Option Ground)) (refs : List ℕ) (i : ℕ) (items before more : List GroundMark) (w : GroundLabel) (g : Ground) → items ≡ before ++ more → map (the_mark ls) more ≡ the_marks ls w → g ≡ ground.Marks w → IsMadeAt s ls made refs i g → (σ : Solution) → Solves s σ → AreMade ls σ made → (k : ℕ) → slice_get refs i ≡ Some k → map (the_mark ls) items ≡ map (the_mark ls) before ++ as_label (σ k)
made-marks s ls made refs i items before more w g q n e h σ sv am k at =
    ap (map (the_mark ls)) q ∙ map-append (the_mark ls) before more
    ∙ ap (λ v. map (the_mark ls) before ++ v) (string-label ls w more (σ k) n (subst (IsMadeAt s ls made refs i) e h σ sv am k at))

-- a term has no marks
pub made-no_marks : (s : Store) (ls : List GroundList) (made : List (Option Ground)) (refs : List ℕ) (i : ℕ) (items : List GroundMark) (t : GroundTerm) (g : Ground) → g ≡ ground.Term t → IsMadeAt s ls made refs i g → (σ : Solution) → Solves s σ → AreMade ls σ made → (k : ℕ) → slice_get refs i ≡ Some k → map (the_mark ls) items ≡ map (the_mark ls) items ++ as_label (σ k)
made-no_marks s ls made refs i items t g e h σ sv am k at =
    sym (append-nil (map (the_mark ls) items))
    ∙ ap (λ w. map (the_mark ls) items ++ as_label w) (subst (IsMadeAt s ls made refs i) e h σ sv am k at).value

-- one more is gone through
pub values-step : (s : Store) (ls : List GroundList) (made : List (Option Ground)) (refs : List Ref) (i : ℕ) (items before : List Value) (v : Value) (g : Ground) → items ≡ before ++ v ∷ [] → i < length refs → the_value ls v ≡ as_value (the_ground ls g) → IsMadeAt s ls made (map the_place refs) i g → ValuesTo s ls made (map the_place refs) i before → ValuesTo s ls made (map the_place refs) (i + 1) items
values-step s ls made refs i items before v g q l e m h σ sv am =
    let (k, at) = place-of refs i l in
    ap (map (the_value ls)) q ∙ values-more ls σ (map the_place refs) i k before v at (told as_value (the_value ls v) s ls made (map the_place refs) i g e m σ sv am k at) (h σ sv am)

pub marks-step : (s : Store) (ls : List GroundList) (made : List (Option Ground)) (refs : List Ref) (i : ℕ) (items before : List GroundMark) → i < length refs → ((σ : Solution) → Solves s σ → AreMade ls σ made → (k : ℕ) → slice_get (map the_place refs) i ≡ Some k → map (the_mark ls) items ≡ map (the_mark ls) before ++ as_label (σ k)) → MarksTo s ls made (map the_place refs) i before → MarksTo s ls made (map the_place refs) (i + 1) items
marks-step s ls made refs i items before l g h σ sv am =
    let (k, at) = place-of refs i l in
    g σ sv am k at ∙ label-more σ (map the_place refs) i k _ at (h σ sv am)

-- all were gone through
take-places : (refs : List Ref) (i : ℕ) → length refs ≤ i → take i (map the_place refs) ≡ map the_place refs
take-places [] zero l = refl
take-places [] (suc i) l = refl
take-places (r ∷ refs) zero l = absurd (omega (arith, l))
take-places (r ∷ refs) (suc i) l = ap (λ xs. r.0 ∷ xs) (take-places refs i (omega (arith, l)))

pub terms-end : (s : Store) (ls : List GroundList) (made : List (Option Ground)) (refs : List Ref) (i : ℕ) (items : List GroundTerm) → length refs ≤ i → TermsTo s ls made (map the_place refs) i items → (σ : Solution) → Solves s σ → AreMade ls σ made → map (the_g_term ls) items ≡ map (λ k. as_term (σ k)) (map the_place refs)
terms-end s ls made refs i items l h σ sv am = h σ sv am ∙ ap (map (λ k. as_term (σ k))) (take-places refs i l)

pub values-end : (s : Store) (ls : List GroundList) (made : List (Option Ground)) (refs : List Ref) (i : ℕ) (items : List Value) → length refs ≤ i → ValuesTo s ls made (map the_place refs) i items → (σ : Solution) → Solves s σ → AreMade ls σ made → map (the_value ls) items ≡ values_by σ (map the_place refs)
values-end s ls made refs i items l h σ sv am = h σ sv am ∙ ap (values_by σ) (take-places refs i l)

pub marks-end : (s : Store) (ls : List GroundList) (made : List (Option Ground)) (refs : List Ref) (i : ℕ) (items : List GroundMark) → length refs ≤ i → MarksTo s ls made (map the_place refs) i items → (σ : Solution) → Solves s σ → AreMade ls σ made → map (the_mark ls) items ≡ label_by σ (map the_place refs)
marks-end s ls made refs i items l h σ sv am = h σ sv am ∙ ap (label_by σ) (take-places refs i l)

-- ---- what is built

-- what is built for a head, for any solution, is the value of the cell for one by own spares
pub built-there : (s : Store) (h : Homes) (v : ℕ) (rs : List ℕ) (x y : Head) (old new : List GroundList) (made : List (Option Ground)) {E : Type 0} (result : Result Ground E) → IsEnd s v → Needs s h v rs → EndsIn s v (λ d. head_of d ≡ y) → y ≡ x → IfOk result (λ g. (σ : Solution) → Solves s σ → AreMade old σ made → IsGroundOf new g (made_of (home_of h v) σ v x rs)) → IfOk result (λ g. (σ : Solution) → AreSparesAt s h σ → AreMade old σ made → IsGroundOf new g (σ v))
built-there s h v rs x y old new made result end n ends e k = IfOk-weaker result _ _ (λ g f σ sp am. ground-there s h v rs σ x new g end n (subst (λ z. EndsIn s v (λ d. head_of d ≡ z)) e ends) sp (f σ sp.solves am)) k

pub spare-mark_made : (ls : List GroundList) (v : ℕ) → IsGroundOf ls (ground.Mark (mark.Spare v)) (a_mark (g_spare_mark v))
spare-mark_made ls v = record { normal = refl; value = refl }

-- beyond the table there is the empty list
pub empty-made : (ls : List GroundList) (n : GroundLabel) → length ls ≤ no_list → n.0 ≡ no_list → IsGroundOf ls (ground.Marks n) (a_string [])
empty-made ls n l z = record { normal = λ e. z; value = ap a_string (empty-marks ls n l z) }
