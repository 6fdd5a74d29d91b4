-- The next slots, from world to world and from symbol to symbol.
use Rattle.std.proofs.Common.{◌≡◌, ℕ, zero, suc, ◌+◌, ◌-◌, ◌^◌, ◌<◌, ◌≤◌, List, [], ◌∷◌, ◌++◌, length, drop, get_or, Bool, Some, sym, ◌∙◌, ap, add-one, arith, codes, decimal, slice_get, if◌then◌else◌}
use Rattle.std.proofs.lemmas.List.{length-map}
use Rattle.std.proofs.Math.ListN.{drop_of_length-le}
use Rattle.plain_laws.proofs.Places.{drop-there}
use Rattle.calculus.specs.Skolem.{is_function}
use Rattle.calculus.specs.StructureText.{symbol_head}
use Rattle.calculus.specs.Syntax.{Symbol}
use Rattle.finite_model.specs.declared.slot.Form.{Form}
use Rattle.finite_model.specs.declared.slot.Form.TheVariants.{Digits}
use Rattle.finite_model.specs.Slots.{Place, function_slot, function_slots, place_slot, predicate_slots, table_sizes, world_slots}

-- ---- symbols by their places

pub rest-at : {A : Type 0} (xs : List A) (i : ℕ) (x : A) → slice_get xs i ≡ Some x → drop i xs ≡ x ∷ drop (i + 1) xs
rest-at xs i x e = rw add-one (drop-there xs i x e)

pub size-at : (E : ℕ) (symbols : List Symbol) (sizes : List ℕ) (i : ℕ) (s : Symbol) → sizes ≡ table_sizes E symbols → slice_get symbols i ≡ Some s → get_or sizes i 0 ≡ E ^ s.arity
size-at E symbols sizes i s e h = ap (λ l. get_or l i 0) e ∙ at symbols i h
  where
    at : (ss : List Symbol) (i : ℕ) → slice_get ss i ≡ Some s → get_or (table_sizes E ss) i 0 ≡ E ^ s.arity
    at [] i h = absurd (cc)
    at (t ∷ ss) zero h = let same : t ≡ s = cc in ap (λ (x : Symbol). E ^ x.arity) same
    at (t ∷ ss) (suc i) h = at ss i h

pub sizes-count : (E : ℕ) (symbols : List Symbol) (sizes : List ℕ) → sizes ≡ table_sizes E symbols → length sizes ≡ length symbols
sizes-count E symbols sizes e = ap length e ∙ length-map symbols (λ (s : Symbol). E ^ s.arity)

-- ---- the slots of worlds

pub world-next : (word after : List ℕ) (f : Form) (w k : ℕ) → w < k → world_slots word after f w (k - w) ≡ place_slot (word ++ decimal (suc w) ++ after) f ∷ world_slots word after f (w + 1) (k - (w + 1))
world-next word after f w k h =
    let m : k - w ≡ suc (k - (w + 1)) = omega arith in
    let next : suc w ≡ w + 1 = omega arith in
    ap (world_slots word after f w) m ∙ ap (λ v. place_slot (word ++ decimal (suc w) ++ after) f ∷ world_slots word after f v (k - (w + 1))) next

pub worlds-end : (word after : List ℕ) (f : Form) (w k : ℕ) → k ≤ w → world_slots word after f w (k - w) ≡ []
worlds-end word after f w k h = let none : k - w ≡ 0 = omega arith in ap (world_slots word after f w) none

-- ---- the slots of symbols

pub functions-at : (E : ℕ) (symbols : List Symbol) (i : ℕ) (s : Symbol) (b : Bool) → slice_get symbols i ≡ Some s → b ≡ is_function s.class → function_slots E (drop i symbols) ≡ (if b then function_slot E s ∷ function_slots E (drop (i + 1) symbols) else function_slots E (drop (i + 1) symbols))
functions-at E symbols i s b h e = ap (function_slots E) (rest-at symbols i s h) ∙ ap (λ c. if c then function_slot E s ∷ function_slots E (drop (i + 1) symbols) else function_slots E (drop (i + 1) symbols)) (sym e)

pub functions-end : (E : ℕ) (symbols : List Symbol) (i : ℕ) → length symbols ≡ i → function_slots E (drop i symbols) ≡ []
functions-end E symbols i h = ap (function_slots E) (drop_of_length-le symbols (let k : length symbols ≤ i = omega arith in k))

abbrev pub rows_of : ℕ → Symbol → ℕ → List Place
rows_of count s W = world_slots (codes "predicate " ++ symbol_head s ++ codes " ") (codes " ") (Digits count) 0 W

pub predicates-at : (W E : ℕ) (symbols : List Symbol) (i : ℕ) (s : Symbol) (b : Bool) → slice_get symbols i ≡ Some s → b ≡ is_function s.class → predicate_slots W E (drop i symbols) ≡ (if b then predicate_slots W E (drop (i + 1) symbols) else rows_of (E ^ s.arity) s W ++ predicate_slots W E (drop (i + 1) symbols))
predicates-at W E symbols i s b h e = ap (predicate_slots W E) (rest-at symbols i s h) ∙ ap (λ c. if c then predicate_slots W E (drop (i + 1) symbols) else rows_of (E ^ s.arity) s W ++ predicate_slots W E (drop (i + 1) symbols)) (sym e)

pub predicates-end : (W E : ℕ) (symbols : List Symbol) (i : ℕ) → length symbols ≡ i → predicate_slots W E (drop i symbols) ≡ []
predicates-end W E symbols i h = ap (predicate_slots W E) (drop_of_length-le symbols (let k : length symbols ≤ i = omega arith in k))
