-- The turns of a signed formula stand within its positions, and those on atoms are as many as the literals that it gives.
use Rattle.std.proofs.Common.{◌≡◌, ℕ, suc, ◌+◌, ◌≤◌, ◌<◌, arith, List, [], ◌∷◌, ◌++◌, length, length-append, Bool, true, false, refl, sym, ◌∙◌, ap, inl, inr}
use Rattle.std.specs.Option.{option_map_or}
use Rattle.calculus.specs.declared.sign.Sign.{Sign}
use Rattle.calculus.specs.declared.setting.Logic.{Logic}
use Rattle.calculus.specs.declared.kind.Shape.{Shape}
use Rattle.calculus.specs.declared.kind.Shape.TheVariants.{Alpha, Beta, Gamma, Delta, Literal}
use Rattle.calculus.specs.Syntax.{Formula, atom, neg, conj, disj, imp, all, ex, box, dia, Problem}
use Rattle.calculus.specs.Ground.{g_eigen, term, values_tree}
use Rattle.calculus.specs.Kinds.{Signed, shape_of, components}
use Rattle.calculus.specs.Positions.{size, Node, node}
use Rattle.calculus.specs.Skolem.{last_node}
use Rattle.calculus.specs.Instances.{Spot, down_by, spot_inside, after_string, after_character, Turn, Share, Gives, Shaped, by_plain, by_nu, by_pi, is_literal, by_only, by_left, by_right, by_both, by_gamma, by_delta}
use Rattle.conversion_theory.specs.Leading.{is_literal_shape, is_literal_position, literals_among}
use Rattle.calculus.proofs.Members.{Among, among-append}
use Rattle.calculus.proofs.CasesLaws.{one≢two}
use Rattle.calculus.proofs.SpotLaws.{last_node-append}
use Rattle.conversion_theory.proofs.HitLaws.{Moves, plain, by_string, by_character}
use Rattle.conversion_theory.proofs.PlaceLaws.{Stood, turned, at_logic, moves-position, only-stood, first-stood, second-stood, inside-gamma-stood, inside-delta-stood, only-is, two-are}
use Rattle.conversion_theory.proofs.AgendaLaws.{stood-way}
use Rattle.calculus.proofs.PositionLaws.{size-pos}

-- a component and the positions of the whole
pub size-only : (s : Sign) (f : Formula) (a : Signed) → components s f ≡ a ∷ [] → (shape_of s f ≡ Literal → ⊥) → size f ≡ suc (size a.formula)
size-only s (atom q ts) a e n = absurd (n refl)
size-only s (neg g) a e n = ap (λ (x : Signed). suc (size x.formula)) (only-is e)
size-only s (conj g h) a e n = absurd (one≢two (sym e))
size-only s (disj g h) a e n = absurd (one≢two (sym e))
size-only s (imp g h) a e n = absurd (one≢two (sym e))
size-only s (all g) a e n = ap (λ (x : Signed). suc (size x.formula)) (only-is e)
size-only s (ex g) a e n = ap (λ (x : Signed). suc (size x.formula)) (only-is e)
size-only s (box g) a e n = ap (λ (x : Signed). suc (size x.formula)) (only-is e)
size-only s (dia g) a e n = ap (λ (x : Signed). suc (size x.formula)) (only-is e)

two-sizes : {x y a b : Signed} → (x ≡ a) × (y ≡ b) → suc (size x.formula + size y.formula) ≡ suc (size a.formula + size b.formula)
two-sizes e = λ i. suc (size (e.0 i).formula + size (e.1 i).formula)

pub size-two : (s : Sign) (f : Formula) (a b : Signed) → components s f ≡ a ∷ b ∷ [] → size f ≡ suc (size a.formula + size b.formula)
size-two s (atom q ts) a b e = absurd (one≢two e)
size-two s (neg g) a b e = absurd (one≢two e)
size-two s (conj g h) a b e = two-sizes (two-are e)
size-two s (disj g h) a b e = two-sizes (two-are e)
size-two s (imp g h) a b e = two-sizes (two-are e)
size-two s (all g) a b e = absurd (one≢two e)
size-two s (ex g) a b e = absurd (one≢two e)
size-two s (box g) a b e = absurd (one≢two e)
size-two s (dia g) a b e = absurd (one≢two e)

-- from p on, n positions
abbrev pub IsWithin : ℕ → ℕ → Turn → Type 0
IsWithin p n z = (p ≤ z.position) × (z.position < p + n)

alpha≢literal : (s : Sign) (f : Formula) → shape_of s f ≡ Alpha → shape_of s f ≡ Literal → ⊥
alpha≢literal s f e k = let x : Alpha ≡ Literal = sym e ∙ k in cc

gamma≢literal : (s : Sign) (f : Formula) → shape_of s f ≡ Gamma → shape_of s f ≡ Literal → ⊥
gamma≢literal s f e k = let x : Gamma ≡ Literal = sym e ∙ k in cc

delta≢literal : (s : Sign) (f : Formula) → shape_of s f ≡ Delta → shape_of s f ≡ Literal → ⊥
delta≢literal s f e k = let x : Delta ≡ Literal = sym e ∙ k in cc

own_within : (p n : ℕ) (y z : Turn) → y.position ≡ p → y ≡ z → 0 < n → IsWithin p n z
own_within p n y z e same lt = let q = ap (λ (x : Turn). x.position) same in (omega arith, omega arith)

wider : (p q m n : ℕ) (z : Turn) → p ≤ q → q + m ≤ p + n → IsWithin q m z → IsWithin p n z
wider p q m n z le up h = let low = h.0 in let high = h.1 in (omega arith, omega arith)

mutual
  pub spans : (l : Logic) (c : Spot) (s : Sign) (f : Formula) (x : Share) → Gives l c s f x → (z : Turn) → Among x.turns z → IsWithin c.position (size f) z
  spans l c s f x (by_plain e g) z h = spans_shaped l c s f x g z h
  spans l c s f x (by_nu {x = y} w e q g) z h = spans_shaped l (after_string l w c) s f y g z h
  spans l c s f x (by_pi {x = y} e g) z h = spans_shaped l (after_character l c) s f y g z h

  spans_shaped : (l : Logic) (d : Spot) (s : Sign) (f : Formula) (x : Share) → Shaped l d s f x → (z : Turn) → Among x.turns z → IsWithin d.position (size f) z
  spans_shaped l d s f x is_literal z (inl i) = own_within d.position 1 _ z refl i (omega arith)
  spans_shaped l d s f x is_literal z (inr i) = elim i [ ]
  spans_shaped l d s f x (by_only {x = y} {a = a} e q g) z (inl i) = own_within d.position (size f) _ z refl i (size-pos f)
  spans_shaped l d s f x (by_only {x = y} {a = a} e q g) z (inr i) = let n = size-only s f a q (alpha≢literal s f e) in wider d.position (d.position + 1) (size a.formula) (size f) z (omega arith) (omega arith) (spans l (down_by 1 d) a.sign a.formula y g z i)
  spans_shaped l d s f x (by_left {x = y} {a = a} {b = b} e q g) z (inl i) = own_within d.position (size f) _ z refl i (size-pos f)
  spans_shaped l d s f x (by_left {x = y} {a = a} {b = b} e q g) z (inr i) = let n = size-two s f a b q in wider d.position (d.position + 1) (size a.formula) (size f) z (omega arith) (omega arith) (spans l (down_by 1 d) a.sign a.formula y g z i)
  spans_shaped l d s f x (by_right {x = y} {a = a} {b = b} e q g) z (inl i) = own_within d.position (size f) _ z refl i (size-pos f)
  spans_shaped l d s f x (by_right {x = y} {a = a} {b = b} e q g) z (inr i) = let n = size-two s f a b q in wider d.position (d.position + suc (size a.formula)) (size b.formula) (size f) z (omega arith) (omega arith) (spans l (down_by (suc (size a.formula)) d) b.sign b.formula y g z i)
  spans_shaped l d s f x (by_both {x = y} {y = u} {a = a} {b = b} e q g j) z (inl i) = own_within d.position (size f) _ z refl i (size-pos f)
  spans_shaped l d s f x (by_both {x = y} {y = u} {a = a} {b = b} e q g j) z (inr i) =
      let n = size-two s f a b q in
      elim (among-append y.turns u.turns z i) [
        | inl k ↦ wider d.position (d.position + 1) (size a.formula) (size f) z (omega arith) (omega arith) (spans l (down_by 1 d) a.sign a.formula y g z k)
        | inr k ↦ wider d.position (d.position + suc (size a.formula)) (size b.formula) (size f) z (omega arith) (omega arith) (spans l (down_by (suc (size a.formula)) d) b.sign b.formula u j z k)
      ]
  spans_shaped l d s f x (by_gamma {x = y} {a = a} t e q g) z (inl i) = own_within d.position (size f) _ z refl i (size-pos f)
  spans_shaped l d s f x (by_gamma {x = y} {a = a} t e q g) z (inr i) = let n = size-only s f a q (gamma≢literal s f e) in wider d.position (d.position + 1) (size a.formula) (size f) z (omega arith) (omega arith) (spans l (spot_inside t (d.taken ++ term t ∷ []) d) a.sign a.formula y g z i)
  spans_shaped l d s f x (by_delta {x = y} {a = a} e q g) z (inl i) = own_within d.position (size f) _ z refl i (size-pos f)
  spans_shaped l d s f x (by_delta {x = y} {a = a} e q g) z (inr i) = let n = size-only s f a q (delta≢literal s f e) in wider d.position (d.position + 1) (size a.formula) (size f) z (omega arith) (omega arith) (spans l (spot_inside (g_eigen d.position (values_tree d.taken)) d.taken d) a.sign a.formula y g z i)

-- ---- the literals

pub literal-place : (P : Problem) (before : List Node) (c : Spot) (s : Sign) (f : Formula) (h : Shape) → Stood P before c s f → shape_of s f ≡ h → is_literal_position P c.position ≡ is_literal_shape h
literal-place P before c s f h stood e =
    ap (λ ns. option_map_or (λ (n : Node). is_literal_shape (shape_of n.sign n.formula)) (last_node ns) false) (stood-way P before c s f stood)
    ∙ ap (λ o. option_map_or (λ (n : Node). is_literal_shape (shape_of n.sign n.formula)) o false) (last_node-append before (node c.position s f))
    ∙ ap is_literal_shape e

pub literals-append : (P : Problem) (xs ys : List Turn) → literals_among P (xs ++ ys) ≡ literals_among P xs + literals_among P ys
literals-append P [] ys = omega arith
literals-append P (x ∷ xs) ys = let r = literals-append P xs ys in omega arith

-- a turn at a spot that is no literal's adds nothing
no_literal : (P : Problem) (y : Turn) (ts : List Turn) (n : ℕ) → is_literal_position P y.position ≡ false → n ≡ literals_among P ts → n ≡ literals_among P (y ∷ ts)
no_literal P y ts n e h = rw e (let zero_more : literals_among P ts ≡ 0 + literals_among P ts = omega arith in h ∙ zero_more)

one_literal : (P : Problem) (y : Turn) → is_literal_position P y.position ≡ true → 1 ≡ literals_among P (y ∷ [])
one_literal P y e = rw e refl

at_place : (P : Problem) (p q : ℕ) (b : Bool) → q ≡ p → is_literal_position P p ≡ b → is_literal_position P q ≡ b
at_place P p q b e h = ap (is_literal_position P) e ∙ h

mutual
  pub counts : (l : Logic) (P : Problem) → P.setting.logic ≡ l → (before : List Node) (c : Spot) (s : Sign) (f : Formula) (x : Share) → Gives l c s f x → Stood P before c s f → length x.literals ≡ literals_among P x.turns
  counts l P same before c s f x (by_plain e g) h = counts_shaped l P same before c c s f x g h (plain e)
  counts l P same before c s f x (by_nu {x = y} w e q g) h = counts_shaped l P same before c (after_string l w c) s f y g h (by_string w e q)
  counts l P same before c s f x (by_pi {x = y} e g) h = counts_shaped l P same before c (after_character l c) s f y g h (by_character e)

  counts_shaped : (l : Logic) (P : Problem) → P.setting.logic ≡ l → (before : List Node) (c d : Spot) (s : Sign) (f : Formula) (x : Share) → Shaped l d s f x → Stood P before c s f → Moves l s f c d → length x.literals ≡ literals_among P x.turns
  counts_shaped l P same before c d s f x (is_literal {p = p} {ts = ts}) h m = one_literal P (record { position = d.position; values = d.taken }) (at_place P c.position d.position true (moves-position l s f c d m) (literal-place P before c s f Literal h refl))
  counts_shaped l P same before c d s f x (by_only {x = y} {a = a} e q g) h m = no_literal P (record { position = d.position; values = d.taken }) y.turns (length y.literals) (at_place P c.position d.position false (moves-position l s f c d m) (literal-place P before c s f Alpha h e)) (counts l P same (before ++ node d.position s f ∷ []) (down_by 1 d) a.sign a.formula y g (only-stood P before d s f a (turned P before c d s f h (at_logic l P same s f c d m)) e q))
  counts_shaped l P same before c d s f x (by_left {x = y} {a = a} {b = b} e q g) h m = no_literal P (record { position = d.position; values = d.taken }) y.turns (length y.literals) (at_place P c.position d.position false (moves-position l s f c d m) (literal-place P before c s f Alpha h e)) (counts l P same (before ++ node d.position s f ∷ []) (down_by 1 d) a.sign a.formula y g (first-stood P before d s f Alpha a b (turned P before c d s f h (at_logic l P same s f c d m)) refl (λ rest. refl) e q))
  counts_shaped l P same before c d s f x (by_right {x = y} {a = a} {b = b} e q g) h m = no_literal P (record { position = d.position; values = d.taken }) y.turns (length y.literals) (at_place P c.position d.position false (moves-position l s f c d m) (literal-place P before c s f Alpha h e)) (counts l P same (before ++ node d.position s f ∷ []) (down_by (suc (size a.formula)) d) b.sign b.formula y g (second-stood P before d s f Alpha a b (turned P before c d s f h (at_logic l P same s f c d m)) refl (λ rest. refl) e q))
  counts_shaped l P same before c d s f x (by_both {x = y} {y = u} {a = a} {b = b} e q g j) h m =
      let first = counts l P same (before ++ node d.position s f ∷ []) (down_by 1 d) a.sign a.formula y g (first-stood P before d s f Beta a b (turned P before c d s f h (at_logic l P same s f c d m)) refl (λ rest. refl) e q) in
      let second = counts l P same (before ++ node d.position s f ∷ []) (down_by (suc (size a.formula)) d) b.sign b.formula u j (second-stood P before d s f Beta a b (turned P before c d s f h (at_logic l P same s f c d m)) refl (λ rest. refl) e q) in
      let lengths = length-append y.literals u.literals in
      let numbers = literals-append P y.turns u.turns in
      no_literal P (record { position = d.position; values = d.taken }) (y.turns ++ u.turns) (length (y.literals ++ u.literals)) (at_place P c.position d.position false (moves-position l s f c d m) (literal-place P before c s f Beta h e)) (omega arith)
  counts_shaped l P same before c d s f x (by_gamma {x = y} {a = a} t e q g) h m = no_literal P (record { position = d.position; values = d.taken }) y.turns (length y.literals) (at_place P c.position d.position false (moves-position l s f c d m) (literal-place P before c s f Gamma h e)) (counts l P same (before ++ node d.position s f ∷ []) (spot_inside t (d.taken ++ term t ∷ []) d) a.sign a.formula y g (inside-gamma-stood P before d s f a t (turned P before c d s f h (at_logic l P same s f c d m)) e q))
  counts_shaped l P same before c d s f x (by_delta {x = y} {a = a} e q g) h m = no_literal P (record { position = d.position; values = d.taken }) y.turns (length y.literals) (at_place P c.position d.position false (moves-position l s f c d m) (literal-place P before c s f Delta h e)) (counts l P same (before ++ node d.position s f ∷ []) (spot_inside (g_eigen d.position (values_tree d.taken)) d.taken d) a.sign a.formula y g (inside-delta-stood P before d s f a (turned P before c d s f h (at_logic l P same s f c d m)) e q))
