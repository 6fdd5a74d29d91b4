-- The parts of the lines behind the head.
use Rattle.std.proofs.Common.{◌≡◌, ℕ, suc, List, [], ◌∷◌, ◌++◌, length, map, Bool, true, false, ◌&&◌, ◌==◌, ◌⊎◌, inl, inr, refl, sym, ◌∙◌, ap, append_assoc, codes, decimal, arith, eqb-true}
use Rattle.std.specs.List.{list_all}
use Rattle.std.proofs.lemmas.Bool.{and_from, and_parts, true≢false}
use Rattle.plain_laws.proofs.Places.{differ-at}
use Rattle.calculus.specs.declared.sign.Side.{Side}
use Rattle.calculus.specs.declared.sign.Side.TheVariants.{Left, Right}
use Rattle.calculus.specs.Syntax.{Symbol}
use Rattle.calculus.specs.Ground.{Value, values_tree}
use Rattle.calculus.specs.Text.{is_number}
use Rattle.calculus.specs.TableauText.{Chosen, Move, reduction, extension, side_text, sides_text, chosen_text, move_line, chosen_is_written, value_is_written, values_are_written, values_text}
use Rattle.calculus.proofs.TextLaws.{cons-head, cons-tail, decimal-split}
use Rattle.calculus.proofs.TermTextLaws.{small-number}
use Rattle.calculus.proofs.DerivationTextLaws.{cancel}
use Rattle.text_lines.specs.Spelling.{IsNumber, IsNumberBefore}
use Rattle.tableau_text.specs.MoveLines.{IsChosenText, IsMoveLine}
use Rattle.tableau_text.specs.Points.{IsValuesText}
use Rattle.tableau_text.specs.Sides.{NoSide, AreLettersOn, AreSidesOn, IsPlaceOn, IsExtensionText}

no-space : (s : Side) (r q : List ℕ) → 32 ∷ r ≡ side_text s ∷ q → ⊥
no-space Left r q e = differ-at _ _ 0 e refl
no-space Right r q e = differ-at _ _ 0 e refl

one-side : (s t : Side) (r q : List ℕ) → side_text s ∷ r ≡ side_text t ∷ q → (s ≡ t) × (r ≡ q)
one-side Left Left r q e = (refl, cons-tail e)
one-side Right Right r q e = (refl, cons-tail e)
one-side Left Right r q e = absurd (differ-at _ _ 0 e refl)
one-side Right Left r q e = absurd (differ-at _ _ 0 e refl)

-- letters that were read, and those before a space
letters-one : (ss ts : List Side) (rest r : List ℕ) → NoSide rest → map side_text ss ++ rest ≡ map side_text ts ++ 32 ∷ r → (ss ≡ ts) × (rest ≡ 32 ∷ r)
letters-one [] [] rest r h e = (refl, e)
letters-one [] (t ∷ ts) rest r h e = absurd (h t _ e)
letters-one (s ∷ ss) [] rest r h e = absurd (no-space s r _ (sym e))
letters-one (s ∷ ss) (t ∷ ts) rest r h e =
    let p = one-side s t _ _ e in
    let q = letters-one ss ts rest r h p.1 in
    ((λ i. p.0 i ∷ q.0 i), q.1)

-- ---- letters

pub letter-more : (text : List ℕ) (ss new : List Side) (rest after : List ℕ) (s : Side) → text ≡ map side_text ss ++ rest → rest ≡ side_text s ∷ after → new ≡ ss ++ s ∷ [] → text ≡ map side_text new ++ after
letter-more text ss new rest after s t e n = t ∙ ap (λ l. map side_text ss ++ l) e ∙ by ss ∙ ap (λ l. map side_text l ++ after) (sym n)
  where
    by : (ss : List Side) → map side_text ss ++ side_text s ∷ after ≡ map side_text (ss ++ s ∷ []) ++ after
    by [] = refl
    by (x ∷ ss) = ap (λ l. side_text x ∷ l) (by ss)

pub side-next : (text rest : List ℕ) (b : ℕ) (s : Side) → text ≡ b ∷ rest → b ≡ side_text s → text ≡ side_text s ∷ rest
side-next text rest b s e f = e ∙ ap (λ k. k ∷ rest) f

pub no-next : (text rest : List ℕ) (b : ℕ) → text ≡ b ∷ rest → ((s : Side) → ¬ (b ≡ side_text s)) → NoSide text
no-next text rest b e none s more f = none s (cons-head (sym e ∙ f))

pub nothing-next : (text : List ℕ) → length text ≡ 0 → NoSide text
nothing-next [] e s more f = cc f
nothing-next (b ∷ text) e s more f = cc e

pub ruleset next_letters = (side-next, no-next, nothing-next)

-- ---- sides

pub sides-read : (text : List ℕ) (ss : List Side) (after rest : List ℕ) → AreLettersOn text ss after → ¬ (ss ≡ []) → after ≡ 32 ∷ rest → AreSidesOn text ss rest
sides-read text [] after rest h some e = absurd (some refl)
sides-read text (s ∷ ss) after rest h some e = h.text ∙ ap (λ l. map side_text (s ∷ ss) ++ l) e

pub no-sides : (text : List ℕ) → ((rest : List ℕ) → ¬ (text ≡ codes "- " ++ rest)) → (ss : List Side) (after : List ℕ) → AreLettersOn text ss after → (ss ≡ []) ⊎ ((rest : List ℕ) → ¬ (after ≡ 32 ∷ rest)) → (ts : List Side) (r : List ℕ) → ¬ AreSidesOn text ts r
no-sides text dash ss after h why [] r e = dash r e
no-sides text dash ss after h why (t ∷ ts) r e = by why
  where
    same : (ss ≡ t ∷ ts) × (after ≡ 32 ∷ r)
    same = letters-one ss (t ∷ ts) after r h.stops (sym h.text ∙ e)

    by : (ss ≡ []) ⊎ ((rest : List ℕ) → ¬ (after ≡ 32 ∷ rest)) → ⊥
    by (inl n) = cc (sym n ∙ same.0)
    by (inr n) = n r same.1

dash-side : (t : Side) (r q : List ℕ) → 45 ∷ r ≡ side_text t ∷ q → ⊥
dash-side Left r q e = differ-at _ _ 0 e refl
dash-side Right r q e = differ-at _ _ 0 e refl

letters-split : (xs ys : List Side) (r s : List ℕ) → map side_text xs ++ 32 ∷ r ≡ map side_text ys ++ 32 ∷ s → (xs ≡ ys) × (r ≡ s)
letters-split xs ys r s e = let p = letters-one xs ys (32 ∷ r) s (λ t more f. no-space t r more f) e in (p.0, cons-tail p.1)

pub sides-one : (text : List ℕ) (ss ts : List Side) (r q : List ℕ) → AreSidesOn text ss r → AreSidesOn text ts q → (ss ≡ ts) × (r ≡ q)
sides-one text [] [] r q h k = (refl, cons-tail (cons-tail (sym h ∙ k)))
sides-one text [] (t ∷ ts) r q h k = absurd (dash-side t _ _ (sym h ∙ k))
sides-one text (s ∷ ss) [] r q h k = absurd (dash-side s _ _ (sym k ∙ h))
sides-one text (s ∷ ss) (t ∷ ts) r q h k = letters-split (s ∷ ss) (t ∷ ts) r q (sym h ∙ k)

-- ---- instances

tree-written : (S : List Symbol) (vs : List Value) → values_are_written S (values_tree vs) ≡ list_all (value_is_written S) vs
tree-written S [] = refl
tree-written S (v ∷ vs) = ap (λ b. value_is_written S v && b) (tree-written S vs)

pub chosen-read : (S : List Symbol) (text rest : List ℕ) (ss : List Side) (vs : List Value) → AreSidesOn text ss rest → IsValuesText S rest (values_tree vs) → IsChosenText S text (record { sides = ss; values = vs })
chosen-read S text rest ss vs h k = record {
  written = sym (tree-written S vs) ∙ k.written;
  same = h ∙ ap (λ l. sides_text ss ++ 32 ∷ l) k.same ∙ sym (append_assoc (sides_text ss) (codes " ") (values_text S (values_tree vs)));
}

chosen-sides : (S : List Symbol) (text : List ℕ) (i : Chosen) → IsChosenText S text i → AreSidesOn text i.sides (values_text S (values_tree i.values))
chosen-sides S text i h = h.same ∙ append_assoc (sides_text i.sides) (codes " ") (values_text S (values_tree i.values))

pub no-chosen_sides : (S : List Symbol) (text : List ℕ) → ((ss : List Side) (rest : List ℕ) → ¬ AreSidesOn text ss rest) → (i : Chosen) → ¬ IsChosenText S text i
no-chosen_sides S text none i h = none i.sides _ (chosen-sides S text i h)

pub no-chosen_values : (S : List Symbol) (text rest : List ℕ) (ss : List Side) → AreSidesOn text ss rest → ((vs : List Value) → ¬ IsValuesText S rest (values_tree vs)) → (i : Chosen) → ¬ IsChosenText S text i
no-chosen_values S text rest ss k none i h =
    let p = sides-one text ss i.sides rest (values_text S (values_tree i.values)) k (chosen-sides S text i h) in
    none i.values (record { written = tree-written S i.values ∙ h.written; same = p.1 })

-- ---- places

pub place-read : (text after rest : List ℕ) (k : ℕ) → IsNumberBefore text k after → after ≡ 32 ∷ rest → IsPlaceOn text k rest
place-read text after rest k h e = record { small = h.small; text = h.all ∙ ap (λ l. decimal k ++ l) e }

place-number : (text rest : List ℕ) (k : ℕ) → IsPlaceOn text k rest → IsNumberBefore text k (32 ∷ rest)
place-number text rest k h = record { small = h.small; all = h.text; stops = refl }

number-one : (text r q : List ℕ) (k j : ℕ) → IsNumberBefore text k r → IsNumberBefore text j q → (k ≡ j) × (r ≡ q)
number-one text r q k j h g = decimal-split k j r q (small-number k h.small) (small-number j g.small) h.stops g.stops (sym h.all ∙ g.all)

pub no-place_number : (text : List ℕ) → ((n : ℕ) (rest : List ℕ) → ¬ IsNumberBefore text n rest) → (k : ℕ) (rest : List ℕ) → ¬ IsPlaceOn text k rest
no-place_number text none k rest h = none k (32 ∷ rest) (place-number text rest k h)

pub no-place_space : (text after : List ℕ) (n : ℕ) → IsNumberBefore text n after → ((rest : List ℕ) → ¬ (after ≡ 32 ∷ rest)) → (k : ℕ) (rest : List ℕ) → ¬ IsPlaceOn text k rest
no-place_space text after n h none k rest g = none rest (number-one text after (32 ∷ rest) n k h (place-number text rest k g)).1

pub extension-read : (S : List Symbol) (text rest : List ℕ) (k : ℕ) (i : Chosen) → IsPlaceOn text k rest → IsChosenText S rest i → IsExtensionText S text k i
extension-read S text rest k i h g = record { small = h.small; written = g.written; text = h.text ∙ ap (λ l. decimal k ++ 32 ∷ l) g.same }

extension-place : (S : List Symbol) (text : List ℕ) (k : ℕ) (i : Chosen) → IsExtensionText S text k i → IsPlaceOn text k (chosen_text S i)
extension-place S text k i h = record { small = h.small; text = h.text }

pub no-extension_place : (S : List Symbol) (text : List ℕ) → ((k : ℕ) (rest : List ℕ) → ¬ IsPlaceOn text k rest) → (k : ℕ) (i : Chosen) → ¬ IsExtensionText S text k i
no-extension_place S text none k i h = none k _ (extension-place S text k i h)

pub no-extension_chosen : (S : List Symbol) (text rest : List ℕ) (n : ℕ) → IsPlaceOn text n rest → ((i : Chosen) → ¬ IsChosenText S rest i) → (k : ℕ) (i : Chosen) → ¬ IsExtensionText S text k i
no-extension_chosen S text rest n h none k i g =
    let p = number-one text (32 ∷ rest) (32 ∷ chosen_text S i) n k (place-number text rest n h) (place-number text (chosen_text S i) k (extension-place S text k i g)) in
    none i (record { written = g.written; same = cons-tail p.1 })

-- ---- moves

pub reduction-read : (S : List Symbol) (line rest : List ℕ) (k : ℕ) → line ≡ codes "reduce " ++ rest → IsNumber rest k → IsMoveLine S line (reduction k)
reduction-read S line rest k e h = record { written = h.written; same = e ∙ ap (λ l. codes "reduce " ++ l) h.same }

extension-text : (S : List Symbol) (k : ℕ) (i : Chosen) → codes "extend " ++ (decimal k ++ 32 ∷ chosen_text S i) ≡ move_line S (extension k i)
extension-text S k i = on (codes "extend ") (decimal k) (chosen_text S i)
  where
    on : (a b c : List ℕ) → a ++ (b ++ 32 ∷ c) ≡ (a ++ b ++ 32 ∷ []) ++ c
    on a b c = sym (append_assoc (a ++ b) (32 ∷ []) c ∙ append_assoc a b (32 ∷ c))

pub extension-line : (S : List Symbol) (line rest : List ℕ) (k : ℕ) (i : Chosen) → line ≡ codes "extend " ++ rest → IsExtensionText S rest k i → IsMoveLine S line (extension k i)
extension-line S line rest k i e h = record { written = and_from (is_number k) (chosen_is_written S i) h.small h.written; same = e ∙ ap (λ l. codes "extend " ++ l) h.text ∙ extension-text S k i }

pub no-extension : (S : List Symbol) (line rest : List ℕ) → line ≡ codes "extend " ++ rest → ((k : ℕ) (i : Chosen) → ¬ IsExtensionText S rest k i) → (m : Move) → ¬ IsMoveLine S line m
no-extension S line rest e none (reduction k) h = differ-at _ _ 0 (sym e ∙ h.same) refl
no-extension S line rest e none (extension k i) h =
    let p = and_parts (is_number k) (chosen_is_written S i) h.written in
    none k i (record { small = p.0; written = p.1; text = cancel (codes "extend ") rest (decimal k ++ 32 ∷ chosen_text S i) (sym e ∙ h.same ∙ sym (extension-text S k i)) })

-- ---- the tests of the program

pub not-empty : (ss : List Side) (b : Bool) → b ≡ (length ss == 0) → b ≡ false → ss ≡ [] → ⊥
not-empty ss b i j e = true≢false (sym (ap (λ l. length l == 0) e) ∙ sym i ∙ j)

pub empty-is : (ss : List Side) (b : Bool) → b ≡ (length ss == 0) → b ≡ true → ss ≡ []
empty-is [] b i j = refl
empty-is (s ∷ ss) b i j = let e : suc (length ss) ≡ 0 = eqb-true (length (s ∷ ss)) 0 (sym i ∙ j) in absurd (omega arith)
