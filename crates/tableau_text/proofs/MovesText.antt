-- The text of moves, written piece by piece.
use Rattle.std.proofs.Common.{◌≡◌, ℕ, zero, suc, ◌<◌, List, [], ◌∷◌, ◌++◌, map, length, get_or, Bool, ◌&&◌, IsTrue, refl, sym, ◌∙◌, ap, subst, append_assoc, flat_map, codes, arith}
use Rattle.std.specs.List.{list_all}
use Rattle.std.proofs.lemmas.Bool.{and_parts}
use Rattle.calculus.specs.Syntax.{Symbol, Problem}
use Rattle.calculus.specs.Ground.{Value, values_tree}
use Rattle.calculus.specs.FirstWrong.{line_bytes, text_of}
use Rattle.calculus.specs.TableauText.{Chosen, Moves, chosen_text, move_line, moves_texts, sides_text, tableau_head, value_is_written, values_are_written, values_text, are_written, IsMovesText}

-- what holds of each item of a list that contracts see through a view holds of the view of each item
pub all-item : {X Y : Type 0} (f : X → Y) (p : Y → Bool) (xs : List X) (k : ℕ) (x d : X) → k < length xs → x ≡ get_or xs k d → IsTrue (list_all p (map f xs)) → IsTrue (p (f x))
all-item f p [] k x d h e a = absurd (omega arith)
all-item f p (y ∷ xs) zero x d h e a = subst (λ z. IsTrue (p (f z))) (sym e) (and_parts (p (f y)) (list_all p (map f xs)) a).0
all-item f p (y ∷ xs) (suc k) x d h e a = all-item f p xs k x d (omega arith) e (and_parts (p (f y)) (list_all p (map f xs)) a).1

pub tree-written : (S : List Symbol) (vs : List Value) → IsTrue (list_all (value_is_written S) vs) → IsTrue (values_are_written S (values_tree vs))
tree-written S vs h = by vs ∙ h
  where
    by : (vs : List Value) → values_are_written S (values_tree vs) ≡ list_all (value_is_written S) vs
    by [] = refl
    by (v ∷ vs) = ap (λ b. value_is_written S v && b) (by vs)

-- an instance, piece by piece
pub chosen-by_steps : (S : List Symbol) (i : Chosen) (a b c d : List ℕ) → b ≡ a ++ sides_text i.sides → c ≡ b ++ codes " " → d ≡ c ++ values_text S (values_tree i.values) → d ≡ a ++ chosen_text S i
chosen-by_steps S i a b c d e f g =
    g ∙ ap (λ l. l ++ values_text S (values_tree i.values)) (f ∙ ap (λ l. l ++ codes " ") e ∙ append_assoc a (sides_text i.sides) (codes " ")) ∙ append_assoc a (sides_text i.sides ++ codes " ") (values_text S (values_tree i.values))

flat-append : (xs ys : List (List ℕ)) → flat_map line_bytes (xs ++ ys) ≡ flat_map line_bytes xs ++ flat_map line_bytes ys
flat-append [] ys = refl
flat-append (x ∷ xs) ys = ap (λ l. line_bytes x ++ l) (flat-append xs ys) ∙ sym (append_assoc (line_bytes x) (flat_map line_bytes xs) (flat_map line_bytes ys))

-- the whole text, piece by piece
pub text-by_steps : (P : Problem) (x : Moves) (a b c d e f : List ℕ) → IsTrue (are_written P x) → a ≡ flat_map line_bytes (tableau_head P x.limit) → b ≡ a ++ codes "start " → c ≡ b ++ chosen_text P.symbols x.start → d ≡ c ++ codes "\n"
    → e ≡ d ++ flat_map line_bytes (map (move_line P.symbols) x.moves) → f ≡ e ++ codes "end\n" → IsMovesText P x f
text-by_steps P x a b c d e f w ea eb ec ed ee ef = record { printable = w; text = ef ∙ ap (λ l. l ++ codes "end\n") all ∙ sym whole }
  where
    fifth : d ≡ flat_map line_bytes (tableau_head P x.limit) ++ (line_bytes (codes "start " ++ chosen_text P.symbols x.start))
    fifth =
        ed ∙ ap (λ l. l ++ codes "\n") (ec ∙ ap (λ l. l ++ chosen_text P.symbols x.start) (eb ∙ ap (λ l. l ++ codes "start ") ea) ∙ append_assoc (flat_map line_bytes (tableau_head P x.limit)) (codes "start ") (chosen_text P.symbols x.start))
        ∙ append_assoc (flat_map line_bytes (tableau_head P x.limit)) (codes "start " ++ chosen_text P.symbols x.start) (codes "\n")

    all : e ≡ flat_map line_bytes (tableau_head P x.limit ++ (codes "start " ++ chosen_text P.symbols x.start) ∷ map (move_line P.symbols) x.moves)
    all =
        ee ∙ ap (λ l. l ++ flat_map line_bytes (map (move_line P.symbols) x.moves)) fifth
        ∙ append_assoc (flat_map line_bytes (tableau_head P x.limit)) (line_bytes (codes "start " ++ chosen_text P.symbols x.start)) (flat_map line_bytes (map (move_line P.symbols) x.moves))
        ∙ sym (flat-append (tableau_head P x.limit) ((codes "start " ++ chosen_text P.symbols x.start) ∷ map (move_line P.symbols) x.moves))

    whole : text_of (moves_texts P) x ≡ flat_map line_bytes (tableau_head P x.limit ++ (codes "start " ++ chosen_text P.symbols x.start) ∷ map (move_line P.symbols) x.moves) ++ codes "end\n"
    whole = flat-append (tableau_head P x.limit ++ (codes "start " ++ chosen_text P.symbols x.start) ∷ map (move_line P.symbols) x.moves) (codes "end" ∷ [])
