-- Bytes that are put piece by piece.
use Rattle.std.proofs.Common.{◌≡◌, ◌≤◌, ℕ, List, ◌∷◌, ◌++◌, length, take, drop, Option, Some, None, Result, Ok, Err, OnOk, OnErr, refl, sym, ◌∙◌, ap, subst, append_assoc, arith}
use Rattle.std.proofs.lemmas.List.{length-take, take-append-drop}
use Rattle.std.proofs.Math.Seq.{take-append_seam}
use Rattle.cop_sink.specs.Output.{AreFull, WentOutInPieces, with_bytes}

with_bytes-append : (told : Option (List ℕ)) (xs ys : List ℕ) → with_bytes (with_bytes told xs) ys ≡ with_bytes told (xs ++ ys)
with_bytes-append None xs ys = refl
with_bytes-append (Some w) xs ys = ap Some (append_assoc w xs ys)

-- of `bytes`, put onto `start`, all but the rest are written
pub record IsPut (start now : Option (List ℕ)) (bytes rest : List ℕ) : Type 0 where
  pub front : List ℕ
  pub whole : bytes ≡ front ++ rest
  pub written : now ≡ with_bytes start front

pub put_piece : (start now after : Option (List ℕ)) (bytes rest piece others : List ℕ) → IsPut start now bytes rest → rest ≡ piece ++ others → after ≡ with_bytes now piece → IsPut start after bytes others
put_piece start now after bytes rest piece others p e w = record {
  front = p.front ++ piece;
  whole = p.whole ∙ ap (λ l. p.front ++ l) e ∙ sym (append_assoc p.front piece others);
  written = w ∙ ap (λ o. with_bytes o piece) p.written ∙ with_bytes-append start p.front piece;
}

take_front : (bytes front back : List ℕ) → bytes ≡ front ++ back → take (length front) bytes ≡ front
take_front bytes front back e = ap (take (length front)) e ∙ take-append_seam front back

pub put_part : (start now after : Option (List ℕ)) (bytes rest piece others : List ℕ) → IsPut start now bytes rest → rest ≡ piece ++ others → (n : ℕ) × (after ≡ with_bytes now (take n piece)) → (n : ℕ) × (after ≡ with_bytes start (take n bytes))
put_part start now after bytes rest piece others p e q =
    let front = p.front ++ take q.0 piece in
    let back = drop q.0 piece ++ others in
    let split : rest ≡ take q.0 piece ++ back = e ∙ ap (λ l. l ++ others) (sym (take-append-drop q.0 piece)) ∙ append_assoc (take q.0 piece) (drop q.0 piece) others in
    let whole : bytes ≡ front ++ back = p.whole ∙ ap (λ l. p.front ++ l) split ∙ sym (append_assoc p.front (take q.0 piece) back) in
    (length front, q.1 ∙ ap (λ o. with_bytes o (take q.0 piece)) p.written ∙ with_bytes-append start p.front (take q.0 piece) ∙ ap (with_bytes start) (sym (take_front bytes front back whole)))

pub split_whole : (n : ℕ) (rest piece others : List ℕ) → piece ≡ take n rest → others ≡ drop n rest → rest ≡ piece ++ others
split_whole n rest piece others e f = sym (take-append-drop n rest) ∙ ap (λ l. l ++ drop n rest) (sym e) ∙ ap (λ l. piece ++ l) (sym f)

pub on_err : {A E : Type 0} (r : Result A E) {P : Type 0} → P → OnErr r P
on_err (Ok a) p = tt
on_err (Err e) p = p

-- ---- the pieces that went out

-- all that went out since are pieces of 4,096 bytes
pub record IsOutInFull (before after : List (List ℕ)) : Type 0 where
  pub pieces : List (List ℕ)
  pub went_out : after ≡ pieces ++ before
  pub are_full : AreFull 4096 pieces

pub full-out : (before now after : List (List ℕ)) (piece : List ℕ) → IsOutInFull before now → length piece ≡ 4096 → after ≡ piece ∷ now → IsOutInFull before after
full-out before now after piece p few e = record {
  pieces = piece ∷ p.pieces;
  went_out = e ∙ ap (λ ps. piece ∷ ps) p.went_out;
  are_full = (few, p.are_full);
}

pub last-out : (before now after : List (List ℕ)) (piece : List ℕ) → IsOutInFull before now → length piece ≤ 4096 → after ≡ piece ∷ now → WentOutInPieces 4096 before after
last-out before now after piece p few e = record {
  pieces = piece ∷ p.pieces;
  went_out = e ∙ ap (λ ps. piece ∷ ps) p.went_out;
  are_pieces = (few, p.are_full);
}

pub take-short : (n : ℕ) (xs : List ℕ) → length xs ≤ 4096 → length (take n xs) ≤ 4096
take-short n xs few = subst (λ l. l ≤ 4096) (sym (length-take n xs)) (omega (arith, few))

-- the last put, of which all went out or a part
pub all-out : {A E : Type 0} (r : Result A E) (before now after : List (List ℕ)) (piece : List ℕ) → IsOutInFull before now → length piece ≤ 4096
    → OnOk r (after ≡ piece ∷ now) → OnErr r ((n : ℕ) × (after ≡ take n piece ∷ now)) → WentOutInPieces 4096 before after
all-out (Ok a) before now after piece p few e f = last-out before now after piece p few e
all-out (Err x) before now after piece p few e f =
    last-out before now after (take f.0 piece) p (take-short f.0 piece few) f.1
