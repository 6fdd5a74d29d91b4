-- What is left to be written of a list of values.
use Rattle.std.proofs.Common.{◌≡◌, ℕ, suc, ◌+◌, ◌*◌, ◌≤◌, ◌<◌, List, [], ◌∷◌, ◌++◌, length, true, ◌&&◌, IsTrue, refl, sym, ◌∙◌, ap, subst, append_assoc, append-nil, arith, length-append}
use Rattle.std.proofs.lemmas.Bool.{and_from, and_parts}
use Rattle.std.proofs.lemmas.List.Folds.{list_all-append}
use Rattle.calculus.specs.Syntax.{Symbol}
use Rattle.formula_core.specs.GroundLists.{GroundList}
use Rattle.tableau_text.specs.Pieces.{piece_text, piece_is_written, pieces_before, pieces_text, are_written_pieces, work, Wrote}
use Rattle.tableau_text.specs.declared.piece.Piece.{Piece}

module _ (S : List Symbol) (ls : List GroundList) where
  before-last : (rest : List ℕ) (ps : List Piece) (p : Piece) → pieces_before S ls rest (ps ++ p ∷ []) ≡ piece_text S ls p ++ pieces_before S ls rest ps
  before-last rest [] p = refl
  before-last rest (q ∷ ps) p = before-last (piece_text S ls q ++ rest) ps p

  pub pieces-last : (ps new : List Piece) (p : Piece) → new ≡ ps ++ p ∷ [] → pieces_text S ls new ≡ piece_text S ls p ++ pieces_text S ls ps
  pieces-last ps new p e = ap (pieces_text S ls) e ∙ before-last [] ps p

  pub written-rest : (ps new : List Piece) (p : Piece) → new ≡ ps ++ p ∷ [] → IsTrue (are_written_pieces S ls new) → IsTrue (are_written_pieces S ls ps) × IsTrue (piece_is_written S ls p)
  written-rest ps new p e h =
      let q = and_parts (are_written_pieces S ls ps) (piece_is_written S ls p && true) (sym (list_all-append (piece_is_written S ls) ps (p ∷ [])) ∙ ap (are_written_pieces S ls) (sym e) ∙ h) in
      (q.0, (and_parts (piece_is_written S ls p) true q.1).0)

  written-more : (ps new : List Piece) (p : Piece) → new ≡ ps ++ p ∷ [] → IsTrue (are_written_pieces S ls ps) → IsTrue (piece_is_written S ls p) → IsTrue (are_written_pieces S ls new)
  written-more ps new p e h k = ap (are_written_pieces S ls) e ∙ list_all-append (piece_is_written S ls) ps (p ∷ []) ∙ and_from (are_written_pieces S ls ps) (piece_is_written S ls p && true) h (and_from (piece_is_written S ls p) true k refl)

  length-last : {A : Type 0} (ps new : List A) (p : A) → new ≡ ps ++ p ∷ [] → length new ≡ length ps + 1
  length-last ps new p e = ap length e ∙ length-append ps (p ∷ [])

  -- all of it was written
  pub wrote-all : (text out new : List ℕ) (stack left : List Piece) → new ≡ out ++ text → left ≡ stack → Wrote S ls text out new stack left
  wrote-all text out new stack left e f = record {
    same = (λ i. e i ++ pieces_text S ls (f i)) ∙ append_assoc out text (pieces_text S ls stack);
    written = subst (λ l. IsTrue (are_written_pieces S ls l)) (sym f);
    less = subst (λ l. work S ls l ≤ 2 * (length text + length (pieces_text S ls stack)) + length stack) (sym f) (less (length text) (length (pieces_text S ls stack)) (length stack));
  }
    where
      less : (a b c : ℕ) → 2 * b + c ≤ 2 * (a + b) + c
      less a b c = omega arith

  -- a first part was written before
  pub wrote-behind : (front text out mid new : List ℕ) (stack left : List Piece) → mid ≡ out ++ front → Wrote S ls text mid new stack left → Wrote S ls (front ++ text) out new stack left
  wrote-behind front text out mid new stack left e w = record {
    same = w.same ∙ ap (λ l. l ++ (text ++ pieces_text S ls stack)) e ∙ append_assoc out front (text ++ pieces_text S ls stack) ∙ ap (λ l. out ++ l) (sym (append_assoc front text (pieces_text S ls stack)));
    written = w.written;
    less = less (length front) (length text) (length (front ++ text)) (length (pieces_text S ls stack)) (length stack) (work S ls left) (length-append front text) w.less;
  }
    where
      less : (a b d c e w : ℕ) → d ≡ a + b → w ≤ 2 * (b + c) + e → w ≤ 2 * (d + c) + e
      less a b d c e w f h = omega arith

  -- a byte was written, and an item and the rest behind it are left
  pub wrote-two : (b : ℕ) (text out new : List ℕ) (stack left : List Piece) (rest item : Piece) → new ≡ out ++ b ∷ [] → left ≡ (stack ++ rest ∷ []) ++ item ∷ [] → text ≡ b ∷ (piece_text S ls item ++ piece_text S ls rest) → IsTrue (piece_is_written S ls rest) → IsTrue (piece_is_written S ls item) → Wrote S ls text out new stack left
  wrote-two b text out new stack left rest item e f t hr hi = record {
    same = (λ i. e i ++ pieces i) ∙ append_assoc out (b ∷ []) (piece_text S ls item ++ (piece_text S ls rest ++ pieces_text S ls stack)) ∙ ap (λ l. out ++ b ∷ l) (sym (append_assoc (piece_text S ls item) (piece_text S ls rest) (pieces_text S ls stack))) ∙ ap (λ l. out ++ (l ++ pieces_text S ls stack)) (sym t);
    written = λ h. written-more (stack ++ rest ∷ []) left item f (written-more stack (stack ++ rest ∷ []) rest refl h hr) hi;
    less = less (length (piece_text S ls item)) (length (piece_text S ls rest)) (length (pieces_text S ls stack)) (length stack) (length text) (length left) (length (pieces_text S ls left)) (ap length t ∙ ap suc (length-append (piece_text S ls item) (piece_text S ls rest)))
        (length-last (stack ++ rest ∷ []) left item f ∙ ap (λ n. n + 1) (length-last stack (stack ++ rest ∷ []) rest refl))
        (ap length pieces ∙ length-append (piece_text S ls item) (piece_text S ls rest ++ pieces_text S ls stack) ∙ ap (λ n. length (piece_text S ls item) + n) (length-append (piece_text S ls rest) (pieces_text S ls stack)));
  }
    where
      pieces : pieces_text S ls left ≡ piece_text S ls item ++ (piece_text S ls rest ++ pieces_text S ls stack)
      pieces = pieces-last (stack ++ rest ∷ []) left item f ∙ ap (λ l. piece_text S ls item ++ l) (pieces-last stack (stack ++ rest ∷ []) rest refl)

      less : (i r p n t l k : ℕ) → t ≡ suc (i + r) → l ≡ (n + 1) + 1 → k ≡ i + (r + p) → 2 * k + l ≤ 2 * (t + p) + n
      less i r p n t l k e f g = omega arith

pub ruleset wrote = (wrote-all, wrote-behind)

-- the first piece of the work is done
pub work-falls : (S : List Symbol) (ls : List GroundList) (out new : List ℕ) (stack left after : List Piece) (p : Piece) → stack ≡ left ++ p ∷ [] → Wrote S ls (piece_text S ls p) out new left after → work S ls after < work S ls stack
work-falls S ls out new stack left after p e w = by (length (piece_text S ls p)) (length (pieces_text S ls left)) (length (pieces_text S ls stack)) (length left) (length stack) (work S ls after) (ap length (pieces-last S ls left stack p e) ∙ length-append (piece_text S ls p) (pieces_text S ls left)) (length-last S ls left stack p e) w.less
  where
    by : (a b c m n w : ℕ) → c ≡ a + b → n ≡ m + 1 → w ≤ 2 * (a + b) + m → w < 2 * c + n
    by a b c m n w f g h = omega arith

-- what is written and what is left stay the whole
pub work-same : (S : List Symbol) (ls : List GroundList) (whole out new : List ℕ) (stack left after : List Piece) (p : Piece) → stack ≡ left ++ p ∷ [] → Wrote S ls (piece_text S ls p) out new left after → out ++ pieces_text S ls stack ≡ whole → new ++ pieces_text S ls after ≡ whole
work-same S ls whole out new stack left after p e w h = w.same ∙ ap (λ l. out ++ l) (sym (pieces-last S ls left stack p e)) ∙ h

pub work-done : (S : List Symbol) (ls : List GroundList) (whole out : List ℕ) (stack : List Piece) → length stack ≡ 0 → out ++ pieces_text S ls stack ≡ whole → out ≡ whole
work-done S ls whole out [] e h = sym (append-nil out) ∙ h
work-done S ls whole out (p ∷ ps) e h = absurd (omega arith)

pub work-begun : (S : List Symbol) (ls : List GroundList) (out : List ℕ) (stack : List Piece) (p : Piece) → stack ≡ p ∷ [] → out ++ pieces_text S ls stack ≡ out ++ piece_text S ls p
work-begun S ls out stack p e = ap (λ s. out ++ pieces_text S ls s) e ∙ ap (λ l. out ++ l) (append-nil (piece_text S ls p))

pub work-written : (S : List Symbol) (ls : List GroundList) (stack : List Piece) (p : Piece) → stack ≡ p ∷ [] → IsTrue (piece_is_written S ls p) → IsTrue (are_written_pieces S ls stack)
work-written S ls stack p e h = written-more S ls [] stack p e refl h
