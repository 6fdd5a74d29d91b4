-- Writing a term over a table: what comes behind the term at hand, and how it gets less.
use Rattle.std.proofs.Common.{◌≡◌, ℕ, suc, ◌+◌, ◌≤◌, ◌<◌, List, [], ◌∷◌, ◌++◌, length, map, drop, reverse, get_or, replicate, true, ◌&&◌, IsTrue, Some, refl, sym, ◌∙◌, ap, subst, append_assoc, append-nil, arith, length-append}
use Rattle.std.proofs.lemmas.Bool.{and_from, and_parts}
use Rattle.std.proofs.lemmas.List.Folds.{list_all-append}
use mathlib.Core.List.{reverse-cons}
use Rattle.calculus.specs.Lists.{terms_tree}
use Rattle.calculus.specs.DerivationText.{term_is_written, terms_are_written}
use Rattle.calculus.specs.Syntax.{Symbol, Term}
use Rattle.calculus.specs.Text.{args_text, more_args_text, term_text}
use Rattle.derivation_text.specs.TermWriting.{IsBefore, Wrote, are_written, piece_is_written, piece_text, pieces_text}
use Rattle.derivation_text.specs.declared.term_writer.Piece.{Piece}
use Rattle.derivation_text.specs.declared.term_writer.Piece.TheVariants.{Further, Close}
use Rattle.term_table.specs.Table.{the_table_term}
use Rattle.term_table.specs.declared.table.TableTerm.{TableTerm}

-- ---- the stack

module _ (S : List Symbol) (ls : List (List Term)) where
  last : (ps : List Piece) (p : Piece) → pieces_text S ls (ps ++ p ∷ []) ≡ piece_text S ls p ++ pieces_text S ls ps
  last [] p = sym (append-nil (piece_text S ls p))
  last (q ∷ ps) p = ap (λ l. l ++ piece_text S ls q) (last ps p) ∙ append_assoc (piece_text S ls p) (pieces_text S ls ps) (piece_text S ls q)

  pub pieces-last : (ps new : List Piece) (p : Piece) → new ≡ ps ++ p ∷ [] → pieces_text S ls new ≡ piece_text S ls p ++ pieces_text S ls ps
  pieces-last ps new p e = ap (pieces_text S ls) e ∙ last ps p

  pub written-rest : (ps new : List Piece) (p : Piece) → new ≡ ps ++ p ∷ [] → IsTrue (are_written S ls new) → IsTrue (are_written S ls ps) × IsTrue (piece_is_written S ls p)
  written-rest ps new p e h =
      let q = and_parts (are_written S ls ps) (piece_is_written S ls p && true) (sym (list_all-append (piece_is_written S ls) ps (p ∷ [])) ∙ ap (are_written S ls) (sym e) ∙ h) in
      (q.0, (and_parts (piece_is_written S ls p) true q.1).0)

  written-more : (ps new : List Piece) (p : Piece) → new ≡ ps ++ p ∷ [] → IsTrue (are_written S ls ps) → IsTrue (piece_is_written S ls p) → IsTrue (are_written S ls new)
  written-more ps new p e h k = ap (are_written S ls) e ∙ list_all-append (piece_is_written S ls) ps (p ∷ []) ∙ and_from (are_written S ls ps) (piece_is_written S ls p && true) h (and_from (piece_is_written S ls p) true k refl)

  -- brackets were taken off it, and one more was put on it
  pub before-close : (old mid new : List Piece) (n m : ℕ) → pieces_text S ls old ≡ replicate n 41 ++ pieces_text S ls mid → (IsTrue (are_written S ls old) → IsTrue (are_written S ls mid)) → m ≡ suc n → new ≡ mid ++ Close m ∷ [] → IsBefore S ls (41 ∷ []) old new
  before-close old mid new n m h k e f = record {
    before = pieces-last mid new (Close m) f ∙ ap (λ j. replicate j 41 ++ pieces_text S ls mid) e ∙ ap (λ l. 41 ∷ l) (sym h);
    written = λ w. written-more mid new (Close m) f (k w) refl;
  }

  -- the arguments behind the first one were put on it
  further-text : (stack : List Piece) (rest : List ℕ) (xs : List TableTerm) → pieces_text S ls stack ≡ 41 ∷ rest → pieces_text S ls (stack ++ reverse (map Further xs)) ≡ more_args_text S 0 (terms_tree (map (the_table_term ls) xs)) ++ rest
  further-text stack rest [] h = ap (pieces_text S ls) (append-nil stack) ∙ h
  further-text stack rest (x ∷ xs) h =
      let behind = reverse (map Further xs) in
      ap (λ ps. pieces_text S ls (stack ++ ps)) (reverse-cons (Further x) (map Further xs)) ∙ ap (pieces_text S ls) (sym (append_assoc stack behind (Further x ∷ []))) ∙ last (stack ++ behind) (Further x)
      ∙ ap (λ l. 44 ∷ (term_text S 0 (the_table_term ls x) ++ l)) (further-text stack rest xs h)
      ∙ ap (λ l. 44 ∷ l) (sym (append_assoc (term_text S 0 (the_table_term ls x)) (more_args_text S 0 (terms_tree (map (the_table_term ls) xs))) rest))

  further-written : (stack : List Piece) (xs : List TableTerm) → IsTrue (are_written S ls stack) → IsTrue (terms_are_written S (terms_tree (map (the_table_term ls) xs))) → IsTrue (are_written S ls (stack ++ reverse (map Further xs)))
  further-written stack [] h k = ap (are_written S ls) (append-nil stack) ∙ h
  further-written stack (x ∷ xs) h k =
      let behind = reverse (map Further xs) in
      let p = and_parts (term_is_written S (the_table_term ls x)) (terms_are_written S (terms_tree (map (the_table_term ls) xs))) k in
      written-more (stack ++ behind) (stack ++ reverse (map Further (x ∷ xs))) (Further x) (ap (λ ps. stack ++ ps) (reverse-cons (Further x) (map Further xs)) ∙ sym (append_assoc stack behind (Further x ∷ []))) (further-written stack xs h p.1) p.0

  -- ---- what comes behind a term

  -- of what stood on a stack, a first part was written
  pub record Goes (out new : List ℕ) (stack left : List Piece) : Type 0 where
    pub same : new ++ pieces_text S ls left ≡ out ++ pieces_text S ls stack
    pub written : IsTrue (are_written S ls stack) → IsTrue (are_written S ls left)
    pub less : length (pieces_text S ls left) ≤ length (pieces_text S ls stack)

  pub goes-close : (out at new : List ℕ) (stack before left : List Piece) (n : ℕ) → Goes out at stack before → before ≡ left ++ Close n ∷ [] → new ≡ at ++ replicate n 41 → Goes out new stack left
  goes-close out at new stack before left n h e f =
      let p = pieces-last left before (Close n) e in record {
        same = ap (λ l. l ++ pieces_text S ls left) f ∙ append_assoc at (replicate n 41) (pieces_text S ls left) ∙ ap (λ l. at ++ l) (sym p) ∙ h.same;
        written = λ w. (written-rest left before (Close n) e (h.written w)).0;
        less = less (length (replicate n 41)) (length (pieces_text S ls left)) (length (pieces_text S ls before)) (length (pieces_text S ls stack)) (ap length p ∙ length-append (replicate n 41) (pieces_text S ls left)) h.less;
      }
    where
      less : (a b c d : ℕ) → c ≡ a + b → c ≤ d → b ≤ d
      less a b c d g k = omega arith

  pub goes-further : (out at new : List ℕ) (stack before left : List Piece) (x : TableTerm) → Goes out at stack before → before ≡ left ++ Further x ∷ [] → new ≡ at ++ 44 ∷ [] → Wrote S ls [] out new stack left (Some x)
  goes-further out at new stack before left x h e f =
      let p = pieces-last left before (Further x) e in
      let rest = term_text S 0 (the_table_term ls x) ++ pieces_text S ls left in record {
        same = ap (λ l. l ++ rest) f ∙ append_assoc at (44 ∷ []) rest ∙ ap (λ l. at ++ l) (sym p) ∙ h.same;
        written = λ w. let q = written-rest left before (Further x) e (h.written w) in and_from (term_is_written S (the_table_term ls x)) (are_written S ls left) q.1 q.0;
        less = less (length rest) (length (pieces_text S ls before)) (length (pieces_text S ls stack)) (ap length p) h.less;
      }
    where
      less : (a c d : ℕ) → c ≡ suc a → c ≤ d → suc a ≤ d
      less a c d g k = omega arith

  -- ---- a term

  pub wrote-open : (out new : List ℕ) (stack closed left : List Piece) (terms : List TableTerm) (x d : TableTerm) → 0 < length terms → x ≡ get_or terms 0 d → IsTrue (terms_are_written S (terms_tree (map (the_table_term ls) terms))) → new ≡ out ++ 40 ∷ [] → IsBefore S ls (41 ∷ []) stack closed → left ≡ closed ++ reverse (map Further (drop 1 terms))
      → Wrote S ls (args_text S 0 (terms_tree (map (the_table_term ls) terms))) out new stack left (Some x)
  wrote-open out new stack closed left [] x d some is k e h f = absurd (omega arith)
  wrote-open out new stack closed left (y ∷ ys) x d some is k e h f =
      let p = and_parts (term_is_written S (the_table_term ls y)) (terms_are_written S (terms_tree (map (the_table_term ls) ys))) k in
      let t = term_text S 0 (the_table_term ls y) in
      let more = more_args_text S 0 (terms_tree (map (the_table_term ls) ys)) in
      let q = ap (pieces_text S ls) f ∙ further-text closed (pieces_text S ls stack) ys h.before in
      let whole = ap (λ l. t ++ l) q ∙ sym (append_assoc t more (pieces_text S ls stack)) in
      subst (λ z. Wrote S ls (40 ∷ (t ++ more)) out new stack left (Some z)) (sym is) (record {
        same = ap (λ l. l ++ (t ++ pieces_text S ls left)) e ∙ append_assoc out (40 ∷ []) (t ++ pieces_text S ls left) ∙ ap (λ l. out ++ 40 ∷ l) whole;
        written = λ w. and_from (term_is_written S (the_table_term ls y)) (are_written S ls left) p.0 (ap (are_written S ls) f ∙ further-written closed ys (h.written w) p.1);
        less = less (length (t ++ pieces_text S ls left)) (length ((t ++ more) ++ pieces_text S ls stack)) (ap length whole);
      })
    where
      less : (a b : ℕ) → a ≡ b → suc a ≤ suc b
      less a b g = omega arith
