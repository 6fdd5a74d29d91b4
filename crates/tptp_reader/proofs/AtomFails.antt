-- Where the way over an atom or an equation goes wrong.
use Rattle.std.proofs.Common.{◌≡◌, ◌==◌, ℕ, Bool, true, false, List, [], ◌∷◌, None, Some, inl, inr, refl, sym, ◌∙◌, ap, codes, subst, if◌then◌else◌}
use Rattle.std.proofs.lemmas.Bool.{false≢true}
use Rattle.plain_laws.proofs.Options.{none_some}
use Rattle.tptp_lex.proofs.Runs.{some-is}
use Rattle.tptp_reader.specs.declared.source.SourceTerm as program_term
use Rattle.tptp_reader.specs.declared.source.SourceTerm.TheVariants.{Var, Fun}
use Rattle.tptp_reader.specs.declared.terminal.Piece.{Piece}
use Rattle.tptp_reader.specs.Sources as tree
use Rattle.tptp_reader.specs.TermView.{the_source_term}
use Rattle.tptp_reader.specs.Terminals.{Terminal, lower, upper, quoted, dollar, equal, unequal}
use Rattle.tptp_reader.specs.TerminalView.{the_terminal}
use Rattle.tptp_reader.specs.Grammar as g
use Rattle.tptp_reader.specs.Grammar.{Word, plain, in_quotes, word_token, TermTree, term_tokens}
use Rattle.tptp_reader.specs.Meaning.{term_of}
use Rattle.tptp_reader.specs.Expecting.{Expected, term, equation, some_equation, atom, form, equation_move, dollar_move, is_word, is_truth, atom_move, moved, all_optional, step}
use Rattle.tptp_reader.specs.Following.{is_shallow}
use Rattle.tptp_reader.specs.Spans.{Span, nothing, one_more}
use Rattle.tptp_reader.specs.Standing.{truth_in, TermRead}
use Rattle.tptp_reader.specs.Failing.{Fails, FailsAfter, FailsAt, fails_at, side_part}
use Rattle.tptp_reader.proofs.FailLaws.{fails-token, fails-as, fails-none, fails-skip, fails-move, fails-deep}
use Rattle.tptp_reader.proofs.SpanLaws.{equal-is, unequal-is}

-- ---- behind the first term

pub side-busy : (left : tree.SourceTerm) (d : ℕ) (es : List Expected) → all_optional es ≡ false → all_optional (side_part left d ∷ es) ≡ false
side-busy (tree.variable x) d es b = refl
side-busy (tree.apply f ts) d es b = b

pub fails-equal : {text : List ℕ} {p : Piece} (modal : Bool) (d : ℕ) (left : tree.SourceTerm) (es : List Expected) → (form (the_terminal p.terminal) == 1) ≡ true → Fails modal text (term d ∷ es) p.end → FailsAt modal text (side_part left d ∷ es) p
fails-equal {p = p} modal d (tree.variable x) es e h = fails-token modal (equation d ∷ es) (equal-is (the_terminal p.terminal) e) (inr h)
fails-equal {p = p} modal d (tree.apply f ts) es e h = fails-token modal (some_equation d ∷ es) (equal-is (the_terminal p.terminal) e) (inr h)

pub fails-unequal : {text : List ℕ} {p : Piece} (modal : Bool) (d : ℕ) (left : tree.SourceTerm) (es : List Expected) → (form (the_terminal p.terminal) == 2) ≡ true → Fails modal text (term d ∷ es) p.end → FailsAt modal text (side_part left d ∷ es) p
fails-unequal {p = p} modal d (tree.variable x) es e h = fails-token modal (equation d ∷ es) (unequal-is (the_terminal p.terminal) e) (inr h)
fails-unequal {p = p} modal d (tree.apply f ts) es e h = fails-token modal (some_equation d ∷ es) (unequal-is (the_terminal p.terminal) e) (inr h)

no-sign : (d : ℕ) (x : Terminal) → (form x == 1) ≡ false → (form x == 2) ≡ false → equation_move d x ≡ None
no-sign d equal e f = absurd (false≢true (sym e))
no-sign d unequal e f = absurd (false≢true (sym f))
no-sign d _ e f = refl

-- a term alone is an atom, but for a variable
pub fails-applied : {text : List ℕ} {p : Piece} (modal : Bool) (d : ℕ) (left : program_term.SourceTerm) (name : List ℕ) (args : List tree.SourceTerm) (es : List Expected) → left ≡ Fun name args → (form (the_terminal p.terminal) == 1) ≡ false → (form (the_terminal p.terminal) == 2) ≡ false → FailsAt modal text es p
    → FailsAt modal text (side_part (the_source_term left) d ∷ es) p
fails-applied {text} {p} modal d left name args es k e f h =
    subst (λ z. FailsAt modal text (side_part (the_source_term z) d ∷ es) p) (sym k) (fails-skip modal (some_equation d) es refl (no-sign d (the_terminal p.terminal) e f) h)

pub fails-variable : {text : List ℕ} {p : Piece} (modal : Bool) (d : ℕ) (left : program_term.SourceTerm) (name : List ℕ) (es : List Expected) → left ≡ Var name → (form (the_terminal p.terminal) == 1) ≡ false → (form (the_terminal p.terminal) == 2) ≡ false
    → FailsAt modal text (side_part (the_source_term left) d ∷ es) p
fails-variable {text} {p} modal d left name es k e f =
    subst (λ z. FailsAt modal text (side_part (the_source_term z) d ∷ es) p) (sym k) (fails-none modal (equation d) es refl (no-sign d (the_terminal p.terminal) e f))

-- ---- words with `$`

truth-is : (w : List ℕ) (holds : Bool) → truth_in (dollar w) ≡ Some holds → is_truth w ≡ true
truth-is w holds e = by (is_word w (codes "$true")) (is_word w (codes "$false")) refl refl e
  where
    by : (t f : Bool) → is_word w (codes "$true") ≡ t → is_word w (codes "$false") ≡ f → (if t then Some true else (if f then Some false else None)) ≡ Some holds → is_truth w ≡ true
    by true f h k q = ap (λ z. if z then true else is_word w (codes "$false")) h
    by false true h k q = ap (λ z. if z then true else is_word w (codes "$false")) h ∙ k
    by false false h k q = absurd (none_some q)

truth-not : (w : List ℕ) → truth_in (dollar w) ≡ None → is_truth w ≡ false
truth-not w e = by (is_word w (codes "$true")) (is_word w (codes "$false")) refl refl e
  where
    by : (t f : Bool) → is_word w (codes "$true") ≡ t → is_word w (codes "$false") ≡ f → (if t then Some true else (if f then Some false else None)) ≡ None → is_truth w ≡ false
    by true f h k q = absurd (none_some (sym q))
    by false true h k q = absurd (none_some (sym q))
    by false false h k q = ap (λ z. if z then true else is_word w (codes "$false")) h ∙ k

truth-move : (d : ℕ) (x : Terminal) (holds : Bool) → truth_in x ≡ Some holds → atom_move d x ≡ Some (d, [])
truth-move d (dollar w) holds e = ap (λ b. dollar_move b d) (truth-is w holds e)
truth-move d _ holds e = absurd (none_some e)

pub fails-truth : {text : List ℕ} {p : Piece} (modal : Bool) (d : ℕ) (holds : Bool) (es : List Expected) → truth_in (the_terminal p.terminal) ≡ Some holds → Fails modal text es p.end → FailsAt modal text (atom d ∷ es) p
fails-truth {p = p} modal d holds es e h = fails-move modal (atom d) es (d, []) (truth-move d (the_terminal p.terminal) holds e) h

pub truth-deep : {text : List ℕ} {p : Piece} (modal : Bool) (d : ℕ) (holds : Bool) (es : List Expected) → truth_in (the_terminal p.terminal) ≡ Some holds → is_shallow d ≡ false → FailsAt modal text (atom d ∷ es) p
truth-deep {p = p} modal d holds es e h = fails-deep modal (atom d) es (d, []) (truth-move d (the_terminal p.terminal) holds e) h

-- ---- other atoms

atom-after : (modal : Bool) (text : List ℕ) (d : ℕ) (es : List Expected) (x : Terminal) (to : ℕ) → truth_in x ≡ None → FailsAfter modal text (step modal (term d ∷ equation d ∷ es) x) to → FailsAfter modal text (step modal (term d ∷ some_equation d ∷ es) x) to → FailsAfter modal text (step modal (atom d ∷ es) x) to
atom-after modal text d es (upper w) to e h k = h
atom-after modal text d es (lower w) to e h k = k
atom-after modal text d es (quoted w) to e h k = k
atom-after modal text d es (dollar w) to e h k = subst (λ b. FailsAfter modal text (moved (dollar_move b d) false es (step modal es (dollar w))) to) (sym (truth-not w e)) tt
atom-after modal text d es _ to e h k = tt

-- what goes wrong in its first term
pub fails-atom : {text : List ℕ} {p : Piece} (modal : Bool) (d : ℕ) (es : List Expected) → truth_in (the_terminal p.terminal) ≡ None → FailsAt modal text (term d ∷ equation d ∷ es) p → FailsAt modal text (term d ∷ some_equation d ∷ es) p → FailsAt modal text (atom d ∷ es) p
fails-atom {text} {p} modal d es e (fails_at h) (fails_at k) = fails_at (atom-after modal text d es (the_terminal p.terminal) p.end e h k)

-- the first token of a span
first-is : {text : List ℕ} {p q : Piece} {ts : List Terminal} (x : Terminal) (us : List Terminal) → Span text p ts q → ts ≡ x ∷ us → the_terminal p.terminal ≡ x
first-is x us (nothing p) e = cc
first-is x us (one_more p q r ts f s) e = cc

word-step : (modal : Bool) (d : ℕ) (es : List Expected) (w : Word) → step modal (term d ∷ some_equation d ∷ es) (word_token w) ≡ step modal (atom d ∷ es) (word_token w)
word-step modal d es (plain w) = refl
word-step modal d es (in_quotes w) = refl

-- what goes wrong behind its first term
pub fails-sided : {text : List ℕ} {p sign : Piece} (modal : Bool) (d : ℕ) (left : program_term.SourceTerm) (es : List Expected) → TermRead text d p (left, sign) → FailsAt modal text (term d ∷ side_part (the_source_term left) d ∷ es) p → FailsAt modal text (atom d ∷ es) p
fails-sided {text} {p} {sign} modal d left es t h = by t.tree t.value t.stands
  where
    worded : (w : Word) (us : List Terminal) (f : List ℕ) (ts : tree.SourceTerms) → the_source_term left ≡ tree.apply f ts → Span text p (word_token w ∷ us) sign → FailsAt modal text (atom d ∷ es) p
    worded w us f ts v s =
        let e : the_terminal p.terminal ≡ word_token w = first-is (word_token w) us s refl in
        fails-as modal (term d ∷ some_equation d ∷ es) (atom d ∷ es) (ap (step modal (term d ∷ some_equation d ∷ es)) e ∙ word-step modal d es w ∙ ap (step modal (atom d ∷ es)) (sym e)) (subst (λ z. FailsAt modal text (term d ∷ side_part z d ∷ es) p) v h)

    by : (u : TermTree) → the_source_term left ≡ term_of u → Span text p (term_tokens u) sign → FailsAt modal text (atom d ∷ es) p
    by (g.variable x) v s =
        let e : the_terminal p.terminal ≡ upper x = first-is (upper x) [] s refl in
        fails-as modal (term d ∷ equation d ∷ es) (atom d ∷ es) (ap (step modal (term d ∷ equation d ∷ es)) e ∙ ap (step modal (atom d ∷ es)) (sym e)) (subst (λ z. FailsAt modal text (term d ∷ side_part z d ∷ es) p) v h)
    by (g.constant w) v s = worded w [] _ _ v s
    by (g.application w u us) v s = worded w _ _ _ v s
