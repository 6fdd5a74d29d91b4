-- Reading terms.
use Rattle.std.proofs.Common.{◌≡◌, ◌==◌, ℕ, suc, true, List, [], ◌∷◌, ◌++◌, Some, refl, sym, ◌∙◌, ap, append_assoc, subst}
use Rattle.plain_laws.proofs.Options.{none_some}
use Rattle.tptp_lex.proofs.Runs.{some-is}
use Rattle.tptp_reader.specs.declared.source.SourceTerm as program
use Rattle.tptp_reader.specs.declared.source.SourceTerm.TheVariants.{Var, Fun}
use Rattle.tptp_reader.specs.declared.terminal.Piece.{Piece}
use Rattle.tptp_reader.specs.Sources as tree
use Rattle.tptp_reader.specs.Lists.{terms_list, terms_tree, terms_tree-terms_list}
use Rattle.tptp_reader.specs.TermView.{the_source_term}
use Rattle.tptp_reader.specs.Terminals.{Terminal, lower, quoted, upper, Follow}
use Rattle.tptp_reader.specs.TerminalView.{the_terminal}
use Rattle.tptp_reader.specs.Pieces.{placed}
use Rattle.tptp_reader.specs.Grammar as g
use Rattle.tptp_reader.specs.Grammar.{Word, plain, in_quotes, TermTree, word_token}
use Rattle.tptp_reader.specs.Meaning.{word_name, term_of, terms_of}
use Rattle.tptp_reader.specs.Nesting.{term_nestings, terms_nestings}
use Rattle.tptp_reader.specs.Expecting.{form}
use Rattle.tptp_reader.specs.Following.{is_shallow}
use Rattle.tptp_reader.specs.Spans.{Span, nothing, AreRead}
use Rattle.tptp_reader.specs.Standing.{word_in, TermRead, Arguments, no_arguments, these, arguments_tokens, arguments_of, arguments_nestings, ArgumentsRead, ArgumentsUpTo}
use Rattle.tptp_reader.proofs.SpanLaws.{span-one, span-more, span-join, read-more, read-first, read-join, opening-is, closing-is, comma-is}

-- the nesting of a term is that of its first token
pub term-shallow : (d : ℕ) (t : TermTree) (ns : List ℕ) → AreRead (term_nestings d t ++ ns) → is_shallow d ≡ true
term-shallow d (g.variable x) ns a = read-first d ns a
term-shallow d (g.constant w) ns a = read-first d ns a
term-shallow d (g.application w t us) ns a = read-first d (d ∷ (term_nestings (suc d) t ++ terms_nestings (suc d) us) ++ ns) a

-- ---- terms

-- the word of a token
pub record WordOf (x : Terminal) (name : List ℕ) : Type 0 where
  pub word : Word
  pub token : x ≡ word_token word
  pub named : name ≡ word_name word

pub word-of : (x : Terminal) (name : List ℕ) → word_in x ≡ Some name → WordOf x name
word-of (lower w) name e = record { word = plain w; token = refl; named = sym (some-is e) }
word-of (quoted w) name e = record { word = in_quotes w; token = refl; named = sym (some-is e) }
word-of _ name e = absurd (none_some e)

pub term-variable : {text : List ℕ} {p q : Piece} (d : ℕ) (name w : List ℕ) → name ≡ w → the_terminal p.terminal ≡ upper w → Follow text p.end (placed q ∷ []) q.end → is_shallow d ≡ true → TermRead text d p (Var name, q)
term-variable d name w n e f s = record {
  tree = g.variable w;
  value = ap tree.variable n;
  stands = span-one e f;
  shallow = read-more d [] s refl;
}

pub term-applied : {text : List ℕ} {p q : Piece} (d : ℕ) (name : List ℕ) (r : List tree.SourceTerm × Piece) → word_in (the_terminal p.terminal) ≡ Some name → Follow text p.end (placed q ∷ []) q.end → is_shallow d ≡ true → ArgumentsRead text d q r → TermRead text d p (Fun name r.0, r.1)
term-applied {text} {p} {q} d name r e f s a = by a.arguments a.value a.stands a.shallow
  where
    w : WordOf (the_terminal p.terminal) name
    w = word-of (the_terminal p.terminal) name e

    by : (b : Arguments) → r.0 ≡ arguments_of b → Span text q (arguments_tokens b) r.1 → AreRead (arguments_nestings d b) → TermRead text d p (Fun name r.0, r.1)
    by no_arguments v h n = record {
      tree = g.constant w.word;
      value = λ i. tree.apply (w.named i) (terms_tree (v i));
      stands = span-more w.token f h;
      shallow = read-more d [] s refl;
    }
    by (these t us) v h n = record {
      tree = g.application w.word t us;
      value = λ i. tree.apply (w.named i) ((ap terms_tree v ∙ ap (tree.more_terms (term_of t)) (terms_tree-terms_list (terms_of us))) i);
      stands = span-more w.token f h;
      shallow = read-more d (d ∷ (term_nestings (suc d) t ++ terms_nestings (suc d) us)) s n;
    }

-- ---- arguments

pub arguments-none : {text : List ℕ} {p : Piece} (d : ℕ) (read : List tree.SourceTerm) → read ≡ [] → ArgumentsRead text d p (read, p)
arguments-none {p = p} d read e = record { arguments = no_arguments; value = e; stands = nothing p; shallow = refl }

pub arguments-begun : {text : List ℕ} {p q : Piece} (d : ℕ) (read : List tree.SourceTerm) → read ≡ [] → (form (the_terminal p.terminal) == 0) ≡ true → Follow text p.end (placed q ∷ []) q.end → is_shallow d ≡ true → ArgumentsUpTo text d p read q
arguments-begun {p = p} d read e o f s = λ t us q h a. record {
  arguments = these t us;
  value = ap (λ z. z ++ term_of t ∷ terms_list (terms_of us)) e;
  stands = span-more (opening-is (the_terminal p.terminal) o) f h;
  shallow = read-more d (term_nestings (suc d) t ++ terms_nestings (suc d) us) s a;
}

-- one argument more, and the comma behind it
pub arguments-on : {text : List ℕ} {p here next q : Piece} (d : ℕ) (read : List tree.SourceTerm) (term : program.SourceTerm) → ArgumentsUpTo text d p read here → TermRead text (suc d) here (term, next) → (form (the_terminal next.terminal) == 14) ≡ true → Follow text next.end (placed q ∷ []) q.end
    → ArgumentsUpTo text d p (read ++ the_source_term term ∷ []) q
arguments-on {text} {p} {next = next} d read term u r c f = λ t us q' h a.
    let m = u r.tree (g.more_terms t us) q' (span-join r.stands (span-more (comma-is (the_terminal next.terminal) c) f h))
    (read-join (term_nestings (suc d) r.tree) (terms_nestings (suc d) (g.more_terms t us)) r.shallow
    (read-more (suc d) (term_nestings (suc d) t ++ terms_nestings (suc d) us) (term-shallow (suc d) t (terms_nestings (suc d) us) a) a)) in
    subst (λ (z : List tree.SourceTerm). ArgumentsRead text d p (z, q')) (ap (λ z. read ++ z ∷ term_of t ∷ terms_list (terms_of us)) (sym r.value) ∙ sym (append_assoc read (the_source_term term ∷ []) (term_of t ∷ terms_list (terms_of us)))) m

-- the last argument, and the bracket behind it
pub arguments-done : {text : List ℕ} {p here next q : Piece} (d : ℕ) (read : List tree.SourceTerm) (term : program.SourceTerm) → ArgumentsUpTo text d p read here → TermRead text (suc d) here (term, next) → (form (the_terminal next.terminal) == 11) ≡ true → Follow text next.end (placed q ∷ []) q.end
    → ArgumentsRead text d p (read ++ the_source_term term ∷ [], q)
arguments-done {text} {p} {next = next} {q = q} d read term u r c f =
    let m = u r.tree g.no_terms q (span-join r.stands (span-one (closing-is (the_terminal next.terminal) c) f))
    (read-join (term_nestings (suc d) r.tree) (suc d ∷ []) r.shallow
    (read-more (suc d) [] (term-shallow (suc d) r.tree [] (read-join (term_nestings (suc d) r.tree) [] r.shallow refl)) refl)) in
    subst (λ (z : List tree.SourceTerm). ArgumentsRead text d p (z, q)) (ap (λ z. read ++ z ∷ []) (sym r.value)) m
