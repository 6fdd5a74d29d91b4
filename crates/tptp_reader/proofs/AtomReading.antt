-- Reading atoms and equations.
use Rattle.std.proofs.Common.{◌≡◌, ◌==◌, ℕ, Bool, true, false, List, [], ◌∷◌, ◌++◌, Some, None, refl, ◌∙◌, ap, append-nil, codes, subst, if◌then◌else◌}
use Rattle.std.proofs.lemmas.Bool.{false≢true}
use Rattle.plain_laws.proofs.Options.{none_some}
use Rattle.tptp_lex.proofs.Runs.{some-is}
use Rattle.tptp_reader.specs.declared.source.Source as program
use Rattle.tptp_reader.specs.declared.source.Source.TheVariants.{True, False, Equal, Unequal, Atom}
use Rattle.tptp_reader.specs.declared.source.SourceTerm as program_term
use Rattle.tptp_reader.specs.declared.terminal.Piece.{Piece}
use Rattle.tptp_reader.specs.Sources as tree
use Rattle.tptp_reader.specs.Lists.{terms_tree}
use Rattle.tptp_reader.specs.TermView.{the_source_term}
use Rattle.tptp_reader.specs.SourceView.{the_source}
use Rattle.tptp_reader.specs.Terminals.{Terminal, dollar, Follow}
use Rattle.tptp_reader.specs.TerminalView.{the_terminal}
use Rattle.tptp_reader.specs.Pieces.{placed}
use Rattle.tptp_reader.specs.Grammar as g
use Rattle.tptp_reader.specs.Grammar.{TermTree, term_tokens, atom_tokens}
use Rattle.tptp_reader.specs.Meaning.{term_of}
use Rattle.tptp_reader.specs.Nesting.{term_nestings, atom_nestings}
use Rattle.tptp_reader.specs.Expecting.{form, is_word}
use Rattle.tptp_reader.specs.Following.{is_shallow}
use Rattle.tptp_reader.specs.Spans.{Span, nothing, AreRead}
use Rattle.tptp_reader.specs.Standing.{truth_in, TermRead, RightRead, Side, no_side, equals, differs, side_tokens, side_fits, side_nestings, atom_with, SideRead, AtomRead}
use Rattle.tptp_reader.proofs.FormulaForms.{word-is}
use Rattle.tptp_reader.proofs.SpanLaws.{span-one, span-more, span-join, span-same, read-more, read-join, equal-is, unequal-is}
use Rattle.tptp_reader.proofs.TermReading.{term-shallow}

-- ---- what stands behind the first term

-- the nesting of a term is that of its first token
term-first : (d : ℕ) (t : TermTree) → AreRead (term_nestings d t) → is_shallow d ≡ true
term-first d t a = term-shallow d t [] (read-join (term_nestings d t) [] a refl)

pub side-equal : {text : List ℕ} {sign q : Piece} (d : ℕ) (left right : program_term.SourceTerm) → (form (the_terminal sign.terminal) == 1) ≡ true → RightRead text d sign (right, q) → SideRead text d (the_source_term left) sign (Equal left right, q)
side-equal {sign = sign} d left right e r = record {
  side = equals r.2.tree;
  value = ap (tree.equal (the_source_term left)) r.2.value;
  stands = span-more (equal-is (the_terminal sign.terminal) e) r.1 r.2.stands;
  fits = refl;
  shallow = read-more d (term_nestings d r.2.tree) (term-first d r.2.tree r.2.shallow) r.2.shallow;
}

pub side-unequal : {text : List ℕ} {sign q : Piece} (d : ℕ) (left right : program_term.SourceTerm) → (form (the_terminal sign.terminal) == 2) ≡ true → RightRead text d sign (right, q) → SideRead text d (the_source_term left) sign (Unequal left right, q)
side-unequal {sign = sign} d left right e r = record {
  side = differs r.2.tree;
  value = ap (tree.unequal (the_source_term left)) r.2.value;
  stands = span-more (unequal-is (the_terminal sign.terminal) e) r.1 r.2.stands;
  fits = refl;
  shallow = read-more d (term_nestings d r.2.tree) (term-first d r.2.tree r.2.shallow) r.2.shallow;
}

pub side-none : {text : List ℕ} {sign : Piece} (d : ℕ) (name : List ℕ) (args : List tree.SourceTerm) → SideRead text d (tree.apply name (terms_tree args)) sign (Atom name args, sign)
side-none {sign = sign} d name args = record { side = no_side; value = refl; stands = nothing sign; fits = refl; shallow = refl }

-- ---- atoms

-- the atom of a word with `$`
pub record TruthOf (x : Terminal) (holds : Bool) : Type 0 where
  pub word : List ℕ
  pub token : x ≡ dollar word
  pub said : word ≡ (if holds then codes "$true" else codes "$false")

pub truth-of : (x : Terminal) (holds : Bool) → truth_in x ≡ Some holds → TruthOf x holds
truth-of (dollar w) holds e = by (is_word w (codes "$true")) (is_word w (codes "$false")) refl refl e
  where
    by : (t f : Bool) → is_word w (codes "$true") ≡ t → is_word w (codes "$false") ≡ f → (if t then Some true else (if f then Some false else None)) ≡ Some holds → TruthOf (dollar w) holds
    by true f h k q = subst (TruthOf (dollar w)) (some-is q) (record { word = w; token = refl; said = word-is w (codes "$true") h })
    by false true h k q = subst (TruthOf (dollar w)) (some-is q) (record { word = w; token = refl; said = word-is w (codes "$false") k })
    by false false h k q = absurd (none_some q)
truth-of _ holds e = absurd (none_some e)

pub atom-true : {text : List ℕ} {p q : Piece} (d : ℕ) → truth_in (the_terminal p.terminal) ≡ Some true → Follow text p.end (placed q ∷ []) q.end → is_shallow d ≡ true → AtomRead text d p (True, q)
atom-true {p = p} d e f s =
    let t = truth-of (the_terminal p.terminal) true e in
    record { tree = g.truth; value = refl; stands = span-one (t.token ∙ ap dollar t.said) f; shallow = read-more d [] s refl }

pub atom-false : {text : List ℕ} {p q : Piece} (d : ℕ) → truth_in (the_terminal p.terminal) ≡ Some false → Follow text p.end (placed q ∷ []) q.end → is_shallow d ≡ true → AtomRead text d p (False, q)
atom-false {p = p} d e f s =
    let t = truth-of (the_terminal p.terminal) false e in
    record { tree = g.falsity; value = refl; stands = span-one (t.token ∙ ap dollar t.said) f; shallow = read-more d [] s refl }

pub atom-read : {text : List ℕ} {p sign q : Piece} (d : ℕ) (left : program_term.SourceTerm) (source : program.Source) → TermRead text d p (left, sign) → SideRead text d (the_source_term left) sign (source, q) → AtomRead text d p (source, q)
atom-read {text} {p} {sign} {q} d left source t s = by t.tree s.side (s.value ∙ ap (atom_with s.side) t.value) (subst (λ z. side_fits s.side z ≡ true) t.value s.fits) (span-join t.stands s.stands) (read-join (term_nestings d t.tree) (side_nestings d s.side) t.shallow s.shallow)
  where
    by : (u : TermTree) (r : Side) → the_source source ≡ atom_with r (term_of u) → side_fits r (term_of u) ≡ true → Span text p (term_tokens u ++ side_tokens r) q → AreRead (term_nestings d u ++ side_nestings d r) → AtomRead text d p (source, q)
    by (g.variable x) no_side v f h a = absurd (false≢true f)
    by (g.constant w) no_side v f h a = record { tree = g.proposition w; value = v; stands = h; shallow = a }
    by (g.application w u us) no_side v f h a = record {
      tree = g.predication w u us;
      value = v;
      stands = span-same h (append-nil (atom_tokens (g.predication w u us)));
      shallow = subst AreRead (append-nil (atom_nestings d (g.predication w u us))) a;
    }
    by u (equals r) v f h a = record { tree = g.equation u r; value = v; stands = h; shallow = a }
    by u (differs r) v f h a = record { tree = g.disequation u r; value = v; stands = h; shallow = a }
