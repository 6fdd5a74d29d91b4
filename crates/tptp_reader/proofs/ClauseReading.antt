-- Reading clauses.
use Rattle.std.proofs.Common.{◌≡◌, ◌==◌, ◌≤◌, ℕ, suc, Bool, true, false, List, [], ◌∷◌, ◌++◌, map, refl, sym, ◌∙◌, ap, append_assoc, append-nil, subst, arith}
use Rattle.std.proofs.lemmas.Bool.{false≢true}
use Rattle.tptp_reader.specs.declared.source.ChainKind.TheVariants.{Or}
use Rattle.tptp_reader.specs.declared.source.Source as program
use Rattle.tptp_reader.specs.declared.terminal.Piece.{Piece}
use Rattle.tptp_reader.specs.Sources as tree
use Rattle.tptp_reader.specs.Lists.{sources_tree}
use Rattle.tptp_reader.specs.SourceView.{the_source}
use Rattle.tptp_reader.specs.Terminals.{Terminal, close_round, tilde, bar, Follow}
use Rattle.tptp_reader.specs.TerminalView.{the_terminal}
use Rattle.tptp_reader.specs.Pieces.{placed}
use Rattle.tptp_reader.specs.Grammar.{AtomTree, LiteralTree, positive, negative, positive_bracketed, negative_bracketed, bare, bracketed_clause, atom_tokens, literal_tokens, literals_tokens}
use Rattle.tptp_reader.specs.Meaning.{atom_of, literal_of, disjunction_of}
use Rattle.tptp_reader.specs.Nesting.{atom_nestings, literal_nestings, literals_nestings}
use Rattle.tptp_reader.specs.Expecting.{form}
use Rattle.tptp_reader.specs.Spans.{Span, nothing, AreRead}
use Rattle.tptp_reader.specs.Standing.{AtomRead, IsClosed}
use Rattle.tptp_reader.specs.ClauseStanding.{unsigned_tokens, unsigned_nestings, UnsignedRead, LiteralRead, MoreRead, joined_to, OthersRead, DisjunctionRead, InsideRead, OutsideRead, ClauseRead, OpenedRead}
use Rattle.tptp_reader.proofs.ReadLaws.{little}
use Rattle.tptp_reader.proofs.SpanLaws.{span-same, span-more, span-join, read-more, read-join, opening-is}

bar-is : (x : Terminal) → (form x == 4) ≡ true → x ≡ bar
bar-is bar h = refl
bar-is _ h = absurd (false≢true h)

tilde-is : (x : Terminal) → (form x == 17) ≡ true → x ≡ tilde
tilde-is tilde h = refl
tilde-is _ h = absurd (false≢true h)

-- ---- literals

pub unsigned-bare : {text : List ℕ} {d : ℕ} {p : Piece} {r : program.Source × Piece} → AtomRead text d p r → UnsignedRead text d p r
unsigned-bare a = record { bracketed = false; inner = a.tree; value = a.value; stands = a.stands; shallow = a.shallow }

pub unsigned-bracketed : {text : List ℕ} (d e : ℕ) {p start close : Piece} {source : program.Source} {r : program.Source × Piece} → e ≡ suc d → d ≤ 2 → (form (the_terminal p.terminal) == 0) ≡ true → Follow text p.end (placed start ∷ []) start.end
    → AtomRead text e start (source, close) → IsClosed text (the_source source) close r → UnsignedRead text d p r
unsigned-bracketed {text} d e {p} {start} {close} {source} {r} h l o f a k =
    let n : AreRead (atom_nestings (suc d) a.tree) = subst (λ z. AreRead (atom_nestings z a.tree)) h a.shallow in
    record {
      bracketed = true;
      inner = a.tree;
      value = k.0 ∙ a.value;
      stands = span-more (opening-is (the_terminal p.terminal) o) f (span-join a.stands k.1);
      shallow = read-more d (atom_nestings (suc d) a.tree ++ suc d ∷ []) (little d (omega (arith, l)))
          (read-join (atom_nestings (suc d) a.tree) (suc d ∷ []) n (read-more (suc d) [] (little (suc d) (omega (arith, l))) refl));
    }

pub literal-positive : {text : List ℕ} {d : ℕ} {p : Piece} {r : program.Source × Piece} → UnsignedRead text d p r → LiteralRead text d p r
literal-positive {text} {d} {p} {r} u = by u.bracketed u.inner u.value u.stands u.shallow
  where
    by : (b : Bool) (a : AtomTree) → the_source r.0 ≡ atom_of a → Span text p (unsigned_tokens b a) r.1 → AreRead (unsigned_nestings d b a) → LiteralRead text d p r
    by false a v s h = record { literal = positive a; value = v; stands = s; shallow = h }
    by true a v s h = record { literal = positive_bracketed a; value = v; stands = s; shallow = h }

pub literal-negative : {text : List ℕ} (d e : ℕ) {p start after : Piece} {source : program.Source} (negated : program.Source) → e ≡ suc d → d ≤ 1 → (form (the_terminal p.terminal) == 17) ≡ true → Follow text p.end (placed start ∷ []) start.end
    → UnsignedRead text e start (source, after) → the_source negated ≡ tree.not (the_source source) → LiteralRead text d p (negated, after)
literal-negative {text} d e {p} {start} {after} {source} negated h l o f u w = by u.bracketed u.inner u.value u.stands (subst (λ z. AreRead (unsigned_nestings z u.bracketed u.inner)) h u.shallow)
  where
    by : (b : Bool) (a : AtomTree) → the_source source ≡ atom_of a → Span text start (unsigned_tokens b a) after → AreRead (unsigned_nestings (suc d) b a) → LiteralRead text d p (negated, after)
    by false a v s n = record {
      literal = negative a;
      value = w ∙ ap tree.not v;
      stands = span-more (tilde-is (the_terminal p.terminal) o) f s;
      shallow = read-more d (atom_nestings (suc d) a) (little d (omega (arith, l))) n;
    }
    by true a v s n = record {
      literal = negative_bracketed a;
      value = w ∙ ap tree.not v;
      stands = span-more (tilde-is (the_terminal p.terminal) o) f s;
      shallow = read-more d (suc d ∷ (atom_nestings (suc (suc d)) a ++ suc (suc d) ∷ [])) (little d (omega (arith, l))) n;
    }

-- ---- literals behind others

values-snoc : (ls : List LiteralTree) (l : LiteralTree) → map literal_of (ls ++ l ∷ []) ≡ map literal_of ls ++ literal_of l ∷ []
values-snoc [] l = refl
values-snoc (m ∷ ls) l = ap (λ z. literal_of m ∷ z) (values-snoc ls l)

tokens-snoc : (ls : List LiteralTree) (l : LiteralTree) → literals_tokens ls ++ (bar ∷ literal_tokens l) ≡ literals_tokens (ls ++ l ∷ [])
tokens-snoc [] l = sym (append-nil (bar ∷ literal_tokens l))
tokens-snoc (m ∷ ls) l = append_assoc (bar ∷ literal_tokens m) (literals_tokens ls) (bar ∷ literal_tokens l) ∙ ap (λ z. (bar ∷ literal_tokens m) ++ z) (tokens-snoc ls l)

nestings-snoc : (d : ℕ) (ls : List LiteralTree) (l : LiteralTree) → literals_nestings d ls ++ (d ∷ literal_nestings d l) ≡ literals_nestings d (ls ++ l ∷ [])
nestings-snoc d [] l = sym (append-nil (d ∷ literal_nestings d l))
nestings-snoc d (m ∷ ls) l = append_assoc (d ∷ literal_nestings d m) (literals_nestings d ls) (d ∷ literal_nestings d l) ∙ ap (λ z. (d ∷ literal_nestings d m) ++ z) (nestings-snoc d ls l)

pub more-begun : {text : List ℕ} {d : ℕ} (before : List tree.Source) (p : Piece) → MoreRead text d before p (before, p)
more-begun before p = record { literals = []; value = sym (append-nil before); stands = nothing p; shallow = refl }

pub more-on : {text : List ℕ} {d : ℕ} {before values : List tree.Source} {p here start after : Piece} {literal : program.Source} (now : List tree.Source) → d ≤ 1 → MoreRead text d before p (values, here) → (form (the_terminal here.terminal) == 4) ≡ true → Follow text here.end (placed start ∷ []) start.end
    → LiteralRead text d start (literal, after) → now ≡ values ++ the_source literal ∷ [] → MoreRead text d before p (now, after)
more-on {text} {d} {before} {values} {p} {here} {start} {after} {literal} now l m o f k e =
    record {
      literals = m.literals ++ k.literal ∷ [];
      value = e ∙ ap (λ z. values ++ z ∷ []) k.value ∙ ap (λ z. z ++ literal_of k.literal ∷ []) m.value
          ∙ append_assoc before (map literal_of m.literals) (literal_of k.literal ∷ []) ∙ ap (λ z. before ++ z) (sym (values-snoc m.literals k.literal));
      stands = span-same (span-join m.stands (span-more (bar-is (the_terminal here.terminal) o) f k.stands)) (tokens-snoc m.literals k.literal);
      shallow = subst (λ z. AreRead z) (nestings-snoc d m.literals k.literal)
          (read-join (literals_nestings d m.literals) (d ∷ literal_nestings d k.literal) m.shallow (read-more d (literal_nestings d k.literal) (little d (omega (arith, l))) k.shallow));
    }

span-none : {text : List ℕ} {p q : Piece} → Span text p [] q → p ≡ q
span-none (nothing p) = refl

pub others-none : {text : List ℕ} {d : ℕ} (first : program.Source) (p : Piece) → OthersRead text d (the_source first) p (first, p)
others-none first p = record { others = []; value = refl; stands = nothing p; shallow = refl }

pub others-more : {text : List ℕ} {d : ℕ} {before values : List tree.Source} {first : tree.Source} {p after : Piece} (source : program.Source) → (form (the_terminal p.terminal) == 4) ≡ true → before ≡ first ∷ [] → MoreRead text d before p (values, after)
    → (form (the_terminal after.terminal) == 4) ≡ false → the_source source ≡ tree.chain Or (sources_tree values) → OthersRead text d first p (source, after)
others-more {text} {d} {before} {values} {first} {p} {after} source o b m n e = by m.literals (m.value ∙ ap (λ z. z ++ map literal_of m.literals) b) m.stands m.shallow
  where
    by : (ls : List LiteralTree) → values ≡ first ∷ map literal_of ls → Span text p (literals_tokens ls) after → AreRead (literals_nestings d ls) → OthersRead text d first p (source, after)
    by [] v s h = absurd (false≢true (sym n ∙ ap (λ (z : Piece). form (the_terminal z.terminal) == 4) (sym (span-none s)) ∙ o))
    by (l ∷ ls) v s h = record { others = l ∷ ls; value = e ∙ ap (λ z. tree.chain Or (sources_tree z)) v; stands = s; shallow = h }

joined-is : (l : LiteralTree) (ls : List LiteralTree) → joined_to (literal_of l) ls ≡ disjunction_of l ls
joined-is l [] = refl
joined-is l (m ∷ ms) = refl

pub disjunction-read : {text : List ℕ} {d : ℕ} {p sign : Piece} {first : program.Source} {r : program.Source × Piece} → LiteralRead text d p (first, sign) → OthersRead text d (the_source first) sign r → DisjunctionRead text d p r
disjunction-read {d = d} k o = record {
  first = k.literal;
  others = o.others;
  value = o.value ∙ ap (λ z. joined_to z o.others) k.value ∙ joined-is k.literal o.others;
  stands = span-join k.stands o.stands;
  shallow = read-join (literal_nestings d k.literal) (literals_nestings d o.others) k.shallow o.shallow;
}

-- ---- clauses

pub bracketed-read : {text : List ℕ} {p close : Piece} {source : program.Source} {r : program.Source × Piece} → DisjunctionRead text 1 p (source, close) → IsClosed text (the_source source) close r → OpenedRead text p r
bracketed-read {r = r} k h = record {
  clause = bracketed_clause k.first k.others;
  behind = literal_tokens k.first ++ literals_tokens k.others ++ close_round ∷ [];
  deeper = literal_nestings 1 k.first ++ literals_nestings 1 k.others ++ 1 ∷ [];
  tokens = refl;
  nestings = refl;
  value = h.0 ∙ k.value;
  stands = span-join k.stands h.1;
  shallow = read-join (literal_nestings 1 k.first ++ literals_nestings 1 k.others) (1 ∷ []) k.shallow refl;
}

pub inside-read : {text : List ℕ} {p close : Piece} {first : tree.Source} {source : program.Source} {r : program.Source × Piece} → OthersRead text 1 first p (source, close) → IsClosed text (the_source source) close r → InsideRead text first p r
inside-read o h = record { others = o.others; value = h.0 ∙ o.value; stands = span-join o.stands h.1; shallow = o.shallow }

pub outside-read : {text : List ℕ} {close : Piece} {first : tree.Source} (source : program.Source) (after : Piece) {r : program.Source × Piece} → IsClosed text first close (source, after) → OthersRead text 0 (the_source source) after r → OutsideRead text first close r
outside-read source after h o = record { others = o.others; value = o.value ∙ ap (λ z. joined_to z o.others) h.0; stands = span-join h.1 o.stands; shallow = o.shallow }

pub opened-outside : {text : List ℕ} {p sign : Piece} {first : program.Source} {r : program.Source × Piece} → AtomRead text 1 p (first, sign) → OutsideRead text (the_source first) sign r → OpenedRead text p r
opened-outside a o = record {
  clause = bare (positive_bracketed a.tree) o.others;
  behind = (atom_tokens a.tree ++ close_round ∷ []) ++ literals_tokens o.others;
  deeper = (atom_nestings 1 a.tree ++ 1 ∷ []) ++ literals_nestings 0 o.others;
  tokens = refl;
  nestings = refl;
  value = o.value ∙ ap (λ z. joined_to z o.others) a.value ∙ joined-is (positive_bracketed a.tree) o.others;
  stands = span-same (span-join a.stands o.stands) (sym (append_assoc (atom_tokens a.tree) (close_round ∷ []) (literals_tokens o.others)));
  shallow = read-join (atom_nestings 1 a.tree ++ 1 ∷ []) (literals_nestings 0 o.others) (read-join (atom_nestings 1 a.tree) (1 ∷ []) a.shallow refl) o.shallow;
}

pub opened-inside : {text : List ℕ} {p sign : Piece} {first : program.Source} {r : program.Source × Piece} → AtomRead text 1 p (first, sign) → InsideRead text (the_source first) sign r → OpenedRead text p r
opened-inside a o = record {
  clause = bracketed_clause (positive a.tree) o.others;
  behind = (atom_tokens a.tree ++ literals_tokens o.others) ++ close_round ∷ [];
  deeper = (atom_nestings 1 a.tree ++ literals_nestings 1 o.others) ++ 1 ∷ [];
  tokens = refl;
  nestings = refl;
  value = o.value ∙ ap (λ z. joined_to z o.others) a.value ∙ joined-is (positive a.tree) o.others;
  stands = span-same (span-join a.stands o.stands) (sym (append_assoc (atom_tokens a.tree) (literals_tokens o.others) (close_round ∷ [])));
  shallow = read-join (atom_nestings 1 a.tree ++ literals_nestings 1 o.others) (1 ∷ []) (read-join (atom_nestings 1 a.tree) (literals_nestings 1 o.others) a.shallow o.shallow) refl;
}

pub clause-bare : {text : List ℕ} {p : Piece} {r : program.Source × Piece} → DisjunctionRead text 0 p r → ClauseRead text p r
clause-bare k = record { clause = bare k.first k.others; value = k.value; stands = k.stands; shallow = k.shallow }

pub clause-opened : {text : List ℕ} {p start : Piece} {r : program.Source × Piece} → (form (the_terminal p.terminal) == 0) ≡ true → Follow text p.end (placed start ∷ []) start.end → OpenedRead text start r → ClauseRead text p r
clause-opened {p = p} o f k = record {
  clause = k.clause;
  value = k.value;
  stands = span-same (span-more (opening-is (the_terminal p.terminal) o) f k.stands) (sym k.tokens);
  shallow = subst (λ z. AreRead z) (sym k.nestings) (read-more 0 k.deeper refl k.shallow);
}
