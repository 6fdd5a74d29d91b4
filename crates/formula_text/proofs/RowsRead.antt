-- Reading terms into rows, step by step. The laws on frames say what the text of the open terms leaves.
use Rattle.std.proofs.Common.{◌≡◌, ℕ, ◌+◌, ◌<◌, ◌≤◌, Result, Err, true, List, [], ◌∷◌, ◌++◌, IsTrue, length, drop, refl, sym, ◌∙◌, ap, subst, append-nil, append_assoc, set, arith}
use Rattle.std.proofs.lemmas.Bool.{and_from, false≢true}
use Rattle.std.proofs.lemmas.List.{length-append, set_at}
use Rattle.calculus.specs.DerivationText.{IsNameAt, IsTermAt, term_is_written}
use Rattle.calculus.specs.Lists.{terms_tree}
use Rattle.calculus.specs.Problems.{are_distinct}
use Rattle.calculus.specs.Skolem.{has_function}
use Rattle.calculus.specs.Syntax.{Symbol, Term, fun, eigen, spare, no_terms, arity_of}
use Rattle.calculus.specs.Text.{Ends, name_text, term_text}
use Rattle.cop_base.specs.declared.SymbolId.{SymbolId}
use Rattle.formula_text.specs.Rows.{row_of, rows_of}
use Rattle.formula_text.specs.declared.term_row.RowItem.{RowItem}
use Rattle.formula_text.specs.declared.term_row.RowItem.TheVariants.{Var, Fun, Eigen, Spare}
use Rattle.formula_text.specs.RowReading.{AreOpen, IsBegun, IsLeaf, IsOpenAt, IsOpened, IsOpening, IsPut, IsRead, IsRowTo, kept, leaf_of, open_row, open_rows}
use Rattle.formula_text.specs.declared.term_reader.OpenTerm.{OpenTerm}
use Rattle.formula_text.proofs.Closings.{further-read, further-written, new_frame, none-at, open-read, open-written, out-read, read-at, whole-written, with_args}
use Rattle.formula_text.proofs.Frames.{arity-push, frames-pop, function-has, function-text, no_close_end, no_close_function, no_follower, no_head}
use Rattle.formula_text.proofs.Places.{onward-drop}
use Rattle.formula_text.specs.Frames.{Frame, IsFunction, IsMadeAt, NoFunction, NoTerm, frames_are_written, stack_text}

-- ---- the rows of open terms

rows-push : (ts : List Term) (t : Term) → rows_of (terms_tree (ts ++ t ∷ [])) ≡ rows_of (terms_tree ts) ++ row_of t
rows-push [] t = append-nil (row_of t)
rows-push (u ∷ ts) t = ap (λ l. row_of u ++ l) (rows-push ts t) ∙ sym (append_assoc (row_of u) (rows_of (terms_tree ts)) (row_of t))

open_rows-push : (fs : List Frame) (f : Frame) → open_rows (fs ++ f ∷ []) ≡ open_rows fs ++ open_row f
open_rows-push [] f = append-nil (open_row f)
open_rows-push (g ∷ fs) f = ap (λ l. open_row g ++ l) (open_rows-push fs f) ∙ sym (append_assoc (open_row g) (open_rows fs) (open_row f))

-- ---- open terms and their frames

moved : (bytes : List ℕ) (m n : ℕ) (o : OpenTerm) (f : Frame) → m ≡ n → IsOpenAt bytes m o f → IsOpenAt bytes n o f
moved bytes m n o f e h = subst (λ k. IsOpenAt bytes k o f) e h

behind : (at : ℕ) (xs ys : List RowItem) → (at + length xs) + length ys ≡ at + length (xs ++ ys)
behind at xs ys = omega (arith, length-append xs ys)

open-push : (bytes : List ℕ) (at : ℕ) (os : List OpenTerm) (o : OpenTerm) (fs : List Frame) (f : Frame) → AreOpen bytes at os fs → IsOpenAt bytes (at + length (open_rows fs)) o f → AreOpen bytes at (os ++ o ∷ []) (fs ++ f ∷ [])
open-push bytes at [] o [] f h k = (moved bytes (at + 0) at o f (omega arith) k, tt)
open-push bytes at [] o (g ∷ fs) f h k = absurd h
open-push bytes at (p ∷ os) o [] f h k = absurd h
open-push bytes at (p ∷ os) o (g ∷ fs) f h k =
    (h.0, open-push bytes (at + length (open_row g)) os o fs f h.1 (moved bytes (at + length (open_rows (g ∷ fs))) ((at + length (open_row g)) + length (open_rows fs)) o f (sym (behind at (open_row g) (open_rows fs))) k))

record Popped (bytes : List ℕ) (at : ℕ) (os : List OpenTerm) (o : OpenTerm) (fs : List Frame) : Type 0 where
  rest : List Frame
  frame : Frame
  same : fs ≡ rest ++ frame ∷ []
  stands : AreOpen bytes at os rest
  last : IsOpenAt bytes (at + length (open_rows rest)) o frame

open-pop : (bytes : List ℕ) (at : ℕ) (os : List OpenTerm) (o : OpenTerm) (fs : List Frame) → AreOpen bytes at (os ++ o ∷ []) fs → Popped bytes at os o fs
open-pop bytes at [] o [] h = absurd h
open-pop bytes at [] o (f ∷ []) h = record { rest = []; frame = f; same = refl; stands = tt; last = moved bytes at (at + 0) o f (omega arith) h.0 }
open-pop bytes at [] o (f ∷ g ∷ fs) h = absurd h.1
open-pop bytes at (p ∷ os) o [] h = absurd h
open-pop bytes at (p ∷ os) o (f ∷ fs) h =
    let k = open-pop bytes (at + length (open_row f)) os o fs h.1 in record {
      rest = f ∷ k.rest;
      frame = k.frame;
      same = ap (λ l. f ∷ l) k.same;
      stands = (h.0, k.stands);
      last = moved bytes ((at + length (open_row f)) + length (open_rows k.rest)) (at + length (open_rows (f ∷ k.rest))) o k.frame (behind at (open_row f) (open_rows k.rest)) k.last;
    }

-- ---- how a term begins

-- an error that is handed on
pub error-again : {T U E : Type 0} (y z : E) → ◌≡◌ {A = Result U E} (Err y) (Err z) → ◌≡◌ {A = Result T E} (Err y) (Err z)
error-again {T} {U} {E} y z e = ap Err (same y z e)
  where
    same : (y z : E) → ◌≡◌ {A = Result U E} (Err y) (Err z) → y ≡ z
    same y z e = cc

pub made-leaf : (S : List Symbol) (bytes : List ℕ) (from to : ℕ) (item : RowItem) → IsMadeAt bytes from to (leaf_of item) → to ≤ length bytes → IsLeaf S bytes from to item
made-leaf S bytes from to (Var k) h within = absurd (false≢true h.made)
made-leaf S bytes from to (Fun f n) h within = absurd (false≢true h.made)
made-leaf S bytes from to (Eigen n) h within = record { term = eigen n; row = refl; whole = record { written = h.whole.written; text = h.whole.text; ends = h.whole.ends }; within = within }
made-leaf S bytes from to (Spare n) h within = record { term = spare n; row = refl; whole = record { written = h.whole.written; text = h.whole.text; ends = h.whole.ends }; within = within }

pub constant-leaf : (S : List Symbol) (bytes : List ℕ) (from end : ℕ) (id : SymbolId) (name : List ℕ) → IsNameAt bytes from end name → end ≤ length bytes → Ends (drop end bytes) → IsFunction S id.0 name 0 → IsLeaf S bytes from end (Fun id 0)
constant-leaf S bytes from end id name n within ends f = record {
  term = fun id.0 no_terms;
  row = refl;
  whole = record {
    written = and_from (has_function S id.0 0) true (function-has S id.0 0 name f) refl;
    text = n.stands.there ∙ ap (λ l. l ++ drop end bytes) (sym (append-nil (name_text name)) ∙ ap (λ l. l ++ []) (sym (function-text S id.0 0 name f)));
    ends = ends;
  };
  within = within;
}

pub none-begun : (S : List Symbol) → IsTrue (are_distinct S) → (bytes : List ℕ) (place : ℕ) (os : List OpenTerm) (items : List RowItem) → IsBegun S bytes place os items → NoTerm S (drop place bytes) → NoTerm S bytes
none-begun S d bytes place os items h none = subst (NoTerm S) (sym h.text) (no_head S d h.frames (drop place bytes) h.written none)

opening-text : (bytes : List ℕ) (place end : ℕ) (k : IsOpening bytes place end) → drop place bytes ≡ name_text k.name ++ 40 ∷ drop end bytes
opening-text bytes place end k = k.named.stands.there ∙ ap (λ l. name_text k.name ++ l) k.bracket

pub opened : (S : List Symbol) (bytes : List ℕ) (place end : ℕ) (os pushed : List OpenTerm) (items new : List RowItem) → IsBegun S bytes place os items → IsOpening bytes place end → IsOpened place os pushed items new → IsBegun S bytes end pushed new
opened S bytes place end os pushed items new h k p =
    let f = new_frame k.name [] in
    let o : OpenTerm = record { from = place; at = length items; count = 0 } in
    let at : length items ≡ length (open_rows h.frames) = ap length h.row in record {
      frames = h.frames ++ f ∷ [];
      stands = subst (λ l. AreOpen bytes 0 l (h.frames ++ f ∷ [])) (sym p.open_term)
          (open-push bytes 0 os o h.frames f h.stands (record { place = omega (arith, at); count = refl; end = k.to; named = k.named; within = h.within }));
      row = p.row ∙ ap (λ l. l ++ kept ∷ []) h.row ∙ sym (open_rows-push h.frames f);
      written = open-written S h.frames (h.frames ++ f ∷ []) k.name [] refl refl h.written;
      text = open-read S bytes 0 place end h.frames (h.frames ++ f ∷ []) k.name [] refl refl h.text (opening-text bytes place end k);
      within = k.within;
    }

-- ---- what a term closes

-- a term was read, and the innermost open term is apart
pub record IsReadIn (S : List Symbol) (bytes : List ℕ) (end : ℕ) (os : List OpenTerm) (o : OpenTerm) (items : List RowItem) : Type 0 where
  pub rest : List Frame
  pub frame : Frame
  pub term : Term
  pub stands : AreOpen bytes 0 os rest
  pub last : IsOpenAt bytes (0 + length (open_rows rest)) o frame
  pub row : items ≡ open_rows rest ++ (open_row frame ++ row_of term)
  pub written : IsTrue (frames_are_written S (rest ++ frame ∷ []))
  pub term_written : IsTrue (term_is_written S term)
  pub text : bytes ≡ stack_text S (rest ++ frame ∷ []) ++ (term_text S 0 term ++ drop end bytes)
  pub ends : Ends (drop end bytes)
  pub within : end ≤ length bytes

pub read-in : (S : List Symbol) (bytes : List ℕ) (end : ℕ) (os all : List OpenTerm) (o : OpenTerm) (items : List RowItem) → all ≡ os ++ o ∷ [] → IsRead S bytes end all items → IsReadIn S bytes end os o items
read-in S bytes end os all o items e h =
    let p = open-pop bytes 0 os o h.frames (subst (λ l. AreOpen bytes 0 l h.frames) e h.stands) in record {
      rest = p.rest;
      frame = p.frame;
      term = h.term;
      stands = p.stands;
      last = p.last;
      row = h.row ∙ ap (λ l. l ++ row_of h.term) (ap open_rows p.same ∙ open_rows-push p.rest p.frame) ∙ append_assoc (open_rows p.rest) (open_row p.frame) (row_of h.term);
      written = subst (λ l. IsTrue (frames_are_written S l)) p.same h.written;
      term_written = h.term_written;
      text = h.text ∙ ap (λ l. stack_text S l ++ (term_text S 0 h.term ++ drop end bytes)) p.same;
      ends = h.ends;
      within = h.within;
    }

-- the open term with one argument more
abbrev pub more : OpenTerm → OpenTerm
more o = record { from = o.from; at = o.at; count = o.count + 1 }

counted : (S : List Symbol) (bytes : List ℕ) (end : ℕ) (os : List OpenTerm) (o : OpenTerm) (items : List RowItem) (h : IsReadIn S bytes end os o items) → o.count + 1 ≡ length (h.frame.args ++ h.term ∷ [])
counted S bytes end os o items h = ap (λ n. n + 1) h.last.count ∙ sym (length-append h.frame.args (h.term ∷ []))

text-at : (S : List Symbol) (bytes next : List ℕ) (end : ℕ) (os : List OpenTerm) (o : OpenTerm) (items : List RowItem) (h : IsReadIn S bytes end os o items) → drop end bytes ≡ next → stack_text S (h.rest ++ h.frame ∷ []) ++ (term_text S 0 h.term ++ next) ≡ bytes
text-at S bytes next end os o items h e = read-at S (h.rest ++ h.frame ∷ []) (h.rest ++ h.frame ∷ []) h.term (drop end bytes) next bytes refl e (sym h.text)

-- a comma
pub argument : (S : List Symbol) (bytes : List ℕ) (end : ℕ) (os pushed : List OpenTerm) (o : OpenTerm) (items : List RowItem) → IsReadIn S bytes end os o items
    → drop end bytes ≡ 44 ∷ drop (end + 1) bytes → end < length bytes → pushed ≡ os ++ more o ∷ [] → IsBegun S bytes (end + 1) pushed items
argument S bytes end os pushed o items h e within p =
    let args = h.frame.args ++ h.term ∷ [] in
    let f = with_args h.frame args in record {
      frames = h.rest ++ f ∷ [];
      stands = subst (λ l. AreOpen bytes 0 l (h.rest ++ f ∷ [])) (sym p)
          (open-push bytes 0 os (more o) h.rest f h.stands (record { place = h.last.place; count = counted S bytes end os o items h; end = h.last.end; named = h.last.named; within = h.last.within }));
      row = h.row ∙ ap (λ l. open_rows h.rest ++ kept ∷ l) (sym (rows-push h.frame.args h.term)) ∙ sym (open_rows-push h.rest f);
      written = further-written S h.rest (h.rest ++ f ∷ []) h.frame h.term args refl refl h.written h.term_written;
      text = further-read S h.rest (h.rest ++ f ∷ []) h.frame h.term args (drop (end + 1) bytes) bytes refl refl (text-at S bytes (44 ∷ drop (end + 1) bytes) end os o items h e);
      within = omega arith;
    }

-- the place of the symbol
pub symbol-within : (S : List Symbol) (bytes : List ℕ) (end : ℕ) (os : List OpenTerm) (o : OpenTerm) (items : List RowItem) → IsReadIn S bytes end os o items → o.at < length items
symbol-within S bytes end os o items h =
    let rows = rows_of (terms_tree h.frame.args) ++ row_of h.term in
    let e : length items ≡ length (open_rows h.rest) + length (kept ∷ rows) = ap length h.row ∙ length-append (open_rows h.rest) (kept ∷ rows) in
    let f : length (kept ∷ rows) ≡ length rows + 1 = omega arith in
    let g = h.last.place in
    omega (arith, e, f, g)

closed-row : (old new rows : List RowItem) (at : ℕ) (y : RowItem) (put : List RowItem) → at ≡ 0 + length old → new ≡ old ++ kept ∷ rows → put ≡ set new at y → put ≡ old ++ y ∷ rows
closed-row old new rows at y put e f g =
    let n : at ≡ length old = omega (arith, e) in
    g ∙ (λ i. set (f i) (n i) y) ∙ set_at old kept rows y (length old) refl

-- a closing bracket
pub closed : (S : List Symbol) (bytes : List ℕ) (end : ℕ) (os : List OpenTerm) (o : OpenTerm) (items new : List RowItem) (h : IsReadIn S bytes end os o items)
    → drop end bytes ≡ 41 ∷ drop (end + 1) bytes → end < length bytes → Ends (drop (end + 1) bytes) → IsPut S h.frame.name (more o) items new → IsRead S bytes (end + 1) os new
closed S bytes end os o items new h e within ends p =
    let args = h.frame.args ++ h.term ∷ [] in
    let t = fun p.id.0 (terms_tree args) in
    let known = subst (λ n. IsFunction S p.id.0 h.frame.name n) (counted S bytes end os o items h) p.function in
    let count : o.count + 1 ≡ arity_of (terms_tree args) = ap (λ n. n + 1) h.last.count ∙ sym (arity-push h.frame.args h.term) in record {
      frames = h.rest;
      term = t;
      stands = h.stands;
      row = closed-row (open_rows h.rest) items (rows_of (terms_tree h.frame.args) ++ row_of h.term) o.at (Fun p.id (o.count + 1)) new h.last.place h.row p.put
          ∙ (λ i. open_rows h.rest ++ Fun p.id (count i) ∷ sym (rows-push h.frame.args h.term) i);
      written = (frames-pop S h.rest h.frame h.written).0;
      term_written = whole-written S h.rest h.frame h.term t args p.id.0 refl known refl h.written h.term_written;
      text = sym (out-read S h.rest h.frame h.term t args p.id.0 (drop (end + 1) bytes) bytes refl known refl (text-at S bytes (41 ∷ drop (end + 1) bytes) end os o items h e));
      ends = ends;
      within = omega arith;
    }

-- ---- no term stands there

pub none-follower : (S : List Symbol) → IsTrue (are_distinct S) → (bytes : List ℕ) (end : ℕ) (os : List OpenTerm) (o : OpenTerm) (items : List RowItem) → IsReadIn S bytes end os o items
    → ((r : List ℕ) → ¬ (drop end bytes ≡ 44 ∷ r)) → ((r : List ℕ) → ¬ (drop end bytes ≡ 41 ∷ r)) → NoTerm S bytes
none-follower S d bytes end os o items h comma bracket = subst (NoTerm S) (sym h.text) (no_follower S d h.rest h.frame h.term (drop end bytes) h.written h.term_written h.ends comma bracket)

pub none-end : (S : List Symbol) → IsTrue (are_distinct S) → (bytes : List ℕ) (end : ℕ) (os : List OpenTerm) (o : OpenTerm) (items : List RowItem) → IsReadIn S bytes end os o items
    → drop end bytes ≡ 41 ∷ drop (end + 1) bytes → ¬ Ends (drop (end + 1) bytes) → NoTerm S bytes
none-end S d bytes end os o items h e none =
    none-at S (h.rest ++ h.frame ∷ []) (h.rest ++ h.frame ∷ []) h.term (drop end bytes) (41 ∷ drop (end + 1) bytes) bytes refl e (sym h.text) (no_close_end S d h.rest h.frame h.term (drop (end + 1) bytes) h.written h.term_written none)

pub none-function : (S : List Symbol) → IsTrue (are_distinct S) → (bytes : List ℕ) (end : ℕ) (os : List OpenTerm) (o : OpenTerm) (items : List RowItem) (h : IsReadIn S bytes end os o items)
    → drop end bytes ≡ 41 ∷ drop (end + 1) bytes → NoFunction S h.frame.name (o.count + 1) → NoTerm S bytes
none-function S d bytes end os o items h e none =
    none-at S (h.rest ++ h.frame ∷ []) (h.rest ++ h.frame ∷ []) h.term (drop end bytes) (41 ∷ drop (end + 1) bytes) bytes refl e (sym h.text)
    (no_close_function S d h.rest h.frame h.term (drop (end + 1) bytes) h.written h.term_written (subst (λ n. NoFunction S h.frame.name (n + 1)) h.last.count none))

-- ---- a term behind other text

-- what stands at the beginning of the rest stands at its place in the whole
pub at-place : (S : List Symbol) (bytes rest : List ℕ) (from end : ℕ) (t : Term) → rest ≡ drop from bytes → IsTermAt S rest 0 end t → IsTermAt S bytes from (from + end) t
at-place S bytes rest from end t e h =
    let after : drop (from + end) bytes ≡ drop end rest = onward-drop bytes from end ∙ ap (λ l. drop end l) (sym e) in
    let place = h.stands.place in record {
      written = h.written;
      stands = record { there = sym e ∙ h.stands.there ∙ ap (λ l. term_text S 0 t ++ l) (sym after); place = omega (arith, place) };
      ends = subst Ends (sym after) h.ends;
    }

pub row-told : (S : List Symbol) (bytes rest : List ℕ) (from end : ℕ) (items : List RowItem) (t : Term) → rest ≡ drop from bytes → (h : IsRowTo S rest end items) → t ≡ h.term → IsTermAt S bytes from (from + end) t
row-told S bytes rest from end items t e h same = at-place S bytes rest from end t e (subst (λ u. IsTermAt S rest 0 end u) (sym same) h.stands)
