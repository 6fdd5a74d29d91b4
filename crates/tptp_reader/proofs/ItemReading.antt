-- Reading items.
use Rattle.std.proofs.Common.{◌≡◌, ◌==◌, ◌&&◌, ℕ, zero, suc, Bool, true, false, not, List, [], ◌∷◌, ◌++◌, Option, None, Some, refl, sym, ◌∙◌, ap, append_assoc, append-nil, subst, drop, flat_map}
use Rattle.std.specs.Prelude.{codes, slice_index_or, if◌then◌else◌}
use Rattle.std.specs.List.{list_all}
use Rattle.std.proofs.lemmas.Bool.{false≢true, and_parts, and_from}
use Rattle.plain_laws.proofs.Options.{none_some}
use Rattle.tptp_lex.specs.Tokens.{is_digits}
use Rattle.tptp_lex.proofs.Runs.{some-is}
use Rattle.tptp_reader.specs.declared.item.Item.{Item}
use Rattle.tptp_reader.specs.declared.item.ItemKind.{ItemKind}
use Rattle.tptp_reader.specs.declared.item.ItemKind.TheVariants.{Fof, Cnf, Qmf}
use Rattle.tptp_reader.specs.declared.item_reader.Head.{Head}
use Rattle.tptp_reader.specs.declared.source.Source as program
use Rattle.tptp_reader.specs.declared.terminal.Piece.{Piece}
use Rattle.tptp_reader.specs.Sources as tree
use Rattle.tptp_reader.specs.SourceView.{the_source}
use Rattle.tptp_reader.specs.ItemView.{the_item}
use Rattle.tptp_reader.specs.Terminals.{Terminal, lower, quoted, number, open_round, close_round, close_square, comma, dot, Placed, terminals, offsets, Follow}
use Rattle.tptp_reader.specs.TerminalView.{the_terminal}
use Rattle.tptp_reader.specs.Pieces.{placed}
use Rattle.tptp_reader.specs.Grammar as g
use Rattle.tptp_reader.specs.Grammar.{plain, in_quotes, NameTree, word_name, number_name, name_token, name_fits, ItemTree, notes_tokens, notes_fit, end_tokens, item_fits, item_tokens}
use Rattle.tptp_reader.specs.Meaning.{name_of, selected, item_of}
use Rattle.tptp_reader.specs.Nesting.{head_nestings, end_nestings, item_nestings}
use Rattle.tptp_reader.specs.Expecting.{form, is_word}
use Rattle.tptp_reader.specs.Spans.{AreRead}
use Rattle.tptp_reader.specs.Standing.{FormulaRead}
use Rattle.tptp_reader.specs.ClauseStanding.{ClauseRead}
use Rattle.tptp_reader.specs.ItemStanding.{kind_in, name_in, role_in, file_in, is_include_word, is_square, DotRead, is_clause, BodyTree, body_tokens, body_of, body_nestings, body_fits, BodyRead, RestRead, HeadRead, ItemRead, IncludeRead, others_tokens, chosen, NamesRead, SelectedRead}
use Rattle.tptp_reader.proofs.FaultLaws.{terminals-append}
use Rattle.tptp_reader.proofs.FormulaForms.{word-is}
use Rattle.tptp_reader.proofs.SpanLaws.{span-join, read-join, opening-is, comma-is}
use Rattle.tptp_reader.proofs.ReadLaws.{none-deep}
use Rattle.tptp_reader.proofs.PlacingLaws.{placing-one, placing-more, placing-join, span-placed}

-- ---- lists

pub offsets-append : (ps qs : List Placed) → offsets (ps ++ qs) ≡ offsets ps ++ offsets qs
offsets-append [] qs = refl
offsets-append (p ∷ ps) qs = ap (λ z. p.at ∷ z) (offsets-append ps qs)

pub flat-snoc : {A B : Type 0} (f : A → List B) (xs : List A) (x : A) → flat_map f xs ++ f x ≡ flat_map f (xs ++ x ∷ [])
flat-snoc f [] x = sym (append-nil (f x))
flat-snoc f (y ∷ xs) x = append_assoc (f y) (flat_map f xs) (f x) ∙ ap (λ z. f y ++ z) (flat-snoc f xs x)

pub all-snoc : {A : Type 0} (f : A → Bool) (xs : List A) (x : A) → list_all f xs ≡ true → f x ≡ true → list_all f (xs ++ x ∷ []) ≡ true
all-snoc f [] x h k = and_from (f x) true k refl
all-snoc f (y ∷ xs) x h k = let q = and_parts (f y) (list_all f xs) h in and_from (f y) (list_all f (xs ++ x ∷ [])) q.0 (all-snoc f xs x q.1 k)

-- ---- single tokens

-- the name of a token
pub record Named (x : Terminal) (w : List ℕ) : Type 0 where
  pub name : NameTree
  pub token : x ≡ name_token name
  pub fits : name_fits name ≡ true
  pub value : w ≡ name_of name

pub named : (x : Terminal) (w : List ℕ) → name_in x ≡ Some w → Named x w
named (lower v) w e = record { name = word_name (plain v); token = refl; fits = refl; value = some-is (sym e) }
named (quoted v) w e = record { name = word_name (in_quotes v); token = refl; fits = refl; value = some-is (sym e) }
named (number ds) w e = by (is_digits ds) refl
  where
    by : (b : Bool) → is_digits ds ≡ b → Named (number ds) w
    by true h = record { name = number_name ds; token = refl; fits = h; value = some-is (sym e ∙ ap (λ b. if b then Some ds else None) h) }
    by false h = absurd (none_some (sym (ap (λ b. if b then Some ds else None) h) ∙ e))
named _ w e = absurd (none_some e)

role-is : (x : Terminal) (w : List ℕ) → role_in x ≡ Some w → x ≡ lower w
role-is (lower v) w e = ap lower (some-is e)
role-is _ w e = absurd (none_some e)

file-is : (x : Terminal) (w : List ℕ) → file_in x ≡ Some w → x ≡ quoted w
file-is (quoted v) w e = ap quoted (some-is e)
file-is _ w e = absurd (none_some e)

pub include-is : (x : Terminal) → is_include_word x ≡ true → x ≡ lower (codes "include")
include-is (lower v) e = ap lower (word-is v (codes "include") e)
include-is _ e = absurd (false≢true e)

pub square_end-is : (x : Terminal) → is_square x ≡ true → x ≡ close_square
square_end-is close_square e = refl
square_end-is _ e = absurd (false≢true e)

-- ---- kinds

abbrev pub language_of : ItemKind → List ℕ
language_of Fof = codes "fof"
language_of Cnf = codes "cnf"
language_of Qmf = codes "qmf"

abbrev pub kind_fits : Bool → ItemKind → Bool
kind_fits modal Fof = not modal
kind_fits modal Cnf = not modal
kind_fits modal Qmf = modal

pub record Kind (modal : Bool) (x : Terminal) (k : ItemKind) : Type 0 where
  pub word : x ≡ lower (language_of k)
  pub fits : kind_fits modal k ≡ true

kind-is : (modal : Bool) (w : List ℕ) (k l : ItemKind) → is_word w (language_of k) ≡ true → kind_fits modal k ≡ true → Some k ≡ Some l → Kind modal (lower w) l
kind-is modal w k l h f e = subst (Kind modal (lower w)) (some-is e) (record { word = ap lower (word-is w (language_of k) h); fits = f })

pub kind-found : (modal : Bool) (x : Terminal) (k : ItemKind) → kind_in modal x ≡ Some k → Kind modal x k
kind-found true (lower w) k e = by (is_word w (codes "qmf")) refl e
  where
    by : (b : Bool) → is_word w (codes "qmf") ≡ b → (if b then Some Qmf else None) ≡ Some k → Kind true (lower w) k
    by true h q = kind-is true w Qmf k h refl q
    by false h q = absurd (none_some q)
kind-found false (lower w) k e = by (is_word w (codes "fof")) (is_word w (codes "cnf")) refl refl e
  where
    by : (a b : Bool) → is_word w (codes "fof") ≡ a → is_word w (codes "cnf") ≡ b → (if a then Some Fof else (if b then Some Cnf else None)) ≡ Some k → Kind false (lower w) k
    by true b h i q = kind-is false w Fof k h refl q
    by false true h i q = kind-is false w Cnf k i refl q
    by false false h i q = absurd (none_some q)
kind-found true _ k e = absurd (none_some e)
kind-found false _ k e = absurd (none_some e)

-- ---- bodies

pub body-clause : {text : List ℕ} {p : Piece} {r : program.Source × Piece} (modal : Bool) (kind : ItemKind) → is_clause kind ≡ true → ClauseRead text p r → BodyRead modal kind text p r
body-clause modal Cnf e c = record { body = c.clause; value = c.value; stands = c.stands; fits = refl; shallow = c.shallow }
body-clause modal Fof e c = absurd (false≢true e)
body-clause modal Qmf e c = absurd (false≢true e)

pub body-formula : {text : List ℕ} {p : Piece} {r : program.Source × Piece} (modal : Bool) (kind : ItemKind) → is_clause kind ≡ false → FormulaRead modal text 0 p r → BodyRead modal kind text p r
body-formula modal Cnf e f = absurd (false≢true (sym e))
body-formula modal Fof e f = record { body = f.tree; value = f.value; stands = f.stands; fits = f.fits; shallow = f.shallow }
body-formula modal Qmf e f = record { body = f.tree; value = f.value; stands = f.stands; fits = f.fits; shallow = f.shallow }

-- ---- items with a formula

abbrev item_with : (k : ItemKind) → NameTree → List ℕ → BodyTree k → Option (List Terminal) → ItemTree
item_with Fof n role f notes = g.fof n role f notes
item_with Cnf n role c notes = g.cnf n role c notes
item_with Qmf n role f notes = g.qmf n role f notes

with-tokens : (k : ItemKind) (n : NameTree) (role : List ℕ) (b : BodyTree k) (notes : Option (List Terminal))
    → lower (language_of k) ∷ open_round ∷ name_token n ∷ comma ∷ lower role ∷ comma ∷ (body_tokens k b ++ (notes_tokens notes ++ end_tokens)) ≡ item_tokens (item_with k n role b notes)
with-tokens Fof n role f notes = ap (λ z. lower (codes "fof") ∷ open_round ∷ name_token n ∷ comma ∷ lower role ∷ comma ∷ z) (sym (append_assoc (g.formula_tokens f) (notes_tokens notes) end_tokens))
with-tokens Cnf n role c notes = ap (λ z. lower (codes "cnf") ∷ open_round ∷ name_token n ∷ comma ∷ lower role ∷ comma ∷ z) (sym (append_assoc (g.clause_tokens c) (notes_tokens notes) end_tokens))
with-tokens Qmf n role f notes = ap (λ z. lower (codes "qmf") ∷ open_round ∷ name_token n ∷ comma ∷ lower role ∷ comma ∷ z) (sym (append_assoc (g.formula_tokens f) (notes_tokens notes) end_tokens))

with-fits : (modal : Bool) (k : ItemKind) (n : NameTree) (role : List ℕ) (b : BodyTree k) (notes : Option (List Terminal)) → kind_fits modal k ≡ true → name_fits n ≡ true → body_fits modal k b ≡ true → notes_fit notes ≡ true → item_fits modal (item_with k n role b notes) ≡ true
with-fits true Fof n role f notes e m h l = absurd (false≢true e)
with-fits false Fof n role f notes e m h l = and_from (name_fits n && g.is_plain f) (notes_fit notes) (and_from (name_fits n) (g.is_plain f) m h) l
with-fits true Cnf n role c notes e m h l = absurd (false≢true e)
with-fits false Cnf n role c notes e m h l = and_from (name_fits n) (notes_fit notes) m l
with-fits true Qmf n role f notes e m h l = and_from (name_fits n) (notes_fit notes) m l
with-fits false Qmf n role f notes e m h l = absurd (false≢true e)

with-shallow : (k : ItemKind) (n : NameTree) (role : List ℕ) (b : BodyTree k) (notes : Option (List Terminal)) → AreRead (body_nestings k b) → AreRead (item_nestings (item_with k n role b notes))
with-shallow Fof n role f notes h = read-join (head_nestings ++ body_nestings Fof f) (end_nestings notes) (read-join head_nestings (body_nestings Fof f) refl h) (none-deep (notes_tokens notes ++ end_tokens))
with-shallow Cnf n role c notes h = read-join (head_nestings ++ body_nestings Cnf c) (end_nestings notes) (read-join head_nestings (body_nestings Cnf c) refl h) (none-deep (notes_tokens notes ++ end_tokens))
with-shallow Qmf n role f notes h = read-join (head_nestings ++ body_nestings Qmf f) (end_nestings notes) (read-join head_nestings (body_nestings Qmf f) refl h) (none-deep (notes_tokens notes ++ end_tokens))

with-value : (k : ItemKind) (n : NameTree) (role : List ℕ) (b : BodyTree k) (notes : Option (List Terminal)) (o0 o1 o2 o3 o4 o5 : ℕ) (os : List ℕ)
    → tree.formula k (name_of n) role o4 (body_of k b) o0 ≡ item_of (o0 ∷ o1 ∷ o2 ∷ o3 ∷ o4 ∷ o5 ∷ os) (item_with k n role b notes)
with-value Fof n role f notes o0 o1 o2 o3 o4 o5 os = refl
with-value Cnf n role c notes o0 o1 o2 o3 o4 o5 os = refl
with-value Qmf n role f notes o0 o1 o2 o3 o4 o5 os = refl

-- the tokens before a dot, and the dot
then-dot : (ps : List Placed) (q : Piece) (ts : List Terminal) → terminals ps ≡ ts → the_terminal q.terminal ≡ dot → terminals (ps ++ placed q ∷ []) ≡ ts ++ dot ∷ []
then-dot ps q ts e h = terminals-append ps (placed q ∷ []) ∙ (λ i. e i ++ h i ∷ [])

pub formula-item : {text : List ℕ} {p last : Piece} {body : program.Source} (modal : Bool) (kind : ItemKind) (h : Head) (item : Item) → kind_in modal (the_terminal p.terminal) ≡ Some kind → HeadRead text p h → RestRead modal kind text h.body (body, last)
    → the_item item ≡ tree.formula kind h.name h.role h.role_at (the_source body) p.start → ItemRead modal text p (item, last)
formula-item {text} {p} {last} {body} modal kind h item e a r v =
    let k = kind-found modal (the_terminal p.terminal) kind e in
    let m = named (the_terminal a.name_at.terminal) h.name a.named in
    let b = r.body in
    let n = r.rest in
    let ts : List Terminal = body_tokens kind b.body ++ (notes_tokens n.notes ++ close_round ∷ []) in
    let s = span-placed (span-join b.stands n.stands) in
    let w : terminals (s.tokens ++ placed last ∷ []) ≡ body_tokens kind b.body ++ (notes_tokens n.notes ++ end_tokens) =
    then-dot s.tokens last ts s.written n.ends ∙ append_assoc (body_tokens kind b.body) (notes_tokens n.notes ++ close_round ∷ []) (dot ∷ []) ∙ ap (λ z. body_tokens kind b.body ++ z) (append_assoc (notes_tokens n.notes) (close_round ∷ []) (dot ∷ [])) in
    let o : the_terminal a.role_at.terminal ≡ lower h.role = role-is (the_terminal a.role_at.terminal) h.role a.has_role in
    record {
      item = item_with kind m.name h.role b.body n.notes;
      front = placed p ∷ placed a.bracket ∷ placed a.name_at ∷ placed a.comma_at ∷ placed a.role_at ∷ placed a.second ∷ s.tokens;
      stands = placing-more a.to_bracket (placing-more a.to_name (placing-more a.to_comma (placing-more a.to_role (placing-more a.to_second (placing-more a.to_body s.stands)))));
      written = (λ i. k.word i ∷ a.opens i ∷ m.token i ∷ a.parts i ∷ o i ∷ a.parts_again i ∷ w i) ∙ with-tokens kind m.name h.role b.body n.notes;
      fits = with-fits modal kind m.name h.role b.body n.notes k.fits m.fits b.fits n.fits;
      shallow = with-shallow kind m.name h.role b.body n.notes b.shallow;
      value = λ more. v ∙ (λ i. tree.formula kind (m.value i) h.role (sym a.placed_role i) (b.value i) p.start)
          ∙ with-value kind m.name h.role b.body n.notes p.start a.bracket.start a.name_at.start a.comma_at.start a.role_at.start a.second.start (offsets (s.tokens ++ placed last ∷ []) ++ more);
    }

-- ---- includes

pub include-bare : {text : List ℕ} {p sign last : Piece} {file : List ℕ} (bracket file_at : Piece) (item : Item) → is_include_word (the_terminal p.terminal) ≡ true → Follow text p.end (placed bracket ∷ []) bracket.end → (form (the_terminal bracket.terminal) == 0) ≡ true
    → Follow text bracket.end (placed file_at ∷ []) file_at.end → file_in (the_terminal file_at.terminal) ≡ Some file → Follow text file_at.end (placed sign ∷ []) sign.end → DotRead text sign last → the_item item ≡ tree.include file None p.start → IncludeRead text p (item, last)
include-bare {text} {p} {sign} {last} {file} bracket file_at item e f1 o f2 l f3 d v =
    let s = span-placed d.0 in
    let a : the_terminal p.terminal ≡ lower (codes "include") = include-is (the_terminal p.terminal) e in
    let b : the_terminal bracket.terminal ≡ open_round = opening-is (the_terminal bracket.terminal) o in
    let c : the_terminal file_at.terminal ≡ quoted file = file-is (the_terminal file_at.terminal) file l in
    let w : terminals (s.tokens ++ placed last ∷ []) ≡ end_tokens = then-dot s.tokens last (close_round ∷ []) s.written d.1 in
    λ modal. record {
      item = g.include file;
      front = placed p ∷ placed bracket ∷ placed file_at ∷ s.tokens;
      stands = placing-more f1 (placing-more f2 (placing-more f3 s.stands));
      written = λ i. a i ∷ b i ∷ c i ∷ w i;
      fits = refl;
      shallow = none-deep (item_tokens (g.include file));
      value = λ more. v;
    }

-- ---- the names of an include

names-value : (first n : NameTree) (others : List NameTree) (front : List Placed) (values : List (List ℕ × ℕ)) (a b : Placed) (t : List ℕ) → t ≡ name_of n
    → ((ms : List NameTree) (more : List ℕ) → chosen (offsets front ++ more) (first ∷ (others ++ ms)) ≡ values ++ chosen (drop 1 more) ms)
    → (ms : List NameTree) (more : List ℕ) → chosen (offsets (front ++ a ∷ b ∷ []) ++ more) (first ∷ ((others ++ n ∷ []) ++ ms)) ≡ (values ++ (t, b.at) ∷ []) ++ chosen (drop 1 more) ms
names-value first n others front values a b t e v ms more =
    ap (λ z. chosen (z ++ more) (first ∷ ((others ++ n ∷ []) ++ ms))) (offsets-append front (a ∷ b ∷ []))
    ∙ ap (λ z. chosen z (first ∷ ((others ++ n ∷ []) ++ ms))) (append_assoc (offsets front) (a.at ∷ b.at ∷ []) more)
    ∙ ap (λ z. chosen (offsets front ++ (a.at ∷ b.at ∷ more)) (first ∷ z)) (append_assoc others (n ∷ []) ms)
    ∙ v (n ∷ ms) (a.at ∷ b.at ∷ more)
    ∙ ap (λ z. values ++ ((z, b.at) ∷ chosen (drop 1 more) ms)) (sym e)
    ∙ sym (append_assoc values ((t, b.at) ∷ []) (chosen (drop 1 more) ms))

pub names-begun : {text : List ℕ} {p here : Piece} {before : List (List ℕ × ℕ)} (now : List (List ℕ × ℕ)) (t : List ℕ) → name_in (the_terminal p.terminal) ≡ Some t → Follow text p.end (placed here ∷ []) here.end → before ≡ [] → now ≡ before ++ (t, p.start) ∷ [] → NamesRead text p (now, here)
names-begun {p = p} now t e f b n =
    let m = named (the_terminal p.terminal) t e in
    record {
      first = m.name;
      others = [];
      front = placed p ∷ [];
      stands = placing-one f;
      written = ap (λ z. z ∷ []) m.token;
      fits = and_from (name_fits m.name) true m.fits refl;
      value = λ ms more. ap (λ z. (z, p.start) ∷ chosen (drop 1 more) ms) (sym m.value) ∙ ap (λ z. z ++ chosen (drop 1 more) ms) (sym (n ∙ ap (λ z. z ++ (t, p.start) ∷ []) b));
    }

pub names-on : {text : List ℕ} {p sign here : Piece} {values : List (List ℕ × ℕ)} (next : Piece) (now : List (List ℕ × ℕ)) (t : List ℕ) → NamesRead text p (values, sign) → (form (the_terminal sign.terminal) == 14) ≡ true → Follow text sign.end (placed next ∷ []) next.end
    → name_in (the_terminal next.terminal) ≡ Some t → Follow text next.end (placed here ∷ []) here.end → now ≡ values ++ (t, next.start) ∷ [] → NamesRead text p (now, here)
names-on {text} {p} {sign} {here} {values} next now t u o f1 e f2 n =
    let m = named (the_terminal next.terminal) t e in
    let c : the_terminal sign.terminal ≡ comma = comma-is (the_terminal sign.terminal) o in
    record {
      first = u.first;
      others = u.others ++ m.name ∷ [];
      front = u.front ++ (placed sign ∷ placed next ∷ []);
      stands = placing-join u.stands (placing-more f1 (placing-one f2));
      written = terminals-append u.front (placed sign ∷ placed next ∷ []) ∙ (λ i. u.written i ++ (c i ∷ m.token i ∷ [])) ∙ ap (λ z. name_token u.first ∷ z) (flat-snoc (λ k. comma ∷ name_token k ∷ []) u.others m.name);
      fits = all-snoc name_fits (u.first ∷ u.others) m.name u.fits m.fits;
      value = λ ms more. names-value u.first m.name u.others u.front values (placed sign) (placed next) t m.value u.value ms more ∙ ap (λ z. z ++ chosen (drop 1 more) ms) (sym n);
    }

index-drop : (k : ℕ) (os : List ℕ) → slice_index_or os k 0 ≡ slice_index_or (drop k os) 0 0
index-drop zero os = refl
index-drop (suc k) [] = refl
index-drop (suc k) (o ∷ os) = index-drop k os

drop-two : (k : ℕ) (os : List ℕ) → drop (suc (suc k)) os ≡ drop 2 (drop k os)
drop-two zero os = refl
drop-two (suc k) [] = refl
drop-two (suc k) (o ∷ os) = drop-two k os

selected-chosen : (ns : List NameTree) (k : ℕ) (os : List ℕ) → selected os k ns ≡ chosen (drop k os) ns
selected-chosen [] k os = refl
selected-chosen (n ∷ ns) k os =
    let a = index-drop k os in
    let b : selected os (suc (suc k)) ns ≡ chosen (drop 2 (drop k os)) ns = selected-chosen ns (suc (suc k)) os ∙ ap (λ z. chosen z ns) (drop-two k os) in
    λ i. (name_of n, a i) ∷ b i

-- what follows the names is left
names-all : (first : NameTree) (others : List NameTree) (values : List (List ℕ × ℕ)) (front back last : List Placed) (more : List ℕ) (o0 o1 o2 o3 o4 : ℕ)
    → ((ms : List NameTree) (more : List ℕ) → chosen (offsets front ++ more) (first ∷ (others ++ ms)) ≡ values ++ chosen (drop 1 more) ms)
    → values ≡ selected (o0 ∷ o1 ∷ o2 ∷ o3 ∷ o4 ∷ (offsets ((front ++ back) ++ last) ++ more)) 5 (first ∷ others)
names-all first others values front back last more o0 o1 o2 o3 o4 v =
    sym (selected-chosen (first ∷ others) 5 (o0 ∷ o1 ∷ o2 ∷ o3 ∷ o4 ∷ (offsets ((front ++ back) ++ last) ++ more))
    ∙ ap (λ z. chosen (offsets z ++ more) (first ∷ others)) (append_assoc front back last)
    ∙ ap (λ z. chosen (z ++ more) (first ∷ others)) (offsets-append front (back ++ last))
    ∙ ap (λ z. chosen z (first ∷ others)) (append_assoc (offsets front) (offsets (back ++ last)) more)
    ∙ ap (λ z. chosen (offsets front ++ (offsets (back ++ last) ++ more)) (first ∷ z)) (sym (append-nil others))
    ∙ v [] (offsets (back ++ last) ++ more)
    ∙ append-nil values)

pub include-with : {text : List ℕ} {p square last : Piece} {file : List ℕ} {names : List (List ℕ × ℕ)} (bracket file_at sign : Piece) (item : Item) → is_include_word (the_terminal p.terminal) ≡ true → Follow text p.end (placed bracket ∷ []) bracket.end → (form (the_terminal bracket.terminal) == 0) ≡ true
    → Follow text bracket.end (placed file_at ∷ []) file_at.end → file_in (the_terminal file_at.terminal) ≡ Some file → Follow text file_at.end (placed sign ∷ []) sign.end → (form (the_terminal sign.terminal) == 14) ≡ true
    → Follow text sign.end (placed square ∷ []) square.end → SelectedRead text square (names, last) → the_item item ≡ tree.include file (Some names) p.start → IncludeRead text p (item, last)
include-with {text} {p} {square} {last} {file} {names} bracket file_at sign item e f1 o f2 l f3 h f4 d v =
    let u = d.names in
    let r = d.rest in
    let s = span-placed r.rest.0 in
    let a : the_terminal p.terminal ≡ lower (codes "include") = include-is (the_terminal p.terminal) e in
    let b : the_terminal bracket.terminal ≡ open_round = opening-is (the_terminal bracket.terminal) o in
    let c : the_terminal file_at.terminal ≡ quoted file = file-is (the_terminal file_at.terminal) file l in
    let k : the_terminal sign.terminal ≡ comma = comma-is (the_terminal sign.terminal) h in
    let back : List Placed = placed d.square ∷ s.tokens in
    let w : terminals (u.front ++ back) ≡ (name_token u.first ∷ others_tokens u.others) ++ (close_square ∷ close_round ∷ []) = terminals-append u.front back ∙ (λ i. u.written i ++ (r.squares i ∷ s.written i)) in
    let x : terminals ((u.front ++ back) ++ placed last ∷ []) ≡ name_token u.first ∷ (others_tokens u.others ++ (close_square ∷ end_tokens)) =
    then-dot (u.front ++ back) last ((name_token u.first ∷ others_tokens u.others) ++ (close_square ∷ close_round ∷ [])) w r.rest.1 ∙ ap (λ z. name_token u.first ∷ z) (append_assoc (others_tokens u.others) (close_square ∷ close_round ∷ []) (dot ∷ [])) in
    λ modal. record {
      item = g.include_names file u.first u.others;
      front = placed p ∷ placed bracket ∷ placed file_at ∷ placed sign ∷ placed square ∷ (u.front ++ back);
      stands = placing-more f1 (placing-more f2 (placing-more f3 (placing-more f4 (placing-more d.to_first (placing-join u.stands (placing-more r.to_close s.stands))))));
      written = λ i. a i ∷ b i ∷ c i ∷ k i ∷ d.opens i ∷ x i;
      fits = u.fits;
      shallow = none-deep (item_tokens (g.include_names file u.first u.others));
      value = λ more. v ∙ ap (λ z. tree.include file (Some z) p.start) (names-all u.first u.others names u.front back (placed last ∷ []) more p.start bracket.start file_at.start sign.start square.start u.value);
    }
