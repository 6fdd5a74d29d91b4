-- No generated text includes a file, since no byte of it is a quote.
use Rattle.std.proofs.Common.{◌≡◌, ℕ, zero, suc, ◌+◌, ◌-◌, ◌/◌, ◌%◌, ◌≤◌, ◌==◌, List, [], ◌∷◌, ◌++◌, length, drop, Bool, true, false, not, if◌then◌else◌, Option, None, Some, Result, Ok, Err, IsTrue, arith, codes, decimal, refl, subst, sym, ap, nat_lt}
use Rattle.calculus.specs.Equality.{list_eq}
use Rattle.calculus.specs.Measures.{node_count}
use Rattle.calculus.specs.Problems.{is_modal, greatest_nodes, greatest_symbols}
use Rattle.std.specs.Fmt.{digit_glyph, digits, digits_onto}
use Rattle.std.specs.List.{flat_map, list_all, list_any, range_with_len, repeat}
use Rattle.std.proofs.lemmas.Bool.{and_from, and_parts, false≢true}
use Rattle.std.proofs.lemmas.Bool.Decides.{Decides-eqb}
use Rattle.plain_laws.proofs.Every.{all-append, all-drop, all-take}
use Rattle.calculus.specs.Families.{chain_atom, chain_link, family_text, item_line, item_word, shifted}
use Rattle.calculus.specs.Syntax.{Formula, Setting, Symbol}
use Rattle.calculus.specs.declared.family.Family.{Family}
use Rattle.calculus.specs.declared.family.Family.TheVariants.{Chain, Shift, Tower}
use Rattle.calculus.specs.declared.setting.Logic.{Logic}
use Rattle.calculus.specs.declared.setting.Logic.TheVariants.{Classical, Intuitionistic, D, T, S4, S5}
use Rattle.cop_base.specs.Outside.{Files}
use Rattle.tptp_reader.specs.Faults.{wrong, too_deep}
use Rattle.tptp_reader.specs.Grammar.{ItemTree, fof, qmf, cnf, include, include_names, item_tokens, text_tokens}
use Rattle.tptp_reader.specs.Meaning.{clause_of, items_of, name_of, offset_at, source_of}
use Rattle.tptp_reader.specs.Reading.{IsReading, Outcome, reads, fails}
use Rattle.tptp_reader.specs.Sources.{Item, Source}
use Rattle.tptp_reader.specs.Terminals.{Follow, no_token, a_token, Placed, Terminal, spelling, terminals, offsets}
use Rattle.problem_build.specs.Building.{IsProblemOf, are_flat, conjectures, formulas_of, limited, no_formula, premises_of, problem_formula, sized, symbols_of}
use Rattle.problem_build.specs.Refusals.{Refusal, missing}
use Rattle.problem_build.specs.Walk.{FileWalk, Passed, Progress, Walked, file_walk, go_on, greatest_input, is_among, items_walk, outcome_walk, passed_on, passes, premise_roles, walk, walked}

-- ---- no quote stands in the text

abbrev not_quote : ℕ → Bool
not_quote b = not (b == 39)

abbrev unquoted : List ℕ → Bool
unquoted bs = list_all not_quote bs

above : (b : ℕ) (t : Bool) → (b == 39) ≡ t → 40 ≤ b → IsTrue (not t)
above b true e h = let same : b ≡ 39 = (Decides-eqb b 39).0 e in absurd (omega (arith, same, h))
above b false e h = refl

if-unquoted : (t : Bool) (xs ys : List ℕ) → IsTrue (unquoted xs) → IsTrue (unquoted ys) → IsTrue (unquoted (if t then xs else ys))
if-unquoted true xs ys h k = h
if-unquoted false xs ys h k = k

glyph-if : (t : Bool) (a b : ℕ) → 40 ≤ a → 40 ≤ b → 40 ≤ (if t then a else b)
glyph-if true a b h k = h
glyph-if false a b h k = k

glyph-unquoted : (d : ℕ) → IsTrue (not_quote (digit_glyph false d))
glyph-unquoted d = above (digit_glyph false d) (digit_glyph false d == 39) refl (glyph-if (nat_lt d 10) (48 + d) (87 + d) (omega arith) (omega arith))

onto-unquoted : (k n : ℕ) (acc : List ℕ) → IsTrue (unquoted acc) → IsTrue (unquoted (digits_onto k 10 false n acc))
onto-unquoted zero n acc h = h
onto-unquoted (suc k) n acc h =
    let more : IsTrue (unquoted (digit_glyph false (n % 10) ∷ acc)) = and_from (not_quote (digit_glyph false (n % 10))) (unquoted acc) (glyph-unquoted (n % 10)) h in
    if-unquoted (n / 10 == 0) (digit_glyph false (n % 10) ∷ acc) (digits_onto k 10 false (n / 10) (digit_glyph false (n % 10) ∷ acc)) more (onto-unquoted k (n / 10) (digit_glyph false (n % 10) ∷ acc) more)

decimal-unquoted : (n : ℕ) → IsTrue (unquoted (decimal n))
unfolding digits
decimal-unquoted n = onto-unquoted 64 n [] refl

join : (xs ys : List ℕ) → IsTrue (unquoted xs) → IsTrue (unquoted ys) → IsTrue (unquoted (xs ++ ys))
join xs ys h k = all-append not_quote xs ys h k

item-unquoted : (word name role formula : List ℕ) → IsTrue (unquoted word) → IsTrue (unquoted name) → IsTrue (unquoted role) → IsTrue (unquoted formula) → IsTrue (unquoted (item_line word name role formula))
item-unquoted word name role formula a b c d =
    let to_bracket = join word (codes "(") a refl in
    let to_name = join (word ++ codes "(") name to_bracket b in
    let behind_name = join (word ++ codes "(" ++ name) (codes ",") to_name refl in
    let to_role = join (word ++ codes "(" ++ name ++ codes ",") role behind_name c in
    let behind_role = join (word ++ codes "(" ++ name ++ codes "," ++ role) (codes ",") to_role refl in
    let to_formula = join (word ++ codes "(" ++ name ++ codes "," ++ role ++ codes ",") formula behind_role d in
    join (word ++ codes "(" ++ name ++ codes "," ++ role ++ codes "," ++ formula) (codes ").\n") to_formula refl

atom-unquoted : (k : ℕ) → IsTrue (unquoted (chain_atom k))
atom-unquoted k = join (codes "p") (decimal k) refl (decimal-unquoted k)

link-unquoted : (word : List ℕ) (k : ℕ) → IsTrue (unquoted word) → IsTrue (unquoted (chain_link word k))
link-unquoted word k h =
    let before = join (codes "(") (chain_atom (k - 1)) refl (atom-unquoted (k - 1)) in
    let arrow = join (codes "(" ++ chain_atom (k - 1)) (codes " => ") before refl in
    let behind = join (codes "(" ++ chain_atom (k - 1) ++ codes " => ") (chain_atom k) arrow (atom-unquoted k) in
    let whole = join (codes "(" ++ chain_atom (k - 1) ++ codes " => " ++ chain_atom k) (codes ")") behind refl in
    item-unquoted word (codes "a" ++ decimal k) (codes "axiom") (codes "(" ++ chain_atom (k - 1) ++ codes " => " ++ chain_atom k ++ codes ")") h
    (join (codes "a") (decimal k) refl (decimal-unquoted k)) refl whole

links-unquoted : (word : List ℕ) (ks : List ℕ) → IsTrue (unquoted word) → IsTrue (unquoted (flat_map (chain_link word) ks))
links-unquoted word [] h = refl
links-unquoted word (k ∷ ks) h = join (chain_link word k) (flat_map (chain_link word) ks) (link-unquoted word k h) (links-unquoted word ks h)

repeat-unquoted : (n : ℕ) (xs : List ℕ) → IsTrue (unquoted xs) → IsTrue (unquoted (repeat n xs))
repeat-unquoted zero xs h = refl
repeat-unquoted (suc n) xs h = join xs (repeat n xs) h (repeat-unquoted n xs h)

word-unquoted : (l : Logic) → IsTrue (unquoted (item_word l))
word-unquoted Classical = refl
word-unquoted Intuitionistic = refl
word-unquoted D = refl
word-unquoted T = refl
word-unquoted S4 = refl
word-unquoted S5 = refl

text-unquoted : (f : Family) (n : ℕ) (l : Logic) → IsTrue (unquoted (family_text f n l))
text-unquoted Chain n l =
    let word = item_word l in
    let h = word-unquoted l in
    let fact = item_line word (codes "s") (codes "axiom") (chain_atom 0) in
    let links = flat_map (chain_link word) (range_with_len 1 n) in
    let begun = join fact links (item-unquoted word (codes "s") (codes "axiom") (chain_atom 0) h refl refl (atom-unquoted 0)) (links-unquoted word (range_with_len 1 n) h) in
    join (fact ++ links) (item_line word (codes "c") (codes "conjecture") (chain_atom n)) begun (item-unquoted word (codes "c") (codes "conjecture") (chain_atom n) h refl refl (atom-unquoted n))
text-unquoted Shift n l =
    let word = item_word l in
    let h = word-unquoted l in
    let opening = join (repeat n (codes "f(")) (codes "a") (repeat-unquoted n (codes "f(") refl) refl in
    let term = join (repeat n (codes "f(") ++ codes "a") (repeat n (codes ")")) opening (repeat-unquoted n (codes ")") refl) in
    let atom = join (codes "p(" ++ shifted n) (codes ")") (join (codes "p(") (shifted n) refl term) refl in
    let fact = item_line word (codes "s") (codes "axiom") (codes "p(a)") in
    let move = item_line word (codes "n") (codes "axiom") (codes "![X]:(p(X) => p(f(X)))") in
    let begun = join fact move (item-unquoted word (codes "s") (codes "axiom") (codes "p(a)") h refl refl refl) (item-unquoted word (codes "n") (codes "axiom") (codes "![X]:(p(X) => p(f(X)))") h refl refl refl) in
    join (fact ++ move) (item_line word (codes "c") (codes "conjecture") (codes "p(" ++ shifted n ++ codes ")")) begun (item-unquoted word (codes "c") (codes "conjecture") (codes "p(" ++ shifted n ++ codes ")") h refl refl atom)
text-unquoted Tower n l =
    let begun = join (codes "(#box:p => ") (repeat n (codes "#box:")) refl (repeat-unquoted n (codes "#box:") refl) in
    let whole = join (codes "(#box:p => " ++ repeat n (codes "#box:")) (codes "p)") begun refl in
    item-unquoted (item_word l) (codes "c") (codes "conjecture") (codes "(#box:p => " ++ repeat n (codes "#box:") ++ codes "p)") (word-unquoted l) refl refl whole

-- ---- so no token is a quoted name

all-behind : {A : Type 0} (p : A → Bool) (xs ys : List A) → IsTrue (list_all p (xs ++ ys)) → IsTrue (list_all p ys)
all-behind p [] ys h = h
all-behind p (x ∷ xs) ys h = all-behind p xs ys (and_parts (p x) (list_all p (xs ++ ys)) h).1

abbrev plain : Terminal → Bool
plain x = unquoted (spelling x)

tokens-plain : (text : List ℕ) (from to : ℕ) (ps : List Placed) → IsTrue (unquoted text) → Follow text from ps to → IsTrue (list_all plain (terminals ps))
tokens-plain text _ _ _ u (no_token from) = refl
tokens-plain text _ _ _ u (a_token from to token x ps next kind spelled rest) =
    and_from (plain x) (list_all plain (terminals ps))
    (subst (λ bs. IsTrue (unquoted bs)) spelled (all-take not_quote (token.end - token.start) (drop token.start text) (all-drop not_quote token.start text u)))
    (tokens-plain text token.end to ps u rest)

-- ---- so nothing is missing

abbrev NotMissing : {A : Type 0} → Result A Refusal → Type 0
NotMissing r = (name : List ℕ) → r ≡ Err (missing name) → ⊥

refusal-not : {A : Type 0} (r s : Refusal) (a b : Result A Refusal) → a ≡ Err r → b ≡ Err s → a ≡ b → r ≡ s
refusal-not r s a b e k h = cc

ok-not : {A : Type 0} (a : A) → NotMissing (Ok a)
ok-not a name e = absurd (cc)

if-not : {A : Type 0} (t : Bool) (a b : Result A Refusal) → NotMissing a → NotMissing b → NotMissing (if t then a else b)
if-not true a b h k = h
if-not false a b h k = k

go_on-not : {A B : Type 0} (r : Result A Refusal) (next : A → Result B Refusal) → NotMissing r → ((a : A) → NotMissing (next a)) → NotMissing (go_on r next)
go_on-not (Ok a) next h k = k a
go_on-not (Err r) next h k = λ name e. h name (ap Err (refusal-not r (missing name) (Err r) (Err (missing name)) refl refl e))

-- ---- in the walk

passed_on-not : (file role : List ℕ) (role_at : ℕ) (body : Source) (start : ℕ) (p : Progress) → NotMissing (passed_on file role role_at body start p)
passed_on-not file role role_at body start p =
    if-not (list_eq ◌==◌ role (codes "conjecture")) _ _
    (if-not (list_any (λ (q : Passed). q.is_conjecture) p.passed) _ _ (λ name e. absurd (cc)) (ok-not _))
    (if-not (is_among role premise_roles) _ _ (ok-not _) (λ name e. absurd (cc)))

items-not : (deeper : Option FileWalk) (root file : List ℕ) (lists : List (List (List ℕ))) (offs : List ℕ) (trees : List ItemTree) (w : Walked) → IsTrue (list_all plain (text_tokens trees)) → NotMissing (items_walk deeper root file lists (items_of offs trees) w)
items-not deeper root file lists offs [] w h = ok-not w
items-not deeper root file lists offs (fof name role f notes ∷ ts) w h =
    go_on-not (if passes lists (name_of name) then passed_on file role (offset_at offs 4) (source_of f) (offset_at offs 0) w.progress else Ok w.progress) _
    (if-not (passes lists (name_of name)) _ _ (passed_on-not file role (offset_at offs 4) (source_of f) (offset_at offs 0) w.progress) (ok-not w.progress))
    (λ p. items-not deeper root file lists (drop (length (item_tokens (fof name role f notes))) offs) ts (walked p (w.reached ++ name_of name ∷ [])) (all-behind plain (item_tokens (fof name role f notes)) (text_tokens ts) h))
items-not deeper root file lists offs (qmf name role f notes ∷ ts) w h =
    go_on-not (if passes lists (name_of name) then passed_on file role (offset_at offs 4) (source_of f) (offset_at offs 0) w.progress else Ok w.progress) _
    (if-not (passes lists (name_of name)) _ _ (passed_on-not file role (offset_at offs 4) (source_of f) (offset_at offs 0) w.progress) (ok-not w.progress))
    (λ p. items-not deeper root file lists (drop (length (item_tokens (qmf name role f notes))) offs) ts (walked p (w.reached ++ name_of name ∷ [])) (all-behind plain (item_tokens (qmf name role f notes)) (text_tokens ts) h))
items-not deeper root file lists offs (cnf name role c notes ∷ ts) w h =
    go_on-not (if passes lists (name_of name) then passed_on file role (offset_at offs 4) (clause_of c) (offset_at offs 0) w.progress else Ok w.progress) _
    (if-not (passes lists (name_of name)) _ _ (passed_on-not file role (offset_at offs 4) (clause_of c) (offset_at offs 0) w.progress) (ok-not w.progress))
    (λ p. items-not deeper root file lists (drop (length (item_tokens (cnf name role c notes))) offs) ts (walked p (w.reached ++ name_of name ∷ [])) (all-behind plain (item_tokens (cnf name role c notes)) (text_tokens ts) h))
items-not deeper root file lists offs (include f ∷ ts) w h = absurd (false≢true h)
items-not deeper root file lists offs (include_names f n ns ∷ ts) w h = absurd (false≢true h)

outcome-not : (modal : Bool) (text : List ℕ) (deeper : Option FileWalk) (root file : List ℕ) (lists : List (List (List ℕ))) (p : Progress) (o : Outcome (List Item)) → IsTrue (unquoted text) → IsReading modal text o → NotMissing (outcome_walk deeper root file lists p o)
outcome-not modal text deeper root file lists p (reads items) u h =
    subst (λ is. NotMissing (items_walk deeper root file lists is (walked p []))) (sym h.meant)
    (items-not deeper root file lists (offsets h.tokens) h.trees (walked p []) (subst (λ xs. IsTrue (list_all plain xs)) h.written (tokens-plain text 0 h.to h.tokens u h.there)))
outcome-not modal text deeper root file lists p (fails (wrong offset cause)) u h = λ name e. absurd (cc)
outcome-not modal text deeper root file lists p (fails (too_deep offset)) u h = λ name e. absurd (cc)

-- ---- in what comes behind the walk

sized-not : (empty : Refusal) (s : Setting) (symbols : List Symbol) (o : Option Formula) → ((name : List ℕ) → empty ≡ missing name → ⊥) → NotMissing (sized empty s symbols o)
sized-not empty s symbols None h = λ name e. h name (refusal-not empty (missing name) (Err empty) (Err (missing name)) refl refl e)
sized-not empty s symbols (Some f) h = if-not (nat_lt greatest_nodes (node_count f)) _ _ (λ name e. absurd (cc)) (ok-not _)

limited-not : (empty : Refusal) (s : Setting) (symbols : List Symbol) (xs ys : List Formula) → ((name : List ℕ) → empty ≡ missing name → ⊥) → NotMissing (limited empty s symbols xs ys)
limited-not empty s symbols xs ys h =
    if-not (nat_lt greatest_symbols (length symbols)) _ _ (λ name e. absurd (cc))
    (if-not (are_flat (xs ++ ys)) _ _ (sized-not empty s symbols (problem_formula xs ys) h) (λ name e. absurd (cc)))

pub none-missing : (f : Family) (n : ℕ) (s : Setting) (name : List ℕ) → IsProblemOf ((codes "m.p", family_text f n s.logic) ∷ []) (codes "m.p") [] s (Err (missing name)) → ⊥
none-missing f n s name h =
    let text = family_text f n s.logic in
    let files : Files = (codes "m.p", text) ∷ [] in
    let empty = no_formula files (codes "m.p") in
    go_on-not (walk h.0 files (codes "m.p") []) _
    (if-not (nat_lt greatest_input (0 + length text)) _ _ (λ k e. absurd (cc))
    (outcome-not (is_modal s.logic) text (Some (file_walk h.0 files [] 15)) [] (codes "m.p") [] (record { bytes = 0 + length text; passed = [] }) (h.0 text) (text-unquoted f n s.logic) (h.1 text)))
    (λ w. limited-not empty s (symbols_of w.progress.passed) (premises_of s (symbols_of w.progress.passed) w.progress.passed) (formulas_of (symbols_of w.progress.passed) (conjectures w.progress.passed)) (λ k e. absurd (cc))) name h.2
