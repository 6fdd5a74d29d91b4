-- What stands for each part that is expected, and a stack completed part by part.
use Rattle.std.proofs.Common.{◌≡◌, ◌==◌, ◌&&◌, ◌||◌, ℕ, suc, Bool, true, false, List, [], ◌∷◌, ◌++◌, Option, Some, refl, sym, ◌∙◌, ap, append-nil, subst, flat_map, IsTrue}
use Rattle.std.specs.List.{list_all}
use Rattle.std.proofs.lemmas.Bool.{eqb-true}
use Rattle.plain_laws.proofs.Options.{none_some}
use Rattle.tptp_lex.proofs.Runs.{some-is}
use Rattle.tptp_reader.specs.declared.source.ChainKind.{ChainKind}
use Rattle.tptp_reader.specs.declared.source.BinaryKind.{BinaryKind}
use Rattle.tptp_reader.specs.Terminals.{Terminal, open_round, close_round, open_square, close_square, comma}
use Rattle.tptp_reader.specs.Grammar as g
use Rattle.tptp_reader.specs.Grammar.{Word, plain, in_quotes, TermTree, TermTrees, AtomTree, UnitTree, FormulaTree, UnitTrees, LiteralTree, ClauseTree, NameTree, ItemTree, term_tokens, terms_tokens, atom_tokens, unit_tokens, formula_tokens, units_tokens, variables_tokens, word_token}
pub use Rattle.tptp_reader.specs.Standing.{Arguments, no_arguments, these, arguments_tokens, Side, no_side, equals, differs, side_tokens}
pub use Rattle.tptp_reader.specs.ClauseStanding.{unsigned_tokens, unsigned_nestings}
pub use Rattle.tptp_reader.specs.ItemStanding.{others_tokens}
use Rattle.tptp_reader.specs.Nesting.{all_at, term_nestings, terms_nestings, atom_nestings, unit_nestings, formula_nestings, units_nestings, literal_nestings, literals_nestings, clause_nestings, text_nestings}
use Rattle.tptp_reader.specs.Faults.{is_stop}
use Rattle.tptp_reader.specs.Expecting.{Expected, Fixed, form, form_of, this, term, arguments, some_arguments, some_equation, equation, atom, variables, unit, formula, formula_rest, chain_rest, stop, literal, unsigned, literals_rest, clause, clause_open, clause_rest, items, name, after_body, first_note, notes, include_rest, names_rest, this_move}

-- ---- what stands for each part

abbrev pub arguments_nestings : ℕ → Arguments → List ℕ
arguments_nestings d no_arguments = []
arguments_nestings d (these t us) = d ∷ (term_nestings (suc d) t ++ terms_nestings (suc d) us)

abbrev pub applied : Word → Arguments → TermTree
applied w no_arguments = g.constant w
applied w (these t us) = g.application w t us

abbrev pub predicated : Word → Arguments → AtomTree
predicated w no_arguments = g.proposition w
predicated w (these t us) = g.predication w t us

abbrev pub side_nestings : ℕ → Side → List ℕ
side_nestings d no_side = []
side_nestings d (equals t) = d ∷ term_nestings d t
side_nestings d (differs t) = d ∷ term_nestings d t

abbrev pub is_side : Side → Bool
is_side no_side = false
is_side _ = true

-- what stands behind a formula's first unit
pub data Rest : Type 0 where
  no_rest : Rest
  chained : ChainKind → UnitTree → UnitTrees → Rest
  paired : BinaryKind → UnitTree → Rest

abbrev pub rest_tokens : Rest → List Terminal
rest_tokens no_rest = []
rest_tokens (chained c v us) = g.chain_token c ∷ (unit_tokens v ++ units_tokens c us)
rest_tokens (paired c v) = g.binary_token c ∷ unit_tokens v

abbrev pub rest_nestings : ℕ → Rest → List ℕ
rest_nestings d no_rest = []
rest_nestings d (chained c v us) = d ∷ (unit_nestings d v ++ units_nestings d us)
rest_nestings d (paired c v) = d ∷ unit_nestings d v

abbrev pub is_plain_rest : Rest → Bool
is_plain_rest no_rest = true
is_plain_rest (chained c v us) = g.is_plain_unit v && g.are_plain_units us
is_plain_rest (paired c v) = g.is_plain_unit v

abbrev pub joined : UnitTree → Rest → FormulaTree
joined u no_rest = g.single u
joined u (chained c v us) = g.chain c u v us
joined u (paired c v) = g.binary c u v

-- the names of an include, or nothing
pub data Names : Type 0 where
  no_names : Names
  some_names : NameTree → List NameTree → Names

abbrev pub names_tokens : Names → List Terminal
names_tokens no_names = close_round ∷ []
names_tokens (some_names n ns) = comma ∷ open_square ∷ g.name_token n ∷ (others_tokens ns ++ close_square ∷ close_round ∷ [])

abbrev pub names_fit : Names → Bool
names_fit no_names = true
names_fit (some_names n ns) = g.name_fits n && list_all g.name_fits ns

abbrev pub Form : Bool → Expected → List Terminal → List ℕ → Type 0
Form modal (this k d) ts ns = (x : Terminal) × (form x ≡ form_of k) × (ts ≡ x ∷ []) × (ns ≡ d ∷ [])
Form modal (term d) ts ns = (t : TermTree) × (ts ≡ term_tokens t) × (ns ≡ term_nestings d t)
Form modal (arguments d) ts ns = (us : TermTrees) × (ts ≡ terms_tokens us) × (ns ≡ terms_nestings d us)
Form modal (some_arguments d) ts ns = (m : Arguments) × (ts ≡ arguments_tokens m) × (ns ≡ arguments_nestings d m)
Form modal (some_equation d) ts ns = (s : Side) × (ts ≡ side_tokens s) × (ns ≡ side_nestings d s)
Form modal (equation d) ts ns = (s : Side) × (is_side s ≡ true) × (ts ≡ side_tokens s) × (ns ≡ side_nestings d s)
Form modal (atom d) ts ns = (a : AtomTree) × (ts ≡ atom_tokens a) × (ns ≡ atom_nestings d a)
Form modal (variables d) ts ns = (xs : List (List ℕ)) × (ts ≡ variables_tokens xs) × (ns ≡ all_at d (variables_tokens xs))
Form modal (unit d) ts ns = (u : UnitTree) × IsTrue (modal || g.is_plain_unit u) × (ts ≡ unit_tokens u) × (ns ≡ unit_nestings d u)
Form modal (formula d) ts ns = (f : FormulaTree) × IsTrue (modal || g.is_plain f) × (ts ≡ formula_tokens f) × (ns ≡ formula_nestings d f)
Form modal (formula_rest d) ts ns = (m : Rest) × IsTrue (modal || is_plain_rest m) × (ts ≡ rest_tokens m) × (ns ≡ rest_nestings d m)
Form modal (chain_rest c d) ts ns = (us : UnitTrees) × IsTrue (modal || g.are_plain_units us) × (ts ≡ units_tokens c us) × (ns ≡ units_nestings d us)
Form modal stop ts ns = (x : Terminal) × IsTrue (is_stop x) × (ts ≡ x ∷ []) × (ns ≡ 0 ∷ [])
Form modal (literal d) ts ns = (l : LiteralTree) × (ts ≡ g.literal_tokens l) × (ns ≡ literal_nestings d l)
Form modal (unsigned d) ts ns = (b : Bool) × (a : AtomTree) × (ts ≡ unsigned_tokens b a) × (ns ≡ unsigned_nestings d b a)
Form modal (literals_rest d) ts ns = (ls : List LiteralTree) × (ts ≡ g.literals_tokens ls) × (ns ≡ literals_nestings d ls)
Form modal clause ts ns = (c : ClauseTree) × (ts ≡ g.clause_tokens c) × (ns ≡ clause_nestings 0 c)
Form modal clause_open ts ns = (c : ClauseTree) × (open_round ∷ ts ≡ g.clause_tokens c) × (0 ∷ ns ≡ clause_nestings 0 c)
Form modal clause_rest ts ns = (a : AtomTree) → (c : ClauseTree) × (open_round ∷ (atom_tokens a ++ ts) ≡ g.clause_tokens c) × (0 ∷ (atom_nestings 1 a ++ ns) ≡ clause_nestings 0 c)
Form modal items ts ns = (is : List ItemTree) × IsTrue (list_all (g.item_fits modal) is) × (ts ≡ g.text_tokens is) × (ns ≡ text_nestings is)
Form modal name ts ns = (n : NameTree) × IsTrue (g.name_fits n) × (ts ≡ g.name_token n ∷ []) × (ns ≡ 0 ∷ [])
Form modal after_body ts ns = (o : Option (List Terminal)) × IsTrue (g.notes_fit o) × (ts ≡ g.notes_tokens o ++ close_round ∷ []) × (ns ≡ all_at 0 (g.notes_tokens o ++ close_round ∷ []))
Form modal first_note ts ns = (xs : List Terminal) × IsTrue (g.are_notes xs) × (ts ≡ xs ++ close_round ∷ []) × (ns ≡ all_at 0 (xs ++ close_round ∷ []))
Form modal (notes waiting) ts ns = (xs : List Terminal) × IsTrue (g.closes waiting xs) × (ts ≡ xs ++ close_round ∷ []) × (ns ≡ all_at 0 (xs ++ close_round ∷ []))
Form modal include_rest ts ns = (m : Names) × IsTrue (names_fit m) × (ts ≡ names_tokens m) × (ns ≡ all_at 0 (names_tokens m))
Form modal names_rest ts ns = (xs : List NameTree) × IsTrue (list_all g.name_fits xs) × (ts ≡ others_tokens xs ++ close_square ∷ close_round ∷ []) × (ns ≡ all_at 0 (others_tokens xs ++ close_square ∷ close_round ∷ []))

-- a stack is completed part by part
pub data Completes (modal : Bool) : List Expected → List Terminal → List ℕ → Type 0 where
  none : Completes modal [] [] []
  part : {e : Expected} {es : List Expected} (ts us : List Terminal) (ns ms : List ℕ) → Form modal e ts ns → Completes modal es us ms → Completes modal (e ∷ es) (ts ++ us) (ns ++ ms)

-- the first part, and the others
pub record Split (modal : Bool) (e : Expected) (es : List Expected) (ts : List Terminal) (ns : List ℕ) : Type 0 where
  pub a : List Terminal
  pub b : List Terminal
  pub k : List ℕ
  pub l : List ℕ
  pub first : Form modal e a k
  pub others : Completes modal es b l
  pub tokens : ts ≡ a ++ b
  pub nestings : ns ≡ k ++ l

pub split : {modal : Bool} {e : Expected} {es : List Expected} {ts : List Terminal} {ns : List ℕ} → Completes modal (e ∷ es) ts ns → Split modal e es ts ns
split (part ts us ns ms f c) = record { a = ts; b = us; k = ns; l = ms; first = f; others = c; tokens = refl; nestings = refl }

pub no-more : {modal : Bool} {ts : List Terminal} {ns : List ℕ} → Completes modal [] ts ns → (ts ≡ []) × (ns ≡ [])
no-more none = (refl, refl)

-- a stack of one part
pub only : {modal : Bool} {e : Expected} {ts : List Terminal} {ns : List ℕ} → Completes modal (e ∷ []) ts ns → Form modal e ts ns
only {modal} {e} {ts} {ns} c =
    let s = split c in
    let n = no-more s.others in
    let t : s.a ≡ ts = sym (append-nil s.a) ∙ ap (λ z. s.a ++ z) (sym n.0) ∙ sym s.tokens in
    let m : s.k ≡ ns = sym (append-nil s.k) ∙ ap (λ z. s.k ++ z) (sym n.1) ∙ sym s.nestings in
    subst (λ z. Form modal e z ns) t (subst (λ z. Form modal e s.a z) m s.first)

-- what a move leads to, taken back
abbrev pub Backs : Bool → Expected → (Terminal → Option (ℕ × List Expected)) → Type 0
Backs modal e mv = (x : Terminal) (r : ℕ × List Expected) (ts : List Terminal) (ns : List ℕ) → mv x ≡ Some r → Completes modal r.1 ts ns → Form modal e (x ∷ ts) (r.0 ∷ ns)

-- a known move
pub known : (modal : Bool) (e : Expected) (x : Terminal) (ts : List Terminal) (ns : List ℕ) {n : ℕ} {new : List Expected} {r : ℕ × List Expected} → Some (n, new) ≡ Some r → (Completes modal new ts ns → Form modal e (x ∷ ts) (n ∷ ns)) → Completes modal r.1 ts ns → Form modal e (x ∷ ts) (r.0 ∷ ns)
known modal e x ts ns q f c = subst (λ (z : ℕ × List Expected). Completes modal z.1 ts ns → Form modal e (x ∷ ts) (z.0 ∷ ns)) (some-is q) f c

pub this-back : (modal : Bool) (k : Fixed) (d : ℕ) → Backs modal (this k d) (λ x. this_move (form x == form_of k) d)
this-back modal k d x r ts ns e c = by (form x == form_of k) refl e
  where
    by : (b : Bool) → (form x == form_of k) ≡ b → this_move b d ≡ Some r → Form modal (this k d) (x ∷ ts) (r.0 ∷ ns)
    by false h q = absurd (none_some q)
    by true h q = known modal (this k d) x ts ns q (λ s. let n = no-more s in (x, eqb-true (form x) (form_of k) h, ap (λ z. x ∷ z) n.0, ap (λ z. d ∷ z) n.1)) c
