-- What the trees of the grammar say: formulas and items as they are written.
use Rattle.std.specs.Prelude.{ℕ, suc, List, [], ◌∷◌, map, drop, length, None, Some, slice_index_or}
use Rattle.tptp_reader.specs.declared.source.ChainKind.TheVariants.{Or}
use Rattle.tptp_reader.specs.declared.item.ItemKind.TheVariants.{Fof, Cnf, Qmf}
use Rattle.tptp_reader.specs.Grammar as grammar
use Rattle.tptp_reader.specs.Grammar.{Word, plain, in_quotes, TermTree, TermTrees, AtomTree, Quantifier, universal, existential, Modality, necessity, possibility, UnitTree, FormulaTree, UnitTrees, LiteralTree, ClauseTree, NameTree, ItemTree, item_tokens}
use Rattle.tptp_reader.specs.Lists.{sources_tree}
use Rattle.tptp_reader.specs.Sources.{Name, SourceTerm, variable, apply, SourceTerms, no_terms, more_terms, Source, atom, truth, falsity, equal, unequal, not, chain, binary, for_all, exists, nec, poss, Sources, no_sources, more_sources, Item, formula, include}

abbrev pub word_name : Word → Name
word_name (plain w) = w
word_name (in_quotes w) = w

abbrev mutual
  pub term_of : TermTree → SourceTerm
  term_of (grammar.variable x) = variable x
  term_of (grammar.constant w) = apply (word_name w) no_terms
  term_of (grammar.application w t ts) = apply (word_name w) (more_terms (term_of t) (terms_of ts))

  pub terms_of : TermTrees → SourceTerms
  terms_of grammar.no_terms = no_terms
  terms_of (grammar.more_terms t ts) = more_terms (term_of t) (terms_of ts)

abbrev pub atom_of : AtomTree → Source
atom_of grammar.truth = truth
atom_of grammar.falsity = falsity
atom_of (grammar.proposition w) = atom (word_name w) no_terms
atom_of (grammar.predication w t ts) = atom (word_name w) (more_terms (term_of t) (terms_of ts))
atom_of (grammar.equation s t) = equal (term_of s) (term_of t)
atom_of (grammar.disequation s t) = unequal (term_of s) (term_of t)

abbrev pub quantified_by : Quantifier → List Name → Source → Source
quantified_by universal = for_all
quantified_by existential = exists

abbrev pub modal_by : Modality → Source → Source
modal_by necessity = nec
modal_by possibility = poss

abbrev mutual
  pub unit_of : UnitTree → Source
  unit_of (grammar.bracketed f) = source_of f
  unit_of (grammar.negation u) = not (unit_of u)
  unit_of (grammar.quantified q x xs u) = quantified_by q (x ∷ xs) (unit_of u)
  unit_of (grammar.under_modality m u) = modal_by m (unit_of u)
  unit_of (grammar.atomic a) = atom_of a

  pub source_of : FormulaTree → Source
  source_of (grammar.single u) = unit_of u
  source_of (grammar.chain c u v us) = chain c (more_sources (unit_of u) (more_sources (unit_of v) (units_of us)))
  source_of (grammar.binary c u v) = binary c (unit_of u) (unit_of v)

  pub units_of : UnitTrees → Sources
  units_of grammar.no_units = no_sources
  units_of (grammar.more_units u us) = more_sources (unit_of u) (units_of us)

abbrev pub literal_of : LiteralTree → Source
literal_of (grammar.positive a) = atom_of a
literal_of (grammar.negative a) = not (atom_of a)
literal_of (grammar.positive_bracketed a) = atom_of a
literal_of (grammar.negative_bracketed a) = not (atom_of a)

-- a clause of one literal is this literal
abbrev pub disjunction_of : LiteralTree → List LiteralTree → Source
disjunction_of l [] = literal_of l
disjunction_of l (m ∷ ms) = chain Or (more_sources (literal_of l) (sources_tree (map literal_of (m ∷ ms))))

abbrev pub clause_of : ClauseTree → Source
clause_of (grammar.bare l ls) = disjunction_of l ls
clause_of (grammar.bracketed_clause l ls) = disjunction_of l ls

-- ---- items

abbrev pub name_of : NameTree → Name
name_of (grammar.word_name w) = word_name w
name_of (grammar.number_name ds) = ds

-- the offset of an item's token of this number
abbrev pub offset_at : List ℕ → ℕ → ℕ
offset_at offsets k = slice_index_or offsets k 0

-- the names of an include, of which the first is the item's token of this number and the others follow at every second
abbrev pub selected : List ℕ → ℕ → List NameTree → List (Name × ℕ)
selected offsets k [] = []
selected offsets k (n ∷ ns) = (name_of n, offset_at offsets k) ∷ selected offsets (suc (suc k)) ns

-- what the item says, where its tokens have these offsets
abbrev pub item_of : List ℕ → ItemTree → Item
item_of offsets (grammar.fof name role f notes) = formula Fof (name_of name) role (offset_at offsets 4) (source_of f) (offset_at offsets 0)
item_of offsets (grammar.qmf name role f notes) = formula Qmf (name_of name) role (offset_at offsets 4) (source_of f) (offset_at offsets 0)
item_of offsets (grammar.cnf name role c notes) = formula Cnf (name_of name) role (offset_at offsets 4) (clause_of c) (offset_at offsets 0)
item_of offsets (grammar.include file) = include file None (offset_at offsets 0)
item_of offsets (grammar.include_names file n ns) = include file (Some (selected offsets 5 (n ∷ ns))) (offset_at offsets 0)

abbrev pub items_of : List ℕ → List ItemTree → List Item
items_of offsets [] = []
items_of offsets (i ∷ is) = item_of offsets i ∷ items_of (drop (length (item_tokens i)) offsets) is
