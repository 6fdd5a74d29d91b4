-- The nesting of each token: how many round brackets of its formula are open at it, and how many negations, quantifiers
-- and modal operators have it in their operand. A bracket that opens stands outside of itself, and one that closes inside.
-- Tokens outside of formulas have none. The lists of nestings are as long as those of tokens.
use Rattle.std.specs.Prelude.{ℕ, suc, List, [], ◌∷◌, ◌++◌, map, Option}
use Rattle.std.specs.List.{flat_map}
use Rattle.tptp_reader.specs.Terminals.{Terminal}
use Rattle.tptp_reader.specs.Grammar.{TermTree, variable, constant, application, TermTrees, no_terms, more_terms, AtomTree, truth, falsity, proposition, predication, equation, disequation, UnitTree, bracketed, negation, quantified, under_modality, atomic, FormulaTree, single, chain, binary, UnitTrees, no_units, more_units, LiteralTree, positive, negative, positive_bracketed, negative_bracketed, ClauseTree, bare, bracketed_clause, ItemTree, fof, qmf, cnf, include, include_names, variables_tokens, notes_tokens, end_tokens, item_tokens}

-- the same nesting for each of these
abbrev pub all_at : {A : Type 0} → ℕ → List A → List ℕ
all_at d xs = map (λ x. d) xs

-- d is the nesting of the place where the tree stands
abbrev mutual
  pub term_nestings : ℕ → TermTree → List ℕ
  term_nestings d (variable x) = d ∷ []
  term_nestings d (constant w) = d ∷ []
  term_nestings d (application w t ts) = d ∷ d ∷ (term_nestings (suc d) t ++ terms_nestings (suc d) ts)

  pub terms_nestings : ℕ → TermTrees → List ℕ
  terms_nestings d no_terms = d ∷ []
  terms_nestings d (more_terms t ts) = d ∷ (term_nestings d t ++ terms_nestings d ts)

abbrev pub atom_nestings : ℕ → AtomTree → List ℕ
atom_nestings d truth = d ∷ []
atom_nestings d falsity = d ∷ []
atom_nestings d (proposition w) = d ∷ []
atom_nestings d (predication w t ts) = d ∷ d ∷ (term_nestings (suc d) t ++ terms_nestings (suc d) ts)
atom_nestings d (equation s t) = term_nestings d s ++ d ∷ term_nestings d t
atom_nestings d (disequation s t) = term_nestings d s ++ d ∷ term_nestings d t

abbrev mutual
  pub unit_nestings : ℕ → UnitTree → List ℕ
  unit_nestings d (bracketed f) = d ∷ (formula_nestings (suc d) f ++ suc d ∷ [])
  unit_nestings d (negation u) = d ∷ unit_nestings (suc d) u
  unit_nestings d (quantified q x xs u) = d ∷ d ∷ d ∷ (all_at d (variables_tokens xs) ++ unit_nestings (suc d) u)
  unit_nestings d (under_modality m u) = d ∷ d ∷ unit_nestings (suc d) u
  unit_nestings d (atomic a) = atom_nestings d a

  pub formula_nestings : ℕ → FormulaTree → List ℕ
  formula_nestings d (single u) = unit_nestings d u
  formula_nestings d (chain c u v us) = unit_nestings d u ++ d ∷ (unit_nestings d v ++ units_nestings d us)
  formula_nestings d (binary c u v) = unit_nestings d u ++ d ∷ unit_nestings d v

  pub units_nestings : ℕ → UnitTrees → List ℕ
  units_nestings d no_units = []
  units_nestings d (more_units u us) = d ∷ (unit_nestings d u ++ units_nestings d us)

abbrev pub literal_nestings : ℕ → LiteralTree → List ℕ
literal_nestings d (positive a) = atom_nestings d a
literal_nestings d (negative a) = d ∷ atom_nestings (suc d) a
literal_nestings d (positive_bracketed a) = d ∷ (atom_nestings (suc d) a ++ suc d ∷ [])
literal_nestings d (negative_bracketed a) = d ∷ suc d ∷ (atom_nestings (suc (suc d)) a ++ suc (suc d) ∷ [])

abbrev pub literals_nestings : ℕ → List LiteralTree → List ℕ
literals_nestings d ls = flat_map (λ l. d ∷ literal_nestings d l) ls

abbrev pub clause_nestings : ℕ → ClauseTree → List ℕ
clause_nestings d (bare l ls) = literal_nestings d l ++ literals_nestings d ls
clause_nestings d (bracketed_clause l ls) = d ∷ (literal_nestings (suc d) l ++ literals_nestings (suc d) ls ++ suc d ∷ [])

-- those of the tokens behind an item's formula
abbrev pub end_nestings : Option (List Terminal) → List ℕ
end_nestings notes = all_at 0 (notes_tokens notes ++ end_tokens)

abbrev pub head_nestings : List ℕ
head_nestings = 0 ∷ 0 ∷ 0 ∷ 0 ∷ 0 ∷ 0 ∷ []

abbrev pub item_nestings : ItemTree → List ℕ
item_nestings (fof name role f notes) = head_nestings ++ formula_nestings 0 f ++ end_nestings notes
item_nestings (qmf name role f notes) = head_nestings ++ formula_nestings 0 f ++ end_nestings notes
item_nestings (cnf name role c notes) = head_nestings ++ clause_nestings 0 c ++ end_nestings notes
item_nestings (include file) = all_at 0 (item_tokens (include file))
item_nestings (include_names file n ns) = all_at 0 (item_tokens (include_names file n ns))

abbrev pub text_nestings : List ItemTree → List ℕ
text_nestings items = flat_map item_nestings items
