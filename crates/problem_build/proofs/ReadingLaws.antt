-- The formulas of a text that is read have no empty chain, and modal operators in modal problems alone.
use Rattle.std.proofs.Common.{◌||◌, ◌&&◌, ℕ, Bool, true, false, List, [], ◌∷◌, refl, sym, subst, map, drop, length, IsTrue}
use Rattle.std.specs.List.{list_all}
use Rattle.std.proofs.lemmas.Bool.{and_parts, and_from, false≢true}
use Rattle.plain_laws.proofs.Booleans.{or-both_parts}
use Rattle.tptp_reader.specs.Sources.{Item, formula, include}
use Rattle.tptp_reader.specs.Lists.{sources_tree}
use Rattle.tptp_reader.specs.Grammar as g
use Rattle.tptp_reader.specs.Grammar.{AtomTree, UnitTree, FormulaTree, UnitTrees, LiteralTree, ClauseTree, ItemTree, item_tokens}
use Rattle.tptp_reader.specs.Meaning.{atom_of, unit_of, source_of, units_of, literal_of, disjunction_of, clause_of, item_of, items_of}
use Rattle.tptp_reader.specs.Terminals.{offsets}
use Rattle.tptp_reader.specs.Reading.{reads, IsReading}
use Rattle.problem_build.proofs.ExpansionLaws.{is_well, are_well}

atom-well : (m : Bool) (a : AtomTree) → IsTrue (is_well m (atom_of a))
atom-well m g.truth = refl
atom-well m g.falsity = refl
atom-well m (g.proposition w) = refl
atom-well m (g.predication w t us) = refl
atom-well m (g.equation s t) = refl
atom-well m (g.disequation s t) = refl

mutual
  unit-well : (u : UnitTree) (m : Bool) → IsTrue (m || g.is_plain_unit u) → IsTrue (is_well m (unit_of u))
  unit-well (g.bracketed f) m h = source-well f m h
  unit-well (g.negation u) m h = unit-well u m h
  unit-well (g.quantified g.universal x xs u) m h = unit-well u m h
  unit-well (g.quantified g.existential x xs u) m h = unit-well u m h
  unit-well (g.under_modality g.necessity u) true h = unit-well u true refl
  unit-well (g.under_modality g.possibility u) true h = unit-well u true refl
  unit-well (g.under_modality k u) false h = absurd (false≢true h)
  unit-well (g.atomic a) m h = atom-well m a

  pub source-well : (f : FormulaTree) (m : Bool) → IsTrue (m || g.is_plain f) → IsTrue (is_well m (source_of f))
  source-well (g.single u) m h = unit-well u m h
  source-well (g.chain c u v us) m h =
      let p = or-both_parts m (g.is_plain_unit u && g.is_plain_unit v) (g.are_plain_units us) h in
      let q = or-both_parts m (g.is_plain_unit u) (g.is_plain_unit v) p.0 in
      and_from (is_well m (unit_of u)) (is_well m (unit_of v) && are_well m (units_of us)) (unit-well u m q.0) (and_from (is_well m (unit_of v)) (are_well m (units_of us)) (unit-well v m q.1) (units-well us m p.1))
  source-well (g.binary c u v) m h =
      let q = or-both_parts m (g.is_plain_unit u) (g.is_plain_unit v) h in
      and_from (is_well m (unit_of u)) (is_well m (unit_of v)) (unit-well u m q.0) (unit-well v m q.1)

  units-well : (us : UnitTrees) (m : Bool) → IsTrue (m || g.are_plain_units us) → IsTrue (are_well m (units_of us))
  units-well g.no_units m h = refl
  units-well (g.more_units u us) m h =
      let q = or-both_parts m (g.is_plain_unit u) (g.are_plain_units us) h in
      and_from (is_well m (unit_of u)) (are_well m (units_of us)) (unit-well u m q.0) (units-well us m q.1)

literal-well : (m : Bool) (l : LiteralTree) → IsTrue (is_well m (literal_of l))
literal-well m (g.positive a) = atom-well m a
literal-well m (g.negative a) = atom-well m a
literal-well m (g.positive_bracketed a) = atom-well m a
literal-well m (g.negative_bracketed a) = atom-well m a

literals-well : (m : Bool) (ls : List LiteralTree) → IsTrue (are_well m (sources_tree (map literal_of ls)))
literals-well m [] = refl
literals-well m (l ∷ ls) = and_from (is_well m (literal_of l)) (are_well m (sources_tree (map literal_of ls))) (literal-well m l) (literals-well m ls)

disjunction-well : (m : Bool) (l : LiteralTree) (ls : List LiteralTree) → IsTrue (is_well m (disjunction_of l ls))
disjunction-well m l [] = literal-well m l
disjunction-well m l (k ∷ ks) = and_from (is_well m (literal_of l)) (are_well m (sources_tree (map literal_of (k ∷ ks)))) (literal-well m l) (literals-well m (k ∷ ks))

clause-well : (m : Bool) (c : ClauseTree) → IsTrue (is_well m (clause_of c))
clause-well m (g.bare l ls) = disjunction-well m l ls
clause-well m (g.bracketed_clause l ls) = disjunction-well m l ls

abbrev pub is_well_item : Bool → Item → Bool
is_well_item m (formula kind name role role_at body start) = is_well m body
is_well_item m (include file names start) = true

item-well : (m : Bool) (offsets : List ℕ) (i : ItemTree) → IsTrue (g.item_fits m i) → IsTrue (is_well_item m (item_of offsets i))
item-well true offsets (g.fof n r f o) h = absurd (false≢true h)
item-well false offsets (g.fof n r f o) h =
    source-well f false (and_parts (g.name_fits n) (g.is_plain f) (and_parts (g.name_fits n && g.is_plain f) (g.notes_fit o) h).0).1
item-well true offsets (g.qmf n r f o) h = source-well f true refl
item-well false offsets (g.qmf n r f o) h = absurd (false≢true h)
item-well m offsets (g.cnf n r c o) h = clause-well m c
item-well m offsets (g.include file) h = refl
item-well m offsets (g.include_names file n ns) h = refl

items-well : (m : Bool) (is : List ItemTree) (offsets : List ℕ) → IsTrue (list_all (g.item_fits m) is) → IsTrue (list_all (is_well_item m) (items_of offsets is))
items-well m [] offsets h = refl
items-well m (i ∷ is) offsets h =
    let p = and_parts (g.item_fits m i) (list_all (g.item_fits m) is) h in
    and_from (is_well_item m (item_of offsets i)) (list_all (is_well_item m) (items_of (drop (length (item_tokens i)) offsets) is)) (item-well m offsets i p.0) (items-well m is (drop (length (item_tokens i)) offsets) p.1)

-- The items of a text are well made.
pub read-well : (m : Bool) (text : List ℕ) (items : List Item) → IsReading m text (reads items) → IsTrue (list_all (is_well_item m) items)
read-well m text items h = subst (λ is. IsTrue (list_all (is_well_item m) is)) (sym h.meant) (items-well m h.trees (offsets h.tokens) h.fit)
