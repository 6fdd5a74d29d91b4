-- The entries of a structure's text state a structure with this text, and each structure that can be stated has a text of entries.
use Rattle.std.proofs.Common.{◌≡◌, ℕ, List, [], ◌∷◌, ◌++◌, length, take, drop, IsTrue, refl, sym, ◌∙◌, ap, subst, arith, append_assoc, codes, nat_lt, nat_le, leb-true, lt-ltb}
use Rattle.std.specs.List.{list_all}
use Rattle.std.proofs.lemmas.List.{take-append-drop}
use Rattle.std.proofs.lemmas.Bool.{and_parts, and_from, eq-eqb}
use Rattle.calculus.specs.Syntax.{Symbol, Problem}
use Rattle.calculus.specs.Structures.{Structure, are_tables, is_in_range}
use Rattle.calculus.specs.StructureText.{world_lines, function_lines, predicate_lines, structure_head, structure_lines, is_size, fits_table, can_be_stated}
use Rattle.calculus.proofs.StructureTextUnique.{stated-parts}
use Rattle.finite_model.specs.declared.slot.Form.TheVariants.{Rising}
use Rattle.finite_model.specs.Slots.{world_slots, function_slots, predicate_slots, slots, are_entries, entry_lines, head_of, lines_of, function_count, structure_of}
use Rattle.finite_model.proofs.SlotLaws.{HasEntries, has-joined, lines-joined, lists-entries, entries-lists, world-lines, world-count, entry-count, entries-split, stated-functions, stated-rows, function-slot_count, function-lines, predicate-lines, tables-stand, function_entries, row_entries}

regrouped : (h a b c d e : List (List ℕ)) → ((((h ++ a) ++ b) ++ c) ++ d) ++ e ≡ h ++ ((a ++ (b ++ (c ++ d))) ++ e)
regrouped h a b c d e =
    ap (λ k. k ++ e) (append_assoc ((h ++ a) ++ b) c d ∙ append_assoc (h ++ a) b (c ++ d) ∙ append_assoc h a (b ++ (c ++ d)))
    ∙ append_assoc h (a ++ (b ++ (c ++ d))) e

-- ---- from a structure to entries

-- entries whose lines are those of the structure
pub record IsOfEntries (P : Problem) (S : Structure) : Type 0 where
  pub entries : List (List ℕ)
  pub are : IsTrue (are_entries (slots P.symbols (length S.successors) S.elements) entries)
  pub lines : structure_lines P S ≡ lines_of P (length S.successors) S.elements entries

pub stated-entries : (P : Problem) (S : Structure) → IsTrue (can_be_stated P S) → IsOfEntries P S
stated-entries P S h =
    let W = length S.successors in
    let E = S.elements in
    let p = stated-parts P S h in
    let a : HasEntries (world_slots (codes "relation ") [] (Rising W) 0 W) S.successors (world_lines (codes "relation ") 0 S.successors) = record { entries = lists-entries (codes "relation ") W 0 W S.successors refl (record { below = p.relation; rising = p.rising_successors }); lines = world-lines (codes "relation ") W 0 W S.successors refl } in
    let b : HasEntries (world_slots (codes "domain ") [] (Rising E) 0 W) S.domains (world_lines (codes "domain ") 0 S.domains) = record { entries = lists-entries (codes "domain ") E 0 W S.domains p.count (record { below = p.domains; rising = p.rising_domains }); lines = world-lines (codes "domain ") E 0 W S.domains p.count } in
    let c = stated-functions S P.symbols S.meanings p.tables in
    let d = stated-rows S P.symbols S.meanings p.tables in
    let cd = has-joined (function_slots E P.symbols) (predicate_slots W E P.symbols) (function_entries S.meanings) (row_entries S.meanings) (function_lines P.symbols S.meanings) (predicate_lines P.symbols S.meanings) c d in
    let bcd = has-joined (world_slots (codes "domain ") [] (Rising E) 0 W) _ S.domains _ (world_lines (codes "domain ") 0 S.domains) _ b cd in
    let all = has-joined (world_slots (codes "relation ") [] (Rising W) 0 W) _ S.successors _ (world_lines (codes "relation ") 0 S.successors) _ a bcd in
    record {
      entries = S.successors ++ (S.domains ++ (function_entries S.meanings ++ row_entries S.meanings));
      are = all.entries;
      lines =
          regrouped (structure_head P S) (world_lines (codes "relation ") 0 S.successors) (world_lines (codes "domain ") 0 S.domains) (function_lines P.symbols S.meanings) (predicate_lines P.symbols S.meanings) (codes "end" ∷ [])
          ∙ ap (λ ls. structure_head P S ++ (ls ++ codes "end" ∷ [])) (sym all.lines);
    }

-- ---- from entries to a structure

-- the entries in four parts
record AreParts (symbols : List Symbol) (W E : ℕ) (es : List (List ℕ)) : Type 0 where
  relation : IsTrue (are_entries (world_slots (codes "relation ") [] (Rising W) 0 W) (take W es))
  domain : IsTrue (are_entries (world_slots (codes "domain ") [] (Rising E) 0 W) (take W (drop W es)))
  functions : IsTrue (are_entries (function_slots E symbols) (take (function_count symbols) (drop W (drop W es))))
  rows : IsTrue (are_entries (predicate_slots W E symbols) (drop (function_count symbols) (drop W (drop W es))))

parts-of : (symbols : List Symbol) (W E : ℕ) (es : List (List ℕ)) → IsTrue (are_entries (slots symbols W E) es) → AreParts symbols W E es
parts-of symbols W E es h =
    let ra = world-count (codes "relation ") [] (Rising W) 0 W in
    let rb = world-count (codes "domain ") [] (Rising E) 0 W in
    let rc = function-slot_count E symbols in
    let a = world_slots (codes "relation ") [] (Rising W) 0 W in
    let b = world_slots (codes "domain ") [] (Rising E) 0 W in
    let c = function_slots E symbols in
    let d = predicate_slots W E symbols in
    let x = entries-split a (b ++ (c ++ d)) es h in
    let y = entries-split b (c ++ d) (drop W es) (subst (λ n. IsTrue (are_entries (b ++ (c ++ d)) (drop n es))) ra x.rest) in
    let z = entries-split c d (drop W (drop W es)) (subst (λ n. IsTrue (are_entries (c ++ d) (drop n (drop W es)))) rb y.rest) in
    record {
      relation = subst (λ n. IsTrue (are_entries a (take n es))) ra x.first;
      domain = subst (λ n. IsTrue (are_entries b (take n (drop W es)))) rb y.first;
      functions = subst (λ n. IsTrue (are_entries c (take n (drop W (drop W es))))) rc z.first;
      rows = subst (λ n. IsTrue (are_entries d (drop n (drop W (drop W es))))) rc z.rest;
    }

above_zero : (n : ℕ) → IsTrue (is_size n) → IsTrue (nat_lt 0 n)
above_zero n h = let k = leb-true 1 n (and_parts (nat_le 1 n) (nat_le n 64) h).0 in lt-ltb 0 n (omega arith)

-- a structure that can be stated, with these lines
pub record IsStated (P : Problem) (W E : ℕ) (es : List (List ℕ)) : Type 0 where
  pub stated : IsTrue (can_be_stated P (structure_of P.symbols W E es))
  pub lines : structure_lines P (structure_of P.symbols W E es) ≡ lines_of P W E es

pub entries-stated : (P : Problem) (W E : ℕ) (es : List (List ℕ)) → IsTrue (is_size W) → IsTrue (is_size E) → IsTrue (list_all (fits_table E) P.symbols) → IsTrue (are_entries (slots P.symbols W E) es) → IsStated P W E es
entries-stated P W E es hw he fits h = record { stated = can; lines = same-lines }
  where
    parts : AreParts P.symbols W E es
    parts = parts-of P.symbols W E es h

    worlds-are : length (take W es) ≡ W
    worlds-are = entry-count (world_slots (codes "relation ") [] (Rising W) 0 W) (take W es) parts.relation ∙ world-count (codes "relation ") [] (Rising W) 0 W

    domains-are : length (take W (drop W es)) ≡ W
    domains-are = entry-count (world_slots (codes "domain ") [] (Rising E) 0 W) (take W (drop W es)) parts.domain ∙ world-count (codes "domain ") [] (Rising E) 0 W

    tables : IsTrue (are_tables (structure_of P.symbols W E es) P.symbols (structure_of P.symbols W E es).meanings)
    tables = tables-stand (structure_of P.symbols W E es) W P.symbols (take (function_count P.symbols) (drop W (drop W es))) (drop (function_count P.symbols) (drop W (drop W es))) worlds-are parts.functions parts.rows

    within : IsTrue (is_in_range (structure_of P.symbols W E es))
    within =
        let r = entries-lists (codes "relation ") W 0 W (take W es) parts.relation in
        let d = entries-lists (codes "domain ") E 0 W (take W (drop W es)) parts.domain in
        and_from _ _ (and_from _ _ (and_from _ _ (ap (nat_lt 0) worlds-are ∙ above_zero W hw) (eq-eqb _ _ (domains-are ∙ sym worlds-are)))
        (ap (λ n. list_all (λ vs. list_all (λ v. nat_lt v n) vs) (take W es)) worlds-are ∙ r.below)) d.below

    can : IsTrue (can_be_stated P (structure_of P.symbols W E es))
    can =
        let r = entries-lists (codes "relation ") W 0 W (take W es) parts.relation in
        let d = entries-lists (codes "domain ") E 0 W (take W (drop W es)) parts.domain in
        and_from _ _ (and_from _ _ (and_from _ _ (and_from _ _ (ap is_size worlds-are ∙ hw) he) fits) (and_from _ _ (and_from _ _ within r.rising) d.rising)) tables

    all-lines : entry_lines (slots P.symbols W E) es ≡ world_lines (codes "relation ") 0 (take W es) ++ (world_lines (codes "domain ") 0 (take W (drop W es)) ++ (function_lines P.symbols (structure_of P.symbols W E es).meanings ++ predicate_lines P.symbols (structure_of P.symbols W E es).meanings))
    all-lines =
        let a = world_slots (codes "relation ") [] (Rising W) 0 W in
        let b = world_slots (codes "domain ") [] (Rising E) 0 W in
        let c = function_slots E P.symbols in
        let d = predicate_slots W E P.symbols in
        let n = function_count P.symbols in
        let xs = take W es in
        let ys = take W (drop W es) in
        let fs = take n (drop W (drop W es)) in
        let rs = drop n (drop W (drop W es)) in
        let again : es ≡ xs ++ (ys ++ (fs ++ rs)) = sym (ap (λ l. xs ++ l) (ap (λ l. ys ++ l) (take-append-drop n (drop W (drop W es))) ∙ take-append-drop W (drop W es)) ∙ take-append-drop W es) in
        ap (entry_lines (a ++ (b ++ (c ++ d)))) again
        ∙ lines-joined a (b ++ (c ++ d)) xs (ys ++ (fs ++ rs)) (entry-count a xs parts.relation)
        ∙ (λ i. world-lines (codes "relation ") W 0 W xs worlds-are i ++ (lines-joined b (c ++ d) ys (fs ++ rs) (entry-count b ys parts.domain)
        ∙ (λ j. world-lines (codes "domain ") E 0 W ys domains-are j ++ (lines-joined c d fs rs (entry-count c fs parts.functions)
        ∙ (λ k. function-lines E W P.symbols fs rs parts.functions k ++ predicate-lines E W P.symbols fs rs parts.rows k)) j)) i)

    same-lines : structure_lines P (structure_of P.symbols W E es) ≡ lines_of P W E es
    same-lines =
        regrouped (head_of P (length (take W es)) E) (world_lines (codes "relation ") 0 (take W es)) (world_lines (codes "domain ") 0 (take W (drop W es))) (function_lines P.symbols (structure_of P.symbols W E es).meanings) (predicate_lines P.symbols (structure_of P.symbols W E es).meanings) (codes "end" ∷ [])
        ∙ (λ i. head_of P (worlds-are i) E ++ (sym all-lines i ++ codes "end" ∷ []))
