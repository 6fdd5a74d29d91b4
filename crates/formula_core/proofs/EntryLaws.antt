-- The `==` of entries tells whether they have the same items, so a set of entries is a table.
use Rattle.std.proofs.Common.{◌≡◌, ℕ, zero, suc, ◌+◌, ◌<◌, ◌≤◌, Bool, true, false, List, [], ◌∷◌, ◌++◌, length, get_or, map, Some, rules, refl, sym, ◌∙◌, ap, subst, slice_get, arith}
use Rattle.std.specs.Prelude.{Option, None, option_copied, IfSome, IsSome, IsNone}
use Rattle.std.specs.Borrow.{Bor}
use Rattle.std.proofs.Math.Logic.{◌⊎◌, inl, inr}
use Rattle.std.proofs.lemmas.Bool.{false≢true, cases_lt}
use Rattle.calculus.specs.Ground as tree
use Rattle.std.proofs.lemmas.Option.{get_or_from_slice_get}
use Rattle.std.proofs.lemmas.List.{length-map, get_or-map, map-append, append-nil, get_or_past}
use Rattle.std.specs.Bool.{Decides}
use Rattle.std.specs.Cmp.Lexicographic.{pointwise_decides}
use Rattle.std.specs.List.{list_any}
use Rattle.indexmap.specs.IndexSet.{insert_key}
use Rattle.formula_core.specs.GroundLists.{GroundList, of_terms, of_marks, of_values, terms_in, marks_in, values_in, the_terms, the_marks, the_values, list_at, no_list, IsGrown}
use Rattle.formula_core.specs.declared.ground.GroundTerms.{GroundTerms}
use Rattle.formula_core.specs.declared.ground.GroundLabel.{GroundLabel}
use Rattle.formula_core.specs.declared.ground.Values.{Values}
use Rattle.formula_core.specs.GroundTables.{Items, some_terms, some_marks, some_values, items_of, list_of, lists_from, AreNormalItems, IsTable, IsRead}
use Rattle.formula_core.specs.declared.ground.GroundTerm.{GroundTerm}
use Rattle.formula_core.specs.declared.ground.GroundMark.{GroundMark}
use Rattle.formula_core.proofs.SharedEq.{term-decides, mark-decides}
use Rattle.formula_core.specs.declared.ground.Value.{Value}
use Rattle.formula_core.specs.declared.table.Entry.{Entry}
use Rattle.formula_core.specs.declared.table.Entry.TheVariants as entry
use Rattle.formula_core.specs.contracts.ground.ValuePartialEq.TheImpl as value
use Rattle.formula_core.specs.contracts.table.EntryPartialEq.TheImpl.{eq-value}
use Rattle.formula_core.proofs.GroundTableLaws.{is-read, lists-length, lists-push, list_of-stays, table-push}

pub value-exact : (a b : Value) → value.eq-value.it a b ≡ true → a ≡ b
value-exact a b h = search rules

pub value-self : (a : Value) → value.eq-value.it a a ≡ true
value-self a = search rules

pub value-decides : (a b : Value) → Decides (value.eq-value.it a b) (a ≡ b)
value-decides a b = (value-exact a b, λ e. subst (λ x. value.eq-value.it a x ≡ true) e (value-self a))

abbrev terms_inside : Items → List GroundTerm
terms_inside (some_terms ts) = ts
terms_inside _ = []

abbrev marks_inside : Items → List GroundMark
marks_inside (some_marks ts) = ts
marks_inside _ = []

abbrev values_inside : Items → List Value
values_inside (some_values ts) = ts
values_inside _ = []

-- equal entries have the same items, and the other way round
pub entry-same : (a b : Entry) → eq-value.it a b ≡ true → items_of a ≡ items_of b
entry-same (entry.Terms ts) (entry.Terms us) h = ap some_terms ((pointwise_decides term-decides ts.items us.items).0 h)
entry-same (entry.Marks ts) (entry.Marks us) h = ap some_marks ((pointwise_decides mark-decides ts.items us.items).0 h)
entry-same (entry.Values ts) (entry.Values us) h = ap some_values ((pointwise_decides value-decides ts.items us.items).0 h)
entry-same (entry.Terms ts) (entry.Marks us) h = absurd (false≢true h)
entry-same (entry.Terms ts) (entry.Values us) h = absurd (false≢true h)
entry-same (entry.Marks ts) (entry.Terms us) h = absurd (false≢true h)
entry-same (entry.Marks ts) (entry.Values us) h = absurd (false≢true h)
entry-same (entry.Values ts) (entry.Terms us) h = absurd (false≢true h)
entry-same (entry.Values ts) (entry.Marks us) h = absurd (false≢true h)

pub entry-equal : (a b : Entry) → items_of a ≡ items_of b → eq-value.it a b ≡ true
entry-equal (entry.Terms ts) (entry.Terms us) e = (pointwise_decides term-decides ts.items us.items).1 (ap terms_inside e)
entry-equal (entry.Marks ts) (entry.Marks us) e = (pointwise_decides mark-decides ts.items us.items).1 (ap marks_inside e)
entry-equal (entry.Values ts) (entry.Values us) e = (pointwise_decides value-decides ts.items us.items).1 (ap values_inside e)
entry-equal (entry.Terms ts) (entry.Marks us) e = cc
entry-equal (entry.Terms ts) (entry.Values us) e = cc
entry-equal (entry.Marks ts) (entry.Terms us) e = cc
entry-equal (entry.Marks ts) (entry.Values us) e = cc
entry-equal (entry.Values ts) (entry.Terms us) e = cc
entry-equal (entry.Values ts) (entry.Marks us) e = cc

abbrev none : Items
none = some_terms []

-- ---- reading

pub entry-read : (keys : List Entry) (now : List GroundList) (k : ℕ) (e : Entry) → lists_from [] (map items_of keys) ≡ now → IsTable (map items_of keys) → k < length keys → slice_get keys k ≡ Some e → IsRead now k (items_of e)
entry-read keys now k e view t h at =
    let n = length-map keys items_of in
    let r = is-read (map items_of keys) k none t (omega (arith, n, h)) in
    let same : get_or (map items_of keys) k none ≡ items_of e = get_or-map items_of keys k e none h ∙ ap items_of (get_or_from_slice_get keys k e e at) in
    subst (λ ls. IsRead ls k (items_of e)) view (subst (λ x. IsRead (lists_from [] (map items_of keys)) k x) same r)

pub keys-length : (keys : List Entry) (now : List GroundList) → lists_from [] (map items_of keys) ≡ now → length now ≡ length keys
keys-length keys now view = ap length (sym view) ∙ lists-length (map items_of keys) ∙ length-map keys items_of

-- ---- adding

other-entry : (e : Entry) (keys : List Entry) (k : ℕ) → false ≡ list_any (eq-value.it e) keys → k < length (map items_of keys) → get_or (map items_of keys) k none ≡ items_of e → ⊥
other-entry e [] k h lt same = absurd (omega (arith, lt))
other-entry e (x ∷ keys) k h lt same = by (eq-value.it e x) refl (λ k f lt same. other-entry e keys k f lt same) k lt same
  where
    by : (b : Bool) → b ≡ eq-value.it e x → ((k : ℕ) → false ≡ list_any (eq-value.it e) keys → k < length (map items_of keys) → get_or (map items_of keys) k none ≡ items_of e → ⊥) → (k : ℕ) → k < length (map items_of (x ∷ keys)) → get_or (map items_of (x ∷ keys)) k none ≡ items_of e → ⊥
    by true g more k lt same = let f : false ≡ true = rw (← g) at h in false≢true f
    by false g more zero lt same = false≢true (g ∙ entry-equal e x (sym same))
    by false g more (suc k) lt same = let f : false ≡ list_any (eq-value.it e) keys = rw (← g) at h in more k f (omega (arith, lt)) same

-- what an entry that is added comes to
pub record IsAdded (after : List Entry) (e : Entry) (now : List GroundList) (index : ℕ) : Type 0 where
  pub table : IsTable (map items_of after)
  pub place : index < length (lists_from [] (map items_of after))
  pub list : list_at (lists_from [] (map items_of after)) index ≡ list_of now (items_of e)
  pub grown : IsGrown now (lists_from [] (map items_of after))

added-known : (keys after : List Entry) (e stored : Entry) (index : ℕ) (now : List GroundList) → lists_from [] (map items_of keys) ≡ now → IsTable (map items_of keys) → after ≡ keys → slice_get after index ≡ Some stored → items_of e ≡ items_of stored → index < length after → IsAdded after e now index
added-known keys after e stored index now view t same at items h =
    let seen : lists_from [] (map items_of after) ≡ now = ap (λ ks. lists_from [] (map items_of ks)) same ∙ view in
    let table : IsTable (map items_of after) = subst (λ ks. IsTable (map items_of ks)) (sym same) t in
    let r = entry-read after now index stored seen table h at in
    let n = keys-length after now seen in
    let m : length now ≤ no_list = subst (λ k. k ≤ no_list) (sym (n ∙ sym (length-map after items_of))) table.most in
    record {
      table = table;
      place = subst (λ ls. index < length ls) (sym seen) (omega (arith, n, h));
      list = ap (λ ls. list_at ls index) seen ∙ r.list ∙ ap (list_of now) (sym items);
      grown = subst (IsGrown now) (sym seen) (record { added = []; grown = sym (append-nil now); most = m });
    }

added-new : (keys after : List Entry) (e stored : Entry) (index : ℕ) (now : List GroundList) → lists_from [] (map items_of keys) ≡ now → IsTable (map items_of keys) → AreNormalItems now (items_of e) → length keys < no_list → false ≡ list_any (eq-value.it e) keys → after ≡ keys ++ e ∷ [] → slice_get after index ≡ Some stored → items_of e ≡ items_of stored → index < length after → IsAdded after e now index
added-new keys after e stored index now view t normal room new same at items h =
    let k = length-map keys items_of in
    let join : map items_of after ≡ map items_of keys ++ items_of e ∷ [] = ap (map items_of) same ∙ map-append items_of keys (e ∷ []) in
    let pushed = table-push (map items_of keys) (items_of e) none t (omega (arith, k, room)) (subst (λ ls. AreNormalItems ls (items_of e)) (sym view) normal) (λ j lt eq. other-entry e keys j new lt eq) in
    let table : IsTable (map items_of after) = subst IsTable (sym join) pushed in
    let seen : lists_from [] (map items_of after) ≡ now ++ list_of now (items_of e) ∷ [] = ap (lists_from []) join ∙ lists-push [] (map items_of keys) (items_of e) ∙ ap (λ ls. ls ++ list_of ls (items_of e) ∷ []) view in
    let r = entry-read after (now ++ list_of now (items_of e) ∷ []) index stored seen table h at in
    let n = keys-length after (now ++ list_of now (items_of e) ∷ []) seen in
    let m : length (now ++ list_of now (items_of e) ∷ []) ≤ no_list = subst (λ j. j ≤ no_list) (sym (n ∙ sym (length-map after items_of))) table.most in
    record {
      table = table;
      place = subst (λ ls. index < length ls) (sym seen) (omega (arith, n, h));
      list = ap (λ ls. list_at ls index) seen ∙ r.list ∙ ap (list_of (now ++ list_of now (items_of e) ∷ [])) (sym items) ∙ list_of-stays now (list_of now (items_of e) ∷ []) m (items_of e) normal;
      grown = subst (IsGrown now) (sym seen) (record { added = list_of now (items_of e) ∷ []; grown = refl; most = m });
    }

pub entry-added : (keys after : List Entry) (e stored : Entry) (index : ℕ) (now : List GroundList) → lists_from [] (map items_of keys) ≡ now → IsTable (map items_of keys) → AreNormalItems now (items_of e) → length keys < no_list → after ≡ insert_key eq-value.it keys e → slice_get after index ≡ Some stored → eq-value.it e stored ≡ true → index < length after → IsAdded after e now index
entry-added keys after e stored index now view t normal room same at told h = by (list_any (eq-value.it e) keys) refl
  where
    by : (b : Bool) → b ≡ list_any (eq-value.it e) keys → IsAdded after e now index
    by true g =
        let kept : insert_key eq-value.it keys e ≡ keys = rw (← g) refl in
        added-known keys after e stored index now view t (same ∙ kept) at (entry-same e stored told) h
    by false g =
        let more : insert_key eq-value.it keys e ≡ keys ++ e ∷ [] = rw (← g) refl in
        added-new keys after e stored index now view t normal room g (same ∙ more) at (entry-same e stored told) h

-- a table is grown from itself
pub grown-same : (keys : List Entry) (now after : List GroundList) → lists_from [] (map items_of keys) ≡ now → IsTable (map items_of keys) → after ≡ now → IsGrown now after
grown-same keys now after view t same = record {
  added = [];
  grown = same ∙ sym (append-nil now);
  most = let n = keys-length keys now view in let m = t.most in let k = length-map keys items_of in subst (λ ls. length ls ≤ no_list) (sym same) (omega (arith, n, m, k));
}

list-past : (ls : List GroundList) (k : ℕ) → length ls ≤ k → list_at ls k ≡ of_terms []
list-past ls k h = get_or_past ls k (of_terms []) h

-- what is read where no entry stands
pub no-terms : (ls : List GroundList) (n : GroundTerms) → length ls ≤ n.0 → [] ≡ the_terms ls n
no-terms ls n h = ap terms_in (sym (list-past ls n.0 h))

pub no-marks : (ls : List GroundList) (n : GroundLabel) → length ls ≤ n.0 → [] ≡ the_marks ls n
no-marks ls n h = ap marks_in (sym (list-past ls n.0 h))

pub no-values : (ls : List GroundList) (n : Values) → length ls ≤ n.0 → [] ≡ the_values ls n
no-values ls n h = ap values_in (sym (list-past ls n.0 h))

pub ruleset reading = (no-terms, no-marks, no-values)

-- the entry at a number
pub entry-found : (keys : List Entry) (now : List GroundList) (k : ℕ) (o : Option (Bor Entry)) → lists_from [] (map items_of keys) ≡ now → IsTable (map items_of keys) → option_copied o ≡ slice_get keys k → (IsSome o → k < length keys) → IfSome o (λ e. IsRead now k (items_of e.now))
entry-found keys now k None view t at some = tt
entry-found keys now k (Some e) view t at some = entry-read keys now k e.now view t (some refl) (sym at)

pub entry-none : (keys : List Entry) (now : List GroundList) (k : ℕ) (o : Option (Bor Entry)) → lists_from [] (map items_of keys) ≡ now → (k < length keys → IsSome o) → IsNone o → length now ≤ k
entry-none keys now k o view some none = by (cases_lt k (length keys))
  where
    by : (k < length keys) ⊎ (length keys ≤ k) → length now ≤ k
    by (inl h) = absurd (both o (some h) none)
      where
        both : (o : Option (Bor Entry)) → IsSome o → IsNone o → ⊥
        both None a b = cc
        both (Some x) a b = cc
    by (inr h) = let n = keys-length keys now view in omega (arith, n, h)

-- the one number of the empty list
part-empty : {A : Type 0} (part : GroundList → List A) → part (of_terms []) ≡ [] → (ls : List GroundList) (k : ℕ) → length ls ≤ no_list → k ≡ no_list → part (list_at ls k) ≡ []
part-empty part e ls k most last = ap part (get_or_past ls k (of_terms []) (omega (arith, most, last))) ∙ e

pub empty-terms : (ls : List GroundList) (n : GroundTerms) → length ls ≤ no_list → n.0 ≡ no_list → the_terms ls n ≡ []
empty-terms ls n most last = part-empty terms_in refl ls n.0 most last

pub empty-marks : (ls : List GroundList) (n : GroundLabel) → length ls ≤ no_list → n.0 ≡ no_list → the_marks ls n ≡ []
empty-marks ls n most last = part-empty marks_in refl ls n.0 most last

pub empty-values : (ls : List GroundList) (n : Values) → length ls ≤ no_list → n.0 ≡ no_list → the_values ls n ≡ []
empty-values ls n most last = part-empty values_in refl ls n.0 most last

pub ruleset normal = (empty-terms, empty-marks, empty-values)

pub added-terms : (ls : List GroundList) (n : GroundTerms) (xs : List tree.GroundTerm) → list_at ls n.0 ≡ of_terms xs → the_terms ls n ≡ xs
added-terms ls n xs e = ap terms_in e

pub added-marks : (ls : List GroundList) (n : GroundLabel) (xs : List tree.GroundMark) → list_at ls n.0 ≡ of_marks xs → the_marks ls n ≡ xs
added-marks ls n xs e = ap marks_in e

pub added-values : (ls : List GroundList) (n : Values) (xs : List tree.Value) → list_at ls n.0 ≡ of_values xs → the_values ls n ≡ xs
added-values ls n xs e = ap values_in e

pub same-lists : (ls : List GroundList) → length ls ≤ no_list → IsGrown ls ls
same-lists ls most = record { added = []; grown = sym (append-nil ls); most = most }

pub ruleset adding = (empty-terms, empty-marks, empty-values, added-terms, added-marks, added-values, same-lists)
