-- Entries that are added again in order make the same table.
use Rattle.std.proofs.Common.{◌≡◌, ℕ, zero, suc, ◌+◌, ◌<◌, ◌≤◌, Bool, true, false, List, [], ◌∷◌, ◌++◌, length, take, get_or, map, refl, sym, ◌∙◌, ap, subst, arith}
use Rattle.std.proofs.lemmas.Bool.{false≢true}
use Rattle.std.proofs.lemmas.List.{get_or-map, get_or-take, length-map, length-take, map-append, take_more, take_all}
use Rattle.std.specs.List.{list_any}
use Rattle.indexmap.specs.IndexSet.{insert_key}
use Rattle.formula_core.specs.GroundTables.{Items, some_terms, items_of, list_of, lists_from, IsTable}
use Rattle.formula_core.specs.declared.table.Entry.{Entry}
use Rattle.formula_core.specs.contracts.table.EntryPartialEq.TheImpl.{eq-value}
use Rattle.formula_core.proofs.EntryLaws.{entry-same}
use Rattle.formula_core.proofs.GroundTableLaws.{is-read, lists-length}

abbrev none : Items
none = some_terms []

-- no items stand twice
items-once : (es : List Items) (j k : ℕ) → IsTable es → j < length es → k < length es → get_or es j none ≡ get_or es k none → j ≡ k
items-once es j k t a b e =
    let n = lists-length es in
    let r = is-read es j none t a in
    let s = is-read es k none t b in
    t.apart j k (omega (arith, n, a)) (omega (arith, n, b)) (r.list ∙ ap (list_of (lists_from [] es)) e ∙ sym s.list)

any-at : (e : Entry) (keys : List Entry) → true ≡ list_any (eq-value.it e) keys → (j : ℕ) × (j < length keys) × (get_or (map items_of keys) j none ≡ items_of e)
any-at e [] h = absurd (false≢true (sym h))
any-at e (x ∷ keys) h = by (eq-value.it e x) refl (any-at e keys)
  where
    by : (b : Bool) → b ≡ eq-value.it e x → (true ≡ list_any (eq-value.it e) keys → (j : ℕ) × (j < length keys) × (get_or (map items_of keys) j none ≡ items_of e)) → (j : ℕ) × (j < length (x ∷ keys)) × (get_or (map items_of (x ∷ keys)) j none ≡ items_of e)
    by true g more = (0, omega arith, sym (entry-same e x (sym g)))
    by false g more =
        let f : true ≡ list_any (eq-value.it e) keys = rw (← g) at h in
        let r = more f in
        let lt = r.1 in
        (suc r.0, omega (arith, lt), r.2)

-- one entry more
pub copied-step : (keys done after : List Entry) (e x d : Entry) (i : ℕ) → IsTable (map items_of keys) → map items_of done ≡ map items_of (take i keys) → i < length keys → x ≡ get_or keys i d → items_of e ≡ items_of x → after ≡ insert_key eq-value.it done e → map items_of after ≡ map items_of (take (i + 1) keys)
copied-step keys done after e x d i t so_far h at same added = by (list_any (eq-value.it e) done) refl
  where
    here : items_of e ≡ get_or (map items_of keys) i none
    here = same ∙ ap items_of at ∙ sym (get_or-map items_of keys i d none h)

    count : length done ≡ i
    count = let a = ap length so_far in let b = length-map done items_of in let c = length-map (take i keys) items_of in let g = length-take i keys in omega (arith, a, b, c, g, h)

    before : (j : ℕ) → j < i → get_or (map items_of done) j none ≡ get_or (map items_of keys) j none
    before j lt =
        let g = length-take i keys in
        ap (λ es. get_or es j none) so_far
        ∙ get_or-map items_of (take i keys) j d none (omega (arith, g, lt, h))
        ∙ ap items_of (get_or-take i keys j d lt)
        ∙ sym (get_or-map items_of keys j d none (omega (arith, lt, h)))

    by : (b : Bool) → b ≡ list_any (eq-value.it e) done → map items_of after ≡ map items_of (take (i + 1) keys)
    by true g =
        let r = any-at e done g in
        let lt : r.0 < i = (let l = r.1 in omega (arith, l, count)) in
        let n = length-map keys items_of in
        let twice = items-once (map items_of keys) r.0 i t (omega (arith, n, lt, h)) (omega (arith, n, h)) (sym (before r.0 lt) ∙ r.2 ∙ here) in
        absurd (omega (arith, twice, lt))
    by false g =
        let more : insert_key eq-value.it done e ≡ done ++ e ∷ [] = rw (← g) refl in
        ap (map items_of) (added ∙ more)
        ∙ map-append items_of done (e ∷ [])
        ∙ ap (λ es. es ++ items_of e ∷ []) so_far
        ∙ ap (λ z. map items_of (take i keys) ++ z ∷ []) (same ∙ ap items_of at)
        ∙ sym (map-append items_of (take i keys) (get_or keys i d ∷ []))
        ∙ ap (map items_of) (sym (take_more keys i d h))

-- all entries
pub copied-whole : (keys done : List Entry) (i : ℕ) → map items_of done ≡ map items_of (take i keys) → length keys ≤ i → map items_of done ≡ map items_of keys
copied-whole keys done i so_far h = so_far ∙ ap (map items_of) (take_all i keys h)
