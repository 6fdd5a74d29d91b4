-- The items that pass: their symbols and nodes are found one by one.
use Rattle.std.proofs.Common.{◌≡◌, ℕ, suc, ◌+◌, ◌<◌, ◌≤◌, Bool, List, [], ◌∷◌, ◌++◌, Option, None, Some, length, map, flat_map, min, drop, get_or, if◌then◌else◌, refl, sym, ◌∙◌, ap, arith, append_assoc}
use Rattle.std.specs.Prelude.{reverse}
use Rattle.std.specs.List.{filter}
use Rattle.std.proofs.lemmas.Bool.{le-leb, lt-leb}
use Rattle.std.proofs.lemmas.List.{append-nil, drop_all, length-append, map-append}
use Rattle.calculus.specs.Equality.{symbol_eq}
use Rattle.calculus.specs.Measures.{nesting, node_count}
use Rattle.calculus.specs.Syntax.{Symbol, Formula, neg, imp}
use Rattle.tptp_reader.specs.declared.source.ChainKind.TheVariants.{And}
use Rattle.tptp_reader.specs.declared.source.Source as source
use Rattle.tptp_reader.specs.Sources.{Source}
use Rattle.tptp_reader.specs.SourceView.{the_source}
use Rattle.problem_build.specs.declared.passed.Passed as program
use Rattle.problem_build.specs.Adding.{with_new}
use Rattle.problem_build.specs.Building.{formulas_of, problem_formula}
use Rattle.problem_build.specs.Counting.{nesting_of, nodes_of}
use Rattle.problem_build.specs.Expansion.{closed, first_seen, free_variables, joined_chain, symbols_in}
use Rattle.problem_build.specs.Measuring.{bodies, both_nodes, first_measured, first_of, flat_nodes, joined_nodes, measured, second_of}
use Rattle.problem_build.specs.Passing.{the_passed}
use Rattle.problem_build.specs.Walk.{Passed}
use Rattle.problem_build.proofs.AddingLaws.{next-item, with_new-more}
use Rattle.problem_build.proofs.CountingLaws.{closed-nesting, closed-nodes}
use Rattle.problem_build.proofs.ListLaws.{filter-first, popped}

-- ---- symbols

abbrev pub listed : List Passed → List Symbol
listed items = flat_map (λ (p : Passed). symbols_in p.body) items

-- the symbols of one item more
pub symbols-step : (known next : List Symbol) (p : Passed) (ps : List Passed) (whole : List Symbol) → next ≡ with_new symbol_eq known (symbols_in p.body)
    → with_new symbol_eq known (listed (p ∷ ps)) ≡ whole → with_new symbol_eq next (listed ps) ≡ whole
symbols-step known next p ps whole e k =
    ap (λ ss. with_new symbol_eq ss (listed ps)) e ∙ sym (with_new-more symbol_eq known (symbols_in p.body) (listed ps)) ∙ k

-- where there are too many, more items have no fewer
pub symbols-full : (known : List Symbol) (p : Passed) (ps : List Passed) (whole : List Symbol) → 65536 < length (with_new symbol_eq known (symbols_in p.body))
    → with_new symbol_eq known (listed (p ∷ ps)) ≡ whole → 65536 < length whole
symbols-full known p ps whole h k =
    let m : with_new symbol_eq (with_new symbol_eq known (symbols_in p.body)) (listed ps) ≡ whole = sym (with_new-more symbol_eq known (symbols_in p.body) (listed ps)) ∙ k in
    let l : length whole ≡ length (with_new symbol_eq known (symbols_in p.body)) + length (first_seen symbol_eq (with_new symbol_eq known (symbols_in p.body)) (listed ps)) =
    sym (ap length m) ∙ length-append (with_new symbol_eq known (symbols_in p.body)) (first_seen symbol_eq (with_new symbol_eq known (symbols_in p.body)) (listed ps)) in
    omega arith

-- ---- parts

pub bodies-formulas : (symbols : List Symbol) (items : List Passed) → map (closed symbols) (bodies items) ≡ formulas_of symbols items
bodies-formulas symbols [] = refl
bodies-formulas symbols (p ∷ ps) = ap (λ fs. closed symbols p.body ∷ fs) (bodies-formulas symbols ps)

-- ---- nodes

pub nodes-flat : (symbols : List Symbol) (a : Source) (inner count nodes r : ℕ) → inner ≡ min (nesting_of a) 18446744073709551615 → inner ≤ 1000
    → count ≡ length (free_variables a) → min (inner + count) 18446744073709551615 ≤ 1000 → nodes ≡ min (nodes_of a) 4000001 → r ≡ min (count + nodes) 4000001
    → Some r ≡ flat_nodes (closed symbols a)
nodes-flat symbols a inner count nodes r i h c k n e =
    let d : nesting (closed symbols a) ≡ length (free_variables a) + nesting_of a = closed-nesting symbols a in
    let m : node_count (closed symbols a) ≡ length (free_variables a) + nodes_of a = closed-nodes symbols a in
    let v : r ≡ min (node_count (closed symbols a)) 4000001 = omega arith in
    ap Some v ∙ sym (ap (λ b. if b then Some (min (node_count (closed symbols a)) 4000001) else None) (le-leb (nesting (closed symbols a)) 1000 (omega arith)))

pub nodes-deep : (symbols : List Symbol) (a : Source) → 1000 < length (free_variables a) + nesting_of a → None ≡ flat_nodes (closed symbols a)
nodes-deep symbols a h =
    let d : nesting (closed symbols a) ≡ length (free_variables a) + nesting_of a = closed-nesting symbols a in
    sym (ap (λ b. if b then Some (min (node_count (closed symbols a)) 4000001) else None) (lt-leb (nesting (closed symbols a)) 1000 (omega arith)))

pub nodes-deep_inside : (symbols : List Symbol) (a : Source) (inner : ℕ) → inner ≡ min (nesting_of a) 18446744073709551615 → 1000 < inner → None ≡ flat_nodes (closed symbols a)
nodes-deep_inside symbols a inner i h = nodes-deep symbols a (omega arith)

pub nodes-deep_free : (symbols : List Symbol) (a : Source) (inner count : ℕ) → inner ≡ min (nesting_of a) 18446744073709551615 → count ≡ length (free_variables a)
    → 1000 < min (inner + count) 18446744073709551615 → None ≡ flat_nodes (closed symbols a)
nodes-deep_free symbols a inner count i c h = nodes-deep symbols a (omega arith)

-- one formula more that is measured
pub nodes-step : (f : Formula) (fs : List Formula) (done n next : ℕ) (whole : Option ℕ) → both_nodes (Some done) (measured (f ∷ fs)) ≡ whole → Some n ≡ flat_nodes f
    → next ≡ min (done + min (1 + n) 4000001) 4000001 → both_nodes (Some next) (measured fs) ≡ whole
nodes-step f fs done n next whole e k m = by (flat_nodes f) (measured fs) k e
  where
    by : (a b : Option ℕ) → Some n ≡ a → both_nodes (Some done) (joined_nodes a b) ≡ whole → both_nodes (Some next) b ≡ whole
    by None b p q = absurd (cc)
    by (Some a) None p q = q
    by (Some a) (Some b) p q = let s : n ≡ a = cc in let v : min (next + b) 4000001 ≡ min (done + min (suc a + b) 4000001) 4000001 = omega arith in ap Some v ∙ q

pub nodes-stop : (f : Formula) (fs : List Formula) (done : ℕ) (whole : Option ℕ) → both_nodes (Some done) (measured (f ∷ fs)) ≡ whole → None ≡ flat_nodes f → None ≡ whole
nodes-stop f fs done whole e k = ap (λ m. both_nodes (Some done) (joined_nodes m (measured fs))) k ∙ e

-- ---- the formula

pub alone : (cs : List Formula) → first_of cs ≡ problem_formula [] cs
alone [] = refl
alone (c ∷ cs) = refl

pub negated : (symbols : List Symbol) (ps cs : List Formula) (given : Formula) → 0 < length ps → given ≡ joined_chain And symbols ps → None ≡ first_of cs → Some (neg given) ≡ problem_formula ps cs
negated symbols [] cs given h e k = absurd (omega arith)
negated symbols (a ∷ bs) [] given h e k = ap (λ f. Some (neg f)) e
negated symbols (a ∷ bs) (c ∷ cs) given h e k = absurd (cc)

pub implied : (symbols : List Symbol) (ps cs : List Formula) (given shown : Formula) → 0 < length ps → given ≡ joined_chain And symbols ps → Some shown ≡ first_of cs
    → Some (imp given shown) ≡ problem_formula ps cs
implied symbols [] cs given shown h e k = absurd (omega arith)
implied symbols (a ∷ bs) [] given shown h e k = absurd (cc)
implied symbols (a ∷ bs) (c ∷ cs) given shown h e k = let s : shown ≡ c = cc in ap (λ f. Some (imp f shown)) e ∙ ap (λ f. Some (imp (joined_chain And symbols (a ∷ bs)) f)) s

-- ---- loops

pub symbols-next : (items : List program.Passed) (i : ℕ) (x : program.Passed) (known next whole : List Symbol) → i < length items → x ≡ get_or items i x
    → next ≡ with_new symbol_eq known (symbols_in (the_source x.body)) → with_new symbol_eq known (listed (map the_passed (drop i items))) ≡ whole
    → with_new symbol_eq next (listed (map the_passed (drop (i + 1) items))) ≡ whole
symbols-next items i x known next whole h e n k =
    symbols-step known next (the_passed x) (map the_passed (drop (i + 1) items)) whole n
    (ap (λ ps. with_new symbol_eq known (listed ps)) (sym (next-item the_passed items i x h e)) ∙ k)

pub symbols-next_full : (items : List program.Passed) (i : ℕ) (x : program.Passed) (known whole : List Symbol) → i < length items → x ≡ get_or items i x
    → 65536 < length (with_new symbol_eq known (symbols_in (the_source x.body))) → with_new symbol_eq known (listed (map the_passed (drop i items))) ≡ whole
    → 65536 < length whole
symbols-next_full items i x known whole h e n k =
    symbols-full known (the_passed x) (map the_passed (drop (i + 1) items)) whole n
    (ap (λ ps. with_new symbol_eq known (listed ps)) (sym (next-item the_passed items i x h e)) ∙ k)

-- one item more, taken off the end of the reversed list
pub part-next : (test : Passed → Bool) (xs ys : List program.Passed) (x : program.Passed) (done next whole : List Source) → xs ≡ ys ++ x ∷ []
    → next ≡ done ++ bodies (filter test (the_passed x ∷ [])) → done ++ bodies (filter test (map the_passed (reverse xs))) ≡ whole
    → next ++ bodies (filter test (map the_passed (reverse ys))) ≡ whole
part-next test xs ys x done next whole e n k =
    ap (λ ss. ss ++ bodies (filter test (map the_passed (reverse ys)))) n
    ∙ append_assoc done (bodies (filter test (the_passed x ∷ []))) (bodies (filter test (map the_passed (reverse ys))))
    ∙ ap (λ ss. done ++ ss) (sym (map-append (λ (p : Passed). p.body) (filter test (the_passed x ∷ [])) (filter test (map the_passed (reverse ys)))))
    ∙ ap (λ ps. done ++ bodies ps) (sym (filter-first test (the_passed x) (map the_passed (reverse ys))))
    ∙ ap (λ ps. done ++ bodies (filter test (map the_passed ps))) (sym (popped xs ys x e)) ∙ k

pub nodes-next : (symbols : List Symbol) (items : List source.Source) (i : ℕ) (x : source.Source) (done n next : ℕ) (whole : Option ℕ) → i < length items → x ≡ get_or items i x
    → Some n ≡ flat_nodes (closed symbols (the_source x)) → next ≡ min (done + min (1 + n) 4000001) 4000001
    → both_nodes (Some done) (measured (map (closed symbols) (map the_source (drop i items)))) ≡ whole
    → both_nodes (Some next) (measured (map (closed symbols) (map the_source (drop (i + 1) items)))) ≡ whole
nodes-next symbols items i x done n next whole h e f m k =
    nodes-step (closed symbols (the_source x)) (map (closed symbols) (map the_source (drop (i + 1) items))) done n next whole
    (ap (λ ss. both_nodes (Some done) (measured (map (closed symbols) ss))) (sym (next-item the_source items i x h e)) ∙ k) f m

pub nodes-next_deep : (symbols : List Symbol) (items : List source.Source) (i : ℕ) (x : source.Source) (done : ℕ) (whole : Option ℕ) → i < length items → x ≡ get_or items i x
    → None ≡ flat_nodes (closed symbols (the_source x))
    → both_nodes (Some done) (measured (map (closed symbols) (map the_source (drop i items)))) ≡ whole → None ≡ whole
nodes-next_deep symbols items i x done whole h e f k =
    nodes-stop (closed symbols (the_source x)) (map (closed symbols) (map the_source (drop (i + 1) items))) done whole
    (ap (λ ss. both_nodes (Some done) (measured (map (closed symbols) ss))) (sym (next-item the_source items i x h e)) ∙ k) f

pub nodes-end : (symbols : List Symbol) (items : List source.Source) (i done : ℕ) (whole : Option ℕ) → length items ≤ i → done ≤ 4000001
    → both_nodes (Some done) (measured (map (closed symbols) (map the_source (drop i items)))) ≡ whole → Some done ≡ whole
nodes-end symbols items i done whole h few k =
    let n : done ≡ min (done + 0) 4000001 = omega arith in
    ap Some n ∙ ap (λ ss. both_nodes (Some done) (measured (map (closed symbols) (map the_source ss)))) (sym (drop_all i items h)) ∙ k

-- the first and the others
pub first-none : (symbols : List Symbol) (items : List source.Source) → length items ≡ 0 → Some 0 ≡ first_measured (map (closed symbols) (map the_source items))
first-none symbols [] e = refl
first-none symbols (x ∷ xs) e = absurd (omega arith)

pub first-deep : (symbols : List Symbol) (items rest : List source.Source) (x : source.Source) → items ≡ x ∷ rest
    → None ≡ measured (map (closed symbols) (map the_source rest)) → None ≡ first_measured (map (closed symbols) (map the_source items))
first-deep symbols items rest x e h =
    ap (λ m. second_of m (flat_nodes (closed symbols (the_source x)))) h ∙ ap (λ ss. first_measured (map (closed symbols) (map the_source ss))) (sym e)

pub first-nodes : (symbols : List Symbol) (items rest : List source.Source) (x : source.Source) (n : ℕ) (r : Option ℕ) → items ≡ x ∷ rest
    → Some n ≡ measured (map (closed symbols) (map the_source rest)) → r ≡ flat_nodes (closed symbols (the_source x))
    → r ≡ first_measured (map (closed symbols) (map the_source items))
first-nodes symbols items rest x n r e h k =
    k ∙ ap (λ m. second_of m (flat_nodes (closed symbols (the_source x)))) h ∙ ap (λ ss. first_measured (map (closed symbols) (map the_source ss))) (sym e)

pub ruleset firsts = (first-none, first-deep, first-nodes)

pub pushed-next : (symbols : List Symbol) (items : List source.Source) (i : ℕ) (x : source.Source) (f : Formula) (done next whole : List Formula) → i < length items → x ≡ get_or items i x
    → f ≡ closed symbols (the_source x) → next ≡ done ++ f ∷ [] → done ++ map (closed symbols) (map the_source (drop i items)) ≡ whole
    → next ++ map (closed symbols) (map the_source (drop (i + 1) items)) ≡ whole
pushed-next symbols items i x f done next whole h e c n k =
    ap (λ fs. fs ++ map (closed symbols) (map the_source (drop (i + 1) items))) n
    ∙ append_assoc done (f ∷ []) (map (closed symbols) (map the_source (drop (i + 1) items)))
    ∙ ap (λ g. done ++ g ∷ map (closed symbols) (map the_source (drop (i + 1) items))) c
    ∙ ap (λ ss. done ++ map (closed symbols) ss) (sym (next-item the_source items i x h e)) ∙ k

pub pushed-end : (symbols : List Symbol) (items : List source.Source) (i : ℕ) (done whole : List Formula) → length items ≤ i
    → done ++ map (closed symbols) (map the_source (drop i items)) ≡ whole → done ≡ whole
pushed-end symbols items i done whole h k =
    sym (append-nil done) ∙ ap (λ ss. done ++ map (closed symbols) (map the_source ss)) (sym (drop_all i items h)) ∙ k
