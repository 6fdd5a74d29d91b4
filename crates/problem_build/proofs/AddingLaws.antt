-- What is new is added list by list.
use Rattle.std.proofs.Common.{◌≡◌, List, [], ◌∷◌, ◌++◌, Bool, true, false, if◌then◌else◌, length, ℕ, suc, ◌+◌, ◌<◌, arith, map, drop, drop-cons, get_or, refl, sym, ◌∙◌, ap, subst, append_assoc}
use Rattle.std.specs.Prelude.{Result, Ok, Err}
use Rattle.std.specs.List.{list_any}
use Rattle.std.proofs.lemmas.List.{append-nil, length-append}
use Rattle.calculus.specs.Equality.{symbol_eq}
use Rattle.calculus.specs.Syntax.{Symbol}
use Rattle.formula_core.specs.declared.symbol.AddFault.{AddFault}
use Rattle.formula_core.specs.declared.symbol.AddFault.TheVariants.{Full, NoMemory}
use Rattle.problem_build.specs.Expansion.{first_seen, unbound}
use Rattle.problem_build.specs.Adding.{Adds, Stops, with_new}
use Rattle.tptp_reader.specs.declared.source.Source as source
use Rattle.tptp_reader.specs.declared.source.SourceTerm as term
use Rattle.tptp_reader.specs.Lists.{terms_tree, sources_tree}
use Rattle.tptp_reader.specs.Sources.{Name, Source}
use Rattle.tptp_reader.specs.SourceView.{the_source}
use Rattle.tptp_reader.specs.TermView.{the_source_term}
use Rattle.problem_build.specs.Expansion.{free_in, free_in_all, same_name, symbols_in, symbols_in_all, term_symbols, terms_symbols, variables_in, variables_in_all}

pub with_new-more : {A : Type 0} (same : A → A → Bool) (known xs ys : List A) → with_new same known (xs ++ ys) ≡ with_new same (with_new same known xs) ys
with_new-more same known [] ys = ap (λ k. with_new same k ys) (sym (append-nil known))
with_new-more same known (x ∷ xs) ys = by (list_any (same x) known) (with_new-more same known xs ys) (with_new-more same (known ++ x ∷ []) xs ys)
  where
    by : (b : Bool) → with_new same known (xs ++ ys) ≡ with_new same (with_new same known xs) ys
        → with_new same (known ++ x ∷ []) (xs ++ ys) ≡ with_new same (with_new same (known ++ x ∷ []) xs) ys → known ++ (if b then first_seen same known (xs ++ ys) else x ∷ first_seen same (known ++ x ∷ []) (xs ++ ys))
        ≡ with_new same (known ++ (if b then first_seen same known xs else x ∷ first_seen same (known ++ x ∷ []) xs)) ys
    by true h k = h
    by false h k =
        sym (append_assoc known (x ∷ []) (first_seen same (known ++ x ∷ []) (xs ++ ys)))
        ∙ k
        ∙ ap (λ k. with_new same k ys) (append_assoc known (x ∷ []) (first_seen same (known ++ x ∷ []) xs))

pub with_new-known : {A : Type 0} (same : A → A → Bool) (known : List A) (x : A) → list_any (same x) known ≡ true → known ≡ with_new same known (x ∷ [])
with_new-known same known x e = rw e (sym (append-nil known))

pub with_new-new : {A : Type 0} (same : A → A → Bool) (known : List A) (x : A) → list_any (same x) known ≡ false → known ++ x ∷ [] ≡ with_new same known (x ∷ [])
with_new-new same known x e = rw e refl

pub unbound-append : (bound xs ys : List Name) → unbound bound (xs ++ ys) ≡ unbound bound xs ++ unbound bound ys
unbound-append bound [] ys = refl
unbound-append bound (x ∷ xs) ys = by (list_any (same_name x) bound) (unbound-append bound xs ys)
  where
    by : (b : Bool) → unbound bound (xs ++ ys) ≡ unbound bound xs ++ unbound bound ys → (if b then unbound bound (xs ++ ys) else x ∷ unbound bound (xs ++ ys)) ≡ (if b then unbound bound xs else x ∷ unbound bound xs) ++ unbound bound ys
    by true h = h
    by false h = ap (λ zs. x ∷ zs) h

-- one list of variables more
pub occurs-more : (known mid bound xs ys : List Name) → mid ≡ with_new same_name known (unbound bound xs)
    → with_new same_name mid (unbound bound ys) ≡ with_new same_name known (unbound bound (xs ++ ys))
occurs-more known mid bound xs ys e =
    ap (λ k. with_new same_name k (unbound bound ys)) e
    ∙ sym (with_new-more same_name known (unbound bound xs) (unbound bound ys))
    ∙ ap (with_new same_name known) (sym (unbound-append bound xs ys))

pub more-new : {A : Type 0} (same : A → A → Bool) (known mid xs ys : List A) → mid ≡ with_new same known xs → with_new same mid ys ≡ with_new same known (xs ++ ys)
more-new same known mid xs ys e = ap (λ k. with_new same k ys) e ∙ sym (with_new-more same known xs ys)

-- ---- one item more of a list that is gone over

pub next-item : {A B : Type 0} (f : A → B) (xs : List A) (i : ℕ) (x : A) → i < length xs → x ≡ get_or xs i x → map f (drop i xs) ≡ f x ∷ map f (drop (i + 1) xs)
next-item f xs i x h e = ap (map f) (drop-cons xs i x h) ∙ ap (λ k. f (get_or xs i x) ∷ map f (drop k xs)) (later i) ∙ ap (λ z. f z ∷ map f (drop (i + 1) xs)) (sym e)
  where
    later : (i : ℕ) → suc i ≡ i + 1
    later i = omega arith

pub terms-step : (items : List term.SourceTerm) (i : ℕ) (x : term.SourceTerm) (known mid bound : List Name) → i < length items → x ≡ get_or items i x
    → mid ≡ with_new same_name known (unbound bound (variables_in (the_source_term x)))
    → with_new same_name mid (unbound bound (variables_in_all (terms_tree (map the_source_term (drop (i + 1) items)))))
    ≡ with_new same_name known (unbound bound (variables_in_all (terms_tree (map the_source_term (drop i items)))))
terms-step items i x known mid bound h e k =
    occurs-more known mid bound (variables_in (the_source_term x)) (variables_in_all (terms_tree (map the_source_term (drop (i + 1) items)))) k
    ∙ ap (λ ts. with_new same_name known (unbound bound (variables_in_all (terms_tree ts)))) (sym (next-item the_source_term items i x h e))

pub sources-step : (items : List source.Source) (i : ℕ) (x : source.Source) (known mid bound : List Name) → i < length items → x ≡ get_or items i x
    → mid ≡ with_new same_name known (free_in bound (the_source x))
    → with_new same_name mid (free_in_all bound (sources_tree (map the_source (drop (i + 1) items))))
    ≡ with_new same_name known (free_in_all bound (sources_tree (map the_source (drop i items))))
sources-step items i x known mid bound h e k =
    more-new same_name known mid (free_in bound (the_source x)) (free_in_all bound (sources_tree (map the_source (drop (i + 1) items)))) k
    ∙ ap (λ bs. with_new same_name known (free_in_all bound (sources_tree bs))) (sym (next-item the_source items i x h e))

-- two formulas, one after the other
pub both-free : (b0 b1 known mid last : List Name) (x y v w : Source) → mid ≡ with_new same_name known (free_in b0 x) → b1 ≡ b0 → last ≡ with_new same_name mid (free_in b1 y)
    → x ≡ v → y ≡ w → last ≡ with_new same_name known (free_in b0 v ++ free_in b0 w)
both-free b0 b1 known mid last x y v w p q r s t =
    r ∙ ap (λ b. with_new same_name mid (free_in b y)) q ∙ more-new same_name known mid (free_in b0 x) (free_in b0 y) p
    ∙ ap (λ z. with_new same_name known (free_in b0 z ++ free_in b0 y)) s ∙ ap (λ z. with_new same_name known (free_in b0 v ++ free_in b0 z)) t

-- ---- symbols

-- no list grows shorter
grown : (before xs ys : List Symbol) → length (with_new symbol_eq before (xs ++ ys)) ≡ length (with_new symbol_eq before xs) + length (first_seen symbol_eq (with_new symbol_eq before xs) ys)
grown before xs ys =
    ap length (with_new-more symbol_eq before xs ys) ∙ length-append (with_new symbol_eq before xs) (first_seen symbol_eq (with_new symbol_eq before xs) ys)

-- what more would be added where it stopped
pub stops-more : (before xs ys : List Symbol) (f : AddFault) → Stops before xs f → Stops before (xs ++ ys) f
stops-more before xs ys Full h = let g = grown before xs ys in omega (arith, h, g)
stops-more before xs ys NoMemory h = tt

pub stops-then : (before mid xs ys : List Symbol) (f : AddFault) → mid ≡ with_new symbol_eq before xs → Stops mid ys f → Stops before (xs ++ ys) f
stops-then before mid xs ys Full e h = let l = ap length (more-new symbol_eq before mid xs ys e) in omega (arith, h, l)
stops-then before mid xs ys NoMemory e h = tt

pub adds-then : {A : Type 0} (before mid after xs ys : List Symbol) (r : Result A AddFault) → mid ≡ with_new symbol_eq before xs → Adds mid after ys r → Adds before after (xs ++ ys) r
adds-then before mid after xs ys (Ok x) e h = h ∙ more-new symbol_eq before mid xs ys e
adds-then before mid after xs ys (Err f) e h = stops-then before mid xs ys f e h

pub told-full : (before xs : List Symbol) (f : AddFault) → f ≡ Full → Stops before xs f → 65536 < length (with_new symbol_eq before xs)
told-full before xs f e h = subst (λ g. Stops before xs g) e h

-- the symbols of one and of another, which are those of the whole
pub both-stopped : (before xs ys whole : List Symbol) (f : AddFault) → whole ≡ xs ++ ys → Stops before xs f → Stops before whole f
both-stopped before xs ys whole f e h = subst (λ zs. Stops before zs f) (sym e) (stops-more before xs ys f h)

pub both-added : {A : Type 0} (before mid after xs ys whole : List Symbol) (r : Result A AddFault) → whole ≡ xs ++ ys → mid ≡ with_new symbol_eq before xs → Adds mid after ys r → Adds before after whole r
both-added before mid after xs ys whole r e k h = subst (λ zs. Adds before after zs r) (sym e) (adds-then before mid after xs ys r k h)

-- in a loop: the symbols of the item, and those behind it
pub adds-term : (items : List term.SourceTerm) (i : ℕ) (x : term.SourceTerm) (known mid : List Symbol) → i < length items → x ≡ get_or items i x
    → mid ≡ with_new symbol_eq known (term_symbols (the_source_term x))
    → with_new symbol_eq mid (terms_symbols (terms_tree (map the_source_term (drop (i + 1) items))))
    ≡ with_new symbol_eq known (terms_symbols (terms_tree (map the_source_term (drop i items))))
adds-term items i x known mid h e k =
    more-new symbol_eq known mid (term_symbols (the_source_term x)) (terms_symbols (terms_tree (map the_source_term (drop (i + 1) items)))) k
    ∙ ap (λ ts. with_new symbol_eq known (terms_symbols (terms_tree ts))) (sym (next-item the_source_term items i x h e))

pub adds-unit : (items : List source.Source) (i : ℕ) (x : source.Source) (known mid : List Symbol) → i < length items → x ≡ get_or items i x
    → mid ≡ with_new symbol_eq known (symbols_in (the_source x))
    → with_new symbol_eq mid (symbols_in_all (sources_tree (map the_source (drop (i + 1) items))))
    ≡ with_new symbol_eq known (symbols_in_all (sources_tree (map the_source (drop i items))))
adds-unit items i x known mid h e k =
    more-new symbol_eq known mid (symbols_in (the_source x)) (symbols_in_all (sources_tree (map the_source (drop (i + 1) items)))) k
    ∙ ap (λ bs. with_new symbol_eq known (symbols_in_all (sources_tree bs))) (sym (next-item the_source items i x h e))

-- the loop stops at an item
stopped-at : (known xs ys whole begun : List Symbol) (f : AddFault) → with_new symbol_eq known (xs ++ ys) ≡ with_new symbol_eq begun whole
    → Stops known xs f → Stops begun whole f
stopped-at known xs ys whole begun Full e h = let l = ap length e in let g = grown known xs ys in omega (arith, h, l, g)
stopped-at known xs ys whole begun NoMemory e h = tt

pub stopped-term : (items : List term.SourceTerm) (i : ℕ) (x : term.SourceTerm) (known whole begun : List Symbol) (f : AddFault) → i < length items → x ≡ get_or items i x
    → with_new symbol_eq known (terms_symbols (terms_tree (map the_source_term (drop i items)))) ≡ with_new symbol_eq begun whole
    → Stops known (term_symbols (the_source_term x)) f → Stops begun whole f
stopped-term items i x known whole begun f h e k s =
    stopped-at known (term_symbols (the_source_term x)) (terms_symbols (terms_tree (map the_source_term (drop (i + 1) items)))) whole begun f
    (ap (λ ts. with_new symbol_eq known (terms_symbols (terms_tree ts))) (sym (next-item the_source_term items i x h e)) ∙ k) s

pub stopped-unit : (items : List source.Source) (i : ℕ) (x : source.Source) (known whole begun : List Symbol) (f : AddFault) → i < length items → x ≡ get_or items i x
    → with_new symbol_eq known (symbols_in_all (sources_tree (map the_source (drop i items)))) ≡ with_new symbol_eq begun whole
    → Stops known (symbols_in (the_source x)) f → Stops begun whole f
stopped-unit items i x known whole begun f h e k s =
    stopped-at known (symbols_in (the_source x)) (symbols_in_all (sources_tree (map the_source (drop (i + 1) items)))) whole begun f
    (ap (λ bs. with_new symbol_eq known (symbols_in_all (sources_tree bs))) (sym (next-item the_source items i x h e)) ∙ k) s
