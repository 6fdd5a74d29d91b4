-- Expansion as the program does it: over lists, with the innermost variable last.
use Rattle.std.proofs.Common.{◌≡◌, ℕ, zero, suc, ◌+◌, ◌-◌, ◌<◌, arith, append_assoc, List, [], ◌∷◌, ◌++◌, Bool, length, map, refl, sym, ◌∙◌, ap, if◌then◌else◌}
use Rattle.std.specs.Prelude.{reverse}
use Rattle.std.proofs.lemmas.List.{reverse-append}
use Rattle.calculus.specs.Syntax as tree
use Rattle.calculus.specs.Syntax.{Symbol, Formula}
use Rattle.calculus.specs.Lists.{terms_tree}
use Rattle.tptp_reader.specs.Lists.{terms_tree as source_terms, sources_tree}
use Rattle.tptp_reader.specs.Sources.{Name, SourceTerm, Source}
use Rattle.problem_build.specs.EqualityAxioms.{equations, for_all_times, variables}
use Rattle.problem_build.specs.Expansion.{equality_atom, expanded, expanded_all, expanded_term, expanded_terms, place_of, quantified}
use Rattle.problem_build.specs.Quantifying.{ex_times}

pub expanded_terms-list : (symbols : List Symbol) (xs : List Name) (ts : List SourceTerm)
    → terms_tree (map (expanded_term symbols xs) ts) ≡ expanded_terms symbols xs (source_terms ts)
expanded_terms-list symbols xs [] = refl
expanded_terms-list symbols xs (t ∷ ts) = ap (tree.more_terms (expanded_term symbols xs t)) (expanded_terms-list symbols xs ts)

pub expanded_all-list : (symbols : List Symbol) (xs : List Name) (bs : List Source)
    → map (expanded symbols xs) bs ≡ expanded_all symbols xs (sources_tree bs)
expanded_all-list symbols xs [] = refl
expanded_all-list symbols xs (b ∷ bs) = ap (λ fs. expanded symbols xs b ∷ fs) (expanded_all-list symbols xs bs)

pub all-times : (ys : List Name) (f : Formula) → for_all_times (length ys) f ≡ quantified tree.all ys f
all-times [] f = refl
all-times (y ∷ ys) f = ap tree.all (all-times ys f)

pub ex-times : (ys : List Name) (f : Formula) → ex_times (length ys) f ≡ quantified tree.ex ys f
ex-times [] f = refl
ex-times (y ∷ ys) f = ap tree.ex (ex-times ys f)

-- the innermost variable is looked at first
pub last-place : (test : Name → Bool) (xs : List Name) (x : Name) → place_of test (reverse (xs ++ x ∷ [])) ≡ (if test x then 0 else suc (place_of test (reverse xs)))
last-place test xs x = ap (place_of test) (reverse-append xs (x ∷ []))

-- inside of quantifiers over more variables
pub all-expanded : (symbols : List Symbol) (scope ys inner : List Name) (a : Source) (n : ℕ) (f body : Formula) → f ≡ for_all_times n body → n ≡ length ys
    → body ≡ expanded symbols (reverse inner) a → inner ≡ scope ++ ys → f ≡ quantified tree.all ys (expanded symbols (reverse ys ++ reverse scope) a)
all-expanded symbols scope ys inner a n f body p q r s =
    p ∙ ap (λ k. for_all_times k body) q
    ∙ ap (for_all_times (length ys)) (r ∙ ap (λ z. expanded symbols (reverse z) a) s ∙ ap (λ z. expanded symbols z a) (reverse-append scope ys))
    ∙ all-times ys (expanded symbols (reverse ys ++ reverse scope) a)

pub ex-expanded : (symbols : List Symbol) (scope ys inner : List Name) (a : Source) (n : ℕ) (f body : Formula) → f ≡ ex_times n body → n ≡ length ys
    → body ≡ expanded symbols (reverse inner) a → inner ≡ scope ++ ys → f ≡ quantified tree.ex ys (expanded symbols (reverse ys ++ reverse scope) a)
ex-expanded symbols scope ys inner a n f body p q r s =
    p ∙ ap (λ k. ex_times k body) q
    ∙ ap (ex_times (length ys)) (r ∙ ap (λ z. expanded symbols (reverse z) a) s ∙ ap (λ z. expanded symbols z a) (reverse-append scope ys))
    ∙ ex-times ys (expanded symbols (reverse ys ++ reverse scope) a)

-- one equation more
pub equations-step : (symbols : List Symbol) (k n m : ℕ) (done : List Formula) (f : Formula) (whole : List Formula) → 0 < n → m ≡ n - 1
    → f ≡ equality_atom symbols (tree.var (k + m)) (tree.var m) → done ++ equations symbols (variables k n) (variables 0 n) ≡ whole
    → (done ++ f ∷ []) ++ equations symbols (variables k m) (variables 0 m) ≡ whole
equations-step symbols k zero m done f whole h e p q = absurd (omega arith)
equations-step symbols k (suc n) m done f whole h e p q =
    let s : m ≡ n = omega arith in
    let z : 0 + n ≡ n = omega arith in
    append_assoc done (f ∷ []) (equations symbols (variables k m) (variables 0 m))
    ∙ ap (λ j. done ++ f ∷ equations symbols (variables k j) (variables 0 j)) s
    ∙ ap (λ g. done ++ g ∷ equations symbols (variables k n) (variables 0 n)) (p ∙ ap (λ j. equality_atom symbols (tree.var (k + j)) (tree.var j)) s ∙ ap (λ j. equality_atom symbols (tree.var (k + n)) (tree.var j)) (sym z))
    ∙ q
