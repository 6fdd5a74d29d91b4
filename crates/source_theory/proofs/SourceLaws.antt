-- The expanded formula is true exactly where the formula as it is written is.
use Rattle.std.proofs.Common.{◌≡◌, suc, List, [], ◌∷◌, ◌++◌, length, get_or, Bool, true, false, refl, sym, ◌∙◌, ap, subst, append_assoc, append-nil, IsTrue, if◌then◌else◌}
use Rattle.std.specs.Prelude.{reverse}
use Rattle.std.specs.List.{list_all, list_any}
use Rattle.std.proofs.lemmas.Bool.{false≢true}
use Rattle.std.proofs.lemmas.List.{reverse-append}
use Rattle.calculus.specs.declared.setting.Logic.{Logic}
use Rattle.calculus.specs.Syntax as tree
use Rattle.calculus.specs.Syntax.{Symbol, Term, Formula}
use Rattle.calculus.specs.Models.{Model, IsWorld, value_by, values_by}
use Rattle.tptp_reader.specs.declared.source.ChainKind.TheVariants.{And, Or}
use Rattle.tptp_reader.specs.Sources.{Name, SourceTerm, variable, apply, SourceTerms, no_terms, more_terms, Source, atom, truth, falsity, equal, unequal, not, chain, binary, for_all, exists, nec, poss, Sources, no_sources, more_sources}
use Rattle.problem_build.specs.Balance.{balanced}
use Rattle.problem_build.specs.Expansion.{argument_count, closed, expanded, expanded_all, expanded_term, expanded_terms, free_variables, function_symbol, number_of, place_of, predicate_symbol, quantified, same_name}
use Rattle.problem_build.proofs.BalanceLaws.{balanced-balanced}
use Rattle.source_theory.specs.SourceTruth.{Holds, with_element, element_of, elements_of, AreAlike, ForEach, ForSome, IsTrueAt, AreTrueAt, IsOneTrueAt}
use Rattle.source_theory.proofs.TruthLaws.{IsTrueClosed, alike, not-alike, and-says, or-says, lasts-says, same-says, equal-says, same-equation}
use Rattle.source_theory.proofs.ConnectiveLaws.{IsFor, is_true_in, Says, neg-means, all-means, ex-means, box-means, dia-means, truth-means, falsity-means, equality-means, unequal-means, binary-means, conjunction-all, disjunction-any}

-- ---- names

-- each name has the element of its variable: the variables have these names, the innermost first
abbrev pub Agrees : {W E : Type 0} → Model W E → (Name → E) → List Name → List E → Type 0
Agrees M elements xs env = (x : Name) → elements x ≡ get_or env (place_of (same_name x) xs) M.element

-- inside of one quantifier more
one-more : {W E : Type 0} (M : Model W E) (elements : Name → E) (xs : List Name) (env : List E) (y : Name) (e : E) → Agrees M elements xs env → Agrees M (with_element elements y e) (y ∷ xs) (e ∷ env)
one-more {W} {E} M elements xs env y e h x = by (same_name x y)
  where
    by : (b : Bool) → (if b then e else elements x) ≡ get_or (e ∷ env) (if b then 0 else suc (place_of (same_name x) xs)) M.element
    by true = refl
    by false = h x

turned : (y : Name) (ys xs : List Name) → reverse (y ∷ ys) ++ xs ≡ reverse ys ++ y ∷ xs
turned y ys xs = ap (λ zs. zs ++ xs) (reverse-append (y ∷ []) ys) ∙ append_assoc (reverse ys) (y ∷ []) xs

-- ---- terms

mutual
  pub term-means : {W E : Type 0} (M : Model W E) (symbols : List Symbol) (names : Term → E) (t : SourceTerm) (xs : List Name) (env : List E) (elements : Name → E) → Agrees M elements xs env
      → element_of M symbols elements t ≡ value_by M names env (expanded_term symbols xs t)
  term-means M symbols names (variable x) xs env elements h = h x
  term-means M symbols names (apply f ts) xs env elements h =
      let n = elements-counted M symbols ts elements in
      let e = terms-mean M symbols names ts xs env elements h in
      λ i. M.value (number_of symbols (function_symbol f (n i))) (e i)

  pub terms-mean : {W E : Type 0} (M : Model W E) (symbols : List Symbol) (names : Term → E) (ts : SourceTerms) (xs : List Name) (env : List E) (elements : Name → E) → Agrees M elements xs env
      → elements_of M symbols elements ts ≡ values_by M names env (expanded_terms symbols xs ts)
  terms-mean M symbols names no_terms xs env elements h = refl
  terms-mean M symbols names (more_terms t ts) xs env elements h =
      let e = term-means M symbols names t xs env elements h in
      let es = terms-mean M symbols names ts xs env elements h in
      λ i. e i ∷ es i

  elements-counted : {W E : Type 0} (M : Model W E) (symbols : List Symbol) (ts : SourceTerms) (elements : Name → E) → length (elements_of M symbols elements ts) ≡ argument_count ts
  elements-counted M symbols no_terms elements = refl
  elements-counted M symbols (more_terms t ts) elements = ap suc (elements-counted M symbols ts elements)

-- ---- formulas

module _ {W E : Type 0} (l : Logic) (M : Model W E) (symbols : List Symbol) (S : IsFor l M symbols) (names : Term → E) where
  for-each-means : (ys xs zs : List Name) (env : List E) (elements : Name → E) → Agrees M elements xs env → reverse ys ++ xs ≡ zs → (f : Formula) (A : (Name → E) → W → Type 0)
      → ((row : List E) (those : Name → E) → Agrees M those zs row → Says M names f row (A those)) → Says M names (quantified tree.all ys f) env (ForEach l M ys A elements)
  for-each-means [] xs zs env elements h e f A inside = inside env elements (subst (λ v. Agrees M elements v env) e h)
  for-each-means (y ∷ ys) xs zs env elements h e f A inside =
      all-means l M symbols S names (quantified tree.all ys f) env (λ x v. ForEach l M ys A (with_element elements y x) v)
      (λ x. for-each-means ys (y ∷ xs) zs (x ∷ env) (with_element elements y x) (one-more M elements xs env y x h) (sym (turned y ys xs) ∙ e) f A inside)

  for-some-means : (ys xs zs : List Name) (env : List E) (elements : Name → E) → Agrees M elements xs env → reverse ys ++ xs ≡ zs → (f : Formula) (A : (Name → E) → W → Type 0)
      → ((row : List E) (those : Name → E) → Agrees M those zs row → Says M names f row (A those)) → Says M names (quantified tree.ex ys f) env (ForSome M ys A elements)
  for-some-means [] xs zs env elements h e f A inside = inside env elements (subst (λ v. Agrees M elements v env) e h)
  for-some-means (y ∷ ys) xs zs env elements h e f A inside =
      ex-means l M symbols S names (quantified tree.ex ys f) env (λ x v. ForSome M ys A (with_element elements y x) v)
      (λ x. for-some-means ys (y ∷ xs) zs (x ∷ env) (with_element elements y x) (one-more M elements xs env y x h) (sym (turned y ys xs) ∙ e) f A inside)

  mutual
    pub source-means : (a : Source) (xs : List Name) (env : List E) (elements : Name → E) → Agrees M elements xs env → Says M names (expanded symbols xs a) env (IsTrueAt l M symbols a elements)
    source-means (atom p ts) xs env elements h w at =
        let n = elements-counted M symbols ts elements in
        let e = terms-mean M symbols names ts xs env elements h in
        let k = number_of symbols (predicate_symbol p (argument_count ts)) in
        lasts-says l M S.steps (λ v. M.holds k v (values_by M names env (expanded_terms symbols xs ts))) (λ v. Holds M symbols p v (elements_of M symbols elements ts))
        (λ v there. equal-says (M.holds k v (values_by M names env (expanded_terms symbols xs ts)))
        (M.holds (number_of symbols (predicate_symbol p (length (elements_of M symbols elements ts)))) v (elements_of M symbols elements ts))
        (sym (λ i. M.holds (number_of symbols (predicate_symbol p (n i))) v (e i))))
        w at (is_true_in M names env w (tree.atom k (expanded_terms symbols xs ts))) (S.tells names (tree.atom k (expanded_terms symbols xs ts)) env w)
    source-means truth xs env elements h w at = truth-means l M symbols S names env w at
    source-means falsity xs env elements h w at = falsity-means l M symbols S names env w at
    source-means (equal s t) xs env elements h w at =
        alike (equality-means l M symbols S names (expanded_term symbols xs s) (expanded_term symbols xs t) env w at)
        (same-equation (element_of M symbols elements s) (element_of M symbols elements t) (value_by M names env (expanded_term symbols xs s)) (value_by M names env (expanded_term symbols xs t))
        (term-means M symbols names s xs env elements h) (term-means M symbols names t xs env elements h))
    source-means (unequal s t) xs env elements h w at =
        alike (unequal-means l M symbols S names (expanded_term symbols xs s) (expanded_term symbols xs t) env w at)
        (not-alike (same-equation (element_of M symbols elements s) (element_of M symbols elements t) (value_by M names env (expanded_term symbols xs s)) (value_by M names env (expanded_term symbols xs t))
        (term-means M symbols names s xs env elements h) (term-means M symbols names t xs env elements h)))
    source-means (not a) xs env elements h w at =
        neg-means l M symbols S names (expanded symbols xs a) env (IsTrueAt l M symbols a elements) (source-means a xs env elements h) w at
    source-means (chain And no_sources) xs env elements h w at = truth-means l M symbols S names env w at
    source-means (chain Or no_sources) xs env elements h w at = truth-means l M symbols S names env w at
    source-means (chain And (more_sources a bs)) xs env elements h w at =
        let f = expanded symbols xs a in
        let fs = expanded_all symbols xs bs in
        same-says (is_true_in M names env w (balanced tree.conj f fs)) (list_all (is_true_in M names env w) (f ∷ fs))
        (conjunction-all l M symbols S names env w (f ∷ fs) (balanced tree.conj f fs) (balanced-balanced tree.conj f fs))
        (and-says (is_true_in M names env w f) (list_all (is_true_in M names env w) fs) (source-means a xs env elements h w at) (all-mean bs xs env elements h w at))
    source-means (chain Or (more_sources a bs)) xs env elements h w at =
        let f = expanded symbols xs a in
        let fs = expanded_all symbols xs bs in
        same-says (is_true_in M names env w (balanced tree.disj f fs)) (list_any (is_true_in M names env w) (f ∷ fs))
        (disjunction-any l M symbols S names env w (f ∷ fs) (balanced tree.disj f fs) (balanced-balanced tree.disj f fs))
        (or-says (is_true_in M names env w f) (list_any (is_true_in M names env w) fs) (source-means a xs env elements h w at) (one-means bs xs env elements h w at))
    source-means (binary c a b) xs env elements h w at =
        binary-means l M symbols S names c (expanded symbols xs a) (expanded symbols xs b) env (IsTrueAt l M symbols a elements) (IsTrueAt l M symbols b elements)
        (source-means a xs env elements h) (source-means b xs env elements h) w at
    source-means (for_all ys a) xs env elements h w at =
        for-each-means ys xs (reverse ys ++ xs) env elements h refl (expanded symbols (reverse ys ++ xs) a) (IsTrueAt l M symbols a)
        (λ row those k. source-means a (reverse ys ++ xs) row those k) w at
    source-means (exists ys a) xs env elements h w at =
        for-some-means ys xs (reverse ys ++ xs) env elements h refl (expanded symbols (reverse ys ++ xs) a) (IsTrueAt l M symbols a)
        (λ row those k. source-means a (reverse ys ++ xs) row those k) w at
    source-means (nec a) xs env elements h w at =
        box-means l M symbols S names (expanded symbols xs a) env (IsTrueAt l M symbols a elements) (source-means a xs env elements h) w at
    source-means (poss a) xs env elements h w at =
        dia-means l M symbols S names (expanded symbols xs a) env (IsTrueAt l M symbols a elements) (source-means a xs env elements h) w at

    all-mean : (bs : Sources) (xs : List Name) (env : List E) (elements : Name → E) → Agrees M elements xs env → (w : W) → IsWorld M w
        → AreAlike (IsTrue (list_all (is_true_in M names env w) (expanded_all symbols xs bs))) (AreTrueAt l M symbols bs elements w)
    all-mean no_sources xs env elements h w at = (λ e. tt, λ u. refl)
    all-mean (more_sources a bs) xs env elements h w at =
        and-says (is_true_in M names env w (expanded symbols xs a)) (list_all (is_true_in M names env w) (expanded_all symbols xs bs)) (source-means a xs env elements h w at) (all-mean bs xs env elements h w at)

    one-means : (bs : Sources) (xs : List Name) (env : List E) (elements : Name → E) → Agrees M elements xs env → (w : W) → IsWorld M w
        → AreAlike (IsTrue (list_any (is_true_in M names env w) (expanded_all symbols xs bs))) (IsOneTrueAt l M symbols bs elements w)
    one-means no_sources xs env elements h w at = (λ e. absurd (false≢true e), λ no. absurd no)
    one-means (more_sources a bs) xs env elements h w at =
        or-says (is_true_in M names env w (expanded symbols xs a)) (list_any (is_true_in M names env w) (expanded_all symbols xs bs)) (source-means a xs env elements h w at) (one-means bs xs env elements h w at)

  -- the formula of an item
  pub closed-means : (a : Source) → Says M names (closed symbols a) [] (IsTrueClosed l M symbols a)
  closed-means a =
      for-each-means (free_variables a) [] (reverse (free_variables a)) [] (λ x. M.element) (λ x. refl) (append-nil (reverse (free_variables a)))
      (expanded symbols (reverse (free_variables a)) a) (IsTrueAt l M symbols a) (λ row those k. source-means a (reverse (free_variables a)) row those k)
