-- Lists of terms by the numbers of their names.
use Rattle.std.proofs.Common.{◌≡◌, ◌<◌, ◌≤◌, ◌+◌, ℕ, suc, List, [], ◌∷◌, ◌++◌, length, get_or, map, take, refl, sym, ◌∙◌, ap, subst, arith}
use Rattle.std.proofs.Math.Logic.{◌⊎◌, inl, inr}
use Rattle.std.proofs.Math.Seq.{take-suc}
use Rattle.std.proofs.lemmas.Bool.{cases_lt}
use Rattle.std.proofs.lemmas.List.{get_or_append_left, get_or_push, map-append}
use Rattle.calculus.specs.Ground.{GroundTerm}
use Rattle.calculus.specs.Lists.{g_terms_tree, terms_tree}
use Rattle.calculus.specs.Syntax.{Term, fun, more_terms}
use Rattle.conversion_theory.specs.Numbering.{numbered_term, numbered_terms}
use Rattle.conversion_theory.specs.Turns.{Name}
use Rattle.cop_base.specs.declared.SymbolId.{SymbolId}
use Rattle.formula_core.specs.GroundLists.{GroundList, IsLowerTerm, the_g_term, the_terms}
use Rattle.formula_core.specs.declared.ground.GroundTerm as ground
use Rattle.formula_core.specs.declared.ground.GroundTerm.TheVariants as given
use Rattle.formula_core.specs.declared.ground.GroundTerms.{GroundTerms}
use Rattle.name_order.specs.ByNumber.Numbered.{AreNumbered}
use Rattle.term_table.specs.Table.{the_table_term}
use Rattle.term_table.specs.declared.table.TableTerm.{TableTerm}
use Rattle.term_table.specs.declared.table.TableTerm.TheVariants as over

pub terms-numbered : (num : Name → ℕ) (ts : List GroundTerm) → terms_tree (map (numbered_term num) ts) ≡ numbered_terms num (g_terms_tree ts)
terms-numbered num [] = refl
terms-numbered num (t ∷ ts) = ap (λ us. more_terms (numbered_term num t) us) (terms-numbered num ts)

module _ (num : Name → ℕ) (ls : List GroundList) where
  -- a symbol over a list that is numbered
  pub fun-numbered : (n : ℕ) (t : ground.GroundTerm) (f : SymbolId) (list : GroundTerms) → t ≡ given.Fun f list → list.0 < n → (lists : List (List Term)) → AreNumbered num ls n lists
      → the_table_term lists (over.Fun f list.0) ≡ numbered_term num (the_g_term ls t)
  fun-numbered n t f list is lt lists h =
      ap (λ ts. fun f.0 (terms_tree ts)) (h list.0 lt) ∙ ap (fun f.0) (terms-numbered num (the_terms ls list)) ∙ ap (λ u. numbered_term num (the_g_term ls u)) (sym is)

  -- a symbol over no terms
  pub constant-numbered : (n : ℕ) (t : ground.GroundTerm) (f : SymbolId) (list : GroundTerms) → t ≡ given.Fun f list → n ≤ list.0 → IsLowerTerm ls n t → (lists : List (List Term)) → AreNumbered num ls n lists
      → the_table_term lists (over.Constant f) ≡ numbered_term num (the_g_term ls t)
  constant-numbered n t f list is le lower lists h =
      let low : IsLowerTerm ls n (given.Fun f list) = subst (IsLowerTerm ls n) is lower in
      let none : the_terms ls list ≡ [] = low le in
      ap (λ ts. fun f.0 (numbered_terms num (g_terms_tree ts))) (sym none) ∙ ap (λ u. numbered_term num (the_g_term ls u)) (sym is)

  -- one list more
  pub list-numbered : (n : ℕ) (old new : List (List Term)) (items : List TableTerm) → length old ≡ n → AreNumbered num ls n old → new ≡ old ++ map (the_table_term old) items ∷ []
      → map (the_table_term old) items ≡ map (numbered_term num) (the_terms ls (record { 0 = n })) → AreNumbered num ls (suc n) new
  list-numbered n old new items count h e same k lt = ap (λ l. get_or l k []) e ∙ by (cases_lt k n)
    where
      by : (k < n) ⊎ (n ≤ k) → get_or (old ++ map (the_table_term old) items ∷ []) k [] ≡ map (numbered_term num) (the_terms ls (record { 0 = k }))
      by (inl low) = get_or_append_left old (map (the_table_term old) items ∷ []) [] k (omega (arith, count, low)) ∙ h k low
      by (inr high) =
          let last : n ≡ k = omega (arith, lt, high) in
          get_or_push old (map (the_table_term old) items) [] k (omega (arith, count, last)) ∙ same ∙ (λ i. map (numbered_term num) (the_terms ls (record { 0 = last i })))

  -- one term more
  pub term-pushed : (lists : List (List Term)) (old new : List TableTerm) (x : TableTerm) (ts : List ground.GroundTerm) (t d : ground.GroundTerm) (i : ℕ) → i < length ts → t ≡ get_or ts i d → new ≡ old ++ x ∷ [] → the_table_term lists x ≡ numbered_term num (the_g_term ls t)
      → map (the_table_term lists) old ≡ map (numbered_term num) (map (the_g_term ls) (take i ts)) → map (the_table_term lists) new ≡ map (numbered_term num) (map (the_g_term ls) (take (i + 1) ts))
  term-pushed lists old new x ts t d i lt is e same h =
      ap (map (the_table_term lists)) e ∙ map-append (the_table_term lists) old (x ∷ []) ∙ (λ j. h j ++ same j ∷ [])
      ∙ sym (ap (λ us. map (numbered_term num) (map (the_g_term ls) us)) take-one
      ∙ ap (map (numbered_term num)) (map-append (the_g_term ls) (take i ts) (t ∷ [])) ∙ map-append (numbered_term num) (map (the_g_term ls) (take i ts)) (the_g_term ls t ∷ []))
    where
      take-one : take (i + 1) ts ≡ take i ts ++ t ∷ []
      take-one = let n : i + 1 ≡ suc i = omega arith in ap (λ m. take m ts) n ∙ take-suc ts i d lt ∙ ap (λ u. take i ts ++ u ∷ []) (sym is)

pub ruleset numbered = (fun-numbered, constant-numbered)
