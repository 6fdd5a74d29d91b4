-- Lists of terms that hold no name.
use Rattle.std.proofs.Common.{◌≡◌, ◌<◌, ◌≤◌, ◌+◌, ℕ, List, [], ◌∷◌, ◌++◌, drop, length, get_or, map, Bool, true, false, arith, sym, ◌∙◌, ap, subst}
use Rattle.std.proofs.Math.Logic.{◌⊎◌, inl, inr}
use Rattle.std.proofs.lemmas.Bool.{cases_lt, true≢false}
use Rattle.std.proofs.lemmas.List.{at_drop_all, at_drop_more, get_or_append_left, get_or_past, get_or_push, length-append}
use Rattle.calculus.specs.Lists.{g_terms_tree}
use Rattle.conversion_theory.specs.Turns.{Name, names_of_term, names_of_terms}
use Rattle.formula_core.specs.GroundLists.{GroundList, the_g_term, the_terms}
use Rattle.formula_core.specs.declared.ground.GroundTerm.{GroundTerm}
use Rattle.formula_core.specs.declared.ground.GroundTerms.{GroundTerms}
use Rattle.name_order.specs.ByNumber.Holding.{AreTold}
use Rattle.name_order.specs.ByNumber.Inside.{AreNormalNames}
use Rattle.name_order.specs.ByNumber.Seeing.{Sees}
use Rattle.name_order.specs.declared.inside.Search.{Search}
use Rattle.name_order.proofs.ByNumber.InsideLaws.{sees-none}

module _ (ls : List GroundList) where
  abbrev Names : List GroundTerm → List Name
  Names ts = names_of_terms (g_terms_tree (map (the_g_term ls) ts))

  -- what is behind a term without names
  pub behind-bare : (ts : List GroundTerm) (i : ℕ) (t d : GroundTerm) → i < length ts → t ≡ get_or ts i d → names_of_term (the_g_term ls t) ≡ [] → Names (drop i ts) ≡ Names (drop (i + 1) ts)
  behind-bare ts i t d lt is bare =
      at_drop_more Names ts i d lt
      ∙ ap (λ u. names_of_term (the_g_term ls u) ++ Names (drop (i + 1) ts)) (sym is)
      ∙ ap (λ ns. ns ++ Names (drop (i + 1) ts)) bare

  pub none-behind : (ts : List GroundTerm) (i : ℕ) → length ts ≤ i → Names (drop i ts) ≡ []
  none-behind ts i le = at_drop_all Names ts i le

  pub none-told : AreTold ls []
  none-told k h = absurd (true≢false h)

  -- one list more
  pub told-push : (n : ℕ) (old new : List Bool) (b : Bool) → length old ≡ n → AreTold ls old → (b ≡ false → names_of_terms (g_terms_tree (the_terms ls (record { 0 = n }))) ≡ []) → new ≡ old ++ b ∷ [] → AreTold ls new
  told-push n old new b count told next e k h = by (cases_lt k n) (cases_lt n k)
    where
      at : get_or (old ++ b ∷ []) k true ≡ false
      at = ap (λ l. get_or l k true) (sym e) ∙ h

      by : (k < n) ⊎ (n ≤ k) → (n < k) ⊎ (k ≤ n) → names_of_terms (g_terms_tree (the_terms ls (record { 0 = k }))) ≡ []
      by (inl low) _ = told k (sym (get_or_append_left old (b ∷ []) true k (omega (arith, count, low))) ∙ at)
      by (inr high) (inl above) =
          let m = length-append old (b ∷ []) in
          absurd (true≢false (sym (get_or_past (old ++ b ∷ []) k true (omega (arith, m, count, above))) ∙ at))
      by (inr high) (inr low) =
          let same : n ≡ k = omega (arith, high, low) in
          subst (λ j. names_of_terms (g_terms_tree (the_terms ls (record { 0 = j }))) ≡ []) same
          (next (sym (get_or_push old b true k (omega (arith, count, same))) ∙ at))

  pub bare-seen : (s : Search) (list : GroundTerms) → AreNormalNames ls s.names.keys → names_of_terms (g_terms_tree (the_terms ls list)) ≡ [] → Sees ls s s (names_of_terms (g_terms_tree (the_terms ls list)))
  bare-seen s list normal bare = subst (Sees ls s s) (sym bare) (sees-none ls s normal)

pub ruleset holding = (none-told, told-push, bare-seen)
