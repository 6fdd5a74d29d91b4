-- The table of substitutions by its links.
use Rattle.std.proofs.Common.{◌≡◌, ℕ, zero, suc, ◌+◌, ◌-◌, ◌<◌, ◌≤◌, List, [], ◌∷◌, ◌++◌, length, get_or, map, drop, sym, ◌∙◌, ap, subst, arith}
use Rattle.std.proofs.lemmas.List.{length-append, length-map, map_push, get_or-map, append-nil, append_assoc, drop_more, drop_all, get_or_append_left, get_or_push}
use Rattle.calculus.specs.Derivations as derivation
use Rattle.calculus.specs.Derivations.{character_eq}
use Rattle.calculus.specs.Syntax.{Term, var}
use Rattle.logic_rules.specs.declared.label.Mark.{Mark}
use Rattle.logic_rules.specs.MarkView.{the_character}
use Rattle.label_table.specs.Chains.{with_link, chains_from, chains, AreBackward}
use Rattle.label_table.specs.Longer.{IsLonger}
use Rattle.derivation_branch.specs.Putting.{IsClosed, AreClosed, AreClosedLinks, value_at}
use Rattle.derivation_branch.specs.TableView.{the_value, the_link}
use Rattle.derivation_branch.specs.declared.substitution.Binding.{Binding}
use Rattle.label_table.proofs.ChainLaws.{chains-at, chains-first, chains-push, chains-length, backward-at, backward-push}
use Rattle.derivation_branch.proofs.PuttingLaws.{value-first, value-further, value-none}

abbrev AllClosed : List (List Term) → Type 0
AllClosed [] = Unit {0}
AllClosed (ts ∷ table) = AreClosed ts × AllClosed table

closed-list : (table : List (List Term)) (k : ℕ) → AllClosed table → AreClosed (get_or table k [])
closed-list [] k h = tt
closed-list (ts ∷ table) zero h = h.0
closed-list (ts ∷ table) (suc k) h = closed-list table k h.1

closed-more : (table : List (List Term)) (ts : List Term) → AllClosed table → AreClosed ts → AllClosed (table ++ ts ∷ [])
closed-more [] ts h g = (g, tt)
closed-more (us ∷ table) ts h g = (h.0, closed-more table ts h.1 g)

closed-chains : (table : List (List Term)) (xs : List (Term × ℕ)) → AllClosed table → AreClosedLinks xs → AllClosed (chains_from table xs)
closed-chains table [] h g = h
closed-chains table (x ∷ xs) h g = closed-chains (with_link table x) xs (closed-more table (x.0 ∷ get_or table x.1 []) h (g.0, closed-list table x.1 h)) g.1

pub list-closed : (xs : List Binding) (table : List (List Term)) (k : ℕ) → chains (map the_link xs) ≡ table → AreClosedLinks (map the_link xs) → AreClosed (get_or table k [])
list-closed xs table k view h = subst (λ t. AreClosed (get_or t k [])) view (closed-list (chains (map the_link xs)) k (closed-chains ([] ∷ []) (map the_link xs) (tt, tt) h))

closed-push : (xs : List (Term × ℕ)) (x : Term × ℕ) → AreClosedLinks xs → IsClosed x.0 → AreClosedLinks (xs ++ x ∷ [])
closed-push [] x h g = (g, tt)
closed-push (y ∷ ys) x h g = (h.0, closed-push ys x h.1 g)

pub closed-put : (xs after : List Binding) (x : Binding) → after ≡ xs ++ x ∷ [] → IsClosed (the_value x.term) → AreClosedLinks (map the_link xs) → AreClosedLinks (map the_link after)
closed-put xs after x grown g h = subst AreClosedLinks (sym (ap (map the_link) grown ∙ map_push the_link xs x)) (closed-push (map the_link xs) (the_link x) h g)

pub value-here : (x : Binding) (l rest : List Term) (left : ℕ) → l ≡ the_value x.term ∷ rest → left ≡ 0 → the_value x.term ≡ value_at l left
value-here x l rest left at none = sym (value-first (the_value x.term) rest left none) ∙ ap (λ m. value_at m left) (sym at)

pub value-outer : (x : Binding) (l rest : List Term) (left less : ℕ) (v : Term) → l ≡ the_value x.term ∷ rest → left ≡ suc less → value_at l left ≡ v → value_at rest less ≡ v
value-outer x l rest left less v at further same =
    sym (value-further (the_value x.term) rest less) ∙ ap (value_at (the_value x.term ∷ rest)) (sym further) ∙ ap (λ m. value_at m left) (sym at) ∙ same

pub value-free : (l : List Term) (left : ℕ) → l ≡ [] → var left ≡ value_at l left
value-free l left at = sym (value-none left) ∙ ap (λ m. value_at m left) (sym at)

pub first-closed : (x : Binding) (l rest : List Term) → l ≡ the_value x.term ∷ rest → AreClosed l → IsClosed (the_value x.term)
first-closed x l rest at h = (subst AreClosed at h).0
