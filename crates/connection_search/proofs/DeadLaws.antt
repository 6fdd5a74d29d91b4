-- What begins with a dead end is one, so all that is pending behind it is passed at once.
use Rattle.std.proofs.Common.{◌≡◌, ◌∙◌, ◌++◌, ◌∷◌, [], ℕ, Bool, IsTrue, List, refl, sym}
use Rattle.std.proofs.lemmas.Bool.{false_from_ne_true, false≢true}
use Rattle.calculus.specs.Choices.{Choice, IsLive, choices_of, is_regular}
use Rattle.calculus.specs.Space.{Member}
use Rattle.calculus.specs.Syntax.{Problem}
use Rattle.search_theory.specs.Exploring.{behind}
use Rattle.search_theory.specs.Searching.{IsSearch}
use Rattle.search_theory.proofs.BeginningLaws.{beginning, not-empty-behind, regular-kept}
use Rattle.search_theory.specs.DeadEnds.{IsDead, irregular, is_not_empty, refused}
use Rattle.search_theory.proofs.SearchSteps.{search-dead}

pub dead-behind : (P : Problem) (c : List Choice) (x : Choice) → IsTrue (is_not_empty c) → IsDead P c → IsDead P (c ++ x ∷ [])
dead-behind P c x n (refused h) = refused (λ t.
    let (gs, y, names, grows) = t in
    let k = beginning P gs y c (x ∷ []) n grows names in
    h (k.choices, k.growth, k.names, k.grows))
dead-behind P c x n (irregular h) = irregular (λ gs y names grows.
    let k = beginning P gs y c (x ∷ []) n grows names in
    false_from_ne_true (is_regular y) (λ e. false≢true (sym (h k.choices k.growth k.names k.grows) ∙ regular-kept k.growth y k.keeps e)))

-- the lists behind a dead end are dead ends, one after the other
pub search-dead_behind : (P : Problem) (d : ℕ) (spent : List Member) (c xs : List Choice) (ps : List (List Choice)) (left : Bool) → IsTrue (is_not_empty c) → IsDead P c → IsSearch P d spent (behind c xs ++ ps) left → IsSearch P d spent ps left
search-dead_behind P d spent c [] ps left n dead h = h
search-dead_behind P d spent c (x ∷ xs) ps left n dead h = search-dead_behind P d spent c xs ps left n dead (search-dead P d spent (c ++ x ∷ []) (behind c xs ++ ps) left h (not-empty-behind c x) (dead-behind P c x n dead))

-- a tree has been started where a list is live
pub live-not_empty : (P : Problem) (d : ℕ) (c : List Choice) → IsLive P d c → IsTrue (is_not_empty c)
live-not_empty P d (x ∷ c) h = refl
live-not_empty P d [] ([], f) = absurd f.grows
live-not_empty P d [] (g ∷ gs, f) = let e : choices_of (g ∷ gs) ≡ [] = f.choices in absurd (cc e)
