-- The tableau that is built from moves which are accepted is the closed one that they write.
use Rattle.std.proofs.Common.{◌≡◌, ℕ, zero, suc, ◌-◌, nat_lt, List, [], ◌∷◌, ◌++◌, length, map, take, drop, ◌&&◌, Ok, IsTrue, refl, sym, ◌∙◌, ap, arith, true≢false, append_assoc, slice_get, remove, subst, append-nil}
use Rattle.std.proofs.lemmas.Bool.{and_parts}
use Rattle.calculus.specs.Ground.{GroundLiteral}
use Rattle.calculus.specs.Instances.{ClauseInstance}
use Rattle.calculus.specs.ComputedInstances.{is_allowed_instance}
use Rattle.calculus.specs.Lists.{closings_tree, closings_list, closings_tree-closings_list}
use Rattle.calculus.specs.Syntax.{Problem}
use Rattle.calculus.specs.Tableaux.{Closing, Closings, reduce, extend, no_closings, more_closings, Tableau, is_complement, is_new_on, closes, closes_all, is_closed}
use Rattle.calculus.specs.TableauText.{Move, Moves, chosen_of, moves_of, moves_of_all, tableau_verdict, tableau_accepted}
use Rattle.calculus.proofs.TableauTextLaws.{allowed-literals, accepted-closed}
use Rattle.calculus.proofs.TableauTextUnique.{extends, closed-parts}
use Rattle.tableau_cert.specs.Resolving.{closer_of, found_of, with_literals, by_extension}
use Rattle.tableau_cert.specs.Building.{IsBuilt, built, built_tableau, instance_in, put_closer, put_extension}

front : {X : Type 0} (xs ys : List X) (n : ℕ) → n ≡ length xs → take n (xs ++ ys) ≡ xs
front [] [] zero e = refl
front [] (y ∷ ys) zero e = refl
front [] ys (suc n) e = absurd (omega (arith, e))
front (x ∷ xs) ys zero e = absurd (omega (arith, e))
front (x ∷ xs) ys (suc n) e = ap (λ zs. x ∷ zs) (front xs ys n (omega (arith, e)))

behind : {X : Type 0} (xs ys : List X) (n : ℕ) → n ≡ length xs → drop n (xs ++ ys) ≡ ys
behind [] ys zero e = refl
behind [] ys (suc n) e = absurd (omega (arith, e))
behind (x ∷ xs) ys zero e = absurd (omega (arith, e))
behind (x ∷ xs) ys (suc n) e = behind xs ys n (omega (arith, e))

found-again : (P : Problem) (i : ClauseInstance) → IsTrue (is_allowed_instance P i) → found_of P (chosen_of i) ≡ Ok i
found-again P i h = ap (with_literals (chosen_of i)) (allowed-literals P i h)

others-count : (g : GroundLiteral) (ls : List GroundLiteral) (place : ℕ) → IsTrue (is_complement g (slice_get ls place)) → length (remove ls place) ≡ length ls - 1
others-count g [] zero h = absurd (true≢false (sym h))
others-count g [] (suc n) h = absurd (true≢false (sym h))
others-count g (x ∷ ls) zero h = omega arith
others-count g (x ∷ []) (suc n) h = absurd (true≢false (sym h))
others-count g (x ∷ y ∷ ls) (suc n) h = let r = others-count g (y ∷ ls) n h in omega (arith, r)

meets : (P : Problem) (d : ℕ) (path : List GroundLiteral) (goal : GroundLiteral) (i : ClauseInstance) (place : ℕ) (cs : Closings) → IsTrue (closes P d path goal (extend i place cs)) → IsTrue (is_complement goal (slice_get i.literals place))
meets P d path goal i place cs h =
    let a = and_parts (is_new_on path goal && nat_lt (length path) d && is_allowed_instance P i && is_complement goal (slice_get i.literals place)) (closes_all P d (goal ∷ path) (remove i.literals place) cs) h in
    (and_parts (is_new_on path goal && nat_lt (length path) d && is_allowed_instance P i) (is_complement goal (slice_get i.literals place)) a.0).1

goals-count : (P : Problem) (d : ℕ) (path goals : List GroundLiteral) (cs : Closings) → IsTrue (closes_all P d path goals cs) → length (closings_list cs) ≡ length goals
goals-count P d path [] no_closings h = refl
goals-count P d path [] (more_closings c cs) h = absurd (true≢false (sym h))
goals-count P d path (g ∷ gs) no_closings h = absurd (true≢false (sym h))
goals-count P d path (g ∷ gs) (more_closings c cs) h = ap suc (goals-count P d path gs cs (and_parts (closes P d path g c) (closes_all P d path gs cs) h).1)

abbrev again : Problem → List Move → List Closing
again P ms = built (map (closer_of P) ms)

-- the extension takes the closings that were below it
taken : (P : Problem) (i : ClauseInstance) (place : ℕ) (cs : Closings) (ms : List Move) (rest : List Closing) → IsTrue (is_allowed_instance P i) → length i.literals - 1 ≡ length (closings_list cs) → again P ms ≡ closings_list cs ++ rest → put_closer (by_extension place (found_of P (chosen_of i))) (again P ms) ≡ extend i place cs ∷ rest
taken P i place cs ms rest h n e =
    (λ k. put_extension place (found-again P i h k) (e k))
    ∙ (λ k. extend i place (closings_tree (front (closings_list cs) rest (length i.literals - 1) n k)) ∷ behind (closings_list cs) rest (length i.literals - 1) n k)
    ∙ ap (λ x. extend i place x ∷ rest) (closings_tree-closings_list cs)

mutual
  one-again : (P : Problem) (d : ℕ) (path : List GroundLiteral) (goal : GroundLiteral) (c : Closing) (ms : List Move) → IsTrue (closes P d path goal c) → again P (moves_of c ++ ms) ≡ c ∷ again P ms
  one-again P d path goal (reduce k) ms h = refl
  one-again P d path goal (extend i place cs) ms h =
      let x = extends P d path goal i place cs h in
      let n = others-count goal i.literals place (meets P d path goal i place cs h) in
      let m = goals-count P d (goal ∷ path) (remove i.literals place) cs x.below in
      taken P i place cs (moves_of_all cs ++ ms) (again P ms) x.allowed (sym n ∙ sym m) (all-again P d (goal ∷ path) (remove i.literals place) cs ms x.below)

  all-again : (P : Problem) (d : ℕ) (path goals : List GroundLiteral) (cs : Closings) (ms : List Move) → IsTrue (closes_all P d path goals cs) → again P (moves_of_all cs ++ ms) ≡ closings_list cs ++ again P ms
  all-again P d path [] no_closings ms h = refl
  all-again P d path [] (more_closings c cs) ms h = absurd (true≢false (sym h))
  all-again P d path (g ∷ gs) no_closings ms h = absurd (true≢false (sym h))
  all-again P d path (g ∷ gs) (more_closings c cs) ms h =
      let p = and_parts (closes P d path g c) (closes_all P d path gs cs) h in
      ap (again P) (append_assoc (moves_of c) (moves_of_all cs) ms)
      ∙ one-again P d path g c (moves_of_all cs ++ ms) p.0
      ∙ ap (λ xs. c ∷ xs) (all-again P d path gs cs ms p.1)

-- the tableau that a closed one's moves build is this one
same-again : (P : Problem) (d : ℕ) (t : Tableau) → IsTrue (is_closed P d t) → built_tableau (found_of P (chosen_of t.start)) (map (closer_of P) (moves_of_all t.goals)) ≡ t
same-again P d t h =
    let x = closed-parts P d t h in
    let goals = ap (again P) (sym (append-nil (moves_of_all t.goals))) ∙ all-again P d [] t.start.literals t.goals [] x.goals ∙ append-nil (closings_list t.goals) in
    (λ k. record { start = instance_in (found-again P t.start x.start k); goals = closings_tree (goals k) })
    ∙ ap (λ cs. record { start = t.start; goals = cs }) (closings_tree-closings_list t.goals)

pub built-closed : (P : Problem) (x : Moves) → tableau_verdict P x ≡ tableau_accepted → IsBuilt P x (built_tableau (found_of P x.start) (map (closer_of P) x.moves))
built-closed P x e =
    let c = accepted-closed P x e in
    let same : built_tableau (found_of P x.start) (map (closer_of P) x.moves) ≡ c.tableau = ap (λ (y : Moves). built_tableau (found_of P y.start) (map (closer_of P) y.moves)) (sym c.moves) ∙ same-again P x.limit c.tableau c.closed in
    subst (IsBuilt P x) (sym same) (record { closed = c.closed; moves = c.moves })
