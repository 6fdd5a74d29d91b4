-- The moves of closings, one behind the other.
use Rattle.std.proofs.Common.{◌≡◌, ◌+◌, ◌<◌, ◌≤◌, ℕ, List, [], ◌∷◌, ◌++◌, length, map, take, get_or, sym, ◌∙◌, ap, append_assoc, append-nil}
use Rattle.std.proofs.lemmas.List.{map-append, take_more, take_all}
use Rattle.calculus.specs.Lists.{closings_tree}
use Rattle.calculus.specs.Tableaux as tree
use Rattle.calculus.specs.TableauText.{extension, chosen_of, moves_of, moves_of_all, Move as TreeMove}
use Rattle.formula_core.specs.GroundLists.{GroundList}
use Rattle.tableau_core.proofs.Numbered.ClosingLaws.{closings-in, items-closings}
use Rattle.tableau_core.specs.Numbered.Closings as numbered
use Rattle.tableau_core.specs.Numbered.ClosingView.{closing_in, the_closing}
use Rattle.tableau_core.specs.Numbered.InstanceView.{the_instance}
use Rattle.tableau_core.specs.declared.closing.Closing as program
use Rattle.tableau_core.specs.declared.instance.ClauseInstance.{ClauseInstance}
use Rattle.tableau_text.specs.MovesView.{the_move}
use Rattle.tableau_text.specs.declared.moves.Move.{Move}

moves-append : (xs : List tree.Closing) (c : tree.Closing) → moves_of_all (closings_tree (xs ++ c ∷ [])) ≡ moves_of_all (closings_tree xs) ++ moves_of c
moves-append [] c = append-nil (moves_of c)
moves-append (x ∷ xs) c = ap (λ ms. moves_of x ++ ms) (moves-append xs c) ∙ sym (append_assoc (moves_of x) (moves_of_all (closings_tree xs)) (moves_of c))

module _ (ls : List GroundList) where
  abbrev flat : List Move → List TreeMove
  flat ms = map (the_move ls) ms

  abbrev closing : program.Closing → tree.Closing
  closing y = closing_in ls (the_closing y)

  abbrev flat_items : List program.Closing → List TreeMove
  flat_items ys = moves_of_all (closings_tree (map closing ys))

  pub flat-extension : (old mid new : List Move) (ext : Move) (i : ClauseInstance) (place : ℕ) (goals : List numbered.Closing) (c : numbered.Closing) → mid ≡ old ++ ext ∷ [] → the_move ls ext ≡ extension place (chosen_of (the_instance ls i)) → flat new ≡ flat mid ++ moves_of_all (closings_tree (map (closing_in ls) goals)) → c ≡ numbered.extend i place (numbered.closings_tree goals) → flat new ≡ flat old ++ moves_of (closing_in ls c)
  flat-extension old mid new ext i place goals c e h k m =
      let below = moves_of_all (closings_tree (map (closing_in ls) goals)) in
      k ∙ ap (λ xs. flat xs ++ below) e ∙ ap (λ xs. xs ++ below) (map-append (the_move ls) old (ext ∷ []))
      ∙ append_assoc (flat old) (the_move ls ext ∷ []) below
      ∙ (λ j. flat old ++ h j ∷ moves_of_all (sym (closings-in ls goals) j))
      ∙ ap (λ x. flat old ++ moves_of (closing_in ls x)) (sym m)

  pub flat-begins : (old : List Move) (items : List program.Closing) → flat old ≡ flat old ++ flat_items (take 0 items)
  flat-begins old items = sym (append-nil (flat old))

  pub flat-next : (old now new : List Move) (items : List program.Closing) (i : ℕ) (y d : program.Closing) → flat now ≡ flat old ++ flat_items (take i items) → flat new ≡ flat now ++ moves_of (closing y) → i < length items → y ≡ get_or items i d → flat new ≡ flat old ++ flat_items (take (i + 1) items)
  flat-next old now new items i y d e h l q =
      h ∙ ap (λ xs. xs ++ moves_of (closing y)) e
      ∙ append_assoc (flat old) (flat_items (take i items)) (moves_of (closing y))
      ∙ ap (λ xs. flat old ++ xs) (
      sym (moves-append (map closing (take i items)) (closing y))
      ∙ ap (λ xs. moves_of_all (closings_tree xs)) (ap (λ x. map closing (take i items) ++ closing x ∷ []) q ∙ sym (map-append closing (take i items) (get_or items i d ∷ [])) ∙ sym (ap (map closing) (take_more items i d l))))

  pub flat-ends : (old now : List Move) (items : List program.Closing) (cs : List numbered.Closing) (i : ℕ) → flat now ≡ flat old ++ flat_items (take i items) → length items ≤ i → map the_closing items ≡ cs → flat now ≡ flat old ++ moves_of_all (closings_tree (map (closing_in ls) cs))
  flat-ends old now items cs i e l q = e ∙ ap (λ xs. flat old ++ flat_items xs) (take_all i items l) ∙ ap (λ xs. flat old ++ moves_of_all (closings_tree xs)) (items-closings ls items cs q)
