-- A closed tableau whose numbers have 32 bits has a text with each limit from 1 to 200 within which it is closed.
use Rattle.std.proofs.Common.{ℕ, List, [], ◌∷◌, length, Bool, true, false, ◌&&◌, None, option_and_then, IsTrue, refl, ◌∙◌, if◌then◌else◌, remove}
use Rattle.std.specs.List.{list_all}
use Rattle.std.specs.Option.{option_map_or}
use Rattle.std.proofs.lemmas.Bool.{false≢true, and_parts, and_from}
use Rattle.std.proofs.lemmas.List.Folds.{list_all-append}
use Rattle.calculus.specs.declared.sign.Sign.TheVariants.{F}
use Rattle.calculus.specs.Syntax.{Problem}
use Rattle.calculus.specs.Ground.{GroundTerm, GroundTerms, GroundMark, Marks, Value, Values, g_fun, g_eigen, common, own, no_g_terms, more_g_terms, g_new_mark, g_spare_mark, no_marks, more_marks, term, steps, no_values, more_values, values_list, g_terms_list, GroundLiteral}
use Rattle.calculus.specs.Equality.{list_eq, literal_eq}
use Rattle.calculus.specs.Text.{is_number}
use Rattle.calculus.specs.DerivationText.{is_limit}
use Rattle.calculus.specs.Skolem.{has_function, is_delta_position, is_pi_position, fits_way, is_admitted, are_admitted, is_admitted_mark, are_admitted_marks, is_admitted_value, are_admitted_values}
use Rattle.calculus.specs.Instances.{ClauseInstance, gamma_is_allowed, root_spot}
use Rattle.calculus.specs.ComputedInstances.{Part, part_of, if_used_up, is_allowed_instance}
use Rattle.calculus.specs.Tableaux.{Closing, Closings, reduce, extend, no_closings, more_closings, Tableau, closes, closes_all, is_closed}
use Rattle.calculus.specs.FirstWrong.{text_of}
use Rattle.calculus.specs.TableauText.{ground_is_written, grounds_are_written, ground_mark_is_written, marks_are_written, value_is_written, values_are_written, ground_has_numbers, grounds_have_numbers, ground_mark_has_numbers, marks_have_numbers, value_has_numbers, values_have_numbers, instance_has_numbers, closing_has_numbers, closings_have_numbers, tableau_has_numbers, chosen_is_written, move_is_written, are_written, chosen_of, moves_of, moves_of_all, tableau_moves, moves_texts, IsClosedText}
use Rattle.calculus.proofs.TableauTextUnique.{extends, closed-parts, closed-instances}

mutual
  admitted-written : (P : Problem) (t : GroundTerm) → IsTrue (is_admitted P t) → IsTrue (ground_has_numbers t) → IsTrue (ground_is_written P.symbols t)
  admitted-written P (g_fun f ts) h n =
      let p = and_parts (has_function P.symbols f (length (g_terms_list ts))) (are_admitted P ts) h in
      and_from (has_function P.symbols f (length (g_terms_list ts))) (grounds_are_written P.symbols ts) p.0 (all-written P ts p.1 n)
  admitted-written P (g_eigen p vs) h n =
      let a = and_parts (is_delta_position P p && fits_way P p (values_list vs)) (are_admitted_values P vs) h in
      let b = and_parts (is_number p) (values_have_numbers vs) n in
      and_from (is_number p) (values_are_written P.symbols vs) b.0 (values-written P vs a.1 b.1)
  admitted-written P (common k) h n = n
  admitted-written P (own k w) h n =
      let b = and_parts (is_number k) (marks_have_numbers w) n in
      and_from (is_number k) (marks_are_written P.symbols w) b.0 (marks-written P w h b.1)

  all-written : (P : Problem) (ts : GroundTerms) → IsTrue (are_admitted P ts) → IsTrue (grounds_have_numbers ts) → IsTrue (grounds_are_written P.symbols ts)
  all-written P no_g_terms h n = refl
  all-written P (more_g_terms t ts) h n =
      let a = and_parts (is_admitted P t) (are_admitted P ts) h in
      let b = and_parts (ground_has_numbers t) (grounds_have_numbers ts) n in
      and_from (ground_is_written P.symbols t) (grounds_are_written P.symbols ts) (admitted-written P t a.0 b.0) (all-written P ts a.1 b.1)

  mark-written : (P : Problem) (m : GroundMark) → IsTrue (is_admitted_mark P m) → IsTrue (ground_mark_has_numbers m) → IsTrue (ground_mark_is_written P.symbols m)
  mark-written P (g_new_mark p vs) h n =
      let a = and_parts (is_pi_position P p && fits_way P p (values_list vs)) (are_admitted_values P vs) h in
      let b = and_parts (is_number p) (values_have_numbers vs) n in
      and_from (is_number p) (values_are_written P.symbols vs) b.0 (values-written P vs a.1 b.1)
  mark-written P (g_spare_mark k) h n = n

  marks-written : (P : Problem) (w : Marks) → IsTrue (are_admitted_marks P w) → IsTrue (marks_have_numbers w) → IsTrue (marks_are_written P.symbols w)
  marks-written P no_marks h n = refl
  marks-written P (more_marks m ms) h n =
      let a = and_parts (is_admitted_mark P m) (are_admitted_marks P ms) h in
      let b = and_parts (ground_mark_has_numbers m) (marks_have_numbers ms) n in
      and_from (ground_mark_is_written P.symbols m) (marks_are_written P.symbols ms) (mark-written P m a.0 b.0) (marks-written P ms a.1 b.1)

  value-written : (P : Problem) (v : Value) → IsTrue (is_admitted_value P v) → IsTrue (value_has_numbers v) → IsTrue (value_is_written P.symbols v)
  value-written P (term t) h n = admitted-written P t h n
  value-written P (steps w) h n = marks-written P w h n

  values-written : (P : Problem) (vs : Values) → IsTrue (are_admitted_values P vs) → IsTrue (values_have_numbers vs) → IsTrue (values_are_written P.symbols vs)
  values-written P no_values h n = refl
  values-written P (more_values v vs) h n =
      let a = and_parts (is_admitted_value P v) (are_admitted_values P vs) h in
      let b = and_parts (value_has_numbers v) (values_have_numbers vs) n in
      and_from (value_is_written P.symbols v) (values_are_written P.symbols vs) (value-written P v a.0 b.0) (values-written P vs a.1 b.1)

list-written : (P : Problem) (vs : List Value) → IsTrue (list_all (is_admitted_value P) vs) → IsTrue (list_all value_has_numbers vs) → IsTrue (list_all (value_is_written P.symbols) vs)
list-written P [] h n = refl
list-written P (v ∷ vs) h n =
    let a = and_parts (is_admitted_value P v) (list_all (is_admitted_value P) vs) h in
    let b = and_parts (value_has_numbers v) (list_all value_has_numbers vs) n in
    and_from (value_is_written P.symbols v) (list_all (value_is_written P.symbols) vs) (value-written P v a.0 b.0) (list-written P vs a.1 b.1)

-- the values of an instance are admitted
allowed-admitted : (P : Problem) (i : ClauseInstance) → IsTrue (is_allowed_instance P i) → IsTrue (list_all (is_admitted_value P) i.values)
allowed-admitted P i h = by (list_all (is_admitted_value P) i.values) h
  where
    by : (b : Bool) → IsTrue (option_map_or (λ (x : Part). list_eq literal_eq x.literals i.literals && list_all (gamma_is_allowed P) x.gammas) (if b then option_and_then if_used_up (part_of P.setting.logic P.formula F root_spot (record { sides = i.selection; values = i.values })) else None) false) → IsTrue b
    by true g = refl
    by false g = g

instance-written : (P : Problem) (i : ClauseInstance) → IsTrue (is_allowed_instance P i) → IsTrue (instance_has_numbers i) → IsTrue (chosen_is_written P.symbols (chosen_of i))
instance-written P i h n = list-written P i.values (allowed-admitted P i h) n

mutual
  closing-written : (P : Problem) (d : ℕ) (path : List GroundLiteral) (goal : GroundLiteral) (c : Closing) → IsTrue (closes P d path goal c) → IsTrue (closing_has_numbers c) → IsTrue (list_all (move_is_written P.symbols) (moves_of c))
  closing-written P d path goal (reduce k) h n = and_from (is_number k) true n refl
  closing-written P d path goal (extend i p cs) h n =
      let x = extends P d path goal i p cs h in
      let a = and_parts (is_number p && instance_has_numbers i) (closings_have_numbers cs) n in
      let b = and_parts (is_number p) (instance_has_numbers i) a.0 in
      and_from (is_number p && chosen_is_written P.symbols (chosen_of i)) (list_all (move_is_written P.symbols) (moves_of_all cs))
      (and_from (is_number p) (chosen_is_written P.symbols (chosen_of i)) b.0 (instance-written P i x.allowed b.1))
      (closings-written P d (goal ∷ path) (remove i.literals p) cs x.below a.1)

  closings-written : (P : Problem) (d : ℕ) (path goals : List GroundLiteral) (cs : Closings) → IsTrue (closes_all P d path goals cs) → IsTrue (closings_have_numbers cs) → IsTrue (list_all (move_is_written P.symbols) (moves_of_all cs))
  closings-written P d path [] no_closings h n = refl
  closings-written P d path [] (more_closings c cs) h n = absurd (false≢true h)
  closings-written P d path (g ∷ gs) no_closings h n = absurd (false≢true h)
  closings-written P d path (g ∷ gs) (more_closings c cs) h n =
      let a = and_parts (closes P d path g c) (closes_all P d path gs cs) h in
      let b = and_parts (closing_has_numbers c) (closings_have_numbers cs) n in
      list_all-append (move_is_written P.symbols) (moves_of c) (moves_of_all cs) ∙ and_from (list_all (move_is_written P.symbols) (moves_of c)) (list_all (move_is_written P.symbols) (moves_of_all cs)) (closing-written P d path g c a.0 b.0) (closings-written P d path gs cs a.1 b.1)

-- the moves of a closed tableau can be written
pub closed-written : (P : Problem) (t : Tableau) (d : ℕ) → IsTrue (is_limit d) → IsTrue (is_closed P d t) → IsTrue (tableau_has_numbers t) → IsTrue (are_written P (tableau_moves t d))
closed-written P t d limit h n =
    let x = closed-parts P d t h in
    let a = and_parts (instance_has_numbers t.start) (closings_have_numbers t.goals) n in
    and_from (is_limit d && chosen_is_written P.symbols (chosen_of t.start)) (list_all (move_is_written P.symbols) (moves_of_all t.goals))
    (and_from (is_limit d) (chosen_is_written P.symbols (chosen_of t.start)) limit (instance-written P t.start x.start a.0))
    (closings-written P d [] t.start.literals t.goals x.goals a.1)

-- so it has a text
pub closed-text : (P : Problem) (t : Tableau) (d : ℕ) → IsTrue (is_limit d) → IsTrue (is_closed P d t) → IsTrue (tableau_has_numbers t) → IsClosedText P t d (text_of (moves_texts P) (tableau_moves t d))
closed-text P t d limit h n = record { text = record { instances = closed-instances P d t h; text = record { printable = closed-written P t d limit h n; text = refl } }; closed = h }
