-- The verdict on the lines of a tableau's text is acceptance exactly where they are those of a closed tableau.
use Rattle.std.proofs.Common.{◌≡◌, ℕ, suc, ◌+◌, List, [], ◌∷◌, ◌++◌, length, map, Bool, true, false, not, ◌&&◌, Option, Some, None, Result, Ok, Err, IsTrue, refl, sym, ◌∙◌, ap, append_assoc, if◌then◌else◌, nat_lt, slice_get, remove}
use Rattle.std.specs.List.{list_all, fold}
use Rattle.std.specs.Option.{option_map_or}
use Rattle.std.proofs.lemmas.Bool.{true≢false, and_parts, and_from}
use Rattle.std.proofs.lemmas.List.{append-nil, map-append}
use Rattle.calculus.specs.declared.fault.TableauFault.{TableauFault}
use Rattle.calculus.specs.declared.fault.TableauFault.TheVariants as fault
use Rattle.calculus.specs.Syntax.{Problem}
use Rattle.calculus.specs.Ground.{GroundLiteral}
use Rattle.calculus.specs.Equality.{list_eq, literal_eq}
use Rattle.calculus.specs.Instances.{ClauseInstance, gamma_is_allowed}
use Rattle.calculus.specs.ComputedInstances.{Part, instance_of, is_allowed_instance, modal_steps}
use Rattle.calculus.specs.Tableaux.{Closing, Closings, reduce, extend, no_closings, more_closings, Tableau, is_complement, ancestor, is_new_on, closes, closes_all, instances_below, instances_of_all, instances, total_steps, has_unbounded_strings, strings_within, is_short, is_shown, is_closed}
use Rattle.calculus.specs.TableauText.{Chosen, Move, reduction, extension, Moves, chosen_of, moves_of, moves_of_all, tableau_moves, TableauVerdict, tableau_accepted, tableau_rejected, OpenGoal, below, allowed_part, literals_of, extended, verdict_after_move, moves_verdict, moves_chosen, bare, bare_instances, strings_are_short, end_verdict, start_verdict, tableau_verdict}
use Rattle.calculus.proofs.EqualityLaws.{list_eq-tells, literal_eq-tells}

pub not_accepted : {n : ℕ} {f : TableauFault} → tableau_rejected n f ≡ tableau_accepted → ⊥
not_accepted e = true≢false (sym (ap is_accepted e))
  where
    is_accepted : TableauVerdict → Bool
    is_accepted tableau_accepted = true
    is_accepted (tableau_rejected n f) = false

-- ---- an allowed instance has its literals

pub allowed-literals : (P : Problem) (i : ClauseInstance) → IsTrue (is_allowed_instance P i) → literals_of P (chosen_of i) ≡ Ok i.literals
allowed-literals P i h = by (instance_of P i.selection i.values) h
  where
    by : (o : Option Part) → IsTrue (option_map_or (λ (x : Part). list_eq literal_eq x.literals i.literals && list_all (gamma_is_allowed P) x.gammas) o false) → allowed_part P o ≡ Ok i.literals
    by None g = absurd (true≢false (sym g))
    by (Some x) g =
        let p = and_parts (list_eq literal_eq x.literals i.literals) (list_all (gamma_is_allowed P) x.gammas) g in
        ap (λ b. if b then Ok x.literals else Err fault.NotAllowed) p.1 ∙ ap Ok ((list_eq-tells literal_eq literal_eq-tells x.literals i.literals).0 p.0)

-- ---- from a closed tableau to acceptance

closes-new : (P : Problem) (d : ℕ) (path : List GroundLiteral) (goal : GroundLiteral) (c : Closing) → IsTrue (closes P d path goal c) → IsTrue (is_new_on path goal)
closes-new P d path goal (reduce up) h = (and_parts (is_new_on path goal) (is_complement goal (ancestor path up)) h).0
closes-new P d path goal (extend i place cs) h =
    let a = and_parts (is_new_on path goal && nat_lt (length path) d && is_allowed_instance P i && is_complement goal (slice_get i.literals place)) (closes_all P d (goal ∷ path) (remove i.literals place) cs) h in
    let b = and_parts (is_new_on path goal && nat_lt (length path) d && is_allowed_instance P i) (is_complement goal (slice_get i.literals place)) a.0 in
    let c = and_parts (is_new_on path goal && nat_lt (length path) d) (is_allowed_instance P i) b.0 in
    (and_parts (is_new_on path goal) (nat_lt (length path) d) c.0).0

all-new : (P : Problem) (d : ℕ) (path goals : List GroundLiteral) (cs : Closings) → IsTrue (closes_all P d path goals cs) → IsTrue (list_all (is_new_on path) goals)
all-new P d path [] no_closings h = refl
all-new P d path [] (more_closings c cs) h = refl
all-new P d path (g ∷ gs) no_closings h = absurd (true≢false (sym h))
all-new P d path (g ∷ gs) (more_closings c cs) h =
    let p = and_parts (closes P d path g c) (closes_all P d path gs cs) h in
    and_from (is_new_on path g) (list_all (is_new_on path) gs) (closes-new P d path g c p.0) (all-new P d path gs cs p.1)

-- what is accepted from any line
abbrev Accepts : Problem → ℕ → (ℕ → TableauVerdict) → List OpenGoal → List Move → Type 0
Accepts P d last gs ms = (n : ℕ) → moves_verdict P d last gs ms n ≡ tableau_accepted

mutual
  closes-accepts : (P : Problem) (d : ℕ) (last : ℕ → TableauVerdict) (path : List GroundLiteral) (goal : GroundLiteral) (c : Closing) (gs : List OpenGoal) (ms : List Move) → IsTrue (closes P d path goal c) → Accepts P d last gs ms → Accepts P d last (record { path = path; goal = goal } ∷ gs) (moves_of c ++ ms)
  closes-accepts P d last path goal (reduce up) gs ms h k n =
      let p = and_parts (is_new_on path goal) (is_complement goal (ancestor path up)) h in
      ap (λ b. verdict_after_move n (if b then Ok [] else Err fault.NoConnection) (λ new. moves_verdict P d last (new ++ gs) ms (suc n))) p.1 ∙ k (suc n)
  closes-accepts P d last path goal (extend i place cs) gs ms h k n =
      let rest = remove i.literals place in
      let a = and_parts (is_new_on path goal && nat_lt (length path) d && is_allowed_instance P i && is_complement goal (slice_get i.literals place)) (closes_all P d (goal ∷ path) rest cs) h in
      let b = and_parts (is_new_on path goal && nat_lt (length path) d && is_allowed_instance P i) (is_complement goal (slice_get i.literals place)) a.0 in
      let c = and_parts (is_new_on path goal && nat_lt (length path) d) (is_allowed_instance P i) b.0 in
      let e = and_parts (is_new_on path goal) (nat_lt (length path) d) c.0 in
      let g : OpenGoal = record { path = path; goal = goal } in
      let go : List OpenGoal → TableauVerdict = λ new. moves_verdict P d last (new ++ gs) (moves_of_all cs ++ ms) (suc n) in
      ap (λ b. verdict_after_move n (if b then extended g place (literals_of P (chosen_of i)) else Err fault.PathLimit) go) e.1
      ∙ ap (λ r. verdict_after_move n (extended g place r) go) (allowed-literals P i c.1)
      ∙ ap (λ b. verdict_after_move n (if not b then Err fault.NoConnection else (if list_all (is_new_on (goal ∷ path)) rest then Ok (below (goal ∷ path) rest) else Err fault.NotRegular)) go) b.1
      ∙ ap (λ b. verdict_after_move n (if b then Ok (below (goal ∷ path) rest) else Err fault.NotRegular) go) (all-new P d (goal ∷ path) rest cs a.1)
      ∙ all-accept P d last (goal ∷ path) rest cs gs ms a.1 k (suc n)

  all-accept : (P : Problem) (d : ℕ) (last : ℕ → TableauVerdict) (path goals : List GroundLiteral) (cs : Closings) (gs : List OpenGoal) (ms : List Move) → IsTrue (closes_all P d path goals cs) → Accepts P d last gs ms → Accepts P d last (below path goals ++ gs) (moves_of_all cs ++ ms)
  all-accept P d last path [] no_closings gs ms h k n = k n
  all-accept P d last path [] (more_closings c cs) gs ms h k n = absurd (true≢false (sym h))
  all-accept P d last path (g ∷ goals) no_closings gs ms h k n = absurd (true≢false (sym h))
  all-accept P d last path (g ∷ goals) (more_closings c cs) gs ms h k n =
      let p = and_parts (closes P d path g c) (closes_all P d path goals cs) h in
      ap (λ xs. moves_verdict P d last (record { path = path; goal = g } ∷ (below path goals ++ gs)) xs n) (append_assoc (moves_of c) (moves_of_all cs) ms)
      ∙ closes-accepts P d last path g c (below path goals ++ gs) (moves_of_all cs ++ ms) p.0 (all-accept P d last path goals cs gs ms p.1 k) n

-- ---- the strings

mutual
  chosen-below : (c : Closing) (ms : List Move) → map bare (moves_chosen (moves_of c ++ ms)) ≡ map (λ i. bare (chosen_of i)) (instances_below c) ++ map bare (moves_chosen ms)
  chosen-below (reduce up) ms = refl
  chosen-below (extend i place cs) ms = ap (λ xs. bare (chosen_of i) ∷ xs) (chosen-all cs ms)

  chosen-all : (cs : Closings) (ms : List Move) → map bare (moves_chosen (moves_of_all cs ++ ms)) ≡ map (λ i. bare (chosen_of i)) (instances_of_all cs) ++ map bare (moves_chosen ms)
  chosen-all no_closings ms = refl
  chosen-all (more_closings c cs) ms =
      ap (λ xs. map bare (moves_chosen xs)) (append_assoc (moves_of c) (moves_of_all cs) ms)
      ∙ chosen-below c (moves_of_all cs ++ ms)
      ∙ ap (λ xs. map (λ i. bare (chosen_of i)) (instances_below c) ++ xs) (chosen-all cs ms)
      ∙ sym (append_assoc (map (λ i. bare (chosen_of i)) (instances_below c)) (map (λ i. bare (chosen_of i)) (instances_of_all cs)) (map bare (moves_chosen ms)))
      ∙ ap (λ xs. xs ++ map bare (moves_chosen ms)) (sym (map-append (λ i. bare (chosen_of i)) (instances_below c) (instances_of_all cs)))

bare-steps : (P : Problem) (is : List ClauseInstance) → total_steps P (map (λ i. bare (chosen_of i)) is) ≡ total_steps P is
bare-steps P is = by 0 is
  where
    by : (a : ℕ) (is : List ClauseInstance) → fold (λ n x. n + modal_steps P x) a (map (λ i. bare (chosen_of i)) is) ≡ fold (λ n x. n + modal_steps P x) a is
    by a [] = refl
    by a (i ∷ is) = by (a + modal_steps P i) is

bare-strings : (b : ℕ) (is : List ClauseInstance) → list_all (strings_within b) (map (λ i. bare (chosen_of i)) is) ≡ list_all (strings_within b) is
bare-strings b [] = refl
bare-strings b (i ∷ is) = ap (λ c. strings_within b i && c) (bare-strings b is)

bare-all : (t : Tableau) (d : ℕ) → bare_instances (tableau_moves t d) ≡ map (λ i. bare (chosen_of i)) (instances t)
bare-all t d = ap (λ xs. bare (chosen_of t.start) ∷ xs) (ap (λ xs. map bare (moves_chosen xs)) (sym (append-nil (moves_of_all t.goals))) ∙ chosen-all t.goals [] ∙ append-nil (map (λ i. bare (chosen_of i)) (instances_of_all t.goals)))

same-strings : (P : Problem) (t : Tableau) (d : ℕ) → strings_are_short P (bare_instances (tableau_moves t d)) ≡ is_short P t
same-strings P t d =
    ap (strings_are_short P) (bare-all t d)
    ∙ ap (λ n. if has_unbounded_strings P.setting.logic then list_all (strings_within n) (map (λ i. bare (chosen_of i)) (instances t)) else true) (bare-steps P (instances t))
    ∙ ap (λ c. if has_unbounded_strings P.setting.logic then c else true) (bare-strings (total_steps P (instances t)) (instances t))

pub closed-accepted : (P : Problem) (t : Tableau) (d : ℕ) → IsTrue (is_closed P d t) → tableau_verdict P (tableau_moves t d) ≡ tableau_accepted
closed-accepted P t d h =
    let a = and_parts (is_allowed_instance P t.start && list_all is_shown t.start.literals && closes_all P d [] t.start.literals t.goals) (is_short P t) h in
    let b = and_parts (is_allowed_instance P t.start && list_all is_shown t.start.literals) (closes_all P d [] t.start.literals t.goals) a.0 in
    let c = and_parts (is_allowed_instance P t.start) (list_all is_shown t.start.literals) b.0 in
    let x = tableau_moves t d in
    let last : (n : ℕ) → end_verdict P x n ≡ tableau_accepted = λ n. ap (λ b. if b then tableau_accepted else tableau_rejected n fault.StringTooLong) (same-strings P t d ∙ a.1) in
    ap (start_verdict P x) (allowed-literals P t.start c.0)
    ∙ ap (λ b. if b then moves_verdict P d (end_verdict P x) (below [] t.start.literals) (moves_of_all t.goals) 6 else tableau_rejected 5 fault.NotPositive) c.1
    ∙ sym (λ i. moves_verdict P d (end_verdict P x) (append-nil (below [] t.start.literals) i) (append-nil (moves_of_all t.goals) i) 6)
    ∙ all-accept P d (end_verdict P x) [] t.start.literals t.goals [] [] b.1 last 6

-- ---- from acceptance to a closed tableau

literals-allowed : (P : Problem) (i : Chosen) (ls : List GroundLiteral) → literals_of P i ≡ Ok ls → IsTrue (is_allowed_instance P (record { selection = i.sides; values = i.values; literals = ls }))
literals-allowed P i ls h = by (instance_of P i.sides i.values) h
  where
    literals_in : Result (List GroundLiteral) TableauFault → List GroundLiteral
    literals_in (Ok xs) = xs
    literals_in (Err f) = []

    is_ok : Result (List GroundLiteral) TableauFault → Bool
    is_ok (Ok xs) = true
    is_ok (Err f) = false

    by : (o : Option Part) → allowed_part P o ≡ Ok ls → IsTrue (option_map_or (λ (x : Part). list_eq literal_eq x.literals ls && list_all (gamma_is_allowed P) x.gammas) o false)
    by None e = absurd (true≢false (sym (ap is_ok e)))
    by (Some x) e = allowed (list_all (gamma_is_allowed P) x.gammas) refl
      where
        allowed : (b : Bool) → list_all (gamma_is_allowed P) x.gammas ≡ b → IsTrue (list_eq literal_eq x.literals ls && list_all (gamma_is_allowed P) x.gammas)
        allowed true g = and_from (list_eq literal_eq x.literals ls) (list_all (gamma_is_allowed P) x.gammas) ((list_eq-tells literal_eq literal_eq-tells x.literals ls).1 (ap literals_in (ap (λ b. if b then Ok x.literals else Err fault.NotAllowed) (sym g) ∙ e))) g
        allowed false g = absurd (true≢false (sym (ap is_ok (ap (λ b. if b then Ok x.literals else Err fault.NotAllowed) (sym g) ∙ e))))

-- each open goal by one closing, in order
abbrev closes_open : Problem → ℕ → List OpenGoal → Closings → Bool
closes_open P d [] no_closings = true
closes_open P d (g ∷ gs) (more_closings c cs) = closes P d g.path g.goal c && closes_open P d gs cs
closes_open P d _ _ = false

-- closings that close the open goals and are written by these moves
record Found (P : Problem) (d : ℕ) (gs : List OpenGoal) (ms : List Move) : Type 0 where
  closings : Closings
  closed : IsTrue (closes_open P d gs closings)
  moves : moves_of_all closings ≡ ms

-- the closings of the goals below a path, and those of the goals behind them
record Parted (P : Problem) (d : ℕ) (path goals : List GroundLiteral) (gs : List OpenGoal) (cs : Closings) : Type 0 where
  first : Closings
  second : Closings
  closed : IsTrue (closes_all P d path goals first)
  others : IsTrue (closes_open P d gs second)
  moves : moves_of_all cs ≡ moves_of_all first ++ moves_of_all second

parted : (P : Problem) (d : ℕ) (path goals : List GroundLiteral) (gs : List OpenGoal) (cs : Closings) → IsTrue (closes_open P d (below path goals ++ gs) cs) → Parted P d path goals gs cs
parted P d path [] gs cs h = record { first = no_closings; second = cs; closed = refl; others = h; moves = refl }
parted P d path (g ∷ goals) gs no_closings h = absurd (true≢false (sym h))
parted P d path (g ∷ goals) gs (more_closings c cs) h =
    let p = and_parts (closes P d path g c) (closes_open P d (below path goals ++ gs) cs) h in
    let r = parted P d path goals gs cs p.1 in
    record { first = more_closings c r.first; second = r.second; closed = and_from (closes P d path g c) (closes_all P d path goals r.first) p.0 r.closed; others = r.others; moves = ap (λ xs. moves_of c ++ xs) r.moves ∙ sym (append_assoc (moves_of c) (moves_of_all r.first) (moves_of_all r.second)) }

abbrev all_new_open : List OpenGoal → Bool
all_new_open gs = list_all (λ (g : OpenGoal). is_new_on g.path g.goal) gs

new-open : (path goals : List GroundLiteral) (gs : List OpenGoal) → IsTrue (list_all (is_new_on path) goals) → IsTrue (all_new_open gs) → IsTrue (all_new_open (below path goals ++ gs))
new-open path [] gs h k = k
new-open path (g ∷ goals) gs h k =
    let p = and_parts (is_new_on path g) (list_all (is_new_on path) goals) h in
    and_from (is_new_on path g) (all_new_open (below path goals ++ gs)) p.0 (new-open path goals gs p.1 k)

-- what accepts, and the line of the end
record Accepted (P : Problem) (d : ℕ) (last : ℕ → TableauVerdict) (gs : List OpenGoal) (ms : List Move) : Type 0 where
  found : Found P d gs ms
  line : ℕ
  ended : last line ≡ tableau_accepted

reduced : (P : Problem) (d : ℕ) (last : ℕ → TableauVerdict) (g : OpenGoal) (gs : List OpenGoal) (k : ℕ) (ms : List Move) → IsTrue (is_new_on g.path g.goal) → IsTrue (is_complement g.goal (ancestor g.path k)) → Accepted P d last gs ms → Accepted P d last (g ∷ gs) (reduction k ∷ ms)
reduced P d last g gs k ms fresh h r = record {
  found = record {
    closings = more_closings (reduce k) r.found.closings;
    closed = and_from (closes P d g.path g.goal (reduce k)) (closes_open P d gs r.found.closings) (and_from (is_new_on g.path g.goal) (is_complement g.goal (ancestor g.path k)) fresh h) r.found.closed;
    moves = ap (λ xs. reduction k ∷ xs) r.found.moves;
  };
  line = r.line;
  ended = r.ended;
}

extended-by : (P : Problem) (d : ℕ) (last : ℕ → TableauVerdict) (g : OpenGoal) (gs : List OpenGoal) (place : ℕ) (i : Chosen) (ls : List GroundLiteral) (ms : List Move) → IsTrue (is_new_on g.path g.goal) → IsTrue (nat_lt (length g.path) d) → IsTrue (is_allowed_instance P (record { selection = i.sides; values = i.values; literals = ls })) → IsTrue (is_complement g.goal (slice_get ls place)) → Accepted P d last (below (g.goal ∷ g.path) (remove ls place) ++ gs) ms → Accepted P d last (g ∷ gs) (extension place i ∷ ms)
extended-by P d last g gs place i ls ms fresh near allowed meets r =
    let x : ClauseInstance = record { selection = i.sides; values = i.values; literals = ls } in
    let s = parted P d (g.goal ∷ g.path) (remove ls place) gs r.found.closings r.found.closed in
    let one = and_from (is_new_on g.path g.goal) (nat_lt (length g.path) d) fresh near in
    let two = and_from (is_new_on g.path g.goal && nat_lt (length g.path) d) (is_allowed_instance P x) one allowed in
    let three = and_from (is_new_on g.path g.goal && nat_lt (length g.path) d && is_allowed_instance P x) (is_complement g.goal (slice_get ls place)) two meets in
    let four = and_from (is_new_on g.path g.goal && nat_lt (length g.path) d && is_allowed_instance P x && is_complement g.goal (slice_get ls place)) (closes_all P d (g.goal ∷ g.path) (remove ls place) s.first) three s.closed in
    record {
      found = record {
        closings = more_closings (extend x place s.first) s.second;
        closed = and_from (closes P d g.path g.goal (extend x place s.first)) (closes_open P d gs s.second) four s.others;
        moves = ap (λ xs. extension place i ∷ xs) (sym s.moves ∙ r.found.moves);
      };
      line = r.line;
      ended = r.ended;
    }

-- the verdict behind a move that leaves these goals below its goal
abbrev behind : Problem → ℕ → (ℕ → TableauVerdict) → List OpenGoal → List Move → ℕ → List OpenGoal → TableauVerdict
behind P d last gs ms n new = moves_verdict P d last (new ++ gs) ms (suc n)

abbrev Next : Problem → ℕ → (ℕ → TableauVerdict) → List OpenGoal → List Move → ℕ → Type 0
Next P d last gs ms n = (hs : List OpenGoal) → (IsTrue (all_new_open gs) → IsTrue (all_new_open (hs ++ gs))) → behind P d last gs ms n hs ≡ tableau_accepted → Accepted P d last (hs ++ gs) ms

find : (P : Problem) (d : ℕ) (last : ℕ → TableauVerdict) (gs : List OpenGoal) (ms : List Move) (n : ℕ) → IsTrue (all_new_open gs) → moves_verdict P d last gs ms n ≡ tableau_accepted → Accepted P d last gs ms
find P d last [] [] n fresh e = record { found = record { closings = no_closings; closed = refl; moves = refl }; line = n; ended = e }
find P d last (g ∷ gs) [] n fresh e = absurd (not_accepted e)
find P d last [] (m ∷ ms) n fresh e = absurd (not_accepted e)
find P d last (g ∷ gs) (reduction k ∷ ms) n fresh e =
    let p = and_parts (is_new_on g.path g.goal) (all_new_open gs) fresh in
    by p.0 (is_complement g.goal (ancestor g.path k)) refl (find P d last gs ms (suc n) p.1)
  where
    by : IsTrue (is_new_on g.path g.goal) → (b : Bool) → is_complement g.goal (ancestor g.path k) ≡ b → (moves_verdict P d last gs ms (suc n) ≡ tableau_accepted → Accepted P d last gs ms) → Accepted P d last (g ∷ gs) (reduction k ∷ ms)
    by f true c rest = reduced P d last g gs k ms f c (rest (ap (λ b. verdict_after_move n (if b then Ok [] else Err fault.NoConnection) (λ new. moves_verdict P d last (new ++ gs) ms (suc n))) (sym c) ∙ e))
    by f false c rest = absurd (not_accepted (ap (λ b. verdict_after_move n (if b then Ok [] else Err fault.NoConnection) (λ new. moves_verdict P d last (new ++ gs) ms (suc n))) (sym c) ∙ e))
find P d last (g ∷ gs) (extension place i ∷ ms) n fresh e =
    let p = and_parts (is_new_on g.path g.goal) (all_new_open gs) fresh in
    near p.0 (nat_lt (length g.path) d) refl (λ hs new. find P d last (hs ++ gs) ms (suc n) (new p.1))
  where
    fresh_goals : IsTrue (is_new_on g.path g.goal) → IsTrue (nat_lt (length g.path) d) → (ls : List GroundLiteral) → literals_of P i ≡ Ok ls → IsTrue (is_complement g.goal (slice_get ls place)) → (b : Bool) → list_all (is_new_on (g.goal ∷ g.path)) (remove ls place) ≡ b → verdict_after_move n (if b then Ok (below (g.goal ∷ g.path) (remove ls place)) else Err fault.NotRegular) (behind P d last gs ms n) ≡ tableau_accepted → Next P d last gs ms n → Accepted P d last (g ∷ gs) (extension place i ∷ ms)
    fresh_goals f t ls l m true c x next = extended-by P d last g gs place i ls ms f t (literals-allowed P i ls l) m (next (below (g.goal ∷ g.path) (remove ls place)) (new-open (g.goal ∷ g.path) (remove ls place) gs c) x)
    fresh_goals f t ls l m false c x next = absurd (not_accepted x)

    meets : IsTrue (is_new_on g.path g.goal) → IsTrue (nat_lt (length g.path) d) → (ls : List GroundLiteral) → literals_of P i ≡ Ok ls → (b : Bool) → is_complement g.goal (slice_get ls place) ≡ b → verdict_after_move n (if not b then Err fault.NoConnection else (if list_all (is_new_on (g.goal ∷ g.path)) (remove ls place) then Ok (below (g.goal ∷ g.path) (remove ls place)) else Err fault.NotRegular)) (behind P d last gs ms n) ≡ tableau_accepted → Next P d last gs ms n → Accepted P d last (g ∷ gs) (extension place i ∷ ms)
    meets f t ls l true c x next = fresh_goals f t ls l c (list_all (is_new_on (g.goal ∷ g.path)) (remove ls place)) refl x next
    meets f t ls l false c x next = absurd (not_accepted x)

    chosen_literals : IsTrue (is_new_on g.path g.goal) → IsTrue (nat_lt (length g.path) d) → (r : Result (List GroundLiteral) TableauFault) → literals_of P i ≡ r → verdict_after_move n (extended g place r) (behind P d last gs ms n) ≡ tableau_accepted → Next P d last gs ms n → Accepted P d last (g ∷ gs) (extension place i ∷ ms)
    chosen_literals f t (Err c) l x next = absurd (not_accepted x)
    chosen_literals f t (Ok ls) l x next = meets f t ls l (is_complement g.goal (slice_get ls place)) refl x next

    near : IsTrue (is_new_on g.path g.goal) → (b : Bool) → nat_lt (length g.path) d ≡ b → Next P d last gs ms n → Accepted P d last (g ∷ gs) (extension place i ∷ ms)
    near f true c next = chosen_literals f c (literals_of P i) refl (ap (λ b. verdict_after_move n (if b then extended g place (literals_of P i) else Err fault.PathLimit) (behind P d last gs ms n)) (sym c) ∙ e) next
    near f false c next = absurd (not_accepted (ap (λ b. verdict_after_move n (if b then extended g place (literals_of P i) else Err fault.PathLimit) (behind P d last gs ms n)) (sym c) ∙ e))

root-new : (ls : List GroundLiteral) → IsTrue (all_new_open (below [] ls ++ []))
root-new [] = refl
root-new (l ∷ ls) = root-new ls

none-left : (P : Problem) (d : ℕ) (cs : Closings) → IsTrue (closes_open P d [] cs) → moves_of_all cs ≡ []
none-left P d no_closings h = refl
none-left P d (more_closings c cs) h = absurd (true≢false (sym h))

short-at : (P : Problem) (x : Moves) (n : ℕ) → end_verdict P x n ≡ tableau_accepted → IsTrue (strings_are_short P (bare_instances x))
short-at P x n e = by (strings_are_short P (bare_instances x)) e
  where
    by : (b : Bool) → (if b then tableau_accepted else tableau_rejected n fault.StringTooLong) ≡ tableau_accepted → IsTrue b
    by true h = refl
    by false h = absurd (not_accepted h)

pub record ClosedBy (P : Problem) (x : Moves) : Type 0 where
  pub tableau : Tableau
  pub closed : IsTrue (is_closed P x.limit tableau)
  pub moves : tableau_moves tableau x.limit ≡ x

-- a start and closings of its literals make a tableau
made : (P : Problem) (x : Moves) (ls : List GroundLiteral) → IsTrue (is_allowed_instance P (record { selection = x.start.sides; values = x.start.values; literals = ls })) → IsTrue (list_all is_shown ls) → Accepted P x.limit (end_verdict P x) (below [] ls ++ []) x.moves → ClosedBy P x
made P x ls allowed shown r =
    let start : ClauseInstance = record { selection = x.start.sides; values = x.start.values; literals = ls } in
    let s = parted P x.limit [] ls [] r.found.closings r.found.closed in
    let t : Tableau = record { start = start; goals = s.first } in
    let moves : moves_of_all s.first ≡ x.moves = sym (append-nil (moves_of_all s.first)) ∙ ap (λ ms. moves_of_all s.first ++ ms) (sym (none-left P x.limit s.second s.others)) ∙ sym s.moves ∙ r.found.moves in
    let same : tableau_moves t x.limit ≡ x = λ i. record { limit = x.limit; start = x.start; moves = moves i } in
    let short : IsTrue (is_short P t) = sym (same-strings P t x.limit) ∙ ap (λ y. strings_are_short P (bare_instances y)) same ∙ short-at P x r.line r.ended in
    let one = and_from (is_allowed_instance P start) (list_all is_shown ls) allowed shown in
    let two = and_from (is_allowed_instance P start && list_all is_shown ls) (closes_all P x.limit [] ls s.first) one s.closed in
    record { tableau = t; closed = and_from (is_allowed_instance P start && list_all is_shown ls && closes_all P x.limit [] ls s.first) (is_short P t) two short; moves = same }

-- moves that are accepted are those of a closed tableau
pub accepted-closed : (P : Problem) (x : Moves) → tableau_verdict P x ≡ tableau_accepted → ClosedBy P x
accepted-closed P x e = by (literals_of P x.start) refl e
  where
    shown : (ls : List GroundLiteral) → literals_of P x.start ≡ Ok ls → (b : Bool) → list_all is_shown ls ≡ b → (if b then moves_verdict P x.limit (end_verdict P x) (below [] ls) x.moves 6 else tableau_rejected 5 fault.NotPositive) ≡ tableau_accepted → ClosedBy P x
    shown ls l true c h = made P x ls (literals-allowed P x.start ls l) c (find P x.limit (end_verdict P x) (below [] ls ++ []) x.moves 6 (root-new ls) (ap (λ gs. moves_verdict P x.limit (end_verdict P x) gs x.moves 6) (append-nil (below [] ls)) ∙ h))
    shown ls l false c h = absurd (not_accepted h)

    by : (r : Result (List GroundLiteral) TableauFault) → literals_of P x.start ≡ r → start_verdict P x r ≡ tableau_accepted → ClosedBy P x
    by (Err f) l h = absurd (not_accepted h)
    by (Ok ls) l h = shown ls l (list_all is_shown ls) refl h
