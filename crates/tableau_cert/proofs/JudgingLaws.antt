-- The judgement of moves whose instances are found, goal by goal.
use Rattle.std.proofs.Common.{◌≡◌, ℕ, suc, ◌+◌, ◌-◌, ◌<◌, ◌≤◌, List, [], ◌∷◌, ◌++◌, length, map, reverse, take, drop, get_or, Bool, true, false, not, ◌&&◌, ◌||◌, ◌==◌, Some, Result, Ok, Err, refl, sym, ◌∙◌, ap, arith, subst, true≢false, if◌then◌else◌, nat_lt, slice_get, remove}
use Rattle.std.specs.List.{list_all, list_any}
use Rattle.std.proofs.lemmas.List.{reverse-append, reverse-reverse, length-reverse, get_or-reverse, length-map, length-append, map-append, drop_all}
use Rattle.std.proofs.lemmas.List.Sorted.{IsPermutation-reverse, list_any-IsPermutation}
use Rattle.std.proofs.lemmas.Bool.Decides.{nat_tests}
use Rattle.plain_laws.proofs.Places.{items-next, take-longer, take-length, take-less, take-whole}
use Rattle.plain_laws.proofs.Lists.{no-items}
use Rattle.tableau_core.proofs.PathLaws.{ancestor-at}
use Rattle.calculus.specs.declared.fault.TableauFault.{TableauFault}
use Rattle.calculus.specs.declared.fault.TableauFault.TheVariants as fault
use Rattle.calculus.specs.Ground.{GroundLiteral}
use Rattle.calculus.specs.Equality.{literal_eq}
use Rattle.calculus.specs.Syntax.{Problem}
use Rattle.calculus.specs.Tableaux.{ancestor, is_complement, is_new_on, is_shown}
use Rattle.calculus.specs.TableauText.{Chosen, Move, reduction, extension, Moves, literals_of, OpenGoal, below, extended, close_by, verdict_after_move, moves_verdict, TableauVerdict, tableau_rejected, end_verdict as text_end, start_verdict, tableau_verdict, strings_are_short, bare_instances}
use Rattle.formula_core.specs.GroundLists.{GroundList}
use Rattle.tableau_core.specs.Numbered.LiteralView.{the_literal}
use Rattle.tableau_core.specs.declared.literal.GroundLiteral as numbered
use Rattle.tableau_cert.specs.Resolving.{Closer, closer_of, with_literals, found_of}
use Rattle.tableau_cert.specs.Gathering.{AreNormalLiterals}
use Rattle.tableau_cert.specs.Judging.{literals_in, closed_by, closers_verdict, last_verdict, resolved_verdict, the_path, the_open, AreNested, AreNormalGoals, goal_of, IsNext, end_verdict}
use Rattle.tableau_cert.proofs.NormalLaws.{next-normal}
use Rattle.tableau_cert.specs.declared.judging.OpenGoal as program

-- ---- the judgement is that of the moves

with-literals : (i : Chosen) (r : Result (List GroundLiteral) TableauFault) → literals_in (with_literals i r) ≡ r
with-literals i (Err f) = refl
with-literals i (Ok ls) = refl

closed-by : (P : Problem) (limit : ℕ) (g : OpenGoal) (m : Move) → closed_by limit g (closer_of P m) ≡ close_by P limit g m
closed-by P limit g (reduction k) = refl
closed-by P limit g (extension place i) = ap (λ r. if nat_lt (length g.path) limit then extended g place r else Err fault.PathLimit) (with-literals i (literals_of P i))

moves-judged : (P : Problem) (limit : ℕ) (last : ℕ → TableauVerdict) (gs : List OpenGoal) (ms : List Move) (n : ℕ) → closers_verdict limit last gs (map (closer_of P) ms) n ≡ moves_verdict P limit last gs ms n
unfolding closers_verdict
moves-judged P limit last [] [] n = refl
moves-judged P limit last (g ∷ gs) [] n = refl
moves-judged P limit last [] (m ∷ ms) n = refl
moves-judged P limit last (g ∷ gs) (m ∷ ms) n =
    ap (λ r. verdict_after_move n r (λ new. closers_verdict limit last (new ++ gs) (map (closer_of P) ms) (suc n))) (closed-by P limit g m)
    ∙ by (close_by P limit g m) (λ new. moves-judged P limit last (new ++ gs) ms (suc n))
  where
    by : (r : Result (List OpenGoal) TableauFault) → ((new : List OpenGoal) → closers_verdict limit last (new ++ gs) (map (closer_of P) ms) (suc n) ≡ moves_verdict P limit last (new ++ gs) ms (suc n)) → verdict_after_move n r (λ new. closers_verdict limit last (new ++ gs) (map (closer_of P) ms) (suc n)) ≡ verdict_after_move n r (λ new. moves_verdict P limit last (new ++ gs) ms (suc n))
    by (Err f) h = refl
    by (Ok new) h = h new

pub judged : (P : Problem) (x : Moves) → resolved_verdict x.limit (found_of P x.start) (map (closer_of P) x.moves) (strings_are_short P (bare_instances x)) ≡ tableau_verdict P x
judged P x = by (literals_of P x.start)
  where
    by : (r : Result (List GroundLiteral) TableauFault) → resolved_verdict x.limit (with_literals x.start r) (map (closer_of P) x.moves) (strings_are_short P (bare_instances x)) ≡ start_verdict P x r
    by (Err f) = refl
    by (Ok ls) = ap (λ v. if list_all is_shown ls then v else tableau_rejected 5 fault.NotPositive) (moves-judged P x.limit (text_end P x) (below [] ls) x.moves 6)

-- ---- one move

pub wrong-next : (limit : ℕ) (last : ℕ → TableauVerdict) (g : OpenGoal) (gs : List OpenGoal) (c : Closer) (cs : List Closer) (n : ℕ) (f : TableauFault) → closed_by limit g c ≡ Err f → closers_verdict limit last (g ∷ gs) (c ∷ cs) n ≡ tableau_rejected n f
unfolding closers_verdict
wrong-next limit last g gs c cs n f e = ap (λ r. verdict_after_move n r (λ new. closers_verdict limit last (new ++ gs) cs (suc n))) e

pub right-next : (limit : ℕ) (last : ℕ → TableauVerdict) (g : OpenGoal) (gs : List OpenGoal) (c : Closer) (cs : List Closer) (n : ℕ) (new : List OpenGoal) → closed_by limit g c ≡ Ok new → closers_verdict limit last (g ∷ gs) (c ∷ cs) n ≡ closers_verdict limit last (new ++ gs) cs (suc n)
unfolding closers_verdict
right-next limit last g gs c cs n new e = ap (λ r. verdict_after_move n r (λ new. closers_verdict limit last (new ++ gs) cs (suc n))) e

pub none-open : (limit : ℕ) (last : ℕ → TableauVerdict) (c : Closer) (cs : List Closer) (n : ℕ) → closers_verdict limit last [] (c ∷ cs) n ≡ tableau_rejected n fault.AllClosed
unfolding closers_verdict
none-open limit last c cs n = refl

pub at-end : (limit : ℕ) (short : Bool) (gs : List OpenGoal) (n : ℕ) (b : Bool) → b ≡ (length gs == 0) → closers_verdict limit (last_verdict short) gs [] n ≡ end_verdict b short n
unfolding closers_verdict
at-end limit short [] n b e = ap (λ x. end_verdict x short n) (sym e)
at-end limit short (g ∷ gs) n b e = let z : (length (g ∷ gs) == 0) ≡ false = grind (arith, nat_tests) in ap (λ x. end_verdict x short n) (sym (e ∙ z))

-- ---- the path is cut back, and goes on by the goal

module _ (ls : List GroundList) (path : List numbered.GroundLiteral) (x : numbered.GroundLiteral) (k : ℕ) (room : k ≤ length path) where
  abbrev longer : List numbered.GroundLiteral
  longer = take k path ++ x ∷ []

  longer-length : length longer ≡ suc k
  longer-length = let a = length-append (take k path) (x ∷ []) in let b = take-length k path room in omega (arith, a, b)

  others-stay : (j : ℕ) (gs : List program.OpenGoal) → j ≤ k → AreNested j gs → map (the_open ls longer) gs ≡ map (the_open ls path) gs
  others-stay j [] h n = refl
  others-stay j (g ∷ gs) h n =
      let e = take-longer g.depth (take k path) (x ∷ []) (let b = take-length k path room in omega (arith, b, h, n.0)) ∙ take-less g.depth k path (omega (arith, h, n.0)) in
      let r = others-stay g.depth gs (omega (arith, h, n.0)) n.1 in
      λ i. record { path = map (the_literal ls) (reverse (e i)); goal = the_literal ls g.literal } ∷ r i

  new-path : the_path ls longer ≡ the_literal ls x ∷ the_path ls (take k path)
  new-path = ap (map (the_literal ls)) (reverse-append (take k path) (x ∷ []))

  news : (goals : List numbered.GroundLiteral) → map (the_open ls longer) (map (goal_of (length longer)) goals) ≡ below (the_literal ls x ∷ the_path ls (take k path)) (map (the_literal ls) goals)
  news [] = refl
  news (g ∷ goals) =
      let e = ap (λ p. the_path ls p) (take-whole (length longer) longer refl) ∙ new-path in
      let r = news goals in
      λ i. record { path = e i; goal = the_literal ls g } ∷ r i

  nested-new : (goals : List numbered.GroundLiteral) (gs : List program.OpenGoal) (j : ℕ) → suc k ≤ j → AreNested k gs → AreNested j (map (goal_of (suc k)) goals ++ gs)
  nested-new [] [] j h n = refl
  nested-new [] (g ∷ gs) j h n = (omega (arith, h, n.0), n.1)
  nested-new (g ∷ goals) gs j h n = (h, nested-new goals gs (suc k) (omega arith) n)

pub next : (ls : List GroundList) (path : List numbered.GroundLiteral) (goals : List program.OpenGoal) (g : program.OpenGoal) (below_it long : List numbered.GroundLiteral) (more : List program.OpenGoal) (r : Result (List OpenGoal) TableauFault) → AreNested (length path) (g ∷ reverse goals) → long ≡ take g.depth path ++ g.literal ∷ [] → more ≡ goals ++ reverse (map (goal_of (length long)) below_it) → Ok (below (the_literal ls g.literal ∷ the_path ls (take g.depth path)) (map (the_literal ls) below_it)) ≡ r → AreNormalGoals ls path (g ∷ goals) → AreNormalLiterals ls below_it → IsNext ls ls path goals long more r
next ls path goals g below_it long more r n e h q kept below_kept =
    let k = g.depth in
    let l = longer ls path g.literal k n.0 in
    let back = ap reverse h ∙ reverse-append goals (reverse (map (goal_of (length long)) below_it)) ∙ ap (λ xs. xs ++ reverse goals) (reverse-reverse (map (goal_of (length long)) below_it)) in
    record {
      new = below (the_literal ls g.literal ∷ the_path ls (take k path)) (map (the_literal ls) below_it);
      closes = sym q;
      opened =
          ap (map (the_open ls long)) back
          ∙ map-append (the_open ls long) (map (goal_of (length long)) below_it) (reverse goals)
          ∙ (λ i. map (the_open ls (e i)) (map (goal_of (length (e i))) below_it) ++ map (the_open ls (e i)) (reverse goals))
          ∙ (λ i. news ls path g.literal k n.0 below_it i ++ others-stay ls path g.literal k n.0 k (reverse goals) (omega arith) n.1 i);
      nested = subst (AreNested (length long)) (sym (back ∙ ap (λ m. map (goal_of m) below_it ++ reverse goals) (ap length e ∙ longer-length ls path g.literal k n.0))) (nested-new ls path g.literal k n.0 below_it (reverse goals) (length long) (let d = ap length e ∙ longer-length ls path g.literal k n.0 in omega (arith, d)) n.1);
      normal = next-normal ls path goals g below_it long more (length long) kept below_kept e h;
    }

-- the last goal comes next
pub popped-view : (ls : List GroundList) (path : List numbered.GroundLiteral) (all rest : List program.OpenGoal) (g : program.OpenGoal) → all ≡ rest ++ g ∷ [] → map (the_open ls path) (reverse all) ≡ the_open ls path g ∷ map (the_open ls path) (reverse rest)
popped-view ls path all rest g e = ap (λ xs. map (the_open ls path) (reverse xs)) e ∙ ap (map (the_open ls path)) (reverse-append rest (g ∷ []))

pub popped-nested : (k : ℕ) (all rest : List program.OpenGoal) (g : program.OpenGoal) → all ≡ rest ++ g ∷ [] → AreNested k (reverse all) → AreNested k (g ∷ reverse rest)
popped-nested k all rest g e n = subst (AreNested k) (ap reverse e ∙ reverse-append rest (g ∷ [])) n

-- ---- regularity and ancestors, with the nearest goal at the end of the path

any-map : {X Y : Type 0} (p : Y → Bool) (f : X → Y) (xs : List X) → list_any p (map f xs) ≡ list_any (λ x. p (f x)) xs
any-map p f [] = refl
any-map p f (x ∷ xs) = ap (λ b. p (f x) || b) (any-map p f xs)

any-reverse : {X : Type 0} (p : X → Bool) (xs : List X) → list_any p (reverse xs) ≡ list_any p xs
any-reverse p xs = sym (list_any-IsPermutation p xs (reverse xs) (IsPermutation-reverse xs))

new-turned : (ls : List GroundList) (path : List numbered.GroundLiteral) (x : GroundLiteral) → is_new_on (map (the_literal ls) path) x ≡ is_new_on (the_path ls path) x
new-turned ls path x = ap not (any-map (literal_eq x) (the_literal ls) path ∙ sym (any-reverse (λ y. literal_eq x (the_literal ls y)) path) ∙ sym (any-map (literal_eq x) (the_literal ls) (reverse path)))

new-both : (a b : Bool) → (not (a || false) && not b) ≡ not (a || b)
new-both true b = refl
new-both false b = refl

pub new-below : (ls : List GroundList) (path : List numbered.GroundLiteral) (g x : GroundLiteral) (a b : Bool) → a ≡ is_new_on (g ∷ []) x → b ≡ is_new_on (map (the_literal ls) path) x → (a && b) ≡ is_new_on (g ∷ the_path ls path) x
new-below ls path g x a b e h = (λ i. e i && (h ∙ new-turned ls path x) i) ∙ new-both (literal_eq x g) (list_any (literal_eq x) (the_path ls path))

pub at-ancestor : (ls : List GroundList) (path : List numbered.GroundLiteral) (up n : ℕ) (x d : numbered.GroundLiteral) → 0 < up → up ≤ length path → n ≡ length path - up → x ≡ get_or path n d → ancestor (the_path ls path) up ≡ Some (the_literal ls x)
at-ancestor ls path up n x d p h e q =
    let r = length-reverse path in
    ancestor-at (the_literal ls) (reverse path) up x d p (omega (arith, p, h, r)) (q ∙ ap (λ k. get_or path k d) (e ∙ same (length path) up p h) ∙ sym (get_or-reverse path (up - 1) d (omega (arith, p, h))))
  where
    same : (l up : ℕ) → 0 < up → up ≤ l → l - up ≡ l - 1 - (up - 1)
    same l up p h = omega arith

pub new-then : (ls : List GroundList) (path : List numbered.GroundLiteral) (g x : GroundLiteral) (a b : Bool) → a ≡ is_new_on (g ∷ []) x → a ≡ true → b ≡ is_new_on (map (the_literal ls) path) x → b ≡ is_new_on (g ∷ the_path ls path) x
new-then ls path g x a b e t h = ap (λ y. y && b) (sym t) ∙ new-below ls path g x a b e h

pub new-else : (ls : List GroundList) (path : List numbered.GroundLiteral) (g x : GroundLiteral) (a : Bool) → a ≡ is_new_on (g ∷ []) x → a ≡ false → a ≡ is_new_on (g ∷ the_path ls path) x
new-else ls path g x a e t = by a (is_new_on (map (the_literal ls) path) x) (is_new_on (g ∷ the_path ls path) x) t (new-below ls path g x a (is_new_on (map (the_literal ls) path) x) e refl)
  where
    by : (a b c : Bool) → a ≡ false → (a && b) ≡ c → a ≡ c
    by false b c t h = h
    by true b c t h = absurd (true≢false t)

-- ---- the goals below a goal that an instance closes

pub irregular : (g : OpenGoal) (place : ℕ) (all rest : List GroundLiteral) (a b : Bool) (r : Result (List OpenGoal) TableauFault) → a ≡ is_complement g.goal (slice_get all place) → a ≡ true → b ≡ list_all (is_new_on (g.goal ∷ g.path)) rest → b ≡ false → rest ≡ remove all place → r ≡ Err fault.NotRegular → r ≡ extended g place (Ok all)
irregular g place all rest a b r e t h f q o =
    o ∙ sym (
    ap (λ x. if not x then Err fault.NoConnection else (if list_all (is_new_on (g.goal ∷ g.path)) (remove all place) then Ok (below (g.goal ∷ g.path) (remove all place)) else Err fault.NotRegular)) (sym e ∙ t)
    ∙ ap (λ x. if x then Ok (below (g.goal ∷ g.path) (remove all place)) else Err fault.NotRegular) (ap (list_all (is_new_on (g.goal ∷ g.path))) (sym q) ∙ sym h ∙ f))

pub regular : (g : OpenGoal) (place : ℕ) (all rest : List GroundLiteral) (a b : Bool) (r : Result (List OpenGoal) TableauFault) → a ≡ is_complement g.goal (slice_get all place) → a ≡ true → b ≡ list_all (is_new_on (g.goal ∷ g.path)) rest → b ≡ true → rest ≡ remove all place → r ≡ Ok (below (g.goal ∷ g.path) rest) → r ≡ extended g place (Ok all)
regular g place all rest a b r e t h f q o =
    o ∙ ap (λ xs. Ok (below (g.goal ∷ g.path) xs)) q ∙ sym (
    ap (λ x. if not x then Err fault.NoConnection else (if list_all (is_new_on (g.goal ∷ g.path)) (remove all place) then Ok (below (g.goal ∷ g.path) (remove all place)) else Err fault.NotRegular)) (sym e ∙ t)
    ∙ ap (λ x. if x then Ok (below (g.goal ∷ g.path) (remove all place)) else Err fault.NotRegular) (ap (list_all (is_new_on (g.goal ∷ g.path))) (sym q) ∙ sym h ∙ f))

-- ---- the loop over the moves

module _ {X : Type 0} (f : X → Closer) (ls : List GroundList) (limit : ℕ) (short : Bool) (path : List numbered.GroundLiteral) (goals : List program.OpenGoal) (cs : List X) (i : ℕ) (v : TableauVerdict) where
  abbrev opened : List OpenGoal
  opened = map (the_open ls path) (reverse goals)

  abbrev Holds : Type 0
  Holds = closers_verdict limit (last_verdict short) opened (map f (drop i cs)) (i + 6) ≡ v

  pub loop-none : (n : ℕ) (c d : X) → Holds → n ≡ i + 6 → length goals ≡ 0 → i < length cs → c ≡ get_or cs i d → tableau_rejected n fault.AllClosed ≡ v
  loop-none n c d h m e l q = ap (λ k. tableau_rejected k fault.AllClosed) m ∙ sym (none-open limit (last_verdict short) (f c) (map f (drop (i + 1) cs)) (i + 6)) ∙ (λ j. closers_verdict limit (last_verdict short) (map (the_open ls path) (reverse (sym (no-items goals e) j))) (map f (sym (items-next cs i c d l q) j)) (i + 6)) ∙ h

  pub loop-wrong : (n : ℕ) (rest : List program.OpenGoal) (g : program.OpenGoal) (c d : X) (w : TableauFault) → Holds → n ≡ i + 6 → goals ≡ rest ++ g ∷ [] → i < length cs → c ≡ get_or cs i d → closed_by limit (the_open ls path g) (f c) ≡ Err w → tableau_rejected n w ≡ v
  loop-wrong n rest g c d w h m e l q k = ap (λ x. tableau_rejected x w) m ∙ sym (wrong-next limit (last_verdict short) (the_open ls path g) (map (the_open ls path) (reverse rest)) (f c) (map f (drop (i + 1) cs)) (i + 6) w k) ∙ (λ j. closers_verdict limit (last_verdict short) (sym (popped-view ls path goals rest g e) j) (map f (sym (items-next cs i c d l q) j)) (i + 6)) ∙ h

  pub loop-next : (grown : List GroundList) (rest more : List program.OpenGoal) (g : program.OpenGoal) (long : List numbered.GroundLiteral) (c d : X) → Holds → goals ≡ rest ++ g ∷ [] → i < length cs → c ≡ get_or cs i d → IsNext ls grown path rest long more (closed_by limit (the_open ls path g) (f c)) → closers_verdict limit (last_verdict short) (map (the_open grown long) (reverse more)) (map f (drop (i + 1) cs)) (i + 1 + 6) ≡ v
  loop-next grown rest more g long c d h e l q k =
      (let s : i + 1 + 6 ≡ suc (i + 6) = omega arith in λ j. closers_verdict limit (last_verdict short) (k.opened j) (map f (drop (i + 1) cs)) (s j))
      ∙ sym (right-next limit (last_verdict short) (the_open ls path g) (map (the_open ls path) (reverse rest)) (f c) (map f (drop (i + 1) cs)) (i + 6) k.new k.closes)
      ∙ (λ j. closers_verdict limit (last_verdict short) (sym (popped-view ls path goals rest g e) j) (map f (sym (items-next cs i c d l q) j)) (i + 6))
      ∙ h

  pub loop-end : (n : ℕ) (b : Bool) → Holds → length cs ≤ i → n ≡ i + 6 → b ≡ (length goals == 0) → end_verdict b short n ≡ v
  loop-end n b h l m e =
      ap (end_verdict b short) m
      ∙ sym (at-end limit short opened (i + 6) b (e ∙ ap (λ k. k == 0) (sym (length-map (reverse goals) (the_open ls path) ∙ length-reverse goals))))
      ∙ ap (λ xs. closers_verdict limit (last_verdict short) opened (map f xs) (i + 6)) (sym (drop_all i cs l))
      ∙ h

pub loop-begins : (ls : List GroundList) (goals : List numbered.GroundLiteral) (begun : List program.OpenGoal) → begun ≡ reverse (map (goal_of 0) goals) → map (the_open ls []) (reverse begun) ≡ below [] (map (the_literal ls) goals)
loop-begins ls goals begun e = ap (λ xs. map (the_open ls []) (reverse xs)) e ∙ ap (map (the_open ls [])) (reverse-reverse (map (goal_of 0) goals)) ∙ by goals
  where
    by : (goals : List numbered.GroundLiteral) → map (the_open ls []) (map (goal_of 0) goals) ≡ below [] (map (the_literal ls) goals)
    by [] = refl
    by (g ∷ goals) = ap (λ xs. record { path = []; goal = the_literal ls g } ∷ xs) (by goals)

pub nested-begins : (goals : List numbered.GroundLiteral) (begun : List program.OpenGoal) → begun ≡ reverse (map (goal_of 0) goals) → AreNested 0 (reverse begun)
nested-begins goals begun e = subst (AreNested 0) (sym (ap reverse e ∙ reverse-reverse (map (goal_of 0) goals))) (by goals)
  where
    by : (goals : List numbered.GroundLiteral) → AreNested 0 (map (goal_of 0) goals)
    by [] = refl
    by (g ∷ goals) = (omega arith, by goals)
