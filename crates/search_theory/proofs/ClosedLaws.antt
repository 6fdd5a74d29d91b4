-- A regular tree without open goals whose connections have agreeing labels is a closed tableau.
use Rattle.std.proofs.Common.{◌≡◌, ℕ, List, [], ◌∷◌, ◌++◌, length, remove, true, false, ◌&&◌, IsTrue, refl, sym, ◌∙◌, ap, subst, Option, Some, slice_get, nat_lt, append_assoc, append-nil, take, drop, zero, suc, arith, ap₂, if◌then◌else◌}
use Rattle.std.specs.List.{list_all}
use Rattle.std.specs.Option.{option_map_or}
use Rattle.std.proofs.lemmas.Bool.{false≢true, and_parts, and_from}
use Rattle.plain_laws.proofs.Every.{all-parts}
use Rattle.plain_laws.proofs.Options.{then-some}
use Rattle.calculus.specs.Syntax.{Problem}
use Rattle.calculus.specs.Ground.{GroundLiteral}
use Rattle.calculus.specs.Instances.{ClauseInstance}
use Rattle.calculus.specs.ComputedInstances.{is_instance, is_allowed_instance}
use Rattle.calculus.specs.Tableaux.{Closing, Closings, reduce, extend, Tableau, is_complement, ancestor, is_new_on, closes, closes_all, is_short, is_shown, is_closed, has_unbounded_strings, strings_within, total_steps, instances}
use Rattle.calculus.specs.Space.{instances_in}
use Rattle.calculus.proofs.SpaceLaws.{instances_in-tableau}
use Rattle.calculus.specs.Choices.{start, reduction, extension, GroundChoice, choices_below, choices_of_all, ground_choices, Goal, Growth, is_opposite, goals_on, after_start, grow_at, grow, growth_of, is_within, is_regular}
use Rattle.calculus.proofs.GrowthLaws.{grown_at, is_new_goal, is_below}
use Rattle.calculus.specs.Lists.{closings_tree}
use Rattle.search_theory.specs.Joined.{joins_all, are_joined, closings_by, IsTableauBy, are_short}
use Rattle.search_theory.proofs.LastChoice.{none≢some}
use Rattle.search_theory.proofs.StepLaws.{if-some}

-- ---- what grows keeps its goals and depths

pub record Keeps (x y : Growth) : Type 0 where
  pub more_goals : List Goal
  pub goals : y.all_goals ≡ x.all_goals ++ more_goals
  pub more_depths : List ℕ
  pub depths : y.depths ≡ x.depths ++ more_depths

keeps-nothing : (x : Growth) → Keeps x x
keeps-nothing x = record { more_goals = []; goals = sym (append-nil x.all_goals); more_depths = []; depths = sym (append-nil x.depths) }

keeps-both : (x y z : Growth) → Keeps x y → Keeps y z → Keeps x z
keeps-both x y z h g = record {
  more_goals = h.more_goals ++ g.more_goals;
  goals = g.goals ∙ ap (λ gs. gs ++ g.more_goals) h.goals ∙ append_assoc x.all_goals h.more_goals g.more_goals;
  more_depths = h.more_depths ++ g.more_depths;
  depths = g.depths ∙ ap (λ ns. ns ++ g.more_depths) h.depths ∙ append_assoc x.depths h.more_depths g.more_depths;
}

keeps-same : (x y z : Growth) → y ≡ z → Keeps x y → Keeps x z
keeps-same x y z e h = subst (Keeps x) e h

keeps-once : (P : Problem) (c : GroundChoice) (opened : List Goal) (x y : Growth) → grow_at P c opened x ≡ Some y → Keeps x y
keeps-once P (start i) opened x y e = none≢some y e
keeps-once P (reduction up) [] x y e = none≢some y e
keeps-once P (reduction up) (g ∷ gs) x y e =
    let q = if-some (is_opposite g.literal (ancestor g.path up)) _ y e in
    keeps-same x (record x { open_goals = gs }) y q.1 (record { more_goals = []; goals = sym (append-nil x.all_goals); more_depths = []; depths = sym (append-nil x.depths) })
keeps-once P (extension i place) [] x y e = none≢some y e
keeps-once P (extension i place) (g ∷ gs) x y e =
    let q = if-some (is_instance P i && is_opposite g.literal (slice_get i.literals place)) _ y e in
    subst (Keeps x) q.1 (record { more_goals = goals_on (g.literal ∷ g.path) (remove i.literals place); goals = refl; more_depths = length g.path ∷ []; depths = refl })

pub keeps-all : (P : Problem) (cs : List GroundChoice) (x y : Growth) → grow P cs x ≡ Some y → Keeps x y
keeps-all P [] x y e = let q : x ≡ y = cc e in subst (Keeps x) q (keeps-nothing x)
keeps-all P (c ∷ cs) x y e =
    let (z, first, rest) = then-some (grow P cs) (grow_at P c x.open_goals x) y e in
    keeps-both x z y (keeps-once P c x.open_goals x z first) (keeps-all P cs z y rest)

-- ---- closings for a list of goals

abbrev ClosesEach : Problem → ℕ → List Goal → List Closing → Type 0
ClosesEach P d [] [] = Unit {0}
ClosesEach P d (g ∷ gs) (c ∷ cs) = IsTrue (closes P d g.path g.literal c) × ClosesEach P d gs cs
ClosesEach P d _ _ = ⊥

record Split (P : Problem) (d : ℕ) (front back : List Goal) (cs : List Closing) : Type 0 where
  first : List Closing
  second : List Closing
  all_of_them : cs ≡ first ++ second
  front_closed : ClosesEach P d front first
  back_closed : ClosesEach P d back second

split : (P : Problem) (d : ℕ) (front back : List Goal) (cs : List Closing) → ClosesEach P d (front ++ back) cs → Split P d front back cs
split P d [] back cs h = record { first = []; second = cs; all_of_them = refl; front_closed = tt; back_closed = h }
split P d (g ∷ gs) back [] h = absurd h
split P d (g ∷ gs) back (c ∷ cs) h =
    let s = split P d gs back cs h.1 in
    record { first = c ∷ s.first; second = s.second; all_of_them = ap (λ xs. c ∷ xs) s.all_of_them; front_closed = (h.0, s.front_closed); back_closed = s.back_closed }

all-closed : (P : Problem) (d : ℕ) (path xs : List GroundLiteral) (cs : List Closing) → ClosesEach P d (goals_on path xs) cs → IsTrue (closes_all P d path xs (closings_tree cs))
all-closed P d path [] [] h = refl
all-closed P d path [] (c ∷ cs) h = absurd h
all-closed P d path (x ∷ xs) [] h = absurd h
all-closed P d path (x ∷ xs) (c ∷ cs) h = and_from (closes P d path x c) (closes_all P d path xs (closings_tree cs)) h.0 (all-closed P d path xs cs h.1)

tree-choices : (xs ys : List Closing) → choices_of_all (closings_tree (xs ++ ys)) ≡ choices_of_all (closings_tree xs) ++ choices_of_all (closings_tree ys)
tree-choices [] ys = refl
tree-choices (c ∷ xs) ys = ap (λ zs. choices_below c ++ zs) (tree-choices xs ys) ∙ sym (append_assoc (choices_below c) (choices_of_all (closings_tree xs)) (choices_of_all (closings_tree ys)))

record Parsed (P : Problem) (d : ℕ) (opened : List Goal) (choices : List GroundChoice) : Type 0 where
  closings : List Closing
  are_choices : choices ≡ choices_of_all (closings_tree closings)
  are_built : closings ≡ closings_by choices
  closed : ClosesEach P d opened closings

-- a goal that is closed by a reduction, and one that is closed by an extension
reduced-goal : (P : Problem) (d : ℕ) (g : Goal) (up : ℕ) → IsTrue (is_new_goal g) → IsTrue (is_complement g.literal (ancestor g.path up)) → IsTrue (closes P d g.path g.literal (reduce up))
reduced-goal P d g up n c = and_from (is_new_on g.path g.literal) (is_complement g.literal (ancestor g.path up)) n c

extended-goal : (P : Problem) (d : ℕ) (g : Goal) (i : ClauseInstance) (place : ℕ) (below : Closings) → IsTrue (is_new_goal g) → IsTrue (nat_lt (length g.path) d) → IsTrue (is_allowed_instance P i) → IsTrue (is_complement g.literal (slice_get i.literals place)) → IsTrue (closes_all P d (g.literal ∷ g.path) (remove i.literals place) below) → IsTrue (closes P d g.path g.literal (extend i place below))
extended-goal P d g i place below n w a c b =
    and_from (is_new_on g.path g.literal && nat_lt (length g.path) d && is_allowed_instance P i && is_complement g.literal (slice_get i.literals place)) (closes_all P d (g.literal ∷ g.path) (remove i.literals place) below)
    (and_from (is_new_on g.path g.literal && nat_lt (length g.path) d && is_allowed_instance P i) (is_complement g.literal (slice_get i.literals place))
    (and_from (is_new_on g.path g.literal && nat_lt (length g.path) d) (is_allowed_instance P i)
    (and_from (is_new_on g.path g.literal) (nat_lt (length g.path) d) n w) a) c) b

-- as many closings as goals
each-length : (P : Problem) (d : ℕ) (gs : List Goal) (cs : List Closing) → ClosesEach P d gs cs → length cs ≡ length gs
each-length P d [] [] h = refl
each-length P d [] (c ∷ cs) h = absurd h
each-length P d (g ∷ gs) [] h = absurd h
each-length P d (g ∷ gs) (c ∷ cs) h = ap suc (each-length P d gs cs h.1)

length-goals : (path xs : List GroundLiteral) → length (goals_on path xs) ≡ length xs
length-goals path [] = refl
length-goals path (x ∷ xs) = ap suc (length-goals path xs)

cut-apart : (n : ℕ) (xs ys zs : List Closing) → length xs ≡ n → zs ≡ xs ++ ys → (xs ≡ take n zs) × (ys ≡ drop n zs)
cut-apart n xs ys zs l e = (sym (front n xs ys l) ∙ ap (take n) (sym e), sym (back n xs ys l) ∙ ap (drop n) (sym e))
  where
    front : (n : ℕ) (xs ys : List Closing) → length xs ≡ n → take n (xs ++ ys) ≡ xs
    front zero [] ys l = refl
    front zero (x ∷ xs) ys l = absurd (omega (arith, l))
    front (suc n) [] ys l = absurd (omega (arith, l))
    front (suc n) (x ∷ xs) ys l = ap (λ us. x ∷ us) (front n xs ys (omega (arith, l)))

    back : (n : ℕ) (xs ys : List Closing) → length xs ≡ n → drop n (xs ++ ys) ≡ ys
    back zero [] ys l = refl
    back zero (x ∷ xs) ys l = absurd (omega (arith, l))
    back (suc n) [] ys l = absurd (omega (arith, l))
    back (suc n) (x ∷ xs) ys l = back n xs ys (omega (arith, l))

joined-next : (P : Problem) (cs : List GroundChoice) (o : Option Growth) (z : Growth) → o ≡ Some z → IsTrue (option_map_or (joins_all P cs) o false) → IsTrue (joins_all P cs z)
joined-next P cs o z e h = rw e at h

parse : (P : Problem) (d : ℕ) (cs : List GroundChoice) (opened every : List Goal) (ds : List ℕ) (y : Growth) → grow P cs (grown_at opened every ds) ≡ Some y → y.open_goals ≡ [] → IsTrue (joins_all P cs (grown_at opened every ds)) → IsTrue (list_all is_new_goal y.all_goals) → IsTrue (list_all (is_below d) y.depths) → IsTrue (list_all is_new_goal opened) → Parsed P d opened cs
parse P d [] [] every ds y e o j r w n = record { closings = []; are_choices = refl; are_built = refl; closed = tt }
parse P d [] (g ∷ gs) every ds y e o j r w n = let q : grown_at (g ∷ gs) every ds ≡ y = cc e in let z : g ∷ gs ≡ [] = ap (λ (x : Growth). x.open_goals) q ∙ o in cc z
parse P d (start i ∷ cs) opened every ds y e o j r w n = absurd (false≢true j)
parse P d (reduction up ∷ cs) [] every ds y e o j r w n = absurd (false≢true j)
parse P d (reduction up ∷ cs) (g ∷ gs) every ds y e o j r w n =
    let (z, first, rest) = then-some (grow P cs) (grow_at P (reduction up) (g ∷ gs) (grown_at (g ∷ gs) every ds)) y e in
    let same = (if-some (is_opposite g.literal (ancestor g.path up)) (grown_at gs every ds) z first).1 in
    let js = and_parts (is_complement g.literal (ancestor g.path up)) (option_map_or (joins_all P cs) (grow_at P (reduction up) (g ∷ gs) (grown_at (g ∷ gs) every ds)) false) j in
    let ns = and_parts (is_new_goal g) (list_all is_new_goal gs) n in
    let next = joined-next P cs (grow_at P (reduction up) (g ∷ gs) (grown_at (g ∷ gs) every ds)) z first js.1 in
    let p = parse P d cs gs every ds y (ap (grow P cs) same ∙ rest) o (subst (λ x. IsTrue (joins_all P cs x)) (sym same) next) r w ns.1 in
    record { closings = reduce up ∷ p.closings; are_choices = ap (λ xs. reduction up ∷ xs) p.are_choices; are_built = ap (λ xs. reduce up ∷ xs) p.are_built; closed = (reduced-goal P d g up ns.0 js.0, p.closed) }
parse P d (extension i place ∷ cs) [] every ds y e o j r w n = absurd (false≢true j)
parse P d (extension i place ∷ cs) (g ∷ gs) every ds y e o j r w n =
    let others = remove i.literals place in
    let new = goals_on (g.literal ∷ g.path) others in
    let here = grown_at (g ∷ gs) every ds in
    let (z, first, rest) = then-some (grow P cs) (grow_at P (extension i place) (g ∷ gs) here) y e in
    let same = (if-some (is_instance P i && is_opposite g.literal (slice_get i.literals place)) (grown_at (new ++ gs) (every ++ new) (ds ++ length g.path ∷ [])) z first).1 in
    let js = and_parts (is_allowed_instance P i && is_complement g.literal (slice_get i.literals place)) (option_map_or (joins_all P cs) (grow_at P (extension i place) (g ∷ gs) here) false) j in
    let ac = and_parts (is_allowed_instance P i) (is_complement g.literal (slice_get i.literals place)) js.0 in
    let ns = and_parts (is_new_goal g) (list_all is_new_goal gs) n in
    let next = joined-next P cs (grow_at P (extension i place) (g ∷ gs) here) z first js.1 in
    let grown = ap (grow P cs) same ∙ rest in
    let k = keeps-all P cs (grown_at (new ++ gs) (every ++ new) (ds ++ length g.path ∷ [])) y grown in
    let goals_new = (all-parts is_new_goal every new (all-parts is_new_goal (every ++ new) k.more_goals (subst (λ xs. IsTrue (list_all is_new_goal xs)) k.goals r)).0).1 in
    let near = (and_parts (nat_lt (length g.path) d) true (all-parts (is_below d) ds (length g.path ∷ []) (all-parts (is_below d) (ds ++ length g.path ∷ []) k.more_depths (subst (λ xs. IsTrue (list_all (is_below d) xs)) k.depths w)).0).1).0 in
    let p = parse P d cs (new ++ gs) (every ++ new) (ds ++ length g.path ∷ []) y grown o (subst (λ x. IsTrue (joins_all P cs x)) (sym same) next) r w (both new gs goals_new ns.1) in
    let s = split P d new gs p.closings p.closed in
    let tree = closings_tree s.first in
    let long : length s.first ≡ length others = each-length P d new s.first s.front_closed ∙ length-goals (g.literal ∷ g.path) others in
    let parts = cut-apart (length others) s.first s.second p.closings long s.all_of_them in
    record {
      closings = extend i place tree ∷ s.second;
      are_choices = ap (λ xs. extension i place ∷ xs) (p.are_choices ∙ ap (λ xs. choices_of_all (closings_tree xs)) s.all_of_them ∙ tree-choices s.first s.second);
      are_built = ap₂ (λ xs ys. extend i place (closings_tree xs) ∷ ys) (parts.0 ∙ ap (take (length others)) p.are_built) (parts.1 ∙ ap (drop (length others)) p.are_built);
      closed = (extended-goal P d g i place tree ns.0 near ac.0 ac.1 (all-closed P d (g.literal ∷ g.path) others s.first s.front_closed), s.back_closed);
    }
  where
    both : (xs ys : List Goal) → IsTrue (list_all is_new_goal xs) → IsTrue (list_all is_new_goal ys) → IsTrue (list_all is_new_goal (xs ++ ys))
    both [] ys a b = b
    both (x ∷ xs) ys a b = let q = and_parts (is_new_goal x) (list_all is_new_goal xs) a in and_from (is_new_goal x) (list_all is_new_goal (xs ++ ys)) q.0 (both xs ys q.1 b)

-- ---- the tableau

-- a tableau that is built by these choices
pub record IsTableauOf (P : Problem) (d : ℕ) (gs : List GroundChoice) : Type 0 where
  pub tableau : Tableau
  pub choices : ground_choices tableau ≡ gs
  pub is_built : IsTableauBy gs tableau
  pub closed : IsTrue (is_closed P d tableau)

-- in each logic, where the strings are short
pub closed-by_short_growth : (P : Problem) (d : ℕ) (gs : List GroundChoice) (x : Growth) → IsTrue (are_short P gs) → growth_of P gs ≡ Some x → x.open_goals ≡ [] → IsTrue (are_joined P gs) → IsTrue (is_regular x) → IsTrue (is_within d x) → IsTableauOf P d gs
closed-by_short_growth P d [] x b e o j r w = none≢some x e
closed-by_short_growth P d (reduction up ∷ cs) x b e o j r w = none≢some x e
closed-by_short_growth P d (extension i place ∷ cs) x b e o j r w = none≢some x e
closed-by_short_growth P d (start i ∷ cs) x b e o j r w =
    let goals = goals_on [] i.literals in
    let (z, first, rest) = then-some (grow P cs) (after_start P i) x e in
    let q = if-some (is_instance P i && list_all is_shown i.literals) (grown_at goals goals []) z first in
    let shown = (and_parts (is_instance P i) (list_all is_shown i.literals) q.0).1 in
    let js = and_parts (is_allowed_instance P i) (option_map_or (joins_all P cs) (after_start P i) false) j in
    let next = joined-next P cs (after_start P i) z first js.1 in
    let grown = ap (grow P cs) q.1 ∙ rest in
    let k = keeps-all P cs (grown_at goals goals []) x grown in
    let goals_new = (all-parts is_new_goal goals k.more_goals (subst (λ xs. IsTrue (list_all is_new_goal xs)) k.goals r)).0 in
    let p = parse P d cs goals goals [] x grown o (subst (λ y. IsTrue (joins_all P cs y)) (sym q.1) next) r w goals_new in
    let t : Tableau = record { start = i; goals = closings_tree p.closings } in
    record {
      tableau = t;
      choices = ap (λ ds. start i ∷ ds) (sym p.are_choices);
      is_built = (λ k. record { start = i; goals = closings_tree (p.are_built k) });
      closed =
          and_from (is_allowed_instance P i && list_all is_shown i.literals && closes_all P d [] i.literals t.goals) (is_short P t)
          (and_from (is_allowed_instance P i && list_all is_shown i.literals) (closes_all P d [] i.literals t.goals)
          (and_from (is_allowed_instance P i) (list_all is_shown i.literals) js.0 shown)
          (all-closed P d [] i.literals p.closings p.closed))
          (short t (ap (λ ds. start i ∷ ds) (sym p.are_choices)));
    }
  where
    short : (t : Tableau) → ground_choices t ≡ start i ∷ cs → IsTrue (is_short P t)
    short t same =
        let is : instances_in (start i ∷ cs) ≡ instances t = ap instances_in (sym same) ∙ instances_in-tableau t in
        subst (λ xs. IsTrue (if has_unbounded_strings P.setting.logic then list_all (strings_within (total_steps P xs)) xs else true)) is b
