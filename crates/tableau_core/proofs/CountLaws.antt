-- Closed goals, with what is counted of their instances.
use Rattle.std.specs.Prelude.{◌≡◌, ℕ, zero, suc, ◌+◌, ◌<◌, ◌≤◌, max, List, [], ◌∷◌, ◌++◌, length, Bool, true, false, ◌&&◌, Option, Some, None, nat_lt, slice_get, remove, if◌then◌else◌, map, drop}
use Rattle.std.proofs.Common.{refl, ap, sym, ◌∙◌, arith, get_or}
use Rattle.std.proofs.lemmas.List.{length-map}
use Rattle.std.proofs.lemmas.List.Sums.{sum_by-cons, sum_by-append}
use Rattle.plain_laws.proofs.Places.{drop-end}
use Rattle.plain_laws.proofs.Options.{some-if}
use Rattle.tableau_core.proofs.CloseLaws.{same-some}
use Rattle.calculus.specs.ComputedInstances.{is_allowed_instance, modal_steps}
use Rattle.calculus.specs.Ground.{GroundLiteral}
use Rattle.calculus.specs.Instances.{ClauseInstance}
use Rattle.calculus.specs.Syntax.{Problem}
use Rattle.calculus.specs.Tableaux.{Closing, Closings, reduce, extend, no_closings, more_closings, closes, closes_all, instances_below, instances_of_all, is_complement, is_new_on, ancestor, total_steps}
use Rattle.calculus.specs.Lists.{closings_tree}
use Rattle.tableau_core.specs.Counted.{longest_string, longest_of, and_more, counted, closed_one, closed_all, extends, steps_if_extends}
use Rattle.tableau_core.specs.Walks.{capped, steps_if_allowed}
use Rattle.tableau_core.specs.declared.count.Count.{Count}

abbrev pub no_more : ℕ
no_more = 18446744073709551616

-- counts are equal by their parts
pub same-count : (m n : Count) → m.steps ≡ n.steps → m.longest ≡ n.longest → m ≡ n
same-count m n e h = λ i. record { steps = e i; longest = h i }

and-nothing : (n : Count) → n.steps < no_more → n ≡ and_more n 0 0
and-nothing n h = let e : n.steps ≡ capped (n.steps + 0) = omega arith in let w : n.longest ≡ max n.longest 0 = omega arith in same-count n (and_more n 0 0) e w

pub counted-then : (n : Count) → n.steps < no_more → Some n ≡ counted true n 0 0
counted-then n h = ap (λ x. Some x) (and-nothing n h)

pub counted-if : (b : Bool) (n : Count) → n.steps < no_more → b ≡ true → Some n ≡ counted b n 0 0
counted-if true n h e = counted-then n h
counted-if false n h e = cc

pub counted-else : (b : Bool) (n : Count) (k w : ℕ) → b ≡ false → None ≡ counted b n k w
counted-else true n k w e = cc
counted-else false n k w e = refl

-- a place where a complement stands is inside the list
some-inside : (goal : GroundLiteral) (xs : List GroundLiteral) (k : ℕ) → is_complement goal (slice_get xs k) ≡ true → k < length xs
some-inside goal [] zero e = cc
some-inside goal [] (suc k) e = cc
some-inside goal (x ∷ xs) zero e = omega arith
some-inside goal (x ∷ xs) (suc k) e = let h = some-inside goal xs k e in omega arith

and-last : (a b c d : Bool) → (a && b && c && d) ≡ true → d ≡ true
and-last true true true d e = e
and-last true true false d e = cc
and-last true false c d e = cc
and-last false b c d e = cc

allowed-then : (a b c m : Bool) (o : Option ℕ) (k : ℕ) → (a && b && m) ≡ true → o ≡ (if c then Some k else None) → o ≡ (if a && b && c && m then Some k else None)
allowed-then true true true true o k e h = h
allowed-then true true false true o k e h = h
allowed-then true true c false o k e h = cc
allowed-then true false c m o k e h = cc
allowed-then false b c m o k e h = cc

allowed-not : (a b c m : Bool) (k : ℕ) → (a && b && m) ≡ false → None ≡ (if a && b && c && m then Some k else None)
allowed-not true true true true k e = cc
allowed-not true true true false k e = refl
allowed-not true true false m k e = refl
allowed-not true false c m k e = refl
allowed-not false b c m k e = refl

-- what is counted in two parts
twice : (n : Count) (k t w v : ℕ) → and_more (and_more n k w) t v ≡ and_more n (k + t) (max w v)
twice n k t w v = let e : capped (capped (n.steps + k) + t) ≡ capped (n.steps + (k + t)) = omega arith in let h : max (max n.longest w) v ≡ max n.longest (max w v) = omega arith in same-count _ _ e h

capped-first : (n : Count) (k w : ℕ) → and_more n (capped k) w ≡ and_more n k w
capped-first n k w = let e : capped (n.steps + capped k) ≡ capped (n.steps + k) = omega arith in same-count _ _ e refl

longest-append : (is js : List ClauseInstance) → longest_of (is ++ js) ≡ max (longest_of is) (longest_of js)
longest-append [] js = omega arith
longest-append (i ∷ is) js = let h = longest-append is js in omega arith

counted-then-more : (b c : Bool) (n m : Count) (k own t w v : ℕ) → Some own ≡ (if b then Some (capped k) else None) → m ≡ and_more n own w → counted c m t v ≡ counted (b && c) n (k + t) (max w v)
counted-then-more true true n m k own t w v e h = let q : own ≡ capped k = cc in ap (λ x. Some x) (ap (λ x. and_more x t v) (h ∙ ap (λ x. and_more n x w) q ∙ capped-first n k w) ∙ twice n k t w v)
counted-then-more true false n m k own t w v e h = refl
counted-then-more false c n m k own t w v e h = cc

counted-both : (a b : Bool) (n m : Count) (k t w v : ℕ) → Some m ≡ counted a n k w → counted b m t v ≡ counted (a && b) n (k + t) (max w v)
counted-both true true n m k t w v e = let q = same-some m (and_more n k w) e in ap (λ x. Some x) (ap (λ x. and_more x t v) q ∙ twice n k t w v)
counted-both true false n m k t w v e = refl
counted-both false b n m k t w v e = cc

counted-small : (b : Bool) (n m : Count) (k w : ℕ) → Some m ≡ counted b n k w → m.steps < no_more
counted-small true n m k w e = let q : m.steps ≡ capped (n.steps + k) = ap (λ (x : Count). x.steps) (same-some m (and_more n k w) e) in omega arith
counted-small false n m k w e = cc

counted-not : (a b : Bool) (n : Count) (k t w v : ℕ) → None ≡ counted a n k w → None ≡ counted (a && b) n t v
counted-not true b n k t w v e = cc
counted-not false b n k t w v e = refl

none-not : (b c : Bool) (n : Count) (k t v : ℕ) → None ≡ (if b then Some k else None) → None ≡ counted (b && c) n t v
none-not true c n k t v e = cc
none-not false c n k t v e = refl

module _ (P : Problem) (d : ℕ) (path : List GroundLiteral) where
  -- what an extension gives where the literals are right
  pub extends-then : (goal : GroundLiteral) (i : ClauseInstance) (place : ℕ) (o : Option ℕ) → (is_new_on path goal && nat_lt (length path) d && is_complement goal (slice_get i.literals place)) ≡ true → o ≡ steps_if_allowed P i → o ≡ steps_if_extends P d path goal i place
  unfolding steps_if_extends
  extends-then goal i place o e h = allowed-then (is_new_on path goal) (nat_lt (length path) d) (is_allowed_instance P i) (is_complement goal (slice_get i.literals place)) o (capped (modal_steps P i)) e h

  -- and where they are not
  pub extends-not : (goal : GroundLiteral) (i : ClauseInstance) (place : ℕ) → (is_new_on path goal && nat_lt (length path) d && is_complement goal (slice_get i.literals place)) ≡ false → None ≡ steps_if_extends P d path goal i place
  unfolding steps_if_extends
  extends-not goal i place e = allowed-not (is_new_on path goal) (nat_lt (length path) d) (is_allowed_instance P i) (is_complement goal (slice_get i.literals place)) (capped (modal_steps P i)) e

  pub extension-inside : (goal : GroundLiteral) (i : ClauseInstance) (place own : ℕ) → Some own ≡ steps_if_extends P d path goal i place → place < length i.literals
  unfolding steps_if_extends
  extension-inside goal i place own e = some-inside goal i.literals place (and-last (is_new_on path goal) (nat_lt (length path) d) (is_allowed_instance P i) _ (some-if _ _ own e))

  pub reduced : (goal : GroundLiteral) (up : ℕ) (n : Count) → counted (is_new_on path goal && is_complement goal (ancestor path up)) n 0 0 ≡ closed_one P d path goal (reduce up) n
  unfolding closed_one
  reduced goal up n = refl

  -- an extension and the goals below it
  pub extended : (goal : GroundLiteral) (i : ClauseInstance) (place : ℕ) (below : Closings) (n m : Count) (own : ℕ) → Some own ≡ steps_if_extends P d path goal i place → m ≡ and_more n own (longest_string i.values) → closed_all P d (goal ∷ path) (remove i.literals place) below m ≡ closed_one P d path goal (extend i place below) n
  unfolding closed_one closed_all steps_if_extends
  extended goal i place below n m own e h = let c = closes_all P d (goal ∷ path) (remove i.literals place) below in let is = instances_of_all below in
      counted-then-more (extends P d path goal i place) c n m (modal_steps P i) own (total_steps P is) (longest_string i.values) (longest_of is) e h
      ∙ ap (λ t. counted (extends P d path goal i place && c) n t (max (longest_string i.values) (longest_of is))) (sym (sum_by-cons (modal_steps P) i is))

  pub extended-not : (goal : GroundLiteral) (i : ClauseInstance) (place : ℕ) (below : Closings) (n : Count) → None ≡ steps_if_extends P d path goal i place → None ≡ closed_one P d path goal (extend i place below) n
  unfolding closed_one steps_if_extends
  extended-not goal i place below n e = none-not (extends P d path goal i place) _ n _ _ _ e

  -- the first goal, then the others
  all-step : (goal : GroundLiteral) (goals : List GroundLiteral) (c : Closing) (cs : Closings) (n m : Count) → Some m ≡ closed_one P d path goal c n → closed_all P d path goals cs m ≡ closed_all P d path (goal ∷ goals) (more_closings c cs) n
  unfolding closed_one closed_all
  all-step goal goals c cs n m e = let is = instances_below c in let js = instances_of_all cs in let b = closes P d path goal c && closes_all P d path goals cs in
      counted-both (closes P d path goal c) (closes_all P d path goals cs) n m (total_steps P is) (total_steps P js) (longest_of is) (longest_of js) e
      ∙ ap (λ t. counted b n t (max (longest_of is) (longest_of js))) (sym (sum_by-append (modal_steps P) is js))
      ∙ ap (λ w. counted b n (total_steps P (is ++ js)) w) (sym (longest-append is js))

  all-stuck : (goal : GroundLiteral) (goals : List GroundLiteral) (c : Closing) (cs : Closings) (n : Count) → None ≡ closed_one P d path goal c n → None ≡ closed_all P d path (goal ∷ goals) (more_closings c cs) n
  unfolding closed_one closed_all
  all-stuck goal goals c cs n e = counted-not (closes P d path goal c) (closes_all P d path goals cs) n _ _ _ _ e

  -- no goals are closed by no closings
  all-none : (n : Count) → n.steps < no_more → Some n ≡ closed_all P d path [] no_closings n
  unfolding closed_all
  all-none n h = counted-then n h

  -- a count stays below 2^64
  pub closed-small : (goal : GroundLiteral) (c : Closing) (n m : Count) → Some m ≡ closed_one P d path goal c n → m.steps < no_more
  unfolding closed_one
  closed-small goal c n m e = counted-small (closes P d path goal c) n m _ _ e

  and-false : (b c : Bool) → c ≡ false → (b && c) ≡ false
  and-false true c e = e
  and-false false c e = refl

  -- each goal has one closing
  closes-lengths : (gs : List GroundLiteral) (cs : List Closing) → (length gs ≡ length cs → ⊥) → closes_all P d path gs (closings_tree cs) ≡ false
  closes-lengths [] [] h = absurd (h refl)
  closes-lengths [] (c ∷ cs) h = refl
  closes-lengths (g ∷ gs) [] h = refl
  closes-lengths (g ∷ gs) (c ∷ cs) h = and-false (closes P d path g c) _ (closes-lengths gs cs (λ e. h (ap suc e)))

  pub lengths-apart : (gs : List GroundLiteral) (cs : List Closing) (n : Count) → (length gs ≡ length cs → ⊥) → None ≡ closed_all P d path gs (closings_tree cs) n
  unfolding closed_all
  lengths-apart gs cs n h = counted-else (closes_all P d path gs (closings_tree cs)) n _ _ (closes-lengths gs cs h)

  pub items-apart : {X Y : Type 0} (f : X → GroundLiteral) (g : Y → Closing) (xs : List X) (ys : List Y) (cs : List Closing) (n : Count) → (length xs ≡ length ys → ⊥) → map g ys ≡ cs → None ≡ closed_all P d path (map f xs) (closings_tree cs) n
  items-apart f g xs ys cs n h e = lengths-apart (map f xs) cs n (λ q. h (sym (length-map xs f) ∙ q ∙ sym (ap length e) ∙ length-map ys g))

  -- the steps of a loop over goals and closings
  loop-step : {X Y : Type 0} (f : X → GroundLiteral) (g : Y → Closing) (xs : List X) (ys : List Y) (k : ℕ) (x a : X) (y b : Y) (n m : Count) → k < length xs → k < length ys → x ≡ get_or xs k a → y ≡ get_or ys k b → Some m ≡ closed_one P d path (f x) (g y) n → closed_all P d path (map f (drop (suc k) xs)) (closings_tree (map g (drop (suc k) ys))) m ≡ closed_all P d path (map f (drop k xs)) (closings_tree (map g (drop k ys))) n
  loop-step f g [] ys k x a y b n m h i p q e = absurd (omega arith)
  loop-step f g (u ∷ xs) [] k x a y b n m h i p q e = absurd (omega arith)
  loop-step f g (u ∷ xs) (v ∷ ys) zero x a y b n m h i p q e = all-step (f u) (map f xs) (g v) (closings_tree (map g ys)) n m (e ∙ ap (λ z. closed_one P d path (f z) (g y) n) p ∙ ap (λ z. closed_one P d path (f u) (g z) n) q)
  loop-step f g (u ∷ xs) (v ∷ ys) (suc k) x a y b n m h i p q e = loop-step f g xs ys k x a y b n m (omega arith) (omega arith) p q e

  pub loop-next : {X Y : Type 0} (f : X → GroundLiteral) (g : Y → Closing) (xs : List X) (ys : List Y) (k j : ℕ) (x a : X) (y b : Y) (n m : Count) → j ≡ suc k → k < length xs → k < length ys → x ≡ get_or xs k a → y ≡ get_or ys k b → Some m ≡ closed_one P d path (f x) (g y) n → closed_all P d path (map f (drop j xs)) (closings_tree (map g (drop j ys))) m ≡ closed_all P d path (map f (drop k xs)) (closings_tree (map g (drop k ys))) n
  loop-next f g xs ys k j x a y b n m r h i p q e = rw r (loop-step f g xs ys k x a y b n m h i p q e)

  pub loop-stuck : {X Y : Type 0} (f : X → GroundLiteral) (g : Y → Closing) (xs : List X) (ys : List Y) (k : ℕ) (x a : X) (y b : Y) (n : Count) → k < length xs → k < length ys → x ≡ get_or xs k a → y ≡ get_or ys k b → None ≡ closed_one P d path (f x) (g y) n → None ≡ closed_all P d path (map f (drop k xs)) (closings_tree (map g (drop k ys))) n
  loop-stuck f g [] ys k x a y b n h i p q e = absurd (omega arith)
  loop-stuck f g (u ∷ xs) [] k x a y b n h i p q e = absurd (omega arith)
  loop-stuck f g (u ∷ xs) (v ∷ ys) zero x a y b n h i p q e = all-stuck (f u) (map f xs) (g v) (closings_tree (map g ys)) n (e ∙ ap (λ z. closed_one P d path (f z) (g y) n) p ∙ ap (λ z. closed_one P d path (f u) (g z) n) q)
  loop-stuck f g (u ∷ xs) (v ∷ ys) (suc k) x a y b n h i p q e = loop-stuck f g xs ys k x a y b n (omega arith) (omega arith) p q e

  pub loop-end : {X Y : Type 0} (f : X → GroundLiteral) (g : Y → Closing) (xs : List X) (ys : List Y) (k : ℕ) (n : Count) → length xs ≤ k → length ys ≤ k → n.steps < no_more → Some n ≡ closed_all P d path (map f (drop k xs)) (closings_tree (map g (drop k ys))) n
  loop-end f g xs ys k n p q h = all-none n h ∙ sym (ap (λ l. closed_all P d path (map f l) no_closings n) (drop-end xs k p)) ∙ sym (ap (λ l. closed_all P d path (map f (drop k xs)) (closings_tree (map g l)) n) (drop-end ys k q))
