-- A tableau is closed where its start, its goals and its strings are right.
use Rattle.std.specs.Prelude.{◌≡◌, ℕ, ◌+◌, ◌<◌, ◌≤◌, max, List, [], ◌∷◌, Bool, true, false, ◌&&◌, Option, Some, None, nat_le, if◌then◌else◌}
use Rattle.std.specs.List.{list_all}
use Rattle.std.proofs.Common.{refl, ap, sym, ◌∙◌, arith}
use Rattle.std.proofs.lemmas.Bool.{leb-true, leb-false, le-leb, lt-leb}
use Rattle.std.proofs.lemmas.List.Sums.{sum_by-cons}
use Rattle.plain_laws.proofs.Options.{some-if}
use Rattle.calculus.specs.ComputedInstances.{is_allowed_instance, modal_steps}
use Rattle.calculus.specs.Ground.{GroundLiteral, Value, term, steps}
use Rattle.calculus.specs.Instances.{ClauseInstance}
use Rattle.calculus.specs.Syntax.{Problem}
use Rattle.calculus.specs.Tableaux.{Tableau, closes_all, has_at_most, has_unbounded_strings, instances, instances_of_all, is_closed, is_short, is_shown, strings_within, total_steps}
use Rattle.tableau_core.specs.Counted.{string_length, longest_string, longest_of, and_more, counted, closed_all, is_short_count}
use Rattle.tableau_core.specs.Walks.{capped, steps_if_allowed}
use Rattle.tableau_core.specs.declared.count.Count.{Count}

-- tests on numbers that hold together
same-test : (a b c d : ℕ) → (a ≤ b → c ≤ d) → (c ≤ d → a ≤ b) → nat_le a b ≡ nat_le c d
same-test a b c d f g = by_tests (nat_le a b) (nat_le c d) refl refl
  where
    by_tests : (x y : Bool) → nat_le a b ≡ x → nat_le c d ≡ y → nat_le a b ≡ nat_le c d
    by_tests true true e h = e ∙ sym h
    by_tests false false e h = e ∙ sym h
    by_tests true false e h = let p = f (leb-true a b e) in let q = leb-false c d h in absurd (omega arith)
    by_tests false true e h = let p = g (leb-true c d h) in let q = leb-false a b e in absurd (omega arith)

both-within : (a c b : ℕ) → (nat_le a b && nat_le c b) ≡ nat_le (max a c) b
both-within a c b = by_tests (nat_le a b) (nat_le c b) refl refl
  where
    by_tests : (x y : Bool) → nat_le a b ≡ x → nat_le c b ≡ y → (nat_le a b && nat_le c b) ≡ nat_le (max a c) b
    by_tests true true e h = let p = leb-true a b e in let q = leb-true c b h in ap (λ x. x && nat_le c b) e ∙ h ∙ sym (le-leb (max a c) b (omega arith))
    by_tests true false e h = let q = leb-false c b h in ap (λ x. x && nat_le c b) e ∙ h ∙ sym (lt-leb (max a c) b (omega arith))
    by_tests false y e h = let q = leb-false a b e in ap (λ x. x && nat_le c b) e ∙ sym (lt-leb (max a c) b (omega arith))

value-within : (b : ℕ) (v : Value) → has_at_most b v ≡ nat_le (string_length v) b
value-within b (term t) = sym (le-leb 0 b (omega arith))
value-within b (steps w) = refl

values-within : (b : ℕ) (vs : List Value) → list_all (has_at_most b) vs ≡ nat_le (longest_string vs) b
values-within b [] = sym (le-leb 0 b (omega arith))
values-within b (v ∷ vs) = ap (λ x. x && list_all (has_at_most b) vs) (value-within b v) ∙ ap (λ x. nat_le (string_length v) b && x) (values-within b vs) ∙ both-within (string_length v) (longest_string vs) b

-- strings are within a bound where the longest one is
instances-within : (b : ℕ) (is : List ClauseInstance) → list_all (strings_within b) is ≡ nat_le (longest_of is) b
instances-within b [] = sym (le-leb 0 b (omega arith))
instances-within b (i ∷ is) = ap (λ x. x && list_all (strings_within b) is) (values-within b i.values) ∙ ap (λ x. nat_le (longest_string i.values) b && x) (instances-within b is) ∙ both-within (longest_string i.values) (longest_of is) b

short-by : (P : Problem) (t : Tableau) (n w : ℕ) → n ≡ capped (total_steps P (instances t)) → w ≡ longest_of (instances t) → w < 18446744073709551616 → is_short P t ≡ (if has_unbounded_strings P.setting.logic then nat_le w n else true)
short-by P t n w e h f = by_logic (has_unbounded_strings P.setting.logic)
  where
    by_logic : (b : Bool) → (if b then list_all (strings_within (total_steps P (instances t))) (instances t) else true) ≡ (if b then nat_le w n else true)
    by_logic true = instances-within (total_steps P (instances t)) (instances t) ∙ same-test (longest_of (instances t)) (total_steps P (instances t)) w n (λ p. omega arith) (λ p. omega arith)
    by_logic false = refl

pub same-some : (m n : Count) → Some m ≡ Some n → m ≡ n
same-some m n e = cc

some-number : (b : Bool) (k m : ℕ) → Some m ≡ (if b then Some k else None) → m ≡ k
some-number true k m e = cc
some-number false k m e = cc

counted-test : (b : Bool) (n m : Count) (k w : ℕ) → Some m ≡ counted b n k w → b ≡ true
counted-test true n m k w e = refl
counted-test false n m k w e = cc

counted-count : (b : Bool) (n m : Count) (k w : ℕ) → Some m ≡ counted b n k w → m ≡ and_more n k w
counted-count true n m k w e = same-some m (and_more n k w) e
counted-count false n m k w e = cc

not-counted : (b : Bool) (n : Count) (k w : ℕ) → None ≡ counted b n k w → b ≡ false
not-counted true n k w e = cc
not-counted false n k w e = refl

all-true : (a s c x : Bool) → a ≡ true → s ≡ true → c ≡ true → x ≡ (a && s && c && x)
all-true true true true x e f g = refl
all-true true true false x e f g = cc
all-true true false c x e f g = cc
all-true false s c x e f g = cc

one-false : (a s c x : Bool) → (a && s && c) ≡ false → false ≡ (a && s && c && x)
one-false a s c x e = ap (λ y. y && x) (sym e)

third-false : (a s c : Bool) → c ≡ false → (a && s && c) ≡ false
third-false true true c e = e
third-false true false c e = refl
third-false false s c e = refl

second-false : (a s c : Bool) → s ≡ false → (a && s && c) ≡ false
second-false true true c e = cc
second-false true false c e = refl
second-false false s c e = refl

module _ (P : Problem) (limit : ℕ) (t : Tableau) where
  pub closed-by : (own : ℕ) (start all : Count) → Some own ≡ steps_if_allowed P t.start → list_all is_shown t.start.literals ≡ true → start.steps ≡ own → start.longest ≡ longest_string t.start.values → Some all ≡ closed_all P limit [] t.start.literals t.goals start → all.longest < 18446744073709551616 → is_short_count P.setting.logic all ≡ is_closed P limit t
  unfolding closed_all
  closed-by own start all a s e w c h =
      let k = total_steps P (instances_of_all t.goals) in
      let v = longest_of (instances_of_all t.goals) in
      let m = counted-count (closes_all P limit [] t.start.literals t.goals) start all k v c in
      let o = some-number (is_allowed_instance P t.start) (capped (modal_steps P t.start)) own a in
      let q : total_steps P (instances t) ≡ modal_steps P t.start + k = sum_by-cons (modal_steps P) t.start (instances_of_all t.goals) in
      let n : all.steps ≡ capped (start.steps + k) = ap (λ (x : Count). x.steps) m in
      let l : all.longest ≡ max start.longest v = ap (λ (x : Count). x.longest) m in
      sym (short-by P t all.steps all.longest (omega (arith, n, e, o, q)) (l ∙ ap (λ x. max x v) w) h)
      ∙ all-true (is_allowed_instance P t.start) (list_all is_shown t.start.literals) (closes_all P limit [] t.start.literals t.goals) (is_short P t) (some-if _ (capped (modal_steps P t.start)) own a) s (counted-test _ start all k v c)

  -- what is counted of all goals, from the empty path
  pub from-start : (path goals : List GroundLiteral) (o : Option Count) (start : Count) → o ≡ closed_all P limit path goals t.goals start → path ≡ [] → goals ≡ t.start.literals → o ≡ closed_all P limit [] t.start.literals t.goals start
  from-start path goals o start e h k = e ∙ ap (λ p. closed_all P limit p goals t.goals start) h ∙ ap (λ g. closed_all P limit [] g t.goals start) k

  pub not-shown : list_all is_shown t.start.literals ≡ false → false ≡ is_closed P limit t
  not-shown e = one-false (is_allowed_instance P t.start) _ _ _ (second-false (is_allowed_instance P t.start) (list_all is_shown t.start.literals) (closes_all P limit [] t.start.literals t.goals) e)

  pub not-closed : (start : Count) → None ≡ closed_all P limit [] t.start.literals t.goals start → false ≡ is_closed P limit t
  unfolding closed_all
  not-closed start e = one-false (is_allowed_instance P t.start) _ _ _ (third-false (is_allowed_instance P t.start) (list_all is_shown t.start.literals) (closes_all P limit [] t.start.literals t.goals) (not-counted _ start _ _ e))
