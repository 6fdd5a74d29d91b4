-- The walk over the steps from the last one to the first that finds those that are left, by counts of how often these refer to each
-- entry number. One array of counts serves the whole derivation: the count of an entry is set back to 0 at the step that adds it, and
-- where a fork is idle what the side that goes counted is taken back.
use Rattle.std.specs.Prelude.{ℕ, zero, suc, ◌+◌, ◌-◌, ◌≤◌, List, [], ◌∷◌, ◌++◌, length, map, Bool, true, false, ◌==◌, nat_lt, get_or, set, if◌then◌else◌}
use Rattle.trim_theory.specs.Left.{one_if}
use Rattle.trim_theory.specs.Trimming.{Tree, axiom_on, step_on, fork_on, one_after, uses}
use Rattle.trim_theory.specs.declared.pass.Way.{Way}
use Rattle.trim_theory.specs.declared.pass.Way.TheVariants.{Ends, Adds, Forks}
use Rattle.trim_theory.specs.declared.pass.Pass.{Pass}
use Rattle.trim_theory.specs.declared.pass.Mark.{Mark}

abbrev pub pass : ℕ → Way → Bool → Pass
pass n w b = record { before = n; way = w; starts_right = b }

abbrev pub mark : Pass → Bool → Mark
mark p k = record { pass = p; is_left = k }

-- the passes of a tree below n entries; the Bool tells whether the tree is the right side of a fork
abbrev pub passes : Bool → ℕ → Tree → List Pass
passes b n (axiom_on c d) = pass n (Ends c d) b ∷ []
passes b n (step_on a x y j t) = pass n (Adds a j) b ∷ passes false (n + j) t
passes b n (fork_on a x y t r) = pass n (Forks a) b ∷ (passes false (suc n) t ++ passes true (suc n) r)

-- ---- counts

abbrev pub Counts : Type 0
Counts = ℕ → ℕ

abbrev pub counts_of : List ℕ → Counts
counts_of xs i = get_or xs i 0

abbrev pub plus_one : ℕ → Counts → Counts
plus_one a c i = one_if (a == i) + c i

abbrev pub minus_one : ℕ → Counts → Counts
minus_one a c i = c i - one_if (a == i)

abbrev pub set_back : ℕ → Counts → Counts
set_back a c i = if a == i then 0 else c i

abbrev pub set_back_after : ℕ → ℕ → Counts → Counts
set_back_after n zero c = c
set_back_after n (suc j) c = set_back_after (suc n) j (set_back (suc n) c)

abbrev pub is_counted : Counts → ℕ → Bool
is_counted c i = nat_lt 0 (c i)

abbrev pub take_back_way : Way → Counts → Counts
take_back_way (Ends a b) c = minus_one b (minus_one a c)
take_back_way (Adds a j) c = minus_one a c
take_back_way (Forks a) c = minus_one a c

-- ---- the walk

abbrev pub top : List ℕ → ℕ
top [] = 0
top (x ∷ xs) = x

abbrev pub below : List ℕ → List ℕ
below [] = []
below (x ∷ xs) = xs

-- `saved`: for each right side that is finished while its left side is not, the count of its first entry; `done`: the steps that were
-- passed, the last step first; `starts`: where each tree that is finished begins in `done`, the leftmost first
pub record State : Type 0 where
  pub counts : Counts
  pub saved : List ℕ
  pub starts : List ℕ
  pub done : List Mark

abbrev pub state : Counts → List ℕ → List ℕ → List Mark → State
state c saved starts done = record { counts = c; saved = saved; starts = starts; done = done }

abbrev pub no_mark : Mark
no_mark = mark (pass 0 (Ends 0 0) false) false

abbrev pub left_out : Mark → Mark
left_out m = mark m.pass false

abbrev pub undone : Mark → Counts → Counts
undone m c = if m.is_left then take_back_way m.pass.way c else c

-- so many steps from a place on are left out
abbrev pub with_undone : ℕ → ℕ → State → State
with_undone k zero s = s
with_undone k (suc l) s = with_undone (suc k) l (state (undone (get_or s.done k no_mark) s.counts) s.saved s.starts (set s.done k (left_out (get_or s.done k no_mark))))

abbrev pub put : Pass → Bool → State → State
put p k s = state s.counts s.saved s.starts (s.done ++ mark p k ∷ [])

abbrev pub counted_once : ℕ → State → State
counted_once a s = state (plus_one a s.counts) s.saved s.starts s.done

-- after a fork, by whether its left and its right side use the entries that are added there, and where the sides begin
abbrev pub after_fork : Pass → ℕ → Bool → Bool → ℕ → ℕ → State → State
after_fork p a true true left right s = put p true (counted_once a s)
after_fork p a true false left right s = put p false (with_undone left (length s.done - left) s)
after_fork p a false r left right s = put p false (with_undone right (left - right) s)

abbrev pub after_adding : Pass → ℕ → Bool → State → State
after_adding p a true s = put p true (counted_once a s)
after_adding p a false s = put p false s

abbrev pub after_way : Pass → Way → State → State
after_way p (Ends a b) s = put p true (state (plus_one a (plus_one b s.counts)) s.saved (length s.done ∷ s.starts) s.done)
after_way p (Adds a j) s = after_adding p a (one_after (is_counted s.counts) p.before j) (state (set_back_after p.before j s.counts) s.saved s.starts s.done)
after_way p (Forks a) s = after_fork p a (is_counted s.counts (suc p.before)) (nat_lt 0 (top s.saved)) (top s.starts) (top (below s.starts)) (state (set_back (suc p.before) s.counts) (below s.saved) (below s.starts) s.done)

-- before the left side of a fork the count of the right side's first entry is put aside
abbrev pub set_aside : Bool → ℕ → State → State
set_aside true n s = state (set_back n s.counts) (s.counts n ∷ s.saved) s.starts s.done
set_aside false n s = s

abbrev pub after_pass : Pass → State → State
after_pass p s = set_aside p.starts_right p.before (after_way p p.way s)

-- from the last step to the first
abbrev pub run : List Pass → State → State
run [] s = s
run (p ∷ ps) s = after_pass p (run ps s)

abbrev pub at_start : State
at_start = state (λ i. 0) [] [] []

-- ---- what it finds

-- the steps of a tree below n entries
abbrev pub marks : Bool → ℕ → Tree → List Mark
marks b n (axiom_on c d) = mark (pass n (Ends c d) b) true ∷ []
marks b n (step_on a x y j t) = mark (pass n (Adds a j) b) (one_after (uses (n + j) t) n j) ∷ marks false (n + j) t
marks b n (fork_on a x y t r) =
    if uses (suc n) t (suc n) then if uses (suc n) r (suc n) then mark (pass n (Forks a) b) true ∷ (marks false (suc n) t ++ marks true (suc n) r) else mark (pass n (Forks a) b) false ∷ (map left_out (marks false (suc n) t) ++ marks true (suc n) r) else mark (pass n (Forks a) b) false ∷ (marks false (suc n) t ++ map left_out (marks true (suc n) r))

abbrev pub refers : Way → ℕ → ℕ
refers (Ends a b) k = one_if (a == k) + one_if (b == k)
refers (Adds a j) k = one_if (a == k)
refers (Forks a) k = one_if (a == k)

-- how often the steps that are left refer to the number k
abbrev pub counted : List Mark → ℕ → ℕ
counted [] k = 0
counted (m ∷ ms) k = (if m.is_left then refers m.pass.way k else 0) + counted ms k

-- each step refers to entries of the branch alone
abbrev pub IsWithin : ℕ → Tree → Type 0
IsWithin n (axiom_on a b) = (a ≤ n) × (b ≤ n)
IsWithin n (step_on a x y j t) = (a ≤ n) × IsWithin (n + j) t
IsWithin n (fork_on a x y t r) = (a ≤ n) × IsWithin (suc n) t × IsWithin (suc n) r
