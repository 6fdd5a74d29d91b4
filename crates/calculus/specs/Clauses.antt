-- The matrix as a set of clauses (Bibel, leanCoP): one clause for each selection, which picks one side at each alpha position that has
-- two. Their order, their number, and their sizes.
use Rattle.std.specs.Prelude.{ℕ, ◌+◌, ◌*◌, List, [], ◌∷◌, ◌++◌, map}
use Rattle.calculus.specs.declared.sign.Sign.{Sign}
use Rattle.calculus.specs.declared.sign.Sign.TheVariants.{F}
use Rattle.calculus.specs.declared.sign.Side.{Side}
use Rattle.calculus.specs.declared.sign.Side.TheVariants.{Left, Right}
use Rattle.calculus.specs.declared.kind.Shape.{Shape}
use Rattle.calculus.specs.declared.kind.Shape.TheVariants.{Beta}
use Rattle.calculus.specs.Syntax.{Formula, atom, neg, conj, disj, imp, all, ex, box, dia, Problem}
use Rattle.calculus.specs.Kinds.{other, shape_of}

-- each list of the first followed by each of the second, the first ones outermost
abbrev pub all_joined : {A : Type 0} → List (List A) → List (List A) → List (List A)
all_joined [] ys = []
all_joined (x ∷ xs) ys = map (λ y. x ++ y) ys ++ all_joined xs ys

abbrev pub selections_of_two : Shape → List (List Side) → List (List Side) → List (List Side)
selections_of_two Beta xs ys = all_joined xs ys
selections_of_two _ xs ys = map (λ x. Left ∷ x) xs ++ map (λ y. Right ∷ y) ys

-- the selections in order, left before right, the outer position first
abbrev pub selections : Formula → Sign → List (List Side)
selections (atom p ts) s = [] ∷ []
selections (neg a) s = selections a (other s)
selections (conj a b) s = selections_of_two (shape_of s (conj a b)) (selections a s) (selections b s)
selections (disj a b) s = selections_of_two (shape_of s (disj a b)) (selections a s) (selections b s)
selections (imp a b) s = selections_of_two (shape_of s (imp a b)) (selections a (other s)) (selections b s)
selections (all a) s = selections a s
selections (ex a) s = selections a s
selections (box a) s = selections a s
selections (dia a) s = selections a s

abbrev pub clauses_of_two : Shape → ℕ → ℕ → ℕ
clauses_of_two Beta m n = m * n
clauses_of_two _ m n = m + n

-- the number of clauses
abbrev pub clause_count : Formula → Sign → ℕ
clause_count (atom p ts) s = 1
clause_count (neg a) s = clause_count a (other s)
clause_count (conj a b) s = clauses_of_two (shape_of s (conj a b)) (clause_count a s) (clause_count b s)
clause_count (disj a b) s = clauses_of_two (shape_of s (disj a b)) (clause_count a s) (clause_count b s)
clause_count (imp a b) s = clauses_of_two (shape_of s (imp a b)) (clause_count a (other s)) (clause_count b s)
clause_count (all a) s = clause_count a s
clause_count (ex a) s = clause_count a s
clause_count (box a) s = clause_count a s
clause_count (dia a) s = clause_count a s

-- k and l literals in m and n clauses: a join of two clauses has the literals of both
abbrev pub literals_of_two : Shape → ℕ → ℕ → ℕ → ℕ → ℕ
literals_of_two Beta k m l n = k * n + l * m
literals_of_two _ k m l n = k + l

-- the number of literals of all clauses together
abbrev pub literal_count : Formula → Sign → ℕ
literal_count (atom p ts) s = 1
literal_count (neg a) s = literal_count a (other s)
literal_count (conj a b) s = literals_of_two (shape_of s (conj a b)) (literal_count a s) (clause_count a s) (literal_count b s) (clause_count b s)
literal_count (disj a b) s = literals_of_two (shape_of s (disj a b)) (literal_count a s) (clause_count a s) (literal_count b s) (clause_count b s)
literal_count (imp a b) s = literals_of_two (shape_of s (imp a b)) (literal_count a (other s)) (clause_count a (other s)) (literal_count b s) (clause_count b s)
literal_count (all a) s = literal_count a s
literal_count (ex a) s = literal_count a s
literal_count (box a) s = literal_count a s
literal_count (dia a) s = literal_count a s

-- ---- the size of one clause

-- the number of literals of a clause, and the sides of the selection that are left over
pub record Counted : Type 0 where
  pub count : ℕ
  pub sides : List Side

abbrev pub count_alpha : (List Side → Counted) → (List Side → Counted) → List Side → Counted
count_alpha first second [] = record { count = 0; sides = [] }
count_alpha first second (Left ∷ ss) = first ss
count_alpha first second (Right ∷ ss) = second ss

abbrev pub count_more : ℕ → Counted → Counted
count_more n x = record x { count = n + x.count }

abbrev pub count_two : Shape → (List Side → Counted) → (List Side → Counted) → List Side → Counted
count_two Beta first second ss = count_more (first ss).count (second (first ss).sides)
count_two _ first second ss = count_alpha first second ss

abbrev pub count_from : Formula → Sign → List Side → Counted
count_from (atom p ts) s ss = record { count = 1; sides = ss }
count_from (neg a) s ss = count_from a (other s) ss
count_from (conj a b) s ss = count_two (shape_of s (conj a b)) (count_from a s) (count_from b s) ss
count_from (disj a b) s ss = count_two (shape_of s (disj a b)) (count_from a s) (count_from b s) ss
count_from (imp a b) s ss = count_two (shape_of s (imp a b)) (count_from a (other s)) (count_from b s) ss
count_from (all a) s ss = count_from a s ss
count_from (ex a) s ss = count_from a s ss
count_from (box a) s ss = count_from a s ss
count_from (dia a) s ss = count_from a s ss

-- the number of literals of the clause of a selection
abbrev pub size_from : Formula → Sign → List Side → ℕ
size_from f s ss = (count_from f s ss).count

abbrev pub clause_size : Problem → List Side → ℕ
clause_size P = size_from P.formula F
