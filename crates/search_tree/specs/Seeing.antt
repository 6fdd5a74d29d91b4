-- What the points on the stack have seen: the lowest number of a goal that was the leftmost open one since each was made.
use Rattle.std.specs.Prelude.{◌≡◌, ◌≤◌, ℕ, List, [], ◌∷◌, ◌++◌, Option, None, Some, min, nat_le, if◌then◌else◌, ⊤}
use Rattle.search_tree.specs.declared.point.Point.{Point}

-- no goal of a tree has this number
abbrev pub no_goal : ℕ
no_goal = 18446744073709551615

abbrev pub seeing : ℕ → Point → Point
seeing n p = record p { lowest = min n p.lowest }

-- the number of the leftmost open goal, or 0 where there is none
abbrev pub number_of : Option ℕ → ℕ
number_of None = 0
number_of (Some k) = k

-- what is seen where so many choices were made before and now
abbrev pub seen_after : ℕ → ℕ → Option ℕ → ℕ
seen_after before now first = if nat_le now before then no_goal else number_of first

-- the last point has seen the leftmost open goal, if there is one, and else that all goals are closed
abbrev pub HasSeen : Option ℕ → List Point → Type 0
HasSeen first [] = ⊤
HasSeen None (p ∷ points) = p.lowest ≡ 0
HasSeen (Some k) (p ∷ points) = p.lowest ≤ k

-- the last of the points has seen more
pub record SeeMore (n : ℕ) (before after : List Point) : Type 0 where
  pub last : (xs : List Point) (p : Point) → before ≡ xs ++ p ∷ [] → after ≡ xs ++ seeing n p ∷ []
  pub none : before ≡ [] → after ≡ []
