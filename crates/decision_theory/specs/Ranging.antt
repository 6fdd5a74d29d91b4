-- All instances of a classical formula whose gamma terms are of one list, and truth where the quantifiers range over that list.
use Rattle.std.specs.Prelude.{ℕ, suc, List, [], ◌∷◌, ◌++◌, map, Bool, not, ◌&&◌, ◌||◌}
use Rattle.std.specs.List.{list_all, list_any, flat_map}
use Rattle.calculus.specs.declared.sign.Sign.{Sign}
use Rattle.calculus.specs.declared.sign.Sign.TheVariants.{T, F}
use Rattle.calculus.specs.declared.sign.Side.TheVariants.{Left, Right}
use Rattle.calculus.specs.Syntax.{Formula, atom, neg, conj, disj, imp, all, ex, box, dia, Problem}
use Rattle.calculus.specs.Ground.{GroundTerm, GroundTerms, g_eigen, term, values_tree}
use Rattle.calculus.specs.Kinds.{other}
use Rattle.calculus.specs.Positions.{size}
use Rattle.calculus.specs.Instances.{grounds_of, Spot, down_by, spot_inside, Share, literal_share, reaching, with_side, with_term, both, root_spot, ClauseInstance, clause_instance}

-- each of the first with each of the second
abbrev pub pairs : {A : Type 0} → (A → A → A) → List A → List A → List A
pairs g [] ys = []
pairs g (x ∷ xs) ys = map (g x) ys ++ pairs g xs ys

abbrev pub only_at : Spot → Share → Share
only_at c x = reaching c.position c.taken x

abbrev pub left_at : Spot → Share → Share
left_at c x = reaching c.position c.taken (with_side Left x)

abbrev pub right_at : Spot → Share → Share
right_at c x = reaching c.position c.taken (with_side Right x)

abbrev pub both_at : Spot → Share → Share → Share
both_at c x y = reaching c.position c.taken (both x y)

abbrev pub term_at : Spot → GroundTerm → Share → Share
term_at c t x = reaching c.position (c.taken ++ term t ∷ []) (with_term t c.label x)

abbrev pub in_term : Spot → GroundTerm → Spot
in_term c t = spot_inside t (c.taken ++ term t ∷ []) c

-- the eigenvariable of a delta position
abbrev pub eigen_at : Spot → GroundTerm
eigen_at c = g_eigen c.position (values_tree c.taken)

abbrev pub in_eigen : Spot → Spot
in_eigen c = spot_inside (eigen_at c) c.taken c

abbrev pub either_at : Spot → List Share → List Share → List Share
either_at c xs ys = map (left_at c) xs ++ map (right_at c) ys

-- what a signed formula gives with the terms of the list
abbrev pub shares : List GroundTerm → Spot → Sign → Formula → List Share
shares U c s (atom p ts) = literal_share c s p ts ∷ []
shares U c s (neg a) = map (only_at c) (shares U (down_by 1 c) (other s) a)
shares U c T (conj a b) = either_at c (shares U (down_by 1 c) T a) (shares U (down_by (suc (size a)) c) T b)
shares U c F (conj a b) = pairs (both_at c) (shares U (down_by 1 c) F a) (shares U (down_by (suc (size a)) c) F b)
shares U c T (disj a b) = pairs (both_at c) (shares U (down_by 1 c) T a) (shares U (down_by (suc (size a)) c) T b)
shares U c F (disj a b) = either_at c (shares U (down_by 1 c) F a) (shares U (down_by (suc (size a)) c) F b)
shares U c T (imp a b) = pairs (both_at c) (shares U (down_by 1 c) F a) (shares U (down_by (suc (size a)) c) T b)
shares U c F (imp a b) = either_at c (shares U (down_by 1 c) T a) (shares U (down_by (suc (size a)) c) F b)
shares U c T (all a) = flat_map (λ t. map (term_at c t) (shares U (in_term c t) T a)) U
shares U c F (all a) = map (only_at c) (shares U (in_eigen c) F a)
shares U c T (ex a) = map (only_at c) (shares U (in_eigen c) T a)
shares U c F (ex a) = flat_map (λ t. map (term_at c t) (shares U (in_term c t) F a)) U
shares U c s (box a) = []
shares U c s (dia a) = []

-- truth where the atoms are true by v and the quantifiers range over the list, at one world
abbrev pub truth_over : List GroundTerm → (ℕ → GroundTerms → Bool) → List GroundTerm → Formula → Bool
truth_over U v env (atom p ts) = v p (grounds_of env ts)
truth_over U v env (neg a) = not (truth_over U v env a)
truth_over U v env (conj a b) = truth_over U v env a && truth_over U v env b
truth_over U v env (disj a b) = truth_over U v env a || truth_over U v env b
truth_over U v env (imp a b) = not (truth_over U v env a) || truth_over U v env b
truth_over U v env (all a) = list_all (λ t. truth_over U v (t ∷ env) a) U
truth_over U v env (ex a) = list_any (λ t. truth_over U v (t ∷ env) a) U
truth_over U v env (box a) = truth_over U v env a
truth_over U v env (dia a) = truth_over U v env a

-- all instances over the list
abbrev pub instances_over : List GroundTerm → Problem → List ClauseInstance
instances_over U P = map clause_instance (shares U root_spot F P.formula)
