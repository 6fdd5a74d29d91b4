-- Classical problems with finitely many ground terms (Bernays and Schoenfinkel): no delta position below a gamma position, and, where the
-- structure is made, no function symbol with arguments.
use Rattle.std.specs.Prelude.{◌≡◌, ℕ, suc, List, [], ◌∷◌, ◌++◌, Bool, true, false, not, ◌&&◌, ◌||◌, ◌==◌, IsTrue, if◌then◌else◌}
use Rattle.std.specs.List.{list_all}
use Rattle.calculus.specs.declared.sign.Sign.{Sign}
use Rattle.calculus.specs.declared.sign.Sign.TheVariants.{T, F}
use Rattle.calculus.specs.Syntax.{Symbol, Formula, atom, neg, conj, disj, imp, all, ex, box, dia, Problem}
use Rattle.calculus.specs.Ground.{GroundTerm, g_fun, common, no_g_terms}
use Rattle.calculus.specs.Kinds.{other}
use Rattle.calculus.specs.Positions.{size}
use Rattle.calculus.specs.Skolem.{is_function, is_constant_symbol}
use Rattle.calculus.specs.Instances.{Spot, root_spot, down_by}
use Rattle.calculus.specs.declared.setting.Logic.TheVariants.{Classical}
use Rattle.decision_theory.specs.Atoms.{atom_count}
use Rattle.decision_theory.specs.Ranging.{eigen_at, in_eigen, instances_over}

-- no delta position and no modal operator
abbrev pub has_no_delta : Sign → Formula → Bool
has_no_delta s (atom p ts) = true
has_no_delta s (neg a) = has_no_delta (other s) a
has_no_delta s (conj a b) = has_no_delta s a && has_no_delta s b
has_no_delta s (disj a b) = has_no_delta s a && has_no_delta s b
has_no_delta s (imp a b) = has_no_delta (other s) a && has_no_delta s b
has_no_delta T (all a) = has_no_delta T a
has_no_delta F (all a) = false
has_no_delta T (ex a) = false
has_no_delta F (ex a) = has_no_delta F a
has_no_delta s (box a) = false
has_no_delta s (dia a) = false

-- no delta position below a gamma position, and no modal operator
abbrev pub is_flat : Sign → Formula → Bool
is_flat s (atom p ts) = true
is_flat s (neg a) = is_flat (other s) a
is_flat s (conj a b) = is_flat s a && is_flat s b
is_flat s (disj a b) = is_flat s a && is_flat s b
is_flat s (imp a b) = is_flat (other s) a && is_flat s b
is_flat T (all a) = has_no_delta T a
is_flat F (all a) = is_flat F a
is_flat T (ex a) = is_flat T a
is_flat F (ex a) = has_no_delta F a
is_flat s (box a) = false
is_flat s (dia a) = false

-- the eigenvariables of the delta positions above which there is no gamma position
abbrev pub eigens : Spot → Sign → Formula → List GroundTerm
eigens c s (atom p ts) = []
eigens c s (neg a) = eigens (down_by 1 c) (other s) a
eigens c s (conj a b) = eigens (down_by 1 c) s a ++ eigens (down_by (suc (size a)) c) s b
eigens c s (disj a b) = eigens (down_by 1 c) s a ++ eigens (down_by (suc (size a)) c) s b
eigens c s (imp a b) = eigens (down_by 1 c) (other s) a ++ eigens (down_by (suc (size a)) c) s b
eigens c T (all a) = []
eigens c F (all a) = eigen_at c ∷ eigens (in_eigen c) F a
eigens c T (ex a) = eigen_at c ∷ eigens (in_eigen c) T a
eigens c F (ex a) = []
eigens c s (box a) = []
eigens c s (dia a) = []

-- the constants among these symbols, the first of which has number k
abbrev pub constants : ℕ → List Symbol → List GroundTerm
constants k [] = []
constants k (s ∷ ss) = if is_constant_symbol s then g_fun k no_g_terms ∷ constants (suc k) ss else constants (suc k) ss

-- a spare constant, the constants and these eigenvariables
abbrev pub terms_of : Problem → List GroundTerm
terms_of P = common 0 ∷ constants 0 P.symbols ++ eigens root_spot F P.formula

-- no function symbol has arguments
abbrev pub has_constants_only : List Symbol → Bool
has_constants_only ss = list_all (λ (s : Symbol). not (is_function s.class) || s.arity == 0) ss

-- a classical problem with these two properties
pub record IsFinitary (P : Problem) : Type 0 where
  pub classical : P.setting.logic ≡ Classical
  pub flat : IsTrue (is_flat F P.formula)
  pub constants_only : IsTrue (has_constants_only P.symbols)

-- a limit that is enough for such a problem: the number of the atoms over its ground terms
abbrev pub ground_atoms : Problem → ℕ
ground_atoms P = atom_count (instances_over (terms_of P) P)
