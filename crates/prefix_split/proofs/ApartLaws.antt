-- Pairs of goals whose labels have to differ.
use Rattle.std.proofs.Common.{◌≡◌, ◌⊎◌, ℕ, List, [], ◌∷◌, ◌++◌, length, IsTrue, sym, ◌∙◌, subst, None, Some, slice_get, inl, inr}
use Rattle.std.proofs.lemmas.Bool.{and_parts, false≢true}
use Rattle.calculus.specs.Ground.{GroundMark}
use Rattle.store_theory.specs.Stores.{Store, names_below}
use Rattle.store_theory.specs.Systems.{CellAtom, Differ, Pair, is_cell_atom, is_pair}
use Rattle.calculus.proofs.EqualityLaws.{literal_eq-tells}
use Rattle.search_theory.specs.States.{label_by}
use Rattle.search_theory.proofs.AtomLaws.{literal-by}
use Rattle.search_theory.proofs.SolvingLaws.{label-below}
use Rattle.prefix_split.specs.declared.node.Node.{Node}
use Rattle.prefix_split.specs.Beginnings.{AllApart}
use Rattle.prefix_split.specs.Growing.{ComeApart, IsNodeOf, IsPairApart}
use Rattle.prefix_split.specs.Same.{HaveSameAtom}
use Rattle.prefix_split.proofs.GrowingLaws.{all-there}
use Rattle.prefix_split.proofs.OrderLaws.{last-item}
use Rattle.prefix_split.proofs.SameLaws.{atom-label}

pub pair-parts : (s : Store) (p : Pair) → IsTrue (is_pair s p) → IsTrue (is_cell_atom s p.upper) × IsTrue (is_cell_atom s p.lower)
pair-parts s p h = and_parts (is_cell_atom s p.upper) (is_cell_atom s p.lower) h

pub atom-places : (s : Store) (a : CellAtom) → IsTrue (is_cell_atom s a) → IsTrue (names_below (length s.cells) a.label)
atom-places s a h = label-below s a.label (atom-label s a h)

pub pair-apart : (s : Store) (nodes : List Node) (p : Pair) (u v : ℕ) → HaveSameAtom s p.upper p.lower → IsNodeOf s nodes p.upper.label u → IsNodeOf s nodes p.lower.label v → IsPairApart s nodes p (u, v)
pair-apart s nodes p u v same h k σ value t x (a, b, ha, hb, d) e =
    let labels : label_by σ p.upper.label ≡ label_by σ p.lower.label = sym (h σ value t x) ∙ e ∙ k σ value t x in
    let q : a ≡ b = literal-by σ p.upper a ha ∙ same σ t labels ∙ sym (literal-by σ p.lower b hb) in
    false≢true (sym d ∙ (literal_eq-tells a b).1 q)

pub none-apart : (value : ℕ → List GroundMark) → AllApart value []
none-apart value i p e same = let q : None ≡ Some p = e in cc q

apart-more : (value : ℕ → List GroundMark) (ps : List (ℕ × ℕ)) (both : ℕ × ℕ) → AllApart value ps → ¬ (value both.0 ≡ value both.1) → AllApart value (ps ++ both ∷ [])
apart-more value ps both h d i p at = by (last-item ps both p i at)
  where
    by : (slice_get ps i ≡ Some p) ⊎ ((i ≡ length ps) × (both ≡ p)) → ¬ (value p.0 ≡ value p.1)
    by (inl q) = h i p q
    by (inr q) = subst (λ (x : ℕ × ℕ). ¬ (value x.0 ≡ value x.1)) q.1 d

pub come-more : (s : Store) (ps : List Pair) (nodes : List Node) (i : ℕ) (p : Pair) (both : ℕ × ℕ) (before after : List (ℕ × ℕ)) → slice_get ps i ≡ Some p → IsPairApart s nodes p both → after ≡ before ++ both ∷ [] → ComeApart s ps nodes before after
come-more s ps nodes i p both before after at h same σ value t v d b = subst (AllApart value) (sym same) (apart-more value before both b (h σ value t v (all-there (Differ σ) ps i p d at)))
