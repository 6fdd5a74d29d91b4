-- Unifying two lists of terms pair by pair.
use Rattle.std.proofs.Common.{◌≡◌, ℕ, List, ◌∷◌, IsTrue, ◌∙◌, ap, ap₂}
use Rattle.std.proofs.lemmas.Bool.{false≢true}
use Rattle.calculus.specs.declared.sort.Sort.TheVariants.{TermSort}
use Rattle.calculus.specs.Ground.{more_g_terms}
use Rattle.store_theory.specs.Stores.{Store, has_sort_at, CellValue, a_term, a_mark, a_string, has_sort, Solution, Solves}
use Rattle.store_theory.specs.Templates.{as_term}
use Rattle.search_theory.specs.States.{terms_by}
use Rattle.search_theory.specs.Steps.{AreUnified, Clash, IsUnified}
use Rattle.search_theory.proofs.BuildingLaws.{solved-sorted}

pub term-same : (u v : CellValue) → IsTrue (has_sort TermSort u) → IsTrue (has_sort TermSort v) → as_term u ≡ as_term v → u ≡ v
term-same (a_term x) (a_term y) f g z = ap a_term z
term-same (a_term x) (a_mark y) f g z = absurd (false≢true g)
term-same (a_term x) (a_string y) f g z = absurd (false≢true g)
term-same (a_mark x) v f g z = absurd (false≢true f)
term-same (a_string x) v f g z = absurd (false≢true f)

-- the first pair, and then the others
pub unified-more : (old mid new : Store) (a b : ℕ) (xs ys : List ℕ) → IsTrue (has_sort_at old TermSort a) → IsTrue (has_sort_at old TermSort b) → IsUnified old mid a b → AreUnified mid new xs ys → AreUnified old new (a ∷ xs) (b ∷ ys)
unified-more old mid new a b xs ys ta tb first rest = record {
  size = rest.size ∙ first.size;
  back = λ σ h.
      let r = rest.back σ h in
      let f = first.back σ r.0 in
      (f.0, ap₂ (λ v ts. more_g_terms (as_term v) ts) f.1 r.1);
  forth = λ σ h e.
      let one : as_term (σ a) ≡ as_term (σ b) = cc e in
      let more : terms_by σ xs ≡ terms_by σ ys = cc e in
      rest.forth σ (first.forth σ h (term-same (σ a) (σ b) (solved-sorted old σ h TermSort a ta) (solved-sorted old σ h TermSort b tb) one)) more;
}

-- the first pair clashes
pub clash-first : (s : Store) (a b : ℕ) (xs ys : List ℕ) → IsTrue (has_sort_at s TermSort a) → IsTrue (has_sort_at s TermSort b) → ((σ : Solution) → Solves s σ → ¬ (σ a ≡ σ b)) → Clash s (a ∷ xs) (b ∷ ys)
clash-first s a b xs ys ta tb apart σ h e =
    let one : as_term (σ a) ≡ as_term (σ b) = cc e in
    apart σ h (term-same (σ a) (σ b) (solved-sorted s σ h TermSort a ta) (solved-sorted s σ h TermSort b tb) one)

-- a later pair clashes
pub clash-later : (old mid : Store) (a b : ℕ) (xs ys : List ℕ) → IsTrue (has_sort_at old TermSort a) → IsTrue (has_sort_at old TermSort b) → IsUnified old mid a b → Clash mid xs ys → Clash old (a ∷ xs) (b ∷ ys)
clash-later old mid a b xs ys ta tb first clash σ h e =
    let one : as_term (σ a) ≡ as_term (σ b) = cc e in
    let more : terms_by σ xs ≡ terms_by σ ys = cc e in
    clash σ (first.forth σ h (term-same (σ a) (σ b) (solved-sorted old σ h TermSort a ta) (solved-sorted old σ h TermSort b tb) one)) more
