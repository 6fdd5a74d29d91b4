-- Patterns of terms and marks with numbered variables, and their copies in a store.
use Rattle.std.specs.Prelude.{◌≡◌, ℕ, suc, ◌+◌, List, [], ◌∷◌, ◌++◌, Bool, true, false, ◌&&◌, ◌||◌, Some, nat_le, remove, slice_get, refl}
use Rattle.std.specs.List.{list_all}
use Rattle.std.specs.Option.{option_map_or}
use Rattle.calculus.specs.declared.sign.Sign.{Sign}
use Rattle.std.specs.Coded.{Coded, coded_list}
use base.Stored.{Gv, gnil, gnum, gcons}
use Rattle.calculus.specs.declared.sort.Sort.{Sort}
use Rattle.calculus.specs.declared.sort.Sort.TheVariants.{TermSort, MarkSort, StringSort}
use Rattle.calculus.specs.Equality.{sort_eq}
use Rattle.store_theory.specs.Stores.{Cell, fun_cell, eigen_cell, new_cell, Store, sort_at, has_sort_at, GammaCell}
use Rattle.store_theory.specs.Systems.{CellAtom, is_cell_atom, is_gamma_cell}

mutual
  pub data Pattern : Type 0 where
    p_var : ℕ → Pattern
    p_fun : ℕ → Patterns → Pattern
    p_eigen : ℕ → Patterns → Pattern
    p_new : ℕ → Patterns → Pattern

  pub data Patterns : Type 0 where
    no_patterns : Patterns
    more_patterns : Pattern → Patterns → Patterns

abbrev pub patterns_tree : List Pattern → Patterns
patterns_tree [] = no_patterns
patterns_tree (p ∷ ps) = more_patterns p (patterns_tree ps)

-- ---- copies

-- the cell r is the pattern over these variables
abbrev mutual
  pub IsCopy : Store → List ℕ → Pattern → ℕ → Type 0
  IsCopy s variables (p_var k) r = slice_get variables k ≡ Some r
  IsCopy s variables (p_fun f ps) r = (rs : List ℕ) × (slice_get s.cells r ≡ Some (fun_cell f rs)) × AreCopies s variables ps rs
  IsCopy s variables (p_eigen p ps) r = (rs : List ℕ) × (slice_get s.cells r ≡ Some (eigen_cell p rs)) × AreCopies s variables ps rs
  IsCopy s variables (p_new p ps) r = (rs : List ℕ) × (slice_get s.cells r ≡ Some (new_cell p rs)) × AreCopies s variables ps rs

  pub AreCopies : Store → List ℕ → Patterns → List ℕ → Type 0
  AreCopies s variables no_patterns rs = rs ≡ []
  AreCopies s variables (more_patterns p ps) rs = (r : ℕ) × (qs : List ℕ) × (rs ≡ r ∷ qs) × IsCopy s variables p r × AreCopies s variables ps qs

-- nothing but new cells came to the store
abbrev pub Grows : Store → Store → Type 0
Grows before after = (more : List Cell) × (after.cells ≡ before.cells ++ more) × (after.trail ≡ before.trail)

-- ---- clauses

-- a signed atom with its label
pub record PatternAtom : Type 0 where
  pub sign : Sign
  pub symbol : ℕ
  pub args : List Pattern
  pub label : List Pattern

-- a gamma term with its label
pub record PatternGamma : Type 0 where
  pub term : Pattern
  pub label : List Pattern

-- literals, the strings of the nu steps, the number of pi steps, the gamma terms, and the sorts of the variables
pub record Template : Type 0 where
  pub literals : List PatternAtom
  pub strings : List Pattern
  pub pis : ℕ
  pub gammas : List PatternGamma
  pub sorts : List Sort

-- the same over cells
pub record CopiedClause : Type 0 where
  pub literals : List CellAtom
  pub strings : List ℕ
  pub pis : ℕ
  pub gammas : List GammaCell

-- ---- fitting sorts

abbrev mutual
  -- the pattern is of this sort, where the variables have these sorts
  pub pattern_fits : List Sort → Sort → Pattern → Bool
  pattern_fits sorts sort (p_var k) = option_map_or (sort_eq sort) (slice_get sorts k) false
  pattern_fits sorts sort (p_fun f ps) = sort_eq sort TermSort && are_term_patterns sorts ps
  pattern_fits sorts sort (p_eigen p ps) = sort_eq sort TermSort && are_value_patterns sorts ps
  pattern_fits sorts sort (p_new p ps) = sort_eq sort MarkSort && are_value_patterns sorts ps

  pub are_term_patterns : List Sort → Patterns → Bool
  are_term_patterns sorts no_patterns = true
  are_term_patterns sorts (more_patterns p ps) = pattern_fits sorts TermSort p && are_term_patterns sorts ps

  -- the values taken on a way are terms and strings
  pub are_value_patterns : List Sort → Patterns → Bool
  are_value_patterns sorts no_patterns = true
  are_value_patterns sorts (more_patterns p ps) = (pattern_fits sorts TermSort p || pattern_fits sorts StringSort p) && are_value_patterns sorts ps

-- a label joins marks and strings
abbrev pub is_label_pattern : List Sort → List Pattern → Bool
is_label_pattern sorts ps = list_all (λ p. pattern_fits sorts MarkSort p || pattern_fits sorts StringSort p) ps

abbrev pub atom_fits : List Sort → PatternAtom → Bool
atom_fits sorts a = list_all (pattern_fits sorts TermSort) a.args && is_label_pattern sorts a.label

abbrev pub gamma_fits : List Sort → PatternGamma → Bool
gamma_fits sorts g = pattern_fits sorts TermSort g.term && is_label_pattern sorts g.label

-- each variable has a sort, and each pattern that of its place
abbrev pub template_fits : Template → Bool
template_fits t = list_all (atom_fits t.sorts) t.literals && list_all (pattern_fits t.sorts StringSort) t.strings && list_all (gamma_fits t.sorts) t.gammas

-- ---- copies of a clause

pub record IsAtomCopy (s : Store) (variables : List ℕ) (a : PatternAtom) (c : CellAtom) : Type 0 where
  pub sign : c.sign ≡ a.sign
  pub symbol : c.symbol ≡ a.symbol
  pub args : AreCopies s variables (patterns_tree a.args) c.args
  pub label : AreCopies s variables (patterns_tree a.label) c.label

pub record IsGammaCopy (s : Store) (variables : List ℕ) (g : PatternGamma) (c : GammaCell) : Type 0 where
  pub term : IsCopy s variables g.term c.term
  pub label : AreCopies s variables (patterns_tree g.label) c.label

abbrev pub AreAtomCopies : Store → List ℕ → List PatternAtom → List CellAtom → Type 0
AreAtomCopies s variables [] cs = cs ≡ []
AreAtomCopies s variables (a ∷ others) cs = (c : CellAtom) × (ds : List CellAtom) × (cs ≡ c ∷ ds) × IsAtomCopy s variables a c × AreAtomCopies s variables others ds

abbrev pub AreGammaCopies : Store → List ℕ → List PatternGamma → List GammaCell → Type 0
AreGammaCopies s variables [] cs = cs ≡ []
AreGammaCopies s variables (g ∷ gs) cs = (c : GammaCell) × (ds : List GammaCell) × (cs ≡ c ∷ ds) × IsGammaCopy s variables g c × AreGammaCopies s variables gs ds

-- the cells are the template's clause over these variables
pub record IsClauseCopy (s : Store) (variables : List ℕ) (t : Template) (c : CopiedClause) : Type 0 where
  pub literals : AreAtomCopies s variables t.literals c.literals
  pub strings : AreCopies s variables (patterns_tree t.strings) c.strings
  pub pis : c.pis ≡ t.pis
  pub gammas : AreGammaCopies s variables t.gammas c.gammas

-- the template without the literal at this place
abbrev pub without_literal : ℕ → Template → Template
without_literal place t = record t { literals = remove t.literals place }

-- the cells at these places have these sorts
abbrev pub HaveSortsAt : Store → List Sort → List ℕ → Type 0
HaveSortsAt s [] rs = rs ≡ []
HaveSortsAt s (sort ∷ sorts) rs = (r : ℕ) × (qs : List ℕ) × (rs ≡ r ∷ qs) × (sort_at s r ≡ Some sort) × HaveSortsAt s sorts qs

-- all that it names has the number n or a greater one
abbrev pub atom_is_from : ℕ → CellAtom → Bool
atom_is_from n c = list_all (nat_le n) c.args && list_all (nat_le n) c.label

abbrev pub gamma_is_from : ℕ → GammaCell → Bool
gamma_is_from n g = nat_le n g.term && list_all (nat_le n) g.label

abbrev pub clause_is_from : ℕ → CopiedClause → Bool
clause_is_from n c = list_all (atom_is_from n) c.literals && list_all (nat_le n) c.strings && list_all (gamma_is_from n) c.gammas

-- each cell has the sort that its place asks for
abbrev pub clause_fits : Store → CopiedClause → Bool
clause_fits s c = list_all (is_cell_atom s) c.literals && list_all (has_sort_at s StringSort) c.strings && list_all (is_gamma_cell s) c.gammas

-- ---- what models of program types need

abbrev mutual
  pub pattern_size : Pattern → ℕ
  pattern_size (p_var k) = 1
  pattern_size (p_fun f ps) = suc (patterns_size ps)
  pattern_size (p_eigen p ps) = suc (patterns_size ps)
  pattern_size (p_new p ps) = suc (patterns_size ps)

  pub patterns_size : Patterns → ℕ
  patterns_size no_patterns = 0
  patterns_size (more_patterns p ps) = suc (pattern_size p + patterns_size ps)

abbrev pub pattern_list_size : List Pattern → ℕ
pattern_list_size ps = patterns_size (patterns_tree ps)

abbrev mutual
  pub pattern_gv : Pattern → Gv
  pattern_gv (p_var k) = gcons (gnum 0) (gnum k)
  pattern_gv (p_fun f ps) = gcons (gnum 1) (gcons (gnum f) (patterns_gv ps))
  pattern_gv (p_eigen p ps) = gcons (gnum 2) (gcons (gnum p) (patterns_gv ps))
  pattern_gv (p_new p ps) = gcons (gnum 3) (gcons (gnum p) (patterns_gv ps))

  pub patterns_gv : Patterns → Gv
  patterns_gv no_patterns = gnil
  patterns_gv (more_patterns p ps) = gcons (pattern_gv p) (patterns_gv ps)

mutual
  pub pattern_gv-inj : (x y : Pattern) → pattern_gv x ≡ pattern_gv y → x ≡ y
  pattern_gv-inj (p_var k) (p_var k') q = cc
  pattern_gv-inj (p_var k) _ q = cc
  pattern_gv-inj (p_fun f ps) (p_fun f' ps') q = let e : patterns_gv ps ≡ patterns_gv ps' = cc in let h = patterns_gv-inj ps ps' e in cc
  pattern_gv-inj (p_fun f ps) _ q = cc
  pattern_gv-inj (p_eigen f ps) (p_eigen f' ps') q = let e : patterns_gv ps ≡ patterns_gv ps' = cc in let h = patterns_gv-inj ps ps' e in cc
  pattern_gv-inj (p_eigen f ps) _ q = cc
  pattern_gv-inj (p_new f ps) (p_new f' ps') q = let e : patterns_gv ps ≡ patterns_gv ps' = cc in let h = patterns_gv-inj ps ps' e in cc
  pattern_gv-inj (p_new f ps) _ q = cc

  pub patterns_gv-inj : (x y : Patterns) → patterns_gv x ≡ patterns_gv y → x ≡ y
  patterns_gv-inj no_patterns no_patterns q = refl
  patterns_gv-inj no_patterns (more_patterns y ys) q = cc
  patterns_gv-inj (more_patterns x xs) no_patterns q = cc
  patterns_gv-inj (more_patterns x xs) (more_patterns y ys) q = let e : pattern_gv x ≡ pattern_gv y = cc in let d : patterns_gv xs ≡ patterns_gv ys = cc in let h = pattern_gv-inj x y e in let k = patterns_gv-inj xs ys d in cc

abbrev pub pattern_code : Coded Pattern
pattern_code = record { code = pattern_gv; inj = pattern_gv-inj }

abbrev pub pattern_list_code : Coded (List Pattern)
pattern_list_code = coded_list pattern_code
