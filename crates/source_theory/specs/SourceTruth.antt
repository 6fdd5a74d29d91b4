-- What a formula as it is written says in a structure, by the tables of TPTP and QMLTP. Nothing is expanded or balanced here, and
-- truth is a statement: no truth values are asked for. The structure is one of `Models`, in which a symbol of the problem has the
-- number of its place; what is said here of names speaks of these numbers by `number_of` alone.
use Rattle.std.specs.Prelude.{◌≡◌, ◌⊎◌, List, [], ◌∷◌, length, IsTrue, if◌then◌else◌}
use Rattle.calculus.specs.declared.setting.Logic.{Logic}
use Rattle.calculus.specs.declared.setting.Logic.TheVariants.{Intuitionistic}
use Rattle.calculus.specs.Syntax.{Symbol}
use Rattle.calculus.specs.Models.{Model, Reaches, IsIn}
use Rattle.tptp_reader.specs.declared.source.ChainKind.TheVariants.{And, Or}
use Rattle.tptp_reader.specs.declared.source.BinaryKind.{BinaryKind}
use Rattle.tptp_reader.specs.declared.source.BinaryKind.TheVariants.{Imp, If, Iff, Xor, Nor, Nand}
use Rattle.tptp_reader.specs.Sources.{Name, SourceTerm, variable, apply, SourceTerms, no_terms, more_terms, Source, atom, truth, falsity, equal, unequal, not, chain, binary, for_all, exists, nec, poss, Sources, no_sources, more_sources}
use Rattle.problem_build.specs.Expansion.{function_symbol, predicate_symbol, number_of, same_name}

-- ---- names

-- what the structure gives to the name of a function, and to that of a predicate, with so many arguments
abbrev pub function_of : {W E : Type 0} → Model W E → List Symbol → Name → List E → E
function_of M symbols f es = M.value (number_of symbols (function_symbol f (length es))) es

abbrev pub Holds : {W E : Type 0} → Model W E → List Symbol → Name → W → List E → Type 0
Holds M symbols p w es = IsTrue (M.holds (number_of symbols (predicate_symbol p (length es))) w es)

-- the same elements for all names but for this one
abbrev pub with_element : {E : Type 0} → (Name → E) → Name → E → Name → E
with_element elements x e y = if same_name y x then e else elements y

abbrev mutual
  pub element_of : {W E : Type 0} → Model W E → List Symbol → (Name → E) → SourceTerm → E
  element_of M symbols elements (variable x) = elements x
  element_of M symbols elements (apply f ts) = function_of M symbols f (elements_of M symbols elements ts)

  pub elements_of : {W E : Type 0} → Model W E → List Symbol → (Name → E) → SourceTerms → List E
  elements_of M symbols elements no_terms = []
  elements_of M symbols elements (more_terms t ts) = element_of M symbols elements t ∷ elements_of M symbols elements ts

-- ---- connectives and quantifiers

-- in intuitionistic logic at each successor (Kripke), else here
abbrev pub Lasts : {W E : Type 0} → Logic → Model W E → (W → Type 0) → W → Type 0
Lasts {W} Intuitionistic M A w = (v : W) → Reaches M w v → A v
Lasts _ M A w = A w

-- for each element of the domain: in intuitionistic logic at each successor (Kripke), else here
abbrev pub LastsForEach : {W E : Type 0} → Logic → Model W E → (E → W → Type 0) → W → Type 0
LastsForEach {W} {E} Intuitionistic M A w = (v : W) → Reaches M w v → (x : E) → IsIn M v x → A x v
LastsForEach {W} {E} _ M A w = (x : E) → IsIn M w x → A x w

-- one implies the other, and the other way round
abbrev pub AreAlike : (A B : Type 0) → Type 0
AreAlike A B = (A → B) × (B → A)

-- `=>`, `<=`, `<=>`, `<~>`, `~|` and `~&`: in TPTP the last three are the negations of `<=>`, `|` and `&`
abbrev pub JoinedBy : {W E : Type 0} → Logic → Model W E → BinaryKind → (A B : W → Type 0) → W → Type 0
JoinedBy l M Imp A B = Lasts l M (λ w. A w → B w)
JoinedBy l M If A B = Lasts l M (λ w. B w → A w)
JoinedBy l M Iff A B = Lasts l M (λ w. AreAlike (A w) (B w))
JoinedBy l M Xor A B = Lasts l M (λ w. ¬ Lasts l M (λ v. AreAlike (A v) (B v)) w)
JoinedBy l M Nor A B = Lasts l M (λ w. ¬ (A w ⊎ B w))
JoinedBy l M Nand A B = Lasts l M (λ w. ¬ (A w × B w))

-- `![X, Y ..]: `: for each element as X, for each element as Y and so on
abbrev pub ForEach : {W E : Type 0} → Logic → Model W E → List Name → ((Name → E) → W → Type 0) → (Name → E) → W → Type 0
ForEach l M [] A elements w = A elements w
ForEach l M (x ∷ xs) A elements w = LastsForEach l M (λ e v. ForEach l M xs A (with_element elements x e) v) w

-- `?[X, Y ..]: `
abbrev pub ForSome : {W E : Type 0} → Model W E → List Name → ((Name → E) → W → Type 0) → (Name → E) → W → Type 0
ForSome M [] A elements w = A elements w
ForSome {W} {E} M (x ∷ xs) A elements w = (e : E) × IsIn M w e × ForSome M xs A (with_element elements x e) w

-- ---- formulas

-- `=` is identity. An empty chain, which no text has, is true
abbrev mutual
  pub IsTrueAt : {W E : Type 0} → Logic → Model W E → List Symbol → Source → (Name → E) → W → Type 0
  IsTrueAt l M symbols (atom p ts) elements w = Lasts l M (λ v. Holds M symbols p v (elements_of M symbols elements ts)) w
  IsTrueAt l M symbols truth elements w = Unit {0}
  IsTrueAt l M symbols falsity elements w = ⊥
  IsTrueAt l M symbols (equal s t) elements w = element_of M symbols elements s ≡ element_of M symbols elements t
  IsTrueAt l M symbols (unequal s t) elements w = ¬ (element_of M symbols elements s ≡ element_of M symbols elements t)
  IsTrueAt l M symbols (not a) elements w = Lasts l M (λ v. ¬ IsTrueAt l M symbols a elements v) w
  IsTrueAt l M symbols (chain And bs) elements w = AreTrueAt l M symbols bs elements w
  IsTrueAt l M symbols (chain Or no_sources) elements w = Unit {0}
  IsTrueAt l M symbols (chain Or (more_sources a bs)) elements w = IsTrueAt l M symbols a elements w ⊎ IsOneTrueAt l M symbols bs elements w
  IsTrueAt l M symbols (binary c a b) elements w = JoinedBy l M c (IsTrueAt l M symbols a elements) (IsTrueAt l M symbols b elements) w
  IsTrueAt l M symbols (for_all xs a) elements w = ForEach l M xs (IsTrueAt l M symbols a) elements w
  IsTrueAt l M symbols (exists xs a) elements w = ForSome M xs (IsTrueAt l M symbols a) elements w
  IsTrueAt {W} l M symbols (nec a) elements w = (v : W) → Reaches M w v → IsTrueAt l M symbols a elements v
  IsTrueAt {W} l M symbols (poss a) elements w = (v : W) × Reaches M w v × IsTrueAt l M symbols a elements v

  pub AreTrueAt : {W E : Type 0} → Logic → Model W E → List Symbol → Sources → (Name → E) → W → Type 0
  AreTrueAt l M symbols no_sources elements w = Unit {0}
  AreTrueAt l M symbols (more_sources a bs) elements w = IsTrueAt l M symbols a elements w × AreTrueAt l M symbols bs elements w

  pub IsOneTrueAt : {W E : Type 0} → Logic → Model W E → List Symbol → Sources → (Name → E) → W → Type 0
  IsOneTrueAt l M symbols no_sources elements w = ⊥
  IsOneTrueAt l M symbols (more_sources a bs) elements w = IsTrueAt l M symbols a elements w ⊎ IsOneTrueAt l M symbols bs elements w

-- Free variables stand for each element: it is true whatever elements of the domain all names are
abbrev pub IsTrueForAll : {W E : Type 0} → Logic → Model W E → List Symbol → Source → W → Type 0
IsTrueForAll {W} {E} l M symbols a =
    Lasts l M (λ v. (elements : Name → E) → ((x : Name) → IsIn M v (elements x)) → IsTrueAt l M symbols a elements v)
