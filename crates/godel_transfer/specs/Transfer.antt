-- The transfer of an intuitionistic derivation: the steps that derive Goedel's translation of its formula in S4 with cumulative domains.
-- A box is stepped together with what stands below it, and that of an atom only for an axiom. So a step on an atom becomes no step, and
-- of a label only the characters stay that other steps introduced. A name that no step introduced becomes the spare constant 1.
use Rattle.std.specs.Prelude.{ℕ, zero, suc, ◌+◌, List, [], ◌∷◌, ◌++◌, length, Bool, true, false, ◌==◌, Option, Some, None, Result, Ok, if◌then◌else◌}
use Rattle.calculus.specs.declared.setting.Logic.TheVariants.{Intuitionistic}
use Rattle.calculus.specs.declared.fault.StepFault.{StepFault}
use Rattle.calculus.specs.Syntax.{Term, Terms, var, fun, eigen, spare, no_terms, more_terms, Formula, atom, neg, conj, disj, imp, all, ex, box, dia, Problem}
use Rattle.calculus.specs.Kinds.{components}
use Rattle.calculus.specs.Derivations.{Mark, new_mark, Label, character_eq, Entry, Sequent, anywhere, EigenName, SpareName, Names, ModalArg, no_modal, to, by_new, TermArg, no_term, by_term, by_name, Step, apply_to, close, Derivation, first_sequent}
use Rattle.calculus.specs.Calculus.{Children, one, two, label_after, entry_of, apply}

-- ---- what labels, terms and formulas become

-- the character that a step introduced becomes this label, which has one character or none
pub record CharacterImage : Type 0 where
  pub number : ℕ
  pub label : Label

-- the eigenvariable that a step introduced gets another number
pub record EigenImage : Type 0 where
  pub number : ℕ
  pub image : ℕ

-- the latest image stands first; what was not introduced is left out
abbrev pub mark_image : List CharacterImage → Mark → Label
mark_image [] m = []
mark_image (x ∷ xs) m = if character_eq (new_mark x.number) m then x.label else mark_image xs m

abbrev pub label_image : List CharacterImage → Label → Label
label_image xs [] = []
label_image xs (m ∷ w) = mark_image xs m ++ label_image xs w

abbrev pub eigen_image : List EigenImage → ℕ → Term
eigen_image [] n = spare 1
eigen_image (x ∷ xs) n = if x.number == n then eigen x.image else eigen_image xs n

abbrev mutual
  pub term_image : List EigenImage → Term → Term
  term_image xs (var k) = var k
  term_image xs (fun f ts) = fun f (terms_image xs ts)
  term_image xs (eigen n) = eigen_image xs n
  term_image xs (spare n) = spare 1

  pub terms_image : List EigenImage → Terms → Terms
  terms_image xs no_terms = no_terms
  terms_image xs (more_terms t ts) = more_terms (term_image xs t) (terms_image xs ts)

abbrev pub formula_image : List EigenImage → Formula → Formula
formula_image xs (atom p ts) = atom p (terms_image xs ts)
formula_image xs (neg a) = neg (formula_image xs a)
formula_image xs (conj a b) = conj (formula_image xs a) (formula_image xs b)
formula_image xs (disj a b) = disj (formula_image xs a) (formula_image xs b)
formula_image xs (imp a b) = imp (formula_image xs a) (formula_image xs b)
formula_image xs (all a) = all (formula_image xs a)
formula_image xs (ex a) = ex (formula_image xs a)
formula_image xs (box a) = box (formula_image xs a)
formula_image xs (dia a) = dia (formula_image xs a)

-- ---- open branches

-- an open branch: its sequent, for each entry the number of the one that stands for it in S4, how many entries there are in S4, and
-- what the introduced characters and eigenvariables became
pub record OpenBranch : Type 0 where
  pub sequent : Sequent
  pub places : List ℕ
  pub count : ℕ
  pub characters : List CharacterImage
  pub eigens : List EigenImage

abbrev pub first_branch : Problem → OpenBranch
first_branch P = record { sequent = first_sequent P; places = 1 ∷ []; count = 1; characters = []; eigens = [] }

abbrev pub item_or_0 : List ℕ → ℕ → ℕ
item_or_0 [] k = 0
item_or_0 (p ∷ ps) zero = p
item_or_0 (p ∷ ps) (suc k) = item_or_0 ps k

-- entries are numbered from 1
abbrev pub place_of : List ℕ → ℕ → ℕ
place_of ps zero = 0
place_of ps (suc k) = item_or_0 ps k

-- a step leads past the box of the translation and a second one on
abbrev pub has_two_steps : Formula → Bool
has_two_steps (neg a) = true
has_two_steps (imp a b) = true
has_two_steps (all a) = true
has_two_steps _ = false

-- as many numbers as there are items, from n
abbrev pub numbers_for : {A : Type 0} → ℕ → List A → List ℕ
numbers_for n [] = []
numbers_for n (x ∷ xs) = n ∷ numbers_for (suc n) xs

-- ---- one step. A new character gets the number of entries before it, the eigenvariable of the i-th step of all the number i

abbrev pub modal_image : OpenBranch → ModalArg → ModalArg
modal_image b no_modal = no_modal
modal_image b (to v) = to (label_image b.characters v)
modal_image b (by_new n) = by_new b.count

abbrev pub argument_image : OpenBranch → ℕ → TermArg → TermArg
argument_image b i no_term = no_term
argument_image b i (by_term t) = by_term (term_image b.eigens t)
argument_image b i (by_name n) = by_name i

abbrev pub new_character : OpenBranch → Formula → Label
new_character b (atom p ts) = []
new_character b _ = new_mark b.count ∷ []

abbrev pub characters_after : OpenBranch → Formula → ModalArg → List CharacterImage
characters_after b a no_modal = b.characters
characters_after b a (to v) = b.characters
characters_after b a (by_new n) = record { number = n; label = new_character b a } ∷ b.characters

abbrev pub eigens_after : OpenBranch → ℕ → TermArg → List EigenImage
eigens_after b i no_term = b.eigens
eigens_after b i (by_term t) = b.eigens
eigens_after b i (by_name n) = record { number = n; image = i } ∷ b.eigens

-- the number of entries in S4 before the components come
abbrev pub count_before : OpenBranch → Formula → ℕ
count_before b a = if has_two_steps a then suc b.count else b.count

abbrev pub use_steps : OpenBranch → ℕ → ℕ → Formula → ModalArg → TermArg → List Step
use_steps b i p (atom r ts) m t = []
use_steps b i p a m t =
    if has_two_steps a
    then apply_to p (modal_image b m) no_term ∷ apply_to (suc b.count) no_modal (argument_image b i t) ∷ []
    else apply_to p (modal_image b m) (argument_image b i t) ∷ []

-- an axiom: past the box of the F atom, which stands at the label v, by a new character, past that of the T atom to the same label
abbrev pub axiom_to : ℕ → ℕ → ℕ → Label → List Step
axiom_to n g f v =
    apply_to f (by_new n) no_term
    ∷ apply_to g (to (v ++ new_mark n ∷ [])) no_term
    ∷ close (suc (suc n)) (suc n)
    ∷ []

abbrev pub axiom_steps : OpenBranch → ℕ → ℕ → Label → List Step
axiom_steps b g f w = axiom_to b.count g f (label_image b.characters w)

abbrev pub places_added : {A : Type 0} → OpenBranch → ℕ → Formula → List A → List ℕ
places_added b p (atom r ts) xs = p ∷ []
places_added b p a xs = numbers_for (suc (count_before b a)) xs

abbrev pub count_after : {A : Type 0} → OpenBranch → Formula → List A → ℕ
count_after b (atom r ts) xs = b.count
count_after b a xs = count_before b a + length xs

-- the branch with a child's sequent, which has the entries xs more
abbrev pub branch_after : {A : Type 0} → OpenBranch → ℕ → ℕ → Formula → ModalArg → TermArg → List A → Sequent → OpenBranch
branch_after b i p a m t xs s = record { sequent = s; places = b.places ++ places_added b p a xs; count = count_after b a xs; characters = characters_after b a m; eigens = eigens_after b i t }

abbrev pub branches_by : OpenBranch → ℕ → ℕ → Entry → ModalArg → TermArg → Result Children StepFault → List OpenBranch
branches_by b i p e m t (Ok (one s)) = branch_after b i p e.formula m t (components e.sign e.formula) s ∷ []
branches_by b i p e m t (Ok (two s u)) = branch_after b i p e.formula m t (e ∷ []) s ∷ branch_after b i p e.formula m t (e ∷ []) u ∷ []
branches_by b i p e m t _ = []

abbrev pub steps_at : OpenBranch → ℕ → ℕ → Option Entry → ModalArg → TermArg → List Step
steps_at b i p None m t = []
steps_at b i p (Some e) m t = use_steps b i p e.formula m t

abbrev pub axiom_at : OpenBranch → ℕ → ℕ → Option Entry → List Step
axiom_at b g f None = []
axiom_at b g f (Some e) = axiom_steps b g f e.label

abbrev pub steps_for : OpenBranch → ℕ → Step → List Step
steps_for b i (apply_to n m t) = steps_at b i (place_of b.places n) (entry_of b.sequent n) m t
steps_for b i (close n k) = axiom_at b (place_of b.places n) (place_of b.places k) (entry_of b.sequent k)

-- the introduced eigenvariable, with the label to which the step leads as its home
abbrev pub name_at : ℕ → Label → TermArg → List EigenName
name_at i v (by_name n) = record { number = i; home = v } ∷ []
name_at i v _ = []

abbrev pub names_by : OpenBranch → ℕ → Entry → ModalArg → TermArg → List EigenName
names_by b i e m t = name_at i (label_image (characters_after b e.formula m) (label_after Intuitionistic e.label m)) t

abbrev pub names_at : OpenBranch → ℕ → Option Entry → ModalArg → TermArg → List EigenName
names_at b i None m t = []
names_at b i (Some e) m t = names_by b i e m t

abbrev pub names_for : OpenBranch → ℕ → Step → List EigenName
names_for b i (apply_to n m t) = names_at b i (entry_of b.sequent n) m t
names_for b i (close n k) = []

abbrev pub branches_at : Problem → Names → OpenBranch → ℕ → ℕ → Option Entry → ModalArg → TermArg → Step → List OpenBranch
branches_at P names b i p None m t x = []
branches_at P names b i p (Some e) m t x = branches_by b i p e m t (apply P names b.sequent x)

abbrev pub branches_for : Problem → Names → OpenBranch → ℕ → Step → List OpenBranch
branches_for P names b i (apply_to n m t) = branches_at P names b i (place_of b.places n) (entry_of b.sequent n) m t (apply_to n m t)
branches_for P names b i (close n k) = []

-- ---- all steps: the open branches are closed in turn, the first one first

abbrev pub steps_from : Problem → Names → List OpenBranch → ℕ → List Step → List Step
steps_from P names bs i [] = []
steps_from P names [] i (x ∷ xs) = []
steps_from P names (b ∷ bs) i (x ∷ xs) = steps_for b i x ++ steps_from P names (branches_for P names b i x ++ bs) (suc i) xs

abbrev pub names_from : Problem → Names → List OpenBranch → ℕ → List Step → List EigenName
names_from P names bs i [] = []
names_from P names [] i (x ∷ xs) = []
names_from P names (b ∷ bs) i (x ∷ xs) = names_for b i x ++ names_from P names (branches_for P names b i x ++ bs) (suc i) xs

abbrev pub spare_anywhere : SpareName
spare_anywhere = record { number = 1; home = anywhere }

abbrev pub names_with : List EigenName → Names
names_with eigens = record { eigens = eigens; spares = spare_anywhere ∷ [] }

abbrev pub transferred : Problem → Derivation → Derivation
transferred P d = record { limit = d.limit; names = names_with (names_from P d.names (first_branch P ∷ []) 1 d.steps); steps = steps_from P d.names (first_branch P ∷ []) 1 d.steps }
