-- The sketches that the branches of a transfer stand for.
use Rattle.std.specs.Prelude.{◌≡◌, ⊤, ℕ, suc, ◌≤◌, ◌<◌, List, [], ◌∷◌, ◌++◌, length, map, reverse, take, get_or, Bool, if◌then◌else◌}
use Rattle.calculus.specs.declared.kind.Shape.{Shape}
use Rattle.calculus.specs.declared.kind.Shape.TheVariants.{Beta}
use Rattle.calculus.specs.Derivations as derivation
use Rattle.calculus.specs.Derivations.{new_mark, no_modal, to, by_new, no_term, by_term, by_name}
use Rattle.calculus.specs.Kinds.{Signed}
use Rattle.formula_core.specs.FormulaView.{the_formula}
use Rattle.godel_transfer.specs.ImagesView.{AreImages, images_of, latest}
use Rattle.godel_transfer.specs.Transfer.{CharacterImage, EigenImage, OpenBranch, label_image}
use Rattle.godel_transfer.specs.declared.branches.Branches.{Branches}
use Rattle.godel_transfer.specs.declared.branches.Entry.{Entry}
use Rattle.godel_transfer.specs.declared.branches.Fork.{Fork}
use Rattle.godel_transfer.specs.declared.images.Images.{Images}

abbrev pub the_character_image : ℕ × ℕ → CharacterImage
the_character_image x = record { number = x.0; label = new_mark x.1 ∷ [] }

abbrev pub the_eigen_image : ℕ × ℕ → EigenImage
the_eigen_image x = record { number = x.0; image = x.1 }

abbrev pub the_characters : Images → List CharacterImage
the_characters x = map the_character_image (images_of x)

abbrev pub the_eigens : Images → List EigenImage
the_eigens x = map the_eigen_image (images_of x)

abbrev pub the_entry : List derivation.Label → Entry → derivation.Entry
the_entry labels x = record { sign = x.sign; formula = the_formula x.formula.now; label = get_or labels x.label [] }

abbrev pub branch_by : List derivation.Label → List Entry → ℕ → List (ℕ × ℕ) → List (ℕ × ℕ) → OpenBranch
branch_by labels xs n cs es = record { sequent = map (the_entry labels) xs; places = map (λ (x : Entry). x.place) xs; count = n; characters = map the_character_image cs; eigens = map the_eigen_image es }

abbrev pub waiting_at : List derivation.Label → List Entry → List (ℕ × ℕ) → List (ℕ × ℕ) → Fork → OpenBranch
waiting_at labels xs cs es f = branch_by labels (take f.entries xs ++ f.second ∷ []) f.second.place (latest f.characters cs) (latest f.eigens es)

abbrev pub waiting : List derivation.Label → List Entry → List (ℕ × ℕ) → List (ℕ × ℕ) → List Fork → List OpenBranch
waiting labels xs cs es [] = []
waiting labels xs cs es (f ∷ fs) = waiting_at labels xs cs es f ∷ waiting labels xs cs es fs

abbrev pub the_branch : Branches → OpenBranch
the_branch b = branch_by b.labels b.entries.items b.count (images_of b.characters) (images_of b.eigens)

abbrev pub waiting_in : Branches → List OpenBranch
waiting_in b = waiting b.labels b.entries.items (images_of b.characters) (images_of b.eigens) (reverse b.forks.items)

abbrev pub branches_of : Branches → List OpenBranch
branches_of b = if b.is_open then the_branch b ∷ waiting_in b else []

-- ---- parts of a step

-- the label in S4 to which a step from w leads, where a new character becomes the marks l
abbrev pub label_then_by : List CharacterImage → derivation.Label → derivation.Label → derivation.ModalArg → derivation.Label
label_then_by cs l w no_modal = w
label_then_by cs l w (to v) = label_image cs v
label_then_by cs l w (by_new n) = w ++ l

abbrev pub entry_by : derivation.Label → Signed → derivation.Entry
entry_by w x = record { sign = x.sign; formula = x.formula; label = w }

-- a component more, at the label w, for which the next entry of S4 stands
abbrev pub put_one : OpenBranch → derivation.Label → Signed → OpenBranch
put_one b w x = record { sequent = b.sequent ++ entry_by w x ∷ []; places = b.places ++ suc b.count ∷ []; count = suc b.count; characters = b.characters; eigens = b.eigens }

abbrev pub put_all : OpenBranch → derivation.Label → List Signed → OpenBranch
put_all b w [] = b
put_all b w (x ∷ xs) = put_all (put_one b w x) w xs

abbrev pub put_for : Shape → OpenBranch → derivation.Label → List Signed → List OpenBranch
put_for Beta b w (x ∷ y ∷ []) = put_one b w x ∷ put_one b w y ∷ []
put_for _ b w xs = put_all b w xs ∷ []

-- the image of the character, and that of the eigenvariable, that a step introduces
abbrev pub introduced_by : derivation.ModalArg → ℕ → List (ℕ × ℕ)
introduced_by (by_new n) count = (n, count) ∷ []
introduced_by _ count = []

abbrev pub named_by : derivation.TermArg → ℕ → List (ℕ × ℕ)
named_by (by_name n) number = (n, number) ∷ []
named_by _ number = []

-- ---- what is kept of them

abbrev pub AreWithin : List derivation.Label → List Entry → Type 0
AreWithin labels [] = ⊤
AreWithin labels (x ∷ xs) = (x.label < length labels) × AreWithin labels xs

-- no fork is longer than those in front of it, and none is longer than the branch
abbrev pub Nest : List derivation.Label → ℕ → ℕ → ℕ → List Fork → Type 0
Nest labels n c e [] = ⊤
Nest labels n c e (f ∷ fs) = (f.entries ≤ n) × (f.characters ≤ c) × (f.eigens ≤ e) × (f.second.label < length labels) × Nest labels f.entries f.characters f.eigens fs

pub record IsKept (b : Branches) : Type 0 where
  pub within : AreWithin b.labels b.entries.items
  pub nested : Nest b.labels (length b.entries.items) (length (images_of b.characters)) (length (images_of b.eigens)) (reverse b.forks.items)
  pub characters : AreImages b.characters
  pub eigens : AreImages b.eigens
