-- Images of a state's parts under ground values for its cells.
use Rattle.std.proofs.Common.{◌≡◌, ℕ, zero, suc, List, [], ◌∷◌, ◌++◌, map, take, drop, remove, Bool, IsTrue, refl, sym, ◌∙◌, ap, ap₂, nat_lt}
use Rattle.std.specs.List.{list_all}
use Rattle.std.proofs.lemmas.Bool.{and_parts}
use Rattle.std.proofs.lemmas.List.{map-append}
use Rattle.calculus.specs.Ground.{more_g_terms}
use Rattle.calculus.specs.Choices.{start, reduction, extension, goals_on, choices_of}
use Rattle.store_theory.specs.Stores.{Solution, names_below}
use Rattle.store_theory.specs.Systems.{CellAtom}
use Rattle.store_theory.specs.Templates.{as_term, as_value, as_label}
use Rattle.search_theory.specs.States.{CellClause, CellChoice, CellGoal, terms_by, label_by, values_by, literal_by, clause_at, choice_at, goal_at, cell_goals_on, new_cell_goals, atom_is_below, clause_is_below, choice_is_below, name_of, Agree}

-- ---- removing, and goals

take-map : {A B : Type 0} (f : A → B) (n : ℕ) (xs : List A) → take n (map f xs) ≡ map f (take n xs)
take-map f zero xs = refl
take-map f (suc n) [] = refl
take-map f (suc n) (x ∷ xs) = ap (λ ys. f x ∷ ys) (take-map f n xs)

drop-of-map : {A B : Type 0} (f : A → B) (n : ℕ) (xs : List A) → drop n (map f xs) ≡ map f (drop n xs)
drop-of-map f zero xs = refl
drop-of-map f (suc n) [] = refl
drop-of-map f (suc n) (x ∷ xs) = drop-of-map f n xs

pub remove-map : {A B : Type 0} (f : A → B) (xs : List A) (n : ℕ) → remove (map f xs) n ≡ map f (remove xs n)
remove-map f xs n = ap₂ (λ a b. a ++ b) (take-map f n xs) (drop-of-map f (suc n) xs) ∙ sym (map-append f (take n xs) (drop (suc n) xs))

pub goals-image : (σ : Solution) (path literals : List CellAtom) → map (goal_at σ) (cell_goals_on path literals) ≡ goals_on (map (literal_by σ) path) (map (literal_by σ) literals)
goals-image σ path [] = refl
goals-image σ path (x ∷ xs) = ap (λ gs. goal_at σ (record { literal = x; path = path }) ∷ gs) (goals-image σ path xs)

pub new_goals-image : (σ : Solution) (g : CellGoal) (i : CellClause) (place : ℕ) → map (goal_at σ) (new_cell_goals g i place) ≡ goals_on (literal_by σ g.literal ∷ map (literal_by σ) g.path) (remove (map (literal_by σ) i.literals) place)
new_goals-image σ g i place = goals-image σ (g.literal ∷ g.path) (remove i.literals place) ∙ ap (goals_on (literal_by σ g.literal ∷ map (literal_by σ) g.path)) (sym (remove-map (literal_by σ) i.literals place))

pub names-image : (σ : Solution) (cs : List CellChoice) → choices_of (map (choice_at σ) cs) ≡ map name_of cs
names-image σ [] = refl
names-image σ (start i ∷ cs) = ap (λ xs. start i.selection ∷ xs) (names-image σ cs)
names-image σ (reduction up ∷ cs) = ap (λ xs. reduction up ∷ xs) (names-image σ cs)
names-image σ (extension i place ∷ cs) = ap (λ xs. extension i.selection place ∷ xs) (names-image σ cs)

-- ---- solutions that agree on the cells give the same images

pub terms-agree : (n : ℕ) (σ τ : Solution) → Agree n σ τ → (rs : List ℕ) → IsTrue (names_below n rs) → terms_by σ rs ≡ terms_by τ rs
terms-agree n σ τ a [] h = refl
terms-agree n σ τ a (r ∷ rs) h = let p = and_parts (nat_lt r n) (names_below n rs) h in ap₂ (λ v ts. more_g_terms (as_term v) ts) (a r p.0) (terms-agree n σ τ a rs p.1)

pub label-agree : (n : ℕ) (σ τ : Solution) → Agree n σ τ → (rs : List ℕ) → IsTrue (names_below n rs) → label_by σ rs ≡ label_by τ rs
label-agree n σ τ a [] h = refl
label-agree n σ τ a (r ∷ rs) h = let p = and_parts (nat_lt r n) (names_below n rs) h in ap₂ (λ v w. as_label v ++ w) (a r p.0) (label-agree n σ τ a rs p.1)

pub values-agree : (n : ℕ) (σ τ : Solution) → Agree n σ τ → (rs : List ℕ) → IsTrue (names_below n rs) → values_by σ rs ≡ values_by τ rs
values-agree n σ τ a [] h = refl
values-agree n σ τ a (r ∷ rs) h = let p = and_parts (nat_lt r n) (names_below n rs) h in ap₂ (λ v vs. as_value v ∷ vs) (a r p.0) (values-agree n σ τ a rs p.1)

pub literal-agree : (n : ℕ) (σ τ : Solution) → Agree n σ τ → (x : CellAtom) → IsTrue (atom_is_below n x) → literal_by σ x ≡ literal_by τ x
literal-agree n σ τ a x h =
    let p = and_parts (names_below n x.args) (names_below n x.label) h in
    ap₂ (λ ts w. record { sign = x.sign; symbol = x.symbol; args = ts; label = w }) (terms-agree n σ τ a x.args p.0) (label-agree n σ τ a x.label p.1)

pub map-agree : {A B : Type 0} (p : A → Bool) (f g : A → B) → ((x : A) → IsTrue (p x) → f x ≡ g x) → (xs : List A) → IsTrue (list_all p xs) → map f xs ≡ map g xs
map-agree p f g k [] h = refl
map-agree p f g k (x ∷ xs) h = let q = and_parts (p x) (list_all p xs) h in ap₂ (λ y ys. y ∷ ys) (k x q.0) (map-agree p f g k xs q.1)

pub literals-agree : (n : ℕ) (σ τ : Solution) → Agree n σ τ → (xs : List CellAtom) → IsTrue (list_all (atom_is_below n) xs) → map (literal_by σ) xs ≡ map (literal_by τ) xs
literals-agree n σ τ a = map-agree (atom_is_below n) (literal_by σ) (literal_by τ) (literal-agree n σ τ a)

clause-agree : (n : ℕ) (σ τ : Solution) → Agree n σ τ → (i : CellClause) → IsTrue (clause_is_below n i) → clause_at σ i ≡ clause_at τ i
clause-agree n σ τ a i h =
    let p = and_parts (names_below n i.values) (list_all (atom_is_below n) i.literals) h in
    ap₂ (λ vs xs. record { selection = i.selection; values = vs; literals = xs }) (values-agree n σ τ a i.values p.0) (literals-agree n σ τ a i.literals p.1)

choice-agree : (n : ℕ) (σ τ : Solution) → Agree n σ τ → (c : CellChoice) → IsTrue (choice_is_below n c) → choice_at σ c ≡ choice_at τ c
choice-agree n σ τ a (start i) h = ap start (clause-agree n σ τ a i h)
choice-agree n σ τ a (reduction up) h = refl
choice-agree n σ τ a (extension i place) h = ap (λ j. extension j place) (clause-agree n σ τ a i h)

pub choices-agree : (n : ℕ) (σ τ : Solution) → Agree n σ τ → (cs : List CellChoice) → IsTrue (list_all (choice_is_below n) cs) → map (choice_at σ) cs ≡ map (choice_at τ) cs
choices-agree n σ τ a = map-agree (choice_is_below n) (choice_at σ) (choice_at τ) (choice-agree n σ τ a)
