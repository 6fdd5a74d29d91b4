-- Lifting: what start, reduction and extension make of a state, and where no tree of ground instances takes a choice.
use Rattle.std.proofs.Common.{◌≡◌, ℕ, List, [], ◌∷◌, ◌++◌, length, map, Bool, true, false, ◌&&◌, IsTrue, refl, sym, ◌∙◌, ap, subst, Option, Some, None, option_and_then, IsSomeAnd, if◌then◌else◌}
use Rattle.std.specs.List.{list_all, AllByRecursion}
use Rattle.std.proofs.lemmas.Bool.{false≢true, and_parts, and_from}
use Rattle.plain_laws.proofs.Every.{all-map}
use Rattle.calculus.specs.declared.sign.Side.{Side}
use Rattle.calculus.specs.Syntax.{Problem}
use Rattle.calculus.specs.Ground.{Value}
use Rattle.calculus.specs.Instances.{ClauseInstance}
use Rattle.calculus.specs.ComputedInstances.{is_instance}
use Rattle.calculus.specs.Tableaux.{is_shown}
use Rattle.calculus.specs.Choices.{start, reduction, extension, Choice, GroundChoice, choices_of, Growth, after_start, grow, growth_of, is_within, IsLive}
use Rattle.store_theory.specs.Stores.{Store, Solution, Solves, names_below}
use Rattle.store_theory.specs.Patterns.{Template}
use Rattle.store_theory.specs.Templates.{pattern_literal, literals_by, have_sorts, is_choice_of_values, clause_by, IsTemplateOf}
use Rattle.search_theory.specs.Matrix.{all_shown}
use Rattle.search_theory.specs.States.{CellClause, CellChoice, State, values_by, literal_by, clause_at, choice_at, growth_at, cell_goals_on, started, atom_is_below, clause_is_below, choice_is_below, goal_is_below, IsAdmittedAt, IsGround, IsStateOf, Agree}
use Rattle.search_theory.specs.Steps.{IsFreshClause}
use Rattle.search_theory.proofs.LastChoice.{none≢some}
use Rattle.search_theory.proofs.ImageLaws.{goals-image, names-image, values-agree}
use Rattle.search_theory.proofs.BelowLaws.{goals-below}
use Rattle.search_theory.specs.DeadEnds.{Grows}

-- ---- instances and copied clauses

-- a copied clause is an instance where its values are admitted
pub instance-at : (P : Problem) (sides : List Side) (t : Template) → IsTemplateOf P sides t → (σ : Solution) (i : CellClause) → i.selection ≡ sides → IsTrue (have_sorts t.sorts (values_by σ i.values)) → map (literal_by σ) i.literals ≡ literals_by (values_by σ i.values) t → IsTrue (is_choice_of_values P (values_by σ i.values)) → IsTrue (is_instance P (clause_at σ i))
instance-at P sides t h σ i e s l a =
    let k = (h.instances (values_by σ i.values) (map (literal_by σ) i.literals)).1 (and_from (have_sorts t.sorts (values_by σ i.values)) (is_choice_of_values P (values_by σ i.values)) s a, l) in
    subst (λ ss. IsTrue (is_instance P (clause_by ss (values_by σ i.values) (map (literal_by σ) i.literals)))) (sym e) k

-- an instance of a selection, by its template
pub record ByTemplate (P : Problem) (t : Template) (j : ClauseInstance) : Type 0 where
  pub sorts : IsTrue (have_sorts t.sorts j.values)
  pub admitted : IsTrue (is_choice_of_values P j.values)
  pub literals : j.literals ≡ literals_by j.values t

pub by-template : (P : Problem) (sides : List Side) (t : Template) → IsTemplateOf P sides t → (j : ClauseInstance) → j.selection ≡ sides → IsTrue (is_instance P j) → ByTemplate P t j
by-template P sides t h j e i =
    let k = (h.instances j.values j.literals).0 (subst (λ ss. IsTrue (is_instance P (clause_by ss j.values j.literals))) e i) in
    let a = and_parts (have_sorts t.sorts j.values) (is_choice_of_values P j.values) k.0 in
    record { sorts = a.0; admitted = a.1; literals = k.1 }

-- a copied clause with these values is this instance
pub clause-found : (P : Problem) (sides : List Side) (t : Template) (τ : Solution) (i : CellClause) (j : ClauseInstance) → i.selection ≡ sides → j.selection ≡ sides → values_by τ i.values ≡ j.values → map (literal_by τ) i.literals ≡ literals_by (values_by τ i.values) t → j.literals ≡ literals_by j.values t → clause_at τ i ≡ j
clause-found P sides t τ i j e f v l m = λ k. record { selection = (e ∙ sym f) k; values = v k; literals = (l ∙ ap (λ vs. literals_by vs t) v ∙ sym m) k }

-- ---- booleans and options

pub if-some : {A : Type 0} (b : Bool) (x y : A) → (if b then Some x else None) ≡ Some y → IsTrue b × (x ≡ y)
if-some true x y e = (refl, some-same x y e)
  where
    some-same : {A : Type 0} (a c : A) → Some a ≡ Some c → a ≡ c
    some-same a c q = cc q
if-some false x y e = none≢some y e

pub if-true : {A : Type 0} (b : Bool) (x : A) → IsTrue b → (if b then Some x else None) ≡ Some x
if-true b x h = rw h refl

pub admitted-all : (P : Problem) (σ : Solution) (cs : List CellChoice) (c : CellChoice) → AllByRecursion (IsAdmittedAt P σ) (cs ++ c ∷ []) → AllByRecursion (IsAdmittedAt P σ) cs × IsAdmittedAt P σ c
admitted-all P σ [] c h = (tt, h.0)
admitted-all P σ (b ∷ cs) c h = let r = admitted-all P σ cs c h.1 in ((h.0, r.0), r.1)

pub admitted-join : (P : Problem) (σ : Solution) (cs : List CellChoice) (c : CellChoice) → AllByRecursion (IsAdmittedAt P σ) cs → IsAdmittedAt P σ c → AllByRecursion (IsAdmittedAt P σ) (cs ++ c ∷ [])
admitted-join P σ [] c h g = (g, tt)
admitted-join P σ (b ∷ cs) c h g = (h.0, admitted-join P σ cs c h.1 g)

pub admitted-agree : (P : Problem) (n : ℕ) (σ τ : Solution) → Agree n σ τ → (cs : List CellChoice) → IsTrue (list_all (choice_is_below n) cs) → AllByRecursion (IsAdmittedAt P σ) cs → AllByRecursion (IsAdmittedAt P τ) cs
admitted-agree P n σ τ a [] b h = tt
admitted-agree P n σ τ a (start i ∷ cs) b h =
    let p = and_parts (clause_is_below n i) (list_all (choice_is_below n) cs) b in
    (subst (λ vs. IsTrue (is_choice_of_values P vs)) (values-agree n σ τ a i.values (and_parts _ _ p.0).0) h.0, admitted-agree P n σ τ a cs p.1 h.1)
admitted-agree P n σ τ a (reduction up ∷ cs) b h = (tt, admitted-agree P n σ τ a cs b h.1)
admitted-agree P n σ τ a (extension i place ∷ cs) b h =
    let p = and_parts (clause_is_below n i) (list_all (choice_is_below n) cs) b in
    (subst (λ vs. IsTrue (is_choice_of_values P vs)) (values-agree n σ τ a i.values (and_parts _ _ p.0).0) h.0, admitted-agree P n σ τ a cs p.1 h.1)

-- a state with a ground solution shows that its list is live
pub live-state : (P : Problem) (d : ℕ) (c : List Choice) (S : State) → IsStateOf P d c S → (σ : Solution) → IsGround P S σ → IsLive P d c
live-state P d c S h σ g = (map (choice_at σ) S.choices, record { choices = names-image σ S.choices ∙ h.names; grows = on-some (growth_of P (map (choice_at σ) S.choices)) (growth_at σ S.growth) (h.sound σ g) h.within })
  where
    on-some : (o : Option Growth) (x : Growth) → o ≡ Some x → IsTrue (is_within d x) → IsSomeAnd o (λ y. IsTrue (is_within d y))
    on-some o x e k = rw e k

-- ---- the start

abbrev pub start_state : Store → CellClause → State
start_state s i = record { store = s; choices = start i ∷ []; growth = started i }

shown-literals : (t : Template) (vs : List Value) → list_all is_shown (literals_by vs t) ≡ all_shown t
shown-literals t vs = all-map (pattern_literal vs) is_shown t.literals

-- the parts of a list with one start
one-start : (P : Problem) (sides : List Side) (gs : List GroundChoice) (x : Growth) → choices_of gs ≡ start sides ∷ [] → growth_of P gs ≡ Some x → (j : ClauseInstance) × (gs ≡ start j ∷ []) × (j.selection ≡ sides) × IsTrue (is_instance P j) × IsTrue (list_all is_shown j.literals)
one-start P sides [] x e g = none≢some x g
one-start P sides (start j ∷ []) x e g =
    let q = if-some (is_instance P j && list_all is_shown j.literals) _ x (once P (after_start P j) x g) in
    let parts = and_parts (is_instance P j) (list_all is_shown j.literals) q.0 in
    let s : j.selection ≡ sides = cc e in
    (j, refl, s, parts.0, parts.1)
  where
    once : (P : Problem) (o : Option Growth) (y : Growth) → option_and_then (grow P []) o ≡ Some y → o ≡ Some y
    once P None y h = h
    once P (Some z) y h = h
one-start P sides (start j ∷ h ∷ hs) x e g = cc e
one-start P sides (reduction up ∷ gs) x e g = none≢some x g
one-start P sides (extension j place ∷ gs) x e g = none≢some x g

pub state-started : (P : Problem) (d : ℕ) (sides : List Side) (t : Template) (old new : Store) (i : CellClause) (σ₀ : Solution) → IsTemplateOf P sides t → IsTrue (all_shown t) → IsFreshClause old new sides t i → Solves old σ₀ → IsStateOf P d (start sides ∷ []) (start_state new i)
state-started P d sides t old new i σ₀ h shown k s₀ = record {
  names = ap (λ ss. start ss ∷ []) k.selection;
  within = refl;
  cells = record { choices = and_from (clause_is_below (length new.cells) i) true k.names refl; open_goals = goals; all_goals = goals };
  sound = λ σ g.
      let b = k.back σ g.solves in
      let l = b.2 in
      let j = instance-at P sides t h σ i k.selection b.1 l g.admitted.0 in
      let all_shown : IsTrue (list_all is_shown (map (literal_by σ) i.literals)) = ap (list_all is_shown) l ∙ shown-literals t (values_by σ i.values) ∙ shown in
      ap (option_and_then (grow P [])) (if-true (is_instance P (clause_at σ i) && list_all is_shown (map (literal_by σ) i.literals)) _ (and_from (is_instance P (clause_at σ i)) (list_all is_shown (map (literal_by σ) i.literals)) j all_shown))
      ∙ (λ m. Some (record { open_goals = sym (goals-image σ [] i.literals) m; all_goals = sym (goals-image σ [] i.literals) m; depths = [] }));
  complete = λ gs x e g.
      let (j, is, selected, inst, all_shown) = one-start P sides gs x e g in
      let m = by-template P sides t h j selected inst in
      let (τ, s, a, v) = k.forth σ₀ s₀ j.values m.sorts in
      let b = k.back τ s in
      let found = clause-found P sides t τ i j k.selection selected v b.2 m.literals in
      (τ, record { solves = s; admitted = (subst (λ vs. IsTrue (is_choice_of_values P vs)) (sym v) m.admitted, tt) }, ap (λ c. start c ∷ []) found ∙ sym is);
}
  where
    goals : IsTrue (list_all (goal_is_below (length new.cells)) (cell_goals_on [] i.literals))
    goals = goals-below (length new.cells) [] i.literals refl (and_parts (names_below (length new.cells) i.values) (list_all (atom_is_below (length new.cells)) i.literals) k.names).1

-- a clause with a literal of sign T starts no tree
pub no-start : (P : Problem) (sides : List Side) (t : Template) → IsTemplateOf P sides t → all_shown t ≡ false → ¬ Grows P (start sides ∷ [])
no-start P sides t h not_shown (gs, x, e, g) =
    let (j, is, selected, inst, all_shown) = one-start P sides gs x e g in
    let m = by-template P sides t h j selected inst in
    false≢true (sym not_shown ∙ sym (shown-literals t j.values) ∙ sym (ap (list_all is_shown) m.literals) ∙ all_shown)
