-- An extension whose connected literal is matched against the goal and not copied.
use Rattle.std.proofs.Common.{◌≡◌, ◌≤◌, ◌∷◌, [], ℕ, zero, suc, List, length, map, remove, true, false, not, Some, slice_get, IsTrue, refl, sym, ◌∙◌, ap, ap₂, arith, ltb-true, lt-ltb, nat_lt}
use Rattle.std.specs.List.{list_all}
use Rattle.std.proofs.lemmas.Bool.{and_from, and_parts}
use Rattle.plain_laws.proofs.Places.{map-there}
use Rattle.calculus.specs.declared.sign.Side.{Side}
use Rattle.calculus.specs.declared.sort.Sort.TheVariants.{TermSort}
use Rattle.calculus.specs.Equality.{sign_eq}
use Rattle.calculus.specs.Ground.{Value}
use Rattle.store_theory.specs.Bindings.{nothing_more, places_from, with_variables_of}
use Rattle.store_theory.specs.Patterns.{PatternAtom, Template, patterns_tree, without_literal}
use Rattle.store_theory.specs.Stores.{Store, has_sort_at, has_value_sort_at, Solution, Solves, names_below}
use Rattle.store_theory.specs.Systems.{CellAtom}
use Rattle.store_theory.specs.Templates.{have_sorts, literals_by, pattern_label, pattern_literal, pattern_terms}
use Rattle.search_theory.specs.States.{Agree, CellClause, clause_is_below, label_by, literal_by, terms_by, values_by}
use Rattle.search_theory.specs.Steps.{CannotExtend, IsExtended, IsRestCopy}
use Rattle.search_theory.proofs.BuildingLaws.{AreStores, agree-both, copy-by_cells, is_variable_sort, variables-back, variables-longer, variables-sorted}
use Rattle.search_theory.proofs.ImageLaws.{terms-agree, values-agree}
use Rattle.search_theory.proofs.MeetingLaws.{opposite-from, opposite-parts, opposite-some, some-opposite}
use Rattle.search_theory.proofs.StageLaws.{inserted}
use Rattle.term_store.specs.Fitting.{parts_fit_in}
use Rattle.term_unify.specs.Matching.{HoldsNowhere, MatchTo, Narrows}
use Rattle.term_unify.proofs.MatchCells.{value-below}
use Rattle.term_unify.proofs.MatchLaws.{match-terms, terms-match}
use Rattle.term_unify.proofs.MatchShapes.{all-match, match-all, terms-cells, terms-valued}

-- the variables are new, and the solutions of the new store are those by which the goal's arguments have the values of the literal's
pub record IsHeadMatch (old new : Store) (t : Template) (variables : List ℕ) (p : PatternAtom) (args : List ℕ) : Type 0 where
  pub longer : length old.cells ≤ length new.cells
  pub variables_below : IsTrue (names_below (length new.cells) variables)
  pub back : (σ : Solution) → Solves new σ → Solves old σ × IsTrue (have_sorts t.sorts (values_by σ variables)) × (terms_by σ args ≡ pattern_terms (values_by σ variables) (patterns_tree p.args))
  pub forth : (σ : Solution) → Solves old σ → (vs : List Value) → IsTrue (have_sorts t.sorts vs) → terms_by σ args ≡ pattern_terms vs (patterns_tree p.args) → (τ : Solution) × Solves new τ × Agree (length old.cells) σ τ × (values_by τ variables ≡ vs)

-- no values of the variables give the literal's arguments those of the goal
abbrev pub CannotMatch : Store → Template → PatternAtom → List ℕ → Type 0
CannotMatch s t p args = (σ : Solution) → Solves s σ → (vs : List Value) → IsTrue (have_sorts t.sorts vs) → ¬ (terms_by σ args ≡ pattern_terms vs (patterns_tree p.args))

-- ---- the extension

-- match the head, and copy the rest
pub extended-by_match : (old met new : Store) (sides : List Side) (t : Template) (i : CellClause) (goal : CellAtom) (p : PatternAtom) (place : ℕ) → IsHeadMatch old met t i.values p goal.args → slice_get t.literals place ≡ Some p → IsTrue (not (sign_eq goal.sign p.sign)) → goal.symbol ≡ p.symbol → IsRestCopy met new sides t i → IsExtended old new sides t i goal place
extended-by_match old met new sides t i goal p place k at signs symbols r = record {
  selection = r.selection;
  longer = let l = k.longer in let m = r.longer in omega (arith, l, m);
  names = r.names;
  back = λ σ s.
      let x = r.back σ s in
      let w = k.back σ x.0 in
      let there : slice_get (map (literal_by σ) i.literals) place ≡ Some (pattern_literal (values_by σ i.values) p) = ap (λ xs. slice_get xs place) x.1 ∙ map-there (pattern_literal (values_by σ i.values)) t.literals place p at in
      (w.0, w.1, x.1, some-opposite (literal_by σ goal) (slice_get (map (literal_by σ) i.literals) place) (pattern_literal (values_by σ i.values) p) there (opposite-from (literal_by σ goal) (pattern_literal (values_by σ i.values) p) (record { signs = signs; symbols = symbols; args = w.2 })));
  forth = λ σ s vs sorts opp.
      let opp_p = opposite-some (literal_by σ goal) (slice_get (literals_by vs t) place) (pattern_literal vs p) (map-there (pattern_literal vs) t.literals place p at) opp in
      let (τ, st, agree, v) = k.forth σ s vs sorts (opposite-parts (literal_by σ goal) (pattern_literal vs p) opp_p).args in
      let (ρ, sr, further) = r.forth τ st in
      let kept : values_by ρ i.values ≡ vs = sym (values-agree (length met.cells) τ ρ further i.values k.variables_below) ∙ v in
      (ρ, sr, agree-both (length old.cells) (length met.cells) σ τ ρ k.longer agree further, kept);
}

pub cannot-extend-by_mismatch : (s : Store) (t : Template) (goal : CellAtom) (p : PatternAtom) (place : ℕ) → slice_get t.literals place ≡ Some p → CannotMatch s t p goal.args → CannotExtend s t goal place
cannot-extend-by_mismatch s t goal p place at none σ h vs sorts opp =
    let opp_p = opposite-some (literal_by σ goal) (slice_get (literals_by vs t) place) (pattern_literal vs p) (map-there (pattern_literal vs) t.literals place p at) opp in
    none σ h vs sorts (opposite-parts (literal_by σ goal) (pattern_literal vs p) opp_p).args

-- ---- the goal's own arguments in the place of the literal's

map-inserted : {A B C : Type 0} (f : A → C) (g : B → C) (place : ℕ) (x : A) (xs : List A) (y : B) (ys : List B) → slice_get ys place ≡ Some y → f x ≡ g y → map f xs ≡ map g (remove ys place) → map f (inserted place x xs) ≡ map g ys
map-inserted f g place x xs y [] at e h = cc at
map-inserted f g zero x xs y (z ∷ ys) at e h = let q : z ≡ y = cc at in ap₂ (λ a rest. a ∷ rest) (e ∙ ap g (sym q)) h
map-inserted f g (suc n) x [] y (z ∷ ys) at e h = cc h
map-inserted f g (suc n) x (w ∷ xs) y (z ∷ ys) at e h =
    let one : f w ≡ g z = cc h in
    let more : map f xs ≡ map g (remove ys n) = cc h in
    ap₂ (λ a rest. a ∷ rest) one (map-inserted f g n x xs y ys at e more)

-- the other literals were copied; the connected one has the goal's arguments and its own label
pub rest-with_head : (old met new : Store) (sides : List Side) (t : Template) (vs : List ℕ) (others : List CellAtom) (p : PatternAtom) (b : CellAtom) (place : ℕ) → IsHeadMatch old met t vs p b.args → slice_get t.literals place ≡ Some p → b.sign ≡ p.sign → b.symbol ≡ p.symbol → ((σ : Solution) → Solves new σ → label_by σ b.label ≡ pattern_label (values_by σ vs) p.label) → IsTrue (clause_is_below (length new.cells) (record { selection = sides; values = vs; literals = inserted place b others })) → IsRestCopy met new sides (without_literal place t) (record { selection = sides; values = vs; literals = others }) → IsRestCopy met new sides t (record { selection = sides; values = vs; literals = inserted place b others })
rest-with_head old met new sides t vs others p b place k at sign symbol label below r = record {
  selection = refl;
  longer = r.longer;
  names = below;
  back = λ σ s.
      let x = r.back σ s in
      let w = k.back σ x.0 in
      let same : literal_by σ b ≡ pattern_literal (values_by σ vs) p = (λ i. record { sign = sign i; symbol = symbol i; args = w.2 i; label = label σ s i }) in
      (x.0, map-inserted (literal_by σ) (pattern_literal (values_by σ vs)) place b others p t.literals at same x.1);
  forth = r.forth;
}

-- ---- from cells

abbrev without_literals : Template → Template
without_literals t = record t { literals = [] }

-- values of the sorts for the new variables
variables-given : (old : Store) (t : Template) → AreStores t.sorts old → IsTrue (list_all is_variable_sort t.sorts) → IsTrue (names_below (length (with_variables_of t.sorts old).cells) (places_from (length old.cells) (length t.sorts))) → (σ : Solution) → Solves old σ → (vs : List Value) → IsTrue (have_sorts t.sorts vs) → (τ : Solution) × Solves (with_variables_of t.sorts old) τ × Agree (length old.cells) σ τ × (values_by τ (places_from (length old.cells) (length t.sorts)) ≡ vs)
variables-given old t stores sorts below σ s vs k =
    let new = with_variables_of t.sorts old in
    let i : CellClause = record { selection = []; values = places_from (length old.cells) (length t.sorts); literals = [] } in
    (copy-by_cells old new [] (without_literals t) i stores sorts nothing_more refl refl (and_from (names_below (length new.cells) i.values) true below refl) refl).forth σ s vs k

-- what the values of the variables are to give
terms-given : (old : Store) (t : Template) (p : PatternAtom) (args : List ℕ) → AreStores t.sorts old → IsTrue (list_all is_variable_sort t.sorts) → IsTrue (list_all (has_value_sort_at (with_variables_of t.sorts old)) (places_from (length old.cells) (length t.sorts))) → IsTrue (parts_fit_in (with_variables_of t.sorts old) (places_from (length old.cells) (length t.sorts)) TermSort false (patterns_tree p.args)) → IsTrue (list_all (has_sort_at (with_variables_of t.sorts old) TermSort) args) → IsTrue (names_below (length old.cells) args) → (σ : Solution) → Solves old σ → (vs : List Value) → IsTrue (have_sorts t.sorts vs) → terms_by σ args ≡ pattern_terms vs (patterns_tree p.args)
    → (τ : Solution) × Solves (with_variables_of t.sorts old) τ × Agree (length old.cells) σ τ × (values_by τ (places_from (length old.cells) (length t.sorts)) ≡ vs) × ((length args ≡ length p.args) × MatchTo (places_from (length old.cells) (length t.sorts)) args p.args (length p.args) τ)
terms-given old t p args stores sorts values fits sorted below σ s vs k e =
    let new = with_variables_of t.sorts old in
    let places = places_from (length old.cells) (length t.sorts) in
    let (τ, st, agree, v) = variables-given old t stores sorts (value-below new places values) σ s vs k in
    let same : terms_by τ args ≡ pattern_terms (values_by τ places) (patterns_tree p.args) = sym (terms-agree (length old.cells) σ τ agree args below) ∙ e ∙ ap (λ us. pattern_terms us (patterns_tree p.args)) (sym v) in
    let all = terms-match τ (values_by τ places) args p.args (terms-cells new τ st args sorted) (terms-valued new τ st places values p.args fits) same in
    (τ, st, agree, v, (all.0, all-match τ places args p.args all))

pub head-matched : (old met : Store) (t : Template) (p : PatternAtom) (args : List ℕ) → AreStores t.sorts old → IsTrue (list_all is_variable_sort t.sorts) → IsTrue (list_all (has_value_sort_at (with_variables_of t.sorts old)) (places_from (length old.cells) (length t.sorts))) → IsTrue (parts_fit_in (with_variables_of t.sorts old) (places_from (length old.cells) (length t.sorts)) TermSort false (patterns_tree p.args)) → IsTrue (list_all (has_sort_at (with_variables_of t.sorts old) TermSort) args) → IsTrue (names_below (length old.cells) args) → Narrows (λ σ. (length args ≡ length p.args) × MatchTo (places_from (length old.cells) (length t.sorts)) args p.args (length p.args) σ) (with_variables_of t.sorts old) met → IsHeadMatch old met t (places_from (length old.cells) (length t.sorts)) p args
head-matched old met t p args stores sorts values fits sorted below n = record {
  longer = let l = variables-longer t.sorts old in let m = n.longer in omega (arith, l, m);
  variables_below = below-more (length begun.cells) (length met.cells) places n.longer (value-below begun places values);
  back = λ σ s.
      let x = n.back σ s in
      (variables-back t.sorts old σ x.0, (variables-sorted t.sorts old (length old.cells) refl sorts σ x.0).0, match-terms σ (values_by σ places) args p.args (match-all σ places args p.args x.1.0 x.1.1));
  forth = λ σ s vs k e.
      let (τ, st, agree, v, m) = terms-given old t p args stores sorts values fits sorted below σ s vs k e in
      let (ρ, sr, further) = n.forth τ st m in
      let l = variables-longer t.sorts old in
      (ρ, sr, agree-both (length old.cells) (length begun.cells) σ τ ρ l agree further, sym (values-agree (length begun.cells) τ ρ further places (value-below begun places values)) ∙ v);
}
  where
    begun : Store
    begun = with_variables_of t.sorts old

    places : List ℕ
    places = places_from (length old.cells) (length t.sorts)

    below-more : (m k : ℕ) (rs : List ℕ) → m ≤ k → IsTrue (names_below m rs) → IsTrue (names_below k rs)
    below-more m k [] l h = refl
    below-more m k (r ∷ rs) l h =
        let a = and_parts (nat_lt r m) (names_below m rs) h in
        and_from (nat_lt r k) (names_below k rs) (let q = ltb-true r m a.0 in lt-ltb r k (omega (arith, q, l))) (below-more m k rs l a.1)

pub head-mismatched : (old : Store) (t : Template) (p : PatternAtom) (args : List ℕ) → AreStores t.sorts old → IsTrue (list_all is_variable_sort t.sorts) → IsTrue (list_all (has_value_sort_at (with_variables_of t.sorts old)) (places_from (length old.cells) (length t.sorts))) → IsTrue (parts_fit_in (with_variables_of t.sorts old) (places_from (length old.cells) (length t.sorts)) TermSort false (patterns_tree p.args)) → IsTrue (list_all (has_sort_at (with_variables_of t.sorts old) TermSort) args) → IsTrue (names_below (length old.cells) args) → HoldsNowhere (λ σ. (length args ≡ length p.args) × MatchTo (places_from (length old.cells) (length t.sorts)) args p.args (length p.args) σ) (with_variables_of t.sorts old) → CannotMatch old t p args
head-mismatched old t p args stores sorts values fits sorted below none σ s vs k e =
    let (τ, st, agree, v, m) = terms-given old t p args stores sorts values fits sorted below σ s vs k e in
    none τ st m
