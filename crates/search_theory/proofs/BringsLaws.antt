-- What a copied clause brings to the system: the strings are those of its nu steps, and it is allowed where its gamma terms are.
use Rattle.std.proofs.Common.{◌≡◌, ℕ, ◌+◌, List, [], ◌∷◌, length, map, Bool, false, ◌&&◌, IsTrue, refl, sym, ◌∙◌, ap, ap₂, subst, Option, Some, None, filter_map}
use Rattle.std.specs.List.{list_all}
use Rattle.std.specs.Option.{option_map_or}
use Rattle.std.proofs.lemmas.Bool.{false≢true, and_parts, and_from}
use Rattle.calculus.specs.declared.sign.Side.{Side}
use Rattle.calculus.specs.declared.sort.Sort.{Sort}
use Rattle.calculus.specs.declared.sort.Sort.TheVariants.{TermSort, MarkSort, StringSort}
use Rattle.calculus.specs.Syntax.{Problem}
use Rattle.calculus.specs.Ground.{GroundMark, Value, term, steps}
use Rattle.calculus.specs.Lists.{marks_list-marks_tree}
use Rattle.calculus.specs.Equality.{list_eq, literal_eq}
use Rattle.calculus.specs.Instances.{GammaUse, gamma_is_allowed}
use Rattle.calculus.specs.ComputedInstances.{Part, instance_of}
use Rattle.calculus.specs.Space.{string_length, lengths_in}
use Rattle.store_theory.specs.Stores.{Store, has_sort_at, CellValue, a_term, a_mark, a_string, has_sort, Solution, Solves, GammaCell}
use Rattle.store_theory.specs.Systems.{is_label, is_gamma_cell, AreUses, AllAllowed, HaveLengths}
use Rattle.calculus.proofs.InstanceLaws.{OnPart}
use Rattle.calculus.proofs.CasesLaws.{Cases, cases-by_instance_of}
use Rattle.calculus.proofs.SpaceLaws.{strings-gives}
use Rattle.store_theory.specs.Patterns.{PatternGamma, Template, AreGammaCopies}
use Rattle.store_theory.specs.Templates.{as_term, as_value, pattern_gamma, gammas_by, has_value_sort, have_sorts, IsTemplateOf}
use Rattle.search_theory.specs.States.{CellClause, values_by, clause_at}
use Rattle.search_theory.specs.StateSystems.{Brings, string_cells}
use Rattle.search_theory.proofs.BuildingLaws.{built-value, built-label, AreValueCells, solved-sorted}
use Rattle.search_theory.proofs.SolvingLaws.{label-there}
use Rattle.search_theory.proofs.SystemLaws.{lengths-count}

-- ---- strings

string-value : (v : CellValue) → IsTrue (has_value_sort StringSort (as_value v)) → (w : List GroundMark) × (v ≡ a_string w)
string-value (a_term t) h = absurd (false≢true h)
string-value (a_mark m) h = absurd (false≢true h)
string-value (a_string w) h = (w, refl)

term-only : (v : CellValue) → IsTrue (has_value_sort TermSort (as_value v)) → string_length (as_value v) ≡ None
term-only (a_term t) h = refl
term-only (a_mark m) h = refl
term-only (a_string w) h = absurd (false≢true h)

mark-none : (v : CellValue) → ¬ IsTrue (has_value_sort MarkSort (as_value v))
mark-none (a_term t) h = false≢true h
mark-none (a_mark m) h = false≢true h
mark-none (a_string w) h = false≢true h

-- the lengths of the values' strings are those of the variables of sort string
pub string-lengths : (σ : Solution) (sorts : List Sort) (rs : List ℕ) → IsTrue (have_sorts sorts (values_by σ rs)) → HaveLengths σ (string_cells sorts rs) (filter_map string_length (values_by σ rs))
string-lengths σ [] [] h = tt
string-lengths σ [] (r ∷ rs) h = absurd (false≢true h)
string-lengths σ (sort ∷ sorts) [] h = absurd (false≢true h)
string-lengths σ (StringSort ∷ sorts) (r ∷ rs) h =
    let p = and_parts (has_value_sort StringSort (as_value (σ r))) (have_sorts sorts (values_by σ rs)) h in
    let w = string-value (σ r) p.0 in
    subst (λ v. HaveLengths σ (r ∷ string_cells sorts rs) (filter_map string_length (as_value v ∷ values_by σ rs))) (sym w.1) ((w.0, w.1, sym (ap length (marks_list-marks_tree w.0))), string-lengths σ sorts rs p.1)
string-lengths σ (TermSort ∷ sorts) (r ∷ rs) h =
    let p = and_parts (has_value_sort TermSort (as_value (σ r))) (have_sorts sorts (values_by σ rs)) h in
    subst (HaveLengths σ (string_cells sorts rs)) (sym (passed (as_value (σ r)) (values_by σ rs) (term-only (σ r) p.0))) (string-lengths σ sorts rs p.1)
  where
    passed : (v : Value) (vs : List Value) → string_length v ≡ None → filter_map string_length (v ∷ vs) ≡ filter_map string_length vs
    passed (term t) vs e = refl
    passed (steps w) vs e = cc e
string-lengths σ (MarkSort ∷ sorts) (r ∷ rs) h = absurd (mark-none (σ r) (and_parts (has_value_sort MarkSort (as_value (σ r))) (have_sorts sorts (values_by σ rs)) h).0)

-- ---- gamma terms

term-value : (v : CellValue) → IsTrue (has_sort TermSort v) → v ≡ a_term (as_term v)
term-value (a_term t) h = refl
term-value (a_mark m) h = absurd (false≢true h)
term-value (a_string w) h = absurd (false≢true h)

-- the gamma terms that were built are those of the template
pub uses-built : (s : Store) (σ : Solution) → Solves s σ → (variables : List ℕ) → AreValueCells σ variables → (ps : List PatternGamma) (gs : List GammaCell) → IsTrue (list_all (is_gamma_cell s) gs) → AreGammaCopies s variables ps gs → AreUses σ gs (map (λ (q : PatternGamma). pattern_gamma (values_by σ variables) q) ps)
uses-built s σ h variables k [] gs a b = subst (λ xs. AreUses σ xs []) (sym b) refl
uses-built s σ h variables k (p ∷ ps) gs a (g, hs, e, b, more) =
    let c = and_parts (is_gamma_cell s g) (list_all (is_gamma_cell s) hs) (subst (λ xs. IsTrue (list_all (is_gamma_cell s) xs)) e a) in
    let q = and_parts (has_sort_at s TermSort g.term) (is_label s g.label) c.0 in
    subst (λ xs. AreUses σ xs (map (λ (q : PatternGamma). pattern_gamma (values_by σ variables) q) (p ∷ ps))) (sym e) (
      pattern_gamma (values_by σ variables) p,
      map (λ (q : PatternGamma). pattern_gamma (values_by σ variables) q) ps,
      refl,
      record {
        term = term-value (σ g.term) (solved-sorted s σ h TermSort g.term q.0) ∙ ap (λ v. a_term (as_term v)) (built-value s σ h variables k p.term g.term b.term);
        label = label-there s σ h g.label q.1 ∙ ap Some (built-label s σ h variables k p.label g.label b.label);
      },
      uses-built s σ h variables k ps hs c.1 more,
    )

-- one list of uses alone
uses-same : (σ : Solution) (gs : List GammaCell) (us vs : List GammaUse) → AreUses σ gs us → AreUses σ gs vs → us ≡ vs
uses-same σ [] us vs h k = h ∙ sym k
uses-same σ (g ∷ gs) us vs (u, us', e, a, more) (v, vs', f, b, more') =
    let z : a_term u.term ≡ a_term v.term = sym a.term ∙ b.term in
    let t : u.term ≡ v.term = cc z in
    let y : Some u.label ≡ Some v.label = sym a.label ∙ b.label in
    let l : u.label ≡ v.label = cc y in
    let same : u ≡ v = λ i. record { term = t i; label = l i } in
    e ∙ ap₂ (λ x xs. x ∷ xs) same (uses-same σ gs us' vs' more more') ∙ sym f

-- ---- what the clause brings

some-part : (P : Problem) (sides : List Side) (vs : List Value) (good : Part → Bool) → IsTrue (option_map_or good (instance_of P sides vs) false) → (x : Part) × (instance_of P sides vs ≡ Some x) × IsTrue (good x)
some-part P sides vs good h = by (instance_of P sides vs) refl h
  where
    by : (o : Option Part) → instance_of P sides vs ≡ o → IsTrue (option_map_or good o false) → (x : Part) × (instance_of P sides vs ≡ Some x) × IsTrue (good x)
    by None e k = absurd (false≢true k)
    by (Some x) e k = (x, e, k)

nus-part : (P : Problem) (sides : List Side) (vs : List Value) (x : Part) → instance_of P sides vs ≡ Some x → length (filter_map string_length vs) ≡ x.nus
nus-part P sides vs x e =
    let c : Cases P sides vs x = subst (OnPart (Cases P sides vs)) e (cases-by_instance_of P sides vs) in
    ap (λ us. length (filter_map string_length us)) c.values_are ∙ strings-gives P.setting.logic _ _ _ c.share c.instance.given ∙ sym (ap (λ (p : Part). p.nus) c.part_is)

pub brings-by_template : (P : Problem) (s : Store) (sides : List Side) (t : Template) (i : CellClause) (gammas : List GammaCell) → IsTemplateOf P sides t → i.selection ≡ sides → ((σ : Solution) → Solves s σ → IsTrue (have_sorts t.sorts (values_by σ i.values))) → ((σ : Solution) → Solves s σ → AreUses σ gammas (gammas_by (values_by σ i.values) t)) → IsTrue (list_all (has_sort_at s StringSort) (string_cells t.sorts i.values)) → IsTrue (list_all (is_gamma_cell s) gammas) → Brings P s i (string_cells t.sorts i.values) gammas t.pis
brings-by_template P s sides t i gammas tm selected sorts uses a b = record {
  strings_sorted = a;
  gammas_sorted = b;
  lengths = lengths;
  allowed = λ σ h inst. (
    (λ k. (let (x, e, both) = some-part P i.selection (values_by σ i.values) (λ (x : Part). list_eq literal_eq x.literals (clause_at σ i).literals && list_all (gamma_is_allowed P) x.gammas) k in
        (gammas_by (values_by σ i.values) t, uses σ h, subst (AllAllowed P) (tm.gammas (values_by σ i.values) x (by-sides σ x e)) (and_parts (list_eq literal_eq x.literals (clause_at σ i).literals) (list_all (gamma_is_allowed P) x.gammas) both).1))),
    (λ k. (let (x, e, given) = some-part P i.selection (values_by σ i.values) (λ (x : Part). list_eq literal_eq x.literals (clause_at σ i).literals) inst in
        subst (λ (o : Option Part). IsTrue (option_map_or (λ (x : Part). list_eq literal_eq x.literals (clause_at σ i).literals && list_all (gamma_is_allowed P) x.gammas) o false)) (sym e)
        (and_from (list_eq literal_eq x.literals (clause_at σ i).literals) (list_all (gamma_is_allowed P) x.gammas) given (subst (AllAllowed P) (uses-same σ gammas k.0 (gammas_by (values_by σ i.values) t) k.1 (uses σ h) ∙ sym (tm.gammas (values_by σ i.values) x (by-sides σ x e))) k.2)))),
  );
  steps = λ σ h inst.
      let (x, e, given) = some-part P i.selection (values_by σ i.values) (λ (x : Part). list_eq literal_eq x.literals (clause_at σ i).literals) inst in
      ap (λ (o : Option Part). option_map_or (λ (x : Part). x.nus + x.pis) o 0) e ∙ ap₂ ◌+◌ (count σ h x e) (tm.pis (values_by σ i.values) x (by-sides σ x e));
  nus = λ σ h inst.
      let (x, e, given) = some-part P i.selection (values_by σ i.values) (λ (x : Part). list_eq literal_eq x.literals (clause_at σ i).literals) inst in
      ap (λ (o : Option Part). option_map_or (λ (x : Part). x.nus) o 0) e ∙ count σ h x e;
}
  where
    lengths : (σ : Solution) → Solves s σ → HaveLengths σ (string_cells t.sorts i.values) (lengths_in (clause_at σ i))
    lengths σ h = string-lengths σ t.sorts i.values (sorts σ h)

    by-sides : (σ : Solution) (x : Part) → instance_of P i.selection (values_by σ i.values) ≡ Some x → instance_of P sides (values_by σ i.values) ≡ Some x
    by-sides σ x e = ap (λ ss. instance_of P ss (values_by σ i.values)) (sym selected) ∙ e

    count : (σ : Solution) → Solves s σ → (x : Part) → instance_of P i.selection (values_by σ i.values) ≡ Some x → x.nus ≡ length (string_cells t.sorts i.values)
    count σ h x e = sym (nus-part P i.selection (values_by σ i.values) x e) ∙ lengths-count σ (string_cells t.sorts i.values) (lengths_in (clause_at σ i)) (lengths σ h)
