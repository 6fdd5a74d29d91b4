-- Terms, labels, values and literals that are read off are those by own spares.
use Rattle.std.proofs.Common.{◌≡◌, ◌+◌, ℕ, zero, suc, List, [], ◌∷◌, ◌++◌, map, refl, sym, ◌∙◌, ap, ap₂, Option, None, Some, Result, Ok, Err, OnOk, option_map, slice_get, arith}
use Rattle.calculus.specs.Ground as tree
use Rattle.calculus.specs.Lists.{g_terms_tree}
use Rattle.calculus.specs.declared.sign.Side.{Side}
use Rattle.store_theory.specs.Bindings.{places_from}
use Rattle.store_theory.specs.Stores.{Store, Solution, Solves}
use Rattle.store_theory.specs.Systems.{CellAtom}
use Rattle.store_theory.specs.Templates.{as_term}
use Rattle.search_theory.specs.Matrix.{MatrixClause}
use Rattle.search_theory.specs.OrderedChoices.{selection_of}
use Rattle.search_theory.specs.States.{label_by, literal_by, terms_by, values_by}
use Rattle.formula_core.specs.GroundLists.{GroundList, IsGrown, the_g_term, the_mark, the_value, the_terms, the_marks, the_values, AreNormalTerms, AreNormalMarks, AreNormalValues}
use Rattle.formula_core.specs.declared.ground.GroundTerms.{GroundTerms}
use Rattle.formula_core.specs.declared.ground.GroundLabel.{GroundLabel}
use Rattle.formula_core.specs.declared.ground.Values.{Values}
use Rattle.formula_core.specs.declared.ground.GroundTerm.{GroundTerm}
use Rattle.formula_core.specs.declared.ground.GroundMark.{GroundMark}
use Rattle.formula_core.specs.declared.ground.Value.{Value}
use Rattle.formula_core.proofs.GrownLaws.{terms-grown}
use Rattle.tableau_core.specs.Numbered.LiteralView.{the_literal}
use Rattle.tableau_core.specs.declared.literal.GroundLiteral.{GroundLiteral}
use Rattle.tableau_reading.specs.Grounds.{AreMade, AreSparesAt, IsReading}
use Rattle.tableau_reading.specs.Reading.{AreMarksOf, AreTermsOf, AreValuesOf, IsLiteralOf}
use Rattle.tableau_reading.specs.declared.grounds.Grounds.{Grounds}
use Rattle.tableau_reading.specs.declared.homes.Homes.{Homes}
use Rattle.term_store.specs.RefView.{the_place}
use Rattle.term_store.specs.declared.cell.Ref.{Ref}
use Rattle.tableau_reading.proofs.GroundLaws.{terms-tree}
use Rattle.tableau_reading.proofs.PartLaws.{places-more}

pub terms-read : (s : Store) (h : Homes) (g : Grounds) (new : List GroundList) (rs : List ℕ) (n : GroundTerms) (items given : List GroundTerm) → IsReading s h g → ((σ : Solution) → Solves s σ → AreMade g.table σ g.made.items → map (the_g_term g.table) items ≡ map (λ k. as_term (σ k)) rs) → given ≡ items → AreNormalTerms new n → the_terms new n ≡ map (the_g_term g.table) given → (σ : Solution) → AreSparesAt s h σ → AreTermsOf new n (terms_by σ rs)
terms-read s h g new rs n items given k read e normal list σ sp = record {
  normal = normal;
  value = ap g_terms_tree (list ∙ ap (map (the_g_term g.table)) e ∙ read σ sp.solves (k.read σ sp)) ∙ terms-tree σ rs;
}

pub marks-read : (s : Store) (h : Homes) (g : Grounds) (new : List GroundList) (rs : List ℕ) (n : GroundLabel) (items given : List GroundMark) → IsReading s h g → ((σ : Solution) → Solves s σ → AreMade g.table σ g.made.items → map (the_mark g.table) items ≡ label_by σ rs) → given ≡ items → AreNormalMarks new n → the_marks new n ≡ map (the_mark g.table) given → (σ : Solution) → AreSparesAt s h σ → AreMarksOf new n (label_by σ rs)
marks-read s h g new rs n items given k read e normal list σ sp = record {
  normal = normal;
  value = list ∙ ap (map (the_mark g.table)) e ∙ read σ sp.solves (k.read σ sp);
}

pub values-read : (s : Store) (h : Homes) (g : Grounds) (new : List GroundList) (rs : List ℕ) (n : Values) (items given : List Value) → IsReading s h g → ((σ : Solution) → Solves s σ → AreMade g.table σ g.made.items → map (the_value g.table) items ≡ values_by σ rs) → given ≡ items → AreNormalValues new n → the_values new n ≡ map (the_value g.table) given → (σ : Solution) → AreSparesAt s h σ → AreValuesOf new n (values_by σ rs)
values-read s h g new rs n items given k read e normal list σ sp = record {
  normal = normal;
  value = list ∙ ap (map (the_value g.table)) e ∙ read σ sp.solves (k.read σ sp);
}

pub literal-read : (a b : List GroundList) → IsGrown a b → (x : GroundLiteral) (atom : CellAtom) (rs qs : List ℕ) (σ : Solution) → rs ≡ atom.args → qs ≡ atom.label → x.sign ≡ atom.sign → x.symbol.0 ≡ atom.symbol → AreTermsOf a x.args (terms_by σ rs) → AreMarksOf b x.label (label_by σ qs) → IsLiteralOf b x (literal_by σ atom)
literal-read a b g x atom rs qs σ e f sign symbol t w = record {
  args = λ z. t.normal (sym (terms-grown a b g x.args t.normal) ∙ z);
  label = w.normal;
  value = same (literal_by σ atom) sign symbol (ap g_terms_tree (terms-grown a b g x.args t.normal) ∙ t.value ∙ ap (terms_by σ) e) (w.value ∙ ap (label_by σ) f);
}
  where
    same : (y : tree.GroundLiteral) → x.sign ≡ y.sign → x.symbol.0 ≡ y.symbol → g_terms_tree (the_terms b x.args) ≡ y.args → the_marks b x.label ≡ y.label → the_literal b x ≡ y
    same y p q r u i = record { sign = p i; symbol = q i; args = r i; label = u i }

-- variables that stand side by side, one more
places-suc : (n c : ℕ) → places_from n (suc c) ≡ places_from n c ++ (n + c) ∷ []
places-suc n zero = ap (λ k. k ∷ []) (omega arith)
places-suc n (suc c) = ap (λ ks. n ∷ ks) (places-suc (suc n) c ∙ ap (λ k. places_from (suc n) c ++ k ∷ []) (omega arith))

pub places-end : (n c : ℕ) (items before : List Ref) (r : Ref) → items ≡ before ++ r ∷ [] → r.0 ≡ n + c → map the_place before ≡ places_from n c → map the_place items ≡ places_from n (c + 1)
places-end n c items before r e at h =
    places-more items before r e
    ∙ ap₂ (λ (xs : List ℕ) (k : ℕ). xs ++ k ∷ []) h at
    ∙ sym (places-suc n c)
    ∙ (let q : suc c ≡ c + 1 = omega arith in ap (places_from n) q)

-- a selection that is copied
pub selection-read : (o : Option MatrixClause) (given copied : List Side) → option_map (λ (x : MatrixClause). x.selection) o ≡ Some given → copied ≡ given → copied ≡ selection_of o
selection-read None given copied e h = (let z : None ≡ Some given = e in absurd (cc z))
selection-read (Some x) given copied e h = h ∙ (let z : Some x.selection ≡ Some given = e in sym (cc z))

-- what holds whatever the answer
pub on-ok : {A E : Type 0} (r : Result A E) (P : Type 0) → P → OnOk r P
on-ok (Ok x) P p = p
on-ok (Err e) P p = tt
