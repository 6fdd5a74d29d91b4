-- The item of a list that closes.
use Rattle.std.specs.Prelude.{Vec}
use Rattle.std.specs.declared.alloc.Global.{Global}
use Rattle.std.proofs.Common.{◌≡◌, ℕ, List, [], length, map, refl, sym, ◌∙◌, subst}
use Rattle.plain_laws.proofs.Lists.{map-length}
use Rattle.calculus.specs.declared.symbol.SymbolClass.TheVariants.{Function}
use Rattle.calculus.specs.Syntax.{Symbol}
use Rattle.calculus.specs.Ground.{marks_tree, values_tree}
use Rattle.calculus.specs.Lists.{g_terms_tree}
use Rattle.cop_base.specs.declared.PosId.{PosId}
use Rattle.cop_base.specs.declared.SymbolId.{SymbolId}
use Rattle.formula_core.specs.GroundLists.{GroundList, the_terms, the_marks, the_values, the_g_term, the_mark, the_value}
use Rattle.formula_core.specs.declared.ground.GroundTerms.{GroundTerms}
use Rattle.formula_core.specs.declared.ground.GroundLabel.{GroundLabel}
use Rattle.formula_core.specs.declared.ground.Values.{Values}
use Rattle.formula_core.specs.declared.ground.GroundTerm.{GroundTerm}
use Rattle.formula_core.specs.declared.ground.GroundTerm.TheVariants as term
use Rattle.formula_core.specs.declared.ground.GroundMark.{GroundMark}
use Rattle.formula_core.specs.declared.ground.GroundMark.TheVariants as mark
use Rattle.formula_core.specs.declared.ground.Value.{Value}
use Rattle.formula_text.specs.Frames.{IsFunction, NoFunction}
use Rattle.formula_text.proofs.Frames.{contains-at}
use Rattle.tableau_text.specs.Items.{Item, a_term, of_args, of_own, of_steps, of_eigen, of_new, of_root, Made}
use Rattle.tableau_text.specs.ItemView.{the_item}
use Rattle.tableau_text.specs.OpenView.{the_head, the_items}
use Rattle.tableau_text.specs.declared.item.TableItem.TheVariants as item
use Rattle.tableau_text.specs.declared.open_list.OpenList.{OpenList}
use Rattle.tableau_text.specs.declared.open_list.OpenList.TheVariants as lists
use Rattle.tableau_text.proofs.OpenLaws.{terms-items, marks-items, values-items}

pub args-made : (S : List Symbol) (a b : List GroundList) (name : List ℕ) (terms : List GroundTerm) (arity : ℕ) (f : SymbolId) (n : GroundTerms) → arity ≡ length terms → IsFunction S f.0 name arity → the_terms b n ≡ map (the_g_term a) terms
    → Made S (of_args name) (map (λ t. a_term (the_g_term a t)) terms) (the_item b (item.Term (term.Fun f n)))
args-made S a b name terms arity f n e is same = (
  f.0,
  g_terms_tree (the_terms b n),
  subst (IsFunction S f.0 name) (e ∙ sym (map-length (λ t. a_term (the_g_term a t)) terms)) is,
  terms-items a terms (the_terms b n) same,
  refl,
)

pub no-args_made : (S : List Symbol) (a : List GroundList) (name : List ℕ) (terms : List GroundTerm) (arity : ℕ) → arity ≡ length terms → NoFunction S name arity → (j : Item) → ¬ Made S (of_args name) (map (λ t. a_term (the_g_term a t)) terms) j
no-args_made S a name terms arity e none j m = none (contains-at S m.0 (record { name = name; class = Function; arity = arity }) (subst (IsFunction S m.0 name) (map-length (λ t. a_term (the_g_term a t)) terms ∙ sym e) m.2))

-- no term of a list that closes
pub no-args_close : (S : List Symbol) (a : List GroundList) (list : OpenList) (name : List ℕ) (v : Vec GroundTerm Global) (terms : List GroundTerm) → list ≡ lists.Args name v → terms ≡ v.items → ((j : Item) → ¬ Made S (of_args name) (map (λ t. a_term (the_g_term a t)) terms) j)
    → (j : Item) → ¬ Made S (the_head list) (the_items a list) j
no-args_close S a list name v terms is e none j m = none j (subst (λ l. Made S (of_args name) (map (λ t. a_term (the_g_term a t)) l) j) (sym e) (subst (λ l. Made S (the_head l) (the_items a l) j) is m))

pub own-made : (S : List Symbol) (a b : List GroundList) (k : ℕ) (v : Vec GroundMark Global) (n : GroundLabel) → the_marks b n ≡ map (the_mark a) v.items → Made S (of_own k) (the_items a (lists.Own k v)) (the_item b (item.Term (term.Own k n)))
own-made S a b k v n e = (marks_tree (the_marks b n), marks-items a v.items (the_marks b n) e, refl)

pub steps-made : (S : List Symbol) (a b : List GroundList) (v : Vec GroundMark Global) (n : GroundLabel) → the_marks b n ≡ map (the_mark a) v.items → Made S of_steps (the_items a (lists.Steps v)) (the_item b (item.Steps n))
steps-made S a b v n e = (marks_tree (the_marks b n), marks-items a v.items (the_marks b n) e, refl)

pub eigen-made : (S : List Symbol) (a b : List GroundList) (p : PosId) (v : Vec Value Global) (n : Values) → the_values b n ≡ map (the_value a) v.items → Made S (of_eigen p.0) (the_items a (lists.Eigen p v)) (the_item b (item.Term (term.Eigen p n)))
eigen-made S a b p v n e = (values_tree (the_values b n), values-items a v.items (the_values b n) e, refl)

pub new-made : (S : List Symbol) (a b : List GroundList) (p : PosId) (v : Vec Value Global) (n : Values) → the_values b n ≡ map (the_value a) v.items → Made S (of_new p.0) (the_items a (lists.New p v)) (the_item b (item.Mark (mark.New p n)))
new-made S a b p v n e = (values_tree (the_values b n), values-items a v.items (the_values b n) e, refl)

pub root-made : (S : List Symbol) (a b : List GroundList) (v : Vec Value Global) (n : Values) → the_values b n ≡ map (the_value a) v.items → Made S of_root (the_items a (lists.Root v)) (the_item b (item.Values n))
root-made S a b v n e = (values_tree (the_values b n), values-items a v.items (the_values b n) e, refl)

pub ruleset closing_lists = (args-made, no-args_made, own-made, steps-made, eigen-made, new-made, root-made)
