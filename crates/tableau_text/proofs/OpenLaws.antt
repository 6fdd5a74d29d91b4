-- Open lists: a stack of them, items that are put in them, and tables that grow meanwhile.
use Rattle.std.proofs.Common.{◌≡◌, List, [], ◌∷◌, ◌++◌, map, refl, sym, ◌∙◌, ap, subst}
use Rattle.std.specs.List.{AllByRecursion}
use Rattle.plain_laws.proofs.Every.{each-last, each-push, each-weaken}
use Rattle.plain_laws.proofs.Lists.{map-composed}
use Rattle.calculus.specs.Ground as tree
use Rattle.calculus.specs.Ground.{marks_tree, values_tree}
use Rattle.calculus.specs.Lists.{g_terms_tree}
use Rattle.formula_core.specs.GroundLists.{GroundList, the_g_term, the_mark, the_value, IsNormalTerm, IsNormalMark, IsNormalValue, IsGrown}
use Rattle.formula_core.specs.declared.ground.GroundTerm.{GroundTerm}
use Rattle.formula_core.specs.declared.ground.GroundMark.{GroundMark}
use Rattle.formula_core.specs.declared.ground.Value.{Value}
use Rattle.formula_core.proofs.GrownLaws.{term-grown, mark-grown, value-grown, term-normal-grown, mark-normal-grown, value-normal-grown}
use Rattle.tableau_text.specs.Items.{a_term, a_mark, of_value, of_terms, of_marks, of_values, Frame}
use Rattle.tableau_text.specs.OpenView.{the_head, the_items, IsNormalList, the_frame, frames_over, frames, AreNormalLists}
use Rattle.tableau_text.specs.declared.open_list.OpenList.{OpenList}
use Rattle.tableau_text.specs.declared.open_list.OpenList.TheVariants as lists

-- ---- lists

pub map-last : {A B : Type 0} (f : A → B) (xs ys : List A) (x : A) → ys ≡ xs ++ x ∷ [] → map f ys ≡ map f xs ++ f x ∷ []
map-last {A} {B} f xs ys x e = ap (map f) e ∙ by xs
  where
    by : (xs : List A) → map f (xs ++ x ∷ []) ≡ map f xs ++ f x ∷ []
    by [] = refl
    by (y ∷ xs) = ap (λ l. f y ∷ l) (by xs)

-- what is the same for each item of a list
map-same : {A B : Type 0} (P : A → Type 0) (f g : A → B) → ((x : A) → P x → f x ≡ g x) → (xs : List A) → AllByRecursion P xs → map f xs ≡ map g xs
map-same P f g e [] h = refl
map-same P f g e (x ∷ xs) h = let a = e x h.0 in let b = map-same P f g e xs h.1 in (λ i. a i ∷ b i)

-- ---- a stack

over-last : (ls : List GroundList) (fs : List Frame) (stack : List OpenList) (l : OpenList) → frames_over ls fs (stack ++ l ∷ []) ≡ the_frame ls l ∷ frames_over ls fs stack
over-last ls fs [] l = refl
over-last ls fs (k ∷ stack) l = over-last ls (the_frame ls k ∷ fs) stack l

pub frames-last : (ls : List GroundList) (stack new : List OpenList) (l : OpenList) → new ≡ stack ++ l ∷ [] → frames ls new ≡ the_frame ls l ∷ frames ls stack
frames-last ls stack new l e = ap (frames ls) e ∙ over-last ls [] stack l

pub normal-last : (ls : List GroundList) (stack new : List OpenList) (l : OpenList) → new ≡ stack ++ l ∷ [] → AreNormalLists ls stack → IsNormalList ls l → AreNormalLists ls new
normal-last ls stack new l e h k = subst (AreNormalLists ls) (sym e) (each-push (IsNormalList ls) stack l h k)

pub normal-rest : (ls : List GroundList) (stack new : List OpenList) (l : OpenList) → new ≡ stack ++ l ∷ [] → AreNormalLists ls new → AreNormalLists ls stack × IsNormalList ls l
normal-rest ls stack new l e h = each-last (IsNormalList ls) stack l (subst (AreNormalLists ls) e h)

-- ---- a table that grows

module _ (a b : List GroundList) (g : IsGrown a b) where
  items-grown : (l : OpenList) → IsNormalList a l → the_items b l ≡ the_items a l
  items-grown (lists.Args name ts) h = map-same (IsNormalTerm a) _ _ (λ t k. ap a_term (term-grown a b g t k)) ts.items h
  items-grown (lists.Own k ms) h = map-same (IsNormalMark a) _ _ (λ t k. ap a_mark (mark-grown a b g t k)) ms.items h
  items-grown (lists.Steps ms) h = map-same (IsNormalMark a) _ _ (λ t k. ap a_mark (mark-grown a b g t k)) ms.items h
  items-grown (lists.Eigen p vs) h = map-same (IsNormalValue a) _ _ (λ t k. ap of_value (value-grown a b g t k)) vs.items h
  items-grown (lists.New p vs) h = map-same (IsNormalValue a) _ _ (λ t k. ap of_value (value-grown a b g t k)) vs.items h
  items-grown (lists.Root vs) h = map-same (IsNormalValue a) _ _ (λ t k. ap of_value (value-grown a b g t k)) vs.items h

  list-normal : (l : OpenList) → IsNormalList a l → IsNormalList b l
  list-normal (lists.Args name ts) h = each-weaken (IsNormalTerm a) (IsNormalTerm b) (term-normal-grown a b g) ts.items h
  list-normal (lists.Own k ms) h = each-weaken (IsNormalMark a) (IsNormalMark b) (mark-normal-grown a b g) ms.items h
  list-normal (lists.Steps ms) h = each-weaken (IsNormalMark a) (IsNormalMark b) (mark-normal-grown a b g) ms.items h
  list-normal (lists.Eigen p vs) h = each-weaken (IsNormalValue a) (IsNormalValue b) (value-normal-grown a b g) vs.items h
  list-normal (lists.New p vs) h = each-weaken (IsNormalValue a) (IsNormalValue b) (value-normal-grown a b g) vs.items h
  list-normal (lists.Root vs) h = each-weaken (IsNormalValue a) (IsNormalValue b) (value-normal-grown a b g) vs.items h

  frame-grown : (l : OpenList) → IsNormalList a l → the_frame b l ≡ the_frame a l
  frame-grown l h = let e = items-grown l h in (λ i. record { head = the_head l; items = e i })

  over-grown : (fs : List Frame) (stack : List OpenList) → AreNormalLists a stack → frames_over b fs stack ≡ frames_over a fs stack
  over-grown fs [] h = refl
  over-grown fs (l ∷ stack) h = ap (λ f. frames_over b (f ∷ fs) stack) (frame-grown l h.0) ∙ over-grown (the_frame a l ∷ fs) stack h.1

  pub frames-grown : (stack : List OpenList) → AreNormalLists a stack → frames b stack ≡ frames a stack
  frames-grown stack h = over-grown [] stack h

  pub lists-normal : (stack : List OpenList) → AreNormalLists a stack → AreNormalLists b stack
  lists-normal stack h = each-weaken (IsNormalList a) (IsNormalList b) list-normal stack h

-- ---- the items of a list

pub items-terms : (ts : List tree.GroundTerm) → map a_term ts ≡ of_terms (g_terms_tree ts)
items-terms [] = refl
items-terms (t ∷ ts) = ap (λ l. a_term t ∷ l) (items-terms ts)

pub items-marks : (ms : List tree.GroundMark) → map a_mark ms ≡ of_marks (marks_tree ms)
items-marks [] = refl
items-marks (m ∷ ms) = ap (λ l. a_mark m ∷ l) (items-marks ms)

pub items-values : (vs : List tree.Value) → map of_value vs ≡ of_values (values_tree vs)
items-values [] = refl
items-values (v ∷ vs) = ap (λ l. of_value v ∷ l) (items-values vs)

pub terms-items : (ls : List GroundList) (ts : List GroundTerm) (added : List tree.GroundTerm) → added ≡ map (the_g_term ls) ts → map (λ t. a_term (the_g_term ls t)) ts ≡ of_terms (g_terms_tree added)
terms-items ls ts added e = map-composed (the_g_term ls) a_term ts ∙ ap (map a_term) (sym e) ∙ items-terms added

pub marks-items : (ls : List GroundList) (ms : List GroundMark) (added : List tree.GroundMark) → added ≡ map (the_mark ls) ms → map (λ m. a_mark (the_mark ls m)) ms ≡ of_marks (marks_tree added)
marks-items ls ms added e = map-composed (the_mark ls) a_mark ms ∙ ap (map a_mark) (sym e) ∙ items-marks added

pub values-items : (ls : List GroundList) (vs : List Value) (added : List tree.Value) → added ≡ map (the_value ls) vs → map (λ v. of_value (the_value ls v)) vs ≡ of_values (values_tree added)
values-items ls vs added e = map-composed (the_value ls) of_value vs ∙ ap (map of_value) (sym e) ∙ items-values added
