-- The steps of reading a list of values, by the lists that the program keeps.
use Rattle.std.specs.Prelude.{Vec}
use Rattle.std.specs.declared.alloc.Global.{Global}
use Rattle.std.proofs.Common.{◌≡◌, ℕ, ◌≤◌, List, [], ◌∷◌, ◌++◌, length, map, IsTrue, refl, sym, ◌∙◌, ap, subst, arith}
use Rattle.std.specs.List.{AllByRecursion, list_all}
use Rattle.calculus.specs.Syntax.{Symbol}
use Rattle.calculus.specs.Problems.{are_distinct, symbol_fits}
use Rattle.calculus.specs.Ground.{g_fun}
use Rattle.calculus.specs.Lists.{g_terms_tree}
use Rattle.cop_base.specs.declared.PosId.{PosId}
use Rattle.cop_base.specs.declared.SymbolId.{SymbolId}
use Rattle.formula_core.specs.GroundLists.{GroundList, the_terms, no_list, IsGrown}
use Rattle.formula_core.specs.declared.ground.GroundTerms.{GroundTerms}
use Rattle.formula_core.specs.declared.ground.GroundTerm.{GroundTerm}
use Rattle.formula_core.specs.declared.ground.GroundTerm.TheVariants as term
use Rattle.formula_core.specs.declared.ground.GroundMark.{GroundMark}
use Rattle.formula_core.specs.declared.ground.Value.{Value}
use Rattle.formula_core.proofs.EntryLaws.{empty-terms}
use Rattle.formula_core.proofs.GrownLaws.{grown-both}
use Rattle.formula_text.specs.Frames.{IsFunction}
use Rattle.tableau_text.specs.Items.{Item, a_term, closing, may_be_empty, Made, with_item}
use Rattle.tableau_text.specs.Tokens.{IsBegunAt, by_name, whole}
use Rattle.tableau_text.specs.Points.{Point, ahead, behind, inside, Leads, NoneFrom}
use Rattle.tableau_text.specs.ItemView.{the_item, IsNormalItem}
use Rattle.tableau_text.specs.OpenView.{the_head, the_items, the_frame, frames, AreNormalLists, IsNormalList, IsPushed, NoPush, IsNew, the_beginning}
use Rattle.tableau_text.specs.declared.item.TableItem.{TableItem}
use Rattle.tableau_text.specs.declared.item.TableItem.TheVariants as item
use Rattle.tableau_text.specs.declared.open_list.OpenList.{OpenList}
use Rattle.tableau_text.specs.declared.open_list.OpenList.TheVariants as lists
use Rattle.tableau_text.specs.declared.begun.Begun.TheVariants as begun
use Rattle.tableau_text.proofs.OpenLaws.{frames-last, normal-last, normal-rest, frames-grown, lists-normal}
use Rattle.tableau_text.proofs.PointLaws.{leads-both, none-behind, comma, close, no-fit, no-follower, no-made, enter, empty, no-empty}
use Rattle.tableau_text.proofs.TokenLaws.{constant-begun}

-- ---- beginnings

pub constant-told : (S : List Symbol) → IsTrue (list_all symbol_fits S) → IsTrue (are_distinct S) → (name rest : List ℕ) (ls : List GroundList) (f : SymbolId) (args : GroundTerms) → the_terms ls args ≡ [] → ((after : List ℕ) → ¬ (rest ≡ 40 ∷ after)) → IsFunction S f.0 name 0
    → IsBegunAt S (by_name name) rest (the_beginning ls (begun.Leaf (item.Term (term.Fun f args)))) rest
constant-told S fit d name rest ls f args e none is = subst (λ l. IsBegunAt S (by_name name) rest (whole (a_term (g_fun f.0 (g_terms_tree l)))) rest) (sym e) (constant-begun S fit d name rest f.0 none is)

-- the empty list of arguments
pub no-args : (ls : List GroundList) (n : ℕ) (args : GroundTerms) → n ≡ length ls → n ≤ no_list → args.0 ≡ no_list → the_terms ls args ≡ []
no-args ls n args e h k = empty-terms ls args (subst (λ m. m ≤ no_list) e h) k

pub ruleset none_args = (no-args)

pub new-args : (name : List ℕ) (v : Vec GroundTerm Global) → v.items ≡ [] → IsNew (lists.Args name v)
new-args name v e = record { items = λ ls. ap (map _) e; normal = λ ls. subst (AllByRecursion _) (sym e) tt }

pub new-own : (k : ℕ) (v : Vec GroundMark Global) → v.items ≡ [] → IsNew (lists.Own k v)
new-own k v e = record { items = λ ls. ap (map _) e; normal = λ ls. subst (AllByRecursion _) (sym e) tt }

pub new-steps : (v : Vec GroundMark Global) → v.items ≡ [] → IsNew (lists.Steps v)
new-steps v e = record { items = λ ls. ap (map _) e; normal = λ ls. subst (AllByRecursion _) (sym e) tt }

pub new-eigen : (p : PosId) (v : Vec Value Global) → v.items ≡ [] → IsNew (lists.Eigen p v)
new-eigen p v e = record { items = λ ls. ap (map _) e; normal = λ ls. subst (AllByRecursion _) (sym e) tt }

pub new-new : (p : PosId) (v : Vec Value Global) → v.items ≡ [] → IsNew (lists.New p v)
new-new p v e = record { items = λ ls. ap (map _) e; normal = λ ls. subst (AllByRecursion _) (sym e) tt }

pub new-root : (v : Vec Value Global) → v.items ≡ [] → IsNew (lists.Root v)
new-root v e = record { items = λ ls. ap (map _) e; normal = λ ls. subst (AllByRecursion _) (sym e) tt }

pub ruleset anew = (new-args, new-own, new-steps, new-eigen, new-new, new-root)

-- ---- behind an item

-- what the loop that closes lists keeps: the table was a and is b
pub record IsPutTo (S : List Symbol) (p : Point) (a b : List GroundList) (stack : List OpenList) (i : TableItem) (rest : List ℕ) (bound : ℕ) : Type 0 where
  pub leads : Leads S p (behind (frames b stack) (the_item b i) rest)
  pub lists : AreNormalLists b stack
  pub item : IsNormalItem b i
  pub grown : IsGrown a b
  pub short : length rest ≤ bound

pub grown-same : (a : List GroundList) (n : ℕ) → n ≡ length a → n ≤ no_list → IsGrown a a
grown-same a n e h = record { added = []; grown = sym (append-none a); most = subst (λ k. k ≤ no_list) e h }
  where
    append-none : (xs : List GroundList) → xs ++ [] ≡ xs
    append-none [] = refl
    append-none (x ∷ xs) = ap (λ l. x ∷ l) (append-none xs)

pub put-first : (S : List Symbol) (a : List GroundList) (stack : List OpenList) (i : TableItem) (rest : List ℕ) (n : ℕ) → n ≡ length a → n ≤ no_list → AreNormalLists a stack → IsNormalItem a i → IsPutTo S (behind (frames a stack) (the_item a i) rest) a a stack i rest (length rest)
put-first S a stack i rest n e m h k = record { leads = record { text = refl; written = λ w. w; right = λ v r. r }; lists = h; item = k; grown = grown-same a n e m; short = omega arith }

module _ (S : List Symbol) (p : Point) (a b : List GroundList) (stack left : List OpenList) (last list : OpenList) (i : TableItem) (rest : List ℕ) (bound : ℕ) (h : IsPutTo S p a b stack i rest bound) (popped : stack ≡ left ++ last ∷ []) where
  at : Leads S p (behind (the_frame b last ∷ frames b left) (the_item b i) rest)
  at = subst (λ fs. Leads S p (behind fs (the_item b i) rest)) (frames-last b left stack last popped) h.leads

  split : AreNormalLists b left × IsNormalList b last
  split = normal-rest b left stack last popped h.lists

  pub put-no_fit : NoPush last i → NoneFrom S p
  put-no_fit n = none-behind S p _ at (no-fit S (the_frame b last) (frames b left) (the_item b i) rest (n b))

  module _ (pushed : IsPushed last i list) where
    pub put-comma : (new : List OpenList) (after : List ℕ) → rest ≡ 44 ∷ after → new ≡ left ++ list ∷ [] → Leads S p (ahead (frames b new) after) × AreNormalLists b new × (length after ≤ bound)
    put-comma new after e n = (
      subst (λ fs. Leads S p (ahead fs after)) (sym (frames-last b left new list n ∙ ap (λ f. f ∷ frames b left) same)) (leads-both S p _ _ at (comma S (the_frame b last) (frames b left) (the_item b i) rest after (pushed.fit b) e)),
      normal-last b left new list n split.0 (pushed.normal b split.1 h.item),
      (let k = h.short in let l = ap length e in omega (arith, k, l)),
    )
      where
        same : the_frame b list ≡ with_item (the_frame b last) (the_item b i)
        same = let x = pushed.head in let y = pushed.items b in (λ k. record { head = x k; items = y k })

    pub put-no_follower : ((r : List ℕ) → ¬ (rest ≡ 44 ∷ r)) → ((r : List ℕ) → ¬ (rest ≡ closing (the_head list) ∷ r)) → NoneFrom S p
    put-no_follower n m = none-behind S p _ at (no-follower S (the_frame b last) (frames b left) (the_item b i) rest n (λ r e. m r (e ∙ ap (λ x. closing x ∷ r) (sym pushed.head))))

    pub put-no_made : (after : List ℕ) → rest ≡ closing (the_head list) ∷ after → ((j : Item) → ¬ Made S (the_head list) (the_items b list) j) → NoneFrom S p
    put-no_made after e none = none-behind S p _ at (no-made S (the_frame b last) (frames b left) (the_item b i) rest after (e ∙ ap (λ x. closing x ∷ after) pushed.head) (λ j m. none j (subst (λ x. Made S x (the_items b list) j) (sym pushed.head) (subst (λ l. Made S (the_head last) l j) (sym (pushed.items b)) m))))

    pub put-close : IsTrue (are_distinct S) → (c : List GroundList) (k : TableItem) (after : List ℕ) → rest ≡ closing (the_head list) ∷ after → IsGrown b c → Made S (the_head list) (the_items b list) (the_item c k) → IsNormalItem c k → IsPutTo S p a c left k after bound
    put-close d c k after e g m n = record {
      leads = subst (λ fs. Leads S p (behind fs (the_item c k) after)) (sym (frames-grown b c g left split.0))
          (leads-both S p _ _ at (close S d (the_frame b last) (frames b left) (the_item b i) (the_item c k) rest after (pushed.fit b) (e ∙ ap (λ x. closing x ∷ after) pushed.head) (subst (λ l. Made S (the_head last) l (the_item c k)) (pushed.items b) (subst (λ x. Made S x (the_items b list) (the_item c k)) pushed.head m))));
      lists = lists-normal b c g left split.0;
      item = n;
      grown = grown-both a b c h.grown g;
      short = let x = h.short in let y = ap length e in omega (arith, x, y);
    }

-- the whole list
pub put-whole : (S : List Symbol) (p : Point) (a b : List GroundList) (stack : List OpenList) (i : TableItem) (rest : List ℕ) (bound : ℕ) → IsPutTo S p a b stack i rest bound → stack ≡ [] → Leads S p (behind [] (the_item b i) rest)
put-whole S p a b stack i rest bound h e = subst (λ s. Leads S p (behind (frames b s) (the_item b i) rest)) e h.leads

-- ---- behind an opening bracket

pub open-push : (S : List Symbol) (a : List GroundList) (stack new : List OpenList) (list : OpenList) (rest : List ℕ) → IsNew list → new ≡ stack ++ list ∷ [] → (IsTrue (may_be_empty (the_head list)) → (r : List ℕ) → ¬ (rest ≡ closing (the_head list) ∷ r)) → Leads S (inside (frames a stack) (the_head list) rest) (ahead (frames a new) rest)
open-push S a stack new list rest n e none =
    let same : the_frame a list ≡ record { head = the_head list; items = [] } = (let x = n.items a in λ k. record { head = the_head list; items = x k }) in
    subst (λ fs. Leads S (inside (frames a stack) (the_head list) rest) (ahead fs rest)) (sym (frames-last a stack new list e ∙ ap (λ f. f ∷ frames a stack) same)) (enter S (frames a stack) (the_head list) rest none)

pub open-normal : (a : List GroundList) (stack new : List OpenList) (list : OpenList) → IsNew list → new ≡ stack ++ list ∷ [] → AreNormalLists a stack → AreNormalLists a new
open-normal a stack new list n e h = normal-last a stack new list e h (n.normal a)

pub open-empty : (S : List Symbol) → IsTrue (are_distinct S) → IsTrue (list_all symbol_fits S) → (a b : List GroundList) (stack : List OpenList) (list : OpenList) (k : TableItem) (rest after : List ℕ) → IsNew list → AreNormalLists a stack → IsGrown a b → IsTrue (may_be_empty (the_head list)) → rest ≡ closing (the_head list) ∷ after → Made S (the_head list) (the_items a list) (the_item b k)
    → Leads S (inside (frames a stack) (the_head list) rest) (behind (frames b stack) (the_item b k) after)
open-empty S d fit a b stack list k rest after n h g may e m =
    subst (λ fs. Leads S (inside (frames a stack) (the_head list) rest) (behind fs (the_item b k) after)) (sym (frames-grown a b g stack h))
    (empty S d fit (frames a stack) (the_head list) (the_item b k) rest after may e (subst (λ l. Made S (the_head list) l (the_item b k)) (n.items a) m))

pub open-no_empty : (S : List Symbol) → IsTrue (list_all symbol_fits S) → (a : List GroundList) (stack : List OpenList) (list : OpenList) (rest after : List ℕ) → IsNew list → rest ≡ closing (the_head list) ∷ after → ((j : Item) → ¬ Made S (the_head list) (the_items a list) j) → NoneFrom S (inside (frames a stack) (the_head list) rest)
open-no_empty S fit a stack list rest after n e none = no-empty S fit (frames a stack) (the_head list) rest after e (λ j m. none j (subst (λ l. Made S (the_head list) l j) (sym (n.items a)) m))

pub ruleset putting = (put-first, put-whole)

pub ruleset opening_lists = (open-push, open-normal, grown-same, new-root)
