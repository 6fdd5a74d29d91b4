-- What the calls on a state keep of it, and what they make of the open sequents.
use Rattle.std.proofs.Common.{◌≡◌, ℕ, zero, suc, ◌<◌, Bool, true, false, ◌||◌, ◌&&◌, not, List, [], ◌∷◌, length, get_or, map, take, Option, None, Some, Ok, IsTrue, refl, sym, ◌∙◌, ap, subst, arith}
use Rattle.std.proofs.lemmas.Bool.{and_parts, or_parts, false≢true}
use Rattle.std.specs.List.{list_any}
use Rattle.calculus.specs.declared.fault.StepFault.{StepFault}
use Rattle.calculus.specs.declared.fault.StepFault.TheVariants.{WrongArguments, UnknownName, NotReachable, NotNew, WrongHome, NotAllowed}
use Rattle.calculus.specs.declared.kind.Shape.{Shape}
use Rattle.calculus.specs.declared.kind.Shape.TheVariants.{Alpha, Beta, Gamma, Delta, Literal}
use Rattle.calculus.specs.declared.setting.Logic.{Logic}
use Rattle.calculus.specs.declared.sign.Sign.TheVariants.{F}
use Rattle.calculus.specs.Calculus.{Children, closed, condition, first_fault, conditions_of_use, use_entry, children_of, has_step, home_is, is_known, is_reachable, modal_fits, term_fits, term_allowed, is_forbidden, is_eigen, is_in_home, character_is_new, eigen_is_new, label_after, with_argument, with_components}
use Rattle.calculus.specs.Derivations.{Entry, Sequent, Label, Names, new_mark, character_eq, ModalArg, TermArg, no_term, by_term, by_name, first_sequent}
use Rattle.calculus.specs.Judgement.{open_after}
use Rattle.calculus.specs.Kinds.{shape_of, modal_of, components}
use Rattle.calculus.specs.Problems.{term_fits_in, terms_fit_in, formula_fits, has_predicate, is_modal, is_problem}
use Rattle.calculus.specs.Skolem.{has_function}
use Rattle.calculus.specs.Substitution.{any_leaf, any_leaf_of, any_leaf_in}
use Rattle.calculus.specs.Syntax.{arity_of, Symbol, Term, Terms, var, fun, eigen, spare, no_terms, more_terms, Formula, atom, neg, conj, disj, imp, all, ex, box, dia, Problem}
use Rattle.formula_core.specs.FormulaView.{the_formula}
use Rattle.logic_rules.proofs.ProblemFacts.{kept}
use Rattle.derivation_branch.specs.AddedView.{AreAddedAt, PutsArgument, children_added}
use Rattle.derivation_branch.specs.EntryView.{IsWithin, formula_under}
use Rattle.label_table.specs.Longer.{IsLonger}
use Rattle.derivation_branch.specs.Putting.{is_var}
use Rattle.label_table.specs.LabelTable.{IsLabelAt}
use Rattle.derivation_branch.specs.declared.addition.Added.{Added}
use Rattle.derivation_branch.proofs.ChildLaws.{OnEach}
use Rattle.derivation_branch.proofs.OccurrenceLaws.{IsOfNames}
use Rattle.derivation_branch.proofs.PuttingLaws.{shape-all}
use Rattle.label_table.proofs.TableLaws.{longer-at, longer-self, longer-size}
use Rattle.sequent_calc.specs.ChildrenView.{faulty}
use Rattle.derivation_check.specs.OpenSequents.{IsLastOf, after_added, open_sequents, waiting}
use Rattle.derivation_check.specs.StateView.{AreKept, AreWithin, HasArgument, IsClosedArgument, IsLabelAfter, LeadsTo, StandsOn, Tells, Wait, the_entry, the_sequent}
use Rattle.derivation_check.specs.declared.open_sequents.BranchEntry.{BranchEntry}
use Rattle.derivation_check.proofs.Keeping.{Brought, added-kept, children-told, cut-back, formula-longer, none-left, sequent-longer, shown-after, wait-longer, wait-more, waiting-longer, within-longer}

-- ---- the first state

mutual
  unnamed : (test : Term → Bool) (symbols : List Symbol) (d : ℕ) (t : Term) → IsOfNames test → term_fits_in symbols d t ≡ true → any_leaf test t ≡ false
  unnamed test symbols d (var k) of h = of k
  unnamed test symbols d (fun f us) of h = unnamed_all test symbols d us of (and_parts (has_function symbols f (arity_of us)) (terms_fit_in symbols d us) h).1
  unnamed test symbols d (eigen n) of h = absurd (false≢true h)
  unnamed test symbols d (spare n) of h = absurd (false≢true h)

  unnamed_all : (test : Term → Bool) (symbols : List Symbol) (d : ℕ) (us : Terms) → IsOfNames test → terms_fit_in symbols d us ≡ true → any_leaf_of test us ≡ false
  unnamed_all test symbols d no_terms of h = refl
  unnamed_all test symbols d (more_terms u us) of h =
      let parts = and_parts (term_fits_in symbols d u) (terms_fit_in symbols d us) h in
      λ i. unnamed test symbols d u of parts.0 i || unnamed_all test symbols d us of parts.1 i

formula-unnamed : (test : Term → Bool) (l : Logic) (symbols : List Symbol) (d : ℕ) (f : Formula) → IsOfNames test → formula_fits l symbols d f ≡ true → any_leaf_in test f ≡ false
formula-unnamed test l symbols d (atom p us) of h = unnamed_all test symbols d us of (and_parts (has_predicate symbols p (arity_of us)) (terms_fit_in symbols d us) h).1
formula-unnamed test l symbols d (neg a) of h = formula-unnamed test l symbols d a of h
formula-unnamed test l symbols d (conj a b) of h =
    let parts = and_parts (formula_fits l symbols d a) (formula_fits l symbols d b) h in
    λ i. formula-unnamed test l symbols d a of parts.0 i || formula-unnamed test l symbols d b of parts.1 i
formula-unnamed test l symbols d (disj a b) of h =
    let parts = and_parts (formula_fits l symbols d a) (formula_fits l symbols d b) h in
    λ i. formula-unnamed test l symbols d a of parts.0 i || formula-unnamed test l symbols d b of parts.1 i
formula-unnamed test l symbols d (imp a b) of h =
    let parts = and_parts (formula_fits l symbols d a) (formula_fits l symbols d b) h in
    λ i. formula-unnamed test l symbols d a of parts.0 i || formula-unnamed test l symbols d b of parts.1 i
formula-unnamed test l symbols d (all a) of h = formula-unnamed test l symbols (suc d) a of h
formula-unnamed test l symbols d (ex a) of h = formula-unnamed test l symbols (suc d) a of h
formula-unnamed test l symbols d (box a) of h = formula-unnamed test l symbols d a of (and_parts (is_modal l) (formula_fits l symbols d a) h).1
formula-unnamed test l symbols d (dia a) of h = formula-unnamed test l symbols d a of (and_parts (is_modal l) (formula_fits l symbols d a) h).1

root-kept : (first labels : List Label) → first ≡ [] ∷ [] → IsLonger first labels → (0 < length labels) × (get_or labels 0 [] ≡ [])
root-kept first labels e long =
    let size = longer-size first labels long in
    let one = ap length e in
    (omega (arith, size, one), longer-at first labels 0 [] long (omega (arith, one)) ∙ ap (λ t. get_or t 0 []) e)

first-kept : (names : Names) (P : Problem) (labels : List Label) (x : BranchEntry) → 0 < length labels → get_or labels 0 [] ≡ [] → x.shared.substitution ≡ 0 → x.shared.label ≡ 0 → the_formula x.shared.formula.now ≡ P.formula → IsTrue (is_problem P) → AreKept names ([] ∷ []) labels [] [] ((x ∷ []) ∷ [])
first-kept names P labels x some root sub lab same well =
    let fits : formula_fits P.setting.logic P.symbols 0 P.formula ≡ true = (kept P well).formula in
    let formula : formula_under ([] ∷ []) x.shared.substitution (the_formula x.shared.formula.now) ≡ P.formula = ap (λ k. formula_under ([] ∷ []) k (the_formula x.shared.formula.now)) sub ∙ same in
    let label : get_or labels x.shared.label [] ≡ [] = ap (λ k. get_or labels k []) lab ∙ root in
    let leaf = λ (test : Term → Bool) (of : IsOfNames test). ap (any_leaf_in test) formula ∙ formula-unnamed test P.setting.logic P.symbols 0 P.formula of fits in (
      ((omega (arith, sub), omega (arith, lab, some)), tt),
      record {
        eigen = λ n. sym (ap (λ b. b || false) (leaf (is_eigen n) (λ _. refl)));
        mark = λ n. sym (λ i. (list_any (character_eq (new_mark n)) (label i) || leaf (is_in_home names (new_mark n)) (λ _. refl) i) || false);
      },
      tt,
    )

pub first-state : (names : Names) (P : Problem) (x : BranchEntry) (table : List (List Term)) (first labels : List Label) (E M : List ℕ) (ss : List (List BranchEntry)) → table ≡ [] ∷ [] → first ≡ [] ∷ [] → IsLonger first labels → E ≡ [] → M ≡ [] → ss ≡ (x ∷ []) ∷ []
    → x.shared.substitution ≡ 0 → x.shared.label ≡ 0 → the_formula x.shared.formula.now ≡ P.formula → IsTrue (is_problem P) → AreKept names table labels E M ss
first-state names P x table first labels E M ss t l long e m s sub lab same well =
    let root = root-kept first labels l long in
    rw (t, e, m, s) (first-kept names P labels x root.0 root.1 sub lab same well)

pub first-shown : (P : Problem) (x : BranchEntry) (table : List (List Term)) (first labels : List Label) (ss : List (List BranchEntry)) → table ≡ [] ∷ [] → first ≡ [] ∷ [] → IsLonger first labels → ss ≡ (x ∷ []) ∷ []
    → x.shared.sign ≡ F → x.shared.substitution ≡ 0 → x.shared.label ≡ 0 → the_formula x.shared.formula.now ≡ P.formula → map (the_sequent table labels) ss ≡ first_sequent P ∷ []
first-shown P x table first labels ss t l long s sign sub lab same =
    let root = root-kept first labels l long in
    let formula : formula_under ([] ∷ []) x.shared.substitution (the_formula x.shared.formula.now) ≡ P.formula = ap (λ k. formula_under ([] ∷ []) k (the_formula x.shared.formula.now)) sub ∙ same in
    let label : get_or labels x.shared.label [] ≡ [] = ap (λ k. get_or labels k []) lab ∙ root.1 in
    (λ i. map (the_sequent (t i) labels) (s i)) ∙ (λ i. (record { sign = sign i; formula = formula i; label = label i } ∷ []) ∷ [])

-- ---- the current sequent, and the others

pub kept-open : (names : Names) (table : List (List Term)) (labels : List Label) (E M : List ℕ) (o : Bool) (xs : List BranchEntry) (forks : List (ℕ × BranchEntry)) → o ≡ true → AreKept names table labels E M (open_sequents o xs forks)
    → AreWithin table labels xs × Tells names E M (the_sequent table labels xs) × Wait names table labels E M (waiting xs forks)
kept-open names table labels E M o xs forks opened h = subst (λ b. AreKept names table labels E M (open_sequents b xs forks)) opened h

pub closed-kept : (names : Names) (table : List (List Term)) (labels : List Label) (E M D L : List ℕ) (o : Bool) (xs : List BranchEntry) (forks : List (ℕ × BranchEntry)) (now : List (List BranchEntry)) (x : BranchEntry) → o ≡ true → AreKept names table labels E M (open_sequents o xs forks)
    → now ≡ waiting xs forks → IsLastOf (waiting xs forks) (Some x) → D ≡ take x.eigens E → L ≡ take x.marks M → AreKept names table labels D L now
closed-kept names table labels E M D L o xs forks now x opened h shown last d l =
    let parts = kept-open names table labels E M o xs forks opened h in
    subst (AreKept names table labels D L) (sym shown) (cut-back names table labels E M D L (waiting xs forks) x last d l parts.2)

pub ended-kept : (names : Names) (table : List (List Term)) (labels : List Label) (E M : List ℕ) (xs : List BranchEntry) (forks : List (ℕ × BranchEntry)) (now : List (List BranchEntry)) → now ≡ waiting xs forks → IsLastOf (waiting xs forks) None → AreKept names table labels E M now
ended-kept names table labels E M xs forks now shown last = subst (AreKept names table labels E M) (sym shown) (none-left names table labels E M (waiting xs forks) last)

pub stands-within : (table : List (List Term)) (labels : List Label) (xs : List BranchEntry) (x : BranchEntry) → AreWithin table labels xs → StandsOn xs x → IsWithin table labels x.shared
stands-within table labels xs x h s = go xs s.0 h s.1 s.2
  where
    go : (ys : List BranchEntry) (k : ℕ) → AreWithin table labels ys → k < length ys → x ≡ get_or ys k x → IsWithin table labels x.shared
    go [] k within lt at = absurd (omega arith)
    go (y ∷ ys) zero within lt at = subst (λ z. IsWithin table labels z.shared) (sym at) within.0
    go (y ∷ ys) (suc k) within lt at = go ys k within.1 (omega arith) at

-- ---- a use step

pub puts : (table : List (List Term)) (outer inner : ℕ) (h : Shape) (t : TermArg) → HasArgument table outer inner t → term_fits h t ≡ true → PutsArgument table outer inner h t
puts table outer inner Gamma (by_term t) a e = a.0
puts table outer inner Delta (by_name n) a e = a.0
puts table outer inner Gamma no_term a e = absurd (false≢true e)
puts table outer inner Gamma (by_name n) a e = absurd (false≢true e)
puts table outer inner Delta no_term a e = absurd (false≢true e)
puts table outer inner Delta (by_term t) a e = absurd (false≢true e)
puts table outer inner Alpha no_term a e = refl
puts table outer inner Alpha (by_term t) a e = absurd (false≢true e)
puts table outer inner Alpha (by_name n) a e = absurd (false≢true e)
puts table outer inner Beta no_term a e = refl
puts table outer inner Beta (by_term t) a e = absurd (false≢true e)
puts table outer inner Beta (by_name n) a e = absurd (false≢true e)
puts table outer inner Literal no_term a e = refl
puts table outer inner Literal (by_term t) a e = absurd (false≢true e)
puts table outer inner Literal (by_name n) a e = absurd (false≢true e)

-- what a step adds to the branch
pub record Growth (names : Names) (table more : List (List Term)) (labels : List Label) (E N M L : List ℕ) (o : Bool) (xs : List BranchEntry) (forks : List (ℕ × BranchEntry)) (u : BranchEntry) (inner at : ℕ) (x : ModalArg) (t : TermArg) (a : Added) (now : List (List BranchEntry)) : Type 0 where
  pub is_open : o ≡ true
  pub sequents : AreKept names table labels E M (open_sequents o xs forks)
  pub stands : StandsOn xs u
  pub label : IsLabelAfter labels u.shared.label x at
  pub fits : term_fits (shape_of u.shared.sign (the_formula u.shared.formula.now)) t ≡ true
  pub substitutions : IsLonger table more
  pub within : inner < length more
  pub argument : HasArgument more u.shared.substitution inner t
  pub eigens : IsLonger E N
  pub marks : IsLonger M L
  pub brought : Brought names E N M L (the_formula u.shared.formula.now) x t
  pub places : AreAddedAt u.shared.substitution inner at a
  pub added : (tb : List (List Term)) → (ls : List Label) → (y : TermArg) → PutsArgument tb u.shared.substitution inner (shape_of u.shared.sign (the_formula u.shared.formula.now)) y → (s : Sequent)
      → children_added tb ls s a ≡ with_components (shape_of u.shared.sign (formula_under tb u.shared.substitution (the_formula u.shared.formula.now))) s (get_or ls at []) (map (with_argument y) (components u.shared.sign (formula_under tb u.shared.substitution (the_formula u.shared.formula.now))))
  pub after : now ≡ after_added (length N) (length L) a xs (waiting xs forks)

pub grown-shown : (names : Names) (table more : List (List Term)) (labels : List Label) (E N M L : List ℕ) (o : Bool) (xs : List BranchEntry) (forks : List (ℕ × BranchEntry)) (u : BranchEntry) (inner at : ℕ) (x : ModalArg) (t : TermArg) (a : Added) (now : List (List BranchEntry)) → Growth names table more labels E N M L o xs forks u inner at x t a now
    → map (the_sequent more labels) now ≡ open_after (with_components (shape_of u.shared.sign (formula_under table u.shared.substitution (the_formula u.shared.formula.now))) (the_sequent table labels xs) (get_or labels at []) (map (with_argument t) (components u.shared.sign (formula_under table u.shared.substitution (the_formula u.shared.formula.now))))) (map (the_sequent table labels) (waiting xs forks))
grown-shown names table more labels E N M L o xs forks u inner at x t a now g =
    let sign = u.shared.sign in
    let f = the_formula u.shared.formula.now in
    let outer = u.shared.substitution in
    let parts = kept-open names table labels E M o xs forks g.is_open g.sequents in
    let within = stands-within table labels xs u parts.0 g.stands in
    let law = g.added more labels t (puts more outer inner (shape_of sign f) t g.argument g.fits) (the_sequent more labels xs) in
    let formula = formula-longer table more outer f g.substitutions within.0 in
    let same = sequent-longer table more labels labels xs g.substitutions (longer-self labels) parts.0 in
    let others = waiting-longer names table more labels labels E M (waiting xs forks) g.substitutions (longer-self labels) parts.2 in
    ap (map (the_sequent more labels)) g.after ∙ shown-after more labels (length N) (length L) a xs (waiting xs forks)
    ∙ (λ i. open_after (law i) (others i))
    ∙ (λ i. open_after (with_components (shape_of sign (formula i)) (same i) (get_or labels at []) (map (with_argument t) (components sign (formula i)))) (map (the_sequent table labels) (waiting xs forks)))

pub grown-kept : (names : Names) (table more : List (List Term)) (labels : List Label) (E N M L : List ℕ) (o : Bool) (xs : List BranchEntry) (forks : List (ℕ × BranchEntry)) (u : BranchEntry) (inner at : ℕ) (x : ModalArg) (t : TermArg) (a : Added) (now : List (List BranchEntry)) → Growth names table more labels E N M L o xs forks u inner at x t a now → AreKept names more labels N L now
grown-kept names table more labels E N M L o xs forks u inner at x t a now g =
    let sign = u.shared.sign in
    let f = the_formula u.shared.formula.now in
    let outer = u.shared.substitution in
    let parts = kept-open names table labels E M o xs forks g.is_open g.sequents in
    let ws = waiting xs forks in
    let self = longer-self labels in
    let place = stands-within table labels xs u parts.0 g.stands in
    let size = longer-size table more g.substitutions in
    let within = within-longer table more labels labels xs g.substitutions self parts.0 in
    let wait = wait-more names more labels E N M L ws g.eigens g.marks (wait-longer names table more labels labels E M ws g.substitutions self parts.2) in
    let told : Tells names E M (the_sequent more labels xs) = subst (Tells names E M) (sym (sequent-longer table more labels labels xs g.substitutions self parts.0)) parts.1 in
    let law = g.added more labels t (puts more outer inner (shape_of sign f) t g.argument g.fits) (the_sequent more labels xs) in
    let each = subst (OnEach (Tells names N L)) (sym law) (children-told names more labels E N M L xs u inner at x t g.stands g.argument g.label g.fits (shape-all (get_or more outer []) 0 sign f) told g.brought) in
    subst (AreKept names more labels N L) (sym g.after)
    (added-kept names more labels N L (length N) (length L) outer inner at a xs ws refl refl (omega (arith, size, place.0)) g.within g.label.1.0 g.places within each wait)

-- ---- demands

-- where there is no fault, each demand is met
pub unfaulty : (a b c d e f : Bool) (x : Children) → first_fault (condition a WrongArguments ∷ condition b UnknownName ∷ condition c NotReachable ∷ condition d NotNew ∷ condition e WrongHome ∷ condition f NotAllowed ∷ []) x ≡ Ok x → (a ≡ true) × (f ≡ true)
unfaulty false b c d e f x h = absurd cc
unfaulty true false c d e f x h = absurd cc
unfaulty true true false d e f x h = absurd cc
unfaulty true true true false e f x h = absurd cc
unfaulty true true true true false f x h = absurd cc
unfaulty true true true true true false x h = absurd cc
unfaulty true true true true true true x h = (refl, refl)

mutual
  allowed-closed : (P : Problem) (names : Names) (v : Label) (t : Term) → any_leaf (is_forbidden P names v) t ≡ false → any_leaf is_var t ≡ false
  allowed-closed P names v (var k) h = absurd (false≢true (sym h))
  allowed-closed P names v (fun f us) h = all_allowed-closed P names v us h
  allowed-closed P names v (eigen n) h = refl
  allowed-closed P names v (spare n) h = refl

  all_allowed-closed : (P : Problem) (names : Names) (v : Label) (us : Terms) → any_leaf_of (is_forbidden P names v) us ≡ false → any_leaf_of is_var us ≡ false
  all_allowed-closed P names v no_terms h = refl
  all_allowed-closed P names v (more_terms u us) h =
      let parts = or_parts (any_leaf (is_forbidden P names v) u) (any_leaf_of (is_forbidden P names v) us) h in
      λ i. allowed-closed P names v u parts.0 i || all_allowed-closed P names v us parts.1 i

not-true : (b : Bool) → not b ≡ true → b ≡ false
not-true true e = absurd (false≢true e)
not-true false e = refl

pub closed-argument : (P : Problem) (names : Names) (v : Label) (t : TermArg) → term_allowed P names v t ≡ true → IsClosedArgument t
closed-argument P names v no_term h = tt
closed-argument P names v (by_term t) h = allowed-closed P names v t (not-true (any_leaf (is_forbidden P names v) t) h)
closed-argument P names v (by_name n) h = tt

-- what is met of a step without a fault
pub met : (P : Problem) (names : Names) (s : Sequent) (e : Entry) (m : ModalArg) (t : TermArg) → ((c : Children) → first_fault (conditions_of_use P names s e m t) c ≡ faulty c None) → (term_fits (shape_of e.sign e.formula) t ≡ true) × IsClosedArgument t
met P names s e m t h =
    let l = P.setting.logic in
    let v = label_after l e.label m in
    let shape = shape_of e.sign e.formula in
    let modal = modal_of l e.sign e.formula in
    let both = unfaulty (modal_fits modal m && term_fits shape t && has_step modal shape) (is_known names t) (is_reachable l e.label m) (character_is_new names s m && eigen_is_new s t) (home_is names v t) (term_allowed P names v t) closed (h closed) in
    let parts = and_parts (modal_fits modal m && term_fits shape t) (has_step modal shape) both.0 in
    let more = and_parts (modal_fits modal m) (term_fits shape t) parts.0 in
    (more.1, closed-argument P names v t both.1)

-- the demands as they are judged are those of the rules
pub judged : (P : Problem) (names : Names) (s : Sequent) (e : Entry) (m : ModalArg) (t : TermArg) (fits known reachable new home allowed : Bool) (r : Option StepFault)
    → (modal_fits (modal_of P.setting.logic e.sign e.formula) m && term_fits (shape_of e.sign e.formula) t && has_step (modal_of P.setting.logic e.sign e.formula) (shape_of e.sign e.formula)) ≡ fits → is_known names t ≡ known → is_reachable P.setting.logic e.label m ≡ reachable
    → (character_is_new names s m && eigen_is_new s t) ≡ new → home_is names (label_after P.setting.logic e.label m) t ≡ home → term_allowed P names (label_after P.setting.logic e.label m) t ≡ allowed
    → (c : Children) → first_fault (condition fits WrongArguments ∷ condition known UnknownName ∷ condition reachable NotReachable ∷ condition new NotNew ∷ condition home WrongHome ∷ condition allowed NotAllowed ∷ []) c ≡ faulty c r
    → first_fault (conditions_of_use P names s e m t) c ≡ faulty c r
judged P names s e m t fits known reachable new home allowed r a b c d f g x h =
    (λ i. first_fault (condition (a i) WrongArguments ∷ condition (b i) UnknownName ∷ condition (c i) NotReachable ∷ condition (d i) NotNew ∷ condition (f i) WrongHome ∷ condition (g i) NotAllowed ∷ []) x) ∙ h

-- ---- what a use step leads to

pub record Used (P : Problem) (names : Names) (table : List (List Term)) (labels more : List Label) (E M : List ℕ) (o : Bool) (xs : List BranchEntry) (forks : List (ℕ × BranchEntry)) (u : BranchEntry) (at : ℕ) (x : ModalArg) : Type 0 where
  pub is_open : o ≡ true
  pub sequents : AreKept names table labels E M (open_sequents o xs forks)
  pub stands : StandsOn xs u
  pub grown : IsLonger labels more
  pub label : IsLabelAt more at (label_after P.setting.logic (get_or labels u.shared.label []) x)

-- the label of the entry is where it was
pub label-kept : (P : Problem) (names : Names) (table : List (List Term)) (labels more : List Label) (E M : List ℕ) (o : Bool) (xs : List BranchEntry) (forks : List (ℕ × BranchEntry)) (u : BranchEntry) (at : ℕ) (x : ModalArg) → Used P names table labels more E M o xs forks u at x
    → (u.shared.label < length more) × (get_or more u.shared.label [] ≡ get_or labels u.shared.label [])
label-kept P names table labels more E M o xs forks u at x g =
    let parts = kept-open names table labels E M o xs forks g.is_open g.sequents in
    let within = stands-within table labels xs u parts.0 g.stands in
    let size = longer-size labels more g.grown in
    (omega (arith, size, within.1), longer-at labels more u.shared.label [] g.grown within.1)

pub told-of : (P : Problem) (names : Names) (table : List (List Term)) (labels more : List Label) (E M : List ℕ) (o : Bool) (xs : List BranchEntry) (forks : List (ℕ × BranchEntry)) (u : BranchEntry) (at : ℕ) (x : ModalArg) → Used P names table labels more E M o xs forks u at x
    → Tells names E M (the_sequent table labels xs)
told-of P names table labels more E M o xs forks u at x g = (kept-open names table labels E M o xs forks g.is_open g.sequents).1

pub after-of : (P : Problem) (names : Names) (table : List (List Term)) (labels more : List Label) (E M : List ℕ) (o : Bool) (xs : List BranchEntry) (forks : List (ℕ × BranchEntry)) (u : BranchEntry) (at : ℕ) (x : ModalArg) → Used P names table labels more E M o xs forks u at x
    → IsLabelAfter more u.shared.label x at
after-of P names table labels more E M o xs forks u at x g =
    let kept = label-kept P names table labels more E M o xs forks u at x g in
    (P.setting.logic, (g.label.0, g.label.1 ∙ ap (λ w. label_after P.setting.logic w x) (sym kept.1)))

-- what is on the branch is what was, by the longer table of labels
pub used-leads : (P : Problem) (names : Names) (table : List (List Term)) (labels more : List Label) (E M : List ℕ) (o : Bool) (xs : List BranchEntry) (forks : List (ℕ × BranchEntry)) (u : BranchEntry) (at : ℕ) (x : ModalArg) (t : TermArg) (now : List Sequent) → Used P names table labels more E M o xs forks u at x
    → ((c : Children) → first_fault (conditions_of_use P names (the_sequent table labels xs) (the_entry table labels u) x t) c ≡ faulty c None)
    → now ≡ open_after (with_components (shape_of u.shared.sign (formula_under table u.shared.substitution (the_formula u.shared.formula.now))) (the_sequent table more xs) (get_or more at []) (map (with_argument t) (components u.shared.sign (formula_under table u.shared.substitution (the_formula u.shared.formula.now))))) (map (the_sequent table more) (waiting xs forks))
    → LeadsTo (use_entry P names (the_sequent table labels xs) (Some (the_entry table labels u)) x t) (map (the_sequent table labels) (waiting xs forks)) now
used-leads P names table labels more E M o xs forks u at x t now g unfaulted shown =
    let parts = kept-open names table labels E M o xs forks g.is_open g.sequents in
    let children = children_of P.setting.logic (the_sequent table labels xs) (the_entry table labels u) x t in
    let same = sequent-longer table table labels more xs (longer-self table) g.grown parts.0 in
    let others = waiting-longer names table table labels more E M (waiting xs forks) (longer-self table) g.grown parts.2 in
    record {
      children = children;
      applies = unfaulted children;
      shown = shown ∙ (λ i. open_after (with_components (shape_of u.shared.sign (formula_under table u.shared.substitution (the_formula u.shared.formula.now))) (same i) (g.label.1 i) (map (with_argument t) (components u.shared.sign (formula_under table u.shared.substitution (the_formula u.shared.formula.now))))) (others i));
    }
