-- How a step goes on is told by the sign of its entry and by the entry's formula without terms.
use Rattle.std.proofs.Common.{◌≡◌, ℕ, suc, List, [], ◌∷◌, ◌++◌, map, Option, Some, None, Ok, refl, sym, ◌∙◌, ap, ap₂}
use Rattle.std.proofs.lemmas.List.{append_cancel_left}
use Rattle.calculus.specs.declared.sign.Sign.{Sign}
use Rattle.calculus.specs.declared.sign.Sign.TheVariants.{T, F}
use Rattle.calculus.specs.declared.kind.Shape.{Shape}
use Rattle.calculus.specs.declared.kind.Shape.TheVariants.{Alpha, Beta, Gamma, Delta, Literal}
use Rattle.calculus.specs.Syntax.{Term, Formula, atom, neg, conj, disj, imp, all, ex, box, dia, eigen, Problem}
use Rattle.calculus.specs.Kinds.{Signed, signed, shape_of, components}
use Rattle.calculus.specs.Substitution.{formula_with}
use Rattle.calculus.specs.Derivations.{Entry, Sequent, Names, Label, ModalArg, TermArg, no_term, by_term, by_name}
use Rattle.calculus.specs.Calculus.{Children, one, two, children_of, conditions_of_use, with_components, with_argument, entry_at, label_after, use_entry}
use Rattle.calculus.proofs.SequentLaws.{met-children}
use Rattle.trim_theory.specs.Bare.{bare, bare_signed, bare_of}

bare-with : (t : Term) (d : ℕ) (f : Formula) → bare (formula_with t d f) ≡ bare f
bare-with t d (atom p ts) = refl
bare-with t d (neg a) = ap neg (bare-with t d a)
bare-with t d (conj a b) = ap₂ conj (bare-with t d a) (bare-with t d b)
bare-with t d (disj a b) = ap₂ disj (bare-with t d a) (bare-with t d b)
bare-with t d (imp a b) = ap₂ imp (bare-with t d a) (bare-with t d b)
bare-with t d (all a) = ap all (bare-with t (suc d) a)
bare-with t d (ex a) = ap ex (bare-with t (suc d) a)
bare-with t d (box a) = ap box (bare-with t d a)
bare-with t d (dia a) = ap dia (bare-with t d a)

-- the shape of a formula without terms is its own
pub bare-shape : (s : Sign) (f : Formula) → shape_of s (bare f) ≡ shape_of s f
bare-shape T (atom p ts) = refl
bare-shape F (atom p ts) = refl
bare-shape T _ = refl
bare-shape F _ = refl

pub bare-components : (s : Sign) (f : Formula) → map bare_signed (components s f) ≡ components s (bare f)
bare-components s (atom p ts) = refl
bare-components s _ = refl

pub bare-argument : (y : TermArg) (x : Signed) → bare_signed (with_argument y x) ≡ bare_signed x
bare-argument no_term x = refl
bare-argument (by_term t) x = ap (λ f. signed x.sign f) (bare-with t 0 x.formula)
bare-argument (by_name n) x = ap (λ f. signed x.sign f) (bare-with (eigen n) 0 x.formula)

bare-added : (v : Label) (y : TermArg) (xs : List Signed) → map bare_of (map (entry_at v) (map (with_argument y) xs)) ≡ map bare_signed xs
bare-added v y [] = refl
bare-added v y (x ∷ xs) = ap₂ (λ z zs. z ∷ zs) (bare-argument y x) (bare-added v y xs)

abbrev the_one : Sequent → Children → Sequent
the_one d (one s) = s
the_one d _ = d

abbrev the_left : Children → Sequent
the_left (two s t) = s
the_left _ = []

abbrev the_right : Children → Sequent
the_right (two s t) = t
the_right _ = []

pub one-added : (h : Shape) (s added : Sequent) (v : Label) (xs : List Signed) → with_components h s v xs ≡ one (s ++ added) → added ≡ map (entry_at v) xs
one-added Beta s added v [] e = sym (append_cancel_left s (map (entry_at v) []) added (ap (the_one []) e))
one-added Beta s added v (x ∷ []) e = sym (append_cancel_left s (map (entry_at v) (x ∷ [])) added (ap (the_one []) e))
one-added Beta s added v (x ∷ y ∷ []) e = cc
one-added Beta s added v (x ∷ y ∷ z ∷ xs) e = sym (append_cancel_left s (map (entry_at v) (x ∷ y ∷ z ∷ xs)) added (ap (the_one []) e))
one-added Alpha s added v xs e = sym (append_cancel_left s (map (entry_at v) xs) added (ap (the_one []) e))
one-added Gamma s added v xs e = sym (append_cancel_left s (map (entry_at v) xs) added (ap (the_one []) e))
one-added Delta s added v xs e = sym (append_cancel_left s (map (entry_at v) xs) added (ap (the_one []) e))
one-added Literal s added v xs e = sym (append_cancel_left s (map (entry_at v) xs) added (ap (the_one []) e))

two-added : (h : Shape) (s : Sequent) (e f : Entry) (v : Label) (xs : List Signed) → with_components h s v xs ≡ two (s ++ e ∷ []) (s ++ f ∷ []) → (h ≡ Beta) × (e ∷ f ∷ [] ≡ map (entry_at v) xs)
two-added Beta s e f v [] h = cc
two-added Beta s e f v (x ∷ []) h = cc
two-added Beta s e f v (x ∷ y ∷ []) h =
    let l = append_cancel_left s (entry_at v x ∷ []) (e ∷ []) (ap the_left h) in
    let r = append_cancel_left s (entry_at v y ∷ []) (f ∷ []) (ap the_right h) in
    (refl, sym (ap₂ ◌++◌ l r))
two-added Beta s e f v (x ∷ y ∷ z ∷ xs) h = cc
two-added Alpha s e f v xs h = cc
two-added Gamma s e f v xs h = cc
two-added Delta s e f v xs h = cc
two-added Literal s e f v xs h = cc

-- a branching formula splits the branch
beta-splits : (s : Sign) (f : Formula) (r t : Sequent) (v : Label) (y : TermArg) → shape_of s f ≡ Beta → with_components (shape_of s f) r v (map (with_argument y) (components s f)) ≡ one t → ⊥
beta-splits s (atom p ts) r t v y b h = cc
beta-splits s (neg a) r t v y b h = cc
beta-splits T (conj a c) r t v y b h = cc
beta-splits F (conj a c) r t v y b h = cc
beta-splits T (disj a c) r t v y b h = cc
beta-splits F (disj a c) r t v y b h = cc
beta-splits T (imp a c) r t v y b h = cc
beta-splits F (imp a c) r t v y b h = cc
beta-splits T (all a) r t v y b h = cc
beta-splits F (all a) r t v y b h = cc
beta-splits T (ex a) r t v y b h = cc
beta-splits F (ex a) r t v y b h = cc
beta-splits s (box a) r t v y b h = cc
beta-splits s (dia a) r t v y b h = cc

-- a step that does not split the branch: its entry does not branch, and adds its components
abbrev pub AddsBare : Option Entry → List Entry → Type 0
AddsBare o added = (e : Entry) × (o ≡ Some e) × (shape_of e.sign (bare e.formula) ≡ Beta → ⊥) × (map bare_of added ≡ components e.sign (bare e.formula))

pub step-bare : (P : Problem) (names : Names) (s : Sequent) (o : Option Entry) (x : ModalArg) (y : TermArg) (added : Sequent) → use_entry P names s o x y ≡ Ok (one (s ++ added)) → AddsBare o added
step-bare P names s None x y added h = cc
step-bare P names s (Some e) x y added h =
    let l = P.setting.logic in
    let v = label_after l e.label x in
    let xs = map (with_argument y) (components e.sign e.formula) in
    let c = met-children (conditions_of_use P names s e x y) (children_of l s e x y) (one (s ++ added)) h in (
      e,
      refl,
      λ b. beta-splits e.sign e.formula s (s ++ added) v y (sym (bare-shape e.sign e.formula) ∙ b) c,
      ap (map bare_of) (one-added (shape_of e.sign e.formula) s added v xs c) ∙ bare-added v y (components e.sign e.formula) ∙ bare-components e.sign e.formula,
    )

-- a fork: its entry branches, and each side adds one of its two components
abbrev pub ForksBare : Option Entry → Entry → Entry → Type 0
ForksBare o a b = (e : Entry) × (o ≡ Some e) × (shape_of e.sign (bare e.formula) ≡ Beta) × (bare_of a ∷ bare_of b ∷ [] ≡ components e.sign (bare e.formula))

pub fork-bare : (P : Problem) (names : Names) (s : Sequent) (o : Option Entry) (x : ModalArg) (y : TermArg) (a b : Entry) → use_entry P names s o x y ≡ Ok (two (s ++ a ∷ []) (s ++ b ∷ [])) → ForksBare o a b
fork-bare P names s None x y a b h = cc
fork-bare P names s (Some e) x y a b h =
    let l = P.setting.logic in
    let v = label_after l e.label x in
    let xs = map (with_argument y) (components e.sign e.formula) in
    let c = met-children (conditions_of_use P names s e x y) (children_of l s e x y) (two (s ++ a ∷ []) (s ++ b ∷ [])) h in
    let r = two-added (shape_of e.sign e.formula) s a b v xs c in
    (e, refl, bare-shape e.sign e.formula ∙ r.0, ap (map bare_of) r.1 ∙ bare-added v y (components e.sign e.formula) ∙ bare-components e.sign e.formula)
