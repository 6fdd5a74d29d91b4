-- Transfer derives: a derivation of an intuitionistic problem becomes one of the translated problem.
use Rattle.std.proofs.Common.{◌≡◌, ◌⊎◌, ℕ, zero, suc, ◌<◌, List, [], ◌∷◌, ◌++◌, map, Bool, true, false, not, ◌&&◌, ◌||◌, ◌==◌, IsTrue, refl, sym, ap, subst, inl, inr, Option, Some, None, Result, Ok, Err, nat_lt, find, arith, eq-eqb, eqb-true, ltb-true, lt-ltb}
use Rattle.std.specs.List.{list_any}
use Rattle.std.proofs.lemmas.Bool.{false≢true, cases_Bool, and_parts, and_from, or_parts, not-true}
use Rattle.calculus.specs.declared.fault.StepFault.{StepFault}
use Rattle.calculus.specs.declared.sign.Sign.TheVariants.{F}
use Rattle.calculus.specs.declared.setting.Logic.{Logic}
use Rattle.calculus.specs.declared.setting.Logic.TheVariants.{Intuitionistic}
use Rattle.calculus.specs.declared.setting.Domains.{Domains}
use Rattle.calculus.specs.declared.setting.Domains.TheVariants.{Constant, Cumulative, Varying}
use Rattle.calculus.specs.Syntax.{arity_of, Symbol, Term, Terms, var, fun, eigen, spare, no_terms, more_terms, Formula, atom, neg, conj, disj, imp, all, ex, box, dia, setting_of, Problem}
use Rattle.calculus.specs.Skolem.{has_function}
use Rattle.calculus.specs.Problems.{is_modal, has_predicate, term_fits_in, terms_fit_in, formula_fits, setting_fits, is_problem}
use Rattle.calculus.specs.Kinds.{shape_of, modal_of}
use Rattle.calculus.specs.Substitution.{any_leaf_in}
use Rattle.calculus.specs.Derivations.{new_mark, Label, Entry, Sequent, EigenName, Names, ModalArg, by_new, TermArg, no_term, by_term, by_name, Step, apply_to, close, Derivation, first_sequent}
use Rattle.calculus.specs.Calculus.{Children, closed, one, two, eigen_named, holds_character, is_in_home, is_eigen, character_occurs, modal_fits, term_fits, has_step, label_after, character_is_new, eigen_is_new, children_of, conditions_of_use, connects, entry_of, use_entry, close_branch, apply, Closes, leaf, single, fork, Derives}
use Rattle.calculus.specs.DerivationText.{rises_from}
use Rattle.calculus.specs.Translation.{translation_of, translated_problem}
use Rattle.logic_rules.proofs.ProblemFacts.{kept}
use Rattle.godel_transfer.specs.Transfer.{label_image, term_image, terms_image, formula_image, OpenBranch, first_branch, place_of, characters_after, branches_by, axiom_steps, steps_at, steps_for, axiom_at, names_by, names_at, names_for, branches_at, branches_for, steps_from, names_from, names_with, transferred}
use Rattle.calculus.proofs.Interpretations.{entry-without}
use Rattle.calculus.proofs.Members.{Among, among-left, among-right}
use Rattle.calculus.proofs.SequentLaws.{are_met, met-children}
use Rattle.godel_transfer.proofs.TransferState.{is_late, entry_with, EntryStands, Fits, fits-later, stands-at, label-self, formula-early}
use Rattle.godel_transfer.proofs.TransferParts.{intuitionistic, IsListed}
use Rattle.godel_transfer.proofs.TransferSteps.{Carried, Used, use-carried, close-carried}

none-at : (test : Entry → Bool) (s : Sequent) (n : ℕ) (e : Entry) → entry_of s n ≡ Some e → list_any test s ≡ false → test e ≡ false
none-at test s zero e g h = cc
none-at test s (suc k) e g h = entry-without test s k e g h

-- what a use step introduces does not stand in the used entry
pub outside-entry : (names : Names) (s : Sequent) (n : ℕ) (e : Entry) → entry_of s n ≡ Some e → (m : ModalArg) → character_is_new names s m ≡ true → (k : ℕ) → m ≡ by_new k → holds_character (new_mark k) e.label ≡ false
outside-entry names s n e at m new k same =
    let new' : not (character_occurs names (new_mark k) s) ≡ true = subst (λ (m : ModalArg). character_is_new names s m ≡ true) same new in
    (or_parts (holds_character (new_mark k) e.label) (any_leaf_in (is_in_home names (new_mark k)) e.formula) (none-at (λ (x : Entry). holds_character (new_mark k) x.label || any_leaf_in (is_in_home names (new_mark k)) x.formula) s n e at (not-true _ new'))).0

apart-entry : (s : Sequent) (n : ℕ) (e : Entry) → entry_of s n ≡ Some e → (t : TermArg) → eigen_is_new s t ≡ true → (k : ℕ) → t ≡ by_name k → any_leaf_in (is_eigen k) e.formula ≡ false
apart-entry s n e at t fresh k same =
    let fresh' : eigen_is_new s (by_name k) ≡ true = subst (λ (t : TermArg). eigen_is_new s t ≡ true) same fresh in
    none-at (λ (x : Entry). any_leaf_in (is_eigen k) x.formula) s n e at (not-true _ fresh')

-- the names are listed
abbrev AreListed : Names → List EigenName → Type 0
AreListed others ys = (y : EigenName) → Among ys y → eigen_named others y.number ≡ Some y

listed-name : (others : Names) (b : OpenBranch) (i : ℕ) (e : Entry) (m : ModalArg) (t : TermArg) → AreListed others (names_by b i e m t) → IsListed others i t (label_image (characters_after b e.formula m) (label_after Intuitionistic e.label m))
listed-name others b i e m no_term h = tt
listed-name others b i e m (by_term t) h = tt
listed-name others b i e m (by_name n) h = h _ (inl refl)

module _ (phi : Formula) (symbols : List Symbol) (names : Names) (E : List EigenName) where
  use-step : (b : OpenBranch) (i : ℕ) (target : Sequent) (n : ℕ) (m : ModalArg) (t : TermArg) (c : Children) (o : Option Entry) → Fits names (names_with E) b i target → entry_of b.sequent n ≡ o → use_entry (intuitionistic phi symbols) names b.sequent o m t ≡ Ok c → apply (intuitionistic phi symbols) names b.sequent (apply_to n m t) ≡ Ok c → AreListed (names_with E) (names_at b i o m t) → Carried phi symbols names E target i (steps_at b i (place_of b.places n) o m t) (branches_at (intuitionistic phi symbols) names b i (place_of b.places n) o m t (apply_to n m t)) c
  use-step b i target n m t c None fits at used applied listed = cc
  use-step b i target n m t c (Some e) fits at used applied listed =
      let P = intuitionistic phi symbols in
      let p = place_of b.places n in
      let children = children_of Intuitionistic b.sequent e m t in
      let met = are_met (conditions_of_use P names b.sequent e m t) children c used in
      let same : children ≡ c = met-children (conditions_of_use P names b.sequent e m t) children c used in
      let new = and_parts (character_is_new names b.sequent m) (eigen_is_new b.sequent t) met.1.1.1.0 in
      let kinds = and_parts (modal_fits (modal_of Intuitionistic e.sign e.formula) m && term_fits (shape_of e.sign e.formula) t) (has_step (modal_of Intuitionistic e.sign e.formula) (shape_of e.sign e.formula)) met.0 in
      let args = and_parts (modal_fits (modal_of Intuitionistic e.sign e.formula) m) (term_fits (shape_of e.sign e.formula) t) kinds.0 in
      let u : Used phi symbols names E b i target e.formula e.label m t = record {
        fits = fits;
        reachable = met.1.1.0;
        new = new.0;
        fresh = new.1;
        home = met.1.1.1.1.0;
        allowed = met.1.1.1.1.1.0;
        outside = outside-entry names b.sequent n e at m new.0;
        apart = apart-entry b.sequent n e at t new.1;
        listed = listed-name (names_with E) b i e m t listed;
      } in
      let stands : EntryStands b.characters b.eigens target e p = stands-at b.characters b.eigens target b.sequent b.places fits.stands n e at in
      let carried = use-carried phi symbols names E b i target e.sign e.formula e.label m t p u args.0 args.1 stands in
      let moved = subst (λ (d : Children). Carried phi symbols names E target i (steps_at b i p (Some e) m t) (branches_by b i p e m t (Ok d)) d) same carried in
      subst (λ (r : Result Children StepFault). Carried phi symbols names E target i (steps_at b i p (Some e) m t) (branches_by b i p e m t r) c) (sym applied) moved

  close-step : (b : OpenBranch) (i : ℕ) (target : Sequent) (n k : ℕ) (c : Children) (o q : Option Entry) → Fits names (names_with E) b i target → entry_of b.sequent n ≡ o → entry_of b.sequent k ≡ q → close_branch o q ≡ Ok c → Carried phi symbols names E target i (axiom_at b (place_of b.places n) (place_of b.places k) q) [] c
  close-step b i target n k c (Some x) (Some y) fits at there e = elim (cases_Bool (connects x y)) [
    | inl h ↦
        let left = stands-at b.characters b.eigens target b.sequent b.places fits.stands n x at in
        let right = stands-at b.characters b.eigens target b.sequent b.places fits.stands k y there in
        let e' : Ok closed ≡ Ok c = rw h at e in
        let same : closed ≡ c = cc in
        subst (λ (d : Children). Carried phi symbols names E target i (axiom_steps b (place_of b.places n) (place_of b.places k) y.label) [] d) same (refl, close-carried phi symbols names E b i target x y (place_of b.places n) (place_of b.places k) h fits left right)
    | inr h ↦ let e' : Err _ ≡ Ok c = rw h at e in absurd cc
  ]
  close-step b i target n k c (Some x) None fits at there e = cc
  close-step b i target n k c None q fits at there e = cc

  step-carried : (b : OpenBranch) (i : ℕ) (target : Sequent) → Fits names (names_with E) b i target → (x : Step) (c : Children) → apply (intuitionistic phi symbols) names b.sequent x ≡ Ok c → AreListed (names_with E) (names_for b i x) → Carried phi symbols names E target i (steps_for b i x) (branches_for (intuitionistic phi symbols) names b i x) c
  step-carried b i target fits (apply_to n m t) c e listed = use-step b i target n m t c (entry_of b.sequent n) fits refl e e listed
  step-carried b i target fits (close n k) c e listed = close-step b i target n k c (entry_of b.sequent n) (entry_of b.sequent k) fits refl refl e

  -- ---- all steps

  record Done (i : ℕ) (target : Sequent) (bs : List OpenBranch) (steps : List Step) (rest : List Step) : Type 0 where
    next : ℕ
    later : i < next
    closes : Closes (translated_problem (intuitionistic phi symbols)) (names_with E) target steps (steps_from (intuitionistic phi symbols) names bs next rest)
    listed : AreListed (names_with E) (names_from (intuitionistic phi symbols) names bs next rest)

  all-carried : {s : Sequent} {xs rest : List Step} → Closes (intuitionistic phi symbols) names s xs rest → (b : OpenBranch) → b.sequent ≡ s → (i : ℕ) (target : Sequent) → Fits names (names_with E) b i target → (bs : List OpenBranch) → AreListed (names_with E) (names_from (intuitionistic phi symbols) names (b ∷ bs) i xs) → Done i target bs (steps_from (intuitionistic phi symbols) names (b ∷ bs) i xs) rest
  all-carried (leaf {x = x} {rest = rest} e) b same i target fits bs listed =
      let P = intuitionistic phi symbols in
      let Q = translated_problem P in
      let others = names_with E in
      let e' = subst (λ (s : Sequent). apply P names s x ≡ Ok closed) (sym same) e in
      let after = branches_for P names b i x in
      let c = step-carried b i target fits x closed e' (λ y k. listed y (among-left (names_for b i x) (names_from P names (after ++ bs) (suc i) rest) y k)) in
      record {
        next = suc i;
        later = omega arith;
        closes = subst (λ (ks : List OpenBranch). Closes Q others target (steps_for b i x ++ steps_from P names (ks ++ bs) (suc i) rest) (steps_from P names bs (suc i) rest)) (sym c.0) (c.1 (steps_from P names bs (suc i) rest));
        listed = λ y k. listed y (among-right (names_for b i x) (names_from P names (after ++ bs) (suc i) rest) y (subst (λ (ks : List OpenBranch). Among (names_from P names (ks ++ bs) (suc i) rest) y) (sym c.0) k));
      }
  all-carried (single {t = t} {x = x} {xs = xs} {rest = rest} e d) b same i target fits bs listed =
      let P = intuitionistic phi symbols in
      let Q = translated_problem P in
      let others = names_with E in
      let e' = subst (λ (s : Sequent). apply P names s x ≡ Ok (one t)) (sym same) e in
      let after = branches_for P names b i x in
      let c = step-carried b i target fits x (one t) e' (λ y k. listed y (among-left (names_for b i x) (names_from P names (after ++ bs) (suc i) xs) y k)) in
      let inside = λ (y : EigenName) (k : Among (names_from P names (c.branch ∷ bs) (suc i) xs) y). listed y (among-right (names_for b i x) (names_from P names (after ++ bs) (suc i) xs) y (subst (λ (ks : List OpenBranch). Among (names_from P names (ks ++ bs) (suc i) xs) y) (sym c.only) k)) in
      let r = all-carried d c.branch c.sequent (suc i) c.goal c.fits bs inside in
      let later = r.later in
      record {
        next = r.next;
        later = omega arith;
        closes = subst (λ (ks : List OpenBranch). Closes Q others target (steps_for b i x ++ steps_from P names (ks ++ bs) (suc i) xs) (steps_from P names bs r.next rest)) (sym c.only) (c.closes (steps_from P names (c.branch ∷ bs) (suc i) xs) (steps_from P names bs r.next rest) r.closes);
        listed = r.listed;
      }
  all-carried (fork {t = t} {u = u} {x = x} {xs = xs} {ys = ys} {rest = rest} e d1 d2) b same i target fits bs listed =
      let P = intuitionistic phi symbols in
      let Q = translated_problem P in
      let others = names_with E in
      let e' = subst (λ (s : Sequent). apply P names s x ≡ Ok (two t u)) (sym same) e in
      let after = branches_for P names b i x in
      let c = step-carried b i target fits x (two t u) e' (λ y k. listed y (among-left (names_for b i x) (names_from P names (after ++ bs) (suc i) xs) y k)) in
      let inside = λ (y : EigenName) (k : Among (names_from P names (c.left ∷ c.right ∷ bs) (suc i) xs) y). listed y (among-right (names_for b i x) (names_from P names (after ++ bs) (suc i) xs) y (subst (λ (ks : List OpenBranch). Among (names_from P names (ks ++ bs) (suc i) xs) y) (sym c.both) k)) in
      let r1 = all-carried d1 c.left c.left_sequent (suc i) c.left_goal c.left_fits (c.right ∷ bs) inside in
      let later1 = r1.later in
      let r2 = all-carried d2 c.right c.right_sequent r1.next c.right_goal (fits-later names others c.right (suc i) r1.next c.right_goal (omega arith) c.right_fits) bs r1.listed in
      let later2 = r2.later in
      record {
        next = r2.next;
        later = omega arith;
        closes = subst (λ (ks : List OpenBranch). Closes Q others target (steps_for b i x ++ steps_from P names (ks ++ bs) (suc i) xs) (steps_from P names bs r2.next rest)) (sym c.both) (c.closes (steps_from P names (c.left ∷ c.right ∷ bs) (suc i) xs) (steps_from P names (c.right ∷ bs) r1.next ys) (steps_from P names bs r2.next rest) r1.closes r2.closes);
        listed = r2.listed;
      }

-- ---- a formula of a problem has no names

mutual
  term-closed : (symbols : List Symbol) (d : ℕ) (t : Term) → term_fits_in symbols d t ≡ true → term_image [] t ≡ t
  term-closed symbols d (var k) h = refl
  term-closed symbols d (fun f ts) h = ap (fun f) (terms-closed symbols d ts (and_parts (has_function symbols f (arity_of ts)) (terms_fit_in symbols d ts) h).1)
  term-closed symbols d (eigen n) h = absurd (false≢true h)
  term-closed symbols d (spare n) h = absurd (false≢true h)

  terms-closed : (symbols : List Symbol) (d : ℕ) (ts : Terms) → terms_fit_in symbols d ts ≡ true → terms_image [] ts ≡ ts
  terms-closed symbols d no_terms h = refl
  terms-closed symbols d (more_terms t ts) h = let r = and_parts (term_fits_in symbols d t) (terms_fit_in symbols d ts) h in λ i. more_terms (term-closed symbols d t r.0 i) (terms-closed symbols d ts r.1 i)

formula-closed : (l : Logic) (symbols : List Symbol) (d : ℕ) (a : Formula) → formula_fits l symbols d a ≡ true → formula_image [] a ≡ a
formula-closed l symbols d (atom p ts) h = ap (atom p) (terms-closed symbols d ts (and_parts (has_predicate symbols p (arity_of ts)) (terms_fit_in symbols d ts) h).1)
formula-closed l symbols d (neg a) h = ap neg (formula-closed l symbols d a h)
formula-closed l symbols d (conj a b) h = let r = and_parts (formula_fits l symbols d a) (formula_fits l symbols d b) h in λ i. conj (formula-closed l symbols d a r.0 i) (formula-closed l symbols d b r.1 i)
formula-closed l symbols d (disj a b) h = let r = and_parts (formula_fits l symbols d a) (formula_fits l symbols d b) h in λ i. disj (formula-closed l symbols d a r.0 i) (formula-closed l symbols d b r.1 i)
formula-closed l symbols d (imp a b) h = let r = and_parts (formula_fits l symbols d a) (formula_fits l symbols d b) h in λ i. imp (formula-closed l symbols d a r.0 i) (formula-closed l symbols d b r.1 i)
formula-closed l symbols d (all a) h = ap all (formula-closed l symbols (suc d) a h)
formula-closed l symbols d (ex a) h = ap ex (formula-closed l symbols (suc d) a h)
formula-closed l symbols d (box a) h = ap box (formula-closed l symbols d a (and_parts (is_modal l) (formula_fits l symbols d a) h).1)
formula-closed l symbols d (dia a) h = ap dia (formula-closed l symbols d a (and_parts (is_modal l) (formula_fits l symbols d a) h).1)

-- ---- the names rise

abbrev numbers_of : List EigenName → List ℕ
numbers_of ys = map (λ (x : EigenName). x.number) ys

names-short : (b : OpenBranch) (i : ℕ) (x : Step) → (names_for b i x ≡ []) ⊎ ((h : Label) × (names_for b i x ≡ record { number = i; home = h } ∷ []))
names-short b i (close n k) = inl refl
names-short b i (apply_to n m t) = by (entry_of b.sequent n) t
  where
    by : (o : Option Entry) (t : TermArg) → (names_at b i o m t ≡ []) ⊎ ((h : Label) × (names_at b i o m t ≡ record { number = i; home = h } ∷ []))
    by None t = inl refl
    by (Some e) no_term = inl refl
    by (Some e) (by_term u) = inl refl
    by (Some e) (by_name k) = inr (_, refl)

pub names-rise : (P : Problem) (names : Names) (bs : List OpenBranch) (k i : ℕ) (xs : List Step) → k < i → rises_from k (numbers_of (names_from P names bs i xs)) ≡ true
names-rise P names bs k i [] less = refl
names-rise P names [] k i (x ∷ xs) less = refl
names-rise P names (b ∷ bs) k i (x ∷ xs) less =
    let more = names_from P names (branches_for P names b i x ++ bs) (suc i) xs in
    elim (names-short b i x) [
      | inl e ↦ subst (λ (ys : List EigenName). rises_from k (numbers_of (ys ++ more)) ≡ true) (sym e) (names-rise P names (branches_for P names b i x ++ bs) k (suc i) xs (omega arith))
      | inr e ↦ subst (λ (ys : List EigenName). rises_from k (numbers_of (ys ++ more)) ≡ true) (sym e.1) (and_from (nat_lt k i) (rises_from i (numbers_of more)) (lt-ltb k i less) (names-rise P names (branches_for P names b i x ++ bs) i (suc i) xs (omega arith)))
    ]

rises-above : (ys : List EigenName) (k : ℕ) (y : EigenName) → rises_from k (numbers_of ys) ≡ true → Among ys y → k < y.number
rises-above [] k y h among = elim among [ ]
rises-above (x ∷ ys) k y h (inl e) = subst (λ (z : EigenName). k < z.number) e (ltb-true k x.number (and_parts (nat_lt k x.number) (rises_from x.number (numbers_of ys)) h).0)
rises-above (x ∷ ys) k y h (inr among) =
    let r = and_parts (nat_lt k x.number) (rises_from x.number (numbers_of ys)) h in
    let near : k < x.number = ltb-true k x.number r.0 in
    let far : x.number < y.number = rises-above ys x.number y r.1 among in
    omega arith

rises-find : (ys : List EigenName) (k : ℕ) (y : EigenName) → rises_from k (numbers_of ys) ≡ true → Among ys y → find (λ (x : EigenName). x.number == y.number) ys ≡ Some y
rises-find [] k y h among = elim among [ ]
rises-find (x ∷ ys) k y h (inl e) =
    let same : (x.number == y.number) ≡ true = eq-eqb x.number y.number (ap (λ (z : EigenName). z.number) e) in
    rw same (ap {B = _} Some e)
rises-find (x ∷ ys) k y h (inr among) =
    let r = and_parts (nat_lt k x.number) (rises_from x.number (numbers_of ys)) h in
    let far : x.number < y.number = rises-above ys x.number y r.1 among in
    elim (cases_Bool (x.number == y.number)) [
      | inl e ↦ let same : x.number ≡ y.number = eqb-true x.number y.number e in absurd (omega arith)
      | inr e ↦ rw e (rises-find ys x.number y r.1 among)
    ]

-- ---- the law

first-fits : (phi : Formula) (symbols : List Symbol) (names : Names) (E : List EigenName) → formula_image [] phi ≡ phi → Fits names (names_with E) (first_branch (intuitionistic phi symbols)) 1 (first_sequent (translated_problem (intuitionistic phi symbols)))
first-fits phi symbols names E same = record {
  counted = refl;
  stands = (([], ap (λ (a : Formula). Some (entry_with F (translation_of a) [])) (sym same), label-self F phi []), tt);
  eigens_fit = tt;
  eigens_early = tt;
  marks_early = tt;
  early = ((refl, subst (λ (a : Formula). any_leaf_in (is_late (names_with E) 1 1) (translation_of a) ≡ false) same (formula-early (names_with E) 1 1 [] tt phi)), tt);
}

transfer-of : (phi : Formula) (symbols : List Symbol) (d : Derivation) → formula_fits Intuitionistic symbols 0 phi ≡ true → Derives (intuitionistic phi symbols) d → Derives (translated_problem (intuitionistic phi symbols)) (transferred (intuitionistic phi symbols) d)
transfer-of phi symbols d fits h =
    let P = intuitionistic phi symbols in
    let b = first_branch P in
    let E = names_from P d.names (b ∷ []) 1 d.steps in
    let rises : rises_from 0 (numbers_of E) ≡ true = names-rise P d.names (b ∷ []) 0 1 d.steps (omega arith) in
    let r = all-carried phi symbols d.names E h b refl 1 (first_sequent (translated_problem P)) (first-fits phi symbols d.names E (formula-closed Intuitionistic symbols 0 phi fits)) [] (λ y k. rises-find E 0 y rises k) in
    r.closes

intuitionistic-domains : (l : Logic) (ds : Domains) → l ≡ Intuitionistic → setting_fits l ds ≡ true → ds ≡ Cumulative
intuitionistic-domains l ds e h = by ds (subst (λ (k : Logic). setting_fits k ds ≡ true) e h)
  where
    by : (ds : Domains) → setting_fits Intuitionistic ds ≡ true → ds ≡ Cumulative
    by Cumulative h = refl
    by Constant h = absurd (false≢true h)
    by Varying h = absurd (false≢true h)

pub intuitionistic-setting : (P : Problem) → IsTrue (is_problem P) → P.setting.logic ≡ Intuitionistic → P.setting ≡ setting_of Intuitionistic Cumulative
intuitionistic-setting P is logic = let domains = intuitionistic-domains P.setting.logic P.setting.domains logic (kept P is).domains in λ i. record { logic = logic i; domains = domains i }

-- a derivation of an intuitionistic problem becomes one of the translated problem
pub transfer-derives : (P : Problem) (d : Derivation) → IsTrue (is_problem P) → P.setting.logic ≡ Intuitionistic → Derives P d → Derives (translated_problem P) (transferred P d)
transfer-derives P d is logic h =
    let setting = intuitionistic-setting P is logic in
    let same : P ≡ intuitionistic P.formula P.symbols = λ i. record { setting = setting i; formula = P.formula; symbols = P.symbols } in
    let fits : formula_fits Intuitionistic P.symbols 0 P.formula ≡ true = subst (λ (l : Logic). formula_fits l P.symbols 0 P.formula ≡ true) logic (kept P is).formula in
    subst (λ (R : Problem). Derives (translated_problem R) (transferred R d)) (sym same) (transfer-of P.formula P.symbols d fits (subst (λ (R : Problem). Derives R d) same h))
