-- What a derivation in memory keeps as labels, terms, names and steps are added.
use Rattle.std.proofs.Common.{◌≡◌, ℕ, ◌≤◌, List, [], ◌∷◌, ◌++◌, length, map, IsTrue, Option, Result, Ok, Err, OnErr, sym, ◌∙◌, ap, subst, arith}
use Rattle.std.specs.List.{list_all}
use Rattle.std.proofs.lemmas.Bool.{and_from}
use Rattle.std.proofs.lemmas.List.{map_push}
use Rattle.calculus.specs.Equality.{term_eq}
use Rattle.calculus.specs.Syntax.{Term}
use Rattle.calculus.specs.Derivations.{Label, Home, ModalArg, TermArg}
use Rattle.calculus.specs.Versions.{home_number, number_in, numbered_arg, numbered_modal, same_label}
use Rattle.derivation_text.specs.Entering.{entered, with_arg, with_home, with_label, with_modal}
use Rattle.derivation_text.specs.Listed.{are_listed, has_home_among, is_arg_listed, is_modal_listed, may_have_home_among}
use Rattle.derivation_text.specs.NumbersView.{AreAmong, the_numbered_arg, the_numbered_derivation, the_numbered_eigen, the_numbered_modal, the_numbered_spare, the_numbered_step}
use Rattle.derivation_text.specs.declared.numbers.NumberedModal as modal
use Rattle.derivation_text.specs.declared.numbers.NumberedTerm as arg
use Rattle.derivation_text.specs.declared.numbers.NumberedStep as step
use Rattle.derivation_text.specs.declared.numbers.NumberedStep.TheVariants as step_is
use Rattle.derivation_text.proofs.AmongLaws.{all-end, among-lists, arg-among, arg-longer, end-longer, entered-among, entered-longer, home-among, home-longer, modal-among, modal-longer}
use Rattle.derivation_text.proofs.NumberingLaws.{same_label-tells}

pub on-err : {A E : Type 0} (r : Result A E) (P : Type 0) → P → OnErr r P
on-err (Ok x) P p = tt
on-err (Err e) P p = p

-- lists of labels and terms that grew
pub lists-longer : (n : ℕ) (L M : List Label) (es : List (ℕ × ℕ)) (ss : List (ℕ × Option ℕ)) (T U : List Term) (xs : List step.NumberedStep) → AreAmong (the_numbered_derivation n L es ss T xs) → length L ≤ length M → length T ≤ length U
    → AreAmong (the_numbered_derivation n M es ss U xs)
lists-longer n L M es ss T U xs h f g = let r = among-lists (the_numbered_derivation n L es ss T xs) M U f g h in record { eigens = r.eigens; spares = r.spares; steps = r.steps }

grown-by : (L M N : List Label) → M ≡ N → length L ≤ length N → length L ≤ length M
grown-by L M N e h = subst (λ l. length L ≤ length l) (sym e) h

terms-by : (T U V : List Term) → U ≡ V → length T ≤ length V → length T ≤ length U
terms-by T U V e h = subst (λ l. length T ≤ length l) (sym e) h

pub label-listed : (n : ℕ) (L M : List Label) (es : List (ℕ × ℕ)) (ss : List (ℕ × Option ℕ)) (T : List Term) (xs : List step.NumberedStep) (w : Label) → AreAmong (the_numbered_derivation n L es ss T xs) → M ≡ L ++ w ∷ [] → AreAmong (the_numbered_derivation n M es ss T xs)
label-listed n L M es ss T xs w h e = lists-longer n L M es ss T T xs h (grown-by L M (L ++ w ∷ []) e (end-longer L w)) (omega arith)

pub term-listed : (n : ℕ) (L : List Label) (es : List (ℕ × ℕ)) (ss : List (ℕ × Option ℕ)) (T U : List Term) (xs : List step.NumberedStep) (t : Term) → AreAmong (the_numbered_derivation n L es ss T xs) → U ≡ T ++ t ∷ [] → AreAmong (the_numbered_derivation n L es ss U xs)
term-listed n L es ss T U xs t h e = lists-longer n L L es ss T U xs h (omega arith) (terms-by T U (T ++ t ∷ []) e (end-longer T t))

-- a label that was entered
pub label-entered : (n : ℕ) (L M : List Label) (es : List (ℕ × ℕ)) (ss : List (ℕ × Option ℕ)) (T : List Term) (xs : List step.NumberedStep) (w : Label) → AreAmong (the_numbered_derivation n L es ss T xs) → M ≡ with_label L w → AreAmong (the_numbered_derivation n M es ss T xs)
label-entered n L M es ss T xs w h e = lists-longer n L M es ss T T xs h (grown-by L M (with_label L w) e (entered-longer same_label L w)) (omega arith)

pub term-entered : (n : ℕ) (L : List Label) (es : List (ℕ × ℕ)) (ss : List (ℕ × Option ℕ)) (T U : List Term) (xs : List step.NumberedStep) (t : Term) → AreAmong (the_numbered_derivation n L es ss T xs) → U ≡ entered term_eq T t → AreAmong (the_numbered_derivation n L es ss U xs)
term-entered n L es ss T U xs t h e = lists-longer n L L es ss T U xs h (omega arith) (subst (λ u. length T ≤ length u) (sym e) (entered-longer term_eq T t))

pub home-entered : (n : ℕ) (L M : List Label) (es : List (ℕ × ℕ)) (ss : List (ℕ × Option ℕ)) (T : List Term) (xs : List step.NumberedStep) (home : Home) → AreAmong (the_numbered_derivation n L es ss T xs) → M ≡ with_home L home → AreAmong (the_numbered_derivation n M es ss T xs)
home-entered n L M es ss T xs home h e = lists-longer n L M es ss T T xs h (grown-by L M (with_home L home) e (home-longer L home)) (omega arith)

pub modal-entered : (n : ℕ) (L M : List Label) (es : List (ℕ × ℕ)) (ss : List (ℕ × Option ℕ)) (T : List Term) (xs : List step.NumberedStep) (m : ModalArg) → AreAmong (the_numbered_derivation n L es ss T xs) → M ≡ with_modal L m → AreAmong (the_numbered_derivation n M es ss T xs)
modal-entered n L M es ss T xs m h e = lists-longer n L M es ss T T xs h (grown-by L M (with_modal L m) e (modal-longer L m)) (omega arith)

pub both-entered : (n : ℕ) (L M : List Label) (es : List (ℕ × ℕ)) (ss : List (ℕ × Option ℕ)) (T U : List Term) (xs : List step.NumberedStep) (m : ModalArg) (t : TermArg) → AreAmong (the_numbered_derivation n L es ss T xs) → M ≡ with_modal L m → U ≡ with_arg T t → AreAmong (the_numbered_derivation n M es ss U xs)
both-entered n L M es ss T U xs m t h e f = lists-longer n L M es ss T U xs h (grown-by L M (with_modal L m) e (modal-longer L m)) (terms-by T U (with_arg T t) f (arg-longer T t))

-- a name or a step more
pub eigen-entered : (n : ℕ) (L M : List Label) (es after : List (ℕ × ℕ)) (ss : List (ℕ × Option ℕ)) (T : List Term) (xs : List step.NumberedStep) (number k : ℕ) (w : Label) → AreAmong (the_numbered_derivation n L es ss T xs) → M ≡ with_label L w → k ≡ number_in same_label M w → after ≡ es ++ (number, k) ∷ []
    → AreAmong (the_numbered_derivation n M after ss T xs)
eigen-entered n L M es after ss T xs number k w h e f g =
    let r = label-entered n L M es ss T xs w h e in
    let there : IsTrue (has_home_among (length M) (the_numbered_eigen (number, k))) =
    subst (λ j. IsTrue (has_home_among (length M) (the_numbered_eigen (number, j)))) (sym f) (subst (λ l. IsTrue (has_home_among (length l) (the_numbered_eigen (number, number_in same_label l w)))) (sym e) (entered-among same_label same_label-tells L w)) in
    record {
      eigens = subst (λ l. IsTrue (list_all (has_home_among (length M)) l)) (sym (ap (map the_numbered_eigen) g ∙ map_push the_numbered_eigen es (number, k))) (all-end (has_home_among (length M)) (map the_numbered_eigen es) (the_numbered_eigen (number, k)) r.eigens there);
      spares = r.spares;
      steps = r.steps;
    }

pub spare-entered : (n : ℕ) (L M : List Label) (es : List (ℕ × ℕ)) (ss after : List (ℕ × Option ℕ)) (T : List Term) (xs : List step.NumberedStep) (number : ℕ) (k : Option ℕ) (home : Home) → AreAmong (the_numbered_derivation n L es ss T xs) → M ≡ with_home L home → k ≡ home_number M home → after ≡ ss ++ (number, k) ∷ []
    → AreAmong (the_numbered_derivation n M es after T xs)
spare-entered n L M es ss after T xs number k home h e f g =
    let r = home-entered n L M es ss T xs home h e in
    let there : IsTrue (may_have_home_among (length M) (the_numbered_spare (number, k))) =
    subst (λ j. IsTrue (may_have_home_among (length M) (the_numbered_spare (number, j)))) (sym f) (subst (λ l. IsTrue (may_have_home_among (length l) (the_numbered_spare (number, home_number l home)))) (sym e) (home-among L home)) in
    record {
      eigens = r.eigens;
      spares = subst (λ l. IsTrue (list_all (may_have_home_among (length M)) l)) (sym (ap (map the_numbered_spare) g ∙ map_push the_numbered_spare ss (number, k))) (all-end (may_have_home_among (length M)) (map the_numbered_spare ss) (the_numbered_spare (number, k)) r.spares there);
      steps = r.steps;
    }

pub use-entered : (n : ℕ) (L M : List Label) (es : List (ℕ × ℕ)) (ss : List (ℕ × Option ℕ)) (T U : List Term) (xs after : List step.NumberedStep) (entry : ℕ) (m : modal.NumberedModal) (t : arg.NumberedTerm) (a : ModalArg) (b : TermArg) → AreAmong (the_numbered_derivation n L es ss T xs)
    → M ≡ with_modal L a → the_numbered_modal m ≡ numbered_modal M a → U ≡ with_arg T b → the_numbered_arg t ≡ numbered_arg U b → after ≡ xs ++ step_is.Use entry m t ∷ [] → AreAmong (the_numbered_derivation n M es ss U after)
use-entered n L M es ss T U xs after entry m t a b h e f g j k =
    let r = both-entered n L M es ss T U xs a b h e g in
    let modals : IsTrue (is_modal_listed (length M) (the_numbered_modal m)) = subst (λ x. IsTrue (is_modal_listed (length M) x)) (sym f) (subst (λ l. IsTrue (is_modal_listed (length l) (numbered_modal l a))) (sym e) (modal-among L a)) in
    let args : IsTrue (is_arg_listed (length U) (the_numbered_arg t)) = subst (λ x. IsTrue (is_arg_listed (length U) x)) (sym j) (subst (λ l. IsTrue (is_arg_listed (length l) (numbered_arg l b))) (sym g) (arg-among T b)) in
    record {
      eigens = r.eigens;
      spares = r.spares;
      steps = subst (λ l. IsTrue (list_all (are_listed (length M) (length U)) l)) (sym (ap (map the_numbered_step) k ∙ map_push the_numbered_step xs (step_is.Use entry m t))) (all-end (are_listed (length M) (length U)) (map the_numbered_step xs) (the_numbered_step (step_is.Use entry m t)) r.steps
          (and_from (is_modal_listed (length M) (the_numbered_modal m)) (is_arg_listed (length U) (the_numbered_arg t)) modals args));
    }
