-- An edited list of steps closes what the given one closes; it has as many axioms, and can be printed where the given one can.
use Rattle.std.proofs.Common.{◌≡◌, ℕ, zero, suc, ◌<◌, List, [], ◌∷◌, ◌++◌, length, map, take, get_or, Bool, true, false, ◌&&◌, ◌==◌, nat_lt, Option, Some, None, Ok, refl, sym, ◌∙◌, ap, subst, arith}
use Rattle.std.specs.List.{list_all}
use Rattle.std.proofs.Math.Seq.{take-append_seam}
use Rattle.std.proofs.lemmas.Bool.{false≢true, and_parts, and_from, ltb-true, eqb-true}
use Rattle.std.proofs.lemmas.List.{append_assoc, append-nil, length-append}
use Rattle.plain_laws.proofs.Options.{none_some, some_injective}
use Rattle.calculus.specs.declared.setting.Logic.{Logic}
use Rattle.calculus.specs.declared.setting.Logic.TheVariants.{Intuitionistic}
use Rattle.calculus.specs.declared.kind.Shape.{Shape}
use Rattle.calculus.specs.declared.kind.Shape.TheVariants.{Alpha, Beta, Gamma, Delta, Literal}
use Rattle.calculus.specs.declared.kind.ModalPart.{ModalPart}
use Rattle.calculus.specs.declared.kind.ModalPart.TheVariants.{Plain, Nu, Pi}
use Rattle.calculus.specs.declared.sign.Sign.{Sign}
use Rattle.calculus.specs.Syntax.{Symbol, Formula, box, Problem}
use Rattle.calculus.specs.Kinds.{Signed, shape_of, modal_of, components}
use Rattle.calculus.specs.Derivations.{Entry, Sequent, Names, ModalArg, no_modal, to, by_new, TermArg, no_term, by_term, by_name, Step, apply_to, close, first_sequent, axiom_count}
use Rattle.calculus.specs.Calculus.{one, two, apply, Closes, leaf, single, fork, conditions_of_use, children_of, with_components, with_argument, entry_at, entry_of, use_entry, label_after, modal_fits, term_fits, has_step}
use Rattle.calculus.specs.Text.{is_number}
use Rattle.calculus.specs.DerivationText.{step_is_written, modal_is_written, term_arg_is_written}
use Rattle.calculus.proofs.SequentLaws.{are_met, met-children}
use Rattle.trim_theory.specs.Trimming.{Tree, axiom_on, step_on, fork_on, steps_of, ClosesBy, by_axiom, by_step, by_fork}
use Rattle.trim_theory.specs.Bare.{bare, bare_of}
use Rattle.trim_theory.specs.Reading.{next_of, bare_entry}
use Rattle.trim_theory.specs.Writing.{numbered}
use Rattle.trim_theory.specs.Editing.{Place, place, added, added_all, forked, after_use, resumed_at, after_kept, is_plain_alpha, can_insert, components_in, inserted, is_added, can_skip, referred, after_skipped, before_all, if_fits, has_numbers, by_edit, edited, first_place, edited_in}
use Rattle.trim_theory.specs.declared.edit.Edit.{Edit}
use Rattle.trim_theory.specs.declared.edit.Edit.TheVariants.{Keep, Skip, Insert}
use Rattle.trim_theory.proofs.TrimLaws.{Fresher, use_entry-fresher, one-from, two-from, close-kept, none_fails, tree-of}
use Rattle.trim_theory.proofs.BareLaws.{AddsBare, bare-shape, one-added, step-bare, fork-bare}
use Rattle.trim_theory.proofs.ReadingLaws.{bare-length, bare-at, next-step, next-fork}
use Rattle.trim_theory.proofs.PlaceLaws.{entry-more, AreComponents, TellsAt, AreWaiting, AreWaitingAt, AreTold, bare-from, insert-tells, add-tells, add_all-tells, refer_all-tells, add_all-waits, insert-waits, refer-waits, resume-told, fresher-both, fresher-given, fresher-components}

-- ---- steps without arguments

abbrev FitsBare : ModalPart → Shape → Bool
FitsBare m h = modal_fits m no_modal && term_fits h no_term && has_step m h

fits-plain : (m : ModalPart) (h : Shape) → is_plain_alpha m h ≡ true → FitsBare m h ≡ true
fits-plain Plain Alpha e = refl
fits-plain Plain Beta e = absurd (false≢true e)
fits-plain Plain Gamma e = absurd (false≢true e)
fits-plain Plain Delta e = absurd (false≢true e)
fits-plain Plain Literal e = absurd (false≢true e)
fits-plain Nu h e = absurd (false≢true e)
fits-plain Pi h e = absurd (false≢true e)

alpha-plain : (m : ModalPart) (h : Shape) → is_plain_alpha m h ≡ true → h ≡ Alpha
alpha-plain Plain Alpha e = refl
alpha-plain Plain Beta e = absurd (false≢true e)
alpha-plain Plain Gamma e = absurd (false≢true e)
alpha-plain Plain Delta e = absurd (false≢true e)
alpha-plain Plain Literal e = absurd (false≢true e)
alpha-plain Nu h e = absurd (false≢true e)
alpha-plain Pi h e = absurd (false≢true e)

-- such a step has no arguments
bare-args : (m : ModalPart) (h : Shape) (x : ModalArg) (y : TermArg) → is_plain_alpha m h ≡ true → (modal_fits m x && term_fits h y && has_step m h) ≡ true → (x ≡ no_modal) × (y ≡ no_term)
bare-args Plain Alpha no_modal no_term e g = (refl, refl)
bare-args Plain Alpha no_modal (by_term t) e g = absurd (false≢true g)
bare-args Plain Alpha no_modal (by_name n) e g = absurd (false≢true g)
bare-args Plain Alpha (to v) y e g = absurd (false≢true g)
bare-args Plain Alpha (by_new n) y e g = absurd (false≢true g)
bare-args Plain Beta x y e g = absurd (false≢true e)
bare-args Plain Gamma x y e g = absurd (false≢true e)
bare-args Plain Delta x y e g = absurd (false≢true e)
bare-args Plain Literal x y e g = absurd (false≢true e)
bare-args Nu h x y e g = absurd (false≢true e)
bare-args Pi h x y e g = absurd (false≢true e)

same_parts : (xs : List Signed) → map (with_argument no_term) xs ≡ xs
same_parts [] = refl
same_parts (x ∷ xs) = ap (λ ys. x ∷ ys) (same_parts xs)

abbrev parts_of : Entry → Sequent
parts_of e = map (entry_at e.label) (components e.sign e.formula)

abbrev IsPlainAlpha : Logic → Entry → Type 0
IsPlainAlpha l e = is_plain_alpha (modal_of l e.sign e.formula) (shape_of e.sign e.formula) ≡ true

insert-step : (P : Problem) (names : Names) (r : Sequent) (n : ℕ) (e : Entry) → entry_of r n ≡ Some e → IsPlainAlpha P.setting.logic e → apply P names r (apply_to n no_modal no_term) ≡ Ok (one (r ++ parts_of e))
insert-step P names r n e at plain =
    let l = P.setting.logic in
    let alpha = alpha-plain (modal_of l e.sign e.formula) (shape_of e.sign e.formula) plain in
    let fits = fits-plain (modal_of l e.sign e.formula) (shape_of e.sign e.formula) plain in
    let children : children_of l r e no_modal no_term ≡ one (r ++ parts_of e) =
    ap (λ h. with_components h r e.label (map (with_argument no_term) (components e.sign e.formula))) alpha ∙ ap (λ xs. one (r ++ map (entry_at e.label) xs)) (same_parts (components e.sign e.formula)) in
    ap (λ o. use_entry P names r o no_modal no_term) at
    ∙ none_fails (conditions_of_use P names r e no_modal no_term) (children_of l r e no_modal no_term) (fits, (refl, (refl, (refl, (refl, (refl, tt))))))
    ∙ ap Ok children

-- what such a step adds
plain-added : (P : Problem) (names : Names) (s added : Sequent) (e : Entry) (x : ModalArg) (y : TermArg) → IsPlainAlpha P.setting.logic e → use_entry P names s (Some e) x y ≡ Ok (one (s ++ added)) → added ≡ parts_of e
plain-added P names s added e x y plain h =
    let l = P.setting.logic in
    let m = modal_of l e.sign e.formula in
    let k = shape_of e.sign e.formula in
    let met = are_met (conditions_of_use P names s e x y) (children_of l s e x y) (one (s ++ added)) h in
    let args = bare-args m k x y plain met.0 in
    let c = met-children (conditions_of_use P names s e x y) (children_of l s e x y) (one (s ++ added)) h in
    one-added k s added (label_after l e.label x) (map (with_argument y) (components e.sign e.formula)) c
    ∙ ap (λ v. map (entry_at (label_after l e.label v)) (map (with_argument y) (components e.sign e.formula))) args.0
    ∙ ap (λ v. map (entry_at e.label) (map (with_argument v) (components e.sign e.formula))) args.1
    ∙ ap (map (entry_at e.label)) (same_parts (components e.sign e.formula))

-- sign and connectives tell whether a step can come in
pub bare-modal : (l : Logic) (s : Sign) (f : Formula) → modal_of l s (bare f) ≡ modal_of l s f
bare-modal Intuitionistic s (box a) = refl
bare-modal Intuitionistic s _ = refl
bare-modal _ s (box a) = refl
bare-modal _ s _ = refl

can-insert : (l : Logic) (r : Sequent) (n : ℕ) → can_insert l (bare_entry (map bare_of r) n) ≡ true → (e : Entry) × (entry_of r n ≡ Some e) × IsPlainAlpha l e
can-insert l r n h = go (bare_entry (map bare_of r) n) refl h
  where
    go : (o : Option Signed) → bare_entry (map bare_of r) n ≡ o → can_insert l o ≡ true → (e : Entry) × (entry_of r n ≡ Some e) × IsPlainAlpha l e
    go None g h = absurd (false≢true h)
    go (Some x) g h =
        let found = bare-from r n x g in
        let e = found.0 in
        let there : can_insert l (Some (bare_of e)) ≡ true = subst (λ z. can_insert l (Some z) ≡ true) (sym found.2) h in
        (e, found.1, subst (λ m. is_plain_alpha m (shape_of e.sign e.formula) ≡ true) (bare-modal l e.sign e.formula) (subst (λ k. is_plain_alpha (modal_of l e.sign (bare e.formula)) k ≡ true) (bare-shape e.sign e.formula) there))

-- ---- what is still to come

abbrev pub steps_in : List Tree → List Step
steps_in [] = []
steps_in (t ∷ ts) = steps_of t ++ steps_in ts

abbrev pub AreClosedBy : Problem → Names → List Sequent → List Tree → Type 0
AreClosedBy P names [] [] = Unit {0}
AreClosedBy P names [] (t ∷ ts) = ⊥
AreClosedBy P names (s ∷ ss) [] = ⊥
AreClosedBy P names (s ∷ ss) (t ∷ ts) = ClosesBy P names s t × AreClosedBy P names ss ts

abbrev pub CloseAll : Problem → Names → List Sequent → List Step → Type 0
CloseAll P names [] ys = ys ≡ []
CloseAll P names (r ∷ rs) ys = (zs : List Step) × Closes P names r ys zs × CloseAll P names rs zs

before-some : (xs ys : List Step) (o : Option (List Step)) → before_all xs o ≡ Some ys → (zs : List Step) × (o ≡ Some zs) × (xs ++ zs ≡ ys)
before-some xs ys None h = absurd (none_some h)
before-some xs ys (Some zs) h = (zs, refl, some_injective _ h)

fits-some : (b : Bool) (o : Option (List Step)) (ys : List Step) → if_fits b o ≡ Some ys → (b ≡ true) × (o ≡ Some ys)
fits-some true o ys h = (refl, h)
fits-some false o ys h = absurd (none_some h)

-- what the later edits lead to
abbrev Later : Problem → Names → List Edit → Type 0
Later P names es = (ys : List Step) (w : Place) (ss rs : List Sequent) (ts : List Tree) → AreClosedBy P names ss ts → AreTold P.setting.logic names w ss rs → edited P.setting.logic es (steps_in ts) w ≡ Some ys → CloseAll P names rs ys

-- ---- a step that is kept

step-told : (P : Problem) (names : Names) (w : Place) (s r added : Sequent) (a : ℕ) (x : ModalArg) (y : TermArg) → TellsAt P.setting.logic w s r → Fresher names s r → apply P names s (apply_to a x y) ≡ Ok (one (s ++ added)) → apply P names r (apply_to (get_or w.table a 0) x y) ≡ Ok (one (r ++ added))
step-told P names w s r added a x y t f h = one-from s r added _ (use_entry-fresher P names s r (entry_of s a) (entry_of r (get_or w.table a 0)) x y (one (s ++ added)) f (λ e g. t.same a e g) h)

fork-told : (P : Problem) (names : Names) (w : Place) (s r : Sequent) (e f : Entry) (a : ℕ) (x : ModalArg) (y : TermArg) → TellsAt P.setting.logic w s r → Fresher names s r → apply P names s (apply_to a x y) ≡ Ok (two (s ++ e ∷ []) (s ++ f ∷ [])) → apply P names r (apply_to (get_or w.table a 0) x y) ≡ Ok (two (r ++ e ∷ []) (r ++ f ∷ []))
fork-told P names w s r e f a x y t k h = two-from s r e f _ (use_entry-fresher P names s r (entry_of s a) (entry_of r (get_or w.table a 0)) x y (two (s ++ e ∷ []) (s ++ f ∷ [])) k (λ e g. t.same a e g) h)

next-grows : (l : Logic) (w : Place) (s r added : Sequent) (a : ℕ) → TellsAt l w s r → AddsBare (entry_of r a) added → after_use (next_of (bare_entry w.branch a)) w ≡ added_all (map bare_of added) w
next-grows l w s r added a t h = ap (λ b. after_use (next_of (bare_entry b a)) w) t.bare ∙ ap (λ k. after_use k w) (next-step r added a h)

fork-waits : (l : Logic) (names : Names) (w : Place) (s r : Sequent) (ss rs : List Sequent) (e f : Entry) → TellsAt l w s r → Fresher names s r → AreWaitingAt l names w ss rs → AreWaitingAt l names (forked (bare_of e) (bare_of f) w) ((s ++ f ∷ []) ∷ ss) ((r ++ f ∷ []) ∷ rs)
fork-waits l names w s r ss rs e f t k h =
    let n = length w.branch in
    let br = w.branch ++ bare_of e ∷ [] in
    let ps = w.parents ++ 0 ∷ [] in
    let tb = w.table ++ length br ∷ [] in
    let as_long : length w.branch ≡ length w.parents = ap length t.bare ∙ bare-length r ∙ sym t.long in
    let cut_branch : w.branch ≡ take n br = sym (take-append_seam w.branch (bare_of e ∷ [])) in
    let cut_parents : w.parents ≡ take n ps = sym (ap (λ i. take i ps) as_long ∙ take-append_seam w.parents (0 ∷ [])) in
    let cut_table : w.table ≡ take (length w.table) tb = sym (take-append_seam w.table (length br ∷ [])) in
    let b = length-append w.branch (bare_of e ∷ []) in
    let p = length-append w.parents (0 ∷ []) in
    let q = length-append w.table (length br ∷ []) in (
      record {
        in_branch = omega arith;
        in_parents = omega arith;
        in_table = omega arith;
        tells = subst (λ z. TellsAt l (added (bare_of f) (place z (take n ps) (take (length w.table) tb) [])) (s ++ f ∷ []) (r ++ f ∷ [])) cut_branch
            (subst (λ z. TellsAt l (added (bare_of f) (place w.branch z (take (length w.table) tb) [])) (s ++ f ∷ []) (r ++ f ∷ [])) cut_parents
            (subst (λ z. TellsAt l (added (bare_of f) (place w.branch w.parents z [])) (s ++ f ∷ []) (r ++ f ∷ [])) cut_table (add-tells l w s r f t)));
        fresh = fresher-both names s r (f ∷ []) k;
      },
      subst (λ z. AreWaiting l names z (take n ps) (take (length w.table) tb) w.forks ss rs) cut_branch
          (subst (λ z. AreWaiting l names w.branch z (take (length w.table) tb) w.forks ss rs) cut_parents
          (subst (λ z. AreWaiting l names w.branch w.parents z w.forks ss rs) cut_table h)),
    )

keep-closes : (P : Problem) (names : Names) (es : List Edit) → Later P names es → (ys : List Step) (w : Place) {s : Sequent} (r : Sequent) (ss rs : List Sequent) {t : Tree} (ts : List Tree) → ClosesBy P names s t → AreClosedBy P names ss ts → TellsAt P.setting.logic w s r → Fresher names s r → AreWaitingAt P.setting.logic names w ss rs → edited P.setting.logic (Keep ∷ es) (steps_of t ++ steps_in ts) w ≡ Some ys → CloseAll P names (r ∷ rs) ys
keep-closes P names es go ys w {s} r ss rs ts (by_axiom {a = a} {b = b} h) cs t f d k =
    let l = P.setting.logic in
    let fits = fits-some (has_numbers (numbered w.table (close a b))) _ ys k in
    let after = before-some (numbered w.table (close a b) ∷ []) ys (edited l es (steps_in ts) (after_kept (close a b) w)) fits.1 in
    let zs = after.0 in
    let closes = close-kept (entry_of s a) (entry_of s b) (entry_of r (get_or w.table a 0)) (entry_of r (get_or w.table b 0)) (λ e g. t.same a e g) (λ e g. t.same b e g) h in
    (zs, subst (λ q. Closes P names r q zs) after.2 (leaf closes), go zs (resumed_at w.forks w) ss rs ts cs (resume-told l names w w.forks ss rs d) after.1)
keep-closes P names es go ys w {s} r ss rs ts (by_step added {a = a} {x = x} {y = y} {t = b} h d) cs t f v k =
    let l = P.setting.logic in
    let n = get_or w.table a 0 in
    let fits = fits-some (has_numbers (numbered w.table (apply_to a x y))) _ ys k in
    let after = before-some (numbered w.table (apply_to a x y) ∷ []) ys (edited l es (steps_in (b ∷ ts)) (after_kept (apply_to a x y) w)) fits.1 in
    let made = step-told P names w s r added a x y t f h in
    let next = next-grows l w s r added n t (step-bare P names r (entry_of r n) x y added made) in
    let later : edited l es (steps_in (b ∷ ts)) (added_all (map bare_of added) w) ≡ Some after.0 = ap (λ z. edited l es (steps_in (b ∷ ts)) z) (sym next) ∙ after.1 in
    let below = go after.0 (added_all (map bare_of added) w) ((s ++ added) ∷ ss) ((r ++ added) ∷ rs) (b ∷ ts) (d, cs) (add_all-tells l added w s r t, fresher-both names s r added f, add_all-waits l names (map bare_of added) w ss rs v) later in
    (below.0, subst (λ q. Closes P names r q below.0) after.2 (single made below.1), below.2)
keep-closes P names es go ys w {s} r ss rs ts (by_fork e i {a = a} {x = x} {y = y} {t = b} {r = c} h d g) cs t f v k =
    let l = P.setting.logic in
    let n = get_or w.table a 0 in
    let fits = fits-some (has_numbers (numbered w.table (apply_to a x y))) _ ys k in
    let after = before-some (numbered w.table (apply_to a x y) ∷ []) ys (edited l es ((steps_of b ++ steps_of c) ++ steps_in ts) (after_kept (apply_to a x y) w)) fits.1 in
    let made = fork-told P names w s r e i a x y t f h in
    let next : after_kept (apply_to a x y) w ≡ forked (bare_of e) (bare_of i) w =
    ap (λ z. after_use (next_of (bare_entry z n)) w) t.bare ∙ ap (λ z. after_use z w) (next-fork r e i n (fork-bare P names r (entry_of r n) x y e i made)) in
    let later : edited l es (steps_in (b ∷ c ∷ ts)) (forked (bare_of e) (bare_of i) w) ≡ Some after.0 =
    ap (λ z. edited l es (steps_in (b ∷ c ∷ ts)) z) (sym next) ∙ ap (λ z. edited l es z (after_kept (apply_to a x y) w)) (sym (append_assoc (steps_of b) (steps_of c) (steps_in ts))) ∙ after.1 in
    let below = go after.0 (forked (bare_of e) (bare_of i) w) ((s ++ e ∷ []) ∷ (s ++ i ∷ []) ∷ ss) ((r ++ e ∷ []) ∷ (r ++ i ∷ []) ∷ rs) (b ∷ c ∷ ts) (d, (g, cs)) (add-tells l w s r e t, fresher-both names s r (e ∷ []) f, fork-waits l names w s r ss rs e i t f v) later in
    (below.2.0, subst (λ q. Closes P names r q below.2.0) after.2 (fork made below.1 below.2.1), below.2.2)

-- ---- a step that goes

is-added : (l : Logic) (w : Place) (s r : Sequent) (m n : ℕ) → TellsAt l w s r → is_added w.parents m n ≡ true → (k : ℕ) × (m ≡ suc k) × AreComponents l r k n
is-added l w s r zero n t h =
    let parts = and_parts (nat_lt 0 n) (0 == n) h in
    let less : 0 < n = ltb-true 0 n parts.0 in
    let none : 0 ≡ n = eqb-true 0 n parts.1 in
    absurd (omega (arith, less, none))
is-added l w s r (suc k) n t h =
    let parts = and_parts (nat_lt 0 n) (get_or w.parents k 0 == n) h in
    (k, refl, t.parents k n (ltb-true 0 n parts.0) (eqb-true (get_or w.parents k 0) n parts.1))

same-entry : (o : Option Entry) (e f : Entry) → o ≡ Some e → o ≡ Some f → e ≡ f
same-entry o e f h g = some_injective e (sym h ∙ g)

not-forked : (e : Entry) (l : Logic) → IsPlainAlpha l e → shape_of e.sign (bare e.formula) ≡ Beta → ⊥
not-forked e l plain h =
    let beta : Alpha ≡ Beta = sym (alpha-plain (modal_of l e.sign e.formula) (shape_of e.sign e.formula) plain) ∙ sym (bare-shape e.sign e.formula) ∙ h in
    cc

skip-closes : (P : Problem) (names : Names) (es : List Edit) → Later P names es → (ys : List Step) (w : Place) (m : ℕ) {s : Sequent} (r : Sequent) (ss rs : List Sequent) {t : Tree} (ts : List Tree) → ClosesBy P names s t → AreClosedBy P names ss ts → TellsAt P.setting.logic w s r → Fresher names s r → AreWaitingAt P.setting.logic names w ss rs → edited P.setting.logic (Skip m ∷ es) (steps_of t ++ steps_in ts) w ≡ Some ys → CloseAll P names (r ∷ rs) ys
skip-closes P names es go ys w m {s} r ss rs ts (by_axiom h) cs t f v k = absurd (none_some k)
skip-closes P names es go ys w m {s} r ss rs ts (by_step added {a = a} {x = x} {y = y} {t = b} h d) cs t f v k =
    let l = P.setting.logic in
    let n = get_or w.table a 0 in
    let fits = fits-some (is_added w.parents m n) _ ys k in
    let found = is-added l w s r m n t fits.0 in
    let parts = found.2 in
    let used = step-bare P names s (entry_of s a) x y added h in
    let there : entry_of r n ≡ Some used.0 = t.same a used.0 used.1 in
    let whole : parts.whole ≡ used.0 = same-entry (entry_of r n) parts.whole used.0 parts.stands there in
    let plain : IsPlainAlpha l used.0 = subst (λ e. IsPlainAlpha l e) whole parts.plain in
    let adds : added ≡ parts_of used.0 = plain-added P names s added used.0 x y plain (subst (λ o. use_entry P names s o x y ≡ Ok (one (s ++ added))) used.1 h) in
    let split : r ≡ parts.front ++ (added ++ parts.behind) = parts.split ∙ ap (λ e. parts.front ++ (parts_of e ++ parts.behind)) whole ∙ ap (λ z. parts.front ++ (z ++ parts.behind)) (sym adds) in
    let here : m ≡ suc (length parts.front) = found.1 ∙ ap suc (sym parts.here) in
    let known : components_in (bare_entry w.branch n) ≡ map bare_of added =
    ap (λ z. components_in (bare_entry z n)) t.bare ∙ ap components_in (bare-at r n used.0 there) ∙ sym used.3 in
    let later : edited l es (steps_in (b ∷ ts)) (referred m (map bare_of added) w) ≡ Some ys = ap (λ z. edited l es (steps_in (b ∷ ts)) (referred m z w)) (sym known) ∙ fits.1 in
    go ys (referred m (map bare_of added) w) ((s ++ added) ∷ ss) (r ∷ rs) (b ∷ ts) (d, cs) (refer_all-tells l added m w s r parts.front parts.behind split here t, fresher-given names s r added f, refer-waits l names (map bare_of added) m w ss rs v) later
skip-closes P names es go ys w m {s} r ss rs ts (by_fork e i {a = a} {x = x} {y = y} {t = b} {r = c} h d g) cs t f v k =
    let l = P.setting.logic in
    let n = get_or w.table a 0 in
    let fits = fits-some (is_added w.parents m n) _ ys k in
    let found = is-added l w s r m n t fits.0 in
    let parts = found.2 in
    let used = fork-bare P names s (entry_of s a) x y e i h in
    let whole : parts.whole ≡ used.0 = same-entry (entry_of r n) parts.whole used.0 parts.stands (t.same a used.0 used.1) in
    elim (not-forked used.0 l (subst (λ e. IsPlainAlpha l e) whole parts.plain) used.2) [ ]

-- ---- a step that comes in

abbrev first_step : Tree → Step
first_step (axiom_on a b) = close a b
first_step (step_on a x y j t) = apply_to a x y
first_step (fork_on a x y t r) = apply_to a x y

abbrev behind_first : Tree → List Step → List Step
behind_first (axiom_on a b) xs = xs
behind_first (step_on a x y j t) xs = steps_of t ++ xs
behind_first (fork_on a x y t r) xs = (steps_of t ++ steps_of r) ++ xs

steps-begin : (t : Tree) (xs : List Step) → steps_of t ++ xs ≡ first_step t ∷ behind_first t xs
steps-begin (axiom_on a b) xs = refl
steps-begin (step_on a x y j t) xs = refl
steps-begin (fork_on a x y t r) xs = refl

insert-closes : (P : Problem) (names : Names) (es : List Edit) → Later P names es → (ys : List Step) (w : Place) (n : ℕ) (s r : Sequent) (ss rs : List Sequent) (b : Tree) (ts : List Tree) → ClosesBy P names s b → AreClosedBy P names ss ts → TellsAt P.setting.logic w s r → Fresher names s r → AreWaitingAt P.setting.logic names w ss rs → edited P.setting.logic (Insert n ∷ es) (steps_of b ++ steps_in ts) w ≡ Some ys → CloseAll P names (r ∷ rs) ys
insert-closes P names es go ys w n s r ss rs b ts d cs t f v k =
    let l = P.setting.logic in
    let begins = steps-begin b (steps_in ts) in
    let o = bare_entry w.branch n in
    let step : by_edit l (Insert n) (first_step b) (behind_first b (steps_in ts)) w (edited l es) ≡ Some ys = ap (λ z. edited l (Insert n ∷ es) z w) (sym begins) ∙ k in
    let fits = fits-some (is_number n && can_insert l o) _ ys step in
    let allowed = (and_parts (is_number n) (can_insert l o) fits.0).1 in
    let after = before-some (apply_to n no_modal no_term ∷ []) ys (edited l es (first_step b ∷ behind_first b (steps_in ts)) (inserted n (components_in o) w)) fits.1 in
    let found = can-insert l r n (subst (λ z. can_insert l (bare_entry z n) ≡ true) t.bare allowed) in
    let e = found.0 in
    let made = insert-step P names r n e found.1 found.2 in
    let used = step-bare P names r (entry_of r n) no_modal no_term (parts_of e) made in
    let known : components_in o ≡ map bare_of (parts_of e) = ap (λ z. components_in (bare_entry z n)) t.bare ∙ ap components_in (bare-at r n used.0 used.1) ∙ sym used.3 in
    let there : AreComponents l (r ++ parts_of e) (length r) n = record {
      whole = e;
      front = r;
      behind = [];
      stands = entry-more r (parts_of e) n e found.1;
      plain = found.2;
      split = ap (λ z. r ++ z) (sym (append-nil (parts_of e)));
      here = refl;
    } in
    let later : edited l es (steps_in (b ∷ ts)) (inserted n (map bare_of (parts_of e)) w) ≡ Some after.0 =
    ap (λ z. edited l es z (inserted n (map bare_of (parts_of e)) w)) begins ∙ ap (λ z. edited l es (first_step b ∷ behind_first b (steps_in ts)) (inserted n z w)) (sym known) ∙ after.1 in
    let below = go after.0 (inserted n (map bare_of (parts_of e)) w) (s ∷ ss) ((r ++ parts_of e) ∷ rs) (b ∷ ts) (d, cs) (insert-tells l w s r (parts_of e) n (λ less. there) t, fresher-components names s r n e found.1 f, insert-waits l names n (map bare_of (parts_of e)) w ss rs v) later in
    (below.0, subst (λ q. Closes P names r q below.0) after.2 (single made below.1), below.2)

-- ---- the walk

pub edits-close : (P : Problem) (names : Names) (es : List Edit) → Later P names es
edits-close P names [] ys w [] [] [] cs t k = sym (some_injective _ k)
edits-close P names [] ys w [] (r ∷ rs) ts cs t k = elim t [ ]
edits-close P names [] ys w [] [] (b ∷ ts) cs t k = elim cs [ ]
edits-close P names [] ys w (s ∷ ss) rs [] cs t k = elim cs [ ]
edits-close P names [] ys w (s ∷ ss) rs (b ∷ ts) cs t k =
    let step : None ≡ Some ys = ap (λ z. edited P.setting.logic [] z w) (sym (steps-begin b (steps_in ts))) ∙ k in
    absurd (none_some step)
edits-close P names (e ∷ es) ys w [] [] [] cs t k = absurd (none_some k)
edits-close P names (e ∷ es) ys w [] (r ∷ rs) ts cs t k = elim t [ ]
edits-close P names (e ∷ es) ys w [] [] (b ∷ ts) cs t k = elim cs [ ]
edits-close P names (e ∷ es) ys w (s ∷ ss) [] ts cs t k = elim t [ ]
edits-close P names (e ∷ es) ys w (s ∷ ss) (r ∷ rs) [] cs t k = elim cs [ ]
edits-close P names (Keep ∷ es) ys w (s ∷ ss) (r ∷ rs) (b ∷ ts) cs t k = keep-closes P names es (edits-close P names es) ys w r ss rs ts cs.0 cs.1 t.0 t.1 t.2 k
edits-close P names (Skip m ∷ es) ys w (s ∷ ss) (r ∷ rs) (b ∷ ts) cs t k = skip-closes P names es (edits-close P names es) ys w m r ss rs ts cs.0 cs.1 t.0 t.1 t.2 k
edits-close P names (Insert n ∷ es) ys w (s ∷ ss) (r ∷ rs) (b ∷ ts) cs t k = insert-closes P names es (edits-close P names es) ys w n s r ss rs b ts cs.0 cs.1 t.0 t.1 t.2 k

-- ---- below the problem's formula

no_parent : (k n : ℕ) → 0 < n → get_or (0 ∷ []) k 0 ≡ n → ⊥
no_parent zero n less h = omega (arith, less, h)
no_parent (suc k) n less h = omega (arith, less, h)

first-same : (s : Entry) (k : ℕ) (e : Entry) → entry_of (s ∷ []) k ≡ Some e → entry_of (s ∷ []) (get_or (0 ∷ 1 ∷ []) k 0) ≡ Some e
first-same s zero e h = absurd (none_some h)
first-same s (suc zero) e h = h
first-same s (suc (suc k)) e h = absurd (none_some h)

first-tells : (P : Problem) → TellsAt P.setting.logic (first_place P) (first_sequent P) (first_sequent P)
first-tells P = record {
  bare = refl;
  long = refl;
  parents = λ k n less h. absurd (no_parent k n less h);
  table = refl;
  same = λ k e h. first-same (record { sign = _; formula = P.formula; label = [] }) k e h;
}

-- the edited steps close what the given ones close
pub edited-closes : (P : Problem) (names : Names) (es : List Edit) (xs ys : List Step) → Closes P names (first_sequent P) xs [] → edited_in P es xs ≡ Some ys → Closes P names (first_sequent P) ys []
edited-closes P names es xs ys h k =
    let t = tree-of P names h in
    let s = first_sequent P in
    let all = edits-close P names es ys (first_place P) (s ∷ []) (s ∷ []) (t.0 ∷ []) (t.1, tt) (first-tells P, (λ m g. g, λ n g. g), tt) (ap (λ z. edited_in P es z) (sym t.2) ∙ k) in
    subst (λ z. Closes P names s ys z) all.2 all.1

-- ---- axioms and printing

abbrev Counted : Logic → List Edit → Type 0
Counted l es = (xs ys : List Step) (w : Place) → edited l es xs w ≡ Some ys → axiom_count ys ≡ axiom_count xs

edited-count : (l : Logic) (es : List Edit) → Counted l es
edited-count l [] [] ys w h = ap axiom_count (sym (some_injective _ h))
edited-count l [] (x ∷ xs) ys w h = absurd (none_some h)
edited-count l (e ∷ es) [] ys w h = absurd (none_some h)
edited-count l (Keep ∷ es) (apply_to a x y ∷ xs) ys w h =
    let fits = fits-some (has_numbers (numbered w.table (apply_to a x y))) _ ys h in
    let after = before-some (numbered w.table (apply_to a x y) ∷ []) ys _ fits.1 in
    ap axiom_count (sym after.2) ∙ edited-count l es xs after.0 (after_kept (apply_to a x y) w) after.1
edited-count l (Keep ∷ es) (close a b ∷ xs) ys w h =
    let fits = fits-some (has_numbers (numbered w.table (close a b))) _ ys h in
    let after = before-some (numbered w.table (close a b) ∷ []) ys _ fits.1 in
    ap axiom_count (sym after.2) ∙ ap suc (edited-count l es xs after.0 (after_kept (close a b) w) after.1)
edited-count l (Skip m ∷ es) (apply_to a x y ∷ xs) ys w h =
    let fits = fits-some (can_skip m (apply_to a x y) w) _ ys h in
    edited-count l es xs ys (after_skipped m (apply_to a x y) w) fits.1
edited-count l (Skip m ∷ es) (close a b ∷ xs) ys w h = absurd (none_some h)
edited-count l (Insert n ∷ es) (x ∷ xs) ys w h =
    let o = bare_entry w.branch n in
    let fits = fits-some (is_number n && can_insert l o) _ ys h in
    let after = before-some (apply_to n no_modal no_term ∷ []) ys _ fits.1 in
    ap axiom_count (sym after.2) ∙ edited-count l es (x ∷ xs) after.0 (inserted n (components_in o) w) after.1

pub edited-axioms : (P : Problem) (es : List Edit) (xs ys : List Step) → edited_in P es xs ≡ Some ys → axiom_count ys ≡ axiom_count xs
edited-axioms P es xs ys h = edited-count P.setting.logic es xs ys (first_place P) h

kept-written : (symbols : List Symbol) (tb : List ℕ) (x : Step) → has_numbers (numbered tb x) ≡ true → step_is_written symbols x ≡ true → step_is_written symbols (numbered tb x) ≡ true
kept-written symbols tb (apply_to a x y) n h =
    let parts = and_parts (is_number a && modal_is_written x) (term_arg_is_written symbols y) h in
    let first = and_parts (is_number a) (modal_is_written x) parts.0 in
    and_from (is_number (get_or tb a 0) && modal_is_written x) (term_arg_is_written symbols y) (and_from (is_number (get_or tb a 0)) (modal_is_written x) n first.1) parts.1
kept-written symbols tb (close a b) n h = n

inserted-written : (symbols : List Symbol) (n : ℕ) → is_number n ≡ true → step_is_written symbols (apply_to n no_modal no_term) ≡ true
inserted-written symbols n h = and_from (is_number n && modal_is_written no_modal) (term_arg_is_written symbols no_term) (and_from (is_number n) (modal_is_written no_modal) h refl) refl

first-written : (symbols : List Symbol) (x : Step) (zs ys : List Step) → (x ∷ []) ++ zs ≡ ys → step_is_written symbols x ≡ true → list_all (step_is_written symbols) zs ≡ true → list_all (step_is_written symbols) ys ≡ true
first-written symbols x zs ys e h g = subst (λ q. list_all (step_is_written symbols) q ≡ true) e (and_from (step_is_written symbols x) (list_all (step_is_written symbols) zs) h g)

edited-printed : (symbols : List Symbol) (l : Logic) (es : List Edit) (xs ys : List Step) (w : Place) → edited l es xs w ≡ Some ys → list_all (step_is_written symbols) xs ≡ true → list_all (step_is_written symbols) ys ≡ true
edited-printed symbols l [] [] ys w h g = subst (λ q. list_all (step_is_written symbols) q ≡ true) (some_injective [] h) g
edited-printed symbols l [] (x ∷ xs) ys w h g = absurd (none_some h)
edited-printed symbols l (e ∷ es) [] ys w h g = absurd (none_some h)
edited-printed symbols l (Keep ∷ es) (x ∷ xs) ys w h g =
    let parts = and_parts (step_is_written symbols x) (list_all (step_is_written symbols) xs) g in
    let fits = fits-some (has_numbers (numbered w.table x)) _ ys h in
    let after = before-some (numbered w.table x ∷ []) ys _ fits.1 in
    first-written symbols (numbered w.table x) after.0 ys after.2 (kept-written symbols w.table x fits.0 parts.0) (edited-printed symbols l es xs after.0 (after_kept x w) after.1 parts.1)
edited-printed symbols l (Skip m ∷ es) (x ∷ xs) ys w h g =
    let parts = and_parts (step_is_written symbols x) (list_all (step_is_written symbols) xs) g in
    let fits = fits-some (can_skip m x w) _ ys h in
    edited-printed symbols l es xs ys (after_skipped m x w) fits.1 parts.1
edited-printed symbols l (Insert n ∷ es) (x ∷ xs) ys w h g =
    let o = bare_entry w.branch n in
    let fits = fits-some (is_number n && can_insert l o) _ ys h in
    let number = (and_parts (is_number n) (can_insert l o) fits.0).0 in
    let after = before-some (apply_to n no_modal no_term ∷ []) ys _ fits.1 in
    first-written symbols (apply_to n no_modal no_term) after.0 ys after.2 (inserted-written symbols n number) (edited-printed symbols l es (x ∷ xs) after.0 (inserted n (components_in o) w) after.1 g)

pub edited-written : (P : Problem) (es : List Edit) (xs ys : List Step) → edited_in P es xs ≡ Some ys → list_all (step_is_written P.symbols) xs ≡ true → list_all (step_is_written P.symbols) ys ≡ true
edited-written P es xs ys h g = edited-printed P.symbols P.setting.logic es xs ys (first_place P) h g
