-- What a transfer makes of a printable derivation is printable, where its numbers stay below 2 ^ 32.
use Rattle.std.proofs.Common.{◌≡◌, ℕ, zero, suc, ◌+◌, ◌*◌, ◌^◌, ◌<◌, ◌≤◌, List, [], ◌∷◌, ◌++◌, length, true, ◌&&◌, ◌==◌, IsTrue, refl, sym, ap, subst, inl, inr, Option, Some, None, Result, Ok, Err, nat_le, arith, lt-ltb}
use Rattle.std.specs.List.{AllByRecursion, list_all}
use Rattle.std.proofs.lemmas.Bool.{cases_Bool, and_parts, and_from, le-leb}
use Rattle.plain_laws.proofs.Every.{each-append, all-append}
use Rattle.calculus.specs.declared.sign.Sign.{Sign}
use Rattle.calculus.specs.declared.setting.Logic.TheVariants.{Intuitionistic}
use Rattle.calculus.specs.declared.fault.StepFault.{StepFault}
use Rattle.calculus.specs.Syntax.{arity_of, Symbol, Term, Terms, var, fun, eigen, spare, no_terms, more_terms, Formula, atom, neg, conj, disj, imp, all, ex, box, dia, Problem}
use Rattle.calculus.specs.Skolem.{has_function}
use Rattle.calculus.specs.Kinds.{components}
use Rattle.calculus.specs.Derivations.{Mark, new_mark, Label, character_eq, Entry, Sequent, EigenName, Names, ModalArg, no_modal, to, by_new, TermArg, no_term, by_term, by_name, Step, apply_to, close, Derivation}
use Rattle.calculus.specs.Calculus.{Children, closed, one, two, label_after, entry_of, apply}
use Rattle.calculus.specs.Text.{is_number}
use Rattle.calculus.specs.DerivationText.{is_name_number, mark_is_written, label_is_written, term_is_written, terms_are_written, modal_is_written, term_arg_is_written, step_is_written, names_are_written, is_limit, is_printable}
use Rattle.calculus.specs.Translation.{translated_problem}
use Rattle.godel_transfer.specs.Transfer.{CharacterImage, EigenImage, mark_image, label_image, eigen_image, term_image, terms_image, OpenBranch, first_branch, item_or_0, place_of, numbers_for, modal_image, argument_image, new_character, characters_after, eigens_after, use_steps, axiom_steps, places_added, count_after, branch_after, branches_by, steps_at, axiom_at, steps_for, names_at, names_for, branches_at, branches_for, steps_from, names_from, names_with, transferred}
use Rattle.godel_transfer.proofs.TransferLaws.{names-rise}

module _ (symbols : List Symbol) (most : ℕ) (small : (n : ℕ) → n ≤ most → is_number n ≡ true) where
  -- a branch before n steps: each adds at most three entries
  pub record BranchWritten (n : ℕ) (b : OpenBranch) : Type 0 where
    pub positive : 1 ≤ b.count
    pub room : b.count + 3 * n ≤ most
    pub places : list_all is_number b.places ≡ true
    pub marks : AllByRecursion (λ (x : CharacterImage). label_is_written x.label ≡ true) b.characters
    pub eigens : AllByRecursion (λ (x : EigenImage). is_name_number x.image ≡ true) b.eigens

  name-number : (n : ℕ) → 1 ≤ n → n ≤ most → is_name_number n ≡ true
  name-number n a b = and_from (nat_le 1 n) (is_number n) (le-leb 1 n a) (small n b)

  -- ---- what is written

  mark-written : (xs : List CharacterImage) → AllByRecursion (λ (x : CharacterImage). label_is_written x.label ≡ true) xs → (m : Mark) → label_is_written (mark_image xs m) ≡ true
  mark-written [] h m = refl
  mark-written (x ∷ xs) h m = elim (cases_Bool (character_eq (new_mark x.number) m)) [ inl e ↦ rw e h.0 | inr e ↦ rw e (mark-written xs h.1 m) ]

  label-written : (xs : List CharacterImage) → AllByRecursion (λ (x : CharacterImage). label_is_written x.label ≡ true) xs → (w : Label) → label_is_written (label_image xs w) ≡ true
  label-written xs h [] = refl
  label-written xs h (m ∷ w) = all-append mark_is_written (mark_image xs m) (label_image xs w) (mark-written xs h m) (label-written xs h w)

  arity-image : (xs : List EigenImage) (ts : Terms) → arity_of (terms_image xs ts) ≡ arity_of ts
  arity-image xs no_terms = refl
  arity-image xs (more_terms t ts) = ap suc (arity-image xs ts)

  eigen-written : (xs : List EigenImage) → AllByRecursion (λ (x : EigenImage). is_name_number x.image ≡ true) xs → (n : ℕ) → term_is_written symbols (eigen_image xs n) ≡ true
  eigen-written [] h n = refl
  eigen-written (x ∷ xs) h n = elim (cases_Bool (x.number == n)) [ inl e ↦ rw e h.0 | inr e ↦ rw e (eigen-written xs h.1 n) ]

  mutual
    term-written : (xs : List EigenImage) → AllByRecursion (λ (x : EigenImage). is_name_number x.image ≡ true) xs → (t : Term) → term_is_written symbols t ≡ true → term_is_written symbols (term_image xs t) ≡ true
    term-written xs h (var k) e = e
    term-written xs h (fun f ts) e =
        let r = and_parts (has_function symbols f (arity_of ts)) (terms_are_written symbols ts) e in
        and_from (has_function symbols f (arity_of (terms_image xs ts))) (terms_are_written symbols (terms_image xs ts)) (subst (λ n. has_function symbols f n ≡ true) (sym (arity-image xs ts)) r.0) (terms-written xs h ts r.1)
    term-written xs h (eigen n) e = eigen-written xs h n
    term-written xs h (spare n) e = refl

    terms-written : (xs : List EigenImage) → AllByRecursion (λ (x : EigenImage). is_name_number x.image ≡ true) xs → (ts : Terms) → terms_are_written symbols ts ≡ true → terms_are_written symbols (terms_image xs ts) ≡ true
    terms-written xs h no_terms e = refl
    terms-written xs h (more_terms t ts) e =
        let r = and_parts (term_is_written symbols t) (terms_are_written symbols ts) e in
        and_from (term_is_written symbols (term_image xs t)) (terms_are_written symbols (terms_image xs ts)) (term-written xs h t r.0) (terms-written xs h ts r.1)

  count-small : (n : ℕ) (b : OpenBranch) → BranchWritten (suc n) b → (k : ℕ) → k ≤ b.count + 3 → is_number k ≡ true
  count-small n b w k le = let room = w.room in small k (omega arith)

  count-named : (n : ℕ) (b : OpenBranch) → BranchWritten (suc n) b → is_name_number b.count ≡ true
  count-named n b w = let room = w.room in name-number b.count w.positive (omega arith)

  modal-written : (n : ℕ) (b : OpenBranch) → BranchWritten (suc n) b → (m : ModalArg) → modal_is_written (modal_image b m) ≡ true
  modal-written n b w no_modal = refl
  modal-written n b w (to v) = label-written b.characters w.marks v
  modal-written n b w (by_new k) = count-named n b w

  argument-written : (n : ℕ) (b : OpenBranch) → BranchWritten (suc n) b → (i : ℕ) → 1 ≤ i → i ≤ most → (t : TermArg) → term_arg_is_written symbols t ≡ true → term_arg_is_written symbols (argument_image b i t) ≡ true
  argument-written n b w i first le no_term h = refl
  argument-written n b w i first le (by_term t) h = term-written b.eigens w.eigens t h
  argument-written n b w i first le (by_name k) h = name-number i first le

  use-written : (n : ℕ) (p : ℕ) (m : ModalArg) (t : TermArg) → is_number p ≡ true → modal_is_written m ≡ true → term_arg_is_written symbols t ≡ true → step_is_written symbols (apply_to p m t) ≡ true
  use-written n p m t a b c = and_from (is_number p && modal_is_written m) (term_arg_is_written symbols t) (and_from (is_number p) (modal_is_written m) a b) c

  one-step : (x : Step) → step_is_written symbols x ≡ true → list_all (step_is_written symbols) (x ∷ []) ≡ true
  one-step x h = and_from (step_is_written symbols x) true h refl

  two-steps : (x y : Step) → step_is_written symbols x ≡ true → step_is_written symbols y ≡ true → list_all (step_is_written symbols) (x ∷ y ∷ []) ≡ true
  two-steps x y h g = and_from (step_is_written symbols x) (step_is_written symbols y && true) h (one-step y g)

  use_steps-written : (n : ℕ) (b : OpenBranch) → BranchWritten (suc n) b → (i : ℕ) → 1 ≤ i → i ≤ most → (p : ℕ) → is_number p ≡ true → (a : Formula) (m : ModalArg) (t : TermArg) → term_arg_is_written symbols t ≡ true → list_all (step_is_written symbols) (use_steps b i p a m t) ≡ true
  use_steps-written n b w i first le p h a m t g = by a
    where
      single : list_all (step_is_written symbols) (apply_to p (modal_image b m) (argument_image b i t) ∷ []) ≡ true
      single = one-step (apply_to p (modal_image b m) (argument_image b i t)) (use-written n p (modal_image b m) (argument_image b i t) h (modal-written n b w m) (argument-written n b w i first le t g))

      double : list_all (step_is_written symbols) (apply_to p (modal_image b m) no_term ∷ apply_to (suc b.count) no_modal (argument_image b i t) ∷ []) ≡ true
      double = two-steps (apply_to p (modal_image b m) no_term) (apply_to (suc b.count) no_modal (argument_image b i t)) (use-written n p (modal_image b m) no_term h (modal-written n b w m) refl) (use-written n (suc b.count) no_modal (argument_image b i t) (count-small n b w (suc b.count) (omega arith)) refl (argument-written n b w i first le t g))

      by : (a : Formula) → list_all (step_is_written symbols) (use_steps b i p a m t) ≡ true
      by (atom r ts) = refl
      by (neg c) = double
      by (conj c e) = single
      by (disj c e) = single
      by (imp c e) = double
      by (all c) = double
      by (ex c) = single
      by (box c) = single
      by (dia c) = single

  axiom-written : (n : ℕ) (b : OpenBranch) → BranchWritten (suc n) b → (g f : ℕ) → is_number g ≡ true → is_number f ≡ true → (v : Label) → list_all (step_is_written symbols) (axiom_steps b g f v) ≡ true
  axiom-written n b w g f hg hf v =
      let named = count-named n b w in
      let label = all-append mark_is_written (label_image b.characters v) (new_mark b.count ∷ []) (label-written b.characters w.marks v) (and_from (is_name_number b.count) true named refl) in
      let first = use-written n f (by_new b.count) no_term hf named refl in
      let second = use-written n g (to (label_image b.characters v ++ new_mark b.count ∷ [])) no_term hg label refl in
      let third = and_from (is_number (suc (suc b.count))) (is_number (suc b.count)) (count-small n b w (suc (suc b.count)) (omega arith)) (count-small n b w (suc b.count) (omega arith)) in
      and_from (step_is_written symbols (apply_to f (by_new b.count) no_term)) _ first (two-steps (apply_to g (to (label_image b.characters v ++ new_mark b.count ∷ [])) no_term) (close (suc (suc b.count)) (suc b.count)) second third)

  item-written : (ps : List ℕ) → list_all is_number ps ≡ true → (k : ℕ) → is_number (item_or_0 ps k) ≡ true
  item-written [] h k = refl
  item-written (p ∷ ps) h zero = (and_parts (is_number p) (list_all is_number ps) h).0
  item-written (p ∷ ps) h (suc k) = item-written ps (and_parts (is_number p) (list_all is_number ps) h).1 k

  place-written : (ps : List ℕ) → list_all is_number ps ≡ true → (k : ℕ) → is_number (place_of ps k) ≡ true
  place-written ps h zero = refl
  place-written ps h (suc k) = item-written ps h k

  steps_for-written : (n : ℕ) (b : OpenBranch) → BranchWritten (suc n) b → (i : ℕ) → 1 ≤ i → i ≤ most → (x : Step) → step_is_written symbols x ≡ true → list_all (step_is_written symbols) (steps_for b i x) ≡ true
  steps_for-written n b w i first le (apply_to k m t) h = by (entry_of b.sequent k)
    where
      by : (o : Option Entry) → list_all (step_is_written symbols) (steps_at b i (place_of b.places k) o m t) ≡ true
      by None = refl
      by (Some e) = use_steps-written n b w i first le (place_of b.places k) (place-written b.places w.places k) e.formula m t (and_parts (is_number k && modal_is_written m) (term_arg_is_written symbols t) h).1
  steps_for-written n b w i first le (close g f) h = by (entry_of b.sequent f)
    where
      by : (o : Option Entry) → list_all (step_is_written symbols) (axiom_at b (place_of b.places g) (place_of b.places f) o) ≡ true
      by None = refl
      by (Some e) = axiom-written n b w (place_of b.places g) (place_of b.places f) (place-written b.places w.places g) (place-written b.places w.places f) e.label

  -- ---- branches after a step

  numbers-written : {A : Type 0} (k : ℕ) (xs : List A) → k + length xs ≤ most → list_all is_number (numbers_for (suc k) xs) ≡ true
  numbers-written k [] le = refl
  numbers-written k (x ∷ xs) le = and_from (is_number (suc k)) (list_all is_number (numbers_for (suc (suc k)) xs)) (small (suc k) (omega arith)) (numbers-written (suc k) xs (omega arith))

  record After {A : Type 0} (n : ℕ) (b : OpenBranch) (p : ℕ) (a : Formula) (xs : List A) : Type 0 where
    positive : 1 ≤ count_after b a xs
    room : count_after b a xs + 3 * n ≤ most
    places : list_all is_number (places_added b p a xs) ≡ true

  after-one : {A : Type 0} (n : ℕ) (b : OpenBranch) (p : ℕ) → is_number p ≡ true → BranchWritten (suc n) b → (a : Formula) (xs : List A) → length xs ≤ 2 → After n b p a xs
  after-one {A} n b p h w a xs le = by a
    where
      single : list_all is_number (numbers_for (suc b.count) xs) ≡ true
      single = let room = w.room in numbers-written b.count xs (omega arith)

      double : list_all is_number (numbers_for (suc (suc b.count)) xs) ≡ true
      double = let room = w.room in numbers-written (suc b.count) xs (omega arith)

      more : 1 ≤ b.count + length xs
      more = let positive = w.positive in omega arith

      more_room : b.count + length xs + 3 * n ≤ most
      more_room = let room = w.room in omega arith

      boxed : 1 ≤ suc b.count + length xs
      boxed = omega arith

      boxed_room : suc b.count + length xs + 3 * n ≤ most
      boxed_room = let room = w.room in omega arith

      same_room : b.count + 3 * n ≤ most
      same_room = let room = w.room in omega arith

      by : (a : Formula) → After n b p a xs
      by (atom r ts) = record { positive = w.positive; room = same_room; places = and_from (is_number p) true h refl }
      by (neg c) = record { positive = boxed; room = boxed_room; places = double }
      by (conj c e) = record { positive = more; room = more_room; places = single }
      by (disj c e) = record { positive = more; room = more_room; places = single }
      by (imp c e) = record { positive = boxed; room = boxed_room; places = double }
      by (all c) = record { positive = boxed; room = boxed_room; places = double }
      by (ex c) = record { positive = more; room = more_room; places = single }
      by (box c) = record { positive = more; room = more_room; places = single }
      by (dia c) = record { positive = more; room = more_room; places = single }

  character-written : (n : ℕ) (b : OpenBranch) → BranchWritten (suc n) b → (a : Formula) → label_is_written (new_character b a) ≡ true
  character-written n b w a = by a
    where
      named : label_is_written (new_mark b.count ∷ []) ≡ true
      named = and_from (is_name_number b.count) true (count-named n b w) refl

      by : (a : Formula) → label_is_written (new_character b a) ≡ true
      by (atom r ts) = refl
      by (neg c) = named
      by (conj c e) = named
      by (disj c e) = named
      by (imp c e) = named
      by (all c) = named
      by (ex c) = named
      by (box c) = named
      by (dia c) = named

  marks-written : (n : ℕ) (b : OpenBranch) → BranchWritten (suc n) b → (a : Formula) (m : ModalArg) → AllByRecursion (λ (x : CharacterImage). label_is_written x.label ≡ true) (characters_after b a m)
  marks-written n b w a no_modal = w.marks
  marks-written n b w a (to v) = w.marks
  marks-written n b w a (by_new k) = (character-written n b w a, w.marks)

  eigens-written : (n : ℕ) (b : OpenBranch) → BranchWritten (suc n) b → (i : ℕ) → 1 ≤ i → i ≤ most → (t : TermArg) → AllByRecursion (λ (x : EigenImage). is_name_number x.image ≡ true) (eigens_after b i t)
  eigens-written n b w i first le no_term = w.eigens
  eigens-written n b w i first le (by_term t) = w.eigens
  eigens-written n b w i first le (by_name k) = (name-number i first le, w.eigens)

  branch-written : {A : Type 0} (n : ℕ) (b : OpenBranch) → BranchWritten (suc n) b → (i : ℕ) → 1 ≤ i → i ≤ most → (p : ℕ) → is_number p ≡ true → (a : Formula) (m : ModalArg) (t : TermArg) (xs : List A) → length xs ≤ 2 → (s : Sequent) → BranchWritten n (branch_after b i p a m t xs s)
  branch-written n b w i first le p h a m t xs few s =
      let r = after-one n b p h w a xs few in
      record { positive = r.positive; room = r.room; places = all-append is_number b.places (places_added b p a xs) w.places r.places; marks = marks-written n b w a m; eigens = eigens-written n b w i first le t }

  few-components : (s : Sign) (a : Formula) → length (components s a) ≤ 2
  few-components s (atom r ts) = omega arith
  few-components s (neg c) = omega arith
  few-components s (conj c e) = omega arith
  few-components s (disj c e) = omega arith
  few-components s (imp c e) = omega arith
  few-components s (all c) = omega arith
  few-components s (ex c) = omega arith
  few-components s (box c) = omega arith
  few-components s (dia c) = omega arith

  branches_for-written : (P : Problem) (names : Names) (n : ℕ) (b : OpenBranch) → BranchWritten (suc n) b → (i : ℕ) → 1 ≤ i → i ≤ most → (x : Step) → AllByRecursion (BranchWritten n) (branches_for P names b i x)
  branches_for-written P names n b w i first le (close g f) = tt
  branches_for-written P names n b w i first le (apply_to k m t) = by (entry_of b.sequent k)
    where
      h : is_number (place_of b.places k) ≡ true
      h = place-written b.places w.places k

      per : (e : Entry) (r : Result Children StepFault) → AllByRecursion (BranchWritten n) (branches_by b i (place_of b.places k) e m t r)
      per e (Ok (one s)) = (branch-written n b w i first le (place_of b.places k) h e.formula m t (components e.sign e.formula) (few-components e.sign e.formula) s, tt)
      per e (Ok (two s u)) = (branch-written n b w i first le (place_of b.places k) h e.formula m t (e ∷ []) (omega arith) s, (branch-written n b w i first le (place_of b.places k) h e.formula m t (e ∷ []) (omega arith) u, tt))
      per e (Ok closed) = tt
      per e (Err f) = tt

      by : (o : Option Entry) → AllByRecursion (BranchWritten n) (branches_at P names b i (place_of b.places k) o m t (apply_to k m t))
      by None = tt
      by (Some e) = per e (apply P names b.sequent (apply_to k m t))

  names_for-written : (n : ℕ) (b : OpenBranch) → BranchWritten (suc n) b → (i : ℕ) → i ≤ most → (x : Step) → list_all (λ (x : EigenName). is_number x.number && label_is_written x.home) (names_for b i x) ≡ true
  names_for-written n b w i le (close g f) = refl
  names_for-written n b w i le (apply_to k m t) = by (entry_of b.sequent k) t
    where
      by : (o : Option Entry) (t : TermArg) → list_all (λ (x : EigenName). is_number x.number && label_is_written x.home) (names_at b i o m t) ≡ true
      by None t = refl
      by (Some e) no_term = refl
      by (Some e) (by_term u) = refl
      by (Some e) (by_name j) =
          let home = label_image (characters_after b e.formula m) (label_after Intuitionistic e.label m) in
          and_from (is_number i && label_is_written home) true (and_from (is_number i) (label_is_written home) (small i le) (label-written (characters_after b e.formula m) (marks-written n b w e.formula m) (label_after Intuitionistic e.label m))) refl

  fewer : (n : ℕ) (bs : List OpenBranch) → AllByRecursion (BranchWritten (suc n)) bs → AllByRecursion (BranchWritten n) bs
  fewer n [] h = tt
  fewer n (b ∷ bs) h = let w = h.0 in let room = w.room in (record { positive = w.positive; room = omega arith; places = w.places; marks = w.marks; eigens = w.eigens }, fewer n bs h.1)

  pub all-written : (P : Problem) (names : Names) (bs : List OpenBranch) (i : ℕ) (xs : List Step) → 1 ≤ i → i + length xs ≤ suc most → AllByRecursion (BranchWritten (length xs)) bs → list_all (step_is_written symbols) xs ≡ true → (list_all (step_is_written symbols) (steps_from P names bs i xs) ≡ true) × (list_all (λ (x : EigenName). is_number x.number && label_is_written x.home) (names_from P names bs i xs) ≡ true)
  all-written P names bs i [] first le h g = (refl, refl)
  all-written P names [] i (x ∷ xs) first le h g = (refl, refl)
  all-written P names (b ∷ bs) i (x ∷ xs) first le h g =
      let r = and_parts (step_is_written symbols x) (list_all (step_is_written symbols) xs) g in
      let n = length xs in
      let w = h.0 in
      let within : i ≤ most = omega arith in
      let next = branches_for P names b i x ++ bs in
      let rest = all-written P names next (suc i) xs (omega arith) (omega arith) (each-append (BranchWritten n) (branches_for P names b i x) bs (branches_for-written P names n b w i first within x) (fewer n bs h.1)) r.1 in
      (all-append (step_is_written symbols) (steps_for b i x) (steps_from P names next (suc i) xs) (steps_for-written n b w i first within x r.0) rest.0, all-append (λ (x : EigenName). is_number x.number && label_is_written x.home) (names_for b i x) (names_from P names next (suc i) xs) (names_for-written n b w i within x) rest.1)

-- a printable derivation of fewer than a third of 2 ^ 32 steps
pub transfer-printable : (P : Problem) (d : Derivation) → IsTrue (is_printable P d) → 3 * length d.steps + 1 < 2 ^ 32 → IsTrue (is_printable (translated_problem P) (transferred P d))
transfer-printable P d h few =
    let most = 3 * length d.steps + 1 in
    let small = λ (n : ℕ) (le : n ≤ most). lt-ltb n (2 ^ 32) (omega arith) in
    let parts = and_parts (is_limit d.limit && names_are_written d.names) (list_all (step_is_written P.symbols) d.steps) h in
    let limit = and_parts (is_limit d.limit) (names_are_written d.names) parts.0 in
    let b = first_branch P in
    let first : BranchWritten P.symbols most small (length d.steps) b = record { positive = omega arith; room = omega arith; places = refl; marks = tt; eigens = tt } in
    let all = all-written P.symbols most small P d.names (b ∷ []) 1 d.steps (omega arith) (omega arith) (first, tt) parts.1 in
    let E = names_from P d.names (b ∷ []) 1 d.steps in
    let names : names_are_written (names_with E) ≡ true = rw (names-rise P d.names (b ∷ []) 0 1 d.steps (omega arith)) (rw all.1 refl) in
    and_from (is_limit d.limit && names_are_written (names_with E)) (list_all (step_is_written P.symbols) (steps_from P d.names (b ∷ []) 1 d.steps)) (and_from (is_limit d.limit) (names_are_written (names_with E)) limit.0 names) all.0
