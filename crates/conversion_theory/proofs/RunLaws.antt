-- A conversion as it runs: the steps so far, the branch at hand and those that wait, each with the turns that are done there. One law for
-- each thing that a run does. The turns may come in any order in which each is ready (`IsReady`): in that of the agenda, of which a
-- branch has done the first ones, or in another on each branch.
use Rattle.std.proofs.Common.{◌≡◌, ℕ, suc, List, [], ◌∷◌, ◌++◌, map, length, true, false, ◌&&◌, IsTrue, Some, Ok, refl, sym, ◌∙◌, ap, subst, inl, slice_get}
use Rattle.std.specs.List.{AllByRecursion, list_all}
use Rattle.std.proofs.lemmas.Bool.{and_parts, and_from}
use Rattle.calculus.specs.declared.sign.Sign.TheVariants.{F}
use Rattle.calculus.specs.Syntax.{Problem}
use Rattle.calculus.specs.Ground.{Value}
use Rattle.calculus.specs.Problems.{formula_fits}
use Rattle.calculus.specs.Instances.{root_spot, Turn}
use Rattle.calculus.specs.Derivations.{Sequent, Step, apply_to, close, Derivation, no_term}
use Rattle.calculus.specs.Calculus.{closed, apply, Derives}
use Rattle.calculus.specs.Text.{is_number}
use Rattle.calculus.specs.DerivationText.{step_is_written, is_limit, names_are_written, is_printable}
use Rattle.calculus.specs.Tableaux.{Tableau, is_closed}
use Rattle.conversion_theory.specs.Turns.{Name}
use Rattle.conversion_theory.specs.Numbering.{IsNumbering, number_of, name_lines_of}
use Rattle.conversion_theory.specs.Branches.{Item, item, entries_of, Made, rests, grows, splits, made}
use Rattle.calculus.proofs.Members.{Among, among-at, among-left}
use Rattle.conversion_theory.proofs.PlaceLaws.{Work}
use Rattle.conversion_theory.proofs.AgendaLaws.{TurnOf, work-position, work-values}
use Rattle.conversion_theory.proofs.ClosedLaws.{Allowed, Admitted, closed-works}
use Rattle.conversion_theory.proofs.WorkLaws.{work-from}
use Rattle.conversion_theory.proofs.PutLaws.{none-formula}
use Rattle.conversion_theory.proofs.BranchLaws.{Has, IsBranch, IsReady}
use Rattle.conversion_theory.proofs.NextLaws.{skipped}
use Rattle.conversion_theory.proofs.WholeLaws.{AreWritten, first-branch}
use Rattle.conversion_theory.proofs.WrittenLaws.{names-written}
use Rattle.conversion_theory.proofs.MadeLaws.{IsMade, made-right}
use Rattle.conversion_theory.proofs.OpenLaws.{AreOpen, open-first, open-one, open-two, open-closed, open-none}

-- a branch, and the turns that are done there
pub record Branch : Type 0 where
  pub items : List Item
  pub done : List Turn

abbrev pub branch : List Item → List Turn → Branch
branch items done = record { items = items; done = done }

-- ---- the first turns of an agenda

written-append : (P : Problem) (xs : List Step) (x : Step) → AreWritten P xs → step_is_written P.symbols x ≡ true → AreWritten P (xs ++ x ∷ [])
written-append P [] x h g = and_from (step_is_written P.symbols x) true g refl
written-append P (y ∷ ys) x h g = let p = and_parts (step_is_written P.symbols y) (list_all (step_is_written P.symbols) ys) h in and_from (step_is_written P.symbols y) (list_all (step_is_written P.symbols) (ys ++ x ∷ [])) p.0 (written-append P ys x p.1 g)

-- ---- a run

module _ (P : Problem) (t : Tableau) (names : List Name) where
  -- the turns that are done have left their results, and the problem's formula stands there
  pub record IsGood (b : Branch) : Type 0 where
    pub branch : IsBranch P b.done b.items
    pub root : Has b.items root_spot F P.formula

  abbrev pub sequents : List Branch → List Sequent
  sequents bs = map (λ (b : Branch). entries_of (number_of names) b.items) bs

  -- what closes the open branches derives the problem behind the steps so far
  pub record IsRunning (steps : List Step) (bs : List Branch) : Type 0 where
    pub open_ones : AreOpen P (name_lines_of (number_of names) P names) steps (sequents bs)
    pub good : AllByRecursion IsGood bs
    pub written : AreWritten P steps

  -- the run after the turn x on the item at the place k of the first branch
  abbrev pub Goes : List Step → Branch → List Branch → Turn → ℕ → Made → Type 0
  Goes steps b bs x k rests = IsRunning steps (branch b.items (b.done ++ x ∷ []) ∷ bs)
  Goes steps b bs x k (grows m u added) = IsRunning (steps ++ apply_to (suc k) m u ∷ []) (branch (b.items ++ added) (b.done ++ x ∷ []) ∷ bs)
  Goes steps b bs x k (splits m i j) = IsRunning (steps ++ apply_to (suc k) m no_term ∷ []) (branch (b.items ++ i ∷ []) (b.done ++ x ∷ []) ∷ branch (b.items ++ j ∷ []) (b.done ++ x ∷ []) ∷ bs)

  -- the turn works on the item: it has its position, and the values taken before and others
  abbrev pub WorksOn : Turn → Item → List Value → Type 0
  WorksOn x i own = (i.past ≡ false) × (i.spot.position ≡ x.position) × (x.values ≡ i.spot.taken ++ own)

  -- before the first step
  pub run-start : IsTrue (formula_fits P.setting.logic P.symbols 0 P.formula) → IsRunning [] (branch (item root_spot F P.formula ∷ []) [] ∷ [])
  run-start fit = record {
    open_ones = subst (λ q. AreOpen P (name_lines_of (number_of names) P names) [] (q ∷ [])) (sym (ap (λ f. record { sign = F; formula = f; label = [] } ∷ []) (none-formula (number_of names) P.setting.logic P.symbols 0 P.formula fit))) (open-first P (name_lines_of (number_of names) P names));
    good = (record { branch = first-branch P fit; root = inl refl }, tt);
    written = refl;
  }

  -- an axiom closes the branch
  pub run-closed : (steps : List Step) (b : Branch) (bs : List Branch) → IsRunning steps (b ∷ bs) → (given shown : ℕ) → apply P (name_lines_of (number_of names) P names) (entries_of (number_of names) b.items) (close given shown) ≡ Ok closed → is_number given ≡ true → is_number shown ≡ true → IsRunning (steps ++ close given shown ∷ []) bs
  run-closed steps b bs h given shown e g s = record {
    open_ones = open-closed P (name_lines_of (number_of names) P names) steps (entries_of (number_of names) b.items) (sequents bs) (close given shown) h.open_ones e;
    good = h.good.1;
    written = written-append P steps (close given shown) h.written (and_from (is_number given) (is_number shown) g s);
  }

  -- no branch is open
  pub run-done : (limit : ℕ) → IsTrue (is_limit limit) → IsNumbering P t names → IsTrue (is_number (length names)) → (steps : List Step) → IsRunning steps [] → (d : Derivation) × Derives P d × (is_printable P d ≡ true) × (d.limit ≡ limit) × (d.names ≡ name_lines_of (number_of names) P names) × (d.steps ≡ steps)
  run-done limit within numbering long steps h =
      let lines = name_lines_of (number_of names) P names in
      let d : Derivation = record { limit = limit; names = lines; steps = steps } in
      (d, open-none P d h.open_ones, and_from (is_limit limit && names_are_written lines) (list_all (step_is_written P.symbols) steps) (and_from (is_limit limit) (names_are_written lines) within (names-written P t names numbering long)) h.written, refl, refl, refl)

  module _ (d : ℕ) (shut : IsTrue (is_closed P d t)) (numbering : IsNumbering P t names) (long : IsTrue (is_number (length names))) where
    pub work_of : (done : List Turn) (x : Turn) → IsReady P t done x → Work P (TurnOf P t) (Allowed P) (Admitted P) x
    work_of done x ready = closed-works P d t shut x ready.here

    -- an item that the turn works on is its signed formula
    pub own_item : (b : Branch) (x : Turn) (ready : IsReady P t b.done x) → IsGood b → (i : Item) → Among b.items i → (own : List Value) → WorksOn x i own → i ≡ item (work_of b.done x ready).from (work_of b.done x ready).sign (work_of b.done x ready).formula
    own_item b x ready g i h own on =
        let w = work_of b.done x ready in
        let place = (g.branch.each i h).place on.0 in
        let same = work-from P (TurnOf P t) (Allowed P) (Admitted P) x w place.0 i.spot i.sign i.formula place.1 (sym on.1) own on.2 in
        λ j. record { spot = same.spots j; sign = same.signs j; formula = same.formulas j; past = on.0 j }

    good_next : (items : List Item) (done : List Turn) → IsBranch P done items → Has items root_spot F P.formula → IsGood (branch items done)
    good_next items done h r = record { branch = h; root = r }

    -- the turn is made on the item at the place k
    pub run-made : (steps : List Step) (b : Branch) (bs : List Branch) → IsRunning steps (b ∷ bs) → (x : Turn) → IsReady P t b.done x → (k : ℕ) (i : Item) → slice_get b.items k ≡ Some i → is_number (suc k) ≡ true → (own : List Value) → WorksOn x i own → Goes steps b bs x k (made (number_of names) P.setting.logic i.spot i.sign i.formula own)
    run-made steps b bs h x ready k i at number own on =
        let w = work_of b.done x ready in
        let same = own_item b x ready h.good.0 i (among-at b.items k i at) own on in
        let values : x.values ≡ w.from.taken ++ own = on.2 ∙ ap (λ (j : Item). j.spot.taken ++ own) same in
        let right = made-right P t names numbering b.done x ready w b.items h.good.0.branch k (at ∙ ap Some same) own values in
        after (made (number_of names) P.setting.logic i.spot i.sign i.formula own)
        (subst (λ (j : Item). IsMade P names b.done x b.items k (made (number_of names) P.setting.logic j.spot j.sign j.formula own)) (sym same) right)
      where
        after : (m : Made) → IsMade P names b.done x b.items k m → Goes steps b bs x k m
        after rests r = record { open_ones = h.open_ones; good = (good_next b.items (b.done ++ x ∷ []) r h.good.0.root, h.good.1); written = h.written }
        after (grows m u added) r = record {
          open_ones = open-one P (name_lines_of (number_of names) P names) steps (entries_of (number_of names) b.items) (entries_of (number_of names) (b.items ++ added)) (sequents bs) (apply_to (suc k) m u) h.open_ones r.applies;
          good = (good_next (b.items ++ added) (b.done ++ x ∷ []) r.branch (among-left b.items added (item root_spot F P.formula) h.good.0.root), h.good.1);
          written = written-append P steps (apply_to (suc k) m u) h.written (r.written long number);
        }
        after (splits m p q) r = record {
          open_ones = open-two P (name_lines_of (number_of names) P names) steps (entries_of (number_of names) b.items) (entries_of (number_of names) (b.items ++ p ∷ [])) (entries_of (number_of names) (b.items ++ q ∷ [])) (sequents bs) (apply_to (suc k) m no_term) h.open_ones r.applies;
          good = (good_next (b.items ++ p ∷ []) (b.done ++ x ∷ []) r.first (among-left b.items (p ∷ []) (item root_spot F P.formula) h.good.0.root), (good_next (b.items ++ q ∷ []) (b.done ++ x ∷ []) r.second (among-left b.items (q ∷ []) (item root_spot F P.formula) h.good.0.root), h.good.1));
          written = written-append P steps (apply_to (suc k) m no_term) h.written (r.written long number);
        }

    -- the turn works on no item of the branch
    pub run-skipped : (steps : List Step) (b : Branch) (bs : List Branch) → IsRunning steps (b ∷ bs) → (x : Turn) → IsReady P t b.done x → ((i : Item) → Among b.items i → (own : List Value) → WorksOn x i own → ⊥) → IsRunning steps (branch b.items (b.done ++ x ∷ []) ∷ bs)
    run-skipped steps b bs h x ready none =
        let w = work_of b.done x ready in
        let vs = work-values P (TurnOf P t) (Allowed P) (Admitted P) x w in
        let next = skipped P t names numbering b.done x ready w b.items h.good.0.branch (λ m. none (item w.from w.sign w.formula) m vs.0 (refl, sym (work-position P (TurnOf P t) (Allowed P) (Admitted P) x w), vs.1)) in
        record { open_ones = h.open_ones; good = (good_next b.items (b.done ++ x ∷ []) next h.good.0.root, h.good.1); written = h.written }
