-- A law that is here for the reader: nothing cites it, since the program's conversion is led by its tableau and proved by what it does.
-- Each closed tableau has a derivation that derives the problem and can be printed (`converts`): its turns are made in the order of an
-- agenda, on each branch those that have their entry there, and a branch with all turns done has an axiom.
use Rattle.std.proofs.Common.{◌≡◌, ◌⊎◌, ℕ, suc, ◌+◌, ◌<◌, ◌≤◌, arith, length, length-append, lt-ltb, ltb-true, List, [], ◌∷◌, ◌++◌, Bool, true, false, not, ◌&&◌, ◌==◌, IsTrue, Some, refl, sym, ◌∙◌, ap, subst, inl, inr, slice_get, append_assoc, append-nil}
use Rattle.std.proofs.lemmas.Bool.{false≢true, cases_Bool, and_parts, and_from, eqb-true}
use Rattle.calculus.specs.declared.sign.Sign.{Sign}
use Rattle.calculus.specs.declared.sign.Sign.TheVariants.{F}
use Rattle.calculus.specs.Syntax.{Formula, Problem}
use Rattle.calculus.specs.Ground.{Value}
use Rattle.calculus.specs.Equality.{list_eq, value_eq}
use Rattle.calculus.specs.Kinds.{shape_of, modal_of}
use Rattle.calculus.specs.Problems.{formula_fits}
use Rattle.calculus.specs.Instances.{Spot, root_spot, GammaUse, Turn}
use Rattle.calculus.specs.Derivations.{Sequent, Names, Step, apply_to, close, Derivation, first_sequent, no_term}
use Rattle.calculus.specs.Calculus.{Closes, leaf, single, fork, Derives}
use Rattle.calculus.specs.Tableaux.{Tableau, is_closed}
use Rattle.conversion_theory.specs.Turns.{Name, turns_of, IsAgenda}
use Rattle.conversion_theory.specs.Numbering.{IsNumbering, number_of, name_lines_of}
use Rattle.std.specs.List.{list_all}
use Rattle.std.proofs.lemmas.List.{length-map}
use Rattle.std.proofs.lemmas.Option.{slice_get_within}
use Rattle.calculus.specs.Text.{is_number}
use Rattle.calculus.specs.DerivationText.{step_is_written, names_are_written, is_limit, is_printable}
use Rattle.conversion_theory.proofs.WrittenLaws.{names-written}
use Rattle.calculus.proofs.EqualityLaws.{list_eq-tells, value_eq-tells, nat_eq-tells}
use Rattle.calculus.proofs.Members.{Among, among-at, among-left, among-contains, contains-among}
use Rattle.conversion_theory.proofs.PlaceLaws.{Work}
use Rattle.conversion_theory.proofs.AgendaLaws.{TurnOf}
use Rattle.conversion_theory.proofs.ClosedLaws.{Allowed, Admitted, closed-works}
use Rattle.conversion_theory.proofs.WorkLaws.{same-spot}
use Rattle.conversion_theory.proofs.PutLaws.{none-formula}
use Rattle.conversion_theory.proofs.BranchLaws.{Item, item, entry_of_item, entries_of, Has, IsItem, IsBranch, Known, IsReady, ready-in_agenda}
use Rattle.conversion_theory.proofs.NextLaws.{OneStep, TwoSteps, skipped, literal-rests, only-step, pair-step, either-step, gamma-step, delta-step, literal-step}
use Rattle.conversion_theory.proofs.UseLaws.{modal_arg}
use Rattle.conversion_theory.proofs.EndLaws.{ends-pair, axiom-of_pair}
use Rattle.conversion_theory.proofs.WholeLaws.{KindOf, literal_kind, only_kind, pair_kind, either_kind, gamma_kind, delta_kind, kind_of, modal-cases, gamma-term, AreWritten, first-branch}

-- a signed formula at this position with these values taken
abbrev pub is_here : Spot → Item → Bool
is_here c i = not i.past && i.spot.position == c.position && list_eq value_eq i.spot.taken c.taken

pub seek : (c : Spot) (items : List Item) → ((k : ℕ) × (i : Item) × (slice_get items k ≡ Some i) × (is_here c i ≡ true)) ⊎ ((i : Item) → Among items i → is_here c i ≡ false)
seek c [] = inr (λ i h. elim h [ ])
seek c (j ∷ js) = elim (cases_Bool (is_here c j)) [
  | inl e ↦ inl (0, j, refl, e)
  | inr e ↦ elim (seek c js) [
    | inl r ↦ inl (suc r.0, r.1, r.2, r.3)
    | inr none ↦ inr (λ i h. elim h [ inl q ↦ subst (λ z. is_here c z ≡ false) q e | inr m ↦ none i m ])
  ]
]

pub self_here : (c : Spot) (s : Sign) (f : Formula) → is_here c (item c s f) ≡ true
self_here c s f = and_from (c.position == c.position) (list_eq value_eq c.taken c.taken) ((nat_eq-tells c.position c.position).1 refl) ((list_eq-tells value_eq value_eq-tells c.taken c.taken).1 refl)

-- what is found is what the turn works on
pub found-item : (P : Problem) (T : Turn → Type 0) (G : GammaUse → Type 0) (V : Value → Type 0) (x : Turn) (w : Work P T G V x) (K : Name → Type 0) (i : Item) → IsItem P K i → is_here w.from i ≡ true → i ≡ item w.from w.sign w.formula
found-item P R G V x w K i ok e =
    let outer = and_parts (not i.past && i.spot.position == w.from.position) (list_eq value_eq i.spot.taken w.from.taken) e in
    let inner = and_parts (not i.past) (i.spot.position == w.from.position) outer.0 in
    let fresh = not_true i.past inner.0 in
    let place = ok.place fresh in
    let same = same-spot P place.0 w.before i.spot w.from i.sign w.sign i.formula w.formula place.1 w.stood (eqb-true i.spot.position w.from.position inner.1) ((list_eq-tells value_eq value_eq-tells i.spot.taken w.from.taken).0 outer.1) in
    λ j. record { spot = same.spots j; sign = same.signs j; formula = same.formulas j; past = fresh j }
  where
    not_true : (b : Bool) → not b ≡ true → b ≡ false
    not_true false h = refl
    not_true true h = absurd (false≢true h)

-- steps that close the branch before the rest, and can be printed where the rest can
abbrev pub Closable : Problem → Names → Sequent → Type 0
Closable P names s = (rest : List Step) → (xs : List Step) × Closes P names s xs rest × (AreWritten P rest → AreWritten P xs)

written-cons : (P : Problem) (x : Step) (xs : List Step) → step_is_written P.symbols x ≡ true → AreWritten P xs → AreWritten P (x ∷ xs)
written-cons P x xs h g = and_from (step_is_written P.symbols x) (list_all (step_is_written P.symbols) xs) h g

pub number-within : (bound k n : ℕ) → IsTrue (is_number bound) → k < n → n ≤ bound → is_number (suc k) ≡ true
number-within bound k n small lt le = let b = ltb-true bound 4294967296 small in lt-ltb (suc k) 4294967296 (omega arith)

module _ (P : Problem) (t : Tableau) (d : ℕ) (shut : IsTrue (is_closed P d t)) (names : List Name) (numbering : IsNumbering P t names) (long : IsTrue (is_number (length names))) (bound : ℕ) (small : IsTrue (is_number bound)) where
  -- by the turn's kind, where the rest of the agenda closes what its step leaves
  module _ (done : List Turn) (x : Turn) (ready : IsReady P t done x) (w : Work P (TurnOf P t) (Allowed P) (Admitted P) x) (items : List Item) (b : IsBranch P done items) (root : Has items root_spot F P.formula) (room : length items ≤ bound)
      (go : (later : List Item) → IsBranch P (done ++ x ∷ []) later → Has later root_spot F P.formula → length later ≤ length items + 2 → Closable P (name_lines_of (number_of names) P names) (entries_of (number_of names) later)) where
    number_at : (k : ℕ) → slice_get items k ≡ Some (item w.from w.sign w.formula) → is_number (suc k) ≡ true
    number_at k at = number-within bound k (length items) small (slice_get_within items k (item w.from w.sign w.formula) at) room

    by_one : (k : ℕ) (at : slice_get items k ≡ Some (item w.from w.sign w.formula)) (u : _) (added : List Item) → length added ≤ 2 → OneStep P t names numbering done x ready w items b k at u added → Closable P (name_lines_of (number_of names) P names) (entries_of (number_of names) items)
    by_one k at u added few s rest =
        let step = apply_to (suc k) (modal_arg (number_of names) P.setting.logic w.sign w.formula w.from w.past w.moves) u in
        let total = length-append items added in
        let r = go (items ++ added) s.branch (among-left items added (item root_spot F P.formula) root) (omega arith) rest in
        (step ∷ r.0, single s.applies r.1, λ h. written-cons P step r.0 (s.written long (number_at k at)) (r.2 h))

    by_two : (k : ℕ) (at : slice_get items k ≡ Some (item w.from w.sign w.formula)) (i j : Item) → TwoSteps P t names numbering done x ready w items b k at i j → Closable P (name_lines_of (number_of names) P names) (entries_of (number_of names) items)
    by_two k at i j s rest =
        let step = apply_to (suc k) (modal_arg (number_of names) P.setting.logic w.sign w.formula w.from w.past w.moves) no_term in
        let first_total = length-append items (i ∷ []) in
        let second_total = length-append items (j ∷ []) in
        let second = go (items ++ j ∷ []) s.second (among-left items (j ∷ []) (item root_spot F P.formula) root) (omega arith) rest in
        let first = go (items ++ i ∷ []) s.first (among-left items (i ∷ []) (item root_spot F P.formula) root) (omega arith) second.0 in
        (step ∷ first.0, fork s.applies first.1 second.1, λ h. written-cons P step first.0 (s.written long (number_at k at)) (first.2 (second.2 h)))

    by_kind : (k : ℕ) (at : slice_get items k ≡ Some (item w.from w.sign w.formula)) → KindOf w.sign w.formula → Closable P (name_lines_of (number_of names) P names) (entries_of (number_of names) items)
    by_kind k at (literal_kind p ts q) rest = elim (modal-cases (modal_of P.setting.logic w.sign w.formula)) [
      | inl e ↦ go items (literal-rests P t names numbering done x ready w items b (ap (shape_of w.sign) q) e) root (omega arith) rest
      | inr e ↦ by_one k at _ _ (omega arith) (literal-step P t names numbering done x ready w items b k at p ts q e) rest
    ]
    by_kind k at (only_kind a e g) rest = by_one k at _ _ (omega arith) (only-step P t names numbering done x ready w items b k at a e g) rest
    by_kind k at (pair_kind a c e g) rest = by_one k at _ _ (omega arith) (pair-step P t names numbering done x ready w items b k at a c e g) rest
    by_kind k at (either_kind a c e g) rest = by_two k at _ _ (either-step P t names numbering done x ready w items b k at a c e g) rest
    by_kind k at (gamma_kind a e g) rest = let u = gamma-term (Allowed P) (shape_of w.sign w.formula) w.past x w.takes e in by_one k at _ _ (omega arith) (gamma-step P t names numbering done x ready w items b k at a u.0 e g u.1 u.2) rest
    by_kind k at (delta_kind a e g) rest = by_one k at _ _ (omega arith) (delta-step P t names numbering done x ready w items b k at a e g) rest

    by_turn : Closable P (name_lines_of (number_of names) P names) (entries_of (number_of names) items)
    by_turn rest = elim (seek w.from items) [
      | inl r ↦ by_kind r.0 (r.2 ∙ ap Some (found-item P (TurnOf P t) (Allowed P) (Admitted P) x w (Known P done) r.1 (b.each r.1 (among-at items r.0 r.1 r.2)) r.3)) (kind_of w.sign w.formula) rest
      | inr none ↦ go items (skipped P t names numbering done x ready w items b (λ h. false≢true (sym (none (item w.from w.sign w.formula) h) ∙ self_here w.from w.sign w.formula))) root (omega arith) rest
    ]

  -- the turns of an agenda, in its order, close each branch
  closes-from : (todo done : List Turn) → IsAgenda P t (done ++ todo) → (items : List Item) → IsBranch P done items → Has items root_spot F P.formula → length items + (length todo + length todo) ≤ bound → Closable P (name_lines_of (number_of names) P names) (entries_of (number_of names) items)
  closes-from [] done ag items b root room rest =
      let all = λ (y : Turn) (h : TurnOf P t y). subst (λ ys. Among ys y) (append-nil done) (among-contains (done ++ []) y ((ag.all y).0 (contains-among (turns_of P t) y h))) in
      let found = axiom-of_pair P (name_lines_of (number_of names) P names) done (number_of names) (Known P done) items b.each (ends-pair P d t shut done items b.saturated all root) in
      let step = close (suc found.given) (suc found.shown) in
      let many : length (entries_of (number_of names) items) ≡ length items = length-map items (entry_of_item (number_of names)) in
      let given = found.given_within in
      let shown = found.shown_within in
      (step ∷ rest, leaf found.applies, λ h. written-cons P step rest (and_from (is_number (suc found.given)) (is_number (suc found.shown)) (number-within bound found.given (length items) small (omega arith) (omega arith)) (number-within bound found.shown (length items) small (omega arith) (omega arith))) h)
  closes-from (x ∷ xs) done ag items b root room rest =
      let ready = ready-in_agenda P t done xs x ag in
      let next = subst (IsAgenda P t) (sym (append_assoc done (x ∷ []) xs)) ag in
      by_turn done x ready (closed-works P d t shut x ready.here) items b root (omega arith) (λ later c r few more. closes-from xs (done ++ x ∷ []) next later c r (omega arith) more) rest

-- each closed tableau has a derivation that derives the problem and can be printed, where its numbers are in range
pub converts : (P : Problem) (t : Tableau) (d : ℕ) → IsTrue (is_closed P d t) → IsTrue (formula_fits P.setting.logic P.symbols 0 P.formula) → (names : List Name) → IsNumbering P t names → (agenda : List Turn) → IsAgenda P t agenda → IsTrue (is_number (length names)) → IsTrue (is_number (1 + (length agenda + length agenda))) → IsTrue (is_limit d) → (e : Derivation) × Derives P e × (is_printable P e ≡ true) × (e.limit ≡ d)
converts P t d shut fit names numbering agenda ag long small limit =
    let lines = name_lines_of (number_of names) P names in
    let r = closes-from P t d shut names numbering long (1 + (length agenda + length agenda)) small agenda [] ag (item root_spot F P.formula ∷ []) (first-branch P fit) (inl refl) (omega arith) [] in
    let same : entries_of (number_of names) (item root_spot F P.formula ∷ []) ≡ first_sequent P = ap (λ f. record { sign = F; formula = f; label = [] } ∷ []) (none-formula (number_of names) P.setting.logic P.symbols 0 P.formula fit) in
    let e : Derivation = record { limit = d; names = lines; steps = r.0 } in
    (e, subst (λ q. Closes P lines q r.0 []) same r.1, and_from (is_limit d && names_are_written lines) (list_all (step_is_written P.symbols) r.0) (and_from (is_limit d) (names_are_written lines) limit (names-written P t names numbering long)) (r.2 refl), refl)
