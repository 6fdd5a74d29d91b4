-- The next turn of a branch: its step applies to the entry that it works on, and the children are branches with the turn done.
use Rattle.std.proofs.Common.{◌≡◌, ℕ, zero, suc, List, [], ◌∷◌, ◌++◌, length, true, false, not, ◌&&◌, IsTrue, Some, Ok, refl, sym, ◌∙◌, ap, subst, inl, inr, slice_get, append-nil}
use Rattle.std.specs.List.{AllByRecursion}
use Rattle.std.specs.Option.{option_map_or}
use Rattle.std.proofs.lemmas.Bool.{false≢true, true≢false, and_from}
use Rattle.calculus.specs.declared.sign.Sign.{Sign}
use Rattle.calculus.specs.declared.kind.Shape.TheVariants.{Alpha, Beta, Gamma, Delta, Literal}
use Rattle.calculus.specs.declared.kind.ModalPart.TheVariants.{Plain, Nu, Pi}
use Rattle.calculus.specs.Syntax.{Terms, Formula, atom, Problem}
use Rattle.calculus.specs.Ground.{GroundTerm, Value, g_eigen, g_new_mark, term, values_list, values_tree}
use Rattle.calculus.specs.Lists.{values_list-values_tree}
use Rattle.calculus.specs.Kinds.{Signed, shape_of, modal_of, components}
use Rattle.calculus.specs.Positions.{size, Node, node}
use Rattle.calculus.specs.Problems.{formula_fits}
use Rattle.calculus.specs.Skolem.{label_of, last_node, is_delta, is_delta_position, is_pi_position, is_allowed}
use Rattle.calculus.specs.Instances.{Spot, down_by, spot_inside, after_character, Turn}
use Rattle.calculus.specs.Derivations.{character_eq, TermArg, no_term, by_term, by_name, apply_to}
use Rattle.calculus.specs.Calculus.{one, two, term_fits, has_step, is_known, character_is_new, eigen_is_new, home_is, term_allowed, children_of, apply}
use Rattle.calculus.specs.Tableaux.{Tableau}
use Rattle.conversion_theory.specs.Turns.{Name, term_name, mark_name, names_of_tableau, names_mentioned, names_introduced}
use Rattle.conversion_theory.specs.Numbering.{IsNumbering, number_of, numbered_label, numbered_term, name_lines_of, entry_by}
use Rattle.calculus.proofs.EqualityLaws.{list_eq-tells, character_eq-tells}
use Rattle.calculus.proofs.Members.{Among, among-all, among-at, among-left, among-right, among-append, among-contains, contains-among}
use Rattle.conversion_theory.proofs.NameLaws.{introduced-eigen, introduced-mark, mentioned-value, mentioned-home}
use Rattle.conversion_theory.proofs.NumberLaws.{number_of-apart}
use Rattle.conversion_theory.proofs.NumberedLaws.{TellsApart, MarksIn, IsKnownTerm, eigen-known, none-unknown, none-forbidden, known-term, known-term-more, marks-in-more, known-list-more}
use Rattle.calculus.proofs.SpotLaws.{is_gamma, last_node-append}
use Rattle.conversion_theory.proofs.HitLaws.{Moves, plain, by_string, by_character, literal_at}
use Rattle.conversion_theory.proofs.PlaceLaws.{Stood, Turned, Takes, Work, only-stood, first-stood, second-stood, inside-gamma-stood, inside-delta-stood}
use Rattle.conversion_theory.proofs.AgendaLaws.{TurnOf, takes-position, work-position, stood-way}
use Rattle.conversion_theory.proofs.ClosedLaws.{Allowed, Admitted}
use Rattle.conversion_theory.proofs.WorkLaws.{NameOf, introduced-name, moves-env, moved-marks, pi-position, pi-takes-nothing, work-turned, work-label, takes-cases}
use Rattle.conversion_theory.proofs.BranchLaws.{Item, item, landed, entry_of_item, entries_of, Has, Holding, Known, known-more, known-here, IsItem, Meets, moves-plain, IsBranch, IsReady, IsBelow, branch-grows}
use Rattle.conversion_theory.proofs.FreshLaws.{introduced-unknown, known-named, eigen-new, character-new}
use Rattle.conversion_theory.proofs.UseLaws.{can-use, modal_arg, modal_arg-fits, modal_arg-label, modal_arg-reachable, only-children, pair-children, either-children, atom-children, gamma-children, delta-children}
use Rattle.conversion_theory.proofs.PutLaws.{shape_by, modal_by}
use Rattle.conversion_theory.proofs.WrittenLaws.{number-written, term-written, modal-written}
use Rattle.calculus.specs.Text.{is_number}
use Rattle.calculus.specs.DerivationText.{is_name_number, modal_is_written, term_arg_is_written, step_is_written}
use Rattle.conversion_theory.proofs.ExpandLaws.{IsExpanded, is_quantified, expanded-literal, expanded-only, expanded-pair, expanded-either, expanded-gamma, expanded-delta, fits-only, fits-two, fits-inside, has_step-shape, has_step-modal}

-- the position's own shape
pub delta-position : (P : Problem) (before : List Node) (c : Spot) (s : Sign) (f : Formula) → Stood P before c s f → shape_of s f ≡ Delta → is_delta_position P c.position ≡ true
delta-position P before c s f h e =
    let way = stood-way P before c s f h in
    ap (λ ns. option_map_or (λ (n : Node). is_delta (shape_of n.sign n.formula)) (last_node ns) false) way
    ∙ ap (λ o. option_map_or (λ (n : Node). is_delta (shape_of n.sign n.formula)) o false) (last_node-append before (node c.position s f))
    ∙ ap is_delta e

pub entries-append : (num : Name → ℕ) (xs ys : List Item) → entries_of num (xs ++ ys) ≡ entries_of num xs ++ entries_of num ys
entries-append num [] ys = refl
entries-append num (x ∷ xs) ys = ap (λ zs. entry_of_item num x ∷ zs) (entries-append num xs ys)

pub entries-at : (num : Name → ℕ) (xs : List Item) (k : ℕ) (i : Item) → slice_get xs k ≡ Some i → slice_get (entries_of num xs) k ≡ Some (entry_of_item num i)
entries-at num [] k i e = cc
entries-at num (x ∷ xs) zero i e = let same : x ≡ i = cc in ap (λ z. Some (entry_of_item num z)) same
entries-at num (x ∷ xs) (suc k) i e = entries-at num xs k i e

module _ (P : Problem) (t : Tableau) (names : List Name) (numbering : IsNumbering P t names) (done : List Turn) (x : Turn) (ready : IsReady P t done x) (w : Work P (TurnOf P t) (Allowed P) (Admitted P) x) (items : List Item) (b : IsBranch P done items) where
  listed : (n : Name) → Among names n → NameOf P t n
  listed n h = among-contains (names_of_tableau P t) n ((numbering.all n).1 (contains-among names n h))

  numbered : (n : Name) → NameOf P t n → Among names n
  numbered n h = among-contains names n ((numbering.all n).0 (contains-among (names_of_tableau P t) n h))

  apart : TellsApart (NameOf P t) (number_of names)
  apart m n h g e = number_of-apart names m n (numbered m h) (numbered n g) e

  known_before : (n : Name) → Known P done n → NameOf P t n
  known_before n k = known-named P t done ready.turns n k

  turns_after : (y : Turn) → Among (done ++ x ∷ []) y → TurnOf P t y
  turns_after y h = elim (among-append done (x ∷ []) y h) [ inl k ↦ ready.turns y k | inr k ↦ elim k [ inl e ↦ subst (TurnOf P t) e ready.here | inr q ↦ elim q [ ] ] ]

  known_after : (n : Name) → Known P (done ++ x ∷ []) n → NameOf P t n
  known_after n k = known-named P t (done ++ x ∷ []) turns_after n k

  mentioned_after : (n : Name) → Among (names_mentioned P x) n → Known P (done ++ x ∷ []) n
  mentioned_after n h = known-here P done x n (among-left (names_mentioned P x) (names_introduced P x) n h)

  introduced_after : (n : Name) → Among (names_introduced P x) n → Known P (done ++ x ∷ []) n
  introduced_after n h = known-here P done x n (among-right (names_mentioned P x) (names_introduced P x) n h)

  past_turned : Turned P w.before w.past w.sign w.formula
  past_turned = work-turned P (TurnOf P t) (Allowed P) (Admitted P) x w

  past_label : MarksIn (Known P done) w.from.label → MarksIn (Known P (done ++ x ∷ [])) w.past.label
  past_label h = moved-marks P (Known P (done ++ x ∷ [])) (Allowed P) w.before w.from w.past w.sign w.formula x w.stood w.moves w.takes (marks-in-more (Known P done) (Known P (done ++ x ∷ [])) (known-more P done x) w.from.label h) mentioned_after introduced_after

  past_env : AllByRecursion (IsKnownTerm (Known P done) P) w.from.env → AllByRecursion (IsKnownTerm (Known P (done ++ x ∷ [])) P) w.past.env
  past_env h = subst (AllByRecursion (IsKnownTerm (Known P (done ++ x ∷ [])) P)) (sym (moves-env P.setting.logic w.sign w.formula w.from w.past w.moves)) (known-list-more (Known P done) (Known P (done ++ x ∷ [])) (known-more P done x) P w.from.env h)

  -- a turn on a signed formula that is not on the branch leaves it as it is
  pub skipped : (Has items w.from w.sign w.formula → ⊥) → IsBranch P (done ++ x ∷ []) items
  skipped none = subst (IsBranch P (done ++ x ∷ [])) (append-nil items) (branch-grows P t (Allowed P) (Admitted P) done x ready w items [] b (λ i h. elim h [ ]) (λ i h e. elim h [ ]) (λ h. absurd (none h)))

  -- a literal without a modal part stands as it is
  pub literal-rests : shape_of w.sign w.formula ≡ Literal → modal_of P.setting.logic w.sign w.formula ≡ Plain → IsBranch P (done ++ x ∷ []) items
  literal-rests e plain_part = subst (IsBranch P (done ++ x ∷ [])) (append-nil items) (branch-grows P t (Allowed P) (Admitted P) done x ready w items [] b (λ i h. elim h [ ]) (λ i h e. elim h [ ]) (λ h. expanded-literal P.setting.logic w.past w.sign w.formula x (Meets P.setting.logic (items ++ [])) (Holding P.setting.logic (items ++ [])) e (λ p ts q. record {
    at = item w.from w.sign w.formula;
    among = among-left items [] (item w.from w.sign w.formula) h;
    symbol = p;
    args = ts;
    formula = q;
    rest = inr plain_part;
    literal = ap (λ d. literal_at d w.sign p ts) (moves-plain P.setting.logic w.sign w.formula w.from w.past plain_part w.moves);
  })))

  -- the signed formula stands at the place k of the branch
  module _ (k : ℕ) (at : slice_get items k ≡ Some (item w.from w.sign w.formula)) where
    there : IsItem P (Known P done) (item w.from w.sign w.formula)
    there = b.each (item w.from w.sign w.formula) (among-at items k (item w.from w.sign w.formula) at)

    entry_there : slice_get (entries_of (number_of names) items) k ≡ Some (entry_by (number_of names) w.from w.sign w.formula)
    entry_there = entries-at (number_of names) items k (item w.from w.sign w.formula) at

    past_fits : IsTrue (formula_fits P.setting.logic P.symbols (length w.past.env) w.formula)
    past_fits = subst (λ env. IsTrue (formula_fits P.setting.logic P.symbols (length env) w.formula)) (sym (moves-env P.setting.logic w.sign w.formula w.from w.past w.moves)) there.fits

    -- a character that the step brings is new
    fresh_character : (d : Spot) (m : Moves P.setting.logic w.sign w.formula w.from d) → Takes (Allowed P) (shape_of w.sign w.formula) d x → character_is_new (name_lines_of (number_of names) P names) (entries_of (number_of names) items) (modal_arg (number_of names) P.setting.logic w.sign w.formula w.from d m) ≡ true
    fresh_character d (plain e) k = refl
    fresh_character d (by_string v e q) k = refl
    fresh_character d (by_character e) k =
        let m = g_new_mark w.from.position (values_tree w.from.taken) in
        let position = takes-position (Allowed P) (shape_of w.sign w.formula) (after_character P.setting.logic w.from) x k in
        let values = pi-takes-nothing P (Allowed P) (after_character P.setting.logic w.from) w.sign w.formula x e k in
        let here : is_pi_position P x.position ≡ true = ap (is_pi_position P) position ∙ pi-position P w.before w.from w.sign w.formula w.stood e in
        let same : g_new_mark x.position (values_tree x.values) ≡ m = λ j. g_new_mark (position j) (values_tree (values j)) in
        let brings = subst (λ z. Among (names_introduced P x) (mark_name z)) same (introduced-mark P x here) in
        ap not (character-new (NameOf P t) (Known P done) (number_of names) apart P names listed numbered known_before m (introduced-name P t x ready.here (mark_name m) brings) (introduced-unknown P t done x ready (mark_name m) brings) items b.each)

    -- the step can be made with these arguments
    usable : (u : TermArg) → term_fits (shape_of w.sign w.formula) u ≡ true → has_step (modal_of P.setting.logic w.sign w.formula) (shape_of w.sign w.formula) ≡ true → is_known (name_lines_of (number_of names) P names) u ≡ true → eigen_is_new (entries_of (number_of names) items) u ≡ true → home_is (name_lines_of (number_of names) P names) (numbered_label (number_of names) w.past.label) u ≡ true → term_allowed P (name_lines_of (number_of names) P names) (numbered_label (number_of names) w.past.label) u ≡ true
        → apply P (name_lines_of (number_of names) P names) (entries_of (number_of names) items) (apply_to (suc k) (modal_arg (number_of names) P.setting.logic w.sign w.formula w.from w.past w.moves) u) ≡ Ok (children_of P.setting.logic (entries_of (number_of names) items) (entry_by (number_of names) w.from w.sign w.formula) (modal_arg (number_of names) P.setting.logic w.sign w.formula w.from w.past w.moves) u)
    usable u fit step known new home allowed =
        let l = P.setting.logic in
        let num = number_of names in
        let shape = shape_by num w.from.env w.sign w.formula in
        let modal = modal_by num w.from.env l w.sign w.formula in
        let marg = modal_arg num l w.sign w.formula w.from w.past w.moves in
        let after = modal_arg-label num l w.sign w.formula w.from w.past w.moves in
        can-use P (name_lines_of num P names) (entries_of num items) k (entry_by num w.from w.sign w.formula) marg u entry_there (record {
          modal = rw modal (modal_arg-fits num l w.sign w.formula w.from w.past w.moves);
          term = rw shape fit;
          step = rw (modal, shape) step;
          known = known;
          reachable = modal_arg-reachable (NameOf P t) num apart l w.sign w.formula w.from w.past w.moves (marks-in-more (Known P done) (NameOf P t) known_before w.from.label there.label) (marks-in-more (Known P (done ++ x ∷ [])) (NameOf P t) known_after w.past.label (past_label there.label));
          character = fresh_character w.past w.moves w.takes;
          eigen = new;
          home = rw after home;
          allowed = rw after allowed;
        })

    -- ---- what is added

    part-item : (j : ℕ) (r : Sign) (g : Formula) → Stood P (w.before ++ node w.past.position w.sign w.formula ∷ []) (down_by j w.past) r g → IsTrue (formula_fits P.setting.logic P.symbols (length w.past.env) g) → IsItem P (Known P (done ++ x ∷ [])) (item (down_by j w.past) r g)
    part-item j r g h f = record { place = λ e. (w.before ++ node w.past.position w.sign w.formula ∷ [], h); env = past_env there.env; label = past_label there.label; fits = f }

    inside-item : (u : GroundTerm) (vs : List Value) (r : Sign) (g : Formula) → Stood P (w.before ++ node w.past.position w.sign w.formula ∷ []) (spot_inside u vs w.past) r g → IsKnownTerm (Known P (done ++ x ∷ [])) P u → IsTrue (formula_fits P.setting.logic P.symbols (suc (length w.past.env)) g) → IsItem P (Known P (done ++ x ∷ [])) (item (spot_inside u vs w.past) r g)
    inside-item u vs r g h n f = record { place = λ e. (w.before ++ node w.past.position w.sign w.formula ∷ [], h); env = (n, past_env there.env); label = past_label there.label; fits = f }

    plain_values : is_gamma (shape_of w.sign w.formula) ≡ false → x.values ≡ w.past.taken
    plain_values e = elim (takes-cases (Allowed P) (shape_of w.sign w.formula) w.past x w.takes) [ inl h ↦ h.1 | inr h ↦ absurd (false≢true (sym e ∙ ap is_gamma h.1)) ]

    -- the step's arguments can be printed
    number_written : IsTrue (is_number (length names)) → (n : Name) → NameOf P t n → is_name_number (number_of names n) ≡ true
    number_written long n h = number-written names long n (numbered n h)

    pi_taken : (d : Spot) → Moves P.setting.logic w.sign w.formula w.from d → modal_of P.setting.logic w.sign w.formula ≡ Pi → d.taken ≡ w.from.taken
    pi_taken d (plain e) g = refl
    pi_taken d (by_string v e q) g = absurd (let z : Nu ≡ Pi = sym e ∙ g in cc)
    pi_taken d (by_character e) g = refl

    character_named : modal_of P.setting.logic w.sign w.formula ≡ Pi → NameOf P t (mark_name (g_new_mark w.from.position (values_tree w.from.taken)))
    character_named e =
        let position = work-position P (TurnOf P t) (Allowed P) (Admitted P) x w in
        let values = pi-takes-nothing P (Allowed P) w.past w.sign w.formula x e w.takes ∙ pi_taken w.past w.moves e in
        let here : is_pi_position P x.position ≡ true = ap (is_pi_position P) position ∙ pi-position P w.before w.from w.sign w.formula w.stood e in
        let same : g_new_mark x.position (values_tree x.values) ≡ g_new_mark w.from.position (values_tree w.from.taken) = λ j. g_new_mark (position j) (values_tree (values j)) in
        introduced-name P t x ready.here (mark_name (g_new_mark w.from.position (values_tree w.from.taken))) (subst (λ z. Among (names_introduced P x) (mark_name z)) same (introduced-mark P x here))

    step_written : (u : TermArg) → IsTrue (is_number (length names)) → is_number (suc k) ≡ true → term_arg_is_written P.symbols u ≡ true → step_is_written P.symbols (apply_to (suc k) (modal_arg (number_of names) P.setting.logic w.sign w.formula w.from w.past w.moves) u) ≡ true
    step_written u long number e =
        let m = modal_arg (number_of names) P.setting.logic w.sign w.formula w.from w.past w.moves in
        let label = marks-in-more (Known P (done ++ x ∷ [])) (NameOf P t) known_after w.past.label (past_label there.label) in
        and_from (is_number (suc k) && modal_is_written m) (term_arg_is_written P.symbols u) (and_from (is_number (suc k)) (modal_is_written m) number (modal-written (NameOf P t) (number_of names) (number_written long) P.setting.logic w.sign w.formula w.from w.past w.moves label character_named)) e

    -- the step with this argument leads to one branch that has more items
    pub record OneStep (u : TermArg) (added : List Item) : Type 0 where
      pub written : IsTrue (is_number (length names)) → is_number (suc k) ≡ true → step_is_written P.symbols (apply_to (suc k) (modal_arg (number_of names) P.setting.logic w.sign w.formula w.from w.past w.moves) u) ≡ true
      pub applies : apply P (name_lines_of (number_of names) P names) (entries_of (number_of names) items) (apply_to (suc k) (modal_arg (number_of names) P.setting.logic w.sign w.formula w.from w.past w.moves) u) ≡ Ok (one (entries_of (number_of names) (items ++ added)))
      pub branch : IsBranch P (done ++ x ∷ []) (items ++ added)

    abbrev After : List Item → Type 0
    After added = IsBranch P (done ++ x ∷ []) (items ++ added)

    abbrev Results : List Item → Type 0
    Results added = IsExpanded P.setting.logic w.past w.sign w.formula x (Meets P.setting.logic (items ++ added)) (Holding P.setting.logic (items ++ added))

    added_one : (i : Item) → IsItem P (Known P (done ++ x ∷ [])) i → IsBelow P (w.before ++ node w.past.position w.sign w.formula ∷ []) x i → Results (i ∷ []) → After (i ∷ [])
    added_one i h g r = branch-grows P t (Allowed P) (Admitted P) done x ready w items (i ∷ []) b
        (λ j m. elim m [ inl e ↦ subst (IsItem P (Known P (done ++ x ∷ []))) e h | inr q ↦ elim q [ ] ])
        (λ j m p. elim m [ inl e ↦ subst (IsBelow P (w.before ++ node w.past.position w.sign w.formula ∷ []) x) e g | inr q ↦ elim q [ ] ])
        (λ o. r)

    added_two : (i j : Item) → IsItem P (Known P (done ++ x ∷ [])) i → IsItem P (Known P (done ++ x ∷ [])) j → IsBelow P (w.before ++ node w.past.position w.sign w.formula ∷ []) x i → IsBelow P (w.before ++ node w.past.position w.sign w.formula ∷ []) x j → Results (i ∷ j ∷ []) → After (i ∷ j ∷ [])
    added_two i j h g p q r = branch-grows P t (Allowed P) (Admitted P) done x ready w items (i ∷ j ∷ []) b
        (λ n m. elim m [ inl e ↦ subst (IsItem P (Known P (done ++ x ∷ []))) e h | inr m ↦ elim m [ inl e ↦ subst (IsItem P (Known P (done ++ x ∷ []))) e g | inr z ↦ elim z [ ] ] ])
        (λ n m y. elim m [ inl e ↦ subst (IsBelow P (w.before ++ node w.past.position w.sign w.formula ∷ []) x) e p | inr m ↦ elim m [ inl e ↦ subst (IsBelow P (w.before ++ node w.past.position w.sign w.formula ∷ []) x) e q | inr z ↦ elim z [ ] ] ])
        (λ o. r)

    last_of : (i : Item) → Among (items ++ i ∷ []) i
    last_of i = among-right items (i ∷ []) i (inl refl)

    first_of_two : (i j : Item) → Among (items ++ i ∷ j ∷ []) i
    first_of_two i j = among-right items (i ∷ j ∷ []) i (inl refl)

    second_of_two : (i j : Item) → Among (items ++ i ∷ j ∷ []) j
    second_of_two i j = among-right items (i ∷ j ∷ []) j (inr (inl refl))

    -- alpha with one component
    pub only-step : (a : Signed) → shape_of w.sign w.formula ≡ Alpha → components w.sign w.formula ≡ a ∷ [] → OneStep no_term (item (down_by 1 w.past) a.sign a.formula ∷ [])
    only-step a e g =
        let l = P.setting.logic in
        let num = number_of names in
        let i = item (down_by 1 w.past) a.sign a.formula in
        let stood = only-stood P w.before w.past w.sign w.formula a past_turned e g in
        let values : w.past.taken ≡ x.values = sym (plain_values (ap is_gamma e)) in
        record {
          written = λ long number. step_written no_term long number refl;
          applies = usable no_term (ap (λ h. term_fits h no_term) e) (has_step-shape (modal_of l w.sign w.formula) (shape_of w.sign w.formula) (λ q. let z : Alpha ≡ Literal = sym e ∙ q in cc)) refl refl refl refl
              ∙ ap Ok (only-children num l (entries_of num items) w.from w.past w.sign w.formula w.moves a e g ∙ ap one (sym (entries-append num items (i ∷ []))));
          branch = added_one i (part-item 1 a.sign a.formula stood (fits-only l P.symbols (length w.past.env) w.sign w.formula a e g past_fits)) (record { stood = stood; values = values }) (expanded-only l w.past w.sign w.formula x (Meets l (items ++ i ∷ [])) (Holding l (items ++ i ∷ [])) a e g (inl (last_of i)));
        }

    -- alpha with two components
    pub pair-step : (a c : Signed) → shape_of w.sign w.formula ≡ Alpha → components w.sign w.formula ≡ a ∷ c ∷ [] → OneStep no_term (item (down_by 1 w.past) a.sign a.formula ∷ item (down_by (suc (size a.formula)) w.past) c.sign c.formula ∷ [])
    pair-step a c e g =
        let l = P.setting.logic in
        let num = number_of names in
        let i = item (down_by 1 w.past) a.sign a.formula in
        let j = item (down_by (suc (size a.formula)) w.past) c.sign c.formula in
        let first = first-stood P w.before w.past w.sign w.formula Alpha a c past_turned refl (λ rest. refl) e g in
        let second = second-stood P w.before w.past w.sign w.formula Alpha a c past_turned refl (λ rest. refl) e g in
        let values : w.past.taken ≡ x.values = sym (plain_values (ap is_gamma e)) in
        let fit = fits-two l P.symbols (length w.past.env) w.sign w.formula a c g past_fits in
        record {
          written = λ long number. step_written no_term long number refl;
          applies = usable no_term (ap (λ h. term_fits h no_term) e) (has_step-shape (modal_of l w.sign w.formula) (shape_of w.sign w.formula) (λ q. let z : Alpha ≡ Literal = sym e ∙ q in cc)) refl refl refl refl
              ∙ ap Ok (pair-children num l (entries_of num items) w.from w.past w.sign w.formula w.moves a c e g ∙ ap one (sym (entries-append num items (i ∷ j ∷ []))));
          branch = added_two i j (part-item 1 a.sign a.formula first fit.0) (part-item (suc (size a.formula)) c.sign c.formula second fit.1) (record { stood = first; values = values }) (record { stood = second; values = values }) (expanded-pair l w.past w.sign w.formula x (Meets l (items ++ i ∷ j ∷ [])) (Holding l (items ++ i ∷ j ∷ [])) a c e g (inl (first_of_two i j)) (inl (second_of_two i j)));
        }

    -- beta: two branches, each with one component
    pub record TwoSteps (i j : Item) : Type 0 where
      pub written : IsTrue (is_number (length names)) → is_number (suc k) ≡ true → step_is_written P.symbols (apply_to (suc k) (modal_arg (number_of names) P.setting.logic w.sign w.formula w.from w.past w.moves) no_term) ≡ true
      pub applies : apply P (name_lines_of (number_of names) P names) (entries_of (number_of names) items) (apply_to (suc k) (modal_arg (number_of names) P.setting.logic w.sign w.formula w.from w.past w.moves) no_term) ≡ Ok (two (entries_of (number_of names) (items ++ i ∷ [])) (entries_of (number_of names) (items ++ j ∷ [])))
      pub first : IsBranch P (done ++ x ∷ []) (items ++ i ∷ [])
      pub second : IsBranch P (done ++ x ∷ []) (items ++ j ∷ [])

    pub either-step : (a c : Signed) → shape_of w.sign w.formula ≡ Beta → components w.sign w.formula ≡ a ∷ c ∷ [] → TwoSteps (item (down_by 1 w.past) a.sign a.formula) (item (down_by (suc (size a.formula)) w.past) c.sign c.formula)
    either-step a c e g =
        let l = P.setting.logic in
        let num = number_of names in
        let i = item (down_by 1 w.past) a.sign a.formula in
        let j = item (down_by (suc (size a.formula)) w.past) c.sign c.formula in
        let first = first-stood P w.before w.past w.sign w.formula Beta a c past_turned refl (λ rest. refl) e g in
        let second = second-stood P w.before w.past w.sign w.formula Beta a c past_turned refl (λ rest. refl) e g in
        let values : w.past.taken ≡ x.values = sym (plain_values (ap is_gamma e)) in
        let fit = fits-two l P.symbols (length w.past.env) w.sign w.formula a c g past_fits in
        record {
          written = λ long number. step_written no_term long number refl;
          applies = usable no_term (ap (λ h. term_fits h no_term) e) (has_step-shape (modal_of l w.sign w.formula) (shape_of w.sign w.formula) (λ q. let z : Beta ≡ Literal = sym e ∙ q in cc)) refl refl refl refl
              ∙ ap Ok (either-children num l (entries_of num items) w.from w.past w.sign w.formula w.moves a c e g ∙ (λ r. two (sym (entries-append num items (i ∷ [])) r) (sym (entries-append num items (j ∷ [])) r)));
          first = added_one i (part-item 1 a.sign a.formula first fit.0) (record { stood = first; values = values }) (expanded-either l w.past w.sign w.formula x (Meets l (items ++ i ∷ [])) (Holding l (items ++ i ∷ [])) a c e g (inl (inl (last_of i))));
          second = added_one j (part-item (suc (size a.formula)) c.sign c.formula second fit.1) (record { stood = second; values = values }) (expanded-either l w.past w.sign w.formula x (Meets l (items ++ j ∷ [])) (Holding l (items ++ j ∷ [])) a c e g (inr (inl (last_of j))));
        }

    -- gamma: the turn's last value is a term that is allowed at the label
    pub gamma-step : (a : Signed) (u : GroundTerm) → shape_of w.sign w.formula ≡ Gamma → components w.sign w.formula ≡ a ∷ [] → x.values ≡ w.past.taken ++ term u ∷ [] → is_allowed P w.past.label u ≡ true → OneStep (by_term (numbered_term (number_of names) u)) (item (spot_inside u (w.past.taken ++ term u ∷ []) w.past) a.sign a.formula ∷ [])
    gamma-step a u e g v allowed =
        let l = P.setting.logic in
        let num = number_of names in
        let vs = w.past.taken ++ term u ∷ [] in
        let i = item (spot_inside u vs w.past) a.sign a.formula in
        let stood = inside-gamma-stood P w.before w.past w.sign w.formula a u past_turned e g in
        let value : Among x.values (term u) = subst (λ us. Among us (term u)) (sym v) (among-right w.past.taken (term u ∷ []) (term u) (inl refl)) in
        let known : IsKnownTerm (Known P (done ++ x ∷ [])) P u = known-term (Known P (done ++ x ∷ [])) P u (λ n h. mentioned_after n (mentioned-value P x (term u) n value h)) (λ n m h q. mentioned_after m (mentioned-home P x (term u) n m value h q)) in
        let named : IsKnownTerm (NameOf P t) P u = known-term-more (Known P (done ++ x ∷ [])) (NameOf P t) known_after P u known in
        let label = marks-in-more (Known P (done ++ x ∷ [])) (NameOf P t) known_after w.past.label (past_label there.label) in
        record {
          written = λ long number. step_written (by_term (numbered_term num u)) long number (term-written (NameOf P t) num (number_written long) P u (among-all (Admitted P) x.values (term u) w.values value) named);
          applies = usable (by_term (numbered_term num u)) (ap (λ h. term_fits h (by_term (numbered_term num u))) e) (has_step-shape (modal_of l w.sign w.formula) (shape_of w.sign w.formula) (λ q. let z : Gamma ≡ Literal = sym e ∙ q in cc))
              (ap not (none-unknown (NameOf P t) num apart P names listed numbered u named)) refl refl (ap not (none-forbidden (NameOf P t) num apart P names listed numbered w.past.label label u named allowed))
              ∙ ap Ok (gamma-children num l (entries_of num items) w.from w.past w.sign w.formula w.moves a u vs e g ∙ ap one (sym (entries-append num items (i ∷ []))));
          branch = added_one i (inside-item u vs a.sign a.formula stood known (fits-inside l P.symbols (length w.past.env) w.sign w.formula a (ap is_quantified e) g past_fits)) (record { stood = stood; values = sym v }) (expanded-gamma l w.past w.sign w.formula x (Meets l (items ++ i ∷ [])) (Holding l (items ++ i ∷ [])) a u e g v (inl (last_of i)));
        }

    -- delta: the eigenvariable is new, and its home is the label past the modal part
    pub delta-step : (a : Signed) → shape_of w.sign w.formula ≡ Delta → components w.sign w.formula ≡ a ∷ [] → OneStep (by_name (number_of names (term_name (g_eigen w.past.position (values_tree w.past.taken))))) (item (spot_inside (g_eigen w.past.position (values_tree w.past.taken)) w.past.taken w.past) a.sign a.formula ∷ [])
    delta-step a e g =
        let l = P.setting.logic in
        let num = number_of names in
        let vs = values_tree w.past.taken in
        let u = g_eigen w.past.position vs in
        let n = term_name u in
        let i = item (spot_inside u w.past.taken w.past) a.sign a.formula in
        let stood = inside-delta-stood P w.before w.past w.sign w.formula a past_turned e g in
        let values = plain_values (ap is_gamma e) in
        let position = takes-position (Allowed P) (shape_of w.sign w.formula) w.past x w.takes in
        let here : is_delta_position P x.position ≡ true = ap (is_delta_position P) (work-position P (TurnOf P t) (Allowed P) (Admitted P) x w) ∙ delta-position P w.before w.from w.sign w.formula w.stood e in
        let same : g_eigen x.position (values_tree x.values) ≡ u = λ j. g_eigen (position j) (values_tree (values j)) in
        let brings = subst (λ z. Among (names_introduced P x) (term_name z)) same (introduced-eigen P x here) in
        let named = introduced-name P t x ready.here n brings in
        let line = eigen-known (NameOf P t) num apart P names listed numbered w.past.position vs named in
        let label : label_of P w.past.position (values_list vs) ≡ w.past.label = ap (label_of P w.past.position) (values_list-values_tree w.past.taken) ∙ (λ j. label_of P (sym position j) (sym values j)) ∙ work-label P (TurnOf P t) (Allowed P) (Admitted P) x w in
        let home : numbered_label num (label_of P w.past.position (values_list vs)) ≡ numbered_label num w.past.label = ap (numbered_label num) label in
        let known : IsKnownTerm (Known P (done ++ x ∷ [])) P u = (introduced_after n brings, subst (MarksIn (Known P (done ++ x ∷ []))) (sym label) (past_label there.label)) in
        record {
          written = λ long number. step_written (by_name (num n)) long number (number_written long n named);
          applies = usable (by_name (num n)) (ap (λ h. term_fits h (by_name (num n))) e) (has_step-shape (modal_of l w.sign w.formula) (shape_of w.sign w.formula) (λ q. let z : Delta ≡ Literal = sym e ∙ q in cc))
              (rw line refl)
              (ap not (eigen-new (NameOf P t) (Known P done) num apart P names listed numbered known_before n named (introduced-unknown P t done x ready n brings) items b.each))
              (rw line ((list_eq-tells character_eq character_eq-tells (numbered_label num (label_of P w.past.position (values_list vs))) (numbered_label num w.past.label)).1 home))
              refl
              ∙ ap Ok (delta-children num l (entries_of num items) w.from w.past w.sign w.formula w.moves a w.past.position vs w.past.taken e g ∙ ap one (sym (entries-append num items (i ∷ []))));
          branch = added_one i (inside-item u w.past.taken a.sign a.formula stood known (fits-inside l P.symbols (length w.past.env) w.sign w.formula a (ap is_quantified e) g past_fits)) (record { stood = stood; values = sym values }) (expanded-delta l w.past w.sign w.formula x (Meets l (items ++ i ∷ [])) (Holding l (items ++ i ∷ [])) a e g (inl (last_of i)));
        }

    -- a literal with a modal part stands past it
    pub literal-step : (p : ℕ) (ts : Terms) → w.formula ≡ atom p ts → (modal_of P.setting.logic w.sign w.formula ≡ Plain → ⊥) → OneStep no_term (landed w.past w.sign p ts ∷ [])
    literal-step p ts q modal =
        let l = P.setting.logic in
        let num = number_of names in
        let i = landed w.past w.sign p ts in
        let e : shape_of w.sign w.formula ≡ Literal = ap (shape_of w.sign) q in
        record {
          written = λ long number. step_written no_term long number refl;
          applies = usable no_term (ap (λ h. term_fits h no_term) e) (has_step-modal (modal_of l w.sign w.formula) (shape_of w.sign w.formula) modal) refl refl refl refl
              ∙ ap Ok (atom-children num l (entries_of num items) w.from w.past w.sign w.formula p ts w.moves q ∙ ap one (sym (entries-append num items (i ∷ []))));
          branch = branch-grows P t (Allowed P) (Admitted P) done x ready w items (i ∷ []) b
              (λ j m. elim m [ inl z ↦ subst (IsItem P (Known P (done ++ x ∷ []))) z (record { place = λ no. absurd (true≢false no); env = past_env there.env; label = past_label there.label; fits = subst (λ f. IsTrue (formula_fits l P.symbols (length w.past.env) f)) q past_fits }) | inr z ↦ elim z [ ] ])
              (λ j m no. elim m [ inl z ↦ absurd (true≢false (ap (λ (y : Item). y.past) z ∙ no)) | inr z ↦ elim z [ ] ])
              (λ o. expanded-literal l w.past w.sign w.formula x (Meets l (items ++ i ∷ [])) (Holding l (items ++ i ∷ [])) e (λ r us z. record { at = i; among = last_of i; symbol = r; args = us; formula = sym q ∙ z; rest = inl refl; literal = refl }));
        }
