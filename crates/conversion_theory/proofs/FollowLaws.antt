-- What a task is about, case by case: its turn, and where the branch goes when the turn has left its results.
use Rattle.std.proofs.Common.{◌≡◌, ◌⊎◌, ℕ, suc, ◌<◌, ◌≤◌, arith, List, [], ◌∷◌, ◌++◌, take, drop, length, Bool, true, false, refl, sym, ◌∙◌, ap, subst, inl, inr, append_assoc, append-nil}
use Rattle.std.specs.List.{AllByRecursion}
use Rattle.calculus.specs.declared.sign.Sign.{Sign}
use Rattle.calculus.specs.declared.kind.Shape.{Shape}
use Rattle.calculus.specs.declared.kind.Shape.TheVariants.{Alpha, Beta, Gamma, Delta, Literal}
use Rattle.calculus.specs.Syntax.{Terms, Formula, atom, Problem}
use Rattle.calculus.specs.Ground.{Value, GroundTerm, GroundLiteral, g_eigen, term, values_tree}
use Rattle.calculus.specs.Kinds.{Signed, shape_of, modal_of, components}
use Rattle.calculus.specs.Positions.{size, Node, node}
use Rattle.calculus.specs.Instances.{Spot, down_by, spot_inside, after_string, after_character, Turn, Share, Gives, Shaped, by_plain, by_nu, by_pi, is_literal, by_only, by_left, by_right, by_both, by_gamma, by_delta}
use Rattle.calculus.specs.Derivations.{ModalArg, TermArg, no_term, by_term, by_name}
use Rattle.conversion_theory.specs.Turns.{Name, term_name, IsParent}
use Rattle.conversion_theory.specs.Numbering.{numbered_term}
use Rattle.conversion_theory.specs.Branches.{Item, item, landed, Past, Made, rests, grows, splits, made_literal, made_alpha, made_beta, made_gamma, made_delta, made_shape, made}
use Rattle.calculus.specs.Tableaux.{Tableau}
use Rattle.conversion_theory.specs.Leading.{End}
use Rattle.calculus.proofs.Members.{Among, all-among}
use Rattle.conversion_theory.proofs.HitLaws.{Moves, plain, by_string, by_character, turn, literal_at}
use Rattle.calculus.proofs.SpotLaws.{is_gamma}
use Rattle.conversion_theory.proofs.PlaceLaws.{Stood, Turned, turned, Takes, nothing_more, one_term, HasParent, parent-here, Work, moves-position, only-stood, first-stood, second-stood, inside-gamma-stood, inside-delta-stood}
use Rattle.conversion_theory.proofs.AgendaLaws.{Anything, moves-values}
use Rattle.conversion_theory.proofs.WorkLaws.{child-parent}
use Rattle.conversion_theory.proofs.BranchLaws.{Has, Holding, moves-plain}
use Rattle.conversion_theory.proofs.UseLaws.{modal_arg}
use Rattle.conversion_theory.proofs.MadeLaws.{past-right, made-by, literal-made}
use Rattle.conversion_theory.proofs.WholeLaws.{modal-cases}
use Rattle.conversion_theory.proofs.SpanLaws.{spans}
use Rattle.conversion_theory.proofs.TaskLaws.{IsEnd, AreEnds, ends-split}

-- what a turn made stands on the branch: of a fork one of the two
abbrev pub AreMade : List Item → Made → Type 0
AreMade items rests = Unit {0}
AreMade items (grows m u added) = AllByRecursion (Among items) added
AreMade items (splits m i j) = Among items i ⊎ Among items j

-- the branch is not forked, and has at most two items more
abbrev pub IsSingle : Made → Type 0
IsSingle rests = Unit {0}
IsSingle (grows m u added) = length added ≤ 2
IsSingle (splits m i j) = ⊥

single-one : {n : Made} {m : ModalArg} {u : TermArg} {i : Item} → n ≡ grows m u (i ∷ []) → IsSingle n
single-one e = subst IsSingle (sym e) (omega arith)

single-two : {n : Made} {m : ModalArg} {u : TermArg} {i j : Item} → n ≡ grows m u (i ∷ j ∷ []) → IsSingle n
single-two e = subst IsSingle (sym e) (omega arith)

-- one part is followed
abbrev pub has_one_part : Shape → Bool
has_one_part Literal = false
has_one_part Beta = false
has_one_part _ = true

-- the turns of two parts, the second of which begins at the position p
pub record ArePlaced (p : ℕ) (us vs : List Turn) : Type 0 where
  pub first : (z : Turn) → Among us z → z.position < p
  pub second : (z : Turn) → Among vs z → p ≤ z.position

pub data IsBelowOf (P : Problem) (tableau : Tableau) (d : ℕ) (path : List GroundLiteral) (y : Turn) (ts : List Turn) (es : List End) (c : Spot) (s : Sign) (f : Formula) : Type 0 where
  -- a signed formula below the turn y, which gives a share whose turns and ends are these
  below : (x : Share) (before : List Node) → Gives P.setting.logic c s f x → Stood P before c s f → HasParent P Anything before c → x.turns ≡ ts → AreEnds P tableau d path x.literals es → ((z : Turn) (own : List Value) → z.position ≡ c.position → z.values ≡ c.taken ++ own → IsParent P y z) → IsBelowOf P tableau d path y ts es c s f

-- the turns are y and then those of what is below it
pub data Next (P : Problem) (tableau : Tableau) (d : ℕ) (path : List GroundLiteral) (y : Turn) (ts : List Turn) (es : List End) (c : Spot) (s : Sign) (f : Formula) (m : Made) : Type 0 where
  lands : (x : GroundLiteral) (e : End) → IsSingle m → shape_of s f ≡ Literal → ts ≡ y ∷ [] → es ≡ e ∷ [] → IsEnd P tableau d path x e → ((items : List Item) → Has items c s f → AreMade items m → Holding P.setting.logic items x) → Next P tableau d path y ts es c s f m
  goes : (us : List Turn) (g : Spot) (r : Sign) (h : Formula) → IsSingle m → has_one_part (shape_of s f) ≡ true → ts ≡ y ∷ us → IsBelowOf P tableau d path y us es g r h → ((items : List Item) → AreMade items m → Has items g r h) → Next P tableau d path y ts es c s f m
  forks : (n : ℕ) (us vs : List Turn) (a : ModalArg) (i j : Spot) (q r : Sign) (g h : Formula) → m ≡ splits a (item i q g) (item j r h) → shape_of s f ≡ Beta → ArePlaced j.position us vs → ts ≡ y ∷ (us ++ vs) → IsBelowOf P tableau d path y us (take n es) i q g → IsBelowOf P tableau d path y vs (drop n es) j r h → Next P tableau d path y ts es c s f m

pub record Opened (P : Problem) (tableau : Tableau) (d : ℕ) (num : Name → ℕ) (path : List GroundLiteral) (ts : List Turn) (es : List End) (c : Spot) (s : Sign) (f : Formula) : Type 0 where
  pub here : Turn
  pub own : List Value
  pub position : c.position ≡ here.position
  pub values : here.values ≡ c.taken ++ own
  pub next : Next P tableau d path here ts es c s f (made num P.setting.logic c s f own)

module _ (P : Problem) (tableau : Tableau) (d : ℕ) (num : Name → ℕ) (path : List GroundLiteral) where
  module _ (before : List Node) (c e : Spot) (s : Sign) (f : Formula) (stood : Stood P before c s f) (m : Moves P.setting.logic s f c e) (parent : HasParent P Anything before c) where
    abbrev past_by : List Value → Past
    past_by rest = record { spot = e; arg = modal_arg num P.setting.logic s f c e m; rest = rest }

    abbrev steps_taken : List Value
    steps_taken = (moves-values P.setting.logic s f c e m).0

    taken_is : e.taken ≡ c.taken ++ steps_taken
    taken_is = (moves-values P.setting.logic s f c e m).1

    position_is : c.position ≡ e.position
    position_is = sym (moves-position P.setting.logic s f c e m)

    past : Turned P before e s f
    past = turned P before c e s f stood m

    -- what is made, with no value but those of the modal part
    made_plain : (h : Shape) → shape_of s f ≡ h → made num P.setting.logic c s f steps_taken ≡ made_shape num h (modal_of P.setting.logic s f) (past_by []) s f
    made_plain h g = made-by num P.setting.logic c s f steps_taken h (past_by []) g (past-right num P.setting.logic s f c e m steps_taken [] (sym taken_is ∙ sym (append-nil e.taken)))

    -- what is below the turn here
    child_of : (y : Turn) → Takes Anything (shape_of s f) e y → (es : List End) (g : Spot) (r : Sign) (h : Formula) (x : Share) → Gives P.setting.logic g r h x → AreEnds P tableau d path x.literals es → Stood P (before ++ node e.position s f ∷ []) g r h → HasParent P Anything (before ++ node e.position s f ∷ []) g → g.taken ≡ y.values → IsBelowOf P tableau d path y x.turns es g r h
    child_of y takes es g r h x gives ends stands above taken =
        let w : Work P Anything Anything Anything y = record { before = before; from = c; past = e; sign = s; formula = f; stood = stood; moves = m; takes = takes; values = all-among Anything y.values (λ v k. tt); parent = parent } in
        below x (before ++ node e.position s f ∷ []) gives stands above refl ends (λ z own p v. child-parent P Anything Anything Anything y w g r h stands taken z p own v)

    literal_case : (p : ℕ) (us : Terms) (q : f ≡ atom p us) (es : List End) → AreEnds P tableau d path (literal_at e s p us ∷ []) es → Opened P tableau d num path (turn e.position e.taken ∷ []) es c s f
    literal_case p us q es ends = literal es ends
      where
        landing : made num P.setting.logic c s f steps_taken ≡ made_literal (modal_of P.setting.logic s f) (past_by []) s f
        landing = made_plain Literal (ap (shape_of s) q)

        by_part : (IsSingle (made num P.setting.logic c s f steps_taken)) × ((items : List Item) → Has items c s f → AreMade items (made num P.setting.logic c s f steps_taken) → Holding P.setting.logic items (literal_at e s p us))
        by_part = elim (modal-cases (modal_of P.setting.logic s f)) [
          | inl z ↦ let stays : made num P.setting.logic c s f steps_taken ≡ rests = landing ∙ ap (λ n. made_literal n (past_by []) s f) z in (
            subst IsSingle (sym stays) tt,
            λ items h n. record {
              at = item c s f;
              among = h;
              symbol = p;
              args = us;
              formula = q;
              rest = inr z;
              literal = ap (λ g. literal_at g s p us) (moves-plain P.setting.logic s f c e z m);
            },
          )
          | inr z ↦ let lands_on : made num P.setting.logic c s f steps_taken ≡ grows (past_by []).arg no_term (landed e s p us ∷ []) = landing ∙ literal-made (modal_of P.setting.logic s f) (past_by []) s f p us z q in (
            single-one lands_on,
            λ items h n. record {
              at = landed e s p us;
              among = (subst (AreMade items) lands_on n).0;
              symbol = p;
              args = us;
              formula = refl;
              rest = inl refl;
              literal = refl;
            },
          )
        ]

        literal : (zs : List End) → AreEnds P tableau d path (literal_at e s p us ∷ []) zs → Opened P tableau d num path (turn e.position e.taken ∷ []) zs c s f
        literal [] h = elim h [ ]
        literal (z ∷ []) h = let both = by_part in record {
          here = turn e.position e.taken;
          own = steps_taken;
          position = position_is;
          values = taken_is;
          next = lands (literal_at e s p us) z both.0 (ap (shape_of s) q) refl refl h.0 both.1;
        }
        literal (z ∷ u ∷ zs) h = elim h.1 [ ]

    only_case : (z : Share) (a : Signed) (es : List End) → shape_of s f ≡ Alpha → components s f ≡ a ∷ [] → Gives P.setting.logic (down_by 1 e) a.sign a.formula z → AreEnds P tableau d path z.literals es → Opened P tableau d num path (turn e.position e.taken ∷ z.turns) es c s f
    only_case z a es q g gives ends =
        let same : made num P.setting.logic c s f steps_taken ≡ grows (past_by []).arg no_term (item (down_by 1 e) a.sign a.formula ∷ []) = made_plain Alpha q ∙ ap (made_alpha (past_by [])) g in
        record {
          here = turn e.position e.taken;
          own = steps_taken;
          position = position_is;
          values = taken_is;
          next = goes z.turns (down_by 1 e) a.sign a.formula (single-one same) (ap has_one_part q) refl
              (child_of (turn e.position e.taken) (nothing_more (ap is_gamma q)) es (down_by 1 e) a.sign a.formula z gives ends (only-stood P before e s f a past q g) (parent-here P Anything before e s f e.taken past tt (down_by 1 e) (omega arith) refl) refl)
              (λ items n. (subst (AreMade items) same n).0);
        }

    left_case : (z : Share) (a b : Signed) (es : List End) → shape_of s f ≡ Alpha → components s f ≡ a ∷ b ∷ [] → Gives P.setting.logic (down_by 1 e) a.sign a.formula z → AreEnds P tableau d path z.literals es → Opened P tableau d num path (turn e.position e.taken ∷ z.turns) es c s f
    left_case z a b es q g gives ends =
        let same : made num P.setting.logic c s f steps_taken ≡ grows (past_by []).arg no_term (item (down_by 1 e) a.sign a.formula ∷ item (down_by (suc (size a.formula)) e) b.sign b.formula ∷ []) = made_plain Alpha q ∙ ap (made_alpha (past_by [])) g in
        record {
          here = turn e.position e.taken;
          own = steps_taken;
          position = position_is;
          values = taken_is;
          next = goes z.turns (down_by 1 e) a.sign a.formula (single-two same) (ap has_one_part q) refl
              (child_of (turn e.position e.taken) (nothing_more (ap is_gamma q)) es (down_by 1 e) a.sign a.formula z gives ends (first-stood P before e s f Alpha a b past refl (λ rest. refl) q g) (parent-here P Anything before e s f e.taken past tt (down_by 1 e) (omega arith) refl) refl)
              (λ items n. (subst (AreMade items) same n).0);
        }

    right_case : (z : Share) (a b : Signed) (es : List End) → shape_of s f ≡ Alpha → components s f ≡ a ∷ b ∷ [] → Gives P.setting.logic (down_by (suc (size a.formula)) e) b.sign b.formula z → AreEnds P tableau d path z.literals es → Opened P tableau d num path (turn e.position e.taken ∷ z.turns) es c s f
    right_case z a b es q g gives ends =
        let same : made num P.setting.logic c s f steps_taken ≡ grows (past_by []).arg no_term (item (down_by 1 e) a.sign a.formula ∷ item (down_by (suc (size a.formula)) e) b.sign b.formula ∷ []) = made_plain Alpha q ∙ ap (made_alpha (past_by [])) g in
        record {
          here = turn e.position e.taken;
          own = steps_taken;
          position = position_is;
          values = taken_is;
          next = goes z.turns (down_by (suc (size a.formula)) e) b.sign b.formula (single-two same) (ap has_one_part q) refl
              (child_of (turn e.position e.taken) (nothing_more (ap is_gamma q)) es (down_by (suc (size a.formula)) e) b.sign b.formula z gives ends (second-stood P before e s f Alpha a b past refl (λ rest. refl) q g) (parent-here P Anything before e s f e.taken past tt (down_by (suc (size a.formula)) e) (omega arith) refl) refl)
              (λ items n. (subst (AreMade items) same n).1.0);
        }

    both_case : (z u : Share) (a b : Signed) (es : List End) → shape_of s f ≡ Beta → components s f ≡ a ∷ b ∷ [] → Gives P.setting.logic (down_by 1 e) a.sign a.formula z → Gives P.setting.logic (down_by (suc (size a.formula)) e) b.sign b.formula u → AreEnds P tableau d path (z.literals ++ u.literals) es → Opened P tableau d num path (turn e.position e.taken ∷ (z.turns ++ u.turns)) es c s f
    both_case z u a b es q g gives others ends =
        let same : made num P.setting.logic c s f steps_taken ≡ splits (past_by []).arg (item (down_by 1 e) a.sign a.formula) (item (down_by (suc (size a.formula)) e) b.sign b.formula) = made_plain Beta q ∙ ap (made_beta (past_by [])) g in
        let parts = ends-split P tableau d path z.literals u.literals es ends in
        let placed : ArePlaced (down_by (suc (size a.formula)) e).position z.turns u.turns = record {
          first = λ v n. let r = (spans P.setting.logic (down_by 1 e) a.sign a.formula z gives v n).1 in omega arith;
          second = λ v n. (spans P.setting.logic (down_by (suc (size a.formula)) e) b.sign b.formula u others v n).0;
        } in
        record {
          here = turn e.position e.taken;
          own = steps_taken;
          position = position_is;
          values = taken_is;
          next = forks (length z.literals) z.turns u.turns (past_by []).arg (down_by 1 e) (down_by (suc (size a.formula)) e) a.sign b.sign a.formula b.formula same q placed refl
              (child_of (turn e.position e.taken) (nothing_more (ap is_gamma q)) (take (length z.literals) es) (down_by 1 e) a.sign a.formula z gives parts.0 (first-stood P before e s f Beta a b past refl (λ rest. refl) q g) (parent-here P Anything before e s f e.taken past tt (down_by 1 e) (omega arith) refl) refl)
              (child_of (turn e.position e.taken) (nothing_more (ap is_gamma q)) (drop (length z.literals) es) (down_by (suc (size a.formula)) e) b.sign b.formula u others parts.1 (second-stood P before e s f Beta a b past refl (λ rest. refl) q g) (parent-here P Anything before e s f e.taken past tt (down_by (suc (size a.formula)) e) (omega arith) refl) refl);
        }

    gamma_case : (z : Share) (a : Signed) (t : GroundTerm) (es : List End) → shape_of s f ≡ Gamma → components s f ≡ a ∷ [] → Gives P.setting.logic (spot_inside t (e.taken ++ term t ∷ []) e) a.sign a.formula z → AreEnds P tableau d path z.literals es → Opened P tableau d num path (turn e.position (e.taken ++ term t ∷ []) ∷ z.turns) es c s f
    gamma_case z a t es q g gives ends =
        let own : List Value = steps_taken ++ term t ∷ [] in
        let whole : e.taken ++ term t ∷ [] ≡ c.taken ++ own = ap (λ vs. vs ++ term t ∷ []) taken_is ∙ append_assoc c.taken steps_taken (term t ∷ []) in
        let pasts = past-right num P.setting.logic s f c e m own (term t ∷ []) (sym whole) in
        let same : made num P.setting.logic c s f own ≡ grows (past_by (term t ∷ [])).arg (by_term (numbered_term num t)) (item (spot_inside t (e.taken ++ term t ∷ []) e) a.sign a.formula ∷ []) = made-by num P.setting.logic c s f own Gamma (past_by (term t ∷ [])) q pasts ∙ ap (made_gamma num (past_by (term t ∷ [])) (term t ∷ [])) g in
        record {
          here = turn e.position (e.taken ++ term t ∷ []);
          own = own;
          position = position_is;
          values = whole;
          next = goes z.turns (spot_inside t (e.taken ++ term t ∷ []) e) a.sign a.formula (single-one same) (ap has_one_part q) refl
              (child_of (turn e.position (e.taken ++ term t ∷ [])) (one_term t q tt) es (spot_inside t (e.taken ++ term t ∷ []) e) a.sign a.formula z gives ends (inside-gamma-stood P before e s f a t past q g) (parent-here P Anything before e s f (e.taken ++ term t ∷ []) past tt (spot_inside t (e.taken ++ term t ∷ []) e) (omega arith) refl) refl)
              (λ items n. (subst (AreMade items) same n).0);
        }

    delta_case : (z : Share) (a : Signed) (es : List End) → shape_of s f ≡ Delta → components s f ≡ a ∷ [] → Gives P.setting.logic (spot_inside (g_eigen e.position (values_tree e.taken)) e.taken e) a.sign a.formula z → AreEnds P tableau d path z.literals es → Opened P tableau d num path (turn e.position e.taken ∷ z.turns) es c s f
    delta_case z a es q g gives ends =
        let new : GroundTerm = g_eigen e.position (values_tree e.taken) in
        let same : made num P.setting.logic c s f steps_taken ≡ grows (past_by []).arg (by_name (num (term_name new))) (item (spot_inside new e.taken e) a.sign a.formula ∷ []) = made_plain Delta q ∙ ap (made_delta num (past_by [])) g in
        record {
          here = turn e.position e.taken;
          own = steps_taken;
          position = position_is;
          values = taken_is;
          next = goes z.turns (spot_inside new e.taken e) a.sign a.formula (single-one same) (ap has_one_part q) refl
              (child_of (turn e.position e.taken) (nothing_more (ap is_gamma q)) es (spot_inside new e.taken e) a.sign a.formula z gives ends (inside-delta-stood P before e s f a past q g) (parent-here P Anything before e s f e.taken past tt (spot_inside new e.taken e) (omega arith) refl) refl)
              (λ items n. (subst (AreMade items) same n).0);
        }

  opened_shaped : (before : List Node) (c e : Spot) (s : Sign) (f : Formula) (x : Share) (es : List End) → Shaped P.setting.logic e s f x → Stood P before c s f → Moves P.setting.logic s f c e → HasParent P Anything before c → AreEnds P tableau d path x.literals es → Opened P tableau d num path x.turns es c s f
  opened_shaped before c e s f x es (is_literal {p = p} {ts = us}) stood m parent ends = literal_case before c e s (atom p us) stood m parent p us refl es ends
  opened_shaped before c e s f x es (by_only {x = z} {a = a} q g gives) stood m parent ends = only_case before c e s f stood m parent z a es q g gives ends
  opened_shaped before c e s f x es (by_left {x = z} {a = a} {b = b} q g gives) stood m parent ends = left_case before c e s f stood m parent z a b es q g gives ends
  opened_shaped before c e s f x es (by_right {x = z} {a = a} {b = b} q g gives) stood m parent ends = right_case before c e s f stood m parent z a b es q g gives ends
  opened_shaped before c e s f x es (by_both {x = z} {y = u} {a = a} {b = b} q g gives others) stood m parent ends = both_case before c e s f stood m parent z u a b es q g gives others ends
  opened_shaped before c e s f x es (by_gamma {x = z} {a = a} t q g gives) stood m parent ends = gamma_case before c e s f stood m parent z a t es q g gives ends
  opened_shaped before c e s f x es (by_delta {x = z} {a = a} q g gives) stood m parent ends = delta_case before c e s f stood m parent z a es q g gives ends

  -- what a task is about
  pub opened : (before : List Node) (c : Spot) (s : Sign) (f : Formula) (x : Share) (es : List End) → Stood P before c s f → HasParent P Anything before c → Gives P.setting.logic c s f x → AreEnds P tableau d path x.literals es → Opened P tableau d num path x.turns es c s f
  opened before c s f x es stood parent (by_plain q g) ends = opened_shaped before c c s f x es g stood (plain q) parent ends
  opened before c s f x es stood parent (by_nu {x = y} w q step g) ends = opened_shaped before c (after_string P.setting.logic w c) s f y es g stood (by_string w q step) parent ends
  opened before c s f x es stood parent (by_pi {x = y} q g) ends = opened_shaped before c (after_character P.setting.logic c) s f y es g stood (by_character q) parent ends
