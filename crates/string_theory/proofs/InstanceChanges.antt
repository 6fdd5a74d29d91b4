-- The change of an instance is an instance.
use Rattle.std.proofs.Common.{◌≡◌, ℕ, zero, suc, ◌+◌, List, [], ◌∷◌, ◌++◌, map, Bool, true, false, IsTrue, refl, sym, ◌∙◌, ap, subst, slice_index_or, append-nil}
use Rattle.std.specs.List.{AllByRecursion, list_all}
use Rattle.std.proofs.lemmas.Bool.{and_parts, false≢true}
use Rattle.plain_laws.proofs.Every.{each-append, all-parts}
use Rattle.plain_laws.proofs.Lists.{map-append}
use Rattle.calculus.specs.declared.sign.Sign.{Sign}
use Rattle.calculus.specs.declared.sign.Side.TheVariants.{Left, Right}
use Rattle.calculus.specs.declared.setting.Logic.{Logic}
use Rattle.calculus.specs.declared.setting.Domains.{Domains}
use Rattle.calculus.specs.declared.kind.Shape.{Shape}
use Rattle.calculus.specs.declared.kind.Shape.TheVariants.{Gamma}
use Rattle.calculus.specs.declared.kind.ModalPart.TheVariants.{Pi}
use Rattle.calculus.specs.Syntax.{Term, Terms, var, fun, eigen, spare, no_terms, more_terms, Formula, Symbol, Problem}
use Rattle.calculus.specs.Ground.{GroundTerm, GroundMark, Value, g_eigen, common, g_fun, g_new_mark, more_g_terms, term, steps, marks_list, values_list, values_tree}
use Rattle.calculus.specs.Kinds.{shape_of, modal_of}
use Rattle.calculus.specs.Positions.{size, Node, node}
use Rattle.calculus.specs.Skolem.{at_root, label_of, is_admitted_value, is_admitted_mark}
use Rattle.calculus.specs.Lists.{values_list-values_tree}
use Rattle.calculus.specs.Instances.{ground_of, grounds_of, Spot, down_by, spot_inside, after_string, after_character, Share, literal_share, reaching, with_side, with_string, with_character, with_term, both, Gives, Shaped, by_plain, by_nu, by_pi, is_literal, by_only, by_left, by_right, by_both, by_gamma, by_delta}
use Rattle.calculus.specs.Tableaux.{has_unbounded_strings}
use Rattle.calculus.proofs.SpotLaws.{is_gamma, home-here, mark-proper, gamma-no_pi, NotBoth}
use Rattle.string_theory.proofs.Folding.{PiStep, Names, has_step, has_eigen, folded, contexts_along, contexts_of, term_by, terms_by, value_by, values_by, new_label, new_literal, new_gamma, new_taken, new_spot}
use Rattle.string_theory.proofs.StepNames.{steps_of, steps_in, eigens_of, eigens_in}
use Rattle.string_theory.proofs.FoldingLaws.{always-step}
use Rattle.string_theory.proofs.PlaceLaws.{is_literal_shape, way-only, way-first, way-second}
use Rattle.string_theory.proofs.SpotChanges.{Placed, Between, placed-plain, placed-nu, placed-pi, IsFixed, new_string, string-change, character-change, values-change, contexts-here, between-component, between-delta, between-gamma, pi-half, taken-more}

-- ---- terms

index-change : (h : GroundTerm → GroundTerm) (d : GroundTerm) → h d ≡ d → (env : List GroundTerm) (k : ℕ) → slice_index_or (map h env) k d ≡ h (slice_index_or env k d)
index-change h d e [] k = sym e
index-change h d e (t ∷ env) zero = refl
index-change h d e (t ∷ env) (suc k) = index-change h d e env k

mutual
  ground-change : (P : Problem) (K : Names) (f : GroundMark → GroundMark) (env : List GroundTerm) (t : Term) → ground_of (map (term_by P K f) env) t ≡ term_by P K f (ground_of env t)
  ground-change P K f env (var k) = index-change (term_by P K f) (common 0) refl env k
  ground-change P K f env (fun g ts) = ap (g_fun g) (grounds-change P K f env ts)
  ground-change P K f env (eigen n) = refl
  ground-change P K f env (spare n) = refl

  grounds-change : (P : Problem) (K : Names) (f : GroundMark → GroundMark) (env : List GroundTerm) (ts : Terms) → grounds_of (map (term_by P K f) env) ts ≡ terms_by P K f (grounds_of env ts)
  grounds-change P K f env no_terms = refl
  grounds-change P K f env (more_terms t ts) = λ i. more_g_terms (ground-change P K f env t i) (grounds-change P K f env ts i)

-- ---- what changes

-- each value of the second list is the change of that of the first, at some label
abbrev pub AreChanged : Problem → Names → (GroundMark → GroundMark) → List Value → List Value → Type 0
AreChanged P K f [] [] = Unit {0}
AreChanged P K f (v ∷ vs) (w ∷ ws) = ((u : List GroundMark) × (w ≡ value_by P K f u v)) × AreChanged P K f vs ws
AreChanged P K f _ _ = ⊥

changed-append : (P : Problem) (K : Names) (f : GroundMark → GroundMark) (vs ws xs ys : List Value) → AreChanged P K f vs ws → AreChanged P K f xs ys → AreChanged P K f (vs ++ xs) (ws ++ ys)
changed-append P K f [] [] xs ys h k = k
changed-append P K f [] (w ∷ ws) xs ys h k = absurd h
changed-append P K f (v ∷ vs) [] xs ys h k = absurd h
changed-append P K f (v ∷ vs) (w ∷ ws) xs ys h k = (h.0, changed-append P K f vs ws xs ys h.1 k)

-- a share that is the change of x
pub record Change (P : Problem) (K : Names) (f : GroundMark → GroundMark) (G : Share → Type 0) (x : Share) : Type 0 where
  pub share : Share
  pub given : G share
  pub values : AreChanged P K f x.values share.values
  pub literals : share.literals ≡ map (new_literal P K f) x.literals
  pub gammas : share.gammas ≡ map (new_gamma P K f) x.gammas
  pub nus : share.nus ≡ x.nus
  pub pis : share.pis ≡ x.pis

-- the home of the changed name is what is left of its home
abbrev pub HomeIsKept : Problem → Names → (GroundMark → GroundMark) → GroundTerm → Type 0
HomeIsKept P K f (g_eigen p vs) = label_of P p (values_list (values_by P K f (contexts_of P p (values_list vs)) vs)) ≡ folded K f [] (label_of P p (values_list vs))
HomeIsKept P K f _ = Unit {0}

abbrev pub MarkIsAdmitted : Problem → PiStep → Type 0
MarkIsAdmitted P e = IsTrue (is_admitted_mark P e.mark)

abbrev pub is_known : Names → PiStep → Bool
is_known K e = has_step K e.before e.mark

pub record Setup (P : Problem) (K : Names) (f : GroundMark → GroundMark) : Type 0 where
  pub fixed : IsFixed P K f
  pub free : has_unbounded_strings P.setting.logic ≡ true

no_gamma_pi : (l : Logic) (s : Sign) (g : Formula) → modal_of l s g ≡ Pi → is_gamma (shape_of s g) ≡ false
no_gamma_pi l s g e = by (shape_of s g) (subst (NotBoth (shape_of s g)) e (gamma-no_pi l s g))
  where
    by : (h : Shape) → NotBoth h Pi → is_gamma h ≡ false
    by Gamma x = absurd (false≢true x)
    by _ x = refl

abbrev pub Found : (P : Problem) (K : Names) (f : GroundMark → GroundMark) → (Share → Type 0) → Share → List GroundTerm → List PiStep → Type 0
Found P K f G x ts es = Change P K f G x × AllByRecursion (HomeIsKept P K f) ts × AllByRecursion (MarkIsAdmitted P) es

-- the home of an eigenvariable that is made here
home-kept : (P : Problem) (K : Names) (f : GroundMark → GroundMark) (before : List Node) (us : List (List GroundMark)) (d : Spot) (s : Sign) (g : Formula) → Between P K f before us d s g (modal_of P.setting.logic s g) → is_gamma (shape_of s g) ≡ false → HomeIsKept P K f (g_eigen d.position (values_tree d.taken))
home-kept P K f before us d s g b no_gamma =
    let here = contexts-here P before us d s g (modal_of P.setting.logic s g) refl no_gamma b.half (b.contexts []) in
    ap (λ vs. label_of P d.position (values_list vs)) (values-change P K f us d.position d.taken here)
    ∙ ap (label_of P d.position) (values_list-values_tree (new_taken P K f us d.taken))
    ∙ home-here P before (new_spot P K f us d) s g b.moved no_gamma
    ∙ ap (folded K f []) (sym (home-here P before d s g b.half no_gamma))
    ∙ ap (λ vs. folded K f [] (label_of P d.position vs)) (sym (values_list-values_tree d.taken))

-- the eigenvariable changes into that of the changed place
eigen-change : (P : Problem) (K : Names) (f : GroundMark → GroundMark) (us : List (List GroundMark)) (p : ℕ) (vs : List Value) → IsTrue (has_eigen K (g_eigen p (values_tree vs))) → contexts_of P p vs ≡ us → term_by P K f (g_eigen p (values_tree vs)) ≡ g_eigen p (values_tree (new_taken P K f us vs))
eigen-change P K f us p vs h here = rw h (ap (g_eigen p) (values-change P K f us p vs here))

-- a problem of these parts
abbrev pub problem_of : Logic → Domains → Formula → List Symbol → Problem
problem_of l D A S = record { setting = record { logic = l; domains = D }; formula = A; symbols = S }

mutual
  pub gives-change : (l : Logic) (D : Domains) (A : Formula) (S : List Symbol) (K : Names) (f : GroundMark → GroundMark) → Setup (problem_of l D A S) K f → (before : List Node) (us : List (List GroundMark)) (c : Spot) (s : Sign) (g : Formula) (x : Share) (d : Gives l c s g x) → Placed (problem_of l D A S) K f before us c s g → IsTrue (list_all (is_admitted_value (problem_of l D A S)) x.values) → IsTrue (list_all (is_known K) (steps_of d)) → IsTrue (list_all (has_eigen K) (eigens_of d)) → Found (problem_of l D A S) K f (Gives l (new_spot (problem_of l D A S) K f us c) s g) x (eigens_of d) (steps_of d)
  gives-change l D A S K f st before us c s g x (by_plain e d) h good marks names =
      let P : Problem = problem_of l D A S in
      let r = shaped-change l D A S K f st before us c s g x d (subst (Between P K f before us c s g) (sym e) (placed-plain P K f before us c s g h)) good marks names in
      let y = r.0 in
      (record { share = y.share; given = by_plain e y.given; values = y.values; literals = y.literals; gammas = y.gammas; nus = y.nus; pis = y.pis }, r.1, r.2)
  gives-change l D A S K f st before us c s g x (by_nu {x = z} w e q d) h good marks names =
      let P : Problem = problem_of l D A S in
      let parts = and_parts (is_admitted_value P (steps w)) (list_all (is_admitted_value P) z.values) good in
      let v = new_string K f c w in
      let r = shaped-change l D A S K f st before (us ++ c.label ∷ []) (after_string l w c) s g z d (subst (Between P K f before (us ++ c.label ∷ []) (after_string l w c) s g) (sym e) (placed-nu P K f before us c s g w st.free q parts.0 h)) parts.1 marks names in
      let y = r.0 in
      let given = subst (λ (k : Spot). Shaped l k s g y.share) (sym (string-change P K f us c w st.free h.as_many)) y.given in
      (record { share = with_string v y.share; given = by_nu v e (always-step l st.free (folded K f [] c.label) (marks_list v)) given; values = ((c.label, refl), y.values); literals = y.literals; gammas = y.gammas; nus = ap (λ n. suc n) y.nus; pis = y.pis }, r.1, r.2)
  gives-change l D A S K f st before us c s g x (by_pi {x = z} e d) h good marks names =
      let P : Problem = problem_of l D A S in
      let m = g_new_mark c.position (values_tree c.taken) in
      let known = and_parts (has_step K c.label m) (list_all (is_known K) (steps_in d)) marks in
      let here = contexts-here P before us (after_character l c) s g Pi e (no_gamma_pi l s g e) (pi-half P before c s g h.stands) (append-nil (contexts_along l before (at_root (c.taken ++ []))) ∙ h.contexts []) in
      let r = shaped-change l D A S K f st before us (after_character l c) s g z d (subst (Between P K f before us (after_character l c) s g) (sym e) (placed-pi P K f st.fixed before us c s g st.free here known.0 h)) good known.1 names in
      let y = r.0 in
      let given = subst (λ (k : Spot). Shaped l k s g y.share) (sym (character-change P K f st.fixed us c st.free here known.0)) y.given in
      (record { share = with_character y.share; given = by_pi e given; values = y.values; literals = y.literals; gammas = y.gammas; nus = y.nus; pis = ap (λ n. suc n) y.pis }, r.1, (mark-proper P before c s g h.stands e h.proper, r.2))

  pub shaped-change : (l : Logic) (D : Domains) (A : Formula) (S : List Symbol) (K : Names) (f : GroundMark → GroundMark) → Setup (problem_of l D A S) K f → (before : List Node) (us : List (List GroundMark)) (c : Spot) (s : Sign) (g : Formula) (x : Share) (d : Shaped l c s g x) → Between (problem_of l D A S) K f before us c s g (modal_of l s g) → IsTrue (list_all (is_admitted_value (problem_of l D A S)) x.values) → IsTrue (list_all (is_known K) (steps_in d)) → IsTrue (list_all (has_eigen K) (eigens_in d)) → Found (problem_of l D A S) K f (Shaped l (new_spot (problem_of l D A S) K f us c) s g) x (eigens_in d) (steps_in d)
  shaped-change l D A S K f st before us c s g x (is_literal {p = p} {ts = ts}) h good marks names =
      let P : Problem = problem_of l D A S in (
        record {
          share = literal_share (new_spot P K f us c) s p ts;
          given = is_literal;
          values = tt;
          literals = λ i. record { sign = s; symbol = p; args = grounds-change P K f c.env ts i; label = new_label K f c.label } ∷ [];
          gammas = refl;
          nus = refl;
          pis = refl;
        },
        tt,
        tt,
      )
  shaped-change l D A S K f st before us c s g x (by_only {x = z} {a = a} e k d) h good marks names =
      let P : Problem = problem_of l D A S in
      let n = node c.position s g in
      let place = between-component P K f before us c s g h (ap is_gamma e) 1 a.sign a.formula (way-only c.position s g a (ap is_literal_shape e) k) in
      let r = gives-change l D A S K f st (before ++ n ∷ []) us (down_by 1 c) a.sign a.formula z d place good marks names in
      let y = r.0 in
      (record { share = reaching c.position (new_taken P K f us c.taken) y.share; given = by_only e k y.given; values = y.values; literals = y.literals; gammas = y.gammas; nus = y.nus; pis = y.pis }, r.1, r.2)
  shaped-change l D A S K f st before us c s g x (by_left {x = z} {a = a} {b = b} e k d) h good marks names =
      let P : Problem = problem_of l D A S in
      let n = node c.position s g in
      let place = between-component P K f before us c s g h (ap is_gamma e) 1 a.sign a.formula (way-first c.position s g a b k) in
      let r = gives-change l D A S K f st (before ++ n ∷ []) us (down_by 1 c) a.sign a.formula z d place good marks names in
      let y = r.0 in
      (record { share = reaching c.position (new_taken P K f us c.taken) (with_side Left y.share); given = by_left e k y.given; values = y.values; literals = y.literals; gammas = y.gammas; nus = y.nus; pis = y.pis }, r.1, r.2)
  shaped-change l D A S K f st before us c s g x (by_right {x = z} {a = a} {b = b} e k d) h good marks names =
      let P : Problem = problem_of l D A S in
      let n = node c.position s g in
      let place = between-component P K f before us c s g h (ap is_gamma e) (suc (size a.formula)) b.sign b.formula (way-second c.position s g a b k) in
      let r = gives-change l D A S K f st (before ++ n ∷ []) us (down_by (suc (size a.formula)) c) b.sign b.formula z d place good marks names in
      let y = r.0 in
      (record { share = reaching c.position (new_taken P K f us c.taken) (with_side Right y.share); given = by_right e k y.given; values = y.values; literals = y.literals; gammas = y.gammas; nus = y.nus; pis = y.pis }, r.1, r.2)
  shaped-change l D A S K f st before us c s g x (by_both {x = v} {y = w} {a = a} {b = b} e k d d2) h good marks names =
      let P : Problem = problem_of l D A S in
      let n = node c.position s g in
      let goods = all-parts (is_admitted_value P) v.values w.values good in
      let knowns = all-parts (is_known K) (steps_of d) (steps_of d2) marks in
      let eigens = all-parts (has_eigen K) (eigens_of d) (eigens_of d2) names in
      let first_place = between-component P K f before us c s g h (ap is_gamma e) 1 a.sign a.formula (way-first c.position s g a b k) in
      let second_place = between-component P K f before us c s g h (ap is_gamma e) (suc (size a.formula)) b.sign b.formula (way-second c.position s g a b k) in
      let r = gives-change l D A S K f st (before ++ n ∷ []) us (down_by 1 c) a.sign a.formula v d first_place goods.0 knowns.0 eigens.0 in
      let q = gives-change l D A S K f st (before ++ n ∷ []) us (down_by (suc (size a.formula)) c) b.sign b.formula w d2 second_place goods.1 knowns.1 eigens.1 in
      let y = r.0 in
      let z = q.0 in (
        record {
          share = reaching c.position (new_taken P K f us c.taken) (both y.share z.share);
          given = by_both e k y.given z.given;
          values = changed-append P K f v.values y.share.values w.values z.share.values y.values z.values;
          literals = (λ i. y.literals i ++ z.literals i) ∙ sym (map-append (new_literal P K f) v.literals w.literals);
          gammas = (λ i. y.gammas i ++ z.gammas i) ∙ sym (map-append (new_gamma P K f) v.gammas w.gammas);
          nus = λ i. y.nus i + z.nus i;
          pis = λ i. y.pis i + z.pis i;
        },
        each-append (HomeIsKept P K f) (eigens_of d) (eigens_of d2) r.1 q.1,
        each-append (MarkIsAdmitted P) (steps_of d) (steps_of d2) r.2 q.2,
      )
  shaped-change l D A S K f st before us c s g x (by_gamma {x = z} {a = a} t e k d) h good marks names =
      let P : Problem = problem_of l D A S in
      let n = node c.position s g in
      let parts = and_parts (is_admitted_value P (term t)) (list_all (is_admitted_value P) z.values) good in
      let inside = spot_inside t (c.taken ++ term t ∷ []) c in
      let place = between-gamma P K f before us c s g h e t a.sign a.formula parts.0 (way-only c.position s g a (ap is_literal_shape e) k) in
      let r = gives-change l D A S K f st (before ++ n ∷ []) (us ++ [] ∷ []) inside a.sign a.formula z d place parts.1 marks names in
      let y = r.0 in
      let there : spot_inside (term_by P K f t) (new_taken P K f us c.taken ++ term (term_by P K f t) ∷ []) (new_spot P K f us c) ≡ new_spot P K f (us ++ [] ∷ []) inside =
      λ i. record { position = c.position + 1; label = folded K f [] c.label; taken = sym (taken-more P K f us c.taken [] (term t) h.as_many) i; env = term_by P K f t ∷ map (term_by P K f) c.env } in (
        record {
          share = reaching c.position (new_taken P K f us c.taken ++ term (term_by P K f t) ∷ []) (with_term (term_by P K f t) (folded K f [] c.label) y.share);
          given = by_gamma (term_by P K f t) e k (subst (λ (j : Spot). Gives l j a.sign a.formula y.share) (sym there) y.given);
          values = (([], refl), y.values);
          literals = y.literals;
          gammas = ap (λ gs. record { term = term_by P K f t; label = folded K f [] c.label } ∷ gs) y.gammas;
          nus = y.nus;
          pis = y.pis;
        },
        r.1,
        r.2,
      )
  shaped-change l D A S K f st before us c s g x (by_delta {x = z} {a = a} e k d) h good marks names =
      let P : Problem = problem_of l D A S in
      let n = node c.position s g in
      let no_gamma : is_gamma (shape_of s g) ≡ false = ap is_gamma e in
      let name = g_eigen c.position (values_tree c.taken) in
      let known = and_parts (has_eigen K name) (list_all (has_eigen K) (eigens_of d)) names in
      let inside = spot_inside name c.taken c in
      let here = contexts-here P before us c s g (modal_of l s g) refl no_gamma h.half (h.contexts []) in
      let place = between-delta P K f before us c s g h e name a.sign a.formula (way-only c.position s g a (ap is_literal_shape e) k) in
      let r = gives-change l D A S K f st (before ++ n ∷ []) us inside a.sign a.formula z d place good marks known.1 in
      let y = r.0 in
      let there : spot_inside (g_eigen c.position (values_tree (new_taken P K f us c.taken))) (new_taken P K f us c.taken) (new_spot P K f us c) ≡ new_spot P K f us inside =
      λ i. record { position = c.position + 1; label = folded K f [] c.label; taken = new_taken P K f us c.taken; env = sym (eigen-change P K f us c.position c.taken known.0 here) i ∷ map (term_by P K f) c.env } in (
        record {
          share = reaching c.position (new_taken P K f us c.taken) y.share;
          given = by_delta e k (subst (λ (j : Spot). Gives l j a.sign a.formula y.share) (sym there) y.given);
          values = y.values;
          literals = y.literals;
          gammas = y.gammas;
          nus = y.nus;
          pis = y.pis;
        },
        (home-kept P K f before us c s g h no_gamma, r.1),
        r.2,
      )
