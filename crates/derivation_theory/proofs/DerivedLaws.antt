-- A problem that has a derivation has instances that span, so a closed tableau.
use Rattle.std.proofs.Common.{◌≡◌, ℕ, zero, suc, List, [], ◌∷◌, ◌++◌, map, length, true, false, ◌&&◌, ◌||◌, Option, Some, None, Ok, Err, IsTrue, refl, sym, ◌∙◌, ap, subst, inl, inr, slice_get, slice_index_or, append-nil, append_assoc}
use Rattle.std.specs.List.{list_all}
use Rattle.std.proofs.lemmas.Bool.{and_parts, and_from, or_parts, cases_Bool, false≢true, not-true}
use Rattle.calculus.specs.declared.sign.Sign.{Sign}
use Rattle.calculus.specs.declared.sign.Sign.TheVariants.{T, F}
use Rattle.calculus.specs.declared.setting.Logic.{Logic}
use Rattle.calculus.specs.declared.setting.Logic.TheVariants.{Intuitionistic}
use Rattle.calculus.specs.declared.kind.Shape.{Shape}
use Rattle.calculus.specs.declared.kind.Shape.TheVariants.{Literal}
use Rattle.calculus.specs.declared.kind.ModalPart.TheVariants.{Plain, Pi}
use Rattle.calculus.specs.declared.fault.StepFault.TheVariants.{NoConnection}
use Rattle.calculus.specs.Syntax.{Symbol, Term, Terms, var, fun, eigen, spare, no_terms, more_terms, arity_of, Formula, atom, neg, conj, disj, imp, all, ex, box, dia, Problem}
use Rattle.calculus.specs.Ground.{Marks, g_new_mark, steps, marks_list, values_tree, GroundTerm, GroundTerms, GroundMark, GroundLiteral, g_fun, g_spare_mark, common, own, more_g_terms, marks_tree}
use Rattle.calculus.specs.Equality.{mark_eq, sign_eq, formula_eq, list_eq}
use Rattle.calculus.specs.Kinds.{shape_of, modal_of}
use Rattle.calculus.specs.Problems.{is_problem, term_fits_in, terms_fit_in, formula_fits}
use Rattle.calculus.specs.Skolem.{has_function, is_admitted_mark, is_admitted_value}
use Rattle.calculus.specs.Labels.{is_prefix, steps_to, nu_label, pi_label}
use Rattle.calculus.specs.Lists.{marks_list-marks_tree}
use Rattle.calculus.specs.Substitution.{any_leaf_in}
use Rattle.calculus.specs.Tableaux.{are_complementary, HasClosed}
use Rattle.calculus.specs.Instances.{Spot, after_string, after_character, with_string, with_character, Share, by_plain, by_nu, by_pi, is_literal, literal_share, ground_of, grounds_of, ClauseInstance, clause_instance}
use Rattle.calculus.specs.Derivations.{Mark, new_mark, Label, character_eq, Home, anywhere, home_at, EigenName, SpareName, Names, Entry, Sequent, ModalArg, to, by_new, TermArg, no_term, Step, apply_to, close, Derivation}
use Rattle.calculus.specs.DerivationText.{term_arg_is_written, modal_is_written, step_is_written, is_printable}
use Rattle.calculus.specs.Text.{is_number}
use Rattle.calculus.specs.Judgement.{accepted}
use Rattle.calculus.specs.VersionJudgement.{IsVersionJudgement}
use Rattle.calculus.specs.Calculus.{Children, closed, one, two, eigen_named, spare_named, holds_character, is_in_home, is_eigen, character_occurs, eigen_occurs, modal_fits, term_fits, has_step, label_after, is_reachable, character_is_new, eigen_is_new, children_of, conditions_of_use, is_atom, connects, entry_of, use_entry, close_branch, apply, Closes, leaf, single, fork, Derives}
use Rattle.calculus.proofs.SoundnessLaws.{printable-plain, entry-is, written-rest}
use Rattle.calculus.proofs.EqualityLaws.{mark_eq-tells, sign_eq-tells, formula_eq-tells, list_eq-tells, character_eq-tells, grounds_eq-tells, label_eq-tells, nat_eq-tells}
use Rattle.calculus.proofs.InstanceLaws.{root-stands}
use Rattle.calculus.proofs.SpotLaws.{proper-marks, mark-proper}
use Rattle.std.proofs.lemmas.List.Folds.{list_all-append}
use Rattle.plain_laws.proofs.Every.{all-append}
use Rattle.calculus.proofs.Interpretations.{entry-without}
use Rattle.calculus.proofs.SequentLaws.{AreMet, are_met, met-children}
use Rattle.calculus.proofs.SoundnessLaws.{fits-problem}
use Rattle.matrix_theory.specs.Spanning.{IsSpanning}
use Rattle.string_theory.proofs.StringLaws.{closed_where_instances_span}
use Rattle.derivation_theory.proofs.Places.{Place, root_place, IsDrawn, OneIn, AreRefuted}
use Rattle.derivation_theory.proofs.Meanings.{Meaning, label_means, is_intuitionistic, MeansLabel, label_here, label_later, label_end, term_means, terms_mean, Says, says_atom, says_neg, says_conj, says_disj, says_imp, says_all, says_ex, says_box, says_dia, HasHome, HasSpareHome, IsProper, StandsAt, StandAt}
use Rattle.derivation_theory.proofs.RefutedLaws.{refuted-one, refuted-spans}
use Rattle.derivation_theory.proofs.TermLaws.{prefix-means}
use Rattle.derivation_theory.proofs.DrawnLaws.{IsOne, drawn-one}
use Rattle.derivation_theory.proofs.BranchLaws.{same-modal, Kind, literal_kind, only_kind, alpha_kind, beta_kind, gamma_kind, delta_kind, kind_of}
use Rattle.derivation_theory.proofs.NewNameLaws.{own-home, admitted-label, label-stays, with_mark, mark-itself, with_mark-proper, with_mark-stands, with_mark-stand}
use Rattle.derivation_theory.proofs.StepLaws.{means-join, pi-means, stand-join, entry, reach-modal, ready, Claim, Follows, shape-follows}

atoms-plain : (l : Logic) → is_intuitionistic l ≡ false → (s : Sign) (p : ℕ) (us : Terms) → modal_of l s (atom p us) ≡ Plain
atoms-plain Intuitionistic h s p us = absurd (false≢true (sym h))
atoms-plain _ h s p us = refl

-- ---- places of entries

abbrev OnSome : Problem → Meaning → Place → Option Entry → Type 0
OnSome P r p None = Unit {0}
OnSome P r p (Some y) = StandsAt P r y p

one-at : (P : Problem) (r : Meaning) (s : Sequent) (ps : List Place) → StandAt P r s ps → (k : ℕ) (e : Entry) → slice_get s k ≡ Some e → (p : Place) × IsOne p ps × StandsAt P r e p
one-at P r [] ps h k e g = cc
one-at P r (x ∷ s) [] h k e g = absurd h
one-at P r (x ∷ s) (p ∷ ps) h zero e g = (p, inl refl, subst (OnSome P r p) g h.0)
one-at P r (x ∷ s) (p ∷ ps) h (suc k) e g = let q = one-at P r s ps h.1 k e g in (q.0, inr q.1, q.2)

-- ---- an axiom

atom-from : (f : Formula) → is_atom f ≡ true → (p : ℕ) × (us : Terms) × (f ≡ atom p us)
atom-from (atom p us) h = (p, us, refl)
atom-from f h = absurd (false≢true h)

atom-says : (r : Meaning) {env : List GroundTerm} {f : Formula} (p : ℕ) (us : Terms) → Says r 0 env f (atom p us) → (ts : Terms) × (f ≡ atom p ts) × (grounds_of env ts ≡ terms_mean r [] us)
atom-says r p us (says_atom {ts = ts} h) = (ts, refl, h [] refl)

-- a literal drawn from a place
abbrev Drawn : Problem → Place → GroundLiteral → Type 0
Drawn P p k = (y : Share) × IsDrawn P p y × (y.literals ≡ k ∷ [])

abbrev ground : Sign → ℕ → GroundTerms → List GroundMark → GroundLiteral
ground s n us w = record { sign = s; symbol = n; args = us; label = w }

apart-pair : (n : ℕ) (us : GroundTerms) (w : List GroundMark) → IsTrue (are_complementary (ground T n us w) (ground F n us w))
apart-pair n us w = and_from _ _ refl (and_from _ _ (and_from _ _ ((nat_eq-tells n n).1 refl) ((grounds_eq-tells us us).1 refl)) ((label_eq-tells w w).1 refl))

pair-refuted : (P : Problem) (ps : List Place) (n : ℕ) (us : GroundTerms) (w : List GroundMark) (p q : Place) → IsOne p ps → IsOne q ps → Drawn P p (ground T n us w) → Drawn P q (ground F n us w) → AreRefuted P ps
pair-refuted P ps n us w p q o u x y =
    record {
      shares = x.0 ∷ y.0 ∷ [];
      drawn = (drawn-one P p ps o x.0 x.1, (drawn-one P q ps u y.0 y.1, tt));
      refuted = λ has apart hit. apart (ground T n us w) (ground F n us w) (only (λ k. IsTrue (has k)) (ground T n us w) (subst (OneIn (λ k. IsTrue (has k))) x.2 hit.0)) (only (λ k. IsTrue (has k)) (ground F n us w) (subst (OneIn (λ k. IsTrue (has k))) y.2 hit.1.0)) (apart-pair n us w);
    }
  where
    only : (S : GroundLiteral → Type 0) (k : GroundLiteral) → OneIn S (k ∷ []) → S k
    only S k (inl h) = h
    only S k (inr h) = absurd h

-- the place of an atom
as-atom : (P : Problem) (p : Place) (s : Sign) (n : ℕ) (ts : Terms) → p.sign ≡ s → p.formula ≡ atom n ts → (k : GroundLiteral) → Drawn P (record { spot = p.spot; sign = s; formula = atom n ts }) k → Drawn P p k
as-atom P p s n ts e h k d = let same : p ≡ record { spot = p.spot; sign = s; formula = atom n ts } = λ i. record { spot = p.spot; sign = e i; formula = h i } in (d.0, subst (λ q. IsDrawn P q d.0) (sym same) d.1, d.2)

plain-drawn : (P : Problem) → is_intuitionistic P.setting.logic ≡ false → (c : Spot) (s : Sign) (n : ℕ) (ts : Terms) → Drawn P (record { spot = c; sign = s; formula = atom n ts }) (ground s n (grounds_of c.env ts) c.label)
plain-drawn P l c s n ts = (literal_share c s n ts, record { given = by_plain (atoms-plain P.setting.logic l s n ts) is_literal; admitted = refl; allowed = refl }, refl)

ground-rest : (w v : List GroundMark) → IsTrue (is_prefix mark_eq w v) → (u : List GroundMark) × (w ++ u ≡ v)
ground-rest [] v h = (v, refl)
ground-rest (c ∷ w) [] h = absurd (false≢true h)
ground-rest (c ∷ w) (d ∷ v) h = let e = and_parts (mark_eq c d) (is_prefix mark_eq w v) h in let r = ground-rest w v e.1 in (r.0, λ i. ((mark_eq-tells c d).0 e.0 i) ∷ (r.1 i))

prefix-self : (w x : List GroundMark) → IsTrue (is_prefix mark_eq w (w ++ x))
prefix-self [] x = refl
prefix-self (c ∷ w) x = and_from (mark_eq c c) (is_prefix mark_eq w (w ++ x)) ((mark_eq-tells c c).1 refl) (prefix-self w x)

prefix-same : (w v : List GroundMark) → w ≡ v → IsTrue (is_prefix mark_eq w v)
prefix-same w v e = subst (λ z. IsTrue (is_prefix mark_eq w z)) (append-nil w ∙ e) (prefix-self w [])

prefix-chain : (w v x : List GroundMark) → IsTrue (is_prefix mark_eq w v) → IsTrue (is_prefix mark_eq v x) → IsTrue (is_prefix mark_eq w x)
prefix-chain w v x h k = let a = ground-rest w v h in let b = ground-rest v x k in subst (λ z. IsTrue (is_prefix mark_eq w z)) (sym (append_assoc w a.0 b.0) ∙ ap (λ z. z ++ b.0) a.1 ∙ b.1) (prefix-self w (a.0 ++ b.0))

given-drawn : (P : Problem) → P.setting.logic ≡ Intuitionistic → (c : Spot) (n : ℕ) (ts : Terms) (v : List GroundMark) → IsTrue (is_prefix mark_eq c.label v) → IsTrue (list_all (is_admitted_mark P) v) → Drawn P (record { spot = c; sign = T; formula = atom n ts }) (ground T n (grounds_of c.env ts) v)
given-drawn P e c n ts v h good =
    let l = P.setting.logic in
    let u = ground-rest c.label v h in
    let x : Marks = marks_tree u.0 in
    let there : nu_label l c.label (marks_list x) ≡ v = ap (λ z. nu_label z c.label (marks_list x)) e ∙ ap (λ z. c.label ++ z) (marks_list-marks_tree u.0) ∙ u.1 in
    let step : IsTrue (steps_to mark_eq l c.label (nu_label l c.label (marks_list x))) = (λ i. steps_to mark_eq (e i) c.label (there i)) ∙ h in
    let fine : IsTrue (is_admitted_value P (steps x)) = proper-marks P x ∙ ap (list_all (is_admitted_mark P)) (marks_list-marks_tree u.0) ∙ (and_parts (list_all (is_admitted_mark P) c.label) (list_all (is_admitted_mark P) u.0) (sym (list_all-append (is_admitted_mark P) c.label u.0) ∙ ap (list_all (is_admitted_mark P)) u.1 ∙ good)).1 in
    (with_string x (literal_share (after_string l x c) T n ts), record { given = by_nu x (ap (λ z. modal_of z T (atom n ts)) e) step is_literal; admitted = and_from (is_admitted_value P (steps x)) true fine refl; allowed = refl }, λ i. ground T n (grounds_of c.env ts) (there i) ∷ [])

abbrev own-mark : Spot → GroundMark
own-mark c = g_new_mark c.position (values_tree c.taken)

shown-drawn : (P : Problem) → P.setting.logic ≡ Intuitionistic → (c : Spot) (n : ℕ) (ts : Terms) → Drawn P (record { spot = c; sign = F; formula = atom n ts }) (ground F n (grounds_of c.env ts) (c.label ++ own-mark c ∷ []))
shown-drawn P e c n ts = (with_character (literal_share (after_character P.setting.logic c) F n ts), record { given = by_pi (ap (λ z. modal_of z F (atom n ts)) e) is_literal; admitted = refl; allowed = refl }, λ i. ground F n (grounds_of c.env ts) (pi_label (e i) c.label (own-mark c)) ∷ [])

not-both : (s : Sign) → s ≡ T → s ≡ F → ⊥
not-both s e h = let k : T ≡ F = sym e ∙ h in false≢true (ap (λ z. sign_eq z T) (sym k))

not-int : (l : Logic) → l ≡ Intuitionistic → is_intuitionistic l ≡ false → ⊥
not-int l e h = false≢true (sym h ∙ ap is_intuitionistic e)

is-int : (l : Logic) → is_intuitionistic l ≡ true → l ≡ Intuitionistic
is-int Intuitionistic h = refl
is-int _ h = absurd (false≢true h)

plain-label : (P : Problem) (p : Place) (w : List GroundMark) → is_intuitionistic P.setting.logic ≡ false → MeansLabel P p w → p.spot.label ≡ w
plain-label P p w l (label_here e) = e
plain-label P p w l (label_later n ts i s f h) = absurd (not-int P.setting.logic i l)
plain-label P p w l (label_end n ts i s f h) = absurd (not-int P.setting.logic i l)

given-label : (P : Problem) (p : Place) (w : List GroundMark) → p.sign ≡ T → MeansLabel P p w → IsTrue (is_prefix mark_eq p.spot.label w)
given-label P p w t (label_here e) = prefix-same p.spot.label w e
given-label P p w t (label_later n ts i s f h) = h
given-label P p w t (label_end n ts i s f h) = absurd (not-both p.sign t s)

shown-label : (P : Problem) (p : Place) (w : List GroundMark) → p.sign ≡ F → IsTrue (is_admitted_mark P (own-mark p.spot)) → IsTrue (list_all (is_admitted_mark P) w) → MeansLabel P p w → IsTrue (is_prefix mark_eq w (p.spot.label ++ own-mark p.spot ∷ [])) × IsTrue (list_all (is_admitted_mark P) (p.spot.label ++ own-mark p.spot ∷ []))
shown-label P p w t k good (label_here e) = (subst (λ z. IsTrue (is_prefix mark_eq z (p.spot.label ++ own-mark p.spot ∷ []))) e (prefix-self p.spot.label (own-mark p.spot ∷ [])), all-append (is_admitted_mark P) p.spot.label (own-mark p.spot ∷ []) (ap (list_all (is_admitted_mark P)) e ∙ good) (and_from (is_admitted_mark P (own-mark p.spot)) true k refl))
shown-label P p w t k good (label_later n ts i s f h) = absurd (not-both p.sign s t)
shown-label P p w t k good (label_end n ts i s f h) = (prefix-same w (p.spot.label ++ own-mark p.spot ∷ []) (sym h), ap (list_all (is_admitted_mark P)) h ∙ good)

atoms-refuted : (P : Problem) (names : Names) (r : Meaning) → IsProper P names r → (ps : List Place) (n : ℕ) (us : Terms) (w : Label) (p q : Place) → IsOne p ps → IsOne q ps → StandsAt P r (entry T (atom n us) w) p → StandsAt P r (entry F (atom n us) w) q → AreRefuted P ps
atoms-refuted P names r ok ps n us w p q o u a b =
    let v = label_means r.marks w in
    let x = atom-says r n us a.says in
    let y = atom-says r n us b.says in
    elim (cases_Bool (is_intuitionistic P.setting.logic)) [
      | inr l ↦ pair-refuted P ps n (terms_mean r [] us) v p q o u
          (as-atom P p T n x.0 a.sign x.1 (ground T n (terms_mean r [] us) v) (subst (Drawn P (record { spot = p.spot; sign = T; formula = atom n x.0 })) (λ i. ground T n (x.2 i) (plain-label P p v l a.label i)) (plain-drawn P l p.spot T n x.0)))
          (as-atom P q F n y.0 b.sign y.1 (ground F n (terms_mean r [] us) v) (subst (Drawn P (record { spot = q.spot; sign = F; formula = atom n y.0 })) (λ i. ground F n (y.2 i) (plain-label P q v l b.label i)) (plain-drawn P l q.spot F n y.0)))
      | inl t ↦
          let e = is-int P.setting.logic t in
          let z = q.spot.label ++ own-mark q.spot ∷ [] in
          let pi : modal_of P.setting.logic q.sign q.formula ≡ Pi = λ i. modal_of (e i) (b.sign i) (y.1 i) in
          let end = shown-label P q v b.sign (mark-proper P b.before q.spot q.sign q.formula b.stands pi b.admitted) (admitted-label P r.marks ok.marks w) b.label in
          pair-refuted P ps n (terms_mean r [] us) z p q o u
          (as-atom P p T n x.0 a.sign x.1 (ground T n (terms_mean r [] us) z) (subst (Drawn P (record { spot = p.spot; sign = T; formula = atom n x.0 })) (λ i. ground T n (x.2 i) z) (given-drawn P e p.spot n x.0 z (prefix-chain p.spot.label v z (given-label P p v a.sign a.label) end.0) end.1)))
          (as-atom P q F n y.0 b.sign y.1 (ground F n (terms_mean r [] us) z) (subst (Drawn P (record { spot = q.spot; sign = F; formula = atom n y.0 })) (λ i. ground F n (y.2 i) z) (shown-drawn P e q.spot n y.0)))
    ]

connected-refuted : (P : Problem) (names : Names) (r : Meaning) → IsProper P names r → (ps : List Place) (a b : Entry) → connects a b ≡ true → (p q : Place) → IsOne p ps → IsOne q ps → StandsAt P r a p → StandsAt P r b q → AreRefuted P ps
connected-refuted P names r ok ps a b h p q o u left right =
    let e = and_parts (sign_eq a.sign T && sign_eq b.sign F && is_atom a.formula && formula_eq a.formula b.formula) (list_eq character_eq a.label b.label) h in
    let d = and_parts (sign_eq a.sign T && sign_eq b.sign F && is_atom a.formula) (formula_eq a.formula b.formula) e.0 in
    let c = and_parts (sign_eq a.sign T && sign_eq b.sign F) (is_atom a.formula) d.0 in
    let signs = and_parts (sign_eq a.sign T) (sign_eq b.sign F) c.0 in
    let k = atom-from a.formula c.1 in
    let formula : b.formula ≡ atom k.0 k.1 = sym ((formula_eq-tells a.formula b.formula).0 d.1) ∙ k.2 in
    let label : b.label ≡ a.label = sym ((list_eq-tells character_eq character_eq-tells a.label b.label).0 e.1) in
    let first : a ≡ entry T (atom k.0 k.1) a.label = λ i. entry ((sign_eq-tells a.sign T).0 signs.0 i) (k.2 i) a.label in
    let second : b ≡ entry F (atom k.0 k.1) a.label = λ i. entry ((sign_eq-tells b.sign F).0 signs.1 i) (formula i) (label i) in
    atoms-refuted P names r ok ps k.0 k.1 a.label p q o u (subst (λ z. StandsAt P r z p) first left) (subst (λ z. StandsAt P r z q) second right)

close-follows : (P : Problem) (names : Names) (r : Meaning) → IsProper P names r → (s : Sequent) (ps : List Place) → StandAt P r s ps → (m n : ℕ) (a b : Option Entry) → entry_of s m ≡ a → entry_of s n ≡ b → (c : Children) → close_branch a b ≡ Ok c → Follows P names ps c
close-follows P names r ok s ps stand m n None b at_a at_b c h = cc
close-follows P names r ok s ps stand m n (Some x) None at_a at_b c h = cc
close-follows P names r ok s ps stand m n (Some x) (Some y) at_a at_b c h = elim (cases_Bool (connects x y)) [
  | inl e ↦
      let left = entry-is s m x at_a in
      let right = entry-is s n y at_b in
      let p = one-at P r s ps stand left.0 x left.1 in
      let q = one-at P r s ps stand right.0 y right.1 in
      let done : Ok closed ≡ Ok c = rw e at h in
      let same : closed ≡ c = cc in
      subst (Follows P names ps) same (connected-refuted P names r ok ps x y e p.0 q.0 p.1 q.1 p.2 q.2)
  | inr e ↦ let no : Err NoConnection ≡ Ok c = rw e at h in cc
]

-- ---- a use

kind-shape : (r : Meaning) (env : List GroundTerm) (s : Sign) (f g : Formula) → Kind r env s f g → shape_of s f ≡ shape_of s g
kind-shape r env s f g (literal_kind p us e h k m) = h ∙ sym k
kind-shape r env s f g (only_kind t a b h k m n x) = h ∙ sym k
kind-shape r env s f g (alpha_kind t u a a2 b b2 h k m n x y) = h ∙ sym k
kind-shape r env s f g (beta_kind t u a a2 b b2 h k m n x y) = h ∙ sym k
kind-shape r env s f g (gamma_kind a b h k m n x) = h ∙ sym k
kind-shape r env s f g (delta_kind a b h k m n x) = h ∙ sym k

-- an atom has a step in intuitionistic logic alone, and its place stays
stays : (P : Problem) (names : Names) (r : Meaning) → IsProper P names r → (s : Sequent) (ps : List Place) → StandAt P r s ps → (p : Place) → IsOne p ps → (e : Entry) → StandsAt P r e p → Follows P names ps (one (s ++ e ∷ []))
stays P names r ok s ps stand p o e st claim = refuted-one P ps (p ∷ []) ((λ x d. (x, drawn-one P p ps o x d, refl)), tt) (claim r (ps ++ p ∷ []) ok (stand-join P r s (e ∷ []) ps (p ∷ []) stand (st, tt)))

atom-by : (P : Problem) (names : Names) (r : Meaning) → IsProper P names r → (s : Sequent) (ps : List Place) → StandAt P r s ps → (p : Place) → IsOne p ps → (n : ℕ) (us : Terms) (w : Label) → StandsAt P r (entry p.sign (atom n us) w) p → ((x : ℕ) → character_occurs names (new_mark x) s ≡ false → (holds_character (new_mark x) w || any_leaf_in (is_in_home names (new_mark x)) (atom n us)) ≡ false) → P.setting.logic ≡ Intuitionistic → (sg : Sign) → p.sign ≡ sg → (m : ModalArg) → modal_fits (modal_of Intuitionistic sg (atom n us)) m ≡ true → is_reachable P.setting.logic w m ≡ true → character_is_new names s m ≡ true → Follows P names ps (one (s ++ entry p.sign (atom n us) (label_after P.setting.logic w m) ∷ []))
atom-by P names r ok s ps stand p o n us w st outside e T sg (to v) fit reach new =
    let k = atom-says r n us st.says in
    let there : IsTrue (is_prefix character_eq w v) = (λ i. steps_to character_eq (sym e i) w v) ∙ reach in
    stays P names r ok s ps stand p o (entry p.sign (atom n us) v) (record { sign = refl; label = label_later n k.0 e sg k.1 (prefix-chain p.spot.label (label_means r.marks w) (label_means r.marks v) (given-label P p (label_means r.marks w) sg st.label) (prefix-means r.marks w v there)); says = st.says; before = st.before; stands = st.stands; admitted = st.admitted })
atom-by P names r ok s ps stand p o n us w st outside e F sg (by_new x) fit reach new = by st.label
  where
    by : MeansLabel P p (label_means r.marks w) → Follows P names ps (one (s ++ entry p.sign (atom n us) (pi_label P.setting.logic w (new_mark x)) ∷ []))
    by (label_here h) =
        let k = atom-says r n us st.says in
        let z = own-mark p.spot in
        let fresh = not-true (character_occurs names (new_mark x) s) new in
        let q = with_mark names (new_mark x) (z ∷ []) r in
        let now = with_mark-stands P names (new_mark x) (z ∷ []) r (entry p.sign (atom n us) w) p (outside x fresh) st in
        let pi : modal_of P.setting.logic p.sign p.formula ≡ Pi = λ i. modal_of (e i) (sg i) (k.1 i) in
        let same = label-stays (new_mark x) (z ∷ []) r.marks w (or_parts (holds_character (new_mark x) w) (any_leaf_in (is_in_home names (new_mark x)) (atom n us)) (outside x fresh)).0 in
        let there : p.spot.label ++ z ∷ [] ≡ label_means q.marks (pi_label P.setting.logic w (new_mark x)) = ap (λ y. y ++ z ∷ []) (h ∙ sym same) ∙ (λ i. pi_label (sym e i) (label_means q.marks w) z) ∙ sym (pi-means P.setting.logic q.marks w (new_mark x) z (mark-itself (new_mark x) (z ∷ []) r.marks)) in
        stays P names q (with_mark-proper P names (new_mark x) (z ∷ []) r (and_from (is_admitted_mark P z) true (mark-proper P st.before p.spot p.sign p.formula st.stands pi st.admitted) refl) (λ y. refl) ok) s ps (with_mark-stand P names (new_mark x) (z ∷ []) r s ps fresh stand) p o (entry p.sign (atom n us) (pi_label P.setting.logic w (new_mark x))) (record { sign = refl; label = label_end n k.0 e sg k.1 there; says = now.says; before = st.before; stands = st.stands; admitted = st.admitted })
    by (label_later m ts i t f h) = absurd (not-both p.sign t sg)
    by (label_end m ts i t f h) =
        let fresh = not-true (character_occurs names (new_mark x) s) new in
        let q = with_mark names (new_mark x) [] r in
        let now = with_mark-stands P names (new_mark x) [] r (entry p.sign (atom n us) w) p (outside x fresh) st in
        let same = label-stays (new_mark x) [] r.marks w (or_parts (holds_character (new_mark x) w) (any_leaf_in (is_in_home names (new_mark x)) (atom n us)) (outside x fresh)).0 in
        let there : label_means r.marks w ≡ label_means q.marks (pi_label P.setting.logic w (new_mark x)) = sym same ∙ sym (append-nil (label_means q.marks w)) ∙ ap (λ y. label_means q.marks w ++ y) (sym (append-nil (q.marks (new_mark x)) ∙ mark-itself (new_mark x) [] r.marks)) ∙ sym (means-join q.marks w (new_mark x ∷ [])) ∙ (λ j. label_means q.marks (pi_label (sym e j) w (new_mark x))) in
        stays P names q (with_mark-proper P names (new_mark x) [] r refl (λ y. absurd (not-int P.setting.logic e y)) ok) s ps (with_mark-stand P names (new_mark x) [] r s ps fresh stand) p o (entry p.sign (atom n us) (pi_label P.setting.logic w (new_mark x))) (record { sign = refl; label = label_end m ts e sg f (h ∙ there); says = now.says; before = st.before; stands = st.stands; admitted = st.admitted })
atom-by P names r ok s ps stand p o n us w st outside e sign sg m fit reach new = absurd (false≢true fit)

says-atom : (r : Meaning) (env : List GroundTerm) (n : ℕ) (ts : Terms) (g : Formula) → Says r 0 env (atom n ts) g → is_atom g ≡ true
says-atom r env n ts g (says_atom h) = refl

other-label : (P : Problem) (p : Place) (w : List GroundMark) (r : Meaning) (g : Formula) → Says r 0 p.spot.env p.formula g → is_atom g ≡ false → MeansLabel P p w → p.spot.label ≡ w
other-label P p w r g s h (label_here e) = e
other-label P p w r g s h (label_later n ts i t f k) = absurd (false≢true (sym h ∙ says-atom r p.spot.env n ts g (subst (λ z. Says r 0 p.spot.env z g) f s)))
other-label P p w r g s h (label_end n ts i t f k) = absurd (false≢true (sym h ∙ says-atom r p.spot.env n ts g (subst (λ z. Says r 0 p.spot.env z g) f s)))

at-other : (P : Problem) (names : Names) (r : Meaning) → IsProper P names r → (s : Sequent) (ps : List Place) → StandAt P r s ps → (p : Place) → IsOne p ps → (g : Formula) → is_atom g ≡ false → (w : Label) → StandsAt P r (entry p.sign g w) p → ((n : ℕ) → character_occurs names (new_mark n) s ≡ false → (holds_character (new_mark n) w || any_leaf_in (is_in_home names (new_mark n)) g) ≡ false) → ((n : ℕ) → eigen_occurs n s ≡ false → any_leaf_in (is_eigen n) g ≡ false) → (m : ModalArg) (t : TermArg) → term_arg_is_written P.symbols t ≡ true → AreMet (conditions_of_use P names s (entry p.sign g w) m t) → Follows P names ps (children_of P.setting.logic s (entry p.sign g w) m t)
at-other P names r ok s ps stand p o g other w st outside without m t written met =
    let l = P.setting.logic in
    let sg = p.sign in
    let f = p.formula in
    let v = label_after l w m in
    let fit = and_parts (modal_fits (modal_of l sg g) m && term_fits (shape_of sg g) t) (has_step (modal_of l sg g) (shape_of sg g)) met.0 in
    let fits = and_parts (modal_fits (modal_of l sg g) m) (term_fits (shape_of sg g) t) fit.0 in
    let new = and_parts (character_is_new names s m) (eigen_is_new s t) met.1.1.1.0 in
    let modal = same-modal l sg r st.says in
    let shape = kind-shape r p.spot.env sg f g (kind_of r sg st.says) in
    let here : p.spot.label ≡ label_means r.marks w = other-label P p (label_means r.marks w) r g st.says other st.label in
    let there = reach-modal P names s ps r ok stand p.spot sg f g w st here outside (modal_of l sg g) modal m fits.0 met.1.1.0 new.0 in
    let R = ready P names s ps p.spot sg f g v there t (subst (λ (z : Shape). term_fits z t ≡ true) (sym shape) fits.1) without new.1 met.1.1.1.1.0 met.1.1.1.1.1.0 written in
    shape-follows P names s ps p.spot sg f g other v t R o fits.1 fit.1 (kind_of R.reach.means sg R.reach.says)

at-atom : (P : Problem) (names : Names) (r : Meaning) → IsProper P names r → (s : Sequent) (ps : List Place) → StandAt P r s ps → (p : Place) → IsOne p ps → (n : ℕ) (us : Terms) (w : Label) → StandsAt P r (entry p.sign (atom n us) w) p → ((x : ℕ) → character_occurs names (new_mark x) s ≡ false → (holds_character (new_mark x) w || any_leaf_in (is_in_home names (new_mark x)) (atom n us)) ≡ false) → (m : ModalArg) (t : TermArg) → term_arg_is_written P.symbols t ≡ true → AreMet (conditions_of_use P names s (entry p.sign (atom n us) w) m t) → Follows P names ps (children_of P.setting.logic s (entry p.sign (atom n us) w) m t)
at-atom P names r ok s ps stand p o n us w st outside m no_term written met =
    let l = P.setting.logic in
    let fit = and_parts (modal_fits (modal_of l p.sign (atom n us)) m && true) (has_step (modal_of l p.sign (atom n us)) Literal) met.0 in
    let fits = and_parts (modal_fits (modal_of l p.sign (atom n us)) m) true fit.0 in
    let new = and_parts (character_is_new names s m) true met.1.1.1.0 in
    elim (cases_Bool (is_intuitionistic l)) [
      | inr k ↦ absurd (false≢true (sym (ap (λ z. has_step z Literal) (atoms-plain l k p.sign n us)) ∙ fit.1))
      | inl k ↦ atom-by P names r ok s ps stand p o n us w st outside (is-int l k) p.sign refl m (subst (λ z. modal_fits (modal_of z p.sign (atom n us)) m ≡ true) (is-int l k) fits.0) met.1.1.0 new.0
    ]
at-atom P names r ok s ps stand p o n us w st outside m t written met =
    let l = P.setting.logic in
    let fit = and_parts (modal_fits (modal_of l p.sign (atom n us)) m && false) (has_step (modal_of l p.sign (atom n us)) Literal) met.0 in
    absurd (false≢true (and_parts (modal_fits (modal_of l p.sign (atom n us)) m) false fit.0).1)

at-place : (P : Problem) (names : Names) (r : Meaning) → IsProper P names r → (s : Sequent) (ps : List Place) → StandAt P r s ps → (p : Place) → IsOne p ps → (g : Formula) (w : Label) → StandsAt P r (entry p.sign g w) p → ((n : ℕ) → character_occurs names (new_mark n) s ≡ false → (holds_character (new_mark n) w || any_leaf_in (is_in_home names (new_mark n)) g) ≡ false) → ((n : ℕ) → eigen_occurs n s ≡ false → any_leaf_in (is_eigen n) g ≡ false) → (m : ModalArg) (t : TermArg) → term_arg_is_written P.symbols t ≡ true → AreMet (conditions_of_use P names s (entry p.sign g w) m t) → Follows P names ps (children_of P.setting.logic s (entry p.sign g w) m t)
at-place P names r ok s ps stand p o (atom n us) w st outside without m t written met = at-atom P names r ok s ps stand p o n us w st outside m t written met
at-place P names r ok s ps stand p o g w st outside without m t written met = at-other P names r ok s ps stand p o g refl w st outside without m t written met

use-follows : (P : Problem) (names : Names) (r : Meaning) → IsProper P names r → (s : Sequent) (ps : List Place) → StandAt P r s ps → (n : ℕ) (o : Option Entry) → entry_of s n ≡ o → (m : ModalArg) (t : TermArg) → term_arg_is_written P.symbols t ≡ true → (c : Children) → use_entry P names s o m t ≡ Ok c → Follows P names ps c
use-follows P names r ok s ps stand n None at m t written c h = cc
use-follows P names r ok s ps stand n (Some e) at m t written c h =
    let l = P.setting.logic in
    let k = entry-is s n e at in
    let p = one-at P r s ps stand k.0 e k.1 in
    let sign : p.0.sign ≡ e.sign = p.2.sign in
    let met = are_met (conditions_of_use P names s e m t) (children_of l s e m t) c h in
    subst (Follows P names ps) (met-children (conditions_of_use P names s e m t) (children_of l s e m t) c h)
    (subst (λ z. Follows P names ps (children_of l s (entry z e.formula e.label) m t)) sign
    (at-place P names r ok s ps stand p.0 p.1 e.formula e.label (subst (λ z. StandsAt P r (entry z e.formula e.label) p.0) (sym sign) p.2)
    (λ x fresh. entry-without (λ (y : Entry). holds_character (new_mark x) y.label || any_leaf_in (is_in_home names (new_mark x)) y.formula) s k.0 e k.1 fresh)
    (λ x fresh. entry-without (λ (y : Entry). any_leaf_in (is_eigen x) y.formula) s k.0 e k.1 fresh)
    m t written (subst (λ z. AreMet (conditions_of_use P names s (entry z e.formula e.label) m t)) (sym sign) met)))

step-follows : (P : Problem) (names : Names) (r : Meaning) → IsProper P names r → (s : Sequent) (ps : List Place) → StandAt P r s ps → (x : Step) → step_is_written P.symbols x ≡ true → (c : Children) → apply P names s x ≡ Ok c → Follows P names ps c
step-follows P names r ok s ps stand (apply_to n m t) written c h =
    let parts = and_parts (is_number n && modal_is_written m) (term_arg_is_written P.symbols t) written in
    use-follows P names r ok s ps stand n (entry_of s n) refl m t parts.1 c h
step-follows P names r ok s ps stand (close m n) written c h = close-follows P names r ok s ps stand m n (entry_of s m) (entry_of s n) refl refl c h

-- ---- a derivation

pub closes-refuted : (P : Problem) (names : Names) → {s : Sequent} {xs rest : List Step} → Closes P names s xs rest → list_all (step_is_written P.symbols) xs ≡ true → Claim P names s
closes-refuted P names (leaf {s = s} {x = x} {rest = rest} e) written r ps ok stand = step-follows P names r ok s ps stand x (and_parts (step_is_written P.symbols x) (list_all (step_is_written P.symbols) rest) written).0 closed e
closes-refuted P names (single {s = s} {t = t} {x = x} {xs = xs} e d) written r ps ok stand =
    let parts = and_parts (step_is_written P.symbols x) (list_all (step_is_written P.symbols) xs) written in
    step-follows P names r ok s ps stand x parts.0 (one t) e (closes-refuted P names d parts.1)
closes-refuted P names (fork {s = s} {t = t} {u = u} {x = x} {xs = xs} e d f) written r ps ok stand =
    let parts = and_parts (step_is_written P.symbols x) (list_all (step_is_written P.symbols) xs) written in
    step-follows P names r ok s ps stand x parts.0 (two t u) e (closes-refuted P names d parts.1) (closes-refuted P names f (written-rest P names (step_is_written P.symbols) d parts.1))

-- ---- the root

mutual
  term-itself : (r : Meaning) (symbols : List Symbol) (d : ℕ) (xs : List GroundTerm) (t : Term) → term_fits_in symbols d t ≡ true → ground_of (xs ++ []) t ≡ term_means r xs t
  term-itself r symbols d xs (var k) h = ap (λ ys. slice_index_or ys k (common 0)) (append-nil xs)
  term-itself r symbols d xs (fun f ts) h = ap (λ z. g_fun f z) (terms-itself r symbols d xs ts (and_parts (has_function symbols f (arity_of ts)) (terms_fit_in symbols d ts) h).1)
  term-itself r symbols d xs (eigen n) h = absurd (false≢true h)
  term-itself r symbols d xs (spare n) h = absurd (false≢true h)

  terms-itself : (r : Meaning) (symbols : List Symbol) (d : ℕ) (xs : List GroundTerm) (ts : Terms) → terms_fit_in symbols d ts ≡ true → grounds_of (xs ++ []) ts ≡ terms_mean r xs ts
  terms-itself r symbols d xs no_terms h = refl
  terms-itself r symbols d xs (more_terms t ts) h = let e = and_parts (term_fits_in symbols d t) (terms_fit_in symbols d ts) h in λ i. more_g_terms (term-itself r symbols d xs t e.0 i) (terms-itself r symbols d xs ts e.1 i)

says-itself : (r : Meaning) (l : Logic) (symbols : List Symbol) (d : ℕ) (f : Formula) → formula_fits l symbols d f ≡ true → Says r d [] f f
says-itself r l symbols d (atom p ts) h = says_atom (λ xs e. terms-itself r symbols d xs ts (and_parts _ _ h).1)
says-itself r l symbols d (neg a) h = says_neg (says-itself r l symbols d a h)
says-itself r l symbols d (conj a b) h = let e = and_parts _ _ h in says_conj (says-itself r l symbols d a e.0) (says-itself r l symbols d b e.1)
says-itself r l symbols d (disj a b) h = let e = and_parts _ _ h in says_disj (says-itself r l symbols d a e.0) (says-itself r l symbols d b e.1)
says-itself r l symbols d (imp a b) h = let e = and_parts _ _ h in says_imp (says-itself r l symbols d a e.0) (says-itself r l symbols d b e.1)
says-itself r l symbols d (all a) h = says_all (says-itself r l symbols (suc d) a h)
says-itself r l symbols d (ex a) h = says_ex (says-itself r l symbols (suc d) a h)
says-itself r l symbols d (box a) h = says_box (says-itself r l symbols d a (and_parts _ _ h).1)
says-itself r l symbols d (dia a) h = says_dia (says-itself r l symbols d a (and_parts _ _ h).1)

-- the first meaning: each listed name is a spare constant of its home
abbrev first_mark : Mark → List GroundMark
first_mark m = g_spare_mark 0 ∷ []

abbrev first_eigen : Option EigenName → GroundTerm
first_eigen None = common 0
first_eigen (Some x) = own 0 (marks_tree (label_means first_mark x.home))

abbrev first_home : Home → GroundTerm
first_home anywhere = common 0
first_home (home_at w) = own 0 (marks_tree (label_means first_mark w))

abbrev first_spare : Option SpareName → GroundTerm
first_spare None = common 0
first_spare (Some x) = first_home x.home

abbrev first_meaning : Names → Meaning
first_meaning names = record { eigens = λ n. first_eigen (eigen_named names n); spares = λ n. first_spare (spare_named names n); marks = first_mark }

first-proper : (P : Problem) (names : Names) → IsProper P names (first_meaning names)
first-proper P names = record {
  marks = λ m. refl;
  single = λ l m. refl;
  eigens = λ n x e. subst (λ o. HasHome P (label_means first_mark x.home) (first_eigen o)) (sym e) (own-home P first_mark (λ m. refl) x.home);
  spares = λ n x e. subst (λ o. HasSpareHome P (first_meaning names) x.home (first_spare o)) (sym e) (home x.home);
}
  where
    home : (h : Home) → HasSpareHome P (first_meaning names) h (first_home h)
    home anywhere = (refl, λ w c. c)
    home (home_at w) = own-home P first_mark (λ m. refl) w

-- ---- what has a derivation has a closed tableau

pub derived-spans : (P : Problem) → IsTrue (is_problem P) → (d : Derivation) → IsTrue (is_printable P d) → Derives P d → (is : List ClauseInstance) × IsSpanning P is
derived-spans P problem d printable derives =
    let r = first_meaning d.names in
    let root : StandsAt P r (entry F P.formula []) (root_place P) = record { sign = refl; label = label_here refl; says = says-itself r P.setting.logic P.symbols 0 P.formula (fits-problem P problem); before = []; stands = root-stands P; admitted = refl } in
    let written = (and_parts _ (list_all (step_is_written P.symbols) d.steps) printable).1 in
    let refuted = closes-refuted P d.names derives written r (root_place P ∷ []) (first-proper P d.names) (root, tt) in
    (map clause_instance refuted.shares, refuted-spans P refuted)

pub derived-closes : (P : Problem) → IsTrue (is_problem P) → (d : Derivation) → IsTrue (is_printable P d) → Derives P d → (e : ℕ) × HasClosed P e
derived-closes P problem d printable derives = let s = derived-spans P problem d printable derives in (length s.0, closed_where_instances_span P s.0 s.1)

-- ---- and so has what is accepted

pub accepted-closes : (P : Problem) → IsTrue (is_problem P) → (bytes : List ℕ) → IsVersionJudgement P bytes accepted → (e : ℕ) × HasClosed P e
accepted-closes P problem bytes judged = derived-closes P problem judged.derivation (printable-plain judged.version P judged.derivation judged.text.printable) judged.derives

-- where no tableau is closed within any limit, no bytes are accepted as a derivation, in either version of the text
pub none-accepted : (P : Problem) → IsTrue (is_problem P) → ((e : ℕ) → HasClosed P e → ⊥) → (bytes : List ℕ) → IsVersionJudgement P bytes accepted → ⊥
none-accepted P problem none bytes judged = let c = accepted-closes P problem bytes judged in none c.0 c.1
