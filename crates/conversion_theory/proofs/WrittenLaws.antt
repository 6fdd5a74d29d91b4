-- What a conversion writes can be printed: numbers from 1 in the range of numbers, names rising, terms and labels of names that have numbers.
use Rattle.std.proofs.Common.{◌≡◌, ℕ, suc, ◌+◌, ◌≤◌, List, [], ◌∷◌, ◌++◌, length, map, flat_map, true, ◌&&◌, nat_le, nat_lt, IsTrue, Option, Some, None, option_and_then, unwrap_or, refl, sym, ◌∙◌, ap, subst, inl, inr, slice_get, arith, append_assoc, le-leb, lt-ltb, ltb-true}
use Rattle.std.specs.List.{list_all}
use Rattle.std.specs.Option.{option_map_or}
use Rattle.std.proofs.lemmas.Bool.{and_parts, and_from}
use Rattle.calculus.specs.declared.sign.Sign.{Sign}
use Rattle.calculus.specs.declared.setting.Logic.{Logic}
use Rattle.calculus.specs.declared.setting.Logic.TheVariants.{S5}
use Rattle.calculus.specs.declared.kind.Shape.{Shape}
use Rattle.calculus.specs.declared.kind.Shape.TheVariants.{Gamma}
use Rattle.calculus.specs.declared.kind.ModalPart.{ModalPart}
use Rattle.calculus.specs.declared.kind.ModalPart.TheVariants.{Plain, Nu, Pi}
use Rattle.calculus.specs.Syntax.{arity_of, Formula, Problem}
use Rattle.calculus.specs.Ground.{GroundTerm, GroundTerms, GroundMark, Marks, Value, Values, g_fun, g_eigen, common, own, no_g_terms, more_g_terms, g_new_mark, g_spare_mark, no_marks, more_marks, term, steps, g_terms_list, marks_list, values_list, values_tree}
use Rattle.calculus.specs.Lists.{values_tree-values_list, values_list-values_tree}
use Rattle.calculus.specs.Labels.{nu_label, pi_label}
use Rattle.calculus.specs.Kinds.{shape_of, modal_of}
use Rattle.calculus.specs.Positions.{Node}
use Rattle.calculus.specs.Skolem.{Reached, take_string, after_modal, take_term, after_shape, after_node, label_along, at_root, way_to, label_of, has_function, is_admitted, are_admitted}
use Rattle.calculus.specs.Instances.{Spot, Turn}
use Rattle.calculus.specs.Tableaux.{Tableau}
use Rattle.conversion_theory.specs.Turns.{Name, term_name, mark_name, names_of_mark, names_of_marks, names_of_value, names_of_values, names_of_home, turns_of, names_mentioned, names_introduced, names_of_tableau}
use Rattle.calculus.specs.Derivations.{EigenName, SpareName}
use Rattle.calculus.specs.Text.{is_number}
use Rattle.calculus.specs.DerivationText.{is_name_number, mark_is_written, label_is_written, home_is_written, term_is_written, terms_are_written, modal_is_written, rises_from, names_are_written}
use Rattle.conversion_theory.specs.Numbering.{IsNumbering, names_inside, number_of, numbered_mark, numbered_label, numbered_term, numbered_terms, eigen_names, spare_names, name_lines_of}
use Rattle.calculus.proofs.Members.{Among, among-left, among-right, among-append, among-joined, joined-among, among-contains, contains-among, all-among}
use Rattle.conversion_theory.proofs.NameLaws.{introduced-cases}
use Rattle.conversion_theory.proofs.NumberLaws.{IsWhole, names_of_turn, number_in-known, number_in-positive, number_in-once, whole-mark, whole-value, whole-joined, whole-tableau, names-of-tree}
use Rattle.conversion_theory.proofs.NumberedLaws.{MarksIn, IsKnownTerm, AreKnownTerms, marks-of-string, name-of-mark}
use Rattle.conversion_theory.proofs.HitLaws.{Moves, plain, by_string, by_character}
use Rattle.conversion_theory.proofs.AgendaLaws.{TurnOf}
use Rattle.conversion_theory.proofs.WorkLaws.{NameOf, mentioned-name, label-marks}
use Rattle.conversion_theory.proofs.UseLaws.{modal_arg}

-- ---- numbers

-- the names have numbers that can be written
pub number-written : (names : List Name) → IsTrue (is_number (length names)) → (n : Name) → Among names n → is_name_number (number_of names n) ≡ true
number-written names long n h =
    let r = number_in-known names n h in
    let within = number_in-positive names n r.0 r.1 in
    let at : number_of names n ≡ r.0 = ap (λ o. unwrap_or o 0) r.1 in
    let low = within.0 in
    let high = within.1 in
    let bound = ltb-true (length names) 4294967296 long in
    rw at (and_from (nat_le 1 r.0) (is_number r.0) (le-leb 1 r.0 low) (lt-ltb r.0 4294967296 (omega arith)))

module _ (S : Name → Type 0) (num : Name → ℕ) (written : (n : Name) → S n → is_name_number (num n) ≡ true) where
  pub mark-written : (m : GroundMark) → S (mark_name m) → mark_is_written (numbered_mark num m) ≡ true
  mark-written (g_new_mark p vs) h = written (mark_name (g_new_mark p vs)) h
  mark-written (g_spare_mark k) h = written (mark_name (g_spare_mark k)) h

  pub label-written : (w : List GroundMark) → MarksIn S w → label_is_written (numbered_label num w) ≡ true
  label-written [] h = refl
  label-written (m ∷ w) h = and_from (mark_is_written (numbered_mark num m)) (label_is_written (numbered_label num w)) (mark-written m h.0) (label-written w h.1)

  arity-numbered : (ts : GroundTerms) → arity_of (numbered_terms num ts) ≡ length (g_terms_list ts)
  arity-numbered no_g_terms = refl
  arity-numbered (more_g_terms t ts) = ap suc (arity-numbered ts)

  mutual
    pub term-written : (P : Problem) (u : GroundTerm) → is_admitted P u ≡ true → IsKnownTerm S P u → term_is_written P.symbols (numbered_term num u) ≡ true
    term-written P (g_fun f ts) a h =
        let parts = and_parts (has_function P.symbols f (length (g_terms_list ts))) (are_admitted P ts) a in
        and_from (has_function P.symbols f (arity_of (numbered_terms num ts))) (terms_are_written P.symbols (numbered_terms num ts)) (ap (has_function P.symbols f) (arity-numbered ts) ∙ parts.0) (terms-written P ts parts.1 h)
    term-written P (g_eigen p vs) a h = written (term_name (g_eigen p vs)) h.0
    term-written P (common k) a h = written (term_name (common k)) h
    term-written P (own k w) a h = written (term_name (own k w)) h.0

    pub terms-written : (P : Problem) (us : GroundTerms) → are_admitted P us ≡ true → AreKnownTerms S P us → terms_are_written P.symbols (numbered_terms num us) ≡ true
    terms-written P no_g_terms a h = refl
    terms-written P (more_g_terms u us) a h =
        let parts = and_parts (is_admitted P u) (are_admitted P us) a in
        and_from (term_is_written P.symbols (numbered_term num u)) (terms_are_written P.symbols (numbered_terms num us)) (term-written P u parts.0 h.0) (terms-written P us parts.1 h.1)

  pub modal-written : (l : Logic) (s : Sign) (f : Formula) (c d : Spot) (m : Moves l s f c d) → MarksIn S d.label → ((e : modal_of l s f ≡ Pi) → S (mark_name (g_new_mark c.position (values_tree c.taken)))) → modal_is_written (modal_arg num l s f c d m) ≡ true
  modal-written l s f c d (plain e) h new = refl
  modal-written l s f c d (by_string w e g) h new = label-written (nu_label l c.label (marks_list w)) h
  modal-written l s f c d (by_character e) h new = written (mark_name (g_new_mark c.position (values_tree c.taken))) (new e)

-- ---- homes of the names of a tableau

-- what stands inside the marks of a label stands in the values that led there
abbrev Inside : List Name → List GroundMark → Type 0
Inside ns w = (m : GroundMark) → Among w m → (n : Name) → Among (names_inside (mark_name m)) n → Among ns n

inside-append : (ns : List Name) (w v : List GroundMark) → Inside ns w → Inside ns v → Inside ns (w ++ v)
inside-append ns w v h g m i = elim (among-append w v m i) [ inl p ↦ h m p | inr p ↦ g m p ]

inside-one : (ns : List Name) (x : GroundMark) → ((n : Name) → Among (names_inside (mark_name x)) n → Among ns n) → Inside ns (x ∷ [])
inside-one ns x h m (inl e) = subst (λ y. (n : Name) → Among (names_inside (mark_name y)) n → Among ns n) e h
inside-one ns x h m (inr i) = elim i [ ]

inside-nu : (ns : List Name) (l : Logic) (w v : List GroundMark) → Inside ns w → Inside ns v → Inside ns (nu_label l w v)
inside-nu ns S5 w v h g = g
inside-nu ns _ w v h g = inside-append ns w v h g

inside-pi : (ns : List Name) (l : Logic) (w : List GroundMark) (m : GroundMark) → Inside ns w → ((n : Name) → Among (names_inside (mark_name m)) n → Among ns n) → Inside ns (pi_label l w m)
inside-pi ns S5 w m h g = inside-one ns m g
inside-pi ns _ w m h g = inside-append ns w (m ∷ []) h (inside-one ns m g)

inside-string : (w : Marks) → Inside (names_of_marks w) (marks_list w)
inside-string no_marks m i n j = elim i [ ]
inside-string (more_marks x ms) m (inl e) n j = among-left (names_of_mark x) (names_of_marks ms) n (subst (λ y. Among (names_of_mark y) n) (sym e) (whole-mark m (mark_name m) (name-of-mark m) n j))
inside-string (more_marks x ms) m (inr i) n j = among-right (names_of_mark x) (names_of_marks ms) n (inside-string ms m i n j)

record Holds (vs : List Value) (r : Reached) : Type 0 where
  pub values : r.taken ++ r.rest ≡ vs
  pub label : Inside (flat_map names_of_value vs) r.label

abbrev OnReached : (Reached → Type 0) → Option Reached → Type 0
OnReached F None = Unit {0}
OnReached F (Some r) = F r

among-values : (xs ys vs : List Value) → xs ++ ys ≡ vs → (n : Name) → Among (flat_map names_of_value xs) n → Among (flat_map names_of_value vs) n
among-values xs ys vs e n h = let r = among-joined names_of_value xs n h in joined-among names_of_value vs r.0 n (subst (λ us. Among us r.0) e (among-left xs ys r.0 r.1)) r.2

holds-string : (l : Logic) (vs : List Value) (r : Reached) → Holds vs r → (us : List Value) → r.rest ≡ us → OnReached (Holds vs) (take_string l r us)
holds-string l vs r h [] e = tt
holds-string l vs r h (term t ∷ us) e = tt
holds-string l vs r h (steps s ∷ us) e =
    let joined : r.taken ++ steps s ∷ us ≡ vs = ap (λ x. r.taken ++ x) (sym e) ∙ h.values in
    let there : Among vs (steps s) = subst (λ us. Among us (steps s)) joined (among-right r.taken (steps s ∷ us) (steps s) (inl refl)) in
    record {
      values = append_assoc r.taken (steps s ∷ []) us ∙ joined;
      label = inside-nu (flat_map names_of_value vs) l r.label (marks_list s) h.label (λ m i n j. joined-among names_of_value vs (steps s) n there (inside-string s m i n j));
    }

holds-modal : (l : Logic) (p : ℕ) (m : ModalPart) (vs : List Value) (r : Reached) → Holds vs r → OnReached (Holds vs) (after_modal l p m r)
holds-modal l p Plain vs r h = h
holds-modal l p Nu vs r h = holds-string l vs r h r.rest refl
holds-modal l p Pi vs r h = record { values = h.values; label = inside-pi (flat_map names_of_value vs) l r.label (g_new_mark p (values_tree r.taken)) h.label (λ n i. among-values r.taken r.rest vs h.values n (subst (λ ns. Among ns n) (names-of-tree r.taken) i)) }

holds-term : (vs : List Value) (r : Reached) → Holds vs r → (us : List Value) → r.rest ≡ us → OnReached (Holds vs) (take_term r us)
holds-term vs r h [] e = tt
holds-term vs r h (steps s ∷ us) e = tt
holds-term vs r h (term t ∷ us) e = record { values = append_assoc r.taken (term t ∷ []) us ∙ ap (λ x. r.taken ++ x) (sym e) ∙ h.values; label = h.label }

holds-shape : (s : Shape) (vs : List Value) (r : Reached) → Holds vs r → OnReached (Holds vs) (after_shape s r)
holds-shape Gamma vs r h = holds-term vs r h r.rest refl
holds-shape _ vs r h = h

holds-both : (s : Shape) (vs : List Value) (o : Option Reached) → OnReached (Holds vs) o → OnReached (Holds vs) (option_and_then (after_shape s) o)
holds-both s vs None h = tt
holds-both s vs (Some r) h = holds-shape s vs r h

holds-option : (l : Logic) (ns : List Node) (vs : List Value) (r : Reached) → Holds vs r → ((next : Reached) → Holds vs next → Inside (flat_map names_of_value vs) (label_along l ns next)) → (o : Option Reached) → OnReached (Holds vs) o → Inside (flat_map names_of_value vs) (option_map_or (λ (next : Reached). label_along l ns next) o r.label)
holds-option l ns vs r h rest None k = h.label
holds-option l ns vs r h rest (Some next) k = rest next k

holds-along : (l : Logic) (ns : List Node) (vs : List Value) (r : Reached) → Holds vs r → Inside (flat_map names_of_value vs) (label_along l ns r)
holds-along l [] vs r h = h.label
holds-along l (n ∷ ns) vs r h = holds-option l ns vs r h (λ next k. holds-along l ns vs next k) (after_node l n r) (holds-both (shape_of n.sign n.formula) vs (after_modal l n.position (modal_of l n.sign n.formula) r) (holds-modal l n.position (modal_of l n.sign n.formula) vs r h))

pub inside-home : (P : Problem) (p : ℕ) (vs : List Value) → Inside (flat_map names_of_value vs) (label_of P p vs)
inside-home P p vs = holds-along P.setting.logic (way_to P p) vs (at_root vs) (record { values = refl; label = λ m i. elim i [ ] })

-- the names of a tableau hold the characters of their homes
values-inside : (us : Values) → flat_map names_of_value (values_list us) ≡ names_of_values us
values-inside us = sym (names-of-tree (values_list us)) ∙ ap names_of_values (values_tree-values_list us)

term-in-mark : (m : GroundMark) (u : GroundTerm) → Among (names_of_mark m) (term_name u) → Among (names_inside (mark_name m)) (term_name u)
term-in-mark (g_new_mark p vs) u (inl e) = absurd cc
term-in-mark (g_new_mark p vs) u (inr h) = h
term-in-mark (g_spare_mark k) u (inl e) = absurd cc
term-in-mark (g_spare_mark k) u (inr h) = elim h [ ]

-- an eigenvariable in a home stands in the values too
home-term : (P : Problem) (ns : List Name) → IsWhole ns → (k : Name) → Among ns k → (u : GroundTerm) → Among (names_of_home P k) (term_name u) → Among ns (term_name u)
home-term P ns whole (term_name (g_eigen q us)) h u i =
    let r = among-joined names_of_mark (label_of P q (values_list us)) (term_name u) i in
    let inside = inside-home P q (values_list us) r.0 r.1 (term_name u) (term-in-mark r.0 u r.2) in
    whole (term_name (g_eigen q us)) h (term_name u) (subst (λ ms. Among ms (term_name u)) (values-inside us) inside)
home-term P ns whole (term_name (g_fun f ts)) h u i = elim i [ ]
home-term P ns whole (term_name (common k)) h u i = elim i [ ]
home-term P ns whole (term_name (own k w)) h u i = elim i [ ]
home-term P ns whole (mark_name m) h u i = elim i [ ]

home-of-value : (P : Problem) (t : Tableau) (x : Turn) → TurnOf P t x → (p : ℕ) (vs : Values) → Among (flat_map names_of_value x.values) (term_name (g_eigen p vs)) → MarksIn (NameOf P t) (label_of P p (values_list vs))
home-of-value P t x h p vs i = all-among (λ m. NameOf P t (mark_name m)) (label_of P p (values_list vs)) (λ m j. mentioned-name P t x h (mark_name m) (among-right (flat_map names_of_value x.values) (flat_map (names_of_home P) (flat_map names_of_value x.values)) (mark_name m) (joined-among (names_of_home P) (flat_map names_of_value x.values) (term_name (g_eigen p vs)) (mark_name m) i (joined-among names_of_mark (label_of P p (values_list vs)) m (mark_name m) j (name-of-mark m)))))

pub home-named : (P : Problem) (t : Tableau) (p : ℕ) (vs : Values) → NameOf P t (term_name (g_eigen p vs)) → MarksIn (NameOf P t) (label_of P p (values_list vs))
home-named P t p vs h =
    let r = among-joined (names_of_turn P) (turns_of P t) (term_name (g_eigen p vs)) h in
    let x = r.0 in
    elim (among-append (names_mentioned P x) (names_introduced P x) (term_name (g_eigen p vs)) r.2) [
      | inl m ↦ elim (among-append (flat_map names_of_value x.values) (flat_map (names_of_home P) (flat_map names_of_value x.values)) (term_name (g_eigen p vs)) m) [
        | inl v ↦ home-of-value P t x r.1 p vs v
        | inr v ↦ let k = among-joined (names_of_home P) (flat_map names_of_value x.values) (term_name (g_eigen p vs)) v in home-of-value P t x r.1 p vs (home-term P (flat_map names_of_value x.values) (whole-joined names_of_value x.values (λ u i. whole-value u)) k.0 k.1 (g_eigen p vs) k.2)
      ]
      | inr i ↦ elim (introduced-cases P x (term_name (g_eigen p vs)) i) [
        | inl e ↦ let q : term_name (g_eigen p vs) ≡ term_name (g_eigen x.position (values_tree x.values)) = e.1 in let at : x.position ≡ p = cc in let us : values_tree x.values ≡ vs = cc in subst (MarksIn (NameOf P t)) (λ j. label_of P (at j) ((sym (values_list-values_tree x.values) ∙ ap values_list us) j)) (label-marks P t x r.1)
        | inr e ↦ let q : term_name (g_eigen p vs) ≡ mark_name (g_new_mark x.position (values_tree x.values)) = e.1 in absurd cc
      ]
    ]

-- ---- the name lines

-- numbers count up along the list
abbrev CountsFrom : (Name → ℕ) → ℕ → List Name → Type 0
CountsFrom num k ns = (i : ℕ) (n : Name) → slice_get ns i ≡ Some n → num n ≡ suc (k + i)

counts-head : (num : Name → ℕ) (k : ℕ) (n : Name) (ns : List Name) → CountsFrom num k (n ∷ ns) → num n ≡ suc k
counts-head num k n ns h = let e = h 0 n refl in omega arith

counts-tail : (num : Name → ℕ) (k : ℕ) (n : Name) (ns : List Name) → CountsFrom num k (n ∷ ns) → CountsFrom num (suc k) ns
counts-tail num k n ns h i m e = let q = h (suc i) m e in omega arith

eigens-rise : (num : Name → ℕ) (P : Problem) (ns : List Name) (k low : ℕ) → CountsFrom num k ns → low ≤ k → rises_from low (map (λ (x : EigenName). x.number) (eigen_names num P ns)) ≡ true
eigens-rise num P [] k low h le = refl
eigens-rise num P (term_name (g_eigen p vs) ∷ ns) k low h le =
    let at = counts-head num k (term_name (g_eigen p vs)) ns h in
    and_from (nat_lt low (num (term_name (g_eigen p vs)))) (rises_from (num (term_name (g_eigen p vs))) (map (λ (x : EigenName). x.number) (eigen_names num P ns))) (lt-ltb low (num (term_name (g_eigen p vs))) (omega arith)) (eigens-rise num P ns (suc k) (num (term_name (g_eigen p vs))) (counts-tail num k (term_name (g_eigen p vs)) ns h) (omega arith))
eigens-rise num P (n ∷ ns) k low h le = eigens-rise num P ns (suc k) low (counts-tail num k n ns h) (omega arith)

spares-rise : (num : Name → ℕ) (ns : List Name) (k low : ℕ) → CountsFrom num k ns → low ≤ k → rises_from low (map (λ (x : SpareName). x.number) (spare_names num ns)) ≡ true
spares-rise num [] k low h le = refl
spares-rise num (term_name (common j) ∷ ns) k low h le =
    let at = counts-head num k (term_name (common j)) ns h in
    and_from (nat_lt low (num (term_name (common j)))) (rises_from (num (term_name (common j))) (map (λ (x : SpareName). x.number) (spare_names num ns))) (lt-ltb low (num (term_name (common j))) (omega arith)) (spares-rise num ns (suc k) (num (term_name (common j))) (counts-tail num k (term_name (common j)) ns h) (omega arith))
spares-rise num (term_name (own j w) ∷ ns) k low h le =
    let at = counts-head num k (term_name (own j w)) ns h in
    and_from (nat_lt low (num (term_name (own j w)))) (rises_from (num (term_name (own j w))) (map (λ (x : SpareName). x.number) (spare_names num ns))) (lt-ltb low (num (term_name (own j w))) (omega arith)) (spares-rise num ns (suc k) (num (term_name (own j w))) (counts-tail num k (term_name (own j w)) ns h) (omega arith))
spares-rise num (n ∷ ns) k low h le = spares-rise num ns (suc k) low (counts-tail num k n ns h) (omega arith)

module _ (P : Problem) (t : Tableau) (num : Name → ℕ) (written : (n : Name) → NameOf P t n → is_name_number (num n) ≡ true) where
  eigens-written : (ns : List Name) → ((n : Name) → Among ns n → NameOf P t n) → list_all (λ (x : EigenName). is_number x.number && label_is_written x.home) (eigen_names num P ns) ≡ true
  eigens-written [] h = refl
  eigens-written (term_name (g_eigen p vs) ∷ ns) h =
      let n = term_name (g_eigen p vs) in
      let here = h n (inl refl) in
      let number = and_parts (nat_le 1 (num n)) (is_number (num n)) (written n here) in
      let home = label-written (NameOf P t) num written (label_of P p (values_list vs)) (home-named P t p vs here) in
      and_from (is_number (num n) && label_is_written (numbered_label num (label_of P p (values_list vs)))) (list_all (λ (x : EigenName). is_number x.number && label_is_written x.home) (eigen_names num P ns)) (and_from (is_number (num n)) (label_is_written (numbered_label num (label_of P p (values_list vs)))) number.1 home) (eigens-written ns (λ m i. h m (inr i)))
  eigens-written (n ∷ ns) h = eigens-written ns (λ m i. h m (inr i))

  spares-written : (ns : List Name) → ((n : Name) → Among ns n → NameOf P t n) → list_all (λ (x : SpareName). is_number x.number && home_is_written x.home) (spare_names num ns) ≡ true
  spares-written [] h = refl
  spares-written (term_name (common k) ∷ ns) h =
      let n = term_name (common k) in
      let number = and_parts (nat_le 1 (num n)) (is_number (num n)) (written n (h n (inl refl))) in
      and_from (is_number (num n) && true) (list_all (λ (x : SpareName). is_number x.number && home_is_written x.home) (spare_names num ns)) (and_from (is_number (num n)) true number.1 refl) (spares-written ns (λ m i. h m (inr i)))
  spares-written (term_name (own k w) ∷ ns) h =
      let n = term_name (own k w) in
      let here = h n (inl refl) in
      let number = and_parts (nat_le 1 (num n)) (is_number (num n)) (written n here) in
      let home = label-written (NameOf P t) num written (marks_list w) (marks-of-string (NameOf P t) w (λ m i. whole-tableau P t n here m i)) in
      and_from (is_number (num n) && label_is_written (numbered_label num (marks_list w))) (list_all (λ (x : SpareName). is_number x.number && home_is_written x.home) (spare_names num ns)) (and_from (is_number (num n)) (label_is_written (numbered_label num (marks_list w))) number.1 home) (spares-written ns (λ m i. h m (inr i)))
  spares-written (n ∷ ns) h = spares-written ns (λ m i. h m (inr i))

-- the name lines of a numbering can be printed
pub names-written : (P : Problem) (t : Tableau) (names : List Name) → IsNumbering P t names → IsTrue (is_number (length names)) → names_are_written (name_lines_of (number_of names) P names) ≡ true
names-written P t names h long =
    let num = number_of names in
    let listed = λ (n : Name) (i : Among names n). among-contains (names_of_tableau P t) n ((h.all n).1 (contains-among names n i)) in
    let written = λ (n : Name) (i : NameOf P t n). number-written names long n (among-contains names n ((h.all n).0 (contains-among (names_of_tableau P t) n i))) in
    let counts : CountsFrom num 0 names = λ i n e. let q : num n ≡ suc i = ap (λ o. unwrap_or o 0) (number_in-once names h.once i n e) in omega arith in
    let a = eigens-rise num P names 0 0 counts (omega arith) in
    let b = eigens-written P t num written names listed in
    let c = spares-rise num names 0 0 counts (omega arith) in
    let d = spares-written P t num written names listed in
    let x = rises_from 0 (map (λ (x : EigenName). x.number) (eigen_names num P names)) in
    let y = list_all (λ (x : EigenName). is_number x.number && label_is_written x.home) (eigen_names num P names) in
    let z = rises_from 0 (map (λ (x : SpareName). x.number) (spare_names num names)) in
    let u = list_all (λ (x : SpareName). is_number x.number && home_is_written x.home) (spare_names num names) in
    and_from (x && y && z) u (and_from (x && y) z (and_from x y a b) c) d
