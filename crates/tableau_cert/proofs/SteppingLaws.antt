-- Labels that go on by one step, and what a grown table keeps of ways and literals.
use Rattle.std.proofs.Common.{append-nil, append_assoc, ◌≡◌, ◌+◌, ◌-◌, ◌≤◌, ◌<◌, List, [], ◌∷◌, ◌++◌, ℕ, zero, suc, length, map, take, drop, reverse, get_or, Option, Some, None, IfSome, refl, sym, ◌∙◌, ap, subst, arith}
use Rattle.std.specs.List.{AllByRecursion}
use Rattle.calculus.specs.declared.setting.Logic.{Logic}
use Rattle.calculus.specs.declared.setting.Logic.TheVariants.{Classical, Intuitionistic, D, T as LogicT, S4, S5}
use Rattle.calculus.specs.Ground as tree
use Rattle.calculus.specs.Labels.{nu_label, pi_label}
use Rattle.std.proofs.lemmas.List.{drop-append-le, get_or-reverse, length-append, length-reverse, map-append, reverse-append, take_more, take_rest}
use Rattle.std.proofs.Math.Seq.{drop-append_seam}
use Rattle.calculus.specs.Instances.{after_character, after_string, ground_of, spot_inside}
use Rattle.calculus.specs.Lists.{g_terms_tree, marks_list-marks_tree}
use Rattle.calculus.specs.Syntax.{var}
use Rattle.tableau_core.proofs.Environments.{bound-at, unbound-at}
use Rattle.formula_core.specs.GroundLists.{GroundList, IsGrown, the_g_term, the_mark, the_marks, the_value, the_values, AreNormalMarks, AreNormalTerms, AreNormalValues, IsNormalMark, IsNormalTerm, IsNormalValue, no_list}
use Rattle.formula_core.specs.declared.ground.GroundTerms.{GroundTerms}
use Rattle.formula_core.specs.declared.ground.GroundLabel.{GroundLabel}
use Rattle.formula_core.specs.declared.ground.Values.{Values}
use Rattle.formula_core.specs.declared.ground.Value.{Value}
use Rattle.formula_core.specs.declared.ground.Value.TheVariants as value
use Rattle.formula_core.specs.declared.ground.GroundMark.{GroundMark}
use Rattle.formula_core.specs.declared.ground.GroundMark.TheVariants as mark
use Rattle.formula_core.specs.declared.ground.GroundTerm.{GroundTerm}
use Rattle.formula_core.specs.declared.ground.GroundTerm.TheVariants as term
use Rattle.tableau_cert.specs.Made.{start_of, IsLabelled, IsWayMade}
use Rattle.formula_core.proofs.GrownLaws.{terms-grown, marks-grown, values-grown, term-grown, mark-grown, value-grown, term-normal-grown, mark-normal-grown, value-normal-grown}
use Rattle.tableau_core.specs.Numbered.LiteralView.{the_literal}
use Rattle.tableau_core.specs.declared.literal.GroundLiteral as numbered
use Rattle.tableau_cert.proofs.AllLaws.{all-become, all-dropped, all-joined, all-reversed, all-same}
use Rattle.tableau_cert.specs.WayView.{Begins, IsLabelOf, IsLonger, IsNormalWay, WayLists, begun, bound_terms, label_marks, labelled, the_label, the_spot, the_taken}
use Rattle.tableau_cert.specs.Gathering.{AreNormalLiterals, IsNormalLiteral}

pub nu-start : (l : Logic) (w s : List tree.GroundMark) → start_of l w ++ s ≡ nu_label l w s
nu-start Classical w s = refl
nu-start Intuitionistic w s = refl
nu-start D w s = refl
nu-start LogicT w s = refl
nu-start S4 w s = refl
nu-start S5 w s = refl

pub pi-start : (l : Logic) (w : List tree.GroundMark) (m : tree.GroundMark) → start_of l w ++ m ∷ [] ≡ pi_label l w m
pi-start Classical w m = refl
pi-start Intuitionistic w m = refl
pi-start D w m = refl
pi-start LogicT w m = refl
pi-start S4 w m = refl
pi-start S5 w m = refl

pub grown-none : (a : List GroundList) → length a ≤ no_list → IsGrown a a
grown-none a h = record { added = []; grown = sym (append-none a); most = h }
  where
    append-none : (xs : List GroundList) → xs ++ [] ≡ xs
    append-none [] = refl
    append-none (x ∷ xs) = ap (λ ys. x ∷ ys) (append-none xs)

module _ (a b : List GroundList) (g : IsGrown a b) where
  pub marks-normal-grown : (n : GroundLabel) → AreNormalMarks a n → AreNormalMarks b n
  marks-normal-grown n h e = h (sym (marks-grown a b g n h) ∙ e)

  pub terms-normal-grown : (n : GroundTerms) → AreNormalTerms a n → AreNormalTerms b n
  terms-normal-grown n h e = h (sym (terms-grown a b g n h) ∙ e)

  pub values-normal-grown : (n : Values) → AreNormalValues a n → AreNormalValues b n
  values-normal-grown n h e = h (sym (values-grown a b g n h) ∙ e)

  -- ways

  pub label-of-grown : (ms : List GroundMark) (o : Option GroundLabel) → AllByRecursion (IsNormalMark a) ms → IfSome o (IsLabelOf a ms) → IfSome o (IsLabelOf b ms)
  label-of-grown ms None n h = tt
  label-of-grown ms (Some k) n h = record {
    same = marks-grown a b g k h.normal ∙ h.same ∙ sym (all-same (IsNormalMark a) (the_mark b) (the_mark a) (mark-grown a b g) ms n);
    normal = marks-normal-grown k h.normal;
  }

  pub bindings-grown : (ts : List GroundTerm) → AllByRecursion (IsNormalTerm a) ts → bound_terms b ts ≡ bound_terms a ts
  bindings-grown ts n = all-same (IsNormalTerm a) (the_g_term b) (the_g_term a) (term-grown a b g) (reverse ts) (all-reversed (IsNormalTerm a) ts n)

  pub bindings-normal-grown : (ts : List GroundTerm) → AllByRecursion (IsNormalTerm a) ts → AllByRecursion (IsNormalTerm b) ts
  bindings-normal-grown ts n = all-become (IsNormalTerm a) (IsNormalTerm b) (term-normal-grown a b g) ts n

  pub way-label-grown : (w : WayLists) → IsNormalWay a w → the_label b w ≡ the_label a w
  way-label-grown w n = all-same (IsNormalMark a) (the_mark b) (the_mark a) (mark-grown a b g) (label_marks w) (all-dropped (IsNormalMark a) w.start w.marks n.marks)

  pub taken-grown : (w : WayLists) → IsNormalWay a w → the_taken b w ≡ the_taken a w
  taken-grown w n = all-same (IsNormalValue a) (the_value b) (the_value a) (value-grown a b g) w.taken n.taken

  pub way-grown : (w : WayLists) (p : ℕ) → IsNormalWay a w → the_spot b w p ≡ the_spot a w p
  way-grown w p n = λ i. record { position = p; label = way-label-grown w n i; taken = taken-grown w n i; env = bindings-grown w.bindings n.bindings i }

  pub way-normal-grown : (w : WayLists) → IsNormalWay a w → IsNormalWay b w
  way-normal-grown w n = record {
    label = label-of-grown (label_marks w) w.label (all-dropped (IsNormalMark a) w.start w.marks n.marks) n.label;
    start = n.start;
    marks = all-become (IsNormalMark a) (IsNormalMark b) (mark-normal-grown a b g) w.marks n.marks;
    taken = all-become (IsNormalValue a) (IsNormalValue b) (value-normal-grown a b g) w.taken n.taken;
    bindings = bindings-normal-grown w.bindings n.bindings;
  }

  -- the number of the label is known
  pub labelled-normal : (w : WayLists) (n : GroundLabel) → IsNormalWay a w → IsLabelOf b (label_marks w) n → IsNormalWay b (labelled w n)
  labelled-normal w n h k = let r = way-normal-grown w h in record { label = k; start = r.start; marks = r.marks; taken = r.taken; bindings = r.bindings }

  pub literal-grown : (x : numbered.GroundLiteral) → IsNormalLiteral a x → the_literal b x ≡ the_literal a x
  literal-grown x h = λ i. record { sign = x.sign; symbol = x.symbol.0; args = g_terms_tree (terms-grown a b g x.args h.args i); label = marks-grown a b g x.label h.label i }

  pub literals-grown : (xs : List numbered.GroundLiteral) → AreNormalLiterals a xs → map (the_literal b) xs ≡ map (the_literal a) xs
  literals-grown [] h = refl
  literals-grown (x ∷ xs) h = λ i. literal-grown x h.0 i ∷ literals-grown xs h.1 i

  pub literals-normal-grown : (xs : List numbered.GroundLiteral) → AreNormalLiterals a xs → AreNormalLiterals b xs
  literals-normal-grown [] h = h
  literals-normal-grown (x ∷ xs) h = (record { args = terms-normal-grown x.args h.0.args; label = marks-normal-grown x.label h.0.label }, literals-normal-grown xs h.1)

-- ---- ways that go on by a step

pub begins-same : {X : Type 0} (xs : List X) → Begins xs xs
begins-same xs = record { more = []; joined = sym (append-nil xs) }

pub longer-same : (w : WayLists) → IsLonger w w
longer-same w = record { marks = begins-same w.marks; taken = begins-same w.taken; bindings = begins-same w.bindings }

begins-both : {X : Type 0} (xs ys zs : List X) → Begins xs ys → Begins ys zs → Begins xs zs
begins-both xs ys zs h k = record { more = h.more ++ k.more; joined = k.joined ∙ ap (λ us. us ++ k.more) h.joined ∙ append_assoc xs h.more k.more }

pub longer-both : (u v w : WayLists) → IsLonger u v → IsLonger v w → IsLonger u w
longer-both u v w h k = record { marks = begins-both _ _ _ h.marks k.marks; taken = begins-both _ _ _ h.taken k.taken; bindings = begins-both _ _ _ h.bindings k.bindings }

abbrev way_of : WayLists → List GroundMark → List Value → List GroundTerm → WayLists
way_of v ms vs ts = record { label = v.label; start = v.start; marks = ms; taken = vs; bindings = ts }

-- the label where a step has added its characters
begun-label : (l : Logic) (ls : List GroundList) (v : WayLists) (items : List GroundMark) → v.start ≤ length v.marks → map (the_mark ls) (drop (begun l v).start (v.marks ++ items)) ≡ start_of l (the_label ls v) ++ map (the_mark ls) items
begun-label l ls v items h = by l
  where
    kept : map (the_mark ls) (drop v.start (v.marks ++ items)) ≡ the_label ls v ++ map (the_mark ls) items
    kept = ap (map (the_mark ls)) (drop-append-le v.start v.marks items h) ∙ map-append (the_mark ls) (drop v.start v.marks) items

    by : (l : Logic) → map (the_mark ls) (drop (begun l v).start (v.marks ++ items)) ≡ start_of l (the_label ls v) ++ map (the_mark ls) items
    by Classical = kept
    by Intuitionistic = kept
    by D = kept
    by LogicT = kept
    by S4 = kept
    by S5 = ap (map (the_mark ls)) (drop-append_seam v.marks items)

begun-start : (l : Logic) (v : WayLists) (items : List GroundMark) → v.start ≤ length v.marks → (begun l v).start ≤ length (v.marks ++ items)
begun-start l v items h = by l
  where
    kept : v.start ≤ length (v.marks ++ items)
    kept = omega (arith, h, length-append v.marks items)

    by : (l : Logic) → (begun l v).start ≤ length (v.marks ++ items)
    by Classical = kept
    by Intuitionistic = kept
    by D = kept
    by LogicT = kept
    by S4 = kept
    by S5 = omega (arith, length-append v.marks items)

module _ (a : List GroundList) (v : WayLists) (n : IsNormalWay a v) where
  -- past a string
  pub string-way : (l : Logic) (g : IsGrown a a) (s : GroundLabel) (p : ℕ) (z : WayLists) (items ms : List GroundMark) (vs : List Value) → z ≡ begun l v → AreNormalMarks a s → map (the_mark a) items ≡ the_marks a s → AllByRecursion (IsNormalMark a) items → ms ≡ z.marks ++ items → vs ≡ z.taken ++ value.Steps s ∷ [] → IsWayMade a a v (way_of z ms vs z.bindings) (after_string l (tree.marks_tree (the_marks a s)) (the_spot a v p)) p
  string-way l g s p z items ms vs c k e m q r = subst (λ (y : WayLists). ms ≡ y.marks ++ items → vs ≡ y.taken ++ value.Steps s ∷ [] → IsWayMade a a v (way_of y ms vs y.bindings) (after_string l (tree.marks_tree (the_marks a s)) (the_spot a v p)) p) (sym c) (λ q r. subst (λ (x : List GroundMark × List Value). IsWayMade a a v (way_of (begun l v) x.0 x.1 v.bindings) (after_string l (tree.marks_tree (the_marks a s)) (the_spot a v p)) p) (λ i. (sym q i, sym r i)) (record {
    same = λ i. record {
      position = p;
      label = (begun-label l a v items n.start ∙ ap (λ xs. start_of l (the_label a v) ++ xs) e ∙ nu-start l (the_label a v) (the_marks a s) ∙ ap (nu_label l (the_label a v)) (sym (marks_list-marks_tree (the_marks a s)))) i;
      taken = map-append (the_value a) v.taken (value.Steps s ∷ []) i;
      env = bound_terms a v.bindings;
    };
    normal = record { label = tt; start = begun-start l v items n.start; marks = all-joined (IsNormalMark a) v.marks items n.marks m; taken = all-joined (IsNormalValue a) v.taken (value.Steps s ∷ []) n.taken (k, tt); bindings = n.bindings };
    longer = record { marks = record { more = items; joined = refl }; taken = record { more = value.Steps s ∷ []; joined = refl }; bindings = begins-same v.bindings };
    grown = g;
  })) q r

  -- inside a quantifier whose variable gets a term that is taken
  pub gamma-way : (g : IsGrown a a) (t : GroundTerm) (p : ℕ) (vs : List Value) (ts : List GroundTerm) → IsNormalTerm a t → vs ≡ v.taken ++ value.Term t ∷ [] → ts ≡ v.bindings ++ t ∷ [] → IsWayMade a a v (way_of v v.marks vs ts) (spot_inside (the_g_term a t) (the_taken a v ++ tree.term (the_g_term a t) ∷ []) (the_spot a v p)) (p + 1)
  gamma-way g t p vs ts k q r = subst (λ (x : List Value × List GroundTerm). IsWayMade a a v (way_of v v.marks x.0 x.1) (spot_inside (the_g_term a t) (the_taken a v ++ tree.term (the_g_term a t) ∷ []) (the_spot a v p)) (p + 1)) (λ i. (sym q i, sym r i)) (record {
    same = λ i. record { position = p + 1; label = the_label a v; taken = map-append (the_value a) v.taken (value.Term t ∷ []) i; env = map (the_g_term a) (reverse-append v.bindings (t ∷ []) i) };
    normal = record { label = n.label; start = n.start; marks = n.marks; taken = all-joined (IsNormalValue a) v.taken (value.Term t ∷ []) n.taken (k, tt); bindings = all-joined (IsNormalTerm a) v.bindings (t ∷ []) n.bindings (k, tt) };
    longer = record { marks = begins-same v.marks; taken = record { more = value.Term t ∷ []; joined = refl }; bindings = record { more = t ∷ []; joined = refl } };
    grown = g;
  })

module _ (a b : List GroundList) (g : IsGrown a b) (v : WayLists) (h : IsNormalWay a v) (k : Values) (same : the_values b k ≡ the_taken a v) (normal : AreNormalValues b k) where
  abbrev n : IsNormalWay b v
  n = way-normal-grown a b g v h

  -- past a mark, whose values have this number
  pub mark-way : (l : Logic) (p : ℕ) (z : WayLists) (ms : List GroundMark) → z ≡ begun l v → ms ≡ z.marks ++ mark.New (record { 0 = p }) k ∷ [] → IsWayMade a b v (way_of z ms z.taken z.bindings) (after_character l (the_spot a v p)) p
  mark-way l p z ms c q = subst (λ (y : WayLists). ms ≡ y.marks ++ mark.New (record { 0 = p }) k ∷ [] → IsWayMade a b v (way_of y ms y.taken y.bindings) (after_character l (the_spot a v p)) p) (sym c) (λ q. subst (λ (x : List GroundMark). IsWayMade a b v (way_of (begun l v) x v.taken v.bindings) (after_character l (the_spot a v p)) p) (sym q) (record {
    same = λ i. record {
      position = p;
      label = (begun-label l b v (mark.New (record { 0 = p }) k ∷ []) h.start ∙ (λ j. start_of l (way-label-grown a b g v h j) ++ tree.g_new_mark p (tree.values_tree (same j)) ∷ []) ∙ pi-start l (the_label a v) (tree.g_new_mark p (tree.values_tree (the_taken a v)))) i;
      taken = taken-grown a b g v h i;
      env = bindings-grown a b g v.bindings h.bindings i;
    };
    normal = record { label = tt; start = begun-start l v (mark.New (record { 0 = p }) k ∷ []) h.start; marks = all-joined (IsNormalMark b) v.marks (mark.New (record { 0 = p }) k ∷ []) n.marks (normal, tt); taken = n.taken; bindings = n.bindings };
    longer = record { marks = record { more = mark.New (record { 0 = p }) k ∷ []; joined = refl }; taken = begins-same v.taken; bindings = begins-same v.bindings };
    grown = g;
  })) q

  -- inside a quantifier whose variable gets the eigenvariable
  pub delta-way : (p : ℕ) (ts : List GroundTerm) → ts ≡ v.bindings ++ term.Eigen (record { 0 = p }) k ∷ [] → IsWayMade a b v (way_of v v.marks v.taken ts) (spot_inside (tree.g_eigen p (tree.values_tree (the_taken a v))) (the_taken a v) (the_spot a v p)) (p + 1)
  delta-way p ts q = subst (λ (x : List GroundTerm). IsWayMade a b v (way_of v v.marks v.taken x) (spot_inside (tree.g_eigen p (tree.values_tree (the_taken a v))) (the_taken a v) (the_spot a v p)) (p + 1)) (sym q) (record {
    same = λ i. record {
      position = p + 1;
      label = way-label-grown a b g v h i;
      taken = taken-grown a b g v h i;
      env = (ap (map (the_g_term b)) (reverse-append v.bindings (term.Eigen (record { 0 = p }) k ∷ [])) ∙ (λ j. tree.g_eigen p (tree.values_tree (same j)) ∷ bindings-grown a b g v.bindings h.bindings j)) i;
    };
    normal = record { label = n.label; start = n.start; marks = n.marks; taken = n.taken; bindings = all-joined (IsNormalTerm b) v.bindings (term.Eigen (record { 0 = p }) k ∷ []) n.bindings (normal, tt) };
    longer = record { marks = begins-same v.marks; taken = begins-same v.taken; bindings = record { more = term.Eigen (record { 0 = p }) k ∷ []; joined = refl } };
    grown = g;
  })

-- ---- the number of the label

pub label-known : (a : List GroundList) (v : WayLists) (n : GroundLabel) → length a ≤ no_list → IsNormalWay a v → v.label ≡ Some n → IsLabelled a a v v n
label-known a v n most h e = record {
  way = λ i. record { label = e i; start = v.start; marks = v.marks; taken = v.taken; bindings = v.bindings };
  label = subst (λ o. IfSome o (IsLabelOf a (label_marks v))) e h.label;
  grown = grown-none a most;
}

pub label-entered : (a b : List GroundList) (v : WayLists) (n : GroundLabel) → IsGrown a b → IsNormalWay a v → the_marks b n ≡ map (the_mark a) (take (length v.marks - v.start) (drop v.start v.marks)) → AreNormalMarks b n → IsLabelled a b v (labelled v n) n
label-entered a b v n g h e k = record {
  way = refl;
  label = record { same = e ∙ ap (map (the_mark a)) (take_rest v.marks v.start) ∙ sym (way-label-grown a b g v h); normal = k };
  grown = g;
}

-- ---- what is put for a variable, the innermost being the last

pub bound-last : (ls : List GroundList) (ts : List GroundTerm) (k : ℕ) (x d : GroundTerm) → k < length ts → x ≡ get_or ts (length ts - 1 - k) d → the_g_term ls x ≡ ground_of (bound_terms ls ts) (var k)
bound-last ls ts k x d h e = sym (bound-at (the_g_term ls) (reverse ts) k x d (let l = length-reverse ts in omega (arith, l, h)) (e ∙ sym (get_or-reverse ts k d h)))

pub unbound-last : (ls : List GroundList) (ts : List GroundTerm) (k : ℕ) → length ts ≤ k → tree.common 0 ≡ ground_of (bound_terms ls ts) (var k)
unbound-last ls ts k h = sym (unbound-at (the_g_term ls) (reverse ts) k (let l = length-reverse ts in omega (arith, l, h)))

-- ---- the terms of a list, one by one

terms-list-grown : (a b : List GroundList) → IsGrown a b → (ts : List GroundTerm) → AllByRecursion (IsNormalTerm a) ts → map (the_g_term b) ts ≡ map (the_g_term a) ts
terms-list-grown a b g [] h = refl
terms-list-grown a b g (t ∷ ts) h = λ i. term-grown a b g t h.0 i ∷ terms-list-grown a b g ts h.1 i

terms-list-normal : (a b : List GroundList) → IsGrown a b → (ts : List GroundTerm) (t : GroundTerm) → AllByRecursion (IsNormalTerm a) ts → IsNormalTerm b t → AllByRecursion (IsNormalTerm b) (ts ++ t ∷ [])
terms-list-normal a b g [] t h n = (n, tt)
terms-list-normal a b g (x ∷ ts) t h n = (term-normal-grown a b g x h.0, terms-list-normal a b g ts t h.1 n)

-- an item that stands at a place of terms that are all normal
pub normal-item : (ls : List GroundList) (ts : List GroundTerm) (k : ℕ) (x d : GroundTerm) → AllByRecursion (IsNormalTerm ls) ts → k < length ts → x ≡ get_or ts k d → IsNormalTerm ls x
normal-item ls [] k x d h l e = absurd (omega (arith, l))
normal-item ls (t ∷ ts) zero x d h l e = subst (IsNormalTerm ls) (sym e) h.0
normal-item ls (t ∷ ts) (suc k) x d h l e = normal-item ls ts k x d h.1 (omega (arith, l)) e

pub ruleset normal = (normal-item)

pub term-pushed : {X : Type 0} (f : X → tree.GroundTerm) (a b : List GroundList) (items : List X) (i : ℕ) (x d : X) (t : GroundTerm) (all more : List GroundTerm) → IsGrown a b → AllByRecursion (IsNormalTerm a) all → map (the_g_term a) all ≡ map f (take i items) → more ≡ all ++ t ∷ [] → the_g_term b t ≡ f x → i < length items → x ≡ get_or items i d → map (the_g_term b) more ≡ map f (take (i + 1) items)
term-pushed f a b items i x d t all more g n e h k l m =
    ap (map (the_g_term b)) h ∙ map-append (the_g_term b) all (t ∷ [])
    ∙ (λ j. (terms-list-grown a b g all n ∙ e) j ++ (k ∙ ap f m) j ∷ [])
    ∙ sym (map-append f (take i items) (get_or items i d ∷ []))
    ∙ sym (ap (map f) (take_more items i d l))

pub terms-pushed-normal : (a b : List GroundList) (t : GroundTerm) (all more : List GroundTerm) → IsGrown a b → AllByRecursion (IsNormalTerm a) all → more ≡ all ++ t ∷ [] → IsNormalTerm b t → AllByRecursion (IsNormalTerm b) more
terms-pushed-normal a b t all more g n h k = subst (AllByRecursion (IsNormalTerm b)) (sym h) (terms-list-normal a b g all t n k)
