-- Atoms at labels: where values tell unbound variables apart, two atoms that have the same image are the same under the bindings. A label is
-- followed to its places: marks, and strings without a binding.
use Rattle.std.proofs.Common.{◌≡◌, ◌⊎◌, ℕ, zero, suc, ◌<◌, List, [], ◌∷◌, ◌++◌, Bool, true, false, ◌||◌, IsTrue, refl, sym, ◌∙◌, ap, ap₂, Option, Some, None, slice_get, inl, inr, arith, append_assoc}
use Rattle.std.specs.List.{list_all, AllByRecursion}
use Rattle.std.proofs.lemmas.Bool.{false≢true, and_parts}
use Rattle.std.proofs.lemmas.List.{append-nil}
use Rattle.plain_laws.proofs.Every.{each-append}
use Rattle.search_theory.proofs.UnifyLaws.{term-same}
use Rattle.calculus.specs.declared.sort.Sort.TheVariants.{TermSort, MarkSort, StringSort}
use Rattle.calculus.specs.Ground.{GroundTerms, GroundMark, GroundLiteral, Values, no_g_terms, more_g_terms, g_spare_mark, no_values, more_values, term, steps, marks_tree, values_tree}
use Rattle.store_theory.specs.Stores.{Cell, variable, fun_cell, eigen_cell, new_cell, string_cell, Store, sort_of, parts_of, parts_fit, has_sort_at, is_store, CellValue, a_term, a_mark, a_string, has_sort, Solution, terms_at, label_at, join_label, marks_at, values_at, cons_value, Solves}
use Rattle.calculus.specs.Equality.{sort_eq}
use Rattle.store_theory.specs.Systems.{CellAtom, IsLiteral, is_label}
use Rattle.store_theory.specs.Templates.{as_term, as_value, as_label}
use Rattle.search_theory.specs.States.{terms_by, label_by, values_by, literal_by}
use Rattle.search_theory.specs.Regular.{AreSame}
use Rattle.search_theory.proofs.SpareLaws.{IsRanked, cell-fits, cell-sorted}
use Rattle.search_theory.specs.CellsIn.{IsPart, IsAtomIn}
use Rattle.search_theory.proofs.GeneralLaws.{term-parts, mark-parts}
use Rattle.search_theory.proofs.BuildingLaws.{solved-sorted}
use Rattle.search_theory.proofs.DistinctLaws.{AreDistinct, distinct-same, not-string-mark}

-- ---- what is read at cells is their image

pub terms_at-by : (σ : Solution) (rs : List ℕ) (ts : GroundTerms) → terms_at σ rs ≡ Some ts → terms_by σ rs ≡ ts
terms_at-by σ [] ts e = let q : no_g_terms ≡ ts = cc e in q
terms_at-by σ (r ∷ rs) ts e = let p = term-parts σ r rs ts e in ap₂ (λ v us. more_g_terms (as_term v) us) p.is_first (terms_at-by σ rs p.rest p.are_rest) ∙ sym p.all_of_them

pub marks_at-by : (σ : Solution) (rs : List ℕ) (w : List GroundMark) → marks_at σ rs ≡ Some w → label_by σ rs ≡ w
marks_at-by σ [] w e = let q : [] ≡ w = cc e in q
marks_at-by σ (r ∷ rs) w e = let p = mark-parts σ r rs w e in ap₂ (λ v us. as_label v ++ us) p.is_first (marks_at-by σ rs p.rest p.are_rest) ∙ sym p.all_of_them

pub label_at-by : (σ : Solution) (rs : List ℕ) (w : List GroundMark) → label_at σ rs ≡ Some w → label_by σ rs ≡ w
label_at-by σ [] w e = let q : [] ≡ w = cc e in q
label_at-by σ (r ∷ rs) w e = by (σ r) (label_at σ rs) refl refl e (λ v g. label_at-by σ rs v g)
  where
    by : (v : CellValue) (o : Option (List GroundMark)) → σ r ≡ v → label_at σ rs ≡ o → join_label v o ≡ Some w → ((u : List GroundMark) → label_at σ rs ≡ Some u → label_by σ rs ≡ u) → as_label (σ r) ++ label_by σ rs ≡ w
    by (a_mark m) (Some u) f g h ih = let q : m ∷ u ≡ w = cc h in ap₂ (λ x y. as_label x ++ y) f (ih u g) ∙ q
    by (a_string x) (Some u) f g h ih = let q : x ++ u ≡ w = cc h in ap₂ (λ z y. as_label z ++ y) f (ih u g) ∙ q
    by (a_mark m) None f g h ih = cc h
    by (a_string x) None f g h ih = cc h
    by (a_term t) o f g h ih = cc h

pub values_at-by : (σ : Solution) (rs : List ℕ) (vs : Values) → values_at σ rs ≡ Some vs → values_tree (values_by σ rs) ≡ vs
values_at-by σ [] vs e = let q : no_values ≡ vs = cc e in q
values_at-by σ (r ∷ rs) vs e = by (σ r) (values_at σ rs) refl refl e (λ v g. values_at-by σ rs v g)
  where
    by : (v : CellValue) (o : Option Values) → σ r ≡ v → values_at σ rs ≡ o → cons_value v o ≡ Some vs → ((us : Values) → values_at σ rs ≡ Some us → values_tree (values_by σ rs) ≡ us) → values_tree (values_by σ (r ∷ rs)) ≡ vs
    by (a_term t) (Some us) f g h ih = let q : more_values (term t) us ≡ vs = cc h in ap₂ (λ x y. more_values (as_value x) y) f (ih us g) ∙ q
    by (a_string x) (Some us) f g h ih = let q : more_values (steps (marks_tree x)) us ≡ vs = cc h in ap₂ (λ z y. more_values (as_value z) y) f (ih us g) ∙ q
    by (a_term t) None f g h ih = cc h
    by (a_string x) None f g h ih = cc h
    by (a_mark m) o f g h ih = cc h

-- a literal by cells has the image as its value
pub literal-by : (σ : Solution) (a : CellAtom) (x : GroundLiteral) → IsLiteral σ a x → x ≡ literal_by σ a
literal-by σ a x h =
    let args = sym (terms_at-by σ a.args x.args h.args) in
    let labels = sym (label_at-by σ a.label x.label h.label) in
    let signs = h.sign in
    let symbols = h.symbol in
    λ i. record { sign = signs i; symbol = symbols i; args = args i; label = labels i }

-- ---- the places of a label

-- a mark, or a string without a binding
abbrev pub IsPlace : (ℕ → Type 0) → Store → ℕ → Type 0
IsPlace In s r = In r × (IsTrue (has_sort_at s MarkSort r) ⊎ (slice_get s.cells r ≡ Some (variable StringSort None)))

pub record PlacesOf (In : ℕ → Type 0) (s : Store) (ws : List ℕ) : Type 0 where
  pub places : List ℕ
  pub each : AllByRecursion (IsPlace In s) places
  pub are_label : (σ : Solution) → Solves s σ → label_by σ places ≡ label_by σ ws

pub label-append : (σ : Solution) (xs ys : List ℕ) → label_by σ (xs ++ ys) ≡ label_by σ xs ++ label_by σ ys
label-append σ [] ys = refl
label-append σ (x ∷ xs) ys = ap (λ w. as_label (σ x) ++ w) (label-append σ xs ys) ∙ sym (append_assoc (as_label (σ x)) (label_by σ xs) (label_by σ ys))

marks-places : (In : ℕ → Type 0) (s : Store) (rs : List ℕ) → ((k : ℕ) → IsPart k rs → In k) → IsTrue (list_all (has_sort_at s MarkSort) rs) → AllByRecursion (IsPlace In s) rs
marks-places In s [] h f = tt
marks-places In s (r ∷ rs) h f = let p = and_parts (has_sort_at s MarkSort r) (list_all (has_sort_at s MarkSort) rs) f in ((h r (0, refl), inl p.0), marks-places In s rs (λ k q. h k (suc q.0, q.1)) p.1)

abbrev pub KeepsParts : (ℕ → Type 0) → Store → Type 0
KeepsParts In s = (r k : ℕ) (c : Cell) → In r → slice_get s.cells r ≡ Some c → IsPart k (parts_of c) → In k

string-places : (In : ℕ → Type 0) (s : Store) (rank : ℕ → ℕ) (bound : ℕ) → IsTrue (is_store s) → IsRanked s rank bound → KeepsParts In s → (n r : ℕ) (c : Cell) → rank r < n → In r → slice_get s.cells r ≡ Some c → IsTrue (sort_eq StringSort (sort_of c)) → PlacesOf In s (r ∷ [])
string-places In s rank bound h ranked parts zero r c l b e t = absurd (omega (arith, l))
string-places In s rank bound h ranked parts (suc n) r c l b e t = by c e t (cell-fits s h r c e) (λ k d m g w v. string-places In s rank bound h ranked parts n k d m g w v)
  where
    by : (d : Cell) → slice_get s.cells r ≡ Some d → IsTrue (sort_eq StringSort (sort_of d)) → IsTrue (parts_fit s d) → ((k : ℕ) (x : Cell) → rank k < n → In k → slice_get s.cells k ≡ Some x → IsTrue (sort_eq StringSort (sort_of x)) → PlacesOf In s (k ∷ [])) → PlacesOf In s (r ∷ [])
    by (variable TermSort b') g w f ih = absurd (false≢true w)
    by (variable MarkSort b') g w f ih = absurd (false≢true w)
    by (variable StringSort None) g w f ih = record { places = r ∷ []; each = ((b, inr g), tt); are_label = λ σ solves. refl }
    by (variable StringSort (Some k)) g w f ih =
        let p = cell-sorted s StringSort k f in
        let fall = ranked.falls r k (variable StringSort (Some k)) g (0, refl) in
        let m = ih k p.0 (omega (arith, l, fall)) (parts r k (variable StringSort (Some k)) b g (0, refl)) p.1 p.2 in
        record { places = m.places; each = m.each; are_label = λ σ solves. m.are_label σ solves ∙ ap (λ v. as_label v ++ []) (sym (solves r (variable StringSort (Some k)) g).1) }
    by (fun_cell x rs) g w f ih = absurd (false≢true w)
    by (eigen_cell x rs) g w f ih = absurd (false≢true w)
    by (new_cell x rs) g w f ih = absurd (false≢true w)
    by (string_cell rs) g w f ih = record { places = rs; each = marks-places In s rs (λ k p. parts r k (string_cell rs) b g p) f; are_label = λ σ solves. (let q = solves r (string_cell rs) g in marks_at-by σ rs q.0 q.1 ∙ sym (append-nil q.0) ∙ ap (λ v. as_label v ++ []) (sym q.2)) }

pub places-of : (In : ℕ → Type 0) (s : Store) (rank : ℕ → ℕ) (bound : ℕ) → IsTrue (is_store s) → IsRanked s rank bound → KeepsParts In s → (ws : List ℕ) → ((k : ℕ) → IsPart k ws → In k) → IsTrue (is_label s ws) → PlacesOf In s ws
places-of In s rank bound h ranked parts [] i k = record { places = []; each = tt; are_label = λ σ solves. refl }
places-of In s rank bound h ranked parts (w ∷ ws) i k =
    let p = and_parts (has_sort_at s MarkSort w || has_sort_at s StringSort w) (is_label s ws) k in
    join (places-of In s rank bound h ranked parts ws (λ j q. i j (suc q.0, q.1)) p.1) (by (has_sort_at s MarkSort w) refl p.0)
  where
    by : (t : Bool) → has_sort_at s MarkSort w ≡ t → IsTrue (t || has_sort_at s StringSort w) → PlacesOf In s (w ∷ [])
    by true e m = record { places = w ∷ []; each = ((i w (0, refl), inl e), tt); are_label = λ σ solves. refl }
    by false e m = let c = cell-sorted s StringSort w m in string-places In s rank bound h ranked parts (suc (rank w)) w c.0 (omega arith) (i w (0, refl)) c.1 c.2

    join : PlacesOf In s ws → PlacesOf In s (w ∷ []) → PlacesOf In s (w ∷ ws)
    join rest first = record {
      places = first.places ++ rest.places;
      each = each-append (IsPlace In s) first.places rest.places first.each rest.each;
      are_label = λ σ solves. label-append σ first.places rest.places ∙ ap₂ (λ a b. a ++ b) (first.are_label σ solves ∙ append-nil (as_label (σ w))) (rest.are_label σ solves);
    }

-- ---- place by place

pub mark-value : (v : CellValue) → IsTrue (has_sort MarkSort v) → (m : GroundMark) × (v ≡ a_mark m)
mark-value (a_mark m) h = (m, refl)
mark-value (a_term t) h = absurd (false≢true h)
mark-value (a_string w) h = absurd (false≢true h)

-- what the places have to do with one solution
record Apart (In : ℕ → Type 0) (s : Store) (rank : ℕ → ℕ) (bound : ℕ) (σ τ : Solution) (number : ℕ → ℕ) : Type 0 where
  store : IsTrue (is_store s)
  ranked : IsRanked s rank bound
  distinct : AreDistinct In s σ number
  other : Solves s τ

-- the one character of a place
place-mark : (In : ℕ → Type 0) (s : Store) (rank : ℕ → ℕ) (bound : ℕ) (σ τ : Solution) (number : ℕ → ℕ) → Apart In s rank bound σ τ number → (p : ℕ) → IsPlace In s p → (m : GroundMark) × (as_label (σ p) ≡ m ∷ [])
place-mark In s rank bound σ τ number h p (i, inl e) = let v = mark-value (σ p) (solved-sorted s σ h.distinct.solves MarkSort p e) in (v.0, ap as_label v.1)
place-mark In s rank bound σ τ number h p (i, inr e) = (g_spare_mark (number p), ap as_label (h.distinct.spares p StringSort i e))

mark-open : (In : ℕ → Type 0) (s : Store) (rank : ℕ → ℕ) (bound : ℕ) (σ τ : Solution) (number : ℕ → ℕ) → Apart In s rank bound σ τ number → (p q : ℕ) → In p → IsTrue (has_sort_at s MarkSort p) → In q → slice_get s.cells q ≡ Some (variable StringSort None) → ¬ (as_label (σ p) ≡ as_label (σ q))
mark-open In s rank bound σ τ number h p q i e j f z =
    let v = mark-value (σ p) (solved-sorted s σ h.distinct.solves MarkSort p e) in
    let y : v.0 ∷ [] ≡ g_spare_mark (number q) ∷ [] = sym (ap as_label v.1) ∙ z ∙ ap as_label (h.distinct.spares q StringSort j f) in
    let x : v.0 ≡ g_spare_mark (number q) = cc y in
    let c = cell-sorted s MarkSort p e in
    not-string-mark In s rank bound σ number h.store h.ranked h.distinct q p c.0 j i f c.1 (v.1 ∙ ap a_mark x)

place-same : (In : ℕ → Type 0) (s : Store) (rank : ℕ → ℕ) (bound : ℕ) (σ τ : Solution) (number : ℕ → ℕ) → Apart In s rank bound σ τ number → (p q : ℕ) → IsPlace In s p → IsPlace In s q → as_label (σ p) ≡ as_label (σ q) → as_label (τ p) ≡ as_label (τ q)
place-same In s rank bound σ τ number h p q (i, inl e) (j, inl f) z =
    let v = mark-value (σ p) (solved-sorted s σ h.distinct.solves MarkSort p e) in
    let u = mark-value (σ q) (solved-sorted s σ h.distinct.solves MarkSort q f) in
    let y : v.0 ∷ [] ≡ u.0 ∷ [] = sym (ap as_label v.1) ∙ z ∙ ap as_label u.1 in
    let x : v.0 ≡ u.0 = cc y in
    ap as_label (distinct-same In s rank bound σ number h.store h.ranked h.distinct τ h.other MarkSort p q i j e f (v.1 ∙ ap a_mark x ∙ sym u.1))
place-same In s rank bound σ τ number h p q (i, inl e) (j, inr f) z = absurd (mark-open In s rank bound σ τ number h p q i e j f z)
place-same In s rank bound σ τ number h p q (i, inr e) (j, inl f) z = absurd (mark-open In s rank bound σ τ number h q p j f i e (sym z))
place-same In s rank bound σ τ number h p q (i, inr e) (j, inr f) z =
    let y : g_spare_mark (number p) ∷ [] ≡ g_spare_mark (number q) ∷ [] = sym (ap as_label (h.distinct.spares p StringSort i e)) ∙ z ∙ ap as_label (h.distinct.spares q StringSort j f) in
    let x : number p ≡ number q = cc y in
    ap (λ r. as_label (τ r)) (h.distinct.apart p q StringSort i j e f x)

places-same : (In : ℕ → Type 0) (s : Store) (rank : ℕ → ℕ) (bound : ℕ) (σ τ : Solution) (number : ℕ → ℕ) → Apart In s rank bound σ τ number → (ps qs : List ℕ) → AllByRecursion (IsPlace In s) ps → AllByRecursion (IsPlace In s) qs → label_by σ ps ≡ label_by σ qs → label_by τ ps ≡ label_by τ qs
places-same In s rank bound σ τ number h [] [] a b e = refl
places-same In s rank bound σ τ number h [] (q ∷ qs) a b e = let v = place-mark In s rank bound σ τ number h q b.0 in let z : [] ≡ v.0 ∷ label_by σ qs = e ∙ ap (λ w. w ++ label_by σ qs) v.1 in cc z
places-same In s rank bound σ τ number h (p ∷ ps) [] a b e = let v = place-mark In s rank bound σ τ number h p a.0 in let z : v.0 ∷ label_by σ ps ≡ [] = sym (ap (λ w. w ++ label_by σ ps) v.1) ∙ e in cc z
places-same In s rank bound σ τ number h (p ∷ ps) (q ∷ qs) a b e =
    let v = place-mark In s rank bound σ τ number h p a.0 in
    let u = place-mark In s rank bound σ τ number h q b.0 in
    let z : v.0 ∷ label_by σ ps ≡ u.0 ∷ label_by σ qs = sym (ap (λ w. w ++ label_by σ ps) v.1) ∙ e ∙ ap (λ w. w ++ label_by σ qs) u.1 in
    let x : v.0 ≡ u.0 = cc z in
    let y : label_by σ ps ≡ label_by σ qs = cc z in
    ap₂ (λ k l. k ++ l) (place-same In s rank bound σ τ number h p q a.0 b.0 (v.1 ∙ ap (λ m. m ∷ []) x ∙ sym u.1)) (places-same In s rank bound σ τ number h ps qs a.1 b.1 y)

-- ---- labels and atoms

pub labels-same : (In : ℕ → Type 0) (s : Store) (rank : ℕ → ℕ) (bound : ℕ) (σ : Solution) (number : ℕ → ℕ) → IsTrue (is_store s) → IsRanked s rank bound → AreDistinct In s σ number → (τ : Solution) → Solves s τ → (ws vs : List ℕ) → ((k : ℕ) → IsPart k ws → In k) → ((k : ℕ) → IsPart k vs → In k) → IsTrue (is_label s ws) → IsTrue (is_label s vs) → label_by σ ws ≡ label_by σ vs → label_by τ ws ≡ label_by τ vs
labels-same In s rank bound σ number h ranked d τ t ws vs i j a b e =
    let m = places-of In s rank bound h ranked d.names ws i a in
    let n = places-of In s rank bound h ranked d.names vs j b in
    sym (m.are_label τ t) ∙ places-same In s rank bound σ τ number (record { store = h; ranked = ranked; distinct = d; other = t }) m.places n.places m.each n.each (m.are_label σ d.solves ∙ e ∙ sym (n.are_label σ d.solves)) ∙ n.are_label τ t

pub args-same : (In : ℕ → Type 0) (s : Store) (rank : ℕ → ℕ) (bound : ℕ) (σ : Solution) (number : ℕ → ℕ) → IsTrue (is_store s) → IsRanked s rank bound → AreDistinct In s σ number → (τ : Solution) → Solves s τ → (rs ks : List ℕ) → ((k : ℕ) → IsPart k rs → In k) → ((k : ℕ) → IsPart k ks → In k) → IsTrue (list_all (has_sort_at s TermSort) rs) → IsTrue (list_all (has_sort_at s TermSort) ks) → terms_by σ rs ≡ terms_by σ ks → terms_by τ rs ≡ terms_by τ ks
args-same In s rank bound σ number h ranked d τ t [] [] i j a b e = refl
args-same In s rank bound σ number h ranked d τ t [] (k ∷ ks) i j a b e = cc e
args-same In s rank bound σ number h ranked d τ t (r ∷ rs) [] i j a b e = cc e
args-same In s rank bound σ number h ranked d τ t (r ∷ rs) (k ∷ ks) i j a b e =
    let p = and_parts (has_sort_at s TermSort r) (list_all (has_sort_at s TermSort) rs) a in
    let q = and_parts (has_sort_at s TermSort k) (list_all (has_sort_at s TermSort) ks) b in
    let first : as_term (σ r) ≡ as_term (σ k) = cc e in
    let rest : terms_by σ rs ≡ terms_by σ ks = cc e in
    let same = term-same (σ r) (σ k) (solved-sorted s σ d.solves TermSort r p.0) (solved-sorted s σ d.solves TermSort k q.0) first in
    ap₂ (λ v ts. more_g_terms (as_term v) ts)
    (distinct-same In s rank bound σ number h ranked d τ t TermSort r k (i r (0, refl)) (j k (0, refl)) p.0 q.0 same)
    (args-same In s rank bound σ number h ranked d τ t rs ks (λ x y. i x (suc y.0, y.1)) (λ x y. j x (suc y.0, y.1)) p.1 q.1 rest)

pub atoms-same : (In : ℕ → Type 0) (s : Store) (rank : ℕ → ℕ) (bound : ℕ) (σ : Solution) (number : ℕ → ℕ) → IsTrue (is_store s) → IsRanked s rank bound → AreDistinct In s σ number → (a b : CellAtom) → IsAtomIn In s a → IsAtomIn In s b → literal_by σ a ≡ literal_by σ b → AreSame s a b
atoms-same In s rank bound σ number h ranked d a b ia ib e τ t =
    let p = and_parts (list_all (has_sort_at s TermSort) a.args) (is_label s a.label) ia.sorted in
    let q = and_parts (list_all (has_sort_at s TermSort) b.args) (is_label s b.label) ib.sorted in
    let args = args-same In s rank bound σ number h ranked d τ t a.args b.args ia.args ib.args p.0 q.0 (ap (λ (x : GroundLiteral). x.args) e) in
    let labels = labels-same In s rank bound σ number h ranked d τ t a.label b.label ia.label ib.label p.1 q.1 (ap (λ (x : GroundLiteral). x.label) e) in
    let signs : a.sign ≡ b.sign = ap (λ (x : GroundLiteral). x.sign) e in
    let symbols : a.symbol ≡ b.symbol = ap (λ (x : GroundLiteral). x.symbol) e in
    λ i. record { sign = signs i; symbol = symbols i; args = args i; label = labels i }
