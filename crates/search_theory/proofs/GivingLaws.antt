-- Giving strings their lengths by new mark variables, and making labels equal mark by mark.
use Rattle.std.proofs.Common.{replicate, ◌≡◌, ℕ, suc, List, [], ◌∷◌, ◌++◌, length, Bool, IsTrue, refl, sym, ◌∙◌, ap, ap₂, subst, Option, Some, None, slice_get, nat_lt, arith, lt-ltb, ltb-true}
use Rattle.std.specs.List.{list_all}
use Rattle.std.proofs.lemmas.Bool.{false≢true, and_parts, and_from}
use Rattle.plain_laws.proofs.Every.{all-weaken}
use Rattle.plain_laws.proofs.Places.{get-end}
use Rattle.calculus.specs.declared.sort.Sort.TheVariants.{MarkSort}
use Rattle.calculus.specs.Ground.{GroundMark}
use Rattle.store_theory.specs.Stores.{variable, string_cell, Store, has_sort_at, parts_fit, is_store, EndsAt, stays, goes_on, CellValue, a_term, a_mark, a_string, has_sort, Solution, cons_mark, marks_at, join_label, Solves, names_below}
use Rattle.store_theory.specs.Systems.{Equation, AreEqual, HaveLengths}
use Rattle.store_theory.specs.Bindings.{with_cell, with_variables_of, places_from}
use Rattle.store_theory.proofs.PatternLaws.{length-places}
use Rattle.search_theory.specs.States.{label_by, Agree}
use Rattle.search_theory.specs.Steps.{IsUnified}
use Rattle.search_theory.specs.Solving.{IsNarrowed, CannotEqual, CannotHave}
use Rattle.search_theory.proofs.SpareLaws.{own_cell, cell-fits, marks-there}
use Rattle.search_theory.proofs.GeneralLaws.{mark-parts}
use Rattle.search_theory.proofs.BuildingLaws.{put, put-here, agree-put, variable-added, agree-both, length-plus, variables-longer, variables-back, built-added, fewer-solved, solved-sorted, AreStores}
use Rattle.search_theory.proofs.AtomLaws.{marks_at-by}
use Rattle.search_theory.proofs.SolvingLaws.{lengths-agree}
use Rattle.search_theory.specs.MarkLists.{IsFlat, NeverSame, SameMarks}

-- ---- nothing, and one narrowing after the other

pub narrowed-not : (s : Store) (Q : Solution → Type 0) → ((σ : Solution) → Solves s σ → Q σ) → IsNarrowed s s Q
narrowed-not s Q h = record { longer = omega arith; back = λ σ t. (t, h σ t); forth = λ σ t q. (σ, t, (λ r l. refl)) }

-- the string at the cell has n characters
abbrev pub HasLength : Solution → ℕ → ℕ → Type 0
HasLength σ r n = (w : List GroundMark) × (σ r ≡ a_string w) × (length w ≡ n)

pub lengths-none : (s : Store) → IsNarrowed s s (λ σ. HaveLengths σ [] [])
lengths-none s = narrowed-not s (λ σ. HaveLengths σ [] []) (λ σ t. tt)

pub lengths-more : (s t u : Store) (r n : ℕ) (rs ns : List ℕ) → IsTrue (names_below (length s.cells) (r ∷ rs)) → IsNarrowed s t (λ σ. HasLength σ r n) → IsNarrowed t u (λ σ. HaveLengths σ rs ns) → IsNarrowed s u (λ σ. HaveLengths σ (r ∷ rs) (n ∷ ns))
lengths-more s t u r n rs ns below first rest =
    let p = and_parts (nat_lt r (length s.cells)) (names_below (length s.cells) rs) below in
    record {
      longer = let a = first.longer in let b = rest.longer in omega (arith, a, b);
      back = λ σ h. (let b = rest.back σ h in let a = first.back σ b.0 in (a.0, (a.1, b.1)));
      forth = λ σ h q.
          let (τ, th, agree) = first.forth σ h q.0 in
          let (υ, uh, more) = rest.forth τ th (lengths-agree (length s.cells) σ τ agree rs ns p.1 q.1) in
          (υ, uh, agree-both (length s.cells) (length t.cells) σ τ υ first.longer agree more);
    }

-- a first string or a later one cannot have its length
pub lengths-fail-first : (s : Store) (r n : ℕ) (rs ns : List ℕ) → ((σ : Solution) → Solves s σ → ¬ HasLength σ r n) → CannotHave s (r ∷ rs) (n ∷ ns)
lengths-fail-first s r n rs ns h σ t q = h σ t q.0

pub lengths-fail-later : (s t : Store) (r n : ℕ) (rs ns : List ℕ) → IsTrue (names_below (length s.cells) (r ∷ rs)) → IsNarrowed s t (λ σ. HasLength σ r n) → CannotHave t rs ns → CannotHave s (r ∷ rs) (n ∷ ns)
lengths-fail-later s t r n rs ns below first h σ k q =
    let p = and_parts (nat_lt r (length s.cells)) (names_below (length s.cells) rs) below in
    let (τ, th, agree) = first.forth σ k q.0 in
    h τ th (lengths-agree (length s.cells) σ τ agree rs ns p.1 q.1)

-- ---- one string

pub length-marks : (σ : Solution) (rs : List ℕ) (w : List GroundMark) → marks_at σ rs ≡ Some w → length w ≡ length rs
length-marks σ [] w e = let q : [] ≡ w = cc e in sym (ap length q)
length-marks σ (r ∷ rs) w e = let p = mark-parts σ r rs w e in ap length p.all_of_them ∙ ap suc (length-marks σ rs p.rest p.are_rest)

-- new mark variables take any characters
marks-forth : (w : List GroundMark) (s : Store) (n : ℕ) → n ≡ length s.cells → AreStores (replicate (length w) MarkSort) s → (σ : Solution) → Solves s σ → (τ : Solution) × Solves (with_variables_of (replicate (length w) MarkSort) s) τ × Agree (length s.cells) σ τ × (marks_at τ (places_from n (length w)) ≡ Some w)
marks-forth [] s n e h σ k = (σ, k, (λ r l. refl), refl)
marks-forth (m ∷ w) s n e h σ k =
    let size = length s.cells in
    let c = variable MarkSort None in
    let step = put size (a_mark m) σ in
    let long = length-plus c s in
    let (τ, solved, agree, values) = marks-forth w (with_cell c s) (suc n) (omega (arith, e, long)) h.1 step (variable-added s h.0 MarkSort (a_mark m) refl σ k) in
    let here : τ n ≡ a_mark m = sym (agree n (lt-ltb n (length (with_cell c s).cells) (omega (arith, e, long)))) ∙ ap step e ∙ put-here size (a_mark m) σ in
    (τ, solved, agree-both size (length (with_cell c s).cells) σ step τ (omega (arith, long)) (agree-put size (a_mark m) σ) agree, ap₂ cons_mark here values)

abbrev MarksForth : Store → Solution → ℕ → List GroundMark → Type 0
MarksForth old σ n w = (τ : Solution) × Solves (with_variables_of (replicate n MarkSort) old) τ × Agree (length old.cells) σ τ × (marks_at τ (places_from (length old.cells) n) ≡ Some w)

-- a string that is made equal to a new built string of n new mark variables has n characters, whatever they are
pub length-given : (old new : Store) (r n : ℕ) → AreStores (replicate n MarkSort) old → IsTrue (is_store (with_variables_of (replicate n MarkSort) old)) → IsTrue (parts_fit (with_variables_of (replicate n MarkSort) old) (string_cell (places_from (length old.cells) n))) → IsTrue (nat_lt r (length old.cells)) → IsUnified (with_cell (string_cell (places_from (length old.cells) n)) (with_variables_of (replicate n MarkSort) old)) new r (length (with_variables_of (replicate n MarkSort) old).cells) → IsNarrowed old new (λ σ. HasLength σ r n)
length-given old new r n stores store fits below u =
    let marks = places_from (length old.cells) n in
    let mid = with_variables_of (replicate n MarkSort) old in
    let c = string_cell marks in
    let long = length-plus c mid in
    let longer = variables-longer (replicate n MarkSort) old in
    record {
      longer = let z = u.size in omega (arith, z, long, longer);
      back = λ σ h.
          let b = u.back σ h in
          let q = b.0 (length mid.cells) c (get-end mid.cells c) in
          (variables-back (replicate n MarkSort) old σ (fewer-solved mid c σ b.0), (q.0, b.1 ∙ q.2, length-marks σ marks q.0 q.1 ∙ length-places (length old.cells) n));
      forth = λ σ h q.
          let start = subst (λ m. MarksForth old σ m q.0) q.2 (marks-forth q.0 old (length old.cells) refl (subst (λ m. AreStores (replicate m MarkSort) old) (sym q.2) stores) σ h) in
          let (τ, solved, agree, values) = start in
          let size = length mid.cells in
          let v = own_cell τ size c in
          let υ = put size v τ in
          let there : υ size ≡ a_string q.0 = put-here size v τ ∙ ap a_string (marks_at-by τ marks q.0 values) in
          let kept : τ r ≡ υ r = agree-put size v τ r (lt-ltb r size (let k = ltb-true r (length old.cells) below in omega (arith, k, longer))) in
          (υ, u.forth υ (built-added mid store c fits refl τ solved) (sym kept ∙ sym (agree r below) ∙ q.1 ∙ sym there), agree-both (length old.cells) size σ τ υ longer agree (agree-put size v τ));
    }

-- ---- a string that is bound to a built one

-- the bindings lead to a cell with the same value
pub ends-same : (s : Store) (r v : ℕ) → EndsAt s r v → (σ : Solution) → Solves s σ → σ r ≡ σ v
ends-same s r v (stays e f) σ h = refl
ends-same s r v (goes_on {k = k} {sort = sort} e more) σ h = (h r (variable sort (Some k)) e).1 ∙ ends-same s k v more σ h

pub length-there : (s : Store) (r v : ℕ) (rs : List ℕ) → EndsAt s r v → slice_get s.cells v ≡ Some (string_cell rs) → IsNarrowed s s (λ σ. HasLength σ r (length rs))
length-there s r v rs ends e = narrowed-not s (λ σ. HasLength σ r (length rs)) (λ σ h. let q = h v (string_cell rs) e in (q.0, ends-same s r v ends σ h ∙ q.2, length-marks σ rs q.0 q.1))

pub length-other : (s : Store) (r v n : ℕ) (rs : List ℕ) → EndsAt s r v → slice_get s.cells v ≡ Some (string_cell rs) → ¬ (length rs ≡ n) → (σ : Solution) → Solves s σ → ¬ HasLength σ r n
length-other s r v n rs ends e differ σ h (w, is_w, l) =
    let q = h v (string_cell rs) e in
    let z : a_string w ≡ a_string q.0 = sym is_w ∙ ends-same s r v ends σ h ∙ q.2 in
    let same : w ≡ q.0 = cc z in
    differ (sym (length-marks σ rs q.0 q.1) ∙ sym (ap length same) ∙ l)

-- ---- labels as lists of marks

pub flat-none : (s : Store) → IsFlat s [] []
flat-none s = record { sorted = refl; same = λ σ h. refl }

pub joined-mark : (v : CellValue) → IsTrue (has_sort MarkSort v) → (o : Option (List GroundMark)) → join_label v o ≡ cons_mark v o
joined-mark (a_mark m) h (Some w) = refl
joined-mark (a_mark m) h None = refl
joined-mark (a_term t) h o = absurd (false≢true h)
joined-mark (a_string w) h o = absurd (false≢true h)

pub flat-mark : (s : Store) (w : ℕ) (ws ms : List ℕ) → IsTrue (has_sort_at s MarkSort w) → IsFlat s ws ms → IsFlat s (w ∷ ws) (w ∷ ms)
flat-mark s w ws ms m h = record {
  sorted = and_from (has_sort_at s MarkSort w) (list_all (has_sort_at s MarkSort) ms) m h.sorted;
  same = λ σ t. ap (join_label (σ w)) (h.same σ t) ∙ joined-mark (σ w) (solved-sorted s σ t MarkSort w m) (marks_at σ ms);
}

joined-string : (σ : Solution) (rs ms : List ℕ) (v : List GroundMark) → marks_at σ rs ≡ Some v → join_label (a_string v) (marks_at σ ms) ≡ marks_at σ (rs ++ ms)
joined-string σ [] ms v e = let q : [] ≡ v = cc e in ap (λ x. join_label (a_string x) (marks_at σ ms)) (sym q) ∙ none (marks_at σ ms)
  where
    none : (o : Option (List GroundMark)) → join_label (a_string []) o ≡ o
    none None = refl
    none (Some w) = refl
joined-string σ (r ∷ rs) ms v e =
    let p = mark-parts σ r rs v e in
    ap (λ x. join_label (a_string x) (marks_at σ ms)) p.all_of_them ∙ one p.first p.rest (marks_at σ ms) ∙ ap₂ cons_mark (sym p.is_first) (joined-string σ rs ms p.rest p.are_rest)
  where
    one : (m : GroundMark) (w : List GroundMark) (o : Option (List GroundMark)) → join_label (a_string (m ∷ w)) o ≡ cons_mark (a_mark m) (join_label (a_string w) o)
    one m w None = refl
    one m w (Some u) = refl

all-both : (p : ℕ → Bool) (xs ys : List ℕ) → IsTrue (list_all p xs) → IsTrue (list_all p ys) → IsTrue (list_all p (xs ++ ys))
all-both p [] ys a b = b
all-both p (x ∷ xs) ys a b = let q = and_parts (p x) (list_all p xs) a in and_from (p x) (list_all p (xs ++ ys)) q.0 (all-both p xs ys q.1 b)

pub flat-string : (s : Store) (w v : ℕ) (rs ws ms : List ℕ) → IsTrue (is_store s) → EndsAt s w v → slice_get s.cells v ≡ Some (string_cell rs) → IsFlat s ws ms → IsFlat s (w ∷ ws) (rs ++ ms)
flat-string s w v rs ws ms st ends e h = record {
  sorted = all-both (has_sort_at s MarkSort) rs ms (cell-fits s st v (string_cell rs) e) h.sorted;
  same = λ σ t. (let q = t v (string_cell rs) e in ap₂ join_label (ends-same s w v ends σ t ∙ q.2) (h.same σ t) ∙ joined-string σ rs ms q.0 q.1);
}

-- ---- mark by mark

pub same-none : (s : Store) → IsNarrowed s s (SameMarks [] [])
same-none s = narrowed-not s (SameMarks [] []) (λ σ t. refl)

both-marks : (s : Store) (σ : Solution) → Solves s σ → (m n : ℕ) (ms ns : List ℕ) → IsTrue (list_all (has_sort_at s MarkSort) (m ∷ ms)) → IsTrue (list_all (has_sort_at s MarkSort) (n ∷ ns)) → SameMarks (m ∷ ms) (n ∷ ns) σ → (σ m ≡ σ n) × SameMarks ms ns σ
both-marks s σ t m n ms ns a b e =
    let there = marks-there σ (m ∷ ms) (all-weaken (has_sort_at s MarkSort) (λ r. has_sort MarkSort (σ r)) (solved-sorted s σ t MarkSort) (m ∷ ms) a) in
    let p = mark-parts σ m ms (label_by σ (m ∷ ms)) there in
    let q = mark-parts σ n ns (label_by σ (m ∷ ms)) (sym e ∙ there) in
    let z : p.first ∷ p.rest ≡ q.first ∷ q.rest = sym p.all_of_them ∙ q.all_of_them in
    let x : p.first ≡ q.first = cc z in
    let y : p.rest ≡ q.rest = cc z in
    (p.is_first ∙ ap a_mark x ∙ sym q.is_first, p.are_rest ∙ ap Some y ∙ sym q.are_rest)

pub same-more : (s t u : Store) (m n : ℕ) (ms ns : List ℕ) → IsTrue (list_all (has_sort_at s MarkSort) (m ∷ ms)) → IsTrue (list_all (has_sort_at s MarkSort) (n ∷ ns)) → IsUnified s t m n → IsNarrowed t u (SameMarks ms ns) → IsNarrowed s u (SameMarks (m ∷ ms) (n ∷ ns))
same-more s t u m n ms ns a b first rest = record {
  longer = let x = first.size in let y = rest.longer in omega (arith, x, y);
  back = λ σ h. (let r = rest.back σ h in let f = first.back σ r.0 in (f.0, ap₂ cons_mark f.1 r.1));
  forth = λ σ h e.
      let p = both-marks s σ h m n ms ns a b e in
      let (τ, th, agree) = rest.forth σ (first.forth σ h p.0) p.1 in
      (τ, th, subst (λ k. Agree k σ τ) first.size agree);
}

pub never-first : (s : Store) (m n : ℕ) (ms ns : List ℕ) → IsTrue (list_all (has_sort_at s MarkSort) (m ∷ ms)) → IsTrue (list_all (has_sort_at s MarkSort) (n ∷ ns)) → ((σ : Solution) → Solves s σ → ¬ (σ m ≡ σ n)) → NeverSame s (m ∷ ms) (n ∷ ns)
never-first s m n ms ns a b h σ t e = h σ t (both-marks s σ t m n ms ns a b e).0

pub never-later : (s t : Store) (m n : ℕ) (ms ns : List ℕ) → IsTrue (list_all (has_sort_at s MarkSort) (m ∷ ms)) → IsTrue (list_all (has_sort_at s MarkSort) (n ∷ ns)) → IsUnified s t m n → NeverSame t ms ns → NeverSame s (m ∷ ms) (n ∷ ns)
never-later s t m n ms ns a b u h σ k e = let p = both-marks s σ k m n ms ns a b e in h σ (u.forth σ k p.0) p.1

pub never-length : (s : Store) (ms ns : List ℕ) → IsTrue (list_all (has_sort_at s MarkSort) ms) → ¬ (length ms ≡ length ns) → NeverSame s ms ns
never-length s ms ns a differ σ t e =
    let there = marks-there σ ms (all-weaken (has_sort_at s MarkSort) (λ r. has_sort MarkSort (σ r)) (solved-sorted s σ t MarkSort) ms a) in
    differ (sym (length-marks σ ms (label_by σ ms) there) ∙ length-marks σ ns (label_by σ ms) (sym e ∙ there))

-- ---- equations between labels

equal-flat : (s : Store) (e : Equation) (ms ns : List ℕ) → IsFlat s e.left ms → IsFlat s e.right ns → (σ : Solution) → Solves s σ → SameMarks ms ns σ → AreEqual σ e
equal-flat s e ms ns l r σ t q =
    let there = marks-there σ ms (all-weaken (has_sort_at s MarkSort) (λ r. has_sort MarkSort (σ r)) (solved-sorted s σ t MarkSort) ms l.sorted) in
    (label_by σ ms, l.same σ t ∙ there, r.same σ t ∙ sym q ∙ there)

flat-equal : (s : Store) (e : Equation) (ms ns : List ℕ) → IsFlat s e.left ms → IsFlat s e.right ns → (σ : Solution) → Solves s σ → AreEqual σ e → SameMarks ms ns σ
flat-equal s e ms ns l r σ t (w, a, b) = sym (l.same σ t) ∙ a ∙ sym b ∙ r.same σ t

pub equation-made : (s t : Store) (e : Equation) (ms ns : List ℕ) → IsFlat s e.left ms → IsFlat s e.right ns → IsNarrowed s t (SameMarks ms ns) → IsNarrowed s t (λ σ. AreEqual σ e)
equation-made s t e ms ns l r n = record {
  longer = n.longer;
  back = λ σ h. (let b = n.back σ h in (b.0, equal-flat s e ms ns l r σ b.0 b.1));
  forth = λ σ h q. n.forth σ h (flat-equal s e ms ns l r σ h q);
}

pub equation-never : (s : Store) (e : Equation) (ms ns : List ℕ) → IsFlat s e.left ms → IsFlat s e.right ns → NeverSame s ms ns → CannotEqual s e
equation-never s e ms ns l r n σ t q = n σ t (flat-equal s e ms ns l r σ t q)
