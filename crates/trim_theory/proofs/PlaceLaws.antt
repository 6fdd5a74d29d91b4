-- What an edited branch holds, and how it grows: each entry of the given branch stands on it under its new number.
use Rattle.std.proofs.Common.{◌≡◌, ◌⊎◌, ℕ, zero, suc, ◌<◌, ◌≤◌, List, [], ◌∷◌, ◌++◌, length, map, take, get_or, Bool, true, false, ◌||◌, Option, Some, None, refl, sym, ◌∙◌, ap, subst, inl, inr, slice_get, arith}
use Rattle.std.specs.List.{list_any}
use Rattle.std.specs.Option.{option_map}
use Rattle.std.proofs.Math.Seq.{get_or-append_seam}
use Rattle.std.proofs.lemmas.Bool.{or_parts, or_from}
use Rattle.std.proofs.lemmas.List.{append_assoc, append-nil, length-append, get_or_append_left, take-append-le}
use Rattle.std.proofs.lemmas.List.Folds.{list_any-append}
use Rattle.std.proofs.lemmas.Option.{slice_get-map, slice_get_within}
use Rattle.plain_laws.proofs.Options.{none_some, some_injective}
use Rattle.calculus.specs.declared.setting.Logic.{Logic}
use Rattle.calculus.specs.declared.sign.Sign.{Sign}
use Rattle.calculus.specs.Syntax.{Term, Formula, atom, neg, conj, disj, imp, all, ex, box, dia}
use Rattle.calculus.specs.Kinds.{Signed, shape_of, modal_of, components}
use Rattle.calculus.specs.Substitution.{any_leaf_in}
use Rattle.calculus.specs.Derivations.{Entry, Sequent, Names, Label}
use Rattle.calculus.specs.Calculus.{entry_of, entry_at, holds_character, is_in_home, is_eigen}
use Rattle.trim_theory.specs.Bare.{bare_of}
use Rattle.trim_theory.specs.Reading.{bare_entry}
use Rattle.trim_theory.specs.Editing.{Fork, Place, place, added, added_all, resumed_at, is_plain_alpha, zeros, inserted, referred}
use Rattle.trim_theory.proofs.TrimLaws.{Fresher}
use Rattle.trim_theory.proofs.ReadingLaws.{map-append, bare-length}

-- ---- entries of a longer branch

slice-more : {A : Type 0} (xs ys : List A) (k : ℕ) (e : A) → slice_get xs k ≡ Some e → slice_get (xs ++ ys) k ≡ Some e
slice-more [] ys k e h = absurd (none_some h)
slice-more (x ∷ xs) ys zero e h = h
slice-more (x ∷ xs) ys (suc k) e h = slice-more xs ys k e h

slice-first : {A : Type 0} (xs ys : List A) (e : A) → slice_get (xs ++ e ∷ ys) (length xs) ≡ Some e
slice-first [] ys e = refl
slice-first (x ∷ xs) ys e = slice-first xs ys e

slice-one : {A : Type 0} (xs : List A) (e : A) (k : ℕ) (f : A) → slice_get (xs ++ e ∷ []) k ≡ Some f → (slice_get xs k ≡ Some f) ⊎ ((k ≡ length xs) × (e ≡ f))
slice-one [] e zero f h = inr (refl, some_injective _ h)
slice-one [] e (suc k) f h = absurd (none_some h)
slice-one (x ∷ xs) e zero f h = inl h
slice-one (x ∷ xs) e (suc k) f h = elim (slice-one xs e k f h) [
  | inl g ↦ inl g
  | inr g ↦ inr (ap suc g.0, g.1)
]

pub entry-more : (r xs : Sequent) (k : ℕ) (e : Entry) → entry_of r k ≡ Some e → entry_of (r ++ xs) k ≡ Some e
entry-more r xs zero e h = absurd (none_some h)
entry-more r xs (suc k) e h = slice-more r xs k e h

entry-first : (u v : Sequent) (m : ℕ) (e : Entry) → m ≡ suc (length u) → entry_of (u ++ e ∷ v) m ≡ Some e
entry-first u v m e h = ap (entry_of (u ++ e ∷ v)) h ∙ slice-first u v e

one-longer : {A : Type 0} (xs : List A) (x : A) → length (xs ++ x ∷ []) ≡ suc (length xs)
one-longer xs x = let h = length-append xs (x ∷ []) in let g : length (x ∷ []) ≡ 1 = refl in omega arith

-- an entry with this sign and this formula without terms
bare-some : (o : Option Entry) (x : Signed) → option_map bare_of o ≡ Some x → (e : Entry) × (o ≡ Some e) × (bare_of e ≡ x)
bare-some None x h = absurd (none_some h)
bare-some (Some e) x h = (e, refl, some_injective _ h)

pub bare-from : (r : Sequent) (n : ℕ) (x : Signed) → bare_entry (map bare_of r) n ≡ Some x → (e : Entry) × (entry_of r n ≡ Some e) × (bare_of e ≡ x)
bare-from r zero x h = absurd (none_some h)
bare-from r (suc k) x h = bare-some (slice_get r k) x (sym (slice_get-map bare_of r k) ∙ h)

-- ---- what stands on the branch

-- from the entry after the first k ones on, the branch has the components of the entry n
pub record AreComponents (l : Logic) (r : Sequent) (k n : ℕ) : Type 0 where
  pub whole : Entry
  pub front : Sequent
  pub behind : Sequent
  pub stands : entry_of r n ≡ Some whole
  pub plain : is_plain_alpha (modal_of l whole.sign whole.formula) (shape_of whole.sign whole.formula) ≡ true
  pub split : r ≡ front ++ (map (entry_at whole.label) (components whole.sign whole.formula) ++ behind)
  pub here : length front ≡ k

components-more : (l : Logic) (r xs : Sequent) (k n : ℕ) → AreComponents l r k n → AreComponents l (r ++ xs) k n
components-more l r xs k n a =
    let parts = map (entry_at a.whole.label) (components a.whole.sign a.whole.formula) in
    record {
      whole = a.whole;
      front = a.front;
      behind = a.behind ++ xs;
      stands = entry-more r xs n a.whole a.stands;
      plain = a.plain;
      split = ap (λ z. z ++ xs) a.split ∙ append_assoc a.front (parts ++ a.behind) xs ∙ ap (λ z. a.front ++ z) (append_assoc parts a.behind xs);
      here = a.here;
    }

-- the lists of a place tell of the new branch r, and of the given one s
pub record Tells (l : Logic) (br : List Signed) (ps : List ℕ) (tb : List ℕ) (s r : Sequent) : Type 0 where
  pub bare : br ≡ map bare_of r
  pub long : length ps ≡ length r
  pub parents : (k n : ℕ) → 0 < n → get_or ps k 0 ≡ n → AreComponents l r k n
  pub table : length tb ≡ suc (length s)
  pub same : (k : ℕ) (e : Entry) → entry_of s k ≡ Some e → entry_of r (get_or tb k 0) ≡ Some e

abbrev pub TellsAt : Logic → Place → Sequent → Sequent → Type 0
TellsAt l w s r = Tells l w.branch w.parents w.table s r

no_zero : (ys : List Signed) (k : ℕ) → get_or (zeros ys) k 0 ≡ 0
no_zero [] k = refl
no_zero (y ∷ ys) zero = refl
no_zero (y ∷ ys) (suc k) = no_zero ys k

parent-cases : (ps : List ℕ) (q : ℕ) (ys : List Signed) (k n : ℕ) → 0 < n → get_or (ps ++ q ∷ zeros ys) k 0 ≡ n → (get_or ps k 0 ≡ n) ⊎ ((k ≡ length ps) × (q ≡ n))
parent-cases [] q ys zero n l h = inr (refl, h)
parent-cases [] q ys (suc k) n l h = let g = no_zero ys k in absurd (omega (arith, g, h))
parent-cases (p ∷ ps) q ys zero n l h = inl h
parent-cases (p ∷ ps) q ys (suc k) n l h = elim (parent-cases ps q ys k n l h) [
  | inl g ↦ inl g
  | inr g ↦ inr (ap suc g.0, g.1)
]

zeros-long : (xs : Sequent) → length (zeros (map bare_of xs)) ≡ length xs
zeros-long [] = refl
zeros-long (x ∷ xs) = ap suc (zeros-long xs)

-- entries that the new branch alone gets, of which the first one is one of the entry n
pub insert-tells : (l : Logic) (w : Place) (s r xs : Sequent) (n : ℕ) → (0 < n → AreComponents l (r ++ xs) (length r) n) → TellsAt l w s r → TellsAt l (inserted n (map bare_of xs) w) s (r ++ xs)
insert-tells l w s r [] n a t = subst (λ z. TellsAt l w s z) (sym (append-nil r)) t
insert-tells l w s r (x ∷ xs) n a t =
    let p = length-append w.parents (n ∷ zeros (map bare_of xs)) in
    let q = length-append r (x ∷ xs) in
    let z = zeros-long xs in
    let g = t.long in
    let ones : length (n ∷ zeros (map bare_of xs)) ≡ suc (length (zeros (map bare_of xs))) = refl in
    let twos : length (x ∷ xs) ≡ suc (length xs) = refl in
    record {
      bare = ap (λ z. z ++ map bare_of (x ∷ xs)) t.bare ∙ map-append r (x ∷ xs);
      long = omega arith;
      parents = λ k i less h. elim (parent-cases w.parents n (map bare_of xs) k i less h) [
        | inl g ↦ components-more l r (x ∷ xs) k i (t.parents k i less g)
        | inr g ↦
            let here : length r ≡ k = sym (g.0 ∙ t.long) in
            subst (λ j. AreComponents l (r ++ x ∷ xs) j i) here (subst (λ j. AreComponents l (r ++ x ∷ xs) (length r) j) g.1 (a (subst (λ j. 0 < j) (sym g.1) less)))
      ];
      table = t.table;
      same = λ k e h. entry-more r (x ∷ xs) (get_or w.table k 0) e (t.same k e h);
    }

-- an entry that the given branch alone gets
pub refer-tells : (l : Logic) (br : List Signed) (ps tb : List ℕ) (s r : Sequent) (m : ℕ) (e : Entry) → entry_of r m ≡ Some e → Tells l br ps tb s r → Tells l br ps (tb ++ m ∷ []) (s ++ e ∷ []) r
refer-tells l br ps tb s r m e at t = record {
  bare = t.bare;
  long = t.long;
  parents = t.parents;
  table = one-longer tb m ∙ ap suc (t.table ∙ sym (one-longer s e));
  same = λ k f h. refer-same k f h;
}
  where
    refer-same : (k : ℕ) (f : Entry) → entry_of (s ++ e ∷ []) k ≡ Some f → entry_of r (get_or (tb ++ m ∷ []) k 0) ≡ Some f
    refer-same zero f h = absurd (none_some h)
    refer-same (suc i) f h = elim (slice-one s e i f h) [
      | inl g ↦
          let w = slice_get_within s i f g in
          let long = t.table in
          ap (entry_of r) (get_or_append_left tb (m ∷ []) 0 (suc i) (omega arith)) ∙ t.same (suc i) f g
      | inr g ↦
          let here : suc i ≡ length tb = ap suc g.0 ∙ sym t.table in
          ap (λ j. entry_of r (get_or (tb ++ m ∷ []) j 0)) here ∙ ap (entry_of r) (get_or-append_seam tb m [] 0) ∙ at ∙ ap Some g.1
    ]

-- an entry that both get
pub add-tells : (l : Logic) (w : Place) (s r : Sequent) (e : Entry) → TellsAt l w s r → TellsAt l (added (bare_of e) w) (s ++ e ∷ []) (r ++ e ∷ [])
add-tells l w s r e t =
    let more = insert-tells l w s r (e ∷ []) 0 (λ less. absurd (omega (arith, less))) t in
    let last : length (w.branch ++ bare_of e ∷ []) ≡ suc (length r) = one-longer w.branch (bare_of e) ∙ ap suc (ap length t.bare ∙ bare-length r) in
    refer-tells l (w.branch ++ bare_of e ∷ []) (w.parents ++ 0 ∷ []) w.table s (r ++ e ∷ []) (length (w.branch ++ bare_of e ∷ [])) e (entry-first r [] _ e last) more

pub add_all-tells : (l : Logic) (xs : Sequent) (w : Place) (s r : Sequent) → TellsAt l w s r → TellsAt l (added_all (map bare_of xs) w) (s ++ xs) (r ++ xs)
add_all-tells l [] w s r t = subst (λ z. TellsAt l w z (r ++ [])) (sym (append-nil s)) (subst (λ z. TellsAt l w s z) (sym (append-nil r)) t)
add_all-tells l (x ∷ xs) w s r t =
    let below = add_all-tells l xs (added (bare_of x) w) (s ++ x ∷ []) (r ++ x ∷ []) (add-tells l w s r x t) in
    subst (λ z. TellsAt l (added_all (map bare_of xs) (added (bare_of x) w)) z (r ++ x ∷ xs)) (append_assoc s (x ∷ []) xs)
    (subst (λ z. TellsAt l (added_all (map bare_of xs) (added (bare_of x) w)) ((s ++ x ∷ []) ++ xs) z) (append_assoc r (x ∷ []) xs) below)

-- entries of the given branch that stand on the new one already
pub refer_all-tells : (l : Logic) (xs : Sequent) (m : ℕ) (w : Place) (s r u v : Sequent) → r ≡ u ++ (xs ++ v) → m ≡ suc (length u) → TellsAt l w s r → TellsAt l (referred m (map bare_of xs) w) (s ++ xs) r
refer_all-tells l [] m w s r u v h g t = subst (λ z. TellsAt l w z r) (sym (append-nil s)) t
refer_all-tells l (x ∷ xs) m w s r u v h g t =
    let at : entry_of r m ≡ Some x = ap (λ z. entry_of z m) h ∙ entry-first u (xs ++ v) m x g in
    let one = refer-tells l w.branch w.parents w.table s r m x at t in
    let next : r ≡ (u ++ x ∷ []) ++ (xs ++ v) = h ∙ sym (append_assoc u (x ∷ []) (xs ++ v)) in
    let below = refer_all-tells l xs (suc m) (place w.branch w.parents (w.table ++ m ∷ []) w.forks) (s ++ x ∷ []) r (u ++ x ∷ []) v next (ap suc (g ∙ sym (one-longer u x))) one in
    subst (λ z. TellsAt l (referred (suc m) (map bare_of xs) (place w.branch w.parents (w.table ++ m ∷ []) w.forks)) z r) (append_assoc s (x ∷ []) xs) below

-- ---- right sides that are still to come

pub record IsWaiting (l : Logic) (names : Names) (br : List Signed) (ps : List ℕ) (tb : List ℕ) (f : Fork) (s r : Sequent) : Type 0 where
  pub in_branch : f.branch ≤ length br
  pub in_parents : f.branch ≤ length ps
  pub in_table : f.table ≤ length tb
  pub tells : TellsAt l (added f.first (place (take f.branch br) (take f.branch ps) (take f.table tb) [])) s r
  pub fresh : Fresher names s r

abbrev pub AreWaiting : Logic → Names → List Signed → List ℕ → List ℕ → List Fork → List Sequent → List Sequent → Type 0
AreWaiting l names br ps tb [] [] [] = Unit {0}
AreWaiting l names br ps tb [] [] (r ∷ rs) = ⊥
AreWaiting l names br ps tb [] (s ∷ ss) rs = ⊥
AreWaiting l names br ps tb (f ∷ fs) [] rs = ⊥
AreWaiting l names br ps tb (f ∷ fs) (s ∷ ss) [] = ⊥
AreWaiting l names br ps tb (f ∷ fs) (s ∷ ss) (r ∷ rs) = IsWaiting l names br ps tb f s r × AreWaiting l names (take f.branch br) (take f.branch ps) (take f.table tb) fs ss rs

abbrev pub AreWaitingAt : Logic → Names → Place → List Sequent → List Sequent → Type 0
AreWaitingAt l names w ss rs = AreWaiting l names w.branch w.parents w.table w.forks ss rs

-- the lists begin alike
abbrev pub Begins : {A : Type 0} → List A → List A → Type 0
Begins {A} xs ys = (zs : List A) × (ys ≡ xs ++ zs)

pub begins-same : {A : Type 0} (xs : List A) → Begins xs xs
begins-same xs = ([], sym (append-nil xs))

begins-long : {A : Type 0} (xs ys : List A) (n : ℕ) → Begins xs ys → n ≤ length xs → n ≤ length ys
begins-long xs ys n h less = let a = ap length h.1 ∙ length-append xs h.0 in omega arith

begins-take : {A : Type 0} (xs ys : List A) (n : ℕ) → Begins xs ys → n ≤ length xs → take n xs ≡ take n ys
begins-take xs ys n h less = sym (ap (take n) h.1 ∙ take-append-le n xs h.0 less)

pub waiting-more : (l : Logic) (names : Names) (br cr : List Signed) (ps qs tb ub : List ℕ) (fs : List Fork) (ss rs : List Sequent) → Begins br cr → Begins ps qs → Begins tb ub → AreWaiting l names br ps tb fs ss rs → AreWaiting l names cr qs ub fs ss rs
waiting-more l names br cr ps qs tb ub [] [] [] a b c h = tt
waiting-more l names br cr ps qs tb ub [] [] (r ∷ rs) a b c h = elim h [ ]
waiting-more l names br cr ps qs tb ub [] (s ∷ ss) rs a b c h = elim h [ ]
waiting-more l names br cr ps qs tb ub (f ∷ fs) [] rs a b c h = elim h [ ]
waiting-more l names br cr ps qs tb ub (f ∷ fs) (s ∷ ss) [] a b c h = elim h [ ]
waiting-more l names br cr ps qs tb ub (f ∷ fs) (s ∷ ss) (r ∷ rs) a b c h =
    let x = begins-take br cr f.branch a h.0.in_branch in
    let y = begins-take ps qs f.branch b h.0.in_parents in
    let z = begins-take tb ub f.table c h.0.in_table in (
      record {
        in_branch = begins-long br cr f.branch a h.0.in_branch;
        in_parents = begins-long ps qs f.branch b h.0.in_parents;
        in_table = begins-long tb ub f.table c h.0.in_table;
        tells = subst (λ k. TellsAt l (added f.first (place k (take f.branch qs) (take f.table ub) [])) s r) x
            (subst (λ k. TellsAt l (added f.first (place (take f.branch br) k (take f.table ub) [])) s r) y
            (subst (λ k. TellsAt l (added f.first (place (take f.branch br) (take f.branch ps) k [])) s r) z h.0.tells));
        fresh = h.0.fresh;
      },
      subst (λ k. AreWaiting l names k (take f.branch qs) (take f.table ub) fs ss rs) x
          (subst (λ k. AreWaiting l names (take f.branch br) k (take f.table ub) fs ss rs) y
          (subst (λ k. AreWaiting l names (take f.branch br) (take f.branch ps) k fs ss rs) z h.1)),
    )

pub add_all-waits : (l : Logic) (names : Names) (ys : List Signed) (w : Place) (ss rs : List Sequent) → AreWaitingAt l names w ss rs → AreWaitingAt l names (added_all ys w) ss rs
add_all-waits l names [] w ss rs h = h
add_all-waits l names (y ∷ ys) w ss rs h = add_all-waits l names ys (added y w) ss rs (waiting-more l names w.branch _ w.parents _ w.table _ w.forks ss rs (y ∷ [], refl) (0 ∷ [], refl) (length (w.branch ++ y ∷ []) ∷ [], refl) h)

pub insert-waits : (l : Logic) (names : Names) (n : ℕ) (ys : List Signed) (w : Place) (ss rs : List Sequent) → AreWaitingAt l names w ss rs → AreWaitingAt l names (inserted n ys w) ss rs
insert-waits l names n [] w ss rs h = h
insert-waits l names n (y ∷ ys) w ss rs h = waiting-more l names w.branch _ w.parents _ w.table _ w.forks ss rs (y ∷ ys, refl) (n ∷ zeros ys, refl) (begins-same w.table) h

pub refer-waits : (l : Logic) (names : Names) (ys : List Signed) (m : ℕ) (w : Place) (ss rs : List Sequent) → AreWaitingAt l names w ss rs → AreWaitingAt l names (referred m ys w) ss rs
refer-waits l names [] m w ss rs h = h
refer-waits l names (y ∷ ys) m w ss rs h = refer-waits l names ys (suc m) (place w.branch w.parents (w.table ++ m ∷ []) w.forks) ss rs (waiting-more l names w.branch _ w.parents _ w.table _ w.forks ss rs (begins-same w.branch) (begins-same w.parents) (m ∷ [], refl) h)

-- the given branches that are still open, and the new ones
abbrev pub AreTold : Logic → Names → Place → List Sequent → List Sequent → Type 0
AreTold l names w [] [] = Unit {0}
AreTold l names w [] (r ∷ rs) = ⊥
AreTold l names w (s ∷ ss) [] = ⊥
AreTold l names w (s ∷ ss) (r ∷ rs) = TellsAt l w s r × Fresher names s r × AreWaitingAt l names w ss rs

pub resume-told : (l : Logic) (names : Names) (w : Place) (fs : List Fork) (ss rs : List Sequent) → AreWaiting l names w.branch w.parents w.table fs ss rs → AreTold l names (resumed_at fs w) ss rs
resume-told l names w [] [] [] h = tt
resume-told l names w [] [] (r ∷ rs) h = elim h [ ]
resume-told l names w [] (s ∷ ss) rs h = elim h [ ]
resume-told l names w (f ∷ fs) [] rs h = elim h [ ]
resume-told l names w (f ∷ fs) (s ∷ ss) [] h = elim h [ ]
resume-told l names w (f ∷ fs) (s ∷ ss) (r ∷ rs) h = (
  h.0.tells,
  h.0.fresh,
  waiting-more l names (take f.branch w.branch) _ (take f.branch w.parents) _ (take f.table w.table) _ fs ss rs (f.first ∷ [], refl) (0 ∷ [], refl) (length (take f.branch w.branch ++ f.first ∷ []) ∷ [], refl) h.1,
)

-- ---- characters and names

occurs-append : (p : Entry → Bool) (s r xs : Sequent) → (list_any p s ≡ false → list_any p r ≡ false) → list_any p (s ++ xs) ≡ false → list_any p (r ++ xs) ≡ false
occurs-append p s r xs f h =
    let parts = or_parts (list_any p s) (list_any p xs) (sym (list_any-append p s xs) ∙ h) in
    list_any-append p r xs ∙ or_from (list_any p r) (list_any p xs) (f parts.0) parts.1

pub fresher-both : (names : Names) (s r xs : Sequent) → Fresher names s r → Fresher names (s ++ xs) (r ++ xs)
fresher-both names s r xs f = (λ m. occurs-append (λ (e : Entry). holds_character m e.label || any_leaf_in (is_in_home names m) e.formula) s r xs (f.0 m), λ n. occurs-append (λ (e : Entry). any_leaf_in (is_eigen n) e.formula) s r xs (f.1 n))

occurs-before : (p : Entry → Bool) (s xs : Sequent) → list_any p (s ++ xs) ≡ false → list_any p s ≡ false
occurs-before p s xs h = (or_parts (list_any p s) (list_any p xs) (sym (list_any-append p s xs) ∙ h)).0

pub fresher-given : (names : Names) (s r xs : Sequent) → Fresher names s r → Fresher names (s ++ xs) r
fresher-given names s r xs f = (λ m h. f.0 m (occurs-before (λ (e : Entry). holds_character m e.label || any_leaf_in (is_in_home names m) e.formula) s xs h), λ n h. f.1 n (occurs-before (λ (e : Entry). any_leaf_in (is_eigen n) e.formula) s xs h))

none-at : (p : Entry → Bool) (r : Sequent) (k : ℕ) (e : Entry) → list_any p r ≡ false → entry_of r k ≡ Some e → p e ≡ false
none-at p r zero e h g = absurd (none_some g)
none-at p [] (suc k) e h g = absurd (none_some g)
none-at p (x ∷ r) (suc zero) e h g = ap p (sym (some_injective _ g)) ∙ (or_parts (p x) (list_any p r) h).0
none-at p (x ∷ r) (suc (suc k)) e h g = none-at p r (suc k) e (or_parts (p x) (list_any p r) h).1 g

-- what stands in a component stands in the whole
abbrev leaf_of : (Term → Bool) → Signed → Bool
leaf_of q x = any_leaf_in q x.formula

two_leaves : (q : Term → Bool) (a b : Formula) → (any_leaf_in q a || any_leaf_in q b) ≡ false → (any_leaf_in q a || (any_leaf_in q b || false)) ≡ false
two_leaves q a b h = let parts = or_parts (any_leaf_in q a) (any_leaf_in q b) h in or_from (any_leaf_in q a) (any_leaf_in q b || false) parts.0 (or_from (any_leaf_in q b) false parts.1 refl)

components-none : (q : Term → Bool) (s : Sign) (f : Formula) → any_leaf_in q f ≡ false → list_any (leaf_of q) (components s f) ≡ false
components-none q s (atom p ts) h = or_from (any_leaf_in q (atom p ts)) false h refl
components-none q s (neg a) h = or_from (any_leaf_in q a) false h refl
components-none q s (conj a b) h = two_leaves q a b h
components-none q s (disj a b) h = two_leaves q a b h
components-none q s (imp a b) h = two_leaves q a b h
components-none q s (all a) h = or_from (any_leaf_in q a) false h refl
components-none q s (ex a) h = or_from (any_leaf_in q a) false h refl
components-none q s (box a) h = or_from (any_leaf_in q a) false h refl
components-none q s (dia a) h = or_from (any_leaf_in q a) false h refl

entries-none : (p : Entry → Bool) (q : Term → Bool) (v : Label) (xs : List Signed) → ((x : Signed) → leaf_of q x ≡ false → p (entry_at v x) ≡ false) → list_any (leaf_of q) xs ≡ false → list_any p (map (entry_at v) xs) ≡ false
entries-none p q v [] f h = refl
entries-none p q v (x ∷ xs) f h = let parts = or_parts (leaf_of q x) (list_any (leaf_of q) xs) h in or_from (p (entry_at v x)) (list_any p (map (entry_at v) xs)) (f x parts.0) (entries-none p q v xs f parts.1)

parts-none : (p : Entry → Bool) (r xs : Sequent) → list_any p r ≡ false → list_any p xs ≡ false → list_any p (r ++ xs) ≡ false
parts-none p r xs h g = list_any-append p r xs ∙ or_from (list_any p r) (list_any p xs) h g

pub fresher-components : (names : Names) (s r : Sequent) (n : ℕ) (e : Entry) → entry_of r n ≡ Some e → Fresher names s r → Fresher names s (r ++ map (entry_at e.label) (components e.sign e.formula))
fresher-components names s r n e at f = (
  λ m h.
      let p : Entry → Bool = λ e. holds_character m e.label || any_leaf_in (is_in_home names m) e.formula in
      let none = or_parts (holds_character m e.label) (any_leaf_in (is_in_home names m) e.formula) (none-at p r n e (f.0 m h) at) in
      parts-none p r _ (f.0 m h) (entries-none p (is_in_home names m) e.label (components e.sign e.formula) (λ x g. or_from (holds_character m e.label) (leaf_of (is_in_home names m) x) none.0 g) (components-none (is_in_home names m) e.sign e.formula none.1)),
  λ i h.
      let p : Entry → Bool = λ e. any_leaf_in (is_eigen i) e.formula in
      parts-none p r _ (f.1 i h) (entries-none p (is_eigen i) e.label (components e.sign e.formula) (λ x g. g) (components-none (is_eigen i) e.sign e.formula (none-at p r n e (f.1 i h) at))),
)
