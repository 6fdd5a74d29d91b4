-- Pairs that are the same atom: they stay so over a longer table, and a pair that is found among them is.
use Rattle.std.proofs.Common.{◌≡◌, ℕ, ◌<◌, Bool, true, false, ◌&&◌, ◌||◌, List, [], ◌∷◌, ◌++◌, length, if◌then◌else◌, rules, refl, sym, ◌∙◌, ap, subst, arith}
use Rattle.std.proofs.lemmas.Bool.{false≢true}
use Rattle.std.specs.List.{list_any}
use Rattle.indexmap.specs.IndexSet.{insert_key}
use Rattle.calculus.specs.Calculus.{is_atom}
use Rattle.calculus.specs.Equality.{formula_eq}
use Rattle.calculus.specs.Syntax.{Term, Formula}
use Rattle.label_table.specs.Longer.{IsLonger}
use Rattle.label_table.proofs.TableLaws.{longer-at, longer-size}
use Rattle.derivation_branch.specs.EntryView.{formula_under}
use Rattle.derivation_branch.specs.OutlineView.{IsNode}
use Rattle.derivation_branch.specs.Putting.{formula_with_all}
use Rattle.derivation_branch.specs.SameView.{AreSame, IsSame}
use Rattle.derivation_branch.specs.contracts.same_atoms.PairPartialEq.TheImpl.{eq-value}
use Rattle.derivation_branch.specs.declared.same_atoms.Pair.{Pair}
use Rattle.derivation_branch.proofs.OutlineLaws.{part-same}

-- ---- a table of substitutions that grows

under-longer : (table more : List (List Term)) (k : ℕ) (f : Formula) → IsLonger table more → k < length table → formula_under more k f ≡ formula_under table k f
under-longer table more k f h lt = ap (λ ts. formula_with_all ts 0 f) (longer-at table more k [] h lt)

pair-longer : (table more : List (List Term)) (parts : List Formula) (x : Pair) → IsLonger table more → IsSame table parts x → IsSame more parts x
pair-longer table more parts x long h =
    let size = longer-size table more long in
    let given = h.given in
    let shown = h.shown in
    record {
      given = omega (arith, size, given);
      shown = omega (arith, size, shown);
      same = λ f g at there.
          let one = under-longer table more x.given_under f long h.given in
          let two = under-longer table more x.shown_under g long h.shown in
          (λ i. is_atom (one i) && formula_eq (one i) (two i)) ∙ h.same f g at there;
    }

pub same-longer : (table more : List (List Term)) (parts : List Formula) (xs : List Pair) → IsLonger table more → AreSame table parts xs → AreSame more parts xs
same-longer table more parts [] long h = tt
same-longer table more parts (x ∷ xs) long h = (pair-longer table more parts x long h.0, same-longer table more parts xs long h.1)

-- ---- a pair that is found, and one that is added

pair-exact : (a b : Pair) → eq-value.it a b ≡ true → a ≡ b
pair-exact a b h = search rules

same-among : (table : List (List Term)) (parts : List Formula) (xs : List Pair) (x : Pair) → list_any (eq-value.it x) xs ≡ true → AreSame table parts xs → IsSame table parts x
same-among table parts [] x e k = absurd (false≢true e)
same-among table parts (y ∷ ys) x e k = by (eq-value.it x y) refl e (λ r. same-among table parts ys x r k.1)
  where
    by : (b : Bool) → eq-value.it x y ≡ b → (b || list_any (eq-value.it x) ys) ≡ true → (list_any (eq-value.it x) ys ≡ true → IsSame table parts x) → IsSame table parts x
    by true here e rest = subst (IsSame table parts) (sym (pair-exact x y here)) k.0
    by false here e rest = rest e

pub same-found : (table : List (List Term)) (parts : List Formula) (xs : List Pair) (x : Pair) (found : Bool) → found ≡ list_any (eq-value.it x) xs → found ≡ true → AreSame table parts xs → IsSame table parts x
same-found table parts xs x found told old h = same-among table parts xs x (sym told ∙ old) h

same-push : (table : List (List Term)) (parts : List Formula) (xs : List Pair) (x : Pair) → AreSame table parts xs → IsSame table parts x → AreSame table parts (xs ++ x ∷ [])
same-push table parts [] x h k = (k, tt)
same-push table parts (y ∷ ys) x h k = (h.0, same-push table parts ys x h.1 k)

pub same-added : (table : List (List Term)) (parts : List Formula) (xs after : List Pair) (x : Pair) → after ≡ insert_key eq-value.it xs x → AreSame table parts xs → IsSame table parts x → AreSame table parts after
same-added table parts xs after x e h k = subst (AreSame table parts) (sym e) (by (list_any (eq-value.it x) xs))
  where
    by : (b : Bool) → AreSame table parts (if b then xs else xs ++ x ∷ [])
    by true = h
    by false = same-push table parts xs x h k

-- ---- what is told of two entries

-- a pair of places whose parts were compared
pub same-told : (table : List (List Term)) (parts : List Formula) (x : Pair) (m i n j : ℕ) (f g : Formula) → (x.given ≡ m) × (x.given_under ≡ i) → (x.shown ≡ n) × (x.shown_under ≡ j) → IsNode parts m f → IsNode parts n g → IsSame table parts x
    → (is_atom (formula_under table i f) && formula_eq (formula_under table i f) (formula_under table j g)) ≡ true
same-told table parts x m i n j f g a b at there h =
    sym (λ k. is_atom (formula_under table (a.1 k) f) && formula_eq (formula_under table (a.1 k) f) (formula_under table (b.1 k) g))
    ∙ h.same f g (subst (λ k. IsNode parts k f) (sym a.0) at) (subst (λ k. IsNode parts k g) (sym b.0) there)

pub same-pair : (table : List (List Term)) (parts : List Formula) (x : Pair) (m i n j : ℕ) (f g : Formula) → (x.given ≡ m) × (x.given_under ≡ i) → (x.shown ≡ n) × (x.shown_under ≡ j) → i < length table → j < length table → IsNode parts m f → IsNode parts n g
    → (is_atom (formula_under table i f) && formula_eq (formula_under table i f) (formula_under table j g)) ≡ true → IsSame table parts x
same-pair table parts x m i n j f g a b lower upper at there told = record {
  given = let e = a.1 in omega (arith, e, lower);
  shown = let e = b.1 in omega (arith, e, upper);
  same = λ u v here other.
      let first = part-same parts m f u at (subst (λ k. IsNode parts k u) a.0 here) in
      let second = part-same parts n g v there (subst (λ k. IsNode parts k v) b.0 other) in
      (λ k. is_atom (formula_under table (a.1 k) (sym first k)) && formula_eq (formula_under table (a.1 k) (sym first k)) (formula_under table (b.1 k) (sym second k))) ∙ told;
}
