-- Pairs of items are axioms, and stay so on a longer branch.
use Rattle.std.proofs.Common.{◌≡◌, ◌↔◌, ◌<◌, ℕ, zero, suc, List, [], ◌∷◌, ◌++◌, map, length, get_or, Bool, true, false, ◌&&◌, IsTrue, Option, Some, None, Ok, refl, sym, ◌∙◌, ap, subst, slice_get}
use Rattle.std.proofs.lemmas.Bool.{false≢true, and_parts}
use Rattle.std.specs.Option.{IfSome, MatchOption}
use Rattle.plain_laws.proofs.Places.{get-front}
use Rattle.calculus.specs.declared.sign.Sign.TheVariants.{T, F}
use Rattle.calculus.specs.Calculus.{closed, close_branch, connects, entry_of, is_atom}
use Rattle.calculus.specs.Derivations.{Entry, character_eq}
use Rattle.calculus.specs.Equality.{formula_eq, list_eq, sign_eq}
use Rattle.calculus.specs.Instances.{grounds_of}
use Rattle.calculus.specs.Problems.{formula_fits, terms_fit_in}
use Rattle.calculus.specs.Syntax.{Terms, atom, Problem}
use Rattle.calculus.proofs.EqualityLaws.{formula_eq-tells, list_eq-tells, character_eq-tells}
use Rattle.calculus.proofs.Members.{Among, among-at}
use Rattle.conversion_theory.specs.Branches.{Item, entry_of_item, entries_of}
use Rattle.conversion_theory.specs.Numbering.{formula_by, number_of, numbered_label, numbered_terms}
use Rattle.conversion_theory.specs.Turns.{Name}
use Rattle.conversion_theory.proofs.BranchLaws.{IsItem, Known}
use Rattle.conversion_theory.proofs.PutLaws.{ground-terms}
use Rattle.calculus.specs.Text.{is_number}
use Rattle.formula_core.specs.GroundLists.{GroundList}
use Rattle.sequent_convert.specs.ByNumber.NodeView.{the_node}
use Rattle.sequent_convert.specs.declared.node.Node.{Node}
use Rattle.sequent_convert.specs.declared.axiom.Pair as pair
use Rattle.sequent_convert.specs.Pairs as entries
use Rattle.sequent_convert.specs.ByNumber.Pairs.{AreSameLiterals, SameAtoms, MakeAxiom, MakesAxiom, MakesAxiomAt, ArePair}
use Rattle.sequent_convert.specs.ByNumber.RunView.{IsSeen}
use Rattle.sequent_convert.specs.State.{Basis, State, IsAxiom, IsOpenRun}
use Rattle.sequent_convert.proofs.ByNumber.NodeLaws.{node-get}

-- ---- tests

pub no-first_atom : (i j : Item) → is_atom i.formula ≡ false → IsTrue false ↔ SameAtoms i j
no-first_atom i j e = (λ t. absurd (false≢true t), λ a. absurd (false≢true (sym e ∙ ap is_atom a.given_atom)))

pub no-second_atom : (i j : Item) → is_atom j.formula ≡ false → IsTrue false ↔ SameAtoms i j
no-second_atom i j e = (λ t. absurd (false≢true t), λ a. absurd (false≢true (sym e ∙ ap is_atom a.shown_atom)))

symbols-one : (p q : ℕ) (ts us : Terms) → atom p ts ≡ atom q us → p ≡ q
symbols-one p q ts us e = cc

args-one : (p q : ℕ) (ts us : Terms) → atom p ts ≡ atom q us → ts ≡ us
args-one p q ts us e = cc

pub two-atoms : (r : Bool) (i j : Item) (p q : ℕ) (ts us : Terms) → i.formula ≡ atom p ts → j.formula ≡ atom q us → (IsTrue r ↔ AreSameLiterals i.spot p ts j.spot q us) → IsTrue r ↔ SameAtoms i j
two-atoms r i j p q ts us e g h = (
  λ t. record { symbol = p; other = q; args = ts; others = us; given_atom = e; shown_atom = g; same = h.0 t },
  λ a.
      let first = sym e ∙ a.given_atom in
      let second = sym g ∙ a.shown_atom in
      h.1 (
        symbols-one p a.symbol ts a.args first ∙ a.same.0 ∙ sym (symbols-one q a.other us a.others second),
        ap (grounds_of i.spot.env) (args-one p a.symbol ts a.args first) ∙ a.same.1 ∙ ap (grounds_of j.spot.env) (sym (args-one q a.other us a.others second)),
        a.same.2,
      ),
)

pub first-shown : (i j : Item) → i.sign ≡ F → IsTrue false ↔ MakeAxiom i j
first-shown i j e = (λ t. absurd (false≢true t), λ a. absurd (f≢t (sym e ∙ a.given)))
  where
    f≢t : F ≡ T → ⊥
    f≢t q = cc

pub second-given : (i j : Item) → j.sign ≡ T → IsTrue false ↔ MakeAxiom i j
second-given i j e = (λ t. absurd (false≢true t), λ a. absurd (t≢f (sym e ∙ a.shown)))
  where
    t≢f : T ≡ F → ⊥
    t≢f q = cc

pub both-signs : (r : Bool) (i j : Item) → i.sign ≡ T → j.sign ≡ F → (IsTrue r ↔ SameAtoms i j) → IsTrue r ↔ MakeAxiom i j
both-signs r i j e g h = (λ t. record { given = e; shown = g; atoms = h.0 t }, λ a. h.1 a.atoms)

pub ruleset atoms = (no-first_atom, no-second_atom, two-atoms, first-shown, second-given, both-signs)

-- ---- nodes at places

pub makes-at : (ls : List GroundList) (nodes : List Node) (j k : ℕ) (x y : Node) → j < length nodes → k < length nodes → x ≡ get_or nodes j x → y ≡ get_or nodes k y → MakeAxiom (the_node ls x) (the_node ls y) → MakesAxiomAt (map (the_node ls) nodes) j k
makes-at ls nodes j k x y lj lk rj rk a =
    let first = node-get ls nodes j x lj rj in
    let second = node-get ls nodes k y lk rk in
    subst (λ o. MakesAxiom o (slice_get (map (the_node ls) nodes) k)) (sym first) (subst (λ o. MakesAxiom (Some (the_node ls x)) o) (sym second) a)

pub makes-not : (ls : List GroundList) (nodes : List Node) (j k : ℕ) (x y : Node) (r : Bool) → j < length nodes → k < length nodes → x ≡ get_or nodes j x → y ≡ get_or nodes k y → r ≡ false → (IsTrue r ↔ MakeAxiom (the_node ls x) (the_node ls y)) → MakesAxiomAt (map (the_node ls) nodes) j k → ⊥
makes-not ls nodes j k x y r lj lk rj rk e h a =
    let first = node-get ls nodes j x lj rj in
    let second = node-get ls nodes k y lk rk in
    false≢true (sym e ∙ h.1 (subst (λ o. MakesAxiom (Some (the_node ls x)) o) second (subst (λ o. MakesAxiom o (slice_get (map (the_node ls) nodes) k)) first a)))

pub pair-of : (ls : List GroundList) (nodes : List Node) (j k g h : ℕ) (x y : Node) (r : Bool) → j < length nodes → k < length nodes → x ≡ get_or nodes j x → y ≡ get_or nodes k y → r ≡ true → (IsTrue r ↔ MakeAxiom (the_node ls x) (the_node ls y)) → g ≡ suc j → h ≡ suc k → is_number (suc j) ≡ true → is_number (suc k) ≡ true → ArePair (map (the_node ls) nodes) (record { given = g; shown = h })
pair-of ls nodes j k g h x y r lj lk rj rk e a p q m n = record { given = j; shown = k; given_is = p; shown_is = q; given_fits = ap is_number p ∙ m; shown_fits = ap is_number q ∙ n; makes = makes-at ls nodes j k x y lj lk rj rk (a.0 e) }

pub ruleset places = (makes-at, makes-not, pair-of)

-- ---- a longer branch

makes-more : (items added : List Item) (j k : ℕ) → MakesAxiomAt items j k → MakesAxiomAt (items ++ added) j k
makes-more items added j k h = by_items (slice_get items j) (slice_get items k) refl refl
  where
    by_items : (x y : Option Item) → slice_get items j ≡ x → slice_get items k ≡ y → MakesAxiomAt (items ++ added) j k
    by_items None y a b = absurd (subst (λ o. MakesAxiom o (slice_get items k)) a h)
    by_items (Some u) None a b = absurd (subst (λ o. MakesAxiom (Some u) o) b (subst (λ o. MakesAxiom o (slice_get items k)) a h))
    by_items (Some u) (Some v) a b =
        let here : MakeAxiom u v = subst (λ o. MakesAxiom (Some u) o) b (subst (λ o. MakesAxiom o (slice_get items k)) a h) in
        subst (λ o. MakesAxiom o (slice_get (items ++ added) k)) (sym (get-front items added j u a)) (subst (λ o. MakesAxiom (Some u) o) (sym (get-front items added k v b)) here)

pub pair-more : (items added : List Item) (p : pair.Pair) → ArePair items p → ArePair (items ++ added) p
pair-more items added p h = record { given = h.given; shown = h.shown; given_is = h.given_is; shown_is = h.shown_is; given_fits = h.given_fits; shown_fits = h.shown_fits; makes = makes-more items added h.given h.shown h.makes }

pub seen-more : (items added : List Item) (o : Option pair.Pair) → IfSome o (ArePair items) → IfSome o (ArePair (items ++ added))
seen-more items added None h = tt
seen-more items added (Some p) h = pair-more items added p h

-- a pair that is told by another name of the same lists
pub pair-told : (ls ts : List GroundList) (nodes : List Node) (A : Type 0) (o : Option pair.Pair) → ts ≡ ls → MatchOption o A (λ p. ArePair (map (the_node ts) nodes) p) → IfSome o (ArePair (map (the_node ls) nodes))
pair-told ls ts nodes A None same h = tt
pair-told ls ts nodes A (Some p) same h = subst (λ (zs : List GroundList). ArePair (map (the_node zs) nodes) p) same h

-- no axiom is seen
pub none-seen : (items : List Item) (o : Option pair.Pair) → o ≡ None → IsSeen items o
none-seen items o e = subst (IsSeen items) (sym e) tt

-- one that is seen
pub pair-seen : (items : List Item) (o : Option pair.Pair) → IfSome o (ArePair items) → IsSeen items o
pair-seen items None h = tt
pair-seen items (Some p) h = h

pub ruleset pairs = (pair-more, none-seen, pair-seen)

-- ---- its entries are an axiom

entry-atom : (P : Problem) (K : Name → Type 0) (num : Name → ℕ) (i : Item) (p : ℕ) (ts : Terms) → IsItem P K i → i.formula ≡ atom p ts → formula_by num 0 i.spot.env i.formula ≡ atom p (numbered_terms num (grounds_of i.spot.env ts))
entry-atom P K num i p ts ok e =
    let fit : IsTrue (formula_fits P.setting.logic P.symbols (length i.spot.env) (atom p ts)) = subst (λ f. IsTrue (formula_fits P.setting.logic P.symbols (length i.spot.env) f)) e ok.fits in
    let args = ground-terms num P.symbols (length i.spot.env) i.spot.env ts (and_parts _ (terms_fit_in P.symbols (length i.spot.env) ts) fit).1 in
    ap (formula_by num 0 i.spot.env) e ∙ ap (atom p) args

connected-same : (P : Problem) (K : Name → Type 0) (num : Name → ℕ) (i j : Item) → IsItem P K i → IsItem P K j → MakeAxiom i j → connects (entry_of_item num i) (entry_of_item num j) ≡ true
connected-same P K num i j h k a =
    let first = entry-atom P K num i a.atoms.symbol a.atoms.args h a.atoms.given_atom in
    let second = entry-atom P K num j a.atoms.other a.atoms.others k a.atoms.shown_atom in
    let formula : formula_by num 0 i.spot.env i.formula ≡ formula_by num 0 j.spot.env j.formula = first ∙ (λ x. atom (a.atoms.same.0 x) (numbered_terms num (a.atoms.same.1 x))) ∙ sym second in
    let formulas : formula_eq (formula_by num 0 i.spot.env i.formula) (formula_by num 0 j.spot.env j.formula) ≡ true = (formula_eq-tells (formula_by num 0 i.spot.env i.formula) (formula_by num 0 j.spot.env j.formula)).1 formula in
    let marks : list_eq character_eq (numbered_label num i.spot.label) (numbered_label num j.spot.label) ≡ true = (list_eq-tells character_eq character_eq-tells (numbered_label num i.spot.label) (numbered_label num j.spot.label)).1 (ap (numbered_label num) a.atoms.same.2) in
    all_five (sign_eq i.sign T) (sign_eq j.sign F) (is_atom (formula_by num 0 i.spot.env i.formula)) (formula_eq (formula_by num 0 i.spot.env i.formula) (formula_by num 0 j.spot.env j.formula)) (list_eq character_eq (numbered_label num i.spot.label) (numbered_label num j.spot.label))
    (ap (λ s. sign_eq s T) a.given) (ap (λ s. sign_eq s F) a.shown) (ap is_atom first) formulas marks
  where
    all_five : (v w x y z : Bool) → v ≡ true → w ≡ true → x ≡ true → y ≡ true → z ≡ true → (v && w && x && y && z) ≡ true
    all_five v w x y z a b c d e = rw (a, b, c, d, e) refl

connected-at : (P : Problem) (K : Name → Type 0) (names : List Name) (items : List Item) → ((i : Item) → Among items i → IsItem P K i) → (j k : ℕ) → MakesAxiomAt items j k → entries.connected_at names items j k ≡ true
connected-at P K names items each j k h = by_items (slice_get items j) (slice_get items k) refl refl
  where
    by_items : (x y : Option Item) → slice_get items j ≡ x → slice_get items k ≡ y → entries.connected_at names items j k ≡ true
    by_items None y a b = absurd (subst (λ o. MakesAxiom o (slice_get items k)) a h)
    by_items (Some u) None a b = absurd (subst (λ o. MakesAxiom (Some u) o) b (subst (λ o. MakesAxiom o (slice_get items k)) a h))
    by_items (Some u) (Some v) a b =
        let here : MakeAxiom u v = subst (λ o. MakesAxiom (Some u) o) b (subst (λ o. MakesAxiom o (slice_get items k)) a h) in
        (λ x. entries.are_connected names (a x) (b x)) ∙ connected-same P K (number_of names) u v (each u (among-at items j u a)) (each v (among-at items k v b)) here

abbrev option_entry : List Name → Option Item → Option Entry
option_entry names None = None
option_entry names (Some i) = Some (entry_of_item (number_of names) i)

got : (names : List Name) (items : List Item) (n : ℕ) → slice_get (entries_of (number_of names) items) n ≡ option_entry names (slice_get items n)
got names [] n = refl
got names (i ∷ is) zero = refl
got names (i ∷ is) (suc n) = got names is n

closes-by : (names : List Name) (x y : Option Item) → entries.are_connected names x y ≡ true → close_branch (option_entry names x) (option_entry names y) ≡ Ok closed
closes-by names None y e = absurd (false≢true e)
closes-by names (Some i) None e = absurd (false≢true e)
closes-by names (Some i) (Some j) e = rw e refl

-- a pair that is seen closes an open branch
pub seen-axiom : (B : Basis) (s : State) → IsOpenRun B s → (p : pair.Pair) → ArePair s.items p → IsAxiom B s.items p.given p.shown
seen-axiom B s h p a =
    let names = B.named.names in
    let given = entries_of (number_of names) s.items in
    record {
      applies = ap (λ n. close_branch (entry_of given n) (entry_of given p.shown)) a.given_is
          ∙ ap (λ n. close_branch (slice_get given a.given) (entry_of given n)) a.shown_is
          ∙ (λ k. close_branch (got names s.items a.given k) (got names s.items a.shown k))
          ∙ closes-by names (slice_get s.items a.given) (slice_get s.items a.shown) (connected-at B.problem (Known B.problem _) names s.items h.leading.run.good.0.branch.each a.given a.shown a.makes);
      given_fits = a.given_fits;
      shown_fits = a.shown_fits;
    }
