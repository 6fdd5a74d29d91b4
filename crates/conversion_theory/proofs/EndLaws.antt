-- A branch on which all turns of a closed tableau are done holds an axiom.
use Rattle.std.proofs.Common.{◌≡◌, ℕ, suc, ◌<◌, List, length, true, not, ◌&&◌, ◌==◌, IsTrue, Some, Ok, refl, sym, ◌∙◌, ap, subst, inl, slice_get}
use Rattle.std.specs.List.{AllByRecursion}
use Rattle.std.proofs.lemmas.Option.{slice_get_within}
use Rattle.std.proofs.lemmas.Bool.{false≢true, and_parts, and_from, eqb-true}
use Rattle.calculus.specs.declared.sign.Sign.{Sign}
use Rattle.calculus.specs.declared.sign.Sign.TheVariants.{T, F}
use Rattle.calculus.specs.Syntax.{atom, Problem}
use Rattle.calculus.specs.Ground.{GroundLiteral}
use Rattle.calculus.specs.Equality.{list_eq, sign_eq, formula_eq, grounds_eq, label_eq, same_atom}
use Rattle.calculus.specs.Problems.{terms_fit_in, formula_fits}
use Rattle.calculus.specs.Instances.{root_spot, Turn, ClauseInstance}
use Rattle.calculus.specs.ComputedInstances.{is_allowed_instance}
use Rattle.calculus.specs.Derivations.{Entry, Sequent, Names, character_eq, close}
use Rattle.calculus.specs.Calculus.{closed, connects, apply}
use Rattle.calculus.specs.Tableaux.{Tableau, instances, is_closed}
use Rattle.conversion_theory.specs.Turns.{Name, turns_of_instance}
use Rattle.conversion_theory.specs.Numbering.{numbered_terms, numbered_label, formula_by}
use Rattle.calculus.proofs.EqualityLaws.{formula_eq-tells, grounds_eq-tells, label_eq-tells, list_eq-tells, character_eq-tells}
use Rattle.calculus.proofs.Members.{Among, at-among, all-among, joined-among, among-all}
use Rattle.calculus.proofs.CasesLaws.{is_allowed_instance-exact}
use Rattle.calculus.proofs.WalkLaws.{Hits, HasPair, pair_of_closed}
use Rattle.conversion_theory.proofs.HitLaws.{literal_at, IsSaturated, hit}
use Rattle.conversion_theory.proofs.AgendaLaws.{TurnOf}
use Rattle.conversion_theory.proofs.ClosedLaws.{all-allowed, turns-by_cases}
use Rattle.conversion_theory.proofs.PutLaws.{ground-terms}
use Rattle.conversion_theory.proofs.BranchLaws.{Item, entry_of_item, entries_of, Has, Meets, Holding, IsItem}
use Rattle.conversion_theory.proofs.NextLaws.{entries-at}

-- ---- a pair

-- each instance has a literal on the branch
instance-hit : (P : Problem) (t : Tableau) (done : List Turn) (items : List Item) → IsSaturated P.setting.logic (Among done) (Meets P.setting.logic items) (Holding P.setting.logic items) → ((y : Turn) → TurnOf P t y → Among done y) → Has items root_spot F P.formula → (i : ClauseInstance) → Among (instances t) i → IsTrue (is_allowed_instance P i) → Hits (Holding P.setting.logic items) i
instance-hit P t done items sat all root i h allowed =
    let x = (is_allowed_instance-exact P i).0 allowed in
    let same = turns-by_cases P i x.0 x.1 x.2 in
    let turns = all-among (Among done) x.0.turns (λ y k. all y (joined-among (turns_of_instance P) (instances t) i y h (subst (λ ts. Among ts y) (sym same) k))) in
    subst (Hits (Holding P.setting.logic items)) (sym x.2) (hit P.setting.logic (Among done) (Meets P.setting.logic items) (Holding P.setting.logic items) sat root_spot F P.formula x.0 x.1.instance.given turns (inl root))

all-hit : (P : Problem) (S : GroundLiteral → Type 0) (is : List ClauseInstance) → ((i : ClauseInstance) → Among is i → Hits S i) → AllByRecursion (Hits S) is
all-hit P S is h = all-among (Hits S) is h

-- two complementary literals
pub ends-pair : (P : Problem) (d : ℕ) (t : Tableau) → IsTrue (is_closed P d t) → (done : List Turn) (items : List Item) → IsSaturated P.setting.logic (Among done) (Meets P.setting.logic items) (Holding P.setting.logic items) → ((y : Turn) → TurnOf P t y → Among done y) → Has items root_spot F P.formula → HasPair (Holding P.setting.logic items)
ends-pair P d t shut done items sat all root =
    pair_of_closed (Holding P.setting.logic items) P d t shut
    (all-hit P (Holding P.setting.logic items) (instances t) (λ i h. instance-hit P t done items sat all root i h (among-all (λ j. IsTrue (is_allowed_instance P j)) (instances t) i (all-allowed P d t shut) h)))

-- ---- its entries

abbrev pub literal_entry : (Name → ℕ) → GroundLiteral → Entry
literal_entry num x = record { sign = x.sign; formula = atom x.symbol (numbered_terms num x.args); label = numbered_label num x.label }

pub holding-entry : (P : Problem) (K : Name → Type 0) (num : Name → ℕ) (items : List Item) (x : GroundLiteral) (h : Holding P.setting.logic items x) → IsItem P K h.at → entry_of_item num h.at ≡ literal_entry num x
holding-entry P K num items x h ok =
    let fit : IsTrue (formula_fits P.setting.logic P.symbols (length h.at.spot.env) (atom h.symbol h.args)) = subst (λ f. IsTrue (formula_fits P.setting.logic P.symbols (length h.at.spot.env) f)) h.formula ok.fits in
    let args = ground-terms num P.symbols (length h.at.spot.env) h.at.spot.env h.args (and_parts _ (terms_fit_in P.symbols (length h.at.spot.env) h.args) fit).1 in
    let formula : formula_by num 0 h.at.spot.env h.at.formula ≡ atom h.symbol (numbered_terms num (literal_at h.at.spot h.at.sign h.symbol h.args).args) = ap (formula_by num 0 h.at.spot.env) h.formula ∙ ap (atom h.symbol) args in
    (λ i. record { sign = h.at.sign; formula = formula i; label = numbered_label num h.at.spot.label }) ∙ ap (literal_entry num) (sym h.literal)

same-parts : (a b : GroundLiteral) → IsTrue (same_atom a b) → (a.symbol ≡ b.symbol) × (a.args ≡ b.args) × (a.label ≡ b.label)
same-parts a b e =
    let both = and_parts (a.symbol == b.symbol && grounds_eq a.args b.args) (label_eq a.label b.label) e in
    let first = and_parts (a.symbol == b.symbol) (grounds_eq a.args b.args) both.0 in
    (eqb-true a.symbol b.symbol first.0, (grounds_eq-tells a.args b.args).0 first.1, (label_eq-tells a.label b.label).0 both.1)

connects-same : (num : Name → ℕ) (a b : GroundLiteral) → a.sign ≡ T → b.sign ≡ F → a.symbol ≡ b.symbol → a.args ≡ b.args → a.label ≡ b.label → connects (literal_entry num a) (literal_entry num b) ≡ true
connects-same num a b p q symbols args labels =
    let formulas : formula_eq (atom a.symbol (numbered_terms num a.args)) (atom b.symbol (numbered_terms num b.args)) ≡ true = (formula_eq-tells (atom a.symbol (numbered_terms num a.args)) (atom b.symbol (numbered_terms num b.args))).1 (λ i. atom (symbols i) (numbered_terms num (args i))) in
    let marks : list_eq character_eq (numbered_label num a.label) (numbered_label num b.label) ≡ true = (list_eq-tells character_eq character_eq-tells (numbered_label num a.label) (numbered_label num b.label)).1 (ap (numbered_label num) labels) in
    rw (p, q) (and_from (formula_eq (atom a.symbol (numbered_terms num a.args)) (atom b.symbol (numbered_terms num b.args))) (list_eq character_eq (numbered_label num a.label) (numbered_label num b.label)) formulas marks)

-- an axiom
pub record Axiom (P : Problem) (names : Names) (s : Sequent) : Type 0 where
  pub given : ℕ
  pub shown : ℕ
  pub given_within : given < length s
  pub shown_within : shown < length s
  pub applies : apply P names s (close (suc given) (suc shown)) ≡ Ok closed

close-by : (P : Problem) (names : Names) (s : Sequent) (i j : ℕ) (a b : Entry) → slice_get s i ≡ Some a → slice_get s j ≡ Some b → connects a b ≡ true → Axiom P names s
close-by P names s i j a b e g h = record { given = i; shown = j; given_within = slice_get_within s i a e; shown_within = slice_get_within s j b g; applies = rw (e, g, h) refl }

held-at : (P : Problem) (done : List Turn) (num : Name → ℕ) (K : Name → Type 0) (items : List Item) → ((i : Item) → Among items i → IsItem P K i) → (x : GroundLiteral) → Holding P.setting.logic items x → (k : ℕ) × (slice_get (entries_of num items) k ≡ Some (literal_entry num x))
held-at P done num K items each x h =
    let at = at-among items h.at h.among in
    (at.0, entries-at num items at.0 h.at at.1 ∙ ap Some (holding-entry P K num items x h (each h.at h.among)))

pub axiom-of_pair : (P : Problem) (names : Names) (done : List Turn) (num : Name → ℕ) (K : Name → Type 0) (items : List Item) → ((i : Item) → Among items i → IsItem P K i) → HasPair (Holding P.setting.logic items) → Axiom P names (entries_of num items)
axiom-of_pair P names done num K items each pair =
    let a = held-at P done num K items each pair.0 pair.2 in
    let b = held-at P done num K items each pair.1 pair.3 in
    let parts = and_parts (not (sign_eq pair.0.sign pair.1.sign)) (same_atom pair.0 pair.1) pair.4 in
    by_signs pair.0.sign pair.1.sign refl refl parts.0 parts.1 a b
  where
    by_signs : (s r : Sign) → pair.0.sign ≡ s → pair.1.sign ≡ r → not (sign_eq pair.0.sign pair.1.sign) ≡ true → IsTrue (same_atom pair.0 pair.1) → (k : ℕ) × (slice_get (entries_of num items) k ≡ Some (literal_entry num pair.0)) → (k : ℕ) × (slice_get (entries_of num items) k ≡ Some (literal_entry num pair.1)) → Axiom P names (entries_of num items)
    by_signs T T p q n e a b = absurd (false≢true (rw (p, q) at n))
    by_signs F F p q n e a b = absurd (false≢true (rw (p, q) at n))
    by_signs T F p q n e a b = close-by P names (entries_of num items) a.0 b.0 (literal_entry num pair.0) (literal_entry num pair.1) a.1 b.1 (let h = same-parts pair.0 pair.1 e in connects-same num pair.0 pair.1 p q h.0 h.1 h.2)
    by_signs F T p q n e a b = let h = same-parts pair.0 pair.1 e in close-by P names (entries_of num items) b.0 a.0 (literal_entry num pair.1) (literal_entry num pair.0) b.1 a.1 (connects-same num pair.1 pair.0 q p (sym h.0) (sym h.1) (sym h.2))
