-- Where no introduced name occurs in the values and literals of a tableau, its turns mention none: they can be made in any order in which
-- parents come first, and so instance by instance as the tableau closes its goals.
use Rattle.std.proofs.Common.{◌≡◌, ℕ, List, [], ◌∷◌, flat_map, Bool, true, false, IsTrue, refl, sym, ◌∙◌, ap, subst, inl, inr}
use Rattle.std.specs.List.{AllByRecursion, list_any}
use Rattle.std.proofs.lemmas.Bool.{false≢true, cases_Bool}
use Rattle.calculus.specs.Syntax.{Problem}
use Rattle.calculus.specs.Ground.{Value, g_fun, g_eigen, common, own}
use Rattle.calculus.specs.Instances.{Turn, ClauseInstance}
use Rattle.calculus.specs.ComputedInstances.{is_allowed_instance}
use Rattle.calculus.specs.Tableaux.{Tableau, instances, is_closed}
use Rattle.conversion_theory.specs.Turns.{Name, term_name, mark_name, names_of_value, names_of_literal, names_of_instance, names_of_home, names_mentioned, names_introduced, is_introduced, has_introduced_names, turns_of_instance}
use Rattle.calculus.proofs.Members.{Among, among-all, among-left, among-append, among-joined, joined-among}
use Rattle.conversion_theory.proofs.NameLaws.{introduced-cases}
use Rattle.calculus.proofs.CasesLaws.{is_allowed_instance-exact}
use Rattle.conversion_theory.proofs.PlaceLaws.{root-works}
use Rattle.conversion_theory.proofs.AgendaLaws.{TurnOf, Anything}
use Rattle.conversion_theory.proofs.ClosedLaws.{all-allowed, turns-by_cases}

-- no name of the list is introduced by a position
abbrev pub NoneIntroduced : List Name → Type 0
NoneIntroduced ns = (n : Name) → Among ns n → is_introduced n ≡ false

any-false : {A : Type 0} (p : A → Bool) (xs : List A) (x : A) → list_any p xs ≡ false → Among xs x → p x ≡ false
any-false p [] x h i = elim i [ ]
any-false p (y ∷ ys) x h i = elim (cases_Bool (p y)) [
  | inl e ↦ absurd (false≢true (sym h ∙ (rw e refl)))
  | inr e ↦ elim i [ inl q ↦ subst (λ z. p z ≡ false) q e | inr k ↦ any-false p ys x (rw e at h) k ]
]

-- the values of an instance hold none
values-none : (t : Tableau) → has_introduced_names t ≡ false → (i : ClauseInstance) → Among (instances t) i → (v : Value) → Among i.values v → NoneIntroduced (names_of_value v)
values-none t h i k v m n j = any-false is_introduced (flat_map names_of_instance (instances t)) n h (joined-among names_of_instance (instances t) i n k (among-left (flat_map names_of_value i.values) (flat_map names_of_literal i.literals) n (joined-among names_of_value i.values v n m j)))

none-home : (P : Problem) (n m : Name) → is_introduced n ≡ false → Among (names_of_home P n) m → ⊥
none-home P (term_name (g_eigen p vs)) m e h = false≢true (sym e)
none-home P (term_name (g_fun f ts)) m e h = elim h [ ]
none-home P (term_name (common k)) m e h = elim h [ ]
none-home P (term_name (own k w)) m e h = elim h [ ]
none-home P (mark_name k) m e h = elim h [ ]

-- the turns of a closed tableau without introduced names mention none
pub mentions-none : (P : Problem) (d : ℕ) (t : Tableau) → IsTrue (is_closed P d t) → has_introduced_names t ≡ false → (x : Turn) → TurnOf P t x → NoneIntroduced (names_mentioned P x)
mentions-none P d t shut none x h n k =
    let found = among-joined (turns_of_instance P) (instances t) x h in
    let i = found.0 in
    let share = (is_allowed_instance-exact P i).0 (among-all (λ j. IsTrue (is_allowed_instance P j)) (instances t) i (all-allowed P d t shut) found.1) in
    let same = turns-by_cases P i share.0 share.1 share.2 in
    let values = ap (λ (c : ClauseInstance). c.values) share.2 in
    let w = root-works P share.0 share.1.instance.given Anything Anything (λ v. NoneIntroduced (names_of_value v)) (λ y q. tt) (λ g q. tt) (λ v q. values-none t none i found.1 v (subst (λ vs. Among vs v) (sym values) q)) x (subst (λ ts. Among ts x) same found.2) in
    elim (among-append (flat_map names_of_value x.values) (flat_map (names_of_home P) (flat_map names_of_value x.values)) n k) [
      | inl q ↦ in_values w.values n q
      | inr q ↦ let r = among-joined (names_of_home P) (flat_map names_of_value x.values) n q in absurd (none-home P r.0 n (in_values w.values r.0 r.1) r.2)
    ]
  where
    in_values : AllByRecursion (λ v. NoneIntroduced (names_of_value v)) x.values → NoneIntroduced (flat_map names_of_value x.values)
    in_values all m q = let r = among-joined names_of_value x.values m q in among-all (λ v. NoneIntroduced (names_of_value v)) x.values r.0 all r.1 m r.2

pub introduced-is : (P : Problem) (z : Turn) (n : Name) → Among (names_introduced P z) n → is_introduced n ≡ true
introduced-is P z n h = elim (introduced-cases P z n h) [ inl e ↦ ap is_introduced e.1 | inr e ↦ ap is_introduced e.1 ]
