-- The conditions on a structure's text hold exactly where it states a structure of the problem's setting.
use Rattle.std.proofs.Common.{◌≡◌, ◌↔◌, ℕ, zero, suc, ◌+◌, List, [], ◌∷◌, ◌++◌, length, map, Bool, true, false, ◌&&◌, ◌==◌, Option, Some, None, IsTrue, refl, sym, ◌∙◌, ap, if◌then◌else◌, eqb-true}
use Rattle.std.specs.List.{list_all}
use Rattle.std.proofs.lemmas.Bool.{true≢false, and_parts}
use Rattle.std.proofs.lemmas.List.Folds.{list_all-append}
use Rattle.calculus.specs.declared.setting.Logic.{Logic}
use Rattle.calculus.specs.declared.setting.Logic.TheVariants.{Classical, Intuitionistic, D, T as LogicT, S4, S5}
use Rattle.calculus.specs.declared.setting.Domains.{Domains}
use Rattle.calculus.specs.declared.setting.Domains.TheVariants.{Constant, Cumulative, Varying}
use Rattle.calculus.specs.declared.fault.StructureCause.{StructureCause}
use Rattle.calculus.specs.Syntax.{Symbol, Problem}
use Rattle.calculus.specs.Skolem.{is_function}
use Rattle.calculus.specs.Structures.{Structure, domain_of, list_at, numbers_from, worlds, has_element, are_tables, is_in_range, keeps_domains, relation_fits, domains_fit, functions_fit, atoms_persist, persistence_fits, is_structure, is_reflexive, is_transitive_relation}
use Rattle.calculus.specs.StructureText.{Condition, at_worlds, relation_conditions, domain_conditions, function_conditions, persistence_conditions_from, persistence_conditions, conditions, first_broken, can_be_stated, first_function_line, first_predicate_line, domain_line, reflexive_conditions, transitive_conditions, persists_at, is_size, fits_table, rises}
use Rattle.calculus.specs.declared.fault.StructureCause.TheVariants as cause

abbrev all_hold : List Condition → Bool
all_hold cs = list_all (λ (c : Condition). c.holds) cs

append-hold : (cs ds : List Condition) → all_hold (cs ++ ds) ≡ (all_hold cs && all_hold ds)
append-hold cs ds = list_all-append (λ (c : Condition). c.holds) cs ds

none_some : {A : Type 0} {x : A} → Some x ≡ None → ⊥
none_some {A} {x} e = true≢false (ap is_there e)
  where
    is_there : Option A → Bool
    is_there None = false
    is_there (Some y) = true

unbroken : (cs : List Condition) → first_broken cs ≡ None → IsTrue (all_hold cs)
unbroken [] h = refl
unbroken (c ∷ cs) h = by c.holds refl (unbroken cs)
  where
    by : (b : Bool) → c.holds ≡ b → (first_broken cs ≡ None → IsTrue (all_hold cs)) → IsTrue (c.holds && all_hold cs)
    by true e rest = ap (λ b. b && all_hold cs) e ∙ rest (ap (λ b. if b then first_broken cs else Some c) (sym e) ∙ h)
    by false e rest = absurd (none_some (ap (λ b. if b then first_broken cs else Some c) (sym e) ∙ h))

holding : (cs : List Condition) → IsTrue (all_hold cs) → first_broken cs ≡ None
holding [] h = refl
holding (c ∷ cs) h = let p = and_parts c.holds (all_hold cs) h in ap (λ b. if b then first_broken cs else Some c) p.0 ∙ holding cs p.1

-- ---- each group of conditions

worlds-hold : (S : Structure) (line : ℕ → ℕ) (c : StructureCause) (test : ℕ → Bool) → all_hold (at_worlds S line c test) ≡ list_all test (worlds S)
worlds-hold S line c test = by (worlds S)
  where
    by : (ws : List ℕ) → all_hold (map (λ w. record { line = line w; cause = c; holds = test w }) ws) ≡ list_all test ws
    by [] = refl
    by (w ∷ ws) = ap (λ b. test w && b) (by ws)

pub shifted : (f : ℕ → Bool) (a n : ℕ) → list_all f (numbers_from (suc a) n) ≡ list_all (λ w. f (suc w)) (numbers_from a n)
shifted f a zero = refl
shifted f a (suc n) = ap (λ b. f (suc a) && b) (shifted f (suc a) n)

-- the numbers of a list's items, and the items
items-hold : (f : List ℕ → Bool) (xs : List (List ℕ)) → list_all (λ w. f (list_at xs w)) (numbers_from 0 (length xs)) ≡ list_all f xs
items-hold f [] = refl
items-hold f (x ∷ xs) = ap (λ b. f x && b) (shifted (λ w. f (list_at (x ∷ xs) w)) 0 (length xs) ∙ items-hold f xs)

and-swap : (a b : Bool) → (a && (b && true)) ≡ (b && a)
and-swap true true = refl
and-swap true false = refl
and-swap false true = refl
and-swap false false = refl

reflexive-hold : (S : Structure) → all_hold (reflexive_conditions S) ≡ is_reflexive S
reflexive-hold S = worlds-hold S _ _ _

transitive-hold : (S : Structure) → all_hold (transitive_conditions S) ≡ is_transitive_relation S
transitive-hold S = worlds-hold S _ _ _

relations-hold : (l : Logic) (S : Structure) → all_hold (relation_conditions l S) ≡ relation_fits l S
relations-hold Classical S = append-hold (reflexive_conditions S) (record { line = 3; cause = cause.Worlds; holds = length S.successors == 1 } ∷ []) ∙ ap (λ b. b && ((length S.successors == 1) && true)) (worlds-hold S _ _ _) ∙ and-swap (is_reflexive S) (length S.successors == 1)
relations-hold Intuitionistic S = append-hold (reflexive_conditions S) (transitive_conditions S) ∙ (λ i. reflexive-hold S i && transitive-hold S i)
relations-hold D S = worlds-hold S _ _ _
relations-hold LogicT S = worlds-hold S _ _ _
relations-hold S4 S = append-hold (reflexive_conditions S) (transitive_conditions S) ∙ (λ i. reflexive-hold S i && transitive-hold S i)
relations-hold S5 S = worlds-hold S _ _ _

domains-hold : (d : Domains) (S : Structure) → all_hold (domain_conditions d S) ≡ domains_fit d S
domains-hold Constant S = worlds-hold S _ _ _
domains-hold Cumulative S = worlds-hold S _ _ _
domains-hold Varying S = refl

functions-hold : (S : Structure) (line k : ℕ) (ss : List Symbol) → all_hold (function_conditions S line k ss) ≡ functions_fit S k ss
functions-hold S line k [] = refl
functions-hold S line k (s ∷ ss) = by (is_function s.class) refl (functions-hold S (suc line) (suc k) ss) (functions-hold S line (suc k) ss)
  where
    by : (b : Bool) → is_function s.class ≡ b → all_hold (function_conditions S (suc line) (suc k) ss) ≡ functions_fit S (suc k) ss → all_hold (function_conditions S line (suc k) ss) ≡ functions_fit S (suc k) ss → all_hold (function_conditions S line k (s ∷ ss)) ≡ functions_fit S k (s ∷ ss)
    by true e x y = rw e (ap (λ b. keeps_domains S k s.arity && b) x)
    by false e x y = rw e y

persistence-from-hold : (S : Structure) (line k : ℕ) (ss : List Symbol) → all_hold (persistence_conditions_from S line k ss) ≡ atoms_persist S k ss
persistence-from-hold S line k [] = refl
persistence-from-hold S line k (s ∷ ss) = by (is_function s.class) refl (persistence-from-hold S line (suc k) ss) (persistence-from-hold S (line + length S.successors) (suc k) ss)
  where
    by : (b : Bool) → is_function s.class ≡ b → all_hold (persistence_conditions_from S line (suc k) ss) ≡ atoms_persist S (suc k) ss → all_hold (persistence_conditions_from S (line + length S.successors) (suc k) ss) ≡ atoms_persist S (suc k) ss → all_hold (persistence_conditions_from S line k (s ∷ ss)) ≡ atoms_persist S k (s ∷ ss)
    by true e x y = rw e x
    by false e x y = rw e (append-hold (at_worlds S (λ w. line + w) cause.Persistence (persists_at S k s.arity)) (persistence_conditions_from S (line + length S.successors) (suc k) ss) ∙ (λ i. worlds-hold S (λ w. line + w) cause.Persistence (persists_at S k s.arity) i && y i))

persistence-hold : (l : Logic) (S : Structure) (line : ℕ) (ss : List Symbol) → all_hold (persistence_conditions l S line ss) ≡ persistence_fits l S ss
persistence-hold Classical S line ss = refl
persistence-hold Intuitionistic S line ss = persistence-from-hold S line 0 ss
persistence-hold D S line ss = refl
persistence-hold LogicT S line ss = refl
persistence-hold S4 S line ss = refl
persistence-hold S5 S line ss = refl

-- ---- together

-- the five groups
groups : (P : Problem) (S : Structure) → all_hold (conditions P S) ≡ (list_all (λ w. has_element (domain_of S w)) (worlds S) && relation_fits P.setting.logic S && domains_fit P.setting.domains S && functions_fit S 0 P.symbols && persistence_fits P.setting.logic S P.symbols)
groups P S =
    let a = at_worlds S (domain_line S) cause.EmptyDomain (λ w. has_element (domain_of S w)) in
    let b = relation_conditions P.setting.logic S in
    let c = domain_conditions P.setting.domains S in
    let d = function_conditions S (first_function_line S) 0 P.symbols in
    let e = persistence_conditions P.setting.logic S (first_predicate_line P S) P.symbols in
    append-hold (((a ++ b) ++ c) ++ d) e
    ∙ ap (λ x. x && all_hold e) (append-hold ((a ++ b) ++ c) d)
    ∙ ap (λ x. x && all_hold d && all_hold e) (append-hold (a ++ b) c)
    ∙ ap (λ x. x && all_hold c && all_hold d && all_hold e) (append-hold a b)
    ∙ (λ i. worlds-hold S (domain_line S) cause.EmptyDomain (λ w. has_element (domain_of S w)) i && relations-hold P.setting.logic S i && domains-hold P.setting.domains S i && functions-hold S (first_function_line S) 0 P.symbols i && persistence-hold P.setting.logic S (first_predicate_line P S) P.symbols i)

pub as-many : (S : Structure) → IsTrue (is_in_range S) → length S.domains ≡ length S.successors
as-many S h =
    let a = and_parts _ _ h in
    let b = and_parts _ _ a.0 in
    let c = and_parts _ (length S.domains == length S.successors) b.0 in
    eqb-true (length S.domains) (length S.successors) c.1

-- a structure that can be stated is one of the problem's setting exactly where no condition is broken
pub unbroken-structure : (P : Problem) (S : Structure) → IsTrue (can_be_stated P S) → (first_broken (conditions P S) ≡ None) ↔ IsTrue (is_structure P S)
unbroken-structure P S h = (there, back)
  where
    range : IsTrue (is_in_range S)
    range =
        let sizes = is_size (length S.successors) && is_size S.elements && list_all (fits_table S.elements) P.symbols in
        let lists = is_in_range S && list_all rises S.successors && list_all rises S.domains in
        let a = and_parts (sizes && lists) (are_tables S P.symbols S.meanings) h in
        let b = and_parts sizes lists a.0 in
        let c = and_parts (is_in_range S && list_all rises S.successors) (list_all rises S.domains) b.1 in
        (and_parts (is_in_range S) (list_all rises S.successors) c.0).0

    tables : IsTrue (are_tables S P.symbols S.meanings)
    tables = (and_parts (is_size (length S.successors) && is_size S.elements && list_all (fits_table S.elements) P.symbols && (is_in_range S && list_all rises S.successors && list_all rises S.domains)) (are_tables S P.symbols S.meanings) h).1

    same : all_hold (conditions P S) ≡ (list_all has_element S.domains && relation_fits P.setting.logic S && domains_fit P.setting.domains S && functions_fit S 0 P.symbols && persistence_fits P.setting.logic S P.symbols)
    same = groups P S ∙ ap (λ b. b && relation_fits P.setting.logic S && domains_fit P.setting.domains S && functions_fit S 0 P.symbols && persistence_fits P.setting.logic S P.symbols) (ap (λ n. list_all (λ w. has_element (domain_of S w)) (numbers_from 0 n)) (sym (as-many S range)) ∙ items-hold has_element S.domains)

    and-in : (a b c d e f g : Bool) → IsTrue a → IsTrue b → (a && b && c && d && e && f && g) ≡ (c && d && e && f && g)
    and-in true true c d e f g ha hb = refl
    and-in true false c d e f g ha hb = absurd (true≢false (sym hb))
    and-in false b c d e f g ha hb = absurd (true≢false (sym ha))

    whole : is_structure P S ≡ all_hold (conditions P S)
    whole = and-in (is_in_range S) (are_tables S P.symbols S.meanings) (list_all has_element S.domains) (relation_fits P.setting.logic S) (domains_fit P.setting.domains S) (functions_fit S 0 P.symbols) (persistence_fits P.setting.logic S P.symbols) range tables ∙ sym same

    there : first_broken (conditions P S) ≡ None → IsTrue (is_structure P S)
    there e = whole ∙ unbroken (conditions P S) e

    back : IsTrue (is_structure P S) → first_broken (conditions P S) ≡ None
    back e = holding (conditions P S) (sym whole ∙ e)
