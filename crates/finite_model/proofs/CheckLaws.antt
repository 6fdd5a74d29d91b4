-- How lists of conditions are judged one after the other, and from symbol to symbol.
use Rattle.std.proofs.Common.{Result, Err, ◌≡◌, ℕ, suc, ◌+◌, ◌≤◌, List, [], ◌∷◌, ◌++◌, length, drop, Bool, true, false, not, ◌&&◌, ◌==◌, ◌^◌, IsTrue, Option, Some, None, refl, sym, ◌∙◌, ap, subst, arith, slice_get, if◌then◌else◌, nat_lt}
use Rattle.std.specs.List.{list_all}
use Rattle.std.proofs.Math.ListN.{drop_of_length-le}
use Rattle.std.proofs.lemmas.Bool.{and_parts, false≢true}
use Rattle.plain_laws.proofs.Numbers.{other-number}
use Rattle.calculus.proofs.StructureTextLaws.{as-many}
use Rattle.calculus.specs.declared.fault.StructureCause.{StructureCause}
use Rattle.calculus.specs.declared.fault.StructureCause.TheVariants as cause
use Rattle.calculus.specs.declared.setting.Logic.{Logic}
use Rattle.calculus.specs.declared.setting.Domains.{Domains}
use Rattle.calculus.specs.declared.setting.Domains.TheVariants.{Constant, Cumulative, Varying}
use Rattle.calculus.specs.Skolem.{is_function}
use Rattle.calculus.specs.Syntax.{Symbol, Problem}
use Rattle.calculus.specs.Structures.{Meaning, Structure, value_table, truth_tables, are_tables, domain_of, has_element, is_in_range, is_table, keeps_domains}
use Rattle.calculus.specs.StructureText.{Condition, at_worlds, can_be_stated, conditions, domain_conditions, first_broken, first_function_line, first_predicate_line, function_conditions, function_lines, persistence_conditions, persistence_conditions_from, persists_at, relation_conditions, rises}
use Rattle.finite_model.specs.declared.fault.StructureRead.{StructureRead}
use Rattle.finite_model.specs.declared.fault.StructureRead.TheVariants.{Bad}
use Rattle.finite_model.specs.Conditions.{IsFirstBroken, holds_at, one_world_condition}
use Rattle.finite_model.specs.declared.asked.Asked.TheVariants.{SameDomain, KeptDomain}
use Rattle.finite_model.specs.Slots.{function_count}
use Rattle.finite_model.proofs.ConditionLaws.{broken-first, unbroken-on}
use Rattle.finite_model.proofs.NextSlots.{rest-at}

-- ---- one list after the other

-- a broken condition by the answer that tells it
pub broken-told : {A : Type 0} (cs : List Condition) (m line : ℕ) (c why : StructureCause) → ◌≡◌ {A = Result A StructureRead} (Err (Bad m c)) (Err (Bad line why)) → IsFirstBroken cs m c → IsFirstBroken cs line why
broken-told cs m line c why e b =
    let x : m ≡ line = cc e in
    let y : c ≡ why = cc e in
    record { condition = b.condition; first = b.first; line = b.line ∙ x; cause = b.cause ∙ y }

pub broken-before : (a b : List Condition) (line : ℕ) (why : StructureCause) → IsFirstBroken a line why → IsFirstBroken (a ++ b) line why
broken-before a b line why h = record { condition = h.condition; first = broken-first a b h.condition h.first; line = h.line; cause = h.cause }

pub broken-behind : (a b : List Condition) (line : ℕ) (why : StructureCause) → first_broken a ≡ None → IsFirstBroken b line why → IsFirstBroken (a ++ b) line why
broken-behind a b line why none h = record { condition = h.condition; first = unbroken-on a b none ∙ h.first; line = h.line; cause = h.cause }

pub broken-same : (a b : List Condition) (line : ℕ) (why : StructureCause) → first_broken a ≡ first_broken b → IsFirstBroken a line why → IsFirstBroken b line why
broken-same a b line why e h = record { condition = h.condition; first = sym e ∙ h.first; line = h.line; cause = h.cause }

pub both-hold : (a b : List Condition) → first_broken a ≡ None → first_broken b ≡ None → first_broken (a ++ b) ≡ None
both-hold a b none h = unbroken-on a b none ∙ h

pub many-worlds : (S : Structure) → ¬ (length S.successors ≡ 1) → IsFirstBroken (one_world_condition S) 3 cause.Worlds
many-worlds S h = record {
  condition = record { line = 3; cause = cause.Worlds; holds = length S.successors == 1 };
  first = ap (λ b. if b then None else Some (record { line = 3; cause = cause.Worlds; holds = length S.successors == 1 })) (other-number (length S.successors) 1 h);
  line = refl;
  cause = refl;
}

-- ---- the conditions on domains, whose lines begin at this one

pub constant-conditions : (S : Structure) (n : ℕ) (d : Domains) → n ≡ 5 + length S.successors → d ≡ Constant → at_worlds S (λ w. n + w) cause.Domains (holds_at S SameDomain) ≡ domain_conditions d S
constant-conditions S n d e h = ap (λ k. at_worlds S (λ w. k + w) cause.Domains (holds_at S SameDomain)) e ∙ ap (λ x. domain_conditions x S) (sym h)

pub cumulative-conditions : (S : Structure) (n : ℕ) (d : Domains) → n ≡ 5 + length S.successors → d ≡ Cumulative → at_worlds S (λ w. n + w) cause.Domains (holds_at S KeptDomain) ≡ domain_conditions d S
cumulative-conditions S n d e h = ap (λ k. at_worlds S (λ w. k + w) cause.Domains (holds_at S KeptDomain)) e ∙ ap (λ x. domain_conditions x S) (sym h)

pub varying-conditions : (S : Structure) (d : Domains) → d ≡ Varying → first_broken (domain_conditions d S) ≡ None
varying-conditions S d h = ap (λ x. first_broken (domain_conditions x S)) h

-- ---- from function to function

abbrev function_condition : Structure → ℕ → ℕ → Symbol → Condition
function_condition S line k s = record { line = line; cause = cause.Function; holds = keeps_domains S k s.arity }

functions-at : (S : Structure) (symbols : List Symbol) (line i : ℕ) (s : Symbol) (b : Bool) → slice_get symbols i ≡ Some s → b ≡ is_function s.class
    → function_conditions S line i (drop i symbols) ≡ (if b then function_condition S line i s ∷ function_conditions S (suc line) (suc i) (drop (i + 1) symbols) else function_conditions S line (suc i) (drop (i + 1) symbols))
functions-at S symbols line i s b h e =
    ap (function_conditions S line i) (rest-at symbols i s h)
    ∙ ap (λ c. if c then function_condition S line i s ∷ function_conditions S (suc line) (suc i) (drop (i + 1) symbols) else function_conditions S line (suc i) (drop (i + 1) symbols)) (sym e)

pub function-held : (S : Structure) (symbols : List Symbol) (line i n : ℕ) (s : Symbol) (b keeps : Bool) (all : Option Condition) → slice_get symbols i ≡ Some s → b ≡ is_function s.class → b ≡ true → n ≡ s.arity → keeps ≡ keeps_domains S i n → keeps ≡ true → first_broken (function_conditions S line i (drop i symbols)) ≡ all → first_broken (function_conditions S (line + 1) (i + 1) (drop (i + 1) symbols)) ≡ all
function-held S symbols line i n s b keeps all h e hy en ek kept before =
    (let x : line + 1 ≡ suc line = omega arith in let y : i + 1 ≡ suc i = omega arith in λ j. first_broken (function_conditions S (x j) (y j) (drop (i + 1) symbols)))
    ∙ ap (λ c. if c then first_broken (function_conditions S (suc line) (suc i) (drop (i + 1) symbols)) else Some (function_condition S line i s)) (sym kept ∙ ek ∙ ap (keeps_domains S i) en)
    ∙ ap first_broken (sym (functions-at S symbols line i s true h (sym hy ∙ e)))
    ∙ before

pub function-broken : (S : Structure) (symbols : List Symbol) (line i n : ℕ) (s : Symbol) (b keeps : Bool) (all : List Condition) → slice_get symbols i ≡ Some s → b ≡ is_function s.class → b ≡ true → n ≡ s.arity → keeps ≡ keeps_domains S i n → keeps ≡ false → first_broken (function_conditions S line i (drop i symbols)) ≡ first_broken all → IsFirstBroken all line cause.Function
function-broken S symbols line i n s b keeps all h e hy en ek not_kept before = record {
  condition = function_condition S line i s;
  first =
      sym before
      ∙ ap first_broken (functions-at S symbols line i s true h (sym hy ∙ e))
      ∙ ap (λ c. if c then first_broken (function_conditions S (suc line) (suc i) (drop (i + 1) symbols)) else Some (function_condition S line i s)) (ap (keeps_domains S i) (sym en) ∙ sym ek ∙ not_kept);
  line = refl;
  cause = refl;
}

pub function-passed : (S : Structure) (symbols : List Symbol) (line i : ℕ) (s : Symbol) (b : Bool) (all : Option Condition) → slice_get symbols i ≡ Some s → b ≡ is_function s.class → b ≡ false → first_broken (function_conditions S line i (drop i symbols)) ≡ all → first_broken (function_conditions S line (i + 1) (drop (i + 1) symbols)) ≡ all
function-passed S symbols line i s b all h e hn before =
    (let y : i + 1 ≡ suc i = omega arith in ap (λ k. first_broken (function_conditions S line k (drop (i + 1) symbols))) y)
    ∙ ap first_broken (sym (functions-at S symbols line i s false h (sym hn ∙ e)))
    ∙ before

pub functions-hold : (S : Structure) (symbols : List Symbol) (line i : ℕ) (all : Option Condition) → length symbols ≡ i → first_broken (function_conditions S line i (drop i symbols)) ≡ all → all ≡ None
functions-hold S symbols line i all h before = sym before ∙ ap (λ ss. first_broken (function_conditions S line i ss)) (drop_of_length-le symbols (let k : length symbols ≤ i = omega arith in k))

-- ---- from predicate to predicate

abbrev rows_conditions : Structure → ℕ → ℕ → Symbol → List Condition
rows_conditions S line k s = at_worlds S (λ w. line + w) cause.Persistence (persists_at S k s.arity)

predicates-at : (S : Structure) (symbols : List Symbol) (line i : ℕ) (s : Symbol) (b : Bool) → slice_get symbols i ≡ Some s → b ≡ is_function s.class
    → persistence_conditions_from S line i (drop i symbols) ≡ (if b then persistence_conditions_from S line (suc i) (drop (i + 1) symbols) else rows_conditions S line i s ++ persistence_conditions_from S (line + length S.successors) (suc i) (drop (i + 1) symbols))
predicates-at S symbols line i s b h e =
    ap (persistence_conditions_from S line i) (rest-at symbols i s h)
    ∙ ap (λ c. if c then persistence_conditions_from S line (suc i) (drop (i + 1) symbols) else rows_conditions S line i s ++ persistence_conditions_from S (line + length S.successors) (suc i) (drop (i + 1) symbols)) (sym e)

pub predicate-held : (S : Structure) (symbols : List Symbol) (line i n W : ℕ) (s : Symbol) (b : Bool) (all : Option Condition) → slice_get symbols i ≡ Some s → b ≡ is_function s.class → b ≡ false → n ≡ s.arity → W ≡ length S.successors → first_broken (at_worlds S (λ w. line + w) cause.Persistence (persists_at S i n)) ≡ None → first_broken (persistence_conditions_from S line i (drop i symbols)) ≡ all → first_broken (persistence_conditions_from S (line + W) (i + 1) (drop (i + 1) symbols)) ≡ all
predicate-held S symbols line i n W s b all h e hn en ew none before =
    (let y : i + 1 ≡ suc i = omega arith in λ j. first_broken (persistence_conditions_from S (line + ew j) (y j) (drop (i + 1) symbols)))
    ∙ sym (unbroken-on (rows_conditions S line i s) (persistence_conditions_from S (line + length S.successors) (suc i) (drop (i + 1) symbols)) (ap (λ k. first_broken (at_worlds S (λ w. line + w) cause.Persistence (persists_at S i k))) (sym en) ∙ none))
    ∙ ap first_broken (sym (predicates-at S symbols line i s false h (sym hn ∙ e)))
    ∙ before

pub predicate-broken : (S : Structure) (symbols : List Symbol) (line i n place : ℕ) (why : StructureCause) (s : Symbol) (b : Bool) (all : List Condition) → slice_get symbols i ≡ Some s → b ≡ is_function s.class → b ≡ false → n ≡ s.arity → IsFirstBroken (at_worlds S (λ w. line + w) cause.Persistence (persists_at S i n)) place why → first_broken (persistence_conditions_from S line i (drop i symbols)) ≡ first_broken all → IsFirstBroken all place why
predicate-broken S symbols line i n place why s b all h e hn en broken before =
    broken-same (rows_conditions S line i s ++ persistence_conditions_from S (line + length S.successors) (suc i) (drop (i + 1) symbols)) all place why
    (ap first_broken (sym (predicates-at S symbols line i s false h (sym hn ∙ e))) ∙ before)
    (broken-before (rows_conditions S line i s) (persistence_conditions_from S (line + length S.successors) (suc i) (drop (i + 1) symbols)) place why (subst (λ k. IsFirstBroken (at_worlds S (λ w. line + w) cause.Persistence (persists_at S i k)) place why) en broken))

pub predicate-passed : (S : Structure) (symbols : List Symbol) (line i : ℕ) (s : Symbol) (b : Bool) (all : Option Condition) → slice_get symbols i ≡ Some s → b ≡ is_function s.class → b ≡ true → first_broken (persistence_conditions_from S line i (drop i symbols)) ≡ all → first_broken (persistence_conditions_from S line (i + 1) (drop (i + 1) symbols)) ≡ all
predicate-passed S symbols line i s b all h e hy before =
    (let y : i + 1 ≡ suc i = omega arith in ap (λ k. first_broken (persistence_conditions_from S line k (drop (i + 1) symbols))) y)
    ∙ ap first_broken (sym (predicates-at S symbols line i s true h (sym hy ∙ e)))
    ∙ before

pub predicates-hold : (S : Structure) (symbols : List Symbol) (line i : ℕ) (all : Option Condition) → length symbols ≡ i → first_broken (persistence_conditions_from S line i (drop i symbols)) ≡ all → all ≡ None
predicates-hold S symbols line i all h before = sym before ∙ ap (λ ss. first_broken (persistence_conditions_from S line i ss)) (drop_of_length-le symbols (let k : length symbols ≤ i = omega arith in k))

-- ---- all conditions

function-line_count : (S : Structure) (ss : List Symbol) (ms : List Meaning) → IsTrue (are_tables S ss ms) → length (function_lines ss ms) ≡ function_count ss
function-line_count S [] [] h = refl
function-line_count S [] (m ∷ ms) h = refl
function-line_count S (s ∷ ss) [] h = absurd (false≢true h)
function-line_count S (s ∷ ss) (value_table vs ∷ ms) h =
    let p = and_parts (is_table S s (value_table vs)) (are_tables S ss ms) h in
    let q = and_parts (is_function s.class && length vs == S.elements ^ s.arity) (list_all (λ v. nat_lt v S.elements) vs) p.0 in
    let r = and_parts (is_function s.class) (length vs == S.elements ^ s.arity) q.0 in
    ap suc (function-line_count S ss ms p.1) ∙ ap (λ b. if b then suc (function_count ss) else function_count ss) (sym r.0)
function-line_count S (s ∷ ss) (truth_tables rows ∷ ms) h =
    let p = and_parts (is_table S s (truth_tables rows)) (are_tables S ss ms) h in
    let q = and_parts (not (is_function s.class) && length rows == length S.successors) (list_all (λ row. length row == S.elements ^ s.arity) rows) p.0 in
    let r = and_parts (not (is_function s.class)) (length rows == length S.successors) q.0 in
    function-line_count S ss ms p.1 ∙ ap (λ b. if b then suc (function_count ss) else function_count ss) (sym (not-true (is_function s.class) r.0))
  where
    not-true : (b : Bool) → IsTrue (not b) → b ≡ false
    not-true true k = sym k
    not-true false k = refl

pub range-stated : (P : Problem) (S : Structure) → IsTrue (can_be_stated P S) → IsTrue (is_in_range S)
range-stated P S h = (and_parts (is_in_range S) (list_all rises S.successors) (and_parts _ (list_all rises S.domains) (and_parts _ (is_in_range S && list_all rises S.successors && list_all rises S.domains) (and_parts _ (are_tables S P.symbols S.meanings) h).0).1).0).0

pub tables-stated : (P : Problem) (S : Structure) → IsTrue (can_be_stated P S) → IsTrue (are_tables S P.symbols S.meanings)
tables-stated P S h = (and_parts _ (are_tables S P.symbols S.meanings) h).1

-- the five groups by the lines at which they begin
pub record AreGroups (P : Problem) (S : Structure) (domains functions predicates : ℕ) : Type 0 where
  pub domains_at : domains ≡ 5 + length S.successors
  pub functions_at : functions ≡ domains + length S.successors
  pub predicates_at : predicates ≡ functions + function_count P.symbols

abbrev pub group_elements : Structure → ℕ → List Condition
group_elements S line = at_worlds S (λ w. line + w) cause.EmptyDomain (λ w. has_element (domain_of S w))

abbrev pub all_groups : Problem → Structure → ℕ → ℕ → ℕ → List Condition
all_groups P S domains functions predicates = group_elements S domains ++ relation_conditions P.setting.logic S ++ domain_conditions P.setting.domains S ++ function_conditions S functions 0 P.symbols ++ persistence_conditions P.setting.logic S predicates P.symbols

pub grouped : (P : Problem) (S : Structure) (domains functions predicates : ℕ) → IsTrue (can_be_stated P S) → AreGroups P S domains functions predicates → all_groups P S domains functions predicates ≡ conditions P S
grouped P S domains functions predicates h g =
    let many = as-many S (range-stated P S h) in
    let fs : functions ≡ first_function_line S = g.functions_at ∙ (λ i. g.domains_at i + sym many i) in
    let ps : predicates ≡ first_predicate_line P S = g.predicates_at ∙ (λ i. fs i + sym (function-line_count S P.symbols S.meanings (tables-stated P S h)) i) in
    λ i. group_elements S (g.domains_at i) ++ relation_conditions P.setting.logic S ++ domain_conditions P.setting.domains S ++ function_conditions S (fs i) 0 P.symbols ++ persistence_conditions P.setting.logic S (ps i) P.symbols

-- the conditions in five groups: the first one that is broken, where the groups before it hold
pub in-first : (a b c d e all : List Condition) → a ++ b ++ c ++ d ++ e ≡ all → (line : ℕ) (why : StructureCause) → IsFirstBroken a line why → IsFirstBroken all line why
in-first a b c d e all same line why h = subst (λ l. IsFirstBroken l line why) same (broken-before (a ++ b ++ c ++ d) e line why (broken-before (a ++ b ++ c) d line why (broken-before (a ++ b) c line why (broken-before a b line why h))))

pub in-second : (a b c d e all : List Condition) → a ++ b ++ c ++ d ++ e ≡ all → first_broken a ≡ None → (line : ℕ) (why : StructureCause) → IsFirstBroken b line why → IsFirstBroken all line why
in-second a b c d e all same ha line why h = subst (λ l. IsFirstBroken l line why) same (broken-before (a ++ b ++ c ++ d) e line why (broken-before (a ++ b ++ c) d line why (broken-before (a ++ b) c line why (broken-behind a b line why ha h))))

pub in-third : (a b c d e all : List Condition) → a ++ b ++ c ++ d ++ e ≡ all → first_broken a ≡ None → first_broken b ≡ None → (line : ℕ) (why : StructureCause) → IsFirstBroken c line why → IsFirstBroken all line why
in-third a b c d e all same ha hb line why h = subst (λ l. IsFirstBroken l line why) same (broken-before (a ++ b ++ c ++ d) e line why (broken-before (a ++ b ++ c) d line why (broken-behind (a ++ b) c line why (both-hold a b ha hb) h)))

pub in-fourth : (a b c d e all : List Condition) → a ++ b ++ c ++ d ++ e ≡ all → first_broken a ≡ None → first_broken b ≡ None → first_broken c ≡ None → (line : ℕ) (why : StructureCause) → IsFirstBroken d line why → IsFirstBroken all line why
in-fourth a b c d e all same ha hb hc line why h = subst (λ l. IsFirstBroken l line why) same (broken-before (a ++ b ++ c ++ d) e line why (broken-behind (a ++ b ++ c) d line why (both-hold (a ++ b) c (both-hold a b ha hb) hc) h))

pub in-fifth : (a b c d e all : List Condition) → a ++ b ++ c ++ d ++ e ≡ all → first_broken a ≡ None → first_broken b ≡ None → first_broken c ≡ None → first_broken d ≡ None → (line : ℕ) (why : StructureCause) → IsFirstBroken e line why → IsFirstBroken all line why
in-fifth a b c d e all same ha hb hc hd line why h = subst (λ l. IsFirstBroken l line why) same (broken-behind (a ++ b ++ c ++ d) e line why (both-hold (a ++ b ++ c) d (both-hold (a ++ b) c (both-hold a b ha hb) hc) hd) h)

pub in-none : (a b c d e all : List Condition) → a ++ b ++ c ++ d ++ e ≡ all → first_broken a ≡ None → first_broken b ≡ None → first_broken c ≡ None → first_broken d ≡ None → first_broken e ≡ None → first_broken all ≡ None
in-none a b c d e all same ha hb hc hd he = ap first_broken (sym same) ∙ both-hold (a ++ b ++ c ++ d) e (both-hold (a ++ b ++ c) d (both-hold (a ++ b) c (both-hold a b ha hb) hc) hd) he

-- ---- the setting, the symbols and the lines as the code knows them

pub record IsAsked (P : Problem) (S : Structure) (l : Logic) (d : Domains) (ss : List Symbol) (first functions : ℕ) : Type 0 where
  pub stated : IsTrue (can_be_stated P S)
  pub logic : l ≡ P.setting.logic
  pub domains : d ≡ P.setting.domains
  pub symbols : ss ≡ P.symbols
  pub first_at : first ≡ 5 + length S.successors
  pub functions_at : functions ≡ first + length S.successors

asked-groups : (P : Problem) (S : Structure) (l : Logic) (d : Domains) (ss : List Symbol) (first functions predicates : ℕ) → IsAsked P S l d ss first functions → predicates ≡ functions + function_count ss → group_elements S first ++ relation_conditions l S ++ domain_conditions d S ++ function_conditions S functions 0 ss ++ persistence_conditions l S predicates ss ≡ conditions P S
asked-groups P S l d ss first functions predicates h e =
    (λ i. group_elements S first ++ relation_conditions (h.logic i) S ++ domain_conditions (h.domains i) S ++ function_conditions S functions 0 (h.symbols i) ++ persistence_conditions (h.logic i) S predicates (h.symbols i))
    ∙ grouped P S first functions predicates h.stated (record { domains_at = h.first_at; functions_at = h.functions_at; predicates_at = e ∙ ap (λ xs. functions + function_count xs) h.symbols })

pub asked-first : (P : Problem) (S : Structure) (first line : ℕ) (why : StructureCause) → IsTrue (can_be_stated P S) → first ≡ 5 + length S.successors → IsFirstBroken (group_elements S first) line why → IsFirstBroken (conditions P S) line why
asked-first P S first line why stated e h =
    let asked : IsAsked P S P.setting.logic P.setting.domains P.symbols first (first + length S.successors) = record { stated = stated; logic = refl; domains = refl; symbols = refl; first_at = e; functions_at = refl } in
    in-first (group_elements S first) (relation_conditions P.setting.logic S) (domain_conditions P.setting.domains S) (function_conditions S (first + length S.successors) 0 P.symbols) (persistence_conditions P.setting.logic S (first + length S.successors + function_count P.symbols) P.symbols) (conditions P S) (asked-groups P S P.setting.logic P.setting.domains P.symbols first (first + length S.successors) (first + length S.successors + function_count P.symbols) asked refl) line why h

pub asked-second : (P : Problem) (S : Structure) (l : Logic) (first line : ℕ) (why : StructureCause) → IsTrue (can_be_stated P S) → l ≡ P.setting.logic → first ≡ 5 + length S.successors → first_broken (group_elements S first) ≡ None → IsFirstBroken (relation_conditions l S) line why → IsFirstBroken (conditions P S) line why
asked-second P S l first line why stated el e one h =
    let asked : IsAsked P S l P.setting.domains P.symbols first (first + length S.successors) = record { stated = stated; logic = el; domains = refl; symbols = refl; first_at = e; functions_at = refl } in
    in-second (group_elements S first) (relation_conditions l S) (domain_conditions P.setting.domains S) (function_conditions S (first + length S.successors) 0 P.symbols) (persistence_conditions l S (first + length S.successors + function_count P.symbols) P.symbols) (conditions P S) (asked-groups P S l P.setting.domains P.symbols first (first + length S.successors) (first + length S.successors + function_count P.symbols) asked refl) one line why h

pub asked-third : (P : Problem) (S : Structure) (l : Logic) (d : Domains) (first line : ℕ) (why : StructureCause) → IsTrue (can_be_stated P S) → l ≡ P.setting.logic → d ≡ P.setting.domains → first ≡ 5 + length S.successors → first_broken (group_elements S first) ≡ None → first_broken (relation_conditions l S) ≡ None → IsFirstBroken (domain_conditions d S) line why → IsFirstBroken (conditions P S) line why
asked-third P S l d first line why stated el ed e one two h =
    let asked : IsAsked P S l d P.symbols first (first + length S.successors) = record { stated = stated; logic = el; domains = ed; symbols = refl; first_at = e; functions_at = refl } in
    in-third (group_elements S first) (relation_conditions l S) (domain_conditions d S) (function_conditions S (first + length S.successors) 0 P.symbols) (persistence_conditions l S (first + length S.successors + function_count P.symbols) P.symbols) (conditions P S) (asked-groups P S l d P.symbols first (first + length S.successors) (first + length S.successors + function_count P.symbols) asked refl) one two line why h

pub asked-fourth : (P : Problem) (S : Structure) (l : Logic) (d : Domains) (ss : List Symbol) (first functions line : ℕ) (why : StructureCause) → IsAsked P S l d ss first functions → first_broken (group_elements S first) ≡ None → first_broken (relation_conditions l S) ≡ None → first_broken (domain_conditions d S) ≡ None → IsFirstBroken (function_conditions S functions 0 ss) line why → IsFirstBroken (conditions P S) line why
asked-fourth P S l d ss first functions line why asked one two three h =
    in-fourth (group_elements S first) (relation_conditions l S) (domain_conditions d S) (function_conditions S functions 0 ss) (persistence_conditions l S (functions + function_count ss) ss) (conditions P S) (asked-groups P S l d ss first functions (functions + function_count ss) asked refl) one two three line why h

pub asked-fifth : (P : Problem) (S : Structure) (l : Logic) (d : Domains) (ss : List Symbol) (first functions predicates line : ℕ) (why : StructureCause) → IsAsked P S l d ss first functions → predicates ≡ functions + function_count ss → first_broken (group_elements S first) ≡ None → first_broken (relation_conditions l S) ≡ None → first_broken (domain_conditions d S) ≡ None → first_broken (function_conditions S functions 0 ss) ≡ None → IsFirstBroken (persistence_conditions l S predicates ss) line why → IsFirstBroken (conditions P S) line why
asked-fifth P S l d ss first functions predicates line why asked e one two three four h =
    in-fifth (group_elements S first) (relation_conditions l S) (domain_conditions d S) (function_conditions S functions 0 ss) (persistence_conditions l S predicates ss) (conditions P S) (asked-groups P S l d ss first functions predicates asked e) one two three four line why h

pub asked-none : (P : Problem) (S : Structure) (l : Logic) (d : Domains) (ss : List Symbol) (first functions predicates : ℕ) → IsAsked P S l d ss first functions → predicates ≡ functions + function_count ss → first_broken (group_elements S first) ≡ None → first_broken (relation_conditions l S) ≡ None → first_broken (domain_conditions d S) ≡ None → first_broken (function_conditions S functions 0 ss) ≡ None → first_broken (persistence_conditions l S predicates ss) ≡ None → first_broken (conditions P S) ≡ None
asked-none P S l d ss first functions predicates asked e one two three four five =
    in-none (group_elements S first) (relation_conditions l S) (domain_conditions d S) (function_conditions S functions 0 ss) (persistence_conditions l S predicates ss) (conditions P S) (asked-groups P S l d ss first functions predicates asked e) one two three four five
