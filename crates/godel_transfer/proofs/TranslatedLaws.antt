-- The translated problem is a problem, where its formula is not too large.
use Rattle.std.proofs.Common.{◌≡◌, ℕ, suc, ◌≤◌, List, length, true, ◌&&◌, IsTrue, subst, nat_le, arith}
use Rattle.std.specs.List.{list_all}
use Rattle.std.proofs.lemmas.Bool.{false≢true, and_parts, and_from, le-leb}
use Rattle.calculus.specs.declared.setting.Logic.TheVariants.{Intuitionistic, S4}
use Rattle.calculus.specs.Syntax.{Symbol, Formula, atom, neg, conj, disj, imp, all, ex, box, dia, Problem}
use Rattle.calculus.specs.Measures.{node_count, nesting}
use Rattle.calculus.specs.Problems.{formula_fits, setting_fits, symbol_fits, are_distinct, is_problem}
use Rattle.calculus.specs.Translation.{translation_of, translated_problem}
use Rattle.logic_rules.proofs.ProblemFacts.{kept}

pub translation-fits : (symbols : List Symbol) (d : ℕ) (a : Formula) → formula_fits Intuitionistic symbols d a ≡ true → formula_fits S4 symbols d (translation_of a) ≡ true
translation-fits symbols d (atom p ts) h = h
translation-fits symbols d (neg a) h = translation-fits symbols d a h
translation-fits symbols d (conj a b) h = let r = and_parts (formula_fits Intuitionistic symbols d a) (formula_fits Intuitionistic symbols d b) h in and_from (formula_fits S4 symbols d (translation_of a)) (formula_fits S4 symbols d (translation_of b)) (translation-fits symbols d a r.0) (translation-fits symbols d b r.1)
translation-fits symbols d (disj a b) h = let r = and_parts (formula_fits Intuitionistic symbols d a) (formula_fits Intuitionistic symbols d b) h in and_from (formula_fits S4 symbols d (translation_of a)) (formula_fits S4 symbols d (translation_of b)) (translation-fits symbols d a r.0) (translation-fits symbols d b r.1)
translation-fits symbols d (imp a b) h = let r = and_parts (formula_fits Intuitionistic symbols d a) (formula_fits Intuitionistic symbols d b) h in and_from (formula_fits S4 symbols d (translation_of a)) (formula_fits S4 symbols d (translation_of b)) (translation-fits symbols d a r.0) (translation-fits symbols d b r.1)
translation-fits symbols d (all a) h = translation-fits symbols (suc d) a h
translation-fits symbols d (ex a) h = translation-fits symbols (suc d) a h
translation-fits symbols d (box a) h = absurd (false≢true h)
translation-fits symbols d (dia a) h = absurd (false≢true h)

pub translated-problem : (P : Problem) → IsTrue (is_problem P) → P.setting.logic ≡ Intuitionistic → node_count (translation_of P.formula) ≤ 4000000 → nesting (translation_of P.formula) ≤ 1000 → IsTrue (is_problem (translated_problem P))
translated-problem P h logic nodes depth =
    let Q = translated_problem P in
    let k = kept P h in
    let fits : formula_fits S4 P.symbols 0 (translation_of P.formula) ≡ true = translation-fits P.symbols 0 P.formula (subst (λ l. formula_fits l P.symbols 0 P.formula ≡ true) logic k.formula) in
    and_from (formula_fits S4 P.symbols 0 Q.formula && list_all symbol_fits P.symbols && are_distinct P.symbols && nat_le (length P.symbols) 65536 && nat_le (node_count Q.formula) 4000000) (nat_le (nesting Q.formula) 1100)
    (and_from (formula_fits S4 P.symbols 0 Q.formula && list_all symbol_fits P.symbols && are_distinct P.symbols && nat_le (length P.symbols) 65536) (nat_le (node_count Q.formula) 4000000)
    (and_from (formula_fits S4 P.symbols 0 Q.formula && list_all symbol_fits P.symbols && are_distinct P.symbols) (nat_le (length P.symbols) 65536)
    (and_from (formula_fits S4 P.symbols 0 Q.formula && list_all symbol_fits P.symbols) (are_distinct P.symbols)
    (and_from (formula_fits S4 P.symbols 0 Q.formula) (list_all symbol_fits P.symbols) fits k.symbols) k.distinct) k.few) (le-leb (node_count Q.formula) 4000000 nodes)) (le-leb (nesting Q.formula) 1100 (omega arith))
