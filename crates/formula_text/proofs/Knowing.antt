-- What can be written has symbols of the list alone.
use Rattle.std.proofs.Common.{◌≡◌, ℕ, suc, List, length, Bool, false, ◌&&◌, ◌<◌, nat_lt, IsTrue, refl, slice_get, zero, [], ◌∷◌, lt-ltb, ltb-true, arith, map, get_or}
use Rattle.std.specs.Option.{option_map_or}
use Rattle.std.proofs.lemmas.Bool.{false≢true, and_parts, and_from}
use Rattle.calculus.specs.declared.setting.Logic.{Logic}
use Rattle.calculus.specs.Syntax.{arity_of, Symbol, Term, Terms, var, fun, eigen, spare, no_terms, more_terms, Formula, atom, neg, conj, disj, imp, all, ex, box, dia}
use Rattle.calculus.specs.Skolem.{has_function}
use Rattle.calculus.specs.Problems.{has_predicate, is_modal, formula_fits, term_fits_in, terms_fit_in}
use Rattle.calculus.specs.DerivationText.{term_is_written, terms_are_written}
use Rattle.calculus.specs.Lists.{terms_tree}
use Rattle.formula_core.specs.declared.term.Term as term
use Rattle.formula_core.specs.TermView.{the_term}
use Rattle.formula_text.specs.Known.{term_is_known, terms_are_known, formula_is_known}

-- a place that passes a test is a place of the list
in_range : (test : Symbol → Bool) (ss : List Symbol) (k : ℕ) → IsTrue (option_map_or test (slice_get ss k) false) → IsTrue (nat_lt k (length ss))
in_range test [] k h = absurd (false≢true h)
in_range test (s ∷ ss) zero h = lt-ltb 0 (suc (length ss)) (omega arith)
in_range test (s ∷ ss) (suc k) h = let r = ltb-true k (length ss) (in_range test ss k h) in lt-ltb (suc k) (suc (length ss)) (omega arith)

mutual
  pub written_is_known : (ss : List Symbol) (t : Term) → IsTrue (term_is_written ss t) → IsTrue (term_is_known ss t)
  written_is_known ss (var k) h = refl
  written_is_known ss (fun f ts) h =
      let p = and_parts (has_function ss f (arity_of ts)) (terms_are_written ss ts) h in
      and_from (nat_lt f (length ss)) (terms_are_known ss ts) (in_range _ ss f p.0) (written_are_known ss ts p.1)
  written_is_known ss (eigen n) h = refl
  written_is_known ss (spare n) h = refl

  pub written_are_known : (ss : List Symbol) (ts : Terms) → IsTrue (terms_are_written ss ts) → IsTrue (terms_are_known ss ts)
  written_are_known ss no_terms h = refl
  written_are_known ss (more_terms t ts) h =
      let p = and_parts (term_is_written ss t) (terms_are_written ss ts) h in
      and_from (term_is_known ss t) (terms_are_known ss ts) (written_is_known ss t p.0) (written_are_known ss ts p.1)

mutual
  fitting_is_known : (ss : List Symbol) (d : ℕ) (t : Term) → IsTrue (term_fits_in ss d t) → IsTrue (term_is_known ss t)
  fitting_is_known ss d (var k) h = refl
  fitting_is_known ss d (fun f ts) h =
      let p = and_parts (has_function ss f (arity_of ts)) (terms_fit_in ss d ts) h in
      and_from (nat_lt f (length ss)) (terms_are_known ss ts) (in_range _ ss f p.0) (fitting_are_known ss d ts p.1)
  fitting_is_known ss d (eigen n) h = refl
  fitting_is_known ss d (spare n) h = refl

  fitting_are_known : (ss : List Symbol) (d : ℕ) (ts : Terms) → IsTrue (terms_fit_in ss d ts) → IsTrue (terms_are_known ss ts)
  fitting_are_known ss d no_terms h = refl
  fitting_are_known ss d (more_terms t ts) h =
      let p = and_parts (term_fits_in ss d t) (terms_fit_in ss d ts) h in
      and_from (term_is_known ss t) (terms_are_known ss ts) (fitting_is_known ss d t p.0) (fitting_are_known ss d ts p.1)

both : (a b c d : Bool) → IsTrue (a && b) → (IsTrue a → IsTrue c) → (IsTrue b → IsTrue d) → IsTrue (c && d)
both a b c d h f g = let p = and_parts a b h in and_from c d (f p.0) (g p.1)

pub formula_fits-known : (l : Logic) (ss : List Symbol) (d : ℕ) (f : Formula) → IsTrue (formula_fits l ss d f) → IsTrue (formula_is_known ss f)
formula_fits-known l ss d (atom p ts) h =
    let q = and_parts (has_predicate ss p (arity_of ts)) (terms_fit_in ss d ts) h in
    and_from (nat_lt p (length ss)) (terms_are_known ss ts) (in_range _ ss p q.0) (fitting_are_known ss d ts q.1)
formula_fits-known l ss d (neg a) h = formula_fits-known l ss d a h
formula_fits-known l ss d (conj a b) h = both (formula_fits l ss d a) (formula_fits l ss d b) (formula_is_known ss a) (formula_is_known ss b) h (formula_fits-known l ss d a) (formula_fits-known l ss d b)
formula_fits-known l ss d (disj a b) h = both (formula_fits l ss d a) (formula_fits l ss d b) (formula_is_known ss a) (formula_is_known ss b) h (formula_fits-known l ss d a) (formula_fits-known l ss d b)
formula_fits-known l ss d (imp a b) h = both (formula_fits l ss d a) (formula_fits l ss d b) (formula_is_known ss a) (formula_is_known ss b) h (formula_fits-known l ss d a) (formula_fits-known l ss d b)
formula_fits-known l ss d (all a) h = formula_fits-known l ss (suc d) a h
formula_fits-known l ss d (ex a) h = formula_fits-known l ss (suc d) a h
formula_fits-known l ss d (box a) h = formula_fits-known l ss d a (and_parts (is_modal l) (formula_fits l ss d a) h).1
formula_fits-known l ss d (dia a) h = formula_fits-known l ss d a (and_parts (is_modal l) (formula_fits l ss d a) h).1

-- an item of a list of known terms
pub item-known : (ss : List Symbol) (ts : List term.Term) (us : List Term) (k : ℕ) (t d : term.Term) → map the_term ts ≡ us → k < length ts → t ≡ get_or ts k d → IsTrue (terms_are_known ss (terms_tree us)) → IsTrue (term_is_known ss (the_term t))
item-known ss [] us k t d m h e known = absurd (omega arith)
item-known ss (x ∷ ts) [] k t d m h e known = absurd (cc)
item-known ss (x ∷ ts) (u ∷ us) zero t d m h e known =
    let f : the_term x ≡ u = cc in
    rw (e, f) (and_parts (term_is_known ss u) (terms_are_known ss (terms_tree us)) known).0
item-known ss (x ∷ ts) (u ∷ us) (suc k) t d m h e known =
    let f : map the_term ts ≡ us = cc in
    item-known ss ts us k t d f (omega arith) e (and_parts (term_is_known ss u) (terms_are_known ss (terms_tree us)) known).1

pub ruleset knowing = (written_is_known, item-known)
