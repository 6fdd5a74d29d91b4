-- How terms begin.
use Rattle.std.proofs.Common.{◌≡◌, ℕ, zero, suc, ◌+◌, ◌^◌, List, [], ◌∷◌, ◌++◌, Bool, true, IsTrue, Some, refl, sym, ◌∙◌, subst, length, drop, slice_get, decimal, nat_le, ltb-true}
use Rattle.std.specs.List.{list_all}
use Rattle.std.proofs.lemmas.Bool.{false≢true, and_parts}
use Rattle.calculus.specs.declared.symbol.SymbolClass.TheVariants.{Function}
use Rattle.calculus.specs.Syntax.{arity_of, Symbol, Term, var, fun, eigen, spare, no_terms, more_terms}
use Rattle.calculus.specs.Problems.{is_name, symbol_fits}
use Rattle.calculus.specs.Skolem.{has_function}
use Rattle.calculus.specs.DerivationText.{IsNameAt, is_name_number, term_is_written, terms_are_written}
use Rattle.calculus.specs.Text.{Ends, StopsAt, args_text, is_digit, is_number, is_word_byte, name_text, term_text}
use Rattle.calculus.proofs.TextLaws.{cons-tail, decimal-split, name-dollar, name-split}
use Rattle.calculus.proofs.TermTextLaws.{ends-digit}
use Rattle.formula_text.proofs.Frames.{args-stop, contains-at, fun-on, named}
use Rattle.formula_text.proofs.Numbers.{small}
use Rattle.formula_text.proofs.Places.{after-text, stands-front}
use Rattle.formula_text.specs.Frames.{IsFunction, IsMadeAt, NoFunction}
use Rattle.formula_text.specs.Runs.{IsNumberedAt}

-- ---- eigenvariables and spare constants

pub no_numbered : (bytes : List ℕ) (from : ℕ) → ((to letter n : ℕ) → ¬ IsNumberedAt bytes from to letter n) → (to : ℕ) (t : Term) → ¬ IsMadeAt bytes from to t
no_numbered bytes from none to (var k) h = false≢true h.made
no_numbered bytes from none to (fun f ts) h = false≢true h.made
no_numbered bytes from none to (eigen n) h =
    none (from + length (36 ∷ 36 ∷ 101 ∷ decimal n)) 101 n (record {
      written = h.whole.written;
      stands = stands-front bytes (36 ∷ 36 ∷ 101 ∷ decimal n) (drop to bytes) from h.whole.text;
      ends = subst (StopsAt is_digit) (sym (after-text bytes (36 ∷ 36 ∷ 101 ∷ decimal n) (drop to bytes) from h.whole.text)) (ends-digit (drop to bytes) h.whole.ends);
    })
no_numbered bytes from none to (spare n) h =
    none (from + length (36 ∷ 36 ∷ 115 ∷ decimal n)) 115 n (record {
      written = h.whole.written;
      stands = stands-front bytes (36 ∷ 36 ∷ 115 ∷ decimal n) (drop to bytes) from h.whole.text;
      ends = subst (StopsAt is_digit) (sym (after-text bytes (36 ∷ 36 ∷ 115 ∷ decimal n) (drop to bytes) from h.whole.text)) (ends-digit (drop to bytes) h.whole.ends);
    })

numbers : (m n : ℕ) (r s : List ℕ) → IsTrue (is_name_number m) → IsTrue (is_name_number n) → StopsAt is_digit r → StopsAt is_digit s → decimal m ++ r ≡ decimal n ++ s → r ≡ s
numbers m n r s hm hn hr hs e = (decimal-split m n r s (small m (ltb-true m (2 ^ 32) (and_parts (nat_le 1 m) (is_number m) hm).1)) (small n (ltb-true n (2 ^ 32) (and_parts (nat_le 1 n) (is_number n) hn).1)) hr hs e).1

pub no_made_end : (bytes : List ℕ) (from end letter n : ℕ) → IsNumberedAt bytes from end letter n → ¬ Ends (drop end bytes) → (to : ℕ) (t : Term) → ¬ IsMadeAt bytes from to t
no_made_end bytes from end letter n h not to (var k) m = false≢true m.made
no_made_end bytes from end letter n h not to (fun f ts) m = false≢true m.made
no_made_end bytes from end letter n h not to (eigen k) m =
    not (subst Ends (sym (numbers n k (drop end bytes) (drop to bytes) h.written m.whole.written h.ends (ends-digit (drop to bytes) m.whole.ends) (cons-tail (cons-tail (cons-tail (sym h.stands.there ∙ m.whole.text)))))) m.whole.ends)
no_made_end bytes from end letter n h not to (spare k) m =
    not (subst Ends (sym (numbers n k (drop end bytes) (drop to bytes) h.written m.whole.written h.ends (ends-digit (drop to bytes) m.whole.ends) (cons-tail (cons-tail (cons-tail (sym h.stands.there ∙ m.whole.text)))))) m.whole.ends)

pub no_made : (S : List Symbol) (bytes : List ℕ) (from : ℕ) → drop from bytes ≡ 36 ∷ drop (from + 1) bytes → ((to : ℕ) (t : Term) → ¬ IsMadeAt bytes from to t)
    → (t : Term) (r : List ℕ) → IsTrue (term_is_written S t) → Ends r → drop from bytes ≡ term_text S 0 t ++ r → ⊥
no_made S bytes from e none (var k) r ht hr g = false≢true ht
no_made S bytes from e none (fun f ts) r ht hr g =
    let p = and_parts (has_function S f (arity_of ts)) (terms_are_written S ts) ht in
    let x = named S f (arity_of ts) p.0 in
    name-dollar x.0 (args_text S 0 ts ++ r) _ (sym (fun-on S f ts x.0 r x.1.text) ∙ sym g ∙ e)
no_made S bytes from e none (eigen n) r ht hr g =
    none (from + length (term_text S 0 (eigen n))) (eigen n) (record {
      made = refl;
      whole = record {
        written = ht;
        text = (stands-front bytes (term_text S 0 (eigen n)) r from g).there;
        ends = subst Ends (sym (after-text bytes (term_text S 0 (eigen n)) r from g)) hr;
      };
    })
no_made S bytes from e none (spare n) r ht hr g =
    none (from + length (term_text S 0 (spare n))) (spare n) (record {
      made = refl;
      whole = record {
        written = ht;
        text = (stands-front bytes (term_text S 0 (spare n)) r from g).there;
        ends = subst Ends (sym (after-text bytes (term_text S 0 (spare n)) r from g)) hr;
      };
    })

-- ---- function symbols

pub list_all-at : (p : Symbol → Bool) (ss : List Symbol) (k : ℕ) (x : Symbol) → IsTrue (list_all p ss) → slice_get ss k ≡ Some x → IsTrue (p x)
list_all-at p [] k x h e = absurd (cc)
list_all-at p (s ∷ ss) zero x h e = let same : s ≡ x = cc in subst (λ y. IsTrue (p y)) same (and_parts (p s) (list_all p ss) h).0
list_all-at p (s ∷ ss) (suc k) x h e = list_all-at p ss k x (and_parts (p s) (list_all p ss) h).1 e

function-name : (S : List Symbol) (f n : ℕ) (name : List ℕ) → IsTrue (list_all symbol_fits S) → IsFunction S f name n → IsTrue (is_name name)
function-name S f n name h e = list_all-at symbol_fits S f (record { name = name; class = Function; arity = n }) h e

pub no_name : (S : List Symbol) (bytes : List ℕ) (from : ℕ) → IsTrue (list_all symbol_fits S) → ((rest : List ℕ) → ¬ (drop from bytes ≡ 36 ∷ rest)) → ((to : ℕ) (name : List ℕ) → ¬ IsNameAt bytes from to name)
    → (t : Term) (r : List ℕ) → IsTrue (term_is_written S t) → Ends r → drop from bytes ≡ term_text S 0 t ++ r → ⊥
no_name S bytes from fits dollar none (var k) r ht hr g = false≢true ht
no_name S bytes from fits dollar none (fun f ts) r ht hr g =
    let p = and_parts (has_function S f (arity_of ts)) (terms_are_written S ts) ht in
    let x = named S f (arity_of ts) p.0 in
    let k = g ∙ fun-on S f ts x.0 r x.1.text in
    none (from + length (name_text x.0)) x.0 (record {
      written = function-name S f (arity_of ts) x.0 fits x.1.is;
      stands = stands-front bytes (name_text x.0) (args_text S 0 ts ++ r) from k;
      ends = subst (StopsAt is_word_byte) (sym (after-text bytes (name_text x.0) (args_text S 0 ts ++ r) from k)) (args-stop S ts r hr);
    })
no_name S bytes from fits dollar none (eigen n) r ht hr g = dollar _ g
no_name S bytes from fits dollar none (spare n) r ht hr g = dollar _ g

-- a name before no bracket that is no constant's
pub no_constant : (S : List Symbol) (bytes : List ℕ) (from end : ℕ) (name : List ℕ) → ((rest : List ℕ) → ¬ (drop from bytes ≡ 36 ∷ rest)) → IsNameAt bytes from end name → ((rest : List ℕ) → ¬ (drop end bytes ≡ 40 ∷ rest))
    → ((f : ℕ) → IsFunction S f name 0 → Ends (drop end bytes) → ⊥)
    → (t : Term) (r : List ℕ) → IsTrue (term_is_written S t) → Ends r → drop from bytes ≡ term_text S 0 t ++ r → ⊥
no_constant S bytes from end name dollar h bracket none (var k) r ht hr g = false≢true ht
no_constant S bytes from end name dollar h bracket none (fun f no_terms) r ht hr g =
    let p = and_parts (has_function S f 0) true ht in
    let x = named S f 0 p.0 in
    let k = name-split name x.0 (drop end bytes) (args_text S 0 no_terms ++ r) h.ends (args-stop S no_terms r hr) (sym h.stands.there ∙ g ∙ fun-on S f no_terms x.0 r x.1.text) in
    none f (subst (λ l. IsFunction S f l 0) (sym k.0) x.1.is) (subst Ends (sym k.1) hr)
no_constant S bytes from end name dollar h bracket none (fun f (more_terms u us)) r ht hr g =
    let p = and_parts (has_function S f (suc (arity_of us))) (terms_are_written S (more_terms u us)) ht in
    let x = named S f (suc (arity_of us)) p.0 in
    let k = name-split name x.0 (drop end bytes) (args_text S 0 (more_terms u us) ++ r) h.ends (args-stop S (more_terms u us) r hr) (sym h.stands.there ∙ g ∙ fun-on S f (more_terms u us) x.0 r x.1.text) in
    bracket _ k.1
no_constant S bytes from end name dollar h bracket none (eigen n) r ht hr g = dollar _ g
no_constant S bytes from end name dollar h bracket none (spare n) r ht hr g = dollar _ g

pub not_known : (S : List Symbol) (name : List ℕ) (rest : List ℕ) → NoFunction S name 0 → (f : ℕ) → IsFunction S f name 0 → Ends rest → ⊥
not_known S name rest none f h e = none (contains-at S f (record { name = name; class = Function; arity = 0 }) h)
