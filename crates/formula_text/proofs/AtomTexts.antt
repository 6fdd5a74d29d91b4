-- Atoms are told apart by their texts, and from other formulas.
use Rattle.std.proofs.Common.{◌≡◌, ◌⊎◌, ℕ, ◌≤◌, List, ◌∷◌, ◌++◌, true, false, ◌&&◌, ◌==◌, IsTrue, refl, sym, ◌∙◌, ap, Option, Some, None, slice_get, inl, inr, append_assoc, eqb-true, codes, if◌then◌else◌}
use Rattle.std.specs.List.{list_all}
use Rattle.std.specs.Option.{option_map_or}
use Rattle.std.proofs.lemmas.Bool.{false≢true, and_parts}
use Rattle.plain_laws.proofs.Every.{all-at}
use Rattle.calculus.specs.declared.setting.Logic.{Logic}
use Rattle.calculus.specs.declared.symbol.SymbolClass.{SymbolClass}
use Rattle.calculus.specs.declared.symbol.SymbolClass.TheVariants.{Function, Predicate, Equality, Truth}
use Rattle.calculus.specs.Syntax.{arity_of, Symbol, Term, Terms, var, fun, eigen, spare, no_terms, more_terms, Formula, atom, neg, conj, disj, imp, all, ex, box, dia}
use Rattle.calculus.specs.Equality.{list_eq}
use Rattle.calculus.specs.Skolem.{has_function}
use Rattle.calculus.specs.Text.{Ends, is_equality_class, name_text, symbol_at, term_text, args_text, equation_text, atom_text, joined_text, formula_text}
use Rattle.calculus.specs.Problems.{are_distinct, formula_fits, has_predicate, is_atom_class, name_fits, symbol_fits, term_fits_in, terms_fit_in}
use Rattle.calculus.proofs.EqualityLaws.{list_eq-tells, nat_eq-tells}
use Rattle.calculus.proofs.TextLaws.{cons-tail, name-split}
use Rattle.formula_text.proofs.TermTexts.{At, args-split, args-stop, differ, fun-key, fun-text, function-at, key, name-at, name-key, same-place, term-split}

-- ---- atoms

-- what the symbol of an atom is
abbrev AtomOf : List Symbol → ℕ → ℕ → Type 0
AtomOf S p n = (x : Symbol) × (At S p Predicate n x ⊎ ((At S p Truth 0 x × (x.name ≡ codes "$$o") × (n ≡ 0)) ⊎ (At S p Equality 2 x × (x.name ≡ codes "=") × (n ≡ 2))))

fixed-name : (name given : List ℕ) (m n : ℕ) → IsTrue (list_eq ◌==◌ name given && m == n) → (name ≡ given) × (m ≡ n)
fixed-name name given m n h = let parts = and_parts (list_eq ◌==◌ name given) (m == n) h in ((list_eq-tells ◌==◌ nat_eq-tells name given).0 parts.0, eqb-true m n parts.1)

pub atom-of : (S : List Symbol) (p n : ℕ) → IsTrue (list_all symbol_fits S) → IsTrue (has_predicate S p n) → AtomOf S p n
atom-of S p n fit h = by (slice_get S p) refl h
  where
    class : (x : Symbol) (c : SymbolClass) → x.class ≡ c → slice_get S p ≡ Some x → IsTrue (is_atom_class c) → x.arity ≡ n → IsTrue (name_fits c x.name x.arity) → AtomOf S p n
    class x Function k e a m f = absurd (false≢true a)
    class x Predicate k e a m f = (x, inl (record { found = e; class = k; arity = m }))
    class x Equality k e a m f = let g = fixed-name x.name (codes "=") x.arity 2 f in (x, inr (inr (record { found = e; class = k; arity = g.1 }, g.0, sym m ∙ g.1)))
    class x Truth k e a m f = let g = fixed-name x.name (codes "$$o") x.arity 0 f in (x, inr (inl (record { found = e; class = k; arity = g.1 }, g.0, sym m ∙ g.1)))

    by : (o : Option Symbol) → slice_get S p ≡ o → IsTrue (option_map_or (λ (s : Symbol). is_atom_class s.class && s.arity == n) o false) → AtomOf S p n
    by None e k = absurd (false≢true k)
    by (Some x) e k = let parts = and_parts (is_atom_class x.class) (x.arity == n) k in class x x.class refl e parts.0 (eqb-true x.arity n parts.1) (all-at symbol_fits S p x fit e)

-- the text of an atom by the class of its symbol
abbrev text_of : SymbolClass → List Symbol → ℕ → ℕ → Terms → List ℕ
text_of c S d p ts = if is_equality_class c then equation_text S d ts else symbol_at S p ++ args_text S d ts

atom-text : (S : List Symbol) (d p : ℕ) (ts : Terms) (c : SymbolClass) (n : ℕ) (x : Symbol) → At S p c n x → atom_text S d p ts ≡ text_of c S d p ts
atom-text S d p ts c n x h = ap (λ o. if option_map_or (λ (s : Symbol). is_equality_class s.class) o false then equation_text S d ts else symbol_at S p ++ args_text S d ts) h.found ∙ ap (λ k. text_of k S d p ts) h.class

pred-text : (S : List Symbol) (d p : ℕ) (ts : Terms) (n : ℕ) (x : Symbol) (r : List ℕ) → At S p Predicate n x → atom_text S d p ts ++ r ≡ name_text x.name ++ (args_text S d ts ++ r)
pred-text S d p ts n x r h =
    ap (λ l. l ++ r) (atom-text S d p ts Predicate n x h) ∙ append_assoc (symbol_at S p) (args_text S d ts) r ∙ ap (λ l. l ++ (args_text S d ts ++ r)) (name-at S p Predicate n x h)

truth-text : (S : List Symbol) (d p : ℕ) (ts : Terms) (n : ℕ) (x : Symbol) (r : List ℕ) → At S p Truth n x → atom_text S d p ts ++ r ≡ 36 ∷ 36 ∷ 111 ∷ (args_text S d ts ++ r)
truth-text S d p ts n x r h =
    ap (λ l. l ++ r) (atom-text S d p ts Truth n x h) ∙ append_assoc (symbol_at S p) (args_text S d ts) r ∙ ap (λ l. l ++ (args_text S d ts ++ r)) (name-at S p Truth n x h)

regroup : (q a o b c r : List ℕ) → ((((q ++ a) ++ o) ++ b) ++ c) ++ r ≡ q ++ (a ++ (o ++ (b ++ (c ++ r))))
regroup q a o b c r = simp append_assoc

no_terms-of : (ts : Terms) → arity_of ts ≡ 0 → ts ≡ no_terms
no_terms-of no_terms h = refl
no_terms-of (more_terms t ts) h = absurd (cc)

-- two terms, where there are two
two-of : (ts : Terms) → arity_of ts ≡ 2 → (t : Term) × (u : Term) × (ts ≡ more_terms t (more_terms u no_terms))
two-of no_terms h = absurd (cc)
two-of (more_terms t no_terms) h = absurd (cc)
two-of (more_terms t (more_terms u no_terms)) h = (t, u, refl)
two-of (more_terms t (more_terms u (more_terms v vs))) h = absurd (cc)

eq-text : (S : List Symbol) (d p : ℕ) (t u : Term) (n : ℕ) (x : Symbol) (r : List ℕ) → At S p Equality n x → atom_text S d p (more_terms t (more_terms u no_terms)) ++ r ≡ 40 ∷ (term_text S d t ++ (codes " = " ++ (term_text S d u ++ (41 ∷ r))))
eq-text S d p t u n x r h = ap (λ l. l ++ r) (atom-text S d p (more_terms t (more_terms u no_terms)) Equality n x h) ∙ regroup (codes "(") (term_text S d t) (codes " = ") (term_text S d u) (codes ")") r

-- ---- formulas

abbrev class_code : SymbolClass → ℕ
class_code Function = 0
class_code Predicate = 0
class_code Equality = 40
class_code Truth = 36

-- the byte by which the text of a formula is told apart
abbrev code : List Symbol → Formula → ℕ
code S (atom p ts) = option_map_or (λ (s : Symbol). class_code s.class) (slice_get S p) 1
code S (neg a) = 126
code S (conj a b) = 40
code S (disj a b) = 40
code S (imp a b) = 40
code S (all a) = 33
code S (ex a) = 63
code S (box a) = 98
code S (dia a) = 100

code-at : (S : List Symbol) (p : ℕ) (ts : Terms) (c : SymbolClass) (n : ℕ) (x : Symbol) → At S p c n x → code S (atom p ts) ≡ class_code c
code-at S p ts c n x h = ap (λ o. option_map_or (λ (s : Symbol). class_code s.class) o 1) h.found ∙ ap class_code h.class

-- an atom's byte is one of three
no-atom : (S : List Symbol) (p n : ℕ) (ts : Terms) → AtomOf S p n → (k : ℕ) → (0 == k) ≡ false → (36 == k) ≡ false → (40 == k) ≡ false → code S (atom p ts) ≡ k → ⊥
no-atom S p n ts view k h1 h2 h3 e = elim view.1 [
  | inl h ↦ differ 0 k (sym (code-at S p ts Predicate n view.0 h) ∙ e) h1
  | inr other ↦ elim other [
    | inl h ↦ differ 36 k (sym (code-at S p ts Truth 0 view.0 h.0) ∙ e) h2
    | inr h ↦ differ 40 k (sym (code-at S p ts Equality 2 view.0 h.0) ∙ e) h3
  ]
]

pub joined-open : (a o b x q y r s : List ℕ) → joined_text a o b ++ r ≡ joined_text x q y ++ s → a ++ (o ++ (b ++ (41 ∷ r))) ≡ x ++ (q ++ (y ++ (41 ∷ s)))
joined-open a o b x q y r s e = cons-tail (sym (regroup (codes "(") a o b (codes ")") r) ∙ e ∙ regroup (codes "(") x q y (codes ")") s)

module _ (S : List Symbol) (dist : IsTrue (are_distinct S)) (fit : IsTrue (list_all symbol_fits S)) where
  atom-key : (d p : ℕ) (ts : Terms) (r : List ℕ) → AtomOf S p (arity_of ts) → key (atom_text S d p ts ++ r) ≡ code S (atom p ts)
  atom-key d p ts r view = elim view.1 [
    | inl h ↦ ap key (pred-text S d p ts (arity_of ts) view.0 r h) ∙ name-key view.0.name (args_text S d ts ++ r) ∙ sym (code-at S p ts Predicate (arity_of ts) view.0 h)
    | inr other ↦ elim other [
      | inl h ↦ ap key (truth-text S d p ts 0 view.0 r h.0) ∙ sym (code-at S p ts Truth 0 view.0 h.0)
      | inr h ↦
          let two = two-of ts h.2 in
          ap (λ us. key (atom_text S d p us ++ r)) two.2 ∙ ap key (eq-text S d p two.0 two.1 2 view.0 r h.0) ∙ sym (code-at S p ts Equality 2 view.0 h.0)
    ]
  ]

  formula-key : (l : Logic) (d : ℕ) (f : Formula) (r : List ℕ) → IsTrue (formula_fits l S d f) → key (formula_text S d f ++ r) ≡ code S f
  formula-key l d (atom p ts) r h = atom-key d p ts r (atom-of S p (arity_of ts) fit (and_parts (has_predicate S p (arity_of ts)) (terms_fit_in S d ts) h).0)
  formula-key l d (neg a) r h = refl
  formula-key l d (conj a b) r h = refl
  formula-key l d (disj a b) r h = refl
  formula-key l d (imp a b) r h = refl
  formula-key l d (all a) r h = refl
  formula-key l d (ex a) r h = refl
  formula-key l d (box a) r h = refl
  formula-key l d (dia a) r h = refl

  pub same-code : (l m : Logic) (d : ℕ) (f g : Formula) (r s : List ℕ) → IsTrue (formula_fits l S d f) → IsTrue (formula_fits m S d g) → formula_text S d f ++ r ≡ formula_text S d g ++ s → code S f ≡ code S g
  same-code l m d f g r s hf hg e = sym (formula-key l d f r hf) ∙ ap key e ∙ formula-key m d g s hg

  -- an atom and another formula have different texts
  pub atom-apart : (l m : Logic) (d p : ℕ) (ts : Terms) (g : Formula) (r s : List ℕ) → IsTrue (formula_fits l S d (atom p ts)) → IsTrue (formula_fits m S d g) → (k : ℕ) → code S g ≡ k → (0 == k) ≡ false → (36 == k) ≡ false → (40 == k) ≡ false → atom_text S d p ts ++ r ≡ formula_text S d g ++ s → ⊥
  atom-apart l m d p ts g r s hf hg k c h1 h2 h3 e =
      no-atom S p (arity_of ts) ts (atom-of S p (arity_of ts) fit (and_parts (has_predicate S p (arity_of ts)) (terms_fit_in S d ts) hf).0) k h1 h2 h3 (same-code l m d (atom p ts) g r s hf hg e ∙ c)

  -- what begins as a term does is no formula but an atom of a predicate symbol, and both go on alike
  term-key : (d : ℕ) (t : Term) (r : List ℕ) → IsTrue (term_fits_in S d t) → (key (term_text S d t ++ r) ≡ 88) ⊎ (key (term_text S d t ++ r) ≡ 0)
  term-key d (var k) r h = inl refl
  term-key d (fun f ts) r h = inr (fun-key S d f ts r (and_parts (has_function S f (arity_of ts)) (terms_fit_in S d ts) h).0)
  term-key d (eigen n) r h = absurd (false≢true h)
  term-key d (spare n) r h = absurd (false≢true h)

  no-term : (d : ℕ) (t : Term) (r x : List ℕ) (k : ℕ) → IsTrue (term_fits_in S d t) → key x ≡ k → (88 == k) ≡ false → (0 == k) ≡ false → term_text S d t ++ r ≡ x → ⊥
  no-term d t r x k h c h1 h2 e = elim (term-key d t r h) [
    | inl j ↦ differ 88 k (sym j ∙ ap key e ∙ c) h1
    | inr j ↦ differ 0 k (sym j ∙ ap key e ∙ c) h2
  ]

  term-pred : (d : ℕ) → d ≤ 1100 → (t : Term) (p : ℕ) (ts : Terms) (x : Symbol) (r s : List ℕ) → IsTrue (term_fits_in S d t) → IsTrue (terms_fit_in S d ts) → At S p Predicate (arity_of ts) x → Ends r → Ends s → term_text S d t ++ r ≡ atom_text S d p ts ++ s → r ≡ s
  term-pred d b (var k) p ts x r s ht hs h hr hs' e = absurd (differ 88 0 (ap key (e ∙ pred-text S d p ts (arity_of ts) x s h) ∙ name-key x.name (args_text S d ts ++ s)) refl)
  term-pred d b (fun f us) p ts x r s ht hs h hr hs' e =
      let pt = and_parts (has_function S f (arity_of us)) (terms_fit_in S d us) ht in
      let y = function-at S f (arity_of us) pt.0 in
      let names = name-split y.0.name x.name (args_text S d us ++ r) (args_text S d ts ++ s) (args-stop S d us r hr) (args-stop S d ts s hs') (sym (fun-text S d f (arity_of us) y.0 r us y.1) ∙ e ∙ pred-text S d p ts (arity_of ts) x s h) in
      (args-split S dist d b us ts r s pt.1 hs hr hs' names.1).1
  term-pred d b (eigen n) p ts x r s ht hs h hr hs' e = absurd (false≢true ht)
  term-pred d b (spare n) p ts x r s ht hs h hr hs' e = absurd (false≢true ht)

  term-formula : (l : Logic) (d : ℕ) → d ≤ 1100 → (t : Term) (f : Formula) (r s : List ℕ) → IsTrue (term_fits_in S d t) → IsTrue (formula_fits l S d f) → Ends r → Ends s → term_text S d t ++ r ≡ formula_text S d f ++ s → r ≡ s
  term-formula l d b t (atom p ts) r s ht hf hr hs e =
      let parts = and_parts (has_predicate S p (arity_of ts)) (terms_fit_in S d ts) hf in
      let view = atom-of S p (arity_of ts) fit parts.0 in
      elim view.1 [
        | inl h ↦ term-pred d b t p ts view.0 r s ht parts.1 h hr hs e
        | inr other ↦ elim other [
          | inl h ↦ absurd (no-term d t r (atom_text S d p ts ++ s) 36 ht (atom-key d p ts s view ∙ code-at S p ts Truth 0 view.0 h.0) refl refl e)
          | inr h ↦ absurd (no-term d t r (atom_text S d p ts ++ s) 40 ht (atom-key d p ts s view ∙ code-at S p ts Equality 2 view.0 h.0) refl refl e)
        ]
      ]
  term-formula l d b t (neg a) r s ht hf hr hs e = absurd (no-term d t r (formula_text S d (neg a) ++ s) 126 ht refl refl refl e)
  term-formula l d b t (conj a c) r s ht hf hr hs e = absurd (no-term d t r (formula_text S d (conj a c) ++ s) 40 ht refl refl refl e)
  term-formula l d b t (disj a c) r s ht hf hr hs e = absurd (no-term d t r (formula_text S d (disj a c) ++ s) 40 ht refl refl refl e)
  term-formula l d b t (imp a c) r s ht hf hr hs e = absurd (no-term d t r (formula_text S d (imp a c) ++ s) 40 ht refl refl refl e)
  term-formula l d b t (all a) r s ht hf hr hs e = absurd (no-term d t r (formula_text S d (all a) ++ s) 33 ht refl refl refl e)
  term-formula l d b t (ex a) r s ht hf hr hs e = absurd (no-term d t r (formula_text S d (ex a) ++ s) 63 ht refl refl refl e)
  term-formula l d b t (box a) r s ht hf hr hs e = absurd (no-term d t r (formula_text S d (box a) ++ s) 98 ht refl refl refl e)
  term-formula l d b t (dia a) r s ht hf hr hs e = absurd (no-term d t r (formula_text S d (dia a) ++ s) 100 ht refl refl refl e)

  -- an equation and a formula of two parts
  pub equation-apart : (l m : Logic) (d : ℕ) → d ≤ 1100 → (p : ℕ) (ts : Terms) (a c : Formula) (o r s : List ℕ) → IsTrue (formula_fits l S d (atom p ts)) → IsTrue (formula_fits m S d a) → ((y : List ℕ) → Ends (o ++ y)) → ((x y : List ℕ) → codes " = " ++ x ≡ o ++ y → ⊥)
      → atom_text S d p ts ++ r ≡ joined_text (formula_text S d a) o (formula_text S d c) ++ s → ⊥
  equation-apart l m d b p ts a c o r s hf ha ho apart e =
      let parts = and_parts (has_predicate S p (arity_of ts)) (terms_fit_in S d ts) hf in
      let view = atom-of S p (arity_of ts) fit parts.0 in
      let same : code S (atom p ts) ≡ 40 = sym (atom-key d p ts r view) ∙ ap key e in
      elim view.1 [
        | inl h ↦ differ 0 40 (sym (code-at S p ts Predicate (arity_of ts) view.0 h) ∙ same) refl
        | inr other ↦ elim other [
          | inl h ↦ differ 36 40 (sym (code-at S p ts Truth 0 view.0 h.0) ∙ same) refl
          | inr h ↦
              let two = two-of ts h.2 in
              let fits : IsTrue (terms_fit_in S d (more_terms two.0 (more_terms two.1 no_terms))) = ap (terms_fit_in S d) (sym two.2) ∙ parts.1 in
              let first = and_parts (term_fits_in S d two.0) (terms_fit_in S d (more_terms two.1 no_terms)) fits in
              let f = sym (ap (λ us. atom_text S d p us ++ r) two.2 ∙ eq-text S d p two.0 two.1 2 view.0 r h.0) ∙ e ∙ regroup (codes "(") (formula_text S d a) o (formula_text S d c) (codes ")") s in
              apart _ _ (term-formula m d b two.0 a (codes " = " ++ (term_text S d two.1 ++ (41 ∷ r))) (o ++ (formula_text S d c ++ (41 ∷ s))) first.0 ha refl (ho (formula_text S d c ++ (41 ∷ s))) (cons-tail f))
        ]
      ]

  pub atoms-split : (d : ℕ) → d ≤ 1100 → (p q : ℕ) (ts us : Terms) (r s : List ℕ) → AtomOf S p (arity_of ts) → AtomOf S q (arity_of us) → IsTrue (terms_fit_in S d ts) → IsTrue (terms_fit_in S d us) → Ends r → Ends s → atom_text S d p ts ++ r ≡ atom_text S d q us ++ s → (atom p ts ≡ atom q us) × (r ≡ s)
  atoms-split d b p q ts us r s v w ht hu hr hs e =
      let same : code S (atom p ts) ≡ code S (atom q us) = sym (atom-key d p ts r v) ∙ ap key e ∙ atom-key d q us s w in
      elim v.1 [
        | inl h ↦ elim w.1 [
          | inl k ↦
              let names = name-split v.0.name w.0.name (args_text S d ts ++ r) (args_text S d us ++ s) (args-stop S d ts r hr) (args-stop S d us s hs) (sym (pred-text S d p ts (arity_of ts) v.0 r h) ∙ e ∙ pred-text S d q us (arity_of us) w.0 s k) in
              let args = args-split S dist d b ts us r s ht hu hr hs names.1 in
              let place = same-place S p q Predicate (arity_of ts) (arity_of us) v.0 w.0 dist h k names.0 (ap arity_of args.0) in
              ((λ i. atom (place i) (args.0 i)), args.1)
          | inr other ↦ elim other [
            | inl k ↦ absurd (differ 0 36 (sym (code-at S p ts Predicate (arity_of ts) v.0 h) ∙ same ∙ code-at S q us Truth 0 w.0 k.0) refl)
            | inr k ↦ absurd (differ 0 40 (sym (code-at S p ts Predicate (arity_of ts) v.0 h) ∙ same ∙ code-at S q us Equality 2 w.0 k.0) refl)
          ]
        ]
        | inr first ↦ elim first [
          | inl h ↦ elim w.1 [
            | inl k ↦ absurd (differ 36 0 (sym (code-at S p ts Truth 0 v.0 h.0) ∙ same ∙ code-at S q us Predicate (arity_of us) w.0 k) refl)
            | inr other ↦ elim other [
              | inl k ↦
                  let place = same-place S p q Truth 0 0 v.0 w.0 dist h.0 k.0 (h.1 ∙ sym k.1) refl in
                  let left = no_terms-of ts h.2 in
                  let right = no_terms-of us k.2 in
                  let f = sym (truth-text S d p ts 0 v.0 r h.0) ∙ e ∙ truth-text S d q us 0 w.0 s k.0 in
                  let rest : args_text S d ts ++ r ≡ args_text S d us ++ s = cons-tail (cons-tail (cons-tail f)) in
                  ((λ i. atom (place i) ((left ∙ sym right) i)), sym (ap (λ xs. args_text S d xs ++ r) left) ∙ rest ∙ ap (λ xs. args_text S d xs ++ s) right)
              | inr k ↦ absurd (differ 36 40 (sym (code-at S p ts Truth 0 v.0 h.0) ∙ same ∙ code-at S q us Equality 2 w.0 k.0) refl)
            ]
          ]
          | inr h ↦ elim w.1 [
            | inl k ↦ absurd (differ 40 0 (sym (code-at S p ts Equality 2 v.0 h.0) ∙ same ∙ code-at S q us Predicate (arity_of us) w.0 k) refl)
            | inr other ↦ elim other [
              | inl k ↦ absurd (differ 40 36 (sym (code-at S p ts Equality 2 v.0 h.0) ∙ same ∙ code-at S q us Truth 0 w.0 k.0) refl)
              | inr k ↦ equations-split d b p q ts us r s v.0 w.0 h.0 k.0 (h.1 ∙ sym k.1) (two-of ts h.2) (two-of us k.2) ht hu e
            ]
          ]
        ]
      ]
    where
      equations-split : (d : ℕ) → d ≤ 1100 → (p q : ℕ) (ts us : Terms) (r s : List ℕ) (x y : Symbol) → At S p Equality 2 x → At S q Equality 2 y → x.name ≡ y.name → (t : Term) × (u : Term) × (ts ≡ more_terms t (more_terms u no_terms)) → (t : Term) × (u : Term) × (us ≡ more_terms t (more_terms u no_terms))
          → IsTrue (terms_fit_in S d ts) → IsTrue (terms_fit_in S d us) → atom_text S d p ts ++ r ≡ atom_text S d q us ++ s → (atom p ts ≡ atom q us) × (r ≡ s)
      equations-split d b p q ts us r s x y h k names two more ht hu e =
          let place = same-place S p q Equality 2 2 x y dist h k names refl in
          let ft : IsTrue (terms_fit_in S d (more_terms two.0 (more_terms two.1 no_terms))) = ap (terms_fit_in S d) (sym two.2) ∙ ht in
          let fu : IsTrue (terms_fit_in S d (more_terms more.0 (more_terms more.1 no_terms))) = ap (terms_fit_in S d) (sym more.2) ∙ hu in
          let p1 = and_parts (term_fits_in S d two.0) (terms_fit_in S d (more_terms two.1 no_terms)) ft in
          let q1 = and_parts (term_fits_in S d more.0) (terms_fit_in S d (more_terms more.1 no_terms)) fu in
          let p2 = and_parts (term_fits_in S d two.1) true p1.1 in
          let q2 = and_parts (term_fits_in S d more.1) true q1.1 in
          let f = sym (ap (λ l. atom_text S d p l ++ r) two.2 ∙ eq-text S d p two.0 two.1 2 x r h) ∙ e ∙ ap (λ l. atom_text S d q l ++ s) more.2 ∙ eq-text S d q more.0 more.1 2 y s k in
          let first = term-split S dist d b two.0 more.0 (codes " = " ++ (term_text S d two.1 ++ (41 ∷ r))) (codes " = " ++ (term_text S d more.1 ++ (41 ∷ s))) p1.0 q1.0 refl refl (cons-tail f) in
          let second = term-split S dist d b two.1 more.1 (41 ∷ r) (41 ∷ s) p2.0 q2.0 refl refl (cons-tail (cons-tail (cons-tail first.1))) in
          let whole : more_terms two.0 (more_terms two.1 no_terms) ≡ more_terms more.0 (more_terms more.1 no_terms) = λ i. more_terms (first.0 i) (more_terms (second.0 i) no_terms) in
          ((λ i. atom (place i) ((two.2 ∙ whole ∙ sym more.2) i)), cons-tail second.1)
