-- The text of a term is written item by item of its row.
use Rattle.std.proofs.Common.{◌≡◌, inl, inr, ℕ, ◌+◌, ◌-◌, ◌<◌, ◌≤◌, List, [], ◌∷◌, ◌++◌, length, get_or, map, drop, true, IsTrue, refl, sym, ◌∙◌, ap, subst, append_assoc, append-nil, arith, nat_lt, decimal}
use Rattle.std.proofs.lemmas.Bool.{and_from, and_parts}
use Rattle.std.proofs.lemmas.List.{drop_all, drop_more}
use Rattle.std.proofs.lemmas.List.Folds.{list_all-append}
use Rattle.std.proofs.lemmas.Fmt.{decimal_digit}
use Rattle.plain_laws.proofs.Lists.{first-item}
use Rattle.calculus.specs.Syntax.{arity_of, Symbol, Term, Terms, var, fun, eigen, spare, no_terms, more_terms}
use Rattle.calculus.specs.Text.{args_text, more_args_text, term_text}
use Rattle.formula_text.specs.Known.{term_is_known, terms_are_known}
use Rattle.formula_text.specs.Rows.{row_of, rows_of}
use Rattle.formula_text.specs.RowWriting.{AreLeft, IsBehind, IsBetween, IsWriting, are_known, item_arity, item_is_known, item_text, left_rows, left_text}
use Rattle.formula_text.specs.declared.term_row.RowItem.{RowItem}
use Rattle.formula_text.specs.declared.term_row.RowItem.TheVariants.{Var, Fun, Eigen, Spare}

-- ---- the innermost open term

left_text-end : (S : List Symbol) (left : List Terms) (ts : Terms) → left_text S (left ++ ts ∷ []) ≡ more_args_text S 0 ts ++ left_text S left
left_text-end S [] ts = sym (append-nil (more_args_text S 0 ts))
left_text-end S (us ∷ left) ts = ap (λ l. l ++ more_args_text S 0 us) (left_text-end S left ts) ∙ append_assoc (more_args_text S 0 ts) (left_text S left) (more_args_text S 0 us)

left_rows-end : (left : List Terms) (ts : Terms) → left_rows (left ++ ts ∷ []) ≡ rows_of ts ++ left_rows left
left_rows-end [] ts = sym (append-nil (rows_of ts))
left_rows-end (us ∷ left) ts = ap (λ l. l ++ rows_of us) (left_rows-end left ts) ∙ append_assoc (rows_of ts) (left_rows left) (rows_of us)

map-end : (left : List Terms) (ts : Terms) → map arity_of (left ++ ts ∷ []) ≡ map arity_of left ++ arity_of ts ∷ []
map-end [] ts = refl
map-end (us ∷ left) ts = ap (λ l. arity_of us ∷ l) (map-end left ts)

left-push : (S : List Symbol) (counts pushed : List ℕ) (left : List Terms) (ts : Terms) (n : ℕ) → AreLeft S counts left → pushed ≡ counts ++ n ∷ [] → n ≡ arity_of ts → IsTrue (terms_are_known S ts) → AreLeft S pushed (left ++ ts ∷ [])
left-push S counts pushed left ts n h e f k = record {
  by_count = e ∙ (λ i. h.by_count i ++ f i ∷ []) ∙ sym (map-end left ts);
  known = list_all-append (terms_are_known S) left (ts ∷ []) ∙ and_from (are_known S left) (are_known S (ts ∷ [])) h.known (and_from (terms_are_known S ts) true k refl);
}

-- the innermost one of open terms
record HasLast (S : List Symbol) (counts : List ℕ) (n : ℕ) (left : List Terms) : Type 0 where
  front : List Terms
  last : Terms
  all : left ≡ front ++ last ∷ []
  are_left : AreLeft S counts front
  arity : n ≡ arity_of last
  known : IsTrue (terms_are_known S last)

rest-eq : (x y : ℕ) (xs ys : List ℕ) → x ∷ xs ≡ y ∷ ys → xs ≡ ys
rest-eq x y xs ys e = cc

left-pop : (S : List Symbol) (counts : List ℕ) (n : ℕ) (left : List Terms) → AreLeft S (counts ++ n ∷ []) left → HasLast S counts n left
left-pop S [] n [] h = absurd (let e = ap length h.by_count in omega (arith, e))
left-pop S [] n (ts ∷ []) h = record { front = []; last = ts; all = refl; are_left = record { by_count = refl; known = refl }; arity = first-item _ _ _ _ h.by_count; known = (and_parts (terms_are_known S ts) true h.known).0 }
left-pop S [] n (ts ∷ us ∷ left) h = absurd (let e = ap length h.by_count in omega (arith, e))
left-pop S (c ∷ counts) n [] h = absurd (let e = ap length h.by_count in omega (arith, e))
left-pop S (c ∷ counts) n (ts ∷ left) h =
    let k = and_parts (terms_are_known S ts) (are_known S left) h.known in
    let r = left-pop S counts n left (record { by_count = rest-eq _ _ _ _ h.by_count; known = k.1 }) in
    record {
      front = ts ∷ r.front;
      last = r.last;
      all = ap (λ l. ts ∷ l) r.all;
      are_left = record { by_count = (λ i. first-item _ _ _ _ h.by_count i ∷ r.are_left.by_count i); known = and_from (terms_are_known S ts) (are_known S r.front) k.0 r.are_left.known };
      arity = r.arity;
      known = r.known;
    }

-- ---- what is written

onward : (out new s rest whole : List ℕ) → new ≡ out ++ s → out ++ (s ++ rest) ≡ whole → new ++ rest ≡ whole
onward out new s rest whole e h = ap (λ l. l ++ rest) e ∙ append_assoc out s rest ∙ h

-- an item of the row is one of the term that comes next
pub record ItemIn (S : List Symbol) (whole out counts : List ℕ) (x : RowItem) (rest : List RowItem) : Type 0 where
  pub known : IsTrue (item_is_known S x)
  pub next : (new : List ℕ) → new ≡ out ++ item_text S x → IsBetween S whole new counts (item_arity x) rest

same-item : (x y : RowItem) (xs ys : List RowItem) → x ∷ xs ≡ y ∷ ys → y ≡ x
same-item x y xs ys e = cc

same-rest : (x y : RowItem) (xs ys : List RowItem) → x ∷ xs ≡ y ∷ ys → xs ≡ ys
same-rest x y xs ys e = cc

item-of : (S : List Symbol) (whole out counts : List ℕ) (y : RowItem) (rest : List RowItem) (args : Terms) (left : List Terms) → AreLeft S counts left → IsTrue (item_is_known S y) → IsTrue (terms_are_known S args) → item_arity y ≡ arity_of args
    → out ++ (item_text S y ++ (args_text S 0 args ++ left_text S left)) ≡ whole → rest ≡ rows_of args ++ left_rows left → ItemIn S whole out counts y rest
item-of S whole out counts y rest args left h k args_known arity text rows = record {
  known = k;
  next = λ new e. record { args = args; left = left; are_left = h; known = args_known; takes = arity; text = onward out new (item_text S y) (args_text S 0 args ++ left_text S left) whole e text; rows = rows };
}

before-item : (S : List Symbol) (whole out counts : List ℕ) (x : RowItem) (rest : List RowItem) (t : Term) (left : List Terms) → AreLeft S counts left → IsTrue (term_is_known S t) → out ++ (term_text S 0 t ++ left_text S left) ≡ whole → x ∷ rest ≡ row_of t ++ left_rows left → ItemIn S whole out counts x rest
before-item S whole out counts x rest (var k) left h known text rows =
    let zero_text : term_text S 0 (var k) ≡ item_text S (Var k) = ap (λ n. 88 ∷ decimal n) (let none : 0 - k ≡ 0 = omega arith in none) ∙ ap (λ l. 88 ∷ l) (decimal_digit 0 (omega arith)) in
    subst (λ y. ItemIn S whole out counts y rest) (same-item x (Var k) rest (left_rows left) rows)
    (item-of S whole out counts (Var k) rest no_terms left h refl refl refl (ap (λ l. out ++ (l ++ left_text S left)) (sym zero_text) ∙ text) (same-rest x (Var k) rest (left_rows left) rows))
before-item S whole out counts x rest (eigen n) left h known text rows =
    subst (λ y. ItemIn S whole out counts y rest) (same-item x (Eigen n) rest (left_rows left) rows)
    (item-of S whole out counts (Eigen n) rest no_terms left h refl refl refl text (same-rest x (Eigen n) rest (left_rows left) rows))
before-item S whole out counts x rest (spare n) left h known text rows =
    subst (λ y. ItemIn S whole out counts y rest) (same-item x (Spare n) rest (left_rows left) rows)
    (item-of S whole out counts (Spare n) rest no_terms left h refl refl refl text (same-rest x (Spare n) rest (left_rows left) rows))
before-item S whole out counts x rest (fun f ts) left h known text rows =
    let p = and_parts (nat_lt f (length S)) (terms_are_known S ts) known in
    let y = Fun (record { 0 = f }) (arity_of ts) in
    subst (λ y. ItemIn S whole out counts y rest) (same-item x y rest (rows_of ts ++ left_rows left) rows)
    (item-of S whole out counts y rest ts left h p.0 p.1 refl (ap (λ l. out ++ l) (sym (append_assoc (item_text S y) (args_text S 0 ts) (left_text S left))) ∙ text) (same-rest x y rest (rows_of ts ++ left_rows left) rows))

-- the item at a place, while items are left
pub item-at : (S : List Symbol) (whole out counts : List ℕ) (items : List RowItem) (i : ℕ) (x d : RowItem) → i < length items → x ≡ get_or items i d → IsWriting S whole out counts (drop i items) → ItemIn S whole out counts x (drop (i + 1) items)
item-at S whole out counts items i x d lt at (inl h) = before-item S whole out counts x (drop (i + 1) items) h.term h.left h.are_left h.known h.text (ap (λ y. y ∷ drop (i + 1) items) at ∙ sym (drop_more items i d lt) ∙ h.rows)
item-at S whole out counts items i x d lt at (inr h) = absurd (none (get_or items i d) (drop (i + 1) items) (sym (drop_more items i d lt) ∙ h.0))
  where
    none : (y : RowItem) (ys : List RowItem) → y ∷ ys ≡ [] → ⊥
    none y ys e = cc

-- no items are left
pub all-written : (S : List Symbol) (whole out counts : List ℕ) (items : List RowItem) (i : ℕ) → length items ≤ i → IsWriting S whole out counts (drop i items) → out ≡ whole
all-written S whole out counts items i le (inr h) = h.1
all-written S whole out counts items i le (inl h) = absurd (none h.term (left_rows h.left) (sym (drop_all i items le) ∙ h.rows))
  where
    none : (t : Term) (ys : List RowItem) → [] ≡ row_of t ++ ys → ⊥
    none (var k) ys e = cc
    none (fun f ts) ys e = cc
    none (eigen n) ys e = cc
    none (spare n) ys e = cc

-- ---- between two names

-- arguments open
pub between-open : (S : List Symbol) (whole out new counts pushed : List ℕ) (arity n : ℕ) (rest : List RowItem) → IsBetween S whole out counts arity rest → 0 < arity → n ≡ arity - 1 → pushed ≡ counts ++ n ∷ [] → new ≡ out ++ 40 ∷ [] → IsWriting S whole new pushed rest
between-open S whole out new counts pushed arity n rest h some e p w = by h.args h.known h.takes h.text h.rows
  where
    by : (args : Terms) → IsTrue (terms_are_known S args) → arity ≡ arity_of args → out ++ (args_text S 0 args ++ left_text S h.left) ≡ whole → rest ≡ rows_of args ++ left_rows h.left → IsWriting S whole new pushed rest
    by no_terms k a t r = absurd (omega (arith, a, some))
    by (more_terms u us) k a t r =
        let q = and_parts (term_is_known S u) (terms_are_known S us) k in
        inl (record {
          term = u;
          left = h.left ++ us ∷ [];
          are_left = left-push S counts pushed h.left us n h.are_left p (omega (arith, e, a)) q.1;
          known = q.0;
          text = ap (λ l. new ++ (term_text S 0 u ++ l)) (left_text-end S h.left us) ∙ onward out new (40 ∷ []) (term_text S 0 u ++ (more_args_text S 0 us ++ left_text S h.left)) whole w
              (ap (λ l. out ++ 40 ∷ l) (sym (append_assoc (term_text S 0 u) (more_args_text S 0 us) (left_text S h.left))) ∙ t);
          rows = r ∙ append_assoc (row_of u) (rows_of us) (left_rows h.left) ∙ ap (λ l. row_of u ++ l) (sym (left_rows-end h.left us));
        })

-- a name without arguments is whole
pub between-whole : (S : List Symbol) (whole out counts : List ℕ) (arity : ℕ) (rest : List RowItem) → IsBetween S whole out counts arity rest → arity ≤ 0 → IsBehind S whole out counts rest
between-whole S whole out counts arity rest h none = by h.args h.takes h.text h.rows
  where
    by : (args : Terms) → arity ≡ arity_of args → out ++ (args_text S 0 args ++ left_text S h.left) ≡ whole → rest ≡ rows_of args ++ left_rows h.left → IsBehind S whole out counts rest
    by no_terms a t r = record { left = h.left; are_left = h.are_left; text = t; rows = r }
    by (more_terms u us) a t r = absurd (omega (arith, a, none))

-- a further argument
pub behind-next : (S : List Symbol) (whole out new all counts pushed : List ℕ) (c n : ℕ) (rest : List RowItem) → IsBehind S whole out all rest → all ≡ counts ++ c ∷ [] → 0 < c → n ≡ c - 1 → pushed ≡ counts ++ n ∷ [] → new ≡ out ++ 44 ∷ [] → IsWriting S whole new pushed rest
behind-next S whole out new all counts pushed c n rest h popped some e p w = by g.last g.known g.arity g.all
  where
    g : HasLast S counts c h.left
    g = left-pop S counts c h.left (subst (λ l. AreLeft S l h.left) popped h.are_left)

    by : (last : Terms) → IsTrue (terms_are_known S last) → c ≡ arity_of last → h.left ≡ g.front ++ last ∷ [] → IsWriting S whole new pushed rest
    by no_terms k a all = absurd (omega (arith, a, some))
    by (more_terms u us) k a all =
        let q = and_parts (term_is_known S u) (terms_are_known S us) k in
        inl (record {
          term = u;
          left = g.front ++ us ∷ [];
          are_left = left-push S counts pushed g.front us n g.are_left p (omega (arith, e, a)) q.1;
          known = q.0;
          text = ap (λ l. new ++ (term_text S 0 u ++ l)) (left_text-end S g.front us) ∙ onward out new (44 ∷ []) (term_text S 0 u ++ (more_args_text S 0 us ++ left_text S g.front)) whole w
              (ap (λ l. out ++ 44 ∷ l) (sym (append_assoc (term_text S 0 u) (more_args_text S 0 us) (left_text S g.front)))
              ∙ ap (λ l. out ++ l) (sym (left_text-end S g.front (more_terms u us))) ∙ ap (λ l. out ++ left_text S l) (sym all) ∙ h.text);
          rows = h.rows ∙ ap left_rows all ∙ left_rows-end g.front (more_terms u us) ∙ append_assoc (row_of u) (rows_of us) (left_rows g.front) ∙ ap (λ l. row_of u ++ l) (sym (left_rows-end g.front us));
        })

-- the last argument was written
pub behind-close : (S : List Symbol) (whole out new all counts : List ℕ) (c : ℕ) (rest : List RowItem) → IsBehind S whole out all rest → all ≡ counts ++ c ∷ [] → c ≤ 0 → new ≡ out ++ 41 ∷ [] → IsBehind S whole new counts rest
behind-close S whole out new all counts c rest h popped none w = by g.last g.arity g.all
  where
    g : HasLast S counts c h.left
    g = left-pop S counts c h.left (subst (λ l. AreLeft S l h.left) popped h.are_left)

    by : (last : Terms) → c ≡ arity_of last → h.left ≡ g.front ++ last ∷ [] → IsBehind S whole new counts rest
    by (more_terms u us) a all = absurd (omega (arith, a, none))
    by no_terms a all = record {
      left = g.front;
      are_left = g.are_left;
      text = onward out new (41 ∷ []) (left_text S g.front) whole w (ap (λ l. out ++ l) (sym (left_text-end S g.front no_terms)) ∙ ap (λ l. out ++ left_text S l) (sym all) ∙ h.text);
      rows = h.rows ∙ ap left_rows all ∙ left_rows-end g.front no_terms;
    }

-- no term is open
pub behind-all : (S : List Symbol) (whole out counts : List ℕ) (rest : List RowItem) → IsBehind S whole out counts rest → counts ≡ [] → IsWriting S whole out counts rest
behind-all S whole out counts rest h e = by h.left (sym e ∙ h.are_left.by_count) h.text h.rows
  where
    by : (left : List Terms) → [] ≡ map arity_of left → out ++ left_text S left ≡ whole → rest ≡ left_rows left → IsWriting S whole out counts rest
    by [] n t r = inr (r, sym (append-nil out) ∙ t)
    by (ts ∷ left) n t r = absurd (let k = ap length n in omega (arith, k))

pub written-all : (S : List Symbol) (whole out counts after : List ℕ) (rest : List RowItem) → IsBehind S whole out counts rest → counts ≡ [] → after ≡ [] → IsWriting S whole out after rest
written-all S whole out counts after rest h e f = subst (λ l. IsWriting S whole out l rest) (e ∙ sym f) (behind-all S whole out counts rest h e)
