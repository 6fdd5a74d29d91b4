-- The template that is computed has patterns of the sorts that their places ask for.
use Rattle.std.proofs.Common.{◌≡◌, ℕ, zero, suc, ◌+◌, ◌<◌, List, [], ◌∷◌, ◌++◌, length, drop, Bool, true, false, ◌&&◌, ◌||◌, IsTrue, refl, sym, ◌∙◌, ap, subst, Option, Some, None, option_map, option_and_then, slice_get, slice_index_or, ltb-true, arith, append_assoc, append-nil}
use Rattle.std.specs.List.{list_all}
use Rattle.std.specs.Option.{option_map_or}
use Rattle.std.proofs.lemmas.Bool.{false≢true, and_parts, and_from, or_left, or_right}
use Rattle.plain_laws.proofs.Every.{all-append}
use Rattle.calculus.specs.declared.sign.Sign.{Sign}
use Rattle.calculus.specs.declared.sign.Sign.TheVariants.{F}
use Rattle.calculus.specs.declared.sign.Side.{Side}
use Rattle.calculus.specs.declared.sign.Side.TheVariants.{Left, Right}
use Rattle.calculus.specs.declared.sort.Sort.{Sort}
use Rattle.calculus.specs.declared.sort.Sort.TheVariants.{TermSort, MarkSort, StringSort}
use Rattle.calculus.specs.declared.setting.Logic.{Logic}
use Rattle.calculus.specs.declared.setting.Logic.TheVariants.{Classical, Intuitionistic, D, T as LogicT, S4, S5}
use Rattle.calculus.specs.declared.kind.Shape.{Shape}
use Rattle.calculus.specs.declared.kind.Shape.TheVariants.{Alpha, Beta, Gamma, Delta, Literal}
use Rattle.calculus.specs.declared.kind.ModalPart.{ModalPart}
use Rattle.calculus.specs.declared.kind.ModalPart.TheVariants.{Plain, Nu, Pi}
use Rattle.calculus.specs.Syntax.{Symbol, Term, Terms, var, fun, eigen, spare, no_terms, more_terms, arity_of, Formula, atom, neg, conj, disj, imp, all, ex, box, dia, Problem}
use Rattle.calculus.specs.Skolem.{has_function}
use Rattle.calculus.specs.Problems.{is_modal, has_predicate, term_fits_in, terms_fit_in, formula_fits}
use Rattle.calculus.specs.Equality.{sort_eq}
use Rattle.calculus.specs.Kinds.{other, shape_of, modal_of}
use Rattle.calculus.specs.Positions.{size}
use Rattle.store_theory.specs.Patterns.{Pattern, p_var, p_eigen, p_new, no_patterns, patterns_tree, PatternAtom, pattern_fits, are_term_patterns, are_value_patterns, is_label_pattern, atom_fits, gamma_fits, template_fits}
use Rattle.store_theory.specs.Templates.{strings_from}
use Rattle.calculus.specs.Labels.{pi_label}
use Rattle.search_theory.specs.TemplateOf.{PatternSpot, root_pattern_spot, PatternPart, PatternBody, pattern_of, patterns_of, pattern_down, pattern_inside, of_sort, one_pi_more, pattern_modal, pattern_turn, pattern_atom, joined_patterns, pattern_alpha, pattern_beta, pattern_one, pattern_two, with_pattern_gamma, pattern_quantifier, pattern_part, template_by}
use Rattle.search_theory.proofs.Dropping.{drop-next, drop-both, drop-front}

-- what stands on the way: values, a label, and a term for each bound variable
abbrev is_value_pattern : List Sort → Pattern → Bool
is_value_pattern sorts p = pattern_fits sorts TermSort p || pattern_fits sorts StringSort p

record SpotFits (sorts : List Sort) (d : ℕ) (c : PatternSpot) : Type 0 where
  label : IsTrue (is_label_pattern sorts c.label)
  taken : IsTrue (list_all (is_value_pattern sorts) c.taken)
  env : IsTrue (list_all (pattern_fits sorts TermSort) c.env)
  depth : length c.env ≡ d

abbrev PartFits : List Sort → PatternPart → Type 0
PartFits sorts y = IsTrue (list_all (atom_fits sorts) y.literals) × IsTrue (list_all (gamma_fits sorts) y.gammas)

-- the part fits where the variables from n on begin with those of the part
abbrev FitsFrom : List Sort → ℕ → Option PatternPart → Type 0
FitsFrom sorts n None = Unit {0}
FitsFrom sorts n (Some y) = (more : List Sort) → drop n sorts ≡ y.sorts ++ more → PartFits sorts y

-- a body that gives such parts inside of d quantifiers
abbrev Fits : PatternBody → ℕ → Type 0
Fits body d = (sorts : List Sort) (c : PatternSpot) (ss : List Side) (n : ℕ) → SpotFits sorts d c → FitsFrom sorts n (body c ss n)

-- ---- variables

variable-sort : (sorts : List Sort) (k : ℕ) (sort : Sort) → slice_get sorts k ≡ Some sort → IsTrue (sort_eq sort sort) → IsTrue (pattern_fits sorts sort (p_var k))
variable-sort sorts k sort e h = ap (λ o. option_map_or (sort_eq sort) o false) e ∙ h

-- the same variables
kept : (sorts : List Sort) (n : ℕ) (f : PatternPart → PatternPart) → ((y : PatternPart) → (f y).sorts ≡ y.sorts) → ((y : PatternPart) → PartFits sorts y → PartFits sorts (f y)) → (o : Option PatternPart) → FitsFrom sorts n o → FitsFrom sorts n (option_map f o)
kept sorts n f s k None h = tt
kept sorts n f s k (Some y) h = λ more e. k y (h more (e ∙ ap (λ xs. xs ++ more) (s y)))

-- one variable first
first-taken : (sorts : List Sort) (n : ℕ) (sort : Sort) (o : Option PatternPart) → (slice_get sorts n ≡ Some sort → FitsFrom sorts (suc n) o) → FitsFrom sorts n (option_map (of_sort sort) o)
first-taken sorts n sort None h = tt
first-taken sorts n sort (Some y) h = λ more e. let d = drop-next n sorts sort (y.sorts ++ more) e in h d.0 more d.1

-- ---- terms

index-fits : (sorts : List Sort) (env : List Pattern) (k : ℕ) (d : Pattern) → IsTrue (list_all (pattern_fits sorts TermSort) env) → k < length env → IsTrue (pattern_fits sorts TermSort (slice_index_or env k d))
index-fits sorts [] k d h l = absurd (omega (arith, l))
index-fits sorts (p ∷ env) zero d h l = (and_parts (pattern_fits sorts TermSort p) (list_all (pattern_fits sorts TermSort) env) h).0
index-fits sorts (p ∷ env) (suc k) d h l = index-fits sorts env k d (and_parts (pattern_fits sorts TermSort p) (list_all (pattern_fits sorts TermSort) env) h).1 (omega (arith, l))

pub terms-tree : (sorts : List Sort) (ps : List Pattern) → IsTrue (list_all (pattern_fits sorts TermSort) ps) → IsTrue (are_term_patterns sorts (patterns_tree ps))
terms-tree sorts [] h = refl
terms-tree sorts (p ∷ ps) h = let q = and_parts (pattern_fits sorts TermSort p) (list_all (pattern_fits sorts TermSort) ps) h in and_from (pattern_fits sorts TermSort p) (are_term_patterns sorts (patterns_tree ps)) q.0 (terms-tree sorts ps q.1)

values-tree : (sorts : List Sort) (ps : List Pattern) → IsTrue (list_all (is_value_pattern sorts) ps) → IsTrue (are_value_patterns sorts (patterns_tree ps))
values-tree sorts [] h = refl
values-tree sorts (p ∷ ps) h = let q = and_parts (is_value_pattern sorts p) (list_all (is_value_pattern sorts) ps) h in and_from (is_value_pattern sorts p) (are_value_patterns sorts (patterns_tree ps)) q.0 (values-tree sorts ps q.1)

mutual
  term-fits : (symbols : List Symbol) (sorts : List Sort) (env : List Pattern) (t : Term) → IsTrue (list_all (pattern_fits sorts TermSort) env) → IsTrue (term_fits_in symbols (length env) t) → IsTrue (pattern_fits sorts TermSort (pattern_of env t))
  term-fits symbols sorts env (var k) h f = index-fits sorts env k (p_new 0 no_patterns) h (ltb-true k (length env) f)
  term-fits symbols sorts env (fun g ts) h f = terms-tree sorts (patterns_of env ts) (terms-fit symbols sorts env ts h (and_parts (has_function symbols g (arity_of ts)) (terms_fit_in symbols (length env) ts) f).1)
  term-fits symbols sorts env (eigen n) h f = absurd (false≢true f)
  term-fits symbols sorts env (spare n) h f = absurd (false≢true f)

  terms-fit : (symbols : List Symbol) (sorts : List Sort) (env : List Pattern) (ts : Terms) → IsTrue (list_all (pattern_fits sorts TermSort) env) → IsTrue (terms_fit_in symbols (length env) ts) → IsTrue (list_all (pattern_fits sorts TermSort) (patterns_of env ts))
  terms-fit symbols sorts env no_terms h f = refl
  terms-fit symbols sorts env (more_terms t ts) h f =
      let q = and_parts (term_fits_in symbols (length env) t) (terms_fit_in symbols (length env) ts) f in
      and_from (pattern_fits sorts TermSort (pattern_of env t)) (list_all (pattern_fits sorts TermSort) (patterns_of env ts)) (term-fits symbols sorts env t h q.0) (terms-fit symbols sorts env ts h q.1)

-- ---- parts of the formula

atom-fits : (symbols : List Symbol) (d : ℕ) (s : Sign) (p : ℕ) (ts : Terms) → IsTrue (terms_fit_in symbols d ts) → Fits (pattern_atom s p ts) d
atom-fits symbols d s p ts f sorts c ss n w = λ more e.
    let a : PatternAtom = record { sign = s; symbol = p; args = patterns_of c.env ts; label = c.label } in
    (and_from (atom_fits sorts a) true (and_from (list_all (pattern_fits sorts TermSort) a.args) (is_label_pattern sorts a.label) (terms-fit symbols sorts c.env ts w.env (subst (λ k. IsTrue (terms_fit_in symbols k ts)) (sym w.depth) f)) w.label) refl, refl)

spot-label : (sorts : List Sort) (d : ℕ) (c : PatternSpot) (ws : List Pattern) → SpotFits sorts d c → IsTrue (is_label_pattern sorts ws) → SpotFits sorts d (record c { label = ws })
spot-label sorts d c ws w h = record { label = h; taken = w.taken; env = w.env; depth = w.depth }

label-more : (sorts : List Sort) (l : Logic) (ws : List Pattern) (p : Pattern) → IsTrue (is_label_pattern sorts ws) → IsTrue (pattern_fits sorts MarkSort p || pattern_fits sorts StringSort p) → IsTrue (is_label_pattern sorts (pi_label l ws p))
label-more sorts l ws p h k = by l
  where
    one : IsTrue (is_label_pattern sorts (p ∷ []))
    one = and_from (pattern_fits sorts MarkSort p || pattern_fits sorts StringSort p) true k refl

    more : IsTrue (is_label_pattern sorts (ws ++ p ∷ []))
    more = all-append (λ q. pattern_fits sorts MarkSort q || pattern_fits sorts StringSort q) ws (p ∷ []) h one

    by : (l : Logic) → IsTrue (is_label_pattern sorts (pi_label l ws p))
    by Classical = more
    by Intuitionistic = more
    by D = more
    by LogicT = more
    by S4 = more
    by S5 = one

modal-fits : (l : Logic) (m : ModalPart) (go : PatternBody) (d : ℕ) → Fits go d → Fits (pattern_modal l m go) d
modal-fits l Plain go d h sorts c ss n w = h sorts c ss n w
modal-fits l Nu go d h sorts c ss n w =
    first-taken sorts n StringSort (go (record c { label = pi_label l c.label (p_var n); taken = c.taken ++ p_var n ∷ [] }) ss (suc n)) (λ e.
    let v = variable-sort sorts n StringSort e refl in
    h sorts (record c { label = pi_label l c.label (p_var n); taken = c.taken ++ p_var n ∷ [] }) ss (suc n) (record {
      label = (label-more sorts l c.label (p_var n) w.label (or_right (pattern_fits sorts MarkSort (p_var n)) (pattern_fits sorts StringSort (p_var n)) v));
      taken = all-append (is_value_pattern sorts) c.taken (p_var n ∷ []) w.taken (and_from (is_value_pattern sorts (p_var n)) true (or_right (pattern_fits sorts TermSort (p_var n)) (pattern_fits sorts StringSort (p_var n)) v) refl);
      env = w.env;
      depth = w.depth;
    }))
modal-fits l Pi go d h sorts c ss n w =
    let p = p_new c.position (patterns_tree c.taken) in
    kept sorts n one_pi_more (λ y. refl) (λ y q. q) (go (record c { label = pi_label l c.label p }) ss n)
    (h sorts (record c { label = pi_label l c.label p }) ss n (spot-label sorts d c (pi_label l c.label p) w (label-more sorts l c.label p w.label (or_left (pattern_fits sorts MarkSort p) (pattern_fits sorts StringSort p) (values-tree sorts c.taken w.taken)))))

spot-down : (sorts : List Sort) (d : ℕ) (c : PatternSpot) (k : ℕ) → SpotFits sorts d c → SpotFits sorts d (pattern_down k c)
spot-down sorts d c k w = record { label = w.label; taken = w.taken; env = w.env; depth = w.depth }

one-fits : (body : PatternBody) (d : ℕ) → Fits body d → Fits (pattern_one body) d
one-fits body d h sorts c ss n w = kept sorts n _ (λ y. refl) (λ y q. q) (body (pattern_down 1 c) ss n) (h sorts (pattern_down 1 c) ss n (spot-down sorts d c 1 w))

beta-fits : (sorts : List Sort) (second : List Side → ℕ → Option PatternPart) (n : ℕ) → ((ss : List Side) (m : ℕ) → FitsFrom sorts m (second ss m)) → (o : Option PatternPart) → FitsFrom sorts n o → FitsFrom sorts n (option_and_then (λ (x : PatternPart). option_map (joined_patterns x) (second x.sides (n + length x.sorts))) o)
beta-fits sorts second n k None h = tt
beta-fits sorts second n k (Some x) h = by (second x.sides (n + length x.sorts)) (k x.sides (n + length x.sorts))
  where
    by : (o : Option PatternPart) → FitsFrom sorts (n + length x.sorts) o → FitsFrom sorts n (option_map (joined_patterns x) o)
    by None g = tt
    by (Some y) g = λ more e.
        let both : drop n sorts ≡ x.sorts ++ (y.sorts ++ more) = e ∙ append_assoc x.sorts y.sorts more in
        let a = h (y.sorts ++ more) both in
        let b = g more (drop-both n (length x.sorts) sorts ∙ ap (drop (length x.sorts)) both ∙ drop-front x.sorts (y.sorts ++ more)) in
        (all-append (atom_fits sorts) x.literals y.literals a.0 b.0, all-append (gamma_fits sorts) x.gammas y.gammas a.1 b.1)

alpha-fits : (sorts : List Sort) (n : ℕ) (f g : List Side → Option PatternPart) → ((ss : List Side) → FitsFrom sorts n (f ss)) → ((ss : List Side) → FitsFrom sorts n (g ss)) → (ss : List Side) → FitsFrom sorts n (pattern_alpha f g ss)
alpha-fits sorts n f g h k [] = tt
alpha-fits sorts n f g h k (Left ∷ ss) = h ss
alpha-fits sorts n f g h k (Right ∷ ss) = k ss

two-fits : (h : Shape) (k : ℕ) (f g : PatternBody) (d : ℕ) → Fits f d → Fits g d → Fits (pattern_two h k f g) d
two-fits Alpha k f g d a b sorts c ss n w =
    kept sorts n _ (λ y. refl) (λ y q. q) (pattern_alpha (λ rest. f (pattern_down 1 c) rest n) (λ rest. g (pattern_down (suc k) c) rest n) ss)
    (alpha-fits sorts n (λ rest. f (pattern_down 1 c) rest n) (λ rest. g (pattern_down (suc k) c) rest n) (λ rest. a sorts (pattern_down 1 c) rest n (spot-down sorts d c 1 w)) (λ rest. b sorts (pattern_down (suc k) c) rest n (spot-down sorts d c (suc k) w)) ss)
two-fits Beta k f g d a b sorts c ss n w =
    kept sorts n _ (λ y. refl) (λ y q. q) (pattern_beta (f (pattern_down 1 c)) (g (pattern_down (suc k) c)) ss n)
    (beta-fits sorts (g (pattern_down (suc k) c)) n (λ rest m. b sorts (pattern_down (suc k) c) rest m (spot-down sorts d c (suc k) w)) (f (pattern_down 1 c) ss n) (a sorts (pattern_down 1 c) ss n (spot-down sorts d c 1 w)))
two-fits Gamma k f g d a b sorts c ss n w = tt
two-fits Delta k f g d a b sorts c ss n w = tt
two-fits Literal k f g d a b sorts c ss n w = tt

gamma-more : (sorts : List Sort) (n : ℕ) (p : Pattern) (ws : List Pattern) → IsTrue (pattern_fits sorts TermSort p) → IsTrue (is_label_pattern sorts ws) → (o : Option PatternPart) → FitsFrom sorts n o → FitsFrom sorts n (option_map (with_pattern_gamma p ws) o)
gamma-more sorts n p ws h k = kept sorts n (with_pattern_gamma p ws) (λ y. refl) (λ y q. (q.0, and_from (gamma_fits sorts (record { term = p; label = ws })) (list_all (gamma_fits sorts) y.gammas) (and_from (pattern_fits sorts TermSort p) (is_label_pattern sorts ws) h k) q.1))

quantifier-fits : (h : Shape) (body : PatternBody) (d : ℕ) → Fits body (suc d) → Fits (pattern_quantifier h body) d
quantifier-fits Gamma body d k sorts c ss n w =
    let ps = c.taken ++ p_var n ∷ [] in
    let inner = pattern_inside (p_var n) ps c in
    first-taken sorts n TermSort (pattern_turn c.position ps (option_map (with_pattern_gamma (p_var n) c.label) (body inner ss (suc n)))) (λ e.
    let v = variable-sort sorts n TermSort e refl in
    kept sorts (suc n) _ (λ y. refl) (λ y q. q) (option_map (with_pattern_gamma (p_var n) c.label) (body inner ss (suc n)))
    (gamma-more sorts (suc n) (p_var n) c.label v w.label (body inner ss (suc n)) (k sorts inner ss (suc n) (record {
      label = w.label;
      taken = all-append (is_value_pattern sorts) c.taken (p_var n ∷ []) w.taken (and_from (is_value_pattern sorts (p_var n)) true (or_left (pattern_fits sorts TermSort (p_var n)) (pattern_fits sorts StringSort (p_var n)) v) refl);
      env = and_from (pattern_fits sorts TermSort (p_var n)) (list_all (pattern_fits sorts TermSort) c.env) v w.env;
      depth = ap suc w.depth;
    }))))
quantifier-fits Delta body d k sorts c ss n w =
    let p = p_eigen c.position (patterns_tree c.taken) in
    let inner = pattern_inside p c.taken c in
    kept sorts n _ (λ y. refl) (λ y q. q) (body inner ss n) (k sorts inner ss n (record {
      label = w.label;
      taken = w.taken;
      env = and_from (pattern_fits sorts TermSort p) (list_all (pattern_fits sorts TermSort) c.env) (values-tree sorts c.taken w.taken) w.env;
      depth = ap suc w.depth;
    }))
quantifier-fits Alpha body d k sorts c ss n w = tt
quantifier-fits Beta body d k sorts c ss n w = tt
quantifier-fits Literal body d k sorts c ss n w = tt

part-fits : (l : Logic) (symbols : List Symbol) (f : Formula) (s : Sign) (d : ℕ) → IsTrue (formula_fits l symbols d f) → Fits (pattern_part l f s) d
part-fits l symbols (atom p ts) s d h = modal-fits l (modal_of l s (atom p ts)) (pattern_atom s p ts) d (atom-fits symbols d s p ts (and_parts (has_predicate symbols p (arity_of ts)) (terms_fit_in symbols d ts) h).1)
part-fits l symbols (neg a) s d h = modal-fits l (modal_of l s (neg a)) (pattern_one (pattern_part l a (other s))) d (one-fits (pattern_part l a (other s)) d (part-fits l symbols a (other s) d h))
part-fits l symbols (conj a b) s d h = let q = and_parts (formula_fits l symbols d a) (formula_fits l symbols d b) h in modal-fits l (modal_of l s (conj a b)) _ d (two-fits (shape_of s (conj a b)) (size a) (pattern_part l a s) (pattern_part l b s) d (part-fits l symbols a s d q.0) (part-fits l symbols b s d q.1))
part-fits l symbols (disj a b) s d h = let q = and_parts (formula_fits l symbols d a) (formula_fits l symbols d b) h in modal-fits l (modal_of l s (disj a b)) _ d (two-fits (shape_of s (disj a b)) (size a) (pattern_part l a s) (pattern_part l b s) d (part-fits l symbols a s d q.0) (part-fits l symbols b s d q.1))
part-fits l symbols (imp a b) s d h = let q = and_parts (formula_fits l symbols d a) (formula_fits l symbols d b) h in modal-fits l (modal_of l s (imp a b)) _ d (two-fits (shape_of s (imp a b)) (size a) (pattern_part l a (other s)) (pattern_part l b s) d (part-fits l symbols a (other s) d q.0) (part-fits l symbols b s d q.1))
part-fits l symbols (all a) s d h = modal-fits l (modal_of l s (all a)) _ d (quantifier-fits (shape_of s (all a)) (pattern_part l a s) d (part-fits l symbols a s (suc d) h))
part-fits l symbols (ex a) s d h = modal-fits l (modal_of l s (ex a)) _ d (quantifier-fits (shape_of s (ex a)) (pattern_part l a s) d (part-fits l symbols a s (suc d) h))
part-fits l symbols (box a) s d h = modal-fits l (modal_of l s (box a)) (pattern_one (pattern_part l a s)) d (one-fits (pattern_part l a s) d (part-fits l symbols a s d (and_parts (is_modal l) (formula_fits l symbols d a) h).1))
part-fits l symbols (dia a) s d h = modal-fits l (modal_of l s (dia a)) (pattern_one (pattern_part l a s)) d (one-fits (pattern_part l a s) d (part-fits l symbols a s d (and_parts (is_modal l) (formula_fits l symbols d a) h).1))

-- ---- strings

strings-next : (sorts : List Sort) (n : ℕ) (sort : Sort) (rest : List Sort) → drop n sorts ≡ sort ∷ rest → drop (n + 1) sorts ≡ rest
strings-next sorts n sort rest e = (let q : n + 1 ≡ suc n = omega arith in ap (λ k. drop k sorts) q) ∙ (drop-next n sorts sort rest e).1

strings-fit : (sorts : List Sort) (n : ℕ) (rest : List Sort) → drop n sorts ≡ rest → IsTrue (list_all (pattern_fits sorts StringSort) (strings_from n rest))
strings-fit sorts n [] e = refl
strings-fit sorts n (TermSort ∷ rest) e = strings-fit sorts (n + 1) rest (strings-next sorts n TermSort rest e)
strings-fit sorts n (MarkSort ∷ rest) e = strings-fit sorts (n + 1) rest (strings-next sorts n MarkSort rest e)
strings-fit sorts n (StringSort ∷ rest) e = and_from (pattern_fits sorts StringSort (p_var n)) (list_all (pattern_fits sorts StringSort) (strings_from (n + 1) rest)) (variable-sort sorts n StringSort (drop-next n sorts StringSort rest e).0 refl) (strings-fit sorts (n + 1) rest (strings-next sorts n StringSort rest e))

-- the template of a part of a whole formula
pub template-part_fits : (P : Problem) (sides : List Side) (y : PatternPart) → IsTrue (formula_fits P.setting.logic P.symbols 0 P.formula) → pattern_part P.setting.logic P.formula F root_pattern_spot sides 0 ≡ Some y → IsTrue (template_fits (template_by y))
template-part_fits P sides y fits e =
    let whole = subst (FitsFrom y.sorts 0) e (part-fits P.setting.logic P.symbols P.formula F 0 fits y.sorts root_pattern_spot sides 0 (record { label = refl; taken = refl; env = refl; depth = refl })) in
    let q = whole [] (sym (append-nil y.sorts)) in
    let t = template_by y in
    and_from (list_all (atom_fits t.sorts) t.literals && list_all (pattern_fits t.sorts StringSort) t.strings) (list_all (gamma_fits t.sorts) t.gammas)
    (and_from (list_all (atom_fits t.sorts) t.literals) (list_all (pattern_fits t.sorts StringSort) t.strings) q.0 (strings-fit y.sorts 0 y.sorts refl)) q.1
