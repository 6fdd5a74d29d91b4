-- Terms that are open are read in just one way.
use Rattle.std.proofs.Common.{◌≡◌, ℕ, suc, ◌+◌, List, [], ◌∷◌, ◌++◌, true, false, ◌&&◌, ◌==◌, IsTrue, Option, Some, None, refl, sym, ◌∙◌, ap, subst, append-nil, append_assoc, length, slice_get, eqb-true, eq-eqb, arith}
use Rattle.std.specs.Option.{option_map_or}
use Rattle.std.specs.Prelude.{Contains}
use Rattle.std.proofs.lemmas.Option.{slice_get_within, get_or_from_slice_get}
use Rattle.std.proofs.lemmas.Bool.{false≢true, true≢false, and_parts, and_from}
use Rattle.calculus.specs.declared.symbol.SymbolClass.TheVariants.{Function}
use Rattle.calculus.specs.Syntax.{arity_of, Symbol, Term, Terms, var, fun, eigen, spare, no_terms, more_terms}
use Rattle.calculus.specs.Lists.{terms_tree}
use Rattle.calculus.specs.Skolem.{has_function, is_function}
use Rattle.calculus.specs.DerivationText.{term_is_written, terms_are_written}
use Rattle.calculus.specs.Problems.{are_distinct}
use Rattle.calculus.specs.Text.{Ends, StopsAt, args_text, is_word_byte, more_args_text, name_text, symbol_at, symbol_text, term_text, text_by_class}
use Rattle.calculus.proofs.TextLaws.{cons-head, cons-tail, name-dollar, name-split}
use Rattle.calculus.proofs.TermTextLaws.{ends-word, term-split, function-class, ends-bracket}
use Rattle.formula_text.specs.Frames.{Frame, IsFunction, NoFunction, NoTerm, args_front, frame_text, frames_are_written, stack_text}

-- ---- function symbols

-- the name of the function symbol at a place
pub record Named (S : List Symbol) (f n : ℕ) (name : List ℕ) : Type 0 where
  pub is : IsFunction S f name n
  pub text : symbol_at S f ≡ name_text name

pub named : (S : List Symbol) (f n : ℕ) → IsTrue (has_function S f n) → (name : List ℕ) × Named S f n name
named S f n h = by (slice_get S f) refl h
  where
    by : (o : Option Symbol) → slice_get S f ≡ o → IsTrue (option_map_or (λ (s : Symbol). is_function s.class && s.arity == n) o false) → (name : List ℕ) × Named S f n name
    by None e k = absurd (false≢true k)
    by (Some x) e k =
        let parts = and_parts (is_function x.class) (x.arity == n) k in
        let class = function-class x.class parts.0 in
        let same : x ≡ record { name = x.name; class = Function; arity = n } = λ i. record { name = x.name; class = class i; arity = eqb-true x.arity n parts.1 i } in (
          x.name,
          record {
            is = e ∙ ap Some same;
            text = ap (λ o. option_map_or (λ (s : Symbol). symbol_text s) o []) e ∙ ap (λ c. text_by_class c x.name) class;
          },
        )

pub function-has : (S : List Symbol) (f n : ℕ) (name : List ℕ) → IsFunction S f name n → IsTrue (has_function S f n)
function-has S f n name e = ap (λ o. option_map_or (λ (s : Symbol). is_function s.class && s.arity == n) o false) e ∙ eq-eqb n n refl

pub function-text : (S : List Symbol) (f n : ℕ) (name : List ℕ) → IsFunction S f name n → symbol_at S f ≡ name_text name
function-text S f n name e = ap (λ o. option_map_or (λ (s : Symbol). symbol_text s) o []) e

pub contains-at : (S : List Symbol) (f : ℕ) (x : Symbol) → slice_get S f ≡ Some x → Contains S x
contains-at S f x e = (f, slice_get_within S f x e, get_or_from_slice_get S f x x e)

-- ---- what stands before and after arguments

pub args-stop : (S : List Symbol) (ts : Terms) (r : List ℕ) → Ends r → StopsAt is_word_byte (args_text S 0 ts ++ r)
args-stop S no_terms r h = ends-word r h
args-stop S (more_terms t ts) r h = refl

pub more-ends : (S : List Symbol) (ts : Terms) (r : List ℕ) → Ends (more_args_text S 0 ts ++ r)
more-ends S no_terms r = refl
more-ends S (more_terms t ts) r = refl

-- ---- what is left of a term after what was read of it

-- the next argument, those after it, and what stands after the term
pub record Left (S : List Symbol) (name : List ℕ) (known : ℕ) (rest : List ℕ) : Type 0 where
  pub next : Term
  pub others : Terms
  pub following : List ℕ
  pub symbol : ℕ
  pub next_written : IsTrue (term_is_written S next)
  pub text : rest ≡ term_text S 0 next ++ (more_args_text S 0 others ++ following)
  pub ends : Ends following
  pub function : IsFunction S symbol name (known + suc (arity_of others))

record LeftArgs (S : List Symbol) (known : ℕ) (all : ℕ) (rest r : List ℕ) : Type 0 where
  next : Term
  others : Terms
  next_written : IsTrue (term_is_written S next)
  text : rest ≡ term_text S 0 next ++ (more_args_text S 0 others ++ r)
  count : all ≡ known + suc (arity_of others)

args-step : (S : List Symbol) → IsTrue (are_distinct S) → (a : Term) (args : List Term) (t : Term) (ts : Terms) (rest r : List ℕ) → IsTrue (term_is_written S a) → IsTrue (term_is_written S t)
    → args_front S (a ∷ args) ++ rest ≡ term_text S 0 t ++ (more_args_text S 0 ts ++ r) → 44 ∷ (args_front S args ++ rest) ≡ more_args_text S 0 ts ++ r
args-step S d a args t ts rest r ha ht e =
    (term-split S d a t (44 ∷ (args_front S args ++ rest)) (more_args_text S 0 ts ++ r) ha ht refl (more-ends S ts r) (sym (append_assoc (term_text S 0 a) (44 ∷ args_front S args) rest) ∙ e)).1

left-args : (S : List Symbol) → IsTrue (are_distinct S) → (args : List Term) (t : Term) (ts : Terms) (rest r : List ℕ) → IsTrue (terms_are_written S (terms_tree args)) → IsTrue (term_is_written S t) → IsTrue (terms_are_written S ts)
    → args_front S args ++ rest ≡ term_text S 0 t ++ (more_args_text S 0 ts ++ r) → LeftArgs S (length args) (suc (arity_of ts)) rest r
left-args S d [] t ts rest r ha ht hs e = record { next = t; others = ts; next_written = ht; text = e; count = omega arith }
left-args S d (a ∷ args) t no_terms rest r ha ht hs e =
    let pa = and_parts (term_is_written S a) (terms_are_written S (terms_tree args)) ha in
    absurd (true≢false (ap (λ k. k == 44) (cons-head (args-step S d a args t no_terms rest r pa.0 ht e))))
left-args S d (a ∷ args) t (more_terms u us) rest r ha ht hs e =
    let pa = and_parts (term_is_written S a) (terms_are_written S (terms_tree args)) ha in
    let ps = and_parts (term_is_written S u) (terms_are_written S us) hs in
    let f = cons-tail (args-step S d a args t (more_terms u us) rest r pa.0 ht e) in
    let k = left-args S d args u us rest r pa.1 ps.0 ps.1 (f ∙ append_assoc (term_text S 0 u) (more_args_text S 0 us) r) in
    record { next = k.next; others = k.others; next_written = k.next_written; text = k.text; count = let c = k.count in omega arith }

frame-on : (S : List Symbol) (f : Frame) (rest : List ℕ) → frame_text S f ++ rest ≡ name_text f.name ++ 40 ∷ (args_front S f.args ++ rest)
frame-on S f rest = append_assoc (name_text f.name) (40 ∷ args_front S f.args) rest

pub fun-on : (S : List Symbol) (g : ℕ) (ts : Terms) (name r : List ℕ) → symbol_at S g ≡ name_text name → term_text S 0 (fun g ts) ++ r ≡ name_text name ++ (args_text S 0 ts ++ r)
fun-on S g ts name r h = append_assoc (symbol_at S g) (args_text S 0 ts) r ∙ ap (λ l. l ++ (args_text S 0 ts ++ r)) h

pub left-frame : (S : List Symbol) → IsTrue (are_distinct S) → (f : Frame) (t : Term) (rest r : List ℕ) → IsTrue (terms_are_written S (terms_tree f.args)) → IsTrue (term_is_written S t) → Ends r
    → frame_text S f ++ rest ≡ term_text S 0 t ++ r → Left S f.name (length f.args) rest
left-frame S d f (var k) rest r hf ht hr e = absurd (false≢true ht)
left-frame S d f (eigen n) rest r hf ht hr e = absurd (name-dollar f.name (40 ∷ (args_front S f.args ++ rest)) _ (sym (frame-on S f rest) ∙ e))
left-frame S d f (spare n) rest r hf ht hr e = absurd (name-dollar f.name (40 ∷ (args_front S f.args ++ rest)) _ (sym (frame-on S f rest) ∙ e))
left-frame S d f (fun g no_terms) rest r hf ht hr e =
    let p = and_parts (has_function S g 0) true ht in
    let x = named S g 0 p.0 in
    let k = name-split f.name x.0 (40 ∷ (args_front S f.args ++ rest)) (args_text S 0 no_terms ++ r) refl (args-stop S no_terms r hr) (sym (frame-on S f rest) ∙ e ∙ fun-on S g no_terms x.0 r x.1.text) in
    absurd (ends-bracket r _ hr (sym k.1))
left-frame S d f (fun g (more_terms u us)) rest r hf ht hr e =
    let p = and_parts (has_function S g (suc (arity_of us))) (terms_are_written S (more_terms u us)) ht in
    let q = and_parts (term_is_written S u) (terms_are_written S us) p.1 in
    let x = named S g (suc (arity_of us)) p.0 in
    let k = name-split f.name x.0 (40 ∷ (args_front S f.args ++ rest)) (args_text S 0 (more_terms u us) ++ r) refl refl (sym (frame-on S f rest) ∙ e ∙ fun-on S g (more_terms u us) x.0 r x.1.text) in
    let m = left-args S d f.args u us rest r hf q.0 q.1 (cons-tail k.1 ∙ append_assoc (term_text S 0 u) (more_args_text S 0 us) r) in
    record {
      next = m.next;
      others = m.others;
      following = r;
      symbol = g;
      next_written = m.next_written;
      text = m.text;
      ends = hr;
      function = subst (λ n. IsFunction S g f.name n) m.count (subst (λ l. IsFunction S g l (suc (arity_of us))) (sym k.0) x.1.is);
    }

-- a stack whose innermost frame is f
pub left-stack : (S : List Symbol) → IsTrue (are_distinct S) → (fs : List Frame) (f : Frame) (t : Term) (rest r : List ℕ) → IsTrue (frames_are_written S (fs ++ f ∷ [])) → IsTrue (term_is_written S t) → Ends r
    → stack_text S (fs ++ f ∷ []) ++ rest ≡ term_text S 0 t ++ r → Left S f.name (length f.args) rest
left-stack S d [] f t rest r hf ht hr e = left-frame S d f t rest r (and_parts (terms_are_written S (terms_tree f.args)) true hf).0 ht hr (ap (λ l. l ++ rest) (sym (append-nil (frame_text S f))) ∙ e)
left-stack S d (h ∷ fs) f t rest r hf ht hr e =
    let p = and_parts (terms_are_written S (terms_tree h.args)) (frames_are_written S (fs ++ f ∷ [])) hf in
    let k = left-frame S d h t (stack_text S (fs ++ f ∷ []) ++ rest) r p.0 ht hr (sym (append_assoc (frame_text S h) (stack_text S (fs ++ f ∷ [])) rest) ∙ e) in
    left-stack S d fs f k.next rest (more_args_text S 0 k.others ++ k.following) p.1 k.next_written (more-ends S k.others k.following) k.text

-- ---- no term stands there

-- where none can begin after the open ones
pub no_head : (S : List Symbol) → IsTrue (are_distinct S) → (fs : List Frame) (rest : List ℕ) → IsTrue (frames_are_written S fs) → NoTerm S rest → NoTerm S (stack_text S fs ++ rest)
no_head S d [] rest hf none = none
no_head S d (h ∷ fs) rest hf none = λ t r ht hr e.
    let p = and_parts (terms_are_written S (terms_tree h.args)) (frames_are_written S fs) hf in
    let k = left-frame S d h t (stack_text S fs ++ rest) r p.0 ht hr (sym (append_assoc (frame_text S h) (stack_text S fs) rest) ∙ e) in
    no_head S d fs rest p.1 none k.next (more_args_text S 0 k.others ++ k.following) k.next_written (more-ends S k.others k.following) k.text

-- what follows a further argument of the innermost frame
record Follows (S : List Symbol) (name : List ℕ) (known : ℕ) (after : List ℕ) : Type 0 where
  others : Terms
  following : List ℕ
  symbol : ℕ
  text : after ≡ more_args_text S 0 others ++ following
  ends : Ends following
  function : IsFunction S symbol name (known + suc (arity_of others))

follows : (S : List Symbol) → IsTrue (are_distinct S) → (fs : List Frame) (f : Frame) (v t : Term) (after r : List ℕ) → IsTrue (frames_are_written S (fs ++ f ∷ [])) → IsTrue (term_is_written S v) → Ends after → IsTrue (term_is_written S t) → Ends r
    → stack_text S (fs ++ f ∷ []) ++ (term_text S 0 v ++ after) ≡ term_text S 0 t ++ r → Follows S f.name (length f.args) after
follows S d fs f v t after r hf hv ha ht hr e =
    let k = left-stack S d fs f t (term_text S 0 v ++ after) r hf ht hr e in
    let s = term-split S d v k.next after (more_args_text S 0 k.others ++ k.following) hv k.next_written ha (more-ends S k.others k.following) k.text in
    record { others = k.others; following = k.following; symbol = k.symbol; text = s.1; ends = k.ends; function = k.function }

-- nor where neither a comma nor a closing bracket follows
pub no_follower : (S : List Symbol) → IsTrue (are_distinct S) → (fs : List Frame) (f : Frame) (v : Term) (after : List ℕ) → IsTrue (frames_are_written S (fs ++ f ∷ [])) → IsTrue (term_is_written S v) → Ends after
    → ((r : List ℕ) → ¬ (after ≡ 44 ∷ r)) → ((r : List ℕ) → ¬ (after ≡ 41 ∷ r)) → NoTerm S (stack_text S (fs ++ f ∷ []) ++ (term_text S 0 v ++ after))
no_follower S d fs f v after hf hv ha comma closed = λ t r ht hr e.
    let k = follows S d fs f v t after r hf hv ha ht hr e in
    by k.others k.following k.text
  where
    by : (us : Terms) (b : List ℕ) → after ≡ more_args_text S 0 us ++ b → ⊥
    by no_terms b g = closed b g
    by (more_terms u us) b g = comma _ g

-- what a closing bracket tells
record Closes (S : List Symbol) (name : List ℕ) (n : ℕ) (after : List ℕ) : Type 0 where
  symbol : ℕ
  ends : Ends after
  function : IsFunction S symbol name n

closes : (S : List Symbol) (name : List ℕ) (known : ℕ) (after : List ℕ) → Follows S name known (41 ∷ after) → Closes S name (known + 1) after
closes S name known after k = by k.others k.text k.function
  where
    by : (us : Terms) → 41 ∷ after ≡ more_args_text S 0 us ++ k.following → IsFunction S k.symbol name (known + suc (arity_of us)) → Closes S name (known + 1) after
    by no_terms g h = record { symbol = k.symbol; ends = subst Ends (sym (cons-tail g)) k.ends; function = h }
    by (more_terms u us) g h = absurd (false≢true (ap (λ z. z == 44) (cons-head g)))

pub no_close_end : (S : List Symbol) → IsTrue (are_distinct S) → (fs : List Frame) (f : Frame) (v : Term) (after : List ℕ) → IsTrue (frames_are_written S (fs ++ f ∷ [])) → IsTrue (term_is_written S v)
    → ¬ Ends after → NoTerm S (stack_text S (fs ++ f ∷ []) ++ (term_text S 0 v ++ 41 ∷ after))
no_close_end S d fs f v after hf hv not = λ t r ht hr e. not (closes S f.name (length f.args) after (follows S d fs f v t (41 ∷ after) r hf hv refl ht hr e)).ends

pub no_close_function : (S : List Symbol) → IsTrue (are_distinct S) → (fs : List Frame) (f : Frame) (v : Term) (after : List ℕ) → IsTrue (frames_are_written S (fs ++ f ∷ [])) → IsTrue (term_is_written S v)
    → NoFunction S f.name (length f.args + 1) → NoTerm S (stack_text S (fs ++ f ∷ []) ++ (term_text S 0 v ++ 41 ∷ after))
no_close_function S d fs f v after hf hv not = λ t r ht hr e.
    let k = closes S f.name (length f.args) after (follows S d fs f v t (41 ∷ after) r hf hv refl ht hr e) in
    not (contains-at S k.symbol (record { name = f.name; class = Function; arity = length f.args + 1 }) k.function)

-- ---- onward

pub stack-push : (S : List Symbol) (fs : List Frame) (f : Frame) → stack_text S (fs ++ f ∷ []) ≡ stack_text S fs ++ frame_text S f
stack-push S [] f = append-nil (frame_text S f)
stack-push S (h ∷ fs) f = ap (λ l. frame_text S h ++ l) (stack-push S fs f) ∙ sym (append_assoc (frame_text S h) (stack_text S fs) (frame_text S f))

pub frames-push : (S : List Symbol) (fs : List Frame) (f : Frame) → IsTrue (frames_are_written S fs) → IsTrue (terms_are_written S (terms_tree f.args)) → IsTrue (frames_are_written S (fs ++ f ∷ []))
frames-push S [] f h k = and_from (terms_are_written S (terms_tree f.args)) true k refl
frames-push S (g ∷ fs) f h k =
    let p = and_parts (terms_are_written S (terms_tree g.args)) (frames_are_written S fs) h in
    and_from (terms_are_written S (terms_tree g.args)) (frames_are_written S (fs ++ f ∷ [])) p.0 (frames-push S fs f p.1 k)

pub frames-pop : (S : List Symbol) (fs : List Frame) (f : Frame) → IsTrue (frames_are_written S (fs ++ f ∷ [])) → IsTrue (frames_are_written S fs) × IsTrue (terms_are_written S (terms_tree f.args))
frames-pop S [] f h = (refl, (and_parts (terms_are_written S (terms_tree f.args)) true h).0)
frames-pop S (g ∷ fs) f h =
    let p = and_parts (terms_are_written S (terms_tree g.args)) (frames_are_written S (fs ++ f ∷ [])) h in
    let k = frames-pop S fs f p.1 in
    (and_from (terms_are_written S (terms_tree g.args)) (frames_are_written S fs) p.0 k.0, k.1)

pub terms-push : (S : List Symbol) (ts : List Term) (v : Term) → IsTrue (terms_are_written S (terms_tree ts)) → IsTrue (term_is_written S v) → IsTrue (terms_are_written S (terms_tree (ts ++ v ∷ [])))
terms-push S [] v h k = and_from (term_is_written S v) true k refl
terms-push S (t ∷ ts) v h k =
    let p = and_parts (term_is_written S t) (terms_are_written S (terms_tree ts)) h in
    and_from (term_is_written S t) (terms_are_written S (terms_tree (ts ++ v ∷ []))) p.0 (terms-push S ts v p.1 k)

pub arity-push : (ts : List Term) (v : Term) → arity_of (terms_tree (ts ++ v ∷ [])) ≡ length ts + 1
arity-push [] v = refl
arity-push (t ∷ ts) v = ap suc (arity-push ts v) ∙ omega arith

args-push : (S : List Symbol) (ts : List Term) (v : Term) → args_front S (ts ++ v ∷ []) ≡ args_front S ts ++ (term_text S 0 v ++ 44 ∷ [])
args-push S [] v = refl
args-push S (t ∷ ts) v = ap (λ l. term_text S 0 t ++ 44 ∷ l) (args-push S ts v) ∙ sym (append_assoc (term_text S 0 t) (44 ∷ args_front S ts) (term_text S 0 v ++ 44 ∷ []))

more-push : (S : List Symbol) (ts : List Term) (v : Term) → more_args_text S 0 (terms_tree (ts ++ v ∷ [])) ≡ 44 ∷ (args_front S ts ++ (term_text S 0 v ++ 41 ∷ []))
more-push S [] v = refl
more-push S (t ∷ ts) v = ap (λ l. 44 ∷ (term_text S 0 t ++ l)) (more-push S ts v) ∙ ap (λ l. 44 ∷ l) (sym (append_assoc (term_text S 0 t) (44 ∷ args_front S ts) (term_text S 0 v ++ 41 ∷ [])))

closed-args : (S : List Symbol) (ts : List Term) (v : Term) → args_text S 0 (terms_tree (ts ++ v ∷ [])) ≡ 40 ∷ (args_front S ts ++ (term_text S 0 v ++ 41 ∷ []))
closed-args S [] v = refl
closed-args S (t ∷ ts) v = ap (λ l. 40 ∷ (term_text S 0 t ++ l)) (more-push S ts v) ∙ ap (λ l. 40 ∷ l) (sym (append_assoc (term_text S 0 t) (44 ∷ args_front S ts) (term_text S 0 v ++ 41 ∷ [])))

-- a comma after an argument
pub go-on : (S : List Symbol) (fs : List Frame) (f : Frame) (v : Term) (after : List ℕ) → stack_text S (fs ++ f ∷ []) ++ (term_text S 0 v ++ 44 ∷ after) ≡ stack_text S (fs ++ record { name = f.name; args = f.args ++ v ∷ [] } ∷ []) ++ after
go-on S fs f v after =
    rw (stack-push S fs f, stack-push S fs (record { name = f.name; args = f.args ++ v ∷ [] }), args-push S f.args v)
    (plain (stack_text S fs) (name_text f.name) (args_front S f.args) (term_text S 0 v) after)
  where
    plain : (s n a t r : List ℕ) → (s ++ (n ++ 40 ∷ a)) ++ (t ++ 44 ∷ r) ≡ (s ++ (n ++ 40 ∷ (a ++ (t ++ 44 ∷ [])))) ++ r
    plain s n a t r = simp append_assoc

-- the closing bracket of the innermost frame
pub go-out : (S : List Symbol) (fs : List Frame) (f : Frame) (v : Term) (id : ℕ) (after : List ℕ) → IsFunction S id f.name (length f.args + 1)
    → stack_text S (fs ++ f ∷ []) ++ (term_text S 0 v ++ 41 ∷ after) ≡ stack_text S fs ++ (term_text S 0 (fun id (terms_tree (f.args ++ v ∷ []))) ++ after)
go-out S fs f v id after h =
    rw (stack-push S fs f, function-text S id (length f.args + 1) f.name h, closed-args S f.args v)
    (plain (stack_text S fs) (name_text f.name) (args_front S f.args) (term_text S 0 v) after)
  where
    plain : (s n a t r : List ℕ) → (s ++ (n ++ 40 ∷ a)) ++ (t ++ 41 ∷ r) ≡ s ++ ((n ++ 40 ∷ (a ++ (t ++ 41 ∷ []))) ++ r)
    plain s n a t r = simp append_assoc

pub out-written : (S : List Symbol) (f : Frame) (v : Term) (id : ℕ) → IsFunction S id f.name (length f.args + 1) → IsTrue (terms_are_written S (terms_tree f.args)) → IsTrue (term_is_written S v) → IsTrue (term_is_written S (fun id (terms_tree (f.args ++ v ∷ []))))
out-written S f v id h k l =
    and_from (has_function S id (arity_of (terms_tree (f.args ++ v ∷ [])))) (terms_are_written S (terms_tree (f.args ++ v ∷ [])))
    (subst (λ n. IsTrue (has_function S id n)) (sym (arity-push f.args v)) (function-has S id (length f.args + 1) f.name h))
    (terms-push S f.args v k l)
