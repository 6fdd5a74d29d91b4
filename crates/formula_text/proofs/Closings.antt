-- What the open terms are after a further term.
use Rattle.std.proofs.Common.{◌≡◌, ℕ, ◌+◌, List, [], ◌∷◌, ◌++◌, IsTrue, append_assoc, refl, sym, ◌∙◌, ap, subst, length, drop}
use Rattle.std.proofs.lemmas.List.{length-append}
use Rattle.calculus.specs.Syntax.{Symbol, Term, fun}
use Rattle.calculus.specs.DerivationText.{IsTermAt, term_is_written, terms_are_written}
use Rattle.calculus.specs.Lists.{terms_tree}
use Rattle.calculus.specs.Text.{name_text, term_text}
use Rattle.formula_text.proofs.Frames.{frames-pop, frames-push, go-on, go-out, out-written, stack-push, terms-push}
use Rattle.formula_text.specs.Frames.{Frame, IsFunction, NoTerm, frames_are_written, stack_text}

abbrev pub new_frame : List ℕ → List Term → Frame
new_frame name args = record { name = name; args = args }

-- the frame with other arguments
abbrev pub with_args : Frame → List Term → Frame
with_args f args = new_frame f.name args

pub read-at : (S : List Symbol) (items stack : List Frame) (v : Term) (after next read : List ℕ) → items ≡ stack → after ≡ next → stack_text S items ++ (term_text S 0 v ++ after) ≡ read → stack_text S stack ++ (term_text S 0 v ++ next) ≡ read
read-at S items stack v after next read p q e = (λ i. stack_text S (sym p i) ++ (term_text S 0 v ++ sym q i)) ∙ e

-- a statement on the popped stack is one on the bytes that were read
pub none-at : (S : List Symbol) (items stack : List Frame) (v : Term) (after next read : List ℕ) → items ≡ stack → after ≡ next → stack_text S items ++ (term_text S 0 v ++ after) ≡ read
    → NoTerm S (stack_text S stack ++ (term_text S 0 v ++ next)) → NoTerm S read
none-at S items stack v after next read p q e h = subst (NoTerm S) (read-at S items stack v after next read p q e) h

one_more : (ts args : List Term) (v : Term) → args ≡ ts ++ v ∷ [] → length args ≡ length ts + 1
one_more ts args v e = ap length e ∙ length-append ts (v ∷ [])

-- a comma
pub further-read : (S : List Symbol) (fs pushed : List Frame) (f : Frame) (v : Term) (args : List Term) (after read : List ℕ) → args ≡ f.args ++ v ∷ [] → pushed ≡ fs ++ with_args f args ∷ []
    → stack_text S (fs ++ f ∷ []) ++ (term_text S 0 v ++ 44 ∷ after) ≡ read → read ≡ stack_text S pushed ++ after
further-read S fs pushed f v args after read p q e =
    sym e ∙ go-on S fs f v after ∙ (λ i. stack_text S (fs ++ with_args f (sym p i) ∷ []) ++ after) ∙ (λ i. stack_text S (sym q i) ++ after)

pub further-written : (S : List Symbol) (fs pushed : List Frame) (f : Frame) (v : Term) (args : List Term) → args ≡ f.args ++ v ∷ [] → pushed ≡ fs ++ with_args f args ∷ []
    → IsTrue (frames_are_written S (fs ++ f ∷ [])) → IsTrue (term_is_written S v) → IsTrue (frames_are_written S pushed)
further-written S fs pushed f v args p q h k =
    let parts = frames-pop S fs f h in
    subst (λ l. IsTrue (frames_are_written S l)) (sym q)
    (frames-push S fs (with_args f args) parts.0 (subst (λ l. IsTrue (terms_are_written S (terms_tree l))) (sym p) (terms-push S f.args v parts.1 k)))

-- the closing bracket of the innermost frame
pub out-read : (S : List Symbol) (fs : List Frame) (f : Frame) (v t : Term) (args : List Term) (id : ℕ) (after read : List ℕ) → args ≡ f.args ++ v ∷ [] → IsFunction S id f.name (length args) → t ≡ fun id (terms_tree args)
    → stack_text S (fs ++ f ∷ []) ++ (term_text S 0 v ++ 41 ∷ after) ≡ read → stack_text S fs ++ (term_text S 0 t ++ after) ≡ read
out-read S fs f v t args id after read p h q e =
    let k = subst (λ n. IsFunction S id f.name n) (one_more f.args args v p) h in
    (λ i. stack_text S fs ++ (term_text S 0 (q i) ++ after)) ∙ (λ i. stack_text S fs ++ (term_text S 0 (fun id (terms_tree (p i))) ++ after)) ∙ sym (go-out S fs f v id after k) ∙ e

pub whole-written : (S : List Symbol) (fs : List Frame) (f : Frame) (v t : Term) (args : List Term) (id : ℕ) → args ≡ f.args ++ v ∷ [] → IsFunction S id f.name (length args) → t ≡ fun id (terms_tree args)
    → IsTrue (frames_are_written S (fs ++ f ∷ [])) → IsTrue (term_is_written S v) → IsTrue (term_is_written S t)
whole-written S fs f v t args id p h q w k =
    let n = subst (λ n. IsFunction S id f.name n) (one_more f.args args v p) h in
    subst (λ u. IsTrue (term_is_written S u)) (sym (q ∙ ap (λ l. fun id (terms_tree l)) p)) (out-written S f v id n (frames-pop S fs f w).1 k)

-- ---- the loop over heads

-- a name and an opening bracket
pub open-read : (S : List Symbol) (bytes : List ℕ) (from place end : ℕ) (items pushed : List Frame) (name : List ℕ) (args : List Term) → args ≡ [] → pushed ≡ items ++ new_frame name args ∷ []
    → drop from bytes ≡ stack_text S items ++ drop place bytes → drop place bytes ≡ name_text name ++ 40 ∷ drop end bytes → drop from bytes ≡ stack_text S pushed ++ drop end bytes
open-read S bytes from place end items pushed name args p q e h =
    e ∙ ap (λ l. stack_text S items ++ l) h ∙ glue (stack_text S items) (name_text name) (drop end bytes) ∙ ap (λ l. l ++ drop end bytes) (sym (stack-push S items (new_frame name [])))
    ∙ (λ i. stack_text S (items ++ new_frame name (sym p i) ∷ []) ++ drop end bytes) ∙ (λ i. stack_text S (sym q i) ++ drop end bytes)
  where
    glue : (s n r : List ℕ) → s ++ (n ++ 40 ∷ r) ≡ (s ++ (n ++ 40 ∷ [])) ++ r
    glue s n r = simp append_assoc

pub open-written : (S : List Symbol) (items pushed : List Frame) (name : List ℕ) (args : List Term) → args ≡ [] → pushed ≡ items ++ new_frame name args ∷ [] → IsTrue (frames_are_written S items) → IsTrue (frames_are_written S pushed)
open-written S items pushed name args p q h =
    subst (λ l. IsTrue (frames_are_written S l)) (sym q) (frames-push S items (new_frame name args) h (subst (λ l. IsTrue (terms_are_written S (terms_tree l))) (sym p) refl))

pub no_term-at : (S : List Symbol) (bytes : List ℕ) (from : ℕ) → NoTerm S (drop from bytes) → (to : ℕ) (t : Term) → ¬ IsTermAt S bytes from to t
no_term-at S bytes from none to t h = none t (drop to bytes) h.written h.ends h.stands.there
