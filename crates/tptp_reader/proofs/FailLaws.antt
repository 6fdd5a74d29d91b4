-- Where the way over a text goes wrong: from one token to the one before it, and from one answer to the next.
use Rattle.std.proofs.Common.{◌≡◌, ◌==◌, ℕ, Bool, true, false, List, [], ◌∷◌, ◌++◌, None, Some, Result, Ok, Err, inl, inr, refl, sym, ◌∙◌, ap, subst}
use Rattle.std.specs.Result.{IsErrAnd, IfErr}
use Rattle.std.proofs.lemmas.Bool.{false≢true}
use Rattle.std.proofs.lemmas.Result.{err_from_is_err_and}
use Rattle.tptp_reader.specs.declared.stop.Stop.{Stop}
use Rattle.tptp_reader.specs.declared.stop.Stop.TheVariants as stop
use Rattle.tptp_reader.specs.declared.terminal.Piece.{Piece}
use Rattle.tptp_reader.specs.Terminals.{Terminal, Follow}
use Rattle.tptp_reader.specs.TerminalView.{the_terminal}
use Rattle.tptp_reader.specs.Pieces.{placed}
use Rattle.tptp_reader.specs.Expecting.{Expected, Fixed, this, items, Move, form, form_of, this_move, is_optional, all_optional, move, moved, step}
use Rattle.tptp_reader.specs.Following.{is_open, is_shallow}
use Rattle.tptp_reader.specs.Failing.{Fails, at_token, at_depth, further, FailsAfter, FailsAt, fails_at, Missing, OnStacks, At, Behind, Settles, SettlesAt, SettlesTo, SettlesBehind, SettlesNext, dot_and_items, SettlesEnd, SettlesItem}

-- ---- stacks

-- a stack on which more than optional parts wait is not empty
pub busy-open : (es : List Expected) → all_optional es ≡ false → is_open es ≡ true
busy-open [] h = absurd (false≢true (sym h))
busy-open (e ∷ es) h = refl

-- ---- tokens

-- at the next token, so at the place before it
pub fails-next : {text : List ℕ} {from : ℕ} {q : Piece} (modal : Bool) (es : List Expected) → is_open es ≡ true → Follow text from (placed q ∷ []) q.end → FailsAt modal text es q → Fails modal text es from
fails-next {text} {from} {q} modal es o f (fails_at h) = by (step modal es (the_terminal q.terminal)) refl h
  where
    by : (m : Move) → step modal es (the_terminal q.terminal) ≡ m → FailsAfter modal text m q.end → Fails modal text es from
    by None e k = at_token es from (placed q) q.end f o e
    by (Some m) e (inl d) = at_depth es from (placed q) q.end m f e d
    by (Some m) e (inr k) = further es from (placed q) q.end m f e k

-- this token
pub fails-token : {text : List ℕ} {p : Piece} {x : Terminal} (modal : Bool) (es : List Expected) → the_terminal p.terminal ≡ x → FailsAfter modal text (step modal es x) p.end → FailsAt modal text es p
fails-token {text} {p} modal es e h = fails_at (subst (λ z. FailsAfter modal text (step modal es z) p.end) (sym e) h)

-- another stack on which the token does the same
pub fails-as : {text : List ℕ} {p : Piece} (modal : Bool) (es fs : List Expected) → step modal es (the_terminal p.terminal) ≡ step modal fs (the_terminal p.terminal) → FailsAt modal text es p → FailsAt modal text fs p
fails-as {text} {p} modal es fs e (fails_at h) = fails_at (subst (λ z. FailsAfter modal text z p.end) e h)

-- what the token does in the place of the first part
pub fails-none : {text : List ℕ} {p : Piece} (modal : Bool) (e : Expected) (es : List Expected) → is_optional e ≡ false → move modal e (the_terminal p.terminal) ≡ None → FailsAt modal text (e ∷ es) p
fails-none {text} {p} modal e es o n =
    let x : Terminal = the_terminal p.terminal in
    let k : step modal (e ∷ es) x ≡ None = ap (λ z. moved z (is_optional e) es (step modal es x)) n ∙ ap (λ z. moved None z es (step modal es x)) o in
    fails_at (subst (λ z. FailsAfter modal text z p.end) (sym k) tt)

pub fails-skip : {text : List ℕ} {p : Piece} (modal : Bool) (e : Expected) (es : List Expected) → is_optional e ≡ true → move modal e (the_terminal p.terminal) ≡ None → FailsAt modal text es p → FailsAt modal text (e ∷ es) p
fails-skip {text} {p} modal e es o n (fails_at h) =
    let x : Terminal = the_terminal p.terminal in
    let k : step modal (e ∷ es) x ≡ step modal es x = ap (λ z. moved z (is_optional e) es (step modal es x)) n ∙ ap (λ z. moved None z es (step modal es x)) o in
    fails_at (subst (λ z. FailsAfter modal text z p.end) (sym k) h)

pub fails-move : {text : List ℕ} {p : Piece} (modal : Bool) (e : Expected) (es : List Expected) (m : ℕ × List Expected) → move modal e (the_terminal p.terminal) ≡ Some m → Fails modal text (m.1 ++ es) p.end → FailsAt modal text (e ∷ es) p
fails-move {text} {p} modal e es m n h =
    let x : Terminal = the_terminal p.terminal in
    let k : step modal (e ∷ es) x ≡ Some (m.0, m.1 ++ es) = ap (λ z. moved z (is_optional e) es (step modal es x)) n in
    fails_at (subst (λ z. FailsAfter modal text z p.end) (sym k) (inr h))

pub fails-deep : {text : List ℕ} {p : Piece} (modal : Bool) (e : Expected) (es : List Expected) (m : ℕ × List Expected) → move modal e (the_terminal p.terminal) ≡ Some m → is_shallow m.0 ≡ false → FailsAt modal text (e ∷ es) p
fails-deep {text} {p} modal e es m n h =
    let x : Terminal = the_terminal p.terminal in
    let k : step modal (e ∷ es) x ≡ Some (m.0, m.1 ++ es) = ap (λ z. moved z (is_optional e) es (step modal es x)) n in
    fails_at (subst (λ z. FailsAfter modal text z p.end) (sym k) (inl h))

-- a part of one token: it fails at it, or behind it
abbrev pub IsSingle : Move → Type 0
IsSingle None = Unit {0}
IsSingle (Some m) = m.1 ≡ []

pub fails-single : {text : List ℕ} {p : Piece} (modal : Bool) (e : Expected) (es : List Expected) → is_optional e ≡ false → IsSingle (move modal e (the_terminal p.terminal)) → Fails modal text es p.end → FailsAt modal text (e ∷ es) p
fails-single {text} {p} modal e es o s h = by (move modal e (the_terminal p.terminal)) refl s
  where
    by : (m : Move) → move modal e (the_terminal p.terminal) ≡ m → IsSingle m → FailsAt modal text (e ∷ es) p
    by None k t = fails-none modal e es o k
    by (Some m) k t = fails-move modal e es m k (subst (λ z. Fails modal text (z ++ es) p.end) (sym t) h)

pub this-single : (b : Bool) (d : ℕ) → IsSingle (this_move b d)
this-single true d = refl
this-single false d = tt

-- a token of one form
pub fails-this : {text : List ℕ} {p : Piece} (modal : Bool) (k : Fixed) (d : ℕ) (es : List Expected) → Fails modal text es p.end → FailsAt modal text (this k d ∷ es) p
fails-this {text} {p} modal k d es h = fails-single modal (this k d) es refl (this-single (form (the_terminal p.terminal) == form_of k) d) h

pub fails-other : {text : List ℕ} {p : Piece} (modal : Bool) (k : Fixed) (d : ℕ) (es : List Expected) → (form (the_terminal p.terminal) == form_of k) ≡ false → FailsAt modal text (this k d ∷ es) p
fails-other {text} {p} modal k d es h = fails-none modal (this k d) es refl (ap (λ b. this_move b d) h)

-- ---- answers

missed : (P Q : Type 0) (s : Stop) → Missing P s → (P → Q) → Missing Q s
missed P Q stop.NotThere m k = k m
missed P Q stop.NoMemory m k = tt

-- a reader stops where the one that it called does
pub stops : {A : Type 0} (From : List Expected → Type 0) (parts : List Expected) (To : A → List Expected → Type 0) (P : Type 0) (r : Result A Stop) (s : Stop) → IsErrAnd r (λ z. z ≡ s) → Missing P s → (P → OnStacks (λ es. From (parts ++ es))) → Settles From parts To r
stops From parts To P r s e m k =
    let p = err_from_is_err_and r e in
    let h : r ≡ Err s = p.1 ∙ ap (λ z. Err z) p.2 in
    subst (λ z. Settles From parts To z) (sym h) (missed P (OnStacks (λ es. From (parts ++ es))) s m k)

pub stops-at : {A : Type 0} (modal : Bool) (text : List ℕ) (parts : List Expected) (p : Piece) (P : Type 0) (r : Result (A × Piece) Stop) (s : Stop) → IsErrAnd r (λ z. z ≡ s) → Missing P s → (P → OnStacks (λ es. FailsAt modal text (parts ++ es) p)) → SettlesAt modal text parts p r
stops-at {A} modal text parts p P r s e m k = stops (At modal text p) parts (λ (q : A × Piece). At modal text q.1) P r s e m k

pub stops-to : (modal : Bool) (text : List ℕ) (parts : List Expected) (p : Piece) (P : Type 0) (r : Result Piece Stop) (s : Stop) → IsErrAnd r (λ z. z ≡ s) → Missing P s → (P → OnStacks (λ es. FailsAt modal text (parts ++ es) p)) → SettlesTo modal text parts p r
stops-to modal text parts p P r s e m k = stops (At modal text p) parts (At modal text) P r s e m k

pub stops-behind : {A : Type 0} (modal : Bool) (text : List ℕ) (parts : List Expected) (from : ℕ) (P : Type 0) (r : Result (A × Piece) Stop) (s : Stop) → IsErrAnd r (λ z. z ≡ s) → Missing P s → (P → OnStacks (λ es. Fails modal text (parts ++ es) from)) → SettlesBehind modal text parts from r
stops-behind {A} modal text parts from P r s e m k = stops (Behind modal text from) parts (λ (q : A × Piece). At modal text q.1) P r s e m k

pub stops-next : (modal : Bool) (text : List ℕ) (parts : List Expected) (from : ℕ) (P : Type 0) (r : Result Piece Stop) (s : Stop) → IsErrAnd r (λ z. z ≡ s) → Missing P s → (P → OnStacks (λ es. Fails modal text (parts ++ es) from)) → SettlesNext modal text parts from r
stops-next modal text parts from P r s e m k = stops (Behind modal text from) parts (At modal text) P r s e m k

-- what a reader misses its caller misses
pub misses : {A : Type 0} (P Q : Type 0) (r : Result A Stop) (s : Stop) → IsErrAnd r (λ z. z ≡ s) → Missing P s → (P → Q) → IfErr r (Missing Q)
misses P Q r s e m k =
    let p = err_from_is_err_and r e in
    let h : r ≡ Err s = p.1 ∙ ap (λ z. Err z) p.2 in
    subst (λ z. IfErr z (Missing Q)) (sym h) (missed P Q s m k)

-- a reader answers what the one that it called does
pub passes : {A : Type 0} (From : List Expected → Type 0) (parts : List Expected) (Before : List Expected → Type 0) (others : List Expected) (To : A → List Expected → Type 0) (r : Result A Stop) → OnStacks (λ es. From (parts ++ es) → Before (others ++ es)) → Settles From parts To r → Settles Before others To r
passes From parts Before others To (Ok r) k h = λ es b t. k es b (h es b t)
passes From parts Before others To (Err stop.NotThere) k h = λ es b. k es b (h es b)
passes From parts Before others To (Err stop.NoMemory) k h = tt

pub passes-at : {A : Type 0} (modal : Bool) (text : List ℕ) (parts : List Expected) (q : Piece) (others : List Expected) (p : Piece) (r : Result (A × Piece) Stop) → OnStacks (λ es. FailsAt modal text (parts ++ es) q → FailsAt modal text (others ++ es) p) → SettlesAt modal text parts q r → SettlesAt modal text others p r
passes-at {A} modal text parts q others p r k h = passes (At modal text q) parts (At modal text p) others (λ (z : A × Piece). At modal text z.1) r k h

pub passes-behind : {A : Type 0} (modal : Bool) (text : List ℕ) (parts : List Expected) (q : Piece) (others : List Expected) (from : ℕ) (r : Result (A × Piece) Stop) → OnStacks (λ es. FailsAt modal text (parts ++ es) q → Fails modal text (others ++ es) from) → SettlesAt modal text parts q r → SettlesBehind modal text others from r
passes-behind {A} modal text parts q others from r k h = passes (At modal text q) parts (Behind modal text from) others (λ (z : A × Piece). At modal text z.1) r k h

pub passes-on : {A : Type 0} (modal : Bool) (text : List ℕ) (parts : List Expected) (from : ℕ) (others : List Expected) (p : Piece) (r : Result (A × Piece) Stop) → OnStacks (λ es. Fails modal text (parts ++ es) from → FailsAt modal text (others ++ es) p) → SettlesBehind modal text parts from r → SettlesAt modal text others p r
passes-on {A} modal text parts from others p r k h = passes (Behind modal text from) parts (At modal text p) others (λ (z : A × Piece). At modal text z.1) r k h

pub passes-to : (modal : Bool) (text : List ℕ) (parts : List Expected) (from : ℕ) (others : List Expected) (p : Piece) (r : Result Piece Stop) → OnStacks (λ es. Fails modal text (parts ++ es) from → FailsAt modal text (others ++ es) p) → SettlesNext modal text parts from r → SettlesTo modal text others p r
passes-to modal text parts from others p r k h = passes (Behind modal text from) parts (At modal text p) others (At modal text) r k h

pub passes-next : (modal : Bool) (text : List ℕ) (parts : List Expected) (from : ℕ) (others : List Expected) (before : ℕ) (r : Result Piece Stop) → OnStacks (λ es. Fails modal text (parts ++ es) from → Fails modal text (others ++ es) before) → SettlesNext modal text parts from r → SettlesNext modal text others before r
passes-next modal text parts from others before r k h = passes (Behind modal text from) parts (Behind modal text before) others (At modal text) r k h

-- ---- the ends of items

ends : {A : Type 0} (dot : A → Piece) (modal : Bool) (text : List ℕ) (parts : List Expected) (p : Piece) (P : Type 0) (r : Result A Stop) (s : Stop) → IsErrAnd r (λ z. z ≡ s) → Missing P s → (P → FailsAt modal text (parts ++ dot_and_items) p) → SettlesEnd dot modal text parts p r
ends dot modal text parts p P r s e m k =
    let q = err_from_is_err_and r e in
    let h : r ≡ Err s = q.1 ∙ ap (λ z. Err z) q.2 in
    subst (λ z. SettlesEnd dot modal text parts p z) (sym h) (missed P (FailsAt modal text (parts ++ dot_and_items) p) s m k)

pub ends-at : (modal : Bool) (text : List ℕ) (parts : List Expected) (p : Piece) (P : Type 0) (r : Result Piece Stop) (s : Stop) → IsErrAnd r (λ z. z ≡ s) → Missing P s → (P → FailsAt modal text (parts ++ dot_and_items) p) → SettlesEnd (λ q. q) modal text parts p r
ends-at modal text parts p P r s e m k = ends (λ q. q) modal text parts p P r s e m k

pub ends-with : {A : Type 0} (modal : Bool) (text : List ℕ) (parts : List Expected) (p : Piece) (P : Type 0) (r : Result (A × Piece) Stop) (s : Stop) → IsErrAnd r (λ z. z ≡ s) → Missing P s → (P → FailsAt modal text (parts ++ dot_and_items) p) → SettlesEnd (λ (q : A × Piece). q.1) modal text parts p r
ends-with {A} modal text parts p P r s e m k = ends (λ (q : A × Piece). q.1) modal text parts p P r s e m k

passes-end : {A : Type 0} (dot : A → Piece) (modal : Bool) (text : List ℕ) (parts : List Expected) (q : Piece) (others : List Expected) (p : Piece) (r : Result A Stop) → (FailsAt modal text (parts ++ dot_and_items) q → FailsAt modal text (others ++ dot_and_items) p) → SettlesEnd dot modal text parts q r → SettlesEnd dot modal text others p r
passes-end dot modal text parts q others p (Ok r) k h = λ t. k (h t)
passes-end dot modal text parts q others p (Err stop.NotThere) k h = k h
passes-end dot modal text parts q others p (Err stop.NoMemory) k h = tt

pub passes-end-at : (modal : Bool) (text : List ℕ) (parts : List Expected) (q : Piece) (others : List Expected) (p : Piece) (r : Result Piece Stop) → (FailsAt modal text (parts ++ dot_and_items) q → FailsAt modal text (others ++ dot_and_items) p) → SettlesEnd (λ z. z) modal text parts q r → SettlesEnd (λ z. z) modal text others p r
passes-end-at modal text parts q others p r k h = passes-end (λ z. z) modal text parts q others p r k h

pub passes-end-with : {A : Type 0} (modal : Bool) (text : List ℕ) (parts : List Expected) (q : Piece) (others : List Expected) (p : Piece) (r : Result (A × Piece) Stop) → (FailsAt modal text (parts ++ dot_and_items) q → FailsAt modal text (others ++ dot_and_items) p) → SettlesEnd (λ (z : A × Piece). z.1) modal text parts q r → SettlesEnd (λ (z : A × Piece). z.1) modal text others p r
passes-end-with {A} modal text parts q others p r k h = passes-end (λ (z : A × Piece). z.1) modal text parts q others p r k h

pub item-stops : {A : Type 0} (modal : Bool) (text : List ℕ) (p : Piece) (P : Type 0) (r : Result (A × Piece) Stop) (s : Stop) → IsErrAnd r (λ z. z ≡ s) → Missing P s → (P → FailsAt modal text (items ∷ []) p) → SettlesItem modal text p r
item-stops modal text p P r s e m k =
    let q = err_from_is_err_and r e in
    let h : r ≡ Err s = q.1 ∙ ap (λ z. Err z) q.2 in
    subst (λ z. SettlesItem modal text p z) (sym h) (missed P (FailsAt modal text (items ∷ []) p) s m k)

-- ---- options
