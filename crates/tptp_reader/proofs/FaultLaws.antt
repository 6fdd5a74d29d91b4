-- A text has at most one fault, and none where it is read.
use Rattle.std.proofs.Common.{◌≡◌, ℕ, Bool, List, [], ◌∷◌, ◌++◌, refl, sym, ◌∙◌, ap, append_assoc, append-nil, subst, length, slice_get}
use Rattle.std.proofs.lemmas.List.{map-append}
use Rattle.plain_laws.proofs.Lists.{same-last}
use Rattle.tptp_lex.proofs.AnswerLaws.{none-or-fault, next-or-none, next-or-fault}
use Rattle.tptp_lex.specs.Answers.{IsFault, OnlySpace}
use Rattle.tptp_reader.specs.declared.fault.ReadCause.{ReadCause}
use Rattle.tptp_reader.specs.declared.fault.ReadCause.TheVariants.{Syntax}
use Rattle.tptp_reader.specs.Terminals.{Terminal, Placed, terminals, Follow, no_token, a_token}
use Rattle.tptp_reader.specs.Faults.{Language, CanFollow, CanGoOn, IsWhole, Causes, IsTooDeep, AreShallow, Fault, wrong, too_deep, HasFault, at_token, at_no_token, at_end, at_depth}
use Rattle.tptp_reader.specs.Expecting.{Expected}
use Rattle.tptp_reader.proofs.Deriving.{derives-step}
use Rattle.tptp_reader.proofs.PlaceLaws.{Compared, alike, longer, shorter, compared, fault-alone, next-in}
use Rattle.tptp_reader.proofs.FollowLaws.{IsReadBy, derives-run, get-behind}

-- ---- lists

abbrev head_or : {A : Type 0} → A → List A → A
head_or d [] = d
head_or d (x ∷ xs) = x

abbrev tail_of : {A : Type 0} → List A → List A
tail_of [] = []
tail_of (x ∷ xs) = xs

pub terminals-append : (ps qs : List Placed) → terminals (ps ++ qs) ≡ terminals ps ++ terminals qs
terminals-append ps qs = map-append (λ (p : Placed). p.terminal) ps qs

-- ---- what is in a text of the language

-- the tokens begin a text of the language
pub record Begins (L : Language) (ts : List Terminal) : Type 0 where
  pub rest : List Terminal
  pub nestings : List ℕ
  pub whole : L (ts ++ rest) nestings

pub goes-begins : (L : Language) (ts : List Terminal) → CanGoOn L ts → Begins L ts
goes-begins L ts h = let f = h.1.1 in record { rest = h.0 ∷ f.0; nestings = f.1; whole = f.2 }

pub whole-begins : (L : Language) (ts : List Terminal) (ns : List ℕ) → L ts ns → Begins L ts
whole-begins L ts ns h = record { rest = []; nestings = ns; whole = subst (λ t. L t ns) (sym (append-nil ts)) h }

-- each token of a text follows those before it
pub begins-follows : (modal : Bool) (L : Language) (es : List Expected) → IsReadBy modal L es → (front back : List Terminal) (x : Terminal) → Begins L (front ++ x ∷ back) → CanFollow L front x
begins-follows modal L es m front back x b =
    let w : L (front ++ (x ∷ (back ++ b.rest))) b.nestings = subst (λ t. L t b.nestings) (append_assoc front (x ∷ back) b.rest) b.whole in
    let r = derives-run modal front es (x ∷ (back ++ b.rest)) b.nestings m.good (m.derived (front ++ x ∷ (back ++ b.rest)) b.nestings w) in
    let s = derives-step modal r.now x (back ++ b.rest) r.others r.good r.derived in
    let e : b.nestings ≡ r.before ++ s.now.0 ∷ s.others = r.nestings ∙ ap (λ o. r.before ++ o) s.nestings in
    (s.now.0, (back ++ b.rest, b.nestings, w, ap (λ l. slice_get b.nestings l) (sym r.as_long) ∙ ap (λ l. slice_get l (length r.before)) e ∙ get-behind r.before s.now.0 s.others))

pub deep-begins : (L : Language) (front : List Terminal) (x : Terminal) → IsTooDeep L front x → Begins L (front ++ x ∷ [])
deep-begins L front x h = let f = h.1 in record { rest = f.0; nestings = f.1; whole = subst (λ t. L t f.1) (sym (append_assoc front (x ∷ []) f.0)) f.2 }

-- ---- where reading halts

-- The tokens begin a text of the language, none is too deep, and the text goes on with no token that could follow.
pub record Halts (L : Language) (text : List ℕ) (from : ℕ) (front : List Placed) (to : ℕ) : Type 0 where
  pub there : Follow text from front to
  pub begins : Begins L (terminals front)
  pub shallow : AreShallow L (terminals front)
  pub blocked : (p : Placed) (back : List Placed) (end : ℕ) → Follow text to (p ∷ back) end → CanFollow L (terminals front) p.terminal → ⊥

pub record SameHalt (front : List Placed) (to : ℕ) (other : List Placed) (end : ℕ) : Type 0 where
  pub fronts : front ≡ other
  pub places : to ≡ end

-- what goes on behind the tokens could follow, where the longer list begins a text
beyond : (modal : Bool) (L : Language) (es : List Expected) → IsReadBy modal L es → (front ps back : List Placed) (p : Placed) → ps ≡ front ++ p ∷ back → Begins L (terminals ps) → CanFollow L (terminals front) p.terminal
beyond modal L es m front ps back p e b =
    begins-follows modal L es m (terminals front) (terminals back) p.terminal
    (subst (Begins L) (ap terminals e ∙ terminals-append front (p ∷ back)) b)

pub halts-alone : (modal : Bool) (L : Language) (es : List Expected) → IsReadBy modal L es → (text : List ℕ) (from : ℕ) (front other : List Placed) (to end : ℕ) → Halts L text from front to → Halts L text from other end → SameHalt front to other end
halts-alone modal L es m text from front other to end h k = by (compared h.there k.there)
  where
    by : Compared text front to other end → SameHalt front to other end
    by (alike e f) = record { fronts = e; places = f }
    by (longer q back e f) = absurd (h.blocked q back end f (beyond modal L es m front other back q e k.begins))
    by (shorter p back e f) = absurd (k.blocked p back to f (beyond modal L es m other front back p e h.begins))

-- where reading halts no token before is too deep
pub deep-or-halts : (modal : Bool) (L : Language) (es : List Expected) → IsReadBy modal L es → (text : List ℕ) (from : ℕ) (front other : List Placed) (p : Placed) (to end : ℕ) → Follow text from (front ++ p ∷ []) to → IsTooDeep L (terminals front) p.terminal → Halts L text from other end → ⊥
deep-or-halts modal L es m text from front other p to end f d h = by (compared f h.there)
  where
    here : (back : List Placed) → other ≡ front ++ p ∷ back → ⊥
    here back e = h.shallow (terminals front) (terminals back) p.terminal (ap terminals e ∙ terminals-append front (p ∷ back)) d

    by : Compared text (front ++ p ∷ []) to other end → ⊥
    by (alike e g) = here [] (sym e)
    by (longer q back e g) = here (q ∷ back) (e ∙ append_assoc front (p ∷ []) (q ∷ back))
    by (shorter q back e g) =
        h.blocked q back to g (beyond modal L es m other (front ++ p ∷ []) back q e (subst (Begins L) (sym (terminals-append front (p ∷ []))) (deep-begins L (terminals front) p.terminal d)))

-- the first token that is too deep is one alone
pub deep-alone : (L : Language) (text : List ℕ) (from : ℕ) (front other : List Placed) (p q : Placed) (to end : ℕ) → Follow text from (front ++ p ∷ []) to → AreShallow L (terminals front) → IsTooDeep L (terminals front) p.terminal
    → Follow text from (other ++ q ∷ []) end → AreShallow L (terminals other) → IsTooDeep L (terminals other) q.terminal → p ≡ q
deep-alone L text from front other p q to end f s d g t c = by (compared f g)
  where
    within : (xs ys back : List Placed) (x y : Placed) (z : Placed) → xs ++ x ∷ [] ≡ (ys ++ y ∷ []) ++ z ∷ back → (rest : List Placed) × (xs ≡ ys ++ y ∷ rest)
    within xs ys back x y z e = cut xs ys back x y z (e ∙ append_assoc ys (y ∷ []) (z ∷ back))
      where
        cut : (xs ys back : List Placed) (x y : Placed) (z : Placed) → xs ++ x ∷ [] ≡ ys ++ y ∷ z ∷ back → (rest : List Placed) × (xs ≡ ys ++ y ∷ rest)
        cut [] [] back x y z e = absurd (none-here (ap tail_of e))
          where
            none-here : [] ≡ z ∷ back → ⊥
            none-here k = cc
        cut [] (v ∷ ys) back x y z e = absurd (none-there ys (ap tail_of e))
          where
            none-there : (ys : List Placed) → [] ≡ ys ++ y ∷ z ∷ back → ⊥
            none-there [] k = cc
            none-there (w ∷ ws) k = cc
        cut (u ∷ xs) [] back x y z e = (xs, λ i. ap (head_or u) e i ∷ xs)
        cut (u ∷ xs) (v ∷ ys) back x y z e = let r = cut xs ys back x y z (ap tail_of e) in (r.0, λ i. ap (head_or u) e i ∷ r.1 i)

    by : Compared text (front ++ p ∷ []) to (other ++ q ∷ []) end → p ≡ q
    by (alike e k) = (same-last front other p q e).1
    by (longer z back e k) = let w = within other front back q p z e in absurd (t (terminals front) (terminals w.0) p.terminal (ap terminals w.1 ∙ terminals-append front (p ∷ w.0)) d)
    by (shorter z back e k) = let w = within front other back p q z e in absurd (s (terminals other) (terminals w.0) q.terminal (ap terminals w.1 ∙ terminals-append other (q ∷ w.0)) c)

-- ---- faults

-- what stands at the place where reading halts, for a fault
pub data Stuck (text : List ℕ) (L : Language) (C : Causes) (front : List Terminal) (to : ℕ) : Fault → Type 0 where
  a_wrong_token : (p : Placed) (end : ℕ) (cause : ReadCause) → Follow text to (p ∷ []) end → C front p.terminal cause → Stuck text L C front to (wrong p.at cause)
  no_token_there : (offset : ℕ) → IsFault text to offset → Stuck text L C front to (wrong offset Syntax)
  not_whole : (IsWhole L front → ⊥) → OnlySpace text to → Stuck text L C front to (wrong (length text) Syntax)

pub data Fate (text : List ℕ) (from : ℕ) (L : Language) (C : Causes) (f : Fault) : Type 0 where
  stops : (front : List Placed) (to : ℕ) → Halts L text from front to → CanGoOn L (terminals front) → Stuck text L C (terminals front) to f → Fate text from L C f
  sinks : (front : List Placed) (p : Placed) (to : ℕ) → f ≡ too_deep p.at → Follow text from (front ++ p ∷ []) to → AreShallow L (terminals front) → IsTooDeep L (terminals front) p.terminal → Fate text from L C f

pub record Parted (text : List ℕ) (from : ℕ) (ps qs : List Placed) (to : ℕ) : Type 0 where
  pub between : ℕ
  pub first : Follow text from ps between
  pub second : Follow text between qs to

pub parted : {text : List ℕ} (ps qs : List Placed) {from to : ℕ} → Follow text from (ps ++ qs) to → Parted text from ps qs to
parted [] qs {from} f = record { between = from; first = no_token from; second = f }
parted (p ∷ ps) qs (a_token from to t x _ n k s f) = let r = parted ps qs f in record { between = r.between; first = a_token from r.between t x ps n k s r.first; second = r.second }

pub same-next : {text : List ℕ} {from to end : ℕ} {p q : Placed} {ps qs : List Placed} → Follow text from (p ∷ ps) to → Follow text from (q ∷ qs) end → p ≡ q
same-next f g = by (compared f g)
  where
    by : {text : List ℕ} {to end : ℕ} {p q : Placed} {ps qs : List Placed} → Compared text (p ∷ ps) to (q ∷ qs) end → p ≡ q
    by {p = p} (alike e k) = ap (head_or p) e
    by {p = p} (longer z back e k) = sym (ap (head_or p) e)
    by {p = p} (shorter z back e k) = ap (head_or p) e

pub fate : (text : List ℕ) (from : ℕ) (L : Language) (C : Causes) (f : Fault) → HasFault text from L C f → Fate text from L C f
fate text from L C f (at_token front p to cause there shallow goes wrong_here c) =
    let r = parted front (p ∷ []) there in
    stops front r.between (record {
      there = r.first;
      begins = goes-begins L (terminals front) goes;
      shallow = shallow;
      blocked = λ q back end g k. wrong_here (subst (λ (z : Placed). CanFollow L (terminals front) z.terminal) (sym (same-next r.second g)) k);
    }) goes (a_wrong_token p to cause r.second c)
fate text from L C f (at_no_token front to offset there shallow goes none) =
    stops front to (record {
      there = there;
      begins = goes-begins L (terminals front) goes;
      shallow = shallow;
      blocked = λ q back end g k. let t = next-in g in next-or-fault text to t.0 offset t.1 none;
    }) goes (no_token_there offset none)
fate text from L C f (at_end front to there shallow goes part over) =
    stops front to (record {
      there = there;
      begins = goes-begins L (terminals front) goes;
      shallow = shallow;
      blocked = λ q back end g k. let t = next-in g in next-or-none text to t.0 t.1 over;
    }) goes (not_whole part over)
fate text from L C f (at_depth front p to there shallow deep) = sinks front p to refl there shallow deep

-- what stands at one place
stuck-alone : (text : List ℕ) (L : Language) (C : Causes) (front : List Terminal) (to : ℕ) (f g : Fault) → ((x : Terminal) (c d : ReadCause) → C front x c → C front x d → c ≡ d) → Stuck text L C front to f → Stuck text L C front to g → f ≡ g
stuck-alone text L C front to f g one (a_wrong_token p end c h k) (a_wrong_token q end2 d h2 k2) =
    let e = same-next h h2 in
    let s : c ≡ d = one p.terminal c d k (subst (λ (z : Placed). C front z.terminal d) (sym e) k2) in
    λ i. wrong (e i).at (s i)
stuck-alone text L C front to f g one (a_wrong_token p end c h k) (no_token_there offset n) = let t = next-in h in absurd (next-or-fault text to t.0 offset t.1 n)
stuck-alone text L C front to f g one (a_wrong_token p end c h k) (not_whole w o) = let t = next-in h in absurd (next-or-none text to t.0 t.1 o)
stuck-alone text L C front to f g one (no_token_there offset n) (a_wrong_token q end d h k) = let t = next-in h in absurd (next-or-fault text to t.0 offset t.1 n)
stuck-alone text L C front to f g one (no_token_there a n) (no_token_there b m) = ap (λ o. wrong o Syntax) (fault-alone text to a b n m)
stuck-alone text L C front to f g one (no_token_there a n) (not_whole w o) = absurd (none-or-fault text to a o n)
stuck-alone text L C front to f g one (not_whole w o) (a_wrong_token q end d h k) = let t = next-in h in absurd (next-or-none text to t.0 t.1 o)
stuck-alone text L C front to f g one (not_whole w o) (no_token_there b m) = absurd (none-or-fault text to b o m)
stuck-alone text L C front to f g one (not_whole w o) (not_whole w2 o2) = refl

pub fate-alone : (modal : Bool) (L : Language) (es : List Expected) → IsReadBy modal L es → (C : Causes) → ((front : List Terminal) (x : Terminal) (c d : ReadCause) → C front x c → C front x d → c ≡ d)
    → (text : List ℕ) (from : ℕ) (f g : Fault) → Fate text from L C f → Fate text from L C g → f ≡ g
fate-alone modal L es m C one text from f g (stops front to h v s) (stops other end k w t) =
    let e = halts-alone modal L es m text from front other to end h k in
    stuck-alone text L C (terminals front) to f g (one (terminals front)) s
    (subst (λ z. Stuck text L C (terminals front) z g) (sym e.places) (subst (λ (z : List Placed). Stuck text L C (terminals z) end g) (sym e.fronts) t))
fate-alone modal L es m C one text from f g (stops front to h v s) (sinks other q end e k t d) = absurd (deep-or-halts modal L es m text from other front q end to k d h)
fate-alone modal L es m C one text from f g (sinks front p to e k t d) (stops other end h v s) = absurd (deep-or-halts modal L es m text from front other p to end k d h)
fate-alone modal L es m C one text from f g (sinks front p to e k t d) (sinks other q end e2 k2 t2 d2) =
    e ∙ ap (λ (z : Placed). too_deep z.at) (deep-alone L text from front other p q to end k t d k2 t2 d2) ∙ sym e2

-- A text has at most one fault.
pub one-fault : (modal : Bool) (L : Language) (es : List Expected) → IsReadBy modal L es → (C : Causes) → ((front : List Terminal) (x : Terminal) (c d : ReadCause) → C front x c → C front x d → c ≡ d)
    → (text : List ℕ) (from : ℕ) (f g : Fault) → HasFault text from L C f → HasFault text from L C g → f ≡ g
one-fault modal L es m C one text from f g h k = fate-alone modal L es m C one text from f g (fate text from L C f h) (fate text from L C g k)
