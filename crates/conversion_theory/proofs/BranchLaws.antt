-- Branches of a conversion: the turns that are done have left their results, each name is known by a turn that is done, and the next turn
-- keeps this.
use Rattle.std.proofs.Common.{◌≡◌, ◌⊎◌, ℕ, suc, List, [], ◌∷◌, ◌++◌, length, true, false, IsTrue, Some, refl, sym, ◌∙◌, ap, subst, inl, inr, slice_get, arith, append_assoc, length-append}
use Rattle.std.specs.List.{AllByRecursion}
use Rattle.std.proofs.lemmas.Option.{slice_get_within}
use Rattle.plain_laws.proofs.Places.{get-front}
use Rattle.calculus.specs.declared.sign.Sign.{Sign}
use Rattle.calculus.specs.declared.sign.Sign.TheVariants.{T, F}
use Rattle.calculus.specs.declared.setting.Logic.{Logic}
use Rattle.calculus.specs.declared.setting.Logic.TheVariants.{Intuitionistic}
use Rattle.calculus.specs.declared.kind.ModalPart.TheVariants.{Plain, Nu, Pi}
use Rattle.calculus.specs.Syntax.{Terms, Formula, atom, neg, conj, disj, imp, all, ex, box, dia, Problem}
use Rattle.calculus.specs.Ground.{GroundTerm, GroundMark, Value, term, GroundLiteral}
use Rattle.calculus.specs.Kinds.{Signed, signed, other, shape_of, modal_of}
use Rattle.calculus.specs.Positions.{size, Node, node}
use Rattle.calculus.specs.Instances.{grounds_of, Spot, down_by, GammaUse, Turn}
use Rattle.calculus.specs.Problems.{formula_fits}
use Rattle.calculus.specs.Tableaux.{Tableau}
use Rattle.conversion_theory.specs.Turns.{Name, turns_of, names_mentioned, names_introduced, IsParent, StandsBefore, IsAgenda}
pub use Rattle.conversion_theory.specs.Branches.{Item, item, landed, entry_of_item, entries_of}
use Rattle.calculus.proofs.Members.{Among, at-among, among-contains, contains-among, among-left, among-right, among-append}
use Rattle.conversion_theory.proofs.NumberLaws.{names_of_turn}
use Rattle.conversion_theory.proofs.HitLaws.{Moves, plain, by_string, by_character, turn, literal_at, IsSaturated}
use Rattle.conversion_theory.proofs.PlaceLaws.{Stood, Takes, nothing_more, one_term, Work, moves-position}
use Rattle.conversion_theory.proofs.AgendaLaws.{TurnOf, Anything, own-values, moves-values, takes-position}
use Rattle.conversion_theory.proofs.NumberedLaws.{MarksIn, IsKnownTerm, marks-in-more, known-list-more}
use Rattle.calculus.proofs.SpotLaws.{is_gamma}
use Rattle.conversion_theory.proofs.ExpandLaws.{IsExpanded, expanded-literal, expanded-only, expanded-pair, expanded-either}
use Rattle.conversion_theory.proofs.WorkLaws.{work-from, past-same, child-parent}

-- ---- what stands on a branch

abbrev pub Has : List Item → Spot → Sign → Formula → Type 0
Has items c s f = Among items (item c s f)

-- an atom without a modal part, or past it, is a literal
pub record Holding (l : Logic) (items : List Item) (x : GroundLiteral) : Type 0 where
  pub at : Item
  pub among : Among items at
  pub symbol : ℕ
  pub args : Terms
  pub formula : at.formula ≡ atom symbol args
  pub rest : (at.past ≡ true) ⊎ (modal_of l at.sign at.formula ≡ Plain)
  pub literal : x ≡ literal_at at.spot at.sign symbol args

-- the literals of the branch make the signed formula hold: all components of an alpha formula, or one of a beta formula. It has no part with a
-- modal part and no quantifier
abbrev pub Held : Logic → List Item → List GroundMark → List GroundTerm → Sign → Formula → Type 0
Held l items w env s (atom p ts) = (modal_of l s (atom p ts) ≡ Plain) × Holding l items (record { sign = s; symbol = p; args = grounds_of env ts; label = w })
Held l items w env s (neg a) = (modal_of l s (neg a) ≡ Plain) × Held l items w env (other s) a
Held l items w env T (conj a b) = Held l items w env T a × Held l items w env T b
Held l items w env F (conj a b) = Held l items w env F a ⊎ Held l items w env F b
Held l items w env T (disj a b) = Held l items w env T a ⊎ Held l items w env T b
Held l items w env F (disj a b) = Held l items w env F a × Held l items w env F b
Held l items w env T (imp a b) = (modal_of l T (imp a b) ≡ Plain) × (Held l items w env F a ⊎ Held l items w env T b)
Held l items w env F (imp a b) = (modal_of l F (imp a b) ≡ Plain) × Held l items w env T a × Held l items w env F b
Held l items w env s (all a) = ⊥
Held l items w env s (ex a) = ⊥
Held l items w env s (box a) = ⊥
Held l items w env s (dia a) = ⊥

-- it stands there, or is held
abbrev pub Meets : Logic → List Item → Spot → Sign → Formula → Type 0
Meets l items c s f = Has items c s f ⊎ Held l items c.label c.env s f

-- a turn that is done mentions the name or introduces it
pub record Known (P : Problem) (done : List Turn) (n : Name) : Type 0 where
  pub by : Turn
  pub among : Among done by
  pub name : Among (names_of_turn P by) n

pub record IsItem (P : Problem) (K : Name → Type 0) (i : Item) : Type 0 where
  pub place : i.past ≡ false → (before : List Node) × Stood P before i.spot i.sign i.formula
  pub env : AllByRecursion (IsKnownTerm K P) i.spot.env
  pub label : MarksIn K i.spot.label
  pub fits : IsTrue (formula_fits P.setting.logic P.symbols (length i.spot.env) i.formula)

-- the turns done have their results on the branch, and each name there is known
pub record IsBranch (P : Problem) (done : List Turn) (items : List Item) : Type 0 where
  pub each : (i : Item) → Among items i → IsItem P (Known P done) i
  pub saturated : IsSaturated P.setting.logic (Among done) (Meets P.setting.logic items) (Holding P.setting.logic items)

-- ---- more turns, more items

pub known-more : (P : Problem) (done : List Turn) (x : Turn) (n : Name) → Known P done n → Known P (done ++ x ∷ []) n
known-more P done x n k = record { by = k.by; among = among-left done (x ∷ []) k.by k.among; name = k.name }

pub known-here : (P : Problem) (done : List Turn) (x : Turn) (n : Name) → Among (names_of_turn P x) n → Known P (done ++ x ∷ []) n
known-here P done x n h = record { by = x; among = among-right done (x ∷ []) x (inl refl); name = h }

item-more : (P : Problem) (done : List Turn) (x : Turn) (i : Item) → IsItem P (Known P done) i → IsItem P (Known P (done ++ x ∷ [])) i
item-more P done x i h = record {
  place = h.place;
  env = known-list-more (Known P done) (Known P (done ++ x ∷ [])) (known-more P done x) P i.spot.env h.env;
  label = marks-in-more (Known P done) (Known P (done ++ x ∷ [])) (known-more P done x) i.spot.label h.label;
  fits = h.fits;
}

holding-more : (l : Logic) (items added : List Item) (x : GroundLiteral) → Holding l items x → Holding l (items ++ added) x
holding-more l items added x h = record { at = h.at; among = among-left items added h.at h.among; symbol = h.symbol; args = h.args; formula = h.formula; rest = h.rest; literal = h.literal }

held-more : (l : Logic) (items added : List Item) (w : List GroundMark) (env : List GroundTerm) (s : Sign) (f : Formula) → Held l items w env s f → Held l (items ++ added) w env s f
held-more l items added w env s (atom p ts) h = (h.0, holding-more l items added _ h.1)
held-more l items added w env s (neg a) h = (h.0, held-more l items added w env (other s) a h.1)
held-more l items added w env T (conj a b) h = (held-more l items added w env T a h.0, held-more l items added w env T b h.1)
held-more l items added w env F (conj a b) (inl h) = inl (held-more l items added w env F a h)
held-more l items added w env F (conj a b) (inr h) = inr (held-more l items added w env F b h)
held-more l items added w env T (disj a b) (inl h) = inl (held-more l items added w env T a h)
held-more l items added w env T (disj a b) (inr h) = inr (held-more l items added w env T b h)
held-more l items added w env F (disj a b) h = (held-more l items added w env F a h.0, held-more l items added w env F b h.1)
held-more l items added w env T (imp a b) h = (h.0, elim h.1 [ inl k ↦ inl (held-more l items added w env F a k) | inr k ↦ inr (held-more l items added w env T b k) ])
held-more l items added w env F (imp a b) h = (h.0, held-more l items added w env T a h.1, held-more l items added w env F b h.2)
held-more l items added w env s (all a) h = elim h [ ]
held-more l items added w env s (ex a) h = elim h [ ]
held-more l items added w env s (box a) h = elim h [ ]
held-more l items added w env s (dia a) h = elim h [ ]

meets-more : (l : Logic) (items added : List Item) (c : Spot) (s : Sign) (f : Formula) → Meets l items c s f → Meets l (items ++ added) c s f
meets-more l items added c s f (inl h) = inl (among-left items added (item c s f) h)
meets-more l items added c s f (inr h) = inr (held-more l items added c.label c.env s f h)

-- what is held has no modal part
plain-always : (l : Logic) (s : Sign) (a b : Formula) → (modal_of l s (conj a b) ≡ Plain) × (modal_of l s (disj a b) ≡ Plain)
plain-always Intuitionistic s a b = (refl, refl)
plain-always _ s a b = (refl, refl)

held-plain : (l : Logic) (items : List Item) (w : List GroundMark) (env : List GroundTerm) (s : Sign) (f : Formula) → Held l items w env s f → modal_of l s f ≡ Plain
held-plain l items w env s (atom p ts) h = h.0
held-plain l items w env s (neg a) h = h.0
held-plain l items w env T (conj a b) h = (plain-always l T a b).0
held-plain l items w env F (conj a b) h = (plain-always l F a b).0
held-plain l items w env T (disj a b) h = (plain-always l T a b).1
held-plain l items w env F (disj a b) h = (plain-always l F a b).1
held-plain l items w env T (imp a b) h = h.0
held-plain l items w env F (imp a b) h = h.0
held-plain l items w env s (all a) h = elim h [ ]
held-plain l items w env s (ex a) h = elim h [ ]
held-plain l items w env s (box a) h = elim h [ ]
held-plain l items w env s (dia a) h = elim h [ ]

pub moves-plain : (l : Logic) (s : Sign) (f : Formula) (c d : Spot) → modal_of l s f ≡ Plain → Moves l s f c d → d ≡ c
moves-plain l s f c d e (plain q) = refl
moves-plain l s f c d e (by_string w q g) = absurd (let z : Nu ≡ Plain = sym q ∙ e in cc)
moves-plain l s f c d e (by_character q) = absurd (let z : Pi ≡ Plain = sym q ∙ e in cc)

-- the results of a turn on what is held are held
held-here : (l : Logic) (items : List Item) (d : Spot) (s : Sign) (f : Formula) (x : Turn) → Held l items d.label d.env s f → IsExpanded l d s f x (Meets l items) (Holding l items)
held-here l items d s (atom p ts) x h = expanded-literal l d s (atom p ts) x (Meets l items) (Holding l items) refl (λ q us e. let at : p ≡ q = cc in let args : ts ≡ us = cc in subst (λ (y : GroundLiteral). Holding l items y) (λ i. record { sign = s; symbol = at i; args = grounds_of d.env (args i); label = d.label }) h.1)
held-here l items d s (neg a) x h = expanded-only l d s (neg a) x (Meets l items) (Holding l items) (signed (other s) a) refl refl (inr h.1)
held-here l items d T (conj a b) x h = expanded-pair l d T (conj a b) x (Meets l items) (Holding l items) (signed T a) (signed T b) refl refl (inr h.0) (inr h.1)
held-here l items d F (conj a b) x (inl h) = expanded-either l d F (conj a b) x (Meets l items) (Holding l items) (signed F a) (signed F b) refl refl (inl (inr h))
held-here l items d F (conj a b) x (inr h) = expanded-either l d F (conj a b) x (Meets l items) (Holding l items) (signed F a) (signed F b) refl refl (inr (inr h))
held-here l items d T (disj a b) x (inl h) = expanded-either l d T (disj a b) x (Meets l items) (Holding l items) (signed T a) (signed T b) refl refl (inl (inr h))
held-here l items d T (disj a b) x (inr h) = expanded-either l d T (disj a b) x (Meets l items) (Holding l items) (signed T a) (signed T b) refl refl (inr (inr h))
held-here l items d F (disj a b) x h = expanded-pair l d F (disj a b) x (Meets l items) (Holding l items) (signed F a) (signed F b) refl refl (inr h.0) (inr h.1)
held-here l items d T (imp a b) x h = expanded-either l d T (imp a b) x (Meets l items) (Holding l items) (signed F a) (signed T b) refl refl (elim h.1 [ inl k ↦ inl (inr k) | inr k ↦ inr (inr k) ])
held-here l items d F (imp a b) x h = expanded-pair l d F (imp a b) x (Meets l items) (Holding l items) (signed T a) (signed F b) refl refl (inr h.1) (inr h.2)
held-here l items d s (all a) x h = elim h [ ]
held-here l items d s (ex a) x h = elim h [ ]
held-here l items d s (box a) x h = elim h [ ]
held-here l items d s (dia a) x h = elim h [ ]

pub held-expanded : (l : Logic) (items : List Item) (c d : Spot) (s : Sign) (f : Formula) (x : Turn) → Held l items c.label c.env s f → Moves l s f c d → IsExpanded l d s f x (Meets l items) (Holding l items)
held-expanded l items c d s f x h m =
    let same = moves-plain l s f c d (held-plain l items c.label c.env s f h) m in
    held-here l items d s f x (subst (λ (e : Spot). Held l items e.label e.env s f) (sym same) h)

-- ---- places in the agenda

get-end : {A : Type 0} (xs ys : List A) (x : A) → slice_get (xs ++ x ∷ ys) (length xs) ≡ Some x
get-end [] ys x = refl
get-end (z ∷ xs) ys x = get-end xs ys x

-- ---- the next turn

-- the turn can be made where these are done: it is not done, none of them has it as its parent or mentions what it introduces
pub record IsReady (P : Problem) (t : Tableau) (done : List Turn) (x : Turn) : Type 0 where
  pub turns : (y : Turn) → Among done y → TurnOf P t y
  pub here : TurnOf P t x
  pub new : Among done x → ⊥
  pub parents : (y : Turn) → Among (done ++ x ∷ []) y → IsParent P x y → ⊥
  pub names : (y : Turn) (n : Name) → Among done y → Among (names_mentioned P y) n → Among (names_introduced P x) n → ⊥

-- nothing that is done, nor the turn itself, stands behind the turn in an agenda
not-behind : (P : Problem) (t : Tableau) (done todo : List Turn) (x y : Turn) → IsAgenda P t (done ++ x ∷ todo) → Among (done ++ x ∷ []) y → ((i : ℕ) → slice_get (done ++ x ∷ todo) i ≡ Some y → StandsBefore (done ++ x ∷ todo) i x) → ⊥
not-behind P t done todo x y ag h before =
    let at = at-among (done ++ x ∷ []) y h in
    let within = slice_get_within (done ++ x ∷ []) at.0 y at.1 in
    let long = length-append done (x ∷ []) in
    let here : slice_get (done ++ x ∷ todo) at.0 ≡ Some y = subst (λ zs. slice_get zs at.0 ≡ Some y) (append_assoc done (x ∷ []) todo) (get-front (done ++ x ∷ []) todo at.0 y at.1) in
    let b = before at.0 here in
    let same = ag.once b.0 (length done) x b.2 (get-end done todo x) in
    let lt = b.1 in
    absurd (omega arith)

-- the turns of an agenda are ready in its order
pub ready-in_agenda : (P : Problem) (t : Tableau) (done todo : List Turn) (x : Turn) → IsAgenda P t (done ++ x ∷ todo) → IsReady P t done x
ready-in_agenda P t done todo x ag = record {
  turns = λ y h. turn-of y (among-left done (x ∷ todo) y h);
  here = turn-of x (among-right done (x ∷ todo) x (inl refl));
  new = λ h.
      let at = at-among done x h in
      let within = slice_get_within done at.0 x at.1 in
      let same = ag.once at.0 (length done) x (get-front done (x ∷ todo) at.0 x at.1) (get-end done todo x) in
      absurd (omega arith);
  parents = λ y h p. not-behind P t done todo x y ag h (λ i e. ag.parents i y x e p);
  names = λ y n h m k. not-behind P t done todo x y ag (among-left done (x ∷ []) y h) (λ i e. ag.names i y x n e (contains-among (names_mentioned P y) n m) (contains-among (turns_of P t) x (turn-of x (among-right done (x ∷ todo) x (inl refl)))) (contains-among (names_introduced P x) n k));
}
  where
    turn-of : (y : Turn) → Among (done ++ x ∷ todo) y → TurnOf P t y
    turn-of y h = among-contains (turns_of P t) y ((ag.all y).1 (contains-among (done ++ x ∷ todo) y h))

-- each turn that is done has its parent done, and the turns that introduce what it mentions
pub record IsComplete (P : Problem) (t : Tableau) (done : List Turn) : Type 0 where
  pub turns : (y : Turn) → Among done y → TurnOf P t y
  pub parents : (y z : Turn) → Among done y → IsParent P z y → Among done z
  pub names : (y z : Turn) (n : Name) → Among done y → TurnOf P t z → Among (names_mentioned P y) n → Among (names_introduced P z) n → Among done z

-- so where a branch takes the turns in another order, any turn is ready that is not done, no parent of itself
pub ready-complete : (P : Problem) (t : Tableau) (done : List Turn) (x : Turn) → IsComplete P t done → TurnOf P t x → (Among done x → ⊥) → (IsParent P x x → ⊥) → IsReady P t done x
ready-complete P t done x c h new own = record {
  turns = c.turns;
  here = h;
  new = new;
  parents = λ y i p. elim (among-append done (x ∷ []) y i) [ inl k ↦ new (c.parents y x k p) | inr k ↦ elim k [ inl e ↦ own (subst (IsParent P x) (sym e) p) | inr q ↦ elim q [ ] ] ];
  names = λ y n i m k. new (c.names y x n i h m k);
}

-- no turn
pub complete-none : (P : Problem) (t : Tableau) → IsComplete P t []
complete-none P t = record { turns = λ y h. elim h [ ]; parents = λ y z h p. elim h [ ]; names = λ y z n h k m i. elim h [ ] }

-- one more turn, where its parent is done and the turns that introduce what it mentions
pub complete-more : (P : Problem) (t : Tableau) (done : List Turn) (x : Turn) → IsComplete P t done → TurnOf P t x → ((z : Turn) → IsParent P z x → Among done z) → ((z : Turn) (n : Name) → TurnOf P t z → Among (names_mentioned P x) n → Among (names_introduced P z) n → Among done z) → IsComplete P t (done ++ x ∷ [])
complete-more P t done x c here parents names = record {
  turns = λ y h. elim (among-append done (x ∷ []) y h) [ inl k ↦ c.turns y k | inr k ↦ elim k [ inl e ↦ subst (TurnOf P t) e here | inr q ↦ elim q [ ] ] ];
  parents = λ y z h p. among-left done (x ∷ []) z (elim (among-append done (x ∷ []) y h) [ inl k ↦ c.parents y z k p | inr k ↦ elim k [ inl e ↦ parents z (subst (IsParent P z) (sym e) p) | inr q ↦ elim q [ ] ] ]);
  names = λ y z n h k m i. among-left done (x ∷ []) z (elim (among-append done (x ∷ []) y h) [ inl j ↦ c.names y z n j k m i | inr j ↦ elim j [ inl e ↦ names z n k (subst (λ w. Among (names_mentioned P w) n) (sym e) m) i | inr q ↦ elim q [ ] ] ]);
}

-- ---- what the next turn leaves

-- what is added stands below the signed formula that the turn works on
pub record IsBelow (P : Problem) (before : List Node) (x : Turn) (i : Item) : Type 0 where
  pub stood : Stood P before i.spot i.sign i.formula
  pub values : i.spot.taken ≡ x.values

module _ (P : Problem) (t : Tableau) (G : GammaUse → Type 0) (V : Value → Type 0) (done : List Turn) (x : Turn) (ready : IsReady P t done x) (w : Work P (TurnOf P t) G V x) (items added : List Item) (b : IsBranch P done items)
    (new : (i : Item) → Among added i → IsItem P (Known P (done ++ x ∷ [])) i)
    (below : (i : Item) → Among added i → i.past ≡ false → IsBelow P (w.before ++ node w.past.position w.sign w.formula ∷ []) x i)
    (results : Has items w.from w.sign w.formula → IsExpanded P.setting.logic w.past w.sign w.formula x (Meets P.setting.logic (items ++ added)) (Holding P.setting.logic (items ++ added))) where
  -- a turn that is done, or the turn itself, works on no item that is added
  none-on-added : (c d : Spot) (s : Sign) (f : Formula) (y : Turn) → Among added (item c s f) → Moves P.setting.logic s f c d → Takes Anything (shape_of s f) d y → Among (done ++ x ∷ []) y → ⊥
  none-on-added c d s f y h m k i =
      let u = below (item c s f) h refl in
      let position = takes-position Anything (shape_of s f) d y k ∙ moves-position P.setting.logic s f c d m in
      let a = own-values Anything (shape_of s f) d y k in
      let e = moves-values P.setting.logic s f c d m in
      let values : y.values ≡ c.taken ++ (e.0 ++ a.0) = a.1 ∙ ap (λ vs. vs ++ a.0) e.1 ∙ append_assoc c.taken e.0 a.0 in
      let parent = child-parent P (TurnOf P t) G V x w c s f u.stood u.values y position (e.0 ++ a.0) values in
      ready.parents y i parent

  -- an old result, or that of the turn itself
  old-or-new : (c d : Spot) (s : Sign) (f : Formula) (y : Turn) → Meets P.setting.logic (items ++ added) c s f → Moves P.setting.logic s f c d → Takes Anything (shape_of s f) d y → Among (done ++ x ∷ []) y → (Meets P.setting.logic items c s f × Among done y) ⊎ IsExpanded P.setting.logic d s f y (Meets P.setting.logic (items ++ added)) (Holding P.setting.logic (items ++ added))
  old-or-new c d s f y (inr h) m k i = inr (held-expanded P.setting.logic (items ++ added) c d s f y h m)
  old-or-new c d s f y (inl h) m k i = elim (among-append items added (item c s f) h) [
    | inr n ↦ absurd (none-on-added c d s f y n m k i)
    | inl o ↦ elim (among-append done (x ∷ []) y i) [
      | inl p ↦ inl (inl o, p)
      | inr p ↦ elim p [
        | inr q ↦ elim q [ ]
        | inl q ↦ inr (own-turn o q)
      ]
    ]
  ]
    where
      own-turn : Has items c s f → x ≡ y → IsExpanded P.setting.logic d s f y (Meets P.setting.logic (items ++ added)) (Holding P.setting.logic (items ++ added))
      own-turn o q =
          let l = P.setting.logic in
          let place = (b.each (item c s f) o).place refl in
          let k' : Takes Anything (shape_of s f) d x = subst (Takes Anything (shape_of s f) d) (sym q) k in
          let position = takes-position Anything (shape_of s f) d x k' ∙ moves-position l s f c d m in
          let a = own-values Anything (shape_of s f) d x k' in
          let e = moves-values l s f c d m in
          let values : x.values ≡ c.taken ++ (e.0 ++ a.0) = a.1 ∙ ap (λ vs. vs ++ a.0) e.1 ∙ append_assoc c.taken e.0 a.0 in
          let same = work-from P (TurnOf P t) G V x w place.0 c s f place.1 position (e.0 ++ a.0) values in
          let o' : Has items w.from w.sign w.formula = subst (λ (j : Item). Among items j) (λ j. item (same.spots j) (same.signs j) (same.formulas j)) o in
          let moves' : Moves l w.sign w.formula w.from d = subst (λ (z : Item). Moves l z.sign z.formula z.spot d) (λ j. item (same.spots j) (same.signs j) (same.formulas j)) m in
          let takes' : Takes Anything (shape_of w.sign w.formula) d x = subst (λ (z : Item). Takes Anything (shape_of z.sign z.formula) d x) (λ j. item (same.spots j) (same.signs j) (same.formulas j)) k' in
          let pasts = past-same P G Anything w.before w.from w.past d w.sign w.formula x w.stood w.moves moves' w.takes takes' in
          subst (λ (z : Item). IsExpanded l z.spot z.sign z.formula y (Meets P.setting.logic (items ++ added)) (Holding l (items ++ added))) (λ j. item (pasts j) (sym same.signs j) (sym same.formulas j)) (subst (λ z. IsExpanded l w.past w.sign w.formula z (Meets P.setting.logic (items ++ added)) (Holding l (items ++ added))) q (results o'))

  grown-saturated : IsSaturated P.setting.logic (Among (done ++ x ∷ [])) (Meets P.setting.logic (items ++ added)) (Holding P.setting.logic (items ++ added))
  grown-saturated = record {
    literal = λ c d s p ts h m k. elim (old-or-new c d s (atom p ts) (turn d.position d.taken) h m (nothing_more refl) k) [ inl o ↦ holding-more P.setting.logic items added (literal_at d s p ts) (b.saturated.literal c d s p ts o.0 m o.1) | inr n ↦ n.literal p ts refl ];
    only = λ c d s f a e q h m k. elim (old-or-new c d s f (turn d.position d.taken) h m (nothing_more (ap is_gamma e)) k) [ inl o ↦ meets-more P.setting.logic items added _ _ _ (b.saturated.only c d s f a e q o.0 m o.1) | inr n ↦ n.only a e q ];
    left = λ c d s f a z e q h m k. elim (old-or-new c d s f (turn d.position d.taken) h m (nothing_more (ap is_gamma e)) k) [ inl o ↦ meets-more P.setting.logic items added _ _ _ (b.saturated.left c d s f a z e q o.0 m o.1) | inr n ↦ n.left a z e q ];
    right = λ c d s f a z e q h m k. elim (old-or-new c d s f (turn d.position d.taken) h m (nothing_more (ap is_gamma e)) k) [ inl o ↦ meets-more P.setting.logic items added _ _ _ (b.saturated.right c d s f a z e q o.0 m o.1) | inr n ↦ n.right a z e q ];
    either = λ c d s f a z e q h m k. elim (old-or-new c d s f (turn d.position d.taken) h m (nothing_more (ap is_gamma e)) k) [ inl o ↦ more (down_by 1 d) (down_by (suc (size a.formula)) d) a z (b.saturated.either c d s f a z e q o.0 m o.1) | inr n ↦ n.either a z e q ];
    gamma = λ c d s f a u e q h m k. elim (old-or-new c d s f (turn d.position (d.taken ++ term u ∷ [])) h m (one_term u e tt) k) [ inl o ↦ meets-more P.setting.logic items added _ _ _ (b.saturated.gamma c d s f a u e q o.0 m o.1) | inr n ↦ n.gamma a u e q refl ];
    delta = λ c d s f a e q h m k. elim (old-or-new c d s f (turn d.position d.taken) h m (nothing_more (ap is_gamma e)) k) [ inl o ↦ meets-more P.setting.logic items added _ _ _ (b.saturated.delta c d s f a e q o.0 m o.1) | inr n ↦ n.delta a e q ];
  }
    where
      more : (e g : Spot) (a z : Signed) → Meets P.setting.logic items e a.sign a.formula ⊎ Meets P.setting.logic items g z.sign z.formula → Meets P.setting.logic (items ++ added) e a.sign a.formula ⊎ Meets P.setting.logic (items ++ added) g z.sign z.formula
      more e g a z (inl h) = inl (meets-more P.setting.logic items added e a.sign a.formula h)
      more e g a z (inr h) = inr (meets-more P.setting.logic items added g z.sign z.formula h)

  -- the branch with the results of the next turn
  pub branch-grows : IsBranch P (done ++ x ∷ []) (items ++ added)
  branch-grows = record {
    each = λ i h. elim (among-append items added i h) [ inl o ↦ item-more P done x i (b.each i o) | inr n ↦ new i n ];
    saturated = grown-saturated;
  }
