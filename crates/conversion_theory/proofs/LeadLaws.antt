-- A conversion that its tableau leads, as it runs: each open branch has its task. One law for each thing that the run does.
use Rattle.std.proofs.Common.{◌≡◌, ◌⊎◌, ℕ, suc, List, [], ◌∷◌, ◌++◌, map, length, true, IsTrue, Some, refl, sym, ◌∙◌, ap, subst, inl, inr, slice_get}
use Rattle.std.specs.List.{AllByRecursion}
use Rattle.calculus.specs.declared.sign.Sign.TheVariants.{F}
use Rattle.calculus.specs.Syntax.{Problem}
use Rattle.calculus.specs.Ground.{Value, GroundLiteral}
use Rattle.calculus.specs.Instances.{root_spot, Turn, Share, ClauseInstance}
use Rattle.calculus.specs.ComputedInstances.{is_allowed_instance}
use Rattle.calculus.specs.Derivations.{Step, apply_to, no_term}
use Rattle.calculus.specs.Text.{is_number}
use Rattle.calculus.specs.Tableaux.{Tableau, instances, is_closed}
use Rattle.conversion_theory.specs.Turns.{Name, turns_of_instance, parent_position, last_but_one}
use Rattle.conversion_theory.specs.Numbering.{IsNumbering, number_of}
use Rattle.conversion_theory.specs.Branches.{Item, Made, rests, grows, splits, made}
use Rattle.conversion_theory.specs.Leading.{End, Task, whole_task}
use Rattle.calculus.proofs.Members.{Among, among-all, among-at, among-left, among-right, among-append, joined-among}
use Rattle.calculus.proofs.CasesLaws.{is_allowed_instance-exact}
use Rattle.conversion_theory.proofs.PlaceLaws.{root-stood}
use Rattle.conversion_theory.proofs.AgendaLaws.{TurnOf, stood-way}
use Rattle.conversion_theory.proofs.ClosedLaws.{Allowed, Admitted, turns-by_cases}
use Rattle.conversion_theory.proofs.BranchLaws.{Holding, IsReady, IsComplete}
use Rattle.conversion_theory.proofs.MadeLaws.{front_same}
use Rattle.conversion_theory.proofs.RunLaws.{Branch, branch, WorksOn, IsGood, IsRunning, Goes, run-made, run-skipped, own_item, work_of}
use Rattle.conversion_theory.proofs.TaskLaws.{AreEnds}
use Rattle.conversion_theory.proofs.FollowLaws.{AreMade}
use Rattle.conversion_theory.proofs.PartLaws.{IsPart, ArePart, made-part}
use Rattle.conversion_theory.proofs.LedLaws.{CanCome, come-ready, come-complete, AreLeft, made-more, IsTask, task-more}

-- an open branch with its task
pub record Led : Type 0 where
  pub branch : Branch
  pub task : Task

abbrev pub led : Branch → Task → Led
led b k = record { branch = b; task = k }

abbrev pub branches_of : List Led → List Branch
branches_of qs = map (λ (q : Led). q.branch) qs

module _ (P : Problem) (d : ℕ) (t : Tableau) (names : List Name) where
  pub record IsKept (q : Led) : Type 0 where
    pub task : IsTask P d t names q.branch q.task
    pub left : AreLeft P t names q.branch
    pub complete : IsComplete P t q.branch.done

  -- the invariant
  pub record IsLed (steps : List Step) (qs : List Led) : Type 0 where
    pub run : IsRunning P t names steps (branches_of qs)
    pub kept : AllByRecursion IsKept qs

  -- the run after the turn x on the item at the place n of the first branch, whose task stays
  abbrev pub LedGoes : List Step → Branch → Task → List Led → Turn → ℕ → Made → Type 0
  LedGoes steps b k qs x n rests = IsLed steps (led (branch b.items (b.done ++ x ∷ [])) k ∷ qs)
  LedGoes steps b k qs x n (grows m u added) = IsLed (steps ++ apply_to (suc n) m u ∷ []) (led (branch (b.items ++ added) (b.done ++ x ∷ [])) k ∷ qs)
  LedGoes steps b k qs x n (splits m i j) = IsLed (steps ++ apply_to (suc n) m no_term ∷ []) (led (branch (b.items ++ i ∷ []) (b.done ++ x ∷ [])) k ∷ led (branch (b.items ++ j ∷ []) (b.done ++ x ∷ [])) k ∷ qs)

  module _ (shut : IsTrue (is_closed P d t)) (numbering : IsNumbering P t names) (long : IsTrue (is_number (length names))) where
    -- the results of the turn x on the item i stand, and nothing that is done works on what is added
    left-after : (b : Branch) (x : Turn) (ready : IsReady P t b.done x) → IsGood P t names b → AreLeft P t names b → (i : Item) → Among b.items i → (own : List Value) → WorksOn P t names x i own → (items : List Item) → ((j : Item) → Among b.items j → Among items j) → ((j : Item) → Among items j → Among b.items j ⊎ IsPart P x j) → AreMade items (made (number_of names) P.setting.logic i.spot i.sign i.formula own) → AreLeft P t names (branch items (b.done ++ x ∷ []))
    left-after b x ready good left i there own on items old new stands y h j g mine works = elim (new j g) [
      | inr part ↦ absurd (ready.parents y h (part works.0 y mine (sym works.1) works.2))
      | inl o ↦ elim (among-append b.done (x ∷ []) y h) [
        | inl e ↦ made-more b.items items (made (number_of names) P.setting.logic j.spot j.sign j.formula mine) old (left y e j o mine works)
        | inr e ↦ elim e [
          | inr none ↦ elim none [ ]
          | inl same ↦
              let again : WorksOn P t names x j mine = subst (λ z. WorksOn P t names z j mine) (sym same) works in
              let item_same : i ≡ j = own_item P t names d shut numbering long b x ready good i there own on ∙ sym (own_item P t names d shut numbering long b x ready good j o mine again) in
              let values_same : own ≡ mine = front_same i.spot.taken own mine (sym on.2 ∙ again.2 ∙ ap (λ (z : Item). z.spot.taken ++ mine) (sym item_same)) in
              subst (λ (z : Item). AreMade items (made (number_of names) P.setting.logic z.spot z.sign z.formula mine)) item_same (subst (λ vs. AreMade items (made (number_of names) P.setting.logic i.spot i.sign i.formula vs)) values_same stands)
        ]
      ]
    ]

    -- what is made stands below the turn
    part_of : (b : Branch) (x : Turn) (ready : IsReady P t b.done x) → IsGood P t names b → (i : Item) → Among b.items i → (own : List Value) → WorksOn P t names x i own → ArePart P x (made (number_of names) P.setting.logic i.spot i.sign i.formula own)
    part_of b x ready good i there own on =
        let w = work_of P t names d shut numbering long b.done x ready in
        let same = own_item P t names d shut numbering long b x ready good i there own on in
        let values : x.values ≡ w.from.taken ++ own = on.2 ∙ ap (λ (j : Item). j.spot.taken ++ own) same in
        subst (λ (j : Item). ArePart P x (made (number_of names) P.setting.logic j.spot j.sign j.formula own)) (sym same) (made-part P (number_of names) (TurnOf P t) (Allowed P) (Admitted P) x w own values)

    among-added : (items added : List Item) (x : Turn) → AllByRecursion (IsPart P x) added → (j : Item) → Among (items ++ added) j → Among items j ⊎ IsPart P x j
    among-added items added x h j g = elim (among-append items added j g) [ inl o ↦ inl o | inr n ↦ inr (among-all (IsPart P x) added j h n) ]

    all-there : (items added : List Item) → AllByRecursion (Among (items ++ added)) added
    all-there items added = each added (λ j h. among-right items added j h)
      where
        each : (js : List Item) → ((j : Item) → Among js j → Among (items ++ added) j) → AllByRecursion (Among (items ++ added)) js
        each [] f = tt
        each (j ∷ js) f = (f j (inl refl), each js (λ i h. f i (inr h)))

    kept-after : (b : Branch) (k : Task) (x : Turn) (items : List Item) → IsKept (led b k) → CanCome P t b.done x → ((j : Item) → Among b.items j → Among items j) → AreLeft P t names (branch items (b.done ++ x ∷ [])) → IsKept (led (branch items (b.done ++ x ∷ [])) k)
    kept-after b k x items h come old left = record {
      task = task-more P d t names b (branch items (b.done ++ x ∷ [])) k old (λ y m. among-left b.done (x ∷ []) y m) h.task;
      left = left;
      complete = come-complete P t b.done x h.complete come;
    }

    -- a turn that can come is made on the item at the place n
    pub led-made : (steps : List Step) (b : Branch) (k : Task) (qs : List Led) → IsLed steps (led b k ∷ qs) → (x : Turn) → CanCome P t b.done x → (n : ℕ) (i : Item) → slice_get b.items n ≡ Some i → is_number (suc n) ≡ true → (own : List Value) → WorksOn P t names x i own → LedGoes steps b k qs x n (made (number_of names) P.setting.logic i.spot i.sign i.formula own)
    led-made steps b k qs h x come n i at number own on =
        let ready = come-ready P t b.done x h.kept.0.complete come in
        let good = h.run.good.0 in
        let there = among-at b.items n i at in
        after (made (number_of names) P.setting.logic i.spot i.sign i.formula own)
        (run-made P t names d shut numbering long steps b (branches_of qs) h.run x ready n i at number own on)
        (part_of b x ready good i there own on)
        (λ items old new stands. kept-after b k x items h.kept.0 come old (left-after b x ready good h.kept.0.left i there own on items old new stands))
      where
        after : (m : Made) → Goes P t names steps b (branches_of qs) x n m → ArePart P x m → ((items : List Item) → ((j : Item) → Among b.items j → Among items j) → ((j : Item) → Among items j → Among b.items j ⊎ IsPart P x j) → AreMade items m → IsKept (led (branch items (b.done ++ x ∷ [])) k)) → LedGoes steps b k qs x n m
        after rests r parts kept = record { run = r; kept = (kept b.items (λ j m. m) (λ j m. inl m) tt, h.kept.1) }
        after (grows m u added) r parts kept = record { run = r; kept = (kept (b.items ++ added) (λ j g. among-left b.items added j g) (among-added b.items added x parts) (all-there b.items added), h.kept.1) }
        after (splits m p q) r parts kept = record {
          run = r;
          kept = (
            kept (b.items ++ p ∷ []) (λ j g. among-left b.items (p ∷ []) j g) (among-added b.items (p ∷ []) x (parts.0, tt)) (inl (among-right b.items (p ∷ []) p (inl refl))),
            (kept (b.items ++ q ∷ []) (λ j g. among-left b.items (q ∷ []) j g) (among-added b.items (q ∷ []) x (parts.1, tt)) (inr (among-right b.items (q ∷ []) q (inl refl))), h.kept.1),
          );
        }

    -- a turn that can come works on no item of the branch
    pub led-skipped : (steps : List Step) (b : Branch) (k : Task) (qs : List Led) → IsLed steps (led b k ∷ qs) → (x : Turn) → CanCome P t b.done x → ((i : Item) → Among b.items i → (own : List Value) → WorksOn P t names x i own → ⊥) → IsLed steps (led (branch b.items (b.done ++ x ∷ [])) k ∷ qs)
    led-skipped steps b k qs h x come none = record {
      run = run-skipped P t names d shut numbering long steps b (branches_of qs) h.run x (come-ready P t b.done x h.kept.0.complete come) none;
      kept = (kept-after b k x b.items h.kept.0 come (λ j m. m) left, h.kept.1);
    }
      where
        left : AreLeft P t names (branch b.items (b.done ++ x ∷ []))
        left y g j m own on = elim (among-append b.done (x ∷ []) y g) [
          | inl e ↦ h.kept.0.left y e j m own on
          | inr e ↦ elim e [ inl same ↦ absurd (none j m own (subst (λ z. WorksOn P t names z j own) (sym same) on)) | inr q ↦ elim q [ ] ]
        ]

    -- ---- at a literal

    -- an instance of the tableau from its root
    pub whole-task : (b : Branch) (i : ClauseInstance) → Among (instances t) i → IsTrue (is_allowed_instance P i) → IsGood P t names b → (es : List End) (path : List GroundLiteral) → AreEnds P t d path i.literals es → AllByRecursion (Holding P.setting.logic b.items) path → (x : Share) × IsTask P d t names b (whole_task P x es path) × (x.turns ≡ turns_of_instance P i)
    whole-task b i inside allowed good es path ends held =
        let share = (is_allowed_instance-exact P i).0 allowed in
        let same = turns-by_cases P i share.0 share.1 share.2 in (
          share.0,
          record {
            before = [];
            gives = share.1.instance.given;
            stood = root-stood P;
            parent = inl refl;
            ends = subst (λ (c : ClauseInstance). AreEnds P t d path c.literals es) share.2 ends;
            turns = λ y m. joined-among (turns_of_instance P) (instances t) i y inside (subst (λ ts. Among ts y) (sym same) m);
            stands = good.root;
            path = held;
            above = λ z own p v. inr (ap (parent_position P) p ∙ ap last_but_one (stood-way P [] root_spot F P.formula (root-stood P)));
          },
          sym same,
        )
