-- `split` cuts a row, and moves the pointer past its first part. Assumes `Logic`.
use Prim.Native.Nat.{ℕ, ◌+◌, ◌*◌, ◌<◌, ◌≤◌, ◌^◌}
use native.Mathlib.Omega.{arith}
use mathlib.Core.Path.{◌≡◌, refl, sym, ap, subst, ◌∙◌}
use mathlib.Core.List.{List, [], ◌∷◌, ◌++◌}
use lib.ListN.{length, take, drop as rest, length-take, length-drop, take-append-drop}
use seplogic.Ra.Ura.{Ura}
use mir.Syntax.{Fn, w64}
use mir.MapTy.{inst_fn}
use mir.Val.{Val, vint}
use base.Logic.{SProp, ent, sep, never, id⊢}
use prog.Wp.{Env, WpFn}
use types.Logic.{Logic, sem}
use contract.Monad.{fact}
use contract.BorrowLft.{◌⊑◌}
use contract.Running.{tables}
use types.Kit.{Item, ‵, raw, ◌⊛◌, at_ret, ◌$◌, ◌∵◌, !, qed, move, drop, use0, use1, use3, split, rewrite, fsplit, fjoin, feq_i, feq_l, flt_i, flt_l, prop, regoal, suffices, frame, done}
use types.Part.{agg, whole, sub}
use types.Run.{and_then, no_more, stop, fld, of_opd, bin, size_word, first, blocks, exec, returns, enter}
use types.ByLocal.{alloc_all, pass_all, free_all, look_at, get, get_in, sets, sets_last, is, env}
use denote.Builtin.{usize}
use denote.Exit.{yes, no}
use denote.RattleType.{RattleType, owns}
use denote.RawPtr.{Ptr, block_ptr, in_a_block}
use denote.Signature.{plain}
use denote.Steps.{nothing, heard}
use denote.Struct.Tuple.{Tuple}
use denote.Triple.Entry.{alive}
use denote.Triple.Walked.{Stays, says, stay_dropped, walk_of, Goes-dropped}
use Rattle.std.proofs.raw_atomic.Walks.{leaves, proved_at}
use Rattle.core.proofs.alloc.Calls.{Goes-blank}
use Rattle.core.proofs.mem.Param.{El, R, args}
use Rattle.core.proofs.ptr.Rows.{times_below}
use Rattle.core.proofs.slots.Leases.{uncapped}
use Rattle.std_alloc.proofs.RcSteps.{word, word-Good}
use Rattle.std_alloc.proofs.VecSteps.Shapes.{after}
use Rattle.cop_cells.specs.Memory.{row_own, places_own}
use Rattle.cop_cells.proofs.Rows.{width, Place, beyond, cut}
use Rattle.cop_cells.proofs.Values.{PlacesRow, BaseRow, Blank, blank, blank-had, blank-made, pointer-had, pointer-made, triple, triple-made}
use Rattle.cop_cells.specs.contracts.block.Places.split as F
use Rattle.cop_cells.specs.contracts.block.Places.split.Key.{name as #self}
use Rattle.cop_cells.proofs.block.Places.split.Statement.{statement}
use Rattle.cop_cells.proofs.block.Places.split.Code as code

module _ (E : El) where
  abbrev function : Fn
  function = inst_fn (args E) code.function

  abbrev stayed : Stays (F.ended E.row).signature.params (F.ended E.row).kept
  stayed = (stay_dropped (plain (λ _. PlacesRow E)) no, (stay_dropped (plain (λ _. BaseRow E)) no, (stay_dropped (plain (λ _. usize)) yes, tt)))

  abbrev Owner : Type 0
  Owner = (PlacesRow E).Denot

  abbrev Pointer : Type 0
  Pointer = (BaseRow E).Denot

  abbrev Asks : Owner → Pointer → ℕ → Type 0
  Asks p base len = (base.ptr ≡ p.first) × (len ≤ length p.slots)

  abbrev Out : RattleType
  Out = Tuple (PlacesRow E ∷ BaseRow E ∷ PlacesRow E ∷ [])

  abbrev Splits : Owner → ℕ → Owner → Pointer → Owner → Type 0
  Splits p len q base r = (q.at ≡ p.at) × (q.start ≡ p.start) × (q.first ≡ p.first) × (q.slots ≡ take len p.slots)
      × (r.at ≡ p.at) × (r.start ≡ p.start + len) × (r.first ≡ base.ptr) × (r.slots ≡ rest len p.slots)

module _ (E : El) {M : Type 1} {𝓤 : Ura M} (𝓛 : Logic 𝓤) (b o n len : ℕ) (p next : Ptr) (cs : List (Place E)) where
  -- what one owns, as what two own
  halved : p ≡ block_ptr b (n * width E + o) → next ≡ block_ptr b ((n + len) * width E + o) → (n + length cs) * width E < 2 ^ 63 → len ≤ length cs
      → ent 𝓤 (sem 𝓛 (row_own (R E) b (n * width E + o) cs))
      (sep 𝓤 (sem 𝓛 (places_own (R E) (block_ptr b o) n p (take len cs))) (sem 𝓛 (places_own (R E) (block_ptr b o) (n + len) next (rest len cs))))
  halved begun on ends le =
      let w = width E in let long = length-take len cs in let left = length-drop len cs in
      let m : len ≡ length (take len cs) = omega (arith, long, le) in
      let low : n + length (take len cs) ≤ n + length cs = omega (arith, long) in
      let all : n + length cs ≡ (n + len) + length (rest len cs) = omega (arith, left, le) in
      qed 𝓛 (‵ (row_own (R E) b (n * w + o) cs) ∷ []) ∵
      rewrite ! 0 (λ (l : List (Place E)). ‵ (row_own (R E) b (n * w + o) l)) (sym (take-append-drop len cs)) refl $
      use1 𝓛 (‵ (row_own (R E) b (n * w + o) (take len cs)) ⊛ ‵ (row_own (R E) b ((n + len) * w + o) (rest len cs)))
      (cut E 𝓛 b (take len cs) (rest len cs) (n * w + o) ((n + len) * w + o) (beyond n len w o ∙ ap (λ k. k * w + (n * w + o)) m)) $ split ! $
      flt_i ! ((n + length (take len cs)) * w) (2 ^ 63) (times_below (n + length (take len cs)) (n + length cs) w (2 ^ 63) low ends) $ fjoin ! $
      feq_i ! Ptr p (block_ptr b (n * w + o)) begun $ fjoin ! $ move ! (1 ∷ []) $
      flt_i ! (((n + len) + length (rest len cs)) * w) (2 ^ 63) (subst (λ k. k * w < 2 ^ 63) all ends) $ fjoin ! $
      feq_i ! Ptr next (block_ptr b ((n + len) * w + o)) on $ fjoin ! $ move ! (1 ∷ 0 ∷ []) $ done !

pub split_spec : {M : Type 1} → statement M
split_spec 𝓤 𝓛 𝓜 𝓡 wired X L =
    let E : El = record { row = X; laws = L } in
    let T = F.ended X in let c = F.clauses X 𝓛 𝓜.mem 𝓡.returns in let W = walk_of 𝓛 T (stayed E) c in
    let 𝓣 = tables 𝓤 𝓛.H 𝓜 𝓡 𝓡.env in let C = 𝓣.C in let Λ = 𝓣.Λ in
    proved_at 𝓛 T (stayed E) c 𝓜 𝓡 (
      Goes-blank 𝓛 1 (plain (λ _. PlacesRow E)) no (λ κs x f. tt),
      (
        Goes-dropped 𝓛 1 (plain (λ _. BaseRow E)) no (λ κs x f. refl),
        (Goes-dropped 𝓛 1 (plain (λ _. usize)) yes (λ κs x f. refl), tt),
      ),
    )
    (#self (args E)) (function E) (code.unfolded 𝓤 𝓛.H 𝓜 𝓡 wired (X, tt))
    (λ y are.
    let p = y.0.3.0 in let base = y.0.3.1.0 in let len = y.0.3.1.1.0 in let us = y.0.4.0 in let vs = y.0.4.1.0 in let ws = y.0.4.1.1.0 in
    let live : Item 𝓤 = raw (alive 𝓛 T.signature y.0.0 y.0.1) in let w = width E in
    let run : List Val × List Val × List Val → SProp 𝓤 = λ z. WpFn 𝓤 𝓛.H C Λ (function E) (z.0 ++ (z.1 ++ (z.2 ++ []))) (W.post y) in
    qed 𝓛 ((live ⊛ ‵ (owns (PlacesRow E ∷ BaseRow E ∷ usize ∷ []) (p, (base, (len, tt))) (us, (vs, (ws, tt)))))
    ∷ (raw (fact 𝓤 (y.0.0.0 ⊑ X.lives)) ⊛ raw (fact 𝓤 (Asks E p base len))) ∷ []) ∵
    move ! (1 ∷ []) $ split ! $ drop ! $ heard ! _ (λ asked. split ! $ move ! (1 ∷ []) $
    fsplit ! $ fsplit ! $ blank-had E ! us (λ eu. move ! (1 ∷ []) $ fsplit ! $ pointer-had ! base.ptr vs (λ ev.
    fsplit ! $ fsplit ! $ feq_l ! (λ ew. flt_l ! (λ fits. drop ! $
    -- [what self owns; the token]
    in_a_block ! p.at (λ a. places_own (R E) a p.start p.first p.slots) (id⊢ 𝓤 (never 𝓤)) (λ b o e.
    fsplit ! $ feq_l ! (λ begun. fsplit ! $ flt_l ! (λ ends.
    let far : len * w < 2 ^ 64 = let h : len * w < 2 ^ 63 = times_below len (p.start + length p.slots) w (2 ^ 63) (let k = asked.1 in omega (arith, k)) ends in omega (arith, h) in
    let o₀ = p.start * w + o in let o₁ = len * w + o₀ in let next = block_ptr b o₁ in
    let on : next ≡ block_ptr b ((p.start + len) * w + o) = ap (block_ptr b) (sym (beyond p.start len w o)) in
    let q : Owner E = record { mark = p.mark; at = p.at; start = p.start; first = p.first; slots = take len p.slots } in
    let r : Owner E = record { mark = p.mark; at = p.at; start = p.start + len; first = next; slots = rest len p.slots } in
    let base' : Pointer E = record { ptr = next } in
    use1 𝓛 (‵ (places_own (R E) (block_ptr b o) q.start q.first q.slots) ⊛ ‵ (places_own (R E) (block_ptr b o) r.start r.first r.slots))
    (halved E 𝓛 b o p.start len p.first next p.slots begun on ends asked.1) $ split ! $
    regoal ! (λ (z : List Val × List Val × List Val). prop (run z)) (λ i. (eu i, (ev ∙ ap (λ a. word a ∷ []) (asked.0 ∙ begun)) i, ew i)) refl $
    enter ! _ _ _ _ _ $ alloc_all ! (λ l. pass_all ! refl ((tt, (tt, tt)), (word-Good [] (block_ptr b o₀), ((tt, record { fits = fits }), tt))) $
    let En : Env 𝓤 𝓛.H = env (function E).locals l in
    first ! $ blocks ! $
    sets ! (is ! (bin ! (get ! refl) (size_word !) (record { fits = subst (λ (k : ℕ). k < 2 ^ 64) (sym (uncapped len w far)) far })) (ap (vint w64) (uncapped len w far))) refl (tt, record { fits = far }) $
    sets_last ! (bin ! (get_in ! (fld ! refl (stop !)) (sub ! 0 refl (whole !))) (get ! refl) tt) refl (tt, tt) $
    exec ! C Λ En (after 1 (function E).body) (at_ret En (W.post y)) $
    sets ! (of_opd ! (get ! refl)) refl (tt, tt) $
    sets ! (agg ! (no_more !)) refl (tt, tt) $ sets ! (agg ! (and_then ! (get ! refl) (no_more !))) refl (tt, (tt, tt)) $
    sets ! (agg ! (and_then ! (get ! refl) (no_more !))) refl (word-Good [] next) $
    sets ! (agg ! (no_more !)) refl (tt, tt) $ sets ! (agg ! (and_then ! (get ! refl) (no_more !))) refl (tt, (tt, tt)) $
    sets ! (agg ! (and_then ! (get ! refl) (and_then ! (get ! refl) (and_then ! (get ! refl) (no_more !))))) refl (tt, ((tt, tt), ((tt, tt), ((tt, tt), tt)))) $
    rewrite ! 0 (λ (a : Ptr). ‵ (places_own (R E) a q.start q.first q.slots)) (sym e) refl $
    use0 𝓛 (‵ ((Blank E).own_val (tt, tt) (blank ∷ []))) (blank-made E 𝓛) $ fjoin ! $ move ! (1 ∷ []) $
    rewrite ! 0 (λ (a : Ptr). ‵ (places_own (R E) a r.start r.first r.slots)) (sym e) refl $
    use0 𝓛 (‵ ((Blank E).own_val (tt, tt) (blank ∷ []))) (blank-made E 𝓛) $ fjoin ! $
    pointer-made ! next $ move ! (2 ∷ 0 ∷ 1 ∷ []) $
    use3 𝓛 (‵ ((Out E).own_val (q, base', r) (triple blank (word next) blank ∷ []))) (triple-made 𝓛 (PlacesRow E) (BaseRow E) (PlacesRow E) q base' r blank (word next) blank) $
    returns ! (look_at ! 0 refl) $ free_all ! refl $
    suffices ! _ (leaves 𝓛 T (stayed E) c y (triple blank (word next) blank) (q, base', r) (tt, (tt, (tt, tt))) (tt, (tt, (tt, tt)))) $
    move ! (1 ∷ 0 ∷ []) $ frame ! $ nothing ! $ nothing ! $ fjoin ! $ nothing ! $ fjoin ! $ nothing ! $ fjoin ! $ frame ! $
    let told : Splits E p len q base' r = (refl, refl, refl, refl, refl, refl, refl, refl) in says ! told $ done !))))))))))
