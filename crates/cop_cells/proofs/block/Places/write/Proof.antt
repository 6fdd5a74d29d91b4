-- `write` takes one place out of its row, and puts it back with another value. Assumes `Logic`.
use Prim.Native.Nat.{ℕ, ◌+◌, ◌*◌, ◌<◌, ◌^◌}
use native.Mathlib.Omega.{arith}
use mathlib.Core.Path.{◌≡◌, refl, sym, ap, subst, ◌∙◌}
use mathlib.Core.List.{List, [], ◌∷◌, ◌++◌}
use lib.ListN.{length, set, get_or, length-set}
use base.Fraction.{full_share}
use mir.Syntax.{Fn, named, w64}
use mir.MapTy.{inst_fn}
use mir.Val.{Val, vint, vptr, vunit}
use base.Logic.{SProp, never, id⊢}
use base.Fml.{ftrue, fat, flft}
use prog.Wp.{Env, WpFn}
use contract.Monad.{fact}
use contract.BorrowLft.{◌⊑◌}
use contract.Running.{tables}
use types.Kit.{Item, ‵, raw, ◌⊛◌, at_ret, ◌$◌, ◌∵◌, !, qed, move, keep, drop, use1, use2, split, join, rewrite, fsplit, fsplit3, fjoin, fjoin3, feq_i, feq_l, flt_i, flt_l, prop, regoal, suffices, frame, done}
use types.Part.{whole, sub}
use types.Run.{init, stop, fld, unit_lit, of_opd, bin, size_word, assigns_last, first, blocks, exec, returns, enter}
use types.ByLocal.{alloc_all, pass_all, free_all, look_at, get, get_in, through, take_at, give_at, sets, is, env}
use denote.Builtin.{usize, unit}
use denote.Exit.{yes, no}
use denote.RattleType.{owns}
use denote.Param.{layout}
use denote.RawPtr.{Ptr, block_ptr, in_a_block}
use denote.Ref.{MutRef}
use denote.Signature.{plain}
use denote.Steps.{nothing, heard, opens, closes}
use denote.Triple.Entry.{alive}
use denote.Triple.Walked.{Stays, says, stay_dropped, stay_ref, walk_of, Goes-dropped, Goes-ref}
use borrow.Table.OneValue.{part_in}
use Rattle.std.specs.Prelude.{Some, None}
use Rattle.std.proofs.raw_atomic.Walks.{leaves, proved_at}
use Rattle.core.proofs.mem.Param.{El, R, args, elτ}
use Rattle.core.proofs.ptr.Rows.{times_below}
use Rattle.core.proofs.slots.Leases.{uncapped}
use Rattle.std_alloc.proofs.RawLayout.{as_written}
use Rattle.std_alloc.proofs.RcSteps.{word, word-Good}
use Rattle.std_alloc.proofs.VecSteps.Shapes.{after}
use Rattle.cop_cells.specs.Memory.{place_own, row_own, places_own}
use Rattle.cop_cells.proofs.Rows.{width, Others, place-out, place-in, forget}
use Rattle.cop_cells.proofs.Values.{PlacesRow, BaseRow, pointer-had, item-had}
use Rattle.cop_cells.specs.contracts.block.Places.write as F
use Rattle.cop_cells.specs.contracts.block.Places.write.Key.{name as #self}
use Rattle.cop_cells.proofs.block.Places.write.Statement.{statement}
use Rattle.cop_cells.proofs.block.Places.write.Code as code

module _ (E : El) where
  abbrev function : Fn
  function = inst_fn (args E) code.function

  abbrev stayed : Stays (F.ended E.row).signature.params (F.ended E.row).kept
  stayed = (
    stay_ref (0 ∷ []) tt (plain (λ _. PlacesRow E)),
    (
      stay_dropped (plain (λ _. BaseRow E)) no,
      (stay_dropped (plain (λ _. usize)) yes, (stay_dropped (plain (λ _. R E)) no, tt)),
    ),
  )

  abbrev Owner : Type 0
  Owner = (PlacesRow E).Denot

  abbrev Asks : Owner → (BaseRow E).Denot → ℕ → Type 0
  Asks p base index = (base.ptr ≡ p.first) × (index < length p.slots)

  abbrev Writes : Owner → ℕ → (R E).Denot → Owner → Type 0
  Writes p index item q = (q.at ≡ p.at) × (q.start ≡ p.start) × (q.first ≡ p.first) × (q.slots ≡ set p.slots index (Some item))

pub write_spec : {M : Type 1} → statement M
write_spec 𝓤 𝓛 𝓜 𝓡 wired X L =
    let E : El = record { row = X; laws = L } in
    let T = F.ended X in let c = F.clauses X 𝓛 𝓜.mem 𝓡.returns in let W = walk_of 𝓛 T (stayed E) c in
    let 𝓣 = tables 𝓤 𝓛.H 𝓜 𝓡 𝓡.env in let C = 𝓣.C in let Λ = 𝓣.Λ in
    proved_at 𝓛 T (stayed E) c 𝓜 𝓡 (
      Goes-ref 𝓛 2 0 tt (plain (λ _. PlacesRow E)),
      (
        Goes-dropped 𝓛 2 (plain (λ _. BaseRow E)) no (λ κs x f. refl),
        (Goes-dropped 𝓛 2 (plain (λ _. usize)) yes (λ κs x f. refl), (Goes-dropped 𝓛 2 (plain (λ _. R E)) no (λ κs x f. refl), tt)),
      ),
    )
    (#self (args E)) (function E) (code.unfolded 𝓤 𝓛.H 𝓜 𝓡 wired (X, tt))
    (λ y are.
    let κ = y.0.0.0 in let self = y.0.3.0 in let p = self.now in let base = y.0.3.1.0 in let index = y.0.3.1.1.0 in let item = y.0.3.1.1.1.0 in
    let us = y.0.4.0 in let vs = y.0.4.1.0 in let ws = y.0.4.1.1.0 in let xs = y.0.4.1.1.1.0 in
    let rb = self.ref_ptr.0 in let ro = self.ref_ptr.1 in let w = width E in
    let token : Item 𝓤 = ‵ (flft κ y.0.1.0) in let other : Item 𝓤 = ‵ (flft y.0.0.1.0 y.0.1.1.0) ⊛ ‵ ftrue in
    let run : List Val × List Val × List Val × List Val → SProp 𝓤 = λ z. WpFn 𝓤 𝓛.H C Λ (function E) (z.0 ++ (z.1 ++ (z.2 ++ (z.3 ++ [])))) (W.post y) in
    qed 𝓛 (((token ⊛ other) ⊛ ‵ (owns (MutRef (named 0) κ (PlacesRow E) ∷ BaseRow E ∷ usize ∷ R E ∷ []) (self, (base, (index, (item, tt)))) (us, (vs, (ws, (xs, tt))))))
    ∷ (raw (fact 𝓤 (y.0.0.1.0 ⊑ X.lives)) ⊛ raw (fact 𝓤 (Asks E p base index))) ∷ []) ∵
    move ! (1 ∷ []) $ split ! $ drop ! $ heard ! _ (λ asked. split ! $ split ! $ move ! (2 ∷ []) $
    -- [what the parameters own; the tokens]
    fsplit ! $ fsplit3 ! $ feq_l ! (λ eu. move ! (2 ∷ []) $ fsplit ! $ pointer-had ! base.ptr vs (λ ev.
    fsplit ! $ fsplit ! $ feq_l ! (λ ew. flt_l ! (λ fits. fsplit ! $ item-had E.row E.laws ! item xs (λ v ex good.
    -- [the item; nothing; the borrow in two parts; the tokens]
    keep ! (2 ∷ 3 ∷ 4 ∷ 0 ∷ 5 ∷ []) $
    regoal ! (λ (z : List Val × List Val × List Val × List Val). prop (run z)) (λ i. (eu i, ev i, ew i, ex i)) refl $
    enter ! _ _ _ _ _ $ alloc_all ! (λ l. pass_all ! refl ((tt, tt), (word-Good [] base.ptr, ((tt, record { fits = fits }), (good, tt)))) $
    let En : Env 𝓤 𝓛.H = env (function E).locals l in
    let new : Owner E = record { mark = p.mark; at = p.at; start = p.start; first = p.first; slots = set p.slots index (Some item) } in
    opens ! tt (PlacesRow E) {h = p} rb ro (λ cells. move ! (1 ∷ []) $ fsplit ! $ move ! (1 ∷ []) $
    in_a_block ! p.at (λ a. places_own (R E) a p.start p.first p.slots) (id⊢ 𝓤 (never 𝓤)) (λ b o e.
    fsplit ! $ feq_l ! (λ begun. fsplit ! $ flt_l ! (λ ends.
    let within = asked.1 in
    let far : index * w < 2 ^ 64 = let h : index * w < 2 ^ 63 = times_below index (p.start + length p.slots) w (2 ^ 63) (omega (arith, within)) ends in omega (arith, h) in
    let o₀ = p.start * w + o in let spot = index * w + o₀ in
    take_at ! 2 $ rewrite ! 0 (λ (a : Ptr). ‵ (fat full_share (layout (BaseRow E)) (l 2) 0 (word a))) (asked.0 ∙ begun) refl $ give_at ! 2 $
    first ! $ blocks ! $
    sets ! (is ! (bin ! (get ! refl) (size_word !) (record { fits = subst (λ (k : ℕ). k < 2 ^ 64) (sym (uncapped index w far)) far })) (ap (vint w64) (uncapped index w far))) refl (tt, record { fits = far }) $
    sets ! (bin ! (get_in ! (fld ! refl (stop !)) (sub ! 0 refl (whole !))) (get ! refl) tt) refl (tt, tt) $
    use1 𝓛 (‵ (place_own (R E) b spot (get_or p.slots index None)) ⊛ ‵ (Others E 𝓛 b p.slots o₀ index within)) (place-out E 𝓛 b p.slots o₀ index within) $ split ! $
    use1 𝓛 (‵ (place_own (R E) b spot None)) (forget E 𝓛 b spot (get_or p.slots index None)) $ as_written ! (elτ E) b spot $
    -- [the place; the others; the mark; its cell; the open borrow in three parts; the item; the other token]
    sets ! (of_opd ! (get ! refl)) refl good $ assigns_last ! (of_opd ! (get ! refl)) (through ! refl (stop !)) (init ! 0 refl good) $
    exec ! C Λ En (after 1 (function E).body) (at_ret En (W.post y)) $ sets ! (of_opd ! (unit_lit !)) refl (tt, tt) $
    move ! (0 ∷ 7 ∷ []) $ use2 𝓛 (‵ (place_own (R E) b spot (Some item))) (part_in 𝓛 (R E) refl full_share item b spot v) $
    use2 𝓛 (‵ (row_own (R E) b o₀ new.slots)) (place-in E 𝓛 b p.slots o₀ index within (Some item)) $
    flt_i ! ((p.start + length new.slots) * w) (2 ^ 63) (subst (λ k. (p.start + k) * w < 2 ^ 63) (sym (length-set p.slots index (Some item))) ends) $ fjoin ! $
    feq_i ! Ptr p.first (block_ptr b o₀) begun $ fjoin ! $
    rewrite ! 0 (λ (a : Ptr). ‵ (places_own (R E) a p.start p.first new.slots)) (sym e) refl $
    move ! (1 ∷ 0 ∷ []) $ fjoin ! $ move ! (1 ∷ 0 ∷ []) $ closes ! tt (PlacesRow E) new cells rb ro $
    -- [two parts of the borrow; the token; the other one]
    returns ! (look_at ! 0 refl) $ free_all ! refl $
    suffices ! _ (leaves 𝓛 T (stayed E) c y vunit tt (new, (tt, (tt, (tt, tt)))) (tt, (tt, (tt, (tt, tt))))) $
    move ! (2 ∷ 3 ∷ []) $ join ! $ use1 𝓛 (raw (alive 𝓛 T.signature y.0.0 y.0.1)) (id⊢ 𝓤 _) $ frame ! $
    feq_i ! (List Val) us (vptr rb ro ∷ []) eu $ fjoin3 ! $
    nothing ! $ nothing ! $ fjoin ! $ nothing ! $ fjoin ! $ nothing ! $ fjoin ! $ move ! (1 ∷ 0 ∷ []) $ fjoin ! $ frame ! $
    feq_i ! (List Val) (vunit ∷ []) (vunit ∷ []) refl $ use1 𝓛 (‵ (unit.own_val tt (vunit ∷ []))) (id⊢ 𝓤 _) $
    let told : Writes E p index item new = (refl, refl, refl, refl) in says ! told $ done !))))))))))))
