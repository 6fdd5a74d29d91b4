-- `deallocate` makes one block of the places, whatever they hold, and hands it to the allocator with its token. Assumes `Logic`.
use Prim.Native.Nat.{ℕ, ◌+◌, ◌*◌, ◌<◌, ◌^◌}
use native.Mathlib.Omega.{arith}
use native.Mathlib.Nat.{zero-mul}
use mathlib.Core.Path.{◌≡◌, refl, sym, ap, subst, ◌∙◌}
use mathlib.Core.List.{List, [], ◌∷◌, ◌++◌}
use lib.Dec.{T}
use lib.ListN.{length}
use mir.Syntax.{Fn, named, w64, ty_array, ty_unit}
use mir.MapTy.{inst_fn}
use mir.Val.{Val, vint, vunit, has_ty, WT}
use base.Logic.{SProp, never, id⊢}
use base.Fml.{Incl-trans, ftrue, flft, froom}
use prog.Capped.{capped_fits}
use prog.Memory.{align, capped}
use prog.Wp.{Env, WpFn}
use contract.Monad.{fact}
use contract.BorrowLft.{◌⊑◌}
use contract.Running.{tables}
use types.Kit.{Item, ‵, raw, ◌⊛◌, given, later, await, learn, at_ret, ◌$◌, ◌∵◌, !, qed, move, keep, drop, use1, split, join, group, rewrite, fsplit, feq_i, feq_l, flt_l, prop, regoal, suffices, fjoin, frame, done}
use types.Part.{whole, sub}
use types.Run.{stop, fld, unit_lit, of_opd, and_then, no_more, bin, size_word, align_word, first, blocks, exec, returns, enter}
use types.ByLocal.{alloc_all, pass_all, free_all, look_at, get, get_in, sets, is, lands_last, env}
use denote.Builtin.{RefOf, unit, usize}
use denote.Exit.{yes, no}
use denote.RattleType.{RattleType, owns}
use denote.RawPtr.{Ptr, block_ptr, in_a_block}
use denote.Ref.{ShrRef}
use denote.Signature.{plain}
use denote.Steps.{nothing, heard}
use denote.Triple.Call.{calls_at_last}
use denote.Triple.Clauses.{Ended}
use denote.Triple.Entry.{alive}
use denote.Triple.Table.{framed}
use denote.Triple.Walked.{Stays, stay_dropped, walk_of, Goes-dropped}
use Rattle.std.proofs.raw_atomic.Walks.{leaves, proved_at}
use Rattle.core.proofs.alloc.Calls.{Al, token, Gives, at_gives, Gives-goes, Gives-Gives, Goes-blank}
use Rattle.core.proofs.mem.Param.{El, R, elτ}
use Rattle.core.proofs.slots.Leases.{uncapped, block_ty, block_size, block_align, args, P}
use Rattle.std_alloc.proofs.RawLayout.{as_raw}
use Rattle.std_alloc.proofs.RcSteps.{word, word-Good}
use Rattle.std_alloc.proofs.VecSteps.Shapes.{after}
use Rattle.cop_cells.specs.Memory.{row_own, places_own, deed_own}
use Rattle.cop_cells.proofs.Rows.{width, room-of-row}
use Rattle.cop_cells.proofs.Values.{PlacesRow, BaseRow, blank-had, pointer-had}
use Rattle.cop_cells.specs.contracts.block.Deed as D
use Rattle.cop_cells.specs.contracts.block.deallocate as F
use Rattle.cop_cells.specs.contracts.block.deallocate.Key.{name as #self}
use Rattle.cop_cells.proofs.block.deallocate.Statement.{statement}
use Rattle.cop_cells.proofs.block.deallocate.Code as code

module _ (E : El) (Z : Al) where
  abbrev function : Fn
  function = inst_fn (args E Z) code.function

  abbrev DeedRow : RattleType
  DeedRow = D.the_row (R E) (P E Z) Z.g

  abbrev ended : Ended
  ended = F.ended E.row Z.row Z.g Z.d Z.drops

  abbrev stayed : Stays ended.signature.params ended.kept
  stayed = (
    stay_dropped (RefOf (0 ∷ []) tt (plain (λ _. P E Z)) (λ _. tt)) yes,
    (
      stay_dropped (plain (λ _. BaseRow E)) no,
      (stay_dropped (plain (λ _. usize)) yes, (stay_dropped (plain (λ _. PlacesRow E)) no, (stay_dropped (plain (λ _. DeedRow)) no, tt))),
    ),
  )

  abbrev Asks : Z.row.Denot → (BaseRow E).Denot → ℕ → (PlacesRow E).Denot → DeedRow.Denot → Type 0
  Asks a base len p deed = (p.at ≡ base.ptr) × (p.start ≡ 0) × (length p.slots ≡ len) × (deed.at ≡ base.ptr) × (deed.len ≡ len) × (deed.alloc ≡ a)

pub deallocate_spec : {M : Type 1} → statement M
deallocate_spec 𝓤 𝓛 𝓜 𝓡 wired X Y LX LY g d dd met md =
    let E : El = record { row = X; laws = LX } in let Z : Al = record { row = Y; laws = LY; g = g; d = d; drops = dd } in
    let S = ended E Z in let c = F.clauses X Y g d dd 𝓛 𝓜.mem 𝓡.returns in let W = walk_of 𝓛 S (stayed E Z) c in
    let 𝓣 = tables 𝓤 𝓛.H 𝓜 𝓡 𝓡.env in let C = 𝓣.C in let Λ = 𝓣.Λ in
    let G = Gives Z 𝓛 𝓜.mem 𝓡.returns in
    proved_at 𝓛 S (stayed E Z) c 𝓜 𝓡 (
      Goes-dropped 𝓛 3 (RefOf (0 ∷ []) tt (plain (λ _. P E Z)) (λ _. tt)) yes (λ κs x f. refl),
      (
        Goes-dropped 𝓛 3 (plain (λ _. BaseRow E)) no (λ κs x f. refl),
        (Goes-dropped 𝓛 3 (plain (λ _. usize)) yes (λ κs x f. refl), (Goes-blank 𝓛 3 (plain (λ _. PlacesRow E)) no (λ κs x f. tt), (Goes-blank 𝓛 3 (plain (λ _. DeedRow E Z)) no (λ κs x f. tt), tt))),
      ),
    )
    (#self (args E Z)) (function E Z) (code.unfolded 𝓤 𝓛.H 𝓜 𝓡 wired (X, (Y, tt)) d dd)
    (λ y are.
    let κ = y.0.0.0 in let q = y.0.1.0 in let self = y.0.3.0 in let a = self.now in let base = y.0.3.1.0 in let len = y.0.3.1.1.0 in
    let p = y.0.3.1.1.1.0 in let deed = y.0.3.1.1.1.1.0 in let at = self.ref_ptr in
    let us = y.0.4.0 in let vs = y.0.4.1.0 in let ws = y.0.4.1.1.0 in let xs = y.0.4.1.1.1.0 in let zs = y.0.4.1.1.1.1.0 in let w = width E in
    let others : Item 𝓤 = ‵ (flft y.0.0.1.0 y.0.1.1.0) ⊛ ‵ (flft y.0.0.1.1.0 y.0.1.1.1.0) ⊛ ‵ ftrue in
    let run : List Val × List Val × List Val × List Val × List Val → SProp 𝓤 = λ r. WpFn 𝓤 𝓛.H C Λ (function E Z) (r.0 ++ (r.1 ++ (r.2 ++ (r.3 ++ (r.4 ++ []))))) (W.post y) in
    qed 𝓛 (((‵ (flft κ q) ⊛ others)
    ⊛ ‵ (owns (ShrRef (named 0) κ (P E Z) ∷ BaseRow E ∷ usize ∷ PlacesRow E ∷ DeedRow E Z ∷ []) (self, (base, (len, (p, (deed, tt))))) (us, (vs, (ws, (xs, (zs, tt)))))))
    ∷ (raw (fact 𝓤 (y.0.0.1.0 ⊑ X.lives)) ⊛ raw (fact 𝓤 (y.0.0.1.1.0 ⊑ Y.lives)) ⊛ raw (fact 𝓤 (Asks E Z a base len p deed))) ∷ []) ∵
    move ! (1 ∷ []) $ split ! $ drop ! $ split ! $ heard ! _ (λ lives. heard ! _ (λ asked. split ! $ split ! $ move ! (2 ∷ []) $
    -- [what the parameters own; the tokens]
    fsplit ! $ fsplit ! $ feq_l ! (λ eu. move ! (1 ∷ []) $ fsplit ! $ pointer-had ! base.ptr vs (λ ev.
    fsplit ! $ fsplit ! $ feq_l ! (λ ew. flt_l ! (λ fits. fsplit ! $ fsplit ! $ blank-had E ! xs (λ ex. move ! (1 ∷ []) $
    fsplit ! $ fsplit ! $ blank-had E ! zs (λ ez.
    -- [the deed; nothing; the places; the handle; the tokens]
    keep ! (2 ∷ 0 ∷ 3 ∷ 4 ∷ 5 ∷ []) $
    in_a_block ! p.at (λ b. places_own (R E) b p.start p.first p.slots) (id⊢ 𝓤 (never 𝓤)) (λ b o e. fsplit ! $ drop ! $ fsplit ! $ flt_l ! (λ ends.
    let from : p.start * w + o ≡ o = ap (λ k. k * w + o) asked.1 ∙ (let z : 0 * w + o ≡ o = omega (arith, zero-mul w) in z) in
    let all : p.start + length p.slots ≡ len = omega (arith, asked.1, asked.2) in
    let small : len * w < 2 ^ 63 = subst (λ k. k * w < 2 ^ 63) all ends in let bytes : len * w < 2 ^ 64 = omega (arith, small) in
    let al : ℕ = capped (align (elτ E)) in let here : base.ptr ≡ block_ptr b o = sym asked.0 ∙ e in
    let z : G.Ghost = at_gives Z 𝓛 𝓜.mem 𝓡.returns κ q at a b o (len * w) al (block_ty E len) in
    rewrite ! 0 (λ (k : ℕ). ‵ (row_own (R E) b k p.slots)) from refl $
    use1 𝓛 (‵ (froom (ty_array (elτ E) (length p.slots)) b o)) (room-of-row E 𝓛 b p.slots o) $
    rewrite ! 0 (λ (k : ℕ). ‵ (froom (ty_array (elτ E) k) b o)) asked.2 refl $ as_raw ! (ty_array (elτ E) len) b o $
    rewrite ! 1 (λ (r : Y.Denot × Ptr × ℕ). ‵ (deed_own (R E) (token Z r.0) r.1 r.2)) (λ i. (asked.5 i, (asked.3 ∙ here) i, asked.4 i)) refl $
    -- [the block; its token; the handle; the tokens]
    regoal ! (λ (r : List Val × List Val × List Val × List Val × List Val). prop (run r)) (λ i. (eu i, (ev ∙ ap (λ b. word b ∷ []) here) i, ew i, ex i, ez i)) refl $
    enter ! _ _ _ _ _ $ alloc_all ! (λ l. pass_all ! refl ((tt, tt), (word-Good [] (block_ptr b o), ((tt, record { fits = fits }), ((tt, (tt, tt)), ((tt, (tt, tt)), tt))))) $
    let En : Env 𝓤 𝓛.H = env (function E Z).locals l in
    first ! $ blocks ! $
    sets ! (of_opd ! (get_in ! (fld ! refl (stop !)) (sub ! 0 refl (whole !)))) refl (tt, tt) $
    sets ! (is ! (bin ! (get ! refl) (size_word !) (record { fits = subst (λ (k : ℕ). k < 2 ^ 64) (sym (uncapped len w bytes)) bytes })) (ap (vint w64) (uncapped len w bytes))) refl (tt, record { fits = bytes }) $
    group ! 4 $ use1 𝓛 (raw (G.pre z)) (Gives-goes Z 𝓛 𝓜.mem 𝓡.returns κ q at a (Incl-trans y.0.2.0 lives) b o (len * w) al (block_ty E len) (block_size E len bytes) (block_align E len) bytes (capped_fits (align (elτ E)))) $
    calls_at_last ! (framed 𝓤 𝓛.H 𝓜 𝓣) G (met.deallocate dd) z (and_then ! (get ! refl) (and_then ! (get ! refl) (and_then ! (get ! refl) (and_then ! (align_word !) (no_more !))))) (λ v.
    use1 𝓛 (later (given (v ≡ vunit) (‵ (flft κ q)))) (Gives-Gives Z 𝓛 𝓜.mem 𝓡.returns κ q at a b o (len * w) al (block_ty E len) v) $ await ! tt $ learn ! (λ ev'.
    lands_last ! refl (subst (λ (u : Val). T (has_ty ty_unit u) × WT u) (sym ev') (tt, tt)) $ exec ! C Λ En (after 1 (function E Z).body) (at_ret En (W.post y)) $
    sets ! (of_opd ! (unit_lit !)) refl (tt, tt) $ returns ! (look_at ! 0 refl) $ free_all ! refl $
    suffices ! _ (leaves 𝓛 S (stayed E Z) c y vunit tt (tt, (tt, (tt, (tt, (tt, tt))))) (tt, (tt, (tt, (tt, (tt, tt)))))) $
    join ! $ use1 𝓛 (raw (alive 𝓛 S.signature y.0.0 y.0.1)) (id⊢ 𝓤 _) $ frame ! $
    nothing ! $ nothing ! $ fjoin ! $ nothing ! $ fjoin ! $ nothing ! $ fjoin ! $ nothing ! $ fjoin ! $ nothing ! $ fjoin ! $ frame ! $
    nothing ! $ feq_i ! (List Val) (vunit ∷ []) (vunit ∷ []) refl $ use1 𝓛 (‵ (unit.own_val tt (vunit ∷ []))) (id⊢ 𝓤 _) $ done !))))))))))))))
