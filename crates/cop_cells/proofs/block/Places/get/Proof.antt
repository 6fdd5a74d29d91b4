-- `get` sees one place of a row that is lent. Assumes `Logic`.
use Prim.Native.Nat.{ℕ, ◌+◌, ◌*◌, ◌<◌, ◌^◌}
use native.Mathlib.Omega.{arith}
use mathlib.Core.Path.{◌≡◌, refl, sym, ap, subst, ◌∙◌}
use mathlib.Core.List.{List, [], ◌∷◌, ◌++◌}
use lib.ListN.{length, get_or}
use base.Fraction.{full_share}
use mir.Syntax.{Fn, named, w64}
use mir.MapTy.{inst_fn}
use mir.Val.{Val, vint, vptr}
use base.Logic.{SProp, never, id⊢}
use base.Fml.{ftrue, fat, flft}
use prog.Wp.{Env, WpFn}
use contract.Monad.{fact}
use contract.BorrowLft.{◌⊑◌}
use contract.Running.{tables}
use types.Kit.{Item, ‵, raw, ◌⊛◌, at_ret, ◌$◌, ◌∵◌, !, qed, move, drop, use1, split, join, rewrite, fsplit, fjoin, feq_i, feq_l, flt_l, prop, regoal, suffices, frame, done}
use types.Part.{whole, sub}
use types.Run.{stop, fld, of_opd, addr, bin, size_word, first, blocks, exec, returns, enter}
use types.ByLocal.{alloc_all, pass_all, free_all, look_at, get, get_in, through, take_at, give_at, sets, sets_last, is, env}
use denote.Builtin.{RefOf, usize}
use denote.Exit.{yes, no}
use denote.RattleType.{owns}
use denote.Opens.{hide, unhide}
use denote.Param.{layout}
use denote.RawPtr.{Ptr, in_a_block}
use denote.Ref.{ShrRef}
use denote.Signature.{plain}
use denote.Steps.{nothing, heard}
use denote.Triple.Entry.{alive}
use denote.Triple.Walked.{Stays, says, stay_dropped, walk_of, Goes-dropped}
use Rattle.std.specs.Prelude.{None}
use Rattle.std.proofs.raw_atomic.Walks.{leaves, proved_at}
use Rattle.core.proofs.mem.Param.{El, R, args}
use Rattle.core.proofs.ptr.Rows.{times_below}
use Rattle.core.proofs.slots.Leases.{uncapped}
use Rattle.std_alloc.proofs.RcSteps.{word, word-Good}
use Rattle.std_alloc.proofs.VecSteps.Shapes.{after}
use Rattle.cop_cells.specs.Memory.{place_lent, places_lent}
use Rattle.cop_cells.specs.Places.{IsWritten}
use Rattle.cop_cells.proofs.Rows.{width, Place, get-within, place-seen}
use Rattle.cop_cells.proofs.Values.{PlacesRow, BaseRow, pointer-had}
use Rattle.cop_cells.specs.contracts.block.Places.get as F
use Rattle.cop_cells.specs.contracts.block.Places.get.Key.{name as #self}
use Rattle.cop_cells.proofs.block.Places.get.Statement.{statement}
use Rattle.cop_cells.proofs.block.Places.get.Code as code

module _ (E : El) where
  abbrev function : Fn
  function = inst_fn (args E) code.function

  abbrev stayed : Stays (F.ended E.row).signature.params (F.ended E.row).kept
  stayed = (
    stay_dropped (RefOf (0 ∷ []) tt (plain (λ _. PlacesRow E)) (λ _. tt)) yes,
    (
      stay_dropped (plain (λ _. BaseRow E)) no,
      (stay_dropped (plain (λ _. usize)) yes, tt),
    ),
  )

  abbrev Asks : (PlacesRow E).Denot → (BaseRow E).Denot → ℕ → Type 0
  Asks p base index = (base.ptr ≡ p.first) × IsWritten p.slots index

pub get_spec : {M : Type 1} → statement M
get_spec 𝓤 𝓛 𝓜 𝓡 wired X L =
    let E : El = record { row = X; laws = L } in
    let T = F.ended X in let c = F.clauses X 𝓛 𝓜.mem 𝓡.returns in let W = walk_of 𝓛 T (stayed E) c in
    let 𝓣 = tables 𝓤 𝓛.H 𝓜 𝓡 𝓡.env in let C = 𝓣.C in let Λ = 𝓣.Λ in
    proved_at 𝓛 T (stayed E) c 𝓜 𝓡 (
      Goes-dropped 𝓛 2 (RefOf (0 ∷ []) tt (plain (λ _. PlacesRow E)) (λ _. tt)) yes (λ κs x f. refl),
      (Goes-dropped 𝓛 2 (plain (λ _. BaseRow E)) no (λ κs x f. refl), (Goes-dropped 𝓛 2 (plain (λ _. usize)) yes (λ κs x f. refl), tt)),
    )
    (#self (args E)) (function E) (code.unfolded 𝓤 𝓛.H 𝓜 𝓡 wired (X, tt))
    (λ y are.
    let κ = y.0.0.0 in let self = y.0.3.0 in let p = self.now in let base = y.0.3.1.0 in let index = y.0.3.1.1.0 in
    let us = y.0.4.0 in let vs = y.0.4.1.0 in let ws = y.0.4.1.1.0 in let rb = self.ref_ptr.0 in let ro = self.ref_ptr.1 in
    let token : Item 𝓤 = ‵ (flft κ y.0.1.0) in let other : Item 𝓤 = ‵ (flft y.0.0.1.0 y.0.1.1.0) ⊛ ‵ ftrue in let w = width E in
    let run : List Val × List Val × List Val → SProp 𝓤 = λ z. WpFn 𝓤 𝓛.H C Λ (function E) (z.0 ++ (z.1 ++ (z.2 ++ []))) (W.post y) in
    qed 𝓛 (((token ⊛ other) ⊛ ‵ (owns (ShrRef (named 0) κ (PlacesRow E) ∷ BaseRow E ∷ usize ∷ []) (self, (base, (index, tt))) (us, (vs, (ws, tt)))))
    ∷ (raw (fact 𝓤 (y.0.0.1.0 ⊑ X.lives)) ⊛ raw (fact 𝓤 (Asks E p base index))) ∷ []) ∵
    move ! (1 ∷ []) $ split ! $ drop ! $ heard ! _ (λ asked. split ! $ split ! $ move ! (2 ∷ []) $
    -- [what the parameters own; the tokens]
    fsplit ! $ fsplit ! $ feq_l ! (λ eu. move ! (1 ∷ []) $ fsplit ! $ pointer-had ! base.ptr vs (λ ev.
    fsplit ! $ fsplit ! $ feq_l ! (λ ew. flt_l ! (λ fits. drop ! $
    regoal ! (λ (z : List Val × List Val × List Val). prop (run z)) (λ i. (eu i, ev i, ew i)) refl $
    let x = asked.1.0 in let within : index < length p.slots = get-within p.slots index x asked.1.1 in
    enter ! _ _ _ _ _ $ alloc_all ! (λ l. pass_all ! refl ((tt, tt), (word-Good [] base.ptr, ((tt, record { fits = fits }), tt))) $
    let En : Env 𝓤 𝓛.H = env (function E).locals l in
    unhide ! $ fsplit ! $ drop ! $
    in_a_block ! p.at (λ a. places_lent (R E) a p.start p.first p.slots κ) (id⊢ 𝓤 (never 𝓤)) (λ b o e.
    fsplit ! $ feq_l ! (λ begun. fsplit ! $ flt_l ! (λ ends.
    let far : index * w < 2 ^ 64 = let h : index * w < 2 ^ 63 = times_below index (p.start + length p.slots) w (2 ^ 63) (omega (arith, within)) ends in omega (arith, h) in
    let o₀ = p.start * w + o in let spot = index * w + o₀ in
    take_at ! 2 $ rewrite ! 0 (λ (a : Ptr). ‵ (fat full_share (layout (BaseRow E)) (l 2) 0 (word a))) (asked.0 ∙ begun) refl $ give_at ! 2 $
    first ! $ blocks ! $
    sets ! (is ! (bin ! (get ! refl) (size_word !) (record { fits = subst (λ (k : ℕ). k < 2 ^ 64) (sym (uncapped index w far)) far })) (ap (vint w64) (uncapped index w far))) refl (tt, record { fits = far }) $
    sets ! (bin ! (get_in ! (fld ! refl (stop !)) (sub ! 0 refl (whole !))) (get ! refl) tt) refl (tt, tt) $
    use1 𝓛 (‵ (place_lent (R E) b spot (get_or p.slots index None) κ)) (place-seen E 𝓛 b κ p.slots o₀ index spot within refl) $
    rewrite ! 0 (λ (c : Place E). ‵ (place_lent (R E) b spot c κ)) asked.1.1 refl $ hide ! $
    sets_last ! (addr ! (through ! refl (stop !))) refl (tt, tt) $ exec ! C Λ En (after 1 (function E).body) (at_ret En (W.post y)) $
    sets ! (of_opd ! (get ! refl)) refl (tt, tt) $
    feq_i ! (List Val) (vptr b spot ∷ []) (vptr b spot ∷ []) refl $ fjoin ! $
    returns ! (look_at ! 0 refl) $ free_all ! refl $
    suffices ! _ (leaves 𝓛 T (stayed E) c y (vptr b spot) (record { ref_ptr = (b, spot); now = x }) (tt, (tt, (tt, tt))) (tt, (tt, (tt, tt)))) $
    move ! (1 ∷ 2 ∷ []) $ join ! $ use1 𝓛 (raw (alive 𝓛 T.signature y.0.0 y.0.1)) (id⊢ 𝓤 _) $
    frame ! $ nothing ! $ nothing ! $ fjoin ! $ nothing ! $ fjoin ! $ nothing ! $ fjoin ! $ frame ! $
    says ! asked.1.1 $ done !))))))))))
