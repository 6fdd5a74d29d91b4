-- `allocate` makes a row of empty places of the allocator's block, and keeps its token as the deed. Assumes `Logic`.
use Prim.Native.Nat.{ℕ, ◌+◌, ◌*◌, ◌<◌, ◌^◌}
use native.Mathlib.Omega.{arith}
use native.Mathlib.Nat.{zero-mul}
use mathlib.Core.Bool.{true, false}
use mathlib.Core.Path.{◌≡◌, refl, sym, ap, subst}
use mathlib.Core.List.{List, [], ◌∷◌, ◌++◌}
use lib.Dec.{lit<}
use lib.ListN.{length, replicate, length-replicate}
use seplogic.Ra.Ura.{Ura}
use mir.Syntax.{Body, Fn, named, w64, ty_array}
use mir.MapTy.{inst_fn}
use mir.Val.{Val, vint, vstruct, vcons, vnil}
use base.Logic.{SProp, ent, id⊢}
use base.Fml.{Incl-trans, ftrue, flft, froom}
use prog.Capped.{capped_fits}
use prog.Memory.{align, capped}
use prog.Wp.{Env, Wp, WpFn, after_seq, at_return}
use types.Logic.{Logic, sem}
use contract.Monad.{fact}
use contract.BorrowLft.{◌⊑◌}
use contract.Running.{tables}
use types.Kit.{Item, ‵, raw, ◌⊛◌, later, await, at_ret, Post as After, any_q, ◌$◌, ◌∵◌, !, qed, move, drop, use0, use1, use2, use3, split, join, rewrite, fsplit, fjoin, feq_i, feq_l, flt_i, flt_l, prop, regoal, suffices, frame, done}
use types.Match.{live, vrt, in_variant}
use types.Part.{whole, agg}
use types.Run.{stop, fld, lit, of_opd, and_then, no_more, bin, size_word, align_word, switches_on, first, exec, returns, enter}
use types.ByLocal.{alloc_all, pass_all, free_all, look_at, get, get_in, get_tag, sets, sets_last, is, lands_as, env}
use denote.Builtin.{RefOf, usize}
use denote.Exit.{yes}
use denote.Laws.{Is}
use denote.Param.{layout}
use denote.RattleType.{RattleType, owns}
use denote.RawPtr.{Ptr, block_ptr}
use denote.Ref.{ShrRef}
use denote.Signature.{plain}
use denote.Steps.{nothing, heard, owned}
use denote.Struct.Declared as Declared
use denote.Struct.Struct.{Struct, Struct-Makes}
use denote.Struct.Tuple.{Tuple}
use denote.Triple.Call.{calls_at}
use denote.Triple.Clauses.{Ended}
use denote.Triple.Entry.{alive}
use denote.Triple.Table.{framed}
use denote.Triple.Walked.{Stays, says, stay_dropped, walk_of, Goes-dropped}
use Rattle.std.specs.Prelude.{None, IfOk, Ok, Err}
use Rattle.std.specs.Vec.Ownership.{FitsInBlock}
use Rattle.std.proofs.raw_atomic.Walks.{leaves, proved_at}
use Rattle.core.specs.contracts.alloc.AllocError as A
use Rattle.core.specs.contracts.result.Result as Res
use Rattle.core.proofs.alloc.Calls.{Al, Answer-typed, Answered, Takes, at_takes, Takes-goes, Takes-gives, answers}
use Rattle.core.proofs.mem.Param.{El, R, elτ}
use Rattle.core.proofs.slots.Leases.{uncapped, block_ty, block_size, block_align, args, P}
use Rattle.std_alloc.proofs.RawLayout.{as_written}
use Rattle.std_alloc.proofs.RcSteps.{Good, first_Good, word, word-Good}
use Rattle.std_alloc.proofs.ResultValues.{ok_of, err_of}
use Rattle.std_alloc.proofs.VecSteps.Shapes.{after, head, arm_body}
use Rattle.cop_cells.specs.Memory.{row_own, places_own}
use Rattle.cop_cells.proofs.Rows.{width, Place, row-of-room}
use Rattle.cop_cells.proofs.Values.{PlacesRow, BaseRow, Blank, blank, blank-made, pointer-made, triple, triple-made}
use Rattle.cop_cells.specs.contracts.block.Deed as D
use Rattle.cop_cells.specs.contracts.block.allocate as F
use Rattle.cop_cells.specs.contracts.block.allocate.Key.{name as #self}
use Rattle.cop_cells.proofs.block.allocate.Statement.{statement}
use Rattle.cop_cells.proofs.block.allocate.Code as code

module _ (E : El) (Z : Al) where
  abbrev function : Fn
  function = inst_fn (args E Z) code.function

  abbrev DeedRow : RattleType
  DeedRow = D.the_row (R E) (P E Z) Z.g

  abbrev ended : Ended
  ended = F.ended E.row Z.row Z.g Z.d Z.drops

  abbrev stayed : Stays ended.signature.params ended.kept
  stayed = (stay_dropped (RefOf (0 ∷ []) tt (plain (λ _. P E Z)) (λ _. tt)) yes, (stay_dropped (plain (λ _. usize)) yes, tt))

  abbrev Three : RattleType
  Three = Tuple (BaseRow E ∷ PlacesRow E ∷ DeedRow ∷ [])

  abbrev Out : RattleType
  Out = Res.the_row Three A.the_row

  abbrev Answers : Z.row.Denot → ℕ → Out.Denot → Type 0
  Answers a len r = IfOk r (λ t. (t.1.at ≡ t.0.ptr) × (t.1.start ≡ 0) × (t.1.first ≡ t.0.ptr) × (t.1.slots ≡ replicate len None)
      × (t.2.at ≡ t.0.ptr) × (t.2.len ≡ len) × (t.2.alloc ≡ a))

-- room for a block, as places that are all empty
made : (E : El) {M : Type 1} {𝓤 : Ura M} (𝓛 : Logic 𝓤) (b o len : ℕ) → len * width E < 2 ^ 63
    → ent 𝓤 (sem 𝓛 (froom (ty_array (elτ E) len) b o)) (sem 𝓛 (places_own (R E) (block_ptr b o) 0 (block_ptr b o) (replicate len None)))
made E 𝓛 b o len small =
    let w = width E in let from : o ≡ 0 * w + o = omega (arith, zero-mul w) in
    let all : len ≡ 0 + length (replicate {A = Place E} len None) = omega (arith, length-replicate {A = Place E} len None) in
    qed 𝓛 (‵ (froom (ty_array (elτ E) len) b o) ∷ []) ∵
    use1 𝓛 (‵ (row_own (R E) b o (replicate len None))) (row-of-room E 𝓛 b len o) $
    rewrite ! 0 (λ (k : ℕ). ‵ (row_own (R E) b k (replicate len None))) from refl $
    flt_i ! ((0 + length (replicate len None)) * w) (2 ^ 63) (subst (λ k. k * w < 2 ^ 63) all small) $ fjoin ! $
    feq_i ! Ptr (block_ptr b o) (block_ptr b (0 * w + o)) (ap (block_ptr b) from) $ fjoin ! $ done !

pub allocate_spec : {M : Type 1} → statement M
allocate_spec 𝓤 𝓛 𝓜 𝓡 wired X Y LX LY g d dd met md =
    let E : El = record { row = X; laws = LX } in let Z : Al = record { row = Y; laws = LY; g = g; d = d; drops = dd } in
    let T = ended E Z in let c = F.clauses X Y g d dd 𝓛 𝓜.mem 𝓡.returns in let W = walk_of 𝓛 T (stayed E Z) c in
    let 𝓣 = tables 𝓤 𝓛.H 𝓜 𝓡 𝓡.env in let C = 𝓣.C in let Λ = 𝓣.Λ in
    let G = Takes Z 𝓛 𝓜.mem 𝓡.returns in
    proved_at 𝓛 T (stayed E Z) c 𝓜 𝓡
    (Goes-dropped 𝓛 3 (RefOf (0 ∷ []) tt (plain (λ _. P E Z)) (λ _. tt)) yes (λ κs x f. refl), (Goes-dropped 𝓛 3 (plain (λ _. usize)) yes (λ κs x f. refl), tt))
    (#self (args E Z)) (function E Z) (code.unfolded 𝓤 𝓛.H 𝓜 𝓡 wired (X, (Y, tt)) d dd)
    (λ y are.
    let κ = y.0.0.0 in let q = y.0.1.0 in let self = y.0.3.0 in let a = self.now in let len = y.0.3.1.0 in let at = self.ref_ptr in
    let us = y.0.4.0 in let vs = y.0.4.1.0 in let w = width E in
    let others : Item 𝓤 = ‵ (flft y.0.0.1.0 y.0.1.1.0) ⊛ ‵ (flft y.0.0.1.1.0 y.0.1.1.1.0) ⊛ ‵ ftrue in
    let run : List Val × List Val → SProp 𝓤 = λ r. WpFn 𝓤 𝓛.H C Λ (function E Z) (r.0 ++ (r.1 ++ [])) (W.post y) in
    qed 𝓛 (((‵ (flft κ q) ⊛ others) ⊛ ‵ (owns (ShrRef (named 0) κ (P E Z) ∷ usize ∷ []) (self, (len, tt)) (us, (vs, tt))))
    ∷ (raw (fact 𝓤 (y.0.0.1.0 ⊑ X.lives)) ⊛ raw (fact 𝓤 (y.0.0.1.1.0 ⊑ Y.lives)) ⊛ raw (fact 𝓤 (FitsInBlock (R E) len))) ∷ []) ∵
    move ! (1 ∷ []) $ split ! $ drop ! $ split ! $ heard ! _ (λ lives. heard ! _ (λ asked. split ! $ split ! $ move ! (2 ∷ []) $
    fsplit ! $ fsplit ! $ feq_l ! (λ eu. move ! (1 ∷ []) $ fsplit ! $ fsplit ! $ feq_l ! (λ ev. flt_l ! (λ fits. drop ! $
    -- [the handle; the tokens]
    regoal ! (λ (r : List Val × List Val). prop (run r)) (λ i. (eu i, ev i)) refl $
    let small : len * w < 2 ^ 63 = asked.0 in let bytes : len * w < 2 ^ 64 = omega (arith, small) in let al : ℕ = capped (align (elτ E)) in
    enter ! _ _ _ _ _ $ alloc_all ! (λ l. pass_all ! refl ((tt, tt), ((tt, record { fits = fits }), tt)) $
    let En : Env 𝓤 𝓛.H = env (function E Z).locals l in
    let both : Body = head (after 2 (function E Z).body) in
    let then : After 𝓤 𝓛.H = any_q (after_seq 𝓤 𝓛.H (Wp 𝓤 𝓛.H C Λ En (after 3 (function E Z).body) (at_return 𝓤 𝓛.H En (W.post y))) (at_return 𝓤 𝓛.H En (W.post y))) in
    let z : G.Ghost = at_takes Z 𝓛 𝓜.mem 𝓡.returns κ q at a (len * w) al (block_ty E len) in
    sets ! (is ! (bin ! (get ! refl) (size_word !) (record { fits = subst (λ (k : ℕ). k < 2 ^ 64) (sym (uncapped len w bytes)) bytes })) (ap (vint w64) (uncapped len w bytes))) refl (tt, record { fits = bytes }) $
    use2 𝓛 (raw (G.pre z)) (Takes-goes Z 𝓛 𝓜.mem 𝓡.returns κ q at a (Incl-trans y.0.2.0 lives) (len * w) al (block_ty E len) (block_size E len bytes) (block_align E len) bytes (capped_fits (align (elτ E)))) $
    calls_at ! (framed 𝓤 𝓛.H 𝓜 𝓣) G (met.allocate dd) z (and_then ! (get ! refl) (and_then ! (get ! refl) (and_then ! (align_word !) (no_more !)))) (λ v.
    use1 𝓛 (later (raw (Answered Z 𝓛 𝓜.mem 𝓡.returns a (block_ty E len) v) ⊛ ‵ (flft κ q))) (Takes-gives Z 𝓛 𝓜.mem 𝓡.returns κ q at a (len * w) al (block_ty E len) v) $ await ! tt $ split ! $
    answers Z ! 𝓜.mem 𝓡.returns a (block_ty E len) v
    (λ b o e.
    let here : Ptr = block_ptr b o in
    let base : (BaseRow E).Denot = record { ptr = here } in
    let places : (PlacesRow E).Denot = record { mark = record {}; at = here; start = 0; first = here; slots = replicate len None } in
    let deed : (DeedRow E Z).Denot = record { mark = record {}; at = here; len = len; alloc = a } in
    let three : Val = triple (word here) blank blank in
    let good : Good (layout (Three E Z)) three = (tt, ((tt, tt), ((tt, tt), ((tt, tt), tt)))) in
    let ok = first_Good (layout (Three E Z)) three good in
    lands_as ! e refl (Answer-typed true b o) $ first ! $ switches_on ! (get_tag ! (vrt ! refl (fld ! refl (stop !))) (whole !)) $ exec ! C Λ En (arm_body 0 both) then $
    sets ! (of_opd ! (get_in ! (vrt ! refl (fld ! refl (stop !))) (in_variant ! 0 0 refl refl (whole !)))) refl (tt, tt) $ sets ! (of_opd ! (get ! refl)) refl (tt, tt) $
    sets ! (agg ! (and_then ! (get ! refl) (no_more !))) refl (word-Good [] here) $
    sets ! (agg ! (no_more !)) refl (tt, tt) $ sets ! (agg ! (and_then ! (get ! refl) (no_more !))) refl (tt, (tt, tt)) $
    sets ! (agg ! (no_more !)) refl (tt, tt) $ sets ! (agg ! (and_then ! (get ! refl) (no_more !))) refl (tt, (tt, tt)) $
    sets ! (agg ! (and_then ! (get ! refl) (and_then ! (get ! refl) (and_then ! (get ! refl) (no_more !))))) refl good $
    sets_last ! (agg ! (and_then ! (lit ! tt) (and_then ! (get ! refl) (no_more !)))) refl ok $
    exec ! C Λ En (after 3 (function E Z).body) (at_ret En (W.post y)) $ sets ! (of_opd ! (get ! refl)) refl ok $
    -- [the block; its token; the tokens]
    move ! (1 ∷ []) $ use0 𝓛 (‵ ((Blank E).own_val (tt, tt) (blank ∷ []))) (blank-made E 𝓛) $ fjoin ! $ move ! (1 ∷ []) $
    as_written ! (ty_array (elτ E) len) b o $ use1 𝓛 (‵ (places_own (R E) here 0 here (replicate len None))) (made E 𝓛 b o len small) $
    use0 𝓛 (‵ ((Blank E).own_val (tt, tt) (blank ∷ []))) (blank-made E 𝓛) $ fjoin ! $ pointer-made ! here $
    use3 𝓛 (‵ ((Three E Z).own_val (base, places, deed) (three ∷ []))) (triple-made 𝓛 (BaseRow E) (PlacesRow E) (DeedRow E Z) base places deed (word here) blank blank) $
    use1 𝓛 (‵ ((Out E Z).own_val (Ok (base, places, deed)) (live 0 (vcons three vnil) ∷ []))) (ok_of 𝓛 (Three E Z) A.the_row (base, places, deed) three) $
    returns ! (look_at ! 0 refl) $ free_all ! refl $
    suffices ! _ (leaves 𝓛 T (stayed E Z) c y (live 0 (vcons three vnil)) (Ok (base, places, deed)) (tt, (tt, tt)) (tt, (tt, tt))) $
    move ! (1 ∷ 2 ∷ []) $ join ! $ use1 𝓛 (raw (alive 𝓛 T.signature y.0.0 y.0.1)) (id⊢ 𝓤 _) $ frame ! $
    nothing ! $ nothing ! $ fjoin ! $ nothing ! $ fjoin ! $ frame ! $
    let told : Answers E Z a len (Ok (base, places, deed)) = (refl, refl, refl, refl, refl, refl, refl) in says ! told $ done !)
    (λ e.
    let Refusal : RattleType = Struct (Declared.shape A.the_type) in
    let none : Val = live 1 (vcons (vstruct vnil) vnil) in
    lands_as ! e refl (Answer-typed false 0 0) $ first ! $ switches_on ! (get_tag ! (vrt ! refl (fld ! refl (stop !))) (whole !)) $ exec ! C Λ En (arm_body 1 both) then $
    sets ! (of_opd ! (get_in ! (vrt ! refl (fld ! refl (stop !))) (in_variant ! 1 0 refl refl (whole !)))) refl (tt, tt) $
    sets_last ! (agg ! (and_then ! (lit ! tt) (and_then ! (get ! refl) (no_more !)))) refl (tt, (record { fits = lit< tt }, (tt, tt))) $
    exec ! C Λ En (after 3 (function E Z).body) (at_ret En (W.post y)) $ sets ! (of_opd ! (get ! refl)) refl (tt, (record { fits = lit< tt }, (tt, tt))) $
    owned ! Refusal (Is Refusal) (Struct-Makes 𝓛 (Declared.shape A.the_type) tt) tt (vstruct vnil ∷ []) (tt, (refl, tt)) $
    use1 𝓛 (‵ ((Out E Z).own_val (Err (record {})) (none ∷ []))) (err_of 𝓛 (Three E Z) A.the_row (record {}) (vstruct vnil)) $
    returns ! (look_at ! 0 refl) $ free_all ! refl $
    suffices ! _ (leaves 𝓛 T (stayed E Z) c y none (Err (record {})) (tt, (tt, tt)) (tt, (tt, tt))) $
    move ! (1 ∷ 2 ∷ []) $ join ! $ use1 𝓛 (raw (alive 𝓛 T.signature y.0.0 y.0.1)) (id⊢ 𝓤 _) $ frame ! $
    nothing ! $ nothing ! $ fjoin ! $ nothing ! $ fjoin ! $ frame ! $
    let told : Answers E Z a len (Err (record {})) = tt in says ! told $ done !)))))))))
