-- `join` glues two rows, and leaves the memory as it is. Assumes `Logic`.
use Prim.Native.Nat.{ℕ, ◌+◌, ◌*◌, ◌<◌, ◌^◌}
use native.Mathlib.Omega.{arith}
use mathlib.Core.Path.{◌≡◌, refl, sym, subst, ◌∙◌}
use mathlib.Core.List.{List, [], ◌∷◌, ◌++◌}
use lib.ListN.{length, length-append}
use seplogic.Ra.Ura.{Ura}
use mir.Syntax.{Fn}
use mir.MapTy.{inst_fn}
use mir.Val.{Val}
use base.Logic.{SProp, ent, sep, never, id⊢}
use prog.Wp.{WpFn}
use types.Logic.{Logic, sem}
use contract.Monad.{fact}
use contract.BorrowLft.{◌⊑◌}
use contract.Running.{tables}
use types.Kit.{Item, ‵, raw, ◌⊛◌, ◌$◌, ◌∵◌, !, qed, move, keep, drop, use0, use2, split, rewrite, fsplit, fjoin, feq_i, feq_l, flt_i, flt_l, prop, regoal, suffices, frame, done}
use types.Part.{agg}
use types.Run.{and_then, no_more, returns, enter}
use types.ByLocal.{alloc_all, pass_all, free_all, look_at, get, sets}
use denote.Exit.{no}
use denote.RattleType.{owns}
use denote.RawPtr.{Ptr, block_ptr, in_a_block}
use denote.Signature.{plain}
use denote.Steps.{nothing, heard}
use denote.Triple.Entry.{alive}
use denote.Triple.Walked.{Stays, says, stay_dropped, walk_of}
use Rattle.std.proofs.raw_atomic.Walks.{leaves, proved_at}
use Rattle.core.proofs.alloc.Calls.{Goes-blank}
use Rattle.core.proofs.mem.Param.{El, R, args}
use Rattle.cop_cells.specs.Memory.{row_own, places_own}
use Rattle.cop_cells.proofs.Rows.{width, beyond, glue}
use Rattle.cop_cells.proofs.Values.{PlacesRow, Blank, blank, blank-had, blank-made}
use Rattle.cop_cells.specs.contracts.block.Places.join as F
use Rattle.cop_cells.specs.contracts.block.Places.join.Key.{name as #self}
use Rattle.cop_cells.proofs.block.Places.join.Statement.{statement}
use Rattle.cop_cells.proofs.block.Places.join.Code as code

module _ (E : El) where
  abbrev function : Fn
  function = inst_fn (args E) code.function

  abbrev stayed : Stays (F.ended E.row).signature.params (F.ended E.row).kept
  stayed = let owner = stay_dropped (plain (λ _. PlacesRow E)) no in (owner, (owner, tt))

  abbrev Denot : Type 0
  Denot = (PlacesRow E).Denot

  abbrev Follows : Denot → Denot → Type 0
  Follows p q = (q.at ≡ p.at) × (q.start ≡ p.start + length p.slots)

  abbrev Joins : Denot → Denot → Denot → Type 0
  Joins p q r = (r.at ≡ p.at) × (r.start ≡ p.start) × (r.first ≡ p.first) × (r.slots ≡ p.slots ++ q.slots)

  abbrev joined : Denot → Denot → Denot
  joined p q = record { mark = p.mark; at = p.at; start = p.start; first = p.first; slots = p.slots ++ q.slots }

module _ (E : El) {M : Type 1} {𝓤 : Ura M} (𝓛 : Logic 𝓤) (p q : Denot E) (follows : Follows E p q) where
  -- what both own, as what one owns
  glued : ent 𝓤 (sep 𝓤 (sem 𝓛 (places_own (R E) p.at p.start p.first p.slots)) (sem 𝓛 (places_own (R E) q.at q.start q.first q.slots)))
      (sem 𝓛 (places_own (R E) p.at p.start p.first (p.slots ++ q.slots)))
  glued = let w = width E in
      qed 𝓛 (‵ (places_own (R E) p.at p.start p.first p.slots) ∷ ‵ (places_own (R E) q.at q.start q.first q.slots) ∷ []) ∵
      in_a_block ! p.at (λ a. places_own (R E) a p.start p.first p.slots) (id⊢ 𝓤 (never 𝓤)) (λ b o e.
      fsplit ! $ feq_l ! (λ begun. fsplit ! $ drop ! $ move ! (1 ∷ []) $
      rewrite ! 0 (λ (z : Ptr × ℕ). ‵ (places_own (R E) z.0 z.1 q.first q.slots)) (λ i. ((follows.0 ∙ e) i, follows.1 i)) refl $
      fsplit ! $ drop ! $ fsplit ! $ flt_l ! (λ ends. move ! (1 ∷ 0 ∷ []) $
      use2 𝓛 (‵ (row_own (R E) b (p.start * w + o) (p.slots ++ q.slots)))
      (glue E 𝓛 b p.slots q.slots (p.start * w + o) ((p.start + length p.slots) * w + o) (beyond p.start (length p.slots) w o)) $
      flt_i ! ((p.start + length (p.slots ++ q.slots)) * w) (2 ^ 63)
      (subst (λ k. k * w < 2 ^ 63) (let m : (p.start + length p.slots) + length q.slots ≡ p.start + length (p.slots ++ q.slots)
      = omega (arith, length-append p.slots q.slots) in m) ends) $ fjoin ! $
      feq_i ! Ptr p.first (block_ptr b (p.start * w + o)) begun $ fjoin ! $
      rewrite ! 0 (λ (a : Ptr). ‵ (places_own (R E) a p.start p.first (p.slots ++ q.slots))) (sym e) refl $ done !)))

pub join_spec : {M : Type 1} → statement M
join_spec 𝓤 𝓛 𝓜 𝓡 wired X L =
    let E : El = record { row = X; laws = L } in
    let T = F.ended X in let c = F.clauses X 𝓛 𝓜.mem 𝓡.returns in let W = walk_of 𝓛 T (stayed E) c in
    let 𝓣 = tables 𝓤 𝓛.H 𝓜 𝓡 𝓡.env in
    let goes = Goes-blank 𝓛 1 (plain (λ _. PlacesRow E)) no (λ κs x f. tt) in
    proved_at 𝓛 T (stayed E) c 𝓜 𝓡 (goes, (goes, tt)) (#self (args E)) (function E) (code.unfolded 𝓤 𝓛.H 𝓜 𝓡 wired (X, tt))
    (λ y are.
    let p = y.0.3.0 in let q = y.0.3.1.0 in let us = y.0.4.0 in let vs = y.0.4.1.0 in
    let own : Denot E → Item 𝓤 = λ d. ‵ (places_own (R E) d.at d.start d.first d.slots) in
    let live : Item 𝓤 = raw (alive 𝓛 T.signature y.0.0 y.0.1) in
    let run : List Val × List Val → SProp 𝓤 = λ ws. WpFn 𝓤 𝓛.H 𝓣.C 𝓣.Λ (function E) (ws.0 ++ (ws.1 ++ [])) (W.post y) in
    qed 𝓛 ((live ⊛ ‵ (owns (PlacesRow E ∷ PlacesRow E ∷ []) (p, (q, tt)) (us, (vs, tt))))
    ∷ (raw (fact 𝓤 (y.0.0.0 ⊑ X.lives)) ⊛ raw (fact 𝓤 (Follows E p q))) ∷ []) ∵
    move ! (1 ∷ []) $ split ! $ drop ! $ heard ! _ (λ follows. split ! $ move ! (1 ∷ []) $
    fsplit ! $ fsplit ! $ blank-had E ! us (λ eu. move ! (1 ∷ []) $ fsplit ! $ fsplit ! $ blank-had E ! vs (λ ev.
    -- [what the second owns; nothing; what the first owns; the token]
    keep ! (2 ∷ 0 ∷ 3 ∷ []) $ use2 𝓛 (own (joined E p q)) (glued E 𝓛 p q follows) $
    regoal ! (λ (ws : List Val × List Val). prop (run ws)) (λ i. (eu i, ev i)) refl $
    enter ! _ _ _ _ _ $ alloc_all ! (λ l. pass_all ! refl ((tt, (tt, tt)), ((tt, (tt, tt)), tt)) $
    sets ! (agg ! (no_more !)) refl (tt, tt) $
    sets ! (agg ! (and_then ! (get ! refl) (no_more !))) refl (tt, (tt, tt)) $
    use0 𝓛 (‵ ((Blank E).own_val (tt, tt) (blank ∷ []))) (blank-made E 𝓛) $ fjoin ! $
    returns ! (look_at ! 0 refl) $ free_all ! refl $
    suffices ! _ (leaves 𝓛 T (stayed E) c y blank (joined E p q) (tt, (tt, tt)) (tt, (tt, tt))) $
    move ! (1 ∷ 0 ∷ []) $ frame ! $ nothing ! $ nothing ! $ fjoin ! $ nothing ! $ fjoin ! $ frame ! $
    let told : Joins E p q (joined E p q) = (refl, refl, refl, refl) in says ! told $ done !)))))
