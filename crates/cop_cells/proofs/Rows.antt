-- Places side by side: a row is cut and glued, and one place is taken out of it, put back or seen. Assumes `Logic`.
use Prim.Native.Nat.{ℕ, zero, suc, ◌+◌, ◌*◌, ◌<◌}
use native.Mathlib.Omega.{arith}
use native.Mathlib.Nat.{zero-mul, suc-mul, add-mul}
use mathlib.Core.Path.{◌≡◌, refl, sym, ap, ◌∙◌}
use mathlib.Core.List.{List, [], ◌∷◌, ◌++◌}
use lib.ListN.{length, take, drop, set, get_or, replicate, take-append-drop, length-take}
use lib.Seq.{drop-cons, set_split}
use seplogic.Ra.Ura.{Ura}
use base.Fraction.{full_share}
use mir.Syntax.{ty_array}
use mir.Val.{Val}
use base.Logic.{ent, sep, id⊢}
use base.Fml.{Fml, Lft, ftrue, fsep, fat, froom}
use types.Logic.{Logic, sem}
use types.Kit.{‵, ◌⊛◌, some, ◌$◌, ◌∵◌, !, qed, by, move, keep, drop as skip, use1, use2, pick, split, frame, rewrite, fsplit, fjoin, done}
use denote.Memory.{part_at}
use denote.Steps.{nothing}
use borrow.Table.OneValue.{part_out}
use Rattle.std.specs.Prelude.{Option, Some, None}
use Rattle.std.specs.Mem.{type_size}
use Rattle.core.proofs.mem.Param.{El, R, el_x, elτ}
use Rattle.cop_cells.specs.Memory.{place_own, row_own, place_lent, row_lent}

module _ (E : El) where
  -- how many bytes a place takes
  abbrev pub width : ℕ
  width = type_size (R E)

  abbrev pub Place : Type 0
  Place = Option (el_x E)

-- offsets of places
here : (w o at : ℕ) → at ≡ 0 * w + o → at ≡ o
here w o at e = omega (arith, zero-mul w)

next : (n w o at : ℕ) → at ≡ suc n * w + o → at ≡ n * w + (o + w)
next n w o at e = omega (arith, suc-mul n w)

pub beyond : (n k w o : ℕ) → (n + k) * w + o ≡ k * w + (n * w + o)
beyond n k w o = omega (arith, add-mul n k w)

pub get-within : {X : Type 0} (cs : List (Option X)) (i : ℕ) (x : X) → get_or cs i None ≡ Some x → i < length cs
get-within [] i x e = absurd cc
get-within (c ∷ cs) zero x e = omega arith
get-within (c ∷ cs) (suc i) x e = omega (arith, get-within cs i x e)

module _ (E : El) {M : Type 1} {𝓤 : Ura M} (𝓛 : Logic 𝓤) (b : ℕ) where
  open 𝓛 use {H}

  abbrev At : ℕ → Place E → Fml
  At = place_own (R E) b

  abbrev Row : ℕ → List (Place E) → Fml
  Row = row_own (R E) b

  pub cut : (xs ys : List (Place E)) (o at : ℕ) → at ≡ length xs * width E + o
      → ent 𝓤 (sem 𝓛 (Row o (xs ++ ys))) (sep 𝓤 (sem 𝓛 (Row o xs)) (sem 𝓛 (Row at ys)))
  cut [] ys o at e = qed 𝓛 (‵ (Row o ys) ∷ []) ∵
      rewrite ! 0 (λ (k : ℕ). ‵ (Row k ys)) (sym (here (width E) o at e)) refl $ nothing ! $ done !
  cut (x ∷ xs) ys o at e = qed 𝓛 (‵ (Row o (x ∷ xs ++ ys)) ∷ []) ∵ fsplit ! $ move ! (1 ∷ []) $
      use1 𝓛 (‵ (Row (o + width E) xs) ⊛ ‵ (Row at ys))
      (cut xs ys (o + width E) at (next (length xs) (width E) o at e)) $
      split ! $ move ! (2 ∷ 0 ∷ []) $ fjoin ! $ done !

  pub glue : (xs ys : List (Place E)) (o at : ℕ) → at ≡ length xs * width E + o
      → ent 𝓤 (sep 𝓤 (sem 𝓛 (Row o xs)) (sem 𝓛 (Row at ys))) (sem 𝓛 (Row o (xs ++ ys)))
  glue [] ys o at e = qed 𝓛 (‵ ftrue ∷ ‵ (Row at ys) ∷ []) ∵ skip ! $
      rewrite ! 0 (λ (k : ℕ). ‵ (Row k ys)) (here (width E) o at e) refl $ done !
  glue (x ∷ xs) ys o at e = qed 𝓛 (‵ (Row o (x ∷ xs)) ∷ ‵ (Row at ys) ∷ []) ∵ fsplit ! $ move ! (1 ∷ 2 ∷ []) $
      use2 𝓛 (‵ (Row (o + width E) (xs ++ ys)))
      (glue xs ys (o + width E) at (next (length xs) (width E) o at e)) $
      move ! (1 ∷ 0 ∷ []) $ fjoin ! $ done !

  module _ (cs : List (Place E)) (o i : ℕ) (lt : i < length cs) where
    abbrev spot : ℕ
    spot = i * width E + o

    -- all places but the i-th
    abbrev pub Others : Fml
    Others = fsep (Row o (take i cs)) (Row (spot + width E) (drop (suc i) cs))

    lower : spot ≡ length (take i cs) * width E + o
    lower = let l : i ≡ length (take i cs) = omega (arith, length-take i cs, lt) in ap (λ n. n * width E + o) l

    pub place-out : ent 𝓤 (sem 𝓛 (Row o cs)) (sep 𝓤 (sem 𝓛 (At spot (get_or cs i None))) (sem 𝓛 Others))
    place-out =
        let rest = get_or cs i None ∷ drop (suc i) cs in
        let parts : cs ≡ take i cs ++ rest = sym (take-append-drop i cs) ∙ ap (λ l. take i cs ++ l) (drop-cons cs i None lt) in
        qed 𝓛 (‵ (Row o cs) ∷ []) ∵ rewrite ! 0 (λ (l : List (Place E)). ‵ (Row o l)) parts refl $
        use1 𝓛 (‵ (Row o (take i cs)) ⊛ ‵ (Row spot rest)) (cut (take i cs) rest o spot lower) $
        split ! $ move ! (1 ∷ []) $ fsplit ! $ move ! (2 ∷ 1 ∷ []) $ fjoin ! $ move ! (1 ∷ []) $ done !

    pub place-in : (c : Place E) → ent 𝓤 (sep 𝓤 (sem 𝓛 (At spot c)) (sem 𝓛 Others)) (sem 𝓛 (Row o (set cs i c)))
    place-in c =
        let rest = c ∷ drop (suc i) cs in
        qed 𝓛 (‵ (At spot c) ∷ ‵ Others ∷ []) ∵ move ! (1 ∷ []) $ fsplit ! $ move ! (2 ∷ 1 ∷ []) $ fjoin ! $
        move ! (1 ∷ 0 ∷ []) $ use2 𝓛 (‵ (Row o (take i cs ++ rest))) (glue (take i cs) rest o spot lower) $
        rewrite ! 0 (λ (l : List (Place E)). ‵ (Row o l)) (sym (set_split cs i c lt)) refl $ done !

  -- a place forgets its value: Copy values need no drop
  pub forget : (o : ℕ) (c : Place E) → ent 𝓤 (sem 𝓛 (At o c)) (sem 𝓛 (At o None))
  forget o None = id⊢ 𝓤 _
  forget o (Some x) = qed 𝓛 (‵ (part_at (R E) full_share x b o) ∷ []) ∵
      use1 𝓛 (some (λ (v : Val). ‵ (fat full_share (elτ E) b o v) ⊛ ‵ (E.row.own_val x (v ∷ []))))
      (part_out 𝓛 (R E) refl full_share x b o) $ pick ! (λ v. split ! $ keep ! (0 ∷ []) $
      use1 𝓛 (‵ (froom (elτ E) b o)) (𝓛.laws.at_room (elτ E) b o v) $ by ! (𝓛.laws.room-raw (elτ E) b o))

  -- a new block is a row of empty places, and any row is room for a block
  pub row-of-room : (n o : ℕ) → ent 𝓤 (sem 𝓛 (froom (ty_array (elτ E) n) b o)) (sem 𝓛 (Row o (replicate n None)))
  row-of-room zero o = qed 𝓛 (‵ (froom (ty_array (elτ E) 0) b o) ∷ []) ∵ keep ! [] $ done !
  row-of-room (suc n) o = qed 𝓛 (‵ (froom (ty_array (elτ E) (suc n)) b o) ∷ []) ∵
      use1 𝓛 (‵ (froom (elτ E) b o) ⊛ ‵ (froom (ty_array (elτ E) n) b (o + width E))) (𝓛.laws.room_uncons (elτ E) n b o) $
      split ! $ use1 𝓛 (‵ (At o None)) (𝓛.laws.room-raw (elτ E) b o) $ frame ! $ by ! (row-of-room n (o + width E))

  pub room-of-row : (cs : List (Place E)) (o : ℕ) → ent 𝓤 (sem 𝓛 (Row o cs)) (sem 𝓛 (froom (ty_array (elτ E) (length cs)) b o))
  room-of-row [] o = 𝓛.laws.room_nil (elτ E) b o
  room-of-row (c ∷ cs) o = qed 𝓛 (‵ (At o c) ∷ ‵ (Row (o + width E) cs) ∷ []) ∵
      use1 𝓛 (‵ (At o None)) (forget o c) $ use1 𝓛 (‵ (froom (elτ E) b o)) (𝓛.laws.raw-room (elτ E) b o) $
      move ! (1 ∷ []) $ use1 𝓛 (‵ (froom (ty_array (elτ E) (length cs)) b (o + width E))) (room-of-row cs (o + width E)) $
      move ! (1 ∷ []) $ by ! (𝓛.laws.room_cons (elτ E) (length cs) b o)

  -- a place that is lent with its row
  module _ (κ : Lft) where
    pub place-seen : (cs : List (Place E)) (o i at : ℕ) → i < length cs → at ≡ i * width E + o
        → ent 𝓤 (sem 𝓛 (row_lent (R E) b o cs κ)) (sem 𝓛 (place_lent (R E) b at (get_or cs i None) κ))
    place-seen [] o i at lt e = absurd (omega (arith, lt))
    place-seen (c ∷ cs) o zero at lt e = qed 𝓛 (‵ (row_lent (R E) b o (c ∷ cs) κ) ∷ []) ∵ fsplit ! $ keep ! (0 ∷ []) $
        rewrite ! 0 (λ (k : ℕ). ‵ (place_lent (R E) b k c κ)) (sym (here (width E) o at e)) refl $ done !
    place-seen (c ∷ cs) o (suc i) at lt e = qed 𝓛 (‵ (row_lent (R E) b o (c ∷ cs) κ) ∷ []) ∵ fsplit ! $ keep ! (1 ∷ []) $
        by ! (place-seen cs (o + width E) i at (omega (arith, lt)) (next i (width E) o at e))
