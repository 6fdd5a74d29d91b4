-- The values of `block.rt` as the machine has them: a pointer in a struct, and a struct without bytes. Assumes `Logic`.
use mathlib.Core.Path.{◌≡◌, refl, subst}
use mathlib.Core.List.{List, [], ◌∷◌, ◌++◌}
use seplogic.Ra.Ura.{Ura}
use mir.Syntax.{Ty}
use mir.Val.{Val, vstruct, vcons, vnil, of_list}
use base.Logic.{ent, sep, emp}
use types.Logic.{Logic, sem}
use types.Kit.{Item, Goal, Seq, Step, step, ‵, ◌$◌, ◌∵◌, !, qed, move, drop as skip, rewrite, fsplit, fjoin, fpick, fpack, feq_i, feq_l, done}
use denote.RattleType.{RattleType, Valss}
use denote.Laws.{Typed, Is, shows}
use denote.Param.{param, layout}
use denote.Param.Laws.{Laws, param_laws}
use denote.RawPtr.{Ptr, RawPtr, ptr_val}
use denote.Shadow.{makes_shadow}
use denote.Steps.{nothing, peeks}
use denote.Struct.Struct.{Shape, Struct, within}
use denote.Struct.Owning.{shape}
use denote.Struct.Declared as Declared
use denote.Struct.Tuple.{Tuple, tuple_type}
use Rattle.core.proofs.mem.Param.{El, R}
use Rattle.std_alloc.proofs.RcSteps.{Good, word}
use Rattle.cop_cells.specs.contracts.block.Places as P
use Rattle.cop_cells.specs.contracts.block.Base as B

module _ (E : El) where
  abbrev pub PlacesRow : RattleType
  PlacesRow = P.the_row (R E)

  abbrev pub BaseRow : RattleType
  BaseRow = B.the_row (R E)

  -- the field of a struct without bytes
  abbrev pub Blank : RattleType
  Blank = Struct (shape (P.the_type (R E)))

-- the machine value of such a struct
abbrev pub blank : Val
blank = vstruct (vcons (vstruct vnil) vnil)

pub blank-had : (E : El) {M : Type 1} {𝓤 : Ura M} {𝓛 : Logic 𝓤} {K : Type 0} {Γ : List (Item 𝓤)} {G : Goal 𝓤 𝓛.H}
    → K → (vs : List Val) → (vs ≡ blank ∷ [] → Seq K 𝓛 Γ G) → Seq K 𝓛 (‵ ((Blank E).own_val (tt, tt) vs) ∷ Γ) G
blank-had E t vs k = fpick t (λ outer. fsplit t $ feq_l t (λ all. fsplit t $ fpick t (λ inner. fsplit t $ feq_l t (λ one.
    skip t $ skip t $ k (subst (λ (ws : List Val). vs ≡ vstruct (of_list (ws ++ [])) ∷ []) one all)))))

pub blank-made : (E : El) {M : Type 1} {𝓤 : Ura M} (𝓛 : Logic 𝓤) → ent 𝓤 (emp 𝓤) (sem 𝓛 ((Blank E).own_val (tt, tt) (blank ∷ [])))
blank-made E 𝓛 = makes_shadow 𝓛 ((Blank E).own_val (tt, tt) (blank ∷ [])) (λ _. (tt, ((λ _. (tt, tt)), tt)))
    ((vstruct vnil ∷ [], tt), (refl, ((tt, (refl, tt)), tt)))

abbrev one-pointer : Shape
one-pointer = record { name = []; args = []; types = []; fields = RawPtr ∷ [] }

-- a struct of one pointer
abbrev pub Pointer : RattleType
Pointer = Struct one-pointer

module _ {M : Type 1} {𝓤 : Ura M} {𝓛 : Logic 𝓤} {K : Type 0} {Γ : List (Item 𝓤)} {G : Goal 𝓤 𝓛.H} where
  pub pointer-had : K → (p : Ptr) (vs : List Val) → (vs ≡ word p ∷ [] → Seq K 𝓛 Γ G) → Seq K 𝓛 (‵ (Pointer.own_val (p, tt) vs) ∷ Γ) G
  pointer-had t p vs k = fpick t (λ outer. fsplit t $ feq_l t (λ all. fsplit t $ feq_l t (λ one.
      skip t $ k (subst (λ (ws : List Val). vs ≡ vstruct (of_list (ws ++ [])) ∷ []) one all))))

  pub pointer-made : K → (p : Ptr) → Step K 𝓛 (‵ (Pointer.own_val (p, tt) (word p ∷ [])) ∷ Γ) G Γ G
  pointer-made t p = step (λ s. nothing t $ feq_i t (List Val) (ptr_val p ∷ []) (ptr_val p ∷ []) refl $ fjoin t $
      feq_i t (List Val) (word p ∷ []) (word p ∷ []) refl $ fjoin t $
      fpack t (Valss (RawPtr ∷ [])) (within one-pointer (p, tt) (word p ∷ [])) (ptr_val p ∷ [], tt) $ s)

-- a tuple of three
abbrev pub triple : Val → Val → Val → Val
triple u v w = vstruct (vcons u (vcons v (vcons w vnil)))

pub triple-made : {M : Type 1} {𝓤 : Ura M} (𝓛 : Logic 𝓤) (X Y Z : RattleType) (x : X.Denot) (y : Y.Denot) (z : Z.Denot) (u v w : Val)
    → ent 𝓤 (sep 𝓤 (sem 𝓛 (X.own_val x (u ∷ []))) (sep 𝓤 (sem 𝓛 (Y.own_val y (v ∷ []))) (sem 𝓛 (Z.own_val z (w ∷ [])))))
    (sem 𝓛 ((Tuple (X ∷ Y ∷ Z ∷ [])).own_val (x, y, z) (triple u v w ∷ [])))
triple-made 𝓛 X Y Z x y z u v w =
    let rows = X ∷ Y ∷ Z ∷ [] in
    qed 𝓛 (‵ (X.own_val x (u ∷ [])) ∷ ‵ (Y.own_val y (v ∷ [])) ∷ ‵ (Z.own_val z (w ∷ [])) ∷ []) ∵
    nothing ! $ move ! (3 ∷ 0 ∷ []) $ fjoin ! $ move ! (2 ∷ 0 ∷ []) $ fjoin ! $ move ! (1 ∷ 0 ∷ []) $ fjoin ! $
    feq_i ! (List Val) (triple u v w ∷ []) (triple u v w ∷ []) refl $ fjoin ! $
    fpack ! (Valss rows) (within (Declared.shape (tuple_type rows)) (x, (y, (z, tt))) (triple u v w ∷ []))
    (u ∷ [], (v ∷ [], (w ∷ [], tt))) $ done !

-- an item is one machine value
single : (τ : Ty) (vs : List Val) → Typed (τ ∷ []) vs → (v : Val) × ((vs ≡ v ∷ []) × Good τ v)
single τ [] t = absurd t
single τ (v ∷ []) t = (v, (refl, t.0))
single τ (v ∷ w ∷ vs) t = absurd t.1

pub item-had : (X : RattleType) (L : Laws X) {M : Type 1} {𝓤 : Ura M} {𝓛 : Logic 𝓤} {K : Type 0} {Γ : List (Item 𝓤)} {G : Goal 𝓤 𝓛.H}
    → K → (x : X.Denot) (vs : List Val)
    → ((v : Val) → vs ≡ v ∷ [] → Good (layout X) v → Seq K 𝓛 (‵ (X.own_val x (v ∷ [])) ∷ Γ) G)
    → Seq K 𝓛 (‵ (X.own_val x vs) ∷ Γ) G
item-had X L {𝓛 = 𝓛} t x vs k = peeks t (param 0 X) (Is (param 0 X)) (shows 𝓛 (param 0 X)) x vs (λ is.
    let v = single (layout X) vs (((param_laws 0 X L).lawful 𝓛).typed x vs is) in
    rewrite t 0 (λ (us : List Val). ‵ (X.own_val x us)) v.1.0 refl $ k v.0 v.1.0 v.1.1)
