-- The walk of an allowed instance finds its turns.
use Rattle.std.proofs.Common.{◌≡◌, ℕ, suc, List, [], ◌∷◌, ◌++◌, length, take, drop, IsTrue, refl, sym, ◌∙◌, ap, subst, append_assoc, append-nil, arith, map}
use Rattle.std.proofs.Math.Seq.{take-append_seam, drop-append_seam}
use Rattle.std.specs.List.{flat_map}
use Rattle.std.specs.Option.{option_map_or}
use Rattle.calculus.specs.declared.sign.Sign.{Sign}
use Rattle.calculus.specs.declared.sign.Sign.TheVariants.{F}
use Rattle.calculus.specs.declared.sign.Side.{Side}
use Rattle.calculus.specs.declared.sign.Side.TheVariants.{Left, Right}
use Rattle.calculus.specs.declared.setting.Logic.{Logic}
use Rattle.calculus.specs.declared.kind.Shape.{Shape}
use Rattle.calculus.specs.Syntax.{Formula, Problem}
use Rattle.calculus.specs.Ground.{Value, term, steps, g_eigen, values_tree}
use Rattle.calculus.specs.Positions.{size}
use Rattle.calculus.specs.Kinds.{Signed, components, modal_of, shape_of}
use Rattle.calculus.specs.Instances.{Spot, root_spot, down_by, spot_inside, after_string, after_character, clause_instance, Share, Gives, by_plain, by_nu, by_pi, Shaped, is_literal, by_only, by_left, by_right, by_both, by_gamma, by_delta, ClauseInstance}
use Rattle.calculus.specs.ComputedInstances.{Part, is_allowed_instance}
use Rattle.calculus.specs.Tableaux.{Tableau, instances, is_closed}
use Rattle.conversion_theory.specs.Turns.{turns_of_instance, turns_of}
use Rattle.conversion_theory.proofs.HitLaws.{turn}
use Rattle.calculus.proofs.CasesLaws.{is_allowed_instance-exact, instance_of-by_cases}
use Rattle.conversion_theory.proofs.ClosedLaws.{AreAllowed, all-allowed}
use Rattle.name_order.specs.Walks.{Walked, walked, Walk, terms_at, values_at, with_turn, walk_node, walk, turns_by}
use Rattle.name_order.proofs.WalkByShape.{walk_below, walk-by}

-- a position takes the values that stand in front
node-takes : (us : List Value) (n : ℕ) (below : Walk) (p : ℕ) (taken : List Value) (ss : List Side) (vs : List Value) → n ≡ length us → walk_node n below p taken ss (us ++ vs) ≡ with_turn p (taken ++ us) (below p (taken ++ us) ss vs)
node-takes us n below p taken ss vs e =
    let first : take n (us ++ vs) ≡ us = rw e (take-append_seam us vs) in
    let rest : drop n (us ++ vs) ≡ vs = rw e (drop-append_seam us vs) in
    rw (first, rest) refl

walk-takes : (l : Logic) (s : Sign) (f : Formula) (us : List Value) (p : ℕ) (taken : List Value) (ss : List Side) (vs : List Value) → values_at (modal_of l s f) (shape_of s f) ≡ length us → walk l f s p taken ss (us ++ vs) ≡ with_turn p (taken ++ us) (walk_below l (shape_of s f) (components s f) p (taken ++ us) ss vs)
walk-takes l s f us p taken ss vs e = rw (walk-by l s f) (node-takes us (values_at (modal_of l s f) (shape_of s f)) (walk_below l (shape_of s f) (components s f)) p taken ss vs e)

-- what the shape's part of a share is to the walk: the term that it takes, and what is below
record IsBelow (l : Logic) (d : Spot) (s : Sign) (f : Formula) (x : Share) (ss : List Side) (vs : List Value) : Type 0 where
  own : List Value
  rest : List Value
  whole : x.values ++ vs ≡ own ++ rest
  count : terms_at (shape_of s f) ≡ length own
  gives : with_turn d.position (d.taken ++ own) (walk_below l (shape_of s f) (components s f) d.position (d.taken ++ own) (x.sides ++ ss) rest) ≡ walked x.turns ss vs

only-below : (l : Logic) (p : ℕ) (t : List Value) (h : Shape) (cs : List Signed) (ss : List Side) (vs : List Value) (w u : Walked) → walk_below l h cs p t ss vs ≡ w → with_turn p t w ≡ u → with_turn p (t ++ []) (walk_below l h cs p (t ++ []) ss vs) ≡ u
only-below l p t h cs ss vs w u e k = rw (append-nil t, e) k

mutual
  pub gives-walk : (l : Logic) (c : Spot) (s : Sign) (f : Formula) (x : Share) → Gives l c s f x → (ss : List Side) (vs : List Value) → walk l f s c.position c.taken (x.sides ++ ss) (x.values ++ vs) ≡ walked x.turns ss vs
  gives-walk l c s f x (by_plain e g) ss vs =
      let b = below-walk l c s f x g ss vs in
      let n : values_at (modal_of l s f) (shape_of s f) ≡ length b.own = let k = b.count in rw e (omega arith) in
      rw b.whole (walk-takes l s f b.own c.position c.taken (x.sides ++ ss) b.rest n ∙ b.gives)
  gives-walk l c s f x (by_nu {x = z} w e q g) ss vs =
      let b = below-walk l (after_string l w c) s f z g ss vs in
      let n : values_at (modal_of l s f) (shape_of s f) ≡ length (steps w ∷ b.own) = let k = b.count in rw e (omega arith) in
      let same : c.taken ++ (steps w ∷ b.own) ≡ (c.taken ++ steps w ∷ []) ++ b.own = sym (append_assoc c.taken (steps w ∷ []) b.own) in
      rw b.whole (walk-takes l s f (steps w ∷ b.own) c.position c.taken (z.sides ++ ss) b.rest n ∙ ap (λ t. with_turn c.position t (walk_below l (shape_of s f) (components s f) c.position t (z.sides ++ ss) b.rest)) same ∙ b.gives)
  gives-walk l c s f x (by_pi {x = z} e g) ss vs =
      let b = below-walk l (after_character l c) s f z g ss vs in
      let n : values_at (modal_of l s f) (shape_of s f) ≡ length b.own = let k = b.count in rw e (omega arith) in
      rw b.whole (walk-takes l s f b.own c.position c.taken (z.sides ++ ss) b.rest n ∙ b.gives)

  below-walk : (l : Logic) (d : Spot) (s : Sign) (f : Formula) (x : Share) → Shaped l d s f x → (ss : List Side) (vs : List Value) → IsBelow l d s f x ss vs
  below-walk l d s f x (is_literal {p = q} {ts = ts}) ss vs = record { own = []; rest = vs; whole = refl; count = refl; gives = ap (λ t. walked (turn d.position t ∷ []) ss vs) (append-nil d.taken) }
  below-walk l d s f x (by_only {x = z} {a = a} e q g) ss vs = record {
    own = [];
    rest = z.values ++ vs;
    whole = refl;
    count = rw e refl;
    gives = only-below l d.position d.taken (shape_of s f) (components s f) (z.sides ++ ss) (z.values ++ vs) (walked z.turns ss vs) (walked x.turns ss vs) (rw (e, q) (gives-walk l (down_by 1 d) a.sign a.formula z g ss vs)) refl;
  }
  below-walk l d s f x (by_left {x = z} {a = a} {b = b} e q g) ss vs = record {
    own = [];
    rest = z.values ++ vs;
    whole = refl;
    count = rw e refl;
    gives = only-below l d.position d.taken (shape_of s f) (components s f) (Left ∷ (z.sides ++ ss)) (z.values ++ vs) (walked z.turns ss vs) (walked x.turns ss vs) (rw (e, q) (gives-walk l (down_by 1 d) a.sign a.formula z g ss vs)) refl;
  }
  below-walk l d s f x (by_right {x = z} {a = a} {b = b} e q g) ss vs = record {
    own = [];
    rest = z.values ++ vs;
    whole = refl;
    count = rw e refl;
    gives = only-below l d.position d.taken (shape_of s f) (components s f) (Right ∷ (z.sides ++ ss)) (z.values ++ vs) (walked z.turns ss vs) (walked x.turns ss vs) (rw (e, q) (gives-walk l (down_by (suc (size a.formula)) d) b.sign b.formula z g ss vs)) refl;
  }
  below-walk l d s f x (by_both {x = z} {y = u} {a = a} {b = b} e q g j) ss vs = record {
    own = [];
    rest = (z.values ++ u.values) ++ vs;
    whole = refl;
    count = rw e refl;
    gives = only-below l d.position d.taken (shape_of s f) (components s f) ((z.sides ++ u.sides) ++ ss) ((z.values ++ u.values) ++ vs) (walked (z.turns ++ u.turns) ss vs) (walked x.turns ss vs) (rw (e, q, append_assoc z.sides u.sides ss, append_assoc z.values u.values vs, gives-walk l (down_by 1 d) a.sign a.formula z g (u.sides ++ ss) (u.values ++ vs), gives-walk l (down_by (suc (size a.formula)) d) b.sign b.formula u j ss vs) refl) refl;
  }
  below-walk l d s f x (by_gamma {x = z} {a = a} t e q g) ss vs = record {
    own = term t ∷ [];
    rest = z.values ++ vs;
    whole = refl;
    count = rw e refl;
    gives = rw (e, q) (ap (with_turn d.position (d.taken ++ term t ∷ [])) (gives-walk l (spot_inside t (d.taken ++ term t ∷ []) d) a.sign a.formula z g ss vs));
  }
  below-walk l d s f x (by_delta {x = z} {a = a} e q g) ss vs = record {
    own = [];
    rest = z.values ++ vs;
    whole = refl;
    count = rw e refl;
    gives = only-below l d.position d.taken (shape_of s f) (components s f) (z.sides ++ ss) (z.values ++ vs) (walked z.turns ss vs) (walked x.turns ss vs) (rw (e, q) (gives-walk l (spot_inside (g_eigen d.position (values_tree d.taken)) d.taken d) a.sign a.formula z g ss vs)) refl;
  }

allowed-turns : (P : Problem) (i : ClauseInstance) → IsTrue (is_allowed_instance P i) → turns_by P i ≡ turns_of_instance P i
allowed-turns P i h =
    let k = (is_allowed_instance-exact P i).0 h in
    let x = k.0 in
    let found : turns_of_instance P (clause_instance x) ≡ x.turns = ap (λ o. option_map_or (λ (y : Part). y.turns) o []) (instance_of-by_cases P x k.1.instance) in
    let walk_is : turns_by P (clause_instance x) ≡ x.turns = rw (sym (append-nil x.sides), sym (append-nil x.values)) (ap (λ (w : Walked). w.turns) (gives-walk P.setting.logic root_spot F P.formula x k.1.instance.given [] [])) in
    subst (λ j. turns_by P j ≡ turns_of_instance P j) (sym k.2) (walk_is ∙ sym found)

all-turns : (P : Problem) (is : List ClauseInstance) → AreAllowed P is → flat_map (turns_by P) is ≡ flat_map (turns_of_instance P) is
all-turns P [] h = refl
all-turns P (i ∷ is) h = rw (allowed-turns P i h.0, all-turns P is h.1) refl

pub closed-turns : (P : Problem) (d : ℕ) (t : Tableau) → IsTrue (is_closed P d t) → flat_map (turns_by P) (instances t) ≡ turns_of P t
closed-turns P d t h = all-turns P (instances t) (all-allowed P d t h)

all-lists : (P : Problem) (is : List ClauseInstance) → AreAllowed P is → map (turns_by P) is ≡ map (turns_of_instance P) is
all-lists P [] h = refl
all-lists P (i ∷ is) h = rw (allowed-turns P i h.0, all-lists P is h.1) refl

pub closed-lists : (P : Problem) (d : ℕ) (t : Tableau) → IsTrue (is_closed P d t) → map (turns_by P) (instances t) ≡ map (turns_of_instance P) (instances t)
closed-lists P d t h = all-lists P (instances t) (all-allowed P d t h)
