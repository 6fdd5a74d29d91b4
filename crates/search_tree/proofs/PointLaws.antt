-- Choice points: the next choice of a goal.
use Rattle.std.proofs.Common.{◌≡◌, ◌+◌, ◌-◌, ◌<◌, ◌≤◌, ℕ, zero, suc, List, [], ◌∷◌, ◌++◌, drop, length, map, take, Bool, true, false, not, ◌==◌, refl, sym, ◌∙◌, ap, ap₂, subst, Option, None, Some, slice_get, slice_index_or, arith, nat_lt, if◌then◌else◌, eq-eqb, eqb-true}
use Rattle.std.proofs.lemmas.Bool.{and_parts, false≢true}
use Rattle.std.proofs.lemmas.List.{length-map, take_all}
use Rattle.std.proofs.lemmas.Option.{slice_get_within}
use Rattle.plain_laws.proofs.Places.{take-whole, drop-end, drop-there}
use Rattle.plain_laws.proofs.Options.{same-some}
use Rattle.calculus.specs.Choices.{Choice, reduction}
use Rattle.calculus.specs.Equality.{sign_eq}
use Rattle.calculus.specs.Kinds.{other}
use Rattle.store_theory.specs.Stores.{IsGood, Store, cut_at}
use Rattle.calculus.specs.Syntax.{Problem}
use Rattle.calculus.specs.declared.sign.Sign.{Sign}
use Rattle.matrix_build.specs.MatrixView.{the_place}
use Rattle.matrix_build.specs.declared.index.Place.{Place}
use Rattle.store_theory.specs.Systems.{CellAtom}
use Rattle.search_theory.specs.Matrix.{MatrixClause, MatrixPlace, places}
use Rattle.search_theory.specs.OrderedChoices.{choices_at, extension_at, extensions, meets, reductions_from}
use Rattle.search_theory.specs.States.{CellGoal}
use Rattle.search_theory.proofs.ChoiceLaws.{extensions-by_index}
use Rattle.search_tree.specs.Points.{HasExtensions, HasUntried, IsMoveAt, IsNextAncestor, IsPoint, row_of, the_move}
use Rattle.search_tree.specs.Running.{ExtendsBy, IsAtGoal}
use Rattle.search_tree.specs.Weights.{weight}
use Rattle.search_tree.specs.Trees.{IsGoalAt, IsPath, atom_at}
use Rattle.term_store.specs.StoreView.{the_mark}
use Rattle.search_tree.specs.declared.point.Move.{Move}
use Rattle.search_tree.specs.declared.point.Move.TheVariants.{Extend, Reduce}
use Rattle.search_tree.specs.declared.point.Point.{Point}
use Rattle.search_tree.specs.declared.tree.Goal.{Goal}
use Rattle.search_tree.specs.declared.tree.Step.{Step}
use Rattle.search_tree.proofs.MoveLaws.{goal-here}
use Rattle.search_tree.proofs.TreeLaws.{AncestorAt, ancestor-on, atom-found}
use Rattle.search_tree.proofs.PlaceLaws.{about-sign, about-symbol, place-found, place-stands}

-- ---- extensions

-- the extensions of a point that was just made
pub extensions-first : (m : List MatrixClause) (d : ℕ) (p : Point) (g : CellGoal) (depth : ℕ) → p.next ≡ 0 → p.end ≡ (if nat_lt depth d then length (places m g.literal.symbol (other g.literal.sign)) else 0) → depth ≡ length g.path → d ≤ 201 → HasExtensions m d p g (if nat_lt (length g.path) d then extensions g.literal.symbol (other g.literal.sign) m else [])
extensions-first m d p g depth en ee ed l = by (nat_lt (length g.path) d) refl (ee ∙ ap (λ k. if nat_lt k d then length (places m g.literal.symbol (other g.literal.sign)) else 0) ed)
  where
    ps : List MatrixPlace
    ps = places m g.literal.symbol (other g.literal.sign)

    by : (b : Bool) → nat_lt (length g.path) d ≡ b → p.end ≡ (if nat_lt (length g.path) d then length (places m g.literal.symbol (other g.literal.sign)) else 0) → HasExtensions m d p g (if nat_lt (length g.path) d then extensions g.literal.symbol (other g.literal.sign) m else [])
    by true q e =
        let end : p.end ≡ length (places m g.literal.symbol (other g.literal.sign)) = e ∙ ap (λ b. if b then length (places m g.literal.symbol (other g.literal.sign)) else 0) q in
        record {
          next = omega (arith, en);
          end = omega (arith, end);
          deep = λ k. q;
          limit = l;
          are = ap (λ b. if b then extensions g.literal.symbol (other g.literal.sign) m else []) q
              ∙ sym (extensions-by_index m g.literal.symbol (other g.literal.sign))
              ∙ ap (map (extension_at m)) (sym (take_all (length (places m g.literal.symbol (other g.literal.sign))) (places m g.literal.symbol (other g.literal.sign)) (omega arith)))
              ∙ ap₂ (λ a b. map (extension_at m) (drop a (take b (places m g.literal.symbol (other g.literal.sign))))) (sym en) (sym end);
        }
    by false q e =
        let end : p.end ≡ 0 = e ∙ ap (λ b. if b then length (places m g.literal.symbol (other g.literal.sign)) else 0) q in
        record {
          next = omega (arith, en);
          end = omega (arith, end);
          deep = λ k. absurd (omega (arith, k, end));
          limit = l;
          are = ap (λ b. if b then extensions g.literal.symbol (other g.literal.sign) m else []) q
              ∙ ap₂ (λ a b. map (extension_at m) (drop a (take b (places m g.literal.symbol (other g.literal.sign))))) (sym en) (sym end);
        }

-- there is none
pub extension-none : (m : List MatrixClause) (d : ℕ) (p : Point) (g : CellGoal) (xs : List Choice) → HasExtensions m d p g xs → p.next ≡ p.end → xs ≡ []
extension-none m d p g xs h e = h.are ∙ ap (map (extension_at m)) (drop-end (take p.end (places m g.literal.symbol (other g.literal.sign))) p.next (short p.end (places m g.literal.symbol (other g.literal.sign)) p.next e))
  where
    short : (n : ℕ) (ps : List MatrixPlace) (k : ℕ) → k ≡ n → length (take n ps) ≤ k
    short zero ps k e = omega arith
    short (suc n) [] k e = omega arith
    short (suc n) (q ∷ ps) zero e = absurd (omega (arith, e))
    short (suc n) (q ∷ ps) (suc k) e = let l = short n ps k (omega (arith, e)) in omega (arith, l)

get-taken : {A : Type 0} (n : ℕ) (xs : List A) (i : ℕ) (x : A) → i < n → slice_get xs i ≡ Some x → slice_get (take n xs) i ≡ Some x
get-taken n [] i x l e = let z : None ≡ Some x = e in absurd (cc z)
get-taken zero (y ∷ xs) i x l e = absurd (omega (arith, l))
get-taken (suc n) (y ∷ xs) zero x l e = e
get-taken (suc n) (y ∷ xs) (suc i) x l e = get-taken n xs i x (omega (arith, l)) e

-- the next one
pub record NextExtension (m : List MatrixClause) (d : ℕ) (g : CellGoal) (xs : List Choice) (after : Point) (q : MatrixPlace) : Type 0 where
  pub extends : ExtendsBy m d g q
  pub rest : List Choice
  pub are : xs ≡ extension_at m q ∷ rest
  pub has_rest : HasExtensions m d after g rest

pub extension-next : (m : List MatrixClause) (d : ℕ) (p after : Point) (g : CellGoal) (xs : List Choice) (q : MatrixPlace) → HasExtensions m d p g xs → ¬ (p.next ≡ p.end) → slice_get (places m g.literal.symbol (other g.literal.sign)) p.next ≡ Some q → after.next ≡ p.next + 1 → after.end ≡ p.end → NextExtension m d g xs after q
extension-next m d p after g xs q h n e en ee =
    let l = h.next in
    let inside : p.next < p.end = omega (arith, l, n) in
    let more : p.next + 1 ≡ suc p.next = omega arith in
    let w = place-stands m g.literal.symbol (other g.literal.sign) p.next q e in
    record {
      extends = record {
        deep = h.deep (omega (arith, inside));
        limit = h.limit;
        clause = w.clause;
        stands = place-found m g.literal.symbol (other g.literal.sign) q w;
        literal = w.literal;
        there = w.there;
        signs = about-sign g.literal.symbol g.literal.sign w.literal w.about;
        symbols = about-symbol g.literal.symbol (other g.literal.sign) w.literal w.about;
      };
      rest = map (extension_at m) (drop (suc p.next) (take p.end (places m g.literal.symbol (other g.literal.sign))));
      are = h.are ∙ ap (map (extension_at m)) (drop-there (take p.end (places m g.literal.symbol (other g.literal.sign))) p.next q (get-taken p.end (places m g.literal.symbol (other g.literal.sign)) p.next q inside e));
      has_rest = record {
        next = omega (arith, en, ee, inside);
        end = let k = h.end in omega (arith, ee, k);
        deep = λ k. h.deep (omega (arith, inside));
        limit = h.limit;
        are = ap₂ (λ a b. map (extension_at m) (drop a (take b (places m g.literal.symbol (other g.literal.sign))))) (sym (en ∙ more)) (sym ee);
      };
    }

-- ---- a point that was just made

pub places-same : (m : List MatrixClause) (items : List Place) (symbol : ℕ) (sign : Sign) (a b : CellAtom) → map the_place items ≡ places m symbol sign → symbol ≡ a.symbol → sign ≡ other a.sign → a ≡ b → map the_place items ≡ places m b.symbol (other b.sign)
places-same m items symbol sign a b e es en ab = e ∙ ap₂ (places m) es en ∙ ap (λ (x : CellAtom). places m x.symbol (other x.sign)) ab

pub places-count : (m : List MatrixClause) (items : List Place) (symbol : ℕ) (sign : Sign) (a b : CellAtom) → map the_place items ≡ places m symbol sign → symbol ≡ a.symbol → sign ≡ other a.sign → a ≡ b → length items ≡ length (places m b.symbol (other b.sign))
places-count m items symbol sign a b e es en ab = sym (length-map items the_place) ∙ ap length (places-same m items symbol sign a b e es en ab)

-- the row of the index for a goal of the tree
pub goal-row : (m : List MatrixClause) (steps : List Step) (goals : List Goal) (goal : ℕ) (g : CellGoal) (items : List Place) (a : CellAtom) (sign : Sign) → IsGoalAt steps goals goal g → ((x : Goal) → slice_get goals goal ≡ Some x → atom_at steps x ≡ Some a) → map the_place items ≡ places m a.symbol sign → sign ≡ other a.sign → map the_place items ≡ row_of m g
goal-row m steps goals goal g items a sign at f e es = places-same m items a.symbol sign a g.literal e refl es (atom-found steps goals goal g a at f)

pub depth-of : (steps : List Step) (goals : List Goal) (goal : ℕ) (g : CellGoal) (at : Goal) → IsGoalAt steps goals goal g → slice_get goals goal ≡ Some at → at.depth ≡ length g.path
depth-of steps goals goal g at h e = sym (ap (λ (x : Goal). x.depth) (same-some (slice_get goals goal) h.goal at h.stands e)) ∙ h.is_goal.depth

pub point-first : (P : Problem) (m : List MatrixClause) (base d : ℕ) (c : List Choice) (s : Store) (steps : List Step) (goals : List Goal) (goal : ℕ) (g : CellGoal) (at : Goal) (p : Point) → IsGood (the_mark p.mark) s → cut_at (the_mark p.mark) s ≡ s → p.steps ≡ length steps → p.goals ≡ length goals → p.goal ≡ goal → p.up ≡ 0 → p.above ≡ at.above → p.depth ≡ at.depth → IsAtGoal P m base d c s steps goals goal g → slice_get goals goal ≡ Some at → HasExtensions m d p g (if nat_lt (length g.path) d then extensions g.literal.symbol (other g.literal.sign) m else []) → IsPoint P m base d s steps goals p c (choices_at m d g) g
point-first P m base d c s steps goals goal g at p good whole es eg ep eu ea ed h e ext =
    let here = goal-here P m base d c s steps goals goal g h in
    let path : IsPath steps goals p.above (drop 0 g.path) = subst (λ k. IsPath steps goals k g.path) (sym ea) (subst (λ (x : Goal). IsPath steps goals x.above g.path) (same-some (slice_get goals goal) here.goal at here.stands e) here.is_goal.path) in
    record {
      good = good;
      at = subst (λ n. IsAtGoal P m base d c (cut_at (the_mark p.mark) s) (take p.steps steps) (take p.goals goals) n g) (sym ep)
          (subst (λ z. IsAtGoal P m base d c z (take p.steps steps) (take p.goals goals) goal g) (sym whole)
          (subst (λ xs. IsAtGoal P m base d c s xs (take p.goals goals) goal g) (sym (take-whole p.steps steps es))
          (subst (λ ys. IsAtGoal P m base d c s steps ys goal g) (sym (take-whole p.goals goals eg)) h)));
      steps_within = omega (arith, es);
      goals_within = omega (arith, eg);
      choices = record {
        above = subst (λ xs. IsPath xs (take p.goals goals) p.above (drop p.up g.path)) (sym (take-whole p.steps steps es)) (subst (λ ys. IsPath steps ys p.above (drop p.up g.path)) (sym (take-whole p.goals goals eg)) (subst (λ n. IsPath steps goals p.above (drop n g.path)) (sym eu) path));
        depth = ed ∙ depth-of steps goals goal g at here e;
        later = if nat_lt (length g.path) d then extensions g.literal.symbol (other g.literal.sign) m else [];
        extensions = ext;
        are = ap (λ n. reductions_from (suc n) g.literal (drop n g.path) ++ (if nat_lt (length g.path) d then extensions g.literal.symbol (other g.literal.sign) m else [])) (sym eu);
      };
    }

-- ---- the next ancestor

pub reductions-next : (g : CellGoal) (up : ℕ) (a : CellAtom) → slice_get g.path up ≡ Some a → reductions_from (suc up) g.literal (drop up g.path) ≡ (if meets g.literal a then reduction (suc up) ∷ [] else []) ++ reductions_from (suc (suc up)) g.literal (drop (suc up) g.path)
reductions-next g up a e = ap (reductions_from (suc up) g.literal) (drop-there g.path up a e)

-- reductions by the ancestors before this one were passed
pub record PassedAncestors (steps : List Step) (goals : List Goal) (g : CellGoal) (before now : Point) (i : ℕ) : Type 0 where
  pub number : now.up ≡ before.up + i
  pub above : IsPath steps goals now.above (drop now.up g.path)
  pub left : reductions_from (suc before.up) g.literal (drop before.up g.path) ≡ reductions_from (suc now.up) g.literal (drop now.up g.path)

path-ended : (steps : List Step) (goals : List Goal) (k : Option ℕ) (path : List CellAtom) → IsPath steps goals k path → k ≡ None → path ≡ []
path-ended steps goals k [] h e = refl
path-ended steps goals k (a ∷ path) (i, x, is, stands, atom, rest) e = let z : None ≡ Some i = sym e ∙ is in absurd (cc z)

pub ancestors-none : (steps : List Step) (goals : List Goal) (g : CellGoal) (before now : Point) (i : ℕ) → PassedAncestors steps goals g before now i → now.above ≡ None → IsNextAncestor steps goals g before now None
ancestors-none steps goals g before now i h e = record { move = tt; above = h.above; left = h.left; ended = λ q. path-ended steps goals now.above (drop now.up g.path) h.above e; rises = let n = h.number in omega (arith, n); raised = λ n. absurd (n refl) }

pub ancestors-all : (steps : List Step) (goals : List Goal) (g : CellGoal) (before now : Point) (i : ℕ) → PassedAncestors steps goals g before now i → length g.path ≤ i → IsNextAncestor steps goals g before now None
ancestors-all steps goals g before now i h l = record { move = tt; above = h.above; left = h.left; ended = λ q. let n = h.number in drop-end g.path now.up (omega (arith, n, l)); rises = let n = h.number in omega (arith, n); raised = λ n. absurd (n refl) }

-- the ancestor that is looked at
pub ancestor-there : (steps : List Step) (goals : List Goal) (g : CellGoal) (before now : Point) (i j : ℕ) → PassedAncestors steps goals g before now i → now.above ≡ Some j → AncestorAt steps goals g j now.up
ancestor-there steps goals g before now i j h e = ancestor-on steps goals g j now.up (subst (λ k. IsPath steps goals k (drop now.up g.path)) e h.above)

ancestor-above : (steps : List Step) (goals : List Goal) (g : CellGoal) (up j : ℕ) (after : Point) (x : Goal) → (w : AncestorAt steps goals g j up) → slice_get goals j ≡ Some x → after.above ≡ x.above → after.up ≡ up + 1 → IsPath steps goals after.above (drop after.up g.path)
ancestor-above steps goals g up j after x w ex ea eu = subst (λ k. IsPath steps goals k (drop after.up g.path)) (sym ea) (subst (λ n. IsPath steps goals x.above (drop n g.path)) (sym eu) (subst (λ (y : Goal). IsPath steps goals y.above (drop (up + 1) g.path)) (same-some (slice_get goals j) w.goal x w.stands ex) w.rest))

pub ancestor-met : (steps : List Step) (goals : List Goal) (g : CellGoal) (before now after : Point) (i j : ℕ) (a b : CellAtom) (x : Goal) → PassedAncestors steps goals g before now i → now.above ≡ Some j → after.up ≡ now.up + 1 → slice_get goals j ≡ Some x → after.above ≡ x.above → a ≡ g.literal → ((h : Goal) → slice_get goals j ≡ Some h → atom_at steps h ≡ Some b) → meets a b ≡ true → IsNextAncestor steps goals g before after (Some (Reduce after.up j))
ancestor-met steps goals g before now after i j a b x h e eu ex ea ga gb met =
    let w = ancestor-there steps goals g before now i j h e in
    let same : b ≡ w.atom = same-some (atom_at steps w.goal) b w.atom (gb w.goal w.stands) w.is_atom in
    let next : after.up ≡ suc now.up = omega (arith, eu) in
    let meet : meets g.literal w.atom ≡ true = ap₂ meets (sym ga) (sym same) ∙ met in
    let parts = and_parts (not (sign_eq g.literal.sign w.atom.sign)) (g.literal.symbol == w.atom.symbol) meet in
    record {
      move = record { number = now.up; is_number = next; atom = w.atom; on_path = w.on_path; goal = w.goal; stands = w.stands; is_atom = w.is_atom; signs = parts.0; symbols = eqb-true g.literal.symbol w.atom.symbol parts.1 };
      above = ancestor-above steps goals g now.up j after x w ex ea eu;
      left = h.left ∙ reductions-next g now.up w.atom w.on_path ∙ ap (λ b. (if b then reduction (suc now.up) ∷ [] else []) ++ reductions_from (suc (suc now.up)) g.literal (drop (suc now.up) g.path)) meet ∙ ap (λ n. reduction n ∷ reductions_from (suc n) g.literal (drop n g.path)) (sym next);
      ended = λ q. let z : Some (Reduce after.up j) ≡ None = q in absurd (cc z);
      rises = let n = h.number in omega (arith, n, eu);
      raised = λ q.
          let n = h.number in
          let l = slice_get_within g.path now.up w.atom w.on_path in
          (omega (arith, n, eu), omega (arith, n, l));
    }

pub ancestor-passed : (steps : List Step) (goals : List Goal) (g : CellGoal) (before now after : Point) (i j : ℕ) (a b : CellAtom) (x : Goal) → PassedAncestors steps goals g before now i → now.above ≡ Some j → after.up ≡ now.up + 1 → slice_get goals j ≡ Some x → after.above ≡ x.above → a ≡ g.literal → ((h : Goal) → slice_get goals j ≡ Some h → atom_at steps h ≡ Some b) → meets a b ≡ false → PassedAncestors steps goals g before after (i + 1)
ancestor-passed steps goals g before now after i j a b x h e eu ex ea ga gb met =
    let w = ancestor-there steps goals g before now i j h e in
    let same : b ≡ w.atom = same-some (atom_at steps w.goal) b w.atom (gb w.goal w.stands) w.is_atom in
    let next : after.up ≡ suc now.up = omega (arith, eu) in
    let meet : meets g.literal w.atom ≡ false = ap₂ meets (sym ga) (sym same) ∙ met in
    record {
      number = let n = h.number in omega (arith, eu, n);
      above = ancestor-above steps goals g now.up j after x w ex ea eu;
      left = h.left ∙ reductions-next g now.up w.atom w.on_path ∙ ap (λ b. (if b then reduction (suc now.up) ∷ [] else []) ++ reductions_from (suc (suc now.up)) g.literal (drop (suc now.up) g.path)) meet ∙ ap (λ n. reductions_from (suc n) g.literal (drop n g.path)) (sym next);
    }

-- ---- the next choice

pub extensions-moved : (m : List MatrixClause) (d : ℕ) (before after : Point) (g : CellGoal) (xs : List Choice) → HasExtensions m d before g xs → after.next ≡ before.next → after.end ≡ before.end → HasExtensions m d after g xs
extensions-moved m d before after g xs h en ee = record {
  next = let l = h.next in omega (arith, l, en, ee);
  end = let l = h.end in omega (arith, l, ee);
  deep = λ k. h.deep (omega (arith, k, ee));
  limit = h.limit;
  are = h.are ∙ ap₂ (λ a b. map (extension_at m) (drop a (take b (places m g.literal.symbol (other g.literal.sign))))) (sym en) (sym ee);
}

pub untried-reduction : (m : List MatrixClause) (d : ℕ) (steps : List Step) (goals : List Goal) (before after : Point) (g : CellGoal) (untried : List Choice) (up j : ℕ) → HasUntried m d steps goals before g untried → IsNextAncestor steps goals g before after (Some (Reduce up j)) → after.next ≡ before.next → after.end ≡ before.end → after.depth ≡ before.depth → (rest : List Choice) × (untried ≡ reduction up ∷ rest) × HasUntried m d steps goals after g rest
untried-reduction m d steps goals before after g untried up j h n en ee ed = (
  reductions_from (suc after.up) g.literal (drop after.up g.path) ++ h.later,
  h.are ∙ ap (λ xs. xs ++ h.later) n.left,
  record { above = n.above; depth = ed ∙ h.depth; later = h.later; extensions = extensions-moved m d before after g h.later h.extensions en ee; are = refl },
)

pub untried-later : (m : List MatrixClause) (d : ℕ) (steps : List Step) (goals : List Goal) (before after : Point) (g : CellGoal) (untried : List Choice) → (h : HasUntried m d steps goals before g untried) → IsNextAncestor steps goals g before after None → untried ≡ h.later
untried-later m d steps goals before after g untried h n = h.are ∙ ap (λ xs. xs ++ h.later) (n.left ∙ ap (reductions_from (suc after.up) g.literal) (n.ended refl))

pub untried-behind : (m : List MatrixClause) (d : ℕ) (steps : List Step) (goals : List Goal) (before mid after : Point) (g : CellGoal) (untried rest : List Choice) → HasUntried m d steps goals before g untried → IsNextAncestor steps goals g before mid None → HasExtensions m d after g rest → after.above ≡ mid.above → after.up ≡ mid.up → after.depth ≡ before.depth → HasUntried m d steps goals after g rest
untried-behind m d steps goals before mid after g untried rest h n ext ea eu ed = record {
  above = subst (λ k. IsPath steps goals k (drop after.up g.path)) (sym ea) (subst (λ k. IsPath steps goals mid.above (drop k g.path)) (sym eu) n.above);
  depth = ed ∙ h.depth;
  later = rest;
  extensions = ext;
  are = sym (ap (λ xs. reductions_from (suc after.up) g.literal xs ++ rest) (ap (λ k. drop k g.path) eu ∙ n.ended refl));
}

pub untried-extension : (m : List MatrixClause) (d : ℕ) (steps : List Step) (goals : List Goal) (before mid after : Point) (g : CellGoal) (untried rest : List Choice) (x : Choice) → (h : HasUntried m d steps goals before g untried) → IsNextAncestor steps goals g before mid None → h.later ≡ x ∷ rest → HasExtensions m d after g rest → after.above ≡ mid.above → after.up ≡ mid.up → after.depth ≡ before.depth → (others : List Choice) × (untried ≡ x ∷ others) × HasUntried m d steps goals after g others
untried-extension m d steps goals before mid after g untried rest x h n e ext ea eu ed = (rest, untried-later m d steps goals before mid g untried h n ∙ e, untried-behind m d steps goals before mid after g untried rest h n ext ea eu ed)

pub untried-step : (m : List MatrixClause) (d : ℕ) (steps : List Step) (goals : List Goal) (before after : Point) (g : CellGoal) (untried : List Choice) (step : Move) → HasUntried m d steps goals before g untried → IsNextAncestor steps goals g before after (Some step) → after.next ≡ before.next → after.end ≡ before.end → after.depth ≡ before.depth → IsMoveAt m d steps goals g step × ((rest : List Choice) × (untried ≡ the_move m step ∷ rest) × HasUntried m d steps goals after g rest)
untried-step m d steps goals before after g untried (Reduce up j) h n en ee ed = (n.move, untried-reduction m d steps goals before after g untried up j h n en ee ed)
untried-step m d steps goals before after g untried (Extend place) h n en ee ed = absurd n.move

-- an item of a view, where it is read with some default
pub viewed-or : {A B : Type 0} (f : A → B) (xs : List A) (i : ℕ) (d : A) → i < length xs → slice_get (map f xs) i ≡ Some (f (slice_index_or xs i d))
viewed-or f [] i d l = absurd (omega (arith, l))
viewed-or f (y ∷ xs) zero d l = refl
viewed-or f (y ∷ xs) (suc i) d l = viewed-or f xs i d (omega (arith, l))

-- the place that is read is one that was left
pub place-left : (m : List MatrixClause) (d : ℕ) (p : Point) (g : CellGoal) (xs : List Choice) (items : List Place) (x : Place) → HasExtensions m d p g xs → ¬ (p.next ≡ p.end) → map the_place items ≡ row_of m g → slice_get (row_of m g) p.next ≡ Some (the_place (slice_index_or items p.next x))
place-left m d p g xs items x h n e =
    let count = sym (length-map items the_place) ∙ ap length e in
    let l = h.next in
    let k = h.end in
    subst (λ ps. slice_get ps p.next ≡ Some (the_place (slice_index_or items p.next x))) e (viewed-or the_place items p.next x (omega (arith, l, k, n, count)))

-- by the program's test
pub places-remain : (p : Point) → (p.next == p.end) ≡ false → ¬ (p.next ≡ p.end)
places-remain p f e = false≢true (sym f ∙ eq-eqb p.next p.end e)

-- ---- what is left falls

less-left : (depth up next end depth_after up_after next_after end_after : ℕ) → depth_after ≡ depth → next_after ≡ next → end_after ≡ end → up < up_after → up < depth → (depth_after - up_after) + (end_after - next_after) + 1 < (depth - up) + (end - next) + 1
less-left depth up next end depth_after up_after next_after end_after ed en ee l k = omega (arith, ed, en, ee, l, k)

less-places : (depth up next end depth_after up_after next_after end_after : ℕ) → depth_after ≡ depth → up ≤ up_after → end_after ≡ end → next < next_after → next_after ≤ end → (depth_after - up_after) + (end_after - next_after) + 1 < (depth - up) + (end - next) + 1
less-places depth up next end depth_after up_after next_after end_after ed l ee k en = omega (arith, ed, l, ee, k, en)

-- by the next ancestor
pub ancestor-falls : (m : List MatrixClause) (d : ℕ) (steps : List Step) (goals : List Goal) (before after : Point) (g : CellGoal) (untried : List Choice) (step : Move) → HasUntried m d steps goals before g untried → IsNextAncestor steps goals g before after (Some step) → after.next ≡ before.next → after.end ≡ before.end → after.depth ≡ before.depth → weight after < weight before
ancestor-falls m d steps goals before after g untried step h n en ee ed =
    let (up, within) = n.raised (λ q. let z : Some step ≡ None = q in cc z) in
    let deep = h.depth in
    less-left before.depth before.up before.next before.end after.depth after.up after.next after.end ed en ee up (omega (arith, within, deep))

-- by a later place, where no ancestor is left
pub extension-falls : (steps : List Step) (goals : List Goal) (before mid after : Point) (g : CellGoal) → IsNextAncestor steps goals g before mid None → mid.next ≡ before.next → mid.end ≡ before.end → mid.depth ≡ before.depth → after.up ≡ mid.up → after.depth ≡ mid.depth → mid.next < after.next → after.next ≤ mid.end → after.end ≡ mid.end → weight after < weight before
extension-falls steps goals before mid after g n en ee ed up deep more within end =
    let r = n.rises in
    less-places before.depth before.up before.next before.end after.depth after.up after.next after.end (deep ∙ ed) (omega (arith, r, up)) (end ∙ ee) (omega (arith, more, en)) (omega (arith, within, ee))
