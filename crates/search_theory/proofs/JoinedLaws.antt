-- Connections with agreeing labels: of a list with one more choice, and of a closed tableau's choices.
use Rattle.std.proofs.Common.{◌≡◌, ℕ, List, [], ◌∷◌, ◌++◌, length, remove, false, not, ◌&&◌, ◌==◌, IsTrue, refl, sym, ◌∙◌, ap₂, subst, Option, Some, slice_get, append_assoc, append-nil}
use Rattle.std.specs.Option.{option_map_or}
use Rattle.std.proofs.lemmas.Bool.{false≢true, and_parts, and_from}
use Rattle.plain_laws.proofs.Options.{then-some}
use Rattle.calculus.specs.Syntax.{Problem}
use Rattle.calculus.specs.Ground.{GroundLiteral}
use Rattle.calculus.specs.Equality.{sign_eq, grounds_eq, label_eq, same_atom}
use Rattle.calculus.specs.Instances.{ClauseInstance}
use Rattle.calculus.specs.ComputedInstances.{is_allowed_instance}
use Rattle.calculus.specs.Tableaux.{Closing, Closings, reduce, extend, no_closings, more_closings, Tableau, are_complementary, is_complement, ancestor, is_new_on, closes, closes_all, is_closed}
use Rattle.calculus.specs.Choices.{start, reduction, extension, GroundChoice, choices_below, choices_of_all, ground_choices, Goal, Growth, are_opposite, is_opposite, goals_on, after_start, grow_at, grow, growth_of}
use Rattle.calculus.proofs.GrowthLaws.{grown_at, goal_on, allowed-instance, is_complement-opposite, extended-parts, extended-step, closed-parts, started-by}
use Rattle.calculus.proofs.EqualityLaws.{label_eq-tells}
use Rattle.search_theory.specs.Joined.{joins_at, joins_all, are_joined}
use Rattle.search_theory.proofs.LastChoice.{grow_once, none≢some}
use Rattle.search_theory.proofs.StepLaws.{if-true}

-- ---- one more choice

some-joined : (P : Problem) (cs : List GroundChoice) (o : Option Growth) (z : Growth) → o ≡ Some z → option_map_or (joins_all P cs) o false ≡ joins_all P cs z
some-joined P cs o z e = rw e refl

joins-more : (P : Problem) (cs : List GroundChoice) (c : GroundChoice) (x z y : Growth) → grow P cs x ≡ Some z → grow_once P c z ≡ Some y → IsTrue (joins_all P cs x) → IsTrue (joins_at P c z.open_goals) → IsTrue (joins_all P (cs ++ c ∷ []) x)
joins-more P [] c x z y e f j k =
    let q : x ≡ z = cc e in
    and_from (joins_at P c x.open_goals) (option_map_or (joins_all P []) (grow_at P c x.open_goals x) false) (subst (λ (w : Growth). IsTrue (joins_at P c w.open_goals)) (sym q) k) (some-joined P [] (grow_at P c x.open_goals x) y (subst (λ (w : Growth). grow_at P c w.open_goals w ≡ Some y) (sym q) f))
joins-more P (b ∷ cs) c x z y e f j k =
    let (w, first, rest) = then-some (grow P cs) (grow_at P b x.open_goals x) z e in
    let p = and_parts (joins_at P b x.open_goals) (option_map_or (joins_all P cs) (grow_at P b x.open_goals x) false) j in
    and_from (joins_at P b x.open_goals) (option_map_or (joins_all P (cs ++ c ∷ [])) (grow_at P b x.open_goals x) false) p.0
    (some-joined P (cs ++ c ∷ []) (grow_at P b x.open_goals x) w first ∙ joins-more P cs c w z y rest f (sym (some-joined P cs (grow_at P b x.open_goals x) w first) ∙ p.1) k)

joins-less : (P : Problem) (cs : List GroundChoice) (c : GroundChoice) (x z : Growth) → grow P cs x ≡ Some z → IsTrue (joins_all P (cs ++ c ∷ []) x) → IsTrue (joins_all P cs x) × IsTrue (joins_at P c z.open_goals)
joins-less P [] c x z e j =
    let q : x ≡ z = cc e in
    (refl, subst (λ (w : Growth). IsTrue (joins_at P c w.open_goals)) q (and_parts (joins_at P c x.open_goals) (option_map_or (joins_all P []) (grow_at P c x.open_goals x) false) j).0)
joins-less P (b ∷ cs) c x z e j =
    let (w, first, rest) = then-some (grow P cs) (grow_at P b x.open_goals x) z e in
    let p = and_parts (joins_at P b x.open_goals) (option_map_or (joins_all P (cs ++ c ∷ [])) (grow_at P b x.open_goals x) false) j in
    let q = joins-less P cs c w z rest (sym (some-joined P (cs ++ c ∷ []) (grow_at P b x.open_goals x) w first) ∙ p.1) in
    (and_from (joins_at P b x.open_goals) (option_map_or (joins_all P cs) (grow_at P b x.open_goals x) false) p.0 (some-joined P cs (grow_at P b x.open_goals x) w first ∙ q.0), q.1)

pub joined-last : (P : Problem) (gs : List GroundChoice) (c : GroundChoice) (x y : Growth) → growth_of P gs ≡ Some x → grow_once P c x ≡ Some y → IsTrue (are_joined P gs) → IsTrue (joins_at P c x.open_goals) → IsTrue (are_joined P (gs ++ c ∷ []))
joined-last P [] c x y e f j k = none≢some x e
joined-last P (reduction up ∷ cs) c x y e f j k = none≢some x e
joined-last P (extension i place ∷ cs) c x y e f j k = none≢some x e
joined-last P (start i ∷ cs) c x y e f j k =
    let (w, first, rest) = then-some (grow P cs) (after_start P i) x e in
    let p = and_parts (is_allowed_instance P i) (option_map_or (joins_all P cs) (after_start P i) false) j in
    and_from (is_allowed_instance P i) (option_map_or (joins_all P (cs ++ c ∷ [])) (after_start P i) false) p.0
    (some-joined P (cs ++ c ∷ []) (after_start P i) w first ∙ joins-more P cs c w x y rest f (sym (some-joined P cs (after_start P i) w first) ∙ p.1) k)

pub joined-parts : (P : Problem) (gs : List GroundChoice) (c : GroundChoice) (x : Growth) → growth_of P gs ≡ Some x → IsTrue (are_joined P (gs ++ c ∷ [])) → IsTrue (are_joined P gs) × IsTrue (joins_at P c x.open_goals)
joined-parts P [] c x e j = none≢some x e
joined-parts P (reduction up ∷ cs) c x e j = none≢some x e
joined-parts P (extension i place ∷ cs) c x e j = none≢some x e
joined-parts P (start i ∷ cs) c x e j =
    let (w, first, rest) = then-some (grow P cs) (after_start P i) x e in
    let p = and_parts (is_allowed_instance P i) (option_map_or (joins_all P (cs ++ c ∷ [])) (after_start P i) false) j in
    let q = joins-less P cs c w x rest (sym (some-joined P (cs ++ c ∷ []) (after_start P i) w first) ∙ p.1) in
    (and_from (is_allowed_instance P i) (option_map_or (joins_all P cs) (after_start P i) false) p.0 (some-joined P cs (after_start P i) w first ∙ q.0), q.1)

-- one start is joined where its instance is allowed
pub joined-start : (P : Problem) (i : ClauseInstance) (x : Growth) → growth_of P (start i ∷ []) ≡ Some x → IsTrue (is_allowed_instance P i) → IsTrue (are_joined P (start i ∷ []))
joined-start P i x e a = let (w, first, rest) = then-some (grow P []) (after_start P i) x e in and_from (is_allowed_instance P i) (option_map_or (joins_all P []) (after_start P i) false) a (some-joined P [] (after_start P i) w first)

pub start-joined : (P : Problem) (i : ClauseInstance) → IsTrue (are_joined P (start i ∷ [])) → IsTrue (is_allowed_instance P i)
start-joined P i j = (and_parts (is_allowed_instance P i) (option_map_or (joins_all P []) (after_start P i) false) j).0

-- ---- the choices of a closed tableau are joined

-- the rest is joined wherever these goals are open
abbrev JoinsRest : Problem → List GroundChoice → List Goal → Type 0
JoinsRest P rest gs = (every : List Goal) (ds : List ℕ) → IsTrue (joins_all P rest (grown_at gs every ds))

mutual
  join-one : (P : Problem) (d : ℕ) (c : Closing) (path : List GroundLiteral) (g : GroundLiteral) → IsTrue (closes P d path g c) → (gs : List Goal) (rest : List GroundChoice) → JoinsRest P rest gs → JoinsRest P (choices_below c ++ rest) (goal_on g path ∷ gs)
  join-one P d (reduce up) path g h gs rest k every ds =
      let q = and_parts (is_new_on path g) (is_complement g (ancestor path up)) h in
      let o = is_complement-opposite g (ancestor path up) q.1 in
      let here = grown_at (goal_on g path ∷ gs) every ds in
      and_from (is_complement g (ancestor path up)) (option_map_or (joins_all P rest) (grow_at P (reduction up) (goal_on g path ∷ gs) here) false) q.1
      (some-joined P rest (grow_at P (reduction up) (goal_on g path ∷ gs) here) (grown_at gs every ds) (if-true (is_opposite g (ancestor path up)) (grown_at gs every ds) o) ∙ k every ds)
  join-one P d (extend i place below) path g h gs rest k every ds =
      let e = extended-parts P d path g i place below h in
      let others = remove i.literals place in
      let o = is_complement-opposite g (slice_get i.literals place) e.complement in
      let here = grown_at (goal_on g path ∷ gs) every ds in
      let next = grown_at (goals_on (g ∷ path) others ++ gs) (every ++ goals_on (g ∷ path) others) (ds ++ length path ∷ []) in
      and_from (is_allowed_instance P i && is_complement g (slice_get i.literals place)) (option_map_or (joins_all P (choices_of_all below ++ rest)) (grow_at P (extension i place) (goal_on g path ∷ gs) here) false)
      (and_from (is_allowed_instance P i) (is_complement g (slice_get i.literals place)) e.allowed e.complement)
      (some-joined P (choices_of_all below ++ rest) (grow_at P (extension i place) (goal_on g path ∷ gs) here) next (extended-step P g path gs i place here (allowed-instance P i e.allowed) o)
      ∙ join-all P d below (g ∷ path) others e.all_closed gs rest k (every ++ goals_on (g ∷ path) others) (ds ++ length path ∷ []))

  join-all : (P : Problem) (d : ℕ) (cs : Closings) (path goals : List GroundLiteral) → IsTrue (closes_all P d path goals cs) → (gs : List Goal) (rest : List GroundChoice) → JoinsRest P rest gs → JoinsRest P (choices_of_all cs ++ rest) (goals_on path goals ++ gs)
  join-all P d no_closings path [] h gs rest k = k
  join-all P d no_closings path (g ∷ goals) h gs rest k = absurd (false≢true h)
  join-all P d (more_closings c cs) path [] h gs rest k = absurd (false≢true h)
  join-all P d (more_closings c cs) path (g ∷ goals) h gs rest k =
      let parts = and_parts (closes P d path g c) (closes_all P d path goals cs) h in
      let more = join-all P d cs path goals parts.1 gs rest k in
      let whole = join-one P d c path g parts.0 (goals_on path goals ++ gs) (choices_of_all cs ++ rest) more in
      λ every ds. subst (λ xs. IsTrue (joins_all P xs (grown_at (goals_on path (g ∷ goals) ++ gs) every ds))) (sym (append_assoc (choices_below c) (choices_of_all cs) rest)) (whole every ds)

pub joined-closed : (P : Problem) (d : ℕ) (t : Tableau) → IsTrue (is_closed P d t) → IsTrue (are_joined P (ground_choices t))
joined-closed P d t h =
    let c = closed-parts P d t h in
    let goals = goals_on [] t.start.literals in
    let all_of_them = join-all P d t.goals [] t.start.literals c.all_closed [] [] (λ every ds. refl) goals [] in
    and_from (is_allowed_instance P t.start) (option_map_or (joins_all P (choices_of_all t.goals)) (after_start P t.start) false) c.allowed
    (some-joined P (choices_of_all t.goals) (after_start P t.start) (grown_at goals goals []) (started-by P t.start c.allowed c.all_shown)
    ∙ ap₂ (λ cs gs. joins_all P cs (grown_at gs goals [])) (sym (append-nil (choices_of_all t.goals))) (sym (append-nil goals)) ∙ all_of_them)

-- ---- opposite literals at one label are complementary

pub complementary-by_label : (a b : GroundLiteral) → IsTrue (are_opposite a b) → a.label ≡ b.label → IsTrue (are_complementary a b)
complementary-by_label a b h e =
    let p = and_parts (not (sign_eq a.sign b.sign) && a.symbol == b.symbol) (grounds_eq a.args b.args) h in
    let q = and_parts (not (sign_eq a.sign b.sign)) (a.symbol == b.symbol) p.0 in
    and_from (not (sign_eq a.sign b.sign)) (a.symbol == b.symbol && grounds_eq a.args b.args && label_eq a.label b.label) q.0
    (and_from (a.symbol == b.symbol && grounds_eq a.args b.args) (label_eq a.label b.label) (and_from (a.symbol == b.symbol) (grounds_eq a.args b.args) q.1 p.1) ((label_eq-tells a.label b.label).1 e))

pub label-by_complementary : (a b : GroundLiteral) → IsTrue (are_complementary a b) → a.label ≡ b.label
label-by_complementary a b h =
    let p = and_parts (not (sign_eq a.sign b.sign)) (same_atom a b) h in
    (label_eq-tells a.label b.label).0 (and_parts (a.symbol == b.symbol && grounds_eq a.args b.args) (label_eq a.label b.label) p.1).1

pub complement-some : (a : GroundLiteral) (o : Option GroundLiteral) (b : GroundLiteral) → o ≡ Some b → IsTrue (is_opposite a o) → a.label ≡ b.label → IsTrue (is_complement a o)
complement-some a o b e h l = subst (λ (x : Option GroundLiteral). IsTrue (is_complement a x)) (sym e) (complementary-by_label a b (subst (λ (x : Option GroundLiteral). IsTrue (is_opposite a x)) e h) l)

pub some-complement : (a : GroundLiteral) (o : Option GroundLiteral) (b : GroundLiteral) → o ≡ Some b → IsTrue (is_complement a o) → a.label ≡ b.label
some-complement a o b e h = label-by_complementary a b (subst (λ (x : Option GroundLiteral). IsTrue (is_complement a x)) e h)
