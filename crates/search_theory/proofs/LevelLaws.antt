-- The goals that are being solved: a choice more, a choice that fails, a goal that is solved.
use Rattle.std.proofs.Common.{◌≡◌, ◌⊎◌, ℕ, zero, suc, List, [], ◌∷◌, ◌++◌, length, replicate, refl, sym, ◌∙◌, ap, subst, inl, inr, Bool, false}
use Rattle.std.specs.Cmp.{tied_itself}
use Rattle.std.specs.declared.cmp.Ordering.TheVariants.{Less, Equal}
use Rattle.calculus.specs.declared.sign.Side.{Side}
use Rattle.calculus.specs.Syntax.{Problem}
use Rattle.calculus.specs.Clauses.{clause_size}
use Rattle.calculus.specs.Choices.{start, reduction, extension, Choice, choice_cmp}
use Rattle.calculus.specs.Counting.{IsRising}
use Rattle.calculus.specs.Cut.{IsRegularLive, First, first, Fills, filled, fill, Stuck, stuck_later, followed_by, goals_added}
use Rattle.calculus.proofs.OrderLaws.{choice_cmp_total}
use Rattle.search_theory.specs.Exploring.{IsIn}
use Rattle.search_theory.proofs.ExploreLaws.{rising-tail}
use Rattle.search_theory.proofs.ExtensionLaws.{is_start}
use Rattle.search_theory.specs.Cutting.{open_depths, depths_after, depths_from, ComesDown, AreUntried, Level, IsLevel, level_depths, AreLevels, IsTrying, IsSettled, IsToldOf}

-- ---- what it comes down to

pub comes-itself : (P : Problem) (d n : ℕ) (c : List Choice) → ComesDown P d n c n c
comes-itself P d n c = record { solved = λ a f. f; failed = λ f. f }

-- one of the goals is solved
pub comes-next : (P : Problem) (d n : ℕ) (c : List Choice) (k : ℕ) (b a : List Choice) → First P d b a → ComesDown P d n c (suc k) b → ComesDown P d n c k a
comes-next P d n c k b a f h = record { solved = λ e g. h.solved e (fill f g); failed = λ g. h.failed (stuck_later f g) }

-- ---- places in rising lists

not-less-itself : (x : Choice) → choice_cmp x x ≡ Less → ⊥
not-less-itself x e = let z : Less ≡ Equal = sym e ∙ tied_itself choice_cmp_total x in cc z

not-both : (x y : Choice) → choice_cmp x y ≡ Less → choice_cmp y x ≡ Less → ⊥
not-both x y e f = not-less-itself x (choice_cmp_total.trans x y x e f)

-- what stands in a rising list behind its first item is greater
later-greater : (x y : Choice) (xs : List Choice) → IsRising choice_cmp (x ∷ xs) → IsIn y xs → choice_cmp x y ≡ Less
later-greater x y [] h (k, e) = cc e
later-greater x y (z ∷ xs) h (zero, e) = let q : z ≡ y = cc e in subst (λ w. choice_cmp x w ≡ Less) q h.0
later-greater x y (z ∷ xs) h (suc k, e) = choice_cmp_total.trans x z y h.0 (later-greater z y xs h.1 (k, e))

-- an earlier choice than the first one does not stand there
none-earlier : (x y : Choice) (xs : List Choice) → IsRising choice_cmp (x ∷ xs) → choice_cmp y x ≡ Less → ¬ IsIn y (x ∷ xs)
none-earlier x y xs h l (zero, e) = let q : x ≡ y = cc e in not-less-itself y (subst (λ w. choice_cmp y w ≡ Less) q l)
none-earlier x y xs h l (suc k, e) = not-both x y (later-greater x y xs h (k, e)) l

-- ---- a goal is solved

-- all goals of its choice are solved
pub level-solved : (P : Problem) (d : ℕ) (l : Level) (b : List Choice) → IsLevel P d l → Fills P d (goals_added P l.choice) (followed_by l.before l.choice) b → First P d l.before b
level-solved P d l b h f = first l.choice h.sound f (λ y less live. elim (h.untried y live) [
  | inl i ↦ absurd (none-earlier l.choice y l.rest h.rising less i)
  | inr k ↦ k
])

-- no goal of the last level is left
pub levels-up : (P : Problem) (d : ℕ) (s : List Side) (l : Level) (ls : List Level) (c : List Choice) → AreLevels P d s (l ∷ ls) 0 c → AreLevels P d s ls l.waiting c
levels-up P d s l [] c (depths, level, down, rest) = (depths, comes-next P d (clause_size P s) (start s ∷ []) l.waiting l.before c (level-solved P d l c level (down.solved c filled)) rest.1)
levels-up P d s l (k ∷ ls) c (depths, level, down, rest) = (depths, rest.1, comes-next P d (goals_added P k.choice) (followed_by k.before k.choice) l.waiting l.before c (level-solved P d l c level (down.solved c filled)) rest.2, rest.3)

pub levels-depths : (P : Problem) (d : ℕ) (s : List Side) (ls : List Level) (n : ℕ) (c : List Choice) → AreLevels P d s ls n c → level_depths ls n ≡ open_depths P c
levels-depths P d s [] n c h = h.0
levels-depths P d s (l ∷ ls) n c h = h.0

-- the levels that are left where the leftmost open goal has a path of k goals; they are the same at each limit
pub settled : (P : Problem) (d : ℕ) (left : Bool) (s : List Side) (ls : List Level) (n : ℕ) (c : List Choice) (k : ℕ) (ks : List ℕ) → ((e : ℕ) → IsToldOf d left e → AreLevels P e s ls n c) → level_depths ls n ≡ k ∷ ks → IsSettled P d left s ls k c
settled P d left s [] zero c k ks h e = cc e
settled P d left s [] (suc n) c k ks h e = let q : 0 ≡ k = cc e in record { solved = []; others = []; waiting = n; are_all = refl; long = q; levels = h }
settled P d left s (l ∷ ls) (suc n) c k ks h e = let q : length (l ∷ ls) ≡ k = cc e in record { solved = []; others = l ∷ ls; waiting = n; are_all = refl; long = q; levels = h }
settled P d left s (l ∷ ls) zero c k ks h e =
    let r = settled P d left s ls l.waiting c k ks (λ f told. levels-up P f s l ls c (h f told)) e in
    record { solved = l ∷ r.solved; others = r.others; waiting = r.waiting; are_all = ap (λ xs. l ∷ xs) r.are_all; long = r.long; levels = r.levels }

-- no goal is left at all
pub all-solved : (P : Problem) (d : ℕ) (s : List Side) (ls : List Level) (n : ℕ) (c : List Choice) → AreLevels P d s ls n c → level_depths ls n ≡ [] → Fills P d (clause_size P s) (start s ∷ []) c
all-solved P d s [] zero c h e = h.1.solved c filled
all-solved P d s [] (suc n) c h e = cc e
all-solved P d s (l ∷ ls) (suc n) c h e = cc e
all-solved P d s (l ∷ ls) zero c h e = all-solved P d s ls l.waiting c (levels-up P d s l ls c h) e

-- ---- a choice more

pub depths-last : (P : Problem) (ks : List ℕ) (c : List Choice) (x : Choice) → depths_from P ks (c ++ x ∷ []) ≡ depths_after P x (depths_from P ks c)
depths-last P ks [] x = refl
depths-last P ks (y ∷ c) x = depths-last P (depths_after P y ks) c x

-- the goals that the choice adds lie one level deeper
level-more : (P : Problem) (l : Level) (ls : List Level) → is_start l.choice ≡ false → depths_after P l.choice (level_depths ls (suc l.waiting)) ≡ level_depths (l ∷ ls) (goals_added P l.choice)
level-more P l ls n = by l.choice n ls
  where
    by : (x : Choice) → is_start x ≡ false → (ms : List Level) → depths_after P x (level_depths ms (suc l.waiting)) ≡ replicate (goals_added P x) (suc (length ms)) ++ level_depths ms l.waiting
    by (start t) e ms = cc e
    by (reduction up) e [] = refl
    by (reduction up) e (m ∷ ms) = refl
    by (extension t place) e [] = refl
    by (extension t place) e (m ∷ ms) = refl

-- a choice is tried by which a regular tree grows
pub trying-next : (P : Problem) (d : ℕ) (s : List Side) (ls : List Level) (waiting : ℕ) (c : List Choice) (x : Choice) (rest : List Choice) → IsTrying P d s ls waiting c (x ∷ rest) → is_start x ≡ false → IsRegularLive P d (followed_by c x) → AreLevels P d s (record { before = c; choice = x; rest = rest; waiting = waiting } ∷ ls) (goals_added P x) (followed_by c x)
trying-next P d s ls waiting c x rest h n live =
    let l : Level = record { before = c; choice = x; rest = rest; waiting = waiting } in
    let e = levels-depths P d s ls (suc waiting) c h.levels in (
      sym (level-more P l ls n) ∙ ap (depths_after P x) e ∙ sym (depths-last P [] c x),
      record { sound = live; rising = h.rising; untried = h.complete },
      comes-itself P d (goals_added P x) (followed_by c x),
      h.levels,
    )

-- the next choice fails
pub trying-less : (P : Problem) (d : ℕ) (s : List Side) (ls : List Level) (waiting : ℕ) (c : List Choice) (x : Choice) (rest : List Choice) → IsTrying P d s ls waiting c (x ∷ rest) → (IsRegularLive P d (followed_by c x) → Stuck P d (goals_added P x) (followed_by c x)) → IsTrying P d s ls waiting c rest
trying-less P d s ls waiting c x rest h fails = record {
  levels = h.levels;
  rising = rising-tail choice_cmp x rest h.rising;
  complete = λ y live. elim (h.complete y live) [ inl i ↦ by y live i | inr k ↦ inr k ];
}
  where
    by : (y : Choice) → IsRegularLive P d (followed_by c y) → IsIn y (x ∷ rest) → IsIn y rest ⊎ Stuck P d (goals_added P y) (followed_by c y)
    by y live (zero, e) = let q : x ≡ y = cc e in inr (subst (λ z. IsRegularLive P d (followed_by c z) → Stuck P d (goals_added P z) (followed_by c z)) q fails live)
    by y live (suc k, e) = inl (k, e)

-- ---- the start

pub levels-start : (P : Problem) (d : ℕ) (s : List Side) → AreLevels P d s [] (clause_size P s) (start s ∷ [])
levels-start P d s = (refl, comes-itself P d (clause_size P s) (start s ∷ []))

-- the leftmost goal of the levels that are left, with all its choices to try
pub trying-first : (P : Problem) (d e : ℕ) (left : Bool) (s : List Side) (ls : List Level) (k : ℕ) (c xs : List Choice) → (h : IsSettled P d left s ls k c) → IsToldOf d left e → IsRising choice_cmp xs → AreUntried P e c xs → IsTrying P e s h.others h.waiting c xs
trying-first P d e left s ls k c xs h told r u = record { levels = h.levels e told; rising = r; complete = u }
