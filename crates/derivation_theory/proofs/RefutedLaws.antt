-- Places refuted together stay so without those that another one stands for; and where the places of the root are refuted, instances span.
use Rattle.std.proofs.Common.{◌≡◌, ◌⊎◌, List, [], ◌∷◌, ◌++◌, map, IsTrue, refl, subst, inl, inr}
use Rattle.std.specs.List.{AllByRecursion, list_all}
use Rattle.std.proofs.lemmas.Bool.{and_from, false_from_ne_true}
use Rattle.plain_laws.proofs.Every.{each-append, each-parts}
use Rattle.calculus.specs.Syntax.{Problem}
use Rattle.calculus.specs.Ground.{GroundLiteral}
use Rattle.calculus.specs.Instances.{Share, clause_instance}
use Rattle.calculus.specs.ComputedInstances.{is_allowed_instance}
use Rattle.calculus.proofs.CasesLaws.{computes_instances}
use Rattle.calculus.proofs.WalkLaws.{SomeIn, Hits}
use Rattle.matrix_theory.specs.Spanning.{has_way, IsSpanning}
use Rattle.matrix_theory.proofs.WayLaws.{way_from}
use Rattle.derivation_theory.proofs.Places.{Place, root_place, IsDrawn, OneIn, IsDrawnFrom, IsHit, AreRefuted}

pub one-append : {A : Type 0} (Q : A → Type 0) (xs ys : List A) → OneIn Q (xs ++ ys) → OneIn Q xs ⊎ OneIn Q ys
one-append Q [] ys h = inr h
one-append Q (x ∷ xs) ys (inl h) = inl (inl h)
one-append Q (x ∷ xs) ys (inr h) = elim (one-append Q xs ys h) [
  | inl k ↦ inl (inr k)
  | inr k ↦ inr k
]

-- ---- one child

-- what is drawn from the place q, is drawn from one of ps too, with the same literals
abbrev pub StandFor : Problem → List Place → Place → Type 0
StandFor P ps q = (x : Share) → IsDrawn P q x → (y : Share) × IsDrawnFrom P ps y × (y.literals ≡ x.literals)

stand_for-one : (P : Problem) (ps qs : List Place) → AllByRecursion (StandFor P ps) qs → (x : Share) → IsDrawnFrom P qs x → (y : Share) × IsDrawnFrom P ps y × (y.literals ≡ x.literals)
stand_for-one P ps [] h x d = absurd d
stand_for-one P ps (q ∷ qs) h x (inl d) = h.0 x d
stand_for-one P ps (q ∷ qs) h x (inr d) = stand_for-one P ps qs h.1 x d

stand_for-each : (P : Problem) (ps qs : List Place) → AllByRecursion (StandFor P ps) qs → (xs : List Share) → AllByRecursion (IsDrawnFrom P (ps ++ qs)) xs → (ys : List Share) × AllByRecursion (IsDrawnFrom P ps) ys × ((S : GroundLiteral → Type 0) → AllByRecursion (IsHit S) ys → AllByRecursion (IsHit S) xs)
stand_for-each P ps qs h [] d = ([], tt, λ S k. tt)
stand_for-each P ps qs h (x ∷ xs) d =
    let r = stand_for-each P ps qs h xs d.1 in
    elim (one-append (λ (p : Place). IsDrawn P p x) ps qs d.0) [
      | inl k ↦ (x ∷ r.0, (k, r.1), λ S a. (a.0, r.2 S a.1))
      | inr k ↦ let y = stand_for-one P ps qs h x k in (y.0 ∷ r.0, (y.1, r.1), λ S a. (subst (OneIn S) y.2 a.0, r.2 S a.1))
    ]

pub refuted-one : (P : Problem) (ps qs : List Place) → AllByRecursion (StandFor P ps) qs → AreRefuted P (ps ++ qs) → AreRefuted P ps
refuted-one P ps qs h r = let e = stand_for-each P ps qs h r.shares r.drawn in record { shares = e.0; drawn = e.1; refuted = λ has apart hit. r.refuted has apart (e.2 (λ k. IsTrue (has k)) hit) }

-- ---- two children

-- what is drawn from q and what is drawn from r make together what is drawn from one of ps
abbrev pub StandForBoth : Problem → List Place → Place → Place → Type 0
StandForBoth P ps q r = (x y : Share) → IsDrawn P q x → IsDrawn P r y → (z : Share) × IsDrawnFrom P ps z × (z.literals ≡ x.literals ++ y.literals)

parted : (P : Problem) (ps : List Place) (q : Place) (xs : List Share) → AllByRecursion (IsDrawnFrom P (ps ++ q ∷ [])) xs → (us : List Share) × (vs : List Share) × AllByRecursion (IsDrawnFrom P ps) us × AllByRecursion (IsDrawn P q) vs × ((S : GroundLiteral → Type 0) → AllByRecursion (IsHit S) us → AllByRecursion (IsHit S) vs → AllByRecursion (IsHit S) xs)
parted P ps q [] d = ([], [], tt, tt, λ S a b. tt)
parted P ps q (x ∷ xs) d =
    let r = parted P ps q xs d.1 in
    elim (one-append (λ (p : Place). IsDrawn P p x) ps (q ∷ []) d.0) [
      | inl k ↦ (x ∷ r.0, r.1, (k, r.2), r.3, λ S a b. (a.0, r.4 S a.1 b))
      | inr (inl k) ↦ (r.0, x ∷ r.1, r.2, (k, r.3), λ S a b. (b.0, r.4 S a b.1))
      | inr (inr k) ↦ absurd k
    ]

row : (P : Problem) (ps : List Place) (q r : Place) → StandForBoth P ps q r → (v : Share) → IsDrawn P q v → (ws : List Share) → AllByRecursion (IsDrawn P r) ws → (zs : List Share) × AllByRecursion (IsDrawnFrom P ps) zs × ((S : GroundLiteral → Type 0) → AllByRecursion (IsHit S) zs → IsHit S v ⊎ AllByRecursion (IsHit S) ws)
row P ps q r h v d [] e = ([], tt, λ S a. inr tt)
row P ps q r h v d (w ∷ ws) e =
    let k = row P ps q r h v d ws e.1 in
    let z = h v w d e.0 in (
      z.0 ∷ k.0,
      (z.1, k.1),
      λ S a. elim (one-append S v.literals w.literals (subst (OneIn S) z.2 a.0)) [
        | inl b ↦ inl b
        | inr b ↦ elim (k.2 S a.1) [
          | inl c ↦ inl c
          | inr c ↦ inr (b, c)
        ]
      ],
    )

rows : (P : Problem) (ps : List Place) (q r : Place) → StandForBoth P ps q r → (vs : List Share) → AllByRecursion (IsDrawn P q) vs → (ws : List Share) → AllByRecursion (IsDrawn P r) ws → (zs : List Share) × AllByRecursion (IsDrawnFrom P ps) zs × ((S : GroundLiteral → Type 0) → AllByRecursion (IsHit S) zs → AllByRecursion (IsHit S) vs ⊎ AllByRecursion (IsHit S) ws)
rows P ps q r h [] d ws e = ([], tt, λ S a. inl tt)
rows P ps q r h (v ∷ vs) d ws e =
    let k = rows P ps q r h vs d.1 ws e in
    let z = row P ps q r h v d.0 ws e in (
      z.0 ++ k.0,
      each-append (IsDrawnFrom P ps) z.0 k.0 z.1 k.1,
      λ S a. let parts = each-parts (IsHit S) z.0 k.0 a in elim (z.2 S parts.0) [
        | inr c ↦ inr c
        | inl b ↦ elim (k.2 S parts.1) [
          | inl c ↦ inl (b, c)
          | inr c ↦ inr c
        ]
      ],
    )

pub refuted-two : (P : Problem) (ps : List Place) (q r : Place) → StandForBoth P ps q r → AreRefuted P (ps ++ q ∷ []) → AreRefuted P (ps ++ r ∷ []) → AreRefuted P ps
refuted-two P ps q r h a b =
    let x = parted P ps q a.shares a.drawn in
    let y = parted P ps r b.shares b.drawn in
    let z = rows P ps q r h x.1 x.3 y.1 y.3 in
    record {
      shares = x.0 ++ (y.0 ++ z.0);
      drawn = each-append (IsDrawnFrom P ps) x.0 (y.0 ++ z.0) x.2 (each-append (IsDrawnFrom P ps) y.0 z.0 y.2 z.1);
      refuted = λ has apart hit.
          let S : GroundLiteral → Type 0 = λ k. IsTrue (has k) in
          let first = each-parts (IsHit S) x.0 (y.0 ++ z.0) hit in
          let second = each-parts (IsHit S) y.0 z.0 first.1 in
          elim (z.2 S second.1) [
            | inl c ↦ a.refuted has apart (x.4 S first.0 c)
            | inr c ↦ b.refuted has apart (y.4 S second.0 c)
          ];
    }

-- ---- the root

spanning-each : (P : Problem) (xs : List Share) → AllByRecursion (IsDrawnFrom P (root_place P ∷ [])) xs → IsTrue (list_all (is_allowed_instance P) (map clause_instance xs))
spanning-each P [] h = refl
spanning-each P (x ∷ xs) (inl d, h) = and_from (is_allowed_instance P (clause_instance x)) (list_all (is_allowed_instance P) (map clause_instance xs)) ((let c = computes_instances P in c.allowed (clause_instance x)).1 (x, record { instance = record { admitted = d.admitted; given = d.given }; allowed = d.allowed }, refl)) (spanning-each P xs h)
spanning-each P (x ∷ xs) (inr d, h) = absurd d

one-some : (S : GroundLiteral → Type 0) (xs : List GroundLiteral) → SomeIn S xs → OneIn S xs
one-some S [] h = h
one-some S (x ∷ xs) (inl h) = inl h
one-some S (x ∷ xs) (inr h) = inr (one-some S xs h)

all-hit : (S : GroundLiteral → Type 0) (xs : List Share) → AllByRecursion (Hits S) (map clause_instance xs) → AllByRecursion (IsHit S) xs
all-hit S [] h = tt
all-hit S (x ∷ xs) h = (one-some S x.literals h.0, all-hit S xs h.1)

pub refuted-spans : (P : Problem) (r : AreRefuted P (root_place P ∷ [])) → IsSpanning P (map clause_instance r.shares)
refuted-spans P r = record {
  allowed = spanning-each P r.shares r.drawn;
  spanning = false_from_ne_true (has_way [] (map clause_instance r.shares)) (λ t. let w = way_from [] (map clause_instance r.shares) tt t in r.refuted w.has w.apart (all-hit (λ k. IsTrue (w.has k)) r.shares w.through));
}
