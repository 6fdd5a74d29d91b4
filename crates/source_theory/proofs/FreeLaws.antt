-- Truth depends on the elements of the free variables alone; so a formula whose free variables are quantified is true exactly where
-- it is true whatever elements of the domain all names are.
use Rattle.std.proofs.Common.{◌≡◌, ◌⊎◌, ◌==◌, List, [], ◌∷◌, ◌++◌, Bool, true, false, ◌||◌, IsTrue, refl, sym, ◌∙◌, ap, subst, inl, inr, append_assoc, append-nil, if◌then◌else◌}
use Rattle.std.specs.List.{list_any}
use Rattle.std.proofs.lemmas.Bool.{false≢true}
use Rattle.plain_laws.proofs.Numbers.{eqb-iff}
use Rattle.calculus.specs.declared.setting.Logic.{Logic}
use Rattle.calculus.specs.declared.setting.Logic.TheVariants.{Classical, Intuitionistic, D, T as LogicT, S4, S5}
use Rattle.calculus.specs.declared.setting.Domains.{Domains}
use Rattle.calculus.specs.declared.setting.Domains.TheVariants.{Constant, Cumulative, Varying}
use Rattle.calculus.specs.Syntax.{Symbol}
use Rattle.calculus.specs.Problems.{setting_fits}
use Rattle.calculus.specs.Models.{Model, IsWorld, Reaches, IsIn, RelationFits, DomainsFit}
use Rattle.calculus.proofs.EqualityLaws.{list_eq-tells}
use Rattle.tptp_reader.specs.declared.source.ChainKind.TheVariants.{And, Or}
use Rattle.tptp_reader.specs.declared.source.BinaryKind.{BinaryKind}
use Rattle.tptp_reader.specs.declared.source.BinaryKind.TheVariants.{Imp, If, Iff, Xor, Nor, Nand}
use Rattle.tptp_reader.specs.Sources.{Name, SourceTerm, variable, apply, SourceTerms, no_terms, more_terms, Source, atom, truth, falsity, equal, unequal, not, chain, binary, for_all, exists, nec, poss, Sources, no_sources, more_sources}
use Rattle.problem_build.specs.Expansion.{first_seen, free_in, free_in_all, free_variables, same_name, unbound, variables_in, variables_in_all}
use Rattle.problem_build.proofs.ExpansionLaws.{same-self}
use Rattle.source_theory.specs.SourceTruth.{function_of, Holds, with_element, element_of, elements_of, Lasts, LastsForEach, AreAlike, JoinedBy, ForEach, ForSome, IsTrueAt, AreTrueAt, IsOneTrueAt, IsTrueForAll}
use Rattle.source_theory.proofs.TruthLaws.{IsTrueClosed, IsClosed, lasts-now, not-alike, same-equation}

-- ---- names

one-name : (x y : Name) → IsTrue (same_name x y) → x ≡ y
one-name x y h = (list_eq-tells ◌==◌ eqb-iff x y).0 h

-- both give these names the same elements
abbrev pub Agree : {E : Type 0} → (g h : Name → E) → List Name → Type 0
Agree g h [] = Unit {0}
Agree g h (x ∷ xs) = (g x ≡ h x) × Agree g h xs

agree-parts : {E : Type 0} (g h : Name → E) (xs ys : List Name) → Agree g h (xs ++ ys) → Agree g h xs × Agree g h ys
agree-parts g h [] ys a = (tt, a)
agree-parts g h (x ∷ xs) ys a = let r = agree-parts g h xs ys a.1 in ((a.0, r.0), r.1)

agree-append : {E : Type 0} (g h : Name → E) (xs ys : List Name) → Agree g h xs → Agree g h ys → Agree g h (xs ++ ys)
agree-append g h [] ys a b = b
agree-append g h (x ∷ xs) ys a b = (a.0, agree-append g h xs ys a.1 b)

agree-among : {E : Type 0} (g h : Name → E) (x : Name) (xs : List Name) → Agree g h xs → IsTrue (list_any (same_name x) xs) → g x ≡ h x
agree-among g h x [] a e = absurd (false≢true e)
agree-among {E} g h x (y ∷ ys) a e = by (same_name x y) refl e (agree-among g h x ys a.1)
  where
    by : (b : Bool) → same_name x y ≡ b → IsTrue (b || list_any (same_name x) ys) → (IsTrue (list_any (same_name x) ys) → g x ≡ h x) → g x ≡ h x
    by true s k next = let n : x ≡ y = one-name x y s in ap g n ∙ a.0 ∙ sym (ap h n)
    by false s k next = next k

-- what stands for the unbound ones and for the bound ones stands for all
agree-unbound : {E : Type 0} (g h : Name → E) (bound xs : List Name) → Agree g h bound → Agree g h (unbound bound xs) → Agree g h xs
agree-unbound g h bound [] b u = tt
agree-unbound {E} g h bound (x ∷ xs) b u = by (list_any (same_name x) bound) refl u (λ v. agree-unbound g h bound xs b v)
  where
    by : (c : Bool) → list_any (same_name x) bound ≡ c → Agree g h (if c then unbound bound xs else x ∷ unbound bound xs) → (Agree g h (unbound bound xs) → Agree g h xs) → Agree g h (x ∷ xs)
    by true e v next = (agree-among g h x bound b e, next v)
    by false e v next = (v.0, next v.1)

agree-seen : {E : Type 0} (g h : Name → E) (known xs : List Name) → Agree g h known → Agree g h (first_seen same_name known xs) → Agree g h xs
agree-seen g h known [] k s = tt
agree-seen {E} g h known (x ∷ xs) k s =
    by (list_any (same_name x) known) refl s (λ v. agree-seen g h known xs k v) (λ j v. agree-seen g h (known ++ x ∷ []) xs j v)
  where
    by : (c : Bool) → list_any (same_name x) known ≡ c → Agree g h (if c then first_seen same_name known xs else x ∷ first_seen same_name (known ++ x ∷ []) xs)
        → (Agree g h (first_seen same_name known xs) → Agree g h xs)
        → (Agree g h (known ++ x ∷ []) → Agree g h (first_seen same_name (known ++ x ∷ []) xs) → Agree g h xs) → Agree g h (x ∷ xs)
    by true e v next more = (agree-among g h x known k e, next v)
    by false e v next more = (v.0, more (agree-append g h known (x ∷ []) k (v.0, tt)) v.1)

-- the same new element for one name
agree-kept : {E : Type 0} (g h : Name → E) (y : Name) (e : E) (xs : List Name) → Agree g h xs → Agree (with_element g y e) (with_element h y e) xs
agree-kept g h y e [] a = tt
agree-kept {E} g h y e (x ∷ xs) a = (by (same_name x y), agree-kept g h y e xs a.1)
  where
    by : (b : Bool) → (if b then e else g x) ≡ (if b then e else h x)
    by true = refl
    by false = a.0

with-own : {E : Type 0} (g : Name → E) (y : Name) (e : E) → with_element g y e y ≡ e
with-own g y e = ap (λ b. if b then e else g y) (same-self y)

agree-one_more : {E : Type 0} (g h : Name → E) (y : Name) (e : E) (xs : List Name) → Agree g h xs → Agree (with_element g y e) (with_element h y e) (xs ++ y ∷ [])
agree-one_more g h y e xs a = agree-append (with_element g y e) (with_element h y e) xs (y ∷ []) (agree-kept g h y e xs a) (with-own g y e ∙ sym (with-own h y e), tt)

-- ---- truth depends on the free variables

lasts-like : {W E : Type 0} (l : Logic) (M : Model W E) (A B : W → Type 0) → ((w : W) → AreAlike (A w) (B w)) → (w : W) → AreAlike (Lasts l M A w) (Lasts l M B w)
lasts-like Intuitionistic M A B each w = (λ h v on. (each v).0 (h v on), λ h v on. (each v).1 (h v on))
lasts-like _ M A B each w = each w

each-like : {W E : Type 0} (l : Logic) (M : Model W E) (A B : E → W → Type 0) → ((x : E) (w : W) → AreAlike (A x w) (B x w)) → (w : W) → AreAlike (LastsForEach l M A w) (LastsForEach l M B w)
each-like Intuitionistic M A B each w = (λ h v on x there. (each x v).0 (h v on x there), λ h v on x there. (each x v).1 (h v on x there))
each-like _ M A B each w = (λ h x there. (each x w).0 (h x there), λ h x there. (each x w).1 (h x there))

some-like : {W E : Type 0} (M : Model W E) (w : W) (A B : E → Type 0) → ((x : E) → AreAlike (A x) (B x)) → AreAlike ((x : E) × IsIn M w x × A x) ((x : E) × IsIn M w x × B x)
some-like M w A B each = (λ s. (s.0, s.1, (each s.0).0 s.2), λ s. (s.0, s.1, (each s.0).1 s.2))

arrow-alike : {A B C K : Type 0} → AreAlike A B → AreAlike C K → AreAlike (A → C) (B → K)
arrow-alike p q = (λ f b. q.0 (f (p.1 b)), λ f a. q.1 (f (p.0 a)))

both-alike : {A B C K : Type 0} → AreAlike A B → AreAlike C K → AreAlike (A × C) (B × K)
both-alike p q = (λ x. (p.0 x.0, q.0 x.1), λ y. (p.1 y.0, q.1 y.1))

either-alike : {A B C K : Type 0} → AreAlike A B → AreAlike C K → AreAlike (A ⊎ C) (B ⊎ K)
either-alike p q = (λ x. elim x [ inl a ↦ inl (p.0 a) | inr c ↦ inr (q.0 c) ], λ y. elim y [ inl b ↦ inl (p.1 b) | inr d ↦ inr (q.1 d) ])

joined-alike : {W E : Type 0} (l : Logic) (M : Model W E) (c : BinaryKind) (A B C K : W → Type 0) → ((w : W) → AreAlike (A w) (B w)) → ((w : W) → AreAlike (C w) (K w))
    → (w : W) → AreAlike (JoinedBy l M c A C w) (JoinedBy l M c B K w)
joined-alike l M Imp A B C K p q w = lasts-like l M (λ v. A v → C v) (λ v. B v → K v) (λ v. arrow-alike (p v) (q v)) w
joined-alike l M If A B C K p q w = lasts-like l M (λ v. C v → A v) (λ v. K v → B v) (λ v. arrow-alike (q v) (p v)) w
joined-alike l M Iff A B C K p q w = lasts-like l M (λ v. AreAlike (A v) (C v)) (λ v. AreAlike (B v) (K v)) (λ v. both-alike (arrow-alike (p v) (q v)) (arrow-alike (q v) (p v))) w
joined-alike l M Xor A B C K p q w =
    lasts-like l M (λ v. ¬ Lasts l M (λ u. AreAlike (A u) (C u)) v) (λ v. ¬ Lasts l M (λ u. AreAlike (B u) (K u)) v)
    (λ v. not-alike (lasts-like l M (λ u. AreAlike (A u) (C u)) (λ u. AreAlike (B u) (K u)) (λ u. both-alike (arrow-alike (p u) (q u)) (arrow-alike (q u) (p u))) v)) w
joined-alike l M Nor A B C K p q w = lasts-like l M (λ v. ¬ (A v ⊎ C v)) (λ v. ¬ (B v ⊎ K v)) (λ v. not-alike (either-alike (p v) (q v))) w
joined-alike l M Nand A B C K p q w = lasts-like l M (λ v. ¬ (A v × C v)) (λ v. ¬ (B v × K v)) (λ v. not-alike (both-alike (p v) (q v))) w

module _ {W E : Type 0} (l : Logic) (M : Model W E) (symbols : List Symbol) where
  mutual
    term-same : (t : SourceTerm) (g h : Name → E) → Agree g h (variables_in t) → element_of M symbols g t ≡ element_of M symbols h t
    term-same (variable x) g h a = a.0
    term-same (apply f ts) g h a = ap (function_of M symbols f) (terms-same ts g h a)

    terms-same : (ts : SourceTerms) (g h : Name → E) → Agree g h (variables_in_all ts) → elements_of M symbols g ts ≡ elements_of M symbols h ts
    terms-same no_terms g h a = refl
    terms-same (more_terms t ts) g h a =
        let parts = agree-parts g h (variables_in t) (variables_in_all ts) a in
        let e = term-same t g h parts.0 in
        let es = terms-same ts g h parts.1 in
        λ i. e i ∷ es i

  for-each-same : (ys bound fs : List Name) (A : (Name → E) → W → Type 0)
      → ((g h : Name → E) → Agree g h (bound ++ ys) → Agree g h fs → (w : W) → AreAlike (A g w) (A h w))
      → (g h : Name → E) → Agree g h bound → Agree g h fs → (w : W) → AreAlike (ForEach l M ys A g w) (ForEach l M ys A h w)
  for-each-same [] bound fs A inside g h b f w = inside g h (subst (Agree g h) (sym (append-nil bound)) b) f w
  for-each-same (y ∷ ys) bound fs A inside g h b f w =
      each-like l M (λ e v. ForEach l M ys A (with_element g y e) v) (λ e v. ForEach l M ys A (with_element h y e) v)
      (λ e v. for-each-same ys (bound ++ y ∷ []) fs A (λ i j c k. inside i j (subst (Agree i j) (append_assoc bound (y ∷ []) ys) c) k)
      (with_element g y e) (with_element h y e) (agree-one_more g h y e bound b) (agree-kept g h y e fs f) v) w

  for-some-same : (ys bound fs : List Name) (A : (Name → E) → W → Type 0)
      → ((g h : Name → E) → Agree g h (bound ++ ys) → Agree g h fs → (w : W) → AreAlike (A g w) (A h w))
      → (g h : Name → E) → Agree g h bound → Agree g h fs → (w : W) → AreAlike (ForSome M ys A g w) (ForSome M ys A h w)
  for-some-same [] bound fs A inside g h b f w = inside g h (subst (Agree g h) (sym (append-nil bound)) b) f w
  for-some-same (y ∷ ys) bound fs A inside g h b f w =
      some-like M w (λ e. ForSome M ys A (with_element g y e) w) (λ e. ForSome M ys A (with_element h y e) w)
      (λ e. for-some-same ys (bound ++ y ∷ []) fs A (λ i j c k. inside i j (subst (Agree i j) (append_assoc bound (y ∷ []) ys) c) k)
      (with_element g y e) (with_element h y e) (agree-one_more g h y e bound b) (agree-kept g h y e fs f) w)

  mutual
    pub truth-same : (a : Source) (bound : List Name) (g h : Name → E) → Agree g h bound → Agree g h (free_in bound a) → (w : W) → AreAlike (IsTrueAt l M symbols a g w) (IsTrueAt l M symbols a h w)
    truth-same (atom p ts) bound g h b f w =
        let e = terms-same ts g h (agree-unbound g h bound (variables_in_all ts) b f) in
        (λ k. subst (λ es. Lasts l M (λ v. Holds M symbols p v es) w) e k, λ k. subst (λ es. Lasts l M (λ v. Holds M symbols p v es) w) (sym e) k)
    truth-same truth bound g h b f w = (λ k. k, λ k. k)
    truth-same falsity bound g h b f w = (λ k. k, λ k. k)
    truth-same (equal s t) bound g h b f w =
        let parts = agree-parts g h (variables_in s) (variables_in t) (agree-unbound g h bound (variables_in s ++ variables_in t) b f) in
        same-equation (element_of M symbols h s) (element_of M symbols h t) (element_of M symbols g s) (element_of M symbols g t) (sym (term-same s g h parts.0)) (sym (term-same t g h parts.1))
    truth-same (unequal s t) bound g h b f w =
        let parts = agree-parts g h (variables_in s) (variables_in t) (agree-unbound g h bound (variables_in s ++ variables_in t) b f) in
        not-alike (same-equation (element_of M symbols h s) (element_of M symbols h t) (element_of M symbols g s) (element_of M symbols g t) (sym (term-same s g h parts.0)) (sym (term-same t g h parts.1)))
    truth-same (not a) bound g h b f w =
        lasts-like l M (λ v. ¬ IsTrueAt l M symbols a g v) (λ v. ¬ IsTrueAt l M symbols a h v) (λ v. not-alike (truth-same a bound g h b f v)) w
    truth-same (chain And bs) bound g h b f w = all-same bs bound g h b f w
    truth-same (chain Or no_sources) bound g h b f w = (λ k. k, λ k. k)
    truth-same (chain Or (more_sources a bs)) bound g h b f w =
        let parts = agree-parts g h (free_in bound a) (free_in_all bound bs) f in
        either-alike (truth-same a bound g h b parts.0 w) (one-same bs bound g h b parts.1 w)
    truth-same (binary c a d) bound g h b f w =
        let parts = agree-parts g h (free_in bound a) (free_in bound d) f in
        joined-alike l M c (IsTrueAt l M symbols a g) (IsTrueAt l M symbols a h) (IsTrueAt l M symbols d g) (IsTrueAt l M symbols d h)
        (λ v. truth-same a bound g h b parts.0 v) (λ v. truth-same d bound g h b parts.1 v) w
    truth-same (for_all ys a) bound g h b f w =
        for-each-same ys bound (free_in (bound ++ ys) a) (IsTrueAt l M symbols a) (λ i j c k v. truth-same a (bound ++ ys) i j c k v) g h b f w
    truth-same (exists ys a) bound g h b f w =
        for-some-same ys bound (free_in (bound ++ ys) a) (IsTrueAt l M symbols a) (λ i j c k v. truth-same a (bound ++ ys) i j c k v) g h b f w
    truth-same (nec a) bound g h b f w =
        (λ k v on. (truth-same a bound g h b f v).0 (k v on), λ k v on. (truth-same a bound g h b f v).1 (k v on))
    truth-same (poss a) bound g h b f w =
        (λ k. (k.0, k.1, (truth-same a bound g h b f k.0).0 k.2), λ k. (k.0, k.1, (truth-same a bound g h b f k.0).1 k.2))

    all-same : (bs : Sources) (bound : List Name) (g h : Name → E) → Agree g h bound → Agree g h (free_in_all bound bs) → (w : W) → AreAlike (AreTrueAt l M symbols bs g w) (AreTrueAt l M symbols bs h w)
    all-same no_sources bound g h b f w = (λ k. k, λ k. k)
    all-same (more_sources a bs) bound g h b f w =
        let parts = agree-parts g h (free_in bound a) (free_in_all bound bs) f in
        both-alike (truth-same a bound g h b parts.0 w) (all-same bs bound g h b parts.1 w)

    one-same : (bs : Sources) (bound : List Name) (g h : Name → E) → Agree g h bound → Agree g h (free_in_all bound bs) → (w : W) → AreAlike (IsOneTrueAt l M symbols bs g w) (IsOneTrueAt l M symbols bs h w)
    one-same no_sources bound g h b f w = (λ k. k, λ k. k)
    one-same (more_sources a bs) bound g h b f w =
        let parts = agree-parts g h (free_in bound a) (free_in_all bound bs) f in
        either-alike (truth-same a bound g h b parts.0 w) (one-same bs bound g h b parts.1 w)

  -- by the list of its free variables
  pub free-same : (a : Source) (g h : Name → E) → Agree g h (free_variables a) → (w : W) → AreAlike (IsTrueAt l M symbols a g w) (IsTrueAt l M symbols a h w)
  free-same a g h f w = truth-same a [] g h tt (agree-seen g h [] (free_in [] a) tt f) w

-- ---- all names

-- the elements of these names, one after the other, by another choice
abbrev those : {E : Type 0} → List Name → (Name → E) → (Name → E) → Name → E
those [] g h = g
those (y ∷ ys) g h = those ys (with_element g y (h y)) h

agree-own : {E : Type 0} (g h : Name → E) (y : Name) (xs : List Name) → Agree g h xs → Agree (with_element g y (h y)) h xs
agree-own g h y [] a = tt
agree-own {E} g h y (x ∷ xs) a = (by (same_name x y) refl, agree-own g h y xs a.1)
  where
    by : (b : Bool) → same_name x y ≡ b → (if b then h y else g x) ≡ h x
    by true s = sym (ap h (one-name x y s))
    by false s = a.0

those-agree : {E : Type 0} (ys done zs : List Name) → done ++ ys ≡ zs → (g h : Name → E) → Agree g h done → Agree (those ys g h) h zs
those-agree [] done zs e g h a = subst (Agree g h) (sym (append-nil done) ∙ e) a
those-agree (y ∷ ys) done zs e g h a =
    those-agree ys (done ++ y ∷ []) zs (append_assoc done (y ∷ []) ys ∙ e) (with_element g y (h y)) h
    (agree-append (with_element g y (h y)) h done (y ∷ []) (agree-own g h y done a) (with-own g y (h y), tt))

-- all of them lie in the domain
abbrev Inside : {W E : Type 0} → Model W E → W → (Name → E) → Type 0
Inside M w g = (x : Name) → IsIn M w (g x)

inside-more : {W E : Type 0} (M : Model W E) (w : W) (g : Name → E) (y : Name) (e : E) → Inside M w g → IsIn M w e → Inside M w (with_element g y e)
inside-more M w g y e h there x = by (same_name x y)
  where
    by : (b : Bool) → IsIn M w (if b then e else g x)
    by true = there
    by false = h x

-- in intuitionistic logic domains grow
abbrev pub Grows : {W E : Type 0} → Logic → Model W E → Type 0
Grows {W} {E} Intuitionistic M = (w v : W) (x : E) → IsWorld M w → Reaches M w v → IsIn M w x → IsIn M v x
Grows _ M = Unit {0}

-- where the quantified one is true it is so for each choice
chosen : {W E : Type 0} (l : Logic) (M : Model W E) → RelationFits l M → (ys : List Name) (A : (Name → E) → W → Type 0) (g h : Name → E) (w : W) → IsWorld M w → Inside M w h
    → ForEach l M ys A g w → A (those ys g h) w
chosen l M fits [] A g h w at in_domain k = k
chosen Intuitionistic M fits (y ∷ ys) A g h w at in_domain k = chosen Intuitionistic M fits ys A (with_element g y (h y)) h w at in_domain (k w (fits.0 w at) (h y) (in_domain y))
chosen l M fits (y ∷ ys) A g h w at in_domain k = chosen l M fits ys A (with_element g y (h y)) h w at in_domain (k (h y) (in_domain y))

-- it is true for each choice, in intuitionistic logic at each successor
abbrev Ever : {W E : Type 0} → Logic → Model W E → ((Name → E) → W → Type 0) → W → Type 0
Ever {W} {E} l M A = Lasts l M (λ v. (h : Name → E) → Inside M v h → A h v)

-- what is true for each choice is true quantified. `h` is a choice that agrees with `g` on the names that are done
filled : {W E : Type 0} (l : Logic) (M : Model W E) → IsClosed M → RelationFits l M → Grows l M → (ys done zs : List Name) → done ++ ys ≡ zs → (A : (Name → E) → W → Type 0)
    → ((g h : Name → E) → Agree g h zs → (w : W) → AreAlike (A g w) (A h w))
    → (w : W) → IsWorld M w → Ever l M A w → (g h : Name → E) → Agree g h done → Inside M w h → ForEach l M ys A g w
filled {W} {E} l M closed fits grows [] done zs e A same w at k g h a in_domain =
    (same g h (subst (Agree g h) (sym (append-nil done) ∙ e) a) w).1 (lasts-now l M fits (λ v. (i : Name → E) → Inside M v i → A i v) w at k h in_domain)
filled Intuitionistic M closed fits grows (y ∷ ys) done zs e A same w at k g h a in_domain =
    λ v on x there. filled Intuitionistic M closed fits grows ys (done ++ y ∷ []) zs (append_assoc done (y ∷ []) ys ∙ e) A same v (closed w v at on)
    (λ u far. k u (fits.1 w v u at on far)) (with_element g y x) (with_element h y x) (agree-one_more g h y x done a)
    (inside-more M v h y x (λ z. grows w v (h z) at on (in_domain z)) there)
filled l M closed fits grows (y ∷ ys) done zs e A same w at k g h a in_domain =
    λ x there. filled l M closed fits grows ys (done ++ y ∷ []) zs (append_assoc done (y ∷ []) ys ∙ e) A same w at k
    (with_element g y x) (with_element h y x) (agree-one_more g h y x done a) (inside-more M w h y x in_domain there)

-- a formula that is true for each choice of elements is true with its free variables quantified
pub for_all-closed : {W E : Type 0} (l : Logic) (M : Model W E) (symbols : List Symbol) → IsClosed M → RelationFits l M → Grows l M → (a : Source) (w : W) → IsWorld M w → (x : E) → IsIn M w x
    → IsTrueForAll l M symbols a w → IsTrueClosed l M symbols a w
for_all-closed l M symbols closed fits grows a w at x there k =
    filled l M closed fits grows (free_variables a) [] (free_variables a) refl (IsTrueAt l M symbols a) (free-same l M symbols a) w at k (λ y. M.element) (λ y. x) tt (λ y. there)

-- and that one is true here for each choice: but for intuitionistic logic the two are alike
pub closed-now : {W E : Type 0} (l : Logic) (M : Model W E) (symbols : List Symbol) → RelationFits l M → (a : Source) (w : W) → IsWorld M w → (h : Name → E) → ((x : Name) → IsIn M w (h x))
    → IsTrueClosed l M symbols a w → IsTrueAt l M symbols a h w
closed-now l M symbols fits a w at h in_domain k =
    (free-same l M symbols a (those (free_variables a) (λ y. M.element) h) h (those-agree (free_variables a) [] (free_variables a) refl (λ y. M.element) h tt) w).0
    (chosen l M fits (free_variables a) (IsTrueAt l M symbols a) (λ y. M.element) h w at in_domain k)

-- the domains of a problem's setting do grow
pub grows-in : {W E : Type 0} (l : Logic) (d : Domains) (M : Model W E) → IsTrue (setting_fits l d) → DomainsFit d M → Grows l M
grows-in Intuitionistic Cumulative M h fits = fits
grows-in Intuitionistic Constant M h fits = absurd (false≢true h)
grows-in Intuitionistic Varying M h fits = absurd (false≢true h)
grows-in Classical d M h fits = tt
grows-in D d M h fits = tt
grows-in LogicT d M h fits = tt
grows-in S4 d M h fits = tt
grows-in S5 d M h fits = tt
