-- Numbers tell the names of a tableau apart: so labels, homes and the terms that are allowed are the same over numbers as over trees.
use Rattle.std.proofs.Common.{◌≡◌, ℕ, ◌+◌, List, [], ◌∷◌, ◌++◌, length, Bool, true, false, not, ◌&&◌, ◌==◌, nat_le, find, Option, Some, refl, sym, ◌∙◌, ap, inl, inr}
use Rattle.std.specs.List.{AllByRecursion}
use Rattle.std.proofs.lemmas.List.{length-map}
use Rattle.std.proofs.lemmas.Bool.{false≢true, and_parts}
use Rattle.plain_laws.proofs.Booleans.{same-tests}
use Rattle.calculus.specs.declared.setting.Logic.{Logic}
use Rattle.calculus.specs.declared.setting.Logic.TheVariants.{Classical, Intuitionistic, D, T as LogicT, S4, S5}
use Rattle.calculus.specs.declared.setting.Domains.{Domains}
use Rattle.calculus.specs.declared.setting.Domains.TheVariants.{Constant, Cumulative, Varying}
use Rattle.calculus.specs.Syntax.{Problem}
use Rattle.calculus.specs.Ground.{GroundTerm, GroundTerms, GroundMark, Marks, Values, g_fun, g_eigen, common, own, no_g_terms, more_g_terms, g_new_mark, g_spare_mark, no_marks, more_marks, marks_list, values_list}
use Rattle.calculus.specs.Equality.{list_eq, mark_eq}
use Rattle.calculus.specs.Labels.{is_prefix, steps_to, pi_label, home_allows}
use Rattle.calculus.specs.Skolem.{label_of, is_allowed, are_allowed}
use Rattle.conversion_theory.specs.Turns.{Name, term_name, mark_name, names_of_term, names_of_terms, names_of_mark, names_of_marks, names_of_home}
use Rattle.calculus.specs.Derivations.{character_eq, EigenName, SpareName}
use Rattle.calculus.specs.Substitution.{any_leaf, any_leaf_of}
use Rattle.calculus.specs.Calculus.{eigen_named, spare_named, is_unknown, is_forbidden}
use Rattle.conversion_theory.specs.Numbering.{numbered_mark, numbered_label, numbered_term, numbered_terms, eigen_name, common_name, own_name, eigen_names, spare_names, name_lines_of}
use Rattle.calculus.proofs.EqualityLaws.{mark_eq-tells, character_eq-tells, nat_eq-tells}
use Rattle.calculus.proofs.Members.{Among, among-left, among-right, joined-among, all-among}

-- different names of S have different numbers
abbrev pub TellsApart : (Name → Type 0) → (Name → ℕ) → Type 0
TellsApart S num = (a b : Name) → S a → S b → num a ≡ num b → a ≡ b

-- the characters of a label are in S
abbrev pub MarksIn : (Name → Type 0) → List GroundMark → Type 0
MarksIn S w = AllByRecursion (λ (m : GroundMark). S (mark_name m)) w

module _ (S : Name → Type 0) (num : Name → ℕ) (apart : TellsApart S num) where
  pub numbered_mark-apart : (m k : GroundMark) → S (mark_name m) → S (mark_name k) → numbered_mark num m ≡ numbered_mark num k → m ≡ k
  numbered_mark-apart (g_new_mark p vs) (g_new_mark q us) h g e = let n : num (mark_name (g_new_mark p vs)) ≡ num (mark_name (g_new_mark q us)) = cc in let same = apart (mark_name (g_new_mark p vs)) (mark_name (g_new_mark q us)) h g n in cc
  numbered_mark-apart (g_new_mark p vs) (g_spare_mark j) h g e = cc
  numbered_mark-apart (g_spare_mark i) (g_new_mark q us) h g e = cc
  numbered_mark-apart (g_spare_mark i) (g_spare_mark j) h g e = let n : num (mark_name (g_spare_mark i)) ≡ num (mark_name (g_spare_mark j)) = cc in let same = apart (mark_name (g_spare_mark i)) (mark_name (g_spare_mark j)) h g n in cc

  -- the test of equality says the same
  pub character_eq-numbered : (m k : GroundMark) → S (mark_name m) → S (mark_name k) → character_eq (numbered_mark num m) (numbered_mark num k) ≡ mark_eq m k
  character_eq-numbered m k h g = same-tests (character_eq (numbered_mark num m) (numbered_mark num k)) (mark_eq m k)
      (λ e. (mark_eq-tells m k).1 (numbered_mark-apart m k h g ((character_eq-tells (numbered_mark num m) (numbered_mark num k)).0 e)))
      (λ e. (character_eq-tells (numbered_mark num m) (numbered_mark num k)).1 (ap (numbered_mark num) ((mark_eq-tells m k).0 e)))

  pub is_prefix-numbered : (w v : List GroundMark) → MarksIn S w → MarksIn S v → is_prefix character_eq (numbered_label num w) (numbered_label num v) ≡ is_prefix mark_eq w v
  is_prefix-numbered [] v h g = refl
  is_prefix-numbered (m ∷ w) [] h g = refl
  is_prefix-numbered (m ∷ w) (k ∷ v) h g = λ i. character_eq-numbered m k h.0 g.0 i && is_prefix-numbered w v h.1 g.1 i

  pub list_eq-numbered : (w v : List GroundMark) → MarksIn S w → MarksIn S v → list_eq character_eq (numbered_label num w) (numbered_label num v) ≡ list_eq mark_eq w v
  list_eq-numbered [] [] h g = refl
  list_eq-numbered [] (k ∷ v) h g = refl
  list_eq-numbered (m ∷ w) [] h g = refl
  list_eq-numbered (m ∷ w) (k ∷ v) h g = λ i. character_eq-numbered m k h.0 g.0 i && list_eq-numbered w v h.1 g.1 i

  pub steps_to-numbered : (l : Logic) (w v : List GroundMark) → MarksIn S w → MarksIn S v → steps_to character_eq l (numbered_label num w) (numbered_label num v) ≡ steps_to mark_eq l w v
  steps_to-numbered Classical w v h g = list_eq-numbered w v h g
  steps_to-numbered Intuitionistic w v h g = is_prefix-numbered w v h g
  steps_to-numbered D w v h g = rw (length-map w, length-map v) (ap (λ b. b && length v == length w + 1) (is_prefix-numbered w v h g))
  steps_to-numbered LogicT w v h g = rw (length-map w, length-map v) (ap (λ b. b && nat_le (length v) (length w + 1)) (is_prefix-numbered w v h g))
  steps_to-numbered S4 w v h g = is_prefix-numbered w v h g
  steps_to-numbered S5 w v h g = rw (length-map v) refl

  pub home_allows-numbered : (d : Domains) (w v : List GroundMark) → MarksIn S w → MarksIn S v → home_allows character_eq d (numbered_label num w) (numbered_label num v) ≡ home_allows mark_eq d w v
  home_allows-numbered Constant w v h g = refl
  home_allows-numbered Cumulative w v h g = is_prefix-numbered w v h g
  home_allows-numbered Varying w v h g = list_eq-numbered w v h g

-- ---- labels of steps

pub numbered_label-append : (num : Name → ℕ) (w v : List GroundMark) → numbered_label num (w ++ v) ≡ numbered_label num w ++ numbered_label num v
numbered_label-append num [] v = refl
numbered_label-append num (m ∷ w) v = ap (λ u. numbered_mark num m ∷ u) (numbered_label-append num w v)

pub pi_label-numbered : (num : Name → ℕ) (l : Logic) (w : List GroundMark) (m : GroundMark) → numbered_label num (pi_label l w m) ≡ pi_label l (numbered_label num w) (numbered_mark num m)
pi_label-numbered num S5 w m = refl
pi_label-numbered num _ w m = numbered_label-append num w (m ∷ [])

-- ---- the name lines of names

found : {A : Type 0} (p : A → Bool) (x : A) (xs : List A) (b : Bool) → p x ≡ b → (o : Option A) → (b ≡ true → Some x ≡ o) → (b ≡ false → find p xs ≡ o) → find p (x ∷ xs) ≡ o
found p x xs true e o h g = rw e (h refl)
found p x xs false e o h g = rw e (g refl)

-- the line of an eigenvariable is found by its number
pub eigen_named-numbered : (S : Name → Type 0) (num : Name → ℕ) → TellsApart S num → (P : Problem) (ns : List Name) → ((n : Name) → Among ns n → S n) → (p : ℕ) (vs : Values) → Among ns (term_name (g_eigen p vs)) → find (λ (x : EigenName). x.number == num (term_name (g_eigen p vs))) (eigen_names num P ns) ≡ Some (eigen_name num P p vs)
eigen_named-numbered S num apart P [] s p vs i = elim i [ ]
eigen_named-numbered S num apart P (term_name (g_eigen q us) ∷ ns) s p vs i =
    let here = num (term_name (g_eigen q us)) in
    let there = num (term_name (g_eigen p vs)) in
    found (λ (x : EigenName). x.number == there) (eigen_name num P q us) (eigen_names num P ns) (here == there) refl (Some (eigen_name num P p vs))
    (λ e. same e)
    (λ e. elim i [
      | inl h ↦ absurd (false≢true (sym e ∙ (nat_eq-tells here there).1 (ap num h)))
      | inr k ↦ eigen_named-numbered S num apart P ns (λ n j. s n (inr j)) p vs k
    ])
  where
    same : (num (term_name (g_eigen q us)) == num (term_name (g_eigen p vs))) ≡ true → Some (eigen_name num P q us) ≡ Some (eigen_name num P p vs)
    same e =
        let n = apart (term_name (g_eigen q us)) (term_name (g_eigen p vs)) (s (term_name (g_eigen q us)) (inl refl)) (s (term_name (g_eigen p vs)) i) ((nat_eq-tells (num (term_name (g_eigen q us))) (num (term_name (g_eigen p vs)))).0 e) in
        let pos : q ≡ p = cc in
        let val : us ≡ vs = cc in
        λ k. Some (eigen_name num P (pos k) (val k))
eigen_named-numbered S num apart P (n ∷ ns) s p vs (inl e) = absurd cc
eigen_named-numbered S num apart P (n ∷ ns) s p vs (inr k) = eigen_named-numbered S num apart P ns (λ n j. s n (inr j)) p vs k

-- the line of a spare constant
pub spare_named-common : (S : Name → Type 0) (num : Name → ℕ) → TellsApart S num → (ns : List Name) → ((n : Name) → Among ns n → S n) → (k : ℕ) → Among ns (term_name (common k)) → find (λ (x : SpareName). x.number == num (term_name (common k))) (spare_names num ns) ≡ Some (common_name num k)
spare_named-common S num apart [] s k i = elim i [ ]
spare_named-common S num apart (term_name (common j) ∷ ns) s k i =
    let here = num (term_name (common j)) in
    let there = num (term_name (common k)) in
    found (λ (x : SpareName). x.number == there) (common_name num j) (spare_names num ns) (here == there) refl (Some (common_name num k)) same
    (λ e. elim i [
      | inl h ↦ absurd (false≢true (sym e ∙ (nat_eq-tells here there).1 (ap num h)))
      | inr m ↦ spare_named-common S num apart ns (λ n p. s n (inr p)) k m
    ])
  where
    same : (num (term_name (common j)) == num (term_name (common k))) ≡ true → Some (common_name num j) ≡ Some (common_name num k)
    same e =
        let n = apart (term_name (common j)) (term_name (common k)) (s (term_name (common j)) (inl refl)) (s (term_name (common k)) i) ((nat_eq-tells (num (term_name (common j))) (num (term_name (common k)))).0 e) in
        let number : j ≡ k = cc in
        ap (λ x. Some (common_name num x)) number
spare_named-common S num apart (term_name (own j v) ∷ ns) s k i =
    let here = num (term_name (own j v)) in
    let there = num (term_name (common k)) in
    found (λ (x : SpareName). x.number == there) (own_name num j v) (spare_names num ns) (here == there) refl (Some (common_name num k))
    (λ e. let n = apart (term_name (own j v)) (term_name (common k)) (s (term_name (own j v)) (inl refl)) (s (term_name (common k)) i) ((nat_eq-tells here there).0 e) in cc)
    (λ e. elim i [
      | inl h ↦ absurd cc
      | inr m ↦ spare_named-common S num apart ns (λ n p. s n (inr p)) k m
    ])
spare_named-common S num apart (n ∷ ns) s k (inl e) = absurd cc
spare_named-common S num apart (n ∷ ns) s k (inr m) = spare_named-common S num apart ns (λ n p. s n (inr p)) k m

pub spare_named-own : (S : Name → Type 0) (num : Name → ℕ) → TellsApart S num → (ns : List Name) → ((n : Name) → Among ns n → S n) → (k : ℕ) (w : Marks) → Among ns (term_name (own k w)) → find (λ (x : SpareName). x.number == num (term_name (own k w))) (spare_names num ns) ≡ Some (own_name num k w)
spare_named-own S num apart [] s k w i = elim i [ ]
spare_named-own S num apart (term_name (common j) ∷ ns) s k w i =
    let here = num (term_name (common j)) in
    let there = num (term_name (own k w)) in
    found (λ (x : SpareName). x.number == there) (common_name num j) (spare_names num ns) (here == there) refl (Some (own_name num k w))
    (λ e. let n = apart (term_name (common j)) (term_name (own k w)) (s (term_name (common j)) (inl refl)) (s (term_name (own k w)) i) ((nat_eq-tells here there).0 e) in cc)
    (λ e. elim i [
      | inl h ↦ absurd cc
      | inr m ↦ spare_named-own S num apart ns (λ n p. s n (inr p)) k w m
    ])
spare_named-own S num apart (term_name (own j v) ∷ ns) s k w i =
    let here = num (term_name (own j v)) in
    let there = num (term_name (own k w)) in
    found (λ (x : SpareName). x.number == there) (own_name num j v) (spare_names num ns) (here == there) refl (Some (own_name num k w)) same
    (λ e. elim i [
      | inl h ↦ absurd (false≢true (sym e ∙ (nat_eq-tells here there).1 (ap num h)))
      | inr m ↦ spare_named-own S num apart ns (λ n p. s n (inr p)) k w m
    ])
  where
    same : (num (term_name (own j v)) == num (term_name (own k w))) ≡ true → Some (own_name num j v) ≡ Some (own_name num k w)
    same e =
        let n = apart (term_name (own j v)) (term_name (own k w)) (s (term_name (own j v)) (inl refl)) (s (term_name (own k w)) i) ((nat_eq-tells (num (term_name (own j v))) (num (term_name (own k w)))).0 e) in
        let number : j ≡ k = cc in
        let label : v ≡ w = cc in
        λ x. Some (own_name num (number x) (label x))
spare_named-own S num apart (n ∷ ns) s k w (inl e) = absurd cc
spare_named-own S num apart (n ∷ ns) s k w (inr m) = spare_named-own S num apart ns (λ n p. s n (inr p)) k w m

-- ---- terms whose names, and the characters of whose homes, are in S

abbrev mutual
  pub IsKnownTerm : (Name → Type 0) → Problem → GroundTerm → Type 0
  IsKnownTerm S P (g_fun f ts) = AreKnownTerms S P ts
  IsKnownTerm S P (g_eigen p vs) = S (term_name (g_eigen p vs)) × MarksIn S (label_of P p (values_list vs))
  IsKnownTerm S P (common k) = S (term_name (common k))
  IsKnownTerm S P (own k w) = S (term_name (own k w)) × MarksIn S (marks_list w)

  pub AreKnownTerms : (Name → Type 0) → Problem → GroundTerms → Type 0
  AreKnownTerms S P no_g_terms = Unit {0}
  AreKnownTerms S P (more_g_terms t ts) = IsKnownTerm S P t × AreKnownTerms S P ts

-- names with their homes, as the numbers of a tableau have them: a test of leaves
module _ (S : Name → Type 0) (num : Name → ℕ) (apart : TellsApart S num) (P : Problem) (ns : List Name) (s : (n : Name) → Among ns n → S n) (whole : (n : Name) → S n → Among ns n) where
  pub eigen-known : (p : ℕ) (vs : Values) → S (term_name (g_eigen p vs)) → eigen_named (name_lines_of num P ns) (num (term_name (g_eigen p vs))) ≡ Some (eigen_name num P p vs)
  eigen-known p vs h = eigen_named-numbered S num apart P ns s p vs (whole (term_name (g_eigen p vs)) h)

  pub common-known : (k : ℕ) → S (term_name (common k)) → spare_named (name_lines_of num P ns) (num (term_name (common k))) ≡ Some (common_name num k)
  common-known k h = spare_named-common S num apart ns s k (whole (term_name (common k)) h)

  pub own-known : (k : ℕ) (w : Marks) → S (term_name (own k w)) → spare_named (name_lines_of num P ns) (num (term_name (own k w))) ≡ Some (own_name num k w)
  own-known k w h = spare_named-own S num apart ns s k w (whole (term_name (own k w)) h)

  mutual
    -- each name of a term has its line
    pub none-unknown : (t : GroundTerm) → IsKnownTerm S P t → any_leaf (is_unknown (name_lines_of num P ns)) (numbered_term num t) ≡ false
    none-unknown (g_fun f ts) h = none_of-unknown ts h
    none-unknown (g_eigen p vs) h = rw (eigen-known p vs h.0) refl
    none-unknown (common k) h = rw (common-known k h) refl
    none-unknown (own k w) h = rw (own-known k w h.0) refl

    none_of-unknown : (ts : GroundTerms) → AreKnownTerms S P ts → any_leaf_of (is_unknown (name_lines_of num P ns)) (numbered_terms num ts) ≡ false
    none_of-unknown no_g_terms h = refl
    none_of-unknown (more_g_terms t ts) h = rw (none-unknown t h.0) (none_of-unknown ts h.1)

  -- a term that is allowed has no leaf that is forbidden
  mutual
    pub none-forbidden : (w : List GroundMark) → MarksIn S w → (t : GroundTerm) → IsKnownTerm S P t → is_allowed P w t ≡ true → any_leaf (is_forbidden P (name_lines_of num P ns) (numbered_label num w)) (numbered_term num t) ≡ false
    none-forbidden w g (g_fun f no_g_terms) h a = refl
    none-forbidden w g (g_fun f (more_g_terms t ts)) h a =
        let both = and_parts (is_allowed P w t) (are_allowed P w ts) a in
        rw (none-forbidden w g t h.0 both.0) (none_of-forbidden w g ts h.1 both.1)
    none-forbidden w g (g_eigen p vs) h a = rw (eigen-known p vs h.0) (ap not (home_allows-numbered S num apart P.setting.domains (label_of P p (values_list vs)) w h.1 g ∙ a))
    none-forbidden w g (common k) h a = rw (common-known k h) (ap not a)
    none-forbidden w g (own k v) h a = rw (own-known k v h.0) (ap not (home_allows-numbered S num apart P.setting.domains (marks_list v) w h.1 g ∙ a))

    none_of-forbidden : (w : List GroundMark) → MarksIn S w → (ts : GroundTerms) → AreKnownTerms S P ts → are_allowed P w ts ≡ true → any_leaf_of (is_forbidden P (name_lines_of num P ns) (numbered_label num w)) (numbered_terms num ts) ≡ false
    none_of-forbidden w g no_g_terms h a = refl
    none_of-forbidden w g (more_g_terms t ts) h a =
        let both = and_parts (is_allowed P w t) (are_allowed P w ts) a in
        rw (none-forbidden w g t h.0 both.0) (none_of-forbidden w g ts h.1 both.1)

pub name-of-mark : (m : GroundMark) → Among (names_of_mark m) (mark_name m)
name-of-mark (g_new_mark p vs) = inl refl
name-of-mark (g_spare_mark k) = inl refl

pub marks-of-string : (S : Name → Type 0) (w : Marks) → ((n : Name) → Among (names_of_marks w) n → S n) → MarksIn S (marks_list w)
marks-of-string S no_marks h = tt
marks-of-string S (more_marks m ms) h = (h (mark_name m) (among-left (names_of_mark m) (names_of_marks ms) (mark_name m) (name-of-mark m)), marks-of-string S ms (λ n i. h n (among-right (names_of_mark m) (names_of_marks ms) n i)))

-- a term whose names, and the names in whose homes, are in S
mutual
  pub known-term : (S : Name → Type 0) (P : Problem) (t : GroundTerm) → ((n : Name) → Among (names_of_term t) n → S n) → ((n m : Name) → Among (names_of_term t) n → Among (names_of_home P n) m → S m) → IsKnownTerm S P t
  known-term S P (g_fun f ts) h g = known-terms S P ts h g
  known-term S P (g_eigen p vs) h g = (h (term_name (g_eigen p vs)) (inl refl), all-among (λ m. S (mark_name m)) (label_of P p (values_list vs)) (λ m i. g (term_name (g_eigen p vs)) (mark_name m) (inl refl) (joined-among names_of_mark (label_of P p (values_list vs)) m (mark_name m) i (name-of-mark m))))
  known-term S P (common k) h g = h (term_name (common k)) (inl refl)
  known-term S P (own k w) h g = (h (term_name (own k w)) (inl refl), marks-of-string S w (λ n i. h n (inr i)))

  known-terms : (S : Name → Type 0) (P : Problem) (ts : GroundTerms) → ((n : Name) → Among (names_of_terms ts) n → S n) → ((n m : Name) → Among (names_of_terms ts) n → Among (names_of_home P n) m → S m) → AreKnownTerms S P ts
  known-terms S P no_g_terms h g = tt
  known-terms S P (more_g_terms t ts) h g = (
    known-term S P t (λ n i. h n (among-left (names_of_term t) (names_of_terms ts) n i)) (λ n m i j. g n m (among-left (names_of_term t) (names_of_terms ts) n i) j),
    known-terms S P ts (λ n i. h n (among-right (names_of_term t) (names_of_terms ts) n i)) (λ n m i j. g n m (among-right (names_of_term t) (names_of_terms ts) n i) j),
  )

pub marks-in-more : (K L : Name → Type 0) → ((n : Name) → K n → L n) → (w : List GroundMark) → MarksIn K w → MarksIn L w
marks-in-more K L f [] h = tt
marks-in-more K L f (m ∷ w) h = (f (mark_name m) h.0, marks-in-more K L f w h.1)

-- a larger set
mutual
  pub known-term-more : (K L : Name → Type 0) → ((n : Name) → K n → L n) → (P : Problem) (t : GroundTerm) → IsKnownTerm K P t → IsKnownTerm L P t
  known-term-more K L f P (g_fun g ts) h = known-terms-more K L f P ts h
  known-term-more K L f P (g_eigen p vs) h = (f (term_name (g_eigen p vs)) h.0, marks-in-more K L f (label_of P p (values_list vs)) h.1)
  known-term-more K L f P (common k) h = f (term_name (common k)) h
  known-term-more K L f P (own k w) h = (f (term_name (own k w)) h.0, marks-in-more K L f (marks_list w) h.1)

  known-terms-more : (K L : Name → Type 0) → ((n : Name) → K n → L n) → (P : Problem) (ts : GroundTerms) → AreKnownTerms K P ts → AreKnownTerms L P ts
  known-terms-more K L f P no_g_terms h = tt
  known-terms-more K L f P (more_g_terms t ts) h = (known-term-more K L f P t h.0, known-terms-more K L f P ts h.1)

pub known-list-more : (K L : Name → Type 0) → ((n : Name) → K n → L n) → (P : Problem) (ts : List GroundTerm) → AllByRecursion (IsKnownTerm K P) ts → AllByRecursion (IsKnownTerm L P) ts
known-list-more K L f P [] h = tt
known-list-more K L f P (t ∷ ts) h = (known-term-more K L f P t h.0, known-list-more K L f P ts h.1)
