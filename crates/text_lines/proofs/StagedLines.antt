-- Texts whose lines after the head are values of one type, in an order that stages tell: where such a text is wrong first. A line is wrong
-- where none of the values that its bytes could spell may stand at the stage.
use Rattle.std.proofs.Common.{◌≡◌, ℕ, List, [], ◌∷◌, ◌++◌, length, map, drop, Bool, IsTrue, Option, None, Some, refl, sym, ◌∙◌, ap, append_assoc, append-nil, flat_map}
use Rattle.std.specs.List.{list_all}
use Rattle.std.proofs.lemmas.Bool.{and_parts}
use Rattle.std.proofs.lemmas.List.Prefix.{front_rest}
use Rattle.plain_laws.proofs.Options.{none-some, some-eq}
use Rattle.plain_laws.proofs.Lists.{nothing-after, cons-parts}
use Rattle.calculus.specs.FirstWrong.{line_bytes, whole_lines, TextKind, IsTextOf, IsFaulty}
use Rattle.text_lines.specs.Lines.{AreRead, IsLineAt}
use Rattle.text_lines.proofs.FirstWrong.{HaveNoFeeds, IsBegun, faulty}

-- a kind of text with lines that stages order: D are the values that have one, L those of a line after the head, S the stages
pub record Kind (D L S : Type 0) : Type 0 where
  pub texts : TextKind D
  pub head : D → List (List ℕ)
  pub body : D → List L
  pub text : L → List ℕ
  pub good : L → Bool
  pub first : S
  pub ended : S
  pub after : S → L → Option S

abbrev pub Has : {D L S : Type 0} → Kind D L S → D → Type 0
Has k d = IsTrue (k.texts.printable d)

abbrev pub advanced : {D L S : Type 0} → Kind D L S → Option S → L → Option S
advanced k None x = None
advanced k (Some s) x = k.after s x

-- the stage behind these lines
abbrev pub run : {D L S : Type 0} → Kind D L S → Option S → List L → Option S
run k o [] = o
run k o (x ∷ xs) = run k (advanced k o x) xs

-- what is asked of a kind
pub record IsKind {D L S : Type 0} (k : Kind D L S) : Type 0 where
  pub lines_are : (d : D) → k.texts.lines d ≡ k.head d ++ map k.text (k.body d)
  pub feeds : HaveNoFeeds k.texts
  pub written : (d : D) → Has k d → IsTrue (list_all k.good (k.body d))
  pub ends : (d : D) → Has k d → run k (Some k.first) (k.body d) ≡ Some k.ended
  pub one : (x y : L) → IsTrue (k.good x) → IsTrue (k.good y) → k.text x ≡ k.text y → x ≡ y

-- the bytes spell this line
pub record Spells {D L S : Type 0} (k : Kind D L S) (bytes : List ℕ) (x : L) : Type 0 where
  pub good : IsTrue (k.good x)
  pub same : bytes ≡ k.text x

-- a head and these lines are read up to a place, which leaves this stage
pub record AreReadTo {D L S : Type 0} (k : Kind D L S) (bytes : List ℕ) (place : ℕ) (s : S) (head : List (List ℕ)) (xs : List L) : Type 0 where
  pub lines : AreRead bytes (head ++ map k.text xs) place
  pub good : IsTrue (list_all k.good xs)
  pub order : run k (Some k.first) xs ≡ Some s
  pub begun : IsBegun k.texts (head ++ map k.text xs)
  pub heads : (d : D) → Has k d → length (k.head d) ≡ length head

-- ---- stages

pub run-append : {D L S : Type 0} (k : Kind D L S) (o : Option S) (xs ys : List L) → run k o (xs ++ ys) ≡ run k (run k o xs) ys
run-append k o [] ys = refl
run-append k o (x ∷ xs) ys = run-append k (advanced k o x) xs ys

run-none : {D L S : Type 0} (k : Kind D L S) (xs : List L) → run k None xs ≡ None
run-none k [] = refl
run-none k (x ∷ xs) = run-none k xs

-- ---- lines that begin with these

begins : {D L S : Type 0} (k : Kind D L S) → IsKind k → (xs ys : List L) (rest : List (List ℕ)) → IsTrue (list_all k.good xs) → IsTrue (list_all k.good ys) → map k.text ys ≡ map k.text xs ++ rest
    → (zs : List L) × (ys ≡ xs ++ zs) × (map k.text zs ≡ rest) × IsTrue (list_all k.good zs)
begins k w [] ys rest hx hy e = (ys, refl, e, hy)
begins k w (x ∷ xs) [] rest hx hy e = absurd (cc)
begins k w (x ∷ xs) (y ∷ ys) rest hx hy e =
    let px = and_parts (k.good x) (list_all k.good xs) hx in
    let py = and_parts (k.good y) (list_all k.good ys) hy in
    let h = cons-parts (k.text y) (k.text x) (map k.text ys) (map k.text xs ++ rest) e in
    let same = w.one y x py.0 px.0 h.0 in
    let r = begins k w xs ys rest px.1 py.1 h.1 in
    (r.0, (λ i. same i ∷ r.1 i), r.2, r.3)

after-head : {D L S : Type 0} (k : Kind D L S) → IsKind k → (d : D) (head ls rest : List (List ℕ)) → length (k.head d) ≡ length head → k.texts.lines d ≡ (head ++ ls) ++ rest → map k.text (k.body d) ≡ ls ++ rest
after-head k w d head ls rest n e =
    sym (front_rest (k.texts.lines d) (k.head d) (map k.text (k.body d)) (w.lines_are d))
    ∙ ap (λ m. drop m (k.texts.lines d)) n
    ∙ front_rest (k.texts.lines d) head (ls ++ rest) (e ∙ append_assoc head ls rest)

-- a line that may not stand here is in no text that begins so
refused : {D L S : Type 0} (k : Kind D L S) → IsKind k → (bytes : List ℕ) (place : ℕ) (s : S) (head : List (List ℕ)) (xs : List L) → AreReadTo k bytes place s head xs
    → (l : List ℕ) → ((x : L) → Spells k l x → k.after s x ≡ None)
    → (d : D) → Has k d → (rest : List (List ℕ)) → k.texts.lines d ≡ (head ++ map k.text xs) ++ l ∷ rest → ⊥
refused {D} {L} {S} k w bytes place s head xs r l none d h rest same =
    let f = after-head k w d head (map k.text xs) (l ∷ rest) (r.heads d h) same in
    let b = begins k w xs (k.body d) (l ∷ rest) r.good (w.written d h) f in
    by-next b.0 b.1 b.2 b.3
  where
    by-next : (zs : List L) → k.body d ≡ xs ++ zs → map k.text zs ≡ l ∷ rest → IsTrue (list_all k.good zs) → ⊥
    by-next [] all lines hz = absurd (cc)
    by-next (z ∷ zs) all lines hz =
        let p = and_parts (k.good z) (list_all k.good zs) hz in
        let stop = none z (record { good = p.0; same = sym (cons-parts _ _ _ _ lines).0 }) in
        none-some (run k (Some k.first) (k.body d)) k.ended
        (ap (run k (Some k.first)) all ∙ run-append k (Some k.first) xs (z ∷ zs) ∙ ap (λ o. run k o (z ∷ zs)) r.order ∙ ap (λ o. run k o zs) stop ∙ run-none k zs)
        (w.ends d h)

-- where these are all lines, they end
whole-ends : {D L S : Type 0} (k : Kind D L S) → IsKind k → (bytes : List ℕ) (place : ℕ) (s : S) (head : List (List ℕ)) (xs : List L) → AreReadTo k bytes place s head xs
    → (d : D) → Has k d → k.texts.lines d ≡ head ++ map k.text xs → s ≡ k.ended
whole-ends {D} {L} {S} k w bytes place s head xs r d h same =
    let f = after-head k w d head (map k.text xs) [] (r.heads d h) (same ∙ sym (append-nil (head ++ map k.text xs))) in
    let b = begins k w xs (k.body d) [] r.good (w.written d h) f in
    by-rest b.0 b.1 b.2
  where
    by-rest : (zs : List L) → k.body d ≡ xs ++ zs → map k.text zs ≡ [] → s ≡ k.ended
    by-rest [] all lines = some-eq s k.ended (sym r.order ∙ ap (run k (Some k.first)) (sym (append-nil xs) ∙ sym all) ∙ w.ends d h)
    by-rest (z ∷ zs) all lines = absurd (cc)

-- ---- faults

-- the next line may not stand here
pub wrong-line : {D L S : Type 0} (k : Kind D L S) → IsKind k → (bytes : List ℕ) (place to : ℕ) (s : S) (head : List (List ℕ)) (xs : List L) (l : List ℕ) → AreReadTo k bytes place s head xs → IsLineAt bytes place to l
    → ((x : L) → Spells k l x → k.after s x ≡ None) → IsFaulty k.texts bytes (length (head ++ map k.text xs))
wrong-line {D} {L} {S} k w bytes place to s head xs l r here none =
    faulty k.texts w.feeds bytes (head ++ map k.text xs) (l ∷ whole_lines (drop to bytes)) (r.lines.whole ∙ ap (λ m. (head ++ map k.text xs) ++ m) here.whole) r.begun next done
  where
    next : (d : D) → Has k d → (j : List ℕ) (rest more : List (List ℕ)) → k.texts.lines d ≡ (head ++ map k.text xs) ++ j ∷ rest → l ∷ whole_lines (drop to bytes) ≡ j ∷ more → ⊥
    next d h j rest more same first =
        refused k w bytes place s head xs r l none d h rest (same ∙ ap (λ (i : List ℕ). (head ++ map k.text xs) ++ i ∷ rest) (sym (cons-parts _ _ _ _ first).0))

    no_more : (a b : List ℕ) → a ++ 10 ∷ b ≡ [] → ⊥
    no_more [] b e = cc
    no_more (x ∷ a) b e = cc

    done : (d : D) → IsTextOf k.texts d bytes → k.texts.lines d ≡ head ++ map k.text xs → ⊥
    done d t same = no_more l (drop to bytes) (sym here.text ∙ nothing-after bytes (flat_map line_bytes (head ++ map k.text xs)) (drop place bytes) r.lines.text (t.text ∙ ap (flat_map line_bytes) same))

-- no whole line follows, and the text has not ended as it should
pub wrong-end : {D L S : Type 0} (k : Kind D L S) → IsKind k → (bytes : List ℕ) (place : ℕ) (s : S) (head : List (List ℕ)) (xs : List L) → AreReadTo k bytes place s head xs → whole_lines (drop place bytes) ≡ []
    → (s ≡ k.ended → drop place bytes ≡ [] → ⊥) → IsFaulty k.texts bytes (length (head ++ map k.text xs))
wrong-end {D} {L} {S} k w bytes place s head xs r none unfinished =
    faulty k.texts w.feeds bytes (head ++ map k.text xs) [] (r.lines.whole ∙ ap (λ m. (head ++ map k.text xs) ++ m) none) r.begun next done
  where
    next : (d : D) → Has k d → (j : List ℕ) (rest more : List (List ℕ)) → k.texts.lines d ≡ (head ++ map k.text xs) ++ j ∷ rest → [] ≡ j ∷ more → ⊥
    next d h j rest more same first = cc first

    done : (d : D) → IsTextOf k.texts d bytes → k.texts.lines d ≡ head ++ map k.text xs → ⊥
    done d t same = unfinished
        (whole-ends k w bytes place s head xs r d t.printable same)
        (nothing-after bytes (flat_map line_bytes (head ++ map k.text xs)) (drop place bytes) r.lines.text (t.text ∙ ap (flat_map line_bytes) same))
