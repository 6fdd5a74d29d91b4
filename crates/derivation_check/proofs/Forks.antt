-- Sequents that wait stay as they are while the branch grows, and while it is cut back to a fork.
use Rattle.std.proofs.Common.{◌≡◌, ℕ, ◌≤◌, List, [], ◌∷◌, ◌++◌, length, take, reverse, Bool, true, Some, refl, sym, ◌∙◌, ap, subst, arith}
use Rattle.std.proofs.lemmas.List.{take-append-le, take-take, take_all, length-take-le, length-append, reverse-append, append_assoc}
use Rattle.derivation_check.specs.OpenSequents.{waiting, open_sequents, Nest, IsLastOf}
use Rattle.derivation_check.specs.declared.open_sequents.BranchEntry.{BranchEntry}

Nest-more : {A : Type 0} (m n : ℕ) (forks : List (ℕ × A)) → m ≤ n → Nest m forks → Nest n forks
Nest-more m n [] le h = tt
Nest-more m n (fork ∷ forks) le h = (omega (arith, h.0), h.1)

-- two branches that begin alike have the same sequents waiting
waiting-alike : {A : Type 0} (n : ℕ) (b c : List A) (forks : List (ℕ × A)) → Nest n forks → ((k : ℕ) → k ≤ n → take k b ≡ take k c) → waiting b forks ≡ waiting c forks
waiting-alike n b c [] h same = refl
waiting-alike n b c (fork ∷ forks) h same =
    let first = same fork.0 h.0 in
    let rest = waiting-alike fork.0 b c forks h.1 (λ k le. same k (omega (arith, le, h.0))) in
    λ i. (first i ++ fork.1 ∷ []) ∷ rest i

waiting-append : {A : Type 0} (b more : List A) (forks : List (ℕ × A)) → Nest (length b) forks → waiting (b ++ more) forks ≡ waiting b forks
waiting-append b more forks h = waiting-alike (length b) (b ++ more) b forks h (λ k le. take-append-le k b more le)

cut_alike : {A : Type 0} (n k : ℕ) (b : List A) (e : A) → n ≤ length b → k ≤ n → take k (take n b ++ e ∷ []) ≡ take k b
cut_alike n k b e le lt =
    let enough : k ≤ length (take n b) = omega (arith, length-take-le n b le, lt) in
    take-append-le k (take n b) (e ∷ []) enough ∙ take-take k n b lt

waiting-cut : {A : Type 0} (n : ℕ) (b : List A) (e : A) (forks : List (ℕ × A)) → n ≤ length b → Nest n forks → waiting (take n b ++ e ∷ []) forks ≡ waiting b forks
waiting-cut n b e forks le h = waiting-alike n (take n b ++ e ∷ []) b forks h (λ k lt. cut_alike n k b e le lt)

reverse-last : {A : Type 0} (forks : List (ℕ × A)) (f : ℕ × A) → reverse (forks ++ f ∷ []) ≡ f ∷ reverse forks
reverse-last forks f = reverse-append forks (f ∷ [])

-- ---- entries more on the current branch

pub add_shown : {A : Type 0} (o : Bool) (branch after more : List A) (forks : List (ℕ × A)) → o ≡ true → after ≡ branch ++ more → Nest (length branch) (reverse forks) → open_sequents o after (reverse forks) ≡ (branch ++ more) ∷ waiting branch (reverse forks)
add_shown o branch after more forks opened grown h =
    (λ i. open_sequents (opened i) (grown i) (reverse forks)) ∙ ap (λ ss. (branch ++ more) ∷ ss) (waiting-append branch more (reverse forks) h)

pub add_nest : {A : Type 0} (branch after more : List A) (forks : List (ℕ × A)) → after ≡ branch ++ more → Nest (length branch) (reverse forks) → Nest (length after) (reverse forks)
add_nest branch after more forks grown h = let size = ap length grown ∙ length-append branch more in Nest-more (length branch) (length after) (reverse forks) (omega (arith, size)) h

pub two_more : {A : Type 0} (branch b after : List A) (x y : A) → b ≡ branch ++ x ∷ [] → after ≡ b ++ y ∷ [] → after ≡ branch ++ x ∷ y ∷ []
two_more branch b after x y e f = f ∙ ap (λ l. l ++ y ∷ []) e ∙ append_assoc branch (x ∷ []) (y ∷ [])

-- ---- a fork of the current branch

pub fork_shown : {A : Type 0} (o : Bool) (branch after : List A) (forks made : List (ℕ × A)) (n : ℕ) (e second : A) → o ≡ true → n ≡ length branch → made ≡ forks ++ (n, second) ∷ [] → after ≡ branch ++ e ∷ [] → Nest (length branch) (reverse forks)
    → open_sequents o after (reverse made) ≡ (branch ++ e ∷ []) ∷ (branch ++ second ∷ []) ∷ waiting branch (reverse forks)
fork_shown o branch after forks made n e second opened len are grown h =
    let at : take n (branch ++ e ∷ []) ≡ branch = take-append-le n branch (e ∷ []) (omega (arith, len)) ∙ take_all n branch (omega (arith, len)) in
    let last = ap reverse are ∙ reverse-last forks (n, second) in
    (λ i. open_sequents (opened i) (grown i) (last i))
    ∙ (λ i. (branch ++ e ∷ []) ∷ (at i ++ second ∷ []) ∷ waiting-append branch (e ∷ []) (reverse forks) h i)

pub fork_nest : {A : Type 0} (branch after : List A) (forks made : List (ℕ × A)) (n : ℕ) (e second : A) → n ≡ length branch → made ≡ forks ++ (n, second) ∷ [] → after ≡ branch ++ e ∷ [] → Nest (length branch) (reverse forks) → Nest (length after) (reverse made)
fork_nest branch after forks made n e second len are grown h =
    let size = ap length grown ∙ length-append branch (e ∷ []) in
    subst (Nest (length after)) (sym (ap reverse are ∙ reverse-last forks (n, second))) (omega (arith, size, len), subst (λ k. Nest k (reverse forks)) (sym len) h)

-- ---- the current branch is closed

parts_of_last : {A : Type 0} (m n : ℕ) (forks more : List (ℕ × A)) (second : A) → more ≡ forks ++ (n, second) ∷ [] → Nest m (reverse more) → (n ≤ m) × Nest n (reverse forks)
parts_of_last m n forks more second made h = subst (Nest m) (ap reverse made ∙ reverse-last forks (n, second)) h

pub close_shown : {A : Type 0} (o : Bool) (branch after : List A) (forks more : List (ℕ × A)) (n : ℕ) (second : A) → o ≡ true → more ≡ forks ++ (n, second) ∷ [] → after ≡ take n branch ++ second ∷ [] → Nest (length branch) (reverse more)
    → open_sequents o after (reverse forks) ≡ waiting branch (reverse more)
close_shown o branch after forks more n second opened made cut h =
    let parts = parts_of_last (length branch) n forks more second made h in
    (λ i. open_sequents (opened i) (cut i) (reverse forks))
    ∙ ap (λ ss. (take n branch ++ second ∷ []) ∷ ss) (waiting-cut n branch second (reverse forks) parts.0 parts.1)
    ∙ ap (waiting branch) (sym (ap reverse made ∙ reverse-last forks (n, second)))

pub close_nest : {A : Type 0} (branch after : List A) (forks more : List (ℕ × A)) (n : ℕ) (second : A) → more ≡ forks ++ (n, second) ∷ [] → after ≡ take n branch ++ second ∷ [] → Nest (length branch) (reverse more) → Nest (length after) (reverse forks)
close_nest branch after forks more n second made cut h =
    let parts = parts_of_last (length branch) n forks more second made h in
    let size = ap length cut ∙ length-append (take n branch) (second ∷ []) in
    Nest-more n (length after) (reverse forks) (omega (arith, size, length-take-le n branch parts.0)) parts.1

pub close_last : (branch : List BranchEntry) (forks more : List (ℕ × BranchEntry)) (n : ℕ) (second : BranchEntry) → more ≡ forks ++ (n, second) ∷ [] → IsLastOf (waiting branch (reverse more)) (Some second)
close_last branch forks more n second made =
    subst (λ fs. IsLastOf (waiting branch fs) (Some second)) (sym (ap reverse made ∙ reverse-last forks (n, second))) (take n branch, refl)
