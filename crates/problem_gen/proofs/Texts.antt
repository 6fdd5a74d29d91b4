-- What is written piece by piece is the text of the families.
use Rattle.std.proofs.Common.{◌≡◌, ℕ, ◌+◌, ◌-◌, List, ◌++◌, codes, decimal, sym, ◌∙◌, ap, append_assoc, arith}
use Rattle.std.proofs.lemmas.Fmt.{decimal_digit}
use Rattle.std.specs.List.{flat_map, range_with_len, repeat}
use Rattle.calculus.specs.Families.{item_line, chain_atom, chain_link, chain_text, shifted, shift_text, tower_text}

-- one piece more
pub next : (old text out piece new : List ℕ) → out ≡ old ++ text → new ≡ out ++ piece → new ≡ old ++ (text ++ piece)
next old text out piece new h k = k ∙ ap (λ l. l ++ piece) h ∙ append_assoc old text piece

-- ---- appending to the right

nest3 : (a b c r : List ℕ) → ((a ++ b) ++ c) ++ r ≡ a ++ (b ++ (c ++ r))
nest3 a b c r = append_assoc (a ++ b) c r ∙ append_assoc a b (c ++ r)

nest4 : (a b c d r : List ℕ) → (((a ++ b) ++ c) ++ d) ++ r ≡ a ++ (b ++ (c ++ (d ++ r)))
nest4 a b c d r = append_assoc ((a ++ b) ++ c) d r ∙ nest3 a b c (d ++ r)

nest7 : (a b c d e f g r : List ℕ) → ((((((a ++ b) ++ c) ++ d) ++ e) ++ f) ++ g) ++ r ≡ a ++ (b ++ (c ++ (d ++ (e ++ (f ++ (g ++ r))))))
nest7 a b c d e f g r = append_assoc (((((a ++ b) ++ c) ++ d) ++ e) ++ f) g r ∙ append_assoc ((((a ++ b) ++ c) ++ d) ++ e) f (g ++ r) ∙ append_assoc (((a ++ b) ++ c) ++ d) e (f ++ (g ++ r)) ∙ nest4 a b c d (e ++ (f ++ (g ++ r)))

item-nest : (word name role formula : List ℕ) → item_line word name role formula ≡ word ++ (codes "(" ++ (name ++ (codes "," ++ (role ++ (codes "," ++ (formula ++ codes ").\n"))))))
item-nest word name role formula = nest7 word (codes "(") name (codes ",") role (codes ",") formula (codes ").\n")

-- ---- chains

abbrev link : List ℕ → ℕ → ℕ → List ℕ
link word j k = item_line word (codes "a" ++ decimal k) (codes "axiom") (codes "(" ++ chain_atom j ++ codes " => " ++ chain_atom k ++ codes ")")

-- with any lists in place of the numbers
implication-nest : (d e r : List ℕ) → ((((codes "(" ++ (codes "p" ++ d)) ++ codes " => ") ++ (codes "p" ++ e)) ++ codes ")") ++ r ≡ codes "(p" ++ (d ++ (codes " => p" ++ (e ++ (codes ")" ++ r))))
implication-nest d e r = ap (λ l. codes "(p" ++ l) (nest4 d (codes " => ") (codes "p" ++ e) (codes ")") r)

link-pieces : (word : List ℕ) (j k : ℕ) → (((word ++ (codes "(a" ++ decimal k)) ++ (codes ",axiom,(p" ++ decimal j)) ++ (codes " => p" ++ decimal k)) ++ codes ")).\n" ≡ link word j k
link-pieces word j k =
    nest4 word (codes "(a" ++ decimal k) (codes ",axiom,(p" ++ decimal j) (codes " => p" ++ decimal k) (codes ")).\n")
    ∙ sym (ap (λ l. word ++ (codes "(a" ++ (decimal k ++ (codes ",axiom," ++ l)))) (implication-nest (decimal j) (decimal k) (codes ").\n")))
    ∙ sym (item-nest word (codes "a" ++ decimal k) (codes "axiom") (codes "(" ++ chain_atom j ++ codes " => " ++ chain_atom k ++ codes ")"))

pub link-text : (word : List ℕ) (j : ℕ) → (((word ++ (codes "(a" ++ decimal (j + 1))) ++ (codes ",axiom,(p" ++ decimal j)) ++ (codes " => p" ++ decimal (j + 1))) ++ codes ")).\n" ≡ chain_link word (j + 1)
link-text word j = link-pieces word j (j + 1) ∙ ap (λ i. link word i (j + 1)) (let e : j ≡ j + 1 - 1 = omega arith in e)

pub goal-text : (word : List ℕ) (n : ℕ) → (word ++ (codes "(c,conjecture,p" ++ decimal n)) ++ codes ").\n" ≡ item_line word (codes "c") (codes "conjecture") (chain_atom n)
goal-text word n = simp append_assoc

first-item : (word : List ℕ) → word ++ codes "(s,axiom,p0).\n" ≡ item_line word (codes "s") (codes "axiom") (chain_atom 0)
first-item word =
    ap (λ l. word ++ (codes "(s,axiom,p" ++ (l ++ codes ").\n"))) (sym (decimal_digit 0 (omega arith)))
    ∙ sym (item-nest word (codes "s") (codes "axiom") (chain_atom 0))

pub chain-pieces : (word : List ℕ) (n : ℕ) → ((word ++ codes "(s,axiom,p0).\n") ++ flat_map (chain_link word) (range_with_len 1 n)) ++ item_line word (codes "c") (codes "conjecture") (chain_atom n) ≡ chain_text word n
chain-pieces word n = ap (λ l. (l ++ flat_map (chain_link word) (range_with_len 1 n)) ++ item_line word (codes "c") (codes "conjecture") (chain_atom n)) (first-item word)

-- ---- shifts

pub shifted-text : (word : List ℕ) (n : ℕ) → ((((word ++ codes "(c,conjecture,p(") ++ repeat n (codes "f(")) ++ codes "a") ++ repeat n (codes ")")) ++ codes ")).\n" ≡ item_line word (codes "c") (codes "conjecture") (codes "p(" ++ shifted n ++ codes ")")
shifted-text word n = simp append_assoc

fact-item : (word : List ℕ) → word ++ codes "(s,axiom,p(a)).\n" ≡ item_line word (codes "s") (codes "axiom") (codes "p(a)")
fact-item word = simp append_assoc

step-item : (word : List ℕ) → word ++ codes "(n,axiom,![X]:(p(X) => p(f(X)))).\n" ≡ item_line word (codes "n") (codes "axiom") (codes "![X]:(p(X) => p(f(X)))")
step-item word = simp append_assoc

pub shift-pieces : (word : List ℕ) (n : ℕ) → ((word ++ codes "(s,axiom,p(a)).\n") ++ (word ++ codes "(n,axiom,![X]:(p(X) => p(f(X)))).\n")) ++ item_line word (codes "c") (codes "conjecture") (codes "p(" ++ shifted n ++ codes ")") ≡ shift_text word n
shift-pieces word n = λ i. (fact-item word i ++ step-item word i) ++ item_line word (codes "c") (codes "conjecture") (codes "p(" ++ shifted n ++ codes ")")

-- ---- towers

pub tower-pieces : (word : List ℕ) (n : ℕ) → ((word ++ codes "(c,conjecture,(#box:p => ") ++ repeat n (codes "#box:")) ++ codes "p)).\n" ≡ tower_text word n
tower-pieces word n = simp append_assoc
