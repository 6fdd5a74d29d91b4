-- The generated problems: a chain of implications, a shift of a term by a function, and a tower of boxes.
use Rattle.std.specs.Prelude.{ℕ, ◌-◌, List, ◌++◌, codes, decimal}
use Rattle.std.specs.List.{flat_map, range_with_len, repeat}
use Rattle.calculus.specs.declared.family.Family.{Family}
use Rattle.calculus.specs.declared.family.Family.TheVariants.{Chain, Shift, Tower}
use Rattle.calculus.specs.declared.setting.Logic.{Logic}
use Rattle.calculus.specs.declared.setting.Logic.TheVariants.{Classical, Intuitionistic}

-- the word that begins an item
abbrev pub item_word : Logic → List ℕ
item_word Classical = codes "fof"
item_word Intuitionistic = codes "fof"
item_word _ = codes "qmf"

-- a line with one item: its word, its name, its role and its formula
abbrev pub item_line : List ℕ → List ℕ → List ℕ → List ℕ → List ℕ
item_line word name role formula = word ++ codes "(" ++ name ++ codes "," ++ role ++ codes "," ++ formula ++ codes ").\n"

-- pK
abbrev pub chain_atom : ℕ → List ℕ
chain_atom k = codes "p" ++ decimal k

-- (pJ => pK) with J = K - 1
abbrev pub chain_link : List ℕ → ℕ → List ℕ
chain_link word k = item_line word (codes "a" ++ decimal k) (codes "axiom") (codes "(" ++ chain_atom (k - 1) ++ codes " => " ++ chain_atom k ++ codes ")")

-- p0, each link, and pN
abbrev pub chain_text : List ℕ → ℕ → List ℕ
chain_text word n = item_line word (codes "s") (codes "axiom") (chain_atom 0) ++ flat_map (chain_link word) (range_with_len 1 n) ++ item_line word (codes "c") (codes "conjecture") (chain_atom n)

-- a inside of n applications of f
abbrev pub shifted : ℕ → List ℕ
shifted n = repeat n (codes "f(") ++ codes "a" ++ repeat n (codes ")")

-- p(a), p moves from X to f(X), and p of the shifted a
abbrev pub shift_text : List ℕ → ℕ → List ℕ
shift_text word n = item_line word (codes "s") (codes "axiom") (codes "p(a)") ++ item_line word (codes "n") (codes "axiom") (codes "![X]:(p(X) => p(f(X)))") ++ item_line word (codes "c") (codes "conjecture") (codes "p(" ++ shifted n ++ codes ")")

-- one box implies n
abbrev pub tower_text : List ℕ → ℕ → List ℕ
tower_text word n = item_line word (codes "c") (codes "conjecture") (codes "(#box:p => " ++ repeat n (codes "#box:") ++ codes "p)")

abbrev pub family_text_with : Family → List ℕ → ℕ → List ℕ
family_text_with Chain word n = chain_text word n
family_text_with Shift word n = shift_text word n
family_text_with Tower word n = tower_text word n

-- the text of the family's problem of size n
abbrev pub family_text : Family → ℕ → Logic → List ℕ
family_text family n l = family_text_with family (item_word l) n
