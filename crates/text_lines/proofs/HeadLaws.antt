-- A head, line by line, and written piece by piece.
use Rattle.std.proofs.Common.{◌≡◌, ℕ, List, [], ◌∷◌, ◌++◌, drop, IsTrue, Result, Err, ◌∙◌, ap, subst, sym, append_assoc, append-nil, decimal, codes, flat_map}
use Rattle.calculus.specs.Syntax.{Problem}
use Rattle.calculus.specs.DerivationText.{is_limit, setting_text}
use Rattle.calculus.specs.FirstWrong.{line_bytes, whole_lines}
use Rattle.calculus.specs.Text.{formula_text}
use Rattle.text_lines.proofs.WholeLines.{more-read, none-read}
use Rattle.text_lines.specs.Head.{IsHeadFault, IsHeadRead, formula_line, head_of, limit_line, setting_line}
use Rattle.text_lines.specs.Lines.{AreRead, IsLineAt}
use Rattle.text_lines.specs.declared.head_line.HeadFault.{HeadFault}
use Rattle.text_lines.specs.declared.head_line.HeadFault.TheVariants.{Wrong}
use Rattle.text_lines.specs.declared.head_line.HeadLine.{HeadLine}
use Rattle.text_lines.specs.declared.head_line.HeadLine.TheVariants.{First, Setting, Formula, Limit}

-- ---- where the lines are known by equations

pub read-one : (first bytes : List ℕ) (a : ℕ) → IsLineAt bytes 0 a first → AreRead bytes (first ∷ []) a
read-one first bytes a h = more-read bytes [] 0 a first (none-read bytes) h

pub read-two : (first : List ℕ) (P : Problem) (bytes : List ℕ) (a b : ℕ) (s : List ℕ) → IsLineAt bytes 0 a first → IsLineAt bytes a b s → s ≡ setting_line P → AreRead bytes (first ∷ setting_line P ∷ []) b
read-two first P bytes a b s h k e = more-read bytes (first ∷ []) a b (setting_line P) (read-one first bytes a h) (subst (IsLineAt bytes a b) e k)

pub read-three : (first : List ℕ) (P : Problem) (bytes : List ℕ) (a b c : ℕ) (s f : List ℕ) → IsLineAt bytes 0 a first → IsLineAt bytes a b s → s ≡ setting_line P → IsLineAt bytes b c f → f ≡ formula_line P → AreRead bytes (first ∷ setting_line P ∷ formula_line P ∷ []) c
read-three first P bytes a b c s f h k e j d = more-read bytes (first ∷ setting_line P ∷ []) b c (formula_line P) (read-two first P bytes a b s h k e) (subst (IsLineAt bytes b c) d j)

pub read-all : (first : List ℕ) (P : Problem) (bytes : List ℕ) (c to n : ℕ) → AreRead bytes (first ∷ setting_line P ∷ formula_line P ∷ []) c → IsLineAt bytes c to (limit_line n) → IsTrue (is_limit n) → IsHeadRead first P bytes to n
read-all first P bytes c to n h k l = record { limit = l; lines = more-read bytes (first ∷ setting_line P ∷ formula_line P ∷ []) c to (limit_line n) h k }

-- ---- the first line that is wrong

pub first-fault : (first : List ℕ) (P : Problem) (bytes : List ℕ) → ((more : List (List ℕ)) → ¬ (whole_lines (drop 0 bytes) ≡ first ∷ more)) → IsHeadFault first P bytes First
first-fault first P bytes none = record { place = 0; before = none-read bytes; wrong = λ l more e h. none more (h ∙ ap (λ (k : List ℕ). k ∷ more) e) }

-- the line is compared with text that is known by an equation
pub setting-fault : (first : List ℕ) (P : Problem) (bytes : List ℕ) (a : ℕ) (s : List ℕ) → AreRead bytes (first ∷ []) a → s ≡ setting_line P → ((more : List (List ℕ)) → ¬ (whole_lines (drop a bytes) ≡ s ∷ more)) → IsHeadFault first P bytes Setting
setting-fault first P bytes a s h d none = record { place = a; before = h; wrong = λ l more e k. none more (k ∙ ap (λ (x : List ℕ). x ∷ more) (e ∙ sym d)) }

pub formula-fault : (first : List ℕ) (P : Problem) (bytes : List ℕ) (a : ℕ) (f : List ℕ) → AreRead bytes (first ∷ setting_line P ∷ []) a → f ≡ formula_line P → ((more : List (List ℕ)) → ¬ (whole_lines (drop a bytes) ≡ f ∷ more)) → IsHeadFault first P bytes Formula
formula-fault first P bytes a f h d none = record { place = a; before = h; wrong = λ l more e k. none more (k ∙ ap (λ (x : List ℕ). x ∷ more) (e ∙ sym d)) }

pub limit-fault : (first : List ℕ) (P : Problem) (bytes : List ℕ) (a : ℕ) → AreRead bytes (first ∷ setting_line P ∷ formula_line P ∷ []) a
    → ((n : ℕ) (more : List (List ℕ)) → IsTrue (is_limit n) → ¬ (whole_lines (drop a bytes) ≡ limit_line n ∷ more)) → IsHeadFault first P bytes Limit
limit-fault first P bytes a h none = record { place = a; before = h; wrong = λ l more e k. none e.0 more e.1 (k ∙ ap (λ (x : List ℕ). x ∷ more) e.2) }

-- a fault by the answer that tells it
pub told : {A : Type 0} (first : List ℕ) (P : Problem) (bytes : List ℕ) (m line : HeadLine) → ◌≡◌ {A = Result A HeadFault} (Err (Wrong m)) (Err (Wrong line)) → IsHeadFault first P bytes m → IsHeadFault first P bytes line
told first P bytes m line e h = let same : m ≡ line = cc e in subst (IsHeadFault first P bytes) same h

-- ---- writing

-- the lines of a head, by the texts in them
head_with : List ℕ → List ℕ → List ℕ → List ℕ → List (List ℕ)
head_with first setting formula limit = first ∷ (codes "logic " ++ setting) ∷ (codes "formula " ++ formula) ∷ (codes "limit " ++ limit) ∷ []

glued : (a k l m n p s t u : List ℕ) → (a ++ k) ++ (p ++ l) ++ s ++ (p ++ m) ++ t ++ (p ++ n) ++ u ++ p ≡ a ++ ((k ++ p) ++ (((l ++ s) ++ p) ++ (((m ++ t) ++ p) ++ (((n ++ u) ++ p) ++ []))))
glued a k l m n p s t u = simp (append_assoc, append-nil)

pieces_of_head : (k s t u a z b c d e f g h : List ℕ)
    → z ≡ a ++ k → b ≡ z ++ codes "\nlogic " → c ≡ b ++ s → d ≡ c ++ codes "\nformula " → e ≡ d ++ t
    → f ≡ e ++ codes "\nlimit " → g ≡ f ++ u → h ≡ g ++ 10 ∷ [] → h ≡ a ++ flat_map line_bytes (head_with k s t u)
unfolding head_with
pieces_of_head k s t u a z b c d e f g h o p q r v w x y = rw (y, x, w, v, r, q, p, o) (glued a k (codes "logic ") (codes "formula ") (codes "limit ") (codes "\n") s t u)

-- the head written piece by piece
pub head-by_steps : (first : List ℕ) (P : Problem) (n : ℕ) (a z b c d e f g h : List ℕ)
    → z ≡ a ++ first → b ≡ z ++ codes "\nlogic " → c ≡ b ++ setting_text P.setting → d ≡ c ++ codes "\nformula " → e ≡ d ++ formula_text P.symbols 0 P.formula
    → f ≡ e ++ codes "\nlimit " → g ≡ f ++ decimal n → h ≡ g ++ 10 ∷ [] → h ≡ a ++ flat_map line_bytes (head_of first P n)
unfolding head_with
head-by_steps first P n a z b c d e f g h = pieces_of_head first (setting_text P.setting) (formula_text P.symbols 0 P.formula) (decimal n) a z b c d e f g h
