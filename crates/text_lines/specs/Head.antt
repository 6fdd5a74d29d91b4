-- The head of a text: its first four lines, of which the first one tells the kind of the text.
use Rattle.std.specs.Prelude.{◌≡◌, ℕ, List, [], ◌∷◌, ◌++◌, drop, IsTrue, codes, decimal}
use Rattle.calculus.specs.Syntax.{Problem}
use Rattle.calculus.specs.DerivationText.{is_limit, setting_text}
use Rattle.calculus.specs.FirstWrong.{whole_lines}
use Rattle.calculus.specs.Text.{formula_text}
use Rattle.text_lines.specs.Lines.{AreRead}
use Rattle.text_lines.specs.declared.head_line.HeadLine.{HeadLine}
use Rattle.text_lines.specs.declared.head_line.HeadLine.TheVariants.{First, Setting, Formula, Limit}

abbrev pub setting_line : Problem → List ℕ
setting_line P = codes "logic " ++ setting_text P.setting

abbrev pub formula_line : Problem → List ℕ
formula_line P = codes "formula " ++ formula_text P.symbols 0 P.formula

abbrev pub limit_line : ℕ → List ℕ
limit_line n = codes "limit " ++ decimal n

abbrev pub head_of : List ℕ → Problem → ℕ → List (List ℕ)
head_of first P limit = first ∷ setting_line P ∷ formula_line P ∷ limit_line limit ∷ []

-- the lines of a head before this one
abbrev pub lines_before : List ℕ → Problem → HeadLine → List (List ℕ)
lines_before first P First = []
lines_before first P Setting = first ∷ []
lines_before first P Formula = first ∷ setting_line P ∷ []
lines_before first P Limit = first ∷ setting_line P ∷ formula_line P ∷ []

-- the bytes are this line of a head
abbrev pub IsHeadLine : List ℕ → Problem → HeadLine → List ℕ → Type 0
IsHeadLine first P First bytes = bytes ≡ first
IsHeadLine first P Setting bytes = bytes ≡ setting_line P
IsHeadLine first P Formula bytes = bytes ≡ formula_line P
IsHeadLine first P Limit bytes = (n : ℕ) × IsTrue (is_limit n) × (bytes ≡ limit_line n)

-- the head, with this limit, is read up to this place
pub record IsHeadRead (first : List ℕ) (P : Problem) (bytes : List ℕ) (place top : ℕ) : Type 0 where
  pub limit : IsTrue (is_limit top)
  pub lines : AreRead bytes (head_of first P top) place

-- the lines before this one are those of a head, and this one is not
pub record IsHeadFault (first : List ℕ) (P : Problem) (bytes : List ℕ) (line : HeadLine) : Type 0 where
  pub place : ℕ
  pub before : AreRead bytes (lines_before first P line) place
  pub wrong : (l : List ℕ) (more : List (List ℕ)) → IsHeadLine first P line l → ¬ (whole_lines (drop place bytes) ≡ l ∷ more)
