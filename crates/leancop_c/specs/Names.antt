-- The words that C is told for numbers of faults and causes.
use Rattle.std.specs.Prelude.{◌≡◌, ◌==◌, ℕ, List, [], codes, replicate, if◌then◌else◌}
use Rattle.leancop_top.specs.FaultTexts.{cause_text}
use Rattle.problem_build.specs.Refusals.{Refusal, missing, input_too_large, nesting_too_deep}
use Rattle.problem_build.specs.Refusals.{formula_too_large, too_many_symbols, bad}
use Rattle.leancop_c.specs.Told.{placed}

-- zeros behind the words, which all are shorter
abbrev pub padded : List ℕ → List ℕ
padded words = placed (replicate 32 0) words

abbrev pub fault_words : ℕ → List ℕ
fault_words n =
    if n == 1 then codes "version"
    else if n == 2 then codes "setting"
    else if n == 3 then codes "formula"
    else if n == 4 then codes "limit"
    else if n == 5 then codes "name"
    else if n == 6 then codes "line"
    else if n == 7 then codes "text after end"
    else if n == 8 then codes "label"
    else if n == 9 then codes "term"
    else if n == 10 then codes "table"
    else if n == 21 then codes "no entry"
    else if n == 22 then codes "no connection"
    else if n == 23 then codes "wrong arguments"
    else if n == 24 then codes "unknown name"
    else if n == 25 then codes "not reachable"
    else if n == 26 then codes "not new"
    else if n == 27 then codes "wrong home"
    else if n == 28 then codes "not allowed"
    else if n == 31 then codes "all closed"
    else if n == 32 then codes "still open"
    else []

abbrev pub cause_words : ℕ → List ℕ
cause_words n =
    if n == 1 then codes "syntax"
    else if n == 2 then codes "unsupported"
    else if n == 3 then codes "reserved word"
    else if n == 4 then codes "wrong language"
    else if n == 5 then codes "second conjecture"
    else if n == 6 then codes "unknown role"
    else if n == 7 then codes "include too deep"
    else if n == 8 then codes "include name absent"
    else if n == 9 then codes "no formula"
    else if n == 10 then codes "input too large"
    else if n == 11 then codes "nesting too deep"
    else if n == 12 then codes "formula too large"
    else if n == 13 then codes "too many symbols"
    else []

-- the words are those of the refusal
abbrev pub prints : Refusal → List ℕ → Type 0
prints (missing name) words = words ≡ []
prints input_too_large words = words ≡ codes "input too large"
prints nesting_too_deep words = words ≡ codes "nesting too deep"
prints formula_too_large words = words ≡ codes "formula too large"
prints too_many_symbols words = words ≡ codes "too many symbols"
prints (bad file offset c) words = words ≡ cause_text c
