-- What ends a run: that it tells something, and what is counted for it.
use Rattle.std.proofs.Common.{◌≡◌, List, ℕ, Option, Result, Ok, Err, Bool, true, false, refl, sym, subst}
use Rattle.std.specs.Prelude.{IfOk}
use Rattle.cop_base.specs.Outside.{Files}
use Rattle.cop_base.specs.Reads.{Read}
use Rattle.cop_base.specs.declared.NoMemory.{NoMemory}
use Rattle.calculus.specs.Syntax.{Problem}
use Rattle.command_line.specs.CommandLine.{Bounds, GeneratedProblem, ProblemFile}
use Rattle.command_line.specs.Table.{Word}
use Rattle.problem_build.specs.Refusals.{Refusal, missing, input_too_large, nesting_too_deep, formula_too_large, too_many_symbols, bad as bad_problem}
use Rattle.leancop_top.specs.Commands.Make.{IsOfText, MakeEnds}
use Rattle.leancop_top.specs.Commands.Make as made
use Rattle.leancop_top.specs.Reading.{ReadingEnds, refused, refusal_status, unread}
use Rattle.leancop_top.specs.SecondFile.{FetchEnds}
use Rattle.leancop_top.specs.SecondFile as second
use Rattle.leancop_top.specs.Statuses.{IsCounted, status_line}
use Rattle.leancop_top.specs.TableauSearch.{SearchEnds, exhausted, no_tableau, steps_ended, too_large}
use Rattle.leancop_top.specs.Telling.{is_silent}
use Rattle.leancop_top.specs.Translating.{TranslatingEnds}
use Rattle.leancop_top.specs.Translating as translating
use Rattle.leancop_top.specs.declared.reply.Reply.{Reply}
use Rattle.leancop_top.specs.declared.status.Status.{Status}
use Rattle.leancop_top.specs.declared.status.Status.TheVariants as status

-- ---- replies of one line

pub same-ends : (ends : Status → List ℕ → Type 0) (s t : Status) (bytes other : List ℕ) → t ≡ s → other ≡ bytes → ends s bytes → ends t other
same-ends ends s t bytes other e f h = subst (λ u. ends u other) (sym e) (subst (ends s) (sym f) h)

pub line-ends : (ends : Status → List ℕ → Type 0) (s : Status) (r : Result Reply NoMemory) → IfOk r (λ x. x.status ≡ s) → IfOk r (λ x. x.output.items ≡ status_line s) → ends s (status_line s) → IfOk r (λ x. ends x.status x.output.items)
line-ends ends s (Ok x) e k h = same-ends ends s x.status (status_line s) x.output.items e k h
line-ends ends s (Err f) e k h = tt

pub line-counted : (m n f g : ℕ) (after : List Read) (s : Status) (r : Result Reply NoMemory) → IfOk r (λ x. x.status ≡ s) → IsCounted m n f g after s → IfOk r (λ x. IsCounted m n f g after x.status)
line-counted m n f g after s (Ok x) e h = subst (IsCounted m n f g after) (sym e) h
line-counted m n f g after s (Err k) e h = tt

-- ---- a search fetches nothing

pub search-counted : (P : Problem) (b : Bounds) (m n f g : ℕ) (after : List Read) (s : Status) → SearchEnds P b s → IsCounted m n f g after s
search-counted P b m n f g after _ (exhausted d h) = tt
search-counted P b m n f g after _ (no_tableau d h) = tt
search-counted P b m n f g after _ (steps_ended d k h) = tt
search-counted P b m n f g after _ (too_large h) = tt

-- ---- translating fetches nothing

pub translating-counted : (P : Problem) (m n f g : ℕ) (after : List Read) (s : Status) → TranslatingEnds P s → IsCounted m n f g after s
translating-counted P m n f g after _ (translating.too_deep h) = tt
translating-counted P m n f g after _ (translating.too_large h k) = tt

-- ---- nor does the reading of a generated text, as far as its library counts

refusal-counted : (m n f g : ℕ) (after : List Read) (r : Refusal) → IsOfText r → IsCounted m n f g after (refusal_status r)
refusal-counted m n f g after (missing name) h = absurd h
refusal-counted m n f g after input_too_large h = tt
refusal-counted m n f g after nesting_too_deep h = tt
refusal-counted m n f g after formula_too_large h = tt
refusal-counted m n f g after too_many_symbols h = tt
refusal-counted m n f g after (bad_problem file offset cause) h = tt

pub make-counted : (p : GeneratedProblem) (b : Bounds) (m n f g : ℕ) (after : List Read) (s : Status) (bytes : List ℕ) → MakeEnds p b s bytes → IsCounted m n f g after s
make-counted p b m n f g after _ _ (made.derived P d text h k) = tt
make-counted p b m n f g after _ _ (made.fruitless P s h k) = search-counted P b m n f g after s k
make-counted p b m n f g after _ _ (made.refused r h k) = refusal-counted m n f g after r h

-- ---- what ends a run before a command begins, or without what was sought, tells something

refusal-tells : (r : Refusal) → is_silent (refusal_status r) ≡ false
refusal-tells (missing name) = refl
refusal-tells input_too_large = refl
refusal-tells nesting_too_deep = refl
refusal-tells formula_too_large = refl
refusal-tells too_many_symbols = refl
refusal-tells (bad_problem file offset cause) = refl

pub reading-tells : (told : Option Files) (p : ProblemFile) (s : Status) → ReadingEnds told p s → is_silent s ≡ false
reading-tells told p _ (refused r h) = refusal-tells r
reading-tells told p _ (unread name h) = refl

pub fetch-tells : (told : Option Files) (name : Word) (s : Status) → FetchEnds told name s → is_silent s ≡ false
fetch-tells told name _ (second.missing h) = refl
fetch-tells told name _ second.unread = refl

pub translating-tells : (P : Problem) (s : Status) → TranslatingEnds P s → is_silent s ≡ false
translating-tells P _ (translating.too_deep h) = refl
translating-tells P _ (translating.too_large h k) = refl

pub search-tells : (P : Problem) (b : Bounds) (s : Status) → SearchEnds P b s → is_silent s ≡ false
search-tells P b _ (exhausted d h) = refl
search-tells P b _ (no_tableau d h) = refl
search-tells P b _ (steps_ended d k h) = refl
search-tells P b _ (too_large h) = refl

pub make-tells : (g : GeneratedProblem) (b : Bounds) (s : Status) (bytes : List ℕ) → MakeEnds g b s bytes → is_silent s ≡ false
make-tells g b _ _ (made.derived P d text h k) = refl
make-tells g b _ _ (made.fruitless P s h k) = search-tells P b s k
make-tells g b _ _ (made.refused r h k) = refusal-tells r

-- ---- so a reply is no write fault and no want of memory

true-false : (t : Bool) → t ≡ true → t ≡ false → ⊥
true-false t e k = absurd (cc)

pub no_write_fault : (s : Status) → is_silent s ≡ false → s ≡ status.WriteFault → ⊥
no_write_fault s tells e = true-false (is_silent status.WriteFault) refl (subst (λ t. is_silent t ≡ false) e tells)

pub no_want_of_memory : (s : Status) → is_silent s ≡ false → s ≡ status.NoMemory → ⊥
no_want_of_memory s tells e = true-false (is_silent status.NoMemory) refl (subst (λ t. is_silent t ≡ false) e tells)
