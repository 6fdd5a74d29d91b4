-- How translating an intuitionistic problem into S4 ends.
use Rattle.std.specs.Prelude.{◌≡◌, ◌<◌, ◌≤◌}
use Rattle.calculus.specs.Measures.{nesting, node_count}
use Rattle.calculus.specs.Syntax.{Problem}
use Rattle.calculus.specs.Translation.{translated_problem, translation_of}
use Rattle.leancop_top.specs.declared.translation.Translation as program
use Rattle.leancop_top.specs.declared.translation.Translation.TheVariants.{Translated, Refused}
use Rattle.leancop_top.specs.declared.status.Status.{Status}
use Rattle.leancop_top.specs.declared.status.Status.TheVariants as status

-- the translation passes no limit
pub record IsTranslatable (P : Problem) : Type 0 where
  pub nests : nesting (translation_of P.formula) ≤ 1000
  pub nodes : node_count (translation_of P.formula) ≤ 4000000

-- why a problem is not translated
pub data TranslatingEnds (P : Problem) : Status → Type 0 where
  too_deep : 1000 < nesting (translation_of P.formula) → TranslatingEnds P status.NestingTooDeep
  too_large : nesting (translation_of P.formula) ≤ 1000
      → 4000000 < node_count (translation_of P.formula) → TranslatingEnds P status.FormulaTooLarge

pub record IsTranslated (P Q : Problem) : Type 0 where
  pub same : Q ≡ translated_problem P
  pub translatable : IsTranslatable P

-- what translating answers
abbrev pub IsTranslating : Problem → program.Translation → Type 0
IsTranslating P (Translated problem) = IsTranslated P problem
IsTranslating P (Refused s) = TranslatingEnds P s
