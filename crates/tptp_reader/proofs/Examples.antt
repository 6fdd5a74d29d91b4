-- `p & q | r` in a text: what stands before the `|` can go on, and the `|` cannot follow.
use Rattle.std.proofs.Common.{◌≡◌, ℕ, Option, Some, List, [], ◌∷◌, true, false, None, refl}
use Rattle.std.specs.Prelude.{codes, replicate, slice_get, ◌+◌, ◌++◌}
use Rattle.std.specs.Option.{option_map_or}
use Rattle.tptp_reader.specs.declared.source.ChainKind.TheVariants.{And}
use Rattle.tptp_reader.specs.declared.fault.ReadCause.TheVariants.{Syntax, Unsupported, Reserved, WrongLanguage}
use Rattle.tptp_reader.specs.Terminals.{Terminal, tilde, lower, number, dollar, open_round, close_round, comma, dot, ampersand, bar}
use Rattle.tptp_reader.specs.Grammar.{UnitTree, ItemTree, plain, word_name, fof, atomic, proposition, chain, no_units}
use Rattle.tptp_reader.specs.Nesting.{text_nestings}
use Rattle.tptp_reader.specs.Faults.{TextLanguage, CanFollow, CanGoOn, at_item, in_formula, elsewhere, cause_at}
use Rattle.tptp_reader.specs.Expecting.{items, run}
use Rattle.tptp_reader.proofs.FollowLaws.{text-read, no-step}

abbrev unit_of : List ℕ → UnitTree
unit_of p = atomic (proposition (plain p))

-- fof(c,conjecture,p & q
abbrev front : List Terminal
front = lower (codes "fof") ∷ open_round ∷ lower (codes "c") ∷ comma ∷ lower (codes "conjecture") ∷ comma ∷ lower (codes "p") ∷ ampersand ∷ lower (codes "q") ∷ []

abbrev whole : List ItemTree
whole = fof (word_name (plain (codes "c"))) (codes "conjecture") (chain And (unit_of (codes "p")) (unit_of (codes "q")) no_units) None ∷ []

-- `).` makes it a text
goes-on : CanGoOn (TextLanguage false) front
goes-on = (close_round, (0, (dot ∷ [], text_nestings whole, (whole, refl, refl, refl), refl)))

no-bar : CanFollow (TextLanguage false) front bar → ⊥
no-bar = no-step false (TextLanguage false) (items ∷ []) (text-read false) front bar _ _ refl refl

-- causes
cause-number : cause_at false in_formula (number (codes "1")) ≡ Unsupported
cause-number = refl

cause-dollar : cause_at false in_formula (dollar (codes "$$p")) ≡ Reserved
cause-dollar = refl

cause-truth : cause_at false in_formula (dollar (codes "$true")) ≡ Syntax
cause-truth = refl

cause-language : cause_at false at_item (lower (codes "qmf")) ≡ WrongLanguage
cause-language = refl

cause-form : cause_at true at_item (lower (codes "thf")) ≡ Unsupported
cause-form = refl

cause-word : cause_at false elsewhere (number (codes "1.5")) ≡ Syntax
cause-word = refl

-- ---- 500 negations are not too deep, 501 are

abbrev negated : ℕ → List Terminal
negated n = lower (codes "fof") ∷ open_round ∷ lower (codes "c") ∷ comma ∷ lower (codes "conjecture") ∷ comma ∷ (replicate n tilde ++ lower (codes "p") ∷ [])

abbrev nesting_of_last : ℕ → Option ℕ
nesting_of_last n = option_map_or (λ r. slice_get r.0 (n + 6)) (run false (items ∷ []) (negated n)) None

not-deep : nesting_of_last 500 ≡ Some 500
not-deep = refl

deep : nesting_of_last 501 ≡ Some 501
deep = refl
