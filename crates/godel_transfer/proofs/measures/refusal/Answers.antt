use Rattle.std.proofs.Common.{◌≡◌, ◌<◌, ◌≤◌, min, ℕ, refl, arith}
use Rattle.formula_core.specs.FormulaView.{the_formula}
use Rattle.godel_transfer.proofs.TranslationSizes.{translation-nesting}
use Rattle.godel_transfer.proofs.measures.refusal.Goals as goal

pub returns-then-boxed_nesting-gt-MAX_ITEM_NESTING-clause-deep : goal.returns-then-boxed_nesting-gt-MAX_ITEM_NESTING-clause-deep
returns-then-boxed_nesting-gt-MAX_ITEM_NESTING-clause-deep c =
    let n = translation-nesting (the_formula c.args.f.now) in
    let told = c.boxed_nesting.ensures in
    let more = c.if-boxed_nesting-gt-MAX_ITEM_NESTING.true in
    (λ e. omega arith, λ h. refl)

pub returns-then-boxed_nesting-gt-MAX_ITEM_NESTING-clause-large : goal.returns-then-boxed_nesting-gt-MAX_ITEM_NESTING-clause-large
returns-then-boxed_nesting-gt-MAX_ITEM_NESTING-clause-large c =
    let n = translation-nesting (the_formula c.args.f.now) in
    let told = c.boxed_nesting.ensures in
    let more = c.if-boxed_nesting-gt-MAX_ITEM_NESTING.true in
    (λ e. absurd cc, λ h. let less = h.0 in absurd (omega arith))

pub returns-then-translation_nodes-gt-MAX_NODES-clause-deep : goal.returns-then-translation_nodes-gt-MAX_NODES-clause-deep
returns-then-translation_nodes-gt-MAX_NODES-clause-deep c =
    let n = translation-nesting (the_formula c.args.f.now) in
    let told = c.boxed_nesting.ensures in
    let less = c.if-boxed_nesting-gt-MAX_ITEM_NESTING.false in
    (λ e. absurd cc, λ h. absurd (omega arith))

pub returns-then-translation_nodes-gt-MAX_NODES-clause-large : goal.returns-then-translation_nodes-gt-MAX_NODES-clause-large
returns-then-translation_nodes-gt-MAX_NODES-clause-large c =
    let n = translation-nesting (the_formula c.args.f.now) in
    let told = c.boxed_nesting.ensures in
    let less = c.if-boxed_nesting-gt-MAX_ITEM_NESTING.false in
    let nodes = c.translation_nodes.ensures in
    let more = c.if-translation_nodes-gt-MAX_NODES.true in
    (λ e. (omega arith, omega arith), λ h. refl)

pub returns-clause-deep : goal.returns-clause-deep
returns-clause-deep c =
    let n = translation-nesting (the_formula c.args.f.now) in
    let told = c.boxed_nesting.ensures in
    let less = c.if-boxed_nesting-gt-MAX_ITEM_NESTING.false in
    (λ e. absurd cc, λ h. absurd (omega arith))

pub returns-clause-large : goal.returns-clause-large
returns-clause-large c =
    let nodes = c.translation_nodes.ensures in
    let fewer = c.if-translation_nodes-gt-MAX_NODES.false in
    (λ e. absurd cc, λ h. let more = h.1 in absurd (omega arith))
