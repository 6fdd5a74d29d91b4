use Rattle.std.proofs.Common.{◌||◌, ◌∙◌, ap}
use Rattle.std.specs.List.{list_any}
use Rattle.calculus.specs.Calculus.{is_eigen}
use Rattle.derivation_branch.specs.Occurring.{holds}
use Rattle.formula_text.specs.Rows.{any_item}
use Rattle.formula_text.proofs.RowLaws.{any-row}
use Rattle.derivation_check.specs.NamesTold.{by_home}
use Rattle.derivation_check.proofs.term_names.found_in.Goals as goal

pub loop-item-init : goal.loop-item-init
loop-item-init c =
    let t = c.args.t.now in
    let items = c.items-item-items.result.now in
    record {
      eigen = λ n. ap (λ ks. holds ks n || any_item (is_eigen n) items) c.new.ensures.empty ∙ ap (any_item (is_eigen n)) c.items-item-items.ensures ∙ any-row (is_eigen n) t;
      home = λ test. let f = by_home c.args.homes.now test in ap (λ ks. list_any test.at ks || any_item f items) c.new-2.ensures.empty ∙ ap (any_item f) c.items-item-items.ensures ∙ any-row f t;
    }
