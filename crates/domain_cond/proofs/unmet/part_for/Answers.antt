use Rattle.std.proofs.Common.{◌≡◌, ◌∙◌, ap, arith, length, map, sym, take}
use Rattle.std.proofs.lemmas.List.{length-map, take-map}
use Rattle.term_store.specs.RefView.{the_place}
use Rattle.domain_cond.proofs.AskingLaws.{taken-from}
use Rattle.domain_cond.proofs.ConditionLaws.{begin-compared, varying-left, whole-compared}
use Rattle.domain_cond.proofs.unmet.part_for.Goals as goal

pub returns-in_default-clause-compared : goal.returns-in_default-clause-compared
returns-in_default-clause-compared c = λ P e. whole-compared P c.args.store.now.store (map the_place c.args.home.now) (map the_place c.args.label.now) (map the_place c.in_ok-marks.marks.items) (e ∙ varying-left c.args.domains c.requires.not_constant c.in_default.not-Cumulative) c.requires.label c.in_ok-marks.ensures.flat c.in_ok-marks.ensures.free

pub returns-clause-compared : goal.returns-clause-compared
returns-clause-compared c = λ P e.
    let ms = c.in_ok-marks.marks.items in
    let hs = c.in_ok-home.home.items in
    let n = length-map hs the_place in
    let count : c.len.result ≡ length (map the_place hs) = omega (arith, n) in
    let is : map the_place c.truncate.new.self.items ≡ take (length (map the_place hs)) (map the_place ms) = ap (map the_place) c.truncate.ensures.items ∙ sym (take-map the_place c.len.result ms) ∙ ap (λ n. take n (map the_place ms)) count in
    begin-compared P c.args.store.now.store (map the_place c.args.home.now) (map the_place c.args.label.now) (map the_place hs) (map the_place ms) (map the_place c.truncate.new.self.items) (e ∙ c.in-Cumulative.is) c.requires.label c.in_ok-home.ensures.flat c.in_ok-marks.ensures.flat c.in_ok-marks.ensures.free is

pub returns-in_default-clause-from : goal.returns-in_default-clause-from
returns-in_default-clause-from c = c.in_ok-marks.ensures.from

pub returns-clause-from : goal.returns-clause-from
returns-clause-from c = λ base names from.
    let ms = c.in_ok-marks.marks.items in
    taken-from base c.len.result (map the_place ms) (map the_place c.truncate.new.self.items) (ap (map the_place) c.truncate.ensures.items ∙ sym (take-map the_place c.len.result ms)) (c.in_ok-marks.ensures.from base names from)
