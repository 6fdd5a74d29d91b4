use Rattle.std.proofs.Common.{◌≡◌, IfSome, IsTrue, Ok, map, refl, sym, ◌∙◌, ap, subst}
use Rattle.formula_core.specs.SymbolView.{the_symbol}
use Rattle.finite_model.specs.Slots.{table_sizes}
use Rattle.std.specs.List.{list_all}
use Rattle.calculus.specs.StructureText.{fits_table}
use Rattle.logic_rules.proofs.ProblemFacts.{kept}
use Rattle.finite_model.proofs.HeadFaults.{elements-fault, setting-fault, version-fault, worlds-fault}
use Rattle.text_lines.proofs.WholeLines.{none-read}
use Rattle.finite_model.proofs.HeadReading.{no-same, read-four, read-one, read-three, read-two, told, too-large}
use Rattle.finite_model.proofs.head.read_head.Goals as goal

pub returns-in_default-clause-fault : goal.returns-in_default-clause-fault
returns-in_default-clause-fault c = λ line why e. told c.args.problem.now c.args.bytes.now 1 line _ why e (version-fault c.args.problem.now (kept c.args.problem.now c.setting_line.ensures.well).symbols c.args.bytes.now (none-read c.args.bytes.now) (c.in_default.ensures.none refl))

pub returns-in_default-after_line-clause-fault : goal.returns-in_default-after_line-clause-fault
returns-in_default-after_line-clause-fault c = λ line why e.
    told c.args.problem.now c.args.bytes.now 2 line _ why e
    (setting-fault c.args.problem.now (kept c.args.problem.now c.setting_line.ensures.well).symbols c.args.bytes.now c.in-Some.first (read-one c.args.bytes.now c.in-Some.first c.in-Some.ensures.some) (no-same _ _ _ (c.as_slice.ensures.value ∙ c.in_ok-setting.ensures.text) (c.in_default-after_line.ensures.none refl)))

pub returns-in_default-size_after-clause-fault : goal.returns-in_default-size_after-clause-fault
returns-in_default-size_after-clause-fault c = λ line why e.
    told c.args.problem.now c.args.bytes.now 3 line _ why e
    (worlds-fault c.args.problem.now (kept c.args.problem.now c.setting_line.ensures.well).symbols c.args.bytes.now c.in-Some-after_line.second (read-two c.args.problem.now c.args.bytes.now c.in-Some.first c.in-Some-after_line.second _ c.in-Some.ensures.some c.in-Some-after_line.ensures.some (c.as_slice.ensures.value ∙ c.in_ok-setting.ensures.text)) (c.in_default-size_after.ensures.none refl))

pub returns-in_default-size_after-2-clause-fault : goal.returns-in_default-size_after-2-clause-fault
returns-in_default-size_after-2-clause-fault c = λ line why e.
    told c.args.problem.now c.args.bytes.now 4 line _ why e
    (elements-fault c.args.problem.now (kept c.args.problem.now c.setting_line.ensures.well).symbols c.args.bytes.now c.in-Some-size_after.worlds c.in-Some-size_after.third c.in-Some-size_after.ensures.size (read-three c.args.problem.now c.args.bytes.now c.in-Some.first c.in-Some-after_line.second c.in-Some-size_after.third c.in-Some-size_after.worlds _ c.in-Some.ensures.some c.in-Some-after_line.ensures.some (c.as_slice.ensures.value ∙ c.in_ok-setting.ensures.text) c.in-Some-size_after.ensures.some) (λ n more h _. c.in_default-size_after-2.ensures.none refl n more h))

pub returns-in_default-2-clause-fault : goal.returns-in_default-2-clause-fault
returns-in_default-2-clause-fault c = λ line why e.
    told c.args.problem.now c.args.bytes.now 4 line _ why e
    (elements-fault c.args.problem.now (kept c.args.problem.now c.setting_line.ensures.well).symbols c.args.bytes.now c.in-Some-size_after.worlds c.in-Some-size_after.third c.in-Some-size_after.ensures.size (read-three c.args.problem.now c.args.bytes.now c.in-Some.first c.in-Some-after_line.second c.in-Some-size_after.third c.in-Some-size_after.worlds _ c.in-Some.ensures.some c.in-Some-after_line.ensures.some (c.as_slice.ensures.value ∙ c.in_ok-setting.ensures.text) c.in-Some-size_after.ensures.some)
    (too-large (λ k. list_all (fits_table k) c.args.problem.now.symbols) c.args.bytes.now c.in-Some-size_after.third c.in-Some-size_after-2.end c.in-Some-size_after-2.elements c.in-Some-size_after-2.ensures.size c.in-Some-size_after-2.ensures.some
    (λ h. c.in_ok-sizes.ensures.none (ap Ok c.in_default-2.is) (subst (λ ss. IsTrue (list_all (fits_table c.in-Some-size_after-2.elements) ss)) (sym (c.items.ensures ∙ c.symbols.ensures.symbols)) h))))

pub returns-clause-ok : goal.returns-clause-ok
returns-clause-ok c = record {
  worlds = c.in-Some-size_after.ensures.size;
  elements = c.in-Some-size_after-2.ensures.size;
  fits = subst (λ ss. IsTrue (list_all (fits_table c.in-Some-size_after-2.elements) ss)) (c.items.ensures ∙ c.symbols.ensures.symbols) (subst (λ o. IfSome o (λ _. IsTrue (list_all (fits_table c.in-Some-size_after-2.elements) (map the_symbol c.items.result.now)))) c.in-Some-2.is c.in_ok-sizes.ensures.fits);
  sizes = subst (λ o. IfSome o (λ v. v.items ≡ table_sizes c.in-Some-size_after-2.elements (map the_symbol c.items.result.now))) c.in-Some-2.is c.in_ok-sizes.ensures.sizes ∙ ap (table_sizes c.in-Some-size_after-2.elements) (c.items.ensures ∙ c.symbols.ensures.symbols);
  lines = read-four c.args.problem.now c.args.bytes.now c.in-Some.first c.in-Some-after_line.second c.in-Some-size_after.third c.in-Some-size_after-2.end c.in-Some-size_after.worlds c.in-Some-size_after-2.elements _ c.in-Some.ensures.some c.in-Some-after_line.ensures.some (c.as_slice.ensures.value ∙ c.in_ok-setting.ensures.text) c.in-Some-size_after.ensures.some c.in-Some-size_after-2.ensures.some;
}
