use Rattle.formula_core.specs.FormulaView.{the_formula}
use Rattle.formula_text.proofs.Knowing.{formula_fits-known}
use Rattle.formula_text.proofs.FormulaTexts.{formulas-apart}
use Rattle.formula_text.proofs.formula.write_formula.Goals as goal

pub append_formula-appended-requires-clause-known : goal.append_formula-appended-requires-clause-known
append_formula-appended-requires-clause-known c = formula_fits-known c.requires.fits.0 c.args.symbols.now 0 (the_formula c.args.f.now) c.requires.fits.1

pub returns-clause-apart : goal.returns-clause-apart
returns-clause-apart c dist = formulas-apart c.args.symbols.now dist c.requires.names
