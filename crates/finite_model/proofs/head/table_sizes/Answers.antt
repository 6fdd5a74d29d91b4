use Rattle.std.proofs.Common.{refl, arith}
use Rattle.finite_model.proofs.SizeLaws.{fits-all, fits-on, not-all_fit, sizes-all, sizes-on}
use Rattle.finite_model.proofs.head.table_sizes.Goals as goal

pub loop-symbol-init : goal.loop-symbol-init
loop-symbol-init c = record { sizes = c.new-sizes.ensures.items; fits = refl }

pub loop-symbol-preserved : goal.loop-symbol-preserved
loop-symbol-preserved c = record {
  sizes = sizes-on c.args.elements c.args.symbols.now c.loop-symbol.symbol-index c.in-Some.size c.symbol-item.result c.loop-symbol.sizes.items _ (omega arith) c.symbol-item.is c.in-Some.ensures.some c.in_ok-push.ensures.items c.loop-symbol.invariant.sizes;
  fits = fits-on c.args.elements c.args.symbols.now c.loop-symbol.symbol-index c.in-Some.size c.symbol-item.result (omega arith) c.symbol-item.is c.in-Some.ensures.some c.in-Some.ensures.most c.loop-symbol.invariant.fits;
}

pub returns-in_default-clause-none : goal.returns-in_default-clause-none
returns-in_default-clause-none c = λ _. not-all_fit c.args.elements c.args.symbols.now c.loop-symbol.symbol-index c.symbol-item.result (omega arith) c.symbol-item.is (c.in_default.ensures.none refl)

pub returns-clause-sizes : goal.returns-clause-sizes
returns-clause-sizes c = sizes-all c.args.elements c.args.symbols.now c.loop-symbol.symbol-index c.loop-symbol.sizes.items (omega arith) c.loop-symbol.invariant.sizes

pub returns-clause-fits : goal.returns-clause-fits
returns-clause-fits c = fits-all c.args.elements c.args.symbols.now c.loop-symbol.symbol-index (omega arith) c.loop-symbol.invariant.fits
