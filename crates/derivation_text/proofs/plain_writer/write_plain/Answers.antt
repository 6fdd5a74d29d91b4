use Rattle.derivation_text.proofs.Printable.{parts}
use Rattle.derivation_text.proofs.PlainLaws.{text-by_steps}
use Rattle.sequent_calc.specs.DerivationView.{the_derivation}
use Rattle.derivation_text.proofs.plain_writer.write_plain.Goals as goal

pub write_eigens-requires : goal.write_eigens-requires
write_eigens-requires c = (parts c.args.problem.now (the_derivation c.args.d.now) c.requires).eigens

pub write_spares-requires : goal.write_spares-requires
write_spares-requires c = (parts c.args.problem.now (the_derivation c.args.d.now) c.requires).spares

pub returns : goal.returns
returns c =
    text-by_steps c.args.problem.now (the_derivation c.args.d.now) _ _ _ _ _ c.requires
    (rw c.new-out.ensures.items at c.in_ok-write_head.ensures.ok) c.in_ok-write_eigens.ensures c.in_ok-write_spares.ensures (rw c.symbols.ensures.symbols at c.in_ok-write_steps.ensures) c.in_ok-write_bytes.ensures.ok
