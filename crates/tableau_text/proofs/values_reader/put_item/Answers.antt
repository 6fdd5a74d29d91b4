use Rattle.std.proofs.Common.{◌∷◌, ◌∙◌, ap, refl, sym}
use Rattle.formula_text.proofs.Passing.{error-passed}
use Rattle.tableau_text.proofs.StepLaws.{put-close, put-comma, put-no_fit, put-no_follower, put-no_made}
use Rattle.tableau_text.proofs.values_reader.put_item.Goals as goal

pub returns-in-Some-after_byte-clause-ok : goal.returns-in-Some-after_byte-clause-ok
returns-in-Some-after_byte-clause-ok c =
    (put-comma c.args.symbols.now _ c.args.table.now c.loop-last.table c.loop-last.stack.items c.pop.new.self.items c.in-Some.last c.in_ok-list.list c.loop-last.item c.loop-last.rest.now _ c.loop-last.invariant c.in-Some.ensures.items c.in_ok-list.ensures.ok
    c.push_reserved.new.self.items c.in-Some-after_byte.after.now c.in-Some-after_byte.ensures.some c.push_reserved.ensures.items).0

pub returns-in-Some-after_byte-clause-normal : goal.returns-in-Some-after_byte-clause-normal
returns-in-Some-after_byte-clause-normal c =
    (put-comma c.args.symbols.now _ c.args.table.now c.loop-last.table c.loop-last.stack.items c.pop.new.self.items c.in-Some.last c.in_ok-list.list c.loop-last.item c.loop-last.rest.now _ c.loop-last.invariant c.in-Some.ensures.items c.in_ok-list.ensures.ok
    c.push_reserved.new.self.items c.in-Some-after_byte.after.now c.in-Some-after_byte.ensures.some c.push_reserved.ensures.items).1

pub returns-in-Some-after_byte-clause-rest : goal.returns-in-Some-after_byte-clause-rest
returns-in-Some-after_byte-clause-rest c =
    (put-comma c.args.symbols.now _ c.args.table.now c.loop-last.table c.loop-last.stack.items c.pop.new.self.items c.in-Some.last c.in_ok-list.list c.loop-last.item c.loop-last.rest.now _ c.loop-last.invariant c.in-Some.ensures.items c.in_ok-list.ensures.ok
    c.push_reserved.new.self.items c.in-Some-after_byte.after.now c.in-Some-after_byte.ensures.some c.push_reserved.ensures.items).2

pub returns-in_err-list-clause-none : goal.returns-in_err-list-clause-none
returns-in_err-list-clause-none c = λ e.
    put-no_fit c.args.symbols.now _ c.args.table.now c.loop-last.table c.loop-last.stack.items c.pop.new.self.items c.in-Some.last c.in-Some.last c.loop-last.item c.loop-last.rest.now _ c.loop-last.invariant c.in-Some.ensures.items
    (c.in_err-list.ensures.none (error-passed c.from_residual.result c.in_err-list.field-0.0 _ c.from_residual.ensures.1 e))

pub returns-in_default-after_byte-2-clause-none : goal.returns-in_default-after_byte-2-clause-none
returns-in_default-after_byte-2-clause-none c = λ _.
    put-no_follower c.args.symbols.now _ c.args.table.now c.loop-last.table c.loop-last.stack.items c.pop.new.self.items c.in-Some.last c.in_ok-list.list c.loop-last.item c.loop-last.rest.now _ c.loop-last.invariant c.in-Some.ensures.items c.in_ok-list.ensures.ok
    (c.in_default-after_byte.ensures.none refl) (λ r e. c.in_default-after_byte-2.ensures.none refl r (e ∙ ap (λ b. b ∷ r) (sym c.closing.ensures)))

pub returns-in_err-closed-clause-none : goal.returns-in_err-closed-clause-none
returns-in_err-closed-clause-none c = λ e.
    put-no_made c.args.symbols.now _ c.args.table.now c.loop-last.table c.loop-last.stack.items c.pop.new.self.items c.in-Some.last c.in_ok-list.list c.loop-last.item c.loop-last.rest.now _ c.loop-last.invariant c.in-Some.ensures.items c.in_ok-list.ensures.ok
    c.in-Some-after_byte-2.after.now (c.in-Some-after_byte-2.ensures.some ∙ ap (λ b. b ∷ c.in-Some-after_byte-2.after.now) c.closing.ensures) (c.in_err-closed.ensures.none (error-passed c.from_residual-in_err-closed.result c.in_err-closed.field-0.0 _ c.from_residual-in_err-closed.ensures.1 e))

pub loop-last-preserved : goal.loop-last-preserved
loop-last-preserved c =
    put-close c.args.symbols.now _ c.args.table.now c.loop-last.table c.loop-last.stack.items c.pop.new.self.items c.in-Some.last c.in_ok-list.list c.loop-last.item c.loop-last.rest.now _ c.loop-last.invariant c.in-Some.ensures.items c.in_ok-list.ensures.ok
    c.requires.distinct c.close.new.table c.in_ok-closed.closed c.in-Some-after_byte-2.after.now (c.in-Some-after_byte-2.ensures.some ∙ ap (λ b. b ∷ c.in-Some-after_byte-2.after.now) c.closing.ensures) c.in_ok-closed.ensures.grown c.in_ok-closed.ensures.made c.in_ok-closed.ensures.normal
