use Rattle.std.proofs.Common.{[], arith, rules, ◌≡◌}
use Rattle.formula_text.proofs.Extending.{Extends-refl, Extends-trans}
use Rattle.formula_text.proofs.RowsWritten.{behind-close, behind-next, between-open, between-whole, written-all}
use Rattle.formula_text.proofs.row_writer.append_between.Goals as goal

pub returns-then-arity-gt0-clause-ok : goal.returns-then-arity-gt0-clause-ok
returns-then-arity-gt0-clause-ok c = λ symbols whole rest h.
    between-open symbols whole c.args.out.now.items c.append_byte.new.out.items c.args.left.now.items c.push.new.self.items c.args.arity _ rest h c.if-arity-gt0.true (omega arith) c.in_ok-push.ensures.items c.in_ok-append_byte.ensures.ok

pub loop-count-init : goal.loop-count-init
loop-count-init c = record {
  behind = λ symbols whole rest h. between-whole symbols whole c.args.out.now.items c.args.left.now.items c.args.arity rest h c.if-arity-gt0.false;
  extends = Extends-refl c.args.out.now.items;
}

pub returns-then-count-gt0-clause-ok : goal.returns-then-count-gt0-clause-ok
returns-then-count-gt0-clause-ok c = λ symbols whole rest h.
    behind-next symbols whole c.loop-count.out.items c.append_byte-then-count-gt0.new.out.items c.loop-count.left.items c.pop.new.self.items c.push_reserved.new.self.items c.in-Some.count _ rest
    (c.loop-count.invariant.behind symbols whole rest h) c.in-Some.ensures.items c.if-count-gt0.true (omega arith) c.push_reserved.ensures.items c.in_ok-append_byte-2.ensures.ok

pub loop-count-preserved : goal.loop-count-preserved
loop-count-preserved c = record {
  behind = λ symbols whole rest h.
      behind-close symbols whole c.loop-count.out.items c.append_byte-in-Some.new.out.items c.loop-count.left.items c.pop.new.self.items c.in-Some.count rest
      (c.loop-count.invariant.behind symbols whole rest h) c.in-Some.ensures.items c.if-count-gt0.false c.in_ok-append_byte-3.ensures.ok;
  extends = Extends-trans c.args.out.now.items c.loop-count.out.items c.append_byte-in-Some.new.out.items c.loop-count.invariant.extends c.in_ok-append_byte-3.ensures.extends;
}

pub returns-clause-ok : goal.returns-clause-ok
returns-clause-ok c = λ symbols whole rest h.
    let before : c.loop-count.left.items ≡ [] = search rules in
    let after : c.pop.new.self.items ≡ [] = search rules in
    written-all symbols whole c.loop-count.out.items c.loop-count.left.items c.pop.new.self.items rest (c.loop-count.invariant.behind symbols whole rest h) before after
