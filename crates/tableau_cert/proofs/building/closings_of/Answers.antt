use Rattle.std.proofs.Common.{◌≡◌, ap, arith, length, map}
use Rattle.plain_laws.proofs.Lists.{no-items}
use Rattle.tableau_cert.specs.Building.{built_on, the_stack}
use Rattle.tableau_cert.specs.Resolving.{the_closer}
use Rattle.tableau_cert.proofs.BuildingLaws.{built-done, built-popped}
use Rattle.tableau_cert.proofs.building.closings_of.Goals as goal

pub loop-closer-init : goal.loop-closer-init
loop-closer-init c ls = ap (λ xs. built_on (map (the_closer ls) c.args.closers.items) (the_stack ls xs)) c.new-stack.ensures.items

pub loop-closer-preserved : goal.loop-closer-preserved
loop-closer-preserved c ls = let x = c.loop-closer in
    built-popped (the_closer ls) x.rest.items c.pop.new.self.items c.in-Some.closer (the_stack ls x.stack.items) (the_stack ls c.put_closing.new.stack.items) _ (x.invariant ls) c.in-Some.ensures.items (c.in_ok-put_closing.ensures ls)

pub returns : goal.returns
returns c ls = let x = c.loop-closer in
    let ok = x.rest.ok.0 in
    let zero = c.in_default.ensures.cases.0 in
    let none : length x.rest.items ≡ 0 = omega (arith, ok, zero) in
    built-done (the_closer ls) x.rest.items (the_stack ls x.stack.items) _ (x.invariant ls) (no-items x.rest.items none)
