use Rattle.std.proofs.Common.{true, ◌≡◌, ◌++◌, ◌∷◌, [], length, ap, arith, subst, sym, ◌∙◌}
use Rattle.std.specs.Option.{option_map}
use Rattle.plain_laws.proofs.Lists.{no-items}
use Rattle.calculus.specs.declared.sign.Sign.TheVariants.{F}
use Rattle.calculus.specs.ComputedInstances.{part_of}
use Rattle.calculus.specs.Instances.{root_spot}
use Rattle.formula_core.proofs.GrownLaws.{grown-both}
use Rattle.tableau_cert.specs.Gathering.{AreNormalLiterals, IsTaken, gathered, gathered_instance, summary, the_supply}
use Rattle.tableau_cert.specs.WayView.{the_way}
use Rattle.tableau_cert.proofs.SteppingLaws.{grown-none}
use Rattle.tableau_cert.proofs.WalkingLaws.{begins, begins-normal, begins-waiting, ends-used, literals-kept, popped-fits, popped-waiting, popped-way, size-falls, state_of, tasks-kept, walk-goes_on, walk-stopped}
use Rattle.tableau_cert.proofs.gathering.gather.Goals as goal

pub loop-task-init : goal.loop-task-init
loop-task-init c = let P = c.args.problem.now in let ls = c.args.table.now in let given = c.args.given.now in let most = c.requires.grown.most in
    let first = c.root-first.result in let w = the_way c.new-way.result in
    let z = c.new-way.ensures in let q = c.root-first.ensures.point in
    let e = c.in_ok-push.ensures.items ∙ ap (λ xs. xs ++ first ∷ []) c.new-tasks.ensures.items in record {
      same =
          begins ls first c.push.new.self.items w e z q P c.logic_of-logic.result (state_of given ls c.new-literals.result true 0 c.args.supply) (c.root-first.ensures.root ls) c.logic_of-logic.ensures
          ∙ ap (λ xs. gathered P (part_of P.setting.logic P.formula F) root_spot (state_of given ls xs true 0 c.args.supply)) c.new-literals.ensures;
      way = begins-normal ls first c.push.new.self.items w e z q;
      tasks = begins-waiting ls first c.push.new.self.items w e z q c.root-first.ensures.fits;
      literals = subst (AreNormalLiterals ls) (sym c.new-literals.ensures) tt;
      values = c.requires.values;
      grown = grown-none ls most;
    }

pub step_of-requires-clause-fits : goal.step_of-requires-clause-fits
step_of-requires-clause-fits c = let x = c.loop-task in popped-fits x.table (the_way x.way) (the_way c.cut.new.self) x.tasks.items c.pop.new.self.items c.in-Some.task c.in-Some.ensures.items c.cut.ensures x.invariant.tasks

pub step_of-requires-clause-way : goal.step_of-requires-clause-way
step_of-requires-clause-way c = let x = c.loop-task in popped-way x.table (the_way x.way) (the_way c.cut.new.self) x.tasks.items c.pop.new.self.items c.in-Some.task c.in-Some.ensures.items c.cut.ensures x.invariant.tasks x.invariant.way

pub step_of-requires-clause-grown : goal.step_of-requires-clause-grown
step_of-requires-clause-grown c = grown-both _ _ _ c.requires.grown c.loop-task.invariant.grown

pub returns-in-None : goal.returns-in-None
returns-in-None c = let P = c.args.problem.now in let l = c.logic_of-logic.result in let given = c.args.given.now in let x = c.loop-task in
    let t = c.in-Some.task in let v = the_way c.cut.new.self in let w = the_way c.step_of.new.way in
    let k = subst (IsTaken P l given x.table c.step_of.new.table v w t.placed x.rest) c.in-None.is c.in_ok-step_of.ensures in record {
      same = sym (ap (option_map summary) (walk-stopped P l given x.table c.step_of.new.table t x.tasks.items c.pop.new.self.items x.literals x.allowed x.steps x.rest c.in-Some.ensures.items (the_way x.way) v w c.cut.ensures (gathered_instance P (the_supply given c.args.supply)) x.invariant.same k));
      normal = tt;
      grown = grown-both _ _ _ x.invariant.grown k.grown;
    }

pub loop-task-preserved : goal.loop-task-preserved
loop-task-preserved c = let P = c.args.problem.now in let l = c.logic_of-logic.result in let given = c.args.given.now in let x = c.loop-task in
    let s = c.in-Some-2.step in
    let t = c.in-Some.task in let long = the_way x.way in let v = the_way c.cut.new.self in let w = the_way c.step_of.new.way in
    let rest = c.pop.new.self.items in let e = c.in-Some.ensures.items in
    let k = subst (IsTaken P l given x.table c.step_of.new.table v w t.placed x.rest) c.in-Some-2.is c.in_ok-step_of.ensures in
    let n = popped-way x.table long v x.tasks.items rest t e c.cut.ensures x.invariant.tasks x.invariant.way in
    let ts = popped-waiting x.table long v x.tasks.items rest t e c.cut.ensures x.invariant.tasks in record {
      same = walk-goes_on P l given x.table c.step_of.new.table t x.tasks.items rest x.literals x.allowed x.steps x.rest e long v w c.cut.ensures s c.in-Some-2.more _ c.end.result c.put.new.tasks.items c.put.new.literals (gathered_instance P (the_supply given c.args.supply)) x.invariant.same c.end.ensures c.in_ok-put-in-Some-2.ensures.tasks c.in_ok-put-in-Some-2.ensures.literals c.saturating_add-steps.ensures n ts x.invariant.literals k;
      way = k.step.way;
      tasks = tasks-kept x.table c.step_of.new.table v w c.end.result s.opened rest c.put.new.tasks.items k.grown k.step.longer n k.step.way c.end.ensures c.in_ok-put-in-Some-2.ensures.tasks k.step.parts ts;
      literals = literals-kept x.table c.step_of.new.table s.opened x.literals c.put.new.literals k.grown c.in_ok-put-in-Some-2.ensures.literals k.step.parts x.invariant.literals;
      values = k.step.values;
      grown = grown-both _ _ _ x.invariant.grown k.grown;
    }

pub loop-task-smaller : goal.loop-task-smaller
loop-task-smaller c = let P = c.args.problem.now in let l = c.logic_of-logic.result in let given = c.args.given.now in let x = c.loop-task in
    let k = subst (IsTaken P l given x.table c.step_of.new.table (the_way c.cut.new.self) (the_way c.step_of.new.way) c.in-Some.task.placed x.rest) c.in-Some-2.is c.in_ok-step_of.ensures in
    size-falls c.end.result c.in-Some-2.step.opened x.tasks.items c.pop.new.self.items c.put.new.tasks.items c.in-Some.task c.in-Some.ensures.items c.in_ok-put-in-Some-2.ensures.tasks k.step.smaller

pub returns : goal.returns
returns c = let P = c.args.problem.now in let given = c.args.given.now in let x = c.loop-task in
    let ok = x.tasks.ok.0 in
    let zero = c.in_default.ensures.cases.0 in
    let none : length x.tasks.items ≡ 0 = omega (arith, ok, zero) in
    record {
      same = ends-used P c.logic_of-logic.result given x.table (the_way x.way) x.tasks.items x.literals x.allowed c.is_used_up.result x.steps x.rest (gathered_instance P (the_supply given c.args.supply)) (c.is_used_up.ensures given) x.invariant.same (no-items x.tasks.items none);
      normal = x.invariant.literals;
      grown = x.invariant.grown;
    }
