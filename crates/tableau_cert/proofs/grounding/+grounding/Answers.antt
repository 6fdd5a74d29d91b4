use Rattle.std.proofs.Common.{◌∙◌, ap, arith, map, subst, sym}
use Rattle.std.specs.List.{AllByRecursion}
use Rattle.std.proofs.lemmas.List.{take_all}
use Rattle.std.proofs.lemmas.Simd.{map-map}
use Rattle.calculus.specs.Ground.{g_fun}
use Rattle.calculus.specs.Instances.{ground_of}
use Rattle.calculus.specs.Lists.{g_terms_tree}
use Rattle.formula_core.specs.GroundLists.{IsNormalTerm, the_g_term}
use Rattle.formula_core.specs.TermFalls.{size-item}
use Rattle.formula_core.specs.TermView.{the_term}
use Rattle.formula_core.proofs.GrownLaws.{grown-both}
use Rattle.tableau_core.proofs.Environments.{grounds-map}
use Rattle.tableau_cert.proofs.SteppingLaws.{bindings-grown, bindings-normal-grown, grown-none, term-pushed, terms-pushed-normal}
use Rattle.tableau_cert.specs.WayView.{bound_terms}
use Rattle.tableau_cert.proofs.grounding.+grounding.Goals as goal

pub ground_term-returns-in-Var : goal.ground_term-returns-in-Var
ground_term-returns-in-Var t c = let ls = c.args.table.now in record {
  same = c.bound.ensures.term ls ∙ sym (ap (λ x. ground_of (bound_terms ls c.args.bindings.now) (the_term x)) c.in-Var.is);
  normal = c.bound.ensures.normal ls c.requires.bindings;
  grown = grown-none ls c.requires.most;
}

pub ground_term-returns-in_ok-args-in-Fun : goal.ground_term-returns-in_ok-args-in-Fun
ground_term-returns-in_ok-args-in-Fun t c = let env = bound_terms c.args.table.now c.args.bindings.now in let made = c.in_ok-args-in-Fun.ensures in record {
  same = ap (g_fun c.in-Fun.f.0) made.same ∙ sym (ap (λ x. ground_of env (the_term x)) c.in-Fun.is);
  normal = made.normal;
  grown = made.grown;
}

pub ground_terms-loop-i-init : goal.ground_terms-loop-i-init
ground_terms-loop-i-init t c = let ls = c.args.table.now in record {
  same = ap (map (the_g_term ls)) c.new-all.ensures.items;
  normal = subst (AllByRecursion (IsNormalTerm ls)) (sym c.new-all.ensures.items) tt;
  grown = grown-none ls c.requires.most;
}

pub ground_terms-ground_term-requires : goal.ground_terms-ground_term-requires
ground_terms-ground_term-requires t c = (grind (arith, size-item), (bindings-normal-grown c.args.table.now c.loop-i.table c.loop-i.invariant.grown c.args.bindings.now c.requires.bindings, c.loop-i.invariant.grown.most))

pub ground_terms-loop-i-preserved : goal.ground_terms-loop-i-preserved
ground_terms-loop-i-preserved t c = let ls = c.args.table.now in let made = c.in_ok-made.ensures in let inv = c.loop-i.invariant in record {
  same = term-pushed (λ x. ground_of (bound_terms ls c.args.bindings.now) (the_term x)) c.loop-i.table c.ground_term.new.table c.items-items.result.now c.loop-i.i c.index-items-i.result c.index-items-i.result c.in_ok-made.made c.loop-i.all.items c.push.new.self.items made.grown inv.normal inv.same c.in_ok-push.ensures.items (made.same ∙ ap (λ us. ground_of us (the_term c.index-items-i.result)) (bindings-grown ls c.loop-i.table inv.grown c.args.bindings.now c.requires.bindings)) (omega arith) c.index-items-i.is;
  normal = terms-pushed-normal c.loop-i.table c.ground_term.new.table c.in_ok-made.made c.loop-i.all.items c.push.new.self.items made.grown inv.normal c.in_ok-push.ensures.items made.normal;
  grown = grown-both _ _ _ inv.grown made.grown;
}

pub ground_terms-returns : goal.ground_terms-returns
ground_terms-returns t c = let ls = c.args.table.now in let env = bound_terms ls c.args.bindings.now in let inv = c.loop-i.invariant in let items = c.items-items.result.now in record {
  same = ap g_terms_tree (c.in_ok-list.ensures.list ∙ ap (map (the_g_term c.loop-i.table)) c.deref.ensures.value ∙ inv.same ∙ ap (map (λ x. ground_of env (the_term x))) (take_all c.loop-i.i items (omega arith)) ∙ sym (map-map (ground_of env) the_term items) ∙ ap (map (ground_of env)) c.items-items.ensures) ∙ sym (grounds-map env c.args.terms.now);
  normal = c.in_ok-list.ensures.normal;
  grown = grown-both _ _ _ inv.grown c.in_ok-list.ensures.grown;
}
