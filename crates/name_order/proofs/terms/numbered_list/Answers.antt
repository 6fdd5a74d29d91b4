use Rattle.std.proofs.Common.{refl, sym, subst, arith, ap, ◌∙◌, map}
use Rattle.std.specs.List.{AllByRecursion}
use Rattle.std.proofs.lemmas.List.{take_all}
use Rattle.plain_laws.proofs.Every.{each-push}
use Rattle.conversion_theory.specs.Numbering.{number_of, numbered_term}
use Rattle.formula_core.specs.GroundLists.{the_g_term}
use Rattle.name_order.specs.ByNumber.Inside.{the_names}
use Rattle.term_table.specs.Table.{IsBelow}
use Rattle.name_order.proofs.ByNumber.TermLaws.{term-pushed}
use Rattle.name_order.proofs.terms.numbered_list.Goals as goal

pub loop-term-preserved : goal.loop-term-preserved
loop-term-preserved c =
    let num = number_of (the_names c.args.table.now c.args.names.now.keys) in
    let ts = c.terms-given.result.now in
    record {
      below = subst (AllByRecursion (IsBelow c.args.list.0)) (sym c.in_ok-push.ensures.items) (each-push (IsBelow c.args.list.0) c.loop-term.terms.items c.numbered.result c.loop-term.invariant.below c.numbered.ensures.below);
      terms = λ lists h. term-pushed num c.args.table.now lists c.loop-term.terms.items c.push.new.self.items c.numbered.result ts _ _ c.loop-term.term-index (omega arith) refl c.in_ok-push.ensures.items (c.numbered.ensures.term lists h) (c.loop-term.invariant.terms lists h);
    }

pub returns-clause-terms : goal.returns-clause-terms
returns-clause-terms c = λ lists h.
    let num = number_of (the_names c.args.table.now c.args.names.now.keys) in
    let ts = c.terms-given.result.now in
    c.loop-term.invariant.terms lists h
    ∙ ap (λ us. map (numbered_term num) (map (the_g_term c.args.table.now) us)) (take_all c.loop-term.term-index ts c.loop-term-test.false)
    ∙ ap (map (numbered_term num)) c.terms-given.ensures.list
