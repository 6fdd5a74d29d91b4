use Rattle.store_theory.specs.Stores.{goes_on, stays}
use Rattle.store_theory.proofs.BindingLaws.{bound-inside}
use Rattle.store_theory.proofs.WeightLaws.{weight-bound}
use Rattle.term_store.proofs.store.Store.end.Goals as goal

pub loop-to-init : goal.loop-to-init
loop-to-init c = record { within = c.requires; leads = λ v e. e; shows = c.content-content.ensures.shows; well = c.content-content.ensures.well }

pub content-content-requires-in-Some : goal.content-content-requires-in-Some
content-content-requires-in-Some c =
    let at = c.loop-to.invariant in
    let t = c.in-Some.ensures c.args.self.now.store c.loop-to.place.0 at.shows in
    bound-inside c.args.self.now.store c.loop-to.place.0 c.in-Some.to.0 t.0 at.well t.1

pub loop-to-smaller : goal.loop-to-smaller
loop-to-smaller c =
    let at = c.loop-to.invariant in
    let t = c.in-Some.ensures c.args.self.now.store c.loop-to.place.0 at.shows in
    weight-bound c.args.self.now.store at.well c.loop-to.place.0 c.in-Some.to.0 t.0 t.1

pub loop-to-preserved : goal.loop-to-preserved
loop-to-preserved c =
    let at = c.loop-to.invariant in
    let t = c.in-Some.ensures c.args.self.now.store c.loop-to.place.0 at.shows in
    record {
      within = bound-inside c.args.self.now.store c.loop-to.place.0 c.in-Some.to.0 t.0 at.well t.1;
      leads = λ v e. at.leads v (goes_on t.1 e);
      shows = c.content-content-in-Some.ensures.shows;
      well = at.well;
    }

pub returns-clause-ends : goal.returns-clause-ends
returns-clause-ends c =
    let at = c.loop-to.invariant in
    let e = c.in_default.ensures c.args.self.now.store c.loop-to.place.0 at.shows in
    at.leads c.loop-to.place.0 (stays e.1 e.2)
