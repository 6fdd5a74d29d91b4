use Rattle.std.proofs.Common.{List, map, ap, subst, sym, ◌∙◌}
use Rattle.std.specs.List.{AllZip}
use Rattle.calculus.specs.Instances.{Turn}
use Rattle.calculus.specs.Syntax.{Problem}
use Rattle.calculus.specs.Tableaux.{instances}
use Rattle.conversion_theory.specs.Turns.{IsAgenda}
use Rattle.conversion_theory.proofs.NumberLaws.{numbers-tell}
use Rattle.name_order.specs.ByNumber.Collected.{the_lists}
use Rattle.name_order.specs.ByNumber.Order.{AreOrdered}
use Rattle.name_order.specs.ByNumber.ReachedView.{the_all, the_keys}
use Rattle.name_order.specs.ByNumber.Waiting.{WaitFor}
use Rattle.name_order.specs.Mentioned.{gathered}
use Rattle.name_order.specs.PlaceView.{the_places}
use Rattle.name_order.specs.Prerequisites.{IsOrder, ParentsTell, WaitsTell}
use Rattle.name_order.specs.Walks.{turns_by}
use Rattle.name_order.proofs.ByNumber.Promises.{the-agenda, the-known, the-numbering, the-order, the-parents, the-waits}
use Rattle.tableau_core.specs.Numbered.TableauView.{the_tableau}
use Rattle.name_order.proofs.named.name.Goals as goal

pub by_turns-requires : goal.by_turns-requires
by_turns-requires c =
    let turns = c.in_ok-turns.ensures in
    let ls = c.args.t.now.table in
    record { normal = turns.normal; few = turns.few; known = the-known ls (the_lists ls c.in_ok-turns.turns.lists.items) c.in_ok-turns.turns.agenda.keys turns.agenda }

pub returns-clause-numbering : goal.returns-clause-numbering
returns-clause-numbering c =
    let P = c.args.problem.now in
    let T = the_tableau c.args.t.now in
    let ls = c.args.t.now.table in
    let turns = c.in_ok-turns.ensures in
    let lists = turns.lists ∙ ap (λ (Q : Problem). map (turns_by Q) (instances T)) c.in_ok-sized.ensures in
    let all = the_all ls c.in_ok-turns.turns.agenda.keys in
    let agenda = the-agenda P c.requires.closed.0 T c.requires.closed.1 (the_lists ls c.in_ok-turns.turns.lists.items) all lists turns.agenda in
    let places = ap the_places c.deref.ensures.value ∙ c.in_ok-places.ensures in
    let named = ap (λ (Q : Problem). gathered Q (the_places c.deref.result.now) all) c.in_ok-sized.ensures ∙ ap (λ ps. gathered P ps all) places in
    let ordered = subst (λ ns. AreOrdered ns c.in_ok-named.named.names) named c.in_ok-named.ensures.names in
    let numbering = the-numbering P T all c.in_ok-named.named.names agenda ordered in
    numbering

pub returns-clause-tells : goal.returns-clause-tells
returns-clause-tells c =
    let P = c.args.problem.now in
    let T = the_tableau c.args.t.now in
    let ls = c.args.t.now.table in
    let turns = c.in_ok-turns.ensures in
    let lists = turns.lists ∙ ap (λ (Q : Problem). map (turns_by Q) (instances T)) c.in_ok-sized.ensures in
    let all = the_all ls c.in_ok-turns.turns.agenda.keys in
    let agenda = the-agenda P c.requires.closed.0 T c.requires.closed.1 (the_lists ls c.in_ok-turns.turns.lists.items) all lists turns.agenda in
    let places = ap the_places c.deref.ensures.value ∙ c.in_ok-places.ensures in
    let named = ap (λ (Q : Problem). gathered Q (the_places c.deref.result.now) all) c.in_ok-sized.ensures ∙ ap (λ ps. gathered P ps all) places in
    let ordered = subst (λ ns. AreOrdered ns c.in_ok-named.named.names) named c.in_ok-named.ensures.names in
    let numbering = the-numbering P T all c.in_ok-named.named.names agenda ordered in
    numbers-tell P T c.in_ok-named.named.names numbering

pub returns-clause-agenda : goal.returns-clause-agenda
returns-clause-agenda c =
    let P = c.args.problem.now in
    let T = the_tableau c.args.t.now in
    let ls = c.args.t.now.table in
    let turns = c.in_ok-turns.ensures in
    let lists = turns.lists ∙ ap (λ (Q : Problem). map (turns_by Q) (instances T)) c.in_ok-sized.ensures in
    let all = the_all ls c.in_ok-turns.turns.agenda.keys in
    let agenda = the-agenda P c.requires.closed.0 T c.requires.closed.1 (the_lists ls c.in_ok-turns.turns.lists.items) all lists turns.agenda in
    subst (λ (ts : List Turn). IsAgenda P T ts) (sym c.in_ok-named.ensures.agenda) agenda

pub returns-clause-order : goal.returns-clause-order
returns-clause-order c =
    let P = c.args.problem.now in
    let T = the_tableau c.args.t.now in
    let ls = c.args.t.now.table in
    let turns = c.in_ok-turns.ensures in
    let lists = turns.lists ∙ ap (λ (Q : Problem). map (turns_by Q) (instances T)) c.in_ok-sized.ensures in
    let all = the_all ls c.in_ok-turns.turns.agenda.keys in
    let agenda = the-agenda P c.requires.closed.0 T c.requires.closed.1 (the_lists ls c.in_ok-turns.turns.lists.items) all lists turns.agenda in
    let order = the-order P c.requires.closed.0 T c.requires.closed.1 (the_lists ls c.in_ok-turns.turns.lists.items) all c.in_ok-named.named.order lists c.in_ok-named.ensures.order in
    subst (λ (ts : List Turn). IsOrder P T ts c.in_ok-named.named.order) (sym c.in_ok-named.ensures.agenda) order

pub returns-clause-parents : goal.returns-clause-parents
returns-clause-parents c =
    let P = c.args.problem.now in
    let T = the_tableau c.args.t.now in
    let ls = c.args.t.now.table in
    let turns = c.in_ok-turns.ensures in
    let lists = turns.lists ∙ ap (λ (Q : Problem). map (turns_by Q) (instances T)) c.in_ok-sized.ensures in
    let all = the_all ls c.in_ok-turns.turns.agenda.keys in
    let agenda = the-agenda P c.requires.closed.0 T c.requires.closed.1 (the_lists ls c.in_ok-turns.turns.lists.items) all lists turns.agenda in
    let places = ap the_places c.deref.ensures.value ∙ c.in_ok-places.ensures in
    let parents = the-parents P T all (the_places c.deref.result.now) c.in_ok-named.named.parents agenda places c.in_ok-named.ensures.parents in
    subst (λ (ts : List Turn). ParentsTell P ts c.in_ok-named.named.parents) (sym c.in_ok-named.ensures.agenda) parents

pub returns-clause-waits : goal.returns-clause-waits
returns-clause-waits c =
    let P = c.args.problem.now in
    let T = the_tableau c.args.t.now in
    let ls = c.args.t.now.table in
    let turns = c.in_ok-turns.ensures in
    let lists = turns.lists ∙ ap (λ (Q : Problem). map (turns_by Q) (instances T)) c.in_ok-sized.ensures in
    let all = the_all ls c.in_ok-turns.turns.agenda.keys in
    let agenda = the-agenda P c.requires.closed.0 T c.requires.closed.1 (the_lists ls c.in_ok-turns.turns.lists.items) all lists turns.agenda in
    let places = ap the_places c.deref.ensures.value ∙ c.in_ok-places.ensures in
    let own = subst (λ (Q : Problem). AllZip (WaitFor Q (the_places c.deref.result.now) (the_keys ls c.in_ok-turns.turns.agenda.keys)) all c.in_ok-named.named.waits) c.in_ok-sized.ensures c.in_ok-named.ensures.waits in
    let waits = the-waits P T all (the_places c.deref.result.now) c.in_ok-named.named.parents c.in_ok-named.named.waits agenda places c.in_ok-named.ensures.parents own in
    subst (λ (ts : List Turn). WaitsTell P ts c.in_ok-named.named.parents c.in_ok-named.named.waits) (sym c.in_ok-named.ensures.agenda) waits
