use Rattle.std.proofs.Common.{ap, map, refl, reverse, subst}
use Rattle.label_table.proofs.TableLaws.{longer-self}
use Rattle.derivation_check.specs.OpenSequents.{IsLastOf, waiting_in}
use Rattle.derivation_check.specs.StateView.{the_sequent}
use Rattle.derivation_check.proofs.NodeLaws.{nodes-closed}
use Rattle.derivation_check.proofs.StateLaws.{closed-kept, ended-kept}
use Rattle.derivation_check.proofs.ToldLaws.{told-cut}
use Rattle.derivation_check.proofs.state.State.close.Goals as goal

pub returns-in-Some-clause-kept : goal.returns-in-Some-clause-kept
returns-in-Some-clause-kept c = λ names h.
    let s = c.args.self.now in
    record {
      nested = c.in_ok-next.ensures.nested;
      sequents = closed-kept names s.substitutions s.labels s.eigens s.marks c.cut.new.self c.cut-in-Some.new.self s.sequents.is_open s.sequents.branch.items (reverse s.sequents.forks.items) _ c.in-Some.last c.requires.is_open h.sequents c.in_ok-next.ensures.closed
          (subst (IsLastOf (waiting_in s.sequents)) c.in-Some.is c.in_ok-next.ensures.last) c.cut.ensures c.cut-in-Some.ensures;
      homes = h.homes;
      told = told-cut s.labels s.marks c.cut-in-Some.new.self c.in-Some.last.marks s.told c.cut-in-Some-2.new.self h.told c.cut-in-Some-2.ensures.begins c.cut-in-Some-2.ensures.counted c.cut-in-Some.ensures;
      parts = h.parts;
      outline = h.outline;
      nodes = nodes-closed h.parts s.sequents.is_open s.sequents.branch.items (reverse s.sequents.forks.items) _ c.requires.is_open h.nodes c.in_ok-next.ensures.closed;
      same = h.same;
    }

pub returns-in-Some-clause-closed : goal.returns-in-Some-clause-closed
returns-in-Some-clause-closed c = ap (map (the_sequent c.args.self.now.substitutions c.args.self.now.labels)) c.in_ok-next.ensures.closed

pub returns-in-None-clause-kept : goal.returns-in-None-clause-kept
returns-in-None-clause-kept c = λ names h.
    let s = c.args.self.now in
    record {
      nested = c.in_ok-next.ensures.nested;
      sequents = ended-kept names s.substitutions s.labels s.eigens s.marks s.sequents.branch.items (reverse s.sequents.forks.items) _ c.in_ok-next.ensures.closed (subst (IsLastOf (waiting_in s.sequents)) c.in-None.is c.in_ok-next.ensures.last);
      homes = h.homes;
      told = h.told;
      parts = h.parts;
      outline = h.outline;
      nodes = nodes-closed h.parts s.sequents.is_open s.sequents.branch.items (reverse s.sequents.forks.items) _ c.requires.is_open h.nodes c.in_ok-next.ensures.closed;
      same = h.same;
    }

pub returns-in-None-clause-closed : goal.returns-in-None-clause-closed
returns-in-None-clause-closed c = ap (map (the_sequent c.args.self.now.substitutions c.args.self.now.labels)) c.in_ok-next.ensures.closed

pub returns-in-Some-clause-named : goal.returns-in-Some-clause-named
returns-in-Some-clause-named c = record { homes = refl; named = refl; substitutions = longer-self c.args.self.now.substitutions }

pub returns-in-None-clause-named : goal.returns-in-None-clause-named
returns-in-None-clause-named c = record { homes = refl; named = refl; substitutions = longer-self c.args.self.now.substitutions }
