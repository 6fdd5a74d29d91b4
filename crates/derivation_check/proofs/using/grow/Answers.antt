use Rattle.std.proofs.Common.{◌∙◌, ◌||◌, ◌&&◌, ap, refl, reverse, subst, sym}
use Rattle.calculus.specs.Calculus.{is_eigen}
use Rattle.calculus.specs.Derivations.{Names, new_mark}
use Rattle.derivation_branch.specs.Occurring.{holds, in_argument}
use Rattle.derivation_branch.specs.OutlineView.{IsNodeOf}
use Rattle.derivation_branch.proofs.SameLaws.{same-longer}
use Rattle.label_table.proofs.TableLaws.{longer-more}
use Rattle.formula_core.specs.FormulaView.{the_formula}
use Rattle.derivation_check.proofs.HomesLaws.{argument-same}
use Rattle.derivation_check.proofs.Keeping.{branch-there}
use Rattle.derivation_check.proofs.NodeLaws.{node-stands, nodes-added}
use Rattle.derivation_check.specs.NamesTold.{IsNamed}
use Rattle.derivation_check.specs.OpenSequents.{after_added, sequents_of, waiting_in}
use Rattle.derivation_check.specs.StateView.{IsKept}
use Rattle.derivation_check.proofs.StateLaws.{Growth, grown-kept, grown-shown, kept-open, stands-within}
use Rattle.derivation_check.specs.ArgumentView.{the_argument, the_label_argument}
use Rattle.derivation_check.proofs.using.grow.Goals as goal

pub put_argument-requires-clause-within : goal.put_argument-requires-clause-within
put_argument-requires-clause-within c =
    let s = c.args.state.now in
    let xs = s.sequents.branch.items in
    let parts = kept-open c.requires.kept.0 s.substitutions s.labels s.eigens s.marks s.sequents.is_open xs (reverse s.sequents.forks.items) c.requires.is_open c.requires.kept.1.sequents in
    (stands-within s.substitutions s.labels xs c.args.used parts.0 c.requires.stands).0

pub add_modal-requires-clause-label : goal.add_modal-requires-clause-label
add_modal-requires-clause-label c = (_, c.requires.label.0, c.requires.label.1)

pub add_modal-requires-clause-told : goal.add_modal-requires-clause-told
add_modal-requires-clause-told c = c.requires.kept.1.told

pub add_brought_eigens-requires : goal.add_brought_eigens-requires
add_brought_eigens-requires c = let s = c.args.state.now in (s.homes, subst (λ xs. IsNamed s.homes xs c.args.term) (sym c.as_slice.ensures.value) c.requires.named)

pub add_brought_homes-requires : goal.add_brought_homes-requires
add_brought_homes-requires c =
    let s = c.args.state.now in
    let names = c.requires.kept.0 in
    let h = c.requires.kept.1 in
    let xs = s.sequents.branch.items in
    let parts = kept-open names s.substitutions s.labels s.eigens s.marks s.sequents.is_open xs (reverse s.sequents.forks.items) c.requires.is_open h.sequents in
    let marks = c.add_modal.new.marks in
    record {
      homes = (names, h.homes);
      named = subst (λ xs. IsNamed s.homes xs c.args.term) (sym c.as_slice-named.ensures.value) c.requires.named;
      there = record {
        within = c.requires.label.1.0;
        label = branch-there names s.substitutions s.labels s.eigens s.marks marks xs c.args.used c.args.at (the_label_argument s.labels c.args.modal) c.requires.stands c.requires.label parts.1 c.in_ok-add_modal.ensures.held;
        homes = c.in_ok-add_modal.ensures.told;
      };
    }

pub returns : goal.returns
returns c =
    let s = c.args.state.now in
    let x = the_label_argument s.labels c.args.modal in
    let t = the_argument c.args.term in
    let xs = s.sequents.branch.items in
    let forks = reverse s.sequents.forks.items in
    let more = c.put_argument.new.substitutions in
    let eigens = c.add_brought_eigens.new.eigens in
    let labelled = c.add_modal.new.marks in
    let marks = c.add_brought_homes.new.marks in
    let now = sequents_of c.advance.new.self in
    let added = c.added_by-added.result in
    let node : (names : Names) (h : IsKept names s) → IsNodeOf h.parts c.args.used.shared = λ names h. node-stands h.parts s.sequents.is_open xs forks c.args.used c.requires.is_open h.nodes c.requires.stands in
    let kept = c.requires.kept.1 in
    let binds = c.binds-binds.ensures kept.parts (the_formula c.args.used.shared.formula.now) kept.outline (node c.requires.kept.0 kept) in
    let after = c.in_ok-advance.ensures.advanced ∙ (λ i. after_added (c.in_ok-eigens.ensures i) (c.in_ok-marks.ensures i) added xs (waiting_in s.sequents)) in
    let growth : (names : Names) → IsKept names s → Growth names s.substitutions more s.labels s.eigens eigens s.marks marks s.sequents.is_open xs forks c.args.used c.in_ok-inner.inner c.args.at x t added now = λ names h. record {
      is_open = c.requires.is_open;
      sequents = h.sequents;
      stands = c.requires.stands;
      label = c.requires.label;
      fits = c.requires.fits;
      substitutions = c.in_ok-inner.ensures.grown;
      within = c.in_ok-inner.ensures.within;
      argument = c.in_ok-inner.ensures.put;
      eigens = c.in_ok-add_brought_eigens.ensures.kept;
      marks = longer-more s.marks labelled marks c.in_ok-add_modal.ensures.kept c.in_ok-add_brought_homes.ensures.kept;
      brought = record {
        eigens = λ n. c.in_ok-add_brought_eigens.ensures.held n ∙ ap (λ b. holds s.eigens n || (b && in_argument (is_eigen n) t)) binds;
        marks = λ n. c.in_ok-add_brought_homes.ensures.held n ∙ (λ i. c.in_ok-add_modal.ensures.held n i || (binds i && argument-same names s.labels s.homes (new_mark n) h.homes t i));
      };
      places = c.added_by-added.ensures.at;
      added = c.added_by-added.ensures.added;
      after = after;
    } in
    record {
      kept = λ names h. record {
        nested = c.in_ok-advance.ensures.nested;
        sequents = grown-kept names s.substitutions more s.labels s.eigens eigens s.marks marks s.sequents.is_open xs forks c.args.used c.in_ok-inner.inner c.args.at x t added now (growth names h);
        homes = h.homes;
        told = c.in_ok-add_brought_homes.ensures.there.homes;
        parts = h.parts;
        outline = h.outline;
        nodes = nodes-added h.parts s.sequents.is_open xs forks _ _ added now c.requires.is_open h.nodes (c.added_by-added.ensures.nodes h.parts h.outline (node names h)) after;
        same = same-longer s.substitutions more h.parts s.same c.in_ok-inner.ensures.grown h.same;
      };
      grown = grown-shown c.requires.kept.0 s.substitutions more s.labels s.eigens eigens s.marks marks s.sequents.is_open xs forks c.args.used c.in_ok-inner.inner c.args.at x t added now (growth c.requires.kept.0 c.requires.kept.1);
      labels = refl;
      named = record { homes = refl; named = refl; substitutions = c.in_ok-inner.ensures.grown };
    }
