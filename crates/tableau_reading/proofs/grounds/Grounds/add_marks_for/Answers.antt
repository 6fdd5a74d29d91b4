use Rattle.std.proofs.Common.{map}
use Rattle.term_store.specs.RefView.{the_place}
use Rattle.tableau_reading.proofs.MakingLaws.{made-mark, made-marks, made-no_marks}
use Rattle.tableau_reading.proofs.grounds.Grounds.add_marks_for.Goals as goal

pub returns-in_ok-push-in-Mark : goal.returns-in_ok-push-in-Mark
returns-in_ok-push-in-Mark c = λ σ sv am k at. made-mark c.args.store.now.store c.args.self.now.table c.args.self.now.made.items (map the_place c.args.refs.now) c.args.i c.push.new.self.items c.args.marks.now.items c.in-Mark.mark c.made_for.result c.in_ok-push-in-Mark.ensures.items c.in-Mark.is c.made_for.ensures σ sv am k at

pub returns-in_ok-extend_from_slice-in-Marks : goal.returns-in_ok-extend_from_slice-in-Marks
returns-in_ok-extend_from_slice-in-Marks c = λ σ sv am k at. made-marks c.args.store.now.store c.args.self.now.table c.args.self.now.made.items (map the_place c.args.refs.now) c.args.i c.extend_from_slice.new.self.items c.args.marks.now.items c.marks.result.now c.in-Marks.label c.made_for.result c.in_ok-extend_from_slice-in-Marks.ensures.items c.marks.ensures.list c.in-Marks.is c.made_for.ensures σ sv am k at

pub returns-in-Term : goal.returns-in-Term
returns-in-Term c = λ σ sv am k at. made-no_marks c.args.store.now.store c.args.self.now.table c.args.self.now.made.items (map the_place c.args.refs.now) c.args.i c.args.marks.now.items _ c.made_for.result c.in-Term.is c.made_for.ensures σ sv am k at
