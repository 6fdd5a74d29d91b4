use Rattle.std.proofs.Common.{[], ◌∷◌, ◌∙◌, Some, ap, length, refl, slice_get, subst, sym}
use Rattle.store_theory.proofs.BindingLaws.{KeepsMarks-both, KeepsMarks-same}
use Rattle.calculus.specs.Choices.{start}
use Rattle.search_theory.specs.OrderedChoices.{selection_of}
use Rattle.term_store.specs.Room.{KeepsRoom, TermStore}
use Rattle.term_store.specs.StoreView.{the_mark}
use Rattle.connection_search.proofs.SearchedLaws.{SearchesList, SearchesTree, back-again, marks-of_same, on-map, room-both, searched-refused, visiting-first}
use Rattle.connection_search.proofs.SpentLaws.{counted}
use Rattle.connection_search.proofs.limit_search.LimitSearch.start_with.Goals as goal

pub returns-then-not-starts-clause-on : goal.returns-then-not-starts-clause-on
returns-then-not-starts-clause-on c = λ later begun sp h. searched-refused c.args.self.now.problem.now c.args.self.now.matrix.now c.args.self.now.limit c.args.clause.0 later begun c.args.ledger.now.used c.args.left.now sp.matrix c.requires.clause (c.is_start-starts.ensures ∙ ap Some c.if-not-starts.true) h

pub returns-then-not-starts-clause-end : goal.returns-then-not-starts-clause-end
returns-then-not-starts-clause-end c = λ later begun sp h. tt

pub returns-then-not-starts-clause-counted : goal.returns-then-not-starts-clause-counted
returns-then-not-starts-clause-counted c = λ later begun sp h. counted c.args.self.now.problem.now c.args.self.now.limit ((start (selection_of (slice_get c.args.self.now.matrix.now c.args.clause.0)) ∷ []) ∷ later) begun c.args.ledger.now.used c.args.left.now h

pub returns-then-not-starts-clause-store : goal.returns-then-not-starts-clause-store
returns-then-not-starts-clause-store c = refl

pub returns-then-not-starts-clause-steps : goal.returns-then-not-starts-clause-steps
returns-then-not-starts-clause-steps c = c.requires.steps

pub returns-then-not-starts-clause-goals : goal.returns-then-not-starts-clause-goals
returns-then-not-starts-clause-goals c = c.requires.goals

pub returns-then-not-starts-clause-marks : goal.returns-then-not-starts-clause-marks
returns-then-not-starts-clause-marks c = KeepsMarks-same c.args.store.now.store

pub start-requires-clause-matrix : goal.start-requires-clause-matrix
start-requires-clause-matrix c = (c.args.self.now.problem.now, c.requires.searched.2.matrix)

pub start-requires-clause-clause : goal.start-requires-clause-clause
start-requires-clause-clause c = c.requires.clause

pub start-requires-clause-steps : goal.start-requires-clause-steps
start-requires-clause-steps c = c.requires.steps

pub start-requires-clause-goals : goal.start-requires-clause-goals
start-requires-clause-goals c = c.requires.goals

pub returns-in_err-start-clause-counted : goal.returns-in_err-start-clause-counted
returns-in_err-start-clause-counted c = λ later begun sp h. counted c.args.self.now.problem.now c.args.self.now.limit ((start (selection_of (slice_get c.args.self.now.matrix.now c.args.clause.0)) ∷ []) ∷ later) begun c.args.ledger.now.used c.args.left.now h

pub returns-in_err-start-clause-marks : goal.returns-in_err-start-clause-marks
returns-in_err-start-clause-marks c = c.start.ensures.marks

pub returns-in_err-start-clause-room : goal.returns-in_err-start-clause-room
returns-in_err-start-clause-room c = c.start.ensures.room

pub search_from-requires-clause-visiting : goal.search_from-requires-clause-visiting
search_from-requires-clause-visiting c = ((length c.args.store.now.store.cells), c.requires.searched.0, c.requires.searched.1, c.requires.searched.2, (visiting-first c.args.self.now.problem.now c.args.self.now.matrix.now (length c.args.store.now.store.cells) c.args.self.now.limit (start (selection_of (slice_get c.args.self.now.matrix.now c.args.clause.0)) ∷ []) c.start.new.store.store c.start.new.self.tree.steps.items c.start.new.self.tree.goals.items c.start.new.self.tree.open c.requires.searched.0 c.requires.searched.1 c.args.ledger.now.used c.args.left.now refl (c.in_ok-start.ensures.started c.args.self.now.problem.now c.args.self.now.limit c.requires.searched.2.matrix (c.is_start-starts.ensures ∙ ap Some c.if-not-starts.false)) c.requires.searched.3))

pub returns-in_err-found-clause-counted : goal.returns-in_err-found-clause-counted
returns-in_err-found-clause-counted c = λ later begun sp h. c.search_from.ensures.counted (length c.args.store.now.store.cells) later begun sp (visiting-first c.args.self.now.problem.now c.args.self.now.matrix.now (length c.args.store.now.store.cells) c.args.self.now.limit (start (selection_of (slice_get c.args.self.now.matrix.now c.args.clause.0)) ∷ []) c.start.new.store.store c.start.new.self.tree.steps.items c.start.new.self.tree.goals.items c.start.new.self.tree.open later begun c.args.ledger.now.used c.args.left.now refl (c.in_ok-start.ensures.started c.args.self.now.problem.now c.args.self.now.limit sp.matrix (c.is_start-starts.ensures ∙ ap Some c.if-not-starts.false)) h)

pub returns-in_err-found-clause-budget : goal.returns-in_err-found-clause-budget
returns-in_err-found-clause-budget c = c.search_from.ensures.budget

pub returns-in_err-found-clause-marks : goal.returns-in_err-found-clause-marks
returns-in_err-found-clause-marks c = KeepsMarks-both c.args.store.now.store c.start.new.store.store c.search_from.new.store.store c.start.ensures.marks c.search_from.ensures.marks

pub returns-in_err-found-clause-room : goal.returns-in_err-found-clause-room
returns-in_err-found-clause-room c = room-both c.args.store.now c.start.new.store c.search_from.new.store c.start.ensures.room c.search_from.ensures.room

pub undo-requires : goal.undo-requires
undo-requires c = (KeepsMarks-both c.args.store.now.store c.start.new.store.store c.search_from.new.store.store c.start.ensures.marks c.search_from.ensures.marks (the_mark c.mark-mark.result) c.mark-mark.ensures.good).0

pub returns-clause-on : goal.returns-clause-on
returns-clause-on c = on-map c.in_ok-found.found (SearchesTree c.args.self.now.problem.now c.args.self.now.matrix.now c.args.self.now.limit c.start.new.store.store c.start.new.self.tree.steps.items c.start.new.self.tree.goals.items c.start.new.self.tree.open c.args.ledger.now.used c.args.left.now c.search_from.new.ledger.used c.search_from.new.left) (SearchesList c.args.self.now.problem.now c.args.self.now.matrix.now c.args.self.now.limit (start (selection_of (slice_get c.args.self.now.matrix.now c.args.clause.0)) ∷ []) c.args.ledger.now.used c.args.left.now c.search_from.new.ledger.used c.search_from.new.left) (λ f later begun sp h. f (length c.args.store.now.store.cells) later begun sp (visiting-first c.args.self.now.problem.now c.args.self.now.matrix.now (length c.args.store.now.store.cells) c.args.self.now.limit (start (selection_of (slice_get c.args.self.now.matrix.now c.args.clause.0)) ∷ []) c.start.new.store.store c.start.new.self.tree.steps.items c.start.new.self.tree.goals.items c.start.new.self.tree.open later begun c.args.ledger.now.used c.args.left.now refl (c.in_ok-start.ensures.started c.args.self.now.problem.now c.args.self.now.limit sp.matrix (c.is_start-starts.ensures ∙ ap Some c.if-not-starts.false)) h)) c.in_ok-found.ensures.on

pub returns-clause-end : goal.returns-clause-end
returns-clause-end c = λ later begun sp h. c.in_ok-found.ensures.end (length c.args.store.now.store.cells) later begun sp (visiting-first c.args.self.now.problem.now c.args.self.now.matrix.now (length c.args.store.now.store.cells) c.args.self.now.limit (start (selection_of (slice_get c.args.self.now.matrix.now c.args.clause.0)) ∷ []) c.start.new.store.store c.start.new.self.tree.steps.items c.start.new.self.tree.goals.items c.start.new.self.tree.open later begun c.args.ledger.now.used c.args.left.now refl (c.in_ok-start.ensures.started c.args.self.now.problem.now c.args.self.now.limit sp.matrix (c.is_start-starts.ensures ∙ ap Some c.if-not-starts.false)) h)

pub returns-clause-counted : goal.returns-clause-counted
returns-clause-counted c = λ later begun sp h. c.search_from.ensures.counted (length c.args.store.now.store.cells) later begun sp (visiting-first c.args.self.now.problem.now c.args.self.now.matrix.now (length c.args.store.now.store.cells) c.args.self.now.limit (start (selection_of (slice_get c.args.self.now.matrix.now c.args.clause.0)) ∷ []) c.start.new.store.store c.start.new.self.tree.steps.items c.start.new.self.tree.goals.items c.start.new.self.tree.open later begun c.args.ledger.now.used c.args.left.now refl (c.in_ok-start.ensures.started c.args.self.now.problem.now c.args.self.now.limit sp.matrix (c.is_start-starts.ensures ∙ ap Some c.if-not-starts.false)) h)

pub returns-clause-budget : goal.returns-clause-budget
returns-clause-budget c = c.search_from.ensures.budget

pub returns-clause-store : goal.returns-clause-store
returns-clause-store c = ap (λ (z : TermStore). z.store) c.cut.ensures.store ∙ (back-again (the_mark c.mark-mark.result) c.args.store.now.store c.start.new.store.store c.search_from.new.store.store c.undo.new.self.store c.mark-mark.ensures.good c.mark-mark.ensures.whole c.start.ensures.marks c.search_from.ensures.marks c.undo.ensures.store)

pub returns-clause-steps : goal.returns-clause-steps
returns-clause-steps c = c.cut.ensures.steps

pub returns-clause-goals : goal.returns-clause-goals
returns-clause-goals c = c.cut.ensures.goals

pub returns-clause-marks : goal.returns-clause-marks
returns-clause-marks c = marks-of_same c.args.store.now.store c.cut.new.store.store (ap (λ (z : TermStore). z.store) c.cut.ensures.store ∙ back-again (the_mark c.mark-mark.result) c.args.store.now.store c.start.new.store.store c.search_from.new.store.store c.undo.new.self.store c.mark-mark.ensures.good c.mark-mark.ensures.whole c.start.ensures.marks c.search_from.ensures.marks c.undo.ensures.store)

pub returns-clause-room : goal.returns-clause-room
returns-clause-room c = subst (λ (z : TermStore). KeepsRoom c.args.store.now z) (sym c.cut.ensures.store) (room-both c.args.store.now c.search_from.new.store c.undo.new.self (room-both c.args.store.now c.start.new.store c.search_from.new.store c.start.ensures.room c.search_from.ensures.room) c.undo.ensures.room)
