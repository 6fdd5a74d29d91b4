use Rattle.search_tree.specs.GoalKeys.{variables_in, waiting_in}
use Rattle.search_tree.specs.declared.goal_key.KeyPart.TheVariants.{Eigenvariable, Function, Variable}
use Rattle.std.proofs.Common.{[], ◌∷◌, ◌++◌, length, refl}
use Rattle.search_tree.proofs.KeyLaws.{reading-added, reading-eigenvariable, reading-function, reading-in, reading-variable, shown-eigenvariable, shown-function, shown-variable}
use Rattle.search_tree.proofs.goal_key.GoalKey.read_cell.Goals as goal

pub returns-in_ok-read-in-Open : goal.returns-in_ok-read-in-Open
returns-in_ok-read-in-Open c = λ t x rest h.
    let (i, numbered, parts) = c.in_ok-read-in-Open.ensures.number t in
    reading-in c.args.store.now.store x (waiting_in c.args.self.now) (waiting_in c.read_open.new.self) (variables_in c.read_open.new.self) (variables_in c.read_open.new.self) (c.args.self.now.parts.items ++ Variable i ∷ []) c.read_open.new.self.parts.items rest (c.in_ok-read-in-Open.ensures.waiting t) refl parts
    (reading-variable c.args.store.now.store x (waiting_in c.args.self.now) (variables_in c.args.self.now) (variables_in c.read_open.new.self) c.args.self.now.parts.items rest c.args.r.0 c.end-end.result.place.0 i c.end-end.ensures.ends (shown-variable c.args.store.now.store c.end-end.result.place.0 c.end-end.result.content c.in-Open.sort c.end-end.ensures.shows c.in-Open.is (c.in_ok-read-in-Open.ensures.term t)) numbered h)

pub returns-in_ok-read_function-in-Fun : goal.returns-in_ok-read_function-in-Fun
returns-in_ok-read_function-in-Fun c = λ t x rest h.
    let (rs, cell) = shown-function c.args.store.now.store c.end-end.result.place.0 c.end-end.result.content c.in-Fun.f _ c.end-end.ensures.shows c.in-Fun.is in
    reading-added c.args.store.now.store x c.args.self.now c.read_function.new.self (Function c.in-Fun.f (length rs)) rs rest (c.in_ok-read_function-in-Fun.ensures rs cell)
    (reading-function c.args.store.now.store x (waiting_in c.args.self.now) (variables_in c.args.self.now) c.args.self.now.parts.items rest c.args.r.0 c.end-end.result.place.0 c.in-Fun.f rs c.end-end.ensures.well c.end-end.ensures.ends cell h)

pub returns-in_ok-read_eigenvariable-in-Eigen : goal.returns-in_ok-read_eigenvariable-in-Eigen
returns-in_ok-read_eigenvariable-in-Eigen c = λ t x rest h.
    let (rs, cell) = shown-eigenvariable c.args.store.now.store c.end-end.result.place.0 c.end-end.result.content c.in-Eigen.p _ c.end-end.ensures.shows c.in-Eigen.is in
    reading-added c.args.store.now.store x c.args.self.now c.read_eigenvariable.new.self (Eigenvariable c.in-Eigen.p (length rs)) rs rest (c.in_ok-read_eigenvariable-in-Eigen.ensures rs cell)
    (reading-eigenvariable c.args.store.now.store x (waiting_in c.args.self.now) (variables_in c.args.self.now) c.args.self.now.parts.items rest c.args.r.0 c.end-end.result.place.0 c.in-Eigen.p rs c.end-end.ensures.well c.end-end.ensures.ends cell h)
