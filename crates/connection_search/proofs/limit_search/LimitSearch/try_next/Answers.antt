use Rattle.std.proofs.Common.{◌≡◌, ◌<◌, ◌-◌, ◌++◌, ◌∷◌, ◌∙◌, [], ℕ, List, ap, arith, length, reverse, slice_set, subst, sym, take}
use Rattle.calculus.specs.Choices.{Choice}
use Rattle.connection_search.specs.Exploring.{AreAbove, IsExploring, IsSpace}
use Rattle.search_tree.specs.Seeing.{seen_after}
use Rattle.search_tree.specs.Weights.{work_left}
use Rattle.search_tree.specs.declared.point.Point.{Point}
use Rattle.search_tree.specs.declared.tree.Tree.{Tree}
use Rattle.search_tree.proofs.GivenUpLaws.{looks-ahead}
use Rattle.connection_search.proofs.GoingBackLaws.{last-read}
use Rattle.connection_search.proofs.StackedLaws.{above-marked, above-rest, moment-back, moment-both, moment-kept}
use Rattle.connection_search.proofs.TryingLaws.{above-seen, back-at, cut-end, dead-at, exploring-at, fewer-falls, if_on, is-pushed, last-good, lighter-seen, lighter-some, next-falls, none-at, room-both, seen-weight, set-end, stands-back, steps-here, tried-at, trying-made, trying-refused, visit-falls}
use Rattle.connection_search.proofs.SpentLaws.{counted}
use Rattle.connection_search.proofs.limit_search.LimitSearch.try_next.Goals as goal

pub return_to-requires : goal.return_to-requires
return_to-requires c =
    let ends : c.args.points.now.items ≡ (take (c.len-below.result - 1) c.args.points.now.items) ++ c.index_mut-point.result.now ∷ [] = last-read c.args.points.now.items c.len-below.result c.index_mut-point.result.now (let n = c.len-below.ensures in let k = c.args.points.now.ok.0 in omega (arith, n, k)) (let n = c.len-below.ensures in let k = c.args.points.now.ok.0 in let s = c.requires.some in omega (arith, n, k, s)) c.index_mut-point.ensures.value in
    let (base, later, begun, space, given) = c.requires.exploring in
    let e = exploring-at c.args.self.now.problem.now c.args.self.now.matrix.now base c.args.self.now.limit c.args.store.now.store c.args.work.now.tree.steps.items c.args.work.now.tree.goals.items c.args.points.now.items ((take (c.len-below.result - 1) c.args.points.now.items) ++ c.index_mut-point.result.now ∷ []) later begun c.args.ledger.now.used c.args.left.now ends given in
    last-good c.args.self.now.problem.now c.args.self.now.matrix.now base c.args.self.now.limit c.args.store.now.store c.args.work.now.tree.steps.items c.args.work.now.tree.goals.items (take (c.len-below.result - 1) c.args.points.now.items) c.index_mut-point.result.now later begun c.args.ledger.now.used c.args.left.now e

pub is_found_irregular-requires : goal.is_found_irregular-requires
is_found_irregular-requires c =
    let ends : c.args.points.now.items ≡ (take (c.len-below.result - 1) c.args.points.now.items) ++ c.index_mut-point.result.now ∷ [] = last-read c.args.points.now.items c.len-below.result c.index_mut-point.result.now (let n = c.len-below.ensures in let k = c.args.points.now.ok.0 in omega (arith, n, k)) (let n = c.len-below.ensures in let k = c.args.points.now.ok.0 in let s = c.requires.some in omega (arith, n, k, s)) c.index_mut-point.ensures.value in
    let (base, later, begun, space, given) = c.requires.exploring in
    let e = exploring-at c.args.self.now.problem.now c.args.self.now.matrix.now base c.args.self.now.limit c.args.store.now.store c.args.work.now.tree.steps.items c.args.work.now.tree.goals.items c.args.points.now.items ((take (c.len-below.result - 1) c.args.points.now.items) ++ c.index_mut-point.result.now ∷ []) later begun c.args.ledger.now.used c.args.left.now ends given in
    let b = back-at c.args.self.now.problem.now c.args.self.now.matrix.now base c.args.self.now.limit c.args.store.now.store c.return_to.new.store.store c.args.work.now.tree.steps.items c.return_to.new.tree.steps.items c.args.work.now.tree.goals.items c.return_to.new.tree.goals.items (take (c.len-below.result - 1) c.args.points.now.items) c.index_mut-point.result.now later begun c.args.ledger.now.used c.args.left.now e c.return_to.ensures.store c.return_to.ensures.steps c.return_to.ensures.goals in
    (c.args.self.now.problem.now, c.args.self.now.matrix.now, base, c.args.self.now.limit, b.choices, stands-back c.args.self.now.problem.now c.args.self.now.matrix.now base c.args.self.now.limit c.return_to.new.store.store c.return_to.new.tree.steps.items c.return_to.new.tree.goals.items c.return_to.new.tree.open c.index_mut-point.result.now (reverse (take (c.len-below.result - 1) c.args.points.now.items)) later begun c.args.ledger.now.used c.args.left.now c.return_to.ensures.first b)

pub returns-in_err-is_found_irregular-clause-counted : goal.returns-in_err-is_found_irregular-clause-counted
returns-in_err-is_found_irregular-clause-counted c =
    λ base later begun space e.
    counted c.args.self.now.problem.now c.args.self.now.limit (e.pending ++ later) begun c.args.ledger.now.used c.args.left.now e.searched

pub returns-in_err-is_found_irregular-clause-moment : goal.returns-in_err-is_found_irregular-clause-moment
returns-in_err-is_found_irregular-clause-moment c =
    let ends : c.args.points.now.items ≡ (take (c.len-below.result - 1) c.args.points.now.items) ++ c.index_mut-point.result.now ∷ [] = last-read c.args.points.now.items c.len-below.result c.index_mut-point.result.now (let n = c.len-below.ensures in let k = c.args.points.now.ok.0 in omega (arith, n, k)) (let n = c.len-below.ensures in let k = c.args.points.now.ok.0 in let s = c.requires.some in omega (arith, n, k, s)) c.index_mut-point.ensures.value in
    λ k g given.
    let a = subst (AreAbove k) ends given in
    moment-back k (take (c.len-below.result - 1) c.args.points.now.items) c.index_mut-point.result.now c.args.store.now.store c.return_to.new.store.store g a c.return_to.ensures.marks

pub returns-in_err-is_found_irregular-clause-room : goal.returns-in_err-is_found_irregular-clause-room
returns-in_err-is_found_irregular-clause-room c =
    c.return_to.ensures.room

pub returns-then-branch-clause-on : goal.returns-then-branch-clause-on
returns-then-branch-clause-on c =
    let last : c.args.points.now.items ≡ take (c.len-below.result - 1) c.args.points.now.items ++ c.index_mut-point.result.now ∷ [] = last-read c.args.points.now.items c.len-below.result c.index_mut-point.result.now (let n = c.len-below.ensures in let k = c.args.points.now.ok.0 in omega (arith, n, k)) (let n = c.len-below.ensures in let k = c.args.points.now.ok.0 in let s = c.requires.some in omega (arith, n, k, s)) c.index_mut-point.ensures.value in
    let rest : c.truncate.new.self.items ≡ take (c.len-below.result - 1) c.args.points.now.items = c.truncate.ensures.items ∙ cut-end c.args.points.now.items (c.len-below.result - 1) c.index_mut-point.result.now c.index_mut-point.result.now last (let n = c.len-below.ensures in let k = c.args.points.now.ok.0 in let s = c.requires.some in omega (arith, n, k, s)) in
    let ends : c.args.points.now.items ≡ c.truncate.new.self.items ++ c.index_mut-point.result.now ∷ [] = last ∙ ap (λ ps. ps ++ c.index_mut-point.result.now ∷ []) (sym rest) in
    λ base later begun space given.
    let e = exploring-at c.args.self.now.problem.now c.args.self.now.matrix.now base c.args.self.now.limit c.args.store.now.store c.args.work.now.tree.steps.items c.args.work.now.tree.goals.items c.args.points.now.items (c.truncate.new.self.items ++ c.index_mut-point.result.now ∷ []) later begun c.args.ledger.now.used c.args.left.now ends given in
    dead-at c.args.self.now.problem.now c.args.self.now.matrix.now base c.args.self.now.limit c.args.store.now.store c.return_to.new.store.store c.args.work.now.tree.steps.items c.return_to.new.tree.steps.items c.is_found_irregular.new.self.tree.steps.items c.args.work.now.tree.goals.items c.return_to.new.tree.goals.items c.is_found_irregular.new.self.tree.goals.items c.return_to.new.tree.open c.truncate.new.self.items c.lower.new.points.items c.index_mut-point.result.now later begun c.args.ledger.now.used c.args.left.now c.return_to.ensures.store c.return_to.ensures.steps c.return_to.ensures.goals c.return_to.ensures.first (ap (λ (t : Tree). t.steps.items) c.is_found_irregular.ensures.tree) (ap (λ (t : Tree). t.goals.items) c.is_found_irregular.ensures.tree) c.lower.ensures (c.in_ok-is_found_irregular.ensures.irregular c.if-branch.true) e

pub returns-then-branch-clause-counted : goal.returns-then-branch-clause-counted
returns-then-branch-clause-counted c =
    λ base later begun space e.
    counted c.args.self.now.problem.now c.args.self.now.limit (e.pending ++ later) begun c.args.ledger.now.used c.args.left.now e.searched

pub returns-then-branch-clause-falls : goal.returns-then-branch-clause-falls
returns-then-branch-clause-falls c =
    let last : c.args.points.now.items ≡ take (c.len-below.result - 1) c.args.points.now.items ++ c.index_mut-point.result.now ∷ [] = last-read c.args.points.now.items c.len-below.result c.index_mut-point.result.now (let n = c.len-below.ensures in let k = c.args.points.now.ok.0 in omega (arith, n, k)) (let n = c.len-below.ensures in let k = c.args.points.now.ok.0 in let s = c.requires.some in omega (arith, n, k, s)) c.index_mut-point.ensures.value in
    let rest : c.truncate.new.self.items ≡ take (c.len-below.result - 1) c.args.points.now.items = c.truncate.ensures.items ∙ cut-end c.args.points.now.items (c.len-below.result - 1) c.index_mut-point.result.now c.index_mut-point.result.now last (let n = c.len-below.ensures in let k = c.args.points.now.ok.0 in let s = c.requires.some in omega (arith, n, k, s)) in
    let ends : c.args.points.now.items ≡ c.truncate.new.self.items ++ c.index_mut-point.result.now ∷ [] = last ∙ ap (λ ps. ps ++ c.index_mut-point.result.now ∷ []) (sym rest) in
    subst (λ ps. work_left c.args.ledger.now.budget c.args.ledger.now.used c.lower.new.points.items < work_left c.args.ledger.now.budget c.args.ledger.now.used ps) (sym ends) (fewer-falls c.args.ledger.now.budget c.args.ledger.now.used c.truncate.new.self.items c.lower.new.points.items c.index_mut-point.result.now (seen-weight 0 c.truncate.new.self.items c.lower.new.points.items c.lower.ensures))

pub returns-then-branch-clause-above : goal.returns-then-branch-clause-above
returns-then-branch-clause-above c =
    let last : c.args.points.now.items ≡ take (c.len-below.result - 1) c.args.points.now.items ++ c.index_mut-point.result.now ∷ [] = last-read c.args.points.now.items c.len-below.result c.index_mut-point.result.now (let n = c.len-below.ensures in let k = c.args.points.now.ok.0 in omega (arith, n, k)) (let n = c.len-below.ensures in let k = c.args.points.now.ok.0 in let s = c.requires.some in omega (arith, n, k, s)) c.index_mut-point.ensures.value in
    let rest : c.truncate.new.self.items ≡ take (c.len-below.result - 1) c.args.points.now.items = c.truncate.ensures.items ∙ cut-end c.args.points.now.items (c.len-below.result - 1) c.index_mut-point.result.now c.index_mut-point.result.now last (let n = c.len-below.ensures in let k = c.args.points.now.ok.0 in let s = c.requires.some in omega (arith, n, k, s)) in
    let ends : c.args.points.now.items ≡ c.truncate.new.self.items ++ c.index_mut-point.result.now ∷ [] = last ∙ ap (λ ps. ps ++ c.index_mut-point.result.now ∷ []) (sym rest) in
    λ k g given.
    let a = subst (AreAbove k) ends given in
    above-seen k 0 c.truncate.new.self.items c.lower.new.points.items c.lower.ensures (above-rest k c.truncate.new.self.items c.index_mut-point.result.now a)

pub returns-then-branch-clause-moment : goal.returns-then-branch-clause-moment
returns-then-branch-clause-moment c =
    let ends : c.args.points.now.items ≡ (take (c.len-below.result - 1) c.args.points.now.items) ++ c.index_mut-point.result.now ∷ [] = last-read c.args.points.now.items c.len-below.result c.index_mut-point.result.now (let n = c.len-below.ensures in let k = c.args.points.now.ok.0 in omega (arith, n, k)) (let n = c.len-below.ensures in let k = c.args.points.now.ok.0 in let s = c.requires.some in omega (arith, n, k, s)) c.index_mut-point.ensures.value in
    λ k g given.
    let a = subst (AreAbove k) ends given in
    moment-back k (take (c.len-below.result - 1) c.args.points.now.items) c.index_mut-point.result.now c.args.store.now.store c.return_to.new.store.store g a c.return_to.ensures.marks

pub returns-then-branch-clause-room : goal.returns-then-branch-clause-room
returns-then-branch-clause-room c =
    c.return_to.ensures.room

pub next_choice-requires : goal.next_choice-requires
next_choice-requires c =
    let ends : c.args.points.now.items ≡ (take (c.len-below.result - 1) c.args.points.now.items) ++ c.index_mut-point.result.now ∷ [] = last-read c.args.points.now.items c.len-below.result c.index_mut-point.result.now (let n = c.len-below.ensures in let k = c.args.points.now.ok.0 in omega (arith, n, k)) (let n = c.len-below.ensures in let k = c.args.points.now.ok.0 in let s = c.requires.some in omega (arith, n, k, s)) c.index_mut-point.ensures.value in
    let (base, later, begun, space, given) = c.requires.exploring in
    let e = exploring-at c.args.self.now.problem.now c.args.self.now.matrix.now base c.args.self.now.limit c.args.store.now.store c.args.work.now.tree.steps.items c.args.work.now.tree.goals.items c.args.points.now.items ((take (c.len-below.result - 1) c.args.points.now.items) ++ c.index_mut-point.result.now ∷ []) later begun c.args.ledger.now.used c.args.left.now ends given in
    let b = back-at c.args.self.now.problem.now c.args.self.now.matrix.now base c.args.self.now.limit c.args.store.now.store c.return_to.new.store.store c.args.work.now.tree.steps.items c.is_found_irregular.new.self.tree.steps.items c.args.work.now.tree.goals.items c.is_found_irregular.new.self.tree.goals.items (take (c.len-below.result - 1) c.args.points.now.items) c.index_mut-point.result.now later begun c.args.ledger.now.used c.args.left.now e c.return_to.ensures.store (ap (λ (t : Tree). t.steps.items) c.is_found_irregular.ensures.tree ∙ c.return_to.ensures.steps) (ap (λ (t : Tree). t.goals.items) c.is_found_irregular.ensures.tree ∙ c.return_to.ensures.goals) in
    (c.args.self.now.problem.now, base, b.choices, b.goal, b.untried, space.matrix, b.at, b.has)

pub returns-in_err-choice-clause-counted : goal.returns-in_err-choice-clause-counted
returns-in_err-choice-clause-counted c =
    λ base later begun space e.
    counted c.args.self.now.problem.now c.args.self.now.limit (e.pending ++ later) begun c.args.ledger.now.used c.args.left.now e.searched

pub returns-in_err-choice-clause-moment : goal.returns-in_err-choice-clause-moment
returns-in_err-choice-clause-moment c =
    let ends : c.args.points.now.items ≡ (take (c.len-below.result - 1) c.args.points.now.items) ++ c.index_mut-point.result.now ∷ [] = last-read c.args.points.now.items c.len-below.result c.index_mut-point.result.now (let n = c.len-below.ensures in let k = c.args.points.now.ok.0 in omega (arith, n, k)) (let n = c.len-below.ensures in let k = c.args.points.now.ok.0 in let s = c.requires.some in omega (arith, n, k, s)) c.index_mut-point.ensures.value in
    λ k g given.
    let a = subst (AreAbove k) ends given in
    moment-back k (take (c.len-below.result - 1) c.args.points.now.items) c.index_mut-point.result.now c.args.store.now.store c.return_to.new.store.store g a c.return_to.ensures.marks

pub returns-in_err-choice-clause-room : goal.returns-in_err-choice-clause-room
returns-in_err-choice-clause-room c =
    c.return_to.ensures.room

pub keep_failed-requires : goal.keep_failed-requires
keep_failed-requires c =
    let last : c.args.points.now.items ≡ take (c.len-below.result - 1) c.args.points.now.items ++ c.index_mut-point.result.now ∷ [] = last-read c.args.points.now.items c.len-below.result c.index_mut-point.result.now (let n = c.len-below.ensures in let k = c.args.points.now.ok.0 in omega (arith, n, k)) (let n = c.len-below.ensures in let k = c.args.points.now.ok.0 in let s = c.requires.some in omega (arith, n, k, s)) c.index_mut-point.ensures.value in
    let rest : c.truncate-in-None.new.self.items ≡ take (c.len-below.result - 1) c.args.points.now.items = c.truncate-in-None.ensures.items ∙ cut-end c.args.points.now.items (c.len-below.result - 1) c.index_mut-point.result.now c.next_choice.new.point last (let n = c.len-below.ensures in let k = c.args.points.now.ok.0 in let s = c.requires.some in omega (arith, n, k, s)) in
    let ends : c.args.points.now.items ≡ c.truncate-in-None.new.self.items ++ c.index_mut-point.result.now ∷ [] = last ∙ ap (λ ps. ps ++ c.index_mut-point.result.now ∷ []) (sym rest) in
    let (base, later, begun, space, given) = c.requires.exploring in
    let e = exploring-at c.args.self.now.problem.now c.args.self.now.matrix.now base c.args.self.now.limit c.args.store.now.store c.args.work.now.tree.steps.items c.args.work.now.tree.goals.items c.args.points.now.items (c.truncate-in-None.new.self.items ++ c.index_mut-point.result.now ∷ []) later begun c.args.ledger.now.used c.args.left.now ends given in
    (c.args.ledger.now, c.truncate-in-None.new.self.items, (base, later, begun, space, none-at c.args.self.now.problem.now c.args.self.now.matrix.now base c.args.self.now.limit c.args.store.now.store c.return_to.new.store.store c.args.work.now.tree.steps.items c.is_found_irregular.new.self.tree.steps.items c.args.work.now.tree.goals.items c.is_found_irregular.new.self.tree.goals.items c.truncate-in-None.new.self.items c.index_mut-point.result.now c.next_choice.new.point later begun c.args.ledger.now.used c.args.left.now _ c.return_to.ensures.store (ap (λ (t : Tree). t.steps.items) c.is_found_irregular.ensures.tree ∙ c.return_to.ensures.steps) (ap (λ (t : Tree). t.goals.items) c.is_found_irregular.ensures.tree ∙ c.return_to.ensures.goals) c.in_ok-choice.ensures.same space.matrix (c.in_ok-choice.ensures.next c.args.self.now.problem.now) c.in-None.is e))

pub returns-in_err-keep_failed-in-None-clause-counted : goal.returns-in_err-keep_failed-in-None-clause-counted
returns-in_err-keep_failed-in-None-clause-counted c =
    λ base later begun space e.
    counted c.args.self.now.problem.now c.args.self.now.limit (e.pending ++ later) begun c.args.ledger.now.used c.args.left.now e.searched

pub returns-in_err-keep_failed-in-None-clause-moment : goal.returns-in_err-keep_failed-in-None-clause-moment
returns-in_err-keep_failed-in-None-clause-moment c =
    let ends : c.args.points.now.items ≡ (take (c.len-below.result - 1) c.args.points.now.items) ++ c.index_mut-point.result.now ∷ [] = last-read c.args.points.now.items c.len-below.result c.index_mut-point.result.now (let n = c.len-below.ensures in let k = c.args.points.now.ok.0 in omega (arith, n, k)) (let n = c.len-below.ensures in let k = c.args.points.now.ok.0 in let s = c.requires.some in omega (arith, n, k, s)) c.index_mut-point.ensures.value in
    λ k g given.
    let a = subst (AreAbove k) ends given in
    moment-back k (take (c.len-below.result - 1) c.args.points.now.items) c.index_mut-point.result.now c.args.store.now.store c.return_to.new.store.store g a c.return_to.ensures.marks

pub returns-in_err-keep_failed-in-None-clause-room : goal.returns-in_err-keep_failed-in-None-clause-room
returns-in_err-keep_failed-in-None-clause-room c =
    c.return_to.ensures.room

pub returns-in-None-clause-failed : goal.returns-in-None-clause-failed
returns-in-None-clause-failed c = c.in_ok-keep_failed-in-None.ensures c.requires.failed

pub jump-requires : goal.jump-requires
jump-requires c =
    let last : c.args.points.now.items ≡ take (c.len-below.result - 1) c.args.points.now.items ++ c.index_mut-point.result.now ∷ [] = last-read c.args.points.now.items c.len-below.result c.index_mut-point.result.now (let n = c.len-below.ensures in let k = c.args.points.now.ok.0 in omega (arith, n, k)) (let n = c.len-below.ensures in let k = c.args.points.now.ok.0 in let s = c.requires.some in omega (arith, n, k, s)) c.index_mut-point.ensures.value in
    let rest : c.truncate-in-None.new.self.items ≡ take (c.len-below.result - 1) c.args.points.now.items = c.truncate-in-None.ensures.items ∙ cut-end c.args.points.now.items (c.len-below.result - 1) c.index_mut-point.result.now c.next_choice.new.point last (let n = c.len-below.ensures in let k = c.args.points.now.ok.0 in let s = c.requires.some in omega (arith, n, k, s)) in
    let ends : c.args.points.now.items ≡ c.truncate-in-None.new.self.items ++ c.index_mut-point.result.now ∷ [] = last ∙ ap (λ ps. ps ++ c.index_mut-point.result.now ∷ []) (sym rest) in
    let (base, later, begun, space, given) = c.requires.exploring in
    let e = exploring-at c.args.self.now.problem.now c.args.self.now.matrix.now base c.args.self.now.limit c.args.store.now.store c.args.work.now.tree.steps.items c.args.work.now.tree.goals.items c.args.points.now.items (c.truncate-in-None.new.self.items ++ c.index_mut-point.result.now ∷ []) later begun c.args.ledger.now.used c.args.left.now ends given in
    (c.args.ledger.now, (base, later, begun, space, none-at c.args.self.now.problem.now c.args.self.now.matrix.now base c.args.self.now.limit c.args.store.now.store c.return_to.new.store.store c.args.work.now.tree.steps.items c.is_found_irregular.new.self.tree.steps.items c.args.work.now.tree.goals.items c.is_found_irregular.new.self.tree.goals.items c.truncate-in-None.new.self.items c.index_mut-point.result.now c.next_choice.new.point later begun c.args.ledger.now.used c.args.left.now _ c.return_to.ensures.store (ap (λ (t : Tree). t.steps.items) c.is_found_irregular.ensures.tree ∙ c.return_to.ensures.steps) (ap (λ (t : Tree). t.goals.items) c.is_found_irregular.ensures.tree ∙ c.return_to.ensures.goals) c.in_ok-choice.ensures.same space.matrix (c.in_ok-choice.ensures.next c.args.self.now.problem.now) c.in-None.is e))

pub returns-in_err-jump-in-None-clause-counted : goal.returns-in_err-jump-in-None-clause-counted
returns-in_err-jump-in-None-clause-counted c =
    λ base later begun space e.
    counted c.args.self.now.problem.now c.args.self.now.limit (e.pending ++ later) begun c.args.ledger.now.used c.args.left.now e.searched

pub returns-in_err-jump-in-None-clause-moment : goal.returns-in_err-jump-in-None-clause-moment
returns-in_err-jump-in-None-clause-moment c =
    let last : c.args.points.now.items ≡ take (c.len-below.result - 1) c.args.points.now.items ++ c.index_mut-point.result.now ∷ [] = last-read c.args.points.now.items c.len-below.result c.index_mut-point.result.now (let n = c.len-below.ensures in let k = c.args.points.now.ok.0 in omega (arith, n, k)) (let n = c.len-below.ensures in let k = c.args.points.now.ok.0 in let s = c.requires.some in omega (arith, n, k, s)) c.index_mut-point.ensures.value in
    let rest : c.truncate-in-None.new.self.items ≡ take (c.len-below.result - 1) c.args.points.now.items = c.truncate-in-None.ensures.items ∙ cut-end c.args.points.now.items (c.len-below.result - 1) c.index_mut-point.result.now c.next_choice.new.point last (let n = c.len-below.ensures in let k = c.args.points.now.ok.0 in let s = c.requires.some in omega (arith, n, k, s)) in
    let ends : c.args.points.now.items ≡ c.truncate-in-None.new.self.items ++ c.index_mut-point.result.now ∷ [] = last ∙ ap (λ ps. ps ++ c.index_mut-point.result.now ∷ []) (sym rest) in
    λ k g given.
    let a = subst (AreAbove k) ends given in
    let m = moment-back k c.truncate-in-None.new.self.items c.index_mut-point.result.now c.args.store.now.store c.return_to.new.store.store g a c.return_to.ensures.marks in
    moment-both k c.args.store.now.store c.return_to.new.store.store c.jump.new.store.store m (c.jump.ensures.moment k m.0 (above-rest k c.truncate-in-None.new.self.items c.index_mut-point.result.now a))

pub returns-in_err-jump-in-None-clause-room : goal.returns-in_err-jump-in-None-clause-room
returns-in_err-jump-in-None-clause-room c =
    room-both c.args.store.now c.return_to.new.store c.jump.new.store c.return_to.ensures.room c.jump.ensures.room

pub returns-in-None-clause-on : goal.returns-in-None-clause-on
returns-in-None-clause-on c =
    let last : c.args.points.now.items ≡ take (c.len-below.result - 1) c.args.points.now.items ++ c.index_mut-point.result.now ∷ [] = last-read c.args.points.now.items c.len-below.result c.index_mut-point.result.now (let n = c.len-below.ensures in let k = c.args.points.now.ok.0 in omega (arith, n, k)) (let n = c.len-below.ensures in let k = c.args.points.now.ok.0 in let s = c.requires.some in omega (arith, n, k, s)) c.index_mut-point.ensures.value in
    let rest : c.truncate-in-None.new.self.items ≡ take (c.len-below.result - 1) c.args.points.now.items = c.truncate-in-None.ensures.items ∙ cut-end c.args.points.now.items (c.len-below.result - 1) c.index_mut-point.result.now c.next_choice.new.point last (let n = c.len-below.ensures in let k = c.args.points.now.ok.0 in let s = c.requires.some in omega (arith, n, k, s)) in
    let ends : c.args.points.now.items ≡ c.truncate-in-None.new.self.items ++ c.index_mut-point.result.now ∷ [] = last ∙ ap (λ ps. ps ++ c.index_mut-point.result.now ∷ []) (sym rest) in
    λ base later begun space given.
    let e = exploring-at c.args.self.now.problem.now c.args.self.now.matrix.now base c.args.self.now.limit c.args.store.now.store c.args.work.now.tree.steps.items c.args.work.now.tree.goals.items c.args.points.now.items (c.truncate-in-None.new.self.items ++ c.index_mut-point.result.now ∷ []) later begun c.args.ledger.now.used c.args.left.now ends given in
    c.in_ok-jump-in-None.ensures.on c.args.ledger.now base later begun space (none-at c.args.self.now.problem.now c.args.self.now.matrix.now base c.args.self.now.limit c.args.store.now.store c.return_to.new.store.store c.args.work.now.tree.steps.items c.is_found_irregular.new.self.tree.steps.items c.args.work.now.tree.goals.items c.is_found_irregular.new.self.tree.goals.items c.truncate-in-None.new.self.items c.index_mut-point.result.now c.next_choice.new.point later begun c.args.ledger.now.used c.args.left.now _ c.return_to.ensures.store (ap (λ (t : Tree). t.steps.items) c.is_found_irregular.ensures.tree ∙ c.return_to.ensures.steps) (ap (λ (t : Tree). t.goals.items) c.is_found_irregular.ensures.tree ∙ c.return_to.ensures.goals) c.in_ok-choice.ensures.same space.matrix (c.in_ok-choice.ensures.next c.args.self.now.problem.now) c.in-None.is e)

pub returns-in-None-clause-counted : goal.returns-in-None-clause-counted
returns-in-None-clause-counted c =
    λ base later begun space e.
    counted c.args.self.now.problem.now c.args.self.now.limit (e.pending ++ later) begun c.args.ledger.now.used c.args.left.now e.searched

pub returns-in-None-clause-falls : goal.returns-in-None-clause-falls
returns-in-None-clause-falls c =
    let last : c.args.points.now.items ≡ take (c.len-below.result - 1) c.args.points.now.items ++ c.index_mut-point.result.now ∷ [] = last-read c.args.points.now.items c.len-below.result c.index_mut-point.result.now (let n = c.len-below.ensures in let k = c.args.points.now.ok.0 in omega (arith, n, k)) (let n = c.len-below.ensures in let k = c.args.points.now.ok.0 in let s = c.requires.some in omega (arith, n, k, s)) c.index_mut-point.ensures.value in
    let rest : c.truncate-in-None.new.self.items ≡ take (c.len-below.result - 1) c.args.points.now.items = c.truncate-in-None.ensures.items ∙ cut-end c.args.points.now.items (c.len-below.result - 1) c.index_mut-point.result.now c.next_choice.new.point last (let n = c.len-below.ensures in let k = c.args.points.now.ok.0 in let s = c.requires.some in omega (arith, n, k, s)) in
    let ends : c.args.points.now.items ≡ c.truncate-in-None.new.self.items ++ c.index_mut-point.result.now ∷ [] = last ∙ ap (λ ps. ps ++ c.index_mut-point.result.now ∷ []) (sym rest) in
    subst (λ ps. work_left c.args.ledger.now.budget c.args.ledger.now.used c.jump.new.points.items < work_left c.args.ledger.now.budget c.args.ledger.now.used ps) (sym ends) (fewer-falls c.args.ledger.now.budget c.args.ledger.now.used c.truncate-in-None.new.self.items c.jump.new.points.items c.index_mut-point.result.now c.in_ok-jump-in-None.ensures.falls)

pub returns-in-None-clause-above : goal.returns-in-None-clause-above
returns-in-None-clause-above c =
    let last : c.args.points.now.items ≡ take (c.len-below.result - 1) c.args.points.now.items ++ c.index_mut-point.result.now ∷ [] = last-read c.args.points.now.items c.len-below.result c.index_mut-point.result.now (let n = c.len-below.ensures in let k = c.args.points.now.ok.0 in omega (arith, n, k)) (let n = c.len-below.ensures in let k = c.args.points.now.ok.0 in let s = c.requires.some in omega (arith, n, k, s)) c.index_mut-point.ensures.value in
    let rest : c.truncate-in-None.new.self.items ≡ take (c.len-below.result - 1) c.args.points.now.items = c.truncate-in-None.ensures.items ∙ cut-end c.args.points.now.items (c.len-below.result - 1) c.index_mut-point.result.now c.next_choice.new.point last (let n = c.len-below.ensures in let k = c.args.points.now.ok.0 in let s = c.requires.some in omega (arith, n, k, s)) in
    let ends : c.args.points.now.items ≡ c.truncate-in-None.new.self.items ++ c.index_mut-point.result.now ∷ [] = last ∙ ap (λ ps. ps ++ c.index_mut-point.result.now ∷ []) (sym rest) in
    λ k g given.
    let a = subst (AreAbove k) ends given in
    c.in_ok-jump-in-None.ensures.above k (above-rest k c.truncate-in-None.new.self.items c.index_mut-point.result.now a)

pub returns-in-None-clause-moment : goal.returns-in-None-clause-moment
returns-in-None-clause-moment c =
    let last : c.args.points.now.items ≡ take (c.len-below.result - 1) c.args.points.now.items ++ c.index_mut-point.result.now ∷ [] = last-read c.args.points.now.items c.len-below.result c.index_mut-point.result.now (let n = c.len-below.ensures in let k = c.args.points.now.ok.0 in omega (arith, n, k)) (let n = c.len-below.ensures in let k = c.args.points.now.ok.0 in let s = c.requires.some in omega (arith, n, k, s)) c.index_mut-point.ensures.value in
    let rest : c.truncate-in-None.new.self.items ≡ take (c.len-below.result - 1) c.args.points.now.items = c.truncate-in-None.ensures.items ∙ cut-end c.args.points.now.items (c.len-below.result - 1) c.index_mut-point.result.now c.next_choice.new.point last (let n = c.len-below.ensures in let k = c.args.points.now.ok.0 in let s = c.requires.some in omega (arith, n, k, s)) in
    let ends : c.args.points.now.items ≡ c.truncate-in-None.new.self.items ++ c.index_mut-point.result.now ∷ [] = last ∙ ap (λ ps. ps ++ c.index_mut-point.result.now ∷ []) (sym rest) in
    λ k g given.
    let a = subst (AreAbove k) ends given in
    let m = moment-back k c.truncate-in-None.new.self.items c.index_mut-point.result.now c.args.store.now.store c.return_to.new.store.store g a c.return_to.ensures.marks in
    moment-both k c.args.store.now.store c.return_to.new.store.store c.jump.new.store.store m (c.jump.ensures.moment k m.0 (above-rest k c.truncate-in-None.new.self.items c.index_mut-point.result.now a))

pub returns-in-None-clause-room : goal.returns-in-None-clause-room
returns-in-None-clause-room c =
    room-both c.args.store.now c.return_to.new.store c.jump.new.store c.return_to.ensures.room c.jump.ensures.room

pub make-requires : goal.make-requires
make-requires c =
    let ends : c.args.points.now.items ≡ (take (c.len-below.result - 1) c.args.points.now.items) ++ c.index_mut-point.result.now ∷ [] = last-read c.args.points.now.items c.len-below.result c.index_mut-point.result.now (let n = c.len-below.ensures in let k = c.args.points.now.ok.0 in omega (arith, n, k)) (let n = c.len-below.ensures in let k = c.args.points.now.ok.0 in let s = c.requires.some in omega (arith, n, k, s)) c.index_mut-point.ensures.value in
    let (base, later, begun, space, given) = c.requires.exploring in
    let e = exploring-at c.args.self.now.problem.now c.args.self.now.matrix.now base c.args.self.now.limit c.args.store.now.store c.args.work.now.tree.steps.items c.args.work.now.tree.goals.items c.args.points.now.items ((take (c.len-below.result - 1) c.args.points.now.items) ++ c.index_mut-point.result.now ∷ []) later begun c.args.ledger.now.used c.args.left.now ends given in
    let t = tried-at c.args.self.now.problem.now c.args.self.now.matrix.now base c.args.self.now.limit c.args.store.now.store c.return_to.new.store.store c.args.work.now.tree.steps.items c.is_found_irregular.new.self.tree.steps.items c.args.work.now.tree.goals.items c.is_found_irregular.new.self.tree.goals.items (take (c.len-below.result - 1) c.args.points.now.items) c.index_mut-point.result.now c.next_choice.new.point later begun c.args.ledger.now.used c.args.left.now _ c.in-Some.choice c.return_to.ensures.store (ap (λ (t : Tree). t.steps.items) c.is_found_irregular.ensures.tree ∙ c.return_to.ensures.steps) (ap (λ (t : Tree). t.goals.items) c.is_found_irregular.ensures.tree ∙ c.return_to.ensures.goals) c.in_ok-choice.ensures.same space.matrix (c.in_ok-choice.ensures.next c.args.self.now.problem.now) c.in-Some.is e in
    (c.args.self.now.problem.now, base, c.args.self.now.limit, t.choices, t.at_goal, space.matrix, t.at, t.move)

pub returns-in_err-made-clause-counted : goal.returns-in_err-made-clause-counted
returns-in_err-made-clause-counted c =
    λ base later begun space e.
    counted c.args.self.now.problem.now c.args.self.now.limit (e.pending ++ later) begun c.args.ledger.now.used c.args.left.now e.searched

pub returns-in_err-made-clause-moment : goal.returns-in_err-made-clause-moment
returns-in_err-made-clause-moment c =
    let ends : c.args.points.now.items ≡ (take (c.len-below.result - 1) c.args.points.now.items) ++ c.index_mut-point.result.now ∷ [] = last-read c.args.points.now.items c.len-below.result c.index_mut-point.result.now (let n = c.len-below.ensures in let k = c.args.points.now.ok.0 in omega (arith, n, k)) (let n = c.len-below.ensures in let k = c.args.points.now.ok.0 in let s = c.requires.some in omega (arith, n, k, s)) c.index_mut-point.ensures.value in
    λ k g given.
    let a = subst (AreAbove k) ends given in
    moment-kept k (take (c.len-below.result - 1) c.args.points.now.items) c.index_mut-point.result.now c.args.store.now.store c.return_to.new.store.store c.make.new.store.store g a c.return_to.ensures.marks c.make.ensures.marks

pub returns-in_err-made-clause-room : goal.returns-in_err-made-clause-room
returns-in_err-made-clause-room c =
    room-both c.args.store.now c.return_to.new.store c.make.new.store c.return_to.ensures.room c.make.ensures.room

pub returns-then-not-made-clause-on : goal.returns-then-not-made-clause-on
returns-then-not-made-clause-on c =
    let ends : c.args.points.now.items ≡ (take (c.len-below.result - 1) c.args.points.now.items) ++ c.index_mut-point.result.now ∷ [] = last-read c.args.points.now.items c.len-below.result c.index_mut-point.result.now (let n = c.len-below.ensures in let k = c.args.points.now.ok.0 in omega (arith, n, k)) (let n = c.len-below.ensures in let k = c.args.points.now.ok.0 in let s = c.requires.some in omega (arith, n, k, s)) c.index_mut-point.ensures.value in
    let changed : slice_set c.args.points.now.items (c.len-below.result - 1) c.see.new.self ≡ (take (c.len-below.result - 1) c.args.points.now.items) ++ c.see.new.self ∷ [] = set-end c.args.points.now.items (c.len-below.result - 1) c.index_mut-point.result.now c.see.new.self ends (let n = c.len-below.ensures in let k = c.args.points.now.ok.0 in let s = c.requires.some in omega (arith, n, k, s)) in
    λ base later begun space given.
    let e = exploring-at c.args.self.now.problem.now c.args.self.now.matrix.now base c.args.self.now.limit c.args.store.now.store c.args.work.now.tree.steps.items c.args.work.now.tree.goals.items c.args.points.now.items ((take (c.len-below.result - 1) c.args.points.now.items) ++ c.index_mut-point.result.now ∷ []) later begun c.args.ledger.now.used c.args.left.now ends given in
    let t = tried-at c.args.self.now.problem.now c.args.self.now.matrix.now base c.args.self.now.limit c.args.store.now.store c.return_to.new.store.store c.args.work.now.tree.steps.items c.is_found_irregular.new.self.tree.steps.items c.args.work.now.tree.goals.items c.is_found_irregular.new.self.tree.goals.items (take (c.len-below.result - 1) c.args.points.now.items) c.index_mut-point.result.now c.next_choice.new.point later begun c.args.ledger.now.used c.args.left.now _ c.in-Some.choice c.return_to.ensures.store (ap (λ (t : Tree). t.steps.items) c.is_found_irregular.ensures.tree ∙ c.return_to.ensures.steps) (ap (λ (t : Tree). t.goals.items) c.is_found_irregular.ensures.tree ∙ c.return_to.ensures.goals) c.in_ok-choice.ensures.same space.matrix (c.in_ok-choice.ensures.next c.args.self.now.problem.now) c.in-Some.is e in
    let looks = looks-ahead c.limit_ahead-ahead.result c.args.self.now.limit c.args.left.now c.limit_ahead-ahead.ensures in
    trying-refused c.args.self.now.problem.now c.args.self.now.matrix.now base c.args.self.now.limit c.return_to.new.store.store c.make.new.store c.is_found_irregular.new.self.tree.steps.items c.is_found_irregular.new.self.tree.goals.items c.make.new.self.tree (take (c.len-below.result - 1) c.args.points.now.items) (slice_set c.args.points.now.items (c.len-below.result - 1) c.see.new.self) c.next_choice.new.point later begun c.args.ledger.now.used c.args.left.now c.in-Some.choice c.limit_ahead-ahead.result t c.make.ensures.marks c.in_ok-made.ensures.kept c.limit_ahead-ahead.ensures (c.in_ok-made.ensures.refused c.if-not-made.true c.args.self.now.problem.now base c.args.self.now.limit t.choices t.at_goal space.matrix t.at t.move looks) (c.in_ok-made.ensures.given_up c.if-not-made.true c.args.self.now.problem.now base c.args.self.now.limit t.choices t.at_goal space.matrix t.at t.move looks) (steps-here c.args.self.now.problem.now c.args.self.now.matrix.now base c.args.self.now.limit c.args.store.now.store c.return_to.new.store.store c.args.work.now.tree.steps.items c.is_found_irregular.new.self.tree.steps.items c.args.work.now.tree.goals.items c.is_found_irregular.new.self.tree.goals.items (take (c.len-below.result - 1) c.args.points.now.items) c.index_mut-point.result.now c.next_choice.new.point later begun c.args.ledger.now.used c.args.left.now c.return_to.ensures.store (ap (λ (t : Tree). t.steps.items) c.is_found_irregular.ensures.tree ∙ c.return_to.ensures.steps) (ap (λ (t : Tree). t.goals.items) c.is_found_irregular.ensures.tree ∙ c.return_to.ensures.goals) c.in_ok-choice.ensures.same e) (is-pushed (seen_after c.next_choice.new.point.steps (length c.make.new.self.tree.steps.items) c.make.new.self.tree.open) c.seen-first.result c.next_choice.new.point c.see.new.self (take (c.len-below.result - 1) c.args.points.now.items) (slice_set c.args.points.now.items (c.len-below.result - 1) c.see.new.self) changed c.see.ensures c.seen-first.ensures)

pub returns-then-not-made-clause-counted : goal.returns-then-not-made-clause-counted
returns-then-not-made-clause-counted c =
    λ base later begun space e.
    counted c.args.self.now.problem.now c.args.self.now.limit (e.pending ++ later) begun c.args.ledger.now.used c.args.left.now e.searched

pub returns-then-not-made-clause-falls : goal.returns-then-not-made-clause-falls
returns-then-not-made-clause-falls c =
    let ends : c.args.points.now.items ≡ (take (c.len-below.result - 1) c.args.points.now.items) ++ c.index_mut-point.result.now ∷ [] = last-read c.args.points.now.items c.len-below.result c.index_mut-point.result.now (let n = c.len-below.ensures in let k = c.args.points.now.ok.0 in omega (arith, n, k)) (let n = c.len-below.ensures in let k = c.args.points.now.ok.0 in let s = c.requires.some in omega (arith, n, k, s)) c.index_mut-point.ensures.value in
    let changed : slice_set c.args.points.now.items (c.len-below.result - 1) c.see.new.self ≡ (take (c.len-below.result - 1) c.args.points.now.items) ++ c.see.new.self ∷ [] = set-end c.args.points.now.items (c.len-below.result - 1) c.index_mut-point.result.now c.see.new.self ends (let n = c.len-below.ensures in let k = c.args.points.now.ok.0 in let s = c.requires.some in omega (arith, n, k, s)) in
    subst (λ ps. work_left c.args.ledger.now.budget c.args.ledger.now.used (slice_set c.args.points.now.items (c.len-below.result - 1) c.see.new.self) < work_left c.args.ledger.now.budget c.args.ledger.now.used ps) (sym ends) (subst (λ ps. work_left c.args.ledger.now.budget c.args.ledger.now.used ps < work_left c.args.ledger.now.budget c.args.ledger.now.used ((take (c.len-below.result - 1) c.args.points.now.items) ++ c.index_mut-point.result.now ∷ [])) (sym changed) (next-falls c.args.ledger.now.budget c.args.ledger.now.used (take (c.len-below.result - 1) c.args.points.now.items) c.index_mut-point.result.now c.see.new.self (lighter-seen c.index_mut-point.result.now c.next_choice.new.point c.see.new.self c.seen-first.result c.see.ensures (lighter-some c.index_mut-point.result.now c.next_choice.new.point _ c.in-Some.choice c.in_ok-choice.ensures.falls c.in-Some.is))))

pub returns-then-not-made-clause-above : goal.returns-then-not-made-clause-above
returns-then-not-made-clause-above c =
    let ends : c.args.points.now.items ≡ (take (c.len-below.result - 1) c.args.points.now.items) ++ c.index_mut-point.result.now ∷ [] = last-read c.args.points.now.items c.len-below.result c.index_mut-point.result.now (let n = c.len-below.ensures in let k = c.args.points.now.ok.0 in omega (arith, n, k)) (let n = c.len-below.ensures in let k = c.args.points.now.ok.0 in let s = c.requires.some in omega (arith, n, k, s)) c.index_mut-point.ensures.value in
    let changed : slice_set c.args.points.now.items (c.len-below.result - 1) c.see.new.self ≡ (take (c.len-below.result - 1) c.args.points.now.items) ++ c.see.new.self ∷ [] = set-end c.args.points.now.items (c.len-below.result - 1) c.index_mut-point.result.now c.see.new.self ends (let n = c.len-below.ensures in let k = c.args.points.now.ok.0 in let s = c.requires.some in omega (arith, n, k, s)) in
    λ k g given.
    let a = subst (AreAbove k) ends given in
    subst (λ ps. AreAbove k ps) (sym changed) (above-marked k (take (c.len-below.result - 1) c.args.points.now.items) c.index_mut-point.result.now c.see.new.self (ap (λ (x : Point). x.mark) c.see.ensures ∙ c.in_ok-choice.ensures.same.mark) a)

pub returns-then-not-made-clause-moment : goal.returns-then-not-made-clause-moment
returns-then-not-made-clause-moment c =
    let ends : c.args.points.now.items ≡ (take (c.len-below.result - 1) c.args.points.now.items) ++ c.index_mut-point.result.now ∷ [] = last-read c.args.points.now.items c.len-below.result c.index_mut-point.result.now (let n = c.len-below.ensures in let k = c.args.points.now.ok.0 in omega (arith, n, k)) (let n = c.len-below.ensures in let k = c.args.points.now.ok.0 in let s = c.requires.some in omega (arith, n, k, s)) c.index_mut-point.ensures.value in
    λ k g given.
    let a = subst (AreAbove k) ends given in
    moment-kept k (take (c.len-below.result - 1) c.args.points.now.items) c.index_mut-point.result.now c.args.store.now.store c.return_to.new.store.store c.make.new.store.store g a c.return_to.ensures.marks c.make.ensures.marks

pub returns-then-not-made-clause-room : goal.returns-then-not-made-clause-room
returns-then-not-made-clause-room c =
    room-both c.args.store.now c.return_to.new.store c.make.new.store c.return_to.ensures.room c.make.ensures.room

pub visit-requires-clause-visiting : goal.visit-requires-clause-visiting
visit-requires-clause-visiting c =
    let ends : c.args.points.now.items ≡ (take (c.len-below.result - 1) c.args.points.now.items) ++ c.index_mut-point.result.now ∷ [] = last-read c.args.points.now.items c.len-below.result c.index_mut-point.result.now (let n = c.len-below.ensures in let k = c.args.points.now.ok.0 in omega (arith, n, k)) (let n = c.len-below.ensures in let k = c.args.points.now.ok.0 in let s = c.requires.some in omega (arith, n, k, s)) c.index_mut-point.ensures.value in
    let changed : slice_set c.args.points.now.items (c.len-below.result - 1) c.see.new.self ≡ (take (c.len-below.result - 1) c.args.points.now.items) ++ c.see.new.self ∷ [] = set-end c.args.points.now.items (c.len-below.result - 1) c.index_mut-point.result.now c.see.new.self ends (let n = c.len-below.ensures in let k = c.args.points.now.ok.0 in let s = c.requires.some in omega (arith, n, k, s)) in
    let (base, later, begun, space, given) = c.requires.exploring in
    let e = exploring-at c.args.self.now.problem.now c.args.self.now.matrix.now base c.args.self.now.limit c.args.store.now.store c.args.work.now.tree.steps.items c.args.work.now.tree.goals.items c.args.points.now.items ((take (c.len-below.result - 1) c.args.points.now.items) ++ c.index_mut-point.result.now ∷ []) later begun c.args.ledger.now.used c.args.left.now ends given in
    let t = tried-at c.args.self.now.problem.now c.args.self.now.matrix.now base c.args.self.now.limit c.args.store.now.store c.return_to.new.store.store c.args.work.now.tree.steps.items c.is_found_irregular.new.self.tree.steps.items c.args.work.now.tree.goals.items c.is_found_irregular.new.self.tree.goals.items (take (c.len-below.result - 1) c.args.points.now.items) c.index_mut-point.result.now c.next_choice.new.point later begun c.args.ledger.now.used c.args.left.now _ c.in-Some.choice c.return_to.ensures.store (ap (λ (t : Tree). t.steps.items) c.is_found_irregular.ensures.tree ∙ c.return_to.ensures.steps) (ap (λ (t : Tree). t.goals.items) c.is_found_irregular.ensures.tree ∙ c.return_to.ensures.goals) c.in_ok-choice.ensures.same space.matrix (c.in_ok-choice.ensures.next c.args.self.now.problem.now) c.in-Some.is e in
    (base, later, begun, space, trying-made c.args.self.now.problem.now c.args.self.now.matrix.now base c.args.self.now.limit c.return_to.new.store.store c.make.new.store.store c.is_found_irregular.new.self.tree.steps.items c.make.new.self.tree.steps.items c.is_found_irregular.new.self.tree.goals.items c.make.new.self.tree.goals.items c.make.new.self.tree.open (take (c.len-below.result - 1) c.args.points.now.items) (slice_set c.args.points.now.items (c.len-below.result - 1) c.see.new.self) c.next_choice.new.point later begun c.args.ledger.now.used c.args.left.now c.in-Some.choice t c.make.ensures.marks c.in_ok-made.ensures.kept (c.in_ok-made.ensures.made c.if-not-made.false c.args.self.now.problem.now base c.args.self.now.limit t.choices t.at_goal space.matrix t.at t.move) (steps-here c.args.self.now.problem.now c.args.self.now.matrix.now base c.args.self.now.limit c.args.store.now.store c.return_to.new.store.store c.args.work.now.tree.steps.items c.is_found_irregular.new.self.tree.steps.items c.args.work.now.tree.goals.items c.is_found_irregular.new.self.tree.goals.items (take (c.len-below.result - 1) c.args.points.now.items) c.index_mut-point.result.now c.next_choice.new.point later begun c.args.ledger.now.used c.args.left.now c.return_to.ensures.store (ap (λ (t : Tree). t.steps.items) c.is_found_irregular.ensures.tree ∙ c.return_to.ensures.steps) (ap (λ (t : Tree). t.goals.items) c.is_found_irregular.ensures.tree ∙ c.return_to.ensures.goals) c.in_ok-choice.ensures.same e) (is-pushed (seen_after c.next_choice.new.point.steps (length c.make.new.self.tree.steps.items) c.make.new.self.tree.open) c.seen-first.result c.next_choice.new.point c.see.new.self (take (c.len-below.result - 1) c.args.points.now.items) (slice_set c.args.points.now.items (c.len-below.result - 1) c.see.new.self) changed c.see.ensures c.seen-first.ensures))

pub returns-in_err-visit-clause-counted : goal.returns-in_err-visit-clause-counted
returns-in_err-visit-clause-counted c =
    let ends : c.args.points.now.items ≡ (take (c.len-below.result - 1) c.args.points.now.items) ++ c.index_mut-point.result.now ∷ [] = last-read c.args.points.now.items c.len-below.result c.index_mut-point.result.now (let n = c.len-below.ensures in let k = c.args.points.now.ok.0 in omega (arith, n, k)) (let n = c.len-below.ensures in let k = c.args.points.now.ok.0 in let s = c.requires.some in omega (arith, n, k, s)) c.index_mut-point.ensures.value in
    let changed : slice_set c.args.points.now.items (c.len-below.result - 1) c.see.new.self ≡ (take (c.len-below.result - 1) c.args.points.now.items) ++ c.see.new.self ∷ [] = set-end c.args.points.now.items (c.len-below.result - 1) c.index_mut-point.result.now c.see.new.self ends (let n = c.len-below.ensures in let k = c.args.points.now.ok.0 in let s = c.requires.some in omega (arith, n, k, s)) in
    λ base later begun space given.
    let e = exploring-at c.args.self.now.problem.now c.args.self.now.matrix.now base c.args.self.now.limit c.args.store.now.store c.args.work.now.tree.steps.items c.args.work.now.tree.goals.items c.args.points.now.items ((take (c.len-below.result - 1) c.args.points.now.items) ++ c.index_mut-point.result.now ∷ []) later begun c.args.ledger.now.used c.args.left.now ends given in
    let t = tried-at c.args.self.now.problem.now c.args.self.now.matrix.now base c.args.self.now.limit c.args.store.now.store c.return_to.new.store.store c.args.work.now.tree.steps.items c.is_found_irregular.new.self.tree.steps.items c.args.work.now.tree.goals.items c.is_found_irregular.new.self.tree.goals.items (take (c.len-below.result - 1) c.args.points.now.items) c.index_mut-point.result.now c.next_choice.new.point later begun c.args.ledger.now.used c.args.left.now _ c.in-Some.choice c.return_to.ensures.store (ap (λ (t : Tree). t.steps.items) c.is_found_irregular.ensures.tree ∙ c.return_to.ensures.steps) (ap (λ (t : Tree). t.goals.items) c.is_found_irregular.ensures.tree ∙ c.return_to.ensures.goals) c.in_ok-choice.ensures.same space.matrix (c.in_ok-choice.ensures.next c.args.self.now.problem.now) c.in-Some.is e in
    c.visit.ensures.counted base later begun space (trying-made c.args.self.now.problem.now c.args.self.now.matrix.now base c.args.self.now.limit c.return_to.new.store.store c.make.new.store.store c.is_found_irregular.new.self.tree.steps.items c.make.new.self.tree.steps.items c.is_found_irregular.new.self.tree.goals.items c.make.new.self.tree.goals.items c.make.new.self.tree.open (take (c.len-below.result - 1) c.args.points.now.items) (slice_set c.args.points.now.items (c.len-below.result - 1) c.see.new.self) c.next_choice.new.point later begun c.args.ledger.now.used c.args.left.now c.in-Some.choice t c.make.ensures.marks c.in_ok-made.ensures.kept (c.in_ok-made.ensures.made c.if-not-made.false c.args.self.now.problem.now base c.args.self.now.limit t.choices t.at_goal space.matrix t.at t.move) (steps-here c.args.self.now.problem.now c.args.self.now.matrix.now base c.args.self.now.limit c.args.store.now.store c.return_to.new.store.store c.args.work.now.tree.steps.items c.is_found_irregular.new.self.tree.steps.items c.args.work.now.tree.goals.items c.is_found_irregular.new.self.tree.goals.items (take (c.len-below.result - 1) c.args.points.now.items) c.index_mut-point.result.now c.next_choice.new.point later begun c.args.ledger.now.used c.args.left.now c.return_to.ensures.store (ap (λ (t : Tree). t.steps.items) c.is_found_irregular.ensures.tree ∙ c.return_to.ensures.steps) (ap (λ (t : Tree). t.goals.items) c.is_found_irregular.ensures.tree ∙ c.return_to.ensures.goals) c.in_ok-choice.ensures.same e) (is-pushed (seen_after c.next_choice.new.point.steps (length c.make.new.self.tree.steps.items) c.make.new.self.tree.open) c.seen-first.result c.next_choice.new.point c.see.new.self (take (c.len-below.result - 1) c.args.points.now.items) (slice_set c.args.points.now.items (c.len-below.result - 1) c.see.new.self) changed c.see.ensures c.seen-first.ensures))

pub returns-in_err-visit-clause-budget : goal.returns-in_err-visit-clause-budget
returns-in_err-visit-clause-budget c =
    c.visit.ensures.budget

pub returns-in_err-visit-clause-moment : goal.returns-in_err-visit-clause-moment
returns-in_err-visit-clause-moment c =
    let ends : c.args.points.now.items ≡ (take (c.len-below.result - 1) c.args.points.now.items) ++ c.index_mut-point.result.now ∷ [] = last-read c.args.points.now.items c.len-below.result c.index_mut-point.result.now (let n = c.len-below.ensures in let k = c.args.points.now.ok.0 in omega (arith, n, k)) (let n = c.len-below.ensures in let k = c.args.points.now.ok.0 in let s = c.requires.some in omega (arith, n, k, s)) c.index_mut-point.ensures.value in
    λ k g given.
    let a = subst (AreAbove k) ends given in
    let m = moment-kept k (take (c.len-below.result - 1) c.args.points.now.items) c.index_mut-point.result.now c.args.store.now.store c.return_to.new.store.store c.make.new.store.store g a c.return_to.ensures.marks c.make.ensures.marks in
    moment-both k c.args.store.now.store c.make.new.store.store c.visit.new.store.store m (c.visit.ensures.marks k m.0)

pub returns-in_err-visit-clause-room : goal.returns-in_err-visit-clause-room
returns-in_err-visit-clause-room c =
    room-both c.args.store.now c.make.new.store c.visit.new.store (room-both c.args.store.now c.return_to.new.store c.make.new.store c.return_to.ensures.room c.make.ensures.room) c.visit.ensures.room

pub returns-clause-on : goal.returns-clause-on
returns-clause-on c =
    let ends : c.args.points.now.items ≡ (take (c.len-below.result - 1) c.args.points.now.items) ++ c.index_mut-point.result.now ∷ [] = last-read c.args.points.now.items c.len-below.result c.index_mut-point.result.now (let n = c.len-below.ensures in let k = c.args.points.now.ok.0 in omega (arith, n, k)) (let n = c.len-below.ensures in let k = c.args.points.now.ok.0 in let s = c.requires.some in omega (arith, n, k, s)) c.index_mut-point.ensures.value in
    let changed : slice_set c.args.points.now.items (c.len-below.result - 1) c.see.new.self ≡ (take (c.len-below.result - 1) c.args.points.now.items) ++ c.see.new.self ∷ [] = set-end c.args.points.now.items (c.len-below.result - 1) c.index_mut-point.result.now c.see.new.self ends (let n = c.len-below.ensures in let k = c.args.points.now.ok.0 in let s = c.requires.some in omega (arith, n, k, s)) in
    if_on _ _ ((base : ℕ) (later : List (List Choice)) (begun : ℕ) → IsSpace c.args.self.now.problem.now c.args.self.now.matrix.now c.args.self.now.limit → IsExploring c.args.self.now.problem.now c.args.self.now.matrix.now base c.args.self.now.limit c.args.store.now.store c.args.work.now.tree.steps.items c.args.work.now.tree.goals.items c.args.points.now.items later begun c.args.ledger.now.used c.args.left.now → IsExploring c.args.self.now.problem.now c.args.self.now.matrix.now base c.args.self.now.limit c.visit.new.store.store c.visit.new.work.tree.steps.items c.visit.new.work.tree.goals.items c.visit.new.points.items later begun c.visit.new.ledger.used c.visit.new.left) c.in_ok-visit.ensures.on (λ f base later begun space given.
    let e = exploring-at c.args.self.now.problem.now c.args.self.now.matrix.now base c.args.self.now.limit c.args.store.now.store c.args.work.now.tree.steps.items c.args.work.now.tree.goals.items c.args.points.now.items ((take (c.len-below.result - 1) c.args.points.now.items) ++ c.index_mut-point.result.now ∷ []) later begun c.args.ledger.now.used c.args.left.now ends given in
    let t = tried-at c.args.self.now.problem.now c.args.self.now.matrix.now base c.args.self.now.limit c.args.store.now.store c.return_to.new.store.store c.args.work.now.tree.steps.items c.is_found_irregular.new.self.tree.steps.items c.args.work.now.tree.goals.items c.is_found_irregular.new.self.tree.goals.items (take (c.len-below.result - 1) c.args.points.now.items) c.index_mut-point.result.now c.next_choice.new.point later begun c.args.ledger.now.used c.args.left.now _ c.in-Some.choice c.return_to.ensures.store (ap (λ (t : Tree). t.steps.items) c.is_found_irregular.ensures.tree ∙ c.return_to.ensures.steps) (ap (λ (t : Tree). t.goals.items) c.is_found_irregular.ensures.tree ∙ c.return_to.ensures.goals) c.in_ok-choice.ensures.same space.matrix (c.in_ok-choice.ensures.next c.args.self.now.problem.now) c.in-Some.is e in
    f base later begun space (trying-made c.args.self.now.problem.now c.args.self.now.matrix.now base c.args.self.now.limit c.return_to.new.store.store c.make.new.store.store c.is_found_irregular.new.self.tree.steps.items c.make.new.self.tree.steps.items c.is_found_irregular.new.self.tree.goals.items c.make.new.self.tree.goals.items c.make.new.self.tree.open (take (c.len-below.result - 1) c.args.points.now.items) (slice_set c.args.points.now.items (c.len-below.result - 1) c.see.new.self) c.next_choice.new.point later begun c.args.ledger.now.used c.args.left.now c.in-Some.choice t c.make.ensures.marks c.in_ok-made.ensures.kept (c.in_ok-made.ensures.made c.if-not-made.false c.args.self.now.problem.now base c.args.self.now.limit t.choices t.at_goal space.matrix t.at t.move) (steps-here c.args.self.now.problem.now c.args.self.now.matrix.now base c.args.self.now.limit c.args.store.now.store c.return_to.new.store.store c.args.work.now.tree.steps.items c.is_found_irregular.new.self.tree.steps.items c.args.work.now.tree.goals.items c.is_found_irregular.new.self.tree.goals.items (take (c.len-below.result - 1) c.args.points.now.items) c.index_mut-point.result.now c.next_choice.new.point later begun c.args.ledger.now.used c.args.left.now c.return_to.ensures.store (ap (λ (t : Tree). t.steps.items) c.is_found_irregular.ensures.tree ∙ c.return_to.ensures.steps) (ap (λ (t : Tree). t.goals.items) c.is_found_irregular.ensures.tree ∙ c.return_to.ensures.goals) c.in_ok-choice.ensures.same e) (is-pushed (seen_after c.next_choice.new.point.steps (length c.make.new.self.tree.steps.items) c.make.new.self.tree.open) c.seen-first.result c.next_choice.new.point c.see.new.self (take (c.len-below.result - 1) c.args.points.now.items) (slice_set c.args.points.now.items (c.len-below.result - 1) c.see.new.self) changed c.see.ensures c.seen-first.ensures)))

pub returns-clause-end : goal.returns-clause-end
returns-clause-end c =
    let ends : c.args.points.now.items ≡ (take (c.len-below.result - 1) c.args.points.now.items) ++ c.index_mut-point.result.now ∷ [] = last-read c.args.points.now.items c.len-below.result c.index_mut-point.result.now (let n = c.len-below.ensures in let k = c.args.points.now.ok.0 in omega (arith, n, k)) (let n = c.len-below.ensures in let k = c.args.points.now.ok.0 in let s = c.requires.some in omega (arith, n, k, s)) c.index_mut-point.ensures.value in
    let changed : slice_set c.args.points.now.items (c.len-below.result - 1) c.see.new.self ≡ (take (c.len-below.result - 1) c.args.points.now.items) ++ c.see.new.self ∷ [] = set-end c.args.points.now.items (c.len-below.result - 1) c.index_mut-point.result.now c.see.new.self ends (let n = c.len-below.ensures in let k = c.args.points.now.ok.0 in let s = c.requires.some in omega (arith, n, k, s)) in
    λ base later begun space given.
    let e = exploring-at c.args.self.now.problem.now c.args.self.now.matrix.now base c.args.self.now.limit c.args.store.now.store c.args.work.now.tree.steps.items c.args.work.now.tree.goals.items c.args.points.now.items ((take (c.len-below.result - 1) c.args.points.now.items) ++ c.index_mut-point.result.now ∷ []) later begun c.args.ledger.now.used c.args.left.now ends given in
    let t = tried-at c.args.self.now.problem.now c.args.self.now.matrix.now base c.args.self.now.limit c.args.store.now.store c.return_to.new.store.store c.args.work.now.tree.steps.items c.is_found_irregular.new.self.tree.steps.items c.args.work.now.tree.goals.items c.is_found_irregular.new.self.tree.goals.items (take (c.len-below.result - 1) c.args.points.now.items) c.index_mut-point.result.now c.next_choice.new.point later begun c.args.ledger.now.used c.args.left.now _ c.in-Some.choice c.return_to.ensures.store (ap (λ (t : Tree). t.steps.items) c.is_found_irregular.ensures.tree ∙ c.return_to.ensures.steps) (ap (λ (t : Tree). t.goals.items) c.is_found_irregular.ensures.tree ∙ c.return_to.ensures.goals) c.in_ok-choice.ensures.same space.matrix (c.in_ok-choice.ensures.next c.args.self.now.problem.now) c.in-Some.is e in
    c.in_ok-visit.ensures.end base later begun space (trying-made c.args.self.now.problem.now c.args.self.now.matrix.now base c.args.self.now.limit c.return_to.new.store.store c.make.new.store.store c.is_found_irregular.new.self.tree.steps.items c.make.new.self.tree.steps.items c.is_found_irregular.new.self.tree.goals.items c.make.new.self.tree.goals.items c.make.new.self.tree.open (take (c.len-below.result - 1) c.args.points.now.items) (slice_set c.args.points.now.items (c.len-below.result - 1) c.see.new.self) c.next_choice.new.point later begun c.args.ledger.now.used c.args.left.now c.in-Some.choice t c.make.ensures.marks c.in_ok-made.ensures.kept (c.in_ok-made.ensures.made c.if-not-made.false c.args.self.now.problem.now base c.args.self.now.limit t.choices t.at_goal space.matrix t.at t.move) (steps-here c.args.self.now.problem.now c.args.self.now.matrix.now base c.args.self.now.limit c.args.store.now.store c.return_to.new.store.store c.args.work.now.tree.steps.items c.is_found_irregular.new.self.tree.steps.items c.args.work.now.tree.goals.items c.is_found_irregular.new.self.tree.goals.items (take (c.len-below.result - 1) c.args.points.now.items) c.index_mut-point.result.now c.next_choice.new.point later begun c.args.ledger.now.used c.args.left.now c.return_to.ensures.store (ap (λ (t : Tree). t.steps.items) c.is_found_irregular.ensures.tree ∙ c.return_to.ensures.steps) (ap (λ (t : Tree). t.goals.items) c.is_found_irregular.ensures.tree ∙ c.return_to.ensures.goals) c.in_ok-choice.ensures.same e) (is-pushed (seen_after c.next_choice.new.point.steps (length c.make.new.self.tree.steps.items) c.make.new.self.tree.open) c.seen-first.result c.next_choice.new.point c.see.new.self (take (c.len-below.result - 1) c.args.points.now.items) (slice_set c.args.points.now.items (c.len-below.result - 1) c.see.new.self) changed c.see.ensures c.seen-first.ensures))

pub returns-clause-counted : goal.returns-clause-counted
returns-clause-counted c =
    let ends : c.args.points.now.items ≡ (take (c.len-below.result - 1) c.args.points.now.items) ++ c.index_mut-point.result.now ∷ [] = last-read c.args.points.now.items c.len-below.result c.index_mut-point.result.now (let n = c.len-below.ensures in let k = c.args.points.now.ok.0 in omega (arith, n, k)) (let n = c.len-below.ensures in let k = c.args.points.now.ok.0 in let s = c.requires.some in omega (arith, n, k, s)) c.index_mut-point.ensures.value in
    let changed : slice_set c.args.points.now.items (c.len-below.result - 1) c.see.new.self ≡ (take (c.len-below.result - 1) c.args.points.now.items) ++ c.see.new.self ∷ [] = set-end c.args.points.now.items (c.len-below.result - 1) c.index_mut-point.result.now c.see.new.self ends (let n = c.len-below.ensures in let k = c.args.points.now.ok.0 in let s = c.requires.some in omega (arith, n, k, s)) in
    λ base later begun space given.
    let e = exploring-at c.args.self.now.problem.now c.args.self.now.matrix.now base c.args.self.now.limit c.args.store.now.store c.args.work.now.tree.steps.items c.args.work.now.tree.goals.items c.args.points.now.items ((take (c.len-below.result - 1) c.args.points.now.items) ++ c.index_mut-point.result.now ∷ []) later begun c.args.ledger.now.used c.args.left.now ends given in
    let t = tried-at c.args.self.now.problem.now c.args.self.now.matrix.now base c.args.self.now.limit c.args.store.now.store c.return_to.new.store.store c.args.work.now.tree.steps.items c.is_found_irregular.new.self.tree.steps.items c.args.work.now.tree.goals.items c.is_found_irregular.new.self.tree.goals.items (take (c.len-below.result - 1) c.args.points.now.items) c.index_mut-point.result.now c.next_choice.new.point later begun c.args.ledger.now.used c.args.left.now _ c.in-Some.choice c.return_to.ensures.store (ap (λ (t : Tree). t.steps.items) c.is_found_irregular.ensures.tree ∙ c.return_to.ensures.steps) (ap (λ (t : Tree). t.goals.items) c.is_found_irregular.ensures.tree ∙ c.return_to.ensures.goals) c.in_ok-choice.ensures.same space.matrix (c.in_ok-choice.ensures.next c.args.self.now.problem.now) c.in-Some.is e in
    c.visit.ensures.counted base later begun space (trying-made c.args.self.now.problem.now c.args.self.now.matrix.now base c.args.self.now.limit c.return_to.new.store.store c.make.new.store.store c.is_found_irregular.new.self.tree.steps.items c.make.new.self.tree.steps.items c.is_found_irregular.new.self.tree.goals.items c.make.new.self.tree.goals.items c.make.new.self.tree.open (take (c.len-below.result - 1) c.args.points.now.items) (slice_set c.args.points.now.items (c.len-below.result - 1) c.see.new.self) c.next_choice.new.point later begun c.args.ledger.now.used c.args.left.now c.in-Some.choice t c.make.ensures.marks c.in_ok-made.ensures.kept (c.in_ok-made.ensures.made c.if-not-made.false c.args.self.now.problem.now base c.args.self.now.limit t.choices t.at_goal space.matrix t.at t.move) (steps-here c.args.self.now.problem.now c.args.self.now.matrix.now base c.args.self.now.limit c.args.store.now.store c.return_to.new.store.store c.args.work.now.tree.steps.items c.is_found_irregular.new.self.tree.steps.items c.args.work.now.tree.goals.items c.is_found_irregular.new.self.tree.goals.items (take (c.len-below.result - 1) c.args.points.now.items) c.index_mut-point.result.now c.next_choice.new.point later begun c.args.ledger.now.used c.args.left.now c.return_to.ensures.store (ap (λ (t : Tree). t.steps.items) c.is_found_irregular.ensures.tree ∙ c.return_to.ensures.steps) (ap (λ (t : Tree). t.goals.items) c.is_found_irregular.ensures.tree ∙ c.return_to.ensures.goals) c.in_ok-choice.ensures.same e) (is-pushed (seen_after c.next_choice.new.point.steps (length c.make.new.self.tree.steps.items) c.make.new.self.tree.open) c.seen-first.result c.next_choice.new.point c.see.new.self (take (c.len-below.result - 1) c.args.points.now.items) (slice_set c.args.points.now.items (c.len-below.result - 1) c.see.new.self) changed c.see.ensures c.seen-first.ensures))

pub returns-clause-budget : goal.returns-clause-budget
returns-clause-budget c =
    c.visit.ensures.budget

pub returns-clause-falls : goal.returns-clause-falls
returns-clause-falls c =
    let ends : c.args.points.now.items ≡ (take (c.len-below.result - 1) c.args.points.now.items) ++ c.index_mut-point.result.now ∷ [] = last-read c.args.points.now.items c.len-below.result c.index_mut-point.result.now (let n = c.len-below.ensures in let k = c.args.points.now.ok.0 in omega (arith, n, k)) (let n = c.len-below.ensures in let k = c.args.points.now.ok.0 in let s = c.requires.some in omega (arith, n, k, s)) c.index_mut-point.ensures.value in
    let changed : slice_set c.args.points.now.items (c.len-below.result - 1) c.see.new.self ≡ (take (c.len-below.result - 1) c.args.points.now.items) ++ c.see.new.self ∷ [] = set-end c.args.points.now.items (c.len-below.result - 1) c.index_mut-point.result.now c.see.new.self ends (let n = c.len-below.ensures in let k = c.args.points.now.ok.0 in let s = c.requires.some in omega (arith, n, k, s)) in
    if_on _ _ _ c.in_ok-visit.ensures.points (λ pushed.
    let l = c.visit.new.ledger.in_budget in
    let b = c.visit.ensures.budget in
    subst (λ ps. work_left c.args.ledger.now.budget c.visit.new.ledger.used c.visit.new.points.items < work_left c.args.ledger.now.budget c.args.ledger.now.used ps) (sym ends) (visit-falls c.args.ledger.now.budget c.args.ledger.now.used c.visit.new.ledger.used (take (c.len-below.result - 1) c.args.points.now.items) (slice_set c.args.points.now.items (c.len-below.result - 1) c.see.new.self) c.visit.new.points.items c.index_mut-point.result.now c.see.new.self pushed changed (omega (arith, l, b)) (lighter-seen c.index_mut-point.result.now c.next_choice.new.point c.see.new.self c.seen-first.result c.see.ensures (lighter-some c.index_mut-point.result.now c.next_choice.new.point _ c.in-Some.choice c.in_ok-choice.ensures.falls c.in-Some.is))))

pub returns-clause-above : goal.returns-clause-above
returns-clause-above c =
    let ends : c.args.points.now.items ≡ (take (c.len-below.result - 1) c.args.points.now.items) ++ c.index_mut-point.result.now ∷ [] = last-read c.args.points.now.items c.len-below.result c.index_mut-point.result.now (let n = c.len-below.ensures in let k = c.args.points.now.ok.0 in omega (arith, n, k)) (let n = c.len-below.ensures in let k = c.args.points.now.ok.0 in let s = c.requires.some in omega (arith, n, k, s)) c.index_mut-point.ensures.value in
    let changed : slice_set c.args.points.now.items (c.len-below.result - 1) c.see.new.self ≡ (take (c.len-below.result - 1) c.args.points.now.items) ++ c.see.new.self ∷ [] = set-end c.args.points.now.items (c.len-below.result - 1) c.index_mut-point.result.now c.see.new.self ends (let n = c.len-below.ensures in let k = c.args.points.now.ok.0 in let s = c.requires.some in omega (arith, n, k, s)) in
    λ k g given.
    let a = subst (AreAbove k) ends given in
    let m = moment-kept k (take (c.len-below.result - 1) c.args.points.now.items) c.index_mut-point.result.now c.args.store.now.store c.return_to.new.store.store c.make.new.store.store g a c.return_to.ensures.marks c.make.ensures.marks in
    c.in_ok-visit.ensures.above k m.0 (subst (λ ps. AreAbove k ps) (sym changed) (above-marked k (take (c.len-below.result - 1) c.args.points.now.items) c.index_mut-point.result.now c.see.new.self (ap (λ (x : Point). x.mark) c.see.ensures ∙ c.in_ok-choice.ensures.same.mark) a))

pub returns-clause-moment : goal.returns-clause-moment
returns-clause-moment c =
    let ends : c.args.points.now.items ≡ (take (c.len-below.result - 1) c.args.points.now.items) ++ c.index_mut-point.result.now ∷ [] = last-read c.args.points.now.items c.len-below.result c.index_mut-point.result.now (let n = c.len-below.ensures in let k = c.args.points.now.ok.0 in omega (arith, n, k)) (let n = c.len-below.ensures in let k = c.args.points.now.ok.0 in let s = c.requires.some in omega (arith, n, k, s)) c.index_mut-point.ensures.value in
    λ k g given.
    let a = subst (AreAbove k) ends given in
    let m = moment-kept k (take (c.len-below.result - 1) c.args.points.now.items) c.index_mut-point.result.now c.args.store.now.store c.return_to.new.store.store c.make.new.store.store g a c.return_to.ensures.marks c.make.ensures.marks in
    moment-both k c.args.store.now.store c.make.new.store.store c.visit.new.store.store m (c.visit.ensures.marks k m.0)

pub returns-clause-room : goal.returns-clause-room
returns-clause-room c =
    room-both c.args.store.now c.make.new.store c.visit.new.store (room-both c.args.store.now c.return_to.new.store c.make.new.store c.return_to.ensures.room c.make.ensures.room) c.visit.ensures.room
