use Rattle.std.proofs.Common.{◌≡◌, ◌∙◌, ◌++◌, ◌∷◌, [], ap, ap₂, map}
use Rattle.term_store.specs.RefView.{the_place}
use Rattle.domain_cond.proofs.HomeListLaws.{home-added}
use Rattle.domain_cond.proofs.homes.add_home.Goals as goal

pub returns-clause-added : goal.returns-clause-added
returns-clause-added c =
    let (p, rs, at) = c.requires.eigen in
    let ks = map the_place c.in_ok-home.home.items in
    let label = map the_place c.args.label.now in
    let left : c.in_ok-left.left ≡ ks = c.in_ok-left.ensures ∙ ap (map the_place) c.deref.ensures.value in
    let right : c.in_ok-right.right ≡ label = c.in_ok-right.ensures in
    let is = c.in_ok-push.ensures.ok ∙ ap₂ (λ l r. c.args.homes.now ++ record { home = l; label = r; is_whole = c.are_whole.result } ∷ []) left right in
    home-added c.args.problem.now c.args.store.now.store c.eigen_home.new.store.store c.args.eigen.0 p rs label ks c.are_whole.result c.args.homes.now c.push.new.self c.requires.not_constant c.are_whole.ensures at c.requires.label c.eigen_home.ensures.adds (c.in_ok-home.ensures.found p rs at) is
