use Rattle.std.proofs.Common.{◌≡◌, ◌++◌, map, drop}
use Rattle.calculus.specs.Lists.{terms_tree}
use Rattle.calculus.specs.Sizes.{term_size, term_list_size}
use Rattle.calculus.specs.Text.{args_text}
use Rattle.formula_core.specs.TermView.{the_term}
use Rattle.formula_text.specs.Extends.{Extends}
use Rattle.formula_text.specs.Rests.{rest_text}
use Rattle.formula_text.proofs.term.+append_term.Given as goal

abbrev pub decreases-append_args : goal.decreases-append_args
decreases-append_args l = term_list_size l.args.now

abbrev pub decreases-append_term : goal.decreases-append_term
decreases-append_term l = term_size (the_term l.t.now)

abbrev pub invariant-append_args-loop-item : goal.invariant-append_args-loop-item
invariant-append_args-loop-item l =
    (l.out.items ++ rest_text l.symbols l.depth l.first (terms_tree (map the_term (drop l.item-index l.item-items))) ≡ l.fn.out.items ++ args_text l.symbols l.depth (terms_tree l.args))
    × Extends l.fn.out.items l.out.items
