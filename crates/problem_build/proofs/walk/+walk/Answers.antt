use Rattle.std.proofs.Common.{rules, ◌≡◌, ◌∙◌, ◌-◌, suc, [], ◌∷◌, map, Ok, Err, IsTrue, sym, ap, subst, arith}
use Rattle.plain_laws.proofs.Lists.{no-items}
use Rattle.cop_base.proofs.ReadLaws.{reads_parts, reads_then}
use Rattle.tptp_reader.specs.ItemView.{the_item}
use Rattle.tptp_reader.specs.Sources as tree
use Rattle.problem_build.specs.declared.fault.BuildFault.TheVariants.{Failed}
use Rattle.problem_build.specs.Fetching.{ReadsOnly}
use Rattle.problem_build.specs.Passing.{item_passes}
use Rattle.problem_build.specs.Walk.{names_of, walked}
use Rattle.problem_build.specs.Walking.{EndsIn, GoesOn, file_outcomes, items_outcomes, lists_of, pending_items, progress_of}
use Rattle.problem_build.proofs.FetchingLaws.{only-both, only-wider}
use Rattle.problem_build.proofs.FileLaws.{failed-ends}
use Rattle.problem_build.proofs.IncludeLaws.{file-included, left-reached, left-selected}
use Rattle.problem_build.proofs.NameSetLaws.{one-entered}
use Rattle.problem_build.proofs.StepLaws.{led, popped-pass, step-ends, step-goes, stopped, turns-end}
use Rattle.problem_build.proofs.WalkLaws.{goes-ends, goes-goes, include-absent, include-ends, include-goes}
use Rattle.problem_build.proofs.walk.+walk.Goals as goal

-- ---- files

pub walk_file-returns-in_err-items-clause-leads : goal.walk_file-returns-in_err-items-clause-leads
walk_file-returns-in_err-items-clause-leads g t c =
    let walk = c.args.walk.now in
    λ files w. let h = c.in_err-items.ensures.reading files w in λ read x.
    led (file_outcomes read files c.args.rules.now.root c.args.name.now c.args.depth (lists_of walk) (progress_of walk)) c.read_file.new.walk c.from_residual.result c.in_err-items.field-0.0 c.from_residual.ensures.1
    (h read x c.args.rules.now.root c.args.depth (lists_of walk))

pub walk_file-returns-in_err-reached-clause-leads : goal.walk_file-returns-in_err-reached-clause-leads
walk_file-returns-in_err-reached-clause-leads g t c =
    let walk = c.args.walk.now in
    let opened = c.read_file.new.walk in
    let y = c.in_err-reached.field-0.0 in
    let items = pending_items c.in_ok-items.items.items in
    λ files w. let p = reads_parts c.in_ok-items.ensures.reads_on c.in_err-reached.ensures.reads_on w in let h = c.in_ok-items.ensures.reading files p.0 in let k = c.in_err-reached.ensures.leads files p.1 in λ read x.
    led (file_outcomes read files c.args.rules.now.root c.args.name.now c.args.depth (lists_of walk) (progress_of walk)) c.walk_items.new.walk c.from_residual-in_err-reached.result y c.from_residual-in_err-reached.ensures.1
    (goes-ends (file_outcomes read files c.args.rules.now.root c.args.name.now c.args.depth (lists_of walk) (progress_of walk)) (items_outcomes read files c.args.rules.now.root c.args.name.now c.args.depth (lists_of walk) items (progress_of opened) [])
    (h read x c.args.rules.now.root c.args.depth (lists_of walk)) y
    (subst (λ ls. EndsIn (items_outcomes read files c.args.rules.now.root c.args.name.now c.args.depth (map names_of ls) items (progress_of opened) []) y) c.in_ok-items.ensures.kept (k read x)))

pub walk_file-returns-clause-leads : goal.walk_file-returns-clause-leads
walk_file-returns-clause-leads g t c =
    let walk = c.args.walk.now in
    let opened = c.read_file.new.walk in
    let after = c.walk_items.new.walk in
    let items = pending_items c.in_ok-items.items.items in
    let reached = c.in_ok-reached.reached.items in
    λ files w. let p = reads_parts c.in_ok-items.ensures.reads_on c.in_ok-reached.ensures.reads_on w in let h = c.in_ok-items.ensures.reading files p.0 in let k = c.in_ok-reached.ensures.leads files p.1 in λ read x.
    goes-goes (file_outcomes read files c.args.rules.now.root c.args.name.now c.args.depth (lists_of walk) (progress_of walk)) (items_outcomes read files c.args.rules.now.root c.args.name.now c.args.depth (lists_of walk) items (progress_of opened) [])
    (λ _. Ok (walked (progress_of after) reached)) (h read x c.args.rules.now.root c.args.depth (lists_of walk))
    (subst (λ ls. GoesOn (items_outcomes read files c.args.rules.now.root c.args.name.now c.args.depth (map names_of ls) items (progress_of opened) []) (λ _. Ok (walked (progress_of after) reached))) c.in_ok-items.ensures.kept (k read x))

-- ---- includes

pub walk_include-leave-requires : goal.walk_include-leave-requires
walk_include-leave-requires g t c = record {
  entered = one-entered c.args.names c.in_ok-is_list.is_list c.args.walk.now.lists.items c.walk_file.new.walk.lists.items c.in_ok-is_list.ensures.told
      (c.in_ok-inner.ensures.kept ∙ c.in_ok-is_list.ensures.entered);
}

pub walk_include-returns-in_err-inner-clause-steps : goal.walk_include-returns-in_err-inner-clause-steps
walk_include-returns-in_err-inner-clause-steps g t c =
    let walk = c.args.walk.now in
    let y = c.in_err-inner.field-0.0 in
    let deep : c.args.depth ≡ suc (c.args.depth - 1) = omega (arith, c.if-depth-eq0.false) in
    λ files w. let h = c.in_err-inner.ensures.leads files w in λ read x rest.
    stopped (items_outcomes read files c.args.rules.now.root c.args.file.now c.args.depth (lists_of walk) (tree.include c.args.included c.args.names c.args.start ∷ rest) (progress_of walk) c.args.reached.now.items)
    (items_outcomes read files c.args.rules.now.root c.args.file.now c.args.depth (lists_of walk) rest (progress_of c.walk_file.new.walk) c.args.reached.now.items)
    c.from_residual-in_err-inner.result y c.from_residual-in_err-inner.ensures.1
    (include-ends read files c.args.rules.now.root c.args.file.now (c.args.depth - 1) c.args.depth (lists_of walk) c.args.included c.args.names c.args.start rest (progress_of walk) c.args.reached.now.items deep y
    (file-included (λ o. EndsIn o y) read files c.args.rules.now.root c.args.included c.in_ok-fetched.fetched (c.args.depth - 1) c.args.names walk.lists.items c.enter.new.lists.items (progress_of walk)
    c.in_ok-fetched.ensures c.in_ok-is_list.ensures.entered (h read x)))

pub walk_include-returns-in_err-leave-clause-steps : goal.walk_include-returns-in_err-leave-clause-steps
walk_include-returns-in_err-leave-clause-steps g t c =
    let walk = c.args.walk.now in
    let entered = c.enter.new.lists.items in
    let inner = c.in_ok-inner.inner.items in
    let after = c.walk_file.new.walk in
    let y = c.in_err-leave.field-0.0 in
    let deep : c.args.depth ≡ suc (c.args.depth - 1) = omega (arith, c.if-depth-eq0.false) in
    λ files w. let h = c.in_ok-inner.ensures.leads files w in λ read x rest.
    stopped (items_outcomes read files c.args.rules.now.root c.args.file.now c.args.depth (lists_of walk) (tree.include c.args.included c.args.names c.args.start ∷ rest) (progress_of walk) c.args.reached.now.items)
    (items_outcomes read files c.args.rules.now.root c.args.file.now c.args.depth (lists_of walk) rest (progress_of after) c.leave.new.reached.items)
    c.from_residual-in_err-leave.result y c.from_residual-in_err-leave.ensures.1
    (include-absent read files c.args.rules.now.root c.args.file.now (c.args.depth - 1) c.args.depth (lists_of walk) c.args.included c.args.names c.args.start rest (progress_of walk) c.args.reached.now.items (walked (progress_of after) inner) deep
    (file-included (λ o. GoesOn o (λ _. Ok (walked (progress_of after) inner))) read files c.args.rules.now.root c.args.included c.in_ok-fetched.fetched (c.args.depth - 1) c.args.names walk.lists.items entered (progress_of walk)
    c.in_ok-fetched.ensures c.in_ok-is_list.ensures.entered (h read x))
    y c.in_err-leave.ensures.inside
    (left-selected {A = Unit {0}} (Err y) c.args.file.now c.args.names c.in_ok-is_list.is_list walk.lists.items after.lists.items inner c.in_ok-is_list.ensures.told (c.in_ok-inner.ensures.kept ∙ c.in_ok-is_list.ensures.entered)
    c.in_err-leave.ensures.all_selected c.in_err-leave.ensures.list_selected))

pub walk_include-returns-clause-steps : goal.walk_include-returns-clause-steps
walk_include-returns-clause-steps g t c =
    let walk = c.args.walk.now in
    let entered = c.enter.new.lists.items in
    let inner = c.in_ok-inner.inner.items in
    let after = c.walk_file.new.walk in
    let before = c.args.reached.now.items in
    let deep : c.args.depth ≡ suc (c.args.depth - 1) = omega (arith, c.if-depth-eq0.false) in
    λ files w. let h = c.in_ok-inner.ensures.leads files w in λ read x rest.
    subst (λ names. GoesOn (items_outcomes read files c.args.rules.now.root c.args.file.now c.args.depth (lists_of walk) (tree.include c.args.included c.args.names c.args.start ∷ rest) (progress_of walk) before)
    (items_outcomes read files c.args.rules.now.root c.args.file.now c.args.depth (lists_of walk) rest (progress_of after) names))
    (sym (left-reached c.args.names c.in_ok-is_list.is_list walk.lists.items after.lists.items before inner c.leave.new.reached.items c.in_ok-is_list.ensures.told (c.in_ok-inner.ensures.kept ∙ c.in_ok-is_list.ensures.entered)
    c.in_ok-leave.ensures.all_taken c.in_ok-leave.ensures.list_taken))
    (include-goes read files c.args.rules.now.root c.args.file.now (c.args.depth - 1) c.args.depth (lists_of walk) c.args.included c.args.names c.args.start rest (progress_of walk) before (walked (progress_of after) inner) deep
    (file-included (λ o. GoesOn o (λ _. Ok (walked (progress_of after) inner))) read files c.args.rules.now.root c.args.included c.in_ok-fetched.fetched (c.args.depth - 1) c.args.names walk.lists.items entered (progress_of walk)
    c.in_ok-fetched.ensures c.in_ok-is_list.ensures.entered (h read x))
    (left-selected (Ok c.in_ok-leave.field-0) c.args.file.now c.args.names c.in_ok-is_list.is_list walk.lists.items after.lists.items inner c.in_ok-is_list.ensures.told (c.in_ok-inner.ensures.kept ∙ c.in_ok-is_list.ensures.entered)
    c.in_ok-leave.ensures.all_selected c.in_ok-leave.ensures.list_selected))

-- ---- items

pub walk_item-returns-in_err-walk_include-in-Include-clause-steps : goal.walk_item-returns-in_err-walk_include-in-Include-clause-steps
walk_item-returns-in_err-walk_include-in-Include-clause-steps g t c =
    let walk = c.args.walk.now in
    let y = c.in_err-walk_include-in-Include.field-0.0 in
    λ files w. let h = c.in_err-walk_include-in-Include.ensures.steps files w in λ read x rest.
    stopped (items_outcomes read files c.args.rules.now.root c.args.file.now c.args.depth (lists_of walk) (the_item c.args.item ∷ rest) (progress_of walk) c.args.reached.now.items)
    (items_outcomes read files c.args.rules.now.root c.args.file.now c.args.depth (lists_of walk) rest (progress_of c.walk_include.new.walk) c.walk_include.new.reached.items)
    c.from_residual-in_err-walk_include-in-Include.result y c.from_residual-in_err-walk_include-in-Include.ensures.1
    (subst (λ i. EndsIn (items_outcomes read files c.args.rules.now.root c.args.file.now c.args.depth (lists_of walk) (the_item i ∷ rest) (progress_of walk) c.args.reached.now.items) y) (sym c.in-Include.is) (h read x rest))

pub walk_item-returns-in_ok-push-in-Formula-clause-read : goal.walk_item-returns-in_ok-push-in-Formula-clause-read
walk_item-returns-in_ok-push-in-Formula-clause-read g t c = λ test h i a.
    c.in_ok-pass_formula-in-Formula.ensures.read test (subst (λ item. IsTrue (item_passes test (the_item item))) c.in-Formula.is i) a

pub walk_items-returns-in_err-walk_item-clause-leads : goal.walk_items-returns-in_err-walk_item-clause-leads
walk_items-returns-in_err-walk_item-clause-leads g t c =
    let walk = c.args.walk.now in
    let l = c.loop-item in
    let y = c.in_err-walk_item.field-0.0 in
    λ files w. let p = reads_parts l.invariant.reads_on c.in_err-walk_item.ensures.reads_on w in let h = l.invariant.goes files p.0 in let k = c.in_err-walk_item.ensures.steps files p.1 in λ read x.
    led (items_outcomes read files c.args.rules.now.root c.args.file.now c.args.depth (lists_of walk) (pending_items c.args.items.items) (progress_of walk) []) c.walk_item.new.walk c.from_residual.result y c.from_residual.ensures.1
    (step-ends read files c.args.rules.now.root c.args.file.now c.args.depth (lists_of walk) (lists_of l.walk)
    (items_outcomes read files c.args.rules.now.root c.args.file.now c.args.depth (lists_of walk) (pending_items c.args.items.items) (progress_of walk) [])
    l.items.items c.pop.new.self.items c.in-Some.item (progress_of l.walk) l.reached.items y c.in-Some.ensures.items (ap (map names_of) l.invariant.kept) (h read x) (k read x (pending_items c.pop.new.self.items)))

pub walk_items-returns-clause-leads : goal.walk_items-returns-clause-leads
walk_items-returns-clause-leads g t c =
    let walk = c.args.walk.now in
    let l = c.loop-item in
    let none : l.items.items ≡ [] = no-items l.items.items (omega (arith, c.in_default.ensures.cases.0, l.items.ok.0)) in
    λ files w. let h = l.invariant.goes files w in λ read x.
    turns-end read files c.args.rules.now.root c.args.file.now c.args.depth (lists_of walk)
    (items_outcomes read files c.args.rules.now.root c.args.file.now c.args.depth (lists_of walk) (pending_items c.args.items.items) (progress_of walk) [])
    l.items.items (progress_of l.walk) l.reached.items none (h read x)

pub walk_items-loop-item-preserved : goal.walk_items-loop-item-preserved
walk_items-loop-item-preserved g t c =
    let walk = c.args.walk.now in
    let l = c.loop-item in
    let after = c.walk_item.new in
    record {
      goes = λ files w. let p = reads_parts l.invariant.reads_on c.in_ok-walk_item.ensures.reads_on w in let h = l.invariant.goes files p.0 in let k = c.in_ok-walk_item.ensures.steps files p.1 in λ read x.
          step-goes read files c.args.rules.now.root c.args.file.now c.args.depth (lists_of walk) (lists_of l.walk)
          (items_outcomes read files c.args.rules.now.root c.args.file.now c.args.depth (lists_of walk) (pending_items c.args.items.items) (progress_of walk) [])
          l.items.items c.pop.new.self.items c.in-Some.item (progress_of l.walk) (progress_of after.walk) l.reached.items after.reached.items c.in-Some.ensures.items (ap (map names_of) l.invariant.kept)
          (h read x) (k read x (pending_items c.pop.new.self.items));
      kept = search rules;
      read = λ test h i a.
          let b = l.invariant.read test h i a in
          let p = popped-pass test l.items.items c.pop.new.self.items c.in-Some.item c.in-Some.ensures.items b.0 in
          (p.1, c.in_ok-walk_item.ensures.read test h p.0 b.1);
      same_files = search rules;
      more_faults = search rules;
      more_misses = search rules;
      reads_on = reads_then l.invariant.same_files l.invariant.reads_on c.in_ok-walk_item.ensures.reads_on;
      fetches = λ files w. let p = reads_parts l.invariant.reads_on c.in_ok-walk_item.ensures.reads_on w in let h = l.invariant.goes files p.0 in let f = l.invariant.fetches files p.0 in let k = c.in_ok-walk_item.ensures.fetches files p.1 in λ read x.
          only-both (f read x)
          (only-wider (λ n. step-ends read files c.args.rules.now.root c.args.file.now c.args.depth (lists_of walk) (lists_of l.walk)
          (items_outcomes read files c.args.rules.now.root c.args.file.now c.args.depth (lists_of walk) (pending_items c.args.items.items) (progress_of walk) [])
          l.items.items c.pop.new.self.items c.in-Some.item (progress_of l.walk) l.reached.items (Failed n) c.in-Some.ensures.items (ap (map names_of) l.invariant.kept) (h read x))
          (k read x (pending_items c.pop.new.self.items)));
    }

-- ---- what was read

pub walk_file-returns-in_err-reached-clause-reads_on : goal.walk_file-returns-in_err-reached-clause-reads_on
walk_file-returns-in_err-reached-clause-reads_on g t c = reads_then c.in_ok-items.ensures.same_files c.in_ok-items.ensures.reads_on c.in_err-reached.ensures.reads_on

pub walk_file-returns-clause-reads_on : goal.walk_file-returns-clause-reads_on
walk_file-returns-clause-reads_on g t c = reads_then c.in_ok-items.ensures.same_files c.in_ok-items.ensures.reads_on c.in_ok-reached.ensures.reads_on

pub walk_items-returns-in_err-walk_item-clause-reads_on : goal.walk_items-returns-in_err-walk_item-clause-reads_on
walk_items-returns-in_err-walk_item-clause-reads_on g t c = reads_then c.loop-item.invariant.same_files c.loop-item.invariant.reads_on c.in_err-walk_item.ensures.reads_on

-- ---- which files are read

pub walk_file-returns-in_err-items-clause-fetches : goal.walk_file-returns-in_err-items-clause-fetches
walk_file-returns-in_err-items-clause-fetches g t c =
    let walk = c.args.walk.now in
    λ files w read x.
    only-wider (λ n. failed-ends read files c.args.rules.now.root c.args.name.now c.args.depth (lists_of walk) (progress_of walk) (Failed n)) c.in_err-items.ensures.fetched

pub walk_file-returns-in_err-reached-clause-fetches : goal.walk_file-returns-in_err-reached-clause-fetches
walk_file-returns-in_err-reached-clause-fetches g t c =
    let walk = c.args.walk.now in
    let opened = c.read_file.new.walk in
    let items = pending_items c.in_ok-items.items.items in
    λ files w. let p = reads_parts c.in_ok-items.ensures.reads_on c.in_err-reached.ensures.reads_on w in let h = c.in_ok-items.ensures.reading files p.0 in let k = c.in_err-reached.ensures.fetches files p.1 in λ read x.
    only-both
    (only-wider (λ n. failed-ends read files c.args.rules.now.root c.args.name.now c.args.depth (lists_of walk) (progress_of walk) (Failed n)) c.in_ok-items.ensures.fetched)
    (only-wider (λ n e. goes-ends (file_outcomes read files c.args.rules.now.root c.args.name.now c.args.depth (lists_of walk) (progress_of walk)) (items_outcomes read files c.args.rules.now.root c.args.name.now c.args.depth (lists_of walk) items (progress_of opened) [])
    (h read x c.args.rules.now.root c.args.depth (lists_of walk)) (Failed n)
    (subst (λ ls. EndsIn (items_outcomes read files c.args.rules.now.root c.args.name.now c.args.depth (map names_of ls) items (progress_of opened) []) (Failed n)) c.in_ok-items.ensures.kept e)) (k read x))

pub walk_file-returns-clause-fetches : goal.walk_file-returns-clause-fetches
walk_file-returns-clause-fetches g t c =
    let walk = c.args.walk.now in
    let opened = c.read_file.new.walk in
    let items = pending_items c.in_ok-items.items.items in
    λ files w. let p = reads_parts c.in_ok-items.ensures.reads_on c.in_ok-reached.ensures.reads_on w in let h = c.in_ok-items.ensures.reading files p.0 in let k = c.in_ok-reached.ensures.fetches files p.1 in λ read x.
    only-both
    (only-wider (λ n. failed-ends read files c.args.rules.now.root c.args.name.now c.args.depth (lists_of walk) (progress_of walk) (Failed n)) c.in_ok-items.ensures.fetched)
    (only-wider (λ n e. goes-ends (file_outcomes read files c.args.rules.now.root c.args.name.now c.args.depth (lists_of walk) (progress_of walk)) (items_outcomes read files c.args.rules.now.root c.args.name.now c.args.depth (lists_of walk) items (progress_of opened) [])
    (h read x c.args.rules.now.root c.args.depth (lists_of walk)) (Failed n)
    (subst (λ ls. EndsIn (items_outcomes read files c.args.rules.now.root c.args.name.now c.args.depth (map names_of ls) items (progress_of opened) []) (Failed n)) c.in_ok-items.ensures.kept e)) (k read x))

pub walk_include-returns-in_err-inner-clause-fetches : goal.walk_include-returns-in_err-inner-clause-fetches
walk_include-returns-in_err-inner-clause-fetches g t c =
    let walk = c.args.walk.now in
    let deep : c.args.depth ≡ suc (c.args.depth - 1) = omega (arith, c.if-depth-eq0.false) in
    λ files w. let h = c.in_err-inner.ensures.fetches files w in λ read x rest.
    only-wider (λ n e. include-ends read files c.args.rules.now.root c.args.file.now (c.args.depth - 1) c.args.depth (lists_of walk) c.args.included c.args.names c.args.start rest (progress_of walk) c.args.reached.now.items deep (Failed n)
    (file-included (λ o. EndsIn o (Failed n)) read files c.args.rules.now.root c.args.included c.in_ok-fetched.fetched (c.args.depth - 1) c.args.names walk.lists.items c.enter.new.lists.items (progress_of walk)
    c.in_ok-fetched.ensures c.in_ok-is_list.ensures.entered e)) (h read x)

pub walk_include-returns-in_err-leave-clause-fetches : goal.walk_include-returns-in_err-leave-clause-fetches
walk_include-returns-in_err-leave-clause-fetches g t c =
    let walk = c.args.walk.now in
    let deep : c.args.depth ≡ suc (c.args.depth - 1) = omega (arith, c.if-depth-eq0.false) in
    λ files w. let h = c.in_ok-inner.ensures.fetches files w in λ read x rest.
    only-wider (λ n e. include-ends read files c.args.rules.now.root c.args.file.now (c.args.depth - 1) c.args.depth (lists_of walk) c.args.included c.args.names c.args.start rest (progress_of walk) c.args.reached.now.items deep (Failed n)
    (file-included (λ o. EndsIn o (Failed n)) read files c.args.rules.now.root c.args.included c.in_ok-fetched.fetched (c.args.depth - 1) c.args.names walk.lists.items c.enter.new.lists.items (progress_of walk)
    c.in_ok-fetched.ensures c.in_ok-is_list.ensures.entered e)) (h read x)

pub walk_include-returns-clause-fetches : goal.walk_include-returns-clause-fetches
walk_include-returns-clause-fetches g t c =
    let walk = c.args.walk.now in
    let deep : c.args.depth ≡ suc (c.args.depth - 1) = omega (arith, c.if-depth-eq0.false) in
    λ files w. let h = c.in_ok-inner.ensures.fetches files w in λ read x rest.
    only-wider (λ n e. include-ends read files c.args.rules.now.root c.args.file.now (c.args.depth - 1) c.args.depth (lists_of walk) c.args.included c.args.names c.args.start rest (progress_of walk) c.args.reached.now.items deep (Failed n)
    (file-included (λ o. EndsIn o (Failed n)) read files c.args.rules.now.root c.args.included c.in_ok-fetched.fetched (c.args.depth - 1) c.args.names walk.lists.items c.enter.new.lists.items (progress_of walk)
    c.in_ok-fetched.ensures c.in_ok-is_list.ensures.entered e)) (h read x)

pub walk_items-returns-in_err-walk_item-clause-fetches : goal.walk_items-returns-in_err-walk_item-clause-fetches
walk_items-returns-in_err-walk_item-clause-fetches g t c =
    let walk = c.args.walk.now in
    let l = c.loop-item in
    λ files w. let p = reads_parts l.invariant.reads_on c.in_err-walk_item.ensures.reads_on w in let h = l.invariant.goes files p.0 in let f = l.invariant.fetches files p.0 in let k = c.in_err-walk_item.ensures.fetches files p.1 in λ read x.
    only-both (f read x)
    (only-wider (λ n. step-ends read files c.args.rules.now.root c.args.file.now c.args.depth (lists_of walk) (lists_of l.walk)
    (items_outcomes read files c.args.rules.now.root c.args.file.now c.args.depth (lists_of walk) (pending_items c.args.items.items) (progress_of walk) [])
    l.items.items c.pop.new.self.items c.in-Some.item (progress_of l.walk) l.reached.items (Failed n) c.in-Some.ensures.items (ap (map names_of) l.invariant.kept) (h read x))
    (k read x (pending_items c.pop.new.self.items)))

pub walk_item-returns-in_err-walk_include-in-Include-clause-fetches : goal.walk_item-returns-in_err-walk_include-in-Include-clause-fetches
walk_item-returns-in_err-walk_include-in-Include-clause-fetches g t c =
    let walk = c.args.walk.now in
    λ files w. let h = c.in_err-walk_include-in-Include.ensures.fetches files w in λ read x rest.
    subst (λ i. ReadsOnly (λ n. EndsIn (items_outcomes read files c.args.rules.now.root c.args.file.now c.args.depth (lists_of walk) (the_item i ∷ rest) (progress_of walk) c.args.reached.now.items) (Failed n))
    (g.L.Library.reads c.args.lib.now) (g.L.Library.reads c.walk_include.new.lib)) (sym c.in-Include.is) (h read x rest)

pub walk_item-returns-in_ok-walk_include-in-Include-clause-fetches : goal.walk_item-returns-in_ok-walk_include-in-Include-clause-fetches
walk_item-returns-in_ok-walk_include-in-Include-clause-fetches g t c =
    let walk = c.args.walk.now in
    λ files w. let h = c.in_ok-walk_include-in-Include.ensures.fetches files w in λ read x rest.
    subst (λ i. ReadsOnly (λ n. EndsIn (items_outcomes read files c.args.rules.now.root c.args.file.now c.args.depth (lists_of walk) (the_item i ∷ rest) (progress_of walk) c.args.reached.now.items) (Failed n))
    (g.L.Library.reads c.args.lib.now) (g.L.Library.reads c.walk_include.new.lib)) (sym c.in-Include.is) (h read x rest)
