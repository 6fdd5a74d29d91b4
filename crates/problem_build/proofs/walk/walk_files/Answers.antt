use Rattle.std.proofs.Common.{◌≡◌, ◌∙◌, ℕ, List, [], length, map, Ok, sym, ap, subst, refl, zero-add}
use Rattle.std.specs.Option.{option_map_or}
use Rattle.cop_base.specs.Outside.{file_in}
use Rattle.cop_base.proofs.ReadLaws.{reads_parts, reads_then}
use Rattle.problem_build.specs.declared.fault.BuildFault.TheVariants.{Failed}
use Rattle.problem_build.specs.Passing.{WalksTo, the_passed}
use Rattle.problem_build.specs.Walk.{names_of, walk, walked}
use Rattle.problem_build.specs.Walking.{EndsIn, GoesOn, file_outcomes, items_outcomes, lists_of, over, pending_items, progress_of}
use Rattle.problem_build.proofs.FetchingLaws.{only-both, only-wider}
use Rattle.problem_build.proofs.FileLaws.{failed-ends}
use Rattle.problem_build.proofs.StepLaws.{residual-is}
use Rattle.problem_build.proofs.WalkLaws.{goes-ends, goes-goes}
use Rattle.problem_build.proofs.WholeWalk.{ends-failed, ends-refused, goes-ok, main-walk, started}
use Rattle.problem_build.proofs.walk.walk_files.Goals as goal

pub returns-in_err-items-clause-walks : goal.returns-in_err-items-clause-walks
returns-in_err-items-clause-walks g c =
    let name = c.args.name.now in
    let root = c.args.root.now in
    let made = c.in_ok-root.root in
    let y = c.in_err-items.field-0.0 in
    λ files w. let h = c.in_err-items.ensures.reading files w in λ read x.
    subst (WalksTo (walk read files name root)) (sym (residual-is c.from_residual-in_err-items.result y c.from_residual-in_err-items.ensures.1))
    (ends-refused (λ omitted. walk read (over omitted files) name root) y
    (main-walk (λ o. EndsIn o y) read files name root made [] (map the_passed c.new-passed.result.items) (c.in_ok-root.ensures ∙ c.bytes.ensures) refl (ap (map the_passed) c.new-passed.ensures.items) (h read x made 16 [])))

pub returns-in_err-items-clause-fetched : goal.returns-in_err-items-clause-fetched
returns-in_err-items-clause-fetched g c = λ n e.
    let name = c.args.name.now in
    let root = c.args.root.now in
    let made = c.in_ok-root.root in
    let y = c.in_err-items.field-0.0 in
    let same = residual-is c.from_residual-in_err-items.result y c.from_residual-in_err-items.ensures.1 in
    λ files w. let h = c.in_err-items.ensures.reading files w in λ read x.
    ends-failed (λ omitted. walk read (over omitted files) name root) y n (sym same ∙ e)
    (main-walk (λ o. EndsIn o y) read files name root made [] (map the_passed c.new-passed.result.items) (c.in_ok-root.ensures ∙ c.bytes.ensures) refl (ap (map the_passed) c.new-passed.ensures.items) (h read x made 16 []))

pub returns-in_err-walk_items-clause-walks : goal.returns-in_err-walk_items-clause-walks
returns-in_err-walk_items-clause-walks g c =
    let name = c.args.name.now in
    let root = c.args.root.now in
    let made = c.in_ok-root.root in
    let opened = c.read_file.new.walk in
    let y = c.in_err-walk_items.field-0.0 in
    let lists = lists_of opened in
    let first = map the_passed c.new-passed.result.items in
    let none : lists ≡ [] = ap (map names_of) (c.in_ok-items.ensures.kept ∙ c.new-lists.ensures.items) in
    λ files w. let p = reads_parts c.in_ok-items.ensures.reads_on c.in_err-walk_items.ensures.reads_on w in let h = c.in_ok-items.ensures.reading files p.0 in let k = c.in_err-walk_items.ensures.leads files p.1 in λ read x.
    subst (WalksTo (walk read files name root)) (sym (residual-is c.from_residual-in_err-walk_items.result y c.from_residual-in_err-walk_items.ensures.1))
    (ends-refused (λ omitted. walk read (over omitted files) name root) y
    (main-walk (λ o. EndsIn o y) read files name root made lists first (c.in_ok-root.ensures ∙ c.bytes.ensures) none (ap (map the_passed) c.new-passed.ensures.items)
    (goes-ends (file_outcomes read files made name 16 lists (started first)) (items_outcomes read files made name 16 lists (pending_items c.in_ok-items.items.items) (progress_of opened) [])
    (h read x made 16 lists) y (k read x))))

pub returns-in_err-walk_items-clause-fetched : goal.returns-in_err-walk_items-clause-fetched
returns-in_err-walk_items-clause-fetched g c = λ n e.
    let name = c.args.name.now in
    let root = c.args.root.now in
    let made = c.in_ok-root.root in
    let opened = c.read_file.new.walk in
    let y = c.in_err-walk_items.field-0.0 in
    let lists = lists_of opened in
    let first = map the_passed c.new-passed.result.items in
    let none : lists ≡ [] = ap (map names_of) (c.in_ok-items.ensures.kept ∙ c.new-lists.ensures.items) in
    let same = residual-is c.from_residual-in_err-walk_items.result y c.from_residual-in_err-walk_items.ensures.1 in
    λ files w. let p = reads_parts c.in_ok-items.ensures.reads_on c.in_err-walk_items.ensures.reads_on w in let h = c.in_ok-items.ensures.reading files p.0 in let k = c.in_err-walk_items.ensures.leads files p.1 in λ read x.
    ends-failed (λ omitted. walk read (over omitted files) name root) y n (sym same ∙ e)
    (main-walk (λ o. EndsIn o y) read files name root made lists first (c.in_ok-root.ensures ∙ c.bytes.ensures) none (ap (map the_passed) c.new-passed.ensures.items)
    (goes-ends (file_outcomes read files made name 16 lists (started first)) (items_outcomes read files made name 16 lists (pending_items c.in_ok-items.items.items) (progress_of opened) [])
    (h read x made 16 lists) y (k read x)))

pub returns-clause-walks : goal.returns-clause-walks
returns-clause-walks g c =
    let name = c.args.name.now in
    let root = c.args.root.now in
    let made = c.in_ok-root.root in
    let opened = c.read_file.new.walk in
    let after = c.walk_items.new.walk in
    let lists = lists_of opened in
    let first = map the_passed c.new-passed.result.items in
    let none : lists ≡ [] = ap (map names_of) (c.in_ok-items.ensures.kept ∙ c.new-lists.ensures.items) in
    let reached = c.in_ok-walk_items.field-0.items in
    λ files w. let p = reads_parts c.in_ok-items.ensures.reads_on c.in_ok-walk_items.ensures.reads_on w in let h = c.in_ok-items.ensures.reading files p.0 in let k = c.in_ok-walk_items.ensures.leads files p.1 in λ read x. (
      walked (progress_of after) reached,
      goes-ok (λ omitted. walk read (over omitted files) name root) (walked (progress_of after) reached)
          (main-walk (λ o. GoesOn o (λ _. Ok (walked (progress_of after) reached))) read files name root made lists first (c.in_ok-root.ensures ∙ c.bytes.ensures) none (ap (map the_passed) c.new-passed.ensures.items)
          (goes-goes (file_outcomes read files made name 16 lists (started first)) (items_outcomes read files made name 16 lists (pending_items c.in_ok-items.items.items) (progress_of opened) [])
          (λ _. Ok (walked (progress_of after) reached)) (h read x made 16 lists) (k read x))),
      refl,
    )

pub returns-in_err-walk_items-clause-reads_on : goal.returns-in_err-walk_items-clause-reads_on
returns-in_err-walk_items-clause-reads_on g c = reads_then c.in_ok-items.ensures.same_files c.in_ok-items.ensures.reads_on c.in_err-walk_items.ensures.reads_on

pub returns-clause-reads_on : goal.returns-clause-reads_on
returns-clause-reads_on g c = reads_then c.in_ok-items.ensures.same_files c.in_ok-items.ensures.reads_on c.in_ok-walk_items.ensures.reads_on

pub returns-clause-length : goal.returns-clause-length
returns-clause-length g c = λ files w.
    let p = reads_parts c.in_ok-items.ensures.reads_on c.in_ok-walk_items.ensures.reads_on w in
    sym (c.in_ok-items.ensures.bytes files p.0 ∙ zero-add (option_map_or length (file_in files c.args.name.now) 0))

pub returns-in_err-items-clause-fetches : goal.returns-in_err-items-clause-fetches
returns-in_err-items-clause-fetches g c =
    let name = c.args.name.now in
    let root = c.args.root.now in
    let made = c.in_ok-root.root in
    let first = map the_passed c.new-passed.result.items in
    λ files w read x.
    only-wider (λ n e. main-walk (λ o. EndsIn o (Failed n)) read files name root made [] (map the_passed c.new-passed.result.items) (c.in_ok-root.ensures ∙ c.bytes.ensures) refl (ap (map the_passed) c.new-passed.ensures.items)
    (failed-ends read files made name 16 [] (started first) (Failed n) e)) c.in_err-items.ensures.fetched

pub returns-in_err-walk_items-clause-fetches : goal.returns-in_err-walk_items-clause-fetches
returns-in_err-walk_items-clause-fetches g c =
    let name = c.args.name.now in
    let root = c.args.root.now in
    let made = c.in_ok-root.root in
    let opened = c.read_file.new.walk in
    let lists = lists_of opened in
    let first = map the_passed c.new-passed.result.items in
    let none : lists ≡ [] = ap (map names_of) (c.in_ok-items.ensures.kept ∙ c.new-lists.ensures.items) in
    λ files w. let p = reads_parts c.in_ok-items.ensures.reads_on c.in_err-walk_items.ensures.reads_on w in let h = c.in_ok-items.ensures.reading files p.0 in let k = c.in_err-walk_items.ensures.fetches files p.1 in λ read x.
    let whole = λ (n : List ℕ) (e : EndsIn (file_outcomes read files made name 16 lists (started first)) (Failed n)).
    main-walk (λ o. EndsIn o (Failed n)) read files name root made lists (map the_passed c.new-passed.result.items) (c.in_ok-root.ensures ∙ c.bytes.ensures) none (ap (map the_passed) c.new-passed.ensures.items) e in
    only-both
    (only-wider (λ n e. whole n (failed-ends read files made name 16 lists (started first) (Failed n) e)) c.in_ok-items.ensures.fetched)
    (only-wider (λ n e. whole n (goes-ends (file_outcomes read files made name 16 lists (started first)) (items_outcomes read files made name 16 lists (pending_items c.in_ok-items.items.items) (progress_of opened) [])
    (h read x made 16 lists) (Failed n) e)) (k read x))

pub returns-clause-fetches : goal.returns-clause-fetches
returns-clause-fetches g c =
    let name = c.args.name.now in
    let root = c.args.root.now in
    let made = c.in_ok-root.root in
    let opened = c.read_file.new.walk in
    let lists = lists_of opened in
    let first = map the_passed c.new-passed.result.items in
    let none : lists ≡ [] = ap (map names_of) (c.in_ok-items.ensures.kept ∙ c.new-lists.ensures.items) in
    λ files w. let p = reads_parts c.in_ok-items.ensures.reads_on c.in_ok-walk_items.ensures.reads_on w in let h = c.in_ok-items.ensures.reading files p.0 in let k = c.in_ok-walk_items.ensures.fetches files p.1 in λ read x.
    let whole = λ (n : List ℕ) (e : EndsIn (file_outcomes read files made name 16 lists (started first)) (Failed n)).
    main-walk (λ o. EndsIn o (Failed n)) read files name root made lists (map the_passed c.new-passed.result.items) (c.in_ok-root.ensures ∙ c.bytes.ensures) none (ap (map the_passed) c.new-passed.ensures.items) e in
    only-both
    (only-wider (λ n e. whole n (failed-ends read files made name 16 lists (started first) (Failed n) e)) c.in_ok-items.ensures.fetched)
    (only-wider (λ n e. whole n (goes-ends (file_outcomes read files made name 16 lists (started first)) (items_outcomes read files made name 16 lists (pending_items c.in_ok-items.items.items) (progress_of opened) [])
    (h read x made 16 lists) (Failed n) e)) (k read x))
