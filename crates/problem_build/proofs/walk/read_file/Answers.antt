use Rattle.std.proofs.Common.{◌≡◌, ◌∙◌, ◌+◌, ◌-◌, ◌≤◌, Err, length, sym, ap, subst, arith}
use Rattle.std.specs.Option.{option_map_or}
use Rattle.cop_base.specs.Outside.{file_in}
use Rattle.cop_base.specs.Reads.{Answers}
use Rattle.problem_build.specs.Walking.{pending_items, progress_of}
use Rattle.problem_build.proofs.FetchingLaws.{fetched_only}
use Rattle.problem_build.proofs.FileLaws.{failed-ends, large-ends, missing-ends, read-goes, reversed-reading, with_bytes}
use Rattle.problem_build.proofs.walk.read_file.Goals as goal

pub returns-in-Err-Missing-clause-reading : goal.returns-in-Err-Missing-clause-reading
returns-in-Err-Missing-clause-reading g c =
    λ files w read x root depth lists. missing-ends read files root c.args.name.now depth lists (progress_of c.args.walk.now)
    (subst (λ fault. Answers (file_in files c.args.name.now) (16777216 - c.args.walk.now.bytes) (Err fault)) c.in-Err-Missing.field-0-is (c.in-Err-Missing.ensures.answers files w)) c.missing.result c.missing.ensures

pub returns-in-Err-TooLarge-clause-reading : goal.returns-in-Err-TooLarge-clause-reading
returns-in-Err-TooLarge-clause-reading g c =
    λ files w read x root depth lists. large-ends read files root c.args.name.now depth lists (progress_of c.args.walk.now)
    (subst (λ fault. Answers (file_in files c.args.name.now) (16777216 - c.args.walk.now.bytes) (Err fault)) c.in-Err-TooLarge.field-0-is (c.in-Err-TooLarge.ensures.answers files w))

pub returns-in-Err-Failed-clause-reading : goal.returns-in-Err-Failed-clause-reading
returns-in-Err-Failed-clause-reading g c =
    λ files w read x root depth lists. failed-ends read files root c.args.name.now depth lists (progress_of c.args.walk.now) c.failed.result c.failed.ensures

pub returns-in-Ok-read_text-clause-reading : goal.returns-in-Ok-read_text-clause-reading
returns-in-Ok-read_text-clause-reading g c =
    let walk = c.args.walk.now in
    let bytes = c.in-Ok.bytes in
    let count : c.len.result ≡ length bytes.items = omega (arith, c.len.ensures, bytes.ok.0) in
    let within : walk.bytes + length bytes.items ≤ 16777216 = omega (arith, c.in-Ok.ensures.within, bytes.ok.0, walk.within) in
    λ files w read x root depth lists.
    read-goes c.args.rules.now.modal read x files root c.args.name.now depth lists (progress_of walk) (with_bytes (progress_of walk) c.len.result) bytes.items (pending_items c.reverse.new.self.items) (c.in-Ok.ensures.answers files w) within
    (ap (with_bytes (progress_of walk)) count)
    (reversed-reading c.args.rules.now.modal c.deref.result.now bytes.items c.in-Ok-read_text.items c.into_items-items.result.items c.reverse.new.self.items c.in-Ok-read_text.ensures.reading c.deref.ensures.value c.into_items-items.ensures c.reverse.ensures.items)

pub returns-in-Ok-read_text-clause-bytes : goal.returns-in-Ok-read_text-clause-bytes
returns-in-Ok-read_text-clause-bytes g c = λ files w.
    let bytes = c.in-Ok.bytes in
    let count : c.len.result ≡ length bytes.items = omega (arith, c.len.ensures, bytes.ok.0) in
    ap (λ n. c.args.walk.now.bytes + n) (count ∙ sym (ap (λ o. option_map_or length o 0) (c.in-Ok.ensures.answers files w)))

-- ---- which file is read

pub returns-in-Err-Missing-clause-fetched : goal.returns-in-Err-Missing-clause-fetched
returns-in-Err-Missing-clause-fetched g c = fetched_only c.args.name.now _ _ _ _ c.fetch.ensures.answered

pub returns-in-Err-Failed-clause-fetched : goal.returns-in-Err-Failed-clause-fetched
returns-in-Err-Failed-clause-fetched g c = fetched_only c.args.name.now _ _ _ _ c.fetch.ensures.answered

pub returns-in-Err-TooLarge-clause-fetched : goal.returns-in-Err-TooLarge-clause-fetched
returns-in-Err-TooLarge-clause-fetched g c = fetched_only c.args.name.now _ _ _ _ c.fetch.ensures.answered

pub returns-in-Ok-read_text-clause-fetched : goal.returns-in-Ok-read_text-clause-fetched
returns-in-Ok-read_text-clause-fetched g c = fetched_only c.args.name.now _ _ _ _ c.fetch.ensures.answered

pub returns-clause-fetched : goal.returns-clause-fetched
returns-clause-fetched g c = fetched_only c.args.name.now _ _ _ _ c.fetch.ensures.answered
