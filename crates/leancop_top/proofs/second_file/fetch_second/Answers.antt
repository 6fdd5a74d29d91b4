use Rattle.std.proofs.Common.{◌∙◌, Ok, Err, subst}
use Rattle.cop_base.specs.Outside.{file_in}
use Rattle.cop_base.specs.Reads.{Answers}
use Rattle.leancop_top.proofs.Refusals.{fetched_as, missing_as, unread_as}
use Rattle.leancop_top.proofs.Opening.{second-read}
use Rattle.leancop_top.proofs.second_file.fetch_second.Goals as goal

pub returns-in-Ok-clause-fetching : goal.returns-in-Ok-clause-fetching
returns-in-Ok-clause-fetching g c = λ told w.
    fetched_as told _ _ c.in_ok-name.name c.args.name.now c.in-Ok.bytes.items (c.in_ok-name.ensures ∙ c.as_bytes.ensures.value) w c.in-Ok.ensures.answers

pub returns-in-Err-Missing-clause-fetching : goal.returns-in-Err-Missing-clause-fetching
returns-in-Err-Missing-clause-fetching g c = λ told w.
    missing_as told _ _ c.in_ok-name.name c.args.name.now (c.in_ok-name.ensures ∙ c.as_bytes.ensures.value) w
    (λ files v. subst (λ fault. Answers (file_in files c.in_ok-name.name) 18446744073709551615 (Err fault)) c.in-Err-Missing.field-0-is (c.in-Err-Missing.ensures.answers files v))

pub returns-in-Err-Failed-clause-fetching : goal.returns-in-Err-Failed-clause-fetching
returns-in-Err-Failed-clause-fetching g c = λ told w.
    unread_as told c.in_ok-name.name c.args.name.now (c.in_ok-name.ensures ∙ c.as_bytes.ensures.value)

pub returns-in-Ok-clause-reads_only : goal.returns-in-Ok-clause-reads_only
returns-in-Ok-clause-reads_only g c =
    second-read c.args.name.now c.in_ok-name.name 18446744073709551615 (Ok c.in-Ok.bytes) _ _ (c.in_ok-name.ensures ∙ c.as_bytes.ensures.value) c.in-Ok.ensures.answered

pub returns-in-Err-Missing-clause-reads_only : goal.returns-in-Err-Missing-clause-reads_only
returns-in-Err-Missing-clause-reads_only g c =
    second-read c.args.name.now c.in_ok-name.name 18446744073709551615 (Err c.in-Err-Missing.field-0) _ _ (c.in_ok-name.ensures ∙ c.as_bytes.ensures.value) c.in-Err-Missing.ensures.answered

pub returns-in-Err-Failed-clause-reads_only : goal.returns-in-Err-Failed-clause-reads_only
returns-in-Err-Failed-clause-reads_only g c =
    second-read c.args.name.now c.in_ok-name.name 18446744073709551615 (Err c.in-Err-Failed.field-0) _ _ (c.in_ok-name.ensures ∙ c.as_bytes.ensures.value) c.in-Err-Failed.ensures.answered

pub returns-in-Err-NoMemory-clause-reads_only : goal.returns-in-Err-NoMemory-clause-reads_only
returns-in-Err-NoMemory-clause-reads_only g c =
    second-read c.args.name.now c.in_ok-name.name 18446744073709551615 (Err c.in-Err-NoMemory.field-0) _ _ (c.in_ok-name.ensures ∙ c.as_bytes.ensures.value) c.in-Err-NoMemory.ensures.answered
