use Rattle.std.proofs.Common.{subst}
use Rattle.leancop_top.proofs.Decisions.{decided, on-answer}
use Rattle.leancop_top.proofs.Ends.{no_want_of_memory, no_write_fault}
use Rattle.leancop_top.specs.Run.{Decides}
use Rattle.command_line.specs.CommandLine.{asked}
use Rattle.leancop_top.proofs.Opening.{asked-read}
use Rattle.source_theory.proofs.FollowingLaws.{means_items}
use Rattle.leancop_top.proofs.program.run.Goals as goal

pub returns-in-Ok-put_all-clause-write_fault : goal.returns-in-Ok-put_all-clause-write_fault
returns-in-Ok-put_all-clause-write_fault g c = λ e. absurd (no_write_fault c.in-Ok.reply.status c.in-Ok.reply.tells e)

pub returns-in-Ok-put_all-clause-no_memory : goal.returns-in-Ok-put_all-clause-no_memory
returns-in-Ok-put_all-clause-no_memory g c = λ e. absurd (no_want_of_memory c.in-Ok.reply.status c.in-Ok.reply.tells e)

pub returns-in-Ok-put_all-clause-agreeing_decided : goal.returns-in-Ok-put_all-clause-agreeing_decided
returns-in-Ok-put_all-clause-agreeing_decided g c = λ told w quiet.
    on-answer _ c.in-Ok.reply.status
    (subst (λ ws. Decides told (asked ws) c.in-Ok.reply.status) c.as_slice.ensures.value
    (decided told (asked c.as_slice.result.now) c.in-Ok.reply.status c.in-Ok.reply.output.items _ _ _ _ _ (c.in-Ok.ensures.ends told w) c.in-Ok.ensures.counted quiet))

pub returns-in-Ok-put_all-clause-reads_only : goal.returns-in-Ok-put_all-clause-reads_only
returns-in-Ok-put_all-clause-reads_only g c = λ files w. asked-read files c.as_slice.result.now _ c.as_slice.ensures.value (c.in-Ok.ensures.reads_only files w)

pub returns-in-Ok-put_all-clause-means_items : goal.returns-in-Ok-put_all-clause-means_items
returns-in-Ok-put_all-clause-means_items g c = λ files name root setting P fits h. means_items files name root setting P fits h

pub returns-in-Err-put_all-clause-reads_only : goal.returns-in-Err-put_all-clause-reads_only
returns-in-Err-put_all-clause-reads_only g c = λ files w. asked-read files c.as_slice.result.now _ c.as_slice.ensures.value (c.in-Ok.ensures.reads_only files w)

pub returns-in-Err-put_all-clause-means_items : goal.returns-in-Err-put_all-clause-means_items
returns-in-Err-put_all-clause-means_items g c = λ files name root setting P fits h. means_items files name root setting P fits h

pub returns-in-Err-clause-reads_only : goal.returns-in-Err-clause-reads_only
returns-in-Err-clause-reads_only g c = λ files w. asked-read files c.as_slice.result.now _ c.as_slice.ensures.value (c.in-Err.ensures.reads_only files w)

pub returns-in-Err-clause-means_items : goal.returns-in-Err-clause-means_items
returns-in-Err-clause-means_items g c = λ files name root setting P fits h. means_items files name root setting P fits h
