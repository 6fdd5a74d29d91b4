use Rattle.std.proofs.Common.{subst, sym}
use Rattle.std.specs.Prelude.{IfOk}
use Rattle.leancop_top.proofs.Ends.{line-counted}
use Rattle.leancop_top.proofs.Leading.{for-file, on-told}
use Rattle.leancop_top.specs.SecondFile.{HasBytes}
use Rattle.leancop_top.specs.Tasks.{IsReady, IsTaskCounted, Replies}
use Rattle.leancop_top.proofs.performing.perform.Goals as goal

pub line_reply-requires : goal.line_reply-requires
line_reply-requires c = subst IsReady c.in-Tell.is c.requires

pub on_file-requires : goal.on_file-requires
on_file-requires c = subst IsReady c.in-OnFile.is c.requires

pub returns-in-Tell-clause-replies : goal.returns-in-Tell-clause-replies
returns-in-Tell-clause-replies c =
    subst (λ t. IfOk c.line_reply.result (λ r. Replies t r.status r.output.items)) (sym c.in-Tell.is)
    (on-told c.in-Tell.status c.line_reply.result c.line_reply.ensures.same c.line_reply.ensures.line)

pub returns-in-Tell-clause-counted : goal.returns-in-Tell-clause-counted
returns-in-Tell-clause-counted c = λ m n f g after h.
    line-counted m n f g after _ c.line_reply.result c.line_reply.ensures.same (subst (IsTaskCounted m n f g after) c.in-Tell.is h)

pub returns-in-Make-clause-replies : goal.returns-in-Make-clause-replies
returns-in-Make-clause-replies c =
    subst (λ t. IfOk c.make.result (λ r. Replies t r.status r.output.items)) (sym c.in-Make.is) c.make.ensures.ends

pub returns-in-OnProblem-clause-replies : goal.returns-in-OnProblem-clause-replies
returns-in-OnProblem-clause-replies c =
    subst (λ t. IfOk c.on_problem.result (λ r. Replies t r.status r.output.items)) (sym c.in-OnProblem.is) c.on_problem.ensures.ends

pub returns-in-OnFile-clause-replies : goal.returns-in-OnFile-clause-replies
returns-in-OnFile-clause-replies c =
    subst (λ t. IfOk c.on_file.result (λ r. Replies t r.status r.output.items)) (sym c.in-OnFile.is)
    (for-file c.in-OnFile.task c.in-OnFile.problem c.in-OnFile.bytes c.on_file.result
    (λ told name held. c.on_file.ensures.ends told name (subst (HasBytes told name) (sym c.as_slice.ensures.value) held)))
