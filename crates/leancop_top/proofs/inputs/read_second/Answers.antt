use Rattle.std.proofs.Common.{subst}
use Rattle.leancop_top.proofs.Ends.{fetch-tells}
use Rattle.leancop_top.proofs.Leading.{on-file, telling, unfetched}
use Rattle.leancop_top.specs.SecondFile.{IsFetching}
use Rattle.leancop_top.specs.Tasks.{FileTaskEnds}
use Rattle.leancop_top.proofs.inputs.read_second.Goals as goal

pub returns-in-Fetched-clause-leads : goal.returns-in-Fetched-clause-leads
returns-in-Fetched-clause-leads g c = λ told w.
    on-file told c.args.problem c.args.name.now c.args.task c.in-Fetched.bytes (subst (IsFetching told c.args.name.now) c.in-Fetched.is (c.in_ok-bytes.ensures.fetching told w))

pub returns-in-NotFetched-clause-leads : goal.returns-in-NotFetched-clause-leads
returns-in-NotFetched-clause-leads g c = λ told w.
    let s = c.in-NotFetched.status in
    telling (FileTaskEnds c.args.task told c.args.problem c.args.name.now) s
    (unfetched told c.args.problem c.args.name.now c.args.task s (subst (IsFetching told c.args.name.now) c.in-NotFetched.is (c.in_ok-bytes.ensures.fetching told w)))

pub returns-in-NotFetched-clause-ready : goal.returns-in-NotFetched-clause-ready
returns-in-NotFetched-clause-ready g c =
    let told = g.L.Library.holds c.args.lib.now in
    fetch-tells told c.args.name.now c.in-NotFetched.status (subst (IsFetching told c.args.name.now) c.in-NotFetched.is (c.in_ok-bytes.ensures.fetching told c.in_ok-bytes.ensures.reads_on))
