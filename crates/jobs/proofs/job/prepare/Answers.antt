use Rattle.jobs.proofs.job.prepare.Goals as goal

pub returns-in-Count-clause-ready : goal.returns-in-Count-clause-ready
returns-in-Count-clause-ready c = rw c.in-Count.is (c.count_job.ensures.ready c.in-Count.notices)

pub returns-in-Pick-clause-ready : goal.returns-in-Pick-clause-ready
returns-in-Pick-clause-ready c = rw c.in-Pick.is (c.pick_job.ensures.ready c.in-Pick.hints)

pub returns-in-Show-clause-ready : goal.returns-in-Show-clause-ready
returns-in-Show-clause-ready c = rw c.in-Show.is (c.show_job.ensures.ready c.in-Show.hints)
