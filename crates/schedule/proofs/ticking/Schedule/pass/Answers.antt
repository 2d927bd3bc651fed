use Rattle.schedule.proofs.ticking.Schedule.pass.Goals as goal

pub returns-in-None-clause-passed : goal.returns-in-None-clause-passed
returns-in-None-clause-passed g c = rw c.in-None.is (c.idle.ensures.passed _ (g.M.DelayModel.marks c.args.model.now))
