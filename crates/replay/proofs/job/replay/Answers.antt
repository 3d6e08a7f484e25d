-- The filled rows give the job that the bytes tell, and the comparison speaks of what its promise leaves.
use Rattle.replay.proofs.JobLaws.{answered}
use Rattle.replay.proofs.job.replay.Goals as goal

pub returns-clause-answered : goal.returns-clause-answered
returns-clause-answered c =
    let a = c.args in answered a.head a.given.now a.recorded.now c.widen.ensures.filled c.segment-answer.ensures.promise c.same.ensures
